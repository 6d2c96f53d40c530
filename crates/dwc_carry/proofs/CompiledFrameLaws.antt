-- The frame descriptions that are told of a module are those of its compiled functions.
use Rattle.std.proofs.Common.{◌≡◌, ℕ, suc, ◌+◌, ◌-◌, refl, ap, ap₂, ◌∙◌, subst, arith, List, [], ◌∷◌, map, Option, Some, None, slice_get, option_map}
use Rattle.std.specs.Option.{unwrap_or}
use Rattle.std.specs.List.{cons_option}
use Rattle.std.proofs.lemmas.Option.{slice_get-map}
use Rattle.dwc_base.specs.declared.records.OutputFor.{OutputFor}
use Rattle.dwc_native.specs.CallFrames.{FrameDescription}
use Rattle.dwc_native.specs.Compiled.{frames_from}
use Rattle.dwc_native.specs.Functions.{function_of, functions_of}
use Rattle.dwc_output.specs.FramesCarried.{description_of, descriptions}
use Rattle.dwc_compiled.specs.AddressMaps.{address_map_view}
use Rattle.dwc_compiled.specs.FunctionFrames.{description_of_metadata}
use Rattle.dwc_addr.specs.Numbers.{Compiled}
use Rattle.dwc_carry.specs.CompiledFrames.{described, compiled_frames}

-- the descriptions of functions, of which the first has a number, are told
abbrev TellsFrom : (ℕ → Option FrameDescription) → ℕ → List Compiled → Type 0
TellsFrom told number fs = (i : ℕ) (f : Compiled) → slice_get fs i ≡ Some f → told (number + i) ≡ description_of_metadata f.1

-- and so those of the functions behind the first
tells-behind : (told : ℕ → Option FrameDescription) (number : ℕ) (f : Compiled) (fs : List Compiled) → TellsFrom told number (f ∷ fs) → TellsFrom told (number + 1) fs
tells-behind told number f fs tells = λ i g at.
    let next : number + suc i ≡ number + 1 + i = omega arith in
    subst (λ n. told n ≡ description_of_metadata g.1) next (tells (suc i) g at)

-- a function
one : (output : OutputFor) (told : ℕ → Option FrameDescription) (code_offset number : ℕ) (f : Compiled) → told number ≡ description_of_metadata f.1
    → description_of told (function_of output code_offset number (address_map_view f)) ≡ described number f
one output told code_offset number (None, m) is = refl
one output told code_offset number (Some s, m) is = ap (option_map (λ d. (number, d))) is

-- functions
told-frames : (output : OutputFor) (told : ℕ → Option FrameDescription) (code_offset number : ℕ) (fs : List Compiled) → TellsFrom told number fs
    → descriptions told (functions_of output code_offset number (map address_map_view fs)) ≡ compiled_frames number fs
told-frames output told code_offset number [] tells = refl
told-frames output told code_offset number (f ∷ fs) tells =
    let same : number + 0 ≡ number = omega arith in
    let here : told number ≡ description_of_metadata f.1 = subst (λ n. told n ≡ description_of_metadata f.1) same (tells 0 f refl) in
    ap₂ cons_option (one output told code_offset number f here) (told-frames output told code_offset (number + 1) fs (tells-behind told number f fs tells))

-- what is told of functions by their numbers, from the number of the first on
tells-from : (number : ℕ) (fs : List Compiled) → TellsFrom (frames_from number (map (λ f. description_of_metadata f.1) fs)) number fs
tells-from number fs = λ i f at.
    let same : number + i - number ≡ i = omega arith in
    ap (λ k. unwrap_or (slice_get (map (λ g. description_of_metadata g.1) fs) k) None) same
    ∙ ap (λ o. unwrap_or o None) (slice_get-map (λ g. description_of_metadata g.1) fs i ∙ ap (option_map (λ g. description_of_metadata g.1)) at)

-- The descriptions that are told of a module's functions, of which the first has a number, are those that are compiled.
pub module-frames : (output : OutputFor) (number code_offset : ℕ) (fs : List Compiled)
    → descriptions (frames_from number (map (λ f. description_of_metadata f.1) fs)) (functions_of output code_offset number (map address_map_view fs)) ≡ compiled_frames number fs
module-frames output number code_offset fs = told-frames output (frames_from number (map (λ f. description_of_metadata f.1) fs)) code_offset number fs (tells-from number fs)
