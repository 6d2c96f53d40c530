-- What built expressions mean. (Laws on the definitions.)
use Rattle.std.specs.Prelude.{◌≡◌, ℕ, ◌⊎◌, List, [], ◌∷◌, true, Option, Some, None, Ok}
use Rattle.std.specs.List.{AllZip}
use Rattle.dwc_dwarf.specs.Values.{is_one_of}
use Rattle.dwc_dwarf.specs.Trees.{Location}
use Rattle.dwc_dwarf.specs.Operations.{operations}
use Rattle.dwc_native.specs.Runs.{interval_of}
use Rattle.dwc_native.specs.Parts.{CompiledParts, label_alone, single_code}
use Rattle.dwc_native.specs.Placed.{placed, built_parts, NativeRange, scope_ranges}
use Rattle.dwc_native.specs.Built.{location_bytes}
use Rattle.dwc_native.specs.BuiltExpressions.{Surroundings, setting_at, ranges_built, BuiltExpressions, built_over, IsBounded}
use Rattle.dwc_machines.specs.NativeStates.{NativeState}
use Rattle.dwc_machines.specs.WasmMachine.{WasmState}
use Rattle.dwc_expr.specs.RunsAlike.{RunsAlike}
use Rattle.dwc_expr.specs.WholeParts.{IsWhole}
use Rattle.dwc_expr.specs.MeaningPremises.{HasMeaning}
use Rattle.dwc_expr.specs.KeepsMeaning.{KeepsMeaning}

-- On a range, in each moment with addresses of 4 or 8 bytes, bytes run as parts with the places of the range.
abbrev pub RunsOn : Surroundings → CompiledParts → NativeRange → List ℕ → Type 0
RunsOn s x r built = (n : NativeState) → is_one_of (4 ∷ 8 ∷ []) n.pointer_bytes ≡ true → RunsAlike n (setting_at s r) (built_parts x) built

-- And they keep the meaning that each expression which compiles to the parts has in WebAssembly, where it has one.
abbrev pub KeepsOn : Surroundings → CompiledParts → NativeRange → List ℕ → Type 0
KeepsOn s x r built =
    (n : NativeState) (w : WasmState) (base : Option CompiledParts) (bytes : List ℕ) → (m : HasMeaning n (setting_at s r) w base bytes x) → KeepsMeaning n (setting_at s r) w base (operations bytes).items x m.result built

-- Or the parts are the place of one label, and the bytes tell the register or the address where it lies on the range.
pub record IsPlaceOn (s : Surroundings) (x : CompiledParts) (r : NativeRange) (built : List ℕ) : Type 0 where
  pub label : ℕ
  pub alone : x ≡ label_alone label
  pub place : built ≡ location_bytes (setting_at s r) (placed s.frame r.function r.start label)

-- What bytes on a range mean.
abbrev pub MeansOn : Surroundings → CompiledParts → NativeRange → List ℕ → Type 0
MeansOn s x r built = (RunsOn s x r built × KeepsOn s x r built) ⊎ IsPlaceOn s x r built

-- the ranges on which parts become bytes: each native range of the scope for parts that are bytes alone, and those on which
-- their values lie at unchanged places for all others
abbrev pub ranges_meant : Surroundings → List (ℕ × ℕ) → CompiledParts → List NativeRange
ranges_meant s scope x = elim (single_code x.parts) [ Some bytes ↦ scope_ranges s.functions scope | None ↦ ranges_built s (scope_ranges s.functions scope) x ]

-- What is built over a scope is one expression for each of these ranges, in order, and it means there what it should.
abbrev pub BuiltMean : Surroundings → List (ℕ × ℕ) → CompiledParts → BuiltExpressions → Type 0
BuiltMean s scope x built = AllZip (λ r (e : Location). (e.over ≡ interval_of r.function (r.start, r.end)) × MeansOn s x r e.bytes) (ranges_meant s scope x) built.expressions

-- The law: what is built of whole parts means what it should, where what is told is bounded.
abbrev pub BuiltExpressionsMean : Type 0
BuiltExpressionsMean = (s : Surroundings) (scope : List (ℕ × ℕ)) (x : CompiledParts) (built : BuiltExpressions) → IsBounded s → IsWhole x → built_over s scope x ≡ Ok built → BuiltMean s scope x built
