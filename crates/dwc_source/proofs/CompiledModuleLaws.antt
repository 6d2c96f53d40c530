-- What a module tells of one of its functions.
use Rattle.std.proofs.Common.{◌≡◌, ℕ, ◌-◌, sym, ap, ◌∙◌, List, [], slice_get, Option, Some, option_map}
use Rattle.std.specs.Prelude.{unwrap_or}
use Rattle.std.specs.FinMap as finite
use Rattle.std.proofs.lemmas.Option.{slice_get-map}
use Rattle.dwc_native.specs.Compiled.{LabelRange}
use Rattle.dwc_native.specs.Functions.{Function}
use Rattle.dwc_native.specs.Placed.{Frame}
use Rattle.dwc_rules.specs.LocationRules.{frame_told}
use Rattle.dwc_isa.specs.Registers.{Registers}
use Rattle.dwc_addr.specs.Numbers.{Compiled}
use Rattle.dwc_isa.specs.ToldModules.{memory_view}
use Rattle.dwc_source.specs.declared.compiled_module.CompiledModule.{CompiledModule}
use Rattle.dwc_source.specs.CompiledModules.{ranges_of, told_by, values_in}

-- What a function of a number tells is what the module tells of it.
pub told-frame : (registers : Registers) (m : CompiledModule) (f : Function) (number : ℕ) (x : Compiled) → f.number ≡ number → f.symbol ≡ Some number → slice_get m.functions.now (number - m.first_number) ≡ Some x
    → ◌≡◌ {A = Option Frame} (Some (record { function = Some number; ranges_of = ranges_of (x.1).value_labels_ranges; memory = memory_view m.memory })) (Some (frame_told (told_by registers m) f))
told-frame registers m f number x named symbol at =
    let F : Option ℕ → (ℕ → List LabelRange) → Option Frame = λ o ranges. Some (record { function = o; ranges_of = ranges; memory = memory_view m.memory }) in
    let place = number - m.first_number in
    let there = slice_get-map (λ (y : Compiled). λ label. ranges_of (y.1).value_labels_ranges label) m.functions.now place in
    ap (λ o. F o (ranges_of (x.1).value_labels_ranges)) (sym symbol)
    ∙ ap (λ o. F f.symbol (unwrap_or (option_map (λ (y : Compiled). λ label. ranges_of (y.1).value_labels_ranges label) o) (λ label. []))) (sym at)
    ∙ ap (λ o. F f.symbol (unwrap_or o (λ label. []))) (sym there)
    ∙ ap (λ n. F f.symbol (unwrap_or (slice_get (values_in m.functions.now) (n - m.first_number)) (λ label. []))) (sym named)

-- The labels of a function of a number are those that the module tells of it.
pub told-labels : (registers : Registers) (m : CompiledModule) (number : ℕ) (x : Compiled) → slice_get m.functions.now (number - m.first_number) ≡ Some x → finite.keys (x.1).value_labels_ranges ≡ (told_by registers m).labels number
told-labels registers m number x at =
    ap (λ o. unwrap_or (option_map (λ (y : Compiled). finite.keys (y.1).value_labels_ranges) o) []) (sym at)
    ∙ ap (λ o. unwrap_or o []) (sym (slice_get-map (λ (y : Compiled). finite.keys (y.1).value_labels_ranges) m.functions.now (number - m.first_number)))
