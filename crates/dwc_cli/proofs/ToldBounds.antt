-- What is told of the modules of an input that is read is bounded.
use Rattle.std.proofs.Common.{◌≡◌, ℕ, zero, suc, ◌-◌, ◌+◌, List, [], ◌∷◌, map, length, Option, Some, None, Bool, true, false, refl, subst}
use Rattle.std.specs.Prelude.{All, slice_get, unwrap_or, if◌then◌else◌}
use Rattle.std.specs.FinMap as finite
use Rattle.std.specs.Option.{option_or}
use Rattle.std.specs.Result.{result_ok}
use Rattle.std.proofs.lemmas.List.Elements.{All-nil, All-cons, All-head, All-tail}
use Rattle.serde_json.specs.Read.{read}
use Rattle.dwc_base.specs.declared.records.OutputFor.{OutputFor}
use Rattle.dwc_base.specs.Wasm.{WasmModule}
use Rattle.dwc_native.specs.Compiled.{Place, LabelRange, LinkageNames}
use Rattle.dwc_native.specs.Placed.{is_between, last_place}
use Rattle.dwc_native.specs.BuiltExpressions.{IsBoundedPlace}
use Rattle.dwc_isa.specs.Registers.{Registers}
use Rattle.dwc_map.specs.MapFile.{MapFunction, MapModule, map_of_bytes}
use Rattle.dwc_carry.specs.MeaningsCarried.{IsToldBounded}
use Rattle.dwc_cli.specs.Inputs as inputs
use Rattle.dwc_cli.specs.Inputs.{Input, Loaded, loaded, compilation_of, defined_counts, ranges_of, names_of, wasm_modules}
use Rattle.dwc_cli.proofs.Options.{same_some, bind-some}
use Rattle.dwc_rules.specs.Carried.{Module}
use Rattle.dwc_cli.proofs.ReadKinds.{HoldsIn}
use Rattle.dwc_cli.proofs.MapBounds.{IsBoundedRange, IsBoundedFunction, IsRegister, IsBoundedModule, map-bounded}

ranges-bounded : (f : MapFunction) (label : ℕ) → IsBoundedFunction f → All IsBoundedRange (ranges_of f label)
ranges-bounded f label b = go (finite.get f.labels label) refl
  where
    go : (o : Option (List LabelRange)) → finite.get f.labels label ≡ o → All IsBoundedRange (unwrap_or o [])
    go None at = All-nil IsBoundedRange
    go (Some rs) at = b label rs at

values-bounded : (fs : List MapFunction) (k label : ℕ) → All IsBoundedFunction fs → All IsBoundedRange (unwrap_or (slice_get (map ranges_of fs) k) (λ label. []) label)
values-bounded [] k label all = All-nil IsBoundedRange
values-bounded (f ∷ fs) zero label all = ranges-bounded f label (All-head IsBoundedFunction f fs all)
values-bounded (f ∷ fs) (suc k) label all = values-bounded fs k label (All-tail IsBoundedFunction f fs all)

last-bounded : (rs : List LabelRange) (byte : ℕ) (p : Place) → All IsBoundedRange rs → last_place rs byte ≡ Some p → IsBoundedPlace p
last-bounded [] byte p all e = absurd (cc)
last-bounded (r ∷ rs) byte p all e = go (last_place rs byte) (is_between r.start r.end byte) (last-bounded rs byte p (All-tail IsBoundedRange r rs all)) e
  where
    go : (o : Option Place) (b : Bool) → (o ≡ Some p → IsBoundedPlace p) → option_or o (if b then Some r.place else None) ≡ Some p → IsBoundedPlace p
    go (Some q) b later e = later e
    go None true later e = subst IsBoundedPlace (same_some r.place p e) (All-head IsBoundedRange r rs all)
    go None false later e = absurd (cc)

module _ (output : OutputFor) (version : ℕ) (registers : Registers) (names : LinkageNames) (numbers : HoldsIn IsRegister registers) where
  module-told : (place first : ℕ) (m : MapModule) → IsBoundedModule m → IsToldBounded (inputs.told_of output registers names place first m)
  module-told place first m b = record {
    registers = λ r n at. numbers r n at;
    places = λ function label byte p at. last-bounded (unwrap_or (slice_get (map ranges_of m.functions) (function - first)) (λ l. []) label) byte p (values-bounded m.functions (function - first) label b.functions) at;
    memory = b.memory;
  }

  modules-told : (place first : ℕ) (ws : List WasmModule) (ms : List MapModule) → All IsBoundedModule ms → All (λ (m : Module). IsToldBounded m.told) (inputs.modules_of output version registers names place first ws ms)
  modules-told place first [] ms all = All-nil (λ (m : Module). IsToldBounded m.told)
  modules-told place first (w ∷ ws) [] all = All-nil (λ (m : Module). IsToldBounded m.told)
  modules-told place first (w ∷ ws) (m ∷ ms) all =
      All-cons (λ (m : Module). IsToldBounded m.told) _ (inputs.modules_of output version registers names (suc place) (first + length m.functions) ws ms) (module-told place first m (All-head IsBoundedModule m ms all))
      (modules-told (suc place) (first + length m.functions) ws ms (All-tail IsBoundedModule m ms all))

-- of what some files hold
pub told-bounded : (input : Input) (read : Loaded) → loaded input ≡ Some read → All (λ (m : Module). IsToldBounded m.told) (compilation_of read).modules
unfolding loaded
told-bounded input read e =
    let ws = bind-some (result_ok (wasm_modules input.modules)) _ read e in
    let m = bind-some (map_of_bytes (defined_counts ws.0) input.map_bytes) _ read ws.2 in
    let whole : Loaded = record { wasm = ws.0; map_file = m.0 } in
    let bounded = map-bounded (defined_counts ws.0) input.map_bytes m.0 m.1 in
    subst (λ (r : Loaded). All (λ (x : Module). IsToldBounded x.told) (compilation_of r).modules) (same_some whole read m.2)
    (modules-told m.0.target.output m.0.target.version m.0.target.registers (names_of m.0) bounded.registers 0 0 ws.0 m.0.modules bounded.modules)
