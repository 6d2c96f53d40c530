-- A module, function by function.
use Rattle.std.proofs.Common.{◌≡◌, ℕ, ◌+◌, add-one, arith, ◌<◌, ◌≤◌, refl, sym, ap, subst, ◌∙◌, List, [], ◌∷◌, ◌++◌, drop, get_or, length, map, cond, Bool, true, false, Option, Some, None, Result, Ok, Err, All}
use Rattle.std.specs.Prelude.{◌&&◌, not, is_some, option_map, slice_get, IfSome}
use Rattle.std.specs.List.{flat_map}
use Rattle.std.specs.Option.{unwrap_or}
use Rattle.std.proofs.lemmas.List.{drop_all, drop_more, length-map}
use Rattle.std.proofs.lemmas.List.Elements.{All-get_or}
use Rattle.std.proofs.lemmas.Option.{get_or_from_slice_get, slice_get-get_or, slice_get-map, slice_get_within}
use Rattle.dwc_base.specs.declared.translation.ModuleTranslation.{ModuleTranslation}
use Rattle.dwc_rules.specs.Carried.{Module}
use Rattle.dwc_native.specs.Compiled.{ToldModule}
use Rattle.dwc_carried.specs.DefinedFunctions.{DefinedFunction, types_at}
use Rattle.dwc_rules.specs.Drafts.{Draft}
use Rattle.dwc_native.specs.Functions.{Function, Recorded}
use Rattle.dwc_carried.specs.SimulatedFunctions.{defined_from, is_simulated, simulated_among, simulated_functions}
use Rattle.dwc_rules.specs.LocationRules.{frame_told}
use Rattle.dwc_rules.specs.Refusals.{Refusal}
use Rattle.dwc_rules.specs.Scopes.{source_end}
use Rattle.dwc_base.specs.Listing.{first_of}
use Rattle.dwc_carried.specs.SimulatedUnit.{first_source, function_entries, function_index, function_name, variable_refusals}
use Rattle.dwc_base.specs.ToldFiles.{ToldFile}
use Rattle.dwc_base.specs.TranslationNames.{told_file}
use Rattle.dwc_dwarf.specs.Trees.{TreeValue}
use Rattle.dwc_isa.specs.Registers.{Registers}
use Rattle.dwc_addr.specs.declared.address_map.AddressMap.{AddressMap}
use Rattle.dwc_addr.specs.declared.function_map.FunctionMap.{FunctionMap}
use Rattle.dwc_addr.specs.Runs.{recorded_view}
use Rattle.dwc_addr.specs.Transforms.{function_view}
use Rattle.dwc_addr.proofs.EntryLaws.{recorded-merged}
use Rattle.dwc_expr.specs.Frames.{frame_view}
use Rattle.dwc_unit.specs.declared.strings.StringId.{StringId}
use Rattle.dwc_unit.specs.AddedInOrder.{with_entry}
use Rattle.dwc_unit.specs.GivenUnits.{GivenUnit}
use Rattle.dwc_source.specs.CompiledModules.{AreNumberedFrom, told_by}
use Rattle.dwc_source.specs.KnownTexts.{IsNumbered}
use Rattle.dwc_source.specs.MadeValues.{Grows}
use Rattle.dwc_carry.specs.declared.error.DebugError.{DebugError}
use Rattle.dwc_carry.specs.declared.simulated_functions.SimulatedModule.{SimulatedModule}
use Rattle.dwc_carry.specs.declared.simulated_variables.SimulatedFunction.{SimulatedFunction}
use Rattle.dwc_carry.specs.SimulatedModules.{GivesFunction, IsSimulatedModule, LeftFunctions, simulated_from}
use Rattle.dwc_carry.specs.SimulatedVariables.{GivesVariables, IsSimulatedFunction, label_refusals}
use Rattle.dwc_carry.specs.SyntheticUnits.{reference_meant}
use Rattle.dwc_carry.specs.Refusals.{ReadsOr, RefusesReading, in_reading}
use Rattle.dwc_carry.specs.SimulatedAdditions.{subprogram_addition}
use Rattle.dwc_carry.specs.SimulatedDrafts.{HasFunctions, HasVariables, IsSimulated}
use Rattle.dwc_carry.proofs.RefusalLaws.{first-behind, no-first, reading-more, unmapped}
use Rattle.dwc_carry.proofs.SimulatedSteps.{functions-more, variables-begun, variables-done}
use Rattle.dwc_carry.proofs.VariableLaws.{refusals-by-label}

-- ---- functions as they are kept

same-some : {A : Type 0} (x y : A) → ◌≡◌ {A = Option A} (Some x) (Some y) → y ≡ x
same-some {A} x y is = sym (ap (λ (o : Option A). unwrap_or o x) is)

first-among : (es : List AddressMap) (start : ℕ) → unwrap_or (option_map (λ (e : AddressMap). e.wasm) (slice_get es 0)) start ≡ unwrap_or (option_map (λ (e : Recorded). e.wasm) (first_of (map recorded_view es))) start
first-among [] start = refl
first-among (e ∷ es) start = refl

-- the first source of a function as it is kept is that of the first recorded source, if there is one
first-kept : (f : FunctionMap) → unwrap_or (option_map (λ (e : AddressMap). e.wasm) (slice_get f.addresses 0)) f.wasm_start ≡ first_source (function_view f)
first-kept f = first-among f.addresses f.wasm_start ∙ sym (ap (λ (es : List Recorded). unwrap_or (option_map (λ (e : Recorded). e.wasm) (first_of es)) f.wasm_start) (recorded-merged f.gaps.now 0 (map recorded_view f.addresses)))

pub first-there : (f : FunctionMap) (e : AddressMap) → slice_get f.addresses 0 ≡ Some e → e.wasm ≡ first_source (function_view f)
first-there f e is = sym (ap (λ (o : Option AddressMap). unwrap_or (option_map (λ (x : AddressMap). x.wasm) o) f.wasm_start) is) ∙ first-kept f

pub first-absent : (f : FunctionMap) → slice_get f.addresses 0 ≡ None → f.wasm_start ≡ first_source (function_view f)
first-absent f is = sym (ap (λ (o : Option AddressMap). unwrap_or (option_map (λ (x : AddressMap). x.wasm) o) f.wasm_start) is) ∙ first-kept f

module _ (fs : List FunctionMap) (kept : List Function) (place : ℕ) (are : map function_view fs ≡ kept) where
  -- a function has a place among those that are kept
  pub kept-inside : place < length kept → place < length fs
  kept-inside less = omega (arith, less, ap length are, length-map fs function_view)

  -- it is the one there
  pub kept-at : (f : FunctionMap) → place < length fs → f ≡ get_or fs place f → slice_get kept place ≡ Some (function_view f)
  kept-at f less here =
      ap (λ ks. slice_get ks place) (sym are)
      ∙ slice_get-map function_view fs place
      ∙ ap (option_map function_view) (slice_get-get_or fs place f less ∙ ap Some (sym here))

  pub kept-is : (f : FunctionMap) (x : Function) → place < length fs → f ≡ get_or fs place f → slice_get kept place ≡ Some x → x ≡ function_view f
  kept-is f x less here found = same-some (function_view f) x (sym (kept-at f less here) ∙ found)

  -- what holds of all of them holds of it
  pub kept-holds : (P : Function → Type 0) (f : FunctionMap) → place < length fs → f ≡ get_or fs place f → All P kept → P (function_view f)
  kept-holds P f less here all =
      let found = kept-at f less here in
      let x = function_view f in
      subst P (get_or_from_slice_get kept place x x found) (All-get_or P kept place x (slice_get_within kept place x found) all)

-- ---- one function

-- A function is begun.
pub function-begun : (n : ℕ) (pointer : TreeValue) (m : Module) (d : DefinedFunction) (before : List Draft) (t : ModuleTranslation) (f : FunctionMap) (place number index line : ℕ) (old new : List (List ℕ)) (u v : GivenUnit) (bytes : List ℕ) (name : StringId) (entry : ℕ)
    → m.file ≡ told_file t → d ≡ record { place = place; function = function_view f } → d.function.number ≡ number → IsSimulated n old before u
    → index ≡ t.imported_funcs + place → line ≡ t.code_section_offset + first_source (function_view f) → bytes ≡ function_name m index → Grows old new → IsNumbered new bytes name
    → v ≡ with_entry (subprogram_addition name number f.len line) u → entry ≡ length u.additions
    → HasVariables n pointer m d new before (m.told.labels d.function.number) entry v
function-begun n pointer m d before t f place number index line old new u v bytes name entry file drawn numbered so at lined named grows known is there =
    let placed : index ≡ function_index m d = at ∙ ap (λ (o : ToldFile). o.imported + place) (sym file) ∙ ap (λ (x : DefinedFunction). m.file.imported + x.place) (sym drawn) in
    let line_is : line ≡ m.file.code_offset + first_source d.function =
    lined
    ∙ ap (λ (o : ToldFile). o.code_offset + first_source (function_view f)) (sym file)
    ∙ ap (λ (x : DefinedFunction). m.file.code_offset + first_source x.function) (sym drawn) in
    let text : bytes ≡ function_name m (function_index m d) = named ∙ ap (function_name m) placed in
    subst (λ at. HasVariables n pointer m d new before (m.told.labels d.function.number) at v) (sym there)
    (variables-begun n pointer m d before old new u v name number f.len line grows so (subst (λ text. IsNumbered new text name) text known) (sym numbered) (ap (λ (x : DefinedFunction). x.function.length) (sym drawn)) line_is is)

-- The number of a function with a symbol is among those that are told of.
pub numbered-at : (first count : ℕ) (fs : List Function) (place number : ℕ) (x : Function) → AreNumberedFrom first count fs → slice_get fs place ≡ Some x → x.symbol ≡ Some number → (x.number ≡ number) × (first ≤ number) × (number < first + count)
numbered-at first count fs place number x all found symbol =
    let P : Function → Type 0 = λ f. IfSome f.symbol (λ n. (f.number ≡ n) × (first ≤ n) × (n < first + count)) in
    let here : P x = subst P (get_or_from_slice_get fs place x x found) (All-get_or P fs place x (slice_get_within fs place x found) all) in
    subst (λ o. IfSome o (λ n. (x.number ≡ n) × (first ≤ n) × (n < first + count))) symbol here

-- none is not some
pub never-none : {A : Type 0} (x : A) → ◌≡◌ {A = Option A} None (Some x) → ⊥
never-none x is = absurd (cc)

module _ (registers : Registers) (m : Module) (l : SimulatedModule) (lm : IsSimulatedModule registers m l) (place : ℕ) (x : Function) where
  -- What is given of a simulated function of a simulated module tells that function.
  pub function-simulated : (f : SimulatedFunction) → l.translation.now.imported_funcs + place ≡ f.index → f.locals.now ≡ types_at m (record { place = place; function = x }) → frame_view (Some f.frame) ≡ Some (frame_told (told_by registers l.compiled.now) x) → f.scope ≡ (x.start, source_end x)
      → IsSimulatedFunction registers m (record { place = place; function = x }) l f
  function-simulated f index locals frame scope = record {
    file = lm.file;
    index = ap (λ (file : ToldFile). file.imported + place) lm.file ∙ index;
    locals = locals;
    surrounded = λ i. record {
      functions = sym lm.functions i;
      frame = (frame ∙ ap (λ t. Some (frame_told t x)) (sym lm.told)) i;
      register = ap (λ (t : ToldModule). t.register) (sym lm.told) i;
    };
    scope = scope;
    place = ap (λ (t : ToldModule). t.place) (sym lm.told);
  }

  -- The labels of a function are those of its frame.
  pub labels-told : (number : ℕ) (keys : List ℕ) → x.number ≡ number → keys ≡ (told_by registers l.compiled.now).labels number → m.told.labels x.number ≡ keys
  labels-told number keys numbered are =
      ap (λ (t : ToldModule). t.labels x.number) lm.told
      ∙ ap (told_by registers l.compiled.now).labels numbered
      ∙ sym are

  -- All its labels are added, or the first refusal is answered.
  pub function-added : (n : ℕ) (before : List Draft) (keys : List ℕ) (entry : ℕ) (texts : List (List ℕ)) (u : GivenUnit) (result : Result (Unit {0}) DebugError) → m.told.labels x.number ≡ keys
      → GivesVariables n (reference_meant l.vmctx_ptr) m (record { place = place; function = x }) before entry (first_of (flat_map (label_refusals m (record { place = place; function = x })) keys)) texts u result
      → ReadsOr (λ done. IsSimulated n texts (before ++ function_entries n (reference_meant l.vmctx_ptr) m (record { place = place; function = x })) u) (first_of (variable_refusals m (record { place = place; function = x }))) result
  function-added n before keys entry texts u result are gives = go result gives
    where
      d : DefinedFunction
      d = record { place = place; function = x }

      all : variable_refusals m d ≡ flat_map (label_refusals m d) keys
      all = refusals-by-label m d ∙ ap (flat_map (label_refusals m d)) are

      go : (r : Result (Unit {0}) DebugError) → GivesVariables n (reference_meant l.vmctx_ptr) m d before entry (first_of (flat_map (label_refusals m d) keys)) texts u r → ReadsOr (λ done. IsSimulated n texts (before ++ function_entries n (reference_meant l.vmctx_ptr) m d) u) (first_of (variable_refusals m d)) r
      go (Ok done) given = (ap (λ (rs : List Refusal). option_map in_reading (first_of rs)) all ∙ given.0, variables-done n (reference_meant l.vmctx_ptr) m d before texts entry u given.1)
      go (Err e) given = subst (λ (rs : List Refusal). RefusesReading (first_of rs) e) (sym all) given

-- A function whose number is among the translated ones is none of the simulated ones, and the others with a symbol are simulated.
pub simulated-unless : (translated : ℕ → Bool) (x : Function) (number : ℕ) (b : Bool) → x.symbol ≡ Some number → x.number ≡ number → translated number ≡ b → is_simulated translated x ≡ not b
simulated-unless translated x number b symbol numbered is = ap (λ (o : Option ℕ). is_some o && not (translated x.number)) symbol ∙ ap (λ n. not (translated n)) numbered ∙ ap not is

-- ---- what is left

-- What is simulated from a place on: the function there, if it is, and what is behind it.
pub simulated-step : (translated : ℕ → Bool) (m : Module) (i : ℕ) (f : Function) → i < length m.functions → get_or m.functions i f ≡ f
    → simulated_from translated m i ≡ cond (is_simulated translated f) (record { place = i; function = f } ∷ simulated_from translated m (i + 1)) (simulated_from translated m (i + 1))
simulated-step translated m i f inside there =
    ap (λ fs. simulated_among translated (defined_from i fs)) (drop_more m.functions i f inside ∙ ap (λ g. g ∷ drop (i + 1) m.functions) there)
    ∙ ap (λ n. cond (is_simulated translated f) (record { place = i; function = f } ∷ simulated_among translated (defined_from n (drop (i + 1) m.functions))) (simulated_among translated (defined_from n (drop (i + 1) m.functions)))) (sym (add-one i))

module _ (translated : ℕ → Bool) (n : ℕ) (pointer : TreeValue) (m : Module) (behind whole : List Draft) (place : ℕ) (x : Function) (total : Option Refusal) (found : slice_get m.functions place ≡ Some x) where
  step : (b : Bool) → is_simulated translated x ≡ b → simulated_from translated m place ≡ cond b (record { place = place; function = x } ∷ simulated_from translated m (place + 1)) (simulated_from translated m (place + 1))
  step b is =
      simulated-step translated m place x (slice_get_within m.functions place x found) (get_or_from_slice_get m.functions place x x found)
      ∙ ap (λ (b : Bool). cond {A = List DefinedFunction} b (record { place = place; function = x } ∷ simulated_from translated m (place + 1)) (simulated_from translated m (place + 1))) is

  -- A function that is not simulated is passed by.
  pub left-passed : (texts : List (List ℕ)) (u : GivenUnit) → is_simulated translated x ≡ false → LeftFunctions n pointer m behind whole (simulated_from translated m place) total texts u → LeftFunctions n pointer m behind whole (simulated_from translated m (place + 1)) total texts u
  left-passed texts u is left = subst (λ ds. LeftFunctions n pointer m behind whole ds total texts u) (step false is) left

  pub left-unnamed : (texts : List (List ℕ)) (u : GivenUnit) → x.symbol ≡ None → LeftFunctions n pointer m behind whole (simulated_from translated m place) total texts u → LeftFunctions n pointer m behind whole (simulated_from translated m (place + 1)) total texts u
  left-unnamed texts u none left = left-passed texts u (ap (λ (o : Option ℕ). is_some o && not (translated x.number)) none) left

  -- One that is simulated is the first of those that are left.
  pub left-simulated : (texts : List (List ℕ)) (u : GivenUnit) → is_simulated translated x ≡ true → LeftFunctions n pointer m behind whole (simulated_from translated m place) total texts u
      → LeftFunctions n pointer m behind whole (record { place = place; function = x } ∷ simulated_from translated m (place + 1)) total texts u
  left-simulated texts u is left = subst (λ ds. LeftFunctions n pointer m behind whole ds total texts u) (step true is) left

-- It is added, or its first refusal is answered, which is that of all.
pub function-gives : (n : ℕ) (pointer : TreeValue) (m : Module) (behind whole : List Draft) (d : DefinedFunction) (rest : List DefinedFunction) (total : Option Refusal) (old new : List (List ℕ)) (u v : GivenUnit) (left : LeftFunctions n pointer m behind whole (d ∷ rest) total old u) (result : Result (Unit {0}) DebugError)
    → ReadsOr (λ done. IsSimulated n new (left.made.ds ++ function_entries n pointer m d) v) (first_of (variable_refusals m d)) result → GivesFunction n pointer m behind whole rest total new v result
function-gives n pointer m behind whole d rest total old new u v left (Ok done) gives = record {
  made = functions-more n pointer m behind whole old new d rest u v left.made gives.1;
  first = ap (λ (rs : List Refusal). first_of (rs ++ flat_map (variable_refusals m) rest)) (sym (no-first (variable_refusals m d) (unmapped in_reading (first_of (variable_refusals m d)) gives.0))) ∙ left.first;
}
function-gives n pointer m behind whole d rest total old new u v left (Err e) gives =
    reading-more (first_of (variable_refusals m d)) total e (λ r is. sym left.first ∙ first-behind (variable_refusals m d) (flat_map (variable_refusals m) rest) r is) gives

module _ (translated : ℕ → Bool) (n : ℕ) (pointer : TreeValue) (m : Module) (behind whole : List Draft) (texts : List (List ℕ)) (u : GivenUnit) where
  -- Before the first function all simulated ones are left.
  pub functions-left : HasFunctions n pointer m texts behind whole (simulated_functions translated m) u → LeftFunctions n pointer m behind whole (simulated_from translated m 0) (first_of (flat_map (variable_refusals m) (simulated_functions translated m))) texts u
  unfolding simulated_functions
  functions-left has = record { made = has; first = refl }

  -- Behind the last one none is left.
  pub functions-past : (place : ℕ) (total : Option Refusal) → length m.functions ≤ place → LeftFunctions n pointer m behind whole (simulated_from translated m place) total texts u → (option_map in_reading total ≡ None) × HasFunctions n pointer m texts behind whole [] u
  functions-past place total past left =
      let gone : simulated_from translated m place ≡ [] = ap (λ fs. simulated_among translated (defined_from place fs)) (drop_all place m.functions past) in
      let none : LeftFunctions n pointer m behind whole [] total texts u = subst (λ ds. LeftFunctions n pointer m behind whole ds total texts u) gone left in
      (ap (option_map in_reading) (sym none.first), none.made)

-- A place behind the functions that are given is behind those of the module.
pub past-kept : (fs : List FunctionMap) (kept : List Function) (m : Module) (place : ℕ) → map function_view fs ≡ kept → m.functions ≡ kept → length fs ≤ place → length m.functions ≤ place
past-kept fs kept m place are same past = omega (arith, past, ap length are, length-map fs function_view, ap length same)
