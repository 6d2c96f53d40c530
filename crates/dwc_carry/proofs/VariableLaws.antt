-- The labels of a simulated function: what is refused of each, and the unit with its entry.
use Rattle.std.proofs.Common.{◌≡◌, ℕ, ◌+◌, ◌<◌, arith, refl, sym, ap, subst, ◌∙◌, List, [], ◌∷◌, ◌++◌, length, Bool, true, false, Option, Some, None, Result}
use Rattle.std.specs.Prelude.{◌==◌, ◌||◌, cond, is_some, option_and_then, if◌then◌else◌}
use Rattle.std.specs.List.{filter, flat_map}
use Rattle.std.proofs.lemmas.List.{length-append}
use Rattle.dwc_native.specs.BuiltExpressions.{BuildRefusal, label_over}
use Rattle.dwc_rules.specs.Carried.{Module}
use Rattle.dwc_carried.specs.DefinedFunctions.{DefinedFunction}
use Rattle.dwc_native.specs.Parts.{context_label}
use Rattle.dwc_rules.specs.Refusals.{Refusal}
use Rattle.dwc_base.specs.Listing.{first_of}
use Rattle.dwc_carried.specs.SimulatedUnit.{has_entry, label_locations, place_of_type, type_place, variable_refusals}
use Rattle.dwc_base.specs.ToldFiles.{type_of_local}
use Rattle.dwc_dwarf.specs.Trees.{Location}
use Rattle.dwc_isa.specs.Registers.{Registers}
use Rattle.dwc_expr.specs.Builds.{surroundings}
use Rattle.dwc_unit.specs.AddedInOrder.{with_entry}
use Rattle.dwc_unit.specs.GivenUnits.{Addition, GivenUnit}
use Rattle.dwc_clone.specs.ContextPlaces.{HasContext}
use Rattle.dwc_unit.specs.declared.attributes.DebugInfoRef.{DebugInfoRef}
use Rattle.dwc_carry.specs.declared.error.DebugError.{DebugError}
use Rattle.dwc_carry.specs.declared.simulated_functions.SimulatedModule.{SimulatedModule}
use Rattle.dwc_carry.specs.declared.simulated_variables.SimulatedFunction.{SimulatedFunction}
use Rattle.dwc_carry.specs.SimulatedVariables.{Extends, IsSimulatedFunction, label_refusals, refused_in}
use Rattle.dwc_carry.specs.MadeEntries.{IsDense}
use Rattle.dwc_carry.specs.Refusals.{RefusesReading}
use Rattle.dwc_carry.specs.SimulatedAdditions.{context_addition}
use Rattle.dwc_carry.proofs.MadeAdditions.{entry-dense}
use Rattle.dwc_carry.proofs.RefusalLaws.{first-behind, reading-more}
use Rattle.dwc_carry.proofs.SimulatedAdded.{variable-added}
use Rattle.dwc_carry.proofs.SimulatedLaws.{located-is}
use Rattle.dwc_carry.proofs.SimulatedMade.{begins-more}

-- ---- units

pub extends-not : (u : GivenUnit) → IsDense u → Extends u u
extends-not u dense = record { dense = dense; longer = omega arith; begins = λ encoding lines root begins. begins }

pub extends-on : (u v w : GivenUnit) → Extends u v → Extends v w → Extends u w
extends-on u v w first second =
    let low = first.longer in
    let high = second.longer in
    record {
      dense = second.dense;
      longer = omega (arith, low, high);
      begins = λ encoding lines root begins. second.begins encoding lines root (first.begins encoding lines root begins);
    }

pub extends-entry : (e : Addition) (u v : GivenUnit) → IsDense u → v ≡ with_entry e u → Extends u v
extends-entry e u v dense is =
    let counted : length (u.additions ++ e ∷ []) ≡ length u.additions + 1 = length-append u.additions (e ∷ []) in
    subst (λ w. Extends u w) (sym is)
    record {
      dense = entry-dense u e dense;
      longer = omega (arith, counted);
      begins = λ encoding lines root begins. begins-more encoding lines root e u begins;
    }

pub extends-context : (expected : Result (List Location) BuildRefusal) (parent : ℕ) (type : DebugInfoRef) (texts : List (List ℕ)) (u v : GivenUnit) → IsDense u → parent < length u.additions → HasContext expected parent type texts u v → Extends u v
extends-context expected parent type texts u v dense within has = extends-entry (context_addition parent has.name type has.list) u v dense (has.is ∙ variable-added u parent has.name type has.list dense within)

-- ---- what is refused of labels

refusals-cond : {A B : Type 0} (g : A → List B) (p : A → Bool) (xs : List A) → flat_map g (filter p xs) ≡ flat_map (λ x. if p x then g x else []) xs
refusals-cond g p [] = refl
refusals-cond g p (x ∷ xs) = go (p x) (refusals-cond g p xs)
  where
    go : (b : Bool) → flat_map g (filter p xs) ≡ flat_map (λ y. if p y then g y else []) xs → flat_map g (cond b (x ∷ filter p xs) (filter p xs)) ≡ (if b then g x else []) ++ flat_map (λ y. if p y then g y else []) xs
    go true same = ap (λ ys. g x ++ ys) same
    go false same = same

-- What is refused of all variables of a function, label by label.
pub refusals-by-label : (m : Module) (d : DefinedFunction) → variable_refusals m d ≡ flat_map (label_refusals m d) (m.told.labels d.function.number)
refusals-by-label m d = refusals-cond (λ label. refused_in m.told.place (label_locations m d.function label)) (has_entry m d) (m.told.labels d.function.number)

module _ (m : Module) (d : DefinedFunction) (label : ℕ) where
  abbrev refused : Bool → List Refusal
  refused b = if b then refused_in m.told.place (label_locations m d.function label) else []

  -- of the context
  pub context-refusals : (label == context_label) ≡ true → label_refusals m d label ≡ refused_in m.told.place (label_locations m d.function label)
  context-refusals is = ap (λ b. refused (b || is_some (type_place m d label))) is

  -- of a local whose type has an entry
  pub typed-refusals : (label == context_label) ≡ false → (type : ℕ) → type_place m d label ≡ Some type → label_refusals m d label ≡ refused_in m.told.place (label_locations m d.function label)
  typed-refusals other type is = ap (λ b. refused (b || is_some (type_place m d label))) other ∙ ap (λ (o : Option ℕ). refused (is_some o)) is

  -- and of another
  pub untyped-refusals : (label == context_label) ≡ false → type_place m d label ≡ None → label_refusals m d label ≡ []
  untyped-refusals other is = ap (λ b. refused (b || is_some (type_place m d label))) other ∙ ap (λ (o : Option ℕ). refused (is_some o)) is

  -- A label of which nothing is refused is no more left.
  pub nothing-first : (left : List ℕ) (total : Option Refusal) → label_refusals m d label ≡ [] → first_of (flat_map (label_refusals m d) (label ∷ left)) ≡ total → first_of (flat_map (label_refusals m d) left) ≡ total
  nothing-first left total none first = ap (λ rs. first_of (rs ++ flat_map (label_refusals m d) left)) (sym none) ∙ first

  -- What is refused of the first that is left is refused of all.
  pub label-first : (left : List ℕ) (total : Option Refusal) (e : DebugError) → first_of (flat_map (label_refusals m d) (label ∷ left)) ≡ total → RefusesReading (first_of (label_refusals m d label)) e → RefusesReading total e
  label-first left total e first h =
      reading-more (first_of (label_refusals m d label)) total e (λ r is. sym first ∙ first-behind (label_refusals m d label) (flat_map (label_refusals m d) left) r is) h

-- ---- where labels lie

module _ (registers : Registers) (m : Module) (d : DefinedFunction) (l : SimulatedModule) (f : SimulatedFunction) (simulated : IsSimulatedFunction registers m d l f) where
  -- the locations of a label are those over the scope that is given
  pub simulated-located : (label : ℕ) → label_over (surroundings l.transform.now (Some f.frame) registers) (f.scope ∷ []) label ≡ label_locations m d.function label
  simulated-located label =
      ap (λ scope. label_over (surroundings l.transform.now (Some f.frame) registers) (scope ∷ []) label) simulated.scope
      ∙ located-is m d.function label (surroundings l.transform.now (Some f.frame) registers) simulated.surrounded

  -- an error of a label that has an entry, the first that is left
  pub simulated-refused : (label : ℕ) (left : List ℕ) (total : Option Refusal) (e : DebugError) → label_refusals m d label ≡ refused_in m.told.place (label_locations m d.function label)
      → first_of (flat_map (label_refusals m d) (label ∷ left)) ≡ total
      → RefusesReading (first_of (refused_in l.compiled.now.place (label_over (surroundings l.transform.now (Some f.frame) registers) (f.scope ∷ []) label))) e
      → RefusesReading total e
  simulated-refused label left total e is first h =
      label-first m d label left total e first
      (subst (λ rs. RefusesReading (first_of rs) e)
      (ap (λ place. refused_in place (label_over (surroundings l.transform.now (Some f.frame) registers) (f.scope ∷ []) label)) simulated.place
      ∙ ap (refused_in m.told.place) (simulated-located label)
      ∙ sym is)
      h)

  -- the place of a local's type is that among the locals that are given
  pub typed-there : (label : ℕ) (o : Option ℕ) → o ≡ option_and_then place_of_type (type_of_local f.locals.now label) → type_place m d label ≡ o
  typed-there label o is = sym (is ∙ ap (λ locals. option_and_then place_of_type (type_of_local locals label)) simulated.locals)
