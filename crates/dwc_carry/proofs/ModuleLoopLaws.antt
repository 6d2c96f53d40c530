-- What the loop over modules adds.
use Rattle.std.proofs.Common.{◌≡◌, ℕ, ◌+◌, List, [], ◌∷◌, ◌++◌, map, length, refl, ap, sym, ◌∙◌, subst, Bool, Option, Some, None, All}
use Rattle.std.specs.Prelude.{option_map}
use Rattle.std.specs.List.{flat_map}
use Rattle.std.proofs.lemmas.List.{append-nil, append_assoc, length-append, length-map}
use Rattle.std.proofs.lemmas.List.Elements.{All-nil, All-cons}
use Rattle.std.specs.BTreeSet.{BTreeSet, IsEmpty}
use Rattle.dwc_base.specs.declared.records.Encoding.{Encoding}
use Rattle.dwc_rules.specs.Carried.{Module}
use Rattle.dwc_dwarf.specs.ReadUnits.{units}
use Rattle.dwc_rules.specs.Refusals.{Refusal}
use Rattle.dwc_base.specs.Listing.{first_of}
use Rattle.dwc_rules.specs.DraftForests.{units_drafted, place_of_goal, settled_unit, trees_from}
use Rattle.dwc_carried.specs.Forests.{module_refusals}
use Rattle.dwc_rules.specs.ModuleDrafts.{module_drafts}
use Rattle.dwc_rules.specs.CarriedUnits.{wanted_units_of}
use Rattle.dwc_carried.specs.SimulatedFunctions.{begun_in_module}
use Rattle.dwc_rules.specs.RangeAttributes.{is_number_of}
use Rattle.dwc_rules.specs.SyntheticUnit.{place_of_context_pointer}
use Rattle.dwc_carried.specs.SimulatedUnit.{unit_count}
use Rattle.dwc_dwarf.specs.Trees.{Tree}
use Rattle.dwc_unit.specs.GivenUnits.{GivenUnit}
use Rattle.dwc_unit.specs.declared.attributes.DebugInfoRef.{DebugInfoRef}
use Rattle.dwc_clone.specs.BegunNumbers.{NotesFunctions}
use Rattle.dwc_source.specs.MadeValues.{Grows}
use Rattle.dwc_clone.proofs.BegunNumberLaws.{AreNotedSoFar, none-noted, noted-done, noted-more}
use Rattle.dwc_carry.specs.declared.error.DebugError.{DebugError}
use Rattle.dwc_carry.specs.Refusals.{in_reading, RefusesReading}
use Rattle.dwc_carry.specs.MadeUnits.{LeadsTo, AreMadeOf}
use Rattle.dwc_carry.specs.declared.carry_modules.CarriedModules.{CarriedModules}
use Rattle.dwc_carry.specs.CarriedModules.{AddsModules}
use Rattle.dwc_carry.specs.SimulatedUnits.{ReferToContexts}
use Rattle.dwc_carry.specs.SyntheticUnits.{entry_of}
use Rattle.dwc_carry.specs.SimulatedDrafts.{ContextsStay}
use Rattle.dwc_carry.proofs.MadeLaws.{grows-same, grows-twice, leads-behind, leads-front, made-both, made-grown, made-length}
use Rattle.dwc_carry.proofs.RefusalLaws.{first-behind, no-first, reading-more, unmapped}

-- Units are added that are made for a module, whose units are read to their ends, and that are to say its trees; the table of texts has
-- grown. The pointer to the module's context has its number in its synthetic unit, the first of them.
pub record AddsModule (encoding : Encoding) (big_endian : Bool) (m : Module) (old new : List GivenUnit) (before after : List (List ℕ)) : Type 0 where
  pub made : List GivenUnit
  pub added : new ≡ old ++ made
  pub grows : Grows before after
  pub counted : length made ≡ unit_count m
  pub each : (at : ℕ → ℕ → Option (ℕ × ℕ)) → LeadsTo at (length old) made → AreMadeOf at encoding after (length old) (flat_map wanted_units_of (m ∷ [])) (trees_from (length old) (map (module_drafts big_endian) (m ∷ []))) made
  pub context : (at : ℕ → ℕ → Option (ℕ × ℕ)) → LeadsTo at (length old) made → at (length old) (place_of_context_pointer m.told.memory) ≡ Some (length old, place_of_context_pointer m.told.memory)
  pub whole : (units m.sections).fault ≡ None

module _ (encoding : Encoding) (big_endian : Bool) where
  -- the trees of modules, of which the first unit has a number
  abbrev trees_of : ℕ → List Module → List Tree
  trees_of number ms = trees_from number (map (module_drafts big_endian) ms)

  -- units are made as they are wanted for modules
  abbrev AreMadeOfAll : (ℕ → ℕ → Option (ℕ × ℕ)) → List (List ℕ) → ℕ → List Module → List GivenUnit → Type 0
  AreMadeOfAll at texts number ms us = AreMadeOf at encoding texts number (flat_map wanted_units_of ms) (trees_of number ms) us

  -- the trees of a module
  abbrev trees_of_module : ℕ → Module → List Tree
  trees_of_module number m = map (settled_unit (place_of_goal number (module_drafts big_endian m))) (units_drafted (module_drafts big_endian m))

  -- units that are made of a module, with those of the modules behind it
  module-more : (at : ℕ → ℕ → Option (ℕ × ℕ)) (texts : List (List ℕ)) (number next : ℕ) (m : Module) (rest : List Module) (us vs : List GivenUnit) → next ≡ number + length us
      → AreMadeOfAll at texts number (m ∷ []) us → AreMadeOfAll at texts next rest vs → AreMadeOfAll at texts number (m ∷ rest) (us ++ vs)
  module-more at texts number next m rest us vs is h k =
      let drafts = units_drafted (module_drafts big_endian m) in
      let settled = settled_unit (place_of_goal number (module_drafts big_endian m)) in
      let one : AreMadeOf at encoding texts number (wanted_units_of m) (trees_of_module number m) us =
      subst (λ cs. AreMadeOf at encoding texts number cs (trees_of_module number m) us) (append-nil (wanted_units_of m))
      (subst (λ ts. AreMadeOf at encoding texts number (wanted_units_of m ++ []) ts us) (append-nil (trees_of_module number m)) h) in
      let counted : length drafts ≡ length us = sym (length-map drafts settled) ∙ made-length at encoding texts number (wanted_units_of m) (trees_of_module number m) us one in
      let same : next ≡ number + length drafts = is ∙ ap (λ n. number + n) (sym counted) in
      subst (λ n. AreMadeOf at encoding texts number (flat_map wanted_units_of (m ∷ rest)) (trees_of_module number m ++ trees_of n rest) (us ++ vs)) same
      (made-both at encoding texts number next (wanted_units_of m) (flat_map wanted_units_of rest) (trees_of_module number m) (trees_of next rest) us vs is one k)

  module _ (ms : List Module) (old : List GivenUnit) (before : List (List ℕ)) where
    -- What is added so far, and what is to be added for the modules that are left, is all; and the table of texts has grown. So are the
    -- references to the contexts, and the noted numbers.
    pub record ModulesSoFar (new : List GivenUnit) (texts : List (List ℕ)) (contexts : List DebugInfoRef) (translated : BTreeSet ℕ) (rest : List Module) : Type 0 where
      pub made : List GivenUnit
      pub added : new ≡ old ++ made
      pub grows : Grows before texts
      pub each : (at : ℕ → ℕ → Option (ℕ × ℕ)) (after : List (List ℕ)) (more : List GivenUnit) → Grows texts after → LeadsTo at (length old) (made ++ more) → AreMadeOfAll at after (length new) rest more → AreMadeOfAll at after (length old) ms (made ++ more)
      pub whole : All (λ m. (units m.sections).fault ≡ None) rest → All (λ m. (units m.sections).fault ≡ None) ms
      pub accepted : flat_map module_refusals rest ≡ flat_map module_refusals ms
      pub refers : (more : List DebugInfoRef) → ReferToContexts (length new) rest more → ReferToContexts (length old) ms (contexts ++ more)
      pub stays : (at : ℕ → ℕ → Option (ℕ × ℕ)) (more : List GivenUnit) → LeadsTo at (length old) (made ++ more) → ContextsStay at (length new) rest → ContextsStay at (length old) ms
      pub noted : AreNotedSoFar (flat_map begun_in_module rest) (is_number_of (flat_map begun_in_module ms)) translated

    pub modules-begin : (contexts : List DebugInfoRef) (translated : BTreeSet ℕ) → contexts ≡ [] → IsEmpty translated → ModulesSoFar old before contexts translated ms
    modules-begin contexts translated none empty = record {
      made = [];
      added = sym (append-nil old);
      grows = grows-same before;
      each = λ at after more grows leads h. h;
      whole = λ h. h;
      accepted = refl;
      refers = λ more h. subst (λ rs. ReferToContexts (length old) ms (rs ++ more)) (sym none) h;
      stays = λ at more leads h. h;
      noted = none-noted translated empty (flat_map begun_in_module ms);
    }

    -- a module more
    pub modules-one : (new next : List GivenUnit) (texts grown : List (List ℕ)) (contexts : List DebugInfoRef) (context : DebugInfoRef) (translated later : BTreeSet ℕ) (m : Module) (rest : List Module) → ModulesSoFar new texts contexts translated (m ∷ rest)
        → (option_map in_reading (first_of (flat_map module_refusals (m ∷ []))) ≡ None) × AddsModule encoding big_endian m new next texts grown → context ≡ entry_of (length new) (place_of_context_pointer m.told.memory)
        → NotesFunctions (begun_in_module m) translated later → ModulesSoFar next grown (contexts ++ context ∷ []) later rest
    modules-one new next texts grown contexts context translated later m rest h (none, a) goes notes =
        let long : length next ≡ length new + length a.made = ap length a.added ∙ length-append new a.made in
        let behind : length new + unit_count m ≡ length next = ap (λ n. length new + n) (sym a.counted) ∙ sym long in
        let here = λ (at : ℕ → ℕ → Option (ℕ × ℕ)) (more : List GivenUnit) (all : LeadsTo at (length old) (h.made ++ (a.made ++ more))). leads-front at (length new) a.made more (leads-behind at (length old) (length new) h.made (a.made ++ more) (ap length h.added ∙ length-append old h.made) all) in
        record {
          made = h.made ++ a.made;
          added = a.added ∙ ap (λ us. us ++ a.made) h.added ∙ append_assoc old h.made a.made;
          grows = grows-twice before texts grown h.grows a.grows;
          each = λ at after more grows leads k.
              let all = subst (LeadsTo at (length old)) (append_assoc h.made a.made more) leads in
              subst (λ us. AreMadeOfAll at after (length old) ms us) (sym (append_assoc h.made a.made more))
              (h.each at after (a.made ++ more) (grows-twice texts grown after a.grows grows) all
              (module-more at after (length new) (length next) m rest a.made more long
              (made-grown at encoding grown after (length new) (flat_map wanted_units_of (m ∷ [])) (trees_of (length new) (m ∷ [])) a.made grows (a.each at (here at more all))) k));
          whole = λ k. h.whole (All-cons (λ (n : Module). (units n.sections).fault ≡ None) m rest a.whole k);
          accepted = sym (ap (λ xs. xs ++ flat_map module_refusals rest) (none-of m none)) ∙ h.accepted;
          refers = λ more k. subst (ReferToContexts (length old) ms) (sym (append_assoc contexts (context ∷ []) more)) (h.refers (context ∷ more) (goes, subst (λ n. ReferToContexts n rest more) (sym behind) k));
          stays = λ at more leads k.
              let all = subst (LeadsTo at (length old)) (append_assoc h.made a.made more) leads in
              h.stays at (a.made ++ more) all (a.context at (here at more all), subst (λ n. ContextsStay at n rest) (sym behind) k);
          noted = noted-more (begun_in_module m) (flat_map begun_in_module rest) (is_number_of (flat_map begun_in_module ms)) translated later notes h.noted;
        }
      where
        none-of : (m : Module) → option_map in_reading (first_of (flat_map module_refusals (m ∷ []))) ≡ None → module_refusals m ≡ []
        none-of m none = sym (append-nil (module_refusals m)) ∙ no-first (flat_map module_refusals (m ∷ [])) (unmapped in_reading (first_of (flat_map module_refusals (m ∷ []))) none)

    -- behind the last one
    pub modules-done : (new : List GivenUnit) (texts : List (List ℕ)) (carried : CarriedModules) → ModulesSoFar new texts carried.vmctx_ptrs.items carried.translated []
        → (option_map in_reading (first_of (flat_map module_refusals ms)) ≡ None) × AddsModules encoding big_endian ms old new before texts carried
    modules-done new texts carried h = (
      ap (λ (refusals : List Refusal). option_map in_reading (first_of refusals)) (sym h.accepted),
      record {
        made = h.made;
        added = h.added;
        grows = h.grows;
        each = λ at leads. subst (λ us. AreMadeOfAll at texts (length old) ms us) (append-nil h.made) (h.each at texts [] (grows-same texts) (subst (LeadsTo at (length old)) (sym (append-nil h.made)) leads) tt);
        whole = h.whole (All-nil (λ (m : Module). (units m.sections).fault ≡ None));
        refers = subst (ReferToContexts (length old) ms) (append-nil carried.vmctx_ptrs.items) (h.refers [] tt);
        contexts = λ at leads. h.stays at [] (subst (LeadsTo at (length old)) (sym (append-nil h.made)) leads) tt;
        translated = noted-done (is_number_of (flat_map begun_in_module ms)) carried.translated h.noted;
      },
    )

    -- a module that is refused
    pub modules-refused : (new : List GivenUnit) (texts : List (List ℕ)) (contexts : List DebugInfoRef) (translated : BTreeSet ℕ) (m : Module) (rest : List Module) (e : DebugError) → ModulesSoFar new texts contexts translated (m ∷ rest)
        → RefusesReading (first_of (flat_map module_refusals (m ∷ []))) e → RefusesReading (first_of (flat_map module_refusals ms)) e
    modules-refused new texts contexts translated m rest e h met =
        let one : flat_map module_refusals (m ∷ []) ≡ module_refusals m = append-nil (module_refusals m) in
        reading-more (first_of (flat_map module_refusals (m ∷ []))) (first_of (flat_map module_refusals ms)) e
        (λ r is. sym (ap (λ (xs : List Refusal). first_of xs) h.accepted) ∙ first-behind (module_refusals m) (flat_map module_refusals rest) r (ap (λ (xs : List Refusal). first_of xs) (sym one) ∙ is)) met
