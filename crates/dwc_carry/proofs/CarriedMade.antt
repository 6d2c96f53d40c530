-- Units that carry those of a module by the numbers of their entries are made as they are wanted, where the numbers are put to places.
use Rattle.std.proofs.Common.{◌≡◌, ℕ, suc, ◌+◌, ◌<◌, ◌≤◌, List, [], ◌∷◌, ◌++◌, length, length-append, map, get_or, refl, ap, sym, subst, ◌∙◌, arith, Bool, true, false, cond, eq-eqb, Option, Some, None}
use Rattle.std.specs.Prelude.{◌==◌, if◌then◌else◌}
use Rattle.std.specs.List.{AllZip}
use Rattle.std.proofs.lemmas.Bool.{ne_eqb}
use Rattle.std.proofs.lemmas.List.{append_assoc}
use Rattle.dwc_base.specs.declared.records.Encoding.{Encoding}
use Rattle.dwc_rules.specs.Carried.{Module, carried_unit}
use Rattle.dwc_dwarf.specs.ReadUnits.{Unit}
use Rattle.dwc_rules.specs.Drafts.{itself, pointer_to_wrapper, reference_to_target, pointer_to_target, Goal, made_of, synthetic_entry, Draft}
use Rattle.dwc_rules.specs.DraftForests.{place_of_goal}
use Rattle.dwc_rules.specs.CarriedDrafts.{source_of}
use Rattle.dwc_rules.specs.KeptModules.{kept_in}
use Rattle.dwc_carried.specs.Forests.{drafts_of}
use Rattle.dwc_rules.specs.ModuleDrafts.{module_drafts}
use Rattle.dwc_rules.specs.CarriedUnits.{kept_of}
use Rattle.dwc_rules.specs.SyntheticUnit.{synthetic_unit}
use Rattle.dwc_dwarf.specs.Trees.{place_among}
use Rattle.dwc_carried.proofs.ForestTargets.{unit-no-place}
use Rattle.dwc_rules.proofs.GoalsHave.{GoalsHave}
use Rattle.dwc_kept.specs.declared.kept_units.KeptModule.{KeptModule}
use Rattle.dwc_kept.specs.declared.read_unit.ReadUnit.{ReadUnit}
use Rattle.dwc_kept.specs.ReadUnits.{unit_read, IsKeptModule}
use Rattle.dwc_kept.proofs.KeptGoals.{carried, inside}
use Rattle.dwc_kept.proofs.NumberedGoals.{HasNumber, AreAtNumbers, AreNumberedUnits, goals-put}
use Rattle.dwc_unit.specs.GivenUnits.{GivenUnit}
use Rattle.dwc_unit.specs.Renumbered.{renumbered_entry}
use Rattle.dwc_carry.proofs.SettledLaws.{IsPutAt, unit-put}
use Rattle.dwc_source.specs.declared.places.EmittedEntry.{EmittedEntry}
use Rattle.dwc_source.specs.OutputPlaces.{place_of}
use Rattle.dwc_carry.specs.MadeUnits.{LeadsTo, IsMadeOf, AreMadeOf}
use Rattle.dwc_carry.specs.ModulePlaces.{emitted, numbered_lists}
use Rattle.dwc_carry.specs.CarriedUnits.{CarriesUnit, CarryUnits, wanted_of}
use Rattle.dwc_carry.proofs.PlaceLaws.{lists-among}
use Rattle.dwc_carry.proofs.UnitsInOrder.{emitted-carried}

module _ (c : Module) (m : KeptModule) (is : IsKeptModule c.functions c.sections m) (encoding : Encoding) (big_endian : Bool) (first : ℕ) (places : List EmittedEntry) (places_are : places ≡ numbered_lists (suc first) (emitted m.kept m.units.items)) (table : List (List ℕ)) where
  abbrev Carries : ℕ → Unit → GivenUnit → Type 0
  Carries number u g = CarriesUnit encoding big_endian c first places table number u g

  abbrev Carry : ℕ → List Unit → List GivenUnit → Type 0
  Carry number us gs = CarryUnits encoding big_endian c first places table number us gs

  -- ---- the numbers of goals, by the unit that says them

  abbrev elsewhere : Goal → Option (ℕ × ℕ)
  elsewhere (made_of offset itself) = place_of places offset
  elsewhere (made_of offset pointer_to_wrapper) = None
  elsewhere (made_of offset reference_to_target) = None
  elsewhere (made_of offset pointer_to_target) = None
  elsewhere (synthetic_entry place) = Some (first, place)

  abbrev goals_of : (number : ℕ) (us : List Unit) (gs : List GivenUnit) → Carry number us gs → ℕ → Goal → Option (ℕ × ℕ)
  goals_of number [] [] h n = elsewhere
  goals_of number [] (g ∷ gs) h n = absurd h
  goals_of number (u ∷ us) [] h n = absurd h
  goals_of number (u ∷ us) (g ∷ gs) h n = if n == number then h.0.goals else goals_of (suc number) us gs h.1 n

  goals-kept : (number : ℕ) (us : List Unit) (gs : List GivenUnit) (h : Carry number us gs) (n offset : ℕ) → goals_of number us gs h n (made_of offset itself) ≡ place_of places offset
  goals-kept number [] [] h n offset = refl
  goals-kept number [] (g ∷ gs) h n offset = absurd h
  goals-kept number (u ∷ us) [] h n offset = absurd h
  goals-kept number (u ∷ us) (g ∷ gs) h n offset = go (n == number) (goals-kept (suc number) us gs h.1 n offset)
    where
      go : (b : Bool) → goals_of (suc number) us gs h.1 n (made_of offset itself) ≡ place_of places offset → (cond {A = Goal → Option (ℕ × ℕ)} b h.0.goals (goals_of (suc number) us gs h.1 n)) (made_of offset itself) ≡ place_of places offset
      go true others = h.0.kept offset
      go false others = others

  goals-synthetic : (number : ℕ) (us : List Unit) (gs : List GivenUnit) (h : Carry number us gs) (n place : ℕ) → goals_of number us gs h n (synthetic_entry place) ≡ Some (first, place)
  goals-synthetic number [] [] h n place = refl
  goals-synthetic number [] (g ∷ gs) h n place = absurd h
  goals-synthetic number (u ∷ us) [] h n place = absurd h
  goals-synthetic number (u ∷ us) (g ∷ gs) h n place = go (n == number) (goals-synthetic (suc number) us gs h.1 n place)
    where
      go : (b : Bool) → goals_of (suc number) us gs h.1 n (synthetic_entry place) ≡ Some (first, place) → (cond {A = Goal → Option (ℕ × ℕ)} b h.0.goals (goals_of (suc number) us gs h.1 n)) (synthetic_entry place) ≡ Some (first, place)
      go true others = h.0.synthetic place
      go false others = others

  -- goals are those of some units from a number on
  abbrev Agree : (ℕ → Goal → Option (ℕ × ℕ)) → (number : ℕ) (us : List Unit) (gs : List GivenUnit) → Carry number us gs → Type 0
  Agree goals number us gs h = (n : ℕ) → number ≤ n → goals n ≡ goals_of number us gs h n

  agree-first : (goals : ℕ → Goal → Option (ℕ × ℕ)) (number : ℕ) (u : Unit) (us : List Unit) (g : GivenUnit) (gs : List GivenUnit) (h : Carry number (u ∷ us) (g ∷ gs)) → Agree goals number (u ∷ us) (g ∷ gs) h → goals number ≡ h.0.goals
  agree-first goals number u us g gs h agree = agree number (omega arith) ∙ ap (λ b. cond {A = Goal → Option (ℕ × ℕ)} b h.0.goals (goals_of (suc number) us gs h.1 number)) (eq-eqb number number refl)

  agree-more : (goals : ℕ → Goal → Option (ℕ × ℕ)) (number : ℕ) (u : Unit) (us : List Unit) (g : GivenUnit) (gs : List GivenUnit) (h : Carry number (u ∷ us) (g ∷ gs)) → Agree goals number (u ∷ us) (g ∷ gs) h → Agree goals (suc number) us gs h.1
  agree-more goals number u us g gs h agree n above =
      agree n (omega (arith, above)) ∙ ap (λ b. cond {A = Goal → Option (ℕ × ℕ)} b h.0.goals (goals_of (suc number) us gs h.1 n)) (ne_eqb n number (λ e. absurd (omega (arith, e, above))))

  abbrev of_read : ReadUnit → Unit
  of_read r = unit_read c.sections r.unit.header

  abbrev drafts : ReadUnit → List Draft
  drafts r = drafts_of big_endian (record { module_of = c; unit = of_read r })

  module _ (at : ℕ → ℕ → Option (ℕ × ℕ)) where
    leads-more : (number : ℕ) (g : GivenUnit) (gs : List GivenUnit) → LeadsTo at number (g ∷ gs) → LeadsTo at (suc number) gs
    leads-more number g gs leads i u there n place is = let same : number + suc i ≡ suc number + i = omega arith in subst (λ k. at k n ≡ Some (k, place)) same (leads (suc i) u there n place is)

    first-numbered : (goals : ℕ → Goal → Option (ℕ × ℕ)) (number : ℕ) (r : ReadUnit) (g : GivenUnit) (gs : List GivenUnit) (h : Carries number (of_read r) g) → goals number ≡ h.goals → LeadsTo at number (g ∷ gs) → AreAtNumbers at (goals number) number (drafts r)
    first-numbered goals number r g gs h same leads = record {
      numbers = h.numbers;
      places = λ place within. let counted : number + 0 ≡ number = omega arith in subst (λ k. at k (get_or h.numbers place 0) ≡ Some (k, place)) counted (leads 0 g refl (get_or h.numbers place 0) place (h.numbered.places place within));
      told = subst (λ (gs' : Goal → Option (ℕ × ℕ)). AllZip (HasNumber gs' number) (drafts r) h.numbers) (sym same) h.numbered.told;
    }

    numbered-at : (goals : ℕ → Goal → Option (ℕ × ℕ)) (number : ℕ) (front more : List ReadUnit) (r : ReadUnit) (gs : List GivenUnit) (h : Carry number (map of_read (front ++ r ∷ more)) gs) → Agree goals number (map of_read (front ++ r ∷ more)) gs h → LeadsTo at number gs
        → AreAtNumbers at (goals (number + length front)) (number + length front) (drafts r)
    numbered-at goals number [] more r [] h agree leads = absurd h
    numbered-at goals number (x ∷ front) more r [] h agree leads = absurd h
    numbered-at goals number [] more r (g ∷ gs) h agree leads =
        let counted : number ≡ number + 0 = omega arith in
        subst (λ n. AreAtNumbers at (goals n) n (drafts r)) counted (first-numbered goals number r g gs h.0 (agree-first goals number (of_read r) (map of_read more) g gs h agree) leads)
    numbered-at goals number (x ∷ front) more r (g ∷ gs) h agree leads =
        let counted : suc number + length front ≡ number + suc (length front) = omega arith in
        subst (λ n. AreAtNumbers at (goals n) n (drafts r)) counted
        (numbered-at goals (suc number) front more r gs h.1 (agree-more goals number (of_read x) (map of_read (front ++ r ∷ more)) g gs h agree) (leads-more number g gs leads))

    module _ (synthetic_there : (place : ℕ) → place < length (synthetic_unit c.told.names.set_memory c.told.memory) → at first place ≡ Some (first, place))
        (all : List GivenUnit) (h : Carry (suc first) (map of_read (carried m)) all) (leads : LeadsTo at (suc first) all) where
      abbrev goals : ℕ → Goal → Option (ℕ × ℕ)
      goals = goals_of (suc first) (map of_read (carried m)) all h

      place-kept : (offset : ℕ) → place_of places offset ≡ place_among (λ k. k == offset) (suc first) (map (inside m.kept) (carried m))
      place-kept offset = ap (λ ps. place_of ps offset) places_are ∙ lists-among (suc first) (emitted m.kept m.units.items) offset ∙ ap (place_among (λ k. k == offset) (suc first)) (emitted-carried m.kept m.units.items)

      split-at : (front more rs : List ReadUnit) (r : ReadUnit) → rs ≡ front ++ r ∷ more → (k : Carry (suc first) (map of_read rs) all) → Agree goals (suc first) (map of_read rs) all k → AreAtNumbers at (goals (suc first + length front)) (suc first + length front) (drafts r)
      split-at front more rs r are k agree = go (front ++ r ∷ more) (sym are)
        where
          go : (xs : List ReadUnit) → xs ≡ rs → AreAtNumbers at (goals (suc first + length front)) (suc first + length front) (drafts r)
          go xs e =
              let both : (k' : Carry (suc first) (map of_read (front ++ r ∷ more)) all) × Agree goals (suc first) (map of_read (front ++ r ∷ more)) all k' =
              subst (λ (ys : List ReadUnit). (k' : Carry (suc first) (map of_read ys) all) × Agree goals (suc first) (map of_read ys) all k') are (k, agree) in
              numbered-at goals (suc first) front more r all both.0 both.1 leads

      numbered : AreNumberedUnits c m is big_endian first at goals
      numbered = record {
        units = λ front more r are. split-at front more (carried m) r are h (λ n above. refl);
        kept = λ number offset. goals-kept (suc first) (map of_read (carried m)) all h number offset ∙ place-kept offset;
        synthetic = λ number place. goals-synthetic (suc first) (map of_read (carried m)) all h number place;
        synthetic_there = synthetic_there;
      }

      one-made : (front more : List ReadUnit) (r : ReadUnit) (g : GivenUnit) → carried m ≡ front ++ r ∷ more → (number : ℕ) → number ≡ suc first + length front → (k : Carries number (of_read r) g) → goals number ≡ k.goals
          → IsMadeOf at encoding table number (carried_unit (record { module_of = c; unit = of_read r })) (wanted_of big_endian c first (of_read r)) g
      one-made front more r g are number counted k same =
          let target = place_of_goal first (module_drafts big_endian c) in
          let have = subst (λ n. GoalsHave (IsPutAt at (goals n) target) c.told.output c.told.memory (kept_in (kept_of c) (of_read r))) (sym counted) (goals-put c m is big_endian first at goals numbered front more r are) in
          let put = subst (λ (gs : Goal → Option (ℕ × ℕ)). GoalsHave (IsPutAt at gs target) c.told.output c.told.memory (kept_in (kept_of c) (of_read r))) same have in
          record {
            has_lines = k.has_lines;
            depths = k.depths;
            order = k.order;
            leads = k.leads;
            says = ap (map (renumbered_entry at)) k.says ∙ unit-put at k.goals target (drafts r) (unit-no-place (IsPutAt at k.goals target) c (of_read r) (source_of (kept_of c) (of_read r)) big_endian (kept_in (kept_of c) (of_read r)) put);
            texts = k.texts;
            writable = k.writable;
          }

      all-made : (front rest : List ReadUnit) (gs : List GivenUnit) → carried m ≡ front ++ rest → (number : ℕ) → number ≡ suc first + length front → (k : Carry number (map of_read rest) gs) → Agree goals number (map of_read rest) gs k
          → AreMadeOf at encoding table number (map carried_unit (map (λ u. record { module_of = c; unit = u }) (map of_read rest))) (map (wanted_of big_endian c first) (map of_read rest)) gs
      all-made front [] [] are number counted k agree = tt
      all-made front [] (g ∷ gs) are number counted k agree = absurd k
      all-made front (r ∷ rest) [] are number counted k agree = absurd k
      all-made front (r ∷ rest) (g ∷ gs) are number counted k agree = (
        one-made front rest r g are number counted k.0 (agree-first goals number (of_read r) (map of_read rest) g gs k agree),
        all-made (front ++ r ∷ []) rest gs (are ∙ sym (append_assoc front (r ∷ []) rest)) (suc number) (omega (arith, counted, length-append front (r ∷ []))) k.1 (agree-more goals number (of_read r) (map of_read rest) g gs k agree),
      )

      -- All of them are made as they are wanted.
      pub carried-made : AreMadeOf at encoding table (suc first) (map carried_unit (map (λ u. record { module_of = c; unit = u }) (map of_read (carried m)))) (map (wanted_of big_endian c first) (map of_read (carried m))) all
      carried-made = all-made [] (carried m) all refl (suc first) (omega arith) h (λ n above. refl)
