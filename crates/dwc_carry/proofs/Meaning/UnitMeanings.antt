-- The trees that are made of an input mean what it does.
use Rattle.std.proofs.Common.{◌≡◌, ℕ, List, Option, Some, None, Result, Ok, Err, Bool, false, sym, ap, subst, ◌∙◌, true≢false}
use Rattle.dwc_base.proofs.InLists.{IsIn}
use Rattle.dwc_dwarf.specs.Entries.{Entry}
use Rattle.dwc_dwarf.specs.ReadUnits.{Unit}
use Rattle.dwc_dwarf.specs.Trees.{TreeEntry, Tree}
use Rattle.dwc_rules.specs.Kept.{Placed}
use Rattle.dwc_rules.specs.Carried.{Module, Compilation, carried_unit}
use Rattle.dwc_rules.specs.CarriedUnits.{kept_of}
use Rattle.dwc_rules.specs.KeptModules.{carried_in}
use Rattle.dwc_rules.specs.CarriedDrafts.{source_of, draft_told}
use Rattle.dwc_rules.specs.Drafts.{Goal}
use Rattle.dwc_rules.specs.DraftForests.{settled_entry, settled_unit}
use Rattle.dwc_rules.specs.ModuleDrafts.{expressions_of}
use Rattle.dwc_rules.specs.Refusals.{Refusal}
use Rattle.dwc_rules.specs.Wrappers.{is_wrapped}
use Rattle.dwc_rules.proofs.AllIn.{all-in}
use Rattle.dwc_carried.specs.Forests.{is_big, drafts_of, first_refusal, trees_made, forest}
use Rattle.dwc_carried.specs.SimulatedFunctions.{is_begun}
use Rattle.dwc_carried.proofs.LocationForest.{in-unit}
use Rattle.dwc_carried.proofs.MadeDrafts.{unit-says}
use Rattle.dwc_carried.proofs.UnitsMade.{last-always, units-made}
use Rattle.dwc_expr.specs.WholeParts.{CompiledPartsAreWhole}
use Rattle.dwc_carry.specs.MeaningsCarried.{EntryMeans, UnitMeans, MeaningsCarried, IsToldBounded, MeaningsAreCarried}
use Rattle.dwc_carry.proofs.Meaning.EntryMeanings.{entry-means}

-- what is said of an entry of a unit that is not wrapped
abbrev Says : Module → Unit → Entry → TreeEntry → Type 0
Says m u e out = is_wrapped m.told.output (record { unit = u.header.offset; entry = e }) ≡ false → EntryMeans (expressions_of m u) (record { unit = u.header.offset; entry = e }) out

module _ (law : CompiledPartsAreWhole) (big_endian : Bool) (m : Module) (bounded : IsToldBounded m.told) where
  unit-means : (u : Unit) (places : Goal → Option (ℕ × ℕ)) → IsIn u (carried_in (kept_of m)) → UnitMeans (drafts_of big_endian) (carried_unit (record { module_of = m; unit = u })) (settled_unit places (drafts_of big_endian (record { module_of = m; unit = u })))
  unit-means u places carried =
      let c = expressions_of m u in
      unit-says m u carried big_endian places (Says m u)
      (λ p i is plain.
      let here : ◌≡◌ {A = Placed} (record { unit = u.header.offset; entry = p.entry }) p = ap (λ (n : ℕ). record { unit = n; entry = p.entry }) (sym (in-unit m u p i)) in
      subst (λ (q : Placed). EntryMeans c q (settled_entry places (draft_told c (source_of (kept_of m) u) big_endian p))) (sym here)
      (entry-means law c p bounded is (source_of (kept_of m) u) big_endian places))
      (λ p i is out plain. absurd (true≢false (sym is ∙ ap (is_wrapped m.told.output) (ap (λ (n : ℕ). record { unit = n; entry = p.entry }) (in-unit m u p i)) ∙ plain)))

-- The trees of an input of which nothing is refused are those that are made.
made-trees : (c : Compilation) (trees : List Tree) → forest c ≡ Ok trees → trees_made c ≡ trees
made-trees c trees h = go (first_refusal c) h
  where
    of : Result (List Tree) Refusal → List Tree
    of (Ok ts) = ts
    of (Err refusal) = trees

    go : (o : Option Refusal) → ◌≡◌ {A = Result (List Tree) Refusal} (elim o [ Some refusal ↦ Err refusal | None ↦ Ok (trees_made c) ]) (Ok trees) → trees_made c ≡ trees
    go (Some refusal) k = absurd (cc)
    go None k = ap of k

pub meanings-by : CompiledPartsAreWhole → MeaningsAreCarried
meanings-by law c trees bounded h = subst (MeaningsCarried c) (made-trees c trees h)
    (units-made c (UnitMeans (drafts_of (is_big c.order))) (λ t. tt)
    (λ m i u carried places. unit-means law (is_big c.order) m (all-in (λ (n : Module). IsToldBounded n.told) c.modules m bounded i) u places carried)
    (last-always (UnitMeans (drafts_of (is_big c.order))) (is_begun c.modules) (λ name ms t. tt) c.next_id c.modules))
