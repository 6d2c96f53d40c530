-- What is said of each unit that is wanted and of the tree that is made for it is said of all units of an output.
use Rattle.std.proofs.Common.{ℕ, ◌+◌, List, [], ◌∷◌, ◌++◌, map, length, Option, None, Bool, refl, subst, inl, inr}
use Rattle.std.specs.Prelude.{All, flat_map, option_to_list}
use Rattle.std.specs.List.{AllZip}
use Rattle.dwc_dwarf.specs.Trees.{Tree}
use Rattle.dwc_rules.specs.Drafts.{Goal, Draft}
use Rattle.dwc_rules.specs.DraftForests.{units_drafted, place_of_goal, settled_unit, trees_from, forest}
use Rattle.dwc_rules.specs.Carried.{Module, Compilation, WantedUnit, synthetic_unit, carried_unit, unit_of_simulated}
use Rattle.dwc_dwarf.specs.ReadUnits.{Unit}
use Rattle.dwc_rules.specs.KeptModules.{carried_in}
use Rattle.dwc_rules.specs.CarriedDrafts.{carried_drafts}
use Rattle.dwc_carried.specs.Forests.{module_units, wanted_units, is_big, drafts_of, trees_made}
use Rattle.dwc_rules.specs.ModuleDrafts.{module_drafts}
use Rattle.dwc_rules.specs.CarriedUnits.{kept_of, wanted_units_of}
use Rattle.dwc_carried.specs.SimulatedUnitRules.{simulated_drafts, simulated_wanted}
use Rattle.dwc_carried.specs.SimulatedFunctions.{is_begun}
use Rattle.dwc_base.proofs.InLists.{IsIn, in-at}

zip-both : {A B : Type 0} (R : A → B → Type 0) (xs : List A) (ys : List B) (zs : List A) (ws : List B) → AllZip R xs ys → AllZip R zs ws → AllZip R (xs ++ zs) (ys ++ ws)
zip-both R [] [] zs ws h k = k
zip-both R [] (y ∷ ys) zs ws h k = absurd h
zip-both R (x ∷ xs) [] zs ws h k = absurd h
zip-both R (x ∷ xs) (y ∷ ys) zs ws h k = (h.0, zip-both R xs ys zs ws h.1 k)

-- what is said of each carried unit of a module and of its tree, wherever goals are
abbrev pub SaysEach : (WantedUnit → Tree → Type 0) → Bool → Module → Type 0
SaysEach R big_endian m =
    (u : Unit) → IsIn u (carried_in (kept_of m)) → (places : Goal → Option (ℕ × ℕ)) → R (carried_unit (record { module_of = m; unit = u })) (settled_unit places (drafts_of big_endian (record { module_of = m; unit = u })))

module _ (R : WantedUnit → Tree → Type 0) (big_endian : Bool) (synthetic : (t : Tree) → R synthetic_unit t) where
  module-units : (m : Module) (number : ℕ) → SaysEach R big_endian m → AllZip R (wanted_units_of m) (map (settled_unit (place_of_goal number (module_drafts big_endian m))) (units_drafted (module_drafts big_endian m)))
  unfolding carried_drafts
  module-units m number each = (synthetic _, go (carried_in (kept_of m)) (λ u i. each u i (place_of_goal number (module_drafts big_endian m))))
    where
      places : Goal → Option (ℕ × ℕ)
      places = place_of_goal number (module_drafts big_endian m)

      drafts : Unit → List Draft
      drafts u = drafts_of big_endian (record { module_of = m; unit = u })

      go : (us : List Unit) → ((u : Unit) → IsIn u us → R (carried_unit (record { module_of = m; unit = u })) (settled_unit places (drafts u)))
          → AllZip R (map carried_unit (map (λ (u : Unit). record { module_of = m; unit = u }) us)) (map (settled_unit places) (map drafts us))
      go [] says = tt
      go (u ∷ us) says = (says u (inl refl), go us (λ v i. says v (inr i)))

  all-units : (number : ℕ) (ms : List Module) → ((m : Module) → IsIn m ms → SaysEach R big_endian m) → AllZip R (flat_map wanted_units_of ms) (trees_from number (map (module_drafts big_endian) ms))
  all-units number [] each = tt
  all-units number (m ∷ ms) each =
      let drafts = module_drafts big_endian m in
      let behind = number + length (units_drafted drafts) in
      zip-both R (wanted_units_of m) (map (settled_unit (place_of_goal number drafts)) (units_drafted drafts)) (flat_map wanted_units_of ms) (trees_from behind (map (module_drafts big_endian) ms))
      (module-units m number (each m (inl refl))) (all-units behind ms (λ n i. each n (inr i)))

-- What is said of the simulated unit that is wanted and of its tree, where there is a module.
abbrev pub SimulatedIs : (WantedUnit → Tree → Type 0) → (ℕ → Bool) → ℕ → List Module → Type 0
SimulatedIs R translated next_id ms = AllZip R (simulated_wanted translated next_id ms) (map (settled_unit (λ goal. None)) (option_to_list (simulated_drafts translated next_id ms)))

-- what is said whatever the modules
pub last-always : (R : WantedUnit → Tree → Type 0) (translated : ℕ → Bool) → ((name : List ℕ) (ms : List Module) (t : Tree) → R (unit_of_simulated name translated ms) t) → (next_id : ℕ) (ms : List Module) → SimulatedIs R translated next_id ms
last-always R translated says next_id [] = tt
last-always R translated says next_id (m ∷ ms) = (says _ (m ∷ ms) _, tt)

-- What is said of a synthetic unit whatever its tree, of each carried unit, and of the simulated one, is said of all units of an output.
pub units-made : (c : Compilation) (R : WantedUnit → Tree → Type 0) → ((t : Tree) → R synthetic_unit t) → ((m : Module) → IsIn m c.modules → SaysEach R (is_big c.order) m) → SimulatedIs R (is_begun c.modules) c.next_id c.modules → AllZip R (wanted_units c) (trees_made c)
unfolding forest
units-made c R synthetic each last =
    zip-both R (module_units c) (trees_from 0 (map (module_drafts (is_big c.order)) c.modules)) (simulated_wanted (is_begun c.modules) c.next_id c.modules) (map (settled_unit (λ goal. None)) (option_to_list (simulated_drafts (is_begun c.modules) c.next_id c.modules)))
    (all-units R (is_big c.order) synthetic 0 c.modules each) last
