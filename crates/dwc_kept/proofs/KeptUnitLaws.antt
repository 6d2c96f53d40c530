-- The laws of the kept entries of units, for modules whose units are read without a fault, whatever is required of them.
use Rattle.std.proofs.Common.{◌≡◌, ℕ, ◌^◌, ◌<◌, List, ◌∷◌, length, map, refl, Bool, Some, None, All}
use Rattle.std.specs.Prelude.{◌==◌, nat_lt, AllPairs, option_and_then}
use Rattle.std.specs.List.{filter, list_any}
use Rattle.dwc_dwarf.specs.Trees.{place_among}
use Rattle.dwc_dwarf.specs.Values.{Value}
use Rattle.dwc_dwarf.specs.Entries.{Entry}
use Rattle.dwc_rules.specs.Carried.{Module, placed_entries}
use Rattle.dwc_dwarf.specs.ReadUnits.{Unit, units, root}
use Rattle.dwc_rules.specs.Kept.{Placed}
use Rattle.dwc_rules.specs.KeptModules.{kept_module, kept_in}
use Rattle.dwc_rules.specs.CarriedUnits.{kept_of}
use Rattle.dwc_rules.specs.Targets.{target_of}
use Rattle.dwc_kept.specs.ReadEntries.{named_offset}
use Rattle.dwc_kept.specs.ReadGraphs.{kept_offsets}
use Rattle.dwc_kept.specs.KeptUnits.{offsets_kept, kept_of_unit, is_in_unit, IsTree, AreEntryOffsets}
use Rattle.dwc_base.proofs.InLists.{IsIn}
use Rattle.dwc_kept.proofs.KeptInUnits.{AreKept, are-kept, in-unit, within-unit, offsets-order, some-in-unit, kept-offsets}
use Rattle.dwc_kept.proofs.KeptTrees.{unit-kept, root-kept}
use Rattle.dwc_kept.proofs.KeptReferences.{target-place}

module _ (required : Unit → Entry → Bool) (m : Module) where
  -- a module's units, entries and kept entries
  pub kept-parts : ((kept_module required m).parts ≡ m) × ((kept_module required m).units ≡ (units m.sections).items) × ((kept_module required m).entries ≡ placed_entries (units m.sections).items)
  unfolding kept_module
  kept-parts = (refl, refl, refl)

  module _ (whole : (units m.sections).fault ≡ None) where
    are : AreKept (kept_module required m)
    are = are-kept required m whole

    -- The offsets of kept entries rise.
    pub kept-rise : AllPairs (λ a b. a < b) (offsets_kept (kept_module required m))
    kept-rise = offsets-order (kept_module required m) are

    module _ (u : Unit) (i : IsIn u (kept_module required m).units) where
      -- The kept entries of a unit are those that stand at the offsets of kept ones.
      pub kept-in-unit : kept_in (kept_module required m) u ≡ map (λ e. record { unit = u.header.offset; entry = e }) (kept_of_unit (offsets_kept (kept_module required m)) u)
      kept-in-unit = in-unit (kept_module required m) are u i

      -- They make a tree, whose root is the unit's, or there are none.
      pub kept-tree : IsTree (map (λ e. e.depth) (kept_of_unit (offsets_kept (kept_module required m)) u))
      kept-tree = unit-kept (kept_module required m) are u i

      pub kept-root : (first : Entry) (others : List Entry) → kept_of_unit (offsets_kept (kept_module required m)) u ≡ first ∷ others → root u ≡ Some first
      kept-root = root-kept (kept_module required m) are u i

      -- Their offsets are those of kept entries that lie in the unit.
      pub kept-within : filter (is_in_unit u.header) (offsets_kept (kept_module required m)) ≡ map (λ e. e.offset) (kept_of_unit (offsets_kept (kept_module required m)) u)
      kept-within = within-unit (kept_module required m) are u i

      -- A unit has a kept entry where there are some.
      pub kept-some : list_any (λ p. p.unit == u.header.offset) (kept_module required m).kept ≡ nat_lt 0 (length (kept_of_unit (offsets_kept (kept_module required m)) u))
      kept-some = some-in-unit (kept_module required m) are u i

      -- The place of the entry that a value of a unit's entry goes to, among lists of offsets, is that of the offset that the value names.
      pub reference-found : (lists : List (List ℕ)) → AreEntryOffsets (kept_module required m) lists → (number : ℕ) (e : Placed) → e.unit ≡ u.header.offset → (v : Value)
          → option_and_then (λ f. place_among (λ k. k == f.entry.offset) number lists) (target_of (kept_module required m).entries e v)
          ≡ option_and_then (λ offset. place_among (λ k. k == offset) number lists) (named_offset u.header.offset u.header.end v)
      reference-found lists offsets number e own v = target-place (kept_module required m) are lists offsets number u i e own v

    -- Lists of offsets of kept entries are of offsets of entries.
    pub kept-lists : (lists : List (List ℕ)) → ((os : List ℕ) → IsIn os lists → (o : ℕ) → IsIn o os → IsIn o (offsets_kept (kept_module required m))) → All (λ offset. offset < 2 ^ 32) (offsets_kept (kept_module required m)) → AreEntryOffsets (kept_module required m) lists
    kept-lists lists among small = kept-offsets (kept_module required m) are lists among small

-- The offsets of the kept entries of a module are those that its reading answers.
pub offsets-same : (m : Module) → offsets_kept (kept_of m) ≡ kept_offsets m.functions m.sections
unfolding kept_module
offsets-same m = refl
