-- The kept entries of a unit, by the offsets of those of its module. (This project's own rule, of `dwc_base/specs/KeptModules`.)
use Rattle.std.specs.Prelude.{◌≡◌, ℕ, suc, ◌<◌, ◌≤◌, ◌^◌, ◌==◌, List, [], ◌∷◌, map, Bool, true, nat_lt, nat_le, ◌&&◌, All}
use Rattle.std.specs.List.{filter, list_any}
use Rattle.dwc_base.specs.Units.{UnitHeader}
use Rattle.dwc_dwarf.specs.Entries.{Entry}
use Rattle.dwc_dwarf.specs.ReadUnits.{Unit}
use Rattle.dwc_rules.specs.KeptEntries.{has_place}
use Rattle.dwc_rules.specs.KeptModules.{KeptModule}

-- the offsets of a module's kept entries, in file order
abbrev pub offsets_kept : KeptModule → List ℕ
offsets_kept m = map (λ p. p.entry.offset) m.kept

-- whether an entry stands at one of some offsets
abbrev pub stands_at : List ℕ → Entry → Bool
stands_at offsets e = list_any (λ o. o == e.offset) offsets

-- the entries of a unit that stand at one of some offsets, in file order
abbrev pub kept_of_unit : List ℕ → Unit → List Entry
kept_of_unit offsets u = filter (stands_at offsets) u.entries

-- whether an offset lies in a unit
abbrev pub is_in_unit : UnitHeader → ℕ → Bool
is_in_unit h offset = nat_le h.offset offset && nat_lt offset h.end

-- ---- depths (DWARF 4 and 5, section 2.3)

-- depths behind a depth: below the root, each at most one more than the one before it
abbrev pub AreBelow : ℕ → List ℕ → Type 0
AreBelow depth [] = Prim.Unit {0}
AreBelow depth (d ∷ ds) = (0 < d) × (d ≤ suc depth) × AreBelow d ds

-- the depths of a tree in file order, the root first; or none
abbrev pub IsTree : List ℕ → Type 0
IsTree [] = Prim.Unit {0}
IsTree (d ∷ ds) = (d ≡ 0) × AreBelow 0 ds

-- ---- references

-- Lists of offsets are those of entries of a module, below 2^32.
pub record AreEntryOffsets (m : KeptModule) (lists : List (List ℕ)) : Type 0 where
  pub of_entries : All (All (λ offset. has_place m.entries offset ≡ true)) lists
  pub small : All (All (λ offset. offset < 2 ^ 32)) lists
