-- The depths of the entries of a unit are those of a tree.
use Rattle.std.proofs.Common.{◌≡◌, ℕ, zero, suc, ◌<◌, ◌≤◌, List, [], ◌∷◌, length, map, refl, sym, subst, ◌∙◌, arith, Bool, true, false, Option, Some, None, Result, Ok, Err}
use Rattle.std.specs.Prelude.{pred, ◌==◌, if◌then◌else◌}
use Rattle.dwc_base.specs.declared.faults.Flaw.TheVariants.{Malformed}
use Rattle.dwc_base.specs.Reading.{Unread, Read, ◌>>=◌, uleb_at}
use Rattle.dwc_base.specs.Listing.{Listing, only_fault}
use Rattle.dwc_base.specs.Sections.{Sections, Fault}
use Rattle.dwc_base.specs.Abbreviations.{Declaration, declaration_of, abbreviation_table}
use Rattle.dwc_base.specs.Units.{UnitHeader}
use Rattle.dwc_dwarf.specs.Values.{Value}
use Rattle.dwc_dwarf.specs.Entries.{Entry, Found, EntryPlace, entry_place, place_behind, root_place, attributes_at, declared_entry_at, entry_at, entries_from, entries}
use Rattle.dwc_base.proofs.Items.{LeavesFewer}
use Rattle.dwc_dwarf.proofs.TakesValues.{entry_at-leaves}
use Rattle.dwc_dwarf.proofs.EntryWalk.{entries_from-none, entries_from-end, entries_from-fault, entries_from-siblings, entries_from-entry}
use Rattle.dwc_kept.specs.KeptUnits.{AreBelow, IsTree}

-- the depths of entries
abbrev pub depths_of : List Entry → List ℕ
depths_of es = map (λ e. e.depth) es

pub below-weaker : (d low : ℕ) (ds : List ℕ) → low ≤ d → AreBelow low ds → AreBelow d ds
below-weaker d low [] le h = tt
below-weaker d low (x ∷ ds) le h = (h.0, omega (arith, le, h.1), h.2)

-- ---- one entry

-- what is read of an entry has the depth at which it was read
abbrev FoundDepth : ℕ → Read (Option Found) → Type 0
FoundDepth depth (Err flaw) = Unit {0}
FoundDepth depth (Ok (None, v)) = Unit {0}
FoundDepth depth (Ok (Some f, v)) = f.entry.depth ≡ depth

record HasDepth (depth : ℕ) (r : Read (Option Found)) : Type 0 where
  pub found : FoundDepth depth r

entry_at-depth : (s : Sections) (h : UnitHeader) (table : List Declaration) (depth : ℕ) (u : Unread) → HasDepth depth (entry_at s h table depth u)
unfolding entry_at declared_entry_at
entry_at-depth s h table depth u = go (uleb_at u)
  where
    attributes : (d : Declaration) (r : Read (List (ℕ × Value)))
        → HasDepth depth (r >>= λ attributes. Ok (Some (record { entry = record { offset = u.place; depth = depth; tag = d.tag; attributes = attributes.0 }; has_children = d.has_children }), attributes.1))
    attributes d (Err flaw) = record { found = tt }
    attributes d (Ok x) = record { found = refl }

    declared : (v : Unread) (o : Option Declaration) → HasDepth depth (elim o [ None ↦ Err Malformed | Some d ↦ declared_entry_at s h u.place depth d v ])
    declared v None = record { found = tt }
    declared v (Some d) = attributes d (attributes_at s h d.attributes v)

    marked : (b : Bool) (code : ℕ) (v : Unread)
        → HasDepth depth (elim b [ true ↦ Ok (None, v) | false ↦ elim (declaration_of code table) [ None ↦ Err Malformed | Some d ↦ declared_entry_at s h u.place depth d v ] ])
    marked true code v = record { found = tt }
    marked false code v = declared v (declaration_of code table)

    go : (r : Read ℕ) → HasDepth depth (r >>= λ code. elim (code.0 == 0) [
      | true ↦ Ok (None, code.1)
      | false ↦ elim (declaration_of code.0 table) [ None ↦ Err Malformed | Some d ↦ declared_entry_at s h u.place depth d code.1 ]
    ])
    go (Err flaw) = record { found = tt }
    go (Ok code) = marked (code.0 == 0) code.0 code.1

-- ---- one after another

-- where the next entry stands, fewer bytes are unread than some, and its depth is below the root's and at most one more than a depth
abbrev PlaceBelow : ℕ → ℕ → Option EntryPlace → Type 0
PlaceBelow m depth None = Unit {0}
PlaceBelow m depth (Some p) = (length p.unread.left < m) × (0 < p.depth) × (p.depth ≤ suc depth)

place-below : (m depth at : ℕ) (v : Unread) → at ≤ suc depth → length v.left < m → PlaceBelow m depth (entry_place at v)
place-below m depth zero v le less = tt
place-below m depth (suc at) v le less = (less, omega arith, le)

place-behind : (m : ℕ) (f : Found) (depth : ℕ) (v : Unread) → length v.left < m → PlaceBelow m depth (place_behind (Some f) depth v)
place-behind m f depth v less = go f.has_children
  where
    go : (b : Bool) → PlaceBelow m depth (entry_place (if b then suc depth else depth) v)
    go true = place-below m depth (suc depth) v (omega arith) less
    go false = place-below m depth depth v (omega arith) less

pred-low : (n : ℕ) → pred n ≤ n
pred-low zero = omega arith
pred-low (suc n) = omega arith

module _ (s : Sections) (h : UnitHeader) (table : List Declaration) where
  -- what stands behind an entry that was found
  entry-first : (depth : ℕ) (f : Found) (l : Listing Fault Entry) → f.entry.depth ≡ depth → AreBelow depth (depths_of l.items) → AreBelow f.entry.depth (depths_of l.items)
  entry-first depth f l same behind = subst (λ d. AreBelow d (depths_of l.items)) (sym same) behind

  depths-below : (m depth : ℕ) (o : Option EntryPlace) → PlaceBelow m depth o → AreBelow depth (depths_of (entries_from s h table o).items)
  depths-below m depth None k = subst (λ (l : Listing Fault Entry). AreBelow depth (depths_of l.items)) (sym (entries_from-none s h table)) tt
  depths-below zero depth (Some p) k = absurd (omega (arith, k.0))
  depths-below (suc m) depth (Some p) k =
      go (length p.unread.left) refl (entry_at s h table p.depth p.unread) refl (entry_at-leaves s h table p.depth p.unread).fewer (entry_at-depth s h table p.depth p.unread).found (λ d o i. depths-below m d o i)
    where
      go : (n : ℕ) → length p.unread.left ≡ n → (r : Read (Option Found)) → entry_at s h table p.depth p.unread ≡ r → LeavesFewer r (length p.unread.left) → FoundDepth p.depth r
          → ((d : ℕ) (o : Option EntryPlace) → PlaceBelow m d o → AreBelow d (depths_of (entries_from s h table o).items))
          → AreBelow depth (depths_of (entries_from s h table (Some p)).items)
      go zero n r read few found rest = subst (λ (l : Listing Fault Entry). AreBelow depth (depths_of l.items)) (sym (entries_from-end s h table p n)) tt
      go (suc c) n (Err flaw) read few found rest = subst (λ (l : Listing Fault Entry). AreBelow depth (depths_of l.items)) (sym (entries_from-fault s h table p flaw (omega (arith, n)) read)) tt
      go (suc c) n (Ok (None, v)) read few found rest =
          subst (λ (l : Listing Fault Entry). AreBelow depth (depths_of l.items)) (sym (entries_from-siblings s h table p v (omega (arith, n)) read))
          (rest depth (place_behind None p.depth v) (place-below m depth (pred p.depth) v (omega (arith, k.2, pred-low p.depth)) (omega (arith, few, k.0))))
      go (suc c) n (Ok (Some f, v)) read few found rest =
          subst (λ (l : Listing Fault Entry). AreBelow depth (depths_of l.items)) (sym (entries_from-entry s h table p v f (omega (arith, n)) read))
          (omega (arith, found, k.1), omega (arith, found, k.2), entry-first p.depth f (entries_from s h table (place_behind (Some f) p.depth v)) found (rest p.depth (place_behind (Some f) p.depth v) (place-behind m f p.depth v (omega (arith, few, k.0)))))

  tree-from : (p : EntryPlace) → p.depth ≡ 0 → IsTree (depths_of (entries_from s h table (Some p)).items)
  tree-from p root = go (length p.unread.left) refl (entry_at s h table p.depth p.unread) refl (entry_at-depth s h table p.depth p.unread).found
    where
      go : (n : ℕ) → length p.unread.left ≡ n → (r : Read (Option Found)) → entry_at s h table p.depth p.unread ≡ r → FoundDepth p.depth r → IsTree (depths_of (entries_from s h table (Some p)).items)
      go zero n r read found = subst (λ (l : Listing Fault Entry). IsTree (depths_of l.items)) (sym (entries_from-end s h table p n)) tt
      go (suc c) n (Err flaw) read found = subst (λ (l : Listing Fault Entry). IsTree (depths_of l.items)) (sym (entries_from-fault s h table p flaw (omega (arith, n)) read)) tt
      go (suc c) n (Ok (None, v)) read found =
          subst (λ (l : Listing Fault Entry). IsTree (depths_of l.items)) (sym (entries_from-siblings s h table p v (omega (arith, n)) read))
          (subst (λ d. IsTree (depths_of (entries_from s h table (place_behind None d v)).items)) (sym root) (subst (λ (l : Listing Fault Entry). IsTree (depths_of l.items)) (sym (entries_from-none s h table)) tt))
      go (suc c) n (Ok (Some f, v)) read found =
          subst (λ (l : Listing Fault Entry). IsTree (depths_of l.items)) (sym (entries_from-entry s h table p v f (omega (arith, n)) read))
          (found ∙ root, subst (λ d. AreBelow d (depths_of (entries_from s h table (place_behind (Some f) p.depth v)).items)) root (depths-below (suc (length v.left)) p.depth (place_behind (Some f) p.depth v) (place-behind (suc (length v.left)) f p.depth v (omega arith))))

-- The depths of the entries of a unit are those of a tree.
pub unit-tree : (s : Sections) (h : UnitHeader) → IsTree (depths_of (entries s h).items)
unfolding entries
unit-tree s h = go (abbreviation_table s h.abbreviations)
  where
    go : (t : Result (List Declaration) Fault) → IsTree (depths_of (let l : Listing Fault Entry = elim t [ Err fault ↦ only_fault fault | Ok table ↦ entries_from s h table (root_place h) ] in l).items)
    go (Err fault) = tt
    go (Ok table) = tree-from s h table (record { depth = 0; unread = h.content }) refl
