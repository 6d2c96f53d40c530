-- Entries, and the instructions of a line program, one by one.
use Rattle.std.proofs.Common.{◌≡◌, ℕ, zero, suc, ◌<◌, ◌≤◌, refl, ap, arith, List, length, Option, Some, None, Ok, Err, Bool, true, false, eqb, eq-eqb}
use Rattle.std.specs.Prelude.{◌==◌, if◌then◌else◌}
use Rattle.std.proofs.lemmas.Bool.{ne_eqb}
use Rattle.dwc_base.specs.declared.faults.Flaw.{Flaw}
use Rattle.dwc_base.specs.declared.faults.What.TheVariants.{Entry as EntryRead}
use Rattle.dwc_base.specs.declared.section_name.SectionName.TheVariants.{Info}
use Rattle.dwc_base.specs.Reading.{Unread, Read}
use Rattle.dwc_base.specs.Listing.{at_end, broken, passes, item, no_items, only_fault, with_first}
use Rattle.dwc_base.specs.Sections.{Sections, Fault, Relocation, fault_of}
use Rattle.dwc_base.specs.Abbreviations.{Declaration}
use Rattle.dwc_base.specs.Units.{UnitHeader}
use Rattle.dwc_dwarf.specs.Entries.{Entry, Found, EntryPlace, entry_place, place_behind, entry_places_left, entry_at, next_entry, entries_from}
use Rattle.dwc_dwarf.specs.LineHeaders.{LineHeader, Instruction, instruction_at, next_instruction, instructions}
use Rattle.dwc_base.proofs.Items.{LeavesFewer}
use Rattle.dwc_dwarf.proofs.TakesValues.{entry_at-leaves, instruction_at-leaves}
use Rattle.dwc_base.proofs.Walks.{GoesOn, walk-end, walk-fault, walk-passes, walk-item}

-- ---- entries

-- a place has at most what is unread behind it
place-left : (found : Option Found) (depth : ℕ) (u : Unread) → entry_places_left (place_behind found depth u) ≤ length u.left
place-left None zero u = omega arith
place-left None (suc zero) u = omega arith
place-left None (suc (suc depth)) u = omega arith
place-left (Some found) depth u = go found.has_children depth
  where
    go : (b : Bool) (depth : ℕ) → entry_places_left (entry_place (if b then suc depth else depth) u) ≤ length u.left
    go true depth = omega arith
    go false zero = omega arith
    go false (suc depth) = omega arith

module _ (s : Sections) (h : UnitHeader) (table : List Declaration) where
  next_entry-shrinks : (p q : Option EntryPlace) → GoesOn (next_entry s h table p) q → entry_places_left q < entry_places_left p
  unfolding next_entry
  next_entry-shrinks None q goes = absurd goes
  next_entry-shrinks (Some p) q goes = go (length p.unread.left == 0) (entry_at s h table p.depth p.unread) (entry_at-leaves s h table p.depth p.unread).fewer goes
    where
      found_or : (o : Option Found) (v : Unread) → length v.left < length p.unread.left
          → GoesOn {S = Option EntryPlace} {F = Fault} {A = Entry} (elim o [ None ↦ passes (place_behind None p.depth v) | Some found ↦ item found.entry (place_behind (Some found) p.depth v) ]) q → entry_places_left q < length p.unread.left
      found_or None v fewer g = let same = ap entry_places_left g in omega (arith, same, place-left None p.depth v)
      found_or (Some found) v fewer g = let same = ap entry_places_left g in omega (arith, same, place-left (Some found) p.depth v)

      go : (b : Bool) (r : Read (Option Found)) → LeavesFewer r (length p.unread.left)
          → GoesOn {S = Option EntryPlace} {F = Fault} {A = Entry} (elim b [ true ↦ at_end | false ↦ elim r [ Err flaw ↦ broken (fault_of EntryRead Info p.unread.place flaw) | Ok read ↦ elim read.0 [ None ↦ passes (place_behind None p.depth read.1) | Some found ↦ item found.entry (place_behind (Some found) p.depth read.1) ] ] ]) q → entry_places_left q < length p.unread.left
      go true r fewer g = absurd g
      go false (Err flaw) fewer g = absurd g
      go false (Ok read) fewer g = found_or read.0 read.1 fewer g

  -- behind the last place, at a unit's end, at a fault, at the end of a list of siblings, and at an entry
  pub entries_from-none : entries_from s h table None ≡ no_items
  unfolding entries_from next_entry
  entries_from-none = walk-end entry_places_left (next_entry s h table) next_entry-shrinks None refl

  pub entries_from-end : (p : EntryPlace) → length p.unread.left ≡ 0 → entries_from s h table (Some p) ≡ no_items
  unfolding entries_from next_entry
  entries_from-end p e =
      let none : eqb (length p.unread.left) 0 ≡ true = eq-eqb _ _ e in
      walk-end entry_places_left (next_entry s h table) next_entry-shrinks (Some p) (rw (none, next_entry) refl)

  pub entries_from-fault : (p : EntryPlace) (flaw : Flaw) → 0 < length p.unread.left → entry_at s h table p.depth p.unread ≡ Err flaw → entries_from s h table (Some p) ≡ only_fault (fault_of EntryRead Info p.unread.place flaw)
  unfolding entries_from next_entry
  entries_from-fault p flaw some read =
      let left : eqb (length p.unread.left) 0 ≡ false = ne_eqb _ _ (omega arith) in
      walk-fault entry_places_left (next_entry s h table) next_entry-shrinks (Some p) _ (rw (left, read, next_entry) refl)

  pub entries_from-siblings : (p : EntryPlace) (v : Unread) → 0 < length p.unread.left → entry_at s h table p.depth p.unread ≡ Ok (None, v) → entries_from s h table (Some p) ≡ entries_from s h table (place_behind None p.depth v)
  unfolding entries_from next_entry
  entries_from-siblings p v some read =
      let left : eqb (length p.unread.left) 0 ≡ false = ne_eqb _ _ (omega arith) in
      walk-passes entry_places_left (next_entry s h table) next_entry-shrinks (Some p) (place_behind None p.depth v) (rw (left, read, next_entry) refl)

  pub entries_from-entry : (p : EntryPlace) (v : Unread) (found : Found) → 0 < length p.unread.left → entry_at s h table p.depth p.unread ≡ Ok (Some found, v) → entries_from s h table (Some p) ≡ with_first found.entry (entries_from s h table (place_behind (Some found) p.depth v))
  unfolding entries_from next_entry
  entries_from-entry p v found some read =
      let left : eqb (length p.unread.left) 0 ≡ false = ne_eqb _ _ (omega arith) in
      walk-item entry_places_left (next_entry s h table) next_entry-shrinks (Some p) (place_behind (Some found) p.depth v) found.entry (rw (left, read, next_entry) refl)

-- ---- instructions

module _ (relocations : List Relocation) (h : LineHeader) where
  next_instruction-shrinks : (u v : Unread) → GoesOn (next_instruction relocations h u) v → length v.left < length u.left
  unfolding next_instruction
  next_instruction-shrinks u v goes = go (length u.left == 0) (instruction_at relocations h u) (instruction_at-leaves relocations h u).fewer goes
    where
      go : (b : Bool) (r : Read Instruction) → LeavesFewer r (length u.left)
          → GoesOn {S = Unread} {F = Flaw} {A = Instruction} (elim b [ true ↦ at_end | false ↦ elim r [ Ok i ↦ item i.0 i.1 | Err flaw ↦ broken flaw ] ]) v → length v.left < length u.left
      go true r fewer g = absurd g
      go false (Err flaw) fewer g = absurd g
      go false (Ok i) fewer g = rw g at fewer

  pub instructions-end : (u : Unread) → length u.left ≡ 0 → instructions relocations h u ≡ no_items
  unfolding instructions next_instruction
  instructions-end u e =
      let none : eqb (length u.left) 0 ≡ true = eq-eqb _ _ e in
      walk-end (λ v. length v.left) (next_instruction relocations h) next_instruction-shrinks u (rw (none, next_instruction) refl)

  pub instructions-flaw : (u : Unread) (flaw : Flaw) → 0 < length u.left → instruction_at relocations h u ≡ Err flaw → instructions relocations h u ≡ only_fault flaw
  unfolding instructions next_instruction
  instructions-flaw u flaw some read =
      let left : eqb (length u.left) 0 ≡ false = ne_eqb _ _ (omega arith) in
      walk-fault (λ v. length v.left) (next_instruction relocations h) next_instruction-shrinks u flaw (rw (left, read, next_instruction) refl)

  pub instructions-more : (u v : Unread) (i : Instruction) → 0 < length u.left → instruction_at relocations h u ≡ Ok (i, v) → instructions relocations h u ≡ with_first i (instructions relocations h v)
  unfolding instructions next_instruction
  instructions-more u v i some read =
      let left : eqb (length u.left) 0 ≡ false = ne_eqb _ _ (omega arith) in
      walk-item (λ v. length v.left) (next_instruction relocations h) next_instruction-shrinks u v i (rw (left, read, next_instruction) refl)
