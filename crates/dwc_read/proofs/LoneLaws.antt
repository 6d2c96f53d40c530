-- An entry on its own.
use Rattle.std.proofs.Common.{◌≡◌, ℕ, suc, ◌≤◌, inl, inr, refl, ap, sym, subst, ◌∙◌, arith, List, [], ◌∷◌, true, false, Result, Ok, Err, Some, None}
use Rattle.std.specs.Prelude.{nat_lt}
use Rattle.std.proofs.lemmas.Bool.{le-ltb}
use Rattle.dwc_base.specs.declared.faults.Flaw.{Flaw}
use Rattle.dwc_base.specs.declared.faults.What.TheVariants.{Entry as EntryRead}
use Rattle.dwc_base.specs.declared.section_name.SectionName.TheVariants.{Info}
use Rattle.dwc_base.specs.declared.faults.Flaw.TheVariants.{EndsEarly}
use Rattle.dwc_base.specs.Reading.{Unread, uleb_value}
use Rattle.dwc_base.proofs.LebLaws.{uleb_at-none}
use Rattle.dwc_base.specs.Listing.{Listing, only_fault}
use Rattle.dwc_base.specs.Sections.{Sections, Fault, fault_of, unreadable}
use Rattle.dwc_base.specs.Abbreviations.{Declaration, abbreviation_table}
use Rattle.dwc_base.specs.Units.{UnitHeader}
use Rattle.dwc_dwarf.specs.Entries.{Entry, Found, entry_at, entries_from, root_place, entries}
use Rattle.dwc_dwarf.specs.ExpressionPlaces.{unit_from}
use Rattle.dwc_dwarf.specs.UnitOffsets.{RiseIn}
use Rattle.dwc_dwarf.proofs.ExpressionPlaceLaws.{IsThere, EntryStands}
use Rattle.dwc_dwarf.proofs.UnitOffsets.{content-rise}
use Rattle.dwc_base.proofs.InLists.{IsIn}
use Rattle.dwc_read.specs.Views.{UnitView}
use Rattle.dwc_read.specs.Lone.{unread_from, entry_with, lone_entry}

module _ (u : UnitView) (table : List Declaration) (at v : Unread) where
  -- at an entry, at the end of a list of siblings, and at a flaw
  pub entry_with-found : (found : Found) → entry_at u.sections u.header table 0 at ≡ Ok (Some found, v) → entry_with u table at ≡ Ok found.entry
  unfolding entry_with
  entry_with-found found read = rw (read, entry_with) refl

  pub entry_with-end : entry_at u.sections u.header table 0 at ≡ Ok (None, v) → entry_with u table at ≡ Err (unreadable EntryRead Info at.place)
  unfolding entry_with
  entry_with-end read = rw (read, entry_with) refl

  pub entry_with-flaw : (flaw : Flaw) → entry_at u.sections u.header table 0 at ≡ Err flaw → entry_with u table at ≡ Err (fault_of EntryRead Info at.place flaw)
  unfolding entry_with
  entry_with-flaw flaw read = rw (read, entry_with) refl

-- with the unit's table, and without one
pub lone_entry-table : (u : UnitView) (table : List Declaration) (at : Unread) → abbreviation_table u.sections u.header.abbreviations ≡ Ok table → lone_entry u at ≡ entry_with u table at
unfolding lone_entry
lone_entry-table u table at read = rw (read, lone_entry) refl

pub lone_entry-fault : (u : UnitView) (at : Unread) (fault : Fault) → abbreviation_table u.sections u.header.abbreviations ≡ Err fault → lone_entry u at ≡ Err fault
unfolding lone_entry
lone_entry-fault u at fault read = rw (read, lone_entry) refl

pub entry_at-empty : (u : UnitView) (table : List Declaration) (at : Unread) → at.left ≡ [] → entry_at u.sections u.header table 0 at ≡ Err EndsEarly
unfolding entry_at
entry_at-empty u table at empty = rw (uleb_at-none at (ap uleb_value empty), entry_at) refl

-- where nothing is unread there is no entry
pub entry_with-empty : (u : UnitView) (table : List Declaration) (at : Unread) → at.left ≡ [] → entry_with u table at ≡ Err (unreadable EntryRead Info at.place)
entry_with-empty u table at empty = entry_with-flaw u table at at EndsEarly (entry_at-empty u table at empty)

pub lone_entry-empty : (u : UnitView) (at : Unread) (e : Entry) → at.left ≡ [] → lone_entry u at ≡ Ok e → ⊥
lone_entry-empty u at e empty read = go (abbreviation_table u.sections u.header.abbreviations) refl
  where
    refused : (fault : Fault) → ◌≡◌ {A = Result Entry Fault} (Err fault) (Ok e) → ⊥
    refused fault same = absurd (cc)

    go : (t : Result (List Declaration) Fault) → abbreviation_table u.sections u.header.abbreviations ≡ t → ⊥
    go (Err fault) known = refused fault (sym (lone_entry-fault u at fault known) ∙ read)
    go (Ok table) known = refused (unreadable EntryRead Info at.place) (sym (lone_entry-table u table at known ∙ entry_with-empty u table at empty) ∙ read)

-- before the unit's entries nothing is unread, and in them it is the unit's bytes
pub unread_from-before : (u : UnitView) (offset : ℕ) → nat_lt offset (u.header.content).place ≡ true → (unread_from u offset).left ≡ []
unread_from-before u offset before = rw before refl

pub unread_from-inside : (u : UnitView) (offset : ℕ) → nat_lt offset (u.header.content).place ≡ false → unread_from u offset ≡ unit_from u.sections u.header offset
unread_from-inside u offset inside = rw inside refl

-- What is read where an entry of a unit stands is the entry, but for its depth.
pub record IsReadThere (u : UnitView) (e : Entry) : Type 0 where
  pub read : Entry
  pub is : lone_entry u (unread_from u e.offset) ≡ Ok read
  pub offset : read.offset ≡ e.offset
  pub tag : read.tag ≡ e.tag
  pub attributes : read.attributes ≡ e.attributes

abbrev HasEntry : Entry → Listing Fault Entry → Type 0
HasEntry e l = IsIn e l.items

-- the abbreviation table of a unit that has an entry can be read
table-known : (s : Sections) (h : UnitHeader) (e : Entry) → IsIn e (entries s h).items → (table : List Declaration) × (abbreviation_table s h.abbreviations ≡ Ok table)
unfolding entries
table-known s h e i = go (abbreviation_table s h.abbreviations) refl i
  where
    go : (t : Result (List Declaration) Fault) → abbreviation_table s h.abbreviations ≡ t → HasEntry e (elim t [ Err fault ↦ only_fault fault | Ok table ↦ entries_from s h table (root_place h) ])
        → (table : List Declaration) × (abbreviation_table s h.abbreviations ≡ Ok table)
    go (Err fault) known j = absurd j
    go (Ok table) known j = (table, known)

-- entries that rise from a place on stand behind it
rise-in : (from end : ℕ) (es : List Entry) (e : Entry) → RiseIn from end es → IsIn e es → from ≤ e.offset
rise-in from end [] e rise i = absurd i
rise-in from end (x ∷ es) e rise (inl same) = subst (λ (y : Entry). from ≤ y.offset) (sym same) rise.0
rise-in from end (x ∷ es) e rise (inr i) = omega (arith, rise.0, rise-in (suc x.offset) end es e rise.2 i)

-- An entry of a unit that stands where it is read alone is read there.
pub lone_entry-read : (u : UnitView) (e : Entry) → EntryStands u.sections u.header e → IsIn e (entries u.sections u.header).items → IsReadThere u e
lone_entry-read u e stands i = found t.0 t.1 (stands.there t.0 t.1)
  where
    t : (table : List Declaration) × (abbreviation_table u.sections u.header.abbreviations ≡ Ok table)
    t = table-known u.sections u.header e i

    at : unread_from u e.offset ≡ unit_from u.sections u.header e.offset
    at = unread_from-inside u e.offset (le-ltb e.offset (u.header.content).place (rise-in _ _ (entries u.sections u.header).items e (content-rise u.sections u.header) i))

    found : (table : List Declaration) → abbreviation_table u.sections u.header.abbreviations ≡ Ok table → IsThere u.sections u.header table e → IsReadThere u e
    found table known there = record {
      read = (there.found).entry;
      is =
          lone_entry-table u table (unread_from u e.offset) known
          ∙ entry_with-found u table (unread_from u e.offset) there.behind there.found (ap (entry_at u.sections u.header table 0) at ∙ there.read);
      offset = there.offset;
      tag = there.tag;
      attributes = there.attributes;
    }
