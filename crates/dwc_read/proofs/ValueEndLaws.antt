-- Where the values of an entry's attributes end, one by one, and that its expressions stand before these ends.
use Rattle.std.proofs.Common.{◌≡◌, ℕ, suc, ◌+◌, ◌<◌, ◌≤◌, refl, ap, sym, subst, ◌∙◌, List, [], ◌∷◌, length, get_or, Bool, true, false, Option, Some, None, Result, Ok, Err}
use Rattle.std.specs.Prelude.{nat_lt, slice_get}
use Rattle.dwc_base.specs.declared.faults.Flaw.{Flaw}
use Rattle.dwc_base.specs.declared.faults.What.TheVariants.{Entry as EntryRead}
use Rattle.dwc_base.specs.declared.section_name.SectionName.TheVariants.{Info}
use Rattle.dwc_base.specs.Reading.{Unread, Read, ◌>>=◌, uleb_value}
use Rattle.dwc_base.specs.Sections.{Sections, Fault, reported}
use Rattle.dwc_base.specs.Abbreviations.{Declaration, abbreviation_table}
use Rattle.dwc_base.specs.Units.{UnitHeader}
use Rattle.dwc_dwarf.specs.Values.{Value, value_at}
use Rattle.dwc_dwarf.specs.Entries.{Entry, Found, entry_at}
use Rattle.dwc_dwarf.specs.ExpressionPlaces.{unit_from, attribute_ends, entry_ends, value_ends}
use Rattle.dwc_base.proofs.LebLaws.{uleb_at-none}
use Rattle.dwc_base.proofs.ReadValuesParts.{Holds}
use Rattle.dwc_dwarf.proofs.ExpressionPlaceLaws.{ExpressionsStand, FoundStands, entry_at-stands}
use Rattle.dwc_read.specs.declared.attribute_spec.AttributeSpec.{AttributeSpec}
use Rattle.dwc_read.specs.Lone.{unread_from, entry_found, entry_with, lone_entry}
use Rattle.dwc_read.specs.AttributeSpecs.{spec_view}
use Rattle.dwc_read.specs.Views.{UnitView}
use Rattle.dwc_read.proofs.LoneLaws.{lone_entry-empty, unread_from-before, unread_from-inside}
use Rattle.dwc_read.proofs.AttributeLaws.{specs_from, specs_from-next, drop-past}

module _ (s : Sections) (h : UnitHeader) (specs : List AttributeSpec) (i : ℕ) (d : AttributeSpec) (u v : Unread) where
  -- at a value, and at a flaw
  pub attribute_ends-more : (x : Value) → i < length specs → value_at s h (spec_view (get_or specs i d)) u ≡ Ok (x, v)
      → attribute_ends s h (specs_from i specs) u ≡ v.place ∷ attribute_ends s h (specs_from (i + 1) specs) v
  unfolding attribute_ends
  attribute_ends-more x inside read = rw (specs_from-next specs i d inside) (rw (read, attribute_ends) refl)

  pub attribute_ends-flaw : (flaw : Flaw) → i < length specs → value_at s h (spec_view (get_or specs i d)) u ≡ Err flaw → attribute_ends s h (specs_from i specs) u ≡ []
  unfolding attribute_ends
  attribute_ends-flaw flaw inside read = rw (specs_from-next specs i d inside) (rw (read, attribute_ends) refl)

-- and behind the last
pub attribute_ends-end : (s : Sections) (h : UnitHeader) (specs : List AttributeSpec) (i : ℕ) (u : Unread) → length specs ≤ i → attribute_ends s h (specs_from i specs) u ≡ []
unfolding attribute_ends
attribute_ends-end s h specs i u past = rw (drop-past specs i past) refl

-- behind the first
pub slice_get-behind : (x : ℕ) (xs : List ℕ) (k n : ℕ) → suc k ≡ n → slice_get (x ∷ xs) n ≡ slice_get xs k
slice_get-behind x xs k n e = rw (← e) refl

-- ---- the values of an entry

-- nothing is read of nothing
pub entry_ends-empty : (s : Sections) (h : UnitHeader) (table : List Declaration) (u : Unread) → u.left ≡ [] → entry_ends s h table u ≡ []
unfolding entry_ends
entry_ends-empty s h table u empty = rw (uleb_at-none u (ap uleb_value empty), entry_ends) refl

-- with the unit's table, and without one
pub value_ends-table : (s : Sections) (h : UnitHeader) (offset : ℕ) (table : List Declaration) → abbreviation_table s h.abbreviations ≡ Ok table → value_ends s h offset ≡ entry_ends s h table (unit_from s h offset)
unfolding value_ends
value_ends-table s h offset table read = rw (read, value_ends) refl

pub value_ends-fault : (s : Sections) (h : UnitHeader) (offset : ℕ) (fault : Fault) → abbreviation_table s h.abbreviations ≡ Err fault → value_ends s h offset ≡ []
unfolding value_ends
value_ends-fault s h offset fault read = rw (read, value_ends) refl

-- ---- where expressions stand

at_offset-stands : (u : UnitView) (offset : ℕ) (e : Entry) → lone_entry u (unit_from u.sections u.header offset) ≡ Ok e → ExpressionsStand u.sections u.header e
unfolding lone_entry entry_with
at_offset-stands u offset e read = go (abbreviation_table u.sections u.header.abbreviations) refl read
  where
    found : (r : Read (Option Found)) → Holds (FoundStands u.sections u.header) r → (reported EntryRead Info offset r >>= λ read. entry_found offset read.0) ≡ Ok e → ExpressionsStand u.sections u.header e
    found (Err flaw) stands is = absurd (cc)
    found (Ok (None, v)) stands is = absurd (cc)
    found (Ok (Some f, v)) stands is = let same : f.entry ≡ e = cc in subst (ExpressionsStand u.sections u.header) same ((stands.held).0).expressions

    go : (t : Result (List Declaration) Fault) → abbreviation_table u.sections u.header.abbreviations ≡ t → (t >>= λ table. entry_with u table (unit_from u.sections u.header offset)) ≡ Ok e → ExpressionsStand u.sections u.header e
    go (Err fault) known is = absurd (cc)
    go (Ok table) known is =
        found (entry_at u.sections u.header table 0 (unit_from u.sections u.header offset)) (entry_at-stands u.sections u.header table known 0 (unit_from u.sections u.header offset) (record { same = refl })) is

-- Each expression of an entry that is read on its own has its bytes in the section at its place.
pub lone_entry-stands : (u : UnitView) (offset : ℕ) (e : Entry) → lone_entry u (unread_from u offset) ≡ Ok e → ExpressionsStand u.sections u.header e
lone_entry-stands u offset e read = go (nat_lt offset (u.header.content).place) refl
  where
    go : (before : Bool) → nat_lt offset (u.header.content).place ≡ before → ExpressionsStand u.sections u.header e
    go true before = absurd (lone_entry-empty u (unread_from u offset) e (unread_from-before u offset before) read)
    go false inside = at_offset-stands u offset e (ap (lone_entry u) (sym (unread_from-inside u offset inside)) ∙ read)
