-- What always holds of the entries and attributes that calls answer.
use Rattle.std.proofs.Common.{◌≡◌, ℕ, ◌<◌, ◌≤◌, subst, sym, List, [], length, take, drop, map, Bool, true, false, Option, Some, None, Ok, Err}
use Rattle.std.specs.Prelude.{nat_lt, if◌then◌else◌}
use Rattle.std.specs.List.{All}
use Rattle.std.proofs.lemmas.List.{get_or-map, length-map}
use Rattle.std.proofs.lemmas.List.Elements.{All-nil, All-take, All-drop}
use Rattle.dwc_base.specs.declared.faults.What.TheVariants.{Entry as EntryRead}
use Rattle.dwc_base.specs.declared.section_name.SectionName.TheVariants.{Info}
use Rattle.dwc_base.specs.Reading.{Unread, Read, ◌>>=◌}
use Rattle.dwc_base.specs.Sections.{reported}
use Rattle.dwc_base.specs.Abbreviations.{Declaration, abbreviation_table}
use Rattle.dwc_dwarf.specs.Entries.{Entry, Found, entry_at}
use Rattle.dwc_dwarf.specs.ReadValues.{IsReadValue, IsReadEntry}
use Rattle.dwc_base.proofs.ReadValuesParts.{Holds, Holds-bind, Holds-at, AreBytes, InBytes}
use Rattle.dwc_base.proofs.ReadValuesTables.{IsReadDeclaration, abbreviation_table-read}
use Rattle.dwc_dwarf.proofs.ReadValuesEntries.{IfFound, entry_at-read}
use Rattle.dwc_read.specs.declared.value.AttributeValue.{AttributeValue}
use Rattle.dwc_read.specs.Lone.{unread_from, entry_found, entry_with, lone_entry}
use Rattle.dwc_read.specs.Views.{UnitView}
use Rattle.dwc_read.specs.ValuesSeen.{value_view, attribute_view}

-- ---- attributes

-- Each attribute of an entry that was read, as `attrs` answers them.
pub attrs-read : (xs : List (ℕ × AttributeValue)) (e : Entry) → IsReadEntry e → map attribute_view xs ≡ e.attributes → All (λ a. (a.0 ≤ 65535) × IsReadValue a.0 (value_view a.1)) xs
attrs-read xs e is same k d lt =
    let names = subst (All (λ a. a.0 ≤ 65535)) (sym same) is.names in
    let values = subst (All (λ a. IsReadValue a.0 a.1)) (sym same) is.values in
    let inside : k < length (map attribute_view xs) = subst (λ n. k < n) (sym (length-map xs attribute_view)) lt in
    let at = get_or-map attribute_view xs k d (attribute_view d) lt in
    (subst (λ a. a.0 ≤ 65535) at (names k (attribute_view d) inside), subst (λ a. IsReadValue a.0 a.1) at (values k (attribute_view d) inside))

-- ---- an entry on its own

entry_with-read : (u : UnitView) (table : List Declaration) (at : Unread) → All IsReadDeclaration table → AreBytes at.left → Holds IsReadEntry (entry_with u table at)
unfolding entry_with
entry_with-read u table at all bytes = go (entry_at u.sections u.header table 0 at) (entry_at-read u.sections u.header table 0 at all bytes)
  where
    found : (o : Option Found) → IfFound o → Holds IsReadEntry (entry_found at.place o)
    found None i = record { held = tt }
    found (Some f) i = record { held = i }

    go : (r : Read (Option Found)) → Holds (InBytes IfFound) r → Holds IsReadEntry (reported EntryRead Info at.place r >>= λ read. entry_found at.place read.0)
    go (Err flaw) k = record { held = tt }
    go (Ok read) k = found read.0 (k.held).0

lone_entry-read : (u : UnitView) (at : Unread) → AreBytes at.left → Holds IsReadEntry (lone_entry u at)
unfolding lone_entry
lone_entry-read u at bytes = Holds-bind (abbreviation_table u.sections u.header.abbreviations) _ (abbreviation_table-read u.sections u.header.abbreviations) (λ table all. entry_with-read u table at all bytes)

-- The root of a unit whose bytes are bytes.
pub root-read : (u : UnitView) (e : Entry) → All (λ b. b < 256) (u.header.content).left → lone_entry u u.header.content ≡ Ok e → IsReadEntry e
root-read u e bytes read = Holds-at e (lone_entry-read u u.header.content (record { below = bytes })) read

-- The entry at an offset, in a section of bytes.
pub entry-read : (u : UnitView) (offset : ℕ) (e : Entry) → All (λ b. b < 256) (u.sections.bytes Info) → lone_entry u (unread_from u offset) ≡ Ok e → IsReadEntry e
entry-read u offset e bytes read = Holds-at e (lone_entry-read u (unread_from u offset) (record { below = go (nat_lt offset (u.header.content).place) })) read
  where
    left : List ℕ
    left = drop offset (take u.header.end (u.sections.bytes Info))

    go : (before : Bool) → All (λ b. b < 256) (if before then [] else left)
    go true = All-nil (λ b. b < 256)
    go false = All-drop (λ b. b < 256) offset _ (All-take (λ b. b < 256) u.header.end (u.sections.bytes Info) bytes)
