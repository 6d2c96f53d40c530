-- The type of an entry in the output, as it is found by its offset, and as the definitions have it.
use Rattle.std.proofs.Common.{◌≡◌, ℕ, refl, sym, ap, ◌∙◌, List, true, is_some, Option, Some, None, Result, Ok, Err}
use Rattle.std.specs.Prelude.{◌==◌, if◌then◌else◌, option_and_then, option_map}
use Rattle.std.specs.List.{find}
use Rattle.std.specs.Option.{unwrap_or}
use Rattle.std.specs.Str.{is_utf8}
use Rattle.dwc_base.specs.declared.faults.Flaw.{Flaw}
use Rattle.dwc_base.specs.declared.faults.What.TheVariants.{BaseName, Text}
use Rattle.dwc_base.specs.declared.section_name.SectionName.TheVariants.{Info}
use Rattle.dwc_base.specs.declared.constants.TheConstants.{DW_AT_name, DW_AT_type}
use Rattle.dwc_base.specs.Reading.{◌>>=◌}
use Rattle.dwc_base.specs.Sections.{Fault, fault_of, reported, unreadable, unsupported}
use Rattle.dwc_dwarf.specs.Entries.{Entry, attribute}
use Rattle.dwc_rules.specs.Kept.{Placed}
use Rattle.dwc_rules.specs.Clones.{UnitSource}
use Rattle.dwc_rules.specs.Targets.{target_of}
use Rattle.dwc_dwarf.specs.Texts.{TextSource, text_named}
use Rattle.dwc_rules.specs.TypeNames.{in_utf8, name_of, target_in_unit, type_of, utf8_text}
use Rattle.dwc_dwarf.specs.Values.{Value, address, address_index, constant, flag, block, expression, text, text_reference, line_reference, range_reference, range_index, location_reference, location_index, unit_reference, info_reference, dropped}
use Rattle.dwc_rules.proofs.ForestLaws.{none_is}
use Rattle.dwc_kept.specs.ReadEntries.{named_offset}
use Rattle.dwc_read.specs.declared.fault.ReadFault.{ReadFault}
use Rattle.dwc_read.specs.declared.fault.ReadFault.TheVariants.{Read, Unsupported, OutOfMemory}
use Rattle.dwc_read.specs.Faults.{Refuses, fault_seen}
use Rattle.dwc_read.specs.Lone.{lone_entry, unread_from}
use Rattle.dwc_source.specs.declared.source.CloneSource.{CloneSource}
use Rattle.dwc_source.specs.Errors.{of_reading, refusal_told}
use Rattle.dwc_source.specs.OutputPlaces.{place_of}
use Rattle.dwc_source.specs.Sources.{IsEmitted, IsReadAlone, IsSource}
use Rattle.dwc_types.specs.TypeChains.{offset_in_unit, type_found}
use Rattle.dwc_types.specs.TypeSteps.{IsAlike}

-- ---- what is found

-- the type of an entry, by its offset
abbrev found_at : CloneSource → Option ℕ → Option (ℕ × ℕ)
found_at c o = option_and_then (λ offset. option_map (λ p. (offset, p.1)) (place_of c.places.now offset)) o

-- A type that is found has an offset, which is in the output.
pub record IsFound (c : CloneSource) (e : Entry) (offset : ℕ) : Type 0 where
  pub place : ℕ × ℕ
  pub at : offset_in_unit c (attribute DW_AT_type e) ≡ Some offset
  pub placed : place_of c.places.now offset ≡ Some place

pub is-found : (c : CloneSource) (e : Entry) (t : ℕ × ℕ) → type_found c e ≡ Some t → IsFound c e t.0
is-found c e t is = go (offset_in_unit c (attribute DW_AT_type e)) refl is
  where
    inner : (offset : ℕ) (p : Option (ℕ × ℕ)) → offset_in_unit c (attribute DW_AT_type e) ≡ Some offset → place_of c.places.now offset ≡ p → option_map (λ q. (offset, q.1)) p ≡ Some t → IsFound c e t.0
    inner offset None at placed is = absurd (none_is t is)
    inner offset (Some q) at placed is =
        let same : offset ≡ t.0 = ap (λ (x : Option (ℕ × ℕ)). (unwrap_or x t).0) is in
        record { place = q; at = at ∙ ap (λ n. Some n) same; placed = ap (place_of c.places.now) (sym same) ∙ placed }

    go : (o : Option ℕ) → offset_in_unit c (attribute DW_AT_type e) ≡ o → found_at c o ≡ Some t → IsFound c e t.0
    go None at is = absurd (none_is t is)
    go (Some offset) at is = inner offset (place_of c.places.now offset) at refl is

-- An entry whose type is at the same offset has the same type.
pub same-type : (c : CloneSource) (e f : Entry) (t : ℕ × ℕ) → type_found c e ≡ Some t → offset_in_unit c (attribute DW_AT_type f) ≡ Some t.0 → type_found c f ≡ Some t
same-type c e f t is at = ap (found_at c) (at ∙ sym (is-found c e t is).at) ∙ is

-- ---- references

-- A value is a reference within the unit.
record IsReference (v : Option Value) : Type 0 where
  pub number : ℕ
  pub is : v ≡ Some (unit_reference number)

offset-reference : (c : CloneSource) (v : Option Value) (offset : ℕ) → offset_in_unit c v ≡ Some offset → IsReference v
offset-reference c (Some (unit_reference n)) offset h = record { number = n; is = refl }
offset-reference c None offset h = absurd (none_is offset h)
offset-reference c (Some (address a)) offset h = absurd (none_is offset h)
offset-reference c (Some (address_index n)) offset h = absurd (none_is offset h)
offset-reference c (Some (constant form n)) offset h = absurd (none_is offset h)
offset-reference c (Some (flag b)) offset h = absurd (none_is offset h)
offset-reference c (Some (block bytes)) offset h = absurd (none_is offset h)
offset-reference c (Some (expression bytes)) offset h = absurd (none_is offset h)
offset-reference c (Some (text bytes)) offset h = absurd (none_is offset h)
offset-reference c (Some (text_reference form n)) offset h = absurd (none_is offset h)
offset-reference c (Some (line_reference n)) offset h = absurd (none_is offset h)
offset-reference c (Some (range_reference n)) offset h = absurd (none_is offset h)
offset-reference c (Some (range_index n)) offset h = absurd (none_is offset h)
offset-reference c (Some (location_reference n)) offset h = absurd (none_is offset h)
offset-reference c (Some (location_index n)) offset h = absurd (none_is offset h)
offset-reference c (Some (info_reference n)) offset h = absurd (none_is offset h)
offset-reference c (Some dropped) offset h = absurd (none_is offset h)

target-reference : (es : List Placed) (e f : Placed) (v : Option Value) → target_in_unit es e v ≡ Some f → IsReference v
target-reference es e f (Some (unit_reference n)) h = record { number = n; is = refl }
target-reference es e f None h = absurd (none_is f h)
target-reference es e f (Some (address a)) h = absurd (none_is f h)
target-reference es e f (Some (address_index n)) h = absurd (none_is f h)
target-reference es e f (Some (constant form n)) h = absurd (none_is f h)
target-reference es e f (Some (flag b)) h = absurd (none_is f h)
target-reference es e f (Some (block bytes)) h = absurd (none_is f h)
target-reference es e f (Some (expression bytes)) h = absurd (none_is f h)
target-reference es e f (Some (text bytes)) h = absurd (none_is f h)
target-reference es e f (Some (text_reference form n)) h = absurd (none_is f h)
target-reference es e f (Some (line_reference n)) h = absurd (none_is f h)
target-reference es e f (Some (range_reference n)) h = absurd (none_is f h)
target-reference es e f (Some (range_index n)) h = absurd (none_is f h)
target-reference es e f (Some (location_reference n)) h = absurd (none_is f h)
target-reference es e f (Some (location_index n)) h = absurd (none_is f h)
target-reference es e f (Some (info_reference n)) h = absurd (none_is f h)
target-reference es e f (Some dropped) h = absurd (none_is f h)

-- ---- as the definitions have it

-- The entry at an offset is the type of an entry.
pub record HasType (c : CloneSource) (s : UnitSource) (e : Placed) (offset : ℕ) : Type 0 where
  pub found : Placed
  pub is : type_of s.entries e ≡ Some found
  pub at : found.entry.offset ≡ offset
  pub emitted : IsEmitted c s found

pub has-type : (c : CloneSource) (number : ℕ) (s : UnitSource) (e : Placed) (t : ℕ × ℕ) → IsSource c number s → IsEmitted c s e → type_found c e.entry ≡ Some t → HasType c s e t.0
has-type c number s e t source emitted is =
    go (target_of s.entries e (unit_reference r.number)) refl (source.targets e (unit_reference r.number) emitted.unit ∙ ap (option_and_then (place_of c.places.now)) named ∙ f.placed)
  where
    f : IsFound c e.entry t.0
    f = is-found c e.entry t is

    r : IsReference (attribute DW_AT_type e.entry)
    r = offset-reference c (attribute DW_AT_type e.entry) t.0 f.at

    named : named_offset c.unit.now.header.offset c.unit.now.header.end (unit_reference r.number) ≡ Some t.0
    named = sym (ap (offset_in_unit c) r.is) ∙ f.at

    go : (o : Option Placed) → target_of s.entries e (unit_reference r.number) ≡ o → option_and_then (λ g. place_of c.places.now g.entry.offset) o ≡ Some f.place → HasType c s e t.0
    go None target placed = absurd (none_is f.place placed)
    go (Some g) target placed =
        let type_is : type_of s.entries e ≡ Some g = ap (target_in_unit s.entries e) r.is ∙ target in
        let said = source.named e g (unit_reference r.number) emitted.unit target (ap is_some placed) in
        record { found = g; is = type_is; at = ap (λ (x : Option ℕ). unwrap_or x 0) (sym said ∙ named); emitted = source.types e g emitted type_is }

pub no-type : (c : CloneSource) (number : ℕ) (s : UnitSource) (e : Placed) → IsSource c number s → IsEmitted c s e → type_found c e.entry ≡ None → type_of s.entries e ≡ None
no-type c number s e source emitted is = go (type_of s.entries e) refl
  where
    unplaced : (offset : ℕ) (p : Option (ℕ × ℕ)) → is_some p ≡ true → option_map {U = ℕ × ℕ} (λ q. (offset, q.1)) p ≡ None → ⊥
    unplaced offset None kept none = absurd (cc)
    unplaced offset (Some q) kept none = none_is (offset, q.1) (sym none)

    go : (o : Option Placed) → type_of s.entries e ≡ o → type_of s.entries e ≡ None
    go None at = at
    go (Some g) at =
        let r = target-reference s.entries e g (attribute DW_AT_type e.entry) at in
        let target : target_of s.entries e (unit_reference r.number) ≡ Some g = sym (ap (target_in_unit s.entries e) r.is) ∙ at in
        let kept = (source.types e g emitted at).kept in
        let named = ap (offset_in_unit c) r.is ∙ source.named e g (unit_reference r.number) emitted.unit target kept in
        absurd (unplaced g.entry.offset (place_of c.places.now g.entry.offset) kept (sym (ap (found_at c) named) ∙ is))

-- ---- entries that are alike

pub value-alike : (name : ℕ) (a b : Entry) → IsAlike a b → attribute name a ≡ attribute name b
value-alike name a b like = ap (λ as'. option_map (λ x. x.1) (find (λ x. x.0 == name) as')) like.attributes

-- They have the same type and the same name.
pub alike-type : (c : CloneSource) (a b : Entry) → IsAlike a b → type_found c a ≡ type_found c b
alike-type c a b like = ap (λ v. found_at c (offset_in_unit c v)) (value-alike DW_AT_type a b like)

pub alike-name : (texts : TextSource) (a b : Placed) → IsAlike a.entry b.entry → name_of texts a ≡ name_of texts b
alike-name texts a b like = ap (utf8_text texts a) (value-alike DW_AT_name a.entry b.entry like) ∙ offset_alike (attribute DW_AT_name b.entry)
  where
    refused : Option (List ℕ) → ℕ → Result (Option (List ℕ)) Fault
    refused None offset = Ok None
    refused (Some bytes) offset = if is_utf8 bytes then Ok (Some bytes) else Err (unreadable BaseName Info offset)

    offset_alike : (v : Option Value) → utf8_text texts a v ≡ utf8_text texts b v
    offset_alike None = refl
    offset_alike (Some v) = go (text_named texts v)
      where
        go : (r : Result (Option (List ℕ)) Flaw) → (reported Text Info a.entry.offset r >>= in_utf8 a) ≡ (reported Text Info b.entry.offset r >>= in_utf8 b)
        go (Err flaw) = ap (λ offset. Err (fault_of Text Info offset flaw)) like.offset
        go (Ok None) = refl
        go (Ok (Some bytes)) = ap (refused (Some bytes)) like.offset

-- what was read
abbrev read_or : Result Entry Fault → Entry → Entry
read_or (Ok e) other = e
read_or (Err fault) other = other

-- Entries in the output at one offset are alike.
pub one-entry : (c : CloneSource) (number : ℕ) (s : UnitSource) (e f : Placed) → IsSource c number s → IsEmitted c s e → IsEmitted c s f → e.entry.offset ≡ f.entry.offset → IsAlike e.entry f.entry
one-entry c number s e f source here there same =
    let a = source.alone e here in
    let b = source.alone f there in
    let read : a.read ≡ b.read = ap (λ (r : Result Entry Fault). read_or r a.read) (sym a.is ∙ ap (λ n. lone_entry c.unit.now (unread_from c.unit.now n)) same ∙ b.is) in
    record {
      offset = same;
      tag = sym a.tag ∙ ap (λ (x : Entry). x.tag) read ∙ b.tag;
      attributes = sym a.attributes ∙ ap (λ (x : Entry). x.attributes) read ∙ b.attributes;
    }

-- What is read alone at its offset is alike.
pub read-alike : (c : CloneSource) (number : ℕ) (s : UnitSource) (f : Placed) (offset : ℕ) (read : Entry) → IsSource c number s → IsEmitted c s f → f.entry.offset ≡ offset → lone_entry c.unit.now (unread_from c.unit.now offset) ≡ Ok read → IsAlike read f.entry
read-alike c number s f offset read source emitted at is =
    let a = source.alone f emitted in
    let same : a.read ≡ read = ap (λ (r : Result Entry Fault). read_or r a.read) (sym a.is ∙ ap (λ n. lone_entry c.unit.now (unread_from c.unit.now n)) at ∙ is) in
    record {
      offset = sym (ap (λ (x : Entry). x.offset) same) ∙ a.offset;
      tag = sym (ap (λ (x : Entry). x.tag) same) ∙ a.tag;
      attributes = sym (ap (λ (x : Entry). x.attributes) same) ∙ a.attributes;
    }

-- A refusal there is for want of memory.
pub alone-refused : (c : CloneSource) (number : ℕ) (s : UnitSource) (f : Placed) (offset : ℕ) (fault : ReadFault) → IsSource c number s → IsEmitted c s f → f.entry.offset ≡ offset → Refuses (lone_entry c.unit.now (unread_from c.unit.now offset)) (fault_seen fault) → refusal_told (of_reading fault) ≡ None
alone-refused c number s f offset fault source emitted at refused = go fault refused
  where
    a : IsReadAlone c f.entry
    a = source.alone f emitted

    none : (x : Fault) → lone_entry c.unit.now (unread_from c.unit.now offset) ≡ Err x → ⊥
    none x is = err-ok x a.read (sym is ∙ ap (λ n. lone_entry c.unit.now (unread_from c.unit.now n)) (sym at) ∙ a.is)
      where
        err-ok : (y : Fault) (z : Entry) → Err y ≡ Ok z → ⊥
        err-ok y z h = absurd (cc)

    go : (e : ReadFault) → Refuses (lone_entry c.unit.now (unread_from c.unit.now offset)) (fault_seen e) → refusal_told (of_reading e) ≡ None
    go (Read what section place) is = absurd (none (unreadable what section place) is)
    go (Unsupported kind place) is = absurd (none (unsupported kind place) is)
    go OutOfMemory is = refl
