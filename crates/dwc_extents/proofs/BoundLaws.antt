-- What is refused of bounds.
use Rattle.std.proofs.Common.{◌≡◌, ◌≢◌, ◌<◌, ◌+◌, arith, subst, ℕ, refl, sym, ap, ap₂, ◌∙◌, List, drop, get_or, length, map, take, Bool, true, false, Option, Some, None, Result, Ok, Err}
use Rattle.std.specs.Prelude.{not, ◌&&◌, ◌||◌, ◌==◌, if◌then◌else◌, option_and_then, option_map}
use Rattle.std.specs.Option.{option_or}
use Rattle.std.proofs.lemmas.Bool.{eq-eqb, eqb-true, ne_eqb}
use Rattle.std.proofs.lemmas.List.{drop_more, get_or-map, length-map, length-take-le, take-map}
use Rattle.std.proofs.lemmas.List.Folds.{list_any_at}
use Rattle.dwc_base.specs.declared.records.Address.{Address}
use Rattle.dwc_base.specs.declared.section_name.SectionName.{SectionName}
use Rattle.dwc_base.specs.declared.section_name.SectionName.TheVariants.{Info}
use Rattle.dwc_base.specs.declared.constants.TheConstants.{DW_AT_high_pc, DW_AT_low_pc, DW_AT_ranges}
use Rattle.dwc_base.specs.declared.faults.What.{What}
use Rattle.dwc_base.specs.declared.faults.What.TheVariants.{AddressValue, Text}
use Rattle.dwc_base.specs.declared.faults.Flaw.{Flaw}
use Rattle.dwc_base.specs.declared.faults.Flaw.TheVariants.{EndsEarly, TooWide, Malformed, Refused}
use Rattle.dwc_base.specs.Reading.{◌>>=◌}
use Rattle.dwc_base.specs.Sections.{Fault, Sections, fault_of, reported}
use Rattle.dwc_base.specs.Units.{UnitHeader}
use Rattle.dwc_dwarf.specs.Values.{Value, address, address_index, constant, flag, block, text, text_reference, unit_reference, info_reference, line_reference, dropped, expression, range_reference, range_index, location_reference, location_index}
use Rattle.dwc_dwarf.specs.Entries.{Entry, attribute}
use Rattle.dwc_dwarf.specs.Texts.{TextSource, text_named}
use Rattle.dwc_native.specs.Functions.{Function}
use Rattle.dwc_dwarf.specs.Indexed.{address_indexed, address_named}
use Rattle.dwc_rules.specs.Kept.{Placed}
use Rattle.dwc_rules.specs.Drafts.{DraftValue}
use Rattle.dwc_dwarf.specs.RawLists.{ListSource, is_range_list}
use Rattle.dwc_dwarf.specs.Lists.{ListRefusal, list_source, ranges_of_value}
use Rattle.dwc_dwarf.specs.Lists as Lists
use Rattle.dwc_rules.specs.Refusals.{Refusal, of_place}
use Rattle.dwc_rules.specs.RangeRefusals.{begins_by_low_pc, bound_refusal, bounds_refusal, extent_refusal, flaw_in, has_name, index_fault, is_later_bound}
use Rattle.dwc_rules.specs.EntryRules.{bound_value_refused, of_list}
use Rattle.dwc_rules.specs.Clones.{UnitSource, bound_becomes, nothing_unless, text_drafted}
use Rattle.dwc_isa.specs.Registers.{Registers}
use Rattle.dwc_read.specs.ValuesSeen.{attribute_view, value_view}
use Rattle.dwc_read.specs.declared.value.AttributeValue.TheVariants.{RangeIndex, RangeRef}
use Rattle.dwc_read.specs.declared.value.AttributeValue.{AttributeValue as InputValue}
use Rattle.dwc_read.specs.Bases.{address_of_value}
use Rattle.dwc_read.specs.Faults.{Refuses, fault_at}
use Rattle.dwc_source.specs.declared.error.CloneError.{CloneError}
use Rattle.dwc_source.specs.declared.source.CloneSource.{CloneSource}
use Rattle.dwc_extents.specs.BoundRefusals.{IsSound, list_refusal}
use Rattle.dwc_extents.specs.CodeSources.{clone_rules, source_with}
use Rattle.dwc_source.specs.Errors.{refusal_told}
use Rattle.dwc_source.specs.MadeValues.{GivesMade, RefusesSo}
use Rattle.dwc_extents.specs.NativeExtents.{IsTold, TellsRefusal}

-- ---- both bounds

without-low : (low high : Bool) → (not low && high) ≡ (high && not (low && high))
without-low true true = refl
without-low true false = refl
without-low false true = refl
without-low false false = refl

without-high : (low high : Bool) → (not high && low) ≡ ((low && true) && not (low && high))
without-high true true = refl
without-high true false = refl
without-high false true = refl
without-high false false = refl

never-both : (low high : Bool) → ((low && high) && not (low && high)) ≡ false
never-both true true = refl
never-both true false = refl
never-both false true = refl
never-both false false = refl

-- A bound is the later one of both where the other one comes before it and none of its name does; no other attribute is.
pub later-low : (before : List (ℕ × Value)) (name : ℕ) (v : Value) → name ≡ DW_AT_low_pc → (not (has_name DW_AT_low_pc before) && has_name DW_AT_high_pc before) ≡ is_later_bound before (name, v)
later-low before name v is =
    subst (λ n. (not (has_name DW_AT_low_pc before) && has_name DW_AT_high_pc before) ≡ is_later_bound before (n, v)) (sym is) (without-low (has_name DW_AT_low_pc before) (has_name DW_AT_high_pc before))

pub later-high : (before : List (ℕ × Value)) (name : ℕ) (v : Value) → name ≡ DW_AT_high_pc → (not (has_name DW_AT_high_pc before) && has_name DW_AT_low_pc before) ≡ is_later_bound before (name, v)
later-high before name v is =
    subst (λ n. (not (has_name DW_AT_high_pc before) && has_name DW_AT_low_pc before) ≡ is_later_bound before (n, v)) (sym is) (without-high (has_name DW_AT_low_pc before) (has_name DW_AT_high_pc before))

pub later-not : (before : List (ℕ × Value)) (name : ℕ) (v : Value) → (name == DW_AT_low_pc) ≡ false → (name == DW_AT_high_pc) ≡ false → is_later_bound before (name, v) ≡ false
later-not before name v low high =
    let has_low = has_name DW_AT_low_pc before in
    let has_high = has_name DW_AT_high_pc before in
    ap₂ (λ l h. ((l || has_low) && (h || has_high)) && not (has_low && has_high)) low high ∙ never-both has_low has_high

-- What stands before a bound, as the front that is looked through.
pub before-front : (xs front : List (ℕ × InputValue)) (number : ℕ) (all before : List (ℕ × Value)) → map attribute_view xs ≡ all → front ≡ take number xs → before ≡ take number all → map attribute_view front ≡ before
before-front xs front number all before is cut so = ap (map attribute_view) cut ∙ sym (take-map attribute_view number xs) ∙ ap (take number) is ∙ sym so

-- ---- attributes of a name, looked for from the last one on

-- one stands among some where it stands at a place
pub name-here : (xs : List (ℕ × InputValue)) (i name : ℕ) (d : ℕ × InputValue) → i < length xs → (get_or xs i d).0 ≡ name → has_name name (map attribute_view xs) ≡ true
name-here xs i name d within is =
    list_any_at (λ a. a.0 == name) (map attribute_view xs) i (attribute_view d) (subst (λ n. i < n) (sym (length-map xs attribute_view)) within)
    (ap (λ (a : ℕ × Value). a.0 == name) (get_or-map attribute_view xs i d (attribute_view d) within) ∙ eq-eqb (get_or xs i d).0 name is)

-- none stands from a place on where none does behind it, and none there
pub name-not : (xs : List (ℕ × InputValue)) (i name : ℕ) (d : ℕ × InputValue) → i < length xs → (get_or xs i d).0 ≢ name → has_name name (map attribute_view (drop (i + 1) xs)) ≡ false → has_name name (map attribute_view (drop i xs)) ≡ false
name-not xs i name d within other none =
    ap (λ ys. has_name name (map attribute_view ys)) (drop_more xs i d within)
    ∙ ap (λ b. b || has_name name (map attribute_view (drop (i + 1) xs))) (ne_eqb (get_or xs i d).0 name other)
    ∙ none

-- ---- addresses

at-fault : (what : What) (section : SectionName) (here there : ℕ) (flaw : Flaw) → fault_at there (fault_of what section here flaw) ≡ fault_of what section there flaw
at-fault what section here there EndsEarly = refl
at-fault what section here there TooWide = refl
at-fault what section here there Malformed = refl
at-fault what section here there (Refused kind) = refl

module _ (s : Sections) (h : UnitHeader) (offset : ℕ) where
  -- the fault of an address by an index is that of the address that a value is
  fault-named : (v : Value) → index_fault (list_source s h) offset v ≡ option_map (fault_of AddressValue Info offset) (flaw_in (address_named s h v))
  unfolding address_named list_source
  fault-named (address a) = refl
  fault-named (address_index i) = go (address_indexed s h i)
    where
      go : (r : Result Address Flaw) → option_map (fault_of AddressValue Info offset) (flaw_in r) ≡ option_map (fault_of AddressValue Info offset) (flaw_in (r >>= λ a. Ok (Some a)))
      go (Ok a) = refl
      go (Err flaw) = refl
  fault-named (constant form bits) = refl
  fault-named (flag b) = refl
  fault-named (block bytes) = refl
  fault-named (text bytes) = refl
  fault-named (text_reference form n) = refl
  fault-named (unit_reference n) = refl
  fault-named (info_reference n) = refl
  fault-named (line_reference n) = refl
  fault-named dropped = refl
  fault-named (expression bytes) = refl
  fault-named (range_reference n) = refl
  fault-named (range_index n) = refl
  fault-named (location_reference n) = refl
  fault-named (location_index n) = refl

  -- An address that is read for a unit has no fault at an entry.
  pub address-read : (v : Value) (a : Option Address) → address_of_value s h v ≡ Ok a → option_map of_place (index_fault (list_source s h) offset v) ≡ None
  address-read v a same = ap (option_map of_place) (fault-named v) ∙ go (address_named s h v) same
    where
      go : (r : Result (Option Address) Flaw) → reported AddressValue Info h.offset r ≡ Ok a → option_map of_place (option_map (fault_of AddressValue Info offset) (flaw_in r)) ≡ None
      go (Ok b) same = refl
      go (Err flaw) same = absurd (cc)

  -- One that is not is told at the entry.
  pub address-told : (v : Value) (seen : Option Fault) → Refuses (address_of_value s h v) seen → IsTold (option_map of_place (index_fault (list_source s h) offset v)) (option_map of_place (option_map (fault_at offset) seen))
  address-told v None refused = tt
  address-told v (Some fault) refused = ap (option_map of_place) (fault-named v ∙ go (address_named s h v) refused)
    where
      go : (r : Result (Option Address) Flaw) → reported AddressValue Info h.offset r ≡ Err fault → option_map (fault_of AddressValue Info offset) (flaw_in r) ≡ Some (fault_at offset fault)
      go (Ok b) same = absurd (cc)
      go (Err flaw) same =
          let is : fault_of AddressValue Info h.offset flaw ≡ fault = cc in
          ap Some (sym (at-fault AddressValue Info h.offset offset flaw) ∙ ap (fault_at offset) is)

-- ---- one refusal behind another

-- the first of two refusals is told
pub told-first : (a b : Option ListRefusal) (told : Option Refusal) → IsTold (option_map of_list a) told → IsTold (option_map of_list (option_or a b)) told
told-first a b None is = tt
told-first None b (Some told) is = absurd (cc)
told-first (Some refusal) b (Some told) is = is

-- or else the second
pub told-second : (a b : Option ListRefusal) (r : Result (Unit {0}) CloneError) → option_map of_list a ≡ None → TellsRefusal (option_map of_list b) r → TellsRefusal (option_map of_list (option_or a b)) r
told-second None b r none is = is
told-second (Some refusal) b r none is = absurd (cc)

-- ---- code

module _ (s : ListSource) (fs : List Function) (e : Entry) (before : List (ℕ × Value)) (a : ℕ × Value) where
  listed-place : (o : Option Fault) → option_map of_list (option_map Lists.of_place o) ≡ option_map of_place o
  listed-place None = refl
  listed-place (Some fault) = refl

  -- what follows the address of a bound
  abbrev behind_address : Option ListRefusal
  behind_address = if begins_by_low_pc s fs e then None else extent_refusal s e before a

  refused-is : bound_refusal s fs e before a ≡ option_or (option_map Lists.of_place (index_fault s e.offset a.1)) behind_address
  unfolding bound_refusal
  refused-is = refl

  -- The address of a bound is refused first.
  pub code-unread : (told : Option Refusal) → IsTold (option_map of_place (index_fault s e.offset a.1)) told → IsTold (option_map of_list (bound_refusal s fs e before a)) told
  code-unread told is =
      subst (λ o. IsTold (option_map of_list o) told) (sym refused-is)
      (told-first (option_map Lists.of_place (index_fault s e.offset a.1)) behind_address told (subst (λ o. IsTold o told) (sym (listed-place (index_fault s e.offset a.1))) is))

  code-behind : (r : Result (Unit {0}) CloneError) → option_map of_place (index_fault s e.offset a.1) ≡ None → TellsRefusal (option_map of_list behind_address) r → TellsRefusal (option_map of_list (bound_refusal s fs e before a)) r
  code-behind r read is =
      subst (λ o. TellsRefusal (option_map of_list o) r) (sym refused-is)
      (told-second (option_map Lists.of_place (index_fault s e.offset a.1)) behind_address r (listed-place (index_fault s e.offset a.1) ∙ read) is)

  -- Of an entry that begins in a function by its low_pc no more is refused.
  pub code-begins : option_map of_place (index_fault s e.offset a.1) ≡ None → true ≡ begins_by_low_pc s fs e → option_map of_list (bound_refusal s fs e before a) ≡ None
  code-begins read begins = code-behind (Ok tt) read (ap (λ b. option_map of_list (if b then None else extent_refusal s e before a)) (sym begins))

  -- Of another its extent is.
  pub code-extent : (r : Result (Unit {0}) CloneError) → option_map of_place (index_fault s e.offset a.1) ≡ None → false ≡ begins_by_low_pc s fs e → TellsRefusal (option_map of_list (extent_refusal s e before a)) r → TellsRefusal (option_map of_list (bound_refusal s fs e before a)) r
  code-extent r read begins is = code-behind r read (subst (λ b. TellsRefusal (option_map of_list (if b then None else extent_refusal s e before a)) r) begins is)

  -- Of one with a sound extent no bound is that names no other list.
  pub code-sound : option_map of_place (index_fault s e.offset a.1) ≡ None → IsSound s e → list_refusal s e.offset a ≡ None → option_map of_list (bound_refusal s fs e before a) ≡ None
  code-sound read sound listed = code-behind (Ok tt) read (unless (begins_by_low_pc s fs e))
    where
      bounded : (b : Bool) → (if b then bounds_refusal s e else None) ≡ None
      bounded true = sound.bounded
      bounded false = refl

      unrefused : extent_refusal s e before a ≡ None
      unrefused = ap (λ o. option_or o (if is_later_bound before a then bounds_refusal s e else None)) listed ∙ bounded (is_later_bound before a)

      unless : (b : Bool) → option_map of_list (if b then None else extent_refusal s e before a) ≡ None
      unless true = refl
      unless false = ap (option_map of_list) unrefused

-- ---- the range list of an entry

pub same_reference : (v w : InputValue) (m n : ℕ) → v ≡ RangeRef m → w ≡ RangeRef n → (m == n) ≡ true → value_view v ≡ value_view w
same_reference v w m n first other same = ap value_view first ∙ ap range_reference (eqb-true m n same) ∙ sym (ap value_view other)

pub same_index : (v w : InputValue) (m n : ℕ) → v ≡ RangeIndex m → w ≡ RangeIndex n → (m == n) ≡ true → value_view v ≡ value_view w
same_index v w m n first other same = ap value_view first ∙ ap range_index (eqb-true m n same) ∙ sym (ap value_view other)

module _ (s : ListSource) (e : Entry) (name : ℕ) (v : Value) where
  pub own-list : attribute DW_AT_ranges e ≡ Some v → IsSound s e → list_refusal s e.offset (name, v) ≡ None
  own-list is sound = go (name == DW_AT_ranges) (is_range_list v) refl
    where
      go : (named list : Bool) → is_range_list v ≡ list → (if named && list then (ranges_of_value s e.offset v).fault else None) ≡ None
      go false list at = refl
      go true false at = refl
      go true true at = sound.listed v (ap (option_and_then (λ w. if is_range_list w then Some w else None)) is ∙ ap (λ b. if b then Some v else None) at)

  pub other-name : (name == DW_AT_ranges) ≡ false → list_refusal s e.offset (name, v) ≡ None
  other-name other = ap (λ b. if b && is_range_list v then (ranges_of_value s e.offset v).fault else None) other

-- ---- bounds

module _ (registers : Registers) (c : CloneSource) (s : UnitSource) (e : Placed) (before : List (ℕ × Value)) (a : ℕ × Value) (texts : TextSource) (here : ℕ) (same : s.texts ≡ texts) (at : e.entry.offset ≡ here) where
  -- what is refused of a bound whose text is read
  abbrev refused : Option Refusal
  refused = bound_value_refused (source_with registers c s) e before a.0 a.1

  -- what the bound becomes
  abbrev becomes : Result (Option (List ℕ)) Fault → Result (Option DraftValue) Refusal
  becomes read = text_drafted of_place read >>= λ draft. nothing_unless refused

  bound-is : bound_becomes (clone_rules registers c s) s e before a ≡ becomes (reported Text Info here (text_named texts a.1))
  unfolding bound_becomes
  bound-is = ap₂ (λ (t : TextSource) (n : ℕ). becomes (reported Text Info n (text_named t a.1))) same at

  -- A bound that is a text that cannot be read is refused for it.
  pub bound-unread : (seen : Option Fault) → Refuses (reported Text Info here (text_named texts a.1)) seen → RefusesSo (bound_becomes (clone_rules registers c s) s e before a) (option_map of_place seen)
  bound-unread None unread = tt
  bound-unread (Some fault) unread = bound-is ∙ ap becomes unread

  -- Of another what else is refused is told.
  pub bound-told : (o : Option (List ℕ)) (r : Result (Unit {0}) CloneError) → reported Text Info here (text_named texts a.1) ≡ Ok o → TellsRefusal refused r → GivesMade (λ draft done. draft ≡ None) (bound_becomes (clone_rules registers c s) s e before a) r
  bound-told o r read = go r
    where
      now : bound_becomes (clone_rules registers c s) s e before a ≡ nothing_unless refused
      now = bound-is ∙ ap becomes read

      told : (t : Option Refusal) → IsTold refused t → RefusesSo (bound_becomes (clone_rules registers c s) s e before a) t
      told None is = tt
      told (Some refusal) is = now ∙ ap nothing_unless is

      go : (r : Result (Unit {0}) CloneError) → TellsRefusal refused r → GivesMade (λ draft done. draft ≡ None) (bound_becomes (clone_rules registers c s) s e before a) r
      go (Ok done) none = record { drafted = None; is = now ∙ ap nothing_unless none; made = refl }
      go (Err error) is = told (refusal_told error) is

-- ---- attributes in front of one

-- There are as many of them as its number says.
pub before-many : (all before : List (ℕ × Value)) (number : ℕ) → before ≡ take number all → number < length all → length before ≡ number
before-many all before number is within = ap length is ∙ length-take-le number all (omega (arith, within))
