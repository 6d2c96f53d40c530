-- What is kept of entries, and what cannot be read of them, hangs on their links alone.
use Rattle.std.proofs.Common.{◌≡◌, ℕ, suc, refl, ap, subst, ◌∙◌, List, [], ◌∷◌, ◌++◌, map, Bool, true, false, cond, eqb-true, Option, Some, None}
use Rattle.std.specs.Prelude.{◌==◌, ◌||◌, ◌&&◌, if◌then◌else◌, option_map, option_to_list, Result}
use Rattle.std.specs.List.{filter, filter_map, find, flat_map, cons_option}
use Rattle.dwc_base.specs.declared.constants.TheConstants.{DW_AT_low_pc, DW_AT_ranges, DW_AT_sibling, DW_AT_stmt_list, DW_TAG_subprogram}
use Rattle.dwc_base.specs.Listing.{Listing}
use Rattle.dwc_base.specs.Sections.{Sections, Fault}
use Rattle.dwc_base.specs.Units.{UnitHeader}
use Rattle.dwc_dwarf.specs.Values.{Value, address, address_index, constant, flag, block, expression, text, text_reference, line_reference, range_reference, range_index, location_reference, location_index, unit_reference, info_reference, dropped}
use Rattle.dwc_dwarf.specs.Entries.{Entry, attribute}
use Rattle.dwc_rules.specs.EntryRules.{is_required as is_needed, named_faults}
use Rattle.dwc_native.specs.Functions.{Function}
use Rattle.dwc_dwarf.specs.Lists.{list_source}
use Rattle.dwc_rules.specs.RangeKept.{begins_in_code, is_required, list_shows_code}
use Rattle.dwc_rules.specs.RangeRefusals.{index_fault, list_faults}
use Rattle.dwc_rules.specs.ReachedEntries.{listing_faults}
use Rattle.dwc_dwarf.specs.ReadUnits.{line_offset}
use Rattle.dwc_base.specs.Listing.{first_of}
use Rattle.dwc_dwarf.specs.UnitOffsets.{RiseIn}
use Rattle.dwc_read.specs.declared.fault.ReadFault.{ReadFault}
use Rattle.dwc_read.specs.EntriesSeen.{BeginsWith}
use Rattle.dwc_read.specs.Links.{is_reference, is_link_name, is_link, with_links, linked}
use Rattle.dwc_kept.specs.declared.read_unit.RootEntry.{RootEntry}
use Rattle.dwc_kept.specs.ReadEntries.{named_offset, attribute_offset, is_part_below, last_above, ReadSoFar, with_entry_read, with_entries_read, TellsFirst, ReadsOrTells}
use Rattle.dwc_kept.specs.ReadingSeen.{HasRead}
use Rattle.dwc_kept.specs.RootsSaid.{root_said, first_said}

-- ---- attributes

-- what a filter keeps is found behind it
find-filter : {A : Type 0} (p q : A → Bool) → ((x : A) → p x ≡ true → q x ≡ true) → (xs : List A) → find p (filter q xs) ≡ find p xs
find-filter p q kept [] = refl
find-filter {A} p q kept (x ∷ xs) = go (p x) (q x) refl refl (find-filter p q kept xs)
  where
    go : (b c : Bool) → p x ≡ b → q x ≡ c → find p (filter q xs) ≡ find p xs → find p (cond {A = List A} c (x ∷ filter q xs) (filter q xs)) ≡ cond {A = Option A} b (Some x) (find p xs)
    go true true pb qc rest = rw pb refl
    go false true pb qc rest = rw pb rest
    go true false pb qc rest = absurd (let t = kept x pb in cc)
    go false false pb qc rest = rest

-- what a filter passes over gives nothing
filter_map-filter : {A B : Type 0} (f : A → Option B) (q : A → Bool) → ((x : A) → q x ≡ false → f x ≡ None) → (xs : List A) → filter_map f (filter q xs) ≡ filter_map f xs
filter_map-filter f q none [] = refl
filter_map-filter {A} f q none (x ∷ xs) = go (q x) refl (filter_map-filter f q none xs)
  where
    go : (b : Bool) → q x ≡ b → filter_map f (filter q xs) ≡ filter_map f xs → filter_map f (cond {A = List A} b (x ∷ filter q xs) (filter q xs)) ≡ cons_option (f x) (filter_map f xs)
    go true is rest = ap (cons_option (f x)) rest
    go false is rest = rw (none x is) rest

attribute-linked : (name : ℕ) → is_link_name name ≡ true → (e : Entry) → attribute name (with_links e) ≡ attribute name e
attribute-linked name is e =
    ap (option_map (λ a. a.1)) (find-filter (λ a. a.0 == name) is_link (λ a same. ap (λ b. b || is_reference a.1) (ap is_link_name (eqb-true a.0 name same) ∙ is)) e.attributes)

no-offset : (unit end : ℕ) (v : Value) → is_reference v ≡ false → named_offset unit end v ≡ None
no-offset unit end (address a) h = refl
no-offset unit end (address_index n) h = refl
no-offset unit end (constant form bits) h = refl
no-offset unit end (flag b) h = refl
no-offset unit end (block bytes) h = refl
no-offset unit end (expression bytes) h = refl
no-offset unit end (text bytes) h = refl
no-offset unit end (text_reference form bits) h = refl
no-offset unit end (line_reference n) h = refl
no-offset unit end (range_reference n) h = refl
no-offset unit end (range_index n) h = refl
no-offset unit end (location_reference n) h = refl
no-offset unit end (location_index n) h = refl
no-offset unit end (unit_reference n) h = absurd (cc)
no-offset unit end (info_reference n) h = absurd (cc)
no-offset unit end dropped h = refl

no-target : (unit end : ℕ) (a : ℕ × Value) → is_link a ≡ false → attribute_offset unit end a ≡ None
no-target unit end a h = go (is_link_name a.0) (a.0 == DW_AT_sibling) h
  where
    go : (b sibling : Bool) → (b || is_reference a.1) ≡ false → (if sibling then None else named_offset unit end a.1) ≡ None
    go b true h = refl
    go true false h = absurd (cc)
    go false false h = no-offset unit end a.1 h

-- ---- an entry

targets-linked : (unit end : ℕ) (e : Entry) → filter_map (attribute_offset unit end) (with_links e).attributes ≡ filter_map (attribute_offset unit end) e.attributes
targets-linked unit end e = filter_map-filter (attribute_offset unit end) is_link (no-target unit end) e.attributes

pub is_required-linked : (fs : List Function) (s : Sections) (h : UnitHeader) (e : Entry) → is_needed fs s h (with_links e) ≡ is_needed fs s h e
unfolding is_required
is_required-linked fs s h e =
    let needed : Option Value → Option Value → Bool = λ ranges low. (e.tag == DW_TAG_subprogram) && (elim ranges [ None ↦ begins_in_code (list_source s h) fs low | Some v ↦ list_shows_code (list_source s h) fs low v ]) in
    ap (λ o. needed o (attribute DW_AT_low_pc (with_links e))) (attribute-linked DW_AT_ranges refl e) ∙ ap (needed (attribute DW_AT_ranges e)) (attribute-linked DW_AT_low_pc refl e)

pub named_faults-linked : (s : Sections) (h : UnitHeader) (e : Entry) → named_faults s h (with_links e) ≡ named_faults s h e
unfolding named_faults
named_faults-linked s h e =
    let faults : Option Value → Option Value → List Fault = λ ranges low. if e.tag == DW_TAG_subprogram then flat_map (list_faults (list_source s h) e.offset) (option_to_list ranges) ++ filter_map (index_fault (list_source s h) e.offset) (option_to_list low) else [] in
    ap (λ o. faults o (attribute DW_AT_low_pc (with_links e))) (attribute-linked DW_AT_ranges refl e) ∙ ap (faults (attribute DW_AT_ranges e)) (attribute-linked DW_AT_low_pc refl e)

root_said-linked : (e : Entry) → root_said (with_links e) ≡ root_said e
root_said-linked e = ap {B = RootEntry} (λ o. record { tag = e.tag; line_table = line_offset o }) (attribute-linked DW_AT_stmt_list refl e)

-- ---- the entries of a unit

module _ (needed : Entry → Bool) (same : (e : Entry) → needed (with_links e) ≡ needed e) (h : UnitHeader) where
  entry-linked : (e : Entry) (r : ReadSoFar) → with_entry_read needed h (with_links e) r ≡ with_entry_read needed h e r
  entry-linked e r =
      let read : List ℕ → Bool → ReadSoFar = λ targets required. record {
        nodes = r.nodes ++ record { offset = e.offset; parent = option_map (λ p. p.number) (last_above r.lasts e.depth); targets = targets; is_part = is_part_below (last_above r.lasts e.depth) e.tag } ∷ [];
        lasts = (with_entry_read needed h e r).lasts;
        required = r.required ++ required ∷ [];
      } in
      ap (λ targets. read targets (needed (with_links e))) (targets-linked h.offset h.end e) ∙ ap (read (filter_map (attribute_offset h.offset h.end) e.attributes)) (same e)

  entries-linked : (es : List Entry) (r : ReadSoFar) → with_entries_read needed h (map with_links es) r ≡ with_entries_read needed h es r
  entries-linked [] r = refl
  entries-linked (e ∷ es) r = ap (with_entries_read needed h (map with_links es)) (entry-linked e r) ∙ entries-linked es (with_entry_read needed h e r)

first_said-linked : (es : List Entry) → first_said (map with_links es) ≡ first_said es
first_said-linked [] = refl
first_said-linked (e ∷ es) = ap Some (root_said-linked e)

flat_map-linked : (named : Entry → List Fault) → ((e : Entry) → named (with_links e) ≡ named e) → (es : List Entry) → flat_map named (map with_links es) ≡ flat_map named es
flat_map-linked named same [] = refl
flat_map-linked named same (e ∷ es) = rw (same e, flat_map-linked named same es) refl

pub RiseIn-linked : (from end : ℕ) (es : List Entry) → RiseIn from end es → RiseIn from end (map with_links es)
RiseIn-linked from end [] rise = tt
RiseIn-linked from end (e ∷ es) rise = (rise.0, rise.1, RiseIn-linked (suc e.offset) end es rise.2)

-- what is read of the entries with their links is what is read of the entries
pub reads-linked : (fs : List Function) (s : Sections) (h : UnitHeader) (list : Listing Fault Entry) (before after : ReadSoFar) (result : Result (Option RootEntry) ReadFault)
    → ReadsOrTells (λ root. HasRead (with_entries_read (is_needed fs s h) h (linked list).items before) h.end after × (root ≡ first_said (linked list).items)) (first_of (listing_faults (named_faults s h) (linked list))) result
    → ReadsOrTells (λ root. HasRead (with_entries_read (is_needed fs s h) h list.items before) h.end after × (root ≡ first_said list.items)) (first_of (listing_faults (named_faults s h) list)) result
reads-linked fs s h list before after result read =
    let reads : ReadSoFar → Option RootEntry → List Fault → Type 0 = λ wanted said faults. ReadsOrTells (λ root. HasRead wanted h.end after × (root ≡ said)) (first_of (faults ++ option_to_list list.fault)) result in
    let wanted = entries-linked (is_needed fs s h) (is_required-linked fs s h) h list.items before in
    let faults = flat_map-linked (named_faults s h) (named_faults-linked s h) list.items in
    subst (λ w. reads w (first_said list.items) (flat_map (named_faults s h) list.items)) wanted
    (subst (λ said. reads (with_entries_read (is_needed fs s h) h (map with_links list.items) before) said (flat_map (named_faults s h) list.items)) (first_said-linked list.items)
    (subst (λ f. reads (with_entries_read (is_needed fs s h) h (map with_links list.items) before) (first_said (map with_links list.items)) f) faults read))

-- where the entries with their links begin with a fault, it is the first that is told of the entries
pub tells-linked : (named : Entry → List Fault) (list : Listing Fault Entry) (o : Option Fault) → BeginsWith (linked list) o → TellsFirst (first_of (listing_faults named list)) o
tells-linked named list None begins = tt
tells-linked named list (Some fault) begins = go list.items list.fault (ap (λ (l : Listing Fault Entry). l.items) begins) (ap (λ (l : Listing Fault Entry). l.fault) begins)
  where
    go : (es : List Entry) (o : Option Fault) → map with_links es ≡ [] → o ≡ Some fault → first_of (flat_map named es ++ option_to_list o) ≡ Some fault
    go [] None none is = absurd (cc)
    go [] (Some first) none is = is
    go (e ∷ es) o none is = absurd (cc)
