-- A unit of the output names a line table exactly where the root that it is made of names one that can be read.
use Rattle.std.proofs.Common.{◌≡◌, ℕ, List, [], ◌∷◌, ◌++◌, length, map, refl, ap, ap₂, sym, subst, ◌∙◌, arith, Bool, true, false, cond, Option, Some, None, Result, Ok, Err, All, inl, inr}
use Rattle.std.specs.Prelude.{pos, ◌==◌, ◌||◌, ◌&&◌, is_some, if◌then◌else◌, fold, option_map}
use Rattle.std.specs.List.{filter_map, cons_option, list_any}
use Rattle.std.proofs.lemmas.Bool.{eq-eqb, eqb-true}
use Rattle.std.proofs.lemmas.List.Folds.{list_any-append}
use Rattle.std.proofs.lemmas.List.Elements.{All-nil, All-cons, All-head, All-tail, All-append}
use Rattle.dwc_base.specs.declared.constants.TheConstants.{DW_AT_stmt_list, DW_AT_ranges, DW_AT_endianity, DW_TAG_base_type, DW_TAG_compile_unit, DW_TAG_entry_point, DW_TAG_formal_parameter, DW_TAG_inlined_subroutine, DW_TAG_pointer_type, DW_TAG_reference_type, DW_TAG_subprogram, DW_FORM_data1, DW_END_little}
use Rattle.dwc_base.specs.declared.records.Address.TheVariants.{Symbol}
use Rattle.dwc_dwarf.specs.Values.{Value, is_one_of}
use Rattle.dwc_native.specs.Functions.{Function}
use Rattle.dwc_native.specs.Compiled.{ToldModule}
use Rattle.dwc_rules.specs.Kept.{Placed, parent_of}
use Rattle.dwc_dwarf.specs.Trees.{Interval, TreeValue, constant, line_table, ranges, Tree, set_attribute}
use Rattle.dwc_rules.specs.Drafts.{Goal, itself, DraftValue, done}
use Rattle.dwc_rules.specs.DraftForests.{settled_value, settled, settled_entry}
use Rattle.dwc_rules.specs.Clones.{UnitSource, CodeRules, table_becomes, attribute_becomes, attributes_become, if_made, endianity, attributes_made}
use Rattle.dwc_rules.specs.CarriedDrafts.{draft_of, entry_made, unit_drafts}
use Rattle.dwc_rules.specs.ContextVariable.{context_entries}
use Rattle.dwc_rules.specs.LocationRules.{ExpressionSource}
use Rattle.dwc_rules.specs.ObjectPointers.{is_object_pointer, names_no_pointer, pointers_changed, points_to_object, unlike_this}
use Rattle.dwc_dwarf.specs.Texts.{TextSource}
use Rattle.dwc_rules.specs.Wrappers.{entries_made, with_wrapper, is_wrapped_too}
use Rattle.dwc_rules.specs.Refusals.{Refusal}
use Rattle.dwc_base.specs.Sections.{Sections}
use Rattle.dwc_base.specs.Units.{UnitHeader}
use Rattle.dwc_base.specs.declared.records.OutputFor.{OutputFor}
use Rattle.dwc_base.specs.declared.records.OutputFor.TheVariants.{Default, Debugger}
use Rattle.dwc_dwarf.specs.Entries.{Entry}
use Rattle.dwc_dwarf.specs.Lists.{list_source}
use Rattle.dwc_dwarf.specs.RawLists.{ListSource}
use Rattle.dwc_rules.specs.RangeAttributes.{begun_function, Extent, intervals, position, nowhere, extent, bounds as bounds_of, length_of, said_intervals, said_extent, range_attributes, with_base}
use Rattle.dwc_native.specs.ScopesKept.{native_of_intervals}
use Rattle.dwc_rules.specs.EntryRules.{code_rules, rules_of_source, wrappers_of}
use Rattle.dwc_rules.proofs.ForestLaws.{Each, each_chosen}
use Rattle.dwc_rules.proofs.ListBaseLaws.{BaseOrNone, base-or-none}
use Rattle.dwc_clone.specs.GivenAttributes.{Attribute}
use Rattle.dwc_unit.specs.declared.attributes.AttributeValue.{AttributeValue}
use Rattle.dwc_unit.specs.declared.attributes.AttributeValue.TheVariants.{Address, Constant, Flag, Block, Exprloc, StringRef, LineProgramRef, RangeListRef, LocationListRef, UnitRef, DebugInfoRef}
use Rattle.dwc_unit.specs.declared.attributes.DebugInfoRef.TheVariants as references
use Rattle.dwc_unit.specs.GivenUnits.{Addition, in_file_order, is_lines, names_lines_in, names_lines}
use Rattle.dwc_unit.specs.AddedInOrder.{value_meant, attribute_meant, tree_meant}

-- whether a value is a line table, and whether one stands under its name
abbrev is_table : TreeValue → Bool
is_table line_table = true
is_table _ = false

abbrev pub says_lines : List (ℕ × TreeValue) → Bool
says_lines [] = false
says_lines (a ∷ others) = if a.0 == DW_AT_stmt_list then is_table a.1 else says_lines others

abbrev pub tree_says : Tree → Bool
tree_says [] = false
tree_says (e ∷ es) = says_lines e.attributes

-- whether something stands under that name
abbrev pub has_lines : {A : Type 0} → List (ℕ × A) → Bool
has_lines xs = list_any (λ a. a.0 == DW_AT_stmt_list) xs

-- ---- attributes of the output

lines-meant : (texts : List (List ℕ)) (number : ℕ) (v : AttributeValue) → is_lines v ≡ is_table (value_meant texts number v)
lines-meant texts number (Address a) = refl
lines-meant texts number (Constant form bits) = refl
lines-meant texts number (Flag b) = refl
lines-meant texts number (Block bytes) = refl
lines-meant texts number (Exprloc e) = refl
lines-meant texts number (StringRef id) = refl
lines-meant texts number LineProgramRef = refl
lines-meant texts number (RangeListRef list) = refl
lines-meant texts number (LocationListRef list) = refl
lines-meant texts number (UnitRef id) = refl
lines-meant texts number (DebugInfoRef (references.Entry unit id)) = refl

names-meant : (texts : List (List ℕ)) (number : ℕ) (xs : List Attribute) → names_lines_in xs ≡ says_lines (map (attribute_meant texts number) xs)
names-meant texts number [] = refl
names-meant texts number (a ∷ xs) = ap₂ (λ b c. cond {A = Bool} (a.name == DW_AT_stmt_list) b c) (lines-meant texts number a.value) (names-meant texts number xs)

pub tree-names : (texts : List (List ℕ)) (number : ℕ) (ds : List ℕ) (es : List Addition) → length ds ≡ length es → names_lines (in_file_order es) ≡ tree_says (tree_meant texts number ds es)
tree-names texts number [] [] same = refl
tree-names texts number [] (e ∷ es) same = absurd (omega (arith, same))
tree-names texts number (d ∷ ds) [] same = absurd (omega (arith, same))
tree-names texts number (d ∷ ds) (e ∷ es) same = names-meant texts number e.attributes

-- ---- attributes set in order

abbrev IsNamedTable : ℕ × TreeValue → Type 0
IsNamedTable a = a.0 ≡ DW_AT_stmt_list → a.1 ≡ line_table

says-named : (xs : List (ℕ × TreeValue)) → All IsNamedTable xs → says_lines xs ≡ has_lines xs
says-named [] h = refl
says-named (a ∷ xs) h = go (a.0 == DW_AT_stmt_list) refl (says-named xs (All-tail IsNamedTable a xs h))
  where
    go : (b : Bool) → (a.0 == DW_AT_stmt_list) ≡ b → says_lines xs ≡ has_lines xs → cond {A = Bool} b (is_table a.1) (says_lines xs) ≡ (b || has_lines xs)
    go true is more = ap is_table (All-head IsNamedTable a xs h (eqb-true a.0 DW_AT_stmt_list is))
    go false is more = more

or-same : (a b h : Bool) → a ≡ b → (a || h) ≡ (a || (b || h))
or-same true b h e = refl
or-same false true h e = absurd (cc)
or-same false false h e = refl

or-swap : (a b h : Bool) → (b || (a || h)) ≡ (a || (b || h))
or-swap true true h = refl
or-swap true false h = refl
or-swap false true h = refl
or-swap false false h = refl

set-has : (a : ℕ × TreeValue) (xs : List (ℕ × TreeValue)) → has_lines (set_attribute a xs) ≡ ((a.0 == DW_AT_stmt_list) || has_lines xs)
set-has a [] = refl
set-has a (b ∷ xs) = go (a.0 == b.0) refl (set-has a xs)
  where
    go : (same : Bool) → (a.0 == b.0) ≡ same → has_lines (set_attribute a xs) ≡ ((a.0 == DW_AT_stmt_list) || has_lines xs)
        → has_lines (cond {A = List (ℕ × TreeValue)} same (a ∷ xs) (b ∷ set_attribute a xs)) ≡ ((a.0 == DW_AT_stmt_list) || ((b.0 == DW_AT_stmt_list) || has_lines xs))
    go true is more = or-same (a.0 == DW_AT_stmt_list) (b.0 == DW_AT_stmt_list) (has_lines xs) (ap (λ n. n == DW_AT_stmt_list) (eqb-true a.0 b.0 is))
    go false is more = ap (λ c. (b.0 == DW_AT_stmt_list) || c) more ∙ or-swap (a.0 == DW_AT_stmt_list) (b.0 == DW_AT_stmt_list) (has_lines xs)

set-tables : (a : ℕ × TreeValue) (xs : List (ℕ × TreeValue)) → IsNamedTable a → All IsNamedTable xs → All IsNamedTable (set_attribute a xs)
set-tables a [] one h = All-cons IsNamedTable a [] one (All-nil IsNamedTable)
set-tables a (b ∷ xs) one h = go (a.0 == b.0) (set-tables a xs one (All-tail IsNamedTable b xs h))
  where
    go : (same : Bool) → All IsNamedTable (set_attribute a xs) → All IsNamedTable (cond {A = List (ℕ × TreeValue)} same (a ∷ xs) (b ∷ set_attribute a xs))
    go true more = All-cons IsNamedTable a xs one (All-tail IsNamedTable b xs h)
    go false more = All-cons IsNamedTable b (set_attribute a xs) (All-head IsNamedTable b xs h) more

or-assoc : (a b c : Bool) → ((a || b) || c) ≡ (b || (a || c))
or-assoc true true c = refl
or-assoc true false c = refl
or-assoc false true c = refl
or-assoc false false c = refl

or-false : (b : Bool) → b ≡ (b || false)
or-false true = refl
or-false false = refl

order-says : (before xs : List (ℕ × TreeValue)) → All IsNamedTable before → All IsNamedTable xs → says_lines (fold (λ ys a. set_attribute a ys) before xs) ≡ (has_lines before || has_lines xs)
order-says before [] h k = says-named before h ∙ or-false (has_lines before)
order-says before (a ∷ xs) h k =
    order-says (set_attribute a before) xs (set-tables a before (All-head IsNamedTable a xs k) h) (All-tail IsNamedTable a xs k)
    ∙ ap (λ b. b || has_lines xs) (set-has a before)
    ∙ or-assoc (a.0 == DW_AT_stmt_list) (has_lines before) (has_lines xs)

-- ---- drafts

abbrev IsNamedDraft : ℕ × DraftValue → Type 0
IsNamedDraft a = a.0 ≡ DW_AT_stmt_list → a.1 ≡ done line_table

-- what stands for drafts where goals are at places
abbrev StandsFor : List (ℕ × DraftValue) → List (ℕ × TreeValue) → Type 0
StandsFor ds xs = All IsNamedTable xs × (has_lines xs ≡ has_lines ds)

settle-one : (n : ℕ) (o : Option TreeValue) (ds : List (ℕ × DraftValue)) (v : DraftValue) (xs : List (ℕ × TreeValue)) → (n ≡ DW_AT_stmt_list → o ≡ Some line_table) → StandsFor ds xs → StandsFor ((n, v) ∷ ds) (cons_option (option_map (λ w. (n, w)) o) xs)
settle-one n (Some w) ds v xs is h = (All-cons IsNamedTable (n, w) xs (λ e. some-same (is e)) h.0, ap (λ b. (n == DW_AT_stmt_list) || b) h.1)
  where
    some-same : Some w ≡ Some line_table → w ≡ line_table
    some-same e = cc
settle-one n None ds v xs is h = (h.0, h.1 ∙ go (n == DW_AT_stmt_list) refl)
  where
    clash : ◌≡◌ {A = Option TreeValue} None (Some line_table) → ⊥
    clash e = cc

    go : (b : Bool) → (n == DW_AT_stmt_list) ≡ b → has_lines ds ≡ (b || has_lines ds)
    go true e = absurd (clash (is (eqb-true n DW_AT_stmt_list e)))
    go false e = refl

settle-all : (places : Goal → Option (ℕ × ℕ)) (ds : List (ℕ × DraftValue)) → All IsNamedDraft ds → StandsFor ds (filter_map (settled places) ds)
settle-all places [] h = (All-nil IsNamedTable, refl)
settle-all places (d ∷ ds) h = settle-one d.0 (settled_value places d.1) ds d.1 (filter_map (settled places) ds) (λ e. ap (settled_value places) (All-head IsNamedDraft d ds h e)) (settle-all places ds (All-tail IsNamedDraft d ds h))

-- ---- what attributes become

-- the line table, where there is one
abbrev table_if : Bool → Option DraftValue
table_if b = if b then Some (done line_table) else None

-- drafts have a line table where there is one and some attributes name it
abbrev HaveLines : Bool → Bool → List (ℕ × DraftValue) → Type 0
HaveLines b h ds = All IsNamedDraft ds × (has_lines ds ≡ (b && h))

become-one : (b h : Bool) (n : ℕ) (r : Result (Option DraftValue) Refusal) (ds : List (ℕ × DraftValue)) → (n ≡ DW_AT_stmt_list → r ≡ Ok (table_if b)) → HaveLines b h ds → HaveLines b ((n == DW_AT_stmt_list) || h) (cons_option (if_made n r) ds)
become-one b h n (Err e) ds is k = (k.0, k.1 ∙ go (n == DW_AT_stmt_list) refl)
  where
    clash : ◌≡◌ {A = Result (Option DraftValue) Refusal} (Err e) (Ok (table_if b)) → ⊥
    clash x = cc

    go : (c : Bool) → (n == DW_AT_stmt_list) ≡ c → (b && h) ≡ (b && (c || h))
    go true x = absurd (clash (is (eqb-true n DW_AT_stmt_list x)))
    go false x = refl
become-one true h n (Ok None) ds is k = (k.0, k.1 ∙ go (n == DW_AT_stmt_list) refl)
  where
    clash : ◌≡◌ {A = Result (Option DraftValue) Refusal} (Ok None) (Ok (Some (done line_table))) → ⊥
    clash x = cc

    go : (c : Bool) → (n == DW_AT_stmt_list) ≡ c → h ≡ (c || h)
    go true x = absurd (clash (is (eqb-true n DW_AT_stmt_list x)))
    go false x = refl
become-one false h n (Ok None) ds is k = k
become-one true h n (Ok (Some v)) ds is k = (All-cons IsNamedDraft (n, v) ds (λ e. same (is e)) k.0, ap (λ c. (n == DW_AT_stmt_list) || c) k.1)
  where
    same : ◌≡◌ {A = Result (Option DraftValue) Refusal} (Ok (Some v)) (Ok (Some (done line_table))) → v ≡ done line_table
    same x = cc
become-one false h n (Ok (Some v)) ds is k = (All-cons IsNamedDraft (n, v) ds (λ e. absurd (clash (is e))) k.0, go (n == DW_AT_stmt_list) refl)
  where
    clash : ◌≡◌ {A = Result (Option DraftValue) Refusal} (Ok (Some v)) (Ok None) → ⊥
    clash x = cc

    go : (c : Bool) → (n == DW_AT_stmt_list) ≡ c → (c || has_lines ds) ≡ false
    go true x = absurd (clash (is (eqb-true n DW_AT_stmt_list x)))
    go false x = k.1

and-false : (b : Bool) → false ≡ (b && false)
and-false true = refl
and-false false = refl

module _ (rules : CodeRules Refusal) (s : UnitSource) (e : Placed) (root : e.entry.depth ≡ 0) where
  root-table : table_becomes s e ≡ table_if (is_some s.table)
  root-table = ap (λ d. cond {A = Option DraftValue} ((d == 0) && is_some s.table) (Some (done line_table)) None) root

  lines-become : (before : List (ℕ × Value)) (n : ℕ) (v : Value) → n ≡ DW_AT_stmt_list → attribute_becomes rules s e before (n, v) ≡ Ok (table_if (is_some s.table))
  unfolding attribute_becomes
  lines-become before n v is = subst (λ k. attribute_becomes rules s e before (k, v) ≡ Ok (table_if (is_some s.table))) (sym is) (ap Ok root-table)

  become-all : (before as' : List (ℕ × Value)) → HaveLines (is_some s.table) (has_lines as') (filter_map (λ a. if_made a.0 a.1) (attributes_become rules s e before as'))
  unfolding attributes_become
  become-all before [] = (All-nil IsNamedDraft, and-false (is_some s.table))
  become-all before (a ∷ as') = become-one (is_some s.table) (has_lines as') a.0 (attribute_becomes rules s e before a) _ (lines-become before a.0 a.1) (become-all (before ++ (a ∷ [])) as')

-- ---- the root

-- drafts that are no line table
abbrev AreOther : List (ℕ × DraftValue) → Type 0
AreOther ds = All IsNamedDraft ds × (has_lines ds ≡ false)

other-one : (n : ℕ) (v : DraftValue) (ds : List (ℕ × DraftValue)) → (n ≡ DW_AT_stmt_list → ⊥) → All IsNamedDraft ds → All IsNamedDraft ((n, v) ∷ ds)
other-one n v ds other h = All-cons IsNamedDraft (n, v) ds (λ e. absurd (other e)) h

-- an attribute of another name
abbrev IsOther : ℕ × TreeValue → Type 0
IsOther a = (a.0 == DW_AT_stmt_list) ≡ false

others-drafted : (xs : List (ℕ × TreeValue)) → Each IsOther xs → AreOther (map (λ a. (a.0, done a.1)) xs)
others-drafted [] h = (All-nil IsNamedDraft, refl)
others-drafted (a ∷ xs) h =
    let more = others-drafted xs h.1 in
    (other-one a.0 (done a.1) (map (λ a. (a.0, done a.1)) xs) (λ e. clash (sym h.0 ∙ eq-eqb a.0 DW_AT_stmt_list e)) more.0, ap₂ (λ b c. b || c) h.0 more.1)
  where
    clash : false ≡ true → ⊥
    clash e = cc

intervals-other : (tag : ℕ) (is : List Interval) → Each IsOther (said_intervals tag is)
intervals-other tag [] = (refl, tt)
intervals-other tag (i ∷ j ∷ is) = (refl, tt)
intervals-other tag (i ∷ []) = each_chosen IsOther ((DW_AT_ranges, ranges (i ∷ [])) ∷ []) (bounds_of i.begin (length_of i)) (tag == DW_TAG_compile_unit) (refl, tt) (refl, (refl, tt))

extent-other : (fs : List Function) (tag : ℕ) (x : Extent) → Each IsOther (said_extent fs tag x)
extent-other fs tag nowhere = tt
extent-other fs tag (intervals []) = tt
extent-other fs tag (intervals (i ∷ is)) = intervals-other tag (native_of_intervals fs (i ∷ is))
extent-other fs tag (position a) = (refl, tt)

range-other : (fs : List Function) (s : ListSource) (e : Entry) → Each IsOther (range_attributes s fs e)
unfolding range_attributes
range-other fs s e = go (begun_function s fs e)
  where
    go : (o : Option Function) → Each IsOther (elim o [ Some f ↦ bounds_of (Symbol f.number (pos 0)) f.length | None ↦ said_extent fs e.tag (extent s e) ])
    go (Some f) = (refl, (refl, tt))
    go None = extent-other fs e.tag (extent s e)

based-other : (output : OutputFor) (is_root : Bool) (xs : List (ℕ × TreeValue)) → Each IsOther xs → Each IsOther (with_base output is_root xs)
based-other output is_root xs h = go (base-or-none output is_root xs)
  where
    go : BaseOrNone (with_base output is_root xs) xs → Each IsOther (with_base output is_root xs)
    go (inl same) = rw same h
    go (inr same) = rw same (refl, h)

endianity-other : (big_endian : Bool) (e : Placed) → AreOther (endianity big_endian e)
endianity-other big_endian e = go (big_endian && (e.entry.tag == DW_TAG_base_type))
  where
    other : DW_AT_endianity ≡ DW_AT_stmt_list → ⊥
    other x = omega (arith, x)

    go : (b : Bool) → AreOther (if b then (DW_AT_endianity, done (constant DW_FORM_data1 DW_END_little)) ∷ [] else [])
    go true = (other-one DW_AT_endianity (done (constant DW_FORM_data1 DW_END_little)) [] other (All-nil IsNamedDraft), refl)
    go false = (All-nil IsNamedDraft, refl)

-- The entry that is made of a root says that it has a line table where its unit has one and its root names it.
pub root-says : (told : ToldModule) (fs : List Function) (t : Sections) (h : UnitHeader) (es : List Placed) (s : UnitSource) (big_endian : Bool) (places : Goal → Option (ℕ × ℕ)) (e : Placed) → e.entry.depth ≡ 0
    → says_lines (settled_entry places (draft_of (code_rules told fs t h es) s big_endian e)).attributes ≡ (is_some s.table && has_lines e.entry.attributes)
unfolding attributes_made
root-says told fs t h es s big_endian places e root =
    order-says [] (filter_map (settled places) all) (All-nil IsNamedTable) stands.0
    ∙ stands.1
    ∙ list_any-append (λ a. a.0 == DW_AT_stmt_list) (bounds ++ made) last
    ∙ ap (λ b. has_lines (bounds ++ made) || b) (endianity-other big_endian e).1
    ∙ sym (or-false (has_lines (bounds ++ made)))
    ∙ list_any-append (λ a. a.0 == DW_AT_stmt_list) bounds made
    ∙ ap (λ b. b || has_lines made) others.1
    ∙ become.1
  where
    bounds : List (ℕ × DraftValue)
    bounds = map (λ a. (a.0, done a.1)) (with_base told.output (e.entry.tag == DW_TAG_compile_unit) (range_attributes (list_source t h) fs e.entry))

    others : AreOther bounds
    others =
        others-drafted (with_base told.output (e.entry.tag == DW_TAG_compile_unit) (range_attributes (list_source t h) fs e.entry))
        (based-other told.output (e.entry.tag == DW_TAG_compile_unit) (range_attributes (list_source t h) fs e.entry) (range-other fs (list_source t h) e.entry))

    made : List (ℕ × DraftValue)
    made = filter_map (λ a. if_made a.0 a.1) (attributes_become (code_rules told fs t h es) s e [] e.entry.attributes)

    last : List (ℕ × DraftValue)
    last = endianity big_endian e

    all : List (ℕ × DraftValue)
    all = bounds ++ made ++ last

    become : HaveLines (is_some s.table) (has_lines e.entry.attributes) made
    become = become-all (code_rules told fs t h es) s e root [] e.entry.attributes

    stands : StandsFor all (filter_map (settled places) all)
    stands = settle-all places all (All-append IsNamedDraft (bounds ++ made) last (All-append IsNamedDraft bounds made others.0 become.0) (endianity-other big_endian e).0)

-- The root of a unit is not wrapped, and no object pointer, so it becomes the first entry by itself.
pub root-drafted : (c : ExpressionSource) (s : UnitSource) (big_endian : Bool) (e : Placed) (es : List Placed) → e.entry.tag ≡ DW_TAG_compile_unit
    → unit_drafts c s big_endian (e ∷ es) ≡ draft_of (rules_of_source c) s big_endian e ∷ (context_entries c e ++ unit_drafts c s big_endian es)
unfolding entries_made pointers_changed is_object_pointer
root-drafted c s big_endian e es tag =
    ap (λ (b : Bool). elim b [ true ↦ with_wrapper (wrappers_of c) e (unit_drafts c s big_endian es) | false ↦ entry_made c s big_endian e ++ unit_drafts c s big_endian es ]) (ap (λ t. (t == DW_TAG_pointer_type) || (t == DW_TAG_reference_type) || is_wrapped_too c.told.output t) tag ∙ plain c.told.output)
    ∙ ap (λ (xs : List (ℕ × DraftValue)). record { depth = e.entry.depth; tag = e.entry.tag; origin = Some (e.entry.offset, itself); attributes = xs } ∷ (context_entries c e ++ unit_drafts c s big_endian es)) (same (wrappers_of c).texts c.entries (attributes_made (rules_of_source c) s big_endian e))
  where
    plain : (o : OutputFor) → is_wrapped_too o DW_TAG_compile_unit ≡ false
    plain Default = refl
    plain Debugger = refl

    same : (texts : TextSource) (all : List Placed) (xs : List (ℕ × DraftValue)) → pointers_changed texts all e xs ≡ xs
    same texts all xs =
        ap₂ (λ (a b : Bool). if a then filter_map unlike_this xs else (if b then filter_map (names_no_pointer all e) xs else xs))
        (ap (λ t. (t == DW_TAG_formal_parameter) && points_to_object texts all e (parent_of all e)) tag)
        (ap (is_one_of (DW_TAG_subprogram ∷ DW_TAG_inlined_subroutine ∷ DW_TAG_entry_point ∷ [])) tag)
