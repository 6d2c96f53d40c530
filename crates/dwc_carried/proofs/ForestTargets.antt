-- Every reference of the trees of an input goes to an entry that is there.
use Rattle.std.proofs.Common.{inr, inl, ◌≡◌, ℕ, suc, pos, List, [], ◌∷◌, ◌++◌, map, Option, Some, None, Bool, true, false, Result, Ok, Err, refl, ◌==◌}
use Rattle.std.specs.Prelude.{◌⊎◌, ◌&&◌, if◌then◌else◌, option_map, option_to_list, is_some, filter_map}
use Rattle.dwc_rules.proofs.ListBaseLaws.{base-or-none}
use Rattle.dwc_rules.specs.RangeAttributes.{with_base}
use Rattle.dwc_base.specs.declared.records.OutputFor.{OutputFor}
use Rattle.dwc_base.specs.declared.constants.TheConstants.{DW_AT_artificial, DW_AT_endianity, DW_AT_low_pc, DW_AT_ranges, DW_AT_stmt_list, DW_FORM_data1, DW_FORM_udata, DW_END_little, DW_TAG_base_type, DW_TAG_compile_unit}
use Rattle.dwc_base.specs.declared.records.Address.{Address}
use Rattle.dwc_base.specs.declared.records.Address.TheVariants.{Constant, Symbol}
use Rattle.dwc_base.specs.declared.section_name.SectionName.TheVariants.{Info}
use Rattle.dwc_base.specs.declared.faults.Flaw.{Flaw}
use Rattle.dwc_base.specs.declared.faults.What.TheVariants.{AddressValue, Text}
use Rattle.dwc_base.specs.Listing.{Listing}
use Rattle.dwc_dwarf.specs.Entries.{Entry}
use Rattle.dwc_dwarf.specs.RawLists.{ListSource}
use Rattle.dwc_dwarf.specs.Lists as Lists
use Rattle.dwc_dwarf.specs.Lists.{ListRefusal, ranges_of_value}
use Rattle.dwc_rules.specs.RangeAttributes.{begun_function, Extent, intervals, position, nowhere, extent, carried_address, carried_ranges, bounds, length_of, said_intervals, said_extent, range_attributes}
use Rattle.dwc_native.specs.ScopesKept.{native_of_intervals}
use Rattle.dwc_rules.specs.RangeRules.{all_items, drafted, list_becomes, code_becomes, told_as}
use Rattle.dwc_base.specs.Reading.{◌>>=◌}
use Rattle.dwc_base.specs.Sections.{Fault, fault_of, reported}
use Rattle.dwc_dwarf.specs.Values as Values
use Rattle.dwc_dwarf.specs.Values.{Value}
use Rattle.dwc_rules.specs.Kept.{Placed}
use Rattle.dwc_rules.specs.Carried.{Module, Compilation}
use Rattle.dwc_dwarf.specs.ReadUnits.{Unit}
use Rattle.dwc_native.specs.Compiled.{Memory, no_memory, defined, imported}
use Rattle.dwc_native.specs.Functions.{Function}
use Rattle.dwc_native.specs.BuiltExpressions.{BuildRefusal}
use Rattle.dwc_rules.specs.SyntheticUnit.{place_of_context_pointer, place_of_wasm_pointer, synthetic_unit}
use Rattle.dwc_rules.specs.MadeEntries.{named}
use Rattle.dwc_rules.specs.TypeNames.{type_of}
use Rattle.dwc_rules.specs.Wrappers.{is_wrapped, type_made, target_type, wrapper, wrapper_types}
use Rattle.dwc_rules.specs.ObjectPointers.{underscored}
use Rattle.dwc_rules.specs.ContextVariable.{context_over, context_pointer, context_variable, context_entries, locations_or_none}
use Rattle.dwc_rules.specs.Refusals.{Refusal, of_place}
use Rattle.dwc_dwarf.specs.Trees.{Interval, Location, TreeValue, address as address_of_tree, constant, flag, block, text, line_table, ranges, expression, locations, entry, nothing}
use Rattle.dwc_rules.specs.Drafts.{Role, itself, pointer_to_wrapper, reference_to_target, pointer_to_target, Goal, made_of, synthetic_entry, DraftValue, done, goes_to}
use Rattle.dwc_dwarf.specs.Texts.{text_named}
use Rattle.dwc_rules.specs.Targets.{target_of}
use Rattle.dwc_dwarf.specs.TreeLaws.{HasAllTargets, goes_somewhere}
use Rattle.dwc_rules.specs.KeptModules.{carried_in, kept_in}
use Rattle.dwc_rules.specs.Clones.{kept_unless, UnitSource, is_dropped_name, is_bound_name, is_file_name, constant_form, file_number, constant_becomes, text_drafted, text_becomes, value_becomes, nothing_unless, bound_becomes, table_becomes, attribute_becomes, attributes_become, if_made, endianity, attributes_made, number_written}
use Rattle.dwc_rules.specs.CarriedDrafts.{source_of, draft_of, draft_told, entry_made, unit_drafts, carried_drafts}
use Rattle.dwc_rules.specs.LocationAttributes as LocationAttributes
use Rattle.dwc_rules.specs.LocationAttributes.{LocationRefusal, ListedExpression, value_of_expression, value_of_locations, read_expression, read_locations}
use Rattle.dwc_rules.specs.LocationRules.{ExpressionSource, lists_of, in_force_at, given_expression, expression_becomes, listed_by, listed_become, locations_become}
use Rattle.dwc_rules.specs.EntryRules.{of_list, of_location, wrappers_of, rules_of_source}
use Rattle.dwc_carried.specs.Forests.{is_big, module_trees}
use Rattle.dwc_rules.specs.ModuleDrafts.{expressions_of, module_drafts}
use Rattle.dwc_rules.specs.CarriedUnits.{kept_of}
use Rattle.dwc_base.proofs.InLists.{IsIn}
use Rattle.dwc_rules.proofs.GoalsHave.{GoalsHave}
use Rattle.dwc_carried.proofs.MadeDrafts.{each-made}
use Rattle.dwc_rules.proofs.PointerLaws.{each-changed}
use Rattle.dwc_rules.proofs.LocationValues.{is_nothing, is_expression, is_list, GivesLocationValue, expression-located, locations-located}
use Rattle.dwc_rules.proofs.ForestLaws.{some_same, none_is, Each, each_chosen, each_mapped, each_filter_map, each_both, SaysNoPlace, Anywhere, EntrySaysNoPlace, UnitSaysNoPlace, ModuleSaysNoPlace, references-go}

module _ (Has : Goal → Type 0) (plain : (offset : ℕ) → Has (made_of offset itself)) where
  -- what something becomes, if it becomes something, says no place itself
  abbrev MakesNoPlace : ℕ → Result (Option DraftValue) Refusal → Type 0
  MakesNoPlace name r = (y : ℕ × DraftValue) → if_made name r ≡ Some y → SaysNoPlace Has y

  nothing-made : (name : ℕ) → MakesNoPlace name (Ok None)
  nothing-made name y is = absurd (none_is y is)

  refused-made : (name : ℕ) (refusal : Refusal) → MakesNoPlace name (Err refusal)
  refused-made name refusal y is = absurd (none_is y is)

  value-made : (name : ℕ) (v : DraftValue) → SaysNoPlace Has (name, v) → MakesNoPlace name (Ok (Some v))
  value-made name v says y is = some_same (SaysNoPlace Has) (name, v) y is says

  constant-made : (name : ℕ) (s : UnitSource) (form bits : ℕ) → MakesNoPlace name (Ok (option_map done (constant_becomes s name form bits)))
  constant-made name s form bits = go (is_file_name name) (number_written s.output_version (file_number s.version s.table bits))
    where
      go : (is_file : Bool) (number : Option ℕ) → MakesNoPlace name (Ok (option_map done (if is_file then option_map (constant DW_FORM_udata) number else Some (constant (constant_form form) bits))))
      go false number = value-made name (done (constant (constant_form form) bits)) refl
      go true None = nothing-made name
      go true (Some n) = value-made name (done (constant DW_FORM_udata n)) refl

  text-made : (name : ℕ) (r : Result (Option (List ℕ)) Fault) → MakesNoPlace name (text_drafted of_place r)
  text-made name (Err fault) = refused-made name (of_place fault)
  text-made name (Ok None) = nothing-made name
  text-made name (Ok (Some bytes)) = value-made name (done (text bytes)) refl

  reference-made : (name : ℕ) (o : Option Placed) → MakesNoPlace name (Ok (option_map (λ f. goes_to (made_of f.entry.offset itself)) o))
  reference-made name None = nothing-made name
  reference-made name (Some f) = value-made name (goes_to (made_of f.entry.offset itself)) (plain f.entry.offset)

  -- ---- code

  -- What speaks of code refers to no entry.
  abbrev IsNoReference : ℕ × TreeValue → Type 0
  IsNoReference a = goes_somewhere [] a.1 ≡ true

  address-made : (name : ℕ) (fs : List Function) (offset : ℕ) (r : Result Address Flaw) → MakesNoPlace name (told_as of_list (elim r [ Ok a ↦ Ok (drafted (carried_address fs a)) | Err flaw ↦ Err (Lists.of_place (fault_of AddressValue Info offset flaw)) ]))
  address-made name fs offset (Ok a) = value-made name (done (carried_address fs a)) refl
  address-made name fs offset (Err flaw) = refused-made name (of_place (fault_of AddressValue Info offset flaw))

  list-made : (name : ℕ) (fs : List Function) (xs : Listing ListRefusal Interval) → MakesNoPlace name (told_as of_list (list_becomes fs (all_items xs)))
  list-made name fs xs = go xs.fault
    where
      go : (o : Option ListRefusal) → MakesNoPlace name (told_as of_list (list_becomes fs (elim o [ None ↦ Ok xs.items | Some refusal ↦ Err refusal ])))
      go None = value-made name (done (carried_ranges fs xs.items)) refl
      go (Some refusal) = refused-made name (of_list refusal)

  code-made : (fs : List Function) (s : ListSource) (offset name : ℕ) (v : Value) → MakesNoPlace name (told_as of_list (code_becomes s fs offset v))
  unfolding code_becomes
  code-made fs s offset name (Values.address a) = value-made name (done (carried_address fs a)) refl
  code-made fs s offset name (Values.address_index i) = address-made name fs offset (s.indexed i)
  code-made fs s offset name (Values.range_reference n) = list-made name fs (ranges_of_value s offset (Values.range_reference n))
  code-made fs s offset name (Values.range_index i) = list-made name fs (ranges_of_value s offset (Values.range_index i))
  code-made fs s offset name (Values.constant form bits) = nothing-made name
  code-made fs s offset name (Values.flag b) = nothing-made name
  code-made fs s offset name (Values.block bytes) = nothing-made name
  code-made fs s offset name (Values.text bytes) = nothing-made name
  code-made fs s offset name (Values.text_reference form n) = nothing-made name
  code-made fs s offset name (Values.unit_reference n) = nothing-made name
  code-made fs s offset name (Values.info_reference n) = nothing-made name
  code-made fs s offset name (Values.line_reference n) = nothing-made name
  code-made fs s offset name Values.dropped = nothing-made name
  code-made fs s offset name (Values.expression bytes) = nothing-made name
  code-made fs s offset name (Values.location_reference n) = nothing-made name
  code-made fs s offset name (Values.location_index n) = nothing-made name

  -- ---- expressions and location lists

  located-made : (name : ℕ) (r : Result (Option TreeValue) LocationRefusal) (tell : LocationRefusal → Refusal) → GivesLocationValue r → MakesNoPlace name (told_as tell (r >>= λ v. Ok (LocationAttributes.drafted v)))
  located-made name (Err refusal) tell gives = refused-made name (tell refusal)
  located-made name (Ok None) tell is_nothing = nothing-made name
  located-made name (Ok (Some _)) tell (is_expression bytes) = value-made name (done (expression bytes)) refl
  located-made name (Ok (Some _)) tell (is_list ls) = value-made name (done (locations ls)) refl

  -- what goes once it is read becomes nothing
  kept-made : (name : ℕ) (goes : Bool) (r : Result (Option DraftValue) Refusal) → MakesNoPlace name r → MakesNoPlace name (kept_unless goes r)
  kept-made name false r h = h
  kept-made name true (Err refusal) h = refused-made name refusal
  kept-made name true (Ok v) h = nothing-made name

  -- what is only read becomes nothing
  read-made : (name : ℕ) (r : Result (Prim.Unit {0}) LocationRefusal) (tell : LocationRefusal → Refusal) → MakesNoPlace name (told_as tell (r >>= λ read. Ok None))
  read-made name (Err refusal) tell = refused-made name (tell refusal)
  read-made name (Ok read) tell = nothing-made name

  expression-made : (c : ExpressionSource) (e : Placed) (before : List (ℕ × Value)) (name : ℕ) (bytes : List ℕ) → MakesNoPlace name (told_as (of_location c.told.place) (expression_becomes c e before name bytes))
  unfolding expression_becomes
  expression-made c e before name bytes = go (is_wrapped c.told.output e)
    where
      go : (wrapped : Bool) → MakesNoPlace name (told_as (of_location c.told.place) (elim wrapped [
        | true ↦ (read_expression name (in_force_at c e) (given_expression c e before bytes) >>= λ read. Ok None)
        | false ↦ (value_of_expression name (in_force_at c e) (given_expression c e before bytes) >>= λ v. Ok (LocationAttributes.drafted v))
      ]))
      go true = read-made name (read_expression name (in_force_at c e) (given_expression c e before bytes)) (of_location c.told.place)
      go false = located-made name (value_of_expression name (in_force_at c e) (given_expression c e before bytes)) (of_location c.told.place) (expression-located name (in_force_at c e) (given_expression c e before bytes))

  listed-made : (c : ExpressionSource) (e : Placed) (name : ℕ) (xs : List ListedExpression) → MakesNoPlace name (told_as (of_location c.told.place) (listed_become c e xs))
  listed-made c e name xs = go (is_wrapped c.told.output e)
    where
      go : (wrapped : Bool) → MakesNoPlace name (told_as (of_location c.told.place) (elim wrapped [
        | true ↦ (read_locations (in_force_at c e) xs >>= λ read. Ok None)
        | false ↦ (value_of_locations (in_force_at c e) xs >>= λ value. Ok (LocationAttributes.drafted value))
      ]))
      go true = read-made name (read_locations (in_force_at c e) xs) (of_location c.told.place)
      go false = located-made name (value_of_locations (in_force_at c e) xs) (of_location c.told.place) (locations-located (in_force_at c e) xs)

  locations-made : (c : ExpressionSource) (e : Placed) (name : ℕ) (v : Value) → MakesNoPlace name (locations_become of_list (of_location c.told.place) c e v)
  unfolding locations_become
  locations-made c e name v = go (told_as of_list (listed_by c e v))
    where
      go : (r : Result (List ListedExpression) Refusal) → MakesNoPlace name (r >>= λ xs. told_as (of_location c.told.place) (listed_become c e xs))
      go (Err refusal) = refused-made name refusal
      go (Ok xs) = listed-made c e name xs

  -- ---- extents

  intervals-name-none : (tag : ℕ) (is : List Interval) → Each IsNoReference (said_intervals tag is)
  intervals-name-none tag [] = (refl, tt)
  intervals-name-none tag (i ∷ j ∷ is) = (refl, tt)
  intervals-name-none tag (i ∷ []) = each_chosen IsNoReference ((DW_AT_ranges, ranges (i ∷ [])) ∷ []) (bounds i.begin (length_of i)) (tag == DW_TAG_compile_unit) (refl, tt) (refl, (refl, tt))

  position-names-none : (fs : List Function) (a : Address) (b : Bool) → IsNoReference (DW_AT_low_pc, if b then address_of_tree (Constant 0) else carried_address fs a)
  position-names-none fs a true = refl
  position-names-none fs a false = refl

  extent-names-none : (fs : List Function) (tag : ℕ) (x : Extent) → Each IsNoReference (said_extent fs tag x)
  extent-names-none fs tag nowhere = tt
  extent-names-none fs tag (intervals []) = tt
  extent-names-none fs tag (intervals (i ∷ is)) = intervals-name-none tag (native_of_intervals fs (i ∷ is))
  extent-names-none fs tag (position a) = (position-names-none fs a (tag == DW_TAG_compile_unit), tt)

  attributes-name-none : (fs : List Function) (s : ListSource) (e : Entry) → Each IsNoReference (range_attributes s fs e)
  unfolding range_attributes
  attributes-name-none fs s e = go (begun_function s fs e)
    where
      go : (o : Option Function) → Each IsNoReference (elim o [ Some f ↦ bounds (Symbol f.number (pos 0)) f.length | None ↦ said_extent fs e.tag (extent s e) ])
      go (Some f) = (refl, (refl, tt))
      go None = extent-names-none fs e.tag (extent s e)

  module _ (c : ExpressionSource) (s : UnitSource) (e : Placed) where
    value-becomes : (before : List (ℕ × Value)) (name : ℕ) (v : Value) → MakesNoPlace name (value_becomes (rules_of_source c) s e before name v)
    unfolding value_becomes
    value-becomes before name (Values.constant form bits) = constant-made name s form bits
    value-becomes before name (Values.flag b) = value-made name (done (flag b)) refl
    value-becomes before name (Values.block bytes) = value-made name (done (block bytes)) refl
    value-becomes before name (Values.text bytes) = text-made name (reported Text Info e.entry.offset (text_named s.texts (Values.text bytes)))
    value-becomes before name (Values.text_reference form n) = text-made name (reported Text Info e.entry.offset (text_named s.texts (Values.text_reference form n)))
    value-becomes before name (Values.unit_reference n) = reference-made name (target_of s.entries e (Values.unit_reference n))
    value-becomes before name (Values.info_reference n) = reference-made name (target_of s.entries e (Values.info_reference n))
    value-becomes before name (Values.line_reference n) = nothing-made name
    value-becomes before name Values.dropped = nothing-made name
    value-becomes before name (Values.address a) = code-made c.functions (lists_of c) e.entry.offset name (Values.address a)
    value-becomes before name (Values.address_index n) = code-made c.functions (lists_of c) e.entry.offset name (Values.address_index n)
    value-becomes before name (Values.expression bytes) = expression-made c e before name bytes
    value-becomes before name (Values.range_reference n) = code-made c.functions (lists_of c) e.entry.offset name (Values.range_reference n)
    value-becomes before name (Values.range_index n) = code-made c.functions (lists_of c) e.entry.offset name (Values.range_index n)
    value-becomes before name (Values.location_reference n) = locations-made c e name (Values.location_reference n)
    value-becomes before name (Values.location_index n) = locations-made c e name (Values.location_index n)

    bound-becomes : (before : List (ℕ × Value)) (a : ℕ × Value) → MakesNoPlace a.0 (bound_becomes (rules_of_source c) s e before a)
    unfolding bound_becomes
    bound-becomes before a = go (text_becomes (rules_of_source c) s e a.1) ((rules_of_source c).refused_bound e before a)
      where
        go : (r : Result (Option DraftValue) Refusal) (o : Option Refusal) → MakesNoPlace a.0 (r >>= λ read. nothing_unless o)
        go (Err refusal) o = refused-made a.0 refusal
        go (Ok read) None = nothing-made a.0
        go (Ok read) (Some refusal) = refused-made a.0 refusal

    attribute-becomes : (before : List (ℕ × Value)) (a : ℕ × Value) → MakesNoPlace a.0 (attribute_becomes (rules_of_source c) s e before a)
    unfolding attribute_becomes
    attribute-becomes before a = go (is_dropped_name a.0) (a.0 == DW_AT_stmt_list) (is_bound_name a.0)
      where
        table : (b : Bool) → MakesNoPlace a.0 (Ok (if b then Some (done line_table) else None))
        table true = value-made a.0 (done line_table) refl
        table false = nothing-made a.0

        go : (dropped lines bound : Bool) → MakesNoPlace a.0 (elim dropped [
          | true ↦ Ok None
          | false ↦ elim lines [
            | true ↦ Ok (table_becomes s e)
            | false ↦ elim bound [ true ↦ bound_becomes (rules_of_source c) s e before a | false ↦ kept_unless ((rules_of_source c).goes e a.0) (value_becomes (rules_of_source c) s e before a.0 a.1) ]
          ]
        ])
        go true lines bound = nothing-made a.0
        go false true bound = table ((e.entry.depth == 0) && is_some s.table)
        go false false true = bound-becomes before a
        go false false false = kept-made a.0 ((rules_of_source c).goes e a.0) (value_becomes (rules_of_source c) s e before a.0 a.1) (value-becomes before a.0 a.1)

    attributes-become : (before others : List (ℕ × Value)) → Each (λ a. (y : ℕ × DraftValue) → if_made a.0 a.1 ≡ Some y → SaysNoPlace Has y) (attributes_become (rules_of_source c) s e before others)
    unfolding attributes_become
    attributes-become before [] = tt
    attributes-become before (a ∷ others) = (attribute-becomes before a, attributes-become (before ++ (a ∷ [])) others)

    bounds-no-place : Each (SaysNoPlace Has) ((rules_of_source c).bounds e)
    bounds-no-place =
        let front = range_attributes (lists_of c) c.functions e.entry in
        let based = with_base c.told.output (e.entry.tag == DW_TAG_compile_unit) front in
        each_mapped (λ a. (a.0, done a.1)) IsNoReference (SaysNoPlace Has) (λ a is. is) based
        (go (base-or-none c.told.output (e.entry.tag == DW_TAG_compile_unit) front) (attributes-name-none c.functions (lists_of c) e.entry))
      where
        go : {as' bs : List (ℕ × TreeValue)} → (bs ≡ as') ⊎ (bs ≡ (DW_AT_low_pc, address_of_tree (Constant 0)) ∷ as') → Each IsNoReference as' → Each IsNoReference bs
        go (inl same) h = rw same h
        go (inr same) h = rw same (refl, h)

    endianity-no-place : (big_endian : Bool) → Each (SaysNoPlace Has) (endianity big_endian e)
    endianity-no-place big_endian = go (big_endian && (e.entry.tag == DW_TAG_base_type))
      where
        go : (b : Bool) → Each (SaysNoPlace Has) (if b then (DW_AT_endianity, done (constant DW_FORM_data1 DW_END_little)) ∷ [] else [])
        go true = (refl, tt)
        go false = tt

    entry-no-place : (big_endian : Bool) → EntrySaysNoPlace Has (draft_of (rules_of_source c) s big_endian e)
    unfolding attributes_made
    entry-no-place big_endian =
        let bounds = (rules_of_source c).bounds e in
        let others = filter_map (λ a. if_made a.0 a.1) (attributes_become (rules_of_source c) s e [] e.entry.attributes) in
        each_both (SaysNoPlace Has) (bounds ++ others) (endianity big_endian e)
        (each_both (SaysNoPlace Has) bounds others bounds-no-place
        (each_filter_map (λ a. if_made a.0 a.1) (SaysNoPlace Has) (attributes_become (rules_of_source c) s e [] e.entry.attributes) (attributes-become [] e.entry.attributes)))
        (endianity-no-place big_endian)

-- ---- object pointers, the context, and wrappers

underscored-no-place : (Has : Goal → Type 0) (name : ℕ) (v : DraftValue) → SaysNoPlace Has (name, v) → SaysNoPlace Has (name, underscored v)
underscored-no-place Has name (goes_to goal) h = h
underscored-no-place Has name (done (text bytes)) h = refl
underscored-no-place Has name (done (address_of_tree a)) h = h
underscored-no-place Has name (done (constant form bits)) h = h
underscored-no-place Has name (done (flag b)) h = h
underscored-no-place Has name (done (block bytes)) h = h
underscored-no-place Has name (done (expression bytes)) h = h
underscored-no-place Has name (done line_table) h = h
underscored-no-place Has name (done (ranges is)) h = h
underscored-no-place Has name (done (locations ls)) h = h
underscored-no-place Has name (done (entry number place)) h = h
underscored-no-place Has name (done nothing) h = h

module _ (Has : Goal → Type 0) (c : ExpressionSource) (s : UnitSource) (big_endian : Bool) where
  told-no-place : ((offset : ℕ) → Has (made_of offset itself)) → (e : Placed) → EntrySaysNoPlace Has (draft_told c s big_endian e)
  told-no-place plain e =
      each-changed (SaysNoPlace Has) (underscored-no-place Has) (wrappers_of c).texts c.entries e (attributes_made (rules_of_source c) s big_endian e) (entry-no-place Has plain c s e big_endian)

  context-no-place : Has (synthetic_entry (place_of_context_pointer c.told.memory)) → (e : Placed) → UnitSaysNoPlace Has (context_entries c e)
  context-no-place pointer e = go (context_over c e)
    where
      go : (o : Option (Result (List Location) BuildRefusal)) → UnitSaysNoPlace Has (option_to_list (option_map (λ located. context_variable (suc e.entry.depth) (context_pointer c) (locations_or_none located)) o))
      go None = tt
      go (Some located) = ((refl, (pointer, (refl, tt))), tt)

  module _ (e : Placed) (made : (role : Role) → Has (made_of e.entry.offset role)) where
    target-no-place : ((offset : ℕ) → Has (made_of offset itself)) → Each (SaysNoPlace Has) (target_type (wrappers_of c) e)
    target-no-place plain = go (type_of c.entries e)
      where
        go : (o : Option Placed) → Each (SaysNoPlace Has) (option_to_list (option_map (λ f. type_made f itself) o))
        go None = tt
        go (Some f) = (plain f.entry.offset, tt)

    wrapper-no-place : ((offset : ℕ) → Has (made_of offset itself)) → Has (synthetic_entry (place_of_wasm_pointer c.told.memory)) → UnitSaysNoPlace Has (wrapper (wrappers_of c) e)
    wrapper-no-place plain pointer =
        let parameter : Each (SaysNoPlace Has) (type_made e pointer_to_wrapper ∷ named DW_AT_artificial (flag true) ∷ []) = (made pointer_to_wrapper, (refl, tt)) in (
          (refl, (refl, tt)),
          (
            (refl, target-no-place plain),
            (
              (refl, (pointer, (refl, tt))),
              ((refl, (refl, (made pointer_to_target, tt))), (parameter, ((refl, (refl, (made reference_to_target, tt))), (parameter, ((refl, (refl, (made pointer_to_target, tt))), (parameter, tt)))))),
            ),
          ),
        )

    types-no-place : ((offset : ℕ) → Has (made_of offset itself)) → UnitSaysNoPlace Has (wrapper_types (wrappers_of c) e)
    types-no-place plain = ((made itself, tt), (target-no-place plain, (target-no-place plain, tt)))

-- the entries that are made of a unit's kept ones say no place, and their references have the property
pub unit-no-place : (Has : Goal → Type 0) (m : Module) (u : Unit) (s : UnitSource) (big_endian : Bool) (es : List Placed) → GoalsHave Has m.told.output m.told.memory es → UnitSaysNoPlace Has (unit_drafts (expressions_of m u) s big_endian es)
unit-no-place Has m u s big_endian es have =
    let c = expressions_of m u in
    each-made (EntrySaysNoPlace Has) (wrappers_of c) (entry_made c s big_endian) es
    (λ e i is. (told-no-place Has c s big_endian have.plain e, context-no-place Has c s big_endian have.context e))
    (λ e i is. (wrapper-no-place Has c s big_endian e (have.wrapped e i is) have.plain have.address, types-no-place Has c s big_endian e (have.wrapped e i is) have.plain))

-- nor does a module's synthetic unit
pub synthetic-no-place : (set_memory : List ℕ) (memory : Memory) → UnitSaysNoPlace Anywhere (synthetic_unit set_memory memory)
unfolding synthetic_unit
synthetic-no-place set_memory (defined offset) =
    ((refl, (refl, (refl, tt))), ((refl, (refl, (refl, tt))), ((refl, (tt, tt)), ((refl, (refl, tt)), ((refl, (tt, (refl, tt))), ((refl, (refl, tt)), ((tt, (refl, tt)), ((refl, (tt, tt)), ((refl, (refl, (refl, tt))), tt)))))))))
synthetic-no-place set_memory no_memory =
    ((refl, (refl, (refl, tt))), ((refl, (refl, (refl, tt))), ((refl, (tt, tt)), ((refl, tt), ((refl, (refl, tt)), ((tt, (refl, tt)), ((refl, (tt, tt)), ((refl, (refl, (refl, tt))), tt))))))))
synthetic-no-place set_memory (imported definition base) =
    ((refl, (refl, (refl, tt))), ((refl, (refl, (refl, tt))), ((refl, (tt, tt)), ((refl, tt), ((refl, (refl, tt)), ((tt, (refl, tt)), ((refl, (tt, tt)), ((refl, (refl, (refl, tt))), tt))))))))

module-no-place : (big_endian : Bool) (m : Module) → ModuleSaysNoPlace Anywhere (module_drafts big_endian m)
unfolding carried_drafts
module-no-place big_endian m = (synthetic-no-place m.told.names.set_memory m.told.memory, go (carried_in (kept_of m)))
  where
    go : (us : List Unit) → Each (UnitSaysNoPlace Anywhere) (map (λ u. unit_drafts (expressions_of m u) (source_of (kept_of m) u) big_endian (kept_in (kept_of m) u)) us)
    go [] = tt
    go (u ∷ us) = (unit-no-place Anywhere m u (source_of (kept_of m) u) big_endian (kept_in (kept_of m) u) (record { plain = λ offset. tt; wrapped = λ e i is role. tt; context = tt; address = tt }), go us)

modules-no-place : (big_endian : Bool) (ms : List Module) → Each (ModuleSaysNoPlace Anywhere) (map (module_drafts big_endian) ms)
modules-no-place big_endian [] = tt
modules-no-place big_endian (m ∷ ms) = (module-no-place big_endian m, modules-no-place big_endian ms)

-- Every reference of the trees that are made of the modules of an input goes to an entry of these trees.
pub made-targets : (c : Compilation) → HasAllTargets (module_trees c)
made-targets c = references-go (map (module_drafts (is_big c.order)) c.modules) (modules-no-place (is_big c.order) c.modules)
