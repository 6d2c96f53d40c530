-- The entries of a wrapper, and the types behind it, are those that are drafted.
use Rattle.std.proofs.Common.{◌≡◌, ℕ, suc, ◌<◌, refl, sym, ap, ap₂, ◌∙◌, List, [], ◌∷◌, length, true, Option, Some, None}
use Rattle.std.specs.Prelude.{filter_map, option_and_then, option_map, option_to_list, codes}
use Rattle.std.specs.List.{All, cons_option}
use Rattle.std.proofs.lemmas.List.Elements.{All-cons, All-nil}
use Rattle.dwc_base.specs.declared.constants.TheConstants.{DW_AT_artificial, DW_AT_byte_size, DW_AT_data_member_location, DW_AT_linkage_name, DW_AT_name, DW_AT_type, DW_FORM_data1, DW_TAG_formal_parameter, DW_TAG_member, DW_TAG_pointer_type, DW_TAG_structure_type, DW_TAG_subprogram}
use Rattle.dwc_dwarf.specs.Values.{Value, address, address_index, block, constant, dropped, expression, flag, info_reference, line_reference, location_index, location_reference, range_index, range_reference, text, text_reference, unit_reference}
use Rattle.dwc_dwarf.specs.Entries.{attribute}
use Rattle.dwc_rules.specs.Kept.{Placed}
use Rattle.dwc_rules.specs.TypeNames.{target_in_unit, type_of}
use Rattle.dwc_dwarf.specs.Trees as trees
use Rattle.dwc_dwarf.specs.Trees.{TreeEntry, TreeValue, entry, set_in_order}
use Rattle.dwc_rules.specs.Clones.{UnitSource}
use Rattle.dwc_rules.specs.EntryRules.{wrappers_of}
use Rattle.dwc_rules.specs.Drafts.{Draft, Goal, Role, goes_to, itself, made_of, synthetic_entry, pointer_to_wrapper}
use Rattle.dwc_rules.specs.DraftForests.{settled}
use Rattle.dwc_rules.specs.MadeEntries.{data1, made, named}
use Rattle.dwc_rules.specs.Wrappers.{WrapperSource, beside, target_type, type_made}
use Rattle.dwc_isa.specs.Registers.{Registers}
use Rattle.dwc_kept.specs.ReadEntries.{named_offset}
use Rattle.dwc_unit.specs.declared.strings.StringId.{StringId}
use Rattle.dwc_unit.specs.declared.units.UnitEntryId.{UnitEntryId}
use Rattle.dwc_unit.specs.AddedInOrder.{entry_meant}
use Rattle.dwc_unit.specs.UsedTexts.{text_numbered, texts_of_attributes}
use Rattle.dwc_clone.specs.declared.made.MadeValue.{MadeValue}
use Rattle.dwc_clone.specs.declared.made.MadeValue.TheVariants.{AnyEntry, Constant, Entry, Flag, Text}
use Rattle.dwc_source.specs.declared.source.CloneSource.{CloneSource}
use Rattle.dwc_clone.specs.ClonedUnits.{goal_number}
use Rattle.dwc_extents.specs.CodeSources.{source_with}
use Rattle.dwc_source.specs.KnownTexts.{IsNumbered}
use Rattle.dwc_source.specs.OutputPlaces.{place_of}
use Rattle.dwc_source.specs.Sources.{IsSource, synthetic_unit_of}
use Rattle.dwc_types.specs.TypeChains.{offset_in_unit}
use Rattle.dwc_clone.specs.WrappedEntries.{target_id}
use Rattle.dwc_clone.proofs.ReferenceLaws.{IsWithin, named-within}
use Rattle.dwc_clone.proofs.DraftSteps.{Means, bare, given_in}

-- ---- explicit lists

abbrev Each : {A : Type 0} → (A → Type 0) → List A → Type 0
Each P [] = Unit {0}
Each P (x ∷ xs) = P x × Each P xs

each-all : {A : Type 0} (P : A → Type 0) (xs : List A) → Each P xs → All P xs
each-all P [] h = All-nil P
each-all P (x ∷ xs) h = All-cons P x xs h.0 (each-all P xs h.1)

-- ---- the type that a wrapped entry goes to

abbrev pub target_values : ℕ → Option UnitEntryId → List (ℕ × TreeValue)
target_values number None = []
target_values number (Some id) = (DW_AT_type, entry number id.index) ∷ []

abbrev pub target_attributes : Option UnitEntryId → List (ℕ × MadeValue)
target_attributes None = []
target_attributes (Some id) = (DW_AT_type, Entry id) ∷ []

module _ (registers : Registers) (c : CloneSource) (number : ℕ) (s : UnitSource) (source : IsSource c number s) (roles : ℕ → Role → Option ℕ) (e : Placed) (own : e.unit ≡ c.unit.now.header.offset) where
  abbrev pub ws : WrapperSource
  ws = wrappers_of (source_with registers c s)

  abbrev pub goals : Goal → Option (ℕ × ℕ)
  goals = goal_number c number roles

  abbrev values_at : Option (ℕ × ℕ) → List (ℕ × TreeValue)
  values_at None = []
  values_at (Some p) = (DW_AT_type, entry p.0 p.1) ∷ []

  settled-at : (t : Option Placed) → filter_map (settled goals) (option_to_list (option_map (λ f. type_made f itself) t)) ≡ values_at (option_and_then (λ f. place_of c.places.now f.entry.offset) t)
  settled-at None = refl
  settled-at (Some f) = go (place_of c.places.now f.entry.offset)
    where
      go : (p : Option (ℕ × ℕ)) → cons_option (option_map (λ v. (DW_AT_type, v)) (option_map (λ q. entry q.0 q.1) p)) [] ≡ values_at p
      go None = refl
      go (Some p) = refl

  found-at : (n : ℕ) (o : Option ℕ) → named_offset c.unit.now.header.offset c.unit.now.header.end (unit_reference n) ≡ o
      → values_at (option_and_then (place_of c.places.now) o) ≡ target_values number (option_map {T = ℕ × ℕ} (λ t. record { index = t.1 }) (option_and_then (λ offset. option_map (λ p. (offset, p.1)) (place_of c.places.now offset)) o))
  found-at n None is = refl
  found-at n (Some offset) is = go (place_of c.places.now offset) refl
    where
      inside : IsWithin c.unit.now.header.offset c.unit.now.header.end offset
      inside = named-within c.unit.now.header.offset c.unit.now.header.end n offset is

      go : (p : Option (ℕ × ℕ)) → place_of c.places.now offset ≡ p → values_at p ≡ target_values number (option_map {T = ℕ × ℕ} (λ t. record { index = t.1 }) (option_map (λ q. (offset, q.1)) p))
      go None at = refl
      go (Some p) at = ap (λ k. (DW_AT_type, entry k p.1) ∷ []) (source.own offset p inside.low inside.high at)

  pub target-settled : filter_map (settled goals) (target_type ws e) ≡ target_values number (target_id c e)
  target-settled = settled-at (type_of s.entries e) ∙ go (attribute DW_AT_type e.entry)
    where
      go : (v : Option Value) → values_at (option_and_then (λ f. place_of c.places.now f.entry.offset) (target_in_unit s.entries e v))
          ≡ target_values number (option_map {T = ℕ × ℕ} (λ t. record { index = t.1 }) (option_and_then (λ offset. option_map (λ p. (offset, p.1)) (place_of c.places.now offset)) (offset_in_unit c v)))
      go (Some (unit_reference n)) = ap values_at (source.targets e (unit_reference n) own) ∙ found-at n (named_offset c.unit.now.header.offset c.unit.now.header.end (unit_reference n)) refl
      go None = refl
      go (Some (address a)) = refl
      go (Some (address_index n)) = refl
      go (Some (constant form n)) = refl
      go (Some (flag b)) = refl
      go (Some (block bytes)) = refl
      go (Some (expression bytes)) = refl
      go (Some (text bytes)) = refl
      go (Some (text_reference form n)) = refl
      go (Some (line_reference n)) = refl
      go (Some (range_reference n)) = refl
      go (Some (range_index n)) = refl
      go (Some (location_reference n)) = refl
      go (Some (location_index n)) = refl
      go (Some (info_reference n)) = refl
      go (Some dropped) = refl

  -- ---- what the entries of a wrapper say

  abbrev at_number : Option ℕ → Option (ℕ × ℕ)
  at_number o = option_map (λ n. (number, n)) o

  -- a type, as it is settled
  abbrev one_type : Option (ℕ × ℕ) → List (ℕ × TreeValue) → List (ℕ × TreeValue)
  one_type o others = cons_option (option_map (λ v. (DW_AT_type, v)) (option_map (λ q. entry q.0 q.1) o)) others

  module _ (texts : List (List ℕ)) where
    abbrev Says : ℕ → List (ℕ × MadeValue) → Draft → Type 0
    Says tag attributes d = Means goals number texts tag attributes d

    abbrev tree : ℕ → ℕ → List (ℕ × TreeValue) → TreeEntry
    tree depth tag values = record { depth = depth; tag = tag; attributes = set_in_order values }

    -- the structure, by its name
    pub structure-means : (name : List ℕ) (id : StringId) → IsNumbered texts name id
        → Says DW_TAG_structure_type ((DW_AT_name, Text id) ∷ (DW_AT_byte_size, Constant DW_FORM_data1 4) ∷ []) (beside e itself DW_TAG_structure_type (named DW_AT_name (trees.text name) ∷ named DW_AT_byte_size (data1 4) ∷ []))
    structure-means name id known = record {
      says = ap (λ t. tree e.entry.depth DW_TAG_structure_type ((DW_AT_name, trees.text t) ∷ (DW_AT_byte_size, data1 4) ∷ [])) known.is;
      names = each-all (λ n. n < length texts) (id.index ∷ []) (known.inside, tt);
    }

    -- an entry of a name and the type that is gone to
    pub named-means : (depth tag : ℕ) (name : List ℕ) (id : StringId) (target : Option UnitEntryId) → target ≡ target_id c e → IsNumbered texts name id
        → Says tag ((DW_AT_name, Text id) ∷ target_attributes target) (made depth tag (named DW_AT_name (trees.text name) ∷ target_type ws e))
    named-means depth tag name id target same known =
        let wanted : List (ℕ × TreeValue) → TreeEntry = λ values. tree depth tag ((DW_AT_name, trees.text name) ∷ values) in
        record {
          says = go target ∙ ap (λ t. tree depth tag ((DW_AT_name, trees.text t) ∷ target_values number target)) known.is ∙ ap wanted (ap (target_values number) same ∙ sym target-settled);
          names = texts_in target;
        }
      where
        go : (o : Option UnitEntryId) → entry_meant texts number depth (given_in ((DW_AT_name, Text id) ∷ target_attributes o) (bare 0 tag)) ≡ tree depth tag ((DW_AT_name, trees.text (text_numbered texts id.index)) ∷ target_values number o)
        go None = refl
        go (Some t) = refl

        texts_in : (o : Option UnitEntryId) → All (λ n. n < length texts) (texts_of_attributes (given_in ((DW_AT_name, Text id) ∷ target_attributes o) (bare 0 tag)).attributes)
        texts_in None = each-all (λ n. n < length texts) (id.index ∷ []) (known.inside, tt)
        texts_in (Some t) = each-all (λ n. n < length texts) (id.index ∷ []) (known.inside, tt)

    -- the address
    pub address-means : (id : StringId) → IsNumbered texts (codes "__ptr") id
        → Says DW_TAG_member ((DW_AT_name, Text id) ∷ (DW_AT_type, AnyEntry c.wasm_ptr) ∷ (DW_AT_data_member_location, Constant DW_FORM_data1 0) ∷ []) (made (suc e.entry.depth) DW_TAG_member (named DW_AT_name (trees.text (codes "__ptr")) ∷ (DW_AT_type, goes_to (synthetic_entry ws.wasm_pointer)) ∷ named DW_AT_data_member_location (data1 0) ∷ []))
    address-means id known = record {
      says = ap (λ r. entry_meant texts number (suc e.entry.depth) (given_in ((DW_AT_name, Text id) ∷ (DW_AT_type, AnyEntry r) ∷ (DW_AT_data_member_location, Constant DW_FORM_data1 0) ∷ []) (bare 0 DW_TAG_member))) source.address
          ∙ ap (λ t. tree (suc e.entry.depth) DW_TAG_member ((DW_AT_name, trees.text t) ∷ (DW_AT_type, entry (synthetic_unit_of c) ws.wasm_pointer) ∷ (DW_AT_data_member_location, data1 0) ∷ [])) known.is;
      names = each-all (λ n. n < length texts) (id.index ∷ []) (known.inside, tt);
    }

    -- a function, by its names and what it gives
    pub function-means : (function name : List ℕ) (linkage id : StringId) (role : Role) (gives : UnitEntryId) → goals (made_of e.entry.offset role) ≡ Some (number, gives.index) → IsNumbered texts function linkage → IsNumbered texts name id
        → Says DW_TAG_subprogram ((DW_AT_linkage_name, Text linkage) ∷ (DW_AT_name, Text id) ∷ (DW_AT_type, Entry gives) ∷ []) (made (suc e.entry.depth) DW_TAG_subprogram (named DW_AT_linkage_name (trees.text function) ∷ named DW_AT_name (trees.text name) ∷ type_made e role ∷ []))
    function-means function name linkage id role gives at known_function known =
        let whole : List ℕ → List ℕ → Option (ℕ × ℕ) → TreeEntry = λ f n o. tree (suc e.entry.depth) DW_TAG_subprogram ((DW_AT_linkage_name, trees.text f) ∷ (DW_AT_name, trees.text n) ∷ one_type o []) in
        record {
          says = ap₂ (λ f n. whole f n (Some (number, gives.index))) known_function.is known.is ∙ ap (whole function name) (sym at);
          names = each-all (λ n. n < length texts) (linkage.index ∷ id.index ∷ []) (known_function.inside, (known.inside, tt));
        }

    -- what it takes, a pointer to the wrapper
    pub parameter-means : (taken : UnitEntryId) → goals (made_of e.entry.offset pointer_to_wrapper) ≡ Some (number, taken.index)
        → Says DW_TAG_formal_parameter ((DW_AT_type, Entry taken) ∷ (DW_AT_artificial, Flag true) ∷ []) (made (suc (suc e.entry.depth)) DW_TAG_formal_parameter (type_made e pointer_to_wrapper ∷ named DW_AT_artificial (trees.flag true) ∷ []))
    parameter-means taken at = record {
      says = ap (λ o. tree (suc (suc e.entry.depth)) DW_TAG_formal_parameter (one_type o ((DW_AT_artificial, trees.flag true) ∷ []))) (sym at);
      names = All-nil (λ n. n < length texts);
    }

    -- the pointer to the wrapper, and the types that go where the wrapped entry goes
    pub pointer-means : (id : UnitEntryId) → goals (made_of e.entry.offset itself) ≡ Some (number, id.index) → Says DW_TAG_pointer_type ((DW_AT_type, Entry id) ∷ []) (beside e pointer_to_wrapper DW_TAG_pointer_type (type_made e itself ∷ []))
    pointer-means id at = record { says = ap (λ o. tree e.entry.depth DW_TAG_pointer_type (one_type o [])) (sym at); names = All-nil (λ n. n < length texts) }

    pub target-means : (tag : ℕ) (role : Role) (target : Option UnitEntryId) → target ≡ target_id c e → Says tag (target_attributes target) (beside e role tag (target_type ws e))
    target-means tag role target same = record {
      says = go target ∙ ap (tree e.entry.depth tag) (ap (target_values number) same ∙ sym target-settled);
      names = texts_in target;
    }
      where
        go : (o : Option UnitEntryId) → entry_meant texts number e.entry.depth (given_in (target_attributes o) (bare 0 tag)) ≡ tree e.entry.depth tag (target_values number o)
        go None = refl
        go (Some t) = refl

        texts_in : (o : Option UnitEntryId) → All (λ n. n < length texts) (texts_of_attributes (given_in (target_attributes o) (bare 0 tag)).attributes)
        texts_in None = All-nil (λ n. n < length texts)
        texts_in (Some t) = All-nil (λ n. n < length texts)
