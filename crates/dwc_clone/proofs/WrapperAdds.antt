-- A wrapper that is added to a unit of drafts is the one that is drafted; so are the types behind it.
use Rattle.std.proofs.Common.{append_assoc, ◌≡◌, ℕ, suc, refl, sym, ap, subst, ◌∙◌, arith, List, [], ◌∷◌, ◌++◌, length, true, Option, Some, None}
use Rattle.std.specs.Prelude.{option_map, codes}
use Rattle.dwc_base.specs.declared.constants.TheConstants.{DW_AT_artificial, DW_AT_byte_size, DW_AT_data_member_location, DW_AT_linkage_name, DW_AT_name, DW_AT_type, DW_FORM_data1, DW_TAG_formal_parameter, DW_TAG_member, DW_TAG_pointer_type, DW_TAG_reference_type, DW_TAG_structure_type, DW_TAG_subprogram, DW_TAG_template_type_parameter}
use Rattle.dwc_rules.specs.Kept.{Placed}
use Rattle.dwc_rules.specs.Clones.{UnitSource}
use Rattle.dwc_dwarf.specs.Trees as trees
use Rattle.dwc_rules.specs.Drafts.{Draft, Goal, Role, goes_to, itself, made_of, synthetic_entry, pointer_to_target, pointer_to_wrapper, reference_to_target}
use Rattle.dwc_rules.specs.MadeEntries.{data1, made, named}
use Rattle.dwc_rules.specs.TypeNames as definitions
use Rattle.dwc_rules.specs.Wrappers.{beside, method, name_or_unknown, target_type, type_made, wrapper, wrapper_name, wrapper_types}
use Rattle.dwc_isa.specs.Registers.{Registers}
use Rattle.dwc_unit.specs.declared.strings.StringId.{StringId}
use Rattle.dwc_unit.specs.declared.units.UnitEntryId.{UnitEntryId}
use Rattle.dwc_unit.specs.GivenUnits.{GivenUnit, IsReserved, place_of, with_child, with_known, with_places, with_reserved}
use Rattle.dwc_unit.proofs.NumberLaws.{child-last, known-same, leads-known, leads-reserved, place-reserved}
use Rattle.dwc_clone.specs.declared.made.MadeValue.{MadeValue}
use Rattle.dwc_clone.specs.declared.made.MadeValue.TheVariants.{AnyEntry, Constant, Entry, Flag, Text}
use Rattle.dwc_source.specs.declared.source.CloneSource.{CloneSource}
use Rattle.dwc_clone.specs.declared.wrapper.OpenWrapper.{OpenWrapper}
use Rattle.dwc_clone.specs.declared.wrapper.WrapperTexts.{WrapperTexts}
use Rattle.dwc_clone.specs.MadeAttributes.{with_made_entry, with_values}
use Rattle.dwc_clone.specs.ClonedUnits.{draft_depths}
use Rattle.dwc_clone.specs.ClonedEntries.{IsLastAt}
use Rattle.dwc_source.specs.KnownTexts.{IsNumbered}
use Rattle.dwc_clone.specs.OpenWrappers.{CanClose, HasWrapperTexts, members_added, method_added, types_added, with_type, with_typed, wrapper_added}
use Rattle.dwc_source.specs.Sources.{IsSource}
use Rattle.dwc_clone.specs.WrappedEntries.{target_id}
use Rattle.dwc_clone.specs.BuiltUnits.{HasRoles, IsDrafted}
use Rattle.dwc_clone.proofs.DraftedUnits.{Extends, KeepsPlaces, drafted-more, extended, last-extended, last-here, unit_behind}
use Rattle.dwc_clone.proofs.DraftSteps.{Adds, adds-on, bare, follows, given_in, known-adds, known-keeps, known_places, made-adds, values-last}
use Rattle.dwc_clone.proofs.EntryValues.{grows-not}
use Rattle.dwc_clone.proofs.OpenWrapperLaws.{first-reference, second-pointer}
use Rattle.dwc_clone.proofs.WrapperDrafts.{address-means, function-means, goals, named-means, parameter-means, pointer-means, structure-means, target-means, target_attributes, ws}

-- a type that is given to an entry is one of its attributes
typed-values : (id parent tag : ℕ) (target : Option UnitEntryId) (u : GivenUnit) → with_values id (target_attributes target) (with_child parent tag (with_known id u)) ≡ with_typed id parent tag target u
typed-values id parent tag None u = refl
typed-values id parent tag (Some t) u = refl

type-behind : (parent tag : ℕ) (a : ℕ × MadeValue) (target : Option UnitEntryId) (u : GivenUnit) → with_made_entry parent tag (a ∷ target_attributes target) u ≡ with_type (length u.places) target (with_made_entry parent tag (a ∷ []) u)
type-behind parent tag a None u = refl
type-behind parent tag a (Some t) u = refl

module _ (registers : Registers) (c : CloneSource) (number : ℕ) (s : UnitSource) (source : IsSource c number s) (roles : ℕ → Role → Option ℕ) (e : Placed) (own : e.unit ≡ c.unit.now.header.offset) (texts : List (List ℕ)) where
  abbrev at : Goal → Option (ℕ × ℕ)
  at = goals registers c number s source roles e own

  abbrev from : Rattle.dwc_rules.specs.Wrappers.WrapperSource
  from = ws registers c number s source roles e own

  abbrev Added : ℕ → List Draft → List Draft → GivenUnit → GivenUnit → Type 0
  Added depth ds es u v = Adds at number texts depth ds es u v

  abbrev LastOf : List Draft → ℕ → GivenUnit → UnitEntryId → Type 0
  LastOf ds depth u id = IsLastAt (draft_depths ds) depth u id

  -- what is deeper leaves an entry the last one of its depth
  last-on : (depth : ℕ) (ds es : List Draft) (u v : GivenUnit) (id : UnitEntryId) → Added (suc depth) ds es u v → LastOf ds depth u id → LastOf (ds ++ es) depth v id
  last-on depth ds es u v id adds last = last-extended (suc depth) (draft_depths ds) (draft_depths (ds ++ es)) u v adds.extends depth id (omega arith) last

  module _ (w : OpenWrapper) (target : w.target ≡ target_id c e) (itself_at : at (made_of e.entry.offset itself) ≡ Some (number, w.wrapper.index)) (has : HasRoles roles e.entry.offset w.types) where
    role-at : (role : Role) (o : Option ℕ) (n : ℕ) → o ≡ Some n → option_map {T = ℕ} {U = ℕ × ℕ} (λ k. (number, k)) o ≡ Some (number, n)
    role-at role o n is = ap (option_map {T = ℕ} {U = ℕ × ℕ} (λ k. (number, k))) is

    -- ---- the types behind it

    pub types-adds : (ds : List Draft) (u : GivenUnit) (above : ℕ) → IsDrafted at number texts ds u → e.entry.depth ≡ suc above → LastOf ds above u w.parent → CanClose u w → Added e.entry.depth ds (wrapper_types from e) u (types_added w u)
    types-adds ds u above so depth last can =
        let d1 = beside e pointer_to_wrapper DW_TAG_pointer_type (type_made e itself ∷ []) in
        let d2 = beside e reference_to_target DW_TAG_reference_type (target_type from e) in
        let d3 = beside e pointer_to_target DW_TAG_pointer_type (target_type from e) in
        let u1 = with_typed w.types.to_wrapper.index w.parent.index DW_TAG_pointer_type (Some w.wrapper) u in
        let u2 = with_typed w.types.reference.index w.parent.index DW_TAG_reference_type w.target u1 in
        let first : Added e.entry.depth ds (d1 ∷ []) u u1 = known-adds at number texts ds u so w.parent above last DW_TAG_pointer_type ((DW_AT_type, Entry w.wrapper) ∷ []) d1 depth (pointer-means registers c number s source roles e own texts w.wrapper itself_at) w.types.to_wrapper.index can.to_wrapper (role-at pointer_to_wrapper (roles e.entry.offset pointer_to_wrapper) w.types.to_wrapper.index has.to_wrapper) in
        let still : LastOf (ds ++ d1 ∷ []) above u1 w.parent = last-extended e.entry.depth (draft_depths ds) (draft_depths (ds ++ d1 ∷ [])) u u1 first.extends above w.parent (omega (arith, depth)) last in
        let second : Added e.entry.depth (ds ++ d1 ∷ []) (d2 ∷ []) u1 u2 =
        subst (Added e.entry.depth (ds ++ d1 ∷ []) (d2 ∷ []) u1) (typed-values w.types.reference.index w.parent.index DW_TAG_reference_type w.target u1)
        (known-adds at number texts (ds ++ d1 ∷ []) u1 first.drafted w.parent above still DW_TAG_reference_type (target_attributes w.target) d2 depth (target-means registers c number s source roles e own texts DW_TAG_reference_type reference_to_target w.target target) w.types.reference.index (first-reference w u u1 can refl) (role-at reference_to_target (roles e.entry.offset reference_to_target) w.types.reference.index has.reference)) in
        let both : Added e.entry.depth ds (d1 ∷ d2 ∷ []) u u2 = adds-on at number texts e.entry.depth e.entry.depth ds (d1 ∷ []) (d2 ∷ []) u u1 u2 (omega arith) first second in
        let still_more : LastOf (ds ++ d1 ∷ d2 ∷ []) above u2 w.parent = last-extended e.entry.depth (draft_depths ds) (draft_depths (ds ++ d1 ∷ d2 ∷ [])) u u2 both.extends above w.parent (omega (arith, depth)) last in
        let third : Added e.entry.depth (ds ++ d1 ∷ d2 ∷ []) (d3 ∷ []) u2 (types_added w u) =
        subst (Added e.entry.depth (ds ++ d1 ∷ d2 ∷ []) (d3 ∷ []) u2) (typed-values w.types.pointer.index w.parent.index DW_TAG_pointer_type w.target u2)
        (known-adds at number texts (ds ++ d1 ∷ d2 ∷ []) u2 both.drafted w.parent above still_more DW_TAG_pointer_type (target_attributes w.target) d3 depth (target-means registers c number s source roles e own texts DW_TAG_pointer_type pointer_to_target w.target target) w.types.pointer.index (second-pointer w u u1 can refl u2 refl) (role-at pointer_to_target (roles e.entry.offset pointer_to_target) w.types.pointer.index has.pointer)) in
        adds-on at number texts e.entry.depth e.entry.depth ds (d1 ∷ d2 ∷ []) (d3 ∷ []) u u2 (types_added w u) (omega arith) both third

    -- ---- its members and functions

    module _ (function name : List ℕ) (known : WrapperTexts) (has_texts : HasWrapperTexts texts from.resolve_memory name known) where
      members-add : (ds : List Draft) (u : GivenUnit) → IsDrafted at number texts ds u → LastOf ds e.entry.depth u w.wrapper
          → Added (suc e.entry.depth) ds
          (made (suc e.entry.depth) DW_TAG_template_type_parameter (named DW_AT_name (trees.text (codes "T")) ∷ target_type from e) ∷ made (suc e.entry.depth) DW_TAG_member (named DW_AT_name (trees.text (codes "__ptr")) ∷ (DW_AT_type, goes_to (synthetic_entry from.wasm_pointer)) ∷ named DW_AT_data_member_location (data1 0) ∷ []) ∷ [])
          u (members_added w known c.wasm_ptr u)
      members-add ds u so last =
          let deep = suc e.entry.depth in
          let d1 = made deep DW_TAG_template_type_parameter (named DW_AT_name (trees.text (codes "T")) ∷ target_type from e) in
          let d2 = made deep DW_TAG_member (named DW_AT_name (trees.text (codes "__ptr")) ∷ (DW_AT_type, goes_to (synthetic_entry from.wasm_pointer)) ∷ named DW_AT_data_member_location (data1 0) ∷ []) in
          let u1 = with_type (length u.places) w.target (with_made_entry w.wrapper.index DW_TAG_template_type_parameter ((DW_AT_name, Text known.target) ∷ []) u) in
          let first : Added deep ds (d1 ∷ []) u u1 =
          subst (Added deep ds (d1 ∷ []) u) (type-behind w.wrapper.index DW_TAG_template_type_parameter (DW_AT_name, Text known.target) w.target u)
          (made-adds at number texts ds u so w.wrapper e.entry.depth last DW_TAG_template_type_parameter ((DW_AT_name, Text known.target) ∷ target_attributes w.target) d1 refl (named-means registers c number s source roles e own texts deep DW_TAG_template_type_parameter (codes "T") known.target w.target target has_texts.target) refl).0 in
          let second = (made-adds at number texts (ds ++ d1 ∷ []) u1 first.drafted w.wrapper e.entry.depth (last-on e.entry.depth ds (d1 ∷ []) u u1 w.wrapper first last) DW_TAG_member ((DW_AT_name, Text known.address) ∷ (DW_AT_type, AnyEntry c.wasm_ptr) ∷ (DW_AT_data_member_location, Constant DW_FORM_data1 0) ∷ []) d2 refl (address-means registers c number s source roles e own texts known.address has_texts.address) refl).0 in
          adds-on at number texts deep deep ds (d1 ∷ []) (d2 ∷ []) u u1 (members_added w known c.wasm_ptr u) (omega arith) first second

      method-adds : (ds : List Draft) (u : GivenUnit) (title : List ℕ) (id : StringId) (role : Role) (gives : UnitEntryId) → IsDrafted at number texts ds u → LastOf ds e.entry.depth u w.wrapper → IsNumbered texts title id → at (made_of e.entry.offset role) ≡ Some (number, gives.index)
          → Added (suc e.entry.depth) ds (method from e title role) u (method_added w known id gives u)
      method-adds ds u title id role gives so last known_title gives_at =
          let deep = suc e.entry.depth in
          let d1 = made deep DW_TAG_subprogram (named DW_AT_linkage_name (trees.text from.resolve_memory) ∷ named DW_AT_name (trees.text title) ∷ type_made e role ∷ []) in
          let d2 = made (suc deep) DW_TAG_formal_parameter (type_made e pointer_to_wrapper ∷ named DW_AT_artificial (trees.flag true) ∷ []) in
          let u1 = with_made_entry w.wrapper.index DW_TAG_subprogram ((DW_AT_linkage_name, Text known.resolve) ∷ (DW_AT_name, Text id) ∷ (DW_AT_type, Entry gives) ∷ []) u in
          let first = made-adds at number texts ds u so w.wrapper e.entry.depth last DW_TAG_subprogram ((DW_AT_linkage_name, Text known.resolve) ∷ (DW_AT_name, Text id) ∷ (DW_AT_type, Entry gives) ∷ []) d1 refl (function-means registers c number s source roles e own texts from.resolve_memory title known.resolve id role gives gives_at has_texts.resolve known_title) refl in
          let second = (made-adds at number texts (ds ++ d1 ∷ []) u1 (first.0).drafted (record { index = length u.places }) deep first.1 DW_TAG_formal_parameter ((DW_AT_type, Entry w.types.to_wrapper) ∷ (DW_AT_artificial, Flag true) ∷ []) d2 refl (parameter-means registers c number s source roles e own texts w.types.to_wrapper (role-at pointer_to_wrapper (roles e.entry.offset pointer_to_wrapper) w.types.to_wrapper.index has.to_wrapper)) refl).0 in
          adds-on at number texts deep (suc deep) ds (d1 ∷ []) (d2 ∷ []) u u1 (method_added w known id gives u) (omega arith) first.0 second

      -- the structure, whose number was reserved, in front of the numbers of its types
      structure-adds : (ds : List Draft) (u : GivenUnit) (above : ℕ) (parent : UnitEntryId) → IsDrafted at number texts ds u → e.entry.depth ≡ suc above → LastOf ds above u parent → IsReserved w.wrapper.index u → IsNumbered texts name known.name
          → Added e.entry.depth ds (beside e itself DW_TAG_structure_type (named DW_AT_name (trees.text name) ∷ named DW_AT_byte_size (data1 4) ∷ []) ∷ []) u
          (with_values w.wrapper.index ((DW_AT_name, Text known.name) ∷ (DW_AT_byte_size, Constant DW_FORM_data1 4) ∷ []) (with_reserved (with_reserved (with_reserved (with_child parent.index DW_TAG_structure_type (with_known w.wrapper.index u))))))
          × LastOf (ds ++ beside e itself DW_TAG_structure_type (named DW_AT_name (trees.text name) ∷ named DW_AT_byte_size (data1 4) ∷ []) ∷ []) e.entry.depth
          (with_values w.wrapper.index ((DW_AT_name, Text known.name) ∷ (DW_AT_byte_size, Constant DW_FORM_data1 4) ∷ []) (with_reserved (with_reserved (with_reserved (with_child parent.index DW_TAG_structure_type (with_known w.wrapper.index u)))))) w.wrapper
      structure-adds ds u above parent so depth last reserved known_name =
          let id = w.wrapper.index in
          let attributes : List (ℕ × MadeValue) = (DW_AT_name, Text known.name) ∷ (DW_AT_byte_size, Constant DW_FORM_data1 4) ∷ [] in
          let d = beside e itself DW_TAG_structure_type (named DW_AT_name (trees.text name) ∷ named DW_AT_byte_size (data1 4) ∷ []) in
          let p1 = known_places id u in
          let p2 = p1 ++ None ∷ [] in
          let p3 = p2 ++ None ∷ [] in
          let p4 = p3 ++ None ∷ [] in
          let same : (k : ℕ) → place_of k p4 ≡ place_of k p1 = λ k. place-reserved k p3 ∙ place-reserved k p2 ∙ place-reserved k p1 in
          let here : place_of id p4 ≡ Some (length u.additions) = same id ∙ known-same u id reserved.0 in
          let kept : KeepsPlaces u.places p4 = λ k place is. same k ∙ known-keeps id u reserved.1 k place is in
          let means = structure-means registers c number s source roles e own texts name known.name known_name in
          let added = given_in attributes (bare last.place DW_TAG_structure_type) in
          let leads = leads-reserved (unit_behind u added p3) (leads-reserved (unit_behind u added p2) (leads-reserved (unit_behind u added p1) (leads-known u id added so.leads))) in
          let f = follows at number texts ds u so parent above last DW_TAG_structure_type attributes d depth means id p4 here kept itself_at leads in
          let is = sym
          (ap (λ v. with_values id attributes (with_reserved (with_reserved (with_reserved v)))) (child-last (with_known id u) parent.index last.place DW_TAG_structure_type (known-keeps id u reserved.1 parent.index last.place last.at))
          ∙ values-last id attributes (with_places p4 u) (bare last.place DW_TAG_structure_type) here) in (
            record {
              drafted = subst (IsDrafted at number texts (ds ++ d ∷ [])) is (drafted-more at number texts texts (grows-not texts) ds u so d added id p4 f);
              extends = subst (λ v. Extends d.depth (draft_depths ds) (draft_depths (ds ++ d ∷ [])) u v) is (extended at number texts texts (grows-not texts) ds u so d added id p4 f);
            },
            subst (λ v. LastOf (ds ++ d ∷ []) d.depth v w.wrapper) is (last-here at number texts texts (grows-not texts) ds u so d added id p4 f),
          )

      -- The whole wrapper, of a name, under a parent.
      pub wrapper-adds : (ds : List Draft) (u bare_unit : GivenUnit) (above : ℕ) (parent : UnitEntryId) → name ≡ wrapper_name e.entry.tag (name_or_unknown (definitions.type_name from.texts from.entries e))
          → IsDrafted at number texts ds u → e.entry.depth ≡ suc above → LastOf ds above u parent → IsReserved w.wrapper.index u → bare_unit ≡ with_child parent.index DW_TAG_structure_type (with_known w.wrapper.index u)
          → Added e.entry.depth ds (wrapper from e) u (wrapper_added w known c.wasm_ptr bare_unit) × LastOf (ds ++ wrapper from e) e.entry.depth (wrapper_added w known c.wasm_ptr bare_unit) w.wrapper
      wrapper-adds ds u bare_unit above parent named_so so depth last reserved is = subst (λ n. Whole n) named_so (subst Of (sym is) whole)
        where
          Front : List ℕ → Draft
          Front n = beside e itself DW_TAG_structure_type (named DW_AT_name (trees.text n) ∷ named DW_AT_byte_size (data1 4) ∷ [])

          behind : List Draft
          behind =
              (made (suc e.entry.depth) DW_TAG_template_type_parameter (named DW_AT_name (trees.text (codes "T")) ∷ target_type from e) ∷ made (suc e.entry.depth) DW_TAG_member (named DW_AT_name (trees.text (codes "__ptr")) ∷ (DW_AT_type, goes_to (synthetic_entry from.wasm_pointer)) ∷ named DW_AT_data_member_location (data1 0) ∷ []) ∷ [])
              ++ (method from e (codes "ptr") pointer_to_target ++ (method from e (codes "operator*") reference_to_target ++ method from e (codes "operator->") pointer_to_target))

          Of : GivenUnit → Type 0
          Of b = Added e.entry.depth ds (Front name ∷ behind) u (wrapper_added w known c.wasm_ptr b) × LastOf (ds ++ Front name ∷ behind) e.entry.depth (wrapper_added w known c.wasm_ptr b) w.wrapper

          Whole : List ℕ → Type 0
          Whole n = Added e.entry.depth ds (Front n ∷ behind) u (wrapper_added w known c.wasm_ptr bare_unit) × LastOf (ds ++ Front n ∷ behind) e.entry.depth (wrapper_added w known c.wasm_ptr bare_unit) w.wrapper

          whole : Of (with_child parent.index DW_TAG_structure_type (with_known w.wrapper.index u))
          whole =
              let deep = suc e.entry.depth in
              let b = with_child parent.index DW_TAG_structure_type (with_known w.wrapper.index u) in
              let m0 : List Draft = made deep DW_TAG_template_type_parameter (named DW_AT_name (trees.text (codes "T")) ∷ target_type from e) ∷ made deep DW_TAG_member (named DW_AT_name (trees.text (codes "__ptr")) ∷ (DW_AT_type, goes_to (synthetic_entry from.wasm_pointer)) ∷ named DW_AT_data_member_location (data1 0) ∷ []) ∷ [] in
              let m1 = method from e (codes "ptr") pointer_to_target in
              let m2 = method from e (codes "operator*") reference_to_target in
              let m3 = method from e (codes "operator->") pointer_to_target in
              let ds1 = ds ++ Front name ∷ [] in
              let u1 = with_values w.wrapper.index ((DW_AT_name, Text known.name) ∷ (DW_AT_byte_size, Constant DW_FORM_data1 4) ∷ []) (with_reserved (with_reserved (with_reserved b))) in
              let u2 = members_added w known c.wasm_ptr u1 in
              let u3 = method_added w known known.pointer w.types.pointer u2 in
              let u4 = method_added w known known.dereference w.types.reference u3 in
              let u5 = method_added w known known.arrow w.types.pointer u4 in
              let first = structure-adds ds u above parent so depth last reserved has_texts.name in
              let pointer_at = role-at pointer_to_target (roles e.entry.offset pointer_to_target) w.types.pointer.index has.pointer in
              let reference_at = role-at reference_to_target (roles e.entry.offset reference_to_target) w.types.reference.index has.reference in
              let a0 = members-add ds1 u1 (first.0).drafted first.1 in
              let l0 = last-on e.entry.depth ds1 m0 u1 u2 w.wrapper a0 first.1 in
              let a1 = method-adds (ds1 ++ m0) u2 (codes "ptr") known.pointer pointer_to_target w.types.pointer a0.drafted l0 has_texts.pointer pointer_at in
              let l1 = last-on e.entry.depth (ds1 ++ m0) m1 u2 u3 w.wrapper a1 l0 in
              let a2 = method-adds ((ds1 ++ m0) ++ m1) u3 (codes "operator*") known.dereference reference_to_target w.types.reference a1.drafted l1 has_texts.dereference reference_at in
              let l2 = last-on e.entry.depth ((ds1 ++ m0) ++ m1) m2 u3 u4 w.wrapper a2 l1 in
              let a3 = method-adds (((ds1 ++ m0) ++ m1) ++ m2) u4 (codes "operator->") known.arrow pointer_to_target w.types.pointer a2.drafted l2 has_texts.arrow pointer_at in
              let b2 = adds-on at number texts deep deep ((ds1 ++ m0) ++ m1) m2 m3 u3 u4 u5 (omega arith) a2 a3 in
              let b1 = adds-on at number texts deep deep (ds1 ++ m0) m1 (m2 ++ m3) u2 u3 u5 (omega arith) a1 b2 in
              let b0 : Added deep ds1 behind u1 u5 = adds-on at number texts deep deep ds1 m0 (m1 ++ (m2 ++ m3)) u1 u2 u5 (omega arith) a0 b1 in
              let end = last-on e.entry.depth ds1 behind u1 u5 w.wrapper b0 first.1 in
              (adds-on at number texts e.entry.depth deep ds (Front name ∷ []) behind u u1 u5 (omega arith) first.0 b0, subst (λ xs. LastOf xs e.entry.depth u5 w.wrapper) (append_assoc ds (Front name ∷ []) behind) end)
