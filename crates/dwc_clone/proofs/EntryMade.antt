-- An entry more of a unit: the root, one that is made itself, and one that is wrapped.
use Rattle.std.proofs.Common.{◌≡◌, ℕ, suc, ◌+◌, ◌-◌, ◌<◌, ◌≤◌, refl, sym, ap, ap₂, subst, ◌∙◌, arith, append_assoc, List, [], ◌∷◌, ◌++◌, length, take, true, false, Option, Some, None, Result}
use Rattle.std.specs.Prelude.{◌==◌, ◌||◌, if◌then◌else◌, option_map, option_to_list, reverse}
use Rattle.std.specs.List.{All}
use Rattle.std.proofs.lemmas.List.{length-set, reverse-append}
use Rattle.std.proofs.lemmas.List.Elements.{All-nil}
use Rattle.dwc_base.specs.declared.constants.TheConstants.{DW_TAG_compile_unit, DW_TAG_pointer_type, DW_TAG_reference_type, DW_TAG_structure_type, DW_TAG_subprogram}
use Rattle.dwc_base.specs.declared.records.OutputFor.{OutputFor}
use Rattle.dwc_base.specs.declared.records.OutputFor.TheVariants.{Default, Debugger}
use Rattle.dwc_native.specs.BuiltExpressions.{BuildRefusal}
use Rattle.dwc_dwarf.specs.Entries.{Entry}
use Rattle.dwc_rules.specs.Kept.{Placed}
use Rattle.dwc_dwarf.specs.Trees.{Location}
use Rattle.dwc_rules.specs.CarriedDrafts.{entry_made}
use Rattle.dwc_rules.specs.Clones.{UnitSource}
use Rattle.dwc_rules.specs.ContextVariable.{context_entries, context_in, context_over, context_pointer, context_variable, locations_or_none}
use Rattle.dwc_rules.specs.Drafts.{Draft, Goal, Role}
use Rattle.dwc_rules.specs.EntryRules.{wrappers_of}
use Rattle.dwc_rules.specs.LocationRules.{ExpressionSource, in_force_at}
use Rattle.dwc_rules.specs.TypeNames.{type_name}
use Rattle.dwc_rules.specs.Wrappers.{WrapperSource, closing, entries_made, is_wrapped, is_wrapped_too, made_itself, name_or_unknown, open_behind, wrapper, wrapper_name}
use Rattle.dwc_rules.proofs.WrapperLaws.{entries-in_place, made-next}
use Rattle.dwc_isa.specs.Registers.{Registers}
use Rattle.dwc_unit.specs.declared.units.UnitEntryId.{UnitEntryId}
use Rattle.dwc_unit.specs.GivenUnits.{Addition, GivenUnit, IsPlaceBelow, IsReserved, place_of, with_child, with_known}
use Rattle.dwc_unit.specs.AddedInOrder.{with_last}
use Rattle.dwc_unit.proofs.NumberLaws.{child-places}
use Rattle.dwc_clone.specs.declared.entry.PlacedEntry.{PlacedEntry}
use Rattle.dwc_source.specs.declared.source.CloneSource.{CloneSource}
use Rattle.dwc_clone.specs.declared.wrapper.OpenWrapper.{OpenWrapper}
use Rattle.dwc_clone.specs.BuiltUnits.{AreBuilt, AreOpen, HasRoles, IsBegun, IsOpen, TakesRoles, numbers_taken, rootless}
use Rattle.dwc_clone.specs.ClonedUnits.{clone_drafts, draft_depths, goal_number, placed_in}
use Rattle.dwc_extents.specs.CodeSources.{source_with}
use Rattle.dwc_clone.specs.ClonedEntries.{AddsBelow, IsLast, IsLastAt, last_parent}
use Rattle.dwc_source.specs.Sources.{placed_entry, IsSource}
use Rattle.dwc_clone.specs.ContextPlaces.{HasVariable}
use Rattle.dwc_source.specs.OutputPlaces as output
use Rattle.dwc_clone.specs.PlainEntries.{IsItself}
use Rattle.dwc_clone.specs.WrappedEntries.{IsWrapped}
use Rattle.dwc_clone.proofs.DraftPaths.{parent-of}
use Rattle.dwc_clone.proofs.DraftedUnits.{drafted-texts, last-extended}
use Rattle.dwc_clone.proofs.DraftSteps.{Adds, adds-on, bare}
use Rattle.dwc_clone.proofs.EntryAdds.{given-adds, own-last, root-drafted, told, variable-adds}
use Rattle.dwc_clone.proofs.EntrySteps.{IsReady, next-built}
use Rattle.dwc_clone.proofs.OpenStacks.{open-less, open-on}
use Rattle.dwc_clone.proofs.TakenNumbers.{numbers_in, variable-count, wrapper-count}
use Rattle.dwc_clone.proofs.WrapperAdds.{wrapper-adds}

module _ (registers : Registers) (c : CloneSource) (number : ℕ) (s : UnitSource) (source : IsSource c number s) (roles : ℕ → Role → Option ℕ) (all : List Entry) (begun : GivenUnit) (e : Entry) (others : List Entry) (texts : List (List ℕ)) (parents : List UnitEntryId) where
  abbrev at : Goal → Option (ℕ × ℕ)
  at = goal_number c number roles

  abbrev cs : ExpressionSource
  cs = source_with registers c s

  abbrev wrapping : WrapperSource
  wrapping = wrappers_of cs

  abbrev clone : Placed → List Draft
  clone x = entry_made cs s c.big_endian x

  abbrev p : Placed
  p = placed_entry c e

  abbrev Ready : GivenUnit → List OpenWrapper → Type 0
  Ready u wrappers = IsReady registers c number s source roles all begun e others texts parents u wrappers

  abbrev Built : List (List ℕ) → GivenUnit → List UnitEntryId → List OpenWrapper → Type 0
  Built new v path wrappers = AreBuilt registers c number s roles all others new begun v path wrappers

  abbrev Takes : GivenUnit → GivenUnit → Type 0
  Takes u v = numbers_in v ≡ numbers_in u + numbers_taken registers c s p

  -- The entry can be added itself, and what it is given then makes the unit as it is to be behind it.
  pub record CanBeItself (u : GivenUnit) (id : UnitEntryId) (wrappers : List OpenWrapper) : Type 0 where
    pub bare_unit : GivenUnit
    pub placed : PlacedEntry
    pub base : GivenUnit
    pub added : Addition
    pub adds : AddsBelow (last_parent e.depth parents) id e.tag u bare_unit placed
    pub last : IsLast texts placed.id base added bare_unit
    pub none : added.attributes ≡ []
    pub makes : (new : List (List ℕ)) (path : List UnitEntryId) (v : GivenUnit) → IsItself at registers c number s p texts new parents path placed base added v → Built new v path wrappers × Takes u v

  -- ---- numbers

  -- what is not wrapped takes those of the variable
  variable-taken : (plain : is_wrapped c.module.output_for p ≡ false) (parent : ℕ) (new : List (List ℕ)) (u v : GivenUnit) → HasVariable (context_over cs p) parent c.vmctx_ptr new u v → Takes u v
  variable-taken plain parent new u v has = go (context_over cs p) has ∙ ap (λ b. numbers_in u + (if b then 11 else length (context_entries cs p))) (sym plain)
    where
      go : (o : Option (Result (List Location) BuildRefusal)) → HasVariable o parent c.vmctx_ptr new u v → numbers_in v ≡ numbers_in u + length (option_to_list (option_map (λ located. context_variable (suc e.depth) (context_pointer cs) (locations_or_none located)) o))
      go None same = ap numbers_in same ∙ omega arith
      go (Some expected) one = variable-count expected parent c.vmctx_ptr new u v one

  known-count : (id : ℕ) (u : GivenUnit) → numbers_in (with_known id u) ≡ numbers_in u
  known-count id u = length-set u.places id (Some (length u.additions))

  -- ---- itself

  module _ (plain : is_wrapped c.module.output_for p ≡ false) where
    plain-made : made_itself wrapping clone p ≡ clone p
    plain-made = ap (λ b. if b then wrapper wrapping p else clone p) plain

    plain-open : (stack : List Placed) → open_behind c.module.output_for p stack ≡ stack
    plain-open stack = ap (λ b. if b then p ∷ stack else stack) plain

    itself-built : (u v : GivenUnit) (id parent : UnitEntryId) (wrappers : List OpenWrapper) (r : Ready u wrappers) (above : ℕ) → e.depth ≡ suc above → e.depth ≤ length parents → (last : IsLastAt (draft_depths r.ds) above u parent) → IsReserved id.index u → output.place_of c.places.now e.offset ≡ Some (number, id.index)
        → (new : List (List ℕ)) (path : List UnitEntryId) → IsItself at registers c number s p texts new parents path (record { id = id; parent = parent }) (with_known id.index u) (bare last.place e.tag) v → Built new v path wrappers × Takes u v
    itself-built u v id parent wrappers r above depth fits last reserved placed_at new path itself =
        let own = told registers c number s source roles p in
        let middle = itself.middle in
        let variable = context_entries cs p in
        let first = given-adds registers c number s source roles p texts itself.texts r.ds u middle above parent id r.drafted depth last reserved placed_at itself.given in
        let one : Adds at number new e.depth r.ds (own ∷ []) u middle = record { drafted = drafted-texts at number itself.texts new itself.grows (r.ds ++ own ∷ []) middle (first.0).drafted; extends = (first.0).extends } in
        let second : Adds at number new (suc e.depth) (r.ds ++ own ∷ []) variable middle v = variable-adds registers c number s source roles p new (r.ds ++ own ∷ []) middle v id one.drafted first.1 itself.variable in
        let both : Adds at number new e.depth r.ds (clone p) u v = adds-on at number new e.depth (suc e.depth) r.ds (own ∷ []) variable u middle v (omega arith) one second in
        let still : IsLastAt (draft_depths (r.ds ++ clone p)) e.depth v id =
        subst (λ xs. IsLastAt (draft_depths xs) e.depth v id) (append_assoc r.ds (own ∷ []) variable)
        (last-extended (suc e.depth) (draft_depths (r.ds ++ own ∷ [])) (draft_depths ((r.ds ++ own ∷ []) ++ variable)) middle v second.extends e.depth id (omega arith) first.1) in
        let opens : AreOpen c number roles (r.ds ++ clone p) v (suc e.depth) r.stack wrappers =
        open-less registers c number s source roles (r.ds ++ clone p) v e.depth (suc e.depth) r.stack wrappers (omega arith) (open-on registers c number s source roles r.ds (r.ds ++ clone p) u v e.depth e.depth r.stack wrappers (omega arith) both.extends r.opens) in
        let adds = subst (λ xs. Adds at number new e.depth r.ds xs u v) (sym plain-made) both in
        let last_then = subst (λ xs. IsLastAt (draft_depths (r.ds ++ xs)) e.depth v id) (sym plain-made) still in
        let opens_then = ap₂ (λ xs stack. AreOpen c number roles (r.ds ++ xs) v (suc e.depth) stack wrappers) (sym plain-made) (sym (plain-open r.stack)) in (
          subst (λ q. Built new v q wrappers) (sym itself.path_is)
              (next-built registers c number s source roles all begun e others texts parents u v wrappers wrappers new id r fits adds last_then (subst (λ T. T) opens_then opens)),
          variable-taken plain id.index new middle v itself.variable ∙ ap (λ n. n + numbers_taken registers c s p) (ap numbers_in (itself.given).is ∙ known-count id.index u),
        )

    pub itself-behind : (u : GivenUnit) (id : UnitEntryId) (wrappers : List OpenWrapper) → Ready u wrappers → 0 < e.depth → e.depth ≤ length parents → IsReserved id.index u → output.place_of c.places.now e.offset ≡ Some (number, id.index) → CanBeItself u id wrappers
    itself-behind u id wrappers r below fits reserved placed_at =
        let hp = parent-of (draft_depths r.ds) e.depth u parents r.path below fits in
        let above = e.depth - 1 in
        let depth : e.depth ≡ suc above = omega (arith, below) in
        let bare_unit = with_child (hp.parent).index e.tag (with_known id.index u) in
        record {
          bare_unit = bare_unit;
          placed = record { id = id; parent = hp.parent };
          base = with_known id.index u;
          added = bare (hp.last).place e.tag;
          adds = subst (λ o. AddsBelow o id e.tag u bare_unit (record { id = id; parent = hp.parent })) (sym hp.is) (refl, refl);
          last = own-last registers c number s source roles p texts r.ds u bare_unit above hp.parent id hp.last reserved refl;
          none = refl;
          makes = λ new path v itself. itself-built u v id hp.parent wrappers r above depth fits hp.last reserved placed_at new path itself;
        }

  -- ---- the root

  no-context : e.tag ≡ DW_TAG_compile_unit → context_over cs p ≡ None
  unfolding context_over
  no-context tag = ap (λ t. elim (t == DW_TAG_subprogram) [ true ↦ context_in (in_force_at cs p) | false ↦ None ]) tag

  pub root-plain : e.tag ≡ DW_TAG_compile_unit → is_wrapped c.module.output_for p ≡ false
  root-plain tag = ap (λ t. (t == DW_TAG_pointer_type) || (t == DW_TAG_reference_type) || is_wrapped_too c.module.output_for t) tag ∙ none c.module.output_for
    where
      none : (o : OutputFor) → is_wrapped_too o DW_TAG_compile_unit ≡ false
      none Default = refl
      none Debugger = refl

  root-built : (u v : GivenUnit) (new : List (List ℕ)) (path : List UnitEntryId) → all ≡ e ∷ others → e.depth ≡ 0 → e.tag ≡ DW_TAG_compile_unit → place_of 0 u.places ≡ Some 0 → All (IsPlaceBelow 1) u.places → output.place_of c.places.now e.offset ≡ Some (number, 0) → parents ≡ []
      → IsItself at registers c number s p texts new parents path (record { id = record { index = 0 }; parent = record { index = 0 } }) (rootless begun.version begun.address_size begun.lines u.places) (bare 0 e.tag) v → Built new v path [] × Takes u v
  root-built u v new path are depth tag first below placed_at no_parents itself =
      let own = told registers c number s source roles p in
      let middle = itself.middle in
      let none = no-context tag in
      let plain = root-plain tag in
      let same : v ≡ middle = subst (λ o. HasVariable o 0 c.vmctx_ptr new middle v) none itself.variable in
      let empty : context_entries cs p ≡ [] = ap (λ o. option_to_list (option_map (λ located. context_variable (suc e.depth) (context_pointer cs) (locations_or_none located)) o)) none in
      let whole : made_itself wrapping clone p ≡ own ∷ [] = plain-made plain ∙ ap (λ xs. own ∷ xs) empty in
      let r = root-drafted registers c number s source roles p texts itself.texts begun.version begun.address_size begun.lines u.places middle depth first below placed_at itself.given in
      let drafted = drafted-texts at number itself.texts new itself.grows (own ∷ []) middle r.0 in
      let path_is : path ≡ record { index = 0 } ∷ [] = itself.path_is ∙ ap₂ (λ n (ps : List UnitEntryId). take n ps ++ record { index = 0 } ∷ []) depth no_parents in (
        subst (λ w. Built new w path []) (sym same) (subst (λ q. Built new middle q []) (sym path_is) record {
          ds = own ∷ [];
          drafted = drafted;
          stack = [];
          opens = tt;
          path = (subst (λ n. IsLastAt (draft_depths (own ∷ [])) n middle (record { index = 0 })) depth r.1, tt);
          some = omega arith;
          whole = ap₂ (λ xs stack. xs ++ closing wrapping stack (entries_made wrapping clone (placed_in c.unit.now.header.offset others))) (sym whole) (sym (plain-open plain []))
              ∙ sym (made-next wrapping clone (entries-in_place cs s c.big_endian) [] p (placed_in c.unit.now.header.offset others))
              ∙ ap (clone_drafts registers c s) (sym are);
          version = ap (λ (w : GivenUnit). w.version) (itself.given).is;
          size = ap (λ (w : GivenUnit). w.address_size) (itself.given).is;
          lines = ap (λ (w : GivenUnit). w.lines) (itself.given).is;
        }),
        variable-taken plain 0 new middle v itself.variable ∙ ap (λ n. n + numbers_taken registers c s p) (ap numbers_in (itself.given).is),
      )

  pub itself-first : (u : GivenUnit) (old : List (List ℕ)) (id : UnitEntryId) (wrappers : List OpenWrapper) → all ≡ e ∷ others → e.depth ≡ 0 → e.tag ≡ DW_TAG_compile_unit → IsBegun begun u old texts parents wrappers → output.place_of c.places.now e.offset ≡ Some (number, 0) → CanBeItself u id wrappers
  itself-first u old id wrappers are depth tag is placed_at =
      let zero_id : UnitEntryId = record { index = 0 } in
      record {
        bare_unit = u;
        placed = record { id = zero_id; parent = zero_id };
        base = rootless begun.version begun.address_size begun.lines u.places;
        added = bare 0 e.tag;
        adds = subst (λ o. AddsBelow o id e.tag u u (record { id = zero_id; parent = zero_id })) (sym (ap₂ last_parent depth is.parents_are)) (refl, refl);
        last = record { number = is.first; is = is.root ∙ ap (λ t. with_last (bare 0 t) (rootless begun.version begun.address_size begun.lines u.places)) (sym tag); names = All-nil (λ n. n < length texts) };
        none = refl;
        makes = λ new path v itself.
            let both = root-built u v new path are depth tag is.first (subst (λ (w : GivenUnit). All (IsPlaceBelow (length w.additions)) u.places) is.root is.leads) placed_at is.parents_are itself in
            (subst (Built new v path) (sym is.wrappers_are) both.0, both.1);
      }

  -- ---- wrapped

  module _ (wrapped : is_wrapped c.module.output_for p ≡ true) where
    wrapped-made : made_itself wrapping clone p ≡ wrapper wrapping p
    wrapped-made = ap (λ b. if b then wrapper wrapping p else clone p) wrapped

    wrapped-open : (stack : List Placed) → open_behind c.module.output_for p stack ≡ p ∷ stack
    wrapped-open stack = ap (λ b. if b then p ∷ stack else stack) wrapped

    bare-count : (parent tag id : ℕ) (u v : GivenUnit) → v ≡ with_child parent tag (with_known id u) → numbers_in v ≡ numbers_in u
    bare-count parent tag id u v is = ap numbers_in is ∙ ap length (child-places (with_known id u) parent tag) ∙ known-count id u

    pub wrapped-built : (u v : GivenUnit) (id : UnitEntryId) (wrappers before behind : List OpenWrapper) → Ready u wrappers → wrappers ≡ reverse before → 0 < e.depth → e.depth ≤ length parents → IsReserved id.index u → output.place_of c.places.now e.offset ≡ Some (number, id.index) → TakesRoles c.module.output_for roles (numbers_in u) p
        → (new : List (List ℕ)) (path : List UnitEntryId) → IsWrapped registers c s p texts new parents path id before behind u v → Built new v path (reverse behind) × Takes u v
    wrapped-built u v id wrappers before behind r wrappers_are below fits reserved placed_at takes new path iw =
        let hp = parent-of (draft_depths r.ds) e.depth u parents r.path below fits in
        let above = e.depth - 1 in
        let depth : e.depth ≡ suc above = omega (arith, below) in
        let adds = subst (λ o. AddsBelow o id DW_TAG_structure_type u iw.bare iw.placed) hp.is iw.added in
        let w = iw.wrapper in
        let own : w.wrapper ≡ id = (iw.opened).wrapper_is ∙ ap (λ (x : PlacedEntry). x.id) adds.1 in
        let parent_is : w.parent ≡ hp.parent = (iw.opened).parent_is ∙ ap (λ (x : PlacedEntry). x.parent) adds.1 in
        let count = bare-count (hp.parent).index DW_TAG_structure_type id.index u iw.bare adds.0 in
        let roles_are = takes wrapped in
        let next = (iw.opened).types in
        let has : HasRoles roles e.offset w.types = record {
          to_wrapper = roles_are.0 ∙ ap Some (sym (next.to_wrapper ∙ count));
          reference = roles_are.1 ∙ ap Some (sym (next.reference ∙ ap suc count));
          pointer = roles_are.2 ∙ ap Some (sym (next.pointer ∙ ap (λ n. suc (suc n)) count));
        } in
        let itself_at : output.place_of c.places.now e.offset ≡ Some (number, w.wrapper.index) = placed_at ∙ ap (λ (i : UnitEntryId). Some (number, i.index)) (sym own) in
        let name = wrapper_name e.tag (name_or_unknown (type_name s.texts s.entries p)) in
        let whole = wrapper-adds registers c number s source roles p refl new w (iw.opened).target_is itself_at has c.module.names.resolve_memory.now name iw.texts iw.named r.ds u iw.bare above hp.parent
        (ap (λ texts_read. wrapper_name e.tag (name_or_unknown (type_name texts_read s.entries p))) source.texts)
        (drafted-texts at number texts new iw.grows r.ds u r.drafted) depth hp.last (subst (λ (i : UnitEntryId). IsReserved i.index u) (sym own) reserved)
        (adds.0 ∙ ap (λ (i : UnitEntryId). with_child (hp.parent).index DW_TAG_structure_type (with_known i.index u)) (sym own)) in
        let made = r.ds ++ wrapper wrapping p in
        let one : Adds at number new e.depth r.ds (wrapper wrapping p) u v = subst (Adds at number new e.depth r.ds (wrapper wrapping p) u) (sym iw.is) whole.0 in
        let last : IsLastAt (draft_depths made) e.depth v id = subst (IsLastAt (draft_depths made) e.depth v) own (subst (λ x. IsLastAt (draft_depths made) e.depth x w.wrapper) (sym iw.is) whole.1) in
        let opened : IsOpen c number roles made v p w = record {
          own = refl;
          depth = (iw.opened).depth_is;
          above = above;
          deep = depth;
          parent = subst (IsLastAt (draft_depths made) above v) (sym parent_is) (last-extended e.depth (draft_depths r.ds) (draft_depths made) u v one.extends above hp.parent (omega (arith, depth)) hp.last);
          target = (iw.opened).target_is;
          itself_at = itself_at;
          has = has;
        } in
        let opens : AreOpen c number roles made v (suc e.depth) (p ∷ r.stack) (w ∷ wrappers) = (omega arith, opened, open-on registers c number s source roles r.ds made u v e.depth e.depth r.stack wrappers (omega arith) one.extends r.opens) in
        let behind_is : w ∷ wrappers ≡ reverse behind = ap (λ ws. w ∷ ws) wrappers_are ∙ sym (ap reverse iw.opens ∙ reverse-push before w) in
        let opens_then = ap₂ (λ xs stack. AreOpen c number roles (r.ds ++ xs) v (suc e.depth) stack (w ∷ wrappers)) (sym wrapped-made) (sym (wrapped-open r.stack)) in (
          subst (λ q. Built new v q (reverse behind)) (sym (iw.path_is ∙ ap (λ (x : PlacedEntry). take e.depth parents ++ x.id ∷ []) adds.1))
              (subst (Built new v (take e.depth parents ++ id ∷ [])) behind_is
              (next-built registers c number s source roles all begun e others texts parents u v wrappers (w ∷ wrappers) new id r fits (subst (λ xs. Adds at number new e.depth r.ds xs u v) (sym wrapped-made) one) (subst (λ xs. IsLastAt (draft_depths (r.ds ++ xs)) e.depth v id) (sym wrapped-made) last) (subst (λ T. T) opens_then opens))),
          ap numbers_in iw.is ∙ wrapper-count w iw.texts c.wasm_ptr iw.bare ∙ ap (λ n. n + 11) count ∙ ap (λ b. numbers_in u + (if b then 11 else length (context_entries cs p))) (sym wrapped),
        )
      where
        reverse-push : (xs : List OpenWrapper) (x : OpenWrapper) → reverse (xs ++ x ∷ []) ≡ x ∷ reverse xs
        reverse-push xs x = reverse-append xs (x ∷ [])
