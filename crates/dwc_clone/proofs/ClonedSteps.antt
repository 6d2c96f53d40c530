-- Some kept entries of a unit are cloned: what is known then of the next one, and what is cloned behind it.
use Rattle.std.proofs.Common.{◌≡◌, ℕ, suc, ◌+◌, ◌<◌, ◌≤◌, refl, sym, ap, subst, ◌∙◌, arith, append_assoc, inl, inr, List, [], ◌∷◌, ◌++◌, length, length-append, take, map, Bool, true, false, Option, Some, None, Result, Ok, Err}
use Rattle.std.specs.Prelude.{◌⊎◌, OnOk, if◌then◌else◌, nat_lt, reverse, slice_get}
use Rattle.dwc_base.specs.declared.constants.TheConstants.{DW_TAG_compile_unit}
use Rattle.std.specs.List.{flat_map}
use Rattle.std.proofs.lemmas.List.{append-nil, map-append}
use Rattle.std.proofs.lemmas.List.Concat.{flat_map-append}
use Rattle.dwc_dwarf.specs.Entries.{Entry}
use Rattle.dwc_rules.specs.Kept.{Placed}
use Rattle.dwc_dwarf.specs.Lists.{list_source}
use Rattle.dwc_rules.specs.Clones.{UnitSource, entry_refusals}
use Rattle.dwc_rules.specs.Drafts.{Role}
use Rattle.dwc_rules.specs.Refusals.{Refusal}
use Rattle.dwc_base.specs.Listing.{first_of}
use Rattle.dwc_rules.specs.Wrappers.{is_wrapped}
use Rattle.dwc_isa.specs.Registers.{Registers}
use Rattle.dwc_kept.specs.KeptUnits.{AreBelow}
use Rattle.dwc_unit.specs.declared.units.UnitEntryId.{UnitEntryId}
use Rattle.dwc_unit.specs.GivenUnits.{GivenUnit, IsReserved}
use Rattle.dwc_source.specs.declared.error.CloneError.{CloneError}
use Rattle.dwc_source.specs.declared.source.CloneSource.{CloneSource}
use Rattle.dwc_types.specs.declared.type_name.TypeNames.{TypeNames}
use Rattle.dwc_clone.specs.declared.wrapper.OpenWrapper.{OpenWrapper}
use Rattle.dwc_clone.specs.BuiltUnits.{AreBuilt, AreClonedSoFar, AreRoles, BuiltSoFar, IsBegun, GivesEntry, TakesRoles, numbers_taken}
use Rattle.dwc_clone.specs.ClonedUnits.{TellsFirst, clone_refusals, depths_of, goal_number, placed_in}
use Rattle.dwc_extents.specs.CodeSources.{clone_rules}
use Rattle.dwc_clone.specs.ClonedEntries.{CanAdd, CanFollow}
use Rattle.dwc_source.specs.Sources.{placed_entry, IsSource}
use Rattle.dwc_types.specs.KnownNames.{KnowsNames}
use Rattle.dwc_extents.specs.Lineages.{AreInForce, AreWalked, Stacks, no_stacks, with_entries, with_entry}
use Rattle.dwc_source.specs.MadeValues.{Grows}
use Rattle.dwc_clone.specs.OpenWrappers.{CanCloseAll, IsOther, closed_from, still_open}
use Rattle.dwc_source.specs.OutputPlaces as output
use Rattle.dwc_clone.specs.ParameterContexts.{Contexts, with_context}
use Rattle.dwc_clone.specs.WrappedEntries.{GivesWrapped, IsWrapped}
use Rattle.dwc_clone.specs.PlainEntries.{GivesItself, IsItself}
use Rattle.dwc_types.proofs.NotedNameLaws.{names-grown}
use Rattle.dwc_clone.proofs.DraftPaths.{follow-from, path-long}
use Rattle.dwc_clone.proofs.EntryMade.{CanBeItself, itself-behind, itself-first, root-plain, wrapped-built}
use Rattle.dwc_clone.proofs.EntrySteps.{closed-length, ready}
use Rattle.dwc_clone.proofs.EntryValues.{grows-on}
use Rattle.dwc_clone.proofs.LineageLaws.{walk-in-force, with_entries-behind}
use Rattle.dwc_clone.proofs.ParameterLaws.{with-contexts-more}
use Rattle.dwc_clone.proofs.TakenNumbers.{numbers_in}

-- What can be added can be added where the number is still reserved.
pub can-add-kept : (id : UnitEntryId) (ps : List UnitEntryId) (u v : GivenUnit) → (IsReserved id.index u → IsReserved id.index v) → CanAdd id ps u → CanAdd id ps v
can-add-kept id [] u v keeps can = tt
can-add-kept id (p ∷ ps) u v keeps can = keeps can

-- A number that is none of those of wrappers is none of those that stay open.
pub other-still : (depth k : ℕ) (ws : List OpenWrapper) → IsOther k ws → IsOther k (still_open depth ws)
other-still depth k [] other = tt
other-still depth k (w ∷ ws) other = go (nat_lt w.depth depth) (other-still depth k ws other.1)
  where
    go : (b : Bool) → IsOther k (still_open depth ws) → IsOther k (if b then w ∷ ws else still_open depth ws)
    go true rest = other
    go false rest = rest

-- ---- what is in force

module _ (c : CloneSource) (s : UnitSource) where
  pub at-place : (es left : List Entry) (e : Entry) → slice_get (es ++ e ∷ left) (length es) ≡ Some e
  at-place [] left e = refl
  at-place (x ∷ es) left e = at-place es left e

  at-behind : (es left : List Entry) (e : Entry) → slice_get (map (placed_entry c) (es ++ e ∷ left)) (length es) ≡ Some (placed_entry c e)
  at-behind [] left e = refl
  at-behind (x ∷ es) left e = at-behind es left e

  front-behind : (es left : List Entry) (e : Entry) → map (λ (p : Placed). p.entry) (take (suc (length es)) (map (placed_entry c) (es ++ e ∷ left))) ≡ es ++ e ∷ []
  front-behind [] left e = refl
  front-behind (x ∷ es) left e = ap (λ xs. x ∷ xs) (front-behind es left e)

  -- Behind the next of the entries, what is on top of the stacks is in force at it.
  pub next-in-force : (es left : List Entry) (e : Entry) (stacks : Stacks) → AreWalked s.entries (placed_in c.unit.now.header.offset (es ++ e ∷ left)) → stacks ≡ with_entries (list_source c.unit.now.sections c.unit.now.header) c.transform.now es no_stacks
      → AreInForce (list_source c.unit.now.sections c.unit.now.header) c.transform.now s.entries (placed_entry c e) (with_entry (list_source c.unit.now.sections c.unit.now.header) c.transform.now e stacks)
  next-in-force es left e stacks walked entered =
      let sources = list_source c.unit.now.sections c.unit.now.header in
      let kept = map (placed_entry c) (es ++ e ∷ left) in
      let tops = walk-in-force sources c.transform.now s.entries kept walked.rises walked.steps walked.walk (length es) (placed_entry c e) (at-behind es left e) in
      subst (AreInForce sources c.transform.now s.entries (placed_entry c e))
      (ap (λ xs. with_entries sources c.transform.now xs no_stacks) (front-behind es left e) ∙ with_entries-behind sources c.transform.now no_stacks es e ∙ ap (with_entry sources c.transform.now e) (sym entered))
      tops

-- ---- how an entry can be added

module _ (registers : Registers) (c : CloneSource) (number : ℕ) (s : UnitSource) (roles : ℕ → Role → Option ℕ) (e : Entry) (others : List Entry) (old t0 : List (List ℕ)) (begun u0 : GivenUnit) (wrappers : List OpenWrapper) where
  abbrev pub p : Placed
  p = placed_entry c e

  -- It is the root, in front of all others; or it stands below one before it.
  pub record IsFirst (es : List Entry) (parents : List UnitEntryId) : Type 0 where
    pub begins : IsBegun begun u0 old t0 parents wrappers
    pub whole : es ++ e ∷ others ≡ e ∷ others
    pub depth : e.depth ≡ 0
    pub tag : e.tag ≡ DW_TAG_compile_unit
    pub follow : AreBelow 0 (depths_of others)

  pub record IsBehind (es : List Entry) (parents : List UnitEntryId) : Type 0 where
    pub built : AreBuilt registers c number s roles (es ++ e ∷ others) (e ∷ others) t0 begun u0 parents wrappers
    pub below : 0 < e.depth
    pub fits : e.depth ≤ length parents
    pub some : 0 < length parents
    pub follow : AreBelow e.depth (depths_of others)

  pub stands : (es : List Entry) (parents : List UnitEntryId) → BuiltSoFar registers c number s roles es (e ∷ others) old t0 begun u0 parents wrappers → CanFollow parents (e ∷ others) → IsFirst es parents ⊎ IsBehind es parents
  stands [] [] built follow = inl (record { begins = built; whole = refl; depth = follow.0; tag = follow.1; follow = follow.2 })
  stands [] (q ∷ ps) built follow = absurd (omega (arith, ap length built.parents_are))
  stands (x ∷ es) [] built follow = let some = built.some in absurd (omega (arith, some))
  stands (x ∷ es) (q ∷ ps) built follow = inr (record { built = built; below = follow.0; fits = follow.1; some = omega arith; follow = follow.2 })

  reserved-there : (id : UnitEntryId) (ps : List UnitEntryId) (u : GivenUnit) → 0 < length ps → CanAdd id ps u → IsReserved id.index u
  reserved-there id [] u some can = absurd (omega (arith, some))
  reserved-there id (q ∷ ps) u some can = can

  module _ (es : List Entry) (parents : List UnitEntryId) (source : IsSource c number s) where
    abbrev pub now : GivenUnit
    now = closed_from e.depth wrappers u0

    abbrev pub left : List OpenWrapper
    left = still_open e.depth wrappers

    -- Where it is not wrapped, it can be added itself.
    pub can-itself : (most : ℕ) (id : UnitEntryId) → IsFirst es parents ⊎ IsBehind es parents → CanCloseAll most u0 wrappers → is_wrapped c.module.output_for p ≡ false → CanAdd id parents now → output.place_of c.places.now e.offset ≡ Some (number, id.index)
        → (id.index ≡ length es) → CanBeItself registers c number s source roles (es ++ e ∷ others) begun e others t0 parents now id left
    can-itself most id (inl first) can plain add placed_at place =
        let same : now ≡ u0 = ap (λ ws. closed_from e.depth ws u0) (first.begins).wrappers_are in
        let none : left ≡ wrappers = ap (still_open e.depth) (first.begins).wrappers_are ∙ sym (first.begins).wrappers_are in
        let empty : length es ≡ 0 = omega (arith, ap length first.whole, length-append es (e ∷ others)) in
        subst (λ v. CanBeItself registers c number s source roles (es ++ e ∷ others) begun e others t0 parents v id left) (sym same)
        (subst (λ ws. CanBeItself registers c number s source roles (es ++ e ∷ others) begun e others t0 parents u0 id ws) (sym none)
        (itself-first registers c number s source roles (es ++ e ∷ others) begun e others t0 parents u0 old id wrappers first.whole first.depth first.tag first.begins (placed_at ∙ ap (λ n. Some (number, n)) (place ∙ empty))))
    can-itself most id (inr behind) can plain add placed_at place =
        itself-behind registers c number s source roles (es ++ e ∷ others) begun e others t0 parents plain now id left (ready registers c number s source roles (es ++ e ∷ others) begun e others t0 parents u0 wrappers most behind.built can)
        behind.below behind.fits (reserved-there id parents now behind.some add) placed_at

    -- Where it is wrapped, it is not the root.
    wrapped-behind : is_wrapped c.module.output_for p ≡ true → IsFirst es parents ⊎ IsBehind es parents → IsBehind es parents
    wrapped-behind wrapped (inl first) = absurd (clash (sym (root-plain registers c number s source roles (es ++ e ∷ others) begun e others t0 parents first.tag) ∙ wrapped))
      where
        clash : false ≡ true → ⊥
        clash x = cc
    wrapped-behind wrapped (inr behind) = behind

    pub can-wrapped : (most : ℕ) (id : UnitEntryId) → IsFirst es parents ⊎ IsBehind es parents → CanCloseAll most u0 wrappers → is_wrapped c.module.output_for p ≡ true → CanAdd id parents now → output.place_of c.places.now e.offset ≡ Some (number, id.index) → TakesRoles c.module.output_for roles (numbers_in u0) p
        → (before behind : List OpenWrapper) (new : List (List ℕ)) (path : List UnitEntryId) (v : GivenUnit) → left ≡ reverse before → IsWrapped registers c s p t0 new parents path id before behind now v
        → AreBuilt registers c number s roles (es ++ e ∷ others) others new begun v path (reverse behind) × (numbers_in v ≡ numbers_in now + numbers_taken registers c s p)
    can-wrapped most id standing can wrapped add placed_at takes before behind new path v left_are made =
        let b = wrapped-behind wrapped standing in
        wrapped-built registers c number s source roles (es ++ e ∷ others) begun e others t0 parents wrapped now v id left before behind (ready registers c number s source roles (es ++ e ∷ others) begun e others t0 parents u0 wrappers most b.built can) left_are
        b.below b.fits (reserved-there id parents now b.some add) placed_at (subst (λ n. TakesRoles c.module.output_for roles n p) (sym (closed-length e.depth wrappers u0)) takes) new path made

    -- What follows it.
    pub follows-next : (id : UnitEntryId) (path : List UnitEntryId) → IsFirst es parents ⊎ IsBehind es parents → path ≡ take e.depth parents ++ id ∷ [] → CanFollow path others
    follows-next id path (inl first) is =
        let long : length path ≡ 1 = ap length (is ∙ ap (λ n. take n parents ++ id ∷ []) first.depth) in
        follow-from path 0 others long first.follow
    follows-next id path (inr behind) is = follow-from path e.depth others (ap length is ∙ path-long e.depth parents id behind.fits) behind.follow

-- ---- what is cloned behind it

built-next : (registers : Registers) (c : CloneSource) (number : ℕ) (s : UnitSource) (roles : ℕ → Role → Option ℕ) (es : List Entry) (e : Entry) (others : List Entry) (old new : List (List ℕ)) (begun v : GivenUnit) (path : List UnitEntryId) (opened : List OpenWrapper)
    → AreBuilt registers c number s roles (es ++ e ∷ others) others new begun v path opened → BuiltSoFar registers c number s roles (es ++ e ∷ []) others old new begun v path opened
built-next registers c number s roles [] e others old new begun v path opened built = built
built-next registers c number s roles (x ∷ es) e others old new begun v path opened built = subst (λ all. AreBuilt registers c number s roles all others new begun v path opened) (sym (append_assoc (x ∷ es) (e ∷ []) others)) built

refusals-next : (registers : Registers) (c : CloneSource) (s : UnitSource) (es : List Entry) (e : Entry) → clone_refusals registers c s es ≡ [] → entry_refusals (clone_rules registers c s) s (placed_entry c e) ≡ [] → clone_refusals registers c s (es ++ e ∷ []) ≡ []
refusals-next registers c s es e none free =
    let f = entry_refusals (clone_rules registers c s) s in
    ap (flat_map f) (map-append (placed_entry c) es (e ∷ []))
    ∙ flat_map-append f (map (placed_entry c) es) (placed_entry c e ∷ [])
    ∙ ap (λ xs. xs ++ flat_map f (placed_entry c e ∷ [])) none
    ∙ append-nil (f (placed_entry c e)) ∙ free

module _ (registers : Registers) (c : CloneSource) (number : ℕ) (s : UnitSource) (roles : ℕ → Role → Option ℕ) (es : List Entry) (e : Entry) (others : List Entry) (old t0 : List (List ℕ)) (begun u0 : GivenUnit) (parents : List UnitEntryId) (wrappers : List OpenWrapper) (lineage : Stacks) (contexts : Contexts) (names : TypeNames)
    (so : AreClonedSoFar registers c number s roles es (e ∷ others) old t0 begun u0 parents wrappers lineage contexts names) where
  pub cloned-next : (new : List (List ℕ)) (v : GivenUnit) (path : List UnitEntryId) (opened : List OpenWrapper) (next_lineage : Stacks) (next_contexts : Contexts) (next_names : TypeNames)
      → AreBuilt registers c number s roles (es ++ e ∷ others) others new begun v path opened → numbers_in v ≡ numbers_in u0 + numbers_taken registers c s (placed_entry c e) → CanFollow path others → Grows t0 new → entry_refusals (clone_rules registers c s) s (placed_entry c e) ≡ []
      → next_lineage ≡ with_entry (list_source c.unit.now.sections c.unit.now.header) c.transform.now e lineage → next_contexts ≡ with_context c e contexts → KnowsNames c s new next_names
      → AreClonedSoFar registers c number s roles (es ++ e ∷ []) others old new begun v path opened next_lineage next_contexts next_names
  cloned-next new v path opened next_lineage next_contexts next_names built taken follow grows free entered told known =
      let sources = list_source c.unit.now.sections c.unit.now.header in
      record {
        built = built-next registers c number s roles es e others old new begun v path opened built;
        follow = follow;
        grows = grows-on old t0 new so.grows grows;
        accepted = refusals-next registers c s es e so.accepted free;
        numbers = subst (λ n. AreRoles registers c s roles n (placed_in c.unit.now.header.offset others)) (sym taken) (so.numbers).1;
        entered = entered ∙ ap (with_entry sources c.transform.now e) so.entered ∙ sym (with_entries-behind sources c.transform.now no_stacks es e);
        told = told ∙ ap (with_context c e) so.told ∙ sym (with-contexts-more c es e []);
        known = known;
      }

  -- The first refusal of the next entry is the first of all.
  pub cloned-refused : (told : Option Refusal) → TellsFirst (entry_refusals (clone_rules registers c s) s (placed_entry c e)) told → TellsFirst (clone_refusals registers c s (es ++ e ∷ others)) told
  cloned-refused None first = tt
  cloned-refused (Some refusal) first =
      let f = entry_refusals (clone_rules registers c s) s in
      ap (λ xs. first_of (flat_map f xs)) (map-append (placed_entry c) es (e ∷ others))
      ∙ ap first_of (flat_map-append f (map (placed_entry c) es) (map (placed_entry c) (e ∷ others)))
      ∙ ap (λ xs. first_of (xs ++ (f (placed_entry c e) ++ flat_map f (map (placed_entry c) others)))) so.accepted
      ∙ front (f (placed_entry c e)) (flat_map f (map (placed_entry c) others)) first
    where
      front : (xs ys : List Refusal) → first_of xs ≡ Some refusal → first_of (xs ++ ys) ≡ Some refusal
      front [] ys is = absurd (cc)
      front (x ∷ xs) ys is = is

  -- The entry itself is cloned, or its first refusal is told.
  pub gives-itself_cloned : (source : IsSource c number s) (id : UnitEntryId) (u1 v : GivenUnit) (left after : List OpenWrapper) (new : List (List ℕ)) (path : List UnitEntryId) (next_lineage : Stacks) (next_contexts : Contexts) (next_names : TypeNames)
      → (can : CanBeItself registers c number s source roles (es ++ e ∷ others) begun e others t0 parents u1 id left) → numbers_in u1 ≡ numbers_in u0 → after ≡ left
      → ((it : IsItself (goal_number c number roles) registers c number s (placed_entry c e) t0 new parents path can.placed can.base can.added v) → CanFollow path others)
      → next_lineage ≡ with_entry (list_source c.unit.now.sections c.unit.now.header) c.transform.now e lineage → next_contexts ≡ with_context c e contexts → next_names ≡ names
      → (r : Result (Unit {0}) CloneError) → GivesItself (goal_number c number roles) registers c number s (placed_entry c e) t0 new parents path can.placed can.base can.added v r
      → GivesEntry registers c number s roles es e others old new begun v path after next_lineage next_contexts next_names r
  gives-itself_cloned source id u1 v still after new path next_lineage next_contexts next_names can count same follow entered told known (Ok done) it =
      let both = can.makes new path v it in
      let grows = grows-on t0 it.texts new (it.given).grows it.grows in
      cloned-next new v path after next_lineage next_contexts next_names (subst (AreBuilt registers c number s roles (es ++ e ∷ others) others new begun v path) (sym same) both.0)
      (both.1 ∙ ap (λ n. n + numbers_taken registers c s (placed_entry c e)) count) (follow it) grows it.accepted entered told (subst (KnowsNames c s new) (sym known) (names-grown c s t0 new names grows so.known))
  gives-itself_cloned source id u1 v still after new path next_lineage next_contexts next_names can count same follow entered told known (Err error) refused = refused

  -- The same of one that is wrapped.
  pub gives-wrapped_cloned : (id : UnitEntryId) (u1 v : GivenUnit) (before behind : List OpenWrapper) (new : List (List ℕ)) (path : List UnitEntryId) (next_lineage : Stacks) (next_contexts : Contexts) (next_names : TypeNames) → numbers_in u1 ≡ numbers_in u0
      → (IsWrapped registers c s (placed_entry c e) t0 new parents path id before behind u1 v → AreBuilt registers c number s roles (es ++ e ∷ others) others new begun v path (reverse behind) × (numbers_in v ≡ numbers_in u1 + numbers_taken registers c s (placed_entry c e)) × CanFollow path others)
      → next_lineage ≡ with_entry (list_source c.unit.now.sections c.unit.now.header) c.transform.now e lineage → next_contexts ≡ with_context c e contexts
      → (r : Result (Unit {0}) CloneError) → OnOk r (KnowsNames c s new next_names) → GivesWrapped registers c s (placed_entry c e) t0 new parents path id before behind u1 v r
      → GivesEntry registers c number s roles es e others old new begun v path (reverse behind) next_lineage next_contexts next_names r
  gives-wrapped_cloned id u1 v before behind new path next_lineage next_contexts next_names count makes entered told (Ok done) known it =
      let all_of = makes it in
      cloned-next new v path (reverse behind) next_lineage next_contexts next_names all_of.0 (all_of.1 ∙ ap (λ n. n + numbers_taken registers c s (placed_entry c e)) count) all_of.2 it.grows it.accepted entered told known
  gives-wrapped_cloned id u1 v before behind new path next_lineage next_contexts next_names count makes entered told (Err error) known refused = refused
