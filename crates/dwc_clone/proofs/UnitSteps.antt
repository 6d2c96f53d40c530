-- The kept entries of a unit that are cloned so far, and those that are still to come.
use Rattle.std.proofs.Common.{◌≡◌, ◌≢◌, ℕ, zero, suc, ◌+◌, ◌<◌, ◌≤◌, refl, sym, ap, subst, ◌∙◌, arith, append_assoc, List, [], ◌∷◌, ◌++◌, length, length-append, drop, get_or, Bool, true, false, eqb, Option, Some, None, Ok, Err}
use Rattle.std.specs.Prelude.{if◌then◌else◌, is_some}
use Rattle.std.proofs.lemmas.Bool.{eq-eqb, eqb-false, eqb-true, le-ltb, ne_eqb}
use Rattle.dwc_base.specs.declared.constants.TheConstants.{DW_TAG_compile_unit}
use Rattle.std.proofs.lemmas.List.{append-nil, drop_all, drop_more}
use Rattle.std.proofs.lemmas.List.Elements.{All-cons, All-nil}
use Rattle.dwc_dwarf.specs.Entries.{Entry}
use Rattle.dwc_rules.specs.Kept.{Placed}
use Rattle.dwc_base.specs.Listing.{Listing, no_items, with_first}
use Rattle.dwc_base.specs.Sections.{Fault, unreadable, unsupported}
use Rattle.dwc_rules.specs.Clones.{UnitSource, entry_refusals}
use Rattle.dwc_rules.specs.Drafts.{Role}
use Rattle.dwc_rules.specs.EntryRules.{wrappers_of}
use Rattle.dwc_rules.specs.Refusals.{Refusal}
use Rattle.dwc_rules.specs.Wrappers.{WrapperSource, closing, entries_made, types_closed, wrapper_types}
use Rattle.dwc_isa.specs.Registers.{Registers}
use Rattle.dwc_kept.specs.KeptUnits.{IsTree}
use Rattle.dwc_read.specs.declared.fault.ReadFault.{ReadFault}
use Rattle.dwc_read.specs.declared.fault.ReadFault.TheVariants.{OutOfMemory, Read, Unsupported}
use Rattle.dwc_read.specs.Faults.{RefusesNext}
use Rattle.dwc_read.specs.Places.{GoesOn}
use Rattle.dwc_unit.specs.declared.units.UnitEntryId.{UnitEntryId}
use Rattle.dwc_unit.specs.GivenLines.{GivenLines}
use Rattle.dwc_unit.specs.GivenUnits.{GivenUnit, IsAdded, IsPlaceBelow, IsReserved, new_unit, place_of, with_reserved}
use Rattle.dwc_unit.specs.Renumbered.{LeadsToEntries}
use Rattle.dwc_unit.specs.AddedInOrder.{with_last}
use Rattle.dwc_unit.proofs.NumberLaws.{leads-reserved, reserved-new, reserved-on-reserved, reserved-place}
use Rattle.dwc_source.specs.declared.source.CloneSource.{CloneSource}
use Rattle.dwc_types.specs.declared.type_name.TypeNames.{TypeNames}
use Rattle.dwc_clone.specs.declared.wrapper.OpenWrapper.{OpenWrapper}
use Rattle.dwc_source.specs.Errors.{of_reading, refusal_told}
use Rattle.dwc_clone.specs.BuiltUnits.{AreBuilt, AreClonedSoFar, AreRoles, BuiltSoFar, IsDrafted, drafts_left, rootless}
use Rattle.dwc_clone.specs.ClonedUnits.{AreClonable, IsCloned, TellsFirst, clone_drafts, clone_refusals, depths_of, goal_number, picked, placed_in}
use Rattle.dwc_extents.specs.CodeSources.{clone_rules, source_with}
use Rattle.dwc_clone.specs.ClonedEntries.{CanAdd, CanFollow}
use Rattle.dwc_source.specs.Sources.{placed_entry, IsSource}
use Rattle.dwc_types.specs.KnownNames.{KnowsNames}
use Rattle.dwc_extents.specs.Lineages.{Stacks, no_stacks}
use Rattle.dwc_clone.specs.OpenWrappers.{CanCloseAll, closed_from, reserved_more}
use Rattle.dwc_clone.specs.ParameterContexts.{Contexts}
use Rattle.dwc_clone.proofs.ClonedSteps.{cloned-refused}
use Rattle.dwc_clone.proofs.EntryValues.{grows-not}
use Rattle.dwc_clone.proofs.OpenStacks.{Closes, closes}

-- ---- the entries at offsets

pub picked-here : (ks : List ℕ) (i d : ℕ) (e : Entry) (es : List Entry) → i < length ks → e.offset ≡ get_or ks i d → picked (drop i ks) (e ∷ es) ≡ e ∷ picked (drop (i + 1) ks) es
picked-here ks i d e es within is =
    ap (λ xs. picked xs (e ∷ es)) (drop_more ks i d within)
    ∙ ap (λ b. if b then e ∷ picked (drop (i + 1) ks) es else picked (get_or ks i d ∷ drop (i + 1) ks) es) (eq-eqb e.offset (get_or ks i d) is)

pub picked-not : (ks : List ℕ) (i d : ℕ) (e : Entry) (es : List Entry) → i < length ks → e.offset ≢ get_or ks i d → picked (drop i ks) (e ∷ es) ≡ picked (drop i ks) es
picked-not ks i d e es within apart =
    ap (λ xs. picked xs (e ∷ es)) (drop_more ks i d within)
    ∙ ap (λ b. if b then e ∷ picked (drop (i + 1) ks) es else picked (get_or ks i d ∷ drop (i + 1) ks) es) (ne_eqb e.offset (get_or ks i d) apart)
    ∙ ap (λ xs. picked xs es) (sym (drop_more ks i d within))

pub picked-none : (ks : List ℕ) → picked ks [] ≡ []
picked-none [] = refl
picked-none (k ∷ ks) = refl

pub picked-past : (ks : List ℕ) (i : ℕ) (es : List Entry) → length ks ≤ i → picked (drop i ks) es ≡ []
picked-past ks i es past = ap (λ xs. picked xs es) (drop_all i ks past)

-- ---- one step of reading

-- An entry that was gone on to stands in front of what is left.
pub gone-on : (old new : Listing Fault Entry) (e : Entry) (b : Bool) → GoesOn old new e (Ok b) → b ≡ true → old ≡ with_first e new
gone-on old new e b next is = subst (λ x. GoesOn old new e (Ok x)) is next

pub gone-not : (old new : Listing Fault Entry) (e : Entry) (b : Bool) → GoesOn old new e (Ok b) → b ≡ false → old ≡ no_items
gone-not old new e b next is = (subst (λ x. GoesOn old new e (Ok x)) is next).0

-- ---- the unit before the first entry

-- numbers that are reserved in a unit
module _ (version size : ℕ) (lines : GivenLines) where
  -- whatever numbers are reserved, the root is alone and has the first one
  pub record IsAlone (u : GivenUnit) : Type 0 where
    pub root : u ≡ with_last (record { parent = 0; tag = DW_TAG_compile_unit; attributes = [] }) (rootless version size lines u.places)
    pub first : place_of 0 u.places ≡ Some 0
    pub leads : LeadsToEntries u

  alone-more : (n : ℕ) (u : GivenUnit) → IsAlone u → IsAlone (reserved_more n u)
  alone-more zero u is = is
  alone-more (suc n) u is = alone-more n (with_reserved u) (record { root = ap with_reserved is.root; first = reserved-place u 0 ∙ is.first; leads = leads-reserved u is.leads })

  pub alone : (n : ℕ) → IsAlone (reserved_more n (new_unit version size lines))
  alone n = alone-more n (new_unit version size lines) (record { root = refl; first = refl; leads = All-cons (IsPlaceBelow 1) (Some 0) [] (omega arith) (All-nil (IsPlaceBelow 1)) })

count-more : (n : ℕ) (u : GivenUnit) → length (reserved_more n u).places ≡ length u.places + n
count-more zero u = omega arith
count-more (suc n) u = count-more n (with_reserved u) ∙ omega (arith, length-append u.places (None ∷ []))

still-reserved : (n k : ℕ) (u : GivenUnit) → IsReserved k u → IsReserved k (reserved_more n u)
still-reserved zero k u reserved = reserved
still-reserved (suc n) k u reserved = still-reserved n k (with_reserved u) (reserved-on-reserved u k reserved)

-- The numbers behind those of a unit are reserved.
pub reserved-behind : (n k : ℕ) (u : GivenUnit) → length u.places ≤ k → k < length u.places + n → IsReserved k (reserved_more n u)
reserved-behind zero k u low high = absurd (omega (arith, low, high))
reserved-behind (suc n) k u low high = go (eqb k (length u.places)) refl (λ above. reserved-behind n k (with_reserved u) above (omega (arith, high, length-append u.places (None ∷ []))))
  where
    go : (b : Bool) → eqb k (length u.places) ≡ b → (length (with_reserved u).places ≤ k → IsReserved k (reserved_more n (with_reserved u))) → IsReserved k (reserved_more n (with_reserved u))
    go true is rest = still-reserved n k (with_reserved u) (subst (λ i. IsReserved i (with_reserved u)) (sym (eqb-true k (length u.places) is)) (reserved-new u))
    go false is rest = let other : k ≢ length u.places = eqb-false k (length u.places) is in rest (omega (arith, low, other, length-append u.places (None ∷ [])))

-- ---- entries that are cloned

-- What can be added next, below the last of some entries: the first one below none.
pub can-add-next : (id : UnitEntryId) (ps : List UnitEntryId) (u : GivenUnit) → (id.index ≡ 0 → ps ≡ []) → (0 < id.index → IsReserved id.index u) → CanAdd id ps u
can-add-next id [] u first reserved = tt
can-add-next id (p ∷ ps) u first reserved = go id.index refl
  where
    go : (n : ℕ) → id.index ≡ n → IsReserved id.index u
    go zero is = absurd (omega (arith, ap length (first is)))
    go (suc n) is = reserved (omega (arith, is))

-- Some entries of a unit are cloned, as many as the number of the next one; with those that are left they are all.
pub record AreAmong (registers : Registers) (c : CloneSource) (number : ℕ) (s : UnitSource) (roles : ℕ → Role → Option ℕ) (all left : List Entry) (next : ℕ) (old now : List (List ℕ)) (begun u : GivenUnit) (parents : List UnitEntryId) (wrappers : List OpenWrapper) (lineage : Stacks) (contexts : Contexts) (names : TypeNames) : Type 0 where
  pub es : List Entry
  pub so : AreClonedSoFar registers c number s roles es left old now begun u parents wrappers lineage contexts names
  pub place : next ≡ length es
  pub whole : es ++ left ≡ all

pub among-start : (registers : Registers) (c : CloneSource) (number : ℕ) (s : UnitSource) (roles : ℕ → Role → Option ℕ) (all : List Entry) (old : List (List ℕ)) (begun u : GivenUnit) (count : ℕ) (parents : List UnitEntryId) (wrappers : List OpenWrapper) (lineage : Stacks) (contexts : Contexts) (names : TypeNames)
    → begun ≡ new_unit begun.version begun.address_size begun.lines → u ≡ reserved_more count begun → parents ≡ [] → wrappers ≡ [] → lineage ≡ no_stacks → contexts ≡ [] → KnowsNames c s old names → AreClonable all → AreRoles registers c s roles (length u.places) (placed_in c.unit.now.header.offset all)
    → AreAmong registers c number s roles all all 0 old old begun u parents wrappers lineage contexts names
among-start registers c number s roles all old begun u count parents wrappers lineage contexts names begun_is is no_parents no_wrappers no_lineage no_contexts known can numbers = record {
  es = [];
  so = record {
    built = record { root = alone_so.root; first = alone_so.first; leads = alone_so.leads; texts_are = refl; parents_are = no_parents; wrappers_are = no_wrappers };
    follow = subst (λ qs. CanFollow qs all) (sym no_parents) (subst (λ es. CanFollow [] es) (sym can.are) (tree.0, can.tag, tree.1));
    grows = grows-not old;
    accepted = refl;
    numbers = numbers;
    entered = no_lineage;
    told = no_contexts;
    known = known;
  };
  place = refl;
  whole = refl;
}
  where
    alone_so : IsAlone begun.version begun.address_size begun.lines u
    alone_so = subst (IsAlone begun.version begun.address_size begun.lines) (sym (is ∙ ap (reserved_more count) begun_is)) (alone begun.version begun.address_size begun.lines count)

    tree : IsTree (depths_of (can.root ∷ can.others))
    tree = subst (λ es. IsTree (depths_of es)) can.are can.tree

pub among-refused : (registers : Registers) (c : CloneSource) (number : ℕ) (s : UnitSource) (roles : ℕ → Role → Option ℕ) (all : List Entry) (e : Entry) (left : List Entry) (next : ℕ) (old now : List (List ℕ)) (begun u : GivenUnit) (parents : List UnitEntryId) (wrappers : List OpenWrapper) (lineage : Stacks) (contexts : Contexts) (names : TypeNames) (told : Option Refusal)
    → AreAmong registers c number s roles all (e ∷ left) next old now begun u parents wrappers lineage contexts names → TellsFirst (entry_refusals (clone_rules registers c s) s (placed_entry c e)) told → TellsFirst (clone_refusals registers c s all) told
among-refused registers c number s roles all e left next old now begun u parents wrappers lineage contexts names told a first =
    subst (λ es. TellsFirst (clone_refusals registers c s es) told) a.whole
    (cloned-refused registers c number s roles a.es e left old now begun u parents wrappers lineage contexts names a.so told first)

-- ---- the end

-- at the end all that are open are closed
closed-all : (ws : WrapperSource) (stack : List Placed) → closing ws stack [] ≡ types_closed ws 0 stack
closed-all ws [] = refl
closed-all ws (e ∷ stack) = ap (λ ds. wrapper_types ws e ++ ds) (closed-all ws stack) ∙ ap (λ b. if b then [] else wrapper_types ws e ++ types_closed ws 0 stack) (sym (le-ltb e.entry.depth 0 (omega arith)))

left-none : (registers : Registers) (c : CloneSource) (s : UnitSource) (stack : List Placed) → drafts_left registers c s stack [] ≡ closing (wrappers_of (source_with registers c s)) stack []
unfolding entries_made
left-none registers c s stack = refl

pub among-end : (registers : Registers) (c : CloneSource) (number : ℕ) (s : UnitSource) (source : IsSource c number s) (roles : ℕ → Role → Option ℕ) (all left : List Entry) (next most : ℕ) (old now : List (List ℕ)) (begun u v : GivenUnit) (parents : List UnitEntryId) (wrappers : List OpenWrapper) (lineage : Stacks) (contexts : Contexts) (names : TypeNames)
    → AreAmong registers c number s roles all left next old now begun u parents wrappers lineage contexts names → left ≡ [] → AreClonable all → CanCloseAll most u wrappers → v ≡ closed_from 0 wrappers u → IsCloned registers c number s all old now begun v
among-end registers c number s source roles all left next most old now begun u v parents wrappers lineage contexts names a none can closable is =
    subst (IsCloned registers c number s all old now begun) (sym is) (whole a.es refl (subst (λ ls. BuiltSoFar registers c number s roles a.es ls old now begun u parents wrappers) none (a.so).built))
  where
    are : a.es ≡ all
    are = sym (append-nil a.es) ∙ ap (λ ls. a.es ++ ls) (sym none) ∙ a.whole

    built-end : AreBuilt registers c number s roles all [] now begun u parents wrappers → IsCloned registers c number s all old now begun (closed_from 0 wrappers u)
    built-end built =
        let ends : Closes registers c number s source roles now 0 built.ds built.stack wrappers u (closed_from 0 wrappers u) = closes registers c number s source roles now 0 (length parents) most built.stack wrappers built.ds u built.drafted built.opens closable in
        let ws = wrappers_of (source_with registers c s) in
        let drafts_are : built.ds ++ types_closed ws 0 built.stack ≡ clone_drafts registers c s all = ap (λ ds. built.ds ++ ds) (sym (left-none registers c s built.stack ∙ closed-all ws built.stack)) ∙ built.whole in
        let drafted = (ends.adds).drafted in
        let drafted_all = subst (λ ds. IsDrafted (goal_number c number roles) number now ds (closed_from 0 wrappers u)) drafts_are drafted in
        record {
          grows = (a.so).grows;
          accepted = ap (clone_refusals registers c s) (sym are) ∙ (a.so).accepted;
          version = ((ends.adds).extends).version ∙ built.version;
          size = ((ends.adds).extends).size ∙ built.size;
          lines = ((ends.adds).extends).lines ∙ built.lines;
          order = drafted_all.order;
          leads = drafted_all.leads;
          numbers = drafted_all.numbers;
          roles = roles;
          numbered = drafted_all.numbered;
          says = drafted_all.says;
          texts = drafted_all.names;
        }

    whole : (es : List Entry) → a.es ≡ es → BuiltSoFar registers c number s roles es [] old now begun u parents wrappers → IsCloned registers c number s all old now begun (closed_from 0 wrappers u)
    whole [] is_empty built = absurd (omega (arith, ap length is_empty, ap length are, ap length can.are))
    whole (x ∷ es) are_so built = built-end (subst (λ xs. AreBuilt registers c number s roles xs [] now begun u parents wrappers) (append-nil (x ∷ es) ∙ sym are_so ∙ are) built)

-- ---- the loop

-- Where the entries have no fault, only want of memory ends the reading.
pub advance-refused : (old new : Listing Fault Entry) (e : Entry) (f : ReadFault) → GoesOn old new e (Err f) → old.fault ≡ None → refusal_told (of_reading f) ≡ None
advance-refused old new e OutOfMemory goes none = refl
advance-refused old new e (Read what section offset) goes none = absurd (clash (unreadable what section offset) goes)
  where
    clash : (fault : Fault) → RefusesNext old new (Some fault) → ⊥
    clash fault refuses = absurd (cc)
advance-refused old new e (Unsupported kind offset) goes none = absurd (clash (unsupported kind offset) goes)
  where
    clash : (fault : Fault) → RefusesNext old new (Some fault) → ⊥
    clash fault refuses = absurd (cc)

-- An entry more is cloned.
pub among-more : (registers : Registers) (c : CloneSource) (number : ℕ) (s : UnitSource) (roles : ℕ → Role → Option ℕ) (all : List Entry) (e : Entry) (left : List Entry) (next : ℕ) (old t0 t1 : List (List ℕ)) (begun u v : GivenUnit) (parents path : List UnitEntryId) (wrappers opened : List OpenWrapper) (lineage : Stacks) (contexts : Contexts) (names : TypeNames) (next_lineage : Stacks) (next_contexts : Contexts) (next_names : TypeNames)
    → (a : AreAmong registers c number s roles all (e ∷ left) next old t0 begun u parents wrappers lineage contexts names) → AreClonedSoFar registers c number s roles (a.es ++ e ∷ []) left old t1 begun v path opened next_lineage next_contexts next_names
    → AreAmong registers c number s roles all left (next + 1) old t1 begun v path opened next_lineage next_contexts next_names
among-more registers c number s roles all e left next old t0 t1 begun u v parents path wrappers opened lineage contexts names next_lineage next_contexts next_names a so = record {
  es = a.es ++ e ∷ [];
  so = so;
  place = omega (arith, a.place, length-append a.es (e ∷ []));
  whole = append_assoc a.es (e ∷ []) left ∙ a.whole;
}

-- The root of a unit that was begun is there, whatever numbers are reserved.
pub root-known : (begun u : GivenUnit) (count : ℕ) → begun ≡ new_unit begun.version begun.address_size begun.lines → u ≡ reserved_more count begun → IsAdded 0 u
root-known begun u count begun_is is = subst (IsAdded 0) (sym (is ∙ ap (reserved_more count) begun_is)) (ap is_some (alone begun.version begun.address_size begun.lines count).first)
