-- What functions tell of their parameters, on a stack in a walk over kept entries in file order, is what the definitions say of them.
use Rattle.std.proofs.Common.{◌≡◌, ℕ, zero, suc, ◌<◌, ◌≤◌, int_le, pos, Bool, true, false, List, [], ◌∷◌, ◌++◌, refl, ap, sym, subst, ◌∙◌, arith, inl}
use Rattle.std.specs.Prelude.{◌==◌, ◌&&◌, ◌||◌, ◌-ℤ◌, not, if◌then◌else◌, is_some, unwrap_or, option_map, option_and_then, Option, Some, None, Result, Ok, Err}
use Rattle.std.specs.List.{filter}
use Rattle.std.proofs.lemmas.Bool.{eq-eqb, eqb-true, eqb-false, ne_eqb}
use Rattle.std.proofs.lemmas.Int.{ints}
use Rattle.std.proofs.lemmas.Option.{slice_get-get_or}
use Rattle.dwc_base.specs.declared.constants.TheConstants.{DW_AT_object_pointer, DW_AT_type, DW_TAG_formal_parameter, DW_TAG_pointer_type}
use Rattle.dwc_rules.specs.Clones.{UnitSource}
use Rattle.dwc_dwarf.specs.Entries.{Entry, attribute}
use Rattle.dwc_rules.specs.Kept.{Placed, parent_of}
use Rattle.dwc_rules.specs.ObjectPointers.{first_parameter, has_parameters, is_object_pointer, is_pointer, is_that, looks_like_this, named_pointer, points_to_object}
use Rattle.dwc_base.specs.Listing.{first_of}
use Rattle.dwc_rules.specs.Scopes.{Steps, left_for, top_at}
use Rattle.dwc_base.specs.Sections.{Fault}
use Rattle.dwc_rules.specs.Targets.{target_of}
use Rattle.dwc_dwarf.specs.Texts.{TextSource}
use Rattle.dwc_rules.specs.TypeNames.{target_in_unit, type_of}
use Rattle.dwc_dwarf.specs.Values.{Value, address, address_index, constant, flag, block, expression, text, text_reference, line_reference, range_reference, range_index, location_reference, location_index, unit_reference, info_reference, dropped}
use Rattle.dwc_base.proofs.InLists.{IsIn, append-right, contains-in, in-at, in-contains, in-filter, in-map, map-in}
use Rattle.dwc_rules.proofs.StackWalks.{StepsBack, deepest_after, nearest_above}
use Rattle.dwc_read.specs.Faults.{Refuses}
use Rattle.dwc_read.specs.Lone.{lone_entry, unread_from}
use Rattle.dwc_kept.specs.ReadEntries.{named_offset}
use Rattle.dwc_clone.specs.declared.object_pointer.SubprogramContext.{SubprogramContext}
use Rattle.dwc_clone.specs.declared.object_pointer.Telling.TheVariants.{Plain, Function, ObjectPointer}
use Rattle.dwc_source.specs.declared.source.CloneSource.{CloneSource}
use Rattle.dwc_source.specs.Sources.{placed_entry, AreEmitted, IsEmitted, IsSource}
use Rattle.dwc_clone.specs.ClonedUnits.{placed_in}
use Rattle.dwc_extents.specs.Lineages.{AreWalked}
use Rattle.dwc_source.specs.OutputPlaces.{place_of}
use Rattle.dwc_clone.specs.ParameterContexts.{Contexts, context_given, contexts_behind, is_first, met, points_by, told_behind, with_context, with_contexts}
use Rattle.dwc_clone.specs.Tellings.{telling_of}
use Rattle.dwc_types.specs.TypeChains.{offset_in_unit}
use Rattle.dwc_clone.proofs.BackwardWalks.{parent-is, steps-back}
use Rattle.dwc_clone.proofs.ParameterFinds.{Stands, above-at, first-is, stands}
use Rattle.dwc_clone.proofs.ParameterWalks.{Tells, TellsIf, is_parameter, met_above, none-behind, parameter-has-none, stack_behind, tells-above, told_above, top-told}

-- ---- the type of a parameter

-- The type of an entry, at an offset, is an entry of the output.
pub record IsTypeAt (c : CloneSource) (s : UnitSource) (e : Placed) (offset : ℕ) : Type 0 where
  pub named : Placed
  pub is : type_of s.entries e ≡ Some named
  pub emitted : IsEmitted c s named
  pub at : named.entry.offset ≡ offset

-- what the output has at an offset that is named, if one is
abbrev pub found_at : CloneSource → Option ℕ → Option (ℕ × ℕ)
found_at c o = option_and_then (λ offset. option_map (λ p. (offset, p.1)) (place_of c.places.now offset)) o

-- the tag of what was read
abbrev read_tag : Result Entry Fault → ℕ
read_tag (Ok e) = e.tag
read_tag (Err fault) = 0

module _ (c : CloneSource) (number : ℕ) (s : UnitSource) (source : IsSource c number s) (e : Placed) (emitted : IsEmitted c s e) where
  -- as it was found
  pub type-at : (t : ℕ × ℕ) → found_at c (offset_in_unit c (attribute DW_AT_type e.entry)) ≡ Some t → IsTypeAt c s e t.0
  type-at t found = value (attribute DW_AT_type e.entry) refl found
    where
      none : None ≡ Some t → ⊥
      none x = cc

      value : (v : Option Value) → attribute DW_AT_type e.entry ≡ v → found_at c (offset_in_unit c v) ≡ Some t → IsTypeAt c s e t.0
      value (Some (unit_reference n)) at h = target (target_of s.entries e (unit_reference n)) refl (named_offset c.unit.now.header.offset c.unit.now.header.end (unit_reference n)) refl (source.targets e (unit_reference n) emitted.unit) h
        where
          target : (o : Option Placed) → target_of s.entries e (unit_reference n) ≡ o → (m : Option ℕ) → named_offset c.unit.now.header.offset c.unit.now.header.end (unit_reference n) ≡ m
              → option_and_then (λ f. place_of c.places.now f.entry.offset) o ≡ option_and_then (place_of c.places.now) m → found_at c m ≡ Some t → IsTypeAt c s e t.0
          target o goes None named same h = absurd (none h)
          target None goes (Some m) named same h = place (place_of c.places.now m) same h
            where
              place : (p : Option (ℕ × ℕ)) → None ≡ p → option_map (λ p. (m, p.1)) p ≡ Some t → IsTypeAt c s e t.0
              place None none_is h = absurd (none h)
              place (Some p) none_is h = absurd (cc)
          target (Some f) goes (Some m) named same h =
              let type_is : type_of s.entries e ≡ Some f = ap (target_in_unit s.entries e) at ∙ goes in
              let there = source.types e f emitted type_is in
              let offset : named_offset c.unit.now.header.offset c.unit.now.header.end (unit_reference n) ≡ Some f.entry.offset = source.named e f (unit_reference n) emitted.unit goes there.kept in
              let same_offset : Some m ≡ Some f.entry.offset = sym named ∙ offset in
              record { named = f; is = type_is; emitted = there; at = ap (λ o. unwrap_or o m) (sym same_offset) ∙ place (place_of c.places.now m) h }
            where
              place : (p : Option (ℕ × ℕ)) → option_map (λ p. (m, p.1)) p ≡ Some t → m ≡ t.0
              place None h = absurd (none h)
              place (Some p) h = ap (λ (o : Option (ℕ × ℕ)). (unwrap_or o t).0) h
      value None at h = absurd (none h)
      value (Some (address a)) at h = absurd (none h)
      value (Some (address_index n)) at h = absurd (none h)
      value (Some (constant form n)) at h = absurd (none h)
      value (Some (flag b)) at h = absurd (none h)
      value (Some (block bytes)) at h = absurd (none h)
      value (Some (expression bytes)) at h = absurd (none h)
      value (Some (text bytes)) at h = absurd (none h)
      value (Some (text_reference form n)) at h = absurd (none h)
      value (Some (line_reference n)) at h = absurd (none h)
      value (Some (range_reference n)) at h = absurd (none h)
      value (Some (range_index n)) at h = absurd (none h)
      value (Some (location_reference n)) at h = absurd (none h)
      value (Some (location_index n)) at h = absurd (none h)
      value (Some (info_reference n)) at h = absurd (none h)
      value (Some dropped) at h = absurd (none h)

  -- and it is a pointer where what was read of it is one
  pub pointer-read : (t : ℕ × ℕ) (read : Entry) → found_at c (offset_in_unit c (attribute DW_AT_type e.entry)) ≡ Some t → lone_entry c.unit.now (unread_from c.unit.now t.0) ≡ Ok read → (read.tag == DW_TAG_pointer_type) ≡ is_pointer (type_of s.entries e)
  pointer-read t read found is =
      let at = type-at t found in
      let alone = source.alone at.named at.emitted in
      let same : Ok read ≡ Ok alone.read = sym is ∙ (ap (λ offset. lone_entry c.unit.now (unread_from c.unit.now offset)) (sym at.at) ∙ alone.is) in
      ap (λ (r : Result Entry Fault). read_tag r == DW_TAG_pointer_type) same ∙ (ap (λ tag. tag == DW_TAG_pointer_type) alone.tag ∙ ap is_pointer (sym at.is))

  -- it can be read
  pub type-readable : (t : ℕ × ℕ) (fault : Option Fault) → found_at c (offset_in_unit c (attribute DW_AT_type e.entry)) ≡ Some t → Refuses (lone_entry c.unit.now (unread_from c.unit.now t.0)) fault → fault ≡ None
  type-readable t None found refuses = refl
  type-readable t (Some fault) found refuses =
      let at = type-at t found in
      let alone = source.alone at.named at.emitted in
      let same : Err fault ≡ Ok alone.read = sym refuses ∙ (ap (λ offset. lone_entry c.unit.now (unread_from c.unit.now offset)) (sym at.at) ∙ alone.is) in
      absurd (cc)

-- ---- how a parameter is told

-- by what its function tells of it
pub told-by : (texts : TextSource) (es : List Placed) (e : Placed) (o : Option SubprogramContext) (x : SubprogramContext) → option_map met o ≡ Some x → told_behind texts es e o ≡ (if points_by texts es e x then ObjectPointer else Plain)
told-by texts es e None x h = absurd (cc)
told-by texts es e (Some y) x h = ap (λ (o : Option SubprogramContext). if points_by texts es e (unwrap_or o x) then ObjectPointer else Plain) h

-- of an entry that is no parameter
pub plain-told : (texts : TextSource) (es : List Placed) (e : Placed) (has : Bool) → is_parameter e.entry ≡ false → has_parameters e ≡ has → telling_of texts es e ≡ (if has then Function else Plain)
unfolding is_object_pointer
plain-told texts es e has other is =
    ap (λ b. if b && points_to_object texts es e (parent_of es e) then ObjectPointer else (if has_parameters e then Function else Plain)) other
    ∙ ap (λ b. if b then Function else Plain) is

-- of a parameter, by its parent
parameter-told : (texts : TextSource) (es : List Placed) (e : Placed) (o : Option Placed) → is_parameter e.entry ≡ true → parent_of es e ≡ o → telling_of texts es e ≡ (if points_to_object texts es e o then ObjectPointer else Plain)
unfolding is_object_pointer
parameter-told texts es e o parameter parent =
    ap (λ b. if b && points_to_object texts es e (parent_of es e) then ObjectPointer else (if has_parameters e then Function else Plain)) parameter
    ∙ (ap (λ b. if points_to_object texts es e (parent_of es e) then ObjectPointer else (if b then Function else Plain)) (parameter-has-none e parameter)
    ∙ ap (λ o. if points_to_object texts es e o then ObjectPointer else Plain) parent)

-- the parameter that was met last is the first where none was met before
first-met : (x : SubprogramContext) → is_first (met x) ≡ not (int_le (pos 0) x.param_num)
first-met x = go (int_le (pos 0) x.param_num)
  where
    go : (b : Bool) → (int_le (pos 0) (if b then pos 1 else pos 0) && int_le (if b then pos 1 else pos 0) (pos 0)) ≡ not b
    go true = refl
    go false = refl

turned : (a b : ℕ) → (a == b) ≡ (b == a)
turned a b = go (a == b) refl
  where
    go : (t : Bool) → (a == b) ≡ t → t ≡ (b == a)
    go true is = sym (eq-eqb b a (sym (eqb-true a b is)))
    go false is = sym (ne_eqb b a (λ same. absurd (omega (arith, same, eqb-false a b is))))

none-near : (rs : List Placed) → nearest_above 0 rs ≡ None
none-near [] = refl
none-near (r ∷ rs) = ap (λ b. first_of (if b then r ∷ filter (λ p. suc p.entry.depth == 0) rs else filter (λ p. suc p.entry.depth == 0) rs)) (ne_eqb (suc r.entry.depth) 0 (λ none. absurd (omega (arith, none)))) ∙ none-near rs

-- ---- the law of parameters

-- the stack behind one entry more
pub with-contexts-more : (c : CloneSource) (es : List Entry) (e : Entry) (stack : Contexts) → with_contexts c (es ++ e ∷ []) stack ≡ with_context c e (with_contexts c es stack)
with-contexts-more c [] e stack = refl
with-contexts-more c (x ∷ es) e stack = with-contexts-more c es e (with_context c x stack)

module _ (c : CloneSource) (number : ℕ) (s : UnitSource) (source : IsSource c number s) (es others : List Entry) (e : Entry) (emitted : AreEmitted c s number (es ++ e ∷ others)) (walked : AreWalked s.entries (placed_in c.unit.now.header.offset (es ++ e ∷ others))) where
  abbrev list : List Entry
  list = es ++ e ∷ others

  abbrev kept : List Placed
  kept = placed_in c.unit.now.header.offset list

  abbrev this : Placed
  this = placed_entry c e

  abbrev test : Placed → Bool
  test = walked.walk.test

  passing : (p : Placed) → IsIn p kept → IsIn p s.entries × (test p ≡ true)
  passing p i = in-filter test s.entries p (subst (IsIn p) walked.walk.are i)

  -- what is walked is in the output
  pub kept-emitted : (p : Placed) → IsIn p kept → IsEmitted c s p
  kept-emitted p i =
      let from = in-map (placed_entry c) list p i in
      let at = in-at list from.0 from.1 in
      let got = slice_get-get_or list at.0 from.0 at.1 ∙ ap (λ x. Some x) at.2 in
      record {
        among = in-contains s.entries p (passing p i).0;
        unit = ap (λ (q : Placed). q.unit) from.2;
        kept = ap (λ (q : Placed). is_some (place_of c.places.now q.entry.offset)) from.2 ∙ ap is_some (emitted.each at.0 from.0 got);
      }

  this-kept : IsIn this kept
  this-kept = map-in (placed_entry c) list e (append-right es (e ∷ others) e (inl refl))

  -- so is the entry that is met
  pub this-emitted : IsEmitted c s this
  this-emitted = kept-emitted this this-kept

  parent-kept : (p : Placed) → parent_of s.entries this ≡ Some p → IsIn p kept
  parent-kept p parent = contains-in kept p (walked.walk.parents this p (in-contains kept this this-kept) parent)

  child-kept : (p : Placed) → IsIn p kept → (g : Placed) → IsIn g s.entries → is_parameter g.entry ≡ true → parent_of s.entries g ≡ Some p → test g ≡ true
  child-kept p i g j parameter parent =
      let there = source.parameters g p (kept-emitted p i) (in-contains s.entries g j) (eqb-true g.entry.tag DW_TAG_formal_parameter parameter) parent in
      let same : placed_entry c g.entry ≡ g = ap (λ (unit : ℕ). record { unit = unit; entry = g.entry }) (sym there.unit) in
      (passing g (subst (λ q. IsIn q kept) same (map-in (placed_entry c) list g.entry (contains-in list g.entry (emitted.all g there))))).1

  -- the entry that a function names is this one where it names this one's offset
  named-pointer-at : (p : Placed) → IsIn p kept → p.entry.offset < e.offset → ((context_given c p.entry).obj_ptr == e.offset) ≡ is_that this (named_pointer s.entries p)
  named-pointer-at p i before = go (attribute DW_AT_object_pointer p.entry)
    where
      named : Value → Option ℕ
      named v = named_offset c.unit.now.header.offset c.unit.now.header.end v

      first : (0 == e.offset) ≡ false
      first = ne_eqb 0 e.offset (λ same. absurd (omega (arith, same, before)))

      elsewhere : (n : Option ℕ) → None ≡ option_and_then (place_of c.places.now) n → (unwrap_or n 0 == e.offset) ≡ false
      elsewhere None none = first
      elsewhere (Some n) none = ne_eqb n e.offset (λ same. absurd (apart same))
        where
          apart : n ≡ e.offset → ⊥
          apart same = let there : is_some (place_of c.places.now e.offset) ≡ true = this-emitted.kept in let missing : is_some (place_of c.places.now e.offset) ≡ false = ap (λ k. is_some (place_of c.places.now k)) (sym same) ∙ ap is_some (sym none) in absurd (cc)

      pick : (v : Value) (o : Option Placed) → target_of s.entries p v ≡ o → (n : Option ℕ) → named v ≡ n → option_and_then (λ f. place_of c.places.now f.entry.offset) o ≡ option_and_then (place_of c.places.now) n → (unwrap_or n 0 == e.offset) ≡ is_that this o
      pick v None is n at same = elsewhere n same
      pick v (Some f) is n at same = there (place_of c.places.now f.entry.offset) refl
        where
          there : (o : Option (ℕ × ℕ)) → place_of c.places.now f.entry.offset ≡ o → (unwrap_or n 0 == e.offset) ≡ (e.offset == f.entry.offset)
          there None none =
              elsewhere n (sym none ∙ same)
              ∙ sym (ne_eqb e.offset f.entry.offset (λ equal. absurd (apart equal)))
            where
              apart : e.offset ≡ f.entry.offset → ⊥
              apart equal = let here : is_some (place_of c.places.now e.offset) ≡ true = this-emitted.kept in let missing : is_some (place_of c.places.now e.offset) ≡ false = ap (λ k. is_some (place_of c.places.now k)) equal ∙ ap is_some none in absurd (cc)
          there (Some place) some =
              let offset : named v ≡ Some f.entry.offset = source.named p f v (kept-emitted p i).unit is (ap is_some some) in
              ap (λ o. unwrap_or o 0 == e.offset) (sym at ∙ offset) ∙ turned f.entry.offset e.offset

      go : (v : Option Value) → (unwrap_or (option_and_then named v) 0 == e.offset) ≡ is_that this (option_and_then (target_of s.entries p) v)
      go None = first
      go (Some v) = pick v (target_of s.entries p v) refl (named v) refl (source.targets p v (kept-emitted p i).unit)

  -- what the parent tells decides
  decided : (before : Bool) (told : Option SubprogramContext) (o : Option Placed) → is_parameter e ≡ true → parent_of s.entries this ≡ o → Tells c o before told → ((p : Placed) → o ≡ Some p → (p.entry.offset < e.offset) × (is_that this (first_parameter s.entries p) ≡ not before)) → told_behind s.texts s.entries this told ≡ telling_of s.texts s.entries this
  decided before told None parameter parent tells facts = ap (told_behind s.texts s.entries this) tells ∙ sym (parameter-told s.texts s.entries this None parameter parent)
  decided before told (Some p) parameter parent tells facts = go (has_parameters p) refl tells
    where
      looks : Bool
      looks = looks_like_this s.texts s.entries this

      named : Bool
      named = is_that this (named_pointer s.entries p)

      first : Bool
      first = is_that this (first_parameter s.entries p)

      by_parent : (has : Bool) → has_parameters p ≡ has → telling_of s.texts s.entries this ≡ (if has && (named || (first && looks)) then ObjectPointer else Plain)
      by_parent has is = parameter-told s.texts s.entries this (Some p) parameter parent ∙ ap (λ b. if b && (named || (first && looks)) then ObjectPointer else Plain) is

      go : (has : Bool) → has_parameters p ≡ has → TellsIf c has p before told → told_behind s.texts s.entries this told ≡ telling_of s.texts s.entries this
      go false is tells = ap (told_behind s.texts s.entries this) tells ∙ sym (by_parent false is)
      go true is tells =
          let fact = facts p refl in
          let pointer = ap (λ n. n == e.offset) tells.pointer ∙ named-pointer-at p (parent-kept p parent) fact.0 in
          let first_is = first-met tells.context ∙ (ap not tells.number ∙ sym fact.1) in
          let points = ap (λ b. b || (is_first (met tells.context) && looks)) pointer ∙ ap (λ b. named || (b && looks)) first_is in
          ap (told_behind s.texts s.entries this) tells.is ∙ (ap (λ b. if b then ObjectPointer else Plain) points ∙ sym (by_parent true is))

  -- A parameter is told as the definitions have it, by the stack behind the entries before it.
  pub parameters-told : is_parameter e ≡ true → told_behind s.texts s.entries this (top_at (pos e.depth -ℤ pos 1) (left_for (pos e.depth) (contexts_behind c es))) ≡ telling_of s.texts s.entries this
  parameters-told parameter = go e.depth refl
    where
      there : Stands c test s.entries this (contexts_behind c es)
      there = stands c test s.entries c.unit.now.header.offset e others es (sym walked.walk.are)

      back : StepsBack there.before × (e.depth ≤ deepest_after there.before)
      back = let steps = steps-back there.before (this ∷ there.others) (subst (Steps 0) there.at walked.steps) in (steps.0, steps.1.0)

      parent : parent_of s.entries this ≡ nearest_above e.depth there.before
      parent = parent-is s.entries walked.rises this there.before there.others there.at

      stack : top_at (pos e.depth -ℤ pos 1) (left_for (pos e.depth) (contexts_behind c es)) ≡ top_at (pos e.depth -ℤ pos 1) (left_for (pos e.depth) (stack_behind c test there.before))
      stack = ap (λ gs. top_at (pos e.depth -ℤ pos 1) (left_for (pos e.depth) gs)) there.is

      go : (d : ℕ) → e.depth ≡ d → told_behind s.texts s.entries this (top_at (pos e.depth -ℤ pos 1) (left_for (pos e.depth) (contexts_behind c es))) ≡ telling_of s.texts s.entries this
      go zero is =
          let none = stack ∙ (ap (λ n. top_at (pos n -ℤ pos 1) (left_for (pos n) (stack_behind c test there.before))) is ∙ ap (top_at (pos 0 -ℤ pos 1)) (none-behind c test there.before)) in
          decided false (top_at (pos e.depth -ℤ pos 1) (left_for (pos e.depth) (contexts_behind c es))) None parameter (parent ∙ (ap (λ n. nearest_above n there.before) is ∙ none-near there.before)) none (λ p some. absurd (cc))
      go (suc m) is =
          let near : parent_of s.entries this ≡ nearest_above (suc m) there.before = parent ∙ ap (λ n. nearest_above n there.before) is in
          let above : pos (suc m) -ℤ pos 1 ≡ pos m = omega (arith, ints) in
          let told : top_at (pos e.depth -ℤ pos 1) (left_for (pos e.depth) (contexts_behind c es)) ≡ told_above c test m there.before =
          stack
          ∙ (ap (λ n. top_at (pos n -ℤ pos 1) (left_for (pos n) (stack_behind c test there.before))) is
          ∙ (ap (λ d. top_at d (left_for (pos (suc m)) (stack_behind c test there.before))) above
          ∙ top-told c test m there.before back.0 (omega (arith, is, back.1)) (λ p h. (passing p (parent-kept p (near ∙ h))).1))) in
          ap (told_behind s.texts s.entries this) told
          ∙ decided (met_above c test m there.before) (told_above c test m there.before) (nearest_above (suc m) there.before) parameter near (tells-above c test m there.before) (facts m near)
        where
          facts : (m : ℕ) → parent_of s.entries this ≡ nearest_above (suc m) there.before → (p : Placed) → nearest_above (suc m) there.before ≡ Some p → (p.entry.offset < e.offset) × (is_that this (first_parameter s.entries p) ≡ not (met_above c test m there.before))
          facts m near p some =
              let parent_is = near ∙ some in
              let before = (above-at s.entries walked.rises this p there.before there.others there.at parent_is).before in
              let first = first-is c test m p s.entries walked.rises this there.before there.others there.at some (child-kept p (parent-kept p parent_is)) parameter parent_is in
              (before, first)
