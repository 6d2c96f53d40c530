-- What changes in the attributes of object pointers and of their functions: a few names alone.
use Rattle.std.proofs.Common.{◌≡◌, ℕ, List, [], ◌∷◌, Option, Some, None, Bool, true, false, refl, sym, ap, subst, ◌∙◌, ◌==◌}
use Rattle.std.specs.Prelude.{◌&&◌, if◌then◌else◌, option_map, filter_map, fold}
use Rattle.std.specs.List.{cons_option}
use Rattle.std.proofs.lemmas.Bool.{eqb-true}
use Rattle.dwc_base.specs.declared.constants.TheConstants.{DW_AT_artificial, DW_AT_name, DW_AT_object_pointer}
use Rattle.dwc_dwarf.specs.Values.{is_location_name}
use Rattle.dwc_rules.specs.Kept.{Placed}
use Rattle.dwc_dwarf.specs.Texts.{TextSource}
use Rattle.dwc_dwarf.specs.Trees.{TreeValue, entry, set_attribute, set_in_order}
use Rattle.dwc_rules.specs.Drafts.{Goal, DraftValue, done, goes_to}
use Rattle.dwc_rules.specs.DraftForests.{settled}
use Rattle.dwc_rules.specs.ObjectPointers.{has_parameters, is_object_pointer, underscored, unlike_this, stays_in_unit, names_no_pointer, pointers_changed}
use Rattle.dwc_rules.proofs.ForestLaws.{Each, each_filter_map, none_is, some_same}
use Rattle.dwc_rules.proofs.LastAttributes.{location_names, one-of, said, said-other, said-set}

-- ---- what holds of each attribute

-- What holds of each attribute, also with underscores in front of its text, holds of each that is told.
module _ (P : ℕ × DraftValue → Type 0) (under : (name : ℕ) (v : DraftValue) → P (name, v) → P (name, underscored v)) where
  unlike-this : (a : ℕ × DraftValue) → P a → (y : ℕ × DraftValue) → unlike_this a ≡ Some y → P y
  unlike-this a holds y = go (a.0 == DW_AT_artificial) (a.0 == DW_AT_name)
    where
      go : (mark named : Bool) → (if mark then None else Some (a.0, if named then underscored a.1 else a.1)) ≡ Some y → P y
      go true named is = absurd (none_is y is)
      go false true is = some_same P (a.0, underscored a.1) y is (under a.0 a.1 holds)
      go false false is = some_same P a y is holds

  no-pointer : (es : List Placed) (e : Placed) (a : ℕ × DraftValue) → P a → (y : ℕ × DraftValue) → names_no_pointer es e a ≡ Some y → P y
  no-pointer es e a holds y = go ((a.0 == DW_AT_object_pointer) && stays_in_unit es e a.1)
    where
      go : (gone : Bool) → (if gone then None else Some a) ≡ Some y → P y
      go true is = absurd (none_is y is)
      go false is = some_same P a y is holds

  each-of : (f : ℕ × DraftValue → Option (ℕ × DraftValue)) → ((a : ℕ × DraftValue) → P a → (y : ℕ × DraftValue) → f a ≡ Some y → P y) → (attributes : List (ℕ × DraftValue)) → Each P attributes → Each P (filter_map f attributes)
  each-of f step attributes h = each_filter_map f P attributes (go attributes h)
    where
      go : (rest : List (ℕ × DraftValue)) → Each P rest → Each (λ a. (y : ℕ × DraftValue) → f a ≡ Some y → P y) rest
      go [] k = tt
      go (a ∷ rest) k = (step a k.0, go rest k.1)

  pub each-changed : (texts : TextSource) (es : List Placed) (e : Placed) (attributes : List (ℕ × DraftValue)) → Each P attributes → Each P (pointers_changed texts es e attributes)
  unfolding pointers_changed
  each-changed texts es e attributes h = go (is_object_pointer texts es e) (has_parameters e)
    where
      go : (pointer function : Bool) → Each P (if pointer then filter_map unlike_this attributes else (if function then filter_map (names_no_pointer es e) attributes else attributes))
      go true function = each-of unlike_this unlike-this attributes h
      go false true = each-of (names_no_pointer es e) (no-pointer es e) attributes h
      go false false = h

-- ---- names that stay

-- a name of which nothing changes
pub record IsUntouched (name : ℕ) : Type 0 where
  pub mark : (name == DW_AT_artificial) ≡ false
  pub own : (name == DW_AT_name) ≡ false
  pub pointer : (name == DW_AT_object_pointer) ≡ false

pub location-untouched : (name : ℕ) → is_location_name name ≡ true → IsUntouched name
location-untouched name named = one-of IsUntouched location_names name named (record { mark = refl; own = refl; pointer = refl }, (record { mark = refl; own = refl; pointer = refl }, (record { mark = refl; own = refl; pointer = refl }, (record { mark = refl; own = refl; pointer = refl }, (record { mark = refl; own = refl; pointer = refl }, (record { mark = refl; own = refl; pointer = refl }, (record { mark = refl; own = refl; pointer = refl }, (record { mark = refl; own = refl; pointer = refl }, (record { mark = refl; own = refl; pointer = refl }, tt)))))))))

module _ (name : ℕ) where
  -- what is said under the name, of attributes that are set behind others
  abbrev last_of : Option TreeValue → List (ℕ × TreeValue) → Option TreeValue
  last_of o [] = o
  last_of o (a ∷ as') = last_of (if a.0 == name then Some a.1 else o) as'

  said-fold : (before as' : List (ℕ × TreeValue)) → said name (fold (λ so_far a. set_attribute a so_far) before as') ≡ last_of (said name before) as'
  said-fold before [] = refl
  said-fold before (a ∷ as') = said-fold (set_attribute a before) as' ∙ ap (λ o. last_of o as') (go (a.0 == name) refl)
    where
      go : (b : Bool) → (a.0 == name) ≡ b → said name (set_attribute a before) ≡ (if b then Some a.1 else said name before)
      go true same = subst (λ n. said name (set_attribute (n, a.1) before) ≡ Some a.1) (sym (eqb-true a.0 name same)) (said-set name a.1 before)
      go false apart = said-other name a before apart

  module _ (places : Goal → Option (ℕ × ℕ)) where
    -- the attributes as they are settled
    abbrev Settled : List (ℕ × DraftValue) → List (ℕ × TreeValue)
    Settled as' = filter_map (settled places) as'

    -- an attribute of another name says nothing under the name
    skipped : (o : Option TreeValue) (a : ℕ × DraftValue) (as' : List (ℕ × DraftValue)) → (a.0 == name) ≡ false → last_of o (Settled (a ∷ as')) ≡ last_of o (Settled as')
    skipped o (own, done v) as' apart = rw apart refl
    skipped o (own, goes_to goal) as' apart = go (places goal)
      where
        go : (p : Option (ℕ × ℕ)) → last_of o (cons_option (option_map (λ v. (own, v)) (option_map (λ q. entry q.0 q.1) p)) (Settled as')) ≡ last_of o (Settled as')
        go None = refl
        go (Some q) = ap (λ b. last_of (if b then Some (entry q.0 q.1) else o) (Settled as')) apart

    -- what leaves attributes of the name as they are, and gives none of the name to others
    record Leaves (f : ℕ × DraftValue → Option (ℕ × DraftValue)) : Type 0 where
      same : (a : ℕ × DraftValue) → (a.0 == name) ≡ true → f a ≡ Some a
      other : (a : ℕ × DraftValue) → (a.0 == name) ≡ false → (y : ℕ × DraftValue) → f a ≡ Some y → (y.0 == name) ≡ false

    left-as_said : (f : ℕ × DraftValue → Option (ℕ × DraftValue)) → Leaves f → (o : Option TreeValue) (as' : List (ℕ × DraftValue)) → last_of o (Settled (filter_map f as')) ≡ last_of o (Settled as')
    left-as_said f leaves o [] = refl
    left-as_said f leaves o (a ∷ as') = go (a.0 == name) refl (f a) refl (λ p. left-as_said f leaves p as')
      where
        with_first : (p : Option (ℕ × TreeValue)) → ((q : Option TreeValue) → last_of q (Settled (filter_map f as')) ≡ last_of q (Settled as')) → last_of o (cons_option p (Settled (filter_map f as'))) ≡ last_of o (cons_option p (Settled as'))
        with_first None behind = behind o
        with_first (Some y) behind = behind (if y.0 == name then Some y.1 else o)

        go : (b : Bool) → (a.0 == name) ≡ b → (x : Option (ℕ × DraftValue)) → f a ≡ x → ((q : Option TreeValue) → last_of q (Settled (filter_map f as')) ≡ last_of q (Settled as'))
            → last_of o (Settled (cons_option x (filter_map f as'))) ≡ last_of o (Settled (a ∷ as'))
        go true is x made behind =
            let stays : Some a ≡ x = sym (leaves.same a is) ∙ made in
            subst (λ z. last_of o (Settled (cons_option z (filter_map f as'))) ≡ last_of o (Settled (a ∷ as'))) stays (with_first (settled places a) behind)
        go false is None made behind = behind o ∙ sym (skipped o a as' is)
        go false is (Some y) made behind = skipped o y (filter_map f as') (leaves.other a is y made) ∙ behind o ∙ sym (skipped o a as' is)

    module _ (untouched : IsUntouched name) where
      leaves-this : Leaves unlike_this
      leaves-this = record { same = same; other = λ a is y. other a is y (a.0 == DW_AT_artificial) (a.0 == DW_AT_name) }
        where
          same : (a : ℕ × DraftValue) → (a.0 == name) ≡ true → unlike_this a ≡ Some a
          same a is =
              let no_mark : (a.0 == DW_AT_artificial) ≡ false = subst (λ n. (n == DW_AT_artificial) ≡ false) (sym (eqb-true a.0 name is)) untouched.mark in
              let no_name : (a.0 == DW_AT_name) ≡ false = subst (λ n. (n == DW_AT_name) ≡ false) (sym (eqb-true a.0 name is)) untouched.own in
              rw (no_mark, no_name) refl

          other : (a : ℕ × DraftValue) → (a.0 == name) ≡ false → (y : ℕ × DraftValue) (mark own : Bool) → (if mark then None else Some (a.0, if own then underscored a.1 else a.1)) ≡ Some y → (y.0 == name) ≡ false
          other a is y true own made = absurd (none_is y made)
          other a is y false own made = some_same (λ z. (z.0 == name) ≡ false) (a.0, if own then underscored a.1 else a.1) y made is

      leaves-pointer : (es : List Placed) (e : Placed) → Leaves (names_no_pointer es e)
      leaves-pointer es e = record { same = same; other = λ a is y. other a is y ((a.0 == DW_AT_object_pointer) && stays_in_unit es e a.1) }
        where
          same : (a : ℕ × DraftValue) → (a.0 == name) ≡ true → names_no_pointer es e a ≡ Some a
          same a is =
              let no_pointer : (a.0 == DW_AT_object_pointer) ≡ false = subst (λ n. (n == DW_AT_object_pointer) ≡ false) (sym (eqb-true a.0 name is)) untouched.pointer in
              rw no_pointer refl

          other : (a : ℕ × DraftValue) → (a.0 == name) ≡ false → (y : ℕ × DraftValue) (gone : Bool) → (if gone then None else Some a) ≡ Some y → (y.0 == name) ≡ false
          other a is y true made = absurd (none_is y made)
          other a is y false made = some_same (λ z. (z.0 == name) ≡ false) a y made is

      -- What is said under such a name is what was made.
      pub changed-said : (texts : TextSource) (es : List Placed) (e : Placed) (as' : List (ℕ × DraftValue)) → said name (set_in_order (Settled (pointers_changed texts es e as'))) ≡ said name (set_in_order (Settled as'))
      unfolding pointers_changed
      changed-said texts es e as' = said-fold [] (Settled (pointers_changed texts es e as')) ∙ go (is_object_pointer texts es e) (has_parameters e) ∙ sym (said-fold [] (Settled as'))
        where
          go : (pointer function : Bool) → last_of None (Settled (if pointer then filter_map unlike_this as' else (if function then filter_map (names_no_pointer es e) as' else as'))) ≡ last_of None (Settled as')
          go true function = left-as_said unlike_this leaves-this None as'
          go false true = left-as_said (names_no_pointer es e) (leaves-pointer es e) None as'
          go false false = refl
