-- What an entry of the output says under a name: what the last attribute of that name became, if it became something.
use Rattle.std.proofs.Common.{◌≡◌, ℕ, List, [], ◌∷◌, ◌++◌, append_assoc, Option, Some, None, Bool, true, false, Result, Ok, Err, refl, sym, ap, subst, ◌∙◌, inl, inr, ◌==◌, true≢false}
use Rattle.std.specs.Prelude.{◌&&◌, ◌||◌, ◌⊎◌, if◌then◌else◌, option_map, option_to_list, filter_map, fold, cond}
use Rattle.std.specs.List.{cons_option, find}
use Rattle.std.proofs.lemmas.Bool.{false≢true, false_from_ne_true, eq-eqb, eqb-true, or_cases}
use Rattle.std.proofs.lemmas.List.{append-nil}
use Rattle.std.proofs.lemmas.List.Elements.{filter_map-append}
use Rattle.std.proofs.lemmas.List.Sums.{fold-append}
use Rattle.dwc_base.specs.declared.constants.TheConstants.{DW_AT_data_member_location, DW_AT_endianity, DW_AT_frame_base, DW_AT_high_pc, DW_AT_location, DW_AT_low_pc, DW_AT_ranges, DW_AT_return_addr, DW_AT_segment, DW_AT_static_link, DW_AT_stmt_list, DW_AT_string_length, DW_AT_use_location, DW_AT_vtable_elem_location, DW_FORM_data1, DW_END_little, DW_TAG_base_type}
use Rattle.dwc_rules.specs.Kept.{Placed}
use Rattle.dwc_rules.specs.Refusals.{Refusal}
use Rattle.dwc_dwarf.specs.Values.{Value, is_location_name, is_one_of}
use Rattle.dwc_dwarf.specs.Trees.{TreeValue, constant, set_attribute, set_in_order, entry}
use Rattle.dwc_rules.specs.Drafts.{Goal, DraftValue, done, goes_to}
use Rattle.dwc_rules.specs.DraftForests.{settled, settled_entry}
use Rattle.dwc_rules.specs.CarriedDrafts.{draft_of}
use Rattle.dwc_rules.specs.Clones.{CodeRules, UnitSource, is_dropped_name, is_bound_name, attribute_becomes, attributes_become, if_made, endianity, attributes_made}
use Rattle.dwc_rules.specs.RangeRefusals.{has_name}
use Rattle.dwc_rules.specs.ScopesCarried.{value_of_entry}
use Rattle.dwc_rules.proofs.ForestLaws.{Each}

-- ---- values under a name

-- the first value of a name
abbrev pub said : {A : Type 0} → ℕ → List (ℕ × A) → Option A
said name as' = option_map (λ a. a.1) (find (λ a. a.0 == name) as')

-- none of some has a name
abbrev pub AreOthers : {A : Type 0} → ℕ → List (ℕ × A) → Type 0
AreOthers name [] = Unit {0}
AreOthers name (a ∷ as') = ((a.0 == name) ≡ false) × AreOthers name as'

module _ {A : Type 0} (name : ℕ) where
  pub said-set : (v : A) (bs : List (ℕ × A)) → said name (set_attribute (name, v) bs) ≡ Some v
  said-set v [] = rw (eq-eqb name name refl) refl
  said-set v (b ∷ bs) = go (name == b.0) refl (said-set v bs)
    where
      go : (t : Bool) → (name == b.0) ≡ t → said name (set_attribute (name, v) bs) ≡ Some v → said name (if t then (name, v) ∷ bs else b ∷ set_attribute (name, v) bs) ≡ Some v
      go true same behind = rw (eq-eqb name name refl) refl
      go false apart behind =
          let other : (b.0 == name) ≡ false = false_from_ne_true (b.0 == name) (λ same. false≢true (sym apart ∙ eq-eqb name b.0 (sym (eqb-true b.0 name same)))) in
          rw other behind

  pub said-other : (a : ℕ × A) (bs : List (ℕ × A)) → (a.0 == name) ≡ false → said name (set_attribute a bs) ≡ said name bs
  said-other a [] other = rw other refl
  said-other a (b ∷ bs) other = go (a.0 == b.0) refl (said-other a bs other)
    where
      go : (t : Bool) → (a.0 == b.0) ≡ t → said name (set_attribute a bs) ≡ said name bs → said name (if t then a ∷ bs else b ∷ set_attribute a bs) ≡ option_map (λ c. c.1) (cond (b.0 == name) (Some b) (find (λ c. c.0 == name) bs))
      go true same behind =
          let second : (b.0 == name) ≡ false = subst (λ n. (n == name) ≡ false) (eqb-true a.0 b.0 same) other in
          rw (other, second) refl
      go false apart behind = here (b.0 == name)
        where
          here : (t : Bool) → option_map (λ c. c.1) (cond t (Some b) (find (λ c. c.0 == name) (set_attribute a bs))) ≡ option_map (λ c. c.1) (cond t (Some b) (find (λ c. c.0 == name) bs))
          here true = refl
          here false = behind

  said-others : (before others : List (ℕ × A)) → AreOthers name others → said name (fold (λ so_far a. set_attribute a so_far) before others) ≡ said name before
  said-others before [] h = refl
  said-others before (a ∷ others) h = said-others (set_attribute a before) others h.1 ∙ said-other a before h.0

  -- The last value of a name is what is said, and without one nothing is.
  said-last : (front others : List (ℕ × A)) (v : A) → AreOthers name others → said name (set_in_order (front ++ (name, v) ∷ others)) ≡ Some v
  said-last front others v h =
      ap (said name) (fold-append (λ so_far a. set_attribute a so_far) [] front ((name, v) ∷ others))
      ∙ said-others (set_attribute (name, v) (fold (λ so_far a. set_attribute a so_far) [] front)) others h
      ∙ said-set v (fold (λ so_far a. set_attribute a so_far) [] front)

  said-none : (all : List (ℕ × A)) → AreOthers name all → said name (set_in_order all) ≡ None
  said-none all h = said-others [] all h

  others-both : (xs ys : List (ℕ × A)) → AreOthers name xs → AreOthers name ys → AreOthers name (xs ++ ys)
  others-both [] ys h k = k
  others-both (x ∷ xs) ys h k = (h.0, others-both xs ys h.1 k)

-- ---- names that are kept

-- what is settled has the name that it had
pub settled-others : (name : ℕ) (places : Goal → Option (ℕ × ℕ)) (as' : List (ℕ × DraftValue)) → AreOthers name as' → AreOthers name (filter_map (settled places) as')
settled-others name places [] h = tt
settled-others name places ((own, done v) ∷ as') h = (h.0, settled-others name places as' h.1)
settled-others name places ((own, goes_to goal) ∷ as') h = go (places goal) (settled-others name places as' h.1)
  where
    go : (o : Option (ℕ × ℕ)) → AreOthers name (filter_map (settled places) as') → AreOthers name (cons_option (option_map (λ v. (own, v)) (option_map (λ p. entry p.0 p.1) o)) (filter_map (settled places) as'))
    go None behind = behind
    go (Some p) behind = (h.0, behind)

made-others : (name : ℕ) (rs : List (ℕ × Result (Option DraftValue) Refusal)) → AreOthers name rs → AreOthers name (filter_map (λ a. if_made a.0 a.1) rs)
made-others name [] h = tt
made-others name ((own, Ok (Some v)) ∷ rs) h = (h.0, made-others name rs h.1)
made-others name ((own, Ok None) ∷ rs) h = made-others name rs h.1
made-others name ((own, Err refusal) ∷ rs) h = made-others name rs h.1

-- attributes without a name are others
without : (name : ℕ) (as' : List (ℕ × Value)) → has_name name as' ≡ false → AreOthers name as'
without name [] h = tt
without name (a ∷ as') h = go (a.0 == name) refl h (λ none. without name as' none)
  where
    go : (t : Bool) → (a.0 == name) ≡ t → (t || has_name name as') ≡ false → (has_name name as' ≡ false → AreOthers name as') → ((a.0 == name) ≡ false) × AreOthers name as'
    go true is none behind = absurd (true≢false none)
    go false is none behind = (is, behind none)

become-others : (rules : CodeRules Refusal) (s : UnitSource) (e : Placed) (name : ℕ) (before as' : List (ℕ × Value)) → AreOthers name as' → AreOthers name (attributes_become rules s e before as')
unfolding attributes_become
become-others rules s e name before [] h = tt
become-others rules s e name before (a ∷ as') h = (h.0, become-others rules s e name (before ++ (a ∷ [])) as' h.1)

pub become-both : (rules : CodeRules Refusal) (s : UnitSource) (e : Placed) (before front behind : List (ℕ × Value)) → attributes_become rules s e before (front ++ behind) ≡ attributes_become rules s e before front ++ attributes_become rules s e (before ++ front) behind
unfolding attributes_become
become-both rules s e before [] behind = ap (λ b. attributes_become rules s e b behind) (sym (append-nil before))
become-both rules s e before (a ∷ front) behind =
    ap (λ rs. (a.0, attribute_becomes rules s e before a) ∷ rs)
    (become-both rules s e (before ++ (a ∷ [])) front behind ∙ ap (λ b. attributes_become rules s e (before ++ (a ∷ [])) front ++ attributes_become rules s e b behind) (append_assoc before (a ∷ []) front))

-- ---- names of locations

-- what holds of each of some codes holds of one of them
pub one-of : (P : ℕ → Type 0) (codes : List ℕ) (name : ℕ) → is_one_of codes name ≡ true → Each P codes → P name
one-of P [] name h each = absurd (false≢true h)
one-of P (c ∷ cs) name h each = go (or_cases (c == name) (is_one_of cs name) h) (λ there. one-of P cs name there each.1)
  where
    go : ((c == name) ≡ true) ⊎ (is_one_of cs name ≡ true) → (is_one_of cs name ≡ true → P name) → P name
    go (inl same) behind = subst P (eqb-true c name same) each.0
    go (inr there) behind = behind there

-- a name that neither goes nor decides alone what becomes of a value, nor stands in an entry of the output for another reason
pub record IsPlain (name : ℕ) : Type 0 where
  pub stays : is_dropped_name name ≡ false
  pub lines : (name == DW_AT_stmt_list) ≡ false
  pub bound : is_bound_name name ≡ false
  pub low : (DW_AT_low_pc == name) ≡ false
  pub high : (DW_AT_high_pc == name) ≡ false
  pub ranges : (DW_AT_ranges == name) ≡ false
  pub order : (DW_AT_endianity == name) ≡ false

abbrev pub location_names : List ℕ
location_names = DW_AT_location ∷ DW_AT_string_length ∷ DW_AT_return_addr ∷ DW_AT_data_member_location ∷ DW_AT_frame_base ∷ DW_AT_segment ∷ DW_AT_static_link ∷ DW_AT_use_location ∷ DW_AT_vtable_elem_location ∷ []

pub location-plain : (name : ℕ) → is_location_name name ≡ true → IsPlain name
location-plain name named = one-of IsPlain location_names name named (record { stays = refl; lines = refl; bound = refl; low = refl; high = refl; ranges = refl; order = refl }, (record { stays = refl; lines = refl; bound = refl; low = refl; high = refl; ranges = refl; order = refl }, (record { stays = refl; lines = refl; bound = refl; low = refl; high = refl; ranges = refl; order = refl }, (record { stays = refl; lines = refl; bound = refl; low = refl; high = refl; ranges = refl; order = refl }, (record { stays = refl; lines = refl; bound = refl; low = refl; high = refl; ranges = refl; order = refl }, (record { stays = refl; lines = refl; bound = refl; low = refl; high = refl; ranges = refl; order = refl }, (record { stays = refl; lines = refl; bound = refl; low = refl; high = refl; ranges = refl; order = refl }, (record { stays = refl; lines = refl; bound = refl; low = refl; high = refl; ranges = refl; order = refl }, (record { stays = refl; lines = refl; bound = refl; low = refl; high = refl; ranges = refl; order = refl }, tt)))))))))

-- ---- the entry that is made of a kept one

-- what an attribute becomes as a value, if it becomes something; an entry that is referred to is none
abbrev pub value_made : Result (Option DraftValue) Refusal → Option TreeValue
value_made (Ok (Some (done v))) = Some v
value_made _ = None

-- what becomes something as a value alone
abbrev pub IsValue : Result (Option DraftValue) Refusal → Type 0
IsValue (Ok None) = Unit {0}
IsValue (Ok (Some (done v))) = Unit {0}
IsValue (Ok (Some (goes_to goal))) = ⊥
IsValue (Err refusal) = ⊥

-- An entry says under a name what something became; or nothing became of that, and what it says is what was there before, which is
-- nothing where the name was not.
abbrev pub SaysLast : Option TreeValue → Bool → Option TreeValue → Type 0
SaysLast (Some v) repeated told = told ≡ Some v
SaysLast None true told = Unit {0}
SaysLast None false told = told ≡ None

module _ (rules : CodeRules Refusal) (s : UnitSource) (big_endian : Bool) (e : Placed) (places : Goal → Option (ℕ × ℕ)) where
  endianity-others : (name : ℕ) → (DW_AT_endianity == name) ≡ false → AreOthers name (endianity big_endian e)
  endianity-others name apart = go (big_endian && (e.entry.tag == DW_TAG_base_type))
    where
      go : (b : Bool) → AreOthers name (if b then (DW_AT_endianity, done (constant DW_FORM_data1 DW_END_little)) ∷ [] else [])
      go true = (apart, tt)
      go false = tt

  -- what comes in front of an attribute, and what comes behind it
  abbrev in_front : List (ℕ × Value) → List (ℕ × DraftValue)
  in_front before = rules.bounds e ++ filter_map (λ a. if_made a.0 a.1) (attributes_become rules s e [] before)

  abbrev behind_it : List (ℕ × Value) → ℕ × Value → List (ℕ × Value) → List (ℕ × DraftValue)
  behind_it before a after = filter_map (λ a. if_made a.0 a.1) (attributes_become rules s e (before ++ (a ∷ [])) after) ++ endianity big_endian e

  made-parts : (before after : List (ℕ × Value)) (a : ℕ × Value) → e.entry.attributes ≡ before ++ a ∷ after
      → attributes_made rules s big_endian e ≡ in_front before ++ (option_to_list (if_made a.0 (attribute_becomes rules s e before a)) ++ behind_it before a after)
  unfolding attributes_made attributes_become
  made-parts before after a are =
      let made : List (ℕ × Result (Option DraftValue) Refusal) → List (ℕ × DraftValue) = λ rs. filter_map (λ x. if_made x.0 x.1) rs in
      let r = attribute_becomes rules s e before a in
      let front = attributes_become rules s e [] before in
      let rest = attributes_become rules s e (before ++ (a ∷ [])) after in
      let all : attributes_become rules s e [] e.entry.attributes ≡ front ++ (a.0, r) ∷ rest = ap (attributes_become rules s e []) are ∙ become-both rules s e [] before (a ∷ after) in
      let split : made (attributes_become rules s e [] e.entry.attributes) ≡ made front ++ (option_to_list (if_made a.0 r) ++ made rest) = ap made all ∙ filter_map-append (λ x. if_made x.0 x.1) front ((a.0, r) ∷ rest) ∙ ap (λ xs. made front ++ xs) (one-more (if_made a.0 r) (made rest)) in
      ap (λ xs. (rules.bounds e ++ xs) ++ endianity big_endian e) split
      ∙ append_assoc (rules.bounds e) (made front ++ (option_to_list (if_made a.0 r) ++ made rest)) (endianity big_endian e)
      ∙ ap (λ xs. rules.bounds e ++ xs) (append_assoc (made front) (option_to_list (if_made a.0 r) ++ made rest) (endianity big_endian e) ∙ ap (λ xs. made front ++ xs) (append_assoc (option_to_list (if_made a.0 r)) (made rest) (endianity big_endian e)))
      ∙ sym (append_assoc (rules.bounds e) (made front) (option_to_list (if_made a.0 r) ++ (made rest ++ endianity big_endian e)))
    where
      one-more : (o : Option (ℕ × DraftValue)) (xs : List (ℕ × DraftValue)) → cons_option o xs ≡ option_to_list o ++ xs
      one-more None xs = refl
      one-more (Some x) xs = refl

  -- The entry says what the last attribute of a plain name became, where no bound has that name.
  pub says-last : (before after : List (ℕ × Value)) (a : ℕ × Value) → e.entry.attributes ≡ before ++ a ∷ after → IsPlain a.0 → AreOthers a.0 (rules.bounds e) → has_name a.0 after ≡ false → IsValue (attribute_becomes rules s e before a)
      → SaysLast (value_made (attribute_becomes rules s e before a)) (has_name a.0 before) (value_of_entry a.0 (settled_entry places (draft_of rules s big_endian e)))
  says-last before after a are plain bounds last value =
      subst (λ as'. SaysLast (value_made (attribute_becomes rules s e before a)) (has_name a.0 before) (said a.0 (set_in_order (filter_map (settled places) as')))) (sym (made-parts before after a are))
      (go (attribute_becomes rules s e before a) value (has_name a.0 before) refl)
    where
      others : AreOthers a.0 (behind_it before a after)
      others = others-both a.0 (filter_map (λ x. if_made x.0 x.1) (attributes_become rules s e (before ++ (a ∷ [])) after)) (endianity big_endian e)
          (made-others a.0 (attributes_become rules s e (before ++ (a ∷ [])) after) (become-others rules s e a.0 (before ++ (a ∷ [])) after (without a.0 after last))) (endianity-others a.0 plain.order)

      front-others : has_name a.0 before ≡ false → AreOthers a.0 (in_front before)
      front-others none = others-both a.0 (rules.bounds e) (filter_map (λ x. if_made x.0 x.1) (attributes_become rules s e [] before)) bounds (made-others a.0 (attributes_become rules s e [] before) (become-others rules s e a.0 [] before (without a.0 before none)))

      go : (r : Result (Option DraftValue) Refusal) → IsValue r → (repeated : Bool) → has_name a.0 before ≡ repeated
          → SaysLast (value_made r) repeated (said a.0 (set_in_order (filter_map (settled places) (in_front before ++ (option_to_list (if_made a.0 r) ++ behind_it before a after)))))
      go (Err refusal) is repeated h = absurd is
      go (Ok (Some (goes_to goal))) is repeated h = absurd is
      go (Ok (Some (done v))) is repeated h =
          ap (λ xs. said a.0 (set_in_order xs)) (filter_map-append (settled places) (in_front before) ((a.0, done v) ∷ behind_it before a after))
          ∙ said-last a.0 (filter_map (settled places) (in_front before)) (filter_map (settled places) (behind_it before a after)) v (settled-others a.0 places (behind_it before a after) others)
      go (Ok None) is true h = tt
      go (Ok None) is false h = said-none a.0 (filter_map (settled places) (in_front before ++ behind_it before a after)) (settled-others a.0 places (in_front before ++ behind_it before a after) (others-both a.0 (in_front before) (behind_it before a after) (front-others h) others))
