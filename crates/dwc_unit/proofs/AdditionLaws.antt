-- Entries whose attributes stand in one list: what a change of one of them leaves.
use Rattle.std.proofs.Common.{◌≡◌, ℕ, zero, suc, ◌+◌, ◌<◌, ◌≤◌, ◌⊎◌, inl, inr, refl, sym, ap, subst, ◌∙◌, arith, List, [], ◌∷◌, ◌++◌, length, take, drop, get_or, set, map, Option, Some, None, Bool, true}
use Rattle.std.proofs.lemmas.List.{take_all, take_more, take_more_set, drop_more, drop-set-lt, drop-append-le, drop-set-add, get_or-drop, get_or-map, get_or_append_left, get_or_default, get_or-set_other, get_or-set_same, get_or-take, length-append, length-drop, length-map, length-set, length-take-le, same_lists, set-get_or}
use Rattle.std.proofs.Math.Seq.{get_or-append_seam, take-append-add, take-set-lt}
use Rattle.dwc_unit.specs.declared.additions.Entry.{Entry}
use Rattle.dwc_unit.specs.declared.attributes.Attribute.{Attribute}
use Rattle.dwc_unit.specs.declared.attributes.AttributeValue.{AttributeValue}
use Rattle.dwc_unit.specs.GivenUnits.{Addition, set_attribute, set_in, set_in_addition}
use Rattle.dwc_unit.specs.AttributePlaces.{place_from}
use Rattle.dwc_unit.proofs.AttributeLaws.{set-behind, set-here, within}
use Rattle.dwc_unit.specs.UnitViews.{AreApart, AreHeld, AreOthersKept, AreOwned, IsChanged, IsOwnWithin, IsPartChanged, addition_in, attributes_in, part_of}

-- ---- parts

part-length : (begin count : ℕ) (xs : List Attribute) → begin + count ≤ length xs → length (part_of begin count xs) ≡ count
part-length begin count xs within = length-take-le count (drop begin xs) (omega (arith, within, length-drop begin xs))

part-at : (begin count : ℕ) (xs : List Attribute) (i : ℕ) (d : Attribute) → i < count → get_or (part_of begin count xs) i d ≡ get_or xs (begin + i) d
part-at begin count xs i d low = get_or-take count (drop begin xs) i d low ∙ get_or-drop begin xs i d

part-same : (begin count : ℕ) (xs ys : List Attribute) → begin + count ≤ length xs → begin + count ≤ length ys → ((i : ℕ) (d : Attribute) → begin ≤ i → i < begin + count → get_or ys i d ≡ get_or xs i d)
    → part_of begin count ys ≡ part_of begin count xs
part-same begin count xs ys in_xs in_ys same =
    same_lists (part_of begin count ys) (part_of begin count xs) (part-length begin count ys in_ys ∙ sym (part-length begin count xs in_xs)) (λ k d low.
    let few : k < count = omega (arith, low, part-length begin count ys in_ys) in
    part-at begin count ys k d few ∙ same (begin + k) d (omega arith) (omega (arith, few)) ∙ sym (part-at begin count xs k d few))

part-set : (begin count place : ℕ) (xs : List Attribute) (a : Attribute) → place < count → part_of begin count (set xs (begin + place) a) ≡ set (part_of begin count xs) place a
part-set begin count place xs a low = ap (take count) (drop-set-add begin xs place a) ∙ take-set-lt count (drop begin xs) place a low

part-push : (begin count : ℕ) (xs : List Attribute) (a : Attribute) → begin + count ≡ length xs → part_of begin (count + 1) (xs ++ a ∷ []) ≡ part_of begin count xs ++ a ∷ []
part-push begin count xs a last =
    let left = drop begin xs in
    let many : length left ≡ count = omega (arith, last, length-drop begin xs) in
    ap (take (count + 1)) (drop-append-le begin xs (a ∷ []) (omega (arith, last)))
    ∙ ap (λ n. take (n + 1) (left ++ a ∷ [])) (sym many)
    ∙ take-append-add left (a ∷ []) 1
    ∙ ap (λ ys. ys ++ a ∷ []) (sym (take_all count left (omega (arith, many))))

-- ---- an entry

pub shared-of : (xs : List Attribute) (os : List (List Attribute)) (e : Entry) → e.own ≡ None → attributes_in xs os e ≡ part_of e.begin e.count xs
shared-of xs os e none = rw (none, attributes_in) refl

own-of : (xs : List Attribute) (os : List (List Attribute)) (e : Entry) (place : ℕ) → e.own ≡ Some place → attributes_in xs os e ≡ get_or os place []
own-of xs os e place some = rw (some, attributes_in) refl

abbrev with_attributes : Entry → List Attribute → Addition
with_attributes e given = record { parent = e.parent; tag = e.tag; attributes = given }

-- The list of an entry's own, where it has one, is the same.
abbrev IsOwnSame : List (List Attribute) → List (List Attribute) → Entry → Type 0
IsOwnSame os ps e = (place : ℕ) → e.own ≡ Some place → get_or ps place [] ≡ get_or os place []

entry-same : (xs ys : List Attribute) (os ps : List (List Attribute)) (e : Entry) → part_of e.begin e.count ys ≡ part_of e.begin e.count xs → IsOwnSame os ps e → addition_in ys ps e ≡ addition_in xs os e
entry-same xs ys os ps e same own = ap (λ (given : List Attribute). with_attributes e given) (go e.own own)
  where
    go : (o : Option ℕ) → ((place : ℕ) → o ≡ Some place → get_or ps place [] ≡ get_or os place [])
        → ◌≡◌ {A = List Attribute} (elim o [ None ↦ part_of e.begin e.count ys | Some place ↦ get_or ps place [] ]) (elim o [ None ↦ part_of e.begin e.count xs | Some place ↦ get_or os place [] ])
    go None own = same
    go (Some place) own = own place refl

-- ---- parts one behind another

pub apart-bound : (from : ℕ) (xs : List Attribute) (es : List Entry) → AreApart from xs es → from ≤ length xs
apart-bound from xs [] apart = apart
apart-bound from xs (e ∷ es) apart = let there = apart-bound (e.begin + e.count) xs es apart.1 in let here = apart.0 in omega (arith, here, there)

pub apart-longer : (from : ℕ) (xs ys : List Attribute) (es : List Entry) → length xs ≤ length ys → AreApart from xs es → AreApart from ys es
apart-longer from xs ys [] longer apart = omega (arith, longer, apart)
apart-longer from xs ys (e ∷ es) longer apart = (apart.0, apart-longer (e.begin + e.count) xs ys es longer apart.1)

apart-at : (from place : ℕ) (xs : List Attribute) (es : List Entry) (d : Entry) → AreApart from xs es → place < length es → from ≤ (get_or es place d).begin
apart-at from place xs [] d apart inside = absurd (omega arith)
apart-at from zero xs (e ∷ es) d apart inside = apart.0
apart-at from (suc place) xs (e ∷ es) d apart inside = let there = apart-at (e.begin + e.count) place xs es d apart.1 (omega arith) in let here = apart.0 in omega (arith, here, there)

apart-behind : (from place : ℕ) (xs : List Attribute) (es : List Entry) (d : Entry) → AreApart from xs es → place < length es → AreApart ((get_or es place d).begin + (get_or es place d).count) xs (drop (suc place) es)
apart-behind from place xs [] d apart inside = absurd (omega arith)
apart-behind from zero xs (e ∷ es) d apart inside = apart.1
apart-behind from (suc place) xs (e ∷ es) d apart inside = apart-behind (e.begin + e.count) place xs es d apart.1 (omega arith)

-- a part ends within
pub part-within : (from place : ℕ) (xs : List Attribute) (es : List Entry) (e d : Entry) → AreApart from xs es → place < length es → e ≡ get_or es place d → e.begin + e.count ≤ length xs
part-within from place xs es e d apart inside is =
    subst (λ (x : Entry). x.begin + x.count ≤ length xs) (sym is) (apart-bound ((get_or es place d).begin + (get_or es place d).count) xs (drop (suc place) es) (apart-behind from place xs es d apart inside))

-- ---- an entry more

pub apart-push : (from : ℕ) (xs : List Attribute) (es : List Entry) (e : Entry) → AreApart from xs es → e.begin ≡ length xs → e.count ≡ 0 → AreApart from xs (es ++ e ∷ [])
apart-push from xs [] e apart last none = (omega (arith, apart, last), omega (arith, last, none))
apart-push from xs (x ∷ es) e apart last none = (apart.0, apart-push (x.begin + x.count) xs es e apart.1 last none)

-- ---- lists of entries' own

own-push : (i place : ℕ) (es : List Entry) (e d : Entry) → e.own ≡ None → i < length (es ++ e ∷ []) → (get_or (es ++ e ∷ []) i d).own ≡ Some place → (i < length es) × ((get_or es i d).own ≡ Some place)
own-push zero place [] e d none inside is = absurd (cc)
own-push (suc i) place [] e d none inside is = absurd (omega arith)
own-push zero place (x ∷ es) e d none inside is = (omega arith, is)
own-push (suc i) place (x ∷ es) e d none inside is = let there = own-push i place es e d none (omega arith) is in let low = there.0 in (omega (arith, low), there.1)

-- an entry more has no list of its own
pub owned-push : (many : ℕ) (es : List Entry) (e : Entry) → AreOwned many es → e.own ≡ None → AreOwned many (es ++ e ∷ [])
owned-push many es e owned none = record {
  within = λ i d inside place is. let there = own-push i place es e d none inside is in owned.within i d there.0 place there.1;
  apart = λ i j place d low high is there. let a = own-push i place es e d none low is in let b = own-push j place es e d none high there in owned.apart i j place d a.0 b.0 a.1 b.1;
}

own-set : (i at place : ℕ) (es : List Entry) (e d : Entry) → i < length (set es at e) → (get_or (set es at e) i d).own ≡ Some place → ((i ≡ at) × (e.own ≡ Some place)) ⊎ ((i ≡ at → ⊥) × ((i < length es) × ((get_or es i d).own ≡ Some place)))
own-set i at place [] e d inside is = absurd (omega arith)
own-set zero zero place (x ∷ es) e d inside is = inl (refl, is)
own-set (suc i) zero place (x ∷ es) e d inside is = inr ((λ same. omega (arith, same)), (inside, is))
own-set zero (suc at) place (x ∷ es) e d inside is = inr ((λ same. omega (arith, same)), (omega arith, is))
own-set (suc i) (suc at) place (x ∷ es) e d inside is = go (own-set i at place es e d (omega arith) is)
  where
    go : ((i ≡ at) × (e.own ≡ Some place)) ⊎ ((i ≡ at → ⊥) × ((i < length es) × ((get_or es i d).own ≡ Some place))) → ((suc i ≡ suc at) × (e.own ≡ Some place)) ⊎ ((suc i ≡ suc at → ⊥) × ((suc i < length (x ∷ es)) × ((get_or es i d).own ≡ Some place)))
    go (inl here) = inl (ap suc here.0, here.1)
    go (inr there) = let low = there.1.0 in inr ((λ same. there.0 (omega (arith, same))), (omega (arith, low), there.1.1))

some-same : (a b : ℕ) (o : Option ℕ) → o ≡ Some a → o ≡ Some b → a ≡ b
some-same a b None first second = absurd (cc)
some-same a b (Some c) first second = cc

pub own-within : (many place : ℕ) (es : List Entry) (e : Entry) → AreOwned many es → place < length es → e ≡ get_or es place e → IsOwnWithin many e
own-within many place es e owned inside is = subst (IsOwnWithin many) (sym is) (owned.within place e inside)

-- the changed entry's list is its own alone, at a place that it had, or at a new one
owned-other : (many j at place : ℕ) (es : List Entry) (e e' d : Entry) → AreOwned many es → at < length es → e ≡ get_or es at d → (e'.own ≡ e.own) ⊎ (e'.own ≡ Some many) → e'.own ≡ Some place → (j ≡ at → ⊥) → j < length es → (get_or es j d).own ≡ Some place → ⊥
owned-other many j at place es e e' d owned inside is (inl same) here other low there =
    other (sym (owned.apart at j place d inside low (ap (λ (y : Entry). y.own) (sym is) ∙ sym same ∙ here) there))
owned-other many j at place es e e' d owned inside is (inr fresh) here other low there =
    let place_is = some-same place many e'.own here fresh in
    let below = owned.within j d low place there in
    omega (arith, place_is, below)

owned-set : (many more at : ℕ) (es : List Entry) (e e' : Entry) → AreOwned many es → at < length es → e ≡ get_or es at e → many ≤ more → (e'.own ≡ e.own) ⊎ ((e'.own ≡ Some many) × (many < more)) → AreOwned more (set es at e')
owned-set many more at es e e' owned inside is longer changed = record {
  within = λ i d low place own. within_all i place d (own-set i at place es e' d low own);
  apart = λ i j place d low high own there. apart_all i j place d (own-set i at place es e' d low own) (own-set j at place es e' d high there);
}
  where
    is_at : (d : Entry) → e ≡ get_or es at d
    is_at d = is ∙ get_or_default es at e d inside

    place_of_changed : (e'.own ≡ e.own) ⊎ ((e'.own ≡ Some many) × (many < more)) → (e'.own ≡ e.own) ⊎ (e'.own ≡ Some many)
    place_of_changed (inl same) = inl same
    place_of_changed (inr fresh) = inr fresh.0

    within_changed : (place : ℕ) → e'.own ≡ Some place → (e'.own ≡ e.own) ⊎ ((e'.own ≡ Some many) × (many < more)) → place < more
    within_changed place own (inl same) = let low = owned.within at e inside place (ap (λ (y : Entry). y.own) (sym is) ∙ sym same ∙ own) in omega (arith, low, longer)
    within_changed place own (inr fresh) = let place_is = some-same place many e'.own own fresh.0 in let low = fresh.1 in omega (arith, place_is, low)

    within_all : (i place : ℕ) (d : Entry) → ((i ≡ at) × (e'.own ≡ Some place)) ⊎ ((i ≡ at → ⊥) × ((i < length es) × ((get_or es i d).own ≡ Some place))) → place < more
    within_all i place d (inl here) = within_changed place here.1 changed
    within_all i place d (inr there) = let low = owned.within i d there.1.0 place there.1.1 in omega (arith, low, longer)

    apart_all : (i j place : ℕ) (d : Entry) → ((i ≡ at) × (e'.own ≡ Some place)) ⊎ ((i ≡ at → ⊥) × ((i < length es) × ((get_or es i d).own ≡ Some place)))
        → ((j ≡ at) × (e'.own ≡ Some place)) ⊎ ((j ≡ at → ⊥) × ((j < length es) × ((get_or es j d).own ≡ Some place))) → i ≡ j
    apart_all i j place d (inl a) (inl b) = a.0 ∙ sym b.0
    apart_all i j place d (inl a) (inr b) = absurd (owned-other many j at place es e e' d owned inside (is_at d) (place_of_changed changed) a.1 b.0 b.1.0 b.1.1)
    apart_all i j place d (inr a) (inl b) = absurd (owned-other many i at place es e e' d owned inside (is_at d) (place_of_changed changed) b.1 a.0 a.1.0 a.1.1)
    apart_all i j place d (inr a) (inr b) = owned.apart i j place d a.1.0 b.1.0 a.1.1 b.1.1

-- ---- one that changes

others-behind : (is_last : Bool) (e e' d : Entry) (xs ys : List Attribute) (os ps : List (List Attribute)) (from : ℕ) (es : List Entry) → IsChanged is_last e xs os e' ys ps → e.begin + e.count ≤ from → AreApart from xs es
    → ((i : ℕ) → i < length es → IsOwnSame os ps (get_or es i d)) → map (addition_in ys ps) es ≡ map (addition_in xs os) es
others-behind is_last e e' d xs ys os ps from [] changed low apart owns = refl
others-behind is_last e e' d xs ys os ps from (x ∷ es) changed low apart owns =
    let bound = apart-bound (x.begin + x.count) xs es apart.1 in
    let here = apart.0 in
    let longer = changed.longer in
    let same = part-same x.begin x.count xs ys bound (omega (arith, bound, longer)) (λ i d more less. changed.outside i d (omega (arith, less, bound)) (inr (omega (arith, low, here, more)))) in
    ap (λ y. y ∷ map (addition_in ys ps) es) (entry-same xs ys os ps x same (owns 0 (omega arith)))
    ∙ ap (λ ys. addition_in xs os x ∷ ys) (others-behind is_last e e' d xs ys os ps (x.begin + x.count) es changed (omega (arith, low, here)) apart.1 (λ i inside. owns (suc i) (omega (arith, inside))))

-- What the change of the entry at a place leaves.
pub record Leaves (from place : ℕ) (xs ys : List Attribute) (os ps : List (List Attribute)) (es : List Entry) (e' : Entry) : Type 0 where
  pub apart : AreApart from ys (set es place e')
  pub view : map (addition_in ys ps) (set es place e') ≡ set (map (addition_in xs os) es) place (addition_in ys ps e')

leaves : (is_last : Bool) (from place : ℕ) (xs ys : List Attribute) (os ps : List (List Attribute)) (es : List Entry) (d e e' : Entry) → AreApart from xs es → place < length es → e ≡ get_or es place d → IsChanged is_last e xs os e' ys ps
    → ((i : ℕ) → i < length es → (i ≡ place → ⊥) → IsOwnSame os ps (get_or es i d)) → AreApart (e.begin + e'.count) ys (drop (suc place) es) → Leaves from place xs ys os ps es e'
leaves is_last from place xs ys os ps [] d e e' apart inside is changed owns rest = absurd (omega arith)
leaves is_last from zero xs ys os ps (x ∷ es) d e e' apart inside is changed owns rest =
    let begin = changed.begin in
    let same = ap (λ (y : Entry). y.begin) is in
    let here = apart.0 in
    record {
      apart = (omega (arith, begin, same, here), subst (λ n. AreApart (n + e'.count) ys es) (sym begin) rest);
      view = ap (λ zs. addition_in ys ps e' ∷ zs)
          (others-behind is_last e e' d xs ys os ps (x.begin + x.count) es changed (omega (arith, ap (λ (y : Entry). y.begin + y.count) is)) apart.1 (λ i low. owns (suc i) (omega (arith, low)) (λ none. omega (arith, none))));
    }
leaves is_last from (suc place) xs ys os ps (x ∷ es) d e e' apart inside is changed owns rest =
    let low = subst (λ (y : Entry). x.begin + x.count ≤ y.begin) (sym is) (apart-at (x.begin + x.count) place xs es d apart.1 (omega arith)) in
    let bound = apart-bound (x.begin + x.count) xs es apart.1 in
    let longer = changed.longer in
    let same = part-same x.begin x.count xs ys bound (omega (arith, bound, longer)) (λ i d more less. changed.outside i d (omega (arith, less, bound)) (inl (omega (arith, less, low)))) in
    let others = leaves is_last (x.begin + x.count) place xs ys os ps es d e e' apart.1 (omega arith) is changed (λ i less other. owns (suc i) (omega (arith, less)) (λ both. other (omega (arith, both)))) rest in
    record {
      apart = (apart.0, others.apart);
      view = ap (λ y. y ∷ map (addition_in ys ps) (set es place e')) (entry-same xs ys os ps x same (owns 0 (omega arith) (λ none. omega (arith, none)))) ∙ ap (λ zs. addition_in xs os x ∷ zs) others.view;
    }

none-behind : {A : Type 0} (xs : List A) (n : ℕ) → length xs ≤ n → drop n xs ≡ []
none-behind [] zero past = refl
none-behind [] (suc n) past = refl
none-behind (x ∷ xs) zero past = absurd (omega arith)
none-behind (x ∷ xs) (suc n) past = none-behind xs n (omega arith)

set-at : (place name : ℕ) (value : AttributeValue) (es : List Addition) (d : Addition) → set es place (set_in_addition name value (get_or es place d)) ≡ set_in place name value es
set-at place name value [] d = refl
set-at zero name value (a ∷ es) d = refl
set-at (suc place) name value (a ∷ es) d = ap (λ xs. a ∷ xs) (set-at place name value es d)

-- What the change of an entry leaves of all, where a value is set in it, and where none is.
pub record LeavesAll (place : ℕ) (xs ys : List Attribute) (os ps : List (List Attribute)) (es : List Entry) (e e' : Entry) (given : List Addition) : Type 0 where
  pub held : AreHeld ys (length ps) (set es place e')
  pub ok : (name : ℕ) (value : AttributeValue) → addition_in ys ps e' ≡ set_in_addition name value (addition_in xs os e) → map (addition_in ys ps) (set es place e') ≡ set_in place name value given
  pub err : addition_in ys ps e' ≡ addition_in xs os e → map (addition_in ys ps) (set es place e') ≡ given

pub leaves-all : (is_last : Bool) (place : ℕ) (xs ys : List Attribute) (os ps : List (List Attribute)) (es : List Entry) (e e' : Entry) (given : List Addition) → map (addition_in xs os) es ≡ given → AreHeld xs (length os) es → place < length given
    → e ≡ get_or es place e → (is_last ≡ true → length given ≡ place + 1) → IsChanged is_last e xs os e' ys ps → LeavesAll place xs ys os ps es e e' given
leaves-all is_last place xs ys os ps es e e' given viewed held low is last changed =
    let many : length es ≡ length given = sym (length-map es (addition_in xs os)) ∙ ap length viewed in
    let inside : place < length es = omega (arith, low, many) in
    let left = leaves is_last 0 place xs ys os ps es e e e' held.apart inside is changed (λ i less other. owns inside i less other) (go many changed.count inside) in
    let at : addition_in xs os e ≡ get_or given place (addition_in xs os e) = ap (addition_in xs os) is ∙ sym (get_or-map (addition_in xs os) es place e (addition_in xs os e) inside) ∙ ap (λ zs. get_or zs place (addition_in xs os e)) viewed in
    let now = left.view ∙ ap (λ zs. set zs place (addition_in ys ps e')) viewed in
    record {
      held = record { apart = left.apart; owned = owned-set (length os) (length ps) place es e e' held.owned inside is changed.more changed.owned };
      ok = λ name value there. now ∙ ap (set given place) (there ∙ ap (set_in_addition name value) at) ∙ set-at place name value given (addition_in xs os e);
      err = λ same. now ∙ ap (set given place) (same ∙ at) ∙ set-get_or given place (addition_in xs os e);
    }
  where
    go : length es ≡ length given → (e'.count ≡ e.count) ⊎ ((is_last ≡ true) × (e.begin + e'.count ≤ length ys)) → place < length es → AreApart (e.begin + e'.count) ys (drop (suc place) es)
    go many (inl same) inside = subst (λ n. AreApart (e.begin + n) ys (drop (suc place) es)) (sym same) (subst (λ (y : Entry). AreApart (y.begin + y.count) ys (drop (suc place) es)) (sym is)
        (apart-longer ((get_or es place e).begin + (get_or es place e).count) xs ys (drop (suc place) es) changed.longer (apart-behind 0 place xs es e held.apart inside)))
    go many (inr grown) inside = subst (λ (zs : List Entry). AreApart (e.begin + e'.count) ys zs) (sym (none-behind es (suc place) (omega (arith, last grown.0, many)))) grown.1

    owns : place < length es → (i : ℕ) → i < length es → (i ≡ place → ⊥) → IsOwnSame os ps (get_or es i e)
    owns inside i less other = λ k own. changed.others k (held.owned.within i e less k own) (λ same. other (held.owned.apart i place k e less inside own (ap (λ (y : Entry). y.own) (sym is) ∙ same)))

-- ---- how an entry changes

-- nothing changes
pub unchanged : (is_last : Bool) (e : Entry) (xs : List Attribute) (os : List (List Attribute)) → IsChanged is_last e xs os e xs os
unchanged is_last e xs os = record { begin = refl; count = inl refl; longer = omega arith; outside = λ i d less apart. refl; owned = inl refl; more = omega arith; others = λ i less other. refl }

-- a value in the place of another of its name
pub replaced : (is_last : Bool) (e : Entry) (xs : List Attribute) (os : List (List Attribute)) (place name : ℕ) (value : AttributeValue) → e.begin + e.count ≤ length xs → place_from 0 (part_of e.begin e.count xs) name ≡ Some place
    → IsChanged is_last e xs os e (set xs (e.begin + place) (record { name = name; value = value })) os
replaced is_last e xs os place name value inside found =
    let low = within (part_of e.begin e.count xs) name place found in
    let many = part-length e.begin e.count xs inside in
    record {
      begin = refl;
      count = inl refl;
      longer = omega (arith, length-set xs (e.begin + place) (record { name = name; value = value }));
      outside = λ i d less apart. get_or-set_other xs (e.begin + place) i (record { name = name; value = value }) d (λ same. go i same apart (omega (arith, low, many)));
      owned = inl refl;
      more = omega arith;
      others = λ i less other. refl;
    }
  where
    go : (i : ℕ) → i ≡ e.begin + place → (i < e.begin) ⊎ (e.begin + e.count ≤ i) → place < e.count → ⊥
    go i same (inl less) low = omega (arith, same, less, low)
    go i same (inr more) low = omega (arith, same, more, low)

pub replaced-view : (e : Entry) (xs : List Attribute) (os : List (List Attribute)) (place name : ℕ) (value : AttributeValue) → e.own ≡ None → e.begin + e.count ≤ length xs → place_from 0 (part_of e.begin e.count xs) name ≡ Some place
    → addition_in (set xs (e.begin + place) (record { name = name; value = value })) os e ≡ set_in_addition name value (addition_in xs os e)
replaced-view e xs os place name value none inside found =
    let a : Attribute = record { name = name; value = value } in
    let low = within (part_of e.begin e.count xs) name place found in
    ap (with_attributes e)
    (shared-of (set xs (e.begin + place) a) os e none ∙ part-set e.begin e.count place xs a (omega (arith, low, part-length e.begin e.count xs inside)) ∙ set-here name value (part_of e.begin e.count xs) place found ∙ ap (set_attribute name value) (sym (shared-of xs os e none)))

-- a value of a new name behind all
pub added-view : (e : Entry) (xs : List Attribute) (os : List (List Attribute)) (name : ℕ) (value : AttributeValue) → e.own ≡ None → e.begin + e.count ≡ length xs → place_from 0 (part_of e.begin e.count xs) name ≡ None
    → addition_in (xs ++ record { name = name; value = value } ∷ []) os (record { parent = e.parent; begin = e.begin; own = e.own; tag = e.tag; count = e.count + 1 }) ≡ set_in_addition name value (addition_in xs os e)
added-view e xs os name value none last new =
    let a : Attribute = record { name = name; value = value } in
    let grown : Entry = record { parent = e.parent; begin = e.begin; own = e.own; tag = e.tag; count = e.count + 1 } in
    ap (with_attributes e) (shared-of (xs ++ a ∷ []) os grown none ∙ part-push e.begin e.count xs a last ∙ set-behind name value (part_of e.begin e.count xs) new ∙ ap (set_attribute name value) (sym (shared-of xs os e none)))

-- a value in a list of the entry's own
pub own-view : (e : Entry) (xs : List Attribute) (os ps : List (List Attribute)) (place name : ℕ) (value : AttributeValue) → e.own ≡ Some place → get_or ps place [] ≡ set_attribute name value (get_or os place []) → addition_in xs ps e ≡ set_in_addition name value (addition_in xs os e)
own-view e xs os ps place name value own there = ap (with_attributes e) (own-of xs ps e place own ∙ there ∙ ap (set_attribute name value) (sym (own-of xs os e place own)))

pub own-stays : (e : Entry) (xs : List Attribute) (os ps : List (List Attribute)) (place : ℕ) → e.own ≡ Some place → get_or ps place [] ≡ get_or os place [] → addition_in xs ps e ≡ addition_in xs os e
own-stays e xs os ps place own there = ap (with_attributes e) (own-of xs ps e place own ∙ there ∙ sym (own-of xs os e place own))

-- a further change of an entry, in the list of its own alone
pub changed-on : (is_last : Bool) (e e' : Entry) (xs ys : List Attribute) (os ps qs : List (List Attribute)) (place : ℕ) → IsChanged is_last e xs os e' ys ps → e'.own ≡ Some place → AreOthersKept place ps qs → IsChanged is_last e xs os e' ys qs
changed-on is_last e e' xs ys os ps qs place changed own kept =
    let many = kept.many in
    let long = changed.more in
    record {
      begin = changed.begin;
      count = changed.count;
      longer = changed.longer;
      outside = changed.outside;
      owned = go changed.owned;
      more = omega (arith, many, long);
      others = λ i less other. kept.others i (λ same. apart i less other same changed.owned) ∙ changed.others i less other;
    }
  where
    go : (e'.own ≡ e.own) ⊎ ((e'.own ≡ Some (length os)) × (length os < length ps)) → (e'.own ≡ e.own) ⊎ ((e'.own ≡ Some (length os)) × (length os < length qs))
    go (inl same) = inl same
    go (inr fresh) = let low = fresh.1 in let many = kept.many in inr (fresh.0, omega (arith, low, many))

    apart : (i : ℕ) → i < length os → (e.own ≡ Some i → ⊥) → i ≡ place → (e'.own ≡ e.own) ⊎ ((e'.own ≡ Some (length os)) × (length os < length ps)) → ⊥
    apart i less other same (inl stays) = other (sym stays ∙ own ∙ ap Some (sym same))
    apart i less other same (inr fresh) = let there = some-same place (length os) e'.own own fresh.0 in omega (arith, same, there, less)

-- the attributes of an entry are moved into a list of its own, which is a new one
pub made-own : (is_last : Bool) (e : Entry) (xs ys : List Attribute) (os ps : List (List Attribute)) (list : List Attribute) (place : ℕ) → IsPartChanged e xs ys → place ≡ length os → ps ≡ os ++ list ∷ []
    → IsChanged is_last e xs os (record { parent = e.parent; begin = e.begin; own = Some place; tag = e.tag; count = e.count }) ys ps
made-own is_last e xs ys os ps list place changed last pushed =
    let many = changed.many in
    let long : length ps ≡ length os + 1 = ap length pushed ∙ omega (arith, length-append os (list ∷ [])) in
    record {
      begin = refl;
      count = inl refl;
      longer = omega (arith, many);
      outside = changed.outside;
      owned = inr (ap Some last, omega (arith, long));
      more = omega (arith, long);
      others = λ i less other. ap (λ zs. get_or zs i []) pushed ∙ get_or_append_left os (list ∷ []) [] i less;
    }

pub made-view : (e : Entry) (xs ys : List Attribute) (os ps : List (List Attribute)) (list : List Attribute) (place : ℕ) → e.own ≡ None → list ≡ part_of e.begin e.count xs → place ≡ length os → ps ≡ os ++ list ∷ []
    → addition_in ys ps (record { parent = e.parent; begin = e.begin; own = Some place; tag = e.tag; count = e.count }) ≡ addition_in xs os e
made-view e xs ys os ps list place none moved last pushed =
    ap (with_attributes e) (ap (λ zs. get_or zs place []) pushed ∙ ap (λ n. get_or (os ++ list ∷ []) n []) last ∙ get_or-append_seam os list [] [] ∙ moved ∙ sym (shared-of xs os e none))

-- the list at a place is changed
pub own-put : (os : List (List Attribute)) (place : ℕ) (x d : List Attribute) → place < length os → d ≡ get_or os place d → (f : List Attribute → List Attribute) → x ≡ f d → get_or (set os place x) place [] ≡ f (get_or os place [])
own-put os place x d inside is f changed = get_or-set_same os place x [] inside ∙ changed ∙ ap f (is ∙ get_or_default os place d [] inside)

-- the lists but one stay where it is changed
pub others-kept : (place : ℕ) (os : List (List Attribute)) (x : List Attribute) → AreOthersKept place os (set os place x)
others-kept place os x = record { many = length-set os place x; others = λ i other. get_or-set_other os place i x [] other }

-- ---- attributes that are moved

-- The first of some attributes are moved, and the others stand where they were.
pub record AreMoved (i : ℕ) (from to at_first : List Attribute) : Type 0 where
  pub many : length from ≡ length at_first
  pub room : length to ≡ length at_first
  pub moved : take i to ≡ take i at_first
  pub left : drop i from ≡ drop i at_first

pub move-more : (i : ℕ) (from to at_first : List Attribute) (x y d : Attribute) → i < length to → x ≡ get_or from i d → AreMoved i from to at_first → AreMoved (i + 1) (set from i y) (set to i x) at_first
move-more i from to at_first x y d inside is h =
    let many = h.many in
    let room = h.room in
    let here : get_or from i d ∷ drop (i + 1) from ≡ get_or at_first i d ∷ drop (i + 1) at_first = sym (drop_more from i d (omega (arith, inside, many, room))) ∙ h.left ∙ drop_more at_first i d (omega (arith, inside, room)) in
    record {
      many = length-set from i y ∙ many;
      room = length-set to i x ∙ room;
      moved = take_more_set to i x inside ∙ ap (λ zs. zs ++ x ∷ []) h.moved ∙ ap (λ z. take i at_first ++ z ∷ []) (is ∙ ap (λ zs. get_or zs 0 d) here) ∙ sym (take_more at_first i d (omega (arith, inside, room)));
      left = drop-set-lt (i + 1) from i y (omega arith) ∙ ap (drop 1) here;
    }

pub all-moved : (i : ℕ) (from to at_first : List Attribute) → length to ≤ i → AreMoved i from to at_first → to ≡ at_first
all-moved i from to at_first past h = let room = h.room in sym (take_all i to past) ∙ h.moved ∙ take_all i at_first (omega (arith, past, room))

-- a place that is found stands in the part
pub found-low : (e : Entry) (xs : List Attribute) (place name : ℕ) → e.begin + e.count ≤ length xs → place_from 0 (part_of e.begin e.count xs) name ≡ Some place → place < e.count
found-low e xs place name inside found = let low = within (part_of e.begin e.count xs) name place found in omega (arith, low, part-length e.begin e.count xs inside)
