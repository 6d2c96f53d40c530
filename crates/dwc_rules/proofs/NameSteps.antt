-- The name of an entry's type, one type after another: what is kept along the way are the offsets of the entries that were met, and the tags
-- of the types that are derived from the next one.
use Rattle.std.proofs.Common.{◌≡◌, ℕ, suc, ◌+◌, ◌<◌, List, [], ◌∷◌, ◌++◌, length, Bool, true, false, Option, Some, None, Result, Ok, Err, refl, ap, sym, subst, ◌∙◌, ◌==◌, arith}
use Rattle.std.specs.Prelude.{not, cond, ◌||◌, if◌then◌else◌}
use Rattle.std.specs.List.{filter, find}
use Rattle.std.proofs.lemmas.Bool.{and_parts, eqb-true}
use Rattle.dwc_base.specs.declared.constants.TheConstants.{DW_AT_type}
use Rattle.dwc_base.specs.Reading.{◌>>=◌}
use Rattle.dwc_base.specs.Sections.{Fault}
use Rattle.dwc_dwarf.specs.Values.{Value, is_one_of, address, address_index, constant, flag, block, expression, text, text_reference, line_reference, range_reference, range_index, location_reference, location_index, unit_reference, info_reference, dropped}
use Rattle.dwc_dwarf.specs.Entries.{attribute}
use Rattle.dwc_rules.specs.Kept.{Placed, names_entry}
use Rattle.dwc_dwarf.specs.Texts.{TextSource}
use Rattle.dwc_rules.specs.Targets.{target_of}
use Rattle.dwc_rules.specs.TypeNames.{target_in_unit, type_of, name_of, derived_name, unknown, without, name_along, type_name}
use Rattle.dwc_rules.proofs.NameLaws.{stepped, name_along-step, name_along-bound, type_name-unbounded, type-fewer}

-- ---- entries that are met

-- the entries at none of some offsets
abbrev pub unmet_of : List ℕ → List Placed → List Placed
unmet_of met es = filter (λ f. not (is_one_of met f.entry.offset)) es

-- an entry, unless it is met
abbrev pub if_unmet : List ℕ → Option Placed → Option Placed
if_unmet met None = None
if_unmet met (Some f) = if is_one_of met f.entry.offset then None else Some f

without-one : (e : Placed) (es : List Placed) → without e es ≡ unmet_of (e.entry.offset ∷ []) es
without-one e [] = refl
without-one e (x ∷ xs) = go (e.entry.offset == x.entry.offset) (without-one e xs)
  where
    go : (b : Bool) → without e xs ≡ unmet_of (e.entry.offset ∷ []) xs → cond {A = List Placed} (not b) (x ∷ without e xs) (without e xs) ≡ cond {A = List Placed} (not (b || false)) (x ∷ unmet_of (e.entry.offset ∷ []) xs) (unmet_of (e.entry.offset ∷ []) xs)
    go true others = others
    go false others = ap (λ ys. x ∷ ys) others

without-more : (met : List ℕ) (f : Placed) (es : List Placed) → without f (unmet_of met es) ≡ unmet_of (f.entry.offset ∷ met) es
without-more met f [] = refl
without-more met f (x ∷ xs) = go (is_one_of met x.entry.offset) (f.entry.offset == x.entry.offset) refl (without-more met f xs)
  where
    go : (m b : Bool) → (f.entry.offset == x.entry.offset) ≡ b → without f (unmet_of met xs) ≡ unmet_of (f.entry.offset ∷ met) xs
        → without f (cond {A = List Placed} (not m) (x ∷ unmet_of met xs) (unmet_of met xs)) ≡ cond {A = List Placed} (not (b || m)) (x ∷ unmet_of (f.entry.offset ∷ met) xs) (unmet_of (f.entry.offset ∷ met) xs)
    go true true is others = others
    go true false is others = others
    go false true is others = ap (λ b. cond {A = List Placed} (not b) (x ∷ without f (unmet_of met xs)) (without f (unmet_of met xs))) is ∙ others
    go false false is others = ap (λ b. cond {A = List Placed} (not b) (x ∷ without f (unmet_of met xs)) (without f (unmet_of met xs))) is ∙ ap (λ ys. x ∷ ys) others

-- ---- the next type

found-unmet : (met : List ℕ) (e : Placed) (n : ℕ) (es : List Placed) → find (λ f. names_entry e f (unit_reference n)) (unmet_of met es) ≡ if_unmet met (find (λ f. names_entry e f (unit_reference n)) es)
found-unmet met e n [] = refl
found-unmet met e n (x ∷ xs) = go (is_one_of met x.entry.offset) refl (names_entry e x (unit_reference n)) refl (found-unmet met e n xs)
  where
    test : Placed → Bool
    test f = names_entry e f (unit_reference n)

    offset-is : (f : Placed) → names_entry e f (unit_reference n) ≡ true → f.entry.offset ≡ e.unit + n
    offset-is f h = eqb-true f.entry.offset (e.unit + n) (and_parts (f.unit == e.unit) (f.entry.offset == e.unit + n) h).1

    -- of entries of which the first that is named would be at the offset of a met one, none is found
    all-met : (ys : List Placed) → is_one_of met (e.unit + n) ≡ true → if_unmet met (find (λ f. names_entry e f (unit_reference n)) ys) ≡ None
    all-met [] m = refl
    all-met (y ∷ ys) m = here (names_entry e y (unit_reference n)) refl (all-met ys m)
      where
        here : (b : Bool) → names_entry e y (unit_reference n) ≡ b → if_unmet met (find (λ f. names_entry e f (unit_reference n)) ys) ≡ None → if_unmet met (cond b (Some y) (find (λ f. names_entry e f (unit_reference n)) ys)) ≡ None
        here true is others = let there : is_one_of met y.entry.offset ≡ true = ap (is_one_of met) (offset-is y is) ∙ m in ap (λ b. if b then None else Some y) there
        here false is others = others

    go : (m : Bool) → is_one_of met x.entry.offset ≡ m → (b : Bool) → names_entry e x (unit_reference n) ≡ b → find (λ f. names_entry e f (unit_reference n)) (unmet_of met xs) ≡ if_unmet met (find (λ f. names_entry e f (unit_reference n)) xs)
        → find (λ f. names_entry e f (unit_reference n)) (cond {A = List Placed} (not m) (x ∷ unmet_of met xs) (unmet_of met xs)) ≡ if_unmet met (cond b (Some x) (find (λ f. names_entry e f (unit_reference n)) xs))
    go true met_is true is others =
        others ∙ all-met xs (ap (is_one_of met) (sym (offset-is x is)) ∙ met_is) ∙ sym (ap (λ b. if b then None else Some x) met_is)
    go true met_is false is others = others
    go false met_is true is others =
        ap (λ b. cond {A = Option Placed} b (Some x) (find (λ f. names_entry e f (unit_reference n)) (unmet_of met xs))) is ∙ sym (ap (λ b. if b then None else Some x) met_is)
    go false met_is false is others =
        ap (λ b. cond {A = Option Placed} b (Some x) (find (λ f. names_entry e f (unit_reference n)) (unmet_of met xs))) is ∙ others

-- The type of an entry among those that are not met is its type among all, unless that is met.
pub type-unmet : (met : List ℕ) (es : List Placed) (e : Placed) → type_of (unmet_of met es) e ≡ if_unmet met (type_of es e)
unfolding target_of
type-unmet met es e = go (attribute DW_AT_type e.entry)
  where
    go : (v : Option Value) → target_in_unit (unmet_of met es) e v ≡ if_unmet met (target_in_unit es e v)
    go (Some (unit_reference n)) = found-unmet met e n es
    go None = refl
    go (Some (address a)) = refl
    go (Some (address_index n)) = refl
    go (Some (constant form n)) = refl
    go (Some (flag b)) = refl
    go (Some (block bytes)) = refl
    go (Some (expression bytes)) = refl
    go (Some (text bytes)) = refl
    go (Some (text_reference form n)) = refl
    go (Some (line_reference n)) = refl
    go (Some (range_reference n)) = refl
    go (Some (range_index n)) = refl
    go (Some (location_reference n)) = refl
    go (Some (location_index n)) = refl
    go (Some (info_reference n)) = refl
    go (Some dropped) = refl

-- ---- names with tags in front

-- what a derived type of a tag makes of a name, and types of some tags, the outermost first
abbrev pub with_tag : ℕ → List ℕ → List ℕ
with_tag tag name = elim (derived_name tag) [ None ↦ name | Some derived ↦ derived name ]

abbrev pub with_tags : List ℕ → List ℕ → List ℕ
with_tags [] name = name
with_tags (tag ∷ tags) name = with_tag tag (with_tags tags name)

abbrev pub told_with : List ℕ → Result (List ℕ) Fault → Result (List ℕ) Fault
told_with tags r = r >>= λ name. Ok (with_tags tags name)

-- the name of an entry's type where some entries are met, of which types of some tags are derived
abbrev pub name_from : TextSource → List Placed → List ℕ → List ℕ → Placed → Result (List ℕ) Fault
name_from texts es met tags e = told_with tags (name_along (length (unmet_of met es)) texts (unmet_of met es) e)

-- the same by the next type, if there is one that is not met, and by what follows from that on
abbrev pub name_next : TextSource → List ℕ → Option Placed → (Placed → Result (List ℕ) Fault) → Result (List ℕ) Fault
name_next texts tags next others = elim next [
  | None ↦ Ok (with_tags tags unknown)
  | Some f ↦ (name_of texts f >>= λ name. elim name [
    | Some n ↦ Ok (with_tags tags n)
    | None ↦ elim (derived_name f.entry.tag) [ None ↦ Ok (with_tags tags unknown) | Some derived ↦ others f ]
  ])
]

with-last : (tags : List ℕ) (tag : ℕ) (name : List ℕ) → with_tags (tags ++ tag ∷ []) name ≡ with_tags tags (with_tag tag name)
with-last [] tag name = refl
with-last (t ∷ tags) tag name = ap (with_tag t) (with-last tags tag name)

-- a step, with tags in front
told-step : (texts : TextSource) (tags : List ℕ) (others : Placed → Result (List ℕ) Fault) (o : Option Placed) → told_with tags (stepped texts others o) ≡ name_next texts tags o (λ f. told_with (tags ++ f.entry.tag ∷ []) (others f))
told-step texts tags others None = refl
told-step texts tags others (Some f) = go (name_of texts f)
  where
    last : (derived : List ℕ → List ℕ) → derived_name f.entry.tag ≡ Some derived → (r : Result (List ℕ) Fault) → told_with tags (r >>= λ n. Ok (derived n)) ≡ told_with (tags ++ f.entry.tag ∷ []) r
    last derived is (Err fault) = refl
    last derived is (Ok n) =
        let tag_is : with_tag f.entry.tag n ≡ derived n = ap (λ (d : Option (List ℕ → List ℕ)). elim d [ None ↦ n | Some g ↦ g n ]) is in
        ap (λ m. Ok (with_tags tags m)) (sym tag_is) ∙ ap (λ m. Ok m) (sym (with-last tags f.entry.tag n))

    derive : (d : Option (List ℕ → List ℕ)) → derived_name f.entry.tag ≡ d → told_with tags (elim d [ None ↦ Ok unknown | Some derived ↦ (others f >>= λ n. Ok (derived n)) ]) ≡ elim d [ None ↦ Ok (with_tags tags unknown) | Some derived ↦ told_with (tags ++ f.entry.tag ∷ []) (others f) ]
    derive None is = refl
    derive (Some derived) is = last derived is (others f)

    go : (r : Result (Option (List ℕ)) Fault) → told_with tags (r >>= λ name. elim name [ Some n ↦ Ok n | None ↦ elim (derived_name f.entry.tag) [ None ↦ Ok unknown | Some derived ↦ (others f >>= λ n. Ok (derived n)) ] ])
        ≡ (r >>= λ name. elim name [ Some n ↦ Ok (with_tags tags n) | None ↦ elim (derived_name f.entry.tag) [ None ↦ Ok (with_tags tags unknown) | Some derived ↦ told_with (tags ++ f.entry.tag ∷ []) (others f) ] ])
    go (Err fault) = refl
    go (Ok (Some n)) = refl
    go (Ok None) = derive (derived_name f.entry.tag) refl

next-agree : (texts : TextSource) (tags : List ℕ) (r s : Placed → Result (List ℕ) Fault) (o : Option Placed) → ((f : Placed) → o ≡ Some f → r f ≡ s f) → name_next texts tags o r ≡ name_next texts tags o s
next-agree texts tags r s None agree = refl
next-agree texts tags r s (Some f) agree =
    ap (λ (x : Result (List ℕ) Fault). name_of texts f >>= λ name. elim name [ Some n ↦ Ok (with_tags tags n) | None ↦ elim (derived_name f.entry.tag) [ None ↦ Ok (with_tags tags unknown) | Some derived ↦ x ] ]) (agree f refl)

-- ---- the law

-- Each type that is met leaves fewer.
pub unmet-fewer : (met : List ℕ) (es : List Placed) (e f : Placed) → if_unmet met (type_of es e) ≡ Some f → length (unmet_of (f.entry.offset ∷ met) es) < length (unmet_of met es)
unmet-fewer met es e f next = subst (λ ys. length ys < length (unmet_of met es)) (without-more met f es) (type-fewer (unmet_of met es) e f (type-unmet met es e ∙ next))

-- The name is told by the next type: by its own name, or with its tag behind the others by what follows from it on.
pub name-next : (texts : TextSource) (es : List Placed) (met tags : List ℕ) (e : Placed) → name_from texts es met tags e ≡ name_next texts tags (if_unmet met (type_of es e)) (λ f. name_from texts es (f.entry.offset ∷ met) (tags ++ f.entry.tag ∷ []) f)
name-next texts es met tags e =
    let unmet = unmet_of met es in
    let more : name_along (length unmet) texts unmet e ≡ name_along (suc (length unmet)) texts unmet e = name_along-bound texts (length unmet) (suc (length unmet)) unmet e (omega arith) (omega arith) in
    ap (told_with tags) (more ∙ name_along-step texts unmet e (length unmet))
    ∙ told-step texts tags (λ f. name_along (length unmet) texts (without f unmet) f) (type_of unmet e)
    ∙ ap (λ o. name_next texts tags o (λ f. told_with (tags ++ f.entry.tag ∷ []) (name_along (length unmet) texts (without f unmet) f))) (type-unmet met es e)
    ∙ next-agree texts tags (λ f. told_with (tags ++ f.entry.tag ∷ []) (name_along (length unmet) texts (without f unmet) f)) (λ f. name_from texts es (f.entry.offset ∷ met) (tags ++ f.entry.tag ∷ []) f) (if_unmet met (type_of es e)) same
  where
    same : (f : Placed) → if_unmet met (type_of es e) ≡ Some f → told_with (tags ++ f.entry.tag ∷ []) (name_along (length (unmet_of met es)) texts (without f (unmet_of met es)) f) ≡ name_from texts es (f.entry.offset ∷ met) (tags ++ f.entry.tag ∷ []) f
    same f next =
        let fewer = unmet-fewer met es e f next in
        ap (λ ys. told_with (tags ++ f.entry.tag ∷ []) (name_along (length (unmet_of met es)) texts ys f)) (without-more met f es)
        ∙ ap (told_with (tags ++ f.entry.tag ∷ [])) (name_along-bound texts (length (unmet_of met es)) (length (unmet_of (f.entry.offset ∷ met) es)) (unmet_of (f.entry.offset ∷ met) es) f (omega (arith, fewer)) (omega arith))

-- At the start the entry itself is met, and there are no tags.
pub name-start : (texts : TextSource) (es : List Placed) (e : Placed) → type_name texts es e ≡ name_from texts es (e.entry.offset ∷ []) [] e
name-start texts es e =
    type_name-unbounded texts es e ∙ ap (λ ys. name_along (length ys) texts ys e) (without-one e es) ∙ untagged (name_along (length (unmet_of (e.entry.offset ∷ []) es)) texts (unmet_of (e.entry.offset ∷ []) es) e)
  where
    untagged : (r : Result (List ℕ) Fault) → r ≡ told_with [] r
    untagged (Ok n) = refl
    untagged (Err fault) = refl
