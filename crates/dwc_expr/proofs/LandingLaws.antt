-- Places as marks.
use Rattle.std.proofs.Common.{◌≡◌, ℕ, ◌+◌, ◌<◌, ◌≤◌, ◌==◌, List, [], ◌∷◌, ◌++◌, map, length, get_or, set, drop, replicate, All, Bool, true, false, ◌&&◌, ◌||◌, if◌then◌else◌, Option, Some, None, is_some, refl, sym, ap, ◌∙◌, ⊎_elim, arith, length-set, get_or-set_same, get_or-set_other}
use Rattle.std.specs.List.{list_all, list_any, cons_option}
use Rattle.std.proofs.lemmas.List.{drop_more, get_or-replicate, length-replicate, get_or_past}
use Rattle.std.proofs.lemmas.List.Elements.{All-head, All-tail, All-weaker}
use Rattle.std.proofs.lemmas.Bool.{cases_lt, ne_eqb, or_from}
use Rattle.std.proofs.lemmas.Bool.Decides.{eqb_tells}
use Rattle.dwc_dwarf.specs.Values.{is_one_of}
use Rattle.dwc_dwarf.specs.Operations.{Operation}
use Rattle.dwc_native.specs.Parts.{landing_pad, CompiledParts, parts_of, jump_target, targets, has_whole_jumps, pad_at, parts_behind_pads}
use Rattle.dwc_expr.specs.Landings.{with_mark, marked_too, Mark, marked_pad, parts_behind_marks}

-- ---- what is marked

mark-read : (place p : ℕ) (marks : List Bool) → p < length marks → get_or (with_mark place marks) p false ≡ ((place == p) || get_or marks p false)
mark-read place p marks inside = ⊎_elim here elsewhere (eqb_tells place p)
  where
    here : ((place == p) ≡ true) × (place ≡ p) → get_or (with_mark place marks) p false ≡ ((place == p) || get_or marks p false)
    here h = ap (λ i. get_or (set marks i true) p false) h.1 ∙ get_or-set_same marks p true false inside ∙ sym (ap (λ b. b || get_or marks p false) h.0)

    elsewhere : ((place == p) ≡ false) × (place ≡ p → ⊥) → get_or (with_mark place marks) p false ≡ ((place == p) || get_or marks p false)
    elsewhere h = get_or-set_other marks place p true false (λ same. h.1 (sym same)) ∙ sym (ap (λ b. b || get_or marks p false) h.0)

turned : (a b c : Bool) → (a || (b || c)) ≡ ((b || a) || c)
turned true true c = refl
turned true false c = refl
turned false true c = refl
turned false false c = refl

or-false : (a : Bool) → (a || false) ≡ a
or-false true = refl
or-false false = refl

marked-length : (places : List ℕ) (marks : List Bool) → length (marked_too places marks) ≡ length marks
marked-length [] marks = refl
marked-length (place ∷ places) marks = marked-length places (with_mark place marks) ∙ length-set marks place true

marked-read : (places : List ℕ) (p : ℕ) (marks : List Bool) → p < length marks → get_or (marked_too places marks) p false ≡ (is_one_of places p || get_or marks p false)
marked-read [] p marks inside = refl
marked-read (place ∷ places) p marks inside =
    marked-read places p (with_mark place marks) (omega (arith, inside, length-set marks place true))
    ∙ ap (λ b. is_one_of places p || b) (mark-read place p marks inside) ∙ turned (is_one_of places p) (place == p) (get_or marks p false)

unmarked : (count p : ℕ) → get_or (replicate count false) p false ≡ false
unmarked count p = ⊎_elim (λ inside. get_or-replicate count p false false inside) (λ past. get_or_past (replicate count false) p false (omega (arith, past, length-replicate count false))) (cases_lt p count)

-- a place past all of them is none of them
past-all : (places : List ℕ) (size p : ℕ) → All (λ place. place ≤ size) places → size < p → is_one_of places p ≡ false
past-all [] size p low past = refl
past-all (place ∷ places) size p low past =
    or_from (place == p) (is_one_of places p) (ne_eqb place p (λ same. omega (arith, same, past, All-head (λ q. q ≤ size) place places low))) (past-all places size p (All-tail (λ q. q ≤ size) place places low) past)

marked-new : (places : List ℕ) (size p : ℕ) → p ≤ size → get_or (marked_too places (replicate (size + 1) false)) p false ≡ is_one_of places p
marked-new places size p inside =
    marked-read places p (replicate (size + 1) false) (omega (arith, inside, length-replicate (size + 1) false))
    ∙ ap (λ b. is_one_of places p || b) (unmarked (size + 1) p) ∙ or-false (is_one_of places p)

pub marks-stand : (places : List ℕ) (size : ℕ) → All (λ place. place ≤ size) places → Mark (marked_too places (replicate (size + 1) false)) places
marks-stand places size low p = ⊎_elim below above (cases_lt p (size + 1))
  where
    marks : List Bool
    marks = marked_too places (replicate (size + 1) false)

    below : p < size + 1 → get_or (marked_too places (replicate (size + 1) false)) p false ≡ is_one_of places p
    below inside = marked-new places size p (omega arith)

    above : size + 1 ≤ p → get_or (marked_too places (replicate (size + 1) false)) p false ≡ is_one_of places p
    above past =
        get_or_past (marked_too places (replicate (size + 1) false)) p false (omega (arith, past, marked-length places (replicate (size + 1) false), length-replicate (size + 1) false))
        ∙ sym (past-all places size p low (omega arith))

-- ---- jumps that are whole

all-same : (f g : ℕ → Bool) (ps : List ℕ) → All (λ p. f p ≡ g p) ps → list_all f ps ≡ list_all g ps
all-same f g [] same = refl
all-same f g (p ∷ ps) same =
    let head : f p ≡ g p = All-head (λ q. f q ≡ g q) p ps same in
    rw (head, all-same f g ps (All-tail (λ q. f q ≡ g q) p ps same)) refl

-- what is marked where operations begin and at the end tells of each jump whether it is whole
pub whole-by-marks : (os : List Operation) (size : ℕ) → All (λ place. place ≤ size) (targets os) → list_all (λ place. get_or (with_mark size (marked_too (map (λ o. o.place) os) (replicate (size + 1) false))) place false) (targets os) ≡ has_whole_jumps size os
whole-by-marks os size low =
    all-same (λ p. get_or (with_mark size marks) p false) (is_one_of (size ∷ places)) (targets os) (All-weaker (λ p. p ≤ size) (λ p. get_or (with_mark size marks) p false ≡ is_one_of (size ∷ places) p) at (targets os) low)
  where
    places : List ℕ
    places = map (λ o. o.place) os

    marks : List Bool
    marks = marked_too places (replicate (size + 1) false)

    at : (p : ℕ) → p ≤ size → get_or (with_mark size marks) p false ≡ is_one_of (size ∷ places) p
    at p inside = mark-read size p marks (omega (arith, inside, marked-length places (replicate (size + 1) false), length-replicate (size + 1) false)) ∙ ap (λ b. (size == p) || b) (marked-new places size p inside)

-- ---- no jumps

none-jumps : (os : List Operation) → list_any (λ o. is_some (jump_target o)) os ≡ false → targets os ≡ []
none-jumps [] none = refl
none-jumps (o ∷ os) none = go (jump_target o) (none-jumps os) none
  where
    go : (t : Option ℕ) → (list_any (λ x. is_some (jump_target x)) os ≡ false → targets os ≡ []) → (is_some t || list_any (λ x. is_some (jump_target x)) os) ≡ false → cons_option t (targets os) ≡ []
    go None others rest = others rest
    go (Some t) others rest = absurd (cc)

pub no-landings : (size : ℕ) (os : List Operation) (marks : List Bool) → list_any (λ o. is_some (jump_target o)) os ≡ false → marks ≡ [] → (has_whole_jumps size os ≡ true) × Mark marks (targets os)
no-landings size os marks none empty =
    let no_targets = none-jumps os none in
    (ap (list_all (is_one_of (size ∷ map (λ o. o.place) os))) no_targets, λ place. ap (λ bs. get_or bs place false) empty ∙ sym (ap (λ ps. is_one_of ps place) no_targets))

-- ---- landing pads

pub pad-same : (marks : List Bool) (places : List ℕ) → Mark marks places → (place : ℕ) → marked_pad marks place ≡ pad_at places place
pad-same marks places stand place = ap (λ b. if b then landing_pad place ∷ [] else []) (stand place)

pub pads-same : (base : Option CompiledParts) (marks : List Bool) (places : List ℕ) → Mark marks places → (os : List Operation) → parts_behind_marks base marks os ≡ parts_behind_pads base places os
pads-same base marks places stand [] = refl
pads-same base marks places stand (o ∷ os) =
    ap (λ pads. (pads ++ parts_of base o) ++ parts_behind_marks base marks os) (pad-same marks places stand o.place) ∙ ap (λ rest. (pad_at places o.place ++ parts_of base o) ++ rest) (pads-same base marks places stand os)

-- ---- the jumps that are left

module _ (f : ℕ → Bool) (os : List Operation) (i : ℕ) (o : Operation) (inside : i < length os) (at : o ≡ get_or os i o) where
  left-targets : targets (drop i os) ≡ cons_option (jump_target o) (targets (drop (i + 1) os))
  left-targets = ap targets (drop_more os i o inside) ∙ ap (λ x. cons_option (jump_target x) (targets (drop (i + 1) os))) (sym at)

  -- one that arrives leaves it to the others, as does an operation that does not jump
  pub arrived : (place : ℕ) → jump_target o ≡ Some place → f place ≡ true → list_all f (targets (drop i os)) ≡ list_all f (targets (drop (i + 1) os))
  arrived place jumps passes = ap (list_all f) left-targets ∙ ap (λ t. list_all f (cons_option t (targets (drop (i + 1) os)))) jumps ∙ ap (λ b. b && list_all f (targets (drop (i + 1) os))) passes

  pub no-jump : jump_target o ≡ None → list_all f (targets (drop i os)) ≡ list_all f (targets (drop (i + 1) os))
  no-jump none = ap (list_all f) left-targets ∙ ap (λ t. list_all f (cons_option t (targets (drop (i + 1) os)))) none
