-- Entries of lists that are written one behind another, some at a time.
use Rattle.std.proofs.Common.{◌≡◌, ℕ, zero, suc, ◌+◌, ◌<◌, ◌≤◌, refl, sym, ap, subst, ◌∙◌, arith, List, [], ◌∷◌, ◌++◌, append-nil, length, length-append, drop, get_or, Err}
use Rattle.std.specs.Prelude.{Result}
use Rattle.std.specs.List.{flat_map}
use Rattle.std.proofs.lemmas.Grind.{flat_map-append}
use Rattle.std.proofs.lemmas.List.{drop_all}
use Rattle.dwc_base.specs.declared.records.Endian.{Endian}
use Rattle.dwc_base.specs.Outputs.{OutputRelocation}
use Rattle.dwc_section.specs.declared.error.WriteError.{WriteError}
use Rattle.dwc_section.specs.Spelled.{at_places}
use Rattle.dwc_unit.specs.Lists.{ListEntry, listed_bytes, listed_relocations, list_bytes, list_relocations}
use Rattle.dwc_section.specs.Writers.{Writing, Refuses, Writes, appended}
use Rattle.dwc_unit.proofs.RowFields.{at_places-append}
use Rattle.dwc_section.proofs.RefusalLaws.{past-more}
use Rattle.dwc_section.proofs.WritesLaws.{appended-twice, length-behind, order-behind, writes-then, whole, whole-order, whole-done}

pub drop-more : {A : Type 0} (xs : List A) (i : ℕ) (d : A) → i < length xs → drop i xs ≡ get_or xs i d ∷ drop (suc i) xs
drop-more [] i d within = absurd (omega arith)
drop-more (x ∷ xs) zero d within = refl
drop-more (x ∷ xs) (suc i) d within = drop-more xs i d (omega arith)

-- some more
pub whole-part : {A : Type 0} (spell : A → List ℕ) (at : ℕ → A → List OutputRelocation) (ys zs : List A) (w v all : Writing) → whole spell at (ys ++ zs) w ≡ all → v ≡ appended (flat_map spell ys) (at_places spell at (length w.body) ys) w → whole spell at zs v ≡ all
whole-part spell at ys zs w v all invariant step =
    let long : length v.body ≡ length w.body + length (flat_map spell ys) = length-behind w v (flat_map spell ys) (at_places spell at (length w.body) ys) step in
    appended-twice w v (whole spell at zs v) (flat_map spell ys) (flat_map spell zs) (at_places spell at (length w.body) ys) (at_places spell at (length v.body) zs) step refl
    ∙ ap (λ p. appended (flat_map spell ys ++ flat_map spell zs) (at_places spell at (length w.body) ys ++ at_places spell at p zs) w) long
    ∙ ap (λ bytes. appended bytes (at_places spell at (length w.body) ys ++ at_places spell at (length w.body + length (flat_map spell ys)) zs) w) (sym (flat_map-append spell ys zs))
    ∙ ap (λ rs. appended (flat_map spell (ys ++ zs)) rs w) (sym (at_places-append spell at ys zs (length w.body)))
    ∙ invariant

-- some that are refused
pub part-refused : {A : Type 0} (spell : A → List ℕ) (at : ℕ → A → List OutputRelocation) (ys zs all : List A) (w a : Writing) (e : WriteError) → whole spell at (ys ++ zs) w ≡ whole spell at all a → Refuses e w (length (flat_map spell ys)) → Refuses e a (length (flat_map spell all))
part-refused spell at ys zs all w a e invariant refused =
    let long = ap (λ (v : Writing). length v.body) invariant in
    past-more w.name a.name _ _ e (ap (λ (v : Writing). v.name) invariant)
    (λ large. omega (arith, large, long, length-append w.body (flat_map spell (ys ++ zs)), ap length (flat_map-append spell ys zs), length-append (flat_map spell ys) (flat_map spell zs), length-append a.body (flat_map spell all)))
    refused

-- ---- a loop over things that each have some entries

-- what is there, with the entries of the things that are left, is the whole
abbrev pub lists_whole : ℕ → Endian → ℕ → List ListEntry → Writing → Writing
lists_whole version order size rs w = whole (listed_bytes version order size) (listed_relocations version order size) rs w

module _ {B : Type 0} (version size : ℕ) (lists : B → List ListEntry) (xs : List B) (i : ℕ) (d : B) (a w : Writing) where
  pub lists-order : lists_whole version a.order size (flat_map lists (drop i xs)) w ≡ lists_whole version a.order size (flat_map lists xs) a → w.order ≡ a.order
  lists-order invariant = whole-order (listed_bytes version a.order size) (listed_relocations version a.order size) (flat_map lists (drop i xs)) (flat_map lists xs) w a invariant

  pub lists-more : (v : Writing) → i < length xs → lists_whole version a.order size (flat_map lists (drop i xs)) w ≡ lists_whole version a.order size (flat_map lists xs) a
      → v ≡ appended (list_bytes version w.order size (lists (get_or xs i d))) (list_relocations version w.order size (length w.body) (lists (get_or xs i d))) w
      → lists_whole version a.order size (flat_map lists (drop (suc i) xs)) v ≡ lists_whole version a.order size (flat_map lists xs) a
  lists-more v within invariant step =
      let here = ap (λ ys. lists_whole version a.order size (flat_map lists ys) w) (sym (drop-more xs i d within)) ∙ invariant in
      let P : Endian → Type 0 = λ o. v ≡ appended (list_bytes version o size (lists (get_or xs i d))) (list_relocations version o size (length w.body) (lists (get_or xs i d))) w in
      whole-part (listed_bytes version a.order size) (listed_relocations version a.order size) (lists (get_or xs i d)) (flat_map lists (drop (suc i) xs)) w v _ here (subst P (lists-order invariant) step)

  pub lists-refused : (now : Writing) (result : Result (Unit {0}) WriteError) (e : WriteError) (rs : List OutputRelocation) → i < length xs → lists_whole version a.order size (flat_map lists (drop i xs)) w ≡ lists_whole version a.order size (flat_map lists xs) a
      → ((error : WriteError) × (result ≡ Err error) × (error ≡ e)) → Refuses e w (length (list_bytes version w.order size (lists (get_or xs i d))))
      → Writes a now result (list_bytes version a.order size (flat_map lists xs)) rs
  lists-refused now result e rs within invariant p refused =
      let here = ap (λ ys. lists_whole version a.order size (flat_map lists ys) w) (sym (drop-more xs i d within)) ∙ invariant in
      let P : Endian → Type 0 = λ o. Refuses e w (length (list_bytes version o size (lists (get_or xs i d)))) in
      let later = part-refused (listed_bytes version a.order size) (listed_relocations version a.order size) (lists (get_or xs i d)) (flat_map lists (drop (suc i) xs)) (flat_map lists xs) w a e here (subst P (lists-order invariant) refused) in
      let is : result ≡ Err e = p.1 ∙ ap Err p.2 in
      rw (is) later

  pub lists-done : length xs ≤ i → lists_whole version a.order size (flat_map lists (drop i xs)) w ≡ lists_whole version a.order size (flat_map lists xs) a → w ≡ lists_whole version a.order size (flat_map lists xs) a
  lists-done past invariant =
      let none : drop i xs ≡ [] = drop_all i xs past in
      whole-done (listed_bytes version a.order size) (listed_relocations version a.order size) w _ (ap (λ ys. lists_whole version a.order size (flat_map lists ys) w) (sym none) ∙ invariant)

-- an entry behind others
pub entry-behind : (version size : ℕ) (rs : List ListEntry) (e : ListEntry) (a b c : Writing) (result : Result (Unit {0}) WriteError) → b ≡ appended (list_bytes version a.order size rs) (list_relocations version a.order size (length a.body) rs) a
    → Writes b c result (listed_bytes version b.order size e) (listed_relocations version b.order size (length b.body) e) → Writes a c result (list_bytes version a.order size (rs ++ (e ∷ []))) (list_relocations version a.order size (length a.body) (rs ++ (e ∷ [])))
entry-behind version size rs e a b c result first second =
    let x = list_bytes version a.order size rs in
    let r = list_relocations version a.order size (length a.body) rs in
    let order : b.order ≡ a.order = order-behind a b x r first in
    let long : length b.body ≡ length a.body + length x = length-behind a b x r first in
    let P : Endian → ℕ → Type 0 = λ o n. Writes b c result (listed_bytes version o size e) (listed_relocations version o size n e) in
    let then : P a.order (length a.body + length x) = subst (λ n. P a.order n) long (subst (λ o. P o (length b.body)) order second) in
    writes-then a b c x (listed_bytes version a.order size e) _ r (listed_relocations version a.order size (length a.body + length x) e) _ result first then
    (flat_map-append (listed_bytes version a.order size) rs (e ∷ []) ∙ ap (λ y. x ++ y) (append-nil (listed_bytes version a.order size e)))
    (at_places-append (listed_bytes version a.order size) (listed_relocations version a.order size) rs (e ∷ []) (length a.body) ∙ ap (λ y. r ++ y) (append-nil (listed_relocations version a.order size (length a.body + length x) e)))
