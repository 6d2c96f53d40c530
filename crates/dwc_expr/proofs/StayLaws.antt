-- Places that stay the same are the same places.
use Rattle.std.proofs.Common.{◌≡◌, ℕ, List, [], ◌∷◌, ◌++◌, true, refl, ap, sym, ◌∙◌, true≢false, Some, None}
use Rattle.std.specs.Prelude.{Option, ◌&&◌, ◌==◌, is_some}
use Rattle.std.proofs.lemmas.Cmp.{nat_eq_equiv, int_eq_equiv}
use Rattle.std.proofs.lemmas.Bool.{and_parts, eqb-true}
use Rattle.std.proofs.lemmas.Bool.Decides.{Decides-int_eq}
use Rattle.std.proofs.lemmas.List.Folds.{list_all-append}
use Rattle.dwc_dwarf.specs.Values.{is_one_of}
use Rattle.dwc_native.specs.Compiled.{Place, in_register, at_frame_offset}
use Rattle.dwc_native.specs.Placed.{Frame, placed, all_placed, same_place, all_stay}
use Rattle.dwc_base.proofs.InLists.{any-in}
use Rattle.dwc_expr.proofs.PairLaws.{all-true}

pub same-place : (o p : Option Place) → same_place o p ≡ true → o ≡ p
same-place None None h = refl
same-place None (Some (in_register s)) h = absurd (true≢false (sym h))
same-place None (Some (at_frame_offset p)) h = absurd (true≢false (sym h))
same-place (Some (in_register r)) None h = absurd (true≢false (sym h))
same-place (Some (in_register r)) (Some (in_register s)) h = ap (λ n. Some (in_register n)) (eqb-true r s h)
same-place (Some (in_register r)) (Some (at_frame_offset p)) h = absurd (true≢false (sym h))
same-place (Some (at_frame_offset o)) None h = absurd (true≢false (sym h))
same-place (Some (at_frame_offset o)) (Some (in_register s)) h = absurd (true≢false (sym h))
same-place (Some (at_frame_offset o)) (Some (at_frame_offset p)) h = ap (λ z. Some (at_frame_offset z)) ((Decides-int_eq o p).0 h)

pub place-same : (o : Option Place) → same_place o o ≡ true
place-same None = refl
place-same (Some (in_register r)) = nat_eq_equiv.refl r
place-same (Some (at_frame_offset o)) = int_eq_equiv.refl o

module _ (frame : Option Frame) (function : ℕ) where
  -- where places stay the same, a third byte has the same ones as both or others than both
  pub stay-along : (labels : List ℕ) (b c d : ℕ) → all_stay frame labels function b c ≡ true → all_stay frame labels function b d ≡ all_stay frame labels function c d
  stay-along [] b c d h = refl
  stay-along (l ∷ ls) b c d h =
      let parts = and_parts (same_place (placed frame function b l) (placed frame function c l)) (all_stay frame ls function b c) h in
      ap (λ o. same_place o (placed frame function d l) && all_stay frame ls function b d) (same-place (placed frame function b l) (placed frame function c l) parts.0)
      ∙ ap (λ t. same_place (placed frame function c l) (placed frame function d l) && t) (stay-along ls b c d parts.1)

  -- a label that is one of them has the same place then
  pub stay-placed : (labels : List ℕ) (b c label : ℕ) → all_stay frame labels function b c ≡ true → is_one_of labels label ≡ true → placed frame function b label ≡ placed frame function c label
  stay-placed labels b c label h is =
      let found = any-in (λ l. l == label) labels is in
      let same : found.0 ≡ label = eqb-true found.0 label found.2 in
      ap (placed frame function b) (sym same)
      ∙ same-place (placed frame function b found.0) (placed frame function c found.0) (all-true (λ l. same_place (placed frame function b l) (placed frame function c l)) labels h found.0 found.1)
      ∙ ap (placed frame function c) same

  -- with one more label
  pub placed-more : (labels : List ℕ) (label byte : ℕ) → all_placed frame (labels ++ label ∷ []) function byte ≡ (all_placed frame labels function byte && (is_some (placed frame function byte label) && true))
  placed-more labels label byte = list_all-append (λ l. is_some (placed frame function byte l)) labels (label ∷ [])

  pub stay-more : (labels : List ℕ) (label b c : ℕ) → all_stay frame (labels ++ label ∷ []) function b c ≡ (all_stay frame labels function b c && (same_place (placed frame function b label) (placed frame function c label) && true))
  stay-more labels label b c = list_all-append (λ l. same_place (placed frame function b l) (placed frame function c l)) labels (label ∷ [])
