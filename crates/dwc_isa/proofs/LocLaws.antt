-- Ranges as they are held, with one more behind them.
use Rattle.std.proofs.Common.{◌≡◌, ℕ, ◌-◌, ◌<◌, ◌⊎◌, List, [], ◌∷◌, ◌++◌, length, get_or, set, map, true, false, sym, ap, subst, ◌∙◌, arith, inl, inr, true≢false}
use Rattle.std.proofs.lemmas.List.{get_or_at, set_at, length_push, map_push}
use Rattle.dwc_isa.specs.declared.value_label.ValueLocRange.{ValueLocRange}
use Rattle.dwc_isa.specs.ValueLabels.{range_view}
use Rattle.dwc_isa.specs.FlatRanges.{goes_on_last, Puts}
use Rattle.dwc_isa.proofs.ListEnds.{Ends, ends}
use Rattle.dwc_isa.proofs.PutLaws.{put-apart, put-joined}

-- the last range of some is lengthened
pub put-longer :
    (xs : List ValueLocRange) (n : ℕ) (x range : ValueLocRange) → n ≡ length xs → x ≡ get_or xs (n - 1) x → range.start < range.end → goes_on_last (map range_view xs) (range_view range) ≡ true
    → Puts (range_view range) (map range_view xs) (map range_view (set xs (n - 1) (record x { end = range.end })))
put-longer xs n x range count is some joins = go (ends xs)
  where
    go : (xs ≡ []) ⊎ Ends xs → Puts (range_view range) (map range_view xs) (map range_view (set xs (n - 1) (record x { end = range.end })))
    go (inl none) = absurd (true≢false (sym joins ∙ ap (λ zs. goes_on_last (map range_view zs) (range_view range)) none))
    go (inr e) =
        let place : length e.front ≡ n - 1 = omega (arith, count, ap length e.is, length_push e.front e.last) in
        let last : x ≡ e.last = is ∙ ap (λ zs. get_or zs (n - 1) x) e.is ∙ get_or_at e.front e.last [] x (n - 1) place in
        let old : map range_view xs ≡ map range_view e.front ++ range_view e.last ∷ [] = ap (map range_view) e.is ∙ map_push range_view e.front e.last in
        let new : map range_view (set xs (n - 1) (record x { end = range.end })) ≡ map range_view e.front ++ (record (range_view e.last) { end = range.end }) ∷ [] =
        ap (λ zs. map range_view (set zs (n - 1) (record x { end = range.end }))) e.is
        ∙ ap (map range_view) (set_at e.front e.last [] (record x { end = range.end }) (n - 1) place)
        ∙ map_push range_view e.front (record x { end = range.end })
        ∙ ap (λ z. map range_view e.front ++ range_view (record z { end = range.end }) ∷ []) last in
        subst (λ rs. Puts (range_view range) rs (map range_view (set xs (n - 1) (record x { end = range.end })))) (sym old)
        (subst (Puts (range_view range) (map range_view e.front ++ range_view e.last ∷ [])) (sym new)
        (put-joined (range_view range) (range_view e.last) (map range_view e.front) some (ap (λ rs. goes_on_last rs (range_view range)) (sym old) ∙ joins)))

-- a range stands behind some
pub put-pushed :
    (xs ys : List ValueLocRange) (range : ValueLocRange) → ys ≡ xs ++ range ∷ [] → range.start < range.end → goes_on_last (map range_view xs) (range_view range) ≡ false
    → Puts (range_view range) (map range_view xs) (map range_view ys)
put-pushed xs ys range is some apart =
    subst (Puts (range_view range) (map range_view xs)) (sym (ap (map range_view) is ∙ map_push range_view xs range))
    (put-apart (range_view range) (map range_view xs) some apart)
