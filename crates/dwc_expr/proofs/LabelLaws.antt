-- A walk over parts that gathers the labels that they need.
use Rattle.std.proofs.Common.{◌≡◌, ℕ, ◌+◌, ◌<◌, Bool, true, false, if◌then◌else◌, List, [], ◌∷◌, ◌++◌, length, map, drop, get_or, find, filter_map, option_to_list, Option, Some, None, ap, sym, subst, ◌∙◌, append-nil}
use Rattle.std.specs.List.{cons_option}
use Rattle.std.proofs.lemmas.List.{at_drop_more, drop_more}
use Rattle.std.proofs.lemmas.List.Elements.{filter_map-append}
use Rattle.dwc_native.specs.Parts.{dereference, context_label}
use Rattle.dwc_native.specs.BuiltExpressions.{bad_label_range, has_bad_range, label_refusal}
use Rattle.dwc_native.specs.Placed.{Frame, label_needed}
use Rattle.dwc_base.specs.Listing.{first_of}
use Rattle.dwc_isa.specs.declared.value_label.ValueLabel.{ValueLabel}
use Rattle.dwc_expr.specs.declared.part.CompiledExpressionPart.{CompiledExpressionPart}
use Rattle.dwc_expr.specs.NeededLabels.{HaveSameFirsts, numbers}
use Rattle.dwc_expr.specs.PartViews.{part_view}
use Rattle.dwc_expr.proofs.FirstLaws.{firsts-behind, firsts-more}

-- the labels that some parts need
abbrev pub needed : List CompiledExpressionPart → List ℕ
needed parts = filter_map label_needed (map part_view parts)

-- a part more, whose label, if it needs one, was added
pub part-more : (parts : List CompiledExpressionPart) (i : ℕ) (x : CompiledExpressionPart) (now new whole : List ℕ) → i < length parts → x ≡ get_or parts i x
    → HaveSameFirsts new (now ++ option_to_list (label_needed (part_view x))) → HaveSameFirsts (now ++ needed (drop i parts)) whole → HaveSameFirsts (new ++ needed (drop (i + 1) parts)) whole
part-more parts i x now new whole inside is added before =
    firsts-more now new (needed (drop (i + 1) parts)) whole (label_needed (part_view x)) added (subst (λ ls. HaveSameFirsts (now ++ ls) whole) split before)
  where
    split : needed (drop i parts) ≡ cons_option (label_needed (part_view x)) (needed (drop (i + 1) parts))
    split = at_drop_more needed parts i x inside ∙ ap (λ p. cons_option (label_needed (part_view p)) (needed (drop (i + 1) parts))) (sym is)

-- the labels of parts, behind which there may be an address to be made of the result
module _ (parts : List CompiledExpressionPart) (b : Bool) (ls final : List ℕ) (before : HaveSameFirsts ls (needed parts)) where
  pub labels-with : (label : ℕ) → b ≡ true → label ≡ context_label → HaveSameFirsts final (ls ++ label ∷ []) → HaveSameFirsts final (filter_map label_needed (map part_view parts ++ (if b then dereference ∷ [] else [])))
  labels-with label is context added test =
      rw is (added test ∙ ap (λ l. find test (ls ++ l ∷ [])) context ∙ firsts-behind ls (needed parts) (context_label ∷ []) before test ∙ ap (find test) (sym (filter_map-append label_needed (map part_view parts) (dereference ∷ []))))

  pub labels-without : b ≡ false → final ≡ ls → HaveSameFirsts final (filter_map label_needed (map part_view parts ++ (if b then dereference ∷ [] else [])))
  labels-without is same test = rw is (ap (find test) same ∙ before test ∙ ap (λ ps. find test (filter_map label_needed ps)) (sym (append-nil (map part_view parts))))

-- a label more that is not refused
pub refusals-more : (frame : Option Frame) (labels : List ValueLabel) (i : ℕ) (d : ValueLabel) → i < length labels → has_bad_range frame (get_or labels i d).0 ≡ false
    → first_of (filter_map (label_refusal frame) (numbers (drop i labels))) ≡ first_of (filter_map (label_refusal frame) (numbers (drop (i + 1) labels)))
refusals-more frame labels i d inside fine =
    let label = (get_or labels i d).0 in
    ap (λ ls. first_of (filter_map (label_refusal frame) (numbers ls))) (drop_more labels i d inside)
    ∙ ap {A = Bool} (λ b. first_of (cons_option (if b then Some (bad_label_range label) else None) (filter_map (label_refusal frame) (numbers (drop (i + 1) labels))))) fine
