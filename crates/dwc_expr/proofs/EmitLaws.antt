-- Parts that are put one after another.
use Rattle.std.proofs.Common.{◌≡◌, ℕ, ◌+◌, ◌<◌, List, [], ◌∷◌, ◌++◌, map, length, get_or, drop, Bool, Option, Some, sym, refl, ap, ◌∙◌}
use Rattle.std.proofs.lemmas.List.{drop_more}
use Rattle.dwc_dwarf.specs.Operations.{Operation}
use Rattle.dwc_native.specs.Parts.{Part, code, dereference, CompiledParts, as_value, joined, moved_up, reads_memory, shifts_right, rule_of, parts_by, parts_of}
use Rattle.dwc_expr.specs.PartViews.{part_view}
use Rattle.dwc_expr.specs.Landings.{marked_pad, parts_behind_marks}
use Rattle.dwc_expr.specs.declared.part.CompiledExpressionPart.{CompiledExpressionPart}
use Rattle.dwc_expr.proofs.JoinedLaws.{joined-moved, joined-both, joined-under}

-- one more part of a frame base
pub values-more : (old new : List Part) (vs : List CompiledExpressionPart) (i : ℕ) (v : CompiledExpressionPart) → i < length vs → v ≡ get_or vs i v → joined new ≡ joined (old ++ as_value (part_view v) ∷ []) → joined (new ++ map as_value (map part_view (drop (i + 1) vs))) ≡ joined (old ++ map as_value (map part_view (drop i vs)))
values-more old new vs i v inside at put =
    joined-moved old new (as_value (part_view v) ∷ []) (map as_value (map part_view (drop (i + 1) vs))) put
    ∙ ap (λ xs. joined (old ++ map as_value (map part_view xs))) (sym (drop_more vs i v inside ∙ ap (λ x. x ∷ drop (i + 1) vs) (sym at)))

-- one more operation, behind its landing pad
pub steps-more : (base : Option CompiledParts) (marks : List Bool) (old padded new : List Part) (os : List Operation) (i : ℕ) (o : Operation) → i < length os → o ≡ get_or os i o → joined padded ≡ joined (old ++ marked_pad marks o.place) → joined new ≡ joined (padded ++ parts_of base o) → joined (new ++ parts_behind_marks base marks (drop (i + 1) os)) ≡ joined (old ++ parts_behind_marks base marks (drop i os))
steps-more base marks old padded new os i o inside at pad put =
    joined-moved old new (marked_pad marks o.place ++ parts_of base o) (parts_behind_marks base marks (drop (i + 1) os)) (joined-both old padded new (marked_pad marks o.place) (parts_of base o) pad put)
    ∙ ap (λ xs. joined (old ++ parts_behind_marks base marks xs)) (sym (drop_more os i o inside ∙ ap (λ x. x ∷ drop (i + 1) os) (sym at)))

module _ (base : Option CompiledParts) (o : Operation) (old middle new : List Part) where
  -- the parts of a read of linear memory
  pub memory-put : rule_of o.opcode ≡ Some reads_memory → joined middle ≡ joined (old ++ dereference ∷ []) → joined new ≡ joined (middle ++ code o.bytes ∷ []) → joined new ≡ joined (old ++ parts_of base o)
  memory-put rule first second = joined-both old middle new (dereference ∷ []) (code o.bytes ∷ []) first second ∙ ap (λ r. joined (old ++ parts_by r base o)) (sym rule)

  -- those of a shift to the right
  pub shift-put : rule_of o.opcode ≡ Some shifts_right → joined middle ≡ joined (old ++ code moved_up ∷ []) → joined new ≡ joined (middle ++ code o.bytes ∷ []) → joined new ≡ joined (old ++ parts_of base o)
  shift-put rule first second =
      joined-both old middle new (code moved_up ∷ []) (code o.bytes ∷ []) first second
      ∙ joined-under old (code moved_up ∷ code o.bytes ∷ []) (code (moved_up ++ o.bytes) ∷ []) refl ∙ ap (λ r. joined (old ++ parts_by r base o)) (sym rule)
