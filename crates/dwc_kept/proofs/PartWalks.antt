-- A walk over the parts of an entry.
use Rattle.std.proofs.Common.{◌≡◌, ℕ, suc, ◌<◌, ◌⊎◌, ◌≢◌, List, length, ap, sym, ◌∙◌, inl, inr, arith, true}
use Rattle.dwc_kept.specs.declared.graph_entry.GraphEntry.{GraphEntry}
use Rattle.dwc_kept.specs.GraphEntries.{entry, is_part_number, AreLinked, Marking, mark, mark_all, parts_below}
use Rattle.dwc_kept.proofs.NumberLaws.{parts-linked, parts-end, parts-first}

-- an entry itself, or a part of it
pub record IsPart (es : List GraphEntry) (p part : ℕ) : Type 0 where
  pub inside : part < length es
  pub stands : (part ≡ p) ⊎ (is_part_number es p part ≡ true)

module _ (es : List GraphEntry) (linked : AreLinked es) (p : ℕ) where
  pub walk-begins : (m : Marking) → p < length es → IsPart es p (entry es p).last_part × (mark_all (parts_below es p (suc (entry es p).last_part)) m ≡ mark_all (parts_below es p (length es)) m)
  walk-begins m less =
      let link = linked.lasts p less in
      (record { inside = link.high; stands = link.stands }, ap (λ is. mark_all is m) (sym (parts-linked es linked p (length es) (entry es p).last_part link)))

  pub walk-ends : (part : ℕ) (m : Marking) → p < length es → part ≡ p → mark_all (parts_below es p (suc part)) m ≡ m
  walk-ends part m less e = ap (λ c. mark_all (parts_below es p (suc c)) m) e ∙ ap (λ is. mark_all is m) (parts-end es linked p less)

  pub is-part : (part : ℕ) → part ≢ p → IsPart es p part → is_part_number es p part ≡ true
  is-part part differs is = go is.stands
    where
      go : (part ≡ p) ⊎ (is_part_number es p part ≡ true) → is_part_number es p part ≡ true
      go (inl e) = absurd (differs e)
      go (inr h) = h

  pub walk-falls : (part : ℕ) → part ≢ p → IsPart es p part → (entry es part).previous_part < part
  walk-falls part differs is = (linked.previous p part is.inside (is-part part differs is)).high

  pub walk-goes : (part : ℕ) (m n : Marking) → part ≢ p → IsPart es p part → n ≡ mark part m → IsPart es p (entry es part).previous_part × (mark_all (parts_below es p (suc (entry es part).previous_part)) n ≡ mark_all (parts_below es p (suc part)) m)
  walk-goes part m n differs is marked =
      let here = is-part part differs is in
      let link = linked.previous p part is.inside here in (
        record { inside = omega (arith, link.high, is.inside); stands = link.stands },
        ap (λ is. mark_all is n) (sym (parts-linked es linked p part (entry es part).previous_part link)) ∙ ap (mark_all (parts_below es p part)) marked ∙ ap (λ is. mark_all is m) (sym (parts-first es linked p part here)),
      )
