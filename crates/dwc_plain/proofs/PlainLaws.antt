-- The last of some entries above one, step by step.
use Rattle.std.proofs.Common.{◌≡◌, ℕ, ◌+◌, ◌<◌, map, length, drop, get_or, suc, List, ◌∷◌, Some, None, true, false, refl}
use Rattle.std.proofs.lemmas.Bool.{ne_eqb}
use Rattle.std.proofs.lemmas.List.Sums.{take_while-cons}
use Rattle.std.proofs.lemmas.List.{drop_more}
use Rattle.dwc_plain.specs.declared.entries.PlainEntry.{PlainEntry}
use Rattle.std.specs.Prelude.{Option, ◌==◌, not}
use Rattle.std.specs.Option.{option_or, unwrap_or}
use Rattle.dwc_rules.specs.Kept.{Placed, same_place}
use Rattle.dwc_plain.specs.PlainEntries.{last_above, entry_view}

-- the last of some things behind one, or else another
last_or : {A : Type 0} (last : Option A) (x : A) (found : Option A) → option_or last (Some x) ≡ option_or (Some (unwrap_or last x)) found
last_or None x found = refl
last_or (Some y) x found = refl

-- an entry above is the last so far
pub above_more : (e x : Placed) (xs : List Placed) (found : Option Placed) → (e.entry.offset == x.entry.offset) ≡ false → (suc x.entry.depth == e.entry.depth) ≡ true → option_or (last_above e xs) (Some x) ≡ option_or (last_above e (x ∷ xs)) found
above_more e x xs found other above = rw (take_while-cons (λ q. not (same_place e q)) x xs, other, above) (last_or (last_above e xs) x found)

-- one that is not above is passed
pub above_passes : (e x : Placed) (xs : List Placed) (found : Option Placed) → (e.entry.offset == x.entry.offset) ≡ false → (suc x.entry.depth == e.entry.depth) ≡ false → option_or (last_above e xs) found ≡ option_or (last_above e (x ∷ xs)) found
above_passes e x xs found other above = rw (take_while-cons (λ q. not (same_place e q)) x xs, other, above) refl

-- the same along the entries of a loop
pub above_more-at : (e : Placed) (es : List PlainEntry) (i : ℕ) (d : PlainEntry) (found : Option Placed) → i < length es
    → (e.entry.offset ≡ (get_or es i d).offset → ⊥) → (suc (get_or es i d).depth == e.entry.depth) ≡ true
    → option_or (last_above e (map entry_view (drop (i + 1) es))) (Some (entry_view (get_or es i d))) ≡ option_or (last_above e (map entry_view (drop i es))) found
above_more-at e es i d found inside other above =
    rw (drop_more es i d inside) (above_more e (entry_view (get_or es i d)) (map entry_view (drop (i + 1) es)) found (ne_eqb e.entry.offset (get_or es i d).offset other) above)

pub above_passes-at : (e : Placed) (es : List PlainEntry) (i : ℕ) (d : PlainEntry) (found : Option Placed) → i < length es
    → (e.entry.offset ≡ (get_or es i d).offset → ⊥) → (suc (get_or es i d).depth == e.entry.depth) ≡ false
    → option_or (last_above e (map entry_view (drop (i + 1) es))) found ≡ option_or (last_above e (map entry_view (drop i es))) found
above_passes-at e es i d found inside other above =
    rw (drop_more es i d inside) (above_passes e (entry_view (get_or es i d)) (map entry_view (drop (i + 1) es)) found (ne_eqb e.entry.offset (get_or es i d).offset other) above)
