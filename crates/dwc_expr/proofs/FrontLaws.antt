-- Lists in front of others.
use Rattle.std.proofs.Common.{◌≡◌, ◌++◌, [], ◌∙◌, List, ap, refl, subst, sym}
use Rattle.std.proofs.lemmas.List.{append-nil, append_assoc}
use Rattle.dwc_expr.specs.OverIntervals.{IsFront}

pub front_same : {A : Type 0} (xs ys : List A) → ys ≡ xs → IsFront xs ys
front_same xs ys same = record { rest = []; is = same ∙ sym (append-nil xs) }

pub front_more : {A : Type 0} (xs ys zs : List A) → zs ≡ xs ++ ys → IsFront xs zs
front_more xs ys zs is = record { rest = ys; is = is }

pub front_behind : {A : Type 0} (xs ys zs : List A) → IsFront xs ys → IsFront ys zs → IsFront xs zs
front_behind xs ys zs f g = record { rest = f.rest ++ g.rest; is = g.is ∙ (ap (λ l. l ++ g.rest) f.is ∙ append_assoc xs f.rest g.rest) }
