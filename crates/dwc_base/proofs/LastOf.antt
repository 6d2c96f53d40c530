-- The last of some things, and of one more.
use Rattle.std.proofs.Common.{◌≡◌, List, [], ◌∷◌, ◌++◌, refl, ap, ◌∙◌, Option, Some, None}
use Rattle.std.specs.Option.{unwrap_or}
use Rattle.std.specs.List.{filter_map, cons_option}
use Rattle.std.proofs.lemmas.List.{append-nil}
use Rattle.std.proofs.lemmas.List.Elements.{filter_map-append}
use Rattle.dwc_base.specs.Wasm.{last_of}

-- the last of some things and one more is that one
pub last_of-push : {A : Type 0} (xs : List A) (x : A) → last_of (xs ++ x ∷ []) ≡ Some x
last_of-push [] x = refl
last_of-push (y ∷ ys) x = ap (λ o. Some (unwrap_or o y)) (last_of-push ys x)

-- or one before it, where there is no more
last_of-option : {A : Type 0} (xs : List A) (o : Option A) (d : A) → unwrap_or (last_of (xs ++ cons_option o [])) d ≡ unwrap_or o (unwrap_or (last_of xs) d)
last_of-option xs None d = ap (λ ys. unwrap_or (last_of ys) d) (append-nil xs)
last_of-option xs (Some x) d = ap (λ o. unwrap_or o d) (last_of-push xs x)

-- of one thing more, the last that passes is it or the one before
pub last_of-more : {A B : Type 0} (f : A → Option B) (xs : List A) (x : A) (d : B) → unwrap_or (last_of (filter_map f (xs ++ x ∷ []))) d ≡ unwrap_or (f x) (unwrap_or (last_of (filter_map f xs)) d)
last_of-more f xs x d = ap (λ ys. unwrap_or (last_of ys) d) (filter_map-append f xs (x ∷ [])) ∙ last_of-option (filter_map f xs) (f x) d
