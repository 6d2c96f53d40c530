-- The first of some refusals, as a walk that looks for it finds it.
use Rattle.std.proofs.Common.{◌≡◌, List, [], ◌∷◌, ◌++◌, Option, Some, None, option_to_list, refl, ap, sym, ◌∙◌}
use Rattle.std.specs.List.{cons_option}
use Rattle.std.specs.Option.{option_or}
use Rattle.dwc_native.specs.BuiltExpressions.{BuildRefusal}
use Rattle.dwc_base.specs.Listing.{first_of}
use Rattle.dwc_expr.specs.declared.error.ExprError.{ExprError}
use Rattle.dwc_expr.specs.Errors.{refusal_told}
use Rattle.dwc_expr.specs.Refusals.{IsFirst, TellsFirst}

-- the first of two lists
pub first-append : {A : Type 0} (xs ys : List A) → first_of (xs ++ ys) ≡ option_or (first_of xs) (first_of ys)
first-append [] ys = refl
first-append (x ∷ xs) ys = refl

-- one that there may be, in front of others
pub first-cons : {A : Type 0} (o : Option A) (xs : List A) → first_of (option_to_list o ++ xs) ≡ first_of (cons_option o xs)
first-cons None xs = refl
first-cons (Some x) xs = refl

-- what is refused here, and of the rest, where both together are refused as the whole is
module _ (here rest whole : List BuildRefusal) (split : first_of (here ++ rest) ≡ first_of whole) where
  -- nothing here: the rest decides
  pub first-behind : first_of here ≡ None → first_of rest ≡ first_of whole
  first-behind none = sym (first-append here rest ∙ ap (λ o. option_or o (first_of rest)) none) ∙ split

  -- what an error tells of what is here, it tells of the whole
  pub told-here : (e : ExprError) → TellsFirst here e → TellsFirst whole e
  told-here e tells = go (refusal_told e) tells
    where
      go : (o : Option BuildRefusal) → IsFirst here e o → IsFirst whole e o
      go None is = is
      go (Some refusal) is = sym split ∙ first-append here rest ∙ ap (λ o. option_or o (first_of rest)) is
