-- What all items of a list have, each item in it has.
use Rattle.std.proofs.Common.{List, subst}
use Rattle.std.specs.Prelude.{All}
use Rattle.dwc_base.proofs.InLists.{IsIn, in-at}

-- what all items have, each has
pub all-in : {A : Type 0} (P : A → Type 0) (xs : List A) (x : A) → All P xs → IsIn x xs → P x
all-in P xs x all i = let found = in-at xs x i in subst P found.2 (all found.0 x found.1)
