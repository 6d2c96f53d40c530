-- What a stack of what entries give becomes where its top is changed.
use Rattle.std.specs.Prelude.{List, [], ◌∷◌, Option}
use Rattle.std.specs.Borrow.{Lends, LendsIf, Fml, RattleType, MutBor}
use Rattle.dwc_rules.specs.Scopes.{Given}
use Rattle.dwc_extents.specs.contracts.inherited_attr.InheritedAttr.{the_row}

-- a stack with another value on its top, at the top's depth
abbrev pub with_top : {X : Type 0} → List (Given X) → X → List (Given X)
with_top [] x = []
with_top (g ∷ []) x = (g.0, x) ∷ []
with_top (g ∷ h ∷ hs) x = g ∷ with_top (h ∷ hs) x

module _ (T : RattleType) (stack : MutBor (List (Given T.Denot))) where
  -- once the borrow r ends, the top has the last value written through r, and all else is as it was
  abbrev pub lends_top : MutBor T.Denot → Fml
  lends_top r = Lends (the_row T) T stack r (with_top stack.now)

  -- the same where r is a reference, and at `None` the stack stays as it is
  abbrev pub lends_top_at : Option (MutBor T.Denot) → Fml
  lends_top_at r = LendsIf (the_row T) T stack r (with_top stack.now) stack.now
