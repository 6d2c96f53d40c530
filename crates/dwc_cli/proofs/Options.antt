-- What a value that is some was made of.
use Rattle.std.proofs.Common.{◌≡◌, Option, Some, None, Bool, true, false, refl, ap}
use Rattle.std.specs.Prelude.{option_map, option_and_then, unwrap_or}
use Rattle.dwc_map.specs.MapValues.{◌>>=◌, only_if}

pub same_some : {A : Type 0} (x y : A) → Some x ≡ Some y → x ≡ y
same_some x y e = ap (λ o. unwrap_or o x) e

pub map-some : {A B : Type 0} (f : A → B) (o : Option A) (y : B) → option_map f o ≡ Some y → (x : A) × (o ≡ Some x) × (f x ≡ y)
map-some f None y e = absurd (cc)
map-some f (Some x) y e = (x, refl, same_some (f x) y e)

pub then-some : {A B : Type 0} (f : A → Option B) (o : Option A) (y : B) → option_and_then f o ≡ Some y → (x : A) × (o ≡ Some x) × (f x ≡ Some y)
then-some f None y e = absurd (cc)
then-some f (Some x) y e = (x, refl, e)

-- what is read behind something else
pub bind-some : {A B : Type 0} (o : Option A) (next : A → Option B) (y : B) → o >>= next ≡ Some y → (x : A) × (o ≡ Some x) × (next x ≡ Some y)
bind-some None next y e = absurd (cc)
bind-some (Some x) next y e = (x, refl, e)

pub only_if-some : {A : Type 0} (b : Bool) (x y : A) → only_if b x ≡ Some y → (b ≡ true) × (x ≡ y)
only_if-some true x y e = (refl, same_some x y e)
only_if-some false x y e = absurd (cc)
