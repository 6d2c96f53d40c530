-- Stacks of what entries give, with each value seen by a function.
use Rattle.std.proofs.Common.{◌≡◌, ℤ, int_le, Bool, true, false, if◌then◌else◌, List, [], ◌∷◌, map, Option, Some, None, option_map, refl, ap, ◌∙◌}
use Rattle.std.specs.Prelude.{◌&&◌, option_and_then, unwrap_or}
use Rattle.dwc_rules.specs.Scopes.{Given, left_for, left_under, top_at, top_of}
use Rattle.dwc_base.specs.Wasm.{last_of}

module _ {X Y : Type 0} (f : X → Y) where
  -- an item with its value seen
  abbrev pub seen : Given X → Given Y
  seen g = (g.0, f g.1)

  -- what is left for a depth
  pub left-seen : (depth : ℤ) (gs : List (Given X)) → map seen (left_for depth gs) ≡ left_for depth (map seen gs)
  left-seen depth [] = refl
  left-seen depth (g ∷ gs) = under (left_for depth gs) ∙ ap (left_under depth (seen g)) (left-seen depth gs)
    where
      alone : (b : Bool) → map seen (if b then [] else g ∷ []) ≡ (if b then [] else seen g ∷ [])
      alone true = refl
      alone false = refl

      under : (rest : List (Given X)) → map seen (left_under depth g rest) ≡ left_under depth (seen g) (map seen rest)
      under [] = alone (int_le depth g.0)
      under (h ∷ hs) = refl

  last-seen : (gs : List (Given X)) → last_of (map seen gs) ≡ option_map seen (last_of gs)
  last-seen [] = refl
  last-seen (g ∷ gs) = ap (λ o. Some (unwrap_or o (seen g))) (last-seen gs) ∙ ap Some (default (last_of gs))
    where
      default : (o : Option (Given X)) → unwrap_or (option_map seen o) (seen g) ≡ seen (unwrap_or o g)
      default None = refl
      default (Some h) = refl

  -- the top
  pub top-seen : (gs : List (Given X)) → top_of (map seen gs) ≡ option_map f (top_of gs)
  top-seen gs = ap (option_map (λ (g : Given Y). g.1)) (last-seen gs) ∙ value (last_of gs)
    where
      value : (o : Option (Given X)) → option_map (λ (g : Given Y). g.1) (option_map seen o) ≡ option_map f (option_map (λ (g : Given X). g.1) o)
      value None = refl
      value (Some g) = refl

  -- the top, if it has a depth
  pub top-at-seen : (depth : ℤ) (gs : List (Given X)) → top_at depth (map seen gs) ≡ option_map f (top_at depth gs)
  top-at-seen depth gs = ap (option_and_then (λ (g : Given Y). if int_le depth g.0 && int_le g.0 depth then Some g.1 else None)) (last-seen gs) ∙ value (last_of gs)
    where
      one : (b : Bool) (x : X) → (if b then Some (f x) else None) ≡ option_map f (if b then Some x else None)
      one true x = refl
      one false x = refl

      value : (o : Option (Given X)) → option_and_then (λ (g : Given Y). if int_le depth g.0 && int_le g.0 depth then Some g.1 else None) (option_map seen o) ≡ option_map f (option_and_then (λ (g : Given X). if int_le depth g.0 && int_le g.0 depth then Some g.1 else None) o)
      value None = refl
      value (Some g) = one (int_le depth g.0 && int_le g.0 depth) g.1
