-- The values of a declaration's attributes, one by one.
use Rattle.std.proofs.Common.{◌≡◌, ℕ, zero, suc, ◌+◌, ◌<◌, ◌≤◌, refl, arith, add-one, drop-cons, List, [], ◌∷◌, map, drop, length, get_or, Ok, Err}
use Rattle.dwc_base.specs.declared.faults.Flaw.{Flaw}
use Rattle.dwc_base.specs.Reading.{Unread, Read, ◌>>=◌, seen_as}
use Rattle.dwc_base.specs.Abbreviations as table
use Rattle.dwc_base.specs.Sections.{Sections}
use Rattle.dwc_base.specs.Units.{UnitHeader}
use Rattle.dwc_dwarf.specs.Values.{Value, value_at}
use Rattle.dwc_dwarf.specs.Entries.{attributes_at}
use Rattle.dwc_read.specs.declared.attribute_spec.AttributeSpec.{AttributeSpec}
use Rattle.dwc_read.specs.AttributeSpecs.{spec_view}

as_seen : {A : Type 0} (x : A) (r : Read (List A)) → (r >>= λ others. Ok (x ∷ others.0, others.1)) ≡ seen_as (λ ys. x ∷ ys) r
as_seen x (Ok others) = refl
as_seen x (Err flaw) = refl

-- the attributes that are left at a place
abbrev pub specs_from : ℕ → List AttributeSpec → List table.AttributeSpec
specs_from i specs = map spec_view (drop i specs)

pub specs_from-next : (specs : List AttributeSpec) (i : ℕ) (d : AttributeSpec) → i < length specs → specs_from i specs ≡ spec_view (get_or specs i d) ∷ specs_from (i + 1) specs
specs_from-next specs i d h = rw (add-one, drop-cons specs i d) refl

module _ (s : Sections) (h : UnitHeader) (specs : List AttributeSpec) (i : ℕ) (d : AttributeSpec) (u v : Unread) where
  -- at a value, and at a flaw
  pub attributes_at-more : (x : Value) → i < length specs → value_at s h (spec_view (get_or specs i d)) u ≡ Ok (x, v)
      → attributes_at s h (specs_from i specs) u ≡ seen_as (λ ys. ((get_or specs i d).name, x) ∷ ys) (attributes_at s h (specs_from (i + 1) specs) v)
  unfolding attributes_at
  attributes_at-more x inside read = rw (specs_from-next specs i d inside) (rw (read, attributes_at) (as_seen ((get_or specs i d).name, x) (attributes_at s h (specs_from (i + 1) specs) v)))

  pub attributes_at-flaw : (flaw : Flaw) → i < length specs → value_at s h (spec_view (get_or specs i d)) u ≡ Err flaw → attributes_at s h (specs_from i specs) u ≡ Err flaw
  unfolding attributes_at
  attributes_at-flaw flaw inside read = rw (specs_from-next specs i d inside) (rw (read, attributes_at) refl)

pub drop-past : {A : Type 0} (xs : List A) (i : ℕ) → length xs ≤ i → drop i xs ≡ []
drop-past [] zero past = refl
drop-past [] (suc i) past = refl
drop-past (x ∷ xs) zero past = absurd (omega arith)
drop-past (x ∷ xs) (suc i) past = drop-past xs i (omega arith)

-- and behind the last
pub attributes_at-end : (s : Sections) (h : UnitHeader) (specs : List AttributeSpec) (i : ℕ) (u : Unread) → length specs ≤ i → attributes_at s h (specs_from i specs) u ≡ Ok ([], u)
unfolding attributes_at
attributes_at-end s h specs i u past = rw (drop-past specs i past) refl
