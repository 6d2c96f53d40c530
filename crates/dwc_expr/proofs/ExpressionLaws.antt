-- A walk over ranges that builds the expression on each.
use Rattle.std.proofs.Common.{◌≡◌, ℕ, ◌+◌, ◌<◌, List, [], ◌∷◌, ◌++◌, length, map, drop, get_or, ap, sym, ◌∙◌, append_assoc}
use Rattle.std.proofs.lemmas.List.{at_drop_more, map-append}
use Rattle.dwc_base.specs.declared.records.Address.{Address}
use Rattle.dwc_native.specs.Built.{built_bytes}
use Rattle.dwc_native.specs.Compiled.{Memory}
use Rattle.dwc_native.specs.Parts.{Part}
use Rattle.dwc_native.specs.Runs.{interval_of}
use Rattle.dwc_dwarf.specs.Trees.{Location}
use Rattle.dwc_isa.specs.Registers.{Registers}
use Rattle.dwc_addr.specs.Translations.{with_length}
use Rattle.dwc_unit.specs.declared.expressions.Expression.{Expression}
use Rattle.dwc_expr.specs.declared.ranges.cached_range.CachedValueLabelRange.{CachedValueLabelRange}
use Rattle.dwc_expr.specs.Builds.{location_view}
use Rattle.dwc_expr.specs.RangeExpressions.{location_on}
use Rattle.dwc_expr.specs.RangeSettings.{setting_in}
use Rattle.dwc_expr.proofs.CopyLaws.{interval-said}

-- an item more, seen as what is wanted of an item
views-more : {A B C : Type 0} (view : A → C) (wanted : B → C) (xs : List B) (i : ℕ) (x : B) (now new : List A) (a : A) (whole : List C) → i < length xs → x ≡ get_or xs i x → new ≡ now ++ a ∷ [] → view a ≡ wanted x
    → map view now ++ map wanted (drop i xs) ≡ whole → map view new ++ map wanted (drop (i + 1) xs) ≡ whole
views-more view wanted xs i x now new a whole inside is pushed same before =
    ap (λ ys. ys ++ map wanted (drop (i + 1) xs)) (ap (map view) pushed ∙ map-append view now (a ∷ []))
    ∙ append_assoc (map view now) (view a ∷ []) (map wanted (drop (i + 1) xs))
    ∙ ap (λ y. map view now ++ (y ∷ map wanted (drop (i + 1) xs))) (same ∙ ap wanted is)
    ∙ ap (λ ys. map view now ++ ys) (sym (at_drop_more (map wanted) xs i x inside))
    ∙ before

module _ (parts : List Part) (registers : Registers) (memory : Memory) where
  -- the expression on a range
  location-is : (r : CachedValueLabelRange) (extent : Address × ℕ) (e : Expression) → r.start < r.end → extent ≡ with_length r.func_index (r.start, r.end) → e ≡ built_bytes (setting_in r registers memory) parts
      → location_view (extent.0, extent.1, e) ≡ location_on parts registers memory r
  location-is r extent e some at built =
      ap (λ (x : Address × ℕ). location_view (x.0, x.1, e)) at
      ∙ ap {B = Location} (λ i. record { over = i; bytes = e }) (interval-said r.func_index r.start r.end some)
      ∙ ap {B = Location} (λ bytes. record { over = interval_of r.func_index (r.start, r.end); bytes = bytes }) built

  pub expression-more : (ranges : List CachedValueLabelRange) (i : ℕ) (r : CachedValueLabelRange) (now new : List (Address × ℕ × Expression)) (extent : Address × ℕ) (e : Expression) (whole : List Location)
      → i < length ranges → r ≡ get_or ranges i r → r.start < r.end → extent ≡ with_length r.func_index (r.start, r.end) → e ≡ built_bytes (setting_in r registers memory) parts → new ≡ now ++ (extent.0, extent.1, e) ∷ []
      → map location_view now ++ map (location_on parts registers memory) (drop i ranges) ≡ whole → map location_view new ++ map (location_on parts registers memory) (drop (i + 1) ranges) ≡ whole
  expression-more ranges i r now new extent e whole inside is some at built pushed before =
      views-more location_view (location_on parts registers memory) ranges i r now new (extent.0, extent.1, e) whole inside is pushed (location-is r extent e some at built) before
