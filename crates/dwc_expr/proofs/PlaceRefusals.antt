-- Walks over the labels of a range and over ranges, for the first refusal of a place.
use Rattle.std.proofs.Common.{◌≡◌, ℕ, ◌+◌, ◌<◌, List, ◌++◌, length, drop, get_or, Option, option_to_list, filter_map, flat_map, ap, sym, ◌∙◌}
use Rattle.std.specs.FinMap as finite
use Rattle.std.proofs.lemmas.List.{at_drop_more}
use Rattle.dwc_native.specs.Compiled.{Place, no_memory}
use Rattle.dwc_native.specs.BuiltExpressions.{BuildRefusal, register_refusal, register_refusal_at}
use Rattle.dwc_base.specs.Listing.{first_of}
use Rattle.dwc_isa.specs.Registers.{Registers}
use Rattle.dwc_isa.specs.declared.value_label.ValueLabel.{ValueLabel}
use Rattle.dwc_expr.specs.declared.ranges.cached_range.CachedValueLabelRange.{CachedValueLabelRange}
use Rattle.dwc_expr.specs.LabelRanges.{location_in}
use Rattle.dwc_expr.specs.NeededLabels.{numbers}
use Rattle.dwc_expr.specs.RangeSettings.{setting_in}
use Rattle.dwc_expr.proofs.RefusalLaws.{first-cons}

-- an item's refusals in front of those of the items behind it
pub split-at : {A : Type 0} (f : A → List BuildRefusal) (xs : List A) (i : ℕ) (x : A) → i < length xs → x ≡ get_or xs i x → first_of (f x ++ flat_map f (drop (i + 1) xs)) ≡ first_of (flat_map f (drop i xs))
split-at f xs i x inside is = ap (λ y. first_of (f y ++ flat_map f (drop (i + 1) xs))) is ∙ sym (at_drop_more (λ ys. first_of (flat_map f ys)) xs i x inside)

-- the same of a label and its place
pub split-label : (r : CachedValueLabelRange) (registers : Registers) (labels : List ValueLabel) (i : ℕ) (d : ValueLabel) (place : Option Place) → i < length labels → place ≡ location_in r (get_or labels i d).0
    → first_of (option_to_list (register_refusal_at (λ n. finite.get registers n) place) ++ filter_map (register_refusal (setting_in r registers no_memory)) (numbers (drop (i + 1) labels))) ≡ first_of (filter_map (register_refusal (setting_in r registers no_memory)) (numbers (drop i labels)))
split-label r registers labels i d place inside is =
    ap (λ o. first_of (option_to_list (register_refusal_at (λ n. finite.get registers n) o) ++ filter_map (register_refusal (setting_in r registers no_memory)) (numbers (drop (i + 1) labels)))) is
    ∙ first-cons (register_refusal (setting_in r registers no_memory) (get_or labels i d).0) (filter_map (register_refusal (setting_in r registers no_memory)) (numbers (drop (i + 1) labels)))
    ∙ sym (at_drop_more (λ ls. first_of (filter_map (register_refusal (setting_in r registers no_memory)) (numbers ls))) labels i d inside)
