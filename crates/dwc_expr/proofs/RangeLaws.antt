-- Ranges as they are gathered are those of the definition, and what is refused and built on them is what the definition says.
use Rattle.std.proofs.Common.{◌≡◌, ℕ, suc, ◌<◌, ◌^◌, ◌==◌, List, [], ◌∷◌, ◌++◌, map, length, get_or, Bool, ◌&&◌, if◌then◌else◌, Option, None, is_some, filter, filter_map, flat_map, All, refl, ap, sym, subst, ◌∙◌}
use Rattle.std.proofs.Math.Path.{fun_ext}
use Rattle.std.specs.List.{list_all, range_with_len}
use Rattle.std.specs.Option.{option_or}
use Rattle.std.specs.FinMap as finite
use Rattle.std.proofs.lemmas.List.{get_or-map, length-map}
use Rattle.std.proofs.lemmas.List.Elements.{All-head, All-tail}
use Rattle.dwc_native.specs.Compiled.{Memory, no_memory}
use Rattle.dwc_native.specs.Functions.{Function}
use Rattle.dwc_native.specs.Parts.{Part, CompiledParts}
use Rattle.dwc_native.specs.Placed.{Frame, placed, same_place, label_needed, is_byte_of, NativeRange, built_parts, reads_memory}
use Rattle.dwc_native.specs.LabelRanges.{greatest, bytes_of, ranges_among, label_ranges, all_bytes_placed}
use Rattle.dwc_native.specs.BuiltExpressions.{Surroundings, setting_at, memory_of, memory_refusals, register_refusal, place_refusals, jump_refusals, built_on, without_memory}
use Rattle.dwc_base.specs.Listing.{first_of}
use Rattle.dwc_native.specs.Runs.{interval_of}
use Rattle.dwc_dwarf.specs.Trees.{Location}
use Rattle.dwc_native.proofs.LabelRangeLaws.{label-ranges}
use Rattle.dwc_isa.specs.Registers.{Registers}
use Rattle.dwc_expr.specs.declared.ranges.cached_range.CachedValueLabelRange.{CachedValueLabelRange}
use Rattle.dwc_expr.specs.LabelRanges.{bounds_of, location_in, SaysPlaces}
use Rattle.dwc_expr.specs.NeededLabels.{HaveSameFirsts}
use Rattle.dwc_expr.specs.RangeExpressions.{IsLowRange, location_on, jumps_refused}
use Rattle.dwc_expr.specs.RangeSettings.{setting_in}
use Rattle.dwc_expr.specs.Refusals.{refusals_on}
use Rattle.dwc_expr.specs.Jumps.{unless_fit}
use Rattle.dwc_expr.proofs.FirstLaws.{same-all, same-member, same-first}
use Rattle.dwc_expr.proofs.RefusalLaws.{first-append}
use Rattle.dwc_expr.proofs.SettingLaws.{Agree, agree-among, built-same, jumps-same, registers-same}

-- ---- lists

module _ {A B : Type 0} where
  map-agrees : (f g : A → B) (xs : List A) → All (λ x. f x ≡ g x) xs → map f xs ≡ map g xs
  map-agrees f g [] same = refl
  map-agrees f g (x ∷ xs) same = ap (λ y. y ∷ map f xs) (All-head (λ x. f x ≡ g x) x xs same) ∙ ap (λ ys. g x ∷ ys) (map-agrees f g xs (All-tail (λ x. f x ≡ g x) x xs same))

module _ {A B : Type 0} where
  -- lists of which each begins as another does
  pub firsts-agree : (f g : A → List B) (xs : List A) → All (λ x. first_of (f x) ≡ first_of (g x)) xs → first_of (flat_map f xs) ≡ first_of (flat_map g xs)
  firsts-agree f g [] same = refl
  firsts-agree f g (x ∷ xs) same =
      first-append (f x) (flat_map f xs)
      ∙ ap (λ o. option_or o (first_of (flat_map f xs))) (All-head (λ x. first_of (f x) ≡ first_of (g x)) x xs same)
      ∙ ap (option_or (first_of (g x))) (firsts-agree f g xs (All-tail (λ x. first_of (f x) ≡ first_of (g x)) x xs same))
      ∙ sym (first-append (g x) (flat_map g xs))

module _ {A B C : Type 0} where
  map-of-map : (f : B → C) (g : A → B) (xs : List A) → map f (map g xs) ≡ map (λ x. f (g x)) xs
  map-of-map f g [] = refl
  map-of-map f g (x ∷ xs) = ap (λ ys. f (g x) ∷ ys) (map-of-map f g xs)

  flat_map-of-map : (f : B → List C) (g : A → B) (xs : List A) → flat_map f (map g xs) ≡ flat_map (λ x. f (g x)) xs
  flat_map-of-map f g [] = refl
  flat_map-of-map f g (x ∷ xs) = ap (λ ys. f (g x) ++ ys) (flat_map-of-map f g xs)

-- ---- labels as a set

-- the label ranges by what all labels pass
ranges_by : Option Frame → List NativeRange → ((ℕ → Bool) → Bool) → List NativeRange
ranges_by frame scope all =
    flat_map (λ function. ranges_among function (λ byte. is_byte_of scope function byte && all (λ label. is_some (placed frame function byte label))) (λ byte. all (λ label. same_place (placed frame function byte label) (placed frame function (suc byte) label)))
    0 (greatest (map (λ r. r.end) (filter (λ r. r.function == function) scope))))
    (range_with_len 0 (suc (greatest (map (λ r. r.function) scope))))

module _ (frame : Option Frame) (ms ns : List ℕ) (scope : List NativeRange) (same : HaveSameFirsts ms ns) where
  all_same : ◌≡◌ {A = (ℕ → Bool) → Bool} (λ test. list_all test ms) (λ test. list_all test ns)
  all_same = fun_ext (same-all ms ns same)

  pub same-ranges : label_ranges frame ms scope ≡ label_ranges frame ns scope
  unfolding ranges_by
  same-ranges = ap (ranges_by frame scope) all_same

  pub same-cover : all_bytes_placed frame ms scope ≡ all_bytes_placed frame ns scope
  same-cover = ap {A = (ℕ → Bool) → Bool} (λ all. list_all (λ r. list_all (λ byte. all (λ label. is_some (placed frame r.function byte label))) (bytes_of r)) scope) all_same

-- ---- ranges as they are gathered

-- What is known of ranges that are gathered for labels: those are the ones that parts need, and each range has their places.
pub record AreGathered (frame : Option Frame) (scope : List NativeRange) (labels : List ℕ) (parts : List Part) (ranges : List CachedValueLabelRange) : Type 0 where
  pub firsts : HaveSameFirsts labels (filter_map label_needed parts)
  pub bounds : map bounds_of ranges ≡ label_ranges frame labels scope
  pub places : All (SaysPlaces frame labels) ranges

-- each has a byte
pub low-ranges : (frame : Option Frame) (scope : List NativeRange) (labels : List ℕ) (ranges : List CachedValueLabelRange) → map bounds_of ranges ≡ label_ranges frame labels scope → All (λ r. r.end < 2 ^ 32) ranges → All IsLowRange ranges
low-ranges frame scope labels ranges bounds low k d inside = record { some = some k d inside; low = low k d inside }
  where
    some : (k : ℕ) (d : CachedValueLabelRange) → k < length ranges → (get_or ranges k d).start < (get_or ranges k d).end
    some k d inside =
        let of_bounds : All (λ (r : NativeRange). r.start < r.end) (map bounds_of ranges) = subst (All (λ (r : NativeRange). r.start < r.end)) (sym bounds) (label-ranges frame labels scope).nonempty in
        subst (λ (r : NativeRange). r.start < r.end) (get_or-map bounds_of ranges k d (bounds_of d) inside) (of_bounds k (bounds_of d) (subst (λ n. k < n) (sym (length-map ranges bounds_of)) inside))

module _ (functions : List Function) (frame : Option Frame) (registers : Registers) (scope : List NativeRange) (labels : List ℕ) (x : CompiledParts) (ranges : List CachedValueLabelRange) (known : AreGathered frame scope labels (built_parts x) ranges) where
  abbrev s : Surroundings
  s = record { functions = functions; frame = frame; register = λ r. finite.get registers r }

  abbrev memory : Memory
  memory = memory_of frame

  abbrev needed : List ℕ
  needed = filter_map label_needed (built_parts x)

  -- at the first byte of a range its places are those of the frame
  abbrev Agrees : CachedValueLabelRange → Type 0
  Agrees r = Agree (λ n. finite.get registers n) memory (location_in r) (λ label. placed frame r.func_index r.start label) (built_parts x)

  agree : (r : CachedValueLabelRange) → SaysPlaces frame labels r → Agrees r
  agree r says = agree-among (λ n. finite.get registers n) memory (location_in r) (λ label. placed frame r.func_index r.start label) (built_parts x)
      (λ label among. says label ∙ ap (λ b. if b then placed frame r.func_index r.start label else None) (same-member labels needed known.firsts label ∙ among))

  agree-each : All Agrees ranges
  agree-each k d inside = agree (get_or ranges k d) (known.places k d inside)

  ranges-are : label_ranges frame needed scope ≡ map bounds_of ranges
  ranges-are = sym (known.bounds ∙ same-ranges frame labels needed scope known.firsts)

  -- the expressions
  pub expressions-are : map (built_on s x) (label_ranges frame needed scope) ≡ map (location_on (built_parts x) registers memory) ranges
  expressions-are = ap (map (built_on s x)) ranges-are ∙ map-of-map (built_on s x) bounds_of ranges ∙ map-agrees (λ r. built_on s x (bounds_of r)) (location_on (built_parts x) registers memory) ranges each
    where
      each : All (λ r. built_on s x (bounds_of r) ≡ location_on (built_parts x) registers memory r) ranges
      each k d inside =
          let r = get_or ranges k d in
          ap {B = Location} (λ bytes. record { over = interval_of r.func_index (r.start, r.end); bytes = bytes }) (sym (built-same (λ n. finite.get registers n) memory (location_in r) (λ label. placed frame r.func_index r.start label) (built_parts x) (agree-each k d inside)))

  -- the first jump that is refused
  pub jumps-are : first_of (flat_map (λ r. jump_refusals x (setting_at s r)) (label_ranges frame needed scope)) ≡ first_of (flat_map (jumps_refused (built_parts x) registers memory) ranges)
  jumps-are = ap (λ rs. first_of (flat_map (λ r. jump_refusals x (setting_at s r)) rs)) ranges-are ∙ ap first_of (flat_map-of-map (λ r. jump_refusals x (setting_at s r)) bounds_of ranges) ∙ firsts-agree (λ r. jump_refusals x (setting_at s (bounds_of r))) (jumps_refused (built_parts x) registers memory) ranges each
    where
      each : All (λ r. first_of (jump_refusals x (setting_at s (bounds_of r))) ≡ first_of (jumps_refused (built_parts x) registers memory r)) ranges
      each k d inside =
          let r = get_or ranges k d in
          ap (λ b. first_of (unless_fit b)) (sym (jumps-same (λ n. finite.get registers n) memory (location_in r) (λ label. placed frame r.func_index r.start label) (built_parts x) (agree-each k d inside)))

  -- the first place that is refused
  pub places-are : (lacks : Bool) → memory_refusals memory (reads_memory x) ≡ (if lacks then without_memory ∷ [] else [])
      → first_of (flat_map (λ r. place_refusals x (setting_at s r)) (label_ranges frame needed scope)) ≡ first_of (flat_map (refusals_on lacks labels registers) ranges)
  places-are lacks same = ap (λ rs. first_of (flat_map (λ r. place_refusals x (setting_at s r)) rs)) ranges-are ∙ ap first_of (flat_map-of-map (λ r. place_refusals x (setting_at s r)) bounds_of ranges) ∙ firsts-agree (λ r. place_refusals x (setting_at s (bounds_of r))) (refusals_on lacks labels registers) ranges each
    where
      each : All (λ r. first_of (place_refusals x (setting_at s (bounds_of r))) ≡ first_of (refusals_on lacks labels registers r)) ranges
      each k d inside =
          let r = get_or ranges k d in
          ap (λ ms. first_of (ms ++ filter_map (register_refusal (setting_at s (bounds_of r))) needed)) same
          ∙ first-append (if lacks then without_memory ∷ [] else []) (filter_map (register_refusal (setting_at s (bounds_of r))) needed)
          ∙ ap (option_or (first_of (if lacks then without_memory ∷ [] else [])))
          (ap first_of (sym (registers-same (λ n. finite.get registers n) no_memory (location_in r) (λ label. placed frame r.func_index r.start label) (built_parts x) (agree-each k d inside))) ∙ sym (same-first (register_refusal (setting_in r registers no_memory)) labels needed known.firsts))
          ∙ sym (first-append (if lacks then without_memory ∷ [] else []) (filter_map (register_refusal (setting_in r registers no_memory)) labels))
