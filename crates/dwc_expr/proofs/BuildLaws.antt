-- What is built, or why not, by what a build goes through: labels, places, jumps.
use Rattle.std.proofs.Common.{◌≡◌, ℕ, ◌==◌, List, [], ◌∷◌, ◌++◌, map, length, Bool, true, false, ◌&&◌, if◌then◌else◌, Option, Some, None, option_map, filter_map, flat_map, All, Result, Ok, Err, Bor, append-nil, refl, ap, sym, subst, ◌∙◌}
use Rattle.std.specs.FinMap as finite
use Rattle.std.specs.List.{list_any}
use Rattle.std.specs.Option.{option_or}
use Rattle.dwc_native.specs.Compiled.{Memory}
use Rattle.dwc_native.specs.Functions.{Function}
use Rattle.dwc_native.specs.Parts.{Part, CompiledParts, dereference, single_code}
use Rattle.dwc_native.specs.Placed.{Frame, label_needed, is_dereference, NativeRange, scope_intervals, scope_ranges, built_parts, reads_memory}
use Rattle.dwc_native.specs.LabelRanges.{label_ranges, all_bytes_placed}
use Rattle.dwc_dwarf.specs.Trees.{Location}
use Rattle.dwc_native.specs.BuiltExpressions.{BuildRefusal, Surroundings, BuiltExpressions, setting_at, memory_of, memory_refusals, label_refusal, place_refusals, jump_refusals, build_refusals, built_on, built_on_ranges, built_over, copied, without_memory}
use Rattle.dwc_base.specs.Listing.{first_of}
use Rattle.dwc_isa.specs.Registers.{Registers}
use Rattle.dwc_expr.specs.declared.ranges.cached_range.CachedValueLabelRange.{CachedValueLabelRange}
use Rattle.dwc_expr.specs.declared.build.built.BuiltCompiledExpression.{BuiltCompiledExpression}
use Rattle.dwc_expr.specs.declared.error.ExprError.{ExprError}
use Rattle.dwc_expr.specs.declared.frame.FunctionFrameInfo.{FunctionFrameInfo}
use Rattle.dwc_expr.specs.Builds.{Builds, IsTold, surroundings}
use Rattle.dwc_expr.specs.Errors.{refusal_told}
use Rattle.dwc_expr.specs.Frames.{told_frame, frame_of, frame_view}
use Rattle.dwc_expr.specs.LabelRanges.{Gathered, gathered_frame, gathered_of, has_interval, GivesRanges, SaysPlaces, bounds_of}
use Rattle.dwc_expr.specs.NeededLabels.{HaveSameFirsts, with_labels}
use Rattle.dwc_expr.specs.RangeExpressions.{IsLowRange, location_on, jumps_refused}
use Rattle.dwc_expr.specs.Refusals.{IsFirst, TellsFirst, refusals_on}
use Rattle.dwc_expr.specs.Varying.{Varies}
use Rattle.dwc_expr.proofs.FirstLaws.{same-first}
use Rattle.dwc_expr.proofs.RangeLaws.{AreGathered, low-ranges, same-cover, expressions-are, jumps-are, places-are}
use Rattle.dwc_expr.proofs.RefusalLaws.{first-append}

-- what an error tells of the first of some refusals is what is expected, where that refuses it
pub told : (expected : Result BuiltExpressions BuildRefusal) (refusals : List BuildRefusal) (e : ExprError) → ((r : BuildRefusal) → first_of refusals ≡ Some r → expected ≡ Err r) → TellsFirst refusals e → Builds expected (Err e)
told expected refusals e refused tells = go (refusal_told e) tells
  where
    go : (o : Option BuildRefusal) → IsFirst refusals e o → IsTold expected e o
    go None is = is
    go (Some r) is = refused r is

-- ---- the outcome, by the first refusal

module _ (functions : List Function) (frame : Option Frame) (registers : Registers) (scope : List NativeRange) (labels : List ℕ) (x : CompiledParts) where
  abbrev s : Surroundings
  s = record { functions = functions; frame = frame; register = λ r. finite.get registers r }

  abbrev needed : List ℕ
  needed = filter_map label_needed (built_parts x)

  pub refused : (r : BuildRefusal) → first_of (build_refusals s scope x) ≡ Some r → built_on_ranges s scope x ≡ Err r
  refused r is = rw (is, built_on_ranges) refl

  pub nothing-refused : first_of (build_refusals s scope x) ≡ None → built_on_ranges s scope x ≡ Ok (record { expressions = map (built_on s x) (label_ranges frame needed scope); covers_entire_scope = all_bytes_placed frame needed scope })
  nothing-refused is = rw (is, built_on_ranges) refl

  -- the three kinds of refusals in their order
  pub in-order : first_of (build_refusals s scope x)
      ≡ option_or (first_of (filter_map (label_refusal frame) needed)) (option_or (first_of (flat_map (λ r. place_refusals x (setting_at s r)) (label_ranges frame needed scope))) (first_of (flat_map (λ r. jump_refusals x (setting_at s r)) (label_ranges frame needed scope))))
  in-order =
      let places = flat_map (λ r. place_refusals x (setting_at s r)) (label_ranges frame needed scope) in
      let jumps = flat_map (λ r. jump_refusals x (setting_at s r)) (label_ranges frame needed scope) in
      first-append (filter_map (label_refusal frame) needed) (places ++ jumps) ∙ ap (option_or (first_of (filter_map (label_refusal frame) needed))) (first-append places jumps)

  module _ (firsts : HaveSameFirsts labels needed) where
    labels-first : first_of (filter_map (label_refusal frame) needed) ≡ first_of (filter_map (label_refusal frame) labels)
    labels-first = sym (same-first (label_refusal frame) labels needed firsts)

    pub labels-refused : (r : BuildRefusal) → first_of (filter_map (label_refusal frame) labels) ≡ Some r → built_on_ranges s scope x ≡ Err r
    labels-refused r is = refused r (in-order ∙ ap (λ o. option_or o (option_or (first_of (flat_map (λ r. place_refusals x (setting_at s r)) (label_ranges frame needed scope))) (first_of (flat_map (λ r. jump_refusals x (setting_at s r)) (label_ranges frame needed scope))))) (labels-first ∙ is))

  module _ (ranges : List CachedValueLabelRange) (lacks : Bool) (known : AreGathered frame scope labels (built_parts x) ranges) (lacking : memory_refusals (memory_of frame) (reads_memory x) ≡ (if lacks then without_memory ∷ [] else []))
      (labels_pass : first_of (filter_map (label_refusal frame) labels) ≡ None) where
    behind-labels : first_of (build_refusals s scope x) ≡ option_or (first_of (flat_map (refusals_on lacks labels registers) ranges)) (first_of (flat_map (jumps_refused (built_parts x) registers (memory_of frame)) ranges))
    behind-labels =
        in-order
        ∙ ap (λ o. option_or o (option_or (first_of (flat_map (λ r. place_refusals x (setting_at s r)) (label_ranges frame needed scope))) (first_of (flat_map (λ r. jump_refusals x (setting_at s r)) (label_ranges frame needed scope))))) (labels-first known.firsts ∙ labels_pass)
        ∙ ap (λ o. option_or o (first_of (flat_map (λ r. jump_refusals x (setting_at s r)) (label_ranges frame needed scope)))) (places-are functions frame registers scope labels x ranges known lacks lacking)
        ∙ ap (option_or (first_of (flat_map (refusals_on lacks labels registers) ranges))) (jumps-are functions frame registers scope labels x ranges known)

    pub places-refused : (r : BuildRefusal) → first_of (flat_map (refusals_on lacks labels registers) ranges) ≡ Some r → built_on_ranges s scope x ≡ Err r
    places-refused r is = refused r (behind-labels ∙ ap (λ o. option_or o (first_of (flat_map (jumps_refused (built_parts x) registers (memory_of frame)) ranges))) is)

    module _ (places_pass : first_of (flat_map (refusals_on lacks labels registers) ranges) ≡ None) where
      behind-places : first_of (build_refusals s scope x) ≡ first_of (flat_map (jumps_refused (built_parts x) registers (memory_of frame)) ranges)
      behind-places = behind-labels ∙ ap (λ o. option_or o (first_of (flat_map (jumps_refused (built_parts x) registers (memory_of frame)) ranges))) places_pass

      pub jumps-told : (r : BuildRefusal) → first_of (flat_map (jumps_refused (built_parts x) registers (memory_of frame)) ranges) ≡ Some r → built_on_ranges s scope x ≡ Err r
      jumps-told r is = refused r (behind-places ∙ is)

      pub all-built : (expressions : List Location) (covers : Bool) → first_of (flat_map (jumps_refused (built_parts x) registers (memory_of frame)) ranges) ≡ None → expressions ≡ map (location_on (built_parts x) registers (memory_of frame)) ranges
          → covers ≡ all_bytes_placed frame labels scope → built_on_ranges s scope x ≡ Ok (record { expressions = expressions; covers_entire_scope = covers })
      all-built expressions covers none built covered =
          nothing-refused (behind-places ∙ none)
          ∙ ap {B = Result BuiltExpressions BuildRefusal} (λ es. Ok (record { expressions = es; covers_entire_scope = all_bytes_placed frame needed scope })) (expressions-are functions frame registers scope labels x ranges known ∙ sym built)
          ∙ ap {B = Result BuiltExpressions BuildRefusal} (λ b. Ok (record { expressions = expressions; covers_entire_scope = b })) (sym (covered ∙ same-cover frame labels needed scope known.firsts))

-- ---- what is gathered

-- the frame as it is told, and as the definitions have it
pub frames-same : (f : Option (Bor FunctionFrameInfo)) → option_map frame_of (option_map (λ (x : Bor FunctionFrameInfo). told_frame x.now) f) ≡ frame_view (option_map (λ (x : Bor FunctionFrameInfo). x.now) f)
frames-same None = refl
frames-same (Some f) = refl

module _ (f : Option (Bor FunctionFrameInfo)) (functions : List Function) (intervals : List (ℕ × ℕ)) (labels : List ℕ) (ranges : List CachedValueLabelRange) (covers : Bool)
    (gives : GivesRanges (with_labels labels (gathered_of functions (option_map (λ (x : Bor FunctionFrameInfo). told_frame x.now) f) intervals)) ranges covers) where
  abbrev frame : Option Frame
  frame = frame_view (option_map (λ (x : Bor FunctionFrameInfo). x.now) f)

  bounds : map bounds_of ranges ≡ label_ranges frame labels (scope_ranges functions intervals)
  bounds = subst (λ fr. map bounds_of ranges ≡ label_ranges fr labels (scope_ranges functions intervals)) (frames-same f) gives.bounds

  pub are-gathered : (parts : List Part) → HaveSameFirsts labels (filter_map label_needed parts) → AreGathered frame (scope_ranges functions intervals) labels parts ranges
  are-gathered parts firsts = record {
    firsts = firsts;
    bounds = bounds;
    places = subst (λ fr. All (SaysPlaces fr labels) ranges) (frames-same f) gives.places;
  }

  pub gathered-low : All IsLowRange ranges
  gathered-low = low-ranges frame (scope_ranges functions intervals) labels ranges bounds gives.low

  pub gathered-cover : has_interval intervals ≡ true → covers ≡ all_bytes_placed frame labels (scope_ranges functions intervals)
  gathered-cover some = gives.cover ∙ ap (λ b. b && all_bytes_placed (option_map frame_of (option_map (λ (x : Bor FunctionFrameInfo). told_frame x.now) f)) labels (scope_ranges functions intervals)) some ∙ ap (λ fr. all_bytes_placed fr labels (scope_ranges functions intervals)) (frames-same f)

-- ---- the ways out of a build, of parts that are all those of an expression

module _ (f : Option (Bor FunctionFrameInfo)) (functions : List Function) (intervals : List (ℕ × ℕ)) (registers : Registers) (labels : List ℕ) (all : List Part) (x : CompiledParts) (is : built_parts x ≡ all) (firsts : HaveSameFirsts labels (filter_map label_needed all)) where
  abbrev its_frame : Option Frame
  its_frame = frame_view (option_map (λ (y : Bor FunctionFrameInfo). y.now) f)

  abbrev gathered : Gathered
  gathered = gathered_of functions (option_map (λ (y : Bor FunctionFrameInfo). told_frame y.now) f) intervals

  abbrev outcome : Result BuiltExpressions BuildRefusal
  outcome = built_on_ranges (surroundings functions (option_map (λ (y : Bor FunctionFrameInfo). y.now) f) registers) (scope_ranges functions intervals) x

  firsts_of_x : HaveSameFirsts labels (filter_map label_needed (built_parts x))
  firsts_of_x = subst (λ parts. HaveSameFirsts labels (filter_map label_needed parts)) (sym is) firsts

  -- a label is refused
  pub out-labels : (e : ExprError) → TellsFirst (filter_map (label_refusal (gathered_frame gathered)) labels) e → Builds outcome (Err e)
  out-labels e tells = told outcome (filter_map (label_refusal its_frame) labels) e (labels-refused functions its_frame registers (scope_ranges functions intervals) labels x firsts_of_x) (subst (λ fr. TellsFirst (filter_map (label_refusal fr) labels) e) (frames-same f) tells)

  module _ (ranges : List CachedValueLabelRange) (covers : Bool) (passed : first_of (filter_map (label_refusal (gathered_frame gathered)) labels) ≡ None) (gives : GivesRanges (with_labels labels gathered) ranges covers) (memory : Memory) (its : memory ≡ memory_of its_frame)
      (reads lacks : Bool) (read : reads ≡ list_any is_dereference all) (lacking : memory_refusals memory reads ≡ (if lacks then without_memory ∷ [] else [])) where
    known : AreGathered its_frame (scope_ranges functions intervals) labels (built_parts x) ranges
    known = are-gathered f functions intervals labels ranges covers gives (built_parts x) firsts_of_x

    lacking_x : memory_refusals (memory_of its_frame) (reads_memory x) ≡ (if lacks then without_memory ∷ [] else [])
    lacking_x = ap (λ m. memory_refusals m (reads_memory x)) (sym its) ∙ ap (λ parts. memory_refusals memory (list_any is_dereference parts)) is ∙ ap (memory_refusals memory) (sym read) ∙ lacking

    passed_x : first_of (filter_map (label_refusal its_frame) labels) ≡ None
    passed_x = ap (λ fr. first_of (filter_map (label_refusal fr) labels)) (sym (frames-same f)) ∙ passed

    -- a place is refused
    pub out-places : (e : ExprError) → TellsFirst (flat_map (refusals_on lacks labels registers) ranges) e → Builds outcome (Err e)
    out-places e tells = told outcome (flat_map (refusals_on lacks labels registers) ranges) e (places-refused functions its_frame registers (scope_ranges functions intervals) labels x ranges lacks known lacking_x passed_x) tells

    module _ (placed : first_of (flat_map (refusals_on lacks labels registers) ranges) ≡ None) where
      -- a jump is refused
      pub out-jumps : (e : ExprError) → TellsFirst (flat_map (jumps_refused all registers memory) ranges) e → Builds outcome (Err e)
      out-jumps e tells =
          told outcome (flat_map (jumps_refused (built_parts x) registers (memory_of its_frame)) ranges) e (jumps-told functions its_frame registers (scope_ranges functions intervals) labels x ranges lacks known lacking_x passed_x placed)
          (subst (λ m. TellsFirst (flat_map (jumps_refused (built_parts x) registers m) ranges) e) its (subst (λ parts. TellsFirst (flat_map (jumps_refused parts registers memory) ranges) e) (sym is) tells))

      -- all is built
      pub out-built : (expressions : List Location) → first_of (flat_map (jumps_refused all registers memory) ranges) ≡ None → expressions ≡ map (location_on all registers memory) ranges → has_interval intervals ≡ true
          → outcome ≡ Ok (record { expressions = expressions; covers_entire_scope = covers })
      out-built expressions none built some =
          all-built functions its_frame registers (scope_ranges functions intervals) labels x ranges lacks known lacking_x passed_x placed expressions covers
          (ap (λ parts. first_of (flat_map (jumps_refused parts registers (memory_of its_frame)) ranges)) is ∙ ap (λ m. first_of (flat_map (jumps_refused all registers m) ranges)) (sym its) ∙ none)
          (built ∙ ap (λ m. map (location_on all registers m) ranges) its ∙ ap (λ parts. map (location_on parts registers (memory_of its_frame)) ranges) (sym is))
          (gathered-cover f functions intervals labels ranges covers gives some)

-- ---- parts that are not operations alone, over a scope that has an interval

over-parts : (s : Surroundings) (scope : List (ℕ × ℕ)) (x : CompiledParts) → has_interval scope ≡ true → None ≡ single_code x.parts → built_over s scope x ≡ built_on_ranges s (scope_ranges s.functions scope) x
unfolding built_over
over-parts s [] x some none = absurd (cc)
over-parts s (i ∷ is) x some none = ap {B = Result BuiltExpressions BuildRefusal} (λ o. elim o [ Some bytes ↦ Ok (copied (scope_intervals s.functions (i ∷ is)) bytes) | None ↦ built_on_ranges s (scope_ranges s.functions (i ∷ is)) x ]) (sym none)

parts-all : (x : CompiledParts) → None ≡ single_code x.parts → built_parts x ≡ x.parts ++ (if x.need_deref then dereference ∷ [] else [])
parts-all x none = go x.need_deref
  where
    go : (b : Bool) → (if b then (elim (single_code x.parts) [ None ↦ x.parts ++ dereference ∷ [] | Some bytes ↦ x.parts ]) else x.parts) ≡ x.parts ++ (if b then dereference ∷ [] else [])
    go true = ap {B = List Part} (λ o. elim o [ None ↦ x.parts ++ dereference ∷ [] | Some bytes ↦ x.parts ]) (sym none)
    go false = sym (append-nil x.parts)

some-interval : (scope : List (ℕ × ℕ)) → false ≡ (length scope == 0) → has_interval scope ≡ true
some-interval [] some = absurd (cc)
some-interval (i ∷ is) some = refl

pub built-of-parts : (s : Surroundings) (scope : List (ℕ × ℕ)) (parts : List Part) (wanted : Bool) (y : CompiledParts) (result : Result BuiltCompiledExpression ExprError) → ◌≡◌ {A = CompiledParts} (record { parts = parts; need_deref = wanted }) y → None ≡ single_code parts → false ≡ (length scope == 0)
    → ((x : CompiledParts) → built_parts x ≡ parts ++ (if wanted then dereference ∷ [] else []) → Builds (built_on_ranges s (scope_ranges s.functions scope) x) result) → Builds (built_over s scope y) result
built-of-parts s scope parts wanted y result same none some built =
    let x : CompiledParts = record { parts = parts; need_deref = wanted } in
    subst (λ z. Builds (built_over s scope z) result) same (subst (λ r. Builds r result) (sym (over-parts s scope x (some-interval scope some) none)) (built x (parts-all x none)))

-- the same where no one expression holds for each byte
pub varies-of-parts : (s : Surroundings) (scope : List (ℕ × ℕ)) (parts : List Part) (wanted : Bool) (y : CompiledParts) → ◌≡◌ {A = CompiledParts} (record { parts = parts; need_deref = wanted }) y → None ≡ single_code parts → false ≡ (length scope == 0)
    → ((x : CompiledParts) → built_parts x ≡ parts ++ (if wanted then dereference ∷ [] else []) → Varies (built_on_ranges s (scope_ranges s.functions scope) x)) → Varies (built_over s scope y)
varies-of-parts s scope parts wanted y same none some built =
    let x : CompiledParts = record { parts = parts; need_deref = wanted } in
    subst (λ z. Varies (built_over s scope z)) same (subst Varies (sym (over-parts s scope x (some-interval scope some) none)) (built x (parts-all x none)))
