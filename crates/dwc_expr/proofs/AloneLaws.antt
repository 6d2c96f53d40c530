-- What a local alone becomes on the parts of one range.
use Rattle.std.proofs.Common.{◌≡◌, ℕ, suc, ◌<◌, List, [], ◌∷◌, ◌++◌, map, Bool, true, false, ◌&&◌, if◌then◌else◌, Option, Some, None, option_map, option_to_list, filter_map, flat_map, Result, Ok, Err, Bor, All, append-nil, append_assoc, refl, ap, sym, subst, ◌∙◌, inl, inr, arith}
use Rattle.std.specs.Prelude.{is_some, nat_lt}
use Rattle.std.specs.FinMap as finite
use Rattle.std.specs.List.{cons_option, list_all, list_any}
use Rattle.std.specs.Option.{option_or}
use Rattle.std.proofs.lemmas.Grind.{flat_map-append}
use Rattle.std.proofs.lemmas.List.{map-append}
use Rattle.dwc_base.specs.declared.records.Address.{Address}
use Rattle.dwc_native.specs.Built.{Setting, location_bytes, value_bytes, built_bytes, jumps_fit}
use Rattle.dwc_native.specs.BuiltExpressions.{BuildRefusal, Surroundings, BuiltExpressions, setting_at, memory_of, memory_refusals, register_refusal, register_refusal_at, has_bad_range, label_refusal, bad_label_range, place_refusals, jump_refusals, build_refusals, built_on, built_on_ranges, jump_too_large}
use Rattle.dwc_native.specs.Compiled.{LabelRange, Memory, Place, in_register, at_frame_offset, no_memory, defined, imported}
use Rattle.dwc_native.specs.Functions.{Function}
use Rattle.dwc_native.specs.LabelRanges.{AreMaximal, bytes_of, label_ranges, all_bytes_placed}
use Rattle.dwc_native.specs.Parts.{CompiledParts, local}
use Rattle.dwc_native.specs.Placed.{Frame, NativeRange, built_parts, is_dereference, label_needed, placed, last_place, is_number}
use Rattle.dwc_base.specs.Listing.{first_of}
use Rattle.dwc_native.specs.Runs.{interval_of}
use Rattle.dwc_dwarf.specs.Trees.{Location}
use Rattle.dwc_base.proofs.InLists.{IsIn}
use Rattle.dwc_native.proofs.LabelRangeMaximal.{label-ranges-maximal}
use Rattle.dwc_isa.specs.Registers.{Registers}
use Rattle.dwc_unit.specs.declared.expressions.Expression.{Expression}
use Rattle.dwc_expr.specs.declared.error.ExprError.{ExprError}
use Rattle.dwc_expr.specs.declared.frame.FunctionFrameInfo.{FunctionFrameInfo}
use Rattle.dwc_expr.specs.Alone.{LeadsAlone, PutsAlone, lone_location, lone_refusals}
use Rattle.dwc_expr.specs.Builds.{Builds, location_view}
use Rattle.dwc_isa.specs.FlatRanges.{IsFlat}
use Rattle.dwc_expr.specs.Frames.{ToldFrame, told_frame, frame_of, frame_view}
use Rattle.dwc_expr.specs.OverIntervals.{PutsBuilt, put_behind}
use Rattle.dwc_expr.specs.NarrowedRanges.{Tells}
use Rattle.dwc_expr.specs.OwnPlaces.{own_function, own_ranges, place_in, are_filled, is_filled}
use Rattle.dwc_expr.specs.PlacedParts.{PlacedPart, cut_by, cuts_of, cuts_from}
use Rattle.dwc_expr.specs.RangeSettings.{with_registers}
use Rattle.dwc_expr.specs.Refusals.{TellsFirst}
use Rattle.dwc_expr.proofs.BuildLaws.{frames-same, told, refused, nothing-refused, in-order}
use Rattle.dwc_expr.proofs.CutLaws.{cuts-in, cuts-own}
use Rattle.dwc_expr.proofs.FilledLaws.{other-filled, own-filled}
use Rattle.dwc_expr.proofs.GatherLaws.{all-placed-none, bad-range}
use Rattle.dwc_expr.proofs.NarrowLaws.{part-placed, narrowed-ranges, covers-more}
use Rattle.dwc_expr.proofs.PairLaws.{in-all}
use Rattle.dwc_expr.proofs.RefusalLaws.{first-behind, told-here}
use Rattle.dwc_expr.proofs.ScopeLaws.{apart-are, apart-first}

-- ---- lists

module _ {A B C : Type 0} where
  map-in : (f : B → C) (g : A → C) (view : A → B) (xs : List A) → ((x : A) → IsIn x xs → f (view x) ≡ g x) → map f (map view xs) ≡ map g xs
  map-in f g view [] same = refl
  map-in f g view (x ∷ xs) same = ap (λ y. y ∷ map f (map view xs)) (same x (inl refl)) ∙ ap (λ ys. g x ∷ ys) (map-in f g view xs (λ y i. same y (inr i)))

  flat-in : (f : B → List C) (g : A → List C) (view : A → B) (xs : List A) → ((x : A) → IsIn x xs → f (view x) ≡ g x) → flat_map f (map view xs) ≡ flat_map g xs
  flat-in f g view [] same = refl
  flat-in f g view (x ∷ xs) same = ap (λ ys. ys ++ flat_map f (map view xs)) (same x (inl refl)) ∙ ap (λ ys. g x ++ ys) (flat-in f g view xs (λ y i. same y (inr i)))

one-option : {A : Type 0} (o : Option A) → cons_option o [] ≡ option_to_list o
one-option None = refl
one-option (Some x) = refl

first-one : {A : Type 0} (o : Option A) → first_of (cons_option o []) ≡ o
first-one None = refl
first-one (Some x) = refl

and-true : (b : Bool) → b ≡ (b && true)
and-true true = refl
and-true false = refl

or-nothing : {A : Type 0} (o : Option A) → option_or o None ≡ o
or-nothing None = refl
or-nothing (Some x) = refl

nothing-each : {A C : Type 0} (f : A → List C) (xs : List A) → ((x : A) → f x ≡ []) → flat_map f xs ≡ []
nothing-each f [] none = refl
nothing-each f (x ∷ xs) none = ap (λ ys. ys ++ flat_map f xs) (none x) ∙ nothing-each f xs none

-- ---- a local alone, in a setting

unread : (m : Memory) → memory_refusals m false ≡ []
unread no_memory = refl
unread (defined o) = refl
unread (imported a b) = refl

module _ (registers : Registers) (q : ℕ → Option Place) (memory : Memory) (label : ℕ) where
  abbrev its : Setting
  its = record { place = q; register = λ n. finite.get registers n; memory = memory }

  bytes-alone : (trailing : Bool) (place : Place) → q label ≡ Some place
      → built_bytes its (local label trailing ∷ []) ≡ (if trailing then location_bytes (with_registers registers) (Some place) else value_bytes (with_registers registers) (Some place))
  unfolding built_bytes
  bytes-alone true place at = append-nil (location_bytes its (q label)) ∙ ap (location_bytes its) at ∙ same place
    where
      same : (p : Place) → location_bytes its (Some p) ≡ location_bytes (with_registers registers) (Some p)
      same (in_register r) = refl
      same (at_frame_offset o) = refl
  bytes-alone false place at = append-nil (value_bytes its (q label)) ∙ ap (value_bytes its) at ∙ same place
    where
      same : (p : Place) → value_bytes its (Some p) ≡ value_bytes (with_registers registers) (Some p)
      same (in_register r) = refl
      same (at_frame_offset o) = refl

  fits-alone : (trailing : Bool) → jumps_fit its (local label trailing ∷ []) ≡ true
  fits-alone trailing = refl

-- ---- a walk over parts

module _ (trailing : Bool) (registers : Registers) (here rest left all : List PlacedPart) (old now : List (Address × ℕ × Expression)) (parted : left ≡ here ++ rest) (leads : LeadsAlone trailing registers left all old now) where
  split : first_of (flat_map (lone_refusals registers) here ++ flat_map (lone_refusals registers) rest) ≡ first_of (flat_map (lone_refusals registers) all)
  split = ap first_of (sym (flat_map-append (lone_refusals registers) here rest)) ∙ ap (λ ps. first_of (flat_map (lone_refusals registers) ps)) (sym parted) ∙ leads.refusals

  pub alone-more : (next : List (Address × ℕ × Expression)) (put : first_of (flat_map (lone_refusals registers) here) ≡ None) → map location_view next ≡ map location_view now ++ map (lone_location trailing registers) here → LeadsAlone trailing registers rest all old next
  alone-more next none put = record {
    expressions =
        ap (λ es. es ++ map (lone_location trailing registers) rest) put
        ∙ append_assoc (map location_view now) (map (lone_location trailing registers) here) (map (lone_location trailing registers) rest)
        ∙ ap (λ es. map location_view now ++ es) (sym (map-append (lone_location trailing registers) here rest) ∙ ap (map (lone_location trailing registers)) (sym parted))
        ∙ leads.expressions;
    refusals = first-behind (flat_map (lone_refusals registers) here) (flat_map (lone_refusals registers) rest) (flat_map (lone_refusals registers) all) split none;
  }

  pub alone-told : (e : ExprError) → TellsFirst (flat_map (lone_refusals registers) here) e → TellsFirst (flat_map (lone_refusals registers) all) e
  alone-told e tells = told-here (flat_map (lone_refusals registers) here) (flat_map (lone_refusals registers) rest) (flat_map (lone_refusals registers) all) split e tells

pub alone-begin : (trailing : Bool) (registers : Registers) (left all : List PlacedPart) (old : List (Address × ℕ × Expression)) → left ≡ all → LeadsAlone trailing registers left all old old
alone-begin trailing registers left all old same = record {
  expressions = ap (λ ps. map location_view old ++ map (lone_location trailing registers) ps) same;
  refusals = ap (λ ps. first_of (flat_map (lone_refusals registers) ps)) same;
}

pub alone-end : (trailing : Bool) (registers : Registers) (left all : List PlacedPart) (old now : List (Address × ℕ × Expression)) → left ≡ [] → LeadsAlone trailing registers left all old now
    → (first_of (flat_map (lone_refusals registers) all) ≡ None) × (map location_view now ≡ map location_view old ++ map (lone_location trailing registers) all)
alone-end trailing registers left all old now none leads = (
  sym leads.refusals ∙ ap (λ ps. first_of (flat_map (lone_refusals registers) ps)) none,
  sym (append-nil (map location_view now)) ∙ ap (λ ps. map location_view now ++ map (lone_location trailing registers) ps) (sym none) ∙ leads.expressions,
)

-- ---- what a frame tells of a label

pub tells-told :
    (f : Option ToldFrame) (label : ℕ) (own : Option ℕ) (told ps : List LabelRange) → own ≡ own_function f → told ≡ own_ranges f label → IsFlat ps → ((byte : ℕ) → last_place ps byte ≡ last_place told byte)
    → Tells (option_map frame_of f) label own ps
tells-told f label own told ps number ranges flat same = record { flat = flat; same = λ function byte. go f function byte ∙ sym (at function byte) }
  where
    at : (function byte : ℕ) → place_in own ps function byte ≡ place_in (own_function f) (own_ranges f label) function byte
    at function byte =
        ap (λ (o : Option Place). if is_number own function then o else None) (same byte)
        ∙ ap (λ rs. place_in own rs function byte) ranges
        ∙ ap (λ n. place_in n (own_ranges f label) function byte) number

    go : (g : Option ToldFrame) (function byte : ℕ) → placed (option_map frame_of g) function byte label ≡ place_in (own_function g) (own_ranges g label) function byte
    go None function byte = refl
    go (Some g) function byte = refl

pub tells-own :
    (f : Option (Bor FunctionFrameInfo)) (label : ℕ) (own : Option ℕ) (told ps : List LabelRange) → own ≡ own_function (option_map (λ (x : Bor FunctionFrameInfo). told_frame x.now) f)
    → told ≡ own_ranges (option_map (λ (x : Bor FunctionFrameInfo). told_frame x.now) f) label → IsFlat ps → ((byte : ℕ) → last_place ps byte ≡ last_place told byte)
    → Tells (frame_view (option_map (λ (x : Bor FunctionFrameInfo). x.now) f)) label own ps
tells-own f label own told ps number ranges flat same =
    subst (λ frame. Tells frame label own ps) (frames-same f) (tells-told (option_map (λ (x : Bor FunctionFrameInfo). told_frame x.now) f) label own told ps number ranges flat same)

-- no range of a label begins above its end, by those that are told
pub good-own :
    (f : Option (Bor FunctionFrameInfo)) (label : ℕ) (told : List LabelRange) (reversed : Bool) → told ≡ own_ranges (option_map (λ (x : Bor FunctionFrameInfo). told_frame x.now) f) label → reversed ≡ list_any (λ r. nat_lt r.end r.start) told → reversed ≡ false
    → has_bad_range (frame_view (option_map (λ (x : Bor FunctionFrameInfo). x.now) f)) label ≡ false
good-own f label told reversed ranges any none =
    ap (λ fr. has_bad_range fr label) (sym (frames-same f)) ∙ bad-range (option_map (λ (x : Bor FunctionFrameInfo). told_frame x.now) f) label told ranges ∙ sym any ∙ none

-- ---- the outcome on one range

module _ (functions : List Function) (frame : Option Frame) (registers : Registers) (label : ℕ) (trailing : Bool) (r : NativeRange) (x : CompiledParts) (is : built_parts x ≡ local label trailing ∷ []) where
  abbrev s : Surroundings
  s = record { functions = functions; frame = frame; register = λ n. finite.get registers n }

  abbrev outcome : Result BuiltExpressions BuildRefusal
  outcome = built_on_ranges s (r ∷ []) x

  needed-is : filter_map label_needed (built_parts x) ≡ label ∷ []
  needed-is = ap (filter_map label_needed) is

  abbrev refusal_if : Bool → Option BuildRefusal
  refusal_if b = if b then Some (bad_label_range label) else None

  label-first : (b : Bool) → has_bad_range frame label ≡ b → first_of (filter_map (label_refusal frame) (filter_map label_needed (built_parts x))) ≡ refusal_if b
  label-first b bad = ap (λ ls. first_of (filter_map (label_refusal frame) ls)) needed-is ∙ first-one (label_refusal frame label) ∙ ap refusal_if bad

  abbrev at_places : Option BuildRefusal
  at_places = first_of (flat_map (λ r. place_refusals x (setting_at s r)) (label_ranges frame (filter_map label_needed (built_parts x)) (r ∷ [])))

  abbrev at_jumps : Option BuildRefusal
  at_jumps = first_of (flat_map (λ r. jump_refusals x (setting_at s r)) (label_ranges frame (filter_map label_needed (built_parts x)) (r ∷ [])))

  -- the label is refused
  pub alone-bad : has_bad_range frame label ≡ true → outcome ≡ Err (bad_label_range label)
  alone-bad bad = refused functions frame registers (r ∷ []) [] x (bad_label_range label) (in-order functions frame registers (r ∷ []) [] x ∙ ap (λ o. option_or o (option_or at_places at_jumps)) (label-first true bad))

  module _ (some : r.start < r.end) (own : Option ℕ) (ps : List LabelRange) (t : Tells frame label own ps) (good : has_bad_range frame label ≡ false) where
    abbrev parts : List PlacedPart
    parts = cuts_from own ps 0 (r ∷ [])

    some-each : All (λ (a : NativeRange). a.start < a.end) (r ∷ [])
    some-each = in-all (λ (a : NativeRange). a.start < a.end) (r ∷ []) go
      where
        go : (y : NativeRange) → IsIn y (r ∷ []) → y.start < y.end
        go y (inl e) = subst (λ (a : NativeRange). a.start < a.end) (sym e) some
        go y (inr i) = absurd i

    whole : AreMaximal frame [] (r ∷ []) (r ∷ [])
    whole = subst (AreMaximal frame [] (r ∷ [])) (sym (apart-are (r ∷ []) (apart-first (r ∷ []) some-each))) (label-ranges-maximal frame [] (r ∷ []))

    ranges-are : label_ranges frame (filter_map label_needed (built_parts x)) (r ∷ []) ≡ map (λ p. p.bytes) parts
    ranges-are = ap (λ ls. label_ranges frame ls (r ∷ [])) needed-is ∙ sym (narrowed-ranges frame [] label (r ∷ []) own ps t (r ∷ []) whole)

    here : (p : PlacedPart) → IsIn p parts → placed frame p.bytes.function p.bytes.start label ≡ Some p.place
    here p i =
        let f = cuts-in own ps 0 (r ∷ []) p i in
        ap (λ n. placed frame n p.bytes.start label) f.cut.function ∙ part-placed frame [] label (r ∷ []) own ps t f.range f.piece p f.mine f.among f.cut p.bytes.start (omega arith) f.cut.some ∙ ap Some (sym f.cut.place)

    one-location : (p : PlacedPart) → IsIn p parts → built_on s x p.bytes ≡ lone_location trailing registers p
    one-location p i =
        ap {B = Location} (λ bytes. record { over = interval_of p.bytes.function (p.bytes.start, p.bytes.end); bytes = bytes })
        (ap (built_bytes (setting_at s p.bytes)) is ∙ bytes-alone registers (placed frame p.bytes.function p.bytes.start) (memory_of frame) label trailing p.place (here p i))

    locations-are : map (built_on s x) (label_ranges frame (filter_map label_needed (built_parts x)) (r ∷ [])) ≡ map (lone_location trailing registers) parts
    locations-are = ap (map (built_on s x)) ranges-are ∙ map-in (built_on s x) (lone_location trailing registers) (λ p. p.bytes) parts one-location

    one-refusal : (p : PlacedPart) → IsIn p parts → place_refusals x (setting_at s p.bytes) ≡ lone_refusals registers p
    one-refusal p i =
        ap (λ all. memory_refusals (memory_of frame) (list_any is_dereference all) ++ filter_map (register_refusal (setting_at s p.bytes)) (filter_map label_needed all)) is
        ∙ ap (λ ms. ms ++ cons_option (register_refusal (setting_at s p.bytes) label) []) (unread (memory_of frame))
        ∙ one-option (register_refusal (setting_at s p.bytes) label)
        ∙ ap (λ o. option_to_list (register_refusal_at (λ n. finite.get registers n) o)) (here p i)

    places-are : at_places ≡ first_of (flat_map (lone_refusals registers) parts)
    places-are =
        ap (λ rs. first_of (flat_map (λ r. place_refusals x (setting_at s r)) rs)) ranges-are
        ∙ ap first_of (flat-in (λ r. place_refusals x (setting_at s r)) (lone_refusals registers) (λ p. p.bytes) parts one-refusal)

    jumps-are : at_jumps ≡ None
    jumps-are = ap first_of (nothing-each (λ r. jump_refusals x (setting_at s r)) (label_ranges frame (filter_map label_needed (built_parts x)) (r ∷ [])) none)
      where
        none : (a : NativeRange) → jump_refusals x (setting_at s a) ≡ []
        none a = ap (λ all. if jumps_fit (setting_at s a) all then [] else (jump_too_large ∷ [])) is

    first-is : first_of (build_refusals s (r ∷ []) x) ≡ first_of (flat_map (lone_refusals registers) parts)
    first-is =
        in-order functions frame registers (r ∷ []) [] x
        ∙ ap (λ o. option_or o (option_or at_places at_jumps)) (label-first false good)
        ∙ ap (λ o. option_or at_places o) jumps-are
        ∙ or-nothing at_places
        ∙ places-are

    -- a register is refused
    pub alone-refused : (e : ExprError) → TellsFirst (flat_map (lone_refusals registers) parts) e → Builds outcome (Err e)
    alone-refused e tells = told outcome (flat_map (lone_refusals registers) parts) e (λ refusal at. refused functions frame registers (r ∷ []) [] x refusal (first-is ∙ at)) tells

    -- all is built
    pub alone-built : (expressions : List Location) (covers : Bool) → first_of (flat_map (lone_refusals registers) parts) ≡ None → expressions ≡ map (lone_location trailing registers) parts → covers ≡ are_filled own ps (r ∷ [])
        → outcome ≡ Ok (record { expressions = expressions; covers_entire_scope = covers })
    alone-built expressions covers none built covered =
        nothing-refused functions frame registers (r ∷ []) [] x (first-is ∙ none)
        ∙ ap {B = Result BuiltExpressions BuildRefusal} (λ es. Ok (record { expressions = es; covers_entire_scope = all_bytes_placed frame (filter_map label_needed (built_parts x)) (r ∷ []) })) (locations-are ∙ sym built)
        ∙ ap {B = Result BuiltExpressions BuildRefusal} (λ b. Ok (record { expressions = expressions; covers_entire_scope = b }))
        (ap (λ ls. all_bytes_placed frame ls (r ∷ [])) needed-is ∙ covers-more frame [] label (r ∷ []) own ps t (r ∷ []) whole ∙ ap (λ b. b && are_filled own ps (r ∷ [])) (all-placed-none frame (r ∷ [])) ∙ sym covered)

    -- the range is of another function
    pub alone-elsewhere : is_number own r.function ≡ false → outcome ≡ Ok (record { expressions = []; covers_entire_scope = false })
    alone-elsewhere other =
        alone-built [] false (ap (λ qs. first_of (flat_map (lone_refusals registers) qs)) none) (sym (ap (map (lone_location trailing registers)) none)) (sym (ap (λ b. b && true) (other-filled own ps r some other)))
      where
        none : parts ≡ []
        none = ap {B = List PlacedPart} (λ b. (if b then filter_map (cut_by 0 r) ps else []) ++ []) other

    -- the range is of one's own function
    module _ (mine : is_number own r.function ≡ true) where
      own-parts : parts ≡ filter_map (cut_by 0 r) ps
      own-parts = append-nil (cuts_of own ps 0 r) ∙ cuts-own own ps 0 r mine

      pub own-refused : (e : ExprError) → TellsFirst (flat_map (lone_refusals registers) (filter_map (cut_by 0 r) ps)) e → Builds outcome (Err e)
      own-refused e tells = alone-refused e (subst (λ qs. TellsFirst (flat_map (lone_refusals registers) qs) e) (sym own-parts) tells)

      pub own-built : (expressions : List Location) (covers : Bool) → first_of (flat_map (lone_refusals registers) (filter_map (cut_by 0 r) ps)) ≡ None → expressions ≡ map (lone_location trailing registers) (filter_map (cut_by 0 r) ps)
          → covers ≡ list_all (λ byte. is_some (last_place ps byte)) (bytes_of r) → outcome ≡ Ok (record { expressions = expressions; covers_entire_scope = covers })
      own-built expressions covers none built covered =
          alone-built expressions covers (ap (λ qs. first_of (flat_map (lone_refusals registers) qs)) own-parts ∙ none) (built ∙ sym (ap (map (lone_location trailing registers)) own-parts)) (covered ∙ sym (own-filled own ps r mine) ∙ and-true (is_filled own ps r))

      -- what is put behind others
      pub own-put : (old new : List (Address × ℕ × Expression)) (result : Result (Unit {0}) ExprError) → PutsAlone trailing registers (filter_map (cut_by 0 r) ps) old new result → PutsBuilt outcome old new result
      own-put old new (Ok done) put =
          ap (put_behind (map location_view old)) (own-built (map (lone_location trailing registers) (filter_map (cut_by 0 r) ps)) (list_all (λ byte. is_some (last_place ps byte)) (bytes_of r)) put.0 refl refl)
          ∙ ap {B = Result (List Location) BuildRefusal} (λ ls. Ok ls) (sym put.1)
      own-put old new (Err e) tells = own-refused e tells

-- ---- a label that has no range

no-cuts : (own : Option ℕ) (index : ℕ) (rs : List NativeRange) → cuts_from own [] index rs ≡ []
no-cuts own index [] = refl
no-cuts own index (r ∷ rs) = ap (λ ps. cuts_of own [] index r ++ ps) (no-cuts own (suc index) rs) ∙ go (is_number own r.function)
  where
    go : (b : Bool) → (if b then filter_map (cut_by index r) [] else []) ++ [] ≡ []
    go true = refl
    go false = refl

module _ (functions : List Function) (frame : Option Frame) (registers : Registers) (label : ℕ) (trailing : Bool) (rs : List NativeRange) (x : CompiledParts) (is : built_parts x ≡ local label trailing ∷ [])
    (own : Option ℕ) (t : Tells frame label own []) (good : has_bad_range frame label ≡ false) where
  abbrev around : Surroundings
  around = record { functions = functions; frame = frame; register = λ n. finite.get registers n }

  abbrev their : List NativeRange
  their = label_ranges frame (filter_map label_needed (built_parts x)) rs

  none-left : their ≡ []
  none-left =
      ap (λ parts. label_ranges frame (filter_map label_needed parts) rs) is
      ∙ sym (narrowed-ranges frame [] label rs own [] t (label_ranges frame [] rs) (label-ranges-maximal frame [] rs))
      ∙ ap (map (λ p. p.bytes)) (no-cuts own 0 (label_ranges frame [] rs))

  none-first : first_of (build_refusals around rs x) ≡ None
  none-first =
      in-order functions frame registers rs [] x
      ∙ ap (λ qs. option_or (first_of (filter_map (label_refusal frame) (filter_map label_needed (built_parts x)))) (option_or (first_of (flat_map (λ r. place_refusals x (setting_at around r)) qs)) (first_of (flat_map (λ r. jump_refusals x (setting_at around r)) qs)))) none-left
      ∙ or-nothing (first_of (filter_map (label_refusal frame) (filter_map label_needed (built_parts x))))
      ∙ ap (λ parts. first_of (filter_map (label_refusal frame) (filter_map label_needed parts))) is
      ∙ ap (λ b. first_of (cons_option (if b then Some (bad_label_range label) else None) [])) good

  pub nowhere-built : built_on_ranges around rs x ≡ Ok (record { expressions = []; covers_entire_scope = all_bytes_placed frame (filter_map label_needed (built_parts x)) rs })
  nowhere-built =
      nothing-refused functions frame registers rs [] x none-first
      ∙ ap {B = Result BuiltExpressions BuildRefusal} (λ qs. Ok (record { expressions = map (built_on around x) qs; covers_entire_scope = all_bytes_placed frame (filter_map label_needed (built_parts x)) rs })) none-left
