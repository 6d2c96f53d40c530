-- What is put behind other locations of an expression.
use Rattle.std.proofs.Common.{◌≡◌, ℕ, ◌==◌, List, [], ◌∷◌, ◌++◌, length, Bool, true, false, map, append-nil, Option, Some, None, option_map, Result, Ok, Err, Bor, refl, sym, ap, subst, ◌∙◌, arith}
use Rattle.std.specs.Prelude.{nat_lt}
use Rattle.std.specs.List.{list_any}
use Rattle.std.proofs.lemmas.Bool.{eqb-true}
use Rattle.dwc_base.specs.declared.records.Address.{Address}
use Rattle.dwc_native.specs.BuiltExpressions.{BuildRefusal, BuiltExpressions, Surroundings, built_on_ranges, built_over, has_bad_range}
use Rattle.dwc_native.specs.Compiled.{LabelRange}
use Rattle.dwc_native.specs.Functions.{Function}
use Rattle.dwc_native.specs.Parts.{CompiledParts, label_alone}
use Rattle.dwc_native.specs.Placed.{Frame, scope_ranges}
use Rattle.dwc_dwarf.specs.Trees.{Location}
use Rattle.dwc_isa.specs.FlatRanges.{Flattens}
use Rattle.dwc_isa.specs.Registers.{Registers}
use Rattle.dwc_isa.specs.ValueLabels.{range_view}
use Rattle.dwc_isa.specs.declared.value_label.ValueLocRange.{ValueLocRange}
use Rattle.dwc_unit.specs.declared.expressions.Expression.{Expression}
use Rattle.dwc_expr.specs.declared.error.ExprError.{ExprError}
use Rattle.dwc_expr.specs.declared.error.ExprError.TheVariants.{Read, TooLarge, BadLabelRange, InvalidAttributeValue, UnmappedRegister, OutOfMemory}
use Rattle.dwc_expr.specs.declared.frame.FunctionFrameInfo.{FunctionFrameInfo}
use Rattle.dwc_expr.specs.Alone.{framed}
use Rattle.dwc_expr.specs.Builds.{location_view, surroundings}
use Rattle.dwc_expr.specs.Compiles.{TellsPlace}
use Rattle.dwc_expr.specs.Frames.{frame_view, told_frame}
use Rattle.dwc_expr.specs.OverIntervals.{Puts, PutsBuilt, constant, put_behind}
use Rattle.dwc_expr.specs.NarrowedRanges.{Tells}
use Rattle.dwc_expr.specs.OwnPlaces.{own_function, own_ranges}
use Rattle.dwc_expr.proofs.CopyLaws.{copies-are, copies_of}
use Rattle.dwc_expr.proofs.AloneLaws.{good-own, nowhere-built, tells-own}

-- ---- by what is built

-- Where nothing is built nothing is put.
pub nothing-put : (expected : Result BuiltExpressions BuildRefusal) (covers : Bool) (old : List (Address × ℕ × Expression)) → expected ≡ Ok (record { expressions = []; covers_entire_scope = covers }) → PutsBuilt expected old old (Ok tt)
nothing-put expected covers old is = ap (put_behind (map location_view old)) is ∙ ap {B = Result (List Location) BuildRefusal} (λ ls. Ok ls) (append-nil (map location_view old))

-- ---- by what is compiled

module _ (s : Surroundings) (scope : List (ℕ × ℕ)) (old : List (Address × ℕ × Expression)) (r : Result (Option CompiledParts) ℕ) where
  pub unread-put : (e : ExprError) → TellsPlace r e → Puts s scope old old r (Err e)
  unread-put (Read what section offset) tells = subst (λ q. Puts s scope old old q (Err (Read what section offset))) (sym tells.2) (tells.0, tells.1, refl)
  unread-put TooLarge tells = absurd tells
  unread-put (BadLabelRange label) tells = absurd tells
  unread-put InvalidAttributeValue tells = absurd tells
  unread-put (UnmappedRegister register) tells = absurd tells
  unread-put OutOfMemory tells = go r
    where
      go : (q : Result (Option CompiledParts) ℕ) → Puts s scope old old q (Err OutOfMemory)
      go (Ok (Some x)) = refl
      go (Ok None) = refl
      go (Err place) = tt

  pub none-put : r ≡ Ok None → Puts s scope old old r (Ok false)
  none-put is = subst (λ q. Puts s scope old old q (Ok false)) (sym is) (refl, refl)

  module _ (new : List (Address × ℕ × Expression)) (x : CompiledParts) (is : r ≡ Ok (Some x)) where
    pub parts-put : PutsBuilt (built_over s scope x) old new (Ok tt) → Puts s scope old new r (Ok true)
    parts-put put = subst (λ q. Puts s scope old new q (Ok true)) (sym is) (refl, put)

    pub parts-refused : (e : ExprError) → PutsBuilt (built_over s scope x) old new (Err e) → Puts s scope old new r (Err e)
    parts-refused e told = subst (λ q. Puts s scope old new q (Err e)) (sym is) told

-- ---- a constant over an interval

pub constant-put : (fs : List Function) (frame : Option Frame) (registers : Registers) (i : ℕ × ℕ) (bytes : List ℕ) (old new : List (Address × ℕ × Expression)) → map location_view new ≡ map location_view old ++ copies_of fs bytes i
    → PutsBuilt (built_over (framed fs frame registers) (i ∷ []) (constant bytes)) old new (Ok tt)
unfolding built_over
constant-put fs frame registers i bytes old new put =
    ap {B = Result (List Location) BuildRefusal} (λ ls. Ok ls) (ap (λ ls. map location_view old ++ ls) (sym (copies-are fs bytes (i ∷ [])) ∙ append-nil (copies_of fs bytes i)) ∙ sym put)

-- ---- the place of a label over an interval

pub no-pieces : (pieces : List ValueLocRange) → (length pieces == 0) ≡ true → map range_view pieces ≡ []
no-pieces [] none = refl
no-pieces (p ∷ ps) none = absurd (omega (arith, eqb-true (length (p ∷ ps)) 0 none))

pub over-label : (s : Surroundings) (i : ℕ × ℕ) (label : ℕ) → built_over s (i ∷ []) (label_alone label) ≡ built_on_ranges s (scope_ranges s.functions (i ∷ [])) (label_alone label)
unfolding built_over
over-label s i label = refl

module _ (f : Option (Bor FunctionFrameInfo)) (label : ℕ) (pieces : List LabelRange) where
  abbrev its : Option Frame
  its = frame_view (option_map (λ (x : Bor FunctionFrameInfo). x.now) f)

  -- the ranges in which it was told to have places
  abbrev told : List LabelRange
  told = own_ranges (option_map (λ (x : Bor FunctionFrameInfo). told_frame x.now) f) label

  module _ (flat : Flattens told pieces) (good : list_any (λ (r : LabelRange). nat_lt r.end r.start) told ≡ false) where
    -- its flat ranges tell its places
    pub flat-tell : (own : Option ℕ) → own ≡ own_function (option_map (λ (x : Bor FunctionFrameInfo). told_frame x.now) f) → Tells its label own pieces
    flat-tell own number = tells-own f label own told pieces number refl flat.flat flat.same

    pub flat-good : has_bad_range its label ≡ false
    flat-good = good-own f label told (list_any (λ (r : LabelRange). nat_lt r.end r.start) told) refl refl good

    -- A label without ranges has no place.
    pub nowhere-put : (functions : List Function) (registers : Registers) (i : ℕ × ℕ) (old : List (Address × ℕ × Expression)) → pieces ≡ [] → PutsBuilt (built_over (surroundings functions (option_map (λ (x : Bor FunctionFrameInfo). x.now) f) registers) (i ∷ []) (label_alone label)) old old (Ok tt)
    nowhere-put functions registers i old empty =
        let s : Surroundings = surroundings functions (option_map (λ (x : Bor FunctionFrameInfo). x.now) f) registers in
        let own : Option ℕ = own_function (option_map (λ (x : Bor FunctionFrameInfo). told_frame x.now) f) in
        nothing-put (built_over s (i ∷ []) (label_alone label)) _ old
        (over-label s i label ∙ nowhere-built functions its registers label true (scope_ranges functions (i ∷ [])) (label_alone label) refl own (subst (λ ps. Tells its label own ps) empty (flat-tell own refl)) flat-good)
