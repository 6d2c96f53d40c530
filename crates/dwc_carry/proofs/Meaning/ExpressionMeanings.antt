-- What an attribute becomes whose value is an expression or a location list means what the expressions of the input do.
use Rattle.std.proofs.Common.{◌≡◌, ℕ, suc, inl, inr, List, [], ◌∷◌, Option, Some, None, Result, Ok, Err, Bool, true, false, refl, sym, ap, subst, ◌∙◌, arith, true≢false}
use Rattle.std.specs.Prelude.{◌==◌, ◌&&◌, if◌then◌else◌, unwrap_or, Contains, nat_lt}
use Rattle.std.proofs.lemmas.Bool.{eqb-true, le-leb, lt-ltb}
use Rattle.dwc_base.specs.declared.constants.TheConstants.{DW_AT_frame_base}
use Rattle.dwc_base.specs.Reading.{◌>>=◌}
use Rattle.dwc_base.proofs.InLists.{IsIn, in-contains, contains-in}
use Rattle.dwc_dwarf.specs.Trees as Trees
use Rattle.dwc_dwarf.specs.Trees.{Location, TreeValue, locations}
use Rattle.dwc_dwarf.specs.Values.{Value, expression}
use Rattle.dwc_native.specs.Parts.{CompiledParts, compiled, single_code, is_simple}
use Rattle.dwc_native.specs.Placed.{is_byte_of, scope_ranges}
use Rattle.dwc_native.specs.BuiltExpressions.{BuildRefusal, Surroundings, BuiltExpressions, built_over}
use Rattle.dwc_rules.specs.Kept.{Placed}
use Rattle.dwc_rules.specs.Drafts.{DraftValue, done}
use Rattle.dwc_rules.specs.Wrappers.{is_wrapped}
use Rattle.dwc_rules.specs.LocationAttributes.{LocationRefusal, of_place, of_build, InForce, GivenExpression, compiled_at, built_at, output_frame_base, value_of_built, value_of_code, value_of_parts, value_over, value_of_expression, read_expression, drafted}
use Rattle.dwc_rules.specs.LocationRules.{ExpressionSource, in_force_at, given_expression, expression_becomes}
use Rattle.dwc_expr.specs.WholeParts.{IsWhole, CompiledPartsAreWhole}
use Rattle.dwc_expr.proofs.Meaning.BuiltKinds.{code-mean, code-of}
use Rattle.dwc_carry.specs.MeaningsCarried.{IsOfExpression, IsOf, LocationMeans, MeansAtByte, IsMeantAt, ExpressionMeans, ValueMeans, IsToldBounded}
use Rattle.dwc_carry.proofs.Meaning.ToldBounds.{force-bounded, force-whole}
use Rattle.dwc_carry.proofs.Meaning.StatedMeanings.{stated, covering, not-code, IsBuiltValue, built-value}

-- ---- what compiles, and what is built

abbrev pub compiled-told : GivenExpression → Result (Option CompiledParts) ℕ → Result (Option CompiledParts) LocationRefusal
compiled-told x (Ok parts) = Ok parts
compiled-told x (Err place) = Err (of_place x.fault)

pub compiled-is : (base : Option CompiledParts) (x : GivenExpression) (r : Result (Option CompiledParts) ℕ) → compiled base x.bytes ≡ r → compiled_at base x ≡ compiled-told x r
unfolding compiled_at
compiled-is base x (Ok parts) e = rw e refl
compiled-is base x (Err place) e = rw e refl

abbrev pub built-told : Result BuiltExpressions BuildRefusal → Result BuiltExpressions LocationRefusal
built-told (Ok built) = Ok built
built-told (Err refusal) = Err (of_build refusal)

pub built-is : (s : Surroundings) (scope : List (ℕ × ℕ)) (x : CompiledParts) (r : Result BuiltExpressions BuildRefusal) → built_over s scope x ≡ r → built_at s scope x ≡ built-told r
unfolding built_at
built-is s scope x (Ok built) e = rw e refl
built-is s scope x (Err refusal) e = rw e refl

abbrev pub value_in : TreeValue → Option DraftValue → TreeValue
value_in none (Some (done v)) = v
value_in none _ = none

abbrev pub draft_in : {E : Type 0} → Result (Option DraftValue) E → Option DraftValue
draft_in (Ok o) = o
draft_in (Err refusal) = None

-- what was drafted
pub drafted-is : {E : Type 0} (o : Option TreeValue) (v : TreeValue) → ◌≡◌ {A = Result (Option DraftValue) E} (Ok (drafted o)) (Ok (Some (done v))) → o ≡ Some v
drafted-is None v h = absurd (cc)
drafted-is (Some w) v h = ap (λ (r : Result (Option DraftValue) _). Some (value_in w (draft_in r))) h

module _ (law : CompiledPartsAreWhole) (c : ExpressionSource) (e : Placed) (bounded : IsToldBounded c.told) where
  abbrev pub force : InForce
  force = in_force_at c e

  pub whole-of : (bytes : List ℕ) (x : CompiledParts) → compiled force.base bytes ≡ Ok (Some x) → IsWhole x
  whole-of bytes x h = law force.base bytes x (force-whole law c e) h

  pub locations-mean : (name : ℕ) (scope : List (ℕ × ℕ)) (x : CompiledParts) (built : BuiltExpressions) → IsOf c e name scope x → IsWhole x → built_over force.surroundings scope x ≡ Ok built → (l : Location) → IsIn l built.expressions → LocationMeans c e name l
  locations-mean name scope x built stems whole h l i =
      let found = stated force.surroundings (force-bounded c e bounded) x whole scope built h l i in
      record { scope = scope; parts = x; stems = stems; range = found.0; among = in-contains _ _ found.1; over = found.2.0; means = found.2.1 }

  -- ---- an expression

  module _ (name : ℕ) (bytes : List ℕ) (x : CompiledParts) (stems : IsOfExpression c e name x) (whole : IsWhole x) (v : TreeValue) where
    -- bytes alone
    code-value : (code : List ℕ) → single_code x.parts ≡ Some code → ExpressionMeans c e name code
    code-value code is = record {
      parts = x;
      stems = stems;
      means = λ function byte at. record {
        range = record { function = function; start = byte; end = suc byte };
        of_function = refl;
        has = ap (λ b. b && nat_lt byte (suc byte)) (le-leb byte byte (omega arith)) ∙ lt-ltb byte (suc byte) (omega arith);
        means = code-mean force.surroundings (force-bounded c e bounded) x whole code (code-of x.parts code is) (record { function = function; start = byte; end = suc byte });
      };
    }

    simple-value : (o : Option (List ℕ)) → single_code x.parts ≡ o → value_of_code (unwrap_or o []) ≡ Some v → ValueMeans c e name v
    simple-value None is h = absurd (cc)
    simple-value (Some []) is h = absurd (cc)
    simple-value (Some (b ∷ bs)) is h = subst (ValueMeans c e name) (ap (λ (o : Option TreeValue). unwrap_or o v) h) (inr (code-value (b ∷ bs) is))

    built-means : (scope : List (ℕ × ℕ)) (built : BuiltExpressions) → force.scope ≡ Some scope → is_simple x ≡ false → built_over force.surroundings scope x ≡ Ok built → IsBuiltValue built v → ValueMeans c e name v
    built-means scope built over plain h (inl is) = subst (ValueMeans c e name) (sym is) (λ l i. locations-mean name scope x built (inl (stems, over)) whole h l (contains-in built.expressions l i))
    built-means scope built over plain h (inr (code, is, covers, same)) = subst (ValueMeans c e name) (sym is) (inr (record { parts = x; stems = stems; means = at }))
      where
        at : (function byte : ℕ) → IsMeantAt c e x function byte → MeansAtByte force.surroundings x code function byte
        at function byte (inl simple) = absurd (true≢false (sym simple ∙ plain))
        at function byte (inr (other, is, among)) =
            let one : other ≡ scope = ap (λ (o : Option (List (ℕ × ℕ))). unwrap_or o scope) (sym is ∙ over) in
            covering force.surroundings (force-bounded c e bounded) x whole scope built (not-code x.parts x.need_deref plain) h covers code same function byte
            (subst (λ k. is_byte_of (scope_ranges force.surroundings.functions k) function byte ≡ true) one among)

    over-value : is_simple x ≡ false → (o : Option (List (ℕ × ℕ))) → force.scope ≡ o → (value_over name force.surroundings x o >>= λ w. Ok (drafted w)) ≡ Ok (Some (done v)) → ValueMeans c e name v
    over-value plain None over h = absurd (cc)
    over-value plain (Some scope) over h = go (built_over force.surroundings scope x) refl
      where
        go : (r : Result BuiltExpressions BuildRefusal) → built_over force.surroundings scope x ≡ r → ValueMeans c e name v
        go (Err refusal) is = let no : Err (of_build refusal) ≡ Ok (Some (done v)) = sym (ap (λ b. (b >>= λ built. Ok (value_of_built name built)) >>= λ w. Ok (drafted w)) (built-is force.surroundings scope x (Err refusal) is)) ∙ h in absurd (cc)
        go (Ok built) is =
            let yes : Ok (drafted (value_of_built name built)) ≡ Ok (Some (done v)) = sym (ap (λ b. (b >>= λ built. Ok (value_of_built name built)) >>= λ w. Ok (drafted w)) (built-is force.surroundings scope x (Ok built) is)) ∙ h in
            built-means scope built over plain is (built-value name built v (drafted-is (value_of_built name built) v yes))

    parts-value : (value_of_parts name force (Some x) >>= λ w. Ok (drafted w)) ≡ Ok (Some (done v)) → ValueMeans c e name v
    parts-value h = go (is_simple x) refl h
      where
        go : (b : Bool) → is_simple x ≡ b → ((if b then Ok (value_of_code (unwrap_or (single_code x.parts) [])) else value_over name force.surroundings x force.scope) >>= λ w. Ok (drafted w)) ≡ Ok (Some (done v)) → ValueMeans c e name v
        go true simple k = simple-value (single_code x.parts) refl (drafted-is (value_of_code (unwrap_or (single_code x.parts) [])) v k)
        go false plain k = over-value plain force.scope refl k

  pub expression-value : (before : List (ℕ × Value)) (name : ℕ) (bytes : List ℕ) (v : TreeValue) → Contains e.entry.attributes (name, expression bytes) → is_wrapped c.told.output e ≡ false → expression_becomes c e before name bytes ≡ Ok (Some (done v)) → ValueMeans c e name v
  unfolding expression_becomes value_of_expression
  expression-value before name bytes v given plain h = base (name == DW_AT_frame_base) refl (sym (ap become plain) ∙ h)
    where
      become : Bool → Result (Option DraftValue) LocationRefusal
      become b = elim b [ true ↦ (read_expression name force (given_expression c e before bytes) >>= λ r. Ok None) | false ↦ (value_of_expression name force (given_expression c e before bytes) >>= λ w. Ok (drafted w)) ]

      frame : (r : Result (Option CompiledParts) LocationRefusal) → (name == DW_AT_frame_base) ≡ true → ((r >>= λ parts. Ok (Some (Trees.expression output_frame_base))) >>= λ w. Ok (drafted w)) ≡ Ok (Some (done v)) → ValueMeans c e name v
      frame (Ok parts) is k = subst (ValueMeans c e name) (ap (λ (o : Option TreeValue). unwrap_or o v) (drafted-is (Some (Trees.expression output_frame_base)) v k)) (inl (eqb-true name DW_AT_frame_base is, refl))
      frame (Err refusal) is k = absurd (cc)

      others : (r : Result (Option CompiledParts) ℕ) → compiled force.base bytes ≡ r → ((compiled-told (given_expression c e before bytes) r >>= value_of_parts name force) >>= λ w. Ok (drafted w)) ≡ Ok (Some (done v)) → ValueMeans c e name v
      others (Ok (Some x)) is k = parts-value name bytes x (record { bytes = bytes; given = given; compiles = is }) (whole-of bytes x is) v k
      others (Ok None) is k = absurd (cc)
      others (Err place) is k = absurd (cc)

      base : (b : Bool) → (name == DW_AT_frame_base) ≡ b → ((compiled_at (if b then None else force.base) (given_expression c e before bytes) >>= λ parts. (if b then Ok (Some (Trees.expression output_frame_base)) else value_of_parts name force parts)) >>= λ w. Ok (drafted w)) ≡ Ok (Some (done v)) → ValueMeans c e name v
      base true is k = frame (compiled_at None (given_expression c e before bytes)) is k
      base false is k = others (compiled force.base bytes) refl (sym (ap (λ r. (r >>= value_of_parts name force) >>= λ w. Ok (drafted w)) (compiled-is force.base (given_expression c e before bytes) (compiled force.base bytes) refl)) ∙ k)
