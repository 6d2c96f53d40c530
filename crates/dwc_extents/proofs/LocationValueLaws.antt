-- What attributes become whose values are expressions.
use Rattle.std.proofs.Common.{◌≡◌, ℕ, ◌==◌, ◌&&◌, List, [], ◌∷◌, length, get_or, map, true, false, if◌then◌else◌, Bool, Some, None, Ok, Err, refl, sym, ap, subst, ◌∙◌}
use Rattle.std.specs.Prelude.{◌≢◌, Option, Result}
use Rattle.std.proofs.lemmas.Bool.{ne_eqb}
use Rattle.dwc_base.specs.declared.records.Address.{Address}
use Rattle.dwc_base.specs.declared.section_name.SectionName.{SectionName}
use Rattle.dwc_base.specs.declared.constants.TheConstants.{DW_AT_frame_base}
use Rattle.dwc_dwarf.specs.Trees.{Location, TreeValue, expression, locations}
use Rattle.dwc_dwarf.specs.Values.{is_location_name}
use Rattle.dwc_native.specs.Parts.{CompiledParts, compiled}
use Rattle.dwc_native.specs.BuiltExpressions.{BuildRefusal, BuiltExpressions, Surroundings, built_over}
use Rattle.dwc_rules.specs.LocationAttributes.{GivenExpression, InForce, LocationRefusal, are_equal_to, base_for, built_at, compiled_at, output_frame_base, read_expression, value_of_attribute, value_of_built, value_of_expression, value_of_locations_built, value_of_parts, value_over}
use Rattle.dwc_unit.specs.declared.expressions.Expression.{Expression}
use Rattle.dwc_expr.specs.declared.build.built.BuiltCompiledExpression.{BuiltCompiledExpression}
use Rattle.dwc_expr.specs.declared.error.ExprError.{ExprError}
use Rattle.dwc_expr.specs.declared.error.ExprError.TheVariants.{Read, TooLarge, BadLabelRange, InvalidAttributeValue, UnmappedRegister, OutOfMemory}
use Rattle.dwc_expr.specs.Builds.{Builds, built_view, location_view}
use Rattle.dwc_expr.specs.Compiles.{TellsPlace}
use Rattle.dwc_expr.specs.Varying.{Varies, is_one}
use Rattle.dwc_extents.specs.LocationValues.{GivesTold, RefusesTold, are_alike, error_at, expression_at, told}

-- ---- compiled where they stand

pub compiled-is : (base : Option CompiledParts) (x : GivenExpression) (parts : Option CompiledParts) → compiled base x.bytes ≡ Ok parts → compiled_at base x ≡ Ok parts
unfolding compiled_at
compiled-is base x parts is = rw (is, compiled_at) refl

pub compiled-told : (base : Option CompiledParts) (bytes : List ℕ) (place : SectionName × ℕ) (e : ExprError) → TellsPlace (compiled base bytes) e → RefusesTold (compiled_at base (expression_at bytes place)) (told (error_at place e))
unfolding compiled_at
compiled-told base bytes place (Read what section offset) tells = rw (tells.0, tells.2, compiled_at) refl
compiled-told base bytes place TooLarge tells = absurd tells
compiled-told base bytes place (BadLabelRange label) tells = absurd tells
compiled-told base bytes place InvalidAttributeValue tells = absurd tells
compiled-told base bytes place (UnmappedRegister register) tells = absurd tells
compiled-told base bytes place OutOfMemory tells = tt

-- ---- expressions of attributes

module _ (name : ℕ) (e : InForce) (x : GivenExpression) (base : Option CompiledParts) (own : base ≡ base_for name e) where
  pub read-is : (parts : Option CompiledParts) → compiled_at base x ≡ Ok parts → read_expression name e x ≡ Ok tt
  unfolding read_expression
  read-is parts is = rw (sym own, is) refl

  pub read-told : (o : Option LocationRefusal) → RefusesTold (compiled_at base x) o → RefusesTold (read_expression name e x) o
  unfolding read_expression
  read-told None tells = tt
  read-told (Some refusal) tells = rw (sym own, tells) refl

  -- what its parts become, or why they are refused
  pub value-told : (o : Option LocationRefusal) → RefusesTold (compiled_at base x) o → RefusesTold (value_of_expression name e x) o
  unfolding value_of_expression
  value-told None tells = tt
  value-told (Some refusal) tells = rw (sym own, tells) refl

  pub value-is : (parts : Option CompiledParts) → compiled_at base x ≡ Ok parts → value_of_expression name e x ≡ value_of_attribute name e parts
  unfolding value_of_expression
  value-is parts is = rw (sym own, is) refl

  -- a frame base
  pub value-of-base : name ≡ DW_AT_frame_base → (parts : Option CompiledParts) → compiled_at base x ≡ Ok parts → value_of_expression name e x ≡ Ok (Some (expression output_frame_base))
  value-of-base named parts is = value-is parts is ∙ subst (λ n. value_of_attribute n e parts ≡ Ok (Some (expression output_frame_base))) (sym named) refl

  -- another attribute
  pub value-of-other : name ≢ DW_AT_frame_base → (parts : Option CompiledParts) → compiled_at base x ≡ Ok parts → value_of_expression name e x ≡ value_of_parts name e parts
  value-of-other named parts is = value-is parts is ∙ rw (ne_eqb name DW_AT_frame_base named) refl

-- ---- built over a scope

pub built-told : (s : Surroundings) (scope : List (ℕ × ℕ)) (x : CompiledParts) (r : Result BuiltCompiledExpression ExprError) → Builds (built_over s scope x) r → GivesTold built_view told (built_at s scope x) r
unfolding built_at
built-told s scope x (Ok built) is = rw (is, built_at) refl
built-told s scope x (Err (Read what section offset)) is = absurd (cc)
built-told s scope x (Err TooLarge) is = rw (is, built_at) refl
built-told s scope x (Err (BadLabelRange label)) is = rw (is, built_at) refl
built-told s scope x (Err InvalidAttributeValue) is = rw (is, built_at) refl
built-told s scope x (Err (UnmappedRegister register)) is = rw (is, built_at) refl
built-told s scope x (Err OutOfMemory) is = tt

-- ---- what built expressions become

-- The one expression where it holds for each byte of a scope.
pub one-built : (name : ℕ) (es : List (Address × ℕ × Expression)) (covers : Bool) (first : Expression) → (length es == 0) ≡ false → ((d : Address × ℕ × Expression) → first ≡ (get_or es 0 d).2) → (covers && are_alike (map location_view es)) ≡ true
    → Some (expression first) ≡ value_of_built name (record { expressions = map location_view es; covers_entire_scope = covers })
one-built name [] covers first some is same = absurd (cc)
one-built name (e ∷ es) covers first some is same = rw same (ap {B = Option TreeValue} (λ (x : Expression). Some (expression x)) (is e))

-- ---- what varies over a scope

-- where no one expression holds for each byte, nothing is built under a name that is no location name
none-built : (name : ℕ) (covers : Bool) (ls : List Location) → is_location_name name ≡ false → is_one covers ls ≡ false → value_of_locations_built name covers ls ≡ None
none-built name covers [] named varies = refl
none-built name covers (l ∷ ls) named varies =
    ap {B = Option TreeValue} (λ b. if b then Some (expression l.bytes) else (if is_location_name name then Some (locations (l ∷ ls)) else None)) varies
    ∙ ap {B = Option TreeValue} (λ b. if b then Some (locations (l ∷ ls)) else None) named

pub varies-nothing : (name : ℕ) (s : Surroundings) (scope : List (ℕ × ℕ)) (x : CompiledParts) → is_location_name name ≡ false → Varies (built_over s scope x) → value_over name s x (Some scope) ≡ Ok None
unfolding built_at
varies-nothing name s scope x named varies = go (built_over s scope x) refl varies
  where
    go : (r : Result BuiltExpressions BuildRefusal) → built_over s scope x ≡ r → Varies r → value_over name s x (Some scope) ≡ Ok None
    go (Ok b) is v = rw (is, built_at) (ap {B = Result (Option TreeValue) LocationRefusal} (λ o. Ok o) (none-built name b.covers_entire_scope b.expressions named v))
    go (Err refusal) is v = absurd v
