-- What expressions and location lists become refers to no entry.
use Rattle.std.proofs.Common.{ℕ, ◌==◌, List, [], ◌∷◌, Bool, true, false, ◌&&◌, if◌then◌else◌, Option, Some, None, Result, Ok, Err}
use Rattle.std.specs.Option.{unwrap_or}
use Rattle.dwc_base.specs.declared.constants.TheConstants.{DW_AT_frame_base}
use Rattle.dwc_base.specs.Reading.{◌>>=◌}
use Rattle.dwc_dwarf.specs.Values.{is_location_name}
use Rattle.dwc_dwarf.specs.Trees.{Location, TreeValue, expression, locations}
use Rattle.dwc_native.specs.Parts.{CompiledParts, is_simple, single_code}
use Rattle.dwc_native.specs.BuiltExpressions.{Surroundings}
use Rattle.dwc_rules.specs.LocationAttributes.{LocationRefusal, InForce, GivenExpression, ListedExpression, compiled_at, base_for, built_at, are_equal_to, value_of_locations_built, value_of_built, value_of_code, value_over, value_of_parts, output_frame_base, value_of_attribute, value_of_expression, built_for_each, value_of_listed, value_of_locations}

-- an expression, a location list, or nothing
pub data IsLocationValue : Option TreeValue → Type 0 where
  is_nothing : IsLocationValue None
  is_expression : (bytes : List ℕ) → IsLocationValue (Some (expression bytes))
  is_list : (ls : List Location) → IsLocationValue (Some (locations ls))

-- what a result gives is one of these
abbrev pub GivesLocationValue : Result (Option TreeValue) LocationRefusal → Type 0
GivesLocationValue (Ok v) = IsLocationValue v
GivesLocationValue (Err refusal) = Unit {0}

behind : {A : Type 0} (r : Result A LocationRefusal) (f : A → Result (Option TreeValue) LocationRefusal) → ((x : A) → GivesLocationValue (f x)) → GivesLocationValue (r >>= f)
behind (Ok x) f each = each x
behind (Err refusal) f each = tt

list-or-none : (listed : Bool) (ls : List Location) → IsLocationValue (if listed then Some (locations ls) else None)
list-or-none true ls = is_list ls
list-or-none false ls = is_nothing

one-or-list : (one listed : Bool) (bytes : List ℕ) (ls : List Location) → IsLocationValue (if one then Some (expression bytes) else (if listed then Some (locations ls) else None))
one-or-list true listed bytes ls = is_expression bytes
one-or-list false listed bytes ls = list-or-none listed ls

built-located : (name : ℕ) (covers : Bool) (ls : List Location) → IsLocationValue (value_of_locations_built name covers ls)
built-located name covers [] = is_nothing
built-located name covers (l ∷ ls) = one-or-list (covers && are_equal_to l.bytes ls) (is_location_name name) l.bytes (l ∷ ls)

code-located : (bytes : List ℕ) → IsLocationValue (value_of_code bytes)
code-located [] = is_nothing
code-located (b ∷ bs) = is_expression (b ∷ bs)

over-located : (name : ℕ) (s : Surroundings) (x : CompiledParts) (scope : Option (List (ℕ × ℕ))) → GivesLocationValue (value_over name s x scope)
over-located name s x None = is_nothing
over-located name s x (Some scope) = behind (built_at s scope x) (λ built. Ok (value_of_built name built)) (λ built. built-located name built.covers_entire_scope built.expressions)

simple-or-over : (name : ℕ) (e : InForce) (x : CompiledParts) (simple : Bool) → GivesLocationValue (if simple then Ok (value_of_code (unwrap_or (single_code x.parts) [])) else value_over name e.surroundings x e.scope)
simple-or-over name e x true = code-located (unwrap_or (single_code x.parts) [])
simple-or-over name e x false = over-located name e.surroundings x e.scope

parts-located : (name : ℕ) (e : InForce) (parts : Option CompiledParts) → GivesLocationValue (value_of_parts name e parts)
parts-located name e None = is_nothing
parts-located name e (Some x) = simple-or-over name e x (is_simple x)

attribute-located : (name : ℕ) (e : InForce) (parts : Option CompiledParts) → GivesLocationValue (value_of_attribute name e parts)
attribute-located name e parts = go (name == DW_AT_frame_base)
  where
    go : (base : Bool) → GivesLocationValue (if base then Ok (Some (expression output_frame_base)) else value_of_parts name e parts)
    go true = is_expression output_frame_base
    go false = parts-located name e parts

pub expression-located : (name : ℕ) (e : InForce) (x : GivenExpression) → GivesLocationValue (value_of_expression name e x)
unfolding value_of_expression
expression-located name e x = behind (compiled_at (base_for name e) x) (value_of_attribute name e) (attribute-located name e)

listed-located : (ls : Option (List Location)) → IsLocationValue (value_of_listed ls)
listed-located None = is_nothing
listed-located (Some ls) = is_list ls

pub locations-located : (e : InForce) (xs : List ListedExpression) → GivesLocationValue (value_of_locations e xs)
unfolding value_of_locations
locations-located e xs = behind (built_for_each e xs) (λ ls. Ok (value_of_listed ls)) listed-located
