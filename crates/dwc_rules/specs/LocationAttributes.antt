-- What an attribute becomes whose value is an expression or a location list. (DWARF 4 and 5, section 2.6; this project's own rules.)
use Rattle.std.specs.Prelude.{ℕ, ◌==◌, ◌^◌, List, [], ◌∷◌, ◌++◌, length, Bool, true, nat_lt, ◌&&◌, if◌then◌else◌, Option, Some, None, Result, Ok, Err}
use Rattle.std.specs.List.{list_all}
use Rattle.std.specs.Option.{unwrap_or}
use Rattle.std.specs.Str.{bytes_eq}
use Rattle.dwc_base.specs.declared.constants.TheConstants.{DW_AT_frame_base, DW_OP_call_frame_cfa}
use Rattle.dwc_base.specs.Reading.{◌>>=◌}
use Rattle.dwc_base.specs.Sections.{Fault}
use Rattle.dwc_dwarf.specs.Values.{is_location_name}
use Rattle.dwc_dwarf.specs.Trees.{Location, TreeValue, expression, locations}
use Rattle.dwc_rules.specs.Drafts.{DraftValue, done}
use Rattle.dwc_native.specs.Parts.{CompiledParts, compiled, single_code, is_simple}
use Rattle.dwc_native.specs.BuiltExpressions.{BuildRefusal, Surroundings, BuiltExpressions, built_over}

-- why an entry's expression is refused: it cannot be read, or it is not built
pub data LocationRefusal : Type 0 where
  of_place : Fault → LocationRefusal
  of_build : BuildRefusal → LocationRefusal

-- What is in force at an entry: what surrounds its expressions, and the scope and the frame base, its own before those of its
-- ancestors.
pub record InForce : Type 0 where
  pub surroundings : Surroundings
  pub scope : Option (List (ℕ × ℕ))
  pub base : Option CompiledParts

-- an expression with what is told where it cannot be read
pub record GivenExpression : Type 0 where
  pub fault : Fault
  pub bytes : List ℕ

-- an interval of a location list of the input, with its expression
pub record ListedExpression : Type 0 where
  pub start : ℕ
  pub end : ℕ
  pub given : GivenExpression

-- what an expression compiles to, on a frame base
unfoldable pub compiled_at : Option CompiledParts → GivenExpression → Result (Option CompiledParts) LocationRefusal
compiled_at base x = go (compiled base x.bytes)
  where
    go : Result (Option CompiledParts) ℕ → Result (Option CompiledParts) LocationRefusal
    go (Ok parts) = Ok parts
    go (Err place) = Err (of_place x.fault)

-- what it is built to
unfoldable pub built_at : Surroundings → List (ℕ × ℕ) → CompiledParts → Result BuiltExpressions LocationRefusal
built_at s scope x = go (built_over s scope x)
  where
    go : Result BuiltExpressions BuildRefusal → Result BuiltExpressions LocationRefusal
    go (Ok built) = Ok built
    go (Err refusal) = Err (of_build refusal)

-- ---- an expression

-- whether some expressions are all the same
abbrev pub are_equal_to : List ℕ → List Location → Bool
are_equal_to bytes ls = list_all (λ l. bytes_eq l.bytes bytes) ls

-- what some built expressions become under a name, of which it is known whether they cover the whole scope
abbrev pub value_of_locations_built : ℕ → Bool → List Location → Option TreeValue
value_of_locations_built name covers [] = None
value_of_locations_built name covers (l ∷ ls) =
    if covers && are_equal_to l.bytes ls then Some (expression l.bytes)
    else (if is_location_name name then Some (locations (l ∷ ls)) else None)

-- What built expressions become: nothing where there are none; the one expression where they are all the same and cover the
-- whole scope; else a location list, where the attribute may be one.
abbrev pub value_of_built : ℕ → BuiltExpressions → Option TreeValue
value_of_built name b = value_of_locations_built name b.covers_entire_scope b.expressions

-- what code becomes
abbrev pub value_of_code : List ℕ → Option TreeValue
value_of_code [] = None
value_of_code bytes = Some (expression bytes)

-- what parts become over a scope, if there is one
abbrev pub value_over : ℕ → Surroundings → CompiledParts → Option (List (ℕ × ℕ)) → Result (Option TreeValue) LocationRefusal
value_over name s x None = Ok None
value_over name s x (Some scope) = built_at s scope x >>= λ built. Ok (value_of_built name built)

-- What parts become; nothing where they are not supported. A simple expression becomes its code.
abbrev pub value_of_parts : ℕ → InForce → Option CompiledParts → Result (Option TreeValue) LocationRefusal
value_of_parts name e None = Ok None
value_of_parts name e (Some x) =
    if is_simple x then Ok (value_of_code (unwrap_or (single_code x.parts) []))
    else value_over name e.surroundings x e.scope

-- the frame base of the output: the canonical frame address
abbrev pub output_frame_base : List ℕ
output_frame_base = DW_OP_call_frame_cfa ∷ []

-- the frame base on which an attribute's expression is read: a frame base is read without one
abbrev pub base_for : ℕ → InForce → Option CompiledParts
base_for name e = if name == DW_AT_frame_base then None else e.base

-- what the parts of an attribute's expression become; a frame base becomes the canonical frame address, whatever it was
abbrev pub value_of_attribute : ℕ → InForce → Option CompiledParts → Result (Option TreeValue) LocationRefusal
value_of_attribute name e parts = if name == DW_AT_frame_base then Ok (Some (expression output_frame_base)) else value_of_parts name e parts

-- What an attribute becomes whose value is an expression.
unfoldable pub value_of_expression : ℕ → InForce → GivenExpression → Result (Option TreeValue) LocationRefusal
value_of_expression name e x = compiled_at (base_for name e) x >>= value_of_attribute name e

-- ---- a location list

-- the expressions that are built for one interval, none where its expression is not supported
unfoldable pub built_for : InForce → ListedExpression → Result (Option (List Location)) LocationRefusal
built_for e x = do
  parts ← compiled_at e.base x.given
  elim parts [ None ↦ Ok None | Some p ↦ (built_at e.surroundings ((x.start, x.end) ∷ []) p >>= λ built. Ok (Some built.expressions)) ]

-- those of an interval in front of those of the intervals behind it, where there are some
abbrev pub with_locations : Option (List Location) → Option (List Location) → Option (List Location)
with_locations None others = others
with_locations (Some ls) others = Some (ls ++ unwrap_or others [])

-- those of all intervals in order, none where no expression is supported
unfoldable pub built_for_each : InForce → List ListedExpression → Result (Option (List Location)) LocationRefusal
built_for_each e [] = Ok None
built_for_each e (x ∷ xs) = do
  first ← built_for e x
  others ← built_for_each e xs
  Ok (with_locations first others)

-- what the locations of all intervals become, none where no expression is supported
abbrev pub value_of_listed : Option (List Location) → Option TreeValue
value_of_listed None = None
value_of_listed (Some ls) = Some (locations ls)

-- What an attribute becomes whose value is a location list: the list of what is built for each interval.
unfoldable pub value_of_locations : InForce → List ListedExpression → Result (Option TreeValue) LocationRefusal
value_of_locations e xs = built_for_each e xs >>= λ ls. Ok (value_of_listed ls)

-- ---- entries that are read, and not built

-- Of an entry that is wrapped the expressions are read, and nothing becomes of them.
unfoldable pub read_expression : ℕ → InForce → GivenExpression → Result (Unit {0}) LocationRefusal
read_expression name e x = compiled_at (base_for name e) x >>= λ parts. Ok tt

unfoldable pub read_locations : InForce → List ListedExpression → Result (Unit {0}) LocationRefusal
read_locations e [] = Ok tt
read_locations e (x ∷ xs) = compiled_at e.base x.given >>= λ parts. read_locations e xs

-- ---- what else is asked of expressions

-- the frame base that an attribute's expression gives, where it is supported
unfoldable pub base_of_expression : List ℕ → Option CompiledParts
base_of_expression bytes = go (compiled None bytes)
  where
    go : Result (Option CompiledParts) ℕ → Option CompiledParts
    go (Ok parts) = parts
    go (Err place) = None

-- a location list has no expression of more than 65,535 bytes, as each has its length in two
abbrev pub has_short_expressions : TreeValue → Bool
has_short_expressions (locations ls) = list_all (λ l. nat_lt (length l.bytes) (2 ^ 16)) ls
has_short_expressions _ = true

-- a value of an output entry before places are known
abbrev pub drafted : Option TreeValue → Option DraftValue
drafted None = None
drafted (Some v) = Some (done v)
