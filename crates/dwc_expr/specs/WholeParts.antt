-- Parts whose jumps all arrive, and parts that run as operations of the standard.
use Rattle.std.specs.Prelude.{◌≡◌, ℕ, List, [], ◌∷◌, length, Bool, true, false, nat_lt, ◌&&◌, ◌||◌, not, Option, Some, None, is_none, ⊤, Ok, All, filter_map}
use Rattle.std.specs.List.{list_all, list_any}
use Rattle.dwc_base.specs.Listing.{Listing}
use Rattle.dwc_dwarf.specs.Operations.{Operation}
use Rattle.dwc_dwarf.specs.Values.{is_one_of}
use Rattle.dwc_native.specs.Parts.{Part, code, local, dereference, jump, landing_pad, CompiledParts, compiled}
use Rattle.dwc_native.specs.Placed.{built_parts}
use Rattle.dwc_machines.specs.ByteMachine.{NativeRule, jumps, native_rule, native_operations}
use Rattle.dwc_machines.specs.PartMachine.{is_pad_of}

-- where a part jumps to, if it is a jump
abbrev pub jump_place : Part → Option ℕ
jump_place (jump conditionally place) = Some place
jump_place _ = None

-- the place of which a part is the landing pad, if it is one
abbrev pub pad_place : Part → Option ℕ
pad_place (landing_pad place) = Some place
pad_place _ = None

-- whether parts have a landing pad of a place
abbrev pub has_pad : List Part → ℕ → Bool
has_pad parts place = is_one_of (filter_map pad_place parts) place

-- Each jump of parts goes to a place of which they have a landing pad.
abbrev pub JumpsLand : List Part → Type 0
JumpsLand parts = All (λ place. has_pad parts place ≡ true) (filter_map jump_place parts)

-- ---- parts that run

-- operations of which none is a jump, and none is cut short
abbrev pub is_jump_rule : Option NativeRule → Bool
is_jump_rule (Some (jumps conditionally)) = true
is_jump_rule _ = false

abbrev pub is_jump_code : Operation → Bool
is_jump_code o = is_jump_rule (native_rule o.opcode)

abbrev pub are_straight : Listing ℕ Operation → Bool
are_straight l = is_none l.fault && not (list_any is_jump_code l.items)

abbrev pub is_straight : List ℕ → Bool
is_straight bytes = are_straight (native_operations bytes)

-- Among all parts, one is whole: its bytes are such and not none, its label is not trailing, and as a jump it has a landing pad.
abbrev pub is_whole_part : List Part → Part → Bool
is_whole_part ps (code c) = nat_lt 0 (length c) && is_straight c
is_whole_part ps (local label trailing) = not trailing
is_whole_part ps dereference = true
is_whole_part ps (jump conditionally place) = list_any (is_pad_of place) ps
is_whole_part ps (landing_pad place) = true

-- whether all of them are
abbrev pub are_whole : List Part → Bool
are_whole ps = list_all (is_whole_part ps) ps

-- whether parts are the place of one label
abbrev pub is_place : List Part → Bool
is_place (local label true ∷ []) = true
is_place _ = false

-- whether a compiled expression is whole as it is built, or the place of one label
abbrev pub is_whole : CompiledParts → Bool
is_whole x = are_whole (built_parts x) || (is_place x.parts && not x.need_deref)

abbrev pub IsWhole : CompiledParts → Type 0
IsWhole x = is_whole x ≡ true

abbrev pub IsWholeBase : Option CompiledParts → Type 0
IsWholeBase None = ⊤
IsWholeBase (Some x) = IsWhole x

-- The law: what an expression compiles to, on a frame base that is whole, is whole.
abbrev pub CompiledPartsAreWhole : Type 0
CompiledPartsAreWhole = (base : Option CompiledParts) (bytes : List ℕ) (x : CompiledParts) → IsWholeBase base → compiled base bytes ≡ Ok (Some x) → IsWhole x
