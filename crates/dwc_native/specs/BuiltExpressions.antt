-- What an expression becomes over a scope: bytes for each range of native code on which its values lie at unchanged places, or
-- why it is refused. (This project's own rules.)
use Rattle.std.specs.Prelude.{ℕ, ◌<◌, ◌≡◌, ◌^◌, List, [], ◌∷◌, ◌++◌, map, Bool, true, false, nat_lt, if◌then◌else◌, Option, Some, None, is_some, Result, Ok, Err}
use Rattle.std.specs.List.{list_any, filter_map, flat_map}
use Rattle.dwc_native.specs.Functions.{Function}
use Rattle.dwc_base.specs.Listing.{first_of}
use Rattle.dwc_dwarf.specs.Trees.{Interval, Location}
use Rattle.dwc_native.specs.Runs.{interval_of}
use Rattle.dwc_base.specs.Reading.{◌>>=◌, is_64_bit}
use Rattle.dwc_native.specs.Compiled.{Place, in_register, at_frame_offset, Memory, no_memory, defined, imported}
use Rattle.dwc_native.specs.Parts.{CompiledParts, label_alone, single_code}
use Rattle.dwc_native.specs.Placed.{Frame, placed, built_parts, needed_labels, reads_memory, NativeRange, scope_intervals, scope_ranges}
use Rattle.dwc_native.specs.LabelRanges.{label_ranges, all_bytes_placed}
use Rattle.dwc_native.specs.Built.{Setting, built_bytes, jumps_fit}

-- Why an expression is not built: a label that it needs has a range that begins above its end; it reads the memory of a module
-- that has none; a value lies in a register that has no DWARF number; or a jump goes too far.
pub data BuildRefusal : Type 0 where
  bad_label_range : ℕ → BuildRefusal
  without_memory : BuildRefusal
  unmapped_register : ℕ → BuildRefusal
  jump_too_large : BuildRefusal

-- What surrounds the expressions of an entry: the functions of its module, the frame in force, and the DWARF numbers of
-- registers.
pub record Surroundings : Type 0 where
  pub functions : List Function
  pub frame : Option Frame
  pub register : ℕ → Option ℕ

-- the linear memory of a frame's module
abbrev pub memory_of : Option Frame → Memory
memory_of None = no_memory
memory_of (Some frame) = frame.memory

-- the setting at the first byte of a range
abbrev pub setting_at : Surroundings → NativeRange → Setting
setting_at s r = record { place = placed s.frame r.function r.start; register = s.register; memory = memory_of s.frame }

-- the ranges on which an expression is built, of the native ranges of a scope
abbrev pub ranges_built : Surroundings → List NativeRange → CompiledParts → List NativeRange
ranges_built s scope x = label_ranges s.frame (needed_labels x) scope

-- ---- refusals, in their order

-- whether a label has a range in a frame that begins above its end
abbrev pub has_bad_range : Option Frame → ℕ → Bool
has_bad_range None label = false
has_bad_range (Some frame) label = list_any (λ r. nat_lt r.end r.start) (frame.ranges_of label)

abbrev pub label_refusal : Option Frame → ℕ → Option BuildRefusal
label_refusal frame label = if has_bad_range frame label then Some (bad_label_range label) else None

-- a register without a number
abbrev pub register_refusal_at : (ℕ → Option ℕ) → Option Place → Option BuildRefusal
register_refusal_at register (Some (in_register r)) = if is_some (register r) then None else Some (unmapped_register r)
register_refusal_at register _ = None

abbrev pub register_refusal : Setting → ℕ → Option BuildRefusal
register_refusal s label = register_refusal_at s.register (s.place label)

-- the memory that is read but not there
abbrev pub memory_refusals : Memory → Bool → List BuildRefusal
memory_refusals no_memory true = without_memory ∷ []
memory_refusals _ _ = []

-- those at the places of one range: the memory first, and then registers in the order of parts
abbrev pub place_refusals : CompiledParts → Setting → List BuildRefusal
place_refusals x s = memory_refusals s.memory (reads_memory x) ++ filter_map (register_refusal s) (needed_labels x)

abbrev pub jump_refusals : CompiledParts → Setting → List BuildRefusal
jump_refusals x s = if jumps_fit s (built_parts x) then [] else jump_too_large ∷ []

-- What is refused of an expression that is not bytes alone: labels in the order in which the parts need them, then memory and
-- registers in the order of native bytes, then jumps.
abbrev pub build_refusals : Surroundings → List NativeRange → CompiledParts → List BuildRefusal
build_refusals s scope x =
    filter_map (label_refusal s.frame) (needed_labels x)
    ++ (flat_map (λ r. place_refusals x (setting_at s r)) (ranges_built s scope x)
    ++ flat_map (λ r. jump_refusals x (setting_at s r)) (ranges_built s scope x))

-- ---- what is built

-- the built expressions, in order, and whether they cover every byte of the scope
pub record BuiltExpressions : Type 0 where
  pub expressions : List Location
  pub covers_entire_scope : Bool

-- an expression on a range
abbrev pub built_on : Surroundings → CompiledParts → NativeRange → Location
built_on s x r = record { over = interval_of r.function (r.start, r.end); bytes = built_bytes (setting_at s r) (built_parts x) }

-- bytes alone are copied for each native interval of the scope
abbrev pub copied : List Interval → List ℕ → BuiltExpressions
copied scope bytes = record { expressions = map (λ i. record { over = i; bytes = bytes }) scope; covers_entire_scope = false }

-- all other parts are built on each range where their values lie
abbrev pub built_on_ranges : Surroundings → List NativeRange → CompiledParts → Result BuiltExpressions BuildRefusal
built_on_ranges s scope x = elim (first_of (build_refusals s scope x)) [
  | Some refusal ↦ Err refusal
  | None ↦ Ok (record { expressions = map (built_on s x) (ranges_built s scope x); covers_entire_scope = all_bytes_placed s.frame (needed_labels x) scope })
]

-- What an expression becomes over a scope; over an empty one it becomes nothing.
unfoldable pub built_over : Surroundings → List (ℕ × ℕ) → CompiledParts → Result BuiltExpressions BuildRefusal
built_over s [] x = Ok (record { expressions = []; covers_entire_scope = false })
built_over s (i ∷ is) x = elim (single_code x.parts) [ Some bytes ↦ Ok (copied (scope_intervals s.functions (i ∷ is)) bytes) | None ↦ built_on_ranges s (scope_ranges s.functions (i ∷ is)) x ]

-- Where the value of a label lies over a scope.
abbrev pub label_over : Surroundings → List (ℕ × ℕ) → ℕ → Result (List Location) BuildRefusal
label_over s scope label = built_over s scope (label_alone label) >>= λ built. Ok built.expressions

-- ---- bounds

-- whether a place has the bounds of its kind: a frame offset fits 64 bits
abbrev pub IsBoundedPlace : Place → Type 0
IsBoundedPlace (in_register r) = Unit {0}
IsBoundedPlace (at_frame_offset offset) = is_64_bit offset ≡ true

-- whether offsets in the context fit 32 bits
abbrev pub IsBoundedMemory : Memory → Type 0
IsBoundedMemory no_memory = Unit {0}
IsBoundedMemory (defined o) = o < 2 ^ 32
IsBoundedMemory (imported a b) = (a < 2 ^ 32) × (b < 2 ^ 32)

-- What a code generator tells is bounded: the DWARF numbers of registers fit 16 bits, frame offsets 64, and offsets in the
-- context 32. So every number in built bytes fits 64 bits, and a reader reads them back.
pub record IsBounded (s : Surroundings) : Type 0 where
  pub registers : (r number : ℕ) → s.register r ≡ Some number → number < 2 ^ 16
  pub places : (function byte label : ℕ) (place : Place) → placed s.frame function byte label ≡ Some place → IsBoundedPlace place
  pub memory : IsBoundedMemory (memory_of s.frame)
