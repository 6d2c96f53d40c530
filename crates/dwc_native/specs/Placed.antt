-- Where the values lie that an expression needs, byte by byte of the native code. (This project's own rules.)
use Rattle.std.specs.Prelude.{ℕ, ◌==◌, List, [], ◌∷◌, ◌++◌, map, Bool, true, false, nat_lt, nat_le, ◌&&◌, if◌then◌else◌, Option, Some, None, is_some}
use Rattle.std.specs.Ordering.{int_eq}
use Rattle.std.specs.Option.{option_or}
use Rattle.std.specs.List.{list_all, list_any, filter_map, flat_map}
use Rattle.dwc_native.specs.Functions.{Function}
use Rattle.dwc_dwarf.specs.Trees.{Interval}
use Rattle.dwc_native.specs.Runs.{native_in_function, native}
use Rattle.dwc_native.specs.Compiled.{Place, in_register, at_frame_offset, LabelRange, Memory}
use Rattle.dwc_native.specs.Parts.{Part, local, dereference, CompiledParts, context_label, single_code}

-- ---- the parts as they are built, and the labels that they need

-- An address that is the result is made one of the native code behind the last part. Bytes alone stay as they are.
abbrev pub built_parts : CompiledParts → List Part
built_parts x = if x.need_deref then (elim (single_code x.parts) [ None ↦ x.parts ++ dereference ∷ [] | Some bytes ↦ x.parts ]) else x.parts

-- the label that a part needs; linear memory is reached from the context
abbrev pub label_needed : Part → Option ℕ
label_needed (local label trailing) = Some label
label_needed dereference = Some context_label
label_needed _ = None

-- the labels that an expression needs, in the order of its parts
abbrev pub needed_labels : CompiledParts → List ℕ
needed_labels x = filter_map label_needed (built_parts x)

-- whether a part reads linear memory, or makes an address of it, and whether some part does
abbrev pub is_dereference : Part → Bool
is_dereference dereference = true
is_dereference _ = false

abbrev pub reads_memory : CompiledParts → Bool
reads_memory x = list_any is_dereference (built_parts x)

-- ---- places

-- What a function tells to an expression: its number, if it has a symbol; for each label the ranges in which its value lies
-- somewhere; and the linear memory of its module.
pub record Frame : Type 0 where
  pub function : Option ℕ
  pub ranges_of : ℕ → List LabelRange
  pub memory : Memory

-- whether a byte is in a range
abbrev pub is_between : ℕ → ℕ → ℕ → Bool
is_between start end byte = nat_le start byte && nat_lt byte end

-- the place that the last range with a byte gives
abbrev pub last_place : List LabelRange → ℕ → Option Place
last_place [] byte = None
last_place (r ∷ rs) byte = option_or (last_place rs byte) (if is_between r.start r.end byte then Some r.place else None)

-- whether a number is that of a function with a symbol
abbrev pub is_number : Option ℕ → ℕ → Bool
is_number None function = false
is_number (Some own) function = own == function

-- Where a label lies at a byte of a function: only the bytes of the frame's own function have places.
abbrev pub placed : Option Frame → ℕ → ℕ → ℕ → Option Place
placed None function byte label = None
placed (Some frame) function byte label = if is_number frame.function function then last_place (frame.ranges_of label) byte else None

-- whether each of some labels has a place at a byte
abbrev pub all_placed : Option Frame → List ℕ → ℕ → ℕ → Bool
all_placed frame labels function byte = list_all (λ label. is_some (placed frame function byte label)) labels

-- whether two places are the same
abbrev pub same_place : Option Place → Option Place → Bool
same_place None None = true
same_place (Some (in_register r)) (Some (in_register s)) = r == s
same_place (Some (at_frame_offset o)) (Some (at_frame_offset p)) = int_eq o p
same_place _ _ = false

-- whether each of some labels has the same place at two bytes, or none at both
abbrev pub all_stay : Option Frame → List ℕ → ℕ → ℕ → ℕ → Bool
all_stay frame labels function byte other = list_all (λ label. same_place (placed frame function byte label) (placed frame function other label)) labels

-- ---- the bytes of a scope

-- bytes of a function, by its number, from one up to, and without, another
pub record NativeRange : Type 0 where
  pub function : ℕ
  pub start : ℕ
  pub end : ℕ

-- the native ranges of an interval in the function that it begins in, if it begins in one
abbrev pub ranges_in_function : Option (ℕ × List (ℕ × ℕ)) → List NativeRange
ranges_in_function None = []
ranges_in_function (Some n) = map (λ r. record { function = n.0; start = r.0; end = r.1 }) n.1

-- the native ranges of a scope: those of each of its intervals, in order
abbrev pub scope_ranges : List Function → List (ℕ × ℕ) → List NativeRange
scope_ranges fs scope = flat_map (λ i. ranges_in_function (native_in_function fs i.0 i.1)) scope

-- the same as intervals of addresses
abbrev pub scope_intervals : List Function → List (ℕ × ℕ) → List Interval
scope_intervals fs scope = flat_map (λ i. native fs i.0 i.1) scope

-- whether a byte of a function is among some
abbrev pub is_byte_of : List NativeRange → ℕ → ℕ → Bool
is_byte_of ranges function byte = list_any (λ r. (r.function == function) && is_between r.start r.end byte) ranges
