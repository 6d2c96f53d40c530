-- Which subprograms are required, by their begin or by their range lists. (This project's own rule.)
use Rattle.std.specs.Prelude.{ℕ, ◌==◌, List, [], ◌∷◌, Bool, false, ◌&&◌, ◌||◌, Option, Some, None, option_map, is_some, Result, Ok, Err}
use Rattle.std.specs.Option.{unwrap_or}
use Rattle.dwc_base.specs.declared.records.Address.{Address}
use Rattle.dwc_base.specs.declared.records.Address.TheVariants.{Constant, Symbol}
use Rattle.dwc_base.specs.declared.faults.Flaw.{Flaw}
use Rattle.dwc_dwarf.specs.Values.{Value, address}
use Rattle.dwc_dwarf.specs.Entries.{Entry, attribute}
use Rattle.dwc_native.specs.Functions.{Function, function_at}
use Rattle.dwc_base.specs.declared.constants.TheConstants.{DW_AT_low_pc, DW_AT_ranges, DW_TAG_subprogram}
use Rattle.dwc_dwarf.specs.RawLists.{ListSource, ListPlace, list_named, is_range_list, RawEntry, base_addressx, startx_endx, startx_length, base_address, start_end, start_length, pair, base_selection, raw_ranges}
use Rattle.dwc_dwarf.specs.Lists.{address_among}

-- the function that an address of the input is in; it is a number there
abbrev pub function_of_address : List Function → Address → Option Function
function_of_address fs (Constant a) = function_at fs a
function_of_address fs (Symbol n addend) = None

-- whether an address can be translated: it is in a function with a symbol
abbrev pub can_translate : List Function → Address → Bool
can_translate fs a = is_some (function_of_address fs a)

-- the same of an address by an index; one that cannot be read cannot be translated
abbrev pub can_translate_indexed : ListSource → List Function → ℕ → Bool
can_translate_indexed s fs i = go (s.indexed i)
  where
    go : Result Address Flaw → Bool
    go (Ok a) = can_translate fs a
    go (Err flaw) = false

-- ---- range lists

-- whether the base behind an entry can be translated: the one that it selects, else the one before, if one is known
abbrev pub base_known : ListSource → List Function → Option Bool → RawEntry → Option Bool
base_known s fs base (base_addressx i) = Some (can_translate_indexed s fs i)
base_known s fs base (base_address a) = Some (can_translate fs a)
base_known s fs base (base_selection a) = Some (can_translate fs a)
base_known s fs base _ = base

-- Whether an entry shows that its list is of code: by its start, or in the lists up to version 4 by the base, where one
-- is known.
abbrev pub shows_code : ListSource → List Function → Option Bool → RawEntry → Bool
shows_code s fs base (startx_endx i j) = can_translate_indexed s fs i
shows_code s fs base (startx_length i n) = can_translate_indexed s fs i
shows_code s fs base (start_end begin end) = can_translate fs begin
shows_code s fs base (start_length start n) = can_translate fs start
shows_code s fs base (pair begin end) = unwrap_or base (can_translate fs begin)
shows_code s fs base _ = false

-- whether some entry does, from what is known of the base on
abbrev pub some_shows_code : ListSource → List Function → Option Bool → List RawEntry → Bool
some_shows_code s fs base [] = false
some_shows_code s fs base (e ∷ es) = shows_code s fs base e || some_shows_code s fs (base_known s fs base e) es

-- what is known of the base at the begin of a list: whether the low_pc beside it can be translated, if that is an address
-- in place
abbrev pub base_beside : List Function → Option Value → Option Bool
base_beside fs (Some (address a)) = Some (can_translate fs a)
base_beside fs _ = None

-- whether a list shows code, if it can be found
abbrev pub found_shows_code : ListSource → List Function → Option Value → Option (Result ListPlace Flaw) → Bool
found_shows_code s fs low (Some (Ok l)) = some_shows_code s fs (base_beside fs low) (raw_ranges s l).items
found_shows_code s fs low _ = false

-- whether the range list that a value names shows code, if it names one that can be found
unfoldable pub list_shows_code : ListSource → List Function → Option Value → Value → Bool
list_shows_code s fs low v = is_range_list v && found_shows_code s fs low (list_named s v)

-- ---- required entries

-- whether a value, if it is an address in place or by an index, can be translated
abbrev pub begins_in_code : ListSource → List Function → Option Value → Bool
begins_in_code s fs low = unwrap_or (option_map (can_translate fs) (address_among s.indexed low)) false

-- A subprogram is required where its low_pc can be translated; one with `ranges`, where that is a range list that shows
-- code.
unfoldable pub is_required : ListSource → List Function → Entry → Bool
is_required s fs e = (e.tag == DW_TAG_subprogram) && (elim (attribute DW_AT_ranges e) [
  | None ↦ begins_in_code s fs (attribute DW_AT_low_pc e)
  | Some v ↦ list_shows_code s fs (attribute DW_AT_low_pc e) v
])
