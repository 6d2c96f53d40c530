-- Parameters that point to the object of a function. Such a parameter becomes a wrapper, which no debugger takes for one of its own: so
-- it gets another name and is no longer told as an object pointer. (DWARF 4, section 5.5.7; DWARF 5, section 5.7.8; this project's own
-- rule.)
use Rattle.std.specs.Prelude.{ℕ, ◌==◌, List, [], ◌∷◌, ◌++◌, Bool, true, false, ◌&&◌, ◌||◌, if◌then◌else◌, Option, Some, None, option_and_then, Result, Ok, Err, codes}
use Rattle.std.specs.List.{filter_map, find, list_any}
use Rattle.std.specs.Str.{bytes_eq}
use Rattle.dwc_base.specs.declared.faults.Flaw.{Flaw}
use Rattle.dwc_base.specs.declared.constants.TheConstants.{DW_AT_artificial, DW_AT_name, DW_AT_object_pointer, DW_TAG_entry_point, DW_TAG_formal_parameter, DW_TAG_inlined_subroutine, DW_TAG_pointer_type, DW_TAG_subprogram}
use Rattle.dwc_dwarf.specs.Values as Values
use Rattle.dwc_dwarf.specs.Values.{Value, is_one_of}
use Rattle.dwc_dwarf.specs.Entries.{attribute}
use Rattle.dwc_rules.specs.Kept.{Placed, same_place, parent_of, is_parent}
use Rattle.dwc_dwarf.specs.Texts.{TextSource, text_named}
use Rattle.dwc_rules.specs.Targets.{target_of}
use Rattle.dwc_rules.specs.TypeNames.{type_of}
use Rattle.dwc_dwarf.specs.Trees.{text}
use Rattle.dwc_rules.specs.Drafts.{made_of, DraftValue, done, goes_to}

-- ---- which parameters are object pointers

-- functions, their inlined instances, and further entries into them
abbrev pub has_parameters : Placed → Bool
has_parameters e = is_one_of (DW_TAG_subprogram ∷ DW_TAG_inlined_subroutine ∷ DW_TAG_entry_point ∷ []) e.entry.tag

-- whether an entry is a certain one, if there is one
abbrev pub is_that : Placed → Option Placed → Bool
is_that e None = false
is_that e (Some f) = same_place e f

-- the entry that an entry names as its object pointer
abbrev pub named_pointer : List Placed → Placed → Option Placed
named_pointer es p = option_and_then (target_of es p) (attribute DW_AT_object_pointer p.entry)

-- the first parameter of an entry
abbrev pub first_parameter : List Placed → Placed → Option Placed
first_parameter es p = find (λ f. (f.entry.tag == DW_TAG_formal_parameter) && is_parent es f p) es

-- whether a value is a flag that is set
abbrev pub is_set_flag : Option Value → Bool
is_set_flag (Some (Values.flag b)) = b
is_set_flag _ = false

-- whether a text that was read is missing, or is `this`
abbrev pub is_missing_or_this : Result (Option (List ℕ)) Flaw → Bool
is_missing_or_this (Ok None) = true
is_missing_or_this (Ok (Some bytes)) = bytes_eq bytes (codes "this")
is_missing_or_this (Err flaw) = false

-- whether a name is missing, no text, or `this`
abbrev pub is_this_name : TextSource → Option Value → Bool
is_this_name texts None = true
is_this_name texts (Some v) = is_missing_or_this (text_named texts v)

-- whether an entry is there and is a pointer
abbrev pub is_pointer : Option Placed → Bool
is_pointer None = false
is_pointer (Some f) = f.entry.tag == DW_TAG_pointer_type

-- whether a parameter looks like an object pointer: it is artificial, has no name or the name `this`, and its type is a pointer
abbrev pub looks_like_this : TextSource → List Placed → Placed → Bool
looks_like_this texts es e = is_set_flag (attribute DW_AT_artificial e.entry) && is_this_name texts (attribute DW_AT_name e.entry) && is_pointer (type_of es e)

-- whether a parameter is the object pointer of its parent: the one that the parent names, or its first one if that looks like it
abbrev pub points_to_object : TextSource → List Placed → Placed → Option Placed → Bool
points_to_object texts es e None = false
points_to_object texts es e (Some p) = has_parameters p && (is_that e (named_pointer es p) || (is_that e (first_parameter es p) && looks_like_this texts es e))

-- Whether an entry, among those of its section, is an object pointer.
unfoldable pub is_object_pointer : TextSource → List Placed → Placed → Bool
is_object_pointer texts es e = (e.entry.tag == DW_TAG_formal_parameter) && points_to_object texts es e (parent_of es e)

-- ---- what changes in the attributes that were made

-- a text with two underscores in front
abbrev pub underscored : DraftValue → DraftValue
underscored (done (text bytes)) = done (text (codes "__" ++ bytes))
underscored v = v

-- of an object pointer: it is no longer artificial, and a name that is a text is another
abbrev pub unlike_this : ℕ × DraftValue → Option (ℕ × DraftValue)
unlike_this a = if a.0 == DW_AT_artificial then None else Some (a.0, if a.0 == DW_AT_name then underscored a.1 else a.1)

-- whether a value goes to an entry of an entry's own unit
abbrev pub stays_in_unit : List Placed → Placed → DraftValue → Bool
stays_in_unit es e (goes_to (made_of offset role)) = list_any (λ f. (f.unit == e.unit) && (f.entry.offset == offset)) es
stays_in_unit es e _ = false

-- of a function: it no longer names its object pointer
abbrev pub names_no_pointer : List Placed → Placed → ℕ × DraftValue → Option (ℕ × DraftValue)
names_no_pointer es e a = if (a.0 == DW_AT_object_pointer) && stays_in_unit es e a.1 then None else Some a

-- The attributes that were made of an entry, as they are told.
unfoldable pub pointers_changed : TextSource → List Placed → Placed → List (ℕ × DraftValue) → List (ℕ × DraftValue)
pointers_changed texts es e attributes =
    if is_object_pointer texts es e then filter_map unlike_this attributes
    else (if has_parameters e then filter_map (names_no_pointer es e) attributes else attributes)
