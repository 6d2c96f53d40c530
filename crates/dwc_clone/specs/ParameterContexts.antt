-- What functions tell of their parameters, as it is kept on a stack in a walk over entries in file order.
use Rattle.std.specs.Prelude.{◌≡◌, ℤ, ◌==◌, ◌&&◌, ◌||◌, ◌-ℤ◌, int_le, pos, negsuc, Bool, List, [], ◌∷◌, ◌++◌, if◌then◌else◌, Option, Some, None, option_and_then, unwrap_or, Result, Ok, Err}
use Rattle.dwc_base.specs.declared.constants.TheConstants.{DW_AT_object_pointer, DW_TAG_formal_parameter}
use Rattle.dwc_dwarf.specs.Entries.{Entry, attribute}
use Rattle.dwc_rules.specs.Kept.{Placed}
use Rattle.dwc_rules.specs.ObjectPointers.{has_parameters, looks_like_this}
use Rattle.dwc_rules.specs.Scopes.{Given, left_for}
use Rattle.dwc_dwarf.specs.Texts.{TextSource}
use Rattle.dwc_kept.specs.ReadEntries.{named_offset}
use Rattle.dwc_source.specs.declared.error.CloneError.{CloneError}
use Rattle.dwc_source.specs.Errors.{refusal_told}
use Rattle.dwc_clone.specs.declared.object_pointer.Telling.{Telling}
use Rattle.dwc_clone.specs.declared.object_pointer.Telling.TheVariants.{Plain, ObjectPointer}
use Rattle.dwc_clone.specs.declared.object_pointer.SubprogramContext.{SubprogramContext}
use Rattle.dwc_source.specs.declared.source.CloneSource.{CloneSource}
use Rattle.dwc_source.specs.Sources.{placed_entry}

abbrev pub Contexts : Type 0
Contexts = List (Given SubprogramContext)

-- A call gives a certain answer; or it wants memory.
abbrev pub GivesOnly : {X : Type 0} → X → Result X CloneError → Type 0
GivesOnly x (Ok y) = y ≡ x
GivesOnly x (Err e) = refusal_told e ≡ None

-- A call gives how an entry is told; or it wants memory.
abbrev pub GivesTelling : Telling → Result Telling CloneError → Type 0
GivesTelling told result = GivesOnly told result

-- the number of the parameter behind one of a number
abbrev pub next_number : ℤ → ℤ
next_number n = if int_le (pos 0) n then pos 1 else pos 0

-- what a function tells of its parameters behind one more
abbrev pub met : SubprogramContext → SubprogramContext
met x = record { obj_ptr = x.obj_ptr; param_num = next_number x.param_num }

-- a stack whose top, if it is of a depth, has met a parameter more
abbrev pub met_at : ℤ → Contexts → Contexts
met_at depth [] = []
met_at depth (g ∷ []) = if int_le depth g.0 && int_le g.0 depth then (g.0, met g.1) ∷ [] else g ∷ []
met_at depth (g ∷ h ∷ gs) = g ∷ met_at depth (h ∷ gs)

-- what a function tells of its parameters before the first of them
abbrev pub context_given : CloneSource → Entry → SubprogramContext
context_given c e = record { obj_ptr = unwrap_or (option_and_then (named_offset c.unit.now.header.offset c.unit.now.header.end) (attribute DW_AT_object_pointer e)) 0; param_num = negsuc 0 }

-- a stack behind an entry
abbrev pub with_context : CloneSource → Entry → Contexts → Contexts
with_context c e stack =
    if e.tag == DW_TAG_formal_parameter then met_at (pos e.depth -ℤ pos 1) (left_for (pos e.depth) stack)
    else (if has_parameters (placed_entry c e) then left_for (pos e.depth) stack ++ (pos e.depth, context_given c e) ∷ [] else left_for (pos e.depth) stack)

-- and behind some, one after another
abbrev pub with_contexts : CloneSource → List Entry → Contexts → Contexts
with_contexts c [] stack = stack
with_contexts c (e ∷ es) stack = with_contexts c es (with_context c e stack)

abbrev pub contexts_behind : CloneSource → List Entry → Contexts
contexts_behind c es = with_contexts c es []

-- whether the parameter that was met last is the first
abbrev pub is_first : SubprogramContext → Bool
is_first x = int_le (pos 0) x.param_num && int_le x.param_num (pos 0)

-- whether a parameter is an object pointer, by what its function tells of it
abbrev pub points_by : TextSource → List Placed → Placed → SubprogramContext → Bool
points_by texts es e x = (x.obj_ptr == e.entry.offset) || (is_first x && looks_like_this texts es e)

-- how a parameter is told, by what its function told before it, if its parent is one
abbrev pub told_behind : TextSource → List Placed → Placed → Option SubprogramContext → Telling
told_behind texts es e None = Plain
told_behind texts es e (Some x) = if points_by texts es e (met x) then ObjectPointer else Plain
