-- Entries of an output that stem from none of the input.
use Rattle.std.specs.Prelude.{ℕ, List, None}
use Rattle.dwc_base.specs.declared.constants.TheConstants.{DW_FORM_data1, DW_FORM_udata}
use Rattle.dwc_dwarf.specs.Trees.{TreeValue, constant}
use Rattle.dwc_rules.specs.Drafts.{DraftValue, done, Draft}

-- an attribute whose value is known
abbrev pub named : ℕ → TreeValue → ℕ × DraftValue
named name value = (name, done value)

-- a constant of one byte
abbrev pub data1 : ℕ → TreeValue
data1 n = constant DW_FORM_data1 n

-- a constant of variable length
abbrev pub udata : ℕ → TreeValue
udata n = constant DW_FORM_udata n

-- an entry that stems from none of the input
abbrev pub made : ℕ → ℕ → List (ℕ × DraftValue) → Draft
made depth tag attributes = record { depth = depth; tag = tag; origin = None; attributes = attributes }
