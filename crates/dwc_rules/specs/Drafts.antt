-- Entries of an output before their places are known: what a reference goes to is named by what it stems from.
use Rattle.std.specs.Prelude.{ℕ, List, Option}
use Rattle.dwc_dwarf.specs.Trees.{TreeValue}

-- What an input entry becomes is one entry of the output, itself; a wrapped pointer or reference becomes four: the
-- structure that wraps it, a pointer to that structure, and a reference and a pointer to what is pointed to.
pub data Role : Type 0 where
  itself : Role
  pointer_to_wrapper : Role
  reference_to_target : Role
  pointer_to_target : Role

-- What a reference goes to: an entry of the output by the offset of the input entry that it stems from, in the same
-- module, or an entry of the module's synthetic unit by its place there.
pub data Goal : Type 0 where
  made_of : ℕ → Role → Goal
  synthetic_entry : ℕ → Goal

-- what an attribute is to say, while references go to goals
pub data DraftValue : Type 0 where
  done : TreeValue → DraftValue
  goes_to : Goal → DraftValue

-- An entry of the output, with the input entry that it stems from, if it stems from one.
pub record Draft : Type 0 where
  pub depth : ℕ
  pub tag : ℕ
  pub origin : Option (ℕ × Role)
  pub attributes : List (ℕ × DraftValue)
