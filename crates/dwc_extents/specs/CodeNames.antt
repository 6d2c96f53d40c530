-- Entries that say something of their code.
use Rattle.std.specs.Prelude.{ℕ, Bool, List, [], ◌∷◌}
use Rattle.std.specs.List.{list_any}
use Rattle.dwc_base.specs.declared.constants.TheConstants.{DW_AT_frame_base, DW_AT_high_pc, DW_AT_low_pc, DW_AT_ranges}
use Rattle.dwc_dwarf.specs.Values.{Value, is_one_of}

-- the names of bounds and of a frame base
abbrev pub is_code_name : ℕ → Bool
is_code_name name = is_one_of (DW_AT_low_pc ∷ DW_AT_high_pc ∷ DW_AT_ranges ∷ DW_AT_frame_base ∷ []) name

-- whether some attributes have one of these
abbrev pub have_code_name : List (ℕ × Value) → Bool
have_code_name attributes = list_any (λ a. is_code_name a.0) attributes
