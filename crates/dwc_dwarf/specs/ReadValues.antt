-- What always holds of the values of attributes that were read, and of the entries that have them.
use Rattle.std.specs.Prelude.{◌≡◌, ℕ, ◌<◌, ◌≤◌, ◌^◌, ◌==◌, ◌||◌, Bool, true, false, if◌then◌else◌}
use Rattle.std.specs.List.{All}
use Rattle.dwc_dwarf.specs.Values.{Value, constant, block, text, range_reference, range_index, location_reference, location_index, is_expression_name, is_location_name, is_range_name}
use Rattle.dwc_dwarf.specs.Entries.{Entry}
use Rattle.dwc_base.specs.declared.constants.TheConstants.{DW_FORM_data1, DW_FORM_data2, DW_FORM_data4, DW_FORM_data8, DW_FORM_implicit_const, DW_FORM_sdata, DW_FORM_udata}

-- The forms of constants; data16 is none, as its value is passed over. (DWARF 5, section 7.5.5.)
abbrev pub is_constant_form : ℕ → Bool
is_constant_form form =
    (form == DW_FORM_implicit_const)
    || ((form == DW_FORM_data1) || ((form == DW_FORM_data2) || ((form == DW_FORM_data4) || ((form == DW_FORM_data8) || ((form == DW_FORM_sdata) || (form == DW_FORM_udata))))))

-- the number below which the bits of a constant of a form are
abbrev pub constant_bound : ℕ → ℕ
constant_bound form = if form == DW_FORM_data1 then 256 ^ 1 else (if form == DW_FORM_data2 then 256 ^ 2 else (if form == DW_FORM_data4 then 256 ^ 4 else 2 ^ 64))

-- A value that was read under a name: a constant fits its form, a block stands under no name whose blocks are expressions, a
-- text in place has no zero byte, and a list stands under a name that may have one.
abbrev pub IsReadValue : ℕ → Value → Type 0
IsReadValue name (constant form bits) = (is_constant_form form ≡ true) × (bits < constant_bound form)
IsReadValue name (block bytes) = is_expression_name name ≡ false
IsReadValue name (text bytes) = All (λ b. 0 < b) bytes
IsReadValue name (range_reference n) = is_range_name name ≡ true
IsReadValue name (range_index n) = is_range_name name ≡ true
IsReadValue name (location_reference n) = is_location_name name ≡ true
IsReadValue name (location_index n) = is_location_name name ≡ true
IsReadValue name _ = Unit {0}

-- An entry that was read: no tag and no name is above 65,535. (DWARF 5, section 7.5.3.)
pub record IsReadEntry (e : Entry) : Type 0 where
  pub tag : e.tag ≤ 65535
  pub names : All (λ a. a.0 ≤ 65535) e.attributes
  pub values : All (λ a. IsReadValue a.0 a.1) e.attributes
