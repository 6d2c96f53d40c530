-- How long numbers and values are, whatever they name.
use Rattle.std.proofs.Common.{◌≡◌, ℕ, ◌-◌, refl, length, Bool, true, false}
use Rattle.std.specs.Prelude.{if◌then◌else◌, ◌==◌}
use Rattle.std.specs.Int.{w64, cast_signed}
use Rattle.dwc_base.specs.declared.records.Endian.{Endian}
use Rattle.dwc_base.specs.declared.records.Address.{Address}
use Rattle.dwc_base.specs.declared.constants.TheConstants.{DW_FORM_data1, DW_FORM_data2, DW_FORM_data4, DW_FORM_data8, DW_FORM_sdata}
use Rattle.dwc_base.specs.NumberBytes.{uleb_bytes, sleb_bytes}
use Rattle.dwc_section.specs.SpelledAddresses.{address_bytes, stored}
use Rattle.dwc_unit.specs.SpelledUnits.{as_data1, as_data2, as_data4, as_data8, as_sdata, as_udata, written_bytes}
use Rattle.dwc_unit.specs.GivenUnits.{constant_of}
use Rattle.dwc_section.proofs.ReadNumbers.{number_bytes-length}

-- ---- values

pub address-length : (order : Endian) (size : ℕ) (a : Address) → length (address_bytes order size a) ≡ size
address-length order size a = number_bytes-length order size (stored a)

-- a constant is as long as its form says, whatever the size of addresses and the order of bytes
constant-sized : (order : Endian) (size : ℕ) (a b c d e : Bool) (bits : ℕ)
    → length (written_bytes order size (if a then as_data1 bits else (if b then as_data2 bits else (if c then as_data4 bits else (if d then as_data8 bits else (if e then as_sdata (cast_signed w64 bits) else as_udata bits))))))
    ≡ (if a then 1 else (if b then 2 else (if c then 4 else (if d then 8 else (if e then length (sleb_bytes (cast_signed w64 bits)) else length (uleb_bytes bits))))))
constant-sized order size true b c d e bits = number_bytes-length order 1 bits
constant-sized order size false true c d e bits = number_bytes-length order 2 bits
constant-sized order size false false true d e bits = number_bytes-length order 4 bits
constant-sized order size false false false true e bits = number_bytes-length order 8 bits
constant-sized order size false false false false true bits = refl
constant-sized order size false false false false false bits = refl

-- how long a constant is
abbrev pub constant_length : ℕ → ℕ → ℕ
constant_length form bits =
    if form == DW_FORM_data1 then 1 else (if form == DW_FORM_data2 then 2 else (if form == DW_FORM_data4 then 4 else (if form == DW_FORM_data8 then 8 else (if form == DW_FORM_sdata then length (sleb_bytes (cast_signed w64 bits)) else length (uleb_bytes bits)))))

pub constant-length : (order : Endian) (size form bits : ℕ) → length (written_bytes order size (constant_of form bits)) ≡ constant_length form bits
constant-length order size form bits = constant-sized order size (form == DW_FORM_data1) (form == DW_FORM_data2) (form == DW_FORM_data4) (form == DW_FORM_data8) (form == DW_FORM_sdata) bits
