-- Fields of addresses that a writer spells, and the relocations that stand at them. A part that is spelled has its fields as a
-- list by places; the section's relocations are `relocations_of` all of them. The laws are in `ReadAddresses`.
use Rattle.std.specs.Prelude.{◌≡◌, ℕ, suc, ◌^◌, ◌<◌, ◌≤◌, ◌==◌, ◌&&◌, List, [], ◌∷◌, Option, Some, None}
use Rattle.std.specs.List.{find, filter_map}
use Rattle.std.specs.Int.{w64, cast_unsigned}
use Rattle.dwc_base.specs.declared.records.Endian.{Endian}
use Rattle.dwc_base.specs.declared.records.Address.{Address}
use Rattle.dwc_base.specs.declared.records.Address.TheVariants.{Constant, Symbol}
use Rattle.dwc_base.specs.Sections.{Relocation}
use Rattle.dwc_base.specs.NumberBytes.{number_bytes}

-- a field of a section that holds an address
pub record AddressField : Type 0 where
  pub offset : ℕ
  pub size : ℕ
  pub address : Address

-- what stands in its bytes: the number itself, or the addend
abbrev pub stored : Address → ℕ
stored (Constant n) = n
stored (Symbol function addend) = cast_unsigned w64 addend

abbrev pub address_bytes : Endian → ℕ → Address → List ℕ
address_bytes order size a = number_bytes order size (stored a)

-- a number fits its bytes; a function's address always does, since it is not read from them
abbrev pub FitsAddress : ℕ → Address → Type 0
FitsAddress size (Constant n) = n < 256 ^ size
FitsAddress size (Symbol function addend) = Unit {0}

-- the relocation at a field: none at a number
abbrev pub relocation_for : AddressField → Option Relocation
relocation_for f = go f.address
  where
    go : Address → Option Relocation
    go (Constant n) = None
    go (Symbol function addend) = Some (record { offset = f.offset; size = f.size; function = function; addend = addend })

abbrev pub relocations_of : List AddressField → List Relocation
relocations_of fs = filter_map relocation_for fs

-- The first relocation of its size at a field is the field's, and there is none at a number.
pub record IsHeld (relocations : List Relocation) (f : AddressField) : Type 0 where
  pub held : find (λ r. (r.offset == f.offset) && (r.size == f.size)) relocations ≡ relocation_for f

-- fields one behind another between two places
abbrev pub RiseWithin : ℕ → ℕ → List AddressField → Type 0
RiseWithin low high [] = low ≤ high
RiseWithin low high (f ∷ fs) = (low ≤ f.offset) × RiseWithin (suc f.offset) high fs
