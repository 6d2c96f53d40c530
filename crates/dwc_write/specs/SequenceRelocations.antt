-- The bytes of line sequences, and the relocations of their starts. They are the same in all versions.
use Rattle.std.specs.Prelude.{ℕ, ◌+◌, List, ◌∷◌, length}
use Rattle.dwc_base.specs.declared.records.Endian.{Endian}
use Rattle.dwc_base.specs.NumberBytes.{uleb_bytes}
use Rattle.dwc_base.specs.Outputs.{OutputRelocation}
use Rattle.dwc_section.specs.Spelled.{at_places}
use Rattle.dwc_section.specs.SpelledAddresses.{address_bytes}
use Rattle.dwc_section.specs.Writers.{address_relocations}
use Rattle.dwc_unit.specs.SpelledLines.{WrittenSequence, program_bytes, sequence_instructions}

abbrev pub sequence_bytes : Endian → ℕ → WrittenSequence → List ℕ
sequence_bytes order size q = program_bytes order size (sequence_instructions q)

-- that of its start: behind a zero, the length and the opcode
abbrev pub sequence_relocations : Endian → ℕ → ℕ → WrittenSequence → List OutputRelocation
sequence_relocations order size place q = address_relocations (((place + 1) + length (uleb_bytes (length (2 ∷ address_bytes order size q.start_address)))) + 1) size q.start_address

abbrev pub sequences_relocations : Endian → ℕ → ℕ → List WrittenSequence → List OutputRelocation
sequences_relocations order size place qs = at_places (sequence_bytes order size) (sequence_relocations order size) place qs
