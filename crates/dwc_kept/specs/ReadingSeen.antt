-- What contracts see of what is kept of entries as they are read.
use Rattle.std.specs.Prelude.{◌≡◌, ℕ, ◌^◌}
use Rattle.dwc_kept.specs.declared.reading.Reading.{Reading}
use Rattle.dwc_kept.specs.ReadEntries.{ReadSoFar, AreAmong, StandBefore}

abbrev pub reading_view : Reading → ReadSoFar
reading_view r = record { nodes = r.graph; lasts = r.lasts.items; required = r.required.items }

-- What was read is what was to be read; it stands before an offset, and the last entries are among it.
pub record HasRead (wanted : ReadSoFar) (end : ℕ) (read : ReadSoFar) : Type 0 where
  pub is : read ≡ wanted
  pub among : AreAmong read
  pub before : StandBefore end read
  pub small : StandBefore (2 ^ 32) read

-- What was read is what was to be read, at offsets of 32 bits.
pub record IsRead (wanted read : ReadSoFar) : Type 0 where
  pub is : read ≡ wanted
  pub small : StandBefore (2 ^ 32) read
