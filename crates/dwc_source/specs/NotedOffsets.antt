-- What is noted of texts by the offsets where they stand: by slots, and by a map of those whose slot another text has.
use Rattle.std.specs.Prelude.{◌≡◌, ◌≢◌, ◌-◌, ◌%◌, ◌==◌, nat_lt, ℕ, List, get_or, Option, Some, None, if◌then◌else◌}
use Rattle.std.specs.BTreeMap.{get}
use Rattle.std.specs.Ordering.{nat_cmp}
use Rattle.dwc_unit.specs.declared.strings.StringId.{StringId}
use Rattle.dwc_source.specs.declared.noted_offsets.NotedOffsets.{NotedOffsets}
use Rattle.dwc_source.specs.declared.noted_offsets.Slot.{Slot}

abbrev pub slot_count : ℕ
slot_count = 8192

-- a slot that is free
abbrev pub free_slot : Slot
free_slot = record { offset = 0; told = 0 }

-- the slot of an offset
abbrev pub slot_in : List Slot → ℕ → Slot
slot_in slots n = get_or slots (n % slot_count) free_slot

-- the number that a slot tells of its text
abbrev pub id_told : ℕ → Option StringId
id_told told = if nat_lt told 2 then None else Some (record { index = told - 2 })

-- what is noted of the text at an offset, by its slot, and by what is noted elsewhere
abbrev pub noted_by : Slot → Option (Option StringId) → ℕ → Option (Option StringId)
noted_by slot other n = if slot.told == 0 then other else (if slot.offset == n then Some (id_told slot.told) else other)

abbrev pub noted_at : NotedOffsets → ℕ → Option (Option StringId)
noted_at noted n = noted_by (slot_in noted.slots.items n) (get nat_cmp noted.others n) n

-- The slot is that of a text at another offset.
pub record HoldsOther (slot : Slot) (n : ℕ) : Type 0 where
  pub is_taken : slot.told ≢ 0
  pub is_other : slot.offset ≢ n

-- A slot that is taken tells so of a text with this number, or with none.
pub record IsTold (told : ℕ) (id : Option StringId) : Type 0 where
  pub is_taken : told ≢ 0
  pub is : id_told told ≡ id
