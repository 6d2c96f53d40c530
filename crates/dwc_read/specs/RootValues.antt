-- What the root of a unit says, as far as its lists and indexed values begin there. (DWARF 5, section 3.1.1.)
use Rattle.std.specs.Prelude.{◌≡◌, ℕ, ◌==◌, List, map, zip, if◌then◌else◌, Option, Some, None, option_map, Result, Ok, Err}
use Rattle.std.specs.Option.{option_or}
use Rattle.dwc_base.specs.declared.records.Address.{Address}
use Rattle.dwc_base.specs.declared.faults.Flaw.{Flaw}
use Rattle.dwc_base.specs.declared.constants.TheConstants.{DW_AT_addr_base, DW_AT_loclists_base, DW_AT_low_pc, DW_AT_rnglists_base, DW_AT_str_offsets_base}
use Rattle.dwc_base.specs.Reading.{Unread, Read, ◌>>=◌}
use Rattle.dwc_base.specs.Abbreviations.{AttributeSpec, abbreviation_table}
use Rattle.dwc_base.specs.Sections.{Sections}
use Rattle.dwc_base.specs.Units.{UnitHeader}
use Rattle.dwc_dwarf.specs.Values.{Value, address, address_index, constant, line_reference}
use Rattle.dwc_dwarf.specs.Indexed.{root_offsets, as_section_offset}
use Rattle.dwc_dwarf.specs.Entries.{attributes_at}
use Rattle.dwc_read.specs.ValuesSeen.{first_value}
use Rattle.dwc_read.specs.declared.root_values.Said.{Said}
use Rattle.dwc_read.specs.declared.root_values.Said.TheVariants.{Number, Address as OfAddress, Index, Nothing}
use Rattle.dwc_read.specs.declared.root_values.RootValues.{RootValues}

-- what a value says, a section offset being one into a line table
abbrev pub said : Value → Said
said (line_reference n) = Number n
said (constant form n) = Number n
said (address a) = OfAddress a
said (address_index i) = Index i
said _ = Nothing

-- the number that is said
abbrev pub said_number : Said → Option ℕ
said_number (Number n) = Some n
said_number _ = None

-- the address that is said, those by an index being found so; one that cannot be read is none
abbrev pub said_address : (ℕ → Result Address Flaw) → Said → Option Address
said_address indexed (OfAddress a) = Some a
said_address indexed (Index i) = elim (indexed i) [ Ok a ↦ Some a | Err flaw ↦ None ]
said_address indexed _ = None

-- what holds for each of the names
pub record HoldsForEach (P : ℕ → Option Said → Type 0) (v : RootValues) : Type 0 where
  pub str_offsets_base : P DW_AT_str_offsets_base v.str_offsets_base
  pub addr_base : P DW_AT_addr_base v.addr_base
  pub rnglists_base : P DW_AT_rnglists_base v.rnglists_base
  pub loclists_base : P DW_AT_loclists_base v.loclists_base
  pub low_pc : P DW_AT_low_pc v.low_pc

-- what the first attribute of a name says, with one more behind what was seen
abbrev pub kept_first : ℕ → Option Said → ℕ → Said → Option Said
kept_first wanted seen name more = option_or seen (if name == wanted then Some more else None)

-- what the first attribute of a name says, what was seen of it being in front; what cannot be read says nothing
abbrev pub first_among : ℕ → Option Said → Result (List (ℕ × Value)) Flaw → Option Said
first_among name seen (Ok attributes) = option_or seen (option_map said (first_value name attributes))
first_among name seen (Err flaw) = None

-- What the first attribute of a name in a unit's root says; a root that cannot be read has none.
unfoldable pub said_by_root : Sections → UnitHeader → ℕ → Option Said
said_by_root s h name = elim (abbreviation_table s h.abbreviations) [ Err fault ↦ None | Ok table ↦ first_among name None (root_offsets s h table) ]

-- what was read of a root
abbrev pub AreOfRoot : Sections → UnitHeader → RootValues → Type 0
AreOfRoot s h v = HoldsForEach (λ name seen. seen ≡ said_by_root s h name) v

-- A reader gives what a value says.
abbrev pub GivesSaid : Read Value → Unread → Result Said Flaw → Type 0
GivesSaid read new (Ok said_so) = (v : Value) × (read ≡ Ok (v, new)) × (said_so ≡ said v)
GivesSaid read new (Err flaw) = read ≡ Err flaw

-- the values of attributes of a root, a section offset kept as its number, by their names
abbrev pub named_offsets : Sections → UnitHeader → List AttributeSpec → Unread → Result (List (ℕ × Value)) Flaw
named_offsets s h specs u = attributes_at s h (map as_section_offset specs) u >>= λ values. Ok (zip (map (λ spec. spec.name) specs) (map (λ a. a.1) values.0))

-- They are what the first attributes among some say.
abbrev pub AreAmong : Result (List (ℕ × Value)) Flaw → RootValues → Type 0
AreAmong read v = HoldsForEach (λ name seen. seen ≡ first_among name None read) v
