-- Units that are laid out, as a writer keeps them.
use Rattle.std.specs.Prelude.{◌≡◌, ℕ, ◌+◌, ◌<◌, ◌≤◌, List, [], length, map, get_or, Option, Some, None, IsSomeAnd, Result, Ok, Err}
use Rattle.std.specs.List.{All, flat_map, list_all}
use Rattle.dwc_base.specs.declared.section_name.SectionName.TheVariants.{Info}
use Rattle.dwc_section.specs.declared.error.WriteError.{WriteError}
use Rattle.dwc_section.specs.declared.error.WriteError.TheVariants.{TooLarge}
use Rattle.dwc_write.specs.declared.layout.UnitLayout.{UnitLayout}
use Rattle.dwc_write.specs.declared.entries.Spelling.{Spelling}
use Rattle.dwc_section.specs.Writers.{IsPast, IsSizeRefusal, most_bytes, section_of}
use Rattle.dwc_unit.specs.declared.file_order.FilePlace.{FilePlace}
use Rattle.dwc_unit.specs.declared.lists.ListKind.{ListKind}
use Rattle.dwc_unit.specs.declared.lists.ListKind.TheVariants.{Locations, Ranges}
use Rattle.dwc_write.specs.declared.notes.Notes.{Notes}
use Rattle.dwc_write.specs.Noted.{listed_among}
use Rattle.dwc_write.specs.ShortLists.{are_short_values}
use Rattle.dwc_unit.specs.UsedTexts.{texts_of_entries}
use Rattle.dwc_unit.specs.GivenUnits.{Addition, GivenEntry, GivenUnit, Places, in_file_order, numbered, ordered, shapes_in}
use Rattle.dwc_unit.specs.FileOrders.{looked_up}
use Rattle.dwc_write.specs.Layouts.{UnitPlaces, AllPlaces, codes_of, places_in}
use Rattle.dwc_unit.specs.SpelledTables.{table_bytes}

-- where a unit and its entries stand
abbrev pub places_view : UnitLayout → UnitPlaces
places_view l = record { start = l.start; offsets = l.offsets.items }

-- the same of all units, with the places of texts, their table, and the texts that line tables name
abbrev pub whole_view : List UnitLayout → List (Option ℕ) → List (List ℕ) → List (List ℕ) → AllPlaces
whole_view layouts texts table names = record { units = map places_view layouts; texts = texts; table = table; names = names }

-- the places of what a unit names, as it is written
abbrev pub spelling_places : Spelling → Places
spelling_places s = places_in (whole_view s.units.now s.texts.now [] []) s.version s.offsets.now s.line_offset

-- Places are those of the entries that have lists of a kind.
pub record AreListed (kind : ListKind) (added : List Addition) (fs : List FilePlace) (es : List GivenEntry) : Type 0 where
  pub are : map (looked_up added) fs ≡ listed_among kind es
  pub known : All (λ f. f.index < length added) fs

-- What is noted is that of some entries in file order.
pub record IsNoting (added : List Addition) (notes : Notes) (es : List GivenEntry) : Type 0 where
  pub ranged : AreListed Ranges added notes.ranged.items es
  pub located : AreListed Locations added notes.located.items es
  pub texts : notes.texts.items ≡ texts_of_entries es
  pub short : notes.short ≡ list_all (λ e. are_short_values e.attributes) es

-- A unit is laid out: its entries in file order, with the codes of their shapes, the table that declares these, and what is noted of them.
pub record IsLaidOut (u : GivenUnit) (l : UnitLayout) : Type 0 where
  pub order : map (looked_up u.additions) l.order.items ≡ in_file_order u.additions
  pub known : All (λ f. f.index < length u.additions) l.order.items
  pub codes : l.codes.items ≡ codes_of (in_file_order u.additions)
  pub table : l.table.items ≡ table_bytes (numbered 1 (shapes_in (ordered u)))
  pub notes : IsNoting u.additions l.notes (in_file_order u.additions)

-- the texts that are noted of units
abbrev pub texts_noted : List UnitLayout → List ℕ
texts_noted ls = flat_map (λ l. l.notes.texts.items) ls

-- A place is passed on by so many bytes, or is refused as it would be past the most that `.debug_info` holds.
abbrev pub Advances : Result ℕ WriteError → ℕ → ℕ → Type 0
Advances (Ok end) place more = (end ≡ place + more) × (end ≤ most_bytes)
Advances (Err (TooLarge what)) place more = IsSomeAnd (section_of what) (IsPast Info (place + more))
Advances (Err _) place more = ⊥

-- the same, or want of memory
abbrev pub AdvancesOrMemory : Result ℕ WriteError → ℕ → ℕ → Type 0
AdvancesOrMemory (Ok end) place more = (end ≡ place + more) × (end ≤ most_bytes)
AdvancesOrMemory (Err e) place more = IsSizeRefusal (IsPast Info (place + more)) e

-- A refusal of a unit that is so long, or want of memory.
abbrev pub IsTooLong : WriteError → ℕ → Type 0
IsTooLong e size = IsSizeRefusal (IsPast Info size) e

-- the offset of an entry by its place in the order of addition, where it has one
abbrev pub offset_known : List ℕ → Option ℕ → ℕ
offset_known by_place None = 0
offset_known by_place (Some place) = get_or by_place place 0
