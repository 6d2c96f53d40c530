-- Where an expression that is an attribute's value stands, so that a fault of it can be told. Its bytes are the last of that
-- value. (DWARF 4, section 7.5.4; DWARF 5, section 7.5.5.)
use Rattle.std.specs.Prelude.{ℕ, ◌-◌, List, [], ◌∷◌, length, take, drop, get_or, Some, None, Ok, Err}
use Rattle.dwc_base.specs.declared.section_name.SectionName.TheVariants.{Info}
use Rattle.dwc_base.specs.Reading.{Unread, uleb_at}
use Rattle.dwc_base.specs.Sections.{Sections}
use Rattle.dwc_base.specs.Abbreviations.{AttributeSpec, Declaration, declaration_of, abbreviation_table}
use Rattle.dwc_base.specs.Units.{UnitHeader}
use Rattle.dwc_dwarf.specs.Values.{value_at}

-- what is unread of a unit from an offset of .debug_info on
abbrev pub unit_from : Sections → UnitHeader → ℕ → Unread
unit_from s h offset = record { order = s.order; place = offset; left = drop offset (take h.end (s.bytes Info)) }

-- where the values of a declaration's attributes end, in their order, up to the first that cannot be read
unfoldable pub attribute_ends : Sections → UnitHeader → List AttributeSpec → Unread → List ℕ
attribute_ends s h [] u = []
attribute_ends s h (spec ∷ specs) u = elim (value_at s h spec u) [ Err flaw ↦ [] | Ok value ↦ (value.1).place ∷ attribute_ends s h specs value.1 ]

-- the same of an entry, whose code names its declaration
unfoldable pub entry_ends : Sections → UnitHeader → List Declaration → Unread → List ℕ
entry_ends s h table u = elim (uleb_at u) [
  | Err flaw ↦ []
  | Ok code ↦ elim (declaration_of code.0 table) [ None ↦ [] | Some d ↦ attribute_ends s h d.attributes code.1 ]
]

-- where the values of the entry at an offset end, as offsets of .debug_info
unfoldable pub value_ends : Sections → UnitHeader → ℕ → List ℕ
value_ends s h offset = elim (abbreviation_table s h.abbreviations) [ Err fault ↦ [] | Ok table ↦ entry_ends s h table (unit_from s h offset) ]

-- Where an expression begins, as an offset of .debug_info: of the entry at an offset the attribute of a number, counted from 0,
-- with the expression's bytes. 0 where that attribute cannot be read.
abbrev pub expression_place : Sections → UnitHeader → ℕ → ℕ → List ℕ → ℕ
expression_place s h offset number bytes = get_or (value_ends s h offset) number 0 - length bytes
