-- Abbreviation tables: which attributes the entries of a unit have. (DWARF 4 and 5, section 7.5.3.)
use Rattle.std.specs.Prelude.{ℕ, ◌==◌, ℤ, pos, List, Bool, true, false, nat_lt, ◌&&◌, if◌then◌else◌, Option, Some, None, Result, Ok}
use Rattle.std.specs.List.{find}
use Rattle.dwc_base.specs.declared.section_name.SectionName.TheVariants.{Abbrev}
use Rattle.dwc_base.specs.declared.faults.What.TheVariants.{Abbreviation}
use Rattle.dwc_base.specs.declared.faults.Flaw.TheVariants.{Malformed}
use Rattle.dwc_base.specs.Reading.{Unread, Read, ◌>>=◌, forbid, number_at, uleb_at, sleb_at, items_at}
use Rattle.dwc_base.specs.Sections.{Sections, section_from, Fault, reported}
use Rattle.dwc_base.specs.declared.constants.TheConstants.{DW_FORM_implicit_const}

-- an attribute of a declaration: its name, its form, and the value of an implicit constant
pub record AttributeSpec : Type 0 where
  pub name : ℕ
  pub form : ℕ
  pub implicit : ℤ

-- a declaration: its code, its tag, whether children follow its entries, and its attributes
pub record Declaration : Type 0 where
  pub code : ℕ
  pub tag : ℕ
  pub has_children : Bool
  pub attributes : List AttributeSpec

-- the value of an implicit constant, which stands in the declaration
unfoldable pub implicit_at : ℕ → Unread → Read ℤ
implicit_at form u = if form == DW_FORM_implicit_const then sleb_at u else Ok (pos 0, u)

-- a name up to 65,535 and a form; two zeros end the list
unfoldable pub attribute_spec_at : Unread → Read (Option AttributeSpec)
attribute_spec_at u = do
  name ← uleb_at u
  form ← uleb_at name.1
  small ← forbid (nat_lt 65535 name.0) Malformed
  implicit ← implicit_at form.0 form.1
  Ok (if (name.0 == 0) && (form.0 == 0) then None else Some (record { name = name.0; form = form.0; implicit = implicit.0 }), implicit.1)

-- the rest of a declaration, behind its code: a tag up to 65,535, a byte 0 or 1, and the attributes
unfoldable pub declaration_behind : ℕ → Unread → Read (Option Declaration)
declaration_behind code u = do
  tag ← uleb_at u
  small ← forbid (nat_lt 65535 tag.0) Malformed
  children ← number_at 1 tag.1
  flag ← forbid (nat_lt 1 children.0) Malformed
  attributes ← items_at attribute_spec_at children.1
  Ok (Some (record { code = code; tag = tag.0; has_children = children.0 == 1; attributes = attributes.0 }), attributes.1)

-- a declaration; the code 0 ends the table
unfoldable pub declaration_at : Unread → Read (Option Declaration)
declaration_at u = do
  code ← uleb_at u
  elim (code.0 == 0) [ true ↦ Ok (None, code.1) | false ↦ declaration_behind code.0 code.1 ]

-- the table at an offset of .debug_abbrev
unfoldable pub abbreviation_table : Sections → ℕ → Result (List Declaration) Fault
abbreviation_table s offset = do
  table ← reported Abbreviation Abbrev offset (items_at declaration_at (section_from s Abbrev offset))
  Ok table.0

-- the declaration of a code: of two, the first
abbrev pub declaration_of : ℕ → List Declaration → Option Declaration
declaration_of code table = find (λ d. d.code == code) table
