-- The bytes of abbreviation tables, and what fits them. The laws are in `ReadTables`.
use Rattle.std.specs.Prelude.{◌≡◌, ℕ, suc, ◌^◌, ◌<◌, ◌≤◌, ◌==◌, ℤ, pos, List, [], ◌∷◌, ◌++◌, Bool, true, false, if◌then◌else◌}
use Rattle.std.specs.List.{All, flat_map}
use Rattle.dwc_base.specs.Reading.{is_64_bit}
use Rattle.dwc_base.specs.Abbreviations.{AttributeSpec, Declaration}
use Rattle.dwc_base.specs.NumberBytes.{uleb_bytes, sleb_bytes}
use Rattle.dwc_base.specs.declared.constants.TheConstants.{DW_FORM_implicit_const}

-- an attribute's name and form, and the value of an implicit constant
abbrev pub implicit_bytes : ℕ → ℤ → List ℕ
implicit_bytes form z = if form == DW_FORM_implicit_const then sleb_bytes z else []

abbrev pub spec_bytes : AttributeSpec → List ℕ
spec_bytes a = uleb_bytes a.name ++ (uleb_bytes a.form ++ implicit_bytes a.form a.implicit)

abbrev pub flag_of : Bool → ℕ
flag_of true = 1
flag_of false = 0

-- a declaration: code, tag, whether there are children, attributes and two zeros
abbrev pub declaration_bytes : Declaration → List ℕ
declaration_bytes d = uleb_bytes d.code ++ (uleb_bytes d.tag ++ ((flag_of d.has_children ∷ []) ++ (flat_map spec_bytes d.attributes ++ 0 ∷ 0 ∷ [])))

-- a table: its declarations and a zero
abbrev pub table_bytes : List Declaration → List ℕ
table_bytes ds = flat_map declaration_bytes ds ++ 0 ∷ []

-- An attribute has a name up to 65,535 and a form from 1 to 2 ^ 64 - 1, and only an implicit constant has a value here.
pub record FitsSpec (a : AttributeSpec) : Type 0 where
  pub name : a.name ≤ 65535
  pub some : 0 < a.form
  pub form : a.form < 2 ^ 64
  pub implicit : is_64_bit a.implicit ≡ true
  pub plain : (a.form == DW_FORM_implicit_const) ≡ false → a.implicit ≡ pos 0

-- A code is from 1 to 2 ^ 64 - 1, a tag at most 65,535.
pub record FitsDeclaration (d : Declaration) : Type 0 where
  pub some : 0 < d.code
  pub code : d.code < 2 ^ 64
  pub tag : d.tag ≤ 65535
  pub attributes : All FitsSpec d.attributes

-- codes that rise by one from a first one, which is 1 in a table
abbrev pub AreNumbered : ℕ → List Declaration → Type 0
AreNumbered code [] = Unit {0}
AreNumbered code (d ∷ ds) = (d.code ≡ code) × AreNumbered (suc code) ds
