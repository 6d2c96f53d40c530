-- Units as they are given to a writer, and what its calls ask and do.
use Rattle.std.specs.Prelude.{◌≡◌, ℕ, zero, suc, ◌^◌, ◌<◌, ◌≤◌, ◌==◌, ◌⊎◌, pos, List, [], ◌∷◌, ◌++◌, map, length, get_or, slice_set, Bool, true, false, nat_lt, not, ◌&&◌, ◌||◌, if◌then◌else◌, Option, Some, None, is_some}
use Rattle.std.specs.List.{All, flat_map}
use Rattle.std.specs.Int.{w64, cast_signed}
use Rattle.dwc_base.specs.declared.constants.TheConstants.{DW_TAG_compile_unit, DW_AT_stmt_list, DW_FORM_data1, DW_FORM_data2, DW_FORM_data4, DW_FORM_data8, DW_FORM_sdata, DW_FORM_udata, DW_FORM_implicit_const}
use Rattle.dwc_base.specs.declared.section_name.SectionName.TheVariants.{Line}
use Rattle.dwc_base.specs.Abbreviations.{AttributeSpec, Declaration}
use Rattle.dwc_dwarf.specs.Values.{is_expression_name, is_location_name, is_range_name}
use Rattle.dwc_output.specs.FieldKinds.{section_of_ranges, section_of_locations}
use Rattle.dwc_unit.specs.declared.attributes.Attribute.{Attribute}
use Rattle.dwc_unit.specs.declared.attributes.AttributeForm.{AttributeForm}
use Rattle.dwc_unit.specs.declared.attributes.AttributeValue.{AttributeValue}
use Rattle.dwc_unit.specs.declared.attributes.AttributeValue.TheVariants.{Address, Constant, Flag, Block, Exprloc, StringRef, LineProgramRef, RangeListRef, LocationListRef, UnitRef, DebugInfoRef}
use Rattle.dwc_unit.specs.declared.attributes.DebugInfoRef.TheVariants.{Entry}
use Rattle.dwc_base.specs.NumberBytes.{uleb_bytes}
use Rattle.dwc_unit.specs.SpelledTables.{flag_of}
use Rattle.dwc_unit.specs.SpelledUnits.{Written, as_addr, as_data1, as_data2, as_data4, as_data8, as_udata, as_sdata, as_flag, as_block, as_exprloc, as_strp, as_ref4, as_ref_addr, as_sec_offset, form_number, WrittenAttribute, WrittenEntry}
use Rattle.dwc_unit.specs.declared.lists.ListPlaces.{ListPlaces}
use Rattle.dwc_unit.specs.RangeLists.{FitsRange}
use Rattle.dwc_unit.specs.Lists.{ListEntry, FitsLocation, IsShort, behind_attributes, lists_of_attributes, locations_in, no_lists}
use Rattle.dwc_section.specs.Writers.{FitsField}
use Rattle.dwc_unit.specs.GivenLines.{GivenLines}

-- an entry as it was added: the place of its parent among the entries (its own for the root), its tag and its attributes
pub record Addition : Type 0 where
  pub parent : ℕ
  pub tag : ℕ
  pub attributes : List Attribute

-- a unit: its version, the size of its addresses, its line program, its entries in the order of addition, the root first, and for each
-- number that was given to an entry the entry's place there, none where the number is only reserved
pub record GivenUnit : Type 0 where
  pub version : ℕ
  pub address_size : ℕ
  pub lines : GivenLines
  pub places : List (Option ℕ)
  pub additions : List Addition

-- an entry in file order: its place in the order of addition, its depth below the root, its tag and its attributes
pub record GivenEntry : Type 0 where
  pub place : ℕ
  pub depth : ℕ
  pub tag : ℕ
  pub attributes : List Attribute

-- a unit with its entries in file order
pub record OrderedUnit : Type 0 where
  pub version : ℕ
  pub address_size : ℕ
  pub lines : GivenLines
  pub places : List (Option ℕ)
  pub entries : List GivenEntry

-- ---- file order: an entry is followed by what is below it (DWARF 4, section 2.3)

abbrev pub entry_at : ℕ → ℕ → Addition → GivenEntry
entry_at depth place e = record { place = place; depth = depth; tag = e.tag; attributes = e.attributes }

-- what is below the entry at a place, among additions behind it that stand from another place on; its children have a depth
abbrev pub below : ℕ → ℕ → ℕ → List Addition → List GivenEntry
below depth parent place [] = []
below depth parent place (e ∷ es) =
    if e.parent == parent then entry_at depth place e ∷ (below (suc depth) place (suc place) es ++ below depth parent (suc place) es)
    else below depth parent (suc place) es

-- the root, and what is below it
abbrev pub in_file_order : List Addition → List GivenEntry
in_file_order [] = []
in_file_order (root ∷ es) = entry_at 0 0 root ∷ below 1 0 1 es

abbrev pub ordered : GivenUnit → OrderedUnit
ordered u = record { version = u.version; address_size = u.address_size; lines = u.lines; places = u.places; entries = in_file_order u.additions }

-- ---- values

-- a constant in its form
abbrev pub constant_of : ℕ → ℕ → Written
constant_of form bits =
    if form == DW_FORM_data1 then as_data1 bits
    else (if form == DW_FORM_data2 then as_data2 bits
    else (if form == DW_FORM_data4 then as_data4 bits
    else (if form == DW_FORM_data8 then as_data8 bits
    else (if form == DW_FORM_sdata then as_sdata (cast_signed w64 bits) else as_udata bits))))

-- The version of a unit, by which its lists have a section, and where what it names by an offset stands: its line table, its own entries, from the unit's first byte, the entries of the
-- unit of a number, from the first byte of `.debug_info`, and texts, in `.debug_str`; entries and texts by their numbers. (DWARF 4,
-- section 7.5.4.)
pub record Places : Type 0 where
  pub version : ℕ
  pub line : ℕ
  pub entry : ℕ → ℕ
  pub entry_of : ℕ → ℕ → ℕ
  pub text : ℕ → ℕ

-- nothing has a place yet: forms and sizes do not hang on places
abbrev pub no_places : Places
no_places = record { version = 4; line = 0; entry = λ id. 0; entry_of = λ unit id. 0; text = λ id. 0 }

-- a value in a unit with some places, where the next lists stand at others
abbrev pub written_of : Places → ListPlaces → AttributeValue → Written
written_of places lists (Address a) = as_addr a
written_of places lists (Constant form bits) = constant_of form bits
written_of places lists (Flag b) = as_flag b
written_of places lists (Block bytes) = as_block bytes.items
written_of places lists (Exprloc e) = as_exprloc e
written_of places lists (StringRef id) = as_strp (places.text id.index)
written_of places lists LineProgramRef = as_sec_offset Line places.line
written_of places lists (RangeListRef list) = as_sec_offset (section_of_ranges places.version) lists.ranges
written_of places lists (LocationListRef list) = as_sec_offset (section_of_locations places.version) lists.locations
written_of places lists (UnitRef id) = as_ref4 (places.entry id.index)
written_of places lists (DebugInfoRef (Entry unit id)) = as_ref_addr (places.entry_of unit.index id.index)

-- the forms of constants, and the numbers below which they can be
abbrev pub is_constant_form : ℕ → Bool
is_constant_form form = (form == DW_FORM_data1) || ((form == DW_FORM_data2) || ((form == DW_FORM_data4) || ((form == DW_FORM_data8) || ((form == DW_FORM_sdata) || (form == DW_FORM_udata)))))

abbrev pub constant_bound : ℕ → ℕ
constant_bound form = if form == DW_FORM_data1 then 256 ^ 1 else (if form == DW_FORM_data2 then 256 ^ 2 else (if form == DW_FORM_data4 then 256 ^ 4 else 2 ^ 64))

-- A value fits its form, an address the unit's size, a block has no name of an expression, and a line table and lists have names of their
-- own.
abbrev pub FitsValue : ℕ → ℕ → AttributeValue → Type 0
FitsValue size name (Address a) = FitsField size a
FitsValue size name (Constant form bits) = (is_constant_form form ≡ true) × (bits < constant_bound form)
FitsValue size name (Flag b) = Unit {0}
FitsValue size name (Block bytes) = is_expression_name name ≡ false
FitsValue size name (Exprloc e) = Unit {0}
FitsValue size name (StringRef id) = Unit {0}
FitsValue size name LineProgramRef = name ≡ DW_AT_stmt_list
FitsValue size name (RangeListRef list) = (is_range_name name ≡ true) × All (FitsRange size) list.ranges.items
FitsValue size name (LocationListRef list) = (is_location_name name ≡ true) × All (FitsLocation size) list.locations.items
FitsValue size name (UnitRef id) = Unit {0}
FitsValue size name (DebugInfoRef reference) = Unit {0}

-- An expression is no longer than memory is.
abbrev pub FitsMemory : AttributeValue → Type 0
FitsMemory (Exprloc e) = length e < 2 ^ 64
FitsMemory _ = Unit {0}

-- what writing asks of a value
abbrev pub FitsOperand : ℕ → AttributeValue → Type 0
FitsOperand size (Address a) = FitsField size a
FitsOperand size _ = Unit {0}

pub record FitsAttribute (size : ℕ) (a : Attribute) : Type 0 where
  pub name : a.name ≤ 65535
  pub value : FitsValue size a.name a.value
  pub held : FitsMemory a.value

-- ---- what the calls do

-- a new unit: a compile unit as root, and no other entries
abbrev pub new_unit : ℕ → ℕ → GivenLines → GivenUnit
new_unit version size lines = record { version = version; address_size = size; lines = lines; places = Some 0 ∷ []; additions = record { parent = 0; tag = DW_TAG_compile_unit; attributes = [] } ∷ [] }

-- a value under a name: in the place of the first of that name, else behind the others
abbrev pub set_attribute : ℕ → AttributeValue → List Attribute → List Attribute
set_attribute name value [] = record { name = name; value = value } ∷ []
set_attribute name value (a ∷ others) = if a.name == name then record { name = name; value = value } ∷ others else a ∷ set_attribute name value others

abbrev pub set_in_addition : ℕ → AttributeValue → Addition → Addition
set_in_addition name value e = record { parent = e.parent; tag = e.tag; attributes = set_attribute name value e.attributes }

-- in the entry at a place
abbrev pub set_in : ℕ → ℕ → AttributeValue → List Addition → List Addition
set_in place name value [] = []
set_in zero name value (e ∷ es) = set_in_addition name value e ∷ es
set_in (suc place) name value (e ∷ es) = e ∷ set_in place name value es

-- the place of the entry of a number
abbrev pub place_of : ℕ → List (Option ℕ) → Option ℕ
place_of id [] = None
place_of zero (p ∷ ps) = p
place_of (suc id) (p ∷ ps) = place_of id ps

abbrev pub tag_at : ℕ → List Addition → ℕ
tag_at place [] = 0
tag_at zero (e ∷ es) = e.tag
tag_at (suc place) (e ∷ es) = tag_at place es

-- An entry of this number was added; it is only reserved.
abbrev pub IsAdded : ℕ → GivenUnit → Type 0
IsAdded id u = is_some (place_of id u.places) ≡ true

abbrev pub IsReserved : ℕ → GivenUnit → Type 0
IsReserved id u = (id < length u.places) × (place_of id u.places ≡ None)

abbrev pub with_additions : List Addition → GivenUnit → GivenUnit
with_additions es u = record { version = u.version; address_size = u.address_size; lines = u.lines; places = u.places; additions = es }

abbrev pub with_places : List (Option ℕ) → GivenUnit → GivenUnit
with_places ps u = record { version = u.version; address_size = u.address_size; lines = u.lines; places = ps; additions = u.additions }

-- the tag of the entry of a number
abbrev pub tag_of : ℕ → GivenUnit → ℕ
tag_of id u = elim (place_of id u.places) [ None ↦ 0 | Some place ↦ tag_at place u.additions ]

-- a value in the entry of a number
abbrev pub with_value : ℕ → ℕ → AttributeValue → GivenUnit → GivenUnit
with_value id name value u = elim (place_of id u.places) [ None ↦ u | Some place ↦ with_additions (set_in place name value u.additions) u ]

-- an entry without attributes behind the others, below the entry of a number
abbrev pub with_child : ℕ → ℕ → GivenUnit → GivenUnit
with_child parent tag u =
    elim (place_of parent u.places) [ None ↦ u | Some place ↦ with_additions (u.additions ++ record { parent = place; tag = tag; attributes = [] } ∷ []) u ]

-- a number more, only reserved, and one for the entry that is added next
abbrev pub with_reserved : GivenUnit → GivenUnit
with_reserved u = with_places (u.places ++ None ∷ []) u

abbrev pub with_next : GivenUnit → GivenUnit
with_next u = with_places (u.places ++ Some (length u.additions) ∷ []) u

-- a number that was reserved, for the entry that is added next
abbrev pub with_known : ℕ → GivenUnit → GivenUnit
with_known id u = with_places (slice_set u.places id (Some (length u.additions))) u

-- the places of entries that were all added without a number reserved before
abbrev pub places_from : ℕ → List Addition → List (Option ℕ)
places_from place [] = []
places_from place (e ∷ es) = Some place ∷ places_from (suc place) es

-- ---- what always holds

-- Each parent stands before its children.
abbrev pub AreBehindParents : ℕ → List Addition → Type 0
AreBehindParents place [] = Unit {0}
AreBehindParents place (e ∷ es) = (e.parent < place) × AreBehindParents (suc place) es

abbrev pub IsRooted : List Addition → Type 0
IsRooted [] = ⊥
IsRooted (root ∷ es) = AreBehindParents 1 es

pub record FitsAddition (size : ℕ) (e : Addition) : Type 0 where
  pub tag : e.tag ≤ 65535
  pub attributes : All (FitsAttribute size) e.attributes

abbrev pub IsPlaceBelow : ℕ → Option ℕ → Type 0
IsPlaceBelow n None = Unit {0}
IsPlaceBelow n (Some place) = place < n

-- the versions of units that are written
abbrev pub IsWrittenVersion : ℕ → Type 0
IsWrittenVersion version = (version ≡ 4) ⊎ (version ≡ 5)

-- the address size of a unit's line program, where it has one
abbrev pub IsOfSize : ℕ → Option ℕ → Type 0
IsOfSize size None = Unit {0}
IsOfSize size (Some n) = n ≡ size

pub record FitsGivenUnit (u : GivenUnit) : Type 0 where
  pub version : IsWrittenVersion u.version
  pub size : (u.address_size ≡ 4) ⊎ (u.address_size ≡ 8)
  pub lines : IsOfSize u.address_size u.lines.address_size
  pub rooted : IsRooted u.additions
  pub additions : All (FitsAddition u.address_size) u.additions
  pub known : All (IsPlaceBelow (length u.additions)) u.places
  pub few : length u.additions < 2 ^ 63

-- the same of a unit in file order: depths below the root rise by one at most
abbrev pub AreBelow : ℕ → List GivenEntry → Type 0
AreBelow depth [] = Unit {0}
AreBelow depth (e ∷ es) = (0 < e.depth) × (e.depth ≤ suc depth) × AreBelow e.depth es

abbrev pub IsTree : List GivenEntry → Type 0
IsTree [] = ⊥
IsTree (e ∷ es) = (e.depth ≡ 0) × AreBelow 0 es

pub record FitsEntry (size : ℕ) (e : GivenEntry) : Type 0 where
  pub tag : e.tag ≤ 65535
  pub attributes : All (FitsAttribute size) e.attributes

pub record FitsOrdered (u : OrderedUnit) : Type 0 where
  pub version : IsWrittenVersion u.version
  pub size : (u.address_size ≡ 4) ⊎ (u.address_size ≡ 8)
  pub lines : IsOfSize u.address_size u.lines.address_size
  pub tree : IsTree u.entries
  pub entries : All (FitsEntry u.address_size) u.entries
  pub few : length u.entries < 2 ^ 64

-- ---- what a writer asks of all units

abbrev pub is_lines : AttributeValue → Bool
is_lines LineProgramRef = true
is_lines _ = false

-- whether a line table stands under its name
abbrev pub names_lines_in : List Attribute → Bool
names_lines_in [] = false
names_lines_in (a ∷ others) = if a.name == DW_AT_stmt_list then is_lines a.value else names_lines_in others

abbrev pub names_lines : List GivenEntry → Bool
names_lines [] = false
names_lines (e ∷ es) = names_lines_in e.attributes

-- A unit is of the version and of the size of all, its sequences are ended, and its root names a line table exactly where it has one.
pub record IsWritable (shared_version shared : ℕ) (u : OrderedUnit) : Type 0 where
  pub version : u.version ≡ shared_version
  pub size : u.address_size ≡ shared
  pub ended : u.lines.begun ≡ None
  pub named : names_lines u.entries ≡ is_some u.lines.address_size

abbrev pub size_of : List OrderedUnit → ℕ
size_of [] = 8
size_of (u ∷ us) = u.address_size

abbrev pub version_of : List OrderedUnit → ℕ
version_of [] = 4
version_of (u ∷ us) = u.version

abbrev pub AreWritable : List OrderedUnit → Type 0
AreWritable us = All (IsWritable (version_of us) (size_of us)) us

-- ---- the shapes of entries, and their codes

-- what the declaration of an entry says beside its code
pub record EntryShape : Type 0 where
  pub tag : ℕ
  pub has_children : Bool
  pub attributes : List AttributeForm

abbrev pub form_of : Attribute → AttributeForm
form_of a = record { name = a.name; form = form_number (written_of no_places no_lists a.value) }

abbrev pub forms_of : List Attribute → List AttributeForm
forms_of xs = map form_of xs

-- the depth of the first of some entries, 0 where there is none
abbrev pub first_depth : List GivenEntry → ℕ
first_depth [] = 0
first_depth (e ∷ es) = e.depth

abbrev pub shape_of : GivenEntry → List GivenEntry → EntryShape
shape_of e behind = record { tag = e.tag; has_children = nat_lt e.depth (first_depth behind); attributes = forms_of e.attributes }

abbrev pub shapes_of : List GivenEntry → List EntryShape
shapes_of [] = []
shapes_of (e ∷ es) = shape_of e es ∷ shapes_of es

abbrev pub same_forms : List AttributeForm → List AttributeForm → Bool
same_forms [] [] = true
same_forms [] (y ∷ ys) = false
same_forms (x ∷ xs) [] = false
same_forms (x ∷ xs) (y ∷ ys) = (x.name == y.name) && ((x.form == y.form) && same_forms xs ys)

abbrev pub same_flag : Bool → Bool → Bool
same_flag true b = b
same_flag false b = not b

abbrev pub same_shape : EntryShape → EntryShape → Bool
same_shape s t = (s.tag == t.tag) && (same_flag s.has_children t.has_children && same_forms s.attributes t.attributes)

-- the place of the first such shape, or the number of shapes where there is none
abbrev pub place_in : EntryShape → List EntryShape → ℕ
place_in s [] = 0
place_in s (t ∷ ts) = if same_shape t s then 0 else suc (place_in s ts)

-- a shape behind others, where it is new
abbrev pub with_use : EntryShape → List EntryShape → List EntryShape
with_use s known = if nat_lt (place_in s known) (length known) then known else known ++ s ∷ []

-- Each of some shapes stands first at its place.
abbrev pub AreOwn : List EntryShape → Type 0
AreOwn known = (i : ℕ) (d : EntryShape) → i < length known → place_in (get_or known i d) known ≡ i

-- shapes in the order of their first uses
abbrev pub first_uses : List EntryShape → List EntryShape → List EntryShape
first_uses known [] = known
first_uses known (s ∷ ss) = first_uses (with_use s known) ss

-- codes rise from 1 in that order
abbrev pub code_in : List EntryShape → EntryShape → ℕ
code_in shapes s = suc (place_in s shapes)

abbrev pub spec_of_form : AttributeForm → AttributeSpec
spec_of_form f = record { name = f.name; form = f.form; implicit = pos 0 }

abbrev pub numbered : ℕ → List EntryShape → List Declaration
numbered code [] = []
numbered code (s ∷ ss) = record { code = code; tag = s.tag; has_children = s.has_children; attributes = map spec_of_form s.attributes } ∷ numbered (suc code) ss

abbrev pub shapes_in : OrderedUnit → List EntryShape
shapes_in u = first_uses [] (shapes_of u.entries)

-- ---- what is written of entries, with some places and the codes of some shapes

abbrev pub written_attribute : Places → ListPlaces → Attribute → WrittenAttribute
written_attribute places lists a = record { name = a.name; value = written_of places lists a.value }

-- attributes of which the first lists stand at some places, where it is given where the next ones stand behind others
abbrev pub written_attributes : (ListPlaces → List Attribute → ListPlaces) → Places → ListPlaces → List Attribute → List WrittenAttribute
written_attributes next places lists [] = []
written_attributes next places lists (a ∷ others) = written_attribute places lists a ∷ written_attributes next places (next lists (a ∷ [])) others

abbrev pub written_entries : (ListPlaces → List Attribute → ListPlaces) → Places → ListPlaces → List EntryShape → List GivenEntry → List WrittenEntry
written_entries next places lists shapes [] = []
written_entries next places lists shapes (e ∷ es) =
    record { depth = e.depth; code = code_in shapes (shape_of e es); tag = e.tag; attributes = written_attributes next places lists e.attributes } ∷ written_entries next places (next lists e.attributes) shapes es

-- ---- the bytes of a shape: a declaration behind its code

abbrev pub form_bytes : AttributeForm → List ℕ
form_bytes f = uleb_bytes f.name ++ uleb_bytes f.form

abbrev pub shape_bytes : EntryShape → List ℕ
shape_bytes s = uleb_bytes s.tag ++ ((flag_of s.has_children ∷ []) ++ (flat_map form_bytes s.attributes ++ 0 ∷ 0 ∷ []))

-- no form of it has a value in the declaration
abbrev pub IsPlainShape : EntryShape → Type 0
IsPlainShape s = All (λ f. (f.form == DW_FORM_implicit_const) ≡ false) s.attributes

-- ---- the lists of entries of a kind, one behind another in file order

abbrev pub lists_of_entries : (AttributeValue → List ListEntry) → List GivenEntry → List ListEntry
lists_of_entries lists es = flat_map (λ e. lists_of_attributes lists e.attributes) es

-- where the next lists stand behind those of entries
abbrev pub behind_entries : ℕ → ℕ → ListPlaces → List GivenEntry → ListPlaces
behind_entries version size places [] = places
behind_entries version size places (e ∷ es) = behind_entries version size (behind_attributes version size places e.attributes) es

abbrev pub lists_of_units : (AttributeValue → List ListEntry) → List OrderedUnit → List ListEntry
lists_of_units lists us = flat_map (λ u. lists_of_entries lists u.entries) us

-- The expressions of the location lists of entries, and of units, are short enough for their version.
abbrev pub HaveShortLists : ℕ → List GivenEntry → Type 0
HaveShortLists version es = All (λ e. IsShort version e.holds) (lists_of_entries locations_in es)

abbrev pub AreShortUnits : List OrderedUnit → Type 0
AreShortUnits us = All (λ u. HaveShortLists u.version u.entries) us
