-- A WebAssembly file as a list of sections, and what DWARF wants of it. (WebAssembly 1.0, section 5.5. The grammar is
-- lenient: of types, code and other sections it asks nothing, and imports may have the limits and tags of later versions.)
use Rattle.std.specs.Prelude.{ℕ, zero, suc, ◌^◌, ◌==◌, List, [], ◌∷◌, length, drop, Bool, true, false, nat_lt, nat_le, nat_eq, not, ◌||◌, ◌%◌, if◌then◌else◌, Option, Some, None, Result, Ok, Err, codes}
use Rattle.std.specs.Option.{unwrap_or, option_map}
use Rattle.std.specs.List.{filter_map, starts_with, find}
use Rattle.std.specs.Str.{bytes_eq, is_utf8}
use Rattle.dwc_base.specs.declared.records.Endian.TheVariants.{Little}
use Rattle.dwc_base.specs.declared.faults.Flaw.TheVariants.{Malformed}
use Rattle.dwc_base.specs.declared.section_name.SectionName.{SectionName}
use Rattle.dwc_base.specs.declared.section_name.SectionName.TheVariants.{Frame}
use Rattle.dwc_base.specs.Reading.{Unread, Read, ◌>>=◌, forbid, bytes_at, part_at, number_at, uleb_at}
use Rattle.dwc_base.specs.Listing.{Listing, Next, at_end, broken, item, walk}
use Rattle.dwc_base.specs.Sections.{Sections, section_text, split_text}

-- what reading a part of the file gives, or the place of the first field that breaks the grammar
abbrev pub FileRead : Type 0 → Type 0
FileRead A = Result (A × Unread) ℕ

-- a field: where it cannot be read, its own first byte is the place
abbrev pub field : {A : Type 0} → (Unread → Read A) → Unread → FileRead A
field read u = at_its_place (read u)
  where
    at_its_place : {A : Type 0} → Read A → FileRead A
    at_its_place (Ok x) = Ok x
    at_its_place (Err flaw) = Err u.place

-- a length and a name in UTF-8, one field (section 5.2.4)
unfoldable pub name_at : Unread → Read (List ℕ)
name_at u = do
  size ← uleb_at u
  name ← bytes_at size.0 size.1
  text ← forbid (not (is_utf8 name.0)) Malformed
  Ok name

-- a number below 2 ^ 32
unfoldable pub u32_at : Unread → Read ℕ
u32_at u = do
  n ← uleb_at u
  small ← forbid (nat_le (2 ^ 32) n.0) Malformed
  Ok n

-- a byte that passes a test
unfoldable pub byte_at : (ℕ → Bool) → Unread → Read ℕ
byte_at test u = do
  byte ← number_at 1 u
  given ← forbid (not (test byte.0)) Malformed
  Ok byte

-- every byte passes
abbrev pub any_byte : ℕ → Bool
any_byte b = true

-- limits: a flag, the least size, and with an odd flag the greatest (section 5.3.4)
unfoldable pub limits_at : Unread → FileRead (Unit {0})
limits_at u = do
  flag ← field (byte_at (λ b. nat_lt b 8)) u
  least ← field uleb_at flag.1
  elim (flag.0 % 2 == 1) [ true ↦ (field uleb_at least.1 >>= λ most. Ok (tt, most.1)) | false ↦ Ok (tt, least.1) ]

-- what kind of thing an import is
pub data ImportKind : Type 0 where
  func : ImportKind
  table : ImportKind
  memory : ImportKind
  global : ImportKind
  tag : ImportKind

-- the kind of a code: from 4 on a tag
abbrev pub import_kind : ℕ → ImportKind
import_kind zero = func
import_kind (suc zero) = table
import_kind (suc (suc zero)) = memory
import_kind (suc (suc (suc zero))) = global
import_kind (suc (suc (suc (suc n)))) = tag

-- what stands behind the kind of an import
unfoldable pub import_of_kind : ImportKind → Unread → FileRead (Unit {0})
import_of_kind func u = do
  type ← field uleb_at u
  Ok (tt, type.1)
import_of_kind table u = do
  type ← field (byte_at (λ b. (b == 0x6F) || (b == 0x70))) u
  limits_at type.1
import_of_kind memory u = limits_at u
import_of_kind global u = do
  type ← field (byte_at any_byte) u
  mutability ← field (byte_at any_byte) type.1
  Ok (tt, mutability.1)
import_of_kind tag u = do
  attribute ← field (byte_at any_byte) u
  type ← field uleb_at attribute.1
  Ok (tt, type.1)

-- an import: two names and a kind; whether it is a function (section 5.5.5)
unfoldable pub import_at : Unread → FileRead Bool
import_at u = do
  from ← field name_at u
  name ← field name_at from.1
  kind ← field (byte_at (λ b. nat_lt b 5)) name.1
  rest ← import_of_kind (import_kind kind.0) kind.1
  Ok (kind.0 == 0, rest.1)

-- how many of the imports at the front, as many as said, are functions
unfoldable pub imports_at : ℕ → Unread → FileRead ℕ
imports_at zero u = Ok (0, u)
imports_at (suc count) u = do
  first ← import_at u
  others ← imports_at count first.1
  Ok ((if first.0 then suc others.0 else others.0), others.1)

-- how many type numbers stand at the front, as many as said
unfoldable pub type_numbers_at : ℕ → Unread → FileRead ℕ
type_numbers_at zero u = Ok (0, u)
type_numbers_at (suc count) u = do
  first ← field uleb_at u
  others ← type_numbers_at count first.1
  Ok (suc others.0, others.1)

-- a section ends where its last field does
abbrev pub exactly : {A : Type 0} → A × Unread → Result A ℕ
exactly read = elim (length (read.1).left == 0) [ true ↦ Ok read.0 | false ↦ Err (read.1).place ]

-- What a section holds: a custom one its name and contents, the imports how many functions, the functions
-- how many and the contents with that count, the code its contents. (Sections 5.5.3, 5.5.5, 5.5.6 and 5.5.13.)
pub data Contents : Type 0 where
  custom : List ℕ → Unread → Contents
  imports : ℕ → Contents
  functions : ℕ → Unread → Contents
  code : Unread → Contents
  other : ℕ → Unread → Contents

-- what a section of an id holds
unfoldable pub contents_of : ℕ → Unread → Result Contents ℕ
contents_of id u =
    elim (id == 0) [
      | true ↦ (field name_at u >>= λ name. Ok (custom name.0 name.1))
      | false ↦ elim (id == 2) [
        | true ↦ (field uleb_at u >>= λ count. imports_at count.0 count.1 >>= λ found. exactly found >>= λ n. Ok (imports n))
        | false ↦ elim (id == 3) [
          | true ↦ (field uleb_at u >>= λ count. type_numbers_at count.0 count.1 >>= λ found. exactly found >>= λ n. Ok (functions n u))
          | false ↦ Ok (if id == 10 then code u else other id u)
        ]
      ]
    ]

-- a section: the place of its id, and what it holds
pub record WasmSection : Type 0 where
  pub place : ℕ
  pub contents : Contents

-- the bytes of a section: their number is below 2 ^ 32, and they are there (section 5.5.2)
unfoldable pub section_bytes_at : Unread → Read Unread
section_bytes_at u = do
  size ← u32_at u
  part_at size.0 size.1

-- a section at the front
unfoldable pub wasm_section_at : Unread → FileRead WasmSection
wasm_section_at u = do
  id ← field (byte_at any_byte) u
  bytes ← field section_bytes_at id.1
  contents ← contents_of id.0 bytes.0
  Ok (record { place = u.place; contents = contents }, bytes.1)

-- the next section, up to the file's end
unfoldable pub next_wasm_section : Unread → Next Unread ℕ WasmSection
next_wasm_section u =
    elim (length u.left == 0) [
      | true ↦ at_end
      | false ↦ elim (wasm_section_at u) [ Ok s ↦ item s.0 s.1 | Err place ↦ broken place ]
    ]

-- the sections of a file behind its preamble
unfoldable pub wasm_sections : Unread → Listing ℕ WasmSection
wasm_sections u = walk (λ u. length u.left) next_wasm_section u

-- the preamble: the magic number and version 1 (section 5.5.15)
abbrev pub preamble : List ℕ
preamble = 0x00 ∷ 0x61 ∷ 0x73 ∷ 0x6D ∷ 0x01 ∷ 0x00 ∷ 0x00 ∷ 0x00 ∷ []

-- The sections of a file, or the first place that breaks the grammar.
unfoldable pub sections_of_file : List ℕ → Result (List WasmSection) ℕ
sections_of_file bytes =
    elim (starts_with nat_eq bytes preamble) [
      | false ↦ Err 0
      | true ↦
          let found : Listing ℕ WasmSection = wasm_sections (record { order = Little; place = 8; left = drop 8 bytes }) in
          elim found.fault [ None ↦ Ok found.items | Some place ↦ Err place ]
    ]

-- the last of some values
abbrev pub last_of : {A : Type 0} → List A → Option A
last_of [] = None
last_of (x ∷ xs) = Some (unwrap_or (last_of xs) x)

-- a section's contents where it is a custom section of a name
abbrev pub contents_named : List ℕ → Contents → Option (List ℕ)
contents_named name (custom title u) = if bytes_eq title name then Some u.left else None
contents_named name (imports n) = None
contents_named name (functions n v) = None
contents_named name (code u) = None
contents_named name (other id u) = None

-- the contents of the last custom section of a name, empty where there is none
unfoldable pub custom_section : List ℕ → List WasmSection → List ℕ
custom_section name sections = unwrap_or (last_of (filter_map (λ s. contents_named name s.contents) sections)) []

-- how many functions an import section imports
abbrev pub imported_functions : Contents → Option ℕ
imported_functions (imports n) = Some n
imported_functions (custom title u) = None
imported_functions (functions n v) = None
imported_functions (code u) = None
imported_functions (other id u) = None

-- how many functions a function section defines
abbrev pub defined_functions : Contents → Option ℕ
defined_functions (functions n v) = Some n
defined_functions (custom title u) = None
defined_functions (imports n) = None
defined_functions (code u) = None
defined_functions (other id u) = None

-- where the contents of a code section begin
abbrev pub code_place : Contents → Option ℕ
code_place (code u) = Some u.place
code_place (custom title u) = None
code_place (imports n) = None
code_place (functions n v) = None
code_place (other id u) = None

-- whether a custom section's name begins with `.zdebug_`
abbrev pub is_compressed : Contents → Bool
is_compressed (custom title u) = starts_with nat_eq title (codes ".zdebug_")
is_compressed (imports n) = false
is_compressed (functions n v) = false
is_compressed (code u) = false
is_compressed (other id u) = false

-- What DWARF wants of a file. Of two sections of one kind the later counts, and 0 stands for none.
pub record WasmModule : Type 0 where
  pub sections : List WasmSection
  pub imported : ℕ
  pub defined : ℕ
  pub code_offset : ℕ
  pub compressed : Option ℕ

-- the number that the last section of a kind gives, 0 without one
abbrev pub last_number : (Contents → Option ℕ) → List WasmSection → ℕ
last_number pick sections = unwrap_or (last_of (filter_map (λ s. pick s.contents) sections)) 0

-- what DWARF wants, from the sections
unfoldable pub module_from_sections : List WasmSection → WasmModule
module_from_sections sections = record {
  sections = sections;
  imported = last_number imported_functions sections;
  defined = last_number defined_functions sections;
  code_offset = last_number code_place sections;
  compressed = option_map (λ s. s.place) (find (λ s. is_compressed s.contents) sections);
}

-- The module that a file is, or the first place that breaks the grammar.
unfoldable pub wasm_module : List ℕ → Result WasmModule ℕ
wasm_module bytes = do
  sections ← sections_of_file bytes
  Ok (module_from_sections sections)

-- What a module holds of a section: the contents of its custom section, but none of the frames, which are no input.
abbrev pub held : WasmModule → SectionName → List ℕ
held m Frame = []
held m name = custom_section (section_text name) m.sections

-- What a module holds of a section of split units, as a package has them. (DWARF 5, sections 7.3.2.2 and 7.3.5.)
abbrev pub held_split : WasmModule → SectionName → List ℕ
held_split m Frame = []
held_split m name = custom_section (split_text name) m.sections

-- the DWARF sections of a module, as input: its numbers are little-endian, and it has no relocations
abbrev pub module_sections : WasmModule → Sections
module_sections m = record { order = Little; bytes = held m; relocations = λ name. [] }
