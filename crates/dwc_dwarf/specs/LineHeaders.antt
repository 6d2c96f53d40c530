-- Line tables: the header, and the instructions of the program. (DWARF 4 and 5, sections 6.2.4 and 6.2.5.)
use Rattle.std.specs.Prelude.{ℕ, ◌-◌, ◌==◌, ℤ, pos, ◌-ℤ◌, List, [], ◌∷◌, length, Bool, true, false, nat_lt, nat_le, not, ◌||◌, ◌&&◌, if◌then◌else◌, slice_index, Option, Some, None, Result, Ok, Err}
use Rattle.std.specs.List.{list_any}
use Rattle.dwc_base.specs.declared.records.Address.{Address}
use Rattle.dwc_base.specs.declared.faults.Kind.TheVariants.{AddressSize, Operations, SegmentSelector, Version}
use Rattle.dwc_base.specs.declared.faults.Flaw.{Flaw}
use Rattle.dwc_base.specs.declared.faults.Flaw.TheVariants.{Malformed, Refused}
use Rattle.dwc_base.specs.Reading.{Unread, Read, ◌>>=◌, forbid, part_at, number_at, uleb_at, sleb_at, text_at, items_at, counted_at, seen_as, coded}
use Rattle.dwc_base.specs.Listing.{Listing, Next, at_end, broken, item, walk}
use Rattle.dwc_base.specs.declared.section_name.SectionName.TheVariants.{Line}
use Rattle.dwc_base.specs.Sections.{Relocation, Sections, address_at}
use Rattle.dwc_base.specs.Abbreviations.{AttributeSpec}
use Rattle.dwc_dwarf.specs.Values.{Form, string, string_elsewhere, supplementary, form_of, Value, constant, encoded_value_at}
pub use Rattle.dwc_dwarf.specs.Texts.{text_in}
use Rattle.dwc_dwarf.specs.Texts.{TextSource, texts_from, path_text}
use Rattle.dwc_base.specs.Units.{sized_part_at}
use Rattle.dwc_base.specs.declared.constants.TheConstants.{DW_FORM_implicit_const, DW_LNCT_directory_index, DW_LNCT_path, DW_LNE_define_file, DW_LNE_end_sequence, DW_LNE_set_address, DW_LNE_set_discriminator, DW_LNS_advance_line, DW_LNS_advance_pc, DW_LNS_const_add_pc, DW_LNS_copy, DW_LNS_fixed_advance_pc, DW_LNS_negate_stmt, DW_LNS_set_basic_block, DW_LNS_set_column, DW_LNS_set_epilogue_begin, DW_LNS_set_file, DW_LNS_set_isa, DW_LNS_set_prologue_end}

-- a file of a line table: the number of its directory, and its name
pub record LineFile : Type 0 where
  pub directory : ℕ
  pub name : List ℕ

-- A line table's header. Its directories and files are those of the header, the directories from number 1 on; `program`
-- is what is unread behind it.
pub record LineHeader : Type 0 where
  pub version : ℕ
  pub address_size : ℕ
  pub minimum_instruction_length : ℕ
  pub default_is_stmt : Bool
  pub line_base : ℤ
  pub line_range : ℕ
  pub opcode_base : ℕ
  pub standard_opcode_lengths : List ℕ
  pub directories : List (List ℕ)
  pub files : List LineFile
  pub program : Unread

-- the number that a byte spells as a signed one
abbrev pub signed_byte : ℕ → ℤ
signed_byte b = if nat_lt b 128 then pos b else pos b -ℤ pos 256

-- a directory's name; an empty one ends the list
unfoldable pub directory_at : Unread → Read (Option (List ℕ))
directory_at u = do
  name ← text_at u
  Ok (if length name.0 == 0 then None else Some name.0, name.1)

-- a file behind its name: its directory, its time and its length
unfoldable pub file_behind : List ℕ → Unread → Read LineFile
file_behind name u = do
  directory ← uleb_at u
  time ← uleb_at directory.1
  size ← uleb_at time.1
  Ok (record { directory = directory.0; name = name }, size.1)

-- a file; an empty name ends the list
unfoldable pub file_at : Unread → Read (Option LineFile)
file_at u = do
  name ← text_at u
  elim (length name.0 == 0) [ true ↦ Ok (None, name.1) | false ↦ (file_behind name.0 name.1 >>= λ file. Ok (Some file.0, file.1)) ]

-- the operations in one instruction, from version 4 on: one; several are refused
unfoldable pub operations_at : ℕ → Unread → Read ℕ
operations_at version u =
    if nat_lt version 4
    then Ok (1, u)
    else (number_at 1 u >>= λ operations. forbid (operations.0 == 0) Malformed >>= λ some. forbid (nat_lt 1 operations.0) (Refused Operations) >>= λ one. Ok operations)

-- ---- directories and files of version 5 (DWARF 5, sections 6.2.4, 10 to 17, and 6.2.4.1)

-- a field of an entry: what it says, and its form
pub record EntryFormat : Type 0 where
  pub content : ℕ
  pub form : ℕ

-- a field's format; a constant that stands in it is none of the grammar
unfoldable pub entry_format_at : Unread → Read EntryFormat
entry_format_at u = do
  content ← uleb_at u
  form ← uleb_at content.1
  given ← forbid (form.0 == DW_FORM_implicit_const) Malformed
  Ok (record { content = content.0; form = form.0 }, form.1)

-- the formats of the fields of an entry
unfoldable pub entry_formats_at : Unread → Read (List EntryFormat)
entry_formats_at u = do
  count ← number_at 1 u
  counted_at count.0 entry_format_at count.1

-- whether a form is of a text; one of a supplementary file is refused where it is read
abbrev pub is_text_form : Option Form → Bool
is_text_form (Some string) = true
is_text_form (Some (string_elsewhere size)) = true
is_text_form (Some supplementary) = true
is_text_form _ = false

-- whether a field says the path
abbrev pub is_path : EntryFormat → Bool
is_path f = f.content == DW_LNCT_path

-- whether one field says the path, and by a text
abbrev pub has_one_path : List EntryFormat → Bool
has_one_path [] = false
has_one_path (f ∷ fs) = if is_path f then is_text_form (form_of f.form) && not (list_any is_path fs) else has_one_path fs

-- how many entries there are; where there are some, they have a path
unfoldable pub entry_count_at : List EntryFormat → Unread → Read ℕ
entry_count_at formats u = do
  count ← uleb_at u
  named ← forbid (nat_lt 0 count.0 && not (has_one_path formats)) Malformed
  Ok count

-- What else a header is read from: the texts of its unit, and the relocations of its section.
pub record LineSource : Type 0 where
  pub texts : TextSource
  pub relocations : List Relocation

-- the same of sections, for a unit whose texts by an index begin at a base
abbrev pub line_source : Sections → ℕ → LineSource
line_source s base = record { texts = texts_from s base; relocations = s.relocations Line }

-- the number of a directory, which a constant says
abbrev pub directory_or : ℕ → Value → ℕ
directory_or before (constant form n) = n
directory_or before _ = before

-- an entry with what a further field says; other content is passed over
abbrev pub with_field : LineSource → Bool → ℕ → Value → LineFile → Result LineFile Flaw
with_field s looked_up content value f =
    elim (content == DW_LNCT_path) [
      | true ↦ (path_text s.texts looked_up value >>= λ name. Ok (record { directory = f.directory; name = name }))
      | false ↦ Ok (if content == DW_LNCT_directory_index then record { directory = directory_or f.directory value; name = f.name } else f)
    ]

-- a field's value has no attribute that would say more of it
abbrev pub field_spec : EntryFormat → AttributeSpec
field_spec f = record { name = 0; form = f.form; implicit = pos 0 }

-- a field of an entry
unfoldable pub entry_field_at : LineSource → ℕ → Bool → EntryFormat → LineFile → Unread → Read LineFile
entry_field_at s address_size looked_up format f u = do
  value ← encoded_value_at s.relocations (record { version = 5; address_size = address_size }) (field_spec format) u
  field ← with_field s looked_up format.content value.0 f
  Ok (field, value.1)

-- the fields of an entry, one behind another
unfoldable pub entry_fields_at : LineSource → ℕ → Bool → List EntryFormat → LineFile → Unread → Read LineFile
entry_fields_at s address_size looked_up [] f u = Ok (f, u)
entry_fields_at s address_size looked_up (format ∷ formats) f u = do
  first ← entry_field_at s address_size looked_up format f u
  entry_fields_at s address_size looked_up formats first.0 first.1

-- an entry before its fields: in the compilation directory, and without a name
abbrev pub no_fields : LineFile
no_fields = record { directory = 0; name = [] }

-- a file
abbrev pub file_entry_at : LineSource → ℕ → List EntryFormat → Unread → Read LineFile
file_entry_at s address_size formats u = entry_fields_at s address_size true formats no_fields u

-- a directory above 0, by its name
abbrev pub directory_entry_at : LineSource → ℕ → List EntryFormat → Unread → Read (List ℕ)
directory_entry_at s address_size formats u = seen_as (λ d. d.name) (file_entry_at s address_size formats u)

-- The directories from number 1 on. Number 0 is the compilation directory, whose text elsewhere is not looked up.
unfoldable pub directories_of_5_at : LineSource → ℕ → Unread → Read (List (List ℕ))
directories_of_5_at s address_size u = do
  formats ← entry_formats_at u
  count ← entry_count_at formats.0 formats.1
  elim (count.0 == 0) [
    | true ↦ Ok ([], count.1)
    | false ↦ do
      own ← entry_fields_at s address_size false formats.0 no_fields count.1
      counted_at (count.0 - 1) (directory_entry_at s address_size formats.0) own.1
  ]

-- the files, from number 0 on
unfoldable pub files_of_5_at : LineSource → ℕ → Unread → Read (List LineFile)
files_of_5_at s address_size u = do
  formats ← entry_formats_at u
  count ← entry_count_at formats.0 formats.1
  counted_at count.0 (file_entry_at s address_size formats.0) count.1

-- ---- the header

-- the directories and the files of a version
unfoldable pub line_names_at : LineSource → ℕ → ℕ → Unread → Read (List (List ℕ) × List LineFile)
line_names_at s version address_size u = do
  directories ← elim (version == 5) [ true ↦ directories_of_5_at s address_size u | false ↦ items_at directory_at u ]
  files ← elim (version == 5) [ true ↦ files_of_5_at s address_size directories.1 | false ↦ items_at file_at directories.1 ]
  Ok ((directories.0, files.0), files.1)

-- the fields behind the header's length
unfoldable pub line_fields_at : LineSource → ℕ → ℕ → Unread → Unread → Result LineHeader Flaw
line_fields_at s version address_size program u = do
  minimum ← number_at 1 u
  operations ← operations_at version minimum.1
  is_stmt ← number_at 1 operations.1
  base ← number_at 1 is_stmt.1
  range ← number_at 1 base.1
  given ← forbid (range.0 == 0) Malformed
  opcodes ← number_at 1 range.1
  some ← forbid (opcodes.0 == 0) Malformed
  counts ← counted_at (opcodes.0 - 1) (number_at 1) opcodes.1
  names ← line_names_at s version address_size counts.1
  Ok (record {
    version = version;
    address_size = address_size;
    minimum_instruction_length = minimum.0;
    default_is_stmt = not (is_stmt.0 == 0);
    line_base = signed_byte base.0;
    line_range = range.0;
    opcode_base = opcodes.0;
    standard_opcode_lengths = counts.0;
    directories = (names.0).0;
    files = (names.0).1;
    program = program;
  })

-- the size of an address: that of the unit, from version 5 on the table's own, with no segment selectors
unfoldable pub line_address_size_at : ℕ → ℕ → Unread → Read ℕ
line_address_size_at version unit_size u =
    elim (version == 5) [
      | false ↦ Ok (unit_size, u)
      | true ↦ do
        size ← number_at 1 u
        known ← forbid (not ((size.0 == 4) || (size.0 == 8))) (Refused AddressSize)
        selector ← number_at 1 size.1
        plain ← forbid (not (selector.0 == 0)) (Refused SegmentSelector)
        Ok (size.0, selector.1)
    ]

-- The header of the table at the front, for a unit of an address size. The program begins behind the header's length.
unfoldable pub line_header_at : LineSource → ℕ → Unread → Result LineHeader Flaw
line_header_at s unit_size u = do
  table ← sized_part_at u
  version ← number_at 2 table.0
  known ← forbid (nat_lt version.0 2 || nat_lt 5 version.0) (Refused Version)
  address_size ← line_address_size_at version.0 unit_size version.1
  size ← number_at 4 address_size.1
  fields ← part_at size.0 size.1
  line_fields_at s version.0 address_size.0 fields.1 fields.0

-- An instruction of the program. (DWARF 4, sections 6.2.5.1 to 6.2.5.3.)
pub data Instruction : Type 0 where
  special : ℕ → Instruction
  copy : Instruction
  advance_pc : ℕ → Instruction
  advance_line : ℤ → Instruction
  set_file : ℕ → Instruction
  set_column : ℕ → Instruction
  negate_stmt : Instruction
  set_basic_block : Instruction
  const_add_pc : Instruction
  fixed_advance_pc : ℕ → Instruction
  set_prologue_end : Instruction
  set_epilogue_begin : Instruction
  set_isa : ℕ → Instruction
  end_sequence : Instruction
  set_address : Address → Instruction
  define_file : LineFile → Instruction
  set_discriminator : ℕ → Instruction
  unknown : Instruction

-- what stands behind a standard opcode
pub data Operand : Type 0 where
  no_operand : Instruction → Operand
  one_uleb : (ℕ → Instruction) → Operand
  one_sleb : (ℤ → Instruction) → Operand
  two_bytes : (ℕ → Instruction) → Operand

-- the standard opcodes, each with its operand (DWARF 4, section 6.2.5.2)
abbrev pub standard_opcodes : List (ℕ × Operand)
standard_opcodes =
    (DW_LNS_copy, no_operand copy) ∷ (DW_LNS_advance_pc, one_uleb advance_pc) ∷ (DW_LNS_advance_line, one_sleb advance_line) ∷ (DW_LNS_set_file, one_uleb set_file) ∷ (DW_LNS_set_column, one_uleb set_column) ∷ (DW_LNS_negate_stmt, no_operand negate_stmt)
    ∷ (DW_LNS_set_basic_block, no_operand set_basic_block) ∷ (DW_LNS_const_add_pc, no_operand const_add_pc) ∷ (DW_LNS_fixed_advance_pc, two_bytes fixed_advance_pc) ∷ (DW_LNS_set_prologue_end, no_operand set_prologue_end)
    ∷ (DW_LNS_set_epilogue_begin, no_operand set_epilogue_begin) ∷ (DW_LNS_set_isa, one_uleb set_isa) ∷ []

-- an instruction with its operand
unfoldable pub operand_at : Operand → Unread → Read Instruction
operand_at (no_operand i) u = Ok (i, u)
operand_at (one_uleb make) u = seen_as make (uleb_at u)
operand_at (one_sleb make) u = seen_as make (sleb_at u)
operand_at (two_bytes make) u = seen_as make (number_at 2 u)

-- a standard opcode without a meaning: so many numbers are passed
unfoldable pub passed_operands_at : ℕ → Unread → Read Instruction
passed_operands_at count u = seen_as (λ ns. unknown) (counted_at count uleb_at u)

-- The operands of an extended opcode; `define_file` ended with version 4.
unfoldable pub extended_at : List Relocation → LineHeader → ℕ → Unread → Read Instruction
extended_at relocations h opcode u =
    elim (opcode == DW_LNE_end_sequence) [
      | true ↦ Ok (end_sequence, u)
      | false ↦
          elim (opcode == DW_LNE_set_address) [
            | true ↦ seen_as set_address (address_at relocations h.address_size u)
            | false ↦
                elim ((opcode == DW_LNE_define_file) && nat_lt h.version 5) [
                  | true ↦ (text_at u >>= λ name. seen_as define_file (file_behind name.0 name.1))
                  | false ↦
                      elim (opcode == DW_LNE_set_discriminator) [ true ↦ seen_as set_discriminator (uleb_at u) | false ↦ Ok (unknown, u) ]
                ]
          ]
    ]

-- An extended instruction behind its 0: a length, and in it an opcode and operands. The rest of the length is passed.
unfoldable pub extended_instruction_at : List Relocation → LineHeader → Unread → Read Instruction
extended_instruction_at relocations h u = do
  size ← uleb_at u
  inside ← part_at size.0 size.1
  opcode ← number_at 1 inside.0
  instruction ← extended_at relocations h opcode.0 opcode.1
  Ok (instruction.0, inside.1)

-- The instruction at the front. Opcodes from `opcode_base` on are special, and 0 begins an extended one.
unfoldable pub instruction_at : List Relocation → LineHeader → Unread → Read Instruction
instruction_at relocations h u = do
  opcode ← number_at 1 u
  elim (nat_le h.opcode_base opcode.0) [
    | true ↦ Ok (special opcode.0, opcode.1)
    | false ↦
        elim (opcode.0 == 0) [
          | true ↦ extended_instruction_at relocations h opcode.1
          | false ↦
              elim (coded standard_opcodes opcode.0) [
                | Some operand ↦ operand_at operand opcode.1
                | None ↦
                    passed_operands_at (slice_index h.standard_opcode_lengths (opcode.0 - 1)) opcode.1
              ]
        ]
  ]

-- the next instruction, up to the table's end
unfoldable pub next_instruction : List Relocation → LineHeader → Unread → Next Unread Flaw Instruction
next_instruction relocations h u =
    elim (length u.left == 0) [
      | true ↦ at_end
      | false ↦ elim (instruction_at relocations h u) [ Ok i ↦ item i.0 i.1 | Err flaw ↦ broken flaw ]
    ]

-- the instructions from a place on, up to the table's end
unfoldable pub instructions : List Relocation → LineHeader → Unread → Listing Flaw Instruction
instructions relocations h u = walk (λ v. length v.left) (next_instruction relocations h) u
