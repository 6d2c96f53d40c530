-- The program's own records of a line table's header, seen as those of the definitions.
use Rattle.std.specs.Prelude.{ℕ, List, [], map}
use Rattle.dwc_base.specs.declared.records.Endian.TheVariants.{Little}
use Rattle.dwc_base.specs.Reading.{Unread}
use Rattle.dwc_dwarf.specs.Texts.{TextSource}
use Rattle.dwc_dwarf.specs.LineHeaders as spec
use Rattle.dwc_base.specs.Cursors.{slice_bytes}
use Rattle.dwc_tabs.specs.declared.header.LineFile.{LineFile}
use Rattle.dwc_tabs.specs.declared.parameters.Parameters.{Parameters}
use Rattle.dwc_tabs.specs.declared.header.Names.{Names}
use Rattle.dwc_tabs.specs.declared.header.Header.{Header}
use Rattle.dwc_tabs.specs.declared.file_entries.EntryFormat.{EntryFormat}
use Rattle.dwc_tabs.specs.declared.source.Source.{Source}

-- a file
abbrev pub file_view : LineFile → spec.LineFile
file_view f = record { directory = f.directory; name = f.name.now }

-- the format of a field of an entry
abbrev pub format_view : EntryFormat → spec.EntryFormat
format_view f = record { content = f.content; form = f.form }

-- where the texts of a table's paths are
abbrev pub texts_view : Source → TextSource
texts_view s = record { order = s.order; strings = s.strings.now; line_strings = s.line_strings.now; offsets = s.offsets.now; base = s.base }

-- what a table is read from beside its own section
abbrev pub source_view : Source → spec.LineSource
source_view s = record { texts = texts_view s; relocations = s.relocations }

-- directories and files
abbrev pub names_view : Names → List (List ℕ) × List spec.LineFile
names_view n = (map slice_bytes n.directories.items, map file_view n.files.items)

-- a header of parameters, directories, files and the program behind it
abbrev pub header_of : Parameters → List (List ℕ) → List spec.LineFile → Unread → spec.LineHeader
header_of p directories files program = record {
  version = p.version;
  address_size = p.address_size;
  minimum_instruction_length = p.minimum_instruction_length;
  default_is_stmt = p.default_is_stmt;
  line_base = p.line_base;
  line_range = p.line_range;
  opcode_base = p.opcode_base;
  standard_opcode_lengths = p.standard_opcode_lengths.now;
  directories = directories;
  files = files;
  program = program;
}

-- a header that was read
abbrev pub header_view : Header → spec.LineHeader
header_view h = header_of h.parameters (map slice_bytes h.directories.items) (map file_view h.files.items) h.program

-- as much of a header as the instructions of a program depend on
abbrev pub program_header : Parameters → spec.LineHeader
program_header p = header_of p [] [] (record { order = Little; place = 0; left = [] })
