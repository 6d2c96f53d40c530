-- Line tables of version 5 worked out by hand: formats, directories and files, and what is refused. (DWARF 5, section
-- 6.2.4.)
use Rattle.std.proofs.Common.{◌≡◌, ℕ, List, [], ◌∷◌, ◌++◌, map, length, Some, None, Ok, Err, Bool, true, false, refl}
use Rattle.std.specs.Prelude.{Option, Result}
use Rattle.dwc_base.specs.declared.records.Address.TheVariants.{Constant}
use Rattle.dwc_base.specs.declared.records.Endian.TheVariants.{Little}
use Rattle.dwc_base.specs.declared.faults.What.TheVariants.{LineTable as LineTableRead}
use Rattle.dwc_base.specs.declared.faults.Kind.TheVariants.{AddressSize, Operations, SegmentSelector, Supplementary}
use Rattle.dwc_base.specs.declared.section_name.SectionName.TheVariants.{Line, LineStr, Str, StrOffsets}
use Rattle.dwc_base.specs.Sections.{Sections, Fault, unreadable, unsupported}
use Rattle.dwc_dwarf.specs.LineRows.{LineTable, line_table, Row, SourceFile}
use Rattle.dwc_dwarf.specs.LineFiles.{has_all_files}
use Rattle.dwc_worked.proofs.LineTables.{segments_read}
use Rattle.dwc_worked.proofs.OnLiterals.{lines_on_literals}

-- `.debug_str` has an empty text at 0, `a.c` at 1 and `d` at 5; `.debug_line_str` has `/w` at 0, `e` at 3, and at 5 a
-- text without an end; from 8 on the offsets of `.debug_str` by an index are 1 and 200
abbrev sections : List ℕ → Sections
sections bytes = record { order = Little; bytes = λ name. elim name [ Str ↦ (0x00 ∷ 0x61 ∷ 0x2E ∷ 0x63 ∷ 0x00 ∷ 0x64 ∷ 0x00 ∷ []) | LineStr ↦ (0x2F ∷ 0x77 ∷ 0x00 ∷ 0x65 ∷ 0x00 ∷ 0x62 ∷ []) | StrOffsets ↦ (0xFF ∷ 0xFF ∷ 0xFF ∷ 0xFF ∷ 0xFF ∷ 0xFF ∷ 0xFF ∷ 0xFF ∷ 0x01 ∷ 0x00 ∷ 0x00 ∷ 0x00 ∷ 0xC8 ∷ 0x00 ∷ 0x00 ∷ 0x00 ∷ []) | Line ↦ bytes | _ ↦ [] ]; relocations = λ name. [] }

-- a number below 256 in four bytes
abbrev four : ℕ → List ℕ
four n = n ∷ 0x00 ∷ 0x00 ∷ 0x00 ∷ []

-- a table of some sizes of addresses and selectors, some operations in an instruction, directories and files, and a program
abbrev bytes_5 : ℕ → ℕ → ℕ → List ℕ → List ℕ → List ℕ
bytes_5 size selector operations names program =
    let fields = 0x01 ∷ operations ∷ 0x01 ∷ 0xFB ∷ 0x0E ∷ 0x0D ∷ 0x00 ∷ 0x01 ∷ 0x01 ∷ 0x01 ∷ 0x01 ∷ 0x00 ∷ 0x00 ∷ 0x00 ∷ 0x01 ∷ 0x00 ∷ 0x00 ∷ 0x01 ∷ names in
    let body = 0x05 ∷ 0x00 ∷ size ∷ selector ∷ four (length fields) ++ fields ++ program in
    four (length body) ++ body

-- one row at 2, of the file that the registers begin with
abbrev one_row : List ℕ
one_row = 0x00 ∷ 0x05 ∷ 0x02 ∷ 0x02 ∷ 0x00 ∷ 0x00 ∷ 0x00 ∷ 0x01 ∷ 0x00 ∷ 0x01 ∷ 0x01 ∷ []

-- the same of a file by number
abbrev row_of_file : ℕ → List ℕ
row_of_file n = 0x00 ∷ 0x05 ∷ 0x02 ∷ 0x02 ∷ 0x00 ∷ 0x00 ∷ 0x00 ∷ 0x04 ∷ n ∷ 0x01 ∷ 0x00 ∷ 0x01 ∷ 0x01 ∷ []

-- the table of some bytes
abbrev table_of_bytes : List ℕ → Result LineTable Fault
table_of_bytes bytes = line_table (sections bytes) 4 8 0

-- the table of directories and files
abbrev table : List ℕ → Result LineTable Fault
table names = table_of_bytes (bytes_5 4 0 1 names one_row)

-- what a table has, in a form that is short to write down: its directories from number 1 on, and its files
abbrev names_in : Result LineTable Fault → Result (List (List ℕ) × List (ℕ × List ℕ)) Fault
names_in (Ok t) = Ok (t.header.directories, map (λ f. (f.directory, f.name)) t.files)
names_in (Err fault) = Err fault

abbrev HasNames : List ℕ → List (List ℕ) → List (ℕ × List ℕ) → Type 0
HasNames names directories files = names_in (table names) ≡ Ok (directories, files)

-- a table that cannot be read
abbrev NoTable : List ℕ → Type 0
NoTable names = table names ≡ Err (unreadable LineTableRead Line 0)

-- whether all files are there
abbrev is_whole : Result LineTable Fault → Bool
is_whole (Ok t) = has_all_files t
is_whole (Err fault) = false

-- the files of the rows of a table
abbrev files_of_rows : Result LineTable Fault → List (List (Option SourceFile))
files_of_rows r = map (λ q. map (λ (x : Row). x.source.file) q.rows) (segments_read r)

-- no directories, and two files without one: `a` and `b`, by string
abbrev two_files : List ℕ
two_files = 0x00 ∷ 0x00 ∷ 0x01 ∷ 0x01 ∷ 0x08 ∷ 0x02 ∷ 0x61 ∷ 0x00 ∷ 0x62 ∷ 0x00 ∷ []

-- ---- directories and files

-- paths in `.debug_line_str` and in place, an index of the directory, and a field of 16 bytes that is passed over; directory 0 is not kept
compiled : HasNames (0x01 ∷ 0x01 ∷ 0x1F ∷ 0x02 ∷ 0x00 ∷ 0x00 ∷ 0x00 ∷ 0x00 ∷ 0x03 ∷ 0x00 ∷ 0x00 ∷ 0x00 ∷ 0x03 ∷ 0x01 ∷ 0x08 ∷ 0x02 ∷ 0x0B ∷ 0x05 ∷ 0x1E ∷ 0x02 ∷ 0x61 ∷ 0x00 ∷ 0x00 ∷ 0x00 ∷ 0x01 ∷ 0x02 ∷ 0x03 ∷ 0x04 ∷ 0x05 ∷ 0x06 ∷ 0x07 ∷ 0x08 ∷ 0x09 ∷ 0x0A ∷ 0x0B ∷ 0x0C ∷ 0x0D ∷ 0x0E ∷ 0x0F ∷ 0x62 ∷ 0x00 ∷ 0x01 ∷ 0x00 ∷ 0x01 ∷ 0x02 ∷ 0x03 ∷ 0x04 ∷ 0x05 ∷ 0x06 ∷ 0x07 ∷ 0x08 ∷ 0x09 ∷ 0x0A ∷ 0x0B ∷ 0x0C ∷ 0x0D ∷ 0x0E ∷ 0x0F ∷ []) ((101 ∷ []) ∷ []) ((0, (97 ∷ [])) ∷ (1, (98 ∷ [])) ∷ [])
unfolding lines_on_literals
compiled = refl

-- paths in `.debug_str`
paths_in_str : HasNames (0x01 ∷ 0x01 ∷ 0x0E ∷ 0x02 ∷ 0x00 ∷ 0x00 ∷ 0x00 ∷ 0x00 ∷ 0x05 ∷ 0x00 ∷ 0x00 ∷ 0x00 ∷ 0x01 ∷ 0x01 ∷ 0x0E ∷ 0x01 ∷ 0x01 ∷ 0x00 ∷ 0x00 ∷ 0x00 ∷ []) ((100 ∷ []) ∷ []) ((0, (97 ∷ 46 ∷ 99 ∷ [])) ∷ [])
unfolding lines_on_literals
paths_in_str = refl

-- without directories a file is in the compilation directory
no_directories : HasNames (0x00 ∷ 0x00 ∷ 0x01 ∷ 0x01 ∷ 0x08 ∷ 0x01 ∷ 0x61 ∷ 0x00 ∷ []) [] ((0, (97 ∷ [])) ∷ [])
unfolding lines_on_literals
no_directories = refl

-- and without files there are none, whatever their formats
no_files : HasNames (0x00 ∷ 0x00 ∷ 0x00 ∷ 0x00 ∷ []) [] []
unfolding lines_on_literals
no_files = refl

-- formats of no entries need no path
no_entries : HasNames (0x01 ∷ 0x02 ∷ 0x0B ∷ 0x00 ∷ 0x02 ∷ 0x01 ∷ 0x08 ∷ 0x01 ∷ 0x08 ∷ 0x00 ∷ []) [] []
unfolding lines_on_literals
no_entries = refl

-- the last index of a directory counts, and one that is no constant is passed over
last_index : HasNames (0x00 ∷ 0x00 ∷ 0x05 ∷ 0x02 ∷ 0x0B ∷ 0x01 ∷ 0x08 ∷ 0x02 ∷ 0x0F ∷ 0x02 ∷ 0x1E ∷ 0x02 ∷ 0x0C ∷ 0x01 ∷ 0x07 ∷ 0x61 ∷ 0x00 ∷ 0x81 ∷ 0x01 ∷ 0x09 ∷ 0x09 ∷ 0x09 ∷ 0x09 ∷ 0x09 ∷ 0x09 ∷ 0x09 ∷ 0x09 ∷ 0x09 ∷ 0x09 ∷ 0x09 ∷ 0x09 ∷ 0x09 ∷ 0x09 ∷ 0x09 ∷ 0x09 ∷ 0x05 ∷ []) [] ((129, (97 ∷ [])) ∷ [])
unfolding lines_on_literals
last_index = refl

-- an index of each other size, and a signed one
indexes : HasNames (0x00 ∷ 0x00 ∷ 0x02 ∷ 0x02 ∷ 0x05 ∷ 0x01 ∷ 0x08 ∷ 0x01 ∷ 0x01 ∷ 0x02 ∷ 0x61 ∷ 0x00 ∷ []) [] ((513, (97 ∷ [])) ∷ [])
unfolding lines_on_literals
indexes = refl

-- a signed index is its 64 bits
index-signed : HasNames (0x00 ∷ 0x00 ∷ 0x02 ∷ 0x02 ∷ 0x0D ∷ 0x01 ∷ 0x08 ∷ 0x01 ∷ 0x7F ∷ 0x61 ∷ 0x00 ∷ []) [] ((18446744073709551615, (97 ∷ [])) ∷ [])
unfolding lines_on_literals
index-signed = refl

-- content that has no meaning here is passed over, by any form: a block, an address, a length and its flags
other_content : HasNames (0x00 ∷ 0x00 ∷ 0x06 ∷ 0x03 ∷ 0x0A ∷ 0x81 ∷ 0x40 ∷ 0x01 ∷ 0x04 ∷ 0x0F ∷ 0x01 ∷ 0x08 ∷ 0x06 ∷ 0x19 ∷ 0x06 ∷ 0x17 ∷ 0x01 ∷ 0x02 ∷ 0x08 ∷ 0x08 ∷ 0x01 ∷ 0x02 ∷ 0x03 ∷ 0x04 ∷ 0x80 ∷ 0x01 ∷ 0x61 ∷ 0x00 ∷ 0x01 ∷ 0x02 ∷ 0x03 ∷ 0x04 ∷ []) [] ((0, (97 ∷ [])) ∷ [])
unfolding lines_on_literals
other_content = refl

-- `indirect` may stand in formats other than that of the path
indirect : HasNames (0x00 ∷ 0x00 ∷ 0x02 ∷ 0x02 ∷ 0x16 ∷ 0x01 ∷ 0x08 ∷ 0x01 ∷ 0x0B ∷ 0x03 ∷ 0x61 ∷ 0x00 ∷ []) [] ((3, (97 ∷ [])) ∷ [])
unfolding lines_on_literals
indirect = refl

-- a directory of version 5 may have an empty name
directory-empty : HasNames (0x01 ∷ 0x01 ∷ 0x08 ∷ 0x02 ∷ 0x77 ∷ 0x00 ∷ 0x00 ∷ 0x00 ∷ 0x00 ∷ []) ([] ∷ []) []
unfolding lines_on_literals
directory-empty = refl

-- what the header's length leaves behind the files is passed
header_rest : HasNames (0x00 ∷ 0x00 ∷ 0x01 ∷ 0x01 ∷ 0x08 ∷ 0x01 ∷ 0x61 ∷ 0x00 ∷ 0xFF ∷ 0xFF ∷ []) [] ((0, (97 ∷ [])) ∷ [])
unfolding lines_on_literals
header_rest = refl

-- the text of directory 0 is not looked up
directory_0 : HasNames (0x01 ∷ 0x01 ∷ 0x1F ∷ 0x01 ∷ 0xC8 ∷ 0x00 ∷ 0x00 ∷ 0x00 ∷ 0x00 ∷ 0x00 ∷ []) [] []
unfolding lines_on_literals
directory_0 = refl

-- nor one in `.debug_str`
directory_0-in_str : HasNames (0x01 ∷ 0x01 ∷ 0x0E ∷ 0x01 ∷ 0xC8 ∷ 0x00 ∷ 0x00 ∷ 0x00 ∷ 0x00 ∷ 0x00 ∷ []) [] []
unfolding lines_on_literals
directory_0-in_str = refl

-- ---- numbers of files

-- files count from 0, so the registers begin with the second
file_1 : files_of_rows (table_of_bytes (bytes_5 4 0 1 two_files one_row)) ≡ (Some (record { directory = None; name = (98 ∷ []) }) ∷ []) ∷ []
unfolding lines_on_literals
file_1 = refl

-- and number 0 is the first
file_0 : files_of_rows (table_of_bytes (bytes_5 4 0 1 two_files (row_of_file 0))) ≡ (Some (record { directory = None; name = (97 ∷ []) }) ∷ []) ∷ []
unfolding lines_on_literals
file_0 = refl

-- a file behind the last is none
file_2 : files_of_rows (table_of_bytes (bytes_5 4 0 1 two_files (row_of_file 2))) ≡ (None ∷ []) ∷ []
unfolding lines_on_literals
file_2 = refl

-- a file of directory 1, which is the first behind the compilation directory
file_in_directory : files_of_rows (table (0x01 ∷ 0x01 ∷ 0x08 ∷ 0x03 ∷ 0x77 ∷ 0x00 ∷ 0x64 ∷ 0x00 ∷ 0x65 ∷ 0x00 ∷ 0x02 ∷ 0x01 ∷ 0x08 ∷ 0x02 ∷ 0x0B ∷ 0x02 ∷ 0x61 ∷ 0x00 ∷ 0x00 ∷ 0x62 ∷ 0x00 ∷ 0x01 ∷ [])) ≡ (Some (record { directory = Some (100 ∷ []); name = (98 ∷ []) }) ∷ []) ∷ []
unfolding lines_on_literals
file_in_directory = refl

-- no file is defined: the opcode is passed by its length
define_file : names_in (table_of_bytes (bytes_5 4 0 1 two_files (0x00 ∷ 0x06 ∷ 0x03 ∷ 0x63 ∷ 0x00 ∷ 0x00 ∷ 0x00 ∷ 0x00 ∷ []))) ≡ Ok ([], (0, 97 ∷ []) ∷ (0, 98 ∷ []) ∷ [])
unfolding lines_on_literals
define_file = refl

-- an address has the size that the table says
address-8 : map (λ q. q.start) (segments_read (table_of_bytes (bytes_5 8 0 1 two_files (0x00 ∷ 0x09 ∷ 0x02 ∷ 0x02 ∷ 0x00 ∷ 0x00 ∷ 0x00 ∷ 0x01 ∷ 0x00 ∷ 0x00 ∷ 0x00 ∷ 0x01 ∷ 0x00 ∷ 0x01 ∷ 0x01 ∷ [])))) ≡ Constant 0x100000002 ∷ []
unfolding lines_on_literals
address-8 = refl

-- ---- files that are there

-- all files are there
whole : is_whole (table_of_bytes (bytes_5 4 0 1 two_files one_row)) ≡ true
unfolding lines_on_literals
whole = refl

-- also number 0
whole-file_0 : is_whole (table_of_bytes (bytes_5 4 0 1 two_files (row_of_file 0))) ≡ true
unfolding lines_on_literals
whole-file_0 = refl

-- a row names no file behind the last
lacks-file : is_whole (table_of_bytes (bytes_5 4 0 1 two_files (row_of_file 2))) ≡ false
unfolding lines_on_literals
lacks-file = refl

-- nor a file the directory behind the last
lacks-directory : is_whole (table_of_bytes (bytes_5 4 0 1 (0x01 ∷ 0x01 ∷ 0x08 ∷ 0x02 ∷ 0x77 ∷ 0x00 ∷ 0x64 ∷ 0x00 ∷ 0x02 ∷ 0x01 ∷ 0x08 ∷ 0x02 ∷ 0x0B ∷ 0x02 ∷ 0x61 ∷ 0x00 ∷ 0x00 ∷ 0x62 ∷ 0x00 ∷ 0x02 ∷ []) one_row)) ≡ false
unfolding lines_on_literals
lacks-directory = refl

-- the last one is there
last-directory : is_whole (table_of_bytes (bytes_5 4 0 1 (0x01 ∷ 0x01 ∷ 0x08 ∷ 0x02 ∷ 0x77 ∷ 0x00 ∷ 0x64 ∷ 0x00 ∷ 0x02 ∷ 0x01 ∷ 0x08 ∷ 0x02 ∷ 0x0B ∷ 0x02 ∷ 0x61 ∷ 0x00 ∷ 0x00 ∷ 0x62 ∷ 0x00 ∷ 0x01 ∷ []) one_row)) ≡ true
unfolding lines_on_literals
last-directory = refl

-- a file without a name, though no row names it
lacks-file_name : is_whole (table_of_bytes (bytes_5 4 0 1 (0x00 ∷ 0x00 ∷ 0x01 ∷ 0x01 ∷ 0x08 ∷ 0x02 ∷ 0x00 ∷ 0x62 ∷ 0x00 ∷ []) one_row)) ≡ false
unfolding lines_on_literals
lacks-file_name = refl

-- a directory without a name, though no file names it
lacks-directory_name : is_whole (table_of_bytes (bytes_5 4 0 1 (0x01 ∷ 0x01 ∷ 0x08 ∷ 0x02 ∷ 0x77 ∷ 0x00 ∷ 0x00 ∷ 0x01 ∷ 0x01 ∷ 0x08 ∷ 0x02 ∷ 0x61 ∷ 0x00 ∷ 0x62 ∷ 0x00 ∷ []) one_row)) ≡ false
unfolding lines_on_literals
lacks-directory_name = refl

-- the compilation directory needs none
unnamed-directory_0 : is_whole (table_of_bytes (bytes_5 4 0 1 (0x01 ∷ 0x01 ∷ 0x08 ∷ 0x01 ∷ 0x00 ∷ 0x01 ∷ 0x01 ∷ 0x08 ∷ 0x02 ∷ 0x61 ∷ 0x00 ∷ 0x62 ∷ 0x00 ∷ []) one_row)) ≡ true
unfolding lines_on_literals
unnamed-directory_0 = refl

-- without rows no file is needed
no_rows : is_whole (table_of_bytes (bytes_5 4 0 1 (0x00 ∷ 0x00 ∷ 0x00 ∷ 0x00 ∷ []) [])) ≡ true
unfolding lines_on_literals
no_rows = refl

-- ---- what is outside the grammar

-- entries without a path
path-none : NoTable (0x00 ∷ 0x00 ∷ 0x01 ∷ 0x02 ∷ 0x0B ∷ 0x01 ∷ 0x00 ∷ [])
unfolding lines_on_literals
path-none = refl

-- entries without any field, of which there could be very many
no_fields-many : NoTable (0x00 ∷ 0x00 ∷ 0x00 ∷ 0xFF ∷ 0xFF ∷ 0xFF ∷ 0xFF ∷ 0xFF ∷ 0xFF ∷ 0xFF ∷ 0xFF ∷ 0xFF ∷ 0x01 ∷ [])
unfolding lines_on_literals
no_fields-many = refl

-- entries of a flag alone, which takes no bytes
flags-many : NoTable (0x00 ∷ 0x00 ∷ 0x01 ∷ 0x05 ∷ 0x19 ∷ 0xFF ∷ 0xFF ∷ 0xFF ∷ 0xFF ∷ 0xFF ∷ 0xFF ∷ 0xFF ∷ 0xFF ∷ 0xFF ∷ 0x01 ∷ [])
unfolding lines_on_literals
flags-many = refl

-- directories without a path
directories-no_path : NoTable (0x01 ∷ 0x02 ∷ 0x0B ∷ 0x01 ∷ 0x00 ∷ 0x00 ∷ 0x00 ∷ [])
unfolding lines_on_literals
directories-no_path = refl

-- two paths
path-twice : NoTable (0x00 ∷ 0x00 ∷ 0x02 ∷ 0x01 ∷ 0x08 ∷ 0x01 ∷ 0x08 ∷ 0x01 ∷ 0x61 ∷ 0x00 ∷ 0x62 ∷ 0x00 ∷ [])
unfolding lines_on_literals
path-twice = refl

-- a path that is a constant
path-constant : NoTable (0x00 ∷ 0x00 ∷ 0x01 ∷ 0x01 ∷ 0x0B ∷ 0x01 ∷ 0x61 ∷ [])
unfolding lines_on_literals
path-constant = refl

-- a path behind `indirect`
path-indirect : NoTable (0x00 ∷ 0x00 ∷ 0x01 ∷ 0x01 ∷ 0x16 ∷ 0x01 ∷ 0x08 ∷ 0x61 ∷ 0x00 ∷ [])
unfolding lines_on_literals
path-indirect = refl

-- a path of a code that names no form
path-no_form : NoTable (0x00 ∷ 0x00 ∷ 0x01 ∷ 0x01 ∷ 0x02 ∷ 0x01 ∷ 0x61 ∷ 0x00 ∷ [])
unfolding lines_on_literals
path-no_form = refl

-- another field of a code that names no form
other-no_form : NoTable (0x00 ∷ 0x00 ∷ 0x02 ∷ 0x01 ∷ 0x08 ∷ 0x05 ∷ 0x02 ∷ 0x01 ∷ 0x61 ∷ 0x00 ∷ [])
unfolding lines_on_literals
other-no_form = refl

-- an implicit constant, though there be no entries
implicit : NoTable (0x00 ∷ 0x00 ∷ 0x02 ∷ 0x01 ∷ 0x08 ∷ 0x02 ∷ 0x21 ∷ 0x00 ∷ [])
unfolding lines_on_literals
implicit = refl

-- an implicit constant behind `indirect`
implicit-behind : NoTable (0x00 ∷ 0x00 ∷ 0x02 ∷ 0x01 ∷ 0x08 ∷ 0x02 ∷ 0x16 ∷ 0x01 ∷ 0x61 ∷ 0x00 ∷ 0x21 ∷ 0x00 ∷ [])
unfolding lines_on_literals
implicit-behind = refl

-- a text without an end in `.debug_line_str`
text-cut : NoTable (0x00 ∷ 0x00 ∷ 0x01 ∷ 0x01 ∷ 0x1F ∷ 0x01 ∷ 0x05 ∷ 0x00 ∷ 0x00 ∷ 0x00 ∷ [])
unfolding lines_on_literals
text-cut = refl

-- a text behind the end of `.debug_str`
text-past : NoTable (0x00 ∷ 0x00 ∷ 0x01 ∷ 0x01 ∷ 0x0E ∷ 0x01 ∷ 0xC8 ∷ 0x00 ∷ 0x00 ∷ 0x00 ∷ [])
unfolding lines_on_literals
text-past = refl

-- a text of a directory above 0
directory_1-past : NoTable (0x01 ∷ 0x01 ∷ 0x0E ∷ 0x02 ∷ 0x01 ∷ 0x00 ∷ 0x00 ∷ 0x00 ∷ 0xC8 ∷ 0x00 ∷ 0x00 ∷ 0x00 ∷ 0x00 ∷ 0x00 ∷ [])
unfolding lines_on_literals
directory_1-past = refl

-- formats that are cut
formats-cut : NoTable (0x00 ∷ 0x00 ∷ 0x02 ∷ 0x01 ∷ 0x08 ∷ 0x01 ∷ [])
unfolding lines_on_literals
formats-cut = refl

-- entries that are cut by the header's length
entries-cut : NoTable (0x00 ∷ 0x00 ∷ 0x01 ∷ 0x01 ∷ 0x08 ∷ 0x02 ∷ 0x61 ∷ 0x00 ∷ [])
unfolding lines_on_literals
entries-cut = refl

-- a path that is cut
path-cut : NoTable (0x00 ∷ 0x00 ∷ 0x01 ∷ 0x01 ∷ 0x0E ∷ 0x01 ∷ 0x01 ∷ 0x00 ∷ [])
unfolding lines_on_literals
path-cut = refl

-- a header that ends behind the directories
files-cut : NoTable (0x00 ∷ 0x00 ∷ [])
unfolding lines_on_literals
files-cut = refl

-- no operations in an instruction
operations_0 : table_of_bytes (bytes_5 4 0 0 two_files one_row) ≡ Err (unreadable LineTableRead Line 0)
unfolding lines_on_literals
operations_0 = refl

-- ---- what is refused by name

-- an address of 2 bytes
address-2 : table_of_bytes (bytes_5 2 0 1 two_files one_row) ≡ Err (unsupported AddressSize 0)
unfolding lines_on_literals
address-2 = refl

-- a segment selector
selector : table_of_bytes (bytes_5 4 1 1 two_files one_row) ≡ Err (unsupported SegmentSelector 0)
unfolding lines_on_literals
selector = refl

-- the size of addresses comes first
address-selector : table_of_bytes (bytes_5 3 1 1 two_files one_row) ≡ Err (unsupported AddressSize 0)
unfolding lines_on_literals
address-selector = refl

-- several operations in an instruction
operations_2 : table_of_bytes (bytes_5 4 0 2 two_files one_row) ≡ Err (unsupported Operations 0)
unfolding lines_on_literals
operations_2 = refl

-- a path of a supplementary file
path-supplementary : table (0x00 ∷ 0x00 ∷ 0x01 ∷ 0x01 ∷ 0x1D ∷ 0x01 ∷ 0x00 ∷ 0x00 ∷ 0x00 ∷ 0x00 ∷ []) ≡ Err (unsupported Supplementary 0)
unfolding lines_on_literals
path-supplementary = refl

-- another field of one
other-supplementary : table (0x00 ∷ 0x00 ∷ 0x02 ∷ 0x01 ∷ 0x08 ∷ 0x05 ∷ 0x1C ∷ 0x01 ∷ 0x61 ∷ 0x00 ∷ 0x00 ∷ 0x00 ∷ 0x00 ∷ 0x00 ∷ []) ≡ Err (unsupported Supplementary 0)
unfolding lines_on_literals
other-supplementary = refl

-- a path by the index of a text, in each form
path-strx : HasNames (0x00 ∷ 0x00 ∷ 0x01 ∷ 0x01 ∷ 0x1A ∷ 0x01 ∷ 0x00 ∷ []) [] ((0, 0x61 ∷ 0x2E ∷ 0x63 ∷ []) ∷ [])
unfolding lines_on_literals
path-strx = refl

path-strx1 : HasNames (0x00 ∷ 0x00 ∷ 0x01 ∷ 0x01 ∷ 0x25 ∷ 0x01 ∷ 0x00 ∷ []) [] ((0, 0x61 ∷ 0x2E ∷ 0x63 ∷ []) ∷ [])
unfolding lines_on_literals
path-strx1 = refl

path-strx4 : HasNames (0x00 ∷ 0x00 ∷ 0x01 ∷ 0x01 ∷ 0x28 ∷ 0x01 ∷ 0x00 ∷ 0x00 ∷ 0x00 ∷ 0x00 ∷ []) [] ((0, 0x61 ∷ 0x2E ∷ 0x63 ∷ []) ∷ [])
unfolding lines_on_literals
path-strx4 = refl

-- an index whose text is not there, and one whose offset is not
path-strx_past : NoTable (0x00 ∷ 0x00 ∷ 0x01 ∷ 0x01 ∷ 0x26 ∷ 0x01 ∷ 0x01 ∷ 0x00 ∷ [])
unfolding lines_on_literals
path-strx_past = refl

path-strx_cut : NoTable (0x00 ∷ 0x00 ∷ 0x01 ∷ 0x01 ∷ 0x27 ∷ 0x01 ∷ 0x02 ∷ 0x00 ∷ 0x00 ∷ [])
unfolding lines_on_literals
path-strx_cut = refl

-- that of directory 0 is not looked up
directory_0-strx : HasNames (0x01 ∷ 0x01 ∷ 0x1A ∷ 0x01 ∷ 0x02 ∷ 0x00 ∷ 0x00 ∷ []) [] []
unfolding lines_on_literals
directory_0-strx = refl

-- the first in the order of the bytes decides: a text that is not there, then a supplementary file
text-first : NoTable (0x00 ∷ 0x00 ∷ 0x02 ∷ 0x01 ∷ 0x0E ∷ 0x05 ∷ 0x1C ∷ 0x01 ∷ 0xC8 ∷ 0x00 ∷ 0x00 ∷ 0x00 ∷ 0x00 ∷ 0x00 ∷ 0x00 ∷ 0x00 ∷ [])
unfolding lines_on_literals
text-first = refl

-- and the other way round
supplementary-first : table (0x00 ∷ 0x00 ∷ 0x02 ∷ 0x05 ∷ 0x1C ∷ 0x01 ∷ 0x0E ∷ 0x01 ∷ 0x00 ∷ 0x00 ∷ 0x00 ∷ 0x00 ∷ 0xC8 ∷ 0x00 ∷ 0x00 ∷ 0x00 ∷ []) ≡ Err (unsupported Supplementary 0)
unfolding lines_on_literals
supplementary-first = refl
