-- Whether the files and directories are there that a line table names. (DWARF 4, section 6.2.4; DWARF 5, section 6.2.4.1.)
use Rattle.std.specs.Prelude.{ℕ, List, length, Bool, true, nat_lt, ◌&&◌, is_some}
use Rattle.std.specs.List.{list_all}
use Rattle.dwc_dwarf.specs.LineHeaders.{LineFile}
use Rattle.dwc_dwarf.specs.LineRows.{LineTable, LineStep, start, row, end, source_file, in_directory}

-- whether a row's file is there, and that file's directory
abbrev pub names_file : LineTable → LineStep → Bool
names_file t (start a) = true
names_file t (row r) = is_some (source_file t r.file)
names_file t (end e) = true

-- whether a file's directory is there, and its name is not empty
abbrev pub has_names : List (List ℕ) → LineFile → Bool
has_names directories f = is_some (in_directory directories f) && nat_lt 0 (length f.name)

-- whether a directory's name is not empty
abbrev pub is_named : List ℕ → Bool
is_named name = nat_lt 0 (length name)

-- Whether no file or directory is missing in a table, and no name is empty but that of the compilation directory.
abbrev pub has_all_files : LineTable → Bool
has_all_files t = list_all (names_file t) t.steps && list_all (has_names t.header.directories) t.files && list_all is_named t.header.directories
