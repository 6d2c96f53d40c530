-- How long the parts of an output of version 5 can be at most: line tables' headers and the names in them, and lists behind their headers. Each
-- number of variable length has 10 bytes and each address 8. (DWARF 5, sections 6.2.4, 7.28 and 7.29.)
use Rattle.std.specs.Prelude.{ℕ, suc, ◌+◌, ◌*◌, List, [], ◌∷◌, ◌++◌, map, length, sum_by, fold, Option, Some, None}
use Rattle.std.specs.List.{filter_map}
use Rattle.std.specs.Option.{unwrap_or}
use Rattle.dwc_base.specs.declared.constants.TheConstants.{DW_AT_comp_dir}
use Rattle.dwc_base.specs.Reading.{coded}
use Rattle.dwc_dwarf.specs.LineHeaders.{LineFile}
use Rattle.dwc_dwarf.specs.Trees.{TreeValue, ranges, locations, Location, Tree}
use Rattle.dwc_dwarf.specs.TreeLaws.{text_said, values_of, with_new_text}
use Rattle.dwc_output.specs.Widest.{address_bytes, variable_bytes}
use Rattle.dwc_output.specs.Versions.{files_written}

-- ---- line tables

-- what an entry is made of: how many fields, and of each its content and its form
abbrev pub widest_formats : ℕ → ℕ
widest_formats fields = 1 + fields * (variable_bytes + variable_bytes)

-- A header of version 5 with its directories, that of the unit among them, and its files: the names are offsets.
abbrev pub widest_header_5 : List (List ℕ) → List LineFile → ℕ
widest_header_5 directories files =
    (4 + 2 + 1 + 1 + 4) + (1 + 1 + 1 + 1 + 1 + 1 + 12)
    + (widest_formats 1 + variable_bytes + suc (length directories) * 4)
    + (widest_formats 2 + variable_bytes + length (files_written 5 files) * (4 + variable_bytes))

-- ---- the names in line tables

-- the compilation directory that a unit's root says, or the empty text
abbrev pub directory_said : Tree → List ℕ
directory_said [] = []
directory_said (e ∷ es) = said (coded e.attributes DW_AT_comp_dir)
  where
    said : Option TreeValue → List ℕ
    said None = []
    said (Some v) = unwrap_or (text_said v) []

-- the names in a table, in order
abbrev pub names_in : List ℕ → List (List ℕ) → List LineFile → List (List ℕ)
names_in own directories files = own ∷ directories ++ map (λ f. f.name) (files_written 5 files)

-- texts, each once, in the order of first use
abbrev pub each_once : List (List ℕ) → List (List ℕ)
each_once names = fold with_new_text [] names

-- ---- lists

-- in front of the lists of a unit: a length, the version, the size of an address, no segment selectors, and no offsets
abbrev pub list_header_bytes : ℕ
list_header_bytes = 4 + 2 + 1 + 1 + 4

-- an interval: its kind, where it begins and how long it is
abbrev pub widest_interval : ℕ
widest_interval = 1 + address_bytes + variable_bytes

-- a list with its end, none for another value
abbrev pub widest_new_ranges : TreeValue → Option ℕ
widest_new_ranges (ranges is) = Some (length is * widest_interval + 1)
widest_new_ranges _ = None

abbrev pub widest_located : Location → ℕ
widest_located l = widest_interval + (variable_bytes + length l.bytes)

abbrev pub widest_new_locations : TreeValue → Option ℕ
widest_new_locations (locations ls) = Some (sum_by widest_located ls + 1)
widest_new_locations _ = None

-- lists behind their header; nothing where there are none
abbrev pub behind_header : List ℕ → ℕ
behind_header [] = 0
behind_header (n ∷ ns) = list_header_bytes + sum_by (λ m. m) (n ∷ ns)

abbrev pub widest_lists : (TreeValue → Option ℕ) → Tree → ℕ
widest_lists widest t = behind_header (filter_map widest (values_of t))
