-- The names in line tables of version 5: of each unit its own directory, the directories and the files. They stand in `.debug_line_str`, each once, in
-- the order of first use. (DWARF 5, section 6.2.4.)
use Rattle.std.specs.Prelude.{ℕ, List, [], if◌then◌else◌, Option, Some, None}
use Rattle.std.specs.List.{flat_map}
use Rattle.dwc_dwarf.specs.TreeLaws.{texts_ended}
use Rattle.dwc_output.specs.NewWidest.{directory_said, each_once, names_in}
use Rattle.dwc_output.specs.Versions.{is_old}
use Rattle.dwc_unit.specs.GivenLines.{GivenLines}
use Rattle.dwc_unit.specs.GivenTrees.{given_tree}
use Rattle.dwc_unit.specs.GivenUnits.{OrderedUnit, version_of}

-- the compilation directory that the root says, or the empty text: directory 0
abbrev pub own_directory : List (List ℕ) → OrderedUnit → List ℕ
own_directory texts u = directory_said (given_tree texts [] 0 u)

-- the names in the table of a line program, in the order in which they are written, where there is one
abbrev pub names_of_lines : List ℕ → Option ℕ → GivenLines → List (List ℕ)
names_of_lines own None g = []
names_of_lines own (Some size) g = names_in own g.directories g.files

abbrev pub names_of_unit : List (List ℕ) → OrderedUnit → List (List ℕ)
names_of_unit texts u = names_of_lines (own_directory texts u) u.lines.address_size u.lines

-- those of units over a table of texts; none up to version 4, where names stand in the tables
abbrev pub line_texts : List (List ℕ) → List OrderedUnit → List (List ℕ)
line_texts texts us = if is_old (version_of us) then [] else each_once (flat_map (names_of_unit texts) us)

abbrev pub line_texts_bytes : List (List ℕ) → List OrderedUnit → List ℕ
line_texts_bytes texts us = texts_ended (line_texts texts us)
