-- Small outputs in both versions, as an independent program gives them: the form, the fields and the files of version 5.
use Rattle.std.proofs.Common.{◌≡◌, ℕ, List, [], ◌∷◌, Some, None, pos, codes, refl, length, map, true, false}
use Rattle.dwc_worked.proofs.OnLiterals.{files_on_literals}
use Rattle.dwc_worked.proofs.OnLists.{lists_on_literals}
use Rattle.dwc_output.specs.TreeReading.{locations_read, ranges_read}
use Rattle.dwc_base.specs.declared.records.Endian.TheVariants.{Little}
use Rattle.dwc_base.specs.Outputs.{OutputSection, function, section}
use Rattle.dwc_output.specs.Fields.{fields_at, fields_of_entry, fields_of_instructions, fields_of_line_table, fields_of_named, fields_of_section}
use Rattle.dwc_output.specs.OutputForm.{are_of_output}
use Rattle.dwc_output.specs.OwnDirectories.{own_directory_at}
use Rattle.dwc_rules.specs.Clones.{number_written}
use Rattle.dwc_output.specs.NewListFields.{new_fields_named, placed_locations, placed_ranges}
use Rattle.dwc_output.specs.PathFields.{entry_paths_at, header_paths_at, list_paths_at}
use Rattle.dwc_worked.proofs.VersionChecks.{relocations_there, relocations_wanted, trees_said, trees_wanted, lines_said, lines_wanted, directories_said, directories_wanted, forms}

unfoldable pub versions_on_literals : ℕ
unfolding files_on_literals lists_on_literals locations_read ranges_read fields_at fields_of_entry fields_of_instructions fields_of_line_table fields_of_named fields_of_section own_directory_at new_fields_named placed_locations placed_ranges entry_paths_at header_paths_at list_paths_at
versions_on_literals = 0

-- numbers that name no file
numbers-old : map (number_written 4) (Some 0 ∷ Some 3 ∷ None ∷ []) ≡ Some 0 ∷ Some 3 ∷ None ∷ []
numbers-old = refl

numbers-new : map (number_written 5) (Some 0 ∷ Some 3 ∷ None ∷ []) ≡ None ∷ Some 3 ∷ None ∷ []
numbers-new = refl

abbrev pub old-small : List OutputSection
old-small = (record { name = codes ".debug_abbrev"; body = (1 ∷ 17 ∷ 1 ∷ 3 ∷ 14 ∷ 37 ∷ 14 ∷ 19 ∷ 5 ∷ 0 ∷ 0 ∷ 2 ∷ 36 ∷ 0 ∷ 3 ∷ 14 ∷ 62 ∷ 11 ∷ 11 ∷ 11 ∷ 0 ∷ 0 ∷ 3 ∷ 15 ∷ 0 ∷ 3 ∷ 14 ∷ 73 ∷ 19 ∷ 0 ∷ 0 ∷ 4 ∷ 19 ∷ 1 ∷ 3 ∷ 14 ∷ 0 ∷ 0 ∷ 5 ∷ 46 ∷ 1 ∷ 110 ∷ 14 ∷ 3 ∷ 14 ∷ 0 ∷ 0 ∷ 6 ∷ 5 ∷ 0 ∷ 73 ∷ 19 ∷ 52 ∷ 12 ∷ 0 ∷ 0 ∷ 7 ∷ 36 ∷ 0 ∷ 3 ∷ 14 ∷ 11 ∷ 11 ∷ 62 ∷ 11 ∷ 0 ∷ 0 ∷ 0 ∷ 1 ∷ 17 ∷ 1 ∷ 16 ∷ 23 ∷ 0 ∷ 0 ∷ 2 ∷ 46 ∷ 1 ∷ 17 ∷ 1 ∷ 18 ∷ 15 ∷ 0 ∷ 0 ∷ 3 ∷ 52 ∷ 0 ∷ 3 ∷ 14 ∷ 73 ∷ 16 ∷ 2 ∷ 23 ∷ 0 ∷ 0 ∷ 0 ∷ 1 ∷ 17 ∷ 1 ∷ 37 ∷ 14 ∷ 19 ∷ 5 ∷ 3 ∷ 14 ∷ 16 ∷ 23 ∷ 27 ∷ 14 ∷ 85 ∷ 23 ∷ 0 ∷ 0 ∷ 2 ∷ 36 ∷ 0 ∷ 3 ∷ 14 ∷ 11 ∷ 11 ∷ 62 ∷ 11 ∷ 0 ∷ 0 ∷ 0 ∷ []); relocations = ([]) } ∷ record { name = codes ".debug_info"; body = (73 ∷ 0 ∷ 0 ∷ 0 ∷ 4 ∷ 0 ∷ 0 ∷ 0 ∷ 0 ∷ 0 ∷ 8 ∷ 1 ∷ 0 ∷ 0 ∷ 0 ∷ 0 ∷ 28 ∷ 0 ∷ 0 ∷ 0 ∷ 29 ∷ 0 ∷ 2 ∷ 37 ∷ 0 ∷ 0 ∷ 0 ∷ 7 ∷ 1 ∷ 3 ∷ 40 ∷ 0 ∷ 0 ∷ 0 ∷ 22 ∷ 0 ∷ 0 ∷ 0 ∷ 4 ∷ 44 ∷ 0 ∷ 0 ∷ 0 ∷ 5 ∷ 62 ∷ 0 ∷ 0 ∷ 0 ∷ 70 ∷ 0 ∷ 0 ∷ 0 ∷ 6 ∷ 60 ∷ 0 ∷ 0 ∷ 0 ∷ 1 ∷ 0 ∷ 0 ∷ 3 ∷ 74 ∷ 0 ∷ 0 ∷ 0 ∷ 38 ∷ 0 ∷ 0 ∷ 0 ∷ 7 ∷ 93 ∷ 0 ∷ 0 ∷ 0 ∷ 4 ∷ 7 ∷ 0 ∷ 37 ∷ 0 ∷ 0 ∷ 0 ∷ 4 ∷ 0 ∷ 68 ∷ 0 ∷ 0 ∷ 0 ∷ 8 ∷ 1 ∷ 0 ∷ 0 ∷ 0 ∷ 0 ∷ 2 ∷ 0 ∷ 0 ∷ 0 ∷ 0 ∷ 0 ∷ 0 ∷ 0 ∷ 0 ∷ 30 ∷ 3 ∷ 108 ∷ 0 ∷ 0 ∷ 0 ∷ 60 ∷ 0 ∷ 0 ∷ 0 ∷ 0 ∷ 0 ∷ 0 ∷ 0 ∷ 0 ∷ 0 ∷ 59 ∷ 0 ∷ 0 ∷ 0 ∷ 4 ∷ 0 ∷ 96 ∷ 0 ∷ 0 ∷ 0 ∷ 8 ∷ 1 ∷ 28 ∷ 0 ∷ 0 ∷ 0 ∷ 29 ∷ 0 ∷ 116 ∷ 0 ∷ 0 ∷ 0 ∷ 61 ∷ 0 ∷ 0 ∷ 0 ∷ 123 ∷ 0 ∷ 0 ∷ 0 ∷ 0 ∷ 0 ∷ 0 ∷ 0 ∷ 2 ∷ 126 ∷ 0 ∷ 0 ∷ 0 ∷ 4 ∷ 5 ∷ 2 ∷ 130 ∷ 0 ∷ 0 ∷ 0 ∷ 8 ∷ 5 ∷ 2 ∷ 134 ∷ 0 ∷ 0 ∷ 0 ∷ 4 ∷ 4 ∷ 2 ∷ 138 ∷ 0 ∷ 0 ∷ 0 ∷ 8 ∷ 4 ∷ 0 ∷ []); relocations = (record { offset = 6; size = 4; target = section (codes ".debug_abbrev"); addend = pos 0 } ∷ record { offset = 12; size = 4; target = section (codes ".debug_str"); addend = pos 0 } ∷ record { offset = 16; size = 4; target = section (codes ".debug_str"); addend = pos 28 } ∷ record { offset = 23; size = 4; target = section (codes ".debug_str"); addend = pos 37 } ∷ record { offset = 30; size = 4; target = section (codes ".debug_str"); addend = pos 40 } ∷ record { offset = 39; size = 4; target = section (codes ".debug_str"); addend = pos 44 } ∷ record { offset = 44; size = 4; target = section (codes ".debug_str"); addend = pos 62 } ∷ record { offset = 48; size = 4; target = section (codes ".debug_str"); addend = pos 70 } ∷ record { offset = 61; size = 4; target = section (codes ".debug_str"); addend = pos 74 } ∷ record { offset = 70; size = 4; target = section (codes ".debug_str"); addend = pos 93 } ∷ record { offset = 83; size = 4; target = section (codes ".debug_abbrev"); addend = pos 68 } ∷ record { offset = 89; size = 4; target = section (codes ".debug_line"); addend = pos 0 } ∷ record { offset = 94; size = 8; target = function 0; addend = pos 0 } ∷ record { offset = 104; size = 4; target = section (codes ".debug_str"); addend = pos 108 } ∷ record { offset = 108; size = 4; target = section (codes ".debug_info"); addend = pos 60 } ∷ record { offset = 112; size = 4; target = section (codes ".debug_loc"); addend = pos 0 } ∷ record { offset = 124; size = 4; target = section (codes ".debug_abbrev"); addend = pos 96 } ∷ record { offset = 130; size = 4; target = section (codes ".debug_str"); addend = pos 28 } ∷ record { offset = 136; size = 4; target = section (codes ".debug_str"); addend = pos 116 } ∷ record { offset = 140; size = 4; target = section (codes ".debug_line"); addend = pos 61 } ∷ record { offset = 144; size = 4; target = section (codes ".debug_str"); addend = pos 123 } ∷ record { offset = 148; size = 4; target = section (codes ".debug_ranges"); addend = pos 0 } ∷ record { offset = 153; size = 4; target = section (codes ".debug_str"); addend = pos 126 } ∷ record { offset = 160; size = 4; target = section (codes ".debug_str"); addend = pos 130 } ∷ record { offset = 167; size = 4; target = section (codes ".debug_str"); addend = pos 134 } ∷ record { offset = 174; size = 4; target = section (codes ".debug_str"); addend = pos 138 } ∷ []) } ∷ record { name = codes ".debug_line"; body = (57 ∷ 0 ∷ 0 ∷ 0 ∷ 4 ∷ 0 ∷ 27 ∷ 0 ∷ 0 ∷ 0 ∷ 1 ∷ 1 ∷ 1 ∷ 251 ∷ 14 ∷ 13 ∷ 0 ∷ 1 ∷ 1 ∷ 1 ∷ 1 ∷ 0 ∷ 0 ∷ 0 ∷ 1 ∷ 0 ∷ 0 ∷ 1 ∷ 0 ∷ 97 ∷ 46 ∷ 99 ∷ 0 ∷ 0 ∷ 0 ∷ 0 ∷ 0 ∷ 0 ∷ 9 ∷ 2 ∷ 0 ∷ 0 ∷ 0 ∷ 0 ∷ 0 ∷ 0 ∷ 0 ∷ 0 ∷ 3 ∷ 1 ∷ 1 ∷ 3 ∷ 1 ∷ 2 ∷ 15 ∷ 1 ∷ 2 ∷ 15 ∷ 0 ∷ 1 ∷ 1 ∷ 36 ∷ 0 ∷ 0 ∷ 0 ∷ 4 ∷ 0 ∷ 30 ∷ 0 ∷ 0 ∷ 0 ∷ 1 ∷ 1 ∷ 1 ∷ 251 ∷ 14 ∷ 13 ∷ 0 ∷ 1 ∷ 1 ∷ 1 ∷ 1 ∷ 0 ∷ 0 ∷ 0 ∷ 1 ∷ 0 ∷ 0 ∷ 1 ∷ 0 ∷ 103 ∷ 46 ∷ 119 ∷ 97 ∷ 115 ∷ 109 ∷ 0 ∷ 0 ∷ 0 ∷ 0 ∷ 0 ∷ []); relocations = (record { offset = 40; size = 8; target = function 0; addend = pos 0 } ∷ []) } ∷ record { name = codes ".debug_ranges"; body = (0 ∷ 0 ∷ 0 ∷ 0 ∷ 0 ∷ 0 ∷ 0 ∷ 0 ∷ 0 ∷ 0 ∷ 0 ∷ 0 ∷ 0 ∷ 0 ∷ 0 ∷ 0 ∷ []); relocations = ([]) } ∷ record { name = codes ".debug_loc"; body = (0 ∷ 0 ∷ 0 ∷ 0 ∷ 0 ∷ 0 ∷ 0 ∷ 0 ∷ 0 ∷ 0 ∷ 0 ∷ 0 ∷ 0 ∷ 0 ∷ 0 ∷ 0 ∷ []); relocations = ([]) } ∷ record { name = codes ".debug_str"; body = (87 ∷ 97 ∷ 115 ∷ 109 ∷ 116 ∷ 105 ∷ 109 ∷ 101 ∷ 77 ∷ 111 ∷ 100 ∷ 117 ∷ 108 ∷ 101 ∷ 83 ∷ 121 ∷ 110 ∷ 116 ∷ 104 ∷ 101 ∷ 116 ∷ 105 ∷ 99 ∷ 85 ∷ 110 ∷ 105 ∷ 116 ∷ 0 ∷ 119 ∷ 97 ∷ 115 ∷ 109 ∷ 116 ∷ 105 ∷ 109 ∷ 101 ∷ 0 ∷ 117 ∷ 56 ∷ 0 ∷ 117 ∷ 56 ∷ 42 ∷ 0 ∷ 87 ∷ 97 ∷ 115 ∷ 109 ∷ 116 ∷ 105 ∷ 109 ∷ 101 ∷ 86 ∷ 77 ∷ 67 ∷ 111 ∷ 110 ∷ 116 ∷ 101 ∷ 120 ∷ 116 ∷ 0 ∷ 115 ∷ 101 ∷ 116 ∷ 95 ∷ 109 ∷ 101 ∷ 109 ∷ 0 ∷ 115 ∷ 101 ∷ 116 ∷ 0 ∷ 87 ∷ 97 ∷ 115 ∷ 109 ∷ 116 ∷ 105 ∷ 109 ∷ 101 ∷ 86 ∷ 77 ∷ 67 ∷ 111 ∷ 110 ∷ 116 ∷ 101 ∷ 120 ∷ 116 ∷ 42 ∷ 0 ∷ 87 ∷ 101 ∷ 98 ∷ 65 ∷ 115 ∷ 115 ∷ 101 ∷ 109 ∷ 98 ∷ 108 ∷ 121 ∷ 80 ∷ 116 ∷ 114 ∷ 0 ∷ 95 ∷ 95 ∷ 118 ∷ 109 ∷ 99 ∷ 116 ∷ 120 ∷ 0 ∷ 103 ∷ 46 ∷ 119 ∷ 97 ∷ 115 ∷ 109 ∷ 0 ∷ 47 ∷ 109 ∷ 0 ∷ 105 ∷ 51 ∷ 50 ∷ 0 ∷ 105 ∷ 54 ∷ 52 ∷ 0 ∷ 102 ∷ 51 ∷ 50 ∷ 0 ∷ 102 ∷ 54 ∷ 52 ∷ 0 ∷ []); relocations = ([]) } ∷ [])

abbrev pub new-small : List OutputSection
new-small = (record { name = codes ".debug_abbrev"; body = (1 ∷ 17 ∷ 1 ∷ 3 ∷ 14 ∷ 37 ∷ 14 ∷ 19 ∷ 5 ∷ 0 ∷ 0 ∷ 2 ∷ 36 ∷ 0 ∷ 3 ∷ 14 ∷ 62 ∷ 11 ∷ 11 ∷ 11 ∷ 0 ∷ 0 ∷ 3 ∷ 15 ∷ 0 ∷ 3 ∷ 14 ∷ 73 ∷ 19 ∷ 0 ∷ 0 ∷ 4 ∷ 19 ∷ 1 ∷ 3 ∷ 14 ∷ 0 ∷ 0 ∷ 5 ∷ 46 ∷ 1 ∷ 110 ∷ 14 ∷ 3 ∷ 14 ∷ 0 ∷ 0 ∷ 6 ∷ 5 ∷ 0 ∷ 73 ∷ 19 ∷ 52 ∷ 12 ∷ 0 ∷ 0 ∷ 7 ∷ 36 ∷ 0 ∷ 3 ∷ 14 ∷ 11 ∷ 11 ∷ 62 ∷ 11 ∷ 0 ∷ 0 ∷ 0 ∷ 1 ∷ 17 ∷ 1 ∷ 16 ∷ 23 ∷ 0 ∷ 0 ∷ 2 ∷ 46 ∷ 1 ∷ 17 ∷ 1 ∷ 18 ∷ 15 ∷ 0 ∷ 0 ∷ 3 ∷ 52 ∷ 0 ∷ 3 ∷ 14 ∷ 73 ∷ 16 ∷ 2 ∷ 23 ∷ 0 ∷ 0 ∷ 0 ∷ 1 ∷ 17 ∷ 1 ∷ 37 ∷ 14 ∷ 19 ∷ 5 ∷ 3 ∷ 14 ∷ 16 ∷ 23 ∷ 27 ∷ 14 ∷ 85 ∷ 23 ∷ 0 ∷ 0 ∷ 2 ∷ 36 ∷ 0 ∷ 3 ∷ 14 ∷ 11 ∷ 11 ∷ 62 ∷ 11 ∷ 0 ∷ 0 ∷ 0 ∷ []); relocations = ([]) } ∷ record { name = codes ".debug_info"; body = (74 ∷ 0 ∷ 0 ∷ 0 ∷ 5 ∷ 0 ∷ 1 ∷ 8 ∷ 0 ∷ 0 ∷ 0 ∷ 0 ∷ 1 ∷ 0 ∷ 0 ∷ 0 ∷ 0 ∷ 28 ∷ 0 ∷ 0 ∷ 0 ∷ 29 ∷ 0 ∷ 2 ∷ 37 ∷ 0 ∷ 0 ∷ 0 ∷ 7 ∷ 1 ∷ 3 ∷ 40 ∷ 0 ∷ 0 ∷ 0 ∷ 23 ∷ 0 ∷ 0 ∷ 0 ∷ 4 ∷ 44 ∷ 0 ∷ 0 ∷ 0 ∷ 5 ∷ 62 ∷ 0 ∷ 0 ∷ 0 ∷ 70 ∷ 0 ∷ 0 ∷ 0 ∷ 6 ∷ 61 ∷ 0 ∷ 0 ∷ 0 ∷ 1 ∷ 0 ∷ 0 ∷ 3 ∷ 74 ∷ 0 ∷ 0 ∷ 0 ∷ 39 ∷ 0 ∷ 0 ∷ 0 ∷ 7 ∷ 93 ∷ 0 ∷ 0 ∷ 0 ∷ 4 ∷ 7 ∷ 0 ∷ 38 ∷ 0 ∷ 0 ∷ 0 ∷ 5 ∷ 0 ∷ 1 ∷ 8 ∷ 68 ∷ 0 ∷ 0 ∷ 0 ∷ 1 ∷ 0 ∷ 0 ∷ 0 ∷ 0 ∷ 2 ∷ 0 ∷ 0 ∷ 0 ∷ 0 ∷ 0 ∷ 0 ∷ 0 ∷ 0 ∷ 30 ∷ 3 ∷ 108 ∷ 0 ∷ 0 ∷ 0 ∷ 61 ∷ 0 ∷ 0 ∷ 0 ∷ 12 ∷ 0 ∷ 0 ∷ 0 ∷ 0 ∷ 0 ∷ 60 ∷ 0 ∷ 0 ∷ 0 ∷ 5 ∷ 0 ∷ 1 ∷ 8 ∷ 96 ∷ 0 ∷ 0 ∷ 0 ∷ 1 ∷ 28 ∷ 0 ∷ 0 ∷ 0 ∷ 29 ∷ 0 ∷ 116 ∷ 0 ∷ 0 ∷ 0 ∷ 78 ∷ 0 ∷ 0 ∷ 0 ∷ 123 ∷ 0 ∷ 0 ∷ 0 ∷ 12 ∷ 0 ∷ 0 ∷ 0 ∷ 2 ∷ 126 ∷ 0 ∷ 0 ∷ 0 ∷ 4 ∷ 5 ∷ 2 ∷ 130 ∷ 0 ∷ 0 ∷ 0 ∷ 8 ∷ 5 ∷ 2 ∷ 134 ∷ 0 ∷ 0 ∷ 0 ∷ 4 ∷ 4 ∷ 2 ∷ 138 ∷ 0 ∷ 0 ∷ 0 ∷ 8 ∷ 4 ∷ 0 ∷ []); relocations = (record { offset = 8; size = 4; target = section (codes ".debug_abbrev"); addend = pos 0 } ∷ record { offset = 13; size = 4; target = section (codes ".debug_str"); addend = pos 0 } ∷ record { offset = 17; size = 4; target = section (codes ".debug_str"); addend = pos 28 } ∷ record { offset = 24; size = 4; target = section (codes ".debug_str"); addend = pos 37 } ∷ record { offset = 31; size = 4; target = section (codes ".debug_str"); addend = pos 40 } ∷ record { offset = 40; size = 4; target = section (codes ".debug_str"); addend = pos 44 } ∷ record { offset = 45; size = 4; target = section (codes ".debug_str"); addend = pos 62 } ∷ record { offset = 49; size = 4; target = section (codes ".debug_str"); addend = pos 70 } ∷ record { offset = 62; size = 4; target = section (codes ".debug_str"); addend = pos 74 } ∷ record { offset = 71; size = 4; target = section (codes ".debug_str"); addend = pos 93 } ∷ record { offset = 86; size = 4; target = section (codes ".debug_abbrev"); addend = pos 68 } ∷ record { offset = 91; size = 4; target = section (codes ".debug_line"); addend = pos 0 } ∷ record { offset = 96; size = 8; target = function 0; addend = pos 0 } ∷ record { offset = 106; size = 4; target = section (codes ".debug_str"); addend = pos 108 } ∷ record { offset = 110; size = 4; target = section (codes ".debug_info"); addend = pos 61 } ∷ record { offset = 114; size = 4; target = section (codes ".debug_loclists"); addend = pos 12 } ∷ record { offset = 128; size = 4; target = section (codes ".debug_abbrev"); addend = pos 96 } ∷ record { offset = 133; size = 4; target = section (codes ".debug_str"); addend = pos 28 } ∷ record { offset = 139; size = 4; target = section (codes ".debug_str"); addend = pos 116 } ∷ record { offset = 143; size = 4; target = section (codes ".debug_line"); addend = pos 78 } ∷ record { offset = 147; size = 4; target = section (codes ".debug_str"); addend = pos 123 } ∷ record { offset = 151; size = 4; target = section (codes ".debug_rnglists"); addend = pos 12 } ∷ record { offset = 156; size = 4; target = section (codes ".debug_str"); addend = pos 126 } ∷ record { offset = 163; size = 4; target = section (codes ".debug_str"); addend = pos 130 } ∷ record { offset = 170; size = 4; target = section (codes ".debug_str"); addend = pos 134 } ∷ record { offset = 177; size = 4; target = section (codes ".debug_str"); addend = pos 138 } ∷ []) } ∷ record { name = codes ".debug_line"; body = (74 ∷ 0 ∷ 0 ∷ 0 ∷ 5 ∷ 0 ∷ 8 ∷ 0 ∷ 42 ∷ 0 ∷ 0 ∷ 0 ∷ 1 ∷ 1 ∷ 1 ∷ 251 ∷ 14 ∷ 13 ∷ 0 ∷ 1 ∷ 1 ∷ 1 ∷ 1 ∷ 0 ∷ 0 ∷ 0 ∷ 1 ∷ 0 ∷ 0 ∷ 1 ∷ 1 ∷ 1 ∷ 31 ∷ 1 ∷ 0 ∷ 0 ∷ 0 ∷ 0 ∷ 2 ∷ 1 ∷ 31 ∷ 2 ∷ 15 ∷ 2 ∷ 1 ∷ 0 ∷ 0 ∷ 0 ∷ 0 ∷ 1 ∷ 0 ∷ 0 ∷ 0 ∷ 0 ∷ 0 ∷ 9 ∷ 2 ∷ 0 ∷ 0 ∷ 0 ∷ 0 ∷ 0 ∷ 0 ∷ 0 ∷ 0 ∷ 3 ∷ 1 ∷ 1 ∷ 3 ∷ 1 ∷ 2 ∷ 15 ∷ 1 ∷ 2 ∷ 15 ∷ 0 ∷ 1 ∷ 1 ∷ 50 ∷ 0 ∷ 0 ∷ 0 ∷ 5 ∷ 0 ∷ 8 ∷ 0 ∷ 42 ∷ 0 ∷ 0 ∷ 0 ∷ 1 ∷ 1 ∷ 1 ∷ 251 ∷ 14 ∷ 13 ∷ 0 ∷ 1 ∷ 1 ∷ 1 ∷ 1 ∷ 0 ∷ 0 ∷ 0 ∷ 1 ∷ 0 ∷ 0 ∷ 1 ∷ 1 ∷ 1 ∷ 31 ∷ 1 ∷ 5 ∷ 0 ∷ 0 ∷ 0 ∷ 2 ∷ 1 ∷ 31 ∷ 2 ∷ 15 ∷ 2 ∷ 8 ∷ 0 ∷ 0 ∷ 0 ∷ 0 ∷ 8 ∷ 0 ∷ 0 ∷ 0 ∷ 0 ∷ []); relocations = (record { offset = 34; size = 4; target = section (codes ".debug_line_str"); addend = pos 0 } ∷ record { offset = 44; size = 4; target = section (codes ".debug_line_str"); addend = pos 1 } ∷ record { offset = 49; size = 4; target = section (codes ".debug_line_str"); addend = pos 1 } ∷ record { offset = 57; size = 8; target = function 0; addend = pos 0 } ∷ record { offset = 112; size = 4; target = section (codes ".debug_line_str"); addend = pos 5 } ∷ record { offset = 122; size = 4; target = section (codes ".debug_line_str"); addend = pos 8 } ∷ record { offset = 127; size = 4; target = section (codes ".debug_line_str"); addend = pos 8 } ∷ []) } ∷ record { name = codes ".debug_line_str"; body = (0 ∷ 97 ∷ 46 ∷ 99 ∷ 0 ∷ 47 ∷ 109 ∷ 0 ∷ 103 ∷ 46 ∷ 119 ∷ 97 ∷ 115 ∷ 109 ∷ 0 ∷ []); relocations = ([]) } ∷ record { name = codes ".debug_rnglists"; body = (9 ∷ 0 ∷ 0 ∷ 0 ∷ 5 ∷ 0 ∷ 8 ∷ 0 ∷ 0 ∷ 0 ∷ 0 ∷ 0 ∷ 0 ∷ []); relocations = ([]) } ∷ record { name = codes ".debug_loclists"; body = (9 ∷ 0 ∷ 0 ∷ 0 ∷ 5 ∷ 0 ∷ 8 ∷ 0 ∷ 0 ∷ 0 ∷ 0 ∷ 0 ∷ 0 ∷ []); relocations = ([]) } ∷ record { name = codes ".debug_str"; body = (87 ∷ 97 ∷ 115 ∷ 109 ∷ 116 ∷ 105 ∷ 109 ∷ 101 ∷ 77 ∷ 111 ∷ 100 ∷ 117 ∷ 108 ∷ 101 ∷ 83 ∷ 121 ∷ 110 ∷ 116 ∷ 104 ∷ 101 ∷ 116 ∷ 105 ∷ 99 ∷ 85 ∷ 110 ∷ 105 ∷ 116 ∷ 0 ∷ 119 ∷ 97 ∷ 115 ∷ 109 ∷ 116 ∷ 105 ∷ 109 ∷ 101 ∷ 0 ∷ 117 ∷ 56 ∷ 0 ∷ 117 ∷ 56 ∷ 42 ∷ 0 ∷ 87 ∷ 97 ∷ 115 ∷ 109 ∷ 116 ∷ 105 ∷ 109 ∷ 101 ∷ 86 ∷ 77 ∷ 67 ∷ 111 ∷ 110 ∷ 116 ∷ 101 ∷ 120 ∷ 116 ∷ 0 ∷ 115 ∷ 101 ∷ 116 ∷ 95 ∷ 109 ∷ 101 ∷ 109 ∷ 0 ∷ 115 ∷ 101 ∷ 116 ∷ 0 ∷ 87 ∷ 97 ∷ 115 ∷ 109 ∷ 116 ∷ 105 ∷ 109 ∷ 101 ∷ 86 ∷ 77 ∷ 67 ∷ 111 ∷ 110 ∷ 116 ∷ 101 ∷ 120 ∷ 116 ∷ 42 ∷ 0 ∷ 87 ∷ 101 ∷ 98 ∷ 65 ∷ 115 ∷ 115 ∷ 101 ∷ 109 ∷ 98 ∷ 108 ∷ 121 ∷ 80 ∷ 116 ∷ 114 ∷ 0 ∷ 95 ∷ 95 ∷ 118 ∷ 109 ∷ 99 ∷ 116 ∷ 120 ∷ 0 ∷ 103 ∷ 46 ∷ 119 ∷ 97 ∷ 115 ∷ 109 ∷ 0 ∷ 47 ∷ 109 ∷ 0 ∷ 105 ∷ 51 ∷ 50 ∷ 0 ∷ 105 ∷ 54 ∷ 52 ∷ 0 ∷ 102 ∷ 51 ∷ 50 ∷ 0 ∷ 102 ∷ 54 ∷ 52 ∷ 0 ∷ []); relocations = ([]) } ∷ [])

lengths-small : map (λ s. length s.body) new-small ≡ 125 ∷ 184 ∷ 132 ∷ 15 ∷ 13 ∷ 13 ∷ 142 ∷ []
lengths-small = refl

names-small : are_of_output 5 new-small ≡ true
unfolding versions_on_literals
names-small = refl

wrong_names-small : are_of_output 4 new-small ≡ false
unfolding versions_on_literals
wrong_names-small = refl

relocated-small : relocations_there new-small ≡ relocations_wanted Little new-small
unfolding versions_on_literals
relocated-small = refl

trees-small : trees_said Little new-small ≡ trees_wanted Little old-small
unfolding versions_on_literals
trees-small = refl

lines-small : lines_said Little new-small ≡ lines_wanted Little old-small
unfolding versions_on_literals
lines-small = refl

directories-small : directories_said Little new-small ≡ directories_wanted Little new-small
unfolding versions_on_literals
directories-small = refl

form-small : forms Little new-small ≡ (5, (8, 1)) ∷ (5, (8, 1)) ∷ (5, (8, 1)) ∷ []
unfolding versions_on_literals
form-small = refl

abbrev pub old-unnamed : List OutputSection
old-unnamed = (record { name = codes ".debug_abbrev"; body = (1 ∷ 17 ∷ 1 ∷ 3 ∷ 14 ∷ 37 ∷ 14 ∷ 19 ∷ 5 ∷ 0 ∷ 0 ∷ 2 ∷ 36 ∷ 0 ∷ 3 ∷ 14 ∷ 62 ∷ 11 ∷ 11 ∷ 11 ∷ 0 ∷ 0 ∷ 3 ∷ 15 ∷ 0 ∷ 3 ∷ 14 ∷ 73 ∷ 19 ∷ 0 ∷ 0 ∷ 4 ∷ 19 ∷ 1 ∷ 3 ∷ 14 ∷ 0 ∷ 0 ∷ 5 ∷ 46 ∷ 1 ∷ 110 ∷ 14 ∷ 3 ∷ 14 ∷ 0 ∷ 0 ∷ 6 ∷ 5 ∷ 0 ∷ 73 ∷ 19 ∷ 52 ∷ 12 ∷ 0 ∷ 0 ∷ 7 ∷ 36 ∷ 0 ∷ 3 ∷ 14 ∷ 11 ∷ 11 ∷ 62 ∷ 11 ∷ 0 ∷ 0 ∷ 0 ∷ 1 ∷ 17 ∷ 1 ∷ 16 ∷ 23 ∷ 0 ∷ 0 ∷ 2 ∷ 46 ∷ 1 ∷ 17 ∷ 1 ∷ 18 ∷ 15 ∷ 58 ∷ 15 ∷ 0 ∷ 0 ∷ 3 ∷ 52 ∷ 0 ∷ 3 ∷ 14 ∷ 73 ∷ 16 ∷ 2 ∷ 23 ∷ 0 ∷ 0 ∷ 0 ∷ 1 ∷ 17 ∷ 1 ∷ 37 ∷ 14 ∷ 19 ∷ 5 ∷ 3 ∷ 14 ∷ 16 ∷ 23 ∷ 27 ∷ 14 ∷ 85 ∷ 23 ∷ 0 ∷ 0 ∷ 2 ∷ 36 ∷ 0 ∷ 3 ∷ 14 ∷ 11 ∷ 11 ∷ 62 ∷ 11 ∷ 0 ∷ 0 ∷ 0 ∷ []); relocations = ([]) } ∷ record { name = codes ".debug_info"; body = (73 ∷ 0 ∷ 0 ∷ 0 ∷ 4 ∷ 0 ∷ 0 ∷ 0 ∷ 0 ∷ 0 ∷ 8 ∷ 1 ∷ 0 ∷ 0 ∷ 0 ∷ 0 ∷ 28 ∷ 0 ∷ 0 ∷ 0 ∷ 29 ∷ 0 ∷ 2 ∷ 37 ∷ 0 ∷ 0 ∷ 0 ∷ 7 ∷ 1 ∷ 3 ∷ 40 ∷ 0 ∷ 0 ∷ 0 ∷ 22 ∷ 0 ∷ 0 ∷ 0 ∷ 4 ∷ 44 ∷ 0 ∷ 0 ∷ 0 ∷ 5 ∷ 62 ∷ 0 ∷ 0 ∷ 0 ∷ 70 ∷ 0 ∷ 0 ∷ 0 ∷ 6 ∷ 60 ∷ 0 ∷ 0 ∷ 0 ∷ 1 ∷ 0 ∷ 0 ∷ 3 ∷ 74 ∷ 0 ∷ 0 ∷ 0 ∷ 38 ∷ 0 ∷ 0 ∷ 0 ∷ 7 ∷ 93 ∷ 0 ∷ 0 ∷ 0 ∷ 4 ∷ 7 ∷ 0 ∷ 38 ∷ 0 ∷ 0 ∷ 0 ∷ 4 ∷ 0 ∷ 68 ∷ 0 ∷ 0 ∷ 0 ∷ 8 ∷ 1 ∷ 0 ∷ 0 ∷ 0 ∷ 0 ∷ 2 ∷ 0 ∷ 0 ∷ 0 ∷ 0 ∷ 0 ∷ 0 ∷ 0 ∷ 0 ∷ 30 ∷ 0 ∷ 3 ∷ 108 ∷ 0 ∷ 0 ∷ 0 ∷ 60 ∷ 0 ∷ 0 ∷ 0 ∷ 0 ∷ 0 ∷ 0 ∷ 0 ∷ 0 ∷ 0 ∷ 59 ∷ 0 ∷ 0 ∷ 0 ∷ 4 ∷ 0 ∷ 98 ∷ 0 ∷ 0 ∷ 0 ∷ 8 ∷ 1 ∷ 28 ∷ 0 ∷ 0 ∷ 0 ∷ 29 ∷ 0 ∷ 116 ∷ 0 ∷ 0 ∷ 0 ∷ 61 ∷ 0 ∷ 0 ∷ 0 ∷ 123 ∷ 0 ∷ 0 ∷ 0 ∷ 0 ∷ 0 ∷ 0 ∷ 0 ∷ 2 ∷ 126 ∷ 0 ∷ 0 ∷ 0 ∷ 4 ∷ 5 ∷ 2 ∷ 130 ∷ 0 ∷ 0 ∷ 0 ∷ 8 ∷ 5 ∷ 2 ∷ 134 ∷ 0 ∷ 0 ∷ 0 ∷ 4 ∷ 4 ∷ 2 ∷ 138 ∷ 0 ∷ 0 ∷ 0 ∷ 8 ∷ 4 ∷ 0 ∷ []); relocations = (record { offset = 6; size = 4; target = section (codes ".debug_abbrev"); addend = pos 0 } ∷ record { offset = 12; size = 4; target = section (codes ".debug_str"); addend = pos 0 } ∷ record { offset = 16; size = 4; target = section (codes ".debug_str"); addend = pos 28 } ∷ record { offset = 23; size = 4; target = section (codes ".debug_str"); addend = pos 37 } ∷ record { offset = 30; size = 4; target = section (codes ".debug_str"); addend = pos 40 } ∷ record { offset = 39; size = 4; target = section (codes ".debug_str"); addend = pos 44 } ∷ record { offset = 44; size = 4; target = section (codes ".debug_str"); addend = pos 62 } ∷ record { offset = 48; size = 4; target = section (codes ".debug_str"); addend = pos 70 } ∷ record { offset = 61; size = 4; target = section (codes ".debug_str"); addend = pos 74 } ∷ record { offset = 70; size = 4; target = section (codes ".debug_str"); addend = pos 93 } ∷ record { offset = 83; size = 4; target = section (codes ".debug_abbrev"); addend = pos 68 } ∷ record { offset = 89; size = 4; target = section (codes ".debug_line"); addend = pos 0 } ∷ record { offset = 94; size = 8; target = function 0; addend = pos 0 } ∷ record { offset = 105; size = 4; target = section (codes ".debug_str"); addend = pos 108 } ∷ record { offset = 109; size = 4; target = section (codes ".debug_info"); addend = pos 60 } ∷ record { offset = 113; size = 4; target = section (codes ".debug_loc"); addend = pos 0 } ∷ record { offset = 125; size = 4; target = section (codes ".debug_abbrev"); addend = pos 98 } ∷ record { offset = 131; size = 4; target = section (codes ".debug_str"); addend = pos 28 } ∷ record { offset = 137; size = 4; target = section (codes ".debug_str"); addend = pos 116 } ∷ record { offset = 141; size = 4; target = section (codes ".debug_line"); addend = pos 61 } ∷ record { offset = 145; size = 4; target = section (codes ".debug_str"); addend = pos 123 } ∷ record { offset = 149; size = 4; target = section (codes ".debug_ranges"); addend = pos 0 } ∷ record { offset = 154; size = 4; target = section (codes ".debug_str"); addend = pos 126 } ∷ record { offset = 161; size = 4; target = section (codes ".debug_str"); addend = pos 130 } ∷ record { offset = 168; size = 4; target = section (codes ".debug_str"); addend = pos 134 } ∷ record { offset = 175; size = 4; target = section (codes ".debug_str"); addend = pos 138 } ∷ []) } ∷ record { name = codes ".debug_line"; body = (57 ∷ 0 ∷ 0 ∷ 0 ∷ 4 ∷ 0 ∷ 27 ∷ 0 ∷ 0 ∷ 0 ∷ 1 ∷ 1 ∷ 1 ∷ 251 ∷ 14 ∷ 13 ∷ 0 ∷ 1 ∷ 1 ∷ 1 ∷ 1 ∷ 0 ∷ 0 ∷ 0 ∷ 1 ∷ 0 ∷ 0 ∷ 1 ∷ 0 ∷ 97 ∷ 46 ∷ 99 ∷ 0 ∷ 0 ∷ 0 ∷ 0 ∷ 0 ∷ 0 ∷ 9 ∷ 2 ∷ 0 ∷ 0 ∷ 0 ∷ 0 ∷ 0 ∷ 0 ∷ 0 ∷ 0 ∷ 3 ∷ 1 ∷ 1 ∷ 3 ∷ 1 ∷ 2 ∷ 15 ∷ 1 ∷ 2 ∷ 15 ∷ 0 ∷ 1 ∷ 1 ∷ 36 ∷ 0 ∷ 0 ∷ 0 ∷ 4 ∷ 0 ∷ 30 ∷ 0 ∷ 0 ∷ 0 ∷ 1 ∷ 1 ∷ 1 ∷ 251 ∷ 14 ∷ 13 ∷ 0 ∷ 1 ∷ 1 ∷ 1 ∷ 1 ∷ 0 ∷ 0 ∷ 0 ∷ 1 ∷ 0 ∷ 0 ∷ 1 ∷ 0 ∷ 103 ∷ 46 ∷ 119 ∷ 97 ∷ 115 ∷ 109 ∷ 0 ∷ 0 ∷ 0 ∷ 0 ∷ 0 ∷ []); relocations = (record { offset = 40; size = 8; target = function 0; addend = pos 0 } ∷ []) } ∷ record { name = codes ".debug_ranges"; body = (0 ∷ 0 ∷ 0 ∷ 0 ∷ 0 ∷ 0 ∷ 0 ∷ 0 ∷ 0 ∷ 0 ∷ 0 ∷ 0 ∷ 0 ∷ 0 ∷ 0 ∷ 0 ∷ []); relocations = ([]) } ∷ record { name = codes ".debug_loc"; body = (0 ∷ 0 ∷ 0 ∷ 0 ∷ 0 ∷ 0 ∷ 0 ∷ 0 ∷ 0 ∷ 0 ∷ 0 ∷ 0 ∷ 0 ∷ 0 ∷ 0 ∷ 0 ∷ []); relocations = ([]) } ∷ record { name = codes ".debug_str"; body = (87 ∷ 97 ∷ 115 ∷ 109 ∷ 116 ∷ 105 ∷ 109 ∷ 101 ∷ 77 ∷ 111 ∷ 100 ∷ 117 ∷ 108 ∷ 101 ∷ 83 ∷ 121 ∷ 110 ∷ 116 ∷ 104 ∷ 101 ∷ 116 ∷ 105 ∷ 99 ∷ 85 ∷ 110 ∷ 105 ∷ 116 ∷ 0 ∷ 119 ∷ 97 ∷ 115 ∷ 109 ∷ 116 ∷ 105 ∷ 109 ∷ 101 ∷ 0 ∷ 117 ∷ 56 ∷ 0 ∷ 117 ∷ 56 ∷ 42 ∷ 0 ∷ 87 ∷ 97 ∷ 115 ∷ 109 ∷ 116 ∷ 105 ∷ 109 ∷ 101 ∷ 86 ∷ 77 ∷ 67 ∷ 111 ∷ 110 ∷ 116 ∷ 101 ∷ 120 ∷ 116 ∷ 0 ∷ 115 ∷ 101 ∷ 116 ∷ 95 ∷ 109 ∷ 101 ∷ 109 ∷ 0 ∷ 115 ∷ 101 ∷ 116 ∷ 0 ∷ 87 ∷ 97 ∷ 115 ∷ 109 ∷ 116 ∷ 105 ∷ 109 ∷ 101 ∷ 86 ∷ 77 ∷ 67 ∷ 111 ∷ 110 ∷ 116 ∷ 101 ∷ 120 ∷ 116 ∷ 42 ∷ 0 ∷ 87 ∷ 101 ∷ 98 ∷ 65 ∷ 115 ∷ 115 ∷ 101 ∷ 109 ∷ 98 ∷ 108 ∷ 121 ∷ 80 ∷ 116 ∷ 114 ∷ 0 ∷ 95 ∷ 95 ∷ 118 ∷ 109 ∷ 99 ∷ 116 ∷ 120 ∷ 0 ∷ 103 ∷ 46 ∷ 119 ∷ 97 ∷ 115 ∷ 109 ∷ 0 ∷ 47 ∷ 109 ∷ 0 ∷ 105 ∷ 51 ∷ 50 ∷ 0 ∷ 105 ∷ 54 ∷ 52 ∷ 0 ∷ 102 ∷ 51 ∷ 50 ∷ 0 ∷ 102 ∷ 54 ∷ 52 ∷ 0 ∷ []); relocations = ([]) } ∷ [])

abbrev pub new-unnamed : List OutputSection
new-unnamed = (record { name = codes ".debug_abbrev"; body = (1 ∷ 17 ∷ 1 ∷ 3 ∷ 14 ∷ 37 ∷ 14 ∷ 19 ∷ 5 ∷ 0 ∷ 0 ∷ 2 ∷ 36 ∷ 0 ∷ 3 ∷ 14 ∷ 62 ∷ 11 ∷ 11 ∷ 11 ∷ 0 ∷ 0 ∷ 3 ∷ 15 ∷ 0 ∷ 3 ∷ 14 ∷ 73 ∷ 19 ∷ 0 ∷ 0 ∷ 4 ∷ 19 ∷ 1 ∷ 3 ∷ 14 ∷ 0 ∷ 0 ∷ 5 ∷ 46 ∷ 1 ∷ 110 ∷ 14 ∷ 3 ∷ 14 ∷ 0 ∷ 0 ∷ 6 ∷ 5 ∷ 0 ∷ 73 ∷ 19 ∷ 52 ∷ 12 ∷ 0 ∷ 0 ∷ 7 ∷ 36 ∷ 0 ∷ 3 ∷ 14 ∷ 11 ∷ 11 ∷ 62 ∷ 11 ∷ 0 ∷ 0 ∷ 0 ∷ 1 ∷ 17 ∷ 1 ∷ 16 ∷ 23 ∷ 0 ∷ 0 ∷ 2 ∷ 46 ∷ 1 ∷ 17 ∷ 1 ∷ 18 ∷ 15 ∷ 0 ∷ 0 ∷ 3 ∷ 52 ∷ 0 ∷ 3 ∷ 14 ∷ 73 ∷ 16 ∷ 2 ∷ 23 ∷ 0 ∷ 0 ∷ 0 ∷ 1 ∷ 17 ∷ 1 ∷ 37 ∷ 14 ∷ 19 ∷ 5 ∷ 3 ∷ 14 ∷ 16 ∷ 23 ∷ 27 ∷ 14 ∷ 85 ∷ 23 ∷ 0 ∷ 0 ∷ 2 ∷ 36 ∷ 0 ∷ 3 ∷ 14 ∷ 11 ∷ 11 ∷ 62 ∷ 11 ∷ 0 ∷ 0 ∷ 0 ∷ []); relocations = ([]) } ∷ record { name = codes ".debug_info"; body = (74 ∷ 0 ∷ 0 ∷ 0 ∷ 5 ∷ 0 ∷ 1 ∷ 8 ∷ 0 ∷ 0 ∷ 0 ∷ 0 ∷ 1 ∷ 0 ∷ 0 ∷ 0 ∷ 0 ∷ 28 ∷ 0 ∷ 0 ∷ 0 ∷ 29 ∷ 0 ∷ 2 ∷ 37 ∷ 0 ∷ 0 ∷ 0 ∷ 7 ∷ 1 ∷ 3 ∷ 40 ∷ 0 ∷ 0 ∷ 0 ∷ 23 ∷ 0 ∷ 0 ∷ 0 ∷ 4 ∷ 44 ∷ 0 ∷ 0 ∷ 0 ∷ 5 ∷ 62 ∷ 0 ∷ 0 ∷ 0 ∷ 70 ∷ 0 ∷ 0 ∷ 0 ∷ 6 ∷ 61 ∷ 0 ∷ 0 ∷ 0 ∷ 1 ∷ 0 ∷ 0 ∷ 3 ∷ 74 ∷ 0 ∷ 0 ∷ 0 ∷ 39 ∷ 0 ∷ 0 ∷ 0 ∷ 7 ∷ 93 ∷ 0 ∷ 0 ∷ 0 ∷ 4 ∷ 7 ∷ 0 ∷ 38 ∷ 0 ∷ 0 ∷ 0 ∷ 5 ∷ 0 ∷ 1 ∷ 8 ∷ 68 ∷ 0 ∷ 0 ∷ 0 ∷ 1 ∷ 0 ∷ 0 ∷ 0 ∷ 0 ∷ 2 ∷ 0 ∷ 0 ∷ 0 ∷ 0 ∷ 0 ∷ 0 ∷ 0 ∷ 0 ∷ 30 ∷ 3 ∷ 108 ∷ 0 ∷ 0 ∷ 0 ∷ 61 ∷ 0 ∷ 0 ∷ 0 ∷ 12 ∷ 0 ∷ 0 ∷ 0 ∷ 0 ∷ 0 ∷ 60 ∷ 0 ∷ 0 ∷ 0 ∷ 5 ∷ 0 ∷ 1 ∷ 8 ∷ 96 ∷ 0 ∷ 0 ∷ 0 ∷ 1 ∷ 28 ∷ 0 ∷ 0 ∷ 0 ∷ 29 ∷ 0 ∷ 116 ∷ 0 ∷ 0 ∷ 0 ∷ 78 ∷ 0 ∷ 0 ∷ 0 ∷ 123 ∷ 0 ∷ 0 ∷ 0 ∷ 12 ∷ 0 ∷ 0 ∷ 0 ∷ 2 ∷ 126 ∷ 0 ∷ 0 ∷ 0 ∷ 4 ∷ 5 ∷ 2 ∷ 130 ∷ 0 ∷ 0 ∷ 0 ∷ 8 ∷ 5 ∷ 2 ∷ 134 ∷ 0 ∷ 0 ∷ 0 ∷ 4 ∷ 4 ∷ 2 ∷ 138 ∷ 0 ∷ 0 ∷ 0 ∷ 8 ∷ 4 ∷ 0 ∷ []); relocations = (record { offset = 8; size = 4; target = section (codes ".debug_abbrev"); addend = pos 0 } ∷ record { offset = 13; size = 4; target = section (codes ".debug_str"); addend = pos 0 } ∷ record { offset = 17; size = 4; target = section (codes ".debug_str"); addend = pos 28 } ∷ record { offset = 24; size = 4; target = section (codes ".debug_str"); addend = pos 37 } ∷ record { offset = 31; size = 4; target = section (codes ".debug_str"); addend = pos 40 } ∷ record { offset = 40; size = 4; target = section (codes ".debug_str"); addend = pos 44 } ∷ record { offset = 45; size = 4; target = section (codes ".debug_str"); addend = pos 62 } ∷ record { offset = 49; size = 4; target = section (codes ".debug_str"); addend = pos 70 } ∷ record { offset = 62; size = 4; target = section (codes ".debug_str"); addend = pos 74 } ∷ record { offset = 71; size = 4; target = section (codes ".debug_str"); addend = pos 93 } ∷ record { offset = 86; size = 4; target = section (codes ".debug_abbrev"); addend = pos 68 } ∷ record { offset = 91; size = 4; target = section (codes ".debug_line"); addend = pos 0 } ∷ record { offset = 96; size = 8; target = function 0; addend = pos 0 } ∷ record { offset = 106; size = 4; target = section (codes ".debug_str"); addend = pos 108 } ∷ record { offset = 110; size = 4; target = section (codes ".debug_info"); addend = pos 61 } ∷ record { offset = 114; size = 4; target = section (codes ".debug_loclists"); addend = pos 12 } ∷ record { offset = 128; size = 4; target = section (codes ".debug_abbrev"); addend = pos 96 } ∷ record { offset = 133; size = 4; target = section (codes ".debug_str"); addend = pos 28 } ∷ record { offset = 139; size = 4; target = section (codes ".debug_str"); addend = pos 116 } ∷ record { offset = 143; size = 4; target = section (codes ".debug_line"); addend = pos 78 } ∷ record { offset = 147; size = 4; target = section (codes ".debug_str"); addend = pos 123 } ∷ record { offset = 151; size = 4; target = section (codes ".debug_rnglists"); addend = pos 12 } ∷ record { offset = 156; size = 4; target = section (codes ".debug_str"); addend = pos 126 } ∷ record { offset = 163; size = 4; target = section (codes ".debug_str"); addend = pos 130 } ∷ record { offset = 170; size = 4; target = section (codes ".debug_str"); addend = pos 134 } ∷ record { offset = 177; size = 4; target = section (codes ".debug_str"); addend = pos 138 } ∷ []) } ∷ record { name = codes ".debug_line"; body = (74 ∷ 0 ∷ 0 ∷ 0 ∷ 5 ∷ 0 ∷ 8 ∷ 0 ∷ 42 ∷ 0 ∷ 0 ∷ 0 ∷ 1 ∷ 1 ∷ 1 ∷ 251 ∷ 14 ∷ 13 ∷ 0 ∷ 1 ∷ 1 ∷ 1 ∷ 1 ∷ 0 ∷ 0 ∷ 0 ∷ 1 ∷ 0 ∷ 0 ∷ 1 ∷ 1 ∷ 1 ∷ 31 ∷ 1 ∷ 0 ∷ 0 ∷ 0 ∷ 0 ∷ 2 ∷ 1 ∷ 31 ∷ 2 ∷ 15 ∷ 2 ∷ 1 ∷ 0 ∷ 0 ∷ 0 ∷ 0 ∷ 1 ∷ 0 ∷ 0 ∷ 0 ∷ 0 ∷ 0 ∷ 9 ∷ 2 ∷ 0 ∷ 0 ∷ 0 ∷ 0 ∷ 0 ∷ 0 ∷ 0 ∷ 0 ∷ 3 ∷ 1 ∷ 1 ∷ 3 ∷ 1 ∷ 2 ∷ 15 ∷ 1 ∷ 2 ∷ 15 ∷ 0 ∷ 1 ∷ 1 ∷ 50 ∷ 0 ∷ 0 ∷ 0 ∷ 5 ∷ 0 ∷ 8 ∷ 0 ∷ 42 ∷ 0 ∷ 0 ∷ 0 ∷ 1 ∷ 1 ∷ 1 ∷ 251 ∷ 14 ∷ 13 ∷ 0 ∷ 1 ∷ 1 ∷ 1 ∷ 1 ∷ 0 ∷ 0 ∷ 0 ∷ 1 ∷ 0 ∷ 0 ∷ 1 ∷ 1 ∷ 1 ∷ 31 ∷ 1 ∷ 5 ∷ 0 ∷ 0 ∷ 0 ∷ 2 ∷ 1 ∷ 31 ∷ 2 ∷ 15 ∷ 2 ∷ 8 ∷ 0 ∷ 0 ∷ 0 ∷ 0 ∷ 8 ∷ 0 ∷ 0 ∷ 0 ∷ 0 ∷ []); relocations = (record { offset = 34; size = 4; target = section (codes ".debug_line_str"); addend = pos 0 } ∷ record { offset = 44; size = 4; target = section (codes ".debug_line_str"); addend = pos 1 } ∷ record { offset = 49; size = 4; target = section (codes ".debug_line_str"); addend = pos 1 } ∷ record { offset = 57; size = 8; target = function 0; addend = pos 0 } ∷ record { offset = 112; size = 4; target = section (codes ".debug_line_str"); addend = pos 5 } ∷ record { offset = 122; size = 4; target = section (codes ".debug_line_str"); addend = pos 8 } ∷ record { offset = 127; size = 4; target = section (codes ".debug_line_str"); addend = pos 8 } ∷ []) } ∷ record { name = codes ".debug_line_str"; body = (0 ∷ 97 ∷ 46 ∷ 99 ∷ 0 ∷ 47 ∷ 109 ∷ 0 ∷ 103 ∷ 46 ∷ 119 ∷ 97 ∷ 115 ∷ 109 ∷ 0 ∷ []); relocations = ([]) } ∷ record { name = codes ".debug_rnglists"; body = (9 ∷ 0 ∷ 0 ∷ 0 ∷ 5 ∷ 0 ∷ 8 ∷ 0 ∷ 0 ∷ 0 ∷ 0 ∷ 0 ∷ 0 ∷ []); relocations = ([]) } ∷ record { name = codes ".debug_loclists"; body = (9 ∷ 0 ∷ 0 ∷ 0 ∷ 5 ∷ 0 ∷ 8 ∷ 0 ∷ 0 ∷ 0 ∷ 0 ∷ 0 ∷ 0 ∷ []); relocations = ([]) } ∷ record { name = codes ".debug_str"; body = (87 ∷ 97 ∷ 115 ∷ 109 ∷ 116 ∷ 105 ∷ 109 ∷ 101 ∷ 77 ∷ 111 ∷ 100 ∷ 117 ∷ 108 ∷ 101 ∷ 83 ∷ 121 ∷ 110 ∷ 116 ∷ 104 ∷ 101 ∷ 116 ∷ 105 ∷ 99 ∷ 85 ∷ 110 ∷ 105 ∷ 116 ∷ 0 ∷ 119 ∷ 97 ∷ 115 ∷ 109 ∷ 116 ∷ 105 ∷ 109 ∷ 101 ∷ 0 ∷ 117 ∷ 56 ∷ 0 ∷ 117 ∷ 56 ∷ 42 ∷ 0 ∷ 87 ∷ 97 ∷ 115 ∷ 109 ∷ 116 ∷ 105 ∷ 109 ∷ 101 ∷ 86 ∷ 77 ∷ 67 ∷ 111 ∷ 110 ∷ 116 ∷ 101 ∷ 120 ∷ 116 ∷ 0 ∷ 115 ∷ 101 ∷ 116 ∷ 95 ∷ 109 ∷ 101 ∷ 109 ∷ 0 ∷ 115 ∷ 101 ∷ 116 ∷ 0 ∷ 87 ∷ 97 ∷ 115 ∷ 109 ∷ 116 ∷ 105 ∷ 109 ∷ 101 ∷ 86 ∷ 77 ∷ 67 ∷ 111 ∷ 110 ∷ 116 ∷ 101 ∷ 120 ∷ 116 ∷ 42 ∷ 0 ∷ 87 ∷ 101 ∷ 98 ∷ 65 ∷ 115 ∷ 115 ∷ 101 ∷ 109 ∷ 98 ∷ 108 ∷ 121 ∷ 80 ∷ 116 ∷ 114 ∷ 0 ∷ 95 ∷ 95 ∷ 118 ∷ 109 ∷ 99 ∷ 116 ∷ 120 ∷ 0 ∷ 103 ∷ 46 ∷ 119 ∷ 97 ∷ 115 ∷ 109 ∷ 0 ∷ 47 ∷ 109 ∷ 0 ∷ 105 ∷ 51 ∷ 50 ∷ 0 ∷ 105 ∷ 54 ∷ 52 ∷ 0 ∷ 102 ∷ 51 ∷ 50 ∷ 0 ∷ 102 ∷ 54 ∷ 52 ∷ 0 ∷ []); relocations = ([]) } ∷ [])

lengths-unnamed : map (λ s. length s.body) new-unnamed ≡ 125 ∷ 184 ∷ 132 ∷ 15 ∷ 13 ∷ 13 ∷ 142 ∷ []
lengths-unnamed = refl

names-unnamed : are_of_output 5 new-unnamed ≡ true
unfolding versions_on_literals
names-unnamed = refl

wrong_names-unnamed : are_of_output 4 new-unnamed ≡ false
unfolding versions_on_literals
wrong_names-unnamed = refl

relocated-unnamed : relocations_there new-unnamed ≡ relocations_wanted Little new-unnamed
unfolding versions_on_literals
relocated-unnamed = refl

trees-unnamed : trees_said Little new-unnamed ≡ trees_wanted Little old-unnamed
unfolding versions_on_literals
trees-unnamed = refl

lines-unnamed : lines_said Little new-unnamed ≡ lines_wanted Little old-unnamed
unfolding versions_on_literals
lines-unnamed = refl

directories-unnamed : directories_said Little new-unnamed ≡ directories_wanted Little new-unnamed
unfolding versions_on_literals
directories-unnamed = refl

form-unnamed : forms Little new-unnamed ≡ (5, (8, 1)) ∷ (5, (8, 1)) ∷ (5, (8, 1)) ∷ []
unfolding versions_on_literals
form-unnamed = refl

abbrev pub old-named : List OutputSection
old-named = (record { name = codes ".debug_abbrev"; body = (1 ∷ 17 ∷ 1 ∷ 3 ∷ 14 ∷ 37 ∷ 14 ∷ 19 ∷ 5 ∷ 0 ∷ 0 ∷ 2 ∷ 36 ∷ 0 ∷ 3 ∷ 14 ∷ 62 ∷ 11 ∷ 11 ∷ 11 ∷ 0 ∷ 0 ∷ 3 ∷ 15 ∷ 0 ∷ 3 ∷ 14 ∷ 73 ∷ 19 ∷ 0 ∷ 0 ∷ 4 ∷ 19 ∷ 1 ∷ 3 ∷ 14 ∷ 0 ∷ 0 ∷ 5 ∷ 46 ∷ 1 ∷ 110 ∷ 14 ∷ 3 ∷ 14 ∷ 0 ∷ 0 ∷ 6 ∷ 5 ∷ 0 ∷ 73 ∷ 19 ∷ 52 ∷ 12 ∷ 0 ∷ 0 ∷ 7 ∷ 36 ∷ 0 ∷ 3 ∷ 14 ∷ 11 ∷ 11 ∷ 62 ∷ 11 ∷ 0 ∷ 0 ∷ 0 ∷ 1 ∷ 17 ∷ 1 ∷ 16 ∷ 23 ∷ 27 ∷ 14 ∷ 0 ∷ 0 ∷ 2 ∷ 46 ∷ 1 ∷ 17 ∷ 1 ∷ 18 ∷ 15 ∷ 58 ∷ 15 ∷ 88 ∷ 15 ∷ 0 ∷ 0 ∷ 3 ∷ 52 ∷ 0 ∷ 3 ∷ 14 ∷ 73 ∷ 16 ∷ 2 ∷ 23 ∷ 0 ∷ 0 ∷ 0 ∷ 1 ∷ 17 ∷ 1 ∷ 37 ∷ 14 ∷ 19 ∷ 5 ∷ 3 ∷ 14 ∷ 16 ∷ 23 ∷ 27 ∷ 14 ∷ 85 ∷ 23 ∷ 0 ∷ 0 ∷ 2 ∷ 36 ∷ 0 ∷ 3 ∷ 14 ∷ 11 ∷ 11 ∷ 62 ∷ 11 ∷ 0 ∷ 0 ∷ 0 ∷ []); relocations = ([]) } ∷ record { name = codes ".debug_info"; body = (73 ∷ 0 ∷ 0 ∷ 0 ∷ 4 ∷ 0 ∷ 0 ∷ 0 ∷ 0 ∷ 0 ∷ 8 ∷ 1 ∷ 0 ∷ 0 ∷ 0 ∷ 0 ∷ 28 ∷ 0 ∷ 0 ∷ 0 ∷ 29 ∷ 0 ∷ 2 ∷ 37 ∷ 0 ∷ 0 ∷ 0 ∷ 7 ∷ 1 ∷ 3 ∷ 40 ∷ 0 ∷ 0 ∷ 0 ∷ 22 ∷ 0 ∷ 0 ∷ 0 ∷ 4 ∷ 44 ∷ 0 ∷ 0 ∷ 0 ∷ 5 ∷ 62 ∷ 0 ∷ 0 ∷ 0 ∷ 70 ∷ 0 ∷ 0 ∷ 0 ∷ 6 ∷ 60 ∷ 0 ∷ 0 ∷ 0 ∷ 1 ∷ 0 ∷ 0 ∷ 3 ∷ 74 ∷ 0 ∷ 0 ∷ 0 ∷ 38 ∷ 0 ∷ 0 ∷ 0 ∷ 7 ∷ 93 ∷ 0 ∷ 0 ∷ 0 ∷ 4 ∷ 7 ∷ 0 ∷ 43 ∷ 0 ∷ 0 ∷ 0 ∷ 4 ∷ 0 ∷ 68 ∷ 0 ∷ 0 ∷ 0 ∷ 8 ∷ 1 ∷ 0 ∷ 0 ∷ 0 ∷ 0 ∷ 108 ∷ 0 ∷ 0 ∷ 0 ∷ 2 ∷ 0 ∷ 0 ∷ 0 ∷ 0 ∷ 0 ∷ 0 ∷ 0 ∷ 0 ∷ 30 ∷ 1 ∷ 0 ∷ 3 ∷ 111 ∷ 0 ∷ 0 ∷ 0 ∷ 60 ∷ 0 ∷ 0 ∷ 0 ∷ 0 ∷ 0 ∷ 0 ∷ 0 ∷ 0 ∷ 0 ∷ 59 ∷ 0 ∷ 0 ∷ 0 ∷ 4 ∷ 0 ∷ 102 ∷ 0 ∷ 0 ∷ 0 ∷ 8 ∷ 1 ∷ 28 ∷ 0 ∷ 0 ∷ 0 ∷ 29 ∷ 0 ∷ 119 ∷ 0 ∷ 0 ∷ 0 ∷ 61 ∷ 0 ∷ 0 ∷ 0 ∷ 126 ∷ 0 ∷ 0 ∷ 0 ∷ 0 ∷ 0 ∷ 0 ∷ 0 ∷ 2 ∷ 129 ∷ 0 ∷ 0 ∷ 0 ∷ 4 ∷ 5 ∷ 2 ∷ 133 ∷ 0 ∷ 0 ∷ 0 ∷ 8 ∷ 5 ∷ 2 ∷ 137 ∷ 0 ∷ 0 ∷ 0 ∷ 4 ∷ 4 ∷ 2 ∷ 141 ∷ 0 ∷ 0 ∷ 0 ∷ 8 ∷ 4 ∷ 0 ∷ []); relocations = (record { offset = 6; size = 4; target = section (codes ".debug_abbrev"); addend = pos 0 } ∷ record { offset = 12; size = 4; target = section (codes ".debug_str"); addend = pos 0 } ∷ record { offset = 16; size = 4; target = section (codes ".debug_str"); addend = pos 28 } ∷ record { offset = 23; size = 4; target = section (codes ".debug_str"); addend = pos 37 } ∷ record { offset = 30; size = 4; target = section (codes ".debug_str"); addend = pos 40 } ∷ record { offset = 39; size = 4; target = section (codes ".debug_str"); addend = pos 44 } ∷ record { offset = 44; size = 4; target = section (codes ".debug_str"); addend = pos 62 } ∷ record { offset = 48; size = 4; target = section (codes ".debug_str"); addend = pos 70 } ∷ record { offset = 61; size = 4; target = section (codes ".debug_str"); addend = pos 74 } ∷ record { offset = 70; size = 4; target = section (codes ".debug_str"); addend = pos 93 } ∷ record { offset = 83; size = 4; target = section (codes ".debug_abbrev"); addend = pos 68 } ∷ record { offset = 89; size = 4; target = section (codes ".debug_line"); addend = pos 0 } ∷ record { offset = 93; size = 4; target = section (codes ".debug_str"); addend = pos 108 } ∷ record { offset = 98; size = 8; target = function 0; addend = pos 0 } ∷ record { offset = 110; size = 4; target = section (codes ".debug_str"); addend = pos 111 } ∷ record { offset = 114; size = 4; target = section (codes ".debug_info"); addend = pos 60 } ∷ record { offset = 118; size = 4; target = section (codes ".debug_loc"); addend = pos 0 } ∷ record { offset = 130; size = 4; target = section (codes ".debug_abbrev"); addend = pos 102 } ∷ record { offset = 136; size = 4; target = section (codes ".debug_str"); addend = pos 28 } ∷ record { offset = 142; size = 4; target = section (codes ".debug_str"); addend = pos 119 } ∷ record { offset = 146; size = 4; target = section (codes ".debug_line"); addend = pos 61 } ∷ record { offset = 150; size = 4; target = section (codes ".debug_str"); addend = pos 126 } ∷ record { offset = 154; size = 4; target = section (codes ".debug_ranges"); addend = pos 0 } ∷ record { offset = 159; size = 4; target = section (codes ".debug_str"); addend = pos 129 } ∷ record { offset = 166; size = 4; target = section (codes ".debug_str"); addend = pos 133 } ∷ record { offset = 173; size = 4; target = section (codes ".debug_str"); addend = pos 137 } ∷ record { offset = 180; size = 4; target = section (codes ".debug_str"); addend = pos 141 } ∷ []) } ∷ record { name = codes ".debug_line"; body = (57 ∷ 0 ∷ 0 ∷ 0 ∷ 4 ∷ 0 ∷ 27 ∷ 0 ∷ 0 ∷ 0 ∷ 1 ∷ 1 ∷ 1 ∷ 251 ∷ 14 ∷ 13 ∷ 0 ∷ 1 ∷ 1 ∷ 1 ∷ 1 ∷ 0 ∷ 0 ∷ 0 ∷ 1 ∷ 0 ∷ 0 ∷ 1 ∷ 0 ∷ 97 ∷ 46 ∷ 99 ∷ 0 ∷ 0 ∷ 0 ∷ 0 ∷ 0 ∷ 0 ∷ 9 ∷ 2 ∷ 0 ∷ 0 ∷ 0 ∷ 0 ∷ 0 ∷ 0 ∷ 0 ∷ 0 ∷ 3 ∷ 1 ∷ 1 ∷ 3 ∷ 1 ∷ 2 ∷ 15 ∷ 1 ∷ 2 ∷ 15 ∷ 0 ∷ 1 ∷ 1 ∷ 36 ∷ 0 ∷ 0 ∷ 0 ∷ 4 ∷ 0 ∷ 30 ∷ 0 ∷ 0 ∷ 0 ∷ 1 ∷ 1 ∷ 1 ∷ 251 ∷ 14 ∷ 13 ∷ 0 ∷ 1 ∷ 1 ∷ 1 ∷ 1 ∷ 0 ∷ 0 ∷ 0 ∷ 1 ∷ 0 ∷ 0 ∷ 1 ∷ 0 ∷ 103 ∷ 46 ∷ 119 ∷ 97 ∷ 115 ∷ 109 ∷ 0 ∷ 0 ∷ 0 ∷ 0 ∷ 0 ∷ []); relocations = (record { offset = 40; size = 8; target = function 0; addend = pos 0 } ∷ []) } ∷ record { name = codes ".debug_ranges"; body = (0 ∷ 0 ∷ 0 ∷ 0 ∷ 0 ∷ 0 ∷ 0 ∷ 0 ∷ 0 ∷ 0 ∷ 0 ∷ 0 ∷ 0 ∷ 0 ∷ 0 ∷ 0 ∷ []); relocations = ([]) } ∷ record { name = codes ".debug_loc"; body = (0 ∷ 0 ∷ 0 ∷ 0 ∷ 0 ∷ 0 ∷ 0 ∷ 0 ∷ 0 ∷ 0 ∷ 0 ∷ 0 ∷ 0 ∷ 0 ∷ 0 ∷ 0 ∷ []); relocations = ([]) } ∷ record { name = codes ".debug_str"; body = (87 ∷ 97 ∷ 115 ∷ 109 ∷ 116 ∷ 105 ∷ 109 ∷ 101 ∷ 77 ∷ 111 ∷ 100 ∷ 117 ∷ 108 ∷ 101 ∷ 83 ∷ 121 ∷ 110 ∷ 116 ∷ 104 ∷ 101 ∷ 116 ∷ 105 ∷ 99 ∷ 85 ∷ 110 ∷ 105 ∷ 116 ∷ 0 ∷ 119 ∷ 97 ∷ 115 ∷ 109 ∷ 116 ∷ 105 ∷ 109 ∷ 101 ∷ 0 ∷ 117 ∷ 56 ∷ 0 ∷ 117 ∷ 56 ∷ 42 ∷ 0 ∷ 87 ∷ 97 ∷ 115 ∷ 109 ∷ 116 ∷ 105 ∷ 109 ∷ 101 ∷ 86 ∷ 77 ∷ 67 ∷ 111 ∷ 110 ∷ 116 ∷ 101 ∷ 120 ∷ 116 ∷ 0 ∷ 115 ∷ 101 ∷ 116 ∷ 95 ∷ 109 ∷ 101 ∷ 109 ∷ 0 ∷ 115 ∷ 101 ∷ 116 ∷ 0 ∷ 87 ∷ 97 ∷ 115 ∷ 109 ∷ 116 ∷ 105 ∷ 109 ∷ 101 ∷ 86 ∷ 77 ∷ 67 ∷ 111 ∷ 110 ∷ 116 ∷ 101 ∷ 120 ∷ 116 ∷ 42 ∷ 0 ∷ 87 ∷ 101 ∷ 98 ∷ 65 ∷ 115 ∷ 115 ∷ 101 ∷ 109 ∷ 98 ∷ 108 ∷ 121 ∷ 80 ∷ 116 ∷ 114 ∷ 0 ∷ 47 ∷ 119 ∷ 0 ∷ 95 ∷ 95 ∷ 118 ∷ 109 ∷ 99 ∷ 116 ∷ 120 ∷ 0 ∷ 103 ∷ 46 ∷ 119 ∷ 97 ∷ 115 ∷ 109 ∷ 0 ∷ 47 ∷ 109 ∷ 0 ∷ 105 ∷ 51 ∷ 50 ∷ 0 ∷ 105 ∷ 54 ∷ 52 ∷ 0 ∷ 102 ∷ 51 ∷ 50 ∷ 0 ∷ 102 ∷ 54 ∷ 52 ∷ 0 ∷ []); relocations = ([]) } ∷ [])

abbrev pub new-named : List OutputSection
new-named = (record { name = codes ".debug_abbrev"; body = (1 ∷ 17 ∷ 1 ∷ 3 ∷ 14 ∷ 37 ∷ 14 ∷ 19 ∷ 5 ∷ 0 ∷ 0 ∷ 2 ∷ 36 ∷ 0 ∷ 3 ∷ 14 ∷ 62 ∷ 11 ∷ 11 ∷ 11 ∷ 0 ∷ 0 ∷ 3 ∷ 15 ∷ 0 ∷ 3 ∷ 14 ∷ 73 ∷ 19 ∷ 0 ∷ 0 ∷ 4 ∷ 19 ∷ 1 ∷ 3 ∷ 14 ∷ 0 ∷ 0 ∷ 5 ∷ 46 ∷ 1 ∷ 110 ∷ 14 ∷ 3 ∷ 14 ∷ 0 ∷ 0 ∷ 6 ∷ 5 ∷ 0 ∷ 73 ∷ 19 ∷ 52 ∷ 12 ∷ 0 ∷ 0 ∷ 7 ∷ 36 ∷ 0 ∷ 3 ∷ 14 ∷ 11 ∷ 11 ∷ 62 ∷ 11 ∷ 0 ∷ 0 ∷ 0 ∷ 1 ∷ 17 ∷ 1 ∷ 16 ∷ 23 ∷ 27 ∷ 14 ∷ 0 ∷ 0 ∷ 2 ∷ 46 ∷ 1 ∷ 17 ∷ 1 ∷ 18 ∷ 15 ∷ 58 ∷ 15 ∷ 0 ∷ 0 ∷ 3 ∷ 52 ∷ 0 ∷ 3 ∷ 14 ∷ 73 ∷ 16 ∷ 2 ∷ 23 ∷ 0 ∷ 0 ∷ 0 ∷ 1 ∷ 17 ∷ 1 ∷ 37 ∷ 14 ∷ 19 ∷ 5 ∷ 3 ∷ 14 ∷ 16 ∷ 23 ∷ 27 ∷ 14 ∷ 85 ∷ 23 ∷ 0 ∷ 0 ∷ 2 ∷ 36 ∷ 0 ∷ 3 ∷ 14 ∷ 11 ∷ 11 ∷ 62 ∷ 11 ∷ 0 ∷ 0 ∷ 0 ∷ []); relocations = ([]) } ∷ record { name = codes ".debug_info"; body = (74 ∷ 0 ∷ 0 ∷ 0 ∷ 5 ∷ 0 ∷ 1 ∷ 8 ∷ 0 ∷ 0 ∷ 0 ∷ 0 ∷ 1 ∷ 0 ∷ 0 ∷ 0 ∷ 0 ∷ 28 ∷ 0 ∷ 0 ∷ 0 ∷ 29 ∷ 0 ∷ 2 ∷ 37 ∷ 0 ∷ 0 ∷ 0 ∷ 7 ∷ 1 ∷ 3 ∷ 40 ∷ 0 ∷ 0 ∷ 0 ∷ 23 ∷ 0 ∷ 0 ∷ 0 ∷ 4 ∷ 44 ∷ 0 ∷ 0 ∷ 0 ∷ 5 ∷ 62 ∷ 0 ∷ 0 ∷ 0 ∷ 70 ∷ 0 ∷ 0 ∷ 0 ∷ 6 ∷ 61 ∷ 0 ∷ 0 ∷ 0 ∷ 1 ∷ 0 ∷ 0 ∷ 3 ∷ 74 ∷ 0 ∷ 0 ∷ 0 ∷ 39 ∷ 0 ∷ 0 ∷ 0 ∷ 7 ∷ 93 ∷ 0 ∷ 0 ∷ 0 ∷ 4 ∷ 7 ∷ 0 ∷ 43 ∷ 0 ∷ 0 ∷ 0 ∷ 5 ∷ 0 ∷ 1 ∷ 8 ∷ 68 ∷ 0 ∷ 0 ∷ 0 ∷ 1 ∷ 0 ∷ 0 ∷ 0 ∷ 0 ∷ 108 ∷ 0 ∷ 0 ∷ 0 ∷ 2 ∷ 0 ∷ 0 ∷ 0 ∷ 0 ∷ 0 ∷ 0 ∷ 0 ∷ 0 ∷ 30 ∷ 1 ∷ 3 ∷ 111 ∷ 0 ∷ 0 ∷ 0 ∷ 61 ∷ 0 ∷ 0 ∷ 0 ∷ 12 ∷ 0 ∷ 0 ∷ 0 ∷ 0 ∷ 0 ∷ 60 ∷ 0 ∷ 0 ∷ 0 ∷ 5 ∷ 0 ∷ 1 ∷ 8 ∷ 100 ∷ 0 ∷ 0 ∷ 0 ∷ 1 ∷ 28 ∷ 0 ∷ 0 ∷ 0 ∷ 29 ∷ 0 ∷ 119 ∷ 0 ∷ 0 ∷ 0 ∷ 78 ∷ 0 ∷ 0 ∷ 0 ∷ 126 ∷ 0 ∷ 0 ∷ 0 ∷ 12 ∷ 0 ∷ 0 ∷ 0 ∷ 2 ∷ 129 ∷ 0 ∷ 0 ∷ 0 ∷ 4 ∷ 5 ∷ 2 ∷ 133 ∷ 0 ∷ 0 ∷ 0 ∷ 8 ∷ 5 ∷ 2 ∷ 137 ∷ 0 ∷ 0 ∷ 0 ∷ 4 ∷ 4 ∷ 2 ∷ 141 ∷ 0 ∷ 0 ∷ 0 ∷ 8 ∷ 4 ∷ 0 ∷ []); relocations = (record { offset = 8; size = 4; target = section (codes ".debug_abbrev"); addend = pos 0 } ∷ record { offset = 13; size = 4; target = section (codes ".debug_str"); addend = pos 0 } ∷ record { offset = 17; size = 4; target = section (codes ".debug_str"); addend = pos 28 } ∷ record { offset = 24; size = 4; target = section (codes ".debug_str"); addend = pos 37 } ∷ record { offset = 31; size = 4; target = section (codes ".debug_str"); addend = pos 40 } ∷ record { offset = 40; size = 4; target = section (codes ".debug_str"); addend = pos 44 } ∷ record { offset = 45; size = 4; target = section (codes ".debug_str"); addend = pos 62 } ∷ record { offset = 49; size = 4; target = section (codes ".debug_str"); addend = pos 70 } ∷ record { offset = 62; size = 4; target = section (codes ".debug_str"); addend = pos 74 } ∷ record { offset = 71; size = 4; target = section (codes ".debug_str"); addend = pos 93 } ∷ record { offset = 86; size = 4; target = section (codes ".debug_abbrev"); addend = pos 68 } ∷ record { offset = 91; size = 4; target = section (codes ".debug_line"); addend = pos 0 } ∷ record { offset = 95; size = 4; target = section (codes ".debug_str"); addend = pos 108 } ∷ record { offset = 100; size = 8; target = function 0; addend = pos 0 } ∷ record { offset = 111; size = 4; target = section (codes ".debug_str"); addend = pos 111 } ∷ record { offset = 115; size = 4; target = section (codes ".debug_info"); addend = pos 61 } ∷ record { offset = 119; size = 4; target = section (codes ".debug_loclists"); addend = pos 12 } ∷ record { offset = 133; size = 4; target = section (codes ".debug_abbrev"); addend = pos 100 } ∷ record { offset = 138; size = 4; target = section (codes ".debug_str"); addend = pos 28 } ∷ record { offset = 144; size = 4; target = section (codes ".debug_str"); addend = pos 119 } ∷ record { offset = 148; size = 4; target = section (codes ".debug_line"); addend = pos 78 } ∷ record { offset = 152; size = 4; target = section (codes ".debug_str"); addend = pos 126 } ∷ record { offset = 156; size = 4; target = section (codes ".debug_rnglists"); addend = pos 12 } ∷ record { offset = 161; size = 4; target = section (codes ".debug_str"); addend = pos 129 } ∷ record { offset = 168; size = 4; target = section (codes ".debug_str"); addend = pos 133 } ∷ record { offset = 175; size = 4; target = section (codes ".debug_str"); addend = pos 137 } ∷ record { offset = 182; size = 4; target = section (codes ".debug_str"); addend = pos 141 } ∷ []) } ∷ record { name = codes ".debug_line"; body = (74 ∷ 0 ∷ 0 ∷ 0 ∷ 5 ∷ 0 ∷ 8 ∷ 0 ∷ 42 ∷ 0 ∷ 0 ∷ 0 ∷ 1 ∷ 1 ∷ 1 ∷ 251 ∷ 14 ∷ 13 ∷ 0 ∷ 1 ∷ 1 ∷ 1 ∷ 1 ∷ 0 ∷ 0 ∷ 0 ∷ 1 ∷ 0 ∷ 0 ∷ 1 ∷ 1 ∷ 1 ∷ 31 ∷ 1 ∷ 0 ∷ 0 ∷ 0 ∷ 0 ∷ 2 ∷ 1 ∷ 31 ∷ 2 ∷ 15 ∷ 2 ∷ 3 ∷ 0 ∷ 0 ∷ 0 ∷ 0 ∷ 3 ∷ 0 ∷ 0 ∷ 0 ∷ 0 ∷ 0 ∷ 9 ∷ 2 ∷ 0 ∷ 0 ∷ 0 ∷ 0 ∷ 0 ∷ 0 ∷ 0 ∷ 0 ∷ 3 ∷ 1 ∷ 1 ∷ 3 ∷ 1 ∷ 2 ∷ 15 ∷ 1 ∷ 2 ∷ 15 ∷ 0 ∷ 1 ∷ 1 ∷ 50 ∷ 0 ∷ 0 ∷ 0 ∷ 5 ∷ 0 ∷ 8 ∷ 0 ∷ 42 ∷ 0 ∷ 0 ∷ 0 ∷ 1 ∷ 1 ∷ 1 ∷ 251 ∷ 14 ∷ 13 ∷ 0 ∷ 1 ∷ 1 ∷ 1 ∷ 1 ∷ 0 ∷ 0 ∷ 0 ∷ 1 ∷ 0 ∷ 0 ∷ 1 ∷ 1 ∷ 1 ∷ 31 ∷ 1 ∷ 7 ∷ 0 ∷ 0 ∷ 0 ∷ 2 ∷ 1 ∷ 31 ∷ 2 ∷ 15 ∷ 2 ∷ 10 ∷ 0 ∷ 0 ∷ 0 ∷ 0 ∷ 10 ∷ 0 ∷ 0 ∷ 0 ∷ 0 ∷ []); relocations = (record { offset = 34; size = 4; target = section (codes ".debug_line_str"); addend = pos 0 } ∷ record { offset = 44; size = 4; target = section (codes ".debug_line_str"); addend = pos 3 } ∷ record { offset = 49; size = 4; target = section (codes ".debug_line_str"); addend = pos 3 } ∷ record { offset = 57; size = 8; target = function 0; addend = pos 0 } ∷ record { offset = 112; size = 4; target = section (codes ".debug_line_str"); addend = pos 7 } ∷ record { offset = 122; size = 4; target = section (codes ".debug_line_str"); addend = pos 10 } ∷ record { offset = 127; size = 4; target = section (codes ".debug_line_str"); addend = pos 10 } ∷ []) } ∷ record { name = codes ".debug_line_str"; body = (47 ∷ 119 ∷ 0 ∷ 97 ∷ 46 ∷ 99 ∷ 0 ∷ 47 ∷ 109 ∷ 0 ∷ 103 ∷ 46 ∷ 119 ∷ 97 ∷ 115 ∷ 109 ∷ 0 ∷ []); relocations = ([]) } ∷ record { name = codes ".debug_rnglists"; body = (9 ∷ 0 ∷ 0 ∷ 0 ∷ 5 ∷ 0 ∷ 8 ∷ 0 ∷ 0 ∷ 0 ∷ 0 ∷ 0 ∷ 0 ∷ []); relocations = ([]) } ∷ record { name = codes ".debug_loclists"; body = (9 ∷ 0 ∷ 0 ∷ 0 ∷ 5 ∷ 0 ∷ 8 ∷ 0 ∷ 0 ∷ 0 ∷ 0 ∷ 0 ∷ 0 ∷ []); relocations = ([]) } ∷ record { name = codes ".debug_str"; body = (87 ∷ 97 ∷ 115 ∷ 109 ∷ 116 ∷ 105 ∷ 109 ∷ 101 ∷ 77 ∷ 111 ∷ 100 ∷ 117 ∷ 108 ∷ 101 ∷ 83 ∷ 121 ∷ 110 ∷ 116 ∷ 104 ∷ 101 ∷ 116 ∷ 105 ∷ 99 ∷ 85 ∷ 110 ∷ 105 ∷ 116 ∷ 0 ∷ 119 ∷ 97 ∷ 115 ∷ 109 ∷ 116 ∷ 105 ∷ 109 ∷ 101 ∷ 0 ∷ 117 ∷ 56 ∷ 0 ∷ 117 ∷ 56 ∷ 42 ∷ 0 ∷ 87 ∷ 97 ∷ 115 ∷ 109 ∷ 116 ∷ 105 ∷ 109 ∷ 101 ∷ 86 ∷ 77 ∷ 67 ∷ 111 ∷ 110 ∷ 116 ∷ 101 ∷ 120 ∷ 116 ∷ 0 ∷ 115 ∷ 101 ∷ 116 ∷ 95 ∷ 109 ∷ 101 ∷ 109 ∷ 0 ∷ 115 ∷ 101 ∷ 116 ∷ 0 ∷ 87 ∷ 97 ∷ 115 ∷ 109 ∷ 116 ∷ 105 ∷ 109 ∷ 101 ∷ 86 ∷ 77 ∷ 67 ∷ 111 ∷ 110 ∷ 116 ∷ 101 ∷ 120 ∷ 116 ∷ 42 ∷ 0 ∷ 87 ∷ 101 ∷ 98 ∷ 65 ∷ 115 ∷ 115 ∷ 101 ∷ 109 ∷ 98 ∷ 108 ∷ 121 ∷ 80 ∷ 116 ∷ 114 ∷ 0 ∷ 47 ∷ 119 ∷ 0 ∷ 95 ∷ 95 ∷ 118 ∷ 109 ∷ 99 ∷ 116 ∷ 120 ∷ 0 ∷ 103 ∷ 46 ∷ 119 ∷ 97 ∷ 115 ∷ 109 ∷ 0 ∷ 47 ∷ 109 ∷ 0 ∷ 105 ∷ 51 ∷ 50 ∷ 0 ∷ 105 ∷ 54 ∷ 52 ∷ 0 ∷ 102 ∷ 51 ∷ 50 ∷ 0 ∷ 102 ∷ 54 ∷ 52 ∷ 0 ∷ []); relocations = ([]) } ∷ [])

lengths-named : map (λ s. length s.body) new-named ≡ 129 ∷ 189 ∷ 132 ∷ 17 ∷ 13 ∷ 13 ∷ 145 ∷ []
lengths-named = refl

names-named : are_of_output 5 new-named ≡ true
unfolding versions_on_literals
names-named = refl

wrong_names-named : are_of_output 4 new-named ≡ false
unfolding versions_on_literals
wrong_names-named = refl

relocated-named : relocations_there new-named ≡ relocations_wanted Little new-named
unfolding versions_on_literals
relocated-named = refl

trees-named : trees_said Little new-named ≡ trees_wanted Little old-named
unfolding versions_on_literals
trees-named = refl

lines-named : lines_said Little new-named ≡ lines_wanted Little old-named
unfolding versions_on_literals
lines-named = refl

directories-named : directories_said Little new-named ≡ directories_wanted Little new-named
unfolding versions_on_literals
directories-named = refl

form-named : forms Little new-named ≡ (5, (8, 1)) ∷ (5, (8, 1)) ∷ (5, (8, 1)) ∷ []
unfolding versions_on_literals
form-named = refl
