-- What is refused of an input, and in which order.
use Rattle.std.proofs.Common.{◌≡◌, ℕ, pos, negsuc, List, [], ◌∷◌, ◌++◌, Option, Some, None, refl}
use Rattle.std.specs.Prelude.{codes}
use Rattle.dwc_worked.proofs.DraftsOnLiterals.{drafts_on_literals}
use Rattle.dwc_worked.proofs.SmallModule.{abbreviations_small, info_small, line_small}
use Rattle.dwc_worked.proofs.RunCases.{a_function}
use Rattle.dwc_worked.proofs.LineTables.{function_small}
use Rattle.dwc_worked.proofs.FrameCases.{a_common_entry, a_description, usual_entry}
use Rattle.dwc_worked.proofs.SimulatedInputs.{module_edges, in_range}
use Rattle.dwc_worked.proofs.Variants.{module_with, info_0, line_9, abbreviations_variable}
use Rattle.dwc_base.specs.declared.records.Endian.TheVariants.{Little}
use Rattle.dwc_base.specs.declared.faults.What.TheVariants.{LineTable as LineTableRead, Abbreviation, UnitHeader as UnitHeaderRead, Entry as EntryRead, RangeList, LocationList}
use Rattle.dwc_base.specs.declared.faults.Kind.TheVariants.{Compressed}
use Rattle.dwc_base.specs.declared.section_name.SectionName.TheVariants.{Line, Abbrev, Info, Ranges, Loc}
use Rattle.dwc_base.specs.Sections.{unreadable, unsupported}
use Rattle.dwc_rules.specs.Carried.{Module}
use Rattle.dwc_base.specs.ToldFiles.{bare_file}
use Rattle.dwc_rules.specs.Refusals.{Refusal, of_place, missing_file, long_function, unmapped_register, far_memory, bad_path, of_frame}
use Rattle.dwc_carried.specs.Forests.{first_refusal}
use Rattle.dwc_native.specs.Functions.{Function}
use Rattle.dwc_native.specs.Compiled.{no_memory, defined, frames_from, nothing_told}
use Rattle.dwc_native.specs.CallFrames.{def_cfa_offset, remember_state, saved_at, CommonEntry, FrameDescription}
use Rattle.dwc_native.specs.FrameRefusals.{bad_code_offset, bad_data_offset}

-- the refusal of some modules for a target with a common entry, and for one without
abbrev refusal_with : Option CommonEntry → List Module → Option Refusal
refusal_with common ms = first_refusal (record { order = Little; pointer_bytes = 8; modules = ms; next_id = 0; common_entry = common; version = 4 })

abbrev pub refusal_of : List Module → Option Refusal
refusal_of ms = refusal_with None ms

no_refusal : refusal_of (module_with abbreviations_small info_small line_small ∷ []) ≡ None
unfolding drafts_on_literals
no_refusal = refl

-- a line table that is cut: of a carried unit, and of one that is not carried
line_refused : refusal_of (module_with abbreviations_small info_small (0x38 ∷ 0x00 ∷ []) ∷ []) ≡ Some (of_place (unreadable LineTableRead Line 0))
unfolding drafts_on_literals
line_refused = refl

line_not_read : refusal_of (module_with abbreviations_small info_0 (0x38 ∷ 0x00 ∷ []) ∷ []) ≡ None
unfolding drafts_on_literals
line_not_read = refl

-- a row names a file that is not there
file_refused : refusal_of (module_with abbreviations_small info_small line_9 ∷ []) ≡ Some (missing_file 0)
unfolding drafts_on_literals
file_refused = refl

-- units come before line tables, and a compressed section before both
units_first : refusal_of (module_with abbreviations_small (info_small ++ (0x16 ∷ 0x00 ∷ [])) (0x38 ∷ 0x00 ∷ []) ∷ []) ≡ Some (of_place (unreadable UnitHeaderRead Info 26))
unfolding drafts_on_literals
units_first = refl

compressed_first : refusal_of (record (module_with [] (0xFF ∷ 0xFF ∷ 0xFF ∷ 0xFF ∷ []) line_small) { compressed = Some 40 } ∷ []) ≡ Some (of_place (unsupported Compressed 40))
unfolding drafts_on_literals
compressed_first = refl

-- module by module
module_by_module : refusal_of (module_with abbreviations_small info_small (0x38 ∷ 0x00 ∷ []) ∷ module_with [] (0xFF ∷ 0xFF ∷ 0xFF ∷ 0xFF ∷ []) line_small ∷ []) ≡ Some (of_place (unreadable LineTableRead Line 0))
unfolding drafts_on_literals
module_by_module = refl

-- a table that cannot be read
table_cut : refusal_of (module_with abbreviations_variable info_small line_small ∷ []) ≡ Some (of_place (unreadable Abbreviation Abbrev 0))
unfolding drafts_on_literals
table_cut = refl

-- behind a subprogram an entry whose code is not declared
entry_behind : refusal_of (module_with abbreviations_small (0x16 ∷ 0x00 ∷ 0x00 ∷ 0x00 ∷ 0x04 ∷ 0x00 ∷ 0x00 ∷ 0x00 ∷ 0x00 ∷ 0x00 ∷ 0x04 ∷ 0x01 ∷ 0x00 ∷ 0x00 ∷ 0x00 ∷ 0x00 ∷ 0x02 ∷ 0x02 ∷ 0x00 ∷ 0x00 ∷ 0x00 ∷ 0x0B ∷ 0x00 ∷ 0x00 ∷ 0x00 ∷ 0x03 ∷ []) line_small ∷ []) ≡ Some (of_place (unreadable EntryRead Info 25))
unfolding drafts_on_literals
entry_behind = refl

-- a root that is a subprogram, in no compile unit: nothing is carried, and nothing refused
root_subprogram : refusal_of (module_with abbreviations_small (0x11 ∷ 0x00 ∷ 0x00 ∷ 0x00 ∷ 0x04 ∷ 0x00 ∷ 0x00 ∷ 0x00 ∷ 0x00 ∷ 0x00 ∷ 0x04 ∷ 0x02 ∷ 0x02 ∷ 0x00 ∷ 0x00 ∷ 0x00 ∷ 0x0B ∷ 0x00 ∷ 0x00 ∷ 0x00 ∷ 0x00 ∷ []) line_small ∷ []) ≡ None
unfolding drafts_on_literals
root_subprogram = refl

-- The range list of a subprogram that cannot be read is told at the list, where the entry is read: before a line table, and whether
-- or not the entry is kept.
abbrev pub abbreviations_ranges : List ℕ
abbreviations_ranges = 0x01 ∷ 0x11 ∷ 0x01 ∷ 0x10 ∷ 0x17 ∷ 0x00 ∷ 0x00 ∷ 0x02 ∷ 0x2E ∷ 0x00 ∷ 0x55 ∷ 0x17 ∷ 0x00 ∷ 0x00 ∷ 0x00 ∷ []

range_list : refusal_of (module_with abbreviations_ranges (0x12 ∷ 0x00 ∷ 0x00 ∷ 0x00 ∷ 0x04 ∷ 0x00 ∷ 0x00 ∷ 0x00 ∷ 0x00 ∷ 0x00 ∷ 0x04 ∷ 0x01 ∷ 0x00 ∷ 0x00 ∷ 0x00 ∷ 0x00 ∷ 0x02 ∷ 0x00 ∷ 0x00 ∷ 0x00 ∷ 0x00 ∷ 0x00 ∷ []) (0x38 ∷ 0x00 ∷ []) ∷ []) ≡ Some (of_place (unreadable RangeList Ranges 0))
unfolding drafts_on_literals
range_list = refl

-- A kept root with a `low_pc`, one with `ranges` that are not there, and one with a location list that is not: the lists are told
-- behind the line table.
abbrev pub abbreviations_begun : ℕ → ℕ → List ℕ
abbreviations_begun name form = 0x01 ∷ 0x11 ∷ 0x01 ∷ 0x10 ∷ 0x17 ∷ name ∷ form ∷ 0x00 ∷ 0x00 ∷ 0x02 ∷ 0x2E ∷ 0x00 ∷ 0x11 ∷ 0x01 ∷ 0x12 ∷ 0x06 ∷ 0x00 ∷ 0x00 ∷ 0x00 ∷ []

abbrev pub info_begun : List ℕ
info_begun = 0x1A ∷ 0x00 ∷ 0x00 ∷ 0x00 ∷ 0x04 ∷ 0x00 ∷ 0x00 ∷ 0x00 ∷ 0x00 ∷ 0x00 ∷ 0x04 ∷ 0x01 ∷ 0x00 ∷ 0x00 ∷ 0x00 ∷ 0x00 ∷ 0x00 ∷ 0x00 ∷ 0x00 ∷ 0x00 ∷ 0x02 ∷ 0x02 ∷ 0x00 ∷ 0x00 ∷ 0x00 ∷ 0x0B ∷ 0x00 ∷ 0x00 ∷ 0x00 ∷ 0x00 ∷ []

root_low_pc : refusal_of (module_with (abbreviations_begun 0x11 0x01) info_begun line_small ∷ []) ≡ None
unfolding drafts_on_literals
root_low_pc = refl

root_ranges : refusal_of (module_with (abbreviations_begun 0x55 0x17) info_begun line_small ∷ []) ≡ Some (of_place (unreadable RangeList Ranges 0))
unfolding drafts_on_literals
root_ranges = refl

root_locations : refusal_of (module_with (abbreviations_begun 0x02 0x17) info_begun line_small ∷ []) ≡ Some (of_place (unreadable LocationList Loc 0))
unfolding drafts_on_literals
root_locations = refl

root_behind_lines : refusal_of (module_with (abbreviations_begun 0x55 0x17) info_begun line_9 ∷ []) ≡ Some (missing_file 0)
unfolding drafts_on_literals
root_behind_lines = refl

-- A function that is too long comes first, of whichever module.
unfoldable pub long_module : Module
long_module = record { sections = (module_with abbreviations_small info_small line_small).sections; functions = a_function 0 (Some 0) 2 13 0x80000000 [] ∷ []; told = nothing_told; file = bare_file 20; compressed = None; version = 4 }

function_first : refusal_of (module_with abbreviations_small info_small (0x38 ∷ 0x00 ∷ []) ∷ long_module ∷ []) ≡ Some long_function
unfolding drafts_on_literals long_module
function_first = refl

-- ---- frames

-- where the target has the common entry of x86-64
abbrev refusal_framed : List Module → Option Refusal
refusal_framed ms = refusal_with (Some usual_entry) ms

-- a good description; one whose code offsets fall; one with a factored offset that is no multiple of -8; and one with both
abbrev good : FrameDescription
good = a_description 30 ((1, def_cfa_offset (pos 16)) ∷ [])

abbrev falling : FrameDescription
falling = a_description 30 ((4, remember_state) ∷ (2, remember_state) ∷ [])

abbrev odd : FrameDescription
odd = a_description 30 ((1, saved_at 16 (negsuc 8)) ∷ [])

abbrev odd_falling : FrameDescription
odd_falling = a_description 30 ((4, saved_at 16 (negsuc 8)) ∷ (2, remember_state) ∷ [])

-- the small module with other functions, whose frames are told from that of a number on
abbrev module_framed : List Function → ℕ → List (Option FrameDescription) → Module
module_framed functions first frames = record (module_with abbreviations_small info_small line_small) { functions = functions; told = record nothing_told { frames = frames_from first frames } }

-- with its own function, and the frame of that
abbrev small_framed : FrameDescription → Module
small_framed frame = module_framed (function_small ∷ []) 0 (Some frame ∷ [])

-- behind its code another function, and its number
abbrev next_function : Option ℕ → ℕ → Function
next_function symbol number = a_function number symbol 13 20 30 []

good_frame : refusal_framed (small_framed good ∷ []) ≡ None
unfolding drafts_on_literals
good_frame = refl

code_offset_refused : refusal_framed (small_framed falling ∷ []) ≡ Some (of_frame (bad_code_offset 0))
unfolding drafts_on_literals
code_offset_refused = refl

data_offset_refused : refusal_framed (small_framed odd ∷ []) ≡ Some (of_frame (bad_data_offset 0))
unfolding drafts_on_literals
data_offset_refused = refl

-- of one description its code offsets come first
code_before_data : refusal_framed (small_framed odd_falling ∷ []) ≡ Some (of_frame (bad_code_offset 0))
unfolding drafts_on_literals
code_before_data = refl

-- Of two functions the first one's is told, whatever is wrong in it: of one module, and of two.
function_by_function : refusal_framed (module_framed (function_small ∷ next_function (Some 1) 1 ∷ []) 0 (Some odd ∷ Some falling ∷ []) ∷ []) ≡ Some (of_frame (bad_data_offset 0))
unfolding drafts_on_literals
function_by_function = refl

frame_by_module : refusal_framed (small_framed odd ∷ module_framed (next_function (Some 1) 1 ∷ []) 1 (Some falling ∷ []) ∷ []) ≡ Some (of_frame (bad_data_offset 0))
unfolding drafts_on_literals
frame_by_module = refl

-- behind a good one, and behind a function of which none is told
second_refused : refusal_framed (module_framed (function_small ∷ next_function (Some 1) 1 ∷ []) 0 (Some good ∷ Some odd_falling ∷ []) ∷ []) ≡ Some (of_frame (bad_code_offset 1))
unfolding drafts_on_literals
second_refused = refl

untold_passed : refusal_framed (module_framed (function_small ∷ next_function (Some 1) 1 ∷ []) 0 (None ∷ Some odd ∷ []) ∷ []) ≡ Some (of_frame (bad_data_offset 1))
unfolding drafts_on_literals
untold_passed = refl

-- the factors are those of the common entry: by 2 the code offset 1 is wrong, and by -3 the offset -9 is not
code_factor_counts : refusal_with (Some (a_common_entry 2 (negsuc 7) 16 [])) (small_framed good ∷ []) ≡ Some (of_frame (bad_code_offset 0))
unfolding drafts_on_literals
code_factor_counts = refl

data_factor_counts : refusal_with (Some (a_common_entry 1 (negsuc 2) 16 [])) (small_framed odd ∷ []) ≡ None
unfolding drafts_on_literals
data_factor_counts = refl

-- what is read, and a memory too far, come before a bad frame: of its own module, and of a later one
lines_before_frame : refusal_framed (record (small_framed falling) { sections = (module_with abbreviations_small info_small (0x38 ∷ 0x00 ∷ [])).sections } ∷ []) ≡ Some (of_place (unreadable LineTableRead Line 0))
unfolding drafts_on_literals
lines_before_frame = refl

later_lines_before_frame : refusal_framed (small_framed falling ∷ module_with abbreviations_small info_small (0x38 ∷ 0x00 ∷ []) ∷ []) ≡ Some (of_place (unreadable LineTableRead Line 0))
unfolding drafts_on_literals
later_lines_before_frame = refl

later_file_before_frame : refusal_framed (small_framed falling ∷ module_with abbreviations_small info_small line_9 ∷ []) ≡ Some (missing_file 0)
unfolding drafts_on_literals
later_file_before_frame = refl

memory_before_frame : refusal_framed (small_framed falling ∷ record (small_framed good) { told = record nothing_told { memory = defined 4294967288 } } ∷ []) ≡ Some far_memory
unfolding drafts_on_literals
memory_before_frame = refl

-- a long function does too, as it does before what is read
long_before_frame : refusal_framed (small_framed falling ∷ long_module ∷ []) ≡ Some long_function
unfolding drafts_on_literals long_module
long_before_frame = refl

long_before_all : refusal_framed (small_framed falling ∷ module_with abbreviations_small info_small (0x38 ∷ 0x00 ∷ []) ∷ long_module ∷ []) ≡ Some long_function
unfolding drafts_on_literals long_module
long_before_all = refl

-- nothing is refused of a bad frame without a common entry, nor of one of a function without a symbol
no_common_entry : refusal_of (small_framed odd_falling ∷ []) ≡ None
unfolding drafts_on_literals
no_common_entry = refl

no_symbol : refusal_framed (module_framed (a_function 0 None 2 13 30 [] ∷ []) 0 (Some odd_falling ∷ []) ∷ []) ≡ None
unfolding drafts_on_literals
no_symbol = refl

second_without_symbol : refusal_framed (module_framed (function_small ∷ next_function None 1 ∷ []) 0 (Some good ∷ Some odd_falling ∷ []) ∷ []) ≡ None
unfolding drafts_on_literals
second_without_symbol = refl

-- ---- the path of the simulated unit

-- a module whose path is given
abbrev with_path : Module → Module
with_path m = record m { file = record m.file { path = Some (codes "/..") } }

-- that of the first module counts alone
path_refused : refusal_of (with_path (small_framed good) ∷ small_framed good ∷ []) ≡ Some bad_path
unfolding drafts_on_literals
path_refused = refl

later_path_passed : refusal_of (small_framed good ∷ with_path (small_framed good) ∷ []) ≡ None
unfolding drafts_on_literals
later_path_passed = refl

-- it comes behind what is read of all modules, and before a bad frame
lines_before_path : refusal_of (with_path (small_framed good) ∷ module_with abbreviations_small info_small (0x38 ∷ 0x00 ∷ []) ∷ []) ≡ Some (of_place (unreadable LineTableRead Line 0))
unfolding drafts_on_literals
lines_before_path = refl

path_before_frame : refusal_framed (with_path (small_framed falling) ∷ []) ≡ Some bad_path
unfolding drafts_on_literals
path_before_frame = refl

-- ---- the variables of the simulated unit

-- the edges of its rules with register 7, which has no number, for one of them
abbrev with_register : Module
with_register = module_edges no_memory abbreviations_small info_small line_small ((1, in_range 7 0 16 ∷ []) ∷ [])

variable_refused : refusal_of (with_register ∷ []) ≡ Some (unmapped_register 7)
unfolding drafts_on_literals
variable_refused = refl

path_before_variable : refusal_of (with_path with_register ∷ []) ≡ Some bad_path
unfolding drafts_on_literals
path_before_variable = refl

lines_before_variable : refusal_of (with_register ∷ module_with abbreviations_small info_small (0x38 ∷ 0x00 ∷ []) ∷ []) ≡ Some (of_place (unreadable LineTableRead Line 0))
unfolding drafts_on_literals
lines_before_variable = refl

variable_before_frame : refusal_framed (small_framed falling ∷ with_register ∷ []) ≡ Some (unmapped_register 7)
unfolding drafts_on_literals
variable_before_frame = refl
