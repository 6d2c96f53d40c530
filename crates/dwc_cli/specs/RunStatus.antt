-- What each status of a run says. Want of memory, status 9, may come at any time.
use Rattle.std.specs.Prelude.{length, ◌≡◌, ◌⊎◌, ℕ, ◌+◌, ◌-◌, ◌^◌, ◌<◌, ◌≤◌, min, List, [], ◌∷◌, ◌++◌, take, Bool, true, false, Option, Some, None, option_map, IsSome, IsNone, IfSome, Ok, Err, All, Any}
use Rattle.std.specs.Ordering.{nat_cmp}
use Rattle.std.specs.Cmp.Lexicographic.{slice_cmp}
use Rattle.std.specs.FinMap as map
use Rattle.std.specs.List.{list_all, AllZip}
use Rattle.dwc_base.specs.declared.records.Endian.{Endian}
use Rattle.dwc_base.specs.declared.section_name.SectionName.{SectionName}
use Rattle.dwc_base.specs.Sections.{unreadable, unsupported}
use Rattle.dwc_base.specs.Wasm.{WasmModule}
use Rattle.dwc_base.specs.Outputs.{OutputSection}
use Rattle.dwc_rules.specs.Refusals.{Refusal, of_place, missing_file, long_function, long_range, bad_label, lacks_memory, unmapped_register, long_jump, far_memory, bad_path, of_frame}
use Rattle.dwc_native.specs.FrameRefusals.{bad_code_offset, bad_data_offset}
use Rattle.dwc_rules.specs.Carried.{Compilation}
use Rattle.dwc_carried.specs.Forests.{first_refusal, trees_made}
use Rattle.dwc_carried.specs.OutputCarried.{OutputCarried, widest}
use Rattle.dwc_output.specs.Versions.{are_short_in}
use Rattle.dwc_write.specs.SpelledOutput.{AreSpelled}
use Rattle.dwc_section.specs.Writers.{IsSound}
use Rattle.dwc_map.specs.MapFile.{map_of_bytes}
use Rattle.dwc_cli.specs.Calls.{Call, files_read, openings}
use Rattle.dwc_cli.specs.Inputs.{Paths, paths_of, all_paths, Input, all_files, wasm_modules, defined_counts, Loaded, loaded, compilation_of, shared_in, bad_map}
use Rattle.dwc_cli.specs.Printed.{printed, is_plain}

-- the files of a source, where it tells them: the bytes of each path
abbrev pub Files : Type 0
Files = map.FinMap (slice_cmp nat_cmp) (List ℕ)

-- a count of faults rose, or stands at its type's end
abbrev pub Rose : ℕ → ℕ → Type 0
Rose before now = min (before + 1) (2 ^ 64 - 1) ≤ now

-- The words name files that the source tells, and these are their bytes.
pub record Names (files : Option Files) (words : List (List ℕ)) (input : Input) : Type 0 where
  pub told : Files
  pub tells : files ≡ Some told
  pub paths : Paths
  pub are_paths : paths_of words ≡ Some paths
  pub bytes : AllZip (λ path bytes. map.get told path ≡ Some bytes) (all_paths paths) (all_files input)

-- The files that the words name were opened, each once and in order, and read to their ends. These are the bytes that were read, whatever the
-- source tells of its files.
pub record Reads (words : List (List ℕ)) (before now : List Call) (input : Input) : Type 0 where
  pub paths : Paths
  pub are_paths : paths_of words ≡ Some paths
  pub opened : openings now ≡ openings before ++ all_paths paths
  pub bytes : files_read now ≡ files_read before ++ all_files input
  pub all : length (all_files input) ≡ length (all_paths paths)

-- What was taken grew by these bytes, where the sink tells it.
abbrev pub Appended : Option (List ℕ) → Option (List ℕ) → List ℕ → Type 0
Appended before now text = IfSome before (λ w. now ≡ Some (w ++ text))

-- Whether no expression of a location list of what is made of a compilation is too long for the version that is asked for.
abbrev pub has_short_expressions : Compilation → Bool
has_short_expressions c = are_short_in c.version (trees_made c)

-- Nothing that is read of an input is refused, sections carry it, of which one text alone is printed, and no expression of a location list
-- is too long.
pub record CarryInput (input : Input) (sections : List OutputSection) : Type 0 where
  pub read : Loaded
  pub is_read : loaded input ≡ Some read
  pub accepted : first_refusal (compilation_of read) ≡ None
  pub plain : list_all is_plain sections ≡ true
  pub carried : OutputCarried (compilation_of read) sections
  pub short : has_short_expressions (compilation_of read) ≡ true

-- Sections are whole as a linker takes them: each has at most 2^31 - 1 bytes, in which the addends of its relocations stand; and they have no
-- byte but those that the spelling of some units needs.
pub record AreWhole (order : Endian) (sections : List OutputSection) : Type 0 where
  pub sound : All (IsSound order) sections
  pub spelled : AreSpelled order sections

-- 0: The printed sections carry the input that the words name, and are whole.
pub record Carries (input : Input) (before now : Option (List ℕ)) : Type 0 where
  pub sections : List OutputSection
  pub carry : CarryInput input sections
  pub whole : AreWhole (compilation_of carry.read).order sections
  pub written : Appended before now (printed sections)

-- a run that answers 0, of whatever input the words name
abbrev pub Succeeds : Option Files → List (List ℕ) → Option (List ℕ) → Option (List ℕ) → Type 0
Succeeds files words before now = (input : Input) → Names files words input → Carries input before now

-- the most bytes that are taken of one file
abbrev pub most_bytes : ℕ
most_bytes = 2 ^ 28

-- a status is one of some
abbrev pub IsOneOf : List ℕ → ℕ → Type 0
IsOneOf statuses status = Any (λ s. s ≡ status) statuses

-- 2: exactly where the words are not in the grammar, but for want of memory
pub record UsageCause (words : List (List ℕ)) (status : ℕ) : Type 0 where
  pub only : status ≡ 2 → IsNone (paths_of words)
  pub always : IsNone (paths_of words) → IsOneOf (2 ∷ 9 ∷ []) status

-- the source lacks a file that the words name
pub record LacksFile (files : Option Files) (words : List (List ℕ)) : Type 0 where
  pub told : Files
  pub tells : files ≡ Some told
  pub paths : Paths
  pub are_paths : paths_of words ≡ Some paths
  pub lacks : Any (λ path. map.get told path ≡ None) (all_paths paths)

-- a missing file ends the run
abbrev pub MissingCause : Option Files → List (List ℕ) → ℕ → Type 0
MissingCause files words status = LacksFile files words → IsOneOf (3 ∷ 4 ∷ 9 ∷ []) status

-- 4, of files that are told: exactly where one of them is too long, but for what comes earlier
abbrev pub IsTooLong : Input → Type 0
IsTooLong input = Any (λ bytes. most_bytes < length bytes) (all_files input)

-- 4 is exact, but for a failed read and want of memory
pub record LengthCause (input : Input) (status : ℕ) : Type 0 where
  pub only : status ≡ 4 → IsTooLong input
  pub always : IsTooLong input → IsOneOf (3 ∷ 4 ∷ 9 ∷ []) status

-- 5: exactly where a module is no wasm file, but for what comes earlier
pub record WasmCause (input : Input) (status : ℕ) : Type 0 where
  pub only : status ≡ 5 → (place : ℕ) × (wasm_modules input.modules ≡ Err place)
  pub always : (place : ℕ) → wasm_modules input.modules ≡ Err place → IsOneOf (3 ∷ 4 ∷ 5 ∷ 9 ∷ []) status

-- 6: exactly where the map has no value for the modules, which are read
abbrev pub HasNoMap : Input → Type 0
HasNoMap input = (ws : List WasmModule) × (wasm_modules input.modules ≡ Ok ws) × (map_of_bytes (defined_counts ws) input.map_bytes ≡ None)

-- 6 is exact, but for what comes earlier
pub record MapCause (input : Input) (status : ℕ) : Type 0 where
  pub only : status ≡ 6 → HasNoMap input
  pub always : HasNoMap input → IsOneOf (3 ∷ 4 ∷ 6 ∷ 9 ∷ []) status

-- 8: The same, where what was taken is a front of the printed text.
pub record FrontCarries (input : Input) (before now : Option (List ℕ)) : Type 0 where
  pub sections : List OutputSection
  pub carry : CarryInput input sections
  pub whole : AreWhole (compilation_of carry.read).order sections
  pub count : ℕ
  pub written : Appended before now (take count (printed sections))

-- a run that answers 8, of whatever input the words name
abbrev pub PrefixWritten : Option Files → List (List ℕ) → Option (List ℕ) → Option (List ℕ) → Type 0
PrefixWritten files words before now = (input : Input) → Names files words input → FrontCarries input before now

-- 21: exactly where two functions have one symbol, but for what comes earlier
pub record SharedCause (read : Loaded) (status : ℕ) : Type 0 where
  pub only : status ≡ 21 → IsSome (shared_in read)
  pub always : IsSome (shared_in read) → IsOneOf (3 ∷ 4 ∷ 9 ∷ 21 ∷ []) status

-- 13: exactly where an address map is bad, but for what comes earlier
pub record AddressMapCause (read : Loaded) (status : ℕ) : Type 0 where
  pub only : status ≡ 13 → IsSome (bad_map read)
  pub always : IsSome (bad_map read) → IsOneOf (3 ∷ 4 ∷ 9 ∷ 13 ∷ 21 ∷ []) status

-- the status of a refusal: of a place that is outside the grammar, of one of a refused kind, of a missing file, of a function that is too
-- long, of a range that ends at no address; and of an expression: of a label with a range that begins above its end, of a module that lacks
-- a memory, of a register without a number, and of a jump that goes too far; of a memory too far behind in its context; of a path of the
-- simulated unit that names no file; and of the frame description of a function, for its code offsets or for a factored offset
abbrev pub refusal_status : Refusal → ℕ
refusal_status (of_place (unreadable what section offset)) = 10
refusal_status (of_place (unsupported kind offset)) = 11
refusal_status (missing_file offset) = 12
refusal_status long_function = 20
refusal_status long_range = 20
refusal_status (bad_label label) = 14
refusal_status (lacks_memory m) = 15
refusal_status (unmapped_register register) = 16
refusal_status long_jump = 20
refusal_status far_memory = 20
refusal_status bad_path = 19
refusal_status (of_frame (bad_code_offset f)) = 17
refusal_status (of_frame (bad_data_offset f)) = 18

-- the statuses of what is refused in reading, but for 20
abbrev pub refusal_statuses : List ℕ
refusal_statuses = 10 ∷ 11 ∷ 12 ∷ 14 ∷ 15 ∷ 16 ∷ 17 ∷ 18 ∷ 19 ∷ []

-- These: exactly where the first refusal in the order of reading is of that kind, but for what comes earlier.
pub record RefusalCause (read : Loaded) (status : ℕ) : Type 0 where
  pub only : IsOneOf refusal_statuses status → option_map refusal_status (first_refusal (compilation_of read)) ≡ Some status
  pub always : (r : Refusal) → first_refusal (compilation_of read) ≡ Some r → IsOneOf (3 ∷ 4 ∷ 9 ∷ 13 ∷ 21 ∷ refusal_status r ∷ []) status

-- what is made of a compilation passes a limit: a section could be longer than 2 ^ 31 - 1 bytes, or an expression of a location list is
-- too long
abbrev pub PassesLimit : Compilation → Type 0
PassesLimit c = ((name : SectionName) × (2 ^ 31 ≤ widest name c)) ⊎ (has_short_expressions c ≡ false)

-- 20: only where the first refusal is of that status; or where nothing is refused, and a limit is passed
abbrev pub TooLargeCause : Loaded → ℕ → Type 0
TooLargeCause read status =
    status ≡ 20 → (option_map refusal_status (first_refusal (compilation_of read)) ≡ Some 20) ⊎ ((first_refusal (compilation_of read) ≡ None) × PassesLimit (compilation_of read))

-- what is said of an input that was read, whatever the status
pub record LoadedCauses (read : Loaded) (status : ℕ) : Type 0 where
  pub shared : SharedCause read status
  pub address_map : AddressMapCause read status
  pub refused : RefusalCause read status
  pub too_large : TooLargeCause read status

-- what is said of an input that the words name
pub record NamedCauses (input : Input) (status : ℕ) : Type 0 where
  pub too_long : LengthCause input status
  pub wasm : WasmCause input status
  pub map_file : MapCause input status
  pub is_loaded : (read : Loaded) → loaded input ≡ Some read → LoadedCauses read status

-- what is said of whatever input the words name
abbrev pub InputCauses : Option Files → List (List ℕ) → ℕ → Type 0
InputCauses files words status = (input : Input) → Names files words input → NamedCauses input status

-- a run answers one of these
abbrev pub run_statuses : List ℕ
run_statuses = 0 ∷ 2 ∷ 3 ∷ 4 ∷ 5 ∷ 6 ∷ 8 ∷ 9 ∷ 10 ∷ 11 ∷ 12 ∷ 13 ∷ 14 ∷ 15 ∷ 16 ∷ 17 ∷ 18 ∷ 19 ∷ 20 ∷ 21 ∷ []

-- and nothing else
abbrev pub IsStatus : ℕ → Type 0
IsStatus status = IsOneOf run_statuses status

-- Where all is well, a run answers 0, or 9 for want of memory.
pub record IsValid (read : Loaded) : Type 0 where
  pub distinct : shared_in read ≡ None
  pub maps : bad_map read ≡ None
  pub accepted : first_refusal (compilation_of read) ≡ None
  pub small : (name : SectionName) → widest name (compilation_of read) < 2 ^ 31
  pub short : has_short_expressions (compilation_of read) ≡ true

-- an input is valid and not too long, and nothing failed: the counts of faults did not rise
pub record IsWell (input : Input) (read_before read_now write_before write_now : ℕ) : Type 0 where
  pub read : Loaded
  pub is_read : loaded input ≡ Some read
  pub short : All (λ bytes. length bytes ≤ most_bytes) (all_files input)
  pub reads : Rose read_before read_now → ⊥
  pub writes : Rose write_before write_now → ⊥
  pub valid : IsValid read

-- the files that the words name are such, and nothing failed
pub record RunsWell (files : Option Files) (words : List (List ℕ)) (read_before read_now write_before write_now : ℕ) : Type 0 where
  pub input : Input
  pub named : Names files words input
  pub well : IsWell input read_before read_now write_before write_now

-- What is said of the input that was read: the printed sections carry it, or its causes.
pub record SaysOfInput (input : Input) (status : ℕ) (before now : Option (List ℕ)) (read_before read_now write_before write_now : ℕ) : Type 0 where
  pub carried : status ≡ 0 → Carries input before now
  pub front : status ≡ 8 → FrontCarries input before now
  pub causes : NamedCauses input status
  pub complete : IsWell input read_before read_now write_before write_now → IsOneOf (0 ∷ 9 ∷ []) status

-- the statuses of a run that ends before its files are read, and of want of memory
abbrev pub early_statuses : List ℕ
early_statuses = 2 ∷ 3 ∷ 4 ∷ 9 ∷ []

-- with any other status all files that the words name were read to their ends
abbrev pub ReadsAll : List (List ℕ) → ℕ → List Call → List Call → Type 0
ReadsAll words status before now = (IsOneOf early_statuses status → ⊥) → (input : Input) × Reads words before now input

-- what is said of whatever input was read
abbrev pub SaysOfRead : List (List ℕ) → ℕ → List Call → List Call → Option (List ℕ) → Option (List ℕ) → ℕ → ℕ → ℕ → ℕ → Type 0
SaysOfRead words status asked_before asked_now before now read_before read_now write_before write_now =
    (input : Input) → Reads words asked_before asked_now input → SaysOfInput input status before now read_before read_now write_before write_now
