-- What the parts of a run say of its input and its status.
use Rattle.std.specs.Prelude.{◌≡◌, ◌⊎◌, ℕ, List, [], ◌∷◌, map, true, Option, Some, None, option_map, Result, Ok, Err, Any, Vec}
use Rattle.std.specs.Global.{Global}
use Rattle.std.specs.List.{list_all, AllZip}
use Rattle.dwc_base.specs.declared.output.DwarfSection.{DwarfSection}
use Rattle.dwc_base.specs.declared.translation.ModuleTranslation.{ModuleTranslation}
use Rattle.dwc_base.specs.Outputs.{OutputSection, section_view}
use Rattle.dwc_rules.specs.Refusals.{Refusal}
use Rattle.dwc_carried.specs.Forests.{first_refusal}
use Rattle.dwc_carried.specs.OutputCarried.{OutputCarried}
use Rattle.dwc_base.specs.Wasm.{WasmModule}
use Rattle.dwc_base.specs.Translations.{IsWholeTranslation}
use Rattle.dwc_carry.specs.declared.emit.CarriedDwarf.{CarriedDwarf}
use Rattle.dwc_carry.specs.declared.error.DebugError.{DebugError}
use Rattle.dwc_carry.specs.Emits.{Writes}
use Rattle.dwc_cli.specs.declared.failure.Failure.{Failure}
use Rattle.dwc_map.specs.declared.map_file.MapFile.{MapFile}
use Rattle.dwc_cli.specs.declared.input_files.InputFiles.{InputFiles}
use Rattle.dwc_map.specs.MapFile.{map_in_bytes}
use Rattle.dwc_map.specs.MapViews.{map_file_view}
use Rattle.dwc_cli.specs.Inputs.{Paths, all_paths, Input, all_files, wasm_modules, Loaded, loaded, compilation_of, shared_in, BadMap, bad_map}
use Rattle.dwc_cli.specs.Printed.{printed, is_plain, is_line}
use Rattle.dwc_cli.specs.RunStatus.{AreWhole, Files, Rose, Appended, IsOneOf, WasmCause, MapCause, refusal_status, PassesLimit, has_short_expressions, LoadedCauses, IsValid}
use Rattle.dwc_cli.specs.Calls.{Call, last_opened}
use Rattle.dwc_cli.specs.Edge.{IsReadFile}
use Rattle.dwc_cli.specs.Failures.{failure_status, carrying_status, usage_message, fault_message, length_message, write_message, failure_message, line_of}

-- the status of a run in which a part answers so
abbrev pub status_of : {T : Type 0} → Result T Failure → ℕ
status_of (Ok x) = 0
status_of (Err failure) = failure_status failure

-- the message of a run in which a part answers so
abbrev pub message_of : {T : Type 0} → Result T Failure → List ℕ
message_of (Ok x) = []
message_of (Err failure) = failure_message failure

-- what is held of the files of an input: the map that its map's bytes are, if they are one, and the bytes of its modules
pub record IsInputOf (files : InputFiles) (input : Input) : Type 0 where
  pub map_is : option_map map_file_view files.map_file ≡ map_in_bytes input.map_bytes
  pub modules : map (λ m. m.items) files.modules.items ≡ input.modules

-- where the files are told, these are the bytes of those that the words name, and none is too long
abbrev pub IsInput : Option Files → Paths → Input → Type 0
IsInput files paths input = AllZip (IsReadFile files) (all_paths paths) (all_files input)

-- why some files have no translations, by the status: for want of memory, or as one of them breaks its grammar
abbrev pub IsBroken : List (List ℕ) → ℕ → Type 0
IsBroken files status = (status ≡ 9) ⊎ ((status ≡ 5) × ((place : ℕ) × (wasm_modules files ≡ Err place)))

-- translations of some files are those of the modules that the files are
abbrev pub TranslatesFiles : List (List ℕ) → Result (Vec ModuleTranslation Global) Failure → Type 0
TranslatesFiles files (Ok ts) = (ws : List WasmModule) × (wasm_modules files ≡ Ok ws) × AllZip IsWholeTranslation ts.items ws
TranslatesFiles files (Err failure) = IsBroken files (failure_status failure)

-- what was read of the modules and of the map
pub record IsReadAs (translations : List ModuleTranslation) (map_file : MapFile) (read : Loaded) : Type 0 where
  pub wasm : AllZip IsWholeTranslation translations read.wasm
  pub map_is : map_file_view map_file ≡ read.map_file

-- the status of the first hindrance in the order of work: a shared symbol, a bad address map, and what is refused in reading
abbrev pub first_status : Option (ℕ × ℕ) → Option BadMap → Option Refusal → Option ℕ
first_status (Some functions) bad refusal = Some 21
first_status None (Some found) refusal = Some 13
first_status None None (Some r) = Some (refusal_status r)
first_status None None None = None

-- what hinders the lines of an input from being carried, by its status; limits of what is made apart
abbrev pub hindrance : Loaded → Option ℕ
hindrance read = first_status (shared_in read) (bad_map read) (first_refusal (compilation_of read))

-- whole sections that carry an input, which nothing hinders, and of which no expression of a location list is too long
pub record IsEmitted (read : Loaded) (sections : List OutputSection) : Type 0 where
  pub unhindered : hindrance read ≡ None
  pub carried : OutputCarried (compilation_of read) sections
  pub short : has_short_expressions (compilation_of read) ≡ true
  pub whole : AreWhole (compilation_of read).order sections

-- why no sections are emitted, by the status: for want of memory, by a hindrance, or for a limit that is passed
abbrev pub IsCause : Loaded → ℕ → Type 0
IsCause read status = (status ≡ 9) ⊎ ((hindrance read ≡ Some status) ⊎ ((status ≡ 20) × (hindrance read ≡ None) × PassesLimit (compilation_of read)))

-- the sections of what was read, or the cause of a refusal
abbrev pub Emits : Loaded → Result (Vec DwarfSection Global) DebugError → Type 0
Emits read (Ok sections) = IsEmitted read (map section_view sections.items)
Emits read (Err e) = IsCause read (carrying_status e)

-- what is carried of what was read: whatever its writing answers, its sections are of it; or the cause of a refusal
abbrev pub Carries : Loaded → Result CarriedDwarf Failure → Type 0
Carries read (Ok carried) = (written : Result (Vec DwarfSection Global) DebugError) → Writes carried written → Emits read written
Carries read (Err failure) = IsCause read (failure_status failure)

-- the text of what was read: the printed sections carry all its lines
pub record CarriesRead (read : Loaded) (text : List ℕ) : Type 0 where
  pub accepted : first_refusal (compilation_of read) ≡ None
  pub sections : List OutputSection
  pub plain : list_all is_plain sections ≡ true
  pub carried : OutputCarried (compilation_of read) sections
  pub short : has_short_expressions (compilation_of read) ≡ true
  pub whole : AreWhole (compilation_of read).order sections
  pub text_is : text ≡ printed sections

-- the text of an input
pub record CarriesText (input : Input) (text : List ℕ) : Type 0 where
  pub read : Loaded
  pub is_read : loaded input ≡ Some read
  pub carries : CarriesRead read text

-- the statuses of a run whose files cannot be read, and of one whose input has no text
abbrev pub reading_statuses : List ℕ
reading_statuses = 3 ∷ 4 ∷ 9 ∷ []

abbrev pub text_statuses : List ℕ
text_statuses = 5 ∷ 6 ∷ 9 ∷ 10 ∷ 11 ∷ 12 ∷ 13 ∷ 14 ∷ 15 ∷ 16 ∷ 17 ∷ 18 ∷ 19 ∷ 20 ∷ 21 ∷ []

abbrev pub IsReadingStatus : ℕ → Type 0
IsReadingStatus status = IsOneOf reading_statuses status

abbrev pub IsTextStatus : ℕ → Type 0
IsTextStatus status = IsOneOf text_statuses status

-- what is said of an input by the status of its text
pub record TextCauses (input : Input) (status : ℕ) : Type 0 where
  pub wasm : WasmCause input status
  pub map_file : MapCause input status
  pub is_loaded : (read : Loaded) → loaded input ≡ Some read → LoadedCauses read status

-- where all is well with what was read, its text is made, but for want of memory
abbrev pub GivesReadText : Loaded → ℕ → Type 0
GivesReadText read status = IsValid read → IsOneOf (0 ∷ 9 ∷ []) status

-- where all is well with an input, its text is made, but for want of memory
abbrev pub GivesText : Input → ℕ → Type 0
GivesText input status = (read : Loaded) → loaded input ≡ Some read → GivesReadText read status

-- a line of the program's own, with this message, was appended, unless the sink failed
abbrev pub Tells : ℕ → ℕ → Option (List ℕ) → Option (List ℕ) → List ℕ → Type 0
Tells faults_before faults_now before now message = Rose faults_before faults_now ⊎ Appended before now (line_of message)

-- The message of a run by its status: of wrong words, of a file by its path, which is one of the words and the one that was opened last, and of
-- the text. Those of a refused input and of want of memory are open, but that they have no line feed: only a path may have one.
pub record IsMessage (words : List (List ℕ)) (asked : List Call) (status : ℕ) (message : List ℕ) : Type 0 where
  pub usage : status ≡ 2 → message ≡ usage_message
  pub fault : status ≡ 3 → Any (λ path. message ≡ fault_message path) words
  pub too_long : status ≡ 4 → Any (λ path. message ≡ length_message path) words
  pub fault_named : status ≡ 3 → option_map fault_message (last_opened asked) ≡ Some message
  pub length_named : status ≡ 4 → option_map length_message (last_opened asked) ≡ Some message
  pub write : status ≡ 8 → message ≡ write_message
  pub line : (status ≡ 3 → ⊥) → (status ≡ 4 → ⊥) → is_line message ≡ true

-- one line with such a message was appended, unless the sink failed
abbrev pub Complains : List (List ℕ) → List Call → ℕ → ℕ → ℕ → Option (List ℕ) → Option (List ℕ) → Type 0
Complains words asked status faults_before faults_now before now = (message : List ℕ) × IsMessage words asked status message × Tells faults_before faults_now before now message
