-- The numbers of statuses, and what the line of a failure says.
use Rattle.std.specs.Prelude.{◌≡◌, ℕ, List, ◌++◌, true, codes}
use Rattle.dwc_wasm.specs.declared.split.WasmFault.{WasmFault}
use Rattle.dwc_wasm.specs.declared.split.WasmFault.TheVariants as wasm
use Rattle.dwc_wasm.specs.declared.split.WasmFault.TheVariants.{Malformed}
use Rattle.dwc_addr.specs.declared.compilation_error.CompilationError.{CompilationError}
use Rattle.dwc_addr.specs.declared.compilation_error.CompilationError.TheVariants as compiling
use Rattle.dwc_carry.specs.declared.error.DebugError.{DebugError}
use Rattle.dwc_carry.specs.Refusals.{InputRefusal, bad_address_map, in_reading, Told, refused, limit, memory, told}
use Rattle.dwc_cli.specs.declared.status.Status.{Status}
use Rattle.dwc_cli.specs.declared.status.Status.TheVariants as statuses
use Rattle.dwc_cli.specs.declared.failure.Failure.{Failure}
use Rattle.dwc_cli.specs.declared.failure.Failure.TheVariants.{Usage, ReadFault, TooLong, MalformedMap, WriteFault, OutOfMemory, Refused}
use Rattle.dwc_cli.specs.RunStatus.{refusal_status}
use Rattle.dwc_cli.specs.Printed.{line_feed, is_line}

abbrev pub status_code : Status → ℕ
status_code statuses.Done = 0
status_code statuses.Usage = 2
status_code statuses.ReadFault = 3
status_code statuses.TooLong = 4
status_code statuses.MalformedWasm = 5
status_code statuses.MalformedMap = 6
status_code statuses.WriteFault = 8
status_code statuses.OutOfMemory = 9
status_code statuses.Read = 10
status_code statuses.Unsupported = 11
status_code statuses.InvalidFileIndex = 12
status_code statuses.BadAddressMap = 13
status_code statuses.BadLabelRange = 14
status_code statuses.InvalidAttributeValue = 15
status_code statuses.UnmappedRegister = 16
status_code statuses.InvalidFrameCodeOffset = 17
status_code statuses.InvalidFrameDataOffset = 18
status_code statuses.Path = 19
status_code statuses.TooLarge = 20
status_code statuses.SharedSymbol = 21

-- the status of a run that ends with a failure
abbrev pub failure_status : Failure → ℕ
failure_status Usage = 2
failure_status (ReadFault path) = 3
failure_status (TooLong path) = 4
failure_status MalformedMap = 6
failure_status WriteFault = 8
failure_status OutOfMemory = 9
failure_status (Refused status refusal) = status_code status

-- the status of a run whose module is refused
abbrev pub wasm_status : WasmFault → ℕ
wasm_status (Malformed offset) = 5
wasm_status wasm.OutOfMemory = 9

-- the status of a run whose functions are not taken as one compilation
abbrev pub compiling_status : CompilationError → ℕ
compiling_status (compiling.SharedSymbol first second) = 21
compiling_status compiling.OutOfMemory = 9

-- the status of a run whose lines are not carried
abbrev pub input_status : InputRefusal → ℕ
input_status (bad_address_map m func why) = 13
input_status (in_reading r) = refusal_status r

abbrev pub told_status : Told → ℕ
told_status (refused r) = input_status r
told_status (limit what) = 20
told_status memory = 9

abbrev pub carrying_status : DebugError → ℕ
carrying_status e = told_status (told e)

-- a line of the program's own
abbrev pub line_of : List ℕ → List ℕ
line_of message = codes "dwarfcarry: " ++ message ++ line_feed

-- the messages of wrong words, of a file that cannot be read or is too long, by its path, and of a text that cannot be written
abbrev pub usage_message : List ℕ
usage_message = codes "usage: dwarfcarry [--package P] [--text] MAP MODULE... | --generate N"

abbrev pub fault_message : List ℕ → List ℕ
fault_message path = codes "read fault " ++ path

abbrev pub length_message : List ℕ → List ℕ
length_message path = codes "file too long " ++ path

abbrev pub write_message : List ℕ
write_message = codes "write fault"

-- the message of a failure
abbrev pub failure_message : Failure → List ℕ
failure_message Usage = usage_message
failure_message (ReadFault path) = fault_message path.now
failure_message (TooLong path) = length_message path.now
failure_message MalformedMap = codes "malformed map"
failure_message WriteFault = write_message
failure_message OutOfMemory = codes "out of memory"
failure_message (Refused status refusal) = refusal

-- the message of a failure has no line feed but inside a path
abbrev pub IsOnOneLine : Failure → Type 0
IsOnOneLine (ReadFault path) = Unit {0}
IsOnOneLine (TooLong path) = Unit {0}
IsOnOneLine Usage = is_line usage_message ≡ true
IsOnOneLine MalformedMap = is_line (failure_message MalformedMap) ≡ true
IsOnOneLine WriteFault = is_line write_message ≡ true
IsOnOneLine OutOfMemory = is_line (failure_message OutOfMemory) ≡ true
IsOnOneLine (Refused status refusal) = is_line refusal ≡ true
