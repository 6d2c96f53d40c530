-- What the edge of the program says of words, loaded files and written texts.
use Rattle.std.specs.Prelude.{◌≡◌, ℕ, ◌<◌, ◌≤◌, List, ◌++◌, map, take, length, string_bytes, Option, Some, IfSome, Result, Ok, Err}
use Rattle.std.specs.FinMap as finite
use Rattle.dwc_cli.specs.declared.loading.LoadError.{LoadError}
use Rattle.dwc_cli.specs.declared.loading.LoadError.TheVariants.{Read, TooLong, OutOfMemory}
use Rattle.dwc_cli.specs.declared.words.Paths.{Paths as NamedPaths}
use Rattle.dwc_cli.specs.Inputs.{Paths}
use Rattle.dwc_cli.specs.RunStatus.{Files, Appended, most_bytes}

-- the paths as bytes
abbrev pub paths_view : NamedPaths → Paths
paths_view p = record { map_path = p.map_path.now; module_paths = map string_bytes p.module_paths.now }

-- where the files are told, these are the bytes of the file at a path
abbrev pub IsFile : Option Files → List ℕ → List ℕ → Type 0
IsFile files path bytes = IfSome files (λ told. finite.get told path ≡ Some bytes)

-- a file that was read: its bytes are told so, and it is not too long
abbrev pub IsReadFile : Option Files → List ℕ → List ℕ → Type 0
IsReadFile files path bytes = IsFile files path bytes × (length bytes ≤ most_bytes)

-- where the files are told, the file at a path is longer than a run reads
abbrev pub IsLongFile : Option Files → List ℕ → Type 0
IsLongFile files path = IfSome files (λ told. (bytes : List ℕ) × (finite.get told path ≡ Some bytes) × (most_bytes < length bytes))

-- the status of a run in which the loading of a file answers so
abbrev pub load_status : {T : Type 0} → Result T LoadError → ℕ
load_status (Ok x) = 0
load_status (Err Read) = 3
load_status (Err TooLong) = 4
load_status (Err OutOfMemory) = 9

-- what was taken grew by a front of some text
abbrev pub AppendsFront : Option (List ℕ) → Option (List ℕ) → List ℕ → Type 0
AppendsFront before now text = (count : ℕ) × Appended before now (take count text)

-- What was held and a text behind it were taken, but for what is held now.
pub record Sends (before : Option (List ℕ)) (held : List ℕ) (now : Option (List ℕ)) (left text : List ℕ) : Type 0 where
  pub sent : List ℕ
  pub taken : Appended before now sent
  pub whole : sent ++ left ≡ held ++ text

-- A text was printed behind what was held. Where the sink failed, a front of both was taken.
abbrev pub Prints : {T E : Type 0} → Option (List ℕ) → List ℕ → Option (List ℕ) → List ℕ → List ℕ → Result T E → Type 0
Prints before held now left text (Ok x) = Sends before held now left text
Prints before held now left text (Err e) = AppendsFront before now (held ++ text)
