-- What a run prints means what its input does.
use Rattle.std.specs.Prelude.{◌≡◌, ◌⊎◌, ℕ, List, Option, Some}
use Rattle.dwc_base.specs.Outputs.{OutputSection}
use Rattle.dwc_dwarf.specs.Trees.{Tree}
use Rattle.dwc_output.specs.TreeReading.{CarriesTrees}
use Rattle.dwc_carry.specs.MeaningsCarried.{MeaningsCarried}
use Rattle.dwc_cli.specs.Calls.{Call}
use Rattle.dwc_cli.specs.Inputs.{Input, Loaded, loaded, compilation_of}
use Rattle.dwc_cli.specs.Printed.{printed}
use Rattle.dwc_cli.specs.RunStatus.{Files, Names, Reads, Appended}

-- The trees that the printed sections say mean what an input does.
pub record PrintsMeant (input : Input) (before now : Option (List ℕ)) : Type 0 where
  pub sections : List OutputSection
  pub read : Loaded
  pub is_read : loaded input ≡ Some read
  pub written : Appended before now (printed sections)
  pub said : List Tree
  pub trees : CarriesTrees (compilation_of read).order said sections
  pub means : MeaningsCarried (compilation_of read) said

-- So it is of the input that the words name where the files are told, and of whatever input was read.
abbrev pub RunMeans : Option Files → List (List ℕ) → List Call → List Call → Option (List ℕ) → Option (List ℕ) → Type 0
RunMeans files words asked_before asked_now before now = (input : Input) → Names files words input ⊎ Reads words asked_before asked_now input → PrintsMeant input before now
