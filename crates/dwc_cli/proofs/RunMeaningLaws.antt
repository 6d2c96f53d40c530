-- What is printed of an input means what it does.
use Rattle.std.proofs.Common.{◌≡◌, ◌⊎◌, inl, inr, ℕ, List, Option}
use Rattle.dwc_carry.proofs.Meaning.EmitMeanings.{output-means}
use Rattle.dwc_carry.specs.MeaningsCarried.{OutputMeans}
use Rattle.dwc_cli.specs.Calls.{Call}
use Rattle.dwc_cli.specs.Inputs.{Input, compilation_of}
use Rattle.dwc_cli.specs.RunStatus.{Files, Names, Reads, Carries, Succeeds, SaysOfRead}
use Rattle.dwc_cli.specs.RunMeanings.{PrintsMeant, RunMeans}
use Rattle.dwc_cli.proofs.ToldBounds.{told-bounded}

carries-mean : (input : Input) (before now : Option (List ℕ)) → Carries input before now → PrintsMeant input before now
carries-mean input before now k =
    let meant : OutputMeans (compilation_of k.carry.read) k.sections = output-means (compilation_of k.carry.read) k.sections k.carry.carried in
    record {
      sections = k.sections;
      read = k.carry.read;
      is_read = k.carry.is_read;
      written = k.written;
      said = meant.said;
      trees = meant.trees;
      means = meant.means (told-bounded input k.carry.read k.carry.is_read);
    }

-- of a run that ends well
pub run-means : (files : Option Files) (words : List (List ℕ)) (asked_before asked_now : List Call) (before now : Option (List ℕ)) (status read_before read_now write_before write_now : ℕ) → status ≡ 0 → Succeeds files words before now
    → SaysOfRead words status asked_before asked_now before now read_before read_now write_before write_now → RunMeans files words asked_before asked_now before now
run-means files words asked_before asked_now before now status read_before read_now write_before write_now zero named read = λ input how. go input how
  where
    go : (input : Input) → Names files words input ⊎ Reads words asked_before asked_now input → PrintsMeant input before now
    go input (inl names) = carries-mean input before now (named input names)
    go input (inr reads) = carries-mean input before now ((read input reads).carried zero)
