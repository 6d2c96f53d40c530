-- What cloning refuses of some entries is refused in the order of reading.
use Rattle.std.proofs.Common.{List, ap}
use Rattle.std.specs.Prelude.{option_map}
use Rattle.dwc_rules.specs.Refusals.{Refusal}
use Rattle.dwc_base.specs.Listing.{first_of}
use Rattle.dwc_source.specs.declared.error.CloneError.{CloneError}
use Rattle.dwc_source.specs.declared.error.CloneError.TheVariants as clone
use Rattle.dwc_clone.specs.ClonedUnits.{TellsFirst}
use Rattle.dwc_source.specs.Errors.{refusal_told}
use Rattle.dwc_carry.specs.Refusals.{in_reading, of_cloning, RefusesReading}

pub clone-told : (refusals : List Refusal) (e : CloneError) → TellsFirst refusals (refusal_told e) → RefusesReading (first_of refusals) (of_cloning e)
clone-told refusals (clone.Read what section offset) h = ap (option_map in_reading) h
clone-told refusals (clone.Unsupported kind offset) h = ap (option_map in_reading) h
clone-told refusals clone.LongRange h = ap (option_map in_reading) h
clone-told refusals (clone.BadLabelRange label) h = ap (option_map in_reading) h
clone-told refusals (clone.InvalidAttributeValue m) h = ap (option_map in_reading) h
clone-told refusals (clone.UnmappedRegister register) h = ap (option_map in_reading) h
clone-told refusals clone.LongJump h = ap (option_map in_reading) h
clone-told refusals clone.OutOfMemory h = tt
