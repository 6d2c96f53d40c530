-- What errors tell.
use Rattle.std.proofs.Common.{◌≡◌, refl}
use Rattle.std.specs.Prelude.{option_map, OnOk, Result, Ok, Err}
use Rattle.dwc_rules.specs.Refusals.{of_place}
use Rattle.dwc_read.specs.declared.fault.ReadFault.{ReadFault}
use Rattle.dwc_read.specs.declared.fault.ReadFault.TheVariants.{Read, Unsupported, OutOfMemory}
use Rattle.dwc_read.specs.Faults.{fault_seen}
use Rattle.dwc_source.specs.Errors.{of_reading, refusal_told}

-- The error of a reader's refusal tells the fault that was seen.
pub told-reading : (f : ReadFault) → refusal_told (of_reading f) ≡ option_map of_place (fault_seen f)
told-reading (Read what section offset) = refl
told-reading (Unsupported kind offset) = refl
told-reading OutOfMemory = refl

-- What holds in any case holds where a call succeeds.
pub always-ok : {A F P : Type 0} (r : Result A F) → P → OnOk r P
always-ok (Ok x) p = p
always-ok (Err e) p = tt
