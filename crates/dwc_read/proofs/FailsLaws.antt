-- Readers that take memory: where one part fails, so does the whole.
use Rattle.std.proofs.Common.{◌≡◌, ℕ, Option, Some, None, Result, Err}
use Rattle.dwc_base.specs.declared.faults.Flaw.{Flaw}
use Rattle.dwc_base.specs.declared.faults.NotRead.{NotRead}
use Rattle.dwc_base.specs.declared.faults.NotRead.TheVariants.{OutOfMemory, Flawed}
use Rattle.dwc_base.specs.Reading.{Read}
use Rattle.dwc_base.specs.Cursors.{Fails}
use Rattle.dwc_base.specs.declared.section_name.SectionName.{SectionName}
use Rattle.dwc_base.specs.declared.faults.What.{What}
use Rattle.dwc_base.specs.Sections.{Fault, fault_of}
use Rattle.dwc_read.specs.Faults.{Refuses, fault_not_read}

-- An error of a part is one of the whole where each flaw of the part is a flaw of the whole.
pub Fails-whole : {A B : Type 0} (e : NotRead) (part : Read A) (whole : Read B) → ((flaw : Flaw) → part ≡ Err flaw → whole ≡ Err flaw) → Fails e part → Fails e whole
Fails-whole OutOfMemory part whole along fails = tt
Fails-whole (Flawed flaw) part whole along fails = along flaw fails

-- The same of a reading whose faults are told by their place.
pub Refuses-whole : {A B : Type 0} (what : What) (section : SectionName) (offset : ℕ) (e : NotRead) (part : Read A) (whole : Result B Fault) → ((flaw : Flaw) → part ≡ Err flaw → whole ≡ Err (fault_of what section offset flaw)) → Fails e part → Refuses whole (fault_not_read what section offset e)
Refuses-whole what section offset OutOfMemory part whole along fails = tt
Refuses-whole what section offset (Flawed flaw) part whole along fails = along flaw fails

-- The same of two readings whose faults are told.
pub Refuses-along : {A B : Type 0} (o : Option Fault) (part : Result A Fault) (whole : Result B Fault) → ((fault : Fault) → part ≡ Err fault → whole ≡ Err fault) → Refuses part o → Refuses whole o
Refuses-along None part whole along refused = tt
Refuses-along (Some fault) part whole along refused = along fault refused
