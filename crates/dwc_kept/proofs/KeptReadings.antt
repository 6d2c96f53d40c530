-- What is kept of all units of a section is what is kept of a module.
use Rattle.std.proofs.Common.{◌≡◌, List, subst, Result, Ok, Err}
use Rattle.dwc_base.specs.Sections.{Sections}
use Rattle.dwc_base.specs.Units.{unit_headers}
use Rattle.dwc_rules.specs.EntryRules.{named_faults}
use Rattle.dwc_rules.specs.ReachedEntries.{info_faults}
use Rattle.dwc_base.specs.Listing.{first_of}
use Rattle.dwc_native.specs.Functions.{Function}
use Rattle.dwc_dwarf.specs.ReadUnits.{units}
use Rattle.dwc_read.specs.Views.{UnitsView}
use Rattle.dwc_read.specs.declared.fault.ReadFault.{ReadFault}
use Rattle.dwc_kept.specs.declared.kept_units.KeptModule.{KeptModule}
use Rattle.dwc_kept.specs.ReadEntries.{ReadsOrTells, headers_faults}
use Rattle.dwc_kept.specs.ReadUnits.{IsKeptAmong, IsKeptModule}

module _ (fs : List Function) (s : Sections) where
  all-kept : (m : KeptModule) → IsKeptAmong fs s (unit_headers s) m → IsKeptModule fs s m
  unfolding units
  all-kept m is = record { whole = is.whole; kept = is.kept; units = is.units; small = is.small }

  all-read : (r : Result KeptModule ReadFault) → ReadsOrTells (λ m. IsKeptAmong fs s (unit_headers s) m) (first_of (headers_faults (named_faults s) s (unit_headers s))) r → ReadsOrTells (λ m. IsKeptModule fs s m) (first_of (info_faults (named_faults s) s)) r
  unfolding info_faults
  all-read (Ok m) h = (h.0, all-kept m h.1)
  all-read (Err e) h = h

  pub keep-all : (v : UnitsView) (r : Result KeptModule ReadFault) → v ≡ record { sections = s; headers = unit_headers s }
      → ReadsOrTells (λ m. IsKeptAmong fs v.sections v.headers m) (first_of (headers_faults (named_faults v.sections) v.sections v.headers)) r → ReadsOrTells (λ m. IsKeptModule fs s m) (first_of (info_faults (named_faults s) s)) r
  keep-all v r is h = all-read r (subst (λ (u : UnitsView). ReadsOrTells (λ m. IsKeptAmong fs u.sections u.headers m) (first_of (headers_faults (named_faults u.sections) u.sections u.headers)) r) is h)
