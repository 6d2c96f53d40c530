-- What is answered for a module, from what is answered for its units.
use Rattle.std.proofs.Common.{◌≡◌, ℕ, List, [], ◌∷◌, ◌++◌, map, refl, ap, sym, ◌∙◌, subst, Bool, Some, None, Result, Ok, Err}
use Rattle.std.specs.Prelude.{option_map, option_to_list}
use Rattle.std.specs.List.{flat_map}
use Rattle.dwc_base.specs.declared.faults.Kind.TheVariants.{Compressed}
use Rattle.dwc_base.specs.declared.records.Encoding.{Encoding}
use Rattle.dwc_base.specs.Sections.{Fault, unsupported}
use Rattle.dwc_rules.specs.Carried.{Module}
use Rattle.dwc_dwarf.specs.ReadUnits.{units}
use Rattle.dwc_rules.specs.Refusals.{Refusal, of_place, unit_refusal}
use Rattle.dwc_base.specs.Listing.{first_of}
use Rattle.dwc_rules.specs.KeptModules.{kept_module, carried_in}
use Rattle.dwc_rules.specs.EntryRules.{named_faults}
use Rattle.dwc_rules.specs.ReachedEntries.{info_faults, unit_refusals}
use Rattle.dwc_rules.specs.ReachedEntries as Reached
use Rattle.dwc_carried.specs.Forests.{rules_of, reading_refusals}
use Rattle.dwc_rules.specs.CarriedUnits.{kept_of}
use Rattle.dwc_read.specs.declared.fault.ReadFault.{ReadFault}
use Rattle.dwc_read.specs.declared.fault.ReadFault.TheVariants as read
use Rattle.dwc_read.specs.Faults.{fault_seen}
use Rattle.dwc_kept.specs.ReadEntries.{TellsFirst}
use Rattle.dwc_unit.specs.declared.units.Dwarf.{Dwarf}
use Rattle.dwc_carry.specs.declared.error.DebugError.{DebugError}
use Rattle.dwc_carry.specs.declared.error.DebugError.TheVariants.{Unsupported}
use Rattle.dwc_carry.specs.Refusals.{in_reading, of_reading, RefusesReading}
use Rattle.dwc_carry.specs.CarriedUnits.{refusals_of, GivesUnits}
use Rattle.dwc_carry.specs.CarriedModules.{GivesCarried}

first-mapped : (faults : List Fault) (rest : List Refusal) (fault : Fault) → first_of faults ≡ Some fault → first_of (map of_place faults ++ rest) ≡ Some (of_place fault)
first-mapped [] rest fault h = absurd (cc)
first-mapped (x ∷ faults) rest fault h = ap (option_map of_place) h

-- what is told when a module is read
kept-told : (faults : List Fault) (rest : List Refusal) (e : ReadFault) → TellsFirst (first_of faults) (fault_seen e) → RefusesReading (first_of (map of_place faults ++ rest)) (of_reading e)
kept-told faults rest (read.Read what section offset) h = ap (option_map in_reading) (first-mapped faults rest _ h)
kept-told faults rest (read.Unsupported kind offset) h = ap (option_map in_reading) (first-mapped faults rest _ h)
kept-told faults rest read.OutOfMemory h = tt

none-mapped : (faults : List Fault) (rest : List Refusal) → first_of faults ≡ None → map of_place faults ++ rest ≡ rest
none-mapped [] rest h = refl
none-mapped (x ∷ faults) rest h = absurd (cc)

-- a compressed section is refused
pub compressed-refused : (m : Module) (offset : ℕ) → m.compressed ≡ Some offset → RefusesReading (first_of (reading_refusals m)) (Unsupported Compressed offset)
unfolding Reached.module_refusals kept_module
compressed-refused m offset h =
    ap (option_map in_reading) (ap (λ o. first_of (map of_place (option_to_list (option_map (unsupported Compressed) o) ++ info_faults (named_faults m.sections) m.sections) ++ flat_map (unit_refusals (unit_refusal m.sections) (rules_of m) (kept_of m)) (carried_in (kept_of m)))) h)

module _ (m : Module) (plain : m.compressed ≡ None) where
  refusals-plain : reading_refusals m ≡ map of_place (info_faults (named_faults m.sections) m.sections) ++ flat_map (refusals_of m) (carried_in (kept_of m))
  unfolding Reached.module_refusals kept_module
  refusals-plain =
      ap (λ o. map of_place (option_to_list (option_map (unsupported Compressed) o) ++ info_faults (named_faults m.sections) m.sections) ++ flat_map (unit_refusals (unit_refusal m.sections) (rules_of m) (kept_of m)) (carried_in (kept_of m))) plain

  -- where its entries cannot be read
  pub module-refused : (e : ReadFault) → TellsFirst (first_of (info_faults (named_faults m.sections) m.sections)) (fault_seen e) → RefusesReading (first_of (reading_refusals m)) (of_reading e)
  module-refused e h = subst (λ rs. RefusesReading (first_of rs) (of_reading e)) (sym refusals-plain) (kept-told (info_faults (named_faults m.sections) m.sections) (flat_map (refusals_of m) (carried_in (kept_of m))) e h)

  module _ (encoding : Encoding) (big_endian : Bool) (none : first_of (info_faults (named_faults m.sections) m.sections) ≡ None) (whole : (units m.sections).fault ≡ None) where
    refusals-are : reading_refusals m ≡ flat_map (refusals_of m) (carried_in (kept_of m))
    refusals-are = refusals-plain ∙ none-mapped (info_faults (named_faults m.sections) m.sections) (flat_map (refusals_of m) (carried_in (kept_of m))) none

    -- What is answered for its units is answered for it.
    pub module-gives : (synthetic : ℕ) (old new : Dwarf) (result : Result (Prim.Unit {0}) DebugError) → GivesUnits encoding big_endian m synthetic old new result → GivesCarried encoding big_endian m synthetic old new result
    module-gives synthetic old new (Ok done) h = (ap (λ (rs : List Refusal). option_map in_reading (first_of rs)) refusals-are ∙ h.0, record { units_added = h.1; whole = whole })
    module-gives synthetic old new (Err e) h = subst (λ rs. RefusesReading (first_of rs) e) (sym refusals-are) h
