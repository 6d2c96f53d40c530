-- What is answered for a carried unit, from what its line program and its cloned entries answer.
use Rattle.std.proofs.Common.{◌≡◌, refl, ℕ, List, [], ◌∷◌, ◌++◌, length, ap, sym, subst, ◌∙◌, Bool, Option, None, Result, Ok, Err}
use Rattle.std.specs.Prelude.{option_map}
use Rattle.dwc_base.specs.declared.records.Encoding.{Encoding}
use Rattle.dwc_dwarf.specs.Entries.{entries}
use Rattle.dwc_dwarf.specs.Indexed.{text_base}
use Rattle.dwc_rules.specs.Carried.{Module}
use Rattle.dwc_rules.specs.Clones.{UnitSource}
use Rattle.dwc_rules.specs.CarriedDrafts.{source_of}
use Rattle.dwc_rules.specs.CarriedUnits.{kept_of}
use Rattle.dwc_rules.specs.Refusals.{lines_refusal}
use Rattle.dwc_base.specs.Listing.{first_of}
use Rattle.dwc_isa.specs.Registers.{Registers}
use Rattle.dwc_kept.specs.declared.kept_units.KeptModule.{KeptModule}
use Rattle.dwc_kept.specs.ReadUnits.{unit_read}
use Rattle.dwc_source.specs.declared.error.CloneError.{CloneError}
use Rattle.dwc_source.specs.declared.source.CloneSource.{CloneSource}
use Rattle.dwc_source.specs.Sources.{AreEmitted, IsSource}
use Rattle.dwc_source.specs.CompiledModules.{told_by, HasFrames}
use Rattle.dwc_clone.specs.ClonedUnits.{picked, placed_in, AreClonable, GivesCloned}
use Rattle.dwc_extents.specs.Lineages.{AreWalked}
use Rattle.dwc_unit.specs.declared.units.Dwarf.{Dwarf}
use Rattle.dwc_unit.specs.declared.units.UnitId.{UnitId}
use Rattle.dwc_unit.specs.GivenUnits.{GivenUnit}
use Rattle.dwc_carry.specs.declared.last_lines.LastLines.{LastLines}
use Rattle.dwc_carry.specs.Refusals.{in_reading, of_cloning, RefusesReading}
use Rattle.dwc_carry.specs.UnitPrograms.{CarriesNamed}
use Rattle.dwc_carry.specs.LastLines.{IsLast, last_after}
use Rattle.dwc_carry.specs.CarriedUnits.{IsUnitOf, refusals_of, AddsUnit, CarriesUnit}
use Rattle.dwc_carry.specs.SyntheticUnits.{ReferToSynthetic}
use Rattle.dwc_carry.proofs.LastLaws.{last-carried}
use Rattle.dwc_carry.proofs.UnitSources.{read_of, unit-in, unit-is, no-fault, clonable, are-emitted, source-is}
use Rattle.dwc_carry.proofs.UnitMade.{entries-are, files-known, clone-refused, made-of, accepted}
use Rattle.dwc_carry.proofs.WalkLaws.{walked}

-- what cloning answers for the kept entries of a unit
abbrev pub AnswersCloned : Registers → CloneSource → List ℕ → List (List ℕ) → List (List ℕ) → GivenUnit → Result GivenUnit CloneError → Type 0
AnswersCloned registers k kept old new begun result =
    (number : ℕ) (s : UnitSource) → IsSource k number s → HasFrames k.module k.transform.now → (entries k.unit.now.sections k.unit.now.header).fault ≡ None → AreClonable (picked kept (entries k.unit.now.sections k.unit.now.header).items)
    → AreEmitted k s number (picked kept (entries k.unit.now.sections k.unit.now.header).items)
    → AreWalked s.entries (placed_in k.unit.now.header.offset (picked kept (entries k.unit.now.sections k.unit.now.header).items))
    → GivesCloned registers k number s (picked kept (entries k.unit.now.sections k.unit.now.header).items) old new begun result

module _ (encoding : Encoding) (registers : Registers) (k : CloneSource) (compile : Bool) (table : Option ℕ) (c : Module) (m : KeptModule) (first number : ℕ) (kept : List ℕ)
    (of : IsUnitOf encoding.version c k.transform.now (told_by registers k.module) m first number k.places.now kept (read_of k compile table)) (frames : HasFrames k.module k.transform.now) (old new : List (List ℕ)) (begun : GivenUnit)
    (carries : CarriesNamed k.transform.now k.unit.now.sections k.unit.now.header encoding table k.files begun.lines)
    (none : option_map in_reading (lines_refusal k.unit.now.sections k.unit.now.header table) ≡ None) (refers : ReferToSynthetic first c.told.memory k.vmctx_ptr k.wasm_ptr) where
  -- its kept entries are walked with their parents
  entries-walked : AreWalked (source_of (kept_of c) (unit_read c.sections k.unit.now.header)).entries (placed_in k.unit.now.header.offset (picked kept (entries k.unit.now.sections k.unit.now.header).items))
  unfolding source_of
  entries-walked =
      subst (AreWalked (kept_of c).entries) (sym (entries-are encoding registers k compile table c m first number kept of))
      (walked c m (of.module_is).is (read_of k compile table) (unit-in k compile table (told_by registers k.module) c m first number kept of))

  answered : (result : Result GivenUnit CloneError) → AnswersCloned registers k kept old new begun result
      → GivesCloned registers k number (source_of (kept_of c) (unit_read c.sections k.unit.now.header)) (picked kept (entries k.unit.now.sections k.unit.now.header).items) old new begun result
  answered result answers =
      answers number (source_of (kept_of c) (unit_read c.sections k.unit.now.header)) (source-is k compile table (told_by registers k.module) c m first number kept of refl refers (files-known encoding registers k compile table c m first number kept of begun.lines carries))
      frames (no-fault k compile table (told_by registers k.module) c m first number kept of) (clonable k compile table (told_by registers k.module) c m first number kept of)
      (are-emitted k compile table (told_by registers k.module) c m first number kept of) entries-walked

  -- an entry is refused
  pub entries-refused : (e : CloneError) → AnswersCloned registers k kept old new begun (Err e) → RefusesReading (first_of (refusals_of c (unit_read c.sections k.unit.now.header))) (of_cloning e)
  entries-refused e answers = clone-refused encoding registers k compile table c m first number kept of e none (answered (Err e) answers)

  -- the unit is added
  pub unit-added : (made : GivenUnit) (before after : Dwarf) (id : UnitId) (last behind : Option LastLines) → begun.version ≡ encoding.version → begun.address_size ≡ encoding.address_size → AnswersCloned registers k kept old new begun (Ok made)
      → number ≡ length before.units.units.items → old ≡ before.strings → new ≡ after.strings → after.units.units.items ≡ before.units.units.items ++ made ∷ [] → id.index ≡ length before.units.units.items
      → IsLast k.transform.now encoding k.unit.now.sections before.units.units.items last
      → behind ≡ last_after table k.unit.now.header.address_size (text_base k.unit.now.sections k.unit.now.header) k.files id last
      → (option_map in_reading (first_of (refusals_of c (unit_read c.sections k.unit.now.header))) ≡ None)
      × (AddsUnit encoding k.big_endian c first k.places.now (unit_read c.sections k.unit.now.header) before after × IsLast c.functions encoding c.sections after.units.units.items behind)
  unit-added made before after id last behind versioned sized answers at olds news added placed known next =
      let cloned = answered (Ok made) answers in
      let u = unit_read c.sections k.unit.now.header in
      let is = made-of encoding registers k compile table c m first number kept of old new begun made versioned sized carries refers cloned in (
        accepted encoding registers k compile table c m first number kept of old new begun made versioned sized carries refers cloned none,
        (
          record {
            made = made;
            added = added;
            grows = record { more = cloned.grows.more; is = sym news ∙ cloned.grows.is ∙ ap (λ xs. xs ++ cloned.grows.more) olds };
            is = subst (λ n. CarriesUnit encoding k.big_endian c first k.places.now after.strings n u made) at
                (subst (λ ts. CarriesUnit encoding k.big_endian c first k.places.now ts number u made) news is);
          },
          subst (λ us. IsLast c.functions encoding c.sections us behind) (sym added)
              (subst (λ s. IsLast c.functions encoding s (before.units.units.items ++ made ∷ []) behind) (unit-is k compile table (told_by registers k.module) c m first number kept of).sections
              (subst (λ fs. IsLast fs encoding k.unit.now.sections (before.units.units.items ++ made ∷ []) behind) (sym (of.module_is).functions)
              (subst (IsLast k.transform.now encoding k.unit.now.sections (before.units.units.items ++ made ∷ [])) (sym next)
              (last-carried k.transform.now encoding k.unit.now.sections before.units.units.items made id k.unit.now.header table k.files last placed (cloned.version ∙ versioned) (cloned.size ∙ sized) known
              (subst (CarriesNamed k.transform.now k.unit.now.sections k.unit.now.header encoding table k.files) (sym cloned.lines) carries))))),
        ),
      )
