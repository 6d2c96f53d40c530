-- What is made of an entry that is not wrapped.
use Rattle.std.specs.Prelude.{◌≡◌, ◌==◌, ℕ, List, [], ◌∷◌, ◌++◌, take, filter_map, Option, Result, Ok, Err}
use Rattle.dwc_base.specs.declared.constants.TheConstants.{DW_TAG_compile_unit}
use Rattle.dwc_dwarf.specs.Entries.{Entry}
use Rattle.dwc_rules.specs.Kept.{Placed}
use Rattle.dwc_dwarf.specs.Lists.{list_source}
use Rattle.dwc_rules.specs.RangeAttributes.{range_attributes, with_base}
use Rattle.dwc_dwarf.specs.Trees.{TreeValue}
use Rattle.dwc_rules.specs.Clones.{UnitSource, endianity, entry_refusals}
use Rattle.dwc_rules.specs.ContextVariable.{context_over}
use Rattle.dwc_rules.specs.Drafts.{Goal}
use Rattle.dwc_rules.specs.DraftForests.{settled}
use Rattle.dwc_isa.specs.Registers.{Registers}
use Rattle.dwc_unit.specs.declared.units.UnitEntryId.{UnitEntryId}
use Rattle.dwc_unit.specs.GivenUnits.{Addition, GivenUnit}
use Rattle.dwc_clone.specs.declared.entry.PlacedEntry.{PlacedEntry}
use Rattle.dwc_source.specs.declared.error.CloneError.{CloneError}
use Rattle.dwc_source.specs.declared.source.CloneSource.{CloneSource}
use Rattle.dwc_source.specs.Errors.{refusal_told}
use Rattle.dwc_source.specs.MadeValues.{Grows}
use Rattle.dwc_clone.specs.ClonedUnits.{TellsFirst}
use Rattle.dwc_extents.specs.CodeSources.{clone_rules, source_with}
use Rattle.dwc_clone.specs.ClonedEntries.{IsGiven, values_wanted}
use Rattle.dwc_clone.specs.ContextPlaces.{HasVariable}
use Rattle.dwc_clone.specs.Tellings.{tell_of, telling_of}

-- what an entry is to say of where its code is, for the output of its module
abbrev pub code_said : CloneSource → Entry → List (ℕ × TreeValue)
code_said c e = with_base c.module.output_for (e.tag == DW_TAG_compile_unit) (range_attributes (list_source c.unit.now.sections c.unit.now.header) c.transform.now e)

-- What an entry is to say where goals are at some numbers: where its code is, its attributes as they are told, and its byte order.
abbrev pub values_whole : Registers → CloneSource → UnitSource → Placed → (Goal → Option (ℕ × ℕ)) → List (ℕ × TreeValue)
values_whole registers c s p goals =
    code_said c p.entry
    ++ values_wanted goals (tell_of (telling_of s.texts s.entries p) s.entries p) registers c s p [] p.entry.attributes
    ++ filter_map (settled goals) (endianity c.big_endian p)

-- An entry of which nothing is refused was given what it is to say, and has the variable of the context below it, where there is one; it
-- is then the last one of its depth.
pub record IsItself (goals : Goal → Option (ℕ × ℕ)) (registers : Registers) (c : CloneSource) (number : ℕ) (s : UnitSource) (p : Placed) (old new : List (List ℕ)) (parents path : List UnitEntryId) (placed : PlacedEntry) (base : GivenUnit) (e : Addition) (u : GivenUnit) : Type 0 where
  pub texts : List (List ℕ)
  pub middle : GivenUnit
  pub given : IsGiven number old texts (values_whole registers c s p goals) base e middle
  pub grows : Grows texts new
  pub variable : HasVariable (context_over (source_with registers c s) p) placed.id.index c.vmctx_ptr new middle u
  pub accepted : entry_refusals (clone_rules registers c s) s p ≡ []
  pub path_is : path ≡ take p.entry.depth parents ++ placed.id ∷ []

-- That, or the first refusal.
abbrev pub GivesItself : (Goal → Option (ℕ × ℕ)) → Registers → CloneSource → ℕ → UnitSource → Placed → List (List ℕ) → List (List ℕ) → List UnitEntryId → List UnitEntryId → PlacedEntry → GivenUnit → Addition → GivenUnit → Result (Unit {0}) CloneError → Type 0
GivesItself goals registers c number s p old new parents path placed base e u (Ok done) = IsItself goals registers c number s p old new parents path placed base e u
GivesItself goals registers c number s p old new parents path placed base e u (Err error) = TellsFirst (entry_refusals (clone_rules registers c s) s p) (refusal_told error)
