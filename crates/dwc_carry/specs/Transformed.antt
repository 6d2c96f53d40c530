-- The answers of transforming the DWARF of a compilation.
use Rattle.std.specs.Prelude.{◌≡◌, ℕ, List, map, Bool, if◌then◌else◌, None, Result, Ok, Err, Vec, All}
use Rattle.std.specs.Global.{Global}
use Rattle.std.specs.List.{list_any}
use Rattle.dwc_base.specs.declared.records.Endian.{Endian}
use Rattle.dwc_base.specs.declared.faults.Limit.TheVariants.{Addend}
use Rattle.dwc_native.specs.Functions.{Function}
use Rattle.dwc_native.specs.Addends.{is_long}
use Rattle.dwc_rules.specs.Carried.{Compilation}
use Rattle.dwc_dwarf.specs.ReadUnits.{units}
use Rattle.dwc_isa.specs.Registers.{Registers}
use Rattle.dwc_addr.specs.declared.transform.AddressTransform.{AddressTransform}
use Rattle.dwc_addr.specs.Compilations.{CompilationValue}
use Rattle.dwc_unit.specs.declared.units.Dwarf.{Dwarf}
use Rattle.dwc_carried.specs.Forests.{wanted_units, trees_made, forest}
use Rattle.dwc_dwarf.specs.TreeLaws.{HasAllTargets}
use Rattle.dwc_unit.specs.UsedTexts.{HaveTexts}
use Rattle.dwc_unit.specs.GivenTrees.{given_trees}
use Rattle.dwc_unit.specs.Renumbered.{place_at}
use Rattle.dwc_unit.specs.GivenUnits.{GivenUnit, ordered}
use Rattle.dwc_carry.specs.declared.error.DebugError.{DebugError}
use Rattle.dwc_carry.specs.declared.error.DebugError.TheVariants.{TooLarge}
use Rattle.dwc_carry.specs.Refusals.{GivesOr}
use Rattle.dwc_carry.specs.Inputs.{encoding_of, functions_from, input_of, maps_refusal, refusal_of}
use Rattle.dwc_carry.specs.MadeUnits.{AreMadeOf}

-- the transforms of all modules, or the refusal of the first bad map
abbrev pub GivesTransforms : CompilationValue → Result (Vec AddressTransform Global) DebugError → Type 0
GivesTransforms c result = GivesOr (λ (ts : Vec AddressTransform Global). ts.items ≡ functions_from c.tunables.output_for 0 c.translations c.functions) (maps_refusal c) result

-- whether a function of some modules is too long
abbrev pub have_long : List (List Function) → Bool
have_long fss = list_any (list_any is_long) fss

-- a function that is too long is refused
abbrev pub lengths_checked : List (List Function) → Result (Prim.Unit {0}) DebugError
lengths_checked fss = if have_long fss then Err (TooLarge Addend) else Ok tt

-- Units that are made as they are wanted for an input, whose modules are read to their ends, and that say the trees of its forest with
-- a table of texts, which has all that they name.
pub record IsTransformed (c : Compilation) (table : List (List ℕ)) (us : List GivenUnit) : Type 0 where
  pub made : AreMadeOf (place_at us) (encoding_of c) table 0 (wanted_units c) (trees_made c) us
  pub whole : All (λ m. (units m.sections).fault ≡ None) c.modules
  pub texts : HaveTexts table (map ordered us)
  pub trees : forest c ≡ Ok (given_trees table (map ordered us))
  pub targets : HasAllTargets (given_trees table (map ordered us))

-- The units and the texts that they name, or a refusal; frames have no part in them.
abbrev pub GivesDwarf : Endian → ℕ → Registers → CompilationValue → Result Dwarf DebugError → Type 0
GivesDwarf order size registers c result = GivesOr (λ (d : Dwarf). IsTransformed (input_of order size registers None c) d.strings d.units.units.items) (refusal_of order size registers None c) result
