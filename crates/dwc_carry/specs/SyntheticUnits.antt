-- The synthetic unit, which a module has of its own, added to those of the output.
use Rattle.std.specs.Prelude.{◌≡◌, ℕ, List, [], ◌∷◌, ◌++◌, length, slice_get, Option, Some, option_map, Result}
use Rattle.std.specs.Option.{unwrap_or}
use Rattle.dwc_base.specs.declared.records.Encoding.{Encoding}
use Rattle.dwc_rules.specs.Carried.{synthetic_unit}
use Rattle.dwc_native.specs.Compiled.{Memory, no_memory}
use Rattle.dwc_rules.specs.SyntheticUnit as Synthetic
use Rattle.dwc_rules.specs.SyntheticUnit.{place_of_context_pointer, place_of_wasm_pointer}
use Rattle.dwc_rules.specs.DraftForests.{place_of_goal, settled_unit}
use Rattle.dwc_carried.specs.Forests.{synthetic_refusals}
use Rattle.dwc_base.specs.Listing.{first_of}
use Rattle.dwc_dwarf.specs.Trees.{Tree, TreeValue, entry}
use Rattle.dwc_isa.specs.ToldModules.{memory_view}
use Rattle.dwc_addr.specs.Compilations.{CompilationValue}
use Rattle.dwc_unit.specs.declared.attributes.DebugInfoRef.{DebugInfoRef}
use Rattle.dwc_unit.specs.declared.attributes.DebugInfoRef.TheVariants.{Entry}
use Rattle.dwc_unit.specs.GivenUnits.{GivenUnit}
use Rattle.dwc_source.specs.MadeValues.{Grows}
use Rattle.dwc_carry.specs.declared.error.DebugError.{DebugError}
use Rattle.dwc_carry.specs.declared.synthetic_unit.ModuleSyntheticUnit.{ModuleSyntheticUnit}
use Rattle.dwc_unit.specs.AddedInOrder.{IsNumberedByPlaces}
use Rattle.dwc_carry.specs.MadeUnits.{LeadsTo, IsMadeOf}
use Rattle.dwc_carry.specs.Refusals.{ReadsOr}

-- the linear memory of the module at a place
abbrev pub memory_at : CompilationValue → ℕ → Memory
memory_at c place = unwrap_or (option_map memory_view (slice_get c.memory_offsets place)) no_memory

-- what the unit is to say, of a number, with a name of the function that makes a context the one in use
abbrev pub synthetic_tree : ℕ → List ℕ → Memory → Tree
synthetic_tree number set_memory m = settled_unit (place_of_goal number (record { synthetic = Some (Synthetic.synthetic_unit set_memory m); carried = [] })) (Synthetic.synthetic_unit set_memory m)

-- an entry of a unit, by the numbers of both
abbrev pub entry_of : ℕ → ℕ → DebugInfoRef
entry_of number place = Entry (record { index = number }) (record { index = place })

-- what such a reference says, while entries are told by their numbers
abbrev pub reference_meant : DebugInfoRef → TreeValue
reference_meant (Entry unit id) = entry unit.index id.index

-- References go to the two types of a module's synthetic unit, of a number, that others refer to.
pub record ReferToSynthetic (number : ℕ) (m : Memory) (context address : DebugInfoRef) : Type 0 where
  pub context_pointer : context ≡ entry_of number (place_of_context_pointer m)
  pub wasm_pointer : address ≡ entry_of number (place_of_wasm_pointer m)

-- A module's synthetic unit is added, which says its tree, and the two types that others refer to are told; the table of texts has grown.
pub record AddsSyntheticUnit (encoding : Encoding) (set_memory : List ℕ) (m : Memory) (old new : List GivenUnit) (before after : List (List ℕ)) (synthetic : ModuleSyntheticUnit) : Type 0 where
  pub made : GivenUnit
  pub added : new ≡ old ++ made ∷ []
  pub grows : Grows before after
  pub is : (at : ℕ → ℕ → Option (ℕ × ℕ)) → LeadsTo at (length old) (made ∷ []) → IsMadeOf at encoding after (length old) synthetic_unit (synthetic_tree (length old) set_memory m) made
  pub numbered : IsNumberedByPlaces made
  pub refers : ReferToSynthetic (length old) m synthetic.vmctx_ptr synthetic.wasm_ptr

-- It is added, or its memory is refused.
abbrev pub GivesSyntheticUnit : Encoding → List ℕ → Memory → List GivenUnit → List GivenUnit → List (List ℕ) → List (List ℕ) → Result ModuleSyntheticUnit DebugError → Type 0
GivesSyntheticUnit encoding set_memory m old new before after result = ReadsOr (λ synthetic. AddsSyntheticUnit encoding set_memory m old new before after synthetic) (first_of (synthetic_refusals m)) result
