-- The unit for functions without debugging information, while its entries are added one behind another in file order.
use Rattle.std.specs.Prelude.{◌≡◌, ℕ, ◌+◌, ◌<◌, List, [], ◌∷◌, ◌++◌, length, All, Bool, Option, Some, None}
use Rattle.std.specs.List.{filter_map, flat_map}
use Rattle.dwc_base.specs.declared.records.Encoding.{Encoding}
use Rattle.dwc_rules.specs.Carried.{Module}
use Rattle.dwc_carried.specs.DefinedFunctions.{DefinedFunction}
use Rattle.dwc_rules.specs.Drafts.{Draft}
use Rattle.dwc_rules.specs.DraftForests.{settled_entry}
use Rattle.dwc_rules.specs.SyntheticUnit.{place_of_context_pointer}
use Rattle.dwc_carried.specs.SimulatedUnit.{function_entries, label_entry, modules_entries, unit_count}
use Rattle.dwc_dwarf.specs.Trees.{TreeValue}
use Rattle.dwc_unit.specs.AddedInOrder.{entry_meant}
use Rattle.dwc_unit.specs.GivenLines.{GivenLines}
use Rattle.dwc_unit.specs.GivenUnits.{Addition, GivenUnit}
use Rattle.dwc_unit.specs.UsedTexts.{texts_of_attributes}
use Rattle.dwc_clone.specs.BuiltUnits.{IsDrafted}
use Rattle.dwc_clone.specs.ClonedEntries.{IsLastOf}
use Rattle.dwc_clone.specs.ClonedUnits.{draft_depths}
use Rattle.dwc_carry.specs.MadeEntries.{IsDense}

-- What is added says a draft that stems from none of the input, and whose references go to places already, in the unit of a number; the
-- texts that it names are those of a table.
pub record SaysDraft (number : ℕ) (texts : List (List ℕ)) (d : Draft) (e : Addition) : Type 0 where
  pub origin : d.origin ≡ None
  pub means : entry_meant texts number d.depth e ≡ settled_entry (λ goal. None) d
  pub names : All (λ n. n < length texts) (texts_of_attributes e.attributes)

-- A unit of a number is made of such drafts, in file order; the number of each entry is its place.
pub record IsSimulated (number : ℕ) (texts : List (List ℕ)) (ds : List Draft) (u : GivenUnit) : Type 0 where
  pub drafted : IsDrafted (λ goal. None) number texts ds u
  pub dense : IsDense u

-- That, and its last function, to which further variables belong, stands at a place.
pub record HasFunction (number : ℕ) (texts : List (List ℕ)) (ds : List Draft) (place : ℕ) (u : GivenUnit) : Type 0 where
  pub simulated : IsSimulated number texts ds u
  pub last : IsLastOf (draft_depths ds) 1 place

-- The last function of a unit has the entries of some of its labels, and those of others are left: with these, all is what stood before the
-- function, and its entries. The type of a pointer to the context is given.
pub record HasVariables (number : ℕ) (pointer : TreeValue) (m : Module) (d : DefinedFunction) (texts : List (List ℕ)) (before : List Draft) (left : List ℕ) (place : ℕ) (u : GivenUnit) : Type 0 where
  pub ds : List Draft
  pub made : HasFunction number texts ds place u
  pub whole : ds ++ filter_map (label_entry number pointer m d) left ≡ before ++ function_entries number pointer m d

-- A unit has the entries of some of the simulated functions of a module, and those of others are left: with these, and what stands behind
-- them, all is what it is to be.
pub record HasFunctions (number : ℕ) (pointer : TreeValue) (m : Module) (texts : List (List ℕ)) (behind whole : List Draft) (left : List DefinedFunction) (u : GivenUnit) : Type 0 where
  pub ds : List Draft
  pub made : IsSimulated number texts ds u
  pub all : ds ++ (flat_map (function_entries number pointer m) left ++ behind) ≡ whole

-- The same of modules, with the types of pointers to their contexts, by the numbers that are translated.
pub record HasModules (translated : ℕ → Bool) (number : ℕ) (pointers : List TreeValue) (texts : List (List ℕ)) (whole : List Draft) (left : List Module) (u : GivenUnit) : Type 0 where
  pub ds : List Draft
  pub made : IsSimulated number texts ds u
  pub all : ds ++ modules_entries translated number pointers left ≡ whole

-- ---- what does not change while entries are added

-- A unit has an encoding and a line program, and begins with a root.
pub record BeginsWith (encoding : Encoding) (lines : GivenLines) (root : Addition) (u : GivenUnit) : Type 0 where
  pub version_is : u.version ≡ encoding.version
  pub size_is : u.address_size ≡ encoding.address_size
  pub lines_are : u.lines ≡ lines
  pub others : List Addition
  pub is : u.additions ≡ root ∷ others

-- ---- references

-- The pointers to the contexts of modules stay in the modules' synthetic units, of which the first has a number.
abbrev pub ContextsStay : (ℕ → ℕ → Option (ℕ × ℕ)) → ℕ → List Module → Type 0
ContextsStay at synthetic [] = Unit {0}
ContextsStay at synthetic (m ∷ ms) = (at synthetic (place_of_context_pointer m.told.memory) ≡ Some (synthetic, place_of_context_pointer m.told.memory)) × ContextsStay at (synthetic + unit_count m) ms
