-- The unit for functions without debugging information, with its root alone, says the root.
use Rattle.std.proofs.Common.{◌≡◌, ℕ, ◌<◌, refl, arith, List, [], ◌∷◌, length, map, zero, suc, Some, All, None}
use Rattle.std.specs.Prelude.{codes}
use Rattle.std.specs.List.{AllZip}
use Rattle.std.proofs.lemmas.List.Elements.{All-nil, All-cons}
use Rattle.dwc_rules.specs.DraftForests.{settled_unit}
use Rattle.dwc_clone.specs.ClonedUnits.{draft_depths}
use Rattle.dwc_base.specs.declared.records.Encoding.{Encoding}
use Rattle.dwc_base.specs.declared.records.OutputFor.{OutputFor}
use Rattle.dwc_base.specs.declared.records.OutputFor.TheVariants.{Debugger, Default}
use Rattle.dwc_carried.specs.SimulatedUnit.{simulated_root}
use Rattle.dwc_dwarf.specs.Trees.{Interval}
use Rattle.dwc_carried.specs.UnitPaths.{path_directory, path_name}
use Rattle.dwc_unit.specs.declared.lists.RangeList.{RangeList}
use Rattle.dwc_unit.specs.GivenLines.{GivenLines}
use Rattle.dwc_unit.specs.GivenUnits.{Addition}
use Rattle.dwc_unit.specs.RangeLists.{interval_of}
use Rattle.dwc_unit.specs.UsedTexts.{texts_of_attributes}
use Rattle.dwc_unit.proofs.AddedInOrderUnits.{numbered-leads}
use Rattle.dwc_unit.specs.AddedInOrder.{tree_meant}
use Rattle.dwc_source.specs.KnownTexts.{IsNumbered}
use Rattle.dwc_carry.specs.declared.simulated_root.RootTexts.{RootTexts}
use Rattle.dwc_carry.specs.SimulatedAdditions.{root_given, root_named, root_names, root_texts_of, simulated_root_addition, with_code}
use Rattle.dwc_carry.specs.SimulatedDrafts.{IsSimulated}

-- A root is what it is to be, once its code is said.
pub root-coded : (output : OutputFor) (version size : ℕ) (lines : GivenLines) (t : RootTexts) (list : RangeList) → with_code output list (root_named version size lines t) ≡ root_given output version size lines t list
root-coded Default version size lines t list = refl
root-coded Debugger version size lines t list = refl

module _ (texts : List (List ℕ)) (path : List ℕ) (t : RootTexts) (known : AllZip (IsNumbered texts) (root_names path) (root_texts_of t)) where
  producer : IsNumbered texts (codes "wasmtime") t.producer
  producer = known.0

  name : IsNumbered texts (path_name path) t.name
  name = known.1.0

  directory : IsNumbered texts (path_directory path) t.directory
  directory = known.1.1.0

  abbrev In : ℕ → Type 0
  In n = n < length texts

  abbrev HasTexts : Addition → Type 0
  HasTexts e = All In (texts_of_attributes e.attributes)

  names : (output : OutputFor) (list : RangeList) → All HasTexts (simulated_root_addition output t list ∷ [])
  names output list = All-cons HasTexts (simulated_root_addition output t list) [] (three output) (All-nil HasTexts)
    where
      all : All In (t.producer.index ∷ t.name.index ∷ t.directory.index ∷ [])
      all = All-cons In t.producer.index (t.name.index ∷ t.directory.index ∷ []) producer.inside (All-cons In t.name.index (t.directory.index ∷ []) name.inside (All-cons In t.directory.index [] directory.inside (All-nil In)))

      three : (o : OutputFor) → HasTexts (simulated_root_addition o t list)
      three Default = all
      three Debugger = all

  -- A root with a list of the intervals of code, for a debugger with a base in front of it.
  pub root-simulated : (number : ℕ) (output : OutputFor) (encoding : Encoding) (lines : GivenLines) (list : RangeList) (whole : List Interval) → map interval_of list.ranges.items ≡ whole → IsSimulated number texts (simulated_root output path whole ∷ []) (root_given output encoding.version encoding.address_size lines t list)
  root-simulated number output encoding lines list whole is = record {
    drafted = record {
      order = record { counted = refl; some = omega arith; root = refl; parents = λ place above within. absurd (omega (arith, above, within)) };
      leads = numbered-leads (root_given output encoding.version encoding.address_size lines t list) refl;
      numbers = 0 ∷ [];
      numbered = record { counted = refl; places = places; told = (tt, tt) };
      says = says output;
      names = names output list;
    };
    dense = refl;
  }
    where
      places : (place : ℕ) → place < 1 → Rattle.dwc_unit.specs.GivenUnits.place_of (Rattle.std.specs.Prelude.get_or (0 ∷ []) place 0) (Some 0 ∷ []) ≡ Some place
      places zero within = refl
      places (suc place) within = absurd (omega (arith, within))

      says : (o : OutputFor) → tree_meant texts number (draft_depths (simulated_root o path whole ∷ [])) (simulated_root_addition o t list ∷ []) ≡ settled_unit (λ goal. None) (simulated_root o path whole ∷ [])
      says Default = rw (producer.is, name.is, directory.is, is) refl
      says Debugger = rw (producer.is, name.is, directory.is, is) refl
