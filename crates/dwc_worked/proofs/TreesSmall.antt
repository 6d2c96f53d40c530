-- The trees of the units for the small module, and that an output carries these and no others.
use Rattle.std.proofs.Common.{◌≡◌, ℕ, pos, List, [], ◌∷◌, None, Err, refl}
use Rattle.dwc_worked.proofs.DraftsOnLiterals.{drafts_on_literals}
use Rattle.dwc_worked.proofs.SyntheticTrees.{synthetic_tree, context_entry}
use Rattle.dwc_worked.proofs.CarriedSmall.{output_small, compilation_small, compilation_64}
use Rattle.dwc_base.specs.declared.records.Endian.TheVariants.{Little}
use Rattle.dwc_base.specs.declared.records.Address.TheVariants.{Symbol}
use Rattle.dwc_base.specs.declared.faults.Kind.TheVariants.{Format64}
use Rattle.dwc_base.specs.Sections.{unsupported}
use Rattle.dwc_rules.specs.Refusals.{of_place}
use Rattle.dwc_dwarf.specs.Trees.{Tree, address, constant, line_table}
use Rattle.dwc_output.specs.TreeReading.{CarriesTrees}
use Rattle.dwc_carried.specs.Forests.{first_refusal, module_trees, forest}

-- A compile unit with its line table, and below it the subprogram of function 0, of length 30, with the variable of the context, which lies
-- nowhere: the type of that is at a place in the synthetic unit of a number.
abbrev pub tree_with_synthetic : ℕ → ℕ → Tree
tree_with_synthetic number pointer =
    record { depth = 0; tag = 0x11; attributes = (0x10, line_table) ∷ [] }
    ∷ record { depth = 1; tag = 0x2E; attributes = (0x11, address (Symbol 0 (pos 0))) ∷ (0x12, constant 0x0F 30) ∷ [] }
    ∷ context_entry 2 number pointer [] ∷ []

abbrev pub tree_small : Tree
tree_small = tree_with_synthetic 0 6

-- behind the module's synthetic unit
abbrev pub trees_small : List Tree
trees_small = synthetic_tree 0 ∷ tree_small ∷ []

pub trees-small : module_trees compilation_small ≡ trees_small
unfolding drafts_on_literals
trees-small = refl

pub not_refused-small : first_refusal compilation_small ≡ None
unfolding drafts_on_literals
not_refused-small = refl

pub carries-small : CarriesTrees Little trees_small output_small
unfolding drafts_on_literals
carries-small = refl

-- an output without sections says no trees
carries-nothing : CarriesTrees Little [] []
unfolding drafts_on_literals
carries-nothing = refl

-- the 64-bit format is refused
forest-64 : forest compilation_64 ≡ Err (of_place (unsupported Format64 0))
unfolding drafts_on_literals
forest-64 = refl
