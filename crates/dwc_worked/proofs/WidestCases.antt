-- The widest sizes of trees.
use Rattle.std.proofs.Common.{◌≡◌, ◌+◌, ◌*◌, [], ◌∷◌, true, refl}
use Rattle.dwc_worked.proofs.SyntheticTrees.{synthetic_tree}
use Rattle.dwc_worked.proofs.TreesSmall.{tree_small}
use Rattle.dwc_base.specs.declared.records.Address.TheVariants.{Constant}
use Rattle.dwc_base.specs.declared.section_name.SectionName.TheVariants.{Abbrev, Info, Line, Loc, Str}
use Rattle.dwc_dwarf.specs.Trees.{address, constant, flag, block, text, entry}
use Rattle.dwc_output.specs.WidestTrees.{widest_entry, widest_of_trees}

-- 11 for the header, 10 + 4 for the root, 10 + 8 + 10 for the subprogram, 10 + 4 + 4 + 4 for the variable of the context, and 10 for the
-- end of each list
info-small : widest_of_trees Info (tree_small ∷ []) ≡ 95
info-small = refl

-- for each declaration 21, 20 for each attribute, and 20; and 10 for the end of the table
abbrev-small : widest_of_trees Abbrev (tree_small ∷ tree_small ∷ []) ≡ 2 * ((21 + 20 + 20) + (21 + 40 + 20) + (21 + 60 + 20) + 10)
abbrev-small = refl

-- of its list the end alone
lists-small : widest_of_trees Loc (tree_small ∷ []) ≡ 16
lists-small = refl

none-small : widest_of_trees Line (tree_small ∷ []) ≡ 0
none-small = refl

-- A module's synthetic unit has 8 entries with 18 attributes: their values have 55 bytes, three of its entries have children, and its nine
-- texts stand once each.
info-synthetic : widest_of_trees Info (synthetic_tree 0 ∷ []) ≡ 11 + 8 * 10 + 55 + 3 * 10
info-synthetic = refl

abbrev-synthetic : widest_of_trees Abbrev (synthetic_tree 0 ∷ []) ≡ 8 * (21 + 20) + 18 * 20 + 10
abbrev-synthetic = refl

texts-synthetic : widest_of_trees Str (synthetic_tree 0 ∷ synthetic_tree 1 ∷ []) ≡ 108
texts-synthetic = refl

-- constants of 1, 2, 4 and 8 bytes and of variable length, a flag, a block of three bytes, a text elsewhere, and a reference
entry-forms : widest_entry (record {
  depth = 0;
  tag = 0x34;
  attributes =
      (0x01, constant 0x0B 7) ∷ (0x02, constant 0x05 7) ∷ (0x03, constant 0x06 7) ∷ (0x04, constant 0x07 7) ∷ (0x05, constant 0x0F 7) ∷ (0x06, constant 0x0D 7) ∷ (0x07, flag true) ∷ (0x08, block (1 ∷ 2 ∷ 3 ∷ [])) ∷ (0x09, text (1 ∷ 2 ∷ [])) ∷ (0x0A, entry 0 3) ∷ (0x0B, address (Constant 4)) ∷ [];
})
    ≡ 10 + (1 + 2 + 4 + 8 + 10 + 10 + 1 + 13 + 4 + 4 + 8)
entry-forms = refl

-- each entry that has children ends their list
lists-forms : widest_of_trees Info ((record { depth = 0; tag = 1; attributes = [] } ∷ record { depth = 1; tag = 1; attributes = [] } ∷ record { depth = 2; tag = 1; attributes = [] } ∷ record { depth = 1; tag = 1; attributes = [] } ∷ []) ∷ []) ≡ 11 + 4 * 10 + 2 * 10
lists-forms = refl

-- three texts of which one is empty and one stands twice, each ended by a zero
texts-small : widest_of_trees Str ((record { depth = 0; tag = 0x11; attributes = (0x03, text (97 ∷ 98 ∷ [])) ∷ (0x1B, text []) ∷ [] } ∷ record { depth = 1; tag = 0x2E; attributes = (0x03, text (97 ∷ 98 ∷ [])) ∷ (0x6E, text (97 ∷ [])) ∷ [] } ∷ []) ∷ []) ≡ 3 + 1 + 2
texts-small = refl
