-- The synthetic unit, which a module has of its own, as a tree, and how an output says it first where the module has no linear memory: the
-- table of its declarations, its entries, its texts, and its relocations.
use Rattle.std.proofs.Common.{ℕ, ◌+◌, pos, List, [], ◌∷◌, true}
use Rattle.std.specs.Prelude.{codes}
use Rattle.dwc_base.specs.Outputs.{OutputRelocation, section}
use Rattle.dwc_dwarf.specs.TreeLaws.{texts_ended}
use Rattle.dwc_dwarf.specs.Trees.{Location, TreeEntry, Tree, constant, flag, text, locations, entry}
use Rattle.dwc_worked.proofs.TreeInputs.{an_entry}

-- ---- trees

-- the root, the type of a byte, and that of a pointer to bytes, in the unit of a number
abbrev pub synthetic_front : ℕ → List TreeEntry → Tree
synthetic_front number rest =
    an_entry 0 0x11 ((0x03, text (codes "WasmtimeModuleSyntheticUnit")) ∷ (0x25, text (codes "wasmtime")) ∷ (0x13, constant 0x05 29) ∷ [])
    ∷ an_entry 1 0x24 ((0x03, text (codes "u8")) ∷ (0x3E, constant 0x0B 7) ∷ (0x0B, constant 0x0B 1) ∷ [])
    ∷ an_entry 1 0x0F ((0x03, text (codes "u8*")) ∷ (0x49, entry number 1) ∷ []) ∷ rest

-- the function that makes a context the one in use, whose parameter is of the type at a place; that type, of a pointer to the context;
-- and the type of an address in a linear memory
abbrev pub synthetic_back : ℕ → ℕ → Tree
synthetic_back number pointer =
    an_entry 2 0x2E ((0x6E, text (codes "set_mem")) ∷ (0x03, text (codes "set")) ∷ [])
    ∷ an_entry 3 0x05 ((0x49, entry number pointer) ∷ (0x34, flag true) ∷ [])
    ∷ an_entry 1 0x0F ((0x03, text (codes "WasmtimeVMContext*")) ∷ (0x49, entry number 3) ∷ [])
    ∷ an_entry 1 0x24 ((0x03, text (codes "WebAssemblyPtr")) ∷ (0x0B, constant 0x0B 4) ∷ (0x3E, constant 0x0B 7) ∷ []) ∷ []

-- The unit of a number, of a module that has no memory or that of another.
abbrev pub synthetic_tree : ℕ → Tree
synthetic_tree number = synthetic_front number (an_entry 1 0x13 ((0x03, text (codes "WasmtimeVMContext")) ∷ []) ∷ synthetic_back number 6)

-- The unit of a number, of a module with a memory at an offset of its context.
abbrev pub synthetic_tree_with : ℕ → ℕ → Tree
synthetic_tree_with number offset = synthetic_front number (
    an_entry 1 0x13 ((0x03, text (codes "WasmtimeVMContext")) ∷ (0x0B, constant 0x06 (offset + 8)) ∷ [])
    ∷ an_entry 2 0x0D ((0x03, text (codes "memory")) ∷ (0x49, entry number 2) ∷ (0x38, constant 0x0F offset) ∷ []) ∷ synthetic_back number 7)

-- the variable of the context at a depth, of the type at a place in the synthetic unit of a number, and where it lies
abbrev pub context_entry : ℕ → ℕ → ℕ → List Location → TreeEntry
context_entry depth number pointer located = an_entry depth 0x34 ((0x03, text (codes "__vmctx")) ∷ (0x49, entry number pointer) ∷ (0x02, locations located) ∷ [])

-- ---- bytes of the unit without a memory

-- one line a declaration: both pointers share one, and the two base types have their attributes in different orders; 68 bytes
abbrev pub synthetic_abbreviations : List ℕ
synthetic_abbreviations =
    0x01 ∷ 0x11 ∷ 0x01 ∷ 0x03 ∷ 0x0E ∷ 0x25 ∷ 0x0E ∷ 0x13 ∷ 0x05 ∷ 0x00 ∷ 0x00
    ∷ 0x02 ∷ 0x24 ∷ 0x00 ∷ 0x03 ∷ 0x0E ∷ 0x3E ∷ 0x0B ∷ 0x0B ∷ 0x0B ∷ 0x00 ∷ 0x00
    ∷ 0x03 ∷ 0x0F ∷ 0x00 ∷ 0x03 ∷ 0x0E ∷ 0x49 ∷ 0x13 ∷ 0x00 ∷ 0x00
    ∷ 0x04 ∷ 0x13 ∷ 0x01 ∷ 0x03 ∷ 0x0E ∷ 0x00 ∷ 0x00
    ∷ 0x05 ∷ 0x2E ∷ 0x01 ∷ 0x6E ∷ 0x0E ∷ 0x03 ∷ 0x0E ∷ 0x00 ∷ 0x00
    ∷ 0x06 ∷ 0x05 ∷ 0x00 ∷ 0x49 ∷ 0x13 ∷ 0x34 ∷ 0x0C ∷ 0x00 ∷ 0x00
    ∷ 0x07 ∷ 0x24 ∷ 0x00 ∷ 0x03 ∷ 0x0E ∷ 0x0B ∷ 0x0B ∷ 0x3E ∷ 0x0B ∷ 0x00 ∷ 0x00
    ∷ 0x00 ∷ []

-- one line an entry, from 11, 22, 29, 38, 43, 52, 60 and 69 on; with the header 77 bytes
abbrev pub synthetic_content : List ℕ
synthetic_content =
    0x01 ∷ 0x00 ∷ 0x00 ∷ 0x00 ∷ 0x00 ∷ 0x1C ∷ 0x00 ∷ 0x00 ∷ 0x00 ∷ 0x1D ∷ 0x00
    ∷ 0x02 ∷ 0x25 ∷ 0x00 ∷ 0x00 ∷ 0x00 ∷ 0x07 ∷ 0x01
    ∷ 0x03 ∷ 0x28 ∷ 0x00 ∷ 0x00 ∷ 0x00 ∷ 0x16 ∷ 0x00 ∷ 0x00 ∷ 0x00
    ∷ 0x04 ∷ 0x2C ∷ 0x00 ∷ 0x00 ∷ 0x00
    ∷ 0x05 ∷ 0x3E ∷ 0x00 ∷ 0x00 ∷ 0x00 ∷ 0x46 ∷ 0x00 ∷ 0x00 ∷ 0x00
    ∷ 0x06 ∷ 0x3C ∷ 0x00 ∷ 0x00 ∷ 0x00 ∷ 0x01 ∷ 0x00 ∷ 0x00
    ∷ 0x03 ∷ 0x4A ∷ 0x00 ∷ 0x00 ∷ 0x00 ∷ 0x26 ∷ 0x00 ∷ 0x00 ∷ 0x00
    ∷ 0x07 ∷ 0x5D ∷ 0x00 ∷ 0x00 ∷ 0x00 ∷ 0x04 ∷ 0x07 ∷ 0x00 ∷ []

abbrev pub synthetic_info : List ℕ
synthetic_info = 0x49 ∷ 0x00 ∷ 0x00 ∷ 0x00 ∷ 0x04 ∷ 0x00 ∷ 0x00 ∷ 0x00 ∷ 0x00 ∷ 0x00 ∷ 0x08 ∷ synthetic_content

-- at 0, 28, 37, 40, 44, 62, 70, 74 and 93; 108 bytes
abbrev pub synthetic_texts : List ℕ
synthetic_texts = texts_ended (
    codes "WasmtimeModuleSyntheticUnit"
    ∷ codes "wasmtime"
    ∷ codes "u8"
    ∷ codes "u8*"
    ∷ codes "WasmtimeVMContext"
    ∷ codes "set_mem"
    ∷ codes "set"
    ∷ codes "WasmtimeVMContext*"
    ∷ codes "WebAssemblyPtr" ∷ [])

-- the end of a list with addresses of 8 bytes, which is all of an empty one
abbrev pub empty_list : List ℕ
empty_list = 0x00 ∷ 0x00 ∷ 0x00 ∷ 0x00 ∷ 0x00 ∷ 0x00 ∷ 0x00 ∷ 0x00 ∷ 0x00 ∷ 0x00 ∷ 0x00 ∷ 0x00 ∷ 0x00 ∷ 0x00 ∷ 0x00 ∷ 0x00 ∷ []

-- ---- relocations

-- an offset of four bytes in a section
abbrev pub to_section : ℕ → List ℕ → ℕ → OutputRelocation
to_section offset name addend = record { offset = offset; size = 4; target = section name; addend = pos addend }

-- the table of declarations, and a text for each name
abbrev pub synthetic_relocations : List OutputRelocation
synthetic_relocations =
    to_section 6 (codes ".debug_abbrev") 0
    ∷ to_section 12 (codes ".debug_str") 0
    ∷ to_section 16 (codes ".debug_str") 28
    ∷ to_section 23 (codes ".debug_str") 37
    ∷ to_section 30 (codes ".debug_str") 40
    ∷ to_section 39 (codes ".debug_str") 44
    ∷ to_section 44 (codes ".debug_str") 62
    ∷ to_section 48 (codes ".debug_str") 70
    ∷ to_section 61 (codes ".debug_str") 74
    ∷ to_section 70 (codes ".debug_str") 93 ∷ []
