-- Bases, and texts and addresses by an index, worked out by hand.
use Rattle.std.proofs.Common.{◌≡◌, ℕ, List, [], ◌∷◌, map, Some, None, Option, Ok, Err, refl}
use Rattle.std.specs.Prelude.{codes}
use Rattle.dwc_base.specs.declared.records.Endian.{Endian}
use Rattle.dwc_base.specs.declared.records.Endian.TheVariants.{Little, Big}
use Rattle.dwc_base.specs.declared.records.Address.{Address}
use Rattle.dwc_base.specs.declared.records.Address.TheVariants.{Constant}
use Rattle.dwc_base.specs.declared.section_name.SectionName.TheVariants.{Abbrev, Addr, Info, LineStr, Loclists, Rnglists, Str, StrOffsets}
use Rattle.dwc_base.specs.declared.faults.What.TheVariants.{AddressValue, Text}
use Rattle.dwc_base.specs.declared.constants.TheConstants.{DW_FORM_line_strp, DW_FORM_strp, DW_FORM_strx, DW_FORM_strx2}
use Rattle.dwc_base.specs.Sections.{Sections, unreadable}
use Rattle.dwc_base.specs.Units.{UnitHeader}
use Rattle.dwc_dwarf.specs.Values.{constant, text, text_reference}
use Rattle.dwc_dwarf.specs.Indexed.{index_base, address_in_unit, text_in_unit}
use Rattle.dwc_worked.proofs.Numbers.{at_place}
use Rattle.dwc_worked.proofs.OnLiterals.{trees_on_literals}
use Rattle.dwc_dwarf.specs.Lists.{first_base_of}

-- A unit of version 5 at 7, whose root has a declaration and some bytes.
abbrev unit_5 : ℕ → List ℕ → UnitHeader
unit_5 unit_type content = record { offset = 7; end = 99; version = 5; address_size = 4; unit_type = unit_type; abbreviations = 0; dwo_id = None; content = at_place 19 content }

-- Its sections: addresses from 8 on are 0x102 and one that is cut. `.debug_str` has `ab` at 0 and `c` at 3; `.debug_line_str` has `d` at 0
-- and a text without an end at 2. From 8 on the offsets are 3, 0, 9, and one that is cut.
abbrev sections : Endian → List ℕ → Sections
sections order abbreviations = record {
  order = order;
  bytes = λ name. elim name [
    | Abbrev ↦ abbreviations
    | Addr ↦ 0x0C ∷ 0x00 ∷ 0x00 ∷ 0x00 ∷ 0x05 ∷ 0x00 ∷ 0x04 ∷ 0x00 ∷ 0x02 ∷ 0x01 ∷ 0x00 ∷ 0x00 ∷ 0x00 ∷ []
    | Str ↦ 0x61 ∷ 0x62 ∷ 0x00 ∷ 0x63 ∷ 0x00 ∷ []
    | LineStr ↦ 0x64 ∷ 0x00 ∷ 0x65 ∷ []
    | StrOffsets ↦ 0x13 ∷ 0x00 ∷ 0x00 ∷ 0x00 ∷ 0x05 ∷ 0x00 ∷ 0x00 ∷ 0x00 ∷ 0x03 ∷ 0x00 ∷ 0x00 ∷ 0x00 ∷ 0x00 ∷ 0x00 ∷ 0x00 ∷ 0x00 ∷ 0x09 ∷ 0x00 ∷ 0x00 ∷ 0x00 ∷ 0x00 ∷ 0x00 ∷ 0x00 ∷ []
    | _ ↦ []
  ];
  relocations = λ name. [];
}

-- ---- bases

abbrev bases : List ℕ → UnitHeader → List (Option ℕ)
bases abbreviations h = map (index_base (sections Little abbreviations) h) (StrOffsets ∷ Addr ∷ Rnglists ∷ Loclists ∷ Str ∷ [])

abbrev usual : List (Option ℕ)
usual = Some 8 ∷ Some 8 ∷ Some 12 ∷ Some 12 ∷ None ∷ []

-- a root without attributes: a compile unit, a skeleton, and a split unit, which has no addresses of its own
abbrev no_bases : List ℕ
no_bases = 0x01 ∷ 0x11 ∷ 0x00 ∷ 0x00 ∷ 0x00 ∷ 0x00 ∷ []

bases-none : map (λ unit_type. bases no_bases (unit_5 unit_type (0x01 ∷ []))) (1 ∷ 4 ∷ 5 ∷ []) ≡ usual ∷ usual ∷ (Some 8 ∷ None ∷ Some 12 ∷ Some 12 ∷ None ∷ []) ∷ []
unfolding trees_on_literals
bases-none = refl

-- str_offsets_base by sec_offset, addr_base by data1, rnglists_base by udata, loclists_base by an implicit constant, and a second
-- str_offsets_base, which does not count
abbrev four_bases : List ℕ
four_bases = 0x01 ∷ 0x11 ∷ 0x00 ∷ 0x72 ∷ 0x17 ∷ 0x73 ∷ 0x0B ∷ 0x74 ∷ 0x0F ∷ 0x8C ∷ 0x01 ∷ 0x21 ∷ 0x23 ∷ 0x72 ∷ 0x0B ∷ 0x00 ∷ 0x00 ∷ 0x00 ∷ []

abbrev said : List (Option ℕ)
said = Some 0x20 ∷ Some 0x21 ∷ Some 0x22 ∷ Some 0x23 ∷ None ∷ []

bases-four : map (λ unit_type. bases four_bases (unit_5 unit_type (0x01 ∷ 0x20 ∷ 0x00 ∷ 0x00 ∷ 0x00 ∷ 0x21 ∷ 0x22 ∷ 0x99 ∷ []))) (1 ∷ 5 ∷ []) ≡ said ∷ said ∷ []
unfolding trees_on_literals
bases-four = refl

-- a root that is cut behind its bases says nothing, and neither does one whose declaration is not there, nor one without a table
bases-cut : bases [] (unit_5 1 (0x01 ∷ [])) ∷ map (bases four_bases) (unit_5 1 (0x01 ∷ 0x20 ∷ 0x00 ∷ 0x00 ∷ 0x00 ∷ 0x21 ∷ 0x22 ∷ []) ∷ unit_5 1 (0x02 ∷ []) ∷ unit_5 1 (0x00 ∷ []) ∷ unit_5 1 [] ∷ []) ≡ usual ∷ usual ∷ usual ∷ usual ∷ usual ∷ []
unfolding trees_on_literals
bases-cut = refl

-- a base that is a text or an address is none, also in front of one that is an offset
bases-odd : bases (0x01 ∷ 0x11 ∷ 0x00 ∷ 0x72 ∷ 0x08 ∷ 0x72 ∷ 0x0B ∷ 0x73 ∷ 0x01 ∷ 0x00 ∷ 0x00 ∷ 0x00 ∷ []) (unit_5 1 (0x01 ∷ 0x00 ∷ 0x20 ∷ 0x00 ∷ 0x00 ∷ 0x00 ∷ 0x00 ∷ [])) ≡ usual
unfolding trees_on_literals
bases-odd = refl

-- ---- addresses

addresses : map (address_in_unit (sections Little no_bases) (unit_5 1 (0x01 ∷ []))) (0 ∷ 1 ∷ 0xFFFFFFFFFFFFFFFF ∷ []) ≡ Ok (Constant 0x102) ∷ Err (unreadable AddressValue Info 7) ∷ Err (unreadable AddressValue Info 7) ∷ []
unfolding trees_on_literals
addresses = refl

addresses-big : address_in_unit (sections Big no_bases) (unit_5 1 (0x01 ∷ [])) 0 ≡ Ok (Constant 0x02010000)
unfolding trees_on_literals
addresses-big = refl

addresses-split : address_in_unit (sections Little no_bases) (unit_5 5 (0x01 ∷ [])) 0 ≡ Err (unreadable AddressValue Info 7)
unfolding trees_on_literals
addresses-split = refl

-- ---- the first base of lists

-- A root with addr_base by data1, and low_pc by a form.
abbrev first_base : ℕ → List ℕ → Address
first_base form values = first_base_of (sections Little (0x01 ∷ 0x11 ∷ 0x00 ∷ 0x73 ∷ 0x0B ∷ 0x11 ∷ form ∷ 0x00 ∷ 0x00 ∷ 0x00 ∷ [])) (unit_5 1 (0x01 ∷ values))

-- in place; by an index, from the base that the root says; by an index that names none; by a constant, which is no address; and cut
first_bases : first_base 0x01 (0x08 ∷ 0x34 ∷ 0x12 ∷ 0x00 ∷ 0x00 ∷ []) ∷ first_base 0x29 (0x04 ∷ 0x01 ∷ []) ∷ first_base 0x29 (0x04 ∷ 0x03 ∷ []) ∷ first_base 0x0B (0x08 ∷ 0x34 ∷ []) ∷ first_base 0x01 (0x08 ∷ 0x34 ∷ []) ∷ []
    ≡ Constant 0x1234 ∷ Constant 0x102 ∷ Constant 0 ∷ Constant 0 ∷ Constant 0 ∷ []
unfolding trees_on_literals first_base_of
first_bases = refl

-- a root without low_pc
first_base-none : first_base_of (sections Little no_bases) (unit_5 1 (0x01 ∷ [])) ≡ Constant 0
unfolding trees_on_literals first_base_of
first_base-none = refl

-- ---- texts

texts : map (text_in_unit (sections Little no_bases) (unit_5 1 (0x01 ∷ [])))
    (text_reference DW_FORM_strp 0 ∷ text_reference DW_FORM_strp 1 ∷ text_reference DW_FORM_strp 4 ∷ text_reference DW_FORM_line_strp 0 ∷ text_reference DW_FORM_strx 0 ∷ text_reference DW_FORM_strx2 1 ∷ text (0x7A ∷ []) ∷ constant 0x0B 0 ∷ [])
    ≡ Ok (Some (codes "ab")) ∷ Ok (Some (codes "b")) ∷ Ok (Some []) ∷ Ok (Some (codes "d")) ∷ Ok (Some (codes "c")) ∷ Ok (Some (codes "ab")) ∷ Ok (Some (codes "z")) ∷ Ok None ∷ []
unfolding trees_on_literals
texts = refl

-- a text without an end, one that begins past its section, one whose offset does, an offset that is cut, and one past its section
texts-missing : map (text_in_unit (sections Little no_bases) (unit_5 1 (0x01 ∷ []))) (text_reference DW_FORM_line_strp 2 ∷ text_reference DW_FORM_strp 5 ∷ text_reference DW_FORM_strx 2 ∷ text_reference DW_FORM_strx 3 ∷ text_reference DW_FORM_strx 4 ∷ [])
    ≡ Err (unreadable Text Info 7) ∷ Err (unreadable Text Info 7) ∷ Err (unreadable Text Info 7) ∷ Err (unreadable Text Info 7) ∷ Err (unreadable Text Info 7) ∷ []
unfolding trees_on_literals
texts-missing = refl

-- texts from the base that the root says
texts-base : text_in_unit (sections Little (0x01 ∷ 0x11 ∷ 0x00 ∷ 0x72 ∷ 0x0B ∷ 0x00 ∷ 0x00 ∷ 0x00 ∷ [])) (unit_5 1 (0x01 ∷ 0x0C ∷ [])) (text_reference DW_FORM_strx 0) ≡ Ok (Some (codes "ab"))
unfolding trees_on_literals
texts-base = refl

-- the offsets have the byte order of their section
texts-big : text_in_unit (sections Big (0x01 ∷ 0x11 ∷ 0x00 ∷ 0x72 ∷ 0x0B ∷ 0x00 ∷ 0x00 ∷ 0x00 ∷ [])) (unit_5 1 (0x01 ∷ 0x05 ∷ [])) (text_reference DW_FORM_strx 0) ≡ Ok (Some (codes "c"))
unfolding trees_on_literals
texts-big = refl
