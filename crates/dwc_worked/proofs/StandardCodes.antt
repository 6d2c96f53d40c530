-- The codes are those of the standard. The definitions name a code by its constant, so that a wrong number would be wrong in
-- the program and in the definitions alike; here each stands beside the number that its table gives. (DWARF 5, section 7.)
use Rattle.std.proofs.Common.{◌≡◌, ℕ, List, [], ◌∷◌, map, refl}
use Rattle.dwc_base.specs.declared.constants.TheConstants.{DW_ATE_float, DW_ATE_signed, DW_ATE_unsigned, DW_AT_GNU_locviews, DW_AT_addr_base, DW_AT_allocated, DW_AT_artificial, DW_AT_associated, DW_AT_bit_size, DW_AT_bit_stride, DW_AT_byte_size, DW_AT_byte_stride, DW_AT_call_file, DW_AT_comp_dir, DW_AT_count, DW_AT_data_location, DW_AT_data_member_location, DW_AT_decl_file, DW_AT_decl_line, DW_AT_dwo_name, DW_AT_encoding, DW_AT_endianity, DW_AT_frame_base, DW_AT_high_pc, DW_AT_language, DW_AT_linkage_name, DW_AT_location, DW_AT_loclists_base, DW_AT_low_pc, DW_AT_lower_bound, DW_AT_macro_info, DW_AT_macros, DW_AT_name, DW_AT_object_pointer, DW_AT_producer, DW_AT_ranges, DW_AT_return_addr, DW_AT_rnglists_base, DW_AT_segment, DW_AT_sibling, DW_AT_start_scope, DW_AT_static_link, DW_AT_stmt_list, DW_AT_str_offsets_base, DW_AT_string_length, DW_AT_type, DW_AT_upper_bound, DW_AT_use_location, DW_AT_vtable_elem_location, DW_CFA_advance_loc, DW_CFA_advance_loc1, DW_CFA_advance_loc2, DW_CFA_advance_loc4, DW_CFA_def_cfa, DW_CFA_def_cfa_offset, DW_CFA_def_cfa_offset_sf, DW_CFA_def_cfa_register, DW_CFA_def_cfa_sf, DW_CFA_nop, DW_CFA_offset, DW_CFA_offset_extended, DW_CFA_offset_extended_sf, DW_CFA_remember_state, DW_CFA_restore, DW_CFA_restore_extended, DW_CFA_restore_state, DW_CFA_same_value, DW_CFA_undefined, DW_CHILDREN_no, DW_CHILDREN_yes, DW_END_little, DW_FORM_addr, DW_FORM_addrx, DW_FORM_addrx1, DW_FORM_addrx2, DW_FORM_addrx3, DW_FORM_addrx4, DW_FORM_block, DW_FORM_block1, DW_FORM_block2, DW_FORM_block4, DW_FORM_data1, DW_FORM_data16, DW_FORM_data2, DW_FORM_data4, DW_FORM_data8, DW_FORM_exprloc, DW_FORM_flag, DW_FORM_flag_present, DW_FORM_implicit_const, DW_FORM_indirect, DW_FORM_line_strp, DW_FORM_loclistx, DW_FORM_ref1, DW_FORM_ref2, DW_FORM_ref4, DW_FORM_ref8, DW_FORM_ref_addr, DW_FORM_ref_sig8, DW_FORM_ref_sup4, DW_FORM_ref_sup8, DW_FORM_ref_udata, DW_FORM_rnglistx, DW_FORM_sdata, DW_FORM_sec_offset, DW_FORM_string, DW_FORM_strp, DW_FORM_strp_sup, DW_FORM_strx, DW_FORM_strx1, DW_FORM_strx2, DW_FORM_strx3, DW_FORM_strx4, DW_FORM_udata, DW_LANG_C11, DW_LNCT_directory_index, DW_LNCT_path, DW_LNE_define_file, DW_LNE_end_sequence, DW_LNE_set_address, DW_LNE_set_discriminator, DW_LNS_advance_line, DW_LNS_advance_pc, DW_LNS_const_add_pc, DW_LNS_copy, DW_LNS_fixed_advance_pc, DW_LNS_negate_stmt, DW_LNS_set_basic_block, DW_LNS_set_column, DW_LNS_set_epilogue_begin, DW_LNS_set_file, DW_LNS_set_isa, DW_LNS_set_prologue_end, DW_OP_WASM_location, DW_OP_abs, DW_OP_and, DW_OP_bit_piece, DW_OP_bra, DW_OP_breg0, DW_OP_bregx, DW_OP_call_frame_cfa, DW_OP_const1s, DW_OP_const1u, DW_OP_const2s, DW_OP_const2u, DW_OP_const4s, DW_OP_const4u, DW_OP_const8s, DW_OP_const8u, DW_OP_consts, DW_OP_constu, DW_OP_deref, DW_OP_deref_size, DW_OP_div, DW_OP_drop, DW_OP_dup, DW_OP_eq, DW_OP_fbreg, DW_OP_ge, DW_OP_gt, DW_OP_le, DW_OP_lit0, DW_OP_lit31, DW_OP_lt, DW_OP_minus, DW_OP_mod, DW_OP_mul, DW_OP_ne, DW_OP_neg, DW_OP_nop, DW_OP_not, DW_OP_or, DW_OP_over, DW_OP_pick, DW_OP_piece, DW_OP_plus, DW_OP_plus_uconst, DW_OP_reg0, DW_OP_regx, DW_OP_rot, DW_OP_shl, DW_OP_shr, DW_OP_shra, DW_OP_skip, DW_OP_stack_value, DW_OP_swap, DW_OP_xderef, DW_OP_xderef_size, DW_OP_xor, DW_SECT_ABBREV, DW_SECT_INFO, DW_SECT_LINE, DW_SECT_LOCLISTS, DW_SECT_MACRO, DW_SECT_RNGLISTS, DW_SECT_STR_OFFSETS, DW_TAG_array_type, DW_TAG_base_type, DW_TAG_call_site, DW_TAG_call_site_parameter, DW_TAG_catch_block, DW_TAG_compile_unit, DW_TAG_const_type, DW_TAG_constant, DW_TAG_entry_point, DW_TAG_enumerator, DW_TAG_formal_parameter, DW_TAG_inheritance, DW_TAG_inlined_subroutine, DW_TAG_label, DW_TAG_lexical_block, DW_TAG_member, DW_TAG_namespace, DW_TAG_pointer_type, DW_TAG_reference_type, DW_TAG_structure_type, DW_TAG_subprogram, DW_TAG_subrange_type, DW_TAG_template_type_parameter, DW_TAG_template_value_parameter, DW_TAG_try_block, DW_TAG_unspecified_parameters, DW_TAG_variable, DW_TAG_variant, DW_TAG_variant_part, DW_TAG_with_stmt, DW_UT_compile, DW_UT_partial, DW_UT_skeleton, DW_UT_split_compile, DW_UT_split_type, DW_UT_type}

-- the numbers on the left are those on the right
abbrev AreStandard : List (ℕ × ℕ) → Type 0
AreStandard codes = map (λ c. c.0) codes ≡ map (λ c. c.1) codes

-- tags (table 7.3)
tags : AreStandard (
    (DW_TAG_array_type, 0x01) ∷ (DW_TAG_entry_point, 0x03) ∷ (DW_TAG_formal_parameter, 0x05) ∷ (DW_TAG_label, 0x0A)
    ∷ (DW_TAG_lexical_block, 0x0B) ∷ (DW_TAG_member, 0x0D) ∷ (DW_TAG_pointer_type, 0x0F) ∷ (DW_TAG_reference_type, 0x10)
    ∷ (DW_TAG_compile_unit, 0x11) ∷ (DW_TAG_structure_type, 0x13) ∷ (DW_TAG_unspecified_parameters, 0x18) ∷ (DW_TAG_variant, 0x19)
    ∷ (DW_TAG_inheritance, 0x1C) ∷ (DW_TAG_inlined_subroutine, 0x1D) ∷ (DW_TAG_subrange_type, 0x21) ∷ (DW_TAG_with_stmt, 0x22)
    ∷ (DW_TAG_base_type, 0x24) ∷ (DW_TAG_catch_block, 0x25) ∷ (DW_TAG_const_type, 0x26) ∷ (DW_TAG_constant, 0x27)
    ∷ (DW_TAG_enumerator, 0x28) ∷ (DW_TAG_subprogram, 0x2E) ∷ (DW_TAG_template_type_parameter, 0x2F) ∷ (DW_TAG_template_value_parameter, 0x30)
    ∷ (DW_TAG_try_block, 0x32) ∷ (DW_TAG_variant_part, 0x33) ∷ (DW_TAG_variable, 0x34) ∷ (DW_TAG_namespace, 0x39)
    ∷ (DW_TAG_call_site, 0x48) ∷ (DW_TAG_call_site_parameter, 0x49) ∷ [])
tags = refl

-- attributes (table 7.5)
attribute_names : AreStandard (
    (DW_AT_sibling, 0x01) ∷ (DW_AT_location, 0x02) ∷ (DW_AT_name, 0x03) ∷ (DW_AT_byte_size, 0x0B)
    ∷ (DW_AT_language, 0x13) ∷ (DW_AT_producer, 0x25) ∷ (DW_AT_artificial, 0x34) ∷ (DW_AT_encoding, 0x3E)
    ∷ (DW_AT_type, 0x49) ∷ (DW_AT_object_pointer, 0x64) ∷ (DW_AT_linkage_name, 0x6E)
    ∷ (DW_AT_bit_size, 0x0D) ∷ (DW_AT_stmt_list, 0x10) ∷ (DW_AT_low_pc, 0x11) ∷ (DW_AT_high_pc, 0x12)
    ∷ (DW_AT_string_length, 0x19) ∷ (DW_AT_lower_bound, 0x22) ∷ (DW_AT_return_addr, 0x2A) ∷ (DW_AT_start_scope, 0x2C)
    ∷ (DW_AT_bit_stride, 0x2E) ∷ (DW_AT_upper_bound, 0x2F) ∷ (DW_AT_count, 0x37) ∷ (DW_AT_data_member_location, 0x38)
    ∷ (DW_AT_frame_base, 0x40) ∷ (DW_AT_segment, 0x46) ∷ (DW_AT_static_link, 0x48) ∷ (DW_AT_use_location, 0x4A)
    ∷ (DW_AT_vtable_elem_location, 0x4D) ∷ (DW_AT_allocated, 0x4E) ∷ (DW_AT_associated, 0x4F) ∷ (DW_AT_data_location, 0x50)
    ∷ (DW_AT_byte_stride, 0x51) ∷ (DW_AT_ranges, 0x55) ∷ (DW_AT_str_offsets_base, 0x72) ∷ (DW_AT_addr_base, 0x73)
    ∷ (DW_AT_rnglists_base, 0x74) ∷ (DW_AT_loclists_base, 0x8C) ∷ (DW_AT_decl_file, 0x3A) ∷ (DW_AT_macro_info, 0x43)
    ∷ (DW_AT_call_file, 0x58) ∷ (DW_AT_endianity, 0x65) ∷ (DW_AT_dwo_name, 0x76) ∷ (DW_AT_macros, 0x79)
    ∷ (DW_AT_comp_dir, 0x1B) ∷ (DW_AT_decl_line, 0x3B) ∷ (DW_AT_GNU_locviews, 0x2137) ∷ [])
attribute_names = refl

-- forms (table 7.6)
form_codes : AreStandard (
    (DW_FORM_addr, 0x01) ∷ (DW_FORM_block2, 0x03) ∷ (DW_FORM_block4, 0x04) ∷ (DW_FORM_data2, 0x05)
    ∷ (DW_FORM_data4, 0x06) ∷ (DW_FORM_data8, 0x07) ∷ (DW_FORM_string, 0x08) ∷ (DW_FORM_block, 0x09)
    ∷ (DW_FORM_block1, 0x0A) ∷ (DW_FORM_data1, 0x0B) ∷ (DW_FORM_flag, 0x0C) ∷ (DW_FORM_sdata, 0x0D)
    ∷ (DW_FORM_strp, 0x0E) ∷ (DW_FORM_udata, 0x0F) ∷ (DW_FORM_ref_addr, 0x10) ∷ (DW_FORM_ref1, 0x11)
    ∷ (DW_FORM_ref2, 0x12) ∷ (DW_FORM_ref4, 0x13) ∷ (DW_FORM_ref8, 0x14) ∷ (DW_FORM_ref_udata, 0x15)
    ∷ (DW_FORM_indirect, 0x16) ∷ (DW_FORM_sec_offset, 0x17) ∷ (DW_FORM_exprloc, 0x18) ∷ (DW_FORM_flag_present, 0x19)
    ∷ (DW_FORM_strx, 0x1A) ∷ (DW_FORM_addrx, 0x1B) ∷ (DW_FORM_ref_sup4, 0x1C) ∷ (DW_FORM_strp_sup, 0x1D)
    ∷ (DW_FORM_data16, 0x1E) ∷ (DW_FORM_line_strp, 0x1F) ∷ (DW_FORM_ref_sig8, 0x20) ∷ (DW_FORM_implicit_const, 0x21)
    ∷ (DW_FORM_loclistx, 0x22) ∷ (DW_FORM_rnglistx, 0x23) ∷ (DW_FORM_ref_sup8, 0x24) ∷ (DW_FORM_strx1, 0x25)
    ∷ (DW_FORM_strx2, 0x26) ∷ (DW_FORM_strx3, 0x27) ∷ (DW_FORM_strx4, 0x28) ∷ (DW_FORM_addrx1, 0x29)
    ∷ (DW_FORM_addrx2, 0x2A) ∷ (DW_FORM_addrx3, 0x2B) ∷ (DW_FORM_addrx4, 0x2C) ∷ [])
form_codes = refl

-- types of units (table 7.2)
unit_types : AreStandard (
    (DW_UT_compile, 0x01) ∷ (DW_UT_type, 0x02) ∷ (DW_UT_partial, 0x03) ∷ (DW_UT_skeleton, 0x04)
    ∷ (DW_UT_split_compile, 0x05) ∷ (DW_UT_split_type, 0x06) ∷ [])
unit_types = refl

-- standard opcodes of line programs (table 7.25)
standard_opcodes : AreStandard (
    (DW_LNS_copy, 0x01) ∷ (DW_LNS_advance_pc, 0x02) ∷ (DW_LNS_advance_line, 0x03) ∷ (DW_LNS_set_file, 0x04)
    ∷ (DW_LNS_set_column, 0x05) ∷ (DW_LNS_negate_stmt, 0x06) ∷ (DW_LNS_set_basic_block, 0x07) ∷ (DW_LNS_const_add_pc, 0x08)
    ∷ (DW_LNS_fixed_advance_pc, 0x09) ∷ (DW_LNS_set_prologue_end, 0x0A) ∷ (DW_LNS_set_epilogue_begin, 0x0B) ∷ (DW_LNS_set_isa, 0x0C) ∷ [])
standard_opcodes = refl

-- extended opcodes of line programs (table 7.26)
extended_opcodes : AreStandard (
    (DW_LNE_end_sequence, 0x01) ∷ (DW_LNE_set_address, 0x02) ∷ (DW_LNE_define_file, 0x03) ∷ (DW_LNE_set_discriminator, 0x04) ∷ [])
extended_opcodes = refl

-- content types of the entries in a line table's header (table 7.27)
content_types : AreStandard (
    (DW_LNCT_path, 0x01) ∷ (DW_LNCT_directory_index, 0x02) ∷ [])
content_types = refl

-- whether an entry has children (table 7.4)
children_bytes : AreStandard (
    (DW_CHILDREN_no, 0x00) ∷ (DW_CHILDREN_yes, 0x01) ∷ [])
children_bytes = refl

-- the byte orders of a base type (table 7.17)
byte_orders : AreStandard (
    (DW_END_little, 0x02) ∷ [])
byte_orders = refl

-- encodings of base types (table 7.11), and languages (table 7.17)
encodings : AreStandard ((DW_ATE_float, 0x04) ∷ (DW_ATE_signed, 0x05) ∷ (DW_ATE_unsigned, 0x07) ∷ [])
encodings = refl

languages : AreStandard ((DW_LANG_C11, 0x1D) ∷ [])
languages = refl

-- operations of expressions (table 7.9), and the one of WebAssembly's tools
operations : AreStandard (
    (DW_OP_deref, 0x06) ∷ (DW_OP_const1u, 0x08) ∷ (DW_OP_const1s, 0x09) ∷ (DW_OP_const2u, 0x0A)
    ∷ (DW_OP_const2s, 0x0B) ∷ (DW_OP_const4u, 0x0C) ∷ (DW_OP_const4s, 0x0D) ∷ (DW_OP_const8u, 0x0E)
    ∷ (DW_OP_const8s, 0x0F) ∷ (DW_OP_constu, 0x10) ∷ (DW_OP_consts, 0x11) ∷ (DW_OP_dup, 0x12)
    ∷ (DW_OP_drop, 0x13) ∷ (DW_OP_over, 0x14) ∷ (DW_OP_pick, 0x15) ∷ (DW_OP_swap, 0x16)
    ∷ (DW_OP_rot, 0x17) ∷ (DW_OP_xderef, 0x18) ∷ (DW_OP_abs, 0x19) ∷ (DW_OP_and, 0x1A)
    ∷ (DW_OP_div, 0x1B) ∷ (DW_OP_minus, 0x1C) ∷ (DW_OP_mod, 0x1D) ∷ (DW_OP_mul, 0x1E)
    ∷ (DW_OP_neg, 0x1F) ∷ (DW_OP_not, 0x20) ∷ (DW_OP_or, 0x21) ∷ (DW_OP_plus, 0x22)
    ∷ (DW_OP_plus_uconst, 0x23) ∷ (DW_OP_shl, 0x24) ∷ (DW_OP_shr, 0x25) ∷ (DW_OP_shra, 0x26)
    ∷ (DW_OP_xor, 0x27) ∷ (DW_OP_bra, 0x28) ∷ (DW_OP_eq, 0x29) ∷ (DW_OP_ge, 0x2A)
    ∷ (DW_OP_gt, 0x2B) ∷ (DW_OP_le, 0x2C) ∷ (DW_OP_lt, 0x2D) ∷ (DW_OP_ne, 0x2E)
    ∷ (DW_OP_skip, 0x2F) ∷ (DW_OP_lit0, 0x30) ∷ (DW_OP_lit31, 0x4F) ∷ (DW_OP_reg0, 0x50)
    ∷ (DW_OP_breg0, 0x70) ∷ (DW_OP_regx, 0x90) ∷ (DW_OP_fbreg, 0x91) ∷ (DW_OP_bregx, 0x92)
    ∷ (DW_OP_piece, 0x93) ∷ (DW_OP_deref_size, 0x94) ∷ (DW_OP_xderef_size, 0x95) ∷ (DW_OP_nop, 0x96)
    ∷ (DW_OP_call_frame_cfa, 0x9C) ∷ (DW_OP_bit_piece, 0x9D) ∷ (DW_OP_stack_value, 0x9F) ∷ (DW_OP_WASM_location, 0xED) ∷ [])
operations = refl

-- sections in the index of a package (table 7.1)
package_sections : AreStandard (
    (DW_SECT_INFO, 1) ∷ (DW_SECT_ABBREV, 3) ∷ (DW_SECT_LINE, 4) ∷ (DW_SECT_LOCLISTS, 5) ∷ (DW_SECT_STR_OFFSETS, 6)
    ∷ (DW_SECT_MACRO, 7) ∷ (DW_SECT_RNGLISTS, 8) ∷ [])
package_sections = refl

-- instructions of call frames (table 7.29)
call_frame_instructions : AreStandard (
    (DW_CFA_nop, 0x00) ∷ (DW_CFA_advance_loc1, 0x02) ∷ (DW_CFA_advance_loc2, 0x03) ∷ (DW_CFA_advance_loc4, 0x04)
    ∷ (DW_CFA_offset_extended, 0x05) ∷ (DW_CFA_restore_extended, 0x06) ∷ (DW_CFA_undefined, 0x07) ∷ (DW_CFA_same_value, 0x08)
    ∷ (DW_CFA_remember_state, 0x0A) ∷ (DW_CFA_restore_state, 0x0B) ∷ (DW_CFA_def_cfa, 0x0C) ∷ (DW_CFA_def_cfa_register, 0x0D)
    ∷ (DW_CFA_def_cfa_offset, 0x0E) ∷ (DW_CFA_offset_extended_sf, 0x11) ∷ (DW_CFA_def_cfa_sf, 0x12) ∷ (DW_CFA_def_cfa_offset_sf, 0x13)
    ∷ (DW_CFA_advance_loc, 0x40) ∷ (DW_CFA_offset, 0x80) ∷ (DW_CFA_restore, 0xC0) ∷ [])
call_frame_instructions = refl
