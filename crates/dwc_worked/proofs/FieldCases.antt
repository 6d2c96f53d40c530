-- The fields of outputs, and their relocations.
use Rattle.std.proofs.Common.{◌≡◌, ℕ, ◌≤◌, ◌+◌, pos, List, [], ◌∷◌, ◌++◌, get_or, true, refl, sym, arith}
use Rattle.std.specs.Prelude.{Bool, All, codes, drop, AllPairs, nat_le, ◌&&◌}
use Rattle.std.proofs.lemmas.Bool.{leb-true, and_parts}
use Rattle.std.proofs.lemmas.List.Elements.{All-cons, All-nil}
use Rattle.std.proofs.lemmas.List.Kept.{AllPairs-cons}
use Rattle.dwc_worked.proofs.OnLiterals.{lines_on_literals}
use Rattle.dwc_worked.proofs.OnLists.{lists_on_literals}
use Rattle.dwc_worked.proofs.Readings.{three_sections}
use Rattle.dwc_worked.proofs.CarriedSmall.{output_small}
use Rattle.dwc_worked.proofs.SyntheticTrees.{to_section, synthetic_relocations}
use Rattle.dwc_base.specs.declared.records.Endian.TheVariants.{Little}
use Rattle.dwc_base.specs.declared.records.Address.TheVariants.{Constant, Symbol}
use Rattle.dwc_base.specs.declared.section_name.SectionName.TheVariants.{Abbrev, Info, Line, LineStr, Loc, Loclists, Ranges, Rnglists, Str}
use Rattle.dwc_base.specs.Sections.{Sections}
use Rattle.dwc_base.specs.Outputs.{OutputRelocation, OutputSection, function, section, output_sections}
use Rattle.dwc_output.specs.PathFields.{header_paths_at}
use Rattle.dwc_output.specs.Fields.{Field, an_address, offset_in, fields_at, fields_of_entry, fields_of_instructions, fields_of_line_table, fields_of_named, fields_of_section, relocations_of_fields, IsRelocated, AreRelocated}

-- the fields of a module's synthetic unit: its declarations, and a text for each name
abbrev synthetic_fields : List Field
synthetic_fields =
    record { offset = 6; size = 4; held = offset_in Abbrev 0 }
    ∷ record { offset = 12; size = 4; held = offset_in Str 0 }
    ∷ record { offset = 16; size = 4; held = offset_in Str 28 }
    ∷ record { offset = 23; size = 4; held = offset_in Str 37 }
    ∷ record { offset = 30; size = 4; held = offset_in Str 40 }
    ∷ record { offset = 39; size = 4; held = offset_in Str 44 }
    ∷ record { offset = 44; size = 4; held = offset_in Str 62 }
    ∷ record { offset = 48; size = 4; held = offset_in Str 70 }
    ∷ record { offset = 61; size = 4; held = offset_in Str 74 }
    ∷ record { offset = 70; size = 4; held = offset_in Str 93 } ∷ []

-- the fields of an output, its line table's in a section of its own
fields-info : fields_of_section (output_sections Little output_small) Info ≡
    synthetic_fields ++ (record { offset = 83; size = 4; held = offset_in Abbrev 68 } ∷ record { offset = 89; size = 4; held = offset_in Line 0 } ∷ record { offset = 94; size = 8; held = an_address (Symbol 0 (pos 0)) }
    ∷ record { offset = 104; size = 4; held = offset_in Str 108 } ∷ record { offset = 108; size = 4; held = offset_in Info 60 } ∷ record { offset = 112; size = 4; held = offset_in Loc 0 } ∷ [])
unfolding lines_on_literals fields_of_section fields_at fields_of_entry
fields-info = refl

fields-line : fields_of_section (output_sections Little output_small) Line ≡ record { offset = 40; size = 8; held = an_address (Symbol 0 (pos 0)) } ∷ []
unfolding lines_on_literals fields_of_section fields_of_line_table fields_of_instructions header_paths_at
fields-line = refl

-- One entry with the attributes low_pc (addr), name (strp), comp_dir (line_strp), ranges and location (sec_offset), import
-- (ref_addr), sibling (ref4, which is no such field) and external (flag), in a unit of version 4 with addresses of 4 bytes.
abbrev sections_forms : Sections
sections_forms = three_sections
    (0x01 ∷ 0x11 ∷ 0x00 ∷ 0x11 ∷ 0x01 ∷ 0x03 ∷ 0x0E ∷ 0x1B ∷ 0x1F ∷ 0x55 ∷ 0x17 ∷ 0x02 ∷ 0x17 ∷ 0x18 ∷ 0x10 ∷ 0x01 ∷ 0x13 ∷ 0x3F ∷ 0x0C ∷ 0x00 ∷ 0x00 ∷ 0x00 ∷ [])
    (0x25 ∷ 0x00 ∷ 0x00 ∷ 0x00 ∷ 0x04 ∷ 0x00 ∷ 0x00 ∷ 0x00 ∷ 0x00 ∷ 0x00 ∷ 0x04 ∷ 0x01
    ∷ 0x07 ∷ 0x00 ∷ 0x00 ∷ 0x00 ∷ 0x08 ∷ 0x00 ∷ 0x00 ∷ 0x00 ∷ 0x09 ∷ 0x00 ∷ 0x00 ∷ 0x00 ∷ 0x0A ∷ 0x00 ∷ 0x00 ∷ 0x00 ∷ 0x0B ∷ 0x00 ∷ 0x00 ∷ 0x00 ∷ 0x0C ∷ 0x00 ∷ 0x00 ∷ 0x00 ∷ 0x0D ∷ 0x00 ∷ 0x00 ∷ 0x00 ∷ 0x01 ∷ [])
    []

fields-forms : fields_of_section sections_forms Info ≡
    record { offset = 6; size = 4; held = offset_in Abbrev 0 } ∷ record { offset = 12; size = 4; held = an_address (Constant 7) } ∷ record { offset = 16; size = 4; held = offset_in Str 8 } ∷ record { offset = 20; size = 4; held = offset_in LineStr 9 }
    ∷ record { offset = 24; size = 4; held = offset_in Ranges 10 } ∷ record { offset = 28; size = 4; held = offset_in Loc 11 } ∷ record { offset = 32; size = 4; held = offset_in Info 12 } ∷ []
unfolding lines_on_literals fields_of_section fields_at fields_of_entry
fields-forms = refl

-- One entry of a unit of version 5, whose header is longer: location, ranges and the start of a scope (sec_offset), the base of
-- addresses by an index (sec_offset, which no value is read of), and the line table and a text by their form in front of them.
abbrev sections_5 : Sections
sections_5 = three_sections
    (0x01 ∷ 0x11 ∷ 0x00 ∷ 0x02 ∷ 0x17 ∷ 0x55 ∷ 0x17 ∷ 0x2C ∷ 0x17 ∷ 0x73 ∷ 0x17 ∷ 0x10 ∷ 0x16 ∷ 0x03 ∷ 0x16 ∷ 0x00 ∷ 0x00 ∷ 0x00 ∷ [])
    (0x23 ∷ 0x00 ∷ 0x00 ∷ 0x00 ∷ 0x05 ∷ 0x00 ∷ 0x01 ∷ 0x08 ∷ 0x00 ∷ 0x00 ∷ 0x00 ∷ 0x00 ∷ 0x01
    ∷ 0x07 ∷ 0x00 ∷ 0x00 ∷ 0x00 ∷ 0x08 ∷ 0x00 ∷ 0x00 ∷ 0x00 ∷ 0x09 ∷ 0x00 ∷ 0x00 ∷ 0x00 ∷ 0x08 ∷ 0x00 ∷ 0x00 ∷ 0x00 ∷ 0x17 ∷ 0x0A ∷ 0x00 ∷ 0x00 ∷ 0x00 ∷ 0x0E ∷ 0x0B ∷ 0x00 ∷ 0x00 ∷ 0x00 ∷ [])
    []

fields-5 : fields_of_section sections_5 Info ≡
    record { offset = 8; size = 4; held = offset_in Abbrev 0 } ∷ record { offset = 13; size = 4; held = offset_in Loclists 7 } ∷ record { offset = 17; size = 4; held = offset_in Rnglists 8 } ∷ record { offset = 21; size = 4; held = offset_in Rnglists 9 }
    ∷ record { offset = 30; size = 4; held = offset_in Line 10 } ∷ record { offset = 35; size = 4; held = offset_in Str 11 } ∷ []
unfolding lines_on_literals fields_of_section fields_at fields_of_entry
fields-5 = refl

-- In version 2 a reference to another unit has the size of an address, and a constant of four bytes is an offset of the line table.
abbrev sections_2 : Sections
sections_2 = three_sections
    (0x01 ∷ 0x11 ∷ 0x00 ∷ 0x18 ∷ 0x10 ∷ 0x10 ∷ 0x06 ∷ 0x00 ∷ 0x00 ∷ 0x00 ∷ [])
    (0x14 ∷ 0x00 ∷ 0x00 ∷ 0x00 ∷ 0x02 ∷ 0x00 ∷ 0x00 ∷ 0x00 ∷ 0x00 ∷ 0x00 ∷ 0x08 ∷ 0x01 ∷ 0x07 ∷ 0x00 ∷ 0x00 ∷ 0x00 ∷ 0x00 ∷ 0x00 ∷ 0x00 ∷ 0x00 ∷ 0x08 ∷ 0x00 ∷ 0x00 ∷ 0x00 ∷ [])
    []

fields-2 : fields_of_section sections_2 Info ≡ record { offset = 6; size = 4; held = offset_in Abbrev 0 } ∷ record { offset = 12; size = 8; held = offset_in Info 7 } ∷ record { offset = 20; size = 4; held = offset_in Line 8 } ∷ []
unfolding lines_on_literals fields_of_section fields_at fields_of_entry
fields-2 = refl

-- a number that stands where an address can has no relocation
relocations-forms : relocations_of_fields (record { offset = 12; size = 4; held = an_address (Constant 7) } ∷ record { offset = 16; size = 4; held = offset_in Str 8 } ∷ record { offset = 20; size = 4; held = an_address (Symbol 3 (pos 9)) } ∷ []) ≡
    record { offset = 16; size = 4; target = section (codes ".debug_str"); addend = pos 8 } ∷ record { offset = 20; size = 4; target = function 3; addend = pos 9 } ∷ []
relocations-forms = refl

-- the small output has the relocations of its fields
abbrev relocations_small : List OutputRelocation
relocations_small = synthetic_relocations ++ (to_section 83 (codes ".debug_abbrev") 68 ∷ to_section 89 (codes ".debug_line") 0 ∷ record { offset = 94; size = 8; target = function 0; addend = pos 0 }
    ∷ to_section 104 (codes ".debug_str") 108 ∷ to_section 108 (codes ".debug_info") 60 ∷ to_section 112 (codes ".debug_loc") 0 ∷ [])

relocations-info : relocations_of_fields (fields_of_section (output_sections Little output_small) Info) ≡ relocations_small
unfolding lines_on_literals fields_of_section fields_at fields_of_entry
relocations-info = refl

-- an empty list has none
relocations-loc : relocations_of_fields (fields_of_section (output_sections Little output_small) Loc) ≡ []
unfolding lists_on_literals fields_of_section fields_of_named
relocations-loc = refl

abbrev Behind : OutputRelocation → OutputRelocation → Type 0
Behind a b = a.offset + a.size ≤ b.offset

-- whether none of some fields begins before a place, nor before the end of the one in front of it
abbrev begin_behind : ℕ → List OutputRelocation → Bool
begin_behind place [] = true
begin_behind place (r ∷ rs) = nat_le place r.offset && begin_behind (r.offset + r.size) rs

all-behind : (from place : ℕ) (rs : List OutputRelocation) → from ≤ place → begin_behind place rs ≡ true → All (λ r. from ≤ r.offset) rs
all-behind from place [] before h = All-nil (λ r. from ≤ r.offset)
all-behind from place (r ∷ rs) before h =
    let parts = and_parts (nat_le place r.offset) (begin_behind (r.offset + r.size) rs) h in
    let here : place ≤ r.offset = leb-true place r.offset parts.0 in
    All-cons (λ r. from ≤ r.offset) r rs (omega (arith, before, here)) (all-behind from (r.offset + r.size) rs (omega (arith, before, here)) parts.1)

pub each-behind : (place : ℕ) (rs : List OutputRelocation) → begin_behind place rs ≡ true → AllPairs Behind rs
each-behind place [] h = λ i j d less within. absurd (omega (arith, within))
each-behind place (r ∷ rs) h =
    let parts = and_parts (nat_le place r.offset) (begin_behind (r.offset + r.size) rs) h in
    AllPairs-cons Behind r rs (all-behind (r.offset + r.size) (r.offset + r.size) rs (omega arith) parts.1) (each-behind (r.offset + r.size) rs parts.1)

abbrev no_section : OutputSection
no_section = record { name = []; body = []; relocations = [] }

pub related-small : AreRelocated Little output_small
unfolding lines_on_literals fields_of_section fields_of_line_table fields_of_instructions header_paths_at
related-small =
    let R : OutputSection → Type 0 = IsRelocated (output_sections Little output_small) in
    All-cons R (get_or output_small 0 no_section) (drop 1 output_small) (record { name = Abbrev; named = refl; fields = refl; rising = each-behind 0 [] refl })
    (All-cons R (get_or output_small 1 no_section) (drop 2 output_small) (record { name = Info; named = refl; fields = sym relocations-info; rising = each-behind 0 relocations_small refl })
    (All-cons R (get_or output_small 2 no_section) (drop 3 output_small) (record { name = Line; named = refl; fields = refl; rising = each-behind 0 (record { offset = 40; size = 8; target = function 0; addend = pos 0 } ∷ []) refl })
    (All-cons R (get_or output_small 3 no_section) (drop 4 output_small) (record { name = Loc; named = refl; fields = sym relocations-loc; rising = each-behind 0 [] refl })
    (All-cons R (get_or output_small 4 no_section) [] (record { name = Str; named = refl; fields = refl; rising = each-behind 0 [] refl }) (All-nil R)))))
