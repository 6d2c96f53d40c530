-- What the output says of the code of an entry, which subprograms are required, and what is refused on the way.
use Rattle.std.proofs.Common.{◌≡◌, ℕ, pos, List, [], ◌∷◌, Some, None, Ok, Err, true, false, refl}
use Rattle.std.specs.Prelude.{map, Bool}
use Rattle.dwc_base.specs.declared.records.Address.TheVariants.{Constant, Symbol}
use Rattle.dwc_base.specs.declared.records.Endian.TheVariants.{Little}
use Rattle.dwc_base.specs.declared.section_name.SectionName.TheVariants.{Info, Ranges, Rnglists}
use Rattle.dwc_base.specs.declared.faults.What.TheVariants.{AddressValue, RangeList}
use Rattle.dwc_base.specs.declared.constants.TheConstants.{DW_AT_high_pc, DW_AT_low_pc, DW_AT_ranges, DW_AT_sibling, DW_AT_start_scope, DW_FORM_data4, DW_FORM_data8, DW_FORM_udata, DW_TAG_compile_unit, DW_TAG_lexical_block, DW_TAG_subprogram}
use Rattle.dwc_base.specs.Sections.{unreadable}
use Rattle.dwc_dwarf.specs.Values.{Value, address, address_index, constant, flag, range_reference}
use Rattle.dwc_dwarf.specs.Entries.{Entry}
use Rattle.dwc_native.specs.Functions.{Function}
use Rattle.dwc_dwarf.specs.Trees as tree
use Rattle.dwc_dwarf.specs.Trees.{Interval, TreeValue}
use Rattle.dwc_rules.specs.Drafts.{done}
use Rattle.dwc_dwarf.specs.RawLists.{ListSource}
use Rattle.dwc_dwarf.specs.Lists.{ListRefusal, of_place, long_range}
use Rattle.dwc_rules.specs.RangeKept.{is_required}
use Rattle.dwc_rules.specs.RangeAttributes.{range_attributes}
use Rattle.dwc_rules.specs.Clones.{entry_refusals}
use Rattle.dwc_rules.specs.RangeRules.{range_rules, code_becomes}
use Rattle.dwc_rules.specs.RangeRefusals.{subprogram_faults}
use Rattle.dwc_native.specs.Addends.{is_long}
use Rattle.dwc_worked.proofs.OnLists.{ranges_on_literals}
use Rattle.dwc_worked.proofs.SmallLists.{source_of, no_texts}
use Rattle.dwc_worked.proofs.RunCases.{a_function}

-- the function of the small module, behind one without a symbol
abbrev pub small_functions : List Function
small_functions = a_function 0 (Some 0) 2 13 30 ((5, Some 5) ∷ (8, None) ∷ (15, Some 10) ∷ (23, None) ∷ []) ∷ a_function 1 None 13 20 9 [] ∷ []

-- lists (5, 6) and (10, 11) at 0, (7, 7) at 24, (0, 6) at 40, and one without its end at 56; the addresses 5, 14 by an
-- index
abbrev pub small_source : ListSource
small_source = source_of 4 4 (Constant 0) (Constant 5 ∷ Constant 14 ∷ []) Little Ranges
    (0x05 ∷ 0 ∷ 0 ∷ 0 ∷ 0x06 ∷ 0 ∷ 0 ∷ 0 ∷ 0x0A ∷ 0 ∷ 0 ∷ 0 ∷ 0x0B ∷ 0 ∷ 0 ∷ 0 ∷ 0 ∷ 0 ∷ 0 ∷ 0 ∷ 0 ∷ 0 ∷ 0 ∷ 0 ∷ 0x07 ∷ 0 ∷ 0 ∷ 0 ∷ 0x07 ∷ 0 ∷ 0 ∷ 0 ∷ 0 ∷ 0 ∷ 0 ∷ 0 ∷ 0 ∷ 0 ∷ 0 ∷ 0
    ∷ 0 ∷ 0 ∷ 0 ∷ 0 ∷ 0x06 ∷ 0 ∷ 0 ∷ 0 ∷ 0 ∷ 0 ∷ 0 ∷ 0 ∷ 0 ∷ 0 ∷ 0 ∷ 0 ∷ 0x05 ∷ 0 ∷ 0 ∷ 0 ∷ 0x06 ∷ 0 ∷ 0 ∷ 0 ∷ [])
    []

abbrev pub an_entry : ℕ → List (ℕ × Value) → Entry
an_entry tag attributes = record { offset = 16; depth = 1; tag = tag; attributes = attributes }

abbrev pub low : ℕ → ℕ × Value
low a = (DW_AT_low_pc, address (Constant a))

abbrev pub long : ℕ → ℕ × Value
long n = (DW_AT_high_pc, constant DW_FORM_data4 n)

abbrev pub upto : ℕ → ℕ × Value
upto a = (DW_AT_high_pc, address (Constant a))

abbrev pub listed : ℕ → ℕ × Value
listed n = (DW_AT_ranges, range_reference n)

abbrev pub said_of : ℕ → List (ℕ × Value) → List (ℕ × TreeValue)
said_of tag attributes = range_attributes small_source small_functions (an_entry tag attributes)

abbrev pub said_low : ℕ → ℕ × TreeValue
said_low n = (DW_AT_low_pc, tree.address (Symbol 0 (pos n)))

abbrev pub said_high : ℕ → ℕ × TreeValue
said_high n = (DW_AT_high_pc, tree.constant DW_FORM_udata n)

abbrev pub in_small : ℕ → ℕ → Interval
in_small a b = record { begin = Symbol 0 (pos a); end = Symbol 0 (pos b) }

abbrev pub said_ranges : List Interval → ℕ × TreeValue
said_ranges is = (DW_AT_ranges, tree.ranges is)

-- ---- blocks

block-length : said_of DW_TAG_lexical_block (low 5 ∷ long 5 ∷ []) ≡ said_low 5 ∷ said_high 18 ∷ []
unfolding ranges_on_literals
block-length = refl

block-end : said_of DW_TAG_lexical_block (upto 9 ∷ low 6 ∷ []) ≡ said_low 8 ∷ said_high 7 ∷ []
unfolding ranges_on_literals
block-end = refl

block-list : said_of DW_TAG_lexical_block (listed 0 ∷ []) ≡ said_ranges (in_small 5 15 ∷ in_small 15 30 ∷ []) ∷ []
unfolding ranges_on_literals
block-list = refl

-- an empty list, and an empty interval of bounds, are said by nothing; so is a high_pc alone
block-empty-list : said_of DW_TAG_lexical_block (listed 24 ∷ []) ≡ []
unfolding ranges_on_literals
block-empty-list = refl

block-empty : said_of DW_TAG_lexical_block (low 5 ∷ long 0 ∷ []) ≡ []
unfolding ranges_on_literals
block-empty = refl

block-high-alone : said_of DW_TAG_lexical_block (long 5 ∷ []) ≡ []
unfolding ranges_on_literals
block-high-alone = refl

-- a list of an interval that begins at an address that was not linked is said by an empty list
block-unlinked : said_of DW_TAG_lexical_block (listed 40 ∷ []) ≡ said_ranges [] ∷ []
unfolding ranges_on_literals
block-unlinked = refl

-- a list stands before bounds; one that is a constant counts for nothing
block-both : said_of DW_TAG_lexical_block (low 5 ∷ long 5 ∷ listed 24 ∷ []) ≡ []
unfolding ranges_on_literals
block-both = refl

block-no-list : said_of DW_TAG_lexical_block ((DW_AT_ranges, constant DW_FORM_data4 0) ∷ low 5 ∷ long 5 ∷ []) ≡ said_low 5 ∷ said_high 18 ∷ []
unfolding ranges_on_literals
block-no-list = refl

-- A position is an address of its function, or 0. A low_pc may be an address by an index; one that is none counts as not
-- there; and so does a high_pc that is neither a length nor an address.
positions : map (λ a. said_of DW_TAG_lexical_block (low a ∷ [])) (6 ∷ 13 ∷ 0 ∷ 0xFFFFFFFF ∷ []) ≡ (said_low 8 ∷ []) ∷ ((DW_AT_low_pc, tree.address (Constant 0)) ∷ []) ∷ ((DW_AT_low_pc, tree.address (Constant 0)) ∷ []) ∷ ((DW_AT_low_pc, tree.address (Constant 0)) ∷ []) ∷ []
unfolding ranges_on_literals
positions = refl

position-index : said_of DW_TAG_lexical_block ((DW_AT_low_pc, address_index 0) ∷ []) ≡ said_low 5 ∷ []
unfolding ranges_on_literals
position-index = refl

position-constant : said_of DW_TAG_lexical_block ((DW_AT_low_pc, constant DW_FORM_data4 5) ∷ long 5 ∷ []) ≡ []
unfolding ranges_on_literals
position-constant = refl

position-flag : said_of DW_TAG_lexical_block (low 6 ∷ (DW_AT_high_pc, flag true) ∷ []) ≡ said_low 8 ∷ []
unfolding ranges_on_literals
position-flag = refl

bounds-index : said_of DW_TAG_lexical_block ((DW_AT_low_pc, address_index 0) ∷ (DW_AT_high_pc, address_index 1) ∷ []) ≡ said_low 5 ∷ said_high 25 ∷ []
unfolding ranges_on_literals
bounds-index = refl

-- ---- roots

root-list : said_of DW_TAG_compile_unit (low 0 ∷ listed 0 ∷ []) ≡ said_ranges (in_small 5 15 ∷ in_small 15 30 ∷ []) ∷ []
unfolding ranges_on_literals
root-list = refl

-- one interval of a compile_unit is a list all the same, and a low_pc alone is 0
root-bounds : said_of DW_TAG_compile_unit (low 5 ∷ long 5 ∷ []) ≡ said_ranges (in_small 5 23 ∷ []) ∷ []
unfolding ranges_on_literals
root-bounds = refl

root-low : said_of DW_TAG_compile_unit (low 5 ∷ []) ≡ (DW_AT_low_pc, tree.address (Constant 0)) ∷ []
unfolding ranges_on_literals
root-low = refl

-- ---- subprograms

-- one that begins in a function is that function whole, wherever it begins in it, by its low_pc or by its list
subprogram-low : said_of DW_TAG_subprogram (low 6 ∷ long 2 ∷ []) ≡ said_low 0 ∷ said_high 30 ∷ []
unfolding ranges_on_literals
subprogram-low = refl

subprogram-list : said_of DW_TAG_subprogram (listed 0 ∷ []) ≡ said_low 0 ∷ said_high 30 ∷ []
unfolding ranges_on_literals
subprogram-list = refl

-- with a low_pc that was not linked its list is translated as another entry's; with a low_pc that is no address it begins
-- at its list
subprogram-unlinked : said_of DW_TAG_subprogram (low 0 ∷ listed 0 ∷ []) ≡ said_ranges (in_small 5 15 ∷ in_small 15 30 ∷ []) ∷ []
unfolding ranges_on_literals
subprogram-unlinked = refl

subprogram-constant : said_of DW_TAG_subprogram ((DW_AT_low_pc, constant DW_FORM_data4 5) ∷ listed 0 ∷ []) ≡ said_low 0 ∷ said_high 30 ∷ []
unfolding ranges_on_literals
subprogram-constant = refl

-- in a function without a symbol it begins in none
subprogram-no-symbol : map (said_of DW_TAG_subprogram) ((low 14 ∷ long 2 ∷ []) ∷ (low 14 ∷ []) ∷ []) ≡ (said_ranges [] ∷ []) ∷ ((DW_AT_low_pc, tree.address (Constant 0)) ∷ []) ∷ []
unfolding ranges_on_literals
subprogram-no-symbol = refl

-- ---- other attributes

other-values :
    map (code_becomes small_source small_functions 16) (address (Constant 6) ∷ address (Constant 0) ∷ address_index 1 ∷ address_index 7 ∷ range_reference 0 ∷ range_reference 24 ∷ range_reference 56 ∷ [])
    ≡ Ok (Some (done (tree.address (Symbol 0 (pos 8))))) ∷ Ok (Some (done (tree.address (Constant 0)))) ∷ Ok (Some (done (tree.address (Constant 0)))) ∷ Err (of_place (unreadable AddressValue Info 16))
    ∷ Ok (Some (done (tree.ranges (in_small 5 15 ∷ in_small 15 30 ∷ [])))) ∷ Ok (Some (done (tree.ranges []))) ∷ Err (of_place (unreadable RangeList Ranges 56)) ∷ []
unfolding ranges_on_literals
other-values = refl

-- ---- required subprograms

abbrev pub requires : List (ℕ × Value) → Bool
requires attributes = is_required small_source small_functions (an_entry DW_TAG_subprogram attributes)

-- By the begin of a pair; by the low_pc beside the list, in place, whatever the pairs are; a low_pc by an index says
-- nothing there, nor does a list that is none.
required-lists :
    map requires
    ((listed 0 ∷ []) ∷ (listed 40 ∷ []) ∷ (low 5 ∷ listed 40 ∷ []) ∷ (low 0 ∷ listed 0 ∷ []) ∷ ((DW_AT_low_pc, address_index 1) ∷ listed 0 ∷ []) ∷ (low 5 ∷ (DW_AT_ranges, constant DW_FORM_data4 0) ∷ []) ∷ (listed 24 ∷ []) ∷ [])
    ≡ true ∷ false ∷ true ∷ false ∷ true ∷ false ∷ true ∷ []
unfolding ranges_on_literals
required-lists = refl

required-begins : map requires ((low 5 ∷ []) ∷ ((DW_AT_low_pc, address_index 0) ∷ []) ∷ ((DW_AT_low_pc, address_index 1) ∷ []) ∷ ((DW_AT_low_pc, address_index 7) ∷ []) ∷ [] ∷ []) ≡ true ∷ true ∷ false ∷ false ∷ false ∷ []
unfolding ranges_on_literals
required-begins = refl

-- from version 5 on an entry shows code by its start alone, and an offset pair never does
abbrev pub shows : List ℕ → Bool
shows bytes = is_required (source_of 5 4 (Constant 5) (Constant 5 ∷ Constant 14 ∷ []) Little Rnglists bytes []) small_functions (an_entry DW_TAG_subprogram (low 5 ∷ listed 0 ∷ []))

required-kinds :
    map shows
    ((0x04 ∷ 0 ∷ 3 ∷ 0 ∷ []) ∷ (0x01 ∷ 0 ∷ 0x04 ∷ 0 ∷ 3 ∷ 0 ∷ []) ∷ (0x02 ∷ 0 ∷ 1 ∷ 0 ∷ []) ∷ (0x02 ∷ 1 ∷ 0 ∷ 0 ∷ []) ∷ (0x03 ∷ 0 ∷ 0 ∷ 0 ∷ []) ∷ (0x06 ∷ 0 ∷ 0 ∷ 0 ∷ 0 ∷ 5 ∷ 0 ∷ 0 ∷ 0 ∷ 0 ∷ [])
    ∷ (0x06 ∷ 5 ∷ 0 ∷ 0 ∷ 0 ∷ 5 ∷ 0 ∷ 0 ∷ 0 ∷ 0 ∷ []) ∷ (0x07 ∷ 5 ∷ 0 ∷ 0 ∷ 0 ∷ 0 ∷ 0 ∷ []) ∷ [])
    ≡ false ∷ false ∷ true ∷ false ∷ true ∷ false ∷ true ∷ true ∷ []
unfolding ranges_on_literals
required-kinds = refl

-- up to version 4 a base that is selected decides for the pairs behind it
abbrev pub shows_old : ℕ → Bool
shows_old base = is_required (source_of 4 4 (Constant 0) [] Little Ranges (0xFF ∷ 0xFF ∷ 0xFF ∷ 0xFF ∷ base ∷ 0 ∷ 0 ∷ 0 ∷ 0 ∷ 0 ∷ 0 ∷ 0 ∷ 2 ∷ 0 ∷ 0 ∷ 0 ∷ 0 ∷ 0 ∷ 0 ∷ 0 ∷ 0 ∷ 0 ∷ 0 ∷ 0 ∷ []) []) small_functions (an_entry DW_TAG_subprogram (low 0 ∷ listed 0 ∷ []))

required-base : map shows_old (5 ∷ 14 ∷ 0 ∷ []) ≡ true ∷ false ∷ false ∷ []
unfolding ranges_on_literals
required-base = refl

-- ---- refusals

abbrev pub refused_of : ℕ → List (ℕ × Value) → List ListRefusal
refused_of tag attributes = entry_refusals (range_rules (λ r. r) small_source small_functions) no_texts (record { unit = 0; entry = an_entry tag attributes })

abbrev pub too_long : ℕ × Value
too_long = (DW_AT_high_pc, constant DW_FORM_data8 0xFFFFFFFFFFFFFFFB)

abbrev pub no_end : ListRefusal
no_end = of_place (unreadable RangeList Ranges 56)

abbrev pub no_index : ListRefusal
no_index = of_place (unreadable AddressValue Info 16)

-- a sum of 2 ^ 64 is refused at the later of both bounds, whichever that is, and one less is not
bounds-long : refused_of DW_TAG_lexical_block (low 5 ∷ too_long ∷ []) ≡ long_range ∷ []
unfolding ranges_on_literals
bounds-long = refl

bounds-not-long : refused_of DW_TAG_lexical_block (low 4 ∷ too_long ∷ []) ≡ []
unfolding ranges_on_literals
bounds-not-long = refl

abbrev pub scoped : ℕ × Value
scoped = (DW_AT_start_scope, range_reference 56)

later-bound : refused_of DW_TAG_lexical_block (too_long ∷ scoped ∷ low 5 ∷ low 5 ∷ []) ≡ no_end ∷ long_range ∷ []
unfolding ranges_on_literals
later-bound = refl

-- in the order of the attributes
order : refused_of DW_TAG_lexical_block ((DW_AT_low_pc, address_index 7) ∷ listed 56 ∷ (DW_AT_high_pc, address_index 8) ∷ []) ≡ no_index ∷ no_end ∷ no_index ∷ []
unfolding ranges_on_literals
order = refl

-- beside a list the interval of both bounds is not looked at; nor is anything of a subprogram that begins in a function
-- by its low_pc
beside-list : refused_of DW_TAG_lexical_block (low 5 ∷ too_long ∷ listed 0 ∷ []) ≡ []
unfolding ranges_on_literals
beside-list = refl

begun : map (refused_of DW_TAG_subprogram) ((low 5 ∷ too_long ∷ []) ∷ (low 5 ∷ listed 56 ∷ []) ∷ (listed 56 ∷ []) ∷ (low 5 ∷ scoped ∷ []) ∷ (low 14 ∷ too_long ∷ []) ∷ []) ≡ [] ∷ [] ∷ (no_end ∷ []) ∷ (no_end ∷ []) ∷ (long_range ∷ []) ∷ []
unfolding ranges_on_literals
begun = refl

-- what is dropped by its name is not read
dropped-name : refused_of DW_TAG_lexical_block ((DW_AT_sibling, address_index 7) ∷ []) ≡ []
unfolding ranges_on_literals
dropped-name = refl

-- of a subprogram its list comes before its low_pc, and sums are not looked at
subprogram-order : subprogram_faults small_source (an_entry DW_TAG_subprogram ((DW_AT_low_pc, address_index 7) ∷ listed 56 ∷ [])) ≡ unreadable RangeList Ranges 56 ∷ unreadable AddressValue Info 16 ∷ []
unfolding ranges_on_literals
subprogram-order = refl

subprogram-sums : subprogram_faults (source_of 5 4 (Constant 0) [] Little Rnglists (0x07 ∷ 5 ∷ 0 ∷ 0 ∷ 0 ∷ 0xFF ∷ 0xFF ∷ 0xFF ∷ 0xFF ∷ 0xFF ∷ 0xFF ∷ 0xFF ∷ 0xFF ∷ 0xFF ∷ 0x01 ∷ 0x00 ∷ []) []) (an_entry DW_TAG_subprogram (listed 0 ∷ [])) ≡ []
unfolding ranges_on_literals
subprogram-sums = refl

-- a function of 2 ^ 31 bytes is too long, if it has a symbol
lengths : map is_long (a_function 3 (Some 0) 2 13 0x7FFFFFFF [] ∷ a_function 4 (Some 0) 2 13 0x80000000 [] ∷ a_function 5 None 2 13 0x80000000 [] ∷ []) ≡ false ∷ true ∷ false ∷ []
lengths = refl
