-- What each attribute of a kept entry becomes: texts, constants, flags, blocks, references and the line table here; what speaks of
-- code by rules that are handed in. (DWARF 4 and 5, sections 2.2 and 7.5; what is dropped is this project's own choice.)
use Rattle.std.specs.Prelude.{ℕ, suc, ◌==◌, List, [], ◌∷◌, ◌++◌, Bool, true, false, nat_lt, not, ◌&&◌, ◌||◌, if◌then◌else◌, Option, Some, None, option_map, is_some, Result, Ok, Err}
use Rattle.std.specs.List.{filter_map}
use Rattle.dwc_base.specs.declared.section_name.SectionName.TheVariants.{Info}
use Rattle.dwc_base.specs.declared.faults.What.TheVariants.{Text}
use Rattle.dwc_base.specs.declared.constants.TheConstants.{DW_AT_addr_base, DW_AT_high_pc, DW_AT_loclists_base, DW_AT_low_pc, DW_AT_ranges, DW_AT_rnglists_base, DW_AT_sibling, DW_AT_stmt_list, DW_AT_str_offsets_base, DW_FORM_data1, DW_FORM_implicit_const, DW_FORM_sdata, DW_FORM_udata, DW_TAG_base_type}
use Rattle.dwc_base.specs.Reading.{◌>>=◌}
use Rattle.dwc_base.specs.Sections.{Fault, reported}
use Rattle.dwc_dwarf.specs.Values as Values
use Rattle.dwc_dwarf.specs.Values.{Value, is_one_of}
use Rattle.dwc_dwarf.specs.LineRows.{LineTable, file_numbered}
use Rattle.dwc_rules.specs.Kept.{Placed}
use Rattle.dwc_base.specs.declared.constants.TheConstants.{DW_AT_GNU_locviews, DW_AT_call_file, DW_AT_decl_file, DW_AT_dwo_name, DW_AT_endianity, DW_AT_macro_info, DW_AT_macros, DW_END_little}
use Rattle.dwc_dwarf.specs.Texts.{TextSource, text_named}
use Rattle.dwc_rules.specs.Targets.{target_of}
use Rattle.dwc_dwarf.specs.Trees.{TreeValue, constant, flag, block, text, line_table}
use Rattle.dwc_rules.specs.Drafts.{itself, made_of, DraftValue, done, goes_to}

-- What the attributes of a unit's entries are read with: its version and that of the output, its texts, its line table, and the entries of
-- its section.
pub record UnitSource : Type 0 where
  pub version : ℕ
  pub output_version : ℕ
  pub texts : TextSource
  pub table : Option LineTable
  pub entries : List Placed

-- The rules for what speaks of code, E being what they can refuse: what a fault of a place is; of `low_pc`, `high_pc` and `ranges`
-- what is written in front, and what is refused of each where it stands, behind the attributes before it; what an address, a list or
-- an expression becomes, behind those before it; which names go once they were read; and what is refused of an entry behind its attributes.
pub record CodeRules (E : Type 0) : Type 0 where
  pub of_fault : Fault → E
  pub bounds : Placed → List (ℕ × DraftValue)
  pub refused_bound : Placed → List (ℕ × Value) → ℕ × Value → Option E
  pub other : Placed → List (ℕ × Value) → ℕ × Value → Result (Option DraftValue) E
  pub goes : Placed → ℕ → Bool
  pub behind : Placed → List E

-- ---- names

-- The names that go: what speaks of a place in the input, or of sections that are not carried. These are sibling,
-- macro_info, the bases of indexes, dwo_name, macros and GNU_locviews.
abbrev pub is_dropped_name : ℕ → Bool
is_dropped_name name = is_one_of (DW_AT_sibling ∷ DW_AT_macro_info ∷ DW_AT_str_offsets_base ∷ DW_AT_addr_base ∷ DW_AT_rnglists_base ∷ DW_AT_loclists_base ∷ DW_AT_dwo_name ∷ DW_AT_macros ∷ DW_AT_GNU_locviews ∷ []) name

-- the names that bound an entry's code
abbrev pub is_bound_name : ℕ → Bool
is_bound_name name = is_one_of (DW_AT_low_pc ∷ DW_AT_high_pc ∷ DW_AT_ranges ∷ []) name

-- the names of a constant that numbers a file
abbrev pub is_file_name : ℕ → Bool
is_file_name name = (name == DW_AT_decl_file) || (name == DW_AT_call_file)

-- ---- values

-- a constant's form in the output, where abbreviations hold no values
abbrev pub constant_form : ℕ → ℕ
constant_form form = if form == DW_FORM_implicit_const then DW_FORM_sdata else form

-- Where a unit has no line table, its files are missing; below version 5 number 0 says that no file is named.
abbrev pub file_number : ℕ → Option LineTable → ℕ → Option ℕ
file_number version None n = if nat_lt version 5 && (n == 0) then Some 0 else None
file_number version (Some t) n =
    if nat_lt t.header.version 5
    then (if n == 0 then Some 0 else option_map (λ f. n) (file_numbered t n))
    else option_map (λ f. suc n) (file_numbered t n)

-- Number 0 names no file up to version 4, and one from version 5 on: in an output of version 5 an attribute that names none goes.
abbrev pub number_written : ℕ → Option ℕ → Option ℕ
number_written version None = None
number_written version (Some n) = if nat_lt version 5 || not (n == 0) then Some n else None

-- what a constant becomes: a file's number is another in the output, and one of a missing file goes
abbrev pub constant_becomes : UnitSource → ℕ → ℕ → ℕ → Option TreeValue
constant_becomes s name form bits = if is_file_name name then option_map (constant DW_FORM_udata) (number_written s.output_version (file_number s.version s.table bits)) else Some (constant (constant_form form) bits)

-- the entry that is made of the one that a reference goes to
abbrev pub reference_becomes : UnitSource → Placed → Value → Option DraftValue
reference_becomes s e v = option_map (λ f. goes_to (made_of f.entry.offset itself)) (target_of s.entries e v)

-- a text that was read by its bytes, or why it was not
abbrev pub text_drafted : {E : Type 0} → (Fault → E) → Result (Option (List ℕ)) Fault → Result (Option DraftValue) E
text_drafted of_fault (Err fault) = Err (of_fault fault)
text_drafted of_fault (Ok bytes) = Ok (option_map (λ b. done (text b)) bytes)

-- what a text becomes; one that cannot be read is told at its entry
abbrev pub text_becomes : {E : Type 0} → CodeRules E → UnitSource → Placed → Value → Result (Option DraftValue) E
text_becomes rules s e v = text_drafted rules.of_fault (reported Text Info e.entry.offset (text_named s.texts v))

-- what a value becomes, under a name that does not decide alone
unfoldable pub value_becomes : {E : Type 0} → CodeRules E → UnitSource → Placed → List (ℕ × Value) → ℕ → Value → Result (Option DraftValue) E
value_becomes rules s e before name (Values.constant form bits) = Ok (option_map done (constant_becomes s name form bits))
value_becomes rules s e before name (Values.flag b) = Ok (Some (done (flag b)))
value_becomes rules s e before name (Values.block bytes) = Ok (Some (done (block bytes)))
value_becomes rules s e before name (Values.text bytes) = text_becomes rules s e (Values.text bytes)
value_becomes rules s e before name (Values.text_reference form n) = text_becomes rules s e (Values.text_reference form n)
value_becomes rules s e before name (Values.unit_reference n) = Ok (reference_becomes s e (Values.unit_reference n))
value_becomes rules s e before name (Values.info_reference n) = Ok (reference_becomes s e (Values.info_reference n))
value_becomes rules s e before name (Values.line_reference n) = Ok None
value_becomes rules s e before name Values.dropped = Ok None
value_becomes rules s e before name v = rules.other e before (name, v)

-- nothing, unless it is refused
abbrev pub nothing_unless : {E : Type 0} → Option E → Result (Option DraftValue) E
nothing_unless None = Ok None
nothing_unless (Some refusal) = Err refusal

-- A bound becomes nothing where it stands, behind some others; what it names is read there.
unfoldable pub bound_becomes : {E : Type 0} → CodeRules E → UnitSource → Placed → List (ℕ × Value) → ℕ × Value → Result (Option DraftValue) E
bound_becomes rules s e before a = text_becomes rules s e a.1 >>= λ read. nothing_unless (rules.refused_bound e before a)

-- the line table is named by roots alone
abbrev pub table_becomes : UnitSource → Placed → Option DraftValue
table_becomes s e = if (e.entry.depth == 0) && is_some s.table then Some (done line_table) else None

-- a value that was read, and goes if said so
abbrev pub kept_unless : {E : Type 0} → Bool → Result (Option DraftValue) E → Result (Option DraftValue) E
kept_unless false v = v
kept_unless true v = v >>= λ read. Ok None

-- What an attribute of a kept entry becomes, behind some others, or what is refused of it.
unfoldable pub attribute_becomes : {E : Type 0} → CodeRules E → UnitSource → Placed → List (ℕ × Value) → ℕ × Value → Result (Option DraftValue) E
attribute_becomes rules s e before a =
    elim (is_dropped_name a.0) [
      | true ↦ Ok None
      | false ↦ elim (a.0 == DW_AT_stmt_list) [
        | true ↦ Ok (table_becomes s e)
        | false ↦ elim (is_bound_name a.0) [ true ↦ bound_becomes rules s e before a | false ↦ kept_unless (rules.goes e a.0) (value_becomes rules s e before a.0 a.1) ]
      ]
    ]

-- what attributes behind some others become, in order, each with its name
unfoldable pub attributes_become : {E : Type 0} → CodeRules E → UnitSource → Placed → List (ℕ × Value) → List (ℕ × Value) → List (ℕ × Result (Option DraftValue) E)
attributes_become rules s e before [] = []
attributes_become rules s e before (a ∷ as') = (a.0, attribute_becomes rules s e before a) ∷ attributes_become rules s e (before ++ (a ∷ [])) as'

-- ---- entries

-- an attribute of a name that became something
abbrev pub if_made : {E : Type 0} → ℕ → Result (Option DraftValue) E → Option (ℕ × DraftValue)
if_made name (Ok (Some v)) = Some (name, v)
if_made name (Ok None) = None
if_made name (Err refusal) = None

-- one that is refused
abbrev pub if_refused : {E : Type 0} → Result (Option DraftValue) E → Option E
if_refused (Ok v) = None
if_refused (Err refusal) = Some refusal

-- on a target with the highest byte first a base type says that it has the byte order of wasm
abbrev pub endianity : Bool → Placed → List (ℕ × DraftValue)
endianity big_endian e = if big_endian && (e.entry.tag == DW_TAG_base_type) then (DW_AT_endianity, done (constant DW_FORM_data1 DW_END_little)) ∷ [] else []

-- The attributes of the entry that is made of a kept one: those that bound its code, then the others in their order. A name may
-- stand several times; the last of its values will hold, in the place of the first.
unfoldable pub attributes_made : {E : Type 0} → CodeRules E → UnitSource → Bool → Placed → List (ℕ × DraftValue)
attributes_made rules s big_endian e = rules.bounds e ++ filter_map (λ a. if_made a.0 a.1) (attributes_become rules s e [] e.entry.attributes) ++ endianity big_endian e

-- What is refused of a kept entry: attribute by attribute, and then behind them.
unfoldable pub entry_refusals : {E : Type 0} → CodeRules E → UnitSource → Placed → List E
entry_refusals rules s e = filter_map (λ a. if_refused a.1) (attributes_become rules s e [] e.entry.attributes) ++ rules.behind e
