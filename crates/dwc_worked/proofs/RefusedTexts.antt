-- Wrong texts that the clauses on statuses 0 and 8 refuse, and a right answer.
use Rattle.std.proofs.Common.{◌≡◌, ℕ, zero, suc, List, [], ◌∷◌, ◌++◌, take, get_or, Some, None, Ok, true, refl, ap, subst, sym, ◌∙◌, arith}
use Rattle.std.specs.Prelude.{Option, is_some, codes}
use Rattle.std.specs.List.{list_all, filter, AllZip}
use Rattle.std.proofs.lemmas.Bool.{true≢false}
use Rattle.dwc_base.specs.declared.records.Endian.TheVariants.{Little}
use Rattle.dwc_base.specs.declared.faults.Kind.TheVariants.{Format64}
use Rattle.dwc_base.specs.Reading.{◌>>=◌}
use Rattle.dwc_base.specs.Sections.{Sections, unsupported}
use Rattle.dwc_dwarf.specs.LineRows.{LineTable, Segment}
use Rattle.dwc_native.specs.Images.{IsImageOf, is_carried_segment}
use Rattle.dwc_base.specs.Outputs.{OutputSection, output_sections}
use Rattle.dwc_rules.specs.Carried.{Module}
use Rattle.dwc_dwarf.specs.ReadUnits.{Unit, units, table_of_unit, segments_of, segments_of_unit}
use Rattle.dwc_carried.specs.Forests.{wanted_units, first_refusal}
use Rattle.dwc_carried.specs.LinesCarried.{CarriesUnit, HasLines, LinesCarried}
use Rattle.dwc_worked.proofs.LineTables.{at_line, segments_small}
use Rattle.dwc_worked.proofs.CarriedSmall.{module_small, unit_small, unit_out, table_of}
use Rattle.dwc_worked.proofs.WorkedImages.{Zipped, segment, image, image_in, not_image-at}
use Rattle.dwc_cli.specs.Inputs.{Loaded, loaded, compilation_of}
use Rattle.dwc_cli.specs.Printed.{printed, is_plain, line_feed}
use Rattle.dwc_cli.specs.RunStatus.{Carries, Succeeds, PrefixWritten}
use Rattle.dwc_worked.proofs.SmallModule.{file_small}
use Rattle.dwc_worked.proofs.Examples.{map_bytes_small}
use Rattle.dwc_cli.proofs.PrintedLaws.{printed_injective}
use Rattle.dwc_cli.proofs.OnLiterals.{printed_on_literals}
use Rattle.dwc_worked.proofs.WholeRun.{whole_on_literals, input_small, read_in, read_small, compilation_whole, compilation-small, all-read, carries_small}
use Rattle.dwc_worked.proofs.WholeOutput.{output_with, output_whole}
use Rattle.dwc_worked.proofs.BrokenInputs.{file_64, file_no_directory, with_small_map}
use Rattle.dwc_worked.proofs.Answers.{three_files, right_words, names}
use Rattle.dwc_worked.proofs.Refused.{small-read}

-- ---- the sections that a text stands for

-- an answer 0 over the small input whose text is printed of plain sections says that these carry its lines
sections_of : (known : List OutputSection) → list_all is_plain known ≡ true → Carries input_small (Some []) (Some (printed known)) → LinesCarried (compilation_of read_small) known
sections_of known plain h =
    let text : ◌≡◌ {A = Option (List ℕ)} (Some (printed known)) (Some (printed h.sections)) = h.written in
    let texts : printed known ≡ printed h.sections = cc in
    let same : h.sections ≡ known = sym (printed_injective known h.sections plain h.carry.plain texts) in
    let found : loaded input_small ≡ Some h.carry.read = h.carry.is_read in
    let reads : h.carry.read ≡ read_small = cc (found, small-read) in
    subst (λ s. LinesCarried (compilation_of read_small) s) same (subst (λ r. LinesCarried (compilation_of r) h.sections) reads h.carry.carried.lines)

-- so a text of other sections is no answer 0
refused-text : (known : List OutputSection) → list_all is_plain known ≡ true → (LinesCarried (compilation_of read_small) known → ⊥) → Succeeds (Some (three_files map_bytes_small file_small [])) right_words (Some []) (Some (printed known)) → ⊥
refused-text known plain wrong h = wrong (sections_of known plain (h input_small (names map_bytes_small file_small [])))

-- ---- no text at all

pub no_units : units (output_sections Little []) ≡ record { items = []; fault = None }
unfolding whole_on_literals
no_units = refl

-- the module has a unit of its own, and the small unit is carried, so an output without units carries nothing
nothing_carried : LinesCarried (compilation_of read_small) [] → ⊥
unfolding whole_on_literals
nothing_carried h =
    let items : h.output ≡ [] = ap (λ l. l.items) (sym h.output_read ∙ no_units) in
    subst (λ us. AllZip (HasLines 4 (output_sections Little [])) (wanted_units (compilation_of read_small)) us) items h.each

empty_text : Succeeds (Some (three_files map_bytes_small file_small [])) right_words (Some []) (Some []) → ⊥
unfolding printed
empty_text h = refused-text [] refl nothing_carried h

-- ---- a wrong line

-- the wanted output with the carried unit's last line advanced by two
abbrev pub output_wrong : List OutputSection
output_wrong = output_with (0x39 ∷ 0x00 ∷ 0x00 ∷ 0x00 ∷ 0x04 ∷ 0x00 ∷ 0x1B ∷ 0x00 ∷ 0x00 ∷ 0x00 ∷ 0x01 ∷ 0x01 ∷ 0x01 ∷ 0xFB ∷ 0x0E ∷ 0x0D ∷ 0x00 ∷ 0x01 ∷ 0x01 ∷ 0x01 ∷ 0x01 ∷ 0x00 ∷ 0x00 ∷ 0x00 ∷ 0x01 ∷ 0x00 ∷ 0x00 ∷ 0x01 ∷ 0x00 ∷ 0x61 ∷ 0x2E ∷ 0x63 ∷ 0x00 ∷ 0x00 ∷ 0x00 ∷ 0x00 ∷ 0x00 ∷ 0x00 ∷ 0x09 ∷ 0x02 ∷ 0x00 ∷ 0x00 ∷ 0x00 ∷ 0x00 ∷ 0x00 ∷ 0x00 ∷ 0x00 ∷ 0x00 ∷ 0x03 ∷ 0x01 ∷ 0x01 ∷ 0x03 ∷ 0x02 ∷ 0x02 ∷ 0x0F ∷ 0x01 ∷ 0x02 ∷ 0x0F ∷ 0x00 ∷ 0x01 ∷ 0x01 ∷ [])

-- the one segment of its carried unit has line 4 from byte 15 on
wrong-segments : segments_of_unit (output_sections Little output_wrong) unit_out ≡ Ok (image (at_line 0 2 ∷ at_line 15 4 ∷ []) ∷ [])
unfolding whole_on_literals
wrong-segments = refl

-- the small input's module
abbrev pub first_module : List Module → Module
first_module [] = module_small
first_module (m ∷ ms) = m

abbrev pub module_read : Module
module_read = first_module (compilation_of read_small).modules

-- the second unit of such an output carries the small unit
carries_unit : LinesCarried (compilation_of read_small) output_wrong → CarriesUnit 4 (output_sections Little output_wrong) (record { module_of = module_read; unit = unit_small }) unit_out
unfolding whole_on_literals
carries_unit h =
    let items : h.output ≡ (units (output_sections Little output_wrong)).items = ap (λ l. l.items) (sym h.output_read) in
    (subst (λ us. AllZip (HasLines 4 (output_sections Little output_wrong)) (wanted_units (compilation_of read_small)) us) items h.each).1.0

-- and its segments are images of the small segments
small_segments : segments_of_unit module_read.sections unit_small ≡ Ok segments_small
unfolding whole_on_literals
small_segments = refl

-- the small input's function is the one that the images are of
zipped_small : (input images : List Segment) → AllZip (IsImageOf module_read.functions) (filter (is_carried_segment module_read.functions) input) images → Zipped input images
unfolding whole_on_literals
zipped_small input images h = h

-- the segments of a unit are those of its table
segments-read : (s : Sections) (u : Unit) (t : Option LineTable) → table_of_unit s u ≡ Ok t → segments_of_unit s u ≡ Ok (segments_of t)
unfolding segments_of_unit
segments-read s u t is = ap (λ x. x >>= λ t. Ok (segments_of t)) is

-- line 4 at byte 15 is no input row there
wrong_line_carried : LinesCarried (compilation_of read_small) output_wrong → ⊥
wrong_line_carried h =
    let u = carries_unit h in
    let written : segments_of_unit (output_sections Little output_wrong) unit_out ≡ Ok (segments_of u.made) = segments-read (output_sections Little output_wrong) unit_out u.made u.made_read in
    let images : segments_of u.made ≡ image (at_line 0 2 ∷ at_line 15 4 ∷ []) ∷ [] = cc (written, wrong-segments) in
    let read : segments_of_unit module_read.sections unit_small ≡ Ok u.carried.input = u.carried.input_read in
    let input : u.carried.input ≡ segments_small = cc (read, small_segments) in
    let each = zipped_small u.carried.input (segments_of u.made) u.carried.each in
    let zipped : Zipped segments_small (image (at_line 0 2 ∷ at_line 15 4 ∷ []) ∷ []) = subst (λ q. Zipped q (image (at_line 0 2 ∷ at_line 15 4 ∷ []) ∷ [])) input (subst (λ q. Zipped u.carried.input q) images each) in
    let is_image = image_in (segment 2 (at_line 0 1 ∷ at_line 3 2 ∷ at_line 8 3 ∷ []) (Some 11)) (image (at_line 0 2 ∷ at_line 15 4 ∷ [])) refl zipped.0 in
    not_image-at 15 2 (at_line 0 1 ∷ at_line 3 2 ∷ at_line 8 3 ∷ []) (Some 11) (at_line 0 2 ∷ at_line 15 4 ∷ []) refl (λ e. omega (arith, e)) is_image

wrong_line : Succeeds (Some (three_files map_bytes_small file_small [])) right_words (Some []) (Some (printed output_wrong)) → ⊥
wrong_line h = refused-text output_wrong refl wrong_line_carried h

-- ---- a name with a line feed

-- A section of the 64-bit format stands first, and a list of sections that has the same text has it in a name: a reader of
-- the text meets it, and the other list would carry the lines.
abbrev pub output_hidden : List OutputSection
output_hidden = record { name = codes ".debug_info 4" ++ line_feed ++ codes "ffffffff" ++ line_feed ++ codes "section x"; body = []; relocations = [] } ∷ output_whole

abbrev pub output_in_sight : List OutputSection
output_in_sight = record { name = codes ".debug_info"; body = 0xFF ∷ 0xFF ∷ 0xFF ∷ 0xFF ∷ []; relocations = [] } ∷ record { name = codes "x"; body = []; relocations = [] } ∷ output_whole

same_text-hidden : printed output_hidden ≡ printed output_in_sight
unfolding printed_on_literals
same_text-hidden = refl

hidden : LinesCarried compilation_whole output_hidden
unfolding whole_on_literals
hidden = record {
  whole = all-read;
  output = (units (output_sections Little output_hidden)).items;
  output_read = refl;
  each = (
    refl,
    (
      carries_small (output_sections Little output_hidden) (table_of 1 output_hidden) refl (record { version_is = refl; directories = refl; files = refl }) refl,
      (record { made = table_of 2 output_hidden; made_read = refl; version_is = refl; directories = refl; files = refl; each = tt }, tt),
    ),
  );
}

carried-hidden : LinesCarried (compilation_of read_small) output_hidden
carried-hidden = subst (λ c. LinesCarried c output_hidden) (sym compilation-small) hidden

-- the list without hidden names is unreadable
fault-in_sight : (units (output_sections Little output_in_sight)).fault ≡ Some (unsupported Format64 0)
unfolding whole_on_literals
fault-in_sight = refl

in_sight_carried : LinesCarried (compilation_of read_small) output_in_sight → ⊥
unfolding whole_on_literals
in_sight_carried h = let none : (units (output_sections Little output_in_sight)).fault ≡ None = ap (λ l. l.fault) h.output_read in true≢false (ap is_some (sym fault-in_sight ∙ none))

hidden_name : Succeeds (Some (three_files map_bytes_small file_small [])) right_words (Some []) (Some (printed output_hidden)) → ⊥
hidden_name h = refused-text output_in_sight refl in_sight_carried (subst (λ text. Succeeds (Some (three_files map_bytes_small file_small [])) right_words (Some []) (Some text)) same_text-hidden h)

-- ---- what was written before

-- a printed text does not begin with the byte 1
first_byte : (sections : List OutputSection) → get_or (printed sections) 0 0 ≡ 1 → ⊥
unfolding printed
first_byte [] e = omega (arith, e)
first_byte (s ∷ ss) e = omega (arith, e)

-- so an answer that drops what was written before is refused
earlier_dropped : Succeeds (Some (three_files map_bytes_small file_small [])) right_words (Some (1 ∷ [])) (Some (printed output_whole)) → ⊥
earlier_dropped h =
    let carries = h input_small (names map_bytes_small file_small []) in
    let text : ◌≡◌ {A = Option (List ℕ)} (Some (printed output_whole)) (Some (1 ∷ printed carries.sections)) = carries.written in
    let texts : printed output_whole ≡ 1 ∷ printed carries.sections = cc in
    first_byte output_whole (ap (λ t. get_or t 0 0) texts)

-- ---- status 8: what was written is the front of a text

-- no text that is printed begins with an `x`
front_of_text : (sections : List OutputSection) (count : ℕ) → take count (printed sections) ≡ 120 ∷ [] → ⊥
unfolding printed
front_of_text sections zero e = omega (arith, ap (λ t. get_or t 0 0) e)
front_of_text [] (suc count) e = omega (arith, ap (λ t. get_or t 0 0) e)
front_of_text (s ∷ ss) (suc count) e = omega (arith, ap (λ t. get_or t 0 0) e)

no_front : PrefixWritten (Some (three_files map_bytes_small file_small [])) right_words (Some []) (Some (120 ∷ [])) → ⊥
no_front h =
    let carries = h input_small (names map_bytes_small file_small []) in
    let text : ◌≡◌ {A = Option (List ℕ)} (Some (120 ∷ [])) (Some (take carries.count (printed carries.sections))) = carries.written in
    let texts : take carries.count (printed carries.sections) ≡ 120 ∷ [] = cc in
    front_of_text carries.sections carries.count texts

-- the first ten bytes of the wanted text
front-small : take 10 (printed output_whole) ≡ codes "section .d"
unfolding whole_on_literals printed_on_literals
front-small = refl

-- ---- inputs of which something is refused: no text, nor a front of one

abbrev pub read_of : List ℕ → Loaded
read_of file = read_in (loaded (with_small_map file))

-- an answer that says of an input that nothing of it is refused
accepted-of : (file : List ℕ) (read : Loaded) → loaded (with_small_map file) ≡ Some (read_of file) → loaded (with_small_map file) ≡ Some read → first_refusal (compilation_of read) ≡ None → first_refusal (compilation_of (read_of file)) ≡ None
accepted-of file read known is_read accepted = let same : read ≡ read_of file = cc in subst (λ r. first_refusal (compilation_of r) ≡ None) same accepted

refused-64 : first_refusal (compilation_of (read_of file_64)) ≡ None → ⊥
unfolding whole_on_literals
refused-64 e = cc

read-64 : loaded (with_small_map file_64) ≡ Some (read_of file_64)
unfolding whole_on_literals
read-64 = refl

format_64-text : (before now : Option (List ℕ)) → Succeeds (Some (three_files map_bytes_small file_64 [])) right_words before now → ⊥
format_64-text before now h = let carries = h _ (names map_bytes_small file_64 []) in refused-64 (accepted-of file_64 carries.carry.read read-64 carries.carry.is_read carries.carry.accepted)

format_64-front : (before now : Option (List ℕ)) → PrefixWritten (Some (three_files map_bytes_small file_64 [])) right_words before now → ⊥
format_64-front before now h = let carries = h _ (names map_bytes_small file_64 []) in refused-64 (accepted-of file_64 carries.carry.read read-64 carries.carry.is_read carries.carry.accepted)

-- a file of a directory that is not there
refused-no_directory : first_refusal (compilation_of (read_of file_no_directory)) ≡ None → ⊥
unfolding whole_on_literals
refused-no_directory e = cc

read-no_directory : loaded (with_small_map file_no_directory) ≡ Some (read_of file_no_directory)
unfolding whole_on_literals
read-no_directory = refl

no_directory-text : (before now : Option (List ℕ)) → Succeeds (Some (three_files map_bytes_small file_no_directory [])) right_words before now → ⊥
no_directory-text before now h = let carries = h _ (names map_bytes_small file_no_directory []) in refused-no_directory (accepted-of file_no_directory carries.carry.read read-no_directory carries.carry.is_read carries.carry.accepted)
