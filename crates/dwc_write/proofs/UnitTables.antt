-- The line tables of given units say what was given: `segments-given`. Their names stand among the texts of all: `names-there`.
use Rattle.std.proofs.Common.{◌≡◌, ℕ, zero, suc, ◌<◌, ◌≤◌, ◌⊎◌, inl, inr, refl, sym, ap, subst, ◌∙◌, arith, List, [], ◌∷◌, ◌++◌, length, map, take, get_or, lit<, Option, Some, None, Bool, true, false}
use Rattle.std.specs.Prelude.{◌==◌, if◌then◌else◌, option_and_then, slice_get}
use Rattle.std.specs.List.{All, flat_map, list_any}
use Rattle.std.specs.Str.{bytes_eq}
use Rattle.std.proofs.lemmas.List.Elements.{All-head, All-tail, All-cons, All-nil, All-append, All-weaker}
use Rattle.dwc_base.specs.declared.records.Endian.{Endian}
use Rattle.dwc_base.specs.declared.records.LineRow.{LineRow}
use Rattle.dwc_base.specs.declared.constants.TheConstants.{DW_AT_comp_dir}
use Rattle.dwc_dwarf.specs.LineHeaders.{LineFile}
use Rattle.dwc_dwarf.specs.LineRows.{source_file, in_directory, named_row}
use Rattle.dwc_dwarf.specs.TreeLaws.{texts_ended}
use Rattle.dwc_output.specs.NewWidest.{names_in}
use Rattle.dwc_output.specs.Versions.{files_written, is_old}
use Rattle.dwc_section.specs.Writers.{most_bytes}
use Rattle.dwc_unit.specs.declared.attributes.Attribute.{Attribute}
use Rattle.dwc_unit.specs.declared.attributes.AttributeValue.{AttributeValue}
use Rattle.dwc_unit.specs.declared.attributes.AttributeValue.TheVariants.{StringRef}
use Rattle.dwc_unit.specs.GivenLines.{FitsLines, GivenLines}
use Rattle.dwc_unit.specs.GivenSegments.{given_file, given_row, given_segment, given_segments}
use Rattle.dwc_unit.specs.GivenUnits.{GivenEntry, OrderedUnit, IsWrittenVersion, version_of}
use Rattle.dwc_unit.specs.LineNames.{line_texts, names_of_lines, names_of_unit, own_directory}
use Rattle.dwc_unit.specs.SpelledLines.{FitsFile, FitsName, FitsSequence, WrittenSequence, read_line_table, read_segment}
use Rattle.dwc_unit.specs.TextTables.{AreTexts, IsText}
use Rattle.dwc_unit.specs.UsedTexts.{text_numbered}
use Rattle.dwc_unit.proofs.ReadValues.{All-back, All-front}
use Rattle.dwc_write.specs.PathTables.{AreAmong, FitsPaths, with_paths}
use Rattle.dwc_write.specs.SpelledSections.{FitsTable, PlacedTable, read_table}
use Rattle.dwc_write.specs.UnitNames.{own_among, text_said_by}
use Rattle.dwc_write.proofs.PathLaws.{paths-among, paths-plain}
use Rattle.dwc_write.proofs.ReadPathTables.{HasFile, path-segments-named}
use Rattle.dwc_write.proofs.TableFits.{AreNamesThere}
use Rattle.dwc_write.proofs.UnitNameLaws.{own-first}

-- ---- rows and sequences

module _ (order : Endian) (size place : ℕ) (g : GivenLines) (all : List WrittenSequence) where
  file-given : (n : ℕ) → source_file (read_line_table order size place g.directories g.files all) n ≡ given_file g n
  file-given zero = refl
  file-given (suc n) = refl

  rows-given : (rs : List LineRow) → map (named_row (read_line_table order size place g.directories g.files all)) rs ≡ map (given_row g) rs
  rows-given [] = refl
  rows-given (r ∷ rs) =
      ap (λ f. record { offset = r.offset; source = record { file = f; line = r.line; column = r.column; is_stmt = r.is_stmt; basic_block = r.basic_block; prologue_end = r.prologue_end; epilogue_begin = r.epilogue_begin; isa = r.isa; discriminator = r.discriminator } } ∷ map (named_row (read_line_table order size place g.directories g.files all)) rs) (file-given r.file)
      ∙ ap (λ xs. given_row g r ∷ xs) (rows-given rs)

  old-given : (qs : List WrittenSequence) → map (read_segment (read_line_table order size place g.directories g.files all)) qs ≡ map (given_segment g) qs
  old-given [] = refl
  old-given (q ∷ qs) =
      ap (λ rs. record { start = q.start_address; rows = rs; end = Some q.end_offset } ∷ map (read_segment (read_line_table order size place g.directories g.files all)) qs) (rows-given q.rows)
      ∙ ap (λ xs. given_segment g q ∷ xs) (old-given qs)

-- each row of sequences that fit has a file
files-named : (size : ℕ) (qs : List WrittenSequence) → All (FitsSequence size) qs → All (λ q. All HasFile q.rows) qs
files-named size qs fits = λ k d within row e inside. ((fits k d within).rows row e inside).some_file

-- The segments of a table that is read are the given sequences.
pub segments-given : (order : Endian) (size : ℕ) (p : PlacedTable) → FitsTable order size p.table → (g : GivenLines) → p.table.directories ≡ g.directories → p.table.files ≡ g.files → p.table.sequences ≡ g.sequences
    → map (read_segment (read_table order size p)) p.table.sequences ≡ given_segments g
segments-given order size p (inl (e, old)) g directories files sequences = rw (e, directories, files, sequences) (old-given order size p.offset g g.sequences g.sequences)
segments-given order size p (inr (e, new)) g directories files sequences =
    rw (e, directories, files, sequences)
    (path-segments-named order size p.offset p.offset p.table.texts p.table.own g.directories g.files g.sequences g.sequences (files-named size g.sequences (subst (All (FitsSequence size)) sequences new.sequences)) ∙ old-given order size p.offset g g.sequences g.sequences)

-- ---- names without zeros

text-plain : (texts : List (List ℕ)) → All IsText texts → (n : ℕ) → IsText (text_numbered texts n)
text-plain [] plain n = All-nil _
text-plain (t ∷ ts) plain zero = All-head IsText t ts plain
text-plain (t ∷ ts) plain (suc n) = text-plain ts (All-tail IsText t ts plain) n

said-plain : (texts : List (List ℕ)) → All IsText texts → (v : AttributeValue) → IsText (text_said_by texts v)
said-plain texts plain (StringRef id) = text-plain texts plain id.index
said-plain texts plain _ = All-nil _

among-plain : (texts : List (List ℕ)) → All IsText texts → (xs : List Attribute) → IsText (own_among texts xs)
among-plain texts plain [] = All-nil _
among-plain texts plain (a ∷ others) = go (a.name == DW_AT_comp_dir) (among-plain texts plain others)
  where
    go : (b : Bool) → IsText (own_among texts others) → IsText (if b then text_said_by texts a.value else own_among texts others)
    go true rest = said-plain texts plain a.value
    go false rest = rest

own-plain : (texts : List (List ℕ)) → All IsText texts → (u : OrderedUnit) → IsText (own_directory texts u)
own-plain texts plain u = go u.entries refl
  where
    go : (es : List GivenEntry) → u.entries ≡ es → IsText (own_directory texts u)
    go [] e = rw (e) (All-nil _)
    go (x ∷ xs) e = subst IsText (own-first texts u x xs e) (among-plain texts plain x.attributes)

names-plain : (names : List (List ℕ)) → All FitsName names → All IsText names
names-plain names fits = λ k d within. (fits k d within).plain

files-plain : (files : List LineFile) → All FitsFile files → All IsText (map (λ f. f.name) files)
files-plain [] fits = All-nil _
files-plain (f ∷ fs) fits = All-cons IsText f.name (map (λ f. f.name) fs) ((All-head FitsFile f fs fits).name).plain (files-plain fs (All-tail FitsFile f fs fits))

written-plain : (files : List LineFile) → All FitsFile files → All IsText (map (λ f. f.name) (files_written 5 files))
written-plain [] fits = All-nil _
written-plain (f ∷ fs) fits = All-cons IsText f.name (map (λ f. f.name) (f ∷ fs)) ((All-head FitsFile f fs fits).name).plain (files-plain (f ∷ fs) fits)

unit-plain : (texts : List (List ℕ)) → All IsText texts → (u : OrderedUnit) → FitsLines u.lines → All IsText (names_of_unit texts u)
unit-plain texts plain u fits = go u.lines.address_size
  where
    go : (n : Option ℕ) → All IsText (names_of_lines (own_directory texts u) n u.lines)
    go None = All-nil _
    go (Some n) =
        All-cons IsText (own_directory texts u) (u.lines.directories ++ map (λ f. f.name) (files_written 5 u.lines.files)) (own-plain texts plain u)
        (All-append IsText u.lines.directories (map (λ f. f.name) (files_written 5 u.lines.files)) (names-plain u.lines.directories fits.directories) (written-plain u.lines.files fits.files))

all-plain : (texts : List (List ℕ)) → All IsText texts → (us : List OrderedUnit) → All (λ u. FitsLines u.lines) us → All IsText (flat_map (names_of_unit texts) us)
all-plain texts plain [] fits = All-nil _
all-plain texts plain (u ∷ us) fits =
    All-append IsText (names_of_unit texts u) (flat_map (names_of_unit texts) us) (unit-plain texts plain u (All-head (λ (v : OrderedUnit). FitsLines v.lines) u us fits)) (all-plain texts plain us (All-tail (λ (v : OrderedUnit). FitsLines v.lines) u us fits))

-- ---- names among the texts of all

each-among : (version : ℕ) (known : List (List ℕ)) (texts : List (List ℕ)) (us : List OrderedUnit) → FitsPaths known → AreAmong known (flat_map (names_of_unit texts) us) → All (λ u. AreNamesThere u.version known (names_of_unit texts u)) us
each-among version known texts [] fits among = All-nil _
each-among version known texts (u ∷ us) fits among =
    All-cons (λ (v : OrderedUnit). AreNamesThere v.version known (names_of_unit texts v)) u us (λ e. (fits, All-front (λ name. list_any (bytes_eq name) known ≡ true) (names_of_unit texts u) (flat_map (names_of_unit texts) us) among))
    (each-among version known texts us fits (All-back (λ name. list_any (bytes_eq name) known ≡ true) (names_of_unit texts u) (flat_map (names_of_unit texts) us) among))

-- The names of units stand among the texts of all, which are short.
pub names-there : (texts : List (List ℕ)) (us : List OrderedUnit) → IsWrittenVersion (version_of us) → All (λ u. u.version ≡ version_of us) us → AreTexts texts → All (λ u. FitsLines u.lines) us → length (texts_ended (line_texts texts us)) ≤ most_bytes
    → All (λ u. AreNamesThere u.version (line_texts texts us) (names_of_unit texts u)) us
names-there texts us (inl four) same table fits short = λ k d within is. absurd (omega (arith, four, same k d within, is))
names-there texts us (inr five) same table fits short =
    let names = flat_map (names_of_unit texts) us in
    let known : line_texts texts us ≡ with_paths [] names = rw (five) refl in
    let small : length (texts_ended (with_paths [] names)) ≤ most_bytes = rw (known) at short in
    let there = each-among 5 (with_paths [] names) texts us (record { plain = paths-plain names [] (All-nil IsText) (all-plain texts table.plain us fits); short = small }) (paths-among names []) in
    subst (λ ts. All (λ (u : OrderedUnit). AreNamesThere u.version ts (names_of_unit texts u)) us) (sym known) there
