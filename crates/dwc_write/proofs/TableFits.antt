-- The line table that is written of a unit fits: `table-fits` and `tables-fit`. All tables take their names from the same texts: `tables-texts`.
use Rattle.std.proofs.Common.{◌≡◌, ℕ, ◌+◌, ◌<◌, ◌≤◌, ◌⊎◌, inl, inr, refl, ap, subst, arith, List, [], ◌∷◌, ◌++◌, length, length-append, Option, Some, None}
use Rattle.std.specs.List.{All}
use Rattle.std.proofs.lemmas.List.Elements.{All-head, All-tail, All-cons, All-nil, All-append, All-weaker}
use Rattle.dwc_base.specs.declared.records.Endian.{Endian}
use Rattle.dwc_base.specs.NumberBytes.{number_bytes}
use Rattle.dwc_section.specs.Writers.{most_bytes}
use Rattle.dwc_unit.specs.GivenLines.{GivenLines, FitsLines, FitsSequences, FitsGivenSequence}
use Rattle.dwc_unit.specs.GivenUnits.{FitsOrdered, IsOfSize, IsWrittenVersion, OrderedUnit}
use Rattle.dwc_unit.specs.LineNames.{names_of_lines, names_of_unit, own_directory}
use Rattle.dwc_unit.specs.SpelledLines.{FitsSequence, line_body, line_table_bytes, sequences_instructions}
use Rattle.dwc_write.specs.Layouts.{AllPlaces, table_of, written_lines, written_tables}
use Rattle.dwc_write.specs.PathTables.{AreAmong, FitsPaths, path_table_body, path_table_bytes}
use Rattle.dwc_write.specs.SpelledSections.{WrittenTable, one_table_bytes, lines_bytes, FitsTable}

-- the table that is written of a line program, by its address size
abbrev pub lines_for : ℕ → List (List ℕ) → List ℕ → Option ℕ → GivenLines → List WrittenTable
lines_for version texts own None g = []
lines_for version texts own (Some n) g = record { version = version; texts = texts; own = own; directories = g.directories; files = g.files; sequences = g.sequences } ∷ []

pub lines-are : (version : ℕ) (texts : List (List ℕ)) (own : List ℕ) (g : GivenLines) → written_lines version texts own g ≡ lines_for version texts own g.address_size g
lines-are version texts own g = go g.address_size
  where
    go : (n : Option ℕ) → ◌≡◌ {A = List WrittenTable} (elim n [ None ↦ [] | Some size ↦ record { version = version; texts = texts; own = own; directories = g.directories; files = g.files; sequences = g.sequences } ∷ [] ]) (lines_for version texts own n g)
    go None = refl
    go (Some n) = refl

-- ---- what a table of a version asks

-- What the names of a version 5 ask: they are among the texts of the table, and these fit.
abbrev pub AreNamesThere : ℕ → List (List ℕ) → List (List ℕ) → Type 0
AreNamesThere version texts names = version ≡ 5 → FitsPaths texts × AreAmong texts names

one-fits : (order : Endian) (size version : ℕ) (texts : List (List ℕ)) (own : List ℕ) (g : GivenLines) → (size ≡ 4) ⊎ (size ≡ 8) → IsWrittenVersion version → FitsLines g → (n : ℕ) → n ≡ size → FitsSequences (Some n) g.sequences g.begun → AreNamesThere version texts (names_of_lines own (Some n) g)
    → length (lines_bytes order size (lines_for version texts own (Some n) g)) ≤ most_bytes
    → FitsTable order size (record { version = version; texts = texts; own = own; directories = g.directories; files = g.files; sequences = g.sequences })
one-fits order size version texts own g known written fits n same sequences names short = go written
  where
    t : WrittenTable
    t = record { version = version; texts = texts; own = own; directories = g.directories; files = g.files; sequences = g.sequences }

    each : All (FitsSequence size) g.sequences
    each = let P : ℕ → Type 0 = λ m. All (FitsGivenSequence m) g.sequences in All-weaker (FitsGivenSequence size) (FitsSequence size) (λ q h. h.sequence) g.sequences (subst P same sequences.0)

    whole : length (one_table_bytes order size t) ≤ most_bytes
    whole = omega (arith, short, length-append (one_table_bytes order size t) [])

    go : IsWrittenVersion version → FitsTable order size t
    go (inl e) =
        let body = line_body order size g.directories g.files (sequences_instructions g.sequences) in
        let is : one_table_bytes order size t ≡ line_table_bytes order size g.directories g.files (sequences_instructions g.sequences) = rw (e) refl in
        let less : length body < 0xFFFFFFF0 = omega (arith, whole, ap length is, length-append (number_bytes order 4 (length body)) body) in
        inl (e, record { directories = fits.directories; files = fits.files; sequences = each; short = less })
    go (inr e) =
        let body = path_table_body order size texts own g.directories g.files (sequences_instructions g.sequences) in
        let is : one_table_bytes order size t ≡ path_table_bytes order size texts own g.directories g.files (sequences_instructions g.sequences) = rw (e) refl in
        let less : length body < 0xFFFFFFF0 = omega (arith, whole, ap length is, length-append (number_bytes order 4 (length body)) body) in
        let there = names e in
        inr (e, record { size_known = known; paths = there.0; names = there.1; each_file = fits.files; sequences = each; short = less })

-- The table of a unit fits, where it is short, and in version 5 its names are among the texts.
pub table-fits : (order : Endian) (size version : ℕ) (texts : List (List ℕ)) (own : List ℕ) (g : GivenLines) → (size ≡ 4) ⊎ (size ≡ 8) → IsWrittenVersion version → FitsLines g → IsOfSize size g.address_size → AreNamesThere version texts (names_of_lines own g.address_size g)
    → length (lines_bytes order size (written_lines version texts own g)) ≤ most_bytes → All (FitsTable order size) (written_lines version texts own g)
table-fits order size version texts own g known written fits sized names short =
    let here : length (lines_bytes order size (lines_for version texts own g.address_size g)) ≤ most_bytes = rw (← lines-are version texts own g) short in
    rw (lines-are version texts own g) (go g.address_size sized fits.sequences names here)
  where
    go : (n : Option ℕ) → IsOfSize size n → FitsSequences n g.sequences g.begun → AreNamesThere version texts (names_of_lines own n g) → length (lines_bytes order size (lines_for version texts own n g)) ≤ most_bytes → All (FitsTable order size) (lines_for version texts own n g)
    go None sized sequences names short = All-nil _
    go (Some n) sized sequences names short = All-cons (FitsTable order size) _ [] (one-fits order size version texts own g known written fits n sized sequences names short) (All-nil (FitsTable order size))

-- The tables of all units fit.
pub tables-fit : (order : Endian) (size : ℕ) (all : AllPlaces) (us : List OrderedUnit) → (size ≡ 4) ⊎ (size ≡ 8) → All (λ (u : OrderedUnit). u.address_size ≡ size) us → All FitsOrdered us → All (λ (u : OrderedUnit). FitsLines u.lines) us
    → All (λ (u : OrderedUnit). AreNamesThere u.version all.names (names_of_unit all.table u)) us → length (lines_bytes order size (written_tables all us)) ≤ most_bytes → All (FitsTable order size) (written_tables all us)
tables-fit order size all [] known sized fits lines names short = All-nil _
tables-fit order size all (u ∷ us) known sized fits lines names short =
    let S : OrderedUnit → Type 0 = λ v. v.address_size ≡ size in
    let L : OrderedUnit → Type 0 = λ v. FitsLines v.lines in
    let N : OrderedUnit → Type 0 = λ v. AreNamesThere v.version all.names (names_of_unit all.table v) in
    let O : ℕ → Type 0 = λ n. IsOfSize n u.lines.address_size in
    let unit = All-head FitsOrdered u us fits in
    let total = lengths-both (table_of all u) (written_tables all us) in
    let own = table-fits order size u.version all.names (own_directory all.table u) u.lines known unit.version (All-head L u us lines) (subst O (All-head S u us sized) unit.lines) (All-head N u us names) (omega (arith, short, total)) in
    All-append (FitsTable order size) (table_of all u) (written_tables all us) own
    (tables-fit order size all us known (All-tail S u us sized) (All-tail FitsOrdered u us fits) (All-tail L u us lines) (All-tail N u us names) (omega (arith, short, total)))
  where
    lengths-both : (xs ys : List WrittenTable) → length (lines_bytes order size (xs ++ ys)) ≡ length (lines_bytes order size xs) + length (lines_bytes order size ys)
    lengths-both [] ys = omega arith
    lengths-both (x ∷ xs) ys = omega (arith, lengths-both xs ys, length-append (one_table_bytes order size x) (lines_bytes order size xs), length-append (one_table_bytes order size x) (lines_bytes order size (xs ++ ys)))

-- ---- the texts of all tables

lines-texts : (version : ℕ) (texts : List (List ℕ)) (own : List ℕ) (g : GivenLines) → All (λ (t : WrittenTable). t.texts ≡ texts) (written_lines version texts own g)
lines-texts version texts own g = rw (lines-are version texts own g) (go g.address_size)
  where
    go : (n : Option ℕ) → All (λ (t : WrittenTable). t.texts ≡ texts) (lines_for version texts own n g)
    go None = All-nil _
    go (Some n) = All-cons (λ (t : WrittenTable). t.texts ≡ texts) _ [] refl (All-nil (λ (t : WrittenTable). t.texts ≡ texts))

pub tables-texts : (all : AllPlaces) (us : List OrderedUnit) → All (λ (t : WrittenTable). t.texts ≡ all.names) (written_tables all us)
tables-texts all [] = All-nil _
tables-texts all (u ∷ us) = All-append (λ (t : WrittenTable). t.texts ≡ all.names) (table_of all u) (written_tables all us) (lines-texts u.version all.names (own_directory all.table u) u.lines) (tables-texts all us)
