-- A section is refused only where its widest size is too large: of the units up to the one that is refused, and so of all.
use Rattle.std.proofs.Common.{◌≡◌, ℕ, zero, suc, ◌+◌, ◌<◌, ◌≤◌, inl, inr, refl, sym, ap, subst, ◌∙◌, arith, List, [], ◌∷◌, length, take, get_or, Err}
use Rattle.std.specs.Prelude.{Result, IfErr, sum_by}
use Rattle.std.specs.List.{All}
use Rattle.std.proofs.lemmas.List.Elements.{All-head, All-tail, All-cons, All-nil, All-weaker}
use Rattle.std.proofs.lemmas.List.Sums.{sum_by-take-le}
use Rattle.dwc_base.specs.declared.records.Endian.{Endian}
use Rattle.dwc_base.specs.declared.records.Endian.TheVariants.{Little}
use Rattle.dwc_base.specs.declared.section_name.SectionName.{SectionName}
use Rattle.dwc_base.specs.declared.section_name.SectionName.TheVariants.{Abbrev, Addr, Info, Line, LineStr, Loc, Loclists, Ranges, Rnglists, Str, StrOffsets, CuIndex, Frame}
use Rattle.dwc_output.specs.FieldKinds.{section_of_locations, section_of_ranges}
use Rattle.dwc_section.specs.declared.error.WriteError.{WriteError}
use Rattle.dwc_section.specs.declared.error.WriteError.TheVariants.{TooLarge, InvalidFrameCodeOffset, InvalidFrameDataOffset, OutOfMemory}
use Rattle.dwc_unit.specs.SpelledTables.{table_bytes}
use Rattle.dwc_write.specs.SpelledSections.{placed_unit_bytes, lines_bytes}
use Rattle.dwc_unit.specs.GivenLines.{FitsLines}
use Rattle.dwc_unit.specs.GivenUnits.{OrderedUnit, FitsOrdered, IsWritable, AreWritable, size_of, version_of}
use Rattle.dwc_unit.specs.Lists.{locations_in, no_lists, ranges_in}
use Rattle.dwc_write.specs.Layouts.{AllPlaces, table_of, unit_length}
use Rattle.dwc_write.specs.SpelledOutput.{WrittenSections, lists_bytes, unit_in, with_unit, with_units, empty_sections, names_bytes, RefusesUnit, IsRefusal, IsRefusalAmong, all_info_bytes, all_places, bytes_of, section_bytes}
use Rattle.dwc_write.specs.LayoutViews.{Advances, IsTooLong}
use Rattle.dwc_write.specs.UnitNames.{IsNamesRefusal}
use Rattle.dwc_write.specs.declared.line_names.LineNames.{LineNames}
use Rattle.dwc_write.specs.PathViews.{IsPathLayout}
use Rattle.dwc_dwarf.specs.TreeLaws.{texts_ended}
use Rattle.dwc_unit.specs.WidestGiven.{widest_unit, widest_given, widest_said, IsWideRefusal}
use Rattle.dwc_section.specs.Writers.{most_bytes}
use Rattle.dwc_section.proofs.RefusalLaws.{past-among, refusal-weaker, size-refusal}
use Rattle.dwc_write.proofs.OutputLaws.{all-appended, all_of, locations-named, ranges-named, section-refused}
use Rattle.dwc_write.proofs.WidestLaws.{info-within, past-widest, widest_placed}
use Rattle.dwc_write.proofs.PlacedEntries.{info-length}
use Rattle.dwc_write.proofs.WidestTreeLaws.{widest-said}

-- a unit more
pub units-taken : (units : AllPlaces) (us : List OrderedUnit) (i : ℕ) (d : OrderedUnit) (w : WrittenSections) → i < length us → with_units units (take (suc i) us) w ≡ with_unit units (get_or us i d) (with_units units (take i us) w)
units-taken units [] i d w within = absurd (omega arith)
units-taken units (u ∷ us) zero d w within = refl
units-taken units (u ∷ us) (suc i) d w within = units-taken units us i d (with_unit units u w) (omega arith)

all-take : {A : Type 0} (P : A → Type 0) (xs : List A) (n : ℕ) → All P xs → All P (take n xs)
all-take P [] zero all = all
all-take P [] (suc n) all = all
all-take P (x ∷ xs) zero all = All-nil P
all-take P (x ∷ xs) (suc n) all = All-cons P x (take n xs) (All-head P x xs all) (all-take P xs n (All-tail P x xs all))

size-taken : (us : List OrderedUnit) (i : ℕ) → size_of (take (suc i) us) ≡ size_of us
size-taken [] i = refl
size-taken (u ∷ us) i = refl

version-taken : (us : List OrderedUnit) (i : ℕ) → version_of (take (suc i) us) ≡ version_of us
version-taken [] i = refl
version-taken (u ∷ us) i = refl

writable-taken : (us : List OrderedUnit) (i : ℕ) → AreWritable us → AreWritable (take (suc i) us)
writable-taken us i fits =
    let vs = take (suc i) us in
    let P : ℕ → Type 0 = λ n. All (IsWritable n (size_of us)) vs in
    let Q : ℕ → Type 0 = λ n. All (IsWritable (version_of vs) n) vs in
    subst Q (sym (size-taken us i)) (subst P (sym (version-taken us i)) (all-take (IsWritable (version_of us) (size_of us)) us (suc i) fits))

-- what all units take is what their trees can; the names of line tables are no longer than a section
placed-said : (units : AllPlaces) (texts : List (List ℕ)) (us : List OrderedUnit) (i : ℕ) (name : SectionName) → AreWritable us → length (names_bytes units) ≤ most_bytes → most_bytes < widest_placed units name (take (suc i) us) → most_bytes < widest_said name texts us
placed-said units texts us i name writable short = go name
  where
    same : All (λ u. u.version ≡ version_of us) us
    same = All-weaker (IsWritable (version_of us) (size_of us)) (λ u. u.version ≡ version_of us) (λ u h. h.version) us writable

    said : (n : SectionName) → most_bytes < widest_given n (take (suc i) us) → most_bytes < widest_said n texts us
    said n large = omega (arith, large, sum_by-take-le (widest_unit n) us (suc i), widest-said n texts us same)

    go : (n : SectionName) → most_bytes < widest_placed units n (take (suc i) us) → most_bytes < widest_said n texts us
    go Abbrev = said Abbrev
    go Info = said Info
    go Line = said Line
    go LineStr = λ large. absurd (omega (arith, large, short))
    go Loc = said Loc
    go Loclists = said Loclists
    go Ranges = said Ranges
    go Rnglists = said Rnglists
    go Addr = said Addr
    go Str = said Str
    go StrOffsets = said StrOffsets
    go CuIndex = said CuIndex
    go Frame = said Frame

-- names that are laid out are no longer than a section
pub names-short : (units : AllPlaces) (l : LineNames) → units.names ≡ l.texts → IsPathLayout l → length (names_bytes units) ≤ most_bytes
names-short units l are laid =
    let long = laid.long in
    let short = laid.short in
    omega (arith, ap (λ ts. length (texts_ended ts)) are, long, short)

-- A unit that is refused is so for the widest size of all.
pub widely-refused : (order : Endian) (units : AllPlaces) (texts : List (List ℕ)) (us : List OrderedUnit) (i : ℕ) (d : OrderedUnit) (w : WrittenSections) (e : WriteError) → i < length us → AreWritable us → All FitsOrdered (take (suc i) us) → All (λ u. FitsLines u.lines) (take (suc i) us)
    → length (names_bytes units) ≤ most_bytes → w ≡ with_units units (take i us) (empty_sections order (version_of us)) → RefusesUnit e units w (get_or us i d) → IsWideRefusal texts us e
widely-refused order units texts us i d w e within fits given lines short done refused =
    let vs = take (suc i) us in
    let u = get_or us i d in
    let writable = writable-taken us i fits in
    let begun = ap (λ n. with_units units vs (empty_sections order n)) (sym (version-taken us i)) in
    let is : with_unit units u w ≡ all_of order units vs = ap (with_unit units u) done ∙ sym (units-taken units us i d _ within) ∙ begun ∙ all-appended order units vs writable in
    wide e (go refused is)
  where
    go : RefusesUnit e units w (get_or us i d) → with_unit units (get_or us i d) w ≡ all_of order units (take (suc i) us) → IsRefusalAmong order units (take (suc i) us) e
    go (inl refused) is =
        section-refused order units (take (suc i) us) e w.abbrev_section (all_of order units (take (suc i) us)).abbrev_section Abbrev (table_bytes (unit_in units w (get_or us i d)).table) refused (ap (λ (v : WrittenSections). v.abbrev_section.name) is) (omega (arith, ap (λ (v : WrittenSections). length v.abbrev_section.body) is)) refl refl
    go (inr (inl refused)) is =
        section-refused order units (take (suc i) us) e w.info_section (all_of order units (take (suc i) us)).info_section Info (placed_unit_bytes w.info_section.order (get_or us i d).address_size (unit_in units w (get_or us i d))) refused (ap (λ (v : WrittenSections). v.info_section.name) is) (omega (arith, ap (λ (v : WrittenSections). length v.info_section.body) is)) refl refl
    go (inr (inr (inl refused))) is =
        section-refused order units (take (suc i) us) e w.line_section (all_of order units (take (suc i) us)).line_section Line (lines_bytes w.line_section.order (get_or us i d).address_size (table_of units (get_or us i d))) refused (ap (λ (v : WrittenSections). v.line_section.name) is) (omega (arith, ap (λ (v : WrittenSections). length v.line_section.body) is)) refl refl
    go (inr (inr (inr (inl refused)))) is =
        section-refused order units (take (suc i) us) e w.ranges_section (all_of order units (take (suc i) us)).ranges_section (section_of_ranges (version_of (take (suc i) us))) (lists_bytes ranges_in (get_or us i d) w.ranges_section) refused (ap (λ (v : WrittenSections). v.ranges_section.name) is) (omega (arith, ap (λ (v : WrittenSections). length v.ranges_section.body) is)) refl
        (ranges-named order units (take (suc i) us))
    go (inr (inr (inr (inr refused)))) is =
        section-refused order units (take (suc i) us) e w.locations_section (all_of order units (take (suc i) us)).locations_section (section_of_locations (version_of (take (suc i) us))) (lists_bytes locations_in (get_or us i d) w.locations_section) refused (ap (λ (v : WrittenSections). v.locations_section.name) is) (omega (arith, ap (λ (v : WrittenSections). length v.locations_section.body) is)) refl
        (locations-named order units (take (suc i) us))

    wide : (e : WriteError) → IsRefusalAmong order units (take (suc i) us) e → IsWideRefusal texts us e
    wide e refused =
        size-refusal _ (λ name. most_bytes < widest_said name texts us) e
        (refusal-weaker (λ name. most_bytes < length (bytes_of order units (take (suc i) us) name)) (λ name. most_bytes < widest_said name texts us)
        (λ name large. placed-said units texts us i name fits short (past-widest order units (take (suc i) us) name (writable-taken us i fits) given lines large))
        e
        refused)

-- Names of line tables that are refused are so for the widest size of their section, which they have.
pub names-widely : (texts : List (List ℕ)) (us : List OrderedUnit) (e : WriteError) → IsNamesRefusal e texts us → IsWideRefusal texts us e
names-widely texts us e refused = size-refusal _ (λ m. most_bytes < widest_said m texts us) e (past-among (λ m. widest_said m texts us) LineStr _ e (λ large. large) refused)

abbrev no_units : AllPlaces
no_units = record { units = []; texts = []; table = []; names = [] }

-- Units that are too long together before they are written.
pub layout-widest : (texts : List (List ℕ)) (us : List OrderedUnit) (i : ℕ) → AreWritable us → All FitsOrdered (take (suc i) us) → most_bytes < sum_by (unit_length Little (size_of us)) (take (suc i) us) → most_bytes < widest_said Info texts us
layout-widest texts us i writable fits large =
    let vs = take (suc i) us in
    let sized : All (λ u. u.address_size ≡ size_of us) vs = all-take (λ u. u.address_size ≡ size_of us) us (suc i) (All-weaker (IsWritable (version_of us) (size_of us)) (λ u. u.address_size ≡ size_of us) (λ u h. h.size) us writable) in
    let same : All (λ u. u.version ≡ version_of us) us = All-weaker (IsWritable (version_of us) (size_of us)) (λ u. u.version ≡ version_of us) (λ u h. h.version) us writable in
    omega (arith, large, info-length Little (size_of us) no_units 0 0 no_lists vs, info-within Little (size_of us) 0 0 no_lists no_units vs sized fits, sum_by-take-le (widest_unit Info) us (suc i), widest-said Info texts us same)

pub layout-large : (order : Endian) (texts : List (List ℕ)) (us : List OrderedUnit) (i : ℕ) → most_bytes < sum_by (unit_length order (size_of us)) (take (suc i) us) → most_bytes < length (all_info_bytes order (all_places order texts us) us)
layout-large order texts us i large = omega (arith, large, sum_by-take-le (unit_length order (size_of us)) us (suc i), info-length order (size_of us) (all_places order texts us) 0 0 no_lists us)

-- a refusal of such a length
pub too-long : (e : WriteError) (place more : ℕ) → Advances (Err e) place more → IsTooLong e (place + more)
too-long OutOfMemory place more refused = absurd refused
too-long (InvalidFrameCodeOffset symbol) place more refused = absurd refused
too-long (InvalidFrameDataOffset symbol) place more refused = absurd refused
too-long (TooLarge what) place more refused = refused

pub refused-long : (order : Endian) (texts : List (List ℕ)) (us : List OrderedUnit) (e : WriteError) (n : ℕ) → IsTooLong e n → (most_bytes < n → most_bytes < length (all_info_bytes order (all_places order texts us) us)) → IsRefusal order texts us e
refused-long order texts us e n long large = size-refusal _ (λ m. most_bytes < length (section_bytes order texts us m)) e (past-among (λ m. length (section_bytes order texts us m)) Info n e large long)

pub refused-widely : (texts : List (List ℕ)) (us : List OrderedUnit) (e : WriteError) (n : ℕ) → IsTooLong e n → (most_bytes < n → most_bytes < widest_said Info texts us) → IsWideRefusal texts us e
refused-widely texts us e n long large = size-refusal _ (λ m. most_bytes < widest_said m texts us) e (past-among (λ m. widest_said m texts us) Info n e large long)

pub err-exit : {A : Type 0} (P : WriteError → Type 0) (result : Result A WriteError) (e : WriteError) → ((error : WriteError) × (result ≡ Err error) × (error ≡ e)) → P e → IfErr result P
err-exit P result e p refused =
    let is : result ≡ Err e = p.1 ∙ ap Err p.2 in
    rw (is) refused

-- the error of a call, for a function that answers something else
pub wide-exit : {A : Type 0} (texts : List (List ℕ)) (us : List OrderedUnit) (result : Result A WriteError) (e : WriteError) → ((error : WriteError) × (result ≡ Err error) × (error ≡ e)) → IsWideRefusal texts us e → IfErr result (λ x. IsWideRefusal texts us x)
wide-exit texts us result e p refused =
    let is : result ≡ Err e = p.1 ∙ ap Err p.2 in
    rw (is) refused
