-- What is written is sections that an output has, in their order.
use Rattle.std.proofs.Common.{◌≡◌, ℕ, List, [], ◌∷◌, ◌++◌, Bool, true, false, Option, Some, None, All, refl, ap, subst, ◌∙◌}
use Rattle.std.specs.Prelude.{map, if◌then◌else◌}
use Rattle.std.specs.List.{flat_map}
use Rattle.std.specs.Str.{bytes_eq}
use Rattle.std.proofs.lemmas.List.{append_assoc}
use Rattle.std.proofs.lemmas.List.Elements.{All-head}
use Rattle.dwc_base.specs.declared.records.Endian.{Endian}
use Rattle.dwc_base.specs.declared.section_name.SectionName.{SectionName}
use Rattle.dwc_base.specs.declared.section_name.SectionName.TheVariants.{Abbrev, Frame, Info, Line, LineStr, Loc, Loclists, Ranges, Rnglists, Str}
use Rattle.dwc_native.specs.CallFrames.{CommonEntry, FrameDescription}
use Rattle.dwc_output.specs.FrameSections.{frame_section, frame_section_if}
use Rattle.dwc_output.specs.FieldKinds.{section_of_locations, section_of_ranges}
use Rattle.dwc_output.specs.NewWidest.{each_once}
use Rattle.dwc_output.specs.OutputForm.{are_of_output, stand_in_order}
use Rattle.dwc_output.specs.Versions.{is_old}
use Rattle.dwc_base.specs.Outputs.{OutputRelocation, OutputSection}
use Rattle.dwc_base.specs.Sections.{section_text}
use Rattle.dwc_dwarf.specs.TreeLaws.{texts_ended}
use Rattle.dwc_frames.specs.declared.frames.FrameTable.{FrameTable}
use Rattle.dwc_frames.specs.Frames.{common_given, descriptions_given}
use Rattle.dwc_write.specs.GivenFrames.{given_frames}
use Rattle.dwc_unit.specs.GivenUnits.{GivenUnit, OrderedUnit, ordered, size_of, version_of}
use Rattle.dwc_write.specs.Layouts.{written_tables}
use Rattle.dwc_unit.specs.LineNames.{names_of_unit}
use Rattle.dwc_unit.specs.Lists.{locations_in, ranges_in}
use Rattle.dwc_write.specs.SpelledOutput.{abbrev_bytes, all_info_bytes, all_lines_bytes, all_lists_bytes, all_lists_relocations, all_places, names_bytes, section_unless_empty, spelled_sections, units_placed}
use Rattle.dwc_write.specs.SpelledRelocations.{info_relocations, lines_relocations}
use Rattle.dwc_unit.specs.UsedTexts.{strings_bytes}

-- What stands among some names stands behind the first of them too, and so does one section less.
weaker-by : (name : SectionName) (names : List SectionName) (ss : List OutputSection) → ((s : OutputSection) (others : List OutputSection) → stand_in_order names (s ∷ others) ≡ true → stand_in_order names others ≡ true) → stand_in_order names ss ≡ true
    → stand_in_order (name ∷ names) ss ≡ true
weaker-by name names [] less h = refl
weaker-by name names (s ∷ ss) less h = go (bytes_eq (section_text name) s.name)
  where
    go : (b : Bool) → (if b then stand_in_order names ss else stand_in_order names (s ∷ ss)) ≡ true
    go true = less s ss h
    go false = h

less : (names : List SectionName) (s : OutputSection) (ss : List OutputSection) → stand_in_order names (s ∷ ss) ≡ true → stand_in_order names ss ≡ true
less [] s ss h = absurd (cc)
less (name ∷ names) s ss h = go (bytes_eq (section_text name) s.name) (less names) h
  where
    go : (b : Bool) → ((s : OutputSection) (others : List OutputSection) → stand_in_order names (s ∷ others) ≡ true → stand_in_order names others ≡ true) → (if b then stand_in_order names ss else stand_in_order names (s ∷ ss)) ≡ true → stand_in_order (name ∷ names) ss ≡ true
    go true before e = weaker-by name names ss before e
    go false before e = weaker-by name names ss before (before s ss e)

-- a section that is left out where it is empty stands in front of what has the names behind its own
in-front : (name : SectionName) (names : List SectionName) (bytes : List ℕ) (rs : List OutputRelocation) (ss : List OutputSection) → bytes_eq (section_text name) (section_text name) ≡ true → stand_in_order names ss ≡ true
    → stand_in_order (name ∷ names) (section_unless_empty name bytes rs ++ ss) ≡ true
in-front name names [] rs ss same h = weaker-by name names ss (less names) h
in-front name names (b ∷ bytes) rs ss same h = ap (λ (c : Bool). if c then stand_in_order names ss else stand_in_order names (record { name = section_text name; body = b ∷ bytes; relocations = rs } ∷ ss)) same ∙ h

frames-in_order : (order : Endian) (size : ℕ) (entry : Option CommonEntry) (ds : List (ℕ × FrameDescription)) → stand_in_order (Frame ∷ []) (frame_section_if order size entry ds) ≡ true
unfolding frame_section
frames-in_order order size None ds = refl
frames-in_order order size (Some c) [] = refl
frames-in_order order size (Some c) (d ∷ ds) = refl

-- The sections of an output, each left out where it is empty, in front of what has the name of frames. Up to version 4 line tables name no texts
-- elsewhere.
module _ (abbreviations entries lines names ranges locations strings : List ℕ) (of_entries of_lines of_ranges of_locations : List OutputRelocation) (frames : List OutputSection) (last : stand_in_order (Frame ∷ []) frames ≡ true) where
  abbrev placed : SectionName → SectionName → List ℕ → List OutputSection
  placed of_ranged of_located named =
      section_unless_empty Abbrev abbreviations []
      ++ (section_unless_empty Info entries of_entries
      ++ (section_unless_empty Line lines of_lines
      ++ (section_unless_empty LineStr named []
      ++ (section_unless_empty of_ranged ranges of_ranges ++ (section_unless_empty of_located locations of_locations ++ (section_unless_empty Str strings [] ++ frames))))))

  old-in_order : stand_in_order (Abbrev ∷ Info ∷ Line ∷ Ranges ∷ Loc ∷ Str ∷ Frame ∷ []) (placed Ranges Loc []) ≡ true
  old-in_order =
      let texts = section_unless_empty Str strings [] ++ frames in
      let located = section_unless_empty Loc locations of_locations ++ texts in
      let ranged = section_unless_empty Ranges ranges of_ranges ++ located in
      let lined = section_unless_empty Line lines of_lines ++ ranged in
      in-front Abbrev (Info ∷ Line ∷ Ranges ∷ Loc ∷ Str ∷ Frame ∷ []) abbreviations [] (section_unless_empty Info entries of_entries ++ lined) refl
      (in-front Info (Line ∷ Ranges ∷ Loc ∷ Str ∷ Frame ∷ []) entries of_entries lined refl
      (in-front Line (Ranges ∷ Loc ∷ Str ∷ Frame ∷ []) lines of_lines ranged refl
      (in-front Ranges (Loc ∷ Str ∷ Frame ∷ []) ranges of_ranges located refl
      (in-front Loc (Str ∷ Frame ∷ []) locations of_locations texts refl
      (in-front Str (Frame ∷ []) strings [] frames refl last)))))

  new-in_order : stand_in_order (Abbrev ∷ Info ∷ Line ∷ LineStr ∷ Rnglists ∷ Loclists ∷ Str ∷ Frame ∷ []) (placed Rnglists Loclists names) ≡ true
  new-in_order =
      let texts = section_unless_empty Str strings [] ++ frames in
      let located = section_unless_empty Loclists locations of_locations ++ texts in
      let ranged = section_unless_empty Rnglists ranges of_ranges ++ located in
      let named = section_unless_empty LineStr names [] ++ ranged in
      let lined = section_unless_empty Line lines of_lines ++ named in
      in-front Abbrev (Info ∷ Line ∷ LineStr ∷ Rnglists ∷ Loclists ∷ Str ∷ Frame ∷ []) abbreviations [] (section_unless_empty Info entries of_entries ++ lined) refl
      (in-front Info (Line ∷ LineStr ∷ Rnglists ∷ Loclists ∷ Str ∷ Frame ∷ []) entries of_entries lined refl
      (in-front Line (LineStr ∷ Rnglists ∷ Loclists ∷ Str ∷ Frame ∷ []) lines of_lines named refl
      (in-front LineStr (Rnglists ∷ Loclists ∷ Str ∷ Frame ∷ []) names [] ranged refl
      (in-front Rnglists (Loclists ∷ Str ∷ Frame ∷ []) ranges of_ranges located refl
      (in-front Loclists (Str ∷ Frame ∷ []) locations of_locations texts refl
      (in-front Str (Frame ∷ []) strings [] frames refl last))))))

  placed-in_order : (old : Bool) → (old ≡ true → names ≡ [])
      → stand_in_order (if old then Abbrev ∷ Info ∷ Line ∷ Ranges ∷ Loc ∷ Str ∷ Frame ∷ [] else Abbrev ∷ Info ∷ Line ∷ LineStr ∷ Rnglists ∷ Loclists ∷ Str ∷ Frame ∷ []) (placed (if old then Ranges else Rnglists) (if old then Loc else Loclists) names) ≡ true
  placed-in_order true none = ap (λ named. stand_in_order (Abbrev ∷ Info ∷ Line ∷ Ranges ∷ Loc ∷ Str ∷ Frame ∷ []) (placed Ranges Loc named)) (none refl) ∙ old-in_order
  placed-in_order false none = new-in_order

units-in_order : (order : Endian) (texts : List (List ℕ)) (us : List OrderedUnit) (frames : List OutputSection) → stand_in_order (Frame ∷ []) frames ≡ true → are_of_output (version_of us) (spelled_sections order texts us ++ frames) ≡ true
units-in_order order texts us frames last =
    let places = all_places order texts us in
    let size = size_of us in
    let version = version_of us in
    let abbreviations = section_unless_empty Abbrev (abbrev_bytes order places us) [] in
    let entries = section_unless_empty Info (all_info_bytes order places us) (info_relocations order size 0 (units_placed order places us)) in
    let lines = section_unless_empty Line (all_lines_bytes order places us) (lines_relocations order size 0 (written_tables places us)) in
    let names = section_unless_empty LineStr (names_bytes places) [] in
    let ranges = section_unless_empty (section_of_ranges version) (all_lists_bytes ranges_in order us) (all_lists_relocations ranges_in order us) in
    let locations = section_unless_empty (section_of_locations version) (all_lists_bytes locations_in order us) (all_lists_relocations locations_in order us) in
    let strings = section_unless_empty Str (strings_bytes texts us) [] in
    let grouped : spelled_sections order texts us ++ frames ≡ abbreviations ++ (entries ++ (lines ++ (names ++ (ranges ++ (locations ++ (strings ++ frames)))))) =
    append_assoc abbreviations (entries ++ (lines ++ (names ++ (ranges ++ (locations ++ strings))))) frames
    ∙ ap (λ ss. abbreviations ++ ss) (append_assoc entries (lines ++ (names ++ (ranges ++ (locations ++ strings)))) frames
    ∙ ap (λ ss. entries ++ ss) (append_assoc lines (names ++ (ranges ++ (locations ++ strings))) frames
    ∙ ap (λ ss. lines ++ ss) (append_assoc names (ranges ++ (locations ++ strings)) frames
    ∙ ap (λ ss. names ++ ss) (append_assoc ranges (locations ++ strings) frames
    ∙ ap (λ ss. ranges ++ ss) (append_assoc locations strings frames))))) in
    ap (are_of_output version) grouped
    ∙ placed-in_order (abbrev_bytes order places us) (all_info_bytes order places us) (all_lines_bytes order places us) (names_bytes places) (all_lists_bytes ranges_in order us) (all_lists_bytes locations_in order us) (strings_bytes texts us)
    (info_relocations order size 0 (units_placed order places us)) (lines_relocations order size 0 (written_tables places us)) (all_lists_relocations ranges_in order us) (all_lists_relocations locations_in order us) frames last
    (is_old version) (λ old. ap (λ b. texts_ended (if b then [] else each_once (flat_map (names_of_unit texts) us))) old)

-- what has the name of frames stands behind any names
behind-names : (names : List SectionName) (frames : List OutputSection) → stand_in_order (Frame ∷ []) frames ≡ true → stand_in_order (names ++ Frame ∷ []) frames ≡ true
behind-names [] frames last = last
behind-names (name ∷ names) frames last = weaker-by name (names ++ Frame ∷ []) frames (less (names ++ Frame ∷ [])) (behind-names names frames last)

-- so it is of an output of any version where it stands alone
alone-in_order : (version : ℕ) (frames : List OutputSection) → stand_in_order (Frame ∷ []) frames ≡ true → are_of_output version frames ≡ true
alone-in_order version frames last = go (is_old version)
  where
    go : (old : Bool) → stand_in_order (if old then Abbrev ∷ Info ∷ Line ∷ Ranges ∷ Loc ∷ Str ∷ Frame ∷ [] else Abbrev ∷ Info ∷ Line ∷ LineStr ∷ Rnglists ∷ Loclists ∷ Str ∷ Frame ∷ []) frames ≡ true
    go true = behind-names (Abbrev ∷ Info ∷ Line ∷ Ranges ∷ Loc ∷ Str ∷ []) frames last
    go false = behind-names (Abbrev ∷ Info ∷ Line ∷ LineStr ∷ Rnglists ∷ Loclists ∷ Str ∷ []) frames last

-- What is written of units of a version is sections that an output of that version has.
pub written-of_output : (version : ℕ) (order : Endian) (texts : List (List ℕ)) (us : List GivenUnit) (table : Option FrameTable) → All (λ u. u.version ≡ version) us → are_of_output version (spelled_sections order texts (map ordered us) ++ given_frames order table us) ≡ true
written-of_output version order texts [] table same = alone-in_order version (given_frames order table []) (frames-in_order order (size_of []) (common_given table) (descriptions_given table))
written-of_output version order texts (u ∷ us) table same =
    subst (λ n. are_of_output n (spelled_sections order texts (map ordered (u ∷ us)) ++ given_frames order table (u ∷ us)) ≡ true) (All-head (λ (v : GivenUnit). v.version ≡ version) u us same)
    (units-in_order order texts (map ordered (u ∷ us)) (given_frames order table (u ∷ us)) (frames-in_order order (size_of (map ordered (u ∷ us))) (common_given table) (descriptions_given table)))
