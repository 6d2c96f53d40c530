-- What is spelled is read whole (`spelled-whole`). So sections that hide a base selection, pairs of a list, a second root or a sequence without rows
-- are not spelled, of whatever units.
use Rattle.std.proofs.Common.{◌≡◌, ℕ, ◌+◌, ◌^◌, ◌<◌, ◌≤◌, ◌⊎◌, inl, inr, refl, sym, ap, subst, ◌∙◌, arith, List, [], ◌∷◌, ◌++◌, append-nil, length, map, take, drop, pos, sum_by, lit<, lit≤, Bool, true, Option, Some, None, Result, Ok}
use Rattle.std.specs.Prelude.{◌==◌, nat_lt}
use Rattle.std.specs.Int.{w32, w64, cast_unsigned}
use Rattle.std.specs.List.{All, AllZip, flat_map, list_all}
use Rattle.std.proofs.lemmas.Bool.{and_parts, eqb-true, ltb-true}
use Rattle.std.proofs.lemmas.Int.{fits_signed_from_abs}
use Rattle.std.proofs.lemmas.List.Elements.{All-cons, All-head, All-nil, All-tail, All-weaker}
use Rattle.std.proofs.lemmas.List.{length-map}
use Rattle.std.proofs.lemmas.Grind.{flat_map-append}
use Rattle.std.proofs.lemmas.List.Sums.{sum_by-cons}
use Rattle.dwc_base.specs.declared.records.Address.{Address}
use Rattle.dwc_base.specs.declared.records.Address.TheVariants.{Symbol}
use Rattle.dwc_base.specs.declared.records.Endian.{Endian}
use Rattle.dwc_base.specs.declared.records.Endian.TheVariants.{Little}
use Rattle.dwc_base.specs.declared.section_name.SectionName.{SectionName}
use Rattle.dwc_base.specs.declared.section_name.SectionName.TheVariants.{Abbrev, Info, Line, Loc, Ranges}
use Rattle.dwc_base.specs.NumberBytes.{number_bytes, uleb_bytes, uleb_bytes_within}
use Rattle.dwc_base.specs.Outputs.{OutputRelocation, OutputSection, function, output_sections, section}
use Rattle.dwc_base.specs.Sections.{Fault, Sections, section_text}
use Rattle.dwc_dwarf.specs.LineRows.{LineTable, segments}
use Rattle.dwc_dwarf.specs.ReadUnits.{Unit, table_of_unit, units}
use Rattle.dwc_dwarf.specs.Trees as trees
use Rattle.dwc_dwarf.specs.Trees.{Tree, TreeEntry, TreeValue}
use Rattle.dwc_output.specs.FieldKinds.{section_of_locations, section_of_ranges}
use Rattle.dwc_output.specs.FramesCarried.{others_in}
use Rattle.dwc_output.specs.TreeReading.{CarriesTrees, entry_or_nothing, ranges_read, locations_read}
use Rattle.dwc_output.specs.Versions.{files_written}
use Rattle.dwc_section.specs.Writers.{IsSound, IsWhole, most_bytes}
use Rattle.dwc_unit.specs.declared.attributes.Attribute.{Attribute}
use Rattle.dwc_unit.specs.declared.attributes.AttributeValue.{AttributeValue}
use Rattle.dwc_unit.specs.declared.attributes.AttributeValue.TheVariants as value
use Rattle.dwc_unit.specs.declared.attributes.DebugInfoRef.TheVariants.{Entry}
use Rattle.dwc_unit.specs.declared.expressions.Expression.{Expression}
use Rattle.dwc_unit.specs.GivenLines.{GivenLines}
use Rattle.dwc_unit.specs.GivenSegments.{given_segment}
use Rattle.dwc_unit.specs.GivenTrees.{attribute_said, given_said, given_tree, given_trees, tree_entry}
use Rattle.dwc_unit.specs.GivenUnits.{GivenEntry, IsWritable, OrderedUnit, lists_of_entries, lists_of_units, size_of, version_of}
use Rattle.dwc_unit.specs.LineNames.{own_directory}
use Rattle.dwc_unit.specs.Lists.{ListEntry, contribution_bytes, ended, list_bytes, list_end, list_length, listed_bytes, listed_length, lists_of_attributes, location_entry, location_of, locations_in, no_lists, range_entry, ranges_in}
use Rattle.dwc_unit.specs.RangeLists.{interval_of}
use Rattle.dwc_write.specs.Layouts.{AllPlaces, table_of, unit_length, written_lines, written_tables}
use Rattle.dwc_write.specs.ReadBack.{IsReadUnit, ReadsBack, ReadsLines}
use Rattle.dwc_write.specs.SpelledOutput.{AreSpelled, all_lists_bytes, all_places, spelled_sections, unit_lists_bytes}
use Rattle.dwc_write.specs.SpelledSections.{lines_bytes}
use Rattle.dwc_write.proofs.ListPlaces.{list-length}
use Rattle.dwc_write.proofs.PlacedEntries.{info-length}
use Rattle.dwc_write.proofs.ReadBackLaws.{are-spelled, reads-back}
use Rattle.dwc_write.proofs.ReadBackLaws as laws
use Rattle.dwc_write.proofs.ReadTrees.{carries-trees}
use Rattle.dwc_worked.proofs.OnLists.{lists_on_literals}

-- ---- what is spelled is read whole

-- Of sections that are spelled the plain reader comes to each entry, value, pair of a list, row and file of the units.
pub spelled-whole : (order : Endian) (sections : List OutputSection) (s : AreSpelled order sections) → All (IsSound order) (others_in sections)
    → ReadsBack order s.given (others_in sections) × CarriesTrees order (given_trees s.texts s.given) (others_in sections)
spelled-whole order sections s sound =
    let m = s.made in
    let P : List OutputSection → Type 0 = λ ss. All (IsSound order) ss in
    let whole = subst P s.is sound in
    let Q : List OutputSection → Type 0 = λ ss. ReadsBack order s.given ss × CarriesTrees order (given_trees s.texts s.given) ss in
    subst Q (sym s.is) (
      reads-back order s.texts s.given m.writable m.table m.units m.lines whole,
      carries-trees order s.texts s.given m.writable m.named m.expressions m.table m.units m.lines whole,
    )

-- ---- units of version 4

abbrev IsOld : OrderedUnit → Type 0
IsOld u = u.version ≡ 4

abbrev is_of_4 : Unit → Bool
is_of_4 v = v.header.version == 4

first-old : (s : Sections) (us : List OrderedUnit) (vs : List Unit) → AllZip (IsReadUnit s) us vs → list_all is_of_4 vs ≡ true → version_of us ≡ 4
first-old s [] vs each old = refl
first-old s (u ∷ us) [] each old = absurd each
first-old s (u ∷ us) (v ∷ vs) each old = sym each.0.version ∙ eqb-true v.header.version 4 (and_parts (is_of_4 v) (list_all is_of_4 vs) old).0

-- Their lists stand one behind another.
lists-old : (size : ℕ) (lists : AttributeValue → List ListEntry) (us : List OrderedUnit) → All IsOld us → flat_map (unit_lists_bytes lists Little size) us ≡ list_bytes 4 Little size (lists_of_units lists us)
lists-old size lists [] old = refl
lists-old size lists (u ∷ us) old =
    let own = lists_of_entries lists u.entries in
    ap (λ version. contribution_bytes version Little size own ++ flat_map (unit_lists_bytes lists Little size) us) (All-head IsOld u us old)
    ∙ ap (λ bytes. list_bytes 4 Little size own ++ bytes) (lists-old size lists us (All-tail IsOld u us old))
    ∙ sym (flat_map-append (listed_bytes 4 Little size) own (lists_of_units lists us))

-- Sections say one list of trees, so these are the trees of the units.
module _ (sections : List OutputSection) (s : AreSpelled Little sections) (sound : All (IsSound Little) (others_in sections)) where
  trees-are : (wanted : List Tree) → CarriesTrees Little wanted (others_in sections) → given_trees s.texts s.given ≡ wanted
  trees-are wanted says = same (sym (spelled-whole Little sections s sound).1 ∙ says)
    where
      same : {a b : List Tree} → ◌≡◌ {A = Result (List Tree) Fault} (Ok a) (Ok b) → a ≡ b
      same e = cc

  -- the size of addresses, and how long lists, entries and line tables are
  whole : All (IsSound Little) (spelled_sections Little s.texts s.given)
  whole = let P : List OutputSection → Type 0 = λ ss. All (IsSound Little) ss in subst P s.is sound

  spelled : laws.AreSpelled Little s.texts s.given
  spelled = are-spelled Little s.texts s.given s.made.writable s.made.table s.made.units s.made.lines whole

  size-is : (size_of s.given ≡ 4) ⊎ (size_of s.given ≡ 8)
  size-is = spelled.known

  -- Their version is the one that readers find.
  module _ (old : list_all is_of_4 (units (output_sections Little (others_in sections))).items ≡ true) where
    version-is : version_of s.given ≡ 4
    version-is =
        let back = (spelled-whole Little sections s sound).0 in
        let items : (units (output_sections Little (others_in sections))).items ≡ back.read = ap (λ r. r.items) back.units_read in
        first-old (output_sections Little (others_in sections)) s.given back.read back.each (subst (λ vs. list_all is_of_4 vs ≡ true) items old)

    versions-are : All IsOld s.given
    versions-are = All-weaker (IsWritable (version_of s.given) (size_of s.given)) IsOld (λ u h. h.version ∙ version-is) s.given s.made.writable

    ranges-are : length ((output_sections Little (others_in sections)).bytes Ranges) ≡ list_length 4 (size_of s.given) (lists_of_units ranges_in s.given)
    ranges-are =
        let P : List OutputSection → Type 0 = λ ss. length ((output_sections Little ss).bytes Ranges) ≡ list_length 4 (size_of s.given) (lists_of_units ranges_in s.given) in
        let Q : ℕ → Type 0 = λ version. (output_sections Little (spelled_sections Little s.texts s.given)).bytes (section_of_ranges version) ≡ all_lists_bytes ranges_in Little s.given in
        subst P (sym s.is) (ap length (subst Q version-is spelled.holds.ranges_are ∙ lists-old (size_of s.given) ranges_in s.given versions-are) ∙ list-length 4 Little (size_of s.given) (lists_of_units ranges_in s.given))

    locations-are : length ((output_sections Little (others_in sections)).bytes Loc) ≡ list_length 4 (size_of s.given) (lists_of_units locations_in s.given)
    locations-are =
        let P : List OutputSection → Type 0 = λ ss. length ((output_sections Little ss).bytes Loc) ≡ list_length 4 (size_of s.given) (lists_of_units locations_in s.given) in
        let Q : ℕ → Type 0 = λ version. (output_sections Little (spelled_sections Little s.texts s.given)).bytes (section_of_locations version) ≡ all_lists_bytes locations_in Little s.given in
        subst P (sym s.is) (ap length (subst Q version-is spelled.holds.locations_are ∙ lists-old (size_of s.given) locations_in s.given versions-are) ∙ list-length 4 Little (size_of s.given) (lists_of_units locations_in s.given))

  entries-are : length ((output_sections Little (others_in sections)).bytes Info) ≡ sum_by (unit_length Little (size_of s.given)) s.given
  entries-are =
      let P : List OutputSection → Type 0 = λ ss. length ((output_sections Little ss).bytes Info) ≡ sum_by (unit_length Little (size_of s.given)) s.given in
      subst P (sym s.is) (ap length spelled.holds.info_is ∙ info-length Little (size_of s.given) (all_places Little s.texts s.given) 0 0 no_lists s.given)

  tables-are : length ((output_sections Little (others_in sections)).bytes Line) ≡ length (lines_bytes Little (size_of s.given) (written_tables (all_places Little s.texts s.given) s.given))
  tables-are =
      let P : List OutputSection → Type 0 = λ ss. length ((output_sections Little ss).bytes Line) ≡ length (lines_bytes Little (size_of s.given) (written_tables (all_places Little s.texts s.given) s.given)) in
      subst P (sym s.is) (ap length spelled.holds.line_is)

-- ---- a unit that is a root with one attribute

no-entry : (o : Option (ℕ × ℕ)) (is : List trees.Interval) → entry_or_nothing o ≡ trees.ranges is → ⊥
no-entry None is e = cc
no-entry (Some p) is e = cc

no-place : (o : Option (ℕ × ℕ)) (ls : List trees.Location) → entry_or_nothing o ≡ trees.locations ls → ⊥
no-place None ls e = cc
no-place (Some p) ls e = cc

abbrev root_alone : ℕ → TreeValue → List Tree
root_alone name v = (record { depth = 0; tag = 0x11; attributes = (name, v) ∷ [] } ∷ []) ∷ []

-- What the lists of its value take is what those of the unit take.
module _ (size wide name : ℕ) (said : TreeValue) (lists : AttributeValue → List ListEntry) (texts : List (List ℕ)) (all : List OrderedUnit)
    (takes : (u : OrderedUnit) (v : AttributeValue) → given_said texts all 0 u v ≡ said → list_length 4 size (lists v) ≡ wide) where
  attribute-takes : (u : OrderedUnit) (xs : List Attribute) → ◌≡◌ {A = List (ℕ × TreeValue)} (map (attribute_said texts all 0 u) xs) ((name, said) ∷ []) → list_length 4 size (lists_of_attributes lists xs) ≡ wide
  attribute-takes u [] e = absurd (cc)
  attribute-takes u (a ∷ []) e =
      let pair : ◌≡◌ {A = ℕ × TreeValue} (a.name, given_said texts all 0 u a.value) (name, said) = cc in
      ap (list_length 4 size) (append-nil (lists a.value)) ∙ takes u a.value (ap (λ p. p.1) pair)
  attribute-takes u (a ∷ b ∷ xs) e = absurd (omega (arith, ap length e))

  entry-takes : (u : OrderedUnit) (es : List GivenEntry) → ◌≡◌ {A = List TreeEntry} (map (tree_entry texts all 0 u) es) (record { depth = 0; tag = 0x11; attributes = (name, said) ∷ [] } ∷ []) → list_length 4 size (lists_of_entries lists es) ≡ wide
  entry-takes u [] e = absurd (cc)
  entry-takes u (x ∷ []) e =
      let one : ◌≡◌ {A = TreeEntry} (tree_entry texts all 0 u x) (record { depth = 0; tag = 0x11; attributes = (name, said) ∷ [] }) = cc in
      ap (list_length 4 size) (append-nil (lists_of_attributes lists x.attributes)) ∙ attribute-takes u x.attributes (ap (λ t. t.attributes) one)
  entry-takes u (x ∷ y ∷ es) e = absurd (omega (arith, ap length e))

-- the same of the units that say it
units-take : (size wide name : ℕ) (said : TreeValue) (lists : AttributeValue → List ListEntry) (texts : List (List ℕ)) (us : List OrderedUnit)
    → ((u : OrderedUnit) (v : AttributeValue) → given_said texts us 0 u v ≡ said → list_length 4 size (lists v) ≡ wide) → given_trees texts us ≡ root_alone name said → list_length 4 size (lists_of_units lists us) ≡ wide
units-take size wide name said lists texts [] takes e = absurd (cc)
units-take size wide name said lists texts (u ∷ []) takes e =
    let tree : ◌≡◌ {A = Tree} (given_tree texts (u ∷ []) 0 u) (record { depth = 0; tag = 0x11; attributes = (name, said) ∷ [] } ∷ []) = cc in
    ap (list_length 4 size) (append-nil (lists_of_entries lists u.entries)) ∙ entry-takes size wide name said lists texts (u ∷ []) takes u u.entries tree
units-take size wide name said lists texts (u ∷ v ∷ us) takes e = absurd (omega (arith, ap length e))

-- ---- sections written out in full that are sound

below : (xs : List ℕ) → list_all (λ b. nat_lt b 256) xs ≡ true → All (λ b. b < 256) xs
below [] e = All-nil _
below (b ∷ xs) e =
    let parts = and_parts (nat_lt b 256) (list_all (λ n. nat_lt n 256) xs) e in
    All-cons (λ n. n < 256) b xs (ltb-true b 256 parts.0) (below xs parts.1)

abbrev a_section : SectionName → List ℕ → List OutputRelocation → OutputSection
a_section name body rs = record { name = section_text name; body = body; relocations = rs }

sound-one : (name : SectionName) (body : List ℕ) (rs : List OutputRelocation) (others : List OutputSection) → length body ≤ most_bytes → list_all (λ b. nat_lt b 256) body ≡ true → All (IsWhole Little body) rs → All (IsSound Little) others → All (IsSound Little) (a_section name body rs ∷ others)
sound-one name body rs others short bytes whole rest = All-cons (IsSound Little) (a_section name body rs) others (record { name = name; named = refl; short = short; bytes = below body bytes; relocations = whole }) rest

-- four bytes that hold the offset 0 in a section, and four that hold an address of function 0
abbrev an_offset : ℕ → SectionName → OutputRelocation
an_offset place name = record { offset = place; size = 4; target = section (section_text name); addend = pos 0 }

abbrev an_address : ℕ → ℕ → OutputRelocation
an_address place n = record { offset = place; size = 4; target = function 0; addend = pos n }

whole-offset : (body : List ℕ) (place : ℕ) (name : SectionName) (rs : List OutputRelocation) → place + 4 ≤ length body → take 4 (drop place body) ≡ number_bytes Little 4 (cast_unsigned w64 (pos 0)) → All (IsWhole Little body) rs → All (IsWhole Little body) (an_offset place name ∷ rs)
whole-offset body place name rs inside holds rest = All-cons (IsWhole Little body) (an_offset place name) rs (record { inside = inside; holds = holds; addend = fits_signed_from_abs w32 (pos 0) (lit< tt); target = (name, refl) }) rest

whole-address : (body : List ℕ) (place n : ℕ) (rs : List OutputRelocation) → place + 4 ≤ length body → take 4 (drop place body) ≡ number_bytes Little 4 (cast_unsigned w64 (pos n)) → n < 2 ^ 31 → All (IsWhole Little body) rs → All (IsWhole Little body) (an_address place n ∷ rs)
whole-address body place n rs inside holds small rest = All-cons (IsWhole Little body) (an_address place n) rs (record { inside = inside; holds = holds; addend = fits_signed_from_abs w32 (pos n) small; target = lit< tt }) rest

-- a unit that is a root with an offset in a section
abbrev root_body : List ℕ
root_body = 12 ∷ 0 ∷ 0 ∷ 0 ∷ 4 ∷ 0 ∷ 0 ∷ 0 ∷ 0 ∷ 0 ∷ 4 ∷ 1 ∷ 0 ∷ 0 ∷ 0 ∷ 0 ∷ []

abbrev root_relocations : SectionName → List OutputRelocation
root_relocations name = an_offset 6 Abbrev ∷ an_offset 12 name ∷ []

whole-root : (name : SectionName) → All (IsWhole Little root_body) (root_relocations name)
whole-root name = whole-offset root_body 6 Abbrev (an_offset 12 name ∷ []) (lit≤ tt) refl (whole-offset root_body 12 name [] (lit≤ tt) refl (All-nil _))

-- the sections of such a unit, its attribute of a name, with what stands in that section
abbrev with_root : List ℕ → SectionName → List ℕ → List OutputRelocation → List OutputSection
with_root declared name body rs = a_section Abbrev declared [] ∷ a_section Info root_body (root_relocations name) ∷ a_section name body rs ∷ []

sound-root : (declared : List ℕ) (name : SectionName) (body : List ℕ) (rs : List OutputRelocation) → length declared ≤ most_bytes → list_all (λ b. nat_lt b 256) declared ≡ true → length body ≤ most_bytes → list_all (λ b. nat_lt b 256) body ≡ true → All (IsWhole Little body) rs → All (IsSound Little) (with_root declared name body rs)
sound-root declared name body rs few small short bytes whole =
    sound-one Abbrev declared [] (a_section Info root_body (root_relocations name) ∷ a_section name body rs ∷ []) few small (All-nil _)
    (sound-one Info root_body (root_relocations name) (a_section name body rs ∷ []) (lit≤ tt) refl (whole-root name) (sound-one name body rs [] short bytes whole (All-nil _)))

-- ---- a base selection in front of a range list (DWARF 4, section 2.17.3)

abbrev five_bytes : trees.Interval
five_bytes = record { begin = Symbol 0 (pos 0); end = Symbol 0 (pos 5) }

-- the greatest address and 0x1000, five bytes of function 0, and the end
abbrev based_body : List ℕ
based_body = 0xFF ∷ 0xFF ∷ 0xFF ∷ 0xFF ∷ 0 ∷ 0x10 ∷ 0 ∷ 0 ∷ 0 ∷ 0 ∷ 0 ∷ 0 ∷ 5 ∷ 0 ∷ 0 ∷ 0 ∷ 0 ∷ 0 ∷ 0 ∷ 0 ∷ 0 ∷ 0 ∷ 0 ∷ 0 ∷ []

abbrev based_declared : List ℕ
based_declared = 1 ∷ 0x11 ∷ 0 ∷ 0x55 ∷ 0x17 ∷ 0 ∷ 0 ∷ 0 ∷ []

abbrev based : List OutputSection
based = with_root based_declared Ranges based_body (an_address 8 0 ∷ an_address 12 5 ∷ [])

-- readers of the definitions do not see it
based-says : CarriesTrees Little (root_alone 0x55 (trees.ranges (five_bytes ∷ []))) based
unfolding lists_on_literals ranges_read
based-says = refl

based-old : list_all is_of_4 (units (output_sections Little based)).items ≡ true
unfolding lists_on_literals
based-old = refl

two-pairs : (size : ℕ) (xs : List (Address × ℕ)) (i : trees.Interval) → ◌≡◌ {A = List trees.Interval} (map interval_of xs) (i ∷ []) → list_length 4 size (ended (map range_entry xs)) ≡ (size + size) + (size + size)
two-pairs size [] i e = absurd (cc)
two-pairs size (x ∷ []) i e = omega (arith, sum_by-cons (listed_length 4 size) (range_entry x) (list_end ∷ []), sum_by-cons (listed_length 4 size) list_end [])
two-pairs size (x ∷ y ∷ xs) i e = absurd (omega (arith, ap length e))

range-takes : (size : ℕ) (texts : List (List ℕ)) (us : List OrderedUnit) (i : trees.Interval) (u : OrderedUnit) (v : AttributeValue) → given_said texts us 0 u v ≡ trees.ranges (i ∷ []) → list_length 4 size (ranges_in v) ≡ (size + size) + (size + size)
range-takes size texts us i u (value.Address a) e = absurd (cc)
range-takes size texts us i u (value.Constant form bits) e = absurd (cc)
range-takes size texts us i u (value.Flag b) e = absurd (cc)
range-takes size texts us i u (value.Block bytes) e = absurd (cc)
range-takes size texts us i u (value.Exprloc x) e = absurd (cc)
range-takes size texts us i u (value.StringRef id) e = absurd (cc)
range-takes size texts us i u value.LineProgramRef e = absurd (cc)
range-takes size texts us i u (value.RangeListRef list) e = two-pairs size list.ranges.items i (let same : ◌≡◌ {A = List trees.Interval} (map interval_of list.ranges.items) (i ∷ []) = cc in same)
range-takes size texts us i u (value.LocationListRef list) e = absurd (cc)
range-takes size texts us i u (value.UnitRef id) e = absurd (no-entry _ (i ∷ []) e)
range-takes size texts us i u (value.DebugInfoRef (Entry unit id)) e = absurd (no-entry _ (i ∷ []) e)

sound-based : All (IsSound Little) based
sound-based =
    sound-root based_declared Ranges based_body (an_address 8 0 ∷ an_address 12 5 ∷ []) (lit≤ tt) refl (lit≤ tt) refl
    (whole-address based_body 8 0 (an_address 12 5 ∷ []) (lit≤ tt) refl (lit< tt) (whole-address based_body 12 5 [] (lit≤ tt) refl (lit< tt) (All-nil _)))

pub base-refused : AreSpelled Little based → ⊥
base-refused s =
    let sound = sound-based in
    let are = trees-are based s sound (root_alone 0x55 (trees.ranges (five_bytes ∷ []))) based-says in
    let size = size_of s.given in
    let long : ◌≡◌ {A = ℕ} 24 (list_length 4 size (lists_of_units ranges_in s.given)) = ranges-are based s sound based-old in
    apart size (size-is based s sound) (long ∙ units-take size ((size + size) + (size + size)) 0x55 (trees.ranges (five_bytes ∷ [])) ranges_in s.texts s.given (range-takes size s.texts s.given five_bytes) are)
  where
    apart : (size : ℕ) → (size ≡ 4) ⊎ (size ≡ 8) → 24 ≡ (size + size) + (size + size) → ⊥
    apart size (inl e) long = omega (arith, e, long)
    apart size (inr e) long = omega (arith, e, long)

-- ---- an empty pair, and a pair behind a list's end (DWARF 4, section 2.6.2)

-- a name where it holds `DW_OP_call_frame_cfa` on five bytes, an empty pair, the end, and a pair from 5 to 15 with `DW_OP_reg0`
abbrev ended_body : List ℕ
ended_body = 0 ∷ 0 ∷ 0 ∷ 0 ∷ 5 ∷ 0 ∷ 0 ∷ 0 ∷ 1 ∷ 0 ∷ 0x9C ∷ 7 ∷ 0 ∷ 0 ∷ 0 ∷ 7 ∷ 0 ∷ 0 ∷ 0 ∷ 0 ∷ 0 ∷ 0 ∷ 0 ∷ 0 ∷ 0 ∷ 0 ∷ 0 ∷ 0 ∷ 0 ∷ 5 ∷ 0 ∷ 0 ∷ 0 ∷ 15 ∷ 0 ∷ 0 ∷ 0 ∷ 1 ∷ 0 ∷ 0x50 ∷ 0 ∷ 0 ∷ 0 ∷ 0 ∷ 0 ∷ 0 ∷ 0 ∷ 0 ∷ []

abbrev ended_declared : List ℕ
ended_declared = 1 ∷ 0x11 ∷ 0 ∷ 0x02 ∷ 0x17 ∷ 0 ∷ 0 ∷ 0 ∷ []

abbrev ended_twice : List OutputSection
ended_twice = with_root ended_declared Loc ended_body (an_address 0 0 ∷ an_address 4 5 ∷ an_address 11 7 ∷ an_address 15 7 ∷ [])

abbrev frame_there : trees.Location
frame_there = record { over = five_bytes; bytes = 0x9C ∷ [] }

ended_twice-says : CarriesTrees Little (root_alone 0x02 (trees.locations (frame_there ∷ []))) ended_twice
unfolding lists_on_literals locations_read
ended_twice-says = refl

ended_twice-old : list_all is_of_4 (units (output_sections Little ended_twice)).items ≡ true
unfolding lists_on_literals
ended_twice-old = refl

one-location : (size : ℕ) (xs : List (Address × ℕ × Expression)) → ◌≡◌ {A = List trees.Location} (map location_of xs) (frame_there ∷ []) → list_length 4 size (ended (map location_entry xs)) ≡ ((size + size) + 3) + (size + size)
one-location size [] e = absurd (cc)
one-location size (x ∷ []) e =
    let one : ◌≡◌ {A = trees.Location} (location_of x) frame_there = cc in
    let bytes : length x.2 ≡ 1 = ap (λ l. length l.bytes) one in
    omega (arith, bytes, sum_by-cons (listed_length 4 size) (location_entry x) (list_end ∷ []), sum_by-cons (listed_length 4 size) list_end [])
one-location size (x ∷ y ∷ xs) e = absurd (omega (arith, ap length e))

location-takes : (size : ℕ) (texts : List (List ℕ)) (us : List OrderedUnit) (u : OrderedUnit) (v : AttributeValue) → given_said texts us 0 u v ≡ trees.locations (frame_there ∷ []) → list_length 4 size (locations_in v) ≡ ((size + size) + 3) + (size + size)
location-takes size texts us u (value.Address a) e = absurd (cc)
location-takes size texts us u (value.Constant form bits) e = absurd (cc)
location-takes size texts us u (value.Flag b) e = absurd (cc)
location-takes size texts us u (value.Block bytes) e = absurd (cc)
location-takes size texts us u (value.Exprloc x) e = absurd (cc)
location-takes size texts us u (value.StringRef id) e = absurd (cc)
location-takes size texts us u value.LineProgramRef e = absurd (cc)
location-takes size texts us u (value.RangeListRef list) e = absurd (cc)
location-takes size texts us u (value.LocationListRef list) e = one-location size list.locations.items (let same : ◌≡◌ {A = List trees.Location} (map location_of list.locations.items) (frame_there ∷ []) = cc in same)
location-takes size texts us u (value.UnitRef id) e = absurd (no-place _ (frame_there ∷ []) e)
location-takes size texts us u (value.DebugInfoRef (Entry unit id)) e = absurd (no-place _ (frame_there ∷ []) e)

sound-ended_twice : All (IsSound Little) ended_twice
sound-ended_twice =
    let last = whole-address ended_body 15 7 [] (lit≤ tt) refl (lit< tt) (All-nil _) in
    let third = whole-address ended_body 11 7 (an_address 15 7 ∷ []) (lit≤ tt) refl (lit< tt) last in
    let second = whole-address ended_body 4 5 (an_address 11 7 ∷ an_address 15 7 ∷ []) (lit≤ tt) refl (lit< tt) third in
    sound-root ended_declared Loc ended_body (an_address 0 0 ∷ an_address 4 5 ∷ an_address 11 7 ∷ an_address 15 7 ∷ []) (lit≤ tt) refl (lit≤ tt) refl
    (whole-address ended_body 0 0 (an_address 4 5 ∷ an_address 11 7 ∷ an_address 15 7 ∷ []) (lit≤ tt) refl (lit< tt) second)

pub pair-behind-refused : AreSpelled Little ended_twice → ⊥
pair-behind-refused s =
    let sound = sound-ended_twice in
    let are = trees-are ended_twice s sound (root_alone 0x02 (trees.locations (frame_there ∷ []))) ended_twice-says in
    let size = size_of s.given in
    let long : ◌≡◌ {A = ℕ} 48 (list_length 4 size (lists_of_units locations_in s.given)) = locations-are ended_twice s sound ended_twice-old in
    apart size (size-is ended_twice s sound) (long ∙ units-take size (((size + size) + 3) + (size + size)) 0x02 (trees.locations (frame_there ∷ [])) locations_in s.texts s.given (location-takes size s.texts s.given) are)
  where
    apart : (size : ℕ) → (size ≡ 4) ⊎ (size ≡ 8) → 48 ≡ ((size + size) + 3) + (size + size) → ⊥
    apart size (inl e) long = omega (arith, e, long)
    apart size (inr e) long = omega (arith, e, long)

-- ---- an entry at the depth of the root behind it (DWARF 4, section 2.3)

-- a compile unit without attributes, and a variable beside it
abbrev two_declared : List ℕ
two_declared = 1 ∷ 0x11 ∷ 0 ∷ 0 ∷ 0 ∷ 2 ∷ 0x34 ∷ 0 ∷ 0 ∷ 0 ∷ 0 ∷ []

abbrev two_body : List ℕ
two_body = 9 ∷ 0 ∷ 0 ∷ 0 ∷ 4 ∷ 0 ∷ 0 ∷ 0 ∷ 0 ∷ 0 ∷ 4 ∷ 1 ∷ 2 ∷ []

abbrev two_roots : List OutputSection
two_roots = a_section Abbrev two_declared [] ∷ a_section Info two_body (an_offset 6 Abbrev ∷ []) ∷ []

abbrev plain_root : TreeEntry
plain_root = record { depth = 0; tag = 0x11; attributes = [] }

two_roots-says : CarriesTrees Little ((plain_root ∷ []) ∷ []) two_roots
unfolding lists_on_literals
two_roots-says = refl

two_roots-old : list_all is_of_4 (units (output_sections Little two_roots)).items ≡ true
unfolding lists_on_literals
two_roots-old = refl

-- such a root alone is 12 bytes long with its header
root-long : (size : ℕ) (u : OrderedUnit) (x : GivenEntry) → u.version ≡ 4 → u.entries ≡ x ∷ [] → x.depth ≡ 0 → x.tag ≡ 0x11 → x.attributes ≡ [] → unit_length Little size u ≡ 12
unfolding uleb_bytes uleb_bytes_within
root-long size u x old one depth tag none = rw (old, one, depth, tag, none) refl

no-attributes : (f : Attribute → ℕ × TreeValue) (xs : List Attribute) → ◌≡◌ {A = List (ℕ × TreeValue)} (map f xs) [] → xs ≡ []
no-attributes f [] e = refl
no-attributes f (a ∷ xs) e = absurd (cc)

entry-long : (size : ℕ) (texts : List (List ℕ)) (all : List OrderedUnit) (u : OrderedUnit) (es : List GivenEntry) → u.version ≡ 4 → u.entries ≡ es → ◌≡◌ {A = List TreeEntry} (map (tree_entry texts all 0 u) es) (plain_root ∷ []) → unit_length Little size u ≡ 12
entry-long size texts all u [] old are e = absurd (cc)
entry-long size texts all u (x ∷ []) old are e =
    let one : ◌≡◌ {A = TreeEntry} (tree_entry texts all 0 u x) plain_root = cc in
    root-long size u x old are (ap (λ t. t.depth) one) (ap (λ t. t.tag) one) (no-attributes (attribute_said texts all 0 u) x.attributes (ap (λ t. t.attributes) one))
entry-long size texts all u (x ∷ y ∷ es) old are e = absurd (omega (arith, ap length e))

units-long : (size : ℕ) (texts : List (List ℕ)) (us : List OrderedUnit) → All IsOld us → given_trees texts us ≡ (plain_root ∷ []) ∷ [] → sum_by (unit_length Little size) us ≡ 12
units-long size texts [] old e = absurd (cc)
units-long size texts (u ∷ []) old e =
    let tree : ◌≡◌ {A = Tree} (given_tree texts (u ∷ []) 0 u) (plain_root ∷ []) = cc in
    omega (arith, sum_by-cons (unit_length Little size) u [], entry-long size texts (u ∷ []) u u.entries (All-head IsOld u [] old) refl tree)
units-long size texts (u ∷ v ∷ us) old e = absurd (omega (arith, ap length e))

sound-two_roots : All (IsSound Little) two_roots
sound-two_roots =
    sound-one Abbrev two_declared [] (a_section Info two_body (an_offset 6 Abbrev ∷ []) ∷ []) (lit≤ tt) refl (All-nil _)
    (sound-one Info two_body (an_offset 6 Abbrev ∷ []) [] (lit≤ tt) refl (whole-offset two_body 6 Abbrev [] (lit≤ tt) refl (All-nil _)) (All-nil _))

pub second-root-refused : AreSpelled Little two_roots → ⊥
second-root-refused s =
    let sound = sound-two_roots in
    let are = trees-are two_roots s sound ((plain_root ∷ []) ∷ []) two_roots-says in
    let long : ◌≡◌ {A = ℕ} 13 (sum_by (unit_length Little (size_of s.given)) s.given) = entries-are two_roots s sound in
    omega (arith, long, units-long (size_of s.given) s.texts s.given (versions-are two_roots s sound two_roots-old) are)

-- ---- a sequence without rows (DWARF 4, section 6.2.5)

-- a compile unit whose line table has no files; its program sets the address of function 0 and ends the sequence
abbrev rowless_body : List ℕ
rowless_body = 36 ∷ 0 ∷ 0 ∷ 0 ∷ 4 ∷ 0 ∷ 20 ∷ 0 ∷ 0 ∷ 0 ∷ 1 ∷ 1 ∷ 1 ∷ 251 ∷ 14 ∷ 13 ∷ 0 ∷ 1 ∷ 1 ∷ 1 ∷ 1 ∷ 0 ∷ 0 ∷ 0 ∷ 1 ∷ 0 ∷ 0 ∷ 1 ∷ 0 ∷ 0 ∷ 0 ∷ 5 ∷ 2 ∷ 0 ∷ 0 ∷ 0 ∷ 0 ∷ 0 ∷ 1 ∷ 1 ∷ []

abbrev rowless_declared : List ℕ
rowless_declared = 1 ∷ 0x11 ∷ 0 ∷ 0x10 ∷ 0x17 ∷ 0 ∷ 0 ∷ 0 ∷ []

abbrev rowless : List OutputSection
rowless = with_root rowless_declared Line rowless_body (an_address 33 0 ∷ [])

abbrev there : Sections
there = output_sections Little rowless

-- the table of the first unit, and how many sequences, directories and files it has; 1 where there is none
abbrev first_table : List Unit → Result (Option LineTable) Fault
first_table [] = Ok None
first_table (v ∷ vs) = table_of_unit there v

abbrev counted : Result (Option LineTable) Fault → ℕ
counted (Ok (Some t)) = (length (segments t) + length t.header.directories) + length t.files
counted _ = 1

-- readers see none of them
rowless-says : (length (units there).items ≡ 1) × (counted (first_table (units there).items) ≡ 0)
unfolding lists_on_literals
rowless-says = (refl, refl)

rowless-old : list_all is_of_4 (units there).items ≡ true
unfolding lists_on_literals
rowless-old = refl

none : {A : Type 0} (xs : List A) → length xs ≡ 0 → xs ≡ []
none [] e = refl
none (x ∷ xs) e = absurd (omega (arith, e))

-- such a table is 30 bytes long
table-long : (size n : ℕ) (texts : List (List ℕ)) (own : List ℕ) (g : GivenLines) → g.address_size ≡ Some n → g.directories ≡ [] → g.files ≡ [] → g.sequences ≡ [] → length (lines_bytes Little size (written_lines 4 texts own g)) ≡ 30
table-long size n texts own g sized directories files sequences =
    let P : Option ℕ → Type 0 = λ o. length (lines_bytes Little size (elim o [ None ↦ [] | Some k ↦ record { version = 4; texts = texts; own = own; directories = g.directories; files = g.files; sequences = g.sequences } ∷ [] ])) ≡ 30 in
    subst P (sym sized) (rw (directories, files, sequences) refl)

lines-long : (size : ℕ) (all : AllPlaces) (u : OrderedUnit) (v : Unit) → u.version ≡ 4 → IsReadUnit there u v → counted (table_of_unit there v) ≡ 0 → length (lines_bytes Little size (table_of all u)) ≡ 30
lines-long size all u v old read few =
    subst (λ version. length (lines_bytes Little size (written_lines version all.names (own_directory all.table u) u.lines)) ≡ 30) (sym old) (go u.lines.address_size refl read.lines)
  where
    go : (o : Option ℕ) → u.lines.address_size ≡ o → ReadsLines there v u.lines o → length (lines_bytes Little size (written_lines 4 all.names (own_directory all.table u) u.lines)) ≡ 30
    go None sized lines = let clash : ◌≡◌ {A = ℕ} 1 0 = sym (ap counted lines) ∙ few in absurd (omega (arith, clash))
    go (Some n) sized lines =
        let t = lines.table in
        let none_there : (length (segments t) + length t.header.directories) + length t.files ≡ 0 = sym (ap counted lines.table_read) ∙ few in
        let files : t.files ≡ u.lines.files = lines.files ∙ ap (λ version. files_written version u.lines.files) (read.version ∙ old) in
        table-long size n all.names (own_directory all.table u) u.lines sized (none u.lines.directories (omega (arith, none_there, ap length lines.directories))) (none u.lines.files (omega (arith, none_there, ap length files)))
        (none u.lines.sequences (omega (arith, none_there, ap length lines.sequences, length-map u.lines.sequences (given_segment u.lines))))

tables-long : (size : ℕ) (all : AllPlaces) (us : List OrderedUnit) (vs : List Unit) → All IsOld us → length vs ≡ 1 → counted (first_table vs) ≡ 0 → AllZip (IsReadUnit there) us vs → length (lines_bytes Little size (written_tables all us)) ≡ 30
tables-long size all [] [] old one few each = absurd (omega (arith, one))
tables-long size all [] (v ∷ vs) old one few each = absurd each
tables-long size all (u ∷ us) [] old one few each = absurd each
tables-long size all (u ∷ []) (v ∷ []) old one few each = ap (λ ts. length (lines_bytes Little size ts)) (append-nil (table_of all u)) ∙ lines-long size all u v (All-head IsOld u [] old) each.0 few
tables-long size all (u ∷ w ∷ us) (v ∷ []) old one few each = absurd each.1
tables-long size all (u ∷ us) (v ∷ w ∷ vs) old one few each = absurd (omega (arith, one))

sound-rowless : All (IsSound Little) rowless
sound-rowless = sound-root rowless_declared Line rowless_body (an_address 33 0 ∷ []) (lit≤ tt) refl (lit≤ tt) refl (whole-address rowless_body 33 0 [] (lit≤ tt) refl (lit< tt) (All-nil _))

pub rowless-refused : AreSpelled Little rowless → ⊥
rowless-refused s =
    let sound = sound-rowless in
    let back = (spelled-whole Little rowless s sound).0 in
    let items : (units there).items ≡ back.read = ap (λ r. r.items) back.units_read in
    let P : List Unit → Type 0 = λ vs. (length vs ≡ 1) × (counted (first_table vs) ≡ 0) in
    let few = subst P items rowless-says in
    let places = all_places Little s.texts s.given in
    let long : ◌≡◌ {A = ℕ} 40 (length (lines_bytes Little (size_of s.given) (written_tables places s.given))) = tables-are rowless s sound in
    omega (arith, long, tables-long (size_of s.given) places s.given back.read (versions-are rowless s sound rowless-old) few.0 few.1 back.each)
