-- Units behind one another in their sections: what all of them are, and that a refusal of one is a refusal of all.
use Rattle.std.proofs.Common.{◌≡◌, ℕ, zero, suc, ◌+◌, ◌<◌, ◌≤◌, ◌⊎◌, inl, inr, refl, sym, ap, subst, ◌∙◌, arith, List, [], ◌∷◌, ◌++◌, append_assoc, append-nil, length, length-append, take, drop, get_or, Ok, Err, Bool, true, false}
use Rattle.std.specs.Prelude.{Result, IfErr, IfOk, if◌then◌else◌}
use Rattle.std.proofs.lemmas.List.{drop_all}
use Rattle.std.specs.List.{All, flat_map}
use Rattle.std.proofs.lemmas.List.Elements.{All-head, All-tail, All-cons, All-nil, All-weaker}
use Rattle.dwc_base.specs.declared.records.Endian.{Endian}
use Rattle.dwc_base.specs.declared.section_name.SectionName.{SectionName}
use Rattle.dwc_base.specs.declared.section_name.SectionName.TheVariants.{Abbrev, Info, Line, LineStr, Loc, Loclists, Ranges, Rnglists, Str}
use Rattle.dwc_base.specs.Outputs.{OutputRelocation, OutputSection}
use Rattle.dwc_section.specs.declared.error.WriteError.{WriteError}
use Rattle.dwc_section.specs.Spelled.{at_places}
use Rattle.dwc_unit.specs.SpelledTables.{table_bytes}
use Rattle.dwc_write.specs.SpelledSections.{placed_unit_bytes, tables_bytes, info_bytes, one_table_bytes, lines_bytes}
use Rattle.dwc_write.specs.SpelledRelocations.{unit_relocations, info_relocations, one_table_relocations, lines_relocations}
use Rattle.dwc_section.specs.RisingRelocations.{RelocationsRise, DoRelocationsRise}
use Rattle.dwc_write.proofs.LineRelocations.{lines-rise}
use Rattle.dwc_write.proofs.ReadRelocations.{info-rise, rise-above, rise-places}
use Rattle.dwc_unit.specs.GivenUnits.{GivenEntry, OrderedUnit, Places, IsWritable, size_of, version_of, AreWritable, behind_entries, lists_of_entries}
use Rattle.dwc_unit.specs.declared.attributes.AttributeValue.{AttributeValue}
use Rattle.dwc_unit.specs.declared.lists.ListPlaces.{ListPlaces}
use Rattle.dwc_output.specs.FieldKinds.{section_of_locations, section_of_ranges}
use Rattle.dwc_output.specs.Versions.{is_old}
use Rattle.dwc_unit.specs.Lists.{ListEntry, AreWithin, contribution_bytes, headed_bytes, list_bytes, locations_in, ranges_in}
use Rattle.dwc_write.proofs.ListPlaces.{entries-behind, headed-length, places-equal}
use Rattle.dwc_write.proofs.RelatedLists.{contribution-rise}
use Rattle.dwc_write.specs.Layouts.{AllPlaces, offsets_by_number, places_in, behind_unit, first_place, lists_from, table_of, written_unit, written_units, written_tables}
use Rattle.dwc_unit.specs.UsedTexts.{strings_bytes}
use Rattle.dwc_section.specs.Writers.{Writing, Refuses, Writes, IsSound, appended, most_bytes}
use Rattle.dwc_write.specs.SpelledOutput.{section_unless_empty, sections_of, sections_placed, units_placed, all_places, spelled_sections, WritesUnit, WrittenSections, places_there, lists_there, lists_bytes, with_lists, WritesLists, unit_in, with_unit, RefusesUnit, WritesOne, empty_sections, names_bytes, unit_lists_bytes, unit_lists_relocations, with_units, all_units, IsRefusalAmong, IsRefusal, bytes_of, abbrev_bytes, all_info_bytes, all_lines_bytes, all_lists_bytes, all_lists_relocations, section_bytes}
use Rattle.dwc_section.proofs.RefusalLaws.{past-among, past-more, refusal-weaker, size-refusal}
use Rattle.dwc_section.proofs.WritesLaws.{refused-longer, refused-later, appended-twice, appended-nothing, length-behind}

-- ---- one unit

-- a unit behind its line table
pub one-refused : (result : Result (Unit {0}) WriteError) (e : WriteError) (units : AllPlaces) (w w' : WrittenSections) (u : OrderedUnit) → ((error : WriteError) × (result ≡ Err error) × (error ≡ e)) → Refuses e w.line_section (length (lines_bytes w.line_section.order u.address_size (table_of units u))) → WritesOne units w w' result u
one-refused result e units w w' u p refused =
    let is : result ≡ Err e = p.1 ∙ ap Err p.2 in
    rw (is) (inr (inr (inl refused)))

-- and behind its lists
pub one-refused-lists : (result : Result (Unit {0}) WriteError) (e : WriteError) (units : AllPlaces) (w w' : WrittenSections) (u : OrderedUnit) → ((error : WriteError) × (result ≡ Err error) × (error ≡ e))
    → (Refuses e w.ranges_section (length (lists_bytes ranges_in u w.ranges_section)) ⊎ Refuses e w.locations_section (length (lists_bytes locations_in u w.locations_section))) → WritesOne units w w' result u
one-refused-lists result e units w w' u p refused =
    let is : result ≡ Err e = p.1 ∙ ap Err p.2 in
    rw (is) (inr (inr (inr refused)))

-- the lists of a unit, of both kinds
pub lists-written : (result : Result (Unit {0}) WriteError) (v v' k k' : Writing) (u : OrderedUnit) → v' ≡ with_lists ranges_in u v → Writes k k' result (lists_bytes locations_in u k) (unit_lists_relocations locations_in k.order u.address_size (length k.body) u) → WritesLists v v' k k' result u
lists-written (Ok done) v v' k k' u first second = (first, second)
lists-written (Err e) v v' k k' u first second = inr second

pub ranges-refused : (result : Result (Unit {0}) WriteError) (e : WriteError) (v v' k k' : Writing) (u : OrderedUnit) → ((error : WriteError) × (result ≡ Err error) × (error ≡ e)) → Refuses e v (length (lists_bytes ranges_in u v)) → WritesLists v v' k k' result u
ranges-refused result e v v' k k' u p refused =
    let is : result ≡ Err e = p.1 ∙ ap Err p.2 in
    rw (is) (inl refused)

-- where the first of a unit's lists of a kind stands, the next ones would stand within the section
first-inside : (version size place end : ℕ) (order : Endian) (es : List ListEntry) → end ≡ place + length (contribution_bytes version order size es) → end ≤ most_bytes → first_place version es place + length (list_bytes version order size es) ≤ most_bytes
first-inside version size place end order [] stop short = nothing (is_old version) stop
  where
    nothing : (b : Bool) → end ≡ place + length (if b then list_bytes version order size [] else headed_bytes version order size []) → place + 0 ≤ most_bytes
    nothing true stop = omega (arith, stop, short)
    nothing false stop = omega (arith, stop, short)
first-inside version size place end order (e ∷ es) stop short = some (is_old version) stop
  where
    some : (b : Bool) → end ≡ place + length (if b then list_bytes version order size (e ∷ es) else headed_bytes version order size (e ∷ es)) → (place + (if b then 0 else 12)) + length (list_bytes version order size (e ∷ es)) ≤ most_bytes
    some true stop = omega (arith, stop, short)
    some false stop = omega (arith, stop, short, headed-length version order size e es)

-- Where the lists of a unit end: behind those that are written.
pub record EndBehind (v k : Writing) (u : OrderedUnit) (begins end : ListPlaces) : Type 0 where
  pub ranges : end.ranges ≡ begins.ranges + length (contribution_bytes u.version v.order u.address_size (lists_of_entries ranges_in u.entries))
  pub locations : end.locations ≡ begins.locations + length (contribution_bytes u.version k.order u.address_size (lists_of_entries locations_in u.entries))

pub lists-ended : (v v' k k' : Writing) (u : OrderedUnit) (begins end : ListPlaces) → begins ≡ record { ranges = length v.body; locations = length k.body } → end ≡ record { ranges = length v'.body; locations = length k'.body } → v' ≡ with_lists ranges_in u v → k' ≡ with_lists locations_in u k → EndBehind v k u begins end
lists-ended v v' k k' u begins end start stop ranges locations = record {
  ranges = ap (λ (p : ListPlaces). p.ranges) stop ∙ length-behind v v' (lists_bytes ranges_in u v) (unit_lists_relocations ranges_in v.order u.address_size (length v.body) u) ranges ∙ ap (λ (p : ListPlaces). p.ranges + length (lists_bytes ranges_in u v)) (sym start);
  locations = ap (λ (p : ListPlaces). p.locations) stop ∙ length-behind k k' (lists_bytes locations_in u k) (unit_lists_relocations locations_in k.order u.address_size (length k.body) u) locations ∙ ap (λ (p : ListPlaces). p.locations + length (lists_bytes locations_in u k)) (sym start);
}

-- The next ones would stand there, within their sections.
pub lists-inside : (v k : Writing) (u : OrderedUnit) (begins end : ListPlaces) → EndBehind v k u begins end → AreWithin end → AreWithin (behind_entries u.version u.address_size (lists_from u.version u.entries begins) u.entries)
lists-inside v k u begins end ended short =
    let places = lists_from u.version u.entries begins in
    record {
      ranges = omega (arith, ap (λ (p : ListPlaces). p.ranges) (entries-behind u.version v.order u.address_size places u.entries), first-inside u.version u.address_size begins.ranges end.ranges v.order (lists_of_entries ranges_in u.entries) ended.ranges short.ranges);
      locations = omega (arith, ap (λ (p : ListPlaces). p.locations) (entries-behind u.version k.order u.address_size places u.entries), first-inside u.version u.address_size begins.locations end.locations k.order (lists_of_entries locations_in u.entries) ended.locations short.locations);
    }

pub one-written : (result : Result (Unit {0}) WriteError) (units : AllPlaces) (w w' : WrittenSections) (u : OrderedUnit) (a' i' l' v' k' : Writing) → l' ≡ appended (lines_bytes w.line_section.order u.address_size (table_of units u)) (lines_relocations w.line_section.order u.address_size (length w.line_section.body) (table_of units u)) w.line_section
    → v' ≡ with_lists ranges_in u w.ranges_section → k' ≡ with_lists locations_in u w.locations_section
    → WritesUnit w.abbrev_section a' w.info_section i' result u.address_size (lists_from u.version u.entries (lists_there w)) (places_there units w u) u.entries → w' ≡ record { abbrev_section = a'; info_section = i'; line_section = l'; ranges_section = v'; locations_section = k' } → WritesOne units w w' result u
one-written (Ok done) units w w' u a' i' l' v' k' lines ranges locations unit is = is ∙ rw (unit.0, unit.1, lines, ranges, locations) refl
one-written (Err e) units w w' u a' i' l' v' k' lines ranges locations (inl refused) is = inl refused
one-written (Err e) units w w' u a' i' l' v' k' lines ranges locations (inr refused) is = inr (inl refused)

-- ---- all of them

-- what is there with those that are left is the whole
pub units-more : (order : Endian) (units : AllPlaces) (us all : List OrderedUnit) (i : ℕ) (d : OrderedUnit) (w w' : WrittenSections) → i < length us → with_units units (drop i us) w ≡ all_units order units all → w' ≡ with_unit units (get_or us i d) w → with_units units (drop (suc i) us) w' ≡ all_units order units all
units-more order units [] all i d w w' within invariant step = absurd (omega arith)
units-more order units (u ∷ us) all zero d w w' within invariant step = ap (with_units units us) step ∙ invariant
units-more order units (u ∷ us) all (suc i) d w w' within invariant step = units-more order units us all i d w w' (omega arith) invariant step

-- ---- the bytes of all

five-equal : {a b i j l m v w k n : Writing} → a ≡ b → i ≡ j → l ≡ m → v ≡ w → k ≡ n
    → ◌≡◌ {A = WrittenSections} (record { abbrev_section = a; info_section = i; line_section = l; ranges_section = v; locations_section = k }) (record { abbrev_section = b; info_section = j; line_section = m; ranges_section = w; locations_section = n })
five-equal {a} {b} {i} {j} {l} {m} {v} {w} {k} {n} p q r t x = rw (p, q, r, t, x) refl

module _ (order : Endian) (size : ℕ) (units : AllPlaces) where
  -- sections of this order
  record AreOf (w : WrittenSections) : Type 0 where
    info : w.info_section.order ≡ order
    line : w.line_section.order ≡ order
    ranges : w.ranges_section.order ≡ order
    locations : w.locations_section.order ≡ order

  -- what lists of a kind append to their section
  abbrev pub appended_lists : (AttributeValue → List ListEntry) → List OrderedUnit → Writing → Writing
  appended_lists kind us w = appended (flat_map (unit_lists_bytes kind order size) us) (at_places (unit_lists_bytes kind order size) (unit_lists_relocations kind order size) (length w.body) us) w

  -- what units append to their sections
  abbrev pub appended_units : List OrderedUnit → WrittenSections → WrittenSections
  appended_units us w = record {
    abbrev_section = appended (tables_bytes (written_units order size units (length w.abbrev_section.body) (length w.line_section.body) (lists_there w) us)) [] w.abbrev_section;
    info_section = appended (info_bytes order size (written_units order size units (length w.abbrev_section.body) (length w.line_section.body) (lists_there w) us)) (info_relocations order size (length w.info_section.body) (written_units order size units (length w.abbrev_section.body) (length w.line_section.body) (lists_there w) us)) w.info_section;
    line_section = appended (lines_bytes order size (written_tables units us)) (lines_relocations order size (length w.line_section.body) (written_tables units us)) w.line_section;
    ranges_section = appended_lists ranges_in us w.ranges_section;
    locations_section = appended_lists locations_in us w.locations_section;
  }

  flat_map-both : {A : Type 0} (f : A → List ℕ) (xs ys : List A) → flat_map f (xs ++ ys) ≡ flat_map f xs ++ flat_map f ys
  flat_map-both f [] ys = refl
  flat_map-both f (x ∷ xs) ys = ap (λ bytes. f x ++ bytes) (flat_map-both f xs ys) ∙ sym (append_assoc (f x) (flat_map f xs) (flat_map f ys))

  places-both : {A B : Type 0} (spell : A → List ℕ) (at : ℕ → A → List B) (xs ys : List A) (place : ℕ) → at_places spell at place (xs ++ ys) ≡ at_places spell at place xs ++ at_places spell at (place + length (flat_map spell xs)) ys
  places-both spell at [] ys place = ap (λ p. at_places spell at p ys) (omega arith)
  places-both spell at (x ∷ xs) ys place =
      ap (λ bs. at place x ++ bs) (places-both spell at xs ys (place + length (spell x)))
      ∙ sym (append_assoc (at place x) _ _)
      ∙ ap (λ p. (at place x ++ at_places spell at (place + length (spell x)) xs) ++ at_places spell at p ys) (omega (arith, length-append (spell x) (flat_map spell xs)))

  step-section : (a : Writing) (x y : List ℕ) (r : List OutputRelocation) (s : ℕ → List OutputRelocation) → appended y (s (length (a.body ++ x))) (appended x r a) ≡ appended (x ++ y) (r ++ s (length a.body + length x)) a
  step-section a x y r s = appended-twice a (appended x r a) _ x y r (s (length (a.body ++ x))) refl refl ∙ ap (λ p. appended (x ++ y) (r ++ s p) a) (length-append a.body x)

  -- the lists of a unit, and of those behind it
  lists-step : (kind : AttributeValue → List ListEntry) (u : OrderedUnit) (us : List OrderedUnit) (v : Writing) → v.order ≡ order → u.address_size ≡ size → appended_lists kind us (with_lists kind u v) ≡ appended_lists kind (u ∷ us) v
  lists-step kind u us v ordered_so same =
      let others = flat_map (unit_lists_bytes kind order size) us in
      let behind : ℕ → List OutputRelocation = λ p. at_places (unit_lists_bytes kind order size) (unit_lists_relocations kind order size) p us in
      step-section v (unit_lists_bytes kind v.order u.address_size u) others (unit_lists_relocations kind v.order u.address_size (length v.body) u) behind
      ∙ ap (λ o. appended (unit_lists_bytes kind o u.address_size u ++ others) (unit_lists_relocations kind o u.address_size (length v.body) u ++ behind (length v.body + length (unit_lists_bytes kind o u.address_size u))) v) ordered_so
      ∙ ap (λ n. appended (unit_lists_bytes kind order n u ++ others) (unit_lists_relocations kind order n (length v.body) u ++ behind (length v.body + length (unit_lists_bytes kind order n u))) v) same

  -- where lists of a kind end
  lists-end : (kind : AttributeValue → List ListEntry) (u : OrderedUnit) (v : Writing) → v.order ≡ order → u.address_size ≡ size → length (with_lists kind u v).body ≡ length v.body + length (unit_lists_bytes kind order size u)
  lists-end kind u v ordered_so same =
      length-append v.body _ ∙ ap (λ o. length v.body + length (unit_lists_bytes kind o u.address_size u)) ordered_so ∙ ap (λ n. length v.body + length (unit_lists_bytes kind order n u)) same

  with_units-appended : (us : List OrderedUnit) (w : WrittenSections) → AreOf w → All (λ u. u.address_size ≡ size) us → with_units units us w ≡ appended_units us w
  with_units-appended [] w of sized = five-equal (appended-nothing w.abbrev_section) (appended-nothing w.info_section) (appended-nothing w.line_section) (appended-nothing w.ranges_section) (appended-nothing w.locations_section)
  with_units-appended (u ∷ us) w of sized =
      let a = w.abbrev_section in
      let i = w.info_section in
      let l = w.line_section in
      let unit = unit_in units w u in
      let table = table_bytes unit.table in
      let same : u.address_size ≡ size = All-head (λ (v : OrderedUnit). v.address_size ≡ size) u us sized in
      let others = with_units-appended us (with_unit units u w) (record { info = of.info; line = of.line; ranges = of.ranges; locations = of.locations }) (All-tail (λ (v : OrderedUnit). v.address_size ≡ size) u us sized) in
      let there : unit ≡ written_unit size (lists_there w) (places_in units u.version (offsets_by_number order size u) (length l.body)) (length a.body) u =
      ap (λ o. written_unit u.address_size (lists_there w) (places_in units u.version (offsets_by_number o u.address_size u) (length l.body)) (length a.body) u) of.info ∙ ap (λ n. written_unit n (lists_there w) (places_in units u.version (offsets_by_number order n u) (length l.body)) (length a.body) u) same in
      let lines : lines_bytes l.order u.address_size (table_of units u) ≡ lines_bytes order size (table_of units u) = ap (λ o. lines_bytes o u.address_size (table_of units u)) of.line ∙ ap (λ n. lines_bytes order n (table_of units u)) same in
      let placed : placed_unit_bytes i.order u.address_size unit ≡ placed_unit_bytes order size unit = ap (λ o. placed_unit_bytes o u.address_size unit) of.info ∙ ap (λ n. placed_unit_bytes order n unit) same in
      let at_table : length (a.body ++ table) ≡ length a.body + length table = length-append a.body table in
      let at_lines : length (l.body ++ lines_bytes l.order u.address_size (table_of units u)) ≡ length l.body + length (lines_bytes order size (table_of units u)) = length-append l.body _ ∙ ap (λ bytes. length l.body + length bytes) lines in
      let lists_end = lists_there (with_unit units u w) in
      let at_lists : lists_end ≡ behind_unit order size (lists_there w) u = places-equal (lists-end ranges_in u w.ranges_section of.ranges same) (lists-end locations_in u w.locations_section of.locations same) in
      let line_end = length (l.body ++ lines_bytes l.order u.address_size (table_of units u)) in
      let line_at = length l.body + length (lines_bytes order size (table_of units u)) in
      let rest = written_units order size units (length a.body + length table) line_at (behind_unit order size (lists_there w) u) us in
      let rest_is : written_units order size units (length (a.body ++ table)) line_end lists_end us ≡ rest =
      ap (λ p. written_units order size units p line_end lists_end us) at_table ∙ ap (λ q. written_units order size units (length a.body + length table) q lists_end us) at_lines
      ∙ ap (λ q. written_units order size units (length a.body + length table) line_at q us) at_lists in
      others ∙ five-equal
      (ap (λ ws. appended (tables_bytes ws) [] (appended table [] a)) rest_is ∙ step-section a table (tables_bytes rest) [] (λ p. []))
      (ap (λ ws. appended (info_bytes order size ws) (info_relocations order size (length (i.body ++ placed_unit_bytes i.order u.address_size unit)) ws) (appended (placed_unit_bytes i.order u.address_size unit) (unit_relocations i.order u.address_size (length i.body) unit) i)) rest_is
      ∙ step-section i (placed_unit_bytes i.order u.address_size unit) (info_bytes order size rest) (unit_relocations i.order u.address_size (length i.body) unit) (λ p. info_relocations order size p rest)
      ∙ ap (λ o. appended (placed_unit_bytes o u.address_size unit ++ info_bytes order size rest) (unit_relocations o u.address_size (length i.body) unit ++ info_relocations order size (length i.body + length (placed_unit_bytes o u.address_size unit)) rest) i) of.info
      ∙ ap (λ n. appended (placed_unit_bytes order n unit ++ info_bytes order size rest) (unit_relocations order n (length i.body) unit ++ info_relocations order size (length i.body + length (placed_unit_bytes order n unit)) rest) i) same
      ∙ ap (λ v. appended (placed_unit_bytes order size v ++ info_bytes order size rest) (unit_relocations order size (length i.body) v ++ info_relocations order size (length i.body + length (placed_unit_bytes order size v)) rest) i) there)
      (step-section l (lines_bytes l.order u.address_size (table_of units u)) (lines_bytes order size (written_tables units us)) (lines_relocations l.order u.address_size (length l.body) (table_of units u)) (λ p. lines_relocations order size p (written_tables units us))
      ∙ ap (λ o. appended (lines_bytes o u.address_size (table_of units u) ++ lines_bytes order size (written_tables units us)) (lines_relocations o u.address_size (length l.body) (table_of units u) ++ lines_relocations order size (length l.body + length (lines_bytes o u.address_size (table_of units u))) (written_tables units us)) l) of.line
      ∙ ap (λ n. appended (lines_bytes order n (table_of units u) ++ lines_bytes order size (written_tables units us)) (lines_relocations order n (length l.body) (table_of units u) ++ lines_relocations order size (length l.body + length (lines_bytes order n (table_of units u))) (written_tables units us)) l) same
      ∙ ap (λ bytes. appended bytes (lines_relocations order size (length l.body) (table_of units u) ++ lines_relocations order size (length l.body + length (lines_bytes order size (table_of units u))) (written_tables units us)) l) (sym (flat_map-both (one_table_bytes order size) (table_of units u) (written_tables units us)))
      ∙ ap (λ rs. appended (lines_bytes order size (written_tables units (u ∷ us))) rs l) (sym (places-both (one_table_bytes order size) (one_table_relocations order size) (table_of units u) (written_tables units us) (length l.body))))
      (lists-step ranges_in u us w.ranges_section of.ranges same)
      (lists-step locations_in u us w.locations_section of.locations same)

-- all units have one size
writable-sizes : (us : List OrderedUnit) → AreWritable us → All (λ u. u.address_size ≡ size_of us) us
writable-sizes us fits = All-weaker (IsWritable (version_of us) (size_of us)) (λ u. u.address_size ≡ size_of us) (λ u h. h.size) us fits

-- what is appended to empty sections
abbrev pub all_of : Endian → AllPlaces → List OrderedUnit → WrittenSections
all_of order units us = appended_units order (size_of us) units us (empty_sections order (version_of us))

-- The sections of all units are the ones that are spelled.
pub all-appended : (order : Endian) (units : AllPlaces) (us : List OrderedUnit) → AreWritable us → all_units order units us ≡ all_of order units us
all-appended order units us fits = with_units-appended order (size_of us) units us _ (record { info = refl; line = refl; ranges = refl; locations = refl }) (writable-sizes us fits)

-- ---- a refusal

-- sections only grow
record Grown (w v : WrittenSections) : Type 0 where
  abbrev_name : w.abbrev_section.name ≡ v.abbrev_section.name
  abbrev_more : length w.abbrev_section.body ≤ length v.abbrev_section.body
  info_name : w.info_section.name ≡ v.info_section.name
  info_more : length w.info_section.body ≤ length v.info_section.body
  line_name : w.line_section.name ≡ v.line_section.name
  line_more : length w.line_section.body ≤ length v.line_section.body
  ranges_name : w.ranges_section.name ≡ v.ranges_section.name
  ranges_more : length w.ranges_section.body ≤ length v.ranges_section.body
  locations_name : w.locations_section.name ≡ v.locations_section.name
  locations_more : length w.locations_section.body ≤ length v.locations_section.body

grown-units : (units : AllPlaces) (us : List OrderedUnit) (w : WrittenSections) → Grown w (with_units units us w)
grown-units units [] w = record { abbrev_name = refl; abbrev_more = omega arith; info_name = refl; info_more = omega arith; line_name = refl; line_more = omega arith; ranges_name = refl; ranges_more = omega arith; locations_name = refl; locations_more = omega arith }
grown-units units (u ∷ us) w =
    let on = grown-units units us (with_unit units u w) in
    record {
      abbrev_name = on.abbrev_name;
      abbrev_more = let h = on.abbrev_more in omega (arith, h, length-append w.abbrev_section.body (table_bytes (unit_in units w u).table));
      info_name = on.info_name;
      info_more = let h = on.info_more in omega (arith, h, length-append w.info_section.body (placed_unit_bytes w.info_section.order u.address_size (unit_in units w u)));
      line_name = on.line_name;
      line_more = let h = on.line_more in omega (arith, h, length-append w.line_section.body (lines_bytes w.line_section.order u.address_size (table_of units u)));
      ranges_name = on.ranges_name;
      ranges_more = let h = on.ranges_more in omega (arith, h, length-append w.ranges_section.body (lists_bytes ranges_in u w.ranges_section));
      locations_name = on.locations_name;
      locations_more = let h = on.locations_more in omega (arith, h, length-append w.locations_section.body (lists_bytes locations_in u w.locations_section));
    }

pub section-refused : (order : Endian) (units : AllPlaces) (us : List OrderedUnit) (e : WriteError) (a b : Writing) (name : SectionName) (x : List ℕ) → Refuses e a (length x) → a.name ≡ b.name → length (a.body ++ x) ≤ length b.body → b.name ≡ name → b.body ≡ bytes_of order units us name → IsRefusalAmong order units us e
section-refused order units us e a b name x refused named more final is =
    let long = ap length is in
    past-among (λ m. length (bytes_of order units us m)) name (length a.body + length x) e (λ large. omega (arith, large, more, long, length-append a.body x)) (past-more a.name name _ _ e (named ∙ final) (λ large. large) refused)

-- the bytes of lists are those of the sections that the version has
pub ranges-named : (order : Endian) (units : AllPlaces) (us : List OrderedUnit) → all_lists_bytes ranges_in order us ≡ bytes_of order units us (section_of_ranges (version_of us))
ranges-named order units us = go (is_old (version_of us)) refl
  where
    go : (b : Bool) → is_old (version_of us) ≡ b → all_lists_bytes ranges_in order us ≡ bytes_of order units us (if b then Ranges else Rnglists)
    go true e = rw (e) refl
    go false e = rw (e) refl

pub locations-named : (order : Endian) (units : AllPlaces) (us : List OrderedUnit) → all_lists_bytes locations_in order us ≡ bytes_of order units us (section_of_locations (version_of us))
locations-named order units us = go (is_old (version_of us)) refl
  where
    go : (b : Bool) → is_old (version_of us) ≡ b → all_lists_bytes locations_in order us ≡ bytes_of order units us (if b then Loc else Loclists)
    go true e = rw (e) refl
    go false e = rw (e) refl

-- A unit that is refused is a refusal of all.
pub units-refused : (order : Endian) (units : AllPlaces) (us : List OrderedUnit) (i : ℕ) (d : OrderedUnit) (w : WrittenSections) (e : WriteError) → i < length us → AreWritable us → with_units units (drop i us) w ≡ all_units order units us → RefusesUnit e units w (get_or us i d) → IsRefusalAmong order units us e
units-refused order units us i d w e within fits invariant refused =
    let u = get_or us i d in
    let final : with_units units (drop (suc i) us) (with_unit units u w) ≡ all_of order units us =
    units-more order units us us i d w (with_unit units u w) within invariant refl ∙ all-appended order units us fits in
    let grown = grown-units units (drop (suc i) us) (with_unit units u w) in
    let P : WrittenSections → Type 0 = λ v. Grown (with_unit units u w) v in
    go refused (subst P final grown)
  where
    go : RefusesUnit e units w (get_or us i d) → Grown (with_unit units (get_or us i d) w) (all_of order units us) → IsRefusalAmong order units us e
    go (inl refused) grown = section-refused order units us e w.abbrev_section (all_of order units us).abbrev_section Abbrev (table_bytes (unit_in units w (get_or us i d)).table) refused grown.abbrev_name grown.abbrev_more refl refl
    go (inr (inl refused)) grown = section-refused order units us e w.info_section (all_of order units us).info_section Info (placed_unit_bytes w.info_section.order (get_or us i d).address_size (unit_in units w (get_or us i d))) refused grown.info_name grown.info_more refl refl
    go (inr (inr (inr (inl refused)))) grown = section-refused order units us e w.ranges_section (all_of order units us).ranges_section (section_of_ranges (version_of us)) (lists_bytes ranges_in (get_or us i d) w.ranges_section) refused grown.ranges_name grown.ranges_more refl (ranges-named order units us)
    go (inr (inr (inr (inr refused)))) grown = section-refused order units us e w.locations_section (all_of order units us).locations_section (section_of_locations (version_of us)) (lists_bytes locations_in (get_or us i d) w.locations_section) refused grown.locations_name grown.locations_more refl (locations-named order units us)
    go (inr (inr (inl refused))) grown = section-refused order units us e w.line_section (all_of order units us).line_section Line (lines_bytes w.line_section.order (get_or us i d).address_size (table_of units (get_or us i d))) refused grown.line_name grown.line_more refl refl

-- among their own places it is the refusal of the units
pub refusal-of-all : (order : Endian) (units : AllPlaces) (texts : List (List ℕ)) (us : List OrderedUnit) (e : WriteError) → units ≡ all_places order texts us → IsRefusalAmong order units us e → IsRefusal order texts us e
refusal-of-all order units texts us e placed refused =
    size-refusal _ (λ name. most_bytes < length (section_bytes order texts us name)) e
    (refusal-weaker (λ name. most_bytes < length (bytes_of order units us name)) (λ name. most_bytes < length (section_bytes order texts us name)) (λ name large. go name (subst (λ xs. most_bytes < length (bytes_of order xs us name)) placed large)) e refused)
  where
    go : (n : SectionName) → most_bytes < length (bytes_of order (all_places order texts us) us n) → most_bytes < length (section_bytes order texts us n)
    go Abbrev large = large
    go Info large = large
    go Line large = large
    go LineStr large = large
    go Ranges large = large
    go Loc large = large
    go Rnglists large = large
    go Loclists large = large
    go Str large = absurd (omega (arith, large))
    go _ large = large

-- the error of a call, for a function that answers something else
pub units-exit : {A : Type 0} (order : Endian) (units : AllPlaces) (us : List OrderedUnit) (result : Result A WriteError) (e : WriteError) → ((error : WriteError) × (result ≡ Err error) × (error ≡ e)) → IsRefusalAmong order units us e → IfErr result (λ x. IsRefusalAmong order units us x)
units-exit order units us result e p refused =
    let is : result ≡ Err e = p.1 ∙ ap Err p.2 in
    rw (is) refused

-- ---- what is gathered

pub gathered : (order x y z m v k w : Endian) (none one two three four five six seven : List OutputSection) → none ≡ [] → (All (IsSound x) none → All (IsSound x) one) → (All (IsSound y) one → All (IsSound y) two) → (All (IsSound z) two → All (IsSound z) three) → (All (IsSound m) three → All (IsSound m) four) → (All (IsSound v) four → All (IsSound v) five)
    → (All (IsSound k) five → All (IsSound k) six) → (All (IsSound w) six → All (IsSound w) seven) → x ≡ order → y ≡ order → z ≡ order → m ≡ order → v ≡ order → k ≡ order → w ≡ order → All (IsSound order) seven
gathered order x y z m v k w none one two three four five six seven empty first second third fourth fifth sixth seventh a b c d e f g =
    let start : All (IsSound x) none = rw (empty) (All-nil (IsSound x)) in
    let P : List OutputSection → Endian → Type 0 = λ ss o. All (IsSound o) ss in
    let one_sound : All (IsSound y) one = subst (P one) (a ∙ sym b) (first start) in
    let two_sound : All (IsSound z) two = subst (P two) (b ∙ sym c) (second one_sound) in
    let three_sound : All (IsSound m) three = subst (P three) (c ∙ sym d) (third two_sound) in
    let four_sound : All (IsSound v) four = subst (P four) (d ∙ sym e) (fourth three_sound) in
    let five_sound : All (IsSound k) five = subst (P five) (e ∙ sym f) (fifth four_sound) in
    let six_sound : All (IsSound w) six = subst (P six) (f ∙ sym g) (sixth five_sound) in
    subst (P seven) g (seventh six_sound)

-- ---- for a loop over units, and for its end

pub all-taken-more : {A : Type 0} (P : A → Type 0) (xs : List A) (i : ℕ) (d : A) → i < length xs → All P (take i xs) → P (get_or xs i d) → All P (take (suc i) xs)
all-taken-more P [] i d within all here = absurd (omega arith)
all-taken-more P (x ∷ xs) zero d within all here = All-cons P x [] here (All-nil P)
all-taken-more P (x ∷ xs) (suc i) d within all here = All-cons P x (take (suc i) xs) (All-head P x (take i xs) all) (all-taken-more P xs i d (omega arith) (All-tail P x (take i xs) all) here)

pub all-taken : {A : Type 0} (P : A → Type 0) (xs : List A) (i : ℕ) → length xs ≤ i → All P (take i xs) → All P xs
all-taken P [] i past all = All-nil P
all-taken P (x ∷ xs) zero past all = absurd (omega arith)
all-taken P (x ∷ xs) (suc i) past all = All-cons P x xs (All-head P x (take i xs) all) (all-taken P xs i (omega arith) (All-tail P x (take i xs) all))

pub units-done : (order : Endian) (units : AllPlaces) (us : List OrderedUnit) (i : ℕ) (w : WrittenSections) → length us ≤ i → with_units units (drop i us) w ≡ all_units order units us → w ≡ all_units order units us
units-done order units us i w past invariant = rw (drop_all i us past) at invariant

-- what is gathered of all is what is spelled
pub output-sections : (order : Endian) (units : AllPlaces) (texts : List (List ℕ)) (us : List OrderedUnit) → units ≡ all_places order texts us → AreWritable us
    → sections_of (all_units order units us) (record { order = order; name = LineStr; body = names_bytes units; relocations = [] }) (record { order = order; name = Str; body = strings_bytes texts us; relocations = [] }) ≡ spelled_sections order texts us
output-sections order units texts us placed fits =
    ap (λ w. sections_of w (record { order = order; name = LineStr; body = names_bytes units; relocations = [] }) (record { order = order; name = Str; body = strings_bytes texts us; relocations = [] })) (all-appended order units us fits) ∙ ap (λ xs. sections_placed order xs (strings_bytes texts us) us) placed

pub if-ok-weaker : {A E : Type 0} (result : Result A E) (P Q : A → Type 0) → ((x : A) → P x → Q x) → IfOk result P → IfOk result Q
if-ok-weaker (Ok x) P Q weaker h = weaker x h
if-ok-weaker (Err e) P Q weaker h = h

pub if-ok-both : {A E : Type 0} (result : Result A E) (P Q R : A → Type 0) → ((x : A) → P x → Q x → R x) → IfOk result P → IfOk result Q → IfOk result R
if-ok-both (Ok x) P Q R both h k = both x h k
if-ok-both (Err e) P Q R both h k = h

-- ---- relocations rise

part-rises : (name : SectionName) (x : List ℕ) (rs : List OutputRelocation) (rest : List OutputSection) → RelocationsRise 0 (length x) rs → All DoRelocationsRise rest → All DoRelocationsRise (section_unless_empty name x rs ++ rest)
part-rises name [] rs rest rise others = others
part-rises name (b ∷ x) rs rest rise others = All-cons DoRelocationsRise _ rest rise others

pub lists-rise : (kind : AttributeValue → List ListEntry) (order : Endian) (size : ℕ) (us : List OrderedUnit) → RelocationsRise 0 (0 + length (flat_map (unit_lists_bytes kind order size) us)) (at_places (unit_lists_bytes kind order size) (unit_lists_relocations kind order size) 0 us)
lists-rise kind order size us = rise-places (unit_lists_bytes kind order size) (unit_lists_relocations kind order size) us 0 (λ place u. contribution-rise u.version order size place (lists_of_entries kind u.entries))

pub sections-rise : (order : Endian) (texts : List (List ℕ)) (us : List OrderedUnit) → All DoRelocationsRise (spelled_sections order texts us)
sections-rise order texts us =
    let size = size_of us in
    let units = all_places order texts us in
    let ws = units_placed order units us in
    let info : RelocationsRise 0 (length (all_info_bytes order units us)) (info_relocations order size 0 ws) = from-0 (length (all_info_bytes order units us)) _ (info-rise order size 0 ws) in
    let lines : RelocationsRise 0 (length (all_lines_bytes order units us)) (lines_relocations order size 0 (written_tables units us)) = from-0 (length (all_lines_bytes order units us)) _ (lines-rise order size 0 (written_tables units us)) in
    let P : List OutputSection → Type 0 = λ ss. All DoRelocationsRise ss in
    let last = subst P (append-nil _) (part-rises Str (strings_bytes texts us) [] [] (omega arith) (All-nil DoRelocationsRise)) in
    let lists : (kind : AttributeValue → List ListEntry) → RelocationsRise 0 (length (all_lists_bytes kind order us)) (all_lists_relocations kind order us) = λ kind. from-0 (length (all_lists_bytes kind order us)) _ (lists-rise kind order size us) in
    let located = part-rises (section_of_locations (version_of us)) (all_lists_bytes locations_in order us) (all_lists_relocations locations_in order us) _ (lists locations_in) last in
    let behind = part-rises Line (all_lines_bytes order units us) (lines_relocations order size 0 (written_tables units us)) _ lines (part-rises LineStr (names_bytes units) [] _ (omega arith) (part-rises (section_of_ranges (version_of us)) (all_lists_bytes ranges_in order us) (all_lists_relocations ranges_in order us) _ (lists ranges_in) located)) in
    part-rises Abbrev (abbrev_bytes order units us) [] _ (omega arith) (part-rises Info (all_info_bytes order units us) (info_relocations order size 0 ws) _ info behind)
  where
    from-0 : (n : ℕ) (rs : List OutputRelocation) → RelocationsRise 0 (0 + n) rs → RelocationsRise 0 n rs
    from-0 n rs rise = rise-above 0 (0 + n) n rs (omega arith) rise
