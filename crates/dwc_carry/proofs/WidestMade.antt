-- The sections of units that are made for an input are no longer, each number at its widest, than what is allowed for the input, in version 4
-- and in version 5: `said-widest`.
use Rattle.std.proofs.Common.{◌≡◌, ℕ, suc, ◌+◌, ◌<◌, ◌≤◌, List, [], ◌∷◌, ◌++◌, map, length, refl, ap, sym, ◌∙◌, subst, arith, Bool, true, false, Option, Some, None, Ok, inl, inr}
use Rattle.std.specs.Prelude.{◌⊎◌, ◌==◌, option_map, sum_by, zip, if◌then◌else◌}
use Rattle.std.specs.List.{flat_map}
use Rattle.std.specs.Option.{unwrap_or}
use Rattle.std.proofs.lemmas.List.Sums.{sum_by-cons, sum_by-append}
use Rattle.dwc_base.specs.declared.constants.TheConstants.{DW_AT_comp_dir}
use Rattle.dwc_base.specs.declared.records.Encoding.{Encoding}
use Rattle.dwc_base.specs.declared.section_name.SectionName.{SectionName}
use Rattle.dwc_base.specs.declared.section_name.SectionName.TheVariants.{Abbrev, Addr, CuIndex, Frame, Info, Line, LineStr, Loc, Loclists, Ranges, Rnglists, Str, StrOffsets}
use Rattle.dwc_dwarf.specs.LineRows.{LineTable}
use Rattle.dwc_dwarf.specs.ReadUnits.{table_of_unit}
use Rattle.dwc_dwarf.specs.Trees.{Tree, TreeValue}
use Rattle.dwc_dwarf.specs.TreeLaws.{have_short_expressions, text_said, texts_ended}
use Rattle.dwc_output.specs.FramesCarried.{widest_frames}
use Rattle.dwc_output.specs.NewWidest.{directory_said, each_once, names_in}
use Rattle.dwc_output.specs.TreeReading.{entry_or_nothing}
use Rattle.dwc_output.specs.Versions.{are_short_in, is_old}
use Rattle.dwc_output.specs.WidestTrees.{widest_of_trees}
use Rattle.dwc_rules.specs.Carried.{CarriedUnit, WantedUnit, synthetic_unit, carried_unit, unit_of_simulated, Module, Compilation}
use Rattle.dwc_rules.specs.CarriedUnits.{carried_units_of, wanted_units_of}
use Rattle.dwc_carried.specs.Forests.{carried_units, frame_descriptions, module_units, wanted_units, trees_made}
use Rattle.dwc_carried.specs.OutputCarried.{widest, widest_4, widest_lines_of}
use Rattle.dwc_carried.specs.SimulatedFunctions.{is_begun}
use Rattle.dwc_carried.specs.SimulatedUnitRules.{simulated_in_files, simulated_wanted, widest_simulated, widest_simulated_lines}
use Rattle.dwc_carried.specs.WidestVersions as Wanted
use Rattle.dwc_carried.specs.WidestVersions.{names_of_table, names_of_units, widest_5, widest_lines_5}
use Rattle.dwc_unit.specs.declared.attributes.Attribute.{Attribute}
use Rattle.dwc_unit.specs.declared.attributes.AttributeValue.{AttributeValue}
use Rattle.dwc_unit.specs.declared.attributes.AttributeValue.TheVariants.{Address, Constant, Flag, Block, Exprloc, StringRef, LineProgramRef, RangeListRef, LocationListRef, UnitRef, DebugInfoRef}
use Rattle.dwc_unit.specs.declared.attributes.DebugInfoRef.TheVariants.{Entry}
use Rattle.dwc_unit.specs.GivenLines.{GivenLines}
use Rattle.dwc_unit.specs.GivenTrees.{attribute_said, given_said, given_tree, given_trees, place_in_order, place_in_units, tree_entry, trees_from}
use Rattle.dwc_unit.specs.GivenUnits.{GivenEntry, GivenUnit, OrderedUnit, ordered, version_of}
use Rattle.dwc_unit.specs.LineNames.{line_texts_bytes, names_of_lines, names_of_unit, own_directory}
use Rattle.dwc_unit.specs.Renumbered.{place_at}
use Rattle.dwc_unit.specs.WidestGiven.{widest_given, widest_new, widest_said, widest_table_for, widest_unit}
use Rattle.dwc_carry.specs.Inputs.{encoding_of}
use Rattle.dwc_carry.specs.MadeUnits.{AreMadeOf, HasLinesOf, HasNames, HasNamesOf, HasWantedLines}
use Rattle.dwc_carry.proofs.CompositionLaws.{made-trees, made-version}

-- ---- line tables

-- the widest lines of a unit that is wanted, in version 4
abbrev widest_wanted : WantedUnit → ℕ
widest_wanted synthetic_unit = 0
widest_wanted (carried_unit c) = widest_lines_of c
widest_wanted (unit_of_simulated name translated ms) = widest_simulated_lines name (simulated_in_files translated ms)

-- a unit has them in a version
abbrev IsWithin : ℕ → (WantedUnit → ℕ) → Type 0
IsWithin version widest = (w : WantedUnit) (u : GivenUnit) → HasWantedLines w u → widest_table_for version u.lines.address_size u.lines ≤ widest w

old-within : IsWithin 4 widest_wanted
old-within synthetic_unit u lines = subst (λ (g : GivenLines). widest_table_for 4 g.address_size g ≤ 0) (sym lines) (omega arith)
old-within (carried_unit c) u lines = lines.widest
old-within (unit_of_simulated name translated ms) u lines = lines.widest

new-within : IsWithin 5 widest_lines_5
new-within synthetic_unit u lines = subst (λ (g : GivenLines). widest_table_for 5 g.address_size g ≤ 0) (sym lines) (omega arith)
new-within (carried_unit c) u lines = lines.widest_new
new-within (unit_of_simulated name translated ms) u lines = lines.widest_new

module _ (at : ℕ → ℕ → Option (ℕ × ℕ)) (encoding : Encoding) (texts : List (List ℕ)) where
  made-widest : (version : ℕ) (widest : WantedUnit → ℕ) → IsWithin version widest → encoding.version ≡ version
      → (number : ℕ) (ws : List WantedUnit) (ts : List Tree) (us : List GivenUnit) → AreMadeOf at encoding texts number ws ts us → sum_by (widest_unit Line) (map ordered us) ≤ sum_by widest ws
  made-widest version widest within is number [] [] [] made = omega arith
  made-widest version widest within is number [] [] (u ∷ us) made = absurd made
  made-widest version widest within is number [] (t ∷ ts) us made = absurd made
  made-widest version widest within is number (w ∷ ws) [] us made = absurd made
  made-widest version widest within is number (w ∷ ws) (t ∷ ts) [] made = absurd made
  made-widest version widest within is number (w ∷ ws) (t ∷ ts) (u ∷ us) made =
      let own : widest_unit Line (ordered u) ≤ widest w = subst (λ n. widest_table_for n u.lines.address_size u.lines ≤ widest w) (sym (made.0.writable.version ∙ is)) (within w u made.0.has_lines) in
      rw (sum_by-cons (widest_unit Line) (ordered u) (map ordered us), sum_by-cons widest w ws) (omega (arith, own, made-widest version widest within is (suc number) ws ts us made.1))

-- synthetic units have no lines
widest-carried : (us : List CarriedUnit) → sum_by widest_wanted (map carried_unit us) ≡ sum_by widest_lines_of us
widest-carried [] = refl
widest-carried (u ∷ us) = rw (sum_by-cons widest_wanted (carried_unit u) (map carried_unit us), sum_by-cons widest_lines_of u us) (ap (λ n. widest_lines_of u + n) (widest-carried us))

widest-modules : (ms : List Module) → sum_by widest_wanted (flat_map wanted_units_of ms) ≡ sum_by widest_lines_of (flat_map carried_units_of ms)
widest-modules [] = refl
widest-modules (m ∷ ms) =
    let rest = flat_map wanted_units_of ms in
    let synthetic = sum_by-cons widest_wanted synthetic_unit (map carried_unit (carried_units_of m) ++ rest) in
    let split = sum_by-append widest_wanted (map carried_unit (carried_units_of m)) rest in
    let carried = sum_by-append widest_lines_of (carried_units_of m) (flat_map carried_units_of ms) in
    omega (arith, synthetic, split, carried, widest-carried (carried_units_of m), widest-modules ms)

-- the simulated unit has its own
widest-behind : (translated : ℕ → Bool) (next_id : ℕ) (ms : List Module) → sum_by widest_wanted (simulated_wanted translated next_id ms) ≡ widest_simulated translated next_id ms
widest-behind translated next_id [] = refl
widest-behind translated next_id (m ∷ ms) = omega arith

widest-all : (c : Compilation) → sum_by widest_wanted (wanted_units c) ≡ widest_4 Line c
widest-all c = omega (arith, sum_by-append widest_wanted (module_units c) (simulated_wanted (is_begun c.modules) c.next_id c.modules), widest-modules c.modules, widest-behind (is_begun c.modules) c.next_id c.modules)

-- ---- the names in line tables

no-text : (o : Option (ℕ × ℕ)) → text_said (entry_or_nothing o) ≡ None
no-text None = refl
no-text (Some p) = refl

-- what a value says as a text does not hang on the other units
text-anywhere : (texts : List (List ℕ)) (us vs : List OrderedUnit) (i j : ℕ) (u : OrderedUnit) (v : AttributeValue) → text_said (given_said texts us i u v) ≡ text_said (given_said texts vs j u v)
text-anywhere texts us vs i j u (Address a) = refl
text-anywhere texts us vs i j u (Constant form bits) = refl
text-anywhere texts us vs i j u (Flag b) = refl
text-anywhere texts us vs i j u (Block bytes) = refl
text-anywhere texts us vs i j u (Exprloc e) = refl
text-anywhere texts us vs i j u (StringRef id) = refl
text-anywhere texts us vs i j u LineProgramRef = refl
text-anywhere texts us vs i j u (RangeListRef list) = refl
text-anywhere texts us vs i j u (LocationListRef list) = refl
text-anywhere texts us vs i j u (UnitRef id) = no-text (option_map (λ place. (i, place)) (place_in_order u id.index)) ∙ sym (no-text (option_map (λ place. (j, place)) (place_in_order u id.index)))
text-anywhere texts us vs i j u (DebugInfoRef (Entry unit id)) = no-text (place_in_units us unit.index id.index) ∙ sym (no-text (place_in_units vs unit.index id.index))

module _ (texts : List (List ℕ)) (us vs : List OrderedUnit) (i j : ℕ) (u : OrderedUnit) where
  -- neither does the compilation directory that the attributes of a root say
  attributes-anywhere : (depth tag : ℕ) (before behind : Tree) (xs : List Attribute)
      → directory_said (record { depth = depth; tag = tag; attributes = map (attribute_said texts us i u) xs } ∷ before) ≡ directory_said (record { depth = depth; tag = tag; attributes = map (attribute_said texts vs j u) xs } ∷ behind)
  attributes-anywhere depth tag before behind [] = refl
  attributes-anywhere depth tag before behind (a ∷ xs) = go (a.name == DW_AT_comp_dir) refl (attributes-anywhere depth tag before behind xs)
    where
      go : (b : Bool) → (a.name == DW_AT_comp_dir) ≡ b
          → directory_said (record { depth = depth; tag = tag; attributes = map (attribute_said texts us i u) xs } ∷ before) ≡ directory_said (record { depth = depth; tag = tag; attributes = map (attribute_said texts vs j u) xs } ∷ behind)
          → directory_said (record { depth = depth; tag = tag; attributes = map (attribute_said texts us i u) (a ∷ xs) } ∷ before) ≡ directory_said (record { depth = depth; tag = tag; attributes = map (attribute_said texts vs j u) (a ∷ xs) } ∷ behind)
      go true e rest = rw (e) (ap (λ o. unwrap_or o []) (text-anywhere texts us vs i j u a.value))
      go false e rest = rw (e) rest

  directory-anywhere : directory_said (given_tree texts us i u) ≡ directory_said (given_tree texts vs j u)
  directory-anywhere = go u.entries
    where
      go : (es : List GivenEntry) → directory_said (map (tree_entry texts us i u) es) ≡ directory_said (map (tree_entry texts vs j u) es)
      go [] = refl
      go (e ∷ es) = attributes-anywhere e.depth e.tag (map (tree_entry texts us i u) es) (map (tree_entry texts vs j u) es) e.attributes

module _ (at : ℕ → ℕ → Option (ℕ × ℕ)) (encoding : Encoding) (texts : List (List ℕ)) where
  -- a line program names what the table that it was made of names
  lines-named : (own : List ℕ) (t : Option LineTable) (g : GivenLines) → HasNamesOf t g → names_of_lines own g.address_size g ≡ names_of_table own (Ok t)
  lines-named own None g names = ap (λ (x : GivenLines). names_of_lines own x.address_size x) names
  lines-named own (Some t) g names =
      ap (λ o. names_of_lines own o g) names.sized ∙ ap (λ ds. names_in own ds g.files) names.directories ∙ ap (names_in own t.header.directories) names.files

  unit-named : (w : WantedUnit) (u : GivenUnit) (t : Tree) → HasWantedLines w u → directory_said t ≡ own_directory texts (ordered u) → names_of_unit texts (ordered u) ≡ Wanted.names_of_unit w t
  unit-named synthetic_unit u t lines said = ap (λ (x : GivenLines). names_of_lines (own_directory texts (ordered u)) x.address_size x) lines
  unit-named (carried_unit c) u t lines said =
      lines-named (own_directory texts (ordered u)) lines.table u.lines lines.names
      ∙ ap (names_of_table (own_directory texts (ordered u))) (sym lines.table_read)
      ∙ ap (λ own. names_of_table own (table_of_unit c.module_of.sections c.unit)) (sym said)
  unit-named (unit_of_simulated name translated ms) u t lines said =
      let own = own_directory texts (ordered u) in
      ap (λ o. names_of_lines own o u.lines) lines.names.sized
      ∙ ap (λ ds. names_in own ds u.lines.files) lines.names.directories
      ∙ ap (names_in own []) lines.names.files
      ∙ ap (λ d. names_in d [] (record { directory = 0; name = name } ∷ [])) (sym said)

  units-named : (all : List OrderedUnit) (number : ℕ) (ws : List WantedUnit) (ts : List Tree) (us : List GivenUnit) → AreMadeOf at encoding texts number ws ts us
      → flat_map (names_of_unit texts) (map ordered us) ≡ names_of_units ws (trees_from texts all number (map ordered us))
  units-named all number [] [] [] made = refl
  units-named all number [] [] (u ∷ us) made = absurd made
  units-named all number [] (t ∷ ts) us made = absurd made
  units-named all number (w ∷ ws) [] us made = absurd made
  units-named all number (w ∷ ws) (t ∷ ts) [] made = absurd made
  units-named all number (w ∷ ws) (t ∷ ts) (u ∷ us) made =
      ap (λ xs. xs ++ flat_map (names_of_unit texts) (map ordered us)) (unit-named w u (given_tree texts all number (ordered u)) made.0.has_lines (directory-anywhere texts all [] number 0 (ordered u)))
      ∙ ap (λ xs. Wanted.names_of_unit w (given_tree texts all number (ordered u)) ++ xs) (units-named all (suc number) ws ts us made.1)

-- ---- all sections

-- frames are as long in both versions
pub frames-widest : (c : Compilation) → widest Frame c ≡ widest_frames c.common_entry (frame_descriptions c)
frames-widest c = go (is_old c.version)
  where
    go : (old : Bool) → (if old then widest_4 Frame c else widest_5 Frame c) ≡ widest_frames c.common_entry (frame_descriptions c)
    go true = refl
    go false = refl

module _ (c : Compilation) (texts : List (List ℕ)) (us : List GivenUnit) (made : AreMadeOf (place_at us) (encoding_of c) texts 0 (wanted_units c) (trees_made c) us) where
  -- the trees of the units are those that are wanted
  same-trees : given_trees texts (map ordered us) ≡ trees_made c
  same-trees = made-trees (encoding_of c) texts (wanted_units c) (trees_made c) us made

  -- where there is no unit nothing is written
  none-wide : (name : SectionName) → map ordered us ≡ [] → widest_said name texts (map ordered us) ≡ 0
  none-wide name none = ap (widest_said name texts) none ∙ go name
    where
      go : (name : SectionName) → widest_said name texts [] ≡ 0
      go Line = refl
      go Abbrev = refl
      go Addr = refl
      go Info = refl
      go LineStr = refl
      go Loc = refl
      go Loclists = refl
      go Ranges = refl
      go Rnglists = refl
      go Str = refl
      go StrOffsets = refl
      go CuIndex = refl
      go Frame = refl

  module _ (old : version_of (map ordered us) ≡ 4) (asked : c.version ≡ 4) where
    old-widest : (name : SectionName) → widest_said name texts (map ordered us) ≤ widest_4 name c
    old-widest = go
      where
        same : (name : SectionName) → (if is_old (version_of (map ordered us)) then widest_of_trees name (given_trees texts (map ordered us)) else widest_new name (given_trees texts (map ordered us))) ≤ widest_of_trees name (trees_made c)
        same name =
            subst (λ version. (if is_old version then widest_of_trees name (given_trees texts (map ordered us)) else widest_new name (given_trees texts (map ordered us))) ≤ widest_of_trees name (trees_made c)) (sym old)
            (subst (λ ts. widest_of_trees name (given_trees texts (map ordered us)) ≤ widest_of_trees name ts) same-trees (omega arith))

        names : length (texts_ended (if is_old (version_of (map ordered us)) then [] else each_once (flat_map (names_of_unit texts) (map ordered us)))) ≤ 0
        names = subst (λ version. length (texts_ended (if is_old version then [] else each_once (flat_map (names_of_unit texts) (map ordered us)))) ≤ 0) (sym old) (omega arith)

        go : (name : SectionName) → widest_said name texts (map ordered us) ≤ widest_4 name c
        go Line = omega (arith, made-widest (place_at us) (encoding_of c) texts 4 widest_wanted old-within asked 0 (wanted_units c) (trees_made c) us made, widest-all c)
        go Abbrev = same Abbrev
        go Addr = same Addr
        go Info = same Info
        go LineStr = names
        go Loc = same Loc
        go Loclists = same Loclists
        go Ranges = same Ranges
        go Rnglists = same Rnglists
        go Str = same Str
        go StrOffsets = same StrOffsets
        go CuIndex = same CuIndex
        go Frame = omega (arith, same Frame)

  module _ (new : version_of (map ordered us) ≡ 5) (asked : c.version ≡ 5) where
    new-widest : (name : SectionName) → widest_said name texts (map ordered us) ≤ widest_5 name c
    new-widest = go
      where
        same : (name : SectionName) → (if is_old (version_of (map ordered us)) then widest_of_trees name (given_trees texts (map ordered us)) else widest_new name (given_trees texts (map ordered us))) ≤ widest_new name (trees_made c)
        same name =
            subst (λ version. (if is_old version then widest_of_trees name (given_trees texts (map ordered us)) else widest_new name (given_trees texts (map ordered us))) ≤ widest_new name (trees_made c)) (sym new)
            (subst (λ ts. widest_new name (given_trees texts (map ordered us)) ≤ widest_new name ts) same-trees (omega arith))

        named : flat_map (names_of_unit texts) (map ordered us) ≡ names_of_units (wanted_units c) (trees_made c)
        named =
            units-named (place_at us) (encoding_of c) texts (map ordered us) 0 (wanted_units c) (trees_made c) us made ∙ ap (names_of_units (wanted_units c)) same-trees

        names : length (line_texts_bytes texts (map ordered us)) ≤ length (texts_ended (each_once (names_of_units (wanted_units c) (trees_made c))))
        names =
            subst (λ version. length (texts_ended (if is_old version then [] else each_once (flat_map (names_of_unit texts) (map ordered us)))) ≤ length (texts_ended (each_once (names_of_units (wanted_units c) (trees_made c))))) (sym new)
            (subst (λ ns. length (texts_ended (each_once (flat_map (names_of_unit texts) (map ordered us)))) ≤ length (texts_ended (each_once ns))) named (omega arith))

        go : (name : SectionName) → widest_said name texts (map ordered us) ≤ widest_5 name c
        go Line = made-widest (place_at us) (encoding_of c) texts 5 widest_lines_5 new-within asked 0 (wanted_units c) (trees_made c) us made
        go Abbrev = same Abbrev
        go Addr = same Addr
        go Info = same Info
        go LineStr = names
        go Loc = same Loc
        go Loclists = same Loclists
        go Ranges = same Ranges
        go Rnglists = same Rnglists
        go Str = same Str
        go StrOffsets = same StrOffsets
        go CuIndex = same CuIndex
        go Frame = omega (arith, same Frame)

  -- What is counted over the units is no more than what is counted over the input.
  pub said-widest : (c.version ≡ 4) ⊎ (c.version ≡ 5) → (name : SectionName) → widest_said name texts (map ordered us) ≤ widest name c
  said-widest (inl four) name =
      subst (λ version. widest_said name texts (map ordered us) ≤ (if is_old version then widest_4 name c else widest_5 name c)) (sym four) (old-widest (shared us four made) four name)
    where
      shared : (vs : List GivenUnit) → c.version ≡ 4 → AreMadeOf (place_at us) (encoding_of c) texts 0 (wanted_units c) (trees_made c) vs → version_of (map ordered vs) ≡ 4
      shared [] four made = refl
      shared (v ∷ vs) four made = made-version (place_at us) (encoding_of c) texts 0 (wanted_units c) (trees_made c) (v ∷ vs) made (omega arith) ∙ four
  said-widest (inr five) name =
      subst (λ version. widest_said name texts (map ordered us) ≤ (if is_old version then widest_4 name c else widest_5 name c)) (sym five) (go us refl made)
    where
      go : (vs : List GivenUnit) → us ≡ vs → AreMadeOf (place_at us) (encoding_of c) texts 0 (wanted_units c) (trees_made c) vs → widest_said name texts (map ordered us) ≤ widest_5 name c
      go [] is h = omega (arith, none-wide name (ap (map ordered) is))
      go (v ∷ vs) is h =
          new-widest (ap (λ ws. version_of (map ordered ws)) is ∙ made-version (place_at us) (encoding_of c) texts 0 (wanted_units c) (trees_made c) (v ∷ vs) h (omega arith) ∙ five) five name

  -- Expressions are short enough for the version of the units where they are so for the version that is asked for.
  pub short-shared : are_short_in c.version (trees_made c) ≡ are_short_in (version_of (map ordered us)) (given_trees texts (map ordered us))
  short-shared = go us refl made
    where
      go : (vs : List GivenUnit) → us ≡ vs → AreMadeOf (place_at us) (encoding_of c) texts 0 (wanted_units c) (trees_made c) vs → are_short_in c.version (trees_made c) ≡ are_short_in (version_of (map ordered us)) (given_trees texts (map ordered us))
      go [] is h =
          ap (are_short_in c.version) (sym same-trees) ∙ ap (λ ws. are_short_in c.version (given_trees texts (map ordered ws))) is ∙ none-short (is_old c.version) ∙ sym (ap (λ ws. are_short_in (version_of (map ordered ws)) (given_trees texts (map ordered ws))) is)
        where
          none-short : (old : Bool) → (if old then have_short_expressions [] else true) ≡ true
          none-short true = refl
          none-short false = refl
      go (v ∷ vs) is h =
          ap (are_short_in c.version) (sym same-trees)
          ∙ ap (λ version. are_short_in version (given_trees texts (map ordered us))) (sym (ap (λ ws. version_of (map ordered ws)) is ∙ made-version (place_at us) (encoding_of c) texts 0 (wanted_units c) (trees_made c) (v ∷ vs) h (omega arith)))
