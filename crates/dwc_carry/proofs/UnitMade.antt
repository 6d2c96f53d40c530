-- The unit of the output that is made of a carried unit of a module, and what is refused of it.
use Rattle.std.proofs.Common.{◌≡◌, ℕ, ◌≤◌, List, [], ◌∷◌, ◌++◌, refl, ap, ap₂, sym, subst, ◌∙◌, arith, Bool, true, false, Option, Some, None, Ok}
use Rattle.std.specs.Prelude.{◌==◌, ◌||◌, ◌&&◌, is_some, option_map, option_to_list, if◌then◌else◌, Result}
use Rattle.std.specs.List.{filter, flat_map, list_any, find, AllZip}
use Rattle.dwc_base.specs.declared.constants.TheConstants.{DW_AT_stmt_list}
use Rattle.dwc_base.specs.declared.records.Encoding.{Encoding}
use Rattle.dwc_base.specs.Reading.{◌>>=◌}
use Rattle.dwc_base.specs.Sections.{Sections, Fault}
use Rattle.dwc_base.specs.Units.{UnitHeader}
use Rattle.dwc_dwarf.specs.Values.{Value}
use Rattle.dwc_dwarf.specs.Entries.{Entry, entries, attribute}
use Rattle.dwc_dwarf.specs.Indexed.{text_base}
use Rattle.dwc_dwarf.specs.LineRows.{LineTable, line_table}
use Rattle.dwc_native.specs.Images.{is_carried_segment, IsImageOf}
use Rattle.dwc_rules.specs.Carried.{Module}
use Rattle.dwc_dwarf.specs.ReadUnits.{Unit, root, line_offset, table_of_root, table_of_unit, segments_of}
use Rattle.dwc_rules.specs.Refusals.{Refusal, table_offset, lines_refusal, unit_refusal}
use Rattle.dwc_base.specs.Listing.{first_of}
use Rattle.dwc_output.specs.NewWidest.{widest_header_5}
use Rattle.dwc_output.specs.Widest.{widest_header, widest_table}
use Rattle.dwc_rules.specs.Drafts.{Goal, Draft}
use Rattle.dwc_rules.specs.DraftForests.{settled_unit}
use Rattle.dwc_rules.specs.Clones.{UnitSource, entry_refusals}
use Rattle.dwc_rules.specs.KeptModules.{kept_module, kept_in}
use Rattle.dwc_rules.specs.CarriedDrafts.{readable_table, source_of, unit_drafts}
use Rattle.dwc_rules.specs.ReachedEntries.{kept_refusals}
use Rattle.dwc_rules.specs.EntryRules.{code_rules}
use Rattle.dwc_carried.specs.Forests.{rules_of, drafts_of}
use Rattle.dwc_carried.specs.WidestVersions.{widest_table_5}
use Rattle.dwc_rules.specs.ModuleDrafts.{expressions_of}
use Rattle.dwc_rules.specs.CarriedUnits.{kept_of}
use Rattle.dwc_kept.specs.declared.kept_units.KeptModule.{KeptModule}
use Rattle.dwc_kept.specs.KeptUnits.{IsTree}
use Rattle.dwc_kept.specs.ReadUnits.{unit_read}
use Rattle.dwc_kept.specs.declared.read_unit.ReadUnit.{ReadUnit}
use Rattle.dwc_base.proofs.InLists.{contains-in}
use Rattle.dwc_kept.proofs.KeptModuleLaws.{read-unit, read-entries}
use Rattle.dwc_native.specs.Functions.{Function}
use Rattle.dwc_native.specs.Compiled.{ToldModule}
use Rattle.dwc_isa.specs.Registers.{Registers}
use Rattle.dwc_source.specs.declared.places.EmittedEntry.{EmittedEntry}
use Rattle.dwc_source.specs.declared.error.CloneError.{CloneError}
use Rattle.dwc_source.specs.declared.source.CloneSource.{CloneSource}
use Rattle.dwc_source.specs.Errors.{refusal_told}
use Rattle.dwc_source.specs.CompiledModules.{told_by}
use Rattle.dwc_source.specs.Sources.{AreFiles}
use Rattle.dwc_clone.specs.ClonedUnits.{picked, placed_in, depths_of, draft_depths, clone_refusals, clone_drafts, goal_number, AreNumbered, IsCloned, TellsFirst}
use Rattle.dwc_extents.specs.CodeSources.{source_with, clone_rules}
use Rattle.dwc_image.specs.CarriedLines.{CarriesTable}
use Rattle.dwc_unit.specs.GivenLines.{GivenLines}
use Rattle.dwc_unit.specs.GivenUnits.{GivenUnit, names_lines, in_file_order}
use Rattle.dwc_unit.specs.GivenSegments.{given_segments}
use Rattle.dwc_unit.specs.WidestGiven.{widest_table_for}
use Rattle.dwc_carry.specs.declared.error.DebugError.{DebugError}
use Rattle.dwc_carry.specs.Refusals.{in_reading, of_cloning, RefusesReading}
use Rattle.dwc_carry.specs.UnitPrograms.{CarriesNamed}
use Rattle.dwc_carry.specs.MadeUnits.{HasNamesOf}
use Rattle.dwc_carry.specs.SyntheticUnits.{ReferToSynthetic}
use Rattle.dwc_carry.specs.CarriedUnits.{IsUnitOf, CarriesUnit, refusals_of}
use Rattle.dwc_carry.proofs.RefusalLaws.{unmapped, reading-more, first-behind}
use Rattle.dwc_carry.proofs.CauseLaws.{clone-told}
use Rattle.dwc_carry.proofs.LinesNamed.{tree_says, has_lines, tree-names, root-says, root-drafted}
use Rattle.dwc_carry.proofs.UnitSources.{read_of, unit-in, unit-is, picked-are, clonable, first-root, synthetic-unit}

-- ---- the line table that a root names

named : Sections → UnitHeader → Option ℕ → Result (Option LineTable) Fault
named s h None = Ok None
named s h (Some offset) = line_table s h.address_size (text_base s h) offset >>= λ t. Ok (Some t)

table-named : (s : Sections) (u : Unit) → table_of_unit s u ≡ named s u.header (table_offset (root u))
unfolding table_of_unit named
table-named s u = go (root u)
  where
    inner : (o : Option ℕ) → (let t : Result (Option LineTable) Fault = elim o [ None ↦ Ok None | Some offset ↦ (line_table s u.header.address_size (text_base s u.header) offset >>= λ t. Ok (Some t)) ] in t) ≡ named s u.header o
    inner None = refl
    inner (Some offset) = refl

    go : (o : Option Entry) → table_of_root s u o ≡ named s u.header (table_offset o)
    go None = refl
    go (Some e) = inner (line_offset (attribute DW_AT_stmt_list e))

found-any : {A : Type 0} (t : A → Bool) (xs : List A) (x : A) → find t xs ≡ Some x → list_any t xs ≡ true
found-any t [] x h = absurd (clash h)
  where
    clash : None ≡ Some x → ⊥
    clash e = cc
found-any {A} t (y ∷ xs) x h = go (t y) h (found-any t xs x)
  where
    go : (b : Bool) → (let o : Option A = if b then Some y else find t xs in o) ≡ Some x → (find t xs ≡ Some x → list_any t xs ≡ true) → (b || list_any t xs) ≡ true
    go true e rest = refl
    go false e rest = rest e

-- a root that names a table has an attribute of that name
offset-has : (e : Entry) (offset : ℕ) → line_offset (attribute DW_AT_stmt_list e) ≡ Some offset → has_lines e.attributes ≡ true
offset-has e offset h = go (find (λ (a : ℕ × Value). a.0 == DW_AT_stmt_list) e.attributes) refl h
  where
    clash : ◌≡◌ {A = Option ℕ} None (Some offset) → ⊥
    clash x = cc

    go : (o : Option (ℕ × Value)) → find (λ (a : ℕ × Value). a.0 == DW_AT_stmt_list) e.attributes ≡ o → line_offset (option_map (λ (a : ℕ × Value). a.1) o) ≡ Some offset → has_lines e.attributes ≡ true
    go None is k = absurd (clash k)
    go (Some a) is k = found-any (λ (a : ℕ × Value). a.0 == DW_AT_stmt_list) e.attributes a is

first-of_option : (o : Option Refusal) (r : Refusal) → o ≡ Some r → first_of (option_to_list o) ≡ Some r
first-of_option None r is = is
first-of_option (Some x) r is = is

-- a line table is refused
pub begun-refused : {version : ℕ} (c : Module) (fs : List Function) (told : ToldModule) (m : KeptModule) (first number : ℕ) (places : List EmittedEntry) (kept : List ℕ) (r : ReadUnit) → IsUnitOf version c fs told m first number places kept r
    → (e : DebugError) → RefusesReading (lines_refusal r.unit.sections r.unit.header r.line_table) e → RefusesReading (first_of (refusals_of c (unit_read c.sections r.unit.header))) e
begun-refused {version} c fs told m first number places kept r of e met =
    let is = read-unit c m (of.module_is).is r (contains-in m.units.items r of.one) in
    let same : lines_refusal r.unit.sections r.unit.header r.line_table ≡ unit_refusal c.sections (unit_read c.sections r.unit.header) =
    ap (λ s. lines_refusal s r.unit.header r.line_table) is.sections ∙ ap (lines_refusal c.sections r.unit.header) is.lines in
    reading-more (lines_refusal r.unit.sections r.unit.header r.line_table) (first_of (refusals_of c (unit_read c.sections r.unit.header))) e
    (λ x at. first-behind (option_to_list (unit_refusal c.sections (unit_read c.sections r.unit.header))) (kept_refusals (rules_of c) (kept_of c) (unit_read c.sections r.unit.header)) x (first-of_option (unit_refusal c.sections (unit_read c.sections r.unit.header)) x (sym same ∙ at))) met

-- A program that carries a table is no longer than it at its widest, in version 4 and in version 5.
table-widest : (fs : List Function) (t : LineTable) (size : ℕ) (g : GivenLines) → CarriesTable t fs size g → widest_table_for 4 g.address_size g ≤ widest_table fs (Ok (Some t))
table-widest fs t size g h =
    let header : widest_header g.directories g.files ≡ widest_header t.header.directories t.files = ap₂ widest_header h.directories h.files in
    subst (λ o. widest_table_for 4 o g ≤ widest_table fs (Ok (Some t))) (sym h.address_size) (omega (arith, header, h.widest))

table-widest-new : (fs : List Function) (t : LineTable) (size : ℕ) (g : GivenLines) → CarriesTable t fs size g → widest_table_for 5 g.address_size g ≤ widest_table_5 fs (Ok (Some t))
table-widest-new fs t size g h =
    let header : widest_header_5 g.directories g.files ≡ widest_header_5 t.header.directories t.files = ap₂ widest_header_5 h.directories h.files in
    subst (λ o. widest_table_for 5 o g ≤ widest_table_5 fs (Ok (Some t))) (sym h.address_size) (omega (arith, header, h.widest))

-- What is known of the line table of a carried unit, and of the program that carries it.
record KnownTable (c : Module) (u : Unit) (lines : GivenLines) : Type 0 where
  t : Option LineTable
  is_read : table_of_unit c.sections u ≡ Ok t
  names : HasNamesOf t lines
  images : AllZip (IsImageOf c.functions) (filter (is_carried_segment c.functions) (segments_of t)) (given_segments lines)
  widest : widest_table_for 4 lines.address_size lines ≤ widest_table c.functions (Ok t)
  widest_new : widest_table_for 5 lines.address_size lines ≤ widest_table_5 c.functions (Ok t)
  ended : lines.begun ≡ None
  sized : is_some t ≡ is_some lines.address_size
  there : (e : Entry) → root u ≡ Some e → (is_some t && has_lines e.attributes) ≡ is_some t

module _ (encoding : Encoding) (registers : Registers) (k : CloneSource) (compile : Bool) (table : Option ℕ) (c : Module) (m : KeptModule) (first number : ℕ) (kept : List ℕ)
    (of : IsUnitOf encoding.version c k.transform.now (told_by registers k.module) m first number k.places.now kept (read_of k compile table)) where
  -- what is told of the module
  abbrev told : ToldModule
  told = told_by registers k.module

  abbrev h : UnitHeader
  h = k.unit.now.header

  abbrev u : Unit
  u = unit_read c.sections k.unit.now.header

  abbrev es : List Entry
  es = picked kept (entries k.unit.now.sections k.unit.now.header).items

  same-sections : k.unit.now.sections ≡ c.sections
  same-sections = (unit-is k compile table told c m first number kept of).sections

  same-functions : k.transform.now ≡ c.functions
  same-functions = sym (of.module_is).functions

  table-is : table ≡ table_offset (root u)
  table-is = (unit-is k compile table told c m first number kept of).lines

  module _ (lines : GivenLines) where
    -- the program is of the module's functions and sections
    carried-there : CarriesNamed k.transform.now k.unit.now.sections h encoding table k.files lines → CarriesNamed c.functions c.sections h encoding (table_offset (root u)) k.files lines
    carried-there carries =
        subst (λ o. CarriesNamed c.functions c.sections h encoding o k.files lines) table-is
        (subst (λ s. CarriesNamed c.functions s h encoding table k.files lines) same-sections
        (subst (λ fs. CarriesNamed fs k.unit.now.sections h encoding table k.files lines) same-functions carries))

    from-lines : (o : Option ℕ) → table_offset (root u) ≡ o → CarriesNamed c.functions c.sections h encoding o k.files lines → KnownTable c u lines × AreFiles k.files encoding.version h.version (readable_table (table_of_unit c.sections u))
    unfolding named
    from-lines None is carries =
        let read : table_of_unit c.sections u ≡ Ok None = table-named c.sections u ∙ ap (named c.sections h) is in (
          record {
            t = None;
            is_read = read;
            names = carries.1;
            images = subst (λ g. AllZip (IsImageOf c.functions) [] (given_segments g)) (sym carries.1) tt;
            widest = subst (λ (g : GivenLines). widest_table_for 4 g.address_size g ≤ 0) (sym carries.1) (omega arith);
            widest_new = subst (λ (g : GivenLines). widest_table_for 5 g.address_size g ≤ 0) (sym carries.1) (omega arith);
            ended = ap (λ (g : GivenLines). g.begun) carries.1;
            sized = sym (ap (λ (g : GivenLines). is_some g.address_size) carries.1);
            there = λ e at. refl;
          },
          subst (λ t. AreFiles k.files encoding.version h.version (readable_table t)) (sym read) carries.0,
        )
    from-lines (Some offset) is carries =
        let t = carries.table in
        let read : table_of_unit c.sections u ≡ Ok (Some t) = table-named c.sections u ∙ ap (named c.sections h) is ∙ ap (λ l. l >>= λ x. Ok (Some x)) carries.is_read in (
          record {
            t = Some t;
            is_read = read;
            names = record { size = encoding.address_size; sized = carries.carries.address_size; directories = carries.carries.directories; files = carries.carries.files };
            images = carries.carries.images;
            widest = table-widest c.functions t encoding.address_size lines carries.carries;
            widest_new = table-widest-new c.functions t encoding.address_size lines carries.carries;
            ended = carries.carries.ended;
            sized = sym (ap is_some carries.carries.address_size);
            there = λ e at. offset-has e offset (sym (ap table_offset at) ∙ is);
          },
          subst (λ x. AreFiles k.files encoding.version h.version (readable_table x)) (sym read) carries.files_are,
        )

    pub files-known : CarriesNamed k.transform.now k.unit.now.sections h encoding table k.files lines → AreFiles k.files (source_of (kept_of c) u).output_version h.version (source_of (kept_of c) u).table
    unfolding source_of kept_module
    files-known carries =
        subst (λ n. AreFiles k.files n h.version (readable_table (table_of_unit c.sections u))) (sym (of.module_is).version_is)
        (from-lines (table_offset (root u)) refl (carried-there carries)).1

    table-known : CarriesNamed k.transform.now k.unit.now.sections h encoding table k.files lines → KnownTable c u lines
    table-known carries = (from-lines (table_offset (root u)) refl (carried-there carries)).0

  -- ---- what is to be said, and what is refused

  pub entries-are : placed_in h.offset es ≡ kept_in (kept_of c) u
  entries-are =
      ap (placed_in h.offset) (picked-are k compile table told c m first number kept of)
      ∙ sym (read-entries c m (of.module_is).is (read_of k compile table) (unit-in k compile table told c m first number kept of))

  rules-are : clone_rules registers k (source_of (kept_of c) u) ≡ rules_of c u
  unfolding source_of
  rules-are =
      ap (λ t. code_rules t k.transform.now k.unit.now.sections h (kept_of c).entries) (sym (of.module_is).told_is)
      ∙ ap₂ (λ fs s. code_rules c.told fs s h (kept_of c).entries) same-functions same-sections

  expressions-are : source_with registers k (source_of (kept_of c) u) ≡ expressions_of c u
  unfolding source_of
  expressions-are =
      ap (λ t. record { sections = k.unit.now.sections; header = h; functions = k.transform.now; told = t; entries = (kept_of c).entries }) (sym (of.module_is).told_is)
      ∙ ap₂ (λ fs s. record { sections = s; header = h; functions = fs; told = c.told; entries = (kept_of c).entries }) same-functions same-sections

  -- what is made of its entries is what is made of the unit
  drafts-are : clone_drafts registers k (source_of (kept_of c) u) es ≡ drafts_of k.big_endian (record { module_of = c; unit = u })
  drafts-are =
      ap (unit_drafts (source_with registers k (source_of (kept_of c) u)) (source_of (kept_of c) u) k.big_endian) entries-are
      ∙ ap (λ x. unit_drafts x (source_of (kept_of c) u) k.big_endian (kept_in (kept_of c) u)) expressions-are

  kept-refused : clone_refusals registers k (source_of (kept_of c) u) es ≡ kept_refusals (rules_of c) (kept_of c) u
  unfolding kept_refusals
  kept-refused =
      ap (flat_map (entry_refusals (clone_rules registers k (source_of (kept_of c) u)) (source_of (kept_of c) u))) entries-are
      ∙ ap (λ rules. flat_map (entry_refusals rules (source_of (kept_of c) u)) (kept_in (kept_of c) u)) rules-are

  lines-refused : lines_refusal k.unit.now.sections h table ≡ unit_refusal c.sections u
  lines-refused = ap (λ s. lines_refusal s h table) same-sections ∙ ap (lines_refusal c.sections h) table-is

  refusals-are : option_map in_reading (lines_refusal k.unit.now.sections h table) ≡ None → refusals_of c u ≡ clone_refusals registers k (source_of (kept_of c) u) es
  refusals-are none =
      ap (λ o. option_to_list o ++ kept_refusals (rules_of c) (kept_of c) u) (sym lines-refused ∙ unmapped in_reading (lines_refusal k.unit.now.sections h table) none)
      ∙ sym kept-refused

  pub clone-refused : (e : CloneError) → option_map in_reading (lines_refusal k.unit.now.sections h table) ≡ None → TellsFirst (clone_refusals registers k (source_of (kept_of c) u) es) (refusal_told e) → RefusesReading (first_of (refusals_of c u)) (of_cloning e)
  clone-refused e none tells = subst (λ rs. RefusesReading (first_of rs) (of_cloning e)) (sym (refusals-are none)) (clone-told (clone_refusals registers k (source_of (kept_of c) u) es) e tells)

  -- ---- the unit

  module _ (old new : List (List ℕ)) (begun made : GivenUnit) (versioned : begun.version ≡ encoding.version) (sized : begun.address_size ≡ encoding.address_size) (carries : CarriesNamed k.transform.now k.unit.now.sections h encoding table k.files begun.lines)
      (refers : ReferToSynthetic first c.told.memory k.vmctx_ptr k.wasm_ptr) (cloned : IsCloned registers k number (source_of (kept_of c) u) es old new begun made) where
    known : KnownTable c u begun.lines
    known = table-known begun.lines carries

    root-tree : (x : Entry) (others : List Entry) → IsTree (depths_of (x ∷ others)) → x.depth ≡ 0
    root-tree x others tree = tree.0

    source-table : (source_of (kept_of c) u).table ≡ known.t
    unfolding source_of kept_module
    source-table = ap readable_table known.is_read

    abbrev source : UnitSource
    source = source_of (kept_of c) u

    abbrev goals : Goal → Option (ℕ × ℕ)
    goals = goal_number k number cloned.roles

    names : names_lines (in_file_order made.additions) ≡ is_some made.lines.address_size
    unfolding source_of
    names =
        let fit = clonable k compile table told c m first number kept of in
        let at : root u ≡ Some fit.root = first-root k compile table told c m first number kept of fit.root fit.others (sym (picked-are k compile table told c m first number kept of) ∙ fit.are) in
        tree-names new number (draft_depths (clone_drafts registers k source es)) made.additions cloned.order.counted
        ∙ ap tree_says cloned.says
        ∙ ap (λ xs. tree_says (settled_unit goals (clone_drafts registers k source xs))) fit.are
        ∙ ap (λ ds. tree_says (settled_unit goals ds)) (root-drafted (source_with registers k source) source k.big_endian (record { unit = h.offset; entry = fit.root }) (placed_in h.offset fit.others) fit.tag)
        ∙ root-says told k.transform.now k.unit.now.sections h (kept_of c).entries source k.big_endian goals (record { unit = h.offset; entry = fit.root }) (root-tree fit.root fit.others (subst (λ (xs : List Entry). IsTree (depths_of xs)) fit.are fit.tree))
        ∙ ap (λ t. is_some t && has_lines fit.root.attributes) source-table
        ∙ known.there fit.root at
        ∙ known.sized
        ∙ sym (ap (λ (g : GivenLines). is_some g.address_size) cloned.lines)

    pub made-of : CarriesUnit encoding k.big_endian c first k.places.now new number u made
    made-of = record {
      has_lines = record {
        table = known.t;
        table_read = known.is_read;
        names = subst (HasNamesOf known.t) (sym cloned.lines) known.names;
        images = subst (λ g. AllZip (IsImageOf c.functions) (filter (is_carried_segment c.functions) (segments_of known.t)) (given_segments g)) (sym cloned.lines) known.images;
        widest = subst (λ (g : GivenLines). widest_table_for 4 g.address_size g ≤ widest_table c.functions (table_of_unit c.sections u)) (sym cloned.lines) (subst (λ t. widest_table_for 4 begun.lines.address_size begun.lines ≤ widest_table c.functions t) (sym known.is_read) known.widest);
        widest_new = subst (λ (g : GivenLines). widest_table_for 5 g.address_size g ≤ widest_table_5 c.functions (table_of_unit c.sections u)) (sym cloned.lines) (subst (λ t. widest_table_for 5 begun.lines.address_size begun.lines ≤ widest_table_5 c.functions t) (sym known.is_read) known.widest_new);
      };
      depths = draft_depths (clone_drafts registers k source es);
      order = cloned.order;
      leads = cloned.leads;
      goals = goals;
      kept = λ offset. refl;
      synthetic = λ place. ap (λ (n : ℕ). Some (n, place)) (synthetic-unit k compile table told c m first number kept of refl refers);
      numbers = cloned.numbers;
      numbered = subst (λ (ds : List Draft). AreNumbered goals number ds cloned.numbers made) drafts-are cloned.numbered;
      says = cloned.says ∙ ap (settled_unit goals) drafts-are;
      texts = cloned.texts;
      writable = record {
        version = cloned.version ∙ versioned;
        size = cloned.size ∙ sized;
        ended = ap (λ (g : GivenLines). g.begun) cloned.lines ∙ known.ended;
        named = names;
      };
    }

    pub accepted : option_map in_reading (lines_refusal k.unit.now.sections h table) ≡ None → option_map in_reading (first_of (refusals_of c u)) ≡ None
    accepted none = ap (λ (rs : List Refusal). option_map in_reading (first_of rs)) (refusals-are none ∙ cloned.accepted)
