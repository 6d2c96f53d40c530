-- The unit for functions without debugging information, from its begin to where it is added.
use Rattle.std.proofs.Common.{◌≡◌, ℕ, suc, ◌+◌, ◌<◌, ◌≤◌, arith, refl, ap, sym, subst, ◌∙◌, List, [], ◌∷◌, ◌++◌, map, length, Bool, true, false, Option, Some, None, All}
use Rattle.std.specs.Prelude.{◌==◌, if◌then◌else◌, option_map, sum_by}
use Rattle.std.specs.List.{AllZip}
use Rattle.std.proofs.lemmas.List.{append-nil, length-map}
use Rattle.std.proofs.lemmas.List.Elements.{All-weaker}
use Rattle.std.proofs.lemmas.List.Sums.{sum_by-cons}
use Rattle.dwc_base.specs.declared.records.Encoding.{Encoding}
use Rattle.dwc_base.specs.declared.records.OutputFor.{OutputFor}
use Rattle.dwc_base.specs.declared.translation.ModuleTranslation.{ModuleTranslation}
use Rattle.dwc_rules.specs.Carried.{Module, unit_of_simulated}
use Rattle.dwc_rules.specs.DraftForests.{settled_unit}
use Rattle.dwc_native.specs.Functions.{Function, Recorded, recorded_sources}
use Rattle.dwc_carried.specs.SimulatedUnitRules.{simulated_unit_refusals, simulated_in_files, path_refusals, widest_simulated_lines}
use Rattle.dwc_carried.specs.WidestVersions.{widest_listed_5}
use Rattle.dwc_rules.specs.Refusals.{Refusal, bad_path}
use Rattle.dwc_base.specs.Listing.{first_of}
use Rattle.dwc_output.specs.SimulatedLines as Lines
use Rattle.dwc_carried.specs.SimulatedUnit.{base_types, output_of, simulated_refusals, simulated_root, simulated_unit}
use Rattle.dwc_dwarf.specs.Trees.{TreeValue}
use Rattle.dwc_carried.specs.UnitPaths.{is_file_name, next_id_behind, path_name, unit_path}
use Rattle.dwc_output.specs.NewWidest.{widest_header_5}
use Rattle.dwc_output.specs.Widest.{widest_header, widest_image}
use Rattle.dwc_isa.specs.Registers.{Registers}
use Rattle.dwc_addr.specs.Compilations.{CompilationValue, IsCounted}
use Rattle.dwc_image.specs.SimulatedSequences.{CanSimulate, line_of_recorded, lines_of_recorded, simulated_program, simulated_sequence}
use Rattle.dwc_image.proofs.SimulatedLaws.{program-simulated}
use Rattle.dwc_unit.specs.declared.attributes.DebugInfoRef.{DebugInfoRef}
use Rattle.dwc_unit.specs.declared.lists.RangeList.{RangeList}
use Rattle.dwc_unit.specs.GivenLines.{GivenLines}
use Rattle.dwc_unit.specs.GivenUnits.{Addition, GivenUnit}
use Rattle.dwc_unit.specs.GivenSegments.{given_segments}
use Rattle.dwc_unit.specs.SpelledLines.{WrittenSequence}
use Rattle.dwc_unit.specs.TextTables.{IsText}
use Rattle.dwc_unit.specs.WidestGiven.{widest_table_for}
use Rattle.dwc_source.specs.KnownTexts.{IsNumbered}
use Rattle.dwc_source.specs.MadeValues.{Grows}
use Rattle.dwc_extents.specs.NativeExtents.{AreRanges}
use Rattle.dwc_carry.specs.declared.error.DebugError.{DebugError}
use Rattle.dwc_carry.specs.declared.simulated_entries.TypeTexts.{TypeTexts}
use Rattle.dwc_carry.specs.declared.simulated_root.RootTexts.{RootTexts}
use Rattle.dwc_carry.specs.Inputs.{counted_behind, modules_from, modules_of, names_of, told_from}
use Rattle.dwc_carry.specs.SimulatedUnits.{AddsSimulatedUnit, IsSimulatedUnit, IsPathOf, IsTyped, referred}
use Rattle.dwc_carry.specs.SimulatedCode.{CanWrite, intervals_of}
use Rattle.dwc_carry.specs.MadeEntries.{with_additions}
use Rattle.dwc_carry.specs.MadeUnits.{HasNames, HasSimulatedLines, IsMadeOf}
use Rattle.dwc_carry.specs.SyntheticUnits.{reference_meant}
use Rattle.dwc_carry.specs.Refusals.{RefusesReading, in_reading}
use Rattle.dwc_carry.specs.SimulatedAdditions.{root_given, root_names, root_texts_of, simulated_root_addition, type_additions, type_names, type_texts_of}
use Rattle.dwc_carry.specs.SimulatedDrafts.{BeginsWith, HasModules, IsSimulated}
use Rattle.dwc_carry.proofs.SimulatedCodeLaws.{all-intervals}
use Rattle.dwc_carry.proofs.MadeLaws.{grows-same, grows-twice}
use Rattle.dwc_carry.proofs.PathLaws.{HasFirst, has-first}
use Rattle.dwc_carry.proofs.SimulatedLaws.{types-simulated}
use Rattle.dwc_carry.proofs.SimulatedMade.{begins-all, begins-root, whole-made, writable}
use Rattle.dwc_carry.proofs.SimulatedRoots.{root-simulated}
use Rattle.dwc_carry.proofs.SimulatedSteps.{modules-begun}

-- ---- the root and the types

pub unit-typed : (output : OutputFor) (encoding : Encoding) (path : List ℕ) (fs : List (ℕ × Function)) (middle after : List (List ℕ)) (t : RootTexts) (types : TypeTexts) (list : RangeList) (u v : GivenUnit) → Grows middle after
    → AllZip (IsNumbered middle) (root_names path) (root_texts_of t) → AllZip (IsNumbered after) type_names (type_texts_of types) → AreRanges list.ranges.items (intervals_of fs)
    → u ≡ root_given output encoding.version encoding.address_size (simulated_program encoding.address_size (path_name path) fs) t list → v ≡ with_additions (type_additions types) u → IsTyped output encoding path fs after v
unit-typed output encoding path fs middle after t types list u v grows named typed ranges root is =
    let program : GivenLines = simulated_program encoding.address_size (path_name path) fs in
    let given : GivenUnit = root_given output encoding.version encoding.address_size program t list in
    let whole : v ≡ with_additions (type_additions types) given = is ∙ ap (with_additions (type_additions types)) root in
    let says : (number : ℕ) → IsSimulated number after (simulated_root output path (intervals_of fs) ∷ base_types) (with_additions (type_additions types) given) =
    λ number. types-simulated number middle after (simulated_root output path (intervals_of fs)) given types grows (root-simulated middle path t named number output encoding program list (intervals_of fs) ranges.say) typed in
    subst (IsTyped output encoding path fs after) (sym whole) (record {
      names = t;
      list = list;
      begins = begins-all encoding program (simulated_root_addition output t list) (type_additions types) given (begins-root output encoding program t list);
      dense = (says 0).dense;
      some = omega arith;
      simulated = says;
    })

-- ---- lines

lines-count : (code_offset : ℕ) (es : List Recorded) → length (lines_of_recorded code_offset es) ≡ length es
lines-count code_offset [] = refl
lines-count code_offset (e ∷ es) = ap suc (length-map es (line_of_recorded code_offset false))

-- the images of simulated functions are as long as they can be
abbrev widest_of : ℕ × Function → ℕ
widest_of f = widest_image (suc (length (recorded_sources f.1)))

abbrev widest_in : WrittenSequence → ℕ
widest_in q = widest_image (length q.rows)

widest-same : (fs : List (ℕ × Function)) → sum_by widest_in (map (λ f. simulated_sequence f.0 f.1) fs) ≡ sum_by widest_of fs
widest-same [] = refl
widest-same (f ∷ fs) =
    sum_by-cons widest_in (simulated_sequence f.0 f.1) (map (λ (g : ℕ × Function). simulated_sequence g.0 g.1) fs)
    ∙ ap (λ n. widest_image (suc n) + sum_by widest_in (map (λ (g : ℕ × Function). simulated_sequence g.0 g.1) fs)) (lines-count f.0 (recorded_sources f.1))
    ∙ ap (λ n. widest_of f + n) (widest-same fs)
    ∙ sym (sum_by-cons widest_of f fs)

-- They are so behind any header.
images-within : (header : ℕ) (fs : List (ℕ × Function)) → header + sum_by widest_in (map (λ f. simulated_sequence f.0 f.1) fs) ≤ header + sum_by widest_of fs
images-within header fs = subst (λ n. header + n ≤ header + sum_by widest_of fs) (sym (widest-same fs)) (same (header + sum_by widest_of fs))
  where
    same : (n : ℕ) → n ≤ n
    same n = omega arith

program-widest : (name : List ℕ) (size : ℕ) (fs : List (ℕ × Function)) → widest_table_for 4 (Some size) (simulated_program size name fs) ≤ widest_simulated_lines name fs
program-widest name size fs = images-within (widest_header [] (record { directory = 0; name = name } ∷ [])) fs

-- In version 5 the header alone is another.
program-widest-new : (name : List ℕ) (size : ℕ) (fs : List (ℕ × Function)) → widest_table_for 5 (Some size) (simulated_program size name fs) ≤ widest_listed_5 name fs
program-widest-new name size fs = images-within (widest_header_5 [] (record { directory = 0; name = name } ∷ [])) fs

simulated-lines : (name : List ℕ) (size : ℕ) (fs : List (ℕ × Function)) (u : GivenUnit) → All CanWrite fs → u.lines ≡ simulated_program size name fs → HasSimulatedLines name fs u
simulated-lines name size fs u fit is = record {
  names = subst (HasNames [] (record { directory = 0; name = name } ∷ [])) (sym is) (record { size = size; sized = refl; directories = refl; files = refl });
  segments = subst (λ (g : GivenLines). AllZip (λ f segment. Lines.IsSimulated name f.0 f.1 segment) fs (given_segments g)) (sym is) (program-simulated name size fs (All-weaker CanWrite (λ f. CanSimulate f.0 f.1) (λ f can. can.lists) fs fit));
  widest = subst (λ (g : GivenLines). widest_table_for 4 g.address_size g ≤ widest_simulated_lines name fs) (sym is) (program-widest name size fs);
  widest_new = subst (λ (g : GivenLines). widest_table_for 5 g.address_size g ≤ widest_listed_5 name fs) (sym is) (program-widest-new name size fs);
}

-- ---- the whole unit

-- Behind the root and the types all modules are left.
pub modules-left : (translated : ℕ → Bool) (encoding : Encoding) (path : List ℕ) (number : ℕ) (pointers : List TreeValue) (ms : List Module) (fs : List (ℕ × Function)) (texts : List (List ℕ)) (u : GivenUnit) → fs ≡ simulated_in_files translated ms → IsTyped (output_of ms) encoding path fs texts u
    → HasModules translated number pointers texts (simulated_unit translated path number pointers ms) ms u
modules-left translated encoding path number pointers ms fs texts u is typed =
    modules-begun translated number pointers texts path ms u
    (subst (λ whole. IsSimulated number texts (simulated_root (output_of ms) path whole ∷ base_types) u) (ap intervals_of is ∙ all-intervals translated ms) (typed.simulated number))

-- The unit is what it is to be, once their entries are added.
pub simulated_unit-made : (translated : ℕ → Bool) (encoding : Encoding) (path : List ℕ) (ms : List Module) (refs : List DebugInfoRef) (fs : List (ℕ × Function)) (before middle after : List (List ℕ)) (u v : GivenUnit) → fs ≡ simulated_in_files translated ms → All CanWrite fs → Grows before middle → Grows middle after
    → IsTyped (output_of ms) encoding path fs middle u → ((encoding : Encoding) (lines : GivenLines) (root : Addition) → BeginsWith encoding lines root u → BeginsWith encoding lines root v) → ((number : ℕ) → IsSimulated number after (simulated_unit translated path number (map reference_meant refs) ms) v) → IsSimulatedUnit translated encoding path ms refs before after v
simulated_unit-made translated encoding path ms refs fs before middle after u v is fit first second typed begins says =
    let program : GivenLines = simulated_program encoding.address_size (path_name path) fs in
    let begun = begins encoding program (simulated_root_addition (output_of ms) typed.names typed.list) typed.begins in
    record {
      grows = grows-twice before middle after first second;
      lines = subst (λ gs. HasSimulatedLines (path_name path) gs v) is (simulated-lines (path_name path) encoding.address_size fs v fit begun.lines_are);
      simulated = says;
      writable = writable (output_of ms) encoding program typed.names typed.list v refl refl begun;
    }

-- ---- where it is added

-- There is a translation where their list is not empty.
pub not-none : {A : Type 0} (xs : List A) → (length xs == 0) ≡ false → 0 < length xs
not-none [] h = absurd (cc)
not-none (x ∷ xs) h = omega arith

-- The counter plays no part in the modules.
pub same-modules : (registers : Registers) (c d : CompilationValue) → d ≡ counted_behind registers c → modules_of registers d ≡ modules_of registers c
same-modules registers c d is = ap (λ (x : CompilationValue). modules_of registers x) is

abbrev path_refusal : Bool → List Refusal
path_refusal true = []
path_refusal false = bad_path ∷ []

abbrev refused_among : Option (List ℕ) → List Refusal
refused_among o = elim o [ Some path ↦ bad_path ∷ [] | None ↦ [] ]

-- what is refused of a path
path-refusals : (next_id : ℕ) (m : Module) (ms : List Module) (b : Bool) → is_file_name (path_name (unit_path next_id m)) ≡ b → path_refusals next_id (m ∷ ms) ≡ path_refusal b
path-refusals next_id m ms b is = ap (λ (c : Bool). refused_among (if c then None else Some (unit_path next_id m))) is ∙ told b
  where
    told : (b : Bool) → refused_among (if b then None else Some (unit_path next_id m)) ≡ path_refusal b
    told true = refl
    told false = refl

module _ (translated : ℕ → Bool) (next_id : ℕ) (m : Module) (ms : List Module) (path : List ℕ) (of : path ≡ unit_path next_id m) where
  named-so : (b : Bool) → is_file_name (path_name path) ≡ b → is_file_name (path_name (unit_path next_id m)) ≡ b
  named-so b is = ap (λ p. is_file_name (path_name p)) (sym of) ∙ is

  refusals-of : is_file_name (path_name path) ≡ true → simulated_unit_refusals translated next_id (m ∷ ms) ≡ simulated_refusals translated (m ∷ ms)
  refusals-of named = ap (λ rs. rs ++ simulated_refusals translated (m ∷ ms)) (path-refusals next_id m ms true (named-so true named))

  refused-of : is_file_name (path_name path) ≡ false → first_of (simulated_unit_refusals translated next_id (m ∷ ms)) ≡ Some bad_path
  refused-of unnamed = ap (λ rs. first_of (rs ++ simulated_refusals translated (m ∷ ms))) (path-refusals next_id m ms false (named-so false unnamed))

  added-of : (encoding : Encoding) (refs : List DebugInfoRef) (old new : List GivenUnit) (before after : List (List ℕ)) (u : GivenUnit) → new ≡ old ++ u ∷ [] → IsSimulatedUnit translated encoding path (m ∷ ms) refs before after u → AddsSimulatedUnit translated encoding next_id (m ∷ ms) refs old new before after
  added-of encoding refs old new before after u added last = record {
    made = u ∷ [];
    added = added;
    grows = last.grows;
    each = λ at leads. (
      subst (λ p. IsMadeOf at encoding after (length old) (unit_of_simulated (path_name p) translated (m ∷ ms)) (settled_unit (λ goal. None) (simulated_unit translated p (length old) (referred at refs) (m ∷ ms))) u) of
          (whole-made translated at encoding after (unit_of_simulated (path_name path) translated (m ∷ ms)) path (length old) (map reference_meant refs) (m ∷ ms) u last.lines (last.simulated (length old)) leads last.writable),
      tt,
    );
  }

module _ (translated : ℕ → Bool) (registers : Registers) (c : CompilationValue) (path : List ℕ) (of : IsPathOf c path) (counted : IsCounted c.translations c.functions c.memory_offsets) (some : 0 < length c.translations) where
  abbrev modules : List Module
  modules = modules_of registers c

  first : HasFirst modules
  first = has-first registers c counted some

  of-first : path ≡ unit_path c.next_id first.m
  of-first = (of registers first.m first.ms first.is).0

  -- It has no zero byte.
  pub path-text : IsText path
  path-text = (of registers first.m first.ms first.is).1

  same-refusals : is_file_name (path_name path) ≡ true → simulated_unit_refusals translated c.next_id modules ≡ simulated_refusals translated modules
  same-refusals named = subst (λ xs. simulated_unit_refusals translated c.next_id xs ≡ simulated_refusals translated xs) (sym first.is) (refusals-of translated c.next_id first.m first.ms path of-first named)

  -- A path whose name names no file is refused.
  pub path-refused : is_file_name (path_name path) ≡ false → option_map in_reading (first_of (simulated_unit_refusals translated c.next_id modules)) ≡ Some (in_reading bad_path)
  path-refused unnamed = ap (option_map in_reading) (subst (λ xs. first_of (simulated_unit_refusals translated c.next_id xs) ≡ Some bad_path) (sym first.is) (refused-of translated c.next_id first.m first.ms path of-first unnamed))

  -- and else the first variable that is
  pub unit-refused : (e : DebugError) → is_file_name (path_name path) ≡ true → RefusesReading (first_of (simulated_refusals translated modules)) e → RefusesReading (first_of (simulated_unit_refusals translated c.next_id modules)) e
  unit-refused e named met = subst (λ (rs : List Refusal). RefusesReading (first_of rs) e) (sym (same-refusals named)) met

  -- The unit is added.
  pub last-added : (encoding : Encoding) (refs : List DebugInfoRef) (old new : List GivenUnit) (before after : List (List ℕ)) (u : GivenUnit) → is_file_name (path_name path) ≡ true → new ≡ old ++ u ∷ []
      → (option_map in_reading (first_of (simulated_refusals translated modules)) ≡ None) × IsSimulatedUnit translated encoding path modules refs before after u
      → (option_map in_reading (first_of (simulated_unit_refusals translated c.next_id modules)) ≡ None) × AddsSimulatedUnit translated encoding c.next_id modules refs old new before after
  last-added encoding refs old new before after u named added (none, last) = (
    ap (λ (rs : List Refusal). option_map in_reading (first_of rs)) (same-refusals named) ∙ none,
    subst (λ xs. AddsSimulatedUnit translated encoding c.next_id xs refs old new before after) (sym first.is)
        (added-of translated c.next_id first.m first.ms path of-first encoding refs old new before after u added (subst (λ xs. IsSimulatedUnit translated encoding path xs refs before after u) first.is last)),
  )

-- ---- without modules

modules-none : (registers : Registers) (c : CompilationValue) → length c.translations ≡ 0 → modules_of registers c ≡ []
modules-none registers c none = go c.translations none
  where
    go : (ts : List ModuleTranslation) → length ts ≡ 0 → modules_from c.tunables.output_for c.tunables.dwarf_version 0 ts c.functions (told_from c.tunables.output_for registers (names_of c) 0 0 c.functions c.memory_offsets) ≡ []
    go [] none = refl
    go (t ∷ ts) none = absurd (omega (arith, none))

nothing-added : (translated : ℕ → Bool) (encoding : Encoding) (next_id : ℕ) (refs : List DebugInfoRef) (old : List GivenUnit) (before : List (List ℕ)) → (option_map in_reading (first_of (simulated_unit_refusals translated next_id [])) ≡ None) × AddsSimulatedUnit translated encoding next_id [] refs old old before before
unfolding simulated_refusals
nothing-added translated encoding next_id refs old before = (refl, record { made = []; added = sym (append-nil old); grows = grows-same before; each = λ at leads. tt })

-- Nothing is added.
pub none-added : (translated : ℕ → Bool) (registers : Registers) (c : CompilationValue) (encoding : Encoding) (refs : List DebugInfoRef) (old : List GivenUnit) (before : List (List ℕ)) → length c.translations ≡ 0
    → (option_map in_reading (first_of (simulated_unit_refusals translated c.next_id (modules_of registers c))) ≡ None) × AddsSimulatedUnit translated encoding c.next_id (modules_of registers c) refs old old before before
none-added translated registers c encoding refs old before none =
    subst (λ xs. (option_map in_reading (first_of (simulated_unit_refusals translated c.next_id xs)) ≡ None) × AddsSimulatedUnit translated encoding c.next_id xs refs old old before before) (sym (modules-none registers c none)) (nothing-added translated encoding c.next_id refs old before)

-- The counter stays as it is.
pub none-counted : (registers : Registers) (c : CompilationValue) → length c.translations ≡ 0 → c ≡ counted_behind registers c
none-counted registers c none = ap (λ (ms : List Module). record c { next_id = next_id_behind c.next_id ms }) (sym (modules-none registers c none))
