-- What is written of the units that are made for an input carries the lines of the input, and says its trees.
use Rattle.std.proofs.Common.{◌≡◌, ℕ, suc, ◌+◌, ◌<◌, ◌≤◌, List, [], ◌∷◌, ◌++◌, map, length, refl, ap, sym, ◌∙◌, subst, arith, Bool, Option, Some, None, Ok, Err, All}
use Rattle.std.specs.List.{AllZip, filter, flat_map}
use Rattle.std.specs.Prelude.{option_to_list, sum_by}
use Rattle.std.proofs.lemmas.List.Elements.{All-nil, All-cons}
use Rattle.std.proofs.lemmas.List.Sums.{sum_by-cons, sum_by-append}
use Rattle.dwc_base.specs.declared.records.Encoding.{Encoding}
use Rattle.dwc_base.specs.declared.section_name.SectionName.TheVariants.{Line}
use Rattle.dwc_base.specs.Sections.{Sections}
use Rattle.dwc_base.specs.Outputs.{OutputSection, output_sections}
use Rattle.dwc_base.specs.Reading.{◌>>=◌}
use Rattle.dwc_dwarf.specs.LineHeaders.{LineFile}
use Rattle.dwc_dwarf.specs.LineRows.{LineTable, segments}
use Rattle.dwc_native.specs.Images.{is_carried_segment, IsImageOf}
use Rattle.dwc_output.specs.SimulatedLines.{IsSimulated}
use Rattle.dwc_output.specs.Versions.{files_written}
use Rattle.dwc_rules.specs.Carried.{CarriedUnit, WantedUnit, synthetic_unit, carried_unit, unit_of_simulated, Module, Compilation}
use Rattle.dwc_dwarf.specs.ReadUnits.{Unit, units, table_of_unit, segments_of, segments_of_unit}
use Rattle.dwc_carried.specs.SimulatedUnitRules.{simulated_drafts, simulated_wanted, simulated_in_files, widest_simulated, widest_simulated_lines}
use Rattle.dwc_carried.specs.LinesCarried.{CarriesUnit, HasLines, LinesCarried}
use Rattle.dwc_carried.specs.SimulatedFunctions.{is_begun}
use Rattle.dwc_carried.specs.OutputCarried.{widest_lines_of}
use Rattle.dwc_rules.specs.DraftForests as Drafts
use Rattle.dwc_carried.specs.Forests.{carried_units, first_refusal, forest, module_units, wanted_units, trees_made, is_big}
use Rattle.dwc_rules.specs.ModuleDrafts.{module_drafts}
use Rattle.dwc_rules.specs.CarriedUnits.{carried_units_of, wanted_units_of}
use Rattle.dwc_rules.specs.Refusals.{Refusal}
use Rattle.dwc_dwarf.specs.Trees.{Tree}
use Rattle.dwc_unit.specs.GivenLines.{GivenLines}
use Rattle.dwc_unit.specs.GivenTrees.{given_trees}
use Rattle.dwc_unit.specs.GivenUnits.{GivenUnit, IsWritable, AreWritable, ordered, version_of}
use Rattle.dwc_write.specs.ReadBack.{ReadsTable, ReadsLines, IsReadUnit, ReadsBack}
use Rattle.dwc_unit.specs.GivenSegments.{given_segments}
use Rattle.dwc_unit.specs.UsedTexts.{HaveTexts}
use Rattle.dwc_unit.specs.WidestGiven.{widest_table_for, widest_unit, widest_given}
use Rattle.dwc_unit.proofs.AddedInOrderTrees.{trees-renumbered}
use Rattle.dwc_unit.specs.Renumbered.{place_at}
use Rattle.dwc_unit.proofs.AddedInOrderValues.{texts-in-order}
use Rattle.dwc_carry.specs.MadeUnits.{HasNamesOf, HasWantedLines, AreMadeOf}
use Rattle.dwc_carry.proofs.MadeLaws.{all-both, all-flat, made-in-order, texts_of_entry}

module _ (at : ℕ → ℕ → Option (ℕ × ℕ)) (encoding : Encoding) (texts : List (List ℕ)) where
  -- the files of a table that is read back
  files-back : (v : Unit) (g : GivenLines) (t : LineTable) (fs : List LineFile) → v.header.version ≡ encoding.version → t.files ≡ files_written v.header.version g.files → g.files ≡ fs → t.files ≡ files_written encoding.version fs
  files-back v g t fs same is files = is ∙ ap (λ version. files_written version g.files) same ∙ ap (files_written encoding.version) files

  -- a line table that is read back carries the table that it was made of
  carries-lines : (s : Sections) (c : CarriedUnit) (g : GivenLines) (v : Unit) (t : Option LineTable) → table_of_unit c.module_of.sections c.unit ≡ Ok t → HasNamesOf t g
      → AllZip (IsImageOf c.module_of.functions) (filter (is_carried_segment c.module_of.functions) (segments_of t)) (given_segments g) → v.header.version ≡ encoding.version → ReadsLines s v g g.address_size → CarriesUnit encoding.version s c v
  unfolding segments_of_unit
  carries-lines s c g v None is_read names images same read = record {
    input = None;
    input_read = is_read;
    made = None;
    made_read = subst (ReadsLines s v g) (ap (λ (x : GivenLines). x.address_size) names) read;
    kept = tt;
    carried = record { input = []; input_read = ap (λ x. x >>= λ t. Ok (segments_of t)) is_read; each = tt };
  }
  carries-lines s c g v (Some t) is_read names images same read =
      let fs = c.module_of.functions in
      let back : ReadsTable s v g = subst (ReadsLines s v g) names.sized read in
      record {
        input = Some t;
        input_read = is_read;
        made = Some back.table;
        made_read = back.table_read;
        kept = record { version_is = back.version ∙ same; directories = back.directories ∙ names.directories; files = files-back v g back.table t.files same back.files names.files };
        carried = record {
          input = segments t;
          input_read = ap (λ x. x >>= λ t. Ok (segments_of t)) is_read;
          each = subst (AllZip (IsImageOf fs) (filter (is_carried_segment fs) (segments t))) (sym back.sequences) images;
        };
      }

  -- a unit that is read back carries what it was made of
  carries-unit : (s : Sections) (w : WantedUnit) (u : GivenUnit) (v : Unit) → HasWantedLines w u → u.version ≡ encoding.version → IsReadUnit s (ordered u) v → HasLines encoding.version s w v
  carries-unit s synthetic_unit u v lines same read = subst (ReadsLines s v u.lines) (ap (λ (g : GivenLines). g.address_size) lines) read.lines
  carries-unit s (carried_unit c) u v lines same read = carries-lines s c u.lines v lines.table lines.table_read lines.names lines.images (read.version ∙ same) read.lines
  carries-unit s (unit_of_simulated name translated ms) u v lines same read =
      let back : ReadsTable s v u.lines = subst (ReadsLines s v u.lines) lines.names.sized read.lines in
      record {
        made = back.table;
        made_read = back.table_read;
        version_is = back.version ∙ (read.version ∙ same);
        directories = back.directories ∙ lines.names.directories;
        files = files-back v u.lines back.table (record { directory = 0; name = name } ∷ []) (read.version ∙ same) back.files lines.names.files;
        each = subst (AllZip (λ f segment. IsSimulated name f.0 f.1 segment) (simulated_in_files translated ms)) (sym back.sequences) lines.segments;
      }

  carries-units : (s : Sections) (number : ℕ) (cs : List WantedUnit) (ts : List Tree) (us : List GivenUnit) (vs : List Unit) → AreMadeOf at encoding texts number cs ts us → AllZip (IsReadUnit s) (map ordered us) vs → AllZip (HasLines encoding.version s) cs vs
  carries-units s number [] [] [] [] made read = tt
  carries-units s number [] [] [] (v ∷ vs) made read = absurd read
  carries-units s number [] [] (u ∷ us) vs made read = absurd made
  carries-units s number [] (t ∷ ts) us vs made read = absurd made
  carries-units s number (c ∷ cs) [] us vs made read = absurd made
  carries-units s number (c ∷ cs) (t ∷ ts) [] vs made read = absurd made
  carries-units s number (c ∷ cs) (t ∷ ts) (u ∷ us) [] made read = absurd read
  carries-units s number (c ∷ cs) (t ∷ ts) (u ∷ us) (v ∷ vs) made read = (carries-unit s c u v made.0.has_lines made.0.writable.version read.0, carries-units s (suc number) cs ts us vs made.1 read.1)

  -- Sections from which such units are read back carry the lines.
  pub lines-carried : (c : Compilation) (ts : List Tree) (us : List GivenUnit) (s : List OutputSection)
      → ReadsBack c.order (map ordered us) s → AreMadeOf at encoding texts 0 (wanted_units c) ts us → All (λ m. (units m.sections).fault ≡ None) c.modules → c.version ≡ encoding.version → LinesCarried c s
  lines-carried c ts us s back made whole version_is = record {
    whole = whole;
    output = back.read;
    output_read = back.units_read;
    each =
        subst (λ version. AllZip (HasLines version (output_sections c.order s)) (wanted_units c) back.read) (sym version_is)
        (carries-units (output_sections c.order s) 0 (wanted_units c) ts us back.read made back.each);
  }

  -- all have addresses of one size
  pub made-sizes : (number : ℕ) (cs : List WantedUnit) (ts : List Tree) (us : List GivenUnit) → AreMadeOf at encoding texts number cs ts us → All (λ u. u.address_size ≡ encoding.address_size) us
  made-sizes number [] [] [] made = All-nil (λ (u : GivenUnit). u.address_size ≡ encoding.address_size)
  made-sizes number [] [] (u ∷ us) made = absurd made
  made-sizes number [] (t ∷ ts) us made = absurd made
  made-sizes number (c ∷ cs) [] us made = absurd made
  made-sizes number (c ∷ cs) (t ∷ ts) [] made = absurd made
  made-sizes number (c ∷ cs) (t ∷ ts) (u ∷ us) made = All-cons (λ (u : GivenUnit). u.address_size ≡ encoding.address_size) u us ((made.0).writable).size (made-sizes (suc number) cs ts us made.1)

  -- all are of one version
  pub made-versions : (number : ℕ) (cs : List WantedUnit) (ts : List Tree) (us : List GivenUnit) → AreMadeOf at encoding texts number cs ts us → All (λ u. u.version ≡ encoding.version) us
  made-versions number [] [] [] made = All-nil (λ (u : GivenUnit). u.version ≡ encoding.version)
  made-versions number [] [] (u ∷ us) made = absurd made
  made-versions number [] (t ∷ ts) us made = absurd made
  made-versions number (c ∷ cs) [] us made = absurd made
  made-versions number (c ∷ cs) (t ∷ ts) [] made = absurd made
  made-versions number (c ∷ cs) (t ∷ ts) (u ∷ us) made = All-cons (λ (u : GivenUnit). u.version ≡ encoding.version) u us made.0.writable.version (made-versions (suc number) cs ts us made.1)

  -- which they share, where there are some
  pub made-version : (number : ℕ) (cs : List WantedUnit) (ts : List Tree) (us : List GivenUnit) → AreMadeOf at encoding texts number cs ts us → 0 < length us → version_of (map ordered us) ≡ encoding.version
  made-version number [] [] [] made some = absurd (omega (arith, some))
  made-version number [] [] (u ∷ us) made some = absurd made
  made-version number [] (t ∷ ts) us made some = absurd made
  made-version number (c ∷ cs) [] us made some = absurd made
  made-version number (c ∷ cs) (t ∷ ts) [] made some = absurd made
  made-version number (c ∷ cs) (t ∷ ts) (u ∷ us) made some = made.0.writable.version

  each-writable : (number : ℕ) (cs : List WantedUnit) (ts : List Tree) (us : List GivenUnit) → AreMadeOf at encoding texts number cs ts us → All (IsWritable encoding.version encoding.address_size) (map ordered us)
  each-writable number [] [] [] made = All-nil (IsWritable encoding.version encoding.address_size)
  each-writable number [] [] (u ∷ us) made = absurd made
  each-writable number [] (t ∷ ts) us made = absurd made
  each-writable number (c ∷ cs) [] us made = absurd made
  each-writable number (c ∷ cs) (t ∷ ts) [] made = absurd made
  each-writable number (c ∷ cs) (t ∷ ts) (u ∷ us) made = All-cons (IsWritable encoding.version encoding.address_size) (ordered u) (map ordered us) made.0.writable (each-writable (suc number) cs ts us made.1)

  -- All of them can be written.
  pub made-writable : (number : ℕ) (cs : List WantedUnit) (ts : List Tree) (us : List GivenUnit) → AreMadeOf at encoding texts number cs ts us → AreWritable (map ordered us)
  made-writable number [] [] [] made = All-nil (IsWritable 4 8)
  made-writable number [] [] (u ∷ us) made = absurd made
  made-writable number [] (t ∷ ts) us made = absurd made
  made-writable number (c ∷ cs) [] us made = absurd made
  made-writable number (c ∷ cs) (t ∷ ts) [] made = absurd made
  made-writable number (c ∷ cs) (t ∷ ts) (u ∷ us) made =
      subst (λ version. All (IsWritable version u.address_size) (map ordered (u ∷ us))) (sym made.0.writable.version)
      (subst (λ n. All (IsWritable encoding.version n) (map ordered (u ∷ us))) (sym made.0.writable.size) (each-writable number (c ∷ cs) (t ∷ ts) (u ∷ us) made))

  -- ---- texts and trees

  named-texts : (number : ℕ) (cs : List WantedUnit) (ts : List Tree) (us : List GivenUnit) → AreMadeOf at encoding texts number cs ts us → All (λ n. n < length texts) (flat_map (λ u. flat_map texts_of_entry u.additions) us)
  named-texts number [] [] [] made = All-nil (λ (n : ℕ). n < length texts)
  named-texts number [] [] (u ∷ us) made = absurd made
  named-texts number [] (t ∷ ts) us made = absurd made
  named-texts number (c ∷ cs) [] us made = absurd made
  named-texts number (c ∷ cs) (t ∷ ts) [] made = absurd made
  named-texts number (c ∷ cs) (t ∷ ts) (u ∷ us) made =
      all-both (λ (n : ℕ). n < length texts) (flat_map texts_of_entry u.additions) (flat_map (λ v. flat_map texts_of_entry v.additions) us)
      (all-flat (λ (n : ℕ). n < length texts) texts_of_entry u.additions made.0.texts) (named-texts (suc number) cs ts us made.1)

  -- All texts that they name are in the table.
  pub made-texts : (number : ℕ) (cs : List WantedUnit) (ts : List Tree) (us : List GivenUnit) → AreMadeOf at encoding texts number cs ts us → HaveTexts texts (map ordered us)
  made-texts number cs ts us made =
      let said = made-in-order at encoding texts number cs ts us made in
      subst (All (λ n. n < length texts)) (sym (texts-in-order said.depths us said.orders)) (named-texts number cs ts us made)

-- They say the trees, where numbers are put to the places of their entries.
pub made-trees : (encoding : Encoding) (texts : List (List ℕ)) (cs : List WantedUnit) (ts : List Tree) (us : List GivenUnit) → AreMadeOf (place_at us) encoding texts 0 cs ts us → given_trees texts (map ordered us) ≡ ts
made-trees encoding texts cs ts us made =
    let said = made-in-order (place_at us) encoding texts 0 cs ts us made in
    trees-renumbered texts said.depths us said.orders said.leads ∙ said.says

-- The trees of an input are those of its modules, and the last.
pub trees-of-all : (c : Compilation) → trees_made c ≡ Drafts.trees_from 0 (map (module_drafts (is_big c.order)) c.modules) ++ map (Drafts.settled_unit (λ goal. None)) (option_to_list (simulated_drafts (is_begun c.modules) c.next_id c.modules))
unfolding Drafts.forest
trees-of-all c = refl

-- the forest of an input of which nothing is refused
pub forest-is : (c : Compilation) → first_refusal c ≡ None → forest c ≡ Ok (trees_made c)
forest-is c none = ap (λ (o : Option Refusal). elim o [ Some refusal ↦ Err refusal | None ↦ Ok (trees_made c) ]) none
