use Rattle.std.proofs.Common.{◌≡◌, ◌<◌, Global, Vec, ℕ, refl, ap, sym, subst, ◌∙◌, List, [], length, map}
use Rattle.std.specs.List.{All, AllZip}
use Rattle.std.proofs.lemmas.List.Elements.{All-map}
use Rattle.std.proofs.lemmas.Result.{IfErr-at_err, IfErr-weaker, IfOk-at_ok, err_from_is_err_and}
use Rattle.dwc_output.specs.Fields.{AreRelocated}
use Rattle.dwc_output.specs.OutputForm.{HasDistinctNames}
use Rattle.dwc_output.specs.OwnDirectories.{AreOfVersion5}
use Rattle.dwc_dwarf.specs.ReadUnits.{units}
use Rattle.dwc_base.specs.Outputs.{OutputSection, output_sections, section_view}
use Rattle.dwc_dwarf.specs.TreeLaws.{HasTextsOnce, texts_ended}
use Rattle.dwc_output.specs.Versions.{are_short_in}
use Rattle.dwc_output.specs.TreeReading.{CarriesTrees}
use Rattle.dwc_section.specs.declared.error.WriteError.TheVariants.{OutOfMemory}
use Rattle.dwc_unit.specs.GivenTrees.{given_trees}
use Rattle.dwc_write.specs.ReadBack.{ReadsBack}
use Rattle.dwc_write.specs.SpelledOutput.{AreWellMade, WrittenSections, sections_of}
use Rattle.dwc_section.specs.RisingRelocations.{DoRelocationsRise}
use Rattle.dwc_unit.specs.GivenUnits.{OrderedUnit, ordered, size_of, version_of}
use Rattle.dwc_unit.specs.LineNames.{line_texts}
use Rattle.dwc_base.specs.declared.section_name.SectionName.TheVariants.{LineStr, Str}
use Rattle.dwc_section.specs.Writers.{IsSound, Writing, most_bytes}
use Rattle.dwc_section.specs.declared.error.WriteError.{WriteError}
use Rattle.dwc_write.specs.declared.layout.UnitLayout.{UnitLayout}
use Rattle.dwc_base.specs.declared.records.Endian.{Endian}
use Rattle.dwc_write.specs.Layouts.{places_of_units}
use Rattle.dwc_write.specs.LayoutViews.{IsLaidOut, places_view, whole_view}
use Rattle.dwc_write.specs.SpelledOutput.{IsRefusal, all_places, all_units, section_bytes}
use Rattle.dwc_unit.specs.TextTables.{AreTexts}
use Rattle.dwc_write.specs.TextViews.{IsTextLayout}
use Rattle.dwc_unit.specs.UsedTexts.{texts_bytes, texts_named, texts_used, with_numbers}
use Rattle.dwc_unit.specs.WidestGiven.{IsWideRefusal}
use Rattle.dwc_write.proofs.ReadTexts.{all-placed, laid-short, text-places-are}
use Rattle.dwc_write.proofs.SaidTexts.{texts-widely}
use Rattle.dwc_write.proofs.TextsOnce.{texts-once}
use Rattle.dwc_write.proofs.WideLaws.{err-exit, names-widely}
use Rattle.dwc_section.proofs.RefusalLaws.{memory-refusal, none-for-expressions, past-among, size-refusal}
use Rattle.dwc_write.proofs.OutputLaws.{all-appended, refusal-of-all, if-ok-both, if-ok-weaker, output-sections, sections-rise}
use Rattle.dwc_write.proofs.OutputForms.{distinct-names}
use Rattle.dwc_write.proofs.OwnDirectoryLaws.{of-version-5}
use Rattle.dwc_write.proofs.ReadBackLaws.{reads-back}
use Rattle.dwc_write.proofs.ReadTrees.{carries-trees, target-form}
use Rattle.dwc_write.proofs.RelatedLaws.{are-relocated}
use Rattle.dwc_write.proofs.NotedLaws.{named-noted}
use Rattle.dwc_write.proofs.ShortLaws.{short-writable, tested}
use Rattle.dwc_write.proofs.sections.write_unit_sections.Goals as goal

pub returns-then-not-are_short_lists-clause-expressions : goal.returns-then-not-are_short_lists-clause-expressions
returns-then-not-are_short_lists-clause-expressions c =
    let us = map ordered c.args.dwarf.units.units.items in
    let table = c.args.dwarf.strings in
    let none = sym (tested table c.shared_version-version.result c.as_slice-units.result.now c.args.dwarf.units.units.items c.are_short_lists.result (rw (c.as_slice-units.ensures.value) at c.shared_version-version.ensures) c.as_slice-units.ensures.value c.are_short_lists.ensures) ∙ c.if-not-are_short_lists.true in
    (λ is. none, λ long. refl)

pub returns-then-not-are_short_lists-clause-large : goal.returns-then-not-are_short_lists-clause-large
returns-then-not-are_short_lists-clause-large c =
    let us = map ordered c.args.dwarf.units.units.items in
    let table = c.args.dwarf.strings in
    let none = sym (tested table c.shared_version-version.result c.as_slice-units.result.now c.args.dwarf.units.units.items c.are_short_lists.result (rw (c.as_slice-units.ensures.value) at c.shared_version-version.ensures) c.as_slice-units.ensures.value c.are_short_lists.ensures) ∙ c.if-not-are_short_lists.true in
    (refl, none)

pub returns-then-not-are_short_lists-clause-widest : goal.returns-then-not-are_short_lists-clause-widest
returns-then-not-are_short_lists-clause-widest c =
    let us = map ordered c.args.dwarf.units.units.items in
    let table = c.args.dwarf.strings in
    let none = sym (tested table c.shared_version-version.result c.as_slice-units.result.now c.args.dwarf.units.units.items c.are_short_lists.result (rw (c.as_slice-units.ensures.value) at c.shared_version-version.ensures) c.as_slice-units.ensures.value c.are_short_lists.ensures) ∙ c.if-not-are_short_lists.true in
    (refl, none)

pub returns-in_err-layouts-clause-large : goal.returns-in_err-layouts-clause-large
returns-in_err-layouts-clause-large c =
    let us = map ordered c.args.dwarf.units.units.items in
    let table = c.args.dwarf.strings in
    let p = err_from_is_err_and c.from_residual.result c.from_residual.ensures.1 in
    let Q : WriteError → Type 0 = λ e. (order : Endian) (texts : List (List ℕ)) → IsRefusal order texts (map ordered c.as_slice-units.result.now) e in
    let refused = IfErr-at_err Q c.in_err-layouts.was c.lay_out-laid.ensures.large in
    err-exit (λ e. IsRefusal c.args.order table us e) _ _ p ((rw (c.as_slice-units.ensures.value) at refused) c.args.order table)

pub returns-in_err-layouts-clause-expressions : goal.returns-in_err-layouts-clause-expressions
returns-in_err-layouts-clause-expressions c =
    let us = map ordered c.args.dwarf.units.units.items in
    let table = c.args.dwarf.strings in
    let all = sym (tested table c.shared_version-version.result c.as_slice-units.result.now c.args.dwarf.units.units.items c.are_short_lists.result (rw (c.as_slice-units.ensures.value) at c.shared_version-version.ensures) c.as_slice-units.ensures.value c.are_short_lists.ensures) ∙ c.if-not-are_short_lists.false in
    none-for-expressions (are_short_in (version_of us) (given_trees table us)) (λ name. most_bytes < length (section_bytes c.args.order table us name)) _ all (returns-in_err-layouts-clause-large c)

pub returns-in_err-layouts-clause-widest : goal.returns-in_err-layouts-clause-widest
returns-in_err-layouts-clause-widest c =
    let us = map ordered c.args.dwarf.units.units.items in
    let table = c.args.dwarf.strings in
    let p = err_from_is_err_and c.from_residual.result c.from_residual.ensures.1 in
    let Q : WriteError → Type 0 = λ e. (texts : List (List ℕ)) → IsWideRefusal texts (map ordered c.as_slice-units.result.now) e in
    let refused = IfErr-at_err Q c.in_err-layouts.was c.lay_out-laid.ensures.widest in
    err-exit (λ e. IsWideRefusal table us e) _ _ p ((rw (c.as_slice-units.ensures.value) at refused) table)

pub returns-in_err-text_layout-clause-large : goal.returns-in_err-text_layout-clause-large
returns-in_err-text_layout-clause-large c =
    let us = map ordered c.args.dwarf.units.units.items in
    let table = c.args.dwarf.strings in
    let p = err_from_is_err_and c.from_residual-in_err-text_layout.result c.from_residual-in_err-text_layout.ensures.1 in
    let units = IfOk-at_ok (λ (ls : Vec UnitLayout Global). AllZip IsLaidOut c.as_slice-units.result.now ls.items) c.in_ok-layouts.was c.lay_out-laid.ensures.units in
    let named = named-noted _ _ (rw (c.as_slice-units.ensures.value) at units) in
    let large = past-among (λ m. length (section_bytes c.args.order table us m)) Str _ _ (λ large. large) (rw (c.deref.ensures.value, c.as_slice-texts.ensures, named) at c.in_err-text_layout.ensures.large) in
    err-exit (λ e. IsRefusal c.args.order table us e) _ _ p (size-refusal _ (λ m. most_bytes < length (section_bytes c.args.order table us m)) _ large)

pub returns-in_err-text_layout-clause-expressions : goal.returns-in_err-text_layout-clause-expressions
returns-in_err-text_layout-clause-expressions c =
    let us = map ordered c.args.dwarf.units.units.items in
    let table = c.args.dwarf.strings in
    let all = sym (tested table c.shared_version-version.result c.as_slice-units.result.now c.args.dwarf.units.units.items c.are_short_lists.result (rw (c.as_slice-units.ensures.value) at c.shared_version-version.ensures) c.as_slice-units.ensures.value c.are_short_lists.ensures) ∙ c.if-not-are_short_lists.false in
    none-for-expressions (are_short_in (version_of us) (given_trees table us)) (λ name. most_bytes < length (section_bytes c.args.order table us name)) _ all (returns-in_err-text_layout-clause-large c)

pub returns-in_err-text_layout-clause-widest : goal.returns-in_err-text_layout-clause-widest
returns-in_err-text_layout-clause-widest c =
    let us = map ordered c.args.dwarf.units.units.items in
    let table = c.args.dwarf.strings in
    let units = IfOk-at_ok (λ (ls : Vec UnitLayout Global). AllZip IsLaidOut c.as_slice-units.result.now ls.items) c.in_ok-layouts.was c.lay_out-laid.ensures.units in
    let named = named-noted _ _ (rw (c.as_slice-units.ensures.value) at units) in
    let texts : AreTexts table = c.know_texts.ensures in
    let p = err_from_is_err_and c.from_residual-in_err-text_layout.result c.from_residual-in_err-text_layout.ensures.1 in
    err-exit (λ e. IsWideRefusal table us e) _ _ p (texts-widely table us _ texts c.requires.texts (rw (c.deref.ensures.value, c.as_slice-texts.ensures, named) at c.in_err-text_layout.ensures.large))

pub lay_out_texts-requires : goal.lay_out_texts-requires
lay_out_texts-requires c =
    let units = IfOk-at_ok (λ (ls : Vec UnitLayout Global). AllZip IsLaidOut c.as_slice-units.result.now ls.items) c.in_ok-layouts.was c.lay_out-laid.ensures.units in
    let named = named-noted _ _ (rw (c.as_slice-units.ensures.value) at units) in
    let many = ap length c.as_slice-texts.ensures in
    rw (c.deref.ensures.value, named) (subst (λ k. All (λ n. n < k) (texts_named (map ordered c.args.dwarf.units.units.items))) (sym many) c.requires.texts)

pub returns-in_err-names-clause-large : goal.returns-in_err-names-clause-large
returns-in_err-names-clause-large c =
    let us = map ordered c.args.dwarf.units.units.items in
    let table = c.args.dwarf.strings in
    let p = err_from_is_err_and c.from_residual-in_err-names.result c.from_residual-in_err-names.ensures.1 in
    let large = past-among (λ m. length (section_bytes c.args.order table us m)) LineStr _ _ (λ large. large) (rw (c.as_slice-units.ensures.value, c.as_slice-texts.ensures) at c.in_err-names.ensures.large) in
    err-exit (λ e. IsRefusal c.args.order table us e) _ _ p (size-refusal _ (λ m. most_bytes < length (section_bytes c.args.order table us m)) _ large)

pub returns-in_err-names-clause-expressions : goal.returns-in_err-names-clause-expressions
returns-in_err-names-clause-expressions c =
    let us = map ordered c.args.dwarf.units.units.items in
    let table = c.args.dwarf.strings in
    let all = sym (tested table c.shared_version-version.result c.as_slice-units.result.now c.args.dwarf.units.units.items c.are_short_lists.result (rw (c.as_slice-units.ensures.value) at c.shared_version-version.ensures) c.as_slice-units.ensures.value c.are_short_lists.ensures) ∙ c.if-not-are_short_lists.false in
    none-for-expressions (are_short_in (version_of us) (given_trees table us)) (λ name. most_bytes < length (section_bytes c.args.order table us name)) _ all (returns-in_err-names-clause-large c)

pub returns-in_err-names-clause-widest : goal.returns-in_err-names-clause-widest
returns-in_err-names-clause-widest c =
    let us = map ordered c.args.dwarf.units.units.items in
    let table = c.args.dwarf.strings in
    let p = err_from_is_err_and c.from_residual-in_err-names.result c.from_residual-in_err-names.ensures.1 in
    err-exit (λ e. IsWideRefusal table us e) _ _ p (names-widely table us _ (rw (c.as_slice-units.ensures.value, c.as_slice-texts.ensures) at c.in_err-names.ensures.large))

pub returns-in_err-line_strings-clause-expressions : goal.returns-in_err-line_strings-clause-expressions
returns-in_err-line_strings-clause-expressions c =
    let us = map ordered c.args.dwarf.units.units.items in
    let table = c.args.dwarf.strings in
    let all = sym (tested table c.shared_version-version.result c.as_slice-units.result.now c.args.dwarf.units.units.items c.are_short_lists.result (rw (c.as_slice-units.ensures.value) at c.shared_version-version.ensures) c.as_slice-units.ensures.value c.are_short_lists.ensures) ∙ c.if-not-are_short_lists.false in
    let p = err_from_is_err_and c.from_residual-in_err-line_strings.result c.from_residual-in_err-line_strings.ensures.1 in
    none-for-expressions (are_short_in (version_of us) (given_trees table us)) (λ name. most_bytes < length (section_bytes c.args.order table us name)) _ all (err-exit (λ e. IsRefusal c.args.order table us e) _ _ p (memory-refusal _ (λ name. most_bytes < length (section_bytes c.args.order table us name)) _ c.in_err-line_strings.ensures.memory))

pub write_units-requires-clause-texts : goal.write_units-requires-clause-texts
write_units-requires-clause-texts c =
    λ id. rw (c.deref-3.ensures.value) (laid-short _ c.in_ok-text_layout.text_layout id c.in_ok-text_layout.ensures.laid)

pub returns-in_err-sections-clause-large : goal.returns-in_err-sections-clause-large
returns-in_err-sections-clause-large c =
    let us = map ordered c.args.dwarf.units.units.items in
    let table = c.args.dwarf.strings in
    let l = c.in_ok-text_layout.text_layout in
    let laid : IsTextLayout table l = rw (c.as_slice-texts.ensures) at c.in_ok-text_layout.ensures.laid in
    let units = IfOk-at_ok (λ (ls : Vec UnitLayout Global). AllZip IsLaidOut c.as_slice-units.result.now ls.items) c.in_ok-layouts.was c.lay_out-laid.ensures.units in
    let used : l.used.items ≡ texts_used us = (rw (c.deref.ensures.value) at c.in_ok-text_layout.ensures.used) ∙ ap (with_numbers []) (named-noted _ _ (rw (c.as_slice-units.ensures.value) at units)) in
    let P : Vec UnitLayout Global → Type 0 = λ ls. (order : Endian) → map places_view ls.items ≡ places_of_units order (size_of (map ordered c.as_slice-units.result.now)) 0 (map ordered c.as_slice-units.result.now) in
    let placed = rw (c.as_slice-units.ensures.value) at (IfOk-at_ok P c.in_ok-layouts.was c.lay_out-laid.ensures.places c.args.order) in
    let named : c.in_ok-names.names.texts ≡ line_texts table us = rw (c.as_slice-units.ensures.value, c.as_slice-texts.ensures) at c.in_ok-names.ensures.names in
    let are : whole_view c.deref-2.result.now c.deref-3.result.now c.as_slice-texts.result.now c.in_ok-names.names.texts ≡ all_places c.args.order table us = rw (c.deref-2.ensures.value, c.deref-3.ensures.value, c.as_slice-texts.ensures) (all-placed _ _ _ _ table _ _ placed (text-places-are table us l laid used) named) in
    let p = err_from_is_err_and c.from_residual-in_err-sections.result c.from_residual-in_err-sections.ensures.1 in
    err-exit (λ e. IsRefusal c.args.order table us e) _ _ p (refusal-of-all c.args.order (whole_view c.deref-2.result.now c.deref-3.result.now c.as_slice-texts.result.now c.in_ok-names.names.texts) table us _ are c.in_err-sections.ensures.large)

pub returns-in_err-sections-clause-expressions : goal.returns-in_err-sections-clause-expressions
returns-in_err-sections-clause-expressions c =
    let us = map ordered c.args.dwarf.units.units.items in
    let table = c.args.dwarf.strings in
    let all = sym (tested table c.shared_version-version.result c.as_slice-units.result.now c.args.dwarf.units.units.items c.are_short_lists.result (rw (c.as_slice-units.ensures.value) at c.shared_version-version.ensures) c.as_slice-units.ensures.value c.are_short_lists.ensures) ∙ c.if-not-are_short_lists.false in
    none-for-expressions (are_short_in (version_of us) (given_trees table us)) (λ name. most_bytes < length (section_bytes c.args.order table us name)) _ all (returns-in_err-sections-clause-large c)

pub returns-in_err-sections-clause-widest : goal.returns-in_err-sections-clause-widest
returns-in_err-sections-clause-widest c =
    let us = map ordered c.args.dwarf.units.units.items in
    let table = c.args.dwarf.strings in
    let p = err_from_is_err_and c.from_residual-in_err-sections.result c.from_residual-in_err-sections.ensures.1 in
    err-exit (λ e. IsWideRefusal table us e) _ _ p (rw (c.as_slice-texts.ensures) at c.in_err-sections.ensures.widest)

pub write_units-requires-clause-expressions : goal.write_units-requires-clause-expressions
write_units-requires-clause-expressions c =
    let us = map ordered c.args.dwarf.units.units.items in
    let table = c.args.dwarf.strings in
    let all = sym (tested table c.shared_version-version.result c.as_slice-units.result.now c.args.dwarf.units.units.items c.are_short_lists.result (rw (c.as_slice-units.ensures.value) at c.shared_version-version.ensures) c.as_slice-units.ensures.value c.are_short_lists.ensures) ∙ c.if-not-are_short_lists.false in
    short-writable table us c.requires.units all

pub returns-in_err-strings-clause-expressions : goal.returns-in_err-strings-clause-expressions
returns-in_err-strings-clause-expressions c =
    let us = map ordered c.args.dwarf.units.units.items in
    let table = c.args.dwarf.strings in
    let all = sym (tested table c.shared_version-version.result c.as_slice-units.result.now c.args.dwarf.units.units.items c.are_short_lists.result (rw (c.as_slice-units.ensures.value) at c.shared_version-version.ensures) c.as_slice-units.ensures.value c.are_short_lists.ensures) ∙ c.if-not-are_short_lists.false in
    let p = err_from_is_err_and c.from_residual-in_err-strings.result c.from_residual-in_err-strings.ensures.1 in
    none-for-expressions (are_short_in (version_of us) (given_trees table us)) (λ name. most_bytes < length (section_bytes c.args.order table us name)) _ all (err-exit (λ e. IsRefusal c.args.order table us e) _ _ p (memory-refusal _ (λ name. most_bytes < length (section_bytes c.args.order table us name)) _ c.in_err-strings.ensures.memory))

pub returns-clause-expressions : goal.returns-clause-expressions
returns-clause-expressions c =
    let us = map ordered c.args.dwarf.units.units.items in
    let table = c.args.dwarf.strings in
    let all = sym (tested table c.shared_version-version.result c.as_slice-units.result.now c.args.dwarf.units.units.items c.are_short_lists.result (rw (c.as_slice-units.ensures.value) at c.shared_version-version.ensures) c.as_slice-units.ensures.value c.are_short_lists.ensures) ∙ c.if-not-are_short_lists.false in
    none-for-expressions (are_short_in (version_of us) (given_trees table us)) (λ name. most_bytes < length (section_bytes c.args.order table us name)) _ all (IfErr-weaker c.gather.result (λ e. e ≡ OutOfMemory) (λ e. IsRefusal c.args.order table us e) (memory-refusal _ (λ name. most_bytes < length (section_bytes c.args.order table us name))) c.gather.ensures.memory)

pub returns-clause-sections : goal.returns-clause-sections
returns-clause-sections c =
    let us = map ordered c.args.dwarf.units.units.items in
    let table = c.args.dwarf.strings in
    let l = c.in_ok-text_layout.text_layout in
    let laid : IsTextLayout table l = rw (c.as_slice-texts.ensures) at c.in_ok-text_layout.ensures.laid in
    let units = IfOk-at_ok (λ (ls : Vec UnitLayout Global). AllZip IsLaidOut c.as_slice-units.result.now ls.items) c.in_ok-layouts.was c.lay_out-laid.ensures.units in
    let used : l.used.items ≡ texts_used us = (rw (c.deref.ensures.value) at c.in_ok-text_layout.ensures.used) ∙ ap (with_numbers []) (named-noted _ _ (rw (c.as_slice-units.ensures.value) at units)) in
    let P : Vec UnitLayout Global → Type 0 = λ ls. (order : Endian) → map places_view ls.items ≡ places_of_units order (size_of (map ordered c.as_slice-units.result.now)) 0 (map ordered c.as_slice-units.result.now) in
    let placed = rw (c.as_slice-units.ensures.value) at (IfOk-at_ok P c.in_ok-layouts.was c.lay_out-laid.ensures.places c.args.order) in
    let named : c.in_ok-names.names.texts ≡ line_texts table us = rw (c.as_slice-units.ensures.value, c.as_slice-texts.ensures) at c.in_ok-names.ensures.names in
    let are : whole_view c.deref-2.result.now c.deref-3.result.now c.as_slice-texts.result.now c.in_ok-names.names.texts ≡ all_places c.args.order table us = rw (c.deref-2.ensures.value, c.deref-3.ensures.value, c.as_slice-texts.ensures) (all-placed _ _ _ _ table _ _ placed (text-places-are table us l laid used) named) in
    let all = c.in_ok-sections.ensures.ok in
    let body : texts_bytes table l.used.items ≡ texts_bytes table (texts_used us) = ap (texts_bytes table) used in
    let strings = (rw (c.as_slice-texts.ensures) at c.in_ok-strings.ensures.ok) ∙ ap (λ (bytes : List ℕ). record { order = c.args.order; name = Str; body = bytes; relocations = [] }) body in
    if-ok-weaker c.gather.result _ _
    (λ s h. h ∙ ap (λ (w : WrittenSections). sections_of w c.in_ok-line_strings.line_strings c.in_ok-strings.strings) all
    ∙ ap (λ (n : Writing). sections_of (all_units c.args.order (whole_view c.deref-2.result.now c.deref-3.result.now c.as_slice-texts.result.now c.in_ok-names.names.texts) us) n c.in_ok-strings.strings) c.in_ok-line_strings.ensures.ok
    ∙ ap (λ (w : Writing). sections_of (all_units c.args.order (whole_view c.deref-2.result.now c.deref-3.result.now c.as_slice-texts.result.now c.in_ok-names.names.texts) us) (record { order = c.args.order; name = LineStr; body = texts_ended c.in_ok-names.names.texts; relocations = [] }) w) strings ∙ output-sections c.args.order _ table us are c.requires.units) c.gather.ensures.sections

pub returns-clause-made : goal.returns-clause-made
returns-clause-made c =
    let us = map ordered c.args.dwarf.units.units.items in
    let table = c.args.dwarf.strings in
    let all = sym (tested table c.shared_version-version.result c.as_slice-units.result.now c.args.dwarf.units.units.items c.are_short_lists.result (rw (c.as_slice-units.ensures.value) at c.shared_version-version.ensures) c.as_slice-units.ensures.value c.are_short_lists.ensures) ∙ c.if-not-are_short_lists.false in
    let made : AreWellMade table us = record {
      writable = c.requires.units;
      units = c.in_ok-sections.ensures.fits;
      lines = c.in_ok-sections.ensures.lines;
      expressions = short-writable table us c.requires.units all;
      named = c.requires.texts;
      table = c.know_texts.ensures;
    } in
    if-ok-weaker c.gather.result _ _ (λ s h. made) c.gather.ensures.sections

pub returns-clause-sound : goal.returns-clause-sound
returns-clause-sound c =
    let us = map ordered c.args.dwarf.units.units.items in
    let table = c.args.dwarf.strings in
    let all = c.in_ok-sections.ensures.ok ∙ all-appended c.args.order _ us c.requires.units in
    c.gather.ensures.sound c.args.order (ap (λ (w : WrittenSections). w.abbrev_section.order) all) (ap (λ (w : WrittenSections). w.info_section.order) all) (ap (λ (w : WrittenSections). w.line_section.order) all) (ap (λ (w : WrittenSections). w.ranges_section.order) all) (ap (λ (w : WrittenSections). w.locations_section.order) all) (ap (λ (w : Writing). w.order) c.in_ok-line_strings.ensures.ok) (ap (λ (w : Writing). w.order) c.in_ok-strings.ensures.ok)

pub returns-clause-rise : goal.returns-clause-rise
returns-clause-rise c =
    let us = map ordered c.args.dwarf.units.units.items in
    let table = c.args.dwarf.strings in
    let P : List OutputSection → Type 0 = λ ss. All DoRelocationsRise ss in
    if-ok-weaker c.gather.result _ _ (λ s is. subst P (sym is) (sections-rise c.args.order table us)) (returns-clause-sections c)

pub returns-clause-read : goal.returns-clause-read
returns-clause-read c =
    let us = map ordered c.args.dwarf.units.units.items in
    let table = c.args.dwarf.strings in
    let fits = c.in_ok-sections.ensures.fits in
    let lines = c.in_ok-sections.ensures.lines in
    let Q : List OutputSection → Type 0 = λ ss. All (IsSound c.args.order) ss in
    let P : List OutputSection → Type 0 = λ ss. ReadsBack c.args.order us ss in
    if-ok-both c.gather.result _ _ _ (λ s is sound. subst P (sym is) (reads-back c.args.order table us c.requires.units c.know_texts.ensures fits lines (subst Q is sound))) (returns-clause-sections c) (returns-clause-sound c)

pub returns-clause-trees : goal.returns-clause-trees
returns-clause-trees c =
    let us = map ordered c.args.dwarf.units.units.items in
    let table = c.args.dwarf.strings in
    let fits = c.in_ok-sections.ensures.fits in
    let lines = c.in_ok-sections.ensures.lines in
    let all = sym (tested table c.shared_version-version.result c.as_slice-units.result.now c.args.dwarf.units.units.items c.are_short_lists.result (rw (c.as_slice-units.ensures.value) at c.shared_version-version.ensures) c.as_slice-units.ensures.value c.are_short_lists.ensures) ∙ c.if-not-are_short_lists.false in
    let short = short-writable table us c.requires.units all in
    let Q : List OutputSection → Type 0 = λ ss. All (IsSound c.args.order) ss in
    let texts : AreTexts table = c.know_texts.ensures in
    let P : List OutputSection → Type 0 = λ ss. CarriesTrees c.args.order (given_trees table us) ss in
    if-ok-both c.gather.result _ _ _ (λ s is sound. subst P (sym is) (carries-trees c.args.order table us c.requires.units c.requires.texts short texts fits lines (subst Q is sound))) (returns-clause-sections c) (returns-clause-sound c)

pub returns-clause-texts_once : goal.returns-clause-texts_once
returns-clause-texts_once c =
    let us = map ordered c.args.dwarf.units.units.items in
    let table = c.args.dwarf.strings in
    let fits = c.in_ok-sections.ensures.fits in
    let lines = c.in_ok-sections.ensures.lines in
    let Q : List OutputSection → Type 0 = λ ss. All (IsSound c.args.order) ss in
    let texts : AreTexts table = c.know_texts.ensures in
    let P : List OutputSection → Type 0 = λ ss. HasTextsOnce (output_sections c.args.order ss) in
    if-ok-both c.gather.result _ _ _ (λ s is sound. subst P (sym is) (texts-once c.args.order table us c.requires.units c.requires.texts texts fits lines (subst Q is sound))) (returns-clause-sections c) (returns-clause-sound c)

pub returns-clause-form : goal.returns-clause-form
returns-clause-form c =
    let us = c.args.dwarf.units.units.items in
    if-ok-weaker c.gather.result _ _
    (λ s back version size versions sized. target-form c.args.order (map ordered us) (map section_view s.items) version size (All-map (λ (u : OrderedUnit). u.address_size ≡ size) ordered us sized) (All-map (λ (u : OrderedUnit). u.version ≡ version) ordered us versions) back)
    (returns-clause-read c)

pub returns-clause-of_5 : goal.returns-clause-of_5
returns-clause-of_5 c =
    let given = c.args.dwarf.units.units.items in
    let us = map ordered given in
    let table = c.args.dwarf.strings in
    let fits = c.in_ok-sections.ensures.fits in
    let lines = c.in_ok-sections.ensures.lines in
    let Q : List OutputSection → Type 0 = λ ss. All (IsSound c.args.order) ss in
    let texts : AreTexts table = c.know_texts.ensures in
    let P : ℕ → List OutputSection → Type 0 = λ version ss. AreOfVersion5 version (output_sections c.args.order ss) (units (output_sections c.args.order ss)).items in
    if-ok-both c.gather.result _ _ _
    (λ s is sound version versions. subst (P version) (sym is) (of-version-5 c.args.order table us version c.requires.units c.requires.texts texts fits lines (subst Q is sound) (All-map (λ (u : OrderedUnit). u.version ≡ version) ordered given versions)))
    (returns-clause-sections c) (returns-clause-sound c)

pub returns-clause-names : goal.returns-clause-names
returns-clause-names c =
    let us = map ordered c.args.dwarf.units.units.items in
    let table = c.args.dwarf.strings in
    if-ok-weaker c.gather.result _ _ (λ s is. subst HasDistinctNames (sym is) (distinct-names c.args.order table us)) (returns-clause-sections c)

pub returns-clause-relocated : goal.returns-clause-relocated
returns-clause-relocated c =
    let us = map ordered c.args.dwarf.units.units.items in
    let table = c.args.dwarf.strings in
    let fits = c.in_ok-sections.ensures.fits in
    let lines = c.in_ok-sections.ensures.lines in
    let all = sym (tested table c.shared_version-version.result c.as_slice-units.result.now c.args.dwarf.units.units.items c.are_short_lists.result (rw (c.as_slice-units.ensures.value) at c.shared_version-version.ensures) c.as_slice-units.ensures.value c.are_short_lists.ensures) ∙ c.if-not-are_short_lists.false in
    let short = short-writable table us c.requires.units all in
    let Q : List OutputSection → Type 0 = λ ss. All (IsSound c.args.order) ss in
    if-ok-both c.gather.result _ _ _ (λ s is sound. subst (AreRelocated c.args.order) (sym is) (are-relocated c.args.order table us c.requires.units c.know_texts.ensures short fits lines (subst Q is sound))) (returns-clause-sections c) (returns-clause-sound c)
