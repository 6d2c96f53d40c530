use Rattle.std.proofs.Common.{◌≡◌}
use Rattle.std.proofs.lemmas.Result.{err_from_is_err_and}
use Rattle.dwc_base.specs.Listing.{item, at_end}
use Rattle.dwc_base.specs.Wasm.{next_wasm_section}
use Rattle.dwc_wasm.specs.FileParts.{section_view}
use Rattle.dwc_wasm.proofs.SectionWalk.{next_wasm_section-fewer, next_wasm_section-inside}
use Rattle.dwc_wasm.proofs.WalkedSections.{Walked-none, Walked-more, Walked-done, Walked-broken}
use Rattle.dwc_wasm.proofs.split.walk_sections.Goals as goal

pub loop-translation-init : goal.loop-translation-init
loop-translation-init c = Walked-none c.args.cursor c.empty_translation-translation.result c.none-functions.result c.empty_translation-translation.ensures c.none-functions.ensures

pub loop-translation-preserved : goal.loop-translation-preserved
loop-translation-preserved c =
    let met : next_wasm_section c.loop-translation.cursor ≡ item (section_view c.in-Some.section) c.next_section.new.cursor = rw c.in-Some.is at c.in_ok-section.ensures in
    Walked-more c.args.cursor c.loop-translation.cursor c.loop-translation.translation c.loop-translation.functions c.loop-translation.invariant c.next_section.new.cursor c.note_section.new.translation c.note.new.self _ met c.note_section.ensures c.note.ensures

pub loop-translation-smaller : goal.loop-translation-smaller
loop-translation-smaller c =
    let met : next_wasm_section c.loop-translation.cursor ≡ item (section_view c.in-Some.section) c.next_section.new.cursor = rw c.in-Some.is at c.in_ok-section.ensures in
    next_wasm_section-fewer c.loop-translation.cursor c.next_section.new.cursor _ met

pub returns-in_err-section-clause-walked : goal.returns-in_err-section-clause-walked
returns-in_err-section-clause-walked c =
    let p = err_from_is_err_and c.from_residual.result c.from_residual.ensures.1 in
    let w = c.loop-translation.invariant in
    rw (p.1, p.2) (w.done, Walked-broken c.args.cursor c.loop-translation.cursor c.loop-translation.translation c.loop-translation.functions w _ c.in_err-section.ensures)

pub returns-clause-walked : goal.returns-clause-walked
returns-clause-walked c =
    let met : next_wasm_section c.loop-translation.cursor ≡ at_end = rw c.in_default.is at c.in_ok-section.ensures in
    let w = c.loop-translation.invariant in
    (w.done, Walked-done c.args.cursor c.loop-translation.cursor c.loop-translation.translation c.loop-translation.functions w met, w.noted, w.held)

pub returns-clause-inside : goal.returns-clause-inside
returns-clause-inside c = c.loop-translation.invariant.inside

pub note_section-requires : goal.note_section-requires
note_section-requires c =
    let met : next_wasm_section c.loop-translation.cursor ≡ item (section_view c.in-Some.section) c.next_section.new.cursor = rw c.in-Some.is at c.in_ok-section.ensures in
    (next_wasm_section-inside c.loop-translation.cursor c.next_section.new.cursor _ met).small

pub returns-clause-split_inside : goal.returns-clause-split_inside
returns-clause-split_inside c = c.loop-translation.invariant.split_inside
