use Rattle.std.proofs.Common.{◌≡◌, ℕ, ap, sym, subst, ◌∙◌, List, ◌++◌, map}
use Rattle.std.specs.List.{All}
use Rattle.std.proofs.lemmas.List.Elements.{All-append}
use Rattle.dwc_output.specs.Fields.{IsRelocated}
use Rattle.dwc_output.specs.FramesCarried.{FramesCarried, others_in}
use Rattle.dwc_output.specs.FrameSections.{frame_section_if}
use Rattle.dwc_output.specs.OutputForm.{HasDistinctNames}
use Rattle.dwc_base.specs.Outputs.{OutputSection, output_sections, section_view}
use Rattle.dwc_frames.specs.Frames.{common_given, descriptions_given, optional_section}
use Rattle.dwc_unit.specs.GivenTrees.{given_trees}
use Rattle.dwc_unit.specs.GivenUnits.{ordered, size_of}
use Rattle.dwc_section.specs.RisingRelocations.{DoRelocationsRise}
use Rattle.dwc_section.specs.Writers.{IsSound}
use Rattle.dwc_write.proofs.FramesBehind.{back-same, distinct-with, form-same, frames-carried, of-5-same, others-with, read-same, relocated-with, texts-same, trees-same}
use Rattle.dwc_write.proofs.OutputForms.{IsOther, all-others}
use Rattle.dwc_write.proofs.sections.write_sections.Goals as goal

pub returns-clause-sound : goal.returns-clause-sound
returns-clause-sound c =
    let xs = map section_view c.in_ok-sections.sections.items in
    subst (All (IsSound c.args.order)) (sym c.in_ok-push_optional.ensures.section) (All-append (IsSound c.args.order) xs (optional_section c.in_ok-section.section) c.in_ok-sections.ensures.sound c.in_ok-section.ensures.sound)

pub returns-clause-spelled : goal.returns-clause-spelled
returns-clause-spelled c =
    let us = map ordered c.args.dwarf.units.units.items in
    let table = c.args.dwarf.strings in
    let xs = map section_view c.in_ok-sections.sections.items in
    let all = map section_view c.push_optional.new.list.items in
    let size = c.address_size_of-size.result in
    let common = common_given c.args.frames in
    let ds = descriptions_given c.args.frames in
    let whole : all ≡ xs ++ frame_section_if c.args.order size common ds = c.in_ok-push_optional.ensures.section ∙ ap (λ fs. xs ++ fs) c.in_ok-section.ensures.sections in
    let others : All IsOther xs = subst (All IsOther) (sym c.in_ok-sections.ensures.sections) (all-others c.args.order table us) in
    record { texts = table; given = us; made = c.in_ok-sections.ensures.made; is = ap others_in whole ∙ others-with c.args.order size common ds xs others ∙ c.in_ok-sections.ensures.sections }

pub returns-clause-rise : goal.returns-clause-rise
returns-clause-rise c =
    let xs = map section_view c.in_ok-sections.sections.items in
    subst (All DoRelocationsRise) (sym c.in_ok-push_optional.ensures.section) (All-append DoRelocationsRise xs (optional_section c.in_ok-section.section) c.in_ok-sections.ensures.rise c.in_ok-section.ensures.rise)

pub returns-clause-read : goal.returns-clause-read
returns-clause-read c =
    let us = map ordered c.args.dwarf.units.units.items in
    let xs = map section_view c.in_ok-sections.sections.items in
    let all = map section_view c.push_optional.new.list.items in
    let size = c.address_size_of-size.result in
    let common = common_given c.args.frames in
    let ds = descriptions_given c.args.frames in
    let whole : all ≡ xs ++ frame_section_if c.args.order size common ds = c.in_ok-push_optional.ensures.section ∙ ap (λ fs. xs ++ fs) c.in_ok-section.ensures.sections in
    let same : output_sections c.args.order all ≡ output_sections c.args.order xs = ap (output_sections c.args.order) whole ∙ read-same c.args.order c.args.order size common ds xs in
    back-same c.args.order us all xs same c.in_ok-sections.ensures.read

pub returns-clause-trees : goal.returns-clause-trees
returns-clause-trees c =
    let us = map ordered c.args.dwarf.units.units.items in
    let table = c.args.dwarf.strings in
    let xs = map section_view c.in_ok-sections.sections.items in
    let all = map section_view c.push_optional.new.list.items in
    let size = c.address_size_of-size.result in
    let common = common_given c.args.frames in
    let ds = descriptions_given c.args.frames in
    let whole : all ≡ xs ++ frame_section_if c.args.order size common ds = c.in_ok-push_optional.ensures.section ∙ ap (λ fs. xs ++ fs) c.in_ok-section.ensures.sections in
    let same : output_sections c.args.order all ≡ output_sections c.args.order xs = ap (output_sections c.args.order) whole ∙ read-same c.args.order c.args.order size common ds xs in
    trees-same c.args.order (given_trees table us) all xs same c.in_ok-sections.ensures.trees

pub returns-clause-texts_once : goal.returns-clause-texts_once
returns-clause-texts_once c =
    let xs = map section_view c.in_ok-sections.sections.items in
    let all = map section_view c.push_optional.new.list.items in
    let size = c.address_size_of-size.result in
    let common = common_given c.args.frames in
    let ds = descriptions_given c.args.frames in
    let whole : all ≡ xs ++ frame_section_if c.args.order size common ds = c.in_ok-push_optional.ensures.section ∙ ap (λ fs. xs ++ fs) c.in_ok-section.ensures.sections in
    let same : output_sections c.args.order all ≡ output_sections c.args.order xs = ap (output_sections c.args.order) whole ∙ read-same c.args.order c.args.order size common ds xs in
    texts-same c.args.order all xs same c.in_ok-sections.ensures.texts_once

pub returns-clause-form : goal.returns-clause-form
returns-clause-form c =
    let xs = map section_view c.in_ok-sections.sections.items in
    let all = map section_view c.push_optional.new.list.items in
    let size = c.address_size_of-size.result in
    let common = common_given c.args.frames in
    let ds = descriptions_given c.args.frames in
    let whole : all ≡ xs ++ frame_section_if c.args.order size common ds = c.in_ok-push_optional.ensures.section ∙ ap (λ fs. xs ++ fs) c.in_ok-section.ensures.sections in
    let same : output_sections c.args.order all ≡ output_sections c.args.order xs = ap (output_sections c.args.order) whole ∙ read-same c.args.order c.args.order size common ds xs in
    λ version wanted versions sized. form-same c.args.order version wanted all xs same (c.in_ok-sections.ensures.form version wanted versions sized)

pub returns-clause-of_5 : goal.returns-clause-of_5
returns-clause-of_5 c =
    let xs = map section_view c.in_ok-sections.sections.items in
    let all = map section_view c.push_optional.new.list.items in
    let size = c.address_size_of-size.result in
    let common = common_given c.args.frames in
    let ds = descriptions_given c.args.frames in
    let whole : all ≡ xs ++ frame_section_if c.args.order size common ds = c.in_ok-push_optional.ensures.section ∙ ap (λ fs. xs ++ fs) c.in_ok-section.ensures.sections in
    let same : output_sections c.args.order all ≡ output_sections c.args.order xs = ap (output_sections c.args.order) whole ∙ read-same c.args.order c.args.order size common ds xs in
    λ version versions. of-5-same c.args.order version all xs same (c.in_ok-sections.ensures.of_5 version versions)

pub returns-clause-names : goal.returns-clause-names
returns-clause-names c =
    let us = map ordered c.args.dwarf.units.units.items in
    let table = c.args.dwarf.strings in
    let xs = map section_view c.in_ok-sections.sections.items in
    let all = map section_view c.push_optional.new.list.items in
    let size = c.address_size_of-size.result in
    let common = common_given c.args.frames in
    let ds = descriptions_given c.args.frames in
    let whole : all ≡ xs ++ frame_section_if c.args.order size common ds = c.in_ok-push_optional.ensures.section ∙ ap (λ fs. xs ++ fs) c.in_ok-section.ensures.sections in
    let others : All IsOther xs = subst (All IsOther) (sym c.in_ok-sections.ensures.sections) (all-others c.args.order table us) in
    subst HasDistinctNames (sym whole) (distinct-with c.args.order size common ds xs others c.in_ok-sections.ensures.names)

pub returns-clause-relocated : goal.returns-clause-relocated
returns-clause-relocated c =
    let us = map ordered c.args.dwarf.units.units.items in
    let table = c.args.dwarf.strings in
    let xs = map section_view c.in_ok-sections.sections.items in
    let all = map section_view c.push_optional.new.list.items in
    let size = c.address_size_of-size.result in
    let common = common_given c.args.frames in
    let ds = descriptions_given c.args.frames in
    let whole : all ≡ xs ++ frame_section_if c.args.order size common ds = c.in_ok-push_optional.ensures.section ∙ ap (λ fs. xs ++ fs) c.in_ok-section.ensures.sections in
    let others : All IsOther xs = subst (All IsOther) (sym c.in_ok-sections.ensures.sections) (all-others c.args.order table us) in
    let P : List OutputSection → Type 0 = λ ss. All (IsRelocated (output_sections c.args.order ss)) (others_in ss) in
    subst P (sym whole) (relocated-with c.args.order c.args.order size common ds xs others c.in_ok-sections.ensures.relocated)

pub returns-clause-frames : goal.returns-clause-frames
returns-clause-frames c =
    let us = map ordered c.args.dwarf.units.units.items in
    let table = c.args.dwarf.strings in
    let xs = map section_view c.in_ok-sections.sections.items in
    let all = map section_view c.push_optional.new.list.items in
    let size = c.address_size_of-size.result in
    let common = common_given c.args.frames in
    let ds = descriptions_given c.args.frames in
    let whole : all ≡ xs ++ frame_section_if c.args.order size common ds = c.in_ok-push_optional.ensures.section ∙ ap (λ fs. xs ++ fs) c.in_ok-section.ensures.sections in
    let others : All IsOther xs = subst (All IsOther) (sym c.in_ok-sections.ensures.sections) (all-others c.args.order table us) in
    let sized : size ≡ size_of us = rw (c.as_slice.ensures.value) at c.address_size_of-size.ensures.size in
    let P : ℕ → Type 0 = λ n. FramesCarried c.args.order n common ds all in
    let Q : List OutputSection → Type 0 = λ ss. FramesCarried c.args.order size common ds ss in
    subst P sized (subst Q (sym whole) (frames-carried c.args.order size common ds xs others))
