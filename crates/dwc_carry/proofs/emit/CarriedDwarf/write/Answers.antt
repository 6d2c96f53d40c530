use Rattle.std.proofs.Common.{ap, ◌∙◌}
use Rattle.std.proofs.lemmas.Result.{err_from_is_err_and}
use Rattle.dwc_base.specs.declared.records.Endian.TheVariants.{Little}
use Rattle.dwc_output.specs.OutputForm.{are_of_output}
use Rattle.dwc_carry.proofs.FramesRefused.{table-is}
use Rattle.dwc_carry.proofs.OutputNameLaws.{written-of_output}
use Rattle.dwc_carry.proofs.EmitLaws.{emits-sections, emits-large}
use Rattle.dwc_carry.proofs.emit.CarriedDwarf.write.Goals as goal

pub returns-in_err-write_sections : goal.returns-in_err-write_sections
returns-in_err-write_sections c = λ order size registers entry v is.
    let p = err_from_is_err_and c.from_residual.result c.from_residual.ensures.1 in
    let self = c.args.self in
    let framed = table-is Little 8 registers entry v self.frames is.common is.frames in
    rw (p.1, p.2) (emits-large order size registers entry v self.dwarf.strings self.dwarf.units.units.items is.accepted is.units self.frames framed is.asked c.in_err-write_sections.field-0.0
    c.in_err-write_sections.ensures.refused c.in_err-write_sections.ensures.expressions c.in_err-write_sections.ensures.widest)

pub returns : goal.returns
returns c = λ order size registers entry v is.
    let self = c.args.self in
    let framed = table-is Little 8 registers entry v self.frames is.common is.frames in
    let written = c.in_ok-write_sections.ensures in
    emits-sections order size registers entry v self.dwarf.strings self.dwarf.units.units.items is.accepted is.units self.frames framed c.in_ok-write_sections.field-0
    (rw is.order_is at written.read) (rw is.order_is at written.trees) (rw is.order_is at written.texts_once)
    (rw is.order_is at written.form) written.refused written.expressions
    written.names (rw is.order_is at written.relocated) (rw is.order_is at written.frames) (rw is.order_is at written.sound) (rw is.order_is at written.spelled)
    (λ version same. ap (are_of_output version) written.sections ∙ written-of_output version self.order self.dwarf.strings self.dwarf.units.units.items self.frames same) (rw is.order_is at written.of_5)
    c.translations_keep_scopes.ensures.keep c.translations_keep_scopes.ensures.made
