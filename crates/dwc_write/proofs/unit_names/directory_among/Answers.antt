use Rattle.std.proofs.Common.{◌≡◌, ◌∙◌, ap, sym, get_or}
use Rattle.dwc_write.specs.UnitNames.{text_said_by}
use Rattle.dwc_write.proofs.UnitNameLaws.{own-found, own-none}
use Rattle.dwc_write.proofs.unit_names.directory_among.Goals as goal

pub returns-in-Some : goal.returns-in-Some
returns-in-Some c =
    c.text_of.ensures ∙ ap (λ a. text_said_by c.args.texts.now a.value) c.index-attributes-place.is
    ∙ sym (own-found c.args.texts.now c.args.attributes.now c.in-Some.place c.index-attributes-place.result (sym c.in-Some.ensures))

pub returns-in-None : goal.returns-in-None
returns-in-None c = sym (own-none c.args.texts.now c.args.attributes.now (sym c.in-None.ensures))
