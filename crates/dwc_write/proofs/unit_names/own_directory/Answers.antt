use Rattle.std.proofs.Common.{◌≡◌, ◌∙◌, ap}
use Rattle.dwc_unit.specs.GivenUnits.{GivenUnit, ordered}
use Rattle.dwc_unit.specs.LineNames.{own_directory}
use Rattle.dwc_write.specs.UnitNames.{own_among}
use Rattle.dwc_write.proofs.UnitNameLaws.{own-root}
use Rattle.dwc_write.proofs.unit_names.own_directory.Goals as goal

pub returns : goal.returns
returns c =
    let texts = c.args.texts.now in
    let u : GivenUnit = record { version = c.unit.inside.version; address_size = c.unit.inside.address_size; lines = c.unit.inside.lines.value; places = c.unit.inside.places.items; additions = c.unit.inside.additions } in
    c.directory_among.ensures ∙ ap (own_among texts) c.attributes.ensures ∙ own-root texts u c.unit.invariant.rooted ∙ ap (λ g. own_directory texts (ordered g)) c.unit.view_is
