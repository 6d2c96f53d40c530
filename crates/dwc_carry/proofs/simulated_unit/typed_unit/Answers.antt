use Rattle.std.proofs.Common.{ap, refl, sym, subst, ◌∙◌, map}
use Rattle.std.proofs.lemmas.List.Elements.{All-weaker}
use Rattle.dwc_image.specs.SimulatedSequences.{CanSimulate, simulated_view}
use Rattle.dwc_unit.specs.GivenLines.{GivenLines}
use Rattle.dwc_unit.specs.SpelledLines.{FitsName}
use Rattle.dwc_carry.specs.SimulatedCode.{CanWrite}
use Rattle.dwc_carry.specs.SimulatedAdditions.{root_given}
use Rattle.dwc_carry.proofs.SimulatedUnitMade.{unit-typed}
use Rattle.dwc_carry.proofs.PathLaws.{name-fits}
use Rattle.dwc_carry.proofs.simulated_unit.typed_unit.Goals as goal

pub simulated_lines-requires-clause-name : goal.simulated_lines-requires-clause-name
simulated_lines-requires-clause-name c = subst FitsName (sym c.path_name.ensures) (name-fits c.args.path.now c.requires.path c.requires.name)

pub simulated_lines-requires-clause-functions : goal.simulated_lines-requires-clause-functions
simulated_lines-requires-clause-functions c = All-weaker CanWrite (λ f. CanSimulate f.0 f.1) (λ f can. can.lists) (map simulated_view c.args.functions.now) c.requires.functions

pub root_unit-requires-clause-lines : goal.root_unit-requires-clause-lines
root_unit-requires-clause-lines c = ap (λ (g : GivenLines). g.address_size) c.in_ok-lines.ensures.lines

pub root_unit-requires-clause-fits : goal.root_unit-requires-clause-fits
root_unit-requires-clause-fits c = λ size. (refl, c.in_ok-ranges.ensures.fit size)

pub returns-clause-typed : goal.returns-clause-typed
returns-clause-typed c =
    let encoding = c.args.encoding in
    let lines = c.in_ok-lines.ensures.lines ∙ ap (λ name. Rattle.dwc_image.specs.SimulatedSequences.simulated_program encoding.address_size name (map simulated_view c.args.functions.now)) c.path_name.ensures in
    unit-typed c.args.output_for encoding c.args.path.now (map simulated_view c.args.functions.now) c.root_texts.new.strings c.type_texts.new.strings c.in_ok-texts.texts c.in_ok-types.types c.in_ok-ranges.ranges c.in_ok-unit.unit c.add_types.new.unit c.type_texts.ensures.grows
    c.in_ok-texts.ensures.known c.in_ok-types.ensures.known c.in_ok-ranges.ensures (c.in_ok-unit.ensures ∙ ap (λ (g : GivenLines). root_given c.args.output_for encoding.version encoding.address_size g c.in_ok-texts.texts c.in_ok-ranges.ranges) lines) c.in_ok-add_types.ensures.added
