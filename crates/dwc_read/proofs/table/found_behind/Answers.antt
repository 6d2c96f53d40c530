use Rattle.std.proofs.Common.{ap, ◌∙◌}
use Rattle.std.specs.Prelude.{slice_get}
use Rattle.dwc_read.proofs.CodeLaws.{declaration_of-behind}
use Rattle.dwc_read.proofs.table.found_behind.Goals as goal

pub returns : goal.returns
returns c =
    c.item.ensures
    ∙ ap (λ ds. slice_get ds c.in-Some.place) c.declarations.ensures
    ∙ declaration_of-behind c.args.start c.in-Some.place c.args.chain.now c.args.code c.in-Some.ensures c.if-place-start.true
