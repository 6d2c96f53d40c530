use Rattle.std.proofs.Common.{get_or, ap, subst, ◌∙◌}
use Rattle.dwc_carry.specs.UnitPathParts.{IsUnitPath}
use Rattle.dwc_carry.proofs.PathLaws.{counter-behind, path-of}
use Rattle.dwc_carry.proofs.simulated_unit.taken_path.Goals as goal

pub returns-clause-path : goal.returns-clause-path
returns-clause-path c =
    let compilation = c.args.compilation.now in
    let t = c.index-translations-0.result in
    let at = c.index-translations-0.is ∙ ap (λ ts. get_or ts 0 t) c.translations-translations.ensures.translations in
    path-of compilation t c.in_ok-path.path at (subst (λ n. IsUnitPath t n c.in_ok-path.path) c.next_id.ensures c.in_ok-path.ensures.path) c.in_ok-path.ensures.plain

pub returns-clause-counter : goal.returns-clause-counter
returns-clause-counter c = λ registers.
    let compilation = c.args.compilation.now in
    let t = c.index-translations-0.result in
    let at = c.index-translations-0.is ∙ ap (λ ts. get_or ts 0 t) c.translations-translations.ensures.translations in
    c.count_name.ensures ∙ counter-behind compilation t c.in_ok-path.path at (subst (λ n. IsUnitPath t n c.in_ok-path.path) c.next_id.ensures c.in_ok-path.ensures.path) registers c.translations-translations.ensures.counted c.requires
