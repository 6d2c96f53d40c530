use Rattle.std.proofs.Common.{ap, ◌∙◌, ◌++◌, ℕ, List, ◌∷◌, []}
use Rattle.dwc_unit.specs.NameViews.{files_of}
use Rattle.dwc_unit.proofs.NameLaws.{files-push}
use Rattle.dwc_unit.proofs.names.Files.push.Goals as goal

pub returns-clause-ok : goal.returns-clause-ok
returns-clause-ok c =
    let ds = rw (c.unwrap.ensures, c.in_ok-reserve.ensures.items) at c.push-2.ensures.items in
    ap (λ ns. files_of ns c.push-2.new.self.items) c.in_ok-push.ensures.ok ∙ ap (λ (es : List ℕ). files_of (c.self.inside.names ++ c.args.name.now ∷ []) es) ds
    ∙ files-push c.self.inside.names c.self.inside.directories.items c.args.name.now c.args.directory c.self.invariant ∙ ap (λ fs. fs ++ record { directory = c.args.directory; name = c.args.name.now } ∷ []) c.self.view_is
