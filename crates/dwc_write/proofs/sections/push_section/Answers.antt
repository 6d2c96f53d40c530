use Rattle.std.proofs.Common.{[]}
use Rattle.std.proofs.lemmas.List.{map-append}
use Rattle.std.proofs.lemmas.List.Elements.{All-append, All-cons, All-nil}
use Rattle.dwc_section.specs.Writers.{IsSound}
use Rattle.dwc_write.proofs.sections.push_section.Goals as goal

pub returns-clause-sound : goal.returns-clause-sound
returns-clause-sound c =
    λ before. rw (c.in_ok-push.ensures.items, map-append) (All-append (IsSound c.args.writer.order) _ _ before (All-cons (IsSound c.args.writer.order) _ [] c.take.ensures.sound (All-nil (IsSound c.args.writer.order))))
