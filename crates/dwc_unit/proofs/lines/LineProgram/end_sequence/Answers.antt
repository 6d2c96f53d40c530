use Rattle.std.proofs.Common.{refl}
use Rattle.std.proofs.lemmas.List.{map-append}
use Rattle.dwc_unit.proofs.LineLaws.{behind-rows, end-kept}
use Rattle.dwc_unit.proofs.lines.LineProgram.end_sequence.Goals as goal

pub ended-requires-clause-behind : goal.ended-requires-clause-behind
ended-requires-clause-behind c = behind-rows c.self.inside.start_address c.self.inside.rows c.args.offset (rw (← c.self.view_is) at c.requires).behind

pub invariant_of-self-2 : goal.invariant_of-self-2
invariant_of-self-2 c =
    end-kept _ _ _ _ _ c.self.inside.start_address c.in-Some.start_address c.self.inside.rows c.args.offset c.in-Some.is (let pushed = c.in_ok-push.ensures.items in rw (pushed, map-append, c.in_ok-rows.ensures) refl) c.self.invariant (rw (← c.self.view_is) at c.requires)
