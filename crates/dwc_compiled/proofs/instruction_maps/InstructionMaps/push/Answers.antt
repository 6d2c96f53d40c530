use Rattle.std.proofs.Common.{arith, ap}
use Rattle.dwc_compiled.proofs.GapLaws.{source-added, source-split, gap-added, gap-split}
use Rattle.dwc_compiled.proofs.instruction_maps.InstructionMaps.push.Goals as goal

pub invariant_of-self : goal.invariant_of-self
invariant_of-self c = rw c.in_ok-push-in-Some.ensures.items (source-split c.self.inside.sources.items c.self.inside.gaps.items c.self.invariant _)

pub invariant_of-self-in_ok-push-in-None : goal.invariant_of-self-in_ok-push-in-None
invariant_of-self-in_ok-push-in-None c =
    let is = ap (λ g. g.before) c.in_ok-gap_at-in-None.ensures in
    rw c.in_ok-push-in-None.ensures.items (gap-split c.self.inside.sources.items c.self.inside.gaps.items c.self.invariant _ (omega (arith, is, c.len.ensures, c.self.inside.sources.ok)))

pub returns-in_ok-push-in-Some-clause-pushed : goal.returns-in_ok-push-in-Some-clause-pushed
returns-in_ok-push-in-Some-clause-pushed c =
    rw (c.in_ok-push-in-Some.ensures.items, ← c.self.view_is, ← c.file_offset.ensures, c.in-Some.is)
    (source-added c.self.inside.sources.items c.self.inside.gaps.items c.self.invariant _)

pub returns-in_ok-push-in-None-clause-pushed : goal.returns-in_ok-push-in-None-clause-pushed
returns-in_ok-push-in-None-clause-pushed c =
    rw (c.in_ok-push-in-None.ensures.items, ← c.self.view_is, ← c.file_offset.ensures, c.in-None.is, c.in_ok-gap_at-in-None.ensures)
    (gap-added c.self.inside.sources.items c.self.inside.gaps.items c.self.invariant _ (omega (arith, c.len.ensures, c.self.inside.sources.ok)))
