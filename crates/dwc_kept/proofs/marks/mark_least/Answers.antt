use Rattle.std.proofs.Common.{◌∙◌, ap, length, Bool, false, ℕ, ◌-◌, List, [], ◌++◌, replicate, take}
use Rattle.dwc_kept.specs.GraphEntries.{mark_all, numbers_from}
use Rattle.dwc_kept.proofs.MarkWalks.{work-begins, work-goes, work-ends, work-inside}
use Rattle.dwc_kept.proofs.marks.mark_least.Goals as goal

pub loop-number-init : goal.loop-number-init
loop-number-init c =
    work-begins c.args.entries.now c.args.targets.now c.args.required.now _ c.requires.each
    (c.in_ok-mark_required.ensures ∙ ap (λ (bs : List Bool). mark_all (numbers_from 0 c.args.required.now) (record { marks = bs; stack = c.args.stack.now.items })) c.requires.unmarked ∙ ap (λ (is : List ℕ). mark_all (numbers_from 0 c.args.required.now) (record { marks = replicate (length c.args.entries.now) false; stack = is })) c.requires.empty)

pub mark_kept-requires-clause-inside : goal.mark_kept-requires-clause-inside
mark_kept-requires-clause-inside c = work-inside c.args.entries.now c.args.targets.now c.args.required.now c.in-Some.number c.pop.new.self.items _ c.loop-number.invariant c.in-Some.ensures.items

pub loop-number-smaller : goal.loop-number-smaller
loop-number-smaller c = (work-goes c.args.entries.now c.args.targets.now c.requires.entries c.args.required.now c.in-Some.number c.pop.new.self.items _ _ c.loop-number.invariant c.in-Some.ensures.items c.in_ok-mark_kept.ensures).1

pub loop-number-preserved : goal.loop-number-preserved
loop-number-preserved c = (work-goes c.args.entries.now c.args.targets.now c.requires.entries c.args.required.now c.in-Some.number c.pop.new.self.items _ _ c.loop-number.invariant c.in-Some.ensures.items c.in_ok-mark_kept.ensures).0

pub returns : goal.returns
returns c =
    let popped = c.in_default.ensures in
    work-ends c.args.entries.now c.args.targets.now c.requires.entries c.args.required.now _ c.loop-number.invariant
    (popped.items ∙ ap (λ (is : List ℕ). is ++ []) popped.rest ∙ ap (λ (n : ℕ). take (n - 1) c.loop-number.stack.items ++ []) popped.cases.0)
