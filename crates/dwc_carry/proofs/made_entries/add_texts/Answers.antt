use Rattle.std.proofs.Common.{◌+◌, ◌∙◌, arith, drop, map}
use Rattle.dwc_carry.proofs.MadeTexts.{next-added, next-grows, next-numbers, next-text}
use Rattle.dwc_carry.proofs.made_entries.add_texts.Goals as goal

pub loop-i-preserved : goal.loop-i-preserved
loop-i-preserved c =
    let ts = c.args.texts.now in
    let i = c.loop-i.i in
    let rest = drop (i + 1) (map (λ t. t.now) ts) in
    let first = next-text ts i _ (omega (arith, c.loop-i-test.true)) in
    record {
      grows = next-grows c.args.strings.now c.loop-i.strings c.add.new.self _ c.loop-i.invariant.grows c.in_ok-add.ensures.ok;
      added = next-added c.loop-i.strings c.add.new.self (drop i (map (λ t. t.now) ts)) rest _ first c.in_ok-add.ensures.ok ∙ c.loop-i.invariant.added;
      numbers = next-numbers c.loop-i.strings c.add.new.self (drop i (map (λ t. t.now) ts)) rest _ c.loop-i.ids.items c.push.new.self.items c.in_ok-add.field-0 first c.in_ok-add.ensures.ok c.in_ok-add.ensures.id c.in_ok-push.ensures.items ∙ c.loop-i.invariant.numbers;
    }
