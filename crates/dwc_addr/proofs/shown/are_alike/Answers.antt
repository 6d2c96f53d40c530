use Rattle.std.proofs.Common.{◌∙◌, sym}
use Rattle.dwc_addr.proofs.KeyLaws.{block-none, block-all}
use Rattle.dwc_addr.proofs.shown.are_alike.Goals as goal

pub returns-then-has_none : goal.returns-then-has_none
returns-then-has_none c = λ behind ss size k d keys inside at.
    block-all ss size k d c.args.keys.now c.args.block c.key_of-first.result c.args.start c.args.end c.capped.result c.capped-2.result keys inside at c.key_of-first.ensures.key c.capped.ensures.capped c.capped-2.ensures.capped
    (c.has_none.ensures c.if-has_none.true) (c.has_none-then-has_none.ensures behind)
    ∙ sym c.if-inside.true

pub returns : goal.returns
returns c = λ none ss size k d keys inside at.
    block-none ss size k d c.args.keys.now c.args.block c.key_of-first.result c.args.start c.args.end c.capped.result c.capped-2.result keys inside at c.key_of-first.ensures.key c.capped.ensures.capped c.capped-2.ensures.capped
    (c.has_none-2.ensures none)
    ∙ sym c.if-inside.false
