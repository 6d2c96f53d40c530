use Rattle.std.proofs.Common.{◌≡◌, ◌++◌, sym, ap, ◌∙◌, arith}
use Rattle.std.proofs.lemmas.List.{append-nil, at_drop_all}
use Rattle.std.proofs.lemmas.List.Sorted.{IsNonDecreasingBy-from_sort}
use Rattle.dwc_addr.specs.Stretches.{source_keys}
use Rattle.dwc_addr.proofs.KeyLaws.{keys-sorted}
use Rattle.dwc_addr.proofs.shown.source_table.Goals as goal

pub invariant_of-result-clause-rises : goal.invariant_of-result-clause-rises
invariant_of-result-clause-rises c = IsNonDecreasingBy-from_sort (λ k. k) c.sort_unstable.new.self.items c.sort_unstable.ensures.sorted

pub returns : goal.returns
returns c =
    let ss = c.args.stretches.now in
    let block = c.args.block in
    let all : c.loop-i.keys.items ≡ source_keys block 0 ss =
    sym (append-nil c.loop-i.keys.items) ∙ ap (λ ks. c.loop-i.keys.items ++ ks) (sym (at_drop_all (source_keys block c.loop-i.i) ss c.loop-i.i c.loop-i-test.false)) ∙ c.loop-i.invariant.1 in
    keys-sorted ss block c.sort_unstable.new.self.items (λ k d inside. c.loop-i.invariant.0 k d (omega (arith, inside, c.loop-i-test.false))) (rw (← all) c.sort_unstable.ensures.permutation)
