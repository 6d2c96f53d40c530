use Rattle.std.proofs.Common.{◌≡◌, ◌<◌, ◌+◌, ◌-◌, ◌++◌, ◌∙◌, append_assoc, ap, arith, length, sym, take}
use Rattle.dwc_types.specs.TypeChains.{behind}
use Rattle.dwc_types.proofs.ChainNameLaws.{behind-more}
use Rattle.dwc_types.proofs.type_name.put_behind.Goals as goal

pub loop-left-preserved : goal.loop-left-preserved
loop-left-preserved c =
    let tags = c.args.tags.now in
    let left = c.loop-left.left in
    let fits = c.loop-left.invariant.within in
    let place : left ≡ (left - 1) + 1 = omega (arith, c.loop-left-test.true) in
    let within : left - 1 < length tags = omega (arith, c.loop-left-test.true, fits) in
    let more = ap (λ n. behind (take n tags)) place ∙ behind-more tags (left - 1) _ within in
    let put = c.in_ok-extend_from_slice.ensures.items ∙ ap (λ bs. c.loop-left.out.items ++ bs) c.behind_name.ensures in
    record {
      within = omega (arith, fits);
      so_far = ap (λ xs. xs ++ behind (take (left - 1) tags)) put ∙ append_assoc c.loop-left.out.items _ (behind (take (left - 1) tags)) ∙ ap (λ xs. c.loop-left.out.items ++ xs) (sym more) ∙ c.loop-left.invariant.so_far;
    }
