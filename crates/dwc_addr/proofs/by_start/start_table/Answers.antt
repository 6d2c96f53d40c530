use Rattle.std.proofs.Common.{◌≡◌, ◌++◌, map, sym, ap, ◌∙◌}
use Rattle.std.proofs.lemmas.List.{append-nil, at_drop_all, length-map}
use Rattle.std.proofs.lemmas.List.Sorted.{IsNonDecreasingBy-from_sort}
use Rattle.dwc_addr.specs.Transforms.{function_view}
use Rattle.dwc_addr.specs.Starts.{start_keys}
use Rattle.dwc_addr.proofs.by_start.start_table.Goals as goal

pub returns : goal.returns
returns c =
    let fs = c.args.functions.now in
    let all : c.loop-i.keys.items ≡ start_keys 0 (map function_view fs) =
    sym (append-nil c.loop-i.keys.items) ∙ ap (λ ks. c.loop-i.keys.items ++ ks) (sym (at_drop_all (λ ms. start_keys c.loop-i.i (map function_view ms)) fs c.loop-i.i c.loop-i-test.false)) ∙ c.loop-i.invariant in
    record {
      few = rw (length-map fs function_view) c.requires;
      rises = IsNonDecreasingBy-from_sort (λ k. k) c.sort_unstable.new.self.items c.sort_unstable.ensures.sorted;
      moved = rw (← all) c.sort_unstable.ensures.permutation;
    }
