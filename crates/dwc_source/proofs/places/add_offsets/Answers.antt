use Rattle.std.proofs.Common.{rules, ◌≡◌, sym, subst, List, drop}
use Rattle.std.specs.List.Sorted.{IsNonDecreasingBy}
use Rattle.dwc_source.specs.declared.places.EmittedEntry.{EmittedEntry}
use Rattle.dwc_source.specs.OutputPlaces.{offsets_of}
use Rattle.dwc_source.proofs.PlaceLaws.{added-rise}
use Rattle.dwc_source.proofs.places.add_offsets.Goals as goal

pub returns-in_default-clause-rising : goal.returns-in_default-clause-rising
returns-in_default-clause-rising c = added-rise c.args.entries.now.items c.loop-i.entries.items c.args.unit c.loop-i.i c.args.offsets.now (drop c.loop-i.i c.args.offsets.now) c.loop-i.invariant c.requires.rising

pub returns-in_err-push-clause-rising : goal.returns-in_err-push-clause-rising
returns-in_err-push-clause-rising c =
    let same : c.push.new.self.items ≡ c.loop-i.entries.items = search rules in
    subst (λ (xs : List EmittedEntry). IsNonDecreasingBy (λ o. o) (offsets_of xs)) (sym same) (added-rise c.args.entries.now.items c.loop-i.entries.items c.args.unit c.loop-i.i c.args.offsets.now (drop c.loop-i.i c.args.offsets.now) c.loop-i.invariant c.requires.rising)

pub returns-clause-rising : goal.returns-clause-rising
returns-clause-rising c = added-rise c.args.entries.now.items c.loop-i.entries.items c.args.unit c.loop-i.i c.args.offsets.now (drop c.loop-i.i c.args.offsets.now) c.loop-i.invariant c.requires.rising
