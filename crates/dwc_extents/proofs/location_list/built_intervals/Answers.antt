use Rattle.std.proofs.Common.{◌≡◌, ◌+◌, ◌∙◌, Bool, Ok, ap, drop, map, subst, sym}
use Rattle.std.proofs.lemmas.Result.{err_from_is_err_and}
use Rattle.dwc_rules.specs.LocationAttributes.{InForce, built_for_each}
use Rattle.dwc_extents.specs.InForceSeen.{in_force_view}
use Rattle.dwc_extents.specs.LocationListValues.{listed_view, some_where}
use Rattle.dwc_extents.specs.LocationValues.{locations_view, told}
use Rattle.dwc_extents.proofs.LocationListLaws.{behind, built-refused, built-whole, put-more, put-none}
use Rattle.dwc_extents.proofs.location_list.built_intervals.Goals as goal

pub returns-in_err-put : goal.returns-in_err-put
returns-in_err-put g c =
    let e : InForce = in_force_view c.args.transform.now ((goal.TargetIsa-dyn g c.args.isa.now).dwarf_registers c.args.isa.now.1) c.args.in_force.now in
    let p = err_from_is_err_and c.from_residual.result c.from_residual.ensures.1 in
    let l = c.loop-interval in
    rw (p.1, p.2) (built-refused e c.args.intervals.now l.interval-index (some_where l.supported (locations_view l.locations)) (built_for_each e (map listed_view c.args.intervals.now)) l.invariant.0 _ (told c.in_err-put.field-0.0) c.loop-interval-test.true c.in_err-put.ensures)

pub loop-interval-preserved : goal.loop-interval-preserved
loop-interval-preserved g c =
    let e : InForce = in_force_view c.args.transform.now ((goal.TargetIsa-dyn g c.args.isa.now).dwarf_registers c.args.isa.now.1) c.args.in_force.now in
    let xs = c.args.intervals.now in
    let l = c.loop-interval in
    let new = c.put_interval.new.locations in (
      subst (λ (b : Bool). behind (some_where b (locations_view new)) (built_for_each e (map listed_view (drop (l.interval-index + 1) xs))) ≡ built_for_each e (map listed_view xs)) (sym c.either-supported.ensures)
          (put-more e xs l.interval-index l.supported l.locations.items (built_for_each e (map listed_view xs)) l.invariant.0 l.invariant.1 _ c.in_ok-put.put new.items c.loop-interval-test.true c.in_ok-put.ensures),
      λ none. put-none l.supported c.in_ok-put.put _ l.locations.items new.items l.invariant.1 c.in_ok-put.ensures (sym c.either-supported.ensures ∙ none),
    )

pub returns : goal.returns
returns g c =
    let e : InForce = in_force_view c.args.transform.now ((goal.TargetIsa-dyn g c.args.isa.now).dwarf_registers c.args.isa.now.1) c.args.in_force.now in
    let l = c.loop-interval in
    built-whole e c.args.intervals.now l.interval-index (some_where l.supported (locations_view l.locations)) (built_for_each e (map listed_view c.args.intervals.now)) l.invariant.0 c.loop-interval-test.false ∙ ap (λ ls. Ok ls) (sym c.if_supported.ensures)
