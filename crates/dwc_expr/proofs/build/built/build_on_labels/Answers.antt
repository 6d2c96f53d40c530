use Rattle.std.proofs.Common.{◌≡◌, All, None, flat_map, map, sym, subst}
use Rattle.std.proofs.lemmas.Result.{err_from_is_err_and}
use Rattle.dwc_base.specs.Listing.{first_of}
use Rattle.dwc_isa.specs.Registers.{Registers}
use Rattle.dwc_expr.specs.Builds.{location_view}
use Rattle.dwc_isa.specs.ToldModules.{memory_view}
use Rattle.dwc_expr.specs.LabelRanges.{HasPlaces}
use Rattle.dwc_expr.specs.NeededLabels.{numbers}
use Rattle.dwc_expr.specs.PartsToBuild.{all_parts, labels_needed}
use Rattle.dwc_expr.specs.RangeExpressions.{jumps_refused, location_on}
use Rattle.dwc_expr.specs.Refusals.{TellsFirst, refusals_on}
use Rattle.dwc_expr.proofs.BuildLaws.{gathered-low, out-labels, out-places, out-jumps, out-built}
use Rattle.dwc_expr.proofs.KnownLaws.{each-place}
use Rattle.dwc_expr.proofs.build.built.build_on_labels.Goals as goal

pub returns-in_err-built : goal.returns-in_err-built
returns-in_err-built g c x is =
    let registers : Registers = (goal.TargetIsa-dyn g c.args.isa.now).dwarf_registers c.args.isa.now.1 in
    let labels = c.args.labels.now in
    let p = err_from_is_err_and c.from_residual.result c.from_residual.ensures.1 in
    rw (p.1, p.2) (out-labels c.args.frame_info c.args.addr_tr.now c.args.scope.now registers (numbers labels) (all_parts c.args.parts.now) x is c.requires.labels c.in_err-built.field-0.0 c.in_err-built.ensures.given)

pub check_places-requires : goal.check_places-requires
check_places-requires g c =
    rw c.deref.ensures.value c.in_ok-built.ensures.placed

pub returns-in_err-check_places : goal.returns-in_err-check_places
returns-in_err-check_places g c x is =
    let registers : Registers = (goal.TargetIsa-dyn g c.args.isa.now).dwarf_registers c.args.isa.now.1 in
    let labels = c.args.labels.now in
    let built = c.in_ok-built.built in
    let lacks = c.lacks_memory-lacks_memory.result in
    let e = c.in_err-check_places.field-0.0 in
    let tells = subst (λ rs. TellsFirst (flat_map (refusals_on lacks (numbers labels) registers) rs) e) c.deref.ensures.value c.in_err-check_places.ensures in
    let p = err_from_is_err_and c.from_residual-in_err-check_places.result c.from_residual-in_err-check_places.ensures.1 in
    rw (p.1, p.2)
    (out-places c.args.frame_info c.args.addr_tr.now c.args.scope.now registers (numbers labels) (all_parts c.args.parts.now) x is c.requires.labels built.ranges.items built.covers_entire_scope c.in_ok-built.ensures.given.0 c.in_ok-built.ensures.given.1 (memory_view c.memory_of-memory.result) c.memory_of-memory.ensures
    c.reads_memory.result lacks c.reads_memory.ensures c.lacks_memory-lacks_memory.ensures e tells)

pub expressions_on-requires-clause-places : goal.expressions_on-requires-clause-places
expressions_on-requires-clause-places g c =
    let labels = c.args.labels.now in
    let needed = labels_needed c.args.parts.now in
    subst (All (HasPlaces needed)) (sym c.deref-2.ensures.value) (each-place (numbers labels) needed c.in_ok-built.built.ranges.items c.requires.labels c.in_ok-built.ensures.placed)

pub expressions_on-requires-clause-low : goal.expressions_on-requires-clause-low
expressions_on-requires-clause-low g c =
    let built = c.in_ok-built.built in
    rw c.deref-2.ensures.value (gathered-low c.args.frame_info c.args.addr_tr.now c.args.scope.now (numbers c.args.labels.now) built.ranges.items built.covers_entire_scope c.in_ok-built.ensures.given.1)

pub returns-in_err-expressions : goal.returns-in_err-expressions
returns-in_err-expressions g c x is =
    let registers : Registers = (goal.TargetIsa-dyn g c.args.isa.now).dwarf_registers c.args.isa.now.1 in
    let labels = c.args.labels.now in
    let built = c.in_ok-built.built in
    let lacks = c.lacks_memory-lacks_memory.result in
    let memory = memory_view c.memory_of-memory.result in
    let placed = subst (λ rs. first_of (flat_map (refusals_on lacks (numbers labels) registers) rs) ≡ None) c.deref.ensures.value c.in_ok-check_places.ensures in
    let e = c.in_err-expressions.field-0.0 in
    let tells = subst (λ rs. TellsFirst (flat_map (jumps_refused (all_parts c.args.parts.now) registers memory) rs) e) c.deref-2.ensures.value c.in_err-expressions.ensures in
    let p = err_from_is_err_and c.from_residual-in_err-expressions.result c.from_residual-in_err-expressions.ensures.1 in
    rw (p.1, p.2)
    (out-jumps c.args.frame_info c.args.addr_tr.now c.args.scope.now registers (numbers labels) (all_parts c.args.parts.now) x is c.requires.labels built.ranges.items built.covers_entire_scope c.in_ok-built.ensures.given.0 c.in_ok-built.ensures.given.1 memory c.memory_of-memory.ensures c.reads_memory.result lacks c.reads_memory.ensures
    c.lacks_memory-lacks_memory.ensures placed e tells)

pub returns : goal.returns
returns g c x is =
    let registers : Registers = (goal.TargetIsa-dyn g c.args.isa.now).dwarf_registers c.args.isa.now.1 in
    let labels = c.args.labels.now in
    let built = c.in_ok-built.built in
    let lacks = c.lacks_memory-lacks_memory.result in
    let memory = memory_view c.memory_of-memory.result in
    let parts = all_parts c.args.parts.now in
    let placed = subst (λ rs. first_of (flat_map (refusals_on lacks (numbers labels) registers) rs) ≡ None) c.deref.ensures.value c.in_ok-check_places.ensures in
    let none = subst (λ rs. first_of (flat_map (jumps_refused parts registers memory) rs) ≡ None) c.deref-2.ensures.value c.in_ok-expressions.ensures.0 in
    let expressions = map location_view c.in_ok-expressions.expressions.items in
    let made = subst (λ rs. expressions ≡ map (location_on parts registers memory) rs) c.deref-2.ensures.value c.in_ok-expressions.ensures.1 in
    out-built c.args.frame_info c.args.addr_tr.now c.args.scope.now registers (numbers labels) parts x is c.requires.labels built.ranges.items built.covers_entire_scope c.in_ok-built.ensures.given.0 c.in_ok-built.ensures.given.1 memory c.memory_of-memory.ensures c.reads_memory.result lacks c.reads_memory.ensures
    c.lacks_memory-lacks_memory.ensures placed expressions none made c.requires.scope
