use Rattle.std.proofs.Common.{◌≡◌, ◌+◌, ◌<◌, ◌^◌, length, sym, ap, ◌∙◌, refl, arith, Ok, Some, None}
use Rattle.std.specs.Prelude.{option_map, pred}
use Rattle.dwc_dwarf.specs.Entries.{entry_at, entries_from, entry_place, entry_places_left}
use Rattle.dwc_dwarf.proofs.EntryWalk.{entries_from-none, entries_from-end, entries_from-fault, entries_from-siblings, entries_from-entry}
use Rattle.dwc_read.specs.EntriesSeen.{found_view}
use Rattle.dwc_read.specs.Places.{place_view}
use Rattle.dwc_read.proofs.StepLaws.{entry_at-shrinks, entry_places_left-place, IsShallow-behind, IsShallow-siblings, Stays-at}
use Rattle.dwc_read.proofs.steps.take_step.Goals as goal

pub returns-in_default-clause-step : goal.returns-in_default-clause-step
returns-in_default-clause-step c =
    let unit = c.args.unit.now in
    let list = entries_from unit.sections unit.header c.args.table.now in
    let at : option_map place_view c.args.place.now ≡ None = ap (option_map place_view) c.in_default.is in
    (ap list at ∙ entries_from-none unit.sections unit.header c.args.table.now, refl)

pub returns-then-left-eq0-clause-step : goal.returns-then-left-eq0-clause-step
returns-then-left-eq0-clause-step c =
    let unit = c.args.unit.now in
    let list = entries_from unit.sections unit.header c.args.table.now in
    let here = place_view c.in-Some.here in
    let at : option_map place_view c.args.place.now ≡ Some here = ap (option_map place_view) c.in-Some.is in
    (ap list at ∙ entries_from-end unit.sections unit.header c.args.table.now here (sym c.left.ensures ∙ c.if-left-eq0.true), sym at)

pub pass_entry-requires : goal.pass_entry-requires
pass_entry-requires c =
    let unit = c.args.unit.now in
    let here = c.in-Some.here in
    let u = here.cursor in
    let v = c.read.new.cursor in
    let e = found_view c.read.new.self c.in-Ok-Some.has_children in
    let read : entry_at unit.sections unit.header c.args.table.now here.depth u ≡ Ok (Some e, v) = rw (c.in-Ok-Some.field-0-is, c.fork-ahead.ensures) at c.in-Ok-Some.ensures in
    let fewer = entry_at-shrinks unit.sections unit.header c.args.table.now here.depth u v (Some e) read in
    let fits : here.depth + length u.left < 2 ^ 32 = rw c.in-Some.is at c.requires in
    omega arith

pub returns-in-Ok-Some-clause-shallow : goal.returns-in-Ok-Some-clause-shallow
returns-in-Ok-Some-clause-shallow c =
    let unit = c.args.unit.now in
    let here = c.in-Some.here in
    let u = here.cursor in
    let v = c.read.new.cursor in
    let e = found_view c.read.new.self c.in-Ok-Some.has_children in
    let read : entry_at unit.sections unit.header c.args.table.now here.depth u ≡ Ok (Some e, v) = rw (c.in-Ok-Some.field-0-is, c.fork-ahead.ensures) at c.in-Ok-Some.ensures in
    let fewer = entry_at-shrinks unit.sections unit.header c.args.table.now here.depth u v (Some e) read in
    let fits : here.depth + length u.left < 2 ^ 32 = rw c.in-Some.is at c.requires in
    rw c.pass_entry.ensures (IsShallow-behind c.in-Ok-Some.has_children here.depth v (omega arith))

pub returns-in-Ok-Some-clause-step : goal.returns-in-Ok-Some-clause-step
returns-in-Ok-Some-clause-step c =
    let unit = c.args.unit.now in
    let list = entries_from unit.sections unit.header c.args.table.now in
    let here = place_view c.in-Some.here in
    let v = c.read.new.cursor in
    let e = found_view c.read.new.self c.in-Ok-Some.has_children in
    let at : option_map place_view c.args.place.now ≡ Some here = ap (option_map place_view) c.in-Some.is in
    let read : entry_at unit.sections unit.header c.args.table.now here.depth here.unread ≡ Ok (Some e, v) = rw (c.in-Ok-Some.field-0-is, c.fork-ahead.ensures) at c.in-Ok-Some.ensures in
    let some : 0 < length here.unread.left = omega arith in
    rw c.pass_entry.ensures (ap list at ∙ entries_from-entry unit.sections unit.header c.args.table.now here v e some read)

pub returns-in-Ok-None-clause-shallow : goal.returns-in-Ok-None-clause-shallow
returns-in-Ok-None-clause-shallow c =
    let unit = c.args.unit.now in
    let here = c.in-Some.here in
    let u = here.cursor in
    let v = c.read.new.cursor in
    let read : entry_at unit.sections unit.header c.args.table.now here.depth u ≡ Ok (None, v) = rw (c.in-Ok-None.field-0-is, c.fork-ahead.ensures) at c.in-Ok-None.ensures in
    let fewer = entry_at-shrinks unit.sections unit.header c.args.table.now here.depth u v None read in
    let fits : here.depth + length u.left < 2 ^ 32 = rw c.in-Some.is at c.requires in
    rw c.pass_siblings.ensures (IsShallow-siblings here.depth v (omega arith))

pub returns-in-Ok-None-clause-step : goal.returns-in-Ok-None-clause-step
returns-in-Ok-None-clause-step c =
    let unit = c.args.unit.now in
    let list = entries_from unit.sections unit.header c.args.table.now in
    let here = place_view c.in-Some.here in
    let v = c.read.new.cursor in
    let at : option_map place_view c.args.place.now ≡ Some here = ap (option_map place_view) c.in-Some.is in
    let read : entry_at unit.sections unit.header c.args.table.now here.depth here.unread ≡ Ok (None, v) = rw (c.in-Ok-None.field-0-is, c.fork-ahead.ensures) at c.in-Ok-None.ensures in
    let some : 0 < length here.unread.left = omega arith in
    let fewer = entry_at-shrinks unit.sections unit.header c.args.table.now here.depth here.unread v None read in
    let less : entry_places_left (entry_place (pred here.depth) v) < length here.unread.left = omega (arith, entry_places_left-place (pred here.depth) v) in
    rw c.pass_siblings.ensures (ap list at ∙ entries_from-siblings unit.sections unit.header c.args.table.now here v some read, rw at less)

pub returns-in-Err-clause-step : goal.returns-in-Err-clause-step
returns-in-Err-clause-step c =
    let unit = c.args.unit.now in
    let list = entries_from unit.sections unit.header c.args.table.now in
    let here = place_view c.in-Some.here in
    let at : option_map place_view c.args.place.now ≡ Some here = ap (option_map place_view) c.in-Some.is in
    let some : 0 < length here.unread.left = omega arith in
    let fails = rw c.fork-ahead.ensures at c.in-Err.ensures in
    rw (c.refusal.ensures, c.place-offset.ensures) (
      Stays-at here.unread.place c.in-Err.e (entry_at unit.sections unit.header c.args.table.now here.depth here.unread) (list (option_map place_view c.args.place.now))
          (λ flaw read. ap list at ∙ entries_from-fault unit.sections unit.header c.args.table.now here flaw some read) fails,
      sym at,
    )
