use Rattle.std.proofs.Common.{List, subst, sym}
use Rattle.std.specs.List.{All}
use Rattle.std.proofs.lemmas.Result.{err_from_is_err_and}
use Rattle.dwc_unit.specs.declared.lists.ListKind.TheVariants.{Locations, Ranges}
use Rattle.dwc_unit.specs.Lists.{FitsListed, ListEntry}
use Rattle.dwc_write.proofs.ListsFit.{locations-fit, ranges-fit}
use Rattle.dwc_write.proofs.NotedLaws.{noted-lists}
use Rattle.dwc_write.proofs.OutputLaws.{lists-written, ranges-refused}
use Rattle.dwc_write.proofs.sections.write_unit_lists.Goals as goal

pub write_lists-requires-clause-fits : goal.write_lists-requires-clause-fits
write_lists-requires-clause-fits c =
    let are = noted-lists Ranges _ _ _ c.requires.noted.ranged in
    rw (c.as_slice-ranged.ensures.value) (subst (λ (ls : List ListEntry). All (FitsListed c.args.version c.args.size) ls) (sym are) (ranges-fit c.args.version c.args.size _ c.requires.fits))

pub write_lists-requires-2-clause-fits : goal.write_lists-requires-2-clause-fits
write_lists-requires-2-clause-fits c =
    let are = noted-lists Locations _ _ _ c.requires.noted.located in
    rw (c.as_slice-located.ensures.value) (subst (λ (ls : List ListEntry). All (FitsListed c.args.version c.args.size) ls) (sym are) (locations-fit c.args.version c.args.size _ c.requires.fits c.requires.short))

pub returns-in_err-write_lists : goal.returns-in_err-write_lists
returns-in_err-write_lists c =
    let p = err_from_is_err_and c.from_residual.result c.from_residual.ensures.1 in
    let refused = rw (c.as_slice-ranged.ensures.value, noted-lists Ranges _ _ _ c.requires.noted.ranged) at c.in_err-write_lists.ensures in
    ranges-refused c.from_residual.result _ c.args.ranges.now c.write_lists.new.lists c.args.locations.now c.args.locations.now _ p refused

pub returns : goal.returns
returns c =
    let first = rw (c.as_slice-ranged.ensures.value, noted-lists Ranges _ _ _ c.requires.noted.ranged) at c.in_ok-write_lists.ensures in
    let second = rw (c.as_slice-located.ensures.value, noted-lists Locations _ _ _ c.requires.noted.located) at c.write_lists-2.ensures in
    lists-written c.write_lists-2.result c.args.ranges.now c.write_lists.new.lists c.args.locations.now c.write_lists-2.new.lists _ first second
