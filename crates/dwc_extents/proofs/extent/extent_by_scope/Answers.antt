use Rattle.std.proofs.Common.{ℕ, List, Bor, sym, subst, ◌∙◌, option_map}
use Rattle.dwc_dwarf.specs.Lists.{list_source}
use Rattle.dwc_rules.specs.RangeAttributes.{extent}
use Rattle.dwc_read.specs.EntriesSeen.{entry_view}
use Rattle.dwc_extents.specs.ReadExtents.{IsScopeOf}
use Rattle.dwc_extents.proofs.NativeExtentLaws.{some-intervals}
use Rattle.dwc_extents.proofs.extent.extent_by_scope.Goals as goal

pub extent_of_scope-requires-clause-some : goal.extent_of_scope-requires-clause-some
extent_of_scope-requires-clause-some c = some-intervals c.in-Some.known.now (sym c.is_empty.ensures ∙ c.if-is_empty.false)

pub returns-else-is_empty-clause-says : goal.returns-else-is_empty-clause-says
returns-else-is_empty-clause-says c =
    let u = c.args.source.now.unit.now in
    let s = list_source u.sections u.header in
    let e = entry_view c.args.entry.now in
    c.extent_of_scope.ensures.says e.tag (extent s e) (subst (λ o. IsScopeOf s e (option_map (λ (b : Bor (List (ℕ × ℕ))). b.now) o)) c.in-Some.is c.requires.scope)
