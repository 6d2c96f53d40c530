use Rattle.std.proofs.Common.{◌∷◌, [], sym, subst}
use Rattle.std.specs.List.{flat_map}
use Rattle.dwc_native.specs.Runs.{native}
use Rattle.dwc_extents.specs.NativeExtents.{AreRanges}
use Rattle.dwc_extents.proofs.NativeExtentLaws.{scope-said}
use Rattle.dwc_extents.proofs.NativeRangeLaws.{offsets-said}
use Rattle.dwc_extents.proofs.extent.extent_of_scope.Goals as goal

pub returns-in-Some-clause-says : goal.returns-in-Some-clause-says
returns-in-Some-clause-says c tag e is =
    let fs = c.args.transform.now in
    let scope = c.args.scope.now in
    let are = subst (λ rs. AreRanges rs (flat_map (λ i. native fs i.0 i.1) scope)) c.in-Some.ensures (offsets-said fs (c.translations_are_said.ensures fs c.requires.functions) scope) in
    scope-said fs tag e scope ((c.in-Some.begin, c.in-Some.length) ∷ []) is c.requires.some are

pub returns-in-Some-clause-fits : goal.returns-in-Some-clause-fits
returns-in-Some-clause-fits c =
    let fs = c.args.transform.now in
    let scope = c.args.scope.now in
    let are = subst (λ rs. AreRanges rs (flat_map (λ i. native fs i.0 i.1) scope)) c.in-Some.ensures (offsets-said fs (c.translations_are_said.ensures fs c.requires.functions) scope) in
    are.fit

pub returns-clause-says : goal.returns-clause-says
returns-clause-says c tag e is =
    let fs = c.args.transform.now in
    let scope = c.args.scope.now in
    let are = subst (λ rs. AreRanges rs (flat_map (λ i. native fs i.0 i.1) scope)) (sym c.in_ok-ranges.ensures) (offsets-said fs (c.translations_are_said.ensures fs c.requires.functions) scope) in
    scope-said fs tag e scope c.in_ok-ranges.ranges.items is c.requires.some are

pub returns-clause-fits : goal.returns-clause-fits
returns-clause-fits c =
    let fs = c.args.transform.now in
    let scope = c.args.scope.now in
    let are = subst (λ rs. AreRanges rs (flat_map (λ i. native fs i.0 i.1) scope)) (sym c.in_ok-ranges.ensures) (offsets-said fs (c.translations_are_said.ensures fs c.requires.functions) scope) in
    are.fit
