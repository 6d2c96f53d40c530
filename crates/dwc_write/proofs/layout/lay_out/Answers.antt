use Rattle.std.proofs.Common.{◌≡◌, ℕ, List, ◌<◌, ◌∙◌, refl, sym, ap, subst, arith, ◌∷◌, [], map, length, add-one}
use Rattle.std.proofs.lemmas.List.{length-map, map-append}
use Rattle.std.proofs.lemmas.Result.{err_from_is_err_and}
use Rattle.dwc_base.specs.declared.records.Endian.{Endian}
use Rattle.dwc_base.specs.declared.records.Endian.TheVariants.{Little}
use Rattle.dwc_unit.specs.GivenUnits.{FitsOrdered, GivenUnit, OrderedUnit, ordered, size_of}
use Rattle.dwc_write.specs.LayoutViews.{IsLaidOut, places_view}
use Rattle.dwc_write.specs.SpelledOutput.{IsRefusal}
use Rattle.dwc_unit.specs.WidestGiven.{IsWideRefusal}
use Rattle.dwc_write.proofs.OutputLaws.{all-taken-more}
use Rattle.dwc_write.proofs.OrderedLaws.{unit-seen}
use Rattle.dwc_write.proofs.LayoutLaws.{laying-more, laying-past, zip-more}
use Rattle.dwc_write.proofs.WideLaws.{err-exit, layout-large, layout-widest, refused-long, refused-widely, too-long}
use Rattle.dwc_write.proofs.layout.lay_out.Goals as goal

pub loop-i-preserved : goal.loop-i-preserved
loop-i-preserved c =
    let us = map ordered c.args.units.now in
    let u = c.index-units-i.result in
    let layout = c.in_ok-layout.layout in
    let within : c.loop-i.i < length us = omega (arith, c.loop-i-test.true, length-map c.args.units.now ordered) in
    let one = unit-seen c.args.units.now c.loop-i.i u c.loop-i-test.true c.index-units-i.is in
    let same : u.address_size ≡ size_of us = ap (λ (v : OrderedUnit). v.address_size) (sym one) ∙ (c.requires c.loop-i.i (ordered u) within).size in
    let P : GivenUnit → Type 0 = λ v. IsLaidOut v layout in
    let items = c.in_ok-push.ensures.items in
    rw add-one
    (record {
      short = c.in_ok-start.ensures.1;
      laid = rw (items) (zip-more IsLaidOut c.args.units.now c.loop-i.layouts.items c.loop-i.i u layout c.loop-i.invariant.laid c.loop-i-test.true (subst P c.index-units-i.is c.in_ok-layout.ensures.unit));
      laying = λ order.
          rw (items, map-append places_view c.loop-i.layouts.items (layout ∷ []))
          (laying-more order us c.loop-i.i c.loop-i.start c.in_ok-start.start layout.length _ (places_view layout) (ordered u) (ordered u) (c.loop-i.invariant.laying order) within one same (c.in_ok-layout.ensures.places order) (c.in_ok-layout.ensures.length order) c.in_ok-start.ensures.0);
      fits = all-taken-more FitsOrdered us c.loop-i.i (ordered u) within c.loop-i.invariant.fits (rw (one) c.in_ok-layout.ensures.fits);
    })

pub returns-in_err-layout-clause-large : goal.returns-in_err-layout-clause-large
returns-in_err-layout-clause-large c =
    let us = map ordered c.args.units.now in
    let u = c.index-units-i.result in
    let within : c.loop-i.i < length us = omega (arith, c.loop-i-test.true, length-map c.args.units.now ordered) in
    let one = unit-seen c.args.units.now c.loop-i.i u c.loop-i-test.true c.index-units-i.is in
    let same : u.address_size ≡ size_of us = ap (λ (v : OrderedUnit). v.address_size) (sym one) ∙ (c.requires c.loop-i.i (ordered u) within).size in
    let p = err_from_is_err_and c.from_residual-in_err-layout.result c.from_residual-in_err-layout.ensures.1 in
    err-exit (λ e. (order : Endian) (texts : List (List ℕ)) → IsRefusal order texts us e) _ _ p
    (λ order texts. refused-long order texts us _ _ (c.in_err-layout.ensures.large order) (λ large. layout-large order texts us c.loop-i.i (omega (arith, large, laying-past order us c.loop-i.i c.loop-i.start _ _ (ordered u) (ordered u) (c.loop-i.invariant.laying order) within one same refl))))

pub returns-in_err-layout-clause-widest : goal.returns-in_err-layout-clause-widest
returns-in_err-layout-clause-widest c =
    let us = map ordered c.args.units.now in
    let u = c.index-units-i.result in
    let within : c.loop-i.i < length us = omega (arith, c.loop-i-test.true, length-map c.args.units.now ordered) in
    let one = unit-seen c.args.units.now c.loop-i.i u c.loop-i-test.true c.index-units-i.is in
    let same : u.address_size ≡ size_of us = ap (λ (v : OrderedUnit). v.address_size) (sym one) ∙ (c.requires c.loop-i.i (ordered u) within).size in
    let p = err_from_is_err_and c.from_residual-in_err-layout.result c.from_residual-in_err-layout.ensures.1 in
    let fits = all-taken-more FitsOrdered us c.loop-i.i (ordered u) within c.loop-i.invariant.fits (rw (one) c.in_err-layout.ensures.fits) in
    err-exit (λ e. (texts : List (List ℕ)) → IsWideRefusal texts us e) _ _ p
    (λ texts. refused-widely texts us _ _ (c.in_err-layout.ensures.large Little) (λ large. layout-widest texts us c.loop-i.i c.requires fits (omega (arith, large, laying-past Little us c.loop-i.i c.loop-i.start _ _ (ordered u) (ordered u) (c.loop-i.invariant.laying Little) within one same refl))))

pub returns-in_err-start-clause-large : goal.returns-in_err-start-clause-large
returns-in_err-start-clause-large c =
    let us = map ordered c.args.units.now in
    let u = c.index-units-i.result in
    let within : c.loop-i.i < length us = omega (arith, c.loop-i-test.true, length-map c.args.units.now ordered) in
    let one = unit-seen c.args.units.now c.loop-i.i u c.loop-i-test.true c.index-units-i.is in
    let same : u.address_size ≡ size_of us = ap (λ (v : OrderedUnit). v.address_size) (sym one) ∙ (c.requires c.loop-i.i (ordered u) within).size in
    let p = err_from_is_err_and c.from_residual-in_err-start.result c.from_residual-in_err-start.ensures.1 in
    err-exit (λ e. (order : Endian) (texts : List (List ℕ)) → IsRefusal order texts us e) _ _ p
    (λ order texts. refused-long order texts us _ _ (too-long _ _ _ c.in_err-start.ensures) (λ large. layout-large order texts us c.loop-i.i (omega (arith, large, laying-past order us c.loop-i.i c.loop-i.start _ _ (ordered u) (ordered u) (c.loop-i.invariant.laying order) within one same (c.in_ok-layout.ensures.length order)))))

pub returns-in_err-start-clause-widest : goal.returns-in_err-start-clause-widest
returns-in_err-start-clause-widest c =
    let us = map ordered c.args.units.now in
    let u = c.index-units-i.result in
    let within : c.loop-i.i < length us = omega (arith, c.loop-i-test.true, length-map c.args.units.now ordered) in
    let one = unit-seen c.args.units.now c.loop-i.i u c.loop-i-test.true c.index-units-i.is in
    let same : u.address_size ≡ size_of us = ap (λ (v : OrderedUnit). v.address_size) (sym one) ∙ (c.requires c.loop-i.i (ordered u) within).size in
    let p = err_from_is_err_and c.from_residual-in_err-start.result c.from_residual-in_err-start.ensures.1 in
    let fits = all-taken-more FitsOrdered us c.loop-i.i (ordered u) within c.loop-i.invariant.fits (rw (one) c.in_ok-layout.ensures.fits) in
    err-exit (λ e. (texts : List (List ℕ)) → IsWideRefusal texts us e) _ _ p
    (λ texts. refused-widely texts us _ _ (too-long _ _ _ c.in_err-start.ensures) (λ large. layout-widest texts us c.loop-i.i c.requires fits (omega (arith, large, laying-past Little us c.loop-i.i c.loop-i.start _ _ (ordered u) (ordered u) (c.loop-i.invariant.laying Little) within one same (c.in_ok-layout.ensures.length Little)))))
