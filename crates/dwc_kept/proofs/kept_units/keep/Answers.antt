use Rattle.std.proofs.Common.{◌∙◌, ap, subst, length, List, Bool}
use Rattle.dwc_rules.specs.EntryRules.{named_faults}
use Rattle.dwc_kept.specs.EntryGraphs.{AreKeptOffsets}
use Rattle.dwc_kept.specs.ReadGraphs.{units_of}
use Rattle.dwc_kept.proofs.ReadLaws.{headers-no-fault}
use Rattle.dwc_kept.proofs.RequiredLaws.{as-many-required, module-kept, module-small, least-offsets}
use Rattle.dwc_kept.proofs.kept_units.keep.Goals as goal

pub new-requires : goal.new-requires
new-requires c =
    let s = c.args.units.sections in
    ap length c.deref.ensures.value ∙ as-many-required c.args.transform.now s (units_of s c.args.units.headers) c.in_ok-read.read.graph c.in_ok-read.read.required.items c.in_ok-read.ensures.1.0

pub returns : goal.returns
returns c =
    let fs = c.args.transform.now in
    let s = c.args.units.sections in
    let us = units_of s c.args.units.headers in
    let read = c.in_ok-read.read in
    let graph = c.in_ok-read.ensures.1.0 in
    let kept = subst (λ (required : List Bool). AreKeptOffsets read.graph required c.in_ok-kept.kept) c.deref.ensures.value c.in_ok-kept.ensures in
    let same = module-kept fs s us read.graph read.required.items graph c.in_ok-kept.kept kept in (
      c.in_ok-read.ensures.0,
      record {
        whole = headers-no-fault (named_faults s) s c.args.units.headers c.in_ok-read.ensures.0;
        kept = same;
        least = least-offsets fs s us read.graph read.required.items graph c.in_ok-kept.kept same;
        units = c.in_ok-read.ensures.1.1;
        small = module-small fs s us read.graph read.required.items graph c.in_ok-kept.kept kept;
      },
    )
