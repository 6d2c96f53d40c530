use Rattle.std.proofs.Common.{◌≡◌, ◌∙◌, ◌<◌, arith, length, rules}
use Rattle.dwc_write.specs.PathTables.{place_of_path}
use Rattle.dwc_write.proofs.PathLaws.{path-found, path-lacking}
use Rattle.dwc_write.proofs.ReadPaths.{path-bound}
use Rattle.dwc_write.proofs.line_names.offset_of_name.Goals as goal

pub index-requires : goal.index-requires
index-requires c =
    let within : c.in-Some.place < length c.args.names.now.offsets.items = (path-found c.args.names.now c.args.name.now c.in-Some.place c.requires c.in-Some.ensures).0 in
    search rules

pub returns-in-Some-clause-place : goal.returns-in-Some-clause-place
returns-in-Some-clause-place c = c.index.ensures ∙ (path-found c.args.names.now c.args.name.now c.in-Some.place c.requires c.in-Some.ensures).1 c.index.result.now

pub returns-in-Some-clause-short : goal.returns-in-Some-clause-short
returns-in-Some-clause-short c =
    let is : c.index.result.now ≡ place_of_path 0 c.args.names.now.texts c.args.name.now = c.index.ensures ∙ (path-found c.args.names.now c.args.name.now c.in-Some.place c.requires c.in-Some.ensures).1 c.index.result.now in
    let long = c.requires.long in
    let short = c.requires.short in
    omega (arith, is, path-bound c.args.names.now.texts 0 c.args.name.now, long, short)

pub returns-in-None-clause-place : goal.returns-in-None-clause-place
returns-in-None-clause-place c = path-lacking c.args.names.now c.args.name.now c.requires c.in-None.ensures
