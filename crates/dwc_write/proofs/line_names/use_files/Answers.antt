use Rattle.std.proofs.Common.{ℕ, ◌∙◌, ◌+◌, [], ◌∷◌, List, ap, sym, arith, drop, map}
use Rattle.std.proofs.lemmas.List.{length-map}
use Rattle.std.proofs.lemmas.Result.{err_from_is_err_and}
use Rattle.dwc_dwarf.specs.LineHeaders.{LineFile}
use Rattle.dwc_write.proofs.PathLaws.{naming-start, name-there, naming-more, naming-refused, naming-done, paths-exit}
use Rattle.dwc_write.proofs.line_names.use_files.Goals as goal

abbrev no_file : LineFile
no_file = record { directory = 0; name = [] }

abbrev named : LineFile → List ℕ
named f = f.name

pub loop-i-init : goal.loop-i-init
loop-i-init c = naming-start (map named c.args.files.now) c.args.names.now c.requires

pub use_name-requires : goal.use_name-requires
use_name-requires c = c.loop-i.invariant.laid

pub loop-i-preserved : goal.loop-i-preserved
loop-i-preserved c =
    let names = map named c.args.files.now in
    let there = name-there named c.args.files.now c.loop-i.i no_file (omega (arith, c.loop-i-test.true, c.len-i-end.ensures)) in
    naming-more names c.loop-i.i c.name.result.now c.args.names.now c.loop-i.names c.use_name.new.names (there ∙ ap (λ n. n ∷ drop (c.loop-i.i + 1) (map named c.args.files.now)) (sym (c.name.ensures no_file))) c.loop-i.invariant c.in_ok-use_name.ensures

pub returns-in_err-use_name : goal.returns-in_err-use_name
returns-in_err-use_name c =
    let p = err_from_is_err_and c.from_residual.result c.from_residual.ensures.1 in
    let names = map named c.args.files.now in
    let there = name-there named c.args.files.now c.loop-i.i no_file (omega (arith, c.loop-i-test.true, c.len-i-end.ensures)) in
    paths-exit _ _ c.args.names.now _ _ p
    (naming-refused names c.loop-i.i c.name.result.now c.args.names.now c.loop-i.names _ (there ∙ ap (λ n. n ∷ drop (c.loop-i.i + 1) (map named c.args.files.now)) (sym (c.name.ensures no_file))) c.loop-i.invariant c.in_err-use_name.ensures)

pub returns : goal.returns
returns c = naming-done (map named c.args.files.now) c.loop-i.i c.args.names.now c.loop-i.names (omega (arith, c.loop-i-test.false, c.len-i-end.ensures, length-map c.args.files.now named)) c.loop-i.invariant
