use Rattle.std.proofs.Common.{◌+◌, map, string_bytes, refl, sym, ap, ◌∙◌, arith}
use Rattle.std.proofs.lemmas.Result.{err_from_is_err_and}
use Rattle.dwc_cli.specs.Edge.{IsReadFile}
use Rattle.dwc_cli.specs.Failures.{failure_status}
use Rattle.dwc_cli.specs.Answers.{reading_statuses, status_of}
use Rattle.dwc_cli.proofs.Statuses.{IsOneOf-from}
use Rattle.dwc_cli.proofs.CallLaws.{openings-all, ReadsFewer-cut, ReadsFront-none, ReadsFront-status, ReadsFront-things, ReadsPaths-more}
use Rattle.dwc_cli.proofs.NamedFiles.{read_to_end}
use Rattle.dwc_cli.proofs.reading.read_files.Goals as goal

pub returns-in_err-push-clause-status : goal.returns-in_err-push-clause-status
returns-in_err-push-clause-status g c =
    let p = err_from_is_err_and c.from_residual-in_err-push.result c.from_residual-in_err-push.ensures.1 in
    rw (p.1, p.2) (IsOneOf-from reading_statuses 9 refl)

pub returns-clause-files_read : goal.returns-clause-files_read
returns-clause-files_read g c =
    read_to_end (IsReadFile (g.S.Source.files c.args.source.now)) string_bytes c.args.paths.now c.loop-path.path-index (map (λ m. m.items) c.loop-path.files.items) c.loop-path-test.false c.loop-path.invariant.files_read

pub returns-in_err-files-clause-asked : goal.returns-in_err-files-clause-asked
returns-in_err-files-clause-asked g c =
    let p = err_from_is_err_and c.from_residual.result c.from_residual.ensures.1 in
    rw (p.1, p.2) (ReadsFront-none 9 (map string_bytes c.args.paths.now) (g.S.Source.faults c.args.source.now) (g.S.Source.asked c.args.source.now) (λ e. omega (arith, e)))

pub returns-in_err-bytes-clause-asked : goal.returns-in_err-bytes-clause-asked
returns-in_err-bytes-clause-asked g c =
    let p = err_from_is_err_and c.from_residual-in_err-bytes.result c.from_residual-in_err-bytes.ensures.1 in
    let l = c.loop-path in
    let more = ReadsPaths-more string_bytes c.args.paths.now l.path-index c.path-item.result _ _ _ _ _ _ _ c.loop-path-test.true c.path-item.is l.invariant.asked (rw c.as_str.ensures.value at c.in_err-bytes.ensures.asked) in
    rw (p.1, p.2) (ReadsFront-things string_bytes c.args.paths.now (l.path-index + 1) _ _ _ _ _ more)

pub returns-in_err-push-clause-asked : goal.returns-in_err-push-clause-asked
returns-in_err-push-clause-asked g c =
    let p = err_from_is_err_and c.from_residual-in_err-push.result c.from_residual-in_err-push.ensures.1 in
    let l = c.loop-path in
    let more = ReadsPaths-more string_bytes c.args.paths.now l.path-index c.path-item.result 0 _ _ _ _ _ _ c.loop-path-test.true c.path-item.is l.invariant.asked (rw c.as_str.ensures.value at c.in_ok-bytes.ensures.asked) in
    rw (p.1, p.2) (ReadsFront-status 0 9 (map string_bytes c.args.paths.now) _ _ _ _ (λ e. omega (arith, e)) (λ e. omega (arith, e)) (ReadsFront-things string_bytes c.args.paths.now (l.path-index + 1) 0 _ _ _ _ more))

pub returns-clause-asked : goal.returns-clause-asked
returns-clause-asked g c =
    ReadsFront-things string_bytes c.args.paths.now c.loop-path.path-index 0 _ _ _ _ c.loop-path.invariant.asked

pub returns-in_err-bytes-clause-cut : goal.returns-in_err-bytes-clause-cut
returns-in_err-bytes-clause-cut g c = λ e.
    let p = err_from_is_err_and c.from_residual-in_err-bytes.result c.from_residual-in_err-bytes.ensures.1 in
    let l = c.loop-path in
    let four = sym (ap failure_status p.2) ∙ sym (ap status_of p.1) ∙ e in
    ReadsFewer-cut (λ m. m.items) string_bytes l.files.items c.args.paths.now l.path-index (g.S.Source.asked c.args.source.now) (g.S.Source.asked l.source) (g.S.Source.asked c.read_file.new.source) l.invariant.whole (c.in_err-bytes.ensures.cut four) l.invariant.counted c.loop-path-test.true

pub returns-clause-all_opened : goal.returns-clause-all_opened
returns-clause-all_opened g c = openings-all string_bytes c.args.paths.now c.loop-path.path-index (g.S.Source.asked c.args.source.now) (g.S.Source.asked c.loop-path.source) c.loop-path-test.false c.loop-path.invariant.asked.opened
