use Rattle.std.proofs.Common.{refl}
use Rattle.std.proofs.lemmas.Bool.{false≢true}
use Rattle.dwc_cli.proofs.MemoryFiles.{left_of-found, find-passed}
use Rattle.dwc_cli.proofs.memory_files.file_at.Goals as goal

pub returns-then-has_path-clause-left : goal.returns-then-has_path-clause-left
returns-then-has_path-clause-left c =
    left_of-found c.args.files.now c.args.path.now c.loop-file.file c.index-files-file.result c.loop-file-test.true c.index-files-file.is (c.if-has_path.ensures.0 refl) c.loop-file.invariant

pub loop-file-preserved : goal.loop-file-preserved
loop-file-preserved c =
    find-passed c.args.files.now c.args.path.now c.loop-file.file c.index-files-file.result c.loop-file-test.true c.index-files-file.is (λ same. false≢true (c.if-has_path.ensures.1 same)) c.loop-file.invariant
