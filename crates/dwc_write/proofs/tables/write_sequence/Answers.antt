use Rattle.std.proofs.Common.{ap, sym, ◌∙◌, ◌+◌, append-nil, [], ◌∷◌, ◌++◌, length}
use Rattle.dwc_section.specs.SpelledAddresses.{address_bytes}
use Rattle.std.proofs.lemmas.Result.{err_from_is_err_and}
use Rattle.dwc_unit.specs.LineViews.{sequence_view}
use Rattle.dwc_section.specs.Writers.{address_relocations}
use Rattle.dwc_write.proofs.SequenceLaws.{sequence-bytes, sequence-relocations, size-small, sequence-front}
use Rattle.dwc_section.proofs.WritesLaws.{first-refused, writes-then}
use Rattle.dwc_write.proofs.tables.write_sequence.Goals as goal

pub returns-in_err-write_start : goal.returns-in_err-write_start
returns-in_err-write_start c =
    let p = err_from_is_err_and c.from_residual.result c.from_residual.ensures.1 in
    first-refused _ _ c.args.line.now _ _ _ _ p c.in_err-write_start.ensures
    (sequence-front c.args.line.now.order c.args.size (sequence_view c.args.sequence.now) (size-small c.args.size c.requires.size))

pub returns : goal.returns
returns c =
    let small = size-small c.args.size c.requires.size in
    let q = sequence_view c.args.sequence.now in
    let place = length c.args.line.now.body in
    writes-then c.args.line.now _ _ _ _ _ (address_relocations (place + 3) c.args.size c.args.sequence.now.start_address) [] _ _ c.in_ok-write_start.ensures c.put_bytes.ensures
    (sequence-bytes c.args.line.now.order c.args.size q small ∙ ap (λ bytes. ((0 ∷ (c.args.size + 1) ∷ 2 ∷ []) ++ address_bytes c.args.line.now.order c.args.size c.args.sequence.now.start_address) ++ bytes) (sym c.code.ensures))
    (sequence-relocations c.args.line.now.order c.args.size place q small ∙ sym (append-nil _))
