use Rattle.dwc_write.proofs.PathTableLaws.{sized-clear}
use Rattle.dwc_write.proofs.path_tables.write_sized_fields.Goals as goal

pub finish_length-requires-clause-clear : goal.finish_length-requires-clause-clear
finish_length-requires-clause-clear c =
    rw (c.place-place.ensures.place)
    (sized-clear c.args.names.now.texts c.args.own.now c.args.directories.now c.args.files.now c.args.line.now c.put_bytes.new.self c.write_fields.new.line c.in_ok-put_bytes.ensures c.in_ok-write_fields.ensures c.place-place.ensures.below)
