use Rattle.dwc_write.proofs.PathTableLaws.{header-written}
use Rattle.dwc_write.proofs.path_tables.write_header.Goals as goal

pub returns : goal.returns
returns c =
    header-written c.args.names.now.texts c.args.own.now c.args.directories.now c.args.files.now c.args.size c.args.line.now c.put_bytes.new.self c.put_number.new.self c.put_bytes-2.new.self c.write_sized_fields.new.line c.write_sized_fields.result
    c.in_ok-put_bytes.ensures c.in_ok-put_number.ensures c.in_ok-put_bytes-2.ensures c.write_sized_fields.ensures
