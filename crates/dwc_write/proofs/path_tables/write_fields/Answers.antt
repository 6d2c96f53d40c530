use Rattle.dwc_write.proofs.PathTableLaws.{fields-written}
use Rattle.dwc_write.proofs.path_tables.write_fields.Goals as goal

pub returns : goal.returns
returns c =
    fields-written c.args.names.now.texts c.args.own.now c.args.directories.now c.args.files.now c.args.line.now c.put_bytes.new.self c.write_directories.new.line c.write_files.new.line c.write_files.result
    c.in_ok-put_bytes.ensures c.in_ok-write_directories.ensures c.write_files.ensures
