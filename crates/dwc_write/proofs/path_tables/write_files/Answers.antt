use Rattle.std.proofs.Common.{◌<◌, arith, length}
use Rattle.std.proofs.lemmas.Result.{err_from_is_err_and}
use Rattle.dwc_write.proofs.PathWrites.{none-written, no_file, is-file, first-file-refused, some-written}
use Rattle.dwc_write.proofs.path_tables.write_files.Goals as goal

pub returns-then-len-eq0 : goal.returns-then-len-eq0
returns-then-len-eq0 c = none-written c.args.names.now.texts c.args.line.now c.put_bytes.new.self _ _ c.args.files.now (omega (arith, c.if-len-eq0.true, c.len.ensures)) c.in_ok-put_bytes.ensures c.put_byte.ensures

pub returns-in_err-write_file : goal.returns-in_err-write_file
returns-in_err-write_file c =
    let some : 0 < length c.args.files.now = omega (arith, c.if-len-eq0.false, c.len.ensures) in
    let p = err_from_is_err_and c.from_residual-in_err-write_file.result c.from_residual-in_err-write_file.ensures.1 in
    let file = is-file c.args.files.now 0 c.name.result.now c.directory.result (c.name.ensures no_file) (c.directory.ensures no_file) in
    let count = rw (c.len-2.ensures) at c.in_ok-write_count.ensures in
    first-file-refused c.args.names.now.texts c.args.line.now c.put_bytes.new.self c.write_count.new.line c.args.files.now some c.in_ok-put_bytes.ensures count _ _ _ _ _ file p c.in_err-write_file.ensures

pub returns : goal.returns
returns c =
    let some : 0 < length c.args.files.now = omega (arith, c.if-len-eq0.false, c.len.ensures) in
    let file = is-file c.args.files.now 0 c.name.result.now c.directory.result (c.name.ensures no_file) (c.directory.ensures no_file) in
    let count = rw (c.len-2.ensures) at c.in_ok-write_count.ensures in
    some-written c.args.names.now.texts c.args.line.now c.put_bytes.new.self c.write_count.new.line c.args.files.now some c.in_ok-put_bytes.ensures count c.write_file.new.line _ _ _ file c.in_ok-write_file.ensures c.put_files.ensures
