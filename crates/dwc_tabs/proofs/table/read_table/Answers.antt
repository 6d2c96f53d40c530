use Rattle.std.proofs.Common.{◌≡◌, map, length, true, false, ap, ◌∙◌, subst, Ok, Err, arith}
use Rattle.std.proofs.lemmas.Bool.{not-true, not-false}
use Rattle.std.proofs.lemmas.Grind.{common_steps}
use Rattle.std.proofs.lemmas.Result.{err_from_is_err_and}
use Rattle.dwc_base.specs.Cursors.{slice_bytes}
use Rattle.dwc_tabs.specs.Headers.{file_view, header_of, source_view}
use Rattle.dwc_tabs.specs.Programs.{Checked, Checks}
use Rattle.dwc_tabs.specs.Tables.{table_of_parts}
use Rattle.dwc_tabs.proofs.TableLaws.{table-behind, table-no_header, table-no_program, table-malformed, table-runs, table-whole, table-bounds}
use Rattle.dwc_tabs.proofs.table.read_table.Goals as goal

pub returns-in_err-header : goal.returns-in_err-header
returns-in_err-header c =
    let p = err_from_is_err_and c.from_residual.result c.from_residual.ensures.1 in
    rw (p.1, p.2) (table-no_header (source_view c.args.source) c.args.address_size c.args.cursor c.in_err-header.field-0.0 c.in_err-header.ensures)

pub returns-in_err-check : goal.returns-in_err-check
returns-in_err-check c =
    let p = err_from_is_err_and c.from_residual-in_err-check.result c.from_residual-in_err-check.ensures.1 in
    let header = c.in_ok-header.header in
    let fails = subst (λ v. Checks header.parameters c.args.source.relocations v (map file_view header.files.items) (map file_view c.check_program.new.files.items) (Err c.in_err-check.field-0.0)) c.fork.ensures c.in_err-check.ensures in
    rw (p.1, p.2)
    (table-no_program (source_view c.args.source) c.args.address_size c.args.cursor header.parameters (map slice_bytes header.directories.items) (map file_view header.files.items) (map file_view c.check_program.new.files.items) header.program c.in_err-check.field-0.0 c.in_ok-header.ensures fails)

pub returns-then-not-check : goal.returns-then-not-check
returns-then-not-check c =
    let header = c.in_ok-header.header in
    let checked : Checked header.parameters c.args.source.relocations header.program (map file_view header.files.items) (map file_view c.check_program.new.files.items) c.in_ok-check.check = rw c.fork.ensures at c.in_ok-check.ensures in
    let out : c.in_ok-check.check.in_range ≡ false = not-true _ c.if-not-check.true in
    table-behind (source_view c.args.source) c.args.address_size c.args.cursor (header_of header.parameters (map slice_bytes header.directories.items) (map file_view header.files.items) header.program) c.in_ok-header.ensures
    ∙ table-malformed header.parameters (map slice_bytes header.directories.items) (map file_view header.files.items) (map file_view c.check_program.new.files.items) c.args.source.relocations header.program c.in_ok-check.check checked out

pub invariant_of-table : goal.invariant_of-table
invariant_of-table c =
    let header = c.in_ok-header.header in
    let checked : Checked header.parameters c.args.source.relocations header.program (map file_view header.files.items) (map file_view c.check_program.new.files.items) c.in_ok-check.check = rw c.fork.ensures at c.in_ok-check.ensures in
    let all : c.in_ok-check.check.in_range ≡ true = not-false _ c.if-not-check.false in
    table-runs header.parameters (map slice_bytes header.directories.items) (map file_view header.files.items) (map file_view c.check_program.new.files.items) c.args.source.relocations header.program c.in_ok-check.check checked all

pub returns : goal.returns
returns c =
    let header = c.in_ok-header.header in
    let checked : Checked header.parameters c.args.source.relocations header.program (map file_view header.files.items) (map file_view c.check_program.new.files.items) c.in_ok-check.check = rw c.fork.ensures at c.in_ok-check.ensures in
    let all : c.in_ok-check.check.in_range ≡ true = not-false _ c.if-not-check.false in
    let whole = table-whole header.parameters (map slice_bytes header.directories.items) (map file_view header.files.items) (map file_view c.check_program.new.files.items) c.args.source.relocations header.program c.in_ok-check.check checked all in
    let count : length (map file_view header.files.items) ≡ c.len-header_files.result = grind (arith, common_steps) in (
      table-behind (source_view c.args.source) c.args.address_size c.args.cursor (header_of header.parameters (map slice_bytes header.directories.items) (map file_view header.files.items) header.program) c.in_ok-header.ensures
          ∙ whole
          ∙ ap (λ n. Ok (table_of_parts header.parameters (map slice_bytes header.directories.items) n (map file_view c.check_program.new.files.items) c.args.source.relocations header.program)) count,
      table-bounds header.parameters (map slice_bytes header.directories.items) (map file_view header.files.items) (map file_view c.check_program.new.files.items) c.args.source.relocations header.program c.in_ok-check.check checked,
    )
