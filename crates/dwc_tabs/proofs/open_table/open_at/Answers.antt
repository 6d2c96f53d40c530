use Rattle.std.proofs.Common.{◌≡◌, ◌<◌, ◌^◌, map, length, refl, sym, ◌∙◌, true, arith}
use Rattle.std.specs.Prelude.{◌&&◌}
use Rattle.std.specs.List.{list_all}
use Rattle.std.proofs.lemmas.List.{length-map}
use Rattle.dwc_base.specs.Cursors.{slice_bytes}
use Rattle.dwc_dwarf.specs.LineFiles.{is_named}
use Rattle.dwc_tabs.specs.Headers.{file_view, source_view}
use Rattle.dwc_tabs.specs.Tables.{is_named_within}
use Rattle.dwc_tabs.proofs.OpenedLaws.{opened-at}
use Rattle.dwc_tabs.proofs.open_table.open_at.Goals as goal

pub returns : goal.returns
returns c =
    let header = c.in_ok-header.header in
    let files = map file_view header.files.items in
    let directories = map slice_bytes header.directories.items in
    let source = source_view c.args.source in
    let short : length header.program.left < 2 ^ 64 = omega (arith, c.left.ensures, c.know_size.ensures) in
    let holds = sym c.are_all_named.ensures ∙ c.if-not-are_all_named.false in
    let named : (list_all (is_named_within (length header.directories.items)) files && list_all is_named directories) ≡ true = rw (c.deref.ensures.value, c.deref-2.ensures.value) at holds in
    rw (c.sequence_start.ensures, c.fork.ensures)
    (opened-at header.parameters directories files c.args.source.relocations header.program source c.args.address_size c.args.cursor refl c.in_ok-header.ensures short (length header.directories.items) (sym (length-map header.directories.items slice_bytes)) named)
