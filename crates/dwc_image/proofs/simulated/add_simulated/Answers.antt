use Rattle.std.proofs.Common.{map, ap, ◌∙◌, pos, false}
use Rattle.dwc_base.specs.declared.records.Address.TheVariants.{Symbol}
use Rattle.dwc_unit.specs.GivenLines.{with_row}
use Rattle.dwc_addr.specs.Runs.{recorded_view}
use Rattle.dwc_image.specs.SimulatedSequences.{simulated_line, lines_of_recorded, with_rows}
use Rattle.dwc_image.proofs.SimulatedLaws.{can-append_sources, can-end_simulated, begun_at, ended-simulated, sources-simulated, lines-short}
use Rattle.dwc_image.proofs.simulated.add_simulated.Goals as goal

pub add_sources-requires-clause-rows : goal.add_sources-requires-clause-rows
add_sources-requires-clause-rows c =
    let m = c.args.function.now in
    rw (c.in_ok-generate_row.ensures.ok, c.line_at.ensures, c.in_ok-begin_sequence.ensures.ok)
    (can-append_sources c.args.program.now _ c.args.code_offset m.len (map recorded_view m.addresses) (sources-simulated c.args.code_offset m c.requires.function) m.short c.requires.some)

pub add_sources-requires-clause-lines : goal.add_sources-requires-clause-lines
add_sources-requires-clause-lines c =
    let m = c.args.function.now in
    lines-short c.args.code_offset m.addresses (sources-simulated c.args.code_offset m c.requires.function).lines

pub end_sequence-requires : goal.end_sequence-requires
end_sequence-requires c =
    let m = c.args.function.now in
    rw (c.in_ok-add_sources.ensures.added, c.in_ok-generate_row.ensures.ok, c.line_at.ensures, c.in_ok-begin_sequence.ensures.ok)
    (can-end_simulated c.args.program.now _ c.args.code_offset m.len (map recorded_view m.addresses) (sources-simulated c.args.code_offset m c.requires.function) m.short)

pub returns-clause-added : goal.returns-clause-added
returns-clause-added c =
    let m = c.args.function.now in
    let added = c.in_ok-add_sources.ensures.added in
    let rows = lines_of_recorded c.args.code_offset (map recorded_view m.addresses) in
    let begun = c.in_ok-generate_row.ensures.ok ∙ ap (λ r. with_row r c.begin_sequence.new.self) c.line_at.ensures ∙ ap (with_row (simulated_line 0 0 false)) c.in_ok-begin_sequence.ensures.ok in
    let start = ap (λ symbol. begun_at (Symbol symbol (pos 0)) c.args.program.now) c.unwrap_or.ensures in
    rw (← ended-simulated c.args.code_offset m c.args.program.now c.add_sources.new.program (added ∙ ap (with_rows rows) (begun ∙ start))) c.end_sequence.ensures.ok
