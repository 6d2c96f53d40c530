use Rattle.std.proofs.Common.{◌≤◌, length, sym, ◌∙◌}
use Rattle.dwc_base.specs.declared.records.Endian.TheVariants.{Little}
use Rattle.dwc_base.specs.Reading.{Unread}
use Rattle.dwc_wasm.proofs.FileStarts.{sections_start-behind}
use Rattle.dwc_base.proofs.ReadSteps.{bytes_at-whole}
use Rattle.dwc_wasm.proofs.split.behind_preamble.Goals as goal

pub returns-in_err-take : goal.returns-in_err-take
returns-in_err-take c =
    let start : Unread = record { order = Little; place = 0; left = c.args.bytes.now } in
    let long : 8 ≤ length c.args.bytes.now = c.starts_with.ensures.bound c.if-not-starts_with.false in
    let whole = bytes_at-whole 8 start long in
    let short = rw c.new-cursor.ensures at c.in_err-take.ensures.read.0 in
    absurd (cc (whole, short))

pub returns : goal.returns
returns c =
    let there = sym c.starts_with.ensures.value ∙ c.if-not-starts_with.false in
    let long : 8 ≤ length c.args.bytes.now = c.starts_with.ensures.bound c.if-not-starts_with.false in
    sections_start-behind c.args.bytes.now _ c.take.new.self there long (rw c.new-cursor.ensures at c.in_ok-take.ensures.read)
