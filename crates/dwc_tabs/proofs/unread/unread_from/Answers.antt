use Rattle.std.proofs.Common.{ap, sym, ◌∙◌}
use Rattle.dwc_base.specs.Reading.{bytes_at}
use Rattle.dwc_tabs.proofs.TableLaws.{passed-start, passed-short}
use Rattle.dwc_tabs.proofs.unread.unread_from.Goals as goal

pub returns-in-Ok : goal.returns-in-Ok
returns-in-Ok c = passed-start c.args.order c.args.bytes.now c.args.offset _ _ (ap (bytes_at c.args.offset) (sym c.new-cursor.ensures) ∙ c.in-Ok.ensures.read)

pub returns-in-Err : goal.returns-in-Err
returns-in-Err c = passed-short c.args.order c.args.bytes.now c.args.offset _ (ap (bytes_at c.args.offset) (sym c.new-cursor.ensures) ∙ c.in-Err.ensures.read.0)
