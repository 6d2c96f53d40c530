use Rattle.std.proofs.Common.{◌≡◌, sym, subst, ◌∙◌, Some}
use Rattle.dwc_read.specs.KnownTables.{AreKnown, AreKnownIf}
use Rattle.dwc_read.proofs.unit_table.shared_table.Goals.{in-Some, in-None+in_ok-known-in-None}
use Rattle.dwc_read.proofs.unit_table.shared_table.Goals as goal

pub next_table-table-requires : goal.next_table-table-requires
next_table-table-requires c =
    let s = c.args.sections.now in
    elim c.match-take.branch [
      | in-Some w ↦
          let there : c.args.tables.now ≡ Some w.in-Some.known = sym c.take.ensures.value ∙ w.in-Some.is in
          let known : AreKnownIf s (Some w.in-Some.known) = subst (AreKnownIf s) there c.requires in
          subst (AreKnown s) (sym w.known-is) known
      | in-None+in_ok-known-in-None w ↦ subst (AreKnown s) (sym w.known-is) (w.in_ok-known-in-None.ensures s)
    ]
