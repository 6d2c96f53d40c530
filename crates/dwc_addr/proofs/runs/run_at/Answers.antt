use Rattle.std.proofs.Common.{refl}
use Rattle.dwc_addr.proofs.RunLaws.{runs-at, run-places}
use Rattle.dwc_addr.proofs.runs.run_at.Goals as goal

pub returns-clause-run : goal.returns-clause-run
returns-clause-run c = runs-at c.args.function.now c.args.number c.run_begin-first.result c.run_end-behind.result c.requires c.run_begin-first.ensures.begin c.run_end-behind.ensures.end

pub returns-clause-places : goal.returns-clause-places
returns-clause-places c = run-places c.args.function.now c.args.number c.run_begin-first.result c.run_end-behind.result _ c.requires c.run_begin-first.ensures.begin c.run_end-behind.ensures.end refl refl
