use Rattle.std.proofs.Common.{◌∙◌, sym, ap, arith}
use Rattle.std.specs.Prelude.{option_map}
use Rattle.dwc_addr.specs.Transforms.{function_view}
use Rattle.dwc_addr.specs.RunViews.{run_view}
use Rattle.dwc_addr.proofs.TranslateLaws.{offset-past, offset-found, offset-none}
use Rattle.dwc_addr.proofs.translate.native_offset.Goals as goal

pub returns-then-function-addr-clause-offset : goal.returns-then-function-addr-clause-offset
returns-then-function-addr-clause-offset c = offset-past (function_view c.args.function.now) c.args.addr (omega (arith, c.if-function-addr.true))

pub returns-in-Some-clause-offset : goal.returns-in-Some-clause-offset
returns-in-Some-clause-offset c =
    let m = c.args.function.now in
    let found = sym (ap (option_map (run_view m)) c.in-Some.is) ∙ c.run_with.ensures.run in
    c.start_in.ensures.start ∙ offset-found (function_view m) c.args.addr (run_view m c.in-Some.run') (omega (arith, c.if-function-addr.false)) found

pub returns-in-None-clause-offset : goal.returns-in-None-clause-offset
returns-in-None-clause-offset c =
    let m = c.args.function.now in
    let found = sym (ap (option_map (run_view m)) c.in-None.is) ∙ c.run_with.ensures.run in
    offset-none (function_view m) c.args.addr (omega (arith, c.if-function-addr.false)) found
