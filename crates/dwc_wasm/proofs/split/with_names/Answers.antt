use Rattle.std.proofs.Common.{◌∙◌}
use Rattle.dwc_wasm.proofs.HeldSections.{functions-named, locals-named, module-named, types-told}
use Rattle.dwc_wasm.proofs.split.with_names.Goals as goal

pub returns-clause-told : goal.returns-clause-told
returns-clause-told c = λ all h.
    let n = c.in_ok-names.ensures in
    let bytes = c.unread.ensures ∙ h.names in
    record {
      module_name = n.module_name ∙ module-named all _ bytes;
      func_names = n.functions ∙ functions-named all _ bytes;
      local_names = n.locals ∙ locals-named all _ bytes;
      funcs = c.in_ok-funcs.ensures ∙ types-told c.args.sections all h;
    }
