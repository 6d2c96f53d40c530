use Rattle.std.proofs.Common.{◌<◌, sym, subst, length}
use Rattle.dwc_addr.specs.Compilations.{lists}
use Rattle.dwc_addr.proofs.CompilationLaws.{module-inside, few-at}
use Rattle.dwc_addr.proofs.compilation.Compilation.functions_of.Goals as goal

pub returns-clause-few : goal.returns-clause-few
returns-clause-few c =
    let inside = module-inside c.args.module.0 _ (lists c.self.inside.functions.now) _ c.self.invariant.0 (subst (λ v. c.args.module.0 < length v.translations) (sym c.self.view_is) c.requires) in
    subst (λ xs. length xs < 4294967296) (sym c.deref.ensures.value)
    (subst (λ v. length v.items < 4294967296) c.index-self-module.is (few-at c.self.inside.functions.now c.args.module.0 c.index-self-module.result inside c.index-self-module.is (c.self.invariant.0).few_functions))
