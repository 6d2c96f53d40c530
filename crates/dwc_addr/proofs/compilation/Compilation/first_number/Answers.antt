use Rattle.std.proofs.Common.{arith, ◌≡◌, ◌+◌, ◌<◌, ◌∙◌, sym, ap, subst, length, get_or}
use Rattle.dwc_addr.specs.Numbers.{first_number}
use Rattle.dwc_addr.specs.Compilations.{lists, functions_at}
use Rattle.dwc_addr.proofs.CompilationLaws.{module-inside, length-numbers, number-at, few-behind}
use Rattle.dwc_addr.proofs.compilation.Compilation.first_number.Goals as goal

pub index-requires : goal.index-requires
index-requires c =
    let modules = lists c.self.inside.functions.now in
    let inside = module-inside c.args.module.0 _ modules _ c.self.invariant.0 (subst (λ v. c.args.module.0 < length v.translations) (sym c.self.view_is) c.requires) in
    let same = ap length c.self.invariant.2 ∙ length-numbers 0 modules in
    omega (arith, c.self.inside.first_numbers.ok, same, inside)

pub returns-clause-number : goal.returns-clause-number
returns-clause-number c =
    let modules = lists c.self.inside.functions.now in
    let x = c.index.result.now in
    let inside = module-inside c.args.module.0 _ modules _ c.self.invariant.0 (subst (λ v. c.args.module.0 < length v.translations) (sym c.self.view_is) c.requires) in
    subst (λ v. x ≡ first_number v.functions c.args.module.0) c.self.view_is
    (number-at modules c.args.module.0 x inside (subst (λ ns. x ≡ get_or ns c.args.module.0 x) c.self.invariant.2 c.index.ensures))

pub returns-clause-few : goal.returns-clause-few
returns-clause-few c =
    let modules = lists c.self.inside.functions.now in
    let x = c.index.result.now in
    let inside = module-inside c.args.module.0 _ modules _ c.self.invariant.0 (subst (λ v. c.args.module.0 < length v.translations) (sym c.self.view_is) c.requires) in
    subst (λ v. x + length (functions_at v c.args.module.0) < 4294967296) c.self.view_is
    (few-behind modules c.args.module.0 x inside (number-at modules c.args.module.0 x inside (subst (λ ns. x ≡ get_or ns c.args.module.0 x) c.self.invariant.2 c.index.ensures)) (c.self.invariant.0).few_functions)
