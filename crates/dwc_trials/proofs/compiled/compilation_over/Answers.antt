use Rattle.std.proofs.Common.{◌≡◌, ◌∙◌, ap, sym, arith, List, [], ◌∷◌, ◌++◌, length, map, get_or}
use Rattle.std.proofs.lemmas.List.{length-map}
use Rattle.dwc_addr.specs.Numbers.{Compiled, function_count}
use Rattle.dwc_addr.specs.Compilations.{lists}
use Rattle.dwc_isa.specs.declared.memory_offset.ModuleMemoryOffset.TheVariants as memory
use Rattle.dwc_trials.proofs.compiled.compilation_over.Goals as goal

-- one module with one function has one
one-function : (fs : List (List Compiled)) → map length fs ≡ 1 ∷ [] → function_count fs ≡ 1
one-function [] e = absurd (omega (arith, ap length e))
one-function (f ∷ []) e = let first : length f ≡ 1 = ap (λ xs. get_or xs 0 0) e in omega (arith, first)
one-function (f ∷ g ∷ fs) e = absurd (omega (arith, ap length e))

pub new-requires-clause-counted : goal.new-requires-clause-counted
new-requires-clause-counted c =
    let one : length c.args.modules.now ≡ 1 = sym (length-map c.args.modules.now (λ m. m.defined_funcs)) ∙ ap length c.requires.modules in
    record {
      defined = c.requires.functions ∙ sym c.requires.modules;
      offsets_given = ap length (c.in_ok-push.ensures.items ∙ ap (λ xs. xs ++ memory.None ∷ []) c.new-offsets.ensures.items) ∙ sym one;
      few_modules = omega (arith, one);
      few_functions = omega (arith, one-function (lists c.args.functions.now) c.requires.functions);
    }
