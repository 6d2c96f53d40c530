use Rattle.std.proofs.Common.{sym, subst, ◌∙◌}
use Rattle.std.specs.Prelude.{IfOk}
use Rattle.dwc_unit.specs.TextTables.{IsText}
use Rattle.dwc_source.specs.KnownTexts.{IsNumbered}
use Rattle.dwc_types.proofs.WrapperTextLaws.{wrapper-text}
use Rattle.dwc_types.proofs.type_name.add_name.Goals as goal

pub add_text-requires : goal.add_text-requires
add_text-requires c = subst IsText (sym (c.deref.ensures.value ∙ c.in_ok-whole.ensures)) (wrapper-text c.args.tag c.args.name.now c.requires)

pub returns-clause-number : goal.returns-clause-number
returns-clause-number c =
    let numbered = subst (λ r. IfOk r (IsNumbered c.add_text.new.strings c.deref.result.now)) c.in_ok-of_memory.ensures c.add_text.ensures.number in
    subst (λ t. IsNumbered c.add_text.new.strings t c.in_ok-of_memory.field-0) (c.deref.ensures.value ∙ c.in_ok-whole.ensures) numbered
