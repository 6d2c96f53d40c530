use Rattle.std.proofs.Common.{◌++◌, ap, subst, ◌∙◌, Some}
use Rattle.dwc_rules.specs.Drafts.{done}
use Rattle.dwc_dwarf.specs.Trees.{text}
use Rattle.dwc_unit.specs.declared.attributes.AttributeValue.TheVariants.{StringRef}
use Rattle.dwc_source.specs.MadeValues.{SaysMore}
use Rattle.dwc_source.proofs.TextLaws.{text-says}
use Rattle.dwc_clone.proofs.object_pointer.underscored.Goals as goal

pub returns-in-Ok-clause-says : goal.returns-in-Ok-clause-says
returns-in-Ok-clause-says c = λ places number name.
    let is = c.deref.ensures.value ∙ (c.in_ok-extend_from_slice.ensures.items ∙ ap (λ xs. xs ++ c.args.text.now) c.in_ok-name.ensures.items) in
    subst (λ t. SaysMore places number name c.args.strings.now c.add.new.self (Some (done (text t))) (Some (StringRef c.in-Ok.id))) is
    (text-says places number name c.args.strings.now c.add.new.self c.deref.result.now c.in-Ok.id c.in-Ok.ensures.ok c.in-Ok.ensures.id)
