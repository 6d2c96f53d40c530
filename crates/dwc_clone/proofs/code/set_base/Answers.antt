use Rattle.std.proofs.Common.{◌∷◌, [], sym, subst, length}
use Rattle.std.specs.Prelude.{◌<◌}
use Rattle.std.proofs.lemmas.List.Elements.{All-nil}
use Rattle.dwc_base.specs.declared.constants.TheConstants.{DW_AT_low_pc}
use Rattle.dwc_base.specs.declared.records.Address.TheVariants.{Constant}
use Rattle.dwc_dwarf.specs.Trees.{address}
use Rattle.dwc_unit.specs.declared.attributes.AttributeValue.TheVariants.{Address}
use Rattle.dwc_clone.specs.ClonedEntries.{IsGiven}
use Rattle.dwc_extents.proofs.NativeRangeLaws.{zero-fits}
use Rattle.dwc_clone.proofs.EntryValues.{given-value, grows-not, on-ok}
use Rattle.dwc_clone.proofs.CodeLaws.{base-said}
use Rattle.dwc_clone.proofs.code.set_base.Goals as goal

pub set-requires-clause-fits : goal.set-requires-clause-fits
set-requires-clause-fits c = zero-fits c.args.unit.now.address_size

pub returns-in-Debugger-clause-given : goal.returns-in-Debugger-clause-given
returns-in-Debugger-clause-given c number texts base e last =
    let given = given-value number texts texts c.args.id base e c.args.unit.now DW_AT_low_pc (Address (Constant 0)) last (grows-not texts) (All-nil (λ n. n < length texts)) in
    let said = base-said c.args.output_for c.args.tag c.in-Debugger.is c.if-tag-ne-DW_TAG_compile_unit.false in
    on-ok c.set.result (λ now. subst (λ vs. IsGiven number texts texts vs base e c.set.new.self) (sym said) (subst (λ u. IsGiven number texts texts ((DW_AT_low_pc, address (Constant 0)) ∷ []) base e u) (sym now) given)) c.set.ensures.ok
