use Rattle.std.proofs.Common.{refl, length, ◌<◌}
use Rattle.std.proofs.lemmas.Result.{err_from_is_err_and}
use Rattle.dwc_write.specs.declared.layout.UnitLayout.{UnitLayout}
use Rattle.dwc_unit.proofs.ReadValues.{all-of-part}
use Rattle.dwc_write.proofs.TextLaws.{refused-here, option-cases, using-refused, using-start}
use Rattle.dwc_write.proofs.text_layout.lay_out_texts.Goals as goal

pub loop-i-init : goal.loop-i-init
loop-i-init c =
    let none = c.in_ok-vec.ensures.items_if_clones_equal (option-cases _ (λ h. refl) (λ x h. absurd h)) in
    using-start c.args.texts.now (λ (l : UnitLayout). l.notes.texts.items) c.args.layouts.now (record { offsets = c.in_ok-vec.field-0; used = c.new.result; length = 0 }) none c.new.ensures.items refl

pub use_texts-requires-clause-known : goal.use_texts-requires-clause-known
use_texts-requires-clause-known c =
    rw (c.deref.ensures.value) (all-of-part (λ n. n < length c.args.texts.now) (λ (l : UnitLayout). l.notes.texts.items) c.args.layouts.now c.loop-i.i c.index-layouts-i.result c.loop-i-test.true c.requires)

pub returns-in_err-use_texts-clause-large : goal.returns-in_err-use_texts-clause-large
returns-in_err-use_texts-clause-large c =
    let texts = c.args.texts.now in
    let p = err_from_is_err_and c.from_residual-in_err-use_texts.result c.from_residual-in_err-use_texts.ensures.1 in
    refused-here _ _ _ p (rw (c.new.ensures.items) at (using-refused texts (λ (l : UnitLayout). l.notes.texts.items) c.args.layouts.now c.loop-i.i c.index-layouts-i.result _ c.loop-i.layout _ c.loop-i.invariant c.loop-i-test.true (rw (c.deref.ensures.value) at c.in_err-use_texts.ensures)))
