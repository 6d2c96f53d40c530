use Rattle.std.proofs.Common.{◌≡◌, ◌∙◌, ap, length, subst, sym, [], ◌∷◌}
use Rattle.std.specs.Prelude.{option_map}
use Rattle.std.specs.Option.{unwrap_or}
use Rattle.dwc_rules.specs.Carried.{synthetic_unit}
use Rattle.dwc_native.specs.Compiled.{no_memory}
use Rattle.dwc_rules.specs.SyntheticUnit as Synthetic
use Rattle.dwc_isa.specs.ToldModules.{memory_view}
use Rattle.dwc_carry.specs.MadeUnits.{LeadsTo, IsMadeOf}
use Rattle.dwc_unit.specs.AddedInOrder.{IsNumberedByPlaces}
use Rattle.dwc_carry.proofs.SyntheticMade.{synthetic-numbered}
use Rattle.dwc_carry.specs.MadeEntries.{numbers_added, texts_added}
use Rattle.dwc_carry.specs.SyntheticAdditions.{synthetic_given, synthetic_texts, place_of_set}
use Rattle.dwc_carry.specs.SyntheticUnits.{memory_at, synthetic_tree}
use Rattle.dwc_carry.proofs.SyntheticBuilt.{near-accepted, synthetic-added, pointer-is, wasm-is}
use Rattle.dwc_carry.proofs.synthetic_unit.ModuleSyntheticUnit.new.Goals as goal

pub returns-clause-added : goal.returns-clause-added
returns-clause-added c =
    let compilation = c.args.compilation.now in
    let m = memory_at compilation c.args.module.0 in
    let seen = memory_view c.memory_offset-memory.result.now in
    let same : seen ≡ m = ap (λ o. unwrap_or (option_map memory_view o) no_memory) (sym c.memory_offset-memory.ensures) in
    let name = c.names.result.now.set_memory.now in
    let named = c.names.ensures.set_memory in
    let old = c.args.out_strings.now in
    let table = c.synthetic_texts.new.strings in
    let t = c.in_ok-texts.texts in
    let encoding = c.args.encoding in
    let number = length c.args.out_units.now.units.items in
    let made : c.in_ok-unit.unit ≡ synthetic_given encoding t m = c.in_ok-unit.ensures ∙ ap (synthetic_given encoding t) same in
    let place = c.set_place-pointer.ensures ∙ ap place_of_set same in (
      near-accepted m (ap Synthetic.is_too_far (sym same) ∙ sym c.is_too_far.ensures ∙ c.if-is_too_far.false),
      record {
        made = c.in_ok-unit.unit;
        added = c.in_ok-id.ensures.ok;
        grows = c.synthetic_texts.ensures.grows;
        is = λ at leads.
            subst (λ u. IsMadeOf at encoding table number synthetic_unit (synthetic_tree number compilation.set_memory m) u) (sym made)
            (synthetic-added encoding number old table t compilation.set_memory m (c.in_ok-texts.ensures.added ∙ ap (λ n. texts_added old (synthetic_texts n)) named) (c.in_ok-texts.ensures.numbers ∙ ap (λ n. numbers_added old (synthetic_texts n)) named) at
            (subst (λ u. LeadsTo at number (u ∷ [])) made leads));
        numbered = subst (λ u. IsNumberedByPlaces u) (sym made) (synthetic-numbered encoding t m);
        refers = record {
          context_pointer = pointer-is m c.set_place-pointer.result number c.in_ok-id.id c.entry_of.result place c.in_ok-id.ensures.id c.entry_of.ensures;
          wasm_pointer = wasm-is m c.set_place-pointer.result number c.in_ok-id.id c.entry_of-2.result place c.in_ok-id.ensures.id c.entry_of-2.ensures;
        };
      },
    )
