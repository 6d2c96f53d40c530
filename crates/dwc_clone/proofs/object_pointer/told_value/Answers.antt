use Rattle.std.proofs.Common.{◌≡◌, ℕ, sym, ap, subst, ◌∙◌, None, Ok}
use Rattle.std.specs.Prelude.{IfOk, IfSome}
use Rattle.std.proofs.lemmas.Bool.{ne_eqb}
use Rattle.dwc_base.specs.declared.constants.TheConstants.{DW_AT_artificial, DW_AT_name}
use Rattle.dwc_rules.specs.Clones.{attribute_becomes}
use Rattle.dwc_rules.specs.ObjectPointers.{names_no_pointer, unlike_this}
use Rattle.dwc_read.specs.ValuesSeen.{value_view}
use Rattle.dwc_unit.specs.GivenUnits.{FitsValue}
use Rattle.dwc_extents.specs.CodeSources.{clone_rules}
use Rattle.dwc_source.specs.MadeValues.{GivesMade, SaysMore, wanted_value}
use Rattle.dwc_clone.specs.ClonedEntries.{told_draft}
use Rattle.dwc_clone.specs.Tellings.{tell_of}
use Rattle.dwc_clone.proofs.ToldLaws.{artificial-told, function-gone, function-stays, other-told, plain-told, says-as, says-none}
use Rattle.dwc_clone.proofs.object_pointer.told_value.Goals as goal

pub returns-then-names_pointer-clause-told : goal.returns-then-names_pointer-clause-told
returns-then-names_pointer-clause-told c = λ registers number s e before draft texts source unit at is more.
    let src = c.args.source.now in
    let a = c.args.attribute.now in
    let names = sym c.names_pointer.ensures ∙ c.if-names_pointer.true in
    record {
      drafted = draft;
      is = is;
      made = subst (λ t. SaysMore src.places.now number a.0 texts c.args.strings.now (told_draft (tell_of t s.entries e) a.0 draft) None) (sym c.in-Function.is)
          (says-none src number a.0 texts c.args.strings.now draft (told_draft (names_no_pointer s.entries e) a.0 draft) c.args.made (function-gone registers src number s e before source unit a.0 (value_view a.1) draft is names) more);
    }

pub returns-else-names_pointer-clause-told : goal.returns-else-names_pointer-clause-told
returns-else-names_pointer-clause-told c = λ registers number s e before draft texts source unit at is more.
    let src = c.args.source.now in
    let a = c.args.attribute.now in
    let names = sym c.names_pointer.ensures ∙ c.if-names_pointer.false in
    record {
      drafted = draft;
      is = is;
      made = subst (λ t. SaysMore src.places.now number a.0 texts c.args.strings.now (told_draft (tell_of t s.entries e) a.0 draft) c.args.made) (sym c.in-Function.is)
          (says-as src number a.0 texts c.args.strings.now draft (told_draft (names_no_pointer s.entries e) a.0 draft) c.args.made (function-stays registers src number s e before source unit a.0 (value_view a.1) draft is names) more);
    }

pub returns-in-Plain-clause-told : goal.returns-in-Plain-clause-told
returns-in-Plain-clause-told c = λ registers number s e before draft texts source unit at is more.
    let src = c.args.source.now in
    let a = c.args.attribute.now in
    record {
      drafted = draft;
      is = is;
      made = subst (λ t. SaysMore src.places.now number a.0 texts c.args.strings.now (told_draft (tell_of t s.entries e) a.0 draft) c.args.made) (sym c.in-Plain.is)
          (subst (λ d. SaysMore src.places.now number a.0 texts c.args.strings.now d c.args.made) (sym (plain-told a.0 draft)) more);
    }

pub returns-then-name-eq-DW_AT_artificial-clause-told : goal.returns-then-name-eq-DW_AT_artificial-clause-told
returns-then-name-eq-DW_AT_artificial-clause-told c = λ registers number s e before draft texts source unit at is more.
    let src = c.args.source.now in
    let a = c.args.attribute.now in
    let gone = ap (λ n. told_draft unlike_this n draft) c.if-name-eq-DW_AT_artificial.true ∙ artificial-told draft in
    record {
      drafted = draft;
      is = is;
      made = subst (λ t. SaysMore src.places.now number a.0 texts c.args.strings.now (told_draft (tell_of t s.entries e) a.0 draft) None) (sym c.in-ObjectPointer.is)
          (says-none src number a.0 texts c.args.strings.now draft (told_draft unlike_this a.0 draft) c.args.made (λ goals ats. ap (wanted_value goals) gone) more);
    }

pub returns-else-name-eq-DW_AT_name-clause-told : goal.returns-else-name-eq-DW_AT_name-clause-told
returns-else-name-eq-DW_AT_name-clause-told c = λ registers number s e before draft texts source unit at is more.
    let src = c.args.source.now in
    let a = c.args.attribute.now in
    let stays = other-told a.0 draft (ne_eqb a.0 DW_AT_artificial c.if-name-eq-DW_AT_artificial.false) (ne_eqb a.0 DW_AT_name c.if-name-eq-DW_AT_name.false) in
    record {
      drafted = draft;
      is = is;
      made = subst (λ t. SaysMore src.places.now number a.0 texts c.args.strings.now (told_draft (tell_of t s.entries e) a.0 draft) c.args.made) (sym c.in-ObjectPointer.is)
          (subst (λ d. SaysMore src.places.now number a.0 texts c.args.strings.now d c.args.made) (sym stays) more);
    }

pub renamed-requires-clause-fits : goal.renamed-requires-clause-fits
renamed-requires-clause-fits c = λ size. subst (λ n. IfSome c.args.made (FitsValue size n)) c.if-name-eq-DW_AT_name.true (c.requires.fits size)

pub returns-then-name-eq-DW_AT_name-clause-fits : goal.returns-then-name-eq-DW_AT_name-clause-fits
returns-then-name-eq-DW_AT_name-clause-fits c = subst (λ n. IfOk c.renamed.result (λ v. (size : ℕ) → IfSome v (FitsValue size n))) (sym c.if-name-eq-DW_AT_name.true) c.renamed.ensures.fits

pub returns-then-name-eq-DW_AT_name-clause-told : goal.returns-then-name-eq-DW_AT_name-clause-told
returns-then-name-eq-DW_AT_name-clause-told c = λ registers number s e before draft texts source unit at is more.
    let src = c.args.source.now in
    let v = value_view c.args.attribute.now.1 in
    let rules = clone_rules registers src s in
    let named = c.if-name-eq-DW_AT_name.true in
    let told = c.renamed.ensures.told registers number s e before draft texts source at
    (subst (λ n. attribute_becomes rules s e before (n, v) ≡ Ok draft) named is)
    (subst (λ n. SaysMore src.places.now number n texts c.args.strings.now draft c.args.made) named more)
    in
    subst (λ t. GivesMade (λ d w. SaysMore src.places.now number c.args.attribute.now.0 texts c.renamed.new.strings (told_draft (tell_of t s.entries e) c.args.attribute.now.0 d) w) (attribute_becomes rules s e before (c.args.attribute.now.0, v)) c.renamed.result) (sym c.in-ObjectPointer.is)
    (subst (λ n. GivesMade (λ d w. SaysMore src.places.now number n texts c.renamed.new.strings (told_draft unlike_this n d) w) (attribute_becomes rules s e before (n, v)) c.renamed.result) (sym named) told)
