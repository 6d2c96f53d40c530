use Rattle.std.proofs.Common.{ap, sym, subst, ◌∙◌, Some, Ok, option_map}
use Rattle.std.proofs.lemmas.Result.{err_from_is_err_and}
use Rattle.dwc_base.specs.declared.constants.TheConstants.{DW_AT_name}
use Rattle.dwc_base.specs.Cursors.{slice_bytes}
use Rattle.dwc_rules.specs.Drafts.{done}
use Rattle.dwc_dwarf.specs.Indexed.{texts_of_unit}
use Rattle.dwc_dwarf.specs.Trees.{text}
use Rattle.dwc_read.specs.Faults.{fault_seen}
use Rattle.dwc_read.specs.ValuesSeen.{value_view}
use Rattle.dwc_source.specs.MadeValues.{SaysMore}
use Rattle.dwc_clone.proofs.EntryValues.{grows-on}
use Rattle.dwc_source.proofs.ErrorLaws.{told-reading}
use Rattle.dwc_source.proofs.TextLaws.{reported-text-read}
use Rattle.dwc_clone.proofs.ToldLaws.{name-refused, name-said, name-stays}
use Rattle.dwc_clone.proofs.object_pointer.renamed.Goals as goal

pub returns-in_err-text-clause-told : goal.returns-in_err-text-clause-told
returns-in_err-text-clause-told c = λ registers number s e before draft texts source at is more.
    let src = c.args.source.now in
    let u = src.unit.now in
    let p = err_from_is_err_and c.from_residual.result c.from_residual.ensures.1 in
    rw (p.1, p.2, told-reading c.in_err-text.field-0.0)
    (name-refused registers src s e before (texts_of_unit u.sections u.header) c.args.offset source.texts at (value_view c.args.value) (fault_seen c.in_err-text.field-0.0) c.in_err-text.ensures.text)

pub underscored-requires : goal.underscored-requires
underscored-requires c =
    let u = c.args.source.now.unit.now in
    record { text = reported-text-read (texts_of_unit u.sections u.header) DW_AT_name c.args.offset (value_view c.args.value) c.in-Some.text.now c.requires.read (c.in_ok-text.ensures.text ∙ ap (λ o. Ok (option_map slice_bytes o)) c.in-Some.is) }

pub returns-in_ok-underscored-in-Some-clause-fits : goal.returns-in_ok-underscored-in-Some-clause-fits
returns-in_ok-underscored-in-Some-clause-fits c = λ size. c.in_ok-underscored-in-Some.ensures.fits size DW_AT_name

pub returns-in_ok-underscored-in-Some-clause-told : goal.returns-in_ok-underscored-in-Some-clause-told
returns-in_ok-underscored-in-Some-clause-told c = λ registers number s e before draft texts source at is more.
    let src = c.args.source.now in
    let u = src.unit.now in
    let read = c.in_ok-text.ensures.text ∙ ap (λ o. Ok (option_map slice_bytes o)) c.in-Some.is in
    let says = c.in_ok-underscored-in-Some.ensures.says src.places.now number DW_AT_name in
    record {
      drafted = Some (done (text c.in-Some.text.now));
      is = name-said registers src s e before (texts_of_unit u.sections u.header) c.args.offset source.texts at (value_view c.args.value) c.in-Some.text.now read;
      made = record { grows = grows-on texts c.args.strings.now c.underscored.new.strings more.grows says.grows; says = says.says };
    }

pub returns-in-None-clause-told : goal.returns-in-None-clause-told
returns-in-None-clause-told c = λ registers number s e before draft texts source at is more.
    let src = c.args.source.now in
    let u = src.unit.now in
    let read = c.in_ok-text.ensures.text ∙ ap (λ o. Ok (option_map slice_bytes o)) c.in-None.is in
    let stays = name-stays registers src s e before (texts_of_unit u.sections u.header) c.args.offset source.texts at (value_view c.args.value) draft read is in
    record {
      drafted = draft;
      is = is;
      made = subst (λ d. SaysMore src.places.now number DW_AT_name texts c.args.strings.now d c.args.made) (sym stays) more;
    }
