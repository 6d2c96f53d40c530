use Rattle.std.proofs.lemmas.Result.{err_from_is_err_and}
use Rattle.dwc_read.specs.EntriesSeen.{entry_view}
use Rattle.dwc_source.specs.Errors.{refusal_told}
use Rattle.dwc_source.specs.Sources.{placed_entry}
use Rattle.dwc_source.proofs.KnownLaws.{known-grown}
use Rattle.dwc_types.proofs.NotedNameLaws.{names-grown}
use Rattle.dwc_clone.proofs.WrapperNames.{attributes-refused, gives-name}
use Rattle.dwc_clone.proofs.wrapped.read_wrapper_name.Goals as goal

pub returns-in_err-check_attributes-clause-named : goal.returns-in_err-check_attributes-clause-named
returns-in_err-check_attributes-clause-named g c number s source frames emitted knows tops wrapped =
    let registers = (goal.TargetIsa-dyn g c.args.isa.now).dwarf_registers c.args.isa.now.1 in
    let src = c.args.source.now in
    let p = placed_entry src (entry_view c.args.entry.now) in
    let q = err_from_is_err_and c.from_residual.result c.from_residual.ensures.1 in
    rw (q.1, q.2) (attributes-refused registers src number s p source wrapped (refusal_told c.in_err-check_attributes.field-0.0) (c.in_err-check_attributes.ensures.checked number s source (frames, tops)))

pub returns-clause-texts : goal.returns-clause-texts
returns-clause-texts g c = known-grown c.args.source.now.unit.now.sections c.check_attributes.new.strings c.name_of_wrapper.new.strings c.check_attributes.new.known c.name_of_wrapper.ensures.grows c.in_ok-check_attributes.ensures.texts

pub returns-clause-names : goal.returns-clause-names
returns-clause-names g c number s source emitted knows =
    c.name_of_wrapper.ensures.names number s source emitted (names-grown c.args.source.now s c.args.strings.now c.check_attributes.new.strings c.args.names.now c.in_ok-check_attributes.ensures.grows knows)

pub returns-clause-named : goal.returns-clause-named
returns-clause-named g c number s source frames emitted knows tops wrapped =
    let registers = (goal.TargetIsa-dyn g c.args.isa.now).dwarf_registers c.args.isa.now.1 in
    let src = c.args.source.now in
    let p = placed_entry src (entry_view c.args.entry.now) in
    let old = c.args.strings.now in
    let middle = c.check_attributes.new.strings in
    let checked = c.in_ok-check_attributes.ensures.checked number s source (frames, tops) in
    let known = names-grown src s old middle c.args.names.now c.in_ok-check_attributes.ensures.grows knows in
    gives-name registers src number s p source wrapped old middle c.name_of_wrapper.new.strings c.name_of_wrapper.result checked c.name_of_wrapper.ensures.grows (c.name_of_wrapper.ensures.name number s source emitted known)
