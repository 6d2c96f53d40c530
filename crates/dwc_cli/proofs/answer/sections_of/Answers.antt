use Rattle.std.proofs.Common.{map, Ok, Err, refl, sym, ap, ◌∙◌, subst}
use Rattle.std.specs.Prelude.{option_map}
use Rattle.std.proofs.lemmas.Result.{err_from_is_err_and}
use Rattle.dwc_base.specs.Outputs.{section_view}
use Rattle.dwc_map.specs.MapViews.{map_file_view}
use Rattle.dwc_map.proofs.MapFits.{map-of_bytes}
use Rattle.dwc_cli.specs.Failures.{carrying_status, failure_status}
use Rattle.dwc_cli.specs.Inputs.{Input, Loaded}
use Rattle.dwc_cli.specs.Answers.{IsInputOf, IsBroken, TranslatesFiles, IsReadAs, IsTextStatus}
use Rattle.dwc_cli.specs.Printed.{printed}
use Rattle.dwc_cli.proofs.PathLaws.{sorted-whole}
use Rattle.dwc_cli.proofs.TextExits.{Refuses, Refuses-broken, Refuses-no_map, Refuses-cause, broken-status, cause-text_status, Gives, Gives-emitted, was_read, none_from}
use Rattle.dwc_cli.proofs.answer.sections_of.Goals as goal

-- ---- a module is refused

module_broken : (c : goal.Joined-map_file) → IsBroken (map (λ m. m.items) c.args.files.modules.items) (failure_status c.in_err-translations.field-0.0)
module_broken c = subst (λ ms. IsBroken (map (λ m. m.items) ms) (failure_status c.in_err-translations.field-0.0)) c.deref.ensures.value c.in_err-translations.ensures

module_refused : (c : goal.Joined-map_file) (input : Input) → IsInputOf c.args.files input → Refuses input (failure_status c.in_err-translations.field-0.0)
module_refused c input is =
    let status = failure_status c.in_err-translations.field-0.0 in
    Refuses-broken input status (subst (λ ms. IsBroken ms status) is.modules (module_broken c))

pub returns-in_err-translations-clause-causes : goal.returns-in_err-translations-clause-causes
returns-in_err-translations-clause-causes c = λ input is.
    let p = err_from_is_err_and c.from_residual.result c.from_residual.ensures.1 in
    rw (p.1, p.2) (module_refused c input is).causes

pub returns-in_err-translations-clause-status : goal.returns-in_err-translations-clause-status
returns-in_err-translations-clause-status c =
    let p = err_from_is_err_and c.from_residual.result c.from_residual.ensures.1 in
    rw (p.1, p.2) (broken-status (map (λ m. m.items) c.args.files.modules.items) (failure_status c.in_err-translations.field-0.0) (module_broken c))

pub returns-in_err-translations-clause-complete : goal.returns-in_err-translations-clause-complete
returns-in_err-translations-clause-complete c = λ input is.
    let p = err_from_is_err_and c.from_residual.result c.from_residual.ensures.1 in
    rw (p.1, p.2) (module_refused c input is).complete

-- ---- the map is none of the modules

map_refused : (c : goal.After-drop-modules-in_default) (input : Input) → IsInputOf c.args.files input → Refuses input 6
map_refused c input is =
    let ts = c.in_ok-translations.translations.items in
    let held = subst (λ ms. TranslatesFiles (map (λ m. m.items) ms) (Ok c.in_ok-translations.translations)) c.deref.ensures.value c.in_ok-translations.ensures in
    let found = subst (λ ms. TranslatesFiles ms (Ok c.in_ok-translations.translations)) is.modules held in
    let none = none_from c.map_for.result c.in_default.not-Some in
    let seen = ap (option_map map_file_view) (sym none) ∙ map-of_bytes _ c.args.files.map_file c.map_for.result c.map_for.ensures.value input.map_bytes is.map_is in
    Refuses-no_map ts input found (rw (c.deref-2.ensures.value) at seen)

pub returns-in_default-clause-causes : goal.returns-in_default-clause-causes
returns-in_default-clause-causes c = λ input is. (map_refused c input is).causes

pub returns-in_default-clause-complete : goal.returns-in_default-clause-complete
returns-in_default-clause-complete c = λ input is. (map_refused c input is).complete

-- ---- the sections

-- the translations have their names in order
pub carry-requires-clause-sorted : goal.carry-requires-clause-sorted
carry-requires-clause-sorted c = let held = c.in_ok-translations.ensures in sorted-whole c.in_ok-translations.translations.items held.0 held.2

-- ---- no DWARF is carried

carried_refused : (c : goal.After-drop-modules-in_err-carried) (input : Input) → IsInputOf c.args.files input → Refuses input (failure_status c.in_err-carried.field-0.0)
carried_refused c input is =
    let ts = c.in_ok-translations.translations.items in
    let held = subst (λ ms. TranslatesFiles (map (λ m. m.items) ms) (Ok c.in_ok-translations.translations)) c.deref.ensures.value c.in_ok-translations.ensures in
    let found = subst (λ ms. TranslatesFiles ms (Ok c.in_ok-translations.translations)) is.modules held in
    let seen = ap (option_map map_file_view) (sym c.in-Some.is) ∙ map-of_bytes _ c.args.files.map_file c.map_for.result c.map_for.ensures.value input.map_bytes is.map_is in
    let was = was_read ts c.in-Some.map_file input found (rw (c.deref-2.ensures.value) at seen) in
    Refuses-cause input was.read (failure_status c.in_err-carried.field-0.0) was.is_read (c.in_err-carried.ensures.carried was.read was.read_as)

carried_status : (c : goal.After-drop-modules-in_err-carried) → IsTextStatus (failure_status c.in_err-carried.field-0.0)
carried_status c =
    let ts = c.in_ok-translations.translations.items in
    let held = subst (λ ms. TranslatesFiles (map (λ m. m.items) ms) (Ok c.in_ok-translations.translations)) c.deref.ensures.value c.in_ok-translations.ensures in
    let read : Loaded = record { wasm = held.0; map_file = map_file_view c.in-Some.map_file } in
    let told : IsReadAs ts c.in-Some.map_file read = record { wasm = held.2; map_is = refl } in
    cause-text_status read (failure_status c.in_err-carried.field-0.0) (c.in_err-carried.ensures.carried read told)

pub returns-in_err-carried-clause-causes : goal.returns-in_err-carried-clause-causes
returns-in_err-carried-clause-causes c = λ input is.
    let p = err_from_is_err_and c.from_residual-in_err-carried.result c.from_residual-in_err-carried.ensures.1 in
    rw (p.1, p.2) (carried_refused c input is).causes

pub returns-in_err-carried-clause-status : goal.returns-in_err-carried-clause-status
returns-in_err-carried-clause-status c =
    let p = err_from_is_err_and c.from_residual-in_err-carried.result c.from_residual-in_err-carried.ensures.1 in
    rw (p.1, p.2) (carried_status c)

pub returns-in_err-carried-clause-complete : goal.returns-in_err-carried-clause-complete
returns-in_err-carried-clause-complete c = λ input is.
    let p = err_from_is_err_and c.from_residual-in_err-carried.result c.from_residual-in_err-carried.ensures.1 in
    rw (p.1, p.2) (carried_refused c input is).complete

-- ---- no sections are written

sections_refused : (c : goal.After-from_residual-in_err-sections) (input : Input) → IsInputOf c.args.files input → Refuses input (carrying_status c.in_err-sections.field-0.0)
sections_refused c input is =
    let ts = c.in_ok-translations.translations.items in
    let held = subst (λ ms. TranslatesFiles (map (λ m. m.items) ms) (Ok c.in_ok-translations.translations)) c.deref.ensures.value c.in_ok-translations.ensures in
    let found = subst (λ ms. TranslatesFiles ms (Ok c.in_ok-translations.translations)) is.modules held in
    let seen = ap (option_map map_file_view) (sym c.in-Some.is) ∙ map-of_bytes _ c.args.files.map_file c.map_for.result c.map_for.ensures.value input.map_bytes is.map_is in
    let was = was_read ts c.in-Some.map_file input found (rw (c.deref-2.ensures.value) at seen) in
    Refuses-cause input was.read (carrying_status c.in_err-sections.field-0.0) was.is_read (c.in_ok-carried.ensures.carried was.read was.read_as (Err c.in_err-sections.field-0.0) c.in_err-sections.ensures)

sections_status : (c : goal.After-from_residual-in_err-sections) → IsTextStatus (carrying_status c.in_err-sections.field-0.0)
sections_status c =
    let ts = c.in_ok-translations.translations.items in
    let held = subst (λ ms. TranslatesFiles (map (λ m. m.items) ms) (Ok c.in_ok-translations.translations)) c.deref.ensures.value c.in_ok-translations.ensures in
    let read : Loaded = record { wasm = held.0; map_file = map_file_view c.in-Some.map_file } in
    let told : IsReadAs ts c.in-Some.map_file read = record { wasm = held.2; map_is = refl } in
    cause-text_status read (carrying_status c.in_err-sections.field-0.0) (c.in_ok-carried.ensures.carried read told (Err c.in_err-sections.field-0.0) c.in_err-sections.ensures)

pub returns-in_err-sections-clause-causes : goal.returns-in_err-sections-clause-causes
returns-in_err-sections-clause-causes c = λ input is.
    let p = err_from_is_err_and c.from_residual-in_err-sections.result c.from_residual-in_err-sections.ensures.1 in
    rw (p.1, p.2) (sections_refused c input is).causes

pub returns-in_err-sections-clause-status : goal.returns-in_err-sections-clause-status
returns-in_err-sections-clause-status c =
    let p = err_from_is_err_and c.from_residual-in_err-sections.result c.from_residual-in_err-sections.ensures.1 in
    rw (p.1, p.2) (sections_status c)

pub returns-in_err-sections-clause-complete : goal.returns-in_err-sections-clause-complete
returns-in_err-sections-clause-complete c = λ input is.
    let p = err_from_is_err_and c.from_residual-in_err-sections.result c.from_residual-in_err-sections.ensures.1 in
    rw (p.1, p.2) (sections_refused c input is).complete

-- ---- the sections are emitted

text_given : (c : goal.In_ok-sections) (input : Input) → IsInputOf c.args.files input → Gives input (printed (map section_view c.in_ok-sections.sections.items))
text_given c input is =
    let ts = c.in_ok-translations.translations.items in
    let held = subst (λ ms. TranslatesFiles (map (λ m. m.items) ms) (Ok c.in_ok-translations.translations)) c.deref.ensures.value c.in_ok-translations.ensures in
    let found = subst (λ ms. TranslatesFiles ms (Ok c.in_ok-translations.translations)) is.modules held in
    let seen = ap (option_map map_file_view) (sym c.in-Some.is) ∙ map-of_bytes _ c.args.files.map_file c.map_for.result c.map_for.ensures.value input.map_bytes is.map_is in
    let was = was_read ts c.in-Some.map_file input found (rw (c.deref-2.ensures.value) at seen) in
    Gives-emitted input was.read (map section_view c.in_ok-sections.sections.items) was.is_read (c.in_ok-carried.ensures.carried was.read was.read_as (Ok c.in_ok-sections.sections) c.in_ok-sections.ensures)

pub returns-clause-carried : goal.returns-clause-carried
returns-clause-carried c = λ input is. (text_given c input is).carried

pub returns-clause-causes : goal.returns-clause-causes
returns-clause-causes c = λ input is. (text_given c input is).causes
