use Rattle.std.proofs.Common.{[], ◌∷◌, map, string_bytes, refl, sym, ◌∙◌, subst, arith}
use Rattle.dwc_base.specs.Outputs.{section_view}
use Rattle.dwc_cli.specs.Edge.{paths_view}
use Rattle.dwc_cli.specs.Inputs.{all_paths, named_paths}
use Rattle.dwc_cli.specs.RunStatus.{InputCauses, early_statuses, run_statuses, IsStatus, IsOneOf}
use Rattle.dwc_cli.specs.Failures.{failure_status, failure_message, usage_message, write_message}
use Rattle.dwc_cli.specs.Printed.{printed}
use Rattle.dwc_cli.specs.Answers.{IsMessage, reading_statuses, text_statuses}
use Rattle.dwc_cli.proofs.CallLaws.{ReadsFront-none, ReadsFront-status, ReadsFront-named, WritesUntilFailure-none, WritesUntilFailure-all, WritesUntilFailure-failed}
use Rattle.dwc_cli.proofs.Statuses.{IsOneOf-from, IsOneOf-more, IsOneOf-other}
use Rattle.dwc_cli.proofs.Messages.{IsMessage-usage, IsMessage-reading, IsMessage-text, IsMessage-write}
use Rattle.dwc_cli.proofs.RunExits.{InputCauses-reading, InputCauses-text, MissingCause-read, ReadsAll-early, ReadsAll-read, SaysOfRead-front, SaysOfRead-reading, SaysOfRead-status, SaysOfRead-text, SaysOfRead-usage, SaysOfRead-written, Succeeds-read, PrefixWritten-read, TextCauses-write, only_memory, complete_read}
use Rattle.dwc_cli.proofs.RunMeaningLaws.{run-means}
use Rattle.dwc_cli.proofs.command.run.Goals as goal

pub returns-in_default-clause-said : goal.returns-in_default-clause-said
returns-in_default-clause-said g c = λ _.
    let words = map string_bytes c.args.words.now in
    let asked = g.S.Source.asked c.args.source.now in
    (usage_message, subst (λ s. IsMessage words asked s usage_message) (sym c.refuse.ensures.status) (IsMessage-usage words asked), c.refuse.ensures.said)

pub returns-in-Err-clause-input : goal.returns-in-Err-clause-input
returns-in-Err-clause-input g c =
    let files = g.S.Source.files c.args.source.now in
    let words = map string_bytes c.args.words.now in
    let said = InputCauses-reading files words (paths_view c.in-Some.paths) (failure_status c.in-Err.failure) (sym c.in-Some.ensures) c.in-Err.ensures.status c.in-Err.ensures.long_file in
    subst (InputCauses files words) (sym c.refuse-in-Err.ensures.status) said

pub returns-in-Err-clause-status : goal.returns-in-Err-clause-status
returns-in-Err-clause-status g c =
    subst IsStatus (sym c.refuse-in-Err.ensures.status) (IsOneOf-more reading_statuses run_statuses (failure_status c.in-Err.failure) refl c.in-Err.ensures.status)

pub returns-in-Err-clause-complete : goal.returns-in-Err-clause-complete
returns-in-Err-clause-complete g c = λ well.
    let files = g.S.Source.files c.args.source.now in
    let words = map string_bytes c.args.words.now in
    let said = only_memory files words (paths_view c.in-Some.paths) _ _ _ _ (failure_status c.in-Err.failure) (sym c.in-Some.ensures) c.in-Err.ensures.status c.in-Err.ensures.long_file c.in-Err.ensures.read_fault well in
    subst (IsOneOf (0 ∷ 9 ∷ [])) (sym c.refuse-in-Err.ensures.status) said

pub returns-in-Err-sections_of-clause-missing : goal.returns-in-Err-sections_of-clause-missing
returns-in-Err-sections_of-clause-missing g c =
    let files = g.S.Source.files c.args.source.now in
    let words = map string_bytes c.args.words.now in
    let read = c.in-Ok.ensures.input in
    MissingCause-read files words (paths_view c.in-Some.paths) read.0 _ (sym c.in-Some.ensures) read.2

pub returns-in-Err-sections_of-clause-input : goal.returns-in-Err-sections_of-clause-input
returns-in-Err-sections_of-clause-input g c =
    let files = g.S.Source.files c.args.source.now in
    let words = map string_bytes c.args.words.now in
    let read = c.in-Ok.ensures.input in
    let status = failure_status c.in-Err-sections_of.failure in
    let not_long = IsOneOf-other text_statuses status 4 c.in-Err-sections_of.ensures.status refl in
    let said = InputCauses-text files words (paths_view c.in-Some.paths) read.0 status (sym c.in-Some.ensures) read.2 (c.in-Err-sections_of.ensures.causes read.0 read.1) not_long in
    subst (InputCauses files words) (sym c.refuse-in-Err-sections_of.ensures.status) said

pub returns-in-Err-sections_of-clause-status : goal.returns-in-Err-sections_of-clause-status
returns-in-Err-sections_of-clause-status g c =
    subst IsStatus (sym c.refuse-in-Err-sections_of.ensures.status) (IsOneOf-more text_statuses run_statuses (failure_status c.in-Err-sections_of.failure) refl c.in-Err-sections_of.ensures.status)

pub returns-in-Err-sections_of-clause-complete : goal.returns-in-Err-sections_of-clause-complete
returns-in-Err-sections_of-clause-complete g c = λ well.
    let files = g.S.Source.files c.args.source.now in
    let words = map string_bytes c.args.words.now in
    let read = c.in-Ok.ensures.input in
    let said = complete_read files words (paths_view c.in-Some.paths) read.0 _ _ _ _ (failure_status c.in-Err-sections_of.failure) (sym c.in-Some.ensures) read.2 (c.in-Err-sections_of.ensures.complete read.0 read.1) well in
    subst (IsOneOf (0 ∷ 9 ∷ [])) (sym c.refuse-in-Err-sections_of.ensures.status) said

pub returns-in-Ok-print_sections-clause-carried : goal.returns-in-Ok-print_sections-clause-carried
returns-in-Ok-print_sections-clause-carried g c = λ _.
    let files = g.S.Source.files c.args.source.now in
    let words = map string_bytes c.args.words.now in
    let read = c.in-Ok.ensures.input in
    Succeeds-read files words (paths_view c.in-Some.paths) read.0 (printed (map section_view c.in-Ok-sections_of.sections.items)) _ _ (sym c.in-Some.ensures) read.2 (c.in-Ok-sections_of.ensures.carried read.0 read.1) (rw c.deref.ensures.value at c.in-Ok-print_sections.ensures.whole)

pub returns-in-Ok-print_sections-clause-missing : goal.returns-in-Ok-print_sections-clause-missing
returns-in-Ok-print_sections-clause-missing g c =
    let files = g.S.Source.files c.args.source.now in
    let words = map string_bytes c.args.words.now in
    let read = c.in-Ok.ensures.input in
    MissingCause-read files words (paths_view c.in-Some.paths) read.0 _ (sym c.in-Some.ensures) read.2

pub returns-in-Ok-print_sections-clause-input : goal.returns-in-Ok-print_sections-clause-input
returns-in-Ok-print_sections-clause-input g c =
    let files = g.S.Source.files c.args.source.now in
    let words = map string_bytes c.args.words.now in
    let read = c.in-Ok.ensures.input in
    let said = InputCauses-text files words (paths_view c.in-Some.paths) read.0 0 (sym c.in-Some.ensures) read.2 (c.in-Ok-sections_of.ensures.causes read.0 read.1) (λ e. omega (arith, e)) in
    subst (InputCauses files words) (sym c.code.ensures) said

pub returns-clause-missing : goal.returns-clause-missing
returns-clause-missing g c =
    let files = g.S.Source.files c.args.source.now in
    let words = map string_bytes c.args.words.now in
    let read = c.in-Ok.ensures.input in
    MissingCause-read files words (paths_view c.in-Some.paths) read.0 _ (sym c.in-Some.ensures) read.2

pub returns-clause-input : goal.returns-clause-input
returns-clause-input g c =
    let files = g.S.Source.files c.args.source.now in
    let words = map string_bytes c.args.words.now in
    let read = c.in-Ok.ensures.input in
    let said = InputCauses-text files words (paths_view c.in-Some.paths) read.0 8 (sym c.in-Some.ensures) read.2 (TextCauses-write read.0 (c.in-Ok-sections_of.ensures.causes read.0 read.1)) (λ e. omega (arith, e)) in
    subst (InputCauses files words) (sym c.refuse-in-Err-print_sections.ensures.status) said

pub returns-clause-front : goal.returns-clause-front
returns-clause-front g c = λ _.
    let files = g.S.Source.files c.args.source.now in
    let words = map string_bytes c.args.words.now in
    let read = c.in-Ok.ensures.input in
    PrefixWritten-read files words (paths_view c.in-Some.paths) read.0 (printed (map section_view c.in-Ok-sections_of.sections.items)) _ _ (sym c.in-Some.ensures) read.2 (c.in-Ok-sections_of.ensures.carried read.0 read.1) (rw c.deref.ensures.value at c.in-Err-print_sections.ensures.front)

pub returns-clause-status : goal.returns-clause-status
returns-clause-status g c =
    subst IsStatus (sym c.refuse-in-Err-print_sections.ensures.status) (IsOneOf-from run_statuses 8 refl)

pub returns-in-Err-clause-said : goal.returns-in-Err-clause-said
returns-in-Err-clause-said g c = λ _.
    let words = map string_bytes c.args.words.now in
    let message = failure_message c.in-Err.failure in
    let asked = g.S.Source.asked c.read_input.new.source in
    let says = IsMessage-reading words asked (paths_view c.in-Some.paths) c.in-Err.failure (sym c.in-Some.ensures) c.refuse-in-Err.ensures.one_line c.in-Err.ensures.status c.in-Err.ensures.fault_told c.in-Err.ensures.length_told c.in-Err.ensures.fault_named c.in-Err.ensures.length_named in
    (message, subst (λ s. IsMessage words asked s message) (sym c.refuse-in-Err.ensures.status) says, c.refuse-in-Err.ensures.said)

pub returns-in-Err-sections_of-clause-said : goal.returns-in-Err-sections_of-clause-said
returns-in-Err-sections_of-clause-said g c = λ _.
    let words = map string_bytes c.args.words.now in
    let message = failure_message c.in-Err-sections_of.failure in
    let asked = g.S.Source.asked c.read_input.new.source in
    let says = IsMessage-text words asked c.in-Err-sections_of.failure c.refuse-in-Err-sections_of.ensures.one_line c.in-Err-sections_of.ensures.status in
    (message, subst (λ s. IsMessage words asked s message) (sym c.refuse-in-Err-sections_of.ensures.status) says, c.refuse-in-Err-sections_of.ensures.said)

pub returns-clause-said : goal.returns-clause-said
returns-clause-said g c = λ _.
    let words = map string_bytes c.args.words.now in
    let asked = g.S.Source.asked c.read_input.new.source in
    (write_message, subst (λ s. IsMessage words asked s write_message) (sym c.refuse-in-Err-print_sections.ensures.status) (IsMessage-write words asked), c.refuse-in-Err-print_sections.ensures.said)

-- ---- what is asked of the source

pub returns-in_default-clause-opened : goal.returns-in_default-clause-opened
returns-in_default-clause-opened g c =
    ReadsFront-none c.refuse.result (named_paths (map string_bytes c.args.words.now)) (g.S.Source.faults c.args.source.now) (g.S.Source.asked c.args.source.now) (λ e. let is = c.refuse.ensures.status in omega (arith, e, is))

pub returns-in-Err-clause-opened : goal.returns-in-Err-clause-opened
returns-in-Err-clause-opened g c =
    ReadsFront-named (map string_bytes c.args.words.now) (paths_view c.in-Some.paths) (failure_status c.in-Err.failure) c.refuse-in-Err.result (g.S.Source.faults c.args.source.now) (g.S.Source.faults c.read_input.new.source) (g.S.Source.asked c.args.source.now) (g.S.Source.asked c.read_input.new.source) (sym c.in-Some.ensures) c.refuse-in-Err.ensures.status c.in-Err.ensures.asked

pub returns-in-Err-sections_of-clause-opened : goal.returns-in-Err-sections_of-clause-opened
returns-in-Err-sections_of-clause-opened g c =
    let status = failure_status c.in-Err-sections_of.failure in
    let paths = paths_view c.in-Some.paths in
    let not_fault = IsOneOf-other text_statuses status 3 c.in-Err-sections_of.ensures.status refl in
    let all = ReadsFront-status 0 status (all_paths paths) (g.S.Source.faults c.args.source.now) (g.S.Source.faults c.read_input.new.source) (g.S.Source.asked c.args.source.now) (g.S.Source.asked c.read_input.new.source) (λ e. omega (arith, e)) not_fault c.in-Ok.ensures.asked in
    ReadsFront-named (map string_bytes c.args.words.now) paths status c.refuse-in-Err-sections_of.result (g.S.Source.faults c.args.source.now) (g.S.Source.faults c.read_input.new.source) (g.S.Source.asked c.args.source.now) (g.S.Source.asked c.read_input.new.source) (sym c.in-Some.ensures) c.refuse-in-Err-sections_of.ensures.status all

pub returns-in-Ok-print_sections-clause-opened : goal.returns-in-Ok-print_sections-clause-opened
returns-in-Ok-print_sections-clause-opened g c =
    ReadsFront-named (map string_bytes c.args.words.now) (paths_view c.in-Some.paths) 0 c.code.result (g.S.Source.faults c.args.source.now) (g.S.Source.faults c.read_input.new.source) (g.S.Source.asked c.args.source.now) (g.S.Source.asked c.read_input.new.source) (sym c.in-Some.ensures) c.code.ensures c.in-Ok.ensures.asked

pub returns-clause-opened : goal.returns-clause-opened
returns-clause-opened g c =
    let paths = paths_view c.in-Some.paths in
    let all = ReadsFront-status 0 8 (all_paths paths) (g.S.Source.faults c.args.source.now) (g.S.Source.faults c.read_input.new.source) (g.S.Source.asked c.args.source.now) (g.S.Source.asked c.read_input.new.source) (λ e. omega (arith, e)) (λ e. omega (arith, e)) c.in-Ok.ensures.asked in
    ReadsFront-named (map string_bytes c.args.words.now) paths 8 c.refuse-in-Err-print_sections.result (g.S.Source.faults c.args.source.now) (g.S.Source.faults c.read_input.new.source) (g.S.Source.asked c.args.source.now) (g.S.Source.asked c.read_input.new.source) (sym c.in-Some.ensures) c.refuse-in-Err-print_sections.ensures.status all

-- ---- what is asked of the sink

pub returns-in_default-clause-ends : goal.returns-in_default-clause-ends
returns-in_default-clause-ends g c =
    WritesUntilFailure-none c.refuse.result (g.K.Sink.faults c.args.out.now) (g.K.Sink.asked c.args.out.now) (λ e. let is = c.refuse.ensures.status in omega (arith, e, is))

pub returns-in-Err-clause-ends : goal.returns-in-Err-clause-ends
returns-in-Err-clause-ends g c =
    let not_eight = IsOneOf-other reading_statuses (failure_status c.in-Err.failure) 8 c.in-Err.ensures.status refl in
    WritesUntilFailure-none c.refuse-in-Err.result (g.K.Sink.faults c.args.out.now) (g.K.Sink.asked c.args.out.now) (λ e. not_eight (sym c.refuse-in-Err.ensures.status ∙ e))

pub returns-in-Err-sections_of-clause-ends : goal.returns-in-Err-sections_of-clause-ends
returns-in-Err-sections_of-clause-ends g c =
    let not_eight = IsOneOf-other text_statuses (failure_status c.in-Err-sections_of.failure) 8 c.in-Err-sections_of.ensures.status refl in
    WritesUntilFailure-none c.refuse-in-Err-sections_of.result (g.K.Sink.faults c.args.out.now) (g.K.Sink.asked c.args.out.now) (λ e. not_eight (sym c.refuse-in-Err-sections_of.ensures.status ∙ e))

pub returns-in-Ok-print_sections-clause-ends : goal.returns-in-Ok-print_sections-clause-ends
returns-in-Ok-print_sections-clause-ends g c =
    WritesUntilFailure-all c.code.result _ _ _ _ (λ e. let is = c.code.ensures in omega (arith, e, is)) c.in-Ok-print_sections.ensures.cause.well c.in-Ok-print_sections.ensures.ends.well

pub returns-clause-ends : goal.returns-clause-ends
returns-clause-ends g c =
    WritesUntilFailure-failed c.refuse-in-Err-print_sections.result _ _ _ _ c.refuse-in-Err-print_sections.ensures.status c.in-Err-print_sections.ensures.ends.once c.in-Err-print_sections.ensures.ends.last

-- ---- what was read, whatever the source tells

pub returns-in_default-clause-all_read : goal.returns-in_default-clause-all_read
returns-in_default-clause-all_read g c = ReadsAll-early (map string_bytes c.args.words.now) 2 _ _ _ c.refuse.ensures.status (IsOneOf-from early_statuses 2 refl)

pub returns-in_default-clause-of_read : goal.returns-in_default-clause-of_read
returns-in_default-clause-of_read g c = SaysOfRead-usage (map string_bytes c.args.words.now) _ _ _ _ _ _ _ _ _ (sym c.in_default.ensures)

pub returns-in-Err-clause-all_read : goal.returns-in-Err-clause-all_read
returns-in-Err-clause-all_read g c =
    let status = failure_status c.in-Err.failure in
    ReadsAll-early (map string_bytes c.args.words.now) status _ _ _ c.refuse-in-Err.ensures.status (IsOneOf-more reading_statuses early_statuses status refl c.in-Err.ensures.status)

pub returns-in-Err-clause-of_read : goal.returns-in-Err-clause-of_read
returns-in-Err-clause-of_read g c =
    let words = map string_bytes c.args.words.now in
    let status = failure_status c.in-Err.failure in
    let says = SaysOfRead-reading words (paths_view c.in-Some.paths) status (g.S.Source.asked c.args.source.now) (g.S.Source.asked c.read_input.new.source) _ _ _ _ _ _ (sym c.in-Some.ensures) c.in-Err.ensures.status c.in-Err.ensures.cut c.in-Err.ensures.read_fault in
    SaysOfRead-status words status _ _ _ _ _ _ _ _ _ c.refuse-in-Err.ensures.status says

pub returns-in-Err-sections_of-clause-all_read : goal.returns-in-Err-sections_of-clause-all_read
returns-in-Err-sections_of-clause-all_read g c =
    let read = c.in-Ok.ensures.input in
    ReadsAll-read (g.S.Source.files c.args.source.now) (map string_bytes c.args.words.now) (paths_view c.in-Some.paths) read.0 _ _ _ (sym c.in-Some.ensures) read.2 c.in-Ok.ensures.all_opened read.3

pub returns-in-Err-sections_of-clause-of_read : goal.returns-in-Err-sections_of-clause-of_read
returns-in-Err-sections_of-clause-of_read g c =
    let words = map string_bytes c.args.words.now in
    let status = failure_status c.in-Err-sections_of.failure in
    let read = c.in-Ok.ensures.input in
    let of_text = c.in-Err-sections_of.ensures in
    let says = SaysOfRead-text (g.S.Source.files c.args.source.now) words (paths_view c.in-Some.paths) read.0 status _ _ _ _ _ _ _ _ read.2 read.3 of_text.status (of_text.causes read.0 read.1) (of_text.complete read.0 read.1) in
    SaysOfRead-status words status _ _ _ _ _ _ _ _ _ c.refuse-in-Err-sections_of.ensures.status says

pub returns-in-Ok-print_sections-clause-all_read : goal.returns-in-Ok-print_sections-clause-all_read
returns-in-Ok-print_sections-clause-all_read g c =
    let read = c.in-Ok.ensures.input in
    ReadsAll-read (g.S.Source.files c.args.source.now) (map string_bytes c.args.words.now) (paths_view c.in-Some.paths) read.0 _ _ _ (sym c.in-Some.ensures) read.2 c.in-Ok.ensures.all_opened read.3

pub returns-in-Ok-print_sections-clause-of_read : goal.returns-in-Ok-print_sections-clause-of_read
returns-in-Ok-print_sections-clause-of_read g c =
    let words = map string_bytes c.args.words.now in
    let read = c.in-Ok.ensures.input in
    let says = SaysOfRead-written (g.S.Source.files c.args.source.now) words (paths_view c.in-Some.paths) read.0 (printed (map section_view c.in-Ok-sections_of.sections.items)) _ _ _ _ _ _ _ _ read.2 read.3 (c.in-Ok-sections_of.ensures.causes read.0 read.1) (c.in-Ok-sections_of.ensures.carried read.0 read.1) (rw c.deref.ensures.value at c.in-Ok-print_sections.ensures.whole) in
    SaysOfRead-status words 0 _ _ _ _ _ _ _ _ _ c.code.ensures says

pub returns-clause-all_read : goal.returns-clause-all_read
returns-clause-all_read g c =
    let read = c.in-Ok.ensures.input in
    ReadsAll-read (g.S.Source.files c.args.source.now) (map string_bytes c.args.words.now) (paths_view c.in-Some.paths) read.0 _ _ _ (sym c.in-Some.ensures) read.2 c.in-Ok.ensures.all_opened read.3

pub returns-clause-of_read : goal.returns-clause-of_read
returns-clause-of_read g c =
    let words = map string_bytes c.args.words.now in
    let read = c.in-Ok.ensures.input in
    let says = SaysOfRead-front (g.S.Source.files c.args.source.now) words (paths_view c.in-Some.paths) read.0 (printed (map section_view c.in-Ok-sections_of.sections.items)) _ _ _ _ _ _ _ _ read.2 read.3 (TextCauses-write read.0 (c.in-Ok-sections_of.ensures.causes read.0 read.1)) (c.in-Ok-sections_of.ensures.carried read.0 read.1) (rw c.deref.ensures.value at c.in-Err-print_sections.ensures.front) c.in-Err-print_sections.ensures.cause.failed in
    SaysOfRead-status words 8 _ _ _ _ _ _ _ _ _ c.refuse-in-Err-print_sections.ensures.status says

pub returns-in-Ok-print_sections-clause-means : goal.returns-in-Ok-print_sections-clause-means
returns-in-Ok-print_sections-clause-means g c = λ zero.
    run-means (g.S.Source.files c.args.source.now) (map string_bytes c.args.words.now) _ _ _ _ _ _ _ _ _ zero (returns-in-Ok-print_sections-clause-carried g c zero) (returns-in-Ok-print_sections-clause-of_read g c)
