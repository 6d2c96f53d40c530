use Rattle.std.proofs.Common.{◌≡◌, [], ◌∷◌, length, map, string_bytes, Some, refl, ◌∙◌, sym, ap, subst}
use Rattle.std.specs.Prelude.{Any}
use Rattle.std.specs.List.{AllZip}
use Rattle.std.proofs.lemmas.Result.{err_from_is_err_and}
use Rattle.dwc_cli.specs.Calls.{ReadsPaths, ReadsFront}
use Rattle.dwc_cli.specs.Edge.{IsLongFile, IsReadFile}
use Rattle.dwc_cli.specs.Failures.{failure_status, failure_message, fault_message, length_message}
use Rattle.dwc_cli.specs.Answers.{status_of, message_of}
use Rattle.dwc_cli.proofs.CallLaws.{behind-one, ReadsFewer-behind, ReadsFewer-first, ReadsFront-behind}
use Rattle.dwc_cli.proofs.NamedFiles.{Any-more}
use Rattle.dwc_cli.proofs.reading.read_input.Goals as goal

pub returns-in_err-modules-clause-long_file : goal.returns-in_err-modules-clause-long_file
returns-in_err-modules-clause-long_file g c = λ e.
    let files = g.S.Source.files c.args.source.now in
    let paths = map string_bytes c.args.paths.now.module_paths.now in
    let p = err_from_is_err_and c.from_residual-in_err-modules.result c.from_residual-in_err-modules.ensures.1 in
    let four = sym (ap failure_status p.2) ∙ sym (ap status_of p.1) ∙ e in
    let long = subst (λ fs. Any (IsLongFile fs) paths) c.in_ok-map_file.ensures.files (c.in_err-modules.ensures.long_file four) in
    Any-more (IsLongFile files) c.args.paths.now.map_path.now paths long

pub returns-in_err-modules-clause-fault_told : goal.returns-in_err-modules-clause-fault_told
returns-in_err-modules-clause-fault_told g c = λ e.
    let paths = map string_bytes c.args.paths.now.module_paths.now in
    let p = err_from_is_err_and c.from_residual-in_err-modules.result c.from_residual-in_err-modules.ensures.1 in
    let status = sym (ap failure_status p.2) ∙ sym (ap status_of p.1) ∙ e in
    let same = sym (ap failure_message p.2) ∙ sym (ap message_of p.1) in
    let told = subst (λ m. Any (λ path. m ≡ fault_message path) paths) same (c.in_err-modules.ensures.fault_told status) in
    Any-more (λ path. message_of c.from_residual-in_err-modules.result ≡ fault_message path) c.args.paths.now.map_path.now paths told

pub returns-in_err-modules-clause-length_told : goal.returns-in_err-modules-clause-length_told
returns-in_err-modules-clause-length_told g c = λ e.
    let paths = map string_bytes c.args.paths.now.module_paths.now in
    let p = err_from_is_err_and c.from_residual-in_err-modules.result c.from_residual-in_err-modules.ensures.1 in
    let status = sym (ap failure_status p.2) ∙ sym (ap status_of p.1) ∙ e in
    let same = sym (ap failure_message p.2) ∙ sym (ap message_of p.1) in
    let told = subst (λ m. Any (λ path. m ≡ length_message path) paths) same (c.in_err-modules.ensures.length_told status) in
    Any-more (λ path. message_of c.from_residual-in_err-modules.result ≡ length_message path) c.args.paths.now.map_path.now paths told

pub returns-clause-input : goal.returns-clause-input
returns-clause-input g c =
    let paths = map string_bytes c.args.paths.now.module_paths.now in
    let modules = map (λ m. m.items) c.in_ok-modules.modules.items in
    let told = c.in_ok-map_file.ensures.file in
    let read = subst (λ fs. AllZip (IsReadFile fs) paths modules) c.in_ok-map_file.ensures.files c.in_ok-modules.ensures.files_read in
    (record { map_bytes = told.0; modules = modules }, record { map_is = told.2; modules = refl }, (told.1, read), behind-one told.0 modules _ _ _ told.3 c.in_ok-modules.ensures.whole)

pub returns-in_err-map_file-clause-asked : goal.returns-in_err-map_file-clause-asked
returns-in_err-map_file-clause-asked g c =
    let p = err_from_is_err_and c.from_residual.result c.from_residual.ensures.1 in
    let status = ap status_of p.1 ∙ ap failure_status p.2 in
    (1, subst (λ s. ReadsPaths s (c.args.paths.now.map_path.now ∷ []) (g.S.Source.faults c.args.source.now) (g.S.Source.faults c.read_map.new.source) (g.S.Source.asked c.args.source.now) (g.S.Source.asked c.read_map.new.source)) (sym status) c.in_err-map_file.ensures.asked)

pub returns-in_err-modules-clause-asked : goal.returns-in_err-modules-clause-asked
returns-in_err-modules-clause-asked g c =
    let p = err_from_is_err_and c.from_residual-in_err-modules.result c.from_residual-in_err-modules.ensures.1 in
    let status = ap status_of p.1 ∙ ap failure_status p.2 in
    let paths = map string_bytes c.args.paths.now.module_paths.now in
    let all = ReadsFront-behind _ c.args.paths.now.map_path.now paths _ _ _ _ _ _ c.in_ok-map_file.ensures.asked c.in_err-modules.ensures.asked in
    subst (λ s. ReadsFront s (c.args.paths.now.map_path.now ∷ paths) (g.S.Source.faults c.args.source.now) (g.S.Source.faults c.read_files.new.source) (g.S.Source.asked c.args.source.now) (g.S.Source.asked c.read_files.new.source)) (sym status) all

pub returns-in_err-modules-clause-fault_named : goal.returns-in_err-modules-clause-fault_named
returns-in_err-modules-clause-fault_named g c = λ e.
    let p = err_from_is_err_and c.from_residual-in_err-modules.result c.from_residual-in_err-modules.ensures.1 in
    let status = sym (ap failure_status p.2) ∙ sym (ap status_of p.1) ∙ e in
    let same = sym (ap failure_message p.2) ∙ sym (ap message_of p.1) in
    c.in_err-modules.ensures.fault_named status ∙ ap Some same

pub returns-in_err-modules-clause-length_named : goal.returns-in_err-modules-clause-length_named
returns-in_err-modules-clause-length_named g c = λ e.
    let p = err_from_is_err_and c.from_residual-in_err-modules.result c.from_residual-in_err-modules.ensures.1 in
    let status = sym (ap failure_status p.2) ∙ sym (ap status_of p.1) ∙ e in
    let same = sym (ap failure_message p.2) ∙ sym (ap message_of p.1) in
    c.in_err-modules.ensures.length_named status ∙ ap Some same

pub returns-clause-asked : goal.returns-clause-asked
returns-clause-asked g c =
    ReadsFront-behind 0 c.args.paths.now.map_path.now (map string_bytes c.args.paths.now.module_paths.now) _ _ _ _ _ _ c.in_ok-map_file.ensures.asked c.in_ok-modules.ensures.asked

pub returns-in_err-map_file-clause-cut : goal.returns-in_err-map_file-clause-cut
returns-in_err-map_file-clause-cut g c = λ e.
    let p = err_from_is_err_and c.from_residual.result c.from_residual.ensures.1 in
    let four = sym (ap failure_status p.2) ∙ sym (ap status_of p.1) ∙ e in
    ReadsFewer-first (length (map string_bytes c.args.paths.now.module_paths.now)) (g.S.Source.asked c.args.source.now) (g.S.Source.asked c.read_map.new.source) (c.in_err-map_file.ensures.cut four)

pub returns-in_err-modules-clause-cut : goal.returns-in_err-modules-clause-cut
returns-in_err-modules-clause-cut g c = λ e.
    let p = err_from_is_err_and c.from_residual-in_err-modules.result c.from_residual-in_err-modules.ensures.1 in
    let four = sym (ap failure_status p.2) ∙ sym (ap status_of p.1) ∙ e in
    let told = c.in_ok-map_file.ensures.file in
    ReadsFewer-behind told.0 (length (map string_bytes c.args.paths.now.module_paths.now)) (g.S.Source.asked c.args.source.now) (g.S.Source.asked c.read_map.new.source) (g.S.Source.asked c.read_files.new.source) told.3 (c.in_err-modules.ensures.cut four)

pub returns-clause-all_opened : goal.returns-clause-all_opened
returns-clause-all_opened g c =
    behind-one c.args.paths.now.map_path.now (map string_bytes c.args.paths.now.module_paths.now) _ _ _ c.in_ok-map_file.ensures.asked.opened c.in_ok-modules.ensures.all_opened
