use Rattle.std.proofs.Common.{◌≡◌, ◌<◌, codes, length, Some, None, option_map, sym, subst, arith}
use Rattle.std.specs.FinMap as finite
use Rattle.json.specs.Json.{read_key}
use Rattle.serde_json.specs.View.{members_view}
use Rattle.dwc_isa.specs.CallFrames.{description_view}
use Rattle.dwc_map.proofs.TokenFunctions.{FunctionAlong, function-entries, function-field, function-frame, function-labels, function-over, function-start}
use Rattle.dwc_map.proofs.by_tokens.function_members.Goals as goal

pub members-init : goal.members-init
members-init c =
    let d = c.args.depth in
    let start = c.args.reader.now in
    subst (λ ls. FunctionAlong d start start (members_view c.new-fields.result.entries) None ls None) (sym c.new-labels.ensures)
    (subst (λ es. FunctionAlong d start start (members_view es) None finite.empty None) (sym c.new-fields.ensures.empty) (function-start d start))

pub members-preserved-then-str_eq : goal.members-preserved-then-str_eq
members-preserved-then-str_eq c =
    let l = c.members in
    let behind = c.next_key.new.self in
    let r = c.read_entries.new.reader in
    let done = c.in_ok-read_entries-in-map in
    let key : read_key l.reader ≡ Some (Some (codes "map"), behind) = grind arith in
    let less : length r < length l.reader = grind arith in
    function-entries c.args.depth c.args.reader.now l.reader behind r (members_view l.fields.entries) l.entries l.labels (option_map description_view l.frame) less l.invariant done.field-0 key done.ensures.told

pub members-preserved-then-str_eq-2 : goal.members-preserved-then-str_eq-2
members-preserved-then-str_eq-2 c =
    let l = c.members in
    let behind = c.next_key.new.self in
    let r = c.read_labels.new.reader in
    let done = c.in_ok-labels-in-labels in
    let key : read_key l.reader ≡ Some (Some (codes "labels"), behind) = grind arith in
    let less : length r < length l.reader = grind arith in
    function-labels c.args.depth c.args.reader.now l.reader behind r (members_view l.fields.entries) l.entries l.labels (option_map description_view l.frame) less l.invariant done.labels key done.ensures.told

pub members-preserved-then-str_eq-3 : goal.members-preserved-then-str_eq-3
members-preserved-then-str_eq-3 c =
    let l = c.members in
    let behind = c.next_key.new.self in
    let r = c.read_frame.new.reader in
    let done = c.in_ok-frame-in-frame in
    let key : read_key l.reader ≡ Some (Some (codes "frame"), behind) = grind arith in
    let less : length r < length l.reader = grind arith in
    function-frame c.args.depth c.args.reader.now l.reader behind r (members_view l.fields.entries) l.entries l.labels (option_map description_view l.frame) less l.invariant (option_map description_view done.frame) key done.ensures.told

pub members-preserved : goal.members-preserved
members-preserved c =
    let l = c.members in
    let name = c.in-Some.name.now in
    let behind = c.next_key.new.self in
    let r = c.read_field.new.reader in
    let key : read_key l.reader ≡ Some (Some name, behind) = grind arith in
    let less : length r < length l.reader = grind arith in
    let no = c.in_default-name in
    function-field c.args.depth c.args.reader.now l.reader behind r (members_view l.fields.entries) l.entries l.labels (option_map description_view l.frame) less l.invariant name (members_view c.read_field.new.fields.entries) key no.not-map no.not-labels no.not-frame c.in_ok-read_field-in_default-name.ensures.puts

pub returns-in-Some-entries-clause-told : goal.returns-in-Some-entries-clause-told
returns-in-Some-entries-clause-told c =
    let l = c.members in
    let r = c.next_key.new.self in
    let over : read_key l.reader ≡ Some (None, r) = grind arith in
    let frame = option_map description_view l.frame in
    function-over c.args.depth c.args.reader.now l.reader r (members_view l.fields.entries) c.in-Some-entries.entries l.labels frame over
    (subst (λ o. FunctionAlong c.args.depth c.args.reader.now l.reader (members_view l.fields.entries) o l.labels frame) c.in-Some-entries.is l.invariant)
