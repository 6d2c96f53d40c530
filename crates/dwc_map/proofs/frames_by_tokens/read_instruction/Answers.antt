use Rattle.std.proofs.Common.{◌≡◌, ◌∷◌, ◌-◌, ◌<◌, Some, length, option_and_then, ap, arith}
use Rattle.json.specs.Token as token
use Rattle.json.specs.Json.{after_end_array}
use Rattle.json.proofs.Grammar.{after_end_array-shorter}
use Rattle.serde_json.specs.Data.{item, no_items}
use Rattle.serde_json.specs.View.{view}
use Rattle.dwc_isa.specs.CallFrames.{instruction_view}
use Rattle.dwc_map.specs.ByTokens.{Tells}
use Rattle.dwc_map.specs.MapFrames.{instruction_kinds, instruction_of}
use Rattle.dwc_map.specs.MapValues.{named_in}
use Rattle.dwc_map.proofs.TokenFrames.{instruction-told}
use Rattle.dwc_map.proofs.TokenLists.{if-ok, on-ok}
use Rattle.dwc_map.proofs.TokenShapes.{Reads, items-closed, items-cons, items-nil}
use Rattle.dwc_map.proofs.frames_by_tokens.read_instruction.Goals as goal

pub returns-then-take_end_array-clause-told : goal.returns-then-take_end_array-clause-told
returns-then-take_end_array-clause-told c =
    let d = c.args.depth in
    let old = c.args.reader.now in
    let start = c.begin_list.new.reader in
    let name = c.in-Some-String.name.now in
    let mid = c.next.new.self in
    let new = c.take_end_array.new.self in
    let named : start ≡ token.string name ∷ mid = grind arith in
    let closed : after_end_array mid ≡ Some new = grind arith in
    if-ok (λ op. option_and_then (λ kind. kind no_items) (named_in instruction_kinds name) ≡ Some (instruction_view op)) (λ op. Tells d instruction_of old (instruction_view op) new) c.instruction.result
    (λ op is. instruction-told d old start mid new name no_items (instruction_view op) c.requires c.in_ok-begin_list.ensures named (items-closed (d - 1) mid new closed) is) c.instruction.ensures

pub returns-then-take_end_array-clause-shorter : goal.returns-then-take_end_array-clause-shorter
returns-then-take_end_array-clause-shorter c =
    let old = c.args.reader.now in
    let start = c.begin_list.new.reader in
    let mid = c.next.new.self in
    let new = c.take_end_array.new.self in
    let named : start ≡ token.string c.in-Some-String.name.now ∷ mid = grind arith in
    let closed : after_end_array mid ≡ Some new = grind arith in
    on-ok (length new < length old) c.instruction.result (omega (arith, after_end_array-shorter mid new closed, ap length named, ap length c.in_ok-begin_list.ensures))

pub returns-then-take_end_array-2-clause-told : goal.returns-then-take_end_array-2-clause-told
returns-then-take_end_array-2-clause-told c =
    let d = c.args.depth in
    let old = c.args.reader.now in
    let start = c.begin_list.new.reader in
    let name = c.in-Some-String.name.now in
    let mid = c.next.new.self in
    let last = c.read_whole.new.reader in
    let new = c.take_end_array-2.new.self in
    let first = view c.in_ok-first.first in
    let ds = item first no_items in
    let named : start ≡ token.string name ∷ mid = grind arith in
    let same : c.take_end_array.new.self ≡ mid = grind arith in
    let read : Reads (d - 1) mid first last = rw (← same) (c.in_ok-first.ensures.told (d - 1)) in
    let closed : after_end_array last ≡ Some new = grind arith in
    if-ok (λ op. option_and_then (λ kind. kind ds) (named_in instruction_kinds name) ≡ Some (instruction_view op)) (λ op. Tells d instruction_of old (instruction_view op) new) c.instruction-then-take_end_array-2.result
    (λ op is. instruction-told d old start mid new name ds (instruction_view op) c.requires c.in_ok-begin_list.ensures named
    (items-cons (d - 1) mid last new first no_items read (items-closed (d - 1) last new closed)) is) c.instruction-then-take_end_array-2.ensures

pub returns-clause-told : goal.returns-clause-told
returns-clause-told c =
    let d = c.args.depth in
    let old = c.args.reader.now in
    let start = c.begin_list.new.reader in
    let name = c.in-Some-String.name.now in
    let mid = c.next.new.self in
    let next = c.read_whole.new.reader in
    let last = c.read_whole-2.new.reader in
    let new = c.end_list.new.reader in
    let first = view c.in_ok-first.first in
    let second = view c.in_ok-second.second in
    let ds = item first (item second no_items) in
    let named : start ≡ token.string name ∷ mid = grind arith in
    let same : c.take_end_array.new.self ≡ mid = grind arith in
    let read : Reads (d - 1) mid first next = rw (← same) (c.in_ok-first.ensures.told (d - 1)) in
    let still : c.take_end_array-2.new.self ≡ next = grind arith in
    let more : Reads (d - 1) next second last = rw (← still) (c.in_ok-second.ensures.told (d - 1)) in
    if-ok (λ op. option_and_then (λ kind. kind ds) (named_in instruction_kinds name) ≡ Some (instruction_view op)) (λ op. Tells d instruction_of old (instruction_view op) new) c.instruction-2.result
    (λ op is. instruction-told d old start mid new name ds (instruction_view op) c.requires c.in_ok-begin_list.ensures named
    (items-cons (d - 1) mid next new first (item second no_items) read
    (items-cons (d - 1) next last new second no_items more (items-nil (d - 1) last new c.in_ok-end_list.ensures))) is) c.instruction-2.ensures
