use Rattle.std.proofs.Common.{◌≡◌, refl, ◌∷◌, Some, None, map, sym, ap, ◌∙◌, subst, arith, rules}
use Rattle.std.proofs.Common.{length, ◌<◌}
use Rattle.json.specs.Token.{Token}
use Rattle.json.specs.Json.{after_end_array, read_key, value}
use Rattle.json.specs.Reads.{token_of}
use Rattle.json.proofs.Grammar.{value_is}
use Rattle.serde_json.specs.Data.{boolean, null, number, string}
use Rattle.serde_json.specs.Read.{of_json, converted}
use Rattle.serde_json.specs.View.{view, items_view, members_view, number_view}
use Rattle.serde_json.specs.declared.value.Value.{String, Number, Bool, Null, the_lemmas}
use Rattle.serde_json.proofs.Views.{view-Array, view-Object}
use Rattle.dwc_map.specs.ByTokens.{Puts, Tells}
use Rattle.dwc_map.proofs.TokenLists.{ItemsAlong, array-read, items-next, items-over, items-read, map-push}
use Rattle.dwc_map.proofs.TokenMembers.{fields-next, fields-over, object-read}
use Rattle.dwc_map.proofs.tokens.+read.Goals as goal

pub read_items-items-preserved : goal.read_items-items-preserved
read_items-items-preserved t c =
    let l = c.items in
    let going : (after_end_array l.reader ≡ None) × (c.take_end_array.new.self ≡ l.reader) = grind arith in
    let done = c.in_ok-item.ensures in
    let v = c.in_ok-item.item in
    let r = c.read_value.new.reader in
    let less : length r < length l.reader = rw (← going.1) done.shorter in
    let told : Tells c.args.depth (λ d. Some d) l.reader (view v) r = record { found = view v; read = rw (← going.1) done.value; is = refl } in
    subst (ItemsAlong (λ d. Some d) c.args.depth c.args.reader.now r) (sym (ap (map view) c.in_ok-push.ensures.items ∙ map-push view l.found.items v))
    (items-next (λ d. Some d) c.args.depth c.args.reader.now l.reader r (map view l.found.items) (view v) going.0 told less l.invariant)

pub read_items-returns-clause-value : goal.read_items-returns-clause-value
read_items-returns-clause-value t c =
    let l = c.items in
    let r = c.take_end_array.new.self in
    let over : after_end_array l.reader ≡ Some r = grind arith in
    items-read c.args.depth c.args.reader.now r (map view l.found.items) (items-over (λ d. Some d) c.args.depth c.args.reader.now l.reader r (map view l.found.items) over l.invariant)

pub read_members-members-preserved : goal.read_members-members-preserved
read_members-members-preserved t c =
    let l = c.members in
    let name = c.in-Some.name in
    let behind = c.next_key.new.self in
    let key : read_key l.reader ≡ Some (Some name.now, behind) = grind arith in
    let done = c.in_ok-member.ensures in
    let r = c.read_value.new.reader in
    let puts : Puts c.args.depth name.now behind (members_view l.found.entries) (members_view c.put_value.new.members.entries) r = record { found = view c.in_ok-member.member; read = done.value; is = c.in_ok-put_value.ensures } in
    fields-next c.args.depth c.args.reader.now l.reader behind r name.now (members_view l.found.entries) (members_view c.put_value.new.members.entries) key puts (grind arith) l.invariant

pub read_members-returns-clause-value : goal.read_members-returns-clause-value
read_members-returns-clause-value t c =
    let l = c.members in
    let r = c.next_key.new.self in
    let over : read_key l.reader ≡ Some (None, r) = grind arith in
    fields-over c.args.depth c.args.reader.now l.reader r (members_view l.found.entries) over l.invariant

pub read_value-returns-in_ok-from_str-in-String-clause-value : goal.read_value-returns-in_ok-from_str-in-String-clause-value
read_value-returns-in_ok-from_str-in-String-clause-value t c =
    let first : c.args.reader.now ≡ token_of c.in-Some.token ∷ c.next.new.self = grind arith in
    let is : c.args.reader.now ≡ Token.string c.in-String.text.now ∷ c.next.new.self = grind (arith, first) in
    let seen : view (String c.in_ok-from_str-in-String.field-0) ≡ string c.in-String.text.now = search (rules, the_lemmas) in
    ap (converted of_json) (ap (value c.args.depth) is ∙ value_is c.args.depth _) ∙ ap (λ d. Some (d, c.next.new.self)) (sym seen)

pub read_value-returns-in-Bool-clause-value : goal.read_value-returns-in-Bool-clause-value
read_value-returns-in-Bool-clause-value t c =
    let first : c.args.reader.now ≡ token_of c.in-Some.token ∷ c.next.new.self = grind arith in
    let is : c.args.reader.now ≡ Token.boolean c.in-Bool.truth ∷ c.next.new.self = grind (arith, first) in
    let seen : view (Bool c.in-Bool.truth) ≡ boolean c.in-Bool.truth = search (rules, the_lemmas) in
    ap (converted of_json) (ap (value c.args.depth) is ∙ value_is c.args.depth _) ∙ ap (λ d. Some (d, c.next.new.self)) (sym seen)

pub read_value-returns-in-Null-clause-value : goal.read_value-returns-in-Null-clause-value
read_value-returns-in-Null-clause-value t c =
    let first : c.args.reader.now ≡ token_of c.in-Some.token ∷ c.next.new.self = grind arith in
    let is : c.args.reader.now ≡ Token.null ∷ c.next.new.self = grind (arith, first) in
    let seen : view (Null) ≡ null = search (rules, the_lemmas) in
    ap (converted of_json) (ap (value c.args.depth) is ∙ value_is c.args.depth _) ∙ ap (λ d. Some (d, c.next.new.self)) (sym seen)

pub read_value-returns-in-Some-number_of-clause-value : goal.read_value-returns-in-Some-number_of-clause-value
read_value-returns-in-Some-number_of-clause-value t c =
    let first : c.args.reader.now ≡ token_of c.in-Some.token ∷ c.next.new.self = grind arith in
    let is : c.args.reader.now ≡ Token.number c.in-Number.text.now ∷ c.next.new.self = grind (arith, first) in
    let seen : view (Number c.in-Some-number_of.number) ≡ number (number_view c.in-Some-number_of.number) = search (rules, the_lemmas) in
    ap (converted of_json) (ap (value c.args.depth) is ∙ value_is c.args.depth _) ∙ rw (c.in-Some-number_of.ensures, seen)

pub read_value-returns-in_ok-read_items-in-BeginArray-clause-value : goal.read_value-returns-in_ok-read_items-in-BeginArray-clause-value
read_value-returns-in_ok-read_items-in-BeginArray-clause-value t c =
    let first : c.args.reader.now ≡ token_of c.in-Some.token ∷ c.next.new.self = grind arith in
    let is : c.args.reader.now ≡ Token.begin_array ∷ c.next.new.self = first ∙ ap (λ k. token_of k ∷ c.next.new.self) c.in-BeginArray.is in
    let found = c.in_ok-read_items-in-BeginArray in
    array-read c.args.depth c.args.reader.now c.next.new.self c.read_items.new.reader (items_view (found.field-0).items) (omega arith) is found.ensures.value ∙ ap (λ d. Some (d, c.read_items.new.reader)) (sym (view-Array found.field-0))

pub read_value-returns-in_ok-read_members-in-BeginObject-clause-value : goal.read_value-returns-in_ok-read_members-in-BeginObject-clause-value
read_value-returns-in_ok-read_members-in-BeginObject-clause-value t c =
    let first : c.args.reader.now ≡ token_of c.in-Some.token ∷ c.next.new.self = grind arith in
    let is : c.args.reader.now ≡ Token.begin_object ∷ c.next.new.self = first ∙ ap (λ k. token_of k ∷ c.next.new.self) c.in-BeginObject.is in
    let found = c.in_ok-read_members-in-BeginObject in
    object-read c.args.depth c.args.reader.now c.next.new.self c.read_members.new.reader (members_view (found.field-0).entries) (omega arith) is found.ensures.value ∙ ap (λ d. Some (d, c.read_members.new.reader)) (sym (view-Object found.field-0))
