use Rattle.std.proofs.Common.{◌≡◌, codes, map, Some, None, option_map, sym, ap, ◌∙◌, subst, arith, rules}
use Rattle.std.specs.Prelude.{◌≢◌, IfSome}
use Rattle.json.specs.Json.{read_key}
use Rattle.serde_json.specs.View.{members_view}
use Rattle.dwc_map.proofs.TokenMembers.{MembersAlong, members-field, members-over, members-start, members-told}
use Rattle.dwc_map.specs.MapFile.{functions_of}
use Rattle.dwc_map.specs.MapViews.{function_view, AreConsistent}
use Rattle.dwc_map.proofs.by_tokens.module_members.Goals as goal

pub members-init : goal.members-init
members-init c =
    record { along = subst (λ es. MembersAlong (codes "functions") functions_of c.args.depth c.args.reader.now c.args.reader.now (members_view es) None) (sym c.new-fields.ensures.empty) (members-start (codes "functions") functions_of c.args.depth c.args.reader.now); records = tt }

pub members-preserved-then-eq : goal.members-preserved-then-eq
members-preserved-then-eq c =
    let l = c.members in
    let name = c.in-Some.name in
    let behind = c.next_key.new.self in
    let key : read_key l.reader ≡ Some (Some name.now, behind) = grind arith in
    let same : name.now ≡ codes "functions" = search rules in
    let named : read_key l.reader ≡ Some (Some (codes "functions"), behind) = key ∙ ap (λ s. Some (Some s, behind)) same in
    record { along = members-told (codes "functions") functions_of c.args.depth c.args.reader.now l.reader behind c.read_functions.new.reader (members_view l.fields.entries) (option_map (λ xs. map function_view xs.items) l.functions) (map function_view (c.in_ok-read_functions.field-0).items) named c.in_ok-read_functions.ensures.told (grind arith) l.invariant.along; records = c.in_ok-read_functions.ensures.records }

pub members-preserved : goal.members-preserved
members-preserved c =
    let l = c.members in
    let name = c.in-Some.name in
    let behind = c.next_key.new.self in
    let key : read_key l.reader ≡ Some (Some name.now, behind) = grind arith in
    let other : name.now ≢ codes "functions" = search rules in
    record { along = members-field (codes "functions") functions_of c.args.depth c.args.reader.now l.reader behind c.read_field.new.reader name.now (members_view l.fields.entries) (members_view c.read_field.new.fields.entries) (option_map (λ xs. map function_view xs.items) l.functions) key other c.in_ok-read_field.ensures.puts (grind arith) l.invariant.along; records = l.invariant.records }

pub returns-in-Some-functions-clause-told : goal.returns-in-Some-functions-clause-told
returns-in-Some-functions-clause-told c =
    let l = c.members in
    let r = c.next_key.new.self in
    let over : read_key l.reader ≡ Some (None, r) = grind arith in
    let x = map function_view (c.in-Some-functions.functions).items in
    members-over (codes "functions") functions_of c.args.depth c.args.reader.now l.reader r (members_view l.fields.entries) x over
    (subst (λ o. MembersAlong (codes "functions") functions_of c.args.depth c.args.reader.now l.reader (members_view l.fields.entries) (option_map (λ xs. map function_view xs.items) o)) c.in-Some-functions.is l.invariant.along)

pub returns-in-Some-functions-clause-records : goal.returns-in-Some-functions-clause-records
returns-in-Some-functions-clause-records c = subst (λ o. IfSome o (λ xs. AreConsistent xs.items)) c.in-Some-functions.is c.members.invariant.records
