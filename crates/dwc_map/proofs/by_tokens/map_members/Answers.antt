use Rattle.std.proofs.Common.{◌≡◌, codes, map, Some, None, option_map, sym, ap, ◌∙◌, subst, arith, rules}
use Rattle.std.specs.Prelude.{◌≢◌, IfSome}
use Rattle.json.specs.Json.{read_key}
use Rattle.serde_json.specs.View.{members_view}
use Rattle.dwc_map.proofs.TokenMembers.{MembersAlong, members-field, members-over, members-start, members-told}
use Rattle.dwc_map.specs.MapFile.{modules_of}
use Rattle.dwc_map.specs.MapViews.{module_view, ModulesAreConsistent}
use Rattle.dwc_map.proofs.by_tokens.map_members.Goals as goal

pub members-init : goal.members-init
members-init c =
    record { along = subst (λ es. MembersAlong (codes "modules") modules_of c.args.depth c.args.reader.now c.args.reader.now (members_view es) None) (sym c.new-fields.ensures.empty) (members-start (codes "modules") modules_of c.args.depth c.args.reader.now); records = tt }

pub members-preserved-then-eq : goal.members-preserved-then-eq
members-preserved-then-eq c =
    let l = c.members in
    let name = c.in-Some.name in
    let behind = c.next_key.new.self in
    let key : read_key l.reader ≡ Some (Some name.now, behind) = grind arith in
    let same : name.now ≡ codes "modules" = search rules in
    let named : read_key l.reader ≡ Some (Some (codes "modules"), behind) = key ∙ ap (λ s. Some (Some s, behind)) same in
    record { along = members-told (codes "modules") modules_of c.args.depth c.args.reader.now l.reader behind c.read_modules.new.reader (members_view l.fields.entries) (option_map (λ xs. map module_view xs.items) l.modules) (map module_view (c.in_ok-read_modules.field-0).items) named c.in_ok-read_modules.ensures.told (grind arith) l.invariant.along; records = c.in_ok-read_modules.ensures.records }

pub members-preserved : goal.members-preserved
members-preserved c =
    let l = c.members in
    let name = c.in-Some.name in
    let behind = c.next_key.new.self in
    let key : read_key l.reader ≡ Some (Some name.now, behind) = grind arith in
    let other : name.now ≢ codes "modules" = search rules in
    record { along = members-field (codes "modules") modules_of c.args.depth c.args.reader.now l.reader behind c.read_field.new.reader name.now (members_view l.fields.entries) (members_view c.read_field.new.fields.entries) (option_map (λ xs. map module_view xs.items) l.modules) key other c.in_ok-read_field.ensures.puts (grind arith) l.invariant.along; records = l.invariant.records }

pub returns-in-Some-modules-clause-told : goal.returns-in-Some-modules-clause-told
returns-in-Some-modules-clause-told c =
    let l = c.members in
    let r = c.next_key.new.self in
    let over : read_key l.reader ≡ Some (None, r) = grind arith in
    let x = map module_view (c.in-Some-modules.modules).items in
    members-over (codes "modules") modules_of c.args.depth c.args.reader.now l.reader r (members_view l.fields.entries) x over
    (subst (λ o. MembersAlong (codes "modules") modules_of c.args.depth c.args.reader.now l.reader (members_view l.fields.entries) (option_map (λ xs. map module_view xs.items) o)) c.in-Some-modules.is l.invariant.along)

pub returns-in-Some-modules-clause-records : goal.returns-in-Some-modules-clause-records
returns-in-Some-modules-clause-records c = subst (λ o. IfSome o (λ xs. ModulesAreConsistent xs.items)) c.in-Some-modules.is c.members.invariant.records
