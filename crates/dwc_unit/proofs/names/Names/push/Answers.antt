use Rattle.std.proofs.Common.{ap, ◌∙◌, ◌++◌, ◌∷◌, [], arith}
use Rattle.dwc_unit.proofs.NameLaws.{push-is, push-kept}
use Rattle.dwc_unit.proofs.names.Names.push.Goals as goal

pub invariant_of-self-2 : goal.invariant_of-self-2
invariant_of-self-2 c =
    let more = c.extend_from_slice.new.self in
    let pushed = rw (c.unwrap.ensures, c.in_ok-reserve.ensures.items) at c.push.ensures.items in
    push-kept c.self.inside.ends.items c.push.new.self.items c.self.inside.bytes.items more.items c.args.name.now c.len.result c.self.invariant c.in_ok-extend_from_slice.ensures.items (omega (arith, c.len.ensures, more.ok.0, more.ok.1)) pushed

pub returns-clause-ok : goal.returns-clause-ok
returns-clause-ok c =
    let more = c.extend_from_slice.new.self in
    let pushed = rw (c.unwrap.ensures, c.in_ok-reserve.ensures.items) at c.push.ensures.items in
    push-is c.self.inside.ends.items c.push.new.self.items c.self.inside.bytes.items more.items c.args.name.now c.len.result c.self.invariant c.in_ok-extend_from_slice.ensures.items (omega (arith, c.len.ensures, more.ok.0, more.ok.1)) pushed
    ∙ ap (λ names. names ++ c.args.name.now ∷ []) c.self.view_is
