use Rattle.std.proofs.Common.{◌≡◌, ℕ, ◌+◌, ◌++◌, map, get_or, sym, ap, ◌∙◌, arith, append-nil, pos, List, Ok, Some}
use Rattle.std.specs.Prelude.{option_map}
use Rattle.std.proofs.lemmas.Result.{err_from_is_err_and}
use Rattle.dwc_base.specs.Reading.{◌>>=◌, seen_as}
use Rattle.dwc_dwarf.specs.Values.{Value}
use Rattle.dwc_read.specs.declared.attribute_spec.AttributeSpec.{AttributeSpec}
use Rattle.dwc_read.specs.Links.{links_at}
use Rattle.dwc_read.specs.Skips.{passed_bytes}
use Rattle.dwc_read.specs.ValuesSeen.{value_view, attribute_view}
use Rattle.dwc_read.proofs.AttributeLaws.{specs_from}
use Rattle.dwc_read.proofs.LinkValueLaws.{links_at-more, links_at-flaw, links_at-end, named-view, seen-with}
use Rattle.dwc_read.proofs.SkipLaws.{AreSkips-at, links_at-skip}
use Rattle.dwc_read.proofs.links.links.Goals as goal

abbrev none : AttributeSpec
none = record { name = 0; skip = 0; skip_bytes = 0; form = 0; implicit = pos 0 }

pub returns-in_err-take : goal.returns-in_err-take
returns-in_err-take c =
    let p = err_from_is_err_and c.from_residual.result c.from_residual.ensures.1 in
    let unit = c.args.unit.now in
    let specs = c.args.specs.now in
    let i = c.loop-at.at in
    let spec = get_or specs i none in
    let front = seen_as {A = List (ℕ × Value)} (λ ys. map attribute_view c.loop-at.found.items ++ ys) in
    let skip : passed_bytes spec.skip (specs_from i specs) ≡ Some spec.skip_bytes = AreSkips-at specs i none c.requires (omega arith) in
    let cut = links_at-skip unit.sections unit.header specs none spec.skip spec.skip_bytes i c.loop-at.cursor skip
    ∙ ap (λ r. r >>= λ x. links_at unit.sections unit.header (specs_from (i + spec.skip) specs) x.1) c.in_err-take.ensures.read.0 in
    rw (p.1, p.2) (sym c.loop-at.invariant ∙ ap front cut)

pub loop-at-preserved-then-spec-gt0 : goal.loop-at-preserved-then-spec-gt0
loop-at-preserved-then-spec-gt0 c =
    let unit = c.args.unit.now in
    let specs = c.args.specs.now in
    let i = c.loop-at.at in
    let spec = get_or specs i none in
    let front = seen_as {A = List (ℕ × Value)} (λ ys. map attribute_view c.loop-at.found.items ++ ys) in
    let skip : passed_bytes spec.skip (specs_from i specs) ≡ Some spec.skip_bytes = AreSkips-at specs i none c.requires (omega arith) in
    let passed = links_at-skip unit.sections unit.header specs none spec.skip spec.skip_bytes i c.loop-at.cursor skip
    ∙ ap (λ r. r >>= λ x. links_at unit.sections unit.header (specs_from (i + spec.skip) specs) x.1) c.in_ok-take.ensures.read in
    ap front (sym passed) ∙ c.loop-at.invariant

pub returns-in_err-link : goal.returns-in_err-link
returns-in_err-link c =
    let p = err_from_is_err_and c.from_residual-in_err-link.result c.from_residual-in_err-link.ensures.1 in
    let unit = c.args.unit.now in
    let front = seen_as {A = List (ℕ × Value)} (λ ys. map attribute_view c.loop-at.found.items ++ ys) in
    let flaw = links_at-flaw unit.sections unit.header c.args.specs.now c.loop-at.at none c.loop-at.cursor c.loop-at.cursor _ (omega arith) c.in_err-link.ensures in
    rw (p.1, p.2) (sym c.loop-at.invariant ∙ ap front flaw)

pub loop-at-preserved : goal.loop-at-preserved
loop-at-preserved c =
    let unit = c.args.unit.now in
    let specs = c.args.specs.now in
    let i = c.loop-at.at in
    let found = map attribute_view c.loop-at.found.items in
    let name = (get_or specs i none).name in
    let o = option_map (λ x. attribute_view (name, x)) c.in_ok-link.link in
    let rest = links_at unit.sections unit.header (specs_from (i + 1) specs) c.next_link.new.cursor in
    let more = links_at-more unit.sections unit.header specs i none c.loop-at.cursor c.next_link.new.cursor (option_map value_view c.in_ok-link.link) (omega arith) c.in_ok-link.ensures in
    ap (λ front. seen_as (λ ys. front ++ ys) rest) c.in_ok-put_link.ensures
    ∙ seen-with found o rest
    ∙ ap (seen_as (λ ys. found ++ ys)) (named-view name c.in_ok-link.link rest ∙ sym more)
    ∙ c.loop-at.invariant

pub returns : goal.returns
returns c =
    let unit = c.args.unit.now in
    let front = map attribute_view c.loop-at.found.items in
    let end = links_at-end unit.sections unit.header c.args.specs.now c.loop-at.at c.loop-at.cursor c.loop-at-test.false in
    sym c.loop-at.invariant ∙ ap (seen_as (λ ys. front ++ ys)) end ∙ ap (λ ys. Ok (ys, c.loop-at.cursor)) (append-nil front)
