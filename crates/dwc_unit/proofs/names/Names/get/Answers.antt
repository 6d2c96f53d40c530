use Rattle.std.proofs.Common.{◌≡◌, ℕ, List, ◌-◌, ◌<◌, ◌≤◌, ap, ◌∙◌, arith, length, take, drop}
use Rattle.std.specs.Prelude.{slice_index_or}
use Rattle.dwc_unit.specs.NameViews.{AreEnds, cut, start_at}
use Rattle.dwc_unit.proofs.NameLaws.{bounds, cut-length, name-at}
use Rattle.dwc_unit.proofs.names.Names.get.Goals as goal

-- the part that is taken
here : (i start end : ℕ) (es seen bytes : List ℕ) (names : List (List ℕ)) → i < length names → cut 0 es bytes ≡ names → AreEnds 0 es (length bytes) → seen ≡ es → start ≡ start_at 0 seen i → end ≡ slice_index_or es i end → (start ≤ end) × (end ≤ length bytes)
here i start end es seen bytes names inside view ends same starts ended =
    let low : i < length es = omega (arith, inside, cut-length 0 es bytes, ap length view) in
    let both = bounds 0 es (length bytes) i end ends low in
    let first = rw (same) at starts in
    (omega (arith, first, ended, both.0), omega (arith, ended, both.1))

pub start_of-start-requires : goal.start_of-start-requires
start_of-start-requires c = rw (c.deref.ensures.value) (omega (arith, c.requires, cut-length 0 c.self.inside.ends.items c.self.inside.bytes.items, ap length c.self.view_is))

pub index-end-requires : goal.index-end-requires
index-end-requires c = omega (arith, c.requires, cut-length 0 c.self.inside.ends.items c.self.inside.bytes.items, ap length c.self.view_is, c.self.inside.ends.ok.0, c.self.inside.ends.ok.1)

pub slice_bounds-result-count : goal.slice_bounds-result-count
slice_bounds-result-count c = (here c.args.i c.start_of-start.result c.index-end.result.now c.self.inside.ends.items c.deref.result.now c.self.inside.bytes.items c.args.self.now c.requires c.self.view_is c.self.invariant c.deref.ensures.value c.start_of-start.ensures c.index-end.ensures).0

pub slice_bounds-result-start : goal.slice_bounds-result-start
slice_bounds-result-start c = (here c.args.i c.start_of-start.result c.index-end.result.now c.self.inside.ends.items c.deref.result.now c.self.inside.bytes.items c.args.self.now c.requires c.self.view_is c.self.invariant c.deref.ensures.value c.start_of-start.ensures c.index-end.ensures).0

pub slice_bounds-result-end : goal.slice_bounds-result-end
slice_bounds-result-end c =
    let low = (here c.args.i c.start_of-start.result c.index-end.result.now c.self.inside.ends.items c.deref.result.now c.self.inside.bytes.items c.args.self.now c.requires c.self.view_is c.self.invariant c.deref.ensures.value c.start_of-start.ensures c.index-end.ensures).1 in
    let within : c.index-end.result.now ≤ length c.deref-2.result.now = omega (arith, low, ap length c.deref-2.ensures.value) in
    within

pub returns : goal.returns
returns c =
    let es = c.self.inside.ends.items in
    let part = take (c.index-end.result.now - c.start_of-start.result) (drop c.start_of-start.result c.deref-2.result.now) in
    let start = rw (c.deref.ensures.value) at c.start_of-start.ensures in
    let low : c.args.i < length es = omega (arith, c.requires, cut-length 0 es c.self.inside.bytes.items, ap length c.self.view_is) in
    ap (λ s. take (c.index-end.result.now - s) (drop s c.deref-2.result.now)) start ∙ ap (λ e. take (e - start_at 0 es c.args.i) (drop (start_at 0 es c.args.i) c.deref-2.result.now)) c.index-end.ensures
    ∙ ap (λ bytes. take (slice_index_or es c.args.i c.index-end.result.now - start_at 0 es c.args.i) (drop (start_at 0 es c.args.i) bytes)) c.deref-2.ensures.value
    ∙ name-at 0 es c.self.inside.bytes.items c.args.i c.index-end.result.now part low ∙ ap (λ ns. slice_index_or ns c.args.i part) c.self.view_is
