-- Which run of a function has a native byte with a source, where its address map is good and no two sources stand at one native offset.
use Rattle.std.proofs.Common.{◌≡◌, ℕ, suc, ◌-◌, ◌<◌, ◌≤◌, refl, sym, ap, subst, ◌∙◌, arith, List, [], ◌∷◌, map, Option, Some, None, inl, inr}
use Rattle.std.specs.Prelude.{◌⊎◌, ◌==◌, ◌≢◌, nat_lt, nat_le, ◌&&◌, if◌then◌else◌, option_and_then, Bool, true, false, All, AllPairs}
use Rattle.std.specs.Option.{option_or, unwrap_or}
use Rattle.std.specs.List.{AllByRecursion, filter_map}
use Rattle.std.proofs.lemmas.Bool.{leb-true, cases_lt}
use Rattle.std.proofs.lemmas.List.Elements.{All-head, All-tail}
use Rattle.dwc_base.specs.declared.records.MapFault.{MapFault}
use Rattle.dwc_base.specs.declared.records.MapFault.TheVariants.{BodyOffset, BeforeCodeSection, Reversed, CodeFalls, CodePastBody, SourceOutside}
use Rattle.dwc_native.specs.Functions.{AddressMap, Function, Recorded, recorded_entry, wasm_entry, map_fault, bounds_fault, entry_fault, is_source_within}
use Rattle.dwc_native.specs.Runs.{Position, Run, source_positions, in_front, pieces, joined_positions, first_wasm, last_wasm, first_native, runs_from, runs, HasGoodMap}
use Rattle.dwc_native.specs.ScopesKept.{entry_for_byte, source_of_byte, HasDistinctSources}
use Rattle.dwc_base.proofs.InLists.{IsIn}
use Rattle.dwc_addr.specs.Rising.{RisesFrom}
use Rattle.dwc_addr.proofs.AscendLaws.{Span, Spans, EntriesTo, RunSpan, Inside, span-through, positions-span, pieces-spans, good-to, good-runs}
use Rattle.dwc_addr.proofs.PieceLaws.{PieceRises, pieces-rise}
use Rattle.dwc_addr.proofs.HasLaws.{some-pieces}
use Rattle.dwc_addr.proofs.ByteLaws.{source_in, source_among, in-below, among-above, pieces-source, byte-source, HasByte, has-byte, source-so, all-rise, Climb, climb-weaker, pieces-climb, climb-joined}

-- ---- runs that have a byte

-- A run has a byte with a source, and the source lies in the run.
pub record RunHas (byte source : ℕ) (r : Run) : Type 0 where
  pub has : HasByte byte source r.positions
  pub from : r.wasm_start ≤ source
  pub to : source ≤ r.wasm_end

-- a run has the byte if it lies in its native code
abbrev pub HasIfIn : ℕ → ℕ → Run → Type 0
HasIfIn byte source r = r.start ≤ byte → byte < r.end → RunHas byte source r

run-has : (byte source from to low high start end : ℕ) (ps : List Position) → Span low high ps → PieceRises ps → Climb 0 ps → AllByRecursion (λ (q : Position). from ≤ q.wasm) ps → AllByRecursion (λ (q : Position). q.wasm ≤ to) ps → source_in byte ps ≡ Some source
    → RunHas byte source (record { wasm_start = from; wasm_end = to; start = start; end = end; positions = joined_positions ps })
run-has byte source from to low high start end ps span rise climb least most is = record {
  has = subst (HasByte byte source) (sym (climb-joined 0 ps climb)) (has-byte low high 0 byte source ps span rise is);
  from = source-so (λ w. from ≤ w) byte source ps least is;
  to = source-so (λ w. w ≤ to) byte source ps most is;
}

-- rising wasm offsets lie from the first to the last
to-last : (wasm : ℕ) (ps : List Position) → RisesFrom (λ (p : Position). p.wasm) wasm ps → AllByRecursion (λ (q : Position). q.wasm ≤ last_wasm ps) ps
to-last wasm [] h = tt
to-last wasm (p ∷ []) h = (omega arith, tt)
to-last wasm (p ∷ q ∷ qs) h = let more = to-last p.wasm (q ∷ qs) h.1 in (omega (arith, h.1.0, more.0), more)

from-first : (ps : List Position) → PieceRises ps → AllByRecursion (λ (q : Position). first_wasm ps ≤ q.wasm) ps
from-first [] h = tt
from-first (p ∷ ps) h = (omega arith, all-rise p.wasm p.wasm ps (omega arith) h.1)

here : (x y : Option ℕ) (source : ℕ) → y ≡ None → option_or x y ≡ Some source → x ≡ Some source
here (Some x) y source none is = is
here None y source none is = absurd (cc)

there : (x y : Option ℕ) (source : ℕ) → x ≡ None → option_or x y ≡ Some source → y ≡ Some source
there None y source none is = is
there (Some x) y source none is = absurd (cc)

module _ (f : Function) (byte source : ℕ) where
  -- each run of some pieces that the byte is in has it
  runs-have : (wasm native : ℕ) (ps : List Position) (pss : List (List Position)) → Spans native f.length (ps ∷ pss) → AllByRecursion PieceRises (ps ∷ pss) → AllByRecursion (Climb 0) (ps ∷ pss)
      → AllByRecursion (AllByRecursion (λ (q : Position). q.wasm ≤ f.end)) (ps ∷ pss) → AllByRecursion (λ (q : Position). wasm ≤ q.wasm) ps → (native ≤ byte → source_among byte (ps ∷ pss) ≡ Some source)
      → AllByRecursion (HasIfIn byte source) (runs_from f wasm native (ps ∷ pss))
  runs-have wasm native ps [] spans rise climb within least is =
      (λ begun ended. run-has byte source wasm f.end native f.length native f.length ps spans rise.0 climb.0 least within.0 (here (source_in byte ps) None source refl (is begun)), tt)
  runs-have wasm native ps (qs ∷ pss) spans rise climb within least is = (
    λ begun ended. run-has byte source wasm (last_wasm ps) native (first_native qs) native (first_native qs) ps spans.0 rise.0 climb.0 least (to-last 0 ps rise.0) (here (source_in byte ps) (source_among byte (qs ∷ pss)) source (among-above (first_native qs) f.length byte (qs ∷ pss) spans.1 ended) (is begun)),
    runs-have (first_wasm qs) (first_native qs) qs pss spans.1 rise.1 climb.1 within.1 (from-first qs rise.1.0) (λ past. there (source_in byte ps) (source_among byte (qs ∷ pss)) source (in-below native (first_native qs) byte ps spans.0 past) (is (omega (arith, past, span-through native (first_native qs) ps spans.0)))),
  )

-- ---- runs one behind another

abbrev pub Chain : ℕ → ℕ → List Run → Type 0
Chain low high [] = high ≤ low
Chain low high (r ∷ rs) = (r.start ≡ low) × Chain r.end high rs

runs-chain : (f : Function) (wasm native : ℕ) (ps : List Position) (pss : List (List Position)) → Chain native f.length (runs_from f wasm native (ps ∷ pss))
runs-chain f wasm native ps [] = (refl, omega arith)
runs-chain f wasm native ps (qs ∷ pss) = (refl, runs-chain f (first_wasm qs) (first_native qs) qs pss)

-- the run that a byte is in
pub record RunAt (byte : ℕ) (rs : List Run) : Type 0 where
  pub run : Run
  pub among : IsIn run rs
  pub begun : run.start ≤ byte
  pub ended : byte < run.end

pub run-at : (low high byte : ℕ) (rs : List Run) → Chain low high rs → low ≤ byte → byte < high → RunAt byte rs
run-at low high byte [] h begun ended = absurd (omega (arith, h, begun, ended))
run-at low high byte (r ∷ rs) h begun ended = go (cases_lt byte r.end) (λ past. run-at r.end high byte rs h.1 past ended)
  where
    further : RunAt byte rs → RunAt byte (r ∷ rs)
    further at = record { run = at.run; among = inr at.among; begun = at.begun; ended = at.ended }

    go : (byte < r.end) ⊎ (r.end ≤ byte) → (r.end ≤ byte → RunAt byte rs) → RunAt byte (r ∷ rs)
    go (inl less) more = record { run = r; among = inl refl; begun = omega (arith, h.0, begun); ended = less }
    go (inr past) more = further (more past)

-- ---- functions with good maps

-- what holds of all positions holds of those of pieces
front-all : (P : Position → Type 0) (p : Position) (pss : List (List Position)) → P p → AllByRecursion (AllByRecursion P) pss → AllByRecursion (AllByRecursion P) (in_front p pss)
front-all P p [] first h = ((first, tt), tt)
front-all P p ([] ∷ pss) first h = ((first, tt), h.1)
front-all P p ((q ∷ qs) ∷ pss) first h = go (nat_lt q.wasm p.wasm)
  where
    go : (b : Bool) → AllByRecursion (AllByRecursion P) (if b then (p ∷ []) ∷ (q ∷ qs) ∷ pss else (p ∷ q ∷ qs) ∷ pss)
    go true = ((first, tt), h)
    go false = ((first, h.0), h.1)

pieces-all : (P : Position → Type 0) (ps : List Position) → AllByRecursion P ps → AllByRecursion (AllByRecursion P) (pieces ps)
pieces-all P [] h = (tt, tt)
pieces-all P (p ∷ ps) h = front-all P p (pieces ps) h.0 (pieces-all P ps h.1)

-- sources at different native offsets are positions that begin at different ones
raised : (low : ℕ) (ps : List Position) → Climb low ps → AllByRecursion (λ (q : Position). low ≢ q.start) ps → Climb (suc low) ps
raised low [] h apart = tt
raised low (p ∷ ps) h apart = (omega (arith, h.0, apart.0), h.1)

apart-starts : (native len : ℕ) (es : List (ℕ × Option ℕ)) → All (λ (g : Recorded). native ≢ g.native) (filter_map recorded_entry es) → AllByRecursion (λ (q : Position). native ≢ q.start) (source_positions len es)
apart-starts native len [] h = tt
apart-starts native len ((offset, None) ∷ es) h = apart-starts native len es h
apart-starts native len ((offset, Some wasm) ∷ es) h = (
  All-head (λ (g : Recorded). native ≢ g.native) (record { native = offset; wasm = wasm }) (filter_map recorded_entry es) h,
  apart-starts native len es (All-tail (λ (g : Recorded). native ≢ g.native) (record { native = offset; wasm = wasm }) (filter_map recorded_entry es) h),
)

positions-climb : (low len : ℕ) (es : List (ℕ × Option ℕ)) → EntriesTo low len es → AllPairs (λ (e g : Recorded). e.native ≢ g.native) (filter_map recorded_entry es) → Climb low (source_positions len es)
positions-climb low len [] h apart = tt
positions-climb low len ((offset, None) ∷ es) h apart = climb-weaker low offset (source_positions len es) h.0 (positions-climb offset len es h.1 apart)
positions-climb low len ((offset, Some wasm) ∷ es) h apart = (
  h.0,
  raised offset (source_positions len es) (positions-climb offset len es h.1 (λ i j d less inside. apart (suc i) (suc j) d (omega (arith, less)) (omega (arith, inside))))
      (apart-starts offset len es (λ k d inside. apart 0 (suc k) d (omega arith) (omega (arith, inside)))),
)

-- the sources of a good map lie from its start to its end
sources-within : (start end len code : ℕ) (es : List (ℕ × Option ℕ)) → entry_fault start end len code es ≡ None → AllByRecursion (λ e. is_source_within start end e.1 ≡ true) es
sources-within start end len code [] = λ h. tt
sources-within start end len code (e ∷ es) = go (nat_lt e.0 code) (nat_lt len e.0) (is_source_within start end e.1) refl (sources-within start end len e.0 es)
  where
    go : (a b c : Bool) → is_source_within start end e.1 ≡ c → (entry_fault start end len e.0 es ≡ None → AllByRecursion (λ e. is_source_within start end e.1 ≡ true) es)
        → ◌≡◌ {A = Option MapFault} (if a then Some CodeFalls else (if b then Some CodePastBody else (if c then entry_fault start end len e.0 es else Some SourceOutside))) None
        → AllByRecursion (λ e. is_source_within start end e.1 ≡ true) (e ∷ es)
    go true b c is more h = absurd (cc)
    go false true c is more h = absurd (cc)
    go false false false is more h = absurd (cc)
    go false false true is more h = (is, more h)

-- a position lies from a wasm offset to another
abbrev pub Within : ℕ → ℕ → Position → Type 0
Within start end q = (start ≤ q.wasm) × (q.wasm ≤ end)

counted-within : (code_offset start end len : ℕ) (es : List (ℕ × Option ℕ)) → AllByRecursion (λ e. is_source_within start end e.1 ≡ true) es
    → AllByRecursion (Within (start - code_offset) (end - code_offset)) (source_positions len (map (wasm_entry code_offset) es))
counted-within code_offset start end len [] h = tt
counted-within code_offset start end len ((offset, None) ∷ es) h = counted-within code_offset start end len es h.1
counted-within code_offset start end len ((offset, Some source) ∷ es) h = (go (nat_le start source) (nat_le source end) refl refl h.0, counted-within code_offset start end len es h.1)
  where
    go : (a b : Bool) → nat_le start source ≡ a → nat_le source end ≡ b → (a && b) ≡ true → (start - code_offset ≤ source - code_offset) × (source - code_offset ≤ end - code_offset)
    go true true ea eb h = (omega (arith, leb-true start source ea), omega (arith, leb-true source end eb))
    go true false ea eb h = absurd (cc)
    go false b ea eb h = absurd (cc)

good-within : (code_offset : ℕ) (m : AddressMap) → map_fault code_offset m ≡ None
    → AllByRecursion (Within (unwrap_or m.start 0 - code_offset) (unwrap_or m.end 0 - code_offset)) (source_positions m.body_len (map (wasm_entry code_offset) m.entries))
good-within code_offset m h = go (m.body_offset == 0) m.start m.end h
  where
    inner : (start end : ℕ) (a b : Bool) → ◌≡◌ {A = Option MapFault} (if a then Some BeforeCodeSection else (if b then Some Reversed else entry_fault start end m.body_len 0 m.entries)) None
        → AllByRecursion (Within (start - code_offset) (end - code_offset)) (source_positions m.body_len (map (wasm_entry code_offset) m.entries))
    inner start end true b h = absurd (cc)
    inner start end false true h = absurd (cc)
    inner start end false false h = counted-within code_offset start end m.body_len m.entries (sources-within start end m.body_len 0 m.entries h)

    go : (a : Bool) (start end : Option ℕ) → ◌≡◌ {A = Option MapFault} (if a then bounds_fault code_offset m start end else Some BodyOffset) None
        → AllByRecursion (Within (unwrap_or start 0 - code_offset) (unwrap_or end 0 - code_offset)) (source_positions m.body_len (map (wasm_entry code_offset) m.entries))
    go false start end h = absurd (cc)
    go true None end h = absurd (cc)
    go true (Some start) None h = absurd (cc)
    go true (Some start) (Some end) h = inner start end (nat_lt start code_offset) (nat_lt end start) h

-- what the entries and positions of a function with a good map are
record IsSound (f : Function) : Type 0 where
  entries : EntriesTo 0 f.length f.entries
  within : AllByRecursion (Within f.start f.end) (source_positions f.length f.entries)

good-sound : (f : Function) → HasGoodMap f → IsSound f
good-sound f good = subst IsSound (sym good.made) (record { entries = good-to good.code_offset good.address_map good.good; within = good-within good.code_offset good.address_map good.good })

-- The runs of a function with a good map: each that a byte with a source is in has it.
pub function-has : (f : Function) (byte source : ℕ) → HasGoodMap f → HasDistinctSources f → byte < f.length → source_of_byte f byte ≡ Some source → AllByRecursion (HasIfIn byte source) (runs f)
unfolding runs
function-has f byte source good distinct less is =
    go (pieces ps) (some-pieces ps) (pieces-spans 0 f.length ps (positions-span 0 f.length f.entries sound.entries)) (pieces-rise ps) (pieces-climb 0 ps (positions-climb 0 f.length f.entries sound.entries distinct))
    (pieces-all (Within f.start f.end) ps sound.within)
    (pieces-source byte ps ∙ byte-source 0 f.length byte source f.entries sound.entries less (found (entry_for_byte f.entries byte) is))
  where
    sound : IsSound f
    sound = good-sound f good

    ps : List Position
    ps = source_positions f.length f.entries

    found : (o : Option (Option ℕ)) → option_and_then (λ source. source) o ≡ Some source → o ≡ Some (Some source)
    found None h = absurd (cc)
    found (Some o) h = ap Some h

    starts : (qs : List Position) → AllByRecursion (Within f.start f.end) qs → AllByRecursion (λ (q : Position). f.start ≤ q.wasm) qs
    starts [] h = tt
    starts (q ∷ qs) h = (h.0.0, starts qs h.1)

    ends : (qs : List Position) → AllByRecursion (Within f.start f.end) qs → AllByRecursion (λ (q : Position). q.wasm ≤ f.end) qs
    ends [] h = tt
    ends (q ∷ qs) h = (h.0.1, ends qs h.1)

    all-end : (qss : List (List Position)) → AllByRecursion (AllByRecursion (Within f.start f.end)) qss → AllByRecursion (AllByRecursion (λ (q : Position). q.wasm ≤ f.end)) qss
    all-end [] h = tt
    all-end (qs ∷ qss) h = (ends qs h.0, all-end qss h.1)

    go : (pss : List (List Position)) → (pss ≡ [] → ⊥) → Spans 0 f.length pss → AllByRecursion PieceRises pss → AllByRecursion (Climb 0) pss → AllByRecursion (AllByRecursion (Within f.start f.end)) pss → source_among byte pss ≡ Some source
        → AllByRecursion (HasIfIn byte source) (runs_from f f.start 0 pss)
    go [] some spans rise climb within among = absurd (some refl)
    go (qs ∷ qss) some spans rise climb within among = runs-have f byte source f.start 0 qs qss spans rise climb (all-end (qs ∷ qss) within) (starts qs within.0) (λ begun. among)

-- They follow one another from 0 to the function's length.
pub function-chain : (f : Function) → Chain 0 f.length (runs f)
unfolding runs
function-chain f = go (pieces (source_positions f.length f.entries)) (some-pieces (source_positions f.length f.entries))
  where
    go : (pss : List (List Position)) → (pss ≡ [] → ⊥) → Chain 0 f.length (runs_from f f.start 0 pss)
    go [] some = absurd (some refl)
    go (ps ∷ pss) some = runs-chain f f.start 0 ps pss

-- A run lies in a function's native code, and its positions in the run.
abbrev pub IsPlaced : ℕ → Run → Type 0
IsPlaced high r = (r.end ≤ high) × AllByRecursion (Inside r.start r.end) r.positions

span-placed : (low high : ℕ) (rs : List Run) → RunSpan low high rs → (low ≤ high) × AllByRecursion (IsPlaced high) rs
span-placed low high [] h = (h, tt)
span-placed low high (r ∷ rs) h = let more = span-placed r.end high rs h.3 in (omega (arith, h.0, h.1, more.0), ((more.0, h.2), more.1))

pub function-placed : (f : Function) → HasGoodMap f → AllByRecursion (IsPlaced f.length) (runs f)
function-placed f good = (span-placed 0 f.length (runs f) (good-runs f (good-sound f good).entries)).1
