-- Which position of a run has a native byte, and where the run begins and ceases to have code, seen from that byte.
use Rattle.std.proofs.Common.{◌≡◌, ℕ, suc, ◌<◌, ◌≤◌, refl, sym, ap, subst, ◌∙◌, arith, List, [], ◌∷◌, ◌++◌, Option, Some, None, inl, inr}
use Rattle.std.specs.Prelude.{◌⊎◌, ◌==◌, nat_lt, nat_le, ◌&&◌, if◌then◌else◌, option_map, Bool, true, false}
use Rattle.std.specs.Option.{option_or, unwrap_or}
use Rattle.std.specs.List.{AllByRecursion, filter, find}
use Rattle.std.proofs.lemmas.Bool.{lt-ltb, le-ltb, lt-leb, ltb-true, leb-true, leb-false, eqb-true, eq-eqb, ne_eqb, cases_lt}
use Rattle.dwc_base.specs.Wasm.{last_of}
use Rattle.dwc_native.specs.Runs.{Position, Run, native_end, source_positions, in_front, pieces, joined, joined_positions, first_native, start_in, end_in}
use Rattle.dwc_native.specs.ScopesKept.{entry_for_byte}
use Rattle.dwc_addr.specs.Rising.{RisesFrom}
use Rattle.dwc_addr.proofs.AscendLaws.{Span, Spans, EntriesTo, Inside, Holds, entries-first, span-through, span-inside, last-holds}

-- ---- the source of a byte

-- the source of a byte that a position has; that the first of some has; and of some pieces
abbrev pub source_by : ℕ → Position → Option ℕ
source_by byte p = if nat_le p.start byte && nat_lt byte p.end then Some p.wasm else None

abbrev pub source_in : ℕ → List Position → Option ℕ
source_in byte [] = None
source_in byte (p ∷ ps) = option_or (source_by byte p) (source_in byte ps)

abbrev pub source_among : ℕ → List (List Position) → Option ℕ
source_among byte [] = None
source_among byte (ps ∷ pss) = option_or (source_in byte ps) (source_among byte pss)

by-below : (byte : ℕ) (p : Position) → p.end ≤ byte → source_by byte p ≡ None
by-below byte p le = rw (le-ltb byte p.end le) (go (nat_le p.start byte))
  where
    go : (b : Bool) → ◌≡◌ {A = Option ℕ} (if b && false then Some p.wasm else None) None
    go true = refl
    go false = refl

by-above : (byte : ℕ) (p : Position) → byte < p.start → source_by byte p ≡ None
by-above byte p less = rw (lt-leb p.start byte less) refl

pub in-below : (low high byte : ℕ) (ps : List Position) → Span low high ps → high ≤ byte → source_in byte ps ≡ None
in-below low high byte [] h le = refl
in-below low high byte (p ∷ ps) h le = rw (by-below byte p (omega (arith, le, span-through p.end high ps h.2))) (in-below p.end high byte ps h.2 le)

in-above : (low high byte : ℕ) (ps : List Position) → Span low high ps → byte < low → source_in byte ps ≡ None
in-above low high byte [] h less = refl
in-above low high byte (p ∷ ps) h less = rw (by-above byte p (omega (arith, less, h.0))) (in-above p.end high byte ps h.2 (omega (arith, less, h.0, h.1)))

pub among-above : (low high byte : ℕ) (pss : List (List Position)) → Spans low high pss → byte < low → source_among byte pss ≡ None
among-above low high byte [] h less = refl
among-above low high byte (ps ∷ []) h less = rw (in-above low high byte ps h less) refl
among-above low high byte (ps ∷ qs ∷ pss) h less =
    rw (in-above low (first_native qs) byte ps h.0 less) (among-above (first_native qs) high byte (qs ∷ pss) h.1 (omega (arith, less, span-through low (first_native qs) ps h.0)))

-- pieces have what their positions have
or-behind : (a b c : Option ℕ) → option_or (option_or a b) c ≡ option_or a (option_or b c)
or-behind None b c = refl
or-behind (Some x) b c = refl

front-source : (byte : ℕ) (p : Position) (pss : List (List Position)) → source_among byte (in_front p pss) ≡ option_or (source_by byte p) (source_among byte pss)
front-source byte p [] = or-behind (source_by byte p) None None
front-source byte p ([] ∷ pss) = or-behind (source_by byte p) None (source_among byte pss)
front-source byte p ((q ∷ qs) ∷ pss) = go (nat_lt q.wasm p.wasm)
  where
    go : (b : Bool) → source_among byte (if b then (p ∷ []) ∷ (q ∷ qs) ∷ pss else (p ∷ q ∷ qs) ∷ pss) ≡ option_or (source_by byte p) (source_among byte ((q ∷ qs) ∷ pss))
    go true = or-behind (source_by byte p) None (source_among byte ((q ∷ qs) ∷ pss))
    go false = or-behind (source_by byte p) (source_in byte (q ∷ qs)) (source_among byte pss)

pub pieces-source : (byte : ℕ) (ps : List Position) → source_among byte (pieces ps) ≡ source_in byte ps
pieces-source byte [] = refl
pieces-source byte (p ∷ ps) = front-source byte p (pieces ps) ∙ ap (option_or (source_by byte p)) (pieces-source byte ps)

-- ---- the entry of a byte

some-begun : (low len byte : ℕ) (o : Option ℕ) (es : List (ℕ × Option ℕ)) → EntriesTo low len es → entry_for_byte es byte ≡ Some o → native_end len es ≤ byte
some-begun low len byte o [] h is = absurd (cc)
some-begun low len byte o (e ∷ es) h is = go (entry_for_byte es byte) (λ x same. some-begun e.0 len byte x es h.1 same) (nat_le e.0 byte) refl is
  where
    go : (x : Option (Option ℕ)) → ((y : Option ℕ) → x ≡ Some y → native_end len es ≤ byte) → (b : Bool) → nat_le e.0 byte ≡ b → ◌≡◌ {A = Option (Option ℕ)} (option_or x (if b then Some e.1 else None)) (Some o) → e.0 ≤ byte
    go (Some y) more b eb is = omega (arith, more y refl, entries-first e.0 len es h.1)
    go None more true eb is = leb-true e.0 byte eb
    go None more false eb is = absurd (cc)

none-begun : (len byte : ℕ) (es : List (ℕ × Option ℕ)) → byte < len → entry_for_byte es byte ≡ None → byte < native_end len es
none-begun len byte [] less is = less
none-begun len byte (e ∷ es) less is = go (entry_for_byte es byte) (nat_le e.0 byte) refl is
  where
    go : (x : Option (Option ℕ)) (b : Bool) → nat_le e.0 byte ≡ b → ◌≡◌ {A = Option (Option ℕ)} (option_or x (if b then Some e.1 else None)) None → byte < e.0
    go (Some y) b eb is = absurd (cc)
    go None true eb is = absurd (cc)
    go None false eb is = leb-false e.0 byte eb

-- The source of a byte is that of the position that has it.
pub byte-source : (low len byte source : ℕ) (es : List (ℕ × Option ℕ)) → EntriesTo low len es → byte < len → entry_for_byte es byte ≡ Some (Some source) → source_in byte (source_positions len es) ≡ Some source
byte-source low len byte source [] h less is = absurd (cc)
byte-source low len byte source ((offset, None) ∷ es) h less is = byte-source offset len byte source es h.1 less (go (entry_for_byte es byte) (nat_le offset byte) is)
  where
    go : (x : Option (Option ℕ)) (b : Bool) → ◌≡◌ {A = Option (Option ℕ)} (option_or x (if b then Some None else None)) (Some (Some source)) → x ≡ Some (Some source)
    go (Some y) b is = is
    go None true is = absurd (cc)
    go None false is = absurd (cc)
byte-source low len byte source ((offset, Some wasm) ∷ es) h less is = go (entry_for_byte es byte) refl (nat_le offset byte) refl (λ same. byte-source offset len byte source es h.1 less same) is
  where
    own : Position
    own = record { wasm = wasm; start = offset; end = native_end len es }

    go : (x : Option (Option ℕ)) → entry_for_byte es byte ≡ x → (b : Bool) → nat_le offset byte ≡ b → (entry_for_byte es byte ≡ Some (Some source) → source_in byte (source_positions len es) ≡ Some source)
        → ◌≡◌ {A = Option (Option ℕ)} (option_or x (if b then Some (Some wasm) else None)) (Some (Some source)) → option_or (source_by byte own) (source_in byte (source_positions len es)) ≡ Some source
    go (Some y) ex b eb more is = rw (by-below byte own (some-begun offset len byte y es h.1 ex)) (more (ex ∙ is))
    go None ex true eb more is = rw (eb, lt-ltb byte (native_end len es) (none-begun len byte es less ex)) (cc)
    go None ex false eb more is = absurd (cc)

-- ---- positions around a byte

-- a position beside that of a byte with a source lies on the side of its wasm offset
abbrev pub Around : ℕ → ℕ → Position → Type 0
Around byte source q = (q.wasm < source → (q.start ≤ byte) × (q.end ≤ byte)) × (source < q.wasm → (byte < q.start) × (byte < q.end))

-- One of some positions has a byte, with a source; those before it begin, and those behind it end, on their sides.
pub record HasByte (byte source : ℕ) (ps : List Position) : Type 0 where
  pub front : List Position
  pub own : Position
  pub behind : List Position
  pub is : ps ≡ front ++ (own ∷ behind)
  pub wasm : own.wasm ≡ source
  pub begun : own.start ≤ byte
  pub ended : byte < own.end
  pub before : AllByRecursion (λ (q : Position). q.start ≤ byte) front
  pub after : AllByRecursion (λ (q : Position). byte < q.end) behind
  pub around : AllByRecursion (Around byte source) ps

-- the same, of positions from a native offset and a wasm offset on
record HasFrom (low wasm byte source : ℕ) (ps : List Position) : Type 0 where
  has : HasByte byte source ps
  from : low ≤ byte
  least : wasm ≤ source

all-both : (P Q R : Position → Type 0) → ((q : Position) → P q → Q q → R q) → (ps : List Position) → AllByRecursion P ps → AllByRecursion Q ps → AllByRecursion R ps
all-both P Q R so [] h k = tt
all-both P Q R so (p ∷ ps) h k = (so p h.0 k.0, all-both P Q R so ps h.1 k.1)

pub all-rise : (wasm least : ℕ) (ps : List Position) → least ≤ wasm → RisesFrom (λ (p : Position). p.wasm) wasm ps → AllByRecursion (λ (q : Position). least ≤ q.wasm) ps
all-rise wasm least [] le h = tt
all-rise wasm least (p ∷ ps) le h = (omega (arith, le, h.0), all-rise p.wasm least ps (omega (arith, le, h.0)) h.1)

has-from : (low high wasm byte source : ℕ) (ps : List Position) → Span low high ps → RisesFrom (λ (p : Position). p.wasm) wasm ps → source_in byte ps ≡ Some source → HasFrom low wasm byte source ps
has-from low high wasm byte source [] span rise is = absurd (cc)
has-from low high wasm byte source (p ∷ ps) span rise is = go (nat_le p.start byte) (nat_lt byte p.end) refl refl (λ same. has-from p.end high p.wasm byte source ps span.2 rise.1 same) is
  where
    first : p.start ≤ byte → byte < p.end → p.wasm ≡ source → HasFrom low wasm byte source (p ∷ ps)
    first begun ended same =
        let inside : AllByRecursion (Inside p.end high) ps = span-inside p.end p.end high ps (omega arith) span.2 in
        let above : AllByRecursion (λ (q : Position). p.wasm ≤ q.wasm) ps = all-rise p.wasm p.wasm ps (omega arith) rise.1 in
        record {
          has = record {
            front = [];
            own = p;
            behind = ps;
            is = refl;
            wasm = same;
            begun = begun;
            ended = ended;
            before = tt;
            after = all-both (Inside p.end high) (λ (q : Position). p.wasm ≤ q.wasm) (λ (q : Position). byte < q.end) (λ q i up. omega (arith, i.1, ended)) ps inside above;
            around = ((λ less. absurd (omega (arith, less, same)), λ more. absurd (omega (arith, more, same))), all-both (Inside p.end high) (λ (q : Position). p.wasm ≤ q.wasm) (Around byte source) (λ q i up. (λ less. absurd (omega (arith, less, up, same)), λ more. (omega (arith, i.0, ended), omega (arith, i.1, ended)))) ps inside above);
          };
          from = omega (arith, span.0, begun);
          least = omega (arith, rise.0, same);
        }

    later : HasFrom p.end p.wasm byte source ps → HasFrom low wasm byte source (p ∷ ps)
    later h = record {
      has = record {
        front = p ∷ h.has.front;
        own = h.has.own;
        behind = h.has.behind;
        is = ap (λ qs. p ∷ qs) h.has.is;
        wasm = h.has.wasm;
        begun = h.has.begun;
        ended = h.has.ended;
        before = (omega (arith, span.1, h.from), h.has.before);
        after = h.has.after;
        around = ((λ less. (omega (arith, span.1, h.from), h.from), λ more. absurd (omega (arith, more, h.least))), h.has.around);
      };
      from = omega (arith, span.0, span.1, h.from);
      least = omega (arith, rise.0, h.least);
    }

    go : (a b : Bool) → nat_le p.start byte ≡ a → nat_lt byte p.end ≡ b → (source_in byte ps ≡ Some source → HasFrom p.end p.wasm byte source ps)
        → option_or (if a && b then Some p.wasm else None) (source_in byte ps) ≡ Some source → HasFrom low wasm byte source (p ∷ ps)
    go true true ea eb more is = first (leb-true p.start byte ea) (ltb-true byte p.end eb) (cc)
    go true false ea eb more is = later (more is)
    go false b ea eb more is = later (more is)

-- Positions of a piece that has a byte.
pub has-byte : (low high wasm byte source : ℕ) (ps : List Position) → Span low high ps → RisesFrom (λ (p : Position). p.wasm) wasm ps → source_in byte ps ≡ Some source → HasByte byte source ps
has-byte low high wasm byte source ps span rise is = (has-from low high wasm byte source ps span rise is).has

-- what holds of the wasm offsets of all positions holds of the source
pub source-so : (P : ℕ → Type 0) (byte source : ℕ) (ps : List Position) → AllByRecursion (λ (q : Position). P q.wasm) ps → source_in byte ps ≡ Some source → P source
source-so P byte source [] h is = absurd (cc)
source-so P byte source (p ∷ ps) h is = go (nat_le p.start byte && nat_lt byte p.end) (λ same. source-so P byte source ps h.1 same) is
  where
    go : (b : Bool) → (source_in byte ps ≡ Some source → P source) → option_or (if b then Some p.wasm else None) (source_in byte ps) ≡ Some source → P source
    go true more is = let same : p.wasm ≡ source = cc in subst P same h.0
    go false more is = more is

-- ---- positions at different native offsets

-- each begins above the one before
abbrev pub Climb : ℕ → List Position → Type 0
Climb low [] = Unit {0}
Climb low (p ∷ ps) = (low ≤ p.start) × Climb (suc p.start) ps

pub climb-weaker : (low high : ℕ) (ps : List Position) → low ≤ high → Climb high ps → Climb low ps
climb-weaker low high [] le h = tt
climb-weaker low high (p ∷ ps) le h = (omega (arith, le, h.0), h.1)

all-weaker : (low high : ℕ) (pss : List (List Position)) → low ≤ high → AllByRecursion (Climb high) pss → AllByRecursion (Climb low) pss
all-weaker low high [] le h = tt
all-weaker low high (ps ∷ pss) le h = (climb-weaker low high ps le h.0, all-weaker low high pss le h.1)

front-climbs : (low : ℕ) (p : Position) (pss : List (List Position)) → low ≤ p.start → AllByRecursion (Climb (suc p.start)) pss → AllByRecursion (Climb low) (in_front p pss)
front-climbs low p [] le h = ((le, tt), tt)
front-climbs low p ([] ∷ pss) le h = ((le, tt), all-weaker low (suc p.start) pss (omega (arith, le)) h.1)
front-climbs low p ((q ∷ qs) ∷ pss) le h = go (nat_lt q.wasm p.wasm)
  where
    go : (b : Bool) → AllByRecursion (Climb low) (if b then (p ∷ []) ∷ (q ∷ qs) ∷ pss else (p ∷ q ∷ qs) ∷ pss)
    go true = ((le, tt), all-weaker low (suc p.start) ((q ∷ qs) ∷ pss) (omega (arith, le)) h)
    go false = ((le, h.0), all-weaker low (suc p.start) pss (omega (arith, le)) h.1)

pub pieces-climb : (low : ℕ) (ps : List Position) → Climb low ps → AllByRecursion (Climb low) (pieces ps)
pieces-climb low [] h = (tt, tt)
pieces-climb low (p ∷ ps) h = front-climbs low p (pieces ps) h.0 (pieces-climb (suc p.start) ps h.1)

-- They are joined to themselves.
pub climb-joined : (low : ℕ) (ps : List Position) → Climb low ps → joined_positions ps ≡ ps
climb-joined low [] h = refl
climb-joined low (p ∷ []) h = refl
climb-joined low (p ∷ q ∷ qs) h = ap (joined p) (climb-joined (suc p.start) (q ∷ qs) h.1) ∙ apart (omega (arith, h.1.0))
  where
    apart : p.start < q.start → joined p (q ∷ qs) ≡ p ∷ q ∷ qs
    apart less = rw (ne_eqb p.start q.start (λ same. absurd (omega (arith, same, less)))) refl

-- ---- where a run begins and ceases to have code

-- there is a position, and it has a property
abbrev Present : (Position → Type 0) → Option Position → Type 0
Present P None = ⊥
Present P (Some p) = P p

module _ (P Q : Position → Type 0) (test : Position → Bool) (so : (q : Position) → P q → test q ≡ true → Q q) where
  found-so : (js : List Position) → AllByRecursion P js → Holds Q (find test js)
  found-so [] h = tt
  found-so (j ∷ js) h = go (test j) refl (found-so js h.1)
    where
      go : (b : Bool) → test j ≡ b → Holds Q (find test js) → Holds Q (if b then Some j else find test js)
      go true is more = so j h.0 is
      go false is more = more

  passing-so : (js : List Position) → AllByRecursion P js → AllByRecursion Q (filter test js)
  passing-so [] h = tt
  passing-so (j ∷ js) h = go (test j) refl (passing-so js h.1)
    where
      go : (b : Bool) → test j ≡ b → AllByRecursion Q (filter test js) → AllByRecursion Q (if b then j ∷ filter test js else filter test js)
      go true is more = (so j h.0 is, more)
      go false is more = more

  last-so : (js : List Position) → AllByRecursion P js → Holds Q (last_of (filter test js))
  last-so js h = last-holds Q (filter test js) (passing-so js h)

module _ (P : Position → Type 0) (test : Position → Bool) where
  -- the first that passes is one of those up to one that does
  first-present : (front : List Position) (own : Position) (behind : List Position) → test own ≡ true → AllByRecursion P front → P own → Present P (find test (front ++ (own ∷ behind)))
  first-present [] own behind passes h mine = rw passes mine
  first-present (j ∷ js) own behind passes h mine = go (test j) (first-present js own behind passes h.1 mine)
    where
      go : (b : Bool) → Present P (find test (js ++ (own ∷ behind))) → Present P (if b then Some j else find test (js ++ (own ∷ behind)))
      go true more = h.0
      go false more = more

  -- the last is one of those from it on
  last-present : (front : List Position) (own : Position) (behind : List Position) → test own ≡ true → AllByRecursion P behind → P own → Present P (last_of (filter test (front ++ (own ∷ behind))))
  last-present [] own behind passes h mine = rw passes (go (last_of (filter test behind)) (last-holds P (filter test behind) (passing-so P P test (λ q p is. p) behind h)))
    where
      go : (o : Option Position) → Holds P o → P (unwrap_or o own)
      go None held = mine
      go (Some q) held = held
  last-present (j ∷ js) own behind passes h mine = go (test j) (last-present js own behind passes h mine)
    where
      further : (o : Option Position) → Present P o → Present P (Some (unwrap_or o j))
      further None none = absurd none
      further (Some q) held = held

      go : (b : Bool) → Present P (last_of (filter test (js ++ (own ∷ behind)))) → Present P (last_of (if b then j ∷ filter test (js ++ (own ∷ behind)) else filter test (js ++ (own ∷ behind))))
      go true more = further (last_of (filter test (js ++ (own ∷ behind)))) more
      go false more = more

-- a choice of a start or an end, by what is known of the two positions
start-above : (byte start : ℕ) (o p : Option Position) → Holds (λ (q : Position). byte < q.start) o → Present (λ (q : Position). byte < q.end) p → byte < unwrap_or (option_or (option_map (λ (x : Position). x.start) o) (option_map (λ (x : Position). x.end) p)) start
start-above byte start (Some x) p h k = h
start-above byte start None (Some y) h k = k
start-above byte start None None h k = absurd k

start-at_most : (byte start : ℕ) (o p : Option Position) → Holds (λ (q : Position). q.start ≤ byte) o → Holds (λ (q : Position). q.end ≤ byte) p → start ≤ byte → unwrap_or (option_or (option_map (λ (x : Position). x.start) o) (option_map (λ (x : Position). x.end) p)) start ≤ byte
start-at_most byte start (Some x) p h k le = h
start-at_most byte start None (Some y) h k le = k
start-at_most byte start None None h k le = le

end-at_most : (byte end : ℕ) (o p : Option Position) → Holds (λ (q : Position). q.end ≤ byte) o → Present (λ (q : Position). q.start ≤ byte) p → unwrap_or (option_or (option_map (λ (x : Position). x.end) o) (option_map (λ (x : Position). x.start) p)) end ≤ byte
end-at_most byte end (Some x) p h k = h
end-at_most byte end None (Some y) h k = k
end-at_most byte end None None h k = absurd k

end-above : (byte end : ℕ) (o p : Option Position) → Holds (λ (q : Position). byte < q.end) o → Holds (λ (q : Position). byte < q.start) p → byte < end → byte < unwrap_or (option_or (option_map (λ (x : Position). x.end) o) (option_map (λ (x : Position). x.start) p)) end
end-above byte end (Some x) p h k less = h
end-above byte end None (Some y) h k less = k
end-above byte end None None h k less = less

present-holds : (P : Position → Type 0) (o : Option Position) → Present P o → Holds P o
present-holds P None h = absurd h
present-holds P (Some p) h = h

module _ (byte source a : ℕ) (r : Run) (h : HasByte byte source r.positions) where
  first_at : (test : Position → Bool) → test h.own ≡ true → Present (λ (q : Position). q.start ≤ byte) (find test r.positions)
  first_at test passes = subst (λ js. Present (λ (q : Position). q.start ≤ byte) (find test js)) (sym h.is) (first-present (λ q. q.start ≤ byte) test h.front h.own h.behind passes h.before h.begun)

  last_at : (test : Position → Bool) → test h.own ≡ true → Present (λ (q : Position). byte < q.end) (last_of (filter test r.positions))
  last_at test passes = subst (λ js. Present (λ (q : Position). byte < q.end) (last_of (filter test js))) (sym h.is) (last-present (λ q. byte < q.end) test h.front h.own h.behind passes h.after h.ended)

  -- A byte at or behind where the run begins to have the code from a wasm offset on has a source at or above it,
  pub start-sound : start_in a r ≤ byte → a ≤ source
  start-sound le = go (cases_lt source a)
    where
      go : (source < a) ⊎ (a ≤ source) → a ≤ source
      go (inr past) = past
      go (inl less) = absurd (omega (
        arith,
        le,
        start-above byte r.start (find (λ p. p.wasm == a) r.positions) (last_of (filter (λ p. nat_lt p.wasm a) r.positions))
            (found-so (Around byte source) (λ q. byte < q.start) (λ p. p.wasm == a) (λ q near is. (near.1 (omega (arith, less, eqb-true q.wasm a is))).0) r.positions h.around)
            (last_at (λ p. nat_lt p.wasm a) (lt-ltb h.own.wasm a (omega (arith, less, h.wasm)))),
      ))

  -- and the other way round.
  pub start-whole : r.start ≤ byte → a ≤ source → start_in a r ≤ byte
  start-whole inside le = start-at_most byte r.start (find (λ p. p.wasm == a) r.positions) (last_of (filter (λ p. nat_lt p.wasm a) r.positions))
      (first (cases_lt a source))
      (last-so (Around byte source) (λ q. q.end ≤ byte) (λ p. nat_lt p.wasm a) (λ q near is. (near.0 (omega (arith, le, ltb-true q.wasm a is))).1) r.positions h.around)
      inside
    where
      first : (a < source) ⊎ (source ≤ a) → Holds (λ (q : Position). q.start ≤ byte) (find (λ p. p.wasm == a) r.positions)
      first (inl less) = found-so (Around byte source) (λ q. q.start ≤ byte) (λ p. p.wasm == a) (λ q near is. (near.0 (omega (arith, less, eqb-true q.wasm a is))).0) r.positions h.around
      first (inr past) = present-holds (λ q. q.start ≤ byte) (find (λ p. p.wasm == a) r.positions) (first_at (λ p. p.wasm == a) (eq-eqb h.own.wasm a (omega (arith, le, past, h.wasm))))

  -- A byte before where it ceases to have the code before a wasm offset has a source at or below that,
  pub end-sound : byte < end_in a r → source ≤ a
  end-sound less = go (cases_lt a source)
    where
      go : (a < source) ⊎ (source ≤ a) → source ≤ a
      go (inr past) = past
      go (inl below) = absurd (omega (
        arith,
        less,
        end-at_most byte r.end (last_of (filter (λ p. p.wasm == a) r.positions)) (find (λ p. nat_lt a p.wasm) r.positions)
            (last-so (Around byte source) (λ q. q.end ≤ byte) (λ p. p.wasm == a) (λ q near is. (near.0 (omega (arith, below, eqb-true q.wasm a is))).1) r.positions h.around)
            (first_at (λ p. nat_lt a p.wasm) (lt-ltb a h.own.wasm (omega (arith, below, h.wasm)))),
      ))

  -- and one with a source below it lies there.
  pub end-whole : byte < r.end → source < a → byte < end_in a r
  end-whole inside less = end-above byte r.end (last_of (filter (λ p. p.wasm == a) r.positions)) (find (λ p. nat_lt a p.wasm) r.positions)
      (last-so (Around byte source) (λ q. byte < q.end) (λ p. p.wasm == a) (λ q near is. (near.1 (omega (arith, less, eqb-true q.wasm a is))).1) r.positions h.around)
      (found-so (Around byte source) (λ q. byte < q.start) (λ p. nat_lt a p.wasm) (λ q near is. (near.1 (omega (arith, less, ltb-true a q.wasm is))).0) r.positions h.around)
      inside
