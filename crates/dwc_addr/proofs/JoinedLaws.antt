-- The positions of a piece, joined where they begin at one native offset, in parts.
use Rattle.std.proofs.Common.{◌≡◌, ℕ, suc, ◌<◌, ◌≤◌, refl, sym, ap, subst, ◌∙◌, arith, List, [], ◌∷◌, ◌++◌, Some, None}
use Rattle.std.specs.Prelude.{◌==◌, nat_lt, if◌then◌else◌, option_map, Bool, true, false}
use Rattle.std.specs.Option.{option_or, unwrap_or}
use Rattle.std.specs.List.{AllByRecursion, filter, find}
use Rattle.std.proofs.lemmas.Bool.{eq-eqb, ne_eqb, lt-ltb, le-ltb}
use Rattle.dwc_base.specs.Wasm.{last_of}
use Rattle.dwc_native.specs.Runs.{Position, has_code, joined, joined_positions}

-- ---- what is joined of some positions

-- a test of where a position begins holds of joined positions, where it does of all
joined-each : (P : ℕ → ℕ → Type 0) (p : Position) (js : List Position) → P p.wasm p.start → AllByRecursion (λ (q : Position). P q.wasm q.start) js → AllByRecursion (λ (q : Position). P q.wasm q.start) (joined p js)
joined-each P p [] first h = (first, tt)
joined-each P p (q ∷ qs) first h = go (p.start == q.start)
  where
    go : (b : Bool) → AllByRecursion (λ (x : Position). P x.wasm x.start) (if b then record p { end = if has_code p then p.end else q.end } ∷ qs else p ∷ q ∷ qs)
    go true = (first, h.1)
    go false = (first, h)

pub all-joined : (P : ℕ → ℕ → Type 0) (ps : List Position) → AllByRecursion (λ (q : Position). P q.wasm q.start) ps → AllByRecursion (λ (q : Position). P q.wasm q.start) (joined_positions ps)
all-joined P [] h = tt
all-joined P (p ∷ ps) h = joined-each P p (joined_positions ps) h.0 (all-joined P ps h.1)

-- Joined positions with one in front begin where that does.
pub record Begin (p : Position) (js : List Position) : Type 0 where
  pub first : Position
  pub behind : List Position
  pub is : js ≡ first ∷ behind
  pub wasm : first.wasm ≡ p.wasm
  pub start : first.start ≡ p.start

joined-begin : (p : Position) (js : List Position) → Begin p (joined p js)
joined-begin p [] = record { first = p; behind = []; is = refl; wasm = refl; start = refl }
joined-begin p (q ∷ qs) = go (p.start == q.start)
  where
    go : (b : Bool) → Begin p (if b then record p { end = if has_code p then p.end else q.end } ∷ qs else p ∷ q ∷ qs)
    go true = record { first = record p { end = if has_code p then p.end else q.end }; behind = qs; is = refl; wasm = refl; start = refl }
    go false = record { first = p; behind = q ∷ qs; is = refl; wasm = refl; start = refl }

pub begin-joined : (p : Position) (ps : List Position) → Begin p (joined_positions (p ∷ ps))
begin-joined p ps = joined-begin p (joined_positions ps)

-- ---- parts

joined-more : (p q : Position) (js ks : List Position) → joined p ((q ∷ js) ++ ks) ≡ joined p (q ∷ js) ++ ks
joined-more p q js ks = go (p.start == q.start)
  where
    go : (b : Bool) → ◌≡◌ {A = List Position} (if b then record p { end = if has_code p then p.end else q.end } ∷ (js ++ ks) else p ∷ q ∷ (js ++ ks)) ((if b then record p { end = if has_code p then p.end else q.end } ∷ js else p ∷ q ∷ js) ++ ks)
    go true = refl
    go false = refl

joined-behind : (p : Position) (js ks : List Position) → Begin p js → joined p (js ++ ks) ≡ joined p js ++ ks
joined-behind p js ks b = rw b.is (joined-more p b.first b.behind ks)

joined-ahead : (p : Position) (s : ℕ) (js : List Position) → p.start < s → AllByRecursion (λ (q : Position). s ≤ q.start) js → joined p js ≡ p ∷ js
joined-ahead p s [] less h = refl
joined-ahead p s (q ∷ qs) less h = rw (ne_eqb p.start q.start (λ same. absurd (omega (arith, same, less, h.0)))) refl

-- Positions that begin below a native offset are joined apart from those that do not.
pub joined-apart : (s : ℕ) (ps qs : List Position) → AllByRecursion (λ (p : Position). p.start < s) ps → AllByRecursion (λ (q : Position). s ≤ q.start) qs → joined_positions (ps ++ qs) ≡ joined_positions ps ++ joined_positions qs
joined-apart s [] qs below above = refl
joined-apart s (p ∷ []) qs below above = joined-ahead p s (joined_positions qs) below.0 (all-joined (λ wasm start. s ≤ start) qs above)
joined-apart s (p ∷ r ∷ rs) qs below above =
    let b = begin-joined r rs in
    ap (λ js. joined p js) (joined-apart s (r ∷ rs) qs below.1 above) ∙ begun-behind p r (joined_positions (r ∷ rs)) (joined_positions qs) b
  where
    begun-behind : (x y : Position) (js ks : List Position) → Begin y js → joined x (js ++ ks) ≡ joined x js ++ ks
    begun-behind x y js ks b = rw b.is (joined-more x b.first b.behind ks)

-- ---- positions at one native offset

-- an end lies at or in front of where the next position begins
abbrev pub EndsInFront : Position → List Position → Type 0
EndsInFront p [] = Unit {0}
EndsInFront p (q ∷ qs) = p.end ≤ q.start

abbrev pub EndInFront : List Position → Type 0
EndInFront [] = Unit {0}
EndInFront (p ∷ ps) = EndsInFront p ps × EndInFront ps

-- Positions that begin at one native offset are one, with the first one's wasm offset and the end of the last.
pub record One (p : Position) (ps : List Position) : Type 0 where
  pub one : Position
  pub is : joined_positions (p ∷ ps) ≡ one ∷ []
  pub wasm : one.wasm ≡ p.wasm
  pub start : one.start ≡ p.start
  pub end : one.end ≡ (unwrap_or (last_of ps) p).end

pub one-joined : (s : ℕ) (p : Position) (ps : List Position) → AllByRecursion (λ (q : Position). q.start ≡ s) (p ∷ ps) → EndInFront (p ∷ ps) → One p ps
one-joined s p [] same front = record { one = p; is = refl; wasm = refl; start = refl; end = refl }
one-joined s p (q ∷ qs) same front =
    let more : One q qs = one-joined s q qs same.1 front.1 in
    let at : (p.start == more.one.start) ≡ true = eq-eqb p.start more.one.start (same.0 ∙ sym (more.start ∙ same.1.0)) in
    let none : nat_lt p.start p.end ≡ false = le-ltb p.start p.end (omega (arith, front.0, same.0, same.1.0)) in
    record {
      one = record p { end = more.one.end };
      is = rw (more.is, at, none) refl;
      wasm = refl;
      start = refl;
      end = more.end;
    }

-- ---- look-ups in lists

module _ (test : Position → Bool) where
  find-past : (js ks : List Position) → AllByRecursion (λ (q : Position). test q ≡ false) js → find test (js ++ ks) ≡ find test ks
  find-past [] ks h = refl
  find-past (j ∷ js) ks h = rw h.0 (find-past js ks h.1)

  find-none : (js : List Position) → AllByRecursion (λ (q : Position). test q ≡ false) js → find test js ≡ None
  find-none [] h = refl
  find-none (j ∷ js) h = rw h.0 (find-none js h.1)

  filter-none : (js : List Position) → AllByRecursion (λ (q : Position). test q ≡ false) js → filter test js ≡ []
  filter-none [] h = refl
  filter-none (j ∷ js) h = rw h.0 (filter-none js h.1)

  filter-past : (js ks : List Position) → AllByRecursion (λ (q : Position). test q ≡ false) js → filter test (js ++ ks) ≡ filter test ks
  filter-past [] ks h = refl
  filter-past (j ∷ js) ks h = rw h.0 (filter-past js ks h.1)

  last-passing : (js ks : List Position) (one : Position) → test one ≡ true → AllByRecursion (λ (q : Position). test q ≡ false) ks → last_of (filter test (js ++ one ∷ ks)) ≡ Some one
  last-passing [] ks one passes h = rw (passes, filter-none ks h) refl
  last-passing (j ∷ js) ks one passes h = go (test j) (last-passing js ks one passes h)
    where
      go : (b : Bool) → last_of (filter test (js ++ one ∷ ks)) ≡ Some one → last_of (if b then j ∷ filter test (js ++ one ∷ ks) else filter test (js ++ one ∷ ks)) ≡ Some one
      go true h = rw h refl
      go false h = h

-- from one property of all to another
all-so : (P Q : ℕ → ℕ → Type 0) → ((wasm start : ℕ) → P wasm start → Q wasm start) → (ps : List Position) → AllByRecursion (λ (q : Position). P q.wasm q.start) ps → AllByRecursion (λ (q : Position). Q q.wasm q.start) ps
all-so P Q so [] h = tt
all-so P Q so (p ∷ ps) h = (so p.wasm p.start h.0, all-so P Q so ps h.1)

-- all joined positions of some lie below a wasm offset, or at or above one
joined-below : (a : ℕ) (ps : List Position) → AllByRecursion (λ (p : Position). p.wasm < a) ps → AllByRecursion (λ (p : Position). (p.wasm == a) ≡ false) (joined_positions ps)
joined-below a ps h = all-joined (λ wasm start. (wasm == a) ≡ false) ps (all-so (λ wasm start. wasm < a) (λ wasm start. (wasm == a) ≡ false) (λ wasm start less. ne_eqb wasm a (λ same. absurd (omega (arith, same, less)))) ps h)

joined-above : (a : ℕ) (ps : List Position) → AllByRecursion (λ (p : Position). a < p.wasm) ps → AllByRecursion (λ (p : Position). (p.wasm == a) ≡ false) (joined_positions ps)
joined-above a ps h = all-joined (λ wasm start. (wasm == a) ≡ false) ps (all-so (λ wasm start. a < wasm) (λ wasm start. (wasm == a) ≡ false) (λ wasm start less. ne_eqb wasm a (λ same. absurd (omega (arith, same, less)))) ps h)

joined-not_below : (a : ℕ) (ps : List Position) → AllByRecursion (λ (p : Position). a ≤ p.wasm) ps → AllByRecursion (λ (p : Position). nat_lt p.wasm a ≡ false) (joined_positions ps)
joined-not_below a ps h = all-joined (λ wasm start. nat_lt wasm a ≡ false) ps (all-so (λ wasm start. a ≤ wasm) (λ wasm start. nat_lt wasm a ≡ false) (λ wasm start le. le-ltb wasm a le) ps h)

joined-not_above : (a : ℕ) (ps : List Position) → AllByRecursion (λ (p : Position). p.wasm ≤ a) ps → AllByRecursion (λ (p : Position). nat_lt a p.wasm ≡ false) (joined_positions ps)
joined-not_above a ps h = all-joined (λ wasm start. nat_lt a wasm ≡ false) ps (all-so (λ wasm start. wasm ≤ a) (λ wasm start. nat_lt a wasm ≡ false) (λ wasm start le. le-ltb a wasm le) ps h)

-- ---- where a run begins and ceases to have code

-- where positions begin to have the code from a wasm offset on, in a run that begins at a native offset
abbrev pub start_among : ℕ → ℕ → List Position → ℕ
start_among a start js = unwrap_or (option_or (option_map (λ p. p.start) (find (λ p. p.wasm == a) js)) (option_map (λ p. p.end) (last_of (filter (λ p. nat_lt p.wasm a) js)))) start

-- where they cease to have the code before one, in a run that ends at one
abbrev pub end_among : ℕ → ℕ → List Position → ℕ
end_among a end js = unwrap_or (option_or (option_map (λ p. p.end) (last_of (filter (λ p. p.wasm == a) js))) (option_map (λ p. p.start) (find (λ p. nat_lt a p.wasm) js))) end

-- The first of some positions, where it passes a test of wasm offsets, is the first joined one that does.
found-first : (test : ℕ → Bool) (ps : List Position) (q : Position) (qs : List Position) → ps ≡ q ∷ qs → test q.wasm ≡ true → option_map (λ (x : Position). x.start) (find (λ x. test x.wasm) (joined_positions ps)) ≡ Some q.start
found-first test ps q qs is passes =
    let b = begin-joined q qs in
    rw (is, b.is, b.wasm, passes) (ap Some b.start)

-- Positions in three parts: those that begin below a native offset, those that begin at it, and those that begin above it.
pub record Parts (all below : List Position) (p : Position) (at above : List Position) : Type 0 where
  pub native : ℕ
  pub is : all ≡ below ++ ((p ∷ at) ++ above)
  pub begin_below : AllByRecursion (λ (q : Position). q.start < native) below
  pub begin_at : AllByRecursion (λ (q : Position). q.start ≡ native) (p ∷ at)
  pub begin_above : AllByRecursion (λ (q : Position). native < q.start) above
  pub front : EndInFront (p ∷ at)

module _ (all below : List Position) (p : Position) (at above : List Position) (parts : Parts all below p at above) where
  one : One p at
  one = one-joined parts.native p at parts.begin_at parts.front

  behind-all : (q : Position) (qs : List Position) → AllByRecursion (λ (x : Position). x.start ≡ parts.native) (q ∷ qs) → AllByRecursion (λ (x : Position). parts.native ≤ x.start) ((q ∷ qs) ++ above)
  behind-all q [] h = (omega (arith, h.0), all-so (λ wasm start. parts.native < start) (λ wasm start. parts.native ≤ start) (λ wasm start less. omega (arith, less)) above parts.begin_above)
  behind-all q (r ∷ rs) h = (omega (arith, h.0), behind-all r rs h.1)

  joined-parts : joined_positions all ≡ joined_positions below ++ (one.one ∷ joined_positions above)
  joined-parts =
      ap joined_positions parts.is
      ∙ joined-apart parts.native below ((p ∷ at) ++ above) parts.begin_below (behind-all p at parts.begin_at)
      ∙ ap (λ js. joined_positions below ++ js) (joined-apart (suc parts.native) (p ∷ at) above (all-so (λ wasm start. start ≡ parts.native) (λ wasm start. start < suc parts.native) (λ wasm start same. omega (arith, same)) (p ∷ at) parts.begin_at) parts.begin_above ∙ ap (λ js. js ++ joined_positions above) one.is)

  abbrev last_at : Position
  last_at = unwrap_or (last_of at) p

  -- The start for a wasm offset above those of the first two parts, and not above those of the third: at the first of the third part, where
  -- that has the offset
  pub start-there : (a start : ℕ) (q : Position) (qs : List Position) → above ≡ q ∷ qs → AllByRecursion (λ (x : Position). x.wasm < a) below → p.wasm < a → q.wasm ≡ a → start_among a start (joined_positions all) ≡ q.start
  start-there a start q qs is low less same =
      let there : find (λ (x : Position). x.wasm == a) (joined_positions all) ≡ find (λ x. x.wasm == a) (joined_positions above) =
      rw (joined-parts, find-past (λ x. x.wasm == a) (joined_positions below) (one.one ∷ joined_positions above) (joined-below a below low), ne_eqb one.one.wasm a (λ e. absurd (omega (arith, e, less, one.wasm)))) refl in
      rw (there, found-first (λ w. w == a) above q qs is (eq-eqb q.wasm a same)) refl

  -- and else at the end of the second
  pub start-behind : (a start : ℕ) → AllByRecursion (λ (x : Position). x.wasm < a) below → p.wasm < a → AllByRecursion (λ (x : Position). a < x.wasm) above → start_among a start (joined_positions all) ≡ last_at.end
  start-behind a start low less high =
      let two = all-so (λ wasm start. a < wasm) (λ wasm start. a ≤ wasm) (λ wasm start less. omega (arith, less)) above high in
      let none : find (λ (x : Position). x.wasm == a) (joined_positions all) ≡ None =
      rw (joined-parts, find-past (λ x. x.wasm == a) (joined_positions below) (one.one ∷ joined_positions above) (joined-below a below low), ne_eqb one.one.wasm a (λ e. absurd (omega (arith, e, less, one.wasm)))) (find-none (λ x. x.wasm == a) (joined_positions above) (joined-above a above high)) in
      let last : last_of (filter (λ (x : Position). nat_lt x.wasm a) (joined_positions all)) ≡ Some one.one =
      rw joined-parts (last-passing (λ x. nat_lt x.wasm a) (joined_positions below) (joined_positions above) one.one (lt-ltb one.one.wasm a (omega (arith, less, one.wasm))) (joined-not_below a above two)) in
      rw (none, last) one.end

  -- The end for a wasm offset not below those of the first two parts and below those of the third: at the end of the second, where that has
  -- the offset
  pub end-there : (a end : ℕ) → p.wasm ≡ a → AllByRecursion (λ (x : Position). a < x.wasm) above → end_among a end (joined_positions all) ≡ last_at.end
  end-there a end same high =
      rw (joined-parts, last-passing (λ x. x.wasm == a) (joined_positions below) (joined_positions above) one.one (eq-eqb one.one.wasm a (one.wasm ∙ same)) (joined-above a above high)) one.end

  none-there : (a : ℕ) → AllByRecursion (λ (x : Position). x.wasm < a) below → p.wasm < a → AllByRecursion (λ (x : Position). a < x.wasm) above → filter (λ (x : Position). x.wasm == a) (joined_positions all) ≡ []
  none-there a low less high =
      rw (joined-parts, filter-past (λ x. x.wasm == a) (joined_positions below) (one.one ∷ joined_positions above) (joined-below a below low), ne_eqb one.one.wasm a (λ e. absurd (omega (arith, e, less, one.wasm)))) (filter-none (λ x. x.wasm == a) (joined_positions above) (joined-above a above high))

  find-behind : (a : ℕ) → AllByRecursion (λ (x : Position). x.wasm < a) below → p.wasm < a → find (λ (x : Position). nat_lt a x.wasm) (joined_positions all) ≡ find (λ x. nat_lt a x.wasm) (joined_positions above)
  find-behind a low less =
      let two = all-so (λ wasm start. wasm < a) (λ wasm start. wasm ≤ a) (λ wasm start less. omega (arith, less)) below low in
      rw (joined-parts, find-past (λ x. nat_lt a x.wasm) (joined_positions below) (one.one ∷ joined_positions above) (joined-not_above a below two), le-ltb a one.one.wasm (omega (arith, less, one.wasm))) refl

  -- else where the third begins
  pub end-behind : (a end : ℕ) (q : Position) (qs : List Position) → above ≡ q ∷ qs → AllByRecursion (λ (x : Position). x.wasm < a) below → p.wasm < a → AllByRecursion (λ (x : Position). a < x.wasm) above → end_among a end (joined_positions all) ≡ q.start
  end-behind a end q qs is low less high =
      rw (none-there a low less high, find-behind a low less, found-first (λ w. nat_lt a w) above q qs is (lt-ltb a q.wasm (first-above q qs is high))) refl
    where
      first-above : (q : Position) (qs : List Position) → above ≡ q ∷ qs → AllByRecursion (λ (x : Position). a < x.wasm) above → a < q.wasm
      first-above q qs is high = (subst (λ xs. AllByRecursion (λ (x : Position). a < x.wasm) xs) is high).0

  -- and with the run where there is no third
  pub end-last : (a end : ℕ) → above ≡ [] → AllByRecursion (λ (x : Position). x.wasm < a) below → p.wasm < a → end_among a end (joined_positions all) ≡ end
  end-last a end is low less =
      let high : AllByRecursion (λ (x : Position). a < x.wasm) above = subst (λ xs. AllByRecursion (λ (x : Position). a < x.wasm) xs) (sym is) tt in
      let found : find (λ (x : Position). nat_lt a x.wasm) (joined_positions above) ≡ None = ap (λ xs. find (λ (x : Position). nat_lt a x.wasm) (joined_positions xs)) is in
      rw (none-there a low less high, find-behind a low less, found) refl

-- ---- where all lie at or above a wasm offset

pub start-first : (a start : ℕ) (q : Position) (qs : List Position) → q.wasm ≡ a → start_among a start (joined_positions (q ∷ qs)) ≡ q.start
start-first a start q qs same =
    let b = begin-joined q qs in
    rw (b.is, eq-eqb b.first.wasm a (b.wasm ∙ same)) b.start

pub start-none : (a start : ℕ) (qs : List Position) → AllByRecursion (λ (x : Position). a < x.wasm) qs → start_among a start (joined_positions qs) ≡ start
start-none a start qs high =
    let two = all-so (λ wasm start. a < wasm) (λ wasm start. a ≤ wasm) (λ wasm start less. omega (arith, less)) qs high in
    rw (find-none (λ x. x.wasm == a) (joined_positions qs) (joined-above a qs high), filter-none (λ x. nat_lt x.wasm a) (joined_positions qs) (joined-not_below a qs two)) refl

pub end-first : (a end : ℕ) (q : Position) (qs : List Position) → AllByRecursion (λ (x : Position). a < x.wasm) (q ∷ qs) → end_among a end (joined_positions (q ∷ qs)) ≡ q.start
end-first a end q qs high =
    let b = begin-joined q qs in
    let none : filter (λ (x : Position). x.wasm == a) (joined_positions (q ∷ qs)) ≡ [] = filter-none (λ x. x.wasm == a) (joined_positions (q ∷ qs)) (joined-above a (q ∷ qs) high) in
    let there : find (λ (x : Position). nat_lt a x.wasm) (joined_positions (q ∷ qs)) ≡ Some b.first = rw (b.is, lt-ltb a b.first.wasm (omega (arith, high.0, b.wasm))) refl in
    rw (none, there) b.start
