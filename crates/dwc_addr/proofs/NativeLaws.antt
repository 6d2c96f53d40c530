-- What searches by halves find: the first gap of some, and where a run begins and ceases to have code.
use Rattle.std.proofs.Common.{◌≡◌, ℕ, zero, suc, ◌+◌, ◌-◌, ◌<◌, ◌≤◌, refl, sym, ap, subst, add-one, ◌∙◌, arith, List, [], ◌∷◌, map, length, take, drop, get_or, Option, Some, None, inl, inr}
use Rattle.std.specs.Prelude.{◌⊎◌, ◌==◌, nat_lt, if◌then◌else◌, option_map, Bool, true, false}
use Rattle.std.specs.Option.{unwrap_or}
use Rattle.std.specs.List.{AllByRecursion, find}
use Rattle.std.specs.List.Sorted.{IsNonDecreasingBy, IsPartitionPoint}
use Rattle.std.proofs.lemmas.Bool.{ltb-true, ltb-false, lt-ltb, le-ltb, eq-eqb, ne_eqb, eqb-true, cases_lt}
use Rattle.std.proofs.lemmas.List.{length-map, length-drop, length-take-le, get_or-map, get_or-take, get_or-drop, get_or_default, drop_more, drop_all, nil_from_length}
use Rattle.dwc_addr.specs.declared.address_map.AddressMap.{AddressMap}
use Rattle.dwc_addr.specs.declared.function_map.FunctionMap.{FunctionMap}
use Rattle.dwc_compiled.specs.declared.instruction_maps.Gap.{Gap}
use Rattle.dwc_native.specs.Runs.{Position}
use Rattle.dwc_addr.specs.declared.run.Run.{Run}
use Rattle.dwc_compiled.specs.Gaps.{merged}
use Rattle.dwc_addr.specs.Rising.{RisesFrom}
use Rattle.dwc_addr.specs.Runs.{recorded_view}
use Rattle.dwc_addr.specs.RunViews.{positions_of, positions_in, no_source, IsRunOf}
use Rattle.dwc_addr.specs.PositionPlaces.{AreBelow, IsCountBelow, IsCountUpTo, start_at, start_or}
use Rattle.dwc_base.specs.Wasm.{last_of}
use Rattle.dwc_native.specs.Runs.{joined_positions}
use Rattle.dwc_addr.proofs.JoinedLaws.{EndInFront, Parts, start_among, end_among, start-there, start-behind, start-first, start-none as start-none_below, end-there, end-behind, end-last, end-first}
use Rattle.dwc_addr.proofs.PartLaws.{part_of, parts-at, part-last, all-front, all-behind, in_front-between}
use Rattle.dwc_addr.proofs.PieceLaws.{recorded_at, no_position}
use Rattle.dwc_addr.proofs.PositionLaws.{next_source, position-end, ends-in_front, begins-low}
use Rattle.dwc_addr.proofs.RisingLaws.{RisesFrom-from_non_decreasing, RisesFrom-non_decreasing, RisesFrom-seen, RisesFrom-map}
use Rattle.dwc_addr.proofs.RunLaws.{recorded, part-recorded}

-- ---- gaps

module _ {X : Type 0} (test : X → Bool) where
  find-past : (xs : List X) (k : ℕ) (d : X) → k < length xs → ((i : ℕ) → i < k → test (get_or xs i d) ≡ false) → test (get_or xs k d) ≡ true → find test xs ≡ Some (get_or xs k d)
  find-past [] k d less none is = absurd (omega (arith, less))
  find-past (x ∷ xs) zero d less none is = rw is refl
  find-past (x ∷ xs) (suc k) d less none is = rw (none 0 (omega arith)) (find-past xs k d (omega (arith, less)) (λ i below. none (suc i) (omega (arith, below))) is)

  find-absent : (xs : List X) (d : X) → ((i : ℕ) → i < length xs → test (get_or xs i d) ≡ false) → find test xs ≡ None
  find-absent [] d none = refl
  find-absent (x ∷ xs) d none = rw (none 0 (omega arith)) (find-absent xs d (λ i less. none (suc i) (omega (arith, less))))

false-not : ◌≡◌ {A = Bool} false true → ⊥
false-not h = absurd (cc)

-- so many gaps stand in front of one before which so many sources stand
module _ (gs : List Gap) (before k : ℕ) (at : IsPartitionPoint (λ (g : Gap). nat_lt g.before before ≡ true) (λ g. nat_lt g.before before ≡ false) gs k) where
  not-below : (i : ℕ) (d : Gap) → i < k → ((get_or gs i d).before == before) ≡ false
  not-below i d less =
      let low : (get_or gs i d).before < before = ltb-true _ before (at.0 i d (omega arith) less) in
      ne_eqb _ before (λ same. absurd (omega (arith, same, low)))

  pub gap-found : (g : Gap) → k < length gs → get_or gs k g ≡ g → g.before ≡ before → find (λ (x : Gap). x.before == before) gs ≡ Some g
  gap-found g less is same = find-past (λ x. x.before == before) gs k g less (λ i below. not-below i g below) (rw is (eq-eqb g.before before same)) ∙ ap (λ x. Some x) is

  pub gap-other : (g : Gap) → IsNonDecreasingBy (λ (x : Gap). x.before) gs → k < length gs → get_or gs k g ≡ g → (g.before ≡ before → ⊥) → find (λ (x : Gap). x.before == before) gs ≡ None
  gap-other g rises less is other =
      let high : before ≤ (get_or gs k g).before = ltb-false _ before (at.1 k g (omega arith) less) in
      find-absent (λ x. x.before == before) gs g (λ i inside. go i inside (omega (arith, high, ap (λ (x : Gap). x.before) is)) (cases_lt i k))
    where
      go : (i : ℕ) → i < length gs → before ≤ g.before → (i < k) ⊎ (k ≤ i) → ((get_or gs i g).before == before) ≡ false
      go i inside high (inl below) = not-below i g below
      go i inside high (inr past) = ne_eqb _ before (λ same. other (omega (arith, high, same, rises k i g past inside, ap (λ (x : Gap). x.before) is)))

  pub gap-none : (d : Gap) → length gs ≤ k → find (λ (x : Gap). x.before == before) gs ≡ None
  gap-none d past = find-absent (λ x. x.before == before) gs d (λ i inside. not-below i d (omega (arith, past, inside)))

abbrev pub no_gap : Gap
no_gap = record { before = 0; generated = 0 }

-- ---- what is kept of a function

module _ (m : FunctionMap) where
  -- the source at a place, or what there is else
  next-at : (es : List AddressMap) (k len : ℕ) → next_source len (map recorded_view es) k ≡ start_or es k len
  next-at [] k len = rw (le-ltb k 0 (omega arith)) refl
  next-at (e ∷ es) zero len = rw (lt-ltb 0 (suc (length es)) (omega arith)) refl
  next-at (e ∷ es) (suc k) len = next-at es k len ∙ shift (cases_lt k (length es))
    where
      shift : (k < length es) ⊎ (length es ≤ k) → start_or es k len ≡ start_or (e ∷ es) (suc k) len
      shift (inl less) = rw (lt-ltb k (length es) less, lt-ltb (suc k) (suc (length es)) (omega (arith, less))) refl
      shift (inr past) = rw (le-ltb k (length es) past, le-ltb (suc k) (suc (length es)) (omega (arith, past))) refl

  -- where the position of a source ends
  end-is : (k : ℕ) (d : Position) → k < length m.addresses
      → (get_or (positions_of m) k d).end ≡ unwrap_or (option_map (λ g. g.generated) (find (λ g. g.before == suc k) m.gaps.now)) (start_or m.addresses (suc k) m.len)
  end-is k d less =
      position-end m.len m.gaps.now 0 (map recorded_view m.addresses) k d (omega (arith, less, length-map m.addresses recorded_view))
      ∙ ap (λ n. unwrap_or (option_map (λ (g : Gap). g.generated) (find (λ g. g.before == suc n) m.gaps.now)) (next_source m.len (map recorded_view m.addresses) (suc k))) (omega arith)
      ∙ ap (λ n. unwrap_or (option_map (λ (g : Gap). g.generated) (find (λ g. g.before == suc k) m.gaps.now)) n) (next-at m.addresses (suc k) m.len)

  -- the entries' order
  entries-rise : RisesFrom (λ e. e.0) 0 (merged m.gaps.now 0 (map recorded_view m.addresses))
  entries-rise = RisesFrom-from_non_decreasing (λ e. e.0) 0 _ m.rises (λ d some. omega arith)

  pub ends-front : EndInFront (positions_of m)
  ends-front = ends-in_front m.len 0 _ entries-rise

  starts-rise : RisesFrom (λ (p : Position). p.start) 0 (positions_of m)
  starts-rise = begins-low m.len 0 _ entries-rise

  -- so the sources do not begin below the one before
  pub natives-rise : IsNonDecreasingBy (λ (e : AddressMap). e.generated) m.addresses
  natives-rise =
      RisesFrom-non_decreasing (λ e. e.generated) 0 m.addresses
      (RisesFrom-seen (λ e. e.native) recorded_view 0 m.addresses
      (subst (RisesFrom (λ e. e.native) 0) (recorded m) (RisesFrom-map (λ e. e.native) recorded_at 0 (positions_of m) starts-rise)))

  -- where the native code of a source ends, by what stands behind it
  pub end-at : (k : ℕ) (d : Position) (gap : Option ℕ) → k < length m.addresses → gap ≡ option_map (λ (g : Gap). g.generated) (find (λ g. g.before == k + 1) m.gaps.now)
      → (get_or (positions_of m) k d).end ≡ unwrap_or gap (start_or m.addresses (k + 1) m.len)
  end-at k d gap less is = rw (is, add-one) (end-is k d less)

-- ---- parts of lists

pub part-at : {X : Type 0} (xs : List X) (from behind i : ℕ) (d : X) → i < behind - from → get_or (take (behind - from) (drop from xs)) i d ≡ get_or xs (from + i) d
part-at xs from behind i d less = get_or-take (behind - from) (drop from xs) i d less ∙ get_or-drop from xs i d

pub part-length : {X : Type 0} (xs : List X) (from behind : ℕ) → behind ≤ length xs → length (take (behind - from) (drop from xs)) ≡ behind - from
part-length xs from behind le = length-take-le (behind - from) (drop from xs) (omega (arith, le, length-drop from xs))

pub part-rises : {X : Type 0} (n : X → ℕ) (xs : List X) (from behind : ℕ) → behind ≤ length xs → IsNonDecreasingBy n xs → IsNonDecreasingBy n (take (behind - from) (drop from xs))
part-rises n xs from behind le rises = λ i j d before less.
    let inside : j < behind - from = omega (arith, less, part-length xs from behind le) in
    rw (part-at xs from behind i d (omega (arith, inside, before)), part-at xs from behind j d inside) (rises (from + i) (from + j) d (omega (arith, before)) (omega (arith, inside, le)))

-- ---- the positions of a run's sources

module _ (ps : List Position) (xs : List AddressMap) (seen : map recorded_at ps ≡ map recorded_view xs) (front : EndInFront ps) where
  size : length ps ≡ length xs
  size = sym (length-map ps recorded_at) ∙ ap length seen ∙ length-map xs recorded_view

  at : (i : ℕ) (d : AddressMap) → i < length xs → recorded_at (get_or ps i no_position) ≡ recorded_view (get_or xs i d)
  at i d less =
      sym (get_or-map recorded_at ps i no_position (recorded_view d) (omega (arith, less, size)))
      ∙ ap (λ es. get_or es i (recorded_view d)) seen
      ∙ get_or-map recorded_view xs i d (recorded_view d) less

  wasm : (i : ℕ) (d : AddressMap) → i < length xs → (get_or ps i no_position).wasm ≡ (get_or xs i d).wasm
  wasm i d less = ap (λ e. e.wasm) (at i d less)

  native : (i : ℕ) (d : AddressMap) → i < length xs → (get_or ps i no_position).start ≡ (get_or xs i d).generated
  native i d less = ap (λ e. e.native) (at i d less)

  -- a source among those that begin where it does
  record Around (k first behind : ℕ) : Type 0 where
    low : first ≤ k
    high : k < behind
    inside : behind ≤ length ps
    parts : Parts ps (take first ps) (get_or ps first no_position) (part_of ps first behind) (drop behind ps)

  around : (k s first behind : ℕ) → k < length xs → s ≡ (get_or xs k no_source).generated → IsCountBelow (λ e. e.generated) xs s first → IsCountUpTo (λ e. e.generated) xs s behind → Around k first behind
  around k s first behind less is below up =
      let low : first ≤ k = at_most (cases_lt k first) in
      let high : k < behind = above (cases_lt k behind) in
      let inside : behind ≤ length ps = omega (arith, up.inside, size) in
      record {
        low = low;
        high = high;
        inside = inside;
        parts = parts-at ps first behind s (omega (arith, low, high)) inside front
            (λ i lt. omega (arith, native i no_source (omega (arith, lt, low, less)), below.below i no_source lt))
            (λ i past lt. omega (arith, native i no_source (omega (arith, lt, up.inside)), below.above i no_source past (omega (arith, lt, up.inside)), up.below i no_source lt))
            (λ i past lt. omega (arith, native i no_source (omega (arith, lt, size)), up.above i no_source past (omega (arith, lt, size))));
      }
    where
      at_most : (k < first) ⊎ (first ≤ k) → first ≤ k
      at_most (inl lt) = absurd (omega (arith, below.below k no_source lt, is))
      at_most (inr le) = le

      above : (k < behind) ⊎ (behind ≤ k) → k < behind
      above (inl lt) = lt
      above (inr le) = absurd (omega (arith, up.above k no_source le less, is))

  -- how many lie below a number is some number
  record Counted (a : ℕ) (n : AddressMap → ℕ) (j : ℕ) : Type 0 where
    count : ℕ
    inside : count ≤ j
    below : (i : ℕ) (d : AddressMap) → i < count → n (get_or xs i d) < a
    above : (i : ℕ) (d : AddressMap) → count ≤ i → i < j → a ≤ n (get_or xs i d)

  counted : (a : ℕ) (n : AddressMap → ℕ) → IsNonDecreasingBy n xs → (j : ℕ) → j ≤ length xs → Counted a n j
  counted a n rises zero le = record { count = 0; inside = omega arith; below = λ i d less. absurd (omega (arith, less)); above = λ i d past less. absurd (omega (arith, less)) }
  counted a n rises (suc j) le = go (counted a n rises j (omega (arith, le)))
    where
      same : (i : ℕ) (d e : AddressMap) → i < length xs → n (get_or xs i d) ≡ n (get_or xs i e)
      same i d e less = ap n (get_or_default xs i d e less)

      one : (c : Counted a n j) → (c.count < j) ⊎ (j ≤ c.count) → (n (get_or xs j no_source) < a) ⊎ (a ≤ n (get_or xs j no_source)) → Counted a n (suc j)
      one c (inl less) way = record {
        count = c.count;
        inside = omega (arith, less);
        below = c.below;
        above = λ i d past lt. omega (arith, c.above c.count d (omega arith) less, rises c.count i d past (omega (arith, lt, le)));
      }
      one c (inr all) (inl low) = record {
        count = suc j;
        inside = omega arith;
        below = λ i d lt. under i d lt (cases_lt i j);
        above = λ i d past lt. absurd (omega (arith, past, lt));
      }
        where
          under : (i : ℕ) (d : AddressMap) → i < suc j → (i < j) ⊎ (j ≤ i) → n (get_or xs i d) < a
          under i d lt (inl less) = c.below i d (omega (arith, less, all))
          under i d lt (inr past) = let last : i ≡ j = omega (arith, lt, past) in rw last (omega (arith, low, same j d no_source (omega (arith, le))))
      one c (inr all) (inr high) = record {
        count = j;
        inside = omega arith;
        below = λ i d lt. c.below i d (omega (arith, lt, all));
        above = λ i d past lt. let last : i ≡ j = omega (arith, past, lt) in rw last (omega (arith, high, same j d no_source (omega (arith, le))));
      }

      go : Counted a n j → Counted a n (suc j)
      go c = one c (cases_lt c.count j) (cases_lt (n (get_or xs j no_source)) a)

  -- ---- the start

  module _ (a : ℕ) (rises : IsNonDecreasingBy (λ (e : AddressMap). e.wasm) xs) where
    -- from a place on all lie above, where the source there does not have the offset
    above-from : (b : ℕ) → ((i : ℕ) (d : AddressMap) → b ≤ i → i < length xs → a ≤ (get_or xs i d).wasm) → (b < length xs → (get_or xs b no_source).wasm ≡ a → ⊥) → AllByRecursion (λ (p : Position). a < p.wasm) (drop b ps)
    above-from b least none =
        all-behind (λ p. a < p.wasm) ps b (λ i past less.
        let inside : i < length xs = omega (arith, less, size) in
        let first : a < (get_or xs b no_source).wasm = first-above (omega (arith, past, inside)) in
        omega (arith, wasm i no_source inside, first, rises b i no_source past inside))
      where
        first-above : b < length xs → a < (get_or xs b no_source).wasm
        first-above inside = apart (least b no_source (omega arith) inside) (none inside)
          where
            apart : {x y : ℕ} → x ≤ y → (y ≡ x → ⊥) → x < y
            apart le other = omega (arith, le, other)

    more-at : (b : ℕ) → b < length xs → drop b ps ≡ get_or ps b no_position ∷ drop (b + 1) ps
    more-at b less = drop_more ps b no_position (omega (arith, less, size))

    -- where no source lies below it
    pub start-none : (start : ℕ) → IsCountBelow (λ e. e.wasm) xs a 0 → start_among a start (joined_positions ps) ≡ unwrap_or (start_at xs 0 a) start
    start-none start h = go (cases_lt 0 (length xs))
      where
        absent : (0 < length xs → (get_or xs 0 no_source).wasm ≡ a → ⊥) → start_among a start (joined_positions ps) ≡ start
        absent none = start-none_below a start ps (above-from 0 (λ i d past less. h.above i d past less) none)

        go : (0 < length xs) ⊎ (length xs ≤ 0) → start_among a start (joined_positions ps) ≡ unwrap_or (start_at xs 0 a) start
        go (inr past) = rw (le-ltb 0 (length xs) past) (absent (λ less. absurd (omega (arith, less, past))))
        go (inl less) = rw (lt-ltb 0 (length xs) less) (test ((get_or xs 0 no_source).wasm == a) refl)
          where
            test : (b : Bool) → ((get_or xs 0 no_source).wasm == a) ≡ b → start_among a start (joined_positions ps) ≡ unwrap_or (if b then Some (get_or xs 0 no_source).generated else None) start
            test true is =
                let same : (get_or xs 0 no_source).wasm ≡ a = eqb-true _ a is in
                ap (λ qs. start_among a start (joined_positions qs)) (more-at 0 less)
                ∙ start-first a start (get_or ps 0 no_position) (drop 1 ps) (wasm 0 no_source less ∙ same)
                ∙ native 0 no_source less
            test false is = absent (λ inside same. absurd (false-not (sym is ∙ eq-eqb _ a same)))

    -- where some do, of which the last is at a place
    pub start-some : (start k s behind : ℕ) → IsNonDecreasingBy (λ (e : AddressMap). e.generated) xs → IsCountBelow (λ e. e.wasm) xs a (suc k) → s ≡ (get_or xs k no_source).generated → IsCountUpTo (λ e. e.generated) xs s behind
        → start_among a start (joined_positions ps) ≡ unwrap_or (start_at xs behind a) (get_or ps (behind - 1) no_position).end
    start-some start k s behind natives h is up = go (cases_lt behind (length xs))
      where
        c : Counted s (λ (e : AddressMap). e.generated) (length xs)
        c = counted s (λ e. e.generated) natives (length xs) (omega arith)

        w : Around k c.count behind
        w = around k s c.count behind (omega (arith, h.inside)) is (record { inside = c.inside; below = c.below; above = c.above }) up

        low : AllByRecursion (λ (p : Position). p.wasm < a) (take c.count ps)
        low = all-front (λ p. p.wasm < a) ps c.count (omega (arith, c.inside, size)) (λ i less. omega (arith, wasm i no_source (omega (arith, less, c.inside)), h.below i no_source (omega (arith, less, w.low))))

        first : (get_or ps c.count no_position).wasm < a
        first = omega (arith, wasm c.count no_source (omega (arith, w.low, h.inside)), h.below c.count no_source (omega (arith, w.low)))

        last : (unwrap_or (last_of (part_of ps c.count behind)) (get_or ps c.count no_position)).end ≡ (get_or ps (behind - 1) no_position).end
        last = ap (λ (p : Position). p.end) (part-last ps c.count behind (omega (arith, w.low, w.high)) w.inside)

        absent : (behind < length xs → (get_or xs behind no_source).wasm ≡ a → ⊥) → start_among a start (joined_positions ps) ≡ (get_or ps (behind - 1) no_position).end
        absent none =
            start-behind ps (take c.count ps) (get_or ps c.count no_position) (part_of ps c.count behind) (drop behind ps) w.parts a start low first
            (above-from behind (λ i d past less. h.above i d (omega (arith, past, w.high)) less) none)
            ∙ last

        go : (behind < length xs) ⊎ (length xs ≤ behind) → start_among a start (joined_positions ps) ≡ unwrap_or (start_at xs behind a) (get_or ps (behind - 1) no_position).end
        go (inr past) = rw (le-ltb behind (length xs) past) (absent (λ less. absurd (omega (arith, less, past))))
        go (inl less) = rw (lt-ltb behind (length xs) less) (test ((get_or xs behind no_source).wasm == a) refl)
          where
            test : (b : Bool) → ((get_or xs behind no_source).wasm == a) ≡ b → start_among a start (joined_positions ps) ≡ unwrap_or (if b then Some (get_or xs behind no_source).generated else None) (get_or ps (behind - 1) no_position).end
            test true is =
                let same : (get_or xs behind no_source).wasm ≡ a = eqb-true _ a is in
                start-there ps (take c.count ps) (get_or ps c.count no_position) (part_of ps c.count behind) (drop behind ps) w.parts a start (get_or ps behind no_position) (drop (behind + 1) ps) (more-at behind less) low first (wasm behind no_source less ∙ same)
                ∙ native behind no_source less
            test false is = absent (λ inside same. absurd (false-not (sym is ∙ eq-eqb _ a same)))

    -- ---- the end

    high-from : (b : ℕ) → ((i : ℕ) (d : AddressMap) → b ≤ i → i < length xs → a < (get_or xs i d).wasm) → AllByRecursion (λ (p : Position). a < p.wasm) (drop b ps)
    high-from b high = all-behind (λ p. a < p.wasm) ps b (λ i past less. omega (arith, wasm i no_source (omega (arith, less, size)), high i no_source past (omega (arith, less, size))))

    -- where all sources lie above it
    pub end-none : (end : ℕ) → IsCountUpTo (λ e. e.wasm) xs a 0 → end_among a end (joined_positions ps) ≡ start_or xs 0 end
    end-none end h = go (cases_lt 0 (length xs))
      where
        go : (0 < length xs) ⊎ (length xs ≤ 0) → end_among a end (joined_positions ps) ≡ start_or xs 0 end
        go (inr past) = rw (le-ltb 0 (length xs) past) (ap (λ qs. end_among a end (joined_positions qs)) (nil_from_length ps (omega (arith, past, size))))
        go (inl less) =
            rw (lt-ltb 0 (length xs) less)
            (ap (λ qs. end_among a end (joined_positions qs)) (more-at 0 less)
            ∙ end-first a end (get_or ps 0 no_position) (drop 1 ps) (subst (AllByRecursion (λ (p : Position). a < p.wasm)) (more-at 0 less) (high-from 0 h.above))
            ∙ native 0 no_source less)

    module _ (k s first behind : ℕ) (h : IsCountUpTo (λ (e : AddressMap). e.wasm) xs a (suc k)) (is : s ≡ (get_or xs k no_source).generated) (below : IsCountBelow (λ (e : AddressMap). e.generated) xs s first) (up : IsCountUpTo (λ (e : AddressMap). e.generated) xs s behind) where
      w : Around k first behind
      w = around k s first behind (omega (arith, h.inside)) is below up

      high : AllByRecursion (λ (p : Position). a < p.wasm) (drop behind ps)
      high = high-from behind (λ i d past less. h.above i d (omega (arith, past, w.high)) less)

      pub first-inside : first < length xs
      first-inside = omega (arith, w.low, h.inside)

      -- where the position of the last one that does not has it
      pub end-some : (end : ℕ) → (get_or xs first no_source).wasm ≡ a → end_among a end (joined_positions ps) ≡ (get_or ps (behind - 1) no_position).end
      end-some end same =
          end-there ps (take first ps) (get_or ps first no_position) (part_of ps first behind) (drop behind ps) w.parts a end (wasm first no_source first-inside ∙ same) high
          ∙ ap (λ (p : Position). p.end) (part-last ps first behind (omega (arith, w.low, w.high)) w.inside)

      -- where it does not
      pub end-other : (end : ℕ) → ((get_or xs first no_source).wasm ≡ a → ⊥) → end_among a end (joined_positions ps) ≡ start_or xs behind end
      end-other end other = go (cases_lt behind (length xs))
        where
          under : (get_or xs first no_source).wasm < a
          under = omega (arith, h.below first no_source (omega (arith, w.low)), other)

          low : AllByRecursion (λ (p : Position). p.wasm < a) (take first ps)
          low = all-front (λ p. p.wasm < a) ps first (omega (arith, first-inside, size)) (λ i less. omega (arith, wasm i no_source (omega (arith, less, first-inside)), rises i first no_source (omega (arith, less)) first-inside, under))

          begins : (get_or ps first no_position).wasm < a
          begins = omega (arith, wasm first no_source first-inside, under)

          go : (behind < length xs) ⊎ (length xs ≤ behind) → end_among a end (joined_positions ps) ≡ start_or xs behind end
          go (inr past) =
              rw (le-ltb behind (length xs) past)
              (end-last ps (take first ps) (get_or ps first no_position) (part_of ps first behind) (drop behind ps) w.parts a end (drop_all behind ps (omega (arith, past, size))) low begins)
          go (inl less) =
              rw (lt-ltb behind (length xs) less)
              (end-behind ps (take first ps) (get_or ps first no_position) (part_of ps first behind) (drop behind ps) w.parts a end (get_or ps behind no_position) (drop (behind + 1) ps) (more-at behind less) low begins high
              ∙ native behind no_source less)

-- ---- the positions of a run of a function

module _ (m : FunctionMap) (r : Run) (inside : IsRunOf m r) where
  pub run-seen : (xs : List AddressMap) → xs ≡ take (r.behind - r.first) (drop r.first m.addresses) → map recorded_at (positions_in m r) ≡ map recorded_view xs
  run-seen xs is = part-recorded m r.first (r.behind - r.first) ∙ ap (map recorded_view) (sym is)

  pub run-front : EndInFront (positions_in m r)
  run-front = in_front-between r.first r.behind (positions_of m) (ends-front m)

  -- the end of a position by its place among the function's
  pub end-in : (native behind : ℕ) → 0 < behind → behind ≤ r.behind - r.first → ((d : Position) → native ≡ (get_or (positions_of m) (r.first + behind - 1) d).end) → native ≡ (get_or (positions_in m r) (behind - 1) no_position).end
  end-in native behind some le is =
      is no_position
      ∙ ap (λ (p : Position). p.end) (ap (λ k. get_or (positions_of m) k no_position) (omega (arith, some)) ∙ sym (part-at (positions_of m) r.first r.behind (behind - 1) no_position (omega (arith, some, le))))

-- the first source that begins where one of them begins is among them
pub source-inside : (xs : List AddressMap) (k s first : ℕ) → k < length xs → s ≡ (get_or xs k no_source).generated → IsCountBelow (λ (e : AddressMap). e.generated) xs s first → first < length xs
source-inside xs k s first less is h = go (cases_lt k first)
  where
    go : (k < first) ⊎ (first ≤ k) → first < length xs
    go (inl past) = absurd (omega (arith, h.below k no_source past, is))
    go (inr before) = omega (arith, before, less)

-- one behind the place of a source is not the first place
pub some-behind : (xs : List AddressMap) (k s behind : ℕ) → k < length xs → s ≡ (get_or xs k no_source).generated → IsCountUpTo (λ (e : AddressMap). e.generated) xs s behind → 0 < behind
some-behind xs k s behind less is up = go (cases_lt 0 behind)
  where
    go : (0 < behind) ⊎ (behind ≤ 0) → 0 < behind
    go (inl some) = some
    go (inr none) = absurd (omega (arith, up.above k no_source (omega (arith, none)) less, is))

-- ---- how many lie below one that is known, and up to it

module _ {X : Type 0} (n : X → ℕ) where
  -- so many, if the last of them lies below and the next one does not
  pub tested-below : (xs : List X) (count a : ℕ) → IsNonDecreasingBy n xs → AreBelow n xs a count → ((d : X) → count < length xs → a ≤ n (get_or xs count d)) → IsCountBelow n xs a count
  tested-below xs count a order last next = record {
    inside = last.0;
    below = λ i d less. omega (arith, order i (count - 1) d (omega arith) (omega (arith, last.0)), last.1 (count - 1) d (omega arith));
    above = λ i d past less. omega (arith, order count i d past less, next d (omega arith));
  }

  -- those below the next number are those up to one
  pub below_up_to : (xs : List X) (count a : ℕ) → IsCountBelow n xs (a + 1) count → IsCountUpTo n xs a count
  below_up_to xs count a h = record {
    inside = h.inside;
    below = λ i d less. omega (arith, h.below i d less);
    above = λ i d past less. omega (arith, h.above i d past less);
  }

  -- they part a list, as a search by halves does
  pub below-parts : (xs : List X) (count a : ℕ) → IsCountBelow n xs a count → IsPartitionPoint (λ x. nat_lt (n x) a ≡ true) (λ x. nat_lt (n x) a ≡ false) xs count
  below-parts xs count a h = ((λ k d from less. lt-ltb _ a (h.below k d less)), (λ k d past less. le-ltb _ a (h.above k d past less)))

  -- none in front of the first place
  pub none-below : (xs : List X) (place a : ℕ) → IsNonDecreasingBy n xs → place < length xs → ((d : X) → n (get_or xs place d) ≡ a) → place ≤ 0 → IsCountBelow n xs a place
  none-below xs place a order inside begins first = record {
    inside = omega arith;
    below = λ i d less. absurd (omega arith);
    above = λ i d past less. omega (arith, order place i d past less, begins d);
  }

  -- those in front of a place, if the last of them lies below
  pub front-below : (xs : List X) (place a : ℕ) (e : X) → IsNonDecreasingBy n xs → place < length xs → ((d : X) → n (get_or xs place d) ≡ a) → 0 < place → n (get_or xs (place - 1) e) < a → IsCountBelow n xs a place
  front-below xs place a e order inside begins some last = record {
    inside = omega arith;
    below = λ i d less. omega (arith, order i (place - 1) d (omega arith) (omega arith), ap n (get_or_default xs (place - 1) d e (omega arith)));
    above = λ i d past less. omega (arith, order place i d past less, begins d);
  }

  -- all up to the last place
  pub all-up-to : (xs : List X) (place a : ℕ) → IsNonDecreasingBy n xs → place < length xs → ((d : X) → n (get_or xs place d) ≡ a) → length xs ≤ place + 1 → IsCountUpTo n xs a (place + 1)
  all-up-to xs place a order inside begins last = record {
    inside = omega arith;
    below = λ i d less. omega (arith, order i place d (omega arith) inside, begins d);
    above = λ i d past less. absurd (omega arith);
  }

  -- those up to a place, if the next one lies above
  pub front-up-to : (xs : List X) (place a : ℕ) (e : X) → IsNonDecreasingBy n xs → place < length xs → ((d : X) → n (get_or xs place d) ≡ a) → place + 1 < length xs → a < n (get_or xs (place + 1) e) → IsCountUpTo n xs a (place + 1)
  front-up-to xs place a e order inside begins more next = record {
    inside = omega arith;
    below = λ i d less. omega (arith, order i place d (omega arith) inside, begins d);
    above = λ i d past less. omega (arith, order (place + 1) i d past less, ap n (get_or_default xs (place + 1) d e more));
  }
