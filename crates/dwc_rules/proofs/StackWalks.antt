-- The stack of what entries give follows a walk over entries that hold their parents, where the entries stand in file order.
use Rattle.std.proofs.Common.{◌≡◌, ℕ, zero, suc, ◌+◌, ◌<◌, ◌≤◌, Bool, true, false, cond, pos, List, [], ◌∷◌, ◌++◌, drop, take, reverse, slice_get, Contains, Option, Some, None, option_map, refl, ap, sym, subst, ◌∙◌, arith, one-add, inl, inr, ℤ, int_le, leb}
use Rattle.std.specs.Prelude.{◌==◌, not, unwrap_or}
use Rattle.std.specs.List.{cons_option, filter, filter_map, prefix_len, take_while}
use Rattle.std.proofs.lemmas.Bool.{eq-eqb, eqb-true, eqb-false, ne_eqb, not_from_false, le-leb, lt-leb, leb-true, leb-false}
use Rattle.std.proofs.lemmas.Option.{get_or_from_slice_get, slice_get_within}
use Rattle.std.proofs.lemmas.List.{reverse-append}
use Rattle.dwc_dwarf.specs.Entries.{Entry}
use Rattle.dwc_rules.specs.Kept.{Placed, parent_of, same_place}
use Rattle.dwc_base.specs.Listing.{first_of}
use Rattle.dwc_base.specs.Wasm.{last_of}
use Rattle.dwc_rules.specs.Scopes.{Given, Rises, StackFollows, Steps, given_by, left_for, left_under, lineage, lineage_of}
use Rattle.dwc_base.proofs.InLists.{IsIn, contains-in, in-filter}

-- ---- entries in file order

-- Some entries read backward in front of others.
abbrev pub unwind : {A : Type 0} → List A → List A → List A
unwind [] zs = zs
unwind (r ∷ rs) zs = unwind rs (r ∷ zs)

-- where the offsets of entries begin behind some that are read backward, and how deep the next one is at most
abbrev pub low_after : List Placed → ℕ
low_after [] = 0
low_after (r ∷ rs) = suc r.entry.offset

abbrev pub deepest_after : List Placed → ℕ
deepest_after [] = 0
deepest_after (r ∷ rs) = suc r.entry.depth

-- the same, of entries that are read backward
abbrev pub Falls : List Placed → Type 0
Falls [] = Unit {0}
Falls (r ∷ rs) = (low_after rs ≤ r.entry.offset) × Falls rs

abbrev pub StepsBack : List Placed → Type 0
StepsBack [] = Unit {0}
StepsBack (r ∷ rs) = (r.entry.depth ≤ deepest_after rs) × StepsBack rs

falls : (rs zs : List Placed) → Rises 0 (unwind rs zs) → Falls rs × Rises (low_after rs) zs
falls [] zs h = (tt, h)
falls (r ∷ rs) zs h = let both = falls rs (r ∷ zs) h in ((both.1.0, both.0), both.1.1)

steps-back : (rs zs : List Placed) → Steps 0 (unwind rs zs) → StepsBack rs × Steps (deepest_after rs) zs
steps-back [] zs h = (tt, h)
steps-back (r ∷ rs) zs h = let both = steps-back rs (r ∷ zs) h in ((both.1.0, both.0), both.1.1)

-- the first of two values that is there
abbrev or_else : {A : Type 0} → Option A → Option A → Option A
or_else None o = o
or_else (Some x) o = Some x

-- ---- parents

-- the nearest entry that is one less deep than said
abbrev pub nearest_above : ℕ → List Placed → Option Placed
nearest_above d rs = first_of (filter (λ p. suc p.entry.depth == d) rs)

module _ {A : Type 0} (t : A → Bool) where
  front-pass : (x : A) (xs : List A) → t x ≡ true → take_while t (x ∷ xs) ≡ x ∷ take_while t xs
  front-pass x xs pass = ap (λ b. take (cond b (1 + prefix_len t xs) 0) (x ∷ xs)) pass ∙ ap (λ n. take n (x ∷ xs)) (one-add (prefix_len t xs))

  front-stop : (x : A) (xs : List A) → t x ≡ false → take_while t (x ∷ xs) ≡ []
  front-stop x xs stop = ap (λ b. take (cond b (1 + prefix_len t xs) 0) (x ∷ xs)) stop

  -- a front that passes is taken whole
  front-unwind : (rs zs : List A) → ((r : A) → IsIn r rs → t r ≡ true) → take_while t (unwind rs zs) ≡ unwind rs (take_while t zs)
  front-unwind [] zs pass = refl
  front-unwind (r ∷ rs) zs pass = front-unwind rs (r ∷ zs) (λ x i. pass x (inr i)) ∙ ap (unwind rs) (front-pass r zs (pass r (inl refl)))

  -- the last that passes is the first, backward, where none behind passes
  last-unwind : (rs zs : List A) → last_of (filter t (unwind rs zs)) ≡ or_else (last_of (filter t zs)) (first_of (filter t rs))
  last-unwind [] zs = none (last_of (filter t zs))
    where
      none : (l : Option A) → l ≡ or_else l None
      none None = refl
      none (Some x) = refl
  last-unwind (r ∷ rs) zs = last-unwind rs (r ∷ zs) ∙ step (t r) (filter t zs) (filter t rs)
    where
      one : (l : Option A) → Some (unwrap_or l r) ≡ or_else l (Some r)
      one None = refl
      one (Some x) = refl

      step : (b : Bool) (fs gs : List A) → or_else (last_of (cond b (r ∷ fs) fs)) (first_of gs) ≡ or_else (last_of fs) (first_of (cond b (r ∷ gs) gs))
      step true fs gs = one (last_of fs)
      step false fs gs = refl

falls-below : (rs : List Placed) (n : ℕ) → Falls rs → low_after rs ≤ n → (r : Placed) → IsIn r rs → r.entry.offset < n
falls-below [] n h low r i = absurd i
falls-below (x ∷ rs) n h low r (inl e) = let same : r.entry.offset ≡ x.entry.offset = ap (λ (p : Placed). p.entry.offset) e in omega (arith, same, low)
falls-below (x ∷ rs) n h low r (inr i) = falls-below rs n h.1 (omega (arith, h.0, low)) r i

-- An entry's ancestors below the root, nearest first, looked for backward.
abbrev pub climb : ℕ → List Placed → List Entry
climb zero rs = []
climb (suc d) [] = []
climb (suc d) (r ∷ rs) = cond (suc r.entry.depth == suc (suc d)) (r.entry ∷ climb d rs) (climb (suc d) rs)

climb-here : (d : ℕ) (r : Placed) (rs : List Placed) → r.entry.depth ≡ suc d → climb (suc d) (r ∷ rs) ≡ r.entry ∷ climb d rs
climb-here d r rs is = ap (λ b. cond b (r.entry ∷ climb d rs) (climb (suc d) rs)) (eq-eqb (suc r.entry.depth) (suc (suc d)) (ap suc is))

climb-past : (d : ℕ) (r : Placed) (rs : List Placed) → d < r.entry.depth → climb d (r ∷ rs) ≡ climb d rs
climb-past zero r rs deep = refl
climb-past (suc d) r rs deep = ap (λ b. cond b (r.entry ∷ climb d rs) (climb (suc d) rs)) (ne_eqb (suc r.entry.depth) (suc (suc d)) (λ e. absurd (omega (arith, deep, e))))

module _ (es : List Placed) (rises : Rises 0 es) where
  parent-is : (e : Placed) (rs zs : List Placed) → es ≡ unwind rs (e ∷ zs) → parent_of es e ≡ nearest_above e.entry.depth rs
  parent-is e rs zs is =
      ap (λ ps. last_of (filter (λ p. suc p.entry.depth == e.entry.depth) ps)) front
      ∙ last-unwind (λ p. suc p.entry.depth == e.entry.depth) rs []
    where
      other : Placed → Bool
      other p = not (same_place e p)

      fall : Falls rs × Rises (low_after rs) (e ∷ zs)
      fall = falls rs (e ∷ zs) (subst (Rises 0) is rises)

      pass : (r : Placed) → IsIn r rs → other r ≡ true
      pass r i = let less : r.entry.offset < e.entry.offset = falls-below rs e.entry.offset fall.0 fall.1.0 r i in not_from_false _ (ne_eqb e.entry.offset r.entry.offset (λ same. absurd (omega (arith, same, less))))

      front : take_while other es ≡ unwind rs []
      front =
          ap (take_while other) is
          ∙ front-unwind other rs (e ∷ zs) pass
          ∙ ap (unwind rs) (front-stop other e zs (ap not (eq-eqb e.entry.offset e.entry.offset refl)))

  -- a lineage is what is looked for backward
  climbs : (d : ℕ) (rs zs : List Placed) → es ≡ unwind rs zs → lineage_of d es (nearest_above (suc d) rs) ≡ climb d rs
  climbs zero rs zs is = refl
  climbs (suc d) [] zs is = refl
  climbs (suc d) (r ∷ rs) zs is = go (suc r.entry.depth == suc (suc d)) refl (climbs d rs (r ∷ zs) is) (climbs (suc d) rs (r ∷ zs) is)
    where
      others : List Placed
      others = filter (λ p. suc p.entry.depth == suc (suc d)) rs

      go : (b : Bool) → (suc r.entry.depth == suc (suc d)) ≡ b → lineage_of d es (nearest_above (suc d) rs) ≡ climb d rs → lineage_of (suc d) es (first_of others) ≡ climb (suc d) rs → lineage_of (suc d) es (first_of (cond b (r ∷ others) others)) ≡ cond b (r.entry ∷ climb d rs) (climb (suc d) rs)
      go true b deeper same =
          let depth : r.entry.depth ≡ suc d = omega (arith, eqb-true (suc r.entry.depth) (suc (suc d)) b) in
          ap (λ o. r.entry ∷ lineage_of d es o) (parent-is r rs zs is ∙ ap (λ n. nearest_above n rs) depth) ∙ ap (λ l. r.entry ∷ l) deeper
      go false b deeper same = same

-- ---- what is left of a stack

module _ {X : Type 0} where
  push-drops : (depth : ℤ) (gs : List (Given X)) (g : Given X) → int_le depth g.0 ≡ true → left_for depth (gs ++ g ∷ []) ≡ left_for depth gs
  push-drops depth [] g deep = rw deep refl
  push-drops depth (h ∷ hs) g deep = ap (left_under depth h) (push-drops depth hs g deep)

  push-stays : (depth : ℤ) (gs : List (Given X)) (g : Given X) → int_le depth g.0 ≡ false → left_for depth (gs ++ g ∷ []) ≡ gs ++ g ∷ []
  push-stays depth [] g low = rw low refl
  push-stays depth (h ∷ []) g low = ap (left_under depth h) (push-stays depth [] g low)
  push-stays depth (h ∷ k ∷ hs) g low = ap (left_under depth h) (push-stays depth (k ∷ hs) g low)

module _ {X : Type 0} (gives : Entry → Option X) where
  given-none : (e : Entry) (es : List Entry) → gives e ≡ None → given_by gives (e ∷ es) ≡ given_by gives es
  given-none e es none = ap (λ o. reverse (cons_option (option_map (λ x. (pos e.depth, x)) o) (filter_map (λ e. option_map (λ x. (pos e.depth, x)) (gives e)) es))) none

  given-some : (e : Entry) (es : List Entry) (x : X) → gives e ≡ Some x → given_by gives (e ∷ es) ≡ given_by gives es ++ (pos e.depth, x) ∷ []
  given-some e es x some =
      ap (λ o. reverse (cons_option (option_map (λ x. (pos e.depth, x)) o) (filter_map (λ e. option_map (λ x. (pos e.depth, x)) (gives e)) es))) some
      ∙ reverse-append ((pos e.depth, x) ∷ []) (filter_map (λ e. option_map (λ x. (pos e.depth, x)) (gives e)) es)

  dropped : (d : ℕ) (e : Entry) (es : List Entry) → d ≤ e.depth → left_for (pos d) (given_by gives (e ∷ es)) ≡ left_for (pos d) (given_by gives es)
  dropped d e es deep = go (gives e) refl
    where
      go : (o : Option X) → gives e ≡ o → left_for (pos d) (given_by gives (e ∷ es)) ≡ left_for (pos d) (given_by gives es)
      go None none = ap (left_for (pos d)) (given-none e es none)
      go (Some x) some = ap (left_for (pos d)) (given-some e es x some) ∙ push-drops (pos d) (given_by gives es) (pos e.depth, x) (le-leb d e.depth deep)

  stays : (d : ℕ) (e : Entry) (es : List Entry) → e.depth < d → left_for (pos d) (given_by gives es) ≡ given_by gives es → left_for (pos d) (given_by gives (e ∷ es)) ≡ given_by gives (e ∷ es)
  stays d e es low others = go (gives e) refl
    where
      go : (o : Option X) → gives e ≡ o → left_for (pos d) (given_by gives (e ∷ es)) ≡ given_by gives (e ∷ es)
      go None none = ap (left_for (pos d)) (given-none e es none) ∙ others ∙ sym (given-none e es none)
      go (Some x) some = ap (left_for (pos d)) (given-some e es x some) ∙ push-stays (pos d) (given_by gives es) (pos e.depth, x) (lt-leb d e.depth low) ∙ sym (given-some e es x some)

  none-left : (es : List Entry) → left_for (pos 0) (given_by gives es) ≡ []
  none-left [] = refl
  none-left (e ∷ es) = dropped 0 e es (omega arith) ∙ none-left es

  all-left : (d k : ℕ) (rs : List Placed) → k < d → left_for (pos d) (given_by gives (climb k rs)) ≡ given_by gives (climb k rs)
  all-left d zero rs less = refl
  all-left d (suc k) [] less = refl
  all-left d (suc k) (r ∷ rs) less = go (suc r.entry.depth == suc (suc k)) refl (all-left d k rs (omega (arith, less))) (all-left d (suc k) rs less)
    where
      Same : List Entry → Type 0
      Same es = left_for (pos d) (given_by gives es) ≡ given_by gives es

      go : (b : Bool) → (suc r.entry.depth == suc (suc k)) ≡ b → Same (climb k rs) → Same (climb (suc k) rs) → Same (cond b (r.entry ∷ climb k rs) (climb (suc k) rs))
      go true b deeper same = stays d r.entry (climb k rs) (omega (arith, less, eqb-true (suc r.entry.depth) (suc (suc k)) b)) deeper
      go false b deeper same = same

  -- what is left of the stack of a climb is that of a shorter one
  cut : (k m : ℕ) (rs : List Placed) → m ≤ k → StepsBack rs → suc k ≤ deepest_after rs → left_for (pos (suc m)) (given_by gives (climb k rs)) ≡ given_by gives (climb m rs)
  cut zero zero rs less steps near = refl
  cut zero (suc m) rs less steps near = absurd (omega (arith, less))
  cut (suc k) m [] less steps near = absurd (omega (arith, near))
  cut (suc k) m (r ∷ rs) less steps near = go (suc r.entry.depth == suc (suc k)) refl (leb m k) refl (λ fewer close. cut k m rs fewer steps.1 close) (λ close. cut (suc k) m rs less steps.1 close)
    where
      Cuts : ℕ → List Placed → Type 0
      Cuts n ps = left_for (pos (suc m)) (given_by gives (climb n ps)) ≡ given_by gives (climb m ps)

      past : m < r.entry.depth → given_by gives (climb m rs) ≡ given_by gives (climb m (r ∷ rs))
      past deep = ap (given_by gives) (sym (climb-past m r rs deep))

      go : (b : Bool) → (suc r.entry.depth == suc (suc k)) ≡ b → (f : Bool) → leb m k ≡ f → (m ≤ k → suc k ≤ deepest_after rs → Cuts k rs) → (suc (suc k) ≤ deepest_after rs → Cuts (suc k) rs) → Cuts (suc k) (r ∷ rs)
      go true b true f shorter same =
          let depth : r.entry.depth ≡ suc k = omega (arith, eqb-true (suc r.entry.depth) (suc (suc k)) b) in
          let fewer : m ≤ k = leb-true m k f in
          ap (λ es. left_for (pos (suc m)) (given_by gives es)) (climb-here k r rs depth)
          ∙ dropped (suc m) r.entry (climb k rs) (omega (arith, depth, fewer))
          ∙ shorter fewer (omega (arith, depth, steps.0))
          ∙ past (omega (arith, depth, fewer))
      go true b false f shorter same =
          let whole : m ≡ suc k = omega (arith, less, leb-false m k f) in
          subst (λ n. left_for (pos (suc m)) (given_by gives (climb n (r ∷ rs))) ≡ given_by gives (climb m (r ∷ rs))) whole (all-left (suc m) m (r ∷ rs) (omega arith))
      go false b f g shorter same =
          let deep : suc (suc k) ≤ r.entry.depth = omega (arith, near, eqb-false (suc r.entry.depth) (suc (suc k)) b) in
          ap (λ es. left_for (pos (suc m)) (given_by gives es)) (climb-past (suc k) r rs deep)
          ∙ same (omega (arith, deep, steps.0))
          ∙ past (omega (arith, deep, less))

-- ---- walks

-- entries that fail a test are passed over where what is found passes it
skipped : (test : Placed → Bool) (m : ℕ) (ps rs : List Placed) → ((x : Placed) → IsIn x ps → test x ≡ false) → ((p : Placed) → nearest_above (suc m) (ps ++ rs) ≡ Some p → test p ≡ true) → StepsBack (ps ++ rs) → suc m ≤ deepest_after (ps ++ rs) → (climb m (ps ++ rs) ≡ climb m rs) × (suc m ≤ deepest_after rs)
skipped test m [] rs fails finds steps near = (refl, near)
skipped test m (x ∷ ps) rs fails finds steps near = go (suc x.entry.depth == suc m) refl (λ f g close. skipped test m ps rs f g steps.1 close)
  where
    others : List Placed
    others = filter (λ p. suc p.entry.depth == suc m) (ps ++ rs)

    Skips : Type 0
    Skips = (climb m (ps ++ rs) ≡ climb m rs) × (suc m ≤ deepest_after rs)

    found : (b : Bool) → (suc x.entry.depth == suc m) ≡ b → nearest_above (suc m) ((x ∷ ps) ++ rs) ≡ first_of (cond b (x ∷ others) others)
    found b is = ap (λ b. first_of (cond b (x ∷ others) others)) is

    go : (b : Bool) → (suc x.entry.depth == suc m) ≡ b → (((y : Placed) → IsIn y ps → test y ≡ false) → ((p : Placed) → nearest_above (suc m) (ps ++ rs) ≡ Some p → test p ≡ true) → suc m ≤ deepest_after (ps ++ rs) → Skips) → (climb m ((x ∷ ps) ++ rs) ≡ climb m rs) × (suc m ≤ deepest_after rs)
    go true b more = let passes : test x ≡ true = finds x (found true b) in let not_it : test x ≡ false = fails x (inl refl) in absurd (cc)
    go false b more =
        let deep : m < x.entry.depth = omega (arith, near, eqb-false (suc x.entry.depth) (suc m) b) in
        let rest = more (λ y i. fails y (inr i)) (λ p h. finds p (found false b ∙ h)) (omega (arith, deep, steps.0)) in
        (climb-past m x (ps ++ rs) deep ∙ rest.0, rest.1)

-- two entries behind one another among those that pass a test: what is between them fails it
record AreNext (test : Placed → Bool) (es : List Placed) (b e : Placed) : Type 0 where
  between : List Placed
  front : List Placed
  behind : List Placed
  behind_first : List Placed
  first_at : es ≡ unwind front (b ∷ behind_first)
  second_at : es ≡ unwind (between ++ b ∷ front) (e ∷ behind)
  fails : (x : Placed) → IsIn x between → test x ≡ false

module _ (test : Placed → Bool) (es : List Placed) (b e : Placed) where
  second : (front behind_first ps zs : List Placed) → es ≡ unwind front (b ∷ behind_first) → ((x : Placed) → IsIn x ps → test x ≡ false) → es ≡ unwind (ps ++ b ∷ front) zs → slice_get (filter test zs) 0 ≡ Some e → AreNext test es b e
  second front first ps [] at fails is h = absurd (cc)
  second front first ps (z ∷ zs) at fails is h = go (test z) refl h (λ f g. second front first (z ∷ ps) zs at f is g)
    where
      go : (t : Bool) → test z ≡ t → slice_get (cond t (z ∷ filter test zs) (filter test zs)) 0 ≡ Some e → (((x : Placed) → IsIn x (z ∷ ps) → test x ≡ false) → slice_get (filter test zs) 0 ≡ Some e → AreNext test es b e) → AreNext test es b e
      go true t h more = record {
        between = ps;
        front = front;
        behind = zs;
        behind_first = first;
        first_at = at;
        second_at = is ∙ ap (λ y. unwind (ps ++ b ∷ front) (y ∷ zs)) (ap (λ o. unwrap_or o z) h);
        fails = fails;
      }
      go false t h more = more one h
        where
          one : (x : Placed) → IsIn x (z ∷ ps) → test x ≡ false
          one x (inl same) = ap test same ∙ t
          one x (inr i) = fails x i

  next-of : (rs zs : List Placed) (i : ℕ) → es ≡ unwind rs zs → slice_get (filter test zs) i ≡ Some b → slice_get (filter test zs) (suc i) ≡ Some e → AreNext test es b e
  next-of rs [] i is h g = absurd (cc)
  next-of rs (z ∷ zs) i is h g = go (test z) i refl h g (λ j. next-of (z ∷ rs) zs j is)
    where
      go : (t : Bool) (i : ℕ) → test z ≡ t → slice_get (cond t (z ∷ filter test zs) (filter test zs)) i ≡ Some b → slice_get (cond t (z ∷ filter test zs) (filter test zs)) (suc i) ≡ Some e → ((j : ℕ) → slice_get (filter test zs) j ≡ Some b → slice_get (filter test zs) (suc j) ≡ Some e → AreNext test es b e) → AreNext test es b e
      go true zero t h g more =
          let at : es ≡ unwind rs (b ∷ zs) = is ∙ ap (λ y. unwind rs (y ∷ zs)) (ap (λ o. unwrap_or o z) h) in
          second rs zs [] zs at (λ x i. absurd i) at g
      go true (suc i) t h g more = more i h g
      go false i t h g more = more i h g

-- the law of walks, for entries in file order whose depths rise by one at most
pub stack-follows : {X : Type 0} (gives : Entry → Option X) (es kept : List Placed) → StackFollows gives es kept
unfolding lineage
stack-follows gives es kept rises steps i before e walk at_first at_second = whole e.entry.depth refl
  where
    next : AreNext walk.test es before e
    next = next-of walk.test es before e [] es i refl (ap (λ ps. slice_get ps i) (sym walk.are) ∙ at_first) (ap (λ ps. slice_get ps (suc i)) (sym walk.are) ∙ at_second)

    depth : ℕ
    depth = before.entry.depth

    front : List Placed
    front = before ∷ next.front

    first : lineage_of depth es (Some before) ≡ climb depth front
    first = ap (λ b. lineage_of depth es (first_of (cond b (before ∷ filter (λ p. suc p.entry.depth == suc depth) next.front) (filter (λ p. suc p.entry.depth == suc depth) next.front)))) (sym (eq-eqb (suc depth) (suc depth) refl)) ∙ climbs es rises depth front next.behind_first next.first_at

    back : StepsBack (next.between ++ front) × Steps (deepest_after (next.between ++ front)) (e ∷ next.behind)
    back = steps-back (next.between ++ front) (e ∷ next.behind) (subst (Steps 0) next.second_at steps)

    front_back : StepsBack front × Steps (deepest_after front) next.behind_first
    front_back = steps-back front next.behind_first (subst (Steps 0) next.first_at steps)

    whole : (d : ℕ) → e.entry.depth ≡ d → left_for (pos d) (given_by gives (lineage_of depth es (Some before))) ≡ given_by gives (drop 1 (lineage_of d es (Some e)))
    whole zero is = none-left gives (lineage_of depth es (Some before))
    whole (suc m) is =
        let parent : parent_of es e ≡ nearest_above (suc m) (next.between ++ front) = parent-is es rises e (next.between ++ front) next.behind next.second_at ∙ ap (λ d. nearest_above d (next.between ++ front)) is in
        let has_e : Contains kept e = (suc i, slice_get_within kept (suc i) e at_second, get_or_from_slice_get kept (suc i) e e at_second) in
        let skips = skipped walk.test m next.between front next.fails (λ p h. (in-filter walk.test es p (subst (IsIn p) walk.are (contains-in kept p (walk.parents e p has_e (parent ∙ h))))).1) back.0 (omega (arith, back.1.0, is)) in
        ap (λ es. left_for (pos (suc m)) (given_by gives es)) first
        ∙ cut gives depth m front (omega (arith, skips.1)) front_back.0 (omega arith)
        ∙ ap (given_by gives) (sym skips.0)
        ∙ ap (given_by gives) (sym (climbs es rises m (next.between ++ front) (e ∷ next.behind) next.second_at))
        ∙ ap (λ o. given_by gives (lineage_of m es o)) (sym parent)
