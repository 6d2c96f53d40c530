-- Where what is made of a module's kept entries stands: in the unit in which the offset of the entry lies, at its place among what is made there.
use Rattle.std.proofs.Common.{◌≡◌, ℕ, suc, ◌+◌, ◌<◌, ◌≤◌, List, [], ◌∷◌, ◌++◌, length, map, refl, ap, ap₂, sym, subst, ◌∙◌, inl, inr, arith, Bool, true, false, cond, Option, Some, None}
use Rattle.std.specs.Prelude.{◌==◌, ◌&&◌, ◌||◌, if◌then◌else◌, nat_le, nat_lt, option_map, position}
use Rattle.std.specs.Option.{option_or, is_some}
use Rattle.std.specs.List.{filter, list_any, position_from}
use Rattle.std.proofs.lemmas.Bool.{true≢false, eqb-true, leb-true, ltb-true, and_parts}
use Rattle.std.proofs.lemmas.Iterator.Adapters.{position_from-zero}
use Rattle.dwc_dwarf.specs.Trees.{place_among}
use Rattle.dwc_dwarf.specs.Entries.{Entry}
use Rattle.dwc_rules.specs.Drafts.{Role, Draft, itself}
use Rattle.dwc_rules.specs.DraftForests.{role_number, is_made_of}
use Rattle.dwc_rules.specs.Carried.{Module}
use Rattle.dwc_dwarf.specs.ReadUnits.{Unit}
use Rattle.dwc_base.specs.declared.records.OutputFor.{OutputFor}
use Rattle.dwc_rules.specs.Kept.{Placed}
use Rattle.dwc_rules.specs.KeptModules.{kept_in}
use Rattle.dwc_rules.specs.Scopes.{Rises}
use Rattle.dwc_rules.specs.LocationRules.{ExpressionSource}
use Rattle.dwc_rules.specs.EntryRules.{is_required}
use Rattle.dwc_rules.specs.Wrappers.{is_wrapped}
use Rattle.dwc_rules.specs.CarriedDrafts.{source_of, unit_drafts, carried_drafts}
use Rattle.dwc_rules.specs.CarriedUnits.{kept_of}
use Rattle.dwc_base.proofs.InLists.{IsIn, any-in, append-right, in-filter, map-in}
use Rattle.dwc_rules.proofs.MadePlaces.{many, is_source, sources-once, made-many, made-place, made-nowhere}
use Rattle.dwc_kept.specs.declared.kept_units.KeptModule.{KeptModule}
use Rattle.dwc_kept.specs.declared.read_unit.ReadUnit.{ReadUnit}
use Rattle.dwc_kept.specs.KeptUnits.{kept_of_unit, is_in_unit}
use Rattle.dwc_kept.specs.ReadUnits.{unit_read, IsKeptModule, is_carried_read}
use Rattle.dwc_kept.proofs.KeptStanding.{UnitsStand, placed_at, unit-from}
use Rattle.dwc_kept.proofs.KeptInUnits.{AreKept, Rising, are-kept, kept-rising, rising-filter}
use Rattle.dwc_kept.proofs.KeptModuleLaws.{carried-read, read-entries, read-units, read-within}

-- ---- lists

map-twice : {A B C : Type 0} (f : B → C) (g : A → B) (xs : List A) → map f (map g xs) ≡ map (λ x. f (g x)) xs
map-twice f g [] = refl
map-twice f g (x ∷ xs) = ap (λ ys. f (g x) ∷ ys) (map-twice f g xs)

module _ {A : Type 0} (t : A → Bool) where
  -- an item that passes a test is found exactly where some passes
  pub position-none : (n : ℕ) (xs : List A) → list_any t xs ≡ false → position_from t n xs ≡ None
  position-none n [] none = refl
  position-none n (x ∷ xs) none = go (t x) none (position-none (n + 1) xs)
    where
      go : (b : Bool) → (b || list_any t xs) ≡ false → (list_any t xs ≡ false → position_from t (n + 1) xs ≡ None) → cond {A = Option ℕ} b (Some n) (position_from t (n + 1) xs) ≡ None
      go true is others = absurd (true≢false is)
      go false is others = others is

  pub position-some : (n : ℕ) (xs : List A) → list_any t xs ≡ true → is_some (position_from t n xs) ≡ true
  position-some n [] some = some
  position-some n (x ∷ xs) some = go (t x) some (position-some (n + 1) xs)
    where
      go : (b : Bool) → (b || list_any t xs) ≡ true → (list_any t xs ≡ true → is_some (position_from t (n + 1) xs) ≡ true) → is_some (cond {A = Option ℕ} b (Some n) (position_from t (n + 1) xs)) ≡ true
      go true is others = refl
      go false is others = others is

  pub many-any : (xs : List A) → 1 ≤ many t xs → list_any t xs ≡ true
  many-any [] some = absurd (omega (arith, some))
  many-any (x ∷ xs) some = go (t x) some (many-any xs)
    where
      go : (b : Bool) → 1 ≤ (if b then 1 else 0) + many t xs → (1 ≤ many t xs → list_any t xs ≡ true) → (b || list_any t xs) ≡ true
      go true is others = refl
      go false is others = others (omega (arith, is))

-- ---- units one after another

-- The first of some units that has something, by its number, with a place that is told of it.
abbrev pub first_with : {R : Type 0} → (R → Bool) → (R → Option ℕ) → ℕ → List R → Option (ℕ × ℕ)
first_with has place number [] = None
first_with has place number (r ∷ rs) = if has r then option_map (λ p. (number, p)) (place r) else first_with has place (suc number) rs

-- of some units at most one has it
abbrev pub OneHas : {R : Type 0} → (R → Bool) → List R → Type 0
OneHas has [] = Prim.Unit {0}
OneHas {R = R} has (r ∷ rs) = (has r ≡ true → (x : R) → IsIn x rs → has x ≡ false) × OneHas has rs

module _ {R : Type 0} (has : R → Bool) where
  one-filter : (t : R → Bool) (rs : List R) → OneHas has rs → OneHas has (filter t rs)
  one-filter t [] one = tt
  one-filter t (r ∷ rs) one = go (t r) (one-filter t rs one.1)
    where
      go : (b : Bool) → OneHas has (filter t rs) → OneHas has (cond {A = List R} b (r ∷ filter t rs) (filter t rs))
      go true others = ((λ is x i. one.0 is x (in-filter t rs x i).0), others)
      go false others = others

  -- a place among the units is that of the one that has it
  module _ {A : Type 0} (test : A → Bool) (made : R → List A) where
    among-none : (number : ℕ) (rs : List R) → ((r : R) → IsIn r rs → position test (made r) ≡ None) → place_among test number (map made rs) ≡ None
    among-none number [] none = refl
    among-none number (r ∷ rs) none =
        ap₂ (λ (a : Option ℕ) (b : Option (ℕ × ℕ)). option_or (option_map (λ place. (number, place)) a) b) (none r (inl refl)) (among-none (suc number) rs (λ x i. none x (inr i)))

    among-first : (number : ℕ) (rs : List R) → OneHas has rs → ((r : R) → IsIn r rs → has r ≡ false → position test (made r) ≡ None)
        → place_among test number (map made rs) ≡ first_with has (λ r. position test (made r)) number rs
    among-first number [] one none = refl
    among-first number (r ∷ rs) one none = go (has r) refl (among-first (suc number) rs one.1 (λ x i. none x (inr i)))
      where
        right : (o : Option (ℕ × ℕ)) → option_or o None ≡ o
        right (Some p) = refl
        right None = refl

        go : (b : Bool) → has r ≡ b → place_among test (suc number) (map made rs) ≡ first_with has (λ x. position test (made x)) (suc number) rs
            → option_or (option_map (λ place. (number, place)) (position test (made r))) (place_among test (suc number) (map made rs))
            ≡ (if b then option_map (λ p. (number, p)) (position test (made r)) else first_with has (λ x. position test (made x)) (suc number) rs)
        go true is others =
            ap (option_or (option_map (λ place. (number, place)) (position test (made r)))) (among-none (suc number) rs (λ x i. none x (inr i) (one.0 is x i)))
            ∙ right (option_map (λ place. (number, place)) (position test (made r)))
        go false is others = ap (λ (o : Option ℕ). option_or (option_map (λ place. (number, place)) o) (place_among test (suc number) (map made rs))) (none r (inl refl) is) ∙ others

  pub first-at : (place : R → Option ℕ) (number : ℕ) (front : List R) (r : R) (more : List R) → OneHas has (front ++ r ∷ more) → has r ≡ true
      → first_with has place number (front ++ r ∷ more) ≡ option_map (λ p. (number + length front, p)) (place r)
  first-at place number [] r more one is = ap (λ b. if b then option_map (λ p. (number, p)) (place r) else first_with has place (suc number) more) is ∙ ap (λ n. option_map (λ p. (n, p)) (place r)) (omega arith)
  first-at place number (x ∷ front) r more one is =
      ap (λ b. if b then option_map (λ p. (number, p)) (place x) else first_with has place (suc number) (front ++ r ∷ more)) other
      ∙ first-at place (suc number) front r more one.1 is
      ∙ ap (λ n. option_map (λ p. (n, p)) (place r)) (omega arith)
    where
      go : (b : Bool) → has x ≡ b → b ≡ false
      go true h = absurd (true≢false (sym is ∙ one.0 h r (append-right front (r ∷ more) r (inl refl))))
      go false h = refl

      other : has x ≡ false
      other = go (has x) refl

  -- two places that are told where it is are in the unit of one number
  first-unit : (p q : R → Option ℕ) (number : ℕ) (rs : List R) → ((r : R) → IsIn r rs → has r ≡ true → is_some (p r) ≡ is_some (q r))
      → option_map {T = ℕ × ℕ} (λ x. x.0) (first_with has p number rs) ≡ option_map {T = ℕ × ℕ} (λ x. x.0) (first_with has q number rs)
  first-unit p q number [] same = refl
  first-unit p q number (r ∷ rs) same = go (has r) (same r (inl refl)) (first-unit p q (suc number) rs (λ x i. same x (inr i)))
    where
      numbers : (a b : Option ℕ) → is_some a ≡ is_some b → option_map {T = ℕ × ℕ} (λ x. x.0) (option_map {T = ℕ} (λ place. (number, place)) a) ≡ option_map {T = ℕ × ℕ} (λ x. x.0) (option_map {T = ℕ} (λ place. (number, place)) b)
      numbers None None e = refl
      numbers None (Some y) e = absurd (true≢false (sym e))
      numbers (Some x) None e = absurd (true≢false e)
      numbers (Some x) (Some y) e = refl

      go : (b : Bool) → (b ≡ true → is_some (p r) ≡ is_some (q r)) → option_map {T = ℕ × ℕ} (λ x. x.0) (first_with has p (suc number) rs) ≡ option_map {T = ℕ × ℕ} (λ x. x.0) (first_with has q (suc number) rs)
          → option_map {T = ℕ × ℕ} (λ x. x.0) (if b then option_map (λ place. (number, place)) (p r) else first_with has p (suc number) rs)
          ≡ option_map {T = ℕ × ℕ} (λ x. x.0) (if b then option_map (λ place. (number, place)) (q r) else first_with has q (suc number) rs)
      go true here others = numbers (p r) (q r) (here refl)
      go false here others = others

-- ---- a module

-- the units that were read and are carried
abbrev pub carried : KeptModule → List ReadUnit
carried m = filter (is_carried_read m.kept) m.units.items

-- the offsets of the kept entries of a unit
abbrev pub inside : List ℕ → ReadUnit → List ℕ
inside kept r = filter (is_in_unit r.unit.header) kept

-- whether a kept entry of a unit stands at an offset
abbrev pub stands_in : List ℕ → ℕ → ReadUnit → Bool
stands_in kept offset r = list_any (λ k. k == offset) (inside kept r)

-- what is made of the kept entries of a unit that was read
abbrev pub drafted : (Unit → ExpressionSource) → Bool → Module → ReadUnit → List Draft
drafted source big_endian c r =
    let u = unit_read c.sections r.unit.header in
    unit_drafts (source u) (source_of (kept_of c) u) big_endian (kept_in (kept_of c) u)

-- the same order of offsets
rises : (n : ℕ) (ps : List Placed) → Rising n ps → Rises n ps
rises n [] h = tt
rises n (p ∷ ps) h = (h.0, rises (suc p.entry.offset) ps h.1)

or-true : (b : Bool) → (b || true) ≡ true
or-true true = refl
or-true false = refl

module _ (output : OutputFor) (offset : ℕ) where
  -- of the entries of a unit some are made of the one at an offset exactly where it is one of them
  no-sources : (role : Role) (n : ℕ) (es : List Entry) → list_any (λ k. k == offset) (map (λ e. e.offset) es) ≡ false → many (is_source output offset role) (placed_at n es) ≡ 0
  no-sources role n [] none = refl
  no-sources role n (e ∷ es) none = go (e.offset == offset) none (is_wrapped output (record { unit = n; entry = e }) || (role_number role == 0)) (no-sources role n es)
    where
      go : (b : Bool) → (b || list_any (λ k. k == offset) (map (λ e. e.offset) es)) ≡ false → (wrapped : Bool) → (list_any (λ k. k == offset) (map (λ e. e.offset) es) ≡ false → many (is_source output offset role) (placed_at n es) ≡ 0)
          → (if b && wrapped then 1 else 0) + many (is_source output offset role) (placed_at n es) ≡ 0
      go true is wrapped others = absurd (true≢false is)
      go false is wrapped others = omega (arith, others is)

  some-source : (n : ℕ) (es : List Entry) → list_any (λ k. k == offset) (map (λ e. e.offset) es) ≡ true → 1 ≤ many (is_source output offset itself) (placed_at n es)
  some-source n [] some = absurd (true≢false (sym some))
  some-source n (e ∷ es) some = go (e.offset == offset) some (is_wrapped output (record { unit = n; entry = e }) || true) (or-true (is_wrapped output (record { unit = n; entry = e }))) (some-source n es)
    where
      go : (b : Bool) → (b || list_any (λ k. k == offset) (map (λ e. e.offset) es)) ≡ true → (all : Bool) → all ≡ true → (list_any (λ k. k == offset) (map (λ e. e.offset) es) ≡ true → 1 ≤ many (is_source output offset itself) (placed_at n es))
          → 1 ≤ (if b && all then 1 else 0) + many (is_source output offset itself) (placed_at n es)
      go true is true h others = omega arith
      go true is false h others = absurd (true≢false (sym h))
      go false is all h others = omega (arith, others is)

module _ (c : Module) (m : KeptModule) (is : IsKeptModule c.functions c.sections m) (offset : ℕ) where
  are : AreKept (kept_of c)
  are = are-kept (λ u. is_required c.functions c.sections u.header) c is.whole

  -- an offset at which a kept entry of a unit stands lies in the unit
  bounds : (r : ReadUnit) → stands_in m.kept offset r ≡ true → (r.unit.header.offset ≤ offset) × (offset < r.unit.header.end)
  bounds r some =
      let found = any-in (λ k. k == offset) (inside m.kept r) some in
      let both = and_parts (nat_le r.unit.header.offset found.0) (nat_lt found.0 r.unit.header.end) (in-filter (is_in_unit r.unit.header) m.kept found.0 found.1).1 in
      let same : found.0 ≡ offset = eqb-true found.0 offset found.2 in
      let low : r.unit.header.offset ≤ found.0 = leb-true r.unit.header.offset found.0 both.0 in
      let high : found.0 < r.unit.header.end = ltb-true found.0 r.unit.header.end both.1 in
      (omega (arith, same, low), omega (arith, same, high))

  apart : (from : ℕ) (rs : List ReadUnit) → UnitsStand from (map (λ r. unit_read c.sections r.unit.header) rs) → OneHas (stands_in m.kept offset) rs
  apart from [] stand = tt
  apart from (r ∷ rs) stand = ((λ some x i. other some x i (stands_in m.kept offset x) refl), apart r.unit.header.end rs stand.4)
    where
      other : stands_in m.kept offset r ≡ true → (x : ReadUnit) → IsIn x rs → (b : Bool) → stands_in m.kept offset x ≡ b → b ≡ false
      other some x i false h = refl
      other some x i true h =
          let behind : r.unit.header.end ≤ x.unit.header.offset = unit-from r.unit.header.end (map (λ y. unit_read c.sections y.unit.header) rs) (unit_read c.sections x.unit.header) stand.4 (map-in (λ y. unit_read c.sections y.unit.header) rs x i) in
          absurd (omega (arith, behind, (bounds r some).1, (bounds x h).0))

  -- At an offset stands a kept entry of one carried unit at most.
  pub one-stands : OneHas (stands_in m.kept offset) (carried m)
  one-stands = one-filter (stands_in m.kept offset) (is_carried_read m.kept) m.units.items (apart 0 m.units.items (subst (UnitsStand 0) (read-units c m is) are.stand))

  -- The place of an offset among those of the carried units is in that unit.
  pub offset-place : (number : ℕ) → place_among (λ k. k == offset) number (map (inside m.kept) (carried m)) ≡ first_with (stands_in m.kept offset) (λ r. position (λ k. k == offset) (inside m.kept r)) number (carried m)
  offset-place number =
      among-first (stands_in m.kept offset) (λ k. k == offset) (inside m.kept) number (carried m) one-stands
      (λ r i none. position_from-zero (λ k. k == offset) (inside m.kept r) ∙ position-none (λ k. k == offset) 0 (inside m.kept r) none)

  module _ (source : Unit → ExpressionSource) (big_endian : Bool) where
    drafted-read : carried_drafts source big_endian (kept_of c) ≡ map (drafted source big_endian c) (carried m)
    unfolding carried_drafts
    drafted-read =
        let make : Unit → List Draft = λ u. unit_drafts (source u) (source_of (kept_of c) u) big_endian (kept_in (kept_of c) u) in
        ap (map make) (carried-read c m is) ∙ map-twice make (λ r. unit_read c.sections r.unit.header) (carried m)

    module _ (r : ReadUnit) (i : IsIn r m.units.items) where
      abbrev read : Unit
      read = unit_read c.sections r.unit.header

      -- whether the offset is one of the unit's, by its kept entries
      by-entries : stands_in m.kept offset r ≡ list_any (λ k. k == offset) (map (λ e. e.offset) (kept_of_unit m.kept read))
      by-entries = ap (list_any (λ k. k == offset)) (read-within c m is r i)

      -- In a unit in which the offset is not that of a kept entry nothing is made of it,
      pub made-none : (role : Role) → stands_in m.kept offset r ≡ false → position (is_made_of offset role) (drafted source big_endian c r) ≡ None
      made-none role none =
          made-nowhere (source read) (source_of (kept_of c) read) big_endian offset role (kept_in (kept_of c) read)
          (ap (many (is_source (source read).told.output offset role)) (read-entries c m is r i) ∙ no-sources (source read).told.output offset role r.unit.header.offset (kept_of_unit m.kept read) (sym by-entries ∙ none))

      -- and in the one in which it is something is made of it itself.
      pub made-some : stands_in m.kept offset r ≡ true → is_some (position (is_made_of offset itself) (drafted source big_endian c r)) ≡ true
      made-some some =
          let test = is_made_of offset itself in
          let drafts = drafted source big_endian c r in
          let sources : 1 ≤ many (is_source (source read).told.output offset itself) (kept_in (kept_of c) read) =
          subst (λ (es : List Placed). 1 ≤ many (is_source (source read).told.output offset itself) es) (sym (read-entries c m is r i)) (some-source (source read).told.output offset r.unit.header.offset (kept_of_unit m.kept read) (sym by-entries ∙ some)) in
          ap is_some (position_from-zero test drafts)
          ∙ position-some test 0 drafts (many-any test drafts (subst (λ n. 1 ≤ n) (sym (made-many (source read) (source_of (kept_of c) read) big_endian offset itself (kept_in (kept_of c) read))) sources))

      -- An entry that is made of it in a role stands where it is looked for.
      pub made-at : (role : Role) (before behind : List Draft) (d : Draft) → drafted source big_endian c r ≡ before ++ d ∷ behind → is_made_of offset role d ≡ true → position (is_made_of offset role) (drafted source big_endian c r) ≡ Some (length before)
      made-at role before behind d is_there made =
          made-place (source read) (source_of (kept_of c) read) big_endian offset role (kept_in (kept_of c) read) before behind d is_there made
          (sources-once (source read).told.output 0 offset role (kept_in (kept_of c) read) (rises 0 (kept_in (kept_of c) read) (rising-filter (λ e. e.unit == r.unit.header.offset) 0 (kept_of c).kept (kept-rising (kept_of c) are))))

    -- The place of what is made of an entry in a role is in the carried unit in which the entry's offset stands, at its place there.
    pub goal-place : (role : Role) (number : ℕ) → place_among (is_made_of offset role) number (carried_drafts source big_endian (kept_of c))
        ≡ first_with (stands_in m.kept offset) (λ r. position (is_made_of offset role) (drafted source big_endian c r)) number (carried m)
    goal-place role number =
        ap (place_among (is_made_of offset role) number) drafted-read
        ∙ among-first (stands_in m.kept offset) (is_made_of offset role) (drafted source big_endian c) number (carried m) one-stands (λ r i. made-none r (in-filter (is_carried_read m.kept) m.units.items r i).0 role)

    -- What is made of an entry itself is in the unit of the number in which its offset is.
    pub goal-unit : (number : ℕ) → option_map {T = ℕ × ℕ} (λ x. x.0) (place_among (is_made_of offset itself) number (carried_drafts source big_endian (kept_of c)))
        ≡ option_map {T = ℕ × ℕ} (λ x. x.0) (place_among (λ k. k == offset) number (map (inside m.kept) (carried m)))
    goal-unit number =
        ap (option_map {T = ℕ × ℕ} (λ x. x.0)) (goal-place itself number)
        ∙ first-unit (stands_in m.kept offset) (λ r. position (is_made_of offset itself) (drafted source big_endian c r)) (λ r. position (λ k. k == offset) (inside m.kept r)) number (carried m)
        (λ r i some. made-some r (in-filter (is_carried_read m.kept) m.units.items r i).0 some ∙ sym (ap is_some (position_from-zero (λ k. k == offset) (inside m.kept r)) ∙ position-some (λ k. k == offset) 0 (inside m.kept r) some))
        ∙ sym (ap (option_map {T = ℕ × ℕ} (λ x. x.0)) (offset-place number))

    -- An entry of a carried unit that is made of one at the offset in a role is at the unit's number and its own place there.
    pub goal-at : (role : Role) (number : ℕ) (front more : List ReadUnit) (r : ReadUnit) → carried m ≡ front ++ r ∷ more
        → (before behind : List Draft) (d : Draft) → drafted source big_endian c r ≡ before ++ d ∷ behind → is_made_of offset role d ≡ true
        → place_among (is_made_of offset role) number (carried_drafts source big_endian (kept_of c)) ≡ Some (number + length front, length before)
    goal-at role number front more r units_are before behind d drafts_are made =
        goal-place role number
        ∙ ap (first_with (stands_in m.kept offset) place number) units_are
        ∙ first-at (stands_in m.kept offset) place number front r more (subst (OneHas (stands_in m.kept offset)) units_are one-stands) (go (stands_in m.kept offset r) refl)
        ∙ ap (option_map (λ p. (number + length front, p))) there
      where
        place : ReadUnit → Option ℕ
        place x = position (is_made_of offset role) (drafted source big_endian c x)

        inside-read : IsIn r m.units.items
        inside-read = (in-filter (is_carried_read m.kept) m.units.items r (subst (IsIn r) (sym units_are) (append-right front (r ∷ more) r (inl refl)))).0

        there : place r ≡ Some (length before)
        there = made-at r inside-read role before behind d drafts_are made

        go : (b : Bool) → stands_in m.kept offset r ≡ b → b ≡ true
        go true h = refl
        go false h = absurd (true≢false (ap is_some (sym there ∙ made-none r inside-read role h)))
