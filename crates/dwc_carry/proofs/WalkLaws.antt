-- The entries of a module stand in file order, each at most one deeper than the one before it, and the kept ones of a unit hold their
-- parents.
use Rattle.std.proofs.Common.{◌≡◌, ◌≢◌, ℕ, suc, ◌+◌, ◌<◌, ◌≤◌, ◌⊎◌, List, [], ◌∷◌, ◌++◌, take, refl, ap, ap₂, sym, subst, ◌∙◌, inl, inr, arith, one-add, Bool, true, false, cond, Option, Some, None}
use Rattle.std.specs.Prelude.{◌==◌, ◌&&◌, ◌||◌, not}
use Rattle.std.specs.Option.{unwrap_or}
use Rattle.std.specs.List.{filter, prefix_len, take_while}
use Rattle.std.proofs.lemmas.Bool.{cases_eq, eq-eqb, eqb-true, eqb-false, ne_eqb, not_from_false}
use Rattle.std.proofs.lemmas.Option.{none-some}
use Rattle.dwc_base.specs.declared.constants.TheConstants.{DW_TAG_constant, DW_TAG_formal_parameter, DW_TAG_namespace, DW_TAG_variable}
use Rattle.dwc_dwarf.specs.Entries.{Entry}
use Rattle.dwc_rules.specs.EntryRules.{is_required}
use Rattle.dwc_rules.specs.Carried.{Module, placed_entries}
use Rattle.dwc_dwarf.specs.ReadUnits.{Unit}
use Rattle.dwc_rules.specs.CarriedUnits.{kept_of}
use Rattle.dwc_rules.specs.Kept.{Placed, is_parent, is_part_of, is_part_tag, keeps, parent_of, refers_to, same_place}
use Rattle.dwc_rules.specs.KeptEntries.{has_place}
use Rattle.dwc_rules.specs.KeptModules.{KeptModule, kept_in}
use Rattle.dwc_rules.specs.Scopes.{Rises, Steps}
use Rattle.dwc_dwarf.specs.UnitOffsets.{RiseIn}
use Rattle.dwc_base.specs.Wasm.{last_of}
use Rattle.dwc_base.proofs.InLists.{IsIn, contains-in, in-contains, in-filter, filter-in, in-map, map-in}
use Rattle.dwc_kept.specs.declared.kept_units.KeptModule as read
use Rattle.dwc_kept.specs.declared.read_unit.ReadUnit.{ReadUnit}
use Rattle.dwc_kept.specs.KeptUnits.{AreBelow, IsTree, kept_of_unit, offsets_kept, stands_at}
use Rattle.dwc_kept.specs.ReadUnits.{IsKeptModule, unit_read}
use Rattle.dwc_kept.proofs.KeptDepths.{depths_of}
use Rattle.dwc_kept.proofs.KeptInUnits.{AreKept, Rising, are-kept, in-unit, kept-entry, of-unit, rising-units}
use Rattle.dwc_kept.proofs.KeptModuleLaws.{read-in}
use Rattle.dwc_kept.proofs.KeptStanding.{UnitsStand, placed_at, placed-unit, unit-from}
use Rattle.dwc_extents.specs.Lineages.{AreWalked}

-- ---- parents, looked for from the first entry on

module _ {A : Type 0} (t : A → Bool) where
  front-pass : (x : A) (xs : List A) → t x ≡ true → take_while t (x ∷ xs) ≡ x ∷ take_while t xs
  front-pass x xs pass = ap (λ b. take (cond b (1 + prefix_len t xs) 0) (x ∷ xs)) pass ∙ ap (λ n. take n (x ∷ xs)) (one-add (prefix_len t xs))

  front-stop : (x : A) (xs : List A) → t x ≡ false → take_while t (x ∷ xs) ≡ []
  front-stop x xs stop = ap (λ b. take (cond b (1 + prefix_len t xs) 0) (x ∷ xs)) stop

  filter-both : (s : A → Bool) (xs : List A) → filter s (filter t xs) ≡ filter (λ x. t x && s x) xs
  filter-both s [] = refl
  filter-both s (x ∷ xs) = go (t x) (filter-both s xs)
    where
      go : (b : Bool) → filter s (filter t xs) ≡ filter (λ x. t x && s x) xs → filter s (cond {A = List A} b (x ∷ filter t xs) (filter t xs)) ≡ cond {A = List A} (b && s x) (x ∷ filter (λ x. t x && s x) xs) (filter (λ x. t x && s x) xs)
      go true more = ap (λ ys. cond {A = List A} (s x) (x ∷ ys) ys) more
      go false more = more

-- what is found behind an entry, or else this one, if it is as deep as it has to be
abbrev or_this : Bool → Placed → Option Placed → Option Placed
or_this true p o = Some (unwrap_or o p)
or_this false p o = o

this-found : (b : Bool) (p q : Placed) → or_this b p (Some q) ≡ Some q
this-found true p q = refl
this-found false p q = refl

-- nothing is looked for at an entry and behind it
parent-here : (p : Placed) (ps : List Placed) (e : Placed) → e.entry.offset ≡ p.entry.offset → parent_of (p ∷ ps) e ≡ None
parent-here p ps e same = ap (λ qs. last_of (filter (λ q. suc q.entry.depth == e.entry.depth) qs)) (front-stop (λ q. not (same_place e q)) p ps (ap not (eq-eqb e.entry.offset p.entry.offset same)))

parent-behind : (p : Placed) (ps : List Placed) (e : Placed) → e.entry.offset ≢ p.entry.offset → parent_of (p ∷ ps) e ≡ or_this (suc p.entry.depth == e.entry.depth) p (parent_of ps e)
parent-behind p ps e other =
    ap (λ qs. last_of (filter (λ q. suc q.entry.depth == e.entry.depth) qs)) (front-pass (λ q. not (same_place e q)) p ps (not_from_false _ (ne_eqb e.entry.offset p.entry.offset other)))
    ∙ go (suc p.entry.depth == e.entry.depth) (filter (λ q. suc q.entry.depth == e.entry.depth) (take_while (λ q. not (same_place e q)) ps))
  where
    go : (b : Bool) (qs : List Placed) → last_of (cond {A = List Placed} b (p ∷ qs) qs) ≡ or_this b p (last_of qs)
    go true qs = refl
    go false qs = refl

-- A parent is one of the entries, and one less deep.
found-parent : (ps : List Placed) (e p : Placed) → parent_of ps e ≡ Some p → IsIn p ps × (suc p.entry.depth ≡ e.entry.depth)
found-parent [] e p h = absurd (none-some p h)
found-parent (x ∷ ps) e p h = go (cases_eq e.entry.offset x.entry.offset) (λ k. found-parent ps e p k)
  where
    next : (b : Bool) → (suc x.entry.depth == e.entry.depth) ≡ b → (o : Option Placed) → parent_of ps e ≡ o → or_this b x o ≡ Some p → (parent_of ps e ≡ Some p → IsIn p ps × (suc p.entry.depth ≡ e.entry.depth)) → IsIn p (x ∷ ps) × (suc p.entry.depth ≡ e.entry.depth)
    next true is None at k others = (inl (sym (same k)), ap (λ (q : Placed). suc q.entry.depth) (sym (same k)) ∙ eqb-true (suc x.entry.depth) e.entry.depth is)
      where
        same : ◌≡◌ {A = Option Placed} (Some x) (Some p) → x ≡ p
        same y = cc
    next true is (Some q) at k others = let found = others (at ∙ k) in (inr found.0, found.1)
    next false is o at k others = let found = others (at ∙ k) in (inr found.0, found.1)

    go : (e.entry.offset ≡ x.entry.offset) ⊎ (e.entry.offset ≡ x.entry.offset → ⊥) → (parent_of ps e ≡ Some p → IsIn p ps × (suc p.entry.depth ≡ e.entry.depth)) → IsIn p (x ∷ ps) × (suc p.entry.depth ≡ e.entry.depth)
    go (inl same) others = absurd (none-some p (sym (parent-here x ps e same) ∙ h))
    go (inr other) others = next (suc x.entry.depth == e.entry.depth) refl (parent_of ps e) refl (sym (parent-behind x ps e other) ∙ h) others

-- ---- in one unit

rise-above : (n from end : ℕ) (xs : List Entry) (e : Placed) → RiseIn from end xs → IsIn e (placed_at n xs) → from ≤ e.entry.offset
rise-above n from end [] e h i = absurd i
rise-above n from end (x ∷ xs) e h (inl same) = let at : e.entry.offset ≡ x.offset = ap (λ (p : Placed). p.entry.offset) same in omega (arith, h.0, at)
rise-above n from end (x ∷ xs) e h (inr i) = omega (arith, h.0, rise-above n (suc x.offset) end xs e h.2 i)

-- The parent that is found is one of a unit; where none is found, the entry is at most one deeper than said.
abbrev FoundIn : ℕ → ℕ → Placed → Option Placed → Type 0
FoundIn n depth e None = e.entry.depth ≤ suc depth
FoundIn n depth e (Some q) = q.unit ≡ n

found-with : (n depth : ℕ) (x e : Placed) → x.unit ≡ n → x.entry.depth ≤ suc depth → (o : Option Placed) → FoundIn n x.entry.depth e o → FoundIn n depth e (or_this (suc x.entry.depth == e.entry.depth) x o)
found-with n depth x e own le (Some q) h = go (suc x.entry.depth == e.entry.depth)
  where
    go : (b : Bool) → FoundIn n depth e (or_this b x (Some q))
    go true = h
    go false = h
found-with n depth x e own le None h = go (suc x.entry.depth == e.entry.depth) refl
  where
    go : (b : Bool) → (suc x.entry.depth == e.entry.depth) ≡ b → FoundIn n depth e (or_this b x None)
    go true is = own
    go false is = omega (arith, h, le, eqb-false (suc x.entry.depth) e.entry.depth is)

below-parent : (n from end depth : ℕ) (xs : List Entry) (rest : List Placed) (e : Placed) → RiseIn from end xs → AreBelow depth (depths_of xs) → IsIn e (placed_at n xs) → FoundIn n depth e (parent_of (placed_at n xs ++ rest) e)
below-parent n from end depth [] rest e rise below i = absurd i
below-parent n from end depth (x ∷ xs) rest e rise below (inl same) =
    let at : e.entry.offset ≡ x.offset = ap (λ (p : Placed). p.entry.offset) same in
    let deep : e.entry.depth ≡ x.depth = ap (λ (p : Placed). p.entry.depth) same in
    subst (FoundIn n depth e) (sym (parent-here (record { unit = n; entry = x }) (placed_at n xs ++ rest) e at)) (omega (arith, deep, below.1))
below-parent n from end depth (x ∷ xs) rest e rise below (inr i) =
    let above = rise-above n (suc x.offset) end xs e rise.2 i in
    subst (FoundIn n depth e) (sym (parent-behind (record { unit = n; entry = x }) (placed_at n xs ++ rest) e (λ same. absurd (omega (arith, same, above)))))
    (found-with n depth (record { unit = n; entry = x }) e refl below.1 (parent_of (placed_at n xs ++ rest) e) (below-parent n (suc x.offset) end x.depth xs rest e rise.2 below.2 i))

-- The parent of an entry below the root of its unit is one of the unit.
abbrev HasParentIn : ℕ → Option Placed → Type 0
HasParentIn n o = (q : Placed) × (o ≡ Some q) × (q.unit ≡ n)

tree-parent : (n from end : ℕ) (xs : List Entry) (rest : List Placed) (e : Placed) → RiseIn from end xs → IsTree (depths_of xs) → IsIn e (placed_at n xs) → 0 < e.entry.depth → HasParentIn n (parent_of (placed_at n xs ++ rest) e)
tree-parent n from end [] rest e rise tree i some = absurd i
tree-parent n from end (x ∷ xs) rest e rise tree (inl same) some = let deep : e.entry.depth ≡ x.depth = ap (λ (p : Placed). p.entry.depth) same in absurd (omega (arith, deep, some, tree.0))
tree-parent n from end (x ∷ xs) rest e rise tree (inr i) some = go (parent_of (placed_at n xs ++ rest) e) refl (below-parent n (suc x.offset) end 0 xs rest e rise.2 tree.1 i)
  where
    root : Placed
    root = record { unit = n; entry = x }

    above : suc x.offset ≤ e.entry.offset
    above = rise-above n (suc x.offset) end xs e rise.2 i

    is : parent_of (placed_at n (x ∷ xs) ++ rest) e ≡ or_this (suc x.depth == e.entry.depth) root (parent_of (placed_at n xs ++ rest) e)
    is = parent-behind root (placed_at n xs ++ rest) e (λ same. absurd (omega (arith, same, above)))

    go : (o : Option Placed) → parent_of (placed_at n xs ++ rest) e ≡ o → FoundIn n 0 e o → HasParentIn n (parent_of (placed_at n (x ∷ xs) ++ rest) e)
    go (Some q) at h = (q, is ∙ ap (or_this (suc x.depth == e.entry.depth) root) at ∙ this-found (suc x.depth == e.entry.depth) root q, h)
    go None at h =
        let deep : suc x.depth ≡ e.entry.depth = omega (arith, h, some, tree.0) in
        (root, is ∙ ap (or_this (suc x.depth == e.entry.depth) root) at ∙ ap (λ b. or_this b root None) (eq-eqb (suc x.depth) e.entry.depth deep), refl)

-- ---- in a module

-- entries of units in front change nothing
skip-parent : (n from end : ℕ) (xs : List Entry) (ps : List Placed) (e q : Placed) → RiseIn from end xs → end ≤ e.entry.offset → parent_of ps e ≡ Some q → parent_of (placed_at n xs ++ ps) e ≡ Some q
skip-parent n from end [] ps e q rise le h = h
skip-parent n from end (x ∷ xs) ps e q rise le h =
    let x' : Placed = record { unit = n; entry = x } in
    parent-behind x' (placed_at n xs ++ ps) e (λ same. absurd (omega (arith, same, le, rise.1)))
    ∙ ap (or_this (suc x.depth == e.entry.depth) x') (skip-parent n (suc x.offset) end xs ps e q rise.2 le h)
    ∙ this-found (suc x.depth == e.entry.depth) x' q

unit-low : (from : ℕ) (us : List Unit) (u : Unit) (e : Placed) → UnitsStand from us → IsIn u us → IsIn e (placed_at u.header.offset u.entries) → u.header.offset ≤ e.entry.offset
unit-low from [] u e h i j = absurd i
unit-low from (v ∷ vs) u e h (inl same) j = rise-above u.header.offset u.header.offset u.header.end u.entries e (subst (λ w. RiseIn w.header.offset w.header.end w.entries) (sym same) h.2) j
unit-low from (v ∷ vs) u e h (inr i) j = unit-low v.header.end vs u e h.4 i j

units-parent : (from : ℕ) (us : List Unit) (u : Unit) (e : Placed) → UnitsStand from us → IsIn u us → IsIn e (placed_at u.header.offset u.entries) → 0 < e.entry.depth → HasParentIn u.header.offset (parent_of (placed_entries us) e)
units-parent from [] u e h i j some = absurd i
units-parent from (v ∷ vs) u e h (inl same) j some =
    subst (λ w. HasParentIn w.header.offset (parent_of (placed_entries (v ∷ vs)) e)) (sym same)
    (tree-parent v.header.offset v.header.offset v.header.end v.entries (placed_entries vs) e h.2 h.3 (subst (λ w. IsIn e (placed_at w.header.offset w.entries)) same j) some)
units-parent from (v ∷ vs) u e h (inr i) j some =
    let found = units-parent v.header.end vs u e h.4 i j some in
    let behind : v.header.end ≤ e.entry.offset = omega (arith, unit-from v.header.end vs u h.4 i, unit-low v.header.end vs u e h.4 i j) in
    (found.0, skip-parent v.header.offset v.header.offset v.header.end v.entries (placed_entries vs) e found.0 h.2 behind found.1, found.2)

rises-of : (n : ℕ) (ps : List Placed) → Rising n ps → Rises n ps
rises-of n [] h = tt
rises-of n (p ∷ ps) h = (h.0, rises-of (suc p.entry.offset) ps h.1)

steps-below : (n depth : ℕ) (es : List Entry) (rest : List Placed) → AreBelow depth (depths_of es) → ((most : ℕ) → Steps most rest) → Steps (suc depth) (placed_at n es ++ rest)
steps-below n depth [] rest h k = k (suc depth)
steps-below n depth (e ∷ es) rest h k = (h.1, steps-below n e.depth es rest h.2 k)

steps-tree : (n : ℕ) (es : List Entry) (rest : List Placed) → IsTree (depths_of es) → ((most : ℕ) → Steps most rest) → (most : ℕ) → Steps most (placed_at n es ++ rest)
steps-tree n [] rest h k most = k most
steps-tree n (e ∷ es) rest h k most = (omega (arith, h.0), steps-below n e.depth es rest (subst (λ d. AreBelow d (depths_of es)) (sym h.0) h.1) k)

steps-units : (from : ℕ) (us : List Unit) → UnitsStand from us → (most : ℕ) → Steps most (placed_entries us)
steps-units from [] h most = tt
steps-units from (u ∷ us) h most = steps-tree u.header.offset u.entries (placed_entries us) h.3 (steps-units u.header.end us h.4) most

-- ---- kept entries

is-parent : (es : List Placed) (e p : Placed) → parent_of es e ≡ Some p → is_parent es e p ≡ true
is-parent es e p h = rw h (eq-eqb p.entry.offset p.entry.offset refl)

keeps-parent : (es : List Placed) (e p : Placed) → parent_of es e ≡ Some p → keeps es e p ≡ true
keeps-parent es e p h = ap (λ b. b || refers_to e p || (is_parent es p e && is_part_of e p)) (is-parent es e p h)

-- An entry keeps the parameters below it.
pub keeps-parameter : (es : List Placed) (e p : Placed) → parent_of es e ≡ Some p → e.entry.tag ≡ DW_TAG_formal_parameter → keeps es p e ≡ true
keeps-parameter es e p h tag =
    go (is_parent es p e) (refers_to p e) (is_parent es e p) (is_part_of p e) (is-parent es e p h)
    (ap (λ t. is_part_tag t || (((t == DW_TAG_variable) || (t == DW_TAG_constant)) && not ((p.entry.depth == 0) || (p.entry.tag == DW_TAG_namespace)))) tag)
  where
    go : (a b x y : Bool) → x ≡ true → y ≡ true → (a || b || (x && y)) ≡ true
    go true b x y one both = refl
    go false true x y one both = refl
    go false false x y one both = ap₂ (λ v w. v && w) one both

-- The parent of an entry of a module is one of its unit.
pub parent-unit : (m : KeptModule) → AreKept m → (e p : Placed) → IsIn e m.entries → parent_of m.entries e ≡ Some p → e.unit ≡ p.unit
parent-unit m are e p i h =
    let there = subst (IsIn e) are.entries i in
    let at = placed-unit 0 m.units e are.stand there in
    let v = at.0 in
    let among = subst (IsIn e) (of-unit 0 m.units v are.stand at.1) (filter-in (λ q. q.unit == v.header.offset) (placed_entries m.units) e there (eq-eqb e.unit v.header.offset (at.2).unit_is)) in
    let some : 0 < e.entry.depth = omega (arith, (found-parent m.entries e p h).1) in
    let own = units-parent 0 m.units v e are.stand at.1 among some in
    (at.2).unit_is ∙ sym own.2 ∙ ap (λ (q : Placed). q.unit) (one own.0 (sym own.1 ∙ ap (λ es. parent_of es e) (sym are.entries) ∙ h))
  where
    one : (q : Placed) → ◌≡◌ {A = Option Placed} (Some q) (Some p) → q ≡ p
    one q k = cc

module _ (m : KeptModule) (are : AreKept m) (u : Unit) (i : IsIn u m.units) where
  abbrev is_kept : Placed → Bool
  is_kept p = has_place m.kept p.entry.offset

  -- a kept entry of the unit is one of its entries
  kept-there : (e : Placed) → IsIn e (kept_in m u) → IsIn e (placed_at u.header.offset u.entries)
  kept-there e j =
      let found = in-map (λ x. record { unit = u.header.offset; entry = x }) (kept_of_unit (offsets_kept m) u) e (subst (IsIn e) (in-unit m are u i) j) in
      subst (λ q. IsIn q (placed_at u.header.offset u.entries)) (sym found.2)
      (map-in (λ x. record { unit = u.header.offset; entry = x }) u.entries found.0 (in-filter (stands_at (offsets_kept m)) u.entries found.0 found.1).0)

  parent-kept : (e p : Placed) → IsIn e (kept_in m u) → parent_of m.entries e ≡ Some p → IsIn p (kept_in m u)
  parent-kept e p j h =
      let kept = kept-entry m are e (in-filter (λ q. q.unit == u.header.offset) m.kept e j).0 in
      let found = found-parent m.entries e p h in
      let some : 0 < e.entry.depth = omega (arith, found.1) in
      let own = units-parent 0 m.units u e are.stand i (kept-there e j) some in
      let same : own.0 ≡ p = one own.0 (sym own.1 ∙ ap (λ es. parent_of es e) (sym are.entries) ∙ h) in
      filter-in (λ q. q.unit == u.header.offset) m.kept p
      (subst (IsIn p) are.kept (filter-in is_kept m.entries p found.0 (are.closed e p kept.0 found.0 kept.1 (keeps-parent m.entries e p h))))
      (eq-eqb p.unit u.header.offset (ap (λ (q : Placed). q.unit) (sym same) ∙ own.2))
    where
      one : (q : Placed) → ◌≡◌ {A = Option Placed} (Some q) (Some p) → q ≡ p
      one q k = cc

  unit-walked : AreWalked m.entries (kept_in m u)
  unit-walked = record {
    rises = rises-of 0 m.entries (subst (Rising 0) (sym are.entries) (rising-units 0 m.units are.stand));
    steps = subst (Steps 0) (sym are.entries) (steps-units 0 m.units are.stand 0);
    walk = record {
      test = λ p. is_kept p && (p.unit == u.header.offset);
      are = ap (filter (λ p. p.unit == u.header.offset)) (sym are.kept) ∙ filter-both is_kept (λ p. p.unit == u.header.offset) m.entries;
      parents = λ e p j h. in-contains (kept_in m u) p (parent-kept e p (contains-in (kept_in m u) e j) h);
    };
  }

-- The kept entries of a unit that was read are walked with their parents.
pub walked : (c : Module) (m : read.KeptModule) (is : IsKeptModule c.functions c.sections m) (r : ReadUnit) → IsIn r m.units.items → AreWalked (kept_of c).entries (kept_in (kept_of c) (unit_read c.sections r.unit.header))
walked c m is r i = unit-walked (kept_of c) (are-kept (λ u. is_required c.functions c.sections u.header) c is.whole) (unit_read c.sections r.unit.header) (read-in c m is r i)
