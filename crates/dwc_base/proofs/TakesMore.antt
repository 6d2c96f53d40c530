-- Each reader of tables, entries and instructions takes a byte at least, or at least goes not back.
use Rattle.std.proofs.Common.{◌≡◌, ℕ, zero, suc, ◌%◌, ◌^◌, ◌<◌, refl, ap, arith, lit<, List, [], ◌∷◌, length, length-drop, Option, Some, None, Ok, Err, Bool, true, false, ltb, cond}
use Rattle.std.specs.Option.{unwrap_or}
use Rattle.std.specs.Prelude.{ℤ, if◌then◌else◌}
use Rattle.dwc_base.specs.declared.faults.Flaw.TheVariants.{TooWide}
use Rattle.dwc_base.specs.Reading.{Unread, Read, ◌>>=◌, forbid, passed, seen_as, uleb_value, uleb_with, uleb_fitting, uleb_at, sleb_value, sleb_with, sleb_fitting, sleb_at, is_64_bit, items_at, items_up_to}
use Rattle.dwc_base.specs.Abbreviations.{implicit_at, attribute_spec_at, declaration_behind, declaration_at}
use Rattle.dwc_base.proofs.Items.{Leaves, LeavesFewer}
use Rattle.dwc_base.proofs.Takes.{Leaves-bind, Leaves-behind, Leaves-same, number_at-leaves}

-- fewer than n is fewer than what is above
pub Leaves-more : {A : Type 0} (r : Read A) (n : ℕ) → Leaves r n → Leaves r (suc n)
Leaves-more (Ok x) n h = record { fewer = omega (arith, h.fewer) }
Leaves-more (Err flaw) n h = record { fewer = tt }

-- a value seen as another leaves as much
pub Leaves-seen : {A B : Type 0} (view : A → B) (r : Read A) (n : ℕ) → Leaves r n → Leaves (seen_as view r) n
Leaves-seen view (Ok x) n h = record { fewer = h.fewer }
Leaves-seen view (Err flaw) n h = record { fewer = tt }

-- either of two
pub Leaves-either : {A : Type 0} (b : Bool) (r s : Read A) (n : ℕ) → Leaves r n → Leaves s n → Leaves (if b then r else s) n
Leaves-either true r s n h k = h
Leaves-either false r s n h k = k

-- a LEB128 number has bytes, and no more than there are
uleb_value-some : (bytes : List ℕ) (n count : ℕ) → uleb_value bytes ≡ Some (n, count) → (0 < count) × (0 < length bytes)
uleb_value-some [] n count h = absurd (cc)
uleb_value-some (b ∷ bs) n count h = (go (ltb b 128) (uleb_value bs) h, omega arith)
  where
    count_of : {m k : ℕ} → ◌≡◌ {A = Option (ℕ × ℕ)} (Some (m, k)) (Some (n, count)) → k ≡ count
    count_of e = ap (λ (o : Option (ℕ × ℕ)). (unwrap_or o (0, 0)).1) e

    go : (last : Bool) (r : Option (ℕ × ℕ)) → cond {A = Option (ℕ × ℕ)} last (Some (b, 1)) (uleb_with (b % 128) r) ≡ Some (n, count) → 0 < count
    go true r e = let same : 1 ≡ count = count_of e in omega (arith, same)
    go false None e = absurd (cc)
    go false (Some high) e = let same : suc high.1 ≡ count = count_of e in omega (arith, same)

pub uleb_at-leaves : (u : Unread) → Leaves (uleb_at u) (length u.left)
unfolding uleb_at
uleb_at-leaves u = record { fewer = go (uleb_value u.left) refl }
  where
    fitting : (b : Bool) (n count : ℕ) → 0 < count → 0 < length u.left → LeavesFewer {A = ℕ} (if b then Ok (n, passed count u) else Err TooWide) (length u.left)
    fitting true n count some left = omega (arith, length-drop count u.left)
    fitting false n count some left = tt

    go : (o : Option (ℕ × ℕ)) → uleb_value u.left ≡ o → LeavesFewer (uleb_fitting u o) (length u.left)
    go None h = tt
    go (Some n) h = let some = uleb_value-some u.left n.0 n.1 h in fitting (ltb n.0 (2 ^ 64)) n.0 n.1 some.0 some.1

sleb_value-some : (bytes : List ℕ) (n : ℤ) (count : ℕ) → sleb_value bytes ≡ Some (n, count) → (0 < count) × (0 < length bytes)
sleb_value-some [] n count h = absurd (cc)
sleb_value-some (b ∷ bs) n count h = (go (ltb b 128) (sleb_value bs) _ h, omega arith)
  where
    count_of : {m : ℤ} {k : ℕ} → ◌≡◌ {A = Option (ℤ × ℕ)} (Some (m, k)) (Some (n, count)) → k ≡ count
    count_of e = ap (λ (o : Option (ℤ × ℕ)). (unwrap_or o (n, 0)).1) e

    go : (last : Bool) (r : Option (ℤ × ℕ)) (m : ℤ) → cond {A = Option (ℤ × ℕ)} last (Some (m, 1)) (sleb_with (b % 128) r) ≡ Some (n, count) → 0 < count
    go true r m e = let same : 1 ≡ count = count_of e in omega (arith, same)
    go false None m e = absurd (cc)
    go false (Some high) m e = let same : suc high.1 ≡ count = count_of e in omega (arith, same)

pub sleb_at-leaves : (u : Unread) → Leaves (sleb_at u) (length u.left)
unfolding sleb_at
sleb_at-leaves u = record { fewer = go (sleb_value u.left) refl }
  where
    fitting : (b : Bool) (n : ℤ) (count : ℕ) → 0 < count → 0 < length u.left → LeavesFewer {A = ℤ} (if b then Ok (n, passed count u) else Err TooWide) (length u.left)
    fitting true n count some left = omega (arith, length-drop count u.left)
    fitting false n count some left = tt

    go : (o : Option (ℤ × ℕ)) → sleb_value u.left ≡ o → LeavesFewer (sleb_fitting u o) (length u.left)
    go None h = tt
    go (Some n) h = let some = sleb_value-some u.left n.0 n.1 h in fitting (is_64_bit n.0) n.0 n.1 some.0 some.1

-- things up to a mark take as much as the mark
pub items_up_to-leaves : {A : Type 0} (most : ℕ) (item : Unread → Read (Option A)) (u : Unread) → ((v : Unread) → Leaves (item v) (length v.left)) → Leaves (items_up_to most item u) (length u.left)
unfolding items_up_to
items_up_to-leaves zero item u takes = record { fewer = tt }
items_up_to-leaves {A} (suc most) item u takes = Leaves-bind (item u) _ (length u.left) (takes u) (λ first. go first.0 first.1 (items_up_to-leaves most item first.1 takes))
  where
    go : (o : Option A) (v : Unread) → Leaves (items_up_to most item v) (length v.left) → Leaves {A = List A} (elim o [ None ↦ Ok ([], v) | Some x ↦ (items_up_to most item v >>= λ others. Ok (x ∷ others.0, others.1)) ]) (suc (length v.left))
    go None v rest = Leaves-same [] v
    go (Some x) v rest = Leaves-bind _ _ _ (Leaves-more _ _ rest) (λ others. Leaves-same _ _)

pub items_at-leaves : {A : Type 0} (item : Unread → Read (Option A)) (u : Unread) → ((v : Unread) → Leaves (item v) (length v.left)) → Leaves (items_at item u) (length u.left)
unfolding items_at
items_at-leaves item u takes = items_up_to-leaves (suc (length u.left)) item u takes

pub implicit_at-leaves : (form : ℕ) (u : Unread) → Leaves (implicit_at form u) (suc (length u.left))
unfolding implicit_at
implicit_at-leaves form u = search (arith, Leaves-either, Leaves-more, Leaves-same, sleb_at-leaves)

pub attribute_spec_at-leaves : (u : Unread) → Leaves (attribute_spec_at u) (length u.left)
unfolding attribute_spec_at
attribute_spec_at-leaves u = search (arith, Leaves-bind, Leaves-behind, Leaves-same, Leaves-more, uleb_at-leaves, implicit_at-leaves) depth 9

attribute_specs-leaves : (u : Unread) → Leaves (items_at attribute_spec_at u) (length u.left)
attribute_specs-leaves u = items_at-leaves attribute_spec_at u attribute_spec_at-leaves

declaration_behind-leaves : (code : ℕ) (u : Unread) → Leaves (declaration_behind code u) (length u.left)
unfolding declaration_behind
declaration_behind-leaves code u =
    Leaves-bind _ _ _ (uleb_at-leaves u) (λ tag. Leaves-behind {A = Unit {0}} (forbid _ _) _ _ (λ small.
    Leaves-bind _ _ _ (Leaves-more _ _ (number_at-leaves 1 tag.1 (lit< tt))) (λ children. Leaves-behind {A = Unit {0}} (forbid _ _) _ _ (λ flag.
    Leaves-bind _ _ _ (Leaves-more _ _ (attribute_specs-leaves children.1)) (λ attributes. Leaves-same _ _)))))

pub declaration_at-leaves : (u : Unread) → Leaves (declaration_at u) (length u.left)
unfolding declaration_at
declaration_at-leaves u = search (arith, Leaves-bind, Leaves-either, Leaves-same, Leaves-more, uleb_at-leaves, declaration_behind-leaves) depth 7
