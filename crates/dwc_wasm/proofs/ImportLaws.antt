-- Imports and type numbers, counted one after another, as a loop does.
use Rattle.std.proofs.Common.{◌≡◌, ℕ, suc, ◌-◌, ◌+◌, ◌≤◌, ◌<◌, Ok, Err, Bool, true, false, refl, sym, ap, ◌∙◌, arith}
use Rattle.std.specs.Prelude.{if◌then◌else◌}
use Rattle.dwc_base.specs.declared.faults.Flaw.{Flaw}
use Rattle.dwc_base.specs.Reading.{Unread, Read, ◌>>=◌, uleb_at}
use Rattle.dwc_base.specs.Wasm.{FileRead, field, import_at, imports_at, type_numbers_at}

-- what was counted before, and what is still read
abbrev pub with_more : ℕ → FileRead ℕ → FileRead ℕ
with_more n read = read >>= λ k. Ok (n + k.0, k.1)

-- one more in front is one more before
one_more : (b : Bool) (n : ℕ) (read : FileRead ℕ) → with_more n (read >>= λ others. Ok ((if b then suc others.0 else others.0), others.1)) ≡ with_more (n + (if b then 1 else 0)) read
one_more true n (Ok k) = ap (λ (m : ℕ). Ok (m, (k.1))) (omega arith)
one_more false n (Ok k) = ap (λ (m : ℕ). Ok (m, (k.1))) (omega arith)
one_more b n (Err place) = refl

-- before the first
pub with_more-none : (read : FileRead ℕ) → with_more 0 read ≡ read
with_more-none (Ok k) = ap (λ (m : ℕ). Ok (m, (k.1))) (omega arith)
with_more-none (Err place) = refl

module _ (count i n : ℕ) (u : Unread) (total : FileRead ℕ) where
  -- an import more, a function or another
  imports-more : (b : Bool) (v : Unread) → i < count → import_at u ≡ Ok (b, v) → with_more n (imports_at (count - i) u) ≡ total → with_more (n + (if b then 1 else 0)) (imports_at (count - (i + 1)) v) ≡ total
  unfolding imports_at
  imports-more b v lt h so_far =
      let k : count - i ≡ suc (count - (i + 1)) = omega arith in
      let one : with_more n (imports_at (count - i) u) ≡ with_more (n + (if b then 1 else 0)) (imports_at (count - (i + 1)) v) = rw (k, h) (one_more b n (imports_at (count - (i + 1)) v)) in
      sym one ∙ so_far

  -- a function more
  pub imports-function : (v : Unread) → i < count → import_at u ≡ Ok (true, v) → with_more n (imports_at (count - i) u) ≡ total → with_more (n + 1) (imports_at (count - (i + 1)) v) ≡ total
  imports-function v lt h so_far = imports-more true v lt h so_far

  -- another import more
  pub imports-other : (v : Unread) → i < count → import_at u ≡ Ok (false, v) → with_more n (imports_at (count - i) u) ≡ total → with_more n (imports_at (count - (i + 1)) v) ≡ total
  imports-other v lt h so_far =
      let same : n ≡ n + 0 = omega arith in
      ap (λ m. with_more m (imports_at (count - (i + 1)) v)) same ∙ imports-more false v lt h so_far

  -- an import that breaks the grammar
  pub imports-broken : (place : ℕ) → i < count → import_at u ≡ Err place → with_more n (imports_at (count - i) u) ≡ total → total ≡ Err place
  unfolding imports_at
  imports-broken place lt h so_far =
      let k : count - i ≡ suc (count - (i + 1)) = omega arith in
      let one : with_more n (imports_at (count - i) u) ≡ Err place = rw (k, h) refl in
      sym so_far ∙ one

  -- all were read
  pub imports-done : count ≤ i → with_more n (imports_at (count - i) u) ≡ total → total ≡ Ok (n, u)
  unfolding imports_at
  imports-done le so_far =
      let k : count - i ≡ 0 = omega arith in
      let one : with_more n (imports_at (count - i) u) ≡ Ok (n, u) = rw k (ap (λ (m : ℕ). Ok (m, u)) (omega arith)) in
      sym so_far ∙ one

  -- a type number more
  pub type_numbers-more : (type : ℕ) (v : Unread) → i < count → field uleb_at u ≡ Ok (type, v) → with_more n (type_numbers_at (count - i) u) ≡ total → with_more (n + 1) (type_numbers_at (count - (i + 1)) v) ≡ total
  unfolding type_numbers_at
  type_numbers-more type v lt h so_far =
      let k : count - i ≡ suc (count - (i + 1)) = omega arith in
      let one : with_more n (type_numbers_at (count - i) u) ≡ with_more (n + 1) (type_numbers_at (count - (i + 1)) v) = rw (k, h) (one_more true n (type_numbers_at (count - (i + 1)) v)) in
      sym one ∙ so_far

  -- a type number that breaks the grammar
  pub type_numbers-broken : (place : ℕ) → i < count → field uleb_at u ≡ Err place → with_more n (type_numbers_at (count - i) u) ≡ total → total ≡ Err place
  unfolding type_numbers_at
  type_numbers-broken place lt h so_far =
      let k : count - i ≡ suc (count - (i + 1)) = omega arith in
      let one : with_more n (type_numbers_at (count - i) u) ≡ Err place = rw (k, h) refl in
      sym so_far ∙ one

  -- all were read
  pub type_numbers-done : count ≤ i → with_more n (type_numbers_at (count - i) u) ≡ total → total ≡ Ok (n, u)
  unfolding type_numbers_at
  type_numbers-done le so_far =
      let k : count - i ≡ 0 = omega arith in
      let one : with_more n (type_numbers_at (count - i) u) ≡ Ok (n, u) = rw k (ap (λ (m : ℕ). Ok (m, u)) (omega arith)) in
      sym so_far ∙ one

-- a number of variable length is a field
pub field-read : {A : Type 0} (read : Unread → Read A) (u v : Unread) (x : A) → read u ≡ Ok (x, v) → field read u ≡ Ok (x, v)
field-read read u v x h = rw h refl

-- and where it cannot be read, its place is the broken one
pub field-flaw : {A : Type 0} (read : Unread → Read A) (u : Unread) (flaw : Flaw) → read u ≡ Err flaw → field read u ≡ Err u.place
field-flaw read u flaw h = rw h refl
