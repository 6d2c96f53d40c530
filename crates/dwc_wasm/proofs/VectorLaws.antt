-- Things of a vector that are read one after another, as a loop does, up to the first that cannot be read.
use Rattle.std.proofs.Common.{◌≡◌, ◌≢◌, ℕ, zero, suc, ◌-◌, ◌+◌, ◌≤◌, ◌<◌, List, [], ◌∷◌, ◌++◌, Ok, Err, refl, sym, ap, ◌∙◌, append_assoc, arith}
use Rattle.std.proofs.lemmas.List.{append-nil}
use Rattle.dwc_base.specs.declared.faults.Flaw.{Flaw}
use Rattle.dwc_base.specs.declared.faults.NotRead.{NotRead}
use Rattle.dwc_base.specs.declared.faults.NotRead.TheVariants.{OutOfMemory, Flawed}
use Rattle.dwc_base.specs.Cursors.{Fails}
use Rattle.dwc_base.specs.Reading.{Unread, Read, ◌>>=◌, seen_as, uleb_at, counted_at}
use Rattle.dwc_base.specs.WasmVectors.{readable_counted, readable_vector}
use Rattle.dwc_wasm.specs.Vectors.{first_or_none, first_of_vector}

module _ {A : Type 0} (read : Unread → Read A) (count i : ℕ) (u : Unread) (done total : List A) where
  -- a thing more
  pub readable-more : (x : A) (v : Unread) → i < count → read u ≡ Ok (x, v) → done ++ readable_counted (count - i) read u ≡ total → (done ++ x ∷ []) ++ readable_counted (count - (i + 1)) read v ≡ total
  unfolding readable_counted
  readable-more x v inside h so_far =
      let k : count - i ≡ suc (count - (i + 1)) = omega arith in
      let one : readable_counted (count - i) read u ≡ x ∷ readable_counted (count - (i + 1)) read v = rw (k, h, readable_counted) refl in
      append_assoc done (x ∷ []) (readable_counted (count - (i + 1)) read v) ∙ ap (λ ys. done ++ ys) (sym one) ∙ so_far

  -- one that cannot be read
  pub readable-broken : (flaw : Flaw) → i < count → read u ≡ Err flaw → done ++ readable_counted (count - i) read u ≡ total → done ≡ total
  unfolding readable_counted
  readable-broken flaw inside h so_far =
      let k : count - i ≡ suc (count - (i + 1)) = omega arith in
      let one : readable_counted (count - i) read u ≡ [] = rw (k, h, readable_counted) refl in
      sym (append-nil done) ∙ ap (λ ys. done ++ ys) (sym one) ∙ so_far

  -- none is left
  pub readable-done : count ≤ i → done ++ readable_counted (count - i) read u ≡ total → done ≡ total
  unfolding readable_counted
  readable-done past so_far =
      let k : count - i ≡ 0 = omega arith in
      let one : readable_counted (count - i) read u ≡ [] = rw k refl in
      sym (append-nil done) ∙ ap (λ ys. done ++ ys) (sym one) ∙ so_far

-- ---- things of a vector, the next in front

module _ {A : Type 0} (read : Unread → Read A) where
  -- a thing in front
  pub readable_next : (left : ℕ) (u v : Unread) (x : A) → left ≢ 0 → read u ≡ Ok (x, v) → readable_counted left read u ≡ x ∷ readable_counted (left - 1) read v
  unfolding readable_counted
  readable_next zero u v x some h = absurd (some refl)
  readable_next (suc left) u v x some h =
      let less : suc left - 1 ≡ left = omega arith in
      rw (h, readable_counted, less) refl

  -- one that cannot be read
  pub readable_stop : (left : ℕ) (u : Unread) (flaw : Flaw) → read u ≡ Err flaw → readable_counted left read u ≡ []
  unfolding readable_counted
  readable_stop zero u flaw h = refl
  readable_stop (suc left) u flaw h = rw (h, readable_counted) refl

  -- none is left
  pub readable_none : (left : ℕ) (u : Unread) → left ≡ 0 → readable_counted left read u ≡ []
  unfolding readable_counted
  readable_none left u h = rw h refl

  -- a vector has the things behind its count
  pub readable_first : (left : ℕ) (u v : Unread) → (left, v) ≡ first_of_vector u → readable_counted left read v ≡ readable_vector read u
  unfolding readable_vector readable_counted
  readable_first left u v h = go (uleb_at u) h
    where
      go : (r : Read ℕ) → (left, v) ≡ first_or_none u r → readable_counted left read v ≡ (elim r [ Err flaw ↦ [] | Ok count ↦ readable_counted count.0 read count.1 ])
      go (Ok count) h = ap (λ p. readable_counted p.0 read p.1) h
      go (Err flaw) h = ap (λ p. readable_counted p.0 read p.1) h

-- ---- things all of which can be read

-- what is read, seen in two ways that agree
pub seen-same : {A B : Type 0} (f g : A → B) (r : Read A) → ((x : A) → f x ≡ g x) → seen_as f r ≡ seen_as g r
seen-same f g (Ok x) h = ap (λ y. Ok (y, x.1)) (h x.0)
seen-same f g (Err flaw) h = refl

module _ {A B : Type 0} (read : Unread → Read A) (count i : ℕ) (u : Unread) (view : List A → B) (total : Read B) where
  -- a thing more
  pub counted-on : (x : A) (v : Unread) → i < count → read u ≡ Ok (x, v) → seen_as view (counted_at (count - i) read u) ≡ total → seen_as (λ ys. view (x ∷ ys)) (counted_at (count - (i + 1)) read v) ≡ total
  unfolding counted_at
  counted-on x v inside h so_far =
      let k : count - i ≡ suc (count - (i + 1)) = omega arith in
      let one : counted_at (count - i) read u ≡ counted_at (count - (i + 1)) read v >>= (λ others. Ok (x ∷ others.0, others.1)) = rw (k, h, counted_at) refl in
      sym (go (counted_at (count - (i + 1)) read v)) ∙ ap (seen_as view) (sym one) ∙ so_far
    where
      go : (r : Read (List A)) → seen_as view (r >>= λ others. Ok (x ∷ others.0, others.1)) ≡ seen_as (λ ys. view (x ∷ ys)) r
      go (Ok others) = refl
      go (Err flaw) = refl

  -- one that cannot be read
  pub counted-broken : (flaw : Flaw) → i < count → read u ≡ Err flaw → seen_as view (counted_at (count - i) read u) ≡ total → total ≡ Err flaw
  unfolding counted_at
  counted-broken flaw inside h so_far =
      let k : count - i ≡ suc (count - (i + 1)) = omega arith in
      let one : counted_at (count - i) read u ≡ Err flaw = rw (k, h, counted_at) refl in
      sym so_far ∙ ap (seen_as view) one

  -- the same where memory may be wanted
  pub counted-fails : (e : NotRead) → i < count → Fails e (read u) → seen_as view (counted_at (count - i) read u) ≡ total → Fails e total
  counted-fails OutOfMemory inside h so_far = tt
  counted-fails (Flawed flaw) inside h so_far = counted-broken flaw inside h so_far

  -- none is left
  pub counted-done : count ≤ i → seen_as view (counted_at (count - i) read u) ≡ total → total ≡ Ok (view [], u)
  unfolding counted_at
  counted-done past so_far =
      let k : count - i ≡ 0 = omega arith in
      let none : counted_at (count - i) read u ≡ Ok ([], u) = rw k refl in
      sym so_far ∙ ap (seen_as view) none
