-- Readers that take a front of the bytes, and read the same from it anywhere.
use Rattle.std.proofs.Common.{◌≡◌, ℕ, zero, suc, ◌+◌, ◌≤◌, refl, sym, ap, subst, ◌∙◌, arith, List, [], ◌∷◌, ◌++◌, append_assoc, length, length-append, take, drop, Result, Ok, Err, Bool, true, false, ltb}
use Rattle.std.specs.Prelude.{if◌then◌else◌}
use Rattle.std.proofs.lemmas.Bool.{ltb-false}
use Rattle.dwc_base.specs.declared.records.Endian.TheVariants.{Little}
use Rattle.dwc_base.specs.declared.faults.Flaw.TheVariants.{EndsEarly}
use Rattle.dwc_base.specs.Reading.{Unread, Read, ◌>>=◌, passed, seen_as, number, bytes_at, number_at}
use Rattle.dwc_base.specs.Spelling.{Spells, unread_at}
use Rattle.dwc_base.proofs.Spellings.{Spells-number}

-- What was read was taken from the front.
pub record Took {A : Type 0} (read : Unread → Read A) (place : ℕ) (bytes : List ℕ) (x : A) (v : Unread) : Type 0 where
  pub taken : List ℕ
  pub rest : List ℕ
  pub whole : bytes ≡ taken ++ rest
  pub behind : v ≡ unread_at Little (place + length taken) rest
  pub again : (p : ℕ) (more : List ℕ) → read (unread_at Little p (taken ++ more)) ≡ Ok (x, unread_at Little (p + length taken) more)

pub record TakesFront {A : Type 0} (read : Unread → Read A) : Type 0 where
  pub takes : (place : ℕ) (bytes : List ℕ) (x : A) (v : Unread) → read (unread_at Little place bytes) ≡ Ok (x, v) → Took read place bytes x v

-- the parts of a value that was read
pub ok-value : {A B E : Type 0} {x y : A} {u v : B} → ◌≡◌ {A = Result (A × B) E} (Ok (x, u)) (Ok (y, v)) → x ≡ y
ok-value {A} {B} {E} {x} {y} {u} {v} h = ap (λ (r : Result (A × B) E). go r) h
  where
    go : Result (A × B) E → A
    go (Ok p) = p.0
    go (Err e) = x

pub ok-rest : {A B E : Type 0} {x y : A} {u v : B} → ◌≡◌ {A = Result (A × B) E} (Ok (x, u)) (Ok (y, v)) → u ≡ v
ok-rest {A} {B} {E} {x} {y} {u} {v} h = ap (λ (r : Result (A × B) E). go r) h
  where
    go : Result (A × B) E → B
    go (Ok p) = p.1
    go (Err e) = u

-- ---- combinations

pub takes-seen : {A B : Type 0} (view : A → B) (read : Unread → Read A) → TakesFront read → TakesFront (λ u. seen_as view (read u))
takes-seen {A} {B} view read t = record { takes = λ place bytes y v h. go place bytes y v (read (unread_at Little place bytes)) refl h }
  where
    go : (place : ℕ) (bytes : List ℕ) (y : B) (v : Unread) (r : Read A) → read (unread_at Little place bytes) ≡ r → seen_as view r ≡ Ok (y, v) → Took (λ u. seen_as view (read u)) place bytes y v
    go place bytes y v (Err flaw) e h = absurd (cc)
    go place bytes y v (Ok x) e h =
        let w : Took read place bytes x.0 x.1 = t.takes place bytes x.0 x.1 e in
        record {
          taken = w.taken;
          rest = w.rest;
          whole = w.whole;
          behind = sym (ok-rest h) ∙ w.behind;
          again = λ p more. ap (seen_as view) (w.again p more) ∙ ap (λ z. Ok (z, unread_at Little (p + length w.taken) more)) (ok-value h);
        }

pub takes-nothing : {A : Type 0} (x : A) → TakesFront (λ u. Ok (x, u))
takes-nothing x = record {
  takes = λ place bytes y v h. record {
    taken = [];
    rest = bytes;
    whole = refl;
    behind = sym (ok-rest h) ∙ ap (λ p. unread_at Little p bytes) (omega arith);
    again = λ p more. ap (λ z. Ok (z, unread_at Little p more)) (ok-value h) ∙ ap (λ q. Ok (y, unread_at Little q more)) (omega arith);
  };
}

pub takes-behind : {A B : Type 0} (read : Unread → Read A) (next : A → Unread → Read B) → TakesFront read → ((x : A) → TakesFront (next x)) → TakesFront (λ u. read u >>= λ a. next a.0 a.1)
takes-behind {A} {B} read next t n = record { takes = λ place bytes y v h. go place bytes y v (read (unread_at Little place bytes)) refl h }
  where
    both : (place : ℕ) (bytes : List ℕ) (y : B) (v : Unread) (x : A) (u : Unread) → Took read place bytes x u → next x u ≡ Ok (y, v) → Took (λ u. read u >>= λ a. next a.0 a.1) place bytes y v
    both place bytes y v x u w h =
        let second : Took (next x) (place + length w.taken) w.rest y v = (n x).takes (place + length w.taken) w.rest y v (ap (next x) (sym w.behind) ∙ h) in
        record {
          taken = w.taken ++ second.taken;
          rest = second.rest;
          whole = w.whole ∙ ap (λ bs. w.taken ++ bs) second.whole ∙ sym (append_assoc w.taken second.taken second.rest);
          behind = second.behind ∙ ap (λ p. unread_at Little p second.rest) (omega (arith, length-append w.taken second.taken));
          again = λ p more.
              ap (λ bs. read (unread_at Little p bs) >>= λ a. next a.0 a.1) (append_assoc w.taken second.taken more)
              ∙ ap (λ (r : Read A). r >>= λ a. next a.0 a.1) (w.again p (second.taken ++ more))
              ∙ second.again (p + length w.taken) more
              ∙ ap (λ q. Ok (y, unread_at Little q more)) (omega (arith, length-append w.taken second.taken));
        }

    go : (place : ℕ) (bytes : List ℕ) (y : B) (v : Unread) (r : Read A) → read (unread_at Little place bytes) ≡ r → (r >>= λ a. next a.0 a.1) ≡ Ok (y, v) → Took (λ u. read u >>= λ a. next a.0 a.1) place bytes y v
    go place bytes y v (Err flaw) e h = absurd (cc)
    go place bytes y v (Ok x) e h = both place bytes y v x.0 x.1 (t.takes place bytes x.0 x.1 e) h

-- ---- numbers

split-at : (size : ℕ) (bytes : List ℕ) → size ≤ length bytes → (bytes ≡ take size bytes ++ drop size bytes) × (length (take size bytes) ≡ size)
split-at zero bytes h = (refl, refl)
split-at (suc size) [] h = absurd (omega arith)
split-at (suc size) (b ∷ bs) h = let inner = split-at size bs (omega arith) in (ap (λ cs. b ∷ cs) inner.0, ap suc inner.1)

pub takes-number : (size : ℕ) → TakesFront (number_at size)
unfolding number_at bytes_at
takes-number size = record { takes = λ place bytes x v h. go place bytes x v (ltb (length bytes) size) refl h }
  where
    sized : (taken : List ℕ) → length taken ≡ size → Spells Little (number_at size) taken (number Little taken)
    sized taken long = subst (λ k. Spells Little (number_at k) taken (number Little taken)) long (Spells-number Little taken)

    go : (place : ℕ) (bytes : List ℕ) (x : ℕ) (v : Unread) (b : Bool) → ltb (length bytes) size ≡ b
        → seen_as (number Little) (if◌then◌else◌ {A = Read (List ℕ)} b (Err EndsEarly) (Ok (take size bytes, passed size (unread_at Little place bytes)))) ≡ Ok (x, v) → Took (number_at size) place bytes x v
    go place bytes x v true short h = absurd (cc)
    go place bytes x v false enough h =
        let parts = split-at size bytes (ltb-false (length bytes) size enough) in
        record {
          taken = take size bytes;
          rest = drop size bytes;
          whole = parts.0;
          behind = sym (ok-rest h) ∙ ap (λ k. unread_at Little (place + k) (drop size bytes)) (sym parts.1);
          again = λ p more. (sized (take size bytes) parts.1).reads p more ∙ ap (λ n. Ok (n, unread_at Little (p + length (take size bytes)) more)) (ok-value h);
        }

-- a number of variable length ends by itself
