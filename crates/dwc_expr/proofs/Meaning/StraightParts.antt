-- The bytes of parts without jumps, one part behind another.
use Rattle.std.proofs.Common.{◌≡◌, ℕ, ◌+◌, refl, sym, ap, ◌∙◌, List, [], ◌∷◌, ◌++◌, append_assoc, Option, None, Bool, true, false, true≢false}
use Rattle.std.specs.Prelude.{pos, ◌||◌, ◌&&◌}
use Rattle.std.specs.List.{list_any, list_all, filter_map, cons_option}
use Rattle.dwc_native.specs.Parts.{Part, code, local, dereference, jump, landing_pad, with_code, joined, is_jump}
use Rattle.dwc_native.specs.Built.{Setting, part_bytes, part_length, bytes_from, built_bytes}

abbrev pub straight_bytes : Setting → List Part → List ℕ
straight_bytes s [] = []
straight_bytes s (p ∷ ps) = part_bytes s (pos 0) p ++ straight_bytes s ps

pub straight-append : (s : Setting) (ps qs : List Part) → straight_bytes s (ps ++ qs) ≡ straight_bytes s ps ++ straight_bytes s qs
straight-append s [] qs = refl
straight-append s (p ∷ ps) qs = ap (λ bs. part_bytes s (pos 0) p ++ bs) (straight-append s ps qs) ∙ sym (append_assoc (part_bytes s (pos 0) p) (straight_bytes s ps) (straight_bytes s qs))

-- joined parts have the same bytes
with_code-straight : (s : Setting) (c : List ℕ) (ps : List Part) → straight_bytes s (with_code c ps) ≡ c ++ straight_bytes s ps
with_code-straight s c [] = refl
with_code-straight s c (code d ∷ ps) = append_assoc c d (straight_bytes s ps)
with_code-straight s c (local label trailing ∷ ps) = refl
with_code-straight s c (dereference ∷ ps) = refl
with_code-straight s c (jump conditionally place ∷ ps) = refl
with_code-straight s c (landing_pad place ∷ ps) = refl

pub joined-straight : (s : Setting) (ps : List Part) → straight_bytes s (joined ps) ≡ straight_bytes s ps
joined-straight s [] = refl
joined-straight s (code c ∷ ps) = with_code-straight s c (joined ps) ∙ ap (λ bs. c ++ bs) (joined-straight s ps)
joined-straight s (local label trailing ∷ ps) = ap (λ bs. part_bytes s (pos 0) (local label trailing) ++ bs) (joined-straight s ps)
joined-straight s (dereference ∷ ps) = ap (λ bs. part_bytes s (pos 0) dereference ++ bs) (joined-straight s ps)
joined-straight s (jump conditionally place ∷ ps) = ap (λ bs. part_bytes s (pos 0) (jump conditionally place) ++ bs) (joined-straight s ps)
joined-straight s (landing_pad place ∷ ps) = ap (λ bs. part_bytes s (pos 0) (landing_pad place) ++ bs) (joined-straight s ps)

-- what is told of parts that are no bytes stays
module _ (f : Part → Option ℕ) (skips : (c : List ℕ) → f (code c) ≡ None) where
  skipped : (c : List ℕ) (ps : List Part) → filter_map f (code c ∷ ps) ≡ filter_map f ps
  skipped c ps = ap (λ o. cons_option o (filter_map f ps)) (skips c)

  with_code-skipped : (c : List ℕ) (ps : List Part) → filter_map f (with_code c ps) ≡ filter_map f ps
  with_code-skipped c [] = skipped c []
  with_code-skipped c (code d ∷ ps) = skipped (c ++ d) ps ∙ sym (skipped d ps)
  with_code-skipped c (local label trailing ∷ ps) = skipped c (local label trailing ∷ ps)
  with_code-skipped c (dereference ∷ ps) = skipped c (dereference ∷ ps)
  with_code-skipped c (jump conditionally place ∷ ps) = skipped c (jump conditionally place ∷ ps)
  with_code-skipped c (landing_pad place ∷ ps) = skipped c (landing_pad place ∷ ps)

  pub joined-keeps : (ps : List Part) → filter_map f (joined ps) ≡ filter_map f ps
  joined-keeps [] = refl
  joined-keeps (code c ∷ ps) = with_code-skipped c (joined ps) ∙ joined-keeps ps ∙ sym (skipped c ps)
  joined-keeps (local label trailing ∷ ps) = ap (cons_option (f (local label trailing))) (joined-keeps ps)
  joined-keeps (dereference ∷ ps) = ap (cons_option (f dereference)) (joined-keeps ps)
  joined-keeps (jump conditionally place ∷ ps) = ap (cons_option (f (jump conditionally place))) (joined-keeps ps)
  joined-keeps (landing_pad place ∷ ps) = ap (cons_option (f (landing_pad place))) (joined-keeps ps)

-- and what holds of all, if it holds of all bytes
module _ (f : Part → Bool) (holds : (c : List ℕ) → f (code c) ≡ true) where
  with_code-all : (c : List ℕ) (ps : List Part) → list_all f (with_code c ps) ≡ list_all f ps
  with_code-all c [] = ap (λ b. b && true) (holds c)
  with_code-all c (code d ∷ ps) = ap (λ b. b && list_all f ps) (holds (c ++ d) ∙ sym (holds d))
  with_code-all c (local label trailing ∷ ps) = ap (λ b. b && list_all f (local label trailing ∷ ps)) (holds c)
  with_code-all c (dereference ∷ ps) = ap (λ b. b && list_all f (dereference ∷ ps)) (holds c)
  with_code-all c (jump conditionally place ∷ ps) = ap (λ b. b && list_all f (jump conditionally place ∷ ps)) (holds c)
  with_code-all c (landing_pad place ∷ ps) = ap (λ b. b && list_all f (landing_pad place ∷ ps)) (holds c)

  pub joined-all : (ps : List Part) → list_all f (joined ps) ≡ list_all f ps
  joined-all [] = refl
  joined-all (code c ∷ ps) = with_code-all c (joined ps) ∙ joined-all ps ∙ sym (ap (λ b. b && list_all f ps) (holds c))
  joined-all (local label trailing ∷ ps) = ap (λ b. f (local label trailing) && b) (joined-all ps)
  joined-all (dereference ∷ ps) = ap (λ b. f dereference && b) (joined-all ps)
  joined-all (jump conditionally place ∷ ps) = ap (λ b. f (jump conditionally place) && b) (joined-all ps)
  joined-all (landing_pad place ∷ ps) = ap (λ b. f (landing_pad place) && b) (joined-all ps)

-- and what holds of some, if it holds of no bytes
module _ (f : Part → Bool) (fails : (c : List ℕ) → f (code c) ≡ false) where
  with_code-any : (c : List ℕ) (ps : List Part) → list_any f (with_code c ps) ≡ list_any f ps
  with_code-any c [] = ap (λ b. b || false) (fails c)
  with_code-any c (code d ∷ ps) = ap (λ b. b || list_any f ps) (fails (c ++ d) ∙ sym (fails d))
  with_code-any c (local label trailing ∷ ps) = ap (λ b. b || list_any f (local label trailing ∷ ps)) (fails c)
  with_code-any c (dereference ∷ ps) = ap (λ b. b || list_any f (dereference ∷ ps)) (fails c)
  with_code-any c (jump conditionally place ∷ ps) = ap (λ b. b || list_any f (jump conditionally place ∷ ps)) (fails c)
  with_code-any c (landing_pad place ∷ ps) = ap (λ b. b || list_any f (landing_pad place ∷ ps)) (fails c)

  pub joined-any : (ps : List Part) → list_any f (joined ps) ≡ list_any f ps
  joined-any [] = refl
  joined-any (code c ∷ ps) = with_code-any c (joined ps) ∙ joined-any ps ∙ sym (ap (λ b. b || list_any f ps) (fails c))
  joined-any (local label trailing ∷ ps) = ap (λ b. f (local label trailing) || b) (joined-any ps)
  joined-any (dereference ∷ ps) = ap (λ b. f dereference || b) (joined-any ps)
  joined-any (jump conditionally place ∷ ps) = ap (λ b. f (jump conditionally place) || b) (joined-any ps)
  joined-any (landing_pad place ∷ ps) = ap (λ b. f (landing_pad place) || b) (joined-any ps)

-- without jumps the bytes are these
straight-from : (s : Setting) (all : List Part) (offset : ℕ) (ps : List Part) → list_any is_jump ps ≡ false → bytes_from s all offset ps ≡ straight_bytes s ps
straight-from s all offset [] h = refl
straight-from s all offset (code c ∷ ps) h = ap (λ bs. c ++ bs) (straight-from s all (offset + part_length s (code c)) ps h)
straight-from s all offset (local label trailing ∷ ps) h = ap (λ bs. part_bytes s (pos 0) (local label trailing) ++ bs) (straight-from s all (offset + part_length s (local label trailing)) ps h)
straight-from s all offset (dereference ∷ ps) h = ap (λ bs. part_bytes s (pos 0) dereference ++ bs) (straight-from s all (offset + part_length s dereference) ps h)
straight-from s all offset (jump conditionally place ∷ ps) h = absurd (true≢false h)
straight-from s all offset (landing_pad place ∷ ps) h = ap (λ bs. part_bytes s (pos 0) (landing_pad place) ++ bs) (straight-from s all (offset + part_length s (landing_pad place)) ps h)

pub built-straight : (s : Setting) (ps : List Part) → list_any is_jump ps ≡ false → built_bytes s ps ≡ straight_bytes s ps
unfolding built_bytes
built-straight s ps h = straight-from s ps 0 ps h
