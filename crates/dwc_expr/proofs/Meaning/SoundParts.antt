-- Parts whose bytes are straight and not none, and of which no label is trailing.
use Rattle.std.proofs.Common.{◌≡◌, ℕ, zero, suc, ◌+◌, ◌<◌, ◌≤◌, refl, sym, ap, subst, ◌∙◌, arith, List, [], ◌∷◌, ◌++◌, append_assoc, append-nil, length, length-append, is_none, Bool, true, false, true≢false}
use Rattle.std.specs.Prelude.{◌&&◌, ◌||◌, not, nat_lt}
use Rattle.std.specs.List.{list_all, list_any}
use Rattle.std.proofs.lemmas.Bool.{and_parts, lt-ltb, ltb-true}
use Rattle.std.proofs.lemmas.List.Folds.{list_all-append}
use Rattle.dwc_base.specs.declared.records.Endian.TheVariants.{Little}
use Rattle.dwc_base.specs.Listing.{Listing}
use Rattle.dwc_base.specs.Spelling.{unread_at}
use Rattle.dwc_dwarf.specs.Operations.{Operation}
use Rattle.dwc_native.specs.Parts.{Part, code, local, dereference, jump, landing_pad, with_code, joined}
use Rattle.dwc_machines.specs.ByteMachine.{native_rule, native_operations_from}
use Rattle.dwc_expr.specs.WholeParts.{is_jump_rule, is_jump_code, are_straight, is_straight}
use Rattle.dwc_expr.proofs.Meaning.TakenOperations.{IsOperation}
use Rattle.dwc_expr.proofs.Meaning.OperationWalks.{native-spelled, native-end}
use Rattle.dwc_expr.proofs.Meaning.StraightCode.{IsStraightAt, First, straight-first}

-- ---- straight bytes behind one another

with-straight : (whole others : Bool) → (whole && not others) ≡ true → (b : Bool) → b ≡ false → (whole && not (b || others)) ≡ true
with-straight whole others h true e = absurd (true≢false e)
with-straight whole others h false e = h

straight-spelled : (bytes : List ℕ) (n : ℕ × ℕ × ℕ) → IsOperation bytes n → is_jump_rule (native_rule n.0) ≡ false → (p : ℕ) (more : List ℕ) → IsStraightAt (p + length bytes) more → IsStraightAt p (bytes ++ more)
straight-spelled bytes n w free p more later =
    let l : Listing ℕ Operation = native_operations_from (unread_at Little (p + length bytes) more) in
    ap are_straight (native-spelled bytes n w p more) ∙ with-straight (is_none l.fault) (list_any is_jump_code l.items) later (is_jump_rule (native_rule n.0)) free

straight-end : (p : ℕ) → IsStraightAt p []
straight-end p = ap are_straight (native-end (unread_at Little p []) refl)

-- straight bytes, anywhere, in front of others that are straight there
straight-onto : (k p : ℕ) (bs cs : List ℕ) → length bs ≤ k → IsStraightAt p bs → ((q : ℕ) → IsStraightAt q cs) → (q : ℕ) → IsStraightAt q (bs ++ cs)
straight-onto k p [] cs short h rest q = rest q
straight-onto zero p (b ∷ bs) cs short h rest q = absurd (omega (arith, short))
straight-onto (suc k) p (b ∷ bs) cs short h rest q = go (straight-first p b bs h) (λ r ds less straight. straight-onto k r ds cs less straight rest)
  where
    go : First p (b ∷ bs) → ((r : ℕ) (ds : List ℕ) → length ds ≤ k → IsStraightAt r ds → (q : ℕ) → IsStraightAt q (ds ++ cs)) → IsStraightAt q ((b ∷ bs) ++ cs)
    go f inner =
        subst (IsStraightAt q) (sym (append_assoc f.taken f.rest cs) ∙ ap (λ bs. bs ++ cs) (sym f.whole))
        (straight-spelled f.taken f.numbers f.is f.free q (f.rest ++ cs) (inner (p + length f.taken) f.rest (omega (arith, short, (f.is).some, ap length f.whole, length-append f.taken f.rest)) f.later (q + length f.taken)))

straight-anywhere : (bs : List ℕ) → IsStraightAt 0 bs → (q : ℕ) → IsStraightAt q bs
straight-anywhere bs h q = subst (IsStraightAt q) (append-nil bs) (straight-onto (length bs) 0 bs [] (omega arith) h straight-end q)

-- ---- sound parts: bytes are straight and not none, and no label is trailing

abbrev pub sound : Part → Bool
sound (code c) = nat_lt 0 (length c) && is_straight c
sound (local label trailing) = not trailing
sound _ = true

sound-code : (c : List ℕ) → 0 < length c → IsStraightAt 0 c → sound (code c) ≡ true
sound-code c some straight = ap (λ b. b && is_straight c) (lt-ltb 0 (length c) some) ∙ straight

pub sound-both : (bs cs : List ℕ) → sound (code bs) ≡ true → sound (code cs) ≡ true → sound (code (bs ++ cs)) ≡ true
sound-both bs cs h k =
    let b = and_parts (nat_lt 0 (length bs)) (is_straight bs) h in
    let c = and_parts (nat_lt 0 (length cs)) (is_straight cs) k in
    let some : 0 < length bs = ltb-true 0 (length bs) b.0 in
    sound-code (bs ++ cs) (omega (arith, some, length-append bs cs)) (straight-onto (length bs) 0 bs cs (omega arith) b.1 (straight-anywhere cs c.1) 0)

pub sound-one : (bytes : List ℕ) (n : ℕ × ℕ × ℕ) → IsOperation bytes n → is_jump_rule (native_rule n.0) ≡ false → sound (code bytes) ≡ true
sound-one bytes n w free = sound-code bytes w.some (subst (IsStraightAt 0) (append-nil bytes) (straight-spelled bytes n w free 0 [] (straight-end (0 + length bytes))))

pub and-true : (a b : Bool) → a ≡ true → b ≡ true → (a && b) ≡ true
and-true true b h k = k
and-true false b h k = h

sound-with : (c : List ℕ) (ps : List Part) → sound (code c) ≡ true → list_all sound ps ≡ true → list_all sound (with_code c ps) ≡ true
sound-with c [] h k = and-true (sound (code c)) true h refl
sound-with c (code d ∷ ps) h k = let both = and_parts (sound (code d)) (list_all sound ps) k in and-true (sound (code (c ++ d))) (list_all sound ps) (sound-both c d h both.0) both.1
sound-with c (local label trailing ∷ ps) h k = and-true (sound (code c)) (list_all sound (local label trailing ∷ ps)) h k
sound-with c (dereference ∷ ps) h k = and-true (sound (code c)) (list_all sound (dereference ∷ ps)) h k
sound-with c (jump conditionally place ∷ ps) h k = and-true (sound (code c)) (list_all sound (jump conditionally place ∷ ps)) h k
sound-with c (landing_pad place ∷ ps) h k = and-true (sound (code c)) (list_all sound (landing_pad place ∷ ps)) h k

pub sound-joined : (ps : List Part) → list_all sound ps ≡ true → list_all sound (joined ps) ≡ true
sound-joined [] h = refl
sound-joined (code c ∷ ps) h = let both = and_parts (sound (code c)) (list_all sound ps) h in sound-with c (joined ps) both.0 (sound-joined ps both.1)
sound-joined (local label trailing ∷ ps) h = let both = and_parts (sound (local label trailing)) (list_all sound ps) h in and-true (not trailing) (list_all sound (joined ps)) both.0 (sound-joined ps both.1)
sound-joined (dereference ∷ ps) h = sound-joined ps h
sound-joined (jump conditionally place ∷ ps) h = sound-joined ps h
sound-joined (landing_pad place ∷ ps) h = sound-joined ps h

pub sound-append : (ps qs : List Part) → list_all sound ps ≡ true → list_all sound qs ≡ true → list_all sound (ps ++ qs) ≡ true
sound-append ps qs h k = list_all-append sound ps qs ∙ and-true (list_all sound ps) (list_all sound qs) h k
