-- Parts with neighbouring bytes joined, and one more behind them.
use Rattle.std.proofs.Common.{◌≡◌, ℕ, zero, suc, ◌-◌, ◌<◌, List, [], ◌∷◌, ◌++◌, map, length, get_or, set, true, false, refl, sym, ap, ◌∙◌, append_assoc, append-nil, arith}
use Rattle.std.proofs.lemmas.List.{map-set, get_or-map, length-map}
use Rattle.dwc_native.specs.Parts.{Part, code, local, dereference, jump, landing_pad, with_code, joined}
use Rattle.dwc_expr.specs.JoinedParts.{is_code, ends_in_code, beside, behind}

-- ---- one more part behind joined ones

cons-behind : (p : Part) (ps : List Part) (q : Part) → is_code p ≡ false → p ∷ behind ps q ≡ behind (p ∷ ps) q
cons-behind (code c) ps q e = absurd (cc)
cons-behind (local label trailing) [] q e = refl
cons-behind dereference [] q e = refl
cons-behind (jump conditionally place) [] q e = refl
cons-behind (landing_pad place) [] q e = refl
cons-behind p (r ∷ ps) q e = refl

with_code-one : (c : List ℕ) (q : Part) → with_code c (q ∷ []) ≡ beside (code c) q
with_code-one c (code d) = refl
with_code-one c (local label trailing) = refl
with_code-one c dereference = refl
with_code-one c (jump conditionally place) = refl
with_code-one c (landing_pad place) = refl

with_code-beside : (c : List ℕ) (p q : Part) → with_code c (beside p q) ≡ behind (with_code c (p ∷ [])) q
with_code-beside c (code d) (code e) = ap (λ bytes. code bytes ∷ []) (sym (append_assoc c d e))
with_code-beside c (code d) (local label trailing) = refl
with_code-beside c (code d) dereference = refl
with_code-beside c (code d) (jump conditionally place) = refl
with_code-beside c (code d) (landing_pad place) = refl
with_code-beside c (local label trailing) q = refl
with_code-beside c dereference q = refl
with_code-beside c (jump conditionally place) q = refl
with_code-beside c (landing_pad place) q = refl

with_code-behind : (c : List ℕ) (ps : List Part) (q : Part) → with_code c (behind ps q) ≡ behind (with_code c ps) q
with_code-behind c [] q = with_code-one c q
with_code-behind c (p ∷ []) q = with_code-beside c p q
with_code-behind c (code d ∷ r ∷ ps) q = refl
with_code-behind c (local label trailing ∷ r ∷ ps) q = refl
with_code-behind c (dereference ∷ r ∷ ps) q = refl
with_code-behind c (jump conditionally place ∷ r ∷ ps) q = refl
with_code-behind c (landing_pad place ∷ r ∷ ps) q = refl

joined-one : (q : Part) → joined (q ∷ []) ≡ q ∷ []
joined-one (code c) = refl
joined-one (local label trailing) = refl
joined-one dereference = refl
joined-one (jump conditionally place) = refl
joined-one (landing_pad place) = refl

pub joined-behind : (ps : List Part) (q : Part) → joined (ps ++ q ∷ []) ≡ behind (joined ps) q
joined-behind [] q = joined-one q
joined-behind (code c ∷ ps) q = ap (with_code c) (joined-behind ps q) ∙ with_code-behind c (joined ps) q
joined-behind (local label trailing ∷ ps) q = ap (λ rs. local label trailing ∷ rs) (joined-behind ps q) ∙ cons-behind (local label trailing) (joined ps) q refl
joined-behind (dereference ∷ ps) q = ap (λ rs. dereference ∷ rs) (joined-behind ps q) ∙ cons-behind dereference (joined ps) q refl
joined-behind (jump conditionally place ∷ ps) q = ap (λ rs. jump conditionally place ∷ rs) (joined-behind ps q) ∙ cons-behind (jump conditionally place) (joined ps) q refl
joined-behind (landing_pad place ∷ ps) q = ap (λ rs. landing_pad place ∷ rs) (joined-behind ps q) ∙ cons-behind (landing_pad place) (joined ps) q refl

-- what is joined as something else is so with the same behind both
pub joined-onto : (qs ps rs : List Part) → joined ps ≡ joined rs → joined (ps ++ qs) ≡ joined (rs ++ qs)
joined-onto [] ps rs e = ap joined (append-nil ps) ∙ e ∙ sym (ap joined (append-nil rs))
joined-onto (q ∷ qs) ps rs e =
    ap joined (sym (append_assoc ps (q ∷ []) qs))
    ∙ joined-onto qs (ps ++ q ∷ []) (rs ++ q ∷ []) (joined-behind ps q ∙ ap (λ xs. behind xs q) e ∙ sym (joined-behind rs q))
    ∙ ap joined (append_assoc rs (q ∷ []) qs)

-- what is joined as something else is so with the same in front of both
pub joined-under : (ps qs rs : List Part) → joined qs ≡ joined rs → joined (ps ++ qs) ≡ joined (ps ++ rs)
joined-under [] qs rs e = e
joined-under (code c ∷ ps) qs rs e = ap (with_code c) (joined-under ps qs rs e)
joined-under (local label trailing ∷ ps) qs rs e = ap (λ xs. local label trailing ∷ xs) (joined-under ps qs rs e)
joined-under (dereference ∷ ps) qs rs e = ap (λ xs. dereference ∷ xs) (joined-under ps qs rs e)
joined-under (jump conditionally place ∷ ps) qs rs e = ap (λ xs. jump conditionally place ∷ xs) (joined-under ps qs rs e)
joined-under (landing_pad place ∷ ps) qs rs e = ap (λ xs. landing_pad place ∷ xs) (joined-under ps qs rs e)

-- what is put, with the rest behind it
pub joined-moved : (old new ps rest : List Part) → joined new ≡ joined (old ++ ps) → joined (new ++ rest) ≡ joined (old ++ (ps ++ rest))
joined-moved old new ps rest e = joined-onto rest new (old ++ ps) e ∙ ap joined (append_assoc old ps rest)

-- two pushes, one after the other
pub joined-both : (old middle new ps qs : List Part) → joined middle ≡ joined (old ++ ps) → joined new ≡ joined (middle ++ qs) → joined new ≡ joined (old ++ (ps ++ qs))
joined-both old middle new ps qs first second = second ∙ joined-moved old middle ps qs first

-- nothing behind parts
pub joined-none : (ps : List Part) → joined ps ≡ joined (ps ++ [])
joined-none ps = ap joined (sym (append-nil ps))

-- ---- what is joined stays as it is

with_code-twice : (c d : List ℕ) (ps : List Part) → with_code (c ++ d) ps ≡ with_code c (with_code d ps)
with_code-twice c d [] = refl
with_code-twice c d (code e ∷ ps) = ap (λ bytes. code bytes ∷ ps) (append_assoc c d e)
with_code-twice c d (local label trailing ∷ ps) = refl
with_code-twice c d (dereference ∷ ps) = refl
with_code-twice c d (jump conditionally place ∷ ps) = refl
with_code-twice c d (landing_pad place ∷ ps) = refl

with_code-joined : (c : List ℕ) (ps : List Part) → joined ps ≡ ps → joined (with_code c ps) ≡ with_code c ps
with_code-joined c [] e = refl
with_code-joined c (code d ∷ ps) e = with_code-twice c d (joined ps) ∙ ap (with_code c) e
with_code-joined c (local label trailing ∷ ps) e = ap (with_code c) e
with_code-joined c (dereference ∷ ps) e = ap (with_code c) e
with_code-joined c (jump conditionally place ∷ ps) e = ap (with_code c) e
with_code-joined c (landing_pad place ∷ ps) e = ap (with_code c) e

joined-again : (ps : List Part) → joined (joined ps) ≡ joined ps
joined-again [] = refl
joined-again (code c ∷ ps) = with_code-joined c (joined ps) (joined-again ps)
joined-again (local label trailing ∷ ps) = ap (λ rs. local label trailing ∷ rs) (joined-again ps)
joined-again (dereference ∷ ps) = ap (λ rs. dereference ∷ rs) (joined-again ps)
joined-again (jump conditionally place ∷ ps) = ap (λ rs. jump conditionally place ∷ rs) (joined-again ps)
joined-again (landing_pad place ∷ ps) = ap (λ rs. landing_pad place ∷ rs) (joined-again ps)

-- one more part behind joined ones leaves them joined, and is what joining makes of both
pub pushed-joined : (old new : List Part) (q : Part) → joined old ≡ old → new ≡ behind old q → joined new ≡ new
pushed-joined old new q e is =
    let same : new ≡ joined (old ++ q ∷ []) = is ∙ ap (λ xs. behind xs q) (sym e) ∙ sym (joined-behind old q) in
    ap joined same ∙ joined-again (old ++ q ∷ []) ∙ sym same

pub pushed-same : (old new : List Part) (q : Part) → joined old ≡ old → new ≡ behind old q → joined new ≡ joined (old ++ q ∷ [])
pushed-same old new q e is = pushed-joined old new q e is ∙ is ∙ ap (λ xs. behind xs q) (sym e) ∙ sym (joined-behind old q)

-- ---- how a part comes behind others

beside-apart : (p q : Part) → is_code q ≡ false → beside p q ≡ p ∷ q ∷ []
beside-apart (code c) (code d) e = absurd (cc)
beside-apart (code c) (local label trailing) e = refl
beside-apart (code c) dereference e = refl
beside-apart (code c) (jump conditionally place) e = refl
beside-apart (code c) (landing_pad place) e = refl
beside-apart (local label trailing) q e = refl
beside-apart dereference q e = refl
beside-apart (jump conditionally place) q e = refl
beside-apart (landing_pad place) q e = refl

-- one that is no bytes stands apart
pub behind-apart : (ps : List Part) (q : Part) → is_code q ≡ false → behind ps q ≡ ps ++ q ∷ []
behind-apart [] q e = refl
behind-apart (p ∷ []) q e = beside-apart p q e
behind-apart (p ∷ r ∷ ps) q e = ap (λ xs. p ∷ xs) (behind-apart (r ∷ ps) q e)

-- ---- bytes behind the last part

code-apart : (p : Part) (c : List ℕ) → is_code p ≡ false → beside p (code c) ≡ p ∷ code c ∷ []
code-apart (code d) c e = absurd (cc)
code-apart (local label trailing) c e = refl
code-apart dereference c e = refl
code-apart (jump conditionally place) c e = refl
code-apart (landing_pad place) c e = refl

behind-last : (ps : List Part) (k : ℕ) (c : List ℕ) → length ps ≡ suc k → is_code (get_or ps k dereference) ≡ false → behind ps (code c) ≡ ps ++ code c ∷ []
behind-last [] k c same e = absurd (omega arith)
behind-last (p ∷ []) k c same e = let first : k ≡ 0 = omega arith in code-apart p c (rw first at e)
behind-last (p ∷ r ∷ ps) zero c same e = absurd (omega arith)
behind-last (p ∷ r ∷ ps) (suc k) c same e = ap (λ xs. p ∷ xs) (behind-last (r ∷ ps) k c (omega arith) e)

-- bytes stand apart behind what does not end in bytes
pub behind-no_code : (ps : List Part) (c : List ℕ) → ends_in_code ps ≡ false → behind ps (code c) ≡ ps ++ code c ∷ []
behind-no_code [] c e = refl
behind-no_code (p ∷ ps) c e = behind-last (p ∷ ps) (length (p ∷ ps) - 1) c (omega arith) e

set-last : (ps : List Part) (k : ℕ) (q new : Part) → length ps ≡ suc k → beside (get_or ps k dereference) q ≡ new ∷ [] → set ps k new ≡ behind ps q
set-last [] k q new same e = absurd (omega arith)
set-last (p ∷ []) k q new same e = let first : k ≡ 0 = omega arith in let is : beside p q ≡ new ∷ [] = rw first at e in rw first (sym is)
set-last (p ∷ r ∷ ps) zero q new same e = absurd (omega arith)
set-last (p ∷ r ∷ ps) (suc k) q new same e = ap (λ xs. p ∷ xs) (set-last (r ∷ ps) k q new (omega arith) e)

-- the last of some parts, seen by `view`, becomes one with more behind it
pub set-extended : {X : Type 0} (view : X → Part) (xs : List X) (n : ℕ) (old new : X) (q : Part) → n ≡ length xs → ends_in_code (map view xs) ≡ true → old ≡ get_or xs (n - 1) old → beside (view old) q ≡ view new ∷ [] → map view (set xs (n - 1) new) ≡ behind (map view xs) q
set-extended view [] n old new q same e is both = absurd (cc)
set-extended view (x ∷ xs) n old new q same e is both =
    let inside : n - 1 < length (x ∷ xs) = omega arith in
    let seen : get_or (map view (x ∷ xs)) (n - 1) dereference ≡ view old = get_or-map view (x ∷ xs) (n - 1) old dereference inside ∙ ap view (sym is) in
    let last : beside (get_or (map view (x ∷ xs)) (n - 1) dereference) q ≡ view new ∷ [] = ap (λ p. beside p q) seen ∙ both in
    map-set view (x ∷ xs) (n - 1) new ∙ set-last (map view (x ∷ xs)) (n - 1) q (view new) (omega (arith, length-map (x ∷ xs) view)) last
