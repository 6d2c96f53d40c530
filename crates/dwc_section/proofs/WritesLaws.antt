-- Calls that write one behind another: what they append together, and that a refusal of one is a refusal of all.
use Rattle.std.proofs.Common.{◌≡◌, ℕ, zero, suc, ◌+◌, ◌<◌, ◌≤◌, refl, sym, ap, subst, ◌∙◌, arith, List, [], ◌∷◌, ◌++◌, append_assoc, append-nil, length, length-append, map, take, drop, get_or, replicate, Ok, Err}
use Rattle.std.specs.Prelude.{Result, ◌-◌}
use Rattle.std.specs.List.{All, flat_map}
use Rattle.std.proofs.lemmas.List.{get_or-map, length-map, drop_all, length-replicate}
use Rattle.std.proofs.Math.Seq.{drop-append_seam, take-append_seam, drop-append-add}
use Rattle.dwc_base.specs.declared.records.Endian.{Endian}
use Rattle.dwc_section.specs.Spelled.{at_places}
use Rattle.dwc_base.specs.Outputs.{OutputRelocation}
use Rattle.dwc_section.specs.declared.error.WriteError.{WriteError}
use Rattle.dwc_section.specs.Writers.{Writing, Refuses, Writes, appended, overwritten, replaced}
use Rattle.dwc_section.proofs.RefusalLaws.{past-more}

-- what refuses less refuses more
pub refused-longer : (e : WriteError) (w : Writing) (n total : ℕ) → Refuses e w n → n ≤ total → Refuses e w total
refused-longer e w n total refused less = past-more w.name w.name _ _ e refl (λ large. omega (arith, large, less)) refused

-- behind what is written, what refuses refuses the whole
pub refused-later : (e : WriteError) (a b : Writing) (x : List ℕ) (r : List OutputRelocation) (n total : ℕ) → b ≡ appended x r a → Refuses e b n → length x + n ≤ total → Refuses e a total
refused-later e a b x r n total grown refused less =
    let long = ap (λ (v : Writing). length v.body) grown in
    past-more b.name a.name _ _ e (ap (λ (v : Writing). v.name) grown) (λ large. omega (arith, large, less, long, length-append a.body x)) refused

-- one part behind another
pub appended-twice : (a b c : Writing) (x y : List ℕ) (r s : List OutputRelocation) → b ≡ appended x r a → c ≡ appended y s b → c ≡ appended (x ++ y) (r ++ s) a
appended-twice a b c x y r s first second = rw (second, first) (ap (λ bytes. record { order = a.order; name = a.name; body = bytes; relocations = (a.relocations ++ r) ++ s }) (append_assoc a.body x y) ∙ ap (λ rs. record { order = a.order; name = a.name; body = a.body ++ (x ++ y); relocations = rs }) (append_assoc a.relocations r s))

pub appended-nothing : (a : Writing) → a ≡ appended [] [] a
appended-nothing a = sym (ap (λ bytes. record { order = a.order; name = a.name; body = bytes; relocations = a.relocations ++ [] }) (append-nil a.body) ∙ ap (λ rs. record { order = a.order; name = a.name; body = a.body; relocations = rs }) (append-nil a.relocations))

-- how much is there behind a part
pub length-behind : (a b : Writing) (x : List ℕ) (r : List OutputRelocation) → b ≡ appended x r a → length b.body ≡ length a.body + length x
length-behind a b x r grown = rw grown (length-append a.body x)

pub order-behind : (a b : Writing) (x : List ℕ) (r : List OutputRelocation) → b ≡ appended x r a → b.order ≡ a.order
order-behind a b x r grown = rw grown refl

-- ---- an exit by `?`, and a call that ends a function

-- the error of a call is the function's
pub exit-refused : (result : Result (Unit {0}) WriteError) (e : WriteError) (a b now : Writing) (x total : List ℕ) (r rs : List OutputRelocation) (n : ℕ)
    → ((error : WriteError) × (result ≡ Err error) × (error ≡ e)) → b ≡ appended x r a → Refuses e b n → length x + n ≤ length total → Writes a now result total rs
exit-refused result e a b now x total r rs n p grown refused less =
    let later : Refuses e a (length total) = refused-later e a b x r n (length total) grown refused less in
    let is : result ≡ Err e = p.1 ∙ ap Err p.2 in
    rw (is) later

-- the error of a call that comes first
pub first-refused : (result : Result (Unit {0}) WriteError) (e : WriteError) (a now : Writing) (total : List ℕ) (rs : List OutputRelocation) (n : ℕ) → ((error : WriteError) × (result ≡ Err error) × (error ≡ e)) → Refuses e a n → n ≤ length total → Writes a now result total rs
first-refused result e a now total rs n p refused less =
    let later : Refuses e a (length total) = refused-longer e a n (length total) refused less in
    let is : result ≡ Err e = p.1 ∙ ap Err p.2 in
    rw (is) later

-- what is written first, and what a last call writes
pub writes-then : (a b c : Writing) (x y total : List ℕ) (r s rs : List OutputRelocation) (result : Result (Unit {0}) WriteError) → b ≡ appended x r a → Writes b c result y s → total ≡ x ++ y → rs ≡ r ++ s → Writes a c result total rs
writes-then a b c x y total r s rs (Ok done) first second bytes relocations = rw (bytes, relocations) (appended-twice a b c x y r s first second)
writes-then a b c x y total r s rs (Err e) first second bytes relocations = refused-later e a b x r (length y) (length total) first second (omega (arith, ap length bytes, length-append x y))

-- ---- loops that write

-- a section with what is still to be written of a list
abbrev pub whole : {A : Type 0} → (A → List ℕ) → (ℕ → A → List OutputRelocation) → List A → Writing → Writing
whole spell at xs w = appended (flat_map spell xs) (at_places spell at (length w.body) xs) w

pub whole-more : {A : Type 0} (spell : A → List ℕ) (at : ℕ → A → List OutputRelocation) (x : A) (xs : List A) (w v all : Writing) → whole spell at (x ∷ xs) w ≡ all → v ≡ appended (spell x) (at (length w.body) x) w → whole spell at xs v ≡ all
whole-more spell at x xs w v all invariant step =
    let long : length v.body ≡ length w.body + length (spell x) = length-behind w v (spell x) (at (length w.body) x) step in
    let twice = appended-twice w v (appended (flat_map spell xs) (at_places spell at (length v.body) xs) v) (spell x) (flat_map spell xs) (at (length w.body) x) (at_places spell at (length v.body) xs) step refl in
    twice ∙ ap (λ p. appended (spell x ++ flat_map spell xs) (at (length w.body) x ++ at_places spell at p xs) w) long ∙ invariant

pub whole-refused : {A : Type 0} (spell : A → List ℕ) (at : ℕ → A → List OutputRelocation) (x : A) (xs all : List A) (w a : Writing) (e : WriteError) → whole spell at (x ∷ xs) w ≡ whole spell at all a → Refuses e w (length (spell x)) → Refuses e a (length (flat_map spell all))
whole-refused spell at x xs all w a e invariant refused =
    let long = ap (λ (v : Writing). length v.body) invariant in
    past-more w.name a.name _ _ e (ap (λ (v : Writing). v.name) invariant)
    (λ large. omega (arith, large, long, length-append w.body (spell x ++ flat_map spell xs), length-append (spell x) (flat_map spell xs), length-append a.body (flat_map spell all)))
    refused

pub whole-done : {A : Type 0} (spell : A → List ℕ) (at : ℕ → A → List OutputRelocation) (w all : Writing) → whole spell at [] w ≡ all → w ≡ all
whole-done spell at w all invariant = appended-nothing w ∙ invariant

pub whole-order : {A : Type 0} (spell : A → List ℕ) (at : ℕ → A → List OutputRelocation) (xs all : List A) (w a : Writing) → whole spell at xs w ≡ whole spell at all a → w.order ≡ a.order
whole-order spell at xs all w a invariant = ap (λ (v : Writing). v.order) invariant

-- the same of a list that is seen by f, at an index
pub drop-seen : {A B : Type 0} (f : B → A) (ys : List B) (i : ℕ) (d : B) → i < length ys → drop i (map f ys) ≡ f (get_or ys i d) ∷ drop (suc i) (map f ys)
drop-seen f [] i d within = absurd (omega arith)
drop-seen f (y ∷ ys) zero d within = refl
drop-seen f (y ∷ ys) (suc i) d within = drop-seen f ys i d (omega arith)

pub all-seen : {A B : Type 0} (P : A → Type 0) (f : B → A) (ys : List B) (i : ℕ) (d : B) → i < length ys → All P (map f ys) → P (f (get_or ys i d))
all-seen P f ys i d within all = subst P (get_or-map f ys i d (f d) within) (all i (f d) (omega (arith, within, length-map ys f)))

pub loop-more : {A B : Type 0} (spell : Endian → A → List ℕ) (at : Endian → ℕ → A → List OutputRelocation) (f : B → A) (ys : List B) (i : ℕ) (d : B) (a w v : Writing) → i < length ys
    → whole (spell a.order) (at a.order) (drop i (map f ys)) w ≡ whole (spell a.order) (at a.order) (map f ys) a
    → v ≡ appended (spell w.order (f (get_or ys i d))) (at w.order (length w.body) (f (get_or ys i d))) w
    → whole (spell a.order) (at a.order) (drop (suc i) (map f ys)) v ≡ whole (spell a.order) (at a.order) (map f ys) a
loop-more spell at f ys i d a w v within invariant step =
    let order = whole-order (spell a.order) (at a.order) (drop i (map f ys)) (map f ys) w a invariant in
    let here = rw (drop-seen f ys i d within) at invariant in
    whole-more (spell a.order) (at a.order) (f (get_or ys i d)) (drop (suc i) (map f ys)) w v _ here (step ∙ ap (λ o. appended (spell o (f (get_or ys i d))) (at o (length w.body) (f (get_or ys i d))) w) order)

pub loop-refused : {A B : Type 0} (spell : Endian → A → List ℕ) (at : Endian → ℕ → A → List OutputRelocation) (f : B → A) (ys : List B) (i : ℕ) (d : B) (a w now : Writing) (result : Result (Unit {0}) WriteError) (e : WriteError) (rs : List OutputRelocation) → i < length ys
    → whole (spell a.order) (at a.order) (drop i (map f ys)) w ≡ whole (spell a.order) (at a.order) (map f ys) a
    → ((error : WriteError) × (result ≡ Err error) × (error ≡ e)) → Refuses e w (length (spell w.order (f (get_or ys i d))))
    → Writes a now result (flat_map (spell a.order) (map f ys)) rs
loop-refused spell at f ys i d a w now result e rs within invariant p refused =
    let order = whole-order (spell a.order) (at a.order) (drop i (map f ys)) (map f ys) w a invariant in
    let here = rw (drop-seen f ys i d within) at invariant in
    let P : Endian → Type 0 = λ o. Refuses e w (length (spell o (f (get_or ys i d)))) in
    let later = whole-refused (spell a.order) (at a.order) (f (get_or ys i d)) (drop (suc i) (map f ys)) (map f ys) w a e here (subst P order refused) in
    let is : result ≡ Err e = p.1 ∙ ap Err p.2 in
    rw (is) later

pub loop-done : {A B : Type 0} (spell : A → List ℕ) (at : ℕ → A → List OutputRelocation) (f : B → A) (ys : List B) (i : ℕ) (w all : Writing) → length ys ≤ i → whole spell at (drop i (map f ys)) w ≡ all → w ≡ all
loop-done spell at f ys i w all past invariant =
    let none : drop i (map f ys) ≡ [] = drop_all i (map f ys) (omega (arith, past, length-map ys f)) in
    whole-done spell at w all (rw (none) at invariant)

-- ---- the ends of lists of siblings

pub ends-more : (k count : ℕ) (w v all : Writing) → k < count → appended (replicate (count - k) 0) [] w ≡ all → v ≡ appended (0 ∷ []) [] w → appended (replicate (count - suc k) 0) [] v ≡ all
ends-more k count w v all more invariant step =
    let one : count - k ≡ suc (count - suc k) = omega (arith, more) in
    appended-twice w v (appended (replicate (count - suc k) 0) [] v) (0 ∷ []) (replicate (count - suc k) 0) [] [] step refl ∙ ap (λ n. appended (replicate n 0) [] w) (sym one) ∙ invariant

pub ends-refused : (k count : ℕ) (w a now : Writing) (result : Result (Unit {0}) WriteError) (e : WriteError) → k < count → appended (replicate (count - k) 0) [] w ≡ appended (replicate count 0) [] a
    → ((error : WriteError) × (result ≡ Err error) × (error ≡ e)) → Refuses e w 1 → Writes a now result (replicate count 0) []
ends-refused k count w a now result e more invariant p refused =
    let is : result ≡ Err e = p.1 ∙ ap Err p.2 in
    let long = ap (λ (v : Writing). length v.body) invariant in
    let later : Refuses e a (length {A = ℕ} (replicate count 0)) =
    past-more w.name a.name _ _ e (ap (λ (v : Writing). v.name) invariant)
    (λ large. omega (arith, large, more, long, length-append w.body (replicate (count - k) 0), length-append a.body (replicate count 0), length-replicate {A = ℕ} (count - k) 0, length-replicate {A = ℕ} count 0)) refused in
    rw (is) later

-- ---- a length that is put in front of what is written

pub patched : (a b c : Writing) (room size rest : List ℕ) (rs : List OutputRelocation) → length room ≡ 4 → length size ≡ 4 → b ≡ appended (room ++ rest) rs a → c ≡ overwritten (length a.body) size [] b → c ≡ appended (size ++ rest) rs a
patched a b c room size rest rs long wide grown over =
    let back : replaced (length a.body) size (a.body ++ (room ++ rest)) ≡ a.body ++ (size ++ rest) = replaced-behind a.body room size rest (long ∙ sym wide) in
    rw (over, grown, back) (ap (λ qs. record { order = a.order; name = a.name; body = a.body ++ (size ++ rest); relocations = qs }) (append-nil (a.relocations ++ rs)))
  where
    replaced-behind : (front room size rest : List ℕ) → length room ≡ length size → replaced (length front) size (front ++ (room ++ rest)) ≡ front ++ (size ++ rest)
    replaced-behind front room size rest same =
        let a : take (length front) (front ++ (room ++ rest)) ≡ front = take-append_seam front (room ++ rest) in
        let b : drop (length front + length size) (front ++ (room ++ rest)) ≡ rest = drop-append-add front (room ++ rest) (length size) ∙ ap (λ n. drop n (room ++ rest)) (sym same) ∙ drop-append_seam room rest in
        rw (a, b) refl
