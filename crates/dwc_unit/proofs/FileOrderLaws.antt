-- Links between entries, and the walk along them.
use Rattle.std.proofs.Common.{◌≡◌, ℕ, zero, suc, ◌+◌, ◌<◌, ◌≤◌, ◌⊎◌, inl, inr, refl, sym, ap, subst, ◌∙◌, arith, List, [], ◌∷◌, ◌++◌, append_assoc, append-nil, length, map, drop, get_or, set, replicate, Bool, true, false, eqb}
use Rattle.std.specs.Prelude.{◌-◌, ◌≢◌, if◌then◌else◌}
use Rattle.std.specs.List.{All}
use Rattle.std.proofs.lemmas.Bool.{eq-eqb, eqb-true, eqb-false}
use Rattle.std.proofs.lemmas.List.{get_or-set_same, get_or-set_other, get_or-replicate, length-set, map-append}
use Rattle.std.proofs.lemmas.List.Elements.{All-head, All-tail, All-cons, All-nil, All-append}
use Rattle.dwc_unit.specs.declared.file_order.FilePlace.{FilePlace}
use Rattle.dwc_unit.specs.GivenUnits.{Addition, GivenEntry, entry_at, below, AreBehindParents, IsRooted}
use Rattle.dwc_unit.specs.FileOrders.{no_addition, looked_up, linked_place, linked, IsLink, AreLinked}

-- ---- lists at a place

pub drop-one : {A : Type 0} (xs : List A) (i : ℕ) (d : A) → i < length xs → drop i xs ≡ get_or xs i d ∷ drop (suc i) xs
drop-one [] i d within = absurd (omega arith)
drop-one (x ∷ xs) zero d within = refl
drop-one (x ∷ xs) (suc i) d within = drop-one xs i d (omega arith)

drop-past : {A : Type 0} (xs : List A) (i : ℕ) → length xs ≤ i → drop i xs ≡ []
drop-past [] zero past = refl
drop-past [] (suc i) past = refl
drop-past (x ∷ xs) zero past = absurd (omega arith)
drop-past (x ∷ xs) (suc i) past = drop-past xs i (omega arith)

parent-behind : (added : List Addition) (from i : ℕ) → AreBehindParents from added → i < length added → (get_or added i no_addition).parent < from + i
parent-behind [] from i behind within = absurd (omega arith)
parent-behind (e ∷ es) from zero behind within = let here = behind.0 in omega (arith, here)
parent-behind (e ∷ es) from (suc i) behind within = let there = parent-behind es (suc from) i behind.1 (omega arith) in omega (arith, there)

pub parent-before : (added : List Addition) (i : ℕ) → IsRooted added → 0 < i → i < length added → (get_or added i no_addition).parent < i
parent-before [] i rooted some within = absurd rooted
parent-before (r ∷ es) zero rooted some within = absurd (omega arith)
parent-before (r ∷ es) (suc i) rooted some within = let there = parent-behind es 1 i rooted (omega arith) in omega (arith, there)

-- ---- links

eqb-apart : (a b : ℕ) → a ≢ b → eqb a b ≡ false
eqb-apart a b apart = go (eqb a b) refl
  where
    go : (x : Bool) → eqb a b ≡ x → x ≡ false
    go true e = absurd (apart (eqb-true a b e))
    go false e = refl

no-link : (added : List Addition) (parent place : ℕ) → length added ≤ place → IsLink added parent place 0
no-link added parent place past = record { behind = inl refl; entries = λ depth. sym (ap (below depth parent place) (drop-past added place past)) }

-- the entry at a place stands for itself and those behind it
link-here : (added : List Addition) (place : ℕ) → 0 < place → place < length added → IsLink added (get_or added place no_addition).parent place place
link-here added place some within = record {
  behind = inr (omega arith, within);
  entries = λ depth. ap (λ b. if b then [] else below depth (get_or added place no_addition).parent place (drop place added)) (eqb-apart place 0 (λ e. omega (arith, e, some)));
}

-- an entry that is below another parent is passed
link-past : (added : List Addition) (parent place index : ℕ) → place < length added → (get_or added place no_addition).parent ≢ parent → IsLink added parent (suc place) index → IsLink added parent place index
link-past added parent place index within apart link = record {
  behind = near link.behind;
  entries = λ depth. link.entries depth ∙ sym (ap (below depth parent place) (drop-one added place no_addition within) ∙ ap (λ b. if b then entry_at depth place (get_or added place no_addition) ∷ (below (suc depth) place (suc place) (drop (suc place) added) ++ below depth parent (suc place) (drop (suc place) added)) else below depth parent (suc place) (drop (suc place) added)) (eqb-apart (get_or added place no_addition).parent parent apart));
}
  where
    near : (index ≡ 0) ⊎ ((suc place ≤ index) × (index < length added)) → (index ≡ 0) ⊎ ((place ≤ index) × (index < length added))
    near (inl none) = inl none
    near (inr some) = let here = some.0 in inr (omega (arith, here), some.1)

-- The entries from a place on have their links; those before it have a link to their first child from there on.
pub record LinkedFrom (added : List Addition) (place : ℕ) (firsts nexts : List ℕ) : Type 0 where
  pub first_length : length firsts ≡ length added
  pub next_length : length nexts ≡ length added
  pub waiting : (p : ℕ) → p < place → IsLink added p place (get_or firsts p 0)
  pub first : (p : ℕ) → place ≤ p → p < length added → IsLink added p (suc p) (get_or firsts p 0)
  pub next : (p : ℕ) → place ≤ p → p < length added → IsLink added (get_or added p no_addition).parent (suc p) (get_or nexts p 0)

pub linked-none : (added : List Addition) (firsts nexts : List ℕ) (n : ℕ) → n ≡ length added → firsts ≡ replicate n 0 → nexts ≡ replicate n 0 → LinkedFrom added n firsts nexts
linked-none added firsts nexts n long first next = record {
  first_length = ap length first ∙ length-zeros n ∙ long;
  next_length = ap length next ∙ length-zeros n ∙ long;
  waiting = λ p low. subst (λ x. IsLink added p n x) (sym (ap (λ xs. get_or xs p 0) first ∙ get_or-replicate n p 0 0 low)) (no-link added p n (omega (arith, long)));
  first = λ p high low. absurd (omega (arith, high, low, long));
  next = λ p high low. absurd (omega (arith, high, low, long));
}
  where
    length-zeros : (n : ℕ) → length {A = ℕ} (replicate n 0) ≡ n
    length-zeros zero = refl
    length-zeros (suc n) = ap suc (length-zeros n)

pub linked-more : (added : List Addition) (place : ℕ) (firsts nexts : List ℕ) → IsRooted added → 0 < place → place < length added → LinkedFrom added (suc place) firsts nexts
    → LinkedFrom added place (set firsts (get_or added place no_addition).parent place) (set nexts place (get_or firsts (get_or added place no_addition).parent 0))
linked-more added place firsts nexts rooted some within h =
    let parent = (get_or added place no_addition).parent in
    let before = parent-before added place rooted some within in
    record {
      first_length = length-set firsts parent place ∙ h.first_length;
      next_length = length-set nexts place (get_or firsts parent 0) ∙ h.next_length;
      waiting = λ p low. is-waiting p low (eqb p parent) refl;
      first = λ p high low. subst (λ x. IsLink added p (suc p) x) (sym (get_or-set_other firsts parent p place 0 (λ e. omega (arith, e, before, high)))) (is-first p high low (eqb p place) refl);
      next = λ p high low. is-next p high low (eqb p place) refl;
    }
  where
    long : (get_or added place no_addition).parent < length firsts
    long = let before = parent-before added place rooted some within in let same = h.first_length in omega (arith, before, within, same)

    is-waiting : (p : ℕ) → p < place → (b : Bool) → eqb p (get_or added place no_addition).parent ≡ b → IsLink added p place (get_or (set firsts (get_or added place no_addition).parent place) p 0)
    is-waiting p low true e =
        let same : p ≡ (get_or added place no_addition).parent = eqb-true _ _ e in
        subst (λ q. IsLink added q place (get_or (set firsts (get_or added place no_addition).parent place) q 0)) (sym same)
        (subst (λ x. IsLink added (get_or added place no_addition).parent place x) (sym (get_or-set_same firsts (get_or added place no_addition).parent place 0 long)) (link-here added place some within))
    is-waiting p low false e =
        let apart : p ≢ (get_or added place no_addition).parent = eqb-false _ _ e in
        subst (λ x. IsLink added p place x) (sym (get_or-set_other firsts (get_or added place no_addition).parent p place 0 apart))
        (link-past added p place (get_or firsts p 0) within (λ same. apart (sym same)) (h.waiting p (omega (arith, low))))

    is-first : (p : ℕ) → place ≤ p → p < length added → (b : Bool) → eqb p place ≡ b → IsLink added p (suc p) (get_or firsts p 0)
    is-first p high low true e = subst (λ q. IsLink added q (suc q) (get_or firsts q 0)) (sym (eqb-true p place e)) (h.waiting place (omega arith))
    is-first p high low false e = let apart : p ≢ place = eqb-false p place e in h.first p (omega (arith, high, apart)) low

    is-next : (p : ℕ) → place ≤ p → p < length added → (b : Bool) → eqb p place ≡ b → IsLink added (get_or added p no_addition).parent (suc p) (get_or (set nexts place (get_or firsts (get_or added place no_addition).parent 0)) p 0)
    is-next p high low true e =
        let same : p ≡ place = eqb-true p place e in
        let before = parent-before added place rooted some within in
        let size = h.next_length in
        subst (λ q. IsLink added (get_or added q no_addition).parent (suc q) (get_or (set nexts place (get_or firsts (get_or added place no_addition).parent 0)) q 0)) (sym same)
        (subst (λ x. IsLink added (get_or added place no_addition).parent (suc place) x) (sym (get_or-set_same nexts place (get_or firsts (get_or added place no_addition).parent 0) 0 (omega (arith, within, size)))) (h.waiting (get_or added place no_addition).parent (omega (arith, before))))
    is-next p high low false e =
        let apart : p ≢ place = eqb-false p place e in
        subst (λ x. IsLink added (get_or added p no_addition).parent (suc p) x) (sym (get_or-set_other nexts place p (get_or firsts (get_or added place no_addition).parent 0) 0 apart)) (h.next p (omega (arith, high, apart)) low)

pub linked-done : (added : List Addition) (place : ℕ) (firsts nexts : List ℕ) → 0 < place → place ≤ 1 → LinkedFrom added place firsts nexts → AreLinked added firsts nexts
linked-done added place firsts nexts some last h =
    let one : place ≡ 1 = omega (arith, some, last) in
    let g = subst (λ n. LinkedFrom added n firsts nexts) one h in
    record {
      first_length = h.first_length;
      next_length = h.next_length;
      first = λ p low. is-first g p low;
      next = λ p above low. g.next p above low;
    }
  where
    is-first : LinkedFrom added 1 firsts nexts → (p : ℕ) → p < length added → IsLink added p (suc p) (get_or firsts p 0)
    is-first g zero low = g.waiting 0 (omega arith)
    is-first g (suc p) low = g.first (suc p) (omega arith) low

-- ---- the walk

-- what a stack of entries stands for, the last one first
abbrev pub emitted : List Addition → List FilePlace → List GivenEntry
emitted added [] = []
emitted added (f ∷ fs) = emitted added fs ++ linked added f.depth f.index

-- an entry on the stack is not the root, and not deeper than its place
pub record IsPending (added : List Addition) (f : FilePlace) : Type 0 where
  pub some : 0 < f.index
  pub within : f.index < length added
  pub deep : f.depth ≤ f.index

emitted-last : (added : List Addition) (fs : List FilePlace) (f : FilePlace) → emitted added (fs ++ f ∷ []) ≡ linked added f.depth f.index ++ emitted added fs
emitted-last added [] f = sym (append-nil (linked added f.depth f.index))
emitted-last added (g ∷ fs) f = ap (λ xs. xs ++ linked added g.depth g.index) (emitted-last added fs f) ∙ append_assoc (linked added f.depth f.index) (emitted added fs) (linked added g.depth g.index)

pub emitted-link : (added : List Addition) (fs : List FilePlace) (index depth : ℕ) → emitted added (fs ++ linked_place index depth) ≡ linked added depth index ++ emitted added fs
emitted-link added fs index depth = go (eqb index 0) refl
  where
    go : (b : Bool) → eqb index 0 ≡ b → emitted added (fs ++ (if b then [] else record { index = index; depth = depth } ∷ [])) ≡ (if b then [] else below depth (get_or added index no_addition).parent index (drop index added)) ++ emitted added fs
    go true e = ap (emitted added) (append-nil fs)
    go false e = emitted-last added fs (record { index = index; depth = depth }) ∙ ap (λ b. (if b then [] else below depth (get_or added index no_addition).parent index (drop index added)) ++ emitted added fs) e

-- an entry stands for itself, what is below it, and what stands behind it
entry-linked : (added : List Addition) (firsts nexts : List ℕ) (f : FilePlace) → AreLinked added firsts nexts → IsPending added f
    → linked added f.depth f.index ≡ looked_up added f ∷ (linked added (suc f.depth) (get_or firsts f.index 0) ++ linked added f.depth (get_or nexts f.index 0))
entry-linked added firsts nexts f links pending =
    let e = get_or added f.index no_addition in
    let inner = (links.first f.index pending.within).entries (suc f.depth) in
    let behind = (links.next f.index pending.some pending.within).entries f.depth in
    let above = pending.some in
    ap (λ b. if b then [] else below f.depth e.parent f.index (drop f.index added)) (eqb-apart f.index 0 (λ is. omega (arith, is, above)))
    ∙ ap (below f.depth e.parent f.index) (drop-one added f.index no_addition pending.within)
    ∙ ap (λ b. if b then looked_up added f ∷ (below (suc f.depth) f.index (suc f.index) (drop (suc f.index) added) ++ below f.depth e.parent (suc f.index) (drop (suc f.index) added)) else below f.depth e.parent (suc f.index) (drop (suc f.index) added)) (eq-eqb e.parent e.parent refl)
    ∙ ap (λ xs. looked_up added f ∷ (xs ++ below f.depth e.parent (suc f.index) (drop (suc f.index) added))) (sym inner)
    ∙ ap (λ xs. looked_up added f ∷ (linked added (suc f.depth) (get_or firsts f.index 0) ++ xs)) (sym behind)

-- The stack after an entry was taken from it and its links were put onto it stands for what is left.
pub emitted-step : (added : List Addition) (firsts nexts : List ℕ) (f : FilePlace) (rest mid now : List FilePlace) → AreLinked added firsts nexts → IsPending added f
    → mid ≡ rest ++ linked_place (get_or nexts f.index 0) f.depth → now ≡ mid ++ linked_place (get_or firsts f.index 0) (f.depth + 1)
    → emitted added (rest ++ f ∷ []) ≡ looked_up added f ∷ emitted added now
emitted-step added firsts nexts f rest mid now links pending second first =
    let next = get_or nexts f.index 0 in
    let child = get_or firsts f.index 0 in
    let deeper : f.depth + 1 ≡ suc f.depth = omega arith in
    let grown : emitted added now ≡ linked added (suc f.depth) child ++ (linked added f.depth next ++ emitted added rest) =
    ap (emitted added) first ∙ emitted-link added mid child (f.depth + 1) ∙ ap (λ d. linked added d child ++ emitted added mid) deeper
    ∙ ap (λ xs. linked added (suc f.depth) child ++ xs) (ap (emitted added) second ∙ emitted-link added rest next f.depth) in
    emitted-last added rest f ∙ ap (λ xs. xs ++ emitted added rest) (entry-linked added firsts nexts f links pending)
    ∙ ap (λ xs. looked_up added f ∷ xs) (append_assoc (linked added (suc f.depth) child) (linked added f.depth next) (emitted added rest) ∙ sym grown)

-- what is put onto the stack may stand there
pub link-pending : (added : List Addition) (parent place index depth : ℕ) (fs : List FilePlace) → IsLink added parent place index → depth ≤ place → 0 < place → All (IsPending added) fs → All (IsPending added) (fs ++ linked_place index depth)
link-pending added parent place index depth fs link low some all = All-append (IsPending added) fs (linked_place index depth) all (go (eqb index 0) refl link.behind)
  where
    go : (b : Bool) → eqb index 0 ≡ b → (index ≡ 0) ⊎ ((place ≤ index) × (index < length added)) → All (IsPending added) (if b then [] else record { index = index; depth = depth } ∷ [])
    go true e h = All-nil (IsPending added)
    go false e (inl none) = absurd (eqb-false index 0 e none)
    go false e (inr more) = let near = more.0 in All-cons (IsPending added) (record { index = index; depth = depth }) [] (record { some = omega (arith, near, some); within = more.1; deep = omega (arith, near, low) }) (All-nil (IsPending added))

-- ---- the links from a place on

pub any-default : {A : Type 0} (xs : List A) (i : ℕ) (d e : A) → i < length xs → get_or xs i d ≡ get_or xs i e
any-default [] i d e within = absurd (omega arith)
any-default (x ∷ xs) zero d e within = refl
any-default (x ∷ xs) (suc i) d e within = any-default xs i d e (omega arith)

pub parent-low : (added : List Addition) (place parent : ℕ) (firsts nexts : List ℕ) → IsRooted added → 1 < place → parent ≡ (get_or added (place - 1) no_addition).parent → place ≤ length added → LinkedFrom added place firsts nexts → parent < length firsts
parent-low added place parent firsts nexts rooted more is within h =
    let same = h.first_length in
    omega (arith, more, within, is, same, parent-before added (place - 1) rooted (omega (arith, more)) (omega (arith, more, within)))

pub entry-linked-more : (added : List Addition) (place parent : ℕ) (firsts nexts : List ℕ) (value : ℕ) → IsRooted added → 1 < place → parent ≡ (get_or added (place - 1) no_addition).parent → place ≤ length added → LinkedFrom added place firsts nexts → value ≡ get_or firsts parent value
    → LinkedFrom added (place - 1) (set firsts parent (place - 1)) (set nexts (place - 1) value)
entry-linked-more added place parent firsts nexts value rooted more is within h read =
    let j = place - 1 in
    let above : place ≡ suc j = omega (arith, more) in
    let low = parent-low added place parent firsts nexts rooted more is within h in
    let found : get_or firsts (get_or added j no_addition).parent 0 ≡ value = ap (λ p. get_or firsts p 0) (sym is) ∙ any-default firsts parent 0 value low ∙ sym read in
    let P : ℕ → ℕ → Type 0 = λ p v. LinkedFrom added j (set firsts p j) (set nexts j v) in
    subst (P parent) found (subst (λ p. P p (get_or firsts (get_or added j no_addition).parent 0)) (sym is)
    (linked-more added j firsts nexts rooted (omega (arith, more)) (omega (arith, more, within)) (subst (λ n. LinkedFrom added n firsts nexts) above h)))

pub rooted-some : (added : List Addition) → IsRooted added → 0 < length added
rooted-some [] rooted = absurd rooted
rooted-some (e ∷ es) rooted = omega arith

-- ---- a step of the walk

pub record IsStep (added : List Addition) (whole : List GivenEntry) (old now order done : List FilePlace) : Type 0 where
  pub entries : map (looked_up added) done ++ emitted added now ≡ whole
  pub smaller : length (emitted added now) < length (emitted added old)
  pub pending : All (IsPending added) now
  pub known : (n : ℕ) → n ≡ length added → All (λ f. f.index < n) order → All (λ f. f.index < n) done

pub walk-step : (added : List Addition) (firsts nexts : List ℕ) (whole : List GivenEntry) (f : FilePlace) (old rest mid now order done : List FilePlace) (next child : ℕ) → AreLinked added firsts nexts → All (IsPending added) old
    → old ≡ rest ++ f ∷ [] → map (looked_up added) order ++ emitted added old ≡ whole → done ≡ order ++ f ∷ []
    → next ≡ get_or nexts f.index next → child ≡ get_or firsts f.index child
    → mid ≡ rest ++ linked_place next f.depth → now ≡ mid ++ linked_place child (f.depth + 1) → IsStep added whole old now order done
walk-step added firsts nexts whole f old rest mid now order done next child links pending popped invariant pushed next_read child_read second first =
    let all = subst (λ fs. All (IsPending added) fs) popped pending in
    let here : IsPending added f = last rest all in
    let within = here.within in
    let next_size = links.next_length in
    let first_size = links.first_length in
    let next_is : next ≡ get_or nexts f.index 0 = next_read ∙ any-default nexts f.index next 0 (omega (arith, within, next_size)) in
    let child_is : child ≡ get_or firsts f.index 0 = child_read ∙ any-default firsts f.index child 0 (omega (arith, within, first_size)) in
    let second_is = second ∙ ap (λ n. rest ++ linked_place n f.depth) next_is in
    let first_is = first ∙ ap (λ n. mid ++ linked_place n (f.depth + 1)) child_is in
    let step = ap (emitted added) popped ∙ emitted-step added firsts nexts f rest mid now links here second_is first_is in
    let deep = here.deep in
    let above = here.some in
    let one = link-pending added (get_or added f.index no_addition).parent (suc f.index) (get_or nexts f.index 0) f.depth rest (links.next f.index here.some here.within) (omega (arith, deep)) (omega arith) (fronts rest all) in
    let two = link-pending added f.index (suc f.index) (get_or firsts f.index 0) (f.depth + 1) mid (links.first f.index here.within) (omega (arith, deep)) (omega arith) (subst (λ fs. All (IsPending added) fs) (sym second_is) one) in
    record {
      entries = ap (λ fs. map (looked_up added) fs ++ emitted added now) pushed ∙ ap (λ xs. xs ++ emitted added now) (map-append (looked_up added) order (f ∷ [])) ∙ append_assoc (map (looked_up added) order) (looked_up added f ∷ []) (emitted added now) ∙ ap (λ xs. map (looked_up added) order ++ xs) (sym step) ∙ invariant;
      smaller = omega (arith, ap length step);
      pending = subst (λ fs. All (IsPending added) fs) (sym first_is) two;
      known = λ n is all. let P : FilePlace → Type 0 = λ g. g.index < n in subst (λ fs. All P fs) (sym pushed) (All-append P order (f ∷ []) all (All-cons P f [] (omega (arith, within, is)) (All-nil P)));
    }
  where
    last : (fs : List FilePlace) → All (IsPending added) (fs ++ f ∷ []) → IsPending added f
    last [] all = All-head (IsPending added) f [] all
    last (g ∷ fs) all = last fs (All-tail (IsPending added) g (fs ++ f ∷ []) all)

    fronts : (fs : List FilePlace) → All (IsPending added) (fs ++ f ∷ []) → All (IsPending added) fs
    fronts [] all = All-nil (IsPending added)
    fronts (g ∷ fs) all = All-cons (IsPending added) g fs (All-head (IsPending added) g (fs ++ f ∷ []) all) (fronts fs (All-tail (IsPending added) g (fs ++ f ∷ []) all))

-- ---- an entry in file order

abbrev pub first_place : FilePlace
first_place = record { index = 0; depth = 0 }
