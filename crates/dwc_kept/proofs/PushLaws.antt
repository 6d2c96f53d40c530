-- One more entry of a graph.
use Rattle.std.proofs.Common.{◌≡◌, ℕ, zero, suc, ◌+◌, ◌-◌, ◌<◌, ◌≤◌, ◌^◌, ◌⊎◌, List, [], ◌∷◌, ◌++◌, length, set, take, drop, refl, ap, sym, subst, ◌∙◌, inl, inr, arith, Bool, true, false, cond, Some, None}
use Rattle.std.specs.Prelude.{◌==◌, ◌&&◌, not, if◌then◌else◌, Option, is_some, IfSome, All}
use Rattle.std.specs.Option.{unwrap_or}
use Rattle.std.specs.List.{slice_range}
use Rattle.std.proofs.lemmas.Bool.{eqb-true, eqb-false, eq-eqb, ne_eqb, and_parts, and_from, not-true, not_from_true, not_from_false, cases_Bool, cases_order, cases_eq}
use Rattle.std.proofs.lemmas.List.{get_or-set_same, get_or-set_other, length-set, get_or_append_left, get_or_push, length_push, length-append, length-drop, take-append-le, drop-append-le, drop_at, take_all, get_or_default}
use Rattle.dwc_kept.specs.declared.graph_entry.GraphEntry.{GraphEntry}
use Rattle.dwc_kept.specs.EntryGraphs.{Node, no_node, node}
use Rattle.dwc_kept.specs.GraphEntries.{no_entry, entry, targets_start, targets_of, node_seen, nodes_seen, is_part_number, IsLink, AreRising, AreLinked, HaveTargets, AreEntries, with_last, next_entry, with_entry}
use Rattle.dwc_kept.proofs.NumberLaws.{number-low, targets_start-at, targets_start-past}
use Rattle.dwc_kept.proofs.KeptNumbers.{nodes-length, node-at}

-- ---- the nodes

tail-has : (e : GraphEntry) (es : List GraphEntry) (size : ℕ) → HaveTargets (e ∷ es) size → HaveTargets es size
tail-has e es size has = record { starts = λ i less. has.starts (suc i) (omega (arith, less)); within = λ i less. has.within (suc i) (omega (arith, less)) }

range-front : (ts us : List ℕ) (start end : ℕ) → start ≤ end → end ≤ length ts → slice_range (ts ++ us) start end ≡ slice_range ts start end
range-front ts us start end le within =
    ap (take (end - start)) (drop-append-le start ts us (omega (arith, le, within))) ∙ take-append-le (end - start) (drop start ts) us (omega (arith, length-drop start ts, within))

range-back : (ts us : List ℕ) → slice_range (ts ++ us) (length ts) (length (ts ++ us)) ≡ us
range-back ts us = ap (take (length (ts ++ us) - length ts)) (drop_at ts us (length ts) refl) ∙ take_all (length (ts ++ us) - length ts) us (omega (arith, length-append ts us))

start-push : (es : List GraphEntry) (e : GraphEntry) (size more : ℕ) → e.first_target ≡ size → targets_start (es ++ e ∷ []) more ≡ targets_start es size
start-push [] e size more is = is
start-push (x ∷ es) e size more is = refl

nodes-push : (number own : ℕ) (es : List GraphEntry) (e : GraphEntry) (ts us : List ℕ) → HaveTargets es (length ts) → e.first_target ≡ length ts → own ≡ number + length es → nodes_seen number (es ++ e ∷ []) (ts ++ us) ≡ nodes_seen number es ts ++ node_seen own e us ∷ []
nodes-push number own [] e ts us has is same =
    let here : number ≡ own = omega (arith, same) in
    ap (λ xs. node_seen number e xs ∷ []) (ap (λ k. slice_range (ts ++ us) k (length (ts ++ us))) is ∙ range-back ts us) ∙ ap (λ k. node_seen k e us ∷ []) here
nodes-push number own (x ∷ es) e ts us has is same =
    ap (λ xs. node_seen number x xs ∷ nodes_seen (suc number) (es ++ e ∷ []) (ts ++ us))
    (ap (slice_range (ts ++ us) x.first_target) (start-push es e (length ts) (length (ts ++ us)) is) ∙ range-front ts us x.first_target (targets_start es (length ts)) (has.starts 0 (omega arith)) (has.within 0 (omega arith)))
    ∙ ap (λ ns. node_seen number x (slice_range ts x.first_target (targets_start es (length ts))) ∷ ns) (nodes-push (suc number) own es e ts us (tail-has x es (length ts) has) is (omega (arith, same)))

start-last : (es : List GraphEntry) (p last size : ℕ) → targets_start (with_last es p last) size ≡ targets_start es size
start-last [] p last size = refl
start-last (e ∷ es) zero last size = refl
start-last (e ∷ es) (suc p) last size = refl

nodes-last : (number : ℕ) (es : List GraphEntry) (p last : ℕ) (ts : List ℕ) → nodes_seen number (with_last es p last) ts ≡ nodes_seen number es ts
nodes-last number [] p last ts = refl
nodes-last number (e ∷ es) zero last ts = refl
nodes-last number (e ∷ es) (suc p) last ts =
    ap (λ k. node_seen number e (slice_range ts e.first_target k) ∷ nodes_seen (suc number) (with_last es p last) ts) (start-last es p last (length ts))
    ∙ ap (λ ns. node_seen number e (slice_range ts e.first_target (targets_start es (length ts))) ∷ ns) (nodes-last (suc number) es p last ts)

-- ---- the entries

-- entries are others with one more behind them
pub record IsPushed (es more : List GraphEntry) (offset parent first_target : ℕ) (is_part : Bool) : Type 0 where
  longer : length more ≡ suc (length es)
  offsets : (i : ℕ) → i < length es → (entry more i).offset ≡ (entry es i).offset
  parents : (i : ℕ) → i < length es → (entry more i).parent ≡ (entry es i).parent
  firsts : (i : ℕ) → i < length es → (entry more i).first_target ≡ (entry es i).first_target
  previous : (i : ℕ) → i < length es → (entry more i).previous_part ≡ (entry es i).previous_part
  lasts : (i : ℕ) → i < length es → (is_part ≡ true → i ≡ parent → ⊥) → (entry more i).last_part ≡ (entry es i).last_part
  linked : is_part ≡ true → (entry more parent).last_part ≡ length es
  offset_is : (entry more (length es)).offset ≡ offset
  parent_is : (entry more (length es)).parent ≡ parent
  first_is : (entry more (length es)).first_target ≡ first_target
  previous_part_is : is_part ≡ true → (entry more (length es)).previous_part ≡ (entry es parent).last_part
  previous_own_is : is_part ≡ false → (entry more (length es)).previous_part ≡ length es
  last_is : (entry more (length es)).last_part ≡ length es

module _ (es : List GraphEntry) (offset parent first_target : ℕ) where
  pushed : Bool → GraphEntry
  pushed is_part = next_entry es offset parent is_part first_target

  front : (is_part : Bool) (i : ℕ) → i < length es → entry (es ++ pushed is_part ∷ []) i ≡ entry es i
  front is_part i less = get_or_append_left es (pushed is_part ∷ []) no_entry i less

  back : (is_part : Bool) → entry (es ++ pushed is_part ∷ []) (length es) ≡ pushed is_part
  back is_part = get_or_push es (pushed is_part) no_entry (length es) refl

  pub is-pushed : (is_part : Bool) → (is_part ≡ true → parent < length es) → IsPushed es (with_entry es offset parent is_part first_target) offset parent first_target is_part
  unfolding pushed
  is-pushed false inside = record {
    longer = omega (arith, length_push es (pushed false));
    offsets = λ i less. ap (λ e. e.offset) (front false i less);
    parents = λ i less. ap (λ e. e.parent) (front false i less);
    firsts = λ i less. ap (λ e. e.first_target) (front false i less);
    previous = λ i less. ap (λ e. e.previous_part) (front false i less);
    lasts = λ i less d. ap (λ e. e.last_part) (front false i less);
    linked = λ e. absurd (cc);
    offset_is = ap (λ e. e.offset) (back false);
    parent_is = ap (λ e. e.parent) (back false);
    first_is = ap (λ e. e.first_target) (back false);
    previous_part_is = λ e. absurd (cc);
    previous_own_is = λ e. ap (λ e. e.previous_part) (back false);
    last_is = ap (λ e. e.last_part) (back false);
  }
  is-pushed true inside = record {
    longer = omega (arith, length-set xs parent x, length_push es (pushed true));
    offsets = λ i less. same (λ e. e.offset) i (same-offset) ∙ ap (λ e. e.offset) (front true i less);
    parents = λ i less. same (λ e. e.parent) i (same-parent) ∙ ap (λ e. e.parent) (front true i less);
    firsts = λ i less. same (λ e. e.first_target) i (same-first) ∙ ap (λ e. e.first_target) (front true i less);
    previous = λ i less. same (λ e. e.previous_part) i (same-previous) ∙ ap (λ e. e.previous_part) (front true i less);
    lasts = λ i less d. ap (λ e. e.last_part) (other i (λ e. d refl e)) ∙ ap (λ e. e.last_part) (front true i less);
    linked = λ e. ap (λ e. e.last_part) here;
    offset_is = same (λ e. e.offset) (length es) (same-offset) ∙ ap (λ e. e.offset) (back true);
    parent_is = same (λ e. e.parent) (length es) (same-parent) ∙ ap (λ e. e.parent) (back true);
    first_is = same (λ e. e.first_target) (length es) (same-first) ∙ ap (λ e. e.first_target) (back true);
    previous_part_is = λ e. same (λ e. e.previous_part) (length es) (same-previous) ∙ ap (λ e. e.previous_part) (back true);
    previous_own_is = λ e. absurd (cc);
    last_is = ap (λ e. e.last_part) (other (length es) (λ e. absurd (omega (arith, e, inside refl)))) ∙ ap (λ e. e.last_part) (back true);
  }
    where
      xs : List GraphEntry
      xs = es ++ pushed true ∷ []

      x : GraphEntry
      x = record (entry (es ++ pushed true ∷ []) parent) { last_part = length es }

      here : entry (set xs parent x) parent ≡ x
      here = get_or-set_same xs parent x no_entry (omega (arith, length_push es (pushed true), inside refl))

      other : (i : ℕ) → (i ≡ parent → ⊥) → entry (set xs parent x) i ≡ entry xs i
      other i d = get_or-set_other xs parent i x no_entry d

      same-offset : x.offset ≡ (entry xs parent).offset
      same-offset = refl

      same-parent : x.parent ≡ (entry xs parent).parent
      same-parent = refl

      same-first : x.first_target ≡ (entry xs parent).first_target
      same-first = refl

      same-previous : x.previous_part ≡ (entry xs parent).previous_part
      same-previous = refl

      same : (f : GraphEntry → ℕ) (i : ℕ) → f x ≡ f (entry xs parent) → f (entry (set xs parent x) i) ≡ f (entry xs i)
      same f i e = go (cases_eq i parent)
        where
          go : (i ≡ parent) ⊎ (i ≡ parent → ⊥) → f (entry (set xs parent x) i) ≡ f (entry xs i)
          go (inl q) = ap (λ k. f (entry (set xs parent x) k)) q ∙ ap f here ∙ e ∙ ap (λ k. f (entry xs k)) (sym q)
          go (inr d) = ap f (other i d)

-- ---- what holds of the entries

module _ (es more : List GraphEntry) (offset parent first_target : ℕ) (is_part : Bool) (at : IsPushed es more offset parent first_target is_part) where
  part-same : (p c : ℕ) → c < length es → is_part_number more p c ≡ is_part_number es p c
  part-same p c less = ap (λ k. (k == p) && (not (p == c) && not ((entry more c).previous_part == c))) (at.parents c less) ∙ ap (λ k. ((entry es c).parent == p) && (not (p == c) && not (k == c))) (at.previous c less)

  link-more : (p b link : ℕ) → b ≤ length es → IsLink es p b link → IsLink more p b link
  link-more p b link le is = record {
    low = is.low;
    high = is.high;
    last = λ c a l. part-same p c (omega (arith, l, le)) ∙ is.last c a l;
    stands = stands is.stands;
  }
    where
      stands : (link ≡ p) ⊎ (is_part_number es p link ≡ true) → (link ≡ p) ⊎ (is_part_number more p link ≡ true)
      stands (inl e) = inl e
      stands (inr h) = inr (part-same p link (omega (arith, is.high, le)) ∙ h)

  -- a link to the last part stays one where the new entry is no part
  link-on : (p link : ℕ) → is_part_number more p (length es) ≡ false → IsLink es p (length es) link → IsLink more p (length more) link
  link-on p link none is =
      let before = link-more p (length es) link (omega arith) is in
      record { low = before.low; high = omega (arith, before.high, at.longer); last = λ c a l. last before c a l (cases_eq c (length es)); stands = before.stands }
    where
      last : IsLink more p (length es) link → (c : ℕ) → link < c → c < length more → (c ≡ length es) ⊎ (c ≡ length es → ⊥) → is_part_number more p c ≡ false
      last before c a l (inl e) = ap (is_part_number more p) e ∙ none
      last before c a l (inr d) = before.last c a (below (cases_order c (length es)))
        where
          below : (c ≡ length es) ⊎ ((c < length es) ⊎ (length es < c)) → c < length es
          below (inl e) = absurd (d e)
          below (inr (inl less)) = less
          below (inr (inr above)) = absurd (omega (arith, above, l, at.longer))

  -- the new entry is a part of its parent alone
  new-part : (p : ℕ) → is_part_number more p (length es) ≡ true → (is_part ≡ true) × (p ≡ parent)
  new-part p h = (go (cases_Bool is_part), sym (sym at.parent_is ∙ eqb-true _ p first.0))
    where
      first : (((entry more (length es)).parent == p) ≡ true) × ((not (p == length es) && not ((entry more (length es)).previous_part == length es)) ≡ true)
      first = and_parts _ _ h

      go : (is_part ≡ true) ⊎ (is_part ≡ false) → is_part ≡ true
      go (inl t) = t
      go (inr f) = absurd (eqb-false _ _ (not-true _ ((and_parts (not (p == length es)) _ first.1).1)) (at.previous_own_is f))

  not-part : (p : ℕ) → ((is_part ≡ true) × (p ≡ parent) → ⊥) → is_part_number more p (length es) ≡ false
  not-part p d = go (cases_Bool (is_part_number more p (length es)))
    where
      go : (is_part_number more p (length es) ≡ true) ⊎ (is_part_number more p (length es) ≡ false) → is_part_number more p (length es) ≡ false
      go (inl h) = absurd (d (new-part p h))
      go (inr h) = h

  module _ (linked : AreLinked es) (inside : is_part ≡ true → parent < length es) (low : parent ≤ length es) where
    is-new-part : is_part ≡ true → is_part_number more parent (length es) ≡ true
    is-new-part t =
        let last = linked.lasts parent (inside t) in
        and_from _ _ (eq-eqb _ parent at.parent_is) (and_from _ _ (not_from_false _ (ne_eqb parent (length es) (λ e. absurd (omega (arith, e, inside t))))) (not_from_false _ (ne_eqb _ (length es) (λ e. absurd (omega (arith, at.previous_part_is t, e, last.high))))))

    lasts-more : (p : ℕ) → p < length more → (p ≡ length es) ⊎ (p ≡ length es → ⊥) → IsLink more p (length more) (entry more p).last_part
    lasts-more p less (inl e) =
        let last : (entry more p).last_part ≡ p = ap (λ k. (entry more k).last_part) e ∙ at.last_is ∙ sym e in
        record { low = omega (arith, last); high = omega (arith, last, less); last = λ c a l. absurd (omega (arith, a, l, last, e, at.longer)); stands = inl last }
    lasts-more p less (inr d) = go (cases_Bool is_part) (cases_eq p parent)
      where
        below : p < length es
        below = go (cases_order p (length es))
          where
            go : (p ≡ length es) ⊎ ((p < length es) ⊎ (length es < p)) → p < length es
            go (inl e) = absurd (d e)
            go (inr (inl less)) = less
            go (inr (inr above)) = absurd (omega (arith, above, less, at.longer))

        same : ((is_part ≡ true) × (p ≡ parent) → ⊥) → IsLink more p (length more) (entry more p).last_part
        same n = subst (IsLink more p (length more)) (sym (at.lasts p below (λ t e. n (t, e)))) (link-on p (entry es p).last_part (not-part p n) (linked.lasts p below))

        go : (is_part ≡ true) ⊎ (is_part ≡ false) → (p ≡ parent) ⊎ (p ≡ parent → ⊥) → IsLink more p (length more) (entry more p).last_part
        go (inl t) (inl e) =
            let last : (entry more p).last_part ≡ length es = ap (λ k. (entry more k).last_part) e ∙ at.linked t in
            record {
              low = omega (arith, last, below);
              high = omega (arith, last, at.longer);
              last = λ c a l. absurd (omega (arith, a, l, last, at.longer));
              stands = inr (ap (is_part_number more p) last ∙ ap (λ k. is_part_number more k (length es)) e ∙ is-new-part t);
            }
        go (inl t) (inr n) = same (λ h. n h.1)
        go (inr f) eq = same (λ h. clash (sym f ∙ h.0))
          where
            clash : false ≡ true → ⊥
            clash e = cc

    previous-more : (p c : ℕ) → c < length more → is_part_number more p c ≡ true → (c ≡ length es) ⊎ (c ≡ length es → ⊥) → IsLink more p c (entry more c).previous_part
    previous-more p c less h (inl e) =
        let new = new-part p (ap (is_part_number more p) (sym e) ∙ h) in
        let last : (entry more c).previous_part ≡ (entry es p).last_part = ap (λ k. (entry more k).previous_part) e ∙ at.previous_part_is new.0 ∙ ap (λ k. (entry es k).last_part) (sym new.1) in
        let link = link-more p (length es) (entry es p).last_part (omega arith) (linked.lasts p (omega (arith, new.1, inside new.0))) in
        subst (IsLink more p c) (sym last) (subst (λ b. IsLink more p b (entry es p).last_part) (sym e) link)
    previous-more p c less h (inr d) = subst (IsLink more p c) (sym (at.previous c below)) (link-more p c (entry es c).previous_part (omega (arith, below)) (linked.previous p c below (sym (part-same p c below) ∙ h)))
      where
        below : c < length es
        below = go (cases_order c (length es))
          where
            go : (c ≡ length es) ⊎ ((c < length es) ⊎ (length es < c)) → c < length es
            go (inl e) = absurd (d e)
            go (inr (inl less)) = less
            go (inr (inr above)) = absurd (omega (arith, above, less, at.longer))

    linked-more : AreLinked more
    linked-more = record {
      parents = λ i less. parents i less (cases_order i (length es));
      lasts = λ p less. lasts-more p less (cases_eq p (length es));
      previous = λ p c less h. previous-more p c less h (cases_eq c (length es));
    }
      where
        parents : (i : ℕ) → i < length more → (i ≡ length es) ⊎ ((i < length es) ⊎ (length es < i)) → (entry more i).parent ≤ i
        parents i less (inl e) = let p : (entry more i).parent ≡ parent = ap (λ k. (entry more k).parent) e ∙ at.parent_is in omega (arith, p, low, e)
        parents i less (inr (inl below)) = omega (arith, at.parents i below, linked.parents i below)
        parents i less (inr (inr above)) = absurd (omega (arith, above, less, at.longer))

  rising-more : AreRising es → ((i : ℕ) → i < length es → (entry es i).offset < offset) → AreRising more
  rising-more rising behind i j less inside = go (cases_order j (length es))
    where
      go : (j ≡ length es) ⊎ ((j < length es) ⊎ (length es < j)) → (entry more i).offset < (entry more j).offset
      go (inl e) = let q : (entry more j).offset ≡ offset = ap (λ k. (entry more k).offset) e ∙ at.offset_is in omega (arith, q, at.offsets i (omega (arith, less, e)), behind i (omega (arith, less, e)))
      go (inr (inl below)) = omega (arith, at.offsets i (omega (arith, less, below)), at.offsets j below, rising i j less below)
      go (inr (inr above)) = absurd (omega (arith, above, inside, at.longer))

  module _ (size all : ℕ) (has : HaveTargets es size) (first : first_target ≡ size) (grows : size ≤ all) where
    end-more : (i : ℕ) → i < length es → targets_start (drop (suc i) more) all ≡ targets_start (drop (suc i) es) size
    end-more i less = targets_start-at more (suc i) all (omega (arith, less, at.longer)) ∙ go (cases_order (suc i) (length es))
      where
        go : (suc i ≡ length es) ⊎ ((suc i < length es) ⊎ (length es < suc i)) → (entry more (suc i)).first_target ≡ targets_start (drop (suc i) es) size
        go (inl e) = ap (λ k. (entry more k).first_target) e ∙ at.first_is ∙ first ∙ sym (targets_start-past es (suc i) size (omega (arith, e)))
        go (inr (inl below)) = at.firsts (suc i) below ∙ sym (targets_start-at es (suc i) size below)
        go (inr (inr above)) = absurd (omega (arith, above, less))

    end-last : targets_start (drop (suc (length es)) more) all ≡ all
    end-last = targets_start-past more (suc (length es)) all (omega (arith, at.longer))

    has-more : HaveTargets more all
    has-more = record { starts = λ i less. starts i less (cases_order i (length es)); within = λ i less. within i less (cases_order i (length es)) }
      where
        starts : (i : ℕ) → i < length more → (i ≡ length es) ⊎ ((i < length es) ⊎ (length es < i)) → (entry more i).first_target ≤ targets_start (drop (suc i) more) all
        starts i less (inl e) =
            let here : (entry more i).first_target ≡ size = ap (λ k. (entry more k).first_target) e ∙ at.first_is ∙ first in
            let end : targets_start (drop (suc i) more) all ≡ all = ap (λ k. targets_start (drop (suc k) more) all) e ∙ end-last in
            omega (arith, here, end, grows)
        starts i less (inr (inl below)) = omega (arith, at.firsts i below, end-more i below, has.starts i below)
        starts i less (inr (inr above)) = absurd (omega (arith, above, less, at.longer))

        within : (i : ℕ) → i < length more → (i ≡ length es) ⊎ ((i < length es) ⊎ (length es < i)) → targets_start (drop (suc i) more) all ≤ all
        within i less (inl e) = let end : targets_start (drop (suc i) more) all ≡ all = ap (λ k. targets_start (drop (suc k) more) all) e ∙ end-last in omega (arith, end)
        within i less (inr (inl below)) = omega (arith, end-more i below, has.within i below, grows)
        within i less (inr (inr above)) = absurd (omega (arith, above, less, at.longer))

-- ---- the graph

-- offsets of the nodes are those of the entries
behind-entries : (es : List GraphEntry) (ts : List ℕ) (offset : ℕ) → All (λ n. n.offset < offset) (nodes_seen 0 es ts) → (i : ℕ) → i < length es → (entry es i).offset < offset
behind-entries es ts offset behind i less =
    let here = behind i (node_seen i (entry es i) (targets_of es ts i)) (omega (arith, less, nodes-length 0 es ts)) in
    let same : (node (nodes_seen 0 es ts) i).offset ≡ (entry es i).offset = ap (λ n. n.offset) (node-at 0 es ts i i (omega arith) less) in
    omega (arith, same, here, ap (λ n. n.offset) (get_or_default (nodes_seen 0 es ts) i (node_seen i (entry es i) (targets_of es ts i)) no_node (omega (arith, less, nodes-length 0 es ts))))

-- the number of an entry that is added is not above its offset
pub number-fits : (es : List GraphEntry) (ts : List ℕ) (offset : ℕ) → AreEntries es (length ts) → All (λ n. n.offset < offset) (nodes_seen 0 es ts) → length es ≤ offset
number-fits [] ts offset entries behind = omega arith
number-fits (e ∷ es) ts offset entries behind = omega (arith, number-low (e ∷ es) entries.rising (length es) (omega arith), behind-entries (e ∷ es) ts offset behind (length es) (omega arith))

module _ (es : List GraphEntry) (ts us : List ℕ) (offset : ℕ) (parent : Option ℕ) (is_part : Bool) (entries : AreEntries es (length ts)) (behind : All (λ n. n.offset < offset) (nodes_seen 0 es ts)) (within : IfSome parent (λ p. p < length (nodes_seen 0 es ts))) (small : offset < 2 ^ 32) where
  pub parent-inside : (is_some parent && is_part) ≡ true → unwrap_or parent (length es) < length es
  parent-inside h = go parent within h
    where
      go : (o : Option ℕ) → IfSome o (λ p. p < length (nodes_seen 0 es ts)) → (is_some o && is_part) ≡ true → unwrap_or o (length es) < length es
      go None w h = absurd (cc)
      go (Some p) w h = omega (arith, w, nodes-length 0 es ts)

  parent-low : unwrap_or parent (length es) ≤ length es
  parent-low = go parent within
    where
      go : (o : Option ℕ) → IfSome o (λ p. p < length (nodes_seen 0 es ts)) → unwrap_or o (length es) ≤ length es
      go None w = omega arith
      go (Some p) w = omega (arith, w, nodes-length 0 es ts)

  at-push : IsPushed es (with_entry es offset (unwrap_or parent (length es)) (is_some parent && is_part) (length ts)) offset (unwrap_or parent (length es)) (length ts) (is_some parent && is_part)
  at-push = is-pushed es offset (unwrap_or parent (length es)) (length ts) (is_some parent && is_part) parent-inside

  pub entries-push : AreEntries (with_entry es offset (unwrap_or parent (length es)) (is_some parent && is_part) (length ts)) (length (ts ++ us))
  entries-push = record {
    few = omega (arith, at-push.longer, number-fits es ts offset entries behind, small);
    rising = rising-more es _ offset _ (length ts) _ at-push entries.rising (behind-entries es ts offset behind);
    linked = linked-more es _ offset _ (length ts) _ at-push entries.linked parent-inside parent-low;
    targets = has-more es _ offset _ (length ts) _ at-push (length ts) (length (ts ++ us)) entries.targets refl (omega (arith, length-append ts us));
  }

  -- the node of the new entry
  node-push : node_seen (length es) (next_entry es offset (unwrap_or parent (length es)) (is_some parent && is_part) (length ts)) us ≡ record { offset = offset; parent = parent; targets = us; is_part = is_some parent && is_part }
  node-push = ap (λ p. record { offset = offset; parent = p; targets = us; is_part = not ((if is_some parent && is_part then (entry es (unwrap_or parent (length es))).last_part else length es) == length es) }) (parent-is parent within) ∙ ap (λ b. record { offset = offset; parent = parent; targets = us; is_part = b }) (part-is (is_some parent && is_part) parent-inside)
    where
      parent-is : (o : Option ℕ) → IfSome o (λ p. p < length (nodes_seen 0 es ts)) → (if unwrap_or o (length es) == length es then None else Some (unwrap_or o (length es))) ≡ o
      parent-is None w = ap (λ b. cond {A = Option ℕ} b None (Some (length es))) (eq-eqb (length es) (length es) refl)
      parent-is (Some p) w = ap (λ b. cond {A = Option ℕ} b None (Some p)) (ne_eqb p (length es) (λ e. absurd (omega (arith, e, w, nodes-length 0 es ts))))

      part-is : (b : Bool) → (b ≡ true → unwrap_or parent (length es) < length es) → not ((if b then (entry es (unwrap_or parent (length es))).last_part else length es) == length es) ≡ b
      part-is true inside = not_from_false _ (ne_eqb _ (length es) (λ e. absurd (omega (arith, e, (entries.linked.lasts (unwrap_or parent (length es)) (inside refl)).high))))
      part-is false inside = not_from_true _ (eq-eqb (length es) (length es) refl)

  pub nodes-with : nodes_seen 0 (with_entry es offset (unwrap_or parent (length es)) (is_some parent && is_part) (length ts)) (ts ++ us) ≡ nodes_seen 0 es ts ++ record { offset = offset; parent = parent; targets = us; is_part = is_some parent && is_part } ∷ []
  nodes-with =
      linked (is_some parent && is_part)
      ∙ nodes-push 0 (length es) es (next_entry es offset (unwrap_or parent (length es)) (is_some parent && is_part) (length ts)) ts us entries.targets refl (omega arith)
      ∙ ap (λ n. nodes_seen 0 es ts ++ n ∷ []) node-push
    where
      linked : (b : Bool) → nodes_seen 0 (with_entry es offset (unwrap_or parent (length es)) b (length ts)) (ts ++ us) ≡ nodes_seen 0 (es ++ next_entry es offset (unwrap_or parent (length es)) b (length ts) ∷ []) (ts ++ us)
      linked true = nodes-last 0 (es ++ next_entry es offset (unwrap_or parent (length es)) true (length ts) ∷ []) (unwrap_or parent (length es)) (length es) (ts ++ us)
      linked false = refl

-- The same, from what the steps of the code say.
pub pushed-all : (es more : List GraphEntry) (ts all us : List ℕ) (nodes : List Node) (offset own number first size : ℕ) (parent : Option ℕ) (is_part linked : Bool) → nodes_seen 0 es ts ≡ nodes → AreEntries es (length ts) → All (λ n. n.offset < offset) nodes → IfSome parent (λ p. p < length nodes) → offset < 2 ^ 32
    → number ≡ length es → own ≡ unwrap_or parent number → linked ≡ (is_some parent && is_part) → first ≡ size → size ≡ length ts → more ≡ with_entry es offset own linked first → all ≡ ts ++ us
    → AreEntries more (length all) × (nodes_seen 0 more all ≡ nodes ++ record { offset = offset; parent = parent; targets = us; is_part = is_some parent && is_part } ∷ [])
pushed-all es more ts all us nodes offset own number first size parent is_part linked view entries behind within small counted own_is linked_is first_is size_is more_is all_is =
    subst (λ xs. AreEntries xs (length all) × (nodes_seen 0 xs all ≡ nodes ++ new ∷ [])) (sym made)
    (subst (λ us. AreEntries made_of (length us) × (nodes_seen 0 made_of us ≡ nodes ++ new ∷ [])) (sym all_is)
    (entries-push es ts us offset parent is_part entries before inside small, nodes-with es ts us offset parent is_part entries before inside small ∙ ap (λ ns. ns ++ new ∷ []) view))
  where
    new : Node
    new = record { offset = offset; parent = parent; targets = us; is_part = is_some parent && is_part }

    before : All (λ n. n.offset < offset) (nodes_seen 0 es ts)
    before = subst (All (λ n. n.offset < offset)) (sym view) behind

    inside : IfSome parent (λ p. p < length (nodes_seen 0 es ts))
    inside = subst (λ ns. IfSome parent (λ p. p < length ns)) (sym view) within

    made_of : List GraphEntry
    made_of = with_entry es offset (unwrap_or parent (length es)) (is_some parent && is_part) (length ts)

    made : more ≡ with_entry es offset (unwrap_or parent (length es)) (is_some parent && is_part) (length ts)
    made = more_is ∙ ap (λ p. with_entry es offset p linked first) (own_is ∙ ap (unwrap_or parent) counted) ∙ ap (λ b. with_entry es offset (unwrap_or parent (length es)) b first) linked_is ∙ ap (with_entry es offset (unwrap_or parent (length es)) (is_some parent && is_part)) (first_is ∙ size_is)

pub pushed-parent : (es : List GraphEntry) (ts : List ℕ) (nodes : List Node) (own number : ℕ) (parent : Option ℕ) (is_part linked : Bool) → nodes_seen 0 es ts ≡ nodes → IfSome parent (λ p. p < length nodes) → number ≡ length es → own ≡ unwrap_or parent number → linked ≡ (is_some parent && is_part) → linked ≡ true → own < length es
pushed-parent es ts nodes own number parent is_part linked view within counted own_is linked_is h = go parent within (own_is ∙ ap (unwrap_or parent) counted) (sym linked_is ∙ h)
  where
    go : (o : Option ℕ) → IfSome o (λ p. p < length nodes) → own ≡ unwrap_or o (length es) → (is_some o && is_part) ≡ true → own < length es
    go None w e h = absurd (cc)
    go (Some p) w e h = omega (arith, w, e, nodes-length 0 es ts, ap length view)
