-- The numbers that are marked for an entry are those of the entries that it keeps.
use Rattle.std.proofs.Common.{◌≡◌, ℕ, zero, suc, ◌+◌, ◌<◌, ◌⊎◌, List, [], ◌∷◌, length, refl, ap, sym, subst, ◌∙◌, inl, inr, arith, Bool, true, false, cond, Some, None}
use Rattle.std.specs.Prelude.{◌==◌, ◌&&◌, ◌||◌, not, if◌then◌else◌}
use Rattle.std.specs.List.{list_any, filter_map}
use Rattle.std.proofs.lemmas.Bool.{eqb-true, eqb-false, eq-eqb, ne_eqb, and_parts, and_from, or_cases, or_left, or_right, not-true, not_from_false, cases_Bool, cases_order}
use Rattle.dwc_kept.specs.declared.graph_entry.GraphEntry.{GraphEntry}
use Rattle.dwc_kept.specs.EntryGraphs.{Node, node, is_number, keeps_number}
use Rattle.dwc_kept.specs.GraphEntries.{entry, targets_of, node_seen, nodes_seen, is_part_number, AreEntries, number_at, parts_below, kept_numbers}
use Rattle.dwc_base.proofs.InLists.{IsIn, any-in, in-any, in-append, append-left, append-right, in-filter_map, filter_map-in}
use Rattle.dwc_kept.proofs.NumberLaws.{number-found, number-some}

pub nodes-length : (number : ℕ) (es : List GraphEntry) (ts : List ℕ) → length (nodes_seen number es ts) ≡ length es
nodes-length number [] ts = refl
nodes-length number (e ∷ es) ts = ap suc (nodes-length (suc number) es ts)

-- the node of an entry
pub node-at : (number : ℕ) (es : List GraphEntry) (ts : List ℕ) (i j : ℕ) → j ≡ number + i → i < length es → node (nodes_seen number es ts) i ≡ node_seen j (entry es i) (targets_of es ts i)
node-at number [] ts i j e less = absurd (omega (arith, less))
node-at number (e ∷ es) ts zero j is less = let same : number ≡ j = omega (arith, is) in ap (λ k. node_seen k e (targets_of (e ∷ es) ts 0)) same
node-at number (e ∷ es) ts (suc i) j is less = node-at (suc number) es ts i j (omega (arith, is)) (omega (arith, less))

-- what is kept, by the two nodes
keeps_nodes : ℕ → ℕ → Node → Node → Bool
keeps_nodes i j a b = is_number j a.parent || list_any (λ offset. offset == b.offset) a.targets || (is_number i b.parent && b.is_part)

keeps-nodes : (es : List GraphEntry) (ts : List ℕ) (i j : ℕ) → i < length es → j < length es → keeps_number (nodes_seen 0 es ts) i j ≡ keeps_nodes i j (node_seen i (entry es i) (targets_of es ts i)) (node_seen j (entry es j) (targets_of es ts j))
unfolding keeps_nodes
keeps-nodes es ts i j a b =
    ap (λ n. is_number j n.parent || list_any (λ offset. offset == (node (nodes_seen 0 es ts) j).offset) n.targets || (is_number i (node (nodes_seen 0 es ts) j).parent && (node (nodes_seen 0 es ts) j).is_part)) (node-at 0 es ts i i (omega arith) a)
    ∙ ap (keeps_nodes i j (node_seen i (entry es i) (targets_of es ts i))) (node-at 0 es ts j j (omega arith) b)

-- the parts below a number
module _ (es : List GraphEntry) (p : ℕ) where
  pub in-parts : (b c : ℕ) → IsIn c (parts_below es p b) → (c < b) × (is_part_number es p c ≡ true)
  in-parts zero c i = absurd i
  in-parts (suc b) c i = go (is_part_number es p b) refl i (λ j. in-parts b c j)
    where
      go : (t : Bool) → is_part_number es p b ≡ t → IsIn c (cond t (b ∷ parts_below es p b) (parts_below es p b)) → (IsIn c (parts_below es p b) → (c < b) × (is_part_number es p c ≡ true)) → (c < suc b) × (is_part_number es p c ≡ true)
      go true is (inl e) others = (omega (arith, e), ap (is_part_number es p) e ∙ is)
      go true is (inr j) others = let found = others j in (omega (arith, found.0), found.1)
      go false is j others = let found = others j in (omega (arith, found.0), found.1)

  pub parts-in : (b c : ℕ) → c < b → is_part_number es p c ≡ true → IsIn c (parts_below es p b)
  parts-in zero c less is = absurd (omega (arith, less))
  parts-in (suc b) c less is = go (cases_order c b) (λ l. parts-in b c l is)
    where
      into : (t : Bool) → IsIn c (parts_below es p b) → IsIn c (cond t (b ∷ parts_below es p b) (parts_below es p b))
      into true i = inr i
      into false i = i

      go : (c ≡ b) ⊎ ((c < b) ⊎ (b < c)) → (c < b → IsIn c (parts_below es p b)) → IsIn c (parts_below es p (suc b))
      go (inl e) others = let here : is_part_number es p b ≡ true = ap (is_part_number es p) (sym e) ∙ is in subst (λ t. IsIn c (cond t (b ∷ parts_below es p b) (parts_below es p b))) (sym here) (inl e)
      go (inr (inl l)) others = into (is_part_number es p b) (others l)
      go (inr (inr above)) others = absurd (omega (arith, less, above))

-- ---- what is marked and what is kept

is_number-some : (i j : ℕ) → is_number i (Some j) ≡ true → j ≡ i
is_number-some i j h = eqb-true j i h

module _ (es : List GraphEntry) (ts : List ℕ) (entries : AreEntries es (length ts)) where
  seen : ℕ → Node
  seen i = node_seen i (entry es i) (targets_of es ts i)

  -- a part, by the nodes
  part-node : (i j : ℕ) → (is_number i (seen j).parent && (seen j).is_part) ≡ true → is_part_number es i j ≡ true
  unfolding seen
  part-node i j h = go (cases_Bool ((entry es j).parent == j))
    where
      parts : (is_number i (if (entry es j).parent == j then None else Some (entry es j).parent) ≡ true) × (not ((entry es j).previous_part == j) ≡ true)
      parts = and_parts _ _ h

      go : (((entry es j).parent == j) ≡ true) ⊎ (((entry es j).parent == j) ≡ false) → is_part_number es i j ≡ true
      go (inl t) = absurd (none (ap (λ b. is_number i (cond b None (Some (entry es j).parent))) (sym t) ∙ parts.0))
        where
          none : false ≡ true → ⊥
          none e = cc
      go (inr t) =
          let here : (entry es j).parent ≡ i = eqb-true (entry es j).parent i (ap (λ b. is_number i (cond b None (Some (entry es j).parent))) (sym t) ∙ parts.0) in
          and_from _ _ (eq-eqb (entry es j).parent i here) (and_from _ _ (not_from_false _ (ne_eqb i j (λ e. eqb-false (entry es j).parent j t (here ∙ e)))) parts.1)

  node-part : (i j : ℕ) → is_part_number es i j ≡ true → (is_number i (seen j).parent && (seen j).is_part) ≡ true
  unfolding seen
  node-part i j h = and_from _ _ (ap (λ b. is_number i (cond b None (Some (entry es j).parent))) apart ∙ first.0) second.1
    where
      first : (((entry es j).parent == i) ≡ true) × ((not (i == j) && not ((entry es j).previous_part == j)) ≡ true)
      first = and_parts _ _ h

      second : (not (i == j) ≡ true) × (not ((entry es j).previous_part == j) ≡ true)
      second = and_parts _ _ first.1

      apart : ((entry es j).parent == j) ≡ false
      apart = ne_eqb (entry es j).parent j (λ e. eqb-false i j (not-true _ second.0) (sym (eqb-true (entry es j).parent i first.0) ∙ e))

  -- what an entry keeps is marked for it
  pub keeps-marked : (i j : ℕ) → i < length es → j < length es → keeps_number (nodes_seen 0 es ts) i j ≡ true → IsIn j (kept_numbers es ts i)
  unfolding seen keeps_nodes
  keeps-marked i j a b h = go (or_cases _ _ (sym (keeps-nodes es ts i j a b) ∙ h))
    where
      named : list_any (λ offset. offset == (entry es j).offset) (targets_of es ts i) ≡ true → IsIn j (filter_map (number_at es) (targets_of es ts i))
      named t =
          let found = any-in (λ offset. offset == (entry es j).offset) (targets_of es ts i) t in
          filter_map-in (number_at es) (targets_of es ts i) found.0 j found.1 (number-some es entries.rising found.0 j b (sym (eqb-true found.0 _ found.2)))

      parent : (t : Bool) → ((entry es i).parent == i) ≡ t → is_number j (cond t None (Some (entry es i).parent)) ≡ true → j ≡ (entry es i).parent
      parent true is t = absurd (cc)
      parent false is t = sym (eqb-true (entry es i).parent j t)

      front : (is_number j (seen i).parent ≡ true) ⊎ (list_any (λ offset. offset == (entry es j).offset) (targets_of es ts i) ≡ true) → IsIn j (kept_numbers es ts i)
      front (inl t) = inl (parent ((entry es i).parent == i) refl t)
      front (inr t) = inr (append-left _ _ j (named t))

      go : ((is_number j (seen i).parent || list_any (λ offset. offset == (entry es j).offset) (targets_of es ts i)) ≡ true) ⊎ ((is_number i (seen j).parent && (seen j).is_part) ≡ true) → IsIn j (kept_numbers es ts i)
      go (inl t) = front (or_cases _ _ t)
      go (inr t) = inr (append-right (filter_map (number_at es) (targets_of es ts i)) _ j (parts-in es i (length es) j b (part-node i j t)))

  -- what is marked for an entry is that entry, or kept by it
  pub marked-keeps : (i j : ℕ) → i < length es → IsIn j (kept_numbers es ts i) → (j < length es) × ((j ≡ i) ⊎ (keeps_number (nodes_seen 0 es ts) i j ≡ true))
  unfolding seen keeps_nodes
  marked-keeps i j a (inl e) =
      let low = entries.linked.parents i a in
      let b : j < length es = omega (arith, e, low, a) in
      (b, go b (cases_Bool ((entry es i).parent == i)))
    where
      go : j < length es → (((entry es i).parent == i) ≡ true) ⊎ (((entry es i).parent == i) ≡ false) → (j ≡ i) ⊎ (keeps_number (nodes_seen 0 es ts) i j ≡ true)
      go b (inl t) = inl (e ∙ eqb-true (entry es i).parent i t)
      go b (inr t) = inr (keeps-nodes es ts i j a b ∙ or_left _ _ (or_left _ _ (ap (λ s. is_number j (cond s None (Some (entry es i).parent))) t ∙ eq-eqb (entry es i).parent j (sym e))))
  marked-keeps i j a (inr k) = go (in-append _ _ j k)
    where
      go : IsIn j (filter_map (number_at es) (targets_of es ts i)) ⊎ IsIn j (parts_below es i (length es)) → (j < length es) × ((j ≡ i) ⊎ (keeps_number (nodes_seen 0 es ts) i j ≡ true))
      go (inl k) =
          let found = in-filter_map (number_at es) (targets_of es ts i) j k in
          let number = number-found es found.0 j found.2 in
          (number.0, inr (keeps-nodes es ts i j a number.0 ∙ or_left _ _ (or_right (is_number j (seen i).parent) _ (in-any (λ offset. offset == (entry es j).offset) (targets_of es ts i) found.0 found.1 (eq-eqb found.0 _ (sym number.1))))))
      go (inr k) =
          let found = in-parts es i (length es) j k in
          (found.0, inr (keeps-nodes es ts i j a found.0 ∙ or_right _ _ (node-part i j found.1)))
