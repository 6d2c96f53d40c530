-- A module's synthetic unit, as it is added, says its tree.
use Rattle.std.proofs.Common.{◌≡◌, ℕ, zero, suc, ◌+◌, ◌<◌, ◌≤◌, List, [], ◌∷◌, length, map, get_or, refl, ap, subst, ◌∙◌, arith, lit<, lit≤, Bool, true, false, cond, Option, Some, None, All}
use Rattle.std.specs.Prelude.{nat_le, nat_lt, option_map, option_and_then}
use Rattle.std.specs.Option.{option_or}
use Rattle.std.specs.List.{list_all}
use Rattle.std.proofs.lemmas.Bool.{and_parts, leb-true, ltb-true}
use Rattle.std.proofs.lemmas.List.Elements.{All-nil, All-cons}
use Rattle.dwc_base.specs.declared.records.Encoding.{Encoding}
use Rattle.dwc_rules.proofs.ForestLaws.{Each, Anywhere, SaysNoPlace, UnitSaysNoPlace}
use Rattle.dwc_carried.proofs.ForestTargets.{synthetic-no-place}
use Rattle.dwc_rules.specs.Drafts.{Goal, made_of, synthetic_entry, DraftValue, done, goes_to, Draft}
use Rattle.dwc_rules.specs.DraftForests.{place_of_goal}
use Rattle.dwc_kept.proofs.NumberedGoals.{synthetic-apart}
use Rattle.dwc_rules.specs.Carried.{synthetic_unit}
use Rattle.dwc_native.specs.Compiled.{Memory, no_memory, defined, imported}
use Rattle.dwc_rules.specs.SyntheticUnit as Synthetic
use Rattle.dwc_unit.specs.AddedInOrder.{IsParent, IsInOrder, IsNumberedByPlaces, tree_meant}
use Rattle.dwc_unit.specs.Renumbered.{renumbered_entry}
use Rattle.dwc_unit.proofs.AddedInOrderUnits.{numbered-leads, numbered-place}
use Rattle.dwc_carry.proofs.SettledLaws.{IsPutAt, unit-put}
use Rattle.dwc_unit.specs.GivenUnits.{Addition, IsWritable, ordered}
use Rattle.dwc_unit.specs.UsedTexts.{text_numbered, texts_of_attributes}
use Rattle.dwc_carry.specs.declared.synthetic_entries.SyntheticTexts.{SyntheticTexts}
use Rattle.dwc_carry.specs.MadeUnits.{LeadsTo, IsMadeOf}
use Rattle.dwc_carry.specs.SyntheticAdditions.{synthetic_additions, synthetic_given, synthetic_numbers, synthetic_texts}
use Rattle.dwc_carry.specs.SyntheticUnits.{synthetic_tree}

-- ---- file order

-- the depths of the entries below the root
abbrev depths_below : Memory → List ℕ
depths_below (defined offset) = 1 ∷ 1 ∷ 1 ∷ 2 ∷ 2 ∷ 3 ∷ 1 ∷ 1 ∷ []
depths_below no_memory = 1 ∷ 1 ∷ 1 ∷ 2 ∷ 3 ∷ 1 ∷ 1 ∷ []
depths_below (imported definition base) = 1 ∷ 1 ∷ 1 ∷ 2 ∷ 3 ∷ 1 ∷ 1 ∷ []

at-least : (ds : List ℕ) → list_all (λ d. nat_le 1 d) ds ≡ true → (j : ℕ) → j < length ds → 1 ≤ get_or ds j 0
at-least [] all j within = absurd (omega (arith, within))
at-least (d ∷ ds) all zero within = leb-true 1 d (and_parts (nat_le 1 d) (list_all (λ d. nat_le 1 d) ds) all).0
at-least (d ∷ ds) all (suc j) within = at-least ds (and_parts (nat_le 1 d) (list_all (λ d. nat_le 1 d) ds) all).1 j (omega (arith, within))

-- an entry of depth 1 is a child of the root
of-root : (ds : List ℕ) (place : ℕ) → list_all (λ d. nat_le 1 d) ds ≡ true → place < length ds → get_or ds place 0 ≡ 1 → IsParent (0 ∷ ds) 0 (suc place)
of-root ds place all within is = record { before = omega arith; depth = is; between = between }
  where
    between : (j : ℕ) → 0 < j → j < suc place → get_or ds place 0 ≤ get_or (0 ∷ ds) j 0
    between zero above low = absurd (omega (arith, above))
    between (suc j) above low = omega (arith, is, at-least ds all j (omega (arith, low, within)))

-- an entry behind its parent, at once
of-last : (ds : List ℕ) (place : ℕ) → get_or ds (suc place) 0 ≡ suc (get_or ds place 0) → IsParent ds place (suc place)
of-last ds place is = record { before = omega arith; depth = is; between = λ j above low. absurd (omega (arith, above, low)) }

-- without a memory of its own
plain-parents : (t : SyntheticTexts) (place : ℕ) → 0 < place → place < 8 → IsParent (0 ∷ depths_below no_memory) (get_or (synthetic_additions t no_memory) place (record { parent = 0; tag = 0; attributes = [] })).parent place
plain-parents t zero above within = absurd (omega (arith, above))
plain-parents t (suc zero) above within = of-root (depths_below no_memory) 0 refl (lit< tt) refl
plain-parents t (suc (suc zero)) above within = of-root (depths_below no_memory) 1 refl (lit< tt) refl
plain-parents t (suc (suc (suc zero))) above within = of-root (depths_below no_memory) 2 refl (lit< tt) refl
plain-parents t (suc (suc (suc (suc zero)))) above within = of-last (0 ∷ depths_below no_memory) 3 refl
plain-parents t (suc (suc (suc (suc (suc zero))))) above within = of-last (0 ∷ depths_below no_memory) 4 refl
plain-parents t (suc (suc (suc (suc (suc (suc zero)))))) above within = of-root (depths_below no_memory) 5 refl (lit< tt) refl
plain-parents t (suc (suc (suc (suc (suc (suc (suc zero))))))) above within = of-root (depths_below no_memory) 6 refl (lit< tt) refl
plain-parents t (suc (suc (suc (suc (suc (suc (suc (suc place)))))))) above within = absurd (omega (arith, within))

in-order : (encoding : Encoding) (t : SyntheticTexts) (m : Memory) → IsInOrder (0 ∷ depths_below m) (synthetic_given encoding t m)
in-order encoding t (defined offset) = record { counted = refl; some = lit< tt; root = refl; parents = parents }
  where
    parents : (place : ℕ) → 0 < place → place < 9 → IsParent (0 ∷ depths_below (defined offset)) (get_or (synthetic_additions t (defined offset)) place (record { parent = 0; tag = 0; attributes = [] })).parent place
    parents zero above within = absurd (omega (arith, above))
    parents (suc zero) above within = of-root (depths_below (defined offset)) 0 refl (lit< tt) refl
    parents (suc (suc zero)) above within = of-root (depths_below (defined offset)) 1 refl (lit< tt) refl
    parents (suc (suc (suc zero))) above within = of-root (depths_below (defined offset)) 2 refl (lit< tt) refl
    parents (suc (suc (suc (suc zero)))) above within = of-last (0 ∷ depths_below (defined offset)) 3 refl
    parents (suc (suc (suc (suc (suc zero))))) above within = record { before = lit< tt; depth = refl; between = between }
      where
        between : (j : ℕ) → 3 < j → j < 5 → 2 ≤ get_or (0 ∷ depths_below (defined offset)) j 0
        between zero above low = absurd (omega (arith, above))
        between (suc zero) above low = absurd (omega (arith, above))
        between (suc (suc zero)) above low = absurd (omega (arith, above))
        between (suc (suc (suc zero))) above low = absurd (omega (arith, above))
        between (suc (suc (suc (suc zero)))) above low = lit≤ tt
        between (suc (suc (suc (suc (suc j))))) above low = absurd (omega (arith, low))
    parents (suc (suc (suc (suc (suc (suc zero)))))) above within = of-last (0 ∷ depths_below (defined offset)) 5 refl
    parents (suc (suc (suc (suc (suc (suc (suc zero))))))) above within = of-root (depths_below (defined offset)) 6 refl (lit< tt) refl
    parents (suc (suc (suc (suc (suc (suc (suc (suc zero)))))))) above within = of-root (depths_below (defined offset)) 7 refl (lit< tt) refl
    parents (suc (suc (suc (suc (suc (suc (suc (suc (suc place))))))))) above within = absurd (omega (arith, within))
in-order encoding t no_memory = record { counted = refl; some = lit< tt; root = refl; parents = plain-parents t }
in-order encoding t (imported definition base) = record { counted = refl; some = lit< tt; root = refl; parents = plain-parents t }

-- the number of each entry is its place
pub synthetic-numbered : (encoding : Encoding) (t : SyntheticTexts) (m : Memory) → IsNumberedByPlaces (synthetic_given encoding t m)
synthetic-numbered encoding t (defined offset) = refl
synthetic-numbered encoding t no_memory = refl
synthetic-numbered encoding t (imported definition base) = refl

synthetic-length : (encoding : Encoding) (t : SyntheticTexts) (set_memory : List ℕ) (m : Memory) → length (Synthetic.synthetic_unit set_memory m) ≡ length (synthetic_given encoding t m).additions
unfolding Synthetic.synthetic_unit
synthetic-length encoding t set_memory (defined offset) = refl
synthetic-length encoding t set_memory no_memory = refl
synthetic-length encoding t set_memory (imported definition base) = refl

-- ---- numbers that are put to places

says-all : (Has : Goal → Type 0) → ((g : Goal) → Has g) → (ds : List Draft) → UnitSaysNoPlace Anywhere ds → UnitSaysNoPlace Has ds
says-all Has has [] h = tt
says-all Has has (d ∷ ds) h = (attributes d.attributes h.0, says-all Has has ds h.1)
  where
    value : (name : ℕ) (v : DraftValue) → SaysNoPlace Anywhere (name, v) → SaysNoPlace Has (name, v)
    value name (done v) k = k
    value name (goes_to g) k = has g

    attributes : (xs : List (ℕ × DraftValue)) → Each (SaysNoPlace Anywhere) xs → Each (SaysNoPlace Has) xs
    attributes [] k = tt
    attributes (x ∷ xs) k = (value x.0 x.1 k.0, attributes xs k.1)

module _ (number : ℕ) (set_memory : List ℕ) (m : Memory) (at : ℕ → ℕ → Option (ℕ × ℕ)) (leads : (place : ℕ) → place < length (Synthetic.synthetic_unit set_memory m) → at number place ≡ Some (number, place)) where
  abbrev places : Goal → Option (ℕ × ℕ)
  places = place_of_goal number (record { synthetic = Some (Synthetic.synthetic_unit set_memory m); carried = [] })

  goal-put : (g : Goal) → IsPutAt at places places g
  goal-put (made_of offset role) = (refl, nowhere (places (made_of offset role)) (ap (λ (o : Option ℕ). option_or (option_map (λ place. (number, place)) o) None) (synthetic-apart offset role set_memory m)))
    where
      nowhere : (o : Option (ℕ × ℕ)) → o ≡ None → option_and_then (λ p. at p.0 p.1) o ≡ o
      nowhere None e = refl
      nowhere (Some p) e = absurd (cc)
  goal-put (synthetic_entry place) = (refl, there (nat_lt place (length (Synthetic.synthetic_unit set_memory m))) refl)
    where
      there : (b : Bool) → nat_lt place (length (Synthetic.synthetic_unit set_memory m)) ≡ b → option_and_then (λ p. at p.0 p.1) (cond {A = Option (ℕ × ℕ)} b (Some (number, place)) None) ≡ cond {A = Option (ℕ × ℕ)} b (Some (number, place)) None
      there true is = leads place (ltb-true place (length (Synthetic.synthetic_unit set_memory m)) is)
      there false is = refl

  -- The tree of the unit says places already.
  synthetic-put : map (renumbered_entry at) (synthetic_tree number set_memory m) ≡ synthetic_tree number set_memory m
  synthetic-put = unit-put at places places (Synthetic.synthetic_unit set_memory m) (says-all (IsPutAt at places places) goal-put (Synthetic.synthetic_unit set_memory m) (synthetic-no-place set_memory m))

-- ---- what it says

module _ (encoding : Encoding) (number : ℕ) (table : List (List ℕ)) (t : SyntheticTexts) (set_memory : List ℕ) (known : map (text_numbered table) (synthetic_numbers t) ≡ synthetic_texts set_memory) where
  -- the text of a place
  text-at : (k : ℕ) → get_or (map (text_numbered table) (synthetic_numbers t)) k [] ≡ get_or (synthetic_texts set_memory) k []
  text-at k = ap (λ ts. get_or ts k []) known

  says : (m : Memory) → tree_meant table number (0 ∷ depths_below m) (synthetic_additions t m) ≡ synthetic_tree number set_memory m
  unfolding Synthetic.synthetic_unit
  says (defined offset) = rw (text-at 0, text-at 1, text-at 2, text-at 3, text-at 4, text-at 5, text-at 6, text-at 7, text-at 8, text-at 9) refl
  says no_memory = rw (text-at 0, text-at 1, text-at 2, text-at 3, text-at 4, text-at 6, text-at 7, text-at 8, text-at 9) refl
  says (imported definition base) = rw (text-at 0, text-at 1, text-at 2, text-at 3, text-at 4, text-at 6, text-at 7, text-at 8, text-at 9) refl

  module _ (inside : All (λ n. n < length table) (synthetic_numbers t)) where
    abbrev In : ℕ → Type 0
    In n = n < length table

    abbrev HasTexts : Addition → Type 0
    HasTexts e = All In (texts_of_attributes e.attributes)

    all-in : (ns : List ℕ) → Each In ns → All In ns
    all-in [] h = All-nil In
    all-in (n ∷ ns) h = All-cons In n ns h.0 (all-in ns h.1)

    all-texts : (es : List Addition) → Each (λ (e : Addition). Each In (texts_of_attributes e.attributes)) es → All HasTexts es
    all-texts [] h = All-nil HasTexts
    all-texts (e ∷ es) h = All-cons HasTexts e es (all-in (texts_of_attributes e.attributes) h.0) (all-texts es h.1)

    -- the number at a place
    at : (k : ℕ) → k < 10 → In (get_or (synthetic_numbers t) k 0)
    at k less = inside k 0 less

    plain-texts : All HasTexts (synthetic_additions t no_memory)
    plain-texts =
        all-texts (synthetic_additions t no_memory)
        ((at 0 (lit< tt), (at 1 (lit< tt), tt)), ((at 2 (lit< tt), tt), ((at 3 (lit< tt), tt), ((at 4 (lit< tt), tt), ((at 6 (lit< tt), (at 7 (lit< tt), tt)), (tt, ((at 8 (lit< tt), tt), ((at 9 (lit< tt), tt), tt))))))))

    texts : (m : Memory) → All HasTexts (synthetic_additions t m)
    texts (defined offset) =
        all-texts (synthetic_additions t (defined offset))
        ((at 0 (lit< tt), (at 1 (lit< tt), tt)), ((at 2 (lit< tt), tt), ((at 3 (lit< tt), tt), ((at 4 (lit< tt), tt), ((at 5 (lit< tt), tt), ((at 6 (lit< tt), (at 7 (lit< tt), tt)), (tt, ((at 8 (lit< tt), tt), ((at 9 (lit< tt), tt), tt)))))))))
    texts no_memory = plain-texts
    texts (imported definition base) = plain-texts

    writable : (m : Memory) → IsWritable encoding.version encoding.address_size (ordered (synthetic_given encoding t m))
    writable (defined offset) = record { version = refl; size = refl; ended = refl; named = refl }
    writable no_memory = record { version = refl; size = refl; ended = refl; named = refl }
    writable (imported definition base) = record { version = refl; size = refl; ended = refl; named = refl }

    -- The unit is made as it is wanted.
    pub synthetic-made : (m : Memory) (at : ℕ → ℕ → Option (ℕ × ℕ)) → LeadsTo at number (synthetic_given encoding t m ∷ []) → IsMadeOf at encoding table number synthetic_unit (synthetic_tree number set_memory m) (synthetic_given encoding t m)
    synthetic-made m at leads = record {
      has_lines = refl;
      depths = 0 ∷ depths_below m;
      order = in-order encoding t m;
      leads = numbered-leads (synthetic_given encoding t m) (synthetic-numbered encoding t m);
      says = ap (map (renumbered_entry at)) (says m) ∙ synthetic-put number set_memory m at there;
      texts = texts m;
      writable = writable m;
    }
      where
        there : (place : ℕ) → place < length (Synthetic.synthetic_unit set_memory m) → at number place ≡ Some (number, place)
        there place within =
            let counted : number + 0 ≡ number = omega arith in
            subst (λ k. at k place ≡ Some (k, place)) counted
            (leads 0 (synthetic_given encoding t m) refl place place (numbered-place (synthetic_given encoding t m) place (synthetic-numbered encoding t m) (omega (arith, within, synthetic-length encoding t set_memory m))))
