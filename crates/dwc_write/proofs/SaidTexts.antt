-- The texts that given units say are those of the numbers that they name, each once: `strings-said`.
use Rattle.std.proofs.Common.{◌≡◌, ◌⊎◌, inl, inr, ℕ, suc, ◌<◌, refl, sym, ap, ◌∙◌, arith, List, [], ◌∷◌, ◌++◌, fold, length, map, Bool, true, false, ltb, Option, Some, None}
use Rattle.std.specs.Prelude.{◌==◌, ◌||◌, if◌then◌else◌}
use Rattle.std.specs.List.{All, filter_map, flat_map, list_any}
use Rattle.std.specs.Str.{bytes_eq}
use Rattle.std.specs.Cmp.Lexicographic.{bytes_decides}
use Rattle.std.proofs.lemmas.Bool.{eq-eqb, eqb-true, ltb-false, ltb-true}
use Rattle.std.proofs.lemmas.List.{map-append}
use Rattle.std.proofs.lemmas.List.Elements.{All-head, All-nil, All-push, All-tail, filter_map-append}
use Rattle.std.proofs.lemmas.Slice.Eq.{bytes_eq-Decides}
use Rattle.dwc_dwarf.specs.Trees.{TreeValue}
use Rattle.dwc_dwarf.specs.TreeLaws.{distinct_texts, text_said, texts_ended, values_of, with_new_text}
use Rattle.dwc_output.specs.TreeReading.{entry_or_nothing}
use Rattle.dwc_output.specs.Versions.{is_old}
use Rattle.dwc_output.specs.WidestTrees.{widest_of_trees}
use Rattle.dwc_unit.specs.declared.attributes.Attribute.{Attribute}
use Rattle.dwc_unit.specs.declared.attributes.AttributeValue.{AttributeValue}
use Rattle.dwc_unit.specs.declared.attributes.AttributeValue.TheVariants.{Address, Constant, Flag, Block, Exprloc, StringRef, LineProgramRef, RangeListRef, LocationListRef, UnitRef, DebugInfoRef}
use Rattle.dwc_unit.specs.declared.attributes.DebugInfoRef.TheVariants.{Entry as entry_of}
use Rattle.dwc_unit.specs.GivenUnits.{GivenEntry, OrderedUnit, version_of}
use Rattle.dwc_unit.specs.GivenTrees.{given_said, attribute_said, tree_entry, trees_from, given_trees}
use Rattle.dwc_unit.specs.TextTables.{AreTexts}
use Rattle.dwc_unit.specs.UsedTexts.{HaveTexts, strings_bytes, text_numbered, text_of_value, texts_named, texts_of_attributes, texts_of_entries, with_number, with_numbers}
use Rattle.dwc_section.specs.declared.error.WriteError.{WriteError}
use Rattle.dwc_write.specs.TextViews.{IsTextRefusal}
use Rattle.dwc_unit.specs.WidestGiven.{IsWideRefusal, widest_new, widest_said}
use Rattle.dwc_base.specs.declared.section_name.SectionName.TheVariants.{Str}
use Rattle.dwc_section.specs.Writers.{most_bytes}
use Rattle.dwc_section.proofs.RefusalLaws.{past-among, size-refusal}

nothing-said : (o : Option (ℕ × ℕ)) (rest : List TreeValue) → filter_map text_said (entry_or_nothing o ∷ rest) ≡ filter_map text_said rest
nothing-said None rest = refl
nothing-said (Some p) rest = refl

module _ (texts : List (List ℕ)) (us : List OrderedUnit) where
  abbrev values : ℕ → OrderedUnit → List Attribute → List TreeValue
  values number u xs = map (λ a. a.1) (map (attribute_said texts us number u) xs)

  attributes-said : (number : ℕ) (u : OrderedUnit) (xs : List Attribute) → filter_map text_said (values number u xs) ≡ map (text_numbered texts) (texts_of_attributes xs)
  attributes-said number u [] = refl
  attributes-said number u (x ∷ xs) = go x.value (attributes-said number u xs)
    where
      go : (v : AttributeValue) → filter_map text_said (values number u xs) ≡ map (text_numbered texts) (texts_of_attributes xs) → filter_map text_said (given_said texts us number u v ∷ values number u xs) ≡ map (text_numbered texts) (text_of_value v ++ texts_of_attributes xs)
      go (Address a) h = h
      go (Constant form bits) h = h
      go (Flag b) h = h
      go (Block bytes) h = h
      go (Exprloc e) h = h
      go (StringRef id) h = ap (λ ts. text_numbered texts id.index ∷ ts) h
      go LineProgramRef h = h
      go (RangeListRef list) h = h
      go (LocationListRef list) h = h
      go (UnitRef id) h = nothing-said _ (values number u xs) ∙ h
      go (DebugInfoRef (entry_of unit id)) h = nothing-said _ (values number u xs) ∙ h

  entries-said : (number : ℕ) (u : OrderedUnit) (es : List GivenEntry) → filter_map text_said (values_of (map (tree_entry texts us number u) es)) ≡ map (text_numbered texts) (texts_of_entries es)
  entries-said number u [] = refl
  entries-said number u (e ∷ es) =
      let rest = values_of (map (tree_entry texts us number u) es) in
      filter_map-append text_said (values number u e.attributes) rest ∙ ap (λ ts. ts ++ filter_map text_said rest) (attributes-said number u e.attributes)
      ∙ ap (λ ts. map (text_numbered texts) (texts_of_attributes e.attributes) ++ ts) (entries-said number u es) ∙ sym (map-append (text_numbered texts) (texts_of_attributes e.attributes) (texts_of_entries es))

  units-said : (number : ℕ) (vs : List OrderedUnit) → flat_map (λ t. filter_map text_said (values_of t)) (trees_from texts us number vs) ≡ map (text_numbered texts) (texts_named vs)
  units-said number [] = refl
  units-said number (v ∷ vs) =
      ap (λ ts. ts ++ flat_map (λ t. filter_map text_said (values_of t)) (trees_from texts us (suc number) vs)) (entries-said number v v.entries)
      ∙ ap (λ ts. map (text_numbered texts) (texts_of_entries v.entries) ++ ts) (units-said (suc number) vs) ∙ sym (map-append (text_numbered texts) (texts_of_entries v.entries) (texts_named vs))

module _ (texts : List (List ℕ)) (table : AreTexts texts) where
  -- two texts are equal exactly where their numbers are
  pub number-same : (n k : ℕ) → n < length texts → k < length texts → text_numbered texts n ≡ text_numbered texts k → n ≡ k
  number-same n k here there same = by_order (trichotomy n k)
    where
      trichotomy : (a b : ℕ) → (a < b) ⊎ ((a ≡ b) ⊎ (b < a))
      trichotomy a b = go (ltb a b) refl (ltb b a) refl
        where
          go : (x : Bool) → ltb a b ≡ x → (y : Bool) → ltb b a ≡ y → (a < b) ⊎ ((a ≡ b) ⊎ (b < a))
          go true e y f = inl (ltb-true _ _ e)
          go false e true f = inr (inr (ltb-true _ _ f))
          go false e false f = inr (inl (omega (arith, ltb-false _ _ e, ltb-false _ _ f)))

      by_order : (n < k) ⊎ ((n ≡ k) ⊎ (k < n)) → n ≡ k
      by_order (inl less) = absurd (table.distinct n k [] less there same)
      by_order (inr (inl e)) = e
      by_order (inr (inr more)) = absurd (table.distinct k n [] more here (sym same))

  bools-same : (a b : Bool) → (a ≡ true → b ≡ true) → (b ≡ true → a ≡ true) → a ≡ b
  bools-same true true f g = refl
  bools-same true false f g = sym (f refl)
  bools-same false true f g = g refl
  bools-same false false f g = refl

  numbers-equal : (n k : ℕ) → n < length texts → k < length texts → bytes_eq (text_numbered texts n) (text_numbered texts k) ≡ (k == n)
  numbers-equal n k here there =
      bools-same (bytes_eq (text_numbered texts n) (text_numbered texts k)) (k == n)
      (λ e. eq-eqb k n (sym (number-same n k here there ((bytes_eq-Decides (text_numbered texts n) (text_numbered texts k)).0 e))))
      (λ e. ap (λ j. bytes_eq (text_numbered texts n) (text_numbered texts j)) (eqb-true k n e) ∙ (bytes_decides (text_numbered texts n) (text_numbered texts n)).1 refl)

  any-same : (n : ℕ) (before : List ℕ) → n < length texts → All (λ k. k < length texts) before → list_any (bytes_eq (text_numbered texts n)) (map (text_numbered texts) before) ≡ list_any (λ k. k == n) before
  any-same n [] here all = refl
  any-same n (k ∷ ks) here all =
      ap (λ b. b || list_any (bytes_eq (text_numbered texts n)) (map (text_numbered texts) ks)) (numbers-equal n k here (All-head (λ j. j < length texts) k ks all))
      ∙ ap (λ b. (k == n) || b) (any-same n ks here (All-tail (λ j. j < length texts) k ks all))

  step-same : (n : ℕ) (before : List ℕ) → n < length texts → All (λ k. k < length texts) before → with_new_text (map (text_numbered texts) before) (text_numbered texts n) ≡ map (text_numbered texts) (with_number before n)
  step-same n before here all = ap (λ b. if b then map (text_numbered texts) before else map (text_numbered texts) before ++ (text_numbered texts n ∷ [])) (any-same n before here all) ∙ go (list_any (λ k. k == n) before)
    where
      go : (b : Bool) → (if b then map (text_numbered texts) before else map (text_numbered texts) before ++ (text_numbered texts n ∷ [])) ≡ map (text_numbered texts) (if b then before else before ++ n ∷ [])
      go true = refl
      go false = sym (map-append (text_numbered texts) before (n ∷ []))

  known-more : (n : ℕ) (before : List ℕ) → n < length texts → All (λ k. k < length texts) before → All (λ k. k < length texts) (with_number before n)
  known-more n before here all = go (list_any (λ k. k == n) before)
    where
      go : (b : Bool) → All (λ k. k < length texts) (if b then before else before ++ n ∷ [])
      go true = all
      go false = All-push (λ k. k < length texts) before n all here

  numbers-said : (ns before : List ℕ) → All (λ k. k < length texts) before → All (λ k. k < length texts) ns → fold with_new_text (map (text_numbered texts) before) (map (text_numbered texts) ns) ≡ map (text_numbered texts) (with_numbers before ns)
  numbers-said [] before all known = refl
  numbers-said (n ∷ ns) before all known =
      let here = All-head (λ k. k < length texts) n ns known in
      ap (λ ts. fold with_new_text ts (map (text_numbered texts) ns)) (step-same n before here all) ∙ numbers-said ns (with_number before n) (known-more n before here all) (All-tail (λ k. k < length texts) n ns known)

  -- `.debug_str` holds the texts that the trees say, each once.
  pub strings-said : (us : List OrderedUnit) → HaveTexts texts us → texts_ended (distinct_texts (given_trees texts us)) ≡ strings_bytes texts us
  strings-said us known = ap texts_ended (ap (fold with_new_text []) (units-said texts us 0 us) ∙ numbers-said (texts_named us) [] (All-nil (λ k. k < length texts)) known)

-- texts take as much in both versions
texts-widest : (texts : List (List ℕ)) (us : List OrderedUnit) → widest_said Str texts us ≡ length (texts_ended (distinct_texts (given_trees texts us)))
texts-widest texts us = go (is_old (version_of us))
  where
    go : (old : Bool) → (if old then widest_of_trees Str (given_trees texts us) else widest_new Str (given_trees texts us)) ≡ length (texts_ended (distinct_texts (given_trees texts us)))
    go true = refl
    go false = refl

-- A refusal of texts is one for their widest size.
pub texts-widely : (texts : List (List ℕ)) (us : List OrderedUnit) (e : WriteError) → AreTexts texts → HaveTexts texts us → IsTextRefusal e (length (strings_bytes texts us)) → IsWideRefusal texts us e
texts-widely texts us e table known refused =
    let said = ap length (strings-said texts table us known) in
    size-refusal _ (λ m. most_bytes < widest_said m texts us) e (past-among (λ m. widest_said m texts us) Str _ e (λ large. omega (arith, large, said, texts-widest texts us)) refused)
