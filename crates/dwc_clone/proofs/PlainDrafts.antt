-- What an entry that is not wrapped is to say, and the variable of the context behind it.
use Rattle.std.proofs.Common.{◌≡◌, ℕ, refl, sym, ap, ap₂, subst, ◌∙◌, inl, inr, List, [], ◌∷◌, ◌++◌, map, Bool, true, false, Option, Some, None}
use Rattle.std.specs.Prelude.{◌==◌, ◌&&◌, filter_map, if◌then◌else◌, pos}
use Rattle.std.specs.List.{cons_option}
use Rattle.std.proofs.lemmas.List.Elements.{filter_map-append}
use Rattle.dwc_base.specs.declared.constants.TheConstants.{DW_AT_endianity, DW_AT_high_pc, DW_AT_low_pc, DW_AT_ranges, DW_END_little, DW_FORM_data1, DW_FORM_udata, DW_TAG_base_type, DW_TAG_compile_unit}
use Rattle.dwc_base.specs.declared.records.Address.TheVariants.{Constant, Symbol}
use Rattle.dwc_base.specs.declared.records.Address.{Address}
use Rattle.dwc_base.specs.declared.records.OutputFor.{OutputFor}
use Rattle.dwc_native.specs.Functions.{Function}
use Rattle.dwc_dwarf.specs.RawLists.{ListSource}
use Rattle.dwc_dwarf.specs.Entries.{Entry}
use Rattle.dwc_rules.specs.Kept.{Placed}
use Rattle.dwc_dwarf.specs.Lists.{list_source}
use Rattle.dwc_rules.specs.RangeAttributes.{Extent, begun_function, bounds, extent, intervals, length_of, nowhere, position, range_attributes, said_extent, said_intervals, with_base}
use Rattle.dwc_native.specs.ScopesKept.{native_of_intervals}
use Rattle.dwc_dwarf.specs.Trees as trees
use Rattle.dwc_dwarf.specs.Trees.{Interval, TreeEntry, TreeValue, constant}
use Rattle.dwc_rules.specs.Clones.{UnitSource, attributes_become, attributes_made, endianity, if_made}
use Rattle.dwc_rules.specs.CarriedDrafts.{draft_told}
use Rattle.dwc_rules.specs.Drafts.{DraftValue, Goal, done}
use Rattle.dwc_rules.specs.DraftForests.{settled, settled_entry}
use Rattle.dwc_rules.specs.EntryRules.{wrappers_of}
use Rattle.dwc_rules.specs.ObjectPointers.{has_parameters, is_object_pointer, names_no_pointer, pointers_changed, unlike_this}
use Rattle.dwc_rules.proofs.ListBaseLaws.{BaseOrNone, base-or-none}
use Rattle.dwc_isa.specs.Registers.{Registers}
use Rattle.dwc_clone.specs.declared.object_pointer.Telling.{Telling}
use Rattle.dwc_clone.specs.declared.object_pointer.Telling.TheVariants.{Function as OfFunction, ObjectPointer, Plain}
use Rattle.dwc_source.specs.declared.source.CloneSource.{CloneSource}
use Rattle.dwc_extents.specs.CodeSources.{clone_rules, source_with}
use Rattle.dwc_clone.specs.ClonedEntries.{Tell, set_behind, values_wanted}
use Rattle.dwc_dwarf.specs.Texts.{TextSource}
use Rattle.dwc_clone.specs.PlainEntries.{code_said, values_whole}
use Rattle.dwc_clone.specs.Tellings.{tell_of, telling_of}

-- ---- what is told of bounds and of the byte order is what is said

abbrev Each : {A : Type 0} → (A → Type 0) → List A → Type 0
Each P [] = Unit {0}
Each P (x ∷ xs) = P x × Each P xs

-- a value as it is drafted
abbrev drafted : ℕ × TreeValue → ℕ × DraftValue
drafted a = (a.0, done a.1)

-- it is told as it is
abbrev Stays : Tell → ℕ × TreeValue → Type 0
Stays tell a = tell (drafted a) ≡ Some (drafted a)

told-same : (tell : Tell) (xs : List (ℕ × TreeValue)) → Each (Stays tell) xs → filter_map tell (map drafted xs) ≡ map drafted xs
told-same tell [] stay = refl
told-same tell (x ∷ xs) stay = ap (λ o. cons_option o (filter_map tell (map drafted xs))) stay.0 ∙ ap (λ ys. drafted x ∷ ys) (told-same tell xs stay.1)

settled-done : (places : Goal → Option (ℕ × ℕ)) (xs : List (ℕ × TreeValue)) → filter_map (settled places) (map drafted xs) ≡ xs
settled-done places [] = refl
settled-done places (x ∷ xs) = ap (λ ys. x ∷ ys) (settled-done places xs)

-- the names of bounds, and that of the byte order
record LeavesBounds (tell : Tell) : Type 0 where
  low : (v : TreeValue) → tell (DW_AT_low_pc, done v) ≡ Some (DW_AT_low_pc, done v)
  high : (v : TreeValue) → tell (DW_AT_high_pc, done v) ≡ Some (DW_AT_high_pc, done v)
  ranges : (v : TreeValue) → tell (DW_AT_ranges, done v) ≡ Some (DW_AT_ranges, done v)
  order : (v : TreeValue) → tell (DW_AT_endianity, done v) ≡ Some (DW_AT_endianity, done v)

leaves-bounds : (t : Telling) (es : List Placed) (e : Placed) → LeavesBounds (tell_of t es e)
leaves-bounds Plain es e = record { low = λ v. refl; high = λ v. refl; ranges = λ v. refl; order = λ v. refl }
leaves-bounds OfFunction es e = record { low = λ v. refl; high = λ v. refl; ranges = λ v. refl; order = λ v. refl }
leaves-bounds ObjectPointer es e = record { low = λ v. refl; high = λ v. refl; ranges = λ v. refl; order = λ v. refl }

bounds-stay : (tell : Tell) → LeavesBounds tell → (lists : ListSource) (fs : List Function) (e : Entry) → Each (Stays tell) (range_attributes lists fs e)
unfolding range_attributes
bounds-stay tell leaves lists fs e = go (begun_function lists fs e) (extent lists e)
  where
    both : (a : Address) (n : ℕ) → Each (Stays tell) (bounds a n)
    both a n = (leaves.low (trees.address a), (leaves.high (constant DW_FORM_udata n), tt))

    said-stay : (tag : ℕ) (is : List Interval) → Each (Stays tell) (said_intervals tag is)
    said-stay tag [] = (leaves.ranges (trees.ranges []), tt)
    said-stay tag (i ∷ j ∷ is) = (leaves.ranges (trees.ranges (i ∷ j ∷ is)), tt)
    said-stay tag (i ∷ []) = one (tag == DW_TAG_compile_unit)
      where
        one : (b : Bool) → Each (Stays tell) (if b then (DW_AT_ranges, trees.ranges (i ∷ [])) ∷ [] else bounds i.begin (length_of i))
        one true = (leaves.ranges (trees.ranges (i ∷ [])), tt)
        one false = both i.begin (length_of i)

    go : (o : Option Function) (x : Extent) → Each (Stays tell) (elim o [ Some f ↦ bounds (Symbol f.number (pos 0)) f.length | None ↦ said_extent fs e.tag x ])
    go (Some f) x = both (Symbol f.number (pos 0)) f.length
    go None nowhere = tt
    go None (position a) = (leaves.low _, tt)
    go None (intervals []) = tt
    go None (intervals (i ∷ is)) = said-stay e.tag (native_of_intervals fs (i ∷ is))

-- with a base in front of a list
based-stay : (tell : Tell) → LeavesBounds tell → (output : OutputFor) (is_root : Bool) (as' : List (ℕ × TreeValue)) → Each (Stays tell) as' → Each (Stays tell) (with_base output is_root as')
based-stay tell leaves output is_root as' stay = go (base-or-none output is_root as')
  where
    go : BaseOrNone (with_base output is_root as') as' → Each (Stays tell) (with_base output is_root as')
    go (inl none) = subst (Each (Stays tell)) (sym none) stay
    go (inr base) = subst (Each (Stays tell)) (sym base) (leaves.low (trees.address (Constant 0)), stay)

order-stays : (tell : Tell) → LeavesBounds tell → (big_endian : Bool) (e : Placed) → filter_map tell (endianity big_endian e) ≡ endianity big_endian e
order-stays tell leaves big_endian e = go (big_endian && (e.entry.tag == DW_TAG_base_type))
  where
    go : (b : Bool) → filter_map tell (if b then (DW_AT_endianity, done (constant DW_FORM_data1 DW_END_little)) ∷ [] else []) ≡ (if b then (DW_AT_endianity, done (constant DW_FORM_data1 DW_END_little)) ∷ [] else [])
    go true = ap (λ o. cons_option o []) (leaves.order (constant DW_FORM_data1 DW_END_little))
    go false = refl

-- ---- what the entry is to say

told-plain : (xs : List (ℕ × DraftValue)) → filter_map {X = ℕ × DraftValue} Some xs ≡ xs
told-plain [] = refl
told-plain (x ∷ xs) = ap (λ ys. x ∷ ys) (told-plain xs)

module _ (registers : Registers) (c : CloneSource) (s : UnitSource) (p : Placed) where
  -- the attributes that were made, as they are told
  pub changed-told : (xs : List (ℕ × DraftValue)) → pointers_changed (wrappers_of (source_with registers c s)).texts s.entries p xs ≡ filter_map (tell_of (telling_of (wrappers_of (source_with registers c s)).texts s.entries p) s.entries p) xs
  unfolding pointers_changed
  changed-told xs = go (is_object_pointer (wrappers_of (source_with registers c s)).texts s.entries p) (has_parameters p)
    where
      go : (pointer function : Bool) → (if pointer then filter_map unlike_this xs else (if function then filter_map (names_no_pointer s.entries p) xs else xs)) ≡ filter_map (tell_of (if pointer then ObjectPointer else (if function then OfFunction else Plain)) s.entries p) xs
      go true function = refl
      go false true = refl
      go false false = sym (told-plain xs)

  abbrev pub telling : Telling
  telling = telling_of (wrappers_of (source_with registers c s)).texts s.entries p

  abbrev pub tells : Tell
  tells = tell_of telling s.entries p

  pub wanted-entry : (goals : Goal → Option (ℕ × ℕ)) → s.texts ≡ (wrappers_of (source_with registers c s)).texts → settled_entry goals (draft_told (source_with registers c s) s c.big_endian p) ≡ record { depth = p.entry.depth; tag = p.entry.tag; attributes = set_behind [] (values_whole registers c s p goals) }
  unfolding attributes_made
  wanted-entry goals texts =
      let S = settled goals in
      let front : List (ℕ × DraftValue) = (clone_rules registers c s).bounds p in
      let said = code_said c p.entry in
      let middle = filter_map (λ a. if_made a.0 a.1) (attributes_become (clone_rules registers c s) s p [] p.entry.attributes) in
      let last = endianity c.big_endian p in
      let whole : List (ℕ × TreeValue) → TreeEntry = λ values. record { depth = p.entry.depth; tag = p.entry.tag; attributes = set_behind [] values } in
      let leaves = leaves-bounds telling s.entries p in
      let at : TextSource → List (ℕ × TreeValue) = λ source. said ++ values_wanted goals (tell_of (telling_of source s.entries p) s.entries p) registers c s p [] p.entry.attributes ++ filter_map S last in
      ap (λ xs. whole (filter_map S xs))
      (changed-told (front ++ middle ++ last)
      ∙ filter_map-append tells (front ++ middle) last
      ∙ ap₂ (λ (xs ys : List (ℕ × DraftValue)). xs ++ ys) (filter_map-append tells front middle ∙ ap (λ xs. xs ++ filter_map tells middle) (told-same tells said (based-stay tells leaves c.module.output_for (p.entry.tag == DW_TAG_compile_unit) (range_attributes (list_source c.unit.now.sections c.unit.now.header) c.transform.now p.entry) (bounds-stay tells leaves (list_source c.unit.now.sections c.unit.now.header) c.transform.now p.entry)))) (order-stays tells leaves c.big_endian p))
      ∙ ap whole
      (filter_map-append S (front ++ filter_map tells middle) last
      ∙ ap (λ xs. xs ++ filter_map S last) (filter_map-append S front (filter_map tells middle) ∙ ap (λ xs. xs ++ filter_map S (filter_map tells middle)) (settled-done goals said)))
      ∙ ap (λ source. whole (at source)) (sym texts)
