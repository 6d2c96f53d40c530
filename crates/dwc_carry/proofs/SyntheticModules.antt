-- What is added for a module: its synthetic unit, and those that carry its units.
use Rattle.std.proofs.Common.{◌≡◌, ℕ, suc, ◌+◌, ◌<◌, List, [], ◌∷◌, ◌++◌, map, length, refl, ap, sym, ◌∙◌, subst, arith, Bool, Option, Some, None}
use Rattle.std.specs.Prelude.{option_map}
use Rattle.std.specs.List.{flat_map}
use Rattle.std.proofs.lemmas.List.{append-nil, append_assoc, length-append, length-map}
use Rattle.dwc_base.specs.declared.records.Encoding.{Encoding}
use Rattle.dwc_rules.specs.Carried.{Module, synthetic_unit, carried_unit}
use Rattle.dwc_dwarf.specs.ReadUnits.{Unit}
use Rattle.dwc_native.specs.Compiled.{Memory, no_memory, defined, imported}
use Rattle.dwc_rules.specs.SyntheticUnit as Synthetic
use Rattle.dwc_rules.specs.SyntheticUnit.{memory_members, place_of_context_pointer}
use Rattle.dwc_rules.specs.Drafts.{Draft}
use Rattle.dwc_rules.specs.Refusals.{Refusal}
use Rattle.dwc_base.specs.Listing.{first_of}
use Rattle.dwc_rules.specs.KeptModules.{carried_in, kept_in}
use Rattle.dwc_rules.specs.CarriedDrafts.{source_of, unit_drafts, carried_drafts}
use Rattle.dwc_rules.specs.DraftForests.{place_of_goal, settled_entry, settled_unit, trees_from}
use Rattle.dwc_carried.specs.Forests.{synthetic_refusals, reading_refusals, module_refusals}
use Rattle.dwc_rules.specs.ModuleDrafts.{expressions_of, module_drafts}
use Rattle.dwc_rules.specs.CarriedUnits.{kept_of, carried_units_of, wanted_units_of}
use Rattle.dwc_unit.specs.declared.units.Dwarf.{Dwarf}
use Rattle.dwc_unit.specs.AddedInOrder.{IsNumberedByPlaces, tree_meant}
use Rattle.dwc_unit.specs.Renumbered.{renumbered_entry}
use Rattle.dwc_unit.proofs.AddedInOrderTrees.{tree-length}
use Rattle.dwc_unit.proofs.AddedInOrderUnits.{numbered-place}
use Rattle.dwc_unit.specs.GivenUnits.{GivenUnit}
use Rattle.dwc_carry.specs.declared.error.DebugError.{DebugError}
use Rattle.dwc_carry.specs.declared.synthetic_unit.ModuleSyntheticUnit.{ModuleSyntheticUnit}
use Rattle.dwc_carry.specs.Refusals.{in_reading, RefusesReading}
use Rattle.dwc_carry.specs.MadeUnits.{LeadsTo, IsMadeOf, AreMadeOf}
use Rattle.dwc_carry.specs.SyntheticUnits.{synthetic_tree, AddsSyntheticUnit}
use Rattle.dwc_carry.specs.CarriedUnits.{wanted_of}
use Rattle.dwc_carry.specs.CarriedModules.{AddsCarried}
use Rattle.dwc_carry.proofs.ModuleLoopLaws.{AddsModule}
use Rattle.dwc_carry.proofs.MadeLaws.{grows-twice, leads-behind, leads-front, made-grown}
use Rattle.dwc_carry.proofs.RefusalLaws.{first-behind, no-first, reading-more, unmapped}

-- ---- trees

-- the synthetic unit refers to no carried one
synthetic-settled : (number : ℕ) (set_memory : List ℕ) (m : Memory) (carried : List (List Draft)) → synthetic_tree number set_memory m ≡ settled_unit (place_of_goal number (record { synthetic = Some (Synthetic.synthetic_unit set_memory m); carried = carried })) (Synthetic.synthetic_unit set_memory m)
unfolding Synthetic.synthetic_unit
synthetic-settled number set_memory (defined offset) carried = refl
synthetic-settled number set_memory no_memory carried = refl
synthetic-settled number set_memory (imported definition base) carried = refl

-- What is added for a name and a memory is added for what is told of the module.
pub synthetic-told : (encoding : Encoding) (name told_name : List ℕ) (m told_memory : Memory) (old middle : Dwarf) (synthetic : ModuleSyntheticUnit) → name ≡ told_name → m ≡ told_memory
    → (option_map in_reading (first_of (synthetic_refusals m)) ≡ None) × AddsSyntheticUnit encoding name m old.units.units.items middle.units.units.items old.strings middle.strings synthetic
    → (option_map in_reading (first_of (synthetic_refusals told_memory)) ≡ None) × AddsSyntheticUnit encoding told_name told_memory old.units.units.items middle.units.units.items old.strings middle.strings synthetic
synthetic-told encoding name told_name m told_memory old middle synthetic names memories h = (
  ap (λ x. option_map in_reading (first_of (synthetic_refusals x))) (sym memories) ∙ h.0,
  subst (λ n. AddsSyntheticUnit encoding n told_memory old.units.units.items middle.units.units.items old.strings middle.strings synthetic) names
      (subst (λ x. AddsSyntheticUnit encoding name x old.units.units.items middle.units.units.items old.strings middle.strings synthetic) memories h.1),
)

inside : (n k : ℕ) (ds ms : List Draft) → length ds ≡ n → length ms ≡ k → 6 + k < n → 6 + length ms < length ds
inside n k ds ms long members below = omega (arith, long, members, below)

-- The pointer to the context is an entry of the unit.
context-inside : (set_memory : List ℕ) (m : Memory) → place_of_context_pointer m < length (Synthetic.synthetic_unit set_memory m)
unfolding Synthetic.synthetic_unit
context-inside set_memory (defined offset) = inside 9 1 (Synthetic.synthetic_unit set_memory (defined offset)) (memory_members (defined offset)) refl refl (omega arith)
context-inside set_memory no_memory = inside 8 0 (Synthetic.synthetic_unit set_memory no_memory) (memory_members no_memory) refl refl (omega arith)
context-inside set_memory (imported definition base) = inside 8 0 (Synthetic.synthetic_unit set_memory (imported definition base)) (memory_members (imported definition base)) refl refl (omega arith)

-- The places of a module's synthetic unit are led to by their numbers.
synthetic-there : (at : ℕ → ℕ → Option (ℕ × ℕ)) (number : ℕ) (encoding : Encoding) (set_memory : List ℕ) (m : Memory) (made : GivenUnit) {table : List (List ℕ)} → IsNumberedByPlaces made → IsMadeOf at encoding table number synthetic_unit (synthetic_tree number set_memory m) made → LeadsTo at number (made ∷ [])
    → (place : ℕ) → place < length (Synthetic.synthetic_unit set_memory m) → at number place ≡ Some (number, place)
synthetic-there at number encoding set_memory m made {table} numbered is leads place within =
    let settled = settled_unit (place_of_goal number (record { synthetic = Some (Synthetic.synthetic_unit set_memory m); carried = [] })) (Synthetic.synthetic_unit set_memory m) in
    let drafted : length settled ≡ length (Synthetic.synthetic_unit set_memory m) = length-map (Synthetic.synthetic_unit set_memory m) (settled_entry (place_of_goal number (record { synthetic = Some (Synthetic.synthetic_unit set_memory m); carried = [] }))) in
    let counted : length (tree_meant table number is.depths made.additions) ≡ length settled = sym (length-map (tree_meant table number is.depths made.additions) (renumbered_entry at)) ∙ ap length is.says in
    let meant : length (tree_meant table number is.depths made.additions) ≡ length made.additions = tree-length table number is.depths made.additions is.order.counted in
    let same : number + 0 ≡ number = omega arith in
    subst (λ k. at k place ≡ Some (k, place)) same (leads 0 made refl place place (numbered-place made place numbered (omega (arith, within, drafted, counted, meant))))

module _ (big_endian : Bool) (m : Module) where
  carried-trees : (n : ℕ) → map (settled_unit (place_of_goal n (module_drafts big_endian m))) (carried_drafts (expressions_of m) big_endian (kept_of m)) ≡ map (wanted_of big_endian m n) (carried_in (kept_of m))
  unfolding carried_drafts
  carried-trees n = mapped (carried_in (kept_of m))
    where
      mapped : (us : List Unit) → map (settled_unit (place_of_goal n (module_drafts big_endian m))) (map (λ u. unit_drafts (expressions_of m u) (source_of (kept_of m) u) big_endian (kept_in (kept_of m) u)) us) ≡ map (wanted_of big_endian m n) us
      mapped [] = refl
      mapped (u ∷ us) = ap (λ ts. wanted_of big_endian m n u ∷ ts) (mapped us)

  -- the trees of a module: that of its synthetic unit, and those of its carried ones
  module-trees : (n : ℕ) → trees_from n (map (module_drafts big_endian) (m ∷ [])) ≡ synthetic_tree n m.told.names.set_memory m.told.memory ∷ map (wanted_of big_endian m n) (carried_in (kept_of m))
  module-trees n =
      append-nil _
      ∙ ap (λ ts. settled_unit (place_of_goal n (module_drafts big_endian m)) (Synthetic.synthetic_unit m.told.names.set_memory m.told.memory) ∷ ts) (carried-trees n)
      ∙ ap (λ t. t ∷ map (wanted_of big_endian m n) (carried_in (kept_of m))) (sym (synthetic-settled n m.told.names.set_memory m.told.memory (carried_drafts (expressions_of m) big_endian (kept_of m))))

  -- ---- what is added

  -- the units that carry those of the module stand behind its own
  pub synthetic-counted : (encoding : Encoding) (old middle : Dwarf) (synthetic : ModuleSyntheticUnit) → AddsSyntheticUnit encoding m.told.names.set_memory m.told.memory old.units.units.items middle.units.units.items old.strings middle.strings synthetic
      → length middle.units.units.items ≡ suc (length old.units.units.items)
  synthetic-counted encoding old middle synthetic a = ap length a.added ∙ length-append old.units.units.items (a.made ∷ []) ∙ omega arith

  -- A module's synthetic unit is added, and behind it those that carry its units.
  pub module-both : (encoding : Encoding) (old middle new : Dwarf) (synthetic : ModuleSyntheticUnit)
      → AddsSyntheticUnit encoding m.told.names.set_memory m.told.memory old.units.units.items middle.units.units.items old.strings middle.strings synthetic → AddsCarried encoding big_endian m (length old.units.units.items) middle new
      → AddsModule encoding big_endian m old.units.units.items new.units.units.items old.strings new.strings
  module-both encoding old middle new synthetic a b =
      let n = length old.units.units.items in
      let u = b.units_added in
      let set_memory = m.told.names.set_memory in
      let memory = m.told.memory in
      let tree = synthetic_tree n set_memory memory in
      let one_more = synthetic-counted encoding old middle synthetic a in
      record {
        made = a.made ∷ u.made;
        added = u.added ∙ ap (λ us. us ++ u.made) a.added ∙ append_assoc old.units.units.items (a.made ∷ []) u.made;
        grows = grows-twice old.strings middle.strings new.strings a.grows u.grows;
        counted = ap suc (u.counted ∙ sym (length-map (carried_units_of m) carried_unit));
        each = λ at leads.
            let synthetic = leads-front at n (a.made ∷ []) u.made leads in
            let first = made-grown at encoding middle.strings new.strings n (synthetic_unit ∷ []) (tree ∷ []) (a.made ∷ []) u.grows (a.is at synthetic, tt) in
            let behind = leads-behind at n (length middle.units.units.items) (a.made ∷ []) u.made (omega (arith, one_more)) leads in
            let there = synthetic-there at n encoding set_memory memory a.made a.numbered (a.is at synthetic) synthetic in
            let rest = subst (λ k. AreMadeOf at encoding new.strings k (map carried_unit (carried_units_of m)) (map (wanted_of big_endian m n) (carried_in (kept_of m))) u.made) one_more (u.each at behind there) in
            let both : AreMadeOf at encoding new.strings n (wanted_units_of m) (tree ∷ map (wanted_of big_endian m n) (carried_in (kept_of m))) (a.made ∷ u.made) = (first.0, rest) in
            subst (λ ws. AreMadeOf at encoding new.strings n ws (trees_from n (map (module_drafts big_endian) (m ∷ []))) (a.made ∷ u.made)) (sym (append-nil (wanted_units_of m)))
            (subst (λ ts. AreMadeOf at encoding new.strings n (wanted_units_of m) ts (a.made ∷ u.made)) (sym (module-trees n)) both);
        context = λ at leads.
            let synthetic = leads-front at n (a.made ∷ []) u.made leads in
            synthetic-there at n encoding set_memory memory a.made a.numbered (a.is at synthetic) synthetic (place_of_context_pointer memory) (context-inside set_memory memory);
        whole = b.whole;
      }

  -- ---- what is refused

  one : flat_map module_refusals (m ∷ []) ≡ synthetic_refusals m.told.memory ++ reading_refusals m
  one = append-nil (synthetic_refusals m.told.memory ++ reading_refusals m)

  -- its synthetic unit is refused
  pub synthetic-refused : (e : DebugError) → RefusesReading (first_of (synthetic_refusals m.told.memory)) e → RefusesReading (first_of (flat_map module_refusals (m ∷ []))) e
  synthetic-refused e met =
      reading-more (first_of (synthetic_refusals m.told.memory)) (first_of (flat_map module_refusals (m ∷ []))) e
      (λ r is. ap (λ (rs : List Refusal). first_of rs) one ∙ first-behind (synthetic_refusals m.told.memory) (reading_refusals m) r is) met

  -- nothing is refused of it
  behind-synthetic : option_map in_reading (first_of (synthetic_refusals m.told.memory)) ≡ None → flat_map module_refusals (m ∷ []) ≡ reading_refusals m
  behind-synthetic none = one ∙ ap (λ rs. rs ++ reading_refusals m) (no-first (synthetic_refusals m.told.memory) (unmapped in_reading (first_of (synthetic_refusals m.told.memory)) none))

  -- what is read of the module is refused
  pub carried-refused : option_map in_reading (first_of (synthetic_refusals m.told.memory)) ≡ None → (e : DebugError) → RefusesReading (first_of (reading_refusals m)) e → RefusesReading (first_of (flat_map module_refusals (m ∷ []))) e
  carried-refused none e met = subst (λ rs. RefusesReading (first_of rs) e) (sym (behind-synthetic none)) met

  -- nothing at all
  pub none-refused : option_map in_reading (first_of (synthetic_refusals m.told.memory)) ≡ None → option_map in_reading (first_of (reading_refusals m)) ≡ None → option_map in_reading (first_of (flat_map module_refusals (m ∷ []))) ≡ None
  none-refused synthetic read = ap (λ (rs : List Refusal). option_map in_reading (first_of rs)) (behind-synthetic synthetic) ∙ read
