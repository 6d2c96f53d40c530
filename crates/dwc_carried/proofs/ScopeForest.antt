-- The trees that are made of an input carry its scopes, where translations keep them.
use Rattle.std.proofs.Common.{◌≡◌, ℕ, List, map, Option, Some, None, Bool, true, false, refl, sym, ap, ap₂, subst, ◌∙◌, ◌==◌}
use Rattle.std.specs.Prelude.{if◌then◌else◌, All, filter_map}
use Rattle.dwc_rules.proofs.ListBaseLaws.{covered-based}
use Rattle.dwc_rules.specs.RangeAttributes.{range_attributes, with_base}
use Rattle.dwc_base.specs.declared.records.OutputFor.{OutputFor}
use Rattle.dwc_base.specs.declared.constants.TheConstants.{DW_TAG_compile_unit, DW_AT_high_pc, DW_AT_low_pc, DW_AT_ranges}
use Rattle.dwc_dwarf.specs.Entries.{Entry}
use Rattle.dwc_native.specs.Functions.{Function}
use Rattle.dwc_rules.specs.Kept.{Placed}
use Rattle.dwc_dwarf.specs.RawLists.{ListSource}
use Rattle.dwc_dwarf.specs.Trees.{TreeValue, Interval, TreeEntry}
use Rattle.dwc_rules.specs.Drafts.{Goal, done}
use Rattle.dwc_rules.specs.DraftForests.{settled, settled_entry}
use Rattle.dwc_rules.specs.Clones.{UnitSource, attributes_made}
use Rattle.dwc_rules.specs.Carried.{Module, Compilation}
use Rattle.dwc_rules.specs.CarriedDrafts.{source_of, draft_of, draft_told}
use Rattle.dwc_rules.specs.LocationRules.{ExpressionSource, lists_of}
use Rattle.dwc_rules.specs.Wrappers.{is_wrapped}
use Rattle.dwc_rules.specs.EntryRules.{wrappers_of, rules_of_source}
use Rattle.dwc_carried.specs.Forests.{wanted_units, is_big, drafts_of, trees_made}
use Rattle.dwc_rules.specs.ModuleDrafts.{expressions_of}
use Rattle.dwc_rules.specs.CarriedUnits.{kept_of}
use Rattle.dwc_rules.specs.RangeAttributes.{begun_function, Extent, intervals, position, nowhere, extent, range_attributes}
use Rattle.dwc_native.specs.ScopesKept.{wasm_interval, native_of_intervals}
use Rattle.dwc_rules.specs.ScopesCarried.{value_of_entry, bounded, listed_or, covered_intervals, scope_of_intervals, scope_to_keep, CarriesScope, UnitHasScopes, ScopesCarried}
use Rattle.dwc_native.specs.ScopesKept.{KeepsScope, AreNumbered, TranslationsKeepScopes}
use Rattle.dwc_carried.specs.SimulatedFunctions.{is_begun}
use Rattle.dwc_rules.proofs.ForestLaws.{none_is}
use Rattle.dwc_carried.proofs.MadeDrafts.{unit-says}
use Rattle.dwc_carried.proofs.UnitsMade.{last-always, units-made}
use Rattle.dwc_rules.proofs.AllIn.{all-in}
use Rattle.dwc_rules.proofs.PointerLaws.{IsUntouched, changed-said}
use Rattle.dwc_rules.proofs.ScopeAttributes.{attributes-behind, entry_with, covered-behind, covered-extent, extent-said}

-- ---- one entry

-- an entry has a scope to be kept, which is that of its intervals
record HasScope (s : ListSource) (fs : List Function) (e : Entry) (scope : List (ℕ × ℕ)) : Type 0 where
  begins_nowhere : begun_function s fs e ≡ None
  over : List Interval
  has : extent s e ≡ intervals over
  is : scope ≡ filter_map wasm_interval over

has-scope : (output : OutputFor) (s : ListSource) (fs : List Function) (p : Placed) (scope : List (ℕ × ℕ)) → scope_to_keep output s fs p ≡ Some scope → HasScope s fs p.entry scope
has-scope output s fs p scope kept = go (is_wrapped output p) (begun_function s fs e) refl (extent s e) refl kept
  where
    e : Entry
    e = p.entry

    go : (wrapped : Bool) (o : Option Function) → begun_function s fs e ≡ o → (x : Extent) → extent s e ≡ x
        → (if wrapped then None else (elim o [ Some f ↦ None | None ↦ scope_of_intervals x ])) ≡ Some scope → HasScope s fs e scope
    go true o begun x has h = absurd (none_is scope h)
    go false (Some f) begun x has h = absurd (none_is scope h)
    go false None begun (position a) has h = absurd (none_is scope h)
    go false None begun nowhere has h = absurd (none_is scope h)
    go false None begun (intervals over) has h = record { begins_nowhere = begun; over = over; has = has; is = some-is (filter_map wasm_interval over) scope h }
      where
        some-is : (xs ys : List (ℕ × ℕ)) → Some xs ≡ Some ys → ys ≡ xs
        some-is xs ys e = cc

-- what changes for object pointers bounds no code
changed-covers : (c : ExpressionSource) (s : UnitSource) (big_endian : Bool) (places : Goal → Option (ℕ × ℕ)) (p : Placed)
    → covered_intervals (settled_entry places (draft_told c s big_endian p)) ≡ covered_intervals (settled_entry places (draft_of (rules_of_source c) s big_endian p))
changed-covers c s big_endian places p =
    ap₂ (λ o is. listed_or o is) (same DW_AT_ranges (record { mark = refl; own = refl; pointer = refl }))
    (ap₂ bounded (same DW_AT_low_pc (record { mark = refl; own = refl; pointer = refl })) (same DW_AT_high_pc (record { mark = refl; own = refl; pointer = refl })))
  where
    same : (name : ℕ) → IsUntouched name
        → value_of_entry name (settled_entry places (draft_told c s big_endian p)) ≡ value_of_entry name (settled_entry places (draft_of (rules_of_source c) s big_endian p))
    same name untouched = changed-said name places untouched (wrappers_of c).texts c.entries p (attributes_made (rules_of_source c) s big_endian p)

module _ (fs : List Function) (keep : TranslationsKeepScopes fs) (numbered : AreNumbered fs) where
  -- The entry that is made of a kept one carries its scope, whatever changes for object pointers.
  entry-carries : (c : ExpressionSource) → c.functions ≡ fs → (s : UnitSource) (big_endian : Bool) (places : Goal → Option (ℕ × ℕ)) (p : Placed)
      → CarriesScope c.told.output (lists_of c) fs p (settled_entry places (draft_told c s big_endian p))
  entry-carries c same s big_endian places p scope kept =
      let has = has-scope c.told.output (lists_of c) fs p scope kept in
      let law : KeepsScope fs (filter_map wasm_interval has.over) (native_of_intervals fs has.over) = keep numbered has.over in
      let out : TreeEntry = settled_entry places (draft_of (rules_of_source c) s big_endian p) in
      let based : List (ℕ × TreeValue) → List (ℕ × TreeValue) = with_base c.told.output (p.entry.tag == DW_TAG_compile_unit) in
      let front = based (range_attributes (lists_of c) fs p.entry) in
      let bounds : (rules_of_source c).bounds p ≡ map (λ a. (a.0, done a.1)) front = ap (λ gs. map (λ a. (a.0, done a.1)) (based (range_attributes (lists_of c) gs p.entry))) same in
      let covered : covered_intervals (settled_entry places (draft_told c s big_endian p)) ≡ native_of_intervals fs has.over =
      changed-covers c s big_endian places p
      ∙ covered-behind out front (filter_map (settled places) (attributes_made (rules_of_source c) s big_endian p)) (attributes-behind (rules_of_source c) s big_endian p places front bounds)
      ∙ ap (λ as'. covered_intervals (entry_with out (based as'))) (extent-said (lists_of c) fs p.entry has.over has.begins_nowhere has.has)
      ∙ covered-based out c.told.output fs p.entry.tag has.over
      ∙ covered-extent fs out p.entry.tag has.over law.inside in
      subst (λ is. KeepsScope fs scope is) (sym covered) (subst (λ ws. KeepsScope fs ws (native_of_intervals fs has.over)) (sym has.is) law)

-- a wrapped entry has no scope to keep
wrapped-carries : (output : OutputFor) (s : ListSource) (fs : List Function) (p : Placed) (out : TreeEntry) → is_wrapped output p ≡ true → CarriesScope output s fs p out
wrapped-carries output s fs p out wrapped scope kept =
    absurd (none_is scope (subst (λ b. (if b then None else (elim (begun_function s fs p.entry) [ Some f ↦ None | None ↦ scope_of_intervals (extent s p.entry) ])) ≡ Some scope) wrapped kept))

-- ---- units

-- The trees that are made of an input, whose functions have good maps and numbers of their own, carry its scopes.
pub made-scopes : (c : Compilation) → All (λ (m : Module). AreNumbered m.functions) c.modules → ((fs : List Function) → TranslationsKeepScopes fs) → ScopesCarried (drafts_of (is_big c.order)) (wanted_units c) (trees_made c)
made-scopes c numbered keep =
    units-made c (UnitHasScopes (drafts_of (is_big c.order))) (λ t. tt)
    (λ m i u carried places.
    let e = expressions_of m u in
    unit-says m u carried (is_big c.order) places (λ x out. CarriesScope m.told.output (lists_of e) m.functions (record { unit = u.header.offset; entry = x }) out)
    (λ p k is. entry-carries m.functions (keep m.functions) (all-in (λ (n : Module). AreNumbered n.functions) c.modules m numbered i) e refl (source_of (kept_of m) u) (is_big c.order) places p)
    (λ p k is out. wrapped-carries m.told.output (lists_of e) m.functions p out is))
    (last-always (UnitHasScopes (drafts_of (is_big c.order))) (is_begun c.modules) (λ name ms t. tt) c.next_id c.modules)
