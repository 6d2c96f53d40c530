-- What holds of all entries that are made of the kept ones of a unit: it holds of those of each of them.
use Rattle.std.proofs.Common.{◌≡◌, ℕ, suc, List, [], ◌∷◌, ◌++◌, map, Option, Some, None, Bool, true, false, Result, refl, sym, subst, inl, inr, ◌==◌}
use Rattle.std.specs.Prelude.{◌&&◌, nat_lt, Contains, option_map, option_to_list}
use Rattle.std.specs.List.{AllZip}
use Rattle.std.proofs.lemmas.Bool.{false≢true, eqb-true}
use Rattle.std.proofs.lemmas.List.Sums.{take_while-cons}
use Rattle.dwc_dwarf.specs.Entries.{Entry}
use Rattle.dwc_rules.specs.Kept.{Placed}
use Rattle.dwc_rules.specs.Carried.{Module}
use Rattle.dwc_dwarf.specs.ReadUnits.{Unit}
use Rattle.dwc_rules.specs.KeptModules.{carried_in, kept_in}
use Rattle.dwc_carried.specs.Forests.{drafts_of}
use Rattle.dwc_rules.specs.ModuleDrafts.{expressions_of}
use Rattle.dwc_rules.specs.CarriedUnits.{kept_of}
use Rattle.dwc_dwarf.specs.Trees.{Location, TreeEntry}
use Rattle.dwc_rules.specs.Drafts.{itself, Goal, Draft}
use Rattle.dwc_rules.specs.DraftForests.{is_made_of, settled_entry, settled_unit}
use Rattle.dwc_rules.specs.Clones.{UnitSource}
use Rattle.dwc_native.specs.BuiltExpressions.{BuildRefusal}
use Rattle.dwc_rules.specs.LocationRules.{ExpressionSource}
use Rattle.dwc_rules.specs.Wrappers.{WrapperSource, is_wrapped, wrapper, wrapper_types, inner, outer, with_wrapper, entries_made}
use Rattle.dwc_rules.specs.ContextVariable.{context_over, context_pointer, context_variable, locations_or_none}
use Rattle.dwc_rules.specs.EntryRules.{wrappers_of}
use Rattle.dwc_rules.specs.CarriedDrafts.{source_of, draft_told, entry_made, unit_drafts}
use Rattle.dwc_base.proofs.InLists.{IsIn, contains-in}
use Rattle.dwc_carried.proofs.EntryOffsets.{same-entry, kept-placed, carried-read}
use Rattle.dwc_rules.proofs.ForestLaws.{Each, each_both}

-- ---- lists

-- what holds of each item together with what that is mapped to
zip-each : {A B : Type 0} (R : A → B → Type 0) (f : A → B) (xs : List A) → Each (λ x. R x (f x)) xs → AllZip R xs (map f xs)
zip-each R f [] h = tt
zip-each R f (x ∷ xs) h = (h.0, zip-each R f xs h.1)

each-step : {A : Type 0} (P Q : A → Type 0) → ((x : A) → P x → Q x) → (xs : List A) → Each P xs → Each Q xs
each-step P Q step [] h = tt
each-step P Q step (x ∷ xs) h = (step x h.0, each-step P Q step xs h.1)

module _ (P : Draft → Type 0) where
  each-inner : (depth : ℕ) (ds : List Draft) → Each P ds → Each P (inner depth ds)
  each-inner depth [] h = tt
  each-inner depth (d ∷ ds) h = go (nat_lt depth d.depth) refl (each-inner depth ds h.1)
    where
      go : (b : Bool) → nat_lt depth d.depth ≡ b → Each P (inner depth ds) → Each P (inner depth (d ∷ ds))
      go true is behind = rw (take_while-cons (λ x. nat_lt depth x.depth) d ds, is) (h.0, behind)
      go false is behind = rw (take_while-cons (λ x. nat_lt depth x.depth) d ds, is) tt

  each-outer : (depth : ℕ) (ds : List Draft) → Each P ds → Each P (outer depth ds)
  each-outer depth [] h = tt
  each-outer depth (d ∷ ds) h = go (nat_lt depth d.depth) refl (each-outer depth ds h.1)
    where
      go : (b : Bool) → nat_lt depth d.depth ≡ b → Each P (outer depth ds) → Each P (outer depth (d ∷ ds))
      go true is behind = rw is behind
      go false is behind = rw is h

  -- ---- what is made of kept entries

  module _ (s : WrapperSource) (clone : Placed → List Draft) where
    each-wrapped : (e : Placed) (ds : List Draft) → Each P (wrapper s e) → Each P (wrapper_types s e) → Each P ds → Each P (with_wrapper s e ds)
    each-wrapped e ds front types h =
        let inside = inner e.entry.depth ds in
        let outside = outer e.entry.depth ds in
        each_both P (wrapper s e) (inside ++ (wrapper_types s e ++ outside)) front
        (each_both P inside (wrapper_types s e ++ outside) (each-inner e.entry.depth ds h) (each_both P (wrapper_types s e) outside types (each-outer e.entry.depth ds h)))

    -- What holds of what each kept entry becomes, by itself or wrapped, holds of all that is made.
    pub each-made : (es : List Placed) → ((e : Placed) → IsIn e es → is_wrapped s.output e ≡ false → Each P (clone e)) → ((e : Placed) → IsIn e es → is_wrapped s.output e ≡ true → Each P (wrapper s e) × Each P (wrapper_types s e)) → Each P (entries_made s clone es)
    unfolding entries_made
    each-made [] plain wrapped = tt
    each-made (e ∷ es) plain wrapped = go (is_wrapped s.output e) refl (each-made es (λ f i. plain f (inr i)) (λ f i. wrapped f (inr i)))
      where
        go : (b : Bool) → is_wrapped s.output e ≡ b → Each P (entries_made s clone es) → Each P (elim b [ true ↦ with_wrapper s e (entries_made s clone es) | false ↦ clone e ++ entries_made s clone es ])
        go true is behind = let parts = wrapped e (inl refl) is in each-wrapped e (entries_made s clone es) parts.0 parts.1 behind
        go false is behind = each_both P (clone e) (entries_made s clone es) (plain e (inl refl) is) behind

-- ---- entries that are made of one of the input, itself

-- an entry is made of another one where it has that one's offset
pub made-at : (offset : ℕ) (d : Draft) (own : ℕ) → d.origin ≡ Some (own, itself) → is_made_of offset itself d ≡ true → own ≡ offset
made-at offset d own origin made = go (own == offset) refl (rw origin at made)
  where
    go : (b : Bool) → (own == offset) ≡ b → (b && true) ≡ true → own ≡ offset
    go true same h = eqb-true own offset same
    go false same h = absurd (false≢true h)

no-both : (b : Bool) → (b && false) ≡ true → ⊥
no-both true h = false≢true h
no-both false h = false≢true h

module _ (Q : ℕ → Draft → Type 0) where
  -- what is said of an entry that is made of the one at an offset itself
  abbrev pub IfMade : Draft → Type 0
  IfMade d = (offset : ℕ) → is_made_of offset itself d ≡ true → Q offset d

  made-itself : (d : Draft) (own : ℕ) → d.origin ≡ Some (own, itself) → Q own d → IfMade d
  made-itself d own origin says offset made = subst (λ n. Q n d) (made-at offset d own origin made) says

  no-origin : (d : Draft) (offset : ℕ) → false ≡ true → Q offset d
  no-origin d offset made = absurd (false≢true made)

  -- the parts of a wrapper: its first entry is the wrapped one itself
  pub wrapper-made : (s : WrapperSource) (e : Placed) → ((d : Draft) → Q e.entry.offset d) → Each IfMade (wrapper s e) × Each IfMade (wrapper_types s e)
  wrapper-made s e says = (
    (made-itself _ e.entry.offset refl (says _), (no-origin _, (no-origin _, (no-origin _, (no-origin _, (no-origin _, (no-origin _, (no-origin _, (no-origin _, tt))))))))),
    (λ offset made. absurd (no-both (e.entry.offset == offset) made), (λ offset made. absurd (no-both (e.entry.offset == offset) made), (λ offset made. absurd (no-both (e.entry.offset == offset) made), tt))),
  )

  -- What is said of a unit's kept entries that are not wrapped, and of all that can be made of the others, is said of all that is made of
  -- them.
  each-itself : (c : ExpressionSource) (s : UnitSource) (big_endian : Bool) (es : List Placed) → ((e : Placed) → IsIn e es → is_wrapped c.told.output e ≡ false → Q e.entry.offset (draft_told c s big_endian e))
      → ((e : Placed) → IsIn e es → is_wrapped c.told.output e ≡ true → (d : Draft) → Q e.entry.offset d) → Each IfMade (unit_drafts c s big_endian es)
  each-itself c s big_endian es plain wrapped =
      each-made IfMade (wrappers_of c) (entry_made c s big_endian) es
      (λ e i is. (made-itself (draft_told c s big_endian e) e.entry.offset refl (plain e i is), context e (context_over c e)))
      (λ e i is. wrapper-made (wrappers_of c) e (wrapped e i is))
    where
      context : (e : Placed) (o : Option (Result (List Location) BuildRefusal)) → Each IfMade (option_to_list (option_map (λ located. context_variable (suc e.entry.depth) (context_pointer c) (locations_or_none located)) o))
      context e None = tt
      context e (Some located) = (no-origin _, tt)

-- ---- carried units

-- What is said of each kept entry of a carried unit and of the entry that is made of it, be it wrapped or not, is said of all entries of
-- the tree that are made of one of the input, itself.
module _ (m : Module) (u : Unit) (carried : IsIn u (carried_in (kept_of m))) (big_endian : Bool) (places : Goal → Option (ℕ × ℕ)) (Says : Entry → TreeEntry → Type 0) where
  abbrev kept_here : List Placed
  kept_here = kept_in (kept_of m) u

  abbrev drafts_here : List Draft
  drafts_here = drafts_of big_endian (record { module_of = m; unit = u })

  -- of an entry that is made of the one at an offset
  abbrev SaysAt : ℕ → Draft → Type 0
  SaysAt offset d = (e : Entry) → Contains u.entries e → e.offset ≡ offset → Says e (settled_entry places d)

  kept-says : (p : Placed) → IsIn p kept_here → (d : Draft) → Says p.entry (settled_entry places d) → SaysAt p.entry.offset d
  kept-says p i d says e among same =
      subst (λ (x : Entry). Says x (settled_entry places d)) (same-entry m.sections u p e (carried-read m u carried) (kept-placed m u p i) (contains-in u.entries e among) (sym same)) says

  pub unit-says : ((p : Placed) → IsIn p kept_here → is_wrapped m.told.output p ≡ false → Says p.entry (settled_entry places (draft_told (expressions_of m u) (source_of (kept_of m) u) big_endian p)))
      → ((p : Placed) → IsIn p kept_here → is_wrapped m.told.output p ≡ true → (out : TreeEntry) → Says p.entry out)
      → AllZip (λ d out. (e : Entry) → Contains u.entries e → is_made_of e.offset itself d ≡ true → Says e out) drafts_here (settled_unit places drafts_here)
  unit-says plain wrapped =
      zip-each (λ d out. (e : Entry) → Contains u.entries e → is_made_of e.offset itself d ≡ true → Says e out) (settled_entry places) drafts_here
      (each-step (IfMade SaysAt) (λ d. (e : Entry) → Contains u.entries e → is_made_of e.offset itself d ≡ true → Says e (settled_entry places d)) (λ d says e among made. says e.offset made e among refl) drafts_here
      (each-itself SaysAt (expressions_of m u) (source_of (kept_of m) u) big_endian kept_here
      (λ p i is. kept-says p i (draft_told (expressions_of m u) (source_of (kept_of m) u) big_endian p) (plain p i is))
      (λ p i is d. kept-says p i d (wrapped p i is (settled_entry places d)))))
