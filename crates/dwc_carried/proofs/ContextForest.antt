-- The trees that are made of an input lead to its contexts, where translations keep scopes and nothing is refused.
use Rattle.std.proofs.Common.{false, ◌≡◌, ℕ, suc, ◌≤◌, List, [], ◌∷◌, ◌++◌, map, Option, Some, None, Bool, true, Result, Ok, Err, refl, sym, ap, subst, ◌∙◌, ◌==◌, arith}
use Rattle.std.specs.Prelude.{◌||◌, option_map, option_to_list, All, Contains, IfSome, filter_map, codes}
use Rattle.std.specs.List.{cons_option}
use Rattle.std.proofs.lemmas.Bool.{false≢true, eq-eqb}
use Rattle.dwc_rules.specs.Wrappers.{is_wrapped, is_wrapped_too}
use Rattle.dwc_base.specs.declared.records.OutputFor.{OutputFor}
use Rattle.dwc_base.specs.declared.records.OutputFor.TheVariants.{Default, Debugger}
use Rattle.dwc_base.specs.declared.constants.TheConstants.{DW_AT_location, DW_AT_name, DW_AT_type, DW_TAG_pointer_type, DW_TAG_reference_type, DW_TAG_subprogram, DW_TAG_variable}
use Rattle.dwc_dwarf.specs.Entries.{Entry}
use Rattle.dwc_native.specs.Functions.{Function}
use Rattle.dwc_rules.specs.Kept.{Placed}
use Rattle.dwc_rules.specs.Refusals.{of_place}
use Rattle.dwc_rules.specs.Carried.{Module, Compilation}
use Rattle.dwc_dwarf.specs.ReadUnits.{Unit}
use Rattle.dwc_rules.specs.KeptModules.{carried_in, kept_in}
use Rattle.dwc_dwarf.specs.Trees.{Location, text, locations, entry, TreeEntry, Tree, set_in_order}
use Rattle.dwc_rules.specs.Drafts.{Goal, Draft, itself, synthetic_entry}
use Rattle.dwc_rules.specs.DraftForests.{is_made_of, settled_entry}
use Rattle.dwc_rules.specs.SyntheticUnit.{place_of_context_pointer}
use Rattle.dwc_native.specs.Parts.{context_label}
use Rattle.dwc_native.specs.Placed.{Frame}
use Rattle.dwc_native.specs.BuiltExpressions.{BuildRefusal, label_over}
use Rattle.dwc_rules.specs.LocationRules.{ExpressionSource, in_force_at}
use Rattle.dwc_rules.specs.Wrappers.{is_wrapped, wrapper, wrapper_types, wrapper_refusals}
use Rattle.dwc_rules.specs.ContextVariable.{context_in, context_over, context_pointer, context_variable, context_entries, locations_or_none, location_refusals}
use Rattle.dwc_rules.specs.Clones.{entry_refusals, attributes_become, if_refused}
use Rattle.dwc_rules.specs.EntryRules.{of_build, wrappers_of, refused_behind}
use Rattle.dwc_rules.specs.CarriedDrafts.{source_of, draft_told, entry_made}
use Rattle.dwc_native.specs.ScopesKept.{AreNumbered, TranslationsKeepScopes}
use Rattle.dwc_carried.specs.LocationsCarried.{SaysWhere}
use Rattle.dwc_carried.specs.ContextsCarried.{IsContext, BeginWithContext, CarriesContext, EachBehind, UnitHasContexts, ContextsCarried}
use Rattle.dwc_carried.specs.Forests.{rules_of, wanted_units, is_big, drafts_of, first_refusal, module_refusals, trees_made}
use Rattle.dwc_rules.specs.ModuleDrafts.{expressions_of}
use Rattle.dwc_rules.specs.CarriedUnits.{kept_of}
use Rattle.dwc_carried.specs.SimulatedFunctions.{is_begun}
use Rattle.dwc_base.proofs.InLists.{IsIn, contains-in}
use Rattle.dwc_carried.proofs.EntryOffsets.{same-entry, kept-placed, carried-read}
use Rattle.dwc_rules.proofs.ForestLaws.{Each}
use Rattle.dwc_carried.proofs.MadeDrafts.{made-at, IfMade, wrapper-made}
use Rattle.dwc_rules.proofs.DraftGroups.{Groups, none, more, StaysTogether, groups-made}
use Rattle.dwc_carried.proofs.LocationScopes.{label-says, scope-kept}
use Rattle.dwc_carried.proofs.LocationForest.{both-none, in-unit, kept-accepted, none-refused}
use Rattle.dwc_carried.proofs.UnitsMade.{last-always, units-made}
use Rattle.dwc_rules.proofs.AllIn.{all-in}

-- ---- the variable

-- the variable in a tree, where its type may be somewhere
abbrev variable_told : ℕ → List Location → Option (ℕ × ℕ) → TreeEntry
variable_told depth ls place = record {
  depth = depth;
  tag = DW_TAG_variable;
  attributes = set_in_order ((DW_AT_name, text (codes "__vmctx")) ∷ cons_option (option_map (λ v. (DW_AT_type, v)) (option_map (λ p. entry p.0 p.1) place)) ((DW_AT_location, locations ls) ∷ []));
}

is-context : (fs : List Function) (frame : Option Frame) (depth : ℕ) (scope : List (ℕ × ℕ)) (ls : List Location) (place : Option (ℕ × ℕ)) → SaysWhere fs frame scope (context_label ∷ []) (map (λ l. l.over) ls) → IsContext fs frame depth scope (variable_told depth ls place)
is-context fs frame depth scope ls None says = record { below = refl; tag = refl; name = refl; located = ls; lies = refl; says = says }
is-context fs frame depth scope ls (Some p) says = record { below = refl; tag = refl; name = refl; located = ls; lies = refl; says = says }

-- what an entry gets where the context lies somewhere, or not
abbrev entries_for : ExpressionSource → Placed → Option (Result (List Location) BuildRefusal) → List Draft
entries_for c p o = option_to_list (option_map (λ located. context_variable (suc p.entry.depth) (context_pointer c) (locations_or_none located)) o)

module _ (c : ExpressionSource) (keep : TranslationsKeepScopes c.functions) (numbered : AreNumbered c.functions) (places : Goal → Option (ℕ × ℕ)) where
  -- Behind a subprogram stands the variable of the context, if that is not refused.
  context-carried : (p : Placed) → location_refusals (context_over c p) ≡ [] → (rest : List Draft) → CarriesContext c p (map (settled_entry places) (context_entries c p ++ rest))
  unfolding context_over in_force_at
  context-carried p accepted rest tag = go (in_force_at c p).scope refl
    where
      at_all : context_over c p ≡ context_in (in_force_at c p)
      at_all = rw (eq-eqb p.entry.tag DW_TAG_subprogram tag, context_over) refl

      Begins : List (ℕ × ℕ) → List Draft → Type 0
      Begins scope ds = BeginWithContext c.functions (in_force_at c p).surroundings.frame (suc p.entry.depth) scope (map (settled_entry places) (ds ++ rest))

      go : (o : Option (List (ℕ × ℕ))) → (in_force_at c p).scope ≡ o → IfSome o (λ scope. BeginWithContext c.functions (in_force_at c p).surroundings.frame (suc p.entry.depth) scope (map (settled_entry places) (context_entries c p ++ rest)))
      go None is = tt
      go (Some scope) is = here (label_over (in_force_at c p).surroundings scope context_label) refl
        where
          over : context_over c p ≡ Some (label_over (in_force_at c p).surroundings scope context_label)
          over = at_all ∙ ap (option_map (λ sc. label_over (in_force_at c p).surroundings sc context_label)) is

          here : (r : Result (List Location) BuildRefusal) → label_over (in_force_at c p).surroundings scope context_label ≡ r → BeginWithContext c.functions (in_force_at c p).surroundings.frame (suc p.entry.depth) scope (map (settled_entry places) (context_entries c p ++ rest))
          here (Ok ls) lies =
              let says = label-says (in_force_at c p).surroundings scope context_label ls (scope-kept c.functions keep numbered scope) lies in
              subst (λ o. BeginWithContext c.functions (in_force_at c p).surroundings.frame (suc p.entry.depth) scope (map (settled_entry places) (entries_for c p o ++ rest))) (sym (over ∙ ap Some lies))
              (is-context c.functions (in_force_at c p).surroundings.frame (suc p.entry.depth) scope ls (places (synthetic_entry (place_of_context_pointer c.told.memory))) says)
          here (Err refusal) lies =
              let refused : location_refusals (context_over c p) ≡ refusal ∷ [] = ap location_refusals (over ∙ ap Some lies) in
              absurd (cc)

-- ---- what is refused

map-none : {A B : Type 0} (f : A → B) (xs : List A) → map f xs ≡ [] → xs ≡ []
map-none f [] h = refl
map-none f (x ∷ xs) h = absurd (cc)

-- of an entry of which nothing is refused the place of the context is not
context-accepted : (m : Module) → module_refusals m ≡ [] → (u : Unit) (p : Placed) → IsIn u (carried_in (kept_of m)) → IsIn p (kept_in (kept_of m) u) → location_refusals (context_over (expressions_of m u) p) ≡ []
unfolding entry_refusals
context-accepted m accepted u p carried kept =
    let c = expressions_of m u in
    let none = kept-accepted m accepted u p carried kept in
    let behind = (both-none (filter_map (λ a. if_refused a.1) (attributes_become (rules_of m u) (source_of (kept_of m) u) p [] p.entry.attributes)) (refused_behind c p) none).1 in
    map-none (of_build c.told.place) (location_refusals (context_over c p)) (both-none (map of_place (wrapper_refusals (wrappers_of c) p)) (map (of_build c.told.place) (location_refusals (context_over c p))) behind).1

-- ---- a unit

module _ (big_endian : Bool) (m : Module) (keep : TranslationsKeepScopes m.functions) (numbered : AreNumbered m.functions) (accepted : module_refusals m ≡ []) (u : Unit) (carried : IsIn u (carried_in (kept_of m))) (places : Goal → Option (ℕ × ℕ)) where
  abbrev kept_here : List Placed
  kept_here = kept_in (kept_of m) u

  abbrev made_here : Placed → List Draft
  made_here p = entry_made (expressions_of m u) (source_of (kept_of m) u) big_endian p

  -- what is said of an entry and of those behind it
  abbrev SaysBehind : Draft → Tree → Type 0
  SaysBehind d behind = (e : Entry) → Contains u.entries e → is_made_of e.offset itself d ≡ true → CarriesContext (expressions_of m u) (record { unit = u.header.offset; entry = e }) behind

  abbrev AllSay : List Draft → Type 0
  AllSay ds = EachBehind SaysBehind ds (map (settled_entry places) ds)

  -- a group that stays together, and in front of others leaves what is said of them
  abbrev Leads : List Draft → Type 0
  Leads g = StaysTogether g × ((rest : List Draft) → AllSay rest → AllSay (g ++ rest))

  groups-say : (ds : List Draft) → Groups Leads ds → AllSay ds
  groups-say ds none = tt
  groups-say ds (more g rest leads h) = leads.1 rest (groups-say rest h)

  entry-is : (p : Placed) → IsIn p kept_here → (e : Entry) → Contains u.entries e → p.entry.offset ≡ e.offset → p.entry ≡ e
  entry-is p i e among same = same-entry m.sections u p e (carried-read m u carried) (kept-placed m u p i) (contains-in u.entries e among) same

  placed-is : (p : Placed) → IsIn p kept_here → (e : Entry) → p.entry ≡ e → p ≡ record { unit = u.header.offset; entry = e }
  placed-is p i e same = ap (λ n. record { unit = n; entry = p.entry }) (in-unit m u p i) ∙ ap (λ (x : Entry). record { unit = u.header.offset; entry = x }) same

  -- what an entry becomes by itself, with the variable behind it
  plain-leads : (p : Placed) → IsIn p kept_here → Leads (made_here p)
  plain-leads p i = (together (context_over (expressions_of m u) p), λ rest says. (first rest, others (context_over (expressions_of m u) p) rest says))
    where
      together : (o : Option (Result (List Location) BuildRefusal)) → Each (λ x. p.entry.depth ≤ x.depth) (entries_for (expressions_of m u) p o)
      together None = tt
      together (Some located) = (omega arith, tt)

      first : (rest : List Draft) → SaysBehind (draft_told (expressions_of m u) (source_of (kept_of m) u) big_endian p) (map (settled_entry places) (context_entries (expressions_of m u) p ++ rest))
      first rest e among made =
          subst (λ (q : Placed). CarriesContext (expressions_of m u) q (map (settled_entry places) (context_entries (expressions_of m u) p ++ rest)))
          (placed-is p i e (entry-is p i e among (made-at e.offset (draft_told (expressions_of m u) (source_of (kept_of m) u) big_endian p) p.entry.offset refl made)))
          (context-carried (expressions_of m u) keep numbered places p (context-accepted m accepted u p carried i) rest)

      others : (o : Option (Result (List Location) BuildRefusal)) (rest : List Draft) → AllSay rest → AllSay (entries_for (expressions_of m u) p o ++ rest)
      others None rest says = says
      others (Some located) rest says = (λ e among made. absurd (false≢true made), says)

  -- what is said of an entry that is made of the one at an offset, whatever stands behind it
  abbrev SaysAnyway : ℕ → Draft → Type 0
  SaysAnyway offset d = (e : Entry) → Contains u.entries e → e.offset ≡ offset → (behind : Tree) → CarriesContext (expressions_of m u) (record { unit = u.header.offset; entry = e }) behind

  group-leads : (g : List Draft) → StaysTogether g → Each (IfMade SaysAnyway) g → Leads g
  group-leads g together each = (together, λ rest says. go g each rest says)
    where
      go : (ds : List Draft) → Each (IfMade SaysAnyway) ds → (rest : List Draft) → AllSay rest → AllSay (ds ++ rest)
      go [] h rest says = says
      go (d ∷ ds) h rest says = (λ e among made. h.0 e.offset made e among refl (map (settled_entry places) (ds ++ rest)), go ds h.1 rest says)

  -- both parts of a wrapper, which is no subprogram
  wrapper-leads : (p : Placed) → IsIn p kept_here → is_wrapped m.told.output p ≡ true → Leads (wrapper (wrappers_of (expressions_of m u)) p) × Leads (wrapper_types (wrappers_of (expressions_of m u)) p)
  wrapper-leads p i wrapped =
      let parts = wrapper-made SaysAnyway (wrappers_of (expressions_of m u)) p (λ d e among same behind tag. no-subprogram e (entry-is p i e among (sym same)) tag) in (
        group-leads (wrapper (wrappers_of (expressions_of m u)) p) (omega arith, (omega arith, (omega arith, (omega arith, (omega arith, (omega arith, (omega arith, (omega arith, tt)))))))) parts.0,
        group-leads (wrapper_types (wrappers_of (expressions_of m u)) p) (omega arith, (omega arith, tt)) parts.1,
      )
    where
      no-subprogram : (e : Entry) → p.entry ≡ e → {A : Type 0} → e.tag ≡ DW_TAG_subprogram → A
      no-subprogram e same tag =
          let here : is_wrapped m.told.output (record { unit = p.unit; entry = e }) ≡ true = subst (λ (x : Entry). is_wrapped m.told.output (record { unit = p.unit; entry = x }) ≡ true) same wrapped in
          absurd (false≢true (sym (none m.told.output) ∙ subst (λ n. ((n == DW_TAG_pointer_type) || (n == DW_TAG_reference_type) || is_wrapped_too m.told.output n) ≡ true) tag here))
        where
          none : (o : OutputFor) → is_wrapped_too o DW_TAG_subprogram ≡ false
          none Default = refl
          none Debugger = refl

  unit-leads : AllSay (drafts_of big_endian (record { module_of = m; unit = u }))
  unit-leads =
      groups-say (drafts_of big_endian (record { module_of = m; unit = u }))
      (groups-made Leads (λ g leads. leads.0) (wrappers_of (expressions_of m u)) made_here kept_here (λ p i is. plain-leads p i) (λ p i is. wrapper-leads p i is))

-- The trees that are made of an input of which nothing is refused, whose functions have good maps and numbers of their own, carry its
-- contexts.
pub made-contexts : (c : Compilation) → All (λ (m : Module). AreNumbered m.functions) c.modules → ((fs : List Function) → TranslationsKeepScopes fs) → first_refusal c ≡ None
    → ContextsCarried (drafts_of (is_big c.order)) (wanted_units c) (trees_made c)
made-contexts c numbered keep accepted =
    units-made c (UnitHasContexts (drafts_of (is_big c.order))) (λ t. tt)
    (λ m i u carried places. unit-leads (is_big c.order) m (keep m.functions) (all-in (λ (n : Module). AreNumbered n.functions) c.modules m numbered i) (none-refused c accepted m i) u carried places)
    (last-always (UnitHasContexts (drafts_of (is_big c.order))) (is_begun c.modules) (λ name ms t. tt) c.next_id c.modules)
