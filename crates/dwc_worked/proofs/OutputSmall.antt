-- The units of an output for the small module: their form, what their entries say, and names and texts.
use Rattle.std.proofs.Common.{◌≡◌, ◌≢◌, ℕ, List, [], ◌∷◌, ◌++◌, get_or, refl, ap, sym, subst, ◌∙◌, inl, inr, arith, suc, Option, Some, None, Bool, true, false, true≢false, ◌==◌, map}
use Rattle.std.specs.Prelude.{AllPairs, Contains, drop, is_some, if◌then◌else◌, ◌&&◌}
use Rattle.std.proofs.lemmas.List.Elements.{All-cons, All-nil}
use Rattle.std.proofs.lemmas.List.Kept.{AllPairs-cons}
use Rattle.dwc_base.specs.declared.records.OutputFor.TheVariants.{Default}
use Rattle.dwc_base.specs.declared.records.Endian.TheVariants.{Little}
use Rattle.dwc_base.specs.Outputs.{OutputSection, output_sections}
use Rattle.dwc_dwarf.specs.ReadUnits.{Unit, units}
use Rattle.dwc_dwarf.specs.TreeLaws.{HasAllTargets, HasTextsOnce}
use Rattle.dwc_worked.proofs.DraftsOnLiterals.{drafts_on_literals}
use Rattle.dwc_output.specs.OutputForm.{HaveTargetForm, HasDistinctNames}
use Rattle.dwc_dwarf.specs.Entries.{Entry}
use Rattle.dwc_dwarf.specs.Lists.{list_source}
use Rattle.dwc_carried.specs.Forests.{module_units, drafts_of}
use Rattle.dwc_rules.specs.ModuleDrafts.{expressions_of}
use Rattle.dwc_carried.specs.LocationsCarried.{SaysWhere, CarriesLocations, LocationsCarried}
use Rattle.dwc_carried.specs.ContextsCarried.{IsContext, CarriesContext, ContextsCarried}
use Rattle.dwc_native.specs.Functions.{Function}
use Rattle.dwc_native.specs.Compiled.{Place, no_memory}
use Rattle.dwc_native.specs.Parts.{context_label}
use Rattle.dwc_native.specs.Placed.{Frame, all_placed}
use Rattle.dwc_rules.specs.Drafts.{itself, Draft}
use Rattle.dwc_rules.specs.DraftForests.{is_made_of}
use Rattle.dwc_rules.specs.ScopesCarried.{scope_to_keep, CarriesScope, ScopesCarried}
use Rattle.dwc_native.specs.ScopesKept.{is_shown_in, IsInOneOf, cover_byte}
use Rattle.dwc_dwarf.specs.Trees.{Location, TreeEntry, TreeValue, locations}
use Rattle.dwc_native.specs.Runs.{interval_of}
use Rattle.dwc_worked.proofs.SyntheticTrees.{context_entry}
use Rattle.dwc_dwarf.specs.Values.{Value, is_location_name}
use Rattle.dwc_rules.proofs.ForestLaws.{Each, none_is}
use Rattle.dwc_base.proofs.InLists.{IsIn, contains-in}
use Rattle.dwc_worked.proofs.LineTables.{function_small}
use Rattle.dwc_worked.proofs.Readings.{sections_small, header_small}
use Rattle.dwc_worked.proofs.CarriedSmall.{module_small, unit_small, synthetic_unit_out, unit_out, output-read, output_small, compilation_small}
use Rattle.dwc_worked.proofs.TreesSmall.{tree_small, trees_small}

abbrev pub HasForm : Unit → Type 0
HasForm u = (u.header.version ≡ 4) × (u.header.address_size ≡ 8)

pub form-small : HaveTargetForm 4 8 (units (output_sections Little output_small)).items
form-small = rw output-read (All-cons HasForm synthetic_unit_out (unit_out ∷ []) (refl, refl) (All-cons HasForm unit_out [] (refl, refl) (All-nil HasForm)))

abbrev pub Differ : OutputSection → OutputSection → Type 0
Differ x y = x.name ≢ y.name

abbrev no_section : OutputSection
no_section = record { name = []; body = []; relocations = [] }

pub none-differ : AllPairs Differ []
none-differ i j d less within = absurd (omega arith)

-- the names differ at their eighth letter: a, i, l, l, s; and two of them at their ninth: i, o
abbrev letter : List ℕ → ℕ
letter name = get_or name 7 0

abbrev next_letter : List ℕ → ℕ
next_letter name = get_or name 8 0

apart-1 : ◌≡◌ {A = ℕ} 97 105 → ⊥
apart-1 e = omega (arith, e)

apart-2 : ◌≡◌ {A = ℕ} 97 108 → ⊥
apart-2 e = omega (arith, e)

apart-3 : ◌≡◌ {A = ℕ} 97 115 → ⊥
apart-3 e = omega (arith, e)

apart-4 : ◌≡◌ {A = ℕ} 105 108 → ⊥
apart-4 e = omega (arith, e)

apart-5 : ◌≡◌ {A = ℕ} 105 115 → ⊥
apart-5 e = omega (arith, e)

apart-6 : ◌≡◌ {A = ℕ} 108 115 → ⊥
apart-6 e = omega (arith, e)

apart-7 : ◌≡◌ {A = ℕ} 105 111 → ⊥
apart-7 e = omega (arith, e)

pub names-small : HasDistinctNames output_small
names-small =
    let first = get_or output_small 0 no_section in
    let second = get_or output_small 1 no_section in
    let third = get_or output_small 2 no_section in
    let fourth = get_or output_small 3 no_section in
    let fifth = get_or output_small 4 no_section in
    let of_first = All-cons (Differ first) second (third ∷ fourth ∷ fifth ∷ []) (λ e. apart-1 (ap letter e)) (All-cons (Differ first) third (fourth ∷ fifth ∷ []) (λ e. apart-2 (ap letter e)) (All-cons (Differ first) fourth (fifth ∷ []) (λ e. apart-2 (ap letter e)) (All-cons (Differ first) fifth [] (λ e. apart-3 (ap letter e)) (All-nil (Differ first))))) in
    let of_second = All-cons (Differ second) third (fourth ∷ fifth ∷ []) (λ e. apart-4 (ap letter e)) (All-cons (Differ second) fourth (fifth ∷ []) (λ e. apart-4 (ap letter e)) (All-cons (Differ second) fifth [] (λ e. apart-5 (ap letter e)) (All-nil (Differ second)))) in
    let of_third = All-cons (Differ third) fourth (fifth ∷ []) (λ e. apart-7 (ap next_letter e)) (All-cons (Differ third) fifth [] (λ e. apart-6 (ap letter e)) (All-nil (Differ third))) in
    let of_fourth = All-cons (Differ fourth) fifth [] (λ e. apart-6 (ap letter e)) (All-nil (Differ fourth)) in
    AllPairs-cons Differ first (second ∷ third ∷ fourth ∷ fifth ∷ []) of_first
    (AllPairs-cons Differ second (third ∷ fourth ∷ fifth ∷ []) of_second
    (AllPairs-cons Differ third (fourth ∷ fifth ∷ []) of_third
    (AllPairs-cons Differ fourth (fifth ∷ []) of_fourth
    (AllPairs-cons Differ fifth [] (All-nil (Differ fifth)) none-differ))))

pub targets-small : HasAllTargets trees_small
targets-small = refl

pub texts-small : HasTextsOnce (output_sections Little output_small)
unfolding drafts_on_literals
texts-small = refl

-- the root has no code, and the subprogram is its function whole
no-scope : (e : Entry) → IsIn e unit_small.entries → scope_to_keep Default (list_source sections_small header_small) (function_small ∷ []) (record { unit = unit_small.header.offset; entry = e }) ≡ None
unfolding drafts_on_literals
no-scope e (inl same) = ap (λ e. scope_to_keep Default (list_source sections_small header_small) (function_small ∷ []) (record { unit = unit_small.header.offset; entry = e })) same
no-scope e (inr (inl same)) = ap (λ e. scope_to_keep Default (list_source sections_small header_small) (function_small ∷ []) (record { unit = unit_small.header.offset; entry = e })) same
no-scope e (inr (inr none)) = absurd none

carries-no_scope : (e : Entry) (out : TreeEntry) → Contains unit_small.entries e → CarriesScope Default (list_source sections_small header_small) (function_small ∷ []) (record { unit = unit_small.header.offset; entry = e }) out
carries-no_scope e out among = λ scope kept. absurd (none_is scope (sym (no-scope e (contains-in unit_small.entries e among)) ∙ kept))

abbrev said_at : ℕ → TreeEntry
said_at place = get_or tree_small place (record { depth = 0; tag = 0; attributes = [] })

abbrev draft_at : ℕ → Draft
draft_at place = get_or (drafts_of false (record { module_of = module_small; unit = unit_small })) place (record { depth = 0; tag = 0; origin = None; attributes = [] })

pub scopes-small : ScopesCarried (drafts_of false) (module_units compilation_small) trees_small
unfolding drafts_on_literals
scopes-small = (tt, (((λ e among made. carries-no_scope e (said_at 0) among), ((λ e among made. carries-no_scope e (said_at 1) among), ((λ e among made. carries-no_scope e (said_at 2) among), tt))), tt))

-- none of their attributes has the name of a location
none-named : {A : Type 0} (P : A → Type 0) (before after as' : List A) (a : A) → Each P as' → as' ≡ before ++ a ∷ after → P a
none-named P [] after as' a each are = (subst (Each P) are each).0
none-named P (b ∷ before) after as' a each are = none-named P before after (before ++ a ∷ after) a (subst (Each P) are each).1 refl

Unnamed : ℕ × Value → Type 0
Unnamed a = is_location_name a.0 ≡ false

carries-no_location : (e : Entry) (out : TreeEntry) → Contains unit_small.entries e → CarriesLocations (expressions_of module_small unit_small) (record { unit = unit_small.header.offset; entry = e }) out
unfolding Unnamed
carries-no_location e out among = λ before after a plain stays are named last. absurd (true≢false (sym named ∙ none-named Unnamed before after e.attributes a (here e (contains-in unit_small.entries e among)) are))
  where
    here : (e : Entry) → IsIn e unit_small.entries → Each Unnamed e.attributes
    here e (inl same) = rw same (refl, tt)
    here e (inr (inl same)) = rw same (refl, (refl, tt))
    here e (inr (inr none)) = absurd none

pub locations-small : LocationsCarried (drafts_of false) (module_units compilation_small) trees_small
unfolding drafts_on_literals
locations-small = (tt, (((λ e among made. carries-no_location e (said_at 0) among), ((λ e among made. carries-no_location e (said_at 1) among), ((λ e among made. carries-no_location e (said_at 2) among), tt))), tt))

-- ---- the context

and-none : (b : Bool) → b && false ≡ false
and-none true = refl
and-none false = refl

-- over a scope whose labels have no place anywhere no intervals say where
nowhere-says : (fs : List Function) (frame : Option Frame) (scope : List (ℕ × ℕ)) (labels : List ℕ) → ((function byte : ℕ) → all_placed frame labels function byte ≡ false) → SaysWhere fs frame scope labels []
nowhere-says fs frame scope labels nowhere = record {
  inside = All-nil (IsInOneOf fs);
  no_more = λ f byte source among named distinct covered told. absurd (true≢false (sym covered));
  have_places = λ function byte covered. absurd (true≢false (sym covered));
  no_less = λ interval f byte source among found distinct inside told from to placed. absurd (true≢false (sym placed ∙ nowhere f.number byte));
  exact = λ f byte for_debugger among named inside. sym (ap (λ b. is_shown_in fs scope f byte && b) (nowhere f.number byte) ∙ and-none (is_shown_in fs scope f byte));
}

-- nothing is told of the context of the function
abbrev frame_small : Frame
frame_small = record { function = Some 0; ranges_of = λ label. []; memory = no_memory }

no-place : (function byte : ℕ) → all_placed (Some frame_small) (context_label ∷ []) function byte ≡ false
no-place function byte = go (0 == function)
  where
    go : (own : Bool) → (is_some {T = Place} (if own then None else None) && true) ≡ false
    go true = refl
    go false = refl

context-small : IsContext (function_small ∷ []) (Some frame_small) 2 ((2, 13) ∷ []) (said_at 2)
context-small = record { below = refl; tag = refl; name = refl; located = []; lies = refl; says = nowhere-says (function_small ∷ []) (Some frame_small) ((2, 13) ∷ []) (context_label ∷ []) no-place }

-- a variable that says that the context lies in the whole function is none, since nothing is told of it
abbrev whole_function : List Location
whole_function = record { over = interval_of 0 (0, 30); bytes = 0x5E ∷ [] } ∷ []

abbrev locations_of : Option TreeValue → List Location
locations_of (Some (locations ls)) = ls
locations_of _ = []

not_context-small : IsContext (function_small ∷ []) (Some frame_small) 2 ((2, 13) ∷ []) (context_entry 2 0 6 whole_function) → ⊥
not_context-small h =
    let covered : cover_byte (map (λ l. l.over) h.located) 0 0 ≡ true = subst (λ ls. cover_byte (map (λ l. l.over) ls) 0 0 ≡ true) (ap locations_of h.lies) refl in
    true≢false (sym (h.says.have_places 0 0 covered) ∙ no-place 0 0)

-- what stands behind an entry of the small tree, for an entry of the small unit
abbrev LeadsAt : ℕ → Entry → Type 0
LeadsAt place e = is_made_of e.offset itself (draft_at place) ≡ true → CarriesContext (expressions_of module_small unit_small) (record { unit = 0; entry = e }) (drop (suc place) tree_small)

root-leads : (e : Entry) → IsIn e unit_small.entries → LeadsAt 0 e
unfolding drafts_on_literals
root-leads e (inl same) = subst (LeadsAt 0) (sym same) (λ made tag. absurd (omega (arith, tag)))
root-leads e (inr (inl same)) = subst (LeadsAt 0) (sym same) (λ made. absurd (true≢false (sym made)))
root-leads e (inr (inr none)) = absurd none

subprogram-leads : (e : Entry) → IsIn e unit_small.entries → LeadsAt 1 e
unfolding drafts_on_literals
subprogram-leads e (inl same) = subst (LeadsAt 1) (sym same) (λ made. absurd (true≢false (sym made)))
subprogram-leads e (inr (inl same)) = subst (LeadsAt 1) (sym same) (λ made tag. context-small)
subprogram-leads e (inr (inr none)) = absurd none

pub contexts-small : ContextsCarried (drafts_of false) (module_units compilation_small) trees_small
unfolding drafts_on_literals
contexts-small = (tt, (((λ e among. root-leads e (contains-in unit_small.entries e among)), ((λ e among. subprogram-leads e (contains-in unit_small.entries e among)), ((λ e among made. absurd (true≢false (sym made))), tt))), tt))
