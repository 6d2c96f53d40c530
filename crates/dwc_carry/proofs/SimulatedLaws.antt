-- Entries of the unit for functions without debugging information, put one behind another, say their drafts.
use Rattle.std.proofs.Common.{◌≡◌, ℕ, suc, ◌+◌, ◌<◌, refl, sym, ap, subst, ◌∙◌, arith, List, [], ◌∷◌, ◌++◌, length, map, Option, Some, None, Ok, All}
use Rattle.std.specs.Prelude.{IfSome, codes}
use Rattle.std.proofs.lemmas.List.{map-append}
use Rattle.std.proofs.lemmas.List.Elements.{All-nil, All-cons}
use Rattle.std.specs.List.{AllZip}
use Rattle.dwc_base.specs.declared.constants.TheConstants.{DW_ATE_float, DW_ATE_signed}
use Rattle.dwc_native.specs.BuiltExpressions.{Surroundings, label_over}
use Rattle.dwc_rules.specs.Carried.{Module}
use Rattle.dwc_carried.specs.DefinedFunctions.{DefinedFunction}
use Rattle.dwc_rules.specs.DraftForests.{settled_entry}
use Rattle.dwc_rules.specs.Drafts.{Draft}
use Rattle.dwc_rules.specs.Scopes.{source_range}
use Rattle.dwc_native.specs.Functions.{Function}
use Rattle.dwc_native.specs.Parts.{context_label}
use Rattle.dwc_carried.specs.SimulatedUnit.{base_type, base_types, context_entry, first_source, function_entry, function_index, function_name, label_locations, local_entry, local_name, local_tag, surroundings_of}
use Rattle.dwc_unit.specs.declared.attributes.DebugInfoRef.{DebugInfoRef}
use Rattle.dwc_unit.specs.declared.attributes.DebugInfoRef.TheVariants.{Entry}
use Rattle.dwc_unit.specs.LocationLists.{LocationList}
use Rattle.dwc_unit.specs.declared.strings.StringId.{StringId}
use Rattle.dwc_unit.specs.AddedInOrder.{IsInOrder, with_entry}
use Rattle.dwc_unit.specs.GivenUnits.{Addition, GivenUnit}
use Rattle.dwc_unit.specs.Lists.{location_of}
use Rattle.dwc_unit.proofs.AddedInOrderUnits.{numbered-leads, place-last}
use Rattle.dwc_clone.specs.ClonedEntries.{IsLastOf}
use Rattle.dwc_clone.specs.ClonedUnits.{draft_depths}
use Rattle.dwc_clone.specs.ContextPlaces.{HasContext}
use Rattle.dwc_source.specs.KnownTexts.{IsNumbered}
use Rattle.dwc_source.specs.MadeValues.{Grows}
use Rattle.dwc_clone.proofs.DraftedUnits.{Follows, drafted-more, drafted-texts}
use Rattle.dwc_clone.proofs.DraftSteps.{next-keeps, next_places}
use Rattle.dwc_clone.proofs.EntryPaths.{last-before, last-new}
use Rattle.dwc_clone.proofs.EntryValues.{grows-not}
use Rattle.dwc_carry.specs.declared.simulated_entries.TypeTexts.{TypeTexts}
use Rattle.dwc_carry.specs.MadeEntries.{with_additions}
use Rattle.dwc_carry.specs.SyntheticUnits.{reference_meant}
use Rattle.dwc_carry.specs.SimulatedAdditions.{context_addition, local_addition, subprogram_addition, type_addition, type_additions, type_names, type_texts_of}
use Rattle.dwc_carry.specs.SimulatedDrafts.{HasFunction, IsSimulated, SaysDraft}
use Rattle.dwc_carry.proofs.MadeAdditions.{entry-dense}
use Rattle.dwc_carry.proofs.SimulatedAdded.{variable-added}

-- ---- file order

-- The root is the last entry of its depth.
pub root-last : (ds : List ℕ) (u : GivenUnit) → IsInOrder ds u → IsLastOf ds 0 0
root-last ds u order =
    let same = order.counted in
    let some = order.some in
    record {
      within = omega (arith, same, some);
      here = order.root;
      behind = λ j after low. let own = order.parents j after (omega (arith, low, same)) in let deep = own.depth in omega (arith, deep);
    }

-- ---- entries more

module _ (number : ℕ) (old new : List (List ℕ)) (grows : Grows old new) (ds : List Draft) (u : GivenUnit) (so : IsSimulated number old ds u) (d : Draft) (e : Addition) (says : SaysDraft number new d e) where
  depths-more : draft_depths (ds ++ d ∷ []) ≡ draft_depths ds ++ d.depth ∷ []
  depths-more = map-append (λ (x : Draft). x.depth) ds (d ∷ [])

  -- below the last entry of the depth above its own
  pub entry-simulated : (above : ℕ) → d.depth ≡ suc above → IsLastOf (draft_depths ds) above e.parent → IsSimulated number new (ds ++ d ∷ []) (with_entry e u)
  entry-simulated above depth parent = record {
    drafted = drafted-more (λ goal. None) number old new grows ds u so.drafted d e (length u.places) (next_places u) follows;
    dense = entry-dense u e so.dense;
  }
    where
      follows : Follows (λ goal. None) number old new ds u d e (length u.places) (next_places u)
      follows = record {
        above = above;
        depth = depth;
        parent = parent;
        means = says.means;
        texts = says.names;
        here = place-last u.places (Some (length u.additions));
        kept = next-keeps u;
        told = subst (λ o. IfSome o (λ x. ◌≡◌ {A = Option (ℕ × ℕ)} None (Some (number, length u.places)))) (sym says.origin) tt;
        leads = numbered-leads (with_entry e u) (entry-dense u e so.dense);
      }

  -- below the root
  pub child-simulated : d.depth ≡ 1 → e.parent ≡ 0 → HasFunction number new (ds ++ d ∷ []) (length u.additions) (with_entry e u)
  child-simulated depth parent =
      let order = so.drafted.order in
      record {
        simulated = entry-simulated 0 depth (subst (IsLastOf (draft_depths ds) 0) (sym parent) (root-last (draft_depths ds) u order));
        last = subst (λ xs. IsLastOf xs 1 (length u.additions)) (sym (depths-more ∙ ap (λ n. draft_depths ds ++ n ∷ []) depth)) (subst (IsLastOf (draft_depths ds ++ 1 ∷ []) 1) order.counted (last-new (draft_depths ds) 1));
      }

  -- below the last function
  pub variable-simulated : (place : ℕ) → IsLastOf (draft_depths ds) 1 place → d.depth ≡ 2 → e.parent ≡ place → HasFunction number new (ds ++ d ∷ []) place (with_entry e u)
  variable-simulated place last depth parent = record {
    simulated = entry-simulated 1 depth (subst (IsLastOf (draft_depths ds) 1) (sym parent) last);
    last = subst (λ xs. IsLastOf xs 1 place) (sym depths-more) (last-before (draft_depths ds) d.depth 1 place last (omega (arith, depth)));
  }

-- A table of texts that has grown changes nothing.
pub texts-simulated : (number : ℕ) (old new : List (List ℕ)) (ds : List Draft) (u : GivenUnit) → Grows old new → IsSimulated number old ds u → IsSimulated number new ds u
texts-simulated number old new ds u grows so = record { drafted = drafted-texts (λ goal. None) number old new grows ds u so.drafted; dense = so.dense }

-- ---- what entries say

module _ (number : ℕ) (texts : List (List ℕ)) where
  abbrev In : ℕ → Type 0
  In n = n < length texts

  one-in : (t : List ℕ) (id : StringId) → IsNumbered texts t id → All In (id.index ∷ [])
  one-in t id known = All-cons In id.index [] known.inside (All-nil In)

  -- a base type
  pub says-type : (t : List ℕ) (size encoding : ℕ) (name : StringId) → IsNumbered texts t name → SaysDraft number texts (base_type t size encoding) (type_addition name size encoding)
  says-type t size encoding name known = record {
    origin = refl;
    means = ap (λ x. settled_entry (λ goal. None) (base_type x size encoding)) known.is;
    names = one-in t name known;
  }

  -- a function
  pub says-function : (m : Module) (d : DefinedFunction) (name : StringId) (symbol size line : ℕ) → IsNumbered texts (function_name m (function_index m d)) name → symbol ≡ d.function.number → size ≡ d.function.length → line ≡ m.file.code_offset + first_source d.function
      → SaysDraft number texts (function_entry m d) (subprogram_addition name symbol size line)
  says-function m d name symbol size line known symbol_is size_is line_is =
      rw (symbol_is, size_is, line_is)
      record {
        origin = refl;
        means = rw known.is refl;
        names = one-in (function_name m (function_index m d)) name known;
      }

  -- a parameter or a variable
  pub says-local : (m : Module) (d : DefinedFunction) (n place parent : ℕ) (name : StringId) (list : LocationList) → IsNumbered texts (local_name m d n) name → label_locations m d.function n ≡ Ok (map location_of list.locations.items)
      → SaysDraft number texts (local_entry number m d n place) (local_addition parent (local_tag m d n) name place list)
  says-local m d n place parent name list known located = record {
    origin = refl;
    means = rw (known.is, located) refl;
    names = one-in (local_name m d n) name known;
  }

  -- the context, whose type is referred to
  pub says-context : (m : Module) (d : DefinedFunction) (parent : ℕ) (name : StringId) (type : DebugInfoRef) (list : LocationList) → IsNumbered texts (codes "__vmctx") name → label_locations m d.function context_label ≡ Ok (map location_of list.locations.items)
      → SaysDraft number texts (context_entry (reference_meant type) m d) (context_addition parent name type list)
  says-context m d parent name (Entry unit id) list known located = record {
    origin = refl;
    means = rw (known.is, located) refl;
    names = one-in (codes "__vmctx") name known;
  }

-- Where a label lies over all of a function, by what surrounds it.
pub located-is : (m : Module) (f : Function) (label : ℕ) (s : Surroundings) → s ≡ surroundings_of m f → label_over s (source_range f) label ≡ label_locations m f label
unfolding label_locations
located-is m f label s is = ap (λ x. label_over x (source_range f) label) is

-- ---- the whole of each call

-- The types of numbers, behind a root that stands alone.
pub types-simulated : (number : ℕ) (old new : List (List ℕ)) (root : Draft) (u : GivenUnit) (t : TypeTexts) → Grows old new → IsSimulated number old (root ∷ []) u → AllZip (IsNumbered new) type_names (type_texts_of t)
    → IsSimulated number new (root ∷ base_types) (with_additions (type_additions t) u)
types-simulated number old new root u t grows so known =
    let more = child-simulated number new new (grows-not new) in
    let says = says-type number new in
    let u1 = with_entry (type_addition t.int32 4 DW_ATE_signed) u in
    let u2 = with_entry (type_addition t.int64 8 DW_ATE_signed) u1 in
    let u3 = with_entry (type_addition t.float32 4 DW_ATE_float) u2 in
    let first = child-simulated number old new grows (root ∷ []) u so int32 (type_addition t.int32 4 DW_ATE_signed) (says (codes "i32") 4 DW_ATE_signed t.int32 known.0) refl refl in
    let second = more (root ∷ int32 ∷ []) u1 first.simulated int64 (type_addition t.int64 8 DW_ATE_signed) (says (codes "i64") 8 DW_ATE_signed t.int64 known.1.0) refl refl in
    let third = more (root ∷ int32 ∷ int64 ∷ []) u2 second.simulated float32 (type_addition t.float32 4 DW_ATE_float) (says (codes "f32") 4 DW_ATE_float t.float32 known.1.1.0) refl refl in
    let last = more (root ∷ int32 ∷ int64 ∷ float32 ∷ []) u3 third.simulated float64 (type_addition t.float64 8 DW_ATE_float) (says (codes "f64") 8 DW_ATE_float t.float64 known.1.1.1.0) refl refl in
    last.simulated
  where
    int32 : Draft
    int32 = base_type (codes "i32") 4 DW_ATE_signed

    int64 : Draft
    int64 = base_type (codes "i64") 8 DW_ATE_signed

    float32 : Draft
    float32 = base_type (codes "f32") 4 DW_ATE_float

    float64 : Draft
    float64 = base_type (codes "f64") 8 DW_ATE_float

module _ (number : ℕ) (old new : List (List ℕ)) (grows : Grows old new) (ds : List Draft) (m : Module) (d : DefinedFunction) where
  -- A function, behind all others.
  pub function-simulated : (u v : GivenUnit) (name : StringId) (symbol size line : ℕ) → IsSimulated number old ds u → IsNumbered new (function_name m (function_index m d)) name → symbol ≡ d.function.number → size ≡ d.function.length → line ≡ m.file.code_offset + first_source d.function
      → v ≡ with_entry (subprogram_addition name symbol size line) u → HasFunction number new (ds ++ function_entry m d ∷ []) (length u.additions) v
  function-simulated u v name symbol size line so known symbol_is size_is line_is is =
      subst (λ w. HasFunction number new (ds ++ function_entry m d ∷ []) (length u.additions) w) (sym is)
      (child-simulated number old new grows ds u so (function_entry m d) (subprogram_addition name symbol size line) (says-function number new m d name symbol size line known symbol_is size_is line_is) refl refl)

  -- A parameter or a variable of the last function.
  pub local-simulated : (u v : GivenUnit) (n place parent : ℕ) (name : StringId) (list : LocationList) → HasFunction number old ds parent u → IsNumbered new (local_name m d n) name → label_locations m d.function n ≡ Ok (map location_of list.locations.items)
      → v ≡ with_entry (local_addition parent (local_tag m d n) name place list) u → HasFunction number new (ds ++ local_entry number m d n place ∷ []) parent v
  local-simulated u v n place parent name list so known located is =
      subst (λ w. HasFunction number new (ds ++ local_entry number m d n place ∷ []) parent w) (sym is)
      (variable-simulated number old new grows ds u so.simulated (local_entry number m d n place) (local_addition parent (local_tag m d n) name place list) (says-local number new m d n place parent name list known located) parent so.last refl refl)

  -- The context of the last function, whose type is referred to.
  pub context-simulated : (u v : GivenUnit) (parent : ℕ) (type : DebugInfoRef) → HasFunction number old ds parent u → HasContext (label_locations m d.function context_label) parent type new u v
      → HasFunction number new (ds ++ context_entry (reference_meant type) m d ∷ []) parent v
  context-simulated u v parent type so has =
      let order = so.simulated.drafted.order in
      let within = so.last.within in
      let added = variable-added u parent has.name type has.list so.simulated.dense (omega (arith, within, order.counted)) in
      subst (λ w. HasFunction number new (ds ++ context_entry (reference_meant type) m d ∷ []) parent w) (sym (has.is ∙ added))
      (variable-simulated number old new grows ds u so.simulated (context_entry (reference_meant type) m d) (context_addition parent has.name type has.list) (says-context number new m d parent has.name type has.list has.named has.located) parent so.last refl refl)
