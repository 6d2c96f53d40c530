-- An entry that is not wrapped is the one that is drafted, with the variable of the context behind it.
use Rattle.std.proofs.Common.{◌≡◌, ℕ, zero, suc, ◌<◌, refl, sym, ap, subst, ◌∙◌, arith, List, [], ◌∷◌, ◌++◌, length, map, Option, Some, None, Result}
use Rattle.std.specs.Prelude.{codes, get_or, option_map, option_to_list}
use Rattle.std.specs.List.{All}
use Rattle.std.proofs.lemmas.List.Elements.{All-cons, All-nil}
use Rattle.dwc_base.specs.declared.constants.TheConstants.{DW_AT_location, DW_AT_name, DW_AT_type, DW_TAG_variable}
use Rattle.dwc_native.specs.BuiltExpressions.{BuildRefusal}
use Rattle.dwc_rules.specs.CarriedDrafts.{draft_told}
use Rattle.dwc_rules.specs.Clones.{UnitSource}
use Rattle.dwc_rules.specs.ContextVariable.{context_entries, context_over, context_pointer, context_variable, locations_or_none}
use Rattle.dwc_rules.specs.Drafts.{Draft, Goal, Role}
use Rattle.dwc_rules.specs.DraftForests.{settled_entry}
use Rattle.dwc_rules.specs.Kept.{Placed}
use Rattle.dwc_rules.specs.SyntheticUnit.{place_of_context_pointer}
use Rattle.dwc_dwarf.specs.Trees as trees
use Rattle.dwc_dwarf.specs.Trees.{Location, TreeEntry, TreeValue, entry, set_in_order}
use Rattle.dwc_isa.specs.Registers.{Registers}
use Rattle.dwc_expr.specs.Builds.{location_view}
use Rattle.dwc_isa.specs.ToldModules.{memory_view}
use Rattle.dwc_unit.specs.declared.attributes.AttributeValue.TheVariants.{DebugInfoRef, LocationListRef, StringRef}
use Rattle.dwc_unit.specs.declared.units.UnitEntryId.{UnitEntryId}
use Rattle.dwc_unit.specs.GivenLines.{GivenLines}
use Rattle.dwc_unit.specs.GivenUnits.{Addition, GivenUnit, IsPlaceBelow, IsReserved, place_of, set_in_addition, with_child, with_known, with_next, with_value}
use Rattle.dwc_unit.specs.UsedTexts.{text_numbered, texts_of_attributes}
use Rattle.dwc_unit.specs.AddedInOrder.{attribute_meant, entry_meant, value_meant}
use Rattle.dwc_unit.proofs.AddedInOrderUnits.{last-set, place-last}
use Rattle.dwc_unit.proofs.NumberLaws.{child-entry, child-last, known-same, leads-entry, leads-known}
use Rattle.dwc_source.specs.declared.source.CloneSource.{CloneSource}
use Rattle.dwc_clone.specs.ClonedUnits.{draft_depths, goal_number}
use Rattle.dwc_extents.specs.CodeSources.{source_with}
use Rattle.dwc_clone.specs.ClonedEntries.{IsGiven, IsLast, IsLastAt, IsLastOf}
use Rattle.dwc_clone.specs.ContextPlaces.{HasContext, HasVariable}
use Rattle.dwc_source.specs.OutputPlaces as output
use Rattle.dwc_source.specs.Sources.{IsSource, synthetic_unit_of}
use Rattle.dwc_clone.specs.BuiltUnits.{IsDrafted, rootless}
use Rattle.dwc_clone.specs.PlainEntries.{values_whole}
use Rattle.dwc_clone.proofs.DraftedUnits.{Extends, Follows, drafted-more, extended, last-here, unit_behind}
use Rattle.dwc_clone.proofs.DraftSteps.{Adds, bare, known-keeps, known_places, next-keeps, next_places}
use Rattle.dwc_clone.proofs.EntryValues.{grows-not}
use Rattle.dwc_clone.proofs.OpenStacks.{adds-none}
use Rattle.dwc_clone.proofs.PlainDrafts.{wanted-entry}

module _ (registers : Registers) (c : CloneSource) (number : ℕ) (s : UnitSource) (source : IsSource c number s) (roles : ℕ → Role → Option ℕ) (p : Placed) where
  abbrev at : Goal → Option (ℕ × ℕ)
  at = goal_number c number roles

  abbrev LastOf : List Draft → ℕ → GivenUnit → UnitEntryId → Type 0
  LastOf ds depth u id = IsLastAt (draft_depths ds) depth u id

  -- ---- the entry itself

  abbrev pub told : Draft
  told = draft_told (source_with registers c s) s c.big_endian p

  -- what it was given is what it is to say
  given-means : (old new : List (List ℕ)) (base : GivenUnit) (g : Addition) (parent : ℕ) (v : GivenUnit) (given : IsGiven number old new (values_whole registers c s p at) base (bare parent p.entry.tag) v) → entry_meant new number p.entry.depth given.given ≡ settled_entry at told
  given-means old new base g parent v given =
      let whole : ℕ → List (ℕ × TreeValue) → TreeEntry = λ tag values. record { depth = p.entry.depth; tag = tag; attributes = values } in
      ap (λ tag. whole tag (map (attribute_meant new number) (given.given).attributes)) given.tag
      ∙ ap (whole p.entry.tag) given.means
      ∙ sym (wanted-entry registers c s p at source.texts)

  -- A bare entry was added last, under a number that was reserved.
  pub own-last : (texts : List (List ℕ)) (ds : List Draft) (u v : GivenUnit) (above : ℕ) (parent id : UnitEntryId) (last : LastOf ds above u parent) → IsReserved id.index u → v ≡ with_child parent.index p.entry.tag (with_known id.index u) → IsLast texts id (with_known id.index u) (bare last.place p.entry.tag) v
  own-last texts ds u v above parent id last reserved is = record {
    number = known-same u id.index reserved.0;
    is = is ∙ child-last (with_known id.index u) parent.index last.place p.entry.tag (known-keeps id.index u reserved.1 parent.index last.place last.at);
    names = All-nil (λ n. n < length texts);
  }

  -- What it is given then makes it the one that is drafted.
  pub given-adds : (old new : List (List ℕ)) (ds : List Draft) (u v : GivenUnit) (above : ℕ) (parent id : UnitEntryId) → IsDrafted at number old ds u → p.entry.depth ≡ suc above → (last : LastOf ds above u parent) → IsReserved id.index u → output.place_of c.places.now p.entry.offset ≡ Some (number, id.index)
      → IsGiven number old new (values_whole registers c s p at) (with_known id.index u) (bare last.place p.entry.tag) v
      → Adds at number new p.entry.depth ds (told ∷ []) u v × LastOf (ds ++ told ∷ []) p.entry.depth v id
  given-adds old new ds u v above parent id so depth last reserved placed given =
      let places = known_places id.index u in
      let g = given.given in
      let f : Follows at number old new ds u told g id.index places = record {
        above = above;
        depth = depth;
        parent = subst (λ n. IsLastOf (draft_depths ds) above n) (sym given.parent) last.last;
        means = given-means old new (with_known id.index u) g last.place v given;
        texts = given.texts;
        here = known-same u id.index reserved.0;
        kept = known-keeps id.index u reserved.1;
        told = placed;
        leads = leads-known u id.index g so.leads;
      } in (
        record {
          drafted = subst (IsDrafted at number new (ds ++ told ∷ [])) (sym given.is) (drafted-more at number old new given.grows ds u so told g id.index places f);
          extends = subst (λ w. Extends p.entry.depth (draft_depths ds) (draft_depths (ds ++ told ∷ [])) u w) (sym given.is) (extended at number old new given.grows ds u so told g id.index places f);
        },
        subst (λ w. LastOf (ds ++ told ∷ []) p.entry.depth w id) (sym given.is) (last-here at number old new given.grows ds u so told g id.index places f),
      )

  -- ---- the root

  pub root-drafted : (old new : List (List ℕ)) (version size : ℕ) (lines : GivenLines) (places : List (Option ℕ)) (v : GivenUnit) → p.entry.depth ≡ 0 → place_of 0 places ≡ Some 0 → All (IsPlaceBelow 1) places → output.place_of c.places.now p.entry.offset ≡ Some (number, 0)
      → IsGiven number old new (values_whole registers c s p at) (rootless version size lines places) (bare 0 p.entry.tag) v
      → IsDrafted at number new (told ∷ []) v × LastOf (told ∷ []) p.entry.depth v (record { index = 0 })
  root-drafted old new version size lines places v depth first below placed given = (
    subst (IsDrafted at number new (told ∷ [])) (sym given.is) record {
      order = record { counted = refl; some = omega arith; root = depth; parents = λ place above within. absurd (omega (arith, above, within)) };
      leads = below;
      numbers = 0 ∷ [];
      numbered = record { counted = refl; places = λ place within. at_first place within; told = (placed, tt) };
      says = ap (λ (x : TreeEntry). x ∷ []) (given-means old new (rootless version size lines places) given.given 0 v given);
      names = All-cons (λ (a : Addition). All (λ n. n < length new) (texts_of_attributes a.attributes)) given.given [] given.texts (All-nil (λ (a : Addition). All (λ n. n < length new) (texts_of_attributes a.attributes)));
    },
    subst (λ w. LastOf (told ∷ []) p.entry.depth w (record { index = 0 })) (sym given.is) record {
      place = 0;
      at = first;
      last = record { within = omega arith; here = refl; behind = λ j after low. absurd (omega (arith, after, low)) };
    },
  )
    where
      at_first : (place : ℕ) → place < 1 → place_of (get_or (0 ∷ []) place 0) places ≡ Some place
      at_first zero within = first
      at_first (suc place) within = absurd (omega (arith, within))

  -- ---- the variable of the context

  module _ (texts : List (List ℕ)) where
    variable-follows : (ds : List Draft) (u v : GivenUnit) (parent : UnitEntryId) (expected : Result (List Location) BuildRefusal) → IsDrafted at number texts ds u → LastOf ds p.entry.depth u parent → HasContext expected parent.index c.vmctx_ptr texts u v
        → Adds at number texts (suc p.entry.depth) ds (context_variable (suc p.entry.depth) (context_pointer (source_with registers c s)) (locations_or_none expected) ∷ []) u v
    variable-follows ds u v parent expected so last has =
        let deep = suc p.entry.depth in
        let d = context_variable deep (context_pointer (source_with registers c s)) (locations_or_none expected) in
        let places = next_places u in
        let id = length u.places in
        let here = place-last u.places (Some (length u.additions)) in
        let e0 = bare last.place DW_TAG_variable in
        let e1 = set_in_addition DW_AT_name (StringRef has.name) e0 in
        let e2 = set_in_addition DW_AT_type (DebugInfoRef c.vmctx_ptr) e1 in
        let e3 = set_in_addition DW_AT_location (LocationListRef has.list) e2 in
        let set : GivenUnit → GivenUnit = λ w. with_value id DW_AT_location (LocationListRef has.list) (with_value id DW_AT_type (DebugInfoRef c.vmctx_ptr) (with_value id DW_AT_name (StringRef has.name) w)) in
        let is : v ≡ unit_behind u e3 places =
        has.is
        ∙ ap set (child-entry u parent.index last.place DW_TAG_variable last.at)
        ∙ ap (λ w. with_value id DW_AT_location (LocationListRef has.list) (with_value id DW_AT_type (DebugInfoRef c.vmctx_ptr) w)) (last-set (with_next u) e0 id DW_AT_name (StringRef has.name) here)
        ∙ ap (with_value id DW_AT_location (LocationListRef has.list)) (last-set (with_next u) e1 id DW_AT_type (DebugInfoRef c.vmctx_ptr) here)
        ∙ last-set (with_next u) e2 id DW_AT_location (LocationListRef has.list) here in
        let tree : List ℕ → TreeValue → List Location → TreeEntry = λ name type located. record { depth = deep; tag = DW_TAG_variable; attributes = (DW_AT_name, trees.text name) ∷ (DW_AT_type, type) ∷ (DW_AT_location, trees.locations located) ∷ [] } in
        let f : Follows at number texts texts ds u d e3 id places = record {
          above = p.entry.depth;
          depth = refl;
          parent = last.last;
          means =
              ap (λ r. tree (text_numbered texts has.name.index) (value_meant texts number (DebugInfoRef r)) (map location_view has.list.locations.items)) source.context
              ∙ ap (λ name. tree name (entry (synthetic_unit_of c) (place_of_context_pointer (memory_view c.module.memory))) (map location_view has.list.locations.items)) (has.named).is
              ∙ ap (λ (r : Result (List Location) BuildRefusal). tree (codes "__vmctx") (entry (synthetic_unit_of c) (place_of_context_pointer (memory_view c.module.memory))) (locations_or_none r)) (sym has.located);
          texts = All-cons (λ n. n < length texts) has.name.index [] (has.named).inside (All-nil (λ n. n < length texts));
          here = here;
          kept = next-keeps u;
          told = tt;
          leads = leads-entry u e3 so.leads;
        } in
        record {
          drafted = subst (IsDrafted at number texts (ds ++ d ∷ [])) (sym is) (drafted-more at number texts texts (grows-not texts) ds u so d e3 id places f);
          extends = subst (λ w. Extends deep (draft_depths ds) (draft_depths (ds ++ d ∷ [])) u w) (sym is) (extended at number texts texts (grows-not texts) ds u so d e3 id places f);
        }

    -- Behind the entry the variable stands, where there is one.
    pub variable-adds : (ds : List Draft) (u v : GivenUnit) (parent : UnitEntryId) → IsDrafted at number texts ds u → LastOf ds p.entry.depth u parent → HasVariable (context_over (source_with registers c s) p) parent.index c.vmctx_ptr texts u v
        → Adds at number texts (suc p.entry.depth) ds (context_entries (source_with registers c s) p) u v
    variable-adds ds u v parent so last has = go (context_over (source_with registers c s) p) has
      where
        go : (o : Option (Result (List Location) BuildRefusal)) → HasVariable o parent.index c.vmctx_ptr texts u v
            → Adds at number texts (suc p.entry.depth) ds (option_to_list (option_map (λ located. context_variable (suc p.entry.depth) (context_pointer (source_with registers c s)) (locations_or_none located)) o)) u v
        go None same = subst (Adds at number texts (suc p.entry.depth) ds [] u) (sym same) (adds-none registers c number s source roles texts (suc p.entry.depth) ds u so)
        go (Some expected) one = variable-follows ds u v parent expected so last one
