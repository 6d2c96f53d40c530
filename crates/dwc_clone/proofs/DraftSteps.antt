-- Entries that are added one behind another in the place of drafts: under the next number, and under one that was reserved.
use Rattle.std.proofs.Common.{◌≡◌, ◌≢◌, ℕ, zero, suc, ◌<◌, ◌≤◌, refl, sym, ap, subst, ◌∙◌, arith, List, [], ◌∷◌, ◌++◌, length, append_assoc, Option, Some, None}
use Rattle.std.specs.Prelude.{IfSome, fold, slice_set}
use Rattle.std.specs.List.{All}
use Rattle.dwc_rules.specs.Drafts.{Draft, Goal, made_of}
use Rattle.dwc_rules.specs.DraftForests.{settled_entry}
use Rattle.dwc_unit.specs.declared.units.UnitEntryId.{UnitEntryId}
use Rattle.dwc_unit.specs.GivenUnits.{Addition, GivenUnit, IsReserved, place_of, set_in_addition, with_child, with_known, with_next}
use Rattle.dwc_unit.specs.UsedTexts.{texts_of_attributes}
use Rattle.dwc_unit.specs.AddedInOrder.{entry_meant, with_last}
use Rattle.dwc_unit.specs.Renumbered.{LeadsToEntries}
use Rattle.dwc_unit.proofs.AddedInOrderUnits.{last-set, place-last}
use Rattle.dwc_unit.proofs.NumberLaws.{leads-entry, leads-known, child-entry, child-last, known-same, place-before, place-set-other}
use Rattle.dwc_clone.specs.declared.made.MadeValue.{MadeValue}
use Rattle.dwc_clone.specs.MadeAttributes.{given_value, with_made_entry, with_values}
use Rattle.dwc_clone.specs.ClonedUnits.{HasNumber, draft_depths}
use Rattle.dwc_clone.specs.ClonedEntries.{IsLastAt, IsLastOf}
use Rattle.dwc_clone.specs.BuiltUnits.{IsDrafted}
use Rattle.dwc_clone.proofs.DraftedUnits.{Extends, Follows, KeepsPlaces, drafted-more, extended, extends-less, extends-on, last-here, unit_behind}
use Rattle.dwc_clone.proofs.EntryValues.{grows-not}

-- an entry without attributes, and one that was given some
abbrev pub bare : ℕ → ℕ → Addition
bare parent tag = record { parent = parent; tag = tag; attributes = [] }

abbrev pub given_in : List (ℕ × MadeValue) → Addition → Addition
given_in attributes e = fold (λ x a. set_in_addition a.0 (given_value a.1) x) e attributes

pub values-last : (id : ℕ) (attributes : List (ℕ × MadeValue)) (u : GivenUnit) (e : Addition) → place_of id u.places ≡ Some (length u.additions) → with_values id attributes (with_last e u) ≡ with_last (given_in attributes e) u
values-last id [] u e at = refl
values-last id (a ∷ others) u e at = ap (with_values id others) (last-set u e id a.0 (given_value a.1) at) ∙ values-last id others u (set_in_addition a.0 (given_value a.1) e) at

given-parent : (attributes : List (ℕ × MadeValue)) (e : Addition) → (given_in attributes e).parent ≡ e.parent
given-parent [] e = refl
given-parent (a ∷ others) e = given-parent others (set_in_addition a.0 (given_value a.1) e)

-- ---- the places of numbers

abbrev pub next_places : GivenUnit → List (Option ℕ)
next_places u = u.places ++ Some (length u.additions) ∷ []

abbrev pub known_places : ℕ → GivenUnit → List (Option ℕ)
known_places id u = slice_set u.places id (Some (length u.additions))

-- a number that has a place stands among them
within : (id place : ℕ) (ps : List (Option ℕ)) → place_of id ps ≡ Some place → id < length ps
within id place [] is = absurd (cc)
within zero place (p ∷ ps) is = omega arith
within (suc id) place (p ∷ ps) is = omega (arith, within id place ps is)

pub next-keeps : (u : GivenUnit) → KeepsPlaces u.places (next_places u)
next-keeps u id place is = place-before id u.places (Some (length u.additions) ∷ []) (within id place u.places is) ∙ is

pub known-keeps : (id : ℕ) (u : GivenUnit) → place_of id u.places ≡ None → KeepsPlaces u.places (known_places id u)
known-keeps id u none other place is = place-set-other other id u.places (Some (length u.additions)) apart ∙ is
  where
    clash : (o : Option ℕ) → o ≡ None → o ≡ Some place → ⊥
    clash None a b = absurd (cc)
    clash (Some x) a b = absurd (cc)

    apart : other ≢ id
    apart same = clash (place_of id u.places) none (ap (λ n. place_of n u.places) (sym same) ∙ is)

pub made-last : (u : GivenUnit) (parent place tag : ℕ) (attributes : List (ℕ × MadeValue)) → place_of parent u.places ≡ Some place
    → with_made_entry parent tag attributes u ≡ unit_behind u (given_in attributes (bare place tag)) (next_places u)
made-last u parent place tag attributes at =
    ap (with_values (length u.places) attributes) (child-entry u parent place tag at)
    ∙ values-last (length u.places) attributes (with_next u) (bare place tag) (place-last u.places (Some (length u.additions)))

pub known-last : (u : GivenUnit) (id parent place tag : ℕ) (attributes : List (ℕ × MadeValue)) → place_of parent u.places ≡ Some place → IsReserved id u
    → with_values id attributes (with_child parent tag (with_known id u)) ≡ unit_behind u (given_in attributes (bare place tag)) (known_places id u)
known-last u id parent place tag attributes at reserved =
    ap (with_values id attributes) (child-last (with_known id u) parent place tag (known-keeps id u reserved.1 parent place at))
    ∙ values-last id attributes (with_known id u) (bare place tag) (known-same u id reserved.0)

-- ---- drafts more

-- Drafts were added behind others, none higher than at a depth.
pub record Adds (goals : Goal → Option (ℕ × ℕ)) (number : ℕ) (texts : List (List ℕ)) (from : ℕ) (ds es : List Draft) (u v : GivenUnit) : Type 0 where
  pub drafted : IsDrafted goals number texts (ds ++ es) v
  pub extends : Extends from (draft_depths ds) (draft_depths (ds ++ es)) u v

pub adds-on : (goals : Goal → Option (ℕ × ℕ)) (number : ℕ) (texts : List (List ℕ)) (from to : ℕ) (ds es fs : List Draft) (u v w : GivenUnit) → from ≤ to → Adds goals number texts from ds es u v → Adds goals number texts to (ds ++ es) fs v w → Adds goals number texts from ds (es ++ fs) u w
adds-on goals number texts from to ds es fs u v w less first second = record {
  drafted = subst (λ xs. IsDrafted goals number texts xs w) (append_assoc ds es fs) second.drafted;
  extends = subst (λ xs. Extends from (draft_depths ds) (draft_depths xs) u w) (append_assoc ds es fs)
      (extends-on from (draft_depths ds) (draft_depths (ds ++ es)) (draft_depths ((ds ++ es) ++ fs)) u v w first.extends (extends-less to from (draft_depths (ds ++ es)) (draft_depths ((ds ++ es) ++ fs)) v w less second.extends));
}

-- An entry that is made of none of the input needs no number.
told-none : (goals : Goal → Option (ℕ × ℕ)) (number : ℕ) (d : Draft) (id : ℕ) → d.origin ≡ None → HasNumber goals number d id
told-none goals number d id none = subst (λ o. IfSome o (λ x. goals (made_of x.0 x.1) ≡ Some (number, id))) (sym none) tt

-- What attributes say is what a draft says.
pub record Means (goals : Goal → Option (ℕ × ℕ)) (number : ℕ) (texts : List (List ℕ)) (tag : ℕ) (attributes : List (ℕ × MadeValue)) (d : Draft) : Type 0 where
  pub says : entry_meant texts number d.depth (given_in attributes (bare 0 tag)) ≡ settled_entry goals d
  pub names : All (λ n. n < length texts) (texts_of_attributes (given_in attributes (bare 0 tag)).attributes)

given-same : (attributes : List (ℕ × MadeValue)) (e f : Addition) → e.tag ≡ f.tag → e.attributes ≡ f.attributes → ((given_in attributes e).tag ≡ (given_in attributes f).tag) × ((given_in attributes e).attributes ≡ (given_in attributes f).attributes)
given-same [] e f tag same = (tag, same)
given-same (a ∷ others) e f tag same = given-same others (set_in_addition a.0 (given_value a.1) e) (set_in_addition a.0 (given_value a.1) f) tag (ap (λ xs. (set_in_addition a.0 (given_value a.1) (record { parent = 0; tag = 0; attributes = xs })).attributes) same)

module _ (goals : Goal → Option (ℕ × ℕ)) (number : ℕ) (texts : List (List ℕ)) (ds : List Draft) (u : GivenUnit) (so : IsDrafted goals number texts ds u) (parent : UnitEntryId) (above : ℕ) (at : IsLastAt (draft_depths ds) above u parent)
    (tag : ℕ) (attributes : List (ℕ × MadeValue)) (d : Draft) (depth : d.depth ≡ suc above) (means : Means goals number texts tag attributes d) where
  abbrev pub added : Addition
  added = given_in attributes (bare at.place tag)

  pub follows : (id : ℕ) (places : List (Option ℕ)) → place_of id places ≡ Some (length u.additions) → KeepsPlaces u.places places → HasNumber goals number d id → LeadsToEntries (unit_behind u added places) → Follows goals number texts texts ds u d added id places
  follows id places here kept told leads =
      let same = given-same attributes (bare at.place tag) (bare 0 tag) refl refl in
      record {
        above = above;
        depth = depth;
        parent = subst (λ p. IsLastOf (draft_depths ds) above p) (sym (given-parent attributes (bare at.place tag))) at.last;
        means = ap (λ t. entry_meant texts number d.depth (record { parent = 0; tag = t; attributes = added.attributes })) same.0
            ∙ ap (λ xs. entry_meant texts number d.depth (record { parent = 0; tag = (given_in attributes (bare 0 tag)).tag; attributes = xs })) same.1 ∙ means.says;
        texts = subst (λ xs. All (λ n. n < length texts) (texts_of_attributes xs)) (sym same.1) means.names;
        here = here;
        kept = kept;
        told = told;
        leads = leads;
      }

  -- under the next number
  pub made-adds : d.origin ≡ None → Adds goals number texts d.depth ds (d ∷ []) u (with_made_entry parent.index tag attributes u) × IsLastAt (draft_depths (ds ++ d ∷ [])) d.depth (with_made_entry parent.index tag attributes u) (record { index = length u.places })
  made-adds none =
      let places = next_places u in
      let f = follows (length u.places) places (place-last u.places (Some (length u.additions))) (next-keeps u) (told-none goals number d (length u.places) none) (leads-entry u added so.leads) in
      let is = sym (made-last u parent.index at.place tag attributes at.at) in (
        record {
          drafted = subst (IsDrafted goals number texts (ds ++ d ∷ [])) is (drafted-more goals number texts texts (grows-not texts) ds u so d added (length u.places) places f);
          extends = subst (λ v. Extends d.depth (draft_depths ds) (draft_depths (ds ++ d ∷ [])) u v) is (extended goals number texts texts (grows-not texts) ds u so d added (length u.places) places f);
        },
        subst (λ v. IsLastAt (draft_depths (ds ++ d ∷ [])) d.depth v (record { index = length u.places })) is (last-here goals number texts texts (grows-not texts) ds u so d added (length u.places) places f),
      )

  -- under a number that was reserved
  pub known-adds : (id : ℕ) → IsReserved id u → HasNumber goals number d id → Adds goals number texts d.depth ds (d ∷ []) u (with_values id attributes (with_child parent.index tag (with_known id u)))
  known-adds id reserved told =
      let places = known_places id u in
      let f = follows id places (known-same u id reserved.0) (known-keeps id u reserved.1) told (leads-known u id added so.leads) in
      let is = sym (known-last u id parent.index at.place tag attributes at.at reserved) in
      record {
        drafted = subst (IsDrafted goals number texts (ds ++ d ∷ [])) is (drafted-more goals number texts texts (grows-not texts) ds u so d added id places f);
        extends = subst (λ v. Extends d.depth (draft_depths ds) (draft_depths (ds ++ d ∷ [])) u v) is (extended goals number texts texts (grows-not texts) ds u so d added id places f);
      }
