-- A unit of the output that is made of drafts: what it says, in which order, and under which numbers; and a draft more.
use Rattle.std.proofs.Common.{◌≡◌, ◌≢◌, ℕ, suc, ◌+◌, ◌<◌, ◌≤◌, refl, sym, ap, ap₂, subst, ◌∙◌, arith, List, [], ◌∷◌, ◌++◌, length, length-append, get_or, Bool, true, false, eqb, Option, Some}
use Rattle.std.specs.Prelude.{flat_map}
use Rattle.std.specs.List.{All, AllZip}
use Rattle.std.proofs.lemmas.Bool.{eqb-true, eqb-false}
use Rattle.std.proofs.lemmas.List.{get_or_append_left, get_or_push, map-append}
use Rattle.std.proofs.lemmas.List.Elements.{All-append, All-head, All-nil, All-push, All-tail, All-weaker}
use Rattle.dwc_rules.specs.Drafts.{Draft, Goal}
use Rattle.dwc_rules.specs.DraftForests.{settled_entry}
use Rattle.dwc_unit.specs.declared.units.UnitEntryId.{UnitEntryId}
use Rattle.dwc_unit.specs.GivenUnits.{Addition, GivenUnit, place_of, with_places}
use Rattle.dwc_unit.specs.UsedTexts.{texts_of_attributes}
use Rattle.dwc_unit.specs.AddedInOrder.{AreInOrder, entry_meant, tree_meant, with_last}
use Rattle.dwc_unit.specs.Renumbered.{LeadsToEntries}
use Rattle.dwc_unit.proofs.AddedInOrderUnits.{in-order-more}
use Rattle.dwc_unit.proofs.AddedInOrderValues.{tree-meant-more, tree-more}
use Rattle.dwc_source.specs.MadeValues.{Grows}
use Rattle.dwc_clone.specs.BuiltUnits.{IsDrafted}
use Rattle.dwc_clone.specs.ClonedUnits.{HasNumber, draft_depths}
use Rattle.dwc_clone.specs.ClonedEntries.{ArePath, IsLastAt, IsLastOf}
use Rattle.dwc_clone.proofs.EntryPaths.{last-before, last-new}
use Rattle.dwc_clone.proofs.EntryValues.{texts-on}

-- ---- lists side by side

zip-push : {A B : Type 0} (R : A → B → Type 0) (xs : List A) (ys : List B) (x : A) (y : B) → AllZip R xs ys → R x y → AllZip R (xs ++ x ∷ []) (ys ++ y ∷ [])
zip-push R [] [] x y zip here = (here, tt)
zip-push R [] (b ∷ ys) x y zip here = absurd zip
zip-push R (a ∷ xs) [] x y zip here = absurd zip
zip-push R (a ∷ xs) (b ∷ ys) x y zip here = (zip.0, zip-push R xs ys x y zip.1 here)

-- ---- what a unit is made of

-- Numbers that were those of entries stay so.
abbrev pub KeepsPlaces : List (Option ℕ) → List (Option ℕ) → Type 0
KeepsPlaces old new = (id place : ℕ) → place_of id old ≡ Some place → place_of id new ≡ Some place

-- What is added behind some entries lies no higher than at a depth: the last entries of the depths above it stay so.
pub record Extends (from : ℕ) (before behind : List ℕ) (u v : GivenUnit) : Type 0 where
  pub places : KeepsPlaces u.places v.places
  pub last : (depth place : ℕ) → depth < from → IsLastOf before depth place → IsLastOf behind depth place
  pub version : v.version ≡ u.version
  pub size : v.address_size ≡ u.address_size
  pub lines : v.lines ≡ u.lines

pub extends-not : (from : ℕ) (ds : List ℕ) (u : GivenUnit) → Extends from ds ds u u
extends-not from ds u = record { places = λ id place is. is; last = λ depth place above last. last; version = refl; size = refl; lines = refl }

pub extends-on : (from : ℕ) (ds es fs : List ℕ) (u v w : GivenUnit) → Extends from ds es u v → Extends from es fs v w → Extends from ds fs u w
extends-on from ds es fs u v w first second = record {
  places = λ id place is. second.places id place (first.places id place is);
  last = λ depth place above last. second.last depth place above (first.last depth place above last);
  version = second.version ∙ first.version;
  size = second.size ∙ first.size;
  lines = second.lines ∙ first.lines;
}

pub extends-less : (from to : ℕ) (ds es : List ℕ) (u v : GivenUnit) → to ≤ from → Extends from ds es u v → Extends to ds es u v
extends-less from to ds es u v less e = record { places = e.places; last = λ depth place above last. e.last depth place (omega (arith, above, less)) last; version = e.version; size = e.size; lines = e.lines }

pub last-extended : (from : ℕ) (ds es : List ℕ) (u v : GivenUnit) → Extends from ds es u v → (depth : ℕ) (id : UnitEntryId) → depth < from → IsLastAt ds depth u id → IsLastAt es depth v id
last-extended from ds es u v e depth id above last = record { place = last.place; at = e.places id.index last.place last.at; last = e.last depth last.place above last.last }

-- the entries of a path above the depth stay its entries
pub path-extended : (from : ℕ) (ds es : List ℕ) (u v : GivenUnit) → Extends from ds es u v → (depth : ℕ) (ps : List UnitEntryId) → depth + length ps ≤ from → ArePath ds depth u ps → ArePath es depth v ps
path-extended from ds es u v e depth [] fits path = tt
path-extended from ds es u v e depth (p ∷ ps) fits path = (last-extended from ds es u v e depth p (omega (arith, fits)) path.0, path-extended from ds es u v e (suc depth) ps (omega (arith, fits)) path.1)

-- ---- a draft more

flat-all : (P : ℕ → Type 0) (xs : List Addition) → All (λ (x : Addition). All P (texts_of_attributes x.attributes)) xs → All P (flat_map (λ (x : Addition). texts_of_attributes x.attributes) xs)
flat-all P [] all = All-nil P
flat-all P (x ∷ xs) all = All-append P (texts_of_attributes x.attributes) _ (All-head (λ (y : Addition). All P (texts_of_attributes y.attributes)) x xs all) (flat-all P xs (All-tail (λ (y : Addition). All P (texts_of_attributes y.attributes)) x xs all))

-- a unit with an entry more, and some places of numbers
abbrev pub unit_behind : GivenUnit → Addition → List (Option ℕ) → GivenUnit
unit_behind u g places = with_last g (with_places places u)

-- an entry more, behind others, in the place of a draft
pub record Follows (goals : Goal → Option (ℕ × ℕ)) (number : ℕ) (old new : List (List ℕ)) (ds : List Draft) (u : GivenUnit) (d : Draft) (g : Addition) (id : ℕ) (places : List (Option ℕ)) : Type 0 where
  pub above : ℕ
  pub depth : d.depth ≡ suc above
  pub parent : IsLastOf (draft_depths ds) above g.parent
  pub means : entry_meant new number d.depth g ≡ settled_entry goals d
  pub texts : All (λ n. n < length new) (texts_of_attributes g.attributes)
  pub here : place_of id places ≡ Some (length u.additions)
  pub kept : KeepsPlaces u.places places
  pub told : HasNumber goals number d id
  pub leads : LeadsToEntries (unit_behind u g places)

module _ (goals : Goal → Option (ℕ × ℕ)) (number : ℕ) (old new : List (List ℕ)) (grows : Grows old new) (ds : List Draft) (u : GivenUnit) where
  abbrev depths : List ℕ
  depths = draft_depths ds

  depths-more : (d : Draft) → draft_depths (ds ++ d ∷ []) ≡ depths ++ d.depth ∷ []
  depths-more d = map-append (λ (x : Draft). x.depth) ds (d ∷ [])

  meant-more : All (λ (a : Addition). All (λ n. n < length old) (texts_of_attributes a.attributes)) u.additions → tree_meant new number depths u.additions ≡ tree_meant old number depths u.additions
  meant-more names = ap (λ t. tree_meant t number depths u.additions) grows.is ∙ tree-meant-more old grows.more number depths u.additions (flat-all (λ k. k < length old) u.additions names)

  names-more : All (λ (a : Addition). All (λ n. n < length old) (texts_of_attributes a.attributes)) u.additions → All (λ (a : Addition). All (λ n. n < length new) (texts_of_attributes a.attributes)) u.additions
  names-more names = All-weaker (λ (a : Addition). All (λ n. n < length old) (texts_of_attributes a.attributes)) (λ (a : Addition). All (λ n. n < length new) (texts_of_attributes a.attributes)) (λ a known. texts-on old new (texts_of_attributes a.attributes) grows known) u.additions names

  -- A table that has grown changes nothing.
  pub drafted-texts : IsDrafted goals number old ds u → IsDrafted goals number new ds u
  drafted-texts so = record { order = so.order; leads = so.leads; numbers = so.numbers; numbered = so.numbered; says = meant-more so.names ∙ so.says; names = names-more so.names }

  module _ (so : IsDrafted goals number old ds u) (d : Draft) (g : Addition) (id : ℕ) (places : List (Option ℕ)) (f : Follows goals number old new ds u d g id places) where
    abbrev v : GivenUnit
    v = unit_behind u g places

    numbers-more : (i : ℕ) → i < length (so.numbers ++ id ∷ []) → (b : Bool) → eqb i (length so.numbers) ≡ b → place_of (get_or (so.numbers ++ id ∷ []) i 0) places ≡ Some i
    numbers-more i within true is =
        ap (λ n. place_of n places) (get_or_push so.numbers id 0 i (sym (eqb-true i (length so.numbers) is)))
        ∙ f.here ∙ ap Some (sym (so.numbered).counted ∙ sym (eqb-true i (length so.numbers) is))
    numbers-more i within false is =
        let apart : i ≢ length so.numbers = eqb-false i (length so.numbers) is in
        let low : i < length so.numbers = omega (arith, within, apart, length-append so.numbers (id ∷ [])) in
        ap (λ n. place_of n places) (get_or_append_left so.numbers (id ∷ []) 0 i low) ∙ f.kept (get_or so.numbers i 0) i ((so.numbered).places i low)

    pub drafted-more : IsDrafted goals number new (ds ++ d ∷ []) v
    drafted-more =
        let order = so.order in
        let same = order.counted in
        let last = f.parent in
        let inside = last.within in
        let here = last.here in
        let deep = f.depth in
        record {
          order = subst (λ xs. AreInOrder xs v.additions) (sym (depths-more d))
              (in-order-more depths d.depth u g order (omega (arith, inside, same)) (omega (arith, here, deep)) (λ j after low. omega (arith, last.behind j after (omega (arith, low, same)), deep)));
          leads = f.leads;
          numbers = so.numbers ++ id ∷ [];
          numbered = record {
            counted = length-append so.numbers (id ∷ []) ∙ ap (λ n. n + 1) (so.numbered).counted ∙ sym (length-append u.additions (g ∷ []));
            places = λ i within. numbers-more i within (eqb i (length so.numbers)) refl;
            told = zip-push (HasNumber goals number) ds so.numbers d id (so.numbered).told f.told;
          };
          says = ap (λ xs. tree_meant new number xs v.additions) (depths-more d)
              ∙ tree-more new number depths d.depth u.additions g same
              ∙ ap₂ (λ (t : List _) x. t ++ x ∷ []) (meant-more so.names ∙ so.says) f.means
              ∙ sym (map-append (settled_entry goals) ds (d ∷ []));
          names = All-push (λ (a : Addition). All (λ n. n < length new) (texts_of_attributes a.attributes)) u.additions g (names-more so.names) f.texts;
        }

    -- Entries above it are the last ones of their depths as before, and it is that of its own.
    pub extended : Extends d.depth depths (draft_depths (ds ++ d ∷ [])) u v
    extended = record {
      places = f.kept;
      last = λ depth place above last. subst (λ xs. IsLastOf xs depth place) (sym (depths-more d)) (last-before depths d.depth depth place last above);
      version = refl;
      size = refl;
      lines = refl;
    }

    pub last-here : IsLastAt (draft_depths (ds ++ d ∷ [])) d.depth v (record { index = id })
    last-here = record {
      place = length u.additions;
      at = f.here;
      last = subst (λ xs. IsLastOf xs d.depth (length u.additions)) (sym (depths-more d)) (subst (IsLastOf (depths ++ d.depth ∷ []) d.depth) (so.order).counted (last-new depths d.depth));
    }
