-- Places that are passed on, and what stands at the places of entries.
use Rattle.std.proofs.Common.{◌≡◌, ℕ, zero, suc, ◌+◌, ◌<◌, ◌≤◌, refl, sym, ap, ◌∙◌, arith, List, [], ◌∷◌, ◌++◌, append_assoc, length, length-append, map, drop, take, get_or, Err}
use Rattle.std.specs.Prelude.{Option, Some, None, Result, sum_by}
use Rattle.std.specs.List.{AllZip, flat_map}
use Rattle.std.proofs.lemmas.List.Sums.{sum_by-cons}
use Rattle.dwc_base.specs.declared.records.Endian.{Endian}
use Rattle.dwc_section.specs.declared.error.WriteError.{WriteError}
use Rattle.dwc_section.specs.declared.error.WriteError.TheVariants.{TooLarge, InvalidFrameCodeOffset, InvalidFrameDataOffset, OutOfMemory}
use Rattle.dwc_section.specs.Spelled.{at_places}
use Rattle.dwc_unit.specs.SpelledUnits.{WrittenAttribute, shaped}
use Rattle.dwc_unit.specs.GivenUnits.{EntryShape, GivenEntry, OrderedUnit, no_places, size_of, written_attribute, written_attributes, written_entries}
use Rattle.dwc_unit.specs.declared.attributes.Attribute.{Attribute}
use Rattle.dwc_write.proofs.EntriesLaws.{unplaced-attributes}
use Rattle.dwc_unit.specs.Lists.{no_lists, nowhere}
use Rattle.dwc_write.specs.Layouts.{UnitPlaces, offset_among, offset_if_added, offsets_by_number, places_of_units, unit_length}
use Rattle.dwc_base.specs.declared.section_name.SectionName.TheVariants.{Info}
use Rattle.dwc_section.specs.Writers.{section_of}
use Rattle.dwc_section.proofs.RefusalLaws.{past-limit}
use Rattle.dwc_write.specs.LayoutViews.{AdvancesOrMemory, offset_known, places_view}
use Rattle.dwc_write.specs.declared.layout.UnitLayout.{UnitLayout}

-- ---- places

-- what is spelled of the rest is what is spelled of the next and of the rest behind it
pub spelled-more : {A B : Type 0} (spell : B → List ℕ) (view : A → B) (xs : List A) (i : ℕ) (d : A) → i < length xs
    → length (flat_map spell (map view (drop i xs))) ≡ length (spell (view (get_or xs i d))) + length (flat_map spell (map view (drop (suc i) xs)))
spelled-more spell view [] i d within = absurd (omega arith)
spelled-more spell view (x ∷ xs) zero d within = length-append (spell (view x)) (flat_map spell (map view xs))
spelled-more spell view (x ∷ xs) (suc i) d within = spelled-more spell view xs i d (omega arith)

pub spelled-done : {A B : Type 0} (spell : B → List ℕ) (view : A → B) (xs : List A) (i : ℕ) → length xs ≤ i → length (flat_map spell (map view (drop i xs))) ≡ 0
spelled-done spell view [] zero past = refl
spelled-done spell view [] (suc i) past = refl
spelled-done spell view (x ∷ xs) zero past = absurd (omega arith)
spelled-done spell view (x ∷ xs) (suc i) past = spelled-done spell view xs i (omega arith)

-- a refusal on the way is one of the whole
pub advance-free : (result : Result ℕ WriteError) (e : WriteError) (behind more place total : ℕ) → ((error : WriteError) × (result ≡ Err error) × (error ≡ e)) → AdvancesOrMemory (Err e) behind more → behind + more ≤ place + total → AdvancesOrMemory result place total
advance-free result OutOfMemory behind more place total p refused less =
    let is : result ≡ Err OutOfMemory = p.1 ∙ ap Err p.2 in
    rw (is) refused
advance-free result (InvalidFrameCodeOffset symbol) behind more place total p refused less = absurd refused
advance-free result (InvalidFrameDataOffset symbol) behind more place total p refused less = absurd refused
advance-free result (TooLarge what) behind more place total p refused less =
    let is : result ≡ Err (TooLarge what) = p.1 ∙ ap Err p.2 in
    rw (is) (past-limit Info _ _ (section_of what) (λ large. omega (arith, large, less)) refused)

-- ---- offsets by numbers

pub offsets-known : (found : List ℕ) (es : List GivenEntry) (offsets : List ℕ) (places : List (Option ℕ)) → ((place : ℕ) → get_or found place 0 ≡ offset_among place es offsets) → map (offset_known found) places ≡ map (offset_if_added es offsets) places
offsets-known found es offsets [] same = refl
offsets-known found es offsets (p ∷ ps) same = rw (one p, offsets-known found es offsets ps same) refl
  where
    one : (p : Option ℕ) → offset_known found p ≡ offset_if_added es offsets p
    one None = refl
    one (Some place) = same place

-- ---- as many offsets as entries

pub offsets-many : {A : Type 0} (spell : A → List ℕ) (place : ℕ) (xs : List A) → length (at_places spell (λ p x. p ∷ []) place xs) ≡ length xs
offsets-many spell place [] = refl
offsets-many spell place (x ∷ xs) = ap suc (offsets-many spell (place + length (spell x)) xs)

pub shaped-many : (shapes : List EntryShape) (es : List GivenEntry) → length (shaped (written_entries nowhere no_places no_lists shapes es)) ≡ length es
shaped-many shapes [] = refl
shaped-many shapes (e ∷ es) = ap suc (shaped-many shapes es)

-- ---- units one behind another

-- what is found of the first units, with what is to be found of those that are left, is the whole
pub record IsLaying (order : Endian) (us : List OrderedUnit) (i start : ℕ) (ps : List UnitPlaces) : Type 0 where
  pub places : ps ++ places_of_units order (size_of us) start (drop i us) ≡ places_of_units order (size_of us) 0 us
  pub long : start ≡ sum_by (unit_length order (size_of us)) (take i us)

rest-more : (us : List OrderedUnit) (i : ℕ) (d : OrderedUnit) → i < length us → drop i us ≡ get_or us i d ∷ drop (suc i) us
rest-more [] i d within = absurd (omega arith)
rest-more (u ∷ us) zero d within = refl
rest-more (u ∷ us) (suc i) d within = rest-more us i d (omega arith)

sum-more : (f : OrderedUnit → ℕ) (us : List OrderedUnit) (i : ℕ) (d : OrderedUnit) → i < length us → sum_by f (take (suc i) us) ≡ sum_by f (take i us) + f (get_or us i d)
sum-more f [] i d within = absurd (omega arith)
sum-more f (u ∷ us) zero d within = omega (arith, sum_by-cons f u [])
sum-more f (u ∷ us) (suc i) d within = omega (arith, sum_by-cons f u (take (suc i) us), sum_by-cons f u (take i us), sum-more f us i d (omega arith))

pub laying-more : (order : Endian) (us : List OrderedUnit) (i start next more : ℕ) (ps : List UnitPlaces) (p : UnitPlaces) (u d : OrderedUnit) → IsLaying order us i start ps → i < length us → get_or us i d ≡ u → u.address_size ≡ size_of us
    → p ≡ record { start = start; offsets = offsets_by_number order u.address_size u } → more ≡ unit_length order u.address_size u → next ≡ start + more → IsLaying order us (suc i) next (ps ++ p ∷ [])
laying-more order us i start next more ps p u d laying within at same is long on =
    let size = size_of us in
    let placed : p ≡ record { start = start; offsets = offsets_by_number order size u } = is ∙ ap (λ n. record { start = start; offsets = offsets_by_number order n u }) same in
    let length_is : more ≡ unit_length order size u = long ∙ ap (λ n. unit_length order n u) same in
    let rest : drop i us ≡ u ∷ drop (suc i) us = rest-more us i d within ∙ ap (λ v. v ∷ drop (suc i) us) at in
    let next_is : next ≡ start + unit_length order size u = omega (arith, on, length_is) in
    record {
      places =
          append_assoc ps (p ∷ []) _ ∙ ap (λ q. ps ++ q ∷ places_of_units order size next (drop (suc i) us)) placed
          ∙ ap (λ n. ps ++ record { start = start; offsets = offsets_by_number order size u } ∷ places_of_units order size n (drop (suc i) us)) next_is
          ∙ ap (λ vs. ps ++ places_of_units order size start vs) (sym rest) ∙ laying.places;
      long = let before = laying.long in omega (arith, next_is, before, sum-more (unit_length order size) us i d within, ap (unit_length order size) at);
    }

pub laying-past : (order : Endian) (us : List OrderedUnit) (i start more : ℕ) (ps : List UnitPlaces) (u d : OrderedUnit) → IsLaying order us i start ps → i < length us → get_or us i d ≡ u → u.address_size ≡ size_of us → more ≡ unit_length order u.address_size u
    → start + more ≡ sum_by (unit_length order (size_of us)) (take (suc i) us)
laying-past order us i start more ps u d laying within at same long =
    let before = laying.long in
    let length_is : more ≡ unit_length order (size_of us) u = long ∙ ap (λ n. unit_length order n u) same in
    omega (arith, before, length_is, sum-more (unit_length order (size_of us)) us i d within, ap (unit_length order (size_of us)) at)

-- one more on either side
pub zip-more : {A B : Type 0} (P : A → B → Type 0) (xs : List A) (ys : List B) (i : ℕ) (d : A) (y : B) → AllZip P (take i xs) ys → i < length xs → P (get_or xs i d) y → AllZip P (take (suc i) xs) (ys ++ y ∷ [])
zip-more P [] ys i d y zipped within here = absurd (omega arith)
zip-more P (x ∷ xs) [] zero d y zipped within here = (here, tt)
zip-more P (x ∷ xs) (z ∷ ys) zero d y zipped within here = absurd zipped
zip-more P (x ∷ xs) [] (suc i) d y zipped within here = absurd zipped
zip-more P (x ∷ xs) (z ∷ ys) (suc i) d y zipped within here = (zipped.0, zip-more P xs ys i d y zipped.1 (omega arith) here)

pub zip-at : {A B : Type 0} (P : A → B → Type 0) (xs : List A) (ys : List B) (i : ℕ) (d : A) (e : B) → AllZip P xs ys → i < length xs → P (get_or xs i d) (get_or ys i e)
zip-at P [] ys i d e zipped within = absurd (omega arith)
zip-at P (x ∷ xs) [] i d e zipped within = absurd zipped
zip-at P (x ∷ xs) (y ∷ ys) zero d e zipped within = zipped.0
zip-at P (x ∷ xs) (y ∷ ys) (suc i) d e zipped within = zip-at P xs ys i d e zipped.1 (omega arith)

pub zip-long : {A B : Type 0} (P : A → B → Type 0) (xs : List A) (ys : List B) → AllZip P xs ys → length xs ≡ length ys
zip-long P [] [] zipped = refl
zip-long P [] (y ∷ ys) zipped = absurd zipped
zip-long P (x ∷ xs) [] zipped = absurd zipped
zip-long P (x ∷ xs) (y ∷ ys) zipped = ap suc (zip-long P xs ys zipped.1)

-- ---- a unit among others

pub offsets-at : (order : Endian) (size start : ℕ) (us : List OrderedUnit) (ls : List UnitLayout) (i : ℕ) (u : OrderedUnit) (l : UnitLayout) → i < length us → map places_view ls ≡ places_of_units order size start us → (get_or ls i l).offsets.items ≡ offsets_by_number order size (get_or us i u)
offsets-at order size start [] ls i u l within are = absurd (omega arith)
offsets-at order size start (v ∷ us) [] i u l within are = absurd (cc)
offsets-at order size start (v ∷ us) (k ∷ ls) zero u l within are = ap (λ (ps : List UnitPlaces). (get_or ps 0 (record { start = 0; offsets = [] })).offsets) are
offsets-at order size start (v ∷ us) (k ∷ ls) (suc i) u l within are = offsets-at order size (start + unit_length order size v) us ls i u l (omega arith) (ap (drop 1) are)

pub unit-within : (order : Endian) (size : ℕ) (us : List OrderedUnit) (i : ℕ) (u d : OrderedUnit) → i < length us → get_or us i d ≡ u → unit_length order size u ≤ sum_by (unit_length order size) us
unit-within order size [] i u d within at = absurd (omega arith)
unit-within order size (v ∷ us) zero u d within at = omega (arith, ap (unit_length order size) at, sum_by-cons (unit_length order size) v us)
unit-within order size (v ∷ us) (suc i) u d within at = omega (arith, unit-within order size us i u d (omega arith) at, sum_by-cons (unit_length order size) v us)

-- the same of attributes while nothing has a place
pub unplaced-more : (spell : WrittenAttribute → List ℕ) (xs : List Attribute) (i : ℕ) (d : Attribute) → i < length xs
    → length (flat_map spell (written_attributes nowhere no_places no_lists (drop i xs))) ≡ length (spell (written_attribute no_places no_lists (get_or xs i d))) + length (flat_map spell (written_attributes nowhere no_places no_lists (drop (suc i) xs)))
unplaced-more spell xs i d within =
    let same : (ys : List Attribute) → length (flat_map spell (map (written_attribute no_places no_lists) ys)) ≡ length (flat_map spell (written_attributes nowhere no_places no_lists ys)) = λ ys. ap (λ zs. length (flat_map spell zs)) (unplaced-attributes ys) in
    omega (arith, same (drop i xs), same (drop (suc i) xs), spelled-more spell (written_attribute no_places no_lists) xs i d within)
