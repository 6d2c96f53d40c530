-- What the entries of a location list give, with their expressions.
use Rattle.std.proofs.Common.{◌≡◌, ℕ, refl, sym, ap, ◌∙◌, List, [], ◌∷◌, map, zip, Option, Some, None, Result, Ok, Err}
use Rattle.std.specs.Prelude.{option_map}
use Rattle.std.specs.List.{filter_map, cons_option}
use Rattle.dwc_base.specs.declared.records.Address.{Address}
use Rattle.dwc_base.specs.declared.section_name.SectionName.TheVariants.{Info}
use Rattle.dwc_base.specs.declared.faults.What.TheVariants.{LocationList}
use Rattle.dwc_base.specs.declared.faults.Flaw.{Flaw}
use Rattle.dwc_base.specs.Sections.{Sections, Fault, reported}
use Rattle.dwc_base.specs.Units.{UnitHeader}
use Rattle.dwc_base.specs.Listing.{Listing, no_items, only_fault, with_first}
use Rattle.dwc_dwarf.specs.Trees.{Interval}
use Rattle.dwc_dwarf.specs.Values.{Value}
use Rattle.dwc_dwarf.specs.RawLists.{ListPlace, RawLocation, list_named, list_fault, raw_locations}
use Rattle.dwc_dwarf.specs.Lists.{ListRefusal, of_place, ListedLocation, list_source, with_expression, locations_at, locations_of_value, list_of_value, first_base_of}
use Rattle.dwc_read.specs.declared.fault.ReadFault.{ReadFault}
use Rattle.dwc_read.specs.Faults.{fault_seen}
use Rattle.dwc_tabs.specs.RangeLists.{RefusesWith}
use Rattle.dwc_tabs.specs.RangeEnds.{given_at, given_from, among_given}
use Rattle.dwc_tabs.specs.LocationLists.{LocationEntriesView, location_list_named}
use Rattle.dwc_tabs.specs.Locations.{said, each_with_expression, locations_given}
use Rattle.dwc_tabs.proofs.GivenLaws.{given-more, given-refused, given-end, given-fault, told-fault}

-- what some entries that are left give
abbrev given_by : Sections → UnitHeader → ListPlace → Listing Fault RawLocation → Address → Listing ListRefusal (Option ListedLocation)
given_by s h place left base = each_with_expression left.items (given_from (list_source s h) (list_fault LocationList place) (said left) base)

module _ (s : Sections) (h : UnitHeader) (e : LocationEntriesView) (base : Address) where
  pub with_expression-more : (next : LocationEntriesView) (x : RawLocation) (i : Option Interval) (behind : Address) → next.place ≡ e.place → e.left ≡ with_first x next.left → given_at (list_source s h) (list_fault LocationList e.place) base x.says ≡ Ok (i, behind)
      → locations_given s h e base ≡ with_first (with_expression (i, x.holds)) (locations_given s h next behind)
  unfolding locations_given
  with_expression-more next x i behind place left gives =
      ap (λ l. given_by s h e.place l base) left
      ∙ ap (each_with_expression (x ∷ next.left.items)) (given-more (list_source s h) (list_fault LocationList e.place) base (said (with_first x next.left)) (said next.left) x.says refl i behind gives)
      ∙ ap (λ p. with_first (with_expression (i, x.holds)) (given_by s h p next.left behind)) (sym place)

  pub with_expression-refused : (next : Listing Fault RawLocation) (x : RawLocation) (r : ListRefusal) → e.left ≡ with_first x next → given_at (list_source s h) (list_fault LocationList e.place) base x.says ≡ Err r → locations_given s h e base ≡ only_fault r
  unfolding locations_given
  with_expression-refused next x r left gives =
      ap (λ l. given_by s h e.place l base) left ∙ ap (each_with_expression (x ∷ next.items)) (given-refused (list_source s h) (list_fault LocationList e.place) base (said (with_first x next)) (said next) x.says refl r gives)

  pub with_expression-end : e.left ≡ no_items → locations_given s h e base ≡ no_items
  unfolding locations_given
  with_expression-end none = ap (λ l. given_by s h e.place l base) none ∙ ap (each_with_expression []) (given-end (list_source s h) (list_fault LocationList e.place) base no_items refl)

  -- a fault that is told
  pub with_expression-told : (behind : Listing Fault RawLocation) (fault : ReadFault) (r : ListRefusal) → RefusesWith e.left behind (fault_seen fault) → ((f : Fault) → fault_seen fault ≡ Some f → r ≡ of_place f) → locations_given s h e base ≡ only_fault r
  unfolding locations_given
  with_expression-told behind fault r refuses told =
      told-fault e.left behind (given_by s h e.place e.left base) fault r refuses told
      (λ f only. ap (λ l. given_by s h e.place l base) only ∙ ap (each_with_expression []) (given-fault (list_source s h) (list_fault LocationList e.place) base (only_fault f) f refl))

-- ---- the begin of a list

filter-mapped : {A B : Type 0} (f : A → Option B) (xs : List A) → filter_map (λ o. o) (map f xs) ≡ filter_map f xs
filter-mapped f [] = refl
filter-mapped f (x ∷ xs) = ap (cons_option (f x)) (filter-mapped f xs)

among-with_expression : (entries : List RawLocation) (given : Listing ListRefusal (Option Interval)) → among_given (each_with_expression entries given) ≡ record { items = filter_map with_expression (zip given.items (map (λ e. e.holds) entries)); fault = given.fault }
among-with_expression entries given = ap (λ xs. record { items = xs; fault = given.fault }) (filter-mapped with_expression (zip given.items (map (λ e. e.holds) entries)))

module _ (s : Sections) (h : UnitHeader) where
  named-at : (v : Value) (l : ListPlace) (offset : ℕ) → location_list_named s h v ≡ Some (Ok l) → locations_of_value (list_source s h) offset v ≡ locations_at (list_source s h) l
  unfolding locations_of_value
  named-at v l offset = go (list_named (list_source s h) v)
    where
      go : (o : Option (Result ListPlace Flaw)) → option_map (reported LocationList Info h.offset) o ≡ Some (Ok l) → list_of_value LocationList offset (locations_at (list_source s h)) o ≡ locations_at (list_source s h) l
      go None e = absurd (cc)
      go (Some (Err flaw)) e = absurd (cc)
      go (Some (Ok p)) e = let same : p ≡ l = cc in ap (locations_at (list_source s h)) same

  with_expression-whole : (e : LocationEntriesView) (base : Address) → e.left ≡ raw_locations (list_source s h) e.place → base ≡ first_base_of s h → among_given (locations_given s h e base) ≡ locations_at (list_source s h) e.place
  unfolding locations_at locations_given list_source
  with_expression-whole e base left first =
      ap (λ l. among_given (given_by s h e.place l base)) left
      ∙ ap (λ b. among_given (given_by s h e.place (raw_locations (list_source s h) e.place) b)) first
      ∙ among-with_expression (raw_locations (list_source s h) e.place).items (given_from (list_source s h) (list_fault LocationList e.place) (said (raw_locations (list_source s h) e.place)) (first_base_of s h))

  -- The locations that a list gives from its first base on are those that the value names.
  pub with_expression-begin : (v : Value) (e : LocationEntriesView) (base : Address) → location_list_named s h v ≡ Some (Ok e.place) → e.left ≡ raw_locations (list_source s h) e.place → base ≡ first_base_of s h → (offset : ℕ) → among_given (locations_given s h e base) ≡ locations_of_value (list_source s h) offset v
  with_expression-begin v e base named left first offset = with_expression-whole e base left first ∙ sym (named-at v e.place offset named)
