-- Sums of addresses modulo 2 ^ 64, and what the entries of a range list give.
use Rattle.std.proofs.Common.{◌≡◌, ℕ, ◌+◌, ◌%◌, ◌^◌, ◌<◌, ℤ, pos, ◌+ℤ◌, sym, ap, ◌∙◌, arith, w64, FitsSigned}
use Rattle.std.proofs.Common.{Option, Some, None, Result, Ok, Err}
use Rattle.std.specs.Prelude.{option_map}
use Rattle.std.specs.Int.{int_wrap, cast_signed, cast_unsigned}
use Rattle.std.proofs.lemmas.Int.{wrapping_add_onto, int_wrap-add_left}
use lib.IntN.{+ℤ_comm}
use Rattle.dwc_base.specs.declared.records.Address.{Address}
use Rattle.dwc_base.specs.declared.section_name.SectionName.TheVariants.{Info}
use Rattle.dwc_base.specs.declared.faults.What.TheVariants.{RangeList}
use Rattle.dwc_base.specs.declared.faults.Flaw.{Flaw}
use Rattle.dwc_base.specs.Sections.{Sections, Fault, reported}
use Rattle.dwc_base.specs.Units.{UnitHeader}
use Rattle.dwc_base.specs.Listing.{Listing, no_items, only_fault, with_first}
use Rattle.dwc_dwarf.specs.Trees.{Interval}
use Rattle.dwc_dwarf.specs.Values.{Value}
use Rattle.dwc_dwarf.specs.RawLists.{ListPlace, RawEntry, list_named, list_fault, raw_ranges}
use Rattle.dwc_dwarf.specs.Lists.{ListRefusal, of_place, list_source, ranges_at, ranges_of_value, list_of_value, first_base_of}
use Rattle.dwc_read.specs.declared.fault.ReadFault.{ReadFault}
use Rattle.dwc_read.specs.Faults.{fault_seen}
use Rattle.dwc_tabs.specs.RangeLists.{RangeEntriesView, RefusesWith, range_list_named}
use Rattle.dwc_tabs.specs.RangeEnds.{given_at, given_from, ranges_given, among_given}
use Rattle.dwc_tabs.proofs.GivenLaws as laws

-- a number below 2 ^ 64 as a signed one
signed-wrapped : (n : ℕ) → n < 2 ^ 64 → cast_signed w64 n ≡ int_wrap w64 (pos n)
unfolding int_wrap
signed-wrapped n small = let same : n % 2 ^ 64 ≡ n = omega (arith, small) in ap (cast_signed w64) (sym same)

pub wrapped-sum : (a : ℤ) (n : ℕ) → FitsSigned w64 a → n < 2 ^ 64 → cast_signed w64 ((cast_unsigned w64 a + n) % 2 ^ 64) ≡ int_wrap w64 (a +ℤ pos n)
wrapped-sum a n fits small =
    let turned : cast_unsigned w64 a + n ≡ n + cast_unsigned w64 a = omega arith in
    ap (λ k. cast_signed w64 (k % 2 ^ 64)) turned ∙ wrapping_add_onto w64 n a small fits ∙ ap (λ z. int_wrap w64 (z +ℤ a)) (signed-wrapped n small) ∙ int_wrap-add_left w64 (pos n) a ∙ ap (int_wrap w64) (+ℤ_comm (pos n) a)

-- ---- what entries give, one by one

module _ (s : Sections) (h : UnitHeader) (e : RangeEntriesView) (base : Address) where
  pub ranges-more : (next : RangeEntriesView) (x : RawEntry) (i : Option Interval) (behind : Address) → next.place ≡ e.place → e.left ≡ with_first x next.left → given_at (list_source s h) (list_fault RangeList e.place) base x ≡ Ok (i, behind)
      → ranges_given s h e base ≡ with_first i (ranges_given s h next behind)
  unfolding ranges_given
  ranges-more next x i behind place left gives =
      laws.given-more (list_source s h) (list_fault RangeList e.place) base e.left next.left x left i behind gives
      ∙ ap (λ (p : ListPlace). with_first i (given_from (list_source s h) (list_fault RangeList p) next.left behind)) (sym place)

  pub ranges-refused : (next : Listing Fault RawEntry) (x : RawEntry) (r : ListRefusal) → e.left ≡ with_first x next → given_at (list_source s h) (list_fault RangeList e.place) base x ≡ Err r → ranges_given s h e base ≡ only_fault r
  unfolding ranges_given
  ranges-refused next x r left gives = laws.given-refused (list_source s h) (list_fault RangeList e.place) base e.left next x left r gives

  pub ranges-end : e.left ≡ no_items → ranges_given s h e base ≡ no_items
  unfolding ranges_given
  ranges-end none = laws.given-end (list_source s h) (list_fault RangeList e.place) base e.left none

  -- a fault that is told
  pub ranges-told : (behind : Listing Fault RawEntry) (fault : ReadFault) (r : ListRefusal) → RefusesWith e.left behind (fault_seen fault) → ((f : Fault) → fault_seen fault ≡ Some f → r ≡ of_place f) → ranges_given s h e base ≡ only_fault r
  unfolding ranges_given
  ranges-told behind fault r refuses told = laws.told-fault e.left behind (given_from (list_source s h) (list_fault RangeList e.place) e.left base) fault r refuses told (laws.given-fault (list_source s h) (list_fault RangeList e.place) base e.left)

-- what is refused is refused again
pub refuses-again : {F A : Type 0} (old new : Listing F A) (fault : Option F) → RefusesWith old new fault → RefusesWith new new fault
refuses-again old new None refuses = refuses
refuses-again old new (Some fault) refuses = (refuses.1, refuses.1)

-- ---- the begin of a list

module _ (s : Sections) (h : UnitHeader) where
  named-at : (v : Value) (l : ListPlace) (offset : ℕ) → range_list_named s h v ≡ Some (Ok l) → ranges_of_value (list_source s h) offset v ≡ ranges_at (list_source s h) l
  unfolding ranges_of_value
  named-at v l offset = go (list_named (list_source s h) v)
    where
      go : (o : Option (Result ListPlace Flaw)) → option_map (reported RangeList Info h.offset) o ≡ Some (Ok l) → list_of_value RangeList offset (ranges_at (list_source s h)) o ≡ ranges_at (list_source s h) l
      go None e = absurd (cc)
      go (Some (Err flaw)) e = absurd (cc)
      go (Some (Ok p)) e = let same : p ≡ l = cc in ap (ranges_at (list_source s h)) same

  given-whole : (e : RangeEntriesView) (base : Address) → e.left ≡ raw_ranges (list_source s h) e.place → base ≡ first_base_of s h → among_given (ranges_given s h e base) ≡ ranges_at (list_source s h) e.place
  unfolding ranges_at ranges_given list_source
  given-whole e base left first =
      ap (λ (l : Listing Fault RawEntry). among_given (given_from (list_source s h) (list_fault RangeList e.place) l base)) left
      ∙ ap (λ b. among_given (given_from (list_source s h) (list_fault RangeList e.place) (raw_ranges (list_source s h) e.place) b)) first

  -- The intervals that a list gives from its first base on are those that the value names.
  pub given-begin : (v : Value) (e : RangeEntriesView) (base : Address) → range_list_named s h v ≡ Some (Ok e.place) → e.left ≡ raw_ranges (list_source s h) e.place → base ≡ first_base_of s h → (offset : ℕ) → among_given (ranges_given s h e base) ≡ ranges_of_value (list_source s h) offset v
  given-begin v e base named left first offset = given-whole e base left first ∙ sym (named-at v e.place offset named)
