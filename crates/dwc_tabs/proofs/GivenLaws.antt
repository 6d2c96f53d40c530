-- What the entries of a list give, one by one.
use Rattle.std.proofs.Common.{◌≡◌, ℕ, refl, sym, ap, ◌∙◌}
use Rattle.std.proofs.Common.{List, ◌∷◌, Option, Some, None, Result, Ok, Err}
use Rattle.dwc_base.specs.declared.records.Address.{Address}
use Rattle.dwc_base.specs.declared.section_name.SectionName.{SectionName}
use Rattle.dwc_base.specs.declared.section_name.SectionName.TheVariants.{Info}
use Rattle.dwc_base.specs.declared.faults.What.{What}
use Rattle.dwc_base.specs.declared.faults.What.TheVariants.{AddressValue}
use Rattle.dwc_base.specs.declared.faults.Kind.{Kind}
use Rattle.dwc_base.specs.declared.faults.Flaw.{Flaw}
use Rattle.dwc_base.specs.declared.faults.Flaw.TheVariants.{EndsEarly, TooWide, Malformed, Refused}
use Rattle.dwc_base.specs.Sections.{Sections, Fault, unreadable, unsupported, reported}
use Rattle.dwc_base.specs.Units.{UnitHeader}
use Rattle.dwc_dwarf.specs.Indexed.{address_indexed}
use Rattle.dwc_base.specs.Reading.{◌>>=◌}
use Rattle.dwc_base.specs.Listing.{Listing, no_items, only_fault, with_first}
use Rattle.dwc_dwarf.specs.Trees.{Interval}
use Rattle.dwc_dwarf.specs.RawLists.{ListSource, RawEntry}
use Rattle.dwc_dwarf.specs.Lists.{ListRefusal, of_place, list_source, indexed_at, interval_given, base_behind, intervals_given}
use Rattle.dwc_read.specs.declared.fault.ReadFault.{ReadFault}
use Rattle.dwc_read.specs.Faults.{fault_seen}
use Rattle.dwc_tabs.specs.declared.list_start.ListStart.{ListStart}
use Rattle.dwc_tabs.specs.OpenLists.{told_at_start}
use Rattle.dwc_tabs.specs.RangeLists.{RefusesWith}
use Rattle.dwc_tabs.specs.RangeEnds.{given_at, given_from}

-- ---- an address by an index, as a unit answers it

module _ (s : Sections) (h : UnitHeader) (start : ListStart) (index : ℕ) where
  pub indexed-ok : (a : Address) → reported AddressValue Info h.offset (address_indexed s h index) ≡ Ok a → indexed_at (list_source s h) (told_at_start start) index ≡ Ok a
  unfolding list_source
  indexed-ok a = go (address_indexed s h index)
    where
      go : (r : Result Address Flaw) → reported AddressValue Info h.offset r ≡ Ok a → ◌≡◌ {A = Result Address ListRefusal} (elim r [ Ok b ↦ Ok b | Err flaw ↦ Err (of_place (told_at_start start flaw)) ]) (Ok a)
      go (Ok b) e = let same : b ≡ a = cc in ap Ok same
      go (Err flaw) e = absurd (cc)

  pub indexed-unsupported : (kind : Kind) (place : ℕ) → reported AddressValue Info h.offset (address_indexed s h index) ≡ Err (unsupported kind place) → indexed_at (list_source s h) (told_at_start start) index ≡ Err (of_place (unsupported kind start.offset))
  unfolding list_source
  indexed-unsupported kind place = go (address_indexed s h index)
    where
      go : (r : Result Address Flaw) → reported AddressValue Info h.offset r ≡ Err (unsupported kind place) → ◌≡◌ {A = Result Address ListRefusal} (elim r [ Ok b ↦ Ok b | Err flaw ↦ Err (of_place (told_at_start start flaw)) ]) (Err (of_place (unsupported kind start.offset)))
      go (Ok b) e = absurd (cc)
      go (Err EndsEarly) e = absurd (cc)
      go (Err TooWide) e = absurd (cc)
      go (Err Malformed) e = absurd (cc)
      go (Err (Refused k)) e = let same : k ≡ kind = cc in ap (λ x. Err (of_place (unsupported x start.offset))) same

  pub indexed-unreadable : (what : What) (name : SectionName) (place : ℕ) → reported AddressValue Info h.offset (address_indexed s h index) ≡ Err (unreadable what name place) → indexed_at (list_source s h) (told_at_start start) index ≡ Err (of_place (unreadable start.what start.section start.offset))
  unfolding list_source
  indexed-unreadable what name place = go (address_indexed s h index)
    where
      go : (r : Result Address Flaw) → reported AddressValue Info h.offset r ≡ Err (unreadable what name place) → ◌≡◌ {A = Result Address ListRefusal} (elim r [ Ok b ↦ Ok b | Err flaw ↦ Err (of_place (told_at_start start flaw)) ]) (Err (of_place (unreadable start.what start.section start.offset)))
      go (Ok b) e = absurd (cc)
      go (Err EndsEarly) e = refl
      go (Err TooWide) e = refl
      go (Err Malformed) e = refl
      go (Err (Refused k)) e = absurd (cc)

-- ---- what entries give, one by one

-- what an entry gives, with what those behind it give from the base behind it
abbrev first_given : (Address → Listing ListRefusal (Option Interval)) → Result (Option Interval × Address) ListRefusal → Listing ListRefusal (Option Interval)
first_given rest (Err r) = only_fault r
first_given rest (Ok given) = with_first given.0 (rest given.1)

module _ (src : ListSource) (told : Flaw → Fault) (base : Address) where
  opened : (e : RawEntry) (es : List RawEntry) (last : Option Fault) → intervals_given src told base (e ∷ es) last ≡ first_given (λ next. intervals_given src told next es last) (given_at src told base e)
  unfolding intervals_given given_at
  opened e es last = go (interval_given src told base e) (base_behind src told base e)
    where
      go : (a : Result (Option Interval) ListRefusal) (b : Result Address ListRefusal) →
          ◌≡◌ {A = Listing ListRefusal (Option Interval)} (elim a [ Err refusal ↦ only_fault refusal | Ok interval ↦ elim b [ Err refusal ↦ only_fault refusal | Ok next ↦ with_first interval (intervals_given src told next es last) ] ])
          (first_given (λ next. intervals_given src told next es last) (a >>= λ interval. b >>= λ next. Ok (interval, next)))
      go (Err r) b = refl
      go (Ok i) (Err r) = refl
      go (Ok i) (Ok next) = refl

  module _ (left next : Listing Fault RawEntry) (e : RawEntry) (first : left ≡ with_first e next) where
    first-opened : given_from src told left base ≡ first_given (given_from src told next) (given_at src told base e)
    first-opened = ap (λ (l : Listing Fault RawEntry). given_from src told l base) first ∙ opened e next.items next.fault

    pub given-more : (i : Option Interval) (behind : Address) → given_at src told base e ≡ Ok (i, behind) → given_from src told left base ≡ with_first i (given_from src told next behind)
    given-more i behind gives = first-opened ∙ ap (first_given (given_from src told next)) gives

    pub given-refused : (r : ListRefusal) → given_at src told base e ≡ Err r → given_from src told left base ≡ only_fault r
    given-refused r gives = first-opened ∙ ap (first_given (given_from src told next)) gives

  pub given-end : (left : Listing Fault RawEntry) → left ≡ no_items → given_from src told left base ≡ no_items
  unfolding intervals_given
  given-end left none = ap (λ (l : Listing Fault RawEntry). given_from src told l base) none

  pub given-fault : (left : Listing Fault RawEntry) (fault : Fault) → left ≡ only_fault fault → given_from src told left base ≡ only_fault (of_place fault)
  unfolding intervals_given
  given-fault left fault only = ap (λ (l : Listing Fault RawEntry). given_from src told l base) only

-- A fault that a call tells of what is left: `given` says what that gives.
pub told-fault : {A B : Type 0} (left behind : Listing Fault A) (given : Listing ListRefusal B) (fault : ReadFault) (r : ListRefusal) → RefusesWith left behind (fault_seen fault) → ((f : Fault) → fault_seen fault ≡ Some f → r ≡ of_place f)
    → ((f : Fault) → left ≡ only_fault f → given ≡ only_fault (of_place f)) → given ≡ only_fault r
told-fault {A} left behind given fault r refuses told gives = go (fault_seen fault) refl refuses
  where
    go : (o : Option Fault) → fault_seen fault ≡ o → RefusesWith left behind o → given ≡ only_fault r
    go None is h0 = absurd h0
    go (Some f) is both = gives f both.0 ∙ ap only_fault (sym (told f is))
