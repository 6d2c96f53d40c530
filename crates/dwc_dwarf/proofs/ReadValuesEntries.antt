-- What holds of the entries of a unit that were read, and of the bytes of units.
use Rattle.std.proofs.Common.{◌≡◌, ℕ, zero, suc, ◌<◌, ◌≤◌, refl, subst, sym, arith, List, [], ◌∷◌, length, Option, Some, None, Result, Ok, Err, Bool, true, false}
use Rattle.std.specs.Prelude.{if◌then◌else◌, ◌==◌, ◌||◌, not, nat_lt, nat_le, option_map}
use Rattle.std.specs.List.{All, find}
use Rattle.std.proofs.lemmas.Bool.{eqb-true}
use Rattle.std.proofs.lemmas.List.Elements.{All-nil, All-cons, All-head, All-tail, All-weaker}
use Rattle.dwc_base.specs.declared.faults.Flaw.{Flaw}
use Rattle.dwc_base.specs.declared.faults.Flaw.TheVariants.{Malformed, Refused}
use Rattle.dwc_base.specs.declared.faults.Kind.TheVariants.{AddressSize, Format64, TypeUnit, Version}
use Rattle.dwc_base.specs.declared.section_name.SectionName.TheVariants.{Info}
use Rattle.dwc_base.specs.Reading.{Unread, Read, ◌>>=◌, number_at, uleb_at}
use Rattle.dwc_base.specs.Listing.{Listing, only_fault, with_first}
use Rattle.dwc_base.specs.Sections.{Sections, Fault, section_from}
use Rattle.dwc_base.specs.Abbreviations.{AttributeSpec, Declaration, declaration_of, abbreviation_table}
use Rattle.dwc_base.specs.Units.{UnitHeader, sized_part_at, header_to_4, header_of_5, dwo_id_at, unit_header_at, unit_headers_from, unit_headers}
use Rattle.dwc_dwarf.specs.Values.{Value, value_at}
use Rattle.dwc_dwarf.specs.Entries.{Entry, Found, EntryPlace, entry_place, place_behind, root_place, attributes_at, declared_entry_at, entry_at, entries_from, entries, attribute}
use Rattle.dwc_base.specs.declared.constants.TheConstants.{DW_UT_skeleton, DW_UT_split_compile, DW_UT_split_type, DW_UT_type}
use Rattle.dwc_base.proofs.Items.{LeavesFewer}
use Rattle.dwc_base.proofs.Takes.{unit_header_at-leaves}
use Rattle.dwc_dwarf.proofs.TakesValues.{entry_at-leaves}
use Rattle.dwc_dwarf.proofs.EntryWalk.{entries_from-none, entries_from-end, entries_from-fault, entries_from-siblings, entries_from-entry}
use Rattle.dwc_base.proofs.UnitWalk.{unit_headers_from-end, unit_headers_from-item, unit_headers_from-fault}
use Rattle.dwc_dwarf.specs.ReadValues.{IsReadValue, IsReadEntry}
use Rattle.dwc_base.proofs.ReadValuesParts.{Holds, Holds-bind, Holds-tested, AreBytes, InBytes, Any, number_at-below, part_at-bytes, uleb_at-below}
use Rattle.dwc_dwarf.proofs.ReadValuesForms.{value_at-read}
use Rattle.dwc_base.proofs.ReadValuesTables.{IsReadSpec, IsReadDeclaration, abbreviation_table-read, declaration_of-read}

-- ---- entries

-- attributes that were read
record AreReadAttributes (attributes : List (ℕ × Value)) : Type 0 where
  names : All (λ a. a.0 ≤ 65535) attributes
  values : All (λ a. IsReadValue a.0 a.1) attributes

attributes_at-read : (s : Sections) (h : UnitHeader) (specs : List AttributeSpec) (u : Unread) → All IsReadSpec specs → AreBytes u.left → Holds (InBytes AreReadAttributes) (attributes_at s h specs u)
unfolding attributes_at
attributes_at-read s h [] u all bytes = record { held = (record { names = All-nil _; values = All-nil _ }, bytes) }
attributes_at-read s h (spec ∷ specs) u all bytes =
    let given : IsReadSpec spec = All-head IsReadSpec spec specs all in
    Holds-bind (value_at s h spec u) _ (value_at-read s h spec u given.implicit bytes) (λ first i.
    Holds-bind (attributes_at s h specs first.1) _ (attributes_at-read s h specs first.1 (All-tail IsReadSpec spec specs all) i.1) (λ others j.
    record {
      held = (
        record {
          names = All-cons (λ a. a.0 ≤ 65535) (spec.name, first.0) others.0 given.name (j.0).names;
          values = All-cons (λ a. IsReadValue a.0 a.1) (spec.name, first.0) others.0 i.0 (j.0).values;
        },
        j.1,
      );
    }))

-- an entry that was read, if one was
abbrev pub IfFound : Option Found → Type 0
IfFound None = Unit {0}
IfFound (Some f) = IsReadEntry f.entry

-- An entry of a unit, and the bytes unread behind it.
pub entry_at-read : (s : Sections) (h : UnitHeader) (table : List Declaration) (depth : ℕ) (u : Unread) → All IsReadDeclaration table → AreBytes u.left → Holds (InBytes IfFound) (entry_at s h table depth u)
unfolding entry_at declared_entry_at
entry_at-read s h table depth u all bytes = Holds-bind (uleb_at u) _ (uleb_at-below u bytes) (λ code i. marked (code.0 == 0) code.0 code.1 i.1)
  where
    declared : (code : ℕ) (o : Option Declaration) (v : Unread) → declaration_of code table ≡ o → AreBytes v.left
        → Holds {A = Option Found × Unread} (InBytes IfFound) (elim o [ None ↦ Err Malformed | Some d ↦ declared_entry_at s h u.place depth d v ])
    declared code None v e i = record { held = tt }
    declared code (Some d) v e i =
        let given : IsReadDeclaration d = declaration_of-read code table d all e in
        Holds-bind (attributes_at s h d.attributes v) _ (attributes_at-read s h d.attributes v given.attributes i) (λ attributes j.
        record { held = (record { tag = given.tag; names = (j.0).names; values = (j.0).values }, j.1) })

    marked : (b : Bool) (code : ℕ) (v : Unread) → AreBytes v.left
        → Holds {A = Option Found × Unread} (InBytes IfFound) (elim b [ true ↦ Ok (None, v) | false ↦ elim (declaration_of code table) [ None ↦ Err Malformed | Some d ↦ declared_entry_at s h u.place depth d v ] ])
    marked true code v i = record { held = (tt, i) }
    marked false code v i = declared code (declaration_of code table) v refl i

-- the unread bytes of a place, if it is one, and how many they are
abbrev PlaceHas : ℕ → Option EntryPlace → Type 0
PlaceHas m None = Unit {0}
PlaceHas m (Some p) = (length p.unread.left < m) × AreBytes p.unread.left

entry_place-has : (m depth : ℕ) (v : Unread) → length v.left < m → AreBytes v.left → PlaceHas m (entry_place depth v)
entry_place-has m zero v few i = tt
entry_place-has m (suc depth) v few i = (few, i)

place_behind-has : (found : Option Found) (m depth : ℕ) (v : Unread) → length v.left < m → AreBytes v.left → PlaceHas m (place_behind found depth v)
place_behind-has None m depth v few i = entry_place-has m _ v few i
place_behind-has (Some f) m depth v few i = entry_place-has m _ v few i

abbrev EntriesRead : Listing Fault Entry → Type 0
EntriesRead l = All IsReadEntry l.items

module _ (s : Sections) (h : UnitHeader) (table : List Declaration) (all : All IsReadDeclaration table) where
  entries_from-read : (m : ℕ) (o : Option EntryPlace) → PlaceHas m o → EntriesRead (entries_from s h table o)
  entries_from-read m None i = subst EntriesRead (sym (entries_from-none s h table)) (All-nil IsReadEntry)
  entries_from-read zero (Some p) i = absurd (omega (arith, i.0))
  entries_from-read (suc m) (Some p) i =
      go (length p.unread.left) refl (entry_at s h table p.depth p.unread) refl (entry_at-leaves s h table p.depth p.unread).fewer (entry_at-read s h table p.depth p.unread all i.1) (λ o j. entries_from-read m o j)
    where
      go : (n : ℕ) → length p.unread.left ≡ n → (r : Read (Option Found)) → entry_at s h table p.depth p.unread ≡ r → LeavesFewer r (length p.unread.left) → Holds (InBytes IfFound) r
          → ((o : Option EntryPlace) → PlaceHas m o → EntriesRead (entries_from s h table o)) → EntriesRead (entries_from s h table (Some p))
      go zero n r read few k rest = subst EntriesRead (sym (entries_from-end s h table p n)) (All-nil IsReadEntry)
      go (suc c) n (Err flaw) read few k rest = subst EntriesRead (sym (entries_from-fault s h table p flaw (omega (arith, n)) read)) (All-nil IsReadEntry)
      go (suc c) n (Ok (None, v)) read few k rest =
          subst EntriesRead (sym (entries_from-siblings s h table p v (omega (arith, n)) read)) (rest (place_behind None p.depth v) (place_behind-has None m p.depth v (omega (arith, few, i.0)) (k.held).1))
      go (suc c) n (Ok (Some f, v)) read few k rest =
          subst EntriesRead (sym (entries_from-entry s h table p v f (omega (arith, n)) read))
          (All-cons IsReadEntry f.entry _ (k.held).0 (rest (place_behind (Some f) p.depth v) (place_behind-has (Some f) m p.depth v (omega (arith, few, i.0)) (k.held).1)))

-- The entries of a unit whose bytes are bytes.
pub unit-read : (s : Sections) (h : UnitHeader) → All (λ b. b < 256) (h.content).left → All IsReadEntry (entries s h).items
unfolding entries
unit-read s h bytes = go (abbreviation_table s h.abbreviations) (abbreviation_table-read s h.abbreviations)
  where
    go : (t : Result (List Declaration) Fault) → Holds (All IsReadDeclaration) t → EntriesRead (elim t [ Err fault ↦ only_fault fault | Ok table ↦ entries_from s h table (root_place h) ])
    go (Err fault) k = All-nil IsReadEntry
    go (Ok table) k = entries_from-read s h table k.held (suc (length (h.content).left)) (root_place h) (omega arith, record { below = bytes })

-- ---- units

-- the bytes that are unread behind a header
abbrev HasBytes : UnitHeader → Type 0
HasBytes h = AreBytes (h.content).left

sized_part_at-bytes : (u : Unread) → AreBytes u.left → Holds (InBytes (λ v. AreBytes v.left)) (sized_part_at u)
unfolding sized_part_at
sized_part_at-bytes u h =
    Holds-bind (number_at 4 u) _ (number_at-below 4 u h) (λ size i.
    Holds-tested (size.0 == 0xFFFFFFFF) (Refused Format64) _ (λ narrow.
    Holds-tested (nat_le 0xFFFFFFF0 size.0) Malformed _ (λ plain.
    part_at-bytes size.0 size.1 i.1)))

header_to_4-bytes : (offset end version : ℕ) (u : Unread) → AreBytes u.left → Holds HasBytes (header_to_4 offset end version u)
unfolding header_to_4
header_to_4-bytes offset end version u h =
    Holds-bind (number_at 4 u) _ (number_at-below 4 u h) (λ abbreviations i.
    Holds-bind (number_at 1 abbreviations.1) _ (number_at-below 1 abbreviations.1 i.1) (λ address_size j.
    Holds-tested (not ((address_size.0 == 4) || (address_size.0 == 8))) (Refused AddressSize) _ (λ known.
    record { held = j.1 })))

dwo_id_at-bytes : (unit_type : ℕ) (u : Unread) → AreBytes u.left → Holds (InBytes Any) (dwo_id_at unit_type u)
unfolding dwo_id_at
dwo_id_at-bytes unit_type u h = go ((unit_type == DW_UT_skeleton) || (unit_type == DW_UT_split_compile))
  where
    go : (b : Bool) → Holds {A = Option ℕ × Unread} (InBytes Any) (if b then (number_at 8 u >>= λ id. Ok (Some id.0, id.1)) else Ok (None, u))
    go true = Holds-bind (number_at 8 u) _ (number_at-below 8 u h) (λ id i. record { held = (tt, i.1) })
    go false = record { held = (tt, h) }

header_of_5-bytes : (offset end : ℕ) (u : Unread) → AreBytes u.left → Holds HasBytes (header_of_5 offset end u)
unfolding header_of_5
header_of_5-bytes offset end u h =
    Holds-bind (number_at 1 u) _ (number_at-below 1 u h) (λ unit_type i.
    Holds-tested ((unit_type.0 == DW_UT_type) || (unit_type.0 == DW_UT_split_type)) (Refused TypeUnit) _ (λ plain.
    Holds-tested ((unit_type.0 == 0) || nat_lt DW_UT_split_type unit_type.0) Malformed _ (λ given.
    Holds-bind (number_at 1 unit_type.1) _ (number_at-below 1 unit_type.1 i.1) (λ address_size j.
    Holds-tested (not ((address_size.0 == 4) || (address_size.0 == 8))) (Refused AddressSize) _ (λ known.
    Holds-bind (number_at 4 address_size.1) _ (number_at-below 4 address_size.1 j.1) (λ abbreviations k.
    Holds-bind (dwo_id_at unit_type.0 abbreviations.1) _ (dwo_id_at-bytes unit_type.0 abbreviations.1 k.1) (λ id l.
    record { held = l.1 })))))))

unit_header_at-bytes : (u : Unread) → AreBytes u.left → Holds (InBytes HasBytes) (unit_header_at u)
unfolding unit_header_at
unit_header_at-bytes u h =
    Holds-bind (sized_part_at u) _ (sized_part_at-bytes u h) (λ unit i.
    Holds-bind (number_at 2 unit.0) _ (number_at-below 2 unit.0 i.0) (λ version j.
    Holds-tested (nat_lt version.0 2 || nat_lt 5 version.0) (Refused Version) _ (λ known.
    Holds-bind _ _ (either (version.0 == 5) _ _ (header_of_5-bytes u.place (unit.1).place version.1 j.1) (header_to_4-bytes u.place (unit.1).place version.0 version.1 j.1)) (λ header k.
    record { held = (k, i.1) }))))
  where
    either : (b : Bool) (r s : Result UnitHeader Flaw) → Holds HasBytes r → Holds HasBytes s → Holds HasBytes (if b then r else s)
    either true r s h k = h
    either false r s h k = k

abbrev HeadersHaveBytes : Listing Fault UnitHeader → Type 0
HeadersHaveBytes l = All HasBytes l.items

unit_headers_from-bytes : (m : ℕ) (u : Unread) → length u.left < m → AreBytes u.left → HeadersHaveBytes (unit_headers_from u)
unit_headers_from-bytes zero u less i = absurd (omega (arith, less))
unit_headers_from-bytes (suc m) u less i =
    go (length u.left) refl (unit_header_at u) refl (unit_header_at-leaves u).fewer (unit_header_at-bytes u i) (λ v few j. unit_headers_from-bytes m v (omega (arith, less, few)) j)
  where
    go : (n : ℕ) → length u.left ≡ n → (r : Read UnitHeader) → unit_header_at u ≡ r → LeavesFewer r (length u.left) → Holds (InBytes HasBytes) r
        → ((v : Unread) → length v.left < length u.left → AreBytes v.left → HeadersHaveBytes (unit_headers_from v)) → HeadersHaveBytes (unit_headers_from u)
    go zero n r read few k rest = subst HeadersHaveBytes (sym (unit_headers_from-end u n)) (All-nil HasBytes)
    go (suc c) n (Err flaw) read few k rest = subst HeadersHaveBytes (sym (unit_headers_from-fault u flaw (omega (arith, n)) read)) (All-nil HasBytes)
    go (suc c) n (Ok (h, v)) read few k rest = subst HeadersHaveBytes (sym (unit_headers_from-item u v h (omega (arith, n)) read)) (All-cons HasBytes h _ (k.held).0 (rest v few (k.held).1))

-- What is unread behind the headers of units whose section has bytes.
pub contents-bytes : (s : Sections) → All (λ b. b < 256) (s.bytes Info) → All (λ h. All (λ b. b < 256) (h.content).left) (unit_headers s).items
contents-bytes s bytes =
    All-weaker HasBytes (λ h. All (λ b. b < 256) (h.content).left) (λ h i. i.below) (unit_headers s).items
    (unit_headers_from-bytes (suc (length (section_from s Info 0).left)) (section_from s Info 0) (omega arith) (record { below = bytes }))

-- The entries of all units of a section of bytes.
pub entries-read : (s : Sections) → All (λ b. b < 256) (s.bytes Info) → All (λ h. All IsReadEntry (entries s h).items) (unit_headers s).items
entries-read s bytes = All-weaker (λ h. All (λ b. b < 256) (h.content).left) (λ h. All IsReadEntry (entries s h).items) (λ h i. unit-read s h i) (unit_headers s).items (contents-bytes s bytes)

-- The first value of a name in an entry that was read.
pub attribute-read : (name : ℕ) (e : Entry) (v : Value) → IsReadEntry e → attribute name e ≡ Some v → IsReadValue name v
attribute-read name e v is found = go e.attributes is.values found
  where
    go : (xs : List (ℕ × Value)) → All (λ a. IsReadValue a.0 a.1) xs → option_map (λ a. a.1) (find (λ a. a.0 == name) xs) ≡ Some v → IsReadValue name v
    go [] all none = absurd (cc)
    go (x ∷ xs) all at = first (x.0 == name) refl at (λ rest. go xs (All-tail (λ a. IsReadValue a.0 a.1) x xs all) rest)
      where
        first : (b : Bool) → (x.0 == name) ≡ b → option_map (λ a. a.1) (if b then Some x else find (λ a. a.0 == name) xs) ≡ Some v
            → (option_map (λ a. a.1) (find (λ a. a.0 == name) xs) ≡ Some v → IsReadValue name v) → IsReadValue name v
        first true same at rest =
            let is : x.1 ≡ v = cc in
            subst (IsReadValue name) is (subst (λ n. IsReadValue n x.1) (eqb-true x.0 name same) (All-head (λ a. IsReadValue a.0 a.1) x xs all))
        first false other at rest = rest at

-- ---- one by one

-- What holds of all that is listed holds of the first, and of the others.
pub first-of_listing : {F A : Type 0} (P : A → Type 0) (x : A) (old new : Listing F A) → old ≡ with_first x new → All P old.items → P x
first-of_listing {F} {A} P x old new e h = All-head P x new.items (subst (λ (l : Listing F A). All P l.items) e h)

pub others-of_listing : {F A : Type 0} (P : A → Type 0) (x : A) (old new : Listing F A) → old ≡ with_first x new → All P old.items → All P new.items
others-of_listing {F} {A} P x old new e h = All-tail P x new.items (subst (λ (l : Listing F A). All P l.items) e h)
