-- What is left unread ends where what was read from ends, and where a unit and what is unread behind its header stand.
use Rattle.std.proofs.Common.{◌≡◌, ℕ, suc, ◌+◌, ◌%◌, ◌^◌, ◌≤◌, List, [], ◌∷◌, length, take, length-take, length-drop, refl, ap, arith, Bool, true, false, cond, Option, Some, None, Result, Ok, Err}
use Rattle.std.specs.Prelude.{if◌then◌else◌, ◌==◌, ◌||◌, not, nat_lt, nat_le}
use Rattle.std.specs.Option.{unwrap_or}
use Rattle.std.proofs.lemmas.Bool.{ltb-false}
use Rattle.dwc_base.specs.declared.faults.Flaw.{Flaw}
use Rattle.dwc_base.specs.declared.faults.Flaw.TheVariants.{EndsEarly, TooWide, Malformed, Refused}
use Rattle.dwc_base.specs.declared.faults.Kind.TheVariants.{AddressSize, Format64, TypeUnit, Version}
use Rattle.dwc_base.specs.Reading.{Unread, Read, ◌>>=◌, passed, front, forbid, seen_as, bytes_at, part_at, number_at, uleb_value, uleb_with, uleb_fitting, uleb_at}
use Rattle.dwc_base.specs.Sections.{Relocation, address_at}
use Rattle.dwc_base.specs.Units.{UnitHeader, sized_part_at, dwo_id_at, header_to_4, header_of_5, unit_header_at}
use Rattle.dwc_base.specs.declared.constants.TheConstants.{DW_UT_skeleton, DW_UT_split_compile, DW_UT_split_type, DW_UT_type}

-- what is unread begins not before a place, and ends at another
pub record IsWithin (from end : ℕ) (u : Unread) : Type 0 where
  pub begins : from ≤ u.place
  pub ends : u.place + length u.left ≡ end

-- so does what a reading leaves
abbrev pub LeavesWithin : {A : Type 0} → ℕ → ℕ → Read A → Type 0
LeavesWithin from end (Err flaw) = Unit {0}
LeavesWithin from end (Ok x) = IsWithin from end x.1

pub record Within {A : Type 0} (from end : ℕ) (r : Read A) : Type 0 where
  pub within : LeavesWithin from end r

pub within-bind : {A B : Type 0} (from end : ℕ) (r : Read A) (f : A × Unread → Read B) → Within from end r → ((x : A × Unread) → IsWithin from end x.1 → Within from end (f x)) → Within from end (r >>= f)
within-bind from end (Err flaw) f h k = record { within = tt }
within-bind from end (Ok x) f h k = k x h.within

pub within-seen : {A B : Type 0} (from end : ℕ) (view : A → B) (r : Read A) → Within from end r → Within from end (seen_as view r)
within-seen from end view (Err flaw) h = record { within = tt }
within-seen from end view (Ok x) h = record { within = h.within }

pub passed-within : (from end count : ℕ) (u : Unread) → IsWithin from end u → count ≤ length u.left → IsWithin from end (passed count u)
passed-within from end count u h le = record { begins = omega (arith, h.begins); ends = omega (arith, h.ends, le, length-drop count u.left) }

pub bytes_at-within : (from end size : ℕ) (u : Unread) → IsWithin from end u → Within from end (bytes_at size u)
unfolding bytes_at
bytes_at-within from end size u h = record { within = go (nat_lt (length u.left) size) refl }
  where
    go : (b : Bool) → nat_lt (length u.left) size ≡ b → LeavesWithin {A = List ℕ} from end (if b then Err EndsEarly else Ok (take size u.left, passed size u))
    go true e = tt
    go false e = passed-within from end size u h (omega (arith, ltb-false (length u.left) size e))

pub number_at-within : (from end size : ℕ) (u : Unread) → IsWithin from end u → Within from end (number_at size u)
unfolding number_at
number_at-within from end size u h = within-seen from end _ (bytes_at size u) (bytes_at-within from end size u h)

-- a LEB128 number takes no more bytes than there are
uleb_value-count : (bytes : List ℕ) (n count : ℕ) → uleb_value bytes ≡ Some (n, count) → count ≤ length bytes
uleb_value-count [] n count h = absurd (cc)
uleb_value-count (b ∷ bs) n count h = go (nat_lt b 128) (uleb_value bs) (λ m k e. uleb_value-count bs m k e) h
  where
    count_of : {m k : ℕ} → ◌≡◌ {A = Option (ℕ × ℕ)} (Some (m, k)) (Some (n, count)) → k ≡ count
    count_of e = ap (λ (o : Option (ℕ × ℕ)). (unwrap_or o (0, 0)).1) e

    go : (last : Bool) (r : Option (ℕ × ℕ)) → ((m k : ℕ) → r ≡ Some (m, k) → k ≤ length bs) → cond {A = Option (ℕ × ℕ)} last (Some (b, 1)) (uleb_with (b % 128) r) ≡ Some (n, count) → count ≤ length (b ∷ bs)
    go true r few e = let same : 1 ≡ count = count_of e in omega (arith, same)
    go false None few e = absurd (cc)
    go false (Some high) few e = let same : suc high.1 ≡ count = count_of e in omega (arith, same, few high.0 high.1 refl)

pub uleb_at-within : (from end : ℕ) (u : Unread) → IsWithin from end u → Within from end (uleb_at u)
unfolding uleb_at
uleb_at-within from end u h = record { within = go (uleb_value u.left) refl }
  where
    fitting : (b : Bool) (n count : ℕ) → count ≤ length u.left → LeavesWithin {A = ℕ} from end (if b then Ok (n, passed count u) else Err TooWide)
    fitting true n count le = passed-within from end count u h le
    fitting false n count le = tt

    go : (o : Option (ℕ × ℕ)) → uleb_value u.left ≡ o → LeavesWithin from end (uleb_fitting u o)
    go None e = tt
    go (Some n) e = fitting (nat_lt n.0 (2 ^ 64)) n.0 n.1 (uleb_value-count u.left n.0 n.1 e)

pub address_at-within : (relocations : List Relocation) (from end size : ℕ) (u : Unread) → IsWithin from end u → Within from end (address_at relocations size u)
unfolding address_at
address_at-within relocations from end size u h = within-bind from end (number_at size u) _ (number_at-within from end size u h) (λ x i. record { within = i })

-- ---- units

-- a part, and what is unread behind it
abbrev pub PartWithin : ℕ → ℕ → Read Unread → Type 0
PartWithin from end (Err flaw) = Unit {0}
PartWithin from end (Ok x) = IsWithin from (x.1).place x.0 × IsWithin from end x.1

pub record IsPart (from end : ℕ) (r : Read Unread) : Type 0 where
  pub part : PartWithin from end r

part-bind : {A : Type 0} (from end : ℕ) (r : Read A) (f : A × Unread → Read Unread) → Within from end r → ((x : A × Unread) → IsWithin from end x.1 → IsPart from end (f x)) → IsPart from end (r >>= f)
part-bind from end (Err flaw) f h k = record { part = tt }
part-bind from end (Ok x) f h k = k x h.within

part-behind : {A : Type 0} (from end : ℕ) (r : Result A Flaw) (f : A → Read Unread) → ((x : A) → IsPart from end (f x)) → IsPart from end (r >>= f)
part-behind from end (Err flaw) f k = record { part = tt }
part-behind from end (Ok x) f k = k x

part_at-within : (from end size : ℕ) (u : Unread) → IsWithin from end u → IsPart from end (part_at size u)
unfolding part_at
part_at-within from end size u h = record { part = go (nat_lt (length u.left) size) refl }
  where
    go : (b : Bool) → nat_lt (length u.left) size ≡ b → PartWithin from end (if b then Err EndsEarly else Ok (front size u, passed size u))
    go true e = tt
    go false e =
        let le : size ≤ length u.left = omega (arith, ltb-false (length u.left) size e) in
        (record { begins = h.begins; ends = omega (arith, le, length-take size u.left) }, passed-within from end size u h le)

sized_part_at-within : (from end : ℕ) (u : Unread) → IsWithin from end u → IsPart from end (sized_part_at u)
unfolding sized_part_at
sized_part_at-within from end u h =
    part-bind from end (number_at 4 u) _ (number_at-within from end 4 u h) (λ size i.
    part-behind {A = Unit {0}} from end (forbid (size.0 == 0xFFFFFFFF) (Refused Format64)) _ (λ narrow.
    part-behind {A = Unit {0}} from end (forbid (nat_le 0xFFFFFFF0 size.0) Malformed) _ (λ plain.
    part_at-within from end size.0 size.1 i)))

-- where a header says that its unit begins and ends, and what is unread behind it
pub record HeaderIs (offset end : ℕ) (h : UnitHeader) : Type 0 where
  pub begins : h.offset ≡ offset
  pub ends : h.end ≡ end
  pub content : IsWithin offset end h.content

abbrev pub HeaderOf : ℕ → ℕ → Result UnitHeader Flaw → Type 0
HeaderOf offset end (Err flaw) = Unit {0}
HeaderOf offset end (Ok h) = HeaderIs offset end h

pub record HasHeader (offset end : ℕ) (r : Result UnitHeader Flaw) : Type 0 where
  pub header : HeaderOf offset end r

header-bind : {A : Type 0} (offset end : ℕ) (r : Read A) (f : A × Unread → Result UnitHeader Flaw) → Within offset end r → ((x : A × Unread) → IsWithin offset end x.1 → HasHeader offset end (f x)) → HasHeader offset end (r >>= f)
header-bind offset end (Err flaw) f h k = record { header = tt }
header-bind offset end (Ok x) f h k = k x h.within

header-behind : {A : Type 0} (offset end : ℕ) (r : Result A Flaw) (f : A → Result UnitHeader Flaw) → ((x : A) → HasHeader offset end (f x)) → HasHeader offset end (r >>= f)
header-behind offset end (Err flaw) f k = record { header = tt }
header-behind offset end (Ok x) f k = k x

header_to_4-is : (offset end version : ℕ) (u : Unread) → IsWithin offset end u → HasHeader offset end (header_to_4 offset end version u)
unfolding header_to_4
header_to_4-is offset end version u h =
    header-bind offset end (number_at 4 u) _ (number_at-within offset end 4 u h) (λ abbreviations i.
    header-bind offset end (number_at 1 abbreviations.1) _ (number_at-within offset end 1 abbreviations.1 i) (λ address_size j.
    header-behind {A = Unit {0}} offset end (forbid (not ((address_size.0 == 4) || (address_size.0 == 8))) (Refused AddressSize)) _ (λ known.
    record { header = record { begins = refl; ends = refl; content = j } })))

dwo_id_at-within : (from end unit_type : ℕ) (u : Unread) → IsWithin from end u → Within from end (dwo_id_at unit_type u)
unfolding dwo_id_at
dwo_id_at-within from end unit_type u h = go ((unit_type == DW_UT_skeleton) || (unit_type == DW_UT_split_compile))
  where
    go : (b : Bool) → Within {A = Option ℕ} from end (if b then (number_at 8 u >>= λ id. Ok (Some id.0, id.1)) else Ok (None, u))
    go true = within-bind from end (number_at 8 u) _ (number_at-within from end 8 u h) (λ x i. record { within = i })
    go false = record { within = h }

header_of_5-is : (offset end : ℕ) (u : Unread) → IsWithin offset end u → HasHeader offset end (header_of_5 offset end u)
unfolding header_of_5
header_of_5-is offset end u h =
    header-bind offset end (number_at 1 u) _ (number_at-within offset end 1 u h) (λ unit_type i.
    header-behind {A = Unit {0}} offset end (forbid ((unit_type.0 == DW_UT_type) || (unit_type.0 == DW_UT_split_type)) (Refused TypeUnit)) _ (λ plain.
    header-behind {A = Unit {0}} offset end (forbid ((unit_type.0 == 0) || nat_lt DW_UT_split_type unit_type.0) Malformed) _ (λ given.
    header-bind offset end (number_at 1 unit_type.1) _ (number_at-within offset end 1 unit_type.1 i) (λ address_size j.
    header-behind {A = Unit {0}} offset end (forbid (not ((address_size.0 == 4) || (address_size.0 == 8))) (Refused AddressSize)) _ (λ known.
    header-bind offset end (number_at 4 address_size.1) _ (number_at-within offset end 4 address_size.1 j) (λ abbreviations k.
    header-bind offset end (dwo_id_at unit_type.0 abbreviations.1) _ (dwo_id_at-within offset end unit_type.0 abbreviations.1 k) (λ id l.
    record { header = record { begins = refl; ends = refl; content = l } })))))))

-- a unit that was read, and what is unread behind it
abbrev pub UnitWithin : ℕ → ℕ → Read UnitHeader → Type 0
UnitWithin offset end (Err flaw) = Unit {0}
UnitWithin offset end (Ok x) = HeaderIs offset (x.1).place x.0 × IsWithin offset end x.1

pub unit_header_at-within : (u : Unread) → UnitWithin u.place (u.place + length u.left) (unit_header_at u)
unfolding unit_header_at
unit_header_at-within u = go (sized_part_at u) (sized_part_at-within u.place (u.place + length u.left) u (record { begins = omega arith; ends = refl }))
  where
    last : (v : Unread) (r : Result UnitHeader Flaw) → HasHeader u.place v.place r → IsWithin u.place (u.place + length u.left) v → UnitWithin u.place (u.place + length u.left) (r >>= λ header. Ok (header, v))
    last v (Err flaw) h i = tt
    last v (Ok header) h i = (h.header, i)

    either : (b : Bool) (end : ℕ) (r s : Result UnitHeader Flaw) → HasHeader u.place end r → HasHeader u.place end s → HasHeader u.place end (if b then r else s)
    either true end r s h k = h
    either false end r s h k = k

    versioned : (part : Unread × Unread) → IsWithin u.place (part.1).place part.0 → IsWithin u.place (u.place + length u.left) part.1 → (r : Read ℕ) → Within u.place (part.1).place r
        → UnitWithin u.place (u.place + length u.left) (r >>= λ version. forbid (nat_lt version.0 2 || nat_lt 5 version.0) (Refused Version) >>= λ known.
        (if version.0 == 5 then header_of_5 u.place (part.1).place version.1 else header_to_4 u.place (part.1).place version.0 version.1) >>= λ header. Ok (header, part.1))
    versioned part h i (Err flaw) k = tt
    versioned part h i (Ok version) k = known (nat_lt version.0 2 || nat_lt 5 version.0)
      where
        known : (b : Bool) → UnitWithin u.place (u.place + length u.left) (forbid b (Refused Version) >>= λ known. (if version.0 == 5 then header_of_5 u.place (part.1).place version.1 else header_to_4 u.place (part.1).place version.0 version.1) >>= λ header. Ok (header, part.1))
        known true = tt
        known false = last part.1 _ (either (version.0 == 5) (part.1).place _ _ (header_of_5-is u.place (part.1).place version.1 k.within) (header_to_4-is u.place (part.1).place version.0 version.1 k.within)) i

    go : (r : Read Unread) → IsPart u.place (u.place + length u.left) r → UnitWithin u.place (u.place + length u.left) (r >>= λ part. number_at 2 part.0 >>= λ version. forbid (nat_lt version.0 2 || nat_lt 5 version.0) (Refused Version) >>= λ known.
        (if version.0 == 5 then header_of_5 u.place (part.1).place version.1 else header_to_4 u.place (part.1).place version.0 version.1) >>= λ header. Ok (header, part.1))
    go (Err flaw) h = tt
    go (Ok part) h = versioned part (h.part).0 (h.part).1 (number_at 2 part.0) (number_at-within u.place (part.1).place 2 part.0 (h.part).0)
