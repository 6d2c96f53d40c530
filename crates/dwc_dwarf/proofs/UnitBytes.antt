-- What is unread behind a value, a header or a unit stands where it stood in the bytes that were read from, and an expression's
-- bytes are the last of its value.
use Rattle.std.proofs.Common.{◌≡◌, ℕ, zero, suc, ◌+◌, ◌-◌, ◌^◌, List, length, take, drop, refl, ap, sym, ◌∙◌, arith, Bool, true, false, Option, Some, None, Result, Ok, Err}
use Rattle.std.specs.Prelude.{ℤ, if◌then◌else◌, ◌==◌, ◌||◌, not, nat_lt, nat_le}
use Rattle.std.specs.List.{position}
use Rattle.std.proofs.lemmas.Bool.{ltb-false}
use Rattle.std.proofs.lemmas.List.{drop-drop, drop-take, length-take-le}
use Rattle.dwc_base.specs.declared.faults.Flaw.{Flaw}
use Rattle.dwc_base.specs.declared.faults.Flaw.TheVariants.{EndsEarly, TooWide, Malformed, Refused}
use Rattle.dwc_base.specs.declared.faults.Kind.TheVariants.{AddressSize, Format64, TypeUnit, Version}
use Rattle.dwc_base.specs.declared.records.Encoding.{Encoding}
use Rattle.dwc_base.specs.declared.records.Endian.{Endian}
use Rattle.dwc_base.specs.declared.section_name.SectionName.TheVariants.{Info}
use Rattle.dwc_base.specs.Reading.{Unread, Read, ◌>>=◌, forbid, seen_as, passed, front, bytes_at, part_at, number_at, uleb_value, uleb_fitting, uleb_at, sleb_value, sleb_fitting, sleb_at, is_64_bit, text_at}
use Rattle.dwc_base.specs.Sections.{Sections, Relocation, address_at}
use Rattle.dwc_base.specs.Abbreviations.{AttributeSpec}
use Rattle.dwc_base.specs.Units.{UnitHeader, sized_part_at, header_to_4, header_of_5, dwo_id_at, unit_header_at}
use Rattle.dwc_dwarf.specs.Values.{Value, block, constant, dropped, expression, line_reference, location_index, location_reference, range_index, range_reference, Size, fixed, variable, Form, addr, indexed_addr, blocks, exprloc, data_of, sdata, implicit, flag_byte, flag_present, string, string_elsewhere, reference, ref_addr, sec_offset, indexed_location, indexed_range, passed_over, supplementary, is_location_name, is_range_name, is_expression_name, section_offset, block_value, constant_value, form_of, sized_number_at, block_at, formed_value_at, form_behind, form_code_at, encoded_value_at, encoding_of, value_at}
use Rattle.dwc_base.specs.declared.constants.TheConstants.{DW_AT_stmt_list, DW_FORM_implicit_const, DW_FORM_indirect, DW_UT_skeleton, DW_UT_split_compile, DW_UT_split_type, DW_UT_type}
use Rattle.dwc_base.proofs.ReadValuesParts.{HoldsOf, Holds, Holds-bind, Holds-tested}

-- some bytes, unread from a place on
abbrev pub from_place : Endian → List ℕ → ℕ → Unread
from_place order bytes place = record { order = order; place = place; left = drop place bytes }

-- what is unread is what some bytes have from its place on
pub record IsOf (order : Endian) (bytes : List ℕ) (u : Unread) : Type 0 where
  pub same : u ≡ from_place order bytes u.place

module _ (order : Endian) (bytes : List ℕ) where
  -- what was read, with what is unread behind it
  abbrev pub LeavesOf : {A : Type 0} → A × Unread → Type 0
  LeavesOf x = IsOf order bytes x.1

  pub passed-of : (n : ℕ) (u : Unread) → IsOf order bytes u → IsOf order bytes (passed n u)
  passed-of n u h = record { same = ap (λ (v : Unread). passed n v) h.same ∙ ap (λ left. record { order = order; place = u.place + n; left = left }) (drop-drop n u.place bytes) }

  of-seen : {A B : Type 0} (view : A → B) (r : Read A) → Holds LeavesOf r → Holds LeavesOf (seen_as view r)
  of-seen view (Err flaw) h = record { held = tt }
  of-seen view (Ok x) h = record { held = h.held }

  -- ---- numbers and texts

  bytes_at-of : (size : ℕ) (u : Unread) → IsOf order bytes u → Holds LeavesOf (bytes_at size u)
  unfolding bytes_at
  bytes_at-of size u h = record { held = go (nat_lt (length u.left) size) }
    where
      go : (b : Bool) → HoldsOf {A = List ℕ × Unread} LeavesOf (if b then Err EndsEarly else Ok (take size u.left, passed size u))
      go true = tt
      go false = passed-of size u h

  pub number_at-of : (size : ℕ) (u : Unread) → IsOf order bytes u → Holds LeavesOf (number_at size u)
  unfolding number_at
  number_at-of size u h = of-seen _ (bytes_at size u) (bytes_at-of size u h)

  pub uleb_at-of : (u : Unread) → IsOf order bytes u → Holds LeavesOf (uleb_at u)
  unfolding uleb_at
  uleb_at-of u h = record { held = go (uleb_value u.left) }
    where
      fitting : (b : Bool) (n count : ℕ) → HoldsOf {A = ℕ × Unread} LeavesOf (if b then Ok (n, passed count u) else Err TooWide)
      fitting true n count = passed-of count u h
      fitting false n count = tt

      go : (o : Option (ℕ × ℕ)) → HoldsOf LeavesOf (uleb_fitting u o)
      go None = tt
      go (Some n) = fitting (nat_lt n.0 (2 ^ 64)) n.0 n.1

  pub sleb_at-of : (u : Unread) → IsOf order bytes u → Holds LeavesOf (sleb_at u)
  unfolding sleb_at
  sleb_at-of u h = record { held = go (sleb_value u.left) }
    where
      fitting : (b : Bool) (z : ℤ) (count : ℕ) → HoldsOf {A = ℤ × Unread} LeavesOf (if b then Ok (z, passed count u) else Err TooWide)
      fitting true z count = passed-of count u h
      fitting false z count = tt

      go : (o : Option (ℤ × ℕ)) → HoldsOf LeavesOf (sleb_fitting u o)
      go None = tt
      go (Some n) = fitting (is_64_bit n.0) n.0 n.1

  text_at-of : (u : Unread) → IsOf order bytes u → Holds LeavesOf (text_at u)
  unfolding text_at
  text_at-of u h = record { held = go (position (λ b. b == 0) u.left) }
    where
      go : (o : Option ℕ) → HoldsOf {A = List ℕ × Unread} LeavesOf (elim o [ None ↦ Err EndsEarly | Some n ↦ Ok (take n u.left, passed (n + 1) u) ])
      go None = tt
      go (Some n) = passed-of (n + 1) u h

  sized_number_at-of : (size : Size) (u : Unread) → IsOf order bytes u → Holds LeavesOf (sized_number_at size u)
  unfolding sized_number_at
  sized_number_at-of (fixed size) u h = number_at-of size u h
  sized_number_at-of variable u h = uleb_at-of u h

  address_at-of : (relocations : List Relocation) (size : ℕ) (u : Unread) → IsOf order bytes u → Holds LeavesOf (address_at relocations size u)
  unfolding address_at
  address_at-of relocations size u h = Holds-bind (number_at size u) _ (number_at-of size u h) (λ x i. record { held = i })

  -- ---- values

  -- some bytes stand before a place
  abbrev pub StandBefore : ℕ → List ℕ → Type 0
  StandBefore place these = take (length these) (drop (place - length these) bytes) ≡ these

  -- the bytes of an expression are the last before its value's end; nothing is asked of other values
  abbrev pub EndsIn : ℕ → Value → Type 0
  EndsIn place (expression these) = StandBefore place these
  EndsIn place _ = Unit {0}

  abbrev pub Ends : Value × Unread → Type 0
  Ends x = IsOf order bytes x.1 × EndsIn (x.1).place x.0

  abbrev BlockEnds : List ℕ × Unread → Type 0
  BlockEnds x = IsOf order bytes x.1 × StandBefore (x.1).place x.0

  bytes_at-ends : (size : ℕ) (u : Unread) → IsOf order bytes u → Holds BlockEnds (bytes_at size u)
  unfolding bytes_at
  bytes_at-ends size u h = record { held = go (nat_lt (length u.left) size) refl }
    where
      go : (b : Bool) → nat_lt (length u.left) size ≡ b → HoldsOf BlockEnds (if b then Err EndsEarly else Ok (take size u.left, passed size u))
      go true e = tt
      go false e =
          let long : length (take size u.left) ≡ size = length-take-le size u.left (omega (arith, ltb-false (length u.left) size e)) in
          let begin : u.place + size - size ≡ u.place = omega arith in
          (passed-of size u h, rw (long, begin) (ap (λ (v : Unread). take size v.left) (sym h.same)))

  block_at-ends : (size : Size) (u : Unread) → IsOf order bytes u → Holds BlockEnds (block_at size u)
  unfolding block_at
  block_at-ends size u h = Holds-bind (sized_number_at size u) _ (sized_number_at-of size u h) (λ count i. bytes_at-ends count.0 count.1 i)

  -- a value that is no expression
  ends-seen : {A : Type 0} (view : A → Value) (r : Read A) → ((place : ℕ) (x : A) → EndsIn place (view x)) → Holds LeavesOf r → Holds Ends (seen_as view r)
  ends-seen view (Err flaw) plain h = record { held = tt }
  ends-seen view (Ok x) plain h = record { held = (h.held, plain (x.1).place x.0) }

  ends-block : (view : List ℕ → Value) (r : Read (List ℕ)) → ((place : ℕ) (these : List ℕ) → StandBefore place these → EndsIn place (view these)) → Holds BlockEnds r → Holds Ends (seen_as view r)
  ends-block view (Err flaw) like h = record { held = tt }
  ends-block view (Ok x) like h = record { held = ((h.held).0, like (x.1).place x.0 (h.held).1) }

  ends-same : (v : Value) (u : Unread) → EndsIn u.place v → IsOf order bytes u → Holds {E = Flaw} Ends (Ok (v, u))
  ends-same v u plain h = record { held = (h, plain) }

  ends-either : (place : ℕ) (b : Bool) (v w : Value) → EndsIn place v → EndsIn place w → EndsIn place (if b then v else w)
  ends-either place true v w h k = h
  ends-either place false v w h k = k

  section_offset-ends : (name n place : ℕ) → EndsIn place (section_offset name n)
  section_offset-ends name n place =
      ends-either place (is_location_name name) (location_reference n) _ tt
      (ends-either place (name == DW_AT_stmt_list) (line_reference n) _ tt (ends-either place (is_range_name name) (range_reference n) dropped tt tt))

  constant_value-ends : (version name code n place : ℕ) → EndsIn place (constant_value version name code n)
  constant_value-ends version name code n place = ends-either place _ (section_offset name n) (constant code n) (section_offset-ends name n place) tt

  block_value-ends : (name place : ℕ) (these : List ℕ) → StandBefore place these → EndsIn place (block_value name these)
  block_value-ends name place these h = ends-either place (is_expression_name name) (expression these) (block these) h tt

  formed_value_at-ends : (relocations : List Relocation) (e : Encoding) (spec : AttributeSpec) (code : ℕ) (form : Form) (u : Unread) → IsOf order bytes u → Holds Ends (formed_value_at relocations e spec code form u)
  unfolding formed_value_at
  formed_value_at-ends relocations e spec code addr u h = ends-seen _ _ (λ place x. tt) (address_at-of relocations _ u h)
  formed_value_at-ends relocations e spec code (indexed_addr size) u h = ends-seen _ _ (λ place x. tt) (sized_number_at-of size u h)
  formed_value_at-ends relocations e spec code (blocks size) u h = ends-block _ _ (block_value-ends spec.name) (block_at-ends size u h)
  formed_value_at-ends relocations e spec code exprloc u h = ends-block _ _ (λ place these i. i) (block_at-ends variable u h)
  formed_value_at-ends relocations e spec code (data_of size) u h = ends-seen _ _ (λ place n. constant_value-ends e.version spec.name code n place) (sized_number_at-of size u h)
  formed_value_at-ends relocations e spec code sdata u h = ends-seen _ _ (λ place x. tt) (sleb_at-of u h)
  formed_value_at-ends relocations e spec code implicit u h = ends-same _ u tt h
  formed_value_at-ends relocations e spec code flag_byte u h = ends-seen _ _ (λ place x. tt) (number_at-of 1 u h)
  formed_value_at-ends relocations e spec code flag_present u h = ends-same _ u tt h
  formed_value_at-ends relocations e spec code string u h = ends-seen _ _ (λ place x. tt) (text_at-of u h)
  formed_value_at-ends relocations e spec code (string_elsewhere size) u h = ends-seen _ _ (λ place x. tt) (sized_number_at-of size u h)
  formed_value_at-ends relocations e spec code (reference size) u h = ends-seen _ _ (λ place x. tt) (sized_number_at-of size u h)
  formed_value_at-ends relocations e spec code ref_addr u h = ends-seen _ _ (λ place x. tt) (number_at-of _ u h)
  formed_value_at-ends relocations e spec code sec_offset u h = ends-seen _ _ (λ place n. section_offset-ends spec.name n place) (number_at-of 4 u h)
  formed_value_at-ends relocations e spec code indexed_location u h = ends-seen _ _ (λ place n. ends-either place (is_location_name spec.name) (location_index n) dropped tt tt) (uleb_at-of u h)
  formed_value_at-ends relocations e spec code indexed_range u h = ends-seen _ _ (λ place n. ends-either place (is_range_name spec.name) (range_index n) dropped tt tt) (uleb_at-of u h)
  formed_value_at-ends relocations e spec code (passed_over size) u h = ends-seen _ _ (λ place x. tt) (bytes_at-of size u h)
  formed_value_at-ends relocations e spec code supplementary u h = record { held = tt }

  form_behind-of : (most : ℕ) (u : Unread) → IsOf order bytes u → Holds LeavesOf (form_behind most u)
  unfolding form_behind
  form_behind-of zero u h = record { held = tt }
  form_behind-of (suc most) u h = Holds-bind (uleb_at u) _ (uleb_at-of u h) (λ code i. go (code.0 == DW_FORM_indirect) code i (form_behind-of most code.1 i))
    where
      given : (b : Bool) (code : ℕ × Unread) → IsOf order bytes code.1 → Holds {A = ℕ × Unread} LeavesOf (forbid b Malformed >>= λ given. Ok code)
      given true code i = record { held = tt }
      given false code i = record { held = i }

      go : (b : Bool) (code : ℕ × Unread) → IsOf order bytes code.1 → Holds LeavesOf (form_behind most code.1)
          → Holds {A = ℕ × Unread} LeavesOf (elim b [ true ↦ form_behind most code.1 | false ↦ (forbid (code.0 == DW_FORM_implicit_const) Malformed >>= λ given. Ok code) ])
      go true code i again = again
      go false code i again = given (code.0 == DW_FORM_implicit_const) code i

  form_code_at-of : (spec : AttributeSpec) (u : Unread) → IsOf order bytes u → Holds LeavesOf (form_code_at spec u)
  unfolding form_code_at
  form_code_at-of spec u h = go (spec.form == DW_FORM_indirect)
    where
      go : (b : Bool) → Holds {A = ℕ × Unread} LeavesOf (elim b [ true ↦ form_behind (length u.left) u | false ↦ Ok (spec.form, u) ])
      go true = form_behind-of (length u.left) u h
      go false = record { held = h }

  pub value_at-ends : (s : Sections) (h : UnitHeader) (spec : AttributeSpec) (u : Unread) → IsOf order bytes u → Holds Ends (value_at s h spec u)
  unfolding value_at encoded_value_at
  value_at-ends s h spec u i = Holds-bind (form_code_at spec u) _ (form_code_at-of spec u i) (λ code j. go (form_of code.0) code j)
    where
      go : (o : Option Form) (code : ℕ × Unread) → IsOf order bytes code.1 → Holds {A = Value × Unread} Ends (elim o [ None ↦ Err Malformed | Some form ↦ formed_value_at (s.relocations Info) (encoding_of h) spec code.0 form code.1 ])
      go None code j = record { held = tt }
      go (Some form) code j = formed_value_at-ends (s.relocations Info) (encoding_of h) spec code.0 form code.1 j

-- ---- units

-- a part of some bytes ends where what is unread behind it begins
abbrev PartOf : Endian → List ℕ → Unread × Unread → Type 0
PartOf order whole x = IsOf order (take (x.1).place whole) x.0 × IsOf order whole x.1

part_at-of : (order : Endian) (whole : List ℕ) (size : ℕ) (u : Unread) → IsOf order whole u → Holds (PartOf order whole) (part_at size u)
unfolding part_at
part_at-of order whole size u h = record { held = go (nat_lt (length u.left) size) }
  where
    part : IsOf order (take (u.place + size) whole) (front size u)
    part = record { same = ap (λ (v : Unread). front size v) h.same ∙ ap (λ left. record { order = order; place = u.place; left = left }) (sym (drop-take u.place size whole)) }

    go : (b : Bool) → HoldsOf (PartOf order whole) (if b then Err EndsEarly else Ok (front size u, passed size u))
    go true = tt
    go false = (part, passed-of order whole size u h)

sized_part_at-of : (order : Endian) (whole : List ℕ) (u : Unread) → IsOf order whole u → Holds (PartOf order whole) (sized_part_at u)
unfolding sized_part_at
sized_part_at-of order whole u h =
    Holds-bind (number_at 4 u) _ (number_at-of order whole 4 u h) (λ size i.
    Holds-tested (size.0 == 0xFFFFFFFF) (Refused Format64) _ (λ narrow.
    Holds-tested (nat_le 0xFFFFFFF0 size.0) Malformed _ (λ plain.
    part_at-of order whole size.0 size.1 i)))

-- what is unread behind a header is of its unit
abbrev ContentOf : Endian → List ℕ → UnitHeader → Type 0
ContentOf order whole h = IsOf order (take h.end whole) h.content

module _ (order : Endian) (whole : List ℕ) (offset end : ℕ) where
  header_to_4-of : (version : ℕ) (u : Unread) → IsOf order (take end whole) u → Holds (ContentOf order whole) (header_to_4 offset end version u)
  unfolding header_to_4
  header_to_4-of version u h =
      Holds-bind (number_at 4 u) _ (number_at-of order (take end whole) 4 u h) (λ abbreviations i.
      Holds-bind (number_at 1 abbreviations.1) _ (number_at-of order (take end whole) 1 abbreviations.1 i) (λ address_size j.
      Holds-tested (not ((address_size.0 == 4) || (address_size.0 == 8))) (Refused AddressSize) _ (λ known.
      record { held = j })))

  dwo_id_at-of : (unit_type : ℕ) (u : Unread) → IsOf order (take end whole) u → Holds (LeavesOf order (take end whole)) (dwo_id_at unit_type u)
  unfolding dwo_id_at
  dwo_id_at-of unit_type u h = go ((unit_type == DW_UT_skeleton) || (unit_type == DW_UT_split_compile))
    where
      go : (b : Bool) → Holds {A = Option ℕ × Unread} (LeavesOf order (take end whole)) (if b then (number_at 8 u >>= λ id. Ok (Some id.0, id.1)) else Ok (None, u))
      go true = Holds-bind (number_at 8 u) _ (number_at-of order (take end whole) 8 u h) (λ id i. record { held = i })
      go false = record { held = h }

  header_of_5-of : (u : Unread) → IsOf order (take end whole) u → Holds (ContentOf order whole) (header_of_5 offset end u)
  unfolding header_of_5
  header_of_5-of u h =
      Holds-bind (number_at 1 u) _ (number_at-of order (take end whole) 1 u h) (λ unit_type i.
      Holds-tested ((unit_type.0 == DW_UT_type) || (unit_type.0 == DW_UT_split_type)) (Refused TypeUnit) _ (λ plain.
      Holds-tested ((unit_type.0 == 0) || nat_lt DW_UT_split_type unit_type.0) Malformed _ (λ given.
      Holds-bind (number_at 1 unit_type.1) _ (number_at-of order (take end whole) 1 unit_type.1 i) (λ address_size j.
      Holds-tested (not ((address_size.0 == 4) || (address_size.0 == 8))) (Refused AddressSize) _ (λ known.
      Holds-bind (number_at 4 address_size.1) _ (number_at-of order (take end whole) 4 address_size.1 j) (λ abbreviations k.
      Holds-bind (dwo_id_at unit_type.0 abbreviations.1) _ (dwo_id_at-of unit_type.0 abbreviations.1 k) (λ id l.
      record { held = l })))))))

-- a header's content is of its unit, and what is unread behind the unit is of the whole
abbrev pub UnitOf : Endian → List ℕ → UnitHeader × Unread → Type 0
UnitOf order whole x = IsOf order (take (x.0).end whole) (x.0).content × IsOf order whole x.1

pub unit_header_at-of : (order : Endian) (whole : List ℕ) (u : Unread) → IsOf order whole u → Holds (UnitOf order whole) (unit_header_at u)
unfolding unit_header_at
unit_header_at-of order whole u h =
    Holds-bind (sized_part_at u) _ (sized_part_at-of order whole u h) (λ unit i.
    Holds-bind (number_at 2 unit.0) _ (number_at-of order (take (unit.1).place whole) 2 unit.0 i.0) (λ version j.
    Holds-tested (nat_lt version.0 2 || nat_lt 5 version.0) (Refused Version) _ (λ known.
    Holds-bind _ _ (either (version.0 == 5) _ _ (header_of_5-of order whole u.place (unit.1).place version.1 j) (header_to_4-of order whole u.place (unit.1).place version.0 version.1 j)) (λ header k.
    record { held = (k, i.1) }))))
  where
    either : (b : Bool) (r s : Result UnitHeader Flaw) → Holds (ContentOf order whole) r → Holds (ContentOf order whole) s → Holds (ContentOf order whole) (if b then r else s)
    either true r s h k = h
    either false r s h k = k
