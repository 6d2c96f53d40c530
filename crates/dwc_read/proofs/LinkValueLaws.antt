-- Which values lead elsewhere, and how long those are that do not.
use Rattle.std.proofs.Common.{◌≡◌, ℕ, ◌+◌, ◌<◌, ◌≤◌, refl, ap, sym, subst, ◌∙◌, arith, List, [], ◌∷◌, ◌++◌, append_assoc, append-nil, length, get_or, Bool, true, false, cond, eqb-true, Option, Some, None, Ok, Err}
use Rattle.std.specs.Prelude.{◌==◌, not, nat_lt, ◌&&◌, ◌||◌, if◌then◌else◌, option_map, option_and_then, option_to_list}
use Rattle.std.specs.List.{filter, cons_option}
use Rattle.std.specs.Int.{w64, cast_unsigned}
use Rattle.dwc_base.specs.declared.faults.Flaw.{Flaw}
use Rattle.dwc_base.specs.declared.faults.Flaw.TheVariants.{Malformed}
use Rattle.dwc_base.specs.declared.records.Encoding.{Encoding}
use Rattle.dwc_base.specs.declared.section_name.SectionName.TheVariants.{Info}
use Rattle.dwc_base.specs.declared.constants.TheConstants.{DW_AT_stmt_list, DW_FORM_data4, DW_FORM_indirect}
use Rattle.dwc_base.specs.Reading.{Unread, Read, ◌>>=◌, number, bytes_at, number_at, seen_as}
use Rattle.dwc_base.specs.Abbreviations as table
use Rattle.dwc_base.specs.Sections.{Sections, Relocation}
use Rattle.dwc_base.specs.Units.{UnitHeader}
use Rattle.dwc_dwarf.specs.Values.{Value, address_index, constant, flag, text_reference, location_reference, line_reference, range_reference, dropped, fixed, variable, Form, addr, indexed_addr, blocks, exprloc, data_of, sdata, implicit, flag_byte, flag_present, string, string_elsewhere, reference, ref_addr, sec_offset, indexed_location, indexed_range, passed_over, supplementary, form_of, is_location_name, is_range_name, section_offset, constant_value, sized_number_at, formed_value_at, form_behind, form_code_at, encoded_value_at, encoding_of, value_at}
use Rattle.dwc_dwarf.specs.Entries.{attributes_at}
use Rattle.dwc_base.proofs.ReadSteps.{bytes_at-whole}
use Rattle.dwc_read.specs.declared.attribute_spec.AttributeSpec.{AttributeSpec}
use Rattle.dwc_read.specs.declared.value.AttributeValue.{AttributeValue}
use Rattle.dwc_read.specs.AttributeSpecs.{spec_view}
use Rattle.dwc_read.specs.ValuesSeen.{value_view, attribute_view}
use Rattle.dwc_read.specs.Links.{is_reference, is_link_name, is_link, link_of, link_at, links_at, passed_form, passed_size}
use Rattle.dwc_read.proofs.AttributeLaws.{specs_from, attributes_at-more, attributes_at-flaw, attributes_at-end}

-- ---- values that lead nowhere

section_offset-plain : (name n : ℕ) → is_reference (section_offset name n) ≡ false
section_offset-plain name n = go (is_location_name name) (name == DW_AT_stmt_list) (is_range_name name)
  where
    go : (a b c : Bool) → is_reference (if a then location_reference n else (if b then line_reference n else (if c then range_reference n else dropped))) ≡ false
    go true b c = refl
    go false true c = refl
    go false false true = refl
    go false false false = refl

constant_value-plain : (version name code n : ℕ) → is_reference (constant_value version name code n) ≡ false
constant_value-plain version name code n = go ((code == DW_FORM_data4) && nat_lt version 4 && (is_location_name name || (name == DW_AT_stmt_list) || is_range_name name))
  where
    go : (b : Bool) → is_reference (if b then section_offset name n else constant code n) ≡ false
    go true = section_offset-plain name n
    go false = refl

module _ (name : ℕ) (other : is_link_name name ≡ false) where
  nowhere : (x : Value) → is_reference x ≡ false → link_of name x ≡ None
  nowhere x plain = ap {B = Option Value} (λ b. if b || is_reference x then Some x else None) other ∙ ap {B = Option Value} (λ b. if b then Some x else None) plain

  -- a value of some bytes is passed over by them
  bytes-passed : (view : List ℕ → Value) → ((bytes : List ℕ) → is_reference (view bytes) ≡ false) → (r : Read (List ℕ)) → seen_as (link_of name) (seen_as view r) ≡ seen_as (λ bytes. None) r
  bytes-passed view plain (Ok x) = ap (λ o. Ok (o, x.1)) (nowhere (view x.0) (plain x.0))
  bytes-passed view plain (Err flaw) = refl

  number-passed : (view : ℕ → Value) → ((n : ℕ) → is_reference (view n) ≡ false) → (size : ℕ) (u : Unread) → seen_as (link_of name) (seen_as view (number_at size u)) ≡ seen_as (λ bytes. None) (bytes_at size u)
  unfolding number_at
  number-passed view plain size u = go (bytes_at size u)
    where
      go : (r : Read (List ℕ)) → seen_as (link_of name) (seen_as view (seen_as (number u.order) r)) ≡ seen_as (λ bytes. None) r
      go (Ok x) = ap (λ o. Ok (o, x.1)) (nowhere (view (number u.order x.0)) (plain (number u.order x.0)))
      go (Err flaw) = refl

  none-passed : (x : Value) → is_reference x ≡ false → (u : Unread) → ◌≡◌ {A = Read (Option Value)} (Ok (link_of name x, u)) (seen_as (λ bytes. None) (bytes_at 0 u))
  none-passed x plain u =
      let here : u.place + 0 ≡ u.place = omega arith in
      ap {B = Read (Option Value)} (λ o. Ok (o, u)) (nowhere x plain)
      ∙ ap {B = Read (Option Value)} (λ place. Ok (None, record { order = u.order; place = place; left = u.left })) (sym here)
      ∙ ap (seen_as {A = List ℕ} {B = Option Value} (λ bytes. None)) (sym (bytes_at-whole 0 u (omega arith)))

  -- a value whose form tells so many bytes
  abbrev IsPassedBy : ℕ → Unread → Read Value → Type 0
  IsPassedBy n u r = seen_as (link_of name) r ≡ seen_as (λ bytes. None) (bytes_at n u)

  by-size : (size n : ℕ) (u : Unread) (r : Read Value) → ◌≡◌ {A = Option ℕ} (Some size) (Some n) → IsPassedBy size u r → IsPassedBy n u r
  by-size size n u r same passed = let e : size ≡ n = cc in subst (λ k. IsPassedBy k u r) e passed

  formed-passed : (relocations : List Relocation) (e : Encoding) (spec : table.AttributeSpec) (code : ℕ) (form : Form) (n : ℕ) (u : Unread) → passed_form form ≡ Some n → IsPassedBy n u (formed_value_at relocations e spec code form u)
  unfolding formed_value_at sized_number_at
  formed-passed relocations e spec code addr n u h = absurd (cc)
  formed-passed relocations e spec code (indexed_addr (fixed size)) n u h = by-size size n u _ h (number-passed address_index (λ k. refl) size u)
  formed-passed relocations e spec code (indexed_addr variable) n u h = absurd (cc)
  formed-passed relocations e spec code (blocks size) n u h = absurd (cc)
  formed-passed relocations e spec code exprloc n u h = absurd (cc)
  formed-passed relocations e spec code (data_of (fixed size)) n u h = by-size size n u _ h (number-passed (constant_value e.version spec.name code) (constant_value-plain e.version spec.name code) size u)
  formed-passed relocations e spec code (data_of variable) n u h = absurd (cc)
  formed-passed relocations e spec code sdata n u h = absurd (cc)
  formed-passed relocations e spec code implicit n u h = by-size 0 n u (Ok (constant code (cast_unsigned w64 spec.implicit), u)) h (none-passed (constant code (cast_unsigned w64 spec.implicit)) refl u)
  formed-passed relocations e spec code flag_byte n u h = by-size 1 n u _ h (number-passed (λ k. flag (not (k == 0))) (λ k. refl) 1 u)
  formed-passed relocations e spec code flag_present n u h = by-size 0 n u (Ok (flag true, u)) h (none-passed (flag true) refl u)
  formed-passed relocations e spec code string n u h = absurd (cc)
  formed-passed relocations e spec code (string_elsewhere (fixed size)) n u h = by-size size n u _ h (number-passed (text_reference code) (λ k. refl) size u)
  formed-passed relocations e spec code (string_elsewhere variable) n u h = absurd (cc)
  formed-passed relocations e spec code (reference size) n u h = absurd (cc)
  formed-passed relocations e spec code ref_addr n u h = absurd (cc)
  formed-passed relocations e spec code sec_offset n u h = by-size 4 n u _ h (number-passed (section_offset spec.name) (section_offset-plain spec.name) 4 u)
  formed-passed relocations e spec code indexed_location n u h = absurd (cc)
  formed-passed relocations e spec code indexed_range n u h = absurd (cc)
  formed-passed relocations e spec code (passed_over size) n u h = by-size size n u _ h (bytes-passed (λ bytes. dropped) (λ bytes. refl) (bytes_at size u))
  formed-passed relocations e spec code supplementary n u h = absurd (cc)

-- `indirect` is the code of no form
direct : (code : ℕ) (form : Form) → form_of code ≡ Some form → (code == DW_FORM_indirect) ≡ false
direct code form is = go (code == DW_FORM_indirect) refl
  where
    go : (b : Bool) → (code == DW_FORM_indirect) ≡ b → b ≡ false
    go false same = refl
    go true same = absurd (let none : ◌≡◌ {A = Option Form} None (Some form) = ap form_of (sym (eqb-true code DW_FORM_indirect same)) ∙ is in cc)

module _ (s : Sections) (h : UnitHeader) (spec : table.AttributeSpec) (u : Unread) where
  -- a value whose form's code stands in its declaration
  value_at-formed : (form : Form) → form_of spec.form ≡ Some form → value_at s h spec u ≡ formed_value_at (s.relocations Info) (encoding_of h) spec spec.form form u
  unfolding value_at encoded_value_at form_code_at
  value_at-formed form is = ap coded_as (direct spec.form form is) ∙ ap formed_as is
    where
      formed_as : Option Form → Read Value
      formed_as o = elim o [ None ↦ Err Malformed | Some form ↦ formed_value_at (s.relocations Info) (encoding_of h) spec spec.form form u ]

      coded_as : Bool → Read Value
      coded_as b = ◌>>=◌ {A = ℕ × Unread} {B = Value × Unread} (elim b [ true ↦ form_behind (length u.left) u | false ↦ Ok (spec.form, u) ]) (λ code. elim (form_of code.0) [ None ↦ Err Malformed | Some form ↦ formed_value_at (s.relocations Info) (encoding_of h) spec code.0 form code.1 ])

  -- what leads nowhere is passed over by its bytes
  pub link_at-passed : (n : ℕ) → passed_size spec.name spec.form ≡ Some n → link_at s h spec u ≡ seen_as (λ bytes. None) (bytes_at n u)
  unfolding link_at
  link_at-passed n size = named (is_link_name spec.name) refl size
    where
      formed : (o : Option Form) → form_of spec.form ≡ o → is_link_name spec.name ≡ false → option_and_then passed_form o ≡ Some n → link_at s h spec u ≡ seen_as (λ bytes. None) (bytes_at n u)
      formed None is other size = absurd (cc)
      formed (Some form) is other size = ap (seen_as (link_of spec.name)) (value_at-formed form is) ∙ formed-passed spec.name other (s.relocations Info) (encoding_of h) spec spec.form form n u size

      named : (b : Bool) → is_link_name spec.name ≡ b → (if b then None else option_and_then passed_form (form_of spec.form)) ≡ Some n → link_at s h spec u ≡ seen_as (λ bytes. None) (bytes_at n u)
      named true is size = absurd (cc)
      named false other size = formed (form_of spec.form) refl other size

-- ---- the links among the values of a declaration's attributes, one by one

-- a value under a name
abbrev pub under : ℕ → Value → ℕ × Value
under name x = (name, x)

filtered : (name : ℕ) (x : Value) (r : Read (List (ℕ × Value))) → seen_as (filter is_link) (seen_as (λ ys. (name, x) ∷ ys) r) ≡ seen_as (λ ys. cons_option (option_map (under name) (link_of name x)) ys) (seen_as (filter is_link) r)
filtered name x (Err flaw) = refl
filtered name x (Ok a) = go (is_link (name, x))
  where
    go : (b : Bool) → ◌≡◌ {A = Read (List (ℕ × Value))} (Ok (cond b ((name, x) ∷ filter is_link a.0) (filter is_link a.0), a.1)) (Ok (cons_option (option_map (under name) (if b then Some x else None)) (filter is_link a.0), a.1))
    go true = refl
    go false = refl

module _ (s : Sections) (h : UnitHeader) (specs : List AttributeSpec) (i : ℕ) (d : AttributeSpec) (u v : Unread) where
  pub links_at-more : (o : Option Value) → i < length specs → link_at s h (spec_view (get_or specs i d)) u ≡ Ok (o, v)
      → links_at s h (specs_from i specs) u ≡ seen_as (λ ys. cons_option (option_map (under (get_or specs i d).name) o) ys) (links_at s h (specs_from (i + 1) specs) v)
  unfolding link_at links_at
  links_at-more o inside read = go (value_at s h (spec_view (get_or specs i d)) u) refl read
    where
      go : (r : Read Value) → value_at s h (spec_view (get_or specs i d)) u ≡ r → seen_as (link_of (get_or specs i d).name) r ≡ Ok (o, v)
          → links_at s h (specs_from i specs) u ≡ seen_as (λ ys. cons_option (option_map (under (get_or specs i d).name) o) ys) (links_at s h (specs_from (i + 1) specs) v)
      go (Err flaw) is e = absurd (cc)
      go (Ok x) is e =
          let name = (get_or specs i d).name in
          let seen : ◌≡◌ {A = Read (Option Value)} (Ok (link_of name x.0, x.1)) (Ok (o, v)) = e in
          let p : ◌≡◌ {A = Option Value × Unread} (link_of name x.0, x.1) (o, v) = cc in
          ap (seen_as (filter is_link)) (attributes_at-more s h specs i d u x.1 x.0 inside is)
          ∙ filtered name x.0 (attributes_at s h (specs_from (i + 1) specs) x.1)
          ∙ ap (λ (q : Option Value × Unread). seen_as (λ ys. cons_option (option_map (under name) q.0) ys) (seen_as (filter is_link) (attributes_at s h (specs_from (i + 1) specs) q.1))) p

  pub links_at-flaw : (flaw : Flaw) → i < length specs → link_at s h (spec_view (get_or specs i d)) u ≡ Err flaw → links_at s h (specs_from i specs) u ≡ Err flaw
  unfolding link_at links_at
  links_at-flaw flaw inside read = go (value_at s h (spec_view (get_or specs i d)) u) refl read
    where
      go : (r : Read Value) → value_at s h (spec_view (get_or specs i d)) u ≡ r → seen_as (link_of (get_or specs i d).name) r ≡ Err flaw → links_at s h (specs_from i specs) u ≡ Err flaw
      go (Ok x) is e = absurd (cc)
      go (Err other) is e = let same : other ≡ flaw = cc in ap (seen_as (filter is_link)) (attributes_at-flaw s h specs i d u v other inside is) ∙ ap Err same

-- and behind the last
pub links_at-end : (s : Sections) (h : UnitHeader) (specs : List AttributeSpec) (i : ℕ) (u : Unread) → length specs ≤ i → links_at s h (specs_from i specs) u ≡ Ok ([], u)
unfolding links_at
links_at-end s h specs i u past = ap (seen_as (filter is_link)) (attributes_at-end s h specs i u past)

-- one more, if there is one, behind what was found and in front of the rest
pub seen-with : {A : Type 0} (xs : List A) (o : Option A) (r : Read (List A)) → seen_as (λ ys. (xs ++ option_to_list o) ++ ys) r ≡ seen_as (λ ys. xs ++ ys) (seen_as (λ ys. cons_option o ys) r)
seen-with xs o (Err flaw) = refl
seen-with xs None (Ok a) = ap (λ zs. Ok (zs ++ a.0, a.1)) (append-nil xs)
seen-with xs (Some x) (Ok a) = ap (λ zs. Ok (zs, a.1)) (append_assoc xs (x ∷ []) a.0)

-- a value's view under a name
pub named-view : (name : ℕ) (o : Option AttributeValue) (r : Read (List (ℕ × Value))) → seen_as (λ ys. cons_option (option_map (λ x. attribute_view (name, x)) o) ys) r ≡ seen_as (λ ys. cons_option (option_map (under name) (option_map value_view o)) ys) r
named-view name None r = refl
named-view name (Some x) r = refl
