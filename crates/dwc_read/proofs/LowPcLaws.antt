-- The address that an entry says as its low_pc, whatever its attributes are read as.
use Rattle.std.proofs.Common.{◌≡◌, ℕ, refl, ap, sym, ◌∙◌, List, length, [], ◌∷◌, Option, Some, None, Result, Ok, Err, Bool, true, false, cond, eqb}
use Rattle.std.specs.Prelude.{option_map, option_and_then, ◌==◌, if◌then◌else◌}
use Rattle.std.specs.List.{find}
use Rattle.dwc_base.specs.declared.records.Address.{Address}
use Rattle.dwc_base.specs.declared.records.Encoding.{Encoding}
use Rattle.dwc_base.specs.declared.faults.Flaw.{Flaw}
use Rattle.dwc_base.specs.declared.faults.Flaw.TheVariants.{Malformed}
use Rattle.dwc_base.specs.declared.section_name.SectionName.TheVariants.{Info}
use Rattle.dwc_base.specs.declared.constants.TheConstants.{DW_AT_stmt_list, DW_FORM_indirect}
use Rattle.dwc_base.specs.Reading.{Unread, Read, ◌>>=◌, seen_as}
use Rattle.dwc_base.specs.Abbreviations.{AttributeSpec}
use Rattle.dwc_base.specs.Sections.{Sections, Relocation}
use Rattle.dwc_base.specs.Units.{UnitHeader}
use Rattle.dwc_dwarf.specs.Values as value
use Rattle.dwc_dwarf.specs.Values.{Value, Form, encoding_of, form_behind, is_location_name, is_range_name, is_expression_name, section_offset, block_value, constant_value, formed_value_at, form_code_at, form_of, encoded_value_at, value_at}
use Rattle.dwc_dwarf.specs.Entries.{attributes_at}
use Rattle.dwc_dwarf.specs.Indexed.{as_section_offset}
use Rattle.dwc_read.specs.ValuesSeen.{first_value}
use Rattle.dwc_dwarf.specs.Lists.{address_among}
use Rattle.dwc_read.specs.RootValues.{said, said_address, named_offsets}
use Rattle.dwc_read.proofs.RootLaws.{named_offsets-first, named_offsets-flaw}

module _ (indexed : ℕ → Result Address Flaw) where
  -- the address that a value says
  abbrev pub address_said : Value → Option Address
  address_said v = said_address indexed (said v)

  pub address_among-said : (o : Option Value) → address_among indexed o ≡ option_and_then address_said o
  address_among-said None = refl
  address_among-said (Some (value.address a)) = refl
  address_among-said (Some (value.address_index n)) = refl
  address_among-said (Some (value.constant form n)) = refl
  address_among-said (Some (value.flag b)) = refl
  address_among-said (Some (value.block bytes)) = refl
  address_among-said (Some (value.expression bytes)) = refl
  address_among-said (Some (value.text bytes)) = refl
  address_among-said (Some (value.text_reference form n)) = refl
  address_among-said (Some (value.line_reference n)) = refl
  address_among-said (Some (value.range_reference n)) = refl
  address_among-said (Some (value.range_index n)) = refl
  address_among-said (Some (value.location_reference n)) = refl
  address_among-said (Some (value.location_index n)) = refl
  address_among-said (Some (value.unit_reference n)) = refl
  address_among-said (Some (value.info_reference n)) = refl
  address_among-said (Some value.dropped) = refl

  -- ---- what a name decides is no address

  either-none : (b : Bool) (v w : Value) → address_said v ≡ None → address_said w ≡ None → address_said (if b then v else w) ≡ None
  either-none true v w hv hw = hv
  either-none false v w hv hw = hw

  section_offset-none : (name n : ℕ) → address_said (section_offset name n) ≡ None
  section_offset-none name n =
      either-none (is_location_name name) (value.location_reference n) (if name == DW_AT_stmt_list then value.line_reference n else (if is_range_name name then value.range_reference n else value.dropped)) refl
      (either-none (name == DW_AT_stmt_list) (value.line_reference n) (if is_range_name name then value.range_reference n else value.dropped) refl (either-none (is_range_name name) (value.range_reference n) value.dropped refl refl))

  block_value-none : (name : ℕ) (bytes : List ℕ) → address_said (block_value name bytes) ≡ None
  block_value-none name bytes = either-none (is_expression_name name) (value.expression bytes) (value.block bytes) refl refl

  constant_value-none : (version name code n : ℕ) → address_said (constant_value version name code n) ≡ None
  constant_value-none version name code n = either-none _ (section_offset name n) (value.constant code n) (section_offset-none name n) refl

  -- ---- so a value says the same address under each name

  seen-alike : {A : Type 0} (f g : A → Value) (r : Read A) → ((x : A) → address_said (f x) ≡ None) → ((x : A) → address_said (g x) ≡ None) → seen_as address_said (seen_as f r) ≡ seen_as address_said (seen_as g r)
  seen-alike f g (Ok x) hf hg = ap (λ o. Ok (o, x.1)) (hf x.0 ∙ sym (hg x.0))
  seen-alike f g (Err flaw) hf hg = refl

  formed-alike : (relocations : List Relocation) (e : Encoding) (spec : AttributeSpec) (code : ℕ) (form : Form) (u : Unread)
      → seen_as address_said (formed_value_at relocations e spec code form u) ≡ seen_as address_said (formed_value_at relocations e (as_section_offset spec) code form u)
  unfolding formed_value_at
  formed-alike relocations e spec code value.addr u = refl
  formed-alike relocations e spec code (value.indexed_addr size) u = refl
  formed-alike relocations e spec code (value.blocks size) u = seen-alike _ _ _ (block_value-none spec.name) (block_value-none DW_AT_stmt_list)
  formed-alike relocations e spec code value.exprloc u = refl
  formed-alike relocations e spec code (value.data_of size) u = seen-alike _ _ _ (constant_value-none e.version spec.name code) (constant_value-none e.version DW_AT_stmt_list code)
  formed-alike relocations e spec code value.sdata u = refl
  formed-alike relocations e spec code value.implicit u = refl
  formed-alike relocations e spec code value.flag_byte u = refl
  formed-alike relocations e spec code value.flag_present u = refl
  formed-alike relocations e spec code value.string u = refl
  formed-alike relocations e spec code (value.string_elsewhere size) u = refl
  formed-alike relocations e spec code (value.reference size) u = refl
  formed-alike relocations e spec code value.ref_addr u = refl
  formed-alike relocations e spec code value.sec_offset u = seen-alike _ _ _ (section_offset-none spec.name) (section_offset-none DW_AT_stmt_list)
  formed-alike relocations e spec code value.indexed_location u = seen-alike _ _ _ (λ n. either-none (is_location_name spec.name) (value.location_index n) value.dropped refl refl) (λ n. either-none (is_location_name DW_AT_stmt_list) (value.location_index n) value.dropped refl refl)
  formed-alike relocations e spec code value.indexed_range u = seen-alike _ _ _ (λ n. either-none (is_range_name spec.name) (value.range_index n) value.dropped refl refl) (λ n. either-none (is_range_name DW_AT_stmt_list) (value.range_index n) value.dropped refl refl)
  formed-alike relocations e spec code (value.passed_over size) u = refl
  formed-alike relocations e spec code value.supplementary u = refl

  value_at-alike : (s : Sections) (h : UnitHeader) (spec : AttributeSpec) (u : Unread) → seen_as address_said (value_at s h spec u) ≡ seen_as address_said (value_at s h (as_section_offset spec) u)
  unfolding value_at encoded_value_at form_code_at
  value_at-alike s h spec u = go (elim (spec.form == DW_FORM_indirect) [ true ↦ form_behind (length u.left) u | false ↦ Ok (spec.form, u) ])
    where
      formed : (code : ℕ) (v : Unread) (o : Option Form)
          → seen_as address_said (elim o [ None ↦ Err Malformed | Some form ↦ formed_value_at (s.relocations Info) (encoding_of h) spec code form v ])
          ≡ seen_as address_said (elim o [ None ↦ Err Malformed | Some form ↦ formed_value_at (s.relocations Info) (encoding_of h) (as_section_offset spec) code form v ])
      formed code v None = refl
      formed code v (Some form) = formed-alike (s.relocations Info) (encoding_of h) spec code form v

      go : (r : Read ℕ)
          → seen_as address_said (r >>= λ code. elim (form_of code.0) [ None ↦ Err Malformed | Some form ↦ formed_value_at (s.relocations Info) (encoding_of h) spec code.0 form code.1 ])
          ≡ seen_as address_said (r >>= λ code. elim (form_of code.0) [ None ↦ Err Malformed | Some form ↦ formed_value_at (s.relocations Info) (encoding_of h) (as_section_offset spec) code.0 form code.1 ])
      go (Ok code) = formed code.0 code.1 (form_of code.0)
      go (Err flaw) = refl

  -- ---- and so do the attributes of an entry

  -- the address that the first value of a name says, where all attributes are read
  abbrev pub address_first : ℕ → Result (List (ℕ × Value)) Flaw → Option (Option Address)
  address_first name (Ok attributes) = Some (option_and_then address_said (first_value name attributes))
  address_first name (Err flaw) = None

  address_first-more : (wanted name : ℕ) (v : Value) (r : Result (List (ℕ × Value)) Flaw)
      → address_first wanted (r >>= λ others. Ok ((name, v) ∷ others)) ≡ option_map (λ rest. if name == wanted then address_said v else rest) (address_first wanted r)
  address_first-more wanted name v (Err flaw) = refl
  address_first-more wanted name v (Ok others) = go (eqb name wanted)
    where
      go : (b : Bool) → ◌≡◌ {A = Option (Option Address)} (Some (option_and_then address_said (option_map (λ a. a.1) (cond b (Some (name, v)) (find (λ a. a.0 == wanted) others)))))
          (Some (cond b (address_said v) (option_and_then address_said (first_value wanted others))))
      go true = refl
      go false = refl

  -- the attributes with their own names, without what is unread behind them
  abbrev pub named_values : Sections → UnitHeader → List AttributeSpec → Unread → Result (List (ℕ × Value)) Flaw
  named_values s h specs u = attributes_at s h specs u >>= λ values. Ok values.0

  named_values-first : (s : Sections) (h : UnitHeader) (spec : AttributeSpec) (others : List AttributeSpec) (u v : Unread) (x : Value) → value_at s h spec u ≡ Ok (x, v)
      → named_values s h (spec ∷ others) u ≡ (named_values s h others v >>= λ values. Ok ((spec.name, x) ∷ values))
  unfolding attributes_at
  named_values-first s h spec others u v x read = rw (read, attributes_at) (go (attributes_at s h others v))
    where
      go : (r : Read (List (ℕ × Value)))
          → (◌>>=◌ {A = List (ℕ × Value) × Unread} {B = List (ℕ × Value)} (◌>>=◌ {A = List (ℕ × Value) × Unread} {B = List (ℕ × Value) × Unread} r (λ values. Ok ((spec.name, x) ∷ values.0, values.1))) (λ values. Ok values.0))
          ≡ (◌>>=◌ {A = List (ℕ × Value)} {B = List (ℕ × Value)} (◌>>=◌ {A = List (ℕ × Value) × Unread} {B = List (ℕ × Value)} r (λ values. Ok values.0)) (λ values. Ok ((spec.name, x) ∷ values)))
      go (Ok values) = refl
      go (Err flaw) = refl

  named_values-flaw : (s : Sections) (h : UnitHeader) (spec : AttributeSpec) (others : List AttributeSpec) (u : Unread) (flaw : Flaw) → value_at s h spec u ≡ Err flaw → named_values s h (spec ∷ others) u ≡ Err flaw
  unfolding attributes_at
  named_values-flaw s h spec others u flaw read = rw (read, attributes_at) refl

  attributes-none : (s : Sections) (h : UnitHeader) (wanted : ℕ) (u : Unread) → address_first wanted (named_values s h [] u) ≡ address_first wanted (named_offsets s h [] u)
  unfolding attributes_at
  attributes-none s h wanted u = refl

  pub attributes-alike : (s : Sections) (h : UnitHeader) (wanted : ℕ) (specs : List AttributeSpec) (u : Unread) → address_first wanted (named_values s h specs u) ≡ address_first wanted (named_offsets s h specs u)
  attributes-alike s h wanted [] u = attributes-none s h wanted u
  attributes-alike s h wanted (spec ∷ specs) u = go (value_at s h spec u) (value_at s h (as_section_offset spec) u) refl refl (value_at-alike s h spec u) (λ v. attributes-alike s h wanted specs v)
    where
      go : (r q : Read Value) → value_at s h spec u ≡ r → value_at s h (as_section_offset spec) u ≡ q → seen_as address_said r ≡ seen_as address_said q
          → ((v : Unread) → address_first wanted (named_values s h specs v) ≡ address_first wanted (named_offsets s h specs v))
          → address_first wanted (named_values s h (spec ∷ specs) u) ≡ address_first wanted (named_offsets s h (spec ∷ specs) u)
      go (Err flaw) (Err other) hr hq same others = ap (address_first wanted) (named_values-flaw s h spec specs u flaw hr) ∙ sym (ap (address_first wanted) (named_offsets-flaw s h spec specs u other hq))
      go (Ok x) (Err other) hr hq same others = absurd (cc)
      go (Err flaw) (Ok y) hr hq same others = absurd (cc)
      go (Ok x) (Ok y) hr hq same others =
          let pair : ◌≡◌ {A = Option Address × Unread} (address_said x.0, x.1) (address_said y.0, y.1) = cc in
          let alike : address_said x.0 ≡ address_said y.0 = ap (λ p. p.0) pair in
          let behind : x.1 ≡ y.1 = ap (λ p. p.1) pair in
          let rest = others x.1 in
          ap (address_first wanted) (named_values-first s h spec specs u x.1 x.0 hr)
          ∙ address_first-more wanted spec.name x.0 (named_values s h specs x.1)
          ∙ ap (option_map (λ rest. if spec.name == wanted then address_said x.0 else rest)) rest
          ∙ ap (λ a. option_map (λ rest. if spec.name == wanted then a else rest) (address_first wanted (named_offsets s h specs x.1))) alike
          ∙ ap (λ v. option_map (λ rest. if spec.name == wanted then address_said y.0 else rest) (address_first wanted (named_offsets s h specs v))) behind
          ∙ sym (address_first-more wanted spec.name y.0 (named_offsets s h specs y.1))
          ∙ sym (ap (address_first wanted) (named_offsets-first s h spec specs u y.1 y.0 hq))
