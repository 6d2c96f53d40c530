-- The first base of the lists of a unit, by what its root says.
use Rattle.std.proofs.Common.{◌≡◌, ℕ, zero, suc, refl, ap, sym, ◌∙◌, arith, List, [], ◌∷◌, length, Option, Some, None, Result, Ok, Err, Bool, true, false, eqb}
use Rattle.std.specs.Prelude.{nat_lt, option_map, option_and_then, ◌==◌}
use Rattle.std.specs.Option.{option_or, unwrap_or}
use Rattle.std.proofs.lemmas.Bool.{eqb-true}
use Rattle.dwc_base.specs.declared.records.Address.{Address}
use Rattle.dwc_base.specs.declared.records.Address.TheVariants.{Constant}
use Rattle.dwc_base.specs.declared.faults.Flaw.{Flaw}
use Rattle.dwc_base.specs.declared.faults.Flaw.TheVariants.{Malformed}
use Rattle.dwc_base.specs.declared.faults.What.TheVariants.{Abbreviation}
use Rattle.dwc_base.specs.declared.section_name.SectionName.TheVariants.{Abbrev}
use Rattle.dwc_base.specs.declared.constants.TheConstants.{DW_AT_low_pc}
use Rattle.dwc_base.specs.Reading.{Unread, Read, ◌>>=◌, forbid, number_at, uleb_at, items_at, items_up_to}
use Rattle.dwc_base.specs.Sections.{Sections, Fault, section_from, reported}
use Rattle.dwc_base.specs.Abbreviations.{Declaration, declaration_of, attribute_spec_at, declaration_behind, declaration_at, abbreviation_table}
use Rattle.dwc_base.specs.Units.{UnitHeader}
use Rattle.dwc_dwarf.specs.Values.{Value}
use Rattle.dwc_dwarf.specs.Entries.{Entry, Found, entry_at, declared_entry_at, attributes_at, entries, entries_from, root_place, attribute}
use Rattle.dwc_base.specs.Listing.{first_of}
use Rattle.dwc_dwarf.specs.Indexed.{address_indexed, root_offsets}
use Rattle.dwc_dwarf.proofs.EntryWalk.{entries_from-none, entries_from-end, entries_from-fault, entries_from-siblings, entries_from-entry}
use Rattle.dwc_dwarf.specs.Lists.{first_base_of}
use Rattle.dwc_read.specs.ValuesSeen.{first_value}
use Rattle.dwc_read.specs.RootValues.{said, said_address, first_among, named_offsets, said_by_root}
use Rattle.dwc_read.proofs.EntriesLaws.{entries-table, entries-fault}
use Rattle.dwc_read.proofs.LoneLaws.{entry_at-empty}
use Rattle.dwc_read.proofs.LowPcLaws.{address_said, address_among-said, address_first, attributes-alike}

-- ---- no declaration has the code 0, which ends a table

-- what holds of what is read, where something is
abbrev OnRead : {A : Type 0} → (A → Type 0) → Result A Flaw → Type 0
OnRead P (Ok x) = P x
OnRead P (Err flaw) = Unit {0}

record Reads {A : Type 0} (P : A → Type 0) (r : Result A Flaw) : Type 0 where
  only : OnRead P r

-- a reading behind another
Reads-behind : {A B : Type 0} {P : B → Type 0} (r : Result A Flaw) (f : A → Result B Flaw) → ((x : A) → Reads P (f x)) → Reads P (r >>= f)
Reads-behind (Ok x) f h = h x
Reads-behind (Err flaw) f h = record { only = tt }

-- a declaration whose code is not 0; the end of a table is none
abbrev HasCode : Option Declaration × Unread → Type 0
HasCode (None, u) = Unit {0}
HasCode (Some d, u) = eqb d.code 0 ≡ false

declaration_behind-code : (code : ℕ) (u : Unread) → eqb code 0 ≡ false → Reads HasCode (declaration_behind code u)
unfolding declaration_behind
declaration_behind-code code u some =
    Reads-behind (uleb_at u) _ (λ tag.
    Reads-behind (forbid (nat_lt 65535 tag.0) Malformed) _ (λ small.
    Reads-behind (number_at 1 tag.1) _ (λ children.
    Reads-behind (forbid (nat_lt 1 children.0) Malformed) _ (λ flag.
    Reads-behind (items_at attribute_spec_at children.1) _ (λ attributes. record { only = some })))))

declaration_at-code : (u : Unread) → Reads HasCode (declaration_at u)
unfolding declaration_at
declaration_at-code u = Reads-behind (uleb_at u) _ (λ code. go code.0 code.1 (eqb code.0 0) refl)
  where
    go : (code : ℕ) (v : Unread) (b : Bool) → eqb code 0 ≡ b → Reads HasCode (elim b [ true ↦ Ok (None, v) | false ↦ declaration_behind code v ])
    go code v true is = record { only = tt }
    go code v false is = declaration_behind-code code v is

abbrev HasCodes : List Declaration × Unread → Type 0
HasCodes (table, u) = declaration_of 0 table ≡ None

items-codes : (most : ℕ) (u : Unread) → OnRead HasCodes (items_up_to most declaration_at u)
unfolding items_up_to
items-codes zero u = tt
items-codes (suc most) u = go (declaration_at u) (declaration_at-code u).only (λ v. items-codes most v)
  where
    others_of : (d : Declaration) → eqb d.code 0 ≡ false → (r : Read (List Declaration)) → OnRead HasCodes r → OnRead HasCodes (r >>= λ others. Ok (d ∷ others.0, others.1))
    others_of d some (Ok others) h = rw some h
    others_of d some (Err flaw) h = tt

    go : (r : Read (Option Declaration)) → OnRead HasCode r → ((v : Unread) → OnRead HasCodes (items_up_to most declaration_at v))
        → OnRead HasCodes (r >>= λ first. elim first.0 [ None ↦ Ok ([], first.1) | Some x ↦ (items_up_to most declaration_at first.1 >>= λ others. Ok (x ∷ others.0, others.1)) ])
    go (Err flaw) first others = tt
    go (Ok (None, v)) first others = refl
    go (Ok (Some d, v)) first others = others_of d first (items_up_to most declaration_at v) (others v)

abbreviation_table-codes : (s : Sections) (offset : ℕ) (table : List Declaration) → abbreviation_table s offset ≡ Ok table → declaration_of 0 table ≡ None
unfolding abbreviation_table items_at
abbreviation_table-codes s offset table read = go (items_at declaration_at (section_from s Abbrev offset)) (items-codes (suc (length (section_from s Abbrev offset).left)) (section_from s Abbrev offset)) read
  where
    go : (r : Read (List Declaration)) → OnRead HasCodes r → (reported Abbreviation Abbrev offset r >>= λ table. Ok table.0) ≡ Ok table → declaration_of 0 table ≡ None
    go (Ok x) h is =
        let same : x.0 ≡ table = cc in
        ap (declaration_of 0) (sym same) ∙ h
    go (Err flaw) h is = absurd (cc)

-- ---- the root

-- the entry that was found, where it was
abbrev entry_read : Read (Option Found) → Option Entry
entry_read (Ok (Some found, u)) = Some found.entry
entry_read (Ok (None, u)) = None
entry_read (Err flaw) = None

first_entry : (s : Sections) (h : UnitHeader) (table : List Declaration) → first_of (entries_from s h table (root_place h)).items ≡ entry_read (entry_at s h table 0 h.content)
first_entry s h table = go (length h.content.left) refl (entry_at s h table 0 h.content) refl
  where
    empty : (xs : List ℕ) → length xs ≡ 0 → xs ≡ []
    empty [] is = refl
    empty (x ∷ xs) is = absurd (omega arith)

    go : (n : ℕ) → length h.content.left ≡ n → (r : Read (Option Found)) → entry_at s h table 0 h.content ≡ r → first_of (entries_from s h table (root_place h)).items ≡ entry_read r
    go zero none r read = ap (λ l. first_of l.items) (entries_from-end s h table (record { depth = 0; unread = h.content }) none) ∙ ap entry_read (sym (entry_at-empty (record { sections = s; header = h }) table h.content (empty h.content.left none)) ∙ read)
    go (suc n) some (Err flaw) read = ap (λ l. first_of l.items) (entries_from-fault s h table (record { depth = 0; unread = h.content }) flaw (omega arith) read)
    go (suc n) some (Ok (None, v)) read = ap (λ l. first_of l.items) (entries_from-siblings s h table (record { depth = 0; unread = h.content }) v (omega arith) read ∙ entries_from-none s h table)
    go (suc n) some (Ok (Some found, v)) read = ap (λ l. first_of l.items) (entries_from-entry s h table (record { depth = 0; unread = h.content }) v found (omega arith) read)

module _ (s : Sections) (h : UnitHeader) where
  -- the address that the first value of a name says
  abbrev flat : Option (Option Address) → Option Address
  flat o = option_and_then (λ a. a) o

  entry-first : (offset tag : ℕ) (children : Bool) (r : Read (List (ℕ × Value)))
      → option_and_then (address_said (address_indexed s h)) (option_and_then (attribute DW_AT_low_pc) (entry_read (r >>= λ attributes. Ok (Some (record { entry = record { offset = offset; depth = 0; tag = tag; attributes = attributes.0 }; has_children = children }), attributes.1))))
      ≡ flat (address_first (address_indexed s h) DW_AT_low_pc (r >>= λ attributes. Ok attributes.0))
  entry-first offset tag children (Ok attributes) = refl
  entry-first offset tag children (Err flaw) = refl

  among-first : (r : Result (List (ℕ × Value)) Flaw) → flat (address_first (address_indexed s h) DW_AT_low_pc r) ≡ option_and_then (said_address (address_indexed s h)) (first_among DW_AT_low_pc None r)
  among-first (Err flaw) = refl
  among-first (Ok attributes) = go (first_value DW_AT_low_pc attributes)
    where
      go : (o : Option Value) → option_and_then (address_said (address_indexed s h)) o ≡ option_and_then (said_address (address_indexed s h)) (option_or None (option_map said o))
      go None = refl
      go (Some v) = refl

  -- both readings of the root give the address that it says
  root-alike : (table : List Declaration) → declaration_of 0 table ≡ None
      → option_and_then (address_said (address_indexed s h)) (option_and_then (attribute DW_AT_low_pc) (entry_read (entry_at s h table 0 h.content)))
      ≡ option_and_then (said_address (address_indexed s h)) (first_among DW_AT_low_pc None (root_offsets s h table))
  unfolding entry_at declared_entry_at root_offsets
  root-alike table none = go (uleb_at h.content)
    where
      declared : (code : ℕ) (v : Unread) (b : Bool) (o : Option Declaration) → eqb code 0 ≡ b → declaration_of code table ≡ o
          → option_and_then (address_said (address_indexed s h)) (option_and_then (attribute DW_AT_low_pc) (entry_read (elim b [ true ↦ Ok (None, v) | false ↦ elim o [ None ↦ Err Malformed | Some d ↦ declared_entry_at s h h.content.place 0 d v ] ])))
          ≡ option_and_then (said_address (address_indexed s h)) (first_among DW_AT_low_pc None (elim o [ None ↦ Err Malformed | Some d ↦ named_offsets s h d.attributes v ]))
      declared code v true None zero_code found = refl
      declared code v true (Some d) zero_code found =
          let zero_is : code ≡ 0 = eqb-true code 0 zero_code in
          let absent : ◌≡◌ {A = Option Declaration} None (Some d) = sym none ∙ ap (λ n. declaration_of n table) (sym zero_is) ∙ found in
          absurd (cc)
      declared code v false None zero_code found = refl
      declared code v false (Some d) zero_code found =
          entry-first h.content.place d.tag d.has_children (attributes_at s h d.attributes v)
          ∙ ap flat (attributes-alike (address_indexed s h) s h DW_AT_low_pc d.attributes v)
          ∙ among-first (named_offsets s h d.attributes v)

      go : (r : Read ℕ)
          → option_and_then (address_said (address_indexed s h)) (option_and_then (attribute DW_AT_low_pc) (entry_read (r >>= λ code. elim (code.0 == 0) [ true ↦ Ok (None, code.1) | false ↦ elim (declaration_of code.0 table) [ None ↦ Err Malformed | Some d ↦ declared_entry_at s h h.content.place 0 d code.1 ] ])))
          ≡ option_and_then (said_address (address_indexed s h)) (first_among DW_AT_low_pc None (r >>= λ code. elim (declaration_of code.0 table) [ None ↦ Err Malformed | Some d ↦ named_offsets s h d.attributes code.1 ]))
      go (Err flaw) = refl
      go (Ok code) = declared code.0 code.1 (eqb code.0 0) (declaration_of code.0 table) refl refl

  pub first_base-said : first_base_of s h ≡ unwrap_or (option_and_then (said_address (address_indexed s h)) (said_by_root s h DW_AT_low_pc)) (Constant 0)
  unfolding first_base_of said_by_root
  first_base-said = ap (λ o. unwrap_or o (Constant 0)) (address_among-said (address_indexed s h) (option_and_then (attribute DW_AT_low_pc) (first_of (entries s h).items)) ∙ go (abbreviation_table s h.abbreviations) refl)
    where
      go : (t : Result (List Declaration) Fault) → abbreviation_table s h.abbreviations ≡ t
          → option_and_then (address_said (address_indexed s h)) (option_and_then (attribute DW_AT_low_pc) (first_of (entries s h).items))
          ≡ option_and_then (said_address (address_indexed s h)) (elim t [ Err fault ↦ None | Ok table ↦ first_among DW_AT_low_pc None (root_offsets s h table) ])
      go (Err fault) read = ap (λ l. option_and_then (address_said (address_indexed s h)) (option_and_then (attribute DW_AT_low_pc) (first_of l.items))) (entries-fault s h fault read)
      go (Ok table) read =
          ap (λ l. option_and_then (address_said (address_indexed s h)) (option_and_then (attribute DW_AT_low_pc) (first_of l.items))) (entries-table s h table read)
          ∙ ap (λ e. option_and_then (address_said (address_indexed s h)) (option_and_then (attribute DW_AT_low_pc) e)) (first_entry s h table)
          ∙ root-alike table (abbreviation_table-codes s h.abbreviations table read)
