-- The instructions by their opcodes.
use Rattle.std.proofs.Common.{◌≡◌, ℕ, suc, ◌-◌, ◌<◌, ◌≤◌, refl, ap, ◌∙◌, arith, List, ◌∷◌, None, Ok, Err, Bool, true, false, eqb}
use Rattle.std.proofs.lemmas.Bool.{lt-ltb, le-ltb, le-leb, lt-leb, ne_eqb, eq-eqb}
use Rattle.std.specs.Prelude.{nat_le, slice_index, ◌&&◌, nat_lt, true, false}
use Rattle.dwc_base.specs.declared.faults.Flaw.{Flaw}
use Rattle.dwc_base.specs.Reading.{Unread, Read, ◌>>=◌, coded, number_at, uleb_at, text_at, seen_as, counted_at}
use Rattle.dwc_base.specs.Sections.{Relocation, address_at}
use Rattle.dwc_dwarf.specs.LineHeaders.{LineHeader, standard_opcodes, passed_operands_at, special, set_address, define_file, unknown, file_behind, extended_at, extended_instruction_at, instruction_at}
use Rattle.dwc_tabs.specs.Instructions.{standard_at}

-- a choice by a test that holds
chosen-true : {A : Type 0} (test : Bool) (x y : A) → test ≡ true → (elim test [ true ↦ x | false ↦ y ]) ≡ x
chosen-true true x y h = refl
chosen-true false x y h = absurd (cc)

-- and by one that fails
chosen-false : {A : Type 0} (test : Bool) (x y : A) → test ≡ false → (elim test [ true ↦ x | false ↦ y ]) ≡ y
chosen-false true x y h = absurd (cc)
chosen-false false x y h = refl

module _ (relocations : List Relocation) (h : LineHeader) (u v : Unread) (opcode : ℕ) (read : number_at 1 u ≡ Ok (opcode, v)) where
  -- an opcode from `opcode_base` on
  pub instruction-special : h.opcode_base ≤ opcode → instruction_at relocations h u ≡ Ok (special opcode, v)
  unfolding instruction_at
  instruction-special above = rw read (chosen-true (nat_le h.opcode_base opcode) _ _ (le-leb _ _ above))

  -- 0, below `opcode_base`
  pub instruction-extended : opcode < h.opcode_base → opcode ≡ 0 → instruction_at relocations h u ≡ extended_instruction_at relocations h v
  unfolding instruction_at
  instruction-extended below none = rw read (chosen-false (nat_le h.opcode_base opcode) _ _ (lt-leb _ _ below) ∙ chosen-true (eqb opcode 0) _ _ (eq-eqb _ _ none))

  -- another one below `opcode_base`
  pub instruction-standard : opcode < h.opcode_base → 0 < opcode → instruction_at relocations h u ≡ standard_at h opcode v
  unfolding instruction_at standard_at
  instruction-standard below some =
      rw read (chosen-false (nat_le h.opcode_base opcode) _ _ (lt-leb _ _ below) ∙ chosen-false (eqb opcode 0) _ _ (ne_eqb _ _ (omega arith)))

module _ (h : LineHeader) (opcode : ℕ) (u : Unread) where
  -- a standard opcode without a meaning
  pub standard-unknown : coded standard_opcodes opcode ≡ None → standard_at h opcode u ≡ passed_operands_at (slice_index h.standard_opcode_lengths (opcode - 1)) u
  unfolding standard_at
  standard-unknown e = rw (e, standard_at) refl

module _ (relocations : List Relocation) (h : LineHeader) (u : Unread) where
  -- an address
  pub extended-address : extended_at relocations h 2 u ≡ seen_as set_address (address_at relocations h.address_size u)
  unfolding extended_at
  extended-address = refl

  -- a file, to version 4
  pub extended-file : h.version < 5 → extended_at relocations h 3 u ≡ (text_at u >>= λ name. seen_as define_file (file_behind name.0 name.1))
  unfolding extended_at
  extended-file old = let test : nat_lt h.version 5 ≡ true = lt-ltb _ _ old in rw (test, extended_at) refl

  -- and none from version 5 on
  pub extended-late_file : 5 ≤ h.version → extended_at relocations h 3 u ≡ Ok (unknown, u)
  unfolding extended_at
  extended-late_file late = let test : nat_lt h.version 5 ≡ false = le-ltb _ _ late in rw (test, extended_at) refl

-- the other extended opcodes
pub extended-unknown : (relocations : List Relocation) (h : LineHeader) (opcode : ℕ) (u : Unread) → ¬ (opcode ≡ 1) → ¬ (opcode ≡ 2) → ¬ (opcode ≡ 3) → ¬ (opcode ≡ 4) → extended_at relocations h opcode u ≡ Ok (unknown, u)
unfolding extended_at
extended-unknown relocations h opcode u one two three four =
    chosen-false (eqb opcode 1) _ _ (ne_eqb _ _ one) ∙ chosen-false (eqb opcode 2) _ _ (ne_eqb _ _ two)
    ∙ chosen-false (eqb opcode 3 && nat_lt h.version 5) _ _ (ap (λ b. b && nat_lt h.version 5) (ne_eqb _ _ three)) ∙ chosen-false (eqb opcode 4) _ _ (ne_eqb _ _ four)

-- a standard opcode without a meaning
pub coded-none : (opcode : ℕ) → 12 < opcode → coded standard_opcodes opcode ≡ None
coded-none opcode high =
    let e1 : eqb 1 opcode ≡ false = ne_eqb _ _ (omega arith) in
    let e2 : eqb 2 opcode ≡ false = ne_eqb _ _ (omega arith) in
    let e3 : eqb 3 opcode ≡ false = ne_eqb _ _ (omega arith) in
    let e4 : eqb 4 opcode ≡ false = ne_eqb _ _ (omega arith) in
    let e5 : eqb 5 opcode ≡ false = ne_eqb _ _ (omega arith) in
    let e6 : eqb 6 opcode ≡ false = ne_eqb _ _ (omega arith) in
    let e7 : eqb 7 opcode ≡ false = ne_eqb _ _ (omega arith) in
    let e8 : eqb 8 opcode ≡ false = ne_eqb _ _ (omega arith) in
    let e9 : eqb 9 opcode ≡ false = ne_eqb _ _ (omega arith) in
    let e10 : eqb 10 opcode ≡ false = ne_eqb _ _ (omega arith) in
    let e11 : eqb 11 opcode ≡ false = ne_eqb _ _ (omega arith) in
    let e12 : eqb 12 opcode ≡ false = ne_eqb _ _ (omega arith) in
    rw (e1, e2, e3, e4, e5, e6, e7, e8, e9, e10, e11, e12) refl

-- no number is passed
pub passed-none : (u : Unread) → passed_operands_at 0 u ≡ Ok (unknown, u)
unfolding passed_operands_at counted_at
passed-none u = refl

-- the first number is passed
pub passed-more : (count : ℕ) (u v : Unread) (n : ℕ) → uleb_at u ≡ Ok (n, v) → passed_operands_at (suc count) u ≡ passed_operands_at count v
unfolding passed_operands_at counted_at
passed-more count u v n h = rw h (go (counted_at count uleb_at v))
  where
    go : (r : Read (List ℕ)) → seen_as {A = List ℕ} (λ ns. unknown) (r >>= λ others. Ok (n ∷ others.0, others.1)) ≡ seen_as (λ ns. unknown) r
    go (Ok others) = refl
    go (Err flaw) = refl

-- a number that cannot be passed
pub passed-flaw : (count : ℕ) (u : Unread) (flaw : Flaw) → uleb_at u ≡ Err flaw → passed_operands_at (suc count) u ≡ Err flaw
unfolding passed_operands_at counted_at
passed-flaw count u flaw h = rw h refl
