-- The names in a line table that was read hold no zero.
use Rattle.std.proofs.Common.{◌≡◌, ℕ, zero, suc, ◌<◌, refl, ap, sym, ◌∙◌, arith, List, [], ◌∷◌, length, Bool, true, false, Option, Some, None, Result, Ok, Err, All, eqb}
use Rattle.std.specs.Prelude.{ℤ, ◌-◌, nat_le, ◌==◌, ◌&&◌, nat_lt, if◌then◌else◌, slice_index}
use Rattle.std.specs.List.{filter_map, cons_option, list_all}
use Rattle.std.proofs.lemmas.List.Elements.{All-nil, All-cons, All-append}
use Rattle.dwc_base.specs.declared.faults.Flaw.{Flaw}
use Rattle.dwc_base.specs.declared.faults.Flaw.TheVariants.{Malformed}
use Rattle.dwc_base.specs.Reading.{coded, counted_at, part_at, sleb_at, Unread, Read, ◌>>=◌, text_at, uleb_at, items_at, number_at, seen_as}
use Rattle.dwc_base.specs.Sections.{Relocation, address_at, Sections, Fault, section_from, reported}
use Rattle.dwc_base.specs.declared.section_name.SectionName.TheVariants.{Line}
use Rattle.dwc_base.specs.declared.faults.What.TheVariants.{LineTable as LineTableRead}
use Rattle.dwc_base.specs.Listing.{Listing, Next, at_end, broken, passes, item, walk, walk_up_to, no_items, only_fault, with_first}
use Rattle.dwc_dwarf.specs.LineRows.{LineTable, line_table, line_table_at, checked_table, table_of, file_defined, effects, is_in_range, at_sequence_start}
use Rattle.dwc_base.specs.declared.constants.TheConstants.{DW_LNE_end_sequence, DW_LNE_set_address, DW_LNE_define_file, DW_LNE_set_discriminator}
use Rattle.dwc_dwarf.specs.LineHeaders.{Instruction, special, end_sequence, set_address, define_file, set_discriminator, unknown, Operand, no_operand, one_uleb, one_sleb, two_bytes, standard_opcodes, operand_at, passed_operands_at, extended_at, extended_instruction_at, instruction_at, next_instruction, instructions, LineFile, LineHeader, directory_at, file_at, file_behind, LineSource, line_source, directories_of_5_at, files_of_5_at, line_names_at, line_fields_at, line_header_at}
use Rattle.dwc_base.proofs.Items.{Leaves, LeavesFewer, items-more, items-end, items-flaw}
use Rattle.dwc_dwarf.proofs.LineTakes.{directory_at-leaves}
use Rattle.dwc_base.proofs.Takes.{Leaves-bind, Leaves-same, text_at-leaves}
use Rattle.dwc_base.proofs.TakesMore.{Leaves-more, uleb_at-leaves}
use Rattle.dwc_image.proofs.PlainNames.{Holds, holds-behind, holds-is, IsPlain, IsPlainFile, IsSome, text-plain, directory-plain, behind-name, file-plain, directories_of_5-plain, files_of_5-plain}

-- what was read is one thing
ok-same : {A : Type 0} (x y : A × Unread) → (let r : Read A = Ok x in r) ≡ Ok y → x ≡ y
ok-same x y h = cc

-- ---- things that are read one after another

-- what holds of each thing of a list that was read
module _ {A : Type 0} (P : A → Type 0) (thing : Unread → Read (Option A)) (takes : (u : Unread) → Leaves (thing u) (length u.left)) (each : (u v : Unread) (x : A) → thing u ≡ Ok (Some x, v) → P x) where
  behind-first : (x : A) (r : Read (List A)) (xs : List A) (v : Unread) → P x → ((ys : List A) (w : Unread) → r ≡ Ok (ys, w) → All P ys) → seen_as (λ ys. x ∷ ys) r ≡ Ok (xs, v) → All P xs
  behind-first x (Err flaw) xs v here others h = absurd (cc)
  behind-first x (Ok read) xs v here others h =
      let same : x ∷ read.0 ≡ xs = ap (λ p. p.0) (ok-same (x ∷ read.0, read.1) (xs, v) h) in
      rw (← same) (All-cons P x read.0 here (others read.0 read.1 refl))

  list-each : (m : ℕ) (u v : Unread) (xs : List A) → length u.left < m → items_at thing u ≡ Ok (xs, v) → All P xs
  list-each zero u v xs less h = absurd (omega arith)
  list-each (suc m) u v xs less h = go (thing u) refl (takes u).fewer (λ w ys y few e. list-each m w y ys (omega arith) e)
    where
      go : (r : Read (Option A)) → thing u ≡ r → LeavesFewer r (length u.left) → ((w : Unread) (ys : List A) (y : Unread) → length w.left < length u.left → items_at thing w ≡ Ok (ys, y) → All P ys) → All P xs
      go (Err flaw) is few again = absurd (cc (items-flaw thing takes u flaw is))
      go (Ok (None, w)) is few again =
          let none : [] ≡ xs = ap (λ p. p.0) (ok-same ([], w) (xs, v) (sym (items-end thing takes u w is) ∙ h)) in
          rw (← none) (All-nil P)
      go (Ok (Some x, w)) is few again =
          behind-first x (items_at thing w) xs v (each u w x is) (λ ys y e. again w ys y few e) (sym (items-more thing takes u w x is) ∙ h)

  pub items-each : (u v : Unread) (xs : List A) → items_at thing u ≡ Ok (xs, v) → All P xs
  items-each u v xs h = list-each (suc (length u.left)) u v xs (omega arith) h

-- ---- directories and files of the header

file_behind-leaves : (name : List ℕ) (u : Unread) → Leaves (file_behind name u) (suc (length u.left))
unfolding file_behind
file_behind-leaves name u = search (arith, Leaves-bind, Leaves-same, Leaves-more, uleb_at-leaves) depth 9

file_at-leaves : (u : Unread) → Leaves (file_at u) (length u.left)
unfolding file_at
file_at-leaves u = Leaves-bind (text_at u) _ _ (text_at-leaves u) (λ name. go (eqb (length name.0) 0) name.0 name.1)
  where
    go : (b : Bool) (name : List ℕ) (v : Unread)
        → Leaves {A = Option LineFile} (elim b [ true ↦ Ok (None, v) | false ↦ (file_behind name v >>= λ file. Ok (Some file.0, file.1)) ]) (suc (length v.left))
    go true name v = Leaves-same _ _
    go false name v = Leaves-bind (file_behind name v) _ _ (file_behind-leaves name v) (λ file. Leaves-same _ _)

-- the directories and the files of a header that was read
pub record ArePlain (ds : List (List ℕ)) (fs : List LineFile) : Type 0 where
  pub directories : All IsPlain ds
  pub files : All IsPlainFile fs

-- those to version 4
each-item : {A : Type 0} (P : A → Type 0) (thing : Unread → Read (Option A)) → ((u : Unread) → Leaves (thing u) (length u.left)) → ((u : Unread) → Holds (λ x. IsSome P x.0) (thing u)) → (u : Unread) → Holds (λ xs. All P xs.0) (items_at thing u)
each-item {A} P thing takes each u = go (items_at thing u) refl
  where
    go : (r : Read (List A)) → items_at thing u ≡ r → Holds (λ xs. All P xs.0) r
    go (Err flaw) is = record { of = tt }
    go (Ok xs) is = record { of = items-each P thing takes (λ v w x e. holds-is (λ y. IsSome P y.0) (thing v) (Some x, w) (each v) e) u xs.1 xs.0 is }

names-plain : (s : LineSource) (version address_size : ℕ) (u : Unread) → Holds (λ x. ArePlain (x.0).0 (x.0).1) (line_names_at s version address_size u)
unfolding line_names_at
names-plain s version address_size u = go (version == 5)
  where
    both : (ds : Read (List (List ℕ))) (fs : Unread → Read (List LineFile)) → Holds (λ x. All IsPlain x.0) ds → ((v : Unread) → Holds (λ x. All IsPlainFile x.0) (fs v))
        → Holds {A = (List (List ℕ) × List LineFile) × Unread} (λ x. ArePlain (x.0).0 (x.0).1) (ds >>= λ d. fs d.1 >>= λ f. Ok ((d.0, f.0), f.1))
    both ds fs p q =
        holds-behind (λ x. ArePlain (x.0).0 (x.0).1) (λ x. All IsPlain x.0) ds _ p
        (λ d named. holds-behind (λ x. ArePlain (x.0).0 (x.0).1) (λ x. All IsPlainFile x.0) (fs d.1) _ (q d.1) (λ f plain. record { of = record { directories = named; files = plain } }))

    go : (late : Bool)
        → Holds {A = (List (List ℕ) × List LineFile) × Unread} (λ x. ArePlain (x.0).0 (x.0).1)
        ((elim late [ true ↦ directories_of_5_at s address_size u | false ↦ items_at directory_at u ]) >>= λ d. (elim late [ true ↦ files_of_5_at s address_size d.1 | false ↦ items_at file_at d.1 ]) >>= λ f. Ok ((d.0, f.0), f.1))
    go true = both (directories_of_5_at s address_size u) (files_of_5_at s address_size) (directories_of_5-plain s address_size u) (files_of_5-plain s address_size)
    go false = both (items_at directory_at u) (items_at file_at) (each-item IsPlain directory_at directory_at-leaves directory-plain u) (each-item IsPlainFile file_at file_at-leaves file-plain)

-- the header that was read, if it was, has such names
abbrev pub NamesOf : Result LineHeader Flaw → Type 0
NamesOf (Err flaw) = Unit {0}
NamesOf (Ok h) = ArePlain h.directories h.files

pub record HasNames (r : Result LineHeader Flaw) : Type 0 where
  pub of : NamesOf r

names-behind : {A : Type 0} (r : Result A Flaw) (f : A → Result LineHeader Flaw) → ((x : A) → HasNames (f x)) → HasNames (r >>= f)
names-behind (Err flaw) f h = record { of = tt }
names-behind (Ok x) f h = h x

-- behind the directories and the files
names-read : (s : LineSource) (version address_size : ℕ) (u : Unread) (f : (List (List ℕ) × List LineFile) × Unread → Result LineHeader Flaw)
    → ((x : (List (List ℕ) × List LineFile) × Unread) → ArePlain (x.0).0 (x.0).1 → HasNames (f x)) → HasNames (line_names_at s version address_size u >>= f)
names-read s version address_size u f h = go (line_names_at s version address_size u) (names-plain s version address_size u)
  where
    go : (r : Read (List (List ℕ) × List LineFile)) → Holds (λ x. ArePlain (x.0).0 (x.0).1) r → HasNames (r >>= f)
    go (Err flaw) p = record { of = tt }
    go (Ok x) p = h x p.of

names-last : (h : LineHeader) → ArePlain h.directories h.files → HasNames (Ok h)
names-last h named = record { of = named }

fields-names : (s : LineSource) (version address_size : ℕ) (program u : Unread) → HasNames (line_fields_at s version address_size program u)
unfolding line_fields_at
fields-names s version address_size program u = search (names-read, names-last, names-behind) depth 16

pub header-names : (s : LineSource) (address_size : ℕ) (u : Unread) → HasNames (line_header_at s address_size u)
unfolding line_header_at
header-names s address_size u = search (names-behind, fields-names) depth 10

-- ---- files that the program defines

-- a file that an instruction defines is such a one
abbrev pub DefinesPlain : Instruction → Type 0
DefinesPlain (define_file f) = IsPlainFile f
DefinesPlain _ = Unit {0}

abbrev pub InstructionPlain : Read Instruction → Type 0
InstructionPlain (Err flaw) = Unit {0}
InstructionPlain (Ok x) = DefinesPlain x.0

pub record IsInstructionPlain (r : Read Instruction) : Type 0 where
  pub of : InstructionPlain r

plain-behind : {A : Type 0} (r : Result A Flaw) (f : A → Read Instruction) → ((x : A) → IsInstructionPlain (f x)) → IsInstructionPlain (r >>= f)
plain-behind (Err flaw) f h = record { of = tt }
plain-behind (Ok x) f h = h x

plain-seen : {A : Type 0} (make : A → Instruction) (r : Read A) → ((x : A) → DefinesPlain (make x)) → IsInstructionPlain (seen_as make r)
plain-seen make (Err flaw) h = record { of = tt }
plain-seen make (Ok x) h = record { of = h x.0 }

plain-last : (i : Instruction) (u : Unread) → DefinesPlain i → IsInstructionPlain (Ok (i, u))
plain-last i u h = record { of = h }

-- what stands behind a standard opcode defines no file
abbrev pub OperandPlain : Operand → Type 0
OperandPlain (no_operand i) = DefinesPlain i
OperandPlain (one_uleb make) = (n : ℕ) → DefinesPlain (make n)
OperandPlain (one_sleb make) = (n : ℤ) → DefinesPlain (make n)
OperandPlain (two_bytes make) = (n : ℕ) → DefinesPlain (make n)

abbrev pub RowsPlain : List (ℕ × Operand) → Type 0
RowsPlain [] = Unit {0}
RowsPlain (row ∷ rows) = OperandPlain row.1 × RowsPlain rows

coded-plain : (rows : List (ℕ × Operand)) (code : ℕ) (o : Operand) → RowsPlain rows → coded rows code ≡ Some o → OperandPlain o
coded-plain [] code o h e = absurd (cc)
coded-plain (row ∷ rows) code o h e = go (row.0 == code) e (λ k. coded-plain rows code o h.1 k)
  where
    go : (b : Bool) → ◌≡◌ {A = Option Operand} (if b then Some row.1 else coded rows code) (Some o) → (coded rows code ≡ Some o → OperandPlain o) → OperandPlain o
    go true k others = let same : row.1 ≡ o = cc in rw (← same) h.0
    go false k others = others k

standard-plain : RowsPlain standard_opcodes
standard-plain = (tt, (λ n. tt, (λ n. tt, (λ n. tt, (λ n. tt, (tt, (tt, (tt, (λ n. tt, (tt, (tt, (λ n. tt, tt))))))))))))

operand-plain : (o : Operand) (u : Unread) → OperandPlain o → IsInstructionPlain (operand_at o u)
unfolding operand_at
operand-plain (no_operand i) u h = plain-last i u h
operand-plain (one_uleb make) u h = plain-seen make (uleb_at u) h
operand-plain (one_sleb make) u h = plain-seen make (sleb_at u) h
operand-plain (two_bytes make) u h = plain-seen make (number_at 2 u) h

passed-plain : (count : ℕ) (u : Unread) → IsInstructionPlain (passed_operands_at count u)
unfolding passed_operands_at
passed-plain count u = plain-seen (λ ns. unknown) (counted_at count uleb_at u) (λ ns. tt)

extended-plain : (relocations : List Relocation) (h : LineHeader) (opcode : ℕ) (u : Unread) → IsInstructionPlain (extended_at relocations h opcode u)
unfolding extended_at
extended-plain relocations h opcode u = one (opcode == DW_LNE_end_sequence) (opcode == DW_LNE_set_address) ((opcode == DW_LNE_define_file) && nat_lt h.version 5) (opcode == DW_LNE_set_discriminator)
  where
    defined : (r : Read (List ℕ)) → text_at u ≡ r → IsInstructionPlain (r >>= λ name. seen_as define_file (file_behind name.0 name.1))
    defined (Err flaw) is = record { of = tt }
    defined (Ok name) is = found (file_behind name.0 name.1) refl
      where
        found : (s : Read LineFile) → file_behind name.0 name.1 ≡ s → IsInstructionPlain (seen_as define_file s)
        found (Err flaw) e = record { of = tt }
        found (Ok x) e = record { of = holds-is (λ y. IsPlainFile y.0) (file_behind name.0 name.1) x (behind-name name.0 name.1 (holds-is (λ y. IsPlain y.0) (text_at u) name (text-plain u) is)) e }

    one : (a b c d : Bool) → IsInstructionPlain (elim a [
      | true ↦ Ok (end_sequence, u)
      | false ↦ elim b [
        | true ↦ seen_as set_address (address_at relocations h.address_size u)
        | false ↦ elim c [
          | true ↦ (text_at u >>= λ name. seen_as define_file (file_behind name.0 name.1))
          | false ↦ elim d [ true ↦ seen_as set_discriminator (uleb_at u) | false ↦ Ok (unknown, u) ]
        ]
      ]
    ])
    one true b c d = plain-last end_sequence u tt
    one false true c d = plain-seen set_address (address_at relocations h.address_size u) (λ a. tt)
    one false false true d = defined (text_at u) refl
    one false false false true = plain-seen set_discriminator (uleb_at u) (λ n. tt)
    one false false false false = plain-last unknown u tt

in-extended : (relocations : List Relocation) (h : LineHeader) (u : Unread) → IsInstructionPlain (extended_instruction_at relocations h u)
unfolding extended_instruction_at
in-extended relocations h u = plain-behind (uleb_at u) _ (λ size. plain-behind (part_at size.0 size.1) _ (λ inside. plain-behind (number_at 1 inside.0) _ (λ opcode. go inside.1 (extended_at relocations h opcode.0 opcode.1) (extended-plain relocations h opcode.0 opcode.1))))
  where
    go : (v : Unread) (r : Read Instruction) → IsInstructionPlain r → IsInstructionPlain (r >>= λ instruction. Ok (instruction.0, v))
    go v (Err flaw) p = record { of = tt }
    go v (Ok x) p = record { of = p.of }

instruction-plain : (relocations : List Relocation) (h : LineHeader) (u : Unread) → IsInstructionPlain (instruction_at relocations h u)
unfolding instruction_at
instruction-plain relocations h u = plain-behind (number_at 1 u) _ (λ opcode. go (nat_le h.opcode_base opcode.0) (opcode.0 == 0) opcode.0 opcode.1 (coded standard_opcodes opcode.0) refl)
  where
    go : (a b : Bool) (n : ℕ) (v : Unread) (o : Option Operand) → coded standard_opcodes n ≡ o → IsInstructionPlain (elim a [
      | true ↦ Ok (special n, v)
      | false ↦ elim b [
        | true ↦ extended_instruction_at relocations h v
        | false ↦ elim o [ Some operand ↦ operand_at operand v | None ↦ passed_operands_at (slice_index h.standard_opcode_lengths (n - 1)) v ]
      ]
    ])
    go true b n v o is = plain-last (special n) v tt
    go false true n v o is = in-extended relocations h v
    go false false n v None is = passed-plain (slice_index h.standard_opcode_lengths (n - 1)) v
    go false false n v (Some operand) is = operand-plain operand v (coded-plain standard_opcodes n operand standard-plain is)

-- what holds of each item of a walk
module _ {S F A : Type 0} (P : A → Type 0) (next : S → Next S F A) (each : (s t : S) (x : A) → next s ≡ item x t → P x) where
  walk_up_to-each : (most : ℕ) (s : S) → All P (walk_up_to most next s).items
  unfolding walk_up_to
  walk_up_to-each zero s = All-nil P
  walk_up_to-each (suc most) s = go (next s) refl (λ t. walk_up_to-each most t)
    where
      go : (e : Next S F A) → next s ≡ e → ((t : S) → All P (walk_up_to most next t).items)
          → All P (let l : Listing F A = elim e [ at_end ↦ no_items | broken f ↦ only_fault f | passes t ↦ walk_up_to most next t | item x t ↦ with_first x (walk_up_to most next t) ] in l).items
      go at_end is rest = All-nil P
      go (broken f) is rest = All-nil P
      go (passes t) is rest = rest t
      go (item x t) is rest = All-cons P x (walk_up_to most next t).items (each s t x is) (rest t)

-- each instruction of a program defines a file with such a name, if it defines one
next-plain : (relocations : List Relocation) (h : LineHeader) (u v : Unread) (i : Instruction) → next_instruction relocations h u ≡ item i v → DefinesPlain i
unfolding next_instruction
next-plain relocations h u v i e = go (length u.left == 0) (instruction_at relocations h u) (instruction-plain relocations h u) e
  where
    go : (b : Bool) (r : Read Instruction) → IsInstructionPlain r
        → (let n : Next Unread Flaw Instruction = elim b [ true ↦ at_end | false ↦ elim r [ Ok i ↦ item i.0 i.1 | Err flaw ↦ broken flaw ] ] in n) ≡ item i v → DefinesPlain i
    go true r p k = absurd (cc)
    go false (Err flaw) p k = absurd (cc)
    go false (Ok x) p k =
        let same : x.0 ≡ i = cc in
        rw (← same) p.of

program-plain : (relocations : List Relocation) (h : LineHeader) (u : Unread) → All DefinesPlain (instructions relocations h u).items
unfolding instructions walk
program-plain relocations h u = walk_up_to-each DefinesPlain (next_instruction relocations h) (next-plain relocations h) (suc (length u.left)) u

defined-plain : (is : List Instruction) → All DefinesPlain is → All IsPlainFile (filter_map file_defined is)
defined-plain [] h = All-nil IsPlainFile
defined-plain (i ∷ is) h = go i (h 0 i (omega arith)) (defined-plain is (λ k d less. h (suc k) d (omega arith)))
  where
    go : (i : Instruction) → DefinesPlain i → All IsPlainFile (filter_map file_defined is) → All IsPlainFile (cons_option (file_defined i) (filter_map file_defined is))
    go (define_file f) p rest = All-cons IsPlainFile f (filter_map file_defined is) p rest
    go _ p rest = rest

-- ---- the table

-- The directories and the files of a table that was read.
pub table-names : (s : Sections) (address_size base offset : ℕ) (t : LineTable) → line_table s address_size base offset ≡ Ok t → ArePlain t.header.directories t.files
unfolding line_table line_table_at
table-names s address_size base offset t read =
    reported-names (line_header_at (line_source s base) address_size (section_from s Line offset)) (header-names (line_source s base) address_size (section_from s Line offset)) read
  where
    ranged : (h : LineHeader) (is : List Instruction) (b : Bool) → ArePlain h.directories h.files → All DefinesPlain is
        → (let r : Result LineTable Fault = reported LineTableRead Line offset (elim b [ true ↦ Ok (table_of h is) | false ↦ Err Malformed ]) in r) ≡ Ok t → ArePlain t.header.directories t.files
    ranged h is true names defined e =
        let same : table_of h is ≡ t = cc in
        rw (← same) (record { directories = names.directories; files = All-append IsPlainFile h.files (filter_map file_defined is) names.files (defined-plain is defined) })
    ranged h is false names defined e = absurd (cc)

    checked : (h : LineHeader) (items : List Instruction) (fault : Option Flaw) → ArePlain h.directories h.files → All DefinesPlain items
        → reported LineTableRead Line offset (checked_table h (record { items = items; fault = fault })) ≡ Ok t → ArePlain t.header.directories t.files
    checked h items None names defined e = ranged h items (list_all is_in_range (effects h (at_sequence_start h) items)) names defined e
    checked h items (Some flaw) names defined e = absurd (cc)

    reported-names : (r : Result LineHeader Flaw) → HasNames r → reported LineTableRead Line offset (r >>= λ h. checked_table h (instructions (s.relocations Line) h h.program)) ≡ Ok t
        → ArePlain t.header.directories t.files
    reported-names (Err flaw) names e = absurd (cc)
    reported-names (Ok h) names e = checked h (instructions (s.relocations Line) h h.program).items (instructions (s.relocations Line) h h.program).fault names.of (program-plain (s.relocations Line) h h.program) e
