-- The walk over the sections of a file, step by step, and how long what it meets can be.
use Rattle.std.proofs.Common.{◌≡◌, ℕ, ◌≤◌, ◌<◌, ◌^◌, List, length, length-take, refl, arith, Result, Ok, Err, Bool, true, false, cond, ltb, leb}
use Rattle.std.specs.Prelude.{◌==◌}
use Rattle.dwc_base.specs.declared.faults.Flaw.TheVariants.{EndsEarly, Malformed}
use Rattle.std.proofs.lemmas.Bool.{leb-false}
use Rattle.dwc_base.specs.Reading.{Unread, Read, ◌>>=◌, forbid, front, passed, part_at, uleb_at}
use Rattle.dwc_base.specs.Listing.{with_first, no_items, only_fault, Next, at_end, broken, item}
use Rattle.dwc_base.specs.Wasm.{FileRead, field, byte_at, any_byte, name_at, Contents, custom, imports, functions, code, other, contents_of, imports_at, type_numbers_at, exactly, section_bytes_at, u32_at, WasmSection, wasm_section_at, next_wasm_section, wasm_sections}
use Rattle.dwc_base.proofs.Items.{LeavesFewer}
use Rattle.dwc_wasm.proofs.FileTakes.{byte_at-leaves, name_at-leaves, next_wasm_section-shrinks}
use Rattle.dwc_base.proofs.TakesMore.{uleb_at-leaves}
use Rattle.dwc_base.proofs.Walks.{GoesOn, walk-end, walk-fault, walk-item}
use Rattle.dwc_wasm.specs.FileParts.{custom_left}

-- the sections from a place on: none at the end, the first and those behind it, or the place that breaks the grammar
pub wasm_sections-end : (u : Unread) → next_wasm_section u ≡ at_end → wasm_sections u ≡ no_items
unfolding wasm_sections
wasm_sections-end u h = walk-end (λ u. length u.left) next_wasm_section next_wasm_section-shrinks u h

pub wasm_sections-item : (u v : Unread) (s : WasmSection) → next_wasm_section u ≡ item s v → wasm_sections u ≡ with_first s (wasm_sections v)
unfolding wasm_sections
wasm_sections-item u v s h = walk-item (λ u. length u.left) next_wasm_section next_wasm_section-shrinks u v s h

pub wasm_sections-broken : (u : Unread) (place : ℕ) → next_wasm_section u ≡ broken place → wasm_sections u ≡ only_fault place
unfolding wasm_sections
wasm_sections-broken u place h = walk-fault (λ u. length u.left) next_wasm_section next_wasm_section-shrinks u place h

-- what holds of what was read
abbrev pub Holds : {A E : Type 0} → (A → Type 0) → Result A E → Type 0
Holds P (Ok x) = P x
Holds P (Err e) = Unit {0}

-- nothing is asked of it
Holds-any : {A E : Type 0} (r : Result A E) → Holds (λ x. Unit {0}) r
Holds-any (Ok x) = tt
Holds-any (Err e) = tt

-- what holds of what comes next
Holds-bind : {A B E : Type 0} (P : A → Type 0) (Q : B → Type 0) (r : Result A E) (f : A → Result B E) → Holds P r → ((x : A) → P x → Holds Q (f x)) → Holds Q (r >>= f)
Holds-bind P Q (Ok x) f h go = go x h
Holds-bind P Q (Err e) f h go = tt

-- what holds of either
Holds-either : {A E : Type 0} (P : A → Type 0) (b : Bool) (r s : Result A E) → Holds P r → Holds P s → Holds P (elim b [ true ↦ r | false ↦ s ])
Holds-either P true r s h k = h
Holds-either P false r s h k = k

-- what holds of a field holds of its reader
Holds-field : {A : Type 0} (P : A × Unread → Type 0) (read : Unread → Read A) (u : Unread) → Holds P (read u) → Holds P (field read u)
Holds-field {A} P read u h = go (read u) h
  where
    go : (r : Read A) → Holds P r → Holds P (elim r as (λ x. FileRead A) [ Ok x ↦ Ok x | Err flaw ↦ Err u.place ])
    go (Ok x) h = h
    go (Err flaw) h = tt

-- fewer bytes are left
Holds-fewer : {A : Type 0} (r : Read A) (n : ℕ) → LeavesFewer r n → Holds (λ x. length (x.1).left < n) r
Holds-fewer (Ok x) n h = h
Holds-fewer (Err flaw) n h = tt

-- behind a test, what is forbidden is not so
Holds-forbid : {E : Type 0} (b : Bool) (flaw : E) → Holds (λ x. b ≡ false) (forbid b flaw)
Holds-forbid true flaw = tt
Holds-forbid false flaw = refl

-- a size, and what is left behind it
record IsSize (size : ℕ × Unread) (u : Unread) : Type 0 where
  pub small : size.0 < 2 ^ 32
  pub behind : length (size.1).left < length u.left

-- a number below 2 ^ 32 is a size
u32_at-size : (u : Unread) → Holds (λ n. IsSize n u) (u32_at u)
unfolding u32_at
u32_at-size u =
    Holds-bind (λ n. length (n.1).left < length u.left) (λ n. IsSize n u) (uleb_at u) _ (Holds-fewer (uleb_at u) _ (uleb_at-leaves u).fewer) (λ n behind.
    Holds-bind (λ x. leb (2 ^ 32) n.0 ≡ false) (λ n. IsSize n u) (forbid (leb (2 ^ 32) n.0) Malformed) _ (Holds-forbid _ _) (λ x h.
    record { small = leb-false _ _ h; behind = behind }))

-- a part that is read on its own
pub record IsInside (most : ℕ) (bytes : List ℕ) : Type 0 where
  pub small : length bytes < 2 ^ 32
  pub inside : length bytes ≤ most

-- as many bytes as a size are inside what was left
part_at-inside : (size : ℕ × Unread) (u : Unread) → IsSize size u → Holds (λ part. IsInside (length u.left) (part.0).left) (part_at size.0 size.1)
unfolding part_at
part_at-inside size u h = go (ltb (length (size.1).left) size.0) refl
  where
    go : (b : Bool) → ltb (length (size.1).left) size.0 ≡ b → Holds {A = Unread × Unread} (λ part. IsInside (length u.left) (part.0).left) (cond {A = Read Unread} b (Err EndsEarly) (Ok (front size.0 size.1, passed size.0 size.1)))
    go true e = tt
    go false e = record { small = omega (arith, length-take size.0 (size.1).left, h.small); inside = omega (arith, length-take size.0 (size.1).left, h.behind) }

-- and so is a part behind its size
section_bytes_at-inside : (u : Unread) → Holds (λ part. IsInside (length u.left) (part.0).left) (section_bytes_at u)
unfolding section_bytes_at
section_bytes_at-inside u = Holds-bind (λ n. IsSize n u) (λ part. IsInside (length u.left) (part.0).left) (u32_at u) _ (u32_at-size u) (λ size h. part_at-inside size u h)

-- what is inside of less
IsInside-more : (bytes more : List ℕ) (n m : ℕ) → IsInside n more → length bytes ≤ length more → n ≤ m → IsInside m bytes
IsInside-more bytes more n m h le some = record { small = omega (arith, h.small); inside = omega (arith, h.inside) }

-- what a section holds is no longer than the section
contents_of-shorter : (id : ℕ) (u : Unread) → Holds (λ c. length (custom_left c) ≤ length u.left) (contents_of id u)
unfolding contents_of
contents_of-shorter id u =
    let P : Contents → Type 0 = λ c. length (custom_left c) ≤ length u.left in
    Holds-either P (id == 0) _ _ name (Holds-either P (id == 2) _ _ counted_imports (Holds-either P (id == 3) _ _ counted_functions (rest (id == 10))))
  where
    name : Holds (λ c. length (custom_left c) ≤ length u.left) (field name_at u >>= λ name. Ok (custom name.0 name.1))
    name =
        Holds-bind (λ n. length (n.1).left < length u.left) (λ c. length (custom_left c) ≤ length u.left) (field name_at u) _
        (Holds-field (λ n. length (n.1).left < length u.left) name_at u (Holds-fewer (name_at u) _ (name_at-leaves u).fewer))
        (λ n h. omega (arith, h))

    counted_imports : Holds (λ c. length (custom_left c) ≤ length u.left) (field uleb_at u >>= λ count. imports_at count.0 count.1 >>= λ found. exactly found >>= λ n. Ok (imports n))
    counted_imports =
        Holds-bind (λ x. Unit {0}) _ (field uleb_at u) _ (Holds-any _) (λ count x.
        Holds-bind (λ x. Unit {0}) _ (imports_at count.0 count.1) _ (Holds-any _) (λ found x.
        Holds-bind (λ x. Unit {0}) _ (exactly found) _ (Holds-any _) (λ n x. omega arith)))

    counted_functions : Holds (λ c. length (custom_left c) ≤ length u.left) (field uleb_at u >>= λ count. type_numbers_at count.0 count.1 >>= λ found. exactly found >>= λ n. Ok (functions n u))
    counted_functions =
        Holds-bind (λ x. Unit {0}) _ (field uleb_at u) _ (Holds-any _) (λ count x.
        Holds-bind (λ x. Unit {0}) _ (type_numbers_at count.0 count.1) _ (Holds-any _) (λ found x.
        Holds-bind (λ x. Unit {0}) _ (exactly found) _ (Holds-any _) (λ n x. omega arith)))

    rest : (b : Bool) → length (custom_left (cond b (code u) (other id u))) ≤ length u.left
    rest true = omega arith
    rest false = omega arith

-- the contents of a section are no longer than what was left, and have a size
pub wasm_section_at-inside : (u : Unread) → Holds (λ s. IsInside (length u.left) (custom_left (s.0).contents)) (wasm_section_at u)
unfolding wasm_section_at
wasm_section_at-inside u =
    let P : WasmSection × Unread → Type 0 = λ s. IsInside (length u.left) (custom_left (s.0).contents) in
    Holds-bind (λ id. length (id.1).left < length u.left) P (field (byte_at any_byte) u) _ (Holds-field (λ id. length (id.1).left < length u.left) (byte_at any_byte) u (Holds-fewer (byte_at any_byte u) _ (byte_at-leaves any_byte u).fewer)) (λ id behind.
    Holds-bind (λ part. IsInside (length (id.1).left) (part.0).left) P (field section_bytes_at id.1) _ (Holds-field (λ part. IsInside (length (id.1).left) (part.0).left) section_bytes_at id.1 (section_bytes_at-inside id.1)) (λ part inside.
    Holds-bind (λ c. length (custom_left c) ≤ length (part.0).left) P (contents_of id.0 part.0) _ (contents_of-shorter id.0 part.0) (λ c shorter.
    IsInside-more (custom_left c) (part.0).left (length (id.1).left) (length u.left) inside shorter (omega (arith, behind)))))

-- a section that was met leaves fewer bytes behind it
pub next_wasm_section-fewer : (u v : Unread) (s : WasmSection) → next_wasm_section u ≡ item s v → length v.left < length u.left
next_wasm_section-fewer u v s h = next_wasm_section-shrinks u v (let goes : GoesOn {F = ℕ} (item s v) v = refl in rw h goes)

-- its contents are inside what was left
pub next_wasm_section-inside : (u v : Unread) (s : WasmSection) → next_wasm_section u ≡ item s v → IsInside (length u.left) (custom_left s.contents)
unfolding next_wasm_section
next_wasm_section-inside u v s h = go (length u.left == 0) (wasm_section_at u) (wasm_section_at-inside u) h
  where
    go : (b : Bool) (r : FileRead WasmSection) → Holds (λ s. IsInside (length u.left) (custom_left (s.0).contents)) r
        → ◌≡◌ {A = Next Unread ℕ WasmSection} (elim b [ true ↦ at_end | false ↦ elim r [ Ok s ↦ item s.0 s.1 | Err place ↦ broken place ] ]) (item s v) → IsInside (length u.left) (custom_left s.contents)
    go true r inside e = absurd (cc)
    go false (Err place) inside e = absurd (cc)
    go false (Ok t) inside e = let same : (t.0) ≡ s = cc in rw same at inside
