-- Each part of a WebAssembly file takes a byte at least.
use Rattle.std.proofs.Common.{◌≡◌, ℕ, suc, ◌%◌, ◌<◌, refl, arith, length, length-drop, take, List, Result, Ok, Err, Bool, true, false, ltb}
use Rattle.std.specs.Prelude.{◌==◌, if◌then◌else◌}
use Rattle.dwc_base.specs.declared.faults.Flaw.TheVariants.{EndsEarly}
use Rattle.dwc_base.specs.Reading.{Unread, Read, ◌>>=◌, passed, bytes_at, uleb_at}
use Rattle.dwc_base.specs.Listing.{at_end, broken, item}
use Rattle.dwc_base.specs.Wasm.{FileRead, field, name_at, u32_at, byte_at, limits_at, ImportKind, func, table, memory, global, tag, import_of_kind, import_at, contents_of, section_bytes_at, WasmSection, wasm_section_at, next_wasm_section}
use Rattle.dwc_base.proofs.Items.{Leaves, LeavesFewer}
use Rattle.dwc_base.proofs.Takes.{Leaves-bind, Leaves-behind, Leaves-same, number_at-leaves, part_at-leaves}
use Rattle.dwc_base.proofs.TakesMore.{uleb_at-leaves}
use Rattle.dwc_base.proofs.Walks.{GoesOn}

-- what was read of a file leaves fewer bytes than n
abbrev pub LeavesFewerPart : {A : Type 0} → FileRead A → ℕ → Type 0
LeavesFewerPart (Ok x) n = length (x.1).left < n
LeavesFewerPart (Err place) n = Unit {0}

pub record LeavesPart {A : Type 0} (r : FileRead A) (n : ℕ) : Type 0 where
  pub fewer : LeavesFewerPart r n

-- a fact of what was read
pub LeavesPart-at : {A : Type 0} {r : FileRead A} {x : A} {v : Unread} {n : ℕ} → r ≡ Ok (x, v) → LeavesPart r n → length v.left < n
LeavesPart-at h leaves = rw h at leaves.fewer

-- a field takes what its reader takes
pub LeavesPart-field : {A : Type 0} (read : Unread → Read A) (u : Unread) (n : ℕ) → Leaves (read u) n → LeavesPart (field read u) n
LeavesPart-field {A} read u n leaves = go (read u) refl leaves
  where
    go : (r : Read A) → read u ≡ r → Leaves r n → LeavesPart (field read u) n
    go (Ok x) h l = record { fewer = rw h l.fewer }
    go (Err flaw) h l = record { fewer = rw h tt }

-- what begins with another part takes no less
pub LeavesPart-bind : {A B : Type 0} (r : FileRead A) (f : A × Unread → FileRead B) (n : ℕ) → LeavesPart r n → ((x : A × Unread) → LeavesPart (f x) (suc (length (x.1).left))) → LeavesPart (r >>= f) n
LeavesPart-bind (Err place) f n first rest = record { fewer = tt }
LeavesPart-bind (Ok x) f n first rest = record { fewer = go (f x) (rest x).fewer }
  where
    go : {B : Type 0} (s : FileRead B) → LeavesFewerPart s (suc (length (x.1).left)) → LeavesFewerPart s n
    go (Err place) h = tt
    go (Ok y) h = omega (arith, h, first.fewer)

-- what comes behind what takes nothing
pub LeavesPart-behind : {A B : Type 0} (r : Result A ℕ) (f : A → FileRead B) (n : ℕ) → ((x : A) → LeavesPart (f x) n) → LeavesPart (r >>= f) n
LeavesPart-behind (Err place) f n h = record { fewer = tt }
LeavesPart-behind (Ok x) f n h = h x

-- what takes nothing more
pub LeavesPart-same : {A : Type 0} (x : A) (u : Unread) → LeavesPart (Ok (x, u)) (suc (length u.left))
LeavesPart-same x u = record { fewer = omega arith }

-- fewer than n is fewer than what is above
pub LeavesPart-more : {A : Type 0} (r : FileRead A) (n : ℕ) → LeavesPart r n → LeavesPart r (suc n)
LeavesPart-more (Err place) n h = record { fewer = tt }
LeavesPart-more (Ok x) n h = record { fewer = omega (arith, h.fewer) }

-- some bytes, or none, leave no more than there were
bytes_at-keeps : (size : ℕ) (u : Unread) → Leaves (bytes_at size u) (suc (length u.left))
unfolding bytes_at
bytes_at-keeps size u = record { fewer = go (ltb (length u.left) size) }
  where
    go : (b : Bool) → LeavesFewer {A = List ℕ} (if b then Err EndsEarly else Ok (take size u.left, passed size u)) (suc (length u.left))
    go true = tt
    go false = omega (arith, length-drop size u.left)

-- a name, a number below 2 ^ 32, a byte and a part with its size take a byte at least
pub name_at-leaves : (u : Unread) → Leaves (name_at u) (length u.left)
unfolding name_at
name_at-leaves u = search (arith, Leaves-bind, Leaves-behind, Leaves-same, uleb_at-leaves, bytes_at-keeps)

pub u32_at-leaves : (u : Unread) → Leaves (u32_at u) (length u.left)
unfolding u32_at
u32_at-leaves u = search (arith, Leaves-bind, Leaves-behind, Leaves-same, uleb_at-leaves)

pub byte_at-leaves : (test : ℕ → Bool) (u : Unread) → Leaves (byte_at test u) (length u.left)
unfolding byte_at
byte_at-leaves test u = search (arith, Leaves-bind, Leaves-behind, Leaves-same, number_at-leaves)

pub section_bytes_at-leaves : (u : Unread) → Leaves (section_bytes_at u) (length u.left)
unfolding section_bytes_at
section_bytes_at-leaves u = Leaves-bind _ _ _ (u32_at-leaves u) (λ size. part_at-leaves _ _)

-- a part that takes one thing or another
pub LeavesPart-either : {A : Type 0} (b : Bool) (r s : FileRead A) (n : ℕ) → LeavesPart r n → LeavesPart s n → LeavesPart (elim b [ true ↦ r | false ↦ s ]) n
LeavesPart-either true r s n h k = h
LeavesPart-either false r s n h k = k

-- so do fields
uleb_field-leaves : (u : Unread) → LeavesPart (field uleb_at u) (length u.left)
uleb_field-leaves u = LeavesPart-field uleb_at u _ (uleb_at-leaves u)

name_field-leaves : (u : Unread) → LeavesPart (field name_at u) (length u.left)
name_field-leaves u = LeavesPart-field name_at u _ (name_at-leaves u)

byte_field-leaves : (test : ℕ → Bool) (u : Unread) → LeavesPart (field (byte_at test) u) (length u.left)
byte_field-leaves test u = LeavesPart-field (byte_at test) u _ (byte_at-leaves test u)

-- a number behind which nothing is wanted
last_number-leaves : {A : Type 0} (x : A) (u : Unread) → LeavesPart (field uleb_at u >>= λ n. Ok (x, n.1)) (suc (length u.left))
last_number-leaves x u = LeavesPart-bind _ _ _ (LeavesPart-more _ _ (uleb_field-leaves u)) (λ n. LeavesPart-same _ _)

-- so do limits, what is behind the kind of an import, and an import
limits_at-leaves : (u : Unread) → LeavesPart (limits_at u) (length u.left)
unfolding limits_at
limits_at-leaves u =
    LeavesPart-bind _ _ _ (byte_field-leaves _ u) (λ flag.
    LeavesPart-bind _ _ _ (LeavesPart-more _ _ (uleb_field-leaves flag.1)) (λ least.
    LeavesPart-either (flag.0 % 2 == 1) (field uleb_at least.1 >>= λ most. Ok (tt, most.1)) (Ok (tt, least.1)) _ (last_number-leaves tt least.1) (LeavesPart-same _ _)))

import_of_kind-leaves : (kind : ImportKind) (u : Unread) → LeavesPart (import_of_kind kind u) (length u.left)
unfolding import_of_kind
import_of_kind-leaves func u = LeavesPart-bind _ _ _ (uleb_field-leaves u) (λ type. LeavesPart-same _ _)
import_of_kind-leaves table u = LeavesPart-bind _ _ _ (byte_field-leaves _ u) (λ type. LeavesPart-more _ _ (limits_at-leaves type.1))
import_of_kind-leaves memory u = limits_at-leaves u
import_of_kind-leaves global u =
    LeavesPart-bind _ _ _ (byte_field-leaves _ u) (λ type.
    LeavesPart-bind _ _ _ (LeavesPart-more _ _ (byte_field-leaves _ type.1)) (λ mutability. LeavesPart-same _ _))
import_of_kind-leaves tag u = LeavesPart-bind _ _ _ (byte_field-leaves _ u) (λ attribute. last_number-leaves tt attribute.1)

pub import_at-leaves : (u : Unread) → LeavesPart (import_at u) (length u.left)
unfolding import_at
import_at-leaves u =
    LeavesPart-bind _ _ _ (name_field-leaves u) (λ from.
    LeavesPart-bind _ _ _ (LeavesPart-more _ _ (name_field-leaves from.1)) (λ name.
    LeavesPart-bind _ _ _ (LeavesPart-more _ _ (byte_field-leaves _ name.1)) (λ kind.
    LeavesPart-bind _ _ _ (LeavesPart-more _ _ (import_of_kind-leaves _ kind.1)) (λ rest. LeavesPart-same _ _))))

-- so does a section
pub wasm_section_at-leaves : (u : Unread) → LeavesPart (wasm_section_at u) (length u.left)
unfolding wasm_section_at
wasm_section_at-leaves u =
    LeavesPart-bind _ _ _ (byte_field-leaves _ u) (λ id.
    LeavesPart-bind _ _ _ (LeavesPart-more _ _ (LeavesPart-field section_bytes_at id.1 _ (section_bytes_at-leaves id.1))) (λ bytes.
    LeavesPart-behind (contents_of id.0 bytes.0) _ _ (λ contents. LeavesPart-same _ _)))

-- the walk over sections goes forward
pub next_wasm_section-shrinks : (u v : Unread) → GoesOn (next_wasm_section u) v → length v.left < length u.left
unfolding next_wasm_section
next_wasm_section-shrinks u v goes = go (length u.left == 0) (wasm_section_at u) (wasm_section_at-leaves u).fewer goes
  where
    go : (b : Bool) (r : FileRead WasmSection) → LeavesFewerPart r (length u.left)
        → GoesOn {S = Unread} {F = ℕ} {A = WasmSection} (elim b [ true ↦ at_end | false ↦ elim r [ Ok s ↦ item s.0 s.1 | Err place ↦ broken place ] ]) v → length v.left < length u.left
    go true r fewer g = absurd g
    go false (Err place) fewer g = absurd g
    go false (Ok s) fewer g = rw g at fewer
