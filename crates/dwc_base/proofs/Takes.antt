-- Each reader takes a byte at least.
use Rattle.std.proofs.Common.{◌≡◌, ℕ, suc, ◌+◌, ◌<◌, refl, arith, List, [], ◌∷◌, length, take, length-drop, Option, Some, None, Result, Ok, Err, Bool, true, false, ltb}
use Rattle.std.specs.Prelude.{◌==◌, if◌then◌else◌}
use Rattle.std.proofs.lemmas.Bool.{ltb-false}
use Rattle.std.specs.List.{position}
use Rattle.dwc_base.specs.declared.faults.Flaw.{Flaw}
use Rattle.dwc_base.specs.declared.faults.Flaw.TheVariants.{EndsEarly}
use Rattle.dwc_base.specs.Reading.{Unread, Read, ◌>>=◌, passed, front, seen_as, number, bytes_at, part_at, number_at, text_at}
use Rattle.dwc_base.specs.declared.faults.What.TheVariants.{UnitHeader as UnitHeaderRead}
use Rattle.dwc_base.specs.declared.section_name.SectionName.TheVariants.{Info}
use Rattle.dwc_base.specs.Sections.{Fault, fault_of}
use Rattle.dwc_base.specs.Units.{UnitHeader, sized_part_at, unit_header_at, next_unit_header}
use Rattle.dwc_base.specs.Listing.{at_end, broken, item}
use Rattle.dwc_base.proofs.Items.{Leaves, LeavesFewer}
use Rattle.dwc_base.proofs.Walks.{GoesOn}

-- a fact of what was read
pub Leaves-at : {A : Type 0} {r : Read A} {x : A} {v : Unread} {n : ℕ} → r ≡ Ok (x, v) → Leaves r n → length v.left < n
Leaves-at h leaves = rw h at leaves.fewer

-- a reader that begins with another takes no less
pub Leaves-bind : {A B : Type 0} (r : Read A) (f : A × Unread → Read B) (n : ℕ) → Leaves r n → ((x : A × Unread) → Leaves (f x) (suc (length (x.1).left))) → Leaves (r >>= f) n
Leaves-bind (Err flaw) f n first rest = record { fewer = tt }
Leaves-bind (Ok x) f n first rest = record { fewer = go (f x) (rest x).fewer }
  where
    go : {B : Type 0} (s : Read B) → LeavesFewer s (suc (length (x.1).left)) → LeavesFewer s n
    go (Err flaw) h = tt
    go (Ok y) h = omega (arith, h, first.fewer)

-- what comes behind a test, or behind what takes nothing
pub Leaves-behind : {A B : Type 0} (r : Result A Flaw) (f : A → Read B) (n : ℕ) → ((x : A) → Leaves (f x) n) → Leaves (r >>= f) n
Leaves-behind (Err flaw) f n h = record { fewer = tt }
Leaves-behind (Ok x) f n h = h x

-- what takes nothing more
pub Leaves-same : {A : Type 0} (x : A) (u : Unread) → Leaves (Ok (x, u)) (suc (length u.left))
Leaves-same x u = record { fewer = omega arith }

passed-leaves : (u : Unread) (count : ℕ) → 0 < count → 0 < length u.left → length (passed count u).left < length u.left
passed-leaves u count some left = omega (arith, length-drop count u.left)

nonempty : (p : ℕ → Bool) (xs : List ℕ) (n : ℕ) → position p xs ≡ Some n → 0 < length xs
nonempty p [] n h = absurd (cc)
nonempty p (x ∷ xs) n h = omega arith

pub text_at-leaves : (u : Unread) → Leaves (text_at u) (length u.left)
unfolding text_at
text_at-leaves u = record { fewer = go (position (λ b. b == 0) u.left) refl }
  where
    go : (o : Option ℕ) → position (λ b. b == 0) u.left ≡ o → LeavesFewer (elim o [ None ↦ Err EndsEarly | Some n ↦ Ok (take n u.left, passed (n + 1) u) ]) (length u.left)
    go None h = tt
    go (Some n) h = passed-leaves u (n + 1) (omega arith) (nonempty (λ b. b == 0) u.left n h)

-- a field of no bytes takes none
pub bytes_at-leaves : (size : ℕ) (u : Unread) → 0 < size → Leaves (bytes_at size u) (length u.left)
unfolding bytes_at
bytes_at-leaves size u some = record { fewer = go (ltb (length u.left) size) refl }
  where
    go : (b : Bool) → ltb (length u.left) size ≡ b → LeavesFewer {A = List ℕ} (if b then Err EndsEarly else Ok (take size u.left, passed size u)) (length u.left)
    go true h = tt
    go false h = passed-leaves u size some (omega (arith, ltb-false (length u.left) size h))

pub part_at-leaves : (size : ℕ) (u : Unread) → Leaves (part_at size u) (suc (length u.left))
unfolding part_at
part_at-leaves size u = record { fewer = go (ltb (length u.left) size) }
  where
    go : (b : Bool) → LeavesFewer {A = Unread} (if b then Err EndsEarly else Ok (front size u, passed size u)) (suc (length u.left))
    go true = tt
    go false = omega (arith, length-drop size u.left)

pub number_at-leaves : (size : ℕ) (u : Unread) → 0 < size → Leaves (number_at size u) (length u.left)
unfolding number_at
number_at-leaves size u some = record { fewer = go (bytes_at size u) (bytes_at-leaves size u some).fewer }
  where
    go : (r : Read (List ℕ)) → LeavesFewer r (length u.left) → LeavesFewer (seen_as (number u.order) r) (length u.left)
    go (Ok x) h = h
    go (Err flaw) h = tt

sized_part_at-leaves : (u : Unread) → Leaves (sized_part_at u) (length u.left)
unfolding sized_part_at
sized_part_at-leaves u = search (arith, Leaves-bind, Leaves-behind, Leaves-same, number_at-leaves, part_at-leaves)

pub unit_header_at-leaves : (u : Unread) → Leaves (unit_header_at u) (length u.left)
unfolding unit_header_at
unit_header_at-leaves u = search (arith, Leaves-bind, Leaves-behind, Leaves-same, sized_part_at-leaves)

-- the walk over units goes forward
pub next_unit_header-shrinks : (u v : Unread) → GoesOn (next_unit_header u) v → length v.left < length u.left
unfolding next_unit_header
next_unit_header-shrinks u v goes = go (length u.left == 0) (unit_header_at u) (unit_header_at-leaves u).fewer goes
  where
    go : (b : Bool) (r : Read UnitHeader) → LeavesFewer r (length u.left)
        → GoesOn {S = Unread} {F = Fault} {A = UnitHeader} (elim b [ true ↦ at_end | false ↦ elim r [ Ok h ↦ item h.0 h.1 | Err flaw ↦ broken (fault_of UnitHeaderRead Info u.place flaw) ] ]) v → length v.left < length u.left
    go true r fewer g = absurd g
    go false (Err flaw) fewer g = absurd g
    go false (Ok h) fewer g = rw g at fewer
