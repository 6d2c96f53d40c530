-- A part of some bytes is no longer than it was said to be.
use Rattle.std.proofs.Common.{◌≡◌, ℕ, ◌≤◌, arith, ap, length, length-take, Ok, Err, Bool, true, false, ltb, cond}
use Rattle.dwc_base.specs.declared.faults.Flaw.TheVariants.{EndsEarly}
use Rattle.dwc_base.specs.Reading.{Unread, Read, part_at, front, passed}

-- the bytes of what was read
abbrev size_of : Read Unread → ℕ
size_of (Ok part) = length (part.0).left
size_of (Err flaw) = 0

-- a part is no longer than its size
pub part_at_short : (n : ℕ) (u part v : Unread) → part_at n u ≡ Ok (part, v) → length part.left ≤ n
unfolding part_at
part_at_short n u part v h = rw (ap size_of h) at (go (ltb (length u.left) n))
  where
    go : (b : Bool) → size_of (cond {A = Read Unread} b (Err EndsEarly) (Ok (front n u, passed n u))) ≤ n
    go true = omega arith
    go false = omega (arith, length-take n u.left)
