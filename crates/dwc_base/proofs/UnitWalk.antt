-- The headers of .debug_info, one by one.
use Rattle.std.proofs.Common.{◌≡◌, ◌<◌, refl, arith, length, Ok, Err, true, false, eqb, eq-eqb}
use Rattle.std.proofs.lemmas.Bool.{ne_eqb}
use Rattle.dwc_base.specs.declared.faults.Flaw.{Flaw}
use Rattle.dwc_base.specs.declared.faults.What.TheVariants.{UnitHeader as UnitHeaderRead}
use Rattle.dwc_base.specs.declared.section_name.SectionName.TheVariants.{Info}
use Rattle.dwc_base.specs.Reading.{Unread}
use Rattle.dwc_base.specs.Listing.{no_items, only_fault, with_first}
use Rattle.dwc_base.specs.Sections.{fault_of}
use Rattle.dwc_base.specs.Units.{UnitHeader, unit_header_at, next_unit_header, unit_headers_from}
use Rattle.dwc_base.proofs.Walks.{walk-end, walk-fault, walk-item}
use Rattle.dwc_base.proofs.Takes.{next_unit_header-shrinks}

pub unit_headers_from-end : (u : Unread) → length u.left ≡ 0 → unit_headers_from u ≡ no_items
unfolding unit_headers_from next_unit_header
unit_headers_from-end u h =
    let none : eqb (length u.left) 0 ≡ true = eq-eqb _ _ h in
    walk-end (λ v. length v.left) next_unit_header next_unit_header-shrinks u (rw (none, next_unit_header) refl)

pub unit_headers_from-item : (u v : Unread) (h : UnitHeader) → 0 < length u.left → unit_header_at u ≡ Ok (h, v) → unit_headers_from u ≡ with_first h (unit_headers_from v)
unfolding unit_headers_from next_unit_header
unit_headers_from-item u v h some read =
    let left : eqb (length u.left) 0 ≡ false = ne_eqb _ _ (omega arith) in
    walk-item (λ v. length v.left) next_unit_header next_unit_header-shrinks u v h (rw (left, read, next_unit_header) refl)

pub unit_headers_from-fault : (u : Unread) (flaw : Flaw) → 0 < length u.left → unit_header_at u ≡ Err flaw → unit_headers_from u ≡ only_fault (fault_of UnitHeaderRead Info u.place flaw)
unfolding unit_headers_from next_unit_header
unit_headers_from-fault u flaw some read =
    let left : eqb (length u.left) 0 ≡ false = ne_eqb _ _ (omega arith) in
    walk-fault (λ v. length v.left) next_unit_header next_unit_header-shrinks u _ (rw (left, read, next_unit_header) refl)
