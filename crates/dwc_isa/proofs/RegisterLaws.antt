-- Registers as a finite map, as a table and as an ordered map.
use Rattle.std.proofs.Common.{◌≡◌, ℕ, ◌-◌, ◌+◌, ◌<◌, ◌≤◌, refl, sym, ◌∙◌, arith, rules, List, [], ◌∷◌, length, drop, get_or, Some, nat_cmp}
use Rattle.std.specs.Prelude.{cond}
use Rattle.std.specs.Ordering.{is_eq}
use Rattle.std.proofs.lemmas.List.{at_drop_more}
use Rattle.std.specs.BTreeMap.{is_at}
use Rattle.std.specs.Map.{lookup}
use Rattle.std.specs.Cmp.{nat_cmp_total}
use Rattle.std.specs.FinMap as finite
use Rattle.std.specs.FinMap.{get-empty, get-insert, nat_cmp-IsAntisymmetric, same_map}
use Rattle.dwc_isa.specs.declared.reg.Reg.{Reg}
use Rattle.dwc_isa.specs.Registers.{registers_of, number_in}

-- the finite map of entries finds what a scan finds
pub get-entries : (es : List (ℕ × ℕ)) (q : ℕ) → finite.get (finite.from_entries {R = nat_cmp} es) q ≡ lookup (is_at (nat_cmp q)) es
get-entries [] q = get-empty nat_cmp q
get-entries (e ∷ es) q = rw (get-insert nat_cmp_total (finite.from_entries es) e.0 e.1 q, get-entries es q) refl

-- and so does that of a table
pub get-registers : (table : List (Reg × ℕ)) (q : ℕ) → finite.get (registers_of table) q ≡ number_in table q
get-registers [] q = get-empty nat_cmp q
get-registers (r ∷ rs) q = rw (get-insert nat_cmp_total (registers_of rs) (r.0).0 r.1 q, get-registers rs q) (search rules)

-- entries that answer as a table does are its finite map
pub same-registers : (es : List (ℕ × ℕ)) (table : List (Reg × ℕ)) → ((q : ℕ) → lookup (is_at (nat_cmp q)) es ≡ number_in table q) → finite.from_entries es ≡ registers_of table
same-registers es table is = same_map nat_cmp_total nat_cmp-IsAntisymmetric (finite.from_entries es) (registers_of table) (λ q. get-entries es q ∙ is q ∙ sym (get-registers table q))

-- the entry before the k-th decides its register's number
pub number_in-before : (table : List (Reg × ℕ)) (k : ℕ) (d : Reg × ℕ) (q : ℕ) → 0 < k → k ≤ length table
    → cond (is_eq (nat_cmp ((get_or table (k - 1) d).0).0 q)) (Some (get_or table (k - 1) d).1) (number_in (drop k table) q) ≡ number_in (drop (k - 1) table) q
number_in-before table k d q some inside =
    let e : (k - 1) + 1 ≡ k = omega (arith, some) in
    rw (at_drop_more (λ t. number_in t q) table (k - 1) d (omega (arith, some, inside)), e) (search rules)
