-- The numbers of functions, module by module.
use Rattle.std.proofs.Common.{◌≡◌, ℕ, zero, suc, ◌+◌, ◌<◌, ◌≤◌, ◌^◌, refl, sym, ap, ◌∙◌, subst, arith, List, [], ◌∷◌, length, get_or}
use Rattle.std.specs.Prelude.{Vec}
use Rattle.std.specs.Global.{Global}
use Rattle.std.proofs.lemmas.List.{length-map}
use Rattle.std.proofs.Math.ListN.{get_or-map}
use Rattle.dwc_base.specs.declared.translation.ModuleTranslation.{ModuleTranslation}
use Rattle.dwc_isa.specs.declared.memory_offset.ModuleMemoryOffset.{ModuleMemoryOffset}
use Rattle.dwc_addr.specs.Numbers.{Compiled, function_count, numbers_from, first_number}
use Rattle.dwc_addr.specs.Compilations.{lists, IsCounted}

-- there are as many lists of functions as modules
pub as-many : (ts : List ModuleTranslation) (modules : List (List Compiled)) (os : List ModuleMemoryOffset) → IsCounted ts modules os → length modules ≡ length ts
as-many ts modules os h = sym (length-map modules length) ∙ ap length h.defined ∙ length-map ts (λ t. t.defined_funcs)

pub module-inside : (k : ℕ) (ts : List ModuleTranslation) (modules : List (List Compiled)) (os : List ModuleMemoryOffset) → IsCounted ts modules os → k < length ts → k < length modules
module-inside k ts modules os h inside = subst (λ n. k < n) (sym (as-many ts modules os h)) inside

pub length-numbers : (n : ℕ) (modules : List (List Compiled)) → length (numbers_from n modules) ≡ length modules
length-numbers n [] = refl
length-numbers n (fs ∷ modules) = ap suc (length-numbers (n + length fs) modules)

number-from : (n : ℕ) (modules : List (List Compiled)) (k x : ℕ) → k < length modules → x ≡ get_or (numbers_from n modules) k x → x ≡ n + first_number modules k
number-from n [] k x inside is = absurd (omega (arith, inside))
number-from n (fs ∷ modules) zero x inside is = omega (arith, is)
number-from n (fs ∷ modules) (suc k) x inside is = omega (arith, number-from (n + length fs) modules k x (omega (arith, inside)) is)

-- the number at a module's place is that of its first function
pub number-at : (modules : List (List Compiled)) (k x : ℕ) → k < length modules → x ≡ get_or (numbers_from 0 modules) k x → x ≡ first_number modules k
number-at modules k x inside is = omega (arith, number-from 0 modules k x inside is)

-- the functions of a module are among all
pub count-within : (modules : List (List Compiled)) (k : ℕ) (d : List Compiled) → k < length modules → first_number modules k + length (get_or modules k d) ≤ function_count modules
count-within [] k d inside = absurd (omega (arith, inside))
count-within (fs ∷ modules) zero d inside = omega arith
count-within (fs ∷ modules) (suc k) d inside = omega (arith, count-within modules k d (omega (arith, inside)))

pub few-behind : (modules : List (List Compiled)) (k x : ℕ) → k < length modules → x ≡ first_number modules k → function_count modules < 2 ^ 32 → x + length (get_or modules k []) < 2 ^ 32
few-behind modules k x inside is few = omega (arith, count-within modules k [] inside, is, few)

pub few-at : (vs : List (Vec Compiled Global)) (k : ℕ) (v : Vec Compiled Global) → k < length (lists vs) → v ≡ get_or vs k v → function_count (lists vs) < 2 ^ 32 → length v.items < 2 ^ 32
few-at vs k v inside is few =
    let e : get_or (lists vs) k v.items ≡ v.items = get_or-map (λ x. x.items) vs k v ∙ ap (λ x. x.items) (sym is) in
    omega (arith, subst (λ fs. first_number (lists vs) k + length fs ≤ function_count (lists vs)) e (count-within (lists vs) k v.items inside), few)
