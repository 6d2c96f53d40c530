-- Goals of the units of a module by the numbers of their entries, and by the places of these.
use Rattle.std.proofs.Common.{◌≡◌, ℕ, suc, ◌+◌, ◌<◌, ◌≤◌, List, [], ◌∷◌, ◌++◌, length, map, get_or, refl, ap, ap₂, sym, subst, ◌∙◌, inl, inr, arith, Bool, true, false, cond, Option, Some, None}
use Rattle.std.specs.Prelude.{◌==◌, ◌&&◌, ◌||◌, option_map, option_and_then, IfSome, position}
use Rattle.std.specs.Option.{option_or, is_some}
use Rattle.std.specs.List.{list_any, AllZip}
use Rattle.std.proofs.lemmas.Bool.{true≢false, eqb-true, eq-eqb, lt-ltb, and_parts}
use Rattle.std.proofs.lemmas.Iterator.Adapters.{position_from-zero}
use Rattle.dwc_dwarf.specs.Trees.{place_among}
use Rattle.dwc_rules.specs.Drafts.{Role, itself, pointer_to_wrapper, reference_to_target, pointer_to_target, Goal, made_of, synthetic_entry, Draft}
use Rattle.dwc_rules.specs.DraftForests.{role_number, is_made_of, place_of_goal}
use Rattle.dwc_rules.specs.Carried.{Module}
use Rattle.dwc_native.specs.Compiled.{Memory, no_memory, defined, imported}
use Rattle.dwc_rules.specs.SyntheticUnit.{synthetic_unit, place_of_context_pointer, place_of_wasm_pointer}
use Rattle.dwc_rules.specs.Kept.{Placed}
use Rattle.dwc_rules.specs.KeptModules.{kept_in}
use Rattle.dwc_rules.specs.Wrappers.{is_wrapped}
use Rattle.dwc_rules.specs.CarriedDrafts.{source_of, carried_drafts}
use Rattle.dwc_rules.specs.ModuleDrafts.{expressions_of, module_drafts}
use Rattle.dwc_rules.specs.CarriedUnits.{kept_of}
use Rattle.dwc_base.proofs.InLists.{IsIn, any-in, in-filter}
use Rattle.dwc_rules.proofs.GoalsHave.{GoalsHave}
use Rattle.dwc_rules.proofs.MadePlaces.{many, is_source, made-many}
use Rattle.dwc_kept.specs.declared.kept_units.KeptModule.{KeptModule}
use Rattle.dwc_kept.specs.declared.read_unit.ReadUnit.{ReadUnit}
use Rattle.dwc_kept.specs.ReadUnits.{unit_read, IsKeptModule, is_carried_read}
use Rattle.dwc_kept.proofs.KeptGoals.{carried, inside, stands_in, drafted, offset-place, goal-unit, goal-at, made-some, many-any, position-none}
use Rattle.dwc_kept.proofs.KeptTypes.{with-any}

-- ---- lists

-- a list in front of an item, and behind it
record Parts {A : Type 0} (xs : List A) (x : A) : Type 0 where
  front : List A
  more : List A
  are : xs ≡ front ++ x ∷ more

parts-of : {A : Type 0} (xs : List A) (x : A) → IsIn x xs → Parts xs x
parts-of [] x i = absurd i
parts-of (y ∷ xs) x (inl e) = record { front = []; more = xs; are = ap (λ z. z ∷ xs) (sym e) }
parts-of (y ∷ xs) x (inr i) = let p = parts-of xs x i in record { front = y ∷ p.front; more = p.more; are = ap (λ zs. y ∷ zs) p.are }

-- what is said of two lists is said of two items at one place
zip-at : {A : Type 0} (R : A → ℕ → Type 0) (front more : List A) (x : A) (ns : List ℕ) → AllZip R (front ++ x ∷ more) ns → R x (get_or ns (length front) 0) × (length front < length ns)
zip-at R [] more x [] zip = absurd zip
zip-at R [] more x (n ∷ ns) zip = (zip.0, omega arith)
zip-at R (y ∷ front) more x [] zip = absurd zip
zip-at R (y ∷ front) more x (n ∷ ns) zip = let rest = zip-at R front more x ns zip.1 in (rest.0, omega (arith, rest.1))

-- where something is found, something passes
found-any : {A : Type 0} (t : A → Bool) (xs : List A) → is_some (position t xs) ≡ true → list_any t xs ≡ true
found-any t xs some = go (list_any t xs) refl
  where
    go : (b : Bool) → list_any t xs ≡ b → b ≡ true
    go true any = refl
    go false none = absurd (true≢false (sym some ∙ ap is_some (position_from-zero t xs ∙ position-none t 0 xs none)))

-- an item that passes is counted
many-in : {A : Type 0} (t : A → Bool) (xs : List A) (x : A) → IsIn x xs → t x ≡ true → 1 ≤ many t xs
many-in t [] x i passes = absurd i
many-in t (y ∷ xs) x (inl e) passes = rw (ap t (sym e) ∙ passes) (omega arith)
many-in t (y ∷ xs) x (inr i) passes = omega (arith, many-in t xs x i passes)

nothing-first : {A B : Type 0} (o : Option (A × B)) → option_map {T = A × B} (λ p. p.0) o ≡ None → o ≡ None
nothing-first None h = refl
nothing-first (Some p) h = absurd (cc)

not-some : {A : Type 0} (o : Option A) → is_some o ≡ false → o ≡ None
not-some None h = refl
not-some (Some x) h = absurd (true≢false h)

-- ---- what is made of an entry

role-same : (a b : Role) → role_number a ≡ role_number b → a ≡ b
role-same itself itself h = refl
role-same pointer_to_wrapper pointer_to_wrapper h = refl
role-same reference_to_target reference_to_target h = refl
role-same pointer_to_target pointer_to_target h = refl
role-same itself pointer_to_wrapper h = absurd (omega (arith, h))
role-same itself reference_to_target h = absurd (omega (arith, h))
role-same itself pointer_to_target h = absurd (omega (arith, h))
role-same pointer_to_wrapper itself h = absurd (omega (arith, h))
role-same pointer_to_wrapper reference_to_target h = absurd (omega (arith, h))
role-same pointer_to_wrapper pointer_to_target h = absurd (omega (arith, h))
role-same reference_to_target itself h = absurd (omega (arith, h))
role-same reference_to_target pointer_to_wrapper h = absurd (omega (arith, h))
role-same reference_to_target pointer_to_target h = absurd (omega (arith, h))
role-same pointer_to_target itself h = absurd (omega (arith, h))
role-same pointer_to_target pointer_to_wrapper h = absurd (omega (arith, h))
role-same pointer_to_target reference_to_target h = absurd (omega (arith, h))

origin-is : (offset : ℕ) (role : Role) (d : Draft) → is_made_of offset role d ≡ true → d.origin ≡ Some (offset, role)
origin-is offset role d made = go d.origin refl
  where
    tested : Option (ℕ × Role) → Bool
    tested None = false
    tested (Some o) = (o.0 == offset) && (role_number o.1 == role_number role)

    test-is : (d : Draft) (o : Option (ℕ × Role)) → d.origin ≡ o → is_made_of offset role d ≡ tested o
    test-is d None e = rw e refl
    test-is d (Some o) e = rw e refl

    go : (o : Option (ℕ × Role)) → d.origin ≡ o → d.origin ≡ Some (offset, role)
    go None e = absurd (true≢false (sym made ∙ test-is d None e))
    go (Some o) e =
        let both = and_parts (o.0 == offset) (role_number o.1 == role_number role) (sym (test-is d (Some o) e) ∙ made) in
        e ∙ ap₂ (λ (a : ℕ) (b : Role). Some (a, b)) (eqb-true o.0 offset both.0) (role-same o.1 role (eqb-true (role_number o.1) (role_number role) both.1))

-- ---- numbers

-- An entry that is made of one of the input in a role has the number that is told of it.
abbrev pub HasNumber : (Goal → Option (ℕ × ℕ)) → ℕ → Draft → ℕ → Type 0
HasNumber goals number d n = IfSome d.origin (λ o. goals (made_of o.0 o.1) ≡ Some (number, n))

-- Entries have some numbers, each leading to its place.
pub record AreAtNumbers (at : ℕ → ℕ → Option (ℕ × ℕ)) (goals : Goal → Option (ℕ × ℕ)) (number : ℕ) (ds : List Draft) : Type 0 where
  pub numbers : List ℕ
  pub places : (place : ℕ) → place < length numbers → at number (get_or numbers place 0) ≡ Some (number, place)
  pub told : AllZip (HasNumber goals number) ds numbers

-- A goal has a number exactly where it has a place, which is that of the number.
abbrev pub IsPut : (ℕ → ℕ → Option (ℕ × ℕ)) → (Goal → Option (ℕ × ℕ)) → (Goal → Option (ℕ × ℕ)) → Goal → Type 0
IsPut at numbers places goal = (is_some (places goal) ≡ is_some (numbers goal)) × (option_and_then (λ p. at p.0 p.1) (numbers goal) ≡ places goal)

put-there : (at : ℕ → ℕ → Option (ℕ × ℕ)) (numbers places : Goal → Option (ℕ × ℕ)) (goal : Goal) (n p : ℕ × ℕ) → numbers goal ≡ Some n → places goal ≡ Some p → at n.0 n.1 ≡ Some p → IsPut at numbers places goal
put-there at numbers places goal n p is where_is there = (ap is_some where_is ∙ sym (ap is_some is), ap (option_and_then (λ x. at x.0 x.1)) is ∙ there ∙ sym where_is)

put-same : (at : ℕ → ℕ → Option (ℕ × ℕ)) (numbers others places : Goal → Option (ℕ × ℕ)) (goal : Goal) → numbers goal ≡ others goal → IsPut at numbers places goal → IsPut at others places goal
put-same at numbers others places goal same put = (put.0 ∙ ap is_some same, sym (ap (option_and_then (λ p. at p.0 p.1)) same) ∙ put.1)

put-nowhere : (at : ℕ → ℕ → Option (ℕ × ℕ)) (numbers places : Goal → Option (ℕ × ℕ)) (goal : Goal) → numbers goal ≡ None → places goal ≡ None → IsPut at numbers places goal
put-nowhere at numbers places goal no_number no_place = (ap is_some no_place ∙ sym (ap is_some no_number), ap (option_and_then (λ p. at p.0 p.1)) no_number ∙ sym no_place)

-- no entry of the module's synthetic unit is made of one
pub synthetic-apart : (offset : ℕ) (role : Role) (set_memory : List ℕ) (memory : Memory) → position (is_made_of offset role) (synthetic_unit set_memory memory) ≡ None
unfolding synthetic_unit
synthetic-apart offset role set_memory (defined o) = refl
synthetic-apart offset role set_memory no_memory = refl
synthetic-apart offset role set_memory (imported definition base) = refl

-- the places of the synthetic unit that others refer to are there
synthetic-pointers : (set_memory : List ℕ) (memory : Memory) → (place_of_context_pointer memory < length (synthetic_unit set_memory memory)) × (place_of_wasm_pointer memory < length (synthetic_unit set_memory memory))
unfolding synthetic_unit
synthetic-pointers set_memory (defined o) = (omega arith, omega arith)
synthetic-pointers set_memory no_memory = (omega arith, omega arith)
synthetic-pointers set_memory (imported definition base) = (omega arith, omega arith)

module _ (c : Module) (m : KeptModule) (is : IsKeptModule c.functions c.sections m) (big_endian : Bool) (first : ℕ) (at : ℕ → ℕ → Option (ℕ × ℕ)) (goals : ℕ → Goal → Option (ℕ × ℕ)) where
  abbrev drafts : ReadUnit → List Draft
  drafts r = drafted (expressions_of c) big_endian c r

  abbrev places : Goal → Option (ℕ × ℕ)
  places = place_of_goal first (module_drafts big_endian c)

  -- where the offsets of kept entries stand among those of the carried units
  abbrev place_kept : ℕ → Option (ℕ × ℕ)
  place_kept offset = place_among (λ k. k == offset) (suc first) (map (inside m.kept) (carried m))

  -- what is made of entries is looked for in the carried units
  place-carried : (offset : ℕ) (role : Role) → places (made_of offset role) ≡ place_among (is_made_of offset role) (suc first) (carried_drafts (expressions_of c) big_endian (kept_of c))
  place-carried offset role = ap (λ (o : Option ℕ). option_or (option_map (λ place. (first, place)) o) (place_among (is_made_of offset role) (suc first) (carried_drafts (expressions_of c) big_endian (kept_of c)))) (synthetic-apart offset role c.told.names.set_memory c.told.memory)

  -- Each carried unit has numbers, and an entry itself the one that its offset has among the kept ones.
  pub record AreNumberedUnits : Type 0 where
    pub units : (front more : List ReadUnit) (r : ReadUnit) → carried m ≡ front ++ r ∷ more → AreAtNumbers at (goals (suc first + length front)) (suc first + length front) (drafts r)
    pub kept : (number offset : ℕ) → goals number (made_of offset itself) ≡ place_kept offset
    pub synthetic : (number place : ℕ) → goals number (synthetic_entry place) ≡ Some (first, place)
    pub synthetic_there : (place : ℕ) → place < length (synthetic_unit c.told.names.set_memory c.told.memory) → at first place ≡ Some (first, place)

  module _ (numbered : AreNumberedUnits) where
    -- what is made of an entry in a role in a carried unit has a number there that leads to its place
    made-put : (front more : List ReadUnit) (r : ReadUnit) → carried m ≡ front ++ r ∷ more → (offset : ℕ) (role : Role) → list_any (is_made_of offset role) (drafts r) ≡ true
        → IsPut at (goals (suc first + length front)) places (made_of offset role)
    made-put front more r units_are offset role some =
        let found = any-in (is_made_of offset role) (drafts r) some in
        let parts = parts-of (drafts r) found.0 found.1 in
        let unit = suc first + length front in
        let known = numbered.units front more r units_are in
        let told = zip-at (HasNumber (goals unit) unit) parts.front parts.more found.0 known.numbers (subst (λ (ds : List Draft). AllZip (HasNumber (goals unit) unit) ds known.numbers) parts.are known.told) in
        let goal : goals unit (made_of offset role) ≡ Some (unit, get_or known.numbers (length parts.front) 0) = subst (λ (o : Option (ℕ × Role)). IfSome o (λ x. goals unit (made_of x.0 x.1) ≡ Some (unit, get_or known.numbers (length parts.front) 0))) (origin-is offset role found.0 found.2) told.0 in
        put-there at (goals unit) places (made_of offset role) (unit, get_or known.numbers (length parts.front) 0) (unit, length parts.front)
        goal
        (place-carried offset role ∙ goal-at c m is offset (expressions_of c) big_endian role (suc first) front more r units_are parts.front parts.more found.0 parts.are found.2)
        (known.places (length parts.front) told.1)

    -- what an entry itself becomes, looked for from any unit
    itself-put : (number offset : ℕ) → IsPut at (goals number) places (made_of offset itself)
    itself-put number offset = go (list_any (stands_in m.kept offset) (carried m)) refl
      where
        go : (b : Bool) → list_any (stands_in m.kept offset) (carried m) ≡ b → IsPut at (goals number) places (made_of offset itself)
        go true some =
            let found = any-in (stands_in m.kept offset) (carried m) some in
            let parts = parts-of (carried m) found.0 found.1 in
            let unit = suc first + length parts.front in
            put-same at (goals unit) (goals number) places (made_of offset itself) (numbered.kept unit offset ∙ sym (numbered.kept number offset))
            (made-put parts.front parts.more found.0 parts.are offset itself
            (found-any (is_made_of offset itself) (drafts found.0) (made-some c m is offset (expressions_of c) big_endian found.0 (in-filter (is_carried_read m.kept) m.units.items found.0 found.1).0 found.2)))
        go false none = put-nowhere at (goals number) places (made_of offset itself) (numbered.kept number offset ∙ nowhere) (place-carried offset itself ∙ not-made)
          where
            some-where : (b : Bool) → is_some (place_kept offset) ≡ b → b ≡ false
            some-where false h = refl
            some-where true h =
                absurd (true≢false (sym (with-any (stands_in m.kept offset) (λ r. position (λ k. k == offset) (inside m.kept r)) (suc first) (carried m) (sym (ap is_some (offset-place c m is offset (suc first))) ∙ h)) ∙ none))

            nowhere : place_kept offset ≡ None
            nowhere = not-some (place_kept offset) (some-where (is_some (place_kept offset)) refl)

            not-made : place_among (is_made_of offset itself) (suc first) (carried_drafts (expressions_of c) big_endian (kept_of c)) ≡ None
            not-made = nothing-first (place_among (is_made_of offset itself) (suc first) (carried_drafts (expressions_of c) big_endian (kept_of c))) (goal-unit c m is offset (expressions_of c) big_endian (suc first) ∙ ap (option_map {T = ℕ × ℕ} (λ x. x.0)) nowhere)

    -- what a wrapped entry of a unit becomes in any role
    wrapped-put : (front more : List ReadUnit) (r : ReadUnit) → carried m ≡ front ++ r ∷ more → (e : Placed) → IsIn e (kept_in (kept_of c) (unit_read c.sections r.unit.header)) → is_wrapped c.told.output e ≡ true → (role : Role)
        → IsPut at (goals (suc first + length front)) places (made_of e.entry.offset role)
    wrapped-put front more r units_are e i wrapped role =
        let u = unit_read c.sections r.unit.header in
        let source : is_source c.told.output e.entry.offset role e ≡ true = ap₂ (λ (a b : Bool). a && (b || (role_number role == 0))) (eq-eqb e.entry.offset e.entry.offset refl) wrapped in
        made-put front more r units_are e.entry.offset role
        (many-any (is_made_of e.entry.offset role) (drafts r)
        (subst (λ n. 1 ≤ n) (sym (made-many (expressions_of c u) (source_of (kept_of c) u) big_endian e.entry.offset role (kept_in (kept_of c) u))) (many-in (is_source c.told.output e.entry.offset role) (kept_in (kept_of c) u) e i source)))

    -- an entry of the module's synthetic unit
    synthetic-put : (number place : ℕ) → place < length (synthetic_unit c.told.names.set_memory c.told.memory) → IsPut at (goals number) places (synthetic_entry place)
    synthetic-put number place within =
        put-there at (goals number) places (synthetic_entry place) (first, place) (first, place) (numbered.synthetic number place)
        (ap (λ b. cond {A = Option (ℕ × ℕ)} b (Some (first, place)) None) (lt-ltb place (length (synthetic_unit c.told.names.set_memory c.told.memory)) within))
        (numbered.synthetic_there place within)

    -- The numbers of all goals of a carried unit lead to their places.
    pub goals-put : (front more : List ReadUnit) (r : ReadUnit) → carried m ≡ front ++ r ∷ more
        → GoalsHave (IsPut at (goals (suc first + length front)) places) c.told.output c.told.memory (kept_in (kept_of c) (unit_read c.sections r.unit.header))
    goals-put front more r units_are =
        let synthetic = synthetic-pointers c.told.names.set_memory c.told.memory in
        let unit = suc first + length front in
        record {
          plain = itself-put unit;
          wrapped = wrapped-put front more r units_are;
          context = synthetic-put unit (place_of_context_pointer c.told.memory) synthetic.0;
          address = synthetic-put unit (place_of_wasm_pointer c.told.memory) synthetic.1;
        }
