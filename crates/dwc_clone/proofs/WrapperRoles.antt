-- The numbers of the types behind wrappers, for a whole unit.
use Rattle.std.proofs.Common.{◌≡◌, ◌≢◌, ℕ, suc, ◌+◌, ◌<◌, refl, sym, ap, ◌∙◌, arith, List, [], ◌∷◌, eq-eqb, Option, Some, None}
use Rattle.std.specs.Prelude.{◌==◌, if◌then◌else◌, slice_get}
use Rattle.std.proofs.lemmas.Bool.{ne_eqb}
use Rattle.dwc_dwarf.specs.Entries.{Entry}
use Rattle.dwc_rules.specs.Kept.{Placed}
use Rattle.dwc_rules.specs.Clones.{UnitSource}
use Rattle.dwc_rules.specs.Drafts.{Role, itself, pointer_to_target, pointer_to_wrapper, reference_to_target}
use Rattle.dwc_isa.specs.Registers.{Registers}
use Rattle.dwc_source.specs.declared.source.CloneSource.{CloneSource}
use Rattle.dwc_clone.specs.BuiltUnits.{AreRoles, numbers_taken}
use Rattle.dwc_clone.specs.ClonedUnits.{placed_in}
use Rattle.dwc_source.specs.Sources.{placed_entry}
use Rattle.dwc_source.specs.OutputPlaces.{place_of}

-- the number of a type of a wrapper, of which the first has one
abbrev role_from : ℕ → Role → Option ℕ
role_from first itself = None
role_from first pointer_to_wrapper = Some first
role_from first reference_to_target = Some (suc first)
role_from first pointer_to_target = Some (suc (suc first))

module _ (registers : Registers) (c : CloneSource) (s : UnitSource) where
  abbrev p_of : Entry → Placed
  p_of e = placed_entry c e

  -- the numbers of the roles of some entries, of which the first takes numbers from one on
  abbrev pub roles_from : ℕ → List Entry → ℕ → Role → Option ℕ
  roles_from first [] offset role = None
  roles_from first (e ∷ es) offset role = if e.offset == offset then role_from first role else roles_from (first + numbers_taken registers c s (p_of e)) es offset role

  -- Entries stand in the output one behind another.
  abbrev AreFrom : ℕ → ℕ → List Entry → Type 0
  AreFrom number first es = (i : ℕ) (e : Entry) → slice_get es i ≡ Some e → place_of c.places.now e.offset ≡ Some (number, first + i)

  apart : (number first i : ℕ) (e x : Entry) → place_of c.places.now e.offset ≡ Some (number, first + 0) → place_of c.places.now x.offset ≡ Some (number, first + suc i) → e.offset ≢ x.offset
  apart number first i e x here there same = clash (first + 0) (first + suc i) (sym here ∙ ap (place_of c.places.now) same ∙ there) (omega arith)
    where
      second : Option (ℕ × ℕ) → ℕ
      second None = 0
      second (Some p) = p.1

      clash : (n m : ℕ) → ◌≡◌ {A = Option (ℕ × ℕ)} (Some (number, n)) (Some (number, m)) → n < m → ⊥
      clash n m is less = omega (arith, ap second is, less)

  roles-are : (number place first : ℕ) (es : List Entry) (roles : ℕ → Role → Option ℕ) → AreFrom number place es → ((i : ℕ) (e : Entry) → slice_get es i ≡ Some e → (role : Role) → roles e.offset role ≡ roles_from first es e.offset role)
      → AreRoles registers c s roles first (placed_in c.unit.now.header.offset es)
  roles-are number place first [] roles stand agree = tt
  roles-are number place first (e ∷ es) roles stand agree =
      let here : (role : Role) → roles e.offset role ≡ role_from first role = λ role. agree 0 e refl role ∙ ap (λ b. if b then role_from first role else roles_from (first + numbers_taken registers c s (p_of e)) es e.offset role) (eq-eqb e.offset e.offset refl) in (
        λ wrapped. (here pointer_to_wrapper, here reference_to_target, here pointer_to_target),
        roles-are number (suc place) (first + numbers_taken registers c s (p_of e)) es roles (λ i x at. stand (suc i) x at ∙ ap (λ n. Some (number, n)) (omega arith))
            (λ i x at role. agree (suc i) x at role ∙ ap (λ b. if b then role_from first role else roles_from (first + numbers_taken registers c s (p_of e)) es x.offset role) (ne_eqb e.offset x.offset (apart number place i e x (stand 0 e refl) (stand (suc i) x at)))),
      )

  -- Those of all entries of a unit are so.
  pub unit-roles : (number first : ℕ) (es : List Entry) → ((i : ℕ) (e : Entry) → slice_get es i ≡ Some e → place_of c.places.now e.offset ≡ Some (number, i)) → AreRoles registers c s (roles_from first es) first (placed_in c.unit.now.header.offset es)
  unit-roles number first es stand = roles-are number 0 first es (roles_from first es) (λ i e at. stand i e at ∙ ap (λ n. Some (number, n)) (omega arith)) (λ i e at role. refl)
