-- What is known by the types that are kept.
use Rattle.std.proofs.Common.{◌≡◌, ℕ, ◌+◌, ◌≤◌, refl, sym, ap, subst, ◌∙◌, arith, List, [], ◌∷◌, ◌++◌, length, set, Bool, true, false, Option, Some, None, Ok, Vec, inl, inr}
use Rattle.std.specs.Prelude.{◌==◌, ◌⊎◌, cond, slice_get, IfSome}
use Rattle.std.specs.Ordering.{nat_cmp, is_eq}
use Rattle.std.specs.BTreeMap.{get}
use Rattle.std.specs.Cmp.{unsigned_tied}
use Rattle.std.specs.Global.{Global}
use Rattle.std.proofs.lemmas.Bool.{eq-eqb, eqb-true, ne_eqb}
use Rattle.dwc_rules.specs.Kept.{Placed}
use Rattle.dwc_rules.specs.Clones.{UnitSource}
use Rattle.dwc_rules.specs.TypeNames.{name_of, unknown}
use Rattle.dwc_source.specs.declared.source.CloneSource.{CloneSource}
use Rattle.dwc_types.specs.declared.type_entry.TypeEntry.{TypeEntry}
use Rattle.dwc_types.specs.declared.known_type.DerivedType.{DerivedType}
use Rattle.dwc_types.specs.declared.known_type.KnownTypes.{KnownTypes}
use Rattle.dwc_types.specs.declared.known_type.TypeStep.TheVariants.{Last}
use Rattle.dwc_source.specs.Sources.{IsEmitted, IsSource}
use Rattle.dwc_types.specs.TypeSteps.{ReadsStep}
use Rattle.dwc_types.specs.DerivedTypes.{at_walk, end_of, is_at, is_found, met_in}
use Rattle.dwc_types.specs.KnownNames.{IsAway, IsFresh, IsKept, KnowsTypes}
use Rattle.dwc_types.specs.TypeReads.{EndsSo, IsRead}
use Rattle.dwc_types.proofs.ChainWalkLaws.{turned}
use Rattle.dwc_types.proofs.DerivedTypeLaws.{at-behind, at-changed, stands-at, unmet-all}

some-is : {A : Type 0} (x y : A) → ◌≡◌ {A = Option A} (Some x) (Some y) → x ≡ y
some-is x y h = ap (λ o. elim o [ None ↦ x | Some z ↦ z ]) h

true_false : ◌≡◌ {A = Bool} true false → ⊥
true_false h = absurd (cc)

module _ (c : CloneSource) (s : UnitSource) where
  -- A derived type is read of which none was kept.
  pub keeps-derived : (old new : KnownTypes) (offset tag near : ℕ) (next : Option TypeEntry) → new.derived.items ≡ old.derived.items ++ record { offset = offset; tag = tag; next = next; near = near; walk = 0 } ∷ []
      → ((q : ℕ) → get nat_cmp new.places q ≡ cond (is_eq (nat_cmp offset q)) (Some (length old.derived.items)) (get nat_cmp old.places q)) → new.ends ≡ old.ends → new.walks ≡ old.walks
      → IsRead c s offset tag next → IsAway old.derived.items offset → KnowsTypes c s old → KnowsTypes c s new
  keeps-derived old new offset tag near next derived places ends walks read away known = record {
    derived = λ place t at. each place t (at-behind old.derived.items one t place (sym (ap (λ ts. slice_get ts place) derived) ∙ at));
    ends = λ q. subst (λ m. IfSome (get nat_cmp m q) (λ name. EndsSo c s q name.items)) (sym ends) (known.ends q);
  }
    where
      one : DerivedType
      one = record { offset = offset; tag = tag; next = next; near = near; walk = 0 }

      by : (q : ℕ) (b : Bool) → (offset == q) ≡ b → get nat_cmp new.places q ≡ cond b (Some (length old.derived.items)) (get nat_cmp old.places q)
      by q b is = places q ∙ ap (λ x. cond x (Some (length old.derived.items)) (get nat_cmp old.places q)) (unsigned_tied offset q ∙ is)

      each : (place : ℕ) (t : DerivedType) → (slice_get old.derived.items place ≡ Some t) ⊎ ((place ≡ length old.derived.items) × (one ≡ t)) → IsKept c s new place t
      each place t (inl at) =
          let k = known.derived place t at in
          let other : (offset == t.offset) ≡ false = turned offset t.offset ∙ sym (ap (λ o. is_found o offset) at) ∙ away place in
          record { read = k.read; stands = by t.offset false other ∙ k.stands; walk = subst (λ n. t.walk ≤ n) (sym walks) k.walk }
      each place t (inr is) = subst (λ x. IsKept c s new place x) is.1 (record {
        read = read;
        stands = by offset true (eq-eqb offset offset refl) ∙ ap (λ n. Some n) (sym is.0);
        walk = omega arith;
      })

  -- The name of one is kept that ends a chain.
  pub keeps-end : (old new : KnownTypes) (offset : ℕ) (v : Vec ℕ Global) (name : List ℕ) → v.items ≡ name → ((q : ℕ) → get nat_cmp new.ends q ≡ cond (is_eq (nat_cmp offset q)) (Some v) (get nat_cmp old.ends q)) → new.derived ≡ old.derived → new.places ≡ old.places → new.walks ≡ old.walks
      → EndsSo c s offset name → KnowsTypes c s old → KnowsTypes c s new
  keeps-end old new offset v name same at derived places walks ends known = record {
    derived = λ place t is.
        let k = known.derived place t (sym (ap (λ ts. slice_get ts.items place) derived) ∙ is) in
        record { read = k.read; stands = ap (λ m. get nat_cmp m t.offset) places ∙ k.stands; walk = subst (λ n. t.walk ≤ n) (sym walks) k.walk };
    ends = λ q. subst (λ o. IfSome o (λ x. EndsSo c s q x.items)) (sym (at q ∙ ap (λ b. cond b (Some v) (get nat_cmp old.ends q)) (unsigned_tied offset q))) (go q (offset == q) refl);
  }
    where
      go : (q : ℕ) (b : Bool) → (offset == q) ≡ b → IfSome (cond b (Some v) (get nat_cmp old.ends q)) (λ x. EndsSo c s q x.items)
      go q true is = subst (λ n. EndsSo c s n v.items) (eqb-true offset q is) (subst (EndsSo c s offset) (sym same) ends)
      go q false is = known.ends q

  -- A derived type is met on a chain.
  pub keeps-met : (old new : KnownTypes) (place walk : ℕ) (t : DerivedType) → new.derived.items ≡ set old.derived.items place (at_walk walk t) → new.places ≡ old.places → new.ends ≡ old.ends → new.walks ≡ old.walks → slice_get old.derived.items place ≡ Some t → walk ≤ old.walks
      → KnowsTypes c s old → KnowsTypes c s new
  keeps-met old new place walk t derived places ends walks at within known = record {
    derived = λ other x is. each other x (at-changed old.derived.items (at_walk walk t) x place other (sym (ap (λ ts. slice_get ts other) derived) ∙ is));
    ends = λ q. subst (λ m. IfSome (get nat_cmp m q) (λ name. EndsSo c s q name.items)) (sym ends) (known.ends q);
  }
    where
      each : (other : ℕ) (x : DerivedType) → (slice_get old.derived.items other ≡ Some x) ⊎ ((other ≡ place) × (at_walk walk t ≡ x)) → IsKept c s new other x
      each other x (inl is) =
          let k = known.derived other x is in
          record { read = k.read; stands = ap (λ m. get nat_cmp m x.offset) places ∙ k.stands; walk = subst (λ n. x.walk ≤ n) (sym walks) k.walk }
      each other x (inr is) =
          let k = known.derived place t at in
          subst (λ y. IsKept c s new other y) is.1 (record {
            read = k.read;
            stands = ap (λ m. get nat_cmp m t.offset) places ∙ k.stands ∙ ap (λ n. Some n) (sym is.0);
            walk = subst (λ n. walk ≤ n) (sym walks) within;
          })

  -- A chain more is counted.
  pub keeps-counted : (old new : KnownTypes) → new.derived ≡ old.derived → new.places ≡ old.places → new.ends ≡ old.ends → new.walks ≡ old.walks + 1 → KnowsTypes c s old → KnowsTypes c s new
  keeps-counted old new derived places ends walks known = record {
    derived = λ place t at.
        let k = known.derived place t (sym (ap (λ ts. slice_get ts.items place) derived) ∙ at) in
        record { read = k.read; stands = ap (λ m. get nat_cmp m t.offset) places ∙ k.stands; walk = omega (arith, k.walk, walks) };
    ends = λ q. subst (λ m. IfSome (get nat_cmp m q) (λ name. EndsSo c s q name.items)) (sym ends) (known.ends q);
  }

  -- On that none was met.
  pub fresh-counted : (kept : KnownTypes) (walk : ℕ) → walk ≡ kept.walks + 1 → KnowsTypes c s kept → IsFresh walk kept.derived.items
  fresh-counted kept walk is known offset = unmet-all walk kept.derived.items offset (λ place t at here. ne_eqb t.walk walk (λ same. omega (arith, same, is, (known.derived place t at).walk)))

  -- One that was not met on a chain is at an offset that was not met.
  pub unmet-kept : (kept : KnownTypes) (place walk offset : ℕ) (t : DerivedType) → slice_get kept.derived.items place ≡ Some t → (t.offset == offset) ≡ true → (t.walk == walk) ≡ false → KnowsTypes c s kept → met_in walk kept.derived.items offset ≡ false
  unmet-kept kept place walk offset t at here unmet known = unmet-all walk kept.derived.items offset each
    where
      each : (other : ℕ) (x : DerivedType) → slice_get kept.derived.items other ≡ Some x → (x.offset == offset) ≡ true → (x.walk == walk) ≡ false
      each other x is there =
          let same : x.offset ≡ t.offset = eqb-true x.offset offset there ∙ sym (eqb-true t.offset offset here) in
          let places : other ≡ place = some-is other place (sym (known.derived other x is).stands ∙ ap (get nat_cmp kept.places) same ∙ (known.derived place t at).stands) in
          let types : x ≡ t = some-is x t (sym is ∙ ap (slice_get kept.derived.items) places ∙ at) in
          ap (λ (y : DerivedType). y.walk == walk) types ∙ unmet

  -- None is at an offset, where none stands at the place that is noted of it.
  pub away-unless : (kept : KnownTypes) (offset : ℕ) → ((place : ℕ) → get nat_cmp kept.places offset ≡ Some place → is_at kept.derived.items place offset ≡ true → ⊥) → KnowsTypes c s kept → IsAway kept.derived.items offset
  away-unless kept offset none known place = go (is_at kept.derived.items place offset) refl
    where
      go : (b : Bool) → is_at kept.derived.items place offset ≡ b → is_at kept.derived.items place offset ≡ false
      go false is = is
      go true is =
          let x = stands-at kept.derived.items place offset is in
          absurd (none place (ap (get nat_cmp kept.places) (sym (eqb-true x.type.offset offset x.is)) ∙ (known.derived place x.type x.at).stands) is)

-- ---- what is read of a type

module _ (c : CloneSource) (s : UnitSource) (offset : ℕ) where
  pub ends-named : (text : List ℕ) → ((number : ℕ) (z : UnitSource) (f : Placed) → IsSource c number z → IsEmitted c z f → f.entry.offset ≡ offset → name_of z.texts f ≡ Ok (Some text)) → EndsSo c s offset text
  ends-named text step number f source emitted at = inl (step number s f source emitted at)

  pub ends-last : ReadsStep c offset (Ok Last) → EndsSo c s offset unknown
  ends-last step number f source emitted at =
      let g = step number s f source emitted at in
      inr (g.0, g.1, refl)

  pub ends-kept : (kept : KnownTypes) (v : Vec ℕ Global) → get nat_cmp kept.ends offset ≡ Some v → KnowsTypes c s kept → EndsSo c s offset (end_of kept offset)
  ends-kept kept v is known = go (get nat_cmp kept.ends offset) is (known.ends offset)
    where
      go : (o : Option (Vec ℕ Global)) → o ≡ Some v → IfSome o (λ x. EndsSo c s offset x.items) → EndsSo c s offset (elim o [ None ↦ unknown | Some x ↦ x.items ])
      go None is ends = absurd (cc)
      go (Some x) is ends = ends
