-- The name along a chain that comes to an end or to a ring, and the chains that are made of others by a type more.
use Rattle.std.proofs.Common.{◌≡◌, ℕ, suc, ◌≤◌, refl, sym, ap, ◌∙◌, arith, List, [], ◌∷◌, ◌++◌, length, Bool, true, false, is_some, Option, Some, None, Result, Ok, inl, inr}
use Rattle.std.specs.Prelude.{◌==◌, ◌||◌, ◌≢◌, ◌⊎◌, if◌then◌else◌, option_map}
use Rattle.std.specs.Option.{unwrap_or}
use Rattle.std.proofs.lemmas.Bool.{eq-eqb, eqb-true, ne_eqb}
use Rattle.dwc_base.specs.Reading.{◌>>=◌}
use Rattle.dwc_base.specs.Sections.{Fault}
use Rattle.dwc_rules.specs.Kept.{Placed}
use Rattle.dwc_rules.specs.Clones.{UnitSource}
use Rattle.dwc_rules.specs.TypeNames.{derived_name, name_of, type_name, type_of, unknown}
use Rattle.dwc_dwarf.specs.Values.{is_one_of}
use Rattle.dwc_rules.proofs.NameSteps.{if_unmet, name-next, name-start, name_from, name_next, with_tag, with_tags}
use Rattle.dwc_source.specs.declared.source.CloneSource.{CloneSource}
use Rattle.dwc_source.specs.Sources.{IsEmitted, IsSource}
use Rattle.dwc_types.specs.declared.type_entry.TypeEntry.{TypeEntry}
use Rattle.dwc_types.specs.declared.known_type.TypeStep.TheVariants.{Derived}
use Rattle.dwc_types.specs.KeyedTypes.{IsChain, IsNamedAlong, NamesNext, over_name}
use Rattle.dwc_types.specs.TypeChains.{named_chain, type_view}
use Rattle.dwc_types.specs.TypeReads.{EndsSo, IsRead}
use Rattle.dwc_types.specs.TypeRings.{offsets_of, tags_of}
use Rattle.dwc_types.specs.TypeSteps.{GivesStep}
use Rattle.dwc_types.proofs.ChainWalkLaws.{with-chain, with-parts}
use Rattle.dwc_types.proofs.RingLaws.{absent-outside, again-named}
use Rattle.dwc_types.proofs.TypeFoundLaws.{HasType, alike-name, has-type, no-type, one-entry}
use Rattle.dwc_types.proofs.TypeRingLaws.{type-alike}

true_false : ◌≡◌ {A = Bool} true false → ⊥
true_false h = absurd (cc)

none_some : {A : Type 0} (x : A) → ◌≡◌ {A = Option A} None (Some x) → ⊥
none_some x h = absurd (cc)

-- A tag more at the end.
with-last : (tags : List ℕ) (tag : ℕ) (name : List ℕ) → with_tags (tags ++ tag ∷ []) name ≡ with_tags tags (with_tag tag name)
with-last [] tag name = refl
with-last (t ∷ tags) tag name = ap (with_tag t) (with-last tags tag name)

-- ---- no entry is met twice on the way to an end

-- An entry ends a chain.
abbrev Ends : UnitSource → Placed → List ℕ → Type 0
Ends s z name = (name_of s.texts z ≡ Ok (Some name)) ⊎ ((name_of s.texts z ≡ Ok None) × (derived_name z.entry.tag ≡ None) × (name ≡ unknown))

module _ (c : CloneSource) (number : ℕ) (s : UnitSource) (source : IsSource c number s) where
  -- It is no type that is derived from another.
  end-apart : (y z : Placed) (name : List ℕ) → IsEmitted c s y → IsEmitted c s z → name_of s.texts y ≡ Ok None → is_some (derived_name y.entry.tag) ≡ true → Ends s z name → y.entry.offset ≡ z.entry.offset → ⊥
  end-apart y z name y_here z_here unnamed derived (inl named) same =
      let like = one-entry c number s y z source y_here z_here same in
      absurd (ok-none (sym unnamed ∙ alike-name s.texts y z like ∙ named))
    where
      ok-none : ◌≡◌ {A = Result (Option (List ℕ)) Fault} (Ok None) (Ok (Some name)) → ⊥
      ok-none h = absurd (cc)
  end-apart y z name y_here z_here unnamed derived (inr last) same =
      let like = one-entry c number s y z source y_here z_here same in
      absurd (true_false (sym derived ∙ ap (λ tag. is_some (derived_name tag)) like.tag ∙ ap is_some last.1))

  -- Chains that begin with the same type are equally long.
  same-length : (x w : Placed) (ys ws : List Placed) (a b : ℕ) (m n : List ℕ) → type_of s.entries x ≡ type_of s.entries w → IsChain c s x ys a m → IsChain c s w ws b n → length ys ≡ length ws
  same-length x w [] [] a b m n same one other = refl
  same-length x w [] (v ∷ ws) a b m n same (inl last) other = absurd (none_some v (sym last.0 ∙ same ∙ other.0.is))
  same-length x w [] (v ∷ ws) a b m n same (inr e) other =
      let at : e.found ≡ v = ap (λ o. unwrap_or o v) (sym e.is ∙ same ∙ other.0.is) in
      absurd (end-apart v e.found m other.0.emitted e.emitted other.0.unnamed other.0.derived e.ends (ap (λ (p : Placed). p.entry.offset) (sym at)))
  same-length x w (y ∷ ys) [] a b m n same one (inl last) = absurd (none_some y (sym last.0 ∙ sym same ∙ one.0.is))
  same-length x w (y ∷ ys) [] a b m n same one (inr e) =
      let at : e.found ≡ y = ap (λ o. unwrap_or o y) (sym e.is ∙ sym same ∙ one.0.is) in
      absurd (end-apart y e.found n one.0.emitted e.emitted one.0.unnamed one.0.derived e.ends (ap (λ (p : Placed). p.entry.offset) (sym at)))
  same-length x w (y ∷ ys) (v ∷ ws) a b m n same one other =
      let at : y ≡ v = ap (λ o. unwrap_or o v) (sym one.0.is ∙ same ∙ other.0.is) in
      ap suc (same-length y v ys ws a b one.0.inner other.0.inner (ap (type_of s.entries) at) one.1 other.1)

  -- An entry is none of those of a chain that is no longer than its own.
  absent-later : (o : Placed) (os : List Placed) (a : ℕ) (m : List ℕ) → IsEmitted c s o → IsChain c s o os a m → (x : Placed) (ys : List Placed) (b : ℕ) (n : List ℕ) → IsChain c s x ys b n → length ys ≤ length os → is_one_of (offsets_of ys) o.entry.offset ≡ false
  absent-later o os a m here own x [] b n chain shorter = refl
  absent-later o os a m here own x (y ∷ ys) b n chain shorter = go (y.entry.offset == o.entry.offset) refl (absent-later o os a m here own y ys b chain.0.inner chain.1 (omega (arith, shorter)))
    where
      go : (t : Bool) → (y.entry.offset == o.entry.offset) ≡ t → is_one_of (offsets_of ys) o.entry.offset ≡ false → (t || is_one_of (offsets_of ys) o.entry.offset) ≡ false
      go false other rest = rest
      go true same rest =
          let long = same-length y o ys os b a chain.0.inner m (type-alike c number s source y o chain.0.emitted here (eqb-true y.entry.offset o.entry.offset same)) chain.1 own in
          absurd (omega (arith, shorter, long))

  -- ---- the name along a chain

  -- No entry of a chain was met.
  abbrev Apart : List ℕ → List Placed → Type 0
  Apart met [] = Unit {0}
  Apart met (y ∷ ys) = (is_one_of met y.entry.offset ≡ false) × Apart met ys

  neither : (a b : Bool) → (a || b) ≡ false → (a ≡ false) × (b ≡ false)
  neither false b is = (refl, is)
  neither true b is = absurd (cc)

  turned : (a b : ℕ) → (a == b) ≡ false → (b == a) ≡ false
  turned a b other = ne_eqb b a (λ same. true_false (sym (eq-eqb a b (sym same)) ∙ other))

  apart-one : (offset : ℕ) (ys : List Placed) → is_one_of (offsets_of ys) offset ≡ false → Apart (offset ∷ []) ys
  apart-one offset [] none = tt
  apart-one offset (y ∷ ys) none =
      let both = neither (y.entry.offset == offset) (is_one_of (offsets_of ys) offset) none in
      (ap (λ b. b || false) (turned y.entry.offset offset both.0), apart-one offset ys both.1)

  apart-more : (met : List ℕ) (offset : ℕ) (ys : List Placed) → is_one_of (offsets_of ys) offset ≡ false → Apart met ys → Apart (offset ∷ met) ys
  apart-more met offset [] none apart = tt
  apart-more met offset (y ∷ ys) none apart =
      let both = neither (y.entry.offset == offset) (is_one_of (offsets_of ys) offset) none in
      (ap (λ b. b || is_one_of met y.entry.offset) (turned y.entry.offset offset both.0) ∙ apart.0, apart-more met offset ys both.1 apart.1)

  -- what follows where a type is met
  abbrev follows : List ℕ → List ℕ → Placed → Result (List ℕ) Fault
  follows met tags f = name_from s.texts s.entries (f.entry.offset ∷ met) (tags ++ f.entry.tag ∷ []) f

  by-end : (tags : List ℕ) (z : Placed) (name : List ℕ) (others : Placed → Result (List ℕ) Fault) → Ends s z name → name_next s.texts tags (Some z) others ≡ Ok (with_tags tags name)
  by-end tags z name others (inl named) = ap (λ r. r >>= λ n. elim n [ Some m ↦ Ok (with_tags tags m) | None ↦ (elim (derived_name z.entry.tag) [ None ↦ Ok (with_tags tags unknown) | Some derived ↦ others z ]) ]) named
  by-end tags z name others (inr last) =
      ap (λ r. r >>= λ n. elim n [ Some m ↦ Ok (with_tags tags m) | None ↦ (elim (derived_name z.entry.tag) [ None ↦ Ok (with_tags tags unknown) | Some derived ↦ others z ]) ]) last.0
      ∙ ap (λ (d : Option (List ℕ → List ℕ)). elim d [ None ↦ Ok (with_tags tags unknown) | Some derived ↦ others z ]) last.1
      ∙ ap (λ n. Ok (with_tags tags n)) (sym last.2)

  by-link : (tags : List ℕ) (f : Placed) (others : Placed → Result (List ℕ) Fault) → name_of s.texts f ≡ Ok None → is_some (derived_name f.entry.tag) ≡ true → name_next s.texts tags (Some f) others ≡ others f
  by-link tags f others unnamed derived = ap (λ r. r >>= λ name. elim name [ Some n ↦ Ok (with_tags tags n) | None ↦ by (derived_name f.entry.tag) ]) unnamed ∙ go (derived_name f.entry.tag) derived
    where
      by : Option (List ℕ → List ℕ) → Result (List ℕ) Fault
      by d = elim d [ None ↦ Ok (with_tags tags unknown) | Some derived ↦ others f ]

      go : (d : Option (List ℕ → List ℕ)) → is_some d ≡ true → (elim d [ None ↦ Ok (with_tags tags unknown) | Some derived ↦ others f ]) ≡ others f
      go None is = absurd (cc)
      go (Some derived) is = refl

  -- No entry at an offset that ends a chain was met.
  abbrev IsFree : List ℕ → ℕ → Type 0
  IsFree met offset = (z : Placed) (name : List ℕ) → IsEmitted c s z → Ends s z name → z.entry.offset ≡ offset → is_one_of met z.entry.offset ≡ false

  chain-named : (x : Placed) (ys : List Placed) (offset : ℕ) (name : List ℕ) (met tags : List ℕ) → IsEmitted c s x → IsChain c s x ys offset name → Apart met ys → IsFree met offset → name_from s.texts s.entries met tags x ≡ Ok (with_tags tags name)
  chain-named x [] offset name met tags here (inl last) apart free =
      name-next s.texts s.entries met tags x
      ∙ ap (λ o. name_next s.texts tags (if_unmet met o) (follows met tags)) last.0
      ∙ ap (λ n. Ok (with_tags tags n)) (sym last.1)
  chain-named x [] offset name met tags here (inr e) apart free =
      name-next s.texts s.entries met tags x
      ∙ ap (λ o. name_next s.texts tags (if_unmet met o) (follows met tags)) e.is
      ∙ ap (λ b. name_next s.texts tags (if b then None else Some e.found) (follows met tags)) (free e.found name e.emitted e.ends e.at)
      ∙ by-end tags e.found name (follows met tags) e.ends
  chain-named x (y ∷ ys) offset name met tags here chain apart free =
      let link = chain.0 in
      name-next s.texts s.entries met tags x
      ∙ ap (λ o. name_next s.texts tags (if_unmet met o) (follows met tags)) link.is
      ∙ ap (λ b. name_next s.texts tags (if b then None else Some y) (follows met tags)) apart.0
      ∙ by-link tags y (follows met tags) link.unnamed link.derived
      ∙ chain-named y ys offset link.inner (y.entry.offset ∷ met) (tags ++ y.entry.tag ∷ []) link.emitted chain.1 (apart-more met y.entry.offset ys (absent-later y ys offset link.inner link.emitted chain.1 y ys offset link.inner chain.1 (omega arith)) apart.1) more
      ∙ ap (λ n. Ok n) (with-last tags y.entry.tag link.inner ∙ ap (with_tags tags) (with-parts y.entry.tag link.inner ∙ sym link.name_is))
    where
      more : IsFree (y.entry.offset ∷ met) offset
      more z n there ends at = ap (λ b. b || is_one_of met z.entry.offset) (ne_eqb y.entry.offset z.entry.offset (λ same. end-apart y z n chain.0.emitted there chain.0.unnamed chain.0.derived ends same)) ∙ free z n there ends at

  -- An entry that is not the end of its own chain is named along it.
  pub named-along : (e : Placed) (offset : ℕ) (name : List ℕ) → IsEmitted c s e → e.entry.offset ≢ offset → IsNamedAlong c s e offset name → type_name s.texts s.entries e ≡ Ok name
  named-along e offset name here apart (inr r) =
      again-named (IsEmitted c s) s.texts s.entries (type-alike c number s source) e r.first r.again r.others here r.leads r.links r.distinct r.met (λ same. apart (same ∙ r.last))
      ∙ ap (λ n. Ok n) (with-chain (tags_of (r.first ∷ r.others)) unknown ∙ sym r.name_is)
  named-along e offset name here apart (inl a) =
      name-start s.texts s.entries e
      ∙ chain-named e a.chain offset name (e.entry.offset ∷ []) [] here a.is (apart-one e.entry.offset a.chain (absent-later e a.chain offset name here a.is e a.chain offset name a.is (omega arith)))
      (λ z n there ends at. ap (λ b. b || false) (ne_eqb e.entry.offset z.entry.offset (λ same. apart (same ∙ at))))

-- ---- chains

over-chain : (tag there : ℕ) (tags : List ℕ) (name : List ℕ) → tag ≡ there → name ≡ named_chain tags unknown → over_name tag name ≡ named_chain (there ∷ tags) unknown
over-chain tag there tags name same name_is =
    ap (λ n. over_name tag n) name_is
    ∙ ap (λ t. over_name t (named_chain tags unknown)) same
    ∙ sym (with-parts there (named_chain tags unknown))
    ∙ ap (with_tag there) (sym (with-chain tags unknown))
    ∙ with-chain (there ∷ tags) unknown

module _ (c : CloneSource) (s : UnitSource) where
  -- A type that ends a chain.
  pub names-end : (offset : ℕ) (name : List ℕ) (id : ℕ) → EndsSo c s offset name → NamesNext c s (Some (offset, id)) offset name
  names-end offset name id last number x source here type_is =
      let h = has-type c number s x (offset, id) source here type_is in
      inl (record { chain = []; is = inr (record { found = h.found; is = h.is; at = h.at; emitted = h.emitted; ends = last number h.found source h.emitted h.at }) })

  -- No further type.
  pub names-none : (offset : ℕ) → NamesNext c s None offset unknown
  names-none offset number x source here type_is = inl (record { chain = []; is = inl (no-type c number s x source here type_is, refl) })

  -- A type more in front, which is not the one that is excepted.
  over-along : (number at tag id but : ℕ) (next : Option TypeEntry) (x : Placed) (name : List ℕ) → at ≢ but → IsSource c number s → (h : HasType c s x at) → GivesStep c s h.found (Ok (Derived tag next)) → IsNamedAlong c s h.found but name → IsNamedAlong c s x but (over_name tag name)
  over-along number at tag id but next x name apart source h g (inl a) = inl (record {
    chain = h.found ∷ a.chain;
    is = (record { is = h.is; emitted = h.emitted; unnamed = g.0; derived = g.2; inner = name; name_is = ap (λ t. over_name t name) g.1 }, a.is);
  })
  over-along number at tag id but next x name apart source h g (inr r) = inr (record {
    first = h.found;
    others = r.first ∷ r.others;
    again = r.again;
    leads = (h.is, r.leads);
    links = (record { unnamed = g.0; derived = g.2; has = h.emitted }, r.links);
    distinct = (absent-outside (IsEmitted c s) s.texts s.entries (type-alike c number s source) h.found r.first r.again r.first r.others h.emitted r.leads.0 r.leads.1 r.links r.distinct.0 (λ same. apart (sym h.at ∙ same ∙ r.last)), r.distinct);
    met = ap (λ b. (h.found.entry.offset == r.again.entry.offset) || b) r.met ∙ or-true (h.found.entry.offset == r.again.entry.offset);
    last = r.last;
    name_is = over-chain tag h.found.entry.tag (tags_of (r.first ∷ r.others)) name g.1 r.name_is;
  })
    where
      or-true : (b : Bool) → (b || true) ≡ true
      or-true true = refl
      or-true false = refl

  pub names-over : (at tag id but : ℕ) (next : Option TypeEntry) (name : List ℕ) → at ≢ but → IsRead c s at tag next → NamesNext c s (option_map type_view next) but name → NamesNext c s (Some (at, id)) but (over_name tag name)
  names-over at tag id but next name apart read named number x source here type_is =
      let h = has-type c number s x (at, id) source here type_is in
      let g = read number h.found source h.emitted h.at in
      over-along number at tag id but next x name apart source h g (named number h.found source h.emitted g.3)
