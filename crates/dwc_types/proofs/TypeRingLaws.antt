-- Rings of types that were read, and the names of their types.
use Rattle.std.proofs.Common.{◌≡◌, ℕ, ◌+◌, refl, sym, ap, subst, ◌∙◌, List, [], ◌∷◌, ◌++◌, drop, get_or, false, is_some, Option, Some, None, Ok, inl, inr}
use Rattle.std.specs.Prelude.{◌==◌, ◌||◌, ◌&&◌, option_map}
use Rattle.std.specs.List.{find}
use Rattle.std.proofs.lemmas.Bool.{eq-eqb, ne_eqb}
use Rattle.dwc_base.specs.declared.constants.TheConstants.{DW_AT_type, DW_TAG_const_type}
use Rattle.dwc_dwarf.specs.Entries.{attribute}
use Rattle.dwc_rules.specs.Kept.{Placed}
use Rattle.dwc_rules.specs.Clones.{UnitSource}
use Rattle.dwc_rules.specs.Targets.{target_of}
use Rattle.dwc_rules.specs.TypeNames.{derived_name, target_in_unit, type_name, type_of, unknown}
use Rattle.dwc_dwarf.specs.Values.{is_one_of, Value, address, address_index, constant, flag, block, expression, text, text_reference, line_reference, range_reference, range_index, location_reference, location_index, unit_reference, info_reference, dropped}
use Rattle.dwc_rules.specs.Wrappers.{wrapper_name}
use Rattle.dwc_rules.proofs.NameSteps.{with_tags}
use Rattle.dwc_unit.specs.declared.strings.StringId.{StringId}
use Rattle.dwc_source.specs.declared.source.CloneSource.{CloneSource}
use Rattle.dwc_types.specs.declared.known_type.DerivedType.{DerivedType}
use Rattle.dwc_types.specs.declared.known_type.KnownTypes.{KnownTypes}
use Rattle.dwc_types.specs.declared.known_type.TypeStep.TheVariants.{Derived}
use Rattle.dwc_types.specs.KeyedTypes.{IsNamedToRing, NamesAround}
use Rattle.dwc_types.specs.KnownNames.{IsWrapperName, KnowsTypes, NamesRing}
use Rattle.dwc_source.specs.KnownTexts.{IsNumbered}
use Rattle.dwc_source.specs.Sources.{IsEmitted, IsSource}
use Rattle.dwc_types.specs.TypeChains.{named_chain, type_view}
use Rattle.dwc_types.specs.TypeRings.{AreLinks, IsLink, IsPath, IsRound, IsRoundOrNone, IsStep, Leads, consts_of, last_at, last_type_at, offsets_of, spelt_of, tags_of}
use Rattle.dwc_types.specs.TypeSteps.{GivesStep}
use Rattle.dwc_types.proofs.ChainWalkLaws.{with-chain}
use Rattle.dwc_types.proofs.RingLaws.{IsRing, ring-closed, ring-named, ring-turned, same-name}
use Rattle.dwc_types.proofs.RingTextLaws.{named-around, tags_in, turned-named}
use Rattle.dwc_types.proofs.TypeFoundLaws.{HasType, has-type, alike-name, one-entry, value-alike}

-- ---- entries at one offset

by-unit : (es : List Placed) (x w : Placed) → x.unit ≡ w.unit → (v : Option Value) → target_in_unit es x v ≡ target_in_unit es w v
unfolding target_of
by-unit es x w same (Some (unit_reference n)) = ap (λ u. find (λ (g : Placed). (g.unit == u) && (g.entry.offset == u + n)) es) same
by-unit es x w same None = refl
by-unit es x w same (Some (address a)) = refl
by-unit es x w same (Some (address_index n)) = refl
by-unit es x w same (Some (constant form n)) = refl
by-unit es x w same (Some (flag b)) = refl
by-unit es x w same (Some (block bytes)) = refl
by-unit es x w same (Some (expression bytes)) = refl
by-unit es x w same (Some (text bytes)) = refl
by-unit es x w same (Some (text_reference form n)) = refl
by-unit es x w same (Some (line_reference n)) = refl
by-unit es x w same (Some (range_reference n)) = refl
by-unit es x w same (Some (range_index n)) = refl
by-unit es x w same (Some (location_reference n)) = refl
by-unit es x w same (Some (location_index n)) = refl
by-unit es x w same (Some (info_reference n)) = refl
by-unit es x w same (Some dropped) = refl

-- ---- types as they were read, and as the definitions have them

-- A type of the unit is the one that is kept.
record IsAt (c : CloneSource) (s : UnitSource) (f : Placed) (t : DerivedType) : Type 0 where
  pub offset : f.entry.offset ≡ t.offset
  pub tag : f.entry.tag ≡ t.tag
  pub link : IsLink (IsEmitted c s) s.texts f

abbrev AreAt : CloneSource → UnitSource → List Placed → List DerivedType → Type 0
AreAt c s [] [] = Unit {0}
AreAt c s (f ∷ fs) (t ∷ ts) = IsAt c s f t × AreAt c s fs ts
AreAt c s [] (t ∷ ts) = ⊥
AreAt c s (f ∷ fs) [] = ⊥

tags-at : (c : CloneSource) (s : UnitSource) (fs : List Placed) (ts : List DerivedType) → AreAt c s fs ts → tags_of fs ≡ tags_in ts
tags-at c s [] [] are = refl
tags-at c s (f ∷ fs) (t ∷ ts) are = ap (λ n. n ∷ tags_of fs) are.0.tag ∙ ap (λ ns. t.tag ∷ ns) (tags-at c s fs ts are.1)
tags-at c s [] (t ∷ ts) are = absurd are
tags-at c s (f ∷ fs) [] are = absurd are

links-at : (c : CloneSource) (s : UnitSource) (fs : List Placed) (ts : List DerivedType) → AreAt c s fs ts → AreLinks (IsEmitted c s) s.texts fs
links-at c s [] [] are = tt
links-at c s (f ∷ fs) (t ∷ ts) are = (are.0.link, links-at c s fs ts are.1)
links-at c s [] (t ∷ ts) are = absurd are
links-at c s (f ∷ fs) [] are = absurd are

both-at : (c : CloneSource) (s : UnitSource) (fs gs : List Placed) (ts us : List DerivedType) → AreAt c s fs ts → AreAt c s gs us → AreAt c s (fs ++ gs) (ts ++ us)
both-at c s [] gs [] us are others = others
both-at c s (f ∷ fs) gs (t ∷ ts) us are others = (are.0, both-at c s fs gs ts us are.1 others)
both-at c s [] gs (t ∷ ts) us are others = absurd are
both-at c s (f ∷ fs) gs [] us are others = absurd are

-- The types of the unit around one of those that are kept.
record Around (c : CloneSource) (s : UnitSource) (fs : List Placed) (front : List DerivedType) (t : DerivedType) (left : List DerivedType) : Type 0 where
  pub before : List Placed
  pub found : Placed
  pub later : List Placed
  pub is : fs ≡ before ++ found ∷ later
  pub front_at : AreAt c s before front
  pub at : IsAt c s found t
  pub left_at : AreAt c s later left

around : (c : CloneSource) (s : UnitSource) (fs : List Placed) (front : List DerivedType) (t : DerivedType) (left : List DerivedType) → AreAt c s fs (front ++ t ∷ left) → Around c s fs front t left
around c s [] [] t left are = absurd are
around c s [] (u ∷ front) t left are = absurd are
around c s (f ∷ fs) [] t left are = record { before = []; found = f; later = fs; is = refl; front_at = tt; at = are.0; left_at = are.1 }
around c s (f ∷ fs) (u ∷ front) t left are =
    let a = around c s fs front t left are.1 in
    record { before = f ∷ a.before; found = a.found; later = a.later; is = ap (λ es. f ∷ es) a.is; front_at = (are.0, a.front_at); at = a.at; left_at = a.left_at }

-- Types of the unit are derived from one another, from one on up to the one at an offset; they are those that are kept, and those in between
-- are not the one at another offset.
record IsLifted (c : CloneSource) (s : UnitSource) (own : ℕ) (f : Placed) (ts : List DerivedType) (end : ℕ) : Type 0 where
  pub others : List Placed
  pub back : Placed
  pub leads : Leads s.entries f (others ++ back ∷ [])
  pub at : back.entry.offset ≡ end
  pub emitted : IsEmitted c s back
  pub are : AreAt c s (f ∷ others) ts
  pub none : is_one_of (offsets_of others) own ≡ false

-- A ring that is kept is one of types of the unit, the first of which is at the offset of an entry.
record IsRingOf (c : CloneSource) (s : UnitSource) (e : Placed) (ring : List DerivedType) : Type 0 where
  pub first : Placed
  pub others : List Placed
  pub at : e.entry.offset ≡ first.entry.offset
  pub same : type_of s.entries e ≡ type_of s.entries first
  pub closed : IsRing (IsEmitted c s) s.texts s.entries (first ∷ others)
  pub are : AreAt c s (first ∷ others) ring

-- A list with an item is not empty.
no-item : (front left : List DerivedType) (t : DerivedType) → ◌≡◌ {A = List DerivedType} [] (front ++ t ∷ left) → ⊥
no-item [] left t is = absurd (cc)
no-item (u ∷ front) left t is = absurd (cc)

module _ (c : CloneSource) (number : ℕ) (s : UnitSource) (source : IsSource c number s) where
  pub type-alike : (x w : Placed) → IsEmitted c s x → IsEmitted c s w → x.entry.offset ≡ w.entry.offset → type_of s.entries x ≡ type_of s.entries w
  type-alike x w here there same =
      let like = one-entry c number s x w source here there same in
      ap (target_in_unit s.entries x) (value-alike DW_AT_type x.entry w.entry like) ∙ by-unit s.entries x w (here.unit ∙ sym there.unit) (attribute DW_AT_type w.entry)

  at-alike : (x w : Placed) (t : DerivedType) → IsEmitted c s w → w.entry.offset ≡ x.entry.offset → IsAt c s x t → IsAt c s w t
  at-alike x w t emitted same at =
      let like = one-entry c number s w x source emitted at.link.has same in
      record {
        offset = same ∙ at.offset;
        tag = like.tag ∙ at.tag;
        link = record { unnamed = alike-name s.texts w x like ∙ at.link.unnamed; derived = ap (λ tag. is_some (derived_name tag)) like.tag ∙ at.link.derived; has = emitted };
      }

  module _ (types : KnownTypes) (known : KnowsTypes c s types) where
    read-step : (f : Placed) (from : ℕ) (t : DerivedType) → IsEmitted c s f → f.entry.offset ≡ from → IsStep types from t → GivesStep c s f (Ok (Derived t.tag t.next))
    read-step f from t emitted at step = (known.derived step.here.place t step.here.kept).read number f source emitted (at ∙ sym step.here.at)

    at-step : (f : Placed) (from : ℕ) (t : DerivedType) → IsEmitted c s f → f.entry.offset ≡ from → IsStep types from t → IsAt c s f t
    at-step f from t emitted at step =
        let g = read-step f from t emitted at step in
        record { offset = at ∙ sym step.here.at; tag = sym g.1; link = record { unnamed = g.0; derived = g.2; has = emitted } }

    next-step : (f : Placed) (from : ℕ) (t : DerivedType) → IsEmitted c s f → f.entry.offset ≡ from → (step : IsStep types from t) → HasType c s f step.next.offset
    next-step f from t emitted at step = has-type c number s f (type_view step.next) source emitted ((read-step f from t emitted at step).3 ∙ ap (option_map type_view) step.next_is)

    lifted : (own from at : ℕ) (f : Placed) (front : List DerivedType) (last : DerivedType) → IsEmitted c s f → f.entry.offset ≡ from → IsPath types own from front at → (step : IsStep types at last) → IsLifted c s own f (front ++ last ∷ []) step.next.offset
    lifted own from at f [] last emitted here path step =
        let h = next-step f at last emitted (here ∙ path) step in
        record { others = []; back = h.found; leads = (h.is, tt); at = h.at; emitted = h.emitted; are = (at-step f at last emitted (here ∙ path) step, tt); none = refl }
    lifted own from at f (t ∷ ts) last emitted here path step =
        let h = next-step f from t emitted here path.0 in
        let l = lifted own path.0.next.offset at h.found ts last h.emitted h.at path.2 step in
        record {
          others = h.found ∷ l.others;
          back = l.back;
          leads = (h.is, l.leads);
          at = l.at;
          emitted = l.emitted;
          are = (at-step f from t emitted here path.0, l.are);
          none = ap (λ b. b || is_one_of (offsets_of l.others) own) (ne_eqb h.found.entry.offset own (λ same. path.1 (sym h.at ∙ same))) ∙ l.none;
        }

    ring-of : (own : ℕ) (e : Placed) (ring : List DerivedType) → IsEmitted c s e → e.entry.offset ≡ own → IsRound types own ring → IsRingOf c s e ring
    ring-of own e ring emitted here r = record {
      first = l.back;
      others = l.others;
      at = at;
      same = same;
      closed = ring-closed (IsEmitted c s) s.texts s.entries type-alike l.back l.others (from-back (l.others ++ l.back ∷ []) l.leads) (subst (λ n. is_one_of (offsets_of l.others) n ≡ false) (sym here ∙ at) l.none) (links-at c s (l.back ∷ l.others) (r.front ++ r.last ∷ []) are);
      are = subst (AreAt c s (l.back ∷ l.others)) (sym r.is) are;
    }
      where
        l : IsLifted c s own e (r.front ++ r.last ∷ []) r.step.next.offset
        l = lifted own own r.at e r.front r.last emitted here r.path r.step

        at : e.entry.offset ≡ l.back.entry.offset
        at = here ∙ sym (l.at ∙ r.closes)

        same : type_of s.entries e ≡ type_of s.entries l.back
        same = type-alike e l.back emitted l.emitted at

        from-back : (ys : List Placed) → Leads s.entries e ys → Leads s.entries l.back ys
        from-back [] leads = tt
        from-back (y ∷ ys) leads = (sym same ∙ leads.0, leads.1)

        first-at : (ts : List DerivedType) → AreAt c s (e ∷ l.others) ts → AreAt c s (l.back ∷ l.others) ts
        first-at [] are = absurd are
        first-at (t ∷ ts) are = (at-alike e l.back t l.emitted (sym at) are.0, are.1)

        are : AreAt c s (l.back ∷ l.others) (r.front ++ r.last ∷ [])
        are = first-at (r.front ++ r.last ∷ []) l.are

  -- The name of the type of an entry at the offset of a type of a ring has the tags of the others.
  named-at : (f x : Placed) (xs : List Placed) (ts : List DerivedType) → f.entry.offset ≡ x.entry.offset → type_of s.entries f ≡ type_of s.entries x → IsRing (IsEmitted c s) s.texts s.entries (x ∷ xs) → AreAt c s xs ts → type_name s.texts s.entries f ≡ Ok (named_chain (tags_in ts) unknown)
  named-at f x xs ts at same ring are =
      same-name s.texts s.entries f x at same
      ∙ ring-named (IsEmitted c s) s.texts s.entries x xs ring
      ∙ ap (λ tags. Ok (with_tags tags unknown)) (tags-at c s xs ts are)
      ∙ ap (λ n. Ok n) (with-chain (tags_in ts) unknown)

  -- The number of the name of the wrapper of an entry in a ring is that of another of which the tags are the same.
  name-turned : (e : Placed) (texts : List (List ℕ)) (id : StringId) (h : DerivedType) (rest : List DerivedType) → IsEmitted c s e → (e.entry.tag == DW_TAG_const_type) ≡ false → IsWrapperName s texts e id → IsRingOf c s e (h ∷ rest)
      → (front left : List DerivedType) (t : DerivedType) → h ∷ rest ≡ front ++ t ∷ left → (t.tag == DW_TAG_const_type) ≡ false → spelt_of (t ∷ (left ++ front)) ≡ spelt_of (h ∷ rest) → (f : Placed) → IsEmitted c s f → f.entry.offset ≡ t.offset → IsWrapperName s texts f id
  name-turned e texts id h rest e_emitted unlike named q front left t is other same f emitted at = record {
    name = named.name;
    read = named-at f a.found (a.later ++ a.before) (left ++ front) there (type-alike f a.found emitted a.at.link.has there) turned (both-at c s a.later a.before left front a.left_at a.front_at) ∙ ap (λ n. Ok n) texts_same.1 ∙ sym of_first ∙ named.read;
    number = subst (λ tag. IsNumbered texts (wrapper_name tag named.name) id) tag_same named.number;
  }
    where
      a : Around c s (q.first ∷ q.others) front t left
      a = around c s (q.first ∷ q.others) front t left (subst (AreAt c s (q.first ∷ q.others)) is q.are)

      there : f.entry.offset ≡ a.found.entry.offset
      there = at ∙ sym a.at.offset

      turned : IsRing (IsEmitted c s) s.texts s.entries (a.found ∷ (a.later ++ a.before))
      turned = ring-turned (IsEmitted c s) s.texts s.entries a.before a.later a.found (subst (IsRing (IsEmitted c s) s.texts s.entries) a.is q.closed)

      of_first : type_name s.texts s.entries e ≡ Ok (named_chain (tags_in rest) unknown)
      of_first = named-at e q.first q.others rest q.at q.same q.closed q.are.1

      e_tag : e.entry.tag ≡ h.tag
      e_tag = (one-entry c number s e q.first source e_emitted q.are.0.link.has q.at).tag ∙ q.are.0.tag

      texts_same : (t.tag ≡ h.tag) × (named_chain (tags_in (left ++ front)) unknown ≡ named_chain (tags_in rest) unknown)
      texts_same = turned-named h t rest front left is (ap (λ tag. tag == DW_TAG_const_type) (sym e_tag) ∙ unlike) other same unknown

      tag_same : e.entry.tag ≡ f.entry.tag
      tag_same = e_tag ∙ sym texts_same.0 ∙ sym ((one-entry c number s f a.found source emitted a.at.link.has there).tag ∙ a.at.tag)

  -- So it is that of all of them.
  names-turned : (e : Placed) (texts : List (List ℕ)) (id : StringId) (ring : List DerivedType) → IsEmitted c s e → (e.entry.tag == DW_TAG_const_type) ≡ false → IsWrapperName s texts e id → IsRingOf c s e ring → NamesRing c s texts ring id
  names-turned e texts id [] e_emitted unlike named q = λ front left t is other same f emitted at. absurd q.are
  names-turned e texts id (h ∷ rest) e_emitted unlike named q = λ front left t is other same f emitted at. name-turned e texts id h rest e_emitted unlike named q front left t is other same f emitted at

  -- So it is by the types that are kept.
  pub names-ring : (types : KnownTypes) (own : ℕ) (e : Placed) (texts : List (List ℕ)) (id : StringId) (ring : List DerivedType) → KnowsTypes c s types → IsEmitted c s e → e.entry.offset ≡ own → (e.entry.tag == DW_TAG_const_type) ≡ false → IsWrapperName s texts e id → IsRoundOrNone types own ring
      → NamesRing c s texts ring id
  names-ring types own e texts id ring known emitted here unlike named (inl none) = λ front left t is other same f there at. absurd (no-item front left t (sym none ∙ is))
  names-ring types own e texts id ring known emitted here unlike named (inr r) = names-turned e texts id ring emitted unlike named (ring-of types known own e ring emitted here r)

-- ---- entries outside of a ring

last-at : (c : CloneSource) (s : UnitSource) (here there : ℕ) (fs : List Placed) (ts : List DerivedType) → here ≡ there → AreAt c s fs ts → last_at here fs ≡ last_type_at there ts
last-at c s here there [] [] same are = same
last-at c s here there (f ∷ fs) (t ∷ ts) same are = last-at c s f.entry.offset t.offset fs ts are.0.offset are.1
last-at c s here there [] (t ∷ ts) same are = absurd are
last-at c s here there (f ∷ fs) [] same are = absurd are

-- Of a ring that begins at an offset, the part from one of its types on.
record IsRest (types : KnownTypes) (own at : ℕ) (last t : DerivedType) (left : List DerivedType) : Type 0 where
  pub between : List DerivedType
  pub path : IsPath types own t.offset between at
  pub is : t ∷ left ≡ between ++ last ∷ []

rest-of : (types : KnownTypes) (own from at : ℕ) (ts : List DerivedType) (last : DerivedType) (front left : List DerivedType) (t : DerivedType) → ts ++ last ∷ [] ≡ front ++ t ∷ left → IsPath types own from ts at → IsStep types at last → IsRest types own at last t left
rest-of types own from at [] last [] left t is path step =
    let same : last ≡ t = ap (λ us. get_or us 0 last) is in
    record { between = []; path = ap (λ (u : DerivedType). u.offset) (sym same) ∙ step.here.at; is = sym is }
rest-of types own from at [] last (f ∷ front) left t is path step = absurd (no-item front left t (ap (drop 1) is))
rest-of types own from at (u ∷ us) last [] left t is path step =
    let same : u ≡ t = ap (λ vs. get_or vs 0 u) is in
    record {
      between = u ∷ us;
      path = (record { here = record { place = path.0.here.place; kept = path.0.here.kept; at = ap (λ (v : DerivedType). v.offset) same }; next = path.0.next; next_is = path.0.next_is }, path.1, path.2);
      is = sym is;
    }
rest-of types own from at (u ∷ us) last (f ∷ front) left t is path step = rest-of types own path.0.next.offset at us last front left t (ap (drop 1) is) path.2 step

module _ (c : CloneSource) (number : ℕ) (s : UnitSource) (source : IsSource c number s) where
  -- An entry of a type of a ring is named along the whole of it.
  along-ring : (o x : Placed) (xs : List Placed) (t : DerivedType) (ts : List DerivedType) (name : List ℕ) → IsEmitted c s o → HasType c s o t.offset → IsRing (IsEmitted c s) s.texts s.entries (x ∷ xs) → AreAt c s (x ∷ xs) (t ∷ ts) → name ≡ named_chain (tags_in (t ∷ ts)) unknown
      → IsNamedToRing c s o (last_type_at t.offset ts) name
  along-ring o x xs t ts name emitted h ring are name_is =
      let at : h.found.entry.offset ≡ x.entry.offset = h.at ∙ sym are.0.offset in
      let next = at-alike c number s source x h.found t h.emitted at are.0 in
      record {
        first = h.found;
        others = xs;
        again = x;
        leads = (h.is, from-next (type-alike c number s source h.found x h.emitted are.0.link.has at) (xs ++ x ∷ []) ring.closed);
        links = (next.link, ring.links.1);
        distinct = (ap (is_one_of (offsets_of xs)) at ∙ ring.distinct.0, ring.distinct.1);
        met = ap (λ b. b || is_one_of (offsets_of xs) x.entry.offset) (eq-eqb h.found.entry.offset x.entry.offset at);
        last = last-at c s h.found.entry.offset t.offset xs ts h.at are.1;
        name_is = name_is ∙ ap (λ tags. named_chain tags unknown) (sym (tags-at c s (h.found ∷ xs) (t ∷ ts) (next, are.1)));
      }
    where
      from-next : type_of s.entries h.found ≡ type_of s.entries x → (ys : List Placed) → Leads s.entries x ys → Leads s.entries h.found ys
      from-next same [] leads = tt
      from-next same (y ∷ ys) leads = (same ∙ leads.0, leads.1)

  -- So it is by the types that are kept.
  along-kept : (types : KnownTypes) (own : ℕ) (ring front left : List DerivedType) (t : DerivedType) (name : List ℕ) → KnowsTypes c s types → IsRound types own ring → ring ≡ front ++ t ∷ left → (o : Placed) → IsEmitted c s o → HasType c s o t.offset → name ≡ named_chain (tags_in (t ∷ (left ++ front))) unknown
      → IsNamedToRing c s o (last_type_at t.offset (left ++ front)) name
  along-kept types own ring front left t name known r is o emitted h name_is = along-ring o a.found (a.later ++ a.before) t (left ++ front) name emitted h turned (a.at, both-at c s a.later a.before left front a.left_at a.front_at) name_is
    where
      rest : IsRest types own r.at r.last t left
      rest = rest-of types own own r.at r.front r.last front left t (sym r.is ∙ is) r.path r.step

      l : IsLifted c s own h.found (rest.between ++ r.last ∷ []) r.step.next.offset
      l = lifted c number s source types known own t.offset r.at h.found rest.between r.last h.emitted h.at rest.path r.step

      q : IsRingOf c s l.back ring
      q = ring-of c number s source types known own l.back ring l.emitted (l.at ∙ r.closes) r

      a : Around c s (q.first ∷ q.others) front t left
      a = around c s (q.first ∷ q.others) front t left (subst (AreAt c s (q.first ∷ q.others)) is q.are)

      turned : IsRing (IsEmitted c s) s.texts s.entries (a.found ∷ (a.later ++ a.before))
      turned = ring-turned (IsEmitted c s) s.texts s.entries a.before a.later a.found (subst (IsRing (IsEmitted c s) s.texts s.entries) a.is q.closed)

-- The names of all that go to the types of a ring.
pub names-around : (c : CloneSource) (s : UnitSource) (types : KnownTypes) (own : ℕ) (ring : List DerivedType) → KnowsTypes c s types → IsRoundOrNone types own ring → NamesAround c s (consts_of ring) ring
names-around c s types own ring known (inl none) front left t is id number x source here type_is = absurd (no-item front left t (sym none ∙ is))
names-around c s types own ring known (inr r) front left t is id number x source here type_is =
    inr (along-kept c number s source types own ring front left t _ known r is x here (has-type c number s x (t.offset, id) source here type_is) (sym (named-around t ring front left is unknown)))
