-- Types that are derived from one another in a ring, and the names of those that go to them.
use Rattle.std.proofs.Common.{◌≡◌, ℕ, suc, ◌≤◌, refl, sym, ap, subst, ◌∙◌, arith, List, [], ◌∷◌, ◌++◌, length, Bool, true, false, is_some, Option, Some, None, Result, Ok, append_assoc, append-nil}
use Rattle.std.specs.Prelude.{◌==◌, ◌||◌, ◌≢◌, if◌then◌else◌}
use Rattle.std.specs.Option.{unwrap_or}
use Rattle.std.proofs.lemmas.Bool.{eq-eqb, eqb-true, ne_eqb}
use Rattle.dwc_base.specs.Reading.{◌>>=◌}
use Rattle.dwc_base.specs.Sections.{Fault}
use Rattle.dwc_rules.specs.Kept.{Placed}
use Rattle.dwc_dwarf.specs.Texts.{TextSource}
use Rattle.dwc_rules.specs.TypeNames.{derived_name, type_name, type_of, unknown}
use Rattle.dwc_dwarf.specs.Values.{is_one_of}
use Rattle.dwc_rules.proofs.NameSteps.{if_unmet, name-next, name-start, name_from, name_next, with_tags}
use Rattle.dwc_types.specs.TypeRings.{AreLinks, Distinct, IsLink, Leads, last_at, offsets_of, tags_of}
use Rattle.dwc_types.proofs.ChainWalkLaws.{turned}

-- ---- chains

-- None is at one of some offsets.
abbrev Apart : List ℕ → List Placed → Type 0
Apart met [] = Unit {0}
Apart met (y ∷ ys) = (is_one_of met y.entry.offset ≡ false) × Apart met ys

neither : (a b : Bool) → (a || b) ≡ false → (a ≡ false) × (b ≡ false)
neither false b is = (refl, is)
neither true b is = absurd (cc)

true_false : ◌≡◌ {A = Bool} true false → ⊥
true_false h = absurd (cc)

apart-none : (ys : List Placed) → Apart [] ys
apart-none [] = tt
apart-none (y ∷ ys) = (refl, apart-none ys)

apart-more : (met : List ℕ) (y : Placed) (ys : List Placed) → is_one_of (offsets_of ys) y.entry.offset ≡ false → Apart met ys → Apart (y.entry.offset ∷ met) ys
apart-more met y [] none apart = tt
apart-more met y (w ∷ ws) none apart =
    let both = neither (w.entry.offset == y.entry.offset) (is_one_of (offsets_of ws) y.entry.offset) none in
    (ap (λ b. b || is_one_of met w.entry.offset) (turned y.entry.offset w.entry.offset ∙ both.0) ∙ apart.0, apart-more met y ws both.1 apart.1)

-- ---- the name along a chain

module _ (texts : TextSource) (es : List Placed) where
  -- what follows where a type is met
  abbrev follows : List ℕ → List ℕ → Placed → Result (List ℕ) Fault
  follows met tags f = name_from texts es (f.entry.offset ∷ met) (tags ++ f.entry.tag ∷ []) f

  by-link : (Has : Placed → Type 0) (tags : List ℕ) (f : Placed) (others : Placed → Result (List ℕ) Fault) → IsLink Has texts f → name_next texts tags (Some f) others ≡ others f
  by-link Has tags f others link = ap (λ r. r >>= λ name. elim name [ Some n ↦ Ok (with_tags tags n) | None ↦ by (derived_name f.entry.tag) ]) link.unnamed ∙ go (derived_name f.entry.tag) link.derived
    where
      by : Option (List ℕ → List ℕ) → Result (List ℕ) Fault
      by d = elim d [ None ↦ Ok (with_tags tags unknown) | Some derived ↦ others f ]

      go : (d : Option (List ℕ → List ℕ)) → is_some d ≡ true → (elim d [ None ↦ Ok (with_tags tags unknown) | Some derived ↦ others f ]) ≡ others f
      go None is = absurd (cc)
      go (Some derived) is = refl

  moved : (a b d : Bool) → (a || (b || d)) ≡ ((b || a) || d)
  moved true true d = refl
  moved true false d = refl
  moved false true d = refl
  moved false false d = refl

  -- Types are followed up to one that was met.
  chain-ends : (Has : Placed → Type 0) (ys : List Placed) (x z : Placed) (met tags : List ℕ) → Leads es x (ys ++ z ∷ []) → AreLinks Has texts ys → Apart met ys → Distinct ys → (is_one_of met z.entry.offset || is_one_of (offsets_of ys) z.entry.offset) ≡ true
      → name_from texts es met tags x ≡ Ok (with_tags (tags ++ tags_of ys) unknown)
  chain-ends Has [] x z met tags leads links apart distinct there =
      name-next texts es met tags x
      ∙ ap (λ o. name_next texts tags (if_unmet met o) (follows met tags)) leads.0
      ∙ ap (λ b. name_next texts tags (if b then None else Some z) (follows met tags)) (or-false (is_one_of met z.entry.offset) there)
      ∙ ap (λ ts. Ok (with_tags ts unknown)) (sym (append-nil tags))
    where
      or-false : (b : Bool) → (b || false) ≡ true → b ≡ true
      or-false true is = refl
      or-false false is = absurd (cc)
  chain-ends Has (y ∷ ys) x z met tags leads links apart distinct there =
      name-next texts es met tags x
      ∙ ap (λ o. name_next texts tags (if_unmet met o) (follows met tags)) leads.0
      ∙ ap (λ b. name_next texts tags (if b then None else Some y) (follows met tags)) apart.0
      ∙ by-link Has tags y (follows met tags) links.0
      ∙ chain-ends Has ys y z (y.entry.offset ∷ met) (tags ++ y.entry.tag ∷ []) leads.1 links.1 (apart-more met y ys distinct.0 apart.1) distinct.1
      (sym (moved (is_one_of met z.entry.offset) (y.entry.offset == z.entry.offset) (is_one_of (offsets_of ys) z.entry.offset)) ∙ there)
      ∙ ap (λ ts. Ok (with_tags ts unknown)) (append_assoc tags (y.entry.tag ∷ []) (tags_of ys))

  -- An entry at the same offset with the same type.
  pub same-name : (f x : Placed) → f.entry.offset ≡ x.entry.offset → type_of es f ≡ type_of es x → type_name texts es f ≡ type_name texts es x
  same-name f x at same =
      name-start texts es f
      ∙ name-next texts es (f.entry.offset ∷ []) [] f
      ∙ ap (λ o. name_next texts [] (if_unmet (f.entry.offset ∷ []) o) (follows (f.entry.offset ∷ []) [])) same
      ∙ ap (λ n. name_next texts [] (if_unmet (n ∷ []) (type_of es x)) (follows (n ∷ []) [])) at
      ∙ sym (name-start texts es x ∙ name-next texts es (x.entry.offset ∷ []) [] x)

-- ---- no entry is met twice on the way to one

some-is : (x y : Placed) → ◌≡◌ {A = Option Placed} (Some x) (Some y) → x ≡ y
some-is x y h = ap (λ o. unwrap_or o x) h

not-first : {P : Type 0} (b z : Placed) (others : List Placed) → z ≡ b → is_one_of (offsets_of (b ∷ others)) z.entry.offset ≡ false → P
not-first b z others same none =
    let both = neither (b.entry.offset == z.entry.offset) (is_one_of (offsets_of others) z.entry.offset) none in
    absurd (true_false (sym (eq-eqb b.entry.offset z.entry.offset (ap (λ (e : Placed). e.entry.offset) (sym same))) ∙ both.0))

not-later : (b z : Placed) (others : List Placed) → is_one_of (offsets_of (b ∷ others)) z.entry.offset ≡ false → is_one_of (offsets_of others) z.entry.offset ≡ false
not-later b z others none = (neither (b.entry.offset == z.entry.offset) (is_one_of (offsets_of others) z.entry.offset) none).1

-- Two chains to one entry that begin with the same type are equally long.
same-length : (es : List Placed) (x w z : Placed) (as' bs : List Placed) → type_of es x ≡ type_of es w → Leads es x (as' ++ z ∷ []) → Leads es w (bs ++ z ∷ []) → is_one_of (offsets_of as') z.entry.offset ≡ false → is_one_of (offsets_of bs) z.entry.offset ≡ false → length as' ≡ length bs
same-length es x w z [] [] same one other none absent = refl
same-length es x w z [] (b ∷ bs) same one other none absent = not-first b z bs (some-is z b (sym one.0 ∙ same ∙ other.0)) absent
same-length es x w z (a ∷ as') [] same one other none absent = not-first a z as' (some-is z a (sym other.0 ∙ sym same ∙ one.0)) none
same-length es x w z (a ∷ as') (b ∷ bs) same one other none absent =
    let at : a ≡ b = some-is a b (sym one.0 ∙ same ∙ other.0) in
    ap suc (same-length es a b z as' bs (ap (type_of es) at) one.1 other.1 (not-later a z as' none) (not-later b z bs absent))

module _ (Has : Placed → Type 0) (texts : TextSource) (es : List Placed) (alike : (x w : Placed) → Has x → Has w → x.entry.offset ≡ w.entry.offset → type_of es x ≡ type_of es w) where
  absent-later : (y z : Placed) (as' : List Placed) (x : Placed) (ys : List Placed) → Has y → Leads es y (as' ++ z ∷ []) → is_one_of (offsets_of as') z.entry.offset ≡ false → Leads es x (ys ++ z ∷ []) → is_one_of (offsets_of ys) z.entry.offset ≡ false → AreLinks Has texts ys → length ys ≤ length as'
      → is_one_of (offsets_of ys) y.entry.offset ≡ false
  absent-later y z as' x [] has leads none onward absent links shorter = refl
  absent-later y z as' x (w ∷ ws) has leads none onward absent links shorter =
      go (w.entry.offset == y.entry.offset) refl (absent-later y z as' w ws has leads none onward.1 (not-later w z ws absent) links.1 (omega (arith, shorter)))
    where
      go : (b : Bool) → (w.entry.offset == y.entry.offset) ≡ b → is_one_of (offsets_of ws) y.entry.offset ≡ false → (b || is_one_of (offsets_of ws) y.entry.offset) ≡ false
      go true is rest =
          let same = same-length es w y z ws as' (alike w y links.0.has has (eqb-true w.entry.offset y.entry.offset is)) onward.1 leads (not-later w z ws absent) none in
          absurd (omega (arith, shorter, same))
      go false is rest = rest

  distinct-chain : (x z : Placed) (ys : List Placed) → Leads es x (ys ++ z ∷ []) → is_one_of (offsets_of ys) z.entry.offset ≡ false → AreLinks Has texts ys → Distinct ys
  distinct-chain x z [] leads none links = tt
  distinct-chain x z (y ∷ ys) leads none links =
      let later = not-later y z ys none in
      (absent-later y z ys y ys links.0.has leads.1 later leads.1 later links.1 (omega arith), distinct-chain y z ys leads.1 later links.1)

module _ (Has : Placed → Type 0) (texts : TextSource) (es : List Placed) (alike : (x w : Placed) → Has x → Has w → x.entry.offset ≡ w.entry.offset → type_of es x ≡ type_of es w) where
  -- An entry is none of those on the way to one at the offset of its type, where it is not the last of them.
  pub absent-outside : (o next x y : Placed) (ys : List Placed) → Has o → type_of es o ≡ Some next → Leads es y (ys ++ x ∷ []) → AreLinks Has texts (y ∷ ys) → is_one_of (offsets_of ys) next.entry.offset ≡ false → o.entry.offset ≢ last_at y.entry.offset ys → is_one_of (offsets_of (y ∷ ys)) o.entry.offset ≡ false
  absent-outside o next x y [] has is leads links none apart = ap (λ b. b || false) (ne_eqb y.entry.offset o.entry.offset (λ same. apart (sym same)))
  absent-outside o next x y (w ∷ ws) has is leads links none apart = go (y.entry.offset == o.entry.offset) refl (absent-outside o next x w ws has is leads.1 links.1 (not-later w next ws none) apart)
    where
      go : (b : Bool) → (y.entry.offset == o.entry.offset) ≡ b → is_one_of (offsets_of (w ∷ ws)) o.entry.offset ≡ false → (b || is_one_of (offsets_of (w ∷ ws)) o.entry.offset) ≡ false
      go true same rest = not-first w next ws (some-is next w (sym is ∙ sym (alike y o links.0.has has (eqb-true y.entry.offset o.entry.offset same)) ∙ leads.0)) none
      go false other rest = rest

  -- The name of the type of an entry along types that come to one of them again, the last of which it is not, has the tags of all.
  pub again-named : (o first again : Placed) (others : List Placed) → Has o → Leads es o ((first ∷ others) ++ again ∷ []) → AreLinks Has texts (first ∷ others) → Distinct (first ∷ others) → is_one_of (offsets_of (first ∷ others)) again.entry.offset ≡ true → o.entry.offset ≢ last_at first.entry.offset others
      → type_name texts es o ≡ Ok (with_tags (tags_of (first ∷ others)) unknown)
  again-named o first again others has leads links distinct met apart =
      let outside = absent-outside o first again first others has leads.0 leads.1 links distinct.0 apart in
      name-start texts es o
      ∙ chain-ends texts es Has (first ∷ others) o again (o.entry.offset ∷ []) [] leads links (apart-more [] o (first ∷ others) outside (apart-none (first ∷ others))) distinct
      (ap (λ b. ((o.entry.offset == again.entry.offset) || false) || b) met ∙ or-true ((o.entry.offset == again.entry.offset) || false))
    where
      or-true : (b : Bool) → (b || true) ≡ true
      or-true true = refl
      or-true false = refl

-- ---- rings

abbrev pub Closed : List Placed → List Placed → Type 0
Closed es [] = Unit {0}
Closed es (x ∷ xs) = Leads es x (xs ++ x ∷ [])

-- Types are derived from one another, the last of them from the first.
pub record IsRing (Has : Placed → Type 0) (texts : TextSource) (es rs : List Placed) : Type 0 where
  pub closed : Closed es rs
  pub links : AreLinks Has texts rs
  pub distinct : Distinct rs

leads-behind : (es : List Placed) (y : Placed) (ys : List Placed) (x v : Placed) → Leads es y (ys ++ x ∷ []) → type_of es x ≡ Some v → Leads es y ((ys ++ x ∷ []) ++ v ∷ [])
leads-behind es y [] x v leads is = (leads.0, (is, tt))
leads-behind es y (w ∷ ws) x v leads is = (leads.0, leads-behind es w ws x v leads.1 is)

links-behind : (Has : Placed → Type 0) (texts : TextSource) (ys : List Placed) (x : Placed) → AreLinks Has texts ys → IsLink Has texts x → AreLinks Has texts (ys ++ x ∷ [])
links-behind Has texts [] x links link = (link, tt)
links-behind Has texts (y ∷ ys) x links link = (links.0, links-behind Has texts ys x links.1 link)

absent-behind : (ys : List Placed) (x : Placed) (offset : ℕ) → is_one_of (offsets_of ys) offset ≡ false → (x.entry.offset == offset) ≡ false → is_one_of (offsets_of (ys ++ x ∷ [])) offset ≡ false
absent-behind [] x offset none other = ap (λ b. b || false) other
absent-behind (y ∷ ys) x offset none other =
    let both = neither (y.entry.offset == offset) (is_one_of (offsets_of ys) offset) none in
    ap (λ b. b || is_one_of (offsets_of (ys ++ x ∷ [])) offset) both.0 ∙ absent-behind ys x offset both.1 other

distinct-behind : (ys : List Placed) (x : Placed) → Distinct ys → is_one_of (offsets_of ys) x.entry.offset ≡ false → Distinct (ys ++ x ∷ [])
distinct-behind [] x distinct none = (refl, tt)
distinct-behind (y ∷ ys) x distinct none =
    let both = neither (y.entry.offset == x.entry.offset) (is_one_of (offsets_of ys) x.entry.offset) none in
    (absent-behind ys x y.entry.offset distinct.0 (turned x.entry.offset y.entry.offset ∙ both.0), distinct-behind ys x distinct.1 both.1)

module _ (Has : Placed → Type 0) (texts : TextSource) (es : List Placed) where
  -- So it is from the next one on.
  ring-once : (x : Placed) (xs : List Placed) → IsRing Has texts es (x ∷ xs) → IsRing Has texts es (xs ++ x ∷ [])
  ring-once x [] ring = ring
  ring-once x (y ∷ ys) ring = record {
    closed = leads-behind es y ys x y ring.closed.1 ring.closed.0;
    links = links-behind Has texts (y ∷ ys) x ring.links.1 ring.links.0;
    distinct = distinct-behind (y ∷ ys) x ring.distinct.1 ring.distinct.0;
  }

  -- And from any of them on.
  pub ring-turned : (front left : List Placed) (x : Placed) → IsRing Has texts es (front ++ x ∷ left) → IsRing Has texts es (x ∷ (left ++ front))
  ring-turned [] left x ring = subst (λ ys. IsRing Has texts es (x ∷ ys)) (sym (append-nil left)) ring
  ring-turned (f ∷ front) left x ring =
      let once = subst (IsRing Has texts es) (append_assoc front (x ∷ left) (f ∷ [])) (ring-once f (front ++ x ∷ left) ring) in
      subst (λ ys. IsRing Has texts es (x ∷ ys)) (append_assoc left (f ∷ []) front) (ring-turned front (left ++ f ∷ []) x once)

  -- The name of the type of one of them has the tags of all others.
  pub ring-named : (x : Placed) (xs : List Placed) → IsRing Has texts es (x ∷ xs) → type_name texts es x ≡ Ok (with_tags (tags_of xs) unknown)
  ring-named x xs ring =
      name-start texts es x
      ∙ chain-ends texts es Has xs x x (x.entry.offset ∷ []) [] ring.closed ring.links.1 (apart-more [] x xs ring.distinct.0 (apart-none xs)) ring.distinct.1
      (ap (λ b. (b || false) || is_one_of (offsets_of xs) x.entry.offset) (eq-eqb x.entry.offset x.entry.offset refl))

  -- A chain from an entry back to it is a ring.
  pub ring-closed : ((x w : Placed) → Has x → Has w → x.entry.offset ≡ w.entry.offset → type_of es x ≡ type_of es w) → (x : Placed) (xs : List Placed) → Leads es x (xs ++ x ∷ []) → is_one_of (offsets_of xs) x.entry.offset ≡ false → AreLinks Has texts (x ∷ xs) → IsRing Has texts es (x ∷ xs)
  ring-closed alike x xs leads none links = record { closed = leads; links = links; distinct = (none, distinct-chain Has texts es alike x x xs leads none links.1) }
