-- What a unit owes when an entry is added to it, or an attribute is set.
use Rattle.std.proofs.Common.{◌≡◌, ℕ, zero, suc, ◌+◌, ◌^◌, ◌<◌, ◌≤◌, refl, sym, ap, subst, ◌∙◌, arith, List, [], ◌∷◌, ◌++◌, length, length-append, get_or, Option, Some, None, Bool, true, false, is_some, eqb}
use Rattle.std.specs.Prelude.{slice_set, if◌then◌else◌}
use Rattle.std.specs.List.{All}
use Rattle.std.proofs.lemmas.List.Elements.{All-append, All-cons, All-nil, All-head, All-tail, All-weaker}
use Rattle.dwc_unit.specs.declared.attributes.Attribute.{Attribute}
use Rattle.dwc_unit.specs.declared.attributes.AttributeValue.{AttributeValue}
use Rattle.dwc_unit.specs.declared.attributes.AttributeValue.TheVariants.{Address, Constant, Flag, Block, Exprloc, StringRef, LineProgramRef, RangeListRef, LocationListRef, UnitRef, DebugInfoRef}
use Rattle.dwc_unit.specs.FileOrders.{no_addition}
use Rattle.dwc_unit.specs.GivenUnits.{Addition, GivenUnit, FitsAttribute, FitsMemory, FitsValue, FitsOperand, FitsAddition, FitsGivenUnit, IsPlaceBelow, set_attribute, set_in_addition, set_in, with_additions, with_value, with_child, with_next, with_known, place_of, tag_at, tag_of, AreBehindParents, IsRooted}

-- ---- attributes

set-fits : (size name : ℕ) (value : AttributeValue) (xs : List Attribute) → FitsAttribute size (record { name = name; value = value }) → All (FitsAttribute size) xs → All (FitsAttribute size) (set_attribute name value xs)
set-fits size name value [] new fits = All-cons (FitsAttribute size) _ [] new (All-nil (FitsAttribute size))
set-fits size name value (a ∷ xs) new fits = go (eqb a.name name) (set-fits size name value xs new (All-tail (FitsAttribute size) a xs fits))
  where
    go : (b : Bool) → All (FitsAttribute size) (set_attribute name value xs) → All (FitsAttribute size) (if b then record { name = name; value = value } ∷ xs else a ∷ set_attribute name value xs)
    go true others = All-cons (FitsAttribute size) _ xs new (All-tail (FitsAttribute size) a xs fits)
    go false others = All-cons (FitsAttribute size) a _ (All-head (FitsAttribute size) a xs fits) others

-- ---- entries that are looked up and changed

pub tag-of : (place : ℕ) (es : List Addition) → tag_at place es ≡ (get_or es place no_addition).tag
tag-of place [] = refl
tag-of zero (e ∷ es) = refl
tag-of (suc place) (e ∷ es) = tag-of place es

pub length-set_in : (place name : ℕ) (value : AttributeValue) (es : List Addition) → length (set_in place name value es) ≡ length es
length-set_in place name value [] = refl
length-set_in zero name value (e ∷ es) = refl
length-set_in (suc place) name value (e ∷ es) = ap suc (length-set_in place name value es)

set-all : (P : Addition → Type 0) (place name : ℕ) (value : AttributeValue) → ((e : Addition) → P e → P (set_in_addition name value e)) → (es : List Addition) → All P es → All P (set_in place name value es)
set-all P place name value keeps [] all = all
set-all P zero name value keeps (e ∷ es) all = All-cons P (set_in_addition name value e) es (keeps e (All-head P e es all)) (All-tail P e es all)
set-all P (suc place) name value keeps (e ∷ es) all = All-cons P e (set_in place name value es) (All-head P e es all) (set-all P place name value keeps es (All-tail P e es all))

set-behind : (from place name : ℕ) (value : AttributeValue) (es : List Addition) → AreBehindParents from es → AreBehindParents from (set_in place name value es)
set-behind from place name value [] behind = tt
set-behind from zero name value (e ∷ es) behind = behind
set-behind from (suc place) name value (e ∷ es) behind = (behind.0, set-behind (suc from) place name value es behind.1)

set-rooted : (place name : ℕ) (value : AttributeValue) (es : List Addition) → IsRooted es → IsRooted (set_in place name value es)
set-rooted place name value [] rooted = absurd rooted
set-rooted zero name value (e ∷ es) rooted = rooted
set-rooted (suc place) name value (e ∷ es) rooted = set-behind 1 place name value es rooted

-- A value that fits leaves the unit as it is to be.
pub set-kept : (u : GivenUnit) (place name : ℕ) (value : AttributeValue) → FitsGivenUnit u → name ≤ 65535 → FitsValue u.address_size name value → FitsMemory value → FitsGivenUnit (with_additions (set_in place name value u.additions) u)
set-kept u place name value fits small fit held =
    let same = length-set_in place name value u.additions in
    let few = fits.few in
    record {
      version = fits.version;
      size = fits.size;
      lines = fits.lines;
      rooted = set-rooted place name value u.additions fits.rooted;
      additions = set-all (FitsAddition u.address_size) place name value (λ e h. record { tag = h.tag; attributes = set-fits u.address_size name value e.attributes (record { name = small; value = fit; held = held }) h.attributes }) u.additions fits.additions;
      known = subst (λ n. All (IsPlaceBelow n) u.places) (sym same) fits.known;
      few = omega (arith, few, same);
    }

-- ---- numbers of entries

pub place_here : (id : ℕ) (ps : List (Option ℕ)) → is_some (place_of id ps) ≡ true → id < length ps
place_here id [] some = absurd (cc)
place_here zero (p ∷ ps) some = omega arith
place_here (suc id) (p ∷ ps) some = omega (arith, place_here id ps some)

pub place_get : (id : ℕ) (ps : List (Option ℕ)) (d : Option ℕ) → id < length ps → place_of id ps ≡ get_or ps id d
place_get id [] d within = absurd (omega arith)
place_get zero (p ∷ ps) d within = refl
place_get (suc id) (p ∷ ps) d within = place_get id ps d (omega arith)

pub none-added : (p : Option ℕ) → p ≡ None → is_some p ≡ true → ⊥
none-added None is some = absurd (cc)
none-added (Some place) is some = absurd (cc)

-- an entry that was added is there
pub place-below : (n id place : ℕ) (ps : List (Option ℕ)) → All (IsPlaceBelow n) ps → place_of id ps ≡ Some place → place < n
place-below n id place [] all is = absurd (cc)
place-below n zero place (p ∷ ps) all is = subst (IsPlaceBelow n) is (All-head (IsPlaceBelow n) p ps all)
place-below n (suc id) place (p ∷ ps) all is = place-below n id place ps (All-tail (IsPlaceBelow n) p ps all) is

pub value-placed : (u : GivenUnit) (id place name : ℕ) (value : AttributeValue) → place_of id u.places ≡ Some place → with_value id name value u ≡ with_additions (set_in place name value u.additions) u
value-placed u id place name value is = rw (is, with_value) refl

pub tag-placed : (u : GivenUnit) (id place : ℕ) → place_of id u.places ≡ Some place → tag_of id u ≡ tag_at place u.additions
tag-placed u id place is = rw (is, tag_of) refl

behind-push : (from : ℕ) (es : List Addition) (e : Addition) → AreBehindParents from es → e.parent < from + length es → AreBehindParents from (es ++ e ∷ [])
behind-push from [] e behind low = (omega (arith, low), tt)
behind-push from (x ∷ es) e behind low = (behind.0, behind-push (suc from) es e behind.1 (omega (arith, low)))

rooted-push : (es : List Addition) (e : Addition) → IsRooted es → e.parent < length es → IsRooted (es ++ e ∷ [])
rooted-push [] e rooted low = absurd rooted
rooted-push (r ∷ es) e rooted low = behind-push 1 es e rooted (omega (arith, low))

-- A further entry leaves the unit as it is to be; its number is a new one, or one that was reserved.
pub child-kept : (u : GivenUnit) (e : Addition) (ps : List (Option ℕ)) → FitsGivenUnit u → e.parent < length u.additions → e.tag ≤ 65535 → e.attributes ≡ [] → suc (length u.additions) < 2 ^ 63 → All (IsPlaceBelow (suc (length u.additions))) ps
    → FitsGivenUnit (record { version = u.version; address_size = u.address_size; lines = u.lines; places = ps; additions = u.additions ++ e ∷ [] })
child-kept u e ps fits low small none few known =
    let longer : length (u.additions ++ e ∷ []) ≡ suc (length u.additions) = omega (arith, length-append u.additions (e ∷ [])) in
    record {
      version = fits.version;
      size = fits.size;
      lines = fits.lines;
      rooted = rooted-push u.additions e fits.rooted low;
      additions = All-append (FitsAddition u.address_size) u.additions (e ∷ []) fits.additions
          (All-cons (FitsAddition u.address_size) e [] (record { tag = small; attributes = subst (λ xs. All (FitsAttribute u.address_size) xs) (sym none) (All-nil (FitsAttribute u.address_size)) }) (All-nil (FitsAddition u.address_size)));
      known = subst (λ n. All (IsPlaceBelow n) ps) (sym longer) known;
      few = omega (arith, longer, few);
    }

pub more-known : (n : ℕ) (ps : List (Option ℕ)) → All (IsPlaceBelow n) ps → All (IsPlaceBelow (suc n)) ps
more-known n ps known = All-weaker (IsPlaceBelow n) (IsPlaceBelow (suc n)) (λ p h. go p h) ps known
  where
    go : (p : Option ℕ) → IsPlaceBelow n p → IsPlaceBelow (suc n) p
    go None h = tt
    go (Some place) h = omega (arith, h)

pub next-known : (n : ℕ) (ps : List (Option ℕ)) → All (IsPlaceBelow n) ps → All (IsPlaceBelow (suc n)) (ps ++ Some n ∷ [])
next-known n ps known = All-append (IsPlaceBelow (suc n)) ps (Some n ∷ []) (more-known n ps known) (All-cons (IsPlaceBelow (suc n)) (Some n) [] (omega arith) (All-nil (IsPlaceBelow (suc n))))

pub reserved-known : (n : ℕ) (ps : List (Option ℕ)) → All (IsPlaceBelow n) ps → All (IsPlaceBelow n) (ps ++ None ∷ [])
reserved-known n ps known = All-append (IsPlaceBelow n) ps (None ∷ []) known (All-cons (IsPlaceBelow n) None [] tt (All-nil (IsPlaceBelow n)))

pub set-known : (n id : ℕ) (ps : List (Option ℕ)) → All (IsPlaceBelow n) ps → All (IsPlaceBelow (suc n)) (slice_set ps id (Some n))
set-known n id ps known = go id ps (more-known n ps known)
  where
    go : (id : ℕ) (ps : List (Option ℕ)) → All (IsPlaceBelow (suc n)) ps → All (IsPlaceBelow (suc n)) (slice_set ps id (Some n))
    go id [] all = all
    go zero (p ∷ ps) all = All-cons (IsPlaceBelow (suc n)) (Some n) ps (omega arith) (All-tail (IsPlaceBelow (suc n)) p ps all)
    go (suc id) (p ∷ ps) all = All-cons (IsPlaceBelow (suc n)) p (slice_set ps id (Some n)) (All-head (IsPlaceBelow (suc n)) p ps all) (go id ps (All-tail (IsPlaceBelow (suc n)) p ps all))

-- the place of a parent stays when a number is added, or when another one is set
place-append : (id place : ℕ) (ps qs : List (Option ℕ)) → place_of id ps ≡ Some place → place_of id (ps ++ qs) ≡ Some place
place-append id place [] qs is = absurd (cc)
place-append zero place (p ∷ ps) qs is = is
place-append (suc id) place (p ∷ ps) qs is = place-append id place ps qs is

place-set : (id other place n : ℕ) (ps : List (Option ℕ)) → place_of id ps ≡ Some place → place_of other ps ≡ None → place_of id (slice_set ps other (Some n)) ≡ Some place
place-set id other place n [] is none = absurd (cc)
place-set zero zero place n (p ∷ ps) is none = absurd (cc)
place-set zero (suc other) place n (p ∷ ps) is none = is
place-set (suc id) zero place n (p ∷ ps) is none = is
place-set (suc id) (suc other) place n (p ∷ ps) is none = place-set id other place n ps is none

pub child-next : (u : GivenUnit) (parent place tag : ℕ) → place_of parent u.places ≡ Some place
    → with_child parent tag (with_next u) ≡ record { version = u.version; address_size = u.address_size; lines = u.lines; places = u.places ++ Some (length u.additions) ∷ []; additions = u.additions ++ record { parent = place; tag = tag; attributes = [] } ∷ [] }
child-next u parent place tag is = let there = place-append parent place u.places (Some (length u.additions) ∷ []) is in rw (there, with_child) refl

pub child-known : (u : GivenUnit) (id parent place tag : ℕ) → place_of parent u.places ≡ Some place → place_of id u.places ≡ None
    → with_child parent tag (with_known id u) ≡ record { version = u.version; address_size = u.address_size; lines = u.lines; places = slice_set u.places id (Some (length u.additions)); additions = u.additions ++ record { parent = place; tag = tag; attributes = [] } ∷ [] }
child-known u id parent place tag is none = let there = place-set parent id place (length u.additions) u.places is none in rw (there, with_child) refl

-- A unit to which an entry was added is the one that is said, and as it is to be.
pub record IsAddedTo (u said : GivenUnit) (places : List (Option ℕ)) (additions : List Addition) : Type 0 where
  pub kept : FitsGivenUnit (record { version = u.version; address_size = u.address_size; lines = u.lines; places = places; additions = additions })
  pub is : record { version = u.version; address_size = u.address_size; lines = u.lines; places = places; additions = additions } ≡ said

pub added-next : (u : GivenUnit) (parent place tag n : ℕ) (places : List (Option ℕ)) (additions : List Addition) → FitsGivenUnit u → place_of parent u.places ≡ Some place → tag ≤ 65535 → n ≡ length u.additions → suc n < 2 ^ 63
    → additions ≡ u.additions ++ record { parent = place; tag = tag; attributes = [] } ∷ [] → places ≡ u.places ++ Some n ∷ [] → IsAddedTo u (with_child parent tag (with_next u)) places additions
added-next u parent place tag n places additions fits is small long few pushed numbered =
    let e : Addition = record { parent = place; tag = tag; attributes = [] } in
    let placed : places ≡ u.places ++ Some (length u.additions) ∷ [] = numbered ∙ ap (λ k. u.places ++ Some k ∷ []) long in
    let P : List (Option ℕ) → List Addition → GivenUnit = λ ps es. record { version = u.version; address_size = u.address_size; lines = u.lines; places = ps; additions = es } in
    let same : P places additions ≡ P (u.places ++ Some (length u.additions) ∷ []) (u.additions ++ e ∷ []) = ap (λ ps. P ps additions) placed ∙ ap (P (u.places ++ Some (length u.additions) ∷ [])) pushed in
    record {
      kept = subst FitsGivenUnit (sym same) (child-kept u e (u.places ++ Some (length u.additions) ∷ []) fits (place-below (length u.additions) parent place u.places fits.known is) small refl (omega (arith, long, few)) (next-known (length u.additions) u.places fits.known));
      is = same ∙ sym (child-next u parent place tag is);
    }

pub added-known : (u : GivenUnit) (id parent place tag n : ℕ) (places : List (Option ℕ)) (additions : List Addition) → FitsGivenUnit u → place_of parent u.places ≡ Some place → place_of id u.places ≡ None → tag ≤ 65535 → n ≡ length u.additions → suc n < 2 ^ 63
    → additions ≡ u.additions ++ record { parent = place; tag = tag; attributes = [] } ∷ [] → places ≡ slice_set u.places id (Some n) → IsAddedTo u (with_child parent tag (with_known id u)) places additions
added-known u id parent place tag n places additions fits is none small long few pushed numbered =
    let e : Addition = record { parent = place; tag = tag; attributes = [] } in
    let placed : places ≡ slice_set u.places id (Some (length u.additions)) = numbered ∙ ap (λ k. slice_set u.places id (Some k)) long in
    let P : List (Option ℕ) → List Addition → GivenUnit = λ ps es. record { version = u.version; address_size = u.address_size; lines = u.lines; places = ps; additions = es } in
    let same : P places additions ≡ P (slice_set u.places id (Some (length u.additions))) (u.additions ++ e ∷ []) = ap (λ ps. P ps additions) placed ∙ ap (P (slice_set u.places id (Some (length u.additions)))) pushed in
    record {
      kept = subst FitsGivenUnit (sym same) (child-kept u e (slice_set u.places id (Some (length u.additions))) fits (place-below (length u.additions) parent place u.places fits.known is) small refl (omega (arith, long, few)) (set-known (length u.additions) id u.places fits.known));
      is = same ∙ sym (child-known u id parent place tag is none);
    }

-- what writing asks of a value that fits
pub operand-fits : (size : ℕ) (a : Attribute) → FitsAttribute size a → FitsOperand size a.value
operand-fits size a fits = go a.value fits.value
  where
    go : (v : AttributeValue) → FitsValue size a.name v → FitsOperand size v
    go (Address x) h = h
    go (Constant form bits) h = tt
    go (Flag b) h = tt
    go (Block bytes) h = tt
    go (Exprloc e) h = tt
    go (StringRef id) h = tt
    go LineProgramRef h = tt
    go (RangeListRef list) h = tt
    go (LocationListRef list) h = tt
    go (UnitRef id) h = tt
    go (DebugInfoRef reference) h = tt
