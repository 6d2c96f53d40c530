-- A unit in file order: its entries fit as they did, they are a tree, and there are no more of them.
use Rattle.std.proofs.Common.{◌≡◌, ℕ, suc, ◌+◌, ◌<◌, ◌≤◌, refl, sym, ap, subst, ◌∙◌, arith, List, [], ◌∷◌, ◌++◌, append_assoc, append-nil, length, length-append, map, get_or, Bool, true, false, eqb}
use Rattle.std.specs.Prelude.{if◌then◌else◌}
use Rattle.std.specs.List.{All}
use Rattle.std.proofs.lemmas.Bool.{eqb-true, eqb-false}
use Rattle.std.proofs.lemmas.List.{get_or-map}
use Rattle.std.proofs.lemmas.List.Elements.{All-head, All-tail, All-cons, All-nil, All-append}
use Rattle.dwc_unit.specs.declared.lists.ListPlaces.{ListPlaces}
use Rattle.dwc_unit.specs.SpelledUnits.{shaped}
use Rattle.dwc_unit.specs.declared.attributes.Attribute.{Attribute}
use Rattle.dwc_unit.specs.GivenUnits.{Addition, EntryShape, GivenEntry, GivenUnit, Places, written_entries, entry_at, below, in_file_order, ordered, FitsAddition, FitsGivenUnit, FitsEntry, FitsOrdered, AreBelow, IsTree, IsRooted}

-- ---- attributes

below-fits : (size depth parent place : ℕ) (es : List Addition) → All (FitsAddition size) es → All (FitsEntry size) (below depth parent place es)
below-fits size depth parent place [] fits = All-nil (FitsEntry size)
below-fits size depth parent place (e ∷ es) fits =
    go (eqb e.parent parent) (All-head (FitsAddition size) e es fits) (below-fits size (suc depth) place (suc place) es (All-tail (FitsAddition size) e es fits)) (below-fits size depth parent (suc place) es (All-tail (FitsAddition size) e es fits))
  where
    go : (b : Bool) → FitsAddition size e → All (FitsEntry size) (below (suc depth) place (suc place) es) → All (FitsEntry size) (below depth parent (suc place) es)
        → All (FitsEntry size) (if b then entry_at depth place e ∷ (below (suc depth) place (suc place) es ++ below depth parent (suc place) es) else below depth parent (suc place) es)
    go true here inner behind = All-cons (FitsEntry size) (entry_at depth place e) _ (record { tag = here.tag; attributes = here.attributes }) (All-append (FitsEntry size) (below (suc depth) place (suc place) es) (below depth parent (suc place) es) inner behind)
    go false here inner behind = behind

order-fits : (size : ℕ) (es : List Addition) → All (FitsAddition size) es → All (FitsEntry size) (in_file_order es)
order-fits size [] fits = All-nil (FitsEntry size)
order-fits size (r ∷ es) fits =
    let here = All-head (FitsAddition size) r es fits in
    All-cons (FitsEntry size) (entry_at 0 0 r) (below 1 0 1 es) (record { tag = here.tag; attributes = here.attributes }) (below-fits size 1 0 1 es (All-tail (FitsAddition size) r es fits))

-- ---- depths

-- Behind the entries below a parent, what may follow an entry of their depth or deeper may follow.
below-tree : (depth before parent place : ℕ) (es : List Addition) (rest : List GivenEntry) → 0 < depth → depth ≤ suc before → ((n : ℕ) → depth ≤ suc n → AreBelow n rest) → AreBelow before (below depth parent place es ++ rest)
below-tree depth before parent place [] rest some near follows = follows before near
below-tree depth before parent place (e ∷ es) rest some near follows =
    go (eqb e.parent parent)
    (below-tree (suc depth) depth place (suc place) es (below depth parent (suc place) es ++ rest) (omega arith) (omega arith) (λ n deep. below-tree depth n parent (suc place) es rest some (omega (arith, deep)) follows))
    (below-tree depth before parent (suc place) es rest some near follows)
  where
    go : (b : Bool) → AreBelow depth (below (suc depth) place (suc place) es ++ (below depth parent (suc place) es ++ rest)) → AreBelow before (below depth parent (suc place) es ++ rest)
        → AreBelow before ((if b then entry_at depth place e ∷ (below (suc depth) place (suc place) es ++ below depth parent (suc place) es) else below depth parent (suc place) es) ++ rest)
    go true inner behind = (some, near, subst (AreBelow depth) (sym (append_assoc (below (suc depth) place (suc place) es) (below depth parent (suc place) es) rest)) inner)
    go false inner behind = behind

order-tree : (es : List Addition) → IsRooted es → IsTree (in_file_order es)
order-tree [] rooted = absurd rooted
order-tree (r ∷ es) rooted = (refl, subst (AreBelow 0) (append-nil (below 1 0 1 es)) (below-tree 1 0 0 1 es [] (omega arith) (omega arith) (λ n near. tt)))

-- ---- how many there are

-- how many entries are below each of some parents, together
abbrev count_below : List ℕ → ℕ → List Addition → ℕ
count_below [] place es = 0
count_below (p ∷ ps) place es = length (below 0 p place es) + count_below ps place es

-- numbers below one that fall
abbrev Fall : ℕ → List ℕ → Type 0
Fall high [] = Unit {0}
Fall high (p ∷ ps) = (p < high) × Fall p ps

depth-free : (a b parent place : ℕ) (es : List Addition) → length (below a parent place es) ≡ length (below b parent place es)
depth-free a b parent place [] = refl
depth-free a b parent place (e ∷ es) = go (eqb e.parent parent) (depth-free (suc a) (suc b) place (suc place) es) (depth-free a b parent (suc place) es)
  where
    go : (c : Bool) → length (below (suc a) place (suc place) es) ≡ length (below (suc b) place (suc place) es) → length (below a parent (suc place) es) ≡ length (below b parent (suc place) es)
        → length (if c then entry_at a place e ∷ (below (suc a) place (suc place) es ++ below a parent (suc place) es) else below a parent (suc place) es)
        ≡ length (if c then entry_at b place e ∷ (below (suc b) place (suc place) es ++ below b parent (suc place) es) else below b parent (suc place) es)
    go true inner behind = omega (arith, inner, behind, length-append (below (suc a) place (suc place) es) (below a parent (suc place) es), length-append (below (suc b) place (suc place) es) (below b parent (suc place) es))
    go false inner behind = behind

-- an entry is below one of the parents at most
below-other : (p place : ℕ) (e : Addition) (es : List Addition) → eqb e.parent p ≡ false → length (below 0 p place (e ∷ es)) ≡ length (below 0 p (suc place) es)
below-other p place e es apart = ap (λ b. length (if b then entry_at 0 place e ∷ (below 1 place (suc place) es ++ below 0 p (suc place) es) else below 0 p (suc place) es)) apart

below-its : (p place : ℕ) (e : Addition) (es : List Addition) → eqb e.parent p ≡ true → length (below 0 p place (e ∷ es)) ≡ suc (length (below 0 place (suc place) es) + length (below 0 p (suc place) es))
below-its p place e es same =
    ap (λ b. length (if b then entry_at 0 place e ∷ (below 1 place (suc place) es ++ below 0 p (suc place) es) else below 0 p (suc place) es)) same
    ∙ ap suc (length-append (below 1 place (suc place) es) (below 0 p (suc place) es) ∙ ap (λ n. n + length (below 0 p (suc place) es)) (depth-free 1 0 place (suc place) es))

others-same : (high place : ℕ) (e : Addition) (es : List Addition) (ps : List ℕ) → high ≤ e.parent → Fall high ps → count_below ps place (e ∷ es) ≡ count_below ps (suc place) es
others-same high place e es [] above fall = refl
others-same high place e es (p ∷ ps) above fall =
    let low = fall.0 in
    let apart : eqb e.parent p ≡ false = go (eqb e.parent p) refl (omega (arith, low, above)) in
    omega (arith, below-other p place e es apart, others-same p place e es ps (omega (arith, low, above)) fall.1)
  where
    go : (b : Bool) → eqb e.parent p ≡ b → p < e.parent → b ≡ false
    go true is low = let same = eqb-true e.parent p is in absurd (omega (arith, same, low))
    go false is low = refl

one-more : (high place : ℕ) (e : Addition) (es : List Addition) (ps : List ℕ) → Fall high ps → count_below ps place (e ∷ es) ≤ suc (length (below 0 place (suc place) es) + count_below ps (suc place) es)
one-more high place e es [] fall = omega arith
one-more high place e es (p ∷ ps) fall = go (eqb e.parent p) refl (one-more p place e es ps fall.1)
  where
    go : (b : Bool) → eqb e.parent p ≡ b → count_below ps place (e ∷ es) ≤ suc (length (below 0 place (suc place) es) + count_below ps (suc place) es) → count_below (p ∷ ps) place (e ∷ es) ≤ suc (length (below 0 place (suc place) es) + count_below (p ∷ ps) (suc place) es)
    go true is others =
        let same = eqb-true e.parent p is in
        omega (arith, below-its p place e es is, others-same p place e es ps (omega (arith, same)) fall.1)
    go false is others = omega (arith, below-other p place e es is, others)

counted : (place : ℕ) (es : List Addition) (ps : List ℕ) → Fall place ps → count_below ps place es ≤ length es
counted place [] ps fall = omega (arith, none ps)
  where
    none : (ps : List ℕ) → count_below ps place [] ≡ 0
    none [] = refl
    none (p ∷ ps) = omega (arith, none ps)
counted place (e ∷ es) ps fall =
    let more = one-more place place e es ps fall in
    let rest = counted (suc place) es (place ∷ ps) (omega arith, fall) in
    omega (arith, more, rest)

pub order-length : (es : List Addition) → length (in_file_order es) ≤ length es
order-length [] = omega arith
order-length (r ∷ es) = let all = counted 1 es (0 ∷ []) (omega arith, tt) in omega (arith, all, depth-free 1 0 0 1 es)

-- A unit that is given is as it is to be in file order.
pub ordered-fits : (u : GivenUnit) → FitsGivenUnit u → FitsOrdered (ordered u)
ordered-fits u fits =
    let few = fits.few in
    record {
      version = fits.version;
      size = fits.size;
      lines = fits.lines;
      tree = order-tree u.additions fits.rooted;
      entries = order-fits u.address_size u.additions fits.additions;
      few = omega (arith, few, order-length u.additions);
    }

-- a unit that is looked up
pub unit-seen : (us : List GivenUnit) (i : ℕ) (u : GivenUnit) → i < length us → u ≡ get_or us i u → get_or (map ordered us) i (ordered u) ≡ ordered u
unit-seen us i u within is = get_or-map ordered us i u (ordered u) within ∙ ap ordered (sym is)

-- ---- entries that were all added below the root, without a number reserved before

-- the children of the root, from a place on
abbrev pub siblings : ℕ → List Addition → List GivenEntry
siblings place [] = []
siblings place (e ∷ es) = entry_at 1 place e ∷ siblings (suc place) es

below-none : (depth parent place : ℕ) (es : List Addition) → 0 < parent → All (λ e. e.parent ≡ 0) es → below depth parent place es ≡ []
below-none depth parent place [] some all = refl
below-none depth parent place (e ∷ es) some all =
    let root = All-head (λ (x : Addition). x.parent ≡ 0) e es all in
    go (eqb e.parent parent) refl root (below-none depth parent (suc place) es some (All-tail (λ (x : Addition). x.parent ≡ 0) e es all))
  where
    go : (b : Bool) → eqb e.parent parent ≡ b → e.parent ≡ 0 → below depth parent (suc place) es ≡ [] → (if b then entry_at depth place e ∷ (below (suc depth) place (suc place) es ++ below depth parent (suc place) es) else below depth parent (suc place) es) ≡ []
    go true is root none = let same = eqb-true e.parent parent is in absurd (omega (arith, same, root, some))
    go false is root none = none

pub below-listed : (place : ℕ) (es : List Addition) → 0 < place → All (λ e. e.parent ≡ 0) es → below 1 0 place es ≡ siblings place es
below-listed place [] some all = refl
below-listed place (e ∷ es) some all =
    let root = All-head (λ (x : Addition). x.parent ≡ 0) e es all in
    let others = All-tail (λ (x : Addition). x.parent ≡ 0) e es all in
    go (eqb e.parent 0) refl root (below-none 2 place (suc place) es some others) (below-listed (suc place) es (omega arith) others)
  where
    go : (b : Bool) → eqb e.parent 0 ≡ b → e.parent ≡ 0 → below 2 place (suc place) es ≡ [] → below 1 0 (suc place) es ≡ siblings (suc place) es → (if b then entry_at 1 place e ∷ (below 2 place (suc place) es ++ below 1 0 (suc place) es) else below 1 0 (suc place) es) ≡ entry_at 1 place e ∷ siblings (suc place) es
    go true is root none rest = rw (none) (ap (λ xs. entry_at 1 place e ∷ xs) rest)
    go false is root none rest = absurd (eqb-false e.parent 0 is root)

-- A root that stands alone is written without children, and ends no list of them.
pub root-alone : (next : ListPlaces → List Attribute → ListPlaces) (p : Places) (lists : ListPlaces) (shapes : List EntryShape) (root : Addition) → map {B = Bool × ℕ} (λ x. (x.has_children, x.ends)) (shaped (written_entries next p lists shapes (in_file_order (root ∷ [])))) ≡ (false, 0) ∷ []
root-alone next p lists shapes root = refl
