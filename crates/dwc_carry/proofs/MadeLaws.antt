-- Units that are made as they are wanted: with more texts, and others behind them.
use Rattle.std.proofs.Common.{◌≡◌, ℕ, zero, suc, ◌+◌, ◌<◌, arith, refl, ap, sym, ◌∙◌, subst, List, [], ◌∷◌, ◌++◌, length, map, Option, Some, All}
use Rattle.std.specs.List.{flat_map, AllZip}
use Rattle.std.proofs.lemmas.List.{append-nil, append_assoc, length-append}
use Rattle.std.proofs.lemmas.List.Elements.{All-nil, All-cons, All-head, All-tail}
use Rattle.dwc_rules.specs.Carried.{WantedUnit}
use Rattle.dwc_dwarf.specs.Trees.{Tree}
use Rattle.std.specs.Prelude.{slice_get, option_map, option_and_then}
use Rattle.dwc_base.specs.declared.records.Encoding.{Encoding}
use Rattle.dwc_unit.specs.GivenUnits.{Addition, GivenUnit, place_of}
use Rattle.dwc_unit.specs.UsedTexts.{texts_of_attributes}
use Rattle.dwc_unit.specs.AddedInOrder.{IsInOrder, trees_meant}
use Rattle.dwc_unit.specs.Renumbered.{LeadsToEntries, place_at, renumbered_entry, renumbered_trees}
use Rattle.dwc_unit.proofs.AddedInOrderValues.{tree-meant-more}
use Rattle.dwc_source.specs.MadeValues.{Grows}
use Rattle.dwc_carry.specs.MadeUnits.{LeadsTo, IsMadeOf, AreMadeOf}

-- ---- tables of texts that grow

pub grows-same : (texts : List (List ℕ)) → Grows texts texts
grows-same texts = record { more = []; is = sym (append-nil texts) }

pub grows-twice : (a b c : List (List ℕ)) → Grows a b → Grows b c → Grows a c
grows-twice a b c h k = record { more = h.more ++ k.more; is = k.is ∙ ap (λ ts. ts ++ k.more) h.is ∙ append_assoc a h.more k.more }

-- ---- numbers of texts

pub all-both : {A : Type 0} (P : A → Type 0) (xs ys : List A) → All P xs → All P ys → All P (xs ++ ys)
all-both P [] ys h k = k
all-both P (x ∷ xs) ys h k = All-cons P x (xs ++ ys) (All-head P x xs h) (all-both P xs ys (All-tail P x xs h) k)

-- what all of each list have, all of the lists behind one another have
pub all-flat : {A B : Type 0} (P : B → Type 0) (f : A → List B) (xs : List A) → All (λ x. All P (f x)) xs → All P (flat_map f xs)
all-flat P f [] h = All-nil P
all-flat {A} P f (x ∷ xs) h =
    let Q : A → Type 0 = λ y. All P (f y) in
    all-both P (f x) (flat_map f xs) (All-head Q x xs h) (all-flat P f xs (All-tail Q x xs h))

pub all-more : {A : Type 0} (P Q : A → Type 0) → ((x : A) → P x → Q x) → (xs : List A) → All P xs → All Q xs
all-more P Q more [] h = All-nil Q
all-more P Q more (x ∷ xs) h = All-cons Q x xs (more x (All-head P x xs h)) (all-more P Q more xs (All-tail P x xs h))

-- ---- one unit

abbrev pub texts_of_entry : Addition → List ℕ
texts_of_entry e = texts_of_attributes e.attributes

-- what names texts of a table names texts of a larger one
texts-more : (texts more : List (List ℕ)) (es : List Addition) → All (λ e. All (λ n. n < length texts) (texts_of_attributes e.attributes)) es → All (λ e. All (λ n. n < length (texts ++ more)) (texts_of_attributes e.attributes)) es
texts-more texts more es h =
    let P : ℕ → Type 0 = λ n. n < length texts in
    let Q : ℕ → Type 0 = λ n. n < length (texts ++ more) in
    all-more (λ (e : Addition). All P (texts_of_entry e)) (λ (e : Addition). All Q (texts_of_entry e))
    (λ e has. all-more P Q (λ n less. omega (arith, less, length-append texts more)) (texts_of_entry e) has) es h

made-with : (at : ℕ → ℕ → Option (ℕ × ℕ)) (encoding : Encoding) (texts more : List (List ℕ)) (number : ℕ) (c : WantedUnit) (t : Tree) (u : GivenUnit) → IsMadeOf at encoding texts number c t u → IsMadeOf at encoding (texts ++ more) number c t u
made-with at encoding texts more number c t u h = record {
  has_lines = h.has_lines;
  depths = h.depths;
  order = h.order;
  leads = h.leads;
  says = ap (map (renumbered_entry at)) (tree-meant-more texts more number h.depths u.additions (all-flat (λ n. n < length texts) texts_of_entry u.additions h.texts)) ∙ h.says;
  texts = texts-more texts more u.additions h.texts;
  writable = h.writable;
}

-- ---- units in order

made-more-with : (at : ℕ → ℕ → Option (ℕ × ℕ)) (encoding : Encoding) (texts more : List (List ℕ)) (number : ℕ) (cs : List WantedUnit) (ts : List Tree) (us : List GivenUnit) → AreMadeOf at encoding texts number cs ts us → AreMadeOf at encoding (texts ++ more) number cs ts us
made-more-with at encoding texts more number [] [] [] h = h
made-more-with at encoding texts more number [] [] (u ∷ us) h = absurd h
made-more-with at encoding texts more number [] (t ∷ ts) us h = absurd h
made-more-with at encoding texts more number (c ∷ cs) [] us h = absurd h
made-more-with at encoding texts more number (c ∷ cs) (t ∷ ts) [] h = absurd h
made-more-with at encoding texts more number (c ∷ cs) (t ∷ ts) (u ∷ us) h = (made-with at encoding texts more number c t u h.0, made-more-with at encoding texts more (suc number) cs ts us h.1)

-- Units say the same with more texts.
pub made-grown : (at : ℕ → ℕ → Option (ℕ × ℕ)) (encoding : Encoding) (old new : List (List ℕ)) (number : ℕ) (cs : List WantedUnit) (ts : List Tree) (us : List GivenUnit) → Grows old new → AreMadeOf at encoding old number cs ts us → AreMadeOf at encoding new number cs ts us
made-grown at encoding old new number cs ts us grows h = subst (λ texts. AreMadeOf at encoding texts number cs ts us) (sym grows.is) (made-more-with at encoding old grows.more number cs ts us h)

-- There is one for each tree.
pub made-length : (at : ℕ → ℕ → Option (ℕ × ℕ)) (encoding : Encoding) (texts : List (List ℕ)) (number : ℕ) (cs : List WantedUnit) (ts : List Tree) (us : List GivenUnit) → AreMadeOf at encoding texts number cs ts us → length ts ≡ length us
made-length at encoding texts number [] [] [] h = refl
made-length at encoding texts number [] [] (u ∷ us) h = absurd h
made-length at encoding texts number [] (t ∷ ts) us h = absurd h
made-length at encoding texts number (c ∷ cs) [] us h = absurd h
made-length at encoding texts number (c ∷ cs) (t ∷ ts) [] h = absurd h
made-length at encoding texts number (c ∷ cs) (t ∷ ts) (u ∷ us) h = ap suc (made-length at encoding texts (suc number) cs ts us h.1)

-- others behind them
pub made-both : (at : ℕ → ℕ → Option (ℕ × ℕ)) (encoding : Encoding) (texts : List (List ℕ)) (number next : ℕ) (cs ds : List WantedUnit) (ts ws : List Tree) (us vs : List GivenUnit) → next ≡ number + length us
    → AreMadeOf at encoding texts number cs ts us → AreMadeOf at encoding texts next ds ws vs → AreMadeOf at encoding texts number (cs ++ ds) (ts ++ ws) (us ++ vs)
made-both at encoding texts number next [] ds [] ws [] vs is h k =
    let same : next ≡ number = omega (arith, is) in
    subst (λ n. AreMadeOf at encoding texts n ds ws vs) same k
made-both at encoding texts number next [] ds [] ws (u ∷ us) vs is h k = absurd h
made-both at encoding texts number next [] ds (t ∷ ts) ws us vs is h k = absurd h
made-both at encoding texts number next (c ∷ cs) ds [] ws us vs is h k = absurd h
made-both at encoding texts number next (c ∷ cs) ds (t ∷ ts) ws [] vs is h k = absurd h
made-both at encoding texts number next (c ∷ cs) ds (t ∷ ts) ws (u ∷ us) vs is h k = (h.0, made-both at encoding texts (suc number) next cs ds ts ws us vs (omega (arith, is)) h.1 k)

-- Their entries are in file order, and say the trees where numbers are put to places.
pub record SayInOrder (at : ℕ → ℕ → Option (ℕ × ℕ)) (texts : List (List ℕ)) (number : ℕ) (ts : List Tree) (us : List GivenUnit) : Type 0 where
  pub depths : List (List ℕ)
  pub orders : AllZip IsInOrder depths us
  pub leads : All LeadsToEntries us
  pub says : renumbered_trees at (trees_meant texts number depths us) ≡ ts

pub made-in-order : (at : ℕ → ℕ → Option (ℕ × ℕ)) (encoding : Encoding) (texts : List (List ℕ)) (number : ℕ) (cs : List WantedUnit) (ts : List Tree) (us : List GivenUnit) → AreMadeOf at encoding texts number cs ts us → SayInOrder at texts number ts us
made-in-order at encoding texts number [] [] [] h = record { depths = []; orders = tt; leads = All-nil LeadsToEntries; says = refl }
made-in-order at encoding texts number [] [] (u ∷ us) h = absurd h
made-in-order at encoding texts number [] (t ∷ ts) us h = absurd h
made-in-order at encoding texts number (c ∷ cs) [] us h = absurd h
made-in-order at encoding texts number (c ∷ cs) (t ∷ ts) [] h = absurd h
made-in-order at encoding texts number (c ∷ cs) (t ∷ ts) (u ∷ us) h =
    let rest = made-in-order at encoding texts (suc number) cs ts us h.1 in
    record {
      depths = h.0.depths ∷ rest.depths;
      orders = (h.0.order, rest.orders);
      leads = All-cons LeadsToEntries u us h.0.leads rest.leads;
      says = ap (λ x. x ∷ renumbered_trees at (trees_meant texts (suc number) rest.depths us)) h.0.says ∙ ap (λ xs. t ∷ xs) rest.says;
    }

-- ---- numbers that lead to places

-- The places of all units' entries are those of their numbers.
pub leads-there : (us : List GivenUnit) → LeadsTo (place_at us) 0 us
leads-there us i u there number place at =
    let same : i ≡ 0 + i = omega arith in
    subst (λ k. place_at us k number ≡ Some (k, place)) same (ap (λ (o : Option GivenUnit). option_map (λ (p : ℕ). (i, p)) (option_and_then (λ (v : GivenUnit). place_of number v.places) o)) there ∙ ap (option_map (λ (p : ℕ). (i, p))) at)

get-front : (us vs : List GivenUnit) (i : ℕ) (u : GivenUnit) → slice_get us i ≡ Some u → slice_get (us ++ vs) i ≡ Some u
get-front [] vs i u h = absurd (cc)
get-front (x ∷ us) vs zero u h = h
get-front (x ∷ us) vs (suc i) u h = get-front us vs i u h

get-behind : (us vs : List GivenUnit) (i : ℕ) → slice_get (us ++ vs) (length us + i) ≡ slice_get vs i
get-behind [] vs i = ap (slice_get vs) (omega arith)
get-behind (x ∷ us) vs i =
    let next : suc (length us) + i ≡ suc (length us + i) = omega arith in
    ap (slice_get (x ∷ (us ++ vs))) next ∙ get-behind us vs i

-- Those of a part lead to their places too.
pub leads-front : (at : ℕ → ℕ → Option (ℕ × ℕ)) (number : ℕ) (us vs : List GivenUnit) → LeadsTo at number (us ++ vs) → LeadsTo at number us
leads-front at number us vs leads i u there n place is = leads i u (get-front us vs i u there) n place is

pub leads-behind : (at : ℕ → ℕ → Option (ℕ × ℕ)) (number next : ℕ) (us vs : List GivenUnit) → next ≡ number + length us → LeadsTo at number (us ++ vs) → LeadsTo at next vs
leads-behind at number next us vs counted leads i u there n place is =
    let same : number + (length us + i) ≡ next + i = omega (arith, counted) in
    subst (λ k. at k n ≡ Some (k, place)) same (leads (length us + i) u (get-behind us vs i ∙ there) n place is)
