-- What values mean in units whose entries were added in file order: with more texts (`value-meant-more`), of attributes that are set
-- (`set-meant`), and of entries and units more (`tree-more`, `trees-more`).
use Rattle.std.proofs.Common.{◌≡◌, ℕ, suc, ◌+◌, ◌<◌, refl, sym, ap, ◌∙◌, arith, List, [], ◌∷◌, ◌++◌, length, map, Bool, true, false}
use Rattle.std.specs.Prelude.{◌==◌, if◌then◌else◌}
use Rattle.std.specs.List.{All, AllZip, flat_map}
use Rattle.std.proofs.lemmas.Bool.{eq-eqb, eqb-true, eqb-false, ne_eqb}
use Rattle.std.proofs.lemmas.List.{get_or_append_left}
use Rattle.std.proofs.lemmas.List.Elements.{All-head}
use Rattle.dwc_dwarf.specs.Trees as Trees
use Rattle.dwc_dwarf.specs.Trees.{TreeEntry, TreeValue, text}
use Rattle.dwc_unit.specs.declared.attributes.Attribute.{Attribute}
use Rattle.dwc_unit.specs.declared.attributes.AttributeValue.{AttributeValue}
use Rattle.dwc_unit.specs.declared.attributes.AttributeValue.TheVariants.{Address, Constant, Flag, Block, Exprloc, StringRef, LineProgramRef, RangeListRef, LocationListRef, UnitRef, DebugInfoRef}
use Rattle.dwc_unit.specs.declared.attributes.DebugInfoRef.TheVariants.{Entry}
use Rattle.dwc_unit.specs.GivenUnits.{Addition, GivenUnit, ordered, set_attribute}
use Rattle.dwc_unit.specs.UsedTexts.{text_of_value, texts_named, texts_of_attributes, texts_of_entries}
use Rattle.dwc_unit.specs.AddedInOrder.{IsInOrder, attribute_meant, entries_with, entry_meant, tree_meant, trees_meant, value_meant}
use Rattle.dwc_unit.proofs.ReadValues.{All-back, All-front}
use Rattle.dwc_unit.proofs.AddedInOrder.{in-order-listed}

-- ---- more texts

-- A value means the same with more texts, where the one that it names is there.
pub value-meant-more : (texts more : List (List ℕ)) (number : ℕ) (v : AttributeValue) → All (λ n. n < length texts) (text_of_value v) → value_meant (texts ++ more) number v ≡ value_meant texts number v
value-meant-more texts more number (Address a) known = refl
value-meant-more texts more number (Constant form bits) known = refl
value-meant-more texts more number (Flag b) known = refl
value-meant-more texts more number (Block bytes) known = refl
value-meant-more texts more number (Exprloc e) known = refl
value-meant-more texts more number (StringRef id) known = ap text (get_or_append_left texts more [] id.index (All-head (λ n. n < length texts) id.index [] known))
value-meant-more texts more number LineProgramRef known = refl
value-meant-more texts more number (RangeListRef list) known = refl
value-meant-more texts more number (LocationListRef list) known = refl
value-meant-more texts more number (UnitRef id) known = refl
value-meant-more texts more number (DebugInfoRef (Entry unit id)) known = refl

-- The same of attributes, of an entry and of a unit.
pub attributes-meant-more : (texts more : List (List ℕ)) (number : ℕ) (xs : List Attribute) → All (λ n. n < length texts) (texts_of_attributes xs) → map (attribute_meant (texts ++ more) number) xs ≡ map (attribute_meant texts number) xs
attributes-meant-more texts more number [] known = refl
attributes-meant-more texts more number (x ∷ xs) known =
    ap (λ v. (x.name, v) ∷ map (attribute_meant (texts ++ more) number) xs) (value-meant-more texts more number x.value (All-front (λ n. n < length texts) (text_of_value x.value) (texts_of_attributes xs) known))
    ∙ ap (λ ys. attribute_meant texts number x ∷ ys) (attributes-meant-more texts more number xs (All-back (λ n. n < length texts) (text_of_value x.value) (texts_of_attributes xs) known))

pub entry-meant-more : (texts more : List (List ℕ)) (number depth : ℕ) (e : Addition) → All (λ n. n < length texts) (texts_of_attributes e.attributes) → entry_meant (texts ++ more) number depth e ≡ entry_meant texts number depth e
entry-meant-more texts more number depth e known =
    let E : List (ℕ × TreeValue) → TreeEntry = λ attributes. record { depth = depth; tag = e.tag; attributes = attributes } in
    ap E (attributes-meant-more texts more number e.attributes known)

pub tree-meant-more : (texts more : List (List ℕ)) (number : ℕ) (ds : List ℕ) (es : List Addition) → All (λ n. n < length texts) (flat_map (λ e. texts_of_attributes e.attributes) es) → tree_meant (texts ++ more) number ds es ≡ tree_meant texts number ds es
tree-meant-more texts more number [] es known = refl
tree-meant-more texts more number (d ∷ ds) [] known = refl
tree-meant-more texts more number (d ∷ ds) (e ∷ es) known =
    let behind = flat_map (λ (x : Addition). texts_of_attributes x.attributes) es in
    ap (λ t. t ∷ tree_meant (texts ++ more) number ds es) (entry-meant-more texts more number d e (All-front (λ n. n < length texts) (texts_of_attributes e.attributes) behind known))
    ∙ ap (λ ts. entry_meant texts number d e ∷ ts) (tree-meant-more texts more number ds es (All-back (λ n. n < length texts) (texts_of_attributes e.attributes) behind known))

pub trees-meant-more : (texts more : List (List ℕ)) (number : ℕ) (dss : List (List ℕ)) (us : List GivenUnit) → All (λ n. n < length texts) (flat_map (λ u. flat_map (λ e. texts_of_attributes e.attributes) u.additions) us) → trees_meant (texts ++ more) number dss us ≡ trees_meant texts number dss us
trees-meant-more texts more number [] us known = refl
trees-meant-more texts more number (ds ∷ dss) [] known = refl
trees-meant-more texts more number (ds ∷ dss) (u ∷ us) known =
    let here = flat_map (λ (e : Addition). texts_of_attributes e.attributes) u.additions in
    let behind = flat_map (λ (v : GivenUnit). flat_map (λ e. texts_of_attributes e.attributes) v.additions) us in
    ap (λ t. t ∷ trees_meant (texts ++ more) (suc number) dss us) (tree-meant-more texts more number ds u.additions (All-front (λ n. n < length texts) here behind known))
    ∙ ap (λ ts. tree_meant texts number ds u.additions ∷ ts) (trees-meant-more texts more (suc number) dss us (All-back (λ n. n < length texts) here behind known))

-- Units in file order name the texts that their entries name.
listed-texts : (place : ℕ) (ds : List ℕ) (es : List Addition) → length ds ≡ length es → texts_of_entries (entries_with place ds es) ≡ flat_map (λ e. texts_of_attributes e.attributes) es
listed-texts place [] [] same = refl
listed-texts place [] (e ∷ es) same = absurd (omega (arith, same))
listed-texts place (d ∷ ds) [] same = absurd (omega (arith, same))
listed-texts place (d ∷ ds) (e ∷ es) same = ap (λ ts. texts_of_attributes e.attributes ++ ts) (listed-texts (suc place) ds es (omega (arith, same)))

pub texts-in-order : (dss : List (List ℕ)) (us : List GivenUnit) → AllZip IsInOrder dss us → texts_named (map ordered us) ≡ flat_map (λ u. flat_map (λ e. texts_of_attributes e.attributes) u.additions) us
texts-in-order [] [] orders = refl
texts-in-order [] (u ∷ us) orders = absurd orders
texts-in-order (ds ∷ dss) [] orders = absurd orders
texts-in-order (ds ∷ dss) (u ∷ us) orders =
    ap (λ ts. ts ++ texts_named (map ordered us)) (ap texts_of_entries (in-order-listed ds u.additions orders.0) ∙ listed-texts 0 ds u.additions orders.0.counted)
    ∙ ap (λ ts. flat_map (λ (e : Addition). texts_of_attributes e.attributes) u.additions ++ ts) (texts-in-order dss us orders.1)

-- ---- a value that is set

eqb-turned : (a b : ℕ) → (a == b) ≡ (b == a)
eqb-turned a b = go (b == a) refl
  where
    go : (c : Bool) → (b == a) ≡ c → (a == b) ≡ c
    go true e = eq-eqb a b (sym (eqb-true b a e))
    go false e = ne_eqb a b (λ same. absurd (eqb-false b a e (sym same)))

-- A value that is set under a name means a value that is set under it.
pub set-meant : (texts : List (List ℕ)) (number name : ℕ) (value : AttributeValue) (xs : List Attribute) → map (attribute_meant texts number) (set_attribute name value xs) ≡ Trees.set_attribute (name, value_meant texts number value) (map (attribute_meant texts number) xs)
set-meant texts number name value [] = refl
set-meant texts number name value (x ∷ xs) = ap choose (eqb-turned x.name name) ∙ go (name == x.name) (set-meant texts number name value xs)
  where
    new : ℕ × TreeValue
    new = (name, value_meant texts number value)

    choose : Bool → List (ℕ × TreeValue)
    choose b = map (attribute_meant texts number) (if b then record { name = name; value = value } ∷ xs else x ∷ set_attribute name value xs)

    go : (b : Bool) → map (attribute_meant texts number) (set_attribute name value xs) ≡ Trees.set_attribute new (map (attribute_meant texts number) xs)
        → choose b ≡ (if b then new ∷ map (attribute_meant texts number) xs else attribute_meant texts number x ∷ Trees.set_attribute new (map (attribute_meant texts number) xs))
    go true rest = refl
    go false rest = ap (λ ys. attribute_meant texts number x ∷ ys) rest

-- ---- an entry more, a unit more

pub tree-more : (texts : List (List ℕ)) (number : ℕ) (ds : List ℕ) (d : ℕ) (es : List Addition) (e : Addition) → length ds ≡ length es → tree_meant texts number (ds ++ d ∷ []) (es ++ e ∷ []) ≡ tree_meant texts number ds es ++ entry_meant texts number d e ∷ []
tree-more texts number [] d [] e same = refl
tree-more texts number [] d (x ∷ es) e same = absurd (omega (arith, same))
tree-more texts number (c ∷ ds) d [] e same = absurd (omega (arith, same))
tree-more texts number (c ∷ ds) d (x ∷ es) e same = ap (λ ts. entry_meant texts number c x ∷ ts) (tree-more texts number ds d es e (omega (arith, same)))

pub trees-more : (texts : List (List ℕ)) (number : ℕ) (dss : List (List ℕ)) (ds : List ℕ) (us : List GivenUnit) (u : GivenUnit) → length dss ≡ length us → trees_meant texts number (dss ++ ds ∷ []) (us ++ u ∷ []) ≡ trees_meant texts number dss us ++ tree_meant texts (number + length us) ds u.additions ∷ []
trees-more texts number [] ds [] u same = ap (λ n. tree_meant texts n ds u.additions ∷ []) (omega arith)
trees-more texts number [] ds (v ∷ us) u same = absurd (omega (arith, same))
trees-more texts number (cs ∷ dss) ds [] u same = absurd (omega (arith, same))
trees-more texts number (cs ∷ dss) ds (v ∷ us) u same =
    ap (λ ts. tree_meant texts number cs v.additions ∷ ts)
    (trees-more texts (suc number) dss ds us u (omega (arith, same)) ∙ ap (λ n. trees_meant texts (suc number) dss us ++ tree_meant texts n ds u.additions ∷ []) (omega arith))
