-- The values that the last entry of a unit is given, one behind another, and what the attributes of an entry become.
use Rattle.std.proofs.Common.{◌≡◌, ℕ, ◌<◌, refl, sym, ap, ap₂, subst, ◌∙◌, arith, List, [], ◌∷◌, ◌++◌, ◌+◌, drop, take, get_or, length, length-append, map, Option, Some, None, Result, Ok, Err}
use Rattle.std.specs.Prelude.{◌==◌, ◌&&◌, OnOk, filter_map, option_and_then, option_map, option_to_list, Bool, true, false, if◌then◌else◌}
use Rattle.std.specs.List.{All, cons_option}
use Rattle.std.proofs.lemmas.Bool.{eq-eqb}
use Rattle.std.proofs.lemmas.List.{append-nil, append_assoc, drop_more, get_or-map, length-map, take_more}
use Rattle.std.proofs.lemmas.List.Elements.{All-append, All-nil}
use Rattle.std.proofs.lemmas.List.Sums.{fold-append}
use Rattle.dwc_base.specs.declared.constants.TheConstants.{DW_AT_endianity, DW_END_little, DW_FORM_data1, DW_TAG_base_type}
use Rattle.dwc_dwarf.specs.Values.{Value}
use Rattle.dwc_rules.specs.Kept.{Placed}
use Rattle.dwc_rules.specs.Refusals.{Refusal}
use Rattle.dwc_base.specs.Listing.{first_of}
use Rattle.dwc_dwarf.specs.Trees.{TreeValue, constant, set_attribute}
use Rattle.dwc_rules.specs.Clones.{UnitSource, attribute_becomes, attributes_become, endianity, if_made, if_refused}
use Rattle.dwc_rules.specs.Drafts.{Goal, DraftValue, done}
use Rattle.dwc_rules.specs.DraftForests.{settled, settled_value}
use Rattle.dwc_isa.specs.Registers.{Registers}
use Rattle.dwc_read.specs.declared.value.AttributeValue.{AttributeValue as InputValue}
use Rattle.dwc_read.specs.ValuesSeen.{attribute_view}
use Rattle.dwc_clone.specs.GivenAttributes.{Attribute}
use Rattle.dwc_unit.specs.declared.attributes.AttributeValue.{AttributeValue}
use Rattle.dwc_unit.specs.declared.attributes.AttributeValue.TheVariants.{Constant}
use Rattle.dwc_unit.specs.declared.units.UnitEntryId.{UnitEntryId}
use Rattle.dwc_unit.specs.GivenUnits as GivenUnits
use Rattle.dwc_unit.specs.GivenUnits.{Addition, GivenUnit, place_of, set_in, set_in_addition, with_additions, with_value}
use Rattle.dwc_unit.specs.UsedTexts.{text_of_value, texts_of_attributes}
use Rattle.dwc_unit.specs.AddedInOrder.{attribute_meant, value_meant}
use Rattle.dwc_unit.proofs.ReadValues.{All-back, All-front}
use Rattle.dwc_unit.proofs.AddedInOrderUnits.{last-set}
use Rattle.dwc_unit.proofs.AddedInOrderValues.{attributes-meant-more, set-meant}
use Rattle.dwc_source.specs.declared.source.CloneSource.{CloneSource}
use Rattle.dwc_source.specs.MadeValues.{ArePlaced, Grows, HasTexts, RefusesSo, SaysMore, wanted_value}
use Rattle.dwc_clone.specs.ClonedUnits.{TellsFirst}
use Rattle.dwc_extents.specs.CodeSources.{clone_rules}
use Rattle.dwc_clone.specs.ClonedEntries.{AreSet, IsGiven, IsLast, KeepsNames, Tell, set_behind, told_draft, values_refused, values_wanted, with_made}

-- ---- tables of texts

pub grows-not : (t : List (List ℕ)) → Grows t t
grows-not t = record { more = []; is = sym (append-nil t) }

pub grows-on : (t0 t1 t2 : List (List ℕ)) → Grows t0 t1 → Grows t1 t2 → Grows t0 t2
grows-on t0 t1 t2 first second = record {
  more = first.more ++ second.more;
  is = second.is ∙ ap (λ t. t ++ second.more) first.is ∙ append_assoc t0 first.more second.more;
}

-- Texts of a table are texts of one that has grown.
pub texts-on : (t0 t1 : List (List ℕ)) (ns : List ℕ) → Grows t0 t1 → All (λ n. n < length t0) ns → All (λ n. n < length t1) ns
texts-on t0 t1 ns grows all k d within =
    let low = all k d within in
    let many = ap length grows.is ∙ length-append t0 grows.more in
    omega (arith, low, many)

-- Attributes mean the same with a table that has grown.
pub meant-on : (number : ℕ) (t0 t1 : List (List ℕ)) (xs : List Attribute) → Grows t0 t1 → All (λ n. n < length t0) (texts_of_attributes xs) → map (attribute_meant t1 number) xs ≡ map (attribute_meant t0 number) xs
meant-on number t0 t1 xs grows known = ap (λ t. map (attribute_meant t number) xs) grows.is ∙ attributes-meant-more t0 grows.more number xs known

-- ---- values that are given

set-texts : (P : ℕ → Type 0) (name : ℕ) (v : AttributeValue) (xs : List Attribute) → All P (text_of_value v) → All P (texts_of_attributes xs) → All P (texts_of_attributes (GivenUnits.set_attribute name v xs))
set-texts P name v [] has all = All-append P (text_of_value v) [] has all
set-texts P name v (x ∷ xs) has all = go (x.name == name) (set-texts P name v xs has (All-back P (text_of_value x.value) (texts_of_attributes xs) all))
  where
    go : (b : Bool) → All P (texts_of_attributes (GivenUnits.set_attribute name v xs)) → All P (texts_of_attributes (if b then record { name = name; value = v } ∷ xs else x ∷ GivenUnits.set_attribute name v xs))
    go true others = All-append P (text_of_value v) (texts_of_attributes xs) has (All-back P (text_of_value x.value) (texts_of_attributes xs) all)
    go false others = All-append P (text_of_value x.value) (texts_of_attributes (GivenUnits.set_attribute name v xs)) (All-front P (text_of_value x.value) (texts_of_attributes xs) all) others

-- The last entry is given one value, or none.
pub given-value : (number : ℕ) (t0 t1 : List (List ℕ)) (id : UnitEntryId) (base : GivenUnit) (e : Addition) (u : GivenUnit) (name : ℕ) (v : AttributeValue) → IsLast t0 id base e u → Grows t0 t1 → HasTexts t1 v
    → IsGiven number t0 t1 ((name, value_meant t1 number v) ∷ []) base e (with_value id.index name v u)
given-value number t0 t1 id base e u name v last grows has = record {
  grows = grows;
  given = set_in_addition name v e;
  is = ap (with_value id.index name v) last.is ∙ last-set base e id.index name v last.number;
  parent = refl;
  tag = refl;
  means = set-meant t1 number name v e.attributes ∙ ap (λ xs. set_attribute (name, value_meant t1 number v) xs) (meant-on number t0 t1 e.attributes grows last.names);
  texts = set-texts (λ n. n < length t1) name v e.attributes has (texts-on t0 t1 (texts_of_attributes e.attributes) grows last.names);
}

pub given-none : (number : ℕ) (t0 t1 : List (List ℕ)) (id : UnitEntryId) (base : GivenUnit) (e : Addition) (u : GivenUnit) → IsLast t0 id base e u → Grows t0 t1 → IsGiven number t0 t1 [] base e u
given-none number t0 t1 id base e u last grows = record {
  grows = grows;
  given = e;
  is = last.is;
  parent = refl;
  tag = refl;
  means = meant-on number t0 t1 e.attributes grows last.names;
  texts = texts-on t0 t1 (texts_of_attributes e.attributes) grows last.names;
}

-- It is the last entry then, and may be given more.
pub given-last : (number : ℕ) (t0 t1 : List (List ℕ)) (values : List (ℕ × TreeValue)) (id : UnitEntryId) (base : GivenUnit) (e : Addition) (u0 u : GivenUnit) → IsLast t0 id base e u0 → (g : IsGiven number t0 t1 values base e u) → IsLast t1 id base g.given u
given-last number t0 t1 values id base e u0 u last g = record { number = last.number; is = g.is; names = g.texts }

pub given-on : (number : ℕ) (t0 t1 t2 : List (List ℕ)) (values more : List (ℕ × TreeValue)) (base : GivenUnit) (e : Addition) (u1 u2 : GivenUnit) → (g : IsGiven number t0 t1 values base e u1) → IsGiven number t1 t2 more base g.given u2
    → IsGiven number t0 t2 (values ++ more) base e u2
given-on number t0 t1 t2 values more base e u1 u2 g h = record {
  grows = grows-on t0 t1 t2 g.grows h.grows;
  given = h.given;
  is = h.is;
  parent = h.parent ∙ g.parent;
  tag = h.tag ∙ g.tag;
  means = h.means ∙ ap (λ said. set_behind said more) g.means ∙ sym (fold-append (λ before a. set_attribute a before) (map (attribute_meant t0 number) e.attributes) values more);
  texts = h.texts;
}

-- A name with what it says, if that is something; what is made of a value is given so.
abbrev pub named : ℕ → Option TreeValue → List (ℕ × TreeValue)
named name v = option_to_list (option_map (λ x. (name, x)) v)

pub given-made : (goals : Goal → Option (ℕ × ℕ)) (c : CloneSource) (number : ℕ) (t0 t1 : List (List ℕ)) (id : UnitEntryId) (base : GivenUnit) (e : Addition) (u : GivenUnit) (name : ℕ) (draft : Option DraftValue) (v : Option AttributeValue) → ArePlaced c.places.now goals → IsLast t0 id base e u → SaysMore c.places.now number name t0 t1 draft v
    → IsGiven number t0 t1 (named name (wanted_value goals draft)) base e (with_made id.index name v u)
given-made goals c number t0 t1 id base e u name draft None at last more =
    subst (λ w. IsGiven number t0 t1 (named name w) base e u) (more.says.means goals at) (given-none number t0 t1 id base e u last more.grows)
given-made goals c number t0 t1 id base e u name draft (Some v) at last more =
    subst (λ w. IsGiven number t0 t1 (named name w) base e (with_value id.index name v u)) (more.says.means goals at) (given-value number t0 t1 id base e u name v last more.grows more.says.texts)

-- Values that are set leave the numbers of entries as they were.
pub value-places : (id name : ℕ) (v : AttributeValue) (u : GivenUnit) → (with_value id name v u).places ≡ u.places
value-places id name v u = go (place_of id u.places)
  where
    SamePlaces : GivenUnit → Type 0
    SamePlaces w = w.places ≡ u.places

    go : (p : Option ℕ) → SamePlaces (elim p [ None ↦ u | Some place ↦ with_additions (set_in place name v u.additions) u ])
    go None = refl
    go (Some place) = refl

pub made-places : (id name : ℕ) (v : Option AttributeValue) (u : GivenUnit) → (with_made id name v u).places ≡ u.places
made-places id name None u = refl
made-places id name (Some v) u = value-places id name v u

-- ---- attributes of an entry, in their order

-- The attributes from one on are that one and those behind it.
pub attributes-drop : (xs : List (ℕ × InputValue)) (i : ℕ) (d : ℕ × InputValue) → i < length xs → drop i (map attribute_view xs) ≡ attribute_view (get_or xs i d) ∷ drop (i + 1) (map attribute_view xs)
attributes-drop xs i d within =
    drop_more (map attribute_view xs) i (attribute_view d) (subst (λ n. i < n) (sym (length-map xs attribute_view)) within)
    ∙ ap (λ a. a ∷ drop (i + 1) (map attribute_view xs)) (get_or-map attribute_view xs i d (attribute_view d) within)

-- The attributes in front of the one behind an attribute are that one behind those in front of it.
pub before-next : (xs : List (ℕ × InputValue)) (i number : ℕ) (d : ℕ × InputValue) (all before : List (ℕ × Value)) → map attribute_view xs ≡ all → number ≡ i → i < length xs → before ≡ take number all
    → before ++ attribute_view (get_or xs i d) ∷ [] ≡ take (number + 1) all
before-next xs i number d all before is at within so =
    let front : before ≡ take i (map attribute_view xs) = so ∙ ap₂ take at (sym is) in
    ap (λ b. b ++ attribute_view (get_or xs i d) ∷ []) front
    ∙ ap (λ a. take i (map attribute_view xs) ++ a ∷ []) (sym (get_or-map attribute_view xs i d (attribute_view d) within))
    ∙ sym (take_more (map attribute_view xs) i (attribute_view d) (subst (λ n. i < n) (sym (length-map xs attribute_view)) within))
    ∙ ap₂ (λ n all. take (n + 1) all) (sym at) is

-- What is set of the attributes of an entry behind so many: what was set so far, and what the attributes that are left are to say, make all.
pub record AreSetSoFar (goals : Goal → Option (ℕ × ℕ)) (tell : Tell) (registers : Registers) (c : CloneSource) (number : ℕ) (s : UnitSource) (p : Placed) (t0 t1 : List (List ℕ)) (base : GivenUnit) (e : Addition) (u : GivenUnit) (seen : ℕ) (left : List (ℕ × Value)) : Type 0 where
  pub before : List (ℕ × Value)
  pub front : before ≡ take seen p.entry.attributes
  pub values : List (ℕ × TreeValue)
  pub given : IsGiven number t0 t1 values base e u
  pub whole : values ++ values_wanted goals tell registers c s p before left ≡ values_wanted goals tell registers c s p [] p.entry.attributes
  pub refused : values_refused registers c s p before left ≡ values_refused registers c s p [] p.entry.attributes

pub set-start : (goals : Goal → Option (ℕ × ℕ)) (tell : Tell) (registers : Registers) (c : CloneSource) (number : ℕ) (s : UnitSource) (p : Placed) (t : List (List ℕ)) (id : UnitEntryId) (base : GivenUnit) (e : Addition) (u : GivenUnit) → IsLast t id base e u
    → AreSetSoFar goals tell registers c number s p t t base e u 0 p.entry.attributes
set-start goals tell registers c number s p t id base e u last = record { before = []; front = refl; values = []; given = given-none number t t id base e u last (grows-not t); whole = refl; refused = refl }

-- an attribute in front of others
wanted-more : (goals : Goal → Option (ℕ × ℕ)) (tell : Tell) (registers : Registers) (c : CloneSource) (s : UnitSource) (p : Placed) (before : List (ℕ × Value)) (a : ℕ × Value) (left : List (ℕ × Value)) (draft : Option DraftValue) → KeepsNames tell → attribute_becomes (clone_rules registers c s) s p before a ≡ Ok draft
    → values_wanted goals tell registers c s p before (a ∷ left) ≡ named a.0 (wanted_value goals (told_draft tell a.0 draft)) ++ values_wanted goals tell registers c s p (before ++ a ∷ []) left
unfolding attributes_become
wanted-more goals tell registers c s p before a left draft keeps is = ap (λ r. filter_map (settled goals) (filter_map tell (cons_option (if_made a.0 r) made))) is ∙ go draft
  where
    made : List (ℕ × DraftValue)
    made = filter_map (λ x. if_made x.0 x.1) (attributes_become (clone_rules registers c s) s p (before ++ a ∷ []) left)

    rest : List (ℕ × TreeValue)
    rest = filter_map (settled goals) (filter_map tell made)

    said : (name : ℕ) → name ≡ a.0 → (v : Option TreeValue) → cons_option (option_map (λ x. (name, x)) v) rest ≡ named a.0 v ++ rest
    said name same None = refl
    said name same (Some v) = ap (λ n. (n, v) ∷ rest) same

    one : (v : DraftValue) (o : Option (ℕ × DraftValue)) → tell (a.0, v) ≡ o → filter_map (settled goals) (cons_option o (filter_map tell made)) ≡ named a.0 (option_and_then (settled_value goals) (option_map (λ y. y.1) o)) ++ rest
    one v None told = refl
    one v (Some y) told = said y.0 (keeps (a.0, v) y told) (settled_value goals y.1)

    go : (d : Option DraftValue) → filter_map (settled goals) (filter_map tell (cons_option (if_made {E = Refusal} a.0 (Ok d)) made)) ≡ named a.0 (wanted_value goals (told_draft tell a.0 d)) ++ rest
    go None = refl
    go (Some v) = one v (tell (a.0, v)) refl

pub refused-not : (registers : Registers) (c : CloneSource) (s : UnitSource) (p : Placed) (before : List (ℕ × Value)) (a : ℕ × Value) (left : List (ℕ × Value)) (draft : Option DraftValue) → attribute_becomes (clone_rules registers c s) s p before a ≡ Ok draft
    → values_refused registers c s p before (a ∷ left) ≡ values_refused registers c s p (before ++ a ∷ []) left
unfolding attributes_become
refused-not registers c s p before a left draft is = ap (λ r. cons_option (if_refused r) (values_refused registers c s p (before ++ a ∷ []) left)) is

pub refused-here : (registers : Registers) (c : CloneSource) (s : UnitSource) (p : Placed) (before : List (ℕ × Value)) (a : ℕ × Value) (left : List (ℕ × Value)) (refusal : Refusal) → attribute_becomes (clone_rules registers c s) s p before a ≡ Err refusal
    → first_of (values_refused registers c s p before (a ∷ left)) ≡ Some refusal
unfolding attributes_become
refused-here registers c s p before a left refusal is = ap (λ r. first_of (cons_option (if_refused r) (values_refused registers c s p (before ++ a ∷ []) left))) is

pub set-more : (goals : Goal → Option (ℕ × ℕ)) (tell : Tell) (registers : Registers) (c : CloneSource) (number : ℕ) (s : UnitSource) (p : Placed) (t0 t1 t2 : List (List ℕ)) (id : UnitEntryId) (base : GivenUnit) (e : Addition) (u0 u : GivenUnit) (seen next : ℕ) (a : ℕ × Value) (left : List (ℕ × Value)) (draft : Option DraftValue) (v : Option AttributeValue)
    → ArePlaced c.places.now goals → KeepsNames tell → IsLast t0 id base e u0 → (so : AreSetSoFar goals tell registers c number s p t0 t1 base e u seen (a ∷ left)) → so.before ++ a ∷ [] ≡ take next p.entry.attributes
    → attribute_becomes (clone_rules registers c s) s p so.before a ≡ Ok draft → SaysMore c.places.now number a.0 t1 t2 (told_draft tell a.0 draft) v
    → AreSetSoFar goals tell registers c number s p t0 t2 base e (with_made id.index a.0 v u) next left
set-more goals tell registers c number s p t0 t1 t2 id base e u0 u seen next a left draft v at keeps last so behind is says =
    let one = named a.0 (wanted_value goals (told_draft tell a.0 draft)) in
    record {
      before = so.before ++ a ∷ [];
      front = behind;
      values = so.values ++ one;
      given = given-on number t0 t1 t2 so.values one base e u (with_made id.index a.0 v u) so.given
          (given-made goals c number t1 t2 id base so.given.given u a.0 (told_draft tell a.0 draft) v at (given-last number t0 t1 so.values id base e u0 u last so.given) says);
      whole = append_assoc so.values one _ ∙ ap (λ xs. so.values ++ xs) (sym (wanted-more goals tell registers c s p so.before a left draft keeps is)) ∙ so.whole;
      refused = sym (refused-not registers c s p so.before a left draft is) ∙ so.refused;
    }

pub set-refused : (goals : Goal → Option (ℕ × ℕ)) (tell : Tell) (registers : Registers) (c : CloneSource) (number : ℕ) (s : UnitSource) (p : Placed) (t0 t1 : List (List ℕ)) (base : GivenUnit) (e : Addition) (u : GivenUnit) (seen : ℕ) (a : ℕ × Value) (left : List (ℕ × Value)) (told : Option Refusal)
    → (so : AreSetSoFar goals tell registers c number s p t0 t1 base e u seen (a ∷ left)) → RefusesSo (attribute_becomes (clone_rules registers c s) s p so.before a) told → TellsFirst (values_refused registers c s p [] p.entry.attributes) told
set-refused goals tell registers c number s p t0 t1 base e u seen a left None so refused = tt
set-refused goals tell registers c number s p t0 t1 base e u seen a left (Some refusal) so refused = ap first_of (sym so.refused) ∙ refused-here registers c s p so.before a left refusal refused

pub set-end : (goals : Goal → Option (ℕ × ℕ)) (tell : Tell) (registers : Registers) (c : CloneSource) (number : ℕ) (s : UnitSource) (p : Placed) (t0 t1 : List (List ℕ)) (base : GivenUnit) (e : Addition) (u : GivenUnit) (seen : ℕ) → AreSetSoFar goals tell registers c number s p t0 t1 base e u seen []
    → AreSet goals tell registers c number s p t0 t1 base e u
unfolding attributes_become
set-end goals tell registers c number s p t0 t1 base e u seen so = record {
  given = subst (λ values. IsGiven number t0 t1 values base e u) (sym (append-nil so.values) ∙ so.whole) so.given;
  accepted = sym so.refused;
}

-- ---- bounds and byte order

-- What holds where a call succeeds.
pub on-ok : {A F P Q : Type 0} (r : Result A F) → (P → Q) → OnOk r P → OnOk r Q
on-ok (Ok x) f p = f p
on-ok (Err e) f p = tt

pub endianity-given : (number : ℕ) (texts : List (List ℕ)) (id : UnitEntryId) (base : GivenUnit) (e : Addition) (u : GivenUnit) → IsLast texts id base e u
    → IsGiven number texts texts ((DW_AT_endianity, constant DW_FORM_data1 DW_END_little) ∷ []) base e (with_value id.index DW_AT_endianity (Constant DW_FORM_data1 DW_END_little) u)
endianity-given number texts id base e u last = given-value number texts texts id base e u DW_AT_endianity (Constant DW_FORM_data1 DW_END_little) last (grows-not texts) (All-nil (λ n. n < length texts))

pub endianity-there : (big_endian : Bool) (p : Placed) (tag : ℕ) → p.entry.tag ≡ tag → big_endian ≡ true → tag ≡ DW_TAG_base_type → endianity big_endian p ≡ (DW_AT_endianity, done (constant DW_FORM_data1 DW_END_little)) ∷ []
endianity-there big_endian p tag is big base =
    let little : List (ℕ × DraftValue) = (DW_AT_endianity, done (constant DW_FORM_data1 DW_END_little)) ∷ [] in
    ap (λ b. if b && (p.entry.tag == DW_TAG_base_type) then little else []) big ∙ ap (λ b. if b then little else []) (eq-eqb p.entry.tag DW_TAG_base_type (is ∙ base))

-- What holds of a call that succeeded.
pub succeeded : {A F P : Type 0} (r : Result A F) (x : A) → r ≡ Ok x → OnOk r P → P
succeeded {A} {F} {P} r x is holds = subst (λ w. OnOk w P) is holds
