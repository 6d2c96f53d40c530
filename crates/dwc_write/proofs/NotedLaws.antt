-- What is noted of entries: each is noted behind those before it (`noting-more`), the lists of all entries are those of the ones that are
-- noted (`noted-lists`), expressions are short as noted (`short_noted`), and the texts are those that units name (`named-noted`).
use Rattle.std.proofs.Common.{◌≡◌, ◌∙◌, ◌<◌, refl, sym, ap, subst, List, [], ◌∷◌, ◌++◌, append_assoc, append-nil, ℕ, ◌+◌, drop, get_or, length, map, Bool, true, false}
use Rattle.std.specs.Prelude.{if◌then◌else◌, ◌&&◌}
use Rattle.std.specs.List.{All, AllZip, list_all}
use Rattle.std.proofs.lemmas.Bool.{and_parts}
use Rattle.std.proofs.lemmas.List.{drop_more, map-append}
use Rattle.std.proofs.lemmas.List.Elements.{All-append, All-cons, All-nil}
use Rattle.dwc_unit.specs.declared.attributes.Attribute.{Attribute}
use Rattle.dwc_unit.specs.declared.attributes.AttributeValue.{AttributeValue}
use Rattle.dwc_unit.specs.declared.attributes.AttributeValue.TheVariants.{Address, Constant, Flag, Block, Exprloc, StringRef, LineProgramRef, RangeListRef, LocationListRef, UnitRef, DebugInfoRef}
use Rattle.dwc_unit.specs.declared.file_order.FilePlace.{FilePlace}
use Rattle.dwc_write.specs.declared.layout.UnitLayout.{UnitLayout}
use Rattle.dwc_unit.specs.declared.lists.ListKind.{ListKind}
use Rattle.dwc_unit.specs.declared.lists.ListKind.TheVariants.{Ranges, Locations}
use Rattle.dwc_write.specs.declared.notes.Notes.{Notes}
use Rattle.dwc_unit.specs.FileOrders.{looked_up}
use Rattle.dwc_unit.specs.GivenUnits.{Addition, GivenEntry, GivenUnit, lists_of_entries, ordered}
use Rattle.dwc_write.specs.LayoutViews.{AreListed, IsLaidOut, IsNoting, texts_noted}
use Rattle.dwc_unit.specs.Lists.{lists_by, lists_of_attributes}
use Rattle.dwc_write.specs.Noted.{are_free, if_listed, is_free, listed_among}
use Rattle.dwc_write.specs.ShortLists.{are_short_values, is_short_unit, is_short_value}
use Rattle.dwc_unit.specs.UsedTexts.{text_of_value, texts_named, texts_of_attributes, texts_of_entries}

and_assoc : (x y z : Bool) → ((x && y) && z) ≡ (x && (y && z))
and_assoc true y z = refl
and_assoc false y z = refl

and_true : (b : Bool) → (b && true) ≡ b
and_true true = refl
and_true false = refl

-- ---- values that are no lists

free-value : (v : AttributeValue) → is_free Locations v ≡ true → is_short_value v ≡ true
free-value (LocationListRef list) free = absurd (cc)
free-value (RangeListRef list) free = refl
free-value (Address a) free = refl
free-value (Constant form bits) free = refl
free-value (Flag b) free = refl
free-value (Block bytes) free = refl
free-value (Exprloc e) free = refl
free-value (StringRef id) free = refl
free-value LineProgramRef free = refl
free-value (UnitRef id) free = refl
free-value (DebugInfoRef reference) free = refl

-- where there is no location list expressions are short
pub free_short : (xs : List Attribute) → are_free Locations xs ≡ true → are_short_values xs ≡ true
free_short [] free = refl
free_short (x ∷ xs) free =
    let parts = and_parts (is_free Locations x.value) (are_free Locations xs) free in
    rw (free-value x.value parts.0) (free_short xs parts.1)

-- ---- values one by one

-- a value more, whose text is noted
pub named-more : (xs : List Attribute) (i : ℕ) (d : Attribute) (before now all : List ℕ) → i < length xs → now ≡ before ++ text_of_value (get_or xs i d).value → before ++ texts_of_attributes (drop i xs) ≡ all → now ++ texts_of_attributes (drop (i + 1) xs) ≡ all
named-more xs i d before now all inside grown on =
    rw (grown, append_assoc) (rw (drop_more xs i d inside) at on)

-- a value more, of which it is noted whether it is a list
pub free-more : (kind : ListKind) (xs : List Attribute) (i : ℕ) (d : Attribute) (before now all : Bool) → i < length xs → now ≡ (is_free kind (get_or xs i d).value && before) → (are_free kind (drop i xs) && before) ≡ all → (are_free kind (drop (i + 1) xs) && now) ≡ all
free-more kind xs i d before now all inside grown on =
    rw (grown) (turned (is_free kind (get_or xs i d).value) (are_free kind (drop (i + 1) xs)) before ∙ (rw (drop_more xs i d inside) at on))
  where
    turned : (p r b : Bool) → (r && (p && b)) ≡ ((p && r) && b)
    turned true r b = refl
    turned false true b = refl
    turned false false b = refl

-- nothing is noted yet
pub free-all : (kind : ListKind) (xs : List Attribute) → (are_free kind xs && true) ≡ are_free kind xs
free-all kind xs = and_true (are_free kind xs)

no-list : (kind : ListKind) (v : AttributeValue) → is_free kind v ≡ true → lists_by kind v ≡ []
no-list Ranges (RangeListRef list) free = absurd (cc)
no-list Ranges (LocationListRef list) free = refl
no-list Ranges (Address a) free = refl
no-list Ranges (Constant form bits) free = refl
no-list Ranges (Flag b) free = refl
no-list Ranges (Block bytes) free = refl
no-list Ranges (Exprloc e) free = refl
no-list Ranges (StringRef id) free = refl
no-list Ranges LineProgramRef free = refl
no-list Ranges (UnitRef id) free = refl
no-list Ranges (DebugInfoRef reference) free = refl
no-list Locations (LocationListRef list) free = absurd (cc)
no-list Locations (RangeListRef list) free = refl
no-list Locations (Address a) free = refl
no-list Locations (Constant form bits) free = refl
no-list Locations (Flag b) free = refl
no-list Locations (Block bytes) free = refl
no-list Locations (Exprloc e) free = refl
no-list Locations (StringRef id) free = refl
no-list Locations LineProgramRef free = refl
no-list Locations (UnitRef id) free = refl
no-list Locations (DebugInfoRef reference) free = refl

no-lists : (kind : ListKind) (xs : List Attribute) → are_free kind xs ≡ true → lists_of_attributes (lists_by kind) xs ≡ []
no-lists kind [] free = refl
no-lists kind (x ∷ xs) free =
    let parts = and_parts (is_free kind x.value) (are_free kind xs) free in
    rw (no-list kind x.value parts.0) (no-lists kind xs parts.1)

-- ---- the entries that have lists

-- the lists of a kind of all entries are those of the ones that have such lists
listed-lists : (kind : ListKind) (es : List GivenEntry) → lists_of_entries (lists_by kind) (listed_among kind es) ≡ lists_of_entries (lists_by kind) es
listed-lists kind [] = refl
listed-lists kind (e ∷ es) = go (are_free kind e.attributes) refl (listed-lists kind es)
  where
    own : List GivenEntry → Type 0
    own xs = lists_of_entries (lists_by kind) (xs ++ listed_among kind es) ≡ lists_of_attributes (lists_by kind) e.attributes ++ lists_of_entries (lists_by kind) es

    go : (b : Bool) → are_free kind e.attributes ≡ b → lists_of_entries (lists_by kind) (listed_among kind es) ≡ lists_of_entries (lists_by kind) es → own (if b then [] else e ∷ [])
    go true free rest = rest ∙ sym (ap (λ xs. xs ++ lists_of_entries (lists_by kind) es) (no-lists kind e.attributes free))
    go false other rest = ap (λ xs. lists_of_attributes (lists_by kind) e.attributes ++ xs) rest

-- the same of the entries that are noted
pub noted-lists : (kind : ListKind) (added : List Addition) (fs : List FilePlace) (es : List GivenEntry) → AreListed kind added fs es → lists_of_entries (lists_by kind) (map (looked_up added) fs) ≡ lists_of_entries (lists_by kind) es
noted-lists kind added fs es listed = ap (lists_of_entries (lists_by kind)) listed.are ∙ listed-lists kind es

-- ---- entry by entry

-- Places so far, with those of the rest, are those of all.
pub record AreListedOn (kind : ListKind) (added : List Addition) (fs : List FilePlace) (all rest : List GivenEntry) : Type 0 where
  pub are : map (looked_up added) fs ++ listed_among kind rest ≡ listed_among kind all
  pub known : All (λ f. f.index < length added) fs

-- The same of all that is noted.
pub record IsNotingOn (added : List Addition) (notes : Notes) (all rest : List GivenEntry) : Type 0 where
  pub ranged : AreListedOn Ranges added notes.ranged.items all rest
  pub located : AreListedOn Locations added notes.located.items all rest
  pub texts : notes.texts.items ++ texts_of_entries rest ≡ texts_of_entries all
  pub short : (notes.short && list_all (λ e. are_short_values e.attributes) rest) ≡ list_all (λ e. are_short_values e.attributes) all

module _ (kind : ListKind) (added : List Addition) (fs : List FilePlace) (all : List GivenEntry) where
  listed-start : AreListed kind added fs [] → AreListedOn kind added fs all all
  listed-start none = record { are = ap (λ xs. xs ++ listed_among kind all) none.are; known = none.known }

  listed-done : AreListedOn kind added fs all [] → AreListed kind added fs all
  listed-done on = record { are = sym (append-nil (map (looked_up added) fs)) ∙ on.are; known = on.known }

  listed-more : (now : List FilePlace) (f : FilePlace) (xs : List Attribute) (rest : List GivenEntry) → AreListedOn kind added fs all (looked_up added f ∷ rest) → xs ≡ (looked_up added f).attributes → f.index < length added → now ≡ fs ++ if_listed kind xs f → AreListedOn kind added now all rest
  listed-more now f xs rest on same inside grown =
      let e = looked_up added f in
      let before = map (looked_up added) fs in
      let P : FilePlace → Type 0 = λ g. g.index < length added in
      record {
        are = ap (λ gs. map (looked_up added) gs ++ listed_among kind rest) grown ∙ ap (λ es. es ++ listed_among kind rest) (map-append (looked_up added) fs (if_listed kind xs f)) ∙ append_assoc before (map (looked_up added) (if_listed kind xs f)) (listed_among kind rest)
            ∙ ap (λ es. before ++ (es ++ listed_among kind rest)) (seen (are_free kind xs) ∙ ap (λ ys. if_listed kind ys e) same) ∙ on.are;
        known = subst (λ gs. All P gs) (sym grown) (All-append P fs (if_listed kind xs f) on.known (one (are_free kind xs)));
      }
    where
      seen : (b : Bool) → map (looked_up added) (if b then [] else f ∷ []) ≡ (if b then [] else looked_up added f ∷ [])
      seen true = refl
      seen false = refl

      one : (b : Bool) → All (λ (g : FilePlace). g.index < length added) (if b then [] else f ∷ [])
      one true = All-nil (λ (g : FilePlace). g.index < length added)
      one false = All-cons (λ (g : FilePlace). g.index < length added) f [] inside (All-nil (λ (g : FilePlace). g.index < length added))

module _ (added : List Addition) (notes : Notes) (all : List GivenEntry) where
  pub noting-start : IsNoting added notes [] → IsNotingOn added notes all all
  noting-start none = record {
    ranged = listed-start Ranges added notes.ranged.items all none.ranged;
    located = listed-start Locations added notes.located.items all none.located;
    texts = ap (λ ns. ns ++ texts_of_entries all) none.texts;
    short = ap (λ b. b && list_all (λ (e : GivenEntry). are_short_values e.attributes) all) none.short;
  }

  pub noting-done : IsNotingOn added notes all [] → IsNoting added notes all
  noting-done on = record {
    ranged = listed-done Ranges added notes.ranged.items all on.ranged;
    located = listed-done Locations added notes.located.items all on.located;
    texts = sym (append-nil notes.texts.items) ∙ on.texts;
    short = sym (and_true notes.short) ∙ on.short;
  }

  -- an entry more
  pub noting-more : (now : Notes) (f : FilePlace) (xs : List Attribute) (rest : List GivenEntry) → IsNotingOn added notes all (looked_up added f ∷ rest) → xs ≡ (looked_up added f).attributes → f.index < length added
      → now.ranged.items ≡ notes.ranged.items ++ if_listed Ranges xs f → now.located.items ≡ notes.located.items ++ if_listed Locations xs f → now.texts.items ≡ notes.texts.items ++ texts_of_attributes xs → now.short ≡ (notes.short && are_short_values xs) → IsNotingOn added now all rest
  noting-more now f xs rest on are inside ranged located texts short = record {
    ranged = listed-more Ranges added notes.ranged.items all now.ranged.items f xs rest on.ranged are inside ranged;
    located = listed-more Locations added notes.located.items all now.located.items f xs rest on.located are inside located;
    texts = ap (λ ns. ns ++ texts_of_entries rest) texts ∙ append_assoc notes.texts.items (texts_of_attributes xs) (texts_of_entries rest) ∙ ap (λ ys. notes.texts.items ++ (texts_of_attributes ys ++ texts_of_entries rest)) are ∙ on.texts;
    short = ap (λ b. b && list_all (λ (g : GivenEntry). are_short_values g.attributes) rest) short ∙ and_assoc notes.short (are_short_values xs) (list_all (λ (g : GivenEntry). are_short_values g.attributes) rest) ∙ ap (λ ys. notes.short && (are_short_values ys && list_all (λ (g : GivenEntry). are_short_values g.attributes) rest)) are ∙ on.short;
  }

-- ---- units

-- what is noted of all units says whether their expressions are short
pub short_noted : (us : List GivenUnit) (ls : List UnitLayout) → AllZip IsLaidOut us ls → list_all (λ l. l.notes.short) ls ≡ list_all (λ u. is_short_unit (ordered u)) us
short_noted [] [] laid = refl
short_noted [] (l ∷ ls) laid = absurd laid
short_noted (u ∷ us) [] laid = absurd laid
short_noted (u ∷ us) (l ∷ ls) laid = ap (λ b. b && list_all (λ (k : UnitLayout). k.notes.short) ls) laid.0.notes.short ∙ ap (λ b. is_short_unit (ordered u) && b) (short_noted us ls laid.1)

-- the texts that are noted of all units are those that they name
pub named-noted : (us : List GivenUnit) (ls : List UnitLayout) → AllZip IsLaidOut us ls → texts_noted ls ≡ texts_named (map ordered us)
named-noted [] [] laid = refl
named-noted [] (l ∷ ls) laid = absurd laid
named-noted (u ∷ us) [] laid = absurd laid
named-noted (u ∷ us) (l ∷ ls) laid = ap (λ ns. ns ++ texts_noted ls) laid.0.notes.texts ∙ ap (λ ns. texts_of_entries (ordered u).entries ++ ns) (named-noted us ls laid.1)
