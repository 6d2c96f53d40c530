-- Entries as code writes them: codes by first use, one entry behind another, and a unit with its header.
use Rattle.std.proofs.Common.{◌≡◌, ℕ, zero, suc, ◌+◌, ◌<◌, ◌≤◌, refl, sym, ap, subst, ◌∙◌, arith, List, [], ◌∷◌, ◌++◌, append_assoc, length, length-append, map, drop, get_or, Bool, true, false, ltb, Err}
use Rattle.std.specs.Prelude.{◌-◌, ◌==◌, if◌then◌else◌, nat_lt, Result}
use Rattle.std.specs.List.{All, flat_map}
use Rattle.std.proofs.lemmas.Bool.{eq-eqb, ltb-true, ltb-false}
use Rattle.std.proofs.lemmas.List.Elements.{All-cons, All-nil, All-append}
use Rattle.dwc_base.specs.declared.records.Endian.{Endian}
use Rattle.std.specs.Int.{w64, cast_signed}
use Rattle.dwc_base.specs.declared.constants.TheConstants.{DW_FORM_implicit_const, DW_FORM_data1, DW_FORM_data2, DW_FORM_data4, DW_FORM_data8, DW_FORM_sdata}
use Rattle.dwc_base.specs.Outputs.{OutputRelocation}
use Rattle.dwc_section.specs.Spelled.{at_places}
use Rattle.dwc_unit.specs.SpelledUnits.{form_number, as_data1, as_data2, as_data4, as_data8, as_sdata, as_udata, Shaped, attribute_bytes, next_depth, shaped, entry_bytes}
use Rattle.dwc_write.specs.SpelledRelocations.{entry_relocations, value_relocations}
use Rattle.dwc_unit.specs.declared.attributes.Attribute.{Attribute}
use Rattle.dwc_unit.specs.declared.attributes.AttributeValue.{AttributeValue}
use Rattle.dwc_unit.specs.declared.attributes.AttributeValue.TheVariants.{Address, Constant, Flag, Block, Exprloc, StringRef, LineProgramRef, RangeListRef, LocationListRef, UnitRef, DebugInfoRef}
use Rattle.dwc_unit.specs.declared.attributes.DebugInfoRef.TheVariants.{Entry}
use Rattle.dwc_unit.specs.declared.attributes.AttributeForm.{AttributeForm}
use Rattle.dwc_unit.specs.GivenUnits.{GivenEntry, Places, no_places, EntryShape, IsPlainShape, form_of, forms_of, first_depth, shape_of, shapes_of, same_forms, same_flag, same_shape, place_in, with_use, first_uses, code_in, written_attribute, written_attributes, written_entries, written_of}
use Rattle.dwc_write.specs.Layouts.{codes_of}
use Rattle.dwc_unit.specs.declared.lists.ListPlaces.{ListPlaces}
use Rattle.dwc_unit.specs.Lists.{behind_attributes, behind_value, no_lists, nowhere}
use Rattle.dwc_section.specs.declared.error.WriteError.{WriteError}
use Rattle.dwc_section.specs.Writers.{Writing, Refuses, Writes, appended}
use Rattle.dwc_section.proofs.WritesLaws.{whole, whole-done, whole-more, whole-refused}
use Rattle.dwc_write.proofs.ListLaws.{drop-more}
use Rattle.std.proofs.lemmas.List.{drop_all}

-- ---- a shape is the same as itself, and keeps its place among more

same_forms-self : (xs : List AttributeForm) → same_forms xs xs ≡ true
same_forms-self [] = refl
same_forms-self (x ∷ xs) = rw (eq-eqb x.name x.name refl, eq-eqb x.form x.form refl) (same_forms-self xs)

same_flag-self : (b : Bool) → same_flag b b ≡ true
same_flag-self true = refl
same_flag-self false = refl

pub same_shape-self : (s : EntryShape) → same_shape s s ≡ true
same_shape-self s = rw (eq-eqb s.tag s.tag refl, same_flag-self s.has_children) (same_forms-self s.attributes)

pub place-most : (s : EntryShape) (known : List EntryShape) → place_in s known ≤ length known
place-most s [] = omega arith
place-most s (t ∷ ts) = go (same_shape t s) (place-most s ts)
  where
    go : (b : Bool) → place_in s ts ≤ length ts → (if b then 0 else suc (place_in s ts)) ≤ suc (length ts)
    go true h = omega arith
    go false h = omega (arith, h)

pub place-more : (s : EntryShape) (known more : List EntryShape) → place_in s known < length known → place_in s (known ++ more) ≡ place_in s known
place-more s [] more within = absurd (omega arith)
place-more s (t ∷ ts) more within = go (same_shape t s) within (place-more s ts more)
  where
    go : (b : Bool) → (if b then 0 else suc (place_in s ts)) < suc (length ts) → (place_in s ts < length ts → place_in s (ts ++ more) ≡ place_in s ts) → ◌≡◌ {A = ℕ} (if b then 0 else suc (place_in s (ts ++ more))) (if b then 0 else suc (place_in s ts))
    go true h same = refl
    go false h same = ap suc (same (omega (arith, h)))

pub place-new : (s : EntryShape) (known : List EntryShape) → length known ≤ place_in s known → place_in s (known ++ s ∷ []) ≡ length known
place-new s [] past = rw (same_shape-self s) refl
place-new s (t ∷ ts) past = go (same_shape t s) past (place-new s ts)
  where
    go : (b : Bool) → suc (length ts) ≤ (if b then 0 else suc (place_in s ts)) → (length ts ≤ place_in s ts → place_in s (ts ++ s ∷ []) ≡ length ts) → ◌≡◌ {A = ℕ} (if b then 0 else suc (place_in s (ts ++ s ∷ []))) (suc (length ts))
    go true h same = absurd (omega (arith, h))
    go false h same = ap suc (same (omega (arith, h)))

-- behind its use a shape is there, at the place that it had
use-place : (s : EntryShape) (known : List EntryShape) → (place_in s (with_use s known) ≡ place_in s known) × (place_in s known < length (with_use s known))
use-place s known = go (ltb (place_in s known) (length known)) refl
  where
    go : (b : Bool) → ltb (place_in s known) (length known) ≡ b → (place_in s (if b then known else known ++ s ∷ []) ≡ place_in s known) × (place_in s known < length (if b then known else known ++ s ∷ []))
    go true e = (refl, ltb-true _ _ e)
    go false e =
        let past : length known ≤ place_in s known = ltb-false _ _ e in
        let at : place_in s known ≡ length known = omega (arith, past, place-most s known) in
        (place-new s known past ∙ sym at, omega (arith, at, length-append known (s ∷ [])))

use-keeps : (s t : EntryShape) (known : List EntryShape) → place_in s known < length known → (place_in s (with_use t known) ≡ place_in s known) × (place_in s known < length (with_use t known))
use-keeps s t known within = go (ltb (place_in t known) (length known))
  where
    go : (b : Bool) → (place_in s (if b then known else known ++ t ∷ []) ≡ place_in s known) × (place_in s known < length (if b then known else known ++ t ∷ []))
    go true = (refl, within)
    go false = (place-more s known (t ∷ []) within, omega (arith, within, length-append known (t ∷ [])))

uses-keep : (s : EntryShape) (known ss : List EntryShape) → place_in s known < length known → (place_in s (first_uses known ss) ≡ place_in s known) × (place_in s known < length (first_uses known ss))
uses-keep s known [] within = (refl, within)
uses-keep s known (t ∷ ss) within =
    let one = use-keeps s t known within in
    let on = uses-keep s (with_use t known) ss (omega (arith, one.0, one.1)) in
    (on.0 ∙ one.0, omega (arith, one.0, on.1))

-- the code of a shape at its use is its code in the end, and it is there
pub code-stays : (s : EntryShape) (known ss : List EntryShape) → code_in (first_uses (with_use s known) ss) s ≡ code_in known s
code-stays s known ss =
    let here = use-place s known in
    let on = uses-keep s (with_use s known) ss (omega (arith, here.0, here.1)) in
    ap suc (on.0 ∙ here.0)

pub code-there : (s : EntryShape) (known ss : List EntryShape) → place_in s (first_uses (with_use s known) ss) < length (first_uses (with_use s known) ss)
code-there s known ss =
    let here = use-place s known in
    let on = uses-keep s (with_use s known) ss (omega (arith, here.0, here.1)) in
    omega (arith, on.0, on.1)

-- ---- shapes of entries have plain forms

constant-plain : (a b c d f : Bool) (bits : ℕ) → (form_number (if a then as_data1 bits else (if b then as_data2 bits else (if c then as_data4 bits else (if d then as_data8 bits else (if f then as_sdata (cast_signed w64 bits) else as_udata bits))))) == DW_FORM_implicit_const) ≡ false
constant-plain true b c d f bits = refl
constant-plain false true c d f bits = refl
constant-plain false false true d f bits = refl
constant-plain false false false true f bits = refl
constant-plain false false false false true bits = refl
constant-plain false false false false false bits = refl

value-plain : (v : AttributeValue) → (form_number (written_of no_places no_lists v) == DW_FORM_implicit_const) ≡ false
value-plain (Address x) = refl
value-plain (Constant form bits) = constant-plain (form == DW_FORM_data1) (form == DW_FORM_data2) (form == DW_FORM_data4) (form == DW_FORM_data8) (form == DW_FORM_sdata) bits
value-plain (Flag b) = refl
value-plain (Block bytes) = refl
value-plain (Exprloc e) = refl
value-plain (StringRef id) = refl
value-plain LineProgramRef = refl
value-plain (RangeListRef list) = refl
value-plain (LocationListRef list) = refl
value-plain (UnitRef id) = refl
value-plain (DebugInfoRef (Entry unit id)) = refl

forms-plain : (xs : List Attribute) → All (λ f. (f.form == DW_FORM_implicit_const) ≡ false) (forms_of xs)
forms-plain [] = All-nil _
forms-plain (x ∷ xs) = All-cons (λ (f : AttributeForm). (f.form == DW_FORM_implicit_const) ≡ false) (form_of x) (forms_of xs) (value-plain x.value) (forms-plain xs)

-- those that are used are, where all are
use-plain : (s : EntryShape) (known : List EntryShape) → IsPlainShape s → All IsPlainShape known → All IsPlainShape (with_use s known)
use-plain s known plain all = go (ltb (place_in s known) (length known))
  where
    go : (b : Bool) → All IsPlainShape (if b then known else known ++ s ∷ [])
    go true = all
    go false = All-append IsPlainShape known (s ∷ []) all (All-cons IsPlainShape s [] plain (All-nil IsPlainShape))

pub uses-plain : (known : List EntryShape) (es : List GivenEntry) → All IsPlainShape known → All IsPlainShape (first_uses known (shapes_of es))
uses-plain known [] all = all
uses-plain known (e ∷ es) all = uses-plain (with_use (shape_of e es) known) es (use-plain (shape_of e es) known (forms-plain e.attributes) all)

-- ---- one entry behind another

-- the depth that follows
pub next-first : (next : ListPlaces → List Attribute → ListPlaces) (p : Places) (lists : ListPlaces) (shapes : List EntryShape) (es : List GivenEntry) → next_depth (written_entries next p lists shapes es) ≡ first_depth es
next-first next p lists shapes [] = refl
next-first next p lists shapes (e ∷ es) = refl

-- an entry as it is written, with the depth that follows
abbrev pub entry_with : (ListPlaces → List Attribute → ListPlaces) → Places → ListPlaces → ℕ → GivenEntry → List GivenEntry → Shaped
entry_with next p lists code e behind = record { entry = record { depth = e.depth; code = code; tag = e.tag; attributes = written_attributes next p lists e.attributes }; has_children = nat_lt e.depth (first_depth behind); ends = e.depth - first_depth behind }

pub shaped-more : (next : ListPlaces → List Attribute → ListPlaces) (p : Places) (lists : ListPlaces) (shapes : List EntryShape) (e : GivenEntry) (es : List GivenEntry)
    → shaped (written_entries next p lists shapes (e ∷ es)) ≡ entry_with next p lists (code_in shapes (shape_of e es)) e es ∷ shaped (written_entries next p (next lists e.attributes) shapes es)
shaped-more next p lists shapes e es = rw (next-first next p (next lists e.attributes) shapes es) refl

-- ---- the same of entries that are seen by f, at an index

pub seen-more : {A : Type 0} (f : A → GivenEntry) (es : List A) (i : ℕ) (d : A) → i < length es → map f (drop i es) ≡ f (get_or es i d) ∷ map f (drop (suc i) es)
seen-more f [] i d within = absurd (omega arith)
seen-more f (e ∷ es) zero d within = refl
seen-more f (e ∷ es) (suc i) d within = seen-more f es i d (omega arith)

-- the code at an index, among those of entries
pub code-at : {A : Type 0} (f : A → GivenEntry) (es : List A) (codes : List ℕ) (i : ℕ) (d : A) → i < length es → codes ≡ codes_of (map f es) → get_or codes i 0 ≡ code_in (first_uses [] (shapes_of (map f es))) (shape_of (f (get_or es i d)) (map f (drop (suc i) es)))
code-at {A} f es codes i d within are = ap (λ (xs : List ℕ). get_or xs i 0) are ∙ go (first_uses [] (shapes_of (map f es))) es i within
  where
    go : (uses : List EntryShape) (xs : List A) (n : ℕ) → n < length xs → get_or (map (λ w. w.code) (written_entries nowhere no_places no_lists uses (map f xs))) n 0 ≡ code_in uses (shape_of (f (get_or xs n d)) (map f (drop (suc n) xs)))
    go uses [] n h = absurd (omega arith)
    go uses (x ∷ xs) zero h = refl
    go uses (x ∷ xs) (suc n) h = go uses xs n (omega arith)

pub codes-long : (uses : List EntryShape) (es : List GivenEntry) → length (map (λ w. w.code) (written_entries nowhere no_places no_lists uses es)) ≡ length es
codes-long uses [] = refl
codes-long uses (e ∷ es) = ap suc (codes-long uses es)

-- an entry more
pub loop-entries : {A : Type 0} (f : A → GivenEntry) (order : Endian) (size : ℕ) (next : ListPlaces → List Attribute → ListPlaces) (p : Places) (lists after : ListPlaces) (es : List A) (i : ℕ) (d : A) (uses : List EntryShape) (w v all : Writing) (code : ℕ) → i < length es → after ≡ next lists (f (get_or es i d)).attributes
    → whole (entry_bytes order size) (entry_relocations order size) (shaped (written_entries next p lists uses (map f (drop i es)))) w ≡ all
    → code ≡ code_in uses (shape_of (f (get_or es i d)) (map f (drop (suc i) es)))
    → v ≡ appended (entry_bytes order size (entry_with next p lists code (f (get_or es i d)) (map f (drop (suc i) es)))) (entry_relocations order size (length w.body) (entry_with next p lists code (f (get_or es i d)) (map f (drop (suc i) es)))) w
    → whole (entry_bytes order size) (entry_relocations order size) (shaped (written_entries next p after uses (map f (drop (suc i) es)))) v ≡ all
loop-entries f order size next p lists after es i d uses w v all code within onwards invariant is step =
    let e = f (get_or es i d) in
    let behind = map f (drop (suc i) es) in
    let more = seen-more f es i d within in
    let P : List Shaped → Writing = λ xs. whole (entry_bytes order size) (entry_relocations order size) xs w in
    let here = ap (λ k. P (entry_with next p lists k e behind ∷ shaped (written_entries next p (next lists e.attributes) uses behind))) is ∙ ap P (sym (shaped-more next p lists uses e behind)) ∙ ap (λ xs. P (shaped (written_entries next p lists uses xs))) (sym more) ∙ invariant in
    rw (onwards) (whole-more (entry_bytes order size) (entry_relocations order size) (entry_with next p lists code e behind) (shaped (written_entries next p (next lists e.attributes) uses behind)) w v all here step)

-- an entry that is refused
pub loop-entries-refused : {A : Type 0} (f : A → GivenEntry) (order : Endian) (size : ℕ) (next : ListPlaces → List Attribute → ListPlaces) (p : Places) (lists : ListPlaces) (es : List A) (i : ℕ) (d : A) (uses : List EntryShape) (all : List Shaped) (w a now : Writing) (code : ℕ) (result : Result (Unit {0}) WriteError) (error : WriteError) (rs : List OutputRelocation) → i < length es
    → whole (entry_bytes order size) (entry_relocations order size) (shaped (written_entries next p lists uses (map f (drop i es)))) w ≡ whole (entry_bytes order size) (entry_relocations order size) all a
    → code ≡ code_in uses (shape_of (f (get_or es i d)) (map f (drop (suc i) es)))
    → ((e : WriteError) × (result ≡ Err e) × (e ≡ error)) → Refuses error w (length (entry_bytes order size (entry_with next p lists code (f (get_or es i d)) (map f (drop (suc i) es)))))
    → Writes a now result (flat_map (entry_bytes order size) all) rs
loop-entries-refused f order size next p lists es i d uses all w a now code result error rs within invariant is met refused =
    let e = f (get_or es i d) in
    let behind = map f (drop (suc i) es) in
    let more = seen-more f es i d within in
    let P : List Shaped → Writing = λ xs. whole (entry_bytes order size) (entry_relocations order size) xs w in
    let here = ap (λ k. P (entry_with next p lists k e behind ∷ shaped (written_entries next p (next lists e.attributes) uses behind))) is ∙ ap P (sym (shaped-more next p lists uses e behind)) ∙ ap (λ xs. P (shaped (written_entries next p lists uses xs))) (sym more) ∙ invariant in
    let later = whole-refused (entry_bytes order size) (entry_relocations order size) (entry_with next p lists code e behind) (shaped (written_entries next p (next lists e.attributes) uses behind)) all w a error here refused in
    let is_err : result ≡ Err error = met.1 ∙ ap Err met.2 in
    rw (is_err) later

-- ---- entries that are laid out

-- an entry more, whose shape is used: codes by first use, offsets, and how long the entries are
pub record IsStep (order : Endian) (size : ℕ) (known uses : List EntryShape) (codes offsets : List ℕ) (place : ℕ) (all : List ℕ) (starts : List ℕ) (total : ℕ) (es : List GivenEntry) : Type 0 where
  pub used : first_uses known (shapes_of es) ≡ uses
  pub coded : codes ++ map (λ w. w.code) (written_entries nowhere no_places no_lists uses es) ≡ all
  pub placed : offsets ++ at_places (entry_bytes order size) (λ p x. p ∷ []) place (shaped (written_entries nowhere no_places no_lists uses es)) ≡ starts
  pub long : place + length (flat_map (entry_bytes order size) (shaped (written_entries nowhere no_places no_lists uses es))) ≡ total

pub step-more : (order : Endian) (size : ℕ) (known now uses : List EntryShape) (codes offsets : List ℕ) (place next code : ℕ) (all starts : List ℕ) (total : ℕ) (e : GivenEntry) (es : List GivenEntry) → IsStep order size known uses codes offsets place all starts total (e ∷ es)
    → now ≡ with_use (shape_of e es) known → code ≡ code_in known (shape_of e es) → next ≡ place + length (entry_bytes order size (entry_with nowhere no_places no_lists code e es))
    → IsStep order size now uses (codes ++ code ∷ []) (offsets ++ place ∷ []) next all starts total es
step-more order size known now uses codes offsets place next code all starts total e es step grown is on =
    let s = shape_of e es in
    let final : code_in uses s ≡ code = ap (λ us. code_in us s) (sym step.used) ∙ code-stays s known (shapes_of es) ∙ sym is in
    let rest = shaped (written_entries nowhere no_places no_lists uses es) in
    let here = entry_with nowhere no_places no_lists code e es in
    let shape_is : shaped (written_entries nowhere no_places no_lists uses (e ∷ es)) ≡ here ∷ rest = shaped-more nowhere no_places no_lists uses e es ∙ ap (λ k. entry_with nowhere no_places no_lists k e es ∷ rest) final in
    let placed = ap (λ xs. offsets ++ at_places (entry_bytes order size) (λ p x. p ∷ []) place xs) (sym shape_is) ∙ step.placed in
    let long = ap (λ xs. place + length (flat_map (entry_bytes order size) xs)) (sym shape_is) ∙ step.long in
    record {
      used = rw (grown) (step.used);
      coded = append_assoc codes (code ∷ []) _ ∙ ap (λ k. codes ++ k ∷ map (λ w. w.code) (written_entries nowhere no_places no_lists uses es)) (sym final) ∙ step.coded;
      placed = append_assoc offsets (place ∷ []) _ ∙ ap (λ p. offsets ++ place ∷ at_places (entry_bytes order size) (λ q x. q ∷ []) p rest) on ∙ placed;
      long = omega (arith, on, long, length-append (entry_bytes order size here) (flat_map (entry_bytes order size) rest));
    }

-- the end that is refused
pub step-refused : (order : Endian) (size : ℕ) (known uses : List EntryShape) (codes offsets : List ℕ) (place code : ℕ) (all starts : List ℕ) (total : ℕ) (e : GivenEntry) (es : List GivenEntry) → IsStep order size known uses codes offsets place all starts total (e ∷ es)
    → code ≡ code_in known (shape_of e es) → place + length (entry_bytes order size (entry_with nowhere no_places no_lists code e es)) ≤ total
step-refused order size known uses codes offsets place code all starts total e es step is =
    let s = shape_of e es in
    let final : code_in uses s ≡ code = ap (λ us. code_in us s) (sym step.used) ∙ code-stays s known (shapes_of es) ∙ sym is in
    let rest = shaped (written_entries nowhere no_places no_lists uses es) in
    let here = entry_with nowhere no_places no_lists code e es in
    let shape_is : shaped (written_entries nowhere no_places no_lists uses (e ∷ es)) ≡ here ∷ rest = shaped-more nowhere no_places no_lists uses e es ∙ ap (λ k. entry_with nowhere no_places no_lists k e es ∷ rest) final in
    let long = ap (λ xs. place + length (flat_map (entry_bytes order size) xs)) (sym shape_is) ∙ step.long in
    omega (arith, long, length-append (entry_bytes order size here) (flat_map (entry_bytes order size) rest))

-- while nothing has a place, each attribute is written alone
pub unplaced-attributes : (xs : List Attribute) → map (written_attribute no_places no_lists) xs ≡ written_attributes nowhere no_places no_lists xs
unplaced-attributes [] = refl
unplaced-attributes (x ∷ xs) = ap (λ ys. written_attribute no_places no_lists x ∷ ys) (unplaced-attributes xs)

-- ---- values one behind another, of which the next lists stand at some places

-- what is there, with what is still to be written
abbrev pub values_left : ℕ → ℕ → Places → Endian → ListPlaces → List Attribute → Writing → Writing
values_left version size p order place xs w = whole (attribute_bytes order size) (λ q x. value_relocations size q x.value) (written_attributes (behind_attributes version size) p place xs) w

module _ (version size : ℕ) (p : Places) (xs : List Attribute) (i : ℕ) (d : Attribute) (place start : ListPlaces) (a w : Writing) where
  pub values-order : values_left version size p a.order place (drop i xs) w ≡ values_left version size p a.order start xs a → w.order ≡ a.order
  values-order invariant = ap (λ (v : Writing). v.order) invariant

  -- a value more
  pub values-more : (v : Writing) (after : ListPlaces) → i < length xs → values_left version size p a.order place (drop i xs) w ≡ values_left version size p a.order start xs a → after ≡ behind_value version size place (get_or xs i d).value
      → v ≡ appended (attribute_bytes w.order size (written_attribute p place (get_or xs i d))) (value_relocations size (length w.body) (written_of p place (get_or xs i d).value)) w
      → values_left version size p a.order after (drop (suc i) xs) v ≡ values_left version size p a.order start xs a
  values-more v after within invariant onwards step =
      let x = get_or xs i d in
      let here = ap (λ ys. values_left version size p a.order place ys w) (sym (drop-more xs i d within)) ∙ invariant in
      let P : Endian → Type 0 = λ o. v ≡ appended (attribute_bytes o size (written_attribute p place x)) (value_relocations size (length w.body) (written_of p place x.value)) w in
      rw (onwards)
      (whole-more (attribute_bytes a.order size) (λ q y. value_relocations size q y.value) (written_attribute p place x) (written_attributes (behind_attributes version size) p (behind_value version size place x.value) (drop (suc i) xs)) w v _ here (subst P (values-order invariant) step))

  -- a value that is refused
  pub values-refused : (now : Writing) (result : Result (Unit {0}) WriteError) (error : WriteError) (rs : List OutputRelocation) → i < length xs → values_left version size p a.order place (drop i xs) w ≡ values_left version size p a.order start xs a
      → ((e : WriteError) × (result ≡ Err e) × (e ≡ error)) → Refuses error w (length (attribute_bytes w.order size (written_attribute p place (get_or xs i d))))
      → Writes a now result (flat_map (attribute_bytes a.order size) (written_attributes (behind_attributes version size) p start xs)) rs
  values-refused now result error rs within invariant met refused =
      let x = get_or xs i d in
      let here = ap (λ ys. values_left version size p a.order place ys w) (sym (drop-more xs i d within)) ∙ invariant in
      let P : Endian → Type 0 = λ o. Refuses error w (length (attribute_bytes o size (written_attribute p place x))) in
      let later = whole-refused (attribute_bytes a.order size) (λ q y. value_relocations size q y.value) (written_attribute p place x) (written_attributes (behind_attributes version size) p (behind_value version size place x.value) (drop (suc i) xs)) (written_attributes (behind_attributes version size) p start xs) w a error here (subst P (values-order invariant) refused) in
      let is_err : result ≡ Err error = met.1 ∙ ap Err met.2 in
      rw (is_err) later

  pub values-done : length xs ≤ i → values_left version size p a.order place (drop i xs) w ≡ values_left version size p a.order start xs a → w ≡ values_left version size p a.order start xs a
  values-done past invariant =
      let none : drop i xs ≡ [] = drop_all i xs past in
      whole-done (attribute_bytes a.order size) (λ q x. value_relocations size q x.value) w _ (ap (λ ys. values_left version size p a.order place ys w) (sym none) ∙ invariant)

  -- the next lists stand behind
  pub next-place : (after : ListPlaces) → i < length xs → behind_attributes version size place (drop i xs) ≡ behind_attributes version size start xs → after ≡ behind_value version size place (get_or xs i d).value → behind_attributes version size after (drop (suc i) xs) ≡ behind_attributes version size start xs
  next-place after within invariant onwards = rw (onwards) (ap (behind_attributes version size place) (sym (drop-more xs i d within)) ∙ invariant)
