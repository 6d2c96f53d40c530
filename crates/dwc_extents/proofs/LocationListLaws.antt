-- What attributes become whose values are location lists.
use Rattle.std.proofs.Common.{◌≡◌, ℕ, ◌+◌, ◌<◌, ◌≤◌, List, [], ◌∷◌, ◌++◌, length, drop, get_or, map, append-nil, append_assoc, Bool, true, false, Some, None, Ok, Err, refl, sym, ap, subst, ◌∙◌}
use Rattle.std.specs.Prelude.{◌||◌, Option, Result, option_map, unwrap_or}
use Rattle.std.proofs.lemmas.List.{at_drop_more, drop_all, drop_more}
use Rattle.dwc_base.specs.declared.records.Address.{Address}
use Rattle.dwc_base.specs.declared.section_name.SectionName.{SectionName}
use Rattle.dwc_base.specs.declared.section_name.SectionName.TheVariants.{Info}
use Rattle.dwc_base.specs.declared.faults.What.TheVariants.{LocationList}
use Rattle.dwc_base.specs.declared.faults.Flaw.{Flaw}
use Rattle.dwc_base.specs.Listing.{only_fault}
use Rattle.dwc_base.specs.Reading.{◌>>=◌}
use Rattle.dwc_base.specs.Sections.{Sections, Fault, fault_of, reported}
use Rattle.dwc_base.specs.Units.{UnitHeader}
use Rattle.dwc_dwarf.specs.Values.{Value}
use Rattle.dwc_dwarf.specs.Trees.{Location, TreeValue}
use Rattle.dwc_rules.specs.Kept.{Placed}
use Rattle.dwc_rules.specs.RangeRules.{told_as}
use Rattle.dwc_dwarf.specs.RawLists.{ListSource, ListPlace, list_named}
use Rattle.dwc_dwarf.specs.Lists.{ListRefusal, of_place, list_source, list_of_value, locations_at, locations_of_value}
use Rattle.dwc_rules.specs.Drafts.{DraftValue}
use Rattle.dwc_rules.specs.LocationRules.{ExpressionSource, in_force_at, listed_by, lists_of, locations_become}
use Rattle.dwc_native.specs.BuiltExpressions.{BuildRefusal, BuiltExpressions, built_over}
use Rattle.dwc_native.specs.Parts.{CompiledParts, compiled}
use Rattle.dwc_rules.specs.Wrappers.{is_wrapped}
use Rattle.dwc_rules.specs.LocationAttributes.{InForce, ListedExpression, LocationRefusal, built_at, built_for, built_for_each, compiled_at, drafted, read_locations, value_of_locations, with_locations}
use Rattle.dwc_read.specs.Faults.{fault_at}
use Rattle.dwc_tabs.specs.LocationLists.{location_list_named}
use Rattle.dwc_tabs.specs.RangeLists.{Tells}
use Rattle.dwc_unit.specs.declared.expressions.Expression.{Expression}
use Rattle.dwc_expr.specs.declared.error.ExprError.{ExprError}
use Rattle.dwc_expr.specs.declared.error.ExprError.TheVariants.{Read, TooLarge, BadLabelRange, InvalidAttributeValue, UnmappedRegister, OutOfMemory}
use Rattle.dwc_expr.specs.Builds.{IsTold, location_view}
use Rattle.dwc_expr.specs.Compiles.{TellsPlace}
use Rattle.dwc_expr.specs.Errors.{refusal_told}
use Rattle.dwc_expr.specs.OverIntervals.{Puts, PutsBuilt}
use Rattle.dwc_extents.specs.declared.listed.ListedExpression as declared
use Rattle.dwc_extents.specs.LocationListValues.{LocationListRefusal, PutsInterval, of_list, of_expression, listed_in, listed_view, value_of_list, read_by, read_only, some_where}
use Rattle.dwc_extents.specs.LocationValues.{RefusesTold, error_at, expression_at, told}
use Rattle.dwc_extents.proofs.LocationValueLaws.{built-told, compiled-is, compiled-told}
use Rattle.dwc_extents.proofs.NativeRangeLaws.{moved-to-entry}

-- ---- where a list is

module _ (s : Sections) (h : UnitHeader) (v : Value) where
  abbrev src : ListSource
  src = list_source s h

  -- a list that cannot be found, told at its entry
  pub locations-refused : (offset : ℕ) (o : Option Fault) (told : ListRefusal) → Tells (location_list_named s h v) o → ((f : Fault) → o ≡ Some f → told ≡ of_place (fault_at offset f)) → locations_of_value src offset v ≡ only_fault told
  unfolding locations_of_value
  locations-refused offset None told tells is = absurd tells
  locations-refused offset (Some f) told tells is = go (list_named src v) tells
    where
      go : (o : Option (Result ListPlace Flaw)) → option_map (reported LocationList Info h.offset) o ≡ Some (Err f) → list_of_value LocationList offset (locations_at src) o ≡ only_fault told
      go None e = absurd (cc)
      go (Some (Err flaw)) e =
          let same : fault_of LocationList Info h.offset flaw ≡ f = cc in
          ap only_fault (ap of_place (sym (moved-to-entry LocationList Info offset h.offset flaw) ∙ ap (fault_at offset) same) ∙ sym (is f refl))
      go (Some (Ok p)) e = absurd (cc)

-- ---- what is built, interval by interval

-- what was built so far in front of what is built for the intervals that are left
abbrev pub behind : Option (List Location) → Result (Option (List Location)) LocationRefusal → Result (Option (List Location)) LocationRefusal
behind so_far others = others >>= λ ls. Ok (with_locations so_far ls)

-- in whichever order three are joined
with-with : (first second others : Option (List Location)) → with_locations first (with_locations second others) ≡ with_locations (with_locations first second) others
with-with None second others = refl
with-with (Some ls) None others = ap (λ xs. Some (xs ++ unwrap_or others [])) (sym (append-nil ls))
with-with (Some ls) (Some ms) others = ap (λ xs. Some xs) (sym (append_assoc ls ms (unwrap_or others [])))

module _ (e : InForce) where
  -- an interval that is built
  more : (x : ListedExpression) (xs : List ListedExpression) (so_far first : Option (List Location)) → built_for e x ≡ Ok first → behind so_far (built_for_each e (x ∷ xs)) ≡ behind (with_locations so_far first) (built_for_each e xs)
  unfolding built_for_each
  more x xs so_far first is = rw is (go (built_for_each e xs))
    where
      go : (others : Result (Option (List Location)) LocationRefusal) → behind so_far (others >>= λ ls. Ok (with_locations first ls)) ≡ behind (with_locations so_far first) others
      go (Ok ls) = ap {B = Result (Option (List Location)) LocationRefusal} (λ found. Ok found) (with-with so_far first ls)
      go (Err refusal) = refl

  -- one that is refused
  refused : (x : ListedExpression) (xs : List ListedExpression) (so_far : Option (List Location)) (refusal : LocationRefusal) → built_for e x ≡ Err refusal → behind so_far (built_for_each e (x ∷ xs)) ≡ Err refusal
  unfolding built_for_each
  refused x xs so_far refusal is = rw is refl

  -- no interval more
  end : (so_far : Option (List Location)) → behind so_far (built_for_each e []) ≡ Ok so_far
  unfolding built_for_each
  end None = refl
  end (Some ls) = ap {B = Result (Option (List Location)) LocationRefusal} (λ xs. Ok (Some xs)) (append-nil ls)

  module _ (xs : List declared.ListedExpression) (i : ℕ) (so_far : Option (List Location)) (all : Result (Option (List Location)) LocationRefusal) (whole : behind so_far (built_for_each e (map listed_view (drop i xs))) ≡ all) where
    -- What was built, in front of what is built for the intervals that are left, stays the whole with an interval more.
    pub built-more : (d : declared.ListedExpression) (first after : Option (List Location)) → i < length xs → built_for e (listed_view (get_or xs i d)) ≡ Ok first → after ≡ with_locations so_far first → behind after (built_for_each e (map listed_view (drop (i + 1) xs))) ≡ all
    built-more d first after inside is joined =
        ap (λ ls. behind ls (built_for_each e (map listed_view (drop (i + 1) xs)))) joined
        ∙ sym (more (listed_view (get_or xs i d)) (map listed_view (drop (i + 1) xs)) so_far first is)
        ∙ sym (at_drop_more (λ ys. behind so_far (built_for_each e (map listed_view ys))) xs i d inside) ∙ whole

    -- An interval that is refused refuses the whole.
    pub built-refused : (d : declared.ListedExpression) (o : Option LocationRefusal) → i < length xs → RefusesTold (built_for e (listed_view (get_or xs i d))) o → RefusesTold all o
    built-refused d None inside tells = tt
    built-refused d (Some refusal) inside tells =
        sym whole ∙ at_drop_more (λ ys. behind so_far (built_for_each e (map listed_view ys))) xs i d inside ∙ refused (listed_view (get_or xs i d)) (map listed_view (drop (i + 1) xs)) so_far refusal tells

    -- At the end it is the whole.
    pub built-whole : length xs ≤ i → all ≡ Ok so_far
    built-whole past = sym whole ∙ ap (λ ys. behind so_far (built_for_each e (map listed_view ys))) (drop_all i xs past) ∙ end so_far

-- ---- what is put for an interval behind other locations

module _ (e : InForce) (xs : List declared.ListedExpression) (i : ℕ) (supported : Bool) (old : List (Address × ℕ × Expression)) (all : Result (Option (List Location)) LocationRefusal)
    (whole : behind (some_where supported (map location_view old)) (built_for_each e (map listed_view (drop i xs))) ≡ all) where
  -- An interval more is put, supported or not.
  pub put-more : (empty : supported ≡ false → old ≡ []) (d : declared.ListedExpression) (put : Bool) (new : List (Address × ℕ × Expression)) → i < length xs → PutsInterval (built_for e (listed_view (get_or xs i d))) old new (Ok put)
      → behind (some_where (supported || put) (map location_view new)) (built_for_each e (map listed_view (drop (i + 1) xs))) ≡ all
  put-more empty d false new inside puts = built-more e xs i (some_where supported (map location_view old)) all whole d None (some_where (supported || false) (map location_view new)) inside puts.0 (go supported)
    where
      go : (b : Bool) → some_where (b || false) (map location_view new) ≡ with_locations (some_where b (map location_view old)) None
      go true = ap {B = Option (List Location)} (λ ls. Some ls) (ap (map location_view) puts.1 ∙ sym (append-nil (map location_view old)))
      go false = refl
  put-more empty d true new inside puts = built-more e xs i (some_where supported (map location_view old)) all whole d (Some puts.0) (some_where (supported || true) (map location_view new)) inside puts.1 (go supported empty)
    where
      go : (b : Bool) → (b ≡ false → old ≡ []) → some_where (b || true) (map location_view new) ≡ with_locations (some_where b (map location_view old)) (Some puts.0)
      go true nothing = ap {B = Option (List Location)} (λ ls. Some ls) puts.2
      go false nothing = ap {B = Option (List Location)} (λ ls. Some ls) (puts.2 ∙ ap (λ es. map location_view es ++ puts.0) (nothing refl))

-- Where none is supported nothing is put.
pub put-none : (supported put : Bool) (expected : Result (Option (List Location)) LocationRefusal) (old new : List (Address × ℕ × Expression)) → (supported ≡ false → old ≡ []) → PutsInterval expected old new (Ok put) → (supported || put) ≡ false → new ≡ []
put-none true put expected old new empty puts none = absurd (cc)
put-none false true expected old new empty puts none = absurd (cc)
put-none false false expected old new empty puts none = puts.1 ∙ empty refl

-- what is built for an interval, by what its expression compiles to
module _ (e : InForce) (x : ListedExpression) where
  abbrev scope : List (ℕ × ℕ)
  scope = (x.start, x.end) ∷ []

  abbrev by_parts : Option CompiledParts → Result (Option (List Location)) LocationRefusal
  by_parts parts = elim parts [ None ↦ Ok None | Some p ↦ (built_at e.surroundings scope p >>= λ built. Ok (Some built.expressions)) ]

  for-parts : (parts : Option CompiledParts) → compiled_at e.base x.given ≡ Ok parts → built_for e x ≡ by_parts parts
  unfolding built_for
  for-parts parts is = ap (λ r. r >>= by_parts) is

  for-refused : (o : Option LocationRefusal) → RefusesTold (compiled_at e.base x.given) o → RefusesTold (built_for e x) o
  unfolding built_for
  for-refused None refused = tt
  for-refused (Some refusal) refused = ap (λ r. r >>= by_parts) refused

  build-refused : (p : CompiledParts) → compiled_at e.base x.given ≡ Ok (Some p) → (o : Option LocationRefusal) → RefusesTold (built_at e.surroundings scope p) o → RefusesTold (built_for e x) o
  build-refused p is None refused = tt
  build-refused p is (Some refusal) refused = for-parts (Some p) is ∙ ap {B = Result (Option (List Location)) LocationRefusal} (λ r. r >>= λ built. Ok (Some built.expressions)) refused

  module _ (old new : List (Address × ℕ × Expression)) where
    built-put : (p : CompiledParts) → compiled_at e.base x.given ≡ Ok (Some p) → PutsBuilt (built_over e.surroundings scope p) old new (Ok tt) → PutsInterval (built_for e x) old new (Ok true)
    unfolding built_at
    built-put p is puts = go (built_over e.surroundings scope p) refl puts
      where
        go : (r : Result BuiltExpressions BuildRefusal) → built_over e.surroundings scope p ≡ r → PutsBuilt r old new (Ok tt) → PutsInterval (built_for e x) old new (Ok true)
        go (Ok built) same put = (built.expressions, for-parts (Some p) is ∙ rw (same, built_at) refl, sym (cc))
        go (Err refusal) same put = absurd (cc)

    pub interval-put : (supported : Bool) → Puts e.surroundings scope old new (compiled e.base x.given.bytes) (Ok supported) → PutsInterval (built_for e x) old new (Ok supported)
    interval-put supported puts = go (compiled e.base x.given.bytes) supported refl puts
      where
        go : (r : Result (Option CompiledParts) ℕ) (b : Bool) → compiled e.base x.given.bytes ≡ r → Puts e.surroundings scope old new r (Ok b) → PutsInterval (built_for e x) old new (Ok b)
        go (Ok None) true is put = absurd (cc)
        go (Ok None) false is put = (for-parts None (compiled-is e.base x.given None is), put.1)
        go (Ok (Some p)) true is put = built-put p (compiled-is e.base x.given (Some p) is) put.1
        go (Ok (Some p)) false is put = absurd (cc)
        go (Err place) b is put = absurd put

    -- one of build_with_locals is told as it is
    kept-told : (expected : Result BuiltExpressions BuildRefusal) (place : SectionName × ℕ) (z : ExprError) → IsTold expected z (refusal_told z) → told (error_at place z) ≡ told z
    kept-told expected place (Read what section offset) tells = absurd (cc)
    kept-told expected place TooLarge tells = refl
    kept-told expected place (BadLabelRange label) tells = refl
    kept-told expected place InvalidAttributeValue tells = refl
    kept-told expected place (UnmappedRegister register) tells = refl
    kept-told expected place OutOfMemory tells = refl

    pub interval-refused : (bytes : List ℕ) (place : SectionName × ℕ) → x.given ≡ expression_at bytes place → (z : ExprError) → Puts e.surroundings scope old new (compiled e.base bytes) (Err z) → RefusesTold (built_for e x) (told (error_at place z))
    interval-refused bytes place given z puts = go (compiled e.base bytes) refl puts
      where
        at : (o : Option LocationRefusal) → RefusesTold (compiled_at e.base (expression_at bytes place)) o → RefusesTold (compiled_at e.base x.given) o
        at o refused = subst (λ g. RefusesTold (compiled_at e.base g) o) (sym given) refused

        go : (r : Result (Option CompiledParts) ℕ) → compiled e.base bytes ≡ r → Puts e.surroundings scope old new r (Err z) → RefusesTold (built_for e x) (told (error_at place z))
        go (Err offset) is put = for-refused (told (error_at place z)) (at (told (error_at place z)) (compiled-told e.base bytes place z (subst (λ r. TellsPlace r z) (sym is) put)))
        go (Ok None) is put = subst (λ y. RefusesTold (built_for e x) (told (error_at place y))) (sym put) tt
        go (Ok (Some p)) is put =
            subst (λ o. RefusesTold (built_for e x) o) (sym (kept-told (built_over e.surroundings scope p) place z put))
            (build-refused p (ap (compiled_at e.base) given ∙ compiled-is e.base (expression_at bytes place) (Some p) is) (told z) (built-told e.surroundings scope p (Err z) put))

-- ---- what a location list becomes, each refusal told as one

-- a refusal of the list, and one of an expression
abbrev pub told_by : {E : Type 0} → (ListRefusal → E) → (LocationRefusal → E) → LocationListRefusal → E
told_by list_told location_told (of_list refusal) = list_told refusal
told_by list_told location_told (of_expression refusal) = location_told refusal

-- What the definitions make of a list of an entry that is not wrapped is what is located of it; one of a wrapped entry is read.
module _ {E : Type 0} (list_told : ListRefusal → E) (location_told : LocationRefusal → E) (c : ExpressionSource) (e : Placed) (v : Value) where
  abbrev by_wrapped : Bool → List ListedExpression → Result (Option DraftValue) LocationRefusal
  by_wrapped wrapped xs = elim wrapped [ true ↦ (read_locations (in_force_at c e) xs >>= λ read. Ok None) | false ↦ (value_of_locations (in_force_at c e) xs >>= λ value. Ok (drafted value)) ]

  become-by : (wrapped : Bool) → is_wrapped c.told.output e ≡ wrapped → locations_become list_told location_told c e v ≡ told_as list_told (listed_by c e v) >>= λ xs. told_as location_told (by_wrapped wrapped xs)
  unfolding locations_become
  become-by wrapped is = ap (λ b. told_as list_told (listed_by c e v) >>= λ xs. told_as location_told (by_wrapped b xs)) is

  pub located-becomes : is_wrapped c.told.output e ≡ false → locations_become list_told location_told c e v ≡ told_as (told_by list_told location_told) (value_of_list (lists_of c) (in_force_at c e) e.entry.offset v) >>= λ value. Ok (drafted value)
  located-becomes plain = become-by false plain ∙ go (listed_by c e v)
    where
      values : (r : Result (Option TreeValue) LocationRefusal) → told_as location_told (r >>= λ value. Ok (drafted value)) ≡ (told_as (told_by list_told location_told) (told_as of_expression r) >>= λ value. Ok (drafted value))
      values (Ok value) = refl
      values (Err refusal) = refl

      go : (r : Result (List ListedExpression) ListRefusal) → (told_as list_told r >>= λ xs. told_as location_told (by_wrapped false xs))
          ≡ (told_as (told_by list_told location_told) (told_as of_list r >>= λ xs. told_as of_expression (value_of_locations (in_force_at c e) xs)) >>= λ value. Ok (drafted value))
      go (Ok xs) = values (value_of_locations (in_force_at c e) xs)
      go (Err refusal) = refl

  pub read-becomes : is_wrapped c.told.output e ≡ true → locations_become list_told location_told c e v ≡ told_as (told_by list_told location_told) (read_by (lists_of c) (in_force_at c e) e.entry.offset v) >>= λ done. Ok None
  read-becomes wrapped = become-by true wrapped ∙ go (listed_by c e v)
    where
      gone : {F : Type 0} → Result (Unit {0}) F → Result (Option DraftValue) F
      gone r = r >>= λ done. Ok None

      values : (r : Result (Unit {0}) LocationRefusal) → told_as location_told (gone r) ≡ gone (told_as (told_by list_told location_told) (told_as of_expression r))
      values (Ok done) = refl
      values (Err refusal) = refl

      go : (r : Result (List ListedExpression) ListRefusal) → (told_as list_told r >>= λ xs. told_as location_told (by_wrapped true xs))
          ≡ (told_as (told_by list_told location_told) (told_as of_list r >>= λ xs. told_as of_expression (read_locations (in_force_at c e) xs)) >>= λ done. Ok None)
      go (Ok xs) = values (read_locations (in_force_at c e) xs)
      go (Err refusal) = refl

-- What is refused of an expression is told where the list was read whole.
pub read-told-by : (s : ListSource) (e : InForce) (offset : ℕ) (v : Value) (xs : List ListedExpression) → told_as of_list (listed_in (locations_of_value s offset v)) ≡ Ok xs → (o : Option LocationRefusal) → RefusesTold (read_locations e xs) o
    → RefusesTold (read_by s e offset v) (option_map of_expression o)
read-told-by s e offset v xs listed None refused = tt
read-told-by s e offset v xs listed (Some refusal) refused = ap (λ l. l >>= λ ys. told_as of_expression (read_locations e ys)) listed ∙ ap (told_as of_expression) refused

-- ---- expressions that are read, interval by interval

module _ (e : InForce) (xs : List declared.ListedExpression) (i : ℕ) where
  -- what is left from one on
  abbrev left : ℕ → Result (Unit {0}) LocationRefusal
  left n = read_locations e (map listed_view (drop n xs))

  module _ (d : declared.ListedExpression) (within : i < length xs) (whole : Result (Unit {0}) LocationRefusal) (so : left i ≡ whole) where
    abbrev first : Result (Option CompiledParts) LocationRefusal
    first = compiled_at e.base (listed_view (get_or xs i d)).given

    first-read : left i ≡ (first >>= λ parts. left (i + 1))
    unfolding read_locations
    first-read = ap (λ ys. read_locations e (map listed_view ys)) (drop_more xs i d within)

    pub read-more : read_only first ≡ Ok tt → left (i + 1) ≡ whole
    read-more is = go first is ∙ sym first-read ∙ so
      where
        go : (r : Result (Option CompiledParts) LocationRefusal) → read_only r ≡ Ok tt → left (i + 1) ≡ (r >>= λ parts. left (i + 1))
        go (Ok parts) same = refl
        go (Err refusal) same = absurd (cc)

    pub read-refused : (o : Option LocationRefusal) → RefusesTold (read_only first) o → RefusesTold whole o
    read-refused None refused = tt
    read-refused (Some refusal) refused = sym so ∙ first-read ∙ go first refused
      where
        go : (r : Result (Option CompiledParts) LocationRefusal) → read_only r ≡ Err refusal → (r >>= λ parts. left (i + 1)) ≡ Err refusal
        go (Ok parts) same = absurd (cc)
        go (Err other) same = cc

  pub read-whole : length xs ≤ i → (whole : Result (Unit {0}) LocationRefusal) → left i ≡ whole → whole ≡ Ok tt
  unfolding read_locations
  read-whole past whole so = sym so ∙ ap (λ ys. read_locations e (map listed_view ys)) (drop_all i xs past)
