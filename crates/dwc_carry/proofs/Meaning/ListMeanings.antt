-- What a location list becomes means what the expressions of its intervals do.
use Rattle.std.proofs.Common.{◌≡◌, ℕ, ◌⊎◌, inl, inr, List, [], ◌∷◌, Option, Some, None, Result, Ok, Err, Bool, true, false, refl, sym, ap, subst, ◌∙◌}
use Rattle.std.specs.Prelude.{unwrap_or, Contains}
use Rattle.dwc_base.specs.Reading.{◌>>=◌}
use Rattle.dwc_base.proofs.InLists.{IsIn, in-append, in-contains, contains-in}
use Rattle.dwc_dwarf.specs.Trees.{Location, TreeValue, locations}
use Rattle.dwc_dwarf.specs.Lists.{ListRefusal}
use Rattle.dwc_dwarf.specs.Values.{Value}
use Rattle.dwc_native.specs.Parts.{CompiledParts, compiled}
use Rattle.dwc_native.specs.BuiltExpressions.{BuildRefusal, BuiltExpressions, built_over}
use Rattle.dwc_rules.specs.Kept.{Placed}
use Rattle.dwc_rules.specs.Drafts.{DraftValue, done}
use Rattle.dwc_rules.specs.RangeRules.{told_as}
use Rattle.dwc_rules.specs.Wrappers.{is_wrapped}
use Rattle.dwc_rules.specs.LocationAttributes.{LocationRefusal, InForce, ListedExpression, built_at, built_for, built_for_each, with_locations, value_of_listed, value_of_locations, read_locations, drafted}
use Rattle.dwc_rules.specs.LocationRules.{ExpressionSource, in_force_at, listed_by, listed_become, locations_become}
use Rattle.dwc_expr.specs.WholeParts.{CompiledPartsAreWhole}
use Rattle.dwc_carry.specs.MeaningsCarried.{ValueMeans, IsToldBounded}
use Rattle.dwc_carry.proofs.Meaning.ExpressionMeanings.{compiled-is, built-is, drafted-is, whole-of, locations-mean}

-- a location that is built for an interval of a list
record IsBuiltFor (f : InForce) (item : ListedExpression) (l : Location) : Type 0 where
  parts : CompiledParts
  compiles : compiled f.base item.given.bytes ≡ Ok (Some parts)
  built : BuiltExpressions
  over : built_over f.surroundings ((item.start, item.end) ∷ []) parts ≡ Ok built
  among : IsIn l built.expressions

abbrev ls_in : Option (List Location) → List Location
ls_in o = unwrap_or o []

module _ (f : InForce) where
  abbrev with_parts : ListedExpression → Option CompiledParts → Result (Option (List Location)) LocationRefusal
  with_parts item parts = elim parts [ None ↦ Ok None | Some p ↦ (built_at f.surroundings ((item.start, item.end) ∷ []) p >>= λ built. Ok (Some built.expressions)) ]

  abbrev then_some : Result BuiltExpressions LocationRefusal → Result (Option (List Location)) LocationRefusal
  then_some r = r >>= λ built. Ok (Some built.expressions)

  abbrev list_of : Result (Option (List Location)) LocationRefusal → List Location
  list_of (Ok o) = ls_in o
  list_of (Err refusal) = []

  one : (item : ListedExpression) (o : Option (List Location)) → built_for f item ≡ Ok o → (l : Location) → IsIn l (ls_in o) → IsBuiltFor f item l
  unfolding built_for
  one item o h l i = go (compiled f.base item.given.bytes) refl
    where
      some : (p : CompiledParts) → compiled f.base item.given.bytes ≡ Ok (Some p) → with_parts item (Some p) ≡ Ok o → IsBuiltFor f item l
      some p is k = of (built_over f.surroundings ((item.start, item.end) ∷ []) p) refl
        where
          of : (r : Result BuiltExpressions BuildRefusal) → built_over f.surroundings ((item.start, item.end) ∷ []) p ≡ r → IsBuiltFor f item l
          of (Err refusal) e = let no = sym (ap then_some (built-is f.surroundings ((item.start, item.end) ∷ []) p (Err refusal) e)) ∙ k in absurd (cc)
          of (Ok built) e =
              let yes = sym (ap then_some (built-is f.surroundings ((item.start, item.end) ∷ []) p (Ok built) e)) ∙ k in
              record { parts = p; compiles = is; built = built; over = e; among = subst (IsIn l) (sym (ap list_of yes)) i }

      go : (r : Result (Option CompiledParts) ℕ) → compiled f.base item.given.bytes ≡ r → IsBuiltFor f item l
      go (Err place) is = let no = sym (ap (λ r. r >>= with_parts item) (compiled-is f.base item.given (Err place) is)) ∙ h in absurd (cc)
      go (Ok None) is = absurd (subst (IsIn l) (sym (ap list_of (sym (ap (λ r. r >>= with_parts item) (compiled-is f.base item.given (Ok None) is)) ∙ h))) i)
      go (Ok (Some p)) is = some p is (sym (ap (λ r. r >>= with_parts item) (compiled-is f.base item.given (Ok (Some p)) is)) ∙ h)

  -- each location of a list
  each : (xs : List ListedExpression) (o : Option (List Location)) → built_for_each f xs ≡ Ok o → (l : Location) → IsIn l (ls_in o) → (item : ListedExpression) × IsIn item xs × IsBuiltFor f item l
  unfolding built_for_each
  each [] o h l i = absurd (subst (IsIn l) (ap list_of (sym h)) i)
  each (x ∷ xs) o h l i = go (built_for f x) refl (built_for_each f xs) refl h (λ others k j. each xs others k l j)
    where
      split : (first others : Option (List Location)) → IsIn l (ls_in (with_locations first others)) → IsIn l (ls_in first) ⊎ IsIn l (ls_in others)
      split None others j = inr j
      split (Some ls) others j = in-append ls (ls_in others) l j

      go : (r : Result (Option (List Location)) LocationRefusal) → built_for f x ≡ r → (q : Result (Option (List Location)) LocationRefusal) → built_for_each f xs ≡ q → (r >>= λ first. q >>= λ others. Ok (with_locations first others)) ≡ Ok o
          → ((others : Option (List Location)) → built_for_each f xs ≡ Ok others → IsIn l (ls_in others) → (item : ListedExpression) × IsIn item xs × IsBuiltFor f item l)
          → (item : ListedExpression) × IsIn item (x ∷ xs) × IsBuiltFor f item l
      go (Err refusal) is q all k later = absurd (cc)
      go (Ok first) is (Err refusal) all k later = absurd (cc)
      go (Ok first) is (Ok others) all k later = of (split first others (subst (IsIn l) (sym (ap list_of k)) i))
        where
          of : IsIn l (ls_in first) ⊎ IsIn l (ls_in others) → (item : ListedExpression) × IsIn item (x ∷ xs) × IsBuiltFor f item l
          of (inl j) = (x, inl refl, one x first is l j)
          of (inr j) = let found = later others all j in (found.0, inr found.1, found.2)

module _ (law : CompiledPartsAreWhole) (c : ExpressionSource) (e : Placed) (bounded : IsToldBounded c.told) where
  abbrev force : InForce
  force = in_force_at c e

  list-means : (name : ℕ) (value : Value) → Contains e.entry.attributes (name, value) → (xs : List ListedExpression) → listed_by c e value ≡ Ok xs → (ls : List Location) → built_for_each force xs ≡ Ok (Some ls) → ValueMeans c e name (locations ls)
  list-means name value given xs are ls h = λ l i.
      let found = each force xs (Some ls) h l (contains-in ls l i) in
      let item : ListedExpression = found.0 in
      let b : IsBuiltFor force item l = found.2 in
      locations-mean law c e bounded name ((item.start, item.end) ∷ []) b.parts b.built
      (inr ((item.start, item.end), refl, record { value = value; given = given; listed = xs; are = are; item = item; among = in-contains xs item found.1; over = refl; compiles = b.compiles }))
      (whole-of law c e bounded item.given.bytes b.parts b.compiles) b.over l b.among

  pub list-value : {E : Type 0} (list_told : ListRefusal → E) (location_told : LocationRefusal → E) (name : ℕ) (value : Value) (v : TreeValue) → Contains e.entry.attributes (name, value) → is_wrapped c.told.output e ≡ false
      → locations_become list_told location_told c e value ≡ Ok (Some (done v)) → ValueMeans c e name v
  unfolding locations_become value_of_locations
  list-value {E} list_told location_told name value v given plain h = go (listed_by c e value) refl h
    where
      become : List ListedExpression → Bool → Result (Option DraftValue) LocationRefusal
      become xs b = elim b [ true ↦ (read_locations force xs >>= λ read. Ok None) | false ↦ (value_of_locations force xs >>= λ w. Ok (drafted w)) ]

      built : (xs : List ListedExpression) → listed_by c e value ≡ Ok xs → (r : Result (Option (List Location)) LocationRefusal) → built_for_each force xs ≡ r → ◌≡◌ {A = Result (Option DraftValue) E} (told_as location_told ((r >>= λ ls. Ok (value_of_listed ls)) >>= λ w. Ok (drafted w))) (Ok (Some (done v))) → ValueMeans c e name v
      built xs are (Err refusal) is k = absurd (cc)
      built xs are (Ok None) is k = absurd (cc)
      built xs are (Ok (Some ls)) is k = subst (ValueMeans c e name) (ap (λ (o : Option TreeValue). unwrap_or o v) (drafted-is {E = E} (Some (locations ls)) v k)) (list-means name value given xs are ls is)

      go : (l : Result (List ListedExpression) ListRefusal) → listed_by c e value ≡ l → ◌≡◌ {A = Result (Option DraftValue) E} (told_as list_told l >>= λ xs. told_as location_told (listed_become c e xs)) (Ok (Some (done v))) → ValueMeans c e name v
      go (Err refusal) are k = absurd (cc)
      go (Ok xs) are k = built xs are (built_for_each force xs) refl (sym (ap (λ b. told_as location_told (become xs b)) plain) ∙ k)
