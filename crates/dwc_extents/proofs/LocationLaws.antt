-- What expressions and location lists become of an entry, and what is told of those that are refused.
use Rattle.std.proofs.Common.{◌≡◌, ℕ, ◌==◌, List, [], length, Bool, true, false, Option, Some, None, Result, Ok, Err, refl, sym, ap, subst, ◌∙◌}
use Rattle.std.specs.Prelude.{if◌then◌else◌, option_map, unwrap_or}
use Rattle.dwc_base.specs.declared.constants.TheConstants.{DW_AT_frame_base}
use Rattle.dwc_base.specs.declared.faults.What.TheVariants.{Expression as ExpressionRead}
use Rattle.dwc_base.specs.declared.section_name.SectionName.{SectionName}
use Rattle.dwc_base.specs.declared.section_name.SectionName.TheVariants.{Info}
use Rattle.dwc_native.specs.BuiltExpressions.{BuildRefusal, BuiltExpressions, Surroundings, built_over}
use Rattle.dwc_rules.specs.EntryRules as rules
use Rattle.dwc_rules.specs.EntryRules.{bound_value_refused, code_value_becomes, of_location}
use Rattle.dwc_dwarf.specs.ExpressionPlaces.{expression_place}
use Rattle.dwc_rules.specs.Kept.{Placed}
use Rattle.dwc_rules.specs.LocationAttributes.{GivenExpression, InForce, LocationRefusal, base_for, built_at, compiled_at, drafted, of_build, of_place, output_frame_base, read_expression, value_of_attribute, value_of_built, value_of_code, value_of_expression, value_of_parts, value_over}
use Rattle.dwc_rules.specs.LocationRules.{ExpressionSource, expression_becomes, expression_refused, given_expression, in_force_at, lists_of, locations_become, refusal_in}
use Rattle.dwc_native.specs.Parts.{CompiledParts, compiled, is_simple, single_code}
use Rattle.dwc_rules.specs.RangeRules.{told_as}
use Rattle.dwc_dwarf.specs.RawLists.{is_location_list}
use Rattle.dwc_base.specs.Reading.{◌>>=◌}
use Rattle.dwc_rules.specs.Refusals.{Refusal}
use Rattle.dwc_base.specs.Sections.{Fault, unreadable}
use Rattle.dwc_dwarf.specs.Trees.{TreeValue, expression}
use Rattle.dwc_rules.specs.Drafts.{DraftValue}
use Rattle.dwc_rules.specs.Wrappers.{is_wrapped}
use Rattle.dwc_dwarf.specs.Values as Values
use Rattle.dwc_dwarf.specs.Values.{Value}
use Rattle.dwc_tabs.specs.declared.list_fault.ListFault.{ListFault}
use Rattle.dwc_tabs.specs.declared.list_fault.ListFault.TheVariants as faults
use Rattle.dwc_unit.specs.declared.attributes.AttributeValue.{AttributeValue}
use Rattle.dwc_unit.specs.AddedInOrder.{value_meant}
use Rattle.dwc_unit.specs.GivenUnits.{FitsValue}
use Rattle.dwc_expr.specs.declared.error.ExprError.{ExprError}
use Rattle.dwc_expr.specs.declared.error.ExprError.TheVariants.{Read, TooLarge, BadLabelRange, InvalidAttributeValue, UnmappedRegister, OutOfMemory}
use Rattle.dwc_extents.specs.declared.location_value.LocationValue.{LocationValue}
use Rattle.dwc_extents.specs.declared.location_list_error.LocationListError.{LocationListError}
use Rattle.dwc_extents.specs.declared.location_list_error.LocationListError.TheVariants as error
use Rattle.dwc_source.specs.declared.places.EmittedEntry.{EmittedEntry}
use Rattle.dwc_source.specs.Errors.{refusal_told}
use Rattle.dwc_source.specs.Errors as Errors
use Rattle.dwc_extents.specs.LocationListValues.{LocationListRefusal, list_told, value_of_list, of_expression, read_by}
use Rattle.dwc_extents.specs.LocationValues.{RefusesTold, error_at, expression_at, location_value_view, told}
use Rattle.dwc_source.specs.MadeValues.{HasTexts, RefusesSo, Says}
use Rattle.dwc_extents.specs.NativeExtents.{IsTold}
use Rattle.dwc_extents.proofs.LocationValueLaws.{compiled-is, read-is, read-told, value-is, value-told}
use Rattle.dwc_extents.proofs.LocationListLaws.{located-becomes, read-becomes, told_by}

-- ---- where an expression stands changes what is told of it, and nothing else

-- what is answered, where what cannot be read is told as a fault
abbrev pub with_fault : {A : Type 0} → Fault → Result A LocationRefusal → Result A LocationRefusal
with_fault fault (Ok x) = Ok x
with_fault fault (Err (of_place other)) = Err (of_place fault)
with_fault fault (Err (of_build refusal)) = Err (of_build refusal)

refused-is : (base : Option CompiledParts) (x : GivenExpression) (place : ℕ) → compiled base x.bytes ≡ Err place → compiled_at base x ≡ Err (of_place x.fault)
unfolding compiled_at
refused-is base x place is = rw (is, compiled_at) refl

module _ (fault : Fault) where
  over-moved : (name : ℕ) (s : Surroundings) (x : CompiledParts) (scope : Option (List (ℕ × ℕ))) → value_over name s x scope ≡ with_fault fault (value_over name s x scope)
  unfolding built_at
  over-moved name s x None = refl
  over-moved name s x (Some scope) = go (built_over s scope x) refl
    where
      go : (r : Result BuiltExpressions BuildRefusal) → built_over s scope x ≡ r → (built_at s scope x >>= λ built. Ok (value_of_built name built)) ≡ with_fault fault (built_at s scope x >>= λ built. Ok (value_of_built name built))
      go (Ok built) is = rw (is, built_at) refl
      go (Err refusal) is = rw (is, built_at) refl

  parts-moved : (name : ℕ) (e : InForce) (parts : Option CompiledParts) → value_of_parts name e parts ≡ with_fault fault (value_of_parts name e parts)
  parts-moved name e None = refl
  parts-moved name e (Some x) = go (is_simple x)
    where
      made : Bool → Result (Option TreeValue) LocationRefusal
      made simple = if simple then Ok (value_of_code (unwrap_or (single_code x.parts) [])) else value_over name e.surroundings x e.scope

      go : (simple : Bool) → made simple ≡ with_fault fault (made simple)
      go true = refl
      go false = over-moved name e.surroundings x e.scope

  attribute-moved : (name : ℕ) (e : InForce) (parts : Option CompiledParts) → value_of_attribute name e parts ≡ with_fault fault (value_of_attribute name e parts)
  attribute-moved name e parts = go (name == DW_AT_frame_base)
    where
      made : Bool → Result (Option TreeValue) LocationRefusal
      made base = if base then Ok (Some (expression output_frame_base)) else value_of_parts name e parts

      go : (base : Bool) → made base ≡ with_fault fault (made base)
      go true = refl
      go false = parts-moved name e parts

-- nothing becomes of what is read
abbrev pub gone : {F : Type 0} → Result (Unit {0}) F → Result (Option DraftValue) F
gone read = read >>= λ done. Ok None

-- an expression with what is told where it cannot be read
abbrev given : List ℕ → Fault → GivenExpression
given bytes fault = record { fault = fault; bytes = bytes }

module _ (name : ℕ) (e : InForce) (bytes : List ℕ) (here there : Fault) where
  value-moved : value_of_expression name e (given bytes there) ≡ with_fault there (value_of_expression name e (given bytes here))
  value-moved = go (compiled (base_for name e) bytes) refl
    where
      go : (r : Result (Option CompiledParts) ℕ) → compiled (base_for name e) bytes ≡ r → value_of_expression name e (given bytes there) ≡ with_fault there (value_of_expression name e (given bytes here))
      go (Ok parts) is =
          value-is name e (given bytes there) (base_for name e) refl parts (compiled-is (base_for name e) (given bytes there) parts is)
          ∙ attribute-moved there name e parts
          ∙ ap (with_fault there) (sym (value-is name e (given bytes here) (base_for name e) refl parts (compiled-is (base_for name e) (given bytes here) parts is)))
      go (Err place) is =
          value-told name e (given bytes there) (base_for name e) refl (Some (of_place there)) (refused-is (base_for name e) (given bytes there) place is)
          ∙ ap (with_fault there) (sym (value-told name e (given bytes here) (base_for name e) refl (Some (of_place here)) (refused-is (base_for name e) (given bytes here) place is)))

  read-moved : read_expression name e (given bytes there) ≡ with_fault there (read_expression name e (given bytes here))
  read-moved = go (compiled (base_for name e) bytes) refl
    where
      go : (r : Result (Option CompiledParts) ℕ) → compiled (base_for name e) bytes ≡ r → read_expression name e (given bytes there) ≡ with_fault there (read_expression name e (given bytes here))
      go (Ok parts) is =
          read-is name e (given bytes there) (base_for name e) refl parts (compiled-is (base_for name e) (given bytes there) parts is)
          ∙ ap (with_fault there) (sym (read-is name e (given bytes here) (base_for name e) refl parts (compiled-is (base_for name e) (given bytes here) parts is)))
      go (Err place) is =
          read-told name e (given bytes there) (base_for name e) refl (Some (of_place there)) (refused-is (base_for name e) (given bytes there) place is)
          ∙ ap (with_fault there) (sym (read-told name e (given bytes here) (base_for name e) refl (Some (of_place here)) (refused-is (base_for name e) (given bytes here) place is)))

-- What is told of an expression at one place is told of it at another.
module _ {A : Type 0} (r s : Result A LocationRefusal) (here there : SectionName × ℕ) (own : r ≡ with_fault (unreadable ExpressionRead here.0 here.1) r) (moved : s ≡ with_fault (unreadable ExpressionRead there.0 there.1) r) where
  told-there : (e : ExprError) → RefusesTold r (told e) → RefusesTold s (told (error_at there e))
  told-there (Read what section offset) tells =
      let same : Err (of_place (unreadable what section offset)) ≡ Err (of_place (unreadable ExpressionRead here.0 here.1)) = sym tells ∙ own ∙ ap (with_fault (unreadable ExpressionRead here.0 here.1)) tells in
      let is : what ≡ ExpressionRead = cc in
      moved ∙ ap (with_fault (unreadable ExpressionRead there.0 there.1)) tells ∙ ap (λ w. Err (of_place (unreadable w there.0 there.1))) (sym is)
  told-there TooLarge tells = moved ∙ ap (with_fault (unreadable ExpressionRead there.0 there.1)) tells
  told-there (BadLabelRange label) tells = moved ∙ ap (with_fault (unreadable ExpressionRead there.0 there.1)) tells
  told-there InvalidAttributeValue tells = moved ∙ ap (with_fault (unreadable ExpressionRead there.0 there.1)) tells
  told-there (UnmappedRegister register) tells = moved ∙ ap (with_fault (unreadable ExpressionRead there.0 there.1)) tells
  told-there OutOfMemory tells = tt

-- ---- what an entry's expression becomes

module _ (c : ExpressionSource) (e : Placed) (before : List (ℕ × Value)) (offset number : ℕ) (at : e.entry.offset ≡ offset) (numbered : length before ≡ number) (force : InForce) (is_force : force ≡ in_force_at c e) (name : ℕ) (bytes : List ℕ) (here : SectionName × ℕ) where
  -- where it stands
  abbrev place : ℕ
  place = expression_place c.sections c.header offset number bytes

  abbrev there : SectionName × ℕ
  there = (Info, place)

  given-is : given_expression c e before bytes ≡ expression_at bytes there
  given-is =
      ap (λ n. expression_at bytes (Info, expression_place c.sections c.header n (length before) bytes)) at
      ∙ ap (λ n. expression_at bytes (Info, expression_place c.sections c.header offset n bytes)) numbered

  value-is-there : value_of_expression name (in_force_at c e) (given_expression c e before bytes) ≡ value_of_expression name force (expression_at bytes there)
  value-is-there = ap (λ f. value_of_expression name f (given_expression c e before bytes)) (sym is_force) ∙ ap (value_of_expression name force) given-is

  -- what it becomes, by whether the entry is wrapped
  abbrev by_wrapped : Bool → Result (Option DraftValue) LocationRefusal
  by_wrapped wrapped = elim wrapped [ true ↦ (read_expression name (in_force_at c e) (given_expression c e before bytes) >>= λ read. Ok None) | false ↦ (value_of_expression name (in_force_at c e) (given_expression c e before bytes) >>= λ v. Ok (drafted v)) ]

  becomes-by : (wrapped : Bool) → is_wrapped c.told.output e ≡ wrapped → code_value_becomes c e before name (Values.expression bytes) ≡ told_as (of_location c.told.place) (by_wrapped wrapped)
  unfolding expression_becomes
  becomes-by wrapped is = ap (λ b. told_as (of_location c.told.place) (by_wrapped b)) is

  pub expression-made : is_wrapped c.told.output e ≡ false → (t : Option TreeValue) → value_of_expression name force (expression_at bytes here) ≡ Ok t → code_value_becomes c e before name (Values.expression bytes) ≡ Ok (drafted t)
  expression-made plain t is =
      let read = value-is-there ∙ value-moved name force bytes (unreadable ExpressionRead here.0 here.1) (unreadable ExpressionRead Info place) ∙ ap (with_fault (unreadable ExpressionRead Info place)) is in
      becomes-by false plain ∙ ap (λ (r : Result (Option TreeValue) LocationRefusal). told_as (of_location c.told.place) (r >>= λ v. Ok (drafted v))) read

  -- a refusal of it, told as one of the entry's
  becomes-told : is_wrapped c.told.output e ≡ false → (o : Option LocationRefusal) → RefusesTold (value_of_expression name (in_force_at c e) (given_expression c e before bytes)) o → RefusesSo (code_value_becomes c e before name (Values.expression bytes)) (option_map (of_location c.told.place) o)
  becomes-told plain None tells = tt
  becomes-told plain (Some refusal) tells = becomes-by false plain ∙ ap (λ (r : Result (Option TreeValue) LocationRefusal). told_as (of_location c.told.place) (r >>= λ v. Ok (drafted v))) tells

  pub expression-told :
      is_wrapped c.told.output e ≡ false → (error : ExprError) (o : Option Refusal) → o ≡ option_map (of_location c.told.place) (told (error_at there error)) → RefusesTold (value_of_expression name force (expression_at bytes here)) (told error)
      → RefusesSo (code_value_becomes c e before name (Values.expression bytes)) o
  expression-told plain error o is tells =
      let at_here = unreadable ExpressionRead here.0 here.1 in
      rw is (becomes-told plain (told (error_at there error))
      (subst (λ r. RefusesTold r (told (error_at there error))) (sym value-is-there)
      (told-there (value_of_expression name force (expression_at bytes here)) (value_of_expression name force (expression_at bytes there)) here there
      (value-moved name force bytes at_here at_here) (value-moved name force bytes at_here (unreadable ExpressionRead Info place)) error tells)))

  -- ---- one in the place of a bound

  read-is-there : read_expression name (in_force_at c e) (given_expression c e before bytes) ≡ read_expression name force (expression_at bytes there)
  read-is-there = ap (λ f. read_expression name f (given_expression c e before bytes)) (sym is_force) ∙ ap (read_expression name force) given-is

  pub bound-read : (done : Unit {0}) → read_expression name force (expression_at bytes here) ≡ Ok done → bound_value_refused c e before name (Values.expression bytes) ≡ None
  unfolding expression_refused
  bound-read done is =
      let read = read-is-there ∙ read-moved name force bytes (unreadable ExpressionRead here.0 here.1) (unreadable ExpressionRead Info place) ∙ ap (with_fault (unreadable ExpressionRead Info place)) is in
      ap (λ r. option_map (of_location c.told.place) (refusal_in r)) read

  refused-told : (o : Option LocationRefusal) → RefusesTold (read_expression name (in_force_at c e) (given_expression c e before bytes)) o → IsTold (bound_value_refused c e before name (Values.expression bytes)) (option_map (of_location c.told.place) o)
  unfolding expression_refused
  refused-told None tells = tt
  refused-told (Some refusal) tells = ap (λ r. option_map (of_location c.told.place) (refusal_in r)) tells

  pub bound-told :
      (error : ExprError) (o : Option Refusal) → o ≡ option_map (of_location c.told.place) (told (error_at there error)) → RefusesTold (read_expression name force (expression_at bytes here)) (told error)
      → IsTold (bound_value_refused c e before name (Values.expression bytes)) o
  bound-told error o is tells =
      let at_here = unreadable ExpressionRead here.0 here.1 in
      rw is (refused-told (told (error_at there error))
      (subst (λ r. RefusesTold r (told (error_at there error))) (sym read-is-there)
      (told-there (read_expression name force (expression_at bytes here)) (read_expression name force (expression_at bytes there)) here there
      (read-moved name force bytes at_here at_here) (read-moved name force bytes at_here (unreadable ExpressionRead Info place)) error tells)))

  -- ---- one of an entry that is wrapped

  abbrev read_of : Result (Unit {0}) LocationRefusal
  read_of = read_expression name (in_force_at c e) (given_expression c e before bytes)

  pub wrapped-read : is_wrapped c.told.output e ≡ true → bound_value_refused c e before name (Values.expression bytes) ≡ None → code_value_becomes c e before name (Values.expression bytes) ≡ Ok None
  unfolding expression_refused
  wrapped-read wrapped none = becomes-by true wrapped ∙ go read_of none
    where
      go : (r : Result (Unit {0}) LocationRefusal) → option_map (of_location c.told.place) (refusal_in r) ≡ None → told_as (of_location c.told.place) (gone r) ≡ Ok None
      go (Ok done) is = refl
      go (Err refusal) is = absurd (cc)

  pub wrapped-told : is_wrapped c.told.output e ≡ true → (o : Option Refusal) → IsTold (bound_value_refused c e before name (Values.expression bytes)) o → RefusesSo (code_value_becomes c e before name (Values.expression bytes)) o
  unfolding expression_refused
  wrapped-told wrapped None told = tt
  wrapped-told wrapped (Some x) told = becomes-by true wrapped ∙ go read_of told
    where
      go : (r : Result (Unit {0}) LocationRefusal) → option_map (of_location c.told.place) (refusal_in r) ≡ Some x → told_as (of_location c.told.place) (gone r) ≡ Err x
      go (Ok done) is = absurd (cc)
      go (Err refusal) is = cc

-- ---- what an entry's location list becomes

module _ (c : ExpressionSource) (e : Placed) (before : List (ℕ × Value)) (offset : ℕ) (at : e.entry.offset ≡ offset) (force : InForce) (is_force : force ≡ in_force_at c e) (name : ℕ) (v : Value) (list : is_location_list v ≡ true) where
  -- what is told of it
  abbrev list_refusal : LocationListRefusal → Refusal
  list_refusal refusal = told_by rules.of_list (of_location c.told.place) refusal

  -- it is a list, whatever else it is
  kind : (w : Value) → is_location_list w ≡ true → code_value_becomes c e before name w ≡ locations_become rules.of_list (of_location c.told.place) c e w
  kind (Values.location_reference n) is = refl
  kind (Values.location_index i) is = refl
  kind (Values.address a) is = absurd (cc)
  kind (Values.address_index i) is = absurd (cc)
  kind (Values.constant form bits) is = absurd (cc)
  kind (Values.flag b) is = absurd (cc)
  kind (Values.block bytes) is = absurd (cc)
  kind (Values.text bytes) is = absurd (cc)
  kind (Values.text_reference form n) is = absurd (cc)
  kind (Values.unit_reference n) is = absurd (cc)
  kind (Values.info_reference n) is = absurd (cc)
  kind (Values.line_reference n) is = absurd (cc)
  kind Values.dropped is = absurd (cc)
  kind (Values.expression bytes) is = absurd (cc)
  kind (Values.range_reference n) is = absurd (cc)
  kind (Values.range_index n) is = absurd (cc)

  -- what is located of it, of an entry that is not wrapped
  pub plain-becomes : is_wrapped c.told.output e ≡ false → code_value_becomes c e before name v ≡ (told_as list_refusal (value_of_list (lists_of c) force offset v) >>= λ value. Ok (drafted value))
  plain-becomes plain =
      kind v list ∙ located-becomes rules.of_list (of_location c.told.place) c e v plain
      ∙ ap (λ f. told_as list_refusal (value_of_list (lists_of c) f e.entry.offset v) >>= λ value. Ok (drafted value)) (sym is_force)
      ∙ ap (λ n. told_as list_refusal (value_of_list (lists_of c) force n v) >>= λ value. Ok (drafted value)) at

  -- of one that is wrapped it is read
  pub wrapped-becomes : is_wrapped c.told.output e ≡ true → code_value_becomes c e before name v ≡ (told_as list_refusal (read_by (lists_of c) force offset v) >>= λ done. Ok None)
  wrapped-becomes wrapped =
      kind v list ∙ read-becomes rules.of_list (of_location c.told.place) c e v wrapped
      ∙ ap (λ f. told_as list_refusal (read_by (lists_of c) f e.entry.offset v) >>= λ done. Ok None) (sym is_force)
      ∙ ap (λ n. told_as list_refusal (read_by (lists_of c) force n v) >>= λ done. Ok None) at

-- What becomes of a list by what was seen of it.
module _ (c : ExpressionSource) (e : Placed) (before : List (ℕ × Value)) (name : ℕ) (v : Value) {A : Type 0} (seen : Result A LocationListRefusal) (draft : A → Option DraftValue)
    (becomes : code_value_becomes c e before name v ≡ (told_as (told_by rules.of_list (of_location c.told.place)) seen >>= λ x. Ok (draft x))) where
  abbrev refusal_of : LocationListRefusal → Refusal
  refusal_of refusal = told_by rules.of_list (of_location c.told.place) refusal

  pub list-made : (x : A) → seen ≡ Ok x → code_value_becomes c e before name v ≡ Ok (draft x)
  list-made x is = becomes ∙ ap (λ r. told_as refusal_of r >>= λ y. Ok (draft y)) is

  pub list-told : (o : Option LocationListRefusal) → RefusesTold seen o → RefusesSo (code_value_becomes c e before name v) (option_map refusal_of o)
  list-told None tells = tt
  list-told (Some refusal) tells = becomes ∙ ap (λ r. told_as refusal_of r >>= λ y. Ok (draft y)) tells

  -- the list itself
  pub list-unread : (x : LocationListError) (fault : ListFault) → x ≡ error.List fault → RefusesTold seen (list_told x) → RefusesSo (code_value_becomes c e before name v) (refusal_told (Errors.of_list fault))
  list-unread x fault is tells = go fault (list-told (list_told (error.List fault)) (subst (λ y. RefusesTold seen (list_told y)) is tells))
    where
      go : (f : ListFault) → RefusesSo (code_value_becomes c e before name v) (option_map refusal_of (list_told (error.List f))) → RefusesSo (code_value_becomes c e before name v) (refusal_told (Errors.of_list f))
      go (faults.Read what section begin) told = told
      go (faults.Unsupported kind begin) told = told
      go faults.TooLarge told = told

  -- one of its expressions
  pub listed-told :
      (x : LocationListError) (refused : ExprError) → x ≡ error.Expression refused → RefusesTold seen (list_told x) → (o : Option Refusal) → o ≡ option_map (of_location c.told.place) (told refused)
      → RefusesSo (code_value_becomes c e before name v) o
  listed-told x refused is tells o told-is = rw told-is (go (told refused) (subst (λ y. RefusesTold seen (list_told y)) is tells))
    where
      go : (o : Option LocationRefusal) → RefusesTold seen (option_map of_expression o) → RefusesSo (code_value_becomes c e before name v) (option_map (of_location c.told.place) o)
      go None tells = tt
      go (Some refusal) tells = list-told (Some (of_expression refusal)) tells

-- ---- what the output says

-- What is answered where the same is located.
pub located-seen : {E : Type 0} (r : Result (Option TreeValue) E) (o p : Option LocationValue) → r ≡ Ok (option_map location_value_view o) → o ≡ p → r ≡ Ok (option_map location_value_view p)
located-seen r o p is same = is ∙ ap (λ (q : Option LocationValue). Ok (option_map location_value_view q)) same

-- A value of the output says what is located.
pub located-says : (places : List EmittedEntry) (number name : ℕ) (texts : List (List ℕ)) (location_value : LocationValue) (v : AttributeValue) → value_meant texts number v ≡ location_value_view location_value → ((size : ℕ) → FitsValue size name v) → HasTexts texts v
    → Says places number name texts (drafted (Some (location_value_view location_value))) (Some v)
located-says places number name texts location_value v means fits has = record { means = λ goals at. ap (λ t. Some t) means; fits = fits; texts = has }

-- Nothing says nothing.
pub nothing-says : (places : List EmittedEntry) (number name : ℕ) (texts : List (List ℕ)) → Says places number name texts (drafted None) None
nothing-says places number name texts = record { means = λ goals at. refl; fits = λ size. tt; texts = tt }
