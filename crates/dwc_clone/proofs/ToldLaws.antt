-- What is told of what attributes became: those of a function, and those of an object pointer.
use Rattle.std.proofs.Common.{◌≡◌, ℕ, true≢false, refl, sym, ap, subst, ◌∙◌, List, [], ◌∷◌, Bool, true, false, Option, Some, None, Result, Ok, Err, ◌⊎◌, inl, inr}
use Rattle.std.specs.Prelude.{◌==◌, ◌&&◌, if◌then◌else◌, IfSome, option_map, is_some}
use Rattle.std.specs.List.{find, list_any}
use Rattle.std.proofs.lemmas.Bool.{and_parts, eq-eqb, eqb-true}
use Rattle.dwc_base.specs.declared.records.Address.{Address}
use Rattle.dwc_base.specs.declared.faults.Flaw.{Flaw}
use Rattle.dwc_base.specs.declared.faults.What.TheVariants.{AddressValue, Text}
use Rattle.dwc_base.specs.declared.section_name.SectionName.TheVariants.{Info}
use Rattle.dwc_base.specs.declared.constants.TheConstants.{DW_AT_artificial, DW_AT_frame_base, DW_AT_name, DW_AT_object_pointer, DW_FORM_udata}
use Rattle.dwc_native.specs.BuiltExpressions.{BuiltExpressions}
use Rattle.dwc_rules.specs.Clones.{UnitSource, attribute_becomes, constant_becomes, constant_form, file_number, is_file_name, number_written, reference_becomes, text_becomes, text_drafted, value_becomes}
use Rattle.dwc_rules.specs.Drafts.{itself, Goal, made_of, DraftValue, done, goes_to}
use Rattle.dwc_rules.specs.DraftForests.{settled_value}
use Rattle.dwc_rules.specs.EntryRules.{code_value_becomes, of_list, of_location, rules_of_source}
use Rattle.dwc_rules.specs.Kept.{Placed, names_entry}
use Rattle.dwc_dwarf.specs.Lists as lists
use Rattle.dwc_dwarf.specs.Lists.{ListRefusal, ranges_of_value}
use Rattle.dwc_rules.specs.LocationAttributes.{GivenExpression, InForce, ListedExpression, LocationRefusal, are_equal_to, base_for, built_at, built_for_each, compiled_at, drafted, output_frame_base, read_expression, read_locations, value_of_attribute, value_of_code, value_of_expression, value_of_listed, value_of_locations, value_of_locations_built, value_of_parts, value_over}
use Rattle.dwc_rules.specs.LocationRules.{ExpressionSource, expression_becomes, given_expression, in_force_at, listed_become, listed_by, lists_of, locations_become}
use Rattle.dwc_rules.specs.ObjectPointers.{names_no_pointer, stays_in_unit, underscored, unlike_this}
use Rattle.dwc_native.specs.Parts.{CompiledParts, is_simple, single_code}
use Rattle.dwc_rules.specs.RangeAttributes.{carried_address}
use Rattle.dwc_rules.specs.RangeRules.{all_items, code_becomes, list_becomes, told_as}
use Rattle.dwc_dwarf.specs.RawLists.{ListSource}
use Rattle.dwc_base.specs.Reading.{◌>>=◌}
use Rattle.dwc_native.specs.Functions.{Function}
use Rattle.dwc_rules.specs.Refusals.{Refusal, of_place}
use Rattle.dwc_base.specs.Sections.{Fault, fault_of, reported}
use Rattle.dwc_rules.specs.Targets.{target_of}
use Rattle.dwc_dwarf.specs.Texts.{TextSource, text_named}
use Rattle.dwc_dwarf.specs.Trees.{Interval, Location, TreeValue, address, block, constant, entry, expression, flag, line_table, locations, nothing, ranges, text}
use Rattle.dwc_dwarf.specs.Values as Values
use Rattle.dwc_rules.specs.Wrappers.{is_wrapped}
use Rattle.dwc_dwarf.specs.Values.{Value, is_location_name}
use Rattle.dwc_base.proofs.InLists.{IsIn, any-in, in-any, in-contains}
use Rattle.std.specs.Option.{unwrap_or}
use Rattle.dwc_isa.specs.Registers.{Registers}
use Rattle.dwc_read.specs.Faults.{Refuses}
use Rattle.dwc_kept.specs.ReadEntries.{named_offset}
use Rattle.dwc_unit.specs.declared.attributes.AttributeValue.{AttributeValue}
use Rattle.dwc_clone.specs.declared.object_pointer.Telling.{Telling}
use Rattle.dwc_clone.specs.declared.object_pointer.Telling.TheVariants as telling
use Rattle.dwc_source.specs.declared.source.CloneSource.{CloneSource}
use Rattle.dwc_clone.specs.ClonedEntries.{KeepsNames, told_draft}
use Rattle.dwc_extents.specs.CodeSources.{clone_rules, source_with}
use Rattle.dwc_source.specs.MadeValues.{ArePlaced, RefusesSo, SaysMore, wanted_value}
use Rattle.dwc_source.specs.OutputPlaces.{place_of}
use Rattle.dwc_source.specs.Sources.{IsSource, is_within}
use Rattle.dwc_clone.specs.Tellings.{is_in_unit, names_within, tell_of}
use Rattle.dwc_extents.proofs.LocationsFit.{OfAnswered}
use Rattle.dwc_clone.proofs.ValueLaws.{attribute-value, stays-named}

-- ---- values that are no texts and go nowhere

abbrev pub IsPlainValue : TreeValue → Type 0
IsPlainValue (text bytes) = ⊥
IsPlainValue _ = Unit {0}

abbrev pub IsPlain : DraftValue → Type 0
IsPlain (done v) = IsPlainValue v
IsPlain (goes_to goal) = ⊥

-- what is answered, if something is, is such a value
abbrev AreValues : {E : Type 0} → Result (Option TreeValue) E → Type 0
AreValues r = OfAnswered (λ o. IfSome o IsPlainValue) r

abbrev ArePlain : {E : Type 0} → Result (Option DraftValue) E → Type 0
ArePlain r = OfAnswered (λ o. IfSome o IsPlain) r

told-plain : {E F : Type 0} (f : E → F) (r : Result (Option DraftValue) E) → ArePlain r → ArePlain (told_as f r)
told-plain f (Ok o) plain = plain
told-plain f (Err e) plain = tt

drafted-plain : {E : Type 0} (r : Result (Option TreeValue) E) → AreValues r → ArePlain (r >>= λ v. Ok (drafted v))
drafted-plain (Ok None) plain = tt
drafted-plain (Ok (Some v)) plain = plain
drafted-plain (Err e) plain = tt

read-plain : {E : Type 0} (r : Result (Unit {0}) E) → ArePlain (r >>= λ read. Ok None)
read-plain (Ok x) = tt
read-plain (Err e) = tt

module _ (name : ℕ) (e : InForce) where
  built-plain : (covers : Bool) (ls : List Location) → IfSome (value_of_locations_built name covers ls) IsPlainValue
  built-plain covers [] = tt
  built-plain covers (l ∷ ls) = go (covers && are_equal_to l.bytes ls) (is_location_name name)
    where
      go : (same may : Bool) → IfSome (if same then Some (expression l.bytes) else (if may then Some (locations (l ∷ ls)) else None)) IsPlainValue
      go true may = tt
      go false true = tt
      go false false = tt

  over-plain : (x : CompiledParts) (scope : Option (List (ℕ × ℕ))) → AreValues (value_over name e.surroundings x scope)
  over-plain x None = tt
  over-plain x (Some scope) = go (built_at e.surroundings scope x)
    where
      go : (r : Result BuiltExpressions LocationRefusal) → AreValues (r >>= λ b. Ok (value_of_locations_built name b.covers_entire_scope b.expressions))
      go (Ok b) = built-plain b.covers_entire_scope b.expressions
      go (Err refusal) = tt

  code-plain : (bytes : List ℕ) → IfSome (value_of_code bytes) IsPlainValue
  code-plain [] = tt
  code-plain (b ∷ bs) = tt

  parts-plain : (parts : Option CompiledParts) → AreValues (value_of_parts name e parts)
  parts-plain None = tt
  parts-plain (Some x) = go (is_simple x)
    where
      go : (simple : Bool) → AreValues (if simple then Ok (value_of_code (unwrap_or (single_code x.parts) [])) else value_over name e.surroundings x e.scope)
      go true = code-plain (unwrap_or (single_code x.parts) [])
      go false = over-plain x e.scope

  attribute-plain : (parts : Option CompiledParts) → AreValues (value_of_attribute name e parts)
  attribute-plain parts = go (name == DW_AT_frame_base)
    where
      go : (base : Bool) → AreValues (if base then Ok (Some (expression output_frame_base)) else value_of_parts name e parts)
      go true = tt
      go false = parts-plain parts

  value-plain : (x : GivenExpression) → AreValues (value_of_expression name e x)
  unfolding value_of_expression
  value-plain x = go (compiled_at (base_for name e) x)
    where
      go : (r : Result (Option CompiledParts) LocationRefusal) → AreValues (r >>= value_of_attribute name e)
      go (Ok parts) = attribute-plain parts
      go (Err refusal) = tt

locations-plain : (e : InForce) (xs : List ListedExpression) → AreValues (value_of_locations e xs)
unfolding value_of_locations
locations-plain e xs = go (built_for_each e xs)
  where
    go : (r : Result (Option (List Location)) LocationRefusal) → AreValues (r >>= λ ls. Ok (value_of_listed ls))
    go (Ok None) = tt
    go (Ok (Some ls)) = tt
    go (Err refusal) = tt

code_becomes-plain : (s : ListSource) (fs : List Function) (here : ℕ) (v : Value) → ArePlain (code_becomes s fs here v)
unfolding code_becomes
code_becomes-plain s fs here v = go v
  where
    listed : (r : Result (List Interval) ListRefusal) → ArePlain (list_becomes fs r)
    listed (Ok is) = tt
    listed (Err refusal) = tt

    found : (r : Result Address Flaw) → ArePlain (elim r [ Ok a ↦ Ok (Some (done (carried_address fs a))) | Err flaw ↦ Err (lists.of_place (fault_of AddressValue Info here flaw)) ])
    found (Ok a) = tt
    found (Err flaw) = tt

    go : (v : Value) → ArePlain (code_becomes s fs here v)
    go (Values.address a) = tt
    go (Values.address_index i) = found (s.indexed i)
    go (Values.range_reference n) = listed (all_items (ranges_of_value s here (Values.range_reference n)))
    go (Values.range_index n) = listed (all_items (ranges_of_value s here (Values.range_index n)))
    go (Values.constant form bits) = tt
    go (Values.flag b) = tt
    go (Values.block bytes) = tt
    go (Values.text bytes) = tt
    go (Values.text_reference form n) = tt
    go (Values.unit_reference n) = tt
    go (Values.info_reference n) = tt
    go (Values.line_reference n) = tt
    go Values.dropped = tt
    go (Values.expression bytes) = tt
    go (Values.location_reference n) = tt
    go (Values.location_index n) = tt

-- ---- what a value becomes

module _ (x : ExpressionSource) (e : Placed) (before : List (ℕ × Value)) (name : ℕ) where
  expression-plain : (bytes : List ℕ) → ArePlain (code_value_becomes x e before name (Values.expression bytes))
  unfolding expression_becomes
  expression-plain bytes = told-plain (of_location x.told.place) (expression_becomes x e before name bytes) (go (is_wrapped x.told.output e))
    where
      go : (b : Bool) → ArePlain (elim b [
        | true ↦ (read_expression name (in_force_at x e) (given_expression x e before bytes) >>= λ read. Ok None)
        | false ↦ (value_of_expression name (in_force_at x e) (given_expression x e before bytes) >>= λ v. Ok (drafted v))
      ])
      go true = read-plain (read_expression name (in_force_at x e) (given_expression x e before bytes))
      go false = drafted-plain (value_of_expression name (in_force_at x e) (given_expression x e before bytes)) (value-plain name (in_force_at x e) (given_expression x e before bytes))

  list-plain : (v : Value) → ArePlain (locations_become of_list (of_location x.told.place) x e v)
  unfolding locations_become
  list-plain v = go (told_as of_list (listed_by x e v))
    where
      one : (b : Bool) (xs : List ListedExpression) → ArePlain (elim b [
        | true ↦ (read_locations (in_force_at x e) xs >>= λ read. Ok None)
        | false ↦ (value_of_locations (in_force_at x e) xs >>= λ value. Ok (drafted value))
      ])
      one true xs = read-plain (read_locations (in_force_at x e) xs)
      one false xs = drafted-plain (value_of_locations (in_force_at x e) xs) (locations-plain (in_force_at x e) xs)

      go : (r : Result (List ListedExpression) Refusal) → ArePlain (r >>= λ xs. told_as (of_location x.told.place) (listed_become x e xs))
      go (Ok xs) = told-plain (of_location x.told.place) (listed_become x e xs) (one (is_wrapped x.told.output e) xs)
      go (Err refusal) = tt

  -- an address, or a range list
  range-plain : (v : Value) → ArePlain (told_as of_list (code_becomes (lists_of x) x.functions e.entry.offset v))
  range-plain v = told-plain of_list (code_becomes (lists_of x) x.functions e.entry.offset v) (code_becomes-plain (lists_of x) x.functions e.entry.offset v)

  module _ (s : UnitSource) where
    abbrev becomes : Value → Result (Option DraftValue) Refusal
    becomes v = value_becomes (rules_of_source x) s e before name v

    -- What a value becomes: what a text does, or a reference, or it is neither.
    pub data Becomes (v : Value) : Type 0 where
      text_read : becomes v ≡ text_becomes (rules_of_source x) s e v → ((unit end : ℕ) → named_offset unit end v ≡ None) → Becomes v
      reference : becomes v ≡ Ok (reference_becomes s e v) → ((texts : TextSource) → text_named texts v ≡ Ok None) → Becomes v
      other : ArePlain (becomes v) → ((unit end : ℕ) → named_offset unit end v ≡ None) → ((texts : TextSource) → text_named texts v ≡ Ok None) → Becomes v

    constant-plain : (form bits : ℕ) → ArePlain {E = Refusal} (Ok (option_map done (constant_becomes s name form bits)))
    constant-plain form bits = go (is_file_name name) (number_written s.output_version (file_number s.version s.table bits))
      where
        go : (b : Bool) (o : Option ℕ) → ArePlain {E = Refusal} (Ok (option_map done (if b then option_map (constant DW_FORM_udata) o else Some (constant (constant_form form) bits))))
        go true None = tt
        go true (Some n) = tt
        go false o = tt

    pub value-kind : (v : Value) → Becomes v
    unfolding value_becomes text_named
    value-kind (Values.constant form bits) = other (constant-plain form bits) (λ unit end. refl) (λ texts. refl)
    value-kind (Values.flag b) = other tt (λ unit end. refl) (λ texts. refl)
    value-kind (Values.block bytes) = other tt (λ unit end. refl) (λ texts. refl)
    value-kind (Values.text bytes) = text_read refl (λ unit end. refl)
    value-kind (Values.text_reference form n) = text_read refl (λ unit end. refl)
    value-kind (Values.unit_reference n) = reference refl (λ texts. refl)
    value-kind (Values.info_reference n) = reference refl (λ texts. refl)
    value-kind (Values.line_reference n) = other tt (λ unit end. refl) (λ texts. refl)
    value-kind Values.dropped = other tt (λ unit end. refl) (λ texts. refl)
    value-kind (Values.address a) = other (range-plain (Values.address a)) (λ unit end. refl) (λ texts. refl)
    value-kind (Values.address_index n) = other (range-plain (Values.address_index n)) (λ unit end. refl) (λ texts. refl)
    value-kind (Values.expression bytes) = other (expression-plain bytes) (λ unit end. refl) (λ texts. refl)
    value-kind (Values.range_reference n) = other (range-plain (Values.range_reference n)) (λ unit end. refl) (λ texts. refl)
    value-kind (Values.range_index n) = other (range-plain (Values.range_index n)) (λ unit end. refl) (λ texts. refl)
    value-kind (Values.location_reference n) = other (list-plain (Values.location_reference n)) (λ unit end. refl) (λ texts. refl)
    value-kind (Values.location_index n) = other (list-plain (Values.location_index n)) (λ unit end. refl) (λ texts. refl)

-- ---- drafts

plain-underscored : (d : DraftValue) → IsPlain d → underscored d ≡ d
plain-underscored (done (address a)) plain = refl
plain-underscored (done (constant form bits)) plain = refl
plain-underscored (done (flag b)) plain = refl
plain-underscored (done (block bytes)) plain = refl
plain-underscored (done (expression bytes)) plain = refl
plain-underscored (done (text bytes)) plain = absurd plain
plain-underscored (done line_table) plain = refl
plain-underscored (done (ranges is)) plain = refl
plain-underscored (done (locations ls)) plain = refl
plain-underscored (done (entry unit place)) plain = refl
plain-underscored (done nothing) plain = refl
plain-underscored (goes_to goal) plain = absurd plain

plain-stays : (es : List Placed) (e : Placed) (d : DraftValue) → IsPlain d → stays_in_unit es e d ≡ false
plain-stays es e (done v) plain = refl
plain-stays es e (goes_to goal) plain = absurd plain

-- A table of texts that says the same, of another draft.
pub says-as : (c : CloneSource) (number name : ℕ) (old new : List (List ℕ)) (d1 d2 : Option DraftValue) (v : Option AttributeValue) → ((goals : Goal → Option (ℕ × ℕ)) → ArePlaced c.places.now goals → wanted_value goals d2 ≡ wanted_value goals d1)
    → SaysMore c.places.now number name old new d1 v → SaysMore c.places.now number name old new d2 v
says-as c number name old new d1 d2 v same more = record { grows = more.grows; says = record { means = λ goals at. more.says.means goals at ∙ sym (same goals at); fits = more.says.fits; texts = more.says.texts } }

-- Nothing says nothing.
pub says-none : (c : CloneSource) (number name : ℕ) (old new : List (List ℕ)) (d1 d2 : Option DraftValue) (v : Option AttributeValue) → ((goals : Goal → Option (ℕ × ℕ)) → ArePlaced c.places.now goals → wanted_value goals d2 ≡ None)
    → SaysMore c.places.now number name old new d1 v → SaysMore c.places.now number name old new d2 None
says-none c number name old new d1 d2 v none more = record { grows = more.grows; says = record { means = λ goals at. sym (none goals at); fits = λ size. tt; texts = tt } }

-- ---- what a function tells of its object pointer

found-in : {A : Type 0} (t : A → Bool) (xs : List A) (x : A) → find t xs ≡ Some x → IsIn x xs
found-in t [] x found = absurd (cc)
found-in {A} t (y ∷ ys) x found = go (t y) (found-in t ys x) found
  where
    go : (b : Bool) → (find t ys ≡ Some x → IsIn x ys) → ◌≡◌ {A = Option A} (if b then Some y else find t ys) (Some x) → IsIn x (y ∷ ys)
    go true others is = let same : x ≡ y = cc in inl same
    go false others is = inr (others is)

target-in : (es : List Placed) (e f : Placed) (v : Value) → target_of es e v ≡ Some f → IsIn f es
unfolding target_of
target-in es e f v is = found-in (λ g. names_entry e g v) es f is

module _ (registers : Registers) (c : CloneSource) (number : ℕ) (s : UnitSource) (e : Placed) (before : List (ℕ × Value)) (source : IsSource c number s) (unit : e.unit ≡ c.unit.now.header.offset) where
  -- what a value becomes as an object pointer
  abbrev pointer_becomes : Value → Result (Option DraftValue) Refusal
  pointer_becomes v = attribute_becomes (clone_rules registers c s) s e before (DW_AT_object_pointer, v)

  pointer-value : (v : Value) → pointer_becomes v ≡ value_becomes (clone_rules registers c s) s e before DW_AT_object_pointer v
  pointer-value v = attribute-value (clone_rules registers c s) s e before (DW_AT_object_pointer, v) false (stays-named c.module.output_for e.entry DW_AT_object_pointer refl refl) refl refl refl

  -- What is made of an entry of the section is made of one of the unit, where its offset is in the unit.
  stays-within : (f : Placed) → IsIn f s.entries → stays_in_unit s.entries e (goes_to (made_of f.entry.offset itself)) ≡ is_within c f.entry.offset
  stays-within f i = go (is_within c f.entry.offset) refl
    where
      here : Placed → Bool
      here g = (g.unit == e.unit) && (g.entry.offset == f.entry.offset)

      inside : (g : Placed) → IsIn g s.entries → (g.unit == e.unit) ≡ is_within c g.entry.offset
      inside g j = ap (λ u. g.unit == u) unit ∙ source.inside g (in-contains s.entries g j)

      none : is_within c f.entry.offset ≡ false → (b : Bool) → list_any here s.entries ≡ b → b ≡ false
      none out false any = refl
      none out true any =
          let found = any-in here s.entries any in
          let both = and_parts (found.0.unit == e.unit) (found.0.entry.offset == f.entry.offset) found.2 in
          let same : found.0.entry.offset ≡ f.entry.offset = eqb-true found.0.entry.offset f.entry.offset both.1 in
          let within : is_within c f.entry.offset ≡ true = ap (is_within c) (sym same) ∙ (sym (inside found.0 found.1) ∙ both.0) in
          absurd (true≢false (sym within ∙ out))

      go : (b : Bool) → is_within c f.entry.offset ≡ b → list_any here s.entries ≡ b
      go true is = in-any here s.entries f i (ap (λ b. b && (f.entry.offset == f.entry.offset)) (inside f i ∙ is) ∙ eq-eqb f.entry.offset f.entry.offset refl)
      go false is = none is (list_any here s.entries) refl

  -- What an object pointer became stays in the unit where what it names does, or goes to what is not in the output.
  stays-or-gone : (v : Value) (d : DraftValue) → pointer_becomes v ≡ Ok (Some d)
      → (stays_in_unit s.entries e d ≡ names_within c v) ⊎ ((goals : Goal → Option (ℕ × ℕ)) → ArePlaced c.places.now goals → settled_value goals d ≡ None)
  stays-or-gone v d is = go (value-kind (source_with registers c s) e before DW_AT_object_pointer s v)
    where
      goal : Type 0
      goal = (stays_in_unit s.entries e d ≡ names_within c v) ⊎ ((goals : Goal → Option (ℕ × ℕ)) → ArePlaced c.places.now goals → settled_value goals d ≡ None)

      became : value_becomes (clone_rules registers c s) s e before DW_AT_object_pointer v ≡ Ok (Some d)
      became = sym (pointer-value v) ∙ is

      unnamed : stays_in_unit s.entries e d ≡ false → ((unit end : ℕ) → named_offset unit end v ≡ None) → goal
      unnamed out none = inl (out ∙ sym (ap (is_in_unit c) (none c.unit.now.header.offset c.unit.now.header.end)))

      read : (r : Result (Option (List ℕ)) Fault) → text_drafted of_place r ≡ Ok (Some d) → stays_in_unit s.entries e d ≡ false
      read (Ok None) same = absurd (cc)
      read (Ok (Some b)) same = let at : done (text b) ≡ d = cc in ap (stays_in_unit s.entries e) (sym at)
      read (Err fault) same = absurd (cc)

      placed : (f : Placed) → target_of s.entries e v ≡ Some f → goes_to (made_of f.entry.offset itself) ≡ d → (o : Option (ℕ × ℕ)) → place_of c.places.now f.entry.offset ≡ o → goal
      placed f target at None place = inr (λ goals ats. ap (settled_value goals) (sym at) ∙ ap (option_map (λ p. entry p.0 p.1)) (ats f.entry.offset ∙ place))
      placed f target at (Some p) place =
          inl (ap (stays_in_unit s.entries e) (sym at) ∙ (stays-within f (target-in s.entries e f v target) ∙ sym (ap (is_in_unit c) (source.named e f v unit target (ap is_some place)))))

      target : (o : Option Placed) → target_of s.entries e v ≡ o → ◌≡◌ {A = Result (Option DraftValue) Refusal} (Ok (option_map (λ (f : Placed). goes_to (made_of f.entry.offset itself)) o)) (Ok (Some d)) → goal
      target None none same = absurd (cc)
      target (Some f) some same = let at : goes_to (made_of f.entry.offset itself) ≡ d = cc in placed f some at (place_of c.places.now f.entry.offset) refl

      go : Becomes (source_with registers c s) e before DW_AT_object_pointer s v → goal
      go (text_read as-text none) = unnamed (read (reported Text Info e.entry.offset (text_named s.texts v)) (sym as-text ∙ became)) none
      go (reference as-reference none) = target (target_of s.entries e v) refl (sym as-reference ∙ became)
      go (other plain none untold) = unnamed (plain-stays s.entries e d (subst (λ r. ArePlain r) became plain)) none

  -- what is told of one, by whether it stays in the unit
  abbrev told_if : DraftValue → Bool → Option DraftValue
  told_if d stays = option_map (λ (y : ℕ × DraftValue). y.1) (if stays then None else Some (DW_AT_object_pointer, d))

  pointer-gone : (v : Value) (draft : Option DraftValue) → pointer_becomes v ≡ Ok draft → names_within c v ≡ true → (goals : Goal → Option (ℕ × ℕ)) → ArePlaced c.places.now goals
      → wanted_value goals (told_draft (names_no_pointer s.entries e) DW_AT_object_pointer draft) ≡ None
  pointer-gone v None is within goals at = refl
  pointer-gone v (Some d) is within goals at = go (stays-or-gone v d is)
    where
      one : settled_value goals d ≡ None → (b : Bool) → wanted_value goals (told_if d b) ≡ None
      one gone true = refl
      one gone false = gone

      go : (stays_in_unit s.entries e d ≡ names_within c v) ⊎ ((goals : Goal → Option (ℕ × ℕ)) → ArePlaced c.places.now goals → settled_value goals d ≡ None) → wanted_value goals (told_if d (stays_in_unit s.entries e d)) ≡ None
      go (inl same) = ap (λ b. wanted_value goals (told_if d b)) (same ∙ within)
      go (inr gone) = one (gone goals at) (stays_in_unit s.entries e d)

  pointer-stays : (v : Value) (draft : Option DraftValue) → pointer_becomes v ≡ Ok draft → names_within c v ≡ false → (goals : Goal → Option (ℕ × ℕ)) → ArePlaced c.places.now goals
      → wanted_value goals (told_draft (names_no_pointer s.entries e) DW_AT_object_pointer draft) ≡ wanted_value goals draft
  pointer-stays v None is within goals at = refl
  pointer-stays v (Some d) is within goals at = go (stays-or-gone v d is)
    where
      one : settled_value goals d ≡ None → (b : Bool) → wanted_value goals (told_if d b) ≡ settled_value goals d
      one gone true = sym gone
      one gone false = refl

      go : (stays_in_unit s.entries e d ≡ names_within c v) ⊎ ((goals : Goal → Option (ℕ × ℕ)) → ArePlaced c.places.now goals → settled_value goals d ≡ None) → wanted_value goals (told_if d (stays_in_unit s.entries e d)) ≡ settled_value goals d
      go (inl same) = ap (λ b. wanted_value goals (told_if d b)) (same ∙ within)
      go (inr gone) = one (gone goals at) (stays_in_unit s.entries e d)

  other-name : (name : ℕ) (draft : Option DraftValue) → (name == DW_AT_object_pointer) ≡ false → told_draft (names_no_pointer s.entries e) name draft ≡ draft
  other-name name None is = refl
  other-name name (Some d) is = ap (λ b. option_map (λ (y : ℕ × DraftValue). y.1) (if b && stays_in_unit s.entries e d then None else Some (name, d))) is

  -- Of a function an attribute goes that names its object pointer in the unit, and the others stay.
  pub function-gone : (name : ℕ) (v : Value) (draft : Option DraftValue) → attribute_becomes (clone_rules registers c s) s e before (name, v) ≡ Ok draft → ((name == DW_AT_object_pointer) && names_within c v) ≡ true
      → (goals : Goal → Option (ℕ × ℕ)) → ArePlaced c.places.now goals → wanted_value goals (told_draft (names_no_pointer s.entries e) name draft) ≡ None
  function-gone name v draft is names goals at =
      let parts = and_parts (name == DW_AT_object_pointer) (names_within c v) names in
      let named : name ≡ DW_AT_object_pointer = eqb-true name DW_AT_object_pointer parts.0 in
      subst (λ n. wanted_value goals (told_draft (names_no_pointer s.entries e) n draft) ≡ None) (sym named)
      (pointer-gone v draft (subst (λ n. attribute_becomes (clone_rules registers c s) s e before (n, v) ≡ Ok draft) named is) parts.1 goals at)

  pub function-stays : (name : ℕ) (v : Value) (draft : Option DraftValue) → attribute_becomes (clone_rules registers c s) s e before (name, v) ≡ Ok draft → ((name == DW_AT_object_pointer) && names_within c v) ≡ false
      → (goals : Goal → Option (ℕ × ℕ)) → ArePlaced c.places.now goals → wanted_value goals (told_draft (names_no_pointer s.entries e) name draft) ≡ wanted_value goals draft
  function-stays name v draft is names goals at = go (name == DW_AT_object_pointer) refl
    where
      go : (b : Bool) → (name == DW_AT_object_pointer) ≡ b → wanted_value goals (told_draft (names_no_pointer s.entries e) name draft) ≡ wanted_value goals draft
      go true named =
          let same : name ≡ DW_AT_object_pointer = eqb-true name DW_AT_object_pointer named in
          let out : names_within c v ≡ false = ap (λ b. b && names_within c v) (sym named) ∙ names in
          subst (λ n. wanted_value goals (told_draft (names_no_pointer s.entries e) n draft) ≡ wanted_value goals draft) (sym same)
          (pointer-stays v draft (subst (λ n. attribute_becomes (clone_rules registers c s) s e before (n, v) ≡ Ok draft) same is) out goals at)
      go false unnamed = ap (wanted_value goals) (other-name name draft unnamed)

-- ---- what is told of an object pointer

pub plain-told : (name : ℕ) (draft : Option DraftValue) → told_draft Some name draft ≡ draft
plain-told name None = refl
plain-told name (Some d) = refl

pub artificial-told : (draft : Option DraftValue) → told_draft unlike_this DW_AT_artificial draft ≡ None
artificial-told None = refl
artificial-told (Some d) = refl

pub other-told : (name : ℕ) (draft : Option DraftValue) → (name == DW_AT_artificial) ≡ false → (name == DW_AT_name) ≡ false → told_draft unlike_this name draft ≡ draft
other-told name None artificial named = refl
other-told name (Some d) artificial named =
    let T : Bool → Bool → Option DraftValue = λ a b. option_map (λ (y : ℕ × DraftValue). y.1) (if a then None else Some (name, if b then underscored d else d)) in
    ap (λ a. T a (name == DW_AT_name)) artificial ∙ ap (T false) named

module _ (registers : Registers) (c : CloneSource) (s : UnitSource) (e : Placed) (before : List (ℕ × Value)) (texts : TextSource) (here : ℕ) (own : s.texts ≡ texts) (at : e.entry.offset ≡ here) (v : Value) where
  -- what a value becomes as a name, and the text that it is
  abbrev name_becomes : Result (Option DraftValue) Refusal
  name_becomes = attribute_becomes (clone_rules registers c s) s e before (DW_AT_name, v)

  abbrev name_read : Result (Option (List ℕ)) Fault
  name_read = reported Text Info here (text_named texts v)

  name-value : name_becomes ≡ value_becomes (clone_rules registers c s) s e before DW_AT_name v
  name-value = attribute-value (clone_rules registers c s) s e before (DW_AT_name, v) false (stays-named c.module.output_for e.entry DW_AT_name refl refl) refl refl refl

  name-text : value_becomes (clone_rules registers c s) s e before DW_AT_name v ≡ text_becomes (clone_rules registers c s) s e v → name_becomes ≡ text_drafted of_place name_read
  name-text as-text =
      name-value
      ∙ (as-text
      ∙ (ap (λ (t : TextSource). text_drafted of_place (reported Text Info e.entry.offset (text_named t v))) own ∙ ap (λ n. text_drafted of_place (reported Text Info n (text_named texts v))) at))

  name-untold : ((t : TextSource) → text_named t v ≡ Ok None) → name_read ≡ Ok None
  name-untold none = ap (reported Text Info here) (none texts)

  pub name-refused : (o : Option Fault) → Refuses name_read o → RefusesSo name_becomes (option_map of_place o)
  name-refused None refused = tt
  name-refused (Some fault) refused = go (value-kind (source_with registers c s) e before DW_AT_name s v)
    where
      go : Becomes (source_with registers c s) e before DW_AT_name s v → name_becomes ≡ Err (of_place fault)
      go (text_read as-text none) = name-text as-text ∙ ap (text_drafted of_place) refused
      go (reference as-reference none) = let same : ◌≡◌ {A = Result (Option (List ℕ)) Fault} (Ok None) (Err fault) = sym (name-untold none) ∙ refused in absurd (cc)
      go (other plain unnamed none) = let same : ◌≡◌ {A = Result (Option (List ℕ)) Fault} (Ok None) (Err fault) = sym (name-untold none) ∙ refused in absurd (cc)

  pub name-said : (t : List ℕ) → name_read ≡ Ok (Some t) → name_becomes ≡ Ok (Some (done (text t)))
  name-said t read = go (value-kind (source_with registers c s) e before DW_AT_name s v)
    where
      go : Becomes (source_with registers c s) e before DW_AT_name s v → name_becomes ≡ Ok (Some (done (text t)))
      go (text_read as-text none) = name-text as-text ∙ ap (text_drafted of_place) read
      go (reference as-reference none) = let same : ◌≡◌ {A = Result (Option (List ℕ)) Fault} (Ok None) (Ok (Some t)) = sym (name-untold none) ∙ read in absurd (cc)
      go (other plain unnamed none) = let same : ◌≡◌ {A = Result (Option (List ℕ)) Fault} (Ok None) (Ok (Some t)) = sym (name-untold none) ∙ read in absurd (cc)

  -- A name that is no text stays.
  pub name-stays : (draft : Option DraftValue) → name_read ≡ Ok None → name_becomes ≡ Ok draft → told_draft unlike_this DW_AT_name draft ≡ draft
  name-stays draft read is = go (value-kind (source_with registers c s) e before DW_AT_name s v)
    where
      stays : Option DraftValue → Type 0
      stays d = told_draft unlike_this DW_AT_name d ≡ d

      target : (o : Option Placed) → stays (option_map (λ (f : Placed). goes_to (made_of f.entry.offset itself)) o)
      target None = refl
      target (Some f) = refl

      plainly : (d : Option DraftValue) → IfSome d IsPlain → stays d
      plainly None plain = refl
      plainly (Some d) plain = ap Some (plain-underscored d plain)

      go : Becomes (source_with registers c s) e before DW_AT_name s v → stays draft
      go (text_read as-text none) = let same : ◌≡◌ {A = Result (Option DraftValue) Refusal} (Ok None) (Ok draft) = sym (ap (text_drafted of_place) read) ∙ (sym (name-text as-text) ∙ is) in let at : None ≡ draft = cc in subst stays at refl
      go (reference as-reference none) = let same : ◌≡◌ {A = Result (Option DraftValue) Refusal} (Ok (reference_becomes s e v)) (Ok draft) = sym as-reference ∙ (sym name-value ∙ is) in let at : reference_becomes s e v ≡ draft = cc in subst stays at (target (target_of s.entries e v))
      go (other plain unnamed none) = plainly draft (subst (λ r. ArePlain r) (sym name-value ∙ is) plain)

-- ---- names

-- An attribute that is told keeps its name.
pub keeps-told : (how : Telling) (es : List Placed) (e : Placed) → KeepsNames (tell_of how es e)
keeps-told telling.Plain es e a y told = let same : a ≡ y = cc in ap (λ (x : ℕ × DraftValue). x.0) (sym same)
keeps-told telling.Function es e a y told = go ((a.0 == DW_AT_object_pointer) && stays_in_unit es e a.1) told
  where
    go : (b : Bool) → ◌≡◌ {A = Option (ℕ × DraftValue)} (if b then None else Some a) (Some y) → y.0 ≡ a.0
    go true same = absurd (cc)
    go false same = let is : a ≡ y = cc in ap (λ (x : ℕ × DraftValue). x.0) (sym is)
keeps-told telling.ObjectPointer es e a y told = go (a.0 == DW_AT_artificial) told
  where
    go : (b : Bool) → ◌≡◌ {A = Option (ℕ × DraftValue)} (if b then None else Some (a.0, if a.0 == DW_AT_name then underscored a.1 else a.1)) (Some y) → y.0 ≡ a.0
    go true same = absurd (cc)
    go false same = let is : ◌≡◌ {A = ℕ × DraftValue} (a.0, if a.0 == DW_AT_name then underscored a.1 else a.1) y = cc in ap (λ (x : ℕ × DraftValue). x.0) (sym is)
