-- The trees that are made of an input carry its locations, where translations keep scopes and nothing is refused.
use Rattle.std.proofs.Common.{◌≡◌, ℕ, pos, List, [], ◌∷◌, ◌++◌, map, Option, Some, None, Bool, true, false, Result, Ok, Err, refl, sym, ap, subst, ◌∙◌, inl, inr, ◌==◌, true≢false}
use Rattle.std.specs.Prelude.{if◌then◌else◌, option_to_list, IfSome, All, filter_map, flat_map}
use Rattle.std.specs.Option.{unwrap_or}
use Rattle.std.specs.List.{cons_option}
use Rattle.std.proofs.lemmas.Bool.{eqb-true}
use Rattle.std.proofs.lemmas.List.Elements.{All-head, All-tail, All-nil, All-cons, filter_map-append}
use Rattle.dwc_base.specs.declared.records.OutputFor.{OutputFor}
use Rattle.dwc_rules.proofs.ListBaseLaws.{BaseOrNone, base-or-none}
use Rattle.dwc_rules.specs.EntryRules.{is_gone}
use Rattle.dwc_rules.specs.Clones.{kept_unless}
use Rattle.dwc_base.specs.declared.constants.TheConstants.{DW_AT_frame_base, DW_AT_ranges, DW_TAG_compile_unit}
use Rattle.dwc_base.specs.declared.records.Address.TheVariants.{Symbol}
use Rattle.dwc_dwarf.specs.Entries.{Entry}
use Rattle.dwc_native.specs.Functions.{Function}
use Rattle.dwc_rules.specs.Kept.{Placed}
use Rattle.dwc_base.specs.Reading.{◌>>=◌}
use Rattle.dwc_rules.specs.RangeRules.{told_as}
use Rattle.dwc_rules.specs.Wrappers.{is_wrapped}
use Rattle.dwc_dwarf.specs.Lists.{ListRefusal}
use Rattle.dwc_dwarf.specs.RawLists.{ListSource}
use Rattle.dwc_rules.specs.RangeAttributes.{with_base, Extent, begun_function, bounds, extent, intervals, length_of, nowhere, position, range_attributes, said_extent, said_intervals}
use Rattle.dwc_native.specs.ScopesKept.{native_of_intervals}
use Rattle.dwc_rules.specs.Refusals.{Refusal, of_place as of_fault, unit_refusal}
use Rattle.dwc_base.specs.Listing.{first_of}
use Rattle.dwc_rules.specs.ReachedEntries as Reached
use Rattle.dwc_rules.specs.EntryRules.{named_faults}
use Rattle.dwc_dwarf.specs.Values.{Value, address, address_index, block, constant, dropped, expression, flag, info_reference, is_location_name, line_reference, location_index, location_reference, range_index, range_reference, text, text_reference, unit_reference}
use Rattle.dwc_dwarf.specs.Trees as Trees
use Rattle.dwc_dwarf.specs.Trees.{Interval, Location, TreeEntry, TreeValue}
use Rattle.dwc_rules.specs.Drafts.{Goal, DraftValue, done}
use Rattle.dwc_rules.specs.DraftForests.{settled_entry, settled_unit}
use Rattle.dwc_rules.specs.Clones.{UnitSource, CodeRules, attribute_becomes, attributes_become, attributes_made, value_becomes, if_refused, entry_refusals}
use Rattle.dwc_rules.specs.Carried.{Module, Compilation}
use Rattle.dwc_dwarf.specs.ReadUnits.{Unit}
use Rattle.dwc_rules.specs.KeptModules.{carried_in, kept_in}
use Rattle.dwc_rules.specs.CarriedDrafts.{source_of, draft_of, draft_told}
use Rattle.dwc_native.specs.Parts.{CompiledParts, compiled, is_simple}
use Rattle.dwc_native.specs.Placed.{Frame, scope_intervals}
use Rattle.dwc_native.specs.BuiltExpressions.{Surroundings, BuiltExpressions, BuildRefusal, built_over}
use Rattle.dwc_rules.specs.LocationAttributes.{LocationRefusal, of_place, of_build, InForce, ListedExpression, compiled_at, built_at, value_over, value_of_built, value_of_expression, built_for, built_for_each, value_of_listed, value_of_locations, with_locations, drafted}
use Rattle.dwc_rules.specs.LocationRules.{ExpressionSource, given_expression, expression_becomes, in_force_at, listed_by, listed_become, lists_of, locations_become}
use Rattle.dwc_rules.specs.EntryRules.{code_value_becomes, of_list, of_location, wrappers_of, rules_of_source}
use Rattle.dwc_rules.specs.RangeRefusals.{has_name}
use Rattle.dwc_carried.specs.SimulatedUnitRules.{simulated_unit_refusals}
use Rattle.dwc_carried.specs.SimulatedFunctions.{is_begun}
use Rattle.dwc_carried.specs.Forests.{rules_of, wanted_units, is_big, drafts_of, function_refusals, synthetic_refusals, reading_refusals, module_refusals, refusals, first_refusal, trees_made, refused_frames}
use Rattle.dwc_rules.specs.ModuleDrafts.{expressions_of}
use Rattle.dwc_rules.specs.CarriedUnits.{kept_of}
use Rattle.dwc_rules.specs.ScopesCarried.{value_of_entry}
use Rattle.dwc_native.specs.ScopesKept.{AreNumbered, TranslationsKeepScopes, KeepsScope}
use Rattle.dwc_carried.specs.LocationsCarried.{LocationUse, over_scope, over_intervals, use_over, interval_used, intervals_used, use_of, IntervalSaysWhere, ListSaysWhere, ValueSaysWhere, NameSaysWhere, CarriesLocations, UnitCarriesLocations, UnitHasLocations, LocationsCarried}
use Rattle.dwc_base.proofs.InLists.{IsIn, in-filter}
use Rattle.dwc_carried.proofs.MadeDrafts.{unit-says}
use Rattle.dwc_rules.proofs.PointerLaws.{changed-said, location-untouched}
use Rattle.dwc_carried.proofs.UnitsMade.{SimulatedIs, units-made}
use Rattle.dwc_rules.proofs.AllIn.{all-in}
use Rattle.dwc_carried.proofs.LocationScopes.{expression-says, interval-says, scope-kept}
use Rattle.dwc_rules.proofs.LastAttributes.{AreOthers, IsPlain, IsValue, SaysLast, become-both, location-plain, says-last, value_made}

-- ---- an expression

-- what a compiled expression that needs more than its own bytes becomes over a scope
module _ (fs : List Function) (keep : TranslationsKeepScopes fs) (numbered : AreNumbered fs) where
  over-says : (s : Surroundings) (i : ℕ × ℕ) (is : List (ℕ × ℕ)) (x : CompiledParts) (name : ℕ) (v : Option TreeValue) → s.functions ≡ fs → is_location_name name ≡ true → is_simple x ≡ false
      → value_over name s x (Some (i ∷ is)) ≡ Ok v → ValueSaysWhere s.functions s.frame (over_scope (i ∷ is) x) v
  unfolding built_at
  over-says s i is x name v same named not_simple e = go (built_over s (i ∷ is) x) refl e
    where
      kept : KeepsScope s.functions (i ∷ is) (scope_intervals s.functions (i ∷ is))
      kept = subst (λ gs. KeepsScope gs (i ∷ is) (scope_intervals gs (i ∷ is))) (sym same) (scope-kept fs keep numbered (i ∷ is))

      go : (r : Result BuiltExpressions BuildRefusal) → built_over s (i ∷ is) x ≡ r → value_over name s x (Some (i ∷ is)) ≡ Ok v → ValueSaysWhere s.functions s.frame (over_scope (i ∷ is) x) v
      go (Ok built) is_built gives =
          let known : value_over name s x (Some (i ∷ is)) ≡ Ok (value_of_built name built) = rw is_built refl in
          let told : value_of_built name built ≡ v = cc in
          subst (λ w. ValueSaysWhere s.functions s.frame (over_scope (i ∷ is) x) w) told (expression-says s i is x name built kept named not_simple is_built)
      go (Err refusal) is_built gives =
          let known : value_over name s x (Some (i ∷ is)) ≡ Err (of_build refusal) = rw is_built refl in
          absurd (cc)

  -- ---- a location list

  -- what is built for one interval
  interval-built : (e : InForce) (x : ListedExpression) (o : Option (List Location)) → e.surroundings.functions ≡ fs → built_for e x ≡ Ok o
      → IntervalSaysWhere e.surroundings.functions e.surroundings.frame (interval_used e.base x) (unwrap_or o []) × (o ≡ None → (interval_used e.base x).1 ≡ None)
  unfolding built_for compiled_at built_at
  interval-built e x o same gives = go (compiled e.base x.given.bytes) refl gives
    where
      i : ℕ × ℕ
      i = (x.start, x.end)

      kept : KeepsScope e.surroundings.functions (i ∷ []) (scope_intervals e.surroundings.functions (i ∷ []))
      kept = subst (λ gs. KeepsScope gs (i ∷ []) (scope_intervals gs (i ∷ []))) (sym same) (scope-kept fs keep numbered (i ∷ []))

      go : (r : Result (Option CompiledParts) ℕ) → compiled e.base x.given.bytes ≡ r → built_for e x ≡ Ok o
          → IntervalSaysWhere e.surroundings.functions e.surroundings.frame (interval_used e.base x) (unwrap_or o []) × (o ≡ None → (interval_used e.base x).1 ≡ None)
      go (Err place) is h =
          let known : built_for e x ≡ Err (of_place x.given.fault) = rw is refl in
          absurd (cc)
      go (Ok None) is h =
          let known : built_for e x ≡ Ok None = rw is refl in
          let none : o ≡ None = cc in
          rw (none, is) (refl, λ same. refl)
      go (Ok (Some p)) is h = here (built_over e.surroundings (i ∷ []) p) refl h
        where
          used : interval_used e.base x ≡ (i, Some p)
          used = rw is refl

          here : (b : Result BuiltExpressions BuildRefusal) → built_over e.surroundings (i ∷ []) p ≡ b → built_for e x ≡ Ok o
              → IntervalSaysWhere e.surroundings.functions e.surroundings.frame (interval_used e.base x) (unwrap_or o []) × (o ≡ None → (interval_used e.base x).1 ≡ None)
          here (Err refusal) is_built k =
              let known : built_for e x ≡ Err (of_build refusal) = rw (is, is_built) refl in
              absurd (cc)
          here (Ok built) is_built k =
              let known : built_for e x ≡ Ok (Some built.expressions) = rw (is, is_built) refl in
              let some : o ≡ Some built.expressions = cc in
              rw (some, is) (interval-says e.surroundings i p built kept is_built, λ none. absurd (cc))

  -- locations of intervals that are all not supported are none
  parts-none : (frame : Option Frame) (gs : List Function) (xs : List ((ℕ × ℕ) × Option CompiledParts)) → All (λ x. x.1 ≡ None) xs → ListSaysWhere gs frame xs []
  parts-none frame gs [] h = record { parts = []; are = refl; each = tt }
  parts-none frame gs ((i, None) ∷ xs) h =
      let more = parts-none frame gs xs (All-tail (λ x. x.1 ≡ None) (i, None) xs h) in
      record { parts = [] ∷ more.parts; are = more.are; each = (refl, more.each) }
  parts-none frame gs ((i, Some p) ∷ xs) h =
      let no : ◌≡◌ {A = Option CompiledParts} (Some p) None = All-head (λ x. x.1 ≡ None) (i, Some p) xs h in
      absurd (cc)

  -- what the locations of a list say, if there are some
  abbrev ListedSay : List Function → Option Frame → List ((ℕ × ℕ) × Option CompiledParts) → Option (List Location) → Type 0
  ListedSay gs frame xs None = All (λ x. x.1 ≡ None) xs
  ListedSay gs frame xs (Some ls) = ListSaysWhere gs frame xs ls

  listed-more : (gs : List Function) (frame : Option Frame) (x : (ℕ × ℕ) × Option CompiledParts) (xs : List ((ℕ × ℕ) × Option CompiledParts)) (o others : Option (List Location))
      → IntervalSaysWhere gs frame x (unwrap_or o []) → (o ≡ None → x.1 ≡ None) → ListedSay gs frame xs others → ListedSay gs frame (x ∷ xs) (with_locations o others)
  listed-more gs frame x xs None None says none more = All-cons (λ y. y.1 ≡ None) x xs (none refl) more
  listed-more gs frame x xs None (Some ls) says none more = record { parts = [] ∷ more.parts; are = more.are; each = (says, more.each) }
  listed-more gs frame x xs (Some first) None says none more =
      let rest = parts-none frame gs xs more in
      record { parts = first ∷ rest.parts; are = ap (λ ls. first ++ ls) rest.are; each = (says, rest.each) }
  listed-more gs frame x xs (Some first) (Some ls) says none more = record { parts = first ∷ more.parts; are = ap (λ rest. first ++ rest) more.are; each = (says, more.each) }

  listed-say : (e : InForce) (xs : List ListedExpression) (o : Option (List Location)) → e.surroundings.functions ≡ fs → built_for_each e xs ≡ Ok o
      → ListedSay e.surroundings.functions e.surroundings.frame (map (interval_used e.base) xs) o
  unfolding built_for_each
  listed-say e [] o same gives =
      let none : o ≡ None = cc in
      rw none (All-nil (λ (x : (ℕ × ℕ) × Option CompiledParts). x.1 ≡ None))
  listed-say e (x ∷ xs) o same gives = go (built_for e x) refl (built_for_each e xs) refl gives (λ others h. listed-say e xs others same h)
    where
      go : (r : Result (Option (List Location)) LocationRefusal) → built_for e x ≡ r → (q : Result (Option (List Location)) LocationRefusal) → built_for_each e xs ≡ q → built_for_each e (x ∷ xs) ≡ Ok o
          → ((others : Option (List Location)) → built_for_each e xs ≡ Ok others → ListedSay e.surroundings.functions e.surroundings.frame (map (interval_used e.base) xs) others)
          → ListedSay e.surroundings.functions e.surroundings.frame (interval_used e.base x ∷ map (interval_used e.base) xs) o
      go (Err refusal) is q all h behind =
          let known : built_for_each e (x ∷ xs) ≡ Err refusal = rw is refl in
          absurd (cc)
      go (Ok first) is (Err refusal) all h behind =
          let known : built_for_each e (x ∷ xs) ≡ Err refusal = rw (is, all) refl in
          absurd (cc)
      go (Ok first) is (Ok others) all h behind =
          let known : built_for_each e (x ∷ xs) ≡ Ok (with_locations first others) = rw (is, all) refl in
          let told : o ≡ with_locations first others = cc in
          let says = interval-built e x first same is in
          rw told (listed-more e.surroundings.functions e.surroundings.frame (interval_used e.base x) (map (interval_used e.base) xs) first others says.0 says.1 (behind others all))

-- ---- what an attribute of a kept entry becomes

-- what a draft of a value is
drafted-value : (v : Option TreeValue) → IsValue (Ok (drafted v))
drafted-value None = tt
drafted-value (Some v) = tt

drafted-made : (v : Option TreeValue) → value_made (Ok (drafted v)) ≡ v
drafted-made None = refl
drafted-made (Some v) = refl

-- an attribute becomes a value, if it becomes something, that says where
record BecomesSaid (fs : List Function) (frame : Option Frame) (given : LocationUse) (r : Result (Option DraftValue) Refusal) : Type 0 where
  value : IsValue r
  says : ValueSaysWhere fs frame given (value_made r)

becomes-said : (fs : List Function) (frame : Option Frame) (given : LocationUse) (r : Result (Option DraftValue) Refusal) (v : Option TreeValue) → r ≡ Ok (drafted v) → ValueSaysWhere fs frame given v → BecomesSaid fs frame given r
becomes-said fs frame given r v is says = record { value = subst IsValue (sym is) (drafted-value v); says = subst (ValueSaysWhere fs frame given) (sym (ap value_made is ∙ drafted-made v)) says }

-- of an entry that is not wrapped an expression, or the intervals of a list, become what is built
expression-plain : (c : ExpressionSource) (e : Placed) (before : List (ℕ × Value)) (name : ℕ) (bytes : List ℕ) → is_wrapped c.told.output e ≡ false
    → expression_becomes c e before name bytes ≡ (value_of_expression name (in_force_at c e) (given_expression c e before bytes) >>= λ v. Ok (drafted v))
unfolding expression_becomes
expression-plain c e before name bytes plain = rw (plain, expression_becomes) refl

listed-plain : (c : ExpressionSource) (e : Placed) (xs : List ListedExpression) → is_wrapped c.told.output e ≡ false → listed_become c e xs ≡ (value_of_locations (in_force_at c e) xs >>= λ value. Ok (drafted value))
listed-plain c e xs plain = rw (plain, listed_become) refl

module _ (c : ExpressionSource) (keep : TranslationsKeepScopes c.functions) (numbered : AreNumbered c.functions) (s : UnitSource) (e : Placed) (plain_entry : is_wrapped c.told.output e ≡ false) (before : List (ℕ × Value)) where
  abbrev becomes : ℕ → Value → Result (Option DraftValue) Refusal
  becomes name v = code_value_becomes c e before name v

  abbrev Said : LocationUse → Result (Option DraftValue) Refusal → Type 0
  Said given r = BecomesSaid c.functions (in_force_at c e).surroundings.frame given r

  expression-becomes : (name : ℕ) (bytes : List ℕ) (given : LocationUse) → is_location_name name ≡ true → use_of c e (name, expression bytes) ≡ Some given → if_refused (becomes name (expression bytes)) ≡ None → Said given (becomes name (expression bytes))
  unfolding value_of_expression compiled_at in_force_at
  expression-becomes name bytes given named used accepted = base (name == DW_AT_frame_base) refl used
    where
      E : InForce
      E = in_force_at c e

      Goal' : Type 0
      Goal' = Said given (becomes name (expression bytes))

      built : (b : (name == DW_AT_frame_base) ≡ false) (i : ℕ × ℕ) (is : List (ℕ × ℕ)) (x : CompiledParts) → (in_force_at c e).scope ≡ Some (i ∷ is) → compiled (in_force_at c e).base bytes ≡ Ok (Some x) → is_simple x ≡ false → over_scope (i ∷ is) x ≡ given
          → (r : Result (Option TreeValue) LocationRefusal) → value_over name (in_force_at c e).surroundings x (Some (i ∷ is)) ≡ r → Goal'
      built b i is x scope compiles not_simple same (Ok v) is_value =
          let known : becomes name (expression bytes) ≡ Ok (drafted v) = ap (told_as (of_location c.told.place)) (expression-plain c e before name bytes plain_entry) ∙ rw (b, compiles, b, not_simple, scope, is_value) refl in
          becomes-said c.functions (in_force_at c e).surroundings.frame given (becomes name (expression bytes)) v known
          (subst (λ u. ValueSaysWhere c.functions (in_force_at c e).surroundings.frame u v) same (over-says c.functions keep numbered (in_force_at c e).surroundings i is x name v refl named not_simple is_value))
      built b i is x scope compiles not_simple same (Err refusal) is_value =
          let known : becomes name (expression bytes) ≡ Err (of_location c.told.place refusal) = ap (told_as (of_location c.told.place)) (expression-plain c e before name bytes plain_entry) ∙ rw (b, compiles, b, not_simple, scope, is_value) refl in
          absurd (cc)

      simple : (b : (name == DW_AT_frame_base) ≡ false) (i : ℕ × ℕ) (is : List (ℕ × ℕ)) (x : CompiledParts) → (in_force_at c e).scope ≡ Some (i ∷ is) → compiled (in_force_at c e).base bytes ≡ Ok (Some x) → (t : Bool) → is_simple x ≡ t → (if t then None else Some (over_scope (i ∷ is) x)) ≡ Some given → Goal'
      simple b i is x scope compiles true simple_is h = absurd (cc)
      simple b i is x scope compiles false simple_is h = let same : over_scope (i ∷ is) x ≡ given = cc in built b i is x scope compiles simple_is same (value_over name (in_force_at c e).surroundings x (Some (i ∷ is))) refl

      parts : (b : (name == DW_AT_frame_base) ≡ false) (o : Option (List (ℕ × ℕ))) → (in_force_at c e).scope ≡ o → (r : Result (Option CompiledParts) ℕ) → compiled (in_force_at c e).base bytes ≡ r → use_over o r ≡ Some given → Goal'
      parts b None scope r compiles h = absurd (cc)
      parts b (Some []) scope r compiles h = absurd (cc)
      parts b (Some (i ∷ is)) scope (Err place) compiles h = absurd (cc)
      parts b (Some (i ∷ is)) scope (Ok None) compiles h = absurd (cc)
      parts b (Some (i ∷ is)) scope (Ok (Some x)) compiles h = simple b i is x scope compiles (is_simple x) refl h

      base : (t : Bool) → (name == DW_AT_frame_base) ≡ t → (if t then None else use_over (in_force_at c e).scope (compiled (in_force_at c e).base bytes)) ≡ Some given → Goal'
      base true b h = absurd (cc)
      base false b h = parts b (in_force_at c e).scope refl (compiled (in_force_at c e).base bytes) refl h

  list-becomes : (v : Value) (given : LocationUse) → intervals_used (in_force_at c e).base (listed_by c e v) ≡ Some given → if_refused (locations_become of_list (of_location c.told.place) c e v) ≡ None → Said given (locations_become of_list (of_location c.told.place) c e v)
  unfolding locations_become value_of_locations in_force_at
  list-becomes v given used accepted = go (listed_by c e v) refl used
    where
      r : Result (Option DraftValue) Refusal
      r = locations_become of_list (of_location c.told.place) c e v

      go : (l : Result (List ListedExpression) ListRefusal) → listed_by c e v ≡ l → intervals_used (in_force_at c e).base l ≡ Some given → Said given (locations_become of_list (of_location c.told.place) c e v)
      go (Err refusal) is h = absurd (cc)
      go (Ok xs) is h = here (built_for_each (in_force_at c e) xs) refl
        where
          read : locations_become of_list (of_location c.told.place) c e v ≡ told_as (of_location c.told.place) (listed_become c e xs)
          read = rw is refl

          here : (q : Result (Option (List Location)) LocationRefusal) → built_for_each (in_force_at c e) xs ≡ q → Said given (locations_become of_list (of_location c.told.place) c e v)
          here (Err refusal) built =
              let known : locations_become of_list (of_location c.told.place) c e v ≡ Err (of_location c.told.place refusal) = read ∙ ap (told_as (of_location c.told.place)) (listed-plain c e xs plain_entry) ∙ rw built refl in
              absurd (cc)
          here (Ok o) built =
              let known : locations_become of_list (of_location c.told.place) c e v ≡ Ok (drafted (value_of_listed o)) = read ∙ ap (told_as (of_location c.told.place)) (listed-plain c e xs plain_entry) ∙ rw built refl in
              let same : over_intervals (map (interval_used (in_force_at c e).base) xs) ≡ given = cc in
              becomes-said c.functions (in_force_at c e).surroundings.frame given (locations_become of_list (of_location c.told.place) c e v) (value_of_listed o) known
              (subst (λ u. ValueSaysWhere c.functions (in_force_at c e).surroundings.frame u (value_of_listed o)) same (all o (listed-say c.functions keep numbered (in_force_at c e) xs o refl built)))
            where
              all : (o : Option (List Location)) → ListedSay c.functions keep numbered c.functions (in_force_at c e).surroundings.frame (map (interval_used (in_force_at c e).base) xs) o
                  → ValueSaysWhere c.functions (in_force_at c e).surroundings.frame (over_intervals (map (interval_used (in_force_at c e).base) xs)) (value_of_listed o)
              all None h = h
              all (Some ls) h = h

  -- of a value that is an expression or a location list, under the name of a location
  value-becomes : (name : ℕ) (v : Value) (given : LocationUse) → is_location_name name ≡ true → use_of c e (name, v) ≡ Some given → if_refused (value_becomes (rules_of_source c) s e before name v) ≡ None → Said given (value_becomes (rules_of_source c) s e before name v)
  unfolding value_becomes
  value-becomes name (expression bytes) given named used accepted = expression-becomes name bytes given named used accepted
  value-becomes name (location_reference n) given named used accepted = list-becomes (location_reference n) given used accepted
  value-becomes name (location_index i) given named used accepted = list-becomes (location_index i) given used accepted
  value-becomes name (address a) given named used accepted = absurd (cc)
  value-becomes name (address_index i) given named used accepted = absurd (cc)
  value-becomes name (block bytes) given named used accepted = absurd (cc)
  value-becomes name (constant form n) given named used accepted = absurd (cc)
  value-becomes name dropped given named used accepted = absurd (cc)
  value-becomes name (flag b) given named used accepted = absurd (cc)
  value-becomes name (info_reference n) given named used accepted = absurd (cc)
  value-becomes name (line_reference n) given named used accepted = absurd (cc)
  value-becomes name (range_index i) given named used accepted = absurd (cc)
  value-becomes name (range_reference n) given named used accepted = absurd (cc)
  value-becomes name (text bytes) given named used accepted = absurd (cc)
  value-becomes name (text_reference form n) given named used accepted = absurd (cc)
  value-becomes name (unit_reference n) given named used accepted = absurd (cc)

  attribute-becomes : (a : ℕ × Value) (given : LocationUse) → is_gone c.told.output e.entry a.0 ≡ false → is_location_name a.0 ≡ true → use_of c e a ≡ Some given → if_refused (attribute_becomes (rules_of_source c) s e before a) ≡ None → Said given (attribute_becomes (rules_of_source c) s e before a)
  unfolding attribute_becomes
  attribute-becomes a given stays named used accepted =
      let plain = location-plain a.0 named in
      let same : attribute_becomes (rules_of_source c) s e before a ≡ value_becomes (rules_of_source c) s e before a.0 a.1 = rw (plain.stays, plain.lines, plain.bound, attribute_becomes) (ap (λ b. kept_unless b (value_becomes (rules_of_source c) s e before a.0 a.1)) stays) in
      subst (Said given) (sym same) (value-becomes a.0 a.1 given named used (ap if_refused (sym same) ∙ accepted))

-- ---- one entry

-- an entry's bounds have none of the names of locations
bounds-others : (lists : ListSource) (fs : List Function) (e : Entry) (name : ℕ) → IsPlain name → AreOthers name (map (λ (a : ℕ × TreeValue). (a.0, done a.1)) (range_attributes lists fs e))
unfolding range_attributes
bounds-others lists fs e name plain = go (begun_function lists fs e) (extent lists e)
  where
    said-others : (tag : ℕ) (is : List Interval) → AreOthers name (map (λ (a : ℕ × TreeValue). (a.0, done a.1)) (said_intervals tag is))
    said-others tag [] = (plain.ranges, tt)
    said-others tag (i ∷ j ∷ is) = (plain.ranges, tt)
    said-others tag (i ∷ []) = one (tag == DW_TAG_compile_unit)
      where
        one : (b : Bool) → AreOthers name (map (λ (a : ℕ × TreeValue). (a.0, done a.1)) (if b then (DW_AT_ranges, Trees.ranges (i ∷ [])) ∷ [] else bounds i.begin (length_of i)))
        one true = (plain.ranges, tt)
        one false = (plain.low, (plain.high, tt))

    go : (o : Option Function) (x : Extent) → AreOthers name (map (λ (a : ℕ × TreeValue). (a.0, done a.1)) (elim o [ Some f ↦ bounds (Symbol f.number (pos 0)) f.length | None ↦ said_extent fs e.tag x ]))
    go (Some f) x = (plain.low, (plain.high, tt))
    go None nowhere = tt
    go None (position a) = (plain.low, tt)
    go None (intervals []) = tt
    go None (intervals (i ∷ is)) = said-others e.tag (native_of_intervals fs (i ∷ is))

-- nor has a base in front of them
based-others : (output : OutputFor) (is_root : Bool) (as' : List (ℕ × TreeValue)) (name : ℕ) → IsPlain name → AreOthers name (map (λ (a : ℕ × TreeValue). (a.0, done a.1)) as') → AreOthers name (map (λ (a : ℕ × TreeValue). (a.0, done a.1)) (with_base output is_root as'))
based-others output is_root as' name plain h = go (base-or-none output is_root as')
  where
    go : {bs : List (ℕ × TreeValue)} → BaseOrNone bs as' → AreOthers name (map (λ (a : ℕ × TreeValue). (a.0, done a.1)) bs)
    go (inl same) = rw same h
    go (inr same) = rw same (plain.low, h)

-- what is said of a name says where, where what the last attribute of it became does
name-says : (fs : List Function) (frame : Option Frame) (given : LocationUse) (v : Option TreeValue) (repeated : Bool) (told : Option TreeValue) → SaysLast v repeated told → ValueSaysWhere fs frame given v → NameSaysWhere fs frame given repeated told
name-says fs frame given (Some v) repeated told last says = inl (subst (ValueSaysWhere fs frame given) (sym last) says)
name-says fs frame given None true told last says = inr (refl, says)
name-says fs frame given None false told last says = inl (subst (ValueSaysWhere fs frame given) (sym last) says)

-- nothing is refused of an attribute of an entry of which nothing is
one-accepted : (rules : CodeRules Refusal) (s : UnitSource) (e : Placed) (before after : List (ℕ × Value)) (a : ℕ × Value) → e.entry.attributes ≡ before ++ a ∷ after → entry_refusals rules s e ≡ [] → if_refused (attribute_becomes rules s e before a) ≡ None
unfolding entry_refusals attributes_become
one-accepted rules s e before after a are none =
    let refused : List (ℕ × Result (Option DraftValue) Refusal) → List Refusal = λ rs. filter_map (λ x. if_refused x.1) rs in
    let front = attributes_become rules s e [] before in
    let rest = attributes_become rules s e (before ++ (a ∷ [])) after in
    let all : attributes_become rules s e [] e.entry.attributes ≡ front ++ (a.0, attribute_becomes rules s e before a) ∷ rest = ap (attributes_become rules s e []) are ∙ become-both rules s e [] before (a ∷ after) in
    let split : refused (attributes_become rules s e [] e.entry.attributes) ≡ refused front ++ cons_option (if_refused (attribute_becomes rules s e before a)) (refused rest) = ap refused all ∙ filter_map-append (λ x. if_refused x.1) front ((a.0, attribute_becomes rules s e before a) ∷ rest) in
    go (refused front) (if_refused (attribute_becomes rules s e before a)) (refused rest) (rules.behind e) (ap (λ xs. xs ++ rules.behind e) (sym split) ∙ none)
  where
    go : (xs : List Refusal) (o : Option Refusal) (ys zs : List Refusal) → (xs ++ cons_option o ys) ++ zs ≡ [] → o ≡ None
    go [] None ys zs h = refl
    go [] (Some r) ys zs h = absurd (cc)
    go (x ∷ xs) o ys zs h = absurd (cc)

-- The entry that is made of a kept one carries its locations, whatever changes for object pointers.
entry-carries : (c : ExpressionSource) → TranslationsKeepScopes c.functions → AreNumbered c.functions → (s : UnitSource) (big_endian : Bool) (places : Goal → Option (ℕ × ℕ)) (p : Placed) → entry_refusals (rules_of_source c) s p ≡ []
    → CarriesLocations c p (settled_entry places (draft_told c s big_endian p))
entry-carries c keep numbered s big_endian places p none = λ before after a plain_entry stays are named last. go before after a plain_entry stays are named last (use_of c p a) refl
  where
    out : TreeEntry
    out = settled_entry places (draft_told c s big_endian p)

    made : TreeEntry
    made = settled_entry places (draft_of (rules_of_source c) s big_endian p)

    go : (before after : List (ℕ × Value)) (a : ℕ × Value) → is_wrapped c.told.output p ≡ false → is_gone c.told.output p.entry a.0 ≡ false → p.entry.attributes ≡ before ++ a ∷ after → is_location_name a.0 ≡ true → has_name a.0 after ≡ false → (o : Option LocationUse) → use_of c p a ≡ o
        → IfSome o (λ given. NameSaysWhere c.functions (in_force_at c p).surroundings.frame given (has_name a.0 before) (value_of_entry a.0 (settled_entry places (draft_told c s big_endian p))))
    go before after a plain_entry stays are named last None used = tt
    go before after a plain_entry stays are named last (Some given) used =
        let plain = location-plain a.0 named in
        let said = attribute-becomes c keep numbered s p plain_entry before a given stays named used (one-accepted (rules_of_source c) s p before after a are none) in
        let same : value_of_entry a.0 out ≡ value_of_entry a.0 made = changed-said a.0 places (location-untouched a.0 named) (wrappers_of c).texts c.entries p (attributes_made (rules_of_source c) s big_endian p) in
        subst (NameSaysWhere c.functions (in_force_at c p).surroundings.frame given (has_name a.0 before)) (sym same)
        (name-says c.functions (in_force_at c p).surroundings.frame given (value_made (attribute_becomes (rules_of_source c) s p before a)) (has_name a.0 before) (value_of_entry a.0 made)
        (says-last (rules_of_source c) s big_endian p places before after a are plain (based-others c.told.output (p.entry.tag == DW_TAG_compile_unit) (range_attributes (lists_of c) c.functions p.entry) a.0 plain (bounds-others (lists_of c) c.functions p.entry a.0 plain)) last said.value) said.says)

-- ---- units and modules

-- nothing in a list that is empty, part by part
pub both-none : {A : Type 0} (xs ys : List A) → xs ++ ys ≡ [] → (xs ≡ []) × (ys ≡ [])
both-none [] ys h = (refl, h)
both-none (x ∷ xs) ys h = absurd (cc)

each-none : {A B : Type 0} (f : A → List B) (xs : List A) (x : A) → flat_map f xs ≡ [] → IsIn x xs → f x ≡ []
each-none f [] x h i = absurd i
each-none f (y ∷ ys) x h (inl same) = ap f same ∙ (both-none (f y) (flat_map f ys) h).0
each-none f (y ∷ ys) x h (inr i) = each-none f ys x (both-none (f y) (flat_map f ys) h).1 i

-- a kept entry of a unit stands in it
pub in-unit : (m : Module) (u : Unit) (p : Placed) → IsIn p (kept_in (kept_of m) u) → p.unit ≡ u.header.offset
in-unit m u p i = eqb-true p.unit u.header.offset (in-filter (λ (q : Placed). q.unit == u.header.offset) (kept_of m).kept p i).1

module _ (m : Module) (accepted : module_refusals m ≡ []) where
  -- nothing is refused of a kept entry of a carried unit
  pub kept-accepted : (u : Unit) (p : Placed) → IsIn u (carried_in (kept_of m)) → IsIn p (kept_in (kept_of m) u) → entry_refusals (rules_of m u) (source_of (kept_of m) u) p ≡ []
  unfolding Reached.module_refusals Reached.kept_refusals
  kept-accepted u p carried kept =
      let rules = rules_of m in
      let units = (both-none (map of_fault (Reached.reading_faults (named_faults m.sections) (kept_of m).parts)) (flat_map (Reached.unit_refusals (unit_refusal m.sections) rules (kept_of m)) (carried_in (kept_of m))) (both-none (synthetic_refusals m.told.memory) (reading_refusals m) accepted).1).1 in
      let unit = each-none (Reached.unit_refusals (unit_refusal m.sections) rules (kept_of m)) (carried_in (kept_of m)) u units carried in
      let entries = (both-none (option_to_list (unit_refusal m.sections u)) (Reached.kept_refusals rules (kept_of m) u) unit).1 in
      each-none (entry_refusals (rules u) (source_of (kept_of m) u)) (kept_in (kept_of m) u) p entries kept

module _ (big_endian : Bool) (m : Module) (keep : TranslationsKeepScopes m.functions) (numbered : AreNumbered m.functions) (accepted : module_refusals m ≡ []) where
  unit-carries : (u : Unit) (places : Goal → Option (ℕ × ℕ)) → IsIn u (carried_in (kept_of m))
      → UnitCarriesLocations (drafts_of big_endian) (record { module_of = m; unit = u }) (settled_unit places (drafts_of big_endian (record { module_of = m; unit = u })))
  unit-carries u places carried =
      let c = expressions_of m u in
      unit-says m u carried big_endian places (λ (e : Entry) (out : TreeEntry). CarriesLocations c (record { unit = u.header.offset; entry = e }) out)
      (λ p i is.
      subst (λ (n : ℕ). CarriesLocations c (record { unit = n; entry = p.entry }) (settled_entry places (draft_told c (source_of (kept_of m) u) big_endian p))) (in-unit m u p i)
      (entry-carries c keep numbered (source_of (kept_of m) u) big_endian places p (kept-accepted m accepted u p carried i)))
      (λ p i is out before after a plain. absurd (true≢false (sym is ∙ plain)))

-- without a first there is none
no-first : {A : Type 0} (xs : List A) → first_of xs ≡ None → xs ≡ []
no-first [] h = refl
no-first (x ∷ xs) h = absurd (cc)

-- of an input of which nothing is refused nothing is of a module
pub none-refused : (c : Compilation) → first_refusal c ≡ None → (m : Module) → IsIn m c.modules → module_refusals m ≡ []
none-refused c accepted m i =
    let last = simulated_unit_refusals (is_begun c.modules) c.next_id c.modules ++ refused_frames c in
    let behind = (both-none (flat_map (λ (n : Module). function_refusals n.functions) c.modules) (flat_map module_refusals c.modules ++ last) (no-first (refusals c) accepted)).1 in
    each-none module_refusals c.modules m (both-none (flat_map module_refusals c.modules) last behind).0 i

-- The trees that are made of an input of which nothing is refused, whose functions have good maps and numbers of their own, carry its
-- locations, if the simulated one does.
pub made-locations : (c : Compilation) → All (λ (m : Module). AreNumbered m.functions) c.modules → ((fs : List Function) → TranslationsKeepScopes fs) → first_refusal c ≡ None → SimulatedIs (UnitHasLocations (drafts_of (is_big c.order))) (is_begun c.modules) c.next_id c.modules
    → LocationsCarried (drafts_of (is_big c.order)) (wanted_units c) (trees_made c)
made-locations c numbered keep accepted last =
    units-made c (UnitHasLocations (drafts_of (is_big c.order))) (λ t. tt)
    (λ m i u carried places. unit-carries (is_big c.order) m (keep m.functions) (all-in (λ (n : Module). AreNumbered n.functions) c.modules m numbered i) (none-refused c accepted m i) u places carried)
    last
