-- What entries have that say nothing of their code.
use Rattle.std.proofs.Common.{append-nil, ◌≡◌, ℕ, refl, ap, sym, ◌∙◌, List, [], ◌∷◌, ◌++◌, Bool, true, false, Option, Some, None}
use Rattle.std.specs.Prelude.{◌==◌, ◌||◌, if◌then◌else◌, is_some, not, pos, option_and_then, option_map}
use Rattle.std.specs.List.{find}
use Rattle.std.proofs.lemmas.Bool.{eqb-true}
use Rattle.dwc_base.specs.declared.constants.TheConstants.{DW_AT_frame_base, DW_AT_high_pc, DW_AT_low_pc, DW_AT_ranges, DW_TAG_subprogram}
use Rattle.dwc_dwarf.specs.Entries.{Entry, attribute}
use Rattle.dwc_native.specs.Functions.{Function}
use Rattle.dwc_dwarf.specs.Lists.{address_among}
use Rattle.dwc_rules.specs.LocationAttributes.{base_of_expression}
use Rattle.dwc_rules.specs.RangeAttributes.{address_said, begun_function, extent, extent_of_bounds, nowhere, range_list_of}
use Rattle.dwc_dwarf.specs.RawLists.{ListSource, is_range_list}
use Rattle.dwc_rules.specs.Scopes.{Given, base_given, compiled_base, left_for, scope_given, scope_of_extent, source_range}
use Rattle.dwc_dwarf.specs.Values.{Value}
use Rattle.dwc_extents.specs.CodeNames.{is_code_name, have_code_name}
use Rattle.dwc_extents.proofs.InputExtentLaws.{bounded-is}
use Rattle.dwc_extents.specs.Lineages.{Stacks, frame_given, stacks_left, with_entry, with_given}

-- A name of code is that of no attribute, where none has one.
absent : (name : ℕ) (xs : List (ℕ × Value)) → is_code_name name ≡ true → have_code_name xs ≡ false → option_map (λ (a : ℕ × Value). a.1) (find (λ a. a.0 == name) xs) ≡ None
absent name [] code none = refl
absent name (a ∷ xs) code none = go (λ rest. absent name xs code rest) (a.0 == name) refl (is_code_name a.0) refl none
  where
    go : (have_code_name xs ≡ false → option_map (λ (a : ℕ × Value). a.1) (find (λ a. a.0 == name) xs) ≡ None) → (same : Bool) → (a.0 == name) ≡ same → (b : Bool) → is_code_name a.0 ≡ b → (b || have_code_name xs) ≡ false → option_map (λ (a : ℕ × Value). a.1) (find (λ a. a.0 == name) (a ∷ xs)) ≡ None
    go absent_behind same at true is none = absurd (cc)
    go absent_behind true at false is none = absurd (let equal = ap is_code_name (eqb-true a.0 name at) in cc)
    go absent_behind false at false is none = rw at (absent_behind none)

-- a test that fails
pub unspoken : (said : Bool) (has : Bool) → said ≡ has → not said ≡ true → has ≡ false
unspoken true has is silent = absurd (cc)
unspoken false has is silent = sym is

module _ (s : ListSource) (fs : List Function) (e : Entry) (none : have_code_name e.attributes ≡ false) where
  -- Its extent is nowhere.
  pub nowhere-is : nowhere ≡ extent s e
  nowhere-is = unsaid ∙ bounded-is s e (sym listed)
    where
      listed : range_list_of e ≡ None
      listed = ap (option_and_then (λ v. if is_range_list v then Some v else None)) (absent DW_AT_ranges e.attributes refl none)

      said : None ≡ address_said s DW_AT_low_pc e
      said = sym (ap (address_among s.indexed) (absent DW_AT_low_pc e.attributes refl none))

      unsaid : nowhere ≡ extent_of_bounds s e
      unsaid = rw (← said) refl

  -- It has no scope, and no frame base.
  no-scope : begun_function s fs e ≡ None → scope_given s fs e ≡ None
  no-scope begun = go (e.tag == DW_TAG_subprogram)
    where
      go : (b : Bool) → (if b then option_map source_range (begun_function s fs e) else (if is_some (attribute DW_AT_high_pc e) || is_some (attribute DW_AT_ranges e) then Some (scope_of_extent (extent s e)) else None)) ≡ None
      go true = rw begun refl
      go false = rw (absent DW_AT_high_pc e.attributes refl none, absent DW_AT_ranges e.attributes refl none) refl

  no-base : base_given base_of_expression e ≡ None
  no-base = ap (compiled_base base_of_expression) (absent DW_AT_frame_base e.attributes refl none)

  nothing-on : {X : Type 0} (depth : ℕ) (given : Option X) (stack : List (Given X)) → given ≡ None → with_given depth given stack ≡ stack
  nothing-on depth given stack is = rw is (go (depth == 0))
    where
      go : (b : Bool) → (if b then stack else stack ++ []) ≡ stack
      go true = refl
      go false = append-nil stack

  -- One that begins in no function gives nothing.
  pub nothing-given : begun_function s fs e ≡ None → (old : Stacks) → with_entry s fs e old ≡ stacks_left e.depth old
  nothing-given begun old = λ i. record {
    scopes = nothing-on e.depth (scope_given s fs e) (left_for (pos e.depth) old.scopes) (no-scope begun) i;
    frames = nothing-on e.depth (frame_given s fs e) (left_for (pos e.depth) old.frames) (ap (option_map (λ (f : Function). f.number)) begun) i;
    bases = nothing-on e.depth (base_given base_of_expression e) (left_for (pos e.depth) old.bases) no-base i;
  }
