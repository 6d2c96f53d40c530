-- The functions of a compilation of which nothing is refused have good maps and numbers of their own, and the units that are made of it
-- carry its scopes and its locations.
use Rattle.std.proofs.Common.{◌≡◌, ℕ, suc, ◌+◌, List, [], ◌∷◌, map, length, refl, sym, subst, Option, Some, None, All}
use Rattle.std.specs.Prelude.{option_map}
use Rattle.std.specs.Option.{option_or}
use Rattle.std.proofs.lemmas.List.Elements.{All-nil, All-cons}
use Rattle.dwc_base.specs.declared.records.Endian.{Endian}
use Rattle.dwc_base.specs.declared.records.OutputFor.{OutputFor}
use Rattle.dwc_base.specs.declared.translation.ModuleTranslation.{ModuleTranslation}
use Rattle.dwc_native.specs.CallFrames.{CommonEntry}
use Rattle.dwc_native.specs.Functions.{AddressMap, Function, functions_of}
use Rattle.dwc_rules.specs.Carried.{Module}
use Rattle.dwc_native.specs.Compiled.{ToldModule}
use Rattle.dwc_carried.specs.Forests.{wanted_units, drafts_of, first_refusal, is_big, trees_made}
use Rattle.dwc_carried.specs.LocationsCarried.{LocationsCarried}
use Rattle.dwc_rules.specs.ScopesCarried.{ScopesCarried}
use Rattle.dwc_native.specs.ScopesKept.{AreNumbered, TranslationsKeepScopes}
use Rattle.dwc_carried.proofs.LocationForest.{made-locations}
use Rattle.dwc_carried.proofs.ScopeForest.{made-scopes}
use Rattle.dwc_compiled.specs.AddressMaps.{address_map_view}
use Rattle.dwc_isa.specs.Registers.{Registers}
use Rattle.dwc_addr.specs.Numbers.{Compiled}
use Rattle.dwc_addr.specs.Compilations.{CompilationValue}
use Rattle.dwc_addr.specs.Transforms.{first_bad_map}
use Rattle.dwc_unit.specs.GivenTrees.{given_trees}
use Rattle.dwc_unit.specs.GivenUnits.{GivenUnit, ordered}
use Rattle.dwc_carry.specs.Refusals.{in_reading}
use Rattle.dwc_unit.specs.Renumbered.{place_at}
use Rattle.dwc_carried.specs.ContextsCarried.{ContextsCarried}
use Rattle.dwc_carried.proofs.ContextForest.{made-contexts}
use Rattle.dwc_carry.specs.MadeUnits.{AreMadeOf}
use Rattle.dwc_carry.specs.Inputs.{encoding_of, names_of, module_view, modules_from, told_from, input_of, bad_map_from, bad_map, maps_refusal, refusal_of}
use Rattle.dwc_carry.proofs.CompositionLaws.{made-trees}
use Rattle.dwc_carry.proofs.SimulatedUnitLocations.{simulated_unit-located}
use Rattle.dwc_carry.proofs.RefusalLaws.{unmapped}

-- functions of good maps have numbers of their own
abbrev pub MapsNumber : Type 0
MapsNumber = (output : OutputFor) (code_offset number : ℕ) (maps : List AddressMap) → first_bad_map code_offset 0 maps ≡ None → AreNumbered (functions_of output code_offset number maps)

abbrev HasNumbers : Module → Type 0
HasNumbers m = AreNumbered m.functions

neither : {A : Type 0} (a b : Option A) → option_or a b ≡ None → (a ≡ None) × (b ≡ None)
neither None b h = (refl, h)
neither (Some x) b h = absurd (cc)

module _ (number_maps : MapsNumber) where
  modules-numbered : (output : OutputFor) (version place number : ℕ) (ts : List ModuleTranslation) (fss : List (List Compiled)) (told : List ToldModule) → bad_map_from place ts fss ≡ None → All HasNumbers (modules_from output version number ts fss told)
  modules-numbered output version place number [] fss told h = All-nil HasNumbers
  modules-numbered output version place number (t ∷ ts) [] told h = All-nil HasNumbers
  modules-numbered output version place number (t ∷ ts) (fs ∷ fss) [] h = All-nil HasNumbers
  modules-numbered output version place number (t ∷ ts) (fs ∷ fss) (m ∷ told) h =
      let maps = map address_map_view fs in
      let both = neither (option_map (λ bad. (place, bad)) (first_bad_map t.code_section_offset 0 maps)) (bad_map_from (suc place) ts fss) h in
      All-cons HasNumbers (module_view output version number t fs m) (modules_from output version (number + length fs) ts fss told) (number_maps output t.code_section_offset number maps (unmapped (λ bad. (place, bad)) (first_bad_map t.code_section_offset 0 maps) both.0))
      (modules-numbered output version (suc place) (number + length fs) ts fss told both.1)

  -- The units say the trees of an input of which nothing is refused, and so carry its scopes.
  pub scopes-carried : (order : Endian) (size : ℕ) (registers : Registers) (entry : Option CommonEntry) (c : CompilationValue) (texts : List (List ℕ)) (us : List GivenUnit) → refusal_of order size registers entry c ≡ None
      → AreMadeOf (place_at us) (encoding_of (input_of order size registers entry c)) texts 0 (wanted_units (input_of order size registers entry c)) (trees_made (input_of order size registers entry c)) us → ((fs : List Function) → TranslationsKeepScopes fs)
      → ScopesCarried (drafts_of (is_big order)) (wanted_units (input_of order size registers entry c)) (given_trees texts (map ordered us))
  scopes-carried order size registers entry c texts us accepted made keep =
      let input = input_of order size registers entry c in
      let good : bad_map c ≡ None = unmapped _ (bad_map c) (neither (maps_refusal c) (option_map in_reading (first_refusal input)) accepted).0 in
      subst (ScopesCarried (drafts_of (is_big order)) (wanted_units input)) (sym (made-trees (encoding_of input) texts (wanted_units input) (trees_made input) us made))
      (made-scopes input (modules-numbered c.tunables.output_for c.tunables.dwarf_version 0 0 c.translations c.functions (told_from c.tunables.output_for registers (names_of c) 0 0 c.functions c.memory_offsets) good) keep)

  -- And so they carry its locations.
  pub locations-carried : (order : Endian) (size : ℕ) (registers : Registers) (entry : Option CommonEntry) (c : CompilationValue) (texts : List (List ℕ)) (us : List GivenUnit) → refusal_of order size registers entry c ≡ None
      → AreMadeOf (place_at us) (encoding_of (input_of order size registers entry c)) texts 0 (wanted_units (input_of order size registers entry c)) (trees_made (input_of order size registers entry c)) us → ((fs : List Function) → TranslationsKeepScopes fs)
      → LocationsCarried (drafts_of (is_big order)) (wanted_units (input_of order size registers entry c)) (given_trees texts (map ordered us))
  locations-carried order size registers entry c texts us accepted made keep =
      let input = input_of order size registers entry c in
      let both = neither (maps_refusal c) (option_map in_reading (first_refusal input)) accepted in
      let good : bad_map c ≡ None = unmapped _ (bad_map c) both.0 in
      let read : first_refusal input ≡ None = unmapped in_reading (first_refusal input) both.1 in
      let numbered = modules-numbered c.tunables.output_for c.tunables.dwarf_version 0 0 c.translations c.functions (told_from c.tunables.output_for registers (names_of c) 0 0 c.functions c.memory_offsets) good in
      subst (LocationsCarried (drafts_of (is_big order)) (wanted_units input)) (sym (made-trees (encoding_of input) texts (wanted_units input) (trees_made input) us made))
      (made-locations input numbered keep read (simulated_unit-located (drafts_of (is_big order)) input numbered keep read))

  -- And so the variables of its functions' contexts stand where they are to.
  pub contexts-carried : (order : Endian) (size : ℕ) (registers : Registers) (entry : Option CommonEntry) (c : CompilationValue) (texts : List (List ℕ)) (us : List GivenUnit) → refusal_of order size registers entry c ≡ None
      → AreMadeOf (place_at us) (encoding_of (input_of order size registers entry c)) texts 0 (wanted_units (input_of order size registers entry c)) (trees_made (input_of order size registers entry c)) us → ((fs : List Function) → TranslationsKeepScopes fs)
      → ContextsCarried (drafts_of (is_big order)) (wanted_units (input_of order size registers entry c)) (given_trees texts (map ordered us))
  contexts-carried order size registers entry c texts us accepted made keep =
      let input = input_of order size registers entry c in
      let both = neither (maps_refusal c) (option_map in_reading (first_refusal input)) accepted in
      let good : bad_map c ≡ None = unmapped _ (bad_map c) both.0 in
      let read : first_refusal input ≡ None = unmapped in_reading (first_refusal input) both.1 in
      subst (ContextsCarried (drafts_of (is_big order)) (wanted_units input)) (sym (made-trees (encoding_of input) texts (wanted_units input) (trees_made input) us made))
      (made-contexts input (modules-numbered c.tunables.output_for c.tunables.dwarf_version 0 0 c.translations c.functions (told_from c.tunables.output_for registers (names_of c) 0 0 c.functions c.memory_offsets) good) keep read)
