-- The transforms of the modules of a compilation, and what is made of the modules with them.
use Rattle.std.proofs.Common.{◌≡◌, ℕ, zero, suc, ◌+◌, add-one, ◌<◌, ◌≤◌, List, [], ◌∷◌, ◌++◌, map, take, drop, length, get_or, slice_get, refl, ap, ap₂, sym, ◌∙◌, subst, arith, Bool, Option, Some, None, Err, All, Ok}
use Rattle.std.specs.Prelude.{false, is_some, option_map, option_to_list, sum_by, true}
use Rattle.std.specs.BTreeSet.{BTreeSet}
use Rattle.std.specs.Option.{option_or, unwrap_or}
use Rattle.std.specs.List.{flat_map}
use Rattle.std.proofs.lemmas.List.{append-nil, append_assoc, drop_more, drop_all, length-map}
use Rattle.std.proofs.lemmas.List.Elements.{All-nil, All-cons}
use Rattle.std.proofs.lemmas.Option.{slice_get-get_or}
use Rattle.dwc_base.specs.declared.records.Encoding.{Encoding}
use Rattle.dwc_base.specs.declared.records.Endian.{Endian}
use Rattle.dwc_base.specs.declared.records.MapFault.{MapFault}
use Rattle.dwc_base.specs.declared.records.OutputFor.{OutputFor}
use Rattle.dwc_base.specs.declared.translation.ModuleTranslation.{ModuleTranslation}
use Rattle.dwc_native.specs.Functions.{Function, functions_of}
use Rattle.dwc_rules.specs.Carried.{Module, Compilation}
use Rattle.dwc_dwarf.specs.ReadUnits.{units}
use Rattle.dwc_carried.specs.Forests.{module_units, wanted_units, first_refusal, function_refusals, is_big, module_refusals, trees_made}
use Rattle.dwc_rules.specs.ModuleDrafts.{module_drafts}
use Rattle.dwc_rules.specs.DraftForests.{settled_unit, trees_from}
use Rattle.dwc_carried.specs.SimulatedUnitRules.{simulated_drafts, simulated_unit_refusals, simulated_wanted, simulated_drafts_at}
use Rattle.dwc_carried.specs.SimulatedFunctions.{is_begun}
use Rattle.dwc_carried.specs.SimulatedUnit.{context_pointers, unit_count}
use Rattle.dwc_rules.specs.Refusals.{Refusal}
use Rattle.dwc_base.specs.Listing.{first_of}
use Rattle.dwc_rules.specs.Drafts.{Draft}
use Rattle.dwc_output.specs.TreeReading.{entry_or_nothing}
use Rattle.dwc_dwarf.specs.Trees.{Tree, TreeValue}
use Rattle.dwc_dwarf.specs.TreeLaws.{HasAllTargets}
use Rattle.dwc_carried.proofs.SimulatedUnitLaws.{last-number}
use Rattle.dwc_compiled.specs.AddressMaps.{address_map_view}
use Rattle.dwc_isa.specs.Registers.{Registers}
use Rattle.dwc_addr.specs.declared.error.AddrError.{AddrError}
use Rattle.dwc_addr.specs.declared.error.AddrError.TheVariants as addr
use Rattle.dwc_addr.specs.Numbers.{Compiled, function_count, first_number}
use Rattle.dwc_addr.specs.Compilations.{CompilationValue, functions_at, code_offset_at, IsCounted}
use Rattle.dwc_addr.specs.Transforms.{first_bad_map, Transforms}
use Rattle.dwc_unit.specs.declared.attributes.DebugInfoRef.{DebugInfoRef}
use Rattle.dwc_unit.specs.GivenUnits.{GivenUnit}
use Rattle.dwc_clone.specs.BegunNumbers.{is_noted}
use Rattle.dwc_carry.specs.declared.error.DebugError.{DebugError}
use Rattle.dwc_image.specs.CarriedLines.{AreKept}
use Rattle.dwc_carry.specs.Refusals as refusals
use Rattle.dwc_carry.specs.Refusals.{InputRefusal, IsCause, Told, bad_address_map, in_reading, memory, of_maps, told, Refuses, RefusesReading}
use Rattle.dwc_carry.specs.MadeUnits.{LeadsTo, AreMadeOf}
use Rattle.dwc_unit.specs.Renumbered.{place_at, renumbered}
use Rattle.dwc_carry.proofs.MadeLaws.{leads-behind, leads-front, leads-there, made-both, made-grown, made-length}
use Rattle.dwc_carry.specs.declared.carry_modules.CarriedModules.{CarriedModules}
use Rattle.dwc_carry.specs.CarriedModules.{AddsModules}
use Rattle.dwc_carry.specs.SyntheticUnits.{reference_meant}
use Rattle.dwc_carry.specs.SimulatedDrafts.{ContextsStay}
use Rattle.dwc_carry.specs.SimulatedUnits.{AddsSimulatedUnit, AreTranslated, ReferToContexts, referred}
use Rattle.dwc_carry.specs.Inputs.{encoding_of, names_of, functions_from, modules_of, input_of, bad_map_from, bad_map, maps_refusal, refused_before_path}
use Rattle.dwc_carry.specs.Transformed.{have_long, lengths_checked, IsTransformed}
use Rattle.dwc_carry.proofs.CompiledLaws.{all_functions, counted-length, functions-are, functions-length}
use Rattle.dwc_carry.proofs.OutputTargets.{all-targets}
use Rattle.dwc_carry.proofs.RefusalLaws.{first-behind, no-first, reading-more, refuses-more, unmapped}
use Rattle.dwc_carry.proofs.LengthLaws.{all-short, some-long, checked-long, checked-short}
use Rattle.dwc_carry.proofs.CompositionLaws.{forest-is, made-texts, made-trees, trees-of-all}

-- the refusal of a bad map
abbrev map_refusal : Option (ℕ × (ℕ × MapFault)) → Option InputRefusal
map_refusal bad = option_map (λ bad. bad_address_map bad.0 bad.1.0 bad.1.1) bad

-- ---- the loop

code-at : (ts : List ModuleTranslation) (i : ℕ) (t : ModuleTranslation) → i < length ts → unwrap_or (option_map (λ x. x.code_section_offset) (slice_get ts i)) 0 ≡ (get_or ts i t).code_section_offset
code-at ts i t less = ap (λ o. unwrap_or (option_map (λ (x : ModuleTranslation). x.code_section_offset) o) 0) (slice_get-get_or ts i t less)

-- a module's first number is behind those of the module before it
count-more : (fss : List (List Compiled)) (i : ℕ) → i < length fss → function_count (take (suc i) fss) ≡ function_count (take i fss) + length (get_or fss i [])
count-more [] i less = absurd (omega arith)
count-more (fs ∷ fss) zero less = omega arith
count-more (fs ∷ fss) (suc i) less = omega (arith, count-more fss i (omega (arith, less)))

-- The transforms so far, and those of the modules that are left, are all; and no map so far is bad.
pub record TransformsSoFar (output : OutputFor) (ts : List ModuleTranslation) (fss : List (List Compiled)) (i : ℕ) (done : List (List Function)) : Type 0 where
  pub functions : done ++ functions_from output (first_number fss i) (drop i ts) (drop i fss) ≡ functions_from output 0 ts fss
  pub bad : bad_map_from i (drop i ts) (drop i fss) ≡ bad_map_from 0 ts fss

-- the same with the next module in front
record AtNext (output : OutputFor) (ts : List ModuleTranslation) (fss : List (List Compiled)) (i code : ℕ) (done : List (List Function)) : Type 0 where
  functions : done ++ (functions_of output code (first_number fss i) (map address_map_view (get_or fss i [])) ∷ functions_from output (first_number fss (i + 1)) (drop (i + 1) ts) (drop (i + 1) fss)) ≡ functions_from output 0 ts fss
  bad : option_or (option_map (λ bad. (i, bad)) (first_bad_map code 0 (map address_map_view (get_or fss i [])))) (bad_map_from (i + 1) (drop (i + 1) ts) (drop (i + 1) fss)) ≡ bad_map_from 0 ts fss

with-first : (output : OutputFor) (ts : List ModuleTranslation) (fss : List (List Compiled)) (i : ℕ) (t : ModuleTranslation) (done : List (List Function)) → i < length ts → length fss ≡ length ts
    → TransformsSoFar output ts fss i done → AtNext output ts fss i (unwrap_or (option_map (λ x. x.code_section_offset) (slice_get ts i)) 0) done
with-first output ts fss i t done less same h =
    let a : drop i ts ≡ get_or ts i t ∷ drop (i + 1) ts = drop_more ts i t less in
    let b : drop i fss ≡ get_or fss i [] ∷ drop (i + 1) fss = drop_more fss i [] (omega (arith, less, same)) in
    let n : first_number fss (i + 1) ≡ first_number fss i + length (get_or fss i []) = rw add-one (count-more fss i (omega (arith, less, same))) in
    rw (code-at ts i t less) (record {
      functions = rw n (rw (a, b) at h.functions);
      bad = rw add-one (rw (a, b, add-one) at h.bad);
    })

at-next : (output : OutputFor) (ts : List ModuleTranslation) (fss : List (List Compiled)) (i : ℕ) (done : List (List Function)) → i < length ts → length fss ≡ length ts
    → TransformsSoFar output ts fss i done → AtNext output ts fss i (unwrap_or (option_map (λ x. x.code_section_offset) (slice_get ts i)) 0) done
at-next output [] fss i done less same h = absurd (omega arith)
at-next output (t ∷ ts) fss i done less same h = with-first output (t ∷ ts) fss i t done less same h

module _ (c : CompilationValue) (same : length c.functions ≡ length c.translations) where
  -- a transform more
  pub transforms-more : (i : ℕ) (done : List (List Function)) (f : List Function) → i < length c.translations → TransformsSoFar c.tunables.output_for c.translations c.functions i done
      → (first_bad_map (code_offset_at c i) 0 (map address_map_view (functions_at c i)) ≡ None) × (f ≡ functions_of c.tunables.output_for (code_offset_at c i) (first_number c.functions i) (map address_map_view (functions_at c i)))
      → TransformsSoFar c.tunables.output_for c.translations c.functions (i + 1) (done ++ f ∷ [])
  transforms-more i done f less h made =
      let next = at-next c.tunables.output_for c.translations c.functions i done less same h in
      record {
        functions = append_assoc done (f ∷ []) _ ∙ ap (λ g. done ++ (g ∷ functions_from c.tunables.output_for (first_number c.functions (i + 1)) (drop (i + 1) c.translations) (drop (i + 1) c.functions))) made.1 ∙ next.functions;
        bad = sym (ap (λ o. option_or (option_map (λ (bad : ℕ × MapFault). (i, bad)) o) (bad_map_from (i + 1) (drop (i + 1) c.translations) (drop (i + 1) c.functions))) made.0) ∙ next.bad;
      }

  -- a transform that is refused
  pub transforms-refused : (i : ℕ) (done : List (List Function)) (e : AddrError) → i < length c.translations → TransformsSoFar c.tunables.output_for c.translations c.functions i done
      → Transforms (λ t. t) i c.tunables.output_for (code_offset_at c i) (first_number c.functions i) (map address_map_view (functions_at c i)) (Err e) → Refuses (maps_refusal c) (of_maps e)
  transforms-refused i done (addr.BadAddressMap m func why) less h refused =
      let next = at-next c.tunables.output_for c.translations c.functions i done less same h in
      ap map_refusal (sym next.bad ∙ ap (λ o. option_or (option_map (λ (bad : ℕ × MapFault). (i, bad)) o) (bad_map_from (i + 1) (drop (i + 1) c.translations) (drop (i + 1) c.functions))) refused.1 ∙ ap (λ n. Some (n, (func, why))) (sym refused.0))
  transforms-refused i done addr.OutOfMemory less h refused = tt

  -- behind the last one
  pub transforms-done : (i : ℕ) (done : List (List Function)) → length c.translations ≤ i → TransformsSoFar c.tunables.output_for c.translations c.functions i done → (maps_refusal c ≡ None) × (done ≡ functions_from c.tunables.output_for 0 c.translations c.functions)
  transforms-done i done past h =
      let a = drop_all i c.translations past in
      let bad = rw a at h.bad in
      let functions = rw a at h.functions in
      (ap map_refusal (sym bad), sym (append-nil done) ∙ functions)

pub transforms-begin : (output : OutputFor) (ts : List ModuleTranslation) (fss : List (List Compiled)) → TransformsSoFar output ts fss 0 []
transforms-begin output ts fss = record { functions = refl; bad = refl }

-- ---- with all transforms

neither : {A : Type 0} (o p : Option A) → option_or o p ≡ None → (o ≡ None) × (p ≡ None)
neither None p h = (refl, h)
neither (Some x) p h = absurd (cc)

kept-all : (output : OutputFor) (number place : ℕ) (ts : List ModuleTranslation) (fss : List (List Compiled)) → bad_map_from place ts fss ≡ None → All AreKept (functions_from output number ts fss)
kept-all output number place [] fss good = All-nil AreKept
kept-all output number place (t ∷ ts) [] good = All-nil AreKept
kept-all output number place (t ∷ ts) (fs ∷ fss) good =
    let two = neither (option_map (λ (bad : ℕ × MapFault). (place, bad)) (first_bad_map t.code_section_offset 0 (map address_map_view fs))) (bad_map_from (suc place) ts fss) good in
    All-cons AreKept _ _ (record {
      output = output;
      code_offset = t.code_section_offset;
      first_number = number;
      maps = map address_map_view fs;
      good = unmapped (λ (bad : ℕ × MapFault). (place, bad)) (first_bad_map t.code_section_offset 0 (map address_map_view fs)) two.0;
      kept = refl;
    }) (kept-all output (number + length fs) (suc place) ts fss two.1)

-- no map is bad where none is refused
pub maps-good : (c : CompilationValue) → maps_refusal c ≡ None → bad_map c ≡ None
maps-good c good = unmapped _ (bad_map c) good

-- the functions of all transforms are kept of good maps
pub all-kept : (c : CompilationValue) → maps_refusal c ≡ None → All AreKept (functions_from c.tunables.output_for 0 c.translations c.functions)
all-kept c good = kept-all c.tunables.output_for 0 0 c.translations c.functions (unmapped _ (bad_map c) good)

-- no function is too long where the check of lengths answers nothing
pub lengths-short : (c : CompilationValue) → Ok tt ≡ lengths_checked (functions_from c.tunables.output_for 0 c.translations c.functions) → have_long (functions_from c.tunables.output_for 0 c.translations c.functions) ≡ false
lengths-short c h = checked-short (functions_from c.tunables.output_for 0 c.translations c.functions) h

-- Units that are made of its carried units are what it is transformed to.
transformed-of : (c : Compilation) (texts : List (List ℕ)) (us : List GivenUnit) → first_refusal c ≡ None → AreMadeOf (place_at us) (encoding_of c) texts 0 (wanted_units c) (trees_made c) us → All (λ m. (units m.sections).fault ≡ None) c.modules → IsTransformed c texts us
transformed-of c texts us none made whole =
    let same = made-trees (encoding_of c) texts (wanted_units c) (trees_made c) us made in
    record {
      made = made;
      whole = whole;
      texts = made-texts (place_at us) (encoding_of c) texts 0 (wanted_units c) (trees_made c) us made;
      trees = forest-is c none ∙ ap (λ (ts : List Tree). Ok ts) (sym same);
      targets = subst HasAllTargets (sym same) (all-targets c);
    }

-- An error of what refuses nothing is want of memory.
pub late-memory : (o : Option InputRefusal) (e : DebugError) → Refuses o e → is_some o ≡ false → told e ≡ memory
late-memory o e = go (told e)
  where
    clash : true ≡ false → ⊥
    clash is = cc

    go : (t : Told) → IsCause (λ what. ⊥) o t → is_some o ≡ false → t ≡ memory
    go (refusals.refused r) h none = absurd (clash (sym (ap is_some h) ∙ none))
    go (refusals.limit what) h none = absurd h.1
    go memory h none = refl

-- There is a reference for each module.
refers-length : (synthetic : ℕ) (ms : List Module) (refs : List DebugInfoRef) → ReferToContexts synthetic ms refs → length refs ≡ length ms
refers-length synthetic [] [] h = refl
refers-length synthetic [] (r ∷ refs) h = absurd h
refers-length synthetic (m ∷ ms) [] h = absurd h
refers-length synthetic (m ∷ ms) (r ∷ refs) h = ap suc (refers-length (synthetic + unit_count m) ms refs h.1)

-- References to contexts that stay where they are say the types of pointers to these.
contexts-referred : (at : ℕ → ℕ → Option (ℕ × ℕ)) (synthetic : ℕ) (ms : List Module) (refs : List DebugInfoRef) → ReferToContexts synthetic ms refs → ContextsStay at synthetic ms → referred at refs ≡ context_pointers synthetic ms
contexts-referred at synthetic [] [] h stay = refl
contexts-referred at synthetic [] (r ∷ refs) h stay = absurd h
contexts-referred at synthetic (m ∷ ms) [] h stay = absurd h
contexts-referred at synthetic (m ∷ ms) (r ∷ refs) h stay =
    ap₂ (λ (v : TreeValue) (vs : List TreeValue). v ∷ vs) (ap (λ (x : DebugInfoRef). renumbered at (reference_meant x)) h.0 ∙ ap entry_or_nothing stay.0) (contexts-referred at (synthetic + unit_count m) ms refs h.1 stay.1)

-- the noted numbers are those of the functions that are begun
same-numbers : (ms : List Module) (translated : BTreeSet ℕ) → AreTranslated ms translated → is_noted translated ≡ is_begun ms
same-numbers ms translated noted = λ i n. noted n i

module _ (registers : Registers) (c : CompilationValue) (counted : IsCounted c.translations c.functions c.memory_offsets) where
  -- the modules of the input, and the functions of these
  abbrev modules : List Module
  modules = modules_of registers c

  abbrev functions : List (List Function)
  functions = functions_from c.tunables.output_for 0 c.translations c.functions

  -- what is refused of the modules as they are read, in order
  abbrev refusals_in : List Module → Option InputRefusal
  refusals_in ms = option_map in_reading (first_of (flat_map module_refusals ms))

  -- what is refused of the simulated unit
  abbrev simulated_refused : List Refusal
  simulated_refused = simulated_unit_refusals (is_begun modules) c.next_id modules

  -- what is refused of the input behind its maps, and of it whole
  abbrev reading_refusal : Option InputRefusal
  reading_refusal = option_map in_reading (first_of (flat_map (λ m. function_refusals m.functions) modules ++ (flat_map module_refusals modules ++ (simulated_refused ++ []))))

  abbrev input_refusal : Option InputRefusal
  input_refusal = option_or (maps_refusal c) reading_refusal

  -- There is a reference for each translation.
  pub refers-each : (refs : List DebugInfoRef) → ReferToContexts 0 modules refs → length refs ≡ length c.translations
  refers-each refs refers =
      refers-length 0 modules refs refers
      ∙ sym (length-map modules (λ (m : Module). m.functions))
      ∙ ap length (functions-are c.tunables.output_for c.tunables.dwarf_version registers (names_of c) c.translations c.functions c.memory_offsets counted)
      ∙ functions-length c.tunables.output_for 0 c.translations c.functions (counted-length c.translations c.functions c.memory_offsets counted)

  each-refused : (ms : List Module) → flat_map function_refusals (all_functions ms) ≡ flat_map (λ (m : Module). function_refusals m.functions) ms
  each-refused [] = refl
  each-refused (m ∷ ms) = ap (λ (rs : List Refusal). function_refusals m.functions ++ rs) (each-refused ms)

  -- the functions of the modules are refused as those of the transforms
  functions-refused : flat_map function_refusals functions ≡ flat_map (λ (m : Module). function_refusals m.functions) modules
  functions-refused = ap (flat_map function_refusals) (sym (functions-are c.tunables.output_for c.tunables.dwarf_version registers (names_of c) c.translations c.functions c.memory_offsets counted)) ∙ each-refused modules

  -- what is refused behind the lengths of functions is refused of the input, whose maps are good and whose functions short
  behind-lengths : maps_refusal c ≡ None → have_long functions ≡ false → option_map in_reading (first_of (flat_map module_refusals modules ++ (simulated_refused ++ []))) ≡ input_refusal
  behind-lengths good short =
      ap (λ (longs : List Refusal). option_map in_reading (first_of (longs ++ (flat_map module_refusals modules ++ (simulated_refused ++ []))))) (sym (sym functions-refused ∙ all-short functions short))
      ∙ ap (λ o. option_or o reading_refusal) (sym good)

  -- so is what is refused of the modules
  pub input-refused : (e : DebugError) → maps_refusal c ≡ None → have_long functions ≡ false → Refuses (refusals_in modules) e → Refuses input_refusal e
  input-refused e good short h =
      subst (λ o. Refuses o e) (behind-lengths good short)
      (reading-more (first_of (flat_map module_refusals modules)) (first_of (flat_map module_refusals modules ++ (simulated_refused ++ []))) e (λ r is. first-behind (flat_map module_refusals modules) (simulated_refused ++ []) r is) h)

  -- where nothing is refused of the modules, what is refused behind them is the simulated unit's
  behind-modules : refusals_in modules ≡ None → first_of (flat_map module_refusals modules ++ (simulated_refused ++ [])) ≡ first_of simulated_refused
  behind-modules none =
      ap (λ (rs : List Refusal). first_of (rs ++ (simulated_refused ++ []))) (no-first (flat_map module_refusals modules) (unmapped in_reading (first_of (flat_map module_refusals modules)) none))
      ∙ ap (λ (rs : List Refusal). first_of rs) (append-nil simulated_refused)

  pub last-refused : (e : DebugError) (translated : BTreeSet ℕ) → maps_refusal c ≡ None → have_long functions ≡ false → refusals_in modules ≡ None → AreTranslated modules translated
      → RefusesReading (first_of (simulated_unit_refusals (is_noted translated) c.next_id modules)) e → Refuses input_refusal e
  last-refused e translated good short none noted h =
      subst (λ o. Refuses o e) (ap (option_map in_reading) (sym (behind-modules none)) ∙ behind-lengths good short)
      (subst (λ (begun : ℕ → Bool). RefusesReading (first_of (simulated_unit_refusals begun c.next_id modules)) e) (same-numbers modules translated noted) h)

  -- a bad map refuses the input
  pub maps-refused : (e : DebugError) → Refuses (maps_refusal c) e → Refuses input_refusal e
  maps-refused e h = refuses-more (maps_refusal c) input_refusal e (λ r is. ap (λ o. option_or o reading_refusal) is) h

  -- and where no map is bad a function that is too long
  pub lengths-refused : (e : DebugError) → maps_refusal c ≡ None → Err e ≡ lengths_checked functions → Refuses input_refusal e
  lengths-refused e good h =
      let long = checked-long functions e h in
      let behind : List Refusal = flat_map module_refusals modules ++ (simulated_refused ++ []) in
      subst (Refuses input_refusal) (sym long.1)
      (ap (λ o. option_or o reading_refusal) good
      ∙ ap (λ (longs : List Refusal). option_map in_reading (first_of (longs ++ behind))) (sym functions-refused)
      ∙ ap (option_map in_reading) (some-long functions behind long.0))

  -- ---- what is refused before the path of the simulated unit is made

  -- what is refused of functions and modules
  abbrev early_reading : Option InputRefusal
  early_reading = option_map in_reading (first_of (flat_map (λ m. function_refusals m.functions) modules ++ flat_map module_refusals modules))

  -- where maps are good and functions short, what is refused of modules
  before-path : maps_refusal c ≡ None → have_long functions ≡ false → refused_before_path registers c ≡ refusals_in modules
  before-path good short =
      ap (λ o. option_or o early_reading) good
      ∙ ap (λ (longs : List Refusal). option_map in_reading (first_of (longs ++ flat_map module_refusals modules))) (sym functions-refused ∙ all-short functions short)

  pub early-maps : (e : DebugError) → Refuses (maps_refusal c) e → Refuses (refused_before_path registers c) e
  early-maps e h = refuses-more (maps_refusal c) (refused_before_path registers c) e (λ r is. ap (λ o. option_or o early_reading) is) h

  pub early-lengths : (e : DebugError) → maps_refusal c ≡ None → Err e ≡ lengths_checked functions → Refuses (refused_before_path registers c) e
  early-lengths e good h =
      let long = checked-long functions e h in
      let behind : List Refusal = flat_map module_refusals modules in
      subst (Refuses (refused_before_path registers c)) (sym long.1)
      (ap (λ o. option_or o early_reading) good
      ∙ ap (λ (longs : List Refusal). option_map in_reading (first_of (longs ++ behind))) (sym functions-refused)
      ∙ ap (option_map in_reading) (some-long functions behind long.0))

  pub early-modules : (e : DebugError) → maps_refusal c ≡ None → have_long functions ≡ false → Refuses (refusals_in modules) e → Refuses (refused_before_path registers c) e
  early-modules e good short h = subst (λ o. Refuses o e) (sym (before-path good short)) h

  -- nothing is where nothing is refused of modules
  pub never-early : maps_refusal c ≡ None → have_long functions ≡ false → refusals_in modules ≡ None → is_some (refused_before_path registers c) ≡ true → ⊥
  never-early good short none some = clash (sym (ap is_some (before-path good short ∙ none)) ∙ some)
    where
      clash : false ≡ true → ⊥
      clash e = cc

  module _ (order : Endian) (size : ℕ) (before between : List (List ℕ)) (vs : List GivenUnit) (carried : CarriedModules) (k : AddsModules (encoding_of (input_of order size registers None c)) (is_big order) modules [] vs before between carried) where
    -- the input without frames
    abbrev input : Compilation
    input = input_of order size registers None c

    -- how its units spell their numbers
    abbrev encoding : Encoding
    encoding = encoding_of input

    abbrev trees_of_modules : List Tree
    trees_of_modules = trees_from 0 (map (module_drafts (is_big order)) modules)

    -- So many units are made for the modules as the simulated one's number says.
    units-numbered : length vs ≡ sum_by unit_count modules
    units-numbered =
        let leads : LeadsTo (place_at vs) 0 k.made = subst (λ us. LeadsTo (place_at vs) 0 us) k.added (leads-there vs) in
        ap length k.added ∙ sym (made-length (place_at vs) encoding between 0 (module_units input) trees_of_modules k.made (k.each (place_at vs) leads)) ∙ last-number (is_big order) 0 modules

    -- The input is accepted, and the units that are added are those of it.
    pub input-transformed : (texts : List (List ℕ)) (us : List GivenUnit) → maps_refusal c ≡ None → have_long functions ≡ false → refusals_in modules ≡ None
        → (option_map in_reading (first_of (simulated_unit_refusals (is_noted carried.translated) c.next_id modules)) ≡ None) × AddsSimulatedUnit (is_noted carried.translated) encoding c.next_id modules carried.vmctx_ptrs.items vs us between texts
        → (input_refusal ≡ None) × IsTransformed input texts us
    input-transformed texts us good short none given =
        let same = same-numbers modules carried.translated k.translated in
        let last = subst (λ (begun : ℕ → Bool). option_map in_reading (first_of (simulated_unit_refusals begun c.next_id modules)) ≡ None) same given.0 in
        let l = subst (λ (begun : ℕ → Bool). AddsSimulatedUnit begun encoding c.next_id modules carried.vmctx_ptrs.items vs us between texts) same given.1 in
        let accepted : input_refusal ≡ None = sym (behind-lengths good short) ∙ ap (option_map in_reading) (behind-modules none) ∙ last in
        let all : us ≡ k.made ++ l.made = l.added ∙ ap (λ ws. ws ++ l.made) k.added in
        let counted : length vs ≡ 0 + length k.made = omega (arith, ap length k.added) in
        let leads : LeadsTo (place_at us) 0 (k.made ++ l.made) = subst (λ ws. LeadsTo (place_at us) 0 ws) all (leads-there us) in
        let front : LeadsTo (place_at us) 0 k.made = leads-front (place_at us) 0 k.made l.made leads in
        let behind : LeadsTo (place_at us) (length vs) l.made = leads-behind (place_at us) 0 (length vs) k.made l.made counted leads in
        let ends : Option (List Draft) → List Tree = λ drafts. map (settled_unit (λ goal. None)) (option_to_list drafts) in
        let drafts : simulated_drafts_at (is_begun modules) c.next_id (length vs) (referred (place_at us) carried.vmctx_ptrs.items) modules ≡ simulated_drafts (is_begun modules) c.next_id modules =
        ap₂ (λ (n : ℕ) (pointers : List TreeValue). simulated_drafts_at (is_begun modules) c.next_id n pointers modules) units-numbered (contexts-referred (place_at us) 0 modules carried.vmctx_ptrs.items k.refers (k.contexts (place_at us) front)) in
        let one = made-grown (place_at us) encoding between texts 0 (module_units input) trees_of_modules k.made l.grows (k.each (place_at us) front) in
        let two = subst (λ ds. AreMadeOf (place_at us) encoding texts (length vs) (simulated_wanted (is_begun modules) c.next_id modules) (ends ds) l.made) drafts (l.each (place_at us) behind) in
        let both = made-both (place_at us) encoding texts 0 (length vs) (module_units input) (simulated_wanted (is_begun modules) c.next_id modules) trees_of_modules (ends (simulated_drafts (is_begun modules) c.next_id modules)) k.made l.made counted one two in
        let made : AreMadeOf (place_at us) encoding texts 0 (wanted_units input) (trees_made input) us =
        subst (AreMadeOf (place_at us) encoding texts 0 (wanted_units input) (trees_made input)) (sym all)
        (subst (λ ts. AreMadeOf (place_at us) encoding texts 0 (wanted_units input) ts (k.made ++ l.made)) (sym (trees-of-all input)) both) in (
          accepted,
          transformed-of input texts us (unmapped in_reading (first_refusal input) (neither (maps_refusal c) reading_refusal accepted).1) made k.whole,
        )
