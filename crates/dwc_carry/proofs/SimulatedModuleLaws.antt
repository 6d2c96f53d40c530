-- The loop over modules that adds the entries of their simulated functions.
use Rattle.std.proofs.Common.{◌≡◌, ℕ, ◌+◌, ◌<◌, ◌≤◌, List, [], ◌∷◌, ◌++◌, drop, length, map, get_or, refl, ap, sym, ◌∙◌, subst, Bool, None, Ok, Err}
use Rattle.std.specs.Prelude.{option_map}
use Rattle.std.specs.List.{flat_map}
use Rattle.std.proofs.lemmas.List.{drop_all, drop_more}
use Rattle.dwc_base.specs.declared.records.Encoding.{Encoding}
use Rattle.dwc_base.specs.declared.translation.ModuleTranslation.{ModuleTranslation}
use Rattle.dwc_rules.specs.Carried.{Module}
use Rattle.dwc_rules.specs.Drafts.{Draft}
use Rattle.dwc_native.specs.Functions.{Function}
use Rattle.dwc_carried.specs.SimulatedFunctions.{simulated_functions}
use Rattle.dwc_rules.specs.Refusals.{Refusal}
use Rattle.dwc_base.specs.Listing.{first_of}
use Rattle.dwc_carried.specs.SimulatedUnit.{modules_entries, simulated_refusals, variable_refusals}
use Rattle.dwc_dwarf.specs.Trees.{TreeValue}
use Rattle.dwc_isa.specs.Registers.{Registers}
use Rattle.dwc_unit.specs.declared.attributes.DebugInfoRef.{DebugInfoRef}
use Rattle.dwc_unit.specs.GivenLines.{GivenLines}
use Rattle.dwc_unit.specs.GivenUnits.{Addition, GivenUnit}
use Rattle.dwc_source.specs.CompiledModules.{HasFrames, told_by}
use Rattle.dwc_source.specs.MadeValues.{Grows}
use Rattle.dwc_carry.specs.declared.error.DebugError.{DebugError}
use Rattle.dwc_source.specs.declared.compiled_module.CompiledModule.{CompiledModule}
use Rattle.dwc_carry.specs.CarriedModules.{transformed_module}
use Rattle.dwc_carry.specs.SimulatedParts.{AddsModule, ArePartsOf}
use Rattle.dwc_carry.specs.MadeEntries.{IsDense}
use Rattle.dwc_carry.specs.SyntheticUnits.{reference_meant}
use Rattle.dwc_carry.specs.Refusals.{RefusesReading, in_reading}
use Rattle.dwc_carry.specs.SimulatedDrafts.{BeginsWith, HasFunctions, HasModules, IsSimulated}
use Rattle.dwc_carry.proofs.MadeLaws.{grows-same, grows-twice}
use Rattle.dwc_carry.proofs.RefusalLaws.{first-behind, no-first, reading-more, unmapped}
use Rattle.dwc_carry.proofs.SimulatedSteps.{functions-begun, functions-done, modules-done}

-- ---- the loop

-- The entries of the modules from a place on are left, with the references from there on; those before are accepted.
pub record ModulesLeft (translated : ℕ → Bool) (number : ℕ) (whole : List Draft) (ms : List Module) (refs : List DebugInfoRef) (texts : List (List ℕ)) (u : GivenUnit) (i : ℕ) : Type 0 where
  pub has : HasModules translated number (map reference_meant (drop i refs)) texts whole (drop i ms) u
  pub accepted : simulated_refusals translated (drop i ms) ≡ simulated_refusals translated ms

-- What the loop keeps.
pub record ModulesAdded (translated : ℕ → Bool) (ms : List Module) (refs : List DebugInfoRef) (before : List (List ℕ)) (first : GivenUnit) (texts : List (List ℕ)) (u : GivenUnit) (i : ℕ) : Type 0 where
  pub grows : Grows before texts
  pub dense : IsDense u
  pub some : 0 < length u.additions
  pub begins : (encoding : Encoding) (lines : GivenLines) (root : Addition) → BeginsWith encoding lines root first → BeginsWith encoding lines root u
  pub entries : (number : ℕ) (whole : List Draft) → HasModules translated number (map reference_meant refs) before whole ms first → ModulesLeft translated number whole ms refs texts u i

module _ (translated : ℕ → Bool) (ms : List Module) (refs : List DebugInfoRef) (before : List (List ℕ)) (first : GivenUnit) where
  pub added-begin : IsDense first → 0 < length first.additions → ModulesAdded translated ms refs before first before first 0
  added-begin dense some = record {
    grows = grows-same before;
    dense = dense;
    some = some;
    begins = λ encoding lines root h. h;
    entries = λ number whole h. record { has = h; accepted = refl };
  }

  module _ (registers : Registers) (version : ℕ) (texts : List (List ℕ)) (u : GivenUnit) (i : ℕ) (h : ModulesAdded translated ms refs before first texts u i) (t : ModuleTranslation) (fs : List Function) (compiled : CompiledModule) (r : DebugInfoRef) (m : Module)
      (made : m ≡ transformed_module version t fs (told_by registers compiled)) (frames : HasFrames compiled fs) (left : drop i ms ≡ m ∷ drop (i + 1) ms)
      (inside : i < length refs) (at : r ≡ get_or refs i r) where
    -- the types of pointers to the contexts of those behind it
    abbrev others : List TreeValue
    others = map reference_meant (drop (i + 1) refs)

    -- with that of the next module
    refers-next : map reference_meant (drop i refs) ≡ reference_meant r ∷ others
    refers-next = ap (map reference_meant) (drop_more refs i r inside ∙ ap (λ x. x ∷ drop (i + 1) refs) (sym at))

    -- what is given tells it
    simulated-next : ArePartsOf registers m t fs compiled
    simulated-next = record {
      file = ap (λ (n : Module). n.file) made;
      functions = ap (λ (n : Module). n.functions) made;
      told = ap (λ (n : Module). n.told) made;
      frames = subst (HasFrames compiled) (sym (ap (λ (n : Module). n.functions) made)) frames;
    }

    -- what is refused of it, and behind it
    refused-next : simulated_refusals translated (drop i ms) ≡ flat_map (variable_refusals m) (simulated_functions translated m) ++ simulated_refusals translated (drop (i + 1) ms)
    unfolding simulated_refusals
    refused-next = ap (simulated_refusals translated) left

    module _ (number : ℕ) (whole : List Draft) (k : ModulesLeft translated number whole ms refs texts u i) where
      abbrev behind : List Draft
      behind = modules_entries translated number others (drop (i + 1) ms)

      -- its functions are left
      next-begun : HasFunctions number (reference_meant r) m texts behind whole (simulated_functions translated m) u
      next-begun =
          functions-begun translated number (reference_meant r) others m (drop (i + 1) ms) whole texts u
          (subst (λ ps. HasModules translated number ps texts whole (m ∷ drop (i + 1) ms) u) refers-next (subst (λ ns. HasModules translated number (map reference_meant (drop i refs)) texts whole ns u) left k.has))

      next-done : (after : List (List ℕ)) (v : GivenUnit) → (option_map in_reading (first_of (flat_map (variable_refusals m) (simulated_functions translated m))) ≡ None) × HasFunctions number (reference_meant r) m after behind whole [] v → ModulesLeft translated number whole ms refs after v (i + 1)
      next-done after v (none, has) = record {
        has = functions-done translated number (reference_meant r) others m (drop (i + 1) ms) whole after v has;
        accepted = sym (ap (λ rs. rs ++ simulated_refusals translated (drop (i + 1) ms)) (no-first (flat_map (variable_refusals m) (simulated_functions translated m)) (unmapped in_reading (first_of (flat_map (variable_refusals m) (simulated_functions translated m))) none))) ∙ sym refused-next ∙ k.accepted;
      }

      next-refused : (e : DebugError) → RefusesReading (first_of (flat_map (variable_refusals m) (simulated_functions translated m))) e → RefusesReading (first_of (simulated_refusals translated ms)) e
      next-refused e met =
          reading-more (first_of (flat_map (variable_refusals m) (simulated_functions translated m))) (first_of (simulated_refusals translated ms)) e
          (λ x is. ap (λ (rs : List Refusal). first_of rs) (sym k.accepted ∙ refused-next) ∙ first-behind (flat_map (variable_refusals m) (simulated_functions translated m)) (simulated_refusals translated (drop (i + 1) ms)) x is) met

    -- A module more.
    pub added-more : (after : List (List ℕ)) (v : GivenUnit) → Grows texts after → IsDense v → 0 < length v.additions
        → ((encoding : Encoding) (lines : GivenLines) (root : Addition) → BeginsWith encoding lines root u → BeginsWith encoding lines root v)
        → AddsModule registers translated t fs compiled r texts after u v (Ok tt)
        → ModulesAdded translated ms refs before first after v (i + 1)
    added-more after v grows dense some begins gives = record {
      grows = grows-twice before texts after h.grows grows;
      dense = dense;
      some = some;
      begins = λ encoding lines root is. begins encoding lines root (h.begins encoding lines root is);
      entries = λ number whole is.
          let k = h.entries number whole is in
          next-done number whole k after v (gives m number (behind number whole k) whole simulated-next (next-begun number whole k));
    }

    -- A module that is refused.
    pub added-refused : (number : ℕ) (whole : List Draft) (after : List (List ℕ)) (v : GivenUnit) (e : DebugError)
        → AddsModule registers translated t fs compiled r texts after u v (Err e)
        → HasModules translated number (map reference_meant refs) before whole ms first → RefusesReading (first_of (simulated_refusals translated ms)) e
    added-refused number whole after v e gives is =
        let k = h.entries number whole is in
        next-refused number whole k e (gives m number (behind number whole k) whole simulated-next (next-begun number whole k))

  -- Behind the last one.
  pub added-done : (texts : List (List ℕ)) (u : GivenUnit) (i : ℕ) → length ms ≤ i → ModulesAdded translated ms refs before first texts u i → (number : ℕ) (whole : List Draft) → HasModules translated number (map reference_meant refs) before whole ms first
      → (option_map in_reading (first_of (simulated_refusals translated ms)) ≡ None) × IsSimulated number texts whole u
  unfolding simulated_refusals
  added-done texts u i past h = λ number whole is.
      let k = h.entries number whole is in
      let none = drop_all i ms past in (
        ap (λ (rs : List Refusal). option_map in_reading (first_of rs)) (sym k.accepted ∙ ap (simulated_refusals translated) none),
        modules-done translated number (map reference_meant (drop i refs)) texts whole u (subst (λ ns. HasModules translated number (map reference_meant (drop i refs)) texts whole ns u) none k.has),
      )
