-- What the function in force tells to expressions.
use Rattle.std.proofs.Common.{◌≡◌, ℕ, ◌<◌, ◌≤◌, ◌+◌, ◌-◌, refl, sym, ap, subst, ◌∙◌, List, [], ◌∷◌, length, Option, Some, None, option_map}
use Rattle.std.specs.Prelude.{◌==◌, All, Bool, true, false, IfSome, if◌then◌else◌, is_some, option_and_then}
use Rattle.std.specs.FinMap as finite
use Rattle.std.specs.List.{cons_option, filter_map}
use Rattle.dwc_base.specs.declared.constants.TheConstants.{DW_TAG_subprogram}
use Rattle.dwc_base.specs.declared.records.Address.{Address}
use Rattle.dwc_base.specs.declared.records.Address.TheVariants.{Constant, Symbol}
use Rattle.dwc_dwarf.specs.Entries.{Entry}
use Rattle.dwc_native.specs.Functions.{Function, function_at, is_unlinked, owner, with_symbol}
use Rattle.dwc_rules.specs.Kept.{Placed}
use Rattle.dwc_dwarf.specs.Lists.{list_source}
use Rattle.dwc_rules.specs.LocationAttributes as locations
use Rattle.dwc_rules.specs.LocationRules.{frame_at, frame_told, in_force_at}
use Rattle.dwc_native.specs.Parts.{CompiledParts}
use Rattle.dwc_native.specs.Placed.{Frame}
use Rattle.dwc_rules.specs.RangeAttributes.{begin_of, begun_function}
use Rattle.dwc_rules.specs.RangeKept.{function_of_address}
use Rattle.dwc_dwarf.specs.RawLists.{ListSource}
use Rattle.dwc_base.specs.Listing.{first_of}
use Rattle.dwc_rules.specs.Scopes.{frame_in_force, lineage, nearest, scope_in_force, top_of}
use Rattle.dwc_rules.specs.Clones.{UnitSource}
use Rattle.dwc_isa.specs.Registers.{Registers}
use Rattle.dwc_addr.proofs.OwnerLaws.{function_at-among}
use Rattle.dwc_expr.specs.declared.frame.FunctionFrameInfo.{FunctionFrameInfo}
use Rattle.dwc_expr.specs.Frames.{frame_view}
use Rattle.dwc_source.specs.declared.source.CloneSource.{CloneSource}
use Rattle.dwc_extents.specs.declared.in_force.InForce.{InForce}
use Rattle.dwc_extents.specs.CodeSources.{IsInForce, source_with}
use Rattle.dwc_source.specs.CompiledModules.{HasFrames, told_by}
use Rattle.dwc_extents.specs.Lineages.{AreInForce, Stacks}

-- ---- the function in force

-- What holds of all functions holds of one that is in force, which has a symbol.
record IsAmong (P : Function → Type 0) (f : Function) : Type 0 where
  holds : P f
  symbol : is_some f.symbol ≡ true

module _ (P : Function → Type 0) (s : ListSource) (fs : List Function) (all : All P fs) where
  function_at-symbol : (a : ℕ) (f : Function) → function_at fs a ≡ Some f → is_some f.symbol ≡ true
  function_at-symbol a f is = go (is_unlinked a) (owner fs a) is
    where
      go : (b : Bool) (o : Option Function) → ◌≡◌ {A = Option Function} (if b then None else with_symbol o) (Some f) → is_some f.symbol ≡ true
      go true o is = absurd (cc)
      go false None is = absurd (cc)
      go false (Some g) is = one (is_some g.symbol) refl is
        where
          one : (b : Bool) → is_some g.symbol ≡ b → ◌≡◌ {A = Option Function} (if b then Some g else None) (Some f) → is_some f.symbol ≡ true
          one true some is = let same : g ≡ f = cc in subst (λ (x : Function). is_some x.symbol ≡ true) same some
          one false some is = absurd (cc)

  begun-among : (e : Entry) (f : Function) → begun_function s fs e ≡ Some f → IsAmong P f
  unfolding begun_function
  begun-among e f is = go (e.tag == DW_TAG_subprogram) (begin_of s e) is
    where
      at : (o : Option Address) → option_and_then (function_of_address fs) o ≡ Some f → IsAmong P f
      at None is = absurd (cc)
      at (Some (Constant a)) is = record { holds = function_at-among P fs a f all is; symbol = function_at-symbol a f is }
      at (Some (Symbol n addend)) is = absurd (cc)

      go : (b : Bool) (o : Option Address) → ◌≡◌ {A = Option Function} (if b then option_and_then (function_of_address fs) o else None) (Some f) → IsAmong P f
      go true o is = at o is
      go false o is = absurd (cc)

  nearest-among : (es : List Entry) (f : Function) → nearest (begun_function s fs) es ≡ Some f → IsAmong P f
  nearest-among [] f is = absurd (cc)
  nearest-among (e ∷ es) f is = go (begun_function s fs e) (begun-among e f) (nearest-among es f) is
    where
      go : (o : Option Function) → (o ≡ Some f → IsAmong P f) → (nearest (begun_function s fs) es ≡ Some f → IsAmong P f) → first_of (cons_option o (filter_map (begun_function s fs) es)) ≡ Some f → IsAmong P f
      go None here others is = others is
      go (Some g) here others is = here is

module _ (registers : Registers) (c : CloneSource) (s : UnitSource) (e : Placed) where
  -- the functions that an entry and its ancestors begin in
  abbrev in_force : Option Function
  in_force = frame_in_force (list_source c.unit.now.sections c.unit.now.header) c.transform.now (lineage s.entries e)

  abbrev frame_of : Option Function → Option Frame
  frame_of o = option_map (frame_told (told_by registers c.module)) o

  -- Where no function is in force, there is no frame.
  pub frame-none : None ≡ option_map (λ f. f.number) in_force → None ≡ frame_at (source_with registers c s) e
  unfolding frame_at
  frame-none none = go in_force none
    where
      go : (o : Option Function) → None ≡ option_map (λ f. f.number) o → None ≡ frame_of o
      go None none = refl
      go (Some f) none = absurd (cc)

  -- What the function tells that is in force, of a number, is the frame.
  pub frame-some : (number : ℕ) (r : Option FunctionFrameInfo) → HasFrames c.module c.transform.now → Some number ≡ option_map (λ f. f.number) in_force
      → ((f : Function) → f.number ≡ number → f.symbol ≡ Some number → c.module.first_number ≤ number → number < c.module.first_number + length c.module.functions.now → frame_view r ≡ Some (frame_told (told_by registers c.module) f))
      → frame_view r ≡ frame_at (source_with registers c s) e
  unfolding frame_at frame_in_force
  frame-some number r has is told = go in_force (nearest-among Numbered (list_source c.unit.now.sections c.unit.now.header) c.transform.now has (lineage s.entries e)) is
    where
      Numbered : Function → Type 0
      Numbered f = IfSome f.symbol (λ n. (f.number ≡ n) × (c.module.first_number ≤ n) × (n < c.module.first_number + length c.module.functions.now))

      one : (f : Function) (o : Option ℕ) → f.symbol ≡ o → f.number ≡ number → is_some o ≡ true → IfSome o (λ n. (f.number ≡ n) × (c.module.first_number ≤ n) × (n < c.module.first_number + length c.module.functions.now)) → frame_view r ≡ Some (frame_told (told_by registers c.module) f)
      one f None symbol named some known = absurd (cc)
      one f (Some n) symbol named some known =
          let same : n ≡ number = sym known.0 ∙ named in
          told f named (symbol ∙ ap Some same) (subst (λ k. c.module.first_number ≤ k) same known.1) (subst (λ k. k < c.module.first_number + length c.module.functions.now) same known.2)

      go : (o : Option Function) → ((f : Function) → o ≡ Some f → IsAmong Numbered f) → Some number ≡ option_map (λ f. f.number) o → frame_view r ≡ frame_of o
      go None among is = absurd (cc)
      go (Some f) among is = let found = among f refl in let named : f.number ≡ number = cc in one f f.symbol refl named found.symbol found.holds

  -- What is on top of the stacks, and that frame, are in force.
  pub force-is : (f : InForce) (stacks : Stacks) → AreInForce (list_source c.unit.now.sections c.unit.now.header) c.transform.now s.entries e stacks → frame_view (option_map (λ x. x.now) f.frame) ≡ frame_at (source_with registers c s) e
      → option_map (λ x. x.now) f.scope ≡ top_of stacks.scopes → option_map (λ x. x.now) f.base ≡ top_of stacks.bases → IsInForce registers c s e f
  unfolding in_force_at
  force-is f stacks tops frame scope base =
      let F : Option Frame → Option (List (ℕ × ℕ)) → Option CompiledParts → locations.InForce = λ frame scope base. record {
        surroundings = record { functions = c.transform.now; frame = frame; register = λ r. finite.get registers r };
        scope = scope;
        base = base;
      } in
      ap (λ o. F o (option_map (λ x. x.now) f.scope) (option_map (λ x. x.now) f.base)) frame
      ∙ ap (λ o. F (frame_at (source_with registers c s) e) o (option_map (λ x. x.now) f.base)) (scope ∙ tops.scope)
      ∙ ap (F (frame_at (source_with registers c s) e) (scope_in_force (list_source c.unit.now.sections c.unit.now.header) c.transform.now (lineage s.entries e))) (base ∙ tops.base)
