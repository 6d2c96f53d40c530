-- Every reference of the trees of an output, the simulated unit among them, goes to an entry that is there.
use Rattle.std.proofs.Common.{◌≡◌, ℕ, zero, suc, ◌+◌, ◌<◌, arith, lit<, refl, ap, sym, ◌∙◌, subst, List, [], ◌∷◌, ◌++◌, length, map, cond, Bool, true, false, Option, Some, None}
use Rattle.std.specs.Prelude.{◌==◌, ◌&&◌, codes, nat_lt, IfSome, option_map, option_and_then, sum_by}
use Rattle.std.specs.List.{cons_option, filter_map, flat_map, list_all}
use Rattle.std.proofs.lemmas.Bool.{lt-ltb, ltb-true}
use Rattle.std.proofs.lemmas.List.{append-nil, append_assoc, length-append, length-map}
use Rattle.dwc_rules.specs.Carried.{Module, Compilation}
use Rattle.dwc_native.specs.Compiled.{Memory, no_memory, defined, imported}
use Rattle.dwc_rules.specs.ContextVariable.{locations_or_none}
use Rattle.dwc_carried.specs.DefinedFunctions.{DefinedFunction, types_at}
use Rattle.dwc_rules.specs.DraftForests.{units_drafted, place_of_goal, settled_entry, settled_unit, trees_from, forest}
use Rattle.dwc_rules.specs.Drafts.{Draft, Goal, done}
use Rattle.dwc_carried.specs.Forests.{is_big, module_trees, trees_made}
use Rattle.dwc_rules.specs.ModuleDrafts.{module_drafts}
use Rattle.dwc_carried.specs.SimulatedUnitRules.{simulated_drafts}
use Rattle.dwc_carried.specs.SimulatedFunctions.{is_begun, simulated_functions}
use Rattle.dwc_rules.specs.MadeEntries.{made, named}
use Rattle.dwc_rules.specs.SyntheticUnit.{synthetic_unit, place_of_context_pointer}
use Rattle.dwc_native.specs.Parts.{context_label}
use Rattle.dwc_carried.specs.SimulatedUnit.{base_types, context_entry, context_pointers, function_entries, function_entry, label_entry, label_locations, local_entry, local_name, local_tag, modules_entries, output_of, place_of_type, simulated_root, simulated_unit, type_place, unit_count, whole_intervals}
use Rattle.dwc_base.specs.ToldFiles.{type_of_local}
use Rattle.dwc_dwarf.specs.TreeLaws.{size_of_unit, goes_somewhere, values_of, HasAllTargets}
use Rattle.dwc_dwarf.specs.Trees.{Interval, Location, TreeValue, address, constant, flag, block, expression, line_table, ranges, nothing, Tree, entry, locations, text}
use Rattle.dwc_carried.specs.UnitPaths.{unit_path}
use Rattle.dwc_base.specs.declared.constants.TheConstants.{DW_AT_location, DW_AT_name, DW_AT_type, DW_TAG_variable}
use Rattle.dwc_base.specs.declared.translation.ValType.{ValType}
use Rattle.dwc_base.specs.declared.translation.ValType.TheVariants.{I32, I64, F32, F64, Other}
use Rattle.dwc_base.specs.declared.records.OutputFor.{OutputFor}
use Rattle.dwc_base.specs.declared.records.OutputFor.TheVariants.{Debugger, Default}
use Rattle.dwc_rules.proofs.ForestLaws.{Each, each_both}
use Rattle.dwc_carried.proofs.ForestTargets.{made-targets}
use Rattle.dwc_carried.proofs.SimulatedUnitLaws.{last-number, units-counted}

-- ---- what is there with more trees behind

-- a unit that has an entry has it with more units behind
size-more : (ts more : List Tree) (number place : ℕ) → place < size_of_unit ts number → place < size_of_unit (ts ++ more) number
size-more [] more number place less = absurd (omega (arith, less))
size-more (t ∷ ts) more zero place less = less
size-more (t ∷ ts) more (suc number) place less = size-more ts more number place less

goes-more : (ts more : List Tree) (v : TreeValue) → goes_somewhere ts v ≡ true → goes_somewhere (ts ++ more) v ≡ true
goes-more ts more (entry number place) h = lt-ltb place (size_of_unit (ts ++ more) number) (size-more ts more number place (ltb-true place (size_of_unit ts number) h))
goes-more ts more nothing h = h
goes-more ts more (address a) h = refl
goes-more ts more (constant form bits) h = refl
goes-more ts more (flag b) h = refl
goes-more ts more (block bytes) h = refl
goes-more ts more (expression bytes) h = refl
goes-more ts more (text bytes) h = refl
goes-more ts more line_table h = refl
goes-more ts more (ranges is) h = refl
goes-more ts more (locations ls) h = refl

-- both parts of a conjunction
left-of : (a b : Bool) → (a && b) ≡ true → a ≡ true
left-of true b h = refl
left-of false b h = h

right-of : (a b : Bool) → (a && b) ≡ true → b ≡ true
right-of true b h = h
right-of false true h = refl
right-of false false h = h

both-of : (a b : Bool) → a ≡ true → b ≡ true → (a && b) ≡ true
both-of a b h k = rw h k

-- what holds of all where one test does, where another does
all-so : {A : Type 0} (p q : A → Bool) → ((x : A) → p x ≡ true → q x ≡ true) → (xs : List A) → list_all p xs ≡ true → list_all q xs ≡ true
all-so p q more [] h = refl
all-so p q more (x ∷ xs) h = both-of (q x) (list_all q xs) (more x (left-of (p x) (list_all p xs) h)) (all-so p q more xs (right-of (p x) (list_all p xs) h))

all-append : {A : Type 0} (p : A → Bool) (xs ys : List A) → list_all p xs ≡ true → list_all p ys ≡ true → list_all p (xs ++ ys) ≡ true
all-append p [] ys h k = k
all-append p (x ∷ xs) ys h k = both-of (p x) (list_all p (xs ++ ys)) (left-of (p x) (list_all p xs) h) (all-append p xs ys (right-of (p x) (list_all p xs) h) k)

-- whether the references of a unit go somewhere
abbrev unit_goes : List Tree → Tree → Bool
unit_goes ts t = list_all (goes_somewhere ts) (values_of t)

-- ---- entries of the simulated unit

-- whether the references of an entry that says its places go somewhere
abbrev Goes : List Tree → Draft → Type 0
Goes ts d = list_all (goes_somewhere ts) (map (λ a. a.1) (settled_entry (λ (goal : Goal). None) d).attributes) ≡ true

-- whether a reference goes somewhere
abbrev GoesThere : List Tree → TreeValue → Type 0
GoesThere ts v = goes_somewhere ts v ≡ true

-- whether an entry is there
abbrev IsThere : List Tree → ℕ → ℕ → Type 0
IsThere ts number place = nat_lt place (size_of_unit ts number) ≡ true

all-go : (ts : List Tree) (ds : List Draft) → Each (Goes ts) ds → unit_goes ts (settled_unit (λ goal. None) ds) ≡ true
all-go ts [] h = refl
all-go ts (d ∷ ds) h = all-append (goes_somewhere ts) (map (λ a. a.1) (settled_entry (λ (goal : Goal). None) d).attributes) (values_of (settled_unit (λ goal. None) ds)) h.0 (all-go ts ds h.1)

module _ (ts : List Tree) where
  root-goes : (output : OutputFor) (path : List ℕ) (whole : List Interval) → Goes ts (simulated_root output path whole)
  root-goes Default path whole = refl
  root-goes Debugger path whole = refl

  types-go : Each (Goes ts) base_types
  types-go = (refl, (refl, (refl, (refl, tt))))

  function-goes : (m : Module) (d : DefinedFunction) → Goes ts (function_entry m d)
  function-goes m d = refl

  -- an entry below a function, with a name, a type and a list of locations
  variable-goes : (tag : ℕ) (name : List ℕ) (located : List Location) (type : TreeValue) → goes_somewhere ts type ≡ true
      → Goes ts (made 2 tag (named DW_AT_name (text name) ∷ (DW_AT_type, done type) ∷ named DW_AT_location (locations located) ∷ []))
  variable-goes tag name located type there = ap (λ b. b && true) there

  some-go : {A : Type 0} (f : A → Option Draft) → ((x : A) → IfSome (f x) (Goes ts)) → (xs : List A) → Each (Goes ts) (filter_map f xs)
  some-go f goes [] = tt
  some-go f goes (x ∷ xs) = go (f x) (goes x) (filter_map f xs) (some-go f goes xs)
    where
      go : (o : Option Draft) → IfSome o (Goes ts) → (ds : List Draft) → Each (Goes ts) ds → Each (Goes ts) (cons_option o ds)
      go None here ds behind = behind
      go (Some d) here ds behind = (here, behind)

  lists-go : {A : Type 0} (f : A → List Draft) → ((x : A) → Each (Goes ts) (f x)) → (xs : List A) → Each (Goes ts) (flat_map f xs)
  lists-go f goes [] = tt
  lists-go f goes (x ∷ xs) = each_both (Goes ts) (f x) (flat_map f xs) (goes x) (lists-go f goes xs)

  module _ (unit : ℕ) (types : (place : ℕ) → place < 5 → IsThere ts unit place) where
    type-there : (t : ValType) → IfSome (place_of_type t) (IsThere ts unit)
    type-there I32 = types 1 (lit< tt)
    type-there I64 = types 2 (lit< tt)
    type-there F32 = types 3 (lit< tt)
    type-there F64 = types 4 (lit< tt)
    type-there Other = tt

    local-there : (o : Option ValType) → IfSome (option_and_then place_of_type o) (IsThere ts unit)
    local-there None = tt
    local-there (Some t) = type-there t

    module _ (pointer : TreeValue) (m : Module) (context : goes_somewhere ts pointer ≡ true) (d : DefinedFunction) where
      local-goes : (n : ℕ) (o : Option ℕ) → IfSome o (IsThere ts unit) → IfSome (option_map (local_entry unit m d n) o) (Goes ts)
      local-goes n None there = tt
      local-goes n (Some place) there = variable-goes (local_tag m d n) (local_name m d n) (locations_or_none (label_locations m d.function n)) (entry unit place) there

      context-goes : Goes ts (context_entry pointer m d)
      context-goes = variable-goes DW_TAG_variable (codes "__vmctx") (locations_or_none (label_locations m d.function context_label)) pointer context

      label-goes : (label : ℕ) → IfSome (label_entry unit pointer m d label) (Goes ts)
      label-goes label = go (label == context_label)
        where
          go : (b : Bool) → IfSome (cond {A = Option Draft} b (Some (context_entry pointer m d)) (option_map (local_entry unit m d label) (type_place m d label))) (Goes ts)
          go true = context-goes
          go false = local-goes label (type_place m d label) (local-there (type_of_local (types_at m d) label))

      function-all-go : Each (Goes ts) (function_entries unit pointer m d)
      function-all-go = (function-goes m d, some-go (label_entry unit pointer m d) label-goes (m.told.labels d.function.number))

    modules-go : (translated : ℕ → Bool) (pointers : List TreeValue) (ms : List Module) → Each (GoesThere ts) pointers → Each (Goes ts) (modules_entries translated unit pointers ms)
    modules-go translated pointers [] contexts = tt
    modules-go translated [] (m ∷ ms) contexts = tt
    modules-go translated (pointer ∷ pointers) (m ∷ ms) contexts =
        each_both (Goes ts) (flat_map (function_entries unit pointer m) (simulated_functions translated m)) (modules_entries translated unit pointers ms)
        (lists-go (function_entries unit pointer m) (function-all-go pointer m contexts.0) (simulated_functions translated m))
        (modules-go translated pointers ms contexts.1)

  -- The simulated unit goes somewhere, where the types and the pointers to contexts are there.
  simulated-goes : (translated : ℕ → Bool) (path : List ℕ) (unit : ℕ) (pointers : List TreeValue) (ms : List Module) → ((place : ℕ) → place < 5 → IsThere ts unit place) → Each (GoesThere ts) pointers → unit_goes ts (settled_unit (λ goal. None) (simulated_unit translated path unit pointers ms)) ≡ true
  unfolding simulated_unit
  simulated-goes translated path unit pointers ms types contexts =
      all-go ts (simulated_root (output_of ms) path (flat_map (whole_intervals translated) ms) ∷ base_types ++ modules_entries translated unit pointers ms)
      (root-goes (output_of ms) path (flat_map (whole_intervals translated) ms), each_both (Goes ts) base_types (modules_entries translated unit pointers ms) types-go (modules-go unit types translated pointers ms contexts))

-- ---- what it refers to

-- the size of a unit behind others
size-behind : (before : List Tree) (t : Tree) (behind : List Tree) → size_of_unit (before ++ t ∷ behind) (length before) ≡ length t
size-behind [] t behind = refl
size-behind (b ∷ before) t behind = size-behind before t behind

-- the pointer to the context is in a module's synthetic unit
synthetic-there : (set_memory : List ℕ) (memory : Memory) → place_of_context_pointer memory < length (synthetic_unit set_memory memory)
unfolding synthetic_unit
synthetic-there set_memory no_memory = lit< tt
synthetic-there set_memory (defined offset) = lit< tt
synthetic-there set_memory (imported a b) = lit< tt

module _ (big_endian : Bool) where
  -- the trees of modules, of which the first unit has a number
  abbrev trees_of : ℕ → List Module → List Tree
  trees_of number ms = trees_from number (map (λ m. module_drafts big_endian m) ms)

  contexts-there : (before behind : List Tree) (synthetic : ℕ) (ms : List Module) → synthetic ≡ length before → Each (GoesThere (before ++ (trees_of synthetic ms ++ behind))) (context_pointers synthetic ms)
  contexts-there before behind synthetic [] is = tt
  contexts-there before behind synthetic (m ∷ ms) is =
      let drafts = module_drafts big_endian m in
      let here : List Tree = map (settled_unit (place_of_goal synthetic drafts)) (units_drafted drafts) in
      let rest : List Tree = trees_of (synthetic + length (units_drafted drafts)) ms in
      let counted : length here ≡ unit_count m = length-map (units_drafted drafts) (settled_unit (place_of_goal synthetic drafts)) ∙ units-counted big_endian m in
      let joined : (before ++ here) ++ (rest ++ behind) ≡ before ++ ((here ++ rest) ++ behind) = append_assoc before here (rest ++ behind) ∙ ap (λ ts. before ++ ts) (sym (append_assoc here rest behind)) in
      let next : synthetic + unit_count m ≡ length (before ++ here) = omega (arith, is, counted, length-append before here) in
      let tree : Tree = settled_unit (place_of_goal synthetic drafts) (synthetic_unit m.told.names.set_memory m.told.memory) in
      let others : List Tree = map (settled_unit (place_of_goal synthetic drafts)) drafts.carried in
      let place : ℕ = place_of_context_pointer m.told.memory in
      let size : size_of_unit (before ++ ((here ++ rest) ++ behind)) synthetic ≡ length (synthetic_unit m.told.names.set_memory m.told.memory) =
      ap (size_of_unit (before ++ ((here ++ rest) ++ behind))) is ∙ size-behind before tree ((others ++ rest) ++ behind) ∙ length-map (synthetic_unit m.told.names.set_memory m.told.memory) (settled_entry (place_of_goal synthetic drafts)) in (
        lt-ltb place (size_of_unit (before ++ ((here ++ rest) ++ behind)) synthetic) (subst (λ n. place < n) (sym size) (synthetic-there m.told.names.set_memory m.told.memory)),
        subst (λ ts. Each (GoesThere ts) (context_pointers (synthetic + unit_count m) ms)) joined
            (subst (λ n. Each (GoesThere ((before ++ here) ++ (trees_of n ms ++ behind))) (context_pointers (synthetic + unit_count m) ms)) (ap (λ k. synthetic + k) (sym (units-counted big_endian m)))
            (contexts-there (before ++ here) behind (synthetic + unit_count m) ms next)),
      )

-- the types are in the simulated unit
types-within : (translated : ℕ → Bool) (path : List ℕ) (unit : ℕ) (pointers : List TreeValue) (ms : List Module) (place : ℕ) → place < 5 → place < length (simulated_unit translated path unit pointers ms)
unfolding simulated_unit
types-within translated path unit pointers ms place less = omega (arith, less)

-- Every reference of the trees that are made of an input goes to an entry of these trees.
pub all-targets : (c : Compilation) → HasAllTargets (trees_made c)
unfolding forest
all-targets c = go (is_begun c.modules) c.modules (made-targets c)
  where
    -- the trees of modules with the simulated one behind them
    go : (translated : ℕ → Bool) (ms : List Module) → HasAllTargets (module_trees (record c { modules = ms }))
        → HasAllTargets (forest (map (module_drafts (is_big c.order)) ms) (simulated_drafts translated c.next_id ms))
    go translated [] h = h
    go translated (m ∷ ms) h =
        let ts : List Tree = trees_of (is_big c.order) 0 (m ∷ ms) in
        let path : List ℕ = unit_path c.next_id m in
        let unit : ℕ = sum_by unit_count (m ∷ ms) in
        let pointers : List TreeValue = context_pointers 0 (m ∷ ms) in
        let drafts : List Draft = simulated_unit translated path unit pointers (m ∷ ms) in
        let last : Tree = settled_unit (λ goal. None) drafts in
        let all : List Tree = ts ++ last ∷ [] in
        let before : list_all (unit_goes ts) ts ≡ true = subst (λ us. list_all (unit_goes us) us ≡ true) (append-nil ts) h in
        let number : unit ≡ length ts = sym (last-number (is_big c.order) 0 (m ∷ ms)) in
        let size : size_of_unit all unit ≡ length drafts =
        ap (size_of_unit all) number ∙ size-behind ts last [] ∙ length-map drafts (settled_entry (λ (goal : Goal). None)) in
        all-append (unit_goes all) ts (last ∷ [])
        (all-so (unit_goes ts) (unit_goes all) (λ t goes. all-so (goes_somewhere ts) (goes_somewhere all) (goes-more ts (last ∷ [])) (values_of t) goes) ts before)
        (both-of (unit_goes all last) true
        (simulated-goes all translated path unit pointers (m ∷ ms) (λ place less. lt-ltb place (size_of_unit all unit) (subst (λ n. place < n) (sym size) (types-within translated path unit pointers (m ∷ ms) place less))) (contexts-there (is_big c.order) [] (last ∷ []) 0 (m ∷ ms) refl))
        refl)
