-- What it means that an output leads to the contexts of an input: behind each subprogram with a scope in force stands a variable that says
-- where the context lies over that scope. (A law on the definitions of built expressions and of translation. DWARF 4 and 5, sections 2.6
-- and 4.1.)
use Rattle.std.specs.Prelude.{◌≡◌, ℕ, suc, List, [], ◌∷◌, map, true, Option, Some, IfSome, Contains, codes}
use Rattle.std.specs.List.{AllZip}
use Rattle.dwc_base.specs.declared.constants.TheConstants.{DW_AT_location, DW_AT_name, DW_TAG_subprogram, DW_TAG_variable}
use Rattle.dwc_dwarf.specs.Entries.{Entry}
use Rattle.dwc_rules.specs.Kept.{Placed}
use Rattle.dwc_native.specs.Functions.{Function}
use Rattle.dwc_rules.specs.Carried.{CarriedUnit, WantedUnit, synthetic_unit, carried_unit, unit_of_simulated}
use Rattle.dwc_dwarf.specs.Trees.{Location, text, locations, TreeEntry, Tree}
use Rattle.dwc_rules.specs.Drafts.{itself, Draft}
use Rattle.dwc_rules.specs.DraftForests.{is_made_of}
use Rattle.dwc_native.specs.Parts.{context_label}
use Rattle.dwc_native.specs.Placed.{Frame}
use Rattle.dwc_rules.specs.LocationRules.{ExpressionSource, in_force_at}
use Rattle.dwc_rules.specs.ScopesCarried.{value_of_entry}
use Rattle.dwc_carried.specs.LocationsCarried.{SaysWhere}
use Rattle.dwc_rules.specs.ModuleDrafts.{expressions_of}

-- An entry of an output is the variable of the context at a depth, and says where that lies over a scope.
pub record IsContext (fs : List Function) (frame : Option Frame) (depth : ℕ) (scope : List (ℕ × ℕ)) (out : TreeEntry) : Type 0 where
  pub below : out.depth ≡ depth
  pub tag : out.tag ≡ DW_TAG_variable
  pub name : value_of_entry DW_AT_name out ≡ Some (text (codes "__vmctx"))
  pub located : List Location
  pub lies : value_of_entry DW_AT_location out ≡ Some (locations located)
  pub says : SaysWhere fs frame scope (context_label ∷ []) (map (λ l. l.over) located)

-- the first of some entries is that variable
abbrev pub BeginWithContext : List Function → Option Frame → ℕ → List (ℕ × ℕ) → Tree → Type 0
BeginWithContext fs frame depth scope [] = ⊥
BeginWithContext fs frame depth scope (out ∷ outs) = IsContext fs frame depth scope out

-- Behind the entry of an output that is made of a subprogram stands the variable of the context, where a scope is in force.
abbrev pub CarriesContext : ExpressionSource → Placed → Tree → Type 0
CarriesContext c e behind = e.entry.tag ≡ DW_TAG_subprogram → IfSome (in_force_at c e).scope (λ scope. BeginWithContext c.functions (in_force_at c e).surroundings.frame (suc e.entry.depth) scope behind)

-- of the entries of a unit, drafted one by one, each has to do with what stands behind it
abbrev pub EachBehind : (Draft → Tree → Type 0) → List Draft → Tree → Type 0
EachBehind R [] [] = Unit {0}
EachBehind R [] (out ∷ outs) = ⊥
EachBehind R (d ∷ ds) [] = ⊥
EachBehind R (d ∷ ds) (out ∷ outs) = R d outs × EachBehind R ds outs

-- The entries of a unit of an output carry the contexts of the subprograms that they were made of.
abbrev pub UnitCarriesContexts : (CarriedUnit → List Draft) → CarriedUnit → Tree → Type 0
UnitCarriesContexts drafted u tree =
    EachBehind (λ d behind. (e : Entry) → Contains u.unit.entries e → is_made_of e.offset itself d ≡ true → CarriesContext (expressions_of u.module_of u.unit) (record { unit = u.unit.header.offset; entry = e }) behind) (drafted u) tree

-- a module's synthetic unit has none; those of the simulated one are among its locations
abbrev pub UnitHasContexts : (CarriedUnit → List Draft) → WantedUnit → Tree → Type 0
UnitHasContexts drafted synthetic_unit tree = Unit {0}
UnitHasContexts drafted (carried_unit u) tree = UnitCarriesContexts drafted u tree
UnitHasContexts drafted (unit_of_simulated name translated ms) tree = Unit {0}

-- The contexts of an input are carried by the units of an output, each of which is to be one.
abbrev pub ContextsCarried : (CarriedUnit → List Draft) → List WantedUnit → List Tree → Type 0
ContextsCarried drafted us trees = AllZip (UnitHasContexts drafted) us trees
