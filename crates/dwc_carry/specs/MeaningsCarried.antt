-- What the expressions of an output mean: what those of the input mean that they were made of. (A law on the definitions.)
use Rattle.std.specs.Prelude.{◌≡◌, ◌⊎◌, ℕ, ◌<◌, ◌^◌, List, [], ◌∷◌, true, false, Some, Ok, All, Contains}
use Rattle.std.specs.List.{AllZip}
use Rattle.dwc_base.specs.declared.constants.TheConstants.{DW_AT_frame_base}
use Rattle.dwc_base.specs.Outputs.{OutputSection}
use Rattle.dwc_dwarf.specs.Values.{Value, expression}
use Rattle.dwc_dwarf.specs.Entries.{Entry}
use Rattle.dwc_dwarf.specs.Trees as Trees
use Rattle.dwc_dwarf.specs.Trees.{Location, TreeValue, locations, TreeEntry, Tree}
use Rattle.dwc_native.specs.Runs.{interval_of}
use Rattle.dwc_native.specs.Compiled.{Place, ToldModule}
use Rattle.dwc_native.specs.Parts.{CompiledParts, compiled, is_simple}
use Rattle.dwc_native.specs.Placed.{last_place, is_between, NativeRange, scope_ranges, is_byte_of}
use Rattle.dwc_native.specs.BuiltExpressions.{Surroundings, IsBoundedPlace, IsBoundedMemory}
use Rattle.dwc_rules.specs.Kept.{Placed}
use Rattle.dwc_rules.specs.Carried.{Compilation, CarriedUnit, WantedUnit, synthetic_unit, carried_unit, unit_of_simulated}
use Rattle.dwc_rules.specs.Drafts.{itself, Draft}
use Rattle.dwc_rules.specs.DraftForests.{is_made_of}
use Rattle.dwc_rules.specs.LocationAttributes.{ListedExpression, output_frame_base}
use Rattle.dwc_rules.specs.LocationRules.{ExpressionSource, in_force_at, listed_by}
use Rattle.dwc_rules.specs.ModuleDrafts.{expressions_of}
use Rattle.dwc_rules.specs.Wrappers.{is_wrapped}
use Rattle.dwc_output.specs.TreeReading.{CarriesTrees}
use Rattle.dwc_carried.specs.Forests.{wanted_units, is_big, drafts_of, forest}
use Rattle.dwc_expr.specs.BuiltMeanings.{MeansOn, ranges_meant}

-- ---- the expression of the input

-- Parts are what an expression compiles to, on the frame base in force at an entry, that the entry has under a name.
pub record IsOfExpression (c : ExpressionSource) (e : Placed) (name : ℕ) (x : CompiledParts) : Type 0 where
  pub bytes : List ℕ
  pub given : Contains e.entry.attributes (name, expression bytes)
  pub compiles : compiled (in_force_at c e).base bytes ≡ Ok (Some x)

-- Or they are what one compiles to that the location list which the entry has under a name gives for an interval.
pub record IsOfList (c : ExpressionSource) (e : Placed) (name : ℕ) (interval : ℕ × ℕ) (x : CompiledParts) : Type 0 where
  pub value : Value
  pub given : Contains e.entry.attributes (name, value)
  pub listed : List ListedExpression
  pub are : listed_by c e value ≡ Ok listed
  pub item : ListedExpression
  pub among : Contains listed item
  pub over : interval ≡ (item.start, item.end)
  pub compiles : compiled (in_force_at c e).base item.given.bytes ≡ Ok (Some x)

-- Either, with the scope over which it holds: that in force at the entry, or the interval.
abbrev pub IsOf : ExpressionSource → Placed → ℕ → List (ℕ × ℕ) → CompiledParts → Type 0
IsOf c e name scope x = (IsOfExpression c e name x × ((in_force_at c e).scope ≡ Some scope)) ⊎ ((interval : ℕ × ℕ) × (scope ≡ interval ∷ []) × IsOfList c e name interval x)

-- ---- what a value of the output means

-- A location under a name stands for one of the ranges on which an expression of the entry becomes bytes, and these mean there what the
-- expression does.
pub record LocationMeans (c : ExpressionSource) (e : Placed) (name : ℕ) (l : Location) : Type 0 where
  pub scope : List (ℕ × ℕ)
  pub parts : CompiledParts
  pub stems : IsOf c e name scope parts
  pub range : NativeRange
  pub among : Contains (ranges_meant (in_force_at c e).surroundings scope parts) range
  pub over : l.over ≡ interval_of range.function (range.start, range.end)
  pub means : MeansOn (in_force_at c e).surroundings parts range l.bytes

-- the same on a range that has a byte
pub record MeansAtByte (s : Surroundings) (x : CompiledParts) (bytes : List ℕ) (function byte : ℕ) : Type 0 where
  pub range : NativeRange
  pub of_function : range.function ≡ function
  pub has : is_between range.start range.end byte ≡ true
  pub means : MeansOn s x range bytes

-- whether parts are meant at a byte: at each where they are bytes alone, and else at those of the scope in force
abbrev pub IsMeantAt : ExpressionSource → Placed → CompiledParts → ℕ → ℕ → Type 0
IsMeantAt c e x function byte =
    (is_simple x ≡ true) ⊎ ((scope : List (ℕ × ℕ)) × ((in_force_at c e).scope ≡ Some scope) × (is_byte_of (scope_ranges (in_force_at c e).surroundings.functions scope) function byte ≡ true))

-- One expression under a name means at each such byte what an expression of the entry does.
pub record ExpressionMeans (c : ExpressionSource) (e : Placed) (name : ℕ) (bytes : List ℕ) : Type 0 where
  pub parts : CompiledParts
  pub stems : IsOfExpression c e name parts
  pub means : (function byte : ℕ) → IsMeantAt c e parts function byte → MeansAtByte (in_force_at c e).surroundings parts bytes function byte

-- What a value under a name means. A frame base is the canonical frame address, whatever it was.
abbrev pub ValueMeans : ExpressionSource → Placed → ℕ → TreeValue → Type 0
ValueMeans c e name (locations ls) = (l : Location) → Contains ls l → LocationMeans c e name l
ValueMeans c e name (Trees.expression bytes) = ((name ≡ DW_AT_frame_base) × (bytes ≡ output_frame_base)) ⊎ ExpressionMeans c e name bytes
ValueMeans c e name _ = Unit {0}

-- ---- entries and units

abbrev pub EntryMeans : ExpressionSource → Placed → TreeEntry → Type 0
EntryMeans c e out = (name : ℕ) (v : TreeValue) → Contains out.attributes (name, v) → ValueMeans c e name v

-- The entries of a unit of an output that were made of those of a unit mean what these do.
abbrev pub UnitMeans : (CarriedUnit → List Draft) → WantedUnit → Tree → Type 0
UnitMeans drafted synthetic_unit tree = Unit {0}
UnitMeans drafted (unit_of_simulated name translated ms) tree = Unit {0}
UnitMeans drafted (carried_unit u) tree =
    AllZip
    (λ d out. (e : Entry) → Contains u.unit.entries e → is_made_of e.offset itself d ≡ true → is_wrapped u.module_of.told.output (record { unit = u.unit.header.offset; entry = e }) ≡ false → EntryMeans (expressions_of u.module_of u.unit) (record { unit = u.unit.header.offset; entry = e }) out)
    (drafted u) tree

-- The units of an output, each of which is to be one, mean what the input does.
abbrev pub MeaningsCarried : Compilation → List Tree → Type 0
MeaningsCarried c trees = AllZip (UnitMeans (drafts_of (is_big c.order))) (wanted_units c) trees

-- What is told of a module is bounded: the DWARF numbers of registers fit 16 bits, frame offsets 64, and offsets in the context 32.
pub record IsToldBounded (t : ToldModule) : Type 0 where
  pub registers : (r number : ℕ) → t.register r ≡ Some number → number < 2 ^ 16
  pub places : (function label byte : ℕ) (place : Place) → last_place (t.values function label) byte ≡ Some place → IsBoundedPlace place
  pub memory : IsBoundedMemory t.memory

-- The law: where what is told of its modules is bounded, the trees of an input mean what it does.
abbrev pub MeaningsAreCarried : Type 0
MeaningsAreCarried = (c : Compilation) (trees : List Tree) → All (λ m. IsToldBounded m.told) c.modules → forest c ≡ Ok trees → MeaningsCarried c trees

-- The trees that the sections of an output say mean what the input does, where what is told of its modules is bounded.
pub record OutputMeans (c : Compilation) (sections : List OutputSection) : Type 0 where
  pub said : List Tree
  pub trees : CarriesTrees c.order said sections
  pub means : All (λ m. IsToldBounded m.told) c.modules → MeaningsCarried c said
