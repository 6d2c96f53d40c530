-- What is in force at an entry by itself and its ancestors: a scope, the function whose frame is meant, and a frame base.
-- (DWARF 4 and 5, sections 2.6 and 3.3.5; this project's own rules.)
use Rattle.std.specs.Prelude.{◌≡◌, ℕ, zero, suc, ◌≤◌, ◌==◌, ℤ, pos, ◌<ℤ◌, int_le, List, [], ◌∷◌, drop, reverse, ◌&&◌, ◌||◌, if◌then◌else◌, Option, Some, None, option_map, option_and_then, is_some, All, Bool, Contains, slice_get}
use Rattle.std.specs.List.{filter, filter_map}
use Rattle.dwc_base.specs.declared.records.OutputFor.TheVariants.{Default, Debugger}
use Rattle.dwc_dwarf.specs.Values.{Value, expression}
use Rattle.dwc_dwarf.specs.Entries.{Entry, attribute}
use Rattle.dwc_native.specs.Functions.{Function}
use Rattle.dwc_rules.specs.Kept.{Placed, parent_of}
use Rattle.dwc_base.specs.Listing.{first_of}
use Rattle.dwc_base.specs.Wasm.{last_of}
use Rattle.dwc_base.specs.declared.constants.TheConstants.{DW_AT_frame_base, DW_AT_high_pc, DW_AT_ranges, DW_TAG_subprogram}
use Rattle.dwc_dwarf.specs.RawLists.{ListSource}
use Rattle.dwc_rules.specs.RangeAttributes.{begun_function, Extent, intervals, position, nowhere, extent}
use Rattle.dwc_native.specs.ScopesKept.{wasm_interval}

-- ---- lineages

-- an entry and its ancestors, the nearest first, as many as said
abbrev pub lineage_of : ℕ → List Placed → Option Placed → List Entry
lineage_of zero es e = []
lineage_of (suc most) es None = []
lineage_of (suc most) es (Some e) = e.entry ∷ lineage_of most es (parent_of es e)

-- An entry and its ancestors below the root, the nearest first. The root gives nothing and has nothing.
unfoldable pub lineage : List Placed → Placed → List Entry
lineage es e = lineage_of e.entry.depth es (Some e)

-- what the nearest of a lineage gives that gives something
abbrev pub nearest : {A : Type 0} → (Entry → Option A) → List Entry → Option A
nearest gives es = first_of (filter_map gives es)

-- ---- scopes and frames

-- the intervals of wasm offsets that an extent is; none for a position
abbrev pub scope_of_extent : Extent → List (ℕ × ℕ)
scope_of_extent (intervals is) = filter_map wasm_interval is
scope_of_extent (position a) = []
scope_of_extent nowhere = []

-- where the source range of a function ends; for a debugger, to whom the end is left out, behind its last source
abbrev pub source_end : Function → ℕ
source_end f = elim f.output [ Default ↦ f.end | Debugger ↦ suc f.end ]

-- the source range of a function
abbrev pub source_range : Function → List (ℕ × ℕ)
source_range f = (f.start, source_end f) ∷ []

-- The scope that an entry gives: a subprogram that begins in a function with a symbol, that function's source range; an
-- entry of another tag with a high_pc or ranges, its intervals, which may be none.
abbrev pub scope_given : ListSource → List Function → Entry → Option (List (ℕ × ℕ))
scope_given s fs e =
    if e.tag == DW_TAG_subprogram then option_map source_range (begun_function s fs e)
    else (if is_some (attribute DW_AT_high_pc e) || is_some (attribute DW_AT_ranges e) then Some (scope_of_extent (extent s e)) else None)

-- the scope in force at the first entry of a lineage
unfoldable pub scope_in_force : ListSource → List Function → List Entry → Option (List (ℕ × ℕ))
scope_in_force s fs es = nearest (scope_given s fs) es

-- the function whose frame is in force there: that of the nearest subprogram that begins in one
unfoldable pub frame_in_force : ListSource → List Function → List Entry → Option Function
frame_in_force s fs es = nearest (begun_function s fs) es

-- ---- frame bases

-- what an expression becomes, where a value is one and it is supported
abbrev pub compiled_base : {X : Type 0} → (List ℕ → Option X) → Option Value → Option X
compiled_base compile (Some (expression bytes)) = compile bytes
compiled_base compile _ = None

-- the frame base that an entry gives: its frame_base, where that is an expression that is supported, compiled without a
-- frame base
abbrev pub base_given : {X : Type 0} → (List ℕ → Option X) → Entry → Option X
base_given compile e = compiled_base compile (attribute DW_AT_frame_base e)

-- the frame base in force at the first entry of a lineage
abbrev pub base_in_force : {X : Type 0} → (List ℕ → Option X) → List Entry → Option X
base_in_force compile es = nearest (base_given compile) es

-- ---- a stack of what is given

-- what an entry gave, with its depth
abbrev pub Given : Type 0 → Type 0
Given X = ℤ × X

-- What a stack holds of a lineage: what each of its entries gives, with its depth, the nearest last.
abbrev pub given_by : {X : Type 0} → (Entry → Option X) → List Entry → List (Given X)
given_by gives es = reverse (filter_map (λ e. option_map (λ x. (pos e.depth, x)) (gives e)) es)

-- an item of a stack under those that are left of it: with none left, it is dropped where it is at or above a depth
abbrev pub left_under : {X : Type 0} → ℤ → Given X → List (Given X) → List (Given X)
left_under depth g [] = if int_le depth g.0 then [] else g ∷ []
left_under depth g (h ∷ hs) = g ∷ h ∷ hs

-- A stack as it is left for a depth: from its top, which is its end, what is at or above the depth is dropped.
abbrev pub left_for : {X : Type 0} → ℤ → List (Given X) → List (Given X)
left_for depth [] = []
left_for depth (g ∷ gs) = left_under depth g (left_for depth gs)

-- what is on top of a stack, and what is if it has a depth
abbrev pub top_of : {X : Type 0} → List (Given X) → Option X
top_of stack = option_map (λ g. g.1) (last_of stack)

abbrev pub top_at : {X : Type 0} → ℤ → List (Given X) → Option X
top_at depth stack = option_and_then (λ g. if int_le depth g.0 && int_le g.0 depth then Some g.1 else None) (last_of stack)

-- the depths of a stack rise from its begin to its top
abbrev pub DepthsRise : {X : Type 0} → List (Given X) → Type 0
DepthsRise [] = Unit {0}
DepthsRise (g ∷ gs) = All (λ h. g.0 <ℤ h.0) gs × DepthsRise gs

-- The law of a stack: where its depths rise, what is left for a depth is all below it, and rises.
abbrev pub LeftBelow : {X : Type 0} → List (Given X) → Type 0
LeftBelow stack = DepthsRise stack → (depth : ℤ) → All (λ g. g.0 <ℤ depth) (left_for depth stack) × DepthsRise (left_for depth stack)

-- The laws of lineages. The top of the stack of a lineage is what is in force; and where an entry follows another in a
-- walk over entries that hold their parents, the stack of the first, left for the depth of the second, is that of the second's ancestors.
abbrev pub TopInForce : {X : Type 0} → (Entry → Option X) → List Entry → Type 0
TopInForce gives es = top_of (given_by gives es) ≡ nearest gives es

-- whether entries hold the parents of all of them
abbrev pub HoldParents : List Placed → List Placed → Type 0
HoldParents es kept = (e p : Placed) → Contains kept e → parent_of es e ≡ Some p → Contains kept p

-- the entries of a walk are some of all, in their order, with their parents
pub record IsWalk (es kept : List Placed) : Type 0 where
  pub test : Placed → Bool
  pub are : kept ≡ filter test es
  pub parents : HoldParents es kept

-- the offsets of entries rise from one on
abbrev pub Rises : ℕ → List Placed → Type 0
Rises low [] = Unit {0}
Rises low (p ∷ ps) = (low ≤ p.entry.offset) × Rises (suc p.entry.offset) ps

-- each entry is at most one deeper than the one before it, and the first is as deep as said or less
abbrev pub Steps : ℕ → List Placed → Type 0
Steps most [] = Unit {0}
Steps most (p ∷ ps) = (p.entry.depth ≤ most) × Steps (suc p.entry.depth) ps

-- the stack follows a walk over entries that stand in file order
abbrev pub StackFollows : {X : Type 0} → (Entry → Option X) → List Placed → List Placed → Type 0
StackFollows gives es kept =
    Rises 0 es → Steps 0 es → (i : ℕ) (before e : Placed) → IsWalk es kept → slice_get kept i ≡ Some before → slice_get kept (suc i) ≡ Some e →
    left_for (pos e.entry.depth) (given_by gives (lineage es before)) ≡ given_by gives (drop 1 (lineage es e))
