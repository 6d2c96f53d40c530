-- What is in force at an entry, as it is kept on stacks in a walk over entries in file order.
use Rattle.std.specs.Prelude.{◌≡◌, ℕ, suc, ◌==◌, pos, List, [], ◌∷◌, ◌++◌, map, take, slice_get, if◌then◌else◌, Option, Some, None, option_map, option_to_list}
use Rattle.dwc_dwarf.specs.Entries.{Entry}
use Rattle.dwc_base.specs.declared.constants.TheConstants.{DW_TAG_subprogram}
use Rattle.dwc_native.specs.Functions.{Function}
use Rattle.dwc_rules.specs.Kept.{Placed}
use Rattle.dwc_rules.specs.LocationAttributes.{base_of_expression}
use Rattle.dwc_native.specs.Parts.{CompiledParts}
use Rattle.dwc_rules.specs.RangeAttributes.{begun_function}
use Rattle.dwc_dwarf.specs.RawLists.{ListSource}
use Rattle.dwc_rules.specs.Scopes.{Given, IsWalk, Rises, Steps, base_given, base_in_force, frame_in_force, left_for, lineage, scope_given, scope_in_force, top_at, top_of}

-- the scopes, the functions by their numbers, and the frame bases that entries gave
pub record Stacks : Type 0 where
  pub scopes : List (Given (List (ℕ × ℕ)))
  pub frames : List (Given ℕ)
  pub bases : List (Given CompiledParts)

abbrev pub no_stacks : Stacks
no_stacks = record { scopes = []; frames = []; bases = [] }

-- the stacks, left for a depth
abbrev pub stacks_left : ℕ → Stacks → Stacks
stacks_left depth old = record { scopes = left_for (pos depth) old.scopes; frames = left_for (pos depth) old.frames; bases = left_for (pos depth) old.bases }

-- a stack with what an entry of a depth gives on top, if it gives something
abbrev pub given_on : {X : Type 0} → ℕ → Option X → List (Given X) → List (Given X)
given_on depth given stack = stack ++ option_to_list (option_map (λ x. (pos depth, x)) given)

-- the stacks, with what an entry of a depth gives on top
abbrev pub stacks_with : ℕ → Option (List (ℕ × ℕ)) → Option ℕ → Option CompiledParts → Stacks → Stacks
stacks_with depth scope frame base old = record { scopes = given_on depth scope old.scopes; frames = given_on depth frame old.frames; bases = given_on depth base old.bases }

-- the number of the function that an entry begins in, if it is a subprogram that begins in one
abbrev pub frame_given : ListSource → List Function → Entry → Option ℕ
frame_given s fs e = option_map (λ f. f.number) (begun_function s fs e)

-- a stack with what an entry of a depth gives on top, but the root, which has depth 0, gives nothing
abbrev pub with_given : {X : Type 0} → ℕ → Option X → List (Given X) → List (Given X)
with_given depth given stack = if depth == 0 then stack else given_on depth given stack

-- A stack behind an entry: left for the depth of the entry, with what that gives on top.
abbrev pub entered : {X : Type 0} → (Entry → Option X) → Entry → List (Given X) → List (Given X)
entered gives e stack = with_given e.depth (gives e) (left_for (pos e.depth) stack)

-- the stacks behind an entry
abbrev pub with_entry : ListSource → List Function → Entry → Stacks → Stacks
with_entry s fs e old = record {
  scopes = entered (scope_given s fs) e old.scopes;
  frames = entered (frame_given s fs) e old.frames;
  bases = entered (base_given base_of_expression) e old.bases;
}

-- the scope on top of the stacks, if an entry that is no subprogram is of its depth
abbrev pub own_scope : Entry → Stacks → Option (List (ℕ × ℕ))
own_scope e stacks = if e.tag == DW_TAG_subprogram then None else top_at (pos e.depth) stacks.scopes

-- A scope on top of the stacks that is of the depth of an entry is what the entry gives.
abbrev pub HasOwnScope : ListSource → List Function → Entry → Stacks → Type 0
HasOwnScope s fs e stacks = (scope : List (ℕ × ℕ)) → top_at (pos e.depth) stacks.scopes ≡ Some scope → scope_given s fs e ≡ Some scope

-- and behind some, one after another
abbrev pub with_entries : ListSource → List Function → List Entry → Stacks → Stacks
with_entries s fs [] old = old
with_entries s fs (e ∷ es) old = with_entries s fs es (with_entry s fs e old)

-- What is on top of the stacks is in force at an entry of a module.
pub record AreInForce (s : ListSource) (fs : List Function) (es : List Placed) (e : Placed) (stacks : Stacks) : Type 0 where
  pub scope : top_of stacks.scopes ≡ scope_in_force s fs (lineage es e)
  pub frame : top_of stacks.frames ≡ option_map (λ f. f.number) (frame_in_force s fs (lineage es e))
  pub base : top_of stacks.bases ≡ base_in_force base_of_expression (lineage es e)

-- Entries are some of a module, in their order and with their parents; those of the module stand in file order, none of them more than
-- one deeper than the one before it.
pub record AreWalked (es kept : List Placed) : Type 0 where
  pub rises : Rises 0 es
  pub steps : Steps 0 es
  pub walk : IsWalk es kept

-- The law of walks: behind each of some entries of a module that hold their parents, entered in file order, what is on top of the
-- stacks is in force at that entry.
abbrev pub WalkIsInForce : ListSource → List Function → List Placed → List Placed → Type 0
WalkIsInForce s fs es kept =
    Rises 0 es → Steps 0 es → IsWalk es kept → (i : ℕ) (e : Placed) → slice_get kept i ≡ Some e →
    AreInForce s fs es e (with_entries s fs (map (λ p. p.entry) (take (suc i) kept)) no_stacks)
