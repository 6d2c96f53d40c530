-- A unit of the output while it is made of the kept entries of a unit, one after another in file order.
use Rattle.std.specs.Prelude.{◌≡◌, ℕ, suc, ◌+◌, ◌<◌, List, [], ◌∷◌, ◌++◌, length, All, true, if◌then◌else◌, Option, Some, Result, Ok, Err}
use Rattle.dwc_base.specs.declared.constants.TheConstants.{DW_TAG_compile_unit}
use Rattle.dwc_base.specs.declared.records.OutputFor.{OutputFor}
use Rattle.dwc_dwarf.specs.Entries.{Entry}
use Rattle.dwc_rules.specs.Kept.{Placed}
use Rattle.dwc_dwarf.specs.Lists.{list_source}
use Rattle.dwc_rules.specs.Clones.{UnitSource, entry_refusals}
use Rattle.dwc_rules.specs.CarriedDrafts.{entry_made}
use Rattle.dwc_rules.specs.ContextVariable.{context_entries}
use Rattle.dwc_rules.specs.Drafts.{Draft, Goal, Role, pointer_to_target, pointer_to_wrapper, reference_to_target}
use Rattle.dwc_rules.specs.DraftForests.{settled_unit}
use Rattle.dwc_rules.specs.EntryRules.{wrappers_of}
use Rattle.dwc_rules.specs.Wrappers.{closing, entries_made, is_wrapped}
use Rattle.dwc_isa.specs.Registers.{Registers}
use Rattle.dwc_unit.specs.declared.units.UnitEntryId.{UnitEntryId}
use Rattle.dwc_unit.specs.GivenLines.{GivenLines}
use Rattle.dwc_unit.specs.GivenUnits.{GivenUnit, place_of}
use Rattle.dwc_unit.specs.UsedTexts.{texts_of_attributes}
use Rattle.dwc_unit.specs.AddedInOrder.{AreInOrder, tree_meant, with_last}
use Rattle.dwc_unit.specs.Renumbered.{LeadsToEntries}
use Rattle.dwc_source.specs.declared.error.CloneError.{CloneError}
use Rattle.dwc_source.specs.declared.source.CloneSource.{CloneSource}
use Rattle.dwc_types.specs.declared.type_name.TypeNames.{TypeNames}
use Rattle.dwc_clone.specs.declared.wrapper.OpenWrapper.{OpenWrapper}
use Rattle.dwc_clone.specs.declared.wrapper.WrapperTypes.{WrapperTypes}
use Rattle.dwc_source.specs.Errors.{refusal_told}
use Rattle.dwc_source.specs.MadeValues.{Grows}
use Rattle.dwc_clone.specs.ClonedUnits.{AreNumbered, TellsFirst, clone_drafts, clone_refusals, draft_depths, goal_number, placed_in}
use Rattle.dwc_extents.specs.CodeSources.{clone_rules, source_with}
use Rattle.dwc_clone.specs.ClonedEntries.{ArePath, CanFollow, IsLastAt}
use Rattle.dwc_source.specs.Sources.{placed_entry}
use Rattle.dwc_types.specs.KnownNames.{KnowsNames}
use Rattle.dwc_extents.specs.Lineages.{Stacks, no_stacks, with_entries}
use Rattle.dwc_source.specs.OutputPlaces as output
use Rattle.dwc_clone.specs.ParameterContexts.{Contexts, contexts_behind}
use Rattle.dwc_clone.specs.WrappedEntries.{target_id}

-- ---- drafts

-- A unit is made of drafts, in file order, under some numbers, where goals are at some; the texts that it names are those of a table, and
-- its numbers lead to its entries.
pub record IsDrafted (goals : Goal → Option (ℕ × ℕ)) (number : ℕ) (texts : List (List ℕ)) (ds : List Draft) (u : GivenUnit) : Type 0 where
  pub order : AreInOrder (draft_depths ds) u.additions
  pub leads : LeadsToEntries u
  pub numbers : List ℕ
  pub numbered : AreNumbered goals number ds numbers u
  pub says : tree_meant texts number (draft_depths ds) u.additions ≡ settled_unit goals ds
  pub names : All (λ a. All (λ n. n < length texts) (texts_of_attributes a.attributes)) u.additions

-- ---- wrappers

-- The types behind the wrapper of an entry have the numbers of their roles.
pub record HasRoles (roles : ℕ → Role → Option ℕ) (offset : ℕ) (types : WrapperTypes) : Type 0 where
  pub to_wrapper : roles offset pointer_to_wrapper ≡ Some types.to_wrapper.index
  pub reference : roles offset reference_to_target ≡ Some types.reference.index
  pub pointer : roles offset pointer_to_target ≡ Some types.pointer.index

-- A wrapper that is open is that of an entry, and its parent is the last entry of its depth.
pub record IsOpen (c : CloneSource) (number : ℕ) (roles : ℕ → Role → Option ℕ) (ds : List Draft) (u : GivenUnit) (e : Placed) (w : OpenWrapper) : Type 0 where
  pub own : e.unit ≡ c.unit.now.header.offset
  pub depth : w.depth ≡ e.entry.depth
  pub above : ℕ
  pub deep : e.entry.depth ≡ suc above
  pub parent : IsLastAt (draft_depths ds) above u w.parent
  pub target : w.target ≡ target_id c e
  pub itself_at : output.place_of c.places.now e.entry.offset ≡ Some (number, w.wrapper.index)
  pub has : HasRoles roles e.entry.offset w.types

-- Wrappers are those of entries, the innermost first, each at a depth below a bound and above that of the one before.
abbrev pub AreOpen : CloneSource → ℕ → (ℕ → Role → Option ℕ) → List Draft → GivenUnit → ℕ → List Placed → List OpenWrapper → Type 0
AreOpen c number roles ds u bound [] [] = Unit {0}
AreOpen c number roles ds u bound [] (w ∷ ws) = ⊥
AreOpen c number roles ds u bound (e ∷ es) [] = ⊥
AreOpen c number roles ds u bound (e ∷ es) (w ∷ ws) = (e.entry.depth < bound) × IsOpen c number roles ds u e w × AreOpen c number roles ds u e.entry.depth es ws

-- ---- numbers

-- so many numbers more an entry takes than that which was reserved for it: those of the types and the other entries of a wrapper, or that
-- of the variable of the context
abbrev pub numbers_taken : Registers → CloneSource → UnitSource → Placed → ℕ
numbers_taken registers c s p = if is_wrapped c.module.output_for p then 11 else length (context_entries (source_with registers c s) p)

-- the types of an entry, if it is wrapped for an output, have three numbers from one on
abbrev pub TakesRoles : OutputFor → (ℕ → Role → Option ℕ) → ℕ → Placed → Type 0
TakesRoles output roles first p = is_wrapped output p ≡ true → (roles p.entry.offset pointer_to_wrapper ≡ Some first) × (roles p.entry.offset reference_to_target ≡ Some (suc first)) × (roles p.entry.offset pointer_to_target ≡ Some (suc (suc first)))

-- and so of some, of which the first takes numbers from one on
abbrev pub AreRoles : Registers → CloneSource → UnitSource → (ℕ → Role → Option ℕ) → ℕ → List Placed → Type 0
AreRoles registers c s roles first [] = Unit {0}
AreRoles registers c s roles first (p ∷ ps) = TakesRoles c.module.output_for roles first p × AreRoles registers c s roles (first + numbers_taken registers c s p) ps

-- ---- so far

-- what the entries that are not made yet become behind wrappers that are open
abbrev pub drafts_left : Registers → CloneSource → UnitSource → List Placed → List Entry → List Draft
drafts_left registers c s stack left =
    closing (wrappers_of (source_with registers c s)) stack (entries_made (wrappers_of (source_with registers c s)) (entry_made (source_with registers c s) s c.big_endian) (placed_in c.unit.now.header.offset left))

-- A unit is made of the first of some entries: what is made, and what is left to be made, is what all become.
pub record AreBuilt (registers : Registers) (c : CloneSource) (number : ℕ) (s : UnitSource) (roles : ℕ → Role → Option ℕ) (all left : List Entry) (texts : List (List ℕ)) (begun u : GivenUnit) (parents : List UnitEntryId) (wrappers : List OpenWrapper) : Type 0 where
  pub ds : List Draft
  pub drafted : IsDrafted (goal_number c number roles) number texts ds u
  pub stack : List Placed
  pub opens : AreOpen c number roles ds u (length parents) stack wrappers
  pub path : ArePath (draft_depths ds) 0 u parents
  pub some : 0 < length parents
  pub whole : ds ++ drafts_left registers c s stack left ≡ clone_drafts registers c s all
  pub version : u.version ≡ begun.version
  pub size : u.address_size ≡ begun.address_size
  pub lines : u.lines ≡ begun.lines

-- a unit without entries
abbrev pub rootless : ℕ → ℕ → GivenLines → List (Option ℕ) → GivenUnit
rootless version size lines places = record { version = version; address_size = size; lines = lines; places = places; additions = [] }

-- A unit has a root alone, with number 0; nothing is made yet.
pub record IsBegun (begun u : GivenUnit) (old texts : List (List ℕ)) (parents : List UnitEntryId) (wrappers : List OpenWrapper) : Type 0 where
  pub root : u ≡ with_last (record { parent = 0; tag = DW_TAG_compile_unit; attributes = [] }) (rootless begun.version begun.address_size begun.lines u.places)
  pub first : place_of 0 u.places ≡ Some 0
  pub leads : LeadsToEntries u
  pub texts_are : texts ≡ old
  pub parents_are : parents ≡ []
  pub wrappers_are : wrappers ≡ []

abbrev pub BuiltSoFar : Registers → CloneSource → ℕ → UnitSource → (ℕ → Role → Option ℕ) → List Entry → List Entry → List (List ℕ) → List (List ℕ) → GivenUnit → GivenUnit → List UnitEntryId → List OpenWrapper → Type 0
BuiltSoFar registers c number s roles [] left old texts begun u parents wrappers = IsBegun begun u old texts parents wrappers
BuiltSoFar registers c number s roles (e ∷ es) left old texts begun u parents wrappers = AreBuilt registers c number s roles ((e ∷ es) ++ left) left texts begun u parents wrappers

-- Some entries of a unit are cloned, others are left; of what was cloned is known what the walk holds: what is in force, what functions
-- tell of their parameters, and names of types.
pub record AreClonedSoFar (registers : Registers) (c : CloneSource) (number : ℕ) (s : UnitSource) (roles : ℕ → Role → Option ℕ) (es left : List Entry) (old texts : List (List ℕ)) (begun u : GivenUnit) (parents : List UnitEntryId) (wrappers : List OpenWrapper) (lineage : Stacks) (contexts : Contexts) (names : TypeNames) : Type 0 where
  pub built : BuiltSoFar registers c number s roles es left old texts begun u parents wrappers
  pub follow : CanFollow parents left
  pub grows : Grows old texts
  pub accepted : clone_refusals registers c s es ≡ []
  pub numbers : AreRoles registers c s roles (length u.places) (placed_in c.unit.now.header.offset left)
  pub entered : lineage ≡ with_entries (list_source c.unit.now.sections c.unit.now.header) c.transform.now es no_stacks
  pub told : contexts ≡ contexts_behind c es
  pub known : KnowsNames c s texts names

-- An entry more is cloned; or the first refusal of it.
abbrev pub GivesEntry : Registers → CloneSource → ℕ → UnitSource → (ℕ → Role → Option ℕ) → List Entry → Entry → List Entry → List (List ℕ) → List (List ℕ) → GivenUnit → GivenUnit → List UnitEntryId → List OpenWrapper → Stacks → Contexts → TypeNames → Result (Unit {0}) CloneError → Type 0
GivesEntry registers c number s roles es e others old new begun u parents wrappers lineage contexts names (Ok done) = AreClonedSoFar registers c number s roles (es ++ e ∷ []) others old new begun u parents wrappers lineage contexts names
GivesEntry registers c number s roles es e others old new begun u parents wrappers lineage contexts names (Err error) = TellsFirst (entry_refusals (clone_rules registers c s) s (placed_entry c e)) (refusal_told error)
