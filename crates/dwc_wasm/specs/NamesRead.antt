-- What the reader of names answers, and what its parts say.
use Rattle.std.specs.Prelude.{◌≡◌, ℕ, List, [], map, Option, Some, None, option_map, ⊤}
use Rattle.std.specs.Borrow.{Bor}
use Rattle.std.specs.List.{flat_map}
use Rattle.std.specs.Ordering.{nat_cmp}
use Rattle.dwc_base.specs.declared.faults.Flaw.{Flaw}
use Rattle.dwc_wasm.specs.declared.name_section.Names.{Names}
use Rattle.dwc_wasm.specs.declared.name_section.NameSubsection.{NameSubsection}
use Rattle.dwc_base.specs.Reading.{Unread}
use Rattle.dwc_base.specs.Listing.{Next, at_end, broken, passes, item}
use Rattle.dwc_base.specs.Wasm.{name_at, last_of}
use Rattle.dwc_base.specs.WasmNames as spec
use Rattle.dwc_base.specs.WasmNames.{name_map_at, local_name_map_at, said_in}
use Rattle.dwc_base.specs.WasmVectors.{vector_at}
use Rattle.dwc_base.specs.TranslationNames.{function_name_view, local_name_view}
use Rattle.dwc_base.specs.SortedEntries.{sorted_entries, pair_cmp}

-- a subsection
abbrev pub subsection_view : NameSubsection → spec.NameSubsection
subsection_view s = record { id = s.id; content = s.content }

-- the name of a function by its number
abbrev pub keyed_by_function : ℕ × Bor (List ℕ) → ℕ × Bor (List ℕ)
keyed_by_function n = (n.0, n.1)

-- the name of a local by both numbers
abbrev pub keyed_by_local : ℕ × ℕ × Bor (List ℕ) → (ℕ × ℕ) × Bor (List ℕ)
keyed_by_local n = ((n.0, n.1), n.2)

-- A call that answers the next subsection of a walk; None where the walk ends or is broken.
abbrev pub MeetsNext : Next Unread Flaw spec.NameSubsection → Unread → Option NameSubsection → Type 0
MeetsNext next new (Some s) = next ≡ item (subsection_view s) new
MeetsNext at_end new None = ⊤
MeetsNext (broken flaw) new None = ⊤
MeetsNext (passes u) new None = ⊥
MeetsNext (item s u) new None = ⊥

-- the things of what is said, where it is said
abbrev pub things_of : {A B : Type 0} → (A → List B) → Option A → List B
things_of things None = []
things_of things (Some said) = things said

-- The names are those that the contents of a section `name` tell.
pub record TellsNamesIn (n : Names) (bytes : List ℕ) : Type 0 where
  pub module_name : option_map (λ t. t.now) n.module ≡ last_of (said_in 0 name_at bytes)
  pub functions : map function_name_view n.functions.items ≡ sorted_entries nat_cmp (flat_map (λ names. names) (said_in 1 name_map_at bytes))
  pub locals : map local_name_view n.locals.items ≡ sorted_entries pair_cmp (flat_map (λ maps. flat_map (λ names. names) maps) (said_in 2 (vector_at local_name_map_at) bytes))
