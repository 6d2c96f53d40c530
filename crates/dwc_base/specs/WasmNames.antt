-- The names that a WebAssembly file tells in its custom section `name`: of the module, of functions and of locals. What cannot be
-- read tells nothing, and no file is refused for it. (WebAssembly 1.0, section 7.4.1.)
use Rattle.std.specs.Prelude.{ℕ, ◌==◌, List, length, map, true, false, if◌then◌else◌, Option, Some, None, Ok, Err, codes}
use Rattle.std.specs.List.{filter_map, flat_map}
use Rattle.std.specs.Ordering.{nat_cmp}
use Rattle.dwc_base.specs.declared.records.Endian.TheVariants.{Little}
use Rattle.dwc_base.specs.declared.faults.Flaw.{Flaw}
use Rattle.dwc_base.specs.Reading.{Unread, Read, ◌>>=◌, part_at, number_at, uleb_at}
use Rattle.dwc_base.specs.Listing.{Next, at_end, broken, item, walk}
use Rattle.dwc_base.specs.Wasm.{name_at, u32_at, WasmModule, custom_section, last_of}
use Rattle.dwc_base.specs.WasmVectors.{vector_at}
use Rattle.dwc_base.specs.SortedEntries.{sorted_entries, pair_cmp}

-- ---- subsections

-- a subsection: its id, and its bytes
pub record NameSubsection : Type 0 where
  pub id : ℕ
  pub content : Unread

-- a subsection: a byte, a size, and as many bytes
unfoldable pub name_subsection_at : Unread → Read NameSubsection
name_subsection_at u = do
  id ← number_at 1 u
  size ← uleb_at id.1
  content ← part_at size.0 size.1
  Ok (record { id = id.0; content = content.0 }, content.1)

-- the next subsection, up to the end
unfoldable pub next_name_subsection : Unread → Next Unread Flaw NameSubsection
next_name_subsection u =
    elim (length u.left == 0) [
      | true ↦ at_end
      | false ↦ elim (name_subsection_at u) [ Err flaw ↦ broken flaw | Ok s ↦ item s.0 s.1 ]
    ]

-- the subsections of a section's bytes, up to the first that cannot be read
unfoldable pub name_subsections : List ℕ → List NameSubsection
name_subsections bytes = (walk (λ u. length u.left) next_name_subsection (record { order = Little; place = 0; left = bytes })).items

-- ---- what subsections say

-- what was read, where nothing is left behind it
abbrev pub read_whole : {A : Type 0} → Read A → Option A
read_whole (Err flaw) = None
read_whole (Ok x) = if length (x.1).left == 0 then Some x.0 else None

-- what a subsection of an id says, where it is exactly of a form
abbrev pub said_by : {A : Type 0} → ℕ → (Unread → Read A) → NameSubsection → Option A
said_by id form s = if s.id == id then read_whole (form s.content) else None

-- what the subsections of an id say that a section's bytes have
unfoldable pub said_in : {A : Type 0} → ℕ → (Unread → Read A) → List ℕ → List A
said_in id form bytes = filter_map (said_by id form) (name_subsections bytes)

-- what those say that a module's section has; of two sections the later alone counts
abbrev pub all_said : {A : Type 0} → ℕ → (Unread → Read A) → WasmModule → List A
all_said id form m = said_in id form (custom_section (codes "name") m.sections)

-- a number and a name
unfoldable pub name_association_at : Unread → Read (ℕ × List ℕ)
name_association_at u = do
  number ← u32_at u
  name ← name_at number.1
  Ok ((number.0, name.0), name.1)

-- names by numbers
unfoldable pub name_map_at : Unread → Read (List (ℕ × List ℕ))
name_map_at u = vector_at name_association_at u

-- a function's number, and the names of its locals by theirs
unfoldable pub local_name_map_at : Unread → Read (List ((ℕ × ℕ) × List ℕ))
local_name_map_at u = do
  function ← u32_at u
  names ← name_map_at function.1
  Ok (map (λ n. ((function.0, n.0), n.1)) names.0, names.1)

-- ---- names

-- The module's name, the last that is said.
unfoldable pub name_of_module : WasmModule → Option (List ℕ)
name_of_module m = last_of (all_said 0 name_at m)

-- the names of functions as they are said, in order
unfoldable pub said_function_names : WasmModule → List (ℕ × List ℕ)
said_function_names m = flat_map (λ names. names) (all_said 1 name_map_at m)

-- The names of functions by their numbers, imported functions first, in rising order; of two of one function the later counts.
unfoldable pub names_of_functions : WasmModule → List (ℕ × List ℕ)
names_of_functions m = sorted_entries nat_cmp (said_function_names m)

-- the names of locals as they are said, in order
unfoldable pub said_local_names : WasmModule → List ((ℕ × ℕ) × List ℕ)
said_local_names m = flat_map (λ maps. flat_map (λ names. names) maps) (all_said 2 (vector_at local_name_map_at) m)

-- The names of locals by the numbers of their function and their own, parameters first, likewise.
unfoldable pub names_of_locals : WasmModule → List ((ℕ × ℕ) × List ℕ)
names_of_locals m = sorted_entries pair_cmp (said_local_names m)
