-- What is kept of the entries of a module as they are read, one after another.
use Rattle.std.specs.Prelude.{◌≡◌, ℕ, zero, suc, ◌+◌, ◌-◌, ◌<◌, ◌^◌, ◌==◌, List, [], ◌∷◌, ◌++◌, length, get_or, Bool, false, nat_lt, not, ◌&&◌, ◌||◌, if◌then◌else◌, Option, Some, None, option_map, option_to_list, IfSome, All, Result, Ok, Err}
use Rattle.std.specs.List.{filter_map, flat_map}
use Rattle.dwc_base.specs.Sections.{Sections, Fault}
use Rattle.dwc_base.specs.Listing.{Listing}
use Rattle.dwc_rules.specs.ReachedEntries.{listing_faults}
use Rattle.dwc_base.specs.Units.{UnitHeader}
use Rattle.dwc_dwarf.specs.Values.{Value, unit_reference, info_reference}
use Rattle.dwc_dwarf.specs.Entries.{Entry, entries}
use Rattle.dwc_rules.specs.Kept.{is_part_tag}
use Rattle.dwc_base.specs.declared.constants.TheConstants.{DW_AT_sibling, DW_TAG_constant, DW_TAG_namespace, DW_TAG_variable}
use Rattle.dwc_read.specs.declared.fault.ReadFault.{ReadFault}
use Rattle.dwc_read.specs.Faults.{fault_seen}
use Rattle.dwc_kept.specs.declared.last_at.LastAt.{LastAt}
use Rattle.dwc_kept.specs.EntryGraphs.{Node}

-- ---- references

-- an offset that may be one of an entry: a section has fewer than 2^32 bytes
abbrev pub small_offset : ℕ → Option ℕ
small_offset n = if nat_lt n (2 ^ 32) then Some n else None

-- the offset that a value of an entry names, in a unit from an offset up to another
abbrev pub named_offset : ℕ → ℕ → Value → Option ℕ
named_offset unit end (unit_reference n) = if nat_lt n (end - unit) then small_offset (unit + n) else None
named_offset unit end (info_reference n) = small_offset n
named_offset unit end _ = None

-- the offset that an attribute, other than sibling, names
abbrev pub attribute_offset : ℕ → ℕ → ℕ × Value → Option ℕ
attribute_offset unit end a = if a.0 == DW_AT_sibling then None else named_offset unit end a.1

-- ---- parents

-- what was read so far: the graph, the last entry at each depth, and which entries are required
pub record ReadSoFar : Type 0 where
  pub nodes : List Node
  pub lasts : List (Option LastAt)
  pub required : List Bool

abbrev pub none_read : ReadSoFar
none_read = record { nodes = []; lasts = []; required = [] }

-- the last entry above a depth
abbrev pub last_above : List (Option LastAt) → ℕ → Option LastAt
last_above lasts zero = None
last_above lasts (suc depth) = get_or lasts depth None

-- an entry is the last one at a depth
abbrev pub with_last_at : List (Option LastAt) → ℕ → LastAt → List (Option LastAt)
with_last_at [] zero last = Some last ∷ []
with_last_at [] (suc depth) last = None ∷ with_last_at [] depth last
with_last_at (x ∷ xs) zero last = Some last ∷ xs
with_last_at (x ∷ xs) (suc depth) last = x ∷ with_last_at xs depth last

-- whether an entry of a tag is a part of a parent
abbrev pub is_part_below : Option LastAt → ℕ → Bool
is_part_below None tag = false
is_part_below (Some parent) tag = is_part_tag tag || (((tag == DW_TAG_variable) || (tag == DW_TAG_constant)) && not parent.is_outer)

-- the node of an entry below a parent
abbrev pub node_below : ℕ → ℕ → Option LastAt → Entry → Node
node_below unit end parent e = record { offset = e.offset; parent = option_map (λ p. p.number) parent; targets = filter_map (attribute_offset unit end) e.attributes; is_part = is_part_below parent e.tag }

-- an entry of a unit is read, and a test says whether it is required: a root or a namespace is an outer one, of which no variable is a part
abbrev pub with_entry_read : (Entry → Bool) → UnitHeader → Entry → ReadSoFar → ReadSoFar
with_entry_read needed h e r = record {
  nodes = r.nodes ++ node_below h.offset h.end (last_above r.lasts e.depth) e ∷ [];
  lasts = with_last_at r.lasts e.depth (record { number = length r.nodes; is_outer = (e.depth == 0) || (e.tag == DW_TAG_namespace) });
  required = r.required ++ needed e ∷ [];
}

-- the entries of a unit are read, and those of some units
abbrev pub with_entries_read : (Entry → Bool) → UnitHeader → List Entry → ReadSoFar → ReadSoFar
with_entries_read needed h [] r = r
with_entries_read needed h (e ∷ es) r = with_entries_read needed h es (with_entry_read needed h e r)

abbrev pub with_units_read : (UnitHeader → Entry → Bool) → Sections → List UnitHeader → ReadSoFar → ReadSoFar
with_units_read needed s [] r = r
with_units_read needed s (h ∷ hs) r = with_units_read needed s hs (with_entries_read (needed h) h (entries s h).items r)

-- the last entries are among those that were read
abbrev pub AreAmong : ReadSoFar → Type 0
AreAmong r = (depth : ℕ) → IfSome (get_or r.lasts depth None) (λ last. last.number < length r.nodes)

-- the entries that were read stand in front of an offset
abbrev pub StandBefore : ℕ → ReadSoFar → Type 0
StandBefore end r = All (λ n. n.offset < end) r.nodes

-- ---- answers

-- a refusal is for want of memory, or is the first fault
abbrev pub TellsFirst : Option Fault → Option Fault → Type 0
TellsFirst first None = Unit {0}
TellsFirst first (Some fault) = first ≡ Some fault

-- Where reading meets no fault, what is answered has a property; or the first fault is told.
abbrev pub ReadsOrTells : {X : Type 0} → (X → Type 0) → Option Fault → Result X ReadFault → Type 0
ReadsOrTells has first (Ok x) = (first ≡ None) × has x
ReadsOrTells has first (Err e) = TellsFirst first (fault_seen e)

-- The same of what is answered without more to say of it.
abbrev pub MeetsOrTells : {X : Type 0} → Option Fault → Result X ReadFault → Type 0
MeetsOrTells first (Ok x) = first ≡ None
MeetsOrTells first (Err e) = TellsFirst first (fault_seen e)

-- what cannot be read of the units of some headers
abbrev pub headers_faults : (UnitHeader → Entry → List Fault) → Sections → Listing Fault UnitHeader → List Fault
headers_faults named s hs = flat_map (λ h. listing_faults (named h) (entries s h)) hs.items ++ option_to_list hs.fault
