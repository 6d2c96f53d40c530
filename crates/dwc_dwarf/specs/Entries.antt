-- Debugging information entries, in file order. (DWARF 4 and 5, sections 2.3 and 7.5.2.)
use Rattle.std.specs.Prelude.{ℕ, zero, suc, pred, ◌==◌, List, [], ◌∷◌, length, Bool, true, false, if◌then◌else◌, Option, Some, None, option_map, Ok, Err}
use Rattle.std.specs.List.{find}
use Rattle.dwc_base.specs.declared.section_name.SectionName.TheVariants.{Info}
use Rattle.dwc_base.specs.declared.faults.What.TheVariants.{Entry as EntryRead}
use Rattle.dwc_base.specs.declared.faults.Flaw.TheVariants.{Malformed}
use Rattle.dwc_base.specs.Reading.{Unread, Read, ◌>>=◌, uleb_at}
use Rattle.dwc_base.specs.Listing.{Listing, only_fault, Next, at_end, broken, passes, item, walk}
use Rattle.dwc_base.specs.Sections.{Sections, Fault, fault_of}
use Rattle.dwc_base.specs.Abbreviations.{AttributeSpec, Declaration, declaration_of, abbreviation_table}
use Rattle.dwc_base.specs.Units.{UnitHeader}
use Rattle.dwc_dwarf.specs.Values.{Value, value_at}

-- an entry: its offset in .debug_info, its depth below the root, its tag, and its attributes by name, in order
pub record Entry : Type 0 where
  pub offset : ℕ
  pub depth : ℕ
  pub tag : ℕ
  pub attributes : List (ℕ × Value)

-- the values of a declaration's attributes, one after another
unfoldable pub attributes_at : Sections → UnitHeader → List AttributeSpec → Unread → Read (List (ℕ × Value))
attributes_at s h [] u = Ok ([], u)
attributes_at s h (spec ∷ specs) u = do
  first ← value_at s h spec u
  others ← attributes_at s h specs first.1
  Ok ((spec.name, first.0) ∷ others.0, others.1)

-- an entry as read, with whether children follow
pub record Found : Type 0 where
  pub entry : Entry
  pub has_children : Bool

-- an entry of a declaration, behind its code
unfoldable pub declared_entry_at : Sections → UnitHeader → ℕ → ℕ → Declaration → Unread → Read (Option Found)
declared_entry_at s h offset depth d u = do
  attributes ← attributes_at s h d.attributes u
  Ok (Some (record { entry = record { offset = offset; depth = depth; tag = d.tag; attributes = attributes.0 }; has_children = d.has_children }), attributes.1)

-- An entry of a unit: the code of its declaration, and its values. The code 0 ends a list of siblings.
unfoldable pub entry_at : Sections → UnitHeader → List Declaration → ℕ → Unread → Read (Option Found)
entry_at s h table depth u = do
  code ← uleb_at u
  elim (code.0 == 0) [
    | true ↦ Ok (None, code.1)
    | false ↦ elim (declaration_of code.0 table) [ None ↦ Err Malformed | Some d ↦ declared_entry_at s h u.place depth d code.1 ]
  ]

-- where the next entry of a unit stands, and its depth
pub record EntryPlace : Type 0 where
  pub depth : ℕ
  pub unread : Unread

-- Entries go on at a depth above the root's; at the root's they have ended.
abbrev pub entry_place : ℕ → Unread → Option EntryPlace
entry_place zero u = None
entry_place (suc depth) u = Some (record { depth = suc depth; unread = u })

-- behind an entry, and behind the end of a list of siblings
abbrev pub place_behind : Option Found → ℕ → Unread → Option EntryPlace
place_behind None depth u = entry_place (pred depth) u
place_behind (Some found) depth u = entry_place (if found.has_children then suc depth else depth) u

-- the first entry of a unit, its root
abbrev pub root_place : UnitHeader → Option EntryPlace
root_place h = Some (record { depth = 0; unread = h.content })

-- how many bytes of the unit are still unread
abbrev pub entry_places_left : Option EntryPlace → ℕ
entry_places_left None = 0
entry_places_left (Some p) = length p.unread.left

-- Entries end where the depth is the root's again, or where the unit ends.
unfoldable pub next_entry : Sections → UnitHeader → List Declaration → Option EntryPlace → Next (Option EntryPlace) Fault Entry
next_entry s h table None = at_end
next_entry s h table (Some p) =
    elim (length p.unread.left == 0) [
      | true ↦ at_end
      | false ↦ elim (entry_at s h table p.depth p.unread) [
        | Err flaw ↦ broken (fault_of EntryRead Info p.unread.place flaw)
        | Ok read ↦ elim read.0 [
          | None ↦ passes (place_behind None p.depth read.1)
          | Some found ↦ item found.entry (place_behind (Some found) p.depth read.1)
        ]
      ]
    ]

-- the entries from a place on
unfoldable pub entries_from : Sections → UnitHeader → List Declaration → Option EntryPlace → Listing Fault Entry
entries_from s h table place = walk entry_places_left (next_entry s h table) place

-- the entries of a unit; its abbreviation table is read first
unfoldable pub entries : Sections → UnitHeader → Listing Fault Entry
entries s h = elim (abbreviation_table s h.abbreviations) [ Err fault ↦ only_fault fault | Ok table ↦ entries_from s h table (root_place h) ]

-- the first value of a name
abbrev pub attribute : ℕ → Entry → Option Value
attribute name e = option_map (λ a. a.1) (find (λ a. a.0 == name) e.attributes)
