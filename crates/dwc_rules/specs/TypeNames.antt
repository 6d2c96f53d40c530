-- The name that a pointer or a reference has by the type that it goes to, and by the types that this is derived from. (DWARF 4 and
-- 5, sections 5.1 to 5.5; this project's own spelling.)
use Rattle.std.specs.Prelude.{ℕ, zero, suc, List, [], ◌∷◌, ◌++◌, length, not, if◌then◌else◌, Option, Some, None, Result, Ok, Err, codes}
use Rattle.std.specs.List.{filter}
use Rattle.std.specs.Str.{is_utf8}
use Rattle.dwc_base.specs.declared.section_name.SectionName.TheVariants.{Info}
use Rattle.dwc_base.specs.declared.faults.What.TheVariants.{BaseName, Text}
use Rattle.dwc_base.specs.declared.constants.TheConstants.{DW_AT_name, DW_AT_type, DW_TAG_array_type, DW_TAG_const_type, DW_TAG_pointer_type, DW_TAG_reference_type}
use Rattle.dwc_base.specs.Reading.{◌>>=◌, coded}
use Rattle.dwc_base.specs.Sections.{Fault, unreadable, reported}
use Rattle.dwc_dwarf.specs.Values.{Value, unit_reference}
use Rattle.dwc_dwarf.specs.Entries.{attribute}
use Rattle.dwc_rules.specs.Kept.{Placed, same_place}
use Rattle.dwc_dwarf.specs.Texts.{TextSource, text_named}
use Rattle.dwc_rules.specs.Targets.{target_of}

-- ---- one step

-- the entry among some that a value goes to, if it is a reference within the unit
abbrev pub target_in_unit : List Placed → Placed → Option Value → Option Placed
target_in_unit es e (Some (unit_reference n)) = target_of es e (unit_reference n)
target_in_unit es e _ = None

-- the type of an entry, where it is an entry of the unit among some
abbrev pub type_of : List Placed → Placed → Option Placed
type_of es e = target_in_unit es e (attribute DW_AT_type e.entry)

-- a text of an entry, which must be UTF-8
abbrev pub in_utf8 : Placed → Option (List ℕ) → Result (Option (List ℕ)) Fault
in_utf8 e None = Ok None
in_utf8 e (Some bytes) = if is_utf8 bytes then Ok (Some bytes) else Err (unreadable BaseName Info e.entry.offset)

-- the text that a value of an entry names, if it names one
abbrev pub utf8_text : TextSource → Placed → Option Value → Result (Option (List ℕ)) Fault
utf8_text texts e None = Ok None
utf8_text texts e (Some v) = reported Text Info e.entry.offset (text_named texts v) >>= in_utf8 e

-- the name of an entry, if it has one that is a text
abbrev pub name_of : TextSource → Placed → Result (Option (List ℕ)) Fault
name_of texts e = utf8_text texts e (attribute DW_AT_name e.entry)

-- how a type of a tag is named by the type that it is derived from
abbrev pub derived_name : ℕ → Option (List ℕ → List ℕ)
derived_name tag =
    coded ((DW_TAG_const_type, λ n. codes "const " ++ n) ∷ (DW_TAG_pointer_type, λ n. n ++ codes "*") ∷ (DW_TAG_reference_type, λ n. n ++ codes "&") ∷ (DW_TAG_array_type, λ n. n ++ codes "[]") ∷ []) tag

-- ---- the whole chain

-- the name of what has none
abbrev pub unknown : List ℕ
unknown = codes "??"

-- the entries without one of them
abbrev pub without : Placed → List Placed → List Placed
without e es = filter (λ f. not (same_place e f)) es

-- The name of an entry's type: its own, or else by the name of its own type. The types are looked for among entries that were not met
-- yet, which get fewer by each one that is met; what is not among them is unknown.
unfoldable pub name_along : ℕ → TextSource → List Placed → Placed → Result (List ℕ) Fault
name_along zero texts unmet e = Ok unknown
name_along (suc most) texts unmet e = elim (type_of unmet e) [
  | None ↦ Ok unknown
  | Some f ↦ (name_of texts f >>= λ name. elim name [
    | Some n ↦ Ok n
    | None ↦ elim (derived_name f.entry.tag) [
      | None ↦ Ok unknown
      | Some derived ↦ (name_along most texts (without f unmet) f >>= λ n. Ok (derived n))
    ]
  ])
]

-- The name of the type of an entry, among the entries of its section; the entry itself is met from the start.
unfoldable pub type_name : TextSource → List Placed → Placed → Result (List ℕ) Fault
type_name texts es e = name_along (length es) texts (without e es) e
