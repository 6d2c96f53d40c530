-- The entries that are made of a module's carried units, while their references still go to goals. (This project's own rules.)
use Rattle.std.specs.Prelude.{List, ◌∷◌, map, Bool, Option, Some, None, Result, Ok, Err}
use Rattle.dwc_base.specs.Sections.{Fault}
use Rattle.dwc_dwarf.specs.LineRows.{LineTable}
use Rattle.dwc_rules.specs.Kept.{Placed}
use Rattle.dwc_dwarf.specs.ReadUnits.{Unit, table_of_unit}
use Rattle.dwc_dwarf.specs.Indexed.{texts_of_unit}
use Rattle.dwc_rules.specs.Clones.{UnitSource, CodeRules, attributes_made}
use Rattle.dwc_rules.specs.KeptModules.{KeptModule, carried_in, kept_in}
use Rattle.dwc_rules.specs.Drafts.{itself, Draft}
use Rattle.dwc_rules.specs.LocationRules.{ExpressionSource}
use Rattle.dwc_rules.specs.Wrappers.{entries_made}
use Rattle.dwc_rules.specs.ObjectPointers.{pointers_changed}
use Rattle.dwc_rules.specs.ContextVariable.{context_entries}
use Rattle.dwc_rules.specs.EntryRules.{wrappers_of, rules_of_source}

-- a line table that can be read
abbrev pub readable_table : Result (Option LineTable) Fault → Option LineTable
readable_table (Ok t) = t
readable_table (Err fault) = None

-- what the attributes of a unit's entries are read with
unfoldable pub source_of : KeptModule → Unit → UnitSource
source_of m u = record {
  version = u.header.version;
  output_version = m.parts.version;
  texts = texts_of_unit m.parts.sections u.header;
  table = readable_table (table_of_unit m.parts.sections u);
  entries = m.entries;
}

-- the entry that is made of a kept one by itself
abbrev pub draft_of : {E : Type 0} → CodeRules E → UnitSource → Bool → Placed → Draft
draft_of rules s big_endian e = record { depth = e.entry.depth; tag = e.entry.tag; origin = Some (e.entry.offset, itself); attributes = attributes_made rules s big_endian e }

-- the same with its object pointers changed
abbrev pub draft_told : ExpressionSource → UnitSource → Bool → Placed → Draft
draft_told c s big_endian e =
    let d = draft_of (rules_of_source c) s big_endian e in
    record { depth = d.depth; tag = d.tag; origin = d.origin; attributes = pointers_changed (wrappers_of c).texts c.entries e d.attributes }

-- what is made of a kept entry that is not wrapped: the entry itself, and behind it the variable of the context
abbrev pub entry_made : ExpressionSource → UnitSource → Bool → Placed → List Draft
entry_made c s big_endian e = draft_told c s big_endian e ∷ context_entries c e

-- The entries that are made of a unit's kept ones, in file order.
abbrev pub unit_drafts : ExpressionSource → UnitSource → Bool → List Placed → List Draft
unit_drafts c s big_endian es = entries_made (wrappers_of c) (entry_made c s big_endian) es

-- the carried units of a module, each by what its expressions are carried with
unfoldable pub carried_drafts : (Unit → ExpressionSource) → Bool → KeptModule → List (List Draft)
carried_drafts source big_endian m = map (λ u. unit_drafts (source u) (source_of m u) big_endian (kept_in m u)) (carried_in m)
