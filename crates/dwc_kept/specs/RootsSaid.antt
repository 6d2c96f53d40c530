-- What the root of a unit says. (DWARF 4 and 5, section 3.1.1.)
use Rattle.std.specs.Prelude.{ℕ, ◌==◌, List, [], ◌∷◌, Bool, false, Option, Some, None}
use Rattle.dwc_dwarf.specs.Entries.{Entry}
use Rattle.dwc_rules.specs.Refusals.{table_offset}
use Rattle.dwc_kept.specs.declared.read_unit.RootEntry.{RootEntry}

abbrev pub root_said : Entry → RootEntry
root_said e = record { tag = e.tag; line_table = table_offset (Some e) }

-- what the first of some entries says
abbrev pub first_said : List Entry → Option RootEntry
first_said [] = None
first_said (e ∷ es) = Some (root_said e)

-- whether a root, if there is one, has a tag
abbrev pub has_tag : ℕ → Option RootEntry → Bool
has_tag tag None = false
has_tag tag (Some r) = r.tag == tag

-- the line table that it names
abbrev pub table_named : Option RootEntry → Option ℕ
table_named None = None
table_named (Some r) = r.line_table
