use Rattle.std.proofs.Common.{◌+◌, ◌*◌, Some, map, length}
use Rattle.serde_json.specs.View.{view, members_view}
use Rattle.dwc_map.proofs.TokenLists.{ItemsAlong}
use Rattle.dwc_map.proofs.TokenMembers.{FieldsAlong}
use Rattle.dwc_map.proofs.tokens.+read.Given as goal

abbrev pub decreases-read_value : goal.decreases-read_value
decreases-read_value l = 2 * l.depth

abbrev pub decreases-read_items : goal.decreases-read_items
decreases-read_items l = 2 * l.depth + 1

abbrev pub decreases-read_members : goal.decreases-read_members
decreases-read_members l = 2 * l.depth + 1

-- the items so far, and those to come, are those of the list
abbrev pub invariant-read_items-items : goal.invariant-read_items-items
invariant-read_items-items l = ItemsAlong (λ d. Some d) l.depth l.initial.reader l.reader (map view l.found.items)

abbrev pub decreases-read_items-items : goal.decreases-read_items-items
decreases-read_items-items l = length l.reader

-- the members so far, and those to come, are those of the object
abbrev pub invariant-read_members-members : goal.invariant-read_members-members
invariant-read_members-members l = FieldsAlong l.depth l.initial.reader l.reader (members_view l.found.entries)

abbrev pub decreases-read_members-members : goal.decreases-read_members-members
decreases-read_members-members l = length l.reader
