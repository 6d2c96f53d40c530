-- Attributes as the contracts of a unit that is made see them: a name and a value.
use Rattle.std.specs.Prelude.{List}
use Rattle.dwc_unit.specs.FileOrders.{no_addition}

-- what the items of a list are
abbrev item_of : (A : Type 0) → List A → Type 0
item_of A items = A

-- what an entry that was added has a list of
abbrev pub Attribute : Type 0
Attribute = item_of _ no_addition.attributes
