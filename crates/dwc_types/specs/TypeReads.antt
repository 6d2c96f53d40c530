-- What is read of the type at an offset.
use Rattle.std.specs.Prelude.{◌≡◌, ℕ, ◌⊎◌, List, Option, Some, None, Ok}
use Rattle.dwc_rules.specs.Kept.{Placed}
use Rattle.dwc_rules.specs.Clones.{UnitSource}
use Rattle.dwc_rules.specs.TypeNames.{derived_name, name_of, unknown}
use Rattle.dwc_source.specs.declared.source.CloneSource.{CloneSource}
use Rattle.dwc_source.specs.Sources.{IsEmitted, IsSource}
use Rattle.dwc_types.specs.declared.type_entry.TypeEntry.{TypeEntry}
use Rattle.dwc_types.specs.declared.known_type.TypeStep.TheVariants.{Derived}
use Rattle.dwc_types.specs.TypeSteps.{GivesStep}

-- The type at an offset has no name, and is derived from another.
abbrev pub IsRead : CloneSource → UnitSource → ℕ → ℕ → Option TypeEntry → Type 0
IsRead c s offset tag next = (number : ℕ) (f : Placed) → IsSource c number s → IsEmitted c s f → f.entry.offset ≡ offset → GivesStep c s f (Ok (Derived tag next))

-- The type at an offset ends a chain with a name: its own, or that of what has none.
abbrev pub EndsSo : CloneSource → UnitSource → ℕ → List ℕ → Type 0
EndsSo c s offset name = (number : ℕ) (f : Placed) → IsSource c number s → IsEmitted c s f → f.entry.offset ≡ offset → (name_of s.texts f ≡ Ok (Some name)) ⊎ ((name_of s.texts f ≡ Ok None) × (derived_name f.entry.tag ≡ None) × (name ≡ unknown))
