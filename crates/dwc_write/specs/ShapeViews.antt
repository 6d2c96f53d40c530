-- The shapes of entries, as a writer keeps them.
use Rattle.std.specs.Prelude.{◌≡◌, ◌<◌, ◌∷◌, [], ℕ, List, length, map, nat_lt, Option, Some, None, if◌then◌else◌}
use Rattle.std.specs.List.{flat_map}
use Rattle.std.specs.BTreeMap.{get}
use Rattle.std.specs.Global.{Vec}
use Rattle.std.specs.Cmp.Lexicographic.{slice_cmp}
use Rattle.std.specs.Ordering.{nat_cmp}
use Rattle.std.specs.declared.cmp.Ordering.{Ordering}
use Rattle.dwc_unit.specs.declared.attributes.AttributeForm.{AttributeForm}
use Rattle.dwc_unit.specs.GivenUnits.{EntryShape, place_in}
use Rattle.dwc_write.specs.declared.shapes.Shape.{Shape}
use Rattle.dwc_write.specs.declared.shapes.Shapes.{Shapes}
use Rattle.dwc_unit.specs.SpelledTables.{flag_of}

abbrev pub shape_view : Shape → EntryShape
shape_view s = record { tag = s.tag; has_children = s.has_children; attributes = s.attributes.items }

-- ---- the words of a shape, by which it is found

abbrev pub form_words : AttributeForm → List ℕ
form_words f = f.name ∷ f.form ∷ []

abbrev pub shape_words : EntryShape → List ℕ
shape_words s = s.tag ∷ flag_of s.has_children ∷ flat_map form_words s.attributes

abbrev pub words_cmp : Vec ℕ → Vec ℕ → Ordering
words_cmp x y = slice_cmp nat_cmp x.items y.items

-- where a shape stands among others, if it is there
abbrev pub place_among : EntryShape → List EntryShape → Option ℕ
place_among s known = if nat_lt (place_in s known) (length known) then Some (place_in s known) else None

-- Each shape that is there is found by its words, and no other is.
pub record AreFound (shapes : Shapes) : Type 0 where
  pub each : (words : Vec ℕ) (s : EntryShape) → words.items ≡ shape_words s → get words_cmp shapes.places words ≡ place_among s (map shape_view shapes.shapes.items)

-- A shape stands at a place among others, and not in front of it.
pub record StandsAt (s : EntryShape) (known : List EntryShape) (place : ℕ) : Type 0 where
  pub is : place_in s known ≡ place
  pub inside : place < length known
