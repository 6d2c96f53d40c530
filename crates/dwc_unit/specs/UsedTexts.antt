-- The texts that units name, each once, and where they stand in `.debug_str`: in the order of first use, each ended by a zero. (DWARF 4,
-- section 7.5.4.)
use Rattle.std.specs.Prelude.{ℕ, suc, ◌+◌, ◌<◌, ◌==◌, List, [], ◌∷◌, ◌++◌, map, length, fold, get_or, if◌then◌else◌, Option, Some, None}
use Rattle.std.specs.List.{All, flat_map, list_any, range_with_len}
use Rattle.dwc_dwarf.specs.TreeLaws.{texts_ended}
use Rattle.dwc_unit.specs.declared.attributes.Attribute.{Attribute}
use Rattle.dwc_unit.specs.declared.attributes.AttributeValue.{AttributeValue}
use Rattle.dwc_unit.specs.declared.attributes.AttributeValue.TheVariants.{StringRef}
use Rattle.dwc_unit.specs.GivenUnits.{GivenEntry, OrderedUnit}

-- the number of the text that a value names, if it names one
abbrev pub text_of_value : AttributeValue → List ℕ
text_of_value (StringRef id) = id.index ∷ []
text_of_value _ = []

-- the numbers that attributes, entries and units name, in file order
abbrev pub texts_of_attributes : List Attribute → List ℕ
texts_of_attributes xs = flat_map (λ a. text_of_value a.value) xs

abbrev pub texts_of_entries : List GivenEntry → List ℕ
texts_of_entries es = flat_map (λ e. texts_of_attributes e.attributes) es

abbrev pub texts_named : List OrderedUnit → List ℕ
texts_named us = flat_map (λ u. texts_of_entries u.entries) us

-- Each text that units name is one of a table.
abbrev pub HaveTexts : List (List ℕ) → List OrderedUnit → Type 0
HaveTexts texts us = All (λ n. n < length texts) (texts_named us)

-- a number behind others, where it is new
abbrev pub with_number : List ℕ → ℕ → List ℕ
with_number before n = if list_any (λ k. k == n) before then before else before ++ (n ∷ [])

-- numbers behind others in the order of first use
abbrev pub with_numbers : List ℕ → List ℕ → List ℕ
with_numbers before ns = fold with_number before ns

-- the numbers of the texts of units in that order
abbrev pub texts_used : List OrderedUnit → List ℕ
texts_used us = with_numbers [] (texts_named us)

-- a text of a table by its number
abbrev pub text_numbered : List (List ℕ) → ℕ → List ℕ
text_numbered texts n = get_or texts n []

-- texts by their numbers, one behind another
abbrev pub texts_bytes : List (List ℕ) → List ℕ → List ℕ
texts_bytes texts used = texts_ended (map (text_numbered texts) used)

-- `.debug_str`
abbrev pub strings_bytes : List (List ℕ) → List OrderedUnit → List ℕ
strings_bytes texts us = texts_bytes texts (texts_used us)

-- where the text of a number stands among those that stand from a place on, if it is one of them
abbrev pub place_of_text : List (List ℕ) → ℕ → List ℕ → ℕ → Option ℕ
place_of_text texts place [] n = None
place_of_text texts place (k ∷ ks) n = if k == n then Some place else place_of_text texts (place + suc (length (text_numbered texts k))) ks n

-- where the texts of a table stand by their numbers; a text that no unit names stands nowhere
abbrev pub text_places : List (List ℕ) → List OrderedUnit → List (Option ℕ)
text_places texts us = map (place_of_text texts 0 (texts_used us)) (range_with_len 0 (length texts))
