-- What holds of every output: each reference goes to an entry that is there, equal texts stand in one place, and no expression of a
-- location list is too long.
use Rattle.std.specs.Prelude.{ℕ, ◌^◌, ◌==◌, List, [], ◌∷◌, ◌++◌, map, length, Bool, true, false, nat_lt, ◌&&◌, if◌then◌else◌, slice_index_or, Option, Some, None, fold, IsTrue, Result, Ok, Err}
use Rattle.std.specs.List.{filter_map, flat_map, list_all, list_any}
use Rattle.std.specs.Str.{bytes_eq}
use Rattle.dwc_base.specs.declared.faults.Flaw.{Flaw}
use Rattle.dwc_base.specs.Sections.{Sections}
use Rattle.dwc_dwarf.specs.Values as Values
use Rattle.dwc_dwarf.specs.Values.{Value}
use Rattle.dwc_dwarf.specs.ReadUnits.{Unit, units}
use Rattle.dwc_dwarf.specs.Texts.{TextSource, text_named}
use Rattle.dwc_dwarf.specs.Indexed.{texts_of_unit}
use Rattle.dwc_dwarf.specs.Trees.{TreeValue, entry, locations, nothing, text, Tree}

-- ---- references

-- how many entries the unit of a number has
abbrev pub size_of_unit : List Tree → ℕ → ℕ
size_of_unit ts number = length (slice_index_or ts number [])

-- whether a value that is a reference goes to an entry that is there
abbrev pub goes_somewhere : List Tree → TreeValue → Bool
goes_somewhere ts (entry number place) = nat_lt place (size_of_unit ts number)
goes_somewhere ts nothing = false
goes_somewhere ts _ = true

-- all values of a unit, in order
abbrev pub values_of : Tree → List TreeValue
values_of t = flat_map (λ e. map (λ a. a.1) e.attributes) t

-- Every reference of some trees goes to an entry that is there.
abbrev pub HasAllTargets : List Tree → Type 0
HasAllTargets ts = IsTrue (list_all (λ t. list_all (goes_somewhere ts) (values_of t)) ts)

-- ---- expressions of location lists

-- whether they are short enough for a length of two bytes (DWARF 4, section 2.6.2)
abbrev pub has_short_expressions : TreeValue → Bool
has_short_expressions (locations ls) = list_all (λ l. nat_lt (length l.bytes) (2 ^ 16)) ls
has_short_expressions _ = true

-- the same of all of some trees
abbrev pub have_short_expressions : List Tree → Bool
have_short_expressions ts = list_all (λ t. list_all has_short_expressions (values_of t)) ts

-- ---- texts

-- the text of a value that is one
abbrev pub text_said : TreeValue → Option (List ℕ)
text_said (text bytes) = Some bytes
text_said _ = None

-- texts behind others, without those that came before
abbrev pub with_new_text : List (List ℕ) → List ℕ → List (List ℕ)
with_new_text before t = if list_any (bytes_eq t) before then before else before ++ (t ∷ [])

-- The texts of some trees, each once, in the order of first use.
abbrev pub distinct_texts : List Tree → List (List ℕ)
distinct_texts ts = fold with_new_text [] (flat_map (λ t. filter_map text_said (values_of t)) ts)

-- texts one after another, each ended by a zero
abbrev pub texts_ended : List (List ℕ) → List ℕ
texts_ended ts = flat_map (λ t. t ++ (0 ∷ [])) ts

-- a text elsewhere by its form and number, with its bytes
pub record TextPlace : Type 0 where
  pub form : ℕ
  pub number : ℕ
  pub bytes : List ℕ

-- the place of a text that was read
abbrev pub place_if_read : ℕ → ℕ → Result (Option (List ℕ)) Flaw → Option TextPlace
place_if_read form number (Ok (Some bytes)) = Some (record { form = form; number = number; bytes = bytes })
place_if_read form number (Ok None) = None
place_if_read form number (Err flaw) = None

-- where the text of a value stands, if it stands elsewhere and can be read
abbrev pub text_place : TextSource → Value → Option TextPlace
text_place s (Values.text_reference form n) = place_if_read form n (text_named s (Values.text_reference form n))
text_place s _ = None

-- where the texts of a unit stand
abbrev pub text_places : Sections → Unit → List TextPlace
text_places s u = let source = texts_of_unit s u.header in flat_map (λ e. filter_map (λ a. text_place source a.1) e.attributes) u.entries

-- whether two texts stand in one place, if they are equal
abbrev pub share_place : TextPlace → TextPlace → Bool
share_place p q = if bytes_eq p.bytes q.bytes then (p.form == q.form) && (p.number == q.number) else true

-- whether all of some texts do
abbrev pub all_share : List TextPlace → Bool
all_share ps = list_all (λ p. list_all (share_place p) ps) ps

-- Equal texts of sections stand in one place.
abbrev pub HasTextsOnce : Sections → Type 0
HasTextsOnce s = IsTrue (all_share (flat_map (text_places s) (units s).items))
