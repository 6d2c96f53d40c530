-- What is made of the values of attributes, and of attributes in order.
use Rattle.std.specs.Prelude.{◌≡◌, ℕ, ◌<◌, List, ◌++◌, length, All, IfSome, Bool, true, false, Option, Some, None, option_map, option_and_then, Result, Ok, Err}
use Rattle.dwc_rules.specs.Refusals.{Refusal}
use Rattle.dwc_dwarf.specs.Trees.{TreeValue}
use Rattle.dwc_rules.specs.Drafts.{itself, Goal, made_of, DraftValue}
use Rattle.dwc_rules.specs.DraftForests.{settled_value}
use Rattle.dwc_dwarf.specs.Values.{Value, address, address_index}
use Rattle.dwc_kept.specs.ReadEntries.{named_offset}
use Rattle.dwc_unit.specs.declared.attributes.AttributeValue.{AttributeValue}
use Rattle.dwc_unit.specs.declared.attributes.AttributeValue.TheVariants.{UnitRef, DebugInfoRef}
use Rattle.dwc_unit.specs.declared.attributes.DebugInfoRef.TheVariants.{Entry}
use Rattle.dwc_unit.specs.GivenUnits.{FitsValue}
use Rattle.dwc_unit.specs.UsedTexts.{text_of_value}
use Rattle.dwc_unit.specs.AddedInOrder.{value_meant}
use Rattle.dwc_source.specs.declared.error.CloneError.{CloneError}
use Rattle.dwc_source.specs.declared.places.EmittedEntry.{EmittedEntry}
use Rattle.dwc_source.specs.declared.source.CloneSource.{CloneSource}
use Rattle.dwc_source.specs.Errors.{refusal_told}
use Rattle.dwc_source.specs.OutputPlaces.{place_of}

-- ---- answers

-- A refusal is for want of memory, or for what is refused of the input.
abbrev pub RefusesSo : {A : Type 0} → Result A Refusal → Option Refusal → Type 0
RefusesSo read None = Unit {0}
RefusesSo read (Some refusal) = read ≡ Err refusal

-- Something becomes what is answered; or what is refused of it is told.
pub record IsMade {A X : Type 0} (has : A → X → Type 0) (read : Result A Refusal) (x : X) : Type 0 where
  pub drafted : A
  pub is : read ≡ Ok drafted
  pub made : has drafted x

abbrev pub GivesMade : {A X : Type 0} → (A → X → Type 0) → Result A Refusal → Result X CloneError → Type 0
GivesMade has read (Ok x) = IsMade has read x
GivesMade has read (Err e) = RefusesSo read (refusal_told e)

-- ---- values

-- A table of texts has what it had, and may have more behind it.
pub record Grows (old new : List (List ℕ)) : Type 0 where
  pub more : List (List ℕ)
  pub is : new ≡ old ++ more

-- the texts that a value names are in a table
abbrev pub HasTexts : List (List ℕ) → AttributeValue → Type 0
HasTexts texts v = All (λ n. n < length texts) (text_of_value v)

-- What is made of an entry itself has the number that is told of it.
abbrev pub ArePlaced : List EmittedEntry → (Goal → Option (ℕ × ℕ)) → Type 0
ArePlaced places goals = (offset : ℕ) → goals (made_of offset itself) ≡ place_of places offset

-- what a draft's value is to say, where goals have some numbers
abbrev pub wanted_value : (Goal → Option (ℕ × ℕ)) → Option DraftValue → Option TreeValue
wanted_value goals draft = option_and_then (settled_value goals) draft

-- A value of the output, or none, says what a draft's value is to say, in the unit of a number, under a name, whatever numbers other
-- entries have than those that are made of one itself.
pub record Says (places : List EmittedEntry) (number name : ℕ) (table : List (List ℕ)) (draft : Option DraftValue) (v : Option AttributeValue) : Type 0 where
  pub means : (goals : Goal → Option (ℕ × ℕ)) → ArePlaced places goals → option_map (value_meant table number) v ≡ wanted_value goals draft
  pub fits : (size : ℕ) → IfSome v (FitsValue size name)
  pub texts : IfSome v (HasTexts table)

-- The same, with a table of texts that has grown.
pub record SaysMore (places : List EmittedEntry) (number name : ℕ) (old new : List (List ℕ)) (draft : Option DraftValue) (v : Option AttributeValue) : Type 0 where
  pub grows : Grows old new
  pub says : Says places number name new draft v

-- whether a value is an address, in place or by an index
abbrev pub is_address : Value → Bool
is_address (address a) = true
is_address (address_index i) = true
is_address _ = false

-- ---- references

-- a reference to an entry at a place of the output: of its own unit, and of any unit
abbrev pub own_reference : ℕ × ℕ → AttributeValue
own_reference p = UnitRef (record { index = p.1 })

abbrev pub any_reference : ℕ × ℕ → AttributeValue
any_reference p = DebugInfoRef (Entry (record { index = p.0 }) (record { index = p.1 }))

-- where the entry stands in the output that a value goes to
abbrev pub target_place : CloneSource → Value → Option (ℕ × ℕ)
target_place c v = option_and_then (place_of c.places.now) (named_offset c.unit.now.header.offset c.unit.now.header.end v)
