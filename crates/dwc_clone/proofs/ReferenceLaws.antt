-- What references that are made say.
use Rattle.std.proofs.Common.{◌≡◌, ℕ, ◌+◌, ◌<◌, ◌≤◌, ◌-◌, ◌^◌, refl, sym, ap, ◌∙◌, arith, List, length, Bool, true, false, Option, Some, None}
use Rattle.std.specs.Prelude.{if◌then◌else◌, nat_lt, option_map, option_and_then}
use Rattle.std.proofs.lemmas.Bool.{ltb-true}
use Rattle.std.proofs.lemmas.List.Elements.{All-nil}
use Rattle.dwc_dwarf.specs.Values.{Value, unit_reference}
use Rattle.dwc_rules.specs.Kept.{Placed}
use Rattle.dwc_rules.specs.Targets.{target_of}
use Rattle.dwc_dwarf.specs.Trees.{TreeValue, entry}
use Rattle.dwc_rules.specs.Drafts.{itself, Goal, made_of, goes_to}
use Rattle.dwc_rules.specs.Clones.{UnitSource, reference_becomes}
use Rattle.dwc_kept.specs.ReadEntries.{named_offset}
use Rattle.dwc_source.specs.declared.source.CloneSource.{CloneSource}
use Rattle.dwc_source.specs.OutputPlaces.{place_of}
use Rattle.dwc_source.specs.Sources.{IsSource}
use Rattle.dwc_source.specs.MadeValues.{ArePlaced, Says, wanted_value, own_reference, any_reference, target_place}

-- what a reference to an entry at a place says
abbrev entry_at : ℕ × ℕ → TreeValue
entry_at p = entry p.0 p.1

-- What a reference is to say is the entry at the place that it goes to.
reference-wanted : (goals : Goal → Option (ℕ × ℕ)) (c : CloneSource) (number : ℕ) (s : UnitSource) (e : Placed) (v : Value) → ArePlaced c.places.now goals → IsSource c number s → e.unit ≡ c.unit.now.header.offset → wanted_value goals (reference_becomes s e v) ≡ option_map entry_at (target_place c v)
reference-wanted goals c number s e v at source unit = go (target_of s.entries e v) ∙ ap (option_map entry_at) (source.targets e v unit)
  where
    go : (o : Option Placed) → wanted_value goals (option_map (λ f. goes_to (made_of f.entry.offset itself)) o) ≡ option_map entry_at (option_and_then (λ f. place_of c.places.now f.entry.offset) o)
    go None = refl
    go (Some f) = ap (option_map entry_at) (at f.entry.offset)

-- what it is to say, whatever numbers other entries have
abbrev Wants : CloneSource → UnitSource → Placed → Value → Option (ℕ × ℕ) → Type 0
Wants c s e v o = (goals : Goal → Option (ℕ × ℕ)) → ArePlaced c.places.now goals → wanted_value goals (reference_becomes s e v) ≡ option_map entry_at o

-- A reference to any entry says it.
pub any-says : (c : CloneSource) (number name : ℕ) (texts : List (List ℕ)) (s : UnitSource) (e : Placed) (v : Value) → IsSource c number s → e.unit ≡ c.unit.now.header.offset → Says c.places.now number name texts (reference_becomes s e v) (option_map any_reference (target_place c v))
any-says c number name texts s e v source unit = go (target_place c v) (λ goals at. reference-wanted goals c number s e v at source unit)
  where
    go : (o : Option (ℕ × ℕ)) → Wants c s e v o → Says c.places.now number name texts (reference_becomes s e v) (option_map any_reference o)
    go None wanted = record { means = λ goals at. sym (wanted goals at); fits = λ size. tt; texts = tt }
    go (Some p) wanted = record { means = λ goals at. sym (wanted goals at); fits = λ size. tt; texts = All-nil (λ n. n < length texts) }

-- What a reference within a unit names is in the unit.
pub record IsWithin (unit end offset : ℕ) : Type 0 where
  pub low : unit ≤ offset
  pub high : offset < end

pub named-within : (unit end n offset : ℕ) → named_offset unit end (unit_reference n) ≡ Some offset → IsWithin unit end offset
named-within unit end n offset named = go (nat_lt n (end - unit)) (nat_lt (unit + n) (2 ^ 32)) refl named
  where
    go : (b c : Bool) → nat_lt n (end - unit) ≡ b → (if b then (if c then Some (unit + n) else None) else None) ≡ Some offset → IsWithin unit end offset
    go true true less same =
        let inside = ltb-true n (end - unit) less in
        let is : unit + n ≡ offset = cc in
        record { low = omega (arith, is); high = omega (arith, is, inside) }
    go true false less same = absurd (cc)
    go false c less same = absurd (cc)

-- A reference within its unit says the entry.
pub own-says : (c : CloneSource) (number name : ℕ) (texts : List (List ℕ)) (s : UnitSource) (e : Placed) (n : ℕ) → IsSource c number s → e.unit ≡ c.unit.now.header.offset → Says c.places.now number name texts (reference_becomes s e (unit_reference n)) (option_map own_reference (target_place c (unit_reference n)))
own-says c number name texts s e n source unit = named (named_offset c.unit.now.header.offset c.unit.now.header.end (unit_reference n)) refl (λ goals at. reference-wanted goals c number s e (unit_reference n) at source unit)
  where
    goal : Option (ℕ × ℕ) → Type 0
    goal o = Says c.places.now number name texts (reference_becomes s e (unit_reference n)) (option_map own_reference o)

    placed : (o : Option (ℕ × ℕ)) → ((p : ℕ × ℕ) → o ≡ Some p → p.0 ≡ number) → Wants c s e (unit_reference n) o → goal o
    placed None own wanted = record { means = λ goals at. sym (wanted goals at); fits = λ size. tt; texts = tt }
    placed (Some p) own wanted = record { means = λ goals at. ap (λ m. Some (entry m p.1)) (sym (own p refl)) ∙ sym (wanted goals at); fits = λ size. tt; texts = All-nil (λ n. n < length texts) }

    named : (o : Option ℕ) → named_offset c.unit.now.header.offset c.unit.now.header.end (unit_reference n) ≡ o → Wants c s e (unit_reference n) (option_and_then (place_of c.places.now) o) → goal (option_and_then (place_of c.places.now) o)
    named None is wanted = placed None (λ p same. absurd (cc)) wanted
    named (Some offset) is wanted =
        let within = named-within c.unit.now.header.offset c.unit.now.header.end n offset is in
        placed (place_of c.places.now offset) (λ p same. source.own offset p within.low within.high same) wanted
