-- Texts that are found by the places where they stand.
use Rattle.std.proofs.Common.{◌≡◌, ℕ, ◌<◌, refl, subst, sym, ap, ◌∙◌, arith, List, [], ◌++◌, length, true, is_some, Option, Some, None, Result, Ok, Err, IfSome}
use Rattle.std.specs.Prelude.{option_and_then, option_map}
use Rattle.std.specs.List.{position_or_len}
use Rattle.std.specs.Str.{bytes_eq}
use Rattle.std.proofs.lemmas.List.{get_or_append_left, length-append}
use Rattle.std.proofs.lemmas.List.Elements.{All-nil, All-cons}
use Rattle.dwc_base.specs.declared.faults.Flaw.{Flaw}
use Rattle.dwc_base.specs.declared.section_name.SectionName.TheVariants.{Info}
use Rattle.dwc_base.specs.declared.faults.What.TheVariants.{Text}
use Rattle.dwc_base.specs.Reading.{◌>>=◌}
use Rattle.dwc_base.specs.Sections.{Fault, Sections, fault_of, reported}
use Rattle.dwc_base.specs.Units.{UnitHeader}
use Rattle.dwc_dwarf.specs.Values.{Value}
use Rattle.dwc_dwarf.specs.Texts.{text_named}
use Rattle.dwc_dwarf.specs.Indexed.{texts_of_unit}
use Rattle.dwc_dwarf.specs.TreeLaws.{with_new_text}
use Rattle.dwc_dwarf.specs.Trees.{text}
use Rattle.dwc_rules.specs.Refusals.{of_place}
use Rattle.dwc_rules.specs.Drafts.{done}
use Rattle.dwc_rules.specs.Clones.{text_drafted}
use Rattle.dwc_read.specs.declared.text_place.TextPlace.{TextPlace}
use Rattle.dwc_read.specs.Faults.{Refuses}
use Rattle.dwc_read.specs.TextPlaces.{text_at_place, text_place_named}
use Rattle.dwc_read.proofs.TextPlaceLaws.{text_named-placed, text_named-unplaced}
use Rattle.dwc_unit.specs.declared.attributes.AttributeValue.TheVariants.{StringRef}
use Rattle.dwc_unit.specs.declared.strings.StringId.{StringId}
use Rattle.dwc_unit.specs.UsedTexts.{text_numbered}
use Rattle.dwc_source.specs.declared.places.EmittedEntry.{EmittedEntry}
use Rattle.dwc_source.specs.declared.known_texts.KnownTexts.{KnownTexts}
use Rattle.dwc_source.specs.KnownTexts.{IsKnown, IsNumbered, IsRead, KnowsTexts, noted}
use Rattle.dwc_source.specs.MadeValues.{Grows, IsMade, RefusesSo, SaysMore}
use Rattle.dwc_source.proofs.TextLaws.{Grows-same, IsAdded, added, reported-ok}

-- ---- a table that grows

-- A text keeps its number.
pub numbered-grown : (old new : List (List ℕ)) (t : List ℕ) (id : StringId) → Grows old new → IsNumbered old t id → IsNumbered new t id
numbered-grown old new t id grows is =
    let inside : id.index < length (old ++ grows.more) = omega (arith, length-append old grows.more, is.inside) in
    record {
      inside = subst (λ (ts : List (List ℕ)). id.index < length ts) (sym grows.is) inside;
      is = ap (λ ts. text_numbered ts id.index) grows.is ∙ (get_or_append_left old grows.more [] id.index is.inside ∙ is.is);
    }

-- Texts that are known stay so.
pub known-grown : (s : Sections) (old new : List (List ℕ)) (known : KnownTexts) → Grows old new → KnowsTexts s old known → KnowsTexts s new known
known-grown s old new known grows knows = record { each = λ place. go place (noted known place) (knows.each place) }
  where
    number : (t : List ℕ) (id : Option StringId) → IfSome id (IsNumbered old t) → IfSome id (IsNumbered new t)
    number t None is = is
    number t (Some id) is = numbered-grown old new t id grows is

    go : (place : TextPlace) (o : Option (Option StringId)) → IfSome o (IsKnown old (text_at_place s place)) → IfSome o (IsKnown new (text_at_place s place))
    go place None is = is
    go place (Some id) is = record { found = is.found; is = is.is; number = number is.found id is.number }

-- ---- a value of a unit

module _ (s : Sections) (h : UnitHeader) (v : Value) (offset : ℕ) where
  -- Where the place cannot be read, the text cannot be, for the same fault.
  pub unplaced-told : (fault : Option Fault) → Refuses (reported Text Info offset (text_place_named (texts_of_unit s h) v)) fault → Refuses (reported Text Info offset (text_named (texts_of_unit s h) v)) fault
  unplaced-told None refused = tt
  unplaced-told (Some fault) refused = go (text_place_named (texts_of_unit s h) v) (text_named-unplaced s h v) refused
    where
      go : (r : Result (Option TextPlace) Flaw) → ((flaw : Flaw) → r ≡ Err flaw → text_named (texts_of_unit s h) v ≡ Err flaw) → reported Text Info offset r ≡ Err fault → reported Text Info offset (text_named (texts_of_unit s h) v) ≡ Err fault
      go (Ok place) unplaced is = absurd (cc)
      go (Err flaw) unplaced is =
          let same : fault_of Text Info offset flaw ≡ fault = cc in
          ap (reported Text Info offset) (unplaced flaw refl) ∙ ap (λ f. Err f) same

  pub unplaced-refused : (fault : Option Fault) → Refuses (reported Text Info offset (text_place_named (texts_of_unit s h) v)) fault → RefusesSo (text_drafted of_place (reported Text Info offset (text_named (texts_of_unit s h) v))) (option_map of_place fault)
  unplaced-refused None refused = tt
  unplaced-refused (Some fault) refused = ap (text_drafted of_place) (unplaced-told (Some fault) refused)

  -- A text whose place is known is the one of the number that is noted.
  pub known-says : (places : List EmittedEntry) (number name : ℕ) (texts : List (List ℕ)) (known : KnownTexts) (place : Option TextPlace) (id : StringId) → KnowsTexts s texts known
      → reported Text Info offset (text_place_named (texts_of_unit s h) v) ≡ Ok place → Some (Some id) ≡ option_and_then (noted known) place
      → IsMade (SaysMore places number name texts texts) (text_drafted of_place (reported Text Info offset (text_named (texts_of_unit s h) v))) (Some (StringRef id))
  known-says places number name texts known None id knows is found = absurd (cc)
  known-says places number name texts known (Some place) id knows is found =
      let numbered = subst (λ o. IfSome o (IsKnown texts (text_at_place s place))) (sym found) (knows.each place) in
      let named = text_named-placed s h v place (reported-ok Text Info offset (text_place_named (texts_of_unit s h) v) (Some place) is) ∙ ap (λ (r : Result (List ℕ) Flaw). r >>= λ bytes. Ok (Some bytes)) numbered.is in
      record {
        drafted = Some (done (text numbered.found));
        is = ap (λ r. text_drafted of_place (reported Text Info offset r)) named;
        made = record { grows = Grows-same texts; says = record { means = λ goals at. ap (λ b. Some (text b)) numbered.number.is; fits = λ size. tt; texts = All-cons (λ n. n < length texts) id.index [] numbered.number.inside (All-nil (λ n. n < length texts)) } };
      }

  -- A text that was read and added is the one at its place, and those that were known stay so.
  pub added-known : (old new : List (List ℕ)) (known : KnownTexts) (t : List ℕ) (id : StringId) (place : Option TextPlace) → KnowsTexts s old known → new ≡ with_new_text old t → id ≡ record { index = position_or_len (bytes_eq t) old }
      → reported Text Info offset (text_place_named (texts_of_unit s h) v) ≡ Ok place → reported Text Info offset (text_named (texts_of_unit s h) v) ≡ Ok (Some t)
      → KnowsTexts s new known × IfSome place (λ p. IsKnown new (text_at_place s p) (Some id))
  added-known old new known t id place knows is at placed read = (known-grown s old new known has.grows knows, numbered place placed)
    where
      has : IsAdded t old new id.index
      has = rw (is, ap (λ (i : StringId). i.index) at) (added t old)

      go : (r : Result (List ℕ) Flaw) → (r >>= λ bytes. Ok (Some bytes)) ≡ Ok (Some t) → r ≡ Ok t
      go (Ok bytes) is = cc
      go (Err flaw) is = absurd (cc)

      numbered : (place : Option TextPlace) → reported Text Info offset (text_place_named (texts_of_unit s h) v) ≡ Ok place → IfSome place (λ p. IsKnown new (text_at_place s p) (Some id))
      numbered None placed = tt
      numbered (Some place) placed =
          let named = text_named-placed s h v place (reported-ok Text Info offset (text_place_named (texts_of_unit s h) v) (Some place) placed) in
          let same = sym named ∙ reported-ok Text Info offset (text_named (texts_of_unit s h) v) (Some t) read in
          record { found = t; is = go (text_at_place s place) same; number = record { inside = has.inside; is = has.is } }

  -- A text whose place is known can be read.
  pub known-read : (texts : List (List ℕ)) (known : KnownTexts) (place : Option TextPlace) → KnowsTexts s texts known → reported Text Info offset (text_place_named (texts_of_unit s h) v) ≡ Ok place → is_some (option_and_then (noted known) place) ≡ true
      → IsRead (reported Text Info offset (text_named (texts_of_unit s h) v))
  known-read texts known None knows is found = absurd (cc)
  known-read texts known (Some place) knows is found = go (noted known place) (knows.each place) found
    where
      placed : text_named (texts_of_unit s h) v ≡ (text_at_place s place >>= λ bytes. Ok (Some bytes))
      placed = text_named-placed s h v place (reported-ok Text Info offset (text_place_named (texts_of_unit s h) v) (Some place) is)

      go : (o : Option (Option StringId)) → IfSome o (IsKnown texts (text_at_place s place)) → is_some o ≡ true → IsRead (reported Text Info offset (text_named (texts_of_unit s h) v))
      go None is found = absurd (cc)
      go (Some id) is found = record { found = Some is.found; is = ap (reported Text Info offset) (placed ∙ ap (λ (r : Result (List ℕ) Flaw). r >>= λ bytes. Ok (Some bytes)) is.is) }

  -- A text that was read can be read at its place.
  pub read-placed : (texts : List (List ℕ)) (place : Option TextPlace) (o : Option (List ℕ)) → reported Text Info offset (text_place_named (texts_of_unit s h) v) ≡ Ok place → reported Text Info offset (text_named (texts_of_unit s h) v) ≡ Ok o → IfSome place (λ p. IsKnown texts (text_at_place s p) None)
  read-placed texts None o placed read = tt
  read-placed texts (Some place) o placed read = go (text_at_place s place) (sym named ∙ reported-ok Text Info offset (text_named (texts_of_unit s h) v) o read)
    where
      named : text_named (texts_of_unit s h) v ≡ (text_at_place s place >>= λ bytes. Ok (Some bytes))
      named = text_named-placed s h v place (reported-ok Text Info offset (text_place_named (texts_of_unit s h) v) (Some place) placed)

      go : (r : Result (List ℕ) Flaw) → (r >>= λ bytes. Ok (Some bytes)) ≡ Ok o → IsKnown texts r None
      go (Ok bytes) is = record { found = bytes; is = refl; number = tt }
      go (Err flaw) is = absurd (cc)
