-- The text that a value names stands where the value says.
use Rattle.std.proofs.Common.{◌≡◌, ℕ, refl, ap, ◌∙◌, List, Bool, true, false, Option, Some, None, Result, Ok, Err}
use Rattle.std.specs.Prelude.{if◌then◌else◌, ◌==◌}
use Rattle.dwc_base.specs.declared.faults.Flaw.{Flaw}
use Rattle.dwc_base.specs.declared.faults.What.TheVariants.{Text}
use Rattle.dwc_base.specs.declared.constants.TheConstants.{DW_FORM_line_strp, DW_FORM_strp}
use Rattle.dwc_base.specs.declared.section_name.SectionName.TheVariants.{Info, LineStr, Str, StrOffsets}
use Rattle.dwc_base.specs.Reading.{◌>>=◌}
use Rattle.dwc_base.specs.Sections.{Sections, reported}
use Rattle.dwc_base.specs.Units.{UnitHeader}
use Rattle.dwc_dwarf.specs.Values as value
use Rattle.dwc_dwarf.specs.Values.{Value}
use Rattle.dwc_dwarf.specs.Texts.{offset_of_text, text_elsewhere, text_in, text_named}
use Rattle.dwc_dwarf.specs.Indexed.{index_base, text_base, texts_of_unit}
use Rattle.dwc_read.specs.declared.text_place.TextPlace.{TextPlace}
use Rattle.dwc_read.specs.Elsewhere.{texts_from}
use Rattle.dwc_read.specs.TextPlaces.{place_elsewhere, text_at_place, text_place_in_unit, text_place_named}

module _ (s : Sections) (h : UnitHeader) where
  pub text_place_in_unit-from : (base : ℕ) (v : Value) (r : Result (Option TextPlace) Flaw) → index_base s h StrOffsets ≡ Some base → text_place_named (texts_from s base) v ≡ r → text_place_in_unit s h v ≡ reported Text Info h.offset r
  unfolding texts_of_unit
  text_place_in_unit-from base v r begins named = rw (begins, texts_of_unit) (ap (reported Text Info h.offset) named)

-- What a number of a form names is the text at the place that it names, and cannot be read where that place cannot be.
elsewhere-placed : (s : Sections) (base form n : ℕ) → text_elsewhere (texts_from s base) form n ≡ (place_elsewhere (texts_from s base) form n >>= λ place. text_at_place s place)
unfolding text_elsewhere place_elsewhere
elsewhere-placed s base form n = go (DW_FORM_strp == form) (DW_FORM_line_strp == form)
  where
    indexed : (r : Result ℕ Flaw) → (r >>= λ offset. text_in s.order (s.bytes Str) offset) ≡ ((r >>= λ offset. Ok (record { section = Str; offset = offset })) >>= λ place. text_at_place s place)
    indexed (Ok offset) = refl
    indexed (Err flaw) = refl

    go : (b c : Bool)
        → elim (if b then Some (s.bytes Str) else (if c then Some (s.bytes LineStr) else None)) [
          | Some section ↦ text_in s.order section n
          | None ↦ (offset_of_text (texts_from s base) n >>= λ offset. text_in s.order (s.bytes Str) offset)
        ]
        ≡ (elim (if b then Some Str else (if c then Some LineStr else None)) [
          | Some section ↦ Ok (record { section = section; offset = n })
          | None ↦ (offset_of_text (texts_from s base) n >>= λ offset. Ok (record { section = Str; offset = offset }))
        ] >>= λ place. text_at_place s place)
    go true c = refl
    go false true = refl
    go false false = indexed (offset_of_text (texts_from s base) n)

-- The text of a value stands at the place that the value names.
pub text_named-placed : (s : Sections) (h : UnitHeader) (v : Value) (place : TextPlace) → text_place_named (texts_of_unit s h) v ≡ Ok (Some place) → text_named (texts_of_unit s h) v ≡ (text_at_place s place >>= λ bytes. Ok (Some bytes))
unfolding text_named text_place_named texts_of_unit
text_named-placed s h (value.text_reference form n) place is = ap (λ (r : Result (List ℕ) Flaw). r >>= λ bytes. Ok (Some bytes)) (elsewhere-placed s (text_base s h) form n ∙ go (place_elsewhere (texts_from s (text_base s h)) form n) is)
  where
    go : (r : Result TextPlace Flaw) → (r >>= λ p. Ok (Some p)) ≡ Ok (Some place) → (r >>= λ p. text_at_place s p) ≡ text_at_place s place
    go (Ok p) is = let same : p ≡ place = cc in ap (text_at_place s) same
    go (Err flaw) is = absurd (cc)
text_named-placed s h _ place is = absurd (cc)

-- The text of a value whose place cannot be read cannot be read.
pub text_named-unplaced : (s : Sections) (h : UnitHeader) (v : Value) (flaw : Flaw) → text_place_named (texts_of_unit s h) v ≡ Err flaw → text_named (texts_of_unit s h) v ≡ Err flaw
unfolding text_named text_place_named texts_of_unit
text_named-unplaced s h (value.text_reference form n) flaw is = ap (λ (r : Result (List ℕ) Flaw). r >>= λ bytes. Ok (Some bytes)) (elsewhere-placed s (text_base s h) form n ∙ go (place_elsewhere (texts_from s (text_base s h)) form n) is)
  where
    go : (r : Result TextPlace Flaw) → (r >>= λ p. Ok (Some p)) ≡ Err flaw → (r >>= λ p. text_at_place s p) ≡ Err flaw
    go (Ok p) is = absurd (cc)
    go (Err other) is = cc
text_named-unplaced s h _ flaw is = absurd (cc)
