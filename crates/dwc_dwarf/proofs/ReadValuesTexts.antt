-- A text that a value names has no zero byte.
use Rattle.std.proofs.Common.{◌≡◌, ℕ, ◌<◌, ap, List, Option, Some, None, Result, Ok, Err}
use Rattle.std.specs.Prelude.{drop}
use Rattle.std.specs.List.{All}
use Rattle.std.specs.Option.{IfSome}
use Rattle.dwc_base.specs.declared.records.Endian.{Endian}
use Rattle.dwc_base.specs.Reading.{◌>>=◌, text_at}
use Rattle.dwc_dwarf.specs.Values.{Value, address, address_index, constant, flag, block, expression, text, text_reference, line_reference, range_reference, range_index, location_reference, location_index, unit_reference, info_reference, dropped}
use Rattle.dwc_base.specs.declared.faults.Flaw.{Flaw}
use Rattle.dwc_base.specs.declared.faults.Flaw.TheVariants.{EndsEarly}
use Rattle.dwc_base.specs.declared.faults.What.TheVariants.{Text}
use Rattle.dwc_base.specs.declared.section_name.SectionName.TheVariants.{Info}
use Rattle.dwc_base.specs.Sections.{Sections, Fault, reported}
use Rattle.dwc_base.specs.Units.{UnitHeader}
use Rattle.dwc_dwarf.specs.Indexed.{texts_of_unit, text_in_unit}
use Rattle.dwc_dwarf.specs.Texts.{TextSource, text_in, offset_of_text, texts_of_form, text_elsewhere, text_named}
use Rattle.dwc_dwarf.specs.ReadValues.{IsReadValue}
use Rattle.dwc_base.proofs.ReadValuesParts.{Holds, Holds-bind, Holds-behind, Holds-at, text_at-plain}

-- no byte of a text is 0
abbrev IsPlain : List ℕ → Type 0
IsPlain bytes = All (λ b. 0 < b) bytes

text_in-plain : (order : Endian) (section : List ℕ) (offset : ℕ) → Holds IsPlain (text_in order section offset)
text_in-plain order section offset = Holds-bind (text_at (record { order = order; place = offset; left = drop offset section })) _ (text_at-plain (record { order = order; place = offset; left = drop offset section })) (λ found i. record { held = i })

text_elsewhere-plain : (src : TextSource) (form n : ℕ) → Holds IsPlain (text_elsewhere src form n)
unfolding text_elsewhere
text_elsewhere-plain src form n = go (texts_of_form src form)
  where
    go : (o : Option (List ℕ)) → Holds {A = List ℕ} IsPlain (elim o [ Some section ↦ text_in src.order section n | None ↦ (offset_of_text src n >>= λ offset. text_in src.order src.strings offset) ])
    go (Some section) = text_in-plain src.order section n
    go None = Holds-behind (offset_of_text src n) _ (λ offset. text_in-plain src.order src.strings offset)

-- A text elsewhere, by the form and number of the value that names it.
pub text_elsewhere-read : (src : TextSource) (form n : ℕ) (bytes : List ℕ) → text_elsewhere src form n ≡ Ok bytes → All (λ b. 0 < b) bytes
text_elsewhere-read src form n bytes e = Holds-at bytes (text_elsewhere-plain src form n) e

text_named-plain : (src : TextSource) (name : ℕ) (v : Value) → IsReadValue name v → Holds (λ o. IfSome o IsPlain) (text_named src v)
unfolding text_named
text_named-plain src name (text bytes) i = record { held = i }
text_named-plain src name (text_reference form n) i = Holds-bind (text_elsewhere src form n) _ (text_elsewhere-plain src form n) (λ bytes j. record { held = j })
text_named-plain src name (address a) i = record { held = tt }
text_named-plain src name (address_index n) i = record { held = tt }
text_named-plain src name (constant form n) i = record { held = tt }
text_named-plain src name (flag b) i = record { held = tt }
text_named-plain src name (block bytes) i = record { held = tt }
text_named-plain src name (expression bytes) i = record { held = tt }
text_named-plain src name (line_reference n) i = record { held = tt }
text_named-plain src name (range_reference n) i = record { held = tt }
text_named-plain src name (range_index n) i = record { held = tt }
text_named-plain src name (location_reference n) i = record { held = tt }
text_named-plain src name (location_index n) i = record { held = tt }
text_named-plain src name (unit_reference n) i = record { held = tt }
text_named-plain src name (info_reference n) i = record { held = tt }
text_named-plain src name dropped i = record { held = tt }

-- The text that a value names which was read under a name.
pub text-read : (src : TextSource) (name : ℕ) (v : Value) (bytes : List ℕ) → IsReadValue name v → text_named src v ≡ Ok (Some bytes) → All (λ b. 0 < b) bytes
text-read src name v bytes i e = Holds-at (Some bytes) (text_named-plain src name v i) e

-- The same by the call of a unit, which tells the unit's place where there is no text.
pub text_in_unit-read : (s : Sections) (h : UnitHeader) (name : ℕ) (v : Value) (bytes : List ℕ) → IsReadValue name v → text_in_unit s h v ≡ Ok (Some bytes) → All (λ b. 0 < b) bytes
text_in_unit-read s h name v bytes i e = go (text_named (texts_of_unit s h) v) (text_named-plain (texts_of_unit s h) name v i) e
  where
    go : (r : Result (Option (List ℕ)) Flaw) → Holds (λ o. IfSome o IsPlain) r → reported Text Info h.offset r ≡ Ok (Some bytes) → IsPlain bytes
    go (Ok o) k e = Holds-at {P = λ o. IfSome o IsPlain} {r = Ok o} (Some bytes) k (ap again e)
      where
        again : Result (Option (List ℕ)) Fault → Result (Option (List ℕ)) Flaw
        again (Ok x) = Ok x
        again (Err fault) = Err EndsEarly
    go (Err flaw) k e = absurd (cc)
