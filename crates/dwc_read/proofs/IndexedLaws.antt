-- What stands by an offset or by an index, past the end of its section.
use Rattle.std.proofs.Common.{◌≡◌, ℕ, ◌+◌, ◌*◌, ◌<◌, ◌≤◌, refl, ap, arith, List, drop, length, length-drop, Ok, Err, Some}
use Rattle.dwc_base.specs.declared.records.Endian.{Endian}
use Rattle.dwc_base.specs.declared.faults.Flaw.TheVariants.{EndsEarly}
use Rattle.dwc_base.specs.declared.section_name.SectionName.TheVariants.{Addr}
use Rattle.dwc_base.specs.Reading.{Unread, ◌>>=◌, number_at, text_at}
use Rattle.dwc_base.specs.Sections.{Sections, address_at}
use Rattle.dwc_base.specs.Units.{UnitHeader}
use Rattle.dwc_dwarf.specs.LineHeaders.{text_in}
use Rattle.dwc_dwarf.specs.Texts.{TextSource, offset_of_text}
use Rattle.dwc_dwarf.specs.Indexed.{address_from}
use Rattle.dwc_base.proofs.ReadSteps.{bytes_at-short, number_at-no_bytes}
use Rattle.dwc_read.proofs.AttributeLaws.{drop-past}

-- a number, a text and an address
number_at-past : (size : ℕ) (order : Endian) (bytes : List ℕ) (place : ℕ) → 0 < size → length bytes ≤ place → number_at size (record { order = order; place = place; left = drop place bytes }) ≡ Err EndsEarly
number_at-past size order bytes place some past =
    let u : Unread = record { order = order; place = place; left = drop place bytes } in
    let short : length (drop place bytes) < size = omega (arith, length-drop place bytes) in
    number_at-no_bytes size u EndsEarly (bytes_at-short size u short)

pub offset_of_text-past : (s : TextSource) (index : ℕ) → length s.offsets ≤ s.base + 4 * index → offset_of_text s index ≡ Err EndsEarly
offset_of_text-past s index past = rw (number_at-past 4 s.order s.offsets (s.base + 4 * index) (omega arith) past) refl

pub text_in-past : (order : Endian) (section : List ℕ) (offset : ℕ) → length section ≤ offset → text_in order section offset ≡ Err EndsEarly
unfolding text_at
text_in-past order section offset past =
    ap (λ left. text_at (record { order = order; place = offset; left = left }) >>= λ found. Ok found.0) (drop-past section offset past)

pub address_from-past : (s : Sections) (h : UnitHeader) (base index : ℕ) → 0 < h.address_size → length (s.bytes Addr) ≤ base + h.address_size * index → address_from s h (Some base) index ≡ Err EndsEarly
unfolding address_from address_at
address_from-past s h base index some past = rw (number_at-past h.address_size s.order (s.bytes Addr) (base + h.address_size * index) some past, address_from, address_at) refl
