-- Numbers of three bytes, and fields past the end of their section.
use Rattle.std.proofs.Common.{◌≡◌, ℕ, zero, suc, ◌<◌, ◌≤◌, refl, arith, List, [], ◌∷◌, length, get_or, drop, length-drop, None, IsTrue}
use Rattle.dwc_base.specs.declared.records.Endian.{Endian}
use Rattle.dwc_base.specs.declared.faults.Flaw.TheVariants.{EndsEarly}
use Rattle.dwc_base.specs.declared.section_name.SectionName.{SectionName}
use Rattle.dwc_base.specs.Reading.{number}
use Rattle.dwc_base.specs.Sections.{Sections, section_from, address_at}
use Rattle.dwc_base.proofs.ReadSteps.{bytes_at-short, number_at-no_bytes}
use Rattle.dwc_base.specs.FieldSizes.{is_field_size}
use Rattle.dwc_read.specs.Views.{field_at}

-- the number that three bytes spell is that of their list
pub number-three : (order : Endian) (bytes : List ℕ) → length bytes ≡ 3 → number order bytes ≡ number order (get_or bytes 0 0 ∷ get_or bytes 1 0 ∷ get_or bytes 2 0 ∷ [])
number-three order [] h = absurd (omega arith)
number-three order (a ∷ []) h = absurd (omega arith)
number-three order (a ∷ b ∷ []) h = absurd (omega arith)
number-three order (a ∷ b ∷ c ∷ []) h = refl
number-three order (a ∷ b ∷ c ∷ d ∷ bs) h = absurd (omega arith)

pub field_size-some : (size : ℕ) → IsTrue (is_field_size size) → 0 < size
field_size-some zero h = absurd (cc)
field_size-some (suc size) h = omega arith

-- a field past the end of its section holds no address
pub field_at-past : (s : Sections) (name : SectionName) (offset size : ℕ) → length (s.bytes name) ≤ offset → 0 < size → field_at s name offset size ≡ None
unfolding address_at
field_at-past s name offset size past some =
    let short : length (drop offset (s.bytes name)) < size = omega (arith, length-drop offset (s.bytes name)) in
    rw (number_at-no_bytes size (section_from s name offset) EndsEarly (bytes_at-short size (section_from s name offset) short), address_at) refl
