-- No frame section is longer than its widest size, where no LEB128 number has more than 10 bytes; and its relocations stand one behind
-- another in its body.
use Rattle.std.proofs.Common.{◌≡◌, ℕ, zero, suc, ◌+◌, ◌/◌, ◌<◌, ◌≤◌, List, [], ◌∷◌, ◌++◌, length, pos, arith, subst, refl, Some}
use Rattle.std.specs.Prelude.{replicate, sum_by, All, AllPairs}
use Rattle.std.specs.List.{flat_map}
use Rattle.std.proofs.lemmas.List.{length-append, length-replicate, length-reverse}
use Rattle.std.proofs.lemmas.List.Elements.{All-nil, All-cons}
use Rattle.std.proofs.lemmas.List.Kept.{AllPairs-cons}
use Rattle.std.proofs.lemmas.List.Sums.{sum_by-cons}
use Rattle.dwc_base.specs.declared.records.Endian.{Endian}
use Rattle.dwc_base.specs.declared.records.Endian.TheVariants.{Little, Big}
use Rattle.dwc_base.specs.declared.section_name.SectionName.TheVariants.{Frame}
use Rattle.dwc_base.specs.Sections.{section_text}
use Rattle.dwc_base.specs.Outputs.{function, section, OutputRelocation}
use Rattle.dwc_base.specs.NumberBytes.{low_bytes, number_bytes, uleb_bytes, sleb_bytes}
use Rattle.dwc_native.specs.CallFrames.{CommonEntry, FrameDescription}
use Rattle.dwc_output.specs.FrameSections.{FrameNumber, fixed, address_sized, uleb, sleb, frame_number_bytes, filling, filled, frame_entry_bytes, common_numbers, advancing_numbers, description_numbers, description_bytes, descriptions_relocations, frame_section}
use Rattle.dwc_output.specs.FramesCarried.{widest_number, widest_frame_entry, widest_frames}

-- a LEB128 number has 10 bytes at most
abbrev pub IsNarrow : FrameNumber → Type 0
IsNarrow (fixed count n) = Unit {0}
IsNarrow (address_sized n) = Unit {0}
IsNarrow (uleb n) = length (uleb_bytes n) ≤ 10
IsNarrow (sleb z) = length (sleb_bytes z) ≤ 10

low_bytes-length : (size n : ℕ) → length (low_bytes size n) ≡ size
low_bytes-length zero n = refl
low_bytes-length (suc size) n = omega (arith, low_bytes-length size (n / 256))

number_bytes-length : (order : Endian) (size n : ℕ) → length (number_bytes order size n) ≡ size
number_bytes-length Little size n = low_bytes-length size n
number_bytes-length Big size n = omega (arith, low_bytes-length size n, length-reverse (low_bytes size n))

number-fits : (order : Endian) (size : ℕ) (n : FrameNumber) → size ≤ 8 → IsNarrow n → length (frame_number_bytes order size n) ≤ widest_number n
number-fits order size (fixed count n) s h = omega (arith, number_bytes-length order count n)
number-fits order size (address_sized n) s h = omega (arith, number_bytes-length order size n, s)
number-fits order size (uleb n) s h = h
number-fits order size (sleb z) s h = h

-- all numbers are so
abbrev pub AreNarrow : List FrameNumber → Type 0
AreNarrow [] = Unit {0}
AreNarrow (n ∷ ns) = IsNarrow n × AreNarrow ns

numbers-fit : (order : Endian) (size : ℕ) (ns : List FrameNumber) → size ≤ 8 → AreNarrow ns → length (flat_map (frame_number_bytes order size) ns) ≤ sum_by widest_number ns
numbers-fit order size [] s h = omega arith
numbers-fit order size (n ∷ ns) s h =
    omega (arith, number-fits order size n s h.0, numbers-fit order size ns s h.1, length-append (frame_number_bytes order size n) (flat_map (frame_number_bytes order size) ns), sum_by-cons widest_number n ns)

-- an entry is filled with 7 bytes at most
filled-length : (order : Endian) (size : ℕ) (bytes : List ℕ) → length (filled order size bytes) ≡ 4 + length bytes + filling size (length bytes)
filled-length order size bytes =
    let count = filling size (length bytes) in
    let head = number_bytes order 4 (length bytes + count) in
    let parts : length (filled order size bytes) ≡ length ((head ++ bytes) ++ replicate {A = ℕ} count 0) = refl in
    omega (arith, parts, number_bytes-length order 4 (length bytes + count), length-append (head ++ bytes) (replicate {A = ℕ} count 0), length-append head bytes, length-replicate {A = ℕ} count 0)

filling-below : (size count : ℕ) → 0 < size → filling size count < size
filling-below size count positive = omega (arith, positive)

pub entry-fits : (order : Endian) (size : ℕ) (ns : List FrameNumber) → 0 < size → size ≤ 8 → AreNarrow ns → length (frame_entry_bytes order size ns) ≤ widest_frame_entry ns
unfolding frame_entry_bytes
entry-fits order size ns positive s h =
    let below = filling-below size (length (flat_map (frame_number_bytes order size) ns)) positive in
    omega (arith, filled-length order size (flat_map (frame_number_bytes order size) ns), numbers-fit order size ns s h, below, s)

-- all numbers of all descriptions are so
abbrev pub HaveNarrow : CommonEntry → List (ℕ × FrameDescription) → Type 0
HaveNarrow c [] = Unit {0}
HaveNarrow c (d ∷ ds) = AreNarrow (description_numbers c d.1) × HaveNarrow c ds

descriptions-fit : (order : Endian) (size : ℕ) (c : CommonEntry) (ds : List (ℕ × FrameDescription)) → 0 < size → size ≤ 8 → HaveNarrow c ds → length (flat_map (description_bytes order size c) ds) ≤ sum_by (λ x. widest_frame_entry (description_numbers c x.1)) ds
descriptions-fit order size c [] positive s h = omega arith
descriptions-fit order size c (d ∷ ds) positive s h =
    omega (
      arith,
      entry-fits order size (description_numbers c d.1) positive s h.0,
      descriptions-fit order size c ds positive s h.1,
      length-append (description_bytes order size c d) (flat_map (description_bytes order size c) ds),
      sum_by-cons (λ (x : ℕ × FrameDescription). widest_frame_entry (description_numbers c x.1)) d ds,
    )

-- The section is no longer than its widest size.
pub frame_section-fits : (order : Endian) (size : ℕ) (c : CommonEntry) (d : ℕ × FrameDescription) (ds : List (ℕ × FrameDescription)) → 0 < size → size ≤ 8 → AreNarrow (common_numbers c) → HaveNarrow c (d ∷ ds) → length (frame_section order size c (d ∷ ds)).body ≤ widest_frames (Some c) (d ∷ ds)
unfolding frame_section
frame_section-fits order size c d ds positive s common h =
    omega (
      arith,
      entry-fits order size (common_numbers c) positive s common,
      descriptions-fit order size c (d ∷ ds) positive s h,
      length-append (frame_entry_bytes order size (common_numbers c)) (flat_map (description_bytes order size c) (d ∷ ds)),
    )

-- ---- relocations

-- a relocation ends where another one begins, or before
abbrev IsBefore : OutputRelocation → OutputRelocation → Type 0
IsBefore a b = a.offset + a.size ≤ b.offset

-- the entry of a function has its relocations in the bytes from 4 on, behind which come its length and the instructions
entry-long : (order : Endian) (size : ℕ) (c : CommonEntry) (d : ℕ × FrameDescription) → 8 + size ≤ length (description_bytes order size c d)
unfolding frame_entry_bytes
entry-long order size c d =
    let rest = advancing_numbers c 0 (d.1).instructions in
    let bytes = flat_map (frame_number_bytes order size) (description_numbers c d.1) in
    let inner = flat_map (frame_number_bytes order size) (address_sized (d.1).length ∷ rest) in
    let parts : length bytes ≡ length (number_bytes order 4 0 ++ (number_bytes order size 0 ++ inner)) = refl in
    omega (
      arith,
      filled-length order size bytes,
      parts,
      length-append (number_bytes order 4 0) (number_bytes order size 0 ++ inner),
      length-append (number_bytes order size 0) inner,
      number_bytes-length order 4 0,
      number_bytes-length order size 0,
    )

-- none stands before the entry of its function
relocations-behind : (from : ℕ) (order : Endian) (size : ℕ) (c : CommonEntry) (place : ℕ) (ds : List (ℕ × FrameDescription)) → from ≤ place → All (λ r. from ≤ r.offset) (descriptions_relocations order size c place ds)
relocations-behind from order size c place [] before = All-nil (λ r. from ≤ r.offset)
relocations-behind from order size c place (d ∷ ds) before =
    let next = place + length (description_bytes order size c d) in
    let others = descriptions_relocations order size c next ds in
    let rest = relocations-behind from order size c next ds (omega (arith, before)) in
    let first : OutputRelocation = record { offset = place + 4; size = 4; target = section (section_text Frame); addend = pos 0 } in
    let second : OutputRelocation = record { offset = place + 8; size = size; target = function d.0; addend = pos 0 } in
    All-cons (λ r. from ≤ r.offset) first (second ∷ others) (omega (arith, before)) (All-cons (λ r. from ≤ r.offset) second others (omega (arith, before)) rest)

-- They stand one behind another.
pub relocations-rise : (order : Endian) (size : ℕ) (c : CommonEntry) (place : ℕ) (ds : List (ℕ × FrameDescription)) → AllPairs IsBefore (descriptions_relocations order size c place ds)
relocations-rise order size c place [] = λ i j d less within. absurd (omega (arith, within))
relocations-rise order size c place (d ∷ ds) =
    let next = place + length (description_bytes order size c d) in
    let others = descriptions_relocations order size c next ds in
    let long = entry-long order size c d in
    let of_address = relocations-behind (place + 8 + size) order size c next ds (omega (arith, long)) in
    let of_offset = relocations-behind (place + 4 + 4) order size c next ds (omega (arith, long)) in
    let first : OutputRelocation = record { offset = place + 4; size = 4; target = section (section_text Frame); addend = pos 0 } in
    let second : OutputRelocation = record { offset = place + 8; size = size; target = function d.0; addend = pos 0 } in
    AllPairs-cons IsBefore first (second ∷ others) (All-cons (IsBefore first) second others (omega arith) of_offset)
    (AllPairs-cons IsBefore second others of_address (relocations-rise order size c next ds))

-- They lie in the entries behind which the first one stands at a place.
pub relocations-inside : (order : Endian) (size : ℕ) (c : CommonEntry) (place : ℕ) (ds : List (ℕ × FrameDescription)) → All (λ r. r.offset + r.size ≤ place + length (flat_map (description_bytes order size c) ds)) (descriptions_relocations order size c place ds)
relocations-inside order size c place [] = All-nil _
relocations-inside order size c place (d ∷ ds) =
    let bytes = description_bytes order size c d in
    let all = flat_map (description_bytes order size c) ds in
    let next = place + length bytes in
    let others = descriptions_relocations order size c next ds in
    let first : OutputRelocation = record { offset = place + 4; size = 4; target = section (section_text Frame); addend = pos 0 } in
    let second : OutputRelocation = record { offset = place + 8; size = size; target = function d.0; addend = pos 0 } in
    let long = entry-long order size c d in
    let whole : length (bytes ++ all) ≡ length bytes + length all = length-append bytes all in
    let ends : next + length all ≡ place + length (bytes ++ all) = omega (arith, whole) in
    let rest = subst (λ end. All (λ r. r.offset + r.size ≤ end) others) ends (relocations-inside order size c next ds) in
    let Inside : OutputRelocation → Type 0 = λ r. r.offset + r.size ≤ place + length (bytes ++ all) in
    All-cons Inside first (second ∷ others) (omega (arith, whole, long)) (All-cons Inside second others (omega (arith, whole, long)) rest)
