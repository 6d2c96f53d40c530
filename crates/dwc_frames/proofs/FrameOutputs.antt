-- The section of call frames from its entries, and that it is refused only where it is too large.
use Rattle.std.proofs.Common.{lit<, pos, ◌≡◌, ℕ, ◌+◌, ◌≤◌, refl, ap, subst, ◌∙◌, arith, List, [], ◌∷◌, ◌++◌, length, length-append}
use Rattle.std.specs.List.{flat_map}
use Rattle.dwc_base.specs.declared.records.Endian.{Endian}
use Rattle.dwc_base.specs.declared.section_name.SectionName.TheVariants.{Frame}
use Rattle.dwc_base.specs.Sections.{section_text}
use Rattle.dwc_base.specs.Outputs.{OutputRelocation, OutputSection, function}
use Rattle.dwc_native.specs.CallFrames.{CommonEntry, FrameDescription}
use Rattle.dwc_output.specs.FrameSections.{common_bytes, description_bytes, descriptions_relocations, description_relocations, frame_section}
use Rattle.dwc_section.specs.declared.error.WriteError.{WriteError}
use Rattle.dwc_section.specs.declared.error.WriteError.TheVariants.{TooLarge, InvalidFrameCodeOffset, InvalidFrameDataOffset, OutOfMemory}
use Rattle.dwc_frames.specs.Frames.{IsFrameRefusal, description_at}
use Rattle.dwc_output.proofs.FrameSizes.{relocations-inside}
use Rattle.dwc_section.specs.Spelled.{at_places}
use Rattle.dwc_section.specs.RisingRelocations.{DoRelocationsRise, RelocationsRise}
use Rattle.dwc_section.specs.Writers.{IsPast, IsSizeRefusal, Refuses, Writing, appended, section_of}
use Rattle.dwc_section.proofs.RefusalLaws.{past-limit, past-more}

-- a section without bytes
abbrev pub begun : Endian → Writing
begun order = record { order = order; name = Frame; body = []; relocations = [] }

places-are : (order : Endian) (size : ℕ) (c : CommonEntry) (place : ℕ) (ds : List (ℕ × FrameDescription)) → at_places (description_bytes order size c) (description_at size) place ds ≡ descriptions_relocations order size c place ds
places-are order size c place [] = refl
places-are order size c place (d ∷ ds) = ap (λ rs. description_relocations size place d.0 ++ rs) (places-are order size c (place + length (description_bytes order size c d)) ds)

-- the entries of functions behind the common one
abbrev pub behind : Endian → ℕ → CommonEntry → List (ℕ × FrameDescription) → Writing → Writing
behind order size c ds w = appended (flat_map (description_bytes w.order size c) ds) (at_places (description_bytes w.order size c) (description_at size) (length w.body) ds) w

pub section-whole : (order : Endian) (size : ℕ) (c : CommonEntry) (ds : List (ℕ × FrameDescription)) (a b d : Writing) (s : OutputSection) → a ≡ begun order → b ≡ appended (common_bytes a.order size c) [] a → d ≡ behind order size c ds b → s ≡ record { name = section_text d.name; body = d.body; relocations = d.relocations } → s ≡ frame_section order size c ds
unfolding frame_section
section-whole order size c ds a b d s new common functions given =
    let seen : Writing → OutputSection = λ w. record { name = section_text w.name; body = w.body; relocations = w.relocations } in
    let common_at : Writing → Writing = λ w. appended (common_bytes w.order size c) [] w in
    given
    ∙ ap seen functions
    ∙ ap (λ w. seen (behind order size c ds w)) common
    ∙ ap (λ w. seen (behind order size c ds (common_at w))) new
    ∙ ap (λ rs. record { name = section_text Frame; body = common_bytes order size c ++ flat_map (description_bytes order size c) ds; relocations = rs }) (places-are order size c (length (common_bytes order size c)) ds)

body-length : (order : Endian) (size : ℕ) (c : CommonEntry) (ds : List (ℕ × FrameDescription)) → length (frame_section order size c ds).body ≡ length (common_bytes order size c) + length (flat_map (description_bytes order size c) ds)
unfolding frame_section
body-length order size c ds = length-append (common_bytes order size c) (flat_map (description_bytes order size c) ds)

-- a refusal of the common entry
pub common-refused : (order : Endian) (size : ℕ) (c : CommonEntry) (ds : List (ℕ × FrameDescription)) (a : Writing) (e : WriteError) → a ≡ begun order → Refuses e a (length (common_bytes a.order size c)) → IsSizeRefusal (IsPast Frame (length (frame_section order size c ds).body)) e
common-refused order size c ds a e new refused =
    let P : Writing → Type 0 = λ w. Refuses e w (length (common_bytes w.order size c)) in
    past-more Frame Frame _ _ e refl (λ large. omega (arith, large, body-length order size c ds)) (subst P new refused)

-- one of the entries of functions
pub functions-refused : (order : Endian) (size : ℕ) (c : CommonEntry) (ds : List (ℕ × FrameDescription)) (a b : Writing) (e : WriteError) → a ≡ begun order → b ≡ appended (common_bytes a.order size c) [] a → Refuses e b (length (flat_map (description_bytes b.order size c) ds)) → IsSizeRefusal (IsPast Frame (length (frame_section order size c ds).body)) e
functions-refused order size c ds a b e new common refused =
    let P : Writing → Type 0 = λ w. Refuses e w (length (flat_map (description_bytes w.order size c) ds)) in
    let at = subst (λ w. P (appended (common_bytes w.order size c) [] w)) new (subst P common refused) in
    past-more Frame Frame _ _ e refl (λ large. omega (arith, large, body-length order size c ds)) at

-- a refusal for a size is one for a greater size, of a frame table
pub widely-refused : (n widest : ℕ) (e : WriteError) → n ≤ widest → IsSizeRefusal (IsPast Frame n) e → IsFrameRefusal widest e
widely-refused n widest OutOfMemory less refused = tt
widely-refused n widest (TooLarge what) less refused = past-limit Frame n widest (section_of what) (λ large. omega (arith, large, less)) refused
widely-refused n widest (InvalidFrameCodeOffset symbol) less refused = tt
widely-refused n widest (InvalidFrameDataOffset symbol) less refused = tt

-- ---- relocations

entry-long : (order : Endian) (size : ℕ) (c : CommonEntry) (d : ℕ × FrameDescription) → 8 + size ≤ length (description_bytes order size c d)
entry-long order size c d =
    let own : OutputRelocation = record { offset = 0; size = 0; target = function 0; addend = pos 0 } in
    omega (arith, relocations-inside order size c 0 (d ∷ []) 1 own (lit< tt), length-append (description_bytes order size c d) [])

descriptions-rise : (order : Endian) (size : ℕ) (c : CommonEntry) (low place : ℕ) (ds : List (ℕ × FrameDescription)) → low ≤ place → RelocationsRise low (place + length (flat_map (description_bytes order size c) ds)) (descriptions_relocations order size c place ds)
descriptions-rise order size c low place [] before = omega (arith, before)
descriptions-rise order size c low place (d ∷ ds) before =
    let bytes = description_bytes order size c d in
    let others = flat_map (description_bytes order size c) ds in
    let next = place + length bytes in
    let behind_it : place + 8 + size ≤ next = omega (arith, entry-long order size c d) in
    let ends : next + length others ≡ place + length (bytes ++ others) = omega (arith, length-append bytes others) in
    let rest = subst (λ end. RelocationsRise (place + 8 + size) end (descriptions_relocations order size c next ds)) ends (descriptions-rise order size c (place + 8 + size) next ds behind_it) in
    (omega (arith, before), (omega arith, rest))

-- They stand one behind another.
pub section-rises : (order : Endian) (size : ℕ) (c : CommonEntry) (ds : List (ℕ × FrameDescription)) → DoRelocationsRise (frame_section order size c ds)
unfolding frame_section
section-rises order size c ds =
    let common = common_bytes order size c in
    let entries = flat_map (description_bytes order size c) ds in
    let ends : length common + length entries ≡ length (common ++ entries) = omega (arith, length-append common entries) in
    subst (λ end. RelocationsRise 0 end (descriptions_relocations order size c (length common) ds)) ends (descriptions-rise order size c 0 (length common) ds (omega arith))
