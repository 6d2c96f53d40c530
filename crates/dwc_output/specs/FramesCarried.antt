-- What an output has of how code unwinds, and how long it can be at most. (DWARF 4 and 5, section 6.4; which functions have a frame
-- description entry is this project's own rule.)
use Rattle.std.specs.Prelude.{◌≡◌, ℕ, ◌+◌, List, [], ◌∷◌, sum_by, not, is_some, if◌then◌else◌, Option, Some, None, option_map}
use Rattle.std.specs.List.{filter, filter_map}
use Rattle.std.specs.Str.{bytes_eq}
use Rattle.dwc_base.specs.declared.records.Endian.{Endian}
use Rattle.dwc_base.specs.declared.section_name.SectionName.TheVariants.{Frame}
use Rattle.dwc_base.specs.Sections.{section_text}
use Rattle.dwc_base.specs.Outputs.{OutputSection}
use Rattle.dwc_native.specs.Functions.{Function}
use Rattle.dwc_output.specs.Widest.{variable_bytes, address_bytes}
use Rattle.dwc_native.specs.CallFrames.{CommonEntry, FrameDescription}
use Rattle.dwc_output.specs.FrameSections.{FrameNumber, fixed, address_sized, uleb, sleb, common_numbers, description_numbers, frame_section_if}

-- the frame description of a function with its number, where it has a symbol and one is told
abbrev pub description_of : (ℕ → Option FrameDescription) → Function → Option (ℕ × FrameDescription)
description_of told f = if is_some f.symbol then option_map (λ d. (f.number, d)) (told f.number) else None

-- Those of some functions, in their order, where the descriptions are told by the numbers of functions.
abbrev pub descriptions : (ℕ → Option FrameDescription) → List Function → List (ℕ × FrameDescription)
descriptions told fs = filter_map (description_of told) fs

-- ---- in an output

-- the sections of an output that hold frames, and all others
abbrev pub frames_in : List OutputSection → List OutputSection
frames_in sections = filter (λ s. bytes_eq s.name (section_text Frame)) sections

abbrev pub others_in : List OutputSection → List OutputSection
others_in sections = filter (λ s. not (bytes_eq s.name (section_text Frame))) sections

-- An output has the frames of a target's common entry and of some descriptions, byte for byte, and no others.
abbrev pub FramesCarried : Endian → ℕ → Option CommonEntry → List (ℕ × FrameDescription) → List OutputSection → Type 0
FramesCarried order pointer_bytes c ds sections = frames_in sections ≡ frame_section_if order pointer_bytes c ds

-- ---- how long they can be at most

-- a number of an entry: 10 bytes for LEB128, and 8 for one of an address's size
abbrev pub widest_number : FrameNumber → ℕ
widest_number (fixed count n) = count
widest_number (address_sized n) = address_bytes
widest_number (uleb n) = variable_bytes
widest_number (sleb z) = variable_bytes

-- an entry: its length, its numbers, and 7 bytes that fill it
abbrev pub widest_frame_entry : List FrameNumber → ℕ
widest_frame_entry numbers = 4 + sum_by widest_number numbers + 7

-- How long the section can be at most.
abbrev pub widest_frames : Option CommonEntry → List (ℕ × FrameDescription) → ℕ
widest_frames None ds = 0
widest_frames (Some c) [] = 0
widest_frames (Some c) (d ∷ ds) = widest_frame_entry (common_numbers c) + sum_by (λ x. widest_frame_entry (description_numbers c x.1)) (d ∷ ds)
