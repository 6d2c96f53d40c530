-- The first section of a name.
use Rattle.std.proofs.Common.{◌≡◌, ℕ, ◌<◌, ◌^◌, List, [], ◌∷◌, length, map, refl, ap, lit<, arith, All, Bool, true, false, cond}
use Rattle.std.specs.Prelude.{option_map, Some}
use Rattle.std.specs.Option.{unwrap_or}
use Rattle.std.specs.List.{filter_map, cons_option}
use Rattle.std.specs.Str.{bytes_eq}
use Rattle.std.proofs.lemmas.List.Elements.{All-tail}
use Rattle.dwc_base.specs.declared.output.DwarfSection.{DwarfSection}
use Rattle.dwc_base.specs.declared.output.DwarfSectionReloc.{DwarfSectionReloc}
use Rattle.dwc_base.specs.declared.section_name.SectionName.{SectionName}
use Rattle.dwc_base.specs.declared.section_name.SectionName.TheVariants.{Abbrev, Addr, Info, Line, LineStr, Loc, Loclists, Ranges, Rnglists, Str, StrOffsets, CuIndex, Frame}
use Rattle.dwc_base.specs.Sections.{section_text}
use Rattle.dwc_base.specs.Outputs.{section_view, section_named, relocation_view, function_relocation, field_relocations, output_bytes}
use Rattle.dwc_read.specs.Named.{bytes_named}

-- Where no section is too long, the one of a name is not.
pub length-bytes_named : (name : List ℕ) (sections : List DwarfSection) → All (λ s. length s.body.items < 2 ^ 32) sections → length (bytes_named name (map section_view sections)) < 2 ^ 32
length-bytes_named name [] short = lit< tt
length-bytes_named name (s ∷ ss) short = go (bytes_eq s.name.now name) (length-bytes_named name ss (All-tail (λ s. length s.body.items < 2 ^ 32) s ss short))
  where
    go : (b : Bool) → length (bytes_named name (map section_view ss)) < 2 ^ 32 → length (unwrap_or (option_map (λ s. s.body) (cond b (Some (section_view s)) (section_named name (map section_view ss)))) []) < 2 ^ 32
    go true rest = short 0 s (omega arith)
    go false rest = rest

-- the same of a section of an output
pub output-short : (sections : List DwarfSection) → All (λ s. length s.body.items < 2 ^ 32) sections → (name : SectionName) → length (output_bytes (map section_view sections) name) < 2 ^ 32
output-short sections short Abbrev = length-bytes_named (section_text Abbrev) sections short
output-short sections short Addr = length-bytes_named (section_text Addr) sections short
output-short sections short Info = length-bytes_named (section_text Info) sections short
output-short sections short Line = length-bytes_named (section_text Line) sections short
output-short sections short LineStr = length-bytes_named (section_text LineStr) sections short
output-short sections short Loc = length-bytes_named (section_text Loc) sections short
output-short sections short Loclists = length-bytes_named (section_text Loclists) sections short
output-short sections short Ranges = length-bytes_named (section_text Ranges) sections short
output-short sections short Rnglists = length-bytes_named (section_text Rnglists) sections short
output-short sections short Str = length-bytes_named (section_text Str) sections short
output-short sections short StrOffsets = length-bytes_named (section_text StrOffsets) sections short
output-short sections short CuIndex = length-bytes_named (section_text CuIndex) sections short
output-short sections short Frame = lit< tt

-- the relocations of a section, seen as the function relocations of its list
pub filter_map-relocation_view : (rs : List DwarfSectionReloc) → filter_map function_relocation (map relocation_view rs) ≡ field_relocations rs
filter_map-relocation_view [] = refl
filter_map-relocation_view (r ∷ rs) = ap (cons_option (function_relocation (relocation_view r))) (filter_map-relocation_view rs)
