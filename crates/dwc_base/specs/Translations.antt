-- What is told of a WebAssembly file: its sections, and what DWARF wants to know besides.
use Rattle.std.specs.Prelude.{◌≡◌, ℕ, List, [], ◌∷◌, if◌then◌else◌, Option, None}
use Rattle.std.specs.List.{find}
use Rattle.std.specs.Str.{bytes_eq}
use Rattle.dwc_base.specs.declared.records.Endian.TheVariants.{Little}
use Rattle.dwc_base.specs.declared.section_name.SectionName.{SectionName}
use Rattle.dwc_base.specs.declared.section_name.SectionName.TheVariants.{Abbrev, Addr, Info, Line, LineStr, Loc, Loclists, Ranges, Rnglists, Str, StrOffsets, CuIndex, Frame}
use Rattle.dwc_base.specs.declared.translation.ModuleTranslation.{ModuleTranslation}
use Rattle.dwc_base.specs.declared.section_bytes.SectionBytes.{SectionBytes}
use Rattle.dwc_base.specs.declared.wasm_sections.WasmSections.{WasmSections}
use Rattle.dwc_base.specs.Sections.{Sections, section_text, split_text}
use Rattle.dwc_base.specs.TranslationNames.{TellsNames}
use Rattle.dwc_base.specs.Wasm.{WasmModule, held, held_split}

-- the bytes that are held of a section; of the frames, which are no input, none
abbrev pub section_bytes : WasmSections → SectionName → List ℕ
section_bytes s Abbrev = s.abbrev.bytes.now
section_bytes s Addr = s.addr.bytes.now
section_bytes s Info = s.info.bytes.now
section_bytes s Line = s.line.bytes.now
section_bytes s LineStr = s.line_str.bytes.now
section_bytes s Loc = s.loc.bytes.now
section_bytes s Loclists = s.loclists.bytes.now
section_bytes s Ranges = s.ranges.bytes.now
section_bytes s Rnglists = s.rnglists.bytes.now
section_bytes s Str = s.str.bytes.now
section_bytes s StrOffsets = s.str_offsets.bytes.now
section_bytes s CuIndex = s.cu_index.bytes.now
section_bytes s Frame = []

-- the sections with other bytes of one
abbrev pub with_section : WasmSections → SectionName → SectionBytes → WasmSections
with_section s Abbrev bytes = record s { «abbrev» = bytes }
with_section s Addr bytes = record s { addr = bytes }
with_section s Info bytes = record s { info = bytes }
with_section s Line bytes = record s { line = bytes }
with_section s LineStr bytes = record s { line_str = bytes }
with_section s Loc bytes = record s { loc = bytes }
with_section s Loclists bytes = record s { loclists = bytes }
with_section s Ranges bytes = record s { ranges = bytes }
with_section s Rnglists bytes = record s { rnglists = bytes }
with_section s Str bytes = record s { str = bytes }
with_section s StrOffsets bytes = record s { str_offsets = bytes }
with_section s CuIndex bytes = record s { cu_index = bytes }
with_section s Frame bytes = s

-- the sections of an input: all but the frames
abbrev pub input_sections : List SectionName
input_sections = Abbrev ∷ Addr ∷ Info ∷ Line ∷ LineStr ∷ Loc ∷ Loclists ∷ Ranges ∷ Rnglists ∷ Str ∷ StrOffsets ∷ CuIndex ∷ []

-- the section of an input that has a title, if there is one
abbrev pub section_titled : List ℕ → Option SectionName
section_titled title = find (λ name. bytes_eq (section_text name) title) input_sections

-- The translation holds the sections of a module and what DWARF wants to know of it; see `TellsNames` for names and types.
pub record IsTranslation (t : ModuleTranslation) (m : WasmModule) : Type 0 where
  pub sections : (name : SectionName) → section_bytes t.sections name ≡ held m name
  pub dwo_sections : (name : SectionName) → section_bytes t.dwo_sections name ≡ held_split m name
  pub compressed : t.compressed ≡ m.compressed
  pub code_section_offset : t.code_section_offset ≡ m.code_offset
  pub imported_funcs : t.imported_funcs ≡ m.imported
  pub defined_funcs : t.defined_funcs ≡ m.defined
  pub path : t.path ≡ None

-- It tells names and types besides.
abbrev pub IsWholeTranslation : ModuleTranslation → WasmModule → Type 0
IsWholeTranslation t m = IsTranslation t m × TellsNames t m

-- sections that are lent of a file, as input: the numbers are little-endian, and there are no relocations
abbrev pub lent_sections : WasmSections → Sections
lent_sections s = record { order = Little; bytes = section_bytes s; relocations = λ name. [] }

-- the sections of a translation, as input
abbrev pub translation_sections : ModuleTranslation → Sections
translation_sections t = lent_sections t.sections

-- the bytes of a section behind a custom section with a title and contents; the frames are no input
abbrev pub titled_bytes : SectionName → List ℕ → List ℕ → List ℕ → List ℕ
titled_bytes Frame title contents before = before
titled_bytes name title contents before = if bytes_eq title (section_text name) then contents else before

-- the same of a section of split units
abbrev pub split_bytes : SectionName → List ℕ → List ℕ → List ℕ → List ℕ
split_bytes Frame title contents before = before
split_bytes name title contents before = if bytes_eq title (split_text name) then contents else before
