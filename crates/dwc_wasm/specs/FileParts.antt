-- What the parts of the reader of WebAssembly files say.
use Rattle.std.specs.Prelude.{◌≡◌, ℕ, nat_eq, List, [], drop, if◌then◌else◌, Option, Some, None, Result, Ok, Err, codes}
use Rattle.std.specs.Option.{unwrap_or, option_or}
use Rattle.std.specs.List.{starts_with}
use Rattle.dwc_base.specs.declared.records.Endian.TheVariants.{Little}
use Rattle.dwc_base.specs.declared.section_name.SectionName.{SectionName}
use Rattle.dwc_base.specs.declared.translation.ModuleTranslation.{ModuleTranslation}
use Rattle.dwc_wasm.specs.declared.fields.BrokenField.{BrokenField}
use Rattle.dwc_wasm.specs.declared.walk.Contents.{Contents}
use Rattle.dwc_wasm.specs.declared.walk.Contents.TheVariants.{Custom, Imports, Functions, Code, Other}
use Rattle.dwc_wasm.specs.declared.walk.Section.{Section}
use Rattle.dwc_wasm.specs.declared.split.WalkedSections.{WalkedSections}
use Rattle.dwc_base.specs.Reading.{Unread}
use Rattle.dwc_base.specs.Listing.{Next, at_end, broken, item}
use Rattle.dwc_base.specs.Wasm as spec
use Rattle.dwc_base.specs.Wasm.{FileRead, WasmSection, imported_functions, defined_functions, code_place, is_compressed, preamble, wasm_sections, module_from_sections}
use Rattle.dwc_base.specs.Translations.{IsTranslation, section_bytes, titled_bytes, split_bytes}
use Rattle.dwc_wasm.specs.FunctionSections.{HoldsLast}

-- A reader of a part of a file gives what reading gives, its value seen by `view`, and goes on behind it; an error is the
-- place of the first field that breaks the grammar.
abbrev pub GivesPart : {A B : Type 0} → (A → B) → FileRead B → Unread → Result A BrokenField → Type 0
GivesPart view read new (Ok x) = read ≡ Ok (view x, new)
GivesPart view read new (Err b) = read ≡ Err b.offset

-- the same of what is read last
abbrev pub GivesLastPart : {A B : Type 0} → (A → B) → Result B ℕ → Result A BrokenField → Type 0
GivesLastPart view read (Ok x) = read ≡ Ok (view x)
GivesLastPart view read (Err b) = read ≡ Err b.offset

-- what of a section's contents may be held: those of a custom section
abbrev pub custom_left : spec.Contents → List ℕ
custom_left (spec.custom title u) = u.left
custom_left (spec.imports n) = []
custom_left (spec.functions n v) = []
custom_left (spec.code u) = []
custom_left (spec.other id u) = []

-- what a section holds
abbrev pub contents_view : Contents → spec.Contents
contents_view (Custom name u) = spec.custom name.now u
contents_view (Imports n) = spec.imports n
contents_view (Functions n u) = spec.functions n u
contents_view (Code u) = spec.code u
contents_view (Other id u) = spec.other id u

-- a section: its place, and what it holds
abbrev pub section_view : Section → WasmSection
section_view s = record { place = s.place; contents = contents_view s.contents }

-- a call that reads the next section: the step of the walk over a file
abbrev pub GivesSection : Next Unread ℕ WasmSection → Unread → Result (Option Section) BrokenField → Type 0
GivesSection step new (Ok (Some s)) = step ≡ item (section_view s) new
GivesSection step new (Ok None) = step ≡ at_end
GivesSection step new (Err b) = step ≡ broken b.offset

-- the bytes of a section behind a further section of the file
abbrev pub noted : spec.Contents → SectionName → List ℕ → List ℕ
noted (spec.custom title u) name before = titled_bytes name title u.left before
noted (spec.imports n) name before = before
noted (spec.functions n v) name before = before
noted (spec.code u) name before = before
noted (spec.other id u) name before = before

-- the same of a section of split units
abbrev pub split_noted : spec.Contents → SectionName → List ℕ → List ℕ
split_noted (spec.custom title u) name before = split_bytes name title u.left before
split_noted (spec.imports n) name before = before
split_noted (spec.functions n v) name before = before
split_noted (spec.code u) name before = before
split_noted (spec.other id u) name before = before

-- the place of the first compressed section behind a custom section at a place with a title
abbrev pub first_compressed : Option ℕ → ℕ → List ℕ → Option ℕ
first_compressed before place title = option_or before (if starts_with nat_eq title (codes ".zdebug_") then Some place else None)

-- A translation takes note of a section: what it holds counts where the section holds nothing of a kind, but of
-- compressed sections the first counts.
pub record Notes (old new : ModuleTranslation) (s : WasmSection) : Type 0 where
  pub sections : (name : SectionName) → section_bytes new.sections name ≡ noted s.contents name (section_bytes old.sections name)
  pub dwo_sections : (name : SectionName) → section_bytes new.dwo_sections name ≡ split_noted s.contents name (section_bytes old.dwo_sections name)
  pub compressed : new.compressed ≡ option_or old.compressed (if is_compressed s.contents then Some s.place else None)
  pub code_section_offset : new.code_section_offset ≡ unwrap_or (code_place s.contents) old.code_section_offset
  pub imported_funcs : new.imported_funcs ≡ unwrap_or (imported_functions s.contents) old.imported_funcs
  pub defined_funcs : new.defined_funcs ≡ unwrap_or (defined_functions s.contents) old.defined_funcs
  pub module_name : new.module_name ≡ old.module_name
  pub func_names : new.func_names ≡ old.func_names
  pub local_names : new.local_names ≡ old.local_names
  pub funcs : new.funcs ≡ old.funcs
  pub path : new.path ≡ old.path

-- where the sections of a file begin: behind its preamble
abbrev pub sections_start : List ℕ → Result Unread ℕ
sections_start bytes = if starts_with nat_eq bytes preamble then Ok (record { order = Little; place = 8; left = drop 8 bytes }) else Err 0

-- What a walk over the sections from a place on gives: a translation of all of them, and those that tell of functions; else the place of
-- the first field that breaks the grammar.
abbrev pub WalksSections : Unread → Result WalkedSections BrokenField → Type 0
WalksSections u (Ok w) = (all : List WasmSection) × (wasm_sections u ≡ record { items = all; fault = None }) × IsTranslation w.translation (module_from_sections all) × HoldsLast w.functions all
WalksSections u (Err b) = (before : List WasmSection) × (wasm_sections u ≡ record { items = before; fault = Some b.offset })
