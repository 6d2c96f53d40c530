-- Translations, section by section.
use Rattle.std.proofs.Common.{◌≡◌, ℕ, ◌≤◌, List, [], ◌∷◌, ◌++◌, length, refl, sym, ap, ◌∙◌, Option, Some, None, Bool, true, false, cond}
use Rattle.std.specs.Prelude.{if◌then◌else◌}
use Rattle.std.specs.Option.{unwrap_or, option_or, option_map}
use Rattle.std.specs.List.{find}
use Rattle.std.specs.Str.{bytes_eq}
use Rattle.std.proofs.lemmas.List.Folds.{find-append}
use Rattle.dwc_base.specs.declared.records.Endian.TheVariants.{Little}
use Rattle.dwc_base.specs.declared.section_name.SectionName.{SectionName}
use Rattle.dwc_base.specs.declared.section_name.SectionName.TheVariants.{Frame}
use Rattle.dwc_base.specs.declared.translation.ModuleTranslation.{ModuleTranslation}
use Rattle.dwc_base.specs.Sections.{section_text, split_text}
use Rattle.dwc_base.specs.Wasm.{Contents, custom, imports, functions, code, other, WasmSection, WasmModule, last_number, custom_section, contents_named, imported_functions, defined_functions, code_place, is_compressed, module_from_sections, module_sections, held, held_split}
use Rattle.dwc_base.specs.Translations.{IsTranslation, translation_sections}
use Rattle.dwc_wasm.specs.FileParts.{custom_left, Notes, noted, split_noted}
use Rattle.dwc_base.proofs.LastOf.{last_of-more}

module _ (done : List WasmSection) (s : WasmSection) where
  -- the number of one kind of sections, of one section more
  number-more : (pick : Contents → Option ℕ) → last_number pick (done ++ s ∷ []) ≡ unwrap_or (pick s.contents) (last_number pick done)
  number-more pick = last_of-more (λ x. pick x.contents) done s 0

  -- the contents of a custom section, of one section more
  pub custom-more : (title : List ℕ) → custom_section title (done ++ s ∷ []) ≡ unwrap_or (contents_named title s.contents) (custom_section title done)
  unfolding custom_section
  custom-more title = last_of-more (λ x. contents_named title x.contents) done s []

  -- the first compressed section, of one section more
  compressed-more : option_map (λ x. x.place) (find (λ x. is_compressed x.contents) (done ++ s ∷ [])) ≡ option_or (option_map (λ x. x.place) (find (λ x. is_compressed x.contents) done)) (if is_compressed s.contents then Some s.place else None)
  compressed-more =
      ap (option_map (λ x. x.place)) (find-append (λ x. is_compressed x.contents) done (s ∷ []))
      ∙ first (find (λ x. is_compressed x.contents) done)
      ∙ ap (option_or (option_map (λ x. x.place) (find (λ x. is_compressed x.contents) done))) (one (is_compressed s.contents))
    where
      first : (o : Option WasmSection) → option_map (λ x. x.place) (option_or o (find (λ x. is_compressed x.contents) (s ∷ []))) ≡ option_or (option_map (λ x. x.place) o) (option_map (λ x. x.place) (find (λ x. is_compressed x.contents) (s ∷ [])))
      first None = refl
      first (Some x) = refl

      one : (b : Bool) → option_map (λ (x : WasmSection). x.place) (cond {A = Option WasmSection} b (Some s) None) ≡ cond {A = Option ℕ} b (Some s.place) None
      one true = refl
      one false = refl

-- the contents of a section that has a title, or else others
named_or : (b : Bool) (x y : List ℕ) → unwrap_or (cond {A = Option (List ℕ)} b (Some x) None) y ≡ cond b x y
named_or true x y = refl
named_or false x y = refl

-- a module holds what one with a section less held, but for that section
held-noted : (c : Contents) (at : SectionName) (m n : WasmModule) → ((title : List ℕ) → custom_section title n.sections ≡ unwrap_or (contents_named title c) (custom_section title m.sections)) → held n at ≡ noted c at (held m at)
held-noted (custom title u) Frame m n h = refl
held-noted (custom title u) at m n h = h (section_text at) ∙ named_or (bytes_eq title (section_text at)) u.left (held m at)
held-noted (imports k) Frame m n h = refl
held-noted (imports k) at m n h = h (section_text at)
held-noted (functions k v) Frame m n h = refl
held-noted (functions k v) at m n h = h (section_text at)
held-noted (code u) Frame m n h = refl
held-noted (code u) at m n h = h (section_text at)
held-noted (other id u) Frame m n h = refl
held-noted (other id u) at m n h = h (section_text at)

-- and so it is with sections of split units
held_split-noted : (c : Contents) (at : SectionName) (m n : WasmModule) → ((title : List ℕ) → custom_section title n.sections ≡ unwrap_or (contents_named title c) (custom_section title m.sections)) → held_split n at ≡ split_noted c at (held_split m at)
held_split-noted (custom title u) Frame m n h = refl
held_split-noted (custom title u) at m n h = h (split_text at) ∙ named_or (bytes_eq title (split_text at)) u.left (held_split m at)
held_split-noted (imports k) Frame m n h = refl
held_split-noted (imports k) at m n h = h (split_text at)
held_split-noted (functions k v) Frame m n h = refl
held_split-noted (functions k v) at m n h = h (split_text at)
held_split-noted (code u) Frame m n h = refl
held_split-noted (code u) at m n h = h (split_text at)
held_split-noted (other id u) Frame m n h = refl
held_split-noted (other id u) at m n h = h (split_text at)

-- a translation that takes note of a section is one of a module with that section more
pub IsTranslation-more : (old new : ModuleTranslation) (done : List WasmSection) (s : WasmSection) → Notes old new s → IsTranslation old (module_from_sections done) → IsTranslation new (module_from_sections (done ++ s ∷ []))
unfolding module_from_sections
IsTranslation-more old new done s n h = record {
  sections = λ name. n.sections name ∙ ap (noted s.contents name) (h.sections name) ∙ sym (held-noted s.contents name (module_from_sections done) (module_from_sections (done ++ s ∷ [])) (custom-more done s));
  dwo_sections = λ name. n.dwo_sections name ∙ ap (split_noted s.contents name) (h.dwo_sections name) ∙ sym (held_split-noted s.contents name (module_from_sections done) (module_from_sections (done ++ s ∷ [])) (custom-more done s));
  compressed = n.compressed ∙ ap (λ o. option_or o (if is_compressed s.contents then Some s.place else None)) h.compressed ∙ sym (compressed-more done s);
  code_section_offset = n.code_section_offset ∙ ap (unwrap_or (code_place s.contents)) h.code_section_offset ∙ sym (number-more done s code_place);
  imported_funcs = n.imported_funcs ∙ ap (unwrap_or (imported_functions s.contents)) h.imported_funcs ∙ sym (number-more done s imported_functions);
  defined_funcs = n.defined_funcs ∙ ap (unwrap_or (defined_functions s.contents)) h.defined_funcs ∙ sym (number-more done s defined_functions);
  path = n.path ∙ h.path;
}

-- no section is held of a file without sections
pub held-none : (name : SectionName) → held (module_from_sections []) name ≡ []
unfolding module_from_sections custom_section
held-none name = go name
  where
    go : (at : SectionName) → held (module_from_sections []) at ≡ []
    go Frame = refl
    go at = refl

pub held_split-none : (name : SectionName) → held_split (module_from_sections []) name ≡ []
unfolding module_from_sections custom_section
held_split-none name = go name
  where
    go : (at : SectionName) → held_split (module_from_sections []) at ≡ []
    go Frame = refl
    go at = refl

-- the sections of a translation are those of its module
pub translation_sections-is : (t : ModuleTranslation) (m : WasmModule) → IsTranslation t m → translation_sections t ≡ module_sections m
translation_sections-is t m h = λ i. record { order = Little; bytes = λ name. h.sections name i; relocations = λ name. [] }

-- what is noted is what was there, or of the section
pub noted-inside : (c : Contents) (at : SectionName) (before : List ℕ) (most : ℕ) → length (custom_left c) ≤ most → length before ≤ most → length (noted c at before) ≤ most
noted-inside (custom title u) Frame before most new old = old
noted-inside (custom title u) at before most new old = go (bytes_eq title (section_text at))
  where
    go : (b : Bool) → length (cond b u.left before) ≤ most
    go true = new
    go false = old
noted-inside (imports n) at before most new old = old
noted-inside (functions n v) at before most new old = old
noted-inside (code u) at before most new old = old
noted-inside (other id u) at before most new old = old

pub split_noted-inside : (c : Contents) (at : SectionName) (before : List ℕ) (most : ℕ) → length (custom_left c) ≤ most → length before ≤ most → length (split_noted c at before) ≤ most
split_noted-inside (custom title u) Frame before most new old = old
split_noted-inside (custom title u) at before most new old = go (bytes_eq title (split_text at))
  where
    go : (b : Bool) → length (cond b u.left before) ≤ most
    go true = new
    go false = old
split_noted-inside (imports n) at before most new old = old
split_noted-inside (functions n v) at before most new old = old
split_noted-inside (code u) at before most new old = old
split_noted-inside (other id u) at before most new old = old
