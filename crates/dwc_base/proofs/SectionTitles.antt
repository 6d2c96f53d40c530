-- Sections by their names and titles.
use Rattle.std.proofs.Common.{◌≡◌, List, [], ◌∷◌, ◌++◌, ◌≢◌, ℕ, ◌<◌, ◌^◌, length, arith, Bool, true, false, cond, refl, sym, ap, ◌∙◌, Option, Some, None}
use Rattle.std.specs.Prelude.{codes, not}
use Rattle.std.specs.List.{find, list_all}
use Rattle.std.proofs.lemmas.List.{append_cancel_right}
use Rattle.std.specs.Str.{bytes_eq}
use Rattle.std.proofs.lemmas.Slice.Eq.{bytes_eq-Decides}
use Rattle.dwc_base.specs.declared.section_name.SectionName.{SectionName}
use Rattle.dwc_base.specs.declared.section_name.SectionName.TheVariants.{Abbrev, Addr, Info, Line, LineStr, Loc, Loclists, Ranges, Rnglists, Str, StrOffsets, CuIndex, Frame}
use Rattle.dwc_base.specs.declared.section_bytes.SectionBytes.{SectionBytes}
use Rattle.dwc_base.specs.declared.wasm_sections.WasmSections.{WasmSections}
use Rattle.dwc_base.specs.Sections.{section_text, split_text}
use Rattle.dwc_base.specs.Translations.{section_bytes, with_section, titled_bytes, split_bytes, input_sections, section_titled}

-- no section is longer than 2 ^ 32 - 1 bytes
pub section_bytes-short : (s : WasmSections) (name : SectionName) → length (section_bytes s name) < 2 ^ 32
section_bytes-short s Abbrev = s.abbrev.short
section_bytes-short s Addr = s.addr.short
section_bytes-short s Info = s.info.short
section_bytes-short s Line = s.line.short
section_bytes-short s LineStr = s.line_str.short
section_bytes-short s Loc = s.loc.short
section_bytes-short s Loclists = s.loclists.short
section_bytes-short s Ranges = s.ranges.short
section_bytes-short s Rnglists = s.rnglists.short
section_bytes-short s Str = s.str.short
section_bytes-short s StrOffsets = s.str_offsets.short
section_bytes-short s CuIndex = s.cu_index.short
section_bytes-short s Frame = omega arith

-- other bytes in one section are seen in it alone
set-at : (s : WasmSections) (bytes : SectionBytes) (set at : SectionName) → section_bytes (with_section s set bytes) at ≡ titled_bytes at (section_text set) bytes.bytes.now (section_bytes s at)
set-at s bytes Abbrev Abbrev = refl
set-at s bytes Addr Addr = refl
set-at s bytes Info Info = refl
set-at s bytes Line Line = refl
set-at s bytes LineStr LineStr = refl
set-at s bytes Loc Loc = refl
set-at s bytes Loclists Loclists = refl
set-at s bytes Ranges Ranges = refl
set-at s bytes Rnglists Rnglists = refl
set-at s bytes Str Str = refl
set-at s bytes StrOffsets StrOffsets = refl
set-at s bytes CuIndex CuIndex = refl
set-at s bytes Frame Frame = refl
set-at s bytes set at = refl

-- what is found passes
find-passes : {A : Type 0} (p : A → Bool) (xs : List A) (x : A) → find p xs ≡ Some x → p x ≡ true
find-passes p [] x h = absurd (cc)
find-passes {A} p (y ∷ ys) x h = go (p y) refl h (find-passes p ys x)
  where
    go : (b : Bool) → p y ≡ b → cond {A = Option A} b (Some y) (find p ys) ≡ Some x → (find p ys ≡ Some x → p x ≡ true) → p x ≡ true
    go true passes e later = let same : y ≡ x = cc in rw same at passes
    go false fails e later = later e

-- equal texts
bytes_eq-true : (xs ys : List ℕ) → bytes_eq xs ys ≡ true → xs ≡ ys
bytes_eq-true xs ys h = (bytes_eq-Decides xs ys).0 h

-- a section that is found by a title has it
titled-text : (title : List ℕ) (name : SectionName) → section_titled title ≡ Some name → section_text name ≡ title
titled-text title name h = bytes_eq-true _ _ (find-passes (λ n. bytes_eq (section_text n) title) input_sections name h)

-- a section of an input is found by its title
pub noted-titled : (s : WasmSections) (title : List ℕ) (contents : SectionBytes) (set at : SectionName) → section_titled title ≡ Some set → section_bytes (with_section s set contents) at ≡ titled_bytes at title contents.bytes.now (section_bytes s at)
noted-titled s title contents set at h = set-at s contents set at ∙ ap (λ t. titled_bytes at t contents.bytes.now (section_bytes s at)) (titled-text title set h)

-- a section that has no such title is as before
other_title : (title text : List ℕ) (before contents : List ℕ) (name : SectionName) → section_titled text ≡ Some name → section_titled title ≡ None → before ≡ cond (bytes_eq title text) contents before
other_title title text before contents name found none = go (bytes_eq title text) refl
  where
    go : (b : Bool) → bytes_eq title text ≡ b → before ≡ cond b contents before
    go true h = let same = bytes_eq-true title text h in absurd (let e : section_titled title ≡ Some name = rw same found in cc)
    go false h = refl

-- where a title is that of no section, all are as before
pub noted-untitled : (title contents before : List ℕ) (at : SectionName) → section_titled title ≡ None → before ≡ titled_bytes at title contents before
noted-untitled title contents before Frame h = refl
noted-untitled title contents before at h = other_title title (section_text at) before contents at refl h

-- ---- sections of split units

-- two tests that hold at the same time
same-test : (a b : Bool) → (a ≡ true → b ≡ true) → (b ≡ true → a ≡ true) → a ≡ b
same-test true b to from = sym (to refl)
same-test false true to from = from refl
same-test false false to from = refl

-- texts with one suffix are equal where they are without it
bytes_eq-suffix : (xs ys end : List ℕ) → bytes_eq xs ys ≡ bytes_eq (xs ++ end) (ys ++ end)
bytes_eq-suffix xs ys end = same-test (bytes_eq xs ys) (bytes_eq (xs ++ end) (ys ++ end))
    (λ h. (bytes_eq-Decides (xs ++ end) (ys ++ end)).1 (ap (λ zs. zs ++ end) (bytes_eq-true xs ys h)))
    (λ h. (bytes_eq-Decides xs ys).1 (append_cancel_right xs ys end (bytes_eq-true (xs ++ end) (ys ++ end) h)))

-- a title with the suffix is that of the section of split units which the title without it names
pub split-titled : (front contents before : List ℕ) (at : SectionName) → titled_bytes at front contents before ≡ split_bytes at (front ++ codes ".dwo") contents before
split-titled front contents before Frame = refl
split-titled front contents before at = ap (λ b. cond b contents before) (bytes_eq-suffix front (section_text at) (codes ".dwo"))

-- a title without the suffix is that of none
pub split-untitled : (title contents before : List ℕ) (at : SectionName) → ((front : List ℕ) → title ≢ front ++ codes ".dwo") → before ≡ split_bytes at title contents before
split-untitled title contents before Frame h = refl
split-untitled title contents before at h = go (bytes_eq title (split_text at)) refl
  where
    go : (b : Bool) → bytes_eq title (split_text at) ≡ b → before ≡ cond b contents before
    go true e = absurd (h (section_text at) (bytes_eq-true title (split_text at) e))
    go false e = refl

-- no section of split units has the title of another section
split-apart : list_all (λ at. list_all (λ other. not (bytes_eq (split_text at) (section_text other))) input_sections) input_sections ≡ true
split-apart = refl
