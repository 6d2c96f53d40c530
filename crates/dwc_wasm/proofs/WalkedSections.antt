-- A walk over the sections of a file that takes note of each, as a loop does.
use Rattle.std.proofs.Common.{◌≡◌, ℕ, ◌≤◌, ◌<◌, List, [], ◌∷◌, ◌++◌, append_assoc, length, refl, sym, ap, ◌∙◌, arith, Some, None}
use Rattle.std.proofs.lemmas.List.{append-nil}
use Rattle.dwc_base.specs.declared.section_name.SectionName.{SectionName}
use Rattle.dwc_base.specs.declared.translation.ModuleTranslation.{ModuleTranslation}
use Rattle.dwc_base.specs.Reading.{Unread}
use Rattle.dwc_base.specs.Listing.{Listing, at_end, broken, item}
use Rattle.dwc_base.specs.Wasm.{WasmSection, next_wasm_section, wasm_sections, module_from_sections}
use Rattle.dwc_wasm.specs.declared.function_sections.FunctionSections.{FunctionSections}
use Rattle.dwc_wasm.specs.FunctionSections.{HoldsLast, NotesContents}
use Rattle.dwc_base.specs.Translations.{IsTranslation, section_bytes}
use Rattle.dwc_wasm.specs.FileParts.{custom_left, Notes}
use Rattle.dwc_wasm.proofs.SectionWalk.{IsInside, next_wasm_section-fewer, next_wasm_section-inside, wasm_sections-end, wasm_sections-item, wasm_sections-broken}
use Rattle.dwc_wasm.proofs.HeldSections.{HoldsLast-more}
use Rattle.dwc_wasm.proofs.Translated.{IsTranslation-more, held-none, held_split-none, noted-inside, split_noted-inside}

-- what was met before a place, and what is met from it on
abbrev pub in_front : List WasmSection → Listing ℕ WasmSection → Listing ℕ WasmSection
in_front done rest = record { items = done ++ rest.items; fault = rest.fault }

-- The sections from the start up to a place were met, and a translation took note of them.
pub record Walked (start now : Unread) (t : ModuleTranslation) (f : FunctionSections) : Type 0 where
  pub done : List WasmSection
  pub walked : in_front done (wasm_sections now) ≡ wasm_sections start
  pub noted : IsTranslation t (module_from_sections done)
  pub held : HoldsLast f done
  pub room : length now.left ≤ length start.left
  pub inside : (name : SectionName) → length (section_bytes t.sections name) ≤ length start.left
  pub split_inside : (name : SectionName) → length (section_bytes t.dwo_sections name) ≤ length start.left

-- none was met
pub Walked-none : (u : Unread) (t : ModuleTranslation) (f : FunctionSections) → IsTranslation t (module_from_sections []) → HoldsLast f [] → Walked u u t f
Walked-none u t f h held = record {
  done = [];
  walked = refl;
  noted = h;
  held = held;
  room = omega arith;
  inside = λ name. let empty : section_bytes t.sections name ≡ [] = h.sections name ∙ held-none name in rw empty (omega arith);
  split_inside = λ name. let empty : section_bytes t.dwo_sections name ≡ [] = h.dwo_sections name ∙ held_split-none name in rw empty (omega arith);
}

module _ (start now : Unread) (t : ModuleTranslation) (f : FunctionSections) (w : Walked start now t f) where
  -- one more was met
  pub Walked-more : (next : Unread) (new : ModuleTranslation) (g : FunctionSections) (s : WasmSection) → next_wasm_section now ≡ item s next → Notes t new s → NotesContents f g s.contents → Walked start next new g
  Walked-more next new g s met notes told = record {
    done = w.done ++ s ∷ [];
    walked = ap (λ xs. record { items = xs; fault = (wasm_sections next).fault }) (append_assoc w.done (s ∷ []) (wasm_sections next).items) ∙ ap (in_front w.done) (sym (wasm_sections-item now next s met)) ∙ w.walked;
    noted = IsTranslation-more t new w.done s notes w.noted;
    held = HoldsLast-more f g w.done s told w.held;
    room = omega (arith, w.room, shrinks);
    inside = λ name. rw (notes.sections name) (noted-inside s.contents name (section_bytes t.sections name) (length start.left) (omega (arith, here.inside, w.room)) (w.inside name));
    split_inside = λ name. rw (notes.dwo_sections name) (split_noted-inside s.contents name (section_bytes t.dwo_sections name) (length start.left) (omega (arith, here.inside, w.room)) (w.split_inside name));
  }
    where
      shrinks : length next.left < length now.left
      shrinks = next_wasm_section-fewer now next s met

      here : IsInside (length now.left) (custom_left s.contents)
      here = next_wasm_section-inside now next s met

  -- no more is there
  pub Walked-done : next_wasm_section now ≡ at_end → wasm_sections start ≡ record { items = w.done; fault = None }
  Walked-done met = sym w.walked ∙ ap (in_front w.done) (wasm_sections-end now met) ∙ ap (λ xs. record { items = xs; fault = None }) (append-nil w.done)

  -- the grammar is broken
  pub Walked-broken : (place : ℕ) → next_wasm_section now ≡ broken place → wasm_sections start ≡ record { items = w.done; fault = Some place }
  Walked-broken place met = sym w.walked ∙ ap (in_front w.done) (wasm_sections-broken now place met) ∙ ap (λ xs. record { items = xs; fault = Some place }) (append-nil w.done)
