-- Sections of split units in a WebAssembly file, beside sections of the same names without the suffix.
use Rattle.std.proofs.Common.{◌≡◌, ℕ, ◌+◌, List, [], ◌∷◌, ◌++◌, length, Ok, Err, Result, refl}
use Rattle.std.specs.Prelude.{codes}
use Rattle.dwc_base.specs.declared.section_name.SectionName.TheVariants.{Abbrev, Frame, Info}
use Rattle.dwc_base.specs.Wasm.{WasmModule, wasm_module, preamble, held, held_split}
use Rattle.dwc_worked.proofs.OnLiterals.{files_on_literals}

-- what a file holds of three sections: without the suffix, and with it
pub record Held : Type 0 where
  pub info : List ℕ
  pub split_info : List ℕ
  pub abbreviations : List ℕ
  pub split_abbreviations : List ℕ
  pub split_frames : List ℕ

abbrev pub held_of : Result WasmModule ℕ → Result Held ℕ
held_of (Err place) = Err place
held_of (Ok m) = Ok (record { info = held m Info; split_info = held_split m Info; abbreviations = held m Abbrev; split_abbreviations = held_split m Abbrev; split_frames = held_split m Frame })

-- a custom section of less than 128 bytes
abbrev pub titled : List ℕ → List ℕ → List ℕ
titled title contents = 0x00 ∷ (1 + length title + length contents) ∷ length title ∷ title ++ contents

-- of two of one name the later counts, and none counts as one without the suffix, nor as one of another name
sections-apart : held_of (wasm_module (preamble ++ titled (codes ".debug_info.dwo") (1 ∷ []) ++ titled (codes ".debug_info") (2 ∷ []) ++ titled (codes ".debug_info.dwo") (3 ∷ []) ++ titled (codes ".debug_abbrev.dwo") (4 ∷ []) ++ titled (codes ".debug_frame.dwo") (5 ∷ []) ++ titled (codes ".debug_info.dwo.dwo") (6 ∷ [])))
    ≡ Ok (record { info = 2 ∷ []; split_info = 3 ∷ []; abbreviations = []; split_abbreviations = 4 ∷ []; split_frames = [] })
unfolding files_on_literals
sections-apart = refl
