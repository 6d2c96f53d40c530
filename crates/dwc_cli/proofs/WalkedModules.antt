-- Modules that are walked one after the other.
use Rattle.std.proofs.Common.{◌≡◌, ℕ, List, [], ◌∷◌, ◌++◌, Result, Ok, Err, refl, sym, ap, ◌∙◌, append_assoc, inl, inr, ◌+◌, ◌<◌, map, length, get_or, drop, add-one}
use Rattle.std.specs.Prelude.{Vec}
use Rattle.std.specs.Global.{Global}
use Rattle.std.specs.List.{AllZip}
use Rattle.std.proofs.Math.Seq.{drop-cons}
use Rattle.dwc_base.specs.declared.translation.ModuleTranslation.{ModuleTranslation}
use Rattle.dwc_wasm.specs.declared.split.WasmFault.{WasmFault}
use Rattle.dwc_wasm.specs.declared.split.WasmFault.TheVariants.{Malformed, OutOfMemory}
use Rattle.dwc_base.specs.Wasm.{WasmModule}
use Rattle.dwc_base.specs.Translations.{IsWholeTranslation}
use Rattle.dwc_wasm.specs.FileTranslations.{TranslatesFile}
use Rattle.dwc_cli.specs.Inputs.{with_module, wasm_modules}
use Rattle.dwc_cli.specs.Failures.{wasm_status}
use Rattle.dwc_cli.specs.Answers.{IsBroken}

-- modules in front of others that are read
abbrev pub joined : List WasmModule → Result (List WasmModule) ℕ → Result (List WasmModule) ℕ
joined done (Ok ws) = Ok (done ++ ws)
joined done (Err place) = Err place

joined-none : (r : Result (List WasmModule) ℕ) → joined [] r ≡ r
joined-none (Ok ws) = refl
joined-none (Err place) = refl

joined-more : (done : List WasmModule) (w : WasmModule) (r : Result (List WasmModule) ℕ) → joined (done ++ (w ∷ [])) r ≡ joined done (with_module (Ok w) r)
joined-more done w (Ok ws) = ap Ok (append_assoc done (w ∷ []) ws)
joined-more done w (Err place) = refl

-- a further pair at the end
each-more : {A B : Type 0} (R : A → B → Type 0) (xs : List A) (ys : List B) (x : A) (y : B) → AllZip R xs ys → R x y → AllZip R (xs ++ (x ∷ [])) (ys ++ (y ∷ []))
each-more R [] [] x y h r = (r, tt)
each-more R [] (b ∷ ys) x y h r = absurd h
each-more R (a ∷ xs) [] x y h r = absurd h
each-more R (a ∷ xs) (b ∷ ys) x y h r = (h.0, each-more R xs ys x y h.1 r)

-- Some files are walked, and those that are left decide.
pub record Walked (translations : List ModuleTranslation) (left all : List (List ℕ)) : Type 0 where
  pub done : List WasmModule
  pub each : AllZip IsWholeTranslation translations done
  pub rest : joined done (wasm_modules left) ≡ wasm_modules all

pub Walked-none : (all : List (List ℕ)) → Walked [] all all
Walked-none all = record { done = []; each = tt; rest = joined-none (wasm_modules all) }

-- the files from a place on begin with the one there
pub files-from : (files : List (Vec ℕ Global)) (i : ℕ) (file : Vec ℕ Global) → i < length files → file ≡ get_or files i file → map (λ f. f.items) (drop i files) ≡ file.items ∷ map (λ f. f.items) (drop (i + 1) files)
files-from files i file within is = rw (add-one, drop-cons files i file within, ← is) refl

-- one more file is walked
pub Walked-more : (translations : List ModuleTranslation) (t : ModuleTranslation) (bytes : List ℕ) (left all : List (List ℕ)) → TranslatesFile bytes (Ok t) → Walked translations (bytes ∷ left) all → Walked (translations ++ (t ∷ [])) left all
Walked-more translations t bytes left all (w, is_wasm, is_translation) walked = record {
  done = walked.done ++ (w ∷ []);
  each = each-more IsWholeTranslation translations walked.done t w walked.each is_translation;
  rest = joined-more walked.done w (wasm_modules left) ∙ ap (λ r. joined walked.done (with_module r (wasm_modules left))) (sym is_wasm) ∙ walked.rest;
}

-- a file is not walked
pub Walked-broken : (translations : List ModuleTranslation) (fault : WasmFault) (status : ℕ) (bytes : List ℕ) (left all : List (List ℕ)) → TranslatesFile bytes (Err fault) → status ≡ wasm_status fault → Walked translations (bytes ∷ left) all → IsBroken all status
Walked-broken translations (Malformed offset) status bytes left all broken is walked = inr (is, (offset, sym walked.rest ∙ ap (λ r. joined walked.done (with_module r (wasm_modules left))) broken))
Walked-broken translations OutOfMemory status bytes left all broken is walked = inl is

-- all files are walked
pub Walked-all : (translations : List ModuleTranslation) (all : List (List ℕ)) → Walked translations [] all → (ws : List WasmModule) × (wasm_modules all ≡ Ok ws) × AllZip IsWholeTranslation translations ws
Walked-all translations all walked = (walked.done ++ [], sym walked.rest, rw (append-nil walked.done) walked.each)
  where
    append-nil : (ws : List WasmModule) → ws ++ [] ≡ ws
    append-nil [] = refl
    append-nil (w ∷ ws) = ap (λ xs. w ∷ xs) (append-nil ws)
