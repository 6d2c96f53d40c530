-- What is said of an input at each place where the making of its text ends.
use Rattle.std.proofs.Common.{◌≡◌, ℕ, List, [], ◌∷◌, map, Option, Some, None, Result, Ok, Err, refl, sym, ap, ◌∙◌, subst, arith, inl, inr}
use Rattle.std.specs.Prelude.{unwrap_or}
use Rattle.std.specs.List.{AllZip}
use Rattle.dwc_base.specs.declared.translation.ModuleTranslation.{ModuleTranslation}
use Rattle.dwc_base.specs.Outputs.{OutputSection}
use Rattle.dwc_base.specs.Translations.{IsWholeTranslation}
use Rattle.dwc_base.specs.Wasm.{WasmModule}
use Rattle.dwc_map.specs.declared.map_file.MapFile.{MapFile as DeclaredMap}
use Rattle.dwc_map.specs.MapFile as value
use Rattle.dwc_map.specs.MapFile.{map_of_bytes}
use Rattle.dwc_map.specs.MapViews.{map_file_view}
use Rattle.dwc_cli.specs.Inputs.{Input, wasm_modules, defined_counts, Loaded, loaded}
use Rattle.dwc_cli.specs.Printed.{printed}
use Rattle.dwc_cli.specs.RunStatus.{IsOneOf, LoadedCauses}
use Rattle.dwc_cli.specs.Answers.{IsBroken, IsReadAs, IsEmitted, IsCause, CarriesText, TextCauses, IsTextStatus, text_statuses, GivesText, GivesReadText}
use Rattle.dwc_cli.proofs.Statuses.{IsOneOf-from, IsOneOf-more, IsOneOf-other}
use Rattle.dwc_cli.proofs.Hindrances.{carrying_statuses, LoadedCauses-memory, said-cause, said-emitted, carries-emitted, cause-status}

some≢none : {A : Type 0} {x : A} → Some x ≡ None → ⊥
some≢none e = cc

-- what is read of an input whose modules and map are read
pub loaded-read : (input : Input) (ws : List WasmModule) (m : value.MapFile) → wasm_modules input.modules ≡ Ok ws → map_of_bytes (defined_counts ws) input.map_bytes ≡ Some m → loaded input ≡ Some (record { wasm = ws; map_file = m })
unfolding loaded
loaded-read input ws m is_wasm is_map = rw (is_wasm, is_map) refl

loaded-no_module : (input : Input) (place : ℕ) → wasm_modules input.modules ≡ Err place → loaded input ≡ None
unfolding loaded
loaded-no_module input place no_wasm = rw no_wasm refl

loaded-no_map : (input : Input) (ws : List WasmModule) → wasm_modules input.modules ≡ Ok ws → map_of_bytes (defined_counts ws) input.map_bytes ≡ None → loaded input ≡ None
unfolding loaded
loaded-no_map input ws is_wasm no_map = rw (is_wasm, no_map) refl

-- What is said of an input that has no text, by the status.
pub record Refuses (input : Input) (status : ℕ) : Type 0 where
  pub causes : TextCauses input status
  pub one_of : IsTextStatus status
  pub complete : GivesText input status

pub Refuses-memory : (input : Input) → Refuses input 9
Refuses-memory input = record {
  causes = record {
    wasm = record { only = λ e. absurd (omega (arith, e)); always = λ _ _. IsOneOf-from (3 ∷ 4 ∷ 5 ∷ 9 ∷ []) 9 refl };
    map_file = record { only = λ e. absurd (omega (arith, e)); always = λ _. IsOneOf-from (3 ∷ 4 ∷ 6 ∷ 9 ∷ []) 9 refl };
    is_loaded = λ read is_read. LoadedCauses-memory read;
  };
  one_of = IsOneOf-from text_statuses 9 refl;
  complete = λ read is_read valid. IsOneOf-from (0 ∷ 9 ∷ []) 9 refl;
}

ok≢err : (ws : List WasmModule) (place : ℕ) → ◌≡◌ {A = Result (List WasmModule) ℕ} (Ok ws) (Err place) → ⊥
ok≢err ws place e = cc

-- a module is no wasm file
Refuses-module : (input : Input) (place : ℕ) → wasm_modules input.modules ≡ Err place → Refuses input 5
Refuses-module input place no_wasm =
    let none = loaded-no_module input place no_wasm in
    record {
      causes = record {
        wasm = record { only = λ _. (place, no_wasm); always = λ _ _. IsOneOf-from (3 ∷ 4 ∷ 5 ∷ 9 ∷ []) 5 refl };
        map_file = record { only = λ e. absurd (omega (arith, e)); always = λ h. absurd (ok≢err h.0 place (sym h.1 ∙ no_wasm)) };
        is_loaded = λ read is_read. absurd (some≢none (sym is_read ∙ none));
      };
      one_of = IsOneOf-from text_statuses 5 refl;
      complete = λ read is_read valid. absurd (some≢none (sym is_read ∙ none));
    }

-- the modules are not read
pub Refuses-broken : (input : Input) (status : ℕ) → IsBroken input.modules status → Refuses input status
Refuses-broken input status (inl memory) = subst (Refuses input) (sym memory) (Refuses-memory input)
Refuses-broken input status (inr (is, found)) = subst (Refuses input) (sym is) (Refuses-module input found.0 found.1)

-- the status of modules that are not read
pub broken-status : (files : List (List ℕ)) (status : ℕ) → IsBroken files status → IsTextStatus status
broken-status files status (inl memory) = subst IsTextStatus (sym memory) (IsOneOf-from text_statuses 9 refl)
broken-status files status (inr (is, found)) = subst IsTextStatus (sym is) (IsOneOf-from text_statuses 5 refl)

same_ok : (ws vs : List WasmModule) → ◌≡◌ {A = Result (List WasmModule) ℕ} (Ok ws) (Ok vs) → ws ≡ vs
same_ok ws vs e = cc

-- the map has no value
pub Refuses-map : (input : Input) (ws : List WasmModule) → wasm_modules input.modules ≡ Ok ws → map_of_bytes (defined_counts ws) input.map_bytes ≡ None → Refuses input 6
Refuses-map input ws are_wasm no_map =
    let none = loaded-no_map input ws are_wasm no_map in
    record {
      causes = record {
        wasm = record { only = λ e. absurd (omega (arith, e)); always = λ place no_wasm. absurd (ok≢err ws place (sym are_wasm ∙ no_wasm)) };
        map_file = record { only = λ _. (ws, are_wasm, no_map); always = λ _. IsOneOf-from (3 ∷ 4 ∷ 6 ∷ 9 ∷ []) 6 refl };
        is_loaded = λ read is_read. absurd (some≢none (sym is_read ∙ none));
      };
      one_of = IsOneOf-from text_statuses 6 refl;
      complete = λ read is_read valid. absurd (some≢none (sym is_read ∙ none));
    }

-- ---- what is said of what was read is said of the input

-- an input has this value
pub record IsRead (input : Input) (read : Loaded) : Type 0 where
  pub are_wasm : wasm_modules input.modules ≡ Ok read.wasm
  pub is_map : map_of_bytes (defined_counts read.wasm) input.map_bytes ≡ Some read.map_file

pub is_loaded : (input : Input) (read : Loaded) → IsRead input read → loaded input ≡ Some read
is_loaded input read h = loaded-read input read.wasm read.map_file h.are_wasm h.is_map

same_read : (x y : Loaded) → Some x ≡ Some y → x ≡ y
same_read x y e = ap (λ o. unwrap_or o x) e

TextCauses-read : (input : Input) (read : Loaded) (status : ℕ) → IsRead input read → IsOneOf (0 ∷ carrying_statuses) status → LoadedCauses read status → TextCauses input status
TextCauses-read input read status h one causes = record {
  wasm = record { only = λ e. absurd (IsOneOf-other (0 ∷ carrying_statuses) status 5 one refl e); always = λ place no_wasm. absurd (ok≢err read.wasm place (sym h.are_wasm ∙ no_wasm)) };
  map_file = record {
    only = λ e. absurd (IsOneOf-other (0 ∷ carrying_statuses) status 6 one refl e);
    always = λ none. absurd (some≢none (sym h.is_map ∙ subst (λ vs. map_of_bytes (defined_counts vs) input.map_bytes ≡ None) (same_ok none.0 read.wasm (sym none.1 ∙ h.are_wasm)) none.2));
  };
  is_loaded = λ others is_others. subst (λ r. LoadedCauses r status) (same_read read others (sym (is_loaded input read h) ∙ is_others)) causes;
}

-- the same of its completeness
GivesText-read : (input : Input) (read : Loaded) (status : ℕ) → IsRead input read → GivesReadText read status → GivesText input status
GivesText-read input read status h gives = λ others is_others. subst (λ r. GivesReadText r status) (same_read read others (sym (is_loaded input read h) ∙ is_others)) gives

-- the status of sections that are not emitted
pub cause-text_status : (read : Loaded) (status : ℕ) → IsCause read status → IsTextStatus status
cause-text_status read status cause = IsOneOf-more carrying_statuses text_statuses status refl (cause-status read status cause)

-- no sections are emitted
pub Refuses-cause : (input : Input) (read : Loaded) (status : ℕ) → IsRead input read → IsCause read status → Refuses input status
Refuses-cause input read status h cause =
    let said = said-cause read status cause in
    let one = cause-status read status cause in
    record {
      causes = TextCauses-read input read status h (IsOneOf-more carrying_statuses (0 ∷ carrying_statuses) status refl one) said.causes;
      one_of = cause-text_status read status cause;
      complete = GivesText-read input read status h said.complete;
    }

-- a text is made
pub record Gives (input : Input) (text : List ℕ) : Type 0 where
  pub carried : CarriesText input text
  pub causes : TextCauses input 0

pub Gives-emitted : (input : Input) (read : Loaded) (sections : List OutputSection) → IsRead input read → IsEmitted read sections → Gives input (printed sections)
Gives-emitted input read sections h emitted = record {
  carried = record { read = read; is_read = is_loaded input read h; carries = carries-emitted read sections emitted };
  causes = TextCauses-read input read 0 h (IsOneOf-from (0 ∷ carrying_statuses) 0 refl) (said-emitted read sections emitted).causes;
}

-- a look-up that is not there is none
pub none_from : {A : Type 0} (o : Option A) → ((x : A) → o ≡ Some x → ⊥) → o ≡ None
none_from None h = refl
none_from (Some x) h = absurd (h x refl)

-- the translations define what the modules define
pub counts-same : (ts : List ModuleTranslation) (ws : List WasmModule) → AllZip IsWholeTranslation ts ws → map (λ t. t.defined_funcs) ts ≡ defined_counts ws
counts-same [] [] each = refl
counts-same [] (w ∷ ws) each = absurd each
counts-same (t ∷ ts) [] each = absurd each
counts-same (t ∷ ts) (w ∷ ws) each = λ i. each.0.0.defined_funcs i ∷ counts-same ts ws each.1 i

-- what was read, where translations and a map are
pub record WasRead (ts : List ModuleTranslation) (f : DeclaredMap) (input : Input) : Type 0 where
  pub read : Loaded
  pub read_as : IsReadAs ts f read
  pub is_read : IsRead input read

pub was_read : (ts : List ModuleTranslation) (f : DeclaredMap) (input : Input) → (ws : List WasmModule) × (wasm_modules input.modules ≡ Ok ws) × AllZip IsWholeTranslation ts ws → Some (map_file_view f) ≡ map_of_bytes (map (λ t. t.defined_funcs) ts) input.map_bytes → WasRead ts f input
was_read ts f input (ws, are_wasm, each) is_map = record {
  read = record { wasm = ws; map_file = map_file_view f };
  read_as = record { wasm = each; map_is = refl };
  is_read = record { are_wasm = are_wasm; is_map = subst (λ ns. map_of_bytes ns input.map_bytes ≡ Some (map_file_view f)) (counts-same ts ws each) (sym is_map) };
}

-- where translations are and no map
pub Refuses-no_map : (ts : List ModuleTranslation) (input : Input) → (ws : List WasmModule) × (wasm_modules input.modules ≡ Ok ws) × AllZip IsWholeTranslation ts ws → None ≡ map_of_bytes (map (λ t. t.defined_funcs) ts) input.map_bytes → Refuses input 6
Refuses-no_map ts input (ws, are_wasm, each) no_map = Refuses-map input ws are_wasm (subst (λ ns. map_of_bytes ns input.map_bytes ≡ None) (counts-same ts ws each) (sym no_map))
