-- What translations tell where the paths of their files are set in them.
use Rattle.std.proofs.Common.{◌≡◌, ◌≤◌, ◌<◌, ℕ, zero, suc, List, [], ◌∷◌, get_or, map, length, Option, String, refl, sym, ap, ◌∙◌, subst, arith, All}
use Rattle.std.specs.Prelude.{option_map, slice_set}
use Rattle.std.specs.Borrow.{Bor}
use Rattle.std.specs.Global.{Global}
use Rattle.std.specs.List.{AllZip}
use Rattle.std.specs.List.Sorted.{IsStrictlySortedBy}
use Rattle.std.specs.Ordering.{nat_cmp}
use Rattle.std.proofs.lemmas.List.Elements.{All-cons, All-head, All-nil, All-tail}
use Rattle.dwc_base.specs.declared.translation.ModuleTranslation.{ModuleTranslation}
use Rattle.dwc_base.specs.SortedEntries.{pair_cmp}
use Rattle.dwc_base.specs.Wasm.{WasmModule}
use Rattle.dwc_base.specs.ToldFiles.{file_of}
use Rattle.dwc_base.specs.Translations.{IsWholeTranslation}
use Rattle.dwc_base.specs.TranslationNames.{HasSortedNames, told_file, told_module_name, told_function_names, told_local_names, told_local_types}
use Rattle.dwc_wasm.proofs.WasmNameLaws.{TellsNames-sorted}
use Rattle.dwc_isa.specs.declared.memory_offset.ModuleMemoryOffset.{ModuleMemoryOffset}
use Rattle.dwc_addr.specs.Numbers.{Compiled}
use Rattle.dwc_addr.specs.Compilations.{IsCounted}
use Rattle.dwc_map.specs.MapViews.{path_view}
use Rattle.dwc_cli.specs.ToldPaths.{HasPath, HavePaths}

-- what such a translation tells of its file is what the file tells, with the path
pub told_file-with_path : (t u : ModuleTranslation) (w : WasmModule) (path : Option (List ℕ)) → IsWholeTranslation t w → HasPath t path u → told_file u ≡ file_of path w
told_file-with_path t u w path is has = λ i. record {
  path = has.path i;
  name = (ap told_module_name has.same ∙ (is.1).module_name) i;
  imported = (ap (λ x. x.imported_funcs) has.same ∙ (is.0).imported_funcs) i;
  code_offset = (ap (λ x. x.code_section_offset) has.same ∙ (is.0).code_section_offset) i;
  function_names = (ap told_function_names has.same ∙ (is.1).func_names) i;
  local_names = (ap told_local_names has.same ∙ (is.1).local_names) i;
  local_types = (ap told_local_types has.same ∙ (is.1).funcs) i;
}

-- where the contents of its code section begin
pub code_offset-is : (t u : ModuleTranslation) (w : WasmModule) (path : Option (List ℕ)) → IsWholeTranslation t w → HasPath t path u → u.code_section_offset ≡ w.code_offset
code_offset-is t u w path is has = ap (λ x. x.code_section_offset) has.same ∙ (is.0).code_section_offset

-- ---- of all modules

length-kept : (ts : List ModuleTranslation) (paths : List (Option (List ℕ))) (us : List ModuleTranslation) → HavePaths ts paths us → length us ≡ length ts
length-kept [] [] [] has = refl
length-kept (t ∷ ts) (path ∷ paths) (u ∷ us) has = ap suc (length-kept ts paths us has.1)
length-kept [] [] (u ∷ us) has = absurd has
length-kept [] (path ∷ paths) us has = absurd has
length-kept (t ∷ ts) [] us has = absurd has
length-kept (t ∷ ts) (path ∷ paths) [] has = absurd has

counts-kept : (ts : List ModuleTranslation) (paths : List (Option (List ℕ))) (us : List ModuleTranslation) → HavePaths ts paths us → map (λ t. t.defined_funcs) us ≡ map (λ t. t.defined_funcs) ts
counts-kept [] [] [] has = refl
counts-kept (t ∷ ts) (path ∷ paths) (u ∷ us) has = λ i. ap (λ x. x.defined_funcs) has.0.same i ∷ counts-kept ts paths us has.1 i
counts-kept [] [] (u ∷ us) has = absurd has
counts-kept [] (path ∷ paths) us has = absurd has
counts-kept (t ∷ ts) [] us has = absurd has
counts-kept (t ∷ ts) (path ∷ paths) [] has = absurd has

pub counted-with_paths : (ts us : List ModuleTranslation) (paths : List (Option (List ℕ))) (fss : List (List Compiled)) (offsets : List ModuleMemoryOffset) → HavePaths ts paths us → IsCounted ts fss offsets → IsCounted us fss offsets
counted-with_paths ts us paths fss offsets has h =
    let same = sym (length-kept ts paths us has) in
    record {
      defined = h.defined ∙ sym (counts-kept ts paths us has);
      offsets_given = h.offsets_given ∙ same;
      few_modules = rw (length-kept ts paths us has) h.few_modules;
      few_functions = h.few_functions;
    }

-- ---- their names stand in order

sorted-with_path : (t u : ModuleTranslation) (path : Option (List ℕ)) → HasPath t path u → HasSortedNames t → HasSortedNames u
sorted-with_path t u path has h = record {
  func_names = subst (λ x. IsStrictlySortedBy nat_cmp (map (λ e. e.0) (told_function_names x))) (sym has.same) h.func_names;
  local_names = subst (λ x. IsStrictlySortedBy pair_cmp (map (λ e. e.0) (told_local_names x))) (sym has.same) h.local_names;
}

pub sorted-with_paths : (ts us : List ModuleTranslation) (paths : List (Option (List ℕ))) → HavePaths ts paths us → All HasSortedNames ts → All HasSortedNames us
sorted-with_paths [] [] [] has h = All-nil HasSortedNames
sorted-with_paths (t ∷ ts) (u ∷ us) (path ∷ paths) has h =
    All-cons HasSortedNames u us (sorted-with_path t u path has.0 (All-head HasSortedNames t ts h)) (sorted-with_paths ts us paths has.1 (All-tail HasSortedNames t ts h))
sorted-with_paths [] (u ∷ us) [] has h = absurd has
sorted-with_paths [] us (path ∷ paths) has h = absurd has
sorted-with_paths (t ∷ ts) us [] has h = absurd has
sorted-with_paths (t ∷ ts) [] (path ∷ paths) has h = absurd has

-- those of whole translations do
pub sorted-whole : (ts : List ModuleTranslation) (ws : List WasmModule) → AllZip IsWholeTranslation ts ws → All HasSortedNames ts
sorted-whole [] ws each = All-nil HasSortedNames
sorted-whole (t ∷ ts) [] each = absurd each
sorted-whole (t ∷ ts) (w ∷ ws) each = All-cons HasSortedNames t ts (TellsNames-sorted t w each.0.1) (sorted-whole ts ws each.1)

-- ---- the paths are set one after another

-- of the first modules the paths are set, of the others not yet
abbrev pub HaveFirstPaths : ℕ → List ModuleTranslation → List (Option (List ℕ)) → List ModuleTranslation → Type 0
HaveFirstPaths zero olds paths now = now ≡ olds
HaveFirstPaths (suc n) (old ∷ olds) (path ∷ paths) (new ∷ news) = HasPath old path new × HaveFirstPaths n olds paths news
HaveFirstPaths (suc n) _ _ _ = ⊥

-- that of the next one is set
pub first_paths-more : (n : ℕ) (olds : List ModuleTranslation) (paths : List (Option (List ℕ))) (now : List ModuleTranslation) (d : ModuleTranslation) (e : Option (List ℕ)) (path : Option (Bor (List ℕ))) → length olds ≡ length paths → n < length paths
    → option_map (λ p. p.now) path ≡ get_or paths n e → HaveFirstPaths n olds paths now → HaveFirstPaths (suc n) olds paths (slice_set now n (record (get_or now n d) { path = path }))
first_paths-more zero (old ∷ olds) (p ∷ ps) now d e path long inside is have = subst (λ us. HaveFirstPaths 1 (old ∷ olds) (p ∷ ps) (slice_set us 0 (record (get_or us 0 d) { path = path }))) (sym have) (record { path = is; same = refl }, refl)
first_paths-more (suc n) (old ∷ olds) (p ∷ ps) (u ∷ us) d e path long inside is have = (have.0, first_paths-more n olds ps us d e path (omega (arith, long)) (omega (arith, inside)) is have.1)
first_paths-more (suc n) (old ∷ olds) (p ∷ ps) [] d e path long inside is have = absurd have
first_paths-more n [] (p ∷ ps) now d e path long inside is have = absurd (omega (arith, long))
first_paths-more n olds [] now d e path long inside is have = absurd (omega (arith, inside))

-- those of all are set
pub all_paths-set : (n : ℕ) (olds : List ModuleTranslation) (paths : List (Option (List ℕ))) (now : List ModuleTranslation) → length olds ≡ length paths → length paths ≤ n → HaveFirstPaths n olds paths now → HavePaths olds paths now
all_paths-set zero [] [] now long past have = subst (HavePaths [] []) (sym have) tt
all_paths-set (suc n) (old ∷ olds) (p ∷ ps) (u ∷ us) long past have = (have.0, all_paths-set n olds ps us (omega (arith, long)) (omega (arith, past)) have.1)
all_paths-set (suc n) (old ∷ olds) (p ∷ ps) [] long past have = absurd have
all_paths-set (suc n) [] [] now long past have = absurd have
all_paths-set n [] (p ∷ ps) now long past have = absurd (omega (arith, long))
all_paths-set n (old ∷ olds) [] now long past have = absurd (omega (arith, long))
all_paths-set zero (old ∷ olds) (p ∷ ps) now long past have = absurd (omega (arith, past))

-- the view of the path at a place
pub path-at : (paths : List (Option (String Global))) (n : ℕ) (d : Option (String Global)) → path_view (get_or paths n d) ≡ get_or (map path_view paths) n (path_view d)
path-at [] zero d = refl
path-at [] (suc n) d = refl
path-at (p ∷ ps) zero d = refl
path-at (p ∷ ps) (suc n) d = path-at ps n d
