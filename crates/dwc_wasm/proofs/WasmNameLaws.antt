-- Names that are told rise by their numbers, and each defined function has its types.
use Rattle.std.proofs.Common.{◌≡◌, suc, List, [], ◌∷◌, map, length, None, refl, sym, ap, subst, ℕ}
use Rattle.std.specs.Prelude.{option_map}
use Rattle.std.specs.List.Sorted.{IsStrictlySortedBy}
use Rattle.std.specs.Ordering.{nat_cmp}
use Rattle.std.specs.Cmp.{nat_cmp_total}
use Rattle.dwc_base.specs.declared.translation.ModuleTranslation.{ModuleTranslation}
use Rattle.dwc_base.specs.declared.translation.ValType.{ValType}
use Rattle.dwc_base.specs.Reading.{Unread}
use Rattle.dwc_base.specs.Wasm.{WasmModule}
use Rattle.dwc_base.specs.SortedEntries.{pair_cmp}
use Rattle.dwc_base.specs.WasmFunctions.{all_local_types, local_types, type_numbers}
use Rattle.dwc_base.specs.WasmNames.{said_function_names, names_of_functions, said_local_names, names_of_locals}
use Rattle.dwc_base.specs.ToldFiles.{file_of}
use Rattle.dwc_base.specs.TranslationNames.{TellsNames, HasSortedNames, told_file}
use Rattle.dwc_base.specs.Translations.{IsWholeTranslation}
use Rattle.dwc_wasm.proofs.SortedEntryLaws.{pair_cmp-total, sorted_entries-rise}

pub function_names-rise : (m : WasmModule) → IsStrictlySortedBy nat_cmp (map (λ e. e.0) (names_of_functions m))
unfolding names_of_functions
function_names-rise m = sorted_entries-rise nat_cmp nat_cmp_total (said_function_names m)

pub local_names-rise : (m : WasmModule) → IsStrictlySortedBy pair_cmp (map (λ e. e.0) (names_of_locals m))
unfolding names_of_locals
local_names-rise m = sorted_entries-rise pair_cmp pair_cmp-total (said_local_names m)

-- a translation that tells the names of a module has them in order
pub TellsNames-sorted : (t : ModuleTranslation) (m : WasmModule) → TellsNames t m → HasSortedNames t
TellsNames-sorted t m h = record {
  func_names = subst (IsStrictlySortedBy nat_cmp) (sym (ap (map (λ e. e.0)) h.func_names)) (function_names-rise m);
  local_names = subst (IsStrictlySortedBy pair_cmp) (sym (ap (map (λ e. e.0)) h.local_names)) (local_names-rise m);
}

-- What it tells of its file is what the file of the module tells.
pub told_file-is : (t : ModuleTranslation) (m : WasmModule) → IsWholeTranslation t m → told_file t ≡ file_of None m
told_file-is t m h = λ i. record {
  path = option_map (λ path. path.now) ((h.0).path i);
  name = (h.1).module_name i;
  imported = (h.0).imported_funcs i;
  code_offset = (h.0).code_section_offset i;
  function_names = (h.1).func_names i;
  local_names = (h.1).local_names i;
  local_types = (h.1).funcs i;
}

-- ---- one for each function

all-length : (types : List (List ValType)) (numbers : List ℕ) (bodies : List Unread) → length (all_local_types types numbers bodies) ≡ length numbers
all-length types [] bodies = refl
all-length types (n ∷ ns) [] = ap suc (all-length types ns [])
all-length types (n ∷ ns) (b ∷ bs) = ap suc (all-length types ns bs)

pub local_types-length : (m : WasmModule) → length (local_types m) ≡ length (type_numbers m)
unfolding local_types
local_types-length m = all-length _ (type_numbers m) _
