-- For each clause of a run but those on what is written: an input that meets the clause's premise, and an answer that the
-- clause refuses.
use Rattle.std.proofs.Common.{◌≡◌, ◌≢◌, ℕ, zero, suc, ◌+◌, ◌-◌, ◌^◌, ◌<◌, ◌≤◌, List, [], ◌∷◌, length, get_or, Some, None, Ok, Err, Result, false, refl, ap, subst, sym, ◌∙◌, arith, lit<, lit≤, inl, inr}
use Rattle.std.specs.Prelude.{◌⊎◌, All, Option, is_some, IsNone, codes, option_map}
use Rattle.std.proofs.Math.ListN.{replicate}
use Rattle.std.proofs.lemmas.List.{length-replicate}
use Rattle.std.proofs.lemmas.Bool.{true≢false}
use Rattle.dwc_base.specs.declared.section_name.SectionName.TheVariants.{Info}
use Rattle.dwc_base.specs.declared.records.Endian.TheVariants.{Little}
use Rattle.dwc_native.specs.Compiled.{ToldModule, no_memory, defined}
use Rattle.dwc_native.specs.Functions.{AddressMap}
use Rattle.dwc_rules.specs.Carried.{Module, Compilation}
use Rattle.dwc_worked.proofs.CarriedSmall.{module_small}
use Rattle.dwc_base.specs.declared.faults.What.TheVariants.{Entry as EntryRead, UnitHeader as HeaderRead}
use Rattle.dwc_base.specs.declared.faults.Kind.TheVariants.{Format64, Compressed}
use Rattle.dwc_base.specs.Sections.{unsupported, unreadable}
use Rattle.dwc_rules.specs.Refusals.{Refusal, of_place, missing_file, bad_label, lacks_memory, unmapped_register, long_jump, far_memory}
use Rattle.dwc_carried.specs.Forests.{first_refusal}
use Rattle.dwc_base.specs.Wasm.{WasmModule}
use Rattle.dwc_worked.proofs.SmallModule.{file_small}
use Rattle.dwc_map.specs.MapFile.{map_of_bytes}
use Rattle.dwc_cli.specs.Inputs.{Loaded, loaded, paths_of, wasm_modules, defined_counts, compilation_of, shared_in}
use Rattle.dwc_cli.specs.RunStatus.{Rose, most_bytes, IsOneOf, run_statuses, IsStatus, IsTooLong, UsageCause, MissingCause, InputCauses, NamedCauses, refusal_status, refusal_statuses, PassesLimit, LoadedCauses, RunsWell, IsValid}
use Rattle.dwc_worked.proofs.Examples.{map_bytes_small, map-small}
use Rattle.dwc_worked.proofs.WholeRun.{whole_on_literals, refusal_of, input_small, read_in, read_small, told_bare, told-bare, runtime_names, accepted-small, short-small, narrow-small}
use Rattle.dwc_worked.proofs.BrokenInputs.{file_64, file_5, file_undeclared, file_compressed, file_no_directory, file_two_faults, file_cut, file_old, map_bytes_falls, map_bytes_missing, map_bytes_two, map_bytes_shared, map_bytes_shared_falls, map_bytes_second_falls, map_bytes_far, map_bytes_near}
use Rattle.dwc_worked.proofs.Answers.{refused, is_status_among, three_files, one_file, two_files, right_words, three_words, of_one, of_two, names, names-two, lacks_module, lacks_map, lacks_second}

-- ---- wrong words

-- words outside the grammar
one_word : IsNone (paths_of (codes "m" ∷ []))
one_word = refl

no_words : IsNone (paths_of [])
no_words = refl

empty_third : IsNone (paths_of (codes "m" ∷ codes "w" ∷ [] ∷ codes "x" ∷ []))
empty_third = refl

empty_word : IsNone (paths_of (codes "m" ∷ [] ∷ []))
empty_word = refl

option_word : IsNone (paths_of (codes "--generate" ∷ codes "0" ∷ []))
option_word = refl

dash_word : IsNone (paths_of (codes "m" ∷ codes "-" ∷ []))
dash_word = refl

-- wrong words that are passed over
usage-success : UsageCause (codes "m" ∷ []) 0 → ⊥
usage-success h = refused (2 ∷ 9 ∷ []) 0 refl (h.always refl)

usage-read_fault : UsageCause (codes "m" ∷ codes "-" ∷ []) 3 → ⊥
usage-read_fault h = refused (2 ∷ 9 ∷ []) 3 refl (h.always refl)

-- right words that are refused
usage-right : UsageCause right_words 2 → ⊥
usage-right h = true≢false (h.only refl)

usage-three : UsageCause three_words 2 → ⊥
usage-three h = true≢false (h.only refl)

-- ---- faults of source and sink: 3 and 8 only where a count rose

rose-not : Rose 0 0 → ⊥
rose-not h = omega (arith, h)

rose-not-later : Rose 7 7 → ⊥
rose-not-later h = omega (arith, h)

rose : Rose 7 8
rose = lit≤ tt

-- at its type's end a count cannot rise
rose-at_end : Rose (2 ^ 64 - 1) (2 ^ 64 - 1)
rose-at_end = lit≤ tt

-- a claim that is made of one status
abbrev pub OnStatus : ℕ → ℕ → Type 0 → Type 0
OnStatus wanted status claim = status ≡ wanted → claim

-- status 3, and 8, where the count is as before
read_fault-none : OnStatus 3 3 (Rose 0 0) → ⊥
read_fault-none clause = rose-not (clause refl)

write_fault-none : OnStatus 8 8 (Rose 7 7) → ⊥
write_fault-none clause = rose-not-later (clause refl)

-- ---- files that are too long

-- a file of 2 ^ 28 bytes is not too long, and 4 is refused
too_long-limit : OnStatus 4 4 (most_bytes < most_bytes) → ⊥
too_long-limit clause = let past = clause refl in omega (arith, past)

-- one byte more is, and success is refused
taken-past : (most_bytes < most_bytes + 1 → IsOneOf (2 ∷ 4 ∷ 9 ∷ []) 0) → ⊥
taken-past clause = refused (2 ∷ 4 ∷ 9 ∷ []) 0 refl (clause (omega arith))

-- there are such files
longer : (n : ℕ) → (bytes : List ℕ) × (n < length bytes)
longer n = (replicate {A = ℕ} (n + 1) 0, omega (arith, length-replicate {A = ℕ} (n + 1) 0))

long_file : (bytes : List ℕ) × (most_bytes < length bytes)
long_file = longer most_bytes

-- what is said of the input that the words name
abbrev pub Causes : List ℕ → List ℕ → ℕ → Type 0
Causes m w status = InputCauses (Some (three_files m w [])) right_words status

abbrev pub causes : (m w : List ℕ) (status : ℕ) → Causes m w status → NamedCauses (of_one m w) status
causes m w status h = h (of_one m w) (names m w [])

-- and of one of two modules
abbrev pub CausesOfTwo : List ℕ → List ℕ → List ℕ → ℕ → Type 0
CausesOfTwo m w x status = InputCauses (Some (three_files m w x)) three_words status

abbrev pub causes_of_two : (m w x : List ℕ) (status : ℕ) → CausesOfTwo m w x status → NamedCauses (of_two m w x) status
causes_of_two m w x status h = h (of_two m w x) (names-two m w x)

-- a map that is too long, and a first and a second module that is: neither success nor a later status
long_map-success : (bytes : List ℕ) → most_bytes < length bytes → Causes bytes file_small 0 → ⊥
long_map-success bytes long h = refused (3 ∷ 4 ∷ 9 ∷ []) 0 refl ((causes bytes file_small 0 h).too_long.always (0, bytes, omega arith, refl, long))

long_map-no_json : (bytes : List ℕ) → most_bytes < length bytes → Causes bytes file_small 6 → ⊥
long_map-no_json bytes long h = refused (3 ∷ 4 ∷ 9 ∷ []) 6 refl ((causes bytes file_small 6 h).too_long.always (0, bytes, omega arith, refl, long))

long_module-success : (bytes : List ℕ) → most_bytes < length bytes → Causes map_bytes_small bytes 0 → ⊥
long_module-success bytes long h = refused (3 ∷ 4 ∷ 9 ∷ []) 0 refl ((causes map_bytes_small bytes 0 h).too_long.always (1, bytes, omega arith, refl, long))

long_module-no_wasm : (bytes : List ℕ) → most_bytes < length bytes → Causes map_bytes_small bytes 5 → ⊥
long_module-no_wasm bytes long h = refused (3 ∷ 4 ∷ 9 ∷ []) 5 refl ((causes map_bytes_small bytes 5 h).too_long.always (1, bytes, omega arith, refl, long))

long_second-success : (bytes : List ℕ) → most_bytes < length bytes → CausesOfTwo map_bytes_two file_small bytes 0 → ⊥
long_second-success bytes long h = refused (3 ∷ 4 ∷ 9 ∷ []) 0 refl ((causes_of_two map_bytes_two file_small bytes 0 h).too_long.always (2, bytes, omega arith, refl, long))

-- ---- a missing file

-- the module is missing, or the map, or the second module: no success, nor a status that tells of contents
missing_module-success : (bytes : List ℕ) → MissingCause (Some (one_file (codes "m") bytes)) right_words 0 → ⊥
missing_module-success bytes h = refused (3 ∷ 4 ∷ 9 ∷ []) 0 refl (h (lacks_module bytes))

missing_module-no_wasm : (bytes : List ℕ) → MissingCause (Some (one_file (codes "m") bytes)) right_words 5 → ⊥
missing_module-no_wasm bytes h = refused (3 ∷ 4 ∷ 9 ∷ []) 5 refl (h (lacks_module bytes))

missing_map-success : (bytes : List ℕ) → MissingCause (Some (one_file (codes "w") bytes)) right_words 0 → ⊥
missing_map-success bytes h = refused (3 ∷ 4 ∷ 9 ∷ []) 0 refl (h (lacks_map bytes))

missing_map-no_json : (bytes : List ℕ) → MissingCause (Some (one_file (codes "w") bytes)) right_words 6 → ⊥
missing_map-no_json bytes h = refused (3 ∷ 4 ∷ 9 ∷ []) 6 refl (h (lacks_map bytes))

missing_second-success : (m w : List ℕ) → MissingCause (Some (two_files m w)) three_words 0 → ⊥
missing_second-success m w h = refused (3 ∷ 4 ∷ 9 ∷ []) 0 refl (h (lacks_second m w))

-- ---- what is said of files that are read

-- the small files are not too long
small-too_long : Causes map_bytes_small file_small 4 → ⊥
small-too_long h = short ((causes map_bytes_small file_small 4 h).too_long.only refl)
  where
    short : IsTooLong (of_one map_bytes_small file_small) → ⊥
    short (zero, x, within, is, long) = let past : most_bytes < length map_bytes_small = subst (λ b. most_bytes < length b) (sym is) long in omega (arith, past)
    short (suc zero, x, within, is, long) = let past : most_bytes < length file_small = subst (λ b. most_bytes < length b) (sym is) long in omega (arith, past)
    short (suc (suc k), x, within, is, long) = omega (arith, within)

-- a module that is no wasm file, also the second of two, and one that is
no_wasm-success : Causes map_bytes_small file_old 0 → ⊥
unfolding whole_on_literals
no_wasm-success h = refused (3 ∷ 4 ∷ 5 ∷ 9 ∷ []) 0 refl ((causes map_bytes_small file_old 0 h).wasm.always 0 refl)

no_wasm-no_json : Causes (codes "{") [] 6 → ⊥
unfolding whole_on_literals
no_wasm-no_json h = refused (3 ∷ 4 ∷ 5 ∷ 9 ∷ []) 6 refl ((causes (codes "{") [] 6 h).wasm.always 0 refl)

no_second_wasm-success : CausesOfTwo map_bytes_two file_small file_cut 0 → ⊥
unfolding whole_on_literals
no_second_wasm-success h = refused (3 ∷ 4 ∷ 5 ∷ 9 ∷ []) 0 refl ((causes_of_two map_bytes_two file_small file_cut 0 h).wasm.always 9 refl)

small-no_wasm : Causes map_bytes_small file_small 5 → ⊥
unfolding whole_on_literals
small-no_wasm h = let found = (causes map_bytes_small file_small 5 h).wasm.only refl in let impossible = found.1 in cc

-- of two modules that are none the first gives the place
first_broken : wasm_modules (file_cut ∷ file_old ∷ []) ≡ Err 9
unfolding whole_on_literals
first_broken = refl

-- the modules of files that are such
abbrev pub wasm_in : Result (List WasmModule) ℕ → List WasmModule
wasm_in (Ok ws) = ws
wasm_in (Err place) = []

-- a map that is no JSON, one that lacks a function, one for another number of modules, and one that has its value
brace-success : Causes (codes "{") file_small 0 → ⊥
unfolding whole_on_literals
brace-success h = refused (3 ∷ 4 ∷ 6 ∷ 9 ∷ []) 0 refl ((causes (codes "{") file_small 0 h).map_file.always (wasm_in (wasm_modules (file_small ∷ [])), refl, refl))

function_missing-success : Causes map_bytes_missing file_small 0 → ⊥
unfolding whole_on_literals
function_missing-success h = refused (3 ∷ 4 ∷ 6 ∷ 9 ∷ []) 0 refl ((causes map_bytes_missing file_small 0 h).map_file.always (wasm_in (wasm_modules (file_small ∷ [])), refl, refl))

module_missing-success : CausesOfTwo map_bytes_small file_small file_small 0 → ⊥
unfolding whole_on_literals
module_missing-success h = refused (3 ∷ 4 ∷ 6 ∷ 9 ∷ []) 0 refl ((causes_of_two map_bytes_small file_small file_small 0 h).map_file.always (wasm_in (wasm_modules (file_small ∷ file_small ∷ [])), refl, refl))

-- the small file defines one function
defines_one : (ws : List WasmModule) → wasm_modules (file_small ∷ []) ≡ Ok ws → 1 ∷ [] ≡ defined_counts ws
unfolding whole_on_literals
defines_one ws is = ap (λ r. defined_counts (wasm_in r)) is

-- and the small map has a value for it
has_map : (ws : List WasmModule) → wasm_modules (file_small ∷ []) ≡ Ok ws → map_of_bytes (defined_counts ws) map_bytes_small ≡ None → ⊥
has_map ws is none =
    let nothing : map_of_bytes (1 ∷ []) map_bytes_small ≡ None = subst (λ ns. map_of_bytes ns map_bytes_small ≡ None) (sym (defines_one ws is)) none in
    true≢false (ap is_some (sym map-small ∙ nothing))

small-no_map : Causes map_bytes_small file_small 6 → ⊥
small-no_map h = let found = (causes map_bytes_small file_small 6 h).map_file.only refl in has_map found.0 found.1 found.2

-- ---- what is said of an input that has a value

-- what is said of it, where a value is read
abbrev pub loaded_causes : (m w : List ℕ) (status : ℕ) (read : Loaded) → loaded (of_one m w) ≡ Some read → Causes m w status → LoadedCauses read status
loaded_causes m w status read is_read h = (causes m w status h).is_loaded read is_read

abbrev pub loaded_causes_of_two : (m w x : List ℕ) (status : ℕ) (read : Loaded) → loaded (of_two m w x) ≡ Some read → CausesOfTwo m w x status → LoadedCauses read status
loaded_causes_of_two m w x status read is_read h = (causes_of_two m w x status h).is_loaded read is_read

abbrev pub read_of : List ℕ → List ℕ → Loaded
read_of m w = read_in (loaded (of_one m w))

abbrev pub read_of_two : List ℕ → List ℕ → List ℕ → Loaded
read_of_two m w x = read_in (loaded (of_two m w x))

-- ---- two functions with one symbol

-- the second module's function has the symbol of the first one's
shared_numbers : shared_in (read_of_two map_bytes_shared file_small file_small) ≡ Some (0, 1)
unfolding whole_on_literals
shared_numbers = refl

shared-success : CausesOfTwo map_bytes_shared file_small file_small 0 → ⊥
unfolding whole_on_literals
shared-success h = refused (3 ∷ 4 ∷ 9 ∷ 21 ∷ []) 0 refl ((loaded_causes_of_two map_bytes_shared file_small file_small 0 (read_of_two map_bytes_shared file_small file_small) refl h).shared.always refl)

-- also where an address map falls, and a place is unreadable
shared-falls : CausesOfTwo map_bytes_shared_falls file_undeclared file_small 13 → ⊥
unfolding whole_on_literals
shared-falls h = refused (3 ∷ 4 ∷ 9 ∷ 21 ∷ []) 13 refl ((loaded_causes_of_two map_bytes_shared_falls file_undeclared file_small 13 (read_of_two map_bytes_shared_falls file_undeclared file_small) refl h).shared.always refl)

shared-unreadable : CausesOfTwo map_bytes_shared_falls file_undeclared file_small 10 → ⊥
unfolding whole_on_literals
shared-unreadable h = refused (3 ∷ 4 ∷ 9 ∷ 21 ∷ []) 10 refl ((loaded_causes_of_two map_bytes_shared_falls file_undeclared file_small 10 (read_of_two map_bytes_shared_falls file_undeclared file_small) refl h).shared.always refl)

-- two functions with two symbols
two-shared : CausesOfTwo map_bytes_two file_small file_small 21 → ⊥
unfolding whole_on_literals
two-shared h = true≢false (sym ((loaded_causes_of_two map_bytes_two file_small file_small 21 (read_of_two map_bytes_two file_small file_small) refl h).shared.only refl))

-- ---- bad address maps

-- an address map that falls, also the second of two, and one that is good
falls-success : Causes map_bytes_falls file_small 0 → ⊥
unfolding whole_on_literals
falls-success h = refused (3 ∷ 4 ∷ 9 ∷ 13 ∷ 21 ∷ []) 0 refl ((loaded_causes map_bytes_falls file_small 0 (read_of map_bytes_falls file_small) refl h).address_map.always refl)

falls-unreadable : Causes map_bytes_falls file_small 10 → ⊥
unfolding whole_on_literals
falls-unreadable h = refused (3 ∷ 4 ∷ 9 ∷ 13 ∷ 21 ∷ []) 10 refl ((loaded_causes map_bytes_falls file_small 10 (read_of map_bytes_falls file_small) refl h).address_map.always refl)

second_falls-success : CausesOfTwo map_bytes_second_falls file_small file_small 0 → ⊥
unfolding whole_on_literals
second_falls-success h = refused (3 ∷ 4 ∷ 9 ∷ 13 ∷ 21 ∷ []) 0 refl ((loaded_causes_of_two map_bytes_second_falls file_small file_small 0 (read_of_two map_bytes_second_falls file_small file_small) refl h).address_map.always refl)

small-falls : Causes map_bytes_small file_small 13 → ⊥
unfolding whole_on_literals
small-falls h = true≢false (sym ((loaded_causes map_bytes_small file_small 13 read_small refl h).address_map.only refl))

-- ---- what is refused in reading

-- a status that is not that of the first refusal is refused, unless it is one that comes earlier
pub refused_always : (read : Loaded) (r : Refusal) (status : ℕ) → first_refusal (compilation_of read) ≡ Some r → is_status_among (3 ∷ 4 ∷ 9 ∷ 13 ∷ 21 ∷ refusal_status r ∷ []) status ≡ false → LoadedCauses read status → ⊥
refused_always read r status is none h = refused (3 ∷ 4 ∷ 9 ∷ 13 ∷ 21 ∷ refusal_status r ∷ []) status none (h.refused.always r is)

-- the 64-bit format: of its statuses but 11, none is answered, nor 0, 8 or 20
refusal-64 : refusal_of (loaded (of_one map_bytes_small file_64)) ≡ Some (of_place (unsupported Format64 0))
unfolding whole_on_literals
refusal-64 = refl

format_64 : (status : ℕ) → is_status_among (3 ∷ 4 ∷ 9 ∷ 13 ∷ 21 ∷ 11 ∷ []) status ≡ false → Causes map_bytes_small file_64 status → ⊥
unfolding whole_on_literals
format_64 status none h = refused_always (read_of map_bytes_small file_64) (of_place (unsupported Format64 0)) status refl none (loaded_causes map_bytes_small file_64 status (read_of map_bytes_small file_64) refl h)

format_64-success : Causes map_bytes_small file_64 0 → ⊥
format_64-success h = format_64 0 refl h

format_64-write_fault : Causes map_bytes_small file_64 8 → ⊥
format_64-write_fault h = format_64 8 refl h

format_64-unreadable : Causes map_bytes_small file_64 10 → ⊥
format_64-unreadable h = format_64 10 refl h

format_64-no_file : Causes map_bytes_small file_64 12 → ⊥
format_64-no_file h = format_64 12 refl h

format_64-too_large : Causes map_bytes_small file_64 20 → ⊥
format_64-too_large h = format_64 20 refl h

-- a unit of version 5 without its type is unreadable
refusal-5 : refusal_of (loaded (of_one map_bytes_small file_5)) ≡ Some (of_place (unreadable HeaderRead Info 0))
unfolding whole_on_literals
refusal-5 = refl

-- an entry whose code is not declared: neither success nor a refused kind
refusal-undeclared : refusal_of (loaded (of_one map_bytes_small file_undeclared)) ≡ Some (of_place (unreadable EntryRead Info 16))
unfolding whole_on_literals
refusal-undeclared = refl

undeclared : (status : ℕ) → is_status_among (3 ∷ 4 ∷ 9 ∷ 13 ∷ 21 ∷ 10 ∷ []) status ≡ false → Causes map_bytes_small file_undeclared status → ⊥
unfolding whole_on_literals
undeclared status none h = refused_always (read_of map_bytes_small file_undeclared) (of_place (unreadable EntryRead Info 16)) status refl none (loaded_causes map_bytes_small file_undeclared status (read_of map_bytes_small file_undeclared) refl h)

undeclared-success : Causes map_bytes_small file_undeclared 0 → ⊥
undeclared-success h = undeclared 0 refl h

undeclared-unsupported : Causes map_bytes_small file_undeclared 11 → ⊥
undeclared-unsupported h = undeclared 11 refl h

-- a file of a directory that is not there: neither success nor another refusal
refusal-no_directory : refusal_of (loaded (of_one map_bytes_small file_no_directory)) ≡ Some (missing_file 0)
unfolding whole_on_literals
refusal-no_directory = refl

no_directory : (status : ℕ) → is_status_among (3 ∷ 4 ∷ 9 ∷ 13 ∷ 21 ∷ 12 ∷ []) status ≡ false → Causes map_bytes_small file_no_directory status → ⊥
unfolding whole_on_literals
no_directory status none h = refused_always (read_of map_bytes_small file_no_directory) (missing_file 0) status refl none (loaded_causes map_bytes_small file_no_directory status (read_of map_bytes_small file_no_directory) refl h)

no_directory-success : Causes map_bytes_small file_no_directory 0 → ⊥
no_directory-success h = no_directory 0 refl h

no_directory-unreadable : Causes map_bytes_small file_no_directory 10 → ⊥
no_directory-unreadable h = no_directory 10 refl h

no_directory-unsupported : Causes map_bytes_small file_no_directory 11 → ⊥
no_directory-unsupported h = no_directory 11 refl h

-- a compressed section stands before all other places of its module
refusal-compressed : refusal_of (loaded (of_one map_bytes_small file_compressed)) ≡ Some (of_place (unsupported Compressed 180))
unfolding whole_on_literals
refusal-compressed = refl

refusal-two_faults : refusal_of (loaded (of_one map_bytes_small file_two_faults)) ≡ Some (of_place (unsupported Compressed 180))
unfolding whole_on_literals
refusal-two_faults = refl

two_faults-unreadable : Causes map_bytes_small file_two_faults 10 → ⊥
unfolding whole_on_literals
two_faults-unreadable h = refused_always (read_of map_bytes_small file_two_faults) (of_place (unsupported Compressed 180)) 10 refl refl (loaded_causes map_bytes_small file_two_faults 10 (read_of map_bytes_small file_two_faults) refl h)

-- of two modules the first one's refusal comes first, also where it is found later in its module
refusal-first : refusal_of (loaded (of_two map_bytes_two file_no_directory file_compressed)) ≡ Some (missing_file 0)
unfolding whole_on_literals
refusal-first = refl

-- and the second one's where the first is read
-- the address map of the function of a symbol, in the maps of one module and of two
abbrev of_symbol : ℕ → AddressMap
of_symbol symbol = record { symbol = Some symbol; start = Some 22; end = Some 33; body_offset = 0; body_len = 30; entries = (5, Some 25) ∷ (15, Some 30) ∷ [] }

-- the module at a place of an input
abbrev module_at : ℕ → Loaded → Module
module_at place read = get_or (compilation_of read).modules place module_small

-- two such modules, with what is told of them
abbrev two_told : Loaded → ToldModule → ToldModule → Compilation
two_told read first second = record { order = Little; pointer_bytes = 8; modules = record (module_at 0 read) { told = first } ∷ record (module_at 1 read) { told = second } ∷ []; next_id = 0; common_entry = None; version = 4 }

second-told : compilation_of (read_of_two map_bytes_two file_small file_64) ≡ two_told (read_of_two map_bytes_two file_small file_64) (told_bare runtime_names 0 no_memory) (told_bare runtime_names 1 no_memory)
unfolding whole_on_literals
second-told = λ i. two_told (read_of_two map_bytes_two file_small file_64) (told-bare runtime_names 0 0 (of_symbol 0) no_memory None i) (told-bare runtime_names 1 1 (of_symbol 1) no_memory None i)

second-refused : first_refusal (two_told (read_of_two map_bytes_two file_small file_64) (told_bare runtime_names 0 no_memory) (told_bare runtime_names 1 no_memory)) ≡ Some (of_place (unsupported Format64 0))
unfolding whole_on_literals
second-refused = refl

second-read : loaded (of_two map_bytes_two file_small file_64) ≡ Some (read_of_two map_bytes_two file_small file_64)
unfolding whole_on_literals
second-read = refl

refusal-second : first_refusal (compilation_of (read_of_two map_bytes_two file_small file_64)) ≡ Some (of_place (unsupported Format64 0))
refusal-second = ap first_refusal second-told ∙ second-refused

second-success : CausesOfTwo map_bytes_two file_small file_64 0 → ⊥
second-success h = refused_always (read_of_two map_bytes_two file_small file_64) (of_place (unsupported Format64 0)) 0 refusal-second refl (loaded_causes_of_two map_bytes_two file_small file_64 0 (read_of_two map_bytes_two file_small file_64) second-read h)

-- where an expression is refused: neither success nor another refusal
label-success : (read : Loaded) (label : ℕ) → first_refusal (compilation_of read) ≡ Some (bad_label label) → LoadedCauses read 0 → ⊥
label-success read label is h = refused_always read (bad_label label) 0 is refl h

label-register : (read : Loaded) (label : ℕ) → first_refusal (compilation_of read) ≡ Some (bad_label label) → LoadedCauses read 16 → ⊥
label-register read label is h = refused_always read (bad_label label) 16 is refl h

memory-success : (read : Loaded) (place : ℕ) → first_refusal (compilation_of read) ≡ Some (lacks_memory place) → LoadedCauses read 0 → ⊥
memory-success read place is h = refused_always read (lacks_memory place) 0 is refl h

memory-unsupported : (read : Loaded) (place : ℕ) → first_refusal (compilation_of read) ≡ Some (lacks_memory place) → LoadedCauses read 11 → ⊥
memory-unsupported read place is h = refused_always read (lacks_memory place) 11 is refl h

register-success : (read : Loaded) (register : ℕ) → first_refusal (compilation_of read) ≡ Some (unmapped_register register) → LoadedCauses read 0 → ⊥
register-success read register is h = refused_always read (unmapped_register register) 0 is refl h

register-label : (read : Loaded) (register : ℕ) → first_refusal (compilation_of read) ≡ Some (unmapped_register register) → LoadedCauses read 14 → ⊥
register-label read register is h = refused_always read (unmapped_register register) 14 is refl h

jump-success : (read : Loaded) → first_refusal (compilation_of read) ≡ Some long_jump → LoadedCauses read 0 → ⊥
jump-success read is h = refused_always read long_jump 0 is refl h

-- where a memory is too far behind in its context, before all that is read: neither success nor the status of a memory that is not there
refusal-far : refusal_of (loaded (of_one map_bytes_far file_small)) ≡ Some far_memory
unfolding whole_on_literals
refusal-far = refl

near-told : compilation_of (read_of map_bytes_near file_small) ≡ record { order = Little; pointer_bytes = 8; modules = record (module_at 0 (read_of map_bytes_near file_small)) { told = told_bare runtime_names 0 (defined 4294967287) } ∷ []; next_id = 0; common_entry = None; version = 4 }
unfolding whole_on_literals
near-told = λ i. record { order = Little; pointer_bytes = 8; modules = record (module_at 0 (read_of map_bytes_near file_small)) { told = told-bare runtime_names 0 0 (of_symbol 0) (defined 4294967287) None i } ∷ []; next_id = 0; common_entry = None; version = 4 }

near-accepted : first_refusal (record { order = Little; pointer_bytes = 8; modules = record (module_at 0 (read_of map_bytes_near file_small)) { told = told_bare runtime_names 0 (defined 4294967287) } ∷ []; next_id = 0; common_entry = None; version = 4 }) ≡ None
unfolding whole_on_literals
near-accepted = refl

near-read : loaded (of_one map_bytes_near file_small) ≡ Some (read_of map_bytes_near file_small)
unfolding whole_on_literals
near-read = refl

refusal-near : refusal_of (loaded (of_one map_bytes_near file_small)) ≡ None
refusal-near = ap refusal_of near-read ∙ (ap first_refusal near-told ∙ near-accepted)

refusal-far_unreadable : refusal_of (loaded (of_one map_bytes_far file_undeclared)) ≡ Some far_memory
unfolding whole_on_literals
refusal-far_unreadable = refl

far : (status : ℕ) → is_status_among (3 ∷ 4 ∷ 9 ∷ 13 ∷ 21 ∷ 20 ∷ []) status ≡ false → Causes map_bytes_far file_small status → ⊥
unfolding whole_on_literals
far status none h = refused_always (read_of map_bytes_far file_small) far_memory status refl none (loaded_causes map_bytes_far file_small status (read_of map_bytes_far file_small) refl h)

far-success : Causes map_bytes_far file_small 0 → ⊥
far-success h = far 0 refl h

far-no_memory : Causes map_bytes_far file_small 15 → ⊥
far-no_memory h = far 15 refl h

-- what is read of the small input
pub small-read : loaded input_small ≡ Some read_small
unfolding whole_on_literals
small-read = refl

-- nothing of it is refused
pub small-refused : (status : ℕ) → IsOneOf refusal_statuses status → Causes map_bytes_small file_small status → ⊥
small-refused status one h = let impossible = (loaded_causes map_bytes_small file_small status read_small small-read h).refused.only one in none≢some (sym (ap (option_map refusal_status) accepted-small) ∙ impossible)
  where
    none≢some : ◌≡◌ {A = Option ℕ} None (Some status) → ⊥
    none≢some e = cc

-- ---- a section that is too large

small-too_large : Causes map_bytes_small file_small 20 → ⊥
small-too_large h = go ((loaded_causes map_bytes_small file_small 20 read_small small-read h).too_large refl)
  where
    clash : ◌≡◌ {A = Option ℕ} None (Some 20) → ⊥
    clash e = cc

    go : (option_map refusal_status (first_refusal (compilation_of read_small)) ≡ Some 20) ⊎ ((first_refusal (compilation_of read_small) ≡ None) × PassesLimit (compilation_of read_small)) → ⊥
    go (inl is) = clash (sym (ap (option_map refusal_status) accepted-small) ∙ is)
    go (inr (accepted, inl (name, large))) = let small = narrow-small name in omega (arith, small, large)
    go (inr (accepted, inr long)) = true≢false (sym short-small ∙ long)

-- ---- a run answers no other status

status-1 : IsStatus 1 → ⊥
status-1 h = refused run_statuses 1 refl h

status-7 : IsStatus 7 → ⊥
status-7 h = refused run_statuses 7 refl h

status-22 : IsStatus 22 → ⊥
status-22 h = refused run_statuses 22 refl h

-- ---- where all is well, a run succeeds or wants memory

-- the small run is well
valid-small : IsValid read_small
unfolding whole_on_literals
valid-small = record { distinct = refl; maps = refl; accepted = accepted-small; small = narrow-small; short = short-small }

-- its files are short
short_small : All (λ bytes. length bytes ≤ most_bytes) (map_bytes_small ∷ file_small ∷ [])
short_small zero d within = lit≤ tt
short_small (suc zero) d within = lit≤ tt
short_small (suc (suc k)) d within = absurd (omega (arith, within))

well-small : (reads writes : ℕ) → reads < 9 → writes < 9 → RunsWell (Some (three_files map_bytes_small file_small [])) right_words reads reads writes writes
well-small reads writes few fewer = record {
  input = input_small;
  named = names map_bytes_small file_small [];
  well = record {
    read = read_small;
    is_read = small-read;
    short = short_small;
    reads = λ rose. omega (arith, rose);
    writes = λ rose. omega (arith, rose);
    valid = valid-small;
  };
}

-- each refusal of it is refused, whatever its cause
well-refused : (status : ℕ) → is_status_among (0 ∷ 9 ∷ []) status ≡ false → (RunsWell (Some (three_files map_bytes_small file_small [])) right_words 0 0 0 0 → IsOneOf (0 ∷ 9 ∷ []) status) → ⊥
well-refused status none clause = refused (0 ∷ 9 ∷ []) status none (clause (well-small 0 0 (lit< tt) (lit< tt)))

well-read_fault : (RunsWell (Some (three_files map_bytes_small file_small [])) right_words 0 0 0 0 → IsOneOf (0 ∷ 9 ∷ []) 3) → ⊥
well-read_fault clause = well-refused 3 refl clause

well-too_large : (RunsWell (Some (three_files map_bytes_small file_small [])) right_words 0 0 0 0 → IsOneOf (0 ∷ 9 ∷ []) 20) → ⊥
well-too_large clause = well-refused 20 refl clause

-- ---- nothing is written but with 0 and 8

-- an answer 3 with a byte written
abbrev pub IsSilent : ℕ → Option (List ℕ) → Option (List ℕ) → Type 0
IsSilent status before now = status ≢ 0 → status ≢ 8 → now ≡ before

silent-3 : IsSilent 3 (Some []) (Some (1 ∷ [])) → ⊥
silent-3 clause = let same : ◌≡◌ {A = Option (List ℕ)} (Some (1 ∷ [])) (Some []) = clause (λ e. omega (arith, e)) (λ e. omega (arith, e)) in cc
