-- Paths of the simulated unit that name no file, from the files of an input: what is refused of them, and answers that the clauses of status 19
-- refuse.
use Rattle.std.proofs.Common.{◌≡◌, ℕ, List, ◌∷◌, [], ◌++◌, Some, false, refl, ap, ◌∙◌, arith}
use Rattle.std.specs.Prelude.{Option, codes}
use Rattle.dwc_base.specs.declared.section_name.SectionName.TheVariants.{Info}
use Rattle.dwc_base.specs.declared.faults.What.TheVariants.{Entry as EntryRead}
use Rattle.dwc_rules.specs.Carried.{Compilation}
use Rattle.dwc_native.specs.Compiled.{no_memory}
use Rattle.dwc_carried.specs.Forests.{first_refusal}
use Rattle.dwc_rules.specs.Refusals.{Refusal, of_place, bad_path}
use Rattle.dwc_base.specs.Sections.{unreadable}
use Rattle.dwc_worked.proofs.SmallModule.{file_small}
use Rattle.dwc_cli.specs.Inputs.{loaded, compilation_of}
use Rattle.dwc_worked.proofs.WholeRun.{whole_on_literals, refusal_of, told_bare, told-bare, one_told, runtime_names, address_map_small}
use Rattle.dwc_worked.proofs.BrokenInputs.{file_undeclared}
use Rattle.dwc_worked.proofs.Examples.{map_bytes_small}
use Rattle.dwc_worked.proofs.Answers.{is_status_among, of_one}
use Rattle.dwc_worked.proofs.Refused.{Causes, read_of, loaded_causes, refused_always, small-refused}

-- the small map with a path
abbrev map_placed : List ℕ → List ℕ
map_placed path = codes "{\"target\":{\"arch\":\"x86_64\"},\"names\":[\"set_mem\",\"resolve_mem\"],\"modules\":[{\"path\":\"" ++ path ++ codes "\",\"functions\":[{\"symbol\":0,\"start\":22,\"end\":33,\"body_len\":30,\"map\":[[5,25],[8,null],[15,30],[23,null]]}]}]}"

-- its compilation: of the function no label is told
abbrev compilation_placed : List ℕ → Compilation
compilation_placed path = one_told (read_of (map_placed path) file_small) (told_bare runtime_names 0 no_memory)

abbrev refused_at : List ℕ → Option Refusal
refused_at path = first_refusal (compilation_of (read_of (map_placed path) file_small))

-- the directory above, the directory itself, the root, and no text at all
told-above : compilation_of (read_of (map_placed (codes "/m/..")) file_small) ≡ compilation_placed (codes "/m/..")
unfolding whole_on_literals
told-above = λ i. one_told (read_of (map_placed (codes "/m/..")) file_small) (told-bare runtime_names 0 0 address_map_small no_memory (Some (codes "/m/..")) i)

of-above : first_refusal (compilation_placed (codes "/m/..")) ≡ Some bad_path
unfolding whole_on_literals
of-above = refl

refusal-above : refused_at (codes "/m/..") ≡ Some bad_path
refusal-above = ap first_refusal told-above ∙ of-above

told-itself : compilation_of (read_of (map_placed (codes ".")) file_small) ≡ compilation_placed (codes ".")
unfolding whole_on_literals
told-itself = λ i. one_told (read_of (map_placed (codes ".")) file_small) (told-bare runtime_names 0 0 address_map_small no_memory (Some (codes ".")) i)

of-itself : first_refusal (compilation_placed (codes ".")) ≡ Some bad_path
unfolding whole_on_literals
of-itself = refl

refusal-itself : refused_at (codes ".") ≡ Some bad_path
refusal-itself = ap first_refusal told-itself ∙ of-itself

told-root : compilation_of (read_of (map_placed (codes "/")) file_small) ≡ compilation_placed (codes "/")
unfolding whole_on_literals
told-root = λ i. one_told (read_of (map_placed (codes "/")) file_small) (told-bare runtime_names 0 0 address_map_small no_memory (Some (codes "/")) i)

of-root : first_refusal (compilation_placed (codes "/")) ≡ Some bad_path
unfolding whole_on_literals
of-root = refl

refusal-root : refused_at (codes "/") ≡ Some bad_path
refusal-root = ap first_refusal told-root ∙ of-root

told-empty : compilation_of (read_of (map_placed []) file_small) ≡ compilation_placed []
unfolding whole_on_literals
told-empty = λ i. one_told (read_of (map_placed []) file_small) (told-bare runtime_names 0 0 address_map_small no_memory (Some []) i)

of-empty : first_refusal (compilation_placed []) ≡ Some bad_path
unfolding whole_on_literals
of-empty = refl

refusal-empty : refused_at [] ≡ Some bad_path
refusal-empty = ap first_refusal told-empty ∙ of-empty

-- a place that cannot be read comes before
refusal-undeclared : refusal_of (loaded (of_one (map_placed (codes "/m/..")) file_undeclared)) ≡ Some (of_place (unreadable EntryRead Info 16))
unfolding whole_on_literals
refusal-undeclared = refl

-- neither success nor another refusal
misplaced : (status : ℕ) → is_status_among (3 ∷ 4 ∷ 9 ∷ 13 ∷ 21 ∷ 19 ∷ []) status ≡ false → Causes (map_placed (codes "/m/..")) file_small status → ⊥
unfolding whole_on_literals
misplaced status none h = refused_always (read_of (map_placed (codes "/m/..")) file_small) bad_path status refusal-above none (loaded_causes (map_placed (codes "/m/..")) file_small status (read_of (map_placed (codes "/m/..")) file_small) refl h)

misplaced-success : Causes (map_placed (codes "/m/..")) file_small 0 → ⊥
misplaced-success h = misplaced 0 refl h

misplaced-unreadable : Causes (map_placed (codes "/m/..")) file_small 10 → ⊥
misplaced-unreadable h = misplaced 10 refl h

misplaced-frame : Causes (map_placed (codes "/m/..")) file_small 17 → ⊥
misplaced-frame h = misplaced 17 refl h

misplaced-too_large : Causes (map_placed (codes "/m/..")) file_small 20 → ⊥
misplaced-too_large h = misplaced 20 refl h

-- and a path that names a file is not refused
placed : Causes map_bytes_small file_small 19 → ⊥
placed h = small-refused 19 (8, 19, omega arith, refl, refl) h
