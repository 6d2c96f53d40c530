-- What a map tells of the modules of a compilation beside their address maps.
use Rattle.std.proofs.Common.{◌≡◌, ℕ, pos, List, [], ◌∷◌, Some, None, nat_cmp, refl, ap}
use Rattle.std.specs.Prelude.{codes, Option, map, unwrap_or}
use Rattle.std.specs.FinMap as finite
use Rattle.std.specs.FinMap.{get-from_entries}
use Rattle.std.specs.Cmp.{nat_cmp_total}
use Rattle.dwc_native.specs.CallFrames.{def_cfa_offset}
use Rattle.dwc_native.specs.Compiled.{LabelRange, in_register, at_frame_offset, no_memory, defined, ToldModule, nothing_told}
use Rattle.dwc_worked.proofs.SmallModule.{file_small}
use Rattle.dwc_cli.specs.Inputs.{Loaded, loaded, compilation_of}
use Rattle.dwc_worked.proofs.Answers.{of_two}
use Rattle.dwc_worked.proofs.WholeRun.{whole_on_literals}

-- a map of two modules: registers, the number of the next name, a memory and a path of the second, and where values lie in its function and
-- how that unwinds
abbrev pub map_bytes_told : List ℕ
map_bytes_told = codes "{\"target\":{\"arch\":\"x86_64\",\"registers\":[[7,5],[0,3]]},\"names\":[\"set_mem\",\"resolve_mem\"],\"next_id\":7,\"modules\":[{\"functions\":[{\"symbol\":0,\"start\":22,\"end\":33,\"body_len\":30,\"map\":[[5,25],[15,30]]}]},{\"path\":\"/n/h.wasm\",\"memory\":{\"defined\":80},\"functions\":[{\"symbol\":1,\"start\":22,\"end\":33,\"body_len\":30,\"map\":[[5,25],[15,30]],\"labels\":[[4,[[0,9,\"reg\",7]]],[2,[[0,9,\"cfa\",16],[3,5,\"reg\",0]]]],\"frame\":{\"len\":30,\"ops\":[[1,[\"cfa_offset\",16]]]}}]}]}"

abbrev pub told_of_modules : Option Loaded → List ToldModule
told_of_modules None = []
told_of_modules (Some l) = map (λ m. m.told) (compilation_of l).modules

abbrev pub first_told : List ToldModule → ToldModule
first_told [] = nothing_told
first_told (m ∷ ms) = m

abbrev pub second_told : List ToldModule → ToldModule
second_told [] = nothing_told
second_told (m ∷ ms) = first_told ms

abbrev pub told_first : ToldModule
told_first = first_told (told_of_modules (loaded (of_two map_bytes_told file_small file_small)))

abbrev pub told_second : ToldModule
told_second = second_told (told_of_modules (loaded (of_two map_bytes_told file_small file_small)))

-- the modules' places and memories
places : told_first.place ∷ told_second.place ∷ [] ≡ 0 ∷ 1 ∷ []
unfolding whole_on_literals
places = refl

memories : told_first.memory ∷ told_second.memory ∷ [] ≡ no_memory ∷ defined 80 ∷ []
unfolding whole_on_literals
memories = refl

-- the paths of their files, and the number
abbrev paths_of_modules : Option Loaded → List (Option (List ℕ))
paths_of_modules None = []
paths_of_modules (Some l) = map (λ m. m.file.path) (compilation_of l).modules

paths : paths_of_modules (loaded (of_two map_bytes_told file_small file_small)) ≡ None ∷ Some (codes "/n/h.wasm") ∷ []
unfolding whole_on_literals
paths = refl

abbrev number_of : Option Loaded → List ℕ
number_of None = []
number_of (Some l) = (compilation_of l).next_id ∷ []

number : number_of (loaded (of_two map_bytes_told file_small file_small)) ≡ 7 ∷ []
unfolding whole_on_literals
number = refl

-- the names, for each module
setting : told_first.names.set_memory ∷ told_second.names.set_memory ∷ [] ≡ codes "set_mem" ∷ codes "set_mem" ∷ []
unfolding whole_on_literals
setting = refl

resolving : told_first.names.resolve_memory ∷ told_second.names.resolve_memory ∷ [] ≡ codes "resolve_mem" ∷ codes "resolve_mem" ∷ []
unfolding whole_on_literals
resolving = refl

-- the numbers of registers, and a register that has none
register_7 : told_first.register 7 ≡ Some 5
unfolding whole_on_literals
register_7 = get-from_entries nat_cmp_total ((7, 5) ∷ (0, 3) ∷ []) 7

register_0 : told_second.register 0 ≡ Some 3
unfolding whole_on_literals
register_0 = get-from_entries nat_cmp_total ((7, 5) ∷ (0, 3) ∷ []) 0

register_5 : told_second.register 5 ≡ None
unfolding whole_on_literals
register_5 = get-from_entries nat_cmp_total ((7, 5) ∷ (0, 3) ∷ []) 5

-- where the values of the second module's function lie, whose number is 1
abbrev pub labels_told : List (ℕ × List LabelRange)
labels_told = (4, record { place = in_register 7; start = 0; end = 9 } ∷ []) ∷ (2, record { place = at_frame_offset (pos 16); start = 0; end = 9 } ∷ record { place = in_register 0; start = 3; end = 5 } ∷ []) ∷ []

label_4 : told_second.values 1 4 ≡ record { place = in_register 7; start = 0; end = 9 } ∷ []
unfolding whole_on_literals
label_4 = ap (λ o. unwrap_or o []) (get-from_entries nat_cmp_total labels_told 4)

label_2 : told_second.values 1 2 ≡ record { place = at_frame_offset (pos 16); start = 0; end = 9 } ∷ record { place = in_register 0; start = 3; end = 5 } ∷ []
unfolding whole_on_literals
label_2 = ap (λ o. unwrap_or o []) (get-from_entries nat_cmp_total labels_told 2)

-- a label that is not there, and a function of the first module, whose values it does not tell
label_3 : told_second.values 1 3 ≡ []
unfolding whole_on_literals
label_3 = ap (λ o. unwrap_or o []) (get-from_entries nat_cmp_total labels_told 3)

label_4-first : told_first.values 0 4 ≡ []
unfolding whole_on_literals
label_4-first = ap (λ o. unwrap_or o []) (finite.get-empty {X = List LabelRange} nat_cmp 4)

-- a function of another number
label_4-other : told_second.values 2 4 ≡ []
unfolding whole_on_literals
label_4-other = refl

-- how the second module's function unwinds; of the first module's, and of one of another number, nothing is told
frame_1 : told_second.frames 1 ≡ Some (record { length = 30; instructions = (1, def_cfa_offset (pos 16)) ∷ [] })
unfolding whole_on_literals
frame_1 = refl

frame_0 : told_first.frames 0 ≡ None
unfolding whole_on_literals
frame_0 = refl

frame_2 : told_second.frames 2 ≡ None
unfolding whole_on_literals
frame_2 = refl
