-- Frames that cannot be written, from the files of an input: what is refused of them, and answers that the clauses of statuses 17 and 18 refuse.
use Rattle.std.proofs.Common.{◌≡◌, ℕ, pos, negsuc, List, [], ◌∷◌, ◌++◌, Some, None, false, refl, ap, sym, ◌∙◌, arith}
use Rattle.std.specs.Prelude.{Option, option_map, codes}
use Rattle.dwc_base.specs.declared.section_name.SectionName.TheVariants.{Info}
use Rattle.dwc_base.specs.declared.faults.What.TheVariants.{Entry as EntryRead}
use Rattle.dwc_native.specs.CallFrames.{FrameInstruction, FrameDescription, def_cfa_offset, remember_state, saved_at}
use Rattle.dwc_rules.specs.Carried.{Compilation}
use Rattle.dwc_native.specs.Compiled.{no_memory, frames_from}
use Rattle.dwc_base.specs.Sections.{unreadable}
use Rattle.dwc_carried.specs.Forests.{first_refusal}
use Rattle.dwc_native.specs.FrameRefusals.{bad_code_offset, bad_data_offset}
use Rattle.dwc_rules.specs.Refusals.{Refusal, of_place, of_frame}
use Rattle.dwc_cli.specs.Inputs.{loaded, compilation_of}
use Rattle.dwc_cli.specs.RunStatus.{refusal_status}
use Rattle.dwc_worked.proofs.WholeRun.{whole_on_literals, refusal_of, told_framed, told-framed, one_told, runtime_names, path_small, address_map_small}
use Rattle.dwc_worked.proofs.BrokenInputs.{file_bare, file_undeclared}
use Rattle.dwc_worked.proofs.Answers.{is_status_among, of_one}
use Rattle.dwc_worked.proofs.Refused.{Causes, read_of, loaded_causes, refused_always}

-- ---- maps

-- the small map with a common information entry, if there is one, and instructions in the frame of its function, which has a symbol or null
abbrev pub map_framed : List ℕ → List ℕ → List ℕ → List ℕ
map_framed entry symbol instructions =
    codes "{\"target\":{\"arch\":\"x86_64\"" ++ entry
    ++ codes "},\"names\":[\"set_mem\",\"resolve_mem\"],\"modules\":[{\"path\":\"/m/g.wasm\",\"functions\":[{\"symbol\":" ++ symbol
    ++ codes ",\"start\":22,\"end\":33,\"body_len\":30,\"map\":[[5,25],[8,null],[15,30],[23,null]],\"frame\":{\"len\":30,\"ops\":[" ++ instructions ++ codes "]}}]}]}"

-- a common information entry with code factor 1 and data factor -8
abbrev pub usual : List ℕ
usual = codes ",\"cie\":{\"code_factor\":1,\"data_factor\":-8,\"return_register\":16,\"ops\":[[\"cfa\",7,8],[\"offset\",16,-8]]}"

-- an instruction that can be written; code offsets that fall; an offset that is no multiple of -8; and both
abbrev pub grows : List ℕ
grows = codes "[1,[\"cfa_offset\",16]]"

abbrev falls : List ℕ
falls = codes "[5,[\"remember\"]],[4,[\"remember\"]]"

abbrev broken : List ℕ
broken = codes "[0,[\"offset\",16,-9]]"

abbrev both : List ℕ
both = broken ++ codes "," ++ falls

abbrev pub zero_symbol : List ℕ
zero_symbol = codes "0"

-- ---- what is told of the function: no label, and how it unwinds

abbrev description : List (ℕ × FrameInstruction) → FrameDescription
description instructions = record { length = 30; instructions = instructions }

abbrev pub frame_grows : FrameDescription
frame_grows = description ((1, def_cfa_offset (pos 16)) ∷ [])

abbrev frame_falls : FrameDescription
frame_falls = description ((5, remember_state) ∷ (4, remember_state) ∷ [])

abbrev frame_broken : FrameDescription
frame_broken = description ((0, saved_at 16 (negsuc 8)) ∷ [])

abbrev frame_both : FrameDescription
frame_both = description ((0, saved_at 16 (negsuc 8)) ∷ (5, remember_state) ∷ (4, remember_state) ∷ [])

-- the compilation of such a map, where the frame is a description
abbrev pub compilation_with : List ℕ → List ℕ → FrameDescription → Compilation
compilation_with entry instructions frame = one_told (read_of (map_framed entry zero_symbol instructions) file_bare) (told_framed runtime_names 0 no_memory (frames_from 0 (Some frame ∷ [])))

-- what is read of such a map
abbrev pub IsToldAs : List ℕ → List ℕ → FrameDescription → Type 0
IsToldAs entry instructions frame = compilation_of (read_of (map_framed entry zero_symbol instructions) file_bare) ≡ compilation_with entry instructions frame

pub told-grows : IsToldAs usual grows frame_grows
unfolding whole_on_literals
told-grows = λ i. one_told (read_of (map_framed usual zero_symbol grows) file_bare) (told-framed runtime_names 0 0 address_map_small (Some frame_grows) no_memory (Some path_small) i)

told-falls : IsToldAs usual falls frame_falls
unfolding whole_on_literals
told-falls = λ i. one_told (read_of (map_framed usual zero_symbol falls) file_bare) (told-framed runtime_names 0 0 address_map_small (Some frame_falls) no_memory (Some path_small) i)

told-broken : IsToldAs usual broken frame_broken
unfolding whole_on_literals
told-broken = λ i. one_told (read_of (map_framed usual zero_symbol broken) file_bare) (told-framed runtime_names 0 0 address_map_small (Some frame_broken) no_memory (Some path_small) i)

told-both : IsToldAs usual both frame_both
unfolding whole_on_literals
told-both = λ i. one_told (read_of (map_framed usual zero_symbol both) file_bare) (told-framed runtime_names 0 0 address_map_small (Some frame_both) no_memory (Some path_small) i)

told-no_entry : IsToldAs [] both frame_both
unfolding whole_on_literals
told-no_entry = λ i. one_told (read_of (map_framed [] zero_symbol both) file_bare) (told-framed runtime_names 0 0 address_map_small (Some frame_both) no_memory (Some path_small) i)

told-alone : IsToldAs [] broken frame_broken
unfolding whole_on_literals
told-alone = λ i. one_told (read_of (map_framed [] zero_symbol broken) file_bare) (told-framed runtime_names 0 0 address_map_small (Some frame_broken) no_memory (Some path_small) i)

-- ---- what is refused

-- what is refused of such an input
abbrev refused_in : List ℕ → List ℕ → Option Refusal
refused_in entry instructions = first_refusal (compilation_of (read_of (map_framed entry zero_symbol instructions) file_bare))

of-grows : first_refusal (compilation_with usual grows frame_grows) ≡ None
unfolding whole_on_literals
of-grows = refl

pub refusal-grows : refused_in usual grows ≡ None
refusal-grows = ap first_refusal told-grows ∙ of-grows

of-falls : first_refusal (compilation_with usual falls frame_falls) ≡ Some (of_frame (bad_code_offset 0))
unfolding whole_on_literals
of-falls = refl

refusal-falls : refused_in usual falls ≡ Some (of_frame (bad_code_offset 0))
refusal-falls = ap first_refusal told-falls ∙ of-falls

of-broken : first_refusal (compilation_with usual broken frame_broken) ≡ Some (of_frame (bad_data_offset 0))
unfolding whole_on_literals
of-broken = refl

refusal-broken : refused_in usual broken ≡ Some (of_frame (bad_data_offset 0))
refusal-broken = ap first_refusal told-broken ∙ of-broken

-- code offsets before factored ones
of-both : first_refusal (compilation_with usual both frame_both) ≡ Some (of_frame (bad_code_offset 0))
unfolding whole_on_literals
of-both = refl

refusal-both : refused_in usual both ≡ Some (of_frame (bad_code_offset 0))
refusal-both = ap first_refusal told-both ∙ of-both

-- without a common information entry, or without a symbol, no frame is refused
of-no_entry : first_refusal (compilation_with [] both frame_both) ≡ None
unfolding whole_on_literals
of-no_entry = refl

refusal-no_entry : refused_in [] both ≡ None
refusal-no_entry = ap first_refusal told-no_entry ∙ of-no_entry

of-alone : first_refusal (compilation_with [] broken frame_broken) ≡ None
unfolding whole_on_literals
of-alone = refl

refusal-alone : refused_in [] broken ≡ None
refusal-alone = ap first_refusal told-alone ∙ of-alone

refusal-no_symbol : refusal_of (loaded (of_one (map_framed usual (codes "null") both) file_bare)) ≡ None
unfolding whole_on_literals
refusal-no_symbol = refl

-- a place that cannot be read comes before frames
refusal-undeclared : refusal_of (loaded (of_one (map_framed usual zero_symbol both) file_undeclared)) ≡ Some (of_place (unreadable EntryRead Info 16))
unfolding whole_on_literals
refusal-undeclared = refl

-- ---- the statuses

-- what is said of such an input by a status, where its first refusal is known
of-refused : (instructions : List ℕ) (r : Refusal) (status : ℕ) → refused_in usual instructions ≡ Some r → is_status_among (3 ∷ 4 ∷ 9 ∷ 13 ∷ 21 ∷ refusal_status r ∷ []) status ≡ false
    → loaded (of_one (map_framed usual zero_symbol instructions) file_bare) ≡ Some (read_of (map_framed usual zero_symbol instructions) file_bare) → Causes (map_framed usual zero_symbol instructions) file_bare status → ⊥
of-refused instructions r status is none read h = refused_always (read_of (map_framed usual zero_symbol instructions) file_bare) r status is none (loaded_causes (map_framed usual zero_symbol instructions) file_bare status (read_of (map_framed usual zero_symbol instructions) file_bare) read h)

-- code offsets that fall: neither success nor another refusal
falling : (status : ℕ) → is_status_among (3 ∷ 4 ∷ 9 ∷ 13 ∷ 21 ∷ 17 ∷ []) status ≡ false → Causes (map_framed usual zero_symbol falls) file_bare status → ⊥
unfolding whole_on_literals
falling status none h = of-refused falls (of_frame (bad_code_offset 0)) status refusal-falls none refl h

falling-success : Causes (map_framed usual zero_symbol falls) file_bare 0 → ⊥
falling-success h = falling 0 refl h

falling-unreadable : Causes (map_framed usual zero_symbol falls) file_bare 10 → ⊥
falling-unreadable h = falling 10 refl h

falling-broken : Causes (map_framed usual zero_symbol falls) file_bare 18 → ⊥
falling-broken h = falling 18 refl h

falling-too_large : Causes (map_framed usual zero_symbol falls) file_bare 20 → ⊥
falling-too_large h = falling 20 refl h

-- the same of a factored offset
breaking : (status : ℕ) → is_status_among (3 ∷ 4 ∷ 9 ∷ 13 ∷ 21 ∷ 18 ∷ []) status ≡ false → Causes (map_framed usual zero_symbol broken) file_bare status → ⊥
unfolding whole_on_literals
breaking status none h = of-refused broken (of_frame (bad_data_offset 0)) status refusal-broken none refl h

breaking-success : Causes (map_framed usual zero_symbol broken) file_bare 0 → ⊥
breaking-success h = breaking 0 refl h

breaking-falls : Causes (map_framed usual zero_symbol broken) file_bare 17 → ⊥
breaking-falls h = breaking 17 refl h

-- of both the code offsets are told
both-broken : Causes (map_framed usual zero_symbol both) file_bare 18 → ⊥
unfolding whole_on_literals
both-broken h = of-refused both (of_frame (bad_code_offset 0)) 18 refusal-both refl refl h

none≢some : (status : ℕ) → ◌≡◌ {A = Option ℕ} None (Some status) → ⊥
none≢some status e = cc

-- a frame that can be written is not refused, nor is one without a common information entry
grown-falls : Causes (map_framed usual zero_symbol grows) file_bare 17 → ⊥
unfolding whole_on_literals
grown-falls h =
    let said = (loaded_causes (map_framed usual zero_symbol grows) file_bare 17 (read_of (map_framed usual zero_symbol grows) file_bare) refl h).refused.only (6, 17, omega arith, refl, refl) in
    none≢some 17 (sym (ap (option_map refusal_status) refusal-grows) ∙ said)

alone-broken : Causes (map_framed [] zero_symbol broken) file_bare 18 → ⊥
unfolding whole_on_literals
alone-broken h =
    let said = (loaded_causes (map_framed [] zero_symbol broken) file_bare 18 (read_of (map_framed [] zero_symbol broken) file_bare) refl h).refused.only (7, 18, omega arith, refl, refl) in
    none≢some 18 (sym (ap (option_map refusal_status) refusal-alone) ∙ said)
