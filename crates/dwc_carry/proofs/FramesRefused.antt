-- What is refused of the frames of an input comes behind all else, and what a frame table has is what is told of the input's functions.
use Rattle.std.proofs.Common.{◌≡◌, ℕ, ◌<◌, List, [], ◌∷◌, ◌++◌, map, length, refl, ap, sym, ◌∙◌, arith, Option, Some, None, All}
use Rattle.std.specs.Prelude.{option_map, IfSome}
use Rattle.std.specs.Option.{option_or}
use Rattle.std.specs.List.{flat_map}
use Rattle.std.proofs.lemmas.List.{append-nil, append_assoc}
use Rattle.std.proofs.lemmas.List.Elements.{All-head}
use Rattle.dwc_base.specs.declared.records.Encoding.{Encoding}
use Rattle.dwc_base.specs.declared.records.Endian.{Endian}
use Rattle.dwc_native.specs.CallFrames.{CommonEntry, FrameDescription}
use Rattle.dwc_rules.specs.Carried.{Compilation, Module}
use Rattle.dwc_carried.specs.Forests.{frame_descriptions, function_refusals, module_refusals, refused_frames, wanted_units}
use Rattle.dwc_carried.specs.SimulatedUnitRules.{simulated_unit_refusals}
use Rattle.dwc_carried.specs.SimulatedFunctions.{is_begun}
use Rattle.dwc_native.specs.FrameRefusals.{FrameRefusal, frame_refusals}
use Rattle.dwc_output.specs.FrameSections.{frame_section_if}
use Rattle.dwc_output.specs.FramesCarried.{widest_frames}
use Rattle.dwc_rules.specs.Refusals.{Refusal, of_frame}
use Rattle.dwc_base.specs.Listing.{first_of}
use Rattle.dwc_dwarf.specs.Trees.{Tree}
use Rattle.dwc_isa.specs.Registers.{Registers}
use Rattle.dwc_addr.specs.Compilations.{CompilationValue}
use Rattle.dwc_frames.specs.Frames as write
use Rattle.dwc_unit.specs.GivenUnits.{GivenUnit, ordered, size_of}
use Rattle.dwc_frames.specs.declared.frames.FrameTable.{FrameTable}
use Rattle.dwc_carry.specs.CompiledFrames.{DescribesAll}
use Rattle.dwc_carry.specs.Inputs.{input_of, maps_refusal, modules_of, refusal_of}
use Rattle.dwc_carry.specs.MadeUnits.{AreMadeOf}
use Rattle.dwc_carry.specs.Refusals.{InputRefusal, in_reading}
use Rattle.dwc_carry.proofs.RefusalLaws.{first-behind, no-first, unmapped}

-- ---- refusals

-- lists behind one another, of which the last comes behind all else
all-behind : (fs ms ls rs : List Refusal) → fs ++ (ms ++ (ls ++ rs)) ≡ (fs ++ (ms ++ ls)) ++ rs
all-behind fs ms ls rs = ap (λ xs. fs ++ xs) (sym (append_assoc ms ls rs)) ∙ sym (append_assoc fs (ms ++ ls) rs)

none-behind : (fs ms ls : List Refusal) → fs ++ (ms ++ (ls ++ [])) ≡ fs ++ (ms ++ ls)
none-behind fs ms ls = ap (λ xs. fs ++ (ms ++ xs)) (append-nil ls)

-- what is refused first of some lists, of which the last comes behind all else
first-of-all : (fs ms ls rs : List Refusal) (r : Refusal) → first_of (fs ++ (ms ++ (ls ++ []))) ≡ Some r → first_of (fs ++ (ms ++ (ls ++ rs))) ≡ Some r
first-of-all fs ms ls rs r h =
    let before : first_of (fs ++ (ms ++ ls)) ≡ Some r = ap (λ (xs : List Refusal). first_of xs) (sym (none-behind fs ms ls)) ∙ h in
    ap (λ (xs : List Refusal). first_of xs) (all-behind fs ms ls rs) ∙ first-behind (fs ++ (ms ++ ls)) rs r before

none-before : (fs ms ls rs : List Refusal) → first_of (fs ++ (ms ++ (ls ++ []))) ≡ None → first_of (fs ++ (ms ++ (ls ++ rs))) ≡ first_of rs
none-before fs ms ls rs h =
    let before : fs ++ (ms ++ ls) ≡ [] = no-first (fs ++ (ms ++ ls)) (ap (λ (xs : List Refusal). first_of xs) (sym (none-behind fs ms ls)) ∙ h) in
    ap (λ (xs : List Refusal). first_of xs) (all-behind fs ms ls rs) ∙ ap (λ (xs : List Refusal). first_of (xs ++ rs)) before

first-mapped : (rs : List FrameRefusal) → first_of (map of_frame rs) ≡ option_map of_frame (write.first_refusal rs)
first-mapped [] = refl
first-mapped (r ∷ rs) = refl

module _ (order : Endian) (size : ℕ) (registers : Registers) (entry : Option CommonEntry) (c : CompilationValue) where
  abbrev functions_refused : List Refusal
  functions_refused = flat_map (λ (m : Module). function_refusals m.functions) (modules_of registers c)

  abbrev modules_refused : List Refusal
  modules_refused = flat_map module_refusals (modules_of registers c)

  abbrev simulated_refused : List Refusal
  simulated_refused = simulated_unit_refusals (is_begun (modules_of registers c)) c.next_id (modules_of registers c)

  abbrev frames_refused : List Refusal
  frames_refused = refused_frames (input_of order size registers entry c)

  -- what is refused of an input without its frames is refused of it
  pub refused-first : (r : InputRefusal) → refusal_of order size registers None c ≡ Some r → refusal_of order size registers entry c ≡ Some r
  refused-first r = go (maps_refusal c) (first_of (functions_refused ++ (modules_refused ++ (simulated_refused ++ [])))) refl
    where
      mapped : (o : Option Refusal) → first_of (functions_refused ++ (modules_refused ++ (simulated_refused ++ []))) ≡ o → option_map in_reading o ≡ Some r → option_map in_reading (first_of (functions_refused ++ (modules_refused ++ (simulated_refused ++ frames_refused)))) ≡ Some r
      mapped None is h = absurd (cc)
      mapped (Some x) is h = ap (option_map in_reading) (first-of-all functions_refused modules_refused simulated_refused frames_refused x is) ∙ h

      go : (maps : Option InputRefusal) (o : Option Refusal) → first_of (functions_refused ++ (modules_refused ++ (simulated_refused ++ []))) ≡ o → option_or maps (option_map in_reading (first_of (functions_refused ++ (modules_refused ++ (simulated_refused ++ []))))) ≡ Some r
          → option_or maps (option_map in_reading (first_of (functions_refused ++ (modules_refused ++ (simulated_refused ++ frames_refused))))) ≡ Some r
      go (Some x) o is h = h
      go None o is h = mapped o is (ap (option_map in_reading) (sym is) ∙ h)

  -- and where nothing is, the first of its frames
  pub frames-refused : refusal_of order size registers None c ≡ None
      → refusal_of order size registers entry c ≡ option_map in_reading (option_map of_frame (write.first_refusal (frame_refusals entry (frame_descriptions (input_of order size registers entry c)))))
  frames-refused = go (maps_refusal c)
    where
      go : (maps : Option InputRefusal) → option_or maps (option_map in_reading (first_of (functions_refused ++ (modules_refused ++ (simulated_refused ++ []))))) ≡ None
          → option_or maps (option_map in_reading (first_of (functions_refused ++ (modules_refused ++ (simulated_refused ++ frames_refused)))))
          ≡ option_map in_reading (option_map of_frame (write.first_refusal (frame_refusals entry (frame_descriptions (input_of order size registers entry c)))))
      go (Some x) h = absurd (cc)
      go None h =
          ap (option_map in_reading)
          (none-before functions_refused modules_refused simulated_refused frames_refused (unmapped in_reading (first_of (functions_refused ++ (modules_refused ++ (simulated_refused ++ [])))) h)
          ∙ first-mapped (frame_refusals entry (frame_descriptions (input_of order size registers entry c))))

-- ---- tables

-- A table, if there is one, has a common entry and some descriptions.
pub record IsTable (entry : Option CommonEntry) (ds : List (ℕ × FrameDescription)) (table : Option FrameTable) : Type 0 where
  pub common : write.common_given table ≡ entry
  pub described : IfSome table (λ t. (write.table_view t).1 ≡ ds)

-- The table of a compilation is one of its input's descriptions.
pub table-is : (order : Endian) (size : ℕ) (registers : Registers) (entry : Option CommonEntry) (c : CompilationValue) (table : Option FrameTable) → write.common_given table ≡ entry → IfSome table (λ t. DescribesAll c t)
    → IsTable entry (frame_descriptions (input_of order size registers entry c)) table
table-is order size registers entry c None common described = record { common = common; described = tt }
table-is order size registers entry c (Some t) common described = record { common = common; described = described order size registers entry }

module _ (ds : List (ℕ × FrameDescription)) where
  -- it is refused, and as long, as these are
  pub table-refused : (entry : Option CommonEntry) (table : Option FrameTable) → IsTable entry ds table → write.refused_frames table ≡ frame_refusals entry ds
  table-refused entry None is = ap (λ (c : Option CommonEntry). frame_refusals c ds) is.common
  table-refused entry (Some t) is = ap (λ (xs : List (ℕ × FrameDescription)). frame_refusals (Some (write.table_view t).0) xs) is.described ∙ ap (λ (c : Option CommonEntry). frame_refusals c ds) is.common

  pub table-widest : (entry : Option CommonEntry) (table : Option FrameTable) → IsTable entry ds table → write.widest_given_frames table ≡ widest_frames entry ds
  table-widest entry None is = ap (λ (c : Option CommonEntry). widest_frames c ds) is.common
  table-widest entry (Some t) is = ap (λ (xs : List (ℕ × FrameDescription)). widest_frames (Some (write.table_view t).0) xs) is.described ∙ ap (λ (c : Option CommonEntry). widest_frames c ds) is.common

  pub table-section : (order : Endian) (size : ℕ) (entry : Option CommonEntry) (table : Option FrameTable) → IsTable entry ds table
      → frame_section_if order size (write.common_given table) (write.descriptions_given table) ≡ frame_section_if order size entry ds
  table-section order size entry None is = ap (λ (c : Option CommonEntry). frame_section_if order size c ds) is.common
  table-section order size entry (Some t) is =
      ap (λ (xs : List (ℕ × FrameDescription)). frame_section_if order size (Some (write.table_view t).0) xs) is.described ∙ ap (λ (c : Option CommonEntry). frame_section_if order size c ds) is.common

-- ---- units

-- Where a module has a function that is described, there is a unit.
pub unit-there : (at : ℕ → ℕ → Option (ℕ × ℕ)) (encoding : Encoding) (texts : List (List ℕ)) (c : Compilation) (ts : List Tree) (us : List GivenUnit) → AreMadeOf at encoding texts 0 (wanted_units c) ts us
    → 0 < length (frame_descriptions c) → 0 < length us
unit-there at encoding texts c ts us = go c.modules
  where
    go : (ms : List Module) → AreMadeOf at encoding texts 0 (wanted_units (record c { modules = ms })) ts us → 0 < length (frame_descriptions (record c { modules = ms })) → 0 < length us
    go [] made some = absurd (omega (arith, some))
    go (m ∷ ms) made some = first ts us made
      where
        first : (ts : List Tree) (us : List GivenUnit) → AreMadeOf at encoding texts 0 (wanted_units (record c { modules = m ∷ ms })) ts us → 0 < length us
        first [] us made = absurd made
        first (t ∷ ts) [] made = absurd made
        first (t ∷ ts) (u ∷ us) made = omega arith

-- The section of frames is that for addresses of the units' size.
pub section-sized : (order : Endian) (size : ℕ) (entry : Option CommonEntry) (ds : List (ℕ × FrameDescription)) (us : List GivenUnit) → All (λ u. u.address_size ≡ size) us → (0 < length ds → 0 < length us)
    → frame_section_if order (size_of (map ordered us)) entry ds ≡ frame_section_if order size entry ds
section-sized order size None ds us sized some = refl
section-sized order size (Some e) [] us sized some = refl
section-sized order size (Some e) (d ∷ ds) [] sized some = absurd (omega (arith, some (omega arith)))
section-sized order size (Some e) (d ∷ ds) (u ∷ us) sized some = ap (λ (n : ℕ). frame_section_if order n (Some e) (d ∷ ds)) (All-head (λ (u : GivenUnit). u.address_size ≡ size) u us sized)
