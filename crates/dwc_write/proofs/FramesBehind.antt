-- The frames behind the other sections of an output: what is read is the same, names are distinct, and each kind is told from the other.
use Rattle.std.proofs.Common.{◌≡◌, ◌≢◌, ℕ, suc, refl, ap, sym, subst, ◌∙◌, arith, List, [], ◌∷◌, ◌++◌, append-nil, Bool, false, Option, Some, None}
use Rattle.std.specs.Prelude.{not}
use Rattle.std.specs.List.{All, AllZip, filter}
use Rattle.std.specs.Str.{bytes_eq}
use Rattle.std.proofs.lemmas.Slice.Eq.{bytes_eq-Decides}
use Rattle.std.proofs.lemmas.List.Elements.{All-append, All-cons, All-head, All-nil, All-tail, filter-append}
use Rattle.std.proofs.lemmas.List.Kept.{AllPairs-cons}
use Rattle.dwc_base.specs.declared.records.Endian.{Endian}
use Rattle.dwc_base.specs.declared.section_name.SectionName.TheVariants.{Frame}
use Rattle.dwc_native.specs.CallFrames.{CommonEntry, FrameDescription}
use Rattle.dwc_dwarf.specs.ReadUnits.{units}
use Rattle.dwc_output.specs.Fields.{AreRelocated, IsRelocated}
use Rattle.dwc_output.specs.FramesCarried.{FramesCarried, others_in}
use Rattle.dwc_output.specs.FrameSections.{frame_section, frame_section_if}
use Rattle.dwc_output.specs.OutputForm.{HasDistinctNames, HaveTargetForm}
use Rattle.dwc_output.specs.OwnDirectories.{AreOfVersion5}
use Rattle.dwc_base.specs.Outputs.{OutputSection, output_sections}
use Rattle.dwc_base.specs.Sections.{Sections, section_text}
use Rattle.dwc_dwarf.specs.TreeLaws.{HasTextsOnce}
use Rattle.dwc_output.specs.TreeReading.{CarriesTrees, output_lists, trees}
use Rattle.dwc_dwarf.specs.Trees.{Tree}
use Rattle.dwc_base.proofs.FramesApart.{frames-apart}
use Rattle.dwc_unit.specs.GivenUnits.{OrderedUnit}
use Rattle.dwc_write.specs.ReadBack.{IsReadUnit, ReadsBack}
use Rattle.dwc_write.proofs.OutputForms.{Differ, IsOther, none-differ}

-- ---- the sections of some lists

abbrev is_frames : OutputSection → Bool
is_frames s = bytes_eq s.name (section_text Frame)

others-kept : (xs : List OutputSection) → All IsOther xs → filter (λ s. not (is_frames s)) xs ≡ xs
others-kept [] others = refl
others-kept (x ∷ xs) others = rw (All-head IsOther x xs others) (ap (λ ys. x ∷ ys) (others-kept xs (All-tail IsOther x xs others)))

none-frames : (xs : List OutputSection) → All IsOther xs → filter is_frames xs ≡ []
none-frames [] others = refl
none-frames (x ∷ xs) others = rw (All-head IsOther x xs others) (none-frames xs (All-tail IsOther x xs others))

-- the first names of distinct ones
rest-distinct : (x : OutputSection) (xs : List OutputSection) → HasDistinctNames (x ∷ xs) → HasDistinctNames xs
rest-distinct x xs distinct = λ i j d less within. distinct (suc i) (suc j) d (omega (arith, less)) (omega (arith, within))

first-differs : (x : OutputSection) (xs : List OutputSection) → HasDistinctNames (x ∷ xs) → All (Differ x) xs
first-differs x xs distinct = λ j d within. distinct 0 (suc j) d (omega arith) (omega (arith, within))

one-more : (xs : List OutputSection) (f : OutputSection) → All (λ x. x.name ≢ f.name) xs → HasDistinctNames xs → HasDistinctNames (xs ++ f ∷ [])
one-more [] f others distinct = AllPairs-cons Differ f [] (All-nil _) none-differ
one-more (x ∷ xs) f others distinct =
    let other = All-head (λ (y : OutputSection). y.name ≢ f.name) x xs others in
    AllPairs-cons Differ x (xs ++ f ∷ []) (All-append (Differ x) xs (f ∷ []) (first-differs x xs distinct) (All-cons (Differ x) f [] other (All-nil _)))
    (one-more xs f (All-tail (λ (y : OutputSection). y.name ≢ f.name) x xs others) (rest-distinct x xs distinct))

differs : (xs : List OutputSection) (f : OutputSection) → f.name ≡ section_text Frame → All IsOther xs → All (λ x. x.name ≢ f.name) xs
differs xs f frames others = λ i d within same. absurd (apart _ (others i d within) (same ∙ frames))
  where
    apart : (a : List ℕ) → bytes_eq a (section_text Frame) ≡ false → a ≡ section_text Frame → ⊥
    apart a other same = let equal = (bytes_eq-Decides a (section_text Frame)).1 same in absurd (cc)

-- ---- with the frames

pub read-same : (order own : Endian) (size : ℕ) (c : Option CommonEntry) (ds : List (ℕ × FrameDescription)) (xs : List OutputSection) → output_sections order (xs ++ frame_section_if own size c ds) ≡ output_sections order xs
unfolding frame_section
read-same order own size None ds xs = ap (output_sections order) (append-nil xs)
read-same order own size (Some c) [] xs = ap (output_sections order) (append-nil xs)
read-same order own size (Some c) (d ∷ ds) xs = frames-apart order xs (frame_section own size c (d ∷ ds)) refl

pub distinct-with : (own : Endian) (size : ℕ) (c : Option CommonEntry) (ds : List (ℕ × FrameDescription)) (xs : List OutputSection) → All IsOther xs → HasDistinctNames xs → HasDistinctNames (xs ++ frame_section_if own size c ds)
unfolding frame_section
distinct-with own size None ds xs others distinct = subst HasDistinctNames (sym (append-nil xs)) distinct
distinct-with own size (Some c) [] xs others distinct = subst HasDistinctNames (sym (append-nil xs)) distinct
distinct-with own size (Some c) (d ∷ ds) xs others distinct = let f = frame_section own size c (d ∷ ds) in one-more xs f (differs xs f refl others) distinct

only-frames : (own : Endian) (size : ℕ) (c : Option CommonEntry) (ds : List (ℕ × FrameDescription)) → filter is_frames (frame_section_if own size c ds) ≡ frame_section_if own size c ds
unfolding frame_section
only-frames own size None ds = refl
only-frames own size (Some c) [] = refl
only-frames own size (Some c) (d ∷ ds) = refl

no-others : (own : Endian) (size : ℕ) (c : Option CommonEntry) (ds : List (ℕ × FrameDescription)) → filter (λ s. not (is_frames s)) (frame_section_if own size c ds) ≡ []
unfolding frame_section
no-others own size None ds = refl
no-others own size (Some c) [] = refl
no-others own size (Some c) (d ∷ ds) = refl

pub frames-carried : (own : Endian) (size : ℕ) (c : Option CommonEntry) (ds : List (ℕ × FrameDescription)) (xs : List OutputSection) → All IsOther xs → FramesCarried own size c ds (xs ++ frame_section_if own size c ds)
frames-carried own size c ds xs others =
    let frames = frame_section_if own size c ds in
    filter-append is_frames xs frames ∙ ap (λ ys. ys ++ filter is_frames frames) (none-frames xs others) ∙ only-frames own size c ds

pub others-with : (own : Endian) (size : ℕ) (c : Option CommonEntry) (ds : List (ℕ × FrameDescription)) (xs : List OutputSection) → All IsOther xs → others_in (xs ++ frame_section_if own size c ds) ≡ xs
others-with own size c ds xs others =
    let frames = frame_section_if own size c ds in
    let other : OutputSection → Bool = λ s. not (is_frames s) in
    filter-append other xs frames ∙ ap (λ ys. ys ++ filter other frames) (others-kept xs others) ∙ ap (λ ys. xs ++ ys) (no-others own size c ds) ∙ append-nil xs

pub relocated-with : (order own : Endian) (size : ℕ) (c : Option CommonEntry) (ds : List (ℕ × FrameDescription)) (xs : List OutputSection) → All IsOther xs → AreRelocated order xs
    → All (IsRelocated (output_sections order (xs ++ frame_section_if own size c ds))) (others_in (xs ++ frame_section_if own size c ds))
relocated-with order own size c ds xs others relocated =
    let P : Sections → Type 0 = λ s. All (IsRelocated s) xs in
    let whole = xs ++ frame_section_if own size c ds in
    let Q : List OutputSection → Type 0 = λ ys. All (IsRelocated (output_sections order whole)) ys in
    subst Q (sym (others-with own size c ds xs others)) (subst P (sym (read-same order own size c ds xs)) relocated)

-- ---- what is read, where sections are read as others are

pub back-same : (order : Endian) (us : List OrderedUnit) (all xs : List OutputSection) → output_sections order all ≡ output_sections order xs → ReadsBack order us xs → ReadsBack order us all
back-same order us all xs same back =
    let P : Sections → Type 0 = λ s. AllZip (IsReadUnit s) us back.read in
    record { read = back.read; units_read = ap units same ∙ back.units_read; each = subst P (sym same) back.each }

pub trees-same : (order : Endian) (wanted : List Tree) (all xs : List OutputSection) → output_sections order all ≡ output_sections order xs → CarriesTrees order wanted xs → CarriesTrees order wanted all
trees-same order wanted all xs same carried = ap (λ s. trees (output_lists s) s) same ∙ carried

pub texts-same : (order : Endian) (all xs : List OutputSection) → output_sections order all ≡ output_sections order xs → HasTextsOnce (output_sections order xs) → HasTextsOnce (output_sections order all)
texts-same order all xs same once = subst HasTextsOnce (sym same) once

pub form-same : (order : Endian) (version size : ℕ) (all xs : List OutputSection) → output_sections order all ≡ output_sections order xs → HaveTargetForm version size (units (output_sections order xs)).items → HaveTargetForm version size (units (output_sections order all)).items
form-same order version size all xs same form = let P : Sections → Type 0 = λ s. HaveTargetForm version size (units s).items in subst P (sym same) form

pub of-5-same : (order : Endian) (version : ℕ) (all xs : List OutputSection) → output_sections order all ≡ output_sections order xs → AreOfVersion5 version (output_sections order xs) (units (output_sections order xs)).items → AreOfVersion5 version (output_sections order all) (units (output_sections order all)).items
of-5-same order version all xs same are = let P : Sections → Type 0 = λ s. AreOfVersion5 version s (units s).items in subst P (sym same) are
