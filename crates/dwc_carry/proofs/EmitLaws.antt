-- What is emitted of a compilation, from what is transformed and what is written.
use Rattle.std.proofs.Common.{◌≡◌, ◌↔◌, ℕ, List, map, length, arith, Option, Some, None, Result, Ok, Err, Vec, All, ◌<◌, ◌≤◌, ◌^◌, inl, inr, refl, ap, sym, ◌∙◌, subst, Bool, true, false}
use Rattle.std.specs.Prelude.{◌⊎◌, option_map}
use Rattle.std.specs.Option.{option_or}
use Rattle.std.specs.Global.{Global}
use Rattle.dwc_base.specs.declared.records.Endian.{Endian}
use Rattle.dwc_base.specs.declared.faults.Limit.TheVariants.{Section, Addend, Range, Jump, Expression, Vmctx}
use Rattle.dwc_base.specs.declared.output.DwarfSection.{DwarfSection}
use Rattle.dwc_base.specs.declared.section_name.SectionName.{SectionName}
use Rattle.dwc_base.specs.declared.section_name.SectionName.TheVariants.{Frame}
use Rattle.dwc_native.specs.Functions.{Function}
use Rattle.dwc_base.specs.Outputs.{output_sections, section_view}
use Rattle.dwc_native.specs.ScopesKept.{TranslationsKeepScopes}
use Rattle.dwc_output.specs.TreeReading.{CarriesTrees}
use Rattle.dwc_carried.specs.Forests.{first_refusal, frame_descriptions, wanted_units, trees_made}
use Rattle.dwc_dwarf.specs.TreeLaws.{HasTextsOnce}
use Rattle.dwc_carried.specs.OutputCarried.{widest}
use Rattle.dwc_output.specs.OutputForm.{HaveTargetForm, HasDistinctNames, are_of_output}
use Rattle.dwc_output.specs.Fields.{IsRelocated}
use Rattle.dwc_native.specs.CallFrames.{CommonEntry}
use Rattle.dwc_output.specs.FramesCarried.{FramesCarried, others_in}
use Rattle.dwc_rules.specs.Refusals.{of_frame}
use Rattle.dwc_dwarf.specs.Trees.{Tree}
use Rattle.dwc_output.specs.OwnDirectories.{AreOfVersion5}
use Rattle.dwc_output.specs.Versions.{are_short_in}
use Rattle.dwc_unit.specs.GivenTrees.{given_trees}
use Rattle.dwc_rules.specs.Carried.{Compilation}
use Rattle.dwc_dwarf.specs.ReadUnits.{units}
use Rattle.dwc_isa.specs.Registers.{Registers}
use Rattle.dwc_addr.specs.Compilations.{CompilationValue}
use Rattle.dwc_section.specs.declared.error.WriteError.{WriteError}
use Rattle.dwc_section.specs.declared.error.WriteError.TheVariants as write
use Rattle.dwc_unit.specs.GivenUnits.{GivenUnit, AreWritable, ordered, size_of, version_of}
use Rattle.dwc_frames.specs.Frames as frames
use Rattle.dwc_frames.specs.declared.frames.FrameTable.{FrameTable}
use Rattle.dwc_write.specs.ReadBack.{ReadsBack}
use Rattle.dwc_unit.specs.UsedTexts.{HaveTexts}
use Rattle.dwc_unit.specs.WidestGiven.{IsWideRefusal}
use Rattle.dwc_write.specs.SpelledOutput.{AreSpelled}
use Rattle.dwc_section.specs.Writers.{IsSound, IsPast}
use Rattle.dwc_carry.specs.declared.error.DebugError.{DebugError}
use Rattle.dwc_carry.specs.Refusals.{in_reading, Told, refused, limit, memory, told, IsCause, Refuses, of_writing}
use Rattle.dwc_carry.specs.Inputs.{encoding_of, input_of, maps_refusal, refusal_of}
use Rattle.dwc_carry.specs.Transformed.{IsTransformed}
use Rattle.dwc_carry.specs.Emits.{PassesLimit, Emits}
use Rattle.dwc_unit.specs.Renumbered.{place_at}
use Rattle.dwc_carry.proofs.FramesRefused.{IsTable, frames-refused, refused-first, section-sized, table-refused, table-section, table-widest, unit-there}
use Rattle.dwc_carry.proofs.CompositionLaws.{forest-is, lines-carried, made-sizes, made-trees, made-versions, made-writable}
use Rattle.dwc_carry.proofs.RefusalLaws.{refuses-more, unmapped}
use Rattle.dwc_carry.proofs.WidestMade.{frames-widest, said-widest, short-shared}
use Rattle.dwc_carry.proofs.ScopesMade.{MapsNumber, contexts-carried, locations-carried, scopes-carried}

-- Where something is written no expression of a location list is too long.
short-written : (b : Bool) (s : Vec DwarfSection Global) → ◌≡◌ {A = Result (Vec DwarfSection Global) WriteError} (Ok s) (Err (write.TooLarge Expression)) ↔ (b ≡ false) → b ≡ true
short-written true s h = refl
short-written false s h = absurd (clash (h.1 refl))
  where
    clash : ◌≡◌ {A = Result (Vec DwarfSection Global) WriteError} (Ok s) (Err (write.TooLarge Expression)) → ⊥
    clash e = cc

-- Where writing is refused for a section no expression of a location list is too long.
short-refused : (b : Bool) (name : SectionName) → ◌≡◌ {A = Result (Vec DwarfSection Global) WriteError} (Err (write.TooLarge (Section name))) (Err (write.TooLarge Expression)) ↔ (b ≡ false) → b ≡ true
short-refused true name h = refl
short-refused false name h = absurd (clash (h.1 refl))
  where
    clash : ◌≡◌ {A = Result (Vec DwarfSection Global) WriteError} (Err (write.TooLarge (Section name))) (Err (write.TooLarge Expression)) → ⊥
    clash e = cc

-- neither of two refusals is there
second-none : {A : Type 0} (a b : Option A) → option_or a b ≡ None → b ≡ None
second-none None b h = h
second-none (Some x) b h = absurd (cc)

module _ (order : Endian) (size : ℕ) (registers : Registers) (c : CompilationValue) (texts : List (List ℕ)) (us : List GivenUnit) (t : IsTransformed (input_of order size registers None c) texts us) where
  -- the units can be written
  pub transformed-writable : AreWritable (map ordered us)
  transformed-writable =
      let input = input_of order size registers None c in
      made-writable (place_at us) (encoding_of input) texts 0 (wanted_units input) (trees_made input) us t.made

  -- and all that they name is in the table of texts
  pub transformed-texts : HaveTexts texts (map ordered us)
  transformed-texts = t.texts

module _ (order : Endian) (size : ℕ) (registers : Registers) (entry : Option CommonEntry) (c : CompilationValue) where
  abbrev input : Compilation
  input = input_of order size registers entry c

  -- the input is refused
  input-refused : (e : DebugError) → Refuses (refusal_of order size registers entry c) e → Emits order size registers entry c (Err e)
  input-refused e = go (told e)
    where
      go : (t : Told) → IsCause (λ what. ⊥) (refusal_of order size registers entry c) t → IsCause (PassesLimit input) (refusal_of order size registers entry c) t
      go (refused r) h = h
      go (limit what) h = absurd h.1
      go memory h = tt

  -- before its frames
  pub emits-refused : (e : DebugError) → Refuses (refusal_of order size registers None c) e → Emits order size registers entry c (Err e)
  emits-refused e h = input-refused e (refuses-more (refusal_of order size registers None c) (refusal_of order size registers entry c) e (refused-first order size registers entry c) h)

  module _ (texts : List (List ℕ)) (us : List GivenUnit) (accepted : refusal_of order size registers None c ≡ None) (t : IsTransformed (input_of order size registers None c) texts us) where
    -- the trees of the units are those of the carried units
    same-trees : given_trees texts (map ordered us) ≡ trees_made input
    same-trees = made-trees (encoding_of input) texts (wanted_units input) (trees_made input) us t.made

    -- so expressions are short enough for one version where they are so for the other
    same-short : are_short_in input.version (trees_made input) ≡ are_short_in (version_of (map ordered us)) (given_trees texts (map ordered us))
    same-short = short-shared input texts us t.made

    module _ (table : Option FrameTable) (framed : IsTable entry (frame_descriptions input) table) where
      -- a table that describes a function stands with a unit
      described-there : 0 < length (frame_descriptions input) → 0 < length us
      described-there = unit-there (place_at us) (encoding_of input) texts input (trees_made input) us t.made

      pub transformed-unit : 0 < length (frames.descriptions_given table) → 0 < length us
      transformed-unit some = described-there (fewer table framed some)
        where
          fewer : (table : Option FrameTable) → IsTable entry (frame_descriptions input) table → 0 < length (frames.descriptions_given table) → 0 < length (frame_descriptions input)
          fewer None framed some = absurd (omega (arith, some))
          fewer (Some x) framed some = subst (λ ds. 0 < length ds) framed.described some

      -- what the writer refuses of the table is refused of the input
      first-refused : refusal_of order size registers entry c ≡ option_map in_reading (option_map of_frame (frames.first_refusal (frames.refused_frames table)))
      first-refused =
          frames-refused order size registers entry c accepted
          ∙ ap (λ rs. option_map in_reading (option_map of_frame (frames.first_refusal rs))) (sym (table-refused (frame_descriptions input) entry table framed))

      pub emits-accepted : frames.first_refusal (frames.refused_frames table) ≡ None → refusal_of order size registers entry c ≡ None
      emits-accepted none = first-refused ∙ ap (λ r. option_map in_reading (option_map of_frame r)) none

      -- what is written is emitted
      pub emits-sections : (s : Vec DwarfSection Global) → ReadsBack order (map ordered us) (map section_view s.items) → CarriesTrees order (given_trees texts (map ordered us)) (map section_view s.items) → HasTextsOnce (output_sections order (map section_view s.items))
          → ((version n : ℕ) → All (λ u. u.version ≡ version) us → All (λ u. u.address_size ≡ n) us → HaveTargetForm version n (units (output_sections order (map section_view s.items))).items)
          → frames.told_refusal {A = Vec DwarfSection Global} (Ok s) ≡ frames.first_refusal (frames.refused_frames table)
          → (frames.first_refusal (frames.refused_frames table) ≡ None → ◌≡◌ {A = Result (Vec DwarfSection Global) WriteError} (Ok s) (Err (write.TooLarge Expression)) ↔ (are_short_in (version_of (map ordered us)) (given_trees texts (map ordered us)) ≡ false))
          → HasDistinctNames (map section_view s.items) → All (IsRelocated (output_sections order (map section_view s.items))) (others_in (map section_view s.items))
          → FramesCarried order (size_of (map ordered us)) (frames.common_given table) (frames.descriptions_given table) (map section_view s.items) → All (IsSound order) (map section_view s.items) → AreSpelled order (map section_view s.items)
          → ((version : ℕ) → All (λ u. u.version ≡ version) us → are_of_output version (map section_view s.items) ≡ true)
          → ((version : ℕ) → All (λ u. u.version ≡ version) us → AreOfVersion5 version (output_sections order (map section_view s.items)) (units (output_sections order (map section_view s.items))).items)
          → ((fs : List Function) → TranslationsKeepScopes fs) → MapsNumber → Emits order size registers entry c (Ok s)
      emits-sections s back says once form good long names relocated framed_so sound spelled known of_5 keep number_maps =
          let sizes = made-sizes (place_at us) (encoding_of input) texts 0 (wanted_units input) (trees_made input) us t.made in
          let versions = made-versions (place_at us) (encoding_of input) texts 0 (wanted_units input) (trees_made input) us t.made in
          let none = emits-accepted (sym good) in (
            none,
            record {
              output = record {
                lines = lines-carried (place_at us) (encoding_of input) texts input (trees_made input) us (map section_view s.items) back t.made t.whole refl;
                wanted = given_trees texts (map ordered us);
                is_forest = forest-is input (unmapped in_reading (first_refusal input) (second-none (maps_refusal c) (option_map in_reading (first_refusal input)) none)) ∙ ap (λ (ts : List Tree). Ok ts) (sym same-trees);
                trees = says;
                targets = t.targets;
                scopes = scopes-carried number_maps order size registers entry c texts us none t.made keep;
                locations = locations-carried number_maps order size registers entry c texts us none t.made keep;
                contexts = contexts-carried number_maps order size registers entry c texts us none t.made keep;
                texts = once;
                form = form input.version size versions sizes;
                names = names;
                known = known input.version versions;
                of_5 = of_5 input.version versions;
                relocated = relocated;
                frames = framed_so ∙ table-section (frame_descriptions input) order (size_of (map ordered us)) entry table framed ∙ section-sized order size entry (frame_descriptions input) us sizes described-there;
              };
              sound = sound;
              spelled = spelled;
              short = same-short ∙ short-written (are_short_in (version_of (map ordered us)) (given_trees texts (map ordered us))) s (long (sym good));
            },
          )

      -- a section of frames that is too large
      frames-large : (name : SectionName) → IsPast Frame (frames.widest_given_frames table) name → 2 ^ 31 ≤ widest name input
      frames-large name past =
          subst (λ n. 2 ^ 31 ≤ widest n input) (sym past.0) (omega (arith, past.1, table-widest (frame_descriptions input) entry table framed, frames-widest input))

      -- a section is refused where no expression is too long
      sections-large : (name : SectionName) → frames.first_refusal (frames.refused_frames table) ≡ None
          → ◌≡◌ {A = Result (Vec DwarfSection Global) WriteError} (Err (write.TooLarge (Section name))) (Err (write.TooLarge Expression)) ↔ (are_short_in (version_of (map ordered us)) (given_trees texts (map ordered us)) ≡ false)
          → 2 ^ 31 ≤ widest name input → Emits order size registers entry c (Err (of_writing (write.TooLarge (Section name))))
      sections-large name none long large = (emits-accepted none, (same-short ∙ short-refused (are_short_in (version_of (map ordered us)) (given_trees texts (map ordered us))) name long, large))

      -- writing is refused
      pub emits-large : (input.version ≡ 4) ⊎ (input.version ≡ 5) → (e : WriteError) → frames.told_refusal {A = Vec DwarfSection Global} (Err e) ≡ frames.first_refusal (frames.refused_frames table)
          → (frames.first_refusal (frames.refused_frames table) ≡ None → ◌≡◌ {A = Result (Vec DwarfSection Global) WriteError} (Err e) (Err (write.TooLarge Expression)) ↔ (are_short_in (version_of (map ordered us)) (given_trees texts (map ordered us)) ≡ false))
          → IsWideRefusal texts (map ordered us) e ⊎ frames.IsFrameRefusal (frames.widest_given_frames table) e → Emits order size registers entry c (Err (of_writing e))
      emits-large asked (write.InvalidFrameCodeOffset symbol) so long large = first-refused ∙ ap (λ r. option_map in_reading (option_map of_frame r)) (sym so)
      emits-large asked (write.InvalidFrameDataOffset symbol) so long large = first-refused ∙ ap (λ r. option_map in_reading (option_map of_frame r)) (sym so)
      emits-large asked (write.TooLarge (Section name)) so long (inl large) = sections-large name (sym so) (long (sym so)) (omega (arith, large, said-widest input texts us t.made asked name))
      emits-large asked (write.TooLarge (Section name)) so long (inr past) = sections-large name (sym so) (long (sym so)) (frames-large name past)
      emits-large asked (write.TooLarge Expression) so long (inl large) = (emits-accepted (sym so), same-short ∙ large.1)
      emits-large asked (write.TooLarge Expression) so long (inr past) = absurd past
      emits-large asked (write.TooLarge Addend) so long (inl large) = absurd (cc)
      emits-large asked (write.TooLarge Addend) so long (inr past) = absurd past
      emits-large asked (write.TooLarge Range) so long (inl large) = absurd (cc)
      emits-large asked (write.TooLarge Range) so long (inr past) = absurd past
      emits-large asked (write.TooLarge Jump) so long (inl large) = absurd (cc)
      emits-large asked (write.TooLarge Jump) so long (inr past) = absurd past
      emits-large asked (write.TooLarge Vmctx) so long (inl large) = absurd (cc)
      emits-large asked (write.TooLarge Vmctx) so long (inr past) = absurd past
      emits-large asked write.OutOfMemory so long large = tt
