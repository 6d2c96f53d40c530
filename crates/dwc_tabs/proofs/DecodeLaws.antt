-- What is decoded of a program so far, and what is left of it.
use Rattle.std.proofs.Common.{◌≡◌, ℕ, ◌+◌, ◌-◌, ◌^◌, ◌≤◌, refl, sym, subst, ap, ◌∙◌, arith, List, [], ◌∷◌, ◌++◌, map, length, Some, None, Ok, true, nat_abs, All, append_assoc}
use Rattle.std.specs.Prelude.{option_map}
use Rattle.std.specs.List.Sorted.{IsNonDecreasingBy}
use Rattle.std.proofs.lemmas.List.{map-append}
use Rattle.std.proofs.lemmas.List.Elements.{All-push, All-nil}
use Rattle.std.proofs.lemmas.List.Sorted.{IsNonDecreasingBy-push, IsNonDecreasingBy-short}
use Rattle.dwc_base.specs.declared.records.LineRow.{LineRow}
use Rattle.dwc_base.specs.Reading.{Unread}
use Rattle.dwc_base.specs.Sections.{Relocation}
use Rattle.dwc_dwarf.specs.LineHeaders.{Instruction, instruction_at}
use Rattle.dwc_dwarf.specs.LineRows.{Registers, row, after, effect, file_defined}
use Rattle.dwc_tabs.specs.declared.parameters.Parameters.{Parameters}
use Rattle.dwc_tabs.specs.declared.step.LineStop.{LineStop}
use Rattle.dwc_tabs.specs.declared.step.LineStop.TheVariants.{Start, End}
use Rattle.dwc_tabs.specs.Headers.{program_header}
use Rattle.dwc_tabs.specs.Steps.{capped, shown_step}
use Rattle.dwc_tabs.specs.Programs.{steps_from, is_number}
use Rattle.dwc_tabs.specs.OpenTables.{is_sound, HasRoom, row_from_one, step_from_one, FitsRow, stop_view, Takes}
use Rattle.dwc_tabs.proofs.ProgramLaws.{steps-step, steps-nothing, steps-end}
use Rattle.dwc_tabs.proofs.OpenLaws.{row-between, nothing-falls, row-fits, shown-unnamed, shows_within, sound-behind, room-behind, sound-end}

-- The rows so far, and those of what is left, are those of all; what is left is sound where all is. The rows fit, and rise to the
-- registers' offset at most.
pub record DecodedSoFar (p : Parameters) (relocations : List Relocation) (count : ℕ) (q : Registers) (t : Unread) (r : Registers) (u : Unread) (rows : List LineRow) : Type 0 where
  pub steps : map row rows ++ map (step_from_one p.version) (steps_from p relocations r u) ≡ map (step_from_one p.version) (steps_from p relocations q t)
  pub sound : is_sound p relocations count r u ≡ is_sound p relocations count q t
  pub room : HasRoom r u
  pub each : All (FitsRow count) rows
  pub rise : IsNonDecreasingBy (λ x. x.offset) rows
  pub below : All (λ x. x.offset ≤ r.offset) rows

module _ (p : Parameters) (relocations : List Relocation) (count : ℕ) (q : Registers) (t : Unread) where
  -- before the first instruction
  pub decoded-none : HasRoom q t → DecodedSoFar p relocations count q t q t []
  decoded-none room = record {
    steps = refl;
    sound = refl;
    room = room;
    each = All-nil (FitsRow count);
    rise = IsNonDecreasingBy-short (λ (x : LineRow). x.offset) [] (omega arith);
    below = All-nil (λ (x : LineRow). x.offset ≤ q.offset);
  }

  module _ (r s : Registers) (u v : Unread) (rows : List LineRow) (i : Instruction) (read : instruction_at relocations (program_header p) u ≡ Ok (i, v)) (moved : s ≡ capped (after (program_header p) i r)) (near : nat_abs s.line ≤ nat_abs r.line + 2 ^ 63) (h : DecodedSoFar p relocations count q t r u rows) where
    -- an instruction that shows nothing, and defines no file
    pub decoded-nothing : None ≡ option_map shown_step (effect (program_header p) i r) → file_defined i ≡ None → DecodedSoFar p relocations count q t s v rows
    decoded-nothing shown none =
        let risen : r.offset ≤ s.offset = rw moved (nothing-falls (program_header p) i r h.room.offset shown) in
        record {
          steps = ap (λ ss. map row rows ++ map (step_from_one p.version) ss) (sym (steps-nothing p relocations r s u v i read moved shown)) ∙ h.steps;
          sound = sound-behind p relocations count r s u v i read moved None shown refl none ∙ h.sound;
          room = room-behind p relocations count r s u v i read moved near h.room;
          each = h.each;
          rise = h.rise;
          below = λ k d less. omega (arith, h.below k d less, risen);
        }

    -- a row more
    pub decoded-row : (x y : LineRow) → Some (Some (row x)) ≡ option_map shown_step (effect (program_header p) i r) → y ≡ x → is_number p.version count y.file ≡ true → DecodedSoFar p relocations count q t s v (rows ++ row_from_one p.version y ∷ [])
    decoded-row x y shown same within =
        let number : is_number p.version count x.file ≡ true = rw (← same) within in
        let between = row-between (program_header p) i r x shown in
        let low = between.low in
        let high : x.offset ≤ s.offset = rw moved between.high in
        let one = row_from_one p.version x in
        let left = map (step_from_one p.version) (steps_from p relocations s v) in
        subst (λ z. DecodedSoFar p relocations count q t s v (rows ++ row_from_one p.version z ∷ [])) (sym same) (record {
          steps =
              ap (λ rs. rs ++ left) (map-append row rows (one ∷ []))
              ∙ append_assoc (map row rows) (row one ∷ []) left
              ∙ ap (λ ss. map row rows ++ map (step_from_one p.version) ss) (sym (steps-step p relocations r s u v i read moved (row x) shown))
              ∙ h.steps;
          sound = sound-behind p relocations count r s u v i read moved (Some (Some (row x))) shown number (shown-unnamed (program_header p) i r (Some (row x)) shown) ∙ h.sound;
          room = room-behind p relocations count r s u v i read moved near h.room;
          each = All-push (FitsRow count) rows one h.each (row-fits p.version count x between.line number);
          rise = IsNonDecreasingBy-push (λ (x : LineRow). x.offset) rows one h.rise (λ d some. omega (arith, h.below (length rows - 1) d (omega arith), low));
          below = All-push (λ (x : LineRow). x.offset ≤ s.offset) rows one (λ k d less. omega (arith, h.below k d less, low, high)) high;
        })

    -- a stop
    pub decoded-stop : (stop : LineStop) → Some (Some (stop_view stop)) ≡ option_map shown_step (effect (program_header p) i r)
        → Takes p.version count (steps_from p relocations q t) (steps_from p relocations s v) (is_sound p relocations count q t) (is_sound p relocations count s v) rows (Some stop)
    decoded-stop stop shown = record {
      steps = sym h.steps ∙ ap (λ ss. map row rows ++ map (step_from_one p.version) ss) (steps-step p relocations r s u v i read moved (stop_view stop) shown) ∙ ap (λ x. map row rows ++ x ∷ map (step_from_one p.version) (steps_from p relocations s v)) (stop-same stop);
      sound = sound-behind p relocations count r s u v i read moved (Some (Some (stop_view stop))) shown (stop-within stop) (shown-unnamed (program_header p) i r (Some (stop_view stop)) shown) ∙ h.sound;
      ends = tt;
      each = h.each;
      rise = h.rise;
    }
      where
        stop-same : (stop : LineStop) → step_from_one p.version (stop_view stop) ≡ stop_view stop
        stop-same (Start a) = refl
        stop-same (End e) = refl

        stop-within : (stop : LineStop) → shows_within p.version count (Some (Some (stop_view stop))) ≡ true
        stop-within (Start a) = refl
        stop-within (End e) = refl

  -- behind the last instruction
  pub decoded-end : (r : Registers) (u : Unread) (rows : List LineRow) → length u.left ≡ 0 → DecodedSoFar p relocations count q t r u rows
      → Takes p.version count (steps_from p relocations q t) (steps_from p relocations r u) (is_sound p relocations count q t) (is_sound p relocations count r u) rows None
  decoded-end r u rows none h = record {
    steps = sym h.steps ∙ ap (λ ss. map row rows ++ map (step_from_one p.version) ss) (steps-end p relocations r u none);
    sound = h.sound;
    ends = sym h.sound ∙ sound-end p relocations count r u none;
    each = h.each;
    rise = h.rise;
  }
