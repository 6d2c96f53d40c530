-- What the loop over the segments of a table that is read along with it adds to a line program.
use Rattle.std.proofs.Common.{◌≡◌, ℕ, refl, sym, ap, ◌∙◌, arith, List, [], ◌∷◌, ◌++◌, map, length, ◌<◌, Option, Some, None, true}
use Rattle.std.specs.Prelude.{All}
use Rattle.std.proofs.lemmas.List.{append-nil, append_assoc, length-append, length-map}
use Rattle.dwc_base.specs.declared.records.Address.{Address}
use Rattle.dwc_base.specs.declared.records.LineRow.{LineRow}
use Rattle.dwc_dwarf.specs.LineRows.{LineStep, row, start as begin, end}
use Rattle.dwc_native.specs.Functions.{Function}
use Rattle.dwc_tabs.specs.declared.step.LineStop.{LineStop}
use Rattle.dwc_tabs.specs.declared.step.LineStop.TheVariants.{Start, End}
use Rattle.dwc_tabs.specs.OpenTables.{OpenLines, step_from_one, stop_view, stopped, TakesRows}
use Rattle.dwc_unit.specs.GivenLines.{GivenLines}
use Rattle.dwc_image.specs.ImageSequences.{FitsFiles, RiseIf, sequence_if, sequences_from, with_sequences}
use Rattle.dwc_image.specs.CarriedLines.{carried_step, carried_steps}
use Rattle.dwc_image.specs.OpenedTables.{start_behind}

-- files are counted from 1 as in what carries them
same-step : (version : ℕ) (s : LineStep) → step_from_one version s ≡ carried_step version s
same-step version (row r) = refl
same-step version (begin a) = refl
same-step version (end e) = refl

-- what was taken of a table's steps
taken-steps : (old new : OpenLines) (rows : List LineRow) (stop : Option LineStop) → TakesRows old new rows stop → carried_steps old.table ≡ map row rows ++ stopped stop (carried_steps new.table)
taken-steps old new rows stop h =
    let v = old.table.header.version in
    let same : step_from_one v ≡ carried_step v = λ i s. same-step v s i in
    ap (λ f. map f old.table.steps) (sym same)
    ∙ h.takes.steps
    ∙ ap (λ f. map row rows ++ stopped stop (map f new.table.steps)) same
    ∙ ap (λ header. map row rows ++ stopped stop (map (carried_step header.version) new.table.steps)) (sym h.header)

-- rows in front of other steps come behind the rows so far
rows-first : (fs : List Function) (start : Option Address) (rows : List LineRow) (before : List LineRow) (steps : List LineStep) → sequences_from fs start before (map row rows ++ steps) ≡ sequences_from fs start (before ++ rows) steps
rows-first fs start [] before steps = ap (λ rs. sequences_from fs start rs steps) (sym (append-nil before))
rows-first fs start (r ∷ rows) before steps = rows-first fs start rows (before ++ r ∷ []) steps ∙ ap (λ rs. sequences_from fs start rs steps) (append_assoc before (r ∷ []) rows)

-- what is written of rows and a stop
stop-first : (fs : List Function) (start : Option Address) (rows : List LineRow) (stop : LineStop) (steps : List LineStep) → sequences_from fs start rows (stop_view stop ∷ steps) ≡ sequence_if fs start rows ++ sequences_from fs (start_behind stop) [] steps
stop-first fs start rows (Start a) steps = refl
stop-first fs start rows (End e) steps = refl

-- Where the images stand of a table as it was at first: those so far, and those of the steps that are left, are all.
pub record ImagesOpen (fs : List Function) (o t : OpenLines) (g p : GivenLines) (start : Option Address) : Type 0 where
  pub address_size : p.address_size ≡ g.address_size
  pub directories : p.directories ≡ g.directories
  pub files : p.files ≡ g.files
  pub ended : p.begun ≡ None
  pub known : length p.files ≡ length t.table.files
  pub sound : t.sound ≡ o.sound
  pub sequences : p.sequences ++ sequences_from fs start [] (carried_steps t.table) ≡ g.sequences ++ sequences_from fs None [] (carried_steps o.table)

-- before the first row
pub images-begin : (fs : List Function) (o : OpenLines) (g : GivenLines) → g.begun ≡ None → length g.files ≡ length o.table.files → ImagesOpen fs o o g g None
images-begin fs o g ended known = record { address_size = refl; directories = refl; files = refl; ended = ended; known = known; sound = refl; sequences = refl }

-- with a stop steps are fewer
pub taken-fewer : (old new : OpenLines) (rows : List LineRow) (stop : LineStop) → TakesRows old new rows (Some stop) → length new.table.steps < length old.table.steps
taken-fewer old new rows stop h =
    let f = step_from_one old.table.header.version in
    let whole = ap length h.takes.steps in
    omega (arith, whole, length-map old.table.steps f, length-append (map row rows) (stop_view stop ∷ map f new.table.steps), length-map new.table.steps f)

-- rows that are taken fit
pub rows-fit : (old new : OpenLines) (rows : List LineRow) (stop : Option LineStop) (files : ℕ) → files ≡ length old.table.files → TakesRows old new rows stop → All (FitsFiles files) rows
rows-fit old new rows stop files same h = λ k d less.
    let fits = h.takes.each k d less in
    record { line = fits.line; some = fits.some; known = rw same fits.known }

-- and rise where they have a start
pub rows-rise : (start : Option Address) (old new : OpenLines) (rows : List LineRow) (stop : Option LineStop) → TakesRows old new rows stop → RiseIf start rows
rows-rise None old new rows stop h = tt
rows-rise (Some a) old new rows stop h = h.takes.rise

module _ (fs : List Function) (o t u : OpenLines) (g p : GivenLines) (start : Option Address) (rows : List LineRow) (h : ImagesOpen fs o t g p start) where
  -- a segment more
  pub images-stop : (stop : LineStop) → TakesRows t u rows (Some stop) → ImagesOpen fs o u g (with_sequences (sequence_if fs start rows) p) (start_behind stop)
  images-stop stop taken = record {
    address_size = h.address_size;
    directories = h.directories;
    files = h.files;
    ended = refl;
    known = h.known ∙ ap length (sym taken.files);
    sound = taken.takes.sound ∙ h.sound;
    sequences =
        append_assoc p.sequences (sequence_if fs start rows) (sequences_from fs (start_behind stop) [] (carried_steps u.table))
        ∙ ap (λ qs. p.sequences ++ qs) (sym (ap (sequences_from fs start []) (taken-steps t u rows (Some stop) taken) ∙ rows-first fs start rows [] (stop_view stop ∷ carried_steps u.table) ∙ stop-first fs start rows stop (carried_steps u.table)))
        ∙ h.sequences;
  }

  -- behind the last one all are added
  pub images-whole : TakesRows t u rows None → p ≡ with_sequences (sequences_from fs None [] (carried_steps o.table)) g
  images-whole taken =
      let none = ap (sequences_from fs start []) (taken-steps t u rows None taken) ∙ rows-first fs start rows [] [] in
      λ i. record {
        address_size = h.address_size i;
        directories = h.directories i;
        files = h.files i;
        sequences = (sym (append-nil p.sequences) ∙ ap (λ qs. p.sequences ++ qs) (sym none) ∙ h.sequences) i;
        begun = h.ended i;
      }

  -- and the table was sound
  pub images-sound : TakesRows t u rows None → o.sound ≡ true
  images-sound taken = sym h.sound ∙ taken.takes.ends
