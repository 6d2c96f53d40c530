-- What the loops over a line table add to a line program.
use Rattle.std.proofs.Common.{◌≡◌, ℕ, ◌<◌, refl, ◌∙◌, sym, subst, arith, List, [], ◌∷◌, ◌++◌, map, length, get_or, Option, Some, None}
use Rattle.std.specs.Prelude.{All}
use Rattle.std.proofs.lemmas.List.{append-nil, append_assoc, length-map, get_or-map}
use Rattle.std.proofs.lemmas.List.Elements.{All-head, All-tail, All-push, All-nil}
use Rattle.dwc_base.specs.declared.records.Address.{Address}
use Rattle.dwc_base.specs.declared.records.LineRow.{LineRow}
use Rattle.dwc_dwarf.specs.LineRows.{LineStep, start as begin, row, end}
use Rattle.dwc_native.specs.Functions.{Function}
use Rattle.dwc_unit.specs.GivenLines.{GivenLines}
use Rattle.dwc_image.specs.ImageSequences.{FitsStep, FitsFiles, AllRise, sequence_if, sequences_from, with_sequences}

-- what holds of each thing seen holds of the one at a place
pub mapped-at : {X Y : Type 0} (P : Y → Type 0) (f : X → Y) (xs : List X) (i : ℕ) (d : X) → i < length xs → All P (map f xs) → P (f (get_or xs i d))
mapped-at P f xs i d less all = subst P (get_or-map f xs i d (f d) less) (all i (f d) (omega (arith, less, length-map xs f)))

-- Where the images stand: those so far, and those of the steps that are left, are all.
pub record ImagesSoFar (fs : List Function) (all : List LineStep) (g p : GivenLines) (start : Option Address) (rows : List LineRow) (steps : List LineStep) : Type 0 where
  pub address_size : p.address_size ≡ g.address_size
  pub directories : p.directories ≡ g.directories
  pub files : p.files ≡ g.files
  pub ended : p.begun ≡ None
  pub sequences : p.sequences ++ sequences_from fs start rows steps ≡ g.sequences ++ sequences_from fs None [] all
  pub each : All (FitsFiles (length g.files)) rows
  pub fits : All (FitsStep (length g.files)) steps
  pub rise : AllRise start rows steps

module _ (fs : List Function) (all : List LineStep) (g : GivenLines) where
  -- before the first step
  pub images-begin : g.begun ≡ None → All (FitsStep (length g.files)) all → AllRise None [] all → ImagesSoFar fs all g g None [] all
  images-begin ended fits rise = record { address_size = refl; directories = refl; files = refl; ended = ended; sequences = refl; each = All-nil (FitsFiles (length g.files)); fits = fits; rise = rise }

  -- a row more
  pub images-row : (p : GivenLines) (start : Option Address) (rows : List LineRow) (r : LineRow) (steps : List LineStep) → ImagesSoFar fs all g p start rows (row r ∷ steps) → ImagesSoFar fs all g p start (rows ++ r ∷ []) steps
  images-row p start rows r steps h = record {
    address_size = h.address_size;
    directories = h.directories;
    files = h.files;
    ended = h.ended;
    sequences = h.sequences;
    each = All-push (FitsFiles (length g.files)) rows r h.each (All-head (FitsStep (length g.files)) (row r) steps h.fits);
    fits = All-tail (FitsStep (length g.files)) (row r) steps h.fits;
    rise = h.rise;
  }

  -- a step that ends a segment
  pub images-start : (p : GivenLines) (start : Option Address) (rows : List LineRow) (a : Address) (steps : List LineStep) → ImagesSoFar fs all g p start rows (begin a ∷ steps) → ImagesSoFar fs all g (with_sequences (sequence_if fs start rows) p) (Some a) [] steps
  images-start p start rows a steps h = record {
    address_size = h.address_size;
    directories = h.directories;
    files = h.files;
    ended = refl;
    sequences = append_assoc p.sequences (sequence_if fs start rows) (sequences_from fs (Some a) [] steps) ∙ h.sequences;
    each = All-nil (FitsFiles (length g.files));
    fits = All-tail (FitsStep (length g.files)) (begin a) steps h.fits;
    rise = h.rise.1;
  }

  pub images-end : (p : GivenLines) (start : Option Address) (rows : List LineRow) (e : Option ℕ) (steps : List LineStep) → ImagesSoFar fs all g p start rows (end e ∷ steps) → ImagesSoFar fs all g (with_sequences (sequence_if fs start rows) p) None [] steps
  images-end p start rows e steps h = record {
    address_size = h.address_size;
    directories = h.directories;
    files = h.files;
    ended = refl;
    sequences = append_assoc p.sequences (sequence_if fs start rows) (sequences_from fs None [] steps) ∙ h.sequences;
    each = All-nil (FitsFiles (length g.files));
    fits = All-tail (FitsStep (length g.files)) (end e) steps h.fits;
    rise = h.rise.1;
  }

  -- behind the last step
  pub images-done : (p : GivenLines) (start : Option Address) (rows : List LineRow) → ImagesSoFar fs all g p start rows [] → p ≡ with_sequences (sequences_from fs None [] all) g
  images-done p start rows h = λ i. record {
    address_size = h.address_size i;
    directories = h.directories i;
    files = h.files i;
    sequences = (sym (append-nil p.sequences) ∙ h.sequences) i;
    begun = h.ended i;
  }
