-- The frame descriptions of modules, one module after another.
use Rattle.std.proofs.Common.{◌≡◌, ℕ, zero, suc, ◌+◌, add-one, ◌<◌, refl, sym, ap, ◌∙◌, arith, List, [], ◌∷◌, ◌++◌, length, drop, get_or}
use Rattle.std.proofs.lemmas.List.{append_assoc, drop_more}
use Rattle.dwc_native.specs.CallFrames.{CommonEntry, FrameDescription}
use Rattle.dwc_addr.specs.Numbers.{Compiled, first_number}
use Rattle.dwc_carry.specs.CompiledFrames.{compiled_frames, all_frames}

-- the number behind a module's functions is that of the next module's first
number-next : (modules : List (List Compiled)) (i : ℕ) → i < length modules → first_number modules (suc i) ≡ first_number modules i + length (get_or modules i [])
number-next [] i inside = absurd (omega (arith, inside))
number-next (fs ∷ modules) zero inside = omega arith
number-next (fs ∷ modules) (suc i) inside =
    let first = first_number modules i in
    let count = length (get_or modules i []) in
    let regroup : length fs + (first + count) ≡ length fs + first + count = omega arith in
    ap (λ (n : ℕ). length fs + n) (number-next modules i (omega (arith, inside))) ∙ regroup

-- the descriptions of the modules from one on are its own, and those of the modules behind it
module-more : (modules : List (List Compiled)) (i : ℕ) → i < length modules
    → all_frames (first_number modules i) (drop i modules) ≡ compiled_frames (first_number modules i) (get_or modules i []) ++ all_frames (first_number modules (i + 1)) (drop (i + 1) modules)
module-more modules i inside = rw (drop_more modules i [] inside, add-one, number-next modules i inside) refl

-- A module's descriptions are put behind those of a table: with those of the modules that are left they are still all.
pub module-added : (modules : List (List Compiled)) (i first : ℕ) (fs : List Compiled) (start old new : CommonEntry × List (ℕ × FrameDescription)) → i < length modules
    → first ≡ first_number modules i → fs ≡ get_or modules i []
    → (old.0 ≡ start.0) × (old.1 ++ all_frames (first_number modules i) (drop i modules) ≡ start.1 ++ all_frames 0 modules)
    → new ≡ (old.0, old.1 ++ compiled_frames first fs)
    → (new.0 ≡ start.0) × (new.1 ++ all_frames (first_number modules (i + 1)) (drop (i + 1) modules) ≡ start.1 ++ all_frames 0 modules)
module-added modules i first fs start old new inside at_first at_fs so_far added =
    let rest = all_frames (first_number modules (i + 1)) (drop (i + 1) modules) in
    let here : compiled_frames first fs ++ rest ≡ all_frames (first_number modules i) (drop i modules) =
    ap (λ (n : ℕ). compiled_frames n fs ++ rest) at_first
    ∙ ap (λ (gs : List Compiled). compiled_frames (first_number modules i) gs ++ rest) at_fs
    ∙ sym (module-more modules i inside) in (
      ap (λ p. p.0) added ∙ so_far.0,
      ap (λ p. p.1 ++ rest) added ∙ append_assoc old.1 (compiled_frames first fs) rest ∙ ap (λ (ds : List (ℕ × FrameDescription)). old.1 ++ ds) here ∙ so_far.1,
    )
