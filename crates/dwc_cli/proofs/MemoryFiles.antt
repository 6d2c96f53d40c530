-- Looking up a file among those in memory.
use Rattle.std.proofs.Common.{◌≡◌, ℕ, ◌+◌, ◌<◌, List, ◌∷◌, map, length, get_or, drop, cond, Option, Some, refl, sym, ap, ◌∙◌, add-one}
use Rattle.std.specs.declared.cmp.Ordering.{Ordering}
use Rattle.std.specs.declared.cmp.Ordering.TheVariants.{Less, Equal, Greater}
use Rattle.std.specs.Prelude.{String, Vec, string_bytes, option_map, is_some, IsSome}
use Rattle.std.specs.Global.{Global}
use Rattle.std.specs.Ordering.{nat_cmp, is_eq}
use Rattle.std.specs.Cmp.{tied_itself}
use Rattle.std.specs.Cmp.Lexicographic.{slice_cmp, nat_list_cmp_total}
use Rattle.std.proofs.Math.Seq.{drop-cons}
use Rattle.std.proofs.lemmas.Option.{slice_get_read}
use Rattle.std.specs.FinMap as finite
use Rattle.std.specs.FinMap.{get-from_entries, slice_cmp-IsAntisymmetric, nat_cmp-IsAntisymmetric}
use Rattle.dwc_cli.specs.Memory.{file_entry, files_of, left_of}

-- the map of the files has, at a path, the first file with it
pub get-files_of : (files : List (List ℕ × List ℕ)) (path : List ℕ) → finite.get (files_of files) path ≡ finite.find (slice_cmp nat_cmp) path files
get-files_of files path = get-from_entries nat_list_cmp_total files path

-- the first file has the path
pub find-same : (path bytes : List ℕ) (files : List (List ℕ × List ℕ)) → finite.find (slice_cmp nat_cmp) path ((path, bytes) ∷ files) ≡ Some bytes
find-same path bytes files = ap (λ r. cond (is_eq r) (Some bytes) (finite.find (slice_cmp nat_cmp) path files)) (tied_itself nat_list_cmp_total path)

skipped : (r : Ordering) (bytes : List ℕ) (rest : Option (List ℕ)) → (r ≡ Equal → ⊥) → cond (is_eq r) (Some bytes) rest ≡ rest
skipped Less bytes rest apart = refl
skipped Equal bytes rest apart = absurd (apart refl)
skipped Greater bytes rest apart = refl

-- the first file has another path
pub find-other : (path other bytes : List ℕ) (files : List (List ℕ × List ℕ)) → (other ≡ path → ⊥) → finite.find (slice_cmp nat_cmp) path ((other, bytes) ∷ files) ≡ finite.find (slice_cmp nat_cmp) path files
find-other path other bytes files apart = skipped (slice_cmp nat_cmp path other) bytes _ (λ e. apart (sym (slice_cmp-IsAntisymmetric nat_cmp-IsAntisymmetric path other e)))

abbrev StoredFile : Type 0
StoredFile = String Global × Vec ℕ Global

-- the files from a place on begin with the one there
pub files-from : (files : List StoredFile) (i : ℕ) (file : StoredFile) → i < length files → file ≡ get_or files i file → map file_entry (drop i files) ≡ file_entry file ∷ map file_entry (drop (i + 1) files)
files-from files i file within is = rw (add-one, drop-cons files i file within, ← is) refl

-- a file with the path, behind files without it, is the one that is opened
pub left_of-found : (files : List StoredFile) (path : List ℕ) (i : ℕ) (file : StoredFile) → i < length files → file ≡ get_or files i file → string_bytes file.0 ≡ path → finite.find (slice_cmp nat_cmp) path (map file_entry (drop i files)) ≡ finite.find (slice_cmp nat_cmp) path (map file_entry files) → left_of files (Some (record { file = i; place = 0 })) ≡ finite.find (slice_cmp nat_cmp) path (map file_entry files)
left_of-found files path i file within is same passed =
    ap (option_map (λ f. drop 0 f.1.items)) (slice_get_read files (length files) i file refl within is)
    ∙ sym (find-same path file.1.items (map file_entry (drop (i + 1) files)))
    ∙ ap (λ p. finite.find (slice_cmp nat_cmp) path ((p, file.1.items) ∷ map file_entry (drop (i + 1) files))) (sym same)
    ∙ ap (finite.find (slice_cmp nat_cmp) path) (sym (files-from files i file within is))
    ∙ passed

-- a file that is opened has something left
pub left_of-some : (files : List StoredFile) (i place : ℕ) (file : StoredFile) → i < length files → file ≡ get_or files i file → IsSome (left_of files (Some (record { file = i; place = place })))
left_of-some files i place file within is = ap (λ f. is_some (option_map (λ f. drop place f.1.items) f)) (slice_get_read files (length files) i file refl within is)

-- a file without the path is passed
pub find-passed : (files : List StoredFile) (path : List ℕ) (i : ℕ) (file : StoredFile) → i < length files → file ≡ get_or files i file → (string_bytes file.0 ≡ path → ⊥) → finite.find (slice_cmp nat_cmp) path (map file_entry (drop i files)) ≡ finite.find (slice_cmp nat_cmp) path (map file_entry files) → finite.find (slice_cmp nat_cmp) path (map file_entry (drop (i + 1) files)) ≡ finite.find (slice_cmp nat_cmp) path (map file_entry files)
find-passed files path i file within is apart passed =
    sym (find-other path (string_bytes file.0) file.1.items (map file_entry (drop (i + 1) files)) apart)
    ∙ ap (finite.find (slice_cmp nat_cmp) path) (sym (files-from files i file within is))
    ∙ passed

pub ruleset found = (get-files_of)
