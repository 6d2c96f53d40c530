-- The files that the words of a run name, and what was read of them.
use Rattle.std.proofs.Common.{◌≡◌, ℕ, zero, suc, ◌<◌, ◌≤◌, List, [], ◌∷◌, ◌++◌, length, map, Option, Some, None, refl, sym, ap, ◌∙◌, subst, arith}
use Rattle.std.specs.Prelude.{Any, All, get_or, drop, slice_index_or}
use Rattle.std.specs.List.{AllZip}
use Rattle.std.proofs.lemmas.List.{drop_all}
use Rattle.std.specs.FinMap as finite
use Rattle.dwc_cli.specs.Inputs.{Paths, paths_of, all_paths, Input, all_files}
use Rattle.dwc_cli.specs.RunStatus.{Files, Names, LacksFile, IsTooLong, most_bytes}
use Rattle.dwc_cli.specs.Edge.{IsFile, IsReadFile, IsLongFile}
use Rattle.dwc_cli.specs.Answers.{IsInput}
use Rattle.dwc_cli.proofs.Options.{same_some}

-- some element of a list but the first
Any-tail : {A : Type 0} (P : A → Type 0) (x : A) (xs : List A) (k : ℕ) (y : A) → k < length xs → slice_index_or xs k y ≡ y → P y → Any P xs
Any-tail P x xs k y within is holds = (k, y, within, is, holds)

-- all files are read
pub read_to_end : {A : Type 0} (R : List ℕ → List ℕ → Type 0) (path_of : A → List ℕ) (paths : List A) (i : ℕ) (files : List (List ℕ)) → length paths ≤ i → ((rest : List (List ℕ)) → AllZip R (map path_of (drop i paths)) rest → AllZip R (map path_of paths) (files ++ rest)) → AllZip R (map path_of paths) files
read_to_end R path_of paths i files past so_far =
    let none : map path_of (drop i paths) ≡ [] = ap (map path_of) (drop_all i paths past) in
    subst (AllZip R (map path_of paths)) (append-nil files) (so_far [] (subst (λ ps. AllZip R ps []) (sym none) tt))
  where
    append-nil : (fs : List (List ℕ)) → fs ++ [] ≡ fs
    append-nil [] = refl
    append-nil (f ∷ fs) = ap (λ xs. f ∷ xs) (append-nil fs)

-- the bytes that are told of some paths
abbrev pub AreTold : Files → List (List ℕ) → List (List ℕ) → Type 0
AreTold told paths files = AllZip (λ path bytes. finite.get told path ≡ Some bytes) paths files

-- a file that was read, where its bytes are told
told_file : (files : Option Files) (told : Files) (path bytes : List ℕ) → files ≡ Some told → IsReadFile files path bytes → finite.get told path ≡ Some bytes
told_file files told path bytes tells read = subst (λ f. IsFile f path bytes) tells read.0

-- the bytes that were read are those that are told
same_files : (files : Option Files) (told : Files) → files ≡ Some told → (paths read named : List (List ℕ)) → AllZip (IsReadFile files) paths read → AreTold told paths named → read ≡ named
same_files files told tells [] [] [] h n = refl
same_files files told tells [] [] (c ∷ cs) h n = absurd n
same_files files told tells [] (b ∷ bs) cs h n = absurd h
same_files files told tells (p ∷ ps) [] cs h n = absurd h
same_files files told tells (p ∷ ps) (b ∷ bs) [] h n = absurd n
same_files files told tells (p ∷ ps) (b ∷ bs) (c ∷ cs) h n =
    let first : b ≡ c = same_some b c (sym (told_file files told p b tells h.0) ∙ n.0) in
    let others = same_files files told tells ps bs cs h.1 n.1 in
    λ i. first i ∷ others i

-- no file that was read is too long
short_files : (files : Option Files) (paths read : List (List ℕ)) → AllZip (IsReadFile files) paths read → Any (λ bytes. most_bytes < length bytes) read → ⊥
short_files files paths [] h (k, x, within, is, long) = absurd (omega (arith, within))
short_files files [] (b ∷ bs) h found = absurd h
short_files files (p ∷ ps) (b ∷ bs) h (zero, x, within, is, long) = let short = h.0.1 in let past : most_bytes < length b = subst (λ c. most_bytes < length c) (sym is) long in omega (arith, short, past)
short_files files (p ∷ ps) (b ∷ bs) h (suc k, x, within, is, long) = short_files files ps bs h.1 (Any-tail (λ bytes. most_bytes < length bytes) b bs k x (omega (arith, within)) is long)

-- a file that is told and was too long when it was read
long_file : (files : Option Files) (told : Files) (path bytes : List ℕ) → files ≡ Some told → IsLongFile files path → finite.get told path ≡ Some bytes → most_bytes < length bytes
long_file files told path bytes tells long is =
    let found = subst (λ f. IsLongFile f path) tells long in
    subst (λ b. most_bytes < length b) (same_some found.0 bytes (sym found.1 ∙ is)) found.2

pub Any-more : {A : Type 0} (P : A → Type 0) (x : A) (xs : List A) → Any P xs → Any P (x ∷ xs)
Any-more P x xs (k, y, within, is, holds) = (suc k, y, omega (arith, within), is, holds)

-- a file that was too long makes some bytes too long
long_files : (files : Option Files) (told : Files) → files ≡ Some told → (paths named : List (List ℕ)) → AreTold told paths named → Any (IsLongFile files) paths → Any (λ bytes. most_bytes < length bytes) named
long_files files told tells [] named n (k, x, within, is, long) = absurd (omega (arith, within))
long_files files told tells (p ∷ ps) [] n found = absurd n
long_files files told tells (p ∷ ps) (b ∷ bs) n (zero, x, within, is, long) = (zero, b, omega arith, refl, long_file files told p b tells (subst (IsLongFile files) (sym is) long) n.0)
long_files files told tells (p ∷ ps) (b ∷ bs) n (suc k, x, within, is, long) = Any-more (λ bytes. most_bytes < length bytes) b bs (long_files files told tells ps bs n.1 (Any-tail (IsLongFile files) p ps k x (omega (arith, within)) is long))

-- no path of files that were read is missing
no_missing : (files : Option Files) (told : Files) → files ≡ Some told → (paths read : List (List ℕ)) → AllZip (IsReadFile files) paths read → Any (λ path. finite.get told path ≡ None) paths → ⊥
no_missing files told tells [] read h (k, x, within, is, none) = absurd (omega (arith, within))
no_missing files told tells (p ∷ ps) [] h found = absurd h
no_missing files told tells (p ∷ ps) (b ∷ bs) h (zero, x, within, is, none) =
    let missing : finite.get told p ≡ None = subst (λ q. finite.get told q ≡ None) (sym is) none in
    some≢none (sym (told_file files told p b tells h.0) ∙ missing)
  where
    some≢none : {x : List ℕ} → Some x ≡ None → ⊥
    some≢none e = cc
no_missing files told tells (p ∷ ps) (b ∷ bs) h (suc k, x, within, is, none) = no_missing files told tells ps bs h.1 (Any-tail (λ path. finite.get told path ≡ None) p ps k x (omega (arith, within)) is none)

-- ---- of the words

-- two lists of paths that the same words name
pub same_paths : (words : List (List ℕ)) (p q : Paths) → paths_of words ≡ Some p → paths_of words ≡ Some q → p ≡ q
same_paths words p q a b = same_some p q (sym a ∙ b)

-- the bytes of the paths that the words name
told_paths : (files : Option Files) (words : List (List ℕ)) (p : Paths) (input : Input) → paths_of words ≡ Some p → (names : Names files words input) → AreTold names.told (all_paths p) (all_files input)
told_paths files words p input is_p names = subst (λ q. AreTold names.told (all_paths q) (all_files input)) (same_paths words names.paths p names.are_paths is_p) names.bytes

-- what was read is the input that the words name
pub same_input : (files : Option Files) (words : List (List ℕ)) (p : Paths) (read named : Input) → paths_of words ≡ Some p → IsInput files p read → Names files words named → read ≡ named
same_input files words p read named is_p is_input names =
    let same : all_files read ≡ all_files named = same_files files names.told names.tells (all_paths p) (all_files read) (all_files named) is_input (told_paths files words p named is_p names) in
    λ i. record { map_bytes = ap (λ bs. get_or bs 0 []) same i; modules = ap (drop 1) same i }

-- a file that was too long when it was read makes the input too long
pub too_long_named : (files : Option Files) (words : List (List ℕ)) (p : Paths) (input : Input) → paths_of words ≡ Some p → Names files words input → Any (IsLongFile files) (all_paths p) → IsTooLong input
too_long_named files words p input is_p names long = long_files files names.told names.tells (all_paths p) (all_files input) (told_paths files words p input is_p names) long

-- an input that was read is not too long
pub short_input : (files : Option Files) (p : Paths) (input : Input) → IsInput files p input → IsTooLong input → ⊥
short_input files p input is_input long = short_files files (all_paths p) (all_files input) is_input long

-- where all files were read, the source lacks none
pub lacks_none : (files : Option Files) (words : List (List ℕ)) (p : Paths) (read : Input) → paths_of words ≡ Some p → IsInput files p read → LacksFile files words → ⊥
lacks_none files words p read is_p is_input missing =
    no_missing files missing.told missing.tells (all_paths p) (all_files read) is_input (subst (λ q. Any (λ path. finite.get missing.told path ≡ None) (all_paths q)) (same_paths words missing.paths p missing.are_paths is_p) missing.lacks)

-- files that are short are not too long
pub not_long : (input : Input) → All (λ bytes. length bytes ≤ most_bytes) (all_files input) → IsTooLong input → ⊥
not_long input short (k, x, within, is, long) = let s = subst (λ bytes. length bytes ≤ most_bytes) is (short k x within) in omega (arith, s, long)
