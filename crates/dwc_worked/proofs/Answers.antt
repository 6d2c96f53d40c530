-- What the tests of a run's clauses share: statuses, sources that tell some files, and the words that name them.
use Rattle.std.proofs.Common.{◌≡◌, ℕ, zero, suc, ◌<◌, List, [], ◌∷◌, length, Some, true, false, refl, sym, ◌∙◌, arith}
use Rattle.std.specs.Prelude.{Bool, codes, ◌==◌, ◌||◌, slice_index_or}
use Rattle.std.specs.List.{list_any}
use Rattle.std.specs.Ordering.{nat_cmp}
use Rattle.std.specs.Cmp.Lexicographic.{slice_cmp}
use Rattle.std.specs.FinMap as map
use Rattle.std.proofs.lemmas.Cmp.{nat_list_cmp_total}
use Rattle.std.proofs.lemmas.Bool.{eq-eqb, eqb-true, false≢true}
use Rattle.dwc_cli.specs.Inputs.{Paths, Input}
use Rattle.dwc_cli.specs.RunStatus.{Files, IsOneOf, Names, LacksFile}

-- ---- statuses

-- whether a status is among some
abbrev pub is_status_among : List ℕ → ℕ → Bool
is_status_among statuses status = list_any (λ s. s == status) statuses

-- what holds in one of two ways
or_right : (a b : Bool) → b ≡ true → (a || b) ≡ true
or_right true b h = refl
or_right false b h = h

-- one of some statuses is found among them
pub one_of : (statuses : List ℕ) (status : ℕ) → IsOneOf statuses status → is_status_among statuses status ≡ true
one_of [] status h = absurd (omega (arith, h.2))
one_of (s ∷ statuses) status h = go h.0 h.1 h.2 h.3 h.4 (λ k x inside is e. one_of statuses status (k, x, inside, is, e))
  where
    go : (k : ℕ) (x : ℕ) → k < length (s ∷ statuses) → slice_index_or (s ∷ statuses) k x ≡ x → x ≡ status
        → ((k : ℕ) (x : ℕ) → k < length statuses → slice_index_or statuses k x ≡ x → x ≡ status → is_status_among statuses status ≡ true)
        → is_status_among (s ∷ statuses) status ≡ true
    go zero x inside is e others = let same : s ≡ status = is ∙ e in rw (eq-eqb s status same) refl
    go (suc k) x inside is e others = or_right (s == status) (is_status_among statuses status) (others k x (omega (arith, inside)) is e)

-- a status that is not among some is none of them
pub refused : (statuses : List ℕ) (status : ℕ) → is_status_among statuses status ≡ false → IsOneOf statuses status → ⊥
refused statuses status none h = false≢true (sym none ∙ one_of statuses status h)

-- a status that is found among some is one of them
pub allowed : (statuses : List ℕ) (status : ℕ) → is_status_among statuses status ≡ true → IsOneOf statuses status
allowed [] status h = absurd (false≢true h)
allowed (s ∷ statuses) status h = go (s == status) refl (λ found. allowed statuses status found) h
  where
    go : (same : Bool) → (s == status) ≡ same → (is_status_among statuses status ≡ true → IsOneOf statuses status) → (s == status || is_status_among statuses status) ≡ true → IsOneOf (s ∷ statuses) status
    go true is others h = (0, s, omega arith, refl, eqb-true s status is)
    go false is others h = let found : is_status_among statuses status ≡ true = rw is at h in let rest = others found in (suc rest.0, rest.1, omega (arith, rest.2), rest.3, rest.4)

-- ---- sources and words

-- a source that tells a map `m` and two modules, `w` and `x`
abbrev pub three_files : List ℕ → List ℕ → List ℕ → Files
three_files m w x = map.from_entries ((codes "m", m) ∷ (codes "w", w) ∷ (codes "x", x) ∷ [])

-- the words that name the map and the first module, and those that name all
abbrev pub right_words : List (List ℕ)
right_words = codes "m" ∷ codes "w" ∷ []

abbrev pub three_words : List (List ℕ)
three_words = codes "m" ∷ codes "w" ∷ codes "x" ∷ []

abbrev pub right_paths : Paths
right_paths = record { map_path = codes "m"; module_paths = codes "w" ∷ [] }

abbrev pub three_paths : Paths
three_paths = record { map_path = codes "m"; module_paths = codes "w" ∷ codes "x" ∷ [] }

-- an input of one module, and of two
abbrev pub of_one : List ℕ → List ℕ → Input
of_one m w = record { map_bytes = m; modules = w ∷ [] }

abbrev pub of_two : List ℕ → List ℕ → List ℕ → Input
of_two m w x = record { map_bytes = m; modules = w ∷ x ∷ [] }

told : (m w x path : List ℕ) → map.get (three_files m w x) path ≡ map.find (slice_cmp nat_cmp) path ((codes "m", m) ∷ (codes "w", w) ∷ (codes "x", x) ∷ [])
told m w x path = map.get-from_entries nat_list_cmp_total ((codes "m", m) ∷ (codes "w", w) ∷ (codes "x", x) ∷ []) path

-- the words name the files
pub names : (m w x : List ℕ) → Names (Some (three_files m w x)) right_words (of_one m w)
names m w x = record {
  told = three_files m w x;
  tells = refl;
  paths = right_paths;
  are_paths = refl;
  bytes = (told m w x (codes "m"), (told m w x (codes "w"), tt));
}

pub names-two : (m w x : List ℕ) → Names (Some (three_files m w x)) three_words (of_two m w x)
names-two m w x = record {
  told = three_files m w x;
  tells = refl;
  paths = three_paths;
  are_paths = refl;
  bytes = (told m w x (codes "m"), (told m w x (codes "w"), (told m w x (codes "x"), tt)));
}

-- a source that tells one file of some name, and one that tells two
abbrev pub one_file : List ℕ → List ℕ → Files
one_file path bytes = map.from_entries ((path, bytes) ∷ [])

abbrev pub two_files : List ℕ → List ℕ → Files
two_files m w = map.from_entries ((codes "m", m) ∷ (codes "w", w) ∷ [])

-- one that has the map alone lacks the module, and one that has the module alone lacks the map
pub lacks_module : (bytes : List ℕ) → LacksFile (Some (one_file (codes "m") bytes)) right_words
lacks_module bytes = record { told = one_file (codes "m") bytes; tells = refl; paths = right_paths; are_paths = refl; lacks = (1, codes "w", omega arith, refl, map.get-from_entries nat_list_cmp_total ((codes "m", bytes) ∷ []) (codes "w")) }

pub lacks_map : (bytes : List ℕ) → LacksFile (Some (one_file (codes "w") bytes)) right_words
lacks_map bytes = record { told = one_file (codes "w") bytes; tells = refl; paths = right_paths; are_paths = refl; lacks = (0, codes "m", omega arith, refl, map.get-from_entries nat_list_cmp_total ((codes "w", bytes) ∷ []) (codes "m")) }

-- one that has the map and the first module lacks the second
pub lacks_second : (m w : List ℕ) → LacksFile (Some (two_files m w)) three_words
lacks_second m w = record { told = two_files m w; tells = refl; paths = three_paths; are_paths = refl; lacks = (2, codes "x", omega arith, refl, map.get-from_entries nat_list_cmp_total ((codes "m", m) ∷ (codes "w", w) ∷ []) (codes "x")) }
