-- What is kept of the calls of a source and of a sink.
use Rattle.std.proofs.Common.{◌≡◌, ℕ, zero, suc, ◌+◌, ◌<◌, ◌≤◌, ◌==◌, Bool, true, false, List, [], ◌∷◌, ◌++◌, length, map, take, get_or, Some, refl, sym, ap, ◌∙◌, subst, arith, append_assoc, append-nil}
use Rattle.std.specs.Prelude.{if◌then◌else◌, option_map, unwrap_or}
use Rattle.std.proofs.lemmas.List.{take_more, take_all, map-append, length-map}
use Rattle.std.proofs.lemmas.Bool.Decides.{Decides-eqb}
use Rattle.dwc_cli.specs.Calls.{Call, opening, passing, files_read, read_since, ReadsFewer, openings, last_opened, failures, has_failed, reads_on, idle_reads, FailsLast, ReadsPaths, ReadsFront, WritesUntilFailure}
use Rattle.dwc_cli.specs.Inputs.{Paths, paths_of, all_paths, named_paths}

-- ---- of a source

-- a file was opened, these bytes of it were read, and more may be read of it
pub record IsOpen (path bytes : List ℕ) (before now : List Call) : Type 0 where
  pub opened : openings now ≡ openings before ++ path ∷ []
  pub not_idle : idle_reads now ≡ idle_reads before
  pub well : failures now ≡ failures before
  pub reads_on : reads_on now ≡ true
  pub last : last_opened now ≡ Some path
  pub since : read_since now ≡ bytes
  pub ended : files_read now ≡ files_read before

pub IsOpen-begin : (path : List ℕ) (before now : List Call) → now ≡ opening path true ∷ before → IsOpen path [] before now
IsOpen-begin path before now is = record {
  opened = ap openings is;
  not_idle = ap idle_reads is;
  well = ap failures is;
  reads_on = ap reads_on is;
  last = ap last_opened is;
  since = ap read_since is;
  ended = ap files_read is;
}

-- a read that gives a byte at least
more-to_read : (count : ℕ) (buffer : List ℕ) (calls : List Call) → count ≤ length buffer → false ≡ (count == 0) → reads_on (passing (length buffer) (take count buffer) true ∷ calls) ≡ true
more-to_read zero buffer calls within e = cc
more-to_read (suc n) [] calls within e = absurd (omega (arith, within))
more-to_read (suc n) (b ∷ bs) calls within e = refl

-- and ends no file
not-ended : (count : ℕ) (buffer : List ℕ) (calls : List Call) → count ≤ length buffer → false ≡ (count == 0) → files_read (passing (length buffer) (take count buffer) true ∷ calls) ≡ files_read calls
not-ended zero buffer calls within e = cc
not-ended (suc n) [] calls within e = absurd (omega (arith, within))
not-ended (suc n) (b ∷ bs) calls within e = refl

idle-passing : (room : ℕ) (bytes : List ℕ) (well : Bool) (calls : List Call) → 0 < room → reads_on calls ≡ true → idle_reads (passing room bytes well ∷ calls) ≡ idle_reads calls
idle-passing zero bytes well calls some on = absurd (omega (arith, some))
idle-passing (suc room) bytes well calls some on = ap (λ b. if b then idle_reads calls else idle_reads calls + 1) on

-- a buffer from which something is taken
has-room : (count : ℕ) (buffer : List ℕ) → count ≤ length buffer → false ≡ (count == 0) → 0 < length buffer
has-room zero buffer within e = cc
has-room (suc n) buffer within e = omega (arith, within)

pub IsOpen-more : (path bytes : List ℕ) (before mid now : List Call) (count : ℕ) (buffer : List ℕ) → IsOpen path bytes before mid → now ≡ passing (length buffer) (take count buffer) true ∷ mid → count ≤ length buffer → false ≡ (count == 0) → IsOpen path (bytes ++ take count buffer) before now
IsOpen-more path bytes before mid now count buffer one is within some = record {
  opened = ap openings is ∙ one.opened;
  not_idle = ap idle_reads is ∙ idle-passing (length buffer) (take count buffer) true mid (has-room count buffer within some) one.reads_on ∙ one.not_idle;
  well = ap failures is ∙ one.well;
  reads_on = ap reads_on is ∙ more-to_read count buffer mid within some;
  last = ap last_opened is ∙ one.last;
  since = ap read_since is ∙ ap (λ bs. bs ++ take count buffer) one.since;
  ended = ap files_read is ∙ not-ended count buffer mid within some ∙ one.ended;
}

-- the file at a path could not be opened
pub ReadsPaths-shut : (path : List ℕ) (faults_before faults_now : ℕ) (before now : List Call) → now ≡ opening path false ∷ before → ReadsPaths 3 (path ∷ []) faults_before faults_now before now
ReadsPaths-shut path faults_before faults_now before now is = record {
  opened = ap openings is;
  not_idle = ap idle_reads is;
  failed = λ _. record { once = ap failures is; last = ap has_failed is };
  well = λ other. absurd (other refl);
  faultless = λ other. absurd (other refl);
}

-- a read failed
pub ReadsPaths-failed : (path bytes : List ℕ) (faults_before faults_now : ℕ) (before mid now : List Call) (room : ℕ) → 0 < room → IsOpen path bytes before mid → now ≡ passing room [] false ∷ mid → ReadsPaths 3 (path ∷ []) faults_before faults_now before now
ReadsPaths-failed path bytes faults_before faults_now before mid now room some one is = record {
  opened = ap openings is ∙ one.opened;
  not_idle = ap idle_reads is ∙ idle-passing room [] false mid some one.reads_on ∙ one.not_idle;
  failed = λ _. record { once = ap failures is ∙ ap (λ n. n + 1) one.well; last = ap has_failed is };
  well = λ other. absurd (other refl);
  faultless = λ other. absurd (other refl);
}

-- the last read was answered, and nothing failed
pub ReadsPaths-given : (status : ℕ) (path bytes : List ℕ) (faults_before faults_now : ℕ) (before mid now : List Call) (room : ℕ) (piece : List ℕ) → (status ≡ 3 → ⊥) → 0 < room → IsOpen path bytes before mid → now ≡ passing room piece true ∷ mid → faults_now ≡ faults_before → ReadsPaths status (path ∷ []) faults_before faults_now before now
ReadsPaths-given status path bytes faults_before faults_now before mid now room piece other some one is same = record {
  opened = ap openings is ∙ one.opened;
  not_idle = ap idle_reads is ∙ idle-passing room piece true mid some one.reads_on ∙ one.not_idle;
  failed = λ e. absurd (other e);
  well = λ _. ap failures is ∙ one.well;
  faultless = λ _. same;
}

pub last-passing : (path : List ℕ) (mid now : List Call) (room : ℕ) (piece : List ℕ) (well : Bool) → last_opened mid ≡ Some path → now ≡ passing room piece well ∷ mid → last_opened now ≡ Some path
last-passing path mid now room piece well last is = ap last_opened is ∙ last

-- a read that gives no byte ends the file
ended-at : (count : ℕ) (buffer : List ℕ) (calls : List Call) → 0 < length buffer → true ≡ (count == 0) → files_read (passing (length buffer) (take count buffer) true ∷ calls) ≡ files_read calls ++ read_since calls ∷ []
ended-at zero [] calls some e = absurd (omega (arith, some))
ended-at zero (b ∷ bs) calls some e = refl
ended-at (suc n) buffer calls some e = absurd (omega (arith, (Decides-eqb (suc n) 0).0 (sym e)))

pub files_read-whole : (path bytes : List ℕ) (before mid now : List Call) (count : ℕ) (buffer : List ℕ) → 0 < length buffer → IsOpen path bytes before mid → now ≡ passing (length buffer) (take count buffer) true ∷ mid → true ≡ (count == 0) → files_read now ≡ files_read before ++ bytes ∷ []
files_read-whole path bytes before mid now count buffer some one is none =
    ap files_read is ∙ ended-at count buffer mid some none ∙ ap (λ fs. fs ++ read_since mid ∷ []) one.ended ∙ ap (λ bs. files_read before ++ bs ∷ []) one.since

-- and one that gives more does not
pub files_read-cut : (path bytes : List ℕ) (before mid now : List Call) (count : ℕ) (buffer : List ℕ) → IsOpen path bytes before mid → now ≡ passing (length buffer) (take count buffer) true ∷ mid → count ≤ length buffer → false ≡ (count == 0) → files_read now ≡ files_read before
files_read-cut path bytes before mid now count buffer one is within some = ap files_read is ∙ not-ended count buffer mid within some ∙ one.ended

-- nothing is asked
pub ReadsPaths-none : (status : ℕ) (faults : ℕ) (calls : List Call) → (status ≡ 3 → ⊥) → ReadsPaths status [] faults faults calls calls
ReadsPaths-none status faults calls other = record {
  opened = sym (append-nil (openings calls));
  not_idle = refl;
  failed = λ e. absurd (other e);
  well = λ _. refl;
  faultless = λ _. refl;
}

-- other paths behind some, all of which were read
pub ReadsPaths-next : (status : ℕ) (first later : List (List ℕ)) (faults_before faults_mid faults_now : ℕ) (before mid now : List Call) → ReadsPaths 0 first faults_before faults_mid before mid → ReadsPaths status later faults_mid faults_now mid now → ReadsPaths status (first ++ later) faults_before faults_now before now
ReadsPaths-next status first later faults_before faults_mid faults_now before mid now one two =
    let not_three : 0 ≡ 3 → ⊥ = λ e. omega (arith, e) in
    record {
      opened = two.opened ∙ ap (λ ps. ps ++ later) one.opened ∙ append_assoc (openings before) first later;
      not_idle = two.not_idle ∙ one.not_idle;
      failed = λ e. record { once = (two.failed e).once ∙ ap (λ n. n + 1) (one.well not_three); last = (two.failed e).last };
      well = λ other. two.well other ∙ one.well not_three;
      faultless = λ other. two.faultless other ∙ one.faultless not_three;
    }

-- the same by a status that is not that of a failed read
pub ReadsPaths-status : (old new : ℕ) (paths : List (List ℕ)) (faults_before faults_now : ℕ) (before now : List Call) → (old ≡ 3 → ⊥) → (new ≡ 3 → ⊥) → ReadsPaths old paths faults_before faults_now before now → ReadsPaths new paths faults_before faults_now before now
ReadsPaths-status old new paths faults_before faults_now before now not_old not_new one = record {
  opened = one.opened;
  not_idle = one.not_idle;
  failed = λ e. absurd (not_new e);
  well = λ _. one.well not_old;
  faultless = λ _. one.faultless not_old;
}

-- all paths of a list
pub ReadsFront-all : (status : ℕ) (paths : List (List ℕ)) (faults_before faults_now : ℕ) (before now : List Call) → ReadsPaths status paths faults_before faults_now before now → ReadsFront status paths faults_before faults_now before now
ReadsFront-all status paths faults_before faults_now before now all = (length paths, subst (λ ps. ReadsPaths status ps faults_before faults_now before now) (sym (take_all (length paths) paths (omega arith))) all)

-- a path in front of a list of which a front was read
pub ReadsFront-behind : (status : ℕ) (path : List ℕ) (paths : List (List ℕ)) (faults_before faults_mid faults_now : ℕ) (before mid now : List Call) → ReadsPaths 0 (path ∷ []) faults_before faults_mid before mid → ReadsFront status paths faults_mid faults_now mid now → ReadsFront status (path ∷ paths) faults_before faults_now before now
ReadsFront-behind status path paths faults_before faults_mid faults_now before mid now one two =
    (suc two.0, ReadsPaths-next status (path ∷ []) (take two.0 paths) faults_before faults_mid faults_now before mid now one two.1)

pub ReadsFront-status : (old new : ℕ) (paths : List (List ℕ)) (faults_before faults_now : ℕ) (before now : List Call) → (old ≡ 3 → ⊥) → (new ≡ 3 → ⊥) → ReadsFront old paths faults_before faults_now before now → ReadsFront new paths faults_before faults_now before now
ReadsFront-status old new paths faults_before faults_now before now not_old not_new one = (one.0, ReadsPaths-status old new (take one.0 paths) faults_before faults_now before now not_old not_new one.1)

pub ReadsFront-none : (status : ℕ) (paths : List (List ℕ)) (faults : ℕ) (calls : List Call) → (status ≡ 3 → ⊥) → ReadsFront status paths faults faults calls calls
ReadsFront-none status paths faults calls other = (0, ReadsPaths-none status faults calls other)

-- the paths of so many things and of the next one
pub next-path : {A : Type 0} (path_of : A → List ℕ) (xs : List A) (i : ℕ) (x : A) → i < length xs → x ≡ get_or xs i x → map path_of (take i xs) ++ path_of x ∷ [] ≡ map path_of (take (i + 1) xs)
next-path path_of xs i x within is =
    sym (ap (map path_of) (take_more xs i x within) ∙ map-append path_of (take i xs) (get_or xs i x ∷ []) ∙ ap (λ y. map path_of (take i xs) ++ path_of y ∷ []) (sym is))

map-take : {A : Type 0} (path_of : A → List ℕ) (xs : List A) (i : ℕ) → map path_of (take i xs) ≡ take i (map path_of xs)
map-take path_of [] zero = refl
map-take path_of [] (suc i) = refl
map-take path_of (x ∷ xs) zero = refl
map-take path_of (x ∷ xs) (suc i) = ap (λ ps. path_of x ∷ ps) (map-take path_of xs i)

-- the paths of so many things are a front of all
pub ReadsFront-things : {A : Type 0} (path_of : A → List ℕ) (xs : List A) (i status faults_before faults_now : ℕ) (before now : List Call) → ReadsPaths status (map path_of (take i xs)) faults_before faults_now before now → ReadsFront status (map path_of xs) faults_before faults_now before now
ReadsFront-things path_of xs i status faults_before faults_now before now one = (i, subst (λ ps. ReadsPaths status ps faults_before faults_now before now) (map-take path_of xs i) one)

-- one more of some things was read
pub ReadsPaths-more : {A : Type 0} (path_of : A → List ℕ) (xs : List A) (i : ℕ) (x : A) (status faults_before faults_mid faults_now : ℕ) (before mid now : List Call) → i < length xs → x ≡ get_or xs i x → ReadsPaths 0 (map path_of (take i xs)) faults_before faults_mid before mid → ReadsPaths status (path_of x ∷ []) faults_mid faults_now mid now → ReadsPaths status (map path_of (take (i + 1) xs)) faults_before faults_now before now
ReadsPaths-more path_of xs i x status faults_before faults_mid faults_now before mid now within is one two =
    subst (λ ps. ReadsPaths status ps faults_before faults_now before now) (next-path path_of xs i x within is) (ReadsPaths-next status (map path_of (take i xs)) (path_of x ∷ []) faults_before faults_mid faults_now before mid now one two)

-- the bytes of one file more
pub files_read-more : {A : Type 0} (bytes_of : A → List ℕ) (xs : List A) (x : A) (before mid now : List Call) → files_read mid ≡ files_read before ++ map bytes_of xs → files_read now ≡ files_read mid ++ bytes_of x ∷ [] → files_read now ≡ files_read before ++ map bytes_of (xs ++ x ∷ [])
files_read-more bytes_of xs x before mid now first next =
    next ∙ ap (λ fs. fs ++ bytes_of x ∷ []) first ∙ append_assoc (files_read before) (map bytes_of xs) (bytes_of x ∷ []) ∙ ap (λ fs. files_read before ++ fs) (sym (map-append bytes_of xs (x ∷ [])))

-- a file behind some was too long, and there are more paths than files in front of it
pub ReadsFewer-cut : {A B : Type 0} (bytes_of : A → List ℕ) (path_of : B → List ℕ) (files : List A) (paths : List B) (i : ℕ) (before mid now : List Call) → files_read mid ≡ files_read before ++ map bytes_of files → files_read now ≡ files_read mid → length files ≡ i → i < length paths → ReadsFewer (length (map path_of paths)) before now
ReadsFewer-cut bytes_of path_of files paths i before mid now first same counted within =
    (map bytes_of files, same ∙ first, omega (arith, length-map files bytes_of, length-map paths path_of, counted, within))

-- the first file was too long
pub ReadsFewer-first : (count : ℕ) (before now : List Call) → files_read now ≡ files_read before → ReadsFewer (suc count) before now
ReadsFewer-first count before now same = ([], same ∙ sym (append-nil (files_read before)), omega arith)

-- fewer behind a file that was read
pub ReadsFewer-behind : (bytes : List ℕ) (count : ℕ) (before mid now : List Call) → files_read mid ≡ files_read before ++ bytes ∷ [] → ReadsFewer count mid now → ReadsFewer (suc count) before now
ReadsFewer-behind bytes count before mid now first fewer =
    (bytes ∷ fewer.0, fewer.1 ∙ ap (λ fs. fs ++ fewer.0) first ∙ append_assoc (files_read before) (bytes ∷ []) fewer.0, (let few = fewer.2 in omega (arith, few)))

-- all behind one
pub behind-one : (x : List ℕ) (xs before mid now : List (List ℕ)) → mid ≡ before ++ x ∷ [] → now ≡ mid ++ xs → now ≡ before ++ x ∷ xs
behind-one x xs before mid now first next = next ∙ ap (λ ys. ys ++ xs) first ∙ append_assoc before (x ∷ []) xs

-- all paths of some things were opened
pub openings-all : {A : Type 0} (path_of : A → List ℕ) (xs : List A) (i : ℕ) (before now : List Call) → length xs ≤ i → openings now ≡ openings before ++ map path_of (take i xs) → openings now ≡ openings before ++ map path_of xs
openings-all path_of xs i before now past is = is ∙ ap (λ ys. openings before ++ map path_of ys) (take_all i xs past)

-- the message of a path that was opened last
pub named-last : (message_of : List ℕ → List ℕ) (calls : List Call) (path message : List ℕ) → last_opened calls ≡ Some path → message ≡ message_of path → option_map message_of (last_opened calls) ≡ Some message
named-last message_of calls path message last is = ap (option_map message_of) last ∙ ap Some (sym is)

-- the paths that are read are those that the words name
pub ReadsFront-named : (words : List (List ℕ)) (p : Paths) (status result faults_before faults_now : ℕ) (before now : List Call) → paths_of words ≡ Some p → result ≡ status → ReadsFront status (all_paths p) faults_before faults_now before now → ReadsFront result (named_paths words) faults_before faults_now before now
ReadsFront-named words p status result faults_before faults_now before now is_p same one =
    let named : named_paths words ≡ all_paths p = ap (λ o. unwrap_or (option_map all_paths o) []) is_p in
    subst (λ s. ReadsFront s (named_paths words) faults_before faults_now before now) (sym same) (subst (λ ps. ReadsFront status ps faults_before faults_now before now) (sym named) one)

-- ---- of a sink

-- a write failed
pub FailsLast-passing : (before mid now : List Call) (room : ℕ) → failures mid ≡ failures before → now ≡ passing room [] false ∷ mid → FailsLast before now
FailsLast-passing before mid now room well is = record { once = ap failures is ∙ ap (λ n. n + 1) well; last = ap has_failed is }

-- nothing is asked
pub WritesUntilFailure-none : (status faults : ℕ) (calls : List Call) → (status ≡ 8 → ⊥) → WritesUntilFailure status faults faults calls calls
WritesUntilFailure-none status faults calls other = record { failed = λ e. absurd (other e); well = λ _. refl; faultless = λ _. refl }

-- all is written
pub WritesUntilFailure-all : (status faults_before faults_now : ℕ) (before now : List Call) → (status ≡ 8 → ⊥) → faults_now ≡ faults_before → failures now ≡ failures before → WritesUntilFailure status faults_before faults_now before now
WritesUntilFailure-all status faults_before faults_now before now other same well = record { failed = λ e. absurd (other e); well = λ _. well; faultless = λ _. same }

-- a write failed
pub WritesUntilFailure-failed : (status faults_before faults_now : ℕ) (before now : List Call) → status ≡ 8 → failures now ≡ failures before + 1 → has_failed now ≡ true → WritesUntilFailure status faults_before faults_now before now
WritesUntilFailure-failed status faults_before faults_now before now eight once last = record { failed = λ _. record { once = once; last = last }; well = λ other. absurd (other eight); faultless = λ other. absurd (other eight) }
