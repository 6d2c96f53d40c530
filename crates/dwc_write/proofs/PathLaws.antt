-- Names of line tables of version 5 that are laid out in the order of first use: one more name, names one behind another, and where they
-- stand. What stands once among others: `paths-among`, `paths-plain`.
use Rattle.std.proofs.Common.{◌≡◌, ℕ, zero, suc, ◌+◌, ◌<◌, ◌≤◌, refl, sym, ap, subst, ◌∙◌, arith, List, [], ◌∷◌, ◌++◌, append_assoc, append-nil, length, length-append, map, drop, get_or, Bool, true, false, Some, None, Ok, Err}
use Rattle.std.specs.Prelude.{Result, ◌||◌, if◌then◌else◌}
use Rattle.std.specs.List.{All, list_any, position}
use Rattle.std.specs.Str.{bytes_eq}
use Rattle.std.proofs.lemmas.Slice.Eq.{bytes_eq-Decides}
use Rattle.std.proofs.lemmas.List.{drop_all}
use Rattle.std.proofs.lemmas.List.Elements.{All-head, All-tail, All-cons, All-nil, All-push}
use Rattle.std.proofs.lemmas.List.Quantifiers.{position-Some}
use Rattle.std.proofs.lemmas.List.Sums.{fails_before_first, fold-append}
use Rattle.dwc_dwarf.specs.LineHeaders.{LineFile}
use Rattle.dwc_dwarf.specs.TreeLaws.{texts_ended, with_new_text}
use Rattle.dwc_output.specs.NewWidest.{names_in}
use Rattle.dwc_output.specs.Versions.{files_written}
use Rattle.dwc_section.specs.declared.error.WriteError.{WriteError}
use Rattle.dwc_section.specs.declared.error.WriteError.TheVariants.{TooLarge, InvalidFrameCodeOffset, InvalidFrameDataOffset, OutOfMemory}
use Rattle.dwc_base.specs.declared.section_name.SectionName.TheVariants.{LineStr}
use Rattle.dwc_section.specs.Writers.{most_bytes, section_of}
use Rattle.dwc_section.proofs.RefusalLaws.{past-limit, past-more}
use Rattle.dwc_texts.proofs.TextSets.{known-text, new-place, new-use}
use Rattle.dwc_unit.specs.TextTables.{IsText}
use Rattle.dwc_write.specs.declared.line_names.LineNames.{LineNames}
use Rattle.dwc_write.specs.PathTables.{with_paths, place_of_path, AreAmong}
use Rattle.dwc_write.specs.PathViews.{places_of_paths, IsPathLayout, IsPathRefusal, UsesPaths}
use Rattle.dwc_write.specs.TextViews.{BehindText}

-- ---- one name

ended-both : (a b : List (List ℕ)) → texts_ended (a ++ b) ≡ texts_ended a ++ texts_ended b
ended-both [] b = refl
ended-both (t ∷ ts) b = ap (λ bytes. (t ++ 0 ∷ []) ++ bytes) (ended-both ts b) ∙ sym (append_assoc (t ++ 0 ∷ []) (texts_ended ts) (texts_ended b))

length-more : (ts : List (List ℕ)) (name : List ℕ) → length (texts_ended (ts ++ name ∷ [])) ≡ length (texts_ended ts) + length (name ++ 0 ∷ [])
length-more ts name = ap length (ended-both ts (name ∷ []) ∙ ap (λ bytes. texts_ended ts ++ bytes) (append-nil (name ++ 0 ∷ []))) ∙ length-append (texts_ended ts) (name ++ 0 ∷ [])

places-more : (ts : List (List ℕ)) (place : ℕ) (name : List ℕ) → places_of_paths place (ts ++ name ∷ []) ≡ places_of_paths place ts ++ (place + length (texts_ended ts)) ∷ []
places-more [] place name = ap (λ p. p ∷ []) (omega arith)
places-more (t ∷ ts) place name =
    let next = place + length (t ++ 0 ∷ []) in
    let on : next + length (texts_ended ts) ≡ place + length (texts_ended (t ∷ ts)) = omega (arith, length-append (t ++ 0 ∷ []) (texts_ended ts)) in
    ap (λ ps. place ∷ ps) (places-more ts next name ∙ ap (λ p. places_of_paths next ts ++ p ∷ []) on)

-- A name that is there.
pub path-known : (l : LineNames) (name : List ℕ) (place : ℕ) → IsPathLayout l → Some place ≡ position (bytes_eq name) l.texts → (l.texts ≡ with_new_text l.texts name) × IsPathLayout l
path-known l name place laid found = (known-text name l.texts place found, laid)

-- A name that is new stands behind the others.
pub path-added : (l v : LineNames) (name : List ℕ) (behind : ℕ) → IsPathLayout l → None ≡ position (bytes_eq name) l.texts → v.texts ≡ with_new_text l.texts name → v.offsets.items ≡ l.offsets.items ++ l.length ∷ [] → v.length ≡ behind
    → behind ≡ l.length + length (name ++ 0 ∷ []) → behind ≤ most_bytes → (v.texts ≡ with_new_text l.texts name) × IsPathLayout v
path-added l v name behind laid free texts offsets long is small =
    let more : v.texts ≡ l.texts ++ name ∷ [] = texts ∙ sym (new-use name l.texts free) in
    let before = laid.long in
    let at : l.length ≡ 0 + length (texts_ended l.texts) = omega (arith, before) in (
      texts,
      record {
        places = offsets ∙ ap (λ ps. ps ++ l.length ∷ []) laid.places ∙ ap (λ p. places_of_paths 0 l.texts ++ p ∷ []) at ∙ sym (places-more l.texts 0 name) ∙ ap (places_of_paths 0) (sym more);
        long = long ∙ is ∙ ap (λ k. k + length (name ++ 0 ∷ [])) before ∙ sym (length-more l.texts name) ∙ ap (λ ts. length (texts_ended ts)) (sym more);
        short = omega (arith, long, small);
      },
    )

-- One that is too long.
pub path-refused : (e : WriteError) (l : LineNames) (name : List ℕ) → IsPathLayout l → None ≡ position (bytes_eq name) l.texts → BehindText (Err e) LineStr l.length name → IsPathRefusal e (length (texts_ended (with_paths l.texts (name ∷ []))))
path-refused OutOfMemory l name laid free refused = absurd refused
path-refused (InvalidFrameCodeOffset symbol) l name laid free refused = absurd refused
path-refused (InvalidFrameDataOffset symbol) l name laid free refused = absurd refused
path-refused (TooLarge what) l name laid free refused =
    let before = laid.long in
    let long : length (texts_ended (with_new_text l.texts name)) ≡ length (texts_ended l.texts) + length (name ++ 0 ∷ []) = ap (λ ts. length (texts_ended ts)) (sym (new-use name l.texts free)) ∙ length-more l.texts name in
    past-limit LineStr _ _ (section_of what) (λ large. omega (arith, large, long, before)) refused

-- the error of a call
pub paths-exit : (result : Result (Unit {0}) WriteError) (e : WriteError) (old now : LineNames) (names : List (List ℕ)) → ((error : WriteError) × (result ≡ Err error) × (error ≡ e)) → IsPathRefusal e (length (texts_ended (with_paths old.texts names))) → UsesPaths old now result names
paths-exit result e old now names p refused =
    let is : result ≡ Err e = p.1 ∙ ap Err p.2 in
    rw (is) refused

-- ---- several

one-longer : (before : List (List ℕ)) (name : List ℕ) → length (texts_ended before) ≤ length (texts_ended (with_new_text before name))
one-longer before name = go (list_any (bytes_eq name) before)
  where
    go : (b : Bool) → length (texts_ended before) ≤ length (texts_ended (if b then before else before ++ name ∷ []))
    go true = omega arith
    go false = omega (arith, length-more before name)

pub paths-longer : (names before : List (List ℕ)) → length (texts_ended before) ≤ length (texts_ended (with_paths before names))
paths-longer [] before = omega arith
paths-longer (n ∷ ns) before = omega (arith, one-longer before n, paths-longer ns (with_new_text before n))

pub refused-longer : (e : WriteError) (n total : ℕ) → IsPathRefusal e n → n ≤ total → IsPathRefusal e total
refused-longer e n total refused less = past-more LineStr LineStr n total e refl (λ large. omega (arith, large, less)) refused

-- The first of some names are used, and with those that are left all of them are.
pub record IsNaming (names : List (List ℕ)) (i : ℕ) (start l : LineNames) : Type 0 where
  pub used : with_paths l.texts (drop i names) ≡ with_paths start.texts names
  pub laid : IsPathLayout l

pub naming-start : (names : List (List ℕ)) (l : LineNames) → IsPathLayout l → IsNaming names 0 l l
naming-start names l laid = record { used = refl; laid = laid }

-- the name at a place
pub name-there : {A B : Type 0} (f : A → B) (xs : List A) (i : ℕ) (d : A) → i < length xs → drop i (map f xs) ≡ f (get_or xs i d) ∷ drop (i + 1) (map f xs)
name-there f [] i d within = absurd (omega arith)
name-there f (x ∷ xs) zero d within = refl
name-there f (x ∷ xs) (suc i) d within =
    let one : suc i + 1 ≡ suc (i + 1) = omega arith in
    name-there f xs i d (omega arith) ∙ ap (λ j. f (get_or xs i d) ∷ drop j (map f (x ∷ xs))) (sym one)

pub directory-there : (xs : List (List ℕ)) (i : ℕ) (d : List ℕ) → i < length xs → drop i xs ≡ get_or xs i d ∷ drop (i + 1) xs
directory-there [] i d within = absurd (omega arith)
directory-there (x ∷ xs) zero d within = refl
directory-there (x ∷ xs) (suc i) d within =
    let one : suc i + 1 ≡ suc (i + 1) = omega arith in
    directory-there xs i d (omega arith) ∙ ap (λ j. get_or xs i d ∷ drop j (x ∷ xs)) (sym one)

pub naming-more : (names : List (List ℕ)) (i : ℕ) (name : List ℕ) (start l v : LineNames) → drop i names ≡ name ∷ drop (i + 1) names → IsNaming names i start l → (v.texts ≡ with_paths l.texts (name ∷ [])) × IsPathLayout v → IsNaming names (i + 1) start v
naming-more names i name start l v there on step = record {
  used = ap (λ ts. with_paths ts (drop (i + 1) names)) step.0 ∙ ap (with_paths l.texts) (sym there) ∙ on.used;
  laid = step.1;
}

pub naming-refused : (names : List (List ℕ)) (i : ℕ) (name : List ℕ) (start l : LineNames) (e : WriteError) → drop i names ≡ name ∷ drop (i + 1) names → IsNaming names i start l → IsPathRefusal e (length (texts_ended (with_paths l.texts (name ∷ []))))
    → IsPathRefusal e (length (texts_ended (with_paths start.texts names)))
naming-refused names i name start l e there on refused =
    let whole : with_paths (with_new_text l.texts name) (drop (i + 1) names) ≡ with_paths start.texts names = ap (with_paths l.texts) (sym there) ∙ on.used in
    refused-longer e _ _ refused (omega (arith, paths-longer (drop (i + 1) names) (with_new_text l.texts name), ap (λ ts. length (texts_ended ts)) whole))

pub naming-done : (names : List (List ℕ)) (i : ℕ) (start l : LineNames) → length names ≤ i → IsNaming names i start l → (l.texts ≡ with_paths start.texts names) × IsPathLayout l
naming-done names i start l past on = (ap (with_paths l.texts) (sym (drop_all i names past)) ∙ on.used, on.laid)

-- ---- the names of a table

same-bytes : (name : List ℕ) → bytes_eq name name ≡ true
same-bytes name = (bytes_eq-Decides name name).1 refl

there-now : (before : List (List ℕ)) (name : List ℕ) → list_any (bytes_eq name) (with_new_text before name) ≡ true
there-now before name = go (list_any (bytes_eq name) before) refl
  where
    last : (xs : List (List ℕ)) → list_any (bytes_eq name) (xs ++ name ∷ []) ≡ true
    last [] = ap (λ b. b || false) (same-bytes name)
    last (x ∷ xs) = step (bytes_eq name x) (last xs)
      where
        step : (b : Bool) → list_any (bytes_eq name) (xs ++ name ∷ []) ≡ true → (b || list_any (bytes_eq name) (xs ++ name ∷ [])) ≡ true
        step true h = refl
        step false h = h

    go : (b : Bool) → list_any (bytes_eq name) before ≡ b → list_any (bytes_eq name) (if b then before else before ++ name ∷ []) ≡ true
    go true e = e
    go false e = last before

pub kept-one : (before : List (List ℕ)) (name other : List ℕ) → list_any (bytes_eq other) before ≡ true → list_any (bytes_eq other) (with_new_text before name) ≡ true
kept-one before name other there = go (list_any (bytes_eq name) before)
  where
    more : (xs ys : List (List ℕ)) → list_any (bytes_eq other) xs ≡ true → list_any (bytes_eq other) (xs ++ ys) ≡ true
    more [] ys h = absurd (cc)
    more (x ∷ xs) ys h = step (bytes_eq other x) h (more xs ys)
      where
        step : (b : Bool) → (b || list_any (bytes_eq other) xs) ≡ true → (list_any (bytes_eq other) xs ≡ true → list_any (bytes_eq other) (xs ++ ys) ≡ true) → (b || list_any (bytes_eq other) (xs ++ ys)) ≡ true
        step true h others = refl
        step false h others = others h

    go : (b : Bool) → list_any (bytes_eq other) (if b then before else before ++ name ∷ []) ≡ true
    go true = there
    go false = more before (name ∷ []) there

pub kept-all : (names before : List (List ℕ)) (other : List ℕ) → list_any (bytes_eq other) before ≡ true → list_any (bytes_eq other) (with_paths before names) ≡ true
kept-all [] before other there = there
kept-all (n ∷ ns) before other there = kept-all ns (with_new_text before n) other (kept-one before n other there)

-- Names that are used are among those that stand there, and stay so.
pub paths-among : (names before : List (List ℕ)) → AreAmong (with_paths before names) names
paths-among [] before = All-nil _
paths-among (n ∷ ns) before = All-cons (λ m. list_any (bytes_eq m) (with_paths before (n ∷ ns)) ≡ true) n ns (kept-all ns (with_new_text before n) n (there-now before n)) (paths-among ns (with_new_text before n))

pub among-later : (names more before : List (List ℕ)) → AreAmong before names → AreAmong (with_paths before more) names
among-later names more before among = λ k d within. kept-all more before (get_or names k d) (among k d within)

-- Without zeros, they stand there without zeros.
pub paths-plain : (names before : List (List ℕ)) → All IsText before → All IsText names → All IsText (with_paths before names)
paths-plain [] before plain given = plain
paths-plain (n ∷ ns) before plain given = paths-plain ns (with_new_text before n) (go (list_any (bytes_eq n) before)) (All-tail IsText n ns given)
  where
    go : (b : Bool) → All IsText (if b then before else before ++ n ∷ [])
    go true = plain
    go false = All-push IsText before n plain (All-head IsText n ns given)

twice : (before : List (List ℕ)) (name : List ℕ) → with_new_text (with_new_text before name) name ≡ with_new_text before name
twice before name = ap (λ b. if b then with_new_text before name else with_new_text before name ++ name ∷ []) (there-now before name)

first-twice : (before : List (List ℕ)) (files : List LineFile) → with_paths before (map (λ f. f.name) (files_written 5 files)) ≡ with_paths before (map (λ f. f.name) files)
first-twice before [] = refl
first-twice before (f ∷ fs) = ap (λ ts. with_paths ts (map (λ f. f.name) fs)) (twice before f.name)

-- Those of a table: its compilation directory, its directories, and its files, of which the first stands twice.
pub table-names : (before : List (List ℕ)) (own : List ℕ) (directories : List (List ℕ)) (files : List LineFile)
    → with_paths before (names_in own directories files) ≡ with_paths (with_paths (with_paths before (own ∷ [])) directories) (map (λ f. f.name) files)
table-names before own directories files =
    fold-append with_new_text (with_new_text before own) directories (map (λ f. f.name) (files_written 5 files)) ∙ first-twice (with_paths (with_new_text before own) directories) files

-- what a table's first call refuses, all refuse, and what its later ones do, all do
pub table-refused : (e : WriteError) (before : List (List ℕ)) (own : List ℕ) (directories : List (List ℕ)) (files : List LineFile) → IsPathRefusal e (length (texts_ended (with_paths before (own ∷ []))))
    → IsPathRefusal e (length (texts_ended (with_paths before (names_in own directories files))))
table-refused e before own directories files refused =
    let one = with_paths before (own ∷ []) in
    let two = with_paths one directories in
    refused-longer e _ _ refused (omega (arith, paths-longer directories one, paths-longer (map (λ f. f.name) files) two, ap (λ ts. length (texts_ended ts)) (table-names before own directories files)))

pub directories-refused : (e : WriteError) (old now : LineNames) (own : List ℕ) (directories : List (List ℕ)) (files : List LineFile) → now.texts ≡ with_paths old.texts (own ∷ []) → IsPathRefusal e (length (texts_ended (with_paths now.texts directories)))
    → IsPathRefusal e (length (texts_ended (with_paths old.texts (names_in own directories files))))
directories-refused e old now own directories files is refused =
    let two = with_paths now.texts directories in
    let same = ap (λ ts. with_paths (with_paths ts directories) (map (λ f. f.name) files)) is in
    refused-longer e _ _ refused (omega (arith, paths-longer (map (λ f. f.name) files) two, ap (λ ts. length (texts_ended ts)) (same ∙ sym (table-names old.texts own directories files))))

pub uses-then : (old mid now : LineNames) (result : Result (Unit {0}) WriteError) (names total : List (List ℕ)) → with_paths old.texts total ≡ with_paths mid.texts names → UsesPaths mid now result names → UsesPaths old now result total
uses-then old mid now (Ok done) names total same used = (used.0 ∙ sym same, used.1)
uses-then old mid now (Err e) names total same refused = subst (λ ts. IsPathRefusal e (length (texts_ended ts))) (sym same) refused

-- ---- where they stand

place-at : (ts : List (List ℕ)) (place i : ℕ) (name : List ℕ) (d : ℕ) → i < length ts → bytes_eq name (get_or ts i []) ≡ true → ((k : ℕ) → k < i → bytes_eq name (get_or ts k []) ≡ false) → get_or (places_of_paths place ts) i d ≡ place_of_path place ts name
place-at [] place i name d within is others = absurd (omega arith)
place-at (t ∷ ts) place zero name d within is others = sym (ap (λ b. if b then place else place_of_path (place + length (t ++ 0 ∷ [])) ts name) is)
place-at (t ∷ ts) place (suc i) name d within is others =
    place-at ts (place + length (t ++ 0 ∷ [])) i name d (omega arith) is (λ k less. others (suc k) (omega arith))
    ∙ sym (ap (λ b. if b then place else place_of_path (place + length (t ++ 0 ∷ [])) ts name) (others 0 (omega arith)))

place-none : (ts : List (List ℕ)) (place : ℕ) (name : List ℕ) → ((k : ℕ) → k < length ts → bytes_eq name (get_or ts k []) ≡ false) → place_of_path place ts name ≡ place + length (texts_ended ts)
place-none [] place name others = omega arith
place-none (t ∷ ts) place name others =
    let next = place + length (t ++ 0 ∷ []) in
    ap (λ b. if b then place else place_of_path next ts name) (others 0 (omega arith))
    ∙ place-none ts next name (λ k less. others (suc k) (omega arith))
    ∙ omega (arith, length-append (t ++ 0 ∷ []) (texts_ended ts))

pub places-length : (ts : List (List ℕ)) (place : ℕ) → length (places_of_paths place ts) ≡ length ts
places-length [] place = refl
places-length (t ∷ ts) place = ap suc (places-length ts (place + length (t ++ 0 ∷ [])))

-- A name that is found, and one that is not.
pub path-found : (l : LineNames) (name : List ℕ) (i : ℕ) → IsPathLayout l → Some i ≡ position (bytes_eq name) l.texts → (i < length l.offsets.items) × ((d : ℕ) → get_or l.offsets.items i d ≡ place_of_path 0 l.texts name)
path-found l name i laid found =
    let at = position-Some (bytes_eq name) l.texts i [] (sym found) in
    let within = at.0 in
    let places = laid.places in
    (omega (arith, within, ap length places, places-length l.texts 0), λ d. ap (λ ps. get_or ps i d) places ∙ place-at l.texts 0 i name d within at.1 at.2)

pub path-lacking : (l : LineNames) (name : List ℕ) → IsPathLayout l → None ≡ position (bytes_eq name) l.texts → l.length ≡ place_of_path 0 l.texts name
path-lacking l name laid none =
    let all = new-place name l.texts none in
    let before = laid.long in
    let place = place-none l.texts 0 name (λ k less. fails_before_first (bytes_eq name) l.texts k [] (omega (arith, all, less))) in
    omega (arith, before, place)
