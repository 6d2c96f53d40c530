-- Calls that write the parts of a line table of version 5, one behind another: `put-then`, `writes-same`, and the steps of loops.
use Rattle.std.proofs.Common.{◌≡◌, ℕ, suc, ◌+◌, ◌<◌, ◌≤◌, refl, sym, ap, subst, ◌∙◌, arith, List, [], ◌∷◌, ◌++◌, append_assoc, length, length-append, get_or, drop, Ok, Err}
use Rattle.std.specs.Prelude.{Result}
use Rattle.std.specs.List.{flat_map}
use Rattle.std.proofs.lemmas.List.{drop_all}
use Rattle.dwc_base.specs.declared.records.Endian.{Endian}
use Rattle.dwc_base.specs.Outputs.{OutputRelocation}
use Rattle.dwc_base.specs.NumberBytes.{uleb_bytes, uleb_bytes_within}
use Rattle.dwc_dwarf.specs.LineHeaders.{LineFile}
use Rattle.dwc_output.specs.Versions.{files_written}
use Rattle.dwc_section.specs.declared.error.WriteError.{WriteError}
use Rattle.dwc_section.specs.Writers.{Writing, Writes, Refuses, appended}
use Rattle.dwc_write.specs.PathTables.{file_formats, path_file_bytes, path_files_bytes, path_relocations, path_files_relocations}
use Rattle.dwc_write.specs.PathViews.{files_relocations_at}
use Rattle.dwc_section.proofs.WritesLaws.{whole, whole-more, whole-refused, whole-done, whole-order, length-behind, order-behind, writes-then, first-refused}

-- the same bytes and relocations by other names
pub writes-same : (a c : Writing) (result : Result (Unit {0}) WriteError) (x y : List ℕ) (r s : List OutputRelocation) → x ≡ y → r ≡ s → Writes a c result x r → Writes a c result y s
writes-same a c result x y r s bytes relocations h = subst (λ b. Writes a c result b s) bytes (subst (λ q. Writes a c result x q) relocations h)

-- what a call writes behind what is there, in the order and at the place that are known from the begin
pub put-then : (spell : Endian → List ℕ) (at : Endian → ℕ → List OutputRelocation) (a b c : Writing) (x : List ℕ) (r : List OutputRelocation) (result : Result (Unit {0}) WriteError) → b ≡ appended x r a
    → Writes b c result (spell b.order) (at b.order (length b.body)) → Writes a c result (x ++ spell a.order) (r ++ at a.order (length a.body + length x))
put-then spell at a b c x r result first second =
    let order = order-behind a b x r first in
    let place = length-behind a b x r first in
    writes-then a b c x (spell a.order) _ r (at a.order (length a.body + length x)) _ result first
    (writes-same b c result _ _ _ _ (ap spell order) (ap (λ o. at o (length b.body)) order ∙ ap (at a.order) place) second) refl refl

-- ---- loops

module _ {A : Type 0} (spell : Endian → A → List ℕ) (at : ℕ → A → List OutputRelocation) (xs : List A) (i : ℕ) where
  pub step-more : (x : A) (a w v : Writing) → drop i xs ≡ x ∷ drop (i + 1) xs → whole (spell a.order) at (drop i xs) w ≡ whole (spell a.order) at xs a → v ≡ appended (spell w.order x) (at (length w.body) x) w
      → whole (spell a.order) at (drop (i + 1) xs) v ≡ whole (spell a.order) at xs a
  step-more x a w v there invariant step =
      let order = whole-order (spell a.order) at (drop i xs) xs w a invariant in
      whole-more (spell a.order) at x (drop (i + 1) xs) w v _ (ap (λ ys. whole (spell a.order) at ys w) (sym there) ∙ invariant) (step ∙ ap (λ o. appended (spell o x) (at (length w.body) x) w) order)

  pub step-refused : (x : A) (a w now : Writing) (result : Result (Unit {0}) WriteError) (e : WriteError) (rs : List OutputRelocation) → drop i xs ≡ x ∷ drop (i + 1) xs → whole (spell a.order) at (drop i xs) w ≡ whole (spell a.order) at xs a
      → ((error : WriteError) × (result ≡ Err error) × (error ≡ e)) → Refuses e w (length (spell w.order x)) → Writes a now result (flat_map (spell a.order) xs) rs
  step-refused x a w now result e rs there invariant p refused =
      let order = whole-order (spell a.order) at (drop i xs) xs w a invariant in
      let P : Endian → Type 0 = λ o. Refuses e w (length (spell o x)) in
      let later = whole-refused (spell a.order) at x (drop (i + 1) xs) xs w a e (ap (λ ys. whole (spell a.order) at ys w) (sym there) ∙ invariant) (subst P order refused) in
      let is : result ≡ Err e = p.1 ∙ ap Err p.2 in
      rw (is) later

  pub step-done : (a w : Writing) → length xs ≤ i → whole (spell a.order) at (drop i xs) w ≡ whole (spell a.order) at xs a → w ≡ whole (spell a.order) at xs a
  step-done a w past invariant = whole-done (spell a.order) at w _ (ap (λ ys. whole (spell a.order) at ys w) (sym (drop_all i xs past)) ∙ invariant)

-- ---- files

-- none
pub none-written : (texts : List (List ℕ)) (a b c : Writing) (result : Result (Unit {0}) WriteError) (files : List LineFile) → length files ≡ 0 → b ≡ appended file_formats [] a → Writes b c result (0 ∷ []) []
    → Writes a c result (path_files_bytes a.order texts (files_written 5 files)) (files_relocations_at a.order texts (length a.body) (files_written 5 files))
unfolding uleb_bytes uleb_bytes_within
none-written texts a b c result [] none first second = put-then (λ o. 0 ∷ []) (λ o p. []) a b c file_formats [] result first second
none-written texts a b c result (f ∷ fs) none first second = absurd (omega (arith, none))

abbrev pub no_file : LineFile
no_file = record { directory = 0; name = [] }

-- a file by what its calls answer
pub is-file : (fs : List LineFile) (i : ℕ) (n : List ℕ) (d : ℕ) → n ≡ (get_or fs i no_file).name → d ≡ (get_or fs i no_file).directory → record { directory = d; name = n } ≡ get_or fs i no_file
is-file fs i n d named numbered = ap (λ k. record { directory = k; name = n }) numbered ∙ ap (λ m. record { directory = (get_or fs i no_file).directory; name = m }) named

module _ (texts : List (List ℕ)) (a b v : Writing) (files : List LineFile) (some : 0 < length files) (first : b ≡ appended file_formats [] a) (second : v ≡ appended (uleb_bytes (suc (length files))) [] b) where
  counted : v ≡ appended (file_formats ++ uleb_bytes (suc (length files))) [] a
  counted = put-then (λ o. uleb_bytes (suc (length files))) (λ o p. []) a b v file_formats [] (Ok tt) first second

  -- what the first of some is refused for
  pub first-file-refused : (now : Writing) (result : Result (Unit {0}) WriteError) (e : WriteError) (f : LineFile) (rs : List OutputRelocation) → f ≡ get_or files 0 no_file → ((error : WriteError) × (result ≡ Err error) × (error ≡ e)) → Refuses e v (length (path_file_bytes v.order texts f))
      → Writes a now result (path_files_bytes a.order texts (files_written 5 files)) rs
  first-file-refused now result e f rs is p refused =
      let all = put-then (λ o. path_file_bytes o texts f) (λ o q. []) a v now (file_formats ++ uleb_bytes (suc (length files))) [] (Err e) counted refused in
      first-refused result e a now _ rs _ p all (less files is some)
    where
      less : (fs : List LineFile) → f ≡ get_or fs 0 no_file → 0 < length fs → length ((file_formats ++ uleb_bytes (suc (length fs))) ++ path_file_bytes a.order texts f) ≤ length (path_files_bytes a.order texts (files_written 5 fs))
      less [] is some = absurd (omega (arith, some))
      less (g ∷ gs) is some =
          let bytes = path_file_bytes a.order texts f in
          let count = uleb_bytes (suc (length (g ∷ gs))) in
          let same = ap (λ h. length (path_file_bytes a.order texts h)) is in
          let rest = flat_map (path_file_bytes a.order texts) (g ∷ gs) in
          omega (arith, same, length-append (file_formats ++ count) bytes, length-append file_formats count, length-append count (path_file_bytes a.order texts g ++ rest), length-append (path_file_bytes a.order texts g) rest)

  -- some
  pub some-written : (w c : Writing) (result : Result (Unit {0}) WriteError) (f : LineFile) → f ≡ get_or files 0 no_file → w ≡ appended (path_file_bytes v.order texts f) (path_relocations texts (length v.body) f.name) v
      → Writes w c result (flat_map (path_file_bytes w.order texts) files) (path_files_relocations w.order texts (length w.body) files)
      → Writes a c result (path_files_bytes a.order texts (files_written 5 files)) (files_relocations_at a.order texts (length a.body) (files_written 5 files))
  some-written w c result f is third fourth =
      let front = file_formats ++ uleb_bytes (suc (length files)) in
      let three : w ≡ appended (front ++ path_file_bytes a.order texts f) (path_relocations texts (length a.body + length front) f.name) a = put-then (λ o. path_file_bytes o texts f) (λ o p. path_relocations texts p f.name) a v w front [] (Ok tt) counted third in
      let all = put-then (λ o. flat_map (path_file_bytes o texts) files) (λ o p. path_files_relocations o texts p files) a w c (front ++ path_file_bytes a.order texts f) (path_relocations texts (length a.body + length front) f.name) result three fourth in
      go files is some all
    where
      go : (fs : List LineFile) → f ≡ get_or fs 0 no_file → 0 < length fs
          → Writes a c result (((file_formats ++ uleb_bytes (suc (length fs))) ++ path_file_bytes a.order texts f) ++ flat_map (path_file_bytes a.order texts) fs) (path_relocations texts (length a.body + length (file_formats ++ uleb_bytes (suc (length fs)))) f.name ++ path_files_relocations a.order texts (length a.body + length ((file_formats ++ uleb_bytes (suc (length fs))) ++ path_file_bytes a.order texts f)) fs)
          → Writes a c result (path_files_bytes a.order texts (files_written 5 fs)) (files_relocations_at a.order texts (length a.body) (files_written 5 fs))
      go [] is some all = absurd (omega (arith, some))
      go (g ∷ gs) is some all =
          let count = uleb_bytes (suc (length (g ∷ gs))) in
          let bytes = path_file_bytes a.order texts g in
          let rest = flat_map (path_file_bytes a.order texts) (g ∷ gs) in
          let p : ℕ = length a.body + length (file_formats ++ count) in
          let q : ℕ = length a.body + length ((file_formats ++ count) ++ bytes) in
          let r : ℕ = length a.body + (5 + length count) in
          let place : p ≡ r = omega (arith, length-append file_formats count) in
          let next : q ≡ r + length bytes = omega (arith, length-append file_formats count, length-append (file_formats ++ count) bytes) in
          let same = subst (λ h. Writes a c result (((file_formats ++ count) ++ path_file_bytes a.order texts h) ++ rest) (path_relocations texts p h.name ++ path_files_relocations a.order texts (length a.body + length ((file_formats ++ count) ++ path_file_bytes a.order texts h)) (g ∷ gs))) is all in
          writes-same a c result _ _ _ _
          (append_assoc (file_formats ++ count) bytes rest ∙ append_assoc file_formats count (bytes ++ rest))
          (ap (λ k. path_relocations texts k g.name ++ path_files_relocations a.order texts q (g ∷ gs)) place ∙ ap (λ k. path_relocations texts r g.name ++ path_files_relocations a.order texts k (g ∷ gs)) next)
          same
