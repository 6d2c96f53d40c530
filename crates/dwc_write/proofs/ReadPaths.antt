-- Names in line tables of version 5 are read again. `path-read`: a name that stands among texts is read at its place. `directories-read`
-- and `files-read`: the lists of a header. `own-read`: directory 0, looked up.
use Rattle.std.proofs.Common.{◌≡◌, ℕ, zero, suc, ◌+◌, ◌-◌, ◌*◌, ◌^◌, ◌<◌, ◌≤◌, refl, sym, ap, subst, ◌∙◌, arith, lit<, List, [], ◌∷◌, ◌++◌, append_assoc, length, length-append, get_or, map, drop, Option, Some, None, Ok, Bool, true, false, eqb}
use Rattle.std.specs.Prelude.{◌==◌, ◌||◌, ◌&&◌, nat_lt, not, if◌then◌else◌}
use Rattle.std.specs.List.{All, flat_map, list_any}
use Rattle.std.specs.Str.{bytes_eq}
use Rattle.std.proofs.lemmas.Bool.{ne_eqb}
use Rattle.std.proofs.lemmas.Slice.Eq.{bytes_eq-Decides}
use Rattle.std.proofs.lemmas.List.{drop-drop, get_or-map, length-map}
use Rattle.std.proofs.lemmas.List.Elements.{All-head, All-tail, All-cons, All-nil, All-weaker}
use Rattle.std.proofs.Math.Seq.{drop-append_seam}
use Rattle.dwc_base.specs.declared.records.Endian.{Endian}
use Rattle.dwc_base.specs.declared.constants.TheConstants.{DW_FORM_implicit_const}
use Rattle.dwc_base.specs.Reading as reading
use Rattle.dwc_base.specs.Reading.{Unread, Read, ◌>>=◌, uleb_at, counted_at}
use Rattle.dwc_base.specs.Spelling.{Spells, unread_at}
use Rattle.dwc_base.specs.NumberBytes.{number_bytes, uleb_bytes}
use Rattle.dwc_dwarf.specs.Values.{text_reference, constant, constant_value, sized_number_at, formed_value_at, form_code_at, encoded_value_at}
use Rattle.dwc_dwarf.specs.Texts.{text_in, text_elsewhere, path_text}
use Rattle.dwc_dwarf.specs.TreeLaws.{texts_ended}
use Rattle.dwc_dwarf.specs.LineHeaders.{LineFile, LineSource, EntryFormat, entry_format_at, entry_formats_at, has_one_path, entry_count_at, field_spec, entry_field_at, entry_fields_at, no_fields, file_entry_at, directory_entry_at, directories_of_5_at, files_of_5_at}
use Rattle.dwc_section.specs.Spelled.{SpellsAt, at_places}
use Rattle.dwc_section.specs.Writers.{most_bytes}
use Rattle.dwc_unit.specs.TextTables.{IsText}
use Rattle.dwc_unit.specs.SpelledLines.{FitsFile}
use Rattle.dwc_write.specs.PathTables.{place_of_path, AreAmong, path_bytes, path_file_bytes, directory_formats, file_formats, path_directories_bytes, path_files_bytes, FitsPaths}
use Rattle.dwc_base.proofs.Spellings.{Spells-uleb}
use Rattle.dwc_section.proofs.ReadNumbers.{number_bytes-length, uleb_bytes-length}
use Rattle.dwc_unit.proofs.ReadParts.{here, anywhere, behind, last, nothing, tested, seen, Spells-number_bytes, Spells-uleb_bytes, Spells-byte, text_at-front}
use Rattle.dwc_write.proofs.ReadTexts.{StandsThere}

-- ---- where names stand

pub path-bound : (texts : List (List ℕ)) (place : ℕ) (name : List ℕ) → place_of_path place texts name ≤ place + length (texts_ended texts)
path-bound [] place name = omega arith
path-bound (t ∷ ts) place name = go (bytes_eq name t) (path-bound ts (place + length (t ++ 0 ∷ [])) name)
  where
    go : (b : Bool) → place_of_path (place + length (t ++ 0 ∷ [])) ts name ≤ (place + length (t ++ 0 ∷ [])) + length (texts_ended ts)
        → (if b then place else place_of_path (place + length (t ++ 0 ∷ [])) ts name) ≤ place + length (texts_ended (t ∷ ts))
    go true less = omega arith
    go false less = omega (arith, less, length-append (t ++ 0 ∷ []) (texts_ended ts))

path-there : (texts : List (List ℕ)) (place : ℕ) (name : List ℕ) → list_any (bytes_eq name) texts ≡ true → (place ≤ place_of_path place texts name) × StandsThere (texts_ended texts) name (place_of_path place texts name - place)
path-there [] place name there = absurd (cc)
path-there (t ∷ ts) place name there = go (bytes_eq name t) refl there (path-there ts next name)
  where
    one : List ℕ
    one = t ++ 0 ∷ []

    next : ℕ
    next = place + length one

    go : (b : Bool) → bytes_eq name t ≡ b → (b || list_any (bytes_eq name) ts) ≡ true → (list_any (bytes_eq name) ts ≡ true → (next ≤ place_of_path next ts name) × StandsThere (texts_ended ts) name (place_of_path next ts name - next))
        → (place ≤ (if b then place else place_of_path next ts name)) × StandsThere (texts_ended (t ∷ ts)) name ((if b then place else place_of_path next ts name) - place)
    go true e h others =
        let same : name ≡ t = (bytes_eq-Decides name t).0 e in
        let first : place - place ≡ 0 = omega arith in
        (omega arith, record { rest = texts_ended ts; there = ap (λ i. drop i (texts_ended (t ∷ ts))) first ∙ append_assoc t (0 ∷ []) (texts_ended ts) ∙ ap (λ x. x ++ (0 ∷ texts_ended ts)) (sym same) })
    go false e h others =
        let on = others h in
        let p = place_of_path next ts name in
        let less = on.0 in
        let at : p - place ≡ length one + (p - next) = omega (arith, less) in
        (omega (arith, less), record { rest = on.1.rest; there = ap (λ i. drop i (one ++ texts_ended ts)) at ∙ sym (drop-drop (p - next) (length one) (one ++ texts_ended ts)) ∙ ap (drop (p - next)) (drop-append_seam one (texts_ended ts)) ∙ on.1.there })

-- what is among texts without zeros has none
among-plain : (texts : List (List ℕ)) (name : List ℕ) → All IsText texts → list_any (bytes_eq name) texts ≡ true → IsText name
among-plain [] name plain there = absurd (cc)
among-plain (t ∷ ts) name plain there = go (bytes_eq name t) refl there (among-plain ts name (All-tail IsText t ts plain))
  where
    go : (b : Bool) → bytes_eq name t ≡ b → (b || list_any (bytes_eq name) ts) ≡ true → (list_any (bytes_eq name) ts ≡ true → IsText name) → IsText name
    go true e h others = subst IsText (sym ((bytes_eq-Decides name t).0 e)) (All-head IsText t ts plain)
    go false e h others = others h

-- A name that stands among texts is read at its place.
pub path-read : (order : Endian) (texts : List (List ℕ)) (name : List ℕ) → All IsText texts → list_any (bytes_eq name) texts ≡ true → text_in order (texts_ended texts) (place_of_path 0 texts name) ≡ Ok name
path-read order texts name plain there =
    let p = place_of_path 0 texts name in
    let found = path-there texts 0 name there in
    let none : p ≡ p - 0 = omega arith in
    let stands : drop p (texts_ended texts) ≡ name ++ (0 ∷ found.1.rest) = ap (λ i. drop i (texts_ended texts)) none ∙ found.1.there in
    let read = ap (λ bytes. reading.text_at (unread_at order p bytes)) stands ∙ text_at-front order p name found.1.rest (among-plain texts name plain there) in
    ap (λ r. r >>= λ text. Ok text.0) read

-- ---- lists of a number of things

pub counted-reads : {A B : Type 0} (order : Endian) (item : Unread → Read B) (spell : A → List ℕ) (at : ℕ → A → B) (xs : List A) (place : ℕ) → All (λ x. (p : ℕ) → SpellsAt order p item (spell x) (at p x)) xs
    → SpellsAt order place (counted_at (length xs) item) (flat_map spell xs) (at_places spell (λ p x. at p x ∷ []) place xs)
unfolding counted_at
counted-reads order item spell at [] place each = nothing
counted-reads order item spell at (x ∷ xs) place each =
    behind _ (All-head (λ x. (p : ℕ) → SpellsAt order p item (spell x) (at p x)) x xs each place)
    (last _ (counted-reads order item spell at xs (place + length (spell x)) (All-tail (λ x. (p : ℕ) → SpellsAt order p item (spell x) (at p x)) x xs each)) (λ u. refl))

alone : {A : Type 0} (spell : A → List ℕ) (xs : List A) (place : ℕ) → at_places spell (λ p x. x ∷ []) place xs ≡ xs
alone spell [] place = refl
alone spell (x ∷ xs) place = ap (λ ys. x ∷ ys) (alone spell xs (place + length (spell x)))

pub counted-same : {A : Type 0} (order : Endian) (item : Unread → Read A) (spell : A → List ℕ) (xs : List A) (place : ℕ) → All (λ x. (p : ℕ) → SpellsAt order p item (spell x) x) xs
    → SpellsAt order place (counted_at (length xs) item) (flat_map spell xs) xs
counted-same order item spell xs place each = subst (λ ys. SpellsAt order place (counted_at (length xs) item) (flat_map spell xs) ys) (alone spell xs place) (counted-reads order item spell (λ p x. x) xs place each)

-- ---- formats

abbrev pub path_format : EntryFormat
path_format = record { content = 1; form = 31 }

abbrev pub directory_format : EntryFormat
directory_format = record { content = 2; form = 15 }

Spells-format : (order : Endian) (content form : ℕ) → Spells order uleb_at (content ∷ []) content → Spells order uleb_at (form ∷ []) form → (form == DW_FORM_implicit_const) ≡ false
    → Spells order entry_format_at (content ∷ form ∷ []) (record { content = content; form = form })
unfolding entry_format_at
Spells-format order content form first second given =
    anywhere (λ place. behind _ {bs = content ∷ []} (here place first) (behind _ {bs = form ∷ []} (here _ second) (tested _ _ _ given nothing)))

abbrev format_bytes : EntryFormat → List ℕ
format_bytes f = f.content ∷ f.form ∷ []

abbrev IsFormat : Endian → EntryFormat → Type 0
IsFormat order f = (place : ℕ) → SpellsAt order place entry_format_at (format_bytes f) f

path-format : (order : Endian) → IsFormat order path_format
path-format order = λ place. here place (Spells-format order 1 31 (Spells-uleb order (1 ∷ []) 1 refl (lit< tt)) (Spells-uleb order (31 ∷ []) 31 refl (lit< tt)) refl)

directory-format : (order : Endian) → IsFormat order directory_format
directory-format order = λ place. here place (Spells-format order 2 15 (Spells-uleb order (2 ∷ []) 2 refl (lit< tt)) (Spells-uleb order (15 ∷ []) 15 refl (lit< tt)) refl)

pub Spells-directory_formats : (order : Endian) → Spells order entry_formats_at directory_formats (path_format ∷ [])
unfolding entry_formats_at
Spells-directory_formats order =
    let all = All-cons (IsFormat order) path_format [] (path-format order) (All-nil (IsFormat order)) in
    anywhere (λ place. behind _ {bs = 1 ∷ []} (here place (Spells-byte order 1)) (counted-same order entry_format_at format_bytes (path_format ∷ []) _ all))

pub Spells-file_formats : (order : Endian) → Spells order entry_formats_at file_formats (path_format ∷ directory_format ∷ [])
unfolding entry_formats_at
Spells-file_formats order =
    let one = All-cons (IsFormat order) directory_format [] (directory-format order) (All-nil (IsFormat order)) in
    let all = All-cons (IsFormat order) path_format (directory_format ∷ []) (path-format order) one in
    anywhere (λ place. behind _ {bs = 2 ∷ []} (here place (Spells-byte order 2)) (counted-same order entry_format_at format_bytes (path_format ∷ directory_format ∷ []) _ all))

-- how many entries there are
Spells-entry_count : (order : Endian) (formats : List EntryFormat) (n : ℕ) → has_one_path formats ≡ true → n < 2 ^ 64 → Spells order (entry_count_at formats) (uleb_bytes n) n
unfolding entry_count_at
Spells-entry_count order formats n has small =
    let none : (nat_lt 0 n && not (has_one_path formats)) ≡ false = rw (has) (none-of (nat_lt 0 n)) in
    anywhere (λ place. last _ (here place (Spells-uleb_bytes order n small)) (λ u. rw (none) refl))
  where
    none-of : (b : Bool) → (b && false) ≡ false
    none-of true = refl
    none-of false = refl

-- ---- entries

-- the texts of a source have these names
abbrev pub Holds : LineSource → List (List ℕ) → Type 0
Holds s texts = s.texts.line_strings ≡ texts_ended texts

module _ (s : LineSource) (size : ℕ) (order : Endian) (texts : List (List ℕ)) (fits : FitsPaths texts) (holds : Holds s texts) where
  path-small : (name : List ℕ) → place_of_path 0 texts name < 256 ^ 4
  path-small name =
      let short = fits.short in
      omega (arith, path-bound texts 0 name, short)

  -- the value of a name
  pub path-value : (place : ℕ) (name : List ℕ) → SpellsAt order place (encoded_value_at s.relocations (record { version = 5; address_size = size }) (field_spec path_format)) (path_bytes order texts name) (text_reference 31 (place_of_path 0 texts name))
  unfolding encoded_value_at form_code_at formed_value_at sized_number_at
  path-value place name = seen (text_reference 31) (here place (Spells-number_bytes order 4 (place_of_path 0 texts name) (path-small name)))

  -- that of the number of a directory
  pub directory-value : (place n : ℕ) → n < 2 ^ 64 → SpellsAt order place (encoded_value_at s.relocations (record { version = 5; address_size = size }) (field_spec directory_format)) (uleb_bytes n) (constant 15 n)
  unfolding encoded_value_at form_code_at formed_value_at sized_number_at
  directory-value place n small = seen (constant_value 5 0 15) (here place (Spells-uleb_bytes order n small))

  path-elsewhere : (name : List ℕ) → list_any (bytes_eq name) texts ≡ true → text_elsewhere s.texts 31 (place_of_path 0 texts name) ≡ Ok name
  unfolding text_elsewhere
  path-elsewhere name there = ap (λ bytes. text_in s.texts.order bytes (place_of_path 0 texts name)) holds ∙ path-read s.texts.order texts name fits.plain there

  -- a name that is looked up, and one that is not
  path-looked : (place : ℕ) (name : List ℕ) (f : LineFile) → list_any (bytes_eq name) texts ≡ true → SpellsAt order place (entry_field_at s size true path_format f) (path_bytes order texts name) (record { directory = f.directory; name = name })
  unfolding entry_field_at path_text
  path-looked place name f there = let found = path-elsewhere name there in last _ (path-value place name) (λ u. rw (found) refl)

  path-passed : (place : ℕ) (name : List ℕ) (f : LineFile) → SpellsAt order place (entry_field_at s size false path_format f) (path_bytes order texts name) (record { directory = f.directory; name = [] })
  unfolding entry_field_at path_text
  path-passed place name f = last _ (path-value place name) (λ u. refl)

  directory-field : (place n : ℕ) (f : LineFile) → n < 2 ^ 64 → SpellsAt order place (entry_field_at s size true directory_format f) (uleb_bytes n) (record { directory = n; name = f.name })
  unfolding entry_field_at
  directory-field place n f small = last _ (directory-value place n small) (λ u. refl)

  -- Directory 0, looked up.
  pub own-read : (place : ℕ) (name : List ℕ) → list_any (bytes_eq name) texts ≡ true → SpellsAt order place (entry_fields_at s size true (path_format ∷ []) no_fields) (path_bytes order texts name) (record { directory = 0; name = name })
  unfolding entry_fields_at
  own-read place name there = last _ (path-looked place name no_fields there) (λ u. refl)

  own-passed : (place : ℕ) (name : List ℕ) → SpellsAt order place (entry_fields_at s size false (path_format ∷ []) no_fields) (path_bytes order texts name) no_fields
  unfolding entry_fields_at
  own-passed place name = last _ (path-passed place name no_fields) (λ u. refl)

  directory-read : (place : ℕ) (name : List ℕ) → list_any (bytes_eq name) texts ≡ true → SpellsAt order place (directory_entry_at s size (path_format ∷ [])) (path_bytes order texts name) name
  directory-read place name there = seen (λ d. d.name) (own-read place name there)

  file-read : (place : ℕ) (f : LineFile) → list_any (bytes_eq f.name) texts ≡ true → f.directory < 2 ^ 64 → SpellsAt order place (file_entry_at s size (path_format ∷ directory_format ∷ [])) (path_file_bytes order texts f) f
  unfolding entry_fields_at
  file-read place f there small = behind _ (path-looked place f.name no_fields there) (last _ (directory-field _ f.directory _ small) (λ u. refl))

  -- The directories of a header from number 1 on.
  pub directories-read : (place : ℕ) (own : List ℕ) (names : List (List ℕ)) → AreAmong texts (own ∷ names) → length (own ∷ names) < 2 ^ 64
      → SpellsAt order place (directories_of_5_at s size) (path_directories_bytes order texts (own ∷ names)) names
  unfolding directories_of_5_at
  directories-read place own names among few =
      let among_rest = All-tail (λ name. list_any (bytes_eq name) texts ≡ true) own names among in
      let each = All-weaker (λ name. list_any (bytes_eq name) texts ≡ true) (λ name. (p : ℕ) → SpellsAt order p (directory_entry_at s size (path_format ∷ [])) (path_bytes order texts name) name) (λ name there p. directory-read p name there) names among_rest in
      let some : eqb (length (own ∷ names)) 0 ≡ false = ne_eqb _ _ (λ e. absurd (omega (arith, e))) in
      let one : length (own ∷ names) - 1 ≡ length names = omega arith in
      behind _ (here place (Spells-directory_formats order))
      (behind _ (here _ (Spells-entry_count order (path_format ∷ []) (length (own ∷ names)) refl few))
      (rw (some) (behind _ (own-passed _ own) (rw (one) (counted-same order (directory_entry_at s size (path_format ∷ [])) (path_bytes order texts) names _ each)))))

  -- Its files.
  pub files-read : (place : ℕ) (files : List LineFile) → AreAmong texts (map (λ f. f.name) files) → All FitsFile files → length files < 2 ^ 64
      → SpellsAt order place (files_of_5_at s size) (path_files_bytes order texts files) files
  unfolding files_of_5_at
  files-read place files among given few =
      let each : All (λ f. (p : ℕ) → SpellsAt order p (file_entry_at s size (path_format ∷ directory_format ∷ [])) (path_file_bytes order texts f) f) files =
      λ k d within. λ p. file-read p (get_or files k d) (named k d within) (given k d within).directory in
      behind _ (here place (Spells-file_formats order))
      (behind _ (here _ (Spells-entry_count order (path_format ∷ directory_format ∷ []) (length files) refl few))
      (counted-same order (file_entry_at s size (path_format ∷ directory_format ∷ [])) (path_file_bytes order texts) files _ each))
    where
      named : (k : ℕ) (d : LineFile) → k < length files → list_any (bytes_eq (get_or files k d).name) texts ≡ true
      named k d within = ap (λ name. list_any (bytes_eq name) texts) (sym (get_or-map (λ f. f.name) files k d d.name within)) ∙ among k d.name (omega (arith, within, length-map {B = List ℕ} files (λ f. f.name)))
