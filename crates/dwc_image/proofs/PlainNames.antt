-- The names that stand in the header of a line table hold no zero.
use Rattle.std.proofs.Common.{◌≡◌, ◌≢◌, get_or, length-take, ℕ, zero, suc, ◌<◌, ◌+◌, subst, refl, arith, List, [], ◌∷◌, length, take, drop, Bool, true, false, Option, Some, None, Result, Ok, Err, All}
use Rattle.std.specs.Prelude.{◌-◌, ◌==◌, ◌&&◌, ◌||◌, nat_lt, if◌then◌else◌}
use Rattle.std.specs.List.{position}
use Rattle.std.proofs.lemmas.List.Elements.{All-nil, All-cons}
use Rattle.std.proofs.lemmas.List.{get_or-take}
use Rattle.std.proofs.lemmas.List.Quantifiers.{position-Some}
use Rattle.std.proofs.lemmas.Bool.{eqb-false}
use Rattle.dwc_base.specs.declared.constants.TheConstants.{DW_LNCT_path, DW_LNCT_directory_index, DW_FORM_data4, DW_AT_stmt_list}
use Rattle.dwc_base.specs.declared.records.Endian.{Endian}
use Rattle.dwc_base.specs.declared.records.Encoding.{Encoding}
use Rattle.dwc_base.specs.declared.faults.Flaw.{Flaw}
use Rattle.dwc_base.specs.declared.faults.Flaw.TheVariants.{EndsEarly, Malformed}
use Rattle.dwc_base.specs.Abbreviations.{AttributeSpec}
use Rattle.dwc_base.specs.Reading.{Unread, Read, ◌>>=◌, passed, text_at, uleb_at, seen_as, counted_at}
use Rattle.dwc_base.specs.Sections.{Relocation}
use Rattle.dwc_dwarf.specs.Values.{Value, constant, text, text_reference, line_reference, range_reference, location_reference, dropped, Form, addr, indexed_addr, blocks, exprloc, data_of, sdata, implicit, flag_byte, flag_present, string, string_elsewhere, reference, ref_addr, sec_offset, indexed_location, indexed_range, passed_over, supplementary, form_of, is_location_name, is_range_name, is_expression_name, section_offset, formed_value_at, form_code_at, encoded_value_at}
use Rattle.dwc_dwarf.specs.Texts.{TextSource, text_in, offset_of_text, texts_of_form, text_elsewhere, path_text}
use Rattle.dwc_dwarf.specs.LineHeaders.{LineFile, LineSource, directory_at, file_behind, file_at, EntryFormat, entry_formats_at, entry_count_at, directory_or, with_field, field_spec, entry_field_at, entry_fields_at, no_fields, file_entry_at, directory_entry_at, directories_of_5_at, files_of_5_at}

-- ---- what holds of what was read, if it was

abbrev pub HoldsOf : {A : Type 0} → (A → Type 0) → Result A Flaw → Type 0
HoldsOf P (Err flaw) = Unit {0}
HoldsOf P (Ok x) = P x

pub record Holds {A : Type 0} (P : A → Type 0) (r : Result A Flaw) : Type 0 where
  pub of : HoldsOf P r

module _ {A B : Type 0} (Q : B → Type 0) where
  pub holds-behind : (P : A → Type 0) (r : Result A Flaw) (f : A → Result B Flaw) → Holds P r → ((x : A) → P x → Holds Q (f x)) → Holds Q (r >>= f)
  holds-behind P (Err flaw) f h next = record { of = tt }
  holds-behind P (Ok x) f h next = next x h.of

  pub holds-any : (r : Result A Flaw) (f : A → Result B Flaw) → ((x : A) → Holds Q (f x)) → Holds Q (r >>= f)
  holds-any (Err flaw) f next = record { of = tt }
  holds-any (Ok x) f next = next x

  pub holds-seen : (P : A → Type 0) (make : A → B) (r : Read A) → Holds (λ x. P x.0) r → ((x : A) → P x → Q (make x)) → Holds (λ y. Q y.0) (seen_as make r)
  holds-seen P make (Err flaw) h next = record { of = tt }
  holds-seen P make (Ok x) h next = record { of = next x.0 h.of }

  pub any-seen : (make : A → B) (r : Read A) → ((x : A) → Q (make x)) → Holds (λ y. Q y.0) (seen_as make r)
  any-seen make (Err flaw) next = record { of = tt }
  any-seen make (Ok x) next = record { of = next x.0 }

pub holds-is : {A : Type 0} (P : A → Type 0) (r : Result A Flaw) (x : A) → Holds P r → r ≡ Ok x → P x
holds-is P (Err flaw) x h e = absurd (cc)
holds-is P (Ok y) x h e = let same : y ≡ x = cc in subst P same h.of

-- each of so many things that were read
counted-each : {A : Type 0} (P : A → Type 0) (count : ℕ) (thing : Unread → Read A) (u : Unread) → ((v : Unread) → Holds (λ x. P x.0) (thing v)) → Holds (λ xs. All P xs.0) (counted_at count thing u)
unfolding counted_at
counted-each P zero thing u each = record { of = All-nil P }
counted-each P (suc count) thing u each =
    holds-behind (λ xs. All P xs.0) (λ x. P x.0) (thing u) _ (each u)
    (λ first p. holds-behind (λ xs. All P xs.0) (λ xs. All P xs.0) (counted_at count thing first.1) _ (counted-each P count thing first.1 each) (λ others q. record { of = All-cons P first.0 others.0 p q }))

-- ---- texts

-- the bytes before the first zero hold none
before-zero : (xs : List ℕ) (n : ℕ) → position (λ b. b == 0) xs ≡ Some n → All (λ b. 0 < b) (take n xs)
before-zero xs n h = λ k d inside.
    let p = position-Some (λ b. b == 0) xs n d h in
    let below : k < n = omega (arith, length-take n xs) in
    let some : get_or xs k d ≢ 0 = eqb-false (get_or xs k d) 0 (p.2 k below) in
    rw (get_or-take n xs k d below) (omega (arith, some))

-- a text holds no zero
pub record IsPlain (name : List ℕ) : Type 0 where
  pub plain : All (λ b. 0 < b) name

pub text-plain : (u : Unread) → Holds (λ x. IsPlain x.0) (text_at u)
unfolding text_at
text-plain u = go (position (λ b. b == 0) u.left) refl
  where
    go : (o : Option ℕ) → position (λ b. b == 0) u.left ≡ o → Holds (λ x. IsPlain x.0) (let r : Read (List ℕ) = elim o [ None ↦ Err EndsEarly | Some n ↦ Ok (take n u.left, passed (n + 1) u) ] in r)
    go None is = record { of = tt }
    go (Some n) is = record { of = record { plain = before-zero u.left n is } }

-- a file's name holds no zero
pub record IsPlainFile (f : LineFile) : Type 0 where
  pub name : IsPlain f.name

-- ---- directories and files to version 4

abbrev pub IsSome : {A : Type 0} → (A → Type 0) → Option A → Type 0
IsSome P None = Unit {0}
IsSome P (Some x) = P x

pub directory-plain : (u : Unread) → Holds (λ x. IsSome IsPlain x.0) (directory_at u)
unfolding directory_at
directory-plain u = holds-behind (λ x. IsSome IsPlain x.0) (λ x. IsPlain x.0) (text_at u) _ (text-plain u) (λ name p. record { of = go name.0 (length name.0 == 0) p })
  where
    go : (name : List ℕ) (b : Bool) → IsPlain name → IsSome IsPlain (if b then None else Some name)
    go name true p = tt
    go name false p = p

pub behind-name : (name : List ℕ) (u : Unread) → IsPlain name → Holds (λ x. IsPlainFile x.0) (file_behind name u)
unfolding file_behind
behind-name name u p = holds-any _ (uleb_at u) _ (λ directory. holds-any _ (uleb_at directory.1) _ (λ time. holds-any _ (uleb_at time.1) _ (λ size. record { of = record { name = p } })))

pub file-plain : (u : Unread) → Holds (λ x. IsSome IsPlainFile x.0) (file_at u)
unfolding file_at
file-plain u = holds-behind (λ x. IsSome IsPlainFile x.0) (λ x. IsPlain x.0) (text_at u) _ (text-plain u) (λ name p. go (length name.0 == 0) name p)
  where
    go : (b : Bool) (name : List ℕ × Unread) → IsPlain name.0
        → Holds {A = Option LineFile × Unread} (λ x. IsSome IsPlainFile x.0) (elim b [ true ↦ Ok (None, name.1) | false ↦ (file_behind name.0 name.1 >>= λ file. Ok (Some file.0, file.1)) ])
    go true name p = record { of = tt }
    go false name p = holds-behind (λ x. IsSome IsPlainFile x.0) (λ x. IsPlainFile x.0) (file_behind name.0 name.1) _ (behind-name name.0 name.1 p) (λ file q. record { of = q })

-- ---- values

-- a value that is a text holds no zero
abbrev pub IsPlainValue : Value → Type 0
IsPlainValue (text bytes) = IsPlain bytes
IsPlainValue _ = Unit {0}

offset-plain : (a b c : Bool) (n : ℕ) → IsPlainValue (if a then location_reference n else (if b then line_reference n else (if c then range_reference n else dropped)))
offset-plain true b c n = tt
offset-plain false true c n = tt
offset-plain false false true n = tt
offset-plain false false false n = tt

section-plain : (name n : ℕ) → IsPlainValue (section_offset name n)
section-plain name n = offset-plain (is_location_name name) (name == DW_AT_stmt_list) (is_range_name name) n

either-plain : (b : Bool) (v w : Value) → IsPlainValue v → IsPlainValue w → IsPlainValue (if b then v else w)
either-plain true v w p q = p
either-plain false v w p q = q

formed-plain : (relocations : List Relocation) (e : Encoding) (spec : AttributeSpec) (code : ℕ) (form : Form) (u : Unread) → Holds (λ x. IsPlainValue x.0) (formed_value_at relocations e spec code form u)
unfolding formed_value_at
formed-plain relocations e spec code addr u = any-seen IsPlainValue _ _ (λ x. tt)
formed-plain relocations e spec code (indexed_addr size) u = any-seen IsPlainValue _ _ (λ x. tt)
formed-plain relocations e spec code (blocks size) u = any-seen IsPlainValue _ _ (λ x. either-plain (is_expression_name spec.name) _ _ tt tt)
formed-plain relocations e spec code exprloc u = any-seen IsPlainValue _ _ (λ x. tt)
formed-plain relocations e spec code (data_of size) u =
    any-seen IsPlainValue _ _ (λ x. either-plain ((code == DW_FORM_data4) && nat_lt e.version 4 && (is_location_name spec.name || (spec.name == DW_AT_stmt_list) || is_range_name spec.name)) _ (constant code x) (section-plain spec.name x) tt)
formed-plain relocations e spec code sdata u = any-seen IsPlainValue _ _ (λ x. tt)
formed-plain relocations e spec code implicit u = record { of = tt }
formed-plain relocations e spec code flag_byte u = any-seen IsPlainValue _ _ (λ x. tt)
formed-plain relocations e spec code flag_present u = record { of = tt }
formed-plain relocations e spec code string u = holds-seen IsPlainValue IsPlain text (text_at u) (text-plain u) (λ x p. p)
formed-plain relocations e spec code (string_elsewhere size) u = any-seen IsPlainValue _ _ (λ x. tt)
formed-plain relocations e spec code (reference size) u = any-seen IsPlainValue _ _ (λ x. tt)
formed-plain relocations e spec code ref_addr u = any-seen IsPlainValue _ _ (λ x. tt)
formed-plain relocations e spec code sec_offset u = any-seen IsPlainValue _ _ (λ x. section-plain spec.name x)
formed-plain relocations e spec code indexed_location u = any-seen IsPlainValue _ _ (λ x. either-plain (is_location_name spec.name) _ _ tt tt)
formed-plain relocations e spec code indexed_range u = any-seen IsPlainValue _ _ (λ x. either-plain (is_range_name spec.name) _ _ tt tt)
formed-plain relocations e spec code (passed_over size) u = any-seen IsPlainValue _ _ (λ x. tt)
formed-plain relocations e spec code supplementary u = record { of = tt }

value-plain : (relocations : List Relocation) (e : Encoding) (spec : AttributeSpec) (u : Unread) → Holds (λ x. IsPlainValue x.0) (encoded_value_at relocations e spec u)
unfolding encoded_value_at
value-plain relocations e spec u = holds-any _ (form_code_at spec u) _ (λ code. go code.0 code.1 (form_of code.0))
  where
    go : (code : ℕ) (v : Unread) (o : Option Form) → Holds (λ x. IsPlainValue x.0) (let r : Read Value = elim o [ None ↦ Err Malformed | Some form ↦ formed_value_at relocations e spec code form v ] in r)
    go code v None = record { of = tt }
    go code v (Some form) = formed-plain relocations e spec code form v

-- ---- directories and files of version 5

text_in-plain : (order : Endian) (section : List ℕ) (offset : ℕ) → Holds IsPlain (text_in order section offset)
text_in-plain order section offset = holds-behind IsPlain (λ x. IsPlain x.0) (text_at (record { order = order; place = offset; left = drop offset section })) _ (text-plain _) (λ found p. record { of = p })

elsewhere-plain : (s : TextSource) (form n : ℕ) → Holds IsPlain (text_elsewhere s form n)
unfolding text_elsewhere
elsewhere-plain s form n = go (texts_of_form s form)
  where
    go : (o : Option (List ℕ)) → Holds IsPlain (let r : Result (List ℕ) Flaw = elim o [ Some section ↦ text_in s.order section n | None ↦ (offset_of_text s n >>= λ offset. text_in s.order s.strings offset) ] in r)
    go (Some section) = text_in-plain s.order section n
    go None = holds-any IsPlain (offset_of_text s n) _ (λ offset. text_in-plain s.order s.strings offset)

path-plain : (s : TextSource) (looked_up : Bool) (value : Value) → IsPlainValue value → Holds IsPlain (path_text s looked_up value)
unfolding path_text
path-plain s looked_up (text bytes) p = record { of = p }
path-plain s true (text_reference form n) p = elsewhere-plain s form n
path-plain s false (text_reference form n) p = record { of = record { plain = All-nil (λ b. 0 < b) } }
path-plain s looked_up _ p = record { of = tt }

with_field-plain : (s : LineSource) (looked_up : Bool) (content : ℕ) (value : Value) (f : LineFile) → IsPlainValue value → IsPlainFile f → Holds IsPlainFile (with_field s looked_up content value f)
with_field-plain s looked_up content value f p q = go (content == DW_LNCT_path) (content == DW_LNCT_directory_index)
  where
    other : (b : Bool) → IsPlainFile (if b then record { directory = directory_or f.directory value; name = f.name } else f)
    other true = record { name = q.name }
    other false = q

    go : (a b : Bool) → Holds IsPlainFile (let r : Result LineFile Flaw = elim a [ true ↦ (path_text s.texts looked_up value >>= λ name. Ok (record { directory = f.directory; name = name })) | false ↦ Ok (if b then record { directory = directory_or f.directory value; name = f.name } else f) ] in r)
    go true b = holds-behind IsPlainFile IsPlain (path_text s.texts looked_up value) _ (path-plain s.texts looked_up value p) (λ name r. record { of = record { name = r } })
    go false b = record { of = other b }

field-plain : (s : LineSource) (size : ℕ) (looked_up : Bool) (format : EntryFormat) (f : LineFile) (u : Unread) → IsPlainFile f → Holds (λ x. IsPlainFile x.0) (entry_field_at s size looked_up format f u)
unfolding entry_field_at
field-plain s size looked_up format f u q =
    holds-behind (λ x. IsPlainFile x.0) (λ x. IsPlainValue x.0) (encoded_value_at s.relocations (record { version = 5; address_size = size }) (field_spec format) u) _ (value-plain s.relocations _ (field_spec format) u)
    (λ value p. holds-behind (λ x. IsPlainFile x.0) IsPlainFile (with_field s looked_up format.content value.0 f) _ (with_field-plain s looked_up format.content value.0 f p q) (λ field r. record { of = r }))

fields-plain : (s : LineSource) (size : ℕ) (looked_up : Bool) (formats : List EntryFormat) (f : LineFile) (u : Unread) → IsPlainFile f → Holds (λ x. IsPlainFile x.0) (entry_fields_at s size looked_up formats f u)
unfolding entry_fields_at
fields-plain s size looked_up [] f u q = record { of = q }
fields-plain s size looked_up (format ∷ formats) f u q =
    holds-behind (λ x. IsPlainFile x.0) (λ x. IsPlainFile x.0) (entry_field_at s size looked_up format f u) _ (field-plain s size looked_up format f u q) (λ first p. fields-plain s size looked_up formats first.0 first.1 p)

entry-plain : (s : LineSource) (size : ℕ) (formats : List EntryFormat) (u : Unread) → Holds (λ x. IsPlainFile x.0) (file_entry_at s size formats u)
entry-plain s size formats u = fields-plain s size true formats no_fields u (record { name = record { plain = All-nil (λ b. 0 < b) } })

directory_entry-plain : (s : LineSource) (size : ℕ) (formats : List EntryFormat) (u : Unread) → Holds (λ x. IsPlain x.0) (directory_entry_at s size formats u)
directory_entry-plain s size formats u = holds-seen IsPlain IsPlainFile (λ d. d.name) (file_entry_at s size formats u) (entry-plain s size formats u) (λ f p. p.name)

pub directories_of_5-plain : (s : LineSource) (size : ℕ) (u : Unread) → Holds (λ x. All IsPlain x.0) (directories_of_5_at s size u)
unfolding directories_of_5_at
directories_of_5-plain s size u = holds-any _ (entry_formats_at u) _ (λ formats. holds-any _ (entry_count_at formats.0 formats.1) _ (λ count. go formats.0 count.0 count.1 (count.0 == 0)))
  where
    go : (formats : List EntryFormat) (count : ℕ) (v : Unread) (b : Bool)
        → Holds (λ x. All IsPlain x.0) (let r : Read (List (List ℕ)) = elim b [ true ↦ Ok ([], v) | false ↦ (entry_fields_at s size false formats no_fields v >>= λ own. counted_at (count - 1) (directory_entry_at s size formats) own.1) ] in r)
    go formats count v true = record { of = All-nil IsPlain }
    go formats count v false = holds-any _ (entry_fields_at s size false formats no_fields v) _ (λ own. counted-each IsPlain (count - 1) (directory_entry_at s size formats) own.1 (directory_entry-plain s size formats))

pub files_of_5-plain : (s : LineSource) (size : ℕ) (u : Unread) → Holds (λ x. All IsPlainFile x.0) (files_of_5_at s size u)
unfolding files_of_5_at
files_of_5-plain s size u = holds-any _ (entry_formats_at u) _ (λ formats. holds-any _ (entry_count_at formats.0 formats.1) _ (λ count. counted-each IsPlainFile count.0 (file_entry_at s size formats.0) count.1 (entry-plain s size formats.0)))
