-- What is said of a run at each place where it ends.
use Rattle.std.proofs.Common.{◌≡◌, ℕ, zero, suc, List, [], ◌∷◌, ◌++◌, length, take, drop, get_or, false, Option, Some, None, refl, sym, ap, ◌∙◌, subst, arith}
use Rattle.std.specs.Prelude.{Any}
use Rattle.std.specs.List.{AllZip}
use Rattle.std.proofs.lemmas.List.{append_cancel_left}
use Rattle.dwc_base.specs.Sections.{unreadable, unsupported}
use Rattle.dwc_rules.specs.Refusals.{Refusal, of_place, missing_file, long_function, long_range, bad_label, lacks_memory, unmapped_register, long_jump, far_memory, bad_path, of_frame}
use Rattle.dwc_native.specs.FrameRefusals.{bad_code_offset, bad_data_offset}
use Rattle.dwc_cli.specs.Inputs.{Paths, paths_of, all_paths, Input, all_files, Loaded}
use Rattle.dwc_cli.specs.Calls.{Call, ReadsFewer, files_read, openings}
use Rattle.dwc_cli.specs.RunStatus.{Files, Appended, Carries, CarryInput, FrontCarries, IsOneOf, IsTooLong, IsWell, NamedCauses, Reads, ReadsAll, SaysOfInput, SaysOfRead, Succeeds, PrefixWritten, MissingCause, early_statuses, refusal_status, refusal_statuses, LoadedCauses, InputCauses, RunsWell, Rose}
use Rattle.dwc_cli.specs.Edge.{IsLongFile, IsReadFile, AppendsFront}
use Rattle.dwc_cli.specs.Answers.{IsInput, CarriesText, TextCauses, GivesText, IsReadingStatus, IsTextStatus, reading_statuses, text_statuses}
use Rattle.dwc_cli.proofs.Statuses.{is_one_of, IsOneOf-from, IsOneOf-more, IsOneOf-other, IsOneOf-apart}
use Rattle.dwc_cli.proofs.NamedFiles.{same_input, same_paths, too_long_named, short_input, lacks_none, not_long}

-- ---- a file that cannot be read

LoadedCauses-reading : (read : Loaded) (status : ℕ) → IsReadingStatus status → LoadedCauses read status
LoadedCauses-reading read status one =
    let other = λ (s : ℕ) (none : is_one_of reading_statuses s ≡ false) (same : status ≡ s). IsOneOf-other reading_statuses status s one none same in
    record {
      shared = record { only = λ e. absurd (other 21 refl e); always = λ _. IsOneOf-more reading_statuses (3 ∷ 4 ∷ 9 ∷ 21 ∷ []) status refl one };
      address_map = record { only = λ e. absurd (other 13 refl e); always = λ _. IsOneOf-more reading_statuses (3 ∷ 4 ∷ 9 ∷ 13 ∷ 21 ∷ []) status refl one };
      refused = record {
        only = λ found. absurd (IsOneOf-apart refusal_statuses reading_statuses status refl found one);
        always = λ r _. IsOneOf-more reading_statuses (3 ∷ 4 ∷ 9 ∷ 13 ∷ 21 ∷ refusal_status r ∷ []) status refl one;
      };
      too_large = λ e. absurd (other 20 refl e);
    }

NamedCauses-reading : (input : Input) (status : ℕ) → IsReadingStatus status → (status ≡ 4 → IsTooLong input) → NamedCauses input status
NamedCauses-reading input status one long =
    let other = λ (s : ℕ) (none : is_one_of reading_statuses s ≡ false) (same : status ≡ s). IsOneOf-other reading_statuses status s one none same in
    record {
      too_long = record { only = long; always = λ _. one };
      wasm = record { only = λ e. absurd (other 5 refl e); always = λ _ _. IsOneOf-more reading_statuses (3 ∷ 4 ∷ 5 ∷ 9 ∷ []) status refl one };
      map_file = record { only = λ e. absurd (other 6 refl e); always = λ _. IsOneOf-more reading_statuses (3 ∷ 4 ∷ 6 ∷ 9 ∷ []) status refl one };
      is_loaded = λ read _. LoadedCauses-reading read status one;
    }

pub InputCauses-reading : (files : Option Files) (words : List (List ℕ)) (p : Paths) (status : ℕ) → paths_of words ≡ Some p → IsReadingStatus status → (status ≡ 4 → Any (IsLongFile files) (all_paths p)) → InputCauses files words status
InputCauses-reading files words p status is_p one long = λ input names. NamedCauses-reading input status one (λ e. too_long_named files words p input is_p names (long e))

-- ---- files that were read

NamedCauses-text : (input : Input) (status : ℕ) → TextCauses input status → (status ≡ 4 → ⊥) → (IsTooLong input → ⊥) → NamedCauses input status
NamedCauses-text input status said not_four short = record {
  too_long = record { only = λ e. absurd (not_four e); always = λ long. absurd (short long) };
  wasm = said.wasm;
  map_file = said.map_file;
  is_loaded = said.is_loaded;
}

-- what is said of the input that was read is said of the input that the words name
pub InputCauses-text : (files : Option Files) (words : List (List ℕ)) (p : Paths) (read : Input) (status : ℕ) → paths_of words ≡ Some p → IsInput files p read → TextCauses read status → (status ≡ 4 → ⊥) → InputCauses files words status
InputCauses-text files words p read status is_p is_input causes not_four = λ input names.
    let same = same_input files words p read input is_p is_input names in
    NamedCauses-text input status (subst (λ i. TextCauses i status) same causes) not_four (short_input files p input (subst (λ i. IsInput files p i) same is_input))

-- where all files were read, none is missing
pub MissingCause-read : (files : Option Files) (words : List (List ℕ)) (p : Paths) (read : Input) (status : ℕ) → paths_of words ≡ Some p → IsInput files p read → MissingCause files words status
MissingCause-read files words p read status is_p is_input = λ missing. absurd (lacks_none files words p read is_p is_input missing)

-- the sections of a text carry its input
abbrev carry-input : {input : Input} {text : List ℕ} (c : CarriesText input text) → CarryInput input c.carries.sections
carry-input c = record { read = c.read; is_read = c.is_read; accepted = c.carries.accepted; plain = c.carries.plain; carried = c.carries.carried; short = c.carries.short }

Carries-text : (input : Input) (text : List ℕ) (before now : Option (List ℕ)) → CarriesText input text → Appended before now text → Carries input before now
Carries-text input text before now c written = record {
  sections = c.carries.sections;
  carry = carry-input c;
  whole = c.carries.whole;
  written = subst (Appended before now) c.carries.text_is written;
}

FrontCarries-text : (input : Input) (text : List ℕ) (before now : Option (List ℕ)) → CarriesText input text → AppendsFront before now text → FrontCarries input before now
FrontCarries-text input text before now c front = record {
  sections = c.carries.sections;
  carry = carry-input c;
  whole = c.carries.whole;
  count = front.0;
  written = subst (λ t. Appended before now (take front.0 t)) c.carries.text_is front.1;
}

-- a text that was written is that of the input that the words name
pub Succeeds-read : (files : Option Files) (words : List (List ℕ)) (p : Paths) (read : Input) (text : List ℕ) (before now : Option (List ℕ)) → paths_of words ≡ Some p → IsInput files p read → CarriesText read text → Appended before now text → Succeeds files words before now
Succeeds-read files words p read text before now is_p is_input carries written = λ input names.
    Carries-text input text before now (subst (λ i. CarriesText i text) (same_input files words p read input is_p is_input names) carries) written

-- and so is a front of one
pub PrefixWritten-read : (files : Option Files) (words : List (List ℕ)) (p : Paths) (read : Input) (text : List ℕ) (before now : Option (List ℕ)) → paths_of words ≡ Some p → IsInput files p read → CarriesText read text → AppendsFront before now text → PrefixWritten files words before now
PrefixWritten-read files words p read text before now is_p is_input carries front = λ input names.
    FrontCarries-text input text before now (subst (λ i. CarriesText i text) (same_input files words p read input is_p is_input names) carries) front

-- what is said where the text was made is said where it could not be written
pub TextCauses-write : (input : Input) → TextCauses input 0 → TextCauses input 8
TextCauses-write input causes =
    let not_done = λ (statuses : List ℕ) (none : is_one_of statuses 0 ≡ false) (one : IsOneOf statuses 0). IsOneOf-other statuses 0 0 one none refl in
    record {
      wasm = record { only = λ e. absurd (omega (arith, e)); always = λ place is. absurd (not_done (3 ∷ 4 ∷ 5 ∷ 9 ∷ []) refl (causes.wasm.always place is)) };
      map_file = record { only = λ e. absurd (omega (arith, e)); always = λ none. absurd (not_done (3 ∷ 4 ∷ 6 ∷ 9 ∷ []) refl (causes.map_file.always none)) };
      is_loaded = λ read is_read. LoadedCauses-write read (causes.is_loaded read is_read);
    }
  where
    -- the status of a refusal is not 0
    refused_not_done : (r : Refusal) → is_one_of (3 ∷ 4 ∷ 9 ∷ 13 ∷ 21 ∷ refusal_status r ∷ []) 0 ≡ false
    refused_not_done (of_place (unreadable what section offset)) = refl
    refused_not_done (of_place (unsupported kind offset)) = refl
    refused_not_done (missing_file offset) = refl
    refused_not_done long_function = refl
    refused_not_done long_range = refl
    refused_not_done (bad_label label) = refl
    refused_not_done (lacks_memory m) = refl
    refused_not_done (unmapped_register register) = refl
    refused_not_done long_jump = refl
    refused_not_done far_memory = refl
    refused_not_done bad_path = refl
    refused_not_done (of_frame (bad_code_offset f)) = refl
    refused_not_done (of_frame (bad_data_offset f)) = refl

    LoadedCauses-write : (read : Loaded) → LoadedCauses read 0 → LoadedCauses read 8
    LoadedCauses-write read said = record {
      shared = record { only = λ e. absurd (omega (arith, e)); always = λ some. absurd (IsOneOf-other (3 ∷ 4 ∷ 9 ∷ 21 ∷ []) 0 0 (said.shared.always some) refl refl) };
      address_map = record { only = λ e. absurd (omega (arith, e)); always = λ bad. absurd (IsOneOf-other (3 ∷ 4 ∷ 9 ∷ 13 ∷ 21 ∷ []) 0 0 (said.address_map.always bad) refl refl) };
      refused = record {
        only = λ one. absurd (IsOneOf-other refusal_statuses 8 8 one refl refl);
        always = λ r is. absurd (IsOneOf-other (3 ∷ 4 ∷ 9 ∷ 13 ∷ 21 ∷ refusal_status r ∷ []) 0 0 (said.refused.always r is) (refused_not_done r) refl);
      };
      too_large = λ e. absurd (omega (arith, e));
    }

-- ---- where all is well

-- a status of reading that is neither 3 nor 4 is 9
nine : (status : ℕ) → IsReadingStatus status → (status ≡ 3 → ⊥) → (status ≡ 4 → ⊥) → 9 ≡ status
nine status (zero, x, within, is, same) not_three not_four = absurd (not_three (sym (is ∙ same)))
nine status (suc zero, x, within, is, same) not_three not_four = absurd (not_four (sym (is ∙ same)))
nine status (suc (suc zero), x, within, is, same) not_three not_four = is ∙ same
nine status (suc (suc (suc k)), x, within, is, same) not_three not_four = absurd (omega (arith, within))

-- where the source did not fail and no file is too long, a file is not read for want of memory alone
pub only_memory : (files : Option Files) (words : List (List ℕ)) (p : Paths) (read_before read_now write_before write_now status : ℕ) → paths_of words ≡ Some p → IsReadingStatus status → (status ≡ 4 → Any (IsLongFile files) (all_paths p)) → (status ≡ 3 → Rose read_before read_now) → RunsWell files words read_before read_now write_before write_now → IsOneOf (0 ∷ 9 ∷ []) status
only_memory files words p read_before read_now write_before write_now status is_p one long rose well =
    let not_four : status ≡ 4 → ⊥ = λ e. not_long well.input well.well.short (too_long_named files words p well.input is_p well.named (long e)) in
    let not_three : status ≡ 3 → ⊥ = λ e. well.well.reads (rose e) in
    subst (IsOneOf (0 ∷ 9 ∷ [])) (nine status one not_three not_four) (IsOneOf-from (0 ∷ 9 ∷ []) 9 refl)

-- where the input is valid, its text is not made for want of memory alone
pub complete_read : (files : Option Files) (words : List (List ℕ)) (p : Paths) (read : Input) (read_before read_now write_before write_now status : ℕ) → paths_of words ≡ Some p → IsInput files p read → GivesText read status → RunsWell files words read_before read_now write_before write_now → IsOneOf (0 ∷ 9 ∷ []) status
complete_read files words p read read_before read_now write_before write_now status is_p is_input gives well =
    subst (λ i. GivesText i status) (same_input files words p read well.input is_p is_input well.named) gives well.well.read well.well.is_read well.well.valid

-- ---- what was read, whatever the source tells

-- the bytes that were read are those of one input
same_read : (words : List (List ℕ)) (read input : Input) (before now : List Call) → files_read now ≡ files_read before ++ all_files read → Reads words before now input → read ≡ input
same_read words read input before now is reads =
    let same : all_files read ≡ all_files input = append_cancel_left (files_read before) (all_files read) (all_files input) (sym is ∙ reads.bytes) in
    λ i. record { map_bytes = ap (λ bs. get_or bs 0 []) same i; modules = ap (drop 1) same i }

-- words that name no files
pub SaysOfRead-usage : (words : List (List ℕ)) (status : ℕ) (asked_before asked_now : List Call) (before now : Option (List ℕ)) (read_before read_now write_before write_now : ℕ) → paths_of words ≡ None → SaysOfRead words status asked_before asked_now before now read_before read_now write_before write_now
SaysOfRead-usage words status asked_before asked_now before now read_before read_now write_before write_now none = λ input reads. absurd (none_named (sym none ∙ reads.are_paths))
  where
    none_named : {p : Paths} → None ≡ Some p → ⊥
    none_named e = cc

-- fewer files than all are not all
fewer_not_all : (words : List (List ℕ)) (p : Paths) (input : Input) (before now : List Call) → paths_of words ≡ Some p → Reads words before now input → ReadsFewer (length (all_paths p)) before now → ⊥
fewer_not_all words p input before now is_p reads fewer =
    let same : all_files input ≡ fewer.0 = append_cancel_left (files_read before) (all_files input) fewer.0 (sym reads.bytes ∙ fewer.1) in
    let count : length (all_files input) ≡ length fewer.0 = ap length same in
    let named : length (all_paths reads.paths) ≡ length (all_paths p) = ap (λ q. length (all_paths q)) (same_paths words reads.paths p reads.are_paths is_p) in
    let few = fewer.2 in
    let all = reads.all in
    omega (arith, count, named, few, all)

-- a file that cannot be read
pub SaysOfRead-reading : (words : List (List ℕ)) (p : Paths) (status : ℕ) (asked_before asked_now : List Call) (before now : Option (List ℕ)) (read_before read_now write_before write_now : ℕ) → paths_of words ≡ Some p → IsReadingStatus status → (status ≡ 4 → ReadsFewer (length (all_paths p)) asked_before asked_now) → (status ≡ 3 → Rose read_before read_now) → SaysOfRead words status asked_before asked_now before now read_before read_now write_before write_now
SaysOfRead-reading words p status asked_before asked_now before now read_before read_now write_before write_now is_p one cut rose = λ input reads.
    let not_four : status ≡ 4 → ⊥ = λ e. fewer_not_all words p input asked_before asked_now is_p reads (cut e) in
    record {
      carried = λ e. absurd (IsOneOf-other reading_statuses status 0 one refl e);
      front = λ e. absurd (IsOneOf-other reading_statuses status 8 one refl e);
      causes = NamedCauses-reading input status one (λ e. absurd (not_four e));
      complete = λ well. subst (IsOneOf (0 ∷ 9 ∷ [])) (nine status one (λ e. well.reads (rose e)) not_four) (IsOneOf-from (0 ∷ 9 ∷ []) 9 refl);
    }

-- an input whose text is not made
pub SaysOfRead-text : (files : Option Files) (words : List (List ℕ)) (p : Paths) (read : Input) (status : ℕ) (asked_before asked_now : List Call) (before now : Option (List ℕ)) (read_before read_now write_before write_now : ℕ) → IsInput files p read → files_read asked_now ≡ files_read asked_before ++ all_files read → IsTextStatus status → TextCauses read status → GivesText read status → SaysOfRead words status asked_before asked_now before now read_before read_now write_before write_now
SaysOfRead-text files words p read status asked_before asked_now before now read_before read_now write_before write_now is_input is one causes gives = λ input reads.
    let same = same_read words read input asked_before asked_now is reads in
    let short = short_input files p input (subst (λ i. IsInput files p i) same is_input) in
    record {
      carried = λ e. absurd (IsOneOf-other text_statuses status 0 one refl e);
      front = λ e. absurd (IsOneOf-other text_statuses status 8 one refl e);
      causes = NamedCauses-text input status (subst (λ i. TextCauses i status) same causes) (λ e. IsOneOf-other text_statuses status 4 one refl e) short;
      complete = λ well. subst (λ i. GivesText i status) same gives well.read well.is_read well.valid;
    }

-- an input whose text is written
pub SaysOfRead-written : (files : Option Files) (words : List (List ℕ)) (p : Paths) (read : Input) (text : List ℕ) (asked_before asked_now : List Call) (before now : Option (List ℕ)) (read_before read_now write_before write_now : ℕ) → IsInput files p read → files_read asked_now ≡ files_read asked_before ++ all_files read → TextCauses read 0 → CarriesText read text → Appended before now text → SaysOfRead words 0 asked_before asked_now before now read_before read_now write_before write_now
SaysOfRead-written files words p read text asked_before asked_now before now read_before read_now write_before write_now is_input is causes carries written = λ input reads.
    let same = same_read words read input asked_before asked_now is reads in
    let short = short_input files p input (subst (λ i. IsInput files p i) same is_input) in
    record {
      carried = λ _. Carries-text input text before now (subst (λ i. CarriesText i text) same carries) written;
      front = λ e. absurd (omega (arith, e));
      causes = NamedCauses-text input 0 (subst (λ i. TextCauses i 0) same causes) (λ e. omega (arith, e)) short;
      complete = λ _. IsOneOf-from (0 ∷ 9 ∷ []) 0 refl;
    }

-- an input whose text is written in part
pub SaysOfRead-front : (files : Option Files) (words : List (List ℕ)) (p : Paths) (read : Input) (text : List ℕ) (asked_before asked_now : List Call) (before now : Option (List ℕ)) (read_before read_now write_before write_now : ℕ) → IsInput files p read → files_read asked_now ≡ files_read asked_before ++ all_files read → TextCauses read 8 → CarriesText read text → AppendsFront before now text → Rose write_before write_now → SaysOfRead words 8 asked_before asked_now before now read_before read_now write_before write_now
SaysOfRead-front files words p read text asked_before asked_now before now read_before read_now write_before write_now is_input is causes carries front rose = λ input reads.
    let same = same_read words read input asked_before asked_now is reads in
    let short = short_input files p input (subst (λ i. IsInput files p i) same is_input) in
    record {
      carried = λ e. absurd (omega (arith, e));
      front = λ _. FrontCarries-text input text before now (subst (λ i. CarriesText i text) same carries) front;
      causes = NamedCauses-text input 8 (subst (λ i. TextCauses i 8) same causes) (λ e. omega (arith, e)) short;
      complete = λ well. absurd (well.writes rose);
    }

-- by another number of the same status
pub SaysOfRead-status : (words : List (List ℕ)) (status result : ℕ) (asked_before asked_now : List Call) (before now : Option (List ℕ)) (read_before read_now write_before write_now : ℕ) → result ≡ status → SaysOfRead words status asked_before asked_now before now read_before read_now write_before write_now → SaysOfRead words result asked_before asked_now before now read_before read_now write_before write_now
SaysOfRead-status words status result asked_before asked_now before now read_before read_now write_before write_now same says = subst (λ s. SaysOfRead words s asked_before asked_now before now read_before read_now write_before write_now) (sym same) says

-- all files were read, as many as there are paths
pub ReadsAll-read : (files : Option Files) (words : List (List ℕ)) (p : Paths) (read : Input) (status : ℕ) (before now : List Call) → paths_of words ≡ Some p → IsInput files p read → openings now ≡ openings before ++ all_paths p → files_read now ≡ files_read before ++ all_files read → ReadsAll words status before now
ReadsAll-read files words p read status before now is_p is_input opened is = λ _. (read, record { paths = p; are_paths = is_p; opened = opened; bytes = is; all = sym (same_length (IsReadFile files) (all_paths p) (all_files read) is_input) })
  where
    same_length : (R : List ℕ → List ℕ → Type 0) (xs ys : List (List ℕ)) → AllZip R xs ys → length xs ≡ length ys
    same_length R [] [] h = refl
    same_length R [] (y ∷ ys) h = absurd h
    same_length R (x ∷ xs) [] h = absurd h
    same_length R (x ∷ xs) (y ∷ ys) h = ap suc (same_length R xs ys h.1)

-- no file is read
pub ReadsAll-early : (words : List (List ℕ)) (status result : ℕ) (before now : List Call) → result ≡ status → IsOneOf early_statuses status → ReadsAll words result before now
ReadsAll-early words status result before now same one = λ other. absurd (other (subst (IsOneOf early_statuses) (sym same) one))
