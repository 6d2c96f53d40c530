-- What is said of each map that is read.
use Rattle.std.proofs.Common.{◌≡◌, ◌⊎◌, ℕ, zero, suc, ◌<◌, arith, List, [], ◌∷◌, Option, Some, None, Bool, true, false, refl, sym, ◌∙◌, ap, subst, inl, inr}
use Rattle.std.specs.Prelude.{All, IfSome, ◌==◌, ◌&&◌, ◌||◌, not, codes, option_and_then, option_map, unwrap_or, if◌then◌else◌}
use Rattle.std.specs.FinMap as finite
use Rattle.std.specs.List.{list_any}
use Rattle.std.specs.Str.{is_utf8}
use Rattle.serde_json.specs.Data.{Data, null, boolean, number, string, array, object, Members}
use Rattle.serde_json.specs.Read.{read}
use Rattle.serde_json.specs.Find.{get_member}
use Rattle.dwc_base.specs.declared.records.OutputFor.TheVariants.{Default}
use Rattle.dwc_native.specs.CallFrames.{CommonEntry, is_sound, is_sound_if}
use Rattle.dwc_base.specs.Reading.{coded}
use Rattle.dwc_map.specs.declared.map_file.MapFile.{MapFile as DeclaredMap}
use Rattle.dwc_map.specs.MapFile.{Target, MapFile, architecture_of, pointer_bytes_of, version_of, output_of, register_numbers_of, target_of, MapModule, have_counts, is_countable, map_for, map_in, map_in_bytes, map_of_bytes, map_with, modules_of, IsMap, IsMapFor}
use Rattle.dwc_map.specs.MapValues.{◌>>=◌, only_if, number_below, value_or, with_default, required, list_of, pair_of, text_of, truth_of, members_of, u8_of, u32_of, i8_of, nullable}
use Rattle.dwc_map.specs.MapFrames.{instruction_of, cie_of, cie_in}
use Rattle.dwc_map.specs.MapViews.{map_file_view}
use Rattle.dwc_isa.specs.ToldModules.{AreNames}
use Rattle.dwc_map.proofs.MapKinds.{pair_of_parts}
use Rattle.std.proofs.lemmas.Bool.{true≢false}
use Rattle.std.proofs.lemmas.List.Elements.{All-cons, All-nil}

same_some : {A : Type 0} (x y : A) → Some x ≡ Some y → x ≡ y
same_some x y e = ap (λ o. unwrap_or o x) e

-- what is read behind something else
bind-some : {A B : Type 0} (o : Option A) (next : A → Option B) (y : B) → o >>= next ≡ Some y → (x : A) × (o ≡ Some x) × (next x ≡ Some y)
bind-some None next y e = absurd (cc)
bind-some (Some x) next y e = (x, refl, e)

only_if-some : {A : Type 0} (b : Bool) (x y : A) → only_if b x ≡ Some y → (b ≡ true) × (x ≡ y)
only_if-some true x y e = (refl, same_some x y e)
only_if-some false x y e = absurd (cc)

both : (a b : Bool) → (a && b) ≡ true → (a ≡ true) × (b ≡ true)
both true b e = (refl, e)
both false b e = absurd (cc)

-- a number in a table of two
among : (a b : ℕ) (first second : Bool) (n : ℕ) → (if first then Some a else (if second then Some b else None)) ≡ Some n → (n ≡ a) ⊎ (n ≡ b)
among a b true second n e = inl (sym (same_some a n e))
among a b false true n e = inr (sym (same_some b n e))
among a b false false n e = absurd (cc)

size_of : (d : Data) (n : ℕ) → pointer_bytes_of d ≡ Some n → (n ≡ 4) ⊎ (n ≡ 8)
size_of d n e = let found = bind-some (number_below 9 d) (λ k. coded ((4, 4) ∷ (8, 8) ∷ []) k) n e in among 4 8 (4 == found.0) (8 == found.0) n found.2

size_or : (o : Option Data) (n : ℕ) → value_or 8 pointer_bytes_of o ≡ Some n → (n ≡ 4) ⊎ (n ≡ 8)
size_or None n e = inr (sym (same_some 8 n e))
size_or (Some d) n e = size_of d n e

four_or_five : (d : Data) (n : ℕ) → version_of d ≡ Some n → (n ≡ 4) ⊎ (n ≡ 5)
four_or_five d n e = let found = bind-some (number_below 6 d) (λ k. coded ((4, 4) ∷ (5, 5) ∷ []) k) n e in among 4 5 (4 == found.0) (5 == found.0) n found.2

version_or : (o : Option Data) (n : ℕ) → value_or 4 version_of o ≡ Some n → (n ≡ 4) ⊎ (n ≡ 5)
version_or None n e = inl (sym (same_some 4 n e))
version_or (Some d) n e = four_or_five d n e

-- the size of an address of a target
target-size : (d : Data) (t : Target) → target_of d ≡ Some t → (t.pointer_bytes ≡ 4) ⊎ (t.pointer_bytes ≡ 8)
unfolding target_of
target-size d t e =
    let ms = bind-some (members_of d) _ t e in
    let architecture = bind-some (required (codes "arch") architecture_of ms.0) _ t ms.2 in
    let big_endian = bind-some (with_default (codes "big_endian") false truth_of ms.0) _ t architecture.2 in
    let pointer_bytes = bind-some (with_default (codes "pointer_bytes") 8 pointer_bytes_of ms.0) _ t big_endian.2 in
    let version = bind-some (with_default (codes "version") 4 version_of ms.0) _ t pointer_bytes.2 in
    let output = bind-some (with_default (codes "debugger") Default output_of ms.0) _ t version.2 in
    let registers = bind-some (with_default (codes "registers") finite.empty register_numbers_of ms.0) _ t output.2 in
    let common_entry = bind-some (cie_in ms.0) _ t registers.2 in
    let is : pointer_bytes.0 ≡ t.pointer_bytes = ap (λ (x : Target). x.pointer_bytes) (same_some _ t common_entry.2) in
    let size = size_or (get_member (codes "pointer_bytes") ms.0) pointer_bytes.0 pointer_bytes.1 in
    subst (λ n. (n ≡ 4) ⊎ (n ≡ 8)) is size

-- the version of DWARF that is written for a target
target-version : (d : Data) (t : Target) → target_of d ≡ Some t → (t.version ≡ 4) ⊎ (t.version ≡ 5)
unfolding target_of
target-version d t e =
    let ms = bind-some (members_of d) _ t e in
    let architecture = bind-some (required (codes "arch") architecture_of ms.0) _ t ms.2 in
    let big_endian = bind-some (with_default (codes "big_endian") false truth_of ms.0) _ t architecture.2 in
    let pointer_bytes = bind-some (with_default (codes "pointer_bytes") 8 pointer_bytes_of ms.0) _ t big_endian.2 in
    let version = bind-some (with_default (codes "version") 4 version_of ms.0) _ t pointer_bytes.2 in
    let output = bind-some (with_default (codes "debugger") Default output_of ms.0) _ t version.2 in
    let registers = bind-some (with_default (codes "registers") finite.empty register_numbers_of ms.0) _ t output.2 in
    let common_entry = bind-some (cie_in ms.0) _ t registers.2 in
    let is : version.0 ≡ t.version = ap (λ (x : Target). x.version) (same_some _ t common_entry.2) in
    subst (λ n. (n ≡ 4) ⊎ (n ≡ 5)) is (version_or (get_member (codes "version") ms.0) version.0 version.1)

-- an entry that has a value can be written
entry-sound : (d : Data) (c : CommonEntry) → cie_of d ≡ Some c → is_sound c ≡ true
unfolding cie_of
entry-sound d c e =
    let ms = bind-some (members_of d) _ c e in
    let code_factor = bind-some (required (codes "code_factor") u8_of ms.0) _ c ms.2 in
    let data_factor = bind-some (required (codes "data_factor") i8_of ms.0) _ c code_factor.2 in
    let return_register = bind-some (required (codes "return_register") u8_of ms.0) _ c data_factor.2 in
    let instructions = bind-some (required (codes "ops") (list_of instruction_of) ms.0) _ c return_register.2 in
    let whole : CommonEntry = record { code_factor = code_factor.0; data_factor = data_factor.0; return_register = return_register.0; instructions = instructions.0 } in
    let kept = only_if-some (is_sound whole) whole c instructions.2 in
    subst (λ x. is_sound x ≡ true) kept.1 kept.0

some-sound : (o : Option CommonEntry) (c : Option CommonEntry) → ((x : CommonEntry) → o ≡ Some x → is_sound x ≡ true) → option_map Some o ≡ Some c → is_sound_if c ≡ true
some-sound None c sound e = absurd (cc)
some-sound (Some x) c sound e = subst (λ y. is_sound_if y ≡ true) (same_some (Some x) c e) (sound x refl)

entry_if-sound : (d : Data) (c : Option CommonEntry) → nullable cie_of d ≡ Some c → is_sound_if c ≡ true
entry_if-sound null c e = subst (λ y. is_sound_if y ≡ true) (same_some None c e) refl
entry_if-sound (boolean b) c e = some-sound (cie_of (boolean b)) c (entry-sound (boolean b)) e
entry_if-sound (number n) c e = some-sound (cie_of (number n)) c (entry-sound (number n)) e
entry_if-sound (string s) c e = some-sound (cie_of (string s)) c (entry-sound (string s)) e
entry_if-sound (array ds) c e = some-sound (cie_of (array ds)) c (entry-sound (array ds)) e
entry_if-sound (object ms) c e = some-sound (cie_of (object ms)) c (entry-sound (object ms)) e

told-sound : (o : Option Data) (c : Option CommonEntry) → value_or None (nullable cie_of) o ≡ Some c → is_sound_if c ≡ true
told-sound None c e = subst (λ y. is_sound_if y ≡ true) (same_some None c e) refl
told-sound (Some d) c e = entry_if-sound d c e

-- what the frames of a target share can be written
target-sound : (d : Data) (t : Target) → target_of d ≡ Some t → is_sound_if t.common_entry ≡ true
unfolding target_of
target-sound d t e =
    let ms = bind-some (members_of d) _ t e in
    let architecture = bind-some (required (codes "arch") architecture_of ms.0) _ t ms.2 in
    let big_endian = bind-some (with_default (codes "big_endian") false truth_of ms.0) _ t architecture.2 in
    let pointer_bytes = bind-some (with_default (codes "pointer_bytes") 8 pointer_bytes_of ms.0) _ t big_endian.2 in
    let version = bind-some (with_default (codes "version") 4 version_of ms.0) _ t pointer_bytes.2 in
    let output = bind-some (with_default (codes "debugger") Default output_of ms.0) _ t version.2 in
    let registers = bind-some (with_default (codes "registers") finite.empty register_numbers_of ms.0) _ t output.2 in
    let common_entry = bind-some (cie_in ms.0) _ t registers.2 in
    let is : common_entry.0 ≡ t.common_entry = ap (λ (x : Target). x.common_entry) (same_some _ t common_entry.2) in
    subst (λ c. is_sound_if c ≡ true) is (told-sound (get_member (codes "cie") ms.0) common_entry.0 common_entry.1)

neither : (a b : Bool) → (a || b) ≡ false → (a ≡ false) × (b ≡ false)
neither true b e = absurd (true≢false e)
neither false b e = (refl, e)

positive : (c : ℕ) → (c == 0) ≡ false → 0 < c
positive zero e = absurd (true≢false e)
positive (suc c) e = omega arith

-- a text without a zero character
plain-text : (text : List ℕ) → list_any (λ c. c == 0) text ≡ false → All (λ b. 0 < b) text
plain-text [] none = All-nil (λ b. 0 < b)
plain-text (c ∷ cs) none = let parts = neither (c == 0) (list_any (λ x. x == 0) cs) none in All-cons (λ b. 0 < b) c cs (positive c parts.0) (plain-text cs parts.1)

not-true : (b : Bool) → not b ≡ true → b ≡ false
not-true true e = sym e
not-true false e = refl

text-plain : (d : Data) (text : List ℕ) → text_of d ≡ Some text → All (λ b. 0 < b) text
text-plain null text e = absurd (cc)
text-plain (boolean b) text e = absurd (cc)
text-plain (number n) text e = absurd (cc)
text-plain (string s) text e = let kept = only_if-some (not (list_any (λ c. c == 0) s)) s text e in subst (All (λ b. 0 < b)) kept.1 (plain-text s (not-true (list_any (λ c. c == 0) s) kept.0))
text-plain (array ds) text e = absurd (cc)
text-plain (object ms) text e = absurd (cc)

-- the names of a map
pair-plain : (d : Data) (names : List ℕ × List ℕ) → pair_of text_of text_of d ≡ Some names → AreNames names.0 names.1
pair-plain d names e =
    let parts = bind-some (pair_of Some Some d) (λ p. text_of p.0 >>= λ x. text_of p.1 >>= λ y. Some (x, y)) names (sym (pair_of_parts text_of text_of d) ∙ e) in
    let first = bind-some (text_of parts.0.0) (λ x. text_of parts.0.1 >>= λ y. Some (x, y)) names parts.2 in
    let second = bind-some (text_of parts.0.1) (λ y. Some (first.0, y)) names first.2 in
    let same : (first.0, second.0) ≡ names = same_some (first.0, second.0) names second.2 in
    subst (λ (p : List ℕ × List ℕ). AreNames p.0 p.1) {x = (first.0, second.0)} same (text-plain parts.0.0 first.0 first.1, text-plain parts.0.1 second.0 second.1)

-- a map that some members have can be written, and its names and addresses are of their kinds
members-kinds : (modules : List MapModule) (ms : Members) (m : MapFile) → map_with modules ms ≡ Some m → IsMap m
members-kinds modules ms m e =
    let target = bind-some (required (codes "target") target_of ms) _ m e in
    let names = bind-some (required (codes "names") (pair_of text_of text_of) ms) _ m target.2 in
    let next_id = bind-some (with_default (codes "next_id") 0 u32_of ms) _ m names.2 in
    let whole : MapFile = record { target = target.0; set_memory = (names.0).0; resolve_memory = (names.0).1; modules = modules; next_id = next_id.0 } in
    let value = bind-some (get_member (codes "target") ms) target_of target.0 target.1 in
    let texts = bind-some (get_member (codes "names") ms) (pair_of text_of text_of) names.0 names.1 in
    subst IsMap (same_some whole m next_id.2) (record { pointer = target-size value.0 target.0 value.2; version = target-version value.0 target.0 value.2; names = pair-plain texts.0 names.0 texts.2; sound = target-sound value.0 target.0 value.2 })

value-kinds : (d : Data) (m : MapFile) → map_in d ≡ Some m → IsMap m
unfolding map_in
value-kinds d m e =
    let ms = bind-some (members_of d) _ m e in
    let modules = bind-some (required (codes "modules") modules_of ms.0) _ m ms.2 in
    members-kinds modules.0 ms.0 m modules.2

-- so is one that some bytes are
pub bytes-kinds : (bytes : List ℕ) (m : MapFile) → map_in_bytes bytes ≡ Some m → IsMap m
unfolding map_in_bytes
bytes-kinds bytes m e =
    let text = bind-some (only_if (is_utf8 bytes) bytes) _ m e in
    let d = bind-some (read text.0) _ m text.2 in
    value-kinds d.0 m d.2

pub map-kinds : (bytes : List ℕ) (told : Option DeclaredMap) → option_map map_file_view told ≡ map_in_bytes bytes → IfSome told (λ f. IsMap (map_file_view f))
map-kinds bytes None e = tt
map-kinds bytes (Some f) e = bytes-kinds bytes (map_file_view f) (sym e)

-- ---- a map that was read, for some modules

one-fits : (defined : List ℕ) (m : MapFile) → IsMap m → map_for defined m ≡ Some m → IsMapFor defined m
one-fits defined m is fits =
    let kept = only_if-some (have_counts defined m.modules && is_countable m.modules) m m fits in
    let tests = both (have_counts defined m.modules) (is_countable m.modules) kept.0 in
    record { counts = tests.0; countable = tests.1; pointer = is.pointer; version = is.version; names = is.names; sound = is.sound }

module _ (defined : List ℕ) (told result : Option DeclaredMap) (chosen : option_map map_file_view result ≡ option_and_then (map_for defined) (option_map map_file_view told)) where
  pub map-of_bytes : (bytes : List ℕ) → option_map map_file_view told ≡ map_in_bytes bytes → option_map map_file_view result ≡ map_of_bytes defined bytes
  unfolding map_of_bytes
  map-of_bytes bytes read = chosen ∙ ap (option_and_then (map_for defined)) read

  pub map-fits : IfSome result (λ f. told ≡ Some f) → IfSome told (λ f. IsMap (map_file_view f)) → IfSome result (λ f. IsMapFor defined (map_file_view f))
  map-fits same kinds = go result refl same
    where
      go : (r : Option DeclaredMap) → result ≡ r → IfSome r (λ f. told ≡ Some f) → IfSome r (λ f. IsMapFor defined (map_file_view f))
      go None is e = tt
      go (Some f) is e =
          one-fits defined (map_file_view f) (subst (λ o. IfSome o (λ g. IsMap (map_file_view g))) e kinds)
          (ap (λ o. option_and_then (map_for defined) (option_map map_file_view o)) (sym e) ∙ sym chosen ∙ ap (option_map map_file_view) is)
