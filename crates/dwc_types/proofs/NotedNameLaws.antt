-- Names of wrappers that are noted.
use Rattle.std.proofs.Common.{◌≡◌, ℕ, ◌++◌, sym, ap, subst, ◌∙◌, List, Bool, true, false, Option, Some, None, Result, Ok, Err}
use Rattle.std.specs.Prelude.{◌==◌, ◌≢◌, IfErr, IfOk, IfSome, OnOk, codes, if◌then◌else◌}
use Rattle.std.specs.Ordering.{nat_cmp}
use Rattle.std.specs.BTreeMap.{BTreeMap, get}
use Rattle.dwc_base.specs.declared.constants.TheConstants.{DW_TAG_pointer_type}
use Rattle.dwc_dwarf.specs.Entries.{Entry}
use Rattle.dwc_rules.specs.Kept.{Placed}
use Rattle.dwc_rules.specs.Clones.{UnitSource}
use Rattle.dwc_rules.specs.TypeNames.{type_name}
use Rattle.dwc_rules.specs.Wrappers.{wrapper_name}
use Rattle.dwc_unit.specs.declared.strings.StringId.{StringId}
use Rattle.dwc_source.specs.declared.error.CloneError.{CloneError}
use Rattle.dwc_source.specs.declared.error.CloneError.TheVariants.{OutOfMemory}
use Rattle.dwc_source.specs.declared.source.CloneSource.{CloneSource}
use Rattle.dwc_types.specs.declared.type_entry.TypeEntry.{TypeEntry}
use Rattle.dwc_types.specs.declared.type_name.NotedName.{NotedName}
use Rattle.dwc_types.specs.declared.type_name.TypeNames.{TypeNames}
use Rattle.dwc_source.specs.Errors.{refusal_told}
use Rattle.dwc_types.specs.KnownNames.{AreOwnNames, AreWrapperNames, GivesNumber, IsOwnName, IsWrapperName, KnowsNames, KnowsTypes, NamesWrapper, NamesWrappers}
use Rattle.dwc_source.specs.KnownTexts.{IsNumbered}
use Rattle.dwc_source.specs.MadeValues.{Grows}
use Rattle.dwc_source.specs.Sources.{IsSource}
use Rattle.dwc_types.specs.KeyedTypes.{KnowsKeys}
use Rattle.dwc_types.specs.TypeChains.{GivesRead, type_found, type_view}
use Rattle.dwc_types.specs.TypeSteps.{IsOfType}
use Rattle.dwc_source.proofs.KnownLaws.{numbered-grown}
use Rattle.dwc_types.proofs.TypeFoundLaws.{same-type}
use Rattle.dwc_types.proofs.TypeKeyLaws.{keys-grown}
use Rattle.dwc_types.proofs.TypeStepLaws.{gives-none}

-- A name that is told of each entry of a type but one gives the wrappers of all that are pointers, or are none, the same name.
pub names-wrappers : (c : CloneSource) (number : ℕ) (s : UnitSource) (e : Entry) (first : TypeEntry) → IsSource c number s → type_found c e ≡ Some (type_view first) → (but : Option ℕ) (name : List ℕ) (texts : List (List ℕ)) (tag : ℕ) (id : StringId)
    → ((f : Placed) → IsOfType c s f first → IfSome but (λ b. f.entry.offset ≢ b → type_name s.texts s.entries f ≡ Ok name)) → IsNumbered texts (wrapper_name tag name) id → IfSome but (λ b. NamesWrappers c s texts (tag == DW_TAG_pointer_type) first.offset b id)
names-wrappers c number s e first source type_is None name texts tag id others numbered = tt
names-wrappers c number s e first source type_is (Some b) name texts tag id others numbered = λ f emitted same at apart. record {
  name = name;
  read = others f (record { number = number; source = source; emitted = emitted; type_is = same-type c e f.entry (type_view first) type_is at }) apart;
  number = subst (λ t. IsNumbered texts t id) (ap (λ b. (if b then codes "WebAssemblyPtrWrapper<" else codes "WebAssemblyRefWrapper<") ++ name ++ codes ">") (sym same)) numbered;
}

-- Want of memory tells nothing of a name.
pub unnumbered : (s : UnitSource) (e : Placed) (error : CloneError) → error ≡ OutOfMemory → GivesRead {X = List ℕ} (λ name. name) (type_name s.texts s.entries e) (Err error)
unnumbered s e error memory = gives-none {X = List ℕ} (λ name. name) (type_name s.texts s.entries e) error (ap refusal_told memory)

-- It is that of an entry at another offset.
pub names-entry : (c : CloneSource) (s : UnitSource) (texts : List (List ℕ)) (pointer : Bool) (offset but own : ℕ) (id : StringId) → but ≢ own → NamesWrappers c s texts pointer offset but id → NamesWrapper c s texts pointer offset own id
names-entry c s texts pointer offset but own id apart named e emitted same at is = named e emitted same at (λ own_is. apart (sym own_is ∙ is))

-- What a call gives that adds the name.
pub gives-number : (s : UnitSource) (texts : List (List ℕ)) (e : Placed) (name : List ℕ) (r : Result StringId CloneError) → type_name s.texts s.entries e ≡ Ok name → IfOk r (IsNumbered texts (wrapper_name e.entry.tag name)) → IfErr r (λ error. error ≡ OutOfMemory) → GivesNumber s texts e r
gives-number s texts e name (Ok id) read numbered memory = record { name = name; read = read; number = numbered }
gives-number s texts e name (Err error) read numbered memory = unnumbered s e error memory

-- ---- a table that grows

-- A number of a name stays so.
name-grown : (s : UnitSource) (old new : List (List ℕ)) (e : Placed) (id : StringId) → Grows old new → IsWrapperName s old e id → IsWrapperName s new e id
name-grown s old new e id grows is = record { name = is.name; read = is.read; number = numbered-grown old new (wrapper_name e.entry.tag is.name) id grows is.number }

wrappers-grown : (c : CloneSource) (s : UnitSource) (old new : List (List ℕ)) (pointer : Bool) (noted : BTreeMap ℕ NotedName) → Grows old new → AreWrapperNames c s old pointer noted → AreWrapperNames c s new pointer noted
wrappers-grown c s old new pointer noted grows are = record { each = λ offset. go offset (get nat_cmp noted offset) (are.each offset) }
  where
    go : (offset : ℕ) (o : Option NotedName) → IfSome o (λ n. NamesWrappers c s old pointer offset n.but n.name) → IfSome o (λ n. NamesWrappers c s new pointer offset n.but n.name)
    go offset None named = tt
    go offset (Some n) named = λ e emitted same at apart. name-grown s old new e n.name grows (named e emitted same at apart)

own-grown : (c : CloneSource) (s : UnitSource) (old new : List (List ℕ)) (noted : BTreeMap ℕ StringId) → Grows old new → AreOwnNames c s old noted → AreOwnNames c s new noted
own-grown c s old new noted grows are = record { each = λ offset. go offset (get nat_cmp noted offset) (are.each offset) }
  where
    go : (offset : ℕ) (o : Option StringId) → IfSome o (λ id. IsOwnName c s old offset id) → IfSome o (λ id. IsOwnName c s new offset id)
    go offset None named = tt
    go offset (Some id) named = λ e emitted at. name-grown s old new e id grows (named e emitted at)

-- Names that are known stay so.
pub names-grown : (c : CloneSource) (s : UnitSource) (old new : List (List ℕ)) (names : TypeNames) → Grows old new → KnowsNames c s old names → KnowsNames c s new names
names-grown c s old new names grows knows = record {
  types = knows.types;
  pointers = wrappers-grown c s old new true names.pointers grows knows.pointers;
  references = wrappers-grown c s old new false names.references grows knows.references;
  rings = own-grown c s old new names.rings grows knows.rings;
  keys = keys-grown c s old new names.keys grows knows.keys;
}

-- So they do where those of rings are known anew.
pub rings-known : {A E : Type 0} (r : Result A E) (c : CloneSource) (s : UnitSource) (texts : List (List ℕ)) (old new : TypeNames) → new.types ≡ old.types → new.pointers ≡ old.pointers → new.references ≡ old.references → new.keys ≡ old.keys → KnowsNames c s texts old → OnOk r (AreOwnNames c s texts new.rings)
    → OnOk r (KnowsNames c s texts new)
rings-known (Ok done) c s texts old new types pointers references keys knows rings = record {
  types = subst (KnowsTypes c s) (sym types) knows.types;
  pointers = subst (AreWrapperNames c s texts true) (sym pointers) knows.pointers;
  references = subst (AreWrapperNames c s texts false) (sym references) knows.references;
  rings = rings;
  keys = subst (KnowsKeys c s texts) (sym keys) knows.keys;
}
rings-known (Err e) c s texts old new types pointers references keys knows rings = tt

-- ---- offsets

-- What holds of an offset that is there.
pub if-some : (P : ℕ → Type 0) (o : Option ℕ) (x : ℕ) → o ≡ Some x → IfSome o P → P x
if-some P o x at is = subst (λ q. IfSome q P) at is

-- What holds of an offset, if there is one.
pub if-more : (P Q : ℕ → Type 0) (o : Option ℕ) → ((x : ℕ) → P x → Q x) → IfSome o P → IfSome o Q
if-more P Q None more is = tt
if-more P Q (Some x) more is = more x is

pub if-at : (P : ℕ → Type 0) (o : Option ℕ) (x : ℕ) → o ≡ Some x → P x → IfSome o P
if-at P o x at is = subst (λ q. IfSome q P) (sym at) is

pub if-none : (P : ℕ → Type 0) (o : Option ℕ) → o ≡ None → IfSome o P
if-none P o at = subst (λ q. IfSome q P) (sym at) tt
