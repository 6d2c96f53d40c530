-- The lists of a unit as code writes them in version 5: room for a length, the header and the lists, and the length put in.
use Rattle.std.proofs.Common.{◌≡◌, ◌<◌, ◌≤◌, ℕ, suc, ◌+◌, ◌/◌, ◌%◌, refl, sym, ap, subst, ◌∙◌, arith, List, [], ◌∷◌, ◌++◌, append_assoc, length, length-append, drop, get_or, map, Bool, true, false, Err, Ok}
use Rattle.std.specs.Prelude.{◌-◌, ◌&&◌, if◌then◌else◌, Result}
use Rattle.std.specs.List.{All, list_all}
use Rattle.std.proofs.lemmas.List.{drop_all}
use Rattle.dwc_base.specs.NumberBytes.{number_bytes, uleb_bytes}
use Rattle.dwc_section.specs.declared.error.WriteError.{WriteError}
use Rattle.dwc_section.specs.Spelled.{sized_bytes}
use Rattle.dwc_section.specs.Writers.{Writing, IsClear, Refuses, Writes, appended, overwritten}
use Rattle.dwc_section.proofs.ReadNumbers.{number_bytes-length, uleb_bytes-more, uleb_bytes-small}
use Rattle.dwc_section.proofs.RefusalLaws.{past-more}
use Rattle.dwc_section.proofs.WritesLaws.{appended-nothing, appended-twice, length-behind, order-behind, patched}
use Rattle.dwc_output.specs.Versions.{is_old}
use Rattle.dwc_unit.specs.declared.attributes.Attribute.{Attribute}
use Rattle.dwc_unit.specs.declared.attributes.AttributeValue.{AttributeValue}
use Rattle.dwc_unit.specs.declared.attributes.AttributeValue.TheVariants.{Address, Constant, Flag, Block, Exprloc, StringRef, LineProgramRef, RangeListRef, LocationListRef, UnitRef, DebugInfoRef}
use Rattle.dwc_unit.specs.declared.lists.ListKind.{ListKind}
use Rattle.dwc_unit.specs.declared.lists.ListKind.TheVariants.{Ranges, Locations}
use Rattle.dwc_unit.specs.GivenUnits.{GivenEntry, lists_of_entries}
use Rattle.dwc_unit.specs.Lists.{ListEntry, contribution_bytes, contribution_relocations, ended, headed_bytes, list_bytes, list_end, list_relocations, lists_by, lists_header, lists_of_attributes, location_entry, range_entry}
use Rattle.dwc_write.specs.Noted.{are_free, is_free}
use Rattle.dwc_write.proofs.ListLaws.{drop-more}
use Rattle.dwc_write.proofs.ListPlaces.{headed-length, header-length}
use Rattle.dwc_write.proofs.ReadRelocations.{clear-between}
use Rattle.dwc_write.proofs.RelatedLists.{list-rise}

-- ---- a LEB128 number, byte by byte

pub uleb-more : (n : ℕ) (w v all : Writing) → 128 ≤ n → appended (uleb_bytes n) [] w ≡ all → v ≡ appended ((128 + n % 128) ∷ []) [] w → appended (uleb_bytes (n / 128)) [] v ≡ all
uleb-more n w v all large invariant step =
    appended-twice w v (appended (uleb_bytes (n / 128)) [] v) ((128 + n % 128) ∷ []) (uleb_bytes (n / 128)) [] [] step refl ∙ ap (λ bs. appended bs [] w) (sym (uleb_bytes-more n large)) ∙ invariant

pub uleb-refused : (n value : ℕ) (w a now : Writing) (result : Result (Unit {0}) WriteError) (e : WriteError) → 128 ≤ n → appended (uleb_bytes n) [] w ≡ appended (uleb_bytes value) [] a → ((error : WriteError) × (result ≡ Err error) × (error ≡ e)) → Refuses e w 1 → Writes a now result (uleb_bytes value) []
uleb-refused n value w a now result e large invariant p refused =
    let is : result ≡ Err e = p.1 ∙ ap Err p.2 in
    let long = ap (λ (v : Writing). length v.body) invariant in
    let more = ap length (uleb_bytes-more n large) in
    let later : Refuses e a (length (uleb_bytes value)) =
    past-more w.name a.name _ _ e (ap (λ (v : Writing). v.name) invariant) (λ past. omega (arith, past, long, more, length-append w.body (uleb_bytes n), length-append a.body (uleb_bytes value))) refused in
    rw (is) later

pub uleb-last : (n value : ℕ) (w a now : Writing) (result : Result (Unit {0}) WriteError) → n < 128 → appended (uleb_bytes n) [] w ≡ appended (uleb_bytes value) [] a → Writes w now result (n ∷ []) [] → Writes a now result (uleb_bytes value) []
uleb-last n value w a now (Ok done) small invariant written = written ∙ ap (λ bs. appended bs [] w) (sym (uleb_bytes-small n small)) ∙ invariant
uleb-last n value w a now (Err e) small invariant refused =
    let long = ap (λ (v : Writing). length v.body) invariant in
    let one = ap length (uleb_bytes-small n small) in
    past-more w.name a.name _ _ e (ap (λ (v : Writing). v.name) invariant) (λ past. omega (arith, past, long, one, length-append w.body (uleb_bytes n), length-append a.body (uleb_bytes value))) refused

-- ---- whether there is a list

pub all-step : {A : Type 0} (test : A → Bool) (xs : List A) (i : ℕ) (d : A) (all : Bool) → i < length xs → test (get_or xs i d) ≡ true → list_all test (drop i xs) ≡ all → list_all test (drop (suc i) xs) ≡ all
all-step test xs i d all within passes invariant = sym (ap (λ b. b && list_all test (drop (suc i) xs)) passes) ∙ sym (ap (list_all test) (drop-more xs i d within)) ∙ invariant

pub all-stop : {A : Type 0} (test : A → Bool) (xs : List A) (i : ℕ) (d : A) (all : Bool) → i < length xs → test (get_or xs i d) ≡ false → list_all test (drop i xs) ≡ all → false ≡ all
all-stop test xs i d all within fails invariant = sym (ap (λ b. b && list_all test (drop (suc i) xs)) fails) ∙ sym (ap (list_all test) (drop-more xs i d within)) ∙ invariant

pub all-end : {A : Type 0} (test : A → Bool) (xs : List A) (i : ℕ) (all : Bool) → length xs ≤ i → list_all test (drop i xs) ≡ all → true ≡ all
all-end test xs i all past invariant = let none : drop i xs ≡ [] = drop_all i xs past in sym (ap (list_all test) none) ∙ invariant

-- there is nothing, or something
abbrev pub IsThereIf : Bool → List ListEntry → Type 0
IsThereIf true es = es ≡ []
IsThereIf false es = (e : ListEntry) × (fs : List ListEntry) × (es ≡ e ∷ fs)

both-agree : (a b : Bool) (es fs : List ListEntry) → IsThereIf a es → IsThereIf b fs → IsThereIf (a && b) (es ++ fs)
both-agree true true es fs first second = rw (first, second) refl
both-agree true false es fs first second = (second.0, second.1, rw (first) second.2)
both-agree false b es fs first second = (first.0, first.1 ++ fs, ap (λ gs. gs ++ fs) first.2)

ended-there : (es : List ListEntry) → IsThereIf false (ended es)
ended-there [] = (list_end, [], refl)
ended-there (e ∷ es) = (e, ended es, refl)

value-agrees : (kind : ListKind) (v : AttributeValue) → IsThereIf (is_free kind v) (lists_by kind v)
value-agrees Ranges (RangeListRef list) = ended-there (map range_entry list.ranges.items)
value-agrees Locations (LocationListRef list) = ended-there (map location_entry list.locations.items)
value-agrees Ranges (LocationListRef list) = refl
value-agrees Ranges (Address a) = refl
value-agrees Ranges (Constant form bits) = refl
value-agrees Ranges (Flag b) = refl
value-agrees Ranges (Block bytes) = refl
value-agrees Ranges (Exprloc e) = refl
value-agrees Ranges (StringRef id) = refl
value-agrees Ranges LineProgramRef = refl
value-agrees Ranges (UnitRef id) = refl
value-agrees Ranges (DebugInfoRef reference) = refl
value-agrees Locations (RangeListRef list) = refl
value-agrees Locations (Address a) = refl
value-agrees Locations (Constant form bits) = refl
value-agrees Locations (Flag b) = refl
value-agrees Locations (Block bytes) = refl
value-agrees Locations (Exprloc e) = refl
value-agrees Locations (StringRef id) = refl
value-agrees Locations LineProgramRef = refl
value-agrees Locations (UnitRef id) = refl
value-agrees Locations (DebugInfoRef reference) = refl

attributes-agree : (kind : ListKind) (xs : List Attribute) → IsThereIf (are_free kind xs) (lists_of_attributes (lists_by kind) xs)
attributes-agree kind [] = refl
attributes-agree kind (x ∷ xs) = both-agree (is_free kind x.value) (are_free kind xs) (lists_by kind x.value) (lists_of_attributes (lists_by kind) xs) (value-agrees kind x.value) (attributes-agree kind xs)

entries-agree : (kind : ListKind) (es : List GivenEntry) → IsThereIf (list_all (λ e. are_free kind e.attributes) es) (lists_of_entries (lists_by kind) es)
entries-agree kind [] = refl
entries-agree kind (e ∷ es) =
    both-agree (are_free kind e.attributes) (list_all (λ (x : GivenEntry). are_free kind x.attributes) es) (lists_of_attributes (lists_by kind) e.attributes) (lists_of_entries (lists_by kind) es) (attributes-agree kind e.attributes) (entries-agree kind es)

pub none-there : (kind : ListKind) (es : List GivenEntry) → list_all (λ e. are_free kind e.attributes) es ≡ true → lists_of_entries (lists_by kind) es ≡ []
none-there kind es free = subst (λ b. IsThereIf b (lists_of_entries (lists_by kind) es)) free (entries-agree kind es)

pub some-there : (kind : ListKind) (es : List GivenEntry) → list_all (λ e. are_free kind e.attributes) es ≡ false → IsThereIf false (lists_of_entries (lists_by kind) es)
some-there kind es taken = subst (λ b. IsThereIf b (lists_of_entries (lists_by kind) es)) taken (entries-agree kind es)

-- where there are none nothing is written
pub nothing-written : (version size : ℕ) (es : List ListEntry) (a : Writing) → es ≡ [] → a ≡ appended (contribution_bytes version a.order size es) (contribution_relocations version a.order size (length a.body) es) a
nothing-written version size es a none =
    let P : List ListEntry → Type 0 = λ fs. a ≡ appended (contribution_bytes version a.order size fs) (contribution_relocations version a.order size (length a.body) fs) a in
    subst P (sym none) (go (is_old version))
  where
    go : (old : Bool) → a ≡ appended (if old then [] else []) [] a
    go true = appended-nothing a
    go false = appended-nothing a

-- ---- a header, the lists, and the length put in

abbrev pub room : List ℕ
room = 0 ∷ 0 ∷ 0 ∷ 0 ∷ []

module _ (version size : ℕ) (es : List ListEntry) (there : IsThereIf false es) (a b : Writing) (headed : b ≡ appended (room ++ lists_header version a.order size) [] a) where
  body_of : List ℕ
  body_of = lists_header version a.order size ++ list_bytes version a.order size es

  whole-is : headed_bytes version a.order size es ≡ sized_bytes a.order (lists_header version a.order size ++ list_bytes version a.order size es)
  whole-is =
      let P : List ListEntry → Type 0 = λ fs. headed_bytes version a.order size fs ≡ sized_bytes a.order (lists_header version a.order size ++ list_bytes version a.order size fs) in
      subst P (sym there.2) refl

  same-order : b.order ≡ a.order
  same-order = order-behind a b (room ++ lists_header version a.order size) [] headed

  front-length : length (room ++ lists_header version a.order size) ≡ 12
  front-length = omega (arith, header-length version a.order size)

  -- how long the whole is
  pub headed-whole : length (headed_bytes version a.order size es) ≡ 12 + length (list_bytes version a.order size es)
  headed-whole =
      let P : List ListEntry → Type 0 = λ fs. length (headed_bytes version a.order size fs) ≡ 12 + length (list_bytes version a.order size fs) in
      subst P (sym there.2) (headed-length version a.order size there.0 there.1)

  pub header-within : length (room ++ lists_header version a.order size) ≤ length (headed_bytes version a.order size es)
  header-within = omega (arith, headed-whole, front-length)

  pub lists-within : length (room ++ lists_header version a.order size) + length (list_bytes version b.order size es) ≤ length (headed_bytes version a.order size es)
  lists-within = let same = ap (λ o. length (list_bytes version o size es)) same-order in omega (arith, same, headed-whole, front-length)

  module _ (c : Writing) (filled : c ≡ appended (list_bytes version b.order size es) (list_relocations version b.order size (length b.body) es) b) where
    written : c ≡ appended (room ++ (lists_header version a.order size ++ list_bytes version a.order size es)) (list_relocations version a.order size (length a.body + 12) es) a
    written =
        let front = room ++ lists_header version a.order size in
        let lists = list_bytes version a.order size es in
        let place : length b.body ≡ length a.body + 12 = omega (arith, length-behind a b front [] headed, front-length) in
        let step : c ≡ appended lists (list_relocations version a.order size (length a.body + 12) es) b =
        filled ∙ ap (λ o. appended (list_bytes version o size es) (list_relocations version o size (length b.body) es) b) same-order ∙ ap (λ p. appended lists (list_relocations version a.order size p es) b) place in
        appended-twice a b c front lists [] (list_relocations version a.order size (length a.body + 12) es) headed step
        ∙ ap (λ bytes. appended bytes (list_relocations version a.order size (length a.body + 12) es) a) (append_assoc room (lists_header version a.order size) lists)

    -- no relocation is at the length
    pub length-clear : All (λ r. r.offset + r.size ≤ length a.body) a.relocations → IsClear (length a.body) 4 c.relocations
    length-clear before =
        let from = length a.body + 12 in
        rw written (clear-between (length a.body) 4 from (from + length (list_bytes version a.order size es)) a.relocations (list_relocations version a.order size from es) before (list-rise version a.order size from es) (omega arith))

    pub length-inside : length a.body + 4 ≤ length c.body
    length-inside = omega (arith, length-behind a c (room ++ (lists_header version a.order size ++ list_bytes version a.order size es)) (list_relocations version a.order size (length a.body + 12) es) written)

    -- with the length put in, they are the lists of a unit
    pub contribution-appended : (d : Writing) → d ≡ overwritten (length a.body) (number_bytes c.order 4 (length c.body - (length a.body + 4))) [] c
        → d ≡ appended (headed_bytes version a.order size es) (list_relocations version a.order size (length a.body + 12) es) a
    contribution-appended d over =
        let body = lists_header version a.order size ++ list_bytes version a.order size es in
        let relocations = list_relocations version a.order size (length a.body + 12) es in
        let order : c.order ≡ a.order = order-behind a c (room ++ body) relocations written in
        let value : length c.body - (length a.body + 4) ≡ length body = omega (arith, length-behind a c (room ++ body) relocations written) in
        let size_bytes = number_bytes c.order 4 (length c.body - (length a.body + 4)) in
        let sized : size_bytes ≡ number_bytes a.order 4 (length body) = ap (λ o. number_bytes o 4 (length c.body - (length a.body + 4))) order ∙ ap (number_bytes a.order 4) value in
        patched a c d room size_bytes body relocations refl (number_bytes-length c.order 4 _) written over ∙ ap (λ bytes. appended bytes relocations a) (ap (λ bytes. bytes ++ body) sized ∙ sym whole-is)
