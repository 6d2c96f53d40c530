-- Entries of lists of version 5 that are spelled are read again: `reads-ranges` and `reads-locations` for the walk of `ReadListed`. With
-- `reads-placed` a reader tells where each stands, too.
use Rattle.std.proofs.Common.{◌≡◌, ℕ, suc, ◌+◌, ◌^◌, ◌<◌, refl, sym, ap, subst, ◌∙◌, arith, lit<, List, [], ◌∷◌, ◌++◌, append_assoc, append-nil, length, Option, Some, None, Ok, Err, Bool, true, false}
use Rattle.std.specs.Prelude.{option_map, ◌==◌, if◌then◌else◌}
use Rattle.std.specs.List.{All}
use Rattle.std.proofs.lemmas.Bool.{ne_eqb}
use Rattle.std.proofs.lemmas.List.Elements.{All-head}
use Rattle.dwc_base.specs.declared.constants.TheConstants.{DW_RLE_end_of_list}
use Rattle.dwc_base.specs.declared.records.Address.{Address}
use Rattle.dwc_base.specs.declared.records.Endian.{Endian}
use Rattle.dwc_base.specs.declared.faults.Flaw.TheVariants.{Malformed}
use Rattle.dwc_base.specs.declared.section_name.SectionName.TheVariants.{Loclists}
use Rattle.dwc_base.specs.NumberBytes.{uleb_bytes}
use Rattle.dwc_base.specs.Reading.{Unread, Read, ◌>>=◌, coded}
use Rattle.dwc_base.specs.Sections.{Relocation}
use Rattle.dwc_dwarf.specs.RawLists.{RawEntry, RawLocation, PlacedExpression, EntryKind, start_length, range_kinds, location_kinds, kind_and_entry_at, entry_of_kind_at, selects_base, placed_expression_at, location_behind, end_of_list, a_base_addressx, a_startx_endx, a_startx_length, an_offset_pair, a_default_location, a_base_address, a_start_end, a_start_length}
use Rattle.dwc_dwarf.specs.Values.{sized_number_at}
use Rattle.dwc_output.specs.NewListFields.{with_place}
use Rattle.dwc_base.proofs.Items.{Leaves}
use Rattle.dwc_base.proofs.Spellings.{Spells-bytes}
use Rattle.dwc_base.proofs.Takes.{Leaves-bind, Leaves-same, number_at-leaves}
use Rattle.dwc_base.proofs.TakesMore.{Leaves-more, Leaves-seen, uleb_at-leaves}
use Rattle.dwc_section.specs.Spelled.{SpellsAt}
use Rattle.dwc_section.specs.SpelledAddresses.{AddressField, IsHeld, address_bytes}
use Rattle.dwc_unit.specs.RangeLists.{is_symbol}
use Rattle.dwc_unit.specs.Lists.{ListEntry, counted_bytes, extent_bytes, held_bytes, kind_of, listed_bytes, listed_fields}
use Rattle.dwc_unit.proofs.ReadParts.{behind, here, last, Spells-byte, Spells-uleb_bytes}
use Rattle.dwc_unit.proofs.ReadValues.{address-reads}
use Rattle.dwc_write.proofs.ReadListed.{ReadsEntries, address-leaves, bytes-leaves, symbol-fits}

-- ---- each entry takes a byte at least

kind-leaves : (relocations : List Relocation) (size : ℕ) (kind : EntryKind) (u : Unread) → 0 < size → Leaves (entry_of_kind_at relocations size kind u) (suc (length u.left))
unfolding entry_of_kind_at
kind-leaves relocations size end_of_list u some = Leaves-same _ _
kind-leaves relocations size a_base_addressx u some = Leaves-seen _ _ _ (Leaves-more _ _ (uleb_at-leaves u))
kind-leaves relocations size a_startx_endx u some = Leaves-bind _ _ _ (Leaves-more _ _ (uleb_at-leaves u)) (λ a. Leaves-bind _ _ _ (Leaves-more _ _ (uleb_at-leaves a.1)) (λ b. Leaves-same _ _))
kind-leaves relocations size a_startx_length u some = Leaves-bind _ _ _ (Leaves-more _ _ (uleb_at-leaves u)) (λ a. Leaves-bind _ _ _ (Leaves-more _ _ (uleb_at-leaves a.1)) (λ b. Leaves-same _ _))
kind-leaves relocations size an_offset_pair u some = Leaves-bind _ _ _ (Leaves-more _ _ (uleb_at-leaves u)) (λ a. Leaves-bind _ _ _ (Leaves-more _ _ (uleb_at-leaves a.1)) (λ b. Leaves-same _ _))
kind-leaves relocations size a_default_location u some = Leaves-same _ _
kind-leaves relocations size a_base_address u some = Leaves-seen _ _ _ (Leaves-more _ _ (address-leaves relocations size u some))
kind-leaves relocations size a_start_end u some =
    Leaves-bind _ _ _ (Leaves-more _ _ (address-leaves relocations size u some)) (λ a. Leaves-bind _ _ _ (Leaves-more _ _ (address-leaves relocations size a.1 some)) (λ b. Leaves-same _ _))
kind-leaves relocations size a_start_length u some = Leaves-bind _ _ _ (Leaves-more _ _ (address-leaves relocations size u some)) (λ a. Leaves-bind _ _ _ (Leaves-more _ _ (uleb_at-leaves a.1)) (λ b. Leaves-same _ _))

entry-leaves : (kinds : List (ℕ × EntryKind)) (relocations : List Relocation) (size : ℕ) (u : Unread) → 0 < size → Leaves (kind_and_entry_at kinds relocations size u) (length u.left)
unfolding kind_and_entry_at
entry-leaves kinds relocations size u some = Leaves-bind _ _ _ (number_at-leaves 1 u (lit< tt)) (λ code. go (coded kinds code.0) code.1)
  where
    go : (o : Option EntryKind) (v : Unread) → Leaves {A = Option RawEntry} (elim o [ None ↦ Err Malformed | Some kind ↦ entry_of_kind_at relocations size kind v ]) (suc (length v.left))
    go None v = record { fewer = tt }
    go (Some kind) v = kind-leaves relocations size kind v some

expression-leaves : (u : Unread) → Leaves (placed_expression_at Loclists u) (suc (length u.left))
unfolding placed_expression_at sized_number_at
expression-leaves u = Leaves-more _ _ (Leaves-bind _ _ _ (uleb_at-leaves u) (λ count. Leaves-bind _ _ _ (bytes-leaves count.0 count.1) (λ bytes. Leaves-same _ _)))

-- an entry of a location list: what it says of addresses, and what stands behind it
abbrev pub location_at : List Relocation → ℕ → Unread → Read (Option RawLocation)
location_at relocations size u = kind_and_entry_at location_kinds relocations size u >>= λ e. elim e.0 [ None ↦ Ok (None, e.1) | Some x ↦ location_behind Loclists x e.1 ]

behind-leaves : (e : RawEntry) (u : Unread) → Leaves (location_behind Loclists e u) (suc (length u.left))
unfolding location_behind
behind-leaves e u = go (selects_base e)
  where
    go : (b : Bool) → Leaves {A = Option RawLocation} (elim b [ true ↦ Ok (Some (record { says = e; holds = None }), u) | false ↦ (placed_expression_at Loclists u >>= λ x. Ok (Some (record { says = e; holds = Some x.0 }), x.1)) ]) (suc (length u.left))
    go true = Leaves-same _ _
    go false = Leaves-bind _ _ _ (expression-leaves u) (λ x. Leaves-same _ _)

location-leaves : (relocations : List Relocation) (size : ℕ) (u : Unread) → 0 < size → Leaves (location_at relocations size u) (length u.left)
location-leaves relocations size u some = Leaves-bind _ _ _ (entry-leaves location_kinds relocations size u some) (λ e. go e.0 e.1)
  where
    go : (o : Option RawEntry) (v : Unread) → Leaves {A = Option RawLocation} (elim o [ None ↦ Ok (None, v) | Some x ↦ location_behind Loclists x v ]) (suc (length v.left))
    go None v = Leaves-same _ _
    go (Some x) v = behind-leaves x v

-- ---- one entry

-- what it is read as
abbrev pub raw_counted : ListEntry → RawEntry
raw_counted e = start_length e.begin e.extent

-- What is asked of an entry: it begins at a function, is not empty, and its length is a number.
pub record IsCounted (e : ListEntry) : Type 0 where
  pub symbol : is_symbol e.begin ≡ true
  pub some : 0 < e.extent
  pub small : e.extent < 2 ^ 64

not-end : (e : ListEntry) → 0 < e.extent → (e.extent == 0) ≡ false
not-end e some = ne_eqb e.extent 0 (λ is. absurd (omega (arith, is, some)))

counted-is : (order : Endian) (size : ℕ) (e : ListEntry) → 0 < e.extent → counted_bytes 5 order size e ≡ extent_bytes 5 order size e
counted-is order size e some = rw (not-end e some) refl

-- the field of its address
abbrev begin_field : ℕ → ℕ → ListEntry → AddressField
begin_field size place e = record { offset = place + 1; size = size; address = e.begin }

begin-held : (order : Endian) (rs : List Relocation) (place size : ℕ) (e : ListEntry) → 0 < e.extent → All (IsHeld rs) (listed_fields 5 order size place e) → IsHeld rs (begin_field size place e)
begin-held order rs place size e some held =
    let is : listed_fields 5 order size place e ≡ begin_field size place e ∷ [] = ap (λ b. if b then [] else begin_field size place e ∷ []) (not-end e some) in
    All-head (IsHeld rs) (begin_field size place e) [] (subst (λ (fs : List AddressField). All (IsHeld rs) fs) is held)

-- what stands in front of an expression
abbrev front_bytes : Endian → ℕ → ListEntry → List ℕ
front_bytes order size e = kind_of e.holds ∷ (address_bytes order size e.begin ++ uleb_bytes e.extent)

-- the address and the length, behind the code of their kind
front-read : (kinds : List (ℕ × EntryKind)) (code : ℕ) → coded kinds code ≡ Some a_start_length → (order : Endian) (rs : List Relocation) (place size : ℕ) (e : ListEntry) → IsCounted e → IsHeld rs (begin_field size place e)
    → SpellsAt order place (kind_and_entry_at kinds rs size) (code ∷ (address_bytes order size e.begin ++ uleb_bytes e.extent)) (Some (raw_counted e))
unfolding kind_and_entry_at entry_of_kind_at
front-read kinds code known order rs place size e is held =
    behind _ {bs = code ∷ []} (here place (Spells-byte order code))
    (rw (known) (behind _ (address-reads order rs (place + 1) size e.begin (symbol-fits size e.begin is.symbol) held) (last _ (here _ (Spells-uleb_bytes order e.extent is.small)) (λ u. refl))))

end-read : (kinds : List (ℕ × EntryKind)) → coded kinds DW_RLE_end_of_list ≡ Some end_of_list → (order : Endian) (rs : List Relocation) (place size : ℕ) → SpellsAt order place (kind_and_entry_at kinds rs size) (DW_RLE_end_of_list ∷ []) None
unfolding kind_and_entry_at entry_of_kind_at
end-read kinds known order rs place size = last _ (here place (Spells-byte order DW_RLE_end_of_list)) (λ u. rw (known) refl)

-- nothing stands behind what has no expression
front-alone : (order : Endian) (size : ℕ) (e : ListEntry) → 0 < e.extent → e.holds ≡ None → 7 ∷ (address_bytes order size e.begin ++ uleb_bytes e.extent) ≡ listed_bytes 5 order size e
front-alone order size e some none =
    sym (counted-is order size e some ∙ rw (none) (ap (λ bs. 7 ∷ (address_bytes order size e.begin ++ bs)) (append-nil (uleb_bytes e.extent))))

-- an entry of a range list
range-reads : (order : Endian) (rs : List Relocation) (place size : ℕ) (e : ListEntry) → IsCounted e → e.holds ≡ None → All (IsHeld rs) (listed_fields 5 order size place e) → SpellsAt order place (kind_and_entry_at range_kinds rs size) (listed_bytes 5 order size e) (Some (raw_counted e))
range-reads order rs place size e is none held =
    subst (λ bs. SpellsAt order place (kind_and_entry_at range_kinds rs size) bs (Some (raw_counted e))) (front-alone order size e is.some none)
    (front-read range_kinds 7 refl order rs place size e is (begin-held order rs place size e is.some held))

-- an expression behind its length
abbrev placed_at : ℕ → List ℕ → PlacedExpression
placed_at place bytes = record { section = Loclists; place = place + length (uleb_bytes (length bytes)); bytes = bytes }

expression-reads : (order : Endian) (place : ℕ) (bytes : List ℕ) → length bytes < 2 ^ 64 → SpellsAt order place (placed_expression_at Loclists) (held_bytes 5 order (Some bytes)) (placed_at place bytes)
unfolding placed_expression_at sized_number_at
expression-reads order place bytes small = behind _ (here place (Spells-uleb_bytes order (length bytes) small)) (record { reads = λ rest. rw ((Spells-bytes order bytes).reads) refl })

-- what an entry of a location list is read as
abbrev pub raw_location : Endian → ℕ → ℕ → ListEntry → RawLocation
raw_location order size place e = record { says = raw_counted e; holds = option_map (placed_at (place + length (front_bytes order size e))) e.holds }

behind-reads : (order : Endian) (place : ℕ) (a : Address) (n : ℕ) (bytes : List ℕ) → length bytes < 2 ^ 64 → SpellsAt order place (location_behind Loclists (start_length a n)) (held_bytes 5 order (Some bytes)) (Some (record { says = start_length a n; holds = Some (placed_at place bytes) }))
unfolding location_behind
behind-reads order place a n bytes small = last _ (expression-reads order place bytes small) (λ u. refl)

location-reads : (order : Endian) (rs : List Relocation) (place size : ℕ) (e : ListEntry) (bytes : List ℕ) → IsCounted e → e.holds ≡ Some bytes → length bytes < 2 ^ 64 → All (IsHeld rs) (listed_fields 5 order size place e)
    → SpellsAt order place (location_at rs size) (listed_bytes 5 order size e) (Some (raw_location order size place e))
location-reads order rs place size e bytes is holds small held =
    let begin = address_bytes order size e.begin in
    let extent = uleb_bytes e.extent in
    let front : List ℕ = 8 ∷ (begin ++ extent) in
    let fronts : front ≡ front_bytes order size e = ap (λ o. kind_of o ∷ (begin ++ extent)) (sym holds) in
    let together : front ++ held_bytes 5 order (Some bytes) ≡ listed_bytes 5 order size e =
    ap (λ bs. 8 ∷ bs) (append_assoc begin extent (held_bytes 5 order (Some bytes))) ∙ ap (λ o. kind_of o ∷ (begin ++ (extent ++ held_bytes 5 order o))) (sym holds) ∙ sym (counted-is order size e is.some) in
    let read : RawLocation = record { says = raw_counted e; holds = Some (placed_at (place + length front) bytes) } in
    let same : Some read ≡ Some (raw_location order size place e) =
    ap (λ bs. Some (record { says = raw_counted e; holds = Some (placed_at (place + length bs) bytes) })) fronts ∙ ap (λ o. Some (record { says = raw_counted e; holds = option_map (placed_at (place + length (front_bytes order size e))) o })) (sym holds) in
    subst (λ x. SpellsAt order place (location_at rs size) (listed_bytes 5 order size e) x) same
    (subst (λ bs. SpellsAt order place (location_at rs size) bs (Some read)) together
    (behind _ (front-read location_kinds 8 refl order rs place size e is (begin-held order rs place size e is.some held)) (behind-reads order (place + length front) e.begin e.extent bytes small)))

-- ---- for the walk

-- what is asked of an entry of a range list
pub record IsRange (e : ListEntry) : Type 0 where
  pub is : IsCounted e
  pub alone : e.holds ≡ None

pub reads-ranges : (order : Endian) (rs : List Relocation) (size : ℕ) → 0 < size → ReadsEntries 5 rs order size (kind_and_entry_at range_kinds rs size) IsRange (λ place e. raw_counted e)
reads-ranges order rs size some = record {
  leaves = λ u. entry-leaves range_kinds rs size u some;
  each = λ place e one held. range-reads order rs place size e one.is one.alone held;
  end = λ place held. end-read range_kinds refl order rs place size;
}

-- and of one of a location list
pub record IsLocation (e : ListEntry) : Type 0 where
  pub is : IsCounted e
  pub bytes : List ℕ
  pub holds : e.holds ≡ Some bytes
  pub small : length bytes < 2 ^ 64

pub reads-locations : (order : Endian) (rs : List Relocation) (size : ℕ) → 0 < size → ReadsEntries 5 rs order size (location_at rs size) IsLocation (λ place e. raw_location order size place e)
reads-locations order rs size some = record {
  leaves = λ u. location-leaves rs size u some;
  each = λ place e one held. location-reads order rs place size e one.bytes one.is one.holds one.small held;
  end = λ place held. last _ (end-read location_kinds refl order rs place size) (λ u. refl);
}

-- a reader that tells where each entry stands
pub reads-placed : {A : Type 0} (version : ℕ) (rs : List Relocation) (order : Endian) (size : ℕ) (reader : Unread → Read (Option A)) (P : ListEntry → Type 0) (view : ℕ → ListEntry → A)
    → ReadsEntries version rs order size reader P view → ReadsEntries version rs order size (with_place reader) P (λ place e. (place, view place e))
reads-placed version rs order size reader P view reads = record {
  leaves = λ u. Leaves-seen _ _ _ (reads.leaves u);
  each = λ place e one held. record { reads = λ rest. rw ((reads.each place e one held).reads rest) refl };
  end = λ place held. record { reads = λ rest. rw ((reads.end place held).reads rest) refl };
}
