-- Entries of lists that are spelled are read again, one behind another up to their end: `list-walked`, for the readers of both kinds. Here are
-- those up to version 4; those of version 5 are in `ReadCounted`.
use Rattle.std.proofs.Common.{◌≡◌, ℕ, zero, suc, ◌+◌, ◌^◌, ◌<◌, refl, sym, ap, subst, ◌∙◌, arith, lit<, List, [], ◌∷◌, ◌++◌, append_assoc, append-nil, length, length-drop, take, Option, Some, None, Ok, Err, Bool, true, false, ltb}
use Rattle.std.specs.Prelude.{if◌then◌else◌, option_map}
use Rattle.std.specs.List.{All}
use Rattle.std.proofs.lemmas.List.Elements.{All-head, All-tail}
use Rattle.dwc_base.specs.declared.records.Address.{Address}
use Rattle.dwc_base.specs.declared.records.Address.TheVariants.{Constant, Symbol}
use Rattle.dwc_base.specs.declared.records.Endian.{Endian}
use Rattle.dwc_base.specs.declared.faults.Flaw.{Flaw}
use Rattle.dwc_base.specs.declared.faults.Flaw.TheVariants.{EndsEarly}
use Rattle.dwc_base.specs.declared.section_name.SectionName.TheVariants.{Loc}
use Rattle.dwc_base.specs.NumberBytes.{number_bytes}
use Rattle.dwc_base.specs.Reading.{Unread, Read, ◌>>=◌, bytes_at, passed}
use Rattle.dwc_base.specs.Listing.{Next, at_end, broken, item, with_first, walk}
use Rattle.dwc_base.specs.Sections.{Fault, Relocation, address_at}
use Rattle.dwc_dwarf.specs.RawLists.{RawEntry, RawLocation, PlacedExpression, pair, entry_of_pair, pair_at, selects_base, placed_expression_at, location_behind, next_item, unread_length}
use Rattle.dwc_base.specs.Spelling.{unread_at}
use Rattle.dwc_dwarf.specs.Values.{sized_number_at}
use Rattle.dwc_base.proofs.Items.{Leaves, LeavesFewer}
use Rattle.dwc_base.proofs.Spellings.{Spells-bytes}
use Rattle.dwc_base.proofs.Takes.{Leaves-bind, Leaves-same, number_at-leaves}
use Rattle.dwc_base.proofs.TakesMore.{Leaves-more}
use Rattle.dwc_base.proofs.Walks.{GoesOn, walk-end, walk-item}
use Rattle.dwc_section.specs.Spelled.{SpellsAt, at_places}
use Rattle.dwc_section.specs.SpelledAddresses.{AddressField, IsHeld, address_bytes, FitsAddress}
use Rattle.dwc_unit.specs.RangeLists.{address_behind, is_symbol}
use Rattle.dwc_unit.specs.Lists.{ListEntry, end_of, ended, held_bytes, list_bytes, list_end, list_fields, listed_bytes, listed_fields}
use Rattle.dwc_unit.proofs.ReadParts.{behind, here, last, Spells-number_bytes}
use Rattle.dwc_unit.proofs.ReadValues.{address-reads, All-back, All-front}

-- ---- each entry takes a byte at least

pub address-leaves : (relocations : List Relocation) (size : ℕ) (u : Unread) → 0 < size → Leaves (address_at relocations size u) (length u.left)
unfolding address_at
address-leaves relocations size u some = Leaves-bind _ _ _ (number_at-leaves size u some) (λ spelled. Leaves-same _ _)

pub pair-leaves : (relocations : List Relocation) (size : ℕ) (u : Unread) → 0 < size → Leaves (pair_at relocations size u) (length u.left)
unfolding pair_at
pair-leaves relocations size u some =
    Leaves-bind _ _ _ (address-leaves relocations size u some) (λ begin. Leaves-bind _ _ _ (Leaves-more _ _ (address-leaves relocations size begin.1 some)) (λ end. Leaves-same _ _))

-- bytes of any number, also of none
pub bytes-leaves : (size : ℕ) (u : Unread) → Leaves (bytes_at size u) (suc (length u.left))
unfolding bytes_at
bytes-leaves size u = record { fewer = go (ltb (length u.left) size) }
  where
    go : (b : Bool) → LeavesFewer {A = List ℕ} (if b then Err EndsEarly else Ok (take size u.left, passed size u)) (suc (length u.left))
    go true = tt
    go false = omega (arith, length-drop size u.left)

expression-leaves : (u : Unread) → Leaves (placed_expression_at Loc u) (suc (length u.left))
unfolding placed_expression_at sized_number_at
expression-leaves u = Leaves-more _ _ (Leaves-bind _ _ _ (number_at-leaves 2 u (lit< tt)) (λ count. Leaves-bind _ _ _ (bytes-leaves count.0 count.1) (λ bytes. Leaves-same _ _)))

-- an entry of a location list: a pair, and what stands behind it
abbrev pub location_at : List Relocation → ℕ → Unread → Read (Option RawLocation)
location_at relocations size u = pair_at relocations size u >>= λ e. elim e.0 [ None ↦ Ok (None, e.1) | Some x ↦ location_behind Loc x e.1 ]

behind-leaves : (e : RawEntry) (u : Unread) → Leaves (location_behind Loc e u) (suc (length u.left))
unfolding location_behind
behind-leaves e u = go (selects_base e)
  where
    go : (b : Bool) → Leaves {A = Option RawLocation} (elim b [ true ↦ Ok (Some (record { says = e; holds = None }), u) | false ↦ (placed_expression_at Loc u >>= λ x. Ok (Some (record { says = e; holds = Some x.0 }), x.1)) ]) (suc (length u.left))
    go true = Leaves-same _ _
    go false = Leaves-bind _ _ _ (expression-leaves u) (λ x. Leaves-same _ _)

pub location-leaves : (relocations : List Relocation) (size : ℕ) (u : Unread) → 0 < size → Leaves (location_at relocations size u) (length u.left)
location-leaves relocations size u some = Leaves-bind _ _ _ (pair-leaves relocations size u some) (λ e. go e.0 e.1)
  where
    go : (o : Option RawEntry) (v : Unread) → Leaves {A = Option RawLocation} (elim o [ None ↦ Ok (None, v) | Some x ↦ location_behind Loc x v ]) (suc (length v.left))
    go None v = Leaves-same _ _
    go (Some x) v = behind-leaves x v

-- ---- one entry

-- what its ends are read as
abbrev pub raw_pair : ListEntry → RawEntry
raw_pair e = pair e.begin (end_of e)

pub symbol-fits : (size : ℕ) (a : Address) → is_symbol a ≡ true → FitsAddress size a
symbol-fits size (Constant n) symbol = absurd (cc)
symbol-fits size (Symbol f addend) symbol = tt

behind-symbol : (a : Address) (n : ℕ) → is_symbol a ≡ true → is_symbol (address_behind a n) ≡ true
behind-symbol (Constant m) n symbol = absurd (cc)
behind-symbol (Symbol f addend) n symbol = refl

entry-of_symbol : (size : ℕ) (a b : Address) → is_symbol a ≡ true → entry_of_pair size a b ≡ Some (pair a b)
entry-of_symbol size (Constant n) b symbol = absurd (cc)
entry-of_symbol size (Symbol f addend) b symbol = refl

-- both ends as they stand
abbrev ends_bytes : Endian → ℕ → ListEntry → List ℕ
ends_bytes order size e = address_bytes order size e.begin ++ address_bytes order size (end_of e)

-- the fields of both
abbrev begin_field : Endian → ℕ → ℕ → ListEntry → AddressField
begin_field order size place e = record { offset = place; size = size; address = e.begin }

abbrev end_field : Endian → ℕ → ℕ → ListEntry → AddressField
end_field order size place e = record { offset = place + length (address_bytes order size e.begin); size = size; address = end_of e }

both-held : (order : Endian) (rs : List Relocation) (place size : ℕ) (e : ListEntry) → All (IsHeld rs) (listed_fields 4 order size place e) → IsHeld rs (begin_field order size place e) × IsHeld rs (end_field order size place e)
both-held order rs place size e held =
    (All-head (IsHeld rs) (begin_field order size place e) (end_field order size place e ∷ []) held, All-head (IsHeld rs) (end_field order size place e) [] (All-tail (IsHeld rs) (begin_field order size place e) (end_field order size place e ∷ []) held))

ends-read : (order : Endian) (rs : List Relocation) (place size : ℕ) (e : ListEntry) → is_symbol e.begin ≡ true → All (IsHeld rs) (listed_fields 4 order size place e) → SpellsAt order place (pair_at rs size) (ends_bytes order size e) (Some (raw_pair e))
unfolding pair_at
ends-read order rs place size e symbol held =
    let held_both = both-held order rs place size e held in
    behind _ (address-reads order rs place size e.begin (symbol-fits size e.begin symbol) held_both.0)
    (last _ (address-reads order rs _ size (end_of e) (symbol-fits size (end_of e) (behind-symbol e.begin e.extent symbol)) held_both.1) (λ u. rw (entry-of_symbol size e.begin (end_of e) symbol) refl))

pub zero-small : (size : ℕ) → 0 < 256 ^ size
zero-small zero = omega arith
zero-small (suc n) = let h = zero-small n in omega (arith, h)

zeros-read : (order : Endian) (rs : List Relocation) (place size : ℕ) → All (IsHeld rs) (listed_fields 4 order size place list_end) → SpellsAt order place (pair_at rs size) (ends_bytes order size list_end) None
unfolding pair_at
zeros-read order rs place size held =
    let held_both = both-held order rs place size list_end held in
    behind _ (address-reads order rs place size (Constant 0) (zero-small size) held_both.0) (last _ (address-reads order rs _ size (Constant 0) (zero-small size) held_both.1) (λ u. refl))

-- nothing stands behind ends alone
ends-alone : (order : Endian) (size : ℕ) (e : ListEntry) → e.holds ≡ None → ends_bytes order size e ≡ listed_bytes 4 order size e
ends-alone order size e none = rw (none) (ap (λ bs. address_bytes order size e.begin ++ bs) (sym (append-nil (address_bytes order size (end_of e)))))

-- an entry of a range list
pub range-reads : (order : Endian) (rs : List Relocation) (place size : ℕ) (e : ListEntry) → is_symbol e.begin ≡ true → e.holds ≡ None → All (IsHeld rs) (listed_fields 4 order size place e) → SpellsAt order place (pair_at rs size) (listed_bytes 4 order size e) (Some (raw_pair e))
range-reads order rs place size e symbol none held = subst (λ bs. SpellsAt order place (pair_at rs size) bs (Some (raw_pair e))) (ends-alone order size e none) (ends-read order rs place size e symbol held)

pub range-end : (order : Endian) (rs : List Relocation) (place size : ℕ) → All (IsHeld rs) (listed_fields 4 order size place list_end) → SpellsAt order place (pair_at rs size) (listed_bytes 4 order size list_end) None
range-end order rs place size held = subst (λ bs. SpellsAt order place (pair_at rs size) bs None) (ends-alone order size list_end refl) (zeros-read order rs place size held)

-- an expression behind its length
abbrev placed_at : Endian → ℕ → List ℕ → PlacedExpression
placed_at order place bytes = record { section = Loc; place = place + length (number_bytes order 2 (length bytes)); bytes = bytes }

expression-reads : (order : Endian) (place : ℕ) (bytes : List ℕ) → length bytes < 2 ^ 16 → SpellsAt order place (placed_expression_at Loc) (held_bytes 4 order (Some bytes)) (placed_at order place bytes)
unfolding placed_expression_at sized_number_at
expression-reads order place bytes short =
    behind _ (here place (Spells-number_bytes order 2 (length bytes) short)) (record { reads = λ rest. rw ((Spells-bytes order bytes).reads) refl })

-- what an entry of a location list is read as
abbrev pub raw_location : Endian → ℕ → ℕ → ListEntry → RawLocation
raw_location order size place e = record { says = raw_pair e; holds = option_map (placed_at order (place + length (ends_bytes order size e))) e.holds }

behind-reads : (order : Endian) (place : ℕ) (a b : Address) (bytes : List ℕ) → length bytes < 2 ^ 16 → SpellsAt order place (location_behind Loc (pair a b)) (held_bytes 4 order (Some bytes)) (Some (record { says = pair a b; holds = Some (placed_at order place bytes) }))
unfolding location_behind
behind-reads order place a b bytes short = last _ (expression-reads order place bytes short) (λ u. refl)

pub location-reads : (order : Endian) (rs : List Relocation) (place size : ℕ) (e : ListEntry) (bytes : List ℕ) → is_symbol e.begin ≡ true → e.holds ≡ Some bytes → length bytes < 2 ^ 16 → All (IsHeld rs) (listed_fields 4 order size place e)
    → SpellsAt order place (location_at rs size) (listed_bytes 4 order size e) (Some (raw_location order size place e))
location-reads order rs place size e bytes symbol holds short held =
    let begin = address_bytes order size e.begin in
    let end = address_bytes order size (end_of e) in
    let together : ends_bytes order size e ++ held_bytes 4 order (Some bytes) ≡ listed_bytes 4 order size e = append_assoc begin end (held_bytes 4 order (Some bytes)) ∙ ap (λ o. begin ++ (end ++ held_bytes 4 order o)) (sym holds) in
    let is : RawLocation = record { says = raw_pair e; holds = Some (placed_at order (place + length (ends_bytes order size e)) bytes) } in
    let same : Some is ≡ Some (raw_location order size place e) = ap (λ o. Some (record { says = raw_pair e; holds = option_map (placed_at order (place + length (ends_bytes order size e))) o })) (sym holds) in
    subst (λ x. SpellsAt order place (location_at rs size) (listed_bytes 4 order size e) x) same
    (subst (λ bs. SpellsAt order place (location_at rs size) bs (Some is)) together
    (behind _ (ends-read order rs place size e symbol held) (behind-reads order (place + length (ends_bytes order size e)) e.begin (end_of e) bytes short)))

pub location-end : (order : Endian) (rs : List Relocation) (place size : ℕ) → All (IsHeld rs) (listed_fields 4 order size place list_end) → SpellsAt order place (location_at rs size) (listed_bytes 4 order size list_end) None
location-end order rs place size held = last _ (range-end order rs place size held) (λ u. refl)

-- ---- entries one behind another

-- A reader of entries takes a byte at least, reads an entry of which P holds as what a view of it is at its place, and finds the end.
pub record ReadsEntries {A : Type 0} (version : ℕ) (relocations : List Relocation) (order : Endian) (size : ℕ) (reader : Unread → Read (Option A)) (P : ListEntry → Type 0) (view : ℕ → ListEntry → A) : Type 0 where
  pub leaves : (u : Unread) → Leaves (reader u) (length u.left)
  pub each : (place : ℕ) (e : ListEntry) → P e → All (IsHeld relocations) (listed_fields version order size place e) → SpellsAt order place reader (listed_bytes version order size e) (Some (view place e))
  pub end : (place : ℕ) → All (IsHeld relocations) (listed_fields version order size place list_end) → SpellsAt order place reader (listed_bytes version order size list_end) None

module _ {A : Type 0} (version : ℕ) (relocations : List Relocation) (order : Endian) (size : ℕ) (reader : Unread → Read (Option A)) (P : ListEntry → Type 0) (view : ℕ → ListEntry → A) (reads : ReadsEntries version relocations order size reader P view) (told : Flaw → Fault) where
  abbrev next_listed : Unread → Next Unread Fault A
  next_listed u = next_item reader told u

  next-shrinks : (u v : Unread) → GoesOn (next_listed u) v → unread_length v < unread_length u
  next-shrinks u v goes = go (reader u) (reads.leaves u).fewer goes
    where
      read : (o : Option A) (w : Unread) → length w.left < length u.left → GoesOn {S = Unread} {F = Fault} {A = A} (elim o [ None ↦ at_end | Some x ↦ item x w ]) v → length v.left < length u.left
      read None w fewer g = absurd g
      read (Some x) w fewer g = rw g at fewer

      go : (r : Read (Option A)) → LeavesFewer r (length u.left) → GoesOn {S = Unread} {F = Fault} {A = A} (elim r [ Err flaw ↦ broken (told flaw) | Ok x ↦ elim x.0 [ None ↦ at_end | Some e ↦ item e x.1 ] ]) v → length v.left < length u.left
      go (Err flaw) fewer g = absurd g
      go (Ok x) fewer g = read x.0 x.1 fewer g

  -- the entries of a list, whatever follows it
  pub list-walked : (place : ℕ) (es : List ListEntry) (rest : List ℕ) → All P es → All (IsHeld relocations) (list_fields version order size place (ended es))
      → walk unread_length next_listed (unread_at order place (list_bytes version order size (ended es) ++ rest)) ≡ record { items = at_places (listed_bytes version order size) (λ p e. view p e ∷ []) place es; fault = None }
  list-walked place [] rest all held =
      let read = (reads.end place (All-front (IsHeld relocations) (listed_fields version order size place list_end) [] held)).reads ([] ++ rest) in
      let bytes = append_assoc (listed_bytes version order size list_end) [] rest in
      rw (bytes) (walk-end unread_length next_listed next-shrinks _ (rw (read, next_listed, next_item) refl))
  list-walked place (e ∷ es) rest all held =
      let next = place + length (listed_bytes version order size e) in
      let bytes = append_assoc (listed_bytes version order size e) (list_bytes version order size (ended es)) rest in
      let read = (reads.each place e (All-head P e es all) (All-front (IsHeld relocations) (listed_fields version order size place e) (list_fields version order size next (ended es)) held)).reads (list_bytes version order size (ended es) ++ rest) in
      rw (bytes)
      (walk-item unread_length next_listed next-shrinks _ (unread_at order next (list_bytes version order size (ended es) ++ rest)) (view place e) (rw (read, next_listed, next_item) refl)
      ∙ ap (with_first (view place e)) (list-walked next es rest (All-tail P e es all) (All-back (IsHeld relocations) (listed_fields version order size place e) (list_fields version order size next (ended es)) held)))
