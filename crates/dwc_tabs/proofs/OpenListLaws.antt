-- A list that is read entry by entry, and where it begins.
use Rattle.std.proofs.Common.{◌≡◌, ℕ, zero, suc, ◌<◌, refl, sym, ap, ◌∙◌, arith, lit<, List, [], length, drop, Option, Some, None, Ok, Result, Err, Bool, true, false, ◌+◌, ◌*◌, ◌≤◌}
use Rattle.std.specs.Prelude.{IsTrue, nat_le, nat_lt, if◌then◌else◌}
use Rattle.std.proofs.lemmas.List.{drop_all}
use Rattle.std.proofs.lemmas.Bool.{leb-true, lt-ltb}
use Rattle.dwc_base.specs.FieldSizes.{is_field_size}
use Rattle.dwc_base.specs.declared.faults.Flaw.{Flaw}
use Rattle.dwc_base.specs.declared.faults.Flaw.TheVariants.{EndsEarly, Malformed}
use Rattle.dwc_base.specs.declared.records.Endian.{Endian}
use Rattle.dwc_base.specs.declared.section_name.SectionName.{SectionName}
use Rattle.dwc_base.specs.Reading.{Unread, Read, ◌>>=◌, coded, number_at, bytes_at}
use Rattle.dwc_base.specs.Listing.{at_end, broken, item, no_items, only_fault, with_first}
use Rattle.dwc_base.specs.Sections.{Sections, Relocation, Fault, section_from, address_at}
use Rattle.dwc_dwarf.specs.RawLists.{ListPlace, place_indexed, RawEntry, EntryKind, pair_at, kind_and_entry_at, entry_of_kind_at, next_item, unread_length, end_of_list, a_base_addressx, a_startx_endx, a_startx_length, an_offset_pair, a_default_location, a_base_address, a_start_end, a_start_length}
use Rattle.dwc_base.proofs.Items.{Leaves, LeavesFewer}
use Rattle.dwc_base.proofs.Takes.{Leaves-bind, Leaves-same, number_at-leaves}
use Rattle.dwc_base.proofs.TakesMore.{Leaves-more, Leaves-seen, uleb_at-leaves}
use Rattle.dwc_base.proofs.Walks.{GoesOn, walk-end, walk-fault, walk-item}
use Rattle.dwc_tabs.specs.declared.open_list.OpenList.{OpenList}
use Rattle.dwc_tabs.specs.OpenLists.{list_entry_at, left_of_list, unread_at, distance_at, list_at}

-- a field of a size that is known is not empty
pub size-some : (size : ℕ) → IsTrue (is_field_size size) → 0 < size
size-some zero h = absurd (cc)
size-some (suc n) h = omega arith

-- ---- each entry takes a byte at least

address-leaves : (relocations : List Relocation) (size : ℕ) (u : Unread) → 0 < size → Leaves (address_at relocations size u) (length u.left)
unfolding address_at
address-leaves relocations size u some = Leaves-bind _ _ _ (number_at-leaves size u some) (λ spelled. Leaves-same _ _)

pair-leaves : (relocations : List Relocation) (size : ℕ) (u : Unread) → 0 < size → Leaves (pair_at relocations size u) (length u.left)
unfolding pair_at
pair-leaves relocations size u some =
    Leaves-bind _ _ _ (address-leaves relocations size u some) (λ begin. Leaves-bind _ _ _ (Leaves-more _ _ (address-leaves relocations size begin.1 some)) (λ end. Leaves-same _ _))

kind-leaves : (relocations : List Relocation) (size : ℕ) (kind : EntryKind) (u : Unread) → 0 < size → Leaves (entry_of_kind_at relocations size kind u) (suc (length u.left))
unfolding entry_of_kind_at
kind-leaves relocations size end_of_list u some = Leaves-same _ _
kind-leaves relocations size a_base_addressx u some = Leaves-seen _ _ _ (Leaves-more _ _ (uleb_at-leaves u))
kind-leaves relocations size a_startx_endx u some = Leaves-bind _ _ _ (Leaves-more _ _ (uleb_at-leaves u)) (λ a. Leaves-bind _ _ _ (Leaves-more _ _ (uleb_at-leaves a.1)) (λ b. Leaves-same _ _))
kind-leaves relocations size a_startx_length u some = Leaves-bind _ _ _ (Leaves-more _ _ (uleb_at-leaves u)) (λ a. Leaves-bind _ _ _ (Leaves-more _ _ (uleb_at-leaves a.1)) (λ b. Leaves-same _ _))
kind-leaves relocations size an_offset_pair u some = Leaves-bind _ _ _ (Leaves-more _ _ (uleb_at-leaves u)) (λ a. Leaves-bind _ _ _ (Leaves-more _ _ (uleb_at-leaves a.1)) (λ b. Leaves-same _ _))
kind-leaves relocations size a_default_location u some = Leaves-same _ _
kind-leaves relocations size a_base_address u some = Leaves-seen _ _ _ (Leaves-more _ _ (address-leaves relocations size u some))
kind-leaves relocations size a_start_end u some =
    Leaves-bind _ _ _ (Leaves-more _ _ (address-leaves relocations size u some)) (λ a. Leaves-bind _ _ _ (Leaves-more _ _ (address-leaves relocations size a.1 some)) (λ b. Leaves-same _ _))
kind-leaves relocations size a_start_length u some = Leaves-bind _ _ _ (Leaves-more _ _ (address-leaves relocations size u some)) (λ a. Leaves-bind _ _ _ (Leaves-more _ _ (uleb_at-leaves a.1)) (λ b. Leaves-same _ _))

kind_and_entry-leaves : (kinds : List (ℕ × EntryKind)) (relocations : List Relocation) (size : ℕ) (u : Unread) → 0 < size → Leaves (kind_and_entry_at kinds relocations size u) (length u.left)
unfolding kind_and_entry_at
kind_and_entry-leaves kinds relocations size u some = Leaves-bind _ _ _ (number_at-leaves 1 u (lit< tt)) (λ code. go (coded kinds code.0) code.1)
  where
    go : (o : Option EntryKind) (v : Unread) → Leaves {A = Option RawEntry} (elim o [ None ↦ Err Malformed | Some kind ↦ entry_of_kind_at relocations size kind v ]) (suc (length v.left))
    go None v = record { fewer = tt }
    go (Some kind) v = kind-leaves relocations size kind v some

pub list_entry-leaves : (kinds : List (ℕ × EntryKind)) (in_pairs : Bool) (relocations : List Relocation) (size : ℕ) (u : Unread) → 0 < size → Leaves (list_entry_at kinds in_pairs relocations size u) (length u.left)
unfolding list_entry_at
list_entry-leaves kinds true relocations size u some = pair-leaves relocations size u some
list_entry-leaves kinds false relocations size u some = kind_and_entry-leaves kinds relocations size u some

-- ---- the walk

-- a list with its cursor elsewhere
abbrev pub at_cursor : OpenList → Unread → OpenList
at_cursor l u = record { in_pairs = l.in_pairs; relocations = l.relocations; address_size = l.address_size; offset = l.offset; cursor = u }

module _ {A : Type 0} (reader : Unread → Read (Option A)) (told : Flaw → Fault) (leaves : (u : Unread) → Leaves (reader u) (length u.left)) where
  next-shrinks : (u v : Unread) → GoesOn (next_item reader told u) v → unread_length v < unread_length u
  next-shrinks u v goes = go (reader u) (leaves u).fewer goes
    where
      read : (o : Option A) (w : Unread) → length w.left < length u.left → GoesOn {S = Unread} {F = Fault} {A = A} (elim o [ None ↦ at_end | Some x ↦ item x w ]) v → length v.left < length u.left
      read None w fewer g = absurd g
      read (Some x) w fewer g = rw g at fewer

      go : (r : Read (Option A)) → LeavesFewer r (length u.left)
          → GoesOn {S = Unread} {F = Fault} {A = A} (elim r [ Err flaw ↦ broken (told flaw) | Ok x ↦ elim x.0 [ None ↦ at_end | Some e ↦ item e x.1 ] ]) v → length v.left < length u.left
      go (Err flaw) fewer g = absurd g
      go (Ok x) fewer g = read x.0 x.1 fewer g

  -- at an entry, at the end, and at a flaw
  pub left-more : (u v : Unread) (e : A) → reader u ≡ Ok (Some e, v) → left_of_list reader told u ≡ with_first e (left_of_list reader told v)
  unfolding left_of_list
  left-more u v e h = walk-item unread_length (next_item reader told) next-shrinks u v e (rw (h, next_item) refl)

  pub left-end : (u v : Unread) → reader u ≡ Ok (None, v) → left_of_list reader told u ≡ no_items
  unfolding left_of_list
  left-end u v h = walk-end unread_length (next_item reader told) next-shrinks u (rw (h, next_item) refl)

  pub left-flaw : (u : Unread) (flaw : Flaw) → reader u ≡ Err flaw → left_of_list reader told u ≡ only_fault (told flaw)
  unfolding left_of_list
  left-flaw u flaw h = walk-fault unread_length (next_item reader told) next-shrinks u (told flaw) (rw (h, next_item) refl)

  -- a list of some bytes, by what a cursor has of it: of nothing nothing is read
  pub left-begin : ((u : Unread) → u.left ≡ [] → reader u ≡ Err EndsEarly) → (order : Endian) (bytes : List ℕ) (offset : ℕ) →
      left_of_list reader told (unread_at order bytes offset) ≡ left_of_list reader told (record { order = order; place = offset; left = drop offset bytes })
  left-begin empty order bytes offset = go (nat_le (length bytes) offset) refl
    where
      go : (past : Bool) → nat_le (length bytes) offset ≡ past →
          left_of_list reader told (if past then record { order = order; place = 0; left = [] } else record { order = order; place = offset; left = drop offset bytes })
          ≡ left_of_list reader told (record { order = order; place = offset; left = drop offset bytes })
      go true is = left-flaw _ EndsEarly (empty _ refl) ∙ sym (left-flaw _ EndsEarly (empty _ (drop_all offset bytes (leb-true _ _ is))))
      go false is = refl

-- ---- nothing is read of nothing

number-empty : (size : ℕ) (u : Unread) → 0 < size → u.left ≡ [] → number_at size u ≡ Err EndsEarly
unfolding number_at bytes_at
number-empty zero u some none = absurd (omega (arith, some))
number-empty (suc n) u some none =
    let short : nat_lt (length u.left) (suc n) ≡ true = lt-ltb _ _ (rw none some) in
    rw short refl

pub list_entry-empty : (kinds : List (ℕ × EntryKind)) (in_pairs : Bool) (relocations : List Relocation) (size : ℕ) (u : Unread) → 0 < size → u.left ≡ [] → list_entry_at kinds in_pairs relocations size u ≡ Err EndsEarly
unfolding list_entry_at pair_at address_at kind_and_entry_at
list_entry-empty kinds true relocations size u some none = rw (number-empty size u some none) refl
list_entry-empty kinds false relocations size u some none = rw (number-empty 1 u (lit< tt) none) refl

-- ---- where a list is

-- the distance at an index past the end
pub distance-past : (order : Endian) (bytes : List ℕ) (base index : ℕ) → length bytes ≤ base + 4 * index → distance_at order bytes base index ≡ Err EndsEarly
unfolding distance_at
distance-past order bytes base index past = rw (number-empty 4 (record { order = order; place = base + 4 * index; left = drop (base + 4 * index) bytes }) (lit< tt) (drop_all _ bytes past)) refl

-- a list behind a base
abbrev pub placed_by : SectionName → ℕ → Result ℕ Flaw → Result ListPlace Flaw
placed_by section base (Ok n) = Ok (list_at section (base + n))
placed_by section base (Err flaw) = Err flaw

-- the list at an index, by the distance there
pub place-by_distance : (s : Sections) (section : SectionName) (base index : ℕ) (d : Result ℕ Flaw) → distance_at s.order (s.bytes section) base index ≡ d → place_indexed s section base index ≡ placed_by section base d
unfolding distance_at
place-by_distance s section base index d h = go (number_at 4 (section_from s section (base + 4 * index))) ∙ ap (placed_by section base) h
  where
    go : (r : Read ℕ) → ◌≡◌ {A = Result ListPlace Flaw} (r >>= λ n. Ok (record { section = section; offset = base + n.0 })) (placed_by section base (r >>= λ n. Ok n.0))
    go (Ok n) = refl
    go (Err flaw) = refl
