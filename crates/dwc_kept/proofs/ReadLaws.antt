-- Reading the entries of a unit, and the units of a module, one after another.
use Rattle.std.proofs.Common.{◌≡◌, ℕ, suc, ◌+◌, ◌^◌, ◌<◌, ◌≤◌, ◌⊎◌, List, [], ◌∷◌, ◌++◌, length, get_or, refl, ap, sym, subst, ◌∙◌, inl, inr, arith, append_assoc, append-nil, Bool, Option, Some, None}
use Rattle.std.specs.Prelude.{IfSome, option_to_list}
use Rattle.std.specs.Option.{option_or}
use Rattle.std.specs.List.{flat_map, AllZip}
use Rattle.std.proofs.lemmas.Bool.{cases_eq}
use Rattle.std.proofs.lemmas.List.{length_push}
use Rattle.std.proofs.lemmas.List.Elements.{All-push, All-weaker, All-nil}
use Rattle.dwc_base.specs.Listing.{Listing, no_items, only_fault, with_first}
use Rattle.dwc_base.specs.Sections.{Sections, Fault}
use Rattle.dwc_base.specs.Units.{UnitHeader}
use Rattle.dwc_dwarf.specs.Entries.{Entry, entries}
use Rattle.dwc_rules.specs.Refusals.{table_offset}
use Rattle.dwc_base.specs.Listing.{first_of}
use Rattle.dwc_rules.specs.ReachedEntries.{listing_faults}
use Rattle.dwc_rules.specs.Carried.{has_root_tag}
use Rattle.dwc_dwarf.specs.ReadUnits.{Unit, units_of_headers, root}
use Rattle.dwc_base.specs.declared.constants.TheConstants.{DW_TAG_compile_unit}
use Rattle.dwc_read.specs.Views.{UnitView, UnitsView}
use Rattle.dwc_kept.specs.EntryGraphs.{Node}
use Rattle.dwc_kept.specs.declared.last_at.LastAt.{LastAt}
use Rattle.dwc_kept.specs.declared.read_unit.ReadUnit.{ReadUnit}
use Rattle.dwc_dwarf.specs.UnitOffsets.{RiseIn, StandFrom}
use Rattle.dwc_kept.specs.declared.read_unit.RootEntry.{RootEntry}
use Rattle.dwc_kept.specs.RootsSaid.{root_said, first_said, has_tag, table_named}
use Rattle.dwc_kept.specs.ReadEntries.{ReadSoFar, none_read, with_entry_read, with_entries_read, with_units_read, AreAmong, StandBefore, TellsFirst, headers_faults}
use Rattle.dwc_kept.specs.ReadingSeen.{HasRead, IsRead}
use Rattle.dwc_kept.specs.ReadUnits.{IsReadUnit}
use Rattle.dwc_kept.proofs.LastLaws.{last-here, last-other}

-- ---- one entry

some-less : (m n : ℕ) (o : Option LastAt) → m ≤ n → IfSome o (λ last. last.number < m) → IfSome o (λ last. last.number < n)
some-less m n None le h = tt
some-less m n (Some last) le h = omega (arith, le, h)

-- ---- the first fault

-- the first of two lists, where the first of them has none, and where it has one
pub first-none : {A : Type 0} (xs : List A) → first_of xs ≡ None → xs ≡ []
first-none [] h = refl
first-none (x ∷ xs) h = absurd (cc)

pub first-in : {A : Type 0} (xs ys : List A) (x : A) → first_of xs ≡ Some x → first_of (xs ++ ys) ≡ Some x
first-in [] ys x h = absurd (cc)
first-in (y ∷ xs) ys x h = h

pub first-behind : {A : Type 0} (xs ys : List A) → first_of xs ≡ None → first_of (xs ++ ys) ≡ first_of ys
first-behind xs ys h = ap (λ zs. first_of (zs ++ ys)) (first-none xs h)

-- what a refusal tells of the first of a list is the first of a list that goes on
pub tells-in : (first all : Option Fault) (o : Option Fault) → ((fault : Fault) → first ≡ Some fault → all ≡ Some fault) → TellsFirst first o → TellsFirst all o
tells-in first all None h t = tt
tells-in first all (Some fault) h t = h fault t

-- ---- entries

module _ (needed : Entry → Bool) (named : Entry → List Fault) (u : UnitHeader) where
  pub entry-among : (e : Entry) (r : ReadSoFar) → AreAmong r → AreAmong (with_entry_read needed u e r)
  entry-among e r among depth = go (cases_eq depth e.depth)
    where
      more : length (with_entry_read needed u e r).nodes ≡ length r.nodes + 1
      more = length_push r.nodes _

      go : (depth ≡ e.depth) ⊎ (depth ≡ e.depth → ⊥) → IfSome (get_or (with_entry_read needed u e r).lasts depth None) (λ last. last.number < length (with_entry_read needed u e r).nodes)
      go (inl same) =
          subst (λ o. IfSome o (λ last. last.number < length (with_entry_read needed u e r).nodes)) (sym (ap (λ d. get_or (with_entry_read needed u e r).lasts d None) same ∙ last-here r.lasts e.depth _)) (omega (arith, more))
      go (inr other) =
          subst (λ o. IfSome o (λ last. last.number < length (with_entry_read needed u e r).nodes)) (sym (last-other r.lasts e.depth _ depth other))
          (some-less (length r.nodes) _ (get_or r.lasts depth None) (omega (arith, more)) (among depth))

  pub entry-before : (e : Entry) (r : ReadSoFar) (limit : ℕ) → StandBefore limit r → e.offset < limit → StandBefore limit (with_entry_read needed u e r)
  entry-before e r limit before less = All-push (λ (n : Node). n.offset < limit) r.nodes _ before less

  -- what is read of a listing of entries so far, with what the first says
  pub record EntriesSoFar (all : Listing Fault Entry) (first : ReadSoFar) (left : Listing Fault Entry) (now : ReadSoFar) (tag : Option RootEntry) : Type 0 where
    pub from : ℕ
    pub fault : first_of (listing_faults named left) ≡ first_of (listing_faults named all)
    pub root : option_or tag (first_said left.items) ≡ first_said all.items
    pub rest : with_entries_read needed u left.items now ≡ with_entries_read needed u all.items first
    pub among : AreAmong now
    pub before_next : StandBefore from now
    pub before_end : StandBefore u.end now
    pub small : StandBefore (2 ^ 32) now
    pub rise : RiseIn from u.end left.items

  pub entries-begin : (all : Listing Fault Entry) (first : ReadSoFar) → AreAmong first → StandBefore u.offset first → StandBefore (2 ^ 32) first → u.offset < u.end → RiseIn u.offset u.end all.items → EntriesSoFar all first all first None
  entries-begin all first among before small some rise = record {
    from = u.offset;
    fault = refl;
    root = refl;
    rest = refl;
    among = among;
    before_next = before;
    before_end = All-weaker (λ (n : Node). n.offset < u.offset) (λ n. n.offset < u.end) (λ n h. omega (arith, h, some)) first.nodes before;
    small = small;
    rise = rise;
  }

  -- the next entry of what is left
  pub entry-next : (all : Listing Fault Entry) (first : ReadSoFar) (left next : Listing Fault Entry) (now : ReadSoFar) (tag : Option RootEntry) (e : Entry) → EntriesSoFar all first left now tag → left ≡ with_first e next → StandBefore e.offset now
  entry-next all first left next now tag e so_far is =
      let rise : RiseIn so_far.from u.end (e ∷ next.items) = subst (λ (l : Listing Fault Entry). RiseIn so_far.from u.end l.items) is so_far.rise in
      All-weaker (λ (n : Node). n.offset < so_far.from) (λ n. n.offset < e.offset) (λ n h. omega (arith, h, rise.0)) now.nodes so_far.before_next

  -- what cannot be read of the next entry, and of those behind it
  next-faults : (e : Entry) (left next : Listing Fault Entry) → left ≡ with_first e next → listing_faults named left ≡ named e ++ listing_faults named next
  next-faults e left next is = ap (listing_faults named) is ∙ append_assoc (named e) (flat_map named next.items) (option_to_list next.fault)

  pub entries-go : (all : Listing Fault Entry) (first : ReadSoFar) (left next : Listing Fault Entry) (now new : ReadSoFar) (tag new_tag : Option RootEntry) (e : Entry) → EntriesSoFar all first left now tag → left ≡ with_first e next → new ≡ with_entry_read needed u e now → e.offset < 2 ^ 32
      → first_of (named e) ≡ None → new_tag ≡ option_or tag (Some (root_said e)) → EntriesSoFar all first next new new_tag
  entries-go all first left next now new tag new_tag e so_far is read small no_fault tag_is =
      let rise : RiseIn so_far.from u.end (e ∷ next.items) = subst (λ (l : Listing Fault Entry). RiseIn so_far.from u.end l.items) is so_far.rise in
      subst (λ r. EntriesSoFar all first next r new_tag) (sym read) (record {
        from = suc e.offset;
        fault = sym (ap first_of (next-faults e left next is) ∙ first-behind (named e) (listing_faults named next) no_fault) ∙ so_far.fault;
        root = ap (λ t. option_or t (first_said next.items)) tag_is ∙ root_kept tag (first_said next.items) (root_said e) ∙ sym (ap (λ (l : Listing Fault Entry). option_or tag (first_said l.items)) is) ∙ so_far.root;
        rest = sym (ap (λ (l : Listing Fault Entry). with_entries_read needed u l.items now) is) ∙ so_far.rest;
        among = entry-among e now so_far.among;
        before_next = entry-before e now (suc e.offset) (All-weaker (λ (n : Node). n.offset < so_far.from) (λ n. n.offset < suc e.offset) (λ n h. omega (arith, h, rise.0)) now.nodes so_far.before_next) (omega arith);
        before_end = entry-before e now u.end so_far.before_end rise.1;
        small = entry-before e now (2 ^ 32) so_far.small small;
        rise = rise.2;
      })
    where
      root_kept : (t o : Option RootEntry) (n : RootEntry) → option_or (option_or t (Some n)) o ≡ option_or t (Some n)
      root_kept None o n = refl
      root_kept (Some m) o n = refl

  pub entries-end : (all : Listing Fault Entry) (first : ReadSoFar) (left : Listing Fault Entry) (now : ReadSoFar) (tag : Option RootEntry) → EntriesSoFar all first left now tag → left ≡ no_items
      → (first_of (listing_faults named all) ≡ None) × (HasRead (with_entries_read needed u all.items first) u.end now × (tag ≡ first_said all.items))
  entries-end all first left now tag so_far is = (
    sym so_far.fault ∙ ap (λ (l : Listing Fault Entry). first_of (listing_faults named l)) is,
    (
      record { is = sym (ap (λ (l : Listing Fault Entry). with_entries_read needed u l.items now) is) ∙ so_far.rest; among = so_far.among; before = so_far.before_end; small = so_far.small },
      sym (or-none tag) ∙ sym (ap (λ (l : Listing Fault Entry). option_or tag (first_said l.items)) is) ∙ so_far.root,
    ),
  )
    where
      or-none : (o : Option RootEntry) → option_or o None ≡ o
      or-none None = refl
      or-none (Some n) = refl

  pub entries-fault : (all : Listing Fault Entry) (first : ReadSoFar) (left : Listing Fault Entry) (now : ReadSoFar) (tag : Option RootEntry) (fault : Fault) → EntriesSoFar all first left now tag → left ≡ only_fault fault → first_of (listing_faults named all) ≡ Some fault
  entries-fault all first left now tag fault so_far is = sym so_far.fault ∙ ap (λ (l : Listing Fault Entry). first_of (listing_faults named l)) is

  pub entry-tells : (all : Listing Fault Entry) (first : ReadSoFar) (left next : Listing Fault Entry) (now : ReadSoFar) (tag : Option RootEntry) (e : Entry) (o : Option Fault) → EntriesSoFar all first left now tag → left ≡ with_first e next
      → TellsFirst (first_of (named e)) o → TellsFirst (first_of (listing_faults named all)) o
  entry-tells all first left next now tag e o so_far is = tells-in _ _ o (λ fault h. sym so_far.fault ∙ ap first_of (next-faults e left next is) ∙ first-in (named e) (listing_faults named next) fault h)

-- ---- units

-- the units of some headers, where the first one's entries have no fault, and where they have one
pub first-unit : (s : Sections) (h : UnitHeader) (hs : List UnitHeader) (last : Option Fault) → (entries s h).fault ≡ None → units_of_headers s (h ∷ hs) last ≡ with_first (record { header = h; entries = (entries s h).items }) (units_of_headers s hs last)
first-unit s h hs last e = rw e refl

pub first-fault : (s : Sections) (h : UnitHeader) (hs : List UnitHeader) (last : Option Fault) (fault : Fault) → (entries s h).fault ≡ Some fault → units_of_headers s (h ∷ hs) last ≡ only_fault fault
first-fault s h hs last fault e = rw e refl

no-fault : (named : Entry → List Fault) (es : Listing Fault Entry) → listing_faults named es ≡ [] → es.fault ≡ None
no-fault named es h = go es.fault (flat_map named es.items) h
  where
    go : (o : Option Fault) (xs : List Fault) → xs ++ option_to_list o ≡ [] → o ≡ None
    go None xs e = refl
    go (Some fault) [] e = absurd (cc)
    go (Some fault) (x ∷ xs) e = absurd (cc)

append-none : {A : Type 0} (xs ys : List A) → xs ++ ys ≡ [] → (xs ≡ []) × (ys ≡ [])
append-none [] ys h = (refl, h)
append-none (x ∷ xs) ys h = absurd (cc)

headers-whole : (named : UnitHeader → Entry → List Fault) (s : Sections) (hs : List UnitHeader) (last : Option Fault) → flat_map (λ h. listing_faults (named h) (entries s h)) hs ++ option_to_list last ≡ [] → (units_of_headers s hs last).fault ≡ None
headers-whole named s [] None h = refl
headers-whole named s [] (Some fault) h = absurd (cc)
headers-whole named s (x ∷ hs) last h =
    let parts = append-none (listing_faults (named x) (entries s x)) _ (sym (append_assoc (listing_faults (named x) (entries s x)) (flat_map (λ h. listing_faults (named h) (entries s h)) hs) (option_to_list last)) ∙ h) in
    ap (λ (l : Listing Fault Unit). l.fault) (first-unit s x hs last (no-fault (named x) (entries s x) parts.0)) ∙ headers-whole named s hs last parts.1

-- Where nothing of some units cannot be read, they have no fault.
pub headers-no-fault : (named : UnitHeader → Entry → List Fault) (s : Sections) (hs : Listing Fault UnitHeader) → first_of (headers_faults named s hs) ≡ None → (units_of_headers s hs.items hs.fault).fault ≡ None
headers-no-fault named s hs h = headers-whole named s hs.items hs.fault (first-none _ h)

-- A unit that was read, by what its root says.
pub is-read-unit : (s : Sections) (v : UnitView) (said : Option RootEntry) (b : Bool) (offset : Option ℕ) → v.sections ≡ s → said ≡ first_said (entries s v.header).items → b ≡ has_tag DW_TAG_compile_unit said → offset ≡ table_named said
    → IsReadUnit s v.header (record { unit = v; is_compile_unit = b; line_table = offset })
is-read-unit s v said b offset same first is named = record {
  sections = same;
  header = refl;
  tag = is ∙ ap (has_tag DW_TAG_compile_unit) first ∙ tagged (entries s v.header).items;
  lines = named ∙ ap table_named first ∙ lined (entries s v.header).items;
}
  where
    tagged : (es : List Entry) → has_tag DW_TAG_compile_unit (first_said es) ≡ has_root_tag DW_TAG_compile_unit (record { header = v.header; entries = es })
    tagged [] = refl
    tagged (e ∷ es) = refl

    lined : (es : List Entry) → table_named (first_said es) ≡ table_offset (root (record { header = v.header; entries = es }))
    lined [] = refl
    lined (e ∷ es) = refl

module _ (needed : UnitHeader → Entry → Bool) (named : UnitHeader → Entry → List Fault) (s : Sections) (all : Listing Fault UnitHeader) where
  -- what is read of the units of some sections so far
  pub record UnitsSoFar (left : UnitsView) (now : ReadSoFar) (read : List ReadUnit) : Type 0 where
    pub from : ℕ
    pub sections : left.sections ≡ s
    pub fault : first_of (headers_faults named s left.headers) ≡ first_of (headers_faults named s all)
    pub rest : with_units_read needed s left.headers.items now ≡ with_units_read needed s all.items none_read
    pub among : AreAmong now
    pub before : StandBefore from now
    pub small : StandBefore (2 ^ 32) now
    pub stand : StandFrom s from left.headers.items
    pub units : (more : List ReadUnit) → AllZip (IsReadUnit s) left.headers.items more → AllZip (IsReadUnit s) all.items (read ++ more)

  pub units-begin : (left : UnitsView) (now : ReadSoFar) (read : List ReadUnit) → left ≡ record { sections = s; headers = all } → now ≡ none_read → read ≡ [] → StandFrom s 0 all.items → UnitsSoFar left now read
  units-begin left now read is none empty stand = subst (UnitsSoFar left now) (sym empty) (subst (λ (l : UnitsView). UnitsSoFar l now []) (sym is) (subst (λ r. UnitsSoFar (record { sections = s; headers = all }) r []) (sym none) (record {
    from = 0;
    sections = refl;
    fault = refl;
    rest = refl;
    among = λ depth. tt;
    before = All-nil (λ (n : Node). n.offset < 0);
    small = All-nil (λ (n : Node). n.offset < 2 ^ 32);
    stand = stand;
    units = λ more zip. zip;
  })))

  -- where the next unit stands
  pub unit-stands : (left : UnitsView) (next : Listing Fault UnitHeader) (now : ReadSoFar) (read : List ReadUnit) (h : UnitHeader) → UnitsSoFar left now read → left.headers ≡ with_first h next → StandBefore h.offset now × (h.offset < h.end) × RiseIn h.offset h.end (entries s h).items × StandFrom s h.end next.items
  unit-stands left next now read h so_far is =
      let stand : StandFrom s so_far.from (h ∷ next.items) = subst (λ (l : Listing Fault UnitHeader). StandFrom s so_far.from l.items) is so_far.stand in
      (All-weaker (λ (n : Node). n.offset < so_far.from) (λ n. n.offset < h.offset) (λ n k. omega (arith, k, stand.0)) now.nodes so_far.before, stand.1, stand.2, stand.3)

  next-unit-faults : (h : UnitHeader) (left next : Listing Fault UnitHeader) → left ≡ with_first h next → headers_faults named s left ≡ listing_faults (named h) (entries s h) ++ headers_faults named s next
  next-unit-faults h left next is = ap (headers_faults named s) is ∙ append_assoc (listing_faults (named h) (entries s h)) (flat_map (λ k. listing_faults (named k) (entries s k)) next.items) (option_to_list next.fault)

  pub units-go : (left new_left : UnitsView) (now new : ReadSoFar) (read new_read : List ReadUnit) (h : UnitHeader) (r : ReadUnit) → UnitsSoFar left now read → left.headers ≡ with_first h new_left.headers → new_left.sections ≡ left.sections
      → first_of (listing_faults (named h) (entries s h)) ≡ None → HasRead (with_entries_read (needed h) h (entries s h).items now) h.end new → IsReadUnit s h r → new_read ≡ read ++ r ∷ [] → UnitsSoFar new_left new new_read
  units-go left new_left now new read new_read h r so_far is same whole has_read is_unit read_is = record {
    from = h.end;
    sections = same ∙ so_far.sections;
    fault = sym (ap first_of (next-unit-faults h left.headers new_left.headers is) ∙ first-behind (listing_faults (named h) (entries s h)) (headers_faults named s new_left.headers) whole) ∙ so_far.fault;
    rest = ap (with_units_read needed s new_left.headers.items) has_read.is ∙ sym (ap (λ (l : Listing Fault UnitHeader). with_units_read needed s l.items now) is) ∙ so_far.rest;
    among = has_read.among;
    before = has_read.before;
    small = has_read.small;
    stand = (unit-stands left new_left.headers now read h so_far is).3;
    units = λ more zip. subst (AllZip (IsReadUnit s) all.items) (sym (append_assoc read (r ∷ []) more) ∙ ap (λ rs. rs ++ more) (sym read_is)) (so_far.units (r ∷ more) (subst (λ (l : Listing Fault UnitHeader). AllZip (IsReadUnit s) l.items (r ∷ more)) (sym is) (is_unit, zip)));
  }

  pub units-end : (left : UnitsView) (now : ReadSoFar) (read : List ReadUnit) → UnitsSoFar left now read → left.headers ≡ no_items
      → (first_of (headers_faults named s all) ≡ None) × (IsRead (with_units_read needed s all.items none_read) now × AllZip (IsReadUnit s) all.items read)
  units-end left now read so_far is = (
    sym so_far.fault ∙ ap (λ (l : Listing Fault UnitHeader). first_of (headers_faults named s l)) is,
    (
      record { is = sym (ap (λ (l : Listing Fault UnitHeader). with_units_read needed s l.items now) is) ∙ so_far.rest; small = so_far.small },
      subst (AllZip (IsReadUnit s) all.items) (append-nil read) (so_far.units [] (subst (λ (l : Listing Fault UnitHeader). AllZip (IsReadUnit s) l.items []) (sym is) tt)),
    ),
  )

  -- a fault of the next header, and one of the next unit's entries, are the first one
  pub header-fault : (left : UnitsView) (now : ReadSoFar) (read : List ReadUnit) (fault : Fault) → UnitsSoFar left now read → left.headers ≡ only_fault fault → first_of (headers_faults named s all) ≡ Some fault
  header-fault left now read fault so_far is = sym so_far.fault ∙ ap (λ (l : Listing Fault UnitHeader). first_of (headers_faults named s l)) is

  pub unit-tells : (left : UnitsView) (next : Listing Fault UnitHeader) (now : ReadSoFar) (read : List ReadUnit) (h : UnitHeader) (o : Option Fault) → UnitsSoFar left now read → left.headers ≡ with_first h next
      → TellsFirst (first_of (listing_faults (named h) (entries s h))) o → TellsFirst (first_of (headers_faults named s all)) o
  unit-tells left next now read h o so_far is = tells-in _ _ o (λ fault e. sym so_far.fault ∙ ap first_of (next-unit-faults h left.headers next is) ∙ first-in (listing_faults (named h) (entries s h)) (headers_faults named s next) fault e)
