-- An entry that was read among those of its unit is there when it is read alone, and an expression of it stands at its place.
use Rattle.std.proofs.Common.{◌≡◌, ℕ, zero, suc, ◌+◌, ◌-◌, ◌<◌, ◌≤◌, List, [], ◌∷◌, length, length-take, length-drop, take, drop, get_or, refl, ap, ap₂, sym, subst, ◌∙◌, arith, Bool, true, false, Option, Some, None, Result, Ok, Err}
use Rattle.std.specs.Prelude.{◌==◌, slice_get}
use Rattle.std.specs.List.{All}
use Rattle.std.proofs.lemmas.List.{drop-take, take-take}
use Rattle.std.proofs.lemmas.List.Elements.{All-nil, All-cons}
use Rattle.dwc_base.specs.declared.faults.Flaw.TheVariants.{Malformed}
use Rattle.dwc_base.specs.declared.records.Endian.{Endian}
use Rattle.dwc_base.specs.declared.section_name.SectionName.TheVariants.{Info}
use Rattle.dwc_base.specs.Reading.{Unread, Read, ◌>>=◌, seen_as, uleb_at}
use Rattle.dwc_base.specs.Listing.{Listing, only_fault}
use Rattle.dwc_base.specs.Sections.{Sections, Fault, section_from}
use Rattle.dwc_base.specs.Abbreviations.{AttributeSpec, Declaration, declaration_of, abbreviation_table}
use Rattle.dwc_base.specs.Units.{UnitHeader, unit_header_at, unit_headers_from, unit_headers}
use Rattle.dwc_dwarf.specs.Values.{Value, expression, value_at}
use Rattle.dwc_dwarf.specs.Entries.{Entry, Found, EntryPlace, entry_place, place_behind, root_place, attributes_at, declared_entry_at, entry_at, entries_from, entries}
use Rattle.dwc_dwarf.specs.ExpressionPlaces.{unit_from, attribute_ends, entry_ends, value_ends, expression_place}
use Rattle.dwc_base.proofs.Items.{LeavesFewer}
use Rattle.dwc_base.proofs.Takes.{unit_header_at-leaves}
use Rattle.dwc_dwarf.proofs.TakesValues.{entry_at-leaves}
use Rattle.dwc_dwarf.proofs.EntryWalk.{entries_from-none, entries_from-end, entries_from-fault, entries_from-siblings, entries_from-entry}
use Rattle.dwc_base.proofs.UnitWalk.{unit_headers_from-end, unit_headers_from-item, unit_headers_from-fault}
use Rattle.dwc_base.proofs.ReadValuesParts.{Holds}
use Rattle.dwc_dwarf.proofs.UnitBytes.{IsOf, EndsIn, Ends, StandBefore, UnitOf, uleb_at-of, value_at-ends, unit_header_at-of}

module _ (order : Endian) (bytes : List ℕ) where
  -- each attribute ends at the end of its number
  abbrev EachEnds : List ℕ → List (ℕ × Value) → Type 0
  EachEnds ends [] = Unit {0}
  EachEnds [] (x ∷ xs) = ⊥
  EachEnds (end ∷ ends) (x ∷ xs) = EndsIn order bytes end x.1 × EachEnds ends xs

  each-at : (ends : List ℕ) (xs : List (ℕ × Value)) (k name : ℕ) (these : List ℕ) → EachEnds ends xs → slice_get xs k ≡ Some (name, expression these) → StandBefore order bytes (get_or ends k 0) these
  each-at ends [] k name these h is = absurd (cc)
  each-at [] (x ∷ xs) k name these h is = absurd h
  each-at (end ∷ ends) (x ∷ xs) zero name these h is = let same : x.1 ≡ expression these = cc in subst (λ v. EndsIn order bytes end v) same h.0
  each-at (end ∷ ends) (x ∷ xs) (suc k) name these h is = each-at ends xs k name these h.1 is

  -- attributes with what is unread behind them
  abbrev AttributesEnd : List ℕ → List (ℕ × Value) × Unread → Type 0
  AttributesEnd ends x = EachEnds ends x.0 × IsOf order bytes x.1

  attributes_at-each : (s : Sections) (h : UnitHeader) (specs : List AttributeSpec) (u : Unread) → IsOf order bytes u → Holds (AttributesEnd (attribute_ends s h specs u)) (attributes_at s h specs u)
  unfolding attributes_at attribute_ends
  attributes_at-each s h [] u i = record { held = (tt, i) }
  attributes_at-each s h (spec ∷ specs) u i = go (value_at s h spec u) (value_at-ends order bytes s h spec u i) (λ v j. attributes_at-each s h specs v j)
    where
      more : (end : ℕ) (ends : List ℕ) (v : Value) (r : Read (List (ℕ × Value))) → EndsIn order bytes end v → Holds (AttributesEnd ends) r
          → Holds {A = List (ℕ × Value) × Unread} (AttributesEnd (end ∷ ends)) (r >>= λ others. Ok ((spec.name, v) ∷ others.0, others.1))
      more end ends v (Err flaw) here h = record { held = tt }
      more end ends v (Ok others) here h = record { held = ((here, (h.held).0), (h.held).1) }

      go : (r : Read Value) → Holds (Ends order bytes) r → ((v : Unread) → IsOf order bytes v → Holds (AttributesEnd (attribute_ends s h specs v)) (attributes_at s h specs v))
          → Holds {A = List (ℕ × Value) × Unread} (AttributesEnd (elim r [ Err flaw ↦ [] | Ok value ↦ (value.1).place ∷ attribute_ends s h specs value.1 ]))
          (r >>= λ first. attributes_at s h specs first.1 >>= λ others. Ok ((spec.name, first.0) ∷ others.0, others.1))
      go (Err flaw) k others = record { held = tt }
      go (Ok x) k others = more (x.1).place (attribute_ends s h specs x.1) x.0 (attributes_at s h specs x.1) (k.held).1 (others x.1 (k.held).0)

  -- an entry whose attributes end so, with what is unread behind it
  abbrev FoundEnds : ℕ → List ℕ → Option Found × Unread → Type 0
  FoundEnds offset ends (None, v) = IsOf order bytes v
  FoundEnds offset ends (Some f, v) = (f.entry.offset ≡ offset) × EachEnds ends f.entry.attributes × IsOf order bytes v

  entry_at-each : (s : Sections) (h : UnitHeader) (table : List Declaration) (depth : ℕ) (u : Unread) → IsOf order bytes u → Holds (FoundEnds u.place (entry_ends s h table u)) (entry_at s h table depth u)
  unfolding entry_at declared_entry_at entry_ends
  entry_at-each s h table depth u i = go (uleb_at u) (uleb_at-of order bytes u i)
    where
      attributes : (ends : List ℕ) (d : Declaration) (r : Read (List (ℕ × Value))) → Holds (AttributesEnd ends) r
          → Holds {A = Option Found × Unread} (FoundEnds u.place ends) (r >>= λ attributes. Ok (Some (record { entry = record { offset = u.place; depth = depth; tag = d.tag; attributes = attributes.0 }; has_children = d.has_children }), attributes.1))
      attributes ends d (Err flaw) h = record { held = tt }
      attributes ends d (Ok x) h = record { held = (refl, (h.held).0, (h.held).1) }

      marked : (b : Bool) (o : Option Declaration) (v : Unread) → IsOf order bytes v
          → Holds {A = Option Found × Unread} (FoundEnds u.place (elim o [ None ↦ [] | Some d ↦ attribute_ends s h d.attributes v ]))
          (elim b [ true ↦ Ok (None, v) | false ↦ elim o [ None ↦ Err Malformed | Some d ↦ declared_entry_at s h u.place depth d v ] ])
      marked true o v j = record { held = j }
      marked false None v j = record { held = tt }
      marked false (Some d) v j = attributes (attribute_ends s h d.attributes v) d (attributes_at s h d.attributes v) (attributes_at-each s h d.attributes v j)

      go : (r : Read ℕ) → Holds (λ x. IsOf order bytes x.1) r
          → Holds {A = Option Found × Unread} (FoundEnds u.place (elim r [ Err flaw ↦ [] | Ok code ↦ elim (declaration_of code.0 table) [ None ↦ [] | Some d ↦ attribute_ends s h d.attributes code.1 ] ]))
          (r >>= λ code. elim (code.0 == 0) [ true ↦ Ok (None, code.1) | false ↦ elim (declaration_of code.0 table) [ None ↦ Err Malformed | Some d ↦ declared_entry_at s h u.place depth d code.1 ] ])
      go (Err flaw) k = record { held = tt }
      go (Ok code) k = marked (code.0 == 0) (declaration_of code.0 table) code.1 k.held

-- ---- the entries of a unit

-- bytes of a unit stand in its section too
in-section : (end place : ℕ) (whole these : List ℕ) → take (length these) (drop place (take end whole)) ≡ these → take (length these) (drop place whole) ≡ these
in-section end place whole [] h = refl
in-section end place whole (t ∷ ts) h =
    let count : length (take (length (t ∷ ts)) (drop place (take end whole))) ≡ length (t ∷ ts) = ap length h in
    let fits : place + length (t ∷ ts) ≤ end = omega (arith, count, length-take (length (t ∷ ts)) (drop place (take end whole)), length-drop place (take end whole), length-take end whole) in
    let split : place + (end - place) ≡ end = omega (arith, fits) in
    let room : length (t ∷ ts) ≤ end - place = omega (arith, fits) in
    sym (take-take (length (t ∷ ts)) (end - place) (drop place whole) room) ∙ ap (take (length (t ∷ ts))) (sym (drop-take place (end - place) whole) ∙ ap (λ n. drop place (take n whole)) split) ∙ h

-- what is unread is what a unit has from its place on
abbrev pub IsOfUnit : Sections → UnitHeader → Unread → Type 0
IsOfUnit s h u = IsOf s.order (take h.end (s.bytes Info)) u

-- Each expression of an entry has its bytes in the section at its place.
pub record ExpressionsStand (s : Sections) (h : UnitHeader) (e : Entry) : Type 0 where
  pub stand : (number name : ℕ) (these : List ℕ) → slice_get e.attributes number ≡ Some (name, expression these)
      → take (length these) (drop (expression_place s h e.offset number these) (s.bytes Info)) ≡ these

-- Where an entry stands one is read that is the same but for its depth.
pub record IsThere (s : Sections) (h : UnitHeader) (table : List Declaration) (e : Entry) : Type 0 where
  pub found : Found
  pub behind : Unread
  pub read : entry_at s h table 0 (unit_from s h e.offset) ≡ Ok (Some found, behind)
  pub offset : found.entry.offset ≡ e.offset
  pub tag : found.entry.tag ≡ e.tag
  pub attributes : found.entry.attributes ≡ e.attributes

-- An entry stands where it is read alone, and each expression of it at its place.
pub record EntryStands (s : Sections) (h : UnitHeader) (e : Entry) : Type 0 where
  pub expressions : ExpressionsStand s h e
  pub there : (table : List Declaration) → abbreviation_table s h.abbreviations ≡ Ok table → IsThere s h table e

-- what was found, with what is unread behind it
abbrev pub FoundStands : Sections → UnitHeader → Option Found × Unread → Type 0
FoundStands s h (None, v) = IsOfUnit s h v
FoundStands s h (Some f, v) = EntryStands s h f.entry × IsOfUnit s h v

-- so it is of all entries that are listed
abbrev EntriesStand : Sections → UnitHeader → Listing Fault Entry → Type 0
EntriesStand s h l = All (EntryStands s h) l.items

-- an entry as it is found at the depth of a root
abbrev at_root : Option Found → Option Found
at_root None = None
at_root (Some f) = Some (record { entry = record { offset = f.entry.offset; depth = 0; tag = f.entry.tag; attributes = f.entry.attributes }; has_children = f.has_children })

-- Entries are read the same at each depth.
entry_at-root : (s : Sections) (h : UnitHeader) (table : List Declaration) (depth : ℕ) (u : Unread) → entry_at s h table 0 u ≡ seen_as at_root (entry_at s h table depth u)
unfolding entry_at declared_entry_at
entry_at-root s h table depth u = go (uleb_at u)
  where
    attributes : (d : Declaration) (r : Read (List (ℕ × Value)))
        → (r >>= λ attributes. Ok (Some (record { entry = record { offset = u.place; depth = 0; tag = d.tag; attributes = attributes.0 }; has_children = d.has_children }), attributes.1))
        ≡ seen_as at_root (r >>= λ attributes. Ok (Some (record { entry = record { offset = u.place; depth = depth; tag = d.tag; attributes = attributes.0 }; has_children = d.has_children }), attributes.1))
    attributes d (Err flaw) = refl
    attributes d (Ok x) = refl

    coded : ℕ → Bool → Option Declaration → Unread → Read (Option Found)
    coded depth b o v = elim b [ true ↦ Ok (None, v) | false ↦ elim o [ None ↦ Err Malformed | Some d ↦ declared_entry_at s h u.place depth d v ] ]

    marked : (b : Bool) (o : Option Declaration) (v : Unread) → coded 0 b o v ≡ seen_as at_root (coded depth b o v)
    marked true o v = refl
    marked false None v = refl
    marked false (Some d) v = attributes d (attributes_at s h d.attributes v)

    go : (r : Read ℕ)
        → (r >>= λ code. elim (code.0 == 0) [ true ↦ Ok (None, code.1) | false ↦ elim (declaration_of code.0 table) [ None ↦ Err Malformed | Some d ↦ declared_entry_at s h u.place 0 d code.1 ] ])
        ≡ seen_as at_root (r >>= λ code. elim (code.0 == 0) [ true ↦ Ok (None, code.1) | false ↦ elim (declaration_of code.0 table) [ None ↦ Err Malformed | Some d ↦ declared_entry_at s h u.place depth d code.1 ] ])
    go (Err flaw) = refl
    go (Ok code) = marked (code.0 == 0) (declaration_of code.0 table) code.1

module _ (s : Sections) (h : UnitHeader) (table : List Declaration) (known : abbreviation_table s h.abbreviations ≡ Ok table) where
  ends-known : (u : Unread) → IsOfUnit s h u → value_ends s h u.place ≡ entry_ends s h table u
  unfolding value_ends
  ends-known u i = rw (known, value_ends) (ap (entry_ends s h table) (sym i.same))

  entry-stands : (ends : List ℕ) (e : Entry) → EachEnds s.order (take h.end (s.bytes Info)) ends e.attributes → value_ends s h e.offset ≡ ends → ExpressionsStand s h e
  entry-stands ends e each is = record {
    stand = λ number name these at.
        let begin : expression_place s h e.offset number these ≡ get_or ends number 0 - length these = ap (λ (xs : List ℕ). get_or xs number 0 - length these) is in
        in-section h.end (expression_place s h e.offset number these) (s.bytes Info) these
        (rw begin (each-at s.order (take h.end (s.bytes Info)) ends e.attributes number name these each at));
  }

  entry-there : (depth : ℕ) (u v : Unread) (f : Found) → IsOfUnit s h u → f.entry.offset ≡ u.place → entry_at s h table depth u ≡ Ok (Some f, v) → (t : List Declaration) → abbreviation_table s h.abbreviations ≡ Ok t → IsThere s h t f.entry
  entry-there depth u v f i place read t other = record {
    found = record { entry = record { offset = f.entry.offset; depth = 0; tag = f.entry.tag; attributes = f.entry.attributes }; has_children = f.has_children };
    behind = v;
    read =
        ap₂ (λ (t : List Declaration) (w : Unread). entry_at s h t 0 w) same (ap (unit_from s h) place ∙ sym i.same)
        ∙ entry_at-root s h table depth u
        ∙ ap (seen_as at_root) read;
    offset = refl;
    tag = refl;
    attributes = refl;
  }
    where
      one : (r : Result (List Declaration) Fault) → r ≡ Ok t → r ≡ Ok table → t ≡ table
      one (Err fault) is known = absurd (cc)
      one (Ok x) is known = cc

      same : t ≡ table
      same = one (abbreviation_table s h.abbreviations) other known

  -- An entry that is read from what is unread of its unit.
  pub entry_at-stands : (depth : ℕ) (u : Unread) → IsOfUnit s h u → Holds (FoundStands s h) (entry_at s h table depth u)
  entry_at-stands depth u i = go (entry_at s h table depth u) refl (entry_at-each s.order (take h.end (s.bytes Info)) s h table depth u i)
    where
      go : (r : Read (Option Found)) → entry_at s h table depth u ≡ r → Holds (FoundEnds s.order (take h.end (s.bytes Info)) u.place (entry_ends s h table u)) r → Holds (FoundStands s h) r
      go (Err flaw) read k = record { held = tt }
      go (Ok (None, v)) read k = record { held = k.held }
      go (Ok (Some f, v)) read k = record { held = (record { expressions = entry-stands (entry_ends s h table u) f.entry (k.held).1 (ap (value_ends s h) (k.held).0 ∙ ends-known u i); there = entry-there depth u v f i (k.held).0 read }, (k.held).2) }

  -- what is unread at a place of the unit, if it is one, and that it is less than so much
  abbrev PlaceOf : ℕ → Option EntryPlace → Type 0
  PlaceOf most None = Unit {0}
  PlaceOf most (Some p) = (length p.unread.left < most) × IsOfUnit s h p.unread

  entry_place-of : (most depth : ℕ) (v : Unread) → length v.left < most → IsOfUnit s h v → PlaceOf most (entry_place depth v)
  entry_place-of most zero v few i = tt
  entry_place-of most (suc depth) v few i = (few, i)

  place_behind-of : (found : Option Found) (most depth : ℕ) (v : Unread) → length v.left < most → IsOfUnit s h v → PlaceOf most (place_behind found depth v)
  place_behind-of None most depth v few i = entry_place-of most _ v few i
  place_behind-of (Some f) most depth v few i = entry_place-of most _ v few i

  entries_from-stand : (most : ℕ) (o : Option EntryPlace) → PlaceOf most o → EntriesStand s h (entries_from s h table o)
  entries_from-stand most None i = subst (EntriesStand s h) (sym (entries_from-none s h table)) (All-nil (EntryStands s h))
  entries_from-stand zero (Some p) i = absurd (omega (arith, i.0))
  entries_from-stand (suc most) (Some p) i =
      go (length p.unread.left) refl (entry_at s h table p.depth p.unread) refl (entry_at-leaves s h table p.depth p.unread).fewer (entry_at-stands p.depth p.unread i.1) (λ o j. entries_from-stand most o j)
    where
      go : (n : ℕ) → length p.unread.left ≡ n → (r : Read (Option Found)) → entry_at s h table p.depth p.unread ≡ r → LeavesFewer r (length p.unread.left) → Holds (FoundStands s h) r
          → ((o : Option EntryPlace) → PlaceOf most o → EntriesStand s h (entries_from s h table o)) → EntriesStand s h (entries_from s h table (Some p))
      go zero n r read few k rest = subst (EntriesStand s h) (sym (entries_from-end s h table p n)) (All-nil (EntryStands s h))
      go (suc c) n (Err flaw) read few k rest = subst (EntriesStand s h) (sym (entries_from-fault s h table p flaw (omega (arith, n)) read)) (All-nil (EntryStands s h))
      go (suc c) n (Ok (None, v)) read few k rest =
          subst (EntriesStand s h) (sym (entries_from-siblings s h table p v (omega (arith, n)) read)) (rest (place_behind None p.depth v) (place_behind-of None most p.depth v (omega (arith, few, i.0)) k.held))
      go (suc c) n (Ok (Some f, v)) read few k rest =
          subst (EntriesStand s h) (sym (entries_from-entry s h table p v f (omega (arith, n)) read))
          (All-cons (EntryStands s h) f.entry _ (k.held).0 (rest (place_behind (Some f) p.depth v) (place_behind-of (Some f) most p.depth v (omega (arith, few, i.0)) (k.held).1)))

unit-stands : (s : Sections) (h : UnitHeader) → IsOfUnit s h h.content → All (EntryStands s h) (entries s h).items
unfolding entries
unit-stands s h i = go (abbreviation_table s h.abbreviations) refl
  where
    go : (t : Result (List Declaration) Fault) → abbreviation_table s h.abbreviations ≡ t → EntriesStand s h (elim t [ Err fault ↦ only_fault fault | Ok table ↦ entries_from s h table (root_place h) ])
    go (Err fault) known = All-nil (EntryStands s h)
    go (Ok table) known = entries_from-stand s h table known (suc (length (h.content).left)) (root_place h) (omega arith, i)

-- ---- the units of a section

-- so it is of all entries of a unit, and of all units that are listed
abbrev UnitStands : Sections → UnitHeader → Type 0
UnitStands s h = All (EntryStands s h) (entries s h).items

abbrev UnitsStand : Sections → Listing Fault UnitHeader → Type 0
UnitsStand s l = All (UnitStands s) l.items

unit_headers_from-stand : (s : Sections) (most : ℕ) (u : Unread) → length u.left < most → IsOf s.order (s.bytes Info) u → UnitsStand s (unit_headers_from u)
unit_headers_from-stand s zero u less i = absurd (omega (arith, less))
unit_headers_from-stand s (suc most) u less i =
    go (length u.left) refl (unit_header_at u) refl (unit_header_at-leaves u).fewer (unit_header_at-of s.order (s.bytes Info) u i) (λ v few j. unit_headers_from-stand s most v (omega (arith, less, few)) j)
  where
    go : (n : ℕ) → length u.left ≡ n → (r : Read UnitHeader) → unit_header_at u ≡ r → LeavesFewer r (length u.left) → Holds (UnitOf s.order (s.bytes Info)) r
        → ((v : Unread) → length v.left < length u.left → IsOf s.order (s.bytes Info) v → UnitsStand s (unit_headers_from v)) → UnitsStand s (unit_headers_from u)
    go zero n r read few k rest = subst (UnitsStand s) (sym (unit_headers_from-end u n)) (All-nil (UnitStands s))
    go (suc c) n (Err flaw) read few k rest = subst (UnitsStand s) (sym (unit_headers_from-fault u flaw (omega (arith, n)) read)) (All-nil (UnitStands s))
    go (suc c) n (Ok (h, v)) read few k rest = subst (UnitsStand s) (sym (unit_headers_from-item u v h (omega (arith, n)) read)) (All-cons (UnitStands s) h _ (unit-stands s h (k.held).0) (rest v few (k.held).1))

-- Each entry of a section's units stands where it is read alone, and each expression of it at its place.
pub entries-stand : (s : Sections) → All (λ h. All (EntryStands s h) (entries s h).items) (unit_headers s).items
entries-stand s = unit_headers_from-stand s (suc (length (section_from s Info 0).left)) (section_from s Info 0) (omega arith) (record { same = refl })
