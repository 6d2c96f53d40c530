-- The entries of a unit with their links.
use Rattle.std.proofs.Common.{◌≡◌, ℕ, ◌<◌, refl, ap, sym, ◌∙◌, List, length, Bool, true, false, Option, Some, None, Ok, Err}
use Rattle.std.specs.Prelude.{option_map, ◌==◌}
use Rattle.std.specs.List.{filter}
use Rattle.dwc_base.specs.declared.faults.Flaw.{Flaw}
use Rattle.dwc_base.specs.declared.faults.Flaw.TheVariants.{Malformed}
use Rattle.dwc_base.specs.declared.faults.What.TheVariants.{Entry as EntryRead}
use Rattle.dwc_base.specs.declared.section_name.SectionName.TheVariants.{Info}
use Rattle.dwc_base.specs.Reading.{Unread, Read, ◌>>=◌, uleb_at, seen_as}
use Rattle.dwc_base.specs.Listing.{Listing, no_items, only_fault, with_first}
use Rattle.dwc_base.specs.Sections.{Sections, Fault, fault_of}
use Rattle.dwc_base.specs.Abbreviations.{Declaration, declaration_of}
use Rattle.dwc_base.specs.Units.{UnitHeader}
use Rattle.dwc_dwarf.specs.Values.{Value}
use Rattle.dwc_dwarf.specs.Entries.{Entry, Found, EntryPlace, attributes_at, declared_entry_at, entry_at, place_behind}
use Rattle.dwc_dwarf.proofs.EntryWalk.{entries_from-none, entries_from-end, entries_from-fault, entries_from-siblings, entries_from-entry}
use Rattle.dwc_read.specs.Links.{is_link, linked, links_at, declared_links_at, linked_entry_at, found_links, linked_from}
use Rattle.dwc_read.specs.EntriesSeen.{BeginsWith}
use Rattle.dwc_read.proofs.StepLaws.{entry_at-shrinks}

-- ---- what is read with its links is what is read, with its links

abbrev as_linked : Read (Option Found) → Read (Option Found)
as_linked r = seen_as (option_map found_links) r

seen-flaw : (r : Read (Option Found)) (flaw : Flaw) → as_linked r ≡ Err flaw → r ≡ Err flaw
seen-flaw (Ok x) flaw e = absurd (cc)
seen-flaw (Err other) flaw e = e

seen-none : (r : Read (Option Found)) (v : Unread) → as_linked r ≡ Ok (None, v) → r ≡ Ok (None, v)
seen-none (Ok x) v e = go x.0 x.1 e
  where
    go : (o : Option Found) (w : Unread) → ◌≡◌ {A = Read (Option Found)} (Ok (option_map found_links o, w)) (Ok (None, v)) → ◌≡◌ {A = Read (Option Found)} (Ok (o, w)) (Ok (None, v))
    go None w e = e
    go (Some found) w e = absurd (let p : ◌≡◌ {A = Option Found × Unread} (Some (found_links found), w) (None, v) = cc in let q = ap (λ p. p.0) p in cc)
seen-none (Err flaw) v e = absurd (cc)

-- what an entry is read from that is seen with its links
abbrev IsSeen : Read (Option Found) → Found → Unread → Type 0
IsSeen r seen v = (found : Found) × (r ≡ Ok (Some found, v)) × (seen ≡ found_links found)

seen-some : (r : Read (Option Found)) (seen : Found) (v : Unread) → as_linked r ≡ Ok (Some seen, v) → IsSeen r seen v
seen-some (Ok x) seen v e = go x.0 x.1 e
  where
    go : (o : Option Found) (w : Unread) → ◌≡◌ {A = Read (Option Found)} (Ok (option_map found_links o, w)) (Ok (Some seen, v)) → IsSeen (Ok (o, w)) seen v
    go None w e = absurd (let p : ◌≡◌ {A = Option Found × Unread} (None, w) (Some seen, v) = cc in let q = ap (λ p. p.0) p in cc)
    go (Some found) w e =
        let p : ◌≡◌ {A = Option Found × Unread} (Some (found_links found), w) (Some seen, v) = cc in
        let q : ◌≡◌ {A = Option Found} (Some (found_links found)) (Some seen) = ap (λ p. p.0) p in
        (found, ap (λ u. Ok (Some found, u)) (ap (λ p. p.1) p), cc)
seen-some (Err flaw) seen v e = absurd (cc)

module _ (s : Sections) (h : UnitHeader) where
  declared-linked : (offset depth : ℕ) (d : Declaration) (u : Unread) → declared_links_at s h offset depth d u ≡ as_linked (declared_entry_at s h offset depth d u)
  unfolding declared_links_at declared_entry_at links_at
  declared-linked offset depth d u = go (attributes_at s h d.attributes u)
    where
      go : (r : Read (List (ℕ × Value)))
          → ◌≡◌ {A = Read (Option Found)} (seen_as (filter is_link) r >>= λ links. Ok (Some (record { entry = record { offset = offset; depth = depth; tag = d.tag; attributes = links.0 }; has_children = d.has_children }), links.1))
          (as_linked (r >>= λ attributes. Ok (Some (record { entry = record { offset = offset; depth = depth; tag = d.tag; attributes = attributes.0 }; has_children = d.has_children }), attributes.1)))
      go (Ok attributes) = refl
      go (Err flaw) = refl

  entry-linked : (table : List Declaration) (depth : ℕ) (u : Unread) → linked_entry_at s h table depth u ≡ as_linked (entry_at s h table depth u)
  unfolding linked_entry_at entry_at
  entry-linked table depth u = go (uleb_at u)
    where
      declared : (o : Option Declaration) (v : Unread)
          → ◌≡◌ {A = Read (Option Found)} (elim o [ None ↦ Err Malformed | Some d ↦ declared_links_at s h u.place depth d v ]) (as_linked (elim o [ None ↦ Err Malformed | Some d ↦ declared_entry_at s h u.place depth d v ]))
      declared None v = refl
      declared (Some d) v = declared-linked u.place depth d v

      coded : (b : Bool) (code : ℕ) (v : Unread)
          → ◌≡◌ {A = Read (Option Found)} (elim b [ true ↦ Ok (None, v) | false ↦ elim (declaration_of code table) [ None ↦ Err Malformed | Some d ↦ declared_links_at s h u.place depth d v ] ])
          (as_linked (elim b [ true ↦ Ok (None, v) | false ↦ elim (declaration_of code table) [ None ↦ Err Malformed | Some d ↦ declared_entry_at s h u.place depth d v ] ]))
      coded true code v = refl
      coded false code v = declared (declaration_of code table) v

      go : (r : Read ℕ)
          → ◌≡◌ {A = Read (Option Found)} (r >>= λ code. elim (code.0 == 0) [ true ↦ Ok (None, code.1) | false ↦ elim (declaration_of code.0 table) [ None ↦ Err Malformed | Some d ↦ declared_links_at s h u.place depth d code.1 ] ])
          (as_linked (r >>= λ code. elim (code.0 == 0) [ true ↦ Ok (None, code.1) | false ↦ elim (declaration_of code.0 table) [ None ↦ Err Malformed | Some d ↦ declared_entry_at s h u.place depth d code.1 ] ]))
      go (Ok code) = coded (code.0 == 0) code.0 code.1
      go (Err flaw) = refl

-- ---- the entries from a place on

module _ (s : Sections) (h : UnitHeader) (table : List Declaration) where
  pub linked_from-none : linked_from s h table None ≡ no_items
  linked_from-none = ap linked (entries_from-none s h table)

  pub linked_from-end : (p : EntryPlace) → length p.unread.left ≡ 0 → linked_from s h table (Some p) ≡ no_items
  linked_from-end p e = ap linked (entries_from-end s h table p e)

  pub linked_from-fault : (p : EntryPlace) (flaw : Flaw) → 0 < length p.unread.left → linked_entry_at s h table p.depth p.unread ≡ Err flaw → linked_from s h table (Some p) ≡ only_fault (fault_of EntryRead Info p.unread.place flaw)
  linked_from-fault p flaw some read = ap linked (entries_from-fault s h table p flaw some (seen-flaw _ flaw (sym (entry-linked s h table p.depth p.unread) ∙ read)))

  pub linked_from-siblings : (p : EntryPlace) (v : Unread) → 0 < length p.unread.left → linked_entry_at s h table p.depth p.unread ≡ Ok (None, v) → linked_from s h table (Some p) ≡ linked_from s h table (place_behind None p.depth v)
  linked_from-siblings p v some read = ap linked (entries_from-siblings s h table p v some (seen-none _ v (sym (entry-linked s h table p.depth p.unread) ∙ read)))

  pub linked_from-entry : (p : EntryPlace) (v : Unread) (seen : Found) → 0 < length p.unread.left → linked_entry_at s h table p.depth p.unread ≡ Ok (Some seen, v) → linked_from s h table (Some p) ≡ with_first seen.entry (linked_from s h table (place_behind (Some seen) p.depth v))
  linked_from-entry p v seen some read =
      let is = seen-some _ seen v (sym (entry-linked s h table p.depth p.unread) ∙ read) in
      ap linked (entries_from-entry s h table p v is.0 some is.1) ∙ ap (λ (f : Found). with_first f.entry (linked_from s h table (place_behind (Some f) p.depth v))) (sym is.2)

  pub linked_entry_at-shrinks : (depth : ℕ) (u v : Unread) (o : Option Found) → linked_entry_at s h table depth u ≡ Ok (o, v) → length v.left < length u.left
  linked_entry_at-shrinks depth u v None read = entry_at-shrinks s h table depth u v None (seen-none _ v (sym (entry-linked s h table depth u) ∙ read))
  linked_entry_at-shrinks depth u v (Some seen) read =
      let is = seen-some _ seen v (sym (entry-linked s h table depth u) ∙ read) in
      entry_at-shrinks s h table depth u v (Some is.0) is.1

-- a listing with its links begins with the fault that the listing begins with
pub BeginsWith-linked : (list : Listing Fault Entry) (o : Option Fault) → BeginsWith list o → BeginsWith (linked list) o
BeginsWith-linked list None begins = tt
BeginsWith-linked list (Some fault) begins = ap linked begins
