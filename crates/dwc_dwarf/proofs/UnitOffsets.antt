-- Units stand one behind another, and their entries in them, one behind another.
use Rattle.std.proofs.Common.{◌≡◌, ℕ, zero, suc, ◌+◌, ◌<◌, ◌≤◌, List, [], ◌∷◌, length, refl, sym, subst, ◌∙◌, arith, Option, Some, None, Result, Ok, Err}
use Rattle.dwc_base.specs.declared.section_name.SectionName.TheVariants.{Info}
use Rattle.dwc_base.specs.Reading.{Unread, Read}
use Rattle.dwc_base.specs.Listing.{Listing, only_fault, with_first}
use Rattle.dwc_base.specs.Sections.{Sections, Fault, section_from}
use Rattle.dwc_base.specs.Abbreviations.{Declaration, abbreviation_table}
use Rattle.dwc_base.specs.Units.{UnitHeader, unit_header_at, unit_headers, unit_headers_from}
use Rattle.dwc_dwarf.specs.Entries.{Entry, Found, EntryPlace, entry_place, place_behind, root_place, entry_at, entries_from, entries}
use Rattle.dwc_base.proofs.Items.{LeavesFewer}
use Rattle.dwc_base.proofs.Takes.{unit_header_at-leaves}
use Rattle.dwc_dwarf.proofs.TakesValues.{entry_at-leaves}
use Rattle.dwc_dwarf.proofs.EntryWalk.{entries_from-none, entries_from-end, entries_from-fault, entries_from-siblings, entries_from-entry}
use Rattle.dwc_base.proofs.UnitWalk.{unit_headers_from-end, unit_headers_from-item, unit_headers_from-fault}
use Rattle.dwc_dwarf.specs.UnitOffsets.{RiseIn, StandFrom}
use Rattle.dwc_base.proofs.ReadEnds.{IsWithin, HeaderIs, UnitWithin, unit_header_at-within}
use Rattle.dwc_dwarf.proofs.ValueEnds.{FoundAt, entry_at-within}

pub rise-weaker : (from low end : ℕ) (es : List Entry) → low ≤ from → RiseIn from end es → RiseIn low end es
rise-weaker from low end [] le h = tt
rise-weaker from low end (e ∷ es) le h = (omega (arith, le, h.0), h.1, h.2)

-- the unread bytes of a place, if it is one, lie within
abbrev pub PlaceWithin : ℕ → ℕ → Option EntryPlace → Type 0
PlaceWithin from end None = Unit {0}
PlaceWithin from end (Some p) = IsWithin from end p.unread

entry_place-within : (from end depth : ℕ) (v : Unread) → IsWithin from end v → PlaceWithin from end (entry_place depth v)
entry_place-within from end zero v i = tt
entry_place-within from end (suc depth) v i = i

place_behind-within : (found : Option Found) (from end depth : ℕ) (v : Unread) → IsWithin from end v → PlaceWithin from end (place_behind found depth v)
place_behind-within None from end depth v i = entry_place-within from end _ v i
place_behind-within (Some f) from end depth v i = entry_place-within from end _ v i

-- how many bytes a place has in front of it
abbrev pub FewerThan : ℕ → Option EntryPlace → Type 0
FewerThan m None = Unit {0}
FewerThan m (Some p) = length p.unread.left < m

entry_place-fewer : (m depth : ℕ) (v : Unread) → length v.left < m → FewerThan m (entry_place depth v)
entry_place-fewer m zero v i = tt
entry_place-fewer m (suc depth) v i = i

place_behind-fewer : (found : Option Found) (m depth : ℕ) (v : Unread) → length v.left < m → FewerThan m (place_behind found depth v)
place_behind-fewer None m depth v i = entry_place-fewer m _ v i
place_behind-fewer (Some f) m depth v i = entry_place-fewer m _ v i

module _ (s : Sections) (h : UnitHeader) (table : List Declaration) where
  entries-rise : (m from end : ℕ) (o : Option EntryPlace) → FewerThan m o → PlaceWithin from end o → RiseIn from end (entries_from s h table o).items
  entries-rise m from end None less i = subst (λ (l : Listing Fault Entry). RiseIn from end l.items) (sym (entries_from-none s h table)) tt
  entries-rise zero from end (Some p) less i = absurd (omega (arith, less))
  entries-rise (suc m) from end (Some p) less i =
      go (length p.unread.left) refl (entry_at s h table p.depth p.unread) refl (entry_at-leaves s h table p.depth p.unread).fewer (entry_at-within s h table p.depth from end p.unread i).found
      (λ low o few j. entries-rise m low end o few j)
    where
      more : (f : Found) (v : Unread) → length v.left < length p.unread.left → f.entry.offset ≡ p.unread.place → IsWithin from end v
          → ((low : ℕ) (o : Option EntryPlace) → FewerThan m o → PlaceWithin low end o → RiseIn low end (entries_from s h table o).items)
          → RiseIn from end (with_first f.entry (entries_from s h table (place_behind (Some f) p.depth v))).items
      more f v few start j rest = (
        omega (arith, start, i.begins),
        omega (arith, start, i.ends, few),
        rest (suc f.entry.offset) (place_behind (Some f) p.depth v) (place_behind-fewer (Some f) m p.depth v (omega (arith, few, less)))
            (place_behind-within (Some f) (suc f.entry.offset) end p.depth v (record { begins = omega (arith, start, few, i.ends, j.ends); ends = j.ends })),
      )

      go : (n : ℕ) → length p.unread.left ≡ n → (r : Read (Option Found)) → entry_at s h table p.depth p.unread ≡ r → LeavesFewer r (length p.unread.left) → FoundAt p.unread.place from end r
          → ((low : ℕ) (o : Option EntryPlace) → FewerThan m o → PlaceWithin low end o → RiseIn low end (entries_from s h table o).items)
          → RiseIn from end (entries_from s h table (Some p)).items
      go zero n r read few k rest = subst (λ (l : Listing Fault Entry). RiseIn from end l.items) (sym (entries_from-end s h table p n)) tt
      go (suc c) n (Err flaw) read few k rest = subst (λ (l : Listing Fault Entry). RiseIn from end l.items) (sym (entries_from-fault s h table p flaw (omega (arith, n)) read)) tt
      go (suc c) n (Ok (None, v)) read few k rest =
          subst (λ (l : Listing Fault Entry). RiseIn from end l.items) (sym (entries_from-siblings s h table p v (omega (arith, n)) read))
          (rest from (place_behind None p.depth v) (place_behind-fewer None m p.depth v (omega (arith, few, less))) (place_behind-within None from end p.depth v k))
      go (suc c) n (Ok (Some f, v)) read few k rest =
          subst (λ (l : Listing Fault Entry). RiseIn from end l.items) (sym (entries_from-entry s h table p v f (omega (arith, n)) read)) (more f v few k.0 k.1 rest)

-- the entries of a unit whose content lies within
all-rise : (s : Sections) (h : UnitHeader) (from end : ℕ) → IsWithin from end h.content → RiseIn from end (entries s h).items
unfolding entries
all-rise s h from end i = go (abbreviation_table s h.abbreviations)
  where
    go : (t : Result (List Declaration) Fault) → RiseIn from end (let l : Listing Fault Entry = elim t [ Err fault ↦ only_fault fault | Ok table ↦ entries_from s h table (root_place h) ] in l).items
    go (Err fault) = tt
    go (Ok table) = entries-rise s h table (suc (length (h.content).left)) from end (root_place h) (omega arith) i

-- the entries of a unit whose content ends with it
pub unit-rise : (s : Sections) (h : UnitHeader) → IsWithin h.offset h.end h.content → RiseIn h.offset h.end (entries s h).items
unit-rise s h i = all-rise s h h.offset h.end i

-- no entry of a unit stands before what is behind its header
pub content-rise : (s : Sections) (h : UnitHeader) → RiseIn (h.content).place ((h.content).place + length (h.content).left) (entries s h).items
content-rise s h = all-rise s h (h.content).place ((h.content).place + length (h.content).left) (record { begins = omega arith; ends = refl })

headers-stand : (s : Sections) (m from : ℕ) (u : Unread) → length u.left < m → from ≤ u.place → StandFrom s from (unit_headers_from u).items
headers-stand s zero from u less le = absurd (omega (arith, less))
headers-stand s (suc m) from u less le =
    go (length u.left) refl (unit_header_at u) refl (unit_header_at-leaves u).fewer (unit_header_at-within u) (λ v few. headers-stand s m v.place v (omega (arith, less, few)) (omega arith))
  where
    go : (n : ℕ) → length u.left ≡ n → (r : Read UnitHeader) → unit_header_at u ≡ r → LeavesFewer r (length u.left) → UnitWithin u.place (u.place + length u.left) r
        → ((v : Unread) → length v.left < length u.left → StandFrom s v.place (unit_headers_from v).items) → StandFrom s from (unit_headers_from u).items
    go zero n r read few k rest = subst (λ (l : Listing Fault UnitHeader). StandFrom s from l.items) (sym (unit_headers_from-end u n)) tt
    go (suc c) n (Err flaw) read few k rest = subst (λ (l : Listing Fault UnitHeader). StandFrom s from l.items) (sym (unit_headers_from-fault u flaw (omega (arith, n)) read)) tt
    go (suc c) n (Ok (h, v)) read few k rest =
        let is : HeaderIs u.place v.place h = k.0 in
        let inside : IsWithin u.place (u.place + length u.left) v = k.1 in
        let content : IsWithin h.offset h.end h.content = record { begins = omega (arith, is.begins, (is.content).begins); ends = (is.content).ends ∙ sym is.ends } in
        subst (λ (l : Listing Fault UnitHeader). StandFrom s from l.items) (sym (unit_headers_from-item u v h (omega (arith, n)) read))
        (omega (arith, le, is.begins), omega (arith, is.begins, is.ends, few, inside.ends), unit-rise s h content, subst (λ e. StandFrom s e (unit_headers_from v).items) (sym is.ends) (rest v few))

-- The units from any place on stand so, and those of a section.
pub units-from-stand : (s : Sections) (u : Unread) → StandFrom s 0 (unit_headers_from u).items
units-from-stand s u = headers-stand s (suc (length u.left)) 0 u (omega arith) (omega arith)

pub units-stand : (s : Sections) → StandFrom s 0 (unit_headers s).items
units-stand s = units-from-stand s (section_from s Info 0)
