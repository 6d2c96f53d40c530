-- An entry of a unit that was read is read alone as it is, but for its depth.
use Rattle.std.proofs.Common.{◌≡◌, List, [], ◌∷◌, ap, sym, subst, ◌∙◌, inl, inr, eq-eqb}
use Rattle.std.specs.Prelude.{◌==◌}
use Rattle.std.specs.List.{filter, All, AllZip}
use Rattle.dwc_base.specs.Sections.{Sections}
use Rattle.dwc_base.specs.Units.{UnitHeader, unit_headers}
use Rattle.dwc_dwarf.specs.Entries.{Entry, entries}
use Rattle.dwc_rules.specs.EntryRules.{is_required}
use Rattle.dwc_rules.specs.Carried.{Module}
use Rattle.dwc_rules.specs.Kept.{Placed}
use Rattle.dwc_rules.specs.CarriedUnits.{kept_of}
use Rattle.dwc_dwarf.proofs.ExpressionPlaceLaws.{EntryStands, entries-stand}
use Rattle.dwc_base.proofs.InLists.{IsIn, filter-in, in-map}
use Rattle.dwc_rules.proofs.AllIn.{all-in}
use Rattle.dwc_read.proofs.LoneLaws.{IsReadThere, lone_entry-read}
use Rattle.dwc_kept.specs.declared.kept_units.KeptModule.{KeptModule}
use Rattle.dwc_kept.specs.declared.read_unit.ReadUnit.{ReadUnit}
use Rattle.dwc_kept.specs.ReadUnits.{unit_read, IsReadUnit, IsKeptModule}
use Rattle.dwc_kept.proofs.KeptInUnits.{are-kept, of-unit}
use Rattle.dwc_kept.proofs.KeptModuleLaws.{read-in, read-unit}

header-in : (s : Sections) (hs : List UnitHeader) (rs : List ReadUnit) (r : ReadUnit) → AllZip (IsReadUnit s) hs rs → IsIn r rs → IsIn r.unit.header hs
header-in s [] [] r zip i = absurd i
header-in s [] (x ∷ rs) r zip i = absurd zip
header-in s (h ∷ hs) [] r zip i = absurd zip
header-in s (h ∷ hs) (x ∷ rs) r zip (inl e) = inl (ap (λ (y : ReadUnit). y.unit.header) e ∙ (zip.0).header)
header-in s (h ∷ hs) (x ∷ rs) r zip (inr i) = inr (header-in s hs rs r zip.1 i)

module _ (c : Module) (m : KeptModule) (is : IsKeptModule c.functions c.sections m) (r : ReadUnit) (i : IsIn r m.units.items) where
  abbrev header : UnitHeader
  header = r.unit.header

  -- An entry of the module with the offset of a unit is one of that unit's.
  pub entry-in : (e : Placed) → IsIn e (kept_of c).entries → e.unit ≡ header.offset → IsIn e.entry (entries c.sections header).items
  entry-in e among own =
      let are = are-kept (λ u. is_required c.functions c.sections u.header) c is.whole in
      let there = filter-in (λ (p : Placed). p.unit == header.offset) (kept_of c).entries e among (eq-eqb e.unit header.offset own) in
      let placed = subst (IsIn e) (ap (filter (λ (p : Placed). p.unit == header.offset)) are.entries ∙ of-unit 0 (kept_of c).units (unit_read c.sections header) are.stand (read-in c m is r i)) there in
      let found = in-map (λ (x : Entry). record { unit = header.offset; entry = x }) (entries c.sections header).items e placed in
      subst (λ (x : Entry). IsIn x (entries c.sections header).items) (sym (ap (λ (p : Placed). p.entry) found.2)) found.1

  -- It is read alone as it is.
  pub read-alone : (e : Placed) → IsIn e (kept_of c).entries → e.unit ≡ header.offset → IsReadThere r.unit e.entry
  read-alone e among own =
      let there = header-in c.sections (unit_headers c.sections).items m.units.items r is.units i in
      let stands = all-in (EntryStands c.sections header) (entries c.sections header).items e.entry (all-in (λ h. All (EntryStands c.sections h) (entries c.sections h).items) (unit_headers c.sections).items header (entries-stand c.sections) there) (entry-in e among own) in
      let same : c.sections ≡ r.unit.sections = sym (read-unit c m is r i).sections in
      lone_entry-read r.unit e.entry (subst (λ (s : Sections). EntryStands s header e.entry) same stands) (subst (λ (s : Sections). IsIn e.entry (entries s header).items) same (entry-in e among own))
