-- The functions that kept subprograms of carried units begin in, as they are noted while the units are read.
use Rattle.std.proofs.Common.{◌≡◌, ℕ, ◌<◌, ◌≤◌, List, [], ◌∷◌, length, map, filter_map, refl, ap, ap₂, sym, subst, ◌∙◌, Bool, Option}
use Rattle.std.specs.List.{cons_option, filter, flat_map}
use Rattle.std.specs.BTreeSet.{BTreeSet}
use Rattle.dwc_rules.specs.Carried.{Module}
use Rattle.dwc_dwarf.specs.ReadUnits.{Unit}
use Rattle.dwc_native.specs.Compiled.{ToldModule}
use Rattle.dwc_dwarf.specs.Entries.{Entry, entries}
use Rattle.dwc_native.specs.Functions.{Function}
use Rattle.dwc_rules.specs.Kept.{Placed}
use Rattle.dwc_carried.specs.SimulatedFunctions.{begun_functions, begun_in_module}
use Rattle.dwc_dwarf.specs.Lists.{list_source}
use Rattle.dwc_rules.specs.RangeAttributes.{begun_function}
use Rattle.dwc_kept.specs.declared.kept_units.KeptModule.{KeptModule}
use Rattle.dwc_kept.specs.declared.read_unit.ReadUnit.{ReadUnit}
use Rattle.dwc_kept.specs.ReadUnits.{unit_read, is_carried_read}
use Rattle.dwc_base.proofs.InLists.{contains-in}
use Rattle.dwc_kept.proofs.KeptModuleLaws.{carried-read, read-entries, read-unit}
use Rattle.dwc_clone.specs.BegunNumbers.{NotesFunctions}
use Rattle.dwc_clone.specs.ClonedUnits.{picked, placed_in}
use Rattle.dwc_source.specs.declared.places.EmittedEntry.{EmittedEntry}
use Rattle.dwc_clone.proofs.BegunNumberLaws.{AreNotedSoFar, noted-more}
use Rattle.dwc_carry.specs.CarriedUnits.{IsOfModule, IsUnitOf}
use Rattle.dwc_carry.specs.ModulePlaces.{carried_offsets}
use Rattle.dwc_carry.proofs.UnitLoopLaws.{left-none, left-some}
use Rattle.dwc_carry.proofs.UnitSources.{picked-of}

-- what is found of entries by themselves
found-placed : (unit : ℕ) (h : Entry → Option Function) (es : List Entry) → filter_map h es ≡ filter_map (λ (e : Placed). h e.entry) (placed_in unit es)
found-placed unit h [] = refl
found-placed unit h (e ∷ es) = ap (cons_option (h e)) (found-placed unit h es)

-- The functions that the cloned entries of a unit begin in are those of the carried unit.
pub unit-begun : {version : ℕ} (fs : List Function) (told : ToldModule) (c : Module) (m : KeptModule) (first number : ℕ) (places : List EmittedEntry) (kept : List ℕ) (r : ReadUnit) → IsUnitOf version c fs told m first number places kept r
    → filter_map (begun_function (list_source r.unit.sections r.unit.header) fs) (picked kept (entries r.unit.sections r.unit.header).items) ≡ begun_functions (record { module_of = c; unit = unit_read c.sections r.unit.header })
unit-begun {version} fs told c m first number places kept r of =
    let h = r.unit.header in
    let es = picked kept (entries r.unit.sections h).items in
    let is = (of.module_is).is in
    let there = contains-in m.units.items r of.one in
    let placed = ap (placed_in h.offset) (picked-of fs told c m first number places kept r of) ∙ sym (read-entries c m is r there) in
    ap₂ (λ s gs. filter_map (begun_function (list_source s h) gs) es) (read-unit c m is r there).sections (sym (of.module_is).functions)
    ∙ found-placed h.offset (begun_function (list_source c.sections h) c.functions) es
    ∙ ap (filter_map (λ (e : Placed). begun_function (list_source c.sections h) c.functions e.entry)) placed

module _ (c : Module) (m : KeptModule) where
  -- the functions that begin in the carried ones of some units
  abbrev pub begun_left : List ReadUnit → List Function
  begun_left rest = flat_map begun_functions (map (λ (u : Unit). record { module_of = c; unit = u }) (map (λ (r : ReadUnit). unit_read c.sections r.unit.header) (filter (is_carried_read m.kept) rest)))

  -- a unit that is not carried
  pub begun-none : (r : ReadUnit) (rest : List ReadUnit) (all : ℕ → Bool) (now : BTreeSet ℕ) → length (carried_offsets m.kept r) ≤ 0 → AreNotedSoFar (begun_left (r ∷ rest)) all now → AreNotedSoFar (begun_left rest) all now
  begun-none r rest all now none h =
      subst (λ rs. AreNotedSoFar (flat_map begun_functions (map (λ (u : Unit). record { module_of = c; unit = u }) (map (λ (r : ReadUnit). unit_read c.sections r.unit.header) rs))) all now) (left-none m.kept r rest none) h

  -- a unit that is carried
  pub begun-some : (r : ReadUnit) (rest : List ReadUnit) (all : ℕ → Bool) (now next : BTreeSet ℕ) → 0 < length (carried_offsets m.kept r)
      → NotesFunctions (begun_functions (record { module_of = c; unit = unit_read c.sections r.unit.header })) now next → AreNotedSoFar (begun_left (r ∷ rest)) all now → AreNotedSoFar (begun_left rest) all next
  begun-some r rest all now next some notes h =
      noted-more (begun_functions (record { module_of = c; unit = unit_read c.sections r.unit.header })) (begun_left rest) all now next notes
      (subst (λ rs. AreNotedSoFar (flat_map begun_functions (map (λ (u : Unit). record { module_of = c; unit = u }) (map (λ (r : ReadUnit). unit_read c.sections r.unit.header) rs))) all now) (left-some m.kept r rest some) h)

  -- those of all units are those of the module
  pub begun-all : {version : ℕ} (fs : List Function) (told : ToldModule) → IsOfModule version c fs told m → begun_in_module c ≡ begun_left m.units.items
  begun-all {version} fs told of = ap (λ us. flat_map begun_functions (map (λ (u : Unit). record { module_of = c; unit = u }) us)) (carried-read c m of.is)
