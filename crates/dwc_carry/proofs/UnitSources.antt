-- What a unit of a module is cloned with is as the definitions have it, and its kept entries can be cloned.
use Rattle.std.proofs.Common.{◌≡◌, ℕ, suc, ◌<◌, List, [], ◌∷◌, length, map, refl, ap, ap₂, sym, subst, ◌∙◌, inl, inr, arith, Bool, true, false, cond, Option, Some, None, All}
use Rattle.std.specs.Prelude.{Contains, ◌==◌, ◌&&◌, if◌then◌else◌, option_and_then}
use Rattle.std.specs.Option.{is_some}
use Rattle.std.specs.List.{filter, AllZip}
use Rattle.std.proofs.lemmas.Bool.{eq-eqb, eqb-true, ne_eqb, lt-ltb}
use Rattle.std.proofs.lemmas.List.{length-map}
use Rattle.std.proofs.lemmas.List.Elements.{All-head, All-tail, All-cons}
use Rattle.dwc_base.specs.declared.constants.TheConstants.{DW_TAG_compile_unit, DW_TAG_formal_parameter}
use Rattle.dwc_base.specs.Sections.{Sections, Fault}
use Rattle.dwc_base.specs.Listing.{Listing}
use Rattle.dwc_base.specs.Units.{UnitHeader, unit_headers}
use Rattle.dwc_dwarf.specs.Entries.{Entry, entries}
use Rattle.dwc_dwarf.specs.ReadValues.{IsReadEntry}
use Rattle.dwc_rules.specs.Carried.{Module, has_root_tag}
use Rattle.dwc_dwarf.specs.ReadUnits.{Unit, units, units_of_headers, root}
use Rattle.dwc_rules.specs.EntryRules.{is_required}
use Rattle.dwc_dwarf.specs.Indexed.{texts_of_unit}
use Rattle.dwc_rules.specs.Kept.{Placed, parent_of}
use Rattle.dwc_native.specs.Functions.{Function}
use Rattle.dwc_native.specs.Compiled.{ToldModule, Memory}
use Rattle.dwc_rules.specs.SyntheticUnit.{place_of_context_pointer, place_of_wasm_pointer}
use Rattle.dwc_rules.specs.TypeNames.{type_of}
use Rattle.dwc_rules.specs.Targets.{target_of}
use Rattle.dwc_dwarf.specs.Trees.{place_among}
use Rattle.dwc_rules.specs.KeptModules.{kept_module}
use Rattle.dwc_rules.specs.CarriedDrafts.{source_of}
use Rattle.dwc_rules.specs.CarriedUnits.{kept_of}
use Rattle.dwc_dwarf.proofs.ReadValuesEntries.{entries-read}
use Rattle.dwc_kept.specs.declared.read_unit.ReadUnit.{ReadUnit}
use Rattle.dwc_kept.specs.declared.kept_units.KeptModule.{KeptModule}
use Rattle.dwc_dwarf.specs.UnitOffsets.{RiseIn}
use Rattle.dwc_kept.specs.KeptUnits.{is_in_unit, stands_at, kept_of_unit, IsTree, AreEntryOffsets}
use Rattle.dwc_kept.specs.ReadEntries.{named_offset}
use Rattle.dwc_kept.specs.ReadUnits.{unit_read, IsReadUnit, IsKeptModule, is_carried_read}
use Rattle.dwc_base.proofs.InLists.{IsIn, contains-in, in-contains, filter-in}
use Rattle.dwc_isa.specs.ToldModules.{memory_view}
use Rattle.dwc_kept.proofs.KeptAlone.{read-alone}
use Rattle.dwc_kept.proofs.KeptGoals.{carried, inside}
use Rattle.dwc_kept.proofs.KeptEmitted.{emitted-kept, kept-between, kept-emitted, read-rises}
use Rattle.dwc_kept.proofs.KeptTypes.{keeps-placed, place-kept, type-placed}
use Rattle.dwc_unit.specs.declared.attributes.DebugInfoRef.{DebugInfoRef}
use Rattle.dwc_kept.proofs.ReadLaws.{first-unit, first-fault}
use Rattle.dwc_kept.proofs.KeptInUnits.{are-kept}
use Rattle.dwc_kept.proofs.KeptModuleLaws.{read-unit, read-within, read-tree, read-root, read-reference, read-named, read-inside, read-lists}
use Rattle.dwc_source.specs.declared.source.CloneSource.{CloneSource}
use Rattle.dwc_source.specs.Sources.{AreEmitted, AreFiles, IsSource, IsEmitted, IsReadAlone, synthetic_unit_of, unit_of as unit_referred}
use Rattle.dwc_carry.specs.SyntheticUnits.{entry_of, ReferToSynthetic}
use Rattle.dwc_source.specs.declared.places.EmittedEntry.{EmittedEntry}
use Rattle.dwc_source.specs.OutputPlaces.{place_of}
use Rattle.dwc_clone.specs.ClonedUnits.{picked, depths_of, AreClonable}
use Rattle.dwc_carry.specs.ModulePlaces.{emitted}
use Rattle.dwc_carry.specs.CarriedUnits.{IsOfModule, IsUnitOf}
use Rattle.dwc_carry.proofs.UnitsInOrder.{emitted-carried}
use Rattle.dwc_carry.proofs.PlaceLaws.{lists-among}
use Rattle.dwc_carry.proofs.WalkLaws.{keeps-parameter, parent-unit}

-- ---- lists

all-in : {A : Type 0} (P : A → Type 0) (xs : List A) (x : A) → All P xs → IsIn x xs → P x
all-in P [] x h i = absurd i
all-in P (y ∷ xs) x h (inl e) = subst P (sym e) (All-head P y xs h)
all-in P (y ∷ xs) x h (inr i) = all-in P xs x (All-tail P y xs h) i

all-passing : {A : Type 0} (P : A → Type 0) (t : A → Bool) (xs : List A) → All P xs → All P (filter t xs)
all-passing P t [] h = h
all-passing {A} P t (x ∷ xs) h = go (t x) (all-passing P t xs (All-tail P x xs h))
  where
    go : (b : Bool) → All P (filter t xs) → All P (cond {A = List A} b (x ∷ filter t xs) (filter t xs))
    go true more = All-cons P x (filter t xs) (All-head P x xs h) more
    go false more = more

-- ---- units

header-in : (s : Sections) (hs : List UnitHeader) (rs : List ReadUnit) (r : ReadUnit) → AllZip (IsReadUnit s) hs rs → IsIn r rs → IsIn r.unit.header hs
header-in s [] [] r zip i = absurd i
header-in s [] (x ∷ rs) r zip i = absurd zip
header-in s (h ∷ hs) [] r zip i = absurd zip
header-in s (h ∷ hs) (x ∷ rs) r zip (inl e) = inl (ap (λ (y : ReadUnit). y.unit.header) e ∙ (zip.0).header)
header-in s (h ∷ hs) (x ∷ rs) r zip (inr i) = inr (header-in s hs rs r zip.1 i)

-- where units have no fault, the entries of none of them have one
fault-none : (s : Sections) (hs : List UnitHeader) (last : Option Fault) (k : UnitHeader) → (units_of_headers s hs last).fault ≡ None → IsIn k hs → (entries s k).fault ≡ None
fault-none s [] last k none i = absurd i
fault-none s (h ∷ hs) last k none i = go (entries s h).fault refl (λ n j. fault-none s hs last k n j) i
  where
    clash : (fault : Fault) → Some fault ≡ None → ⊥
    clash fault e = cc

    go : (o : Option Fault) → (entries s h).fault ≡ o → ((units_of_headers s hs last).fault ≡ None → IsIn k hs → (entries s k).fault ≡ None) → IsIn k (h ∷ hs) → (entries s k).fault ≡ None
    go (Some fault) is rest j = absurd (clash fault (sym (ap (λ (l : Listing Fault Unit). l.fault) (first-fault s h hs last fault is)) ∙ none))
    go None is rest (inl e) = ap (λ x. (entries s x).fault) e ∙ is
    go None is rest (inr j) = rest (sym (ap (λ (l : Listing Fault Unit). l.fault) (first-unit s h hs last is)) ∙ none) j

whole-fault : (s : Sections) (k : UnitHeader) → (units s).fault ≡ None → IsIn k (unit_headers s).items → (entries s k).fault ≡ None
unfolding units
whole-fault s k none i = fault-none s (unit_headers s).items (unit_headers s).fault k none i

-- ---- the entries at the offsets of those that pass a test

kept-above : (t : Entry → Bool) (from end : ℕ) (es : List Entry) → RiseIn from end es → (k : ℕ) → k < from → (ks : List ℕ) (others : List ℕ) → map (λ (e : Entry). e.offset) (filter t es) ≡ ks → ks ≡ k ∷ others → ⊥
kept-above t from end [] rise k less ks others is e = clash (sym e ∙ sym is)
  where
    clash : k ∷ others ≡ [] → ⊥
    clash x = cc
kept-above t from end (x ∷ es) rise k less ks others is e = go (t x) refl (kept-above t (suc x.offset) end es rise.2 k (omega (arith, less, rise.0)))
  where
    first-same : x.offset ∷ map (λ (e : Entry). e.offset) (filter t es) ≡ k ∷ others → x.offset ≡ k
    first-same y = cc

    go : (b : Bool) → t x ≡ b → ((ls ms : List ℕ) → map (λ (e : Entry). e.offset) (filter t es) ≡ ls → ls ≡ k ∷ ms → ⊥) → ⊥
    go true at rest =
        let same = first-same (sym (ap (λ b. map (λ (e : Entry). e.offset) (cond {A = List Entry} b (x ∷ filter t es) (filter t es))) at) ∙ is ∙ e) in
        absurd (omega (arith, same, less, rise.0))
    go false at rest = rest ks others (sym (ap (λ b. map (λ (e : Entry). e.offset) (cond {A = List Entry} b (x ∷ filter t es) (filter t es))) at) ∙ is) e

picked-passing : (t : Entry → Bool) (from end : ℕ) (es : List Entry) → RiseIn from end es → picked (map (λ (e : Entry). e.offset) (filter t es)) es ≡ filter t es
picked-passing t from end [] rise = refl
picked-passing t from end (x ∷ es) rise = go (t x) (picked-passing t (suc x.offset) end es rise.2)
  where
    passed : (ks : List ℕ) → map (λ (e : Entry). e.offset) (filter t es) ≡ ks → picked ks es ≡ filter t es → picked ks (x ∷ es) ≡ filter t es
    passed [] is h = sym (none (filter t es) is)
      where
        none : (fs : List Entry) → map (λ (e : Entry). e.offset) fs ≡ [] → fs ≡ []
        none [] e = refl
        none (f ∷ fs) e = absurd (clash e)
          where
            clash : f.offset ∷ map (λ (g : Entry). g.offset) fs ≡ [] → ⊥
            clash y = cc
    passed (k ∷ ks) is h =
        ap (λ b. cond {A = List Entry} b (x ∷ picked ks es) (picked (k ∷ ks) es)) (ne_eqb x.offset k (λ e. kept-above t (suc x.offset) end es rise.2 k (omega (arith, e)) (k ∷ ks) ks is refl)) ∙ h

    go : (b : Bool) → picked (map (λ (e : Entry). e.offset) (filter t es)) es ≡ filter t es
        → picked (map (λ (e : Entry). e.offset) (cond {A = List Entry} b (x ∷ filter t es) (filter t es))) (x ∷ es) ≡ cond {A = List Entry} b (x ∷ filter t es) (filter t es)
    go true h =
        ap (λ b. cond {A = List Entry} b (x ∷ picked (map (λ (e : Entry). e.offset) (filter t es)) es) (picked (x.offset ∷ map (λ (e : Entry). e.offset) (filter t es)) es)) (eq-eqb x.offset x.offset refl)
        ∙ ap (λ ys. x ∷ ys) h
    go false h = passed (map (λ (e : Entry). e.offset) (filter t es)) refl h

-- ---- a root's tag

tag-of : (h : UnitHeader) (es : List Entry) (first : Entry) → root (record { header = h; entries = es }) ≡ Some first → has_root_tag DW_TAG_compile_unit (record { header = h; entries = es }) ≡ (first.tag == DW_TAG_compile_unit)
tag-of h [] first e = absurd (clash e)
  where
    clash : ◌≡◌ {A = Option Entry} None (Some first) → ⊥
    clash x = cc
tag-of h (x ∷ es) first e = ap (λ (y : Entry). y.tag == DW_TAG_compile_unit) (same e)
  where
    same : ◌≡◌ {A = Option Entry} (Some x) (Some first) → x ≡ first
    same y = cc

option-same : {A B : Type 0} (f g : A → Option B) (o : Option A) → ((x : A) → f x ≡ g x) → option_and_then f o ≡ option_and_then g o
option-same f g None same = refl
option-same f g (Some x) same = same x

-- a unit with offsets is a compile unit
compiled : (kept os : List ℕ) (h : UnitHeader) (b : Bool) → os ≡ (if b then filter (is_in_unit h) kept else []) → 0 < length os → (b ≡ true) × (os ≡ filter (is_in_unit h) kept)
compiled kept os h true is some = (refl, is)
compiled kept os h false is some = absurd (omega (arith, some, ap length is))

-- ---- one unit of a module

-- The entries at the offsets of a unit's kept entries are these.
pub picked-of : {version : ℕ} (fs : List Function) (told : ToldModule) (c : Module) (m : KeptModule) (first number : ℕ) (places : List EmittedEntry) (kept : List ℕ) (r : ReadUnit) → IsUnitOf version c fs told m first number places kept r
    → picked kept (entries r.unit.sections r.unit.header).items ≡ kept_of_unit m.kept (unit_read c.sections r.unit.header)
picked-of {version} fs told c m first number places kept r of =
    let is = (of.module_is).is in
    let there = contains-in m.units.items r of.one in
    let offsets = (compiled m.kept kept r.unit.header r.is_compile_unit of.offsets of.some).1 ∙ read-within c m is r there in
    ap (λ s. picked kept (entries s r.unit.header).items) (read-unit c m is r there).sections
    ∙ ap (λ os. picked os (entries c.sections r.unit.header).items) offsets
    ∙ picked-passing (stands_at m.kept) r.unit.header.offset r.unit.header.end (entries c.sections r.unit.header).items (read-rises c m is r there)

-- The unit that is cloned, as it was read.
abbrev pub read_of : CloneSource → Bool → Option ℕ → ReadUnit
read_of k compile table = record { unit = k.unit.now; is_compile_unit = compile; line_table = table }

module _ {version : ℕ} (k : CloneSource) (compile : Bool) (table : Option ℕ) (told : ToldModule) (c : Module) (m : KeptModule) (first number : ℕ) (kept : List ℕ)
    (of : IsUnitOf version c k.transform.now told m first number k.places.now kept (read_of k compile table)) where
  abbrev pub unit_of : Unit
  unit_of = unit_read c.sections k.unit.now.header

  abbrev is : IsKeptModule c.functions c.sections m
  is = (of.module_is).is

  pub unit-in : IsIn (read_of k compile table) m.units.items
  unit-in = contains-in m.units.items (read_of k compile table) of.one

  pub unit-is : IsReadUnit c.sections k.unit.now.header (read_of k compile table)
  unit-is = read-unit c m is (read_of k compile table) unit-in

  compile-is : (compile ≡ true) × (kept ≡ filter (is_in_unit k.unit.now.header) m.kept)
  compile-is = compiled m.kept kept k.unit.now.header compile of.offsets of.some

  offsets-are : kept ≡ map (λ (e : Entry). e.offset) (kept_of_unit m.kept unit_of)
  offsets-are = compile-is.1 ∙ read-within c m is (read_of k compile table) unit-in

  header-there : IsIn k.unit.now.header (unit_headers c.sections).items
  header-there = header-in c.sections (unit_headers c.sections).items m.units.items (read_of k compile table) is.units unit-in

  pub no-fault : (entries k.unit.now.sections k.unit.now.header).fault ≡ None
  no-fault = ap (λ s. (entries s k.unit.now.header).fault) unit-is.sections ∙ whole-fault c.sections k.unit.now.header is.whole header-there

  -- The entries at the offsets are the unit's kept ones.
  pub picked-are : picked kept (entries k.unit.now.sections k.unit.now.header).items ≡ kept_of_unit m.kept unit_of
  picked-are = picked-of k.transform.now told c m first number k.places.now kept (read_of k compile table) of

  all-read : All IsReadEntry (entries c.sections k.unit.now.header).items
  all-read = all-in (λ h. All IsReadEntry (entries c.sections h).items) (unit_headers c.sections).items k.unit.now.header (entries-read c.sections (of.module_is).bytes) header-there

  pub clonable : AreClonable (picked kept (entries k.unit.now.sections k.unit.now.header).items)
  clonable = subst AreClonable (sym picked-are) (go (kept_of_unit m.kept unit_of) refl)
    where
      go : (es : List Entry) → kept_of_unit m.kept unit_of ≡ es → AreClonable es
      go [] e = absurd (omega (arith, of.some, ap length offsets-are, length-map (kept_of_unit m.kept unit_of) (λ (x : Entry). x.offset), ap length e))
      go (x ∷ others) e = record {
        root = x;
        others = others;
        are = refl;
        tag = eqb-true x.tag DW_TAG_compile_unit (sym (tag-of k.unit.now.header (entries c.sections k.unit.now.header).items x (read-root c m is (read_of k compile table) unit-in x others e)) ∙ sym unit-is.tag ∙ compile-is.0);
        tree = subst (λ (es : List Entry). IsTree (depths_of es)) e (read-tree c m is (read_of k compile table) unit-in);
        read = subst (All IsReadEntry) e (all-passing IsReadEntry (stands_at m.kept) (entries c.sections k.unit.now.header).items all-read);
      }

  -- The root of the unit is the first of its kept entries.
  pub first-root : (root : Entry) (others : List Entry) → kept_of_unit m.kept unit_of ≡ root ∷ others → Rattle.dwc_dwarf.specs.ReadUnits.root unit_of ≡ Some root
  first-root root others e = read-root c m is (read_of k compile table) unit-in root others e

  lists-are : AreEntryOffsets (kept_of c) (emitted m.kept m.units.items)
  lists-are = subst (AreEntryOffsets (kept_of c)) (sym (emitted-carried m.kept m.units.items)) (read-lists c m is (filter (is_carried_read m.kept) m.units.items))

  place-is : (o : ℕ) → place_of k.places.now o ≡ place_among (λ j. j == o) (suc first) (emitted m.kept m.units.items)
  place-is o = ap (λ ps. place_of ps o) of.places_are ∙ lists-among (suc first) (emitted m.kept m.units.items) o

  -- the unit that was read is one of the carried ones
  in-carried : IsIn (read_of k compile table) (carried m)
  in-carried =
      filter-in (is_carried_read m.kept) m.units.items (read_of k compile table) unit-in
      (ap₂ (λ a b. a && b) compile-is.0 (lt-ltb 0 (length (filter (is_in_unit k.unit.now.header) m.kept)) (subst (λ (os : List ℕ). 0 < length os) compile-is.1 of.some)))

  -- whether an offset has a place
  placed-is : (o : ℕ) → is_some (place_of k.places.now o) ≡ is_some (place_among (λ j. j == o) (suc first) (map (inside m.kept) (carried m)))
  placed-is o = ap is_some (place-is o ∙ ap (place_among (λ j. j == o) (suc first)) (emitted-carried m.kept m.units.items))

  -- Its entries that are in the output are those at the offsets, one behind another in the unit of the number.
  pub are-emitted : AreEmitted k (source_of (kept_of c) unit_of) number (picked kept (entries k.unit.now.sections k.unit.now.header).items)
  unfolding source_of kept_module
  are-emitted = subst (AreEmitted k (source_of (kept_of c) unit_of) number) (sym picked-are) (record {
    each = λ i e at.
        let found = kept-emitted c m is (read_of k compile table) unit-in in-carried (suc first) i e at in
        let there = kept-between c m is (read_of k compile table) unit-in i e at in
        let placed : place_of k.places.now e.offset ≡ Some (found.0, i) = place-is e.offset ∙ ap (place_among (λ j. j == e.offset) (suc first)) (emitted-carried m.kept m.units.items) ∙ found.1 in
        placed ∙ ap (λ n. Some (n, i)) (of.own e.offset (found.0, i) there.0 there.1 placed);
    all = λ f emitted.
        in-contains (kept_of_unit m.kept unit_of) f.entry
        (emitted-kept c m is (read_of k compile table) unit-in (suc first) f (contains-in (kept_of c).entries f emitted.among) emitted.unit (sym (placed-is f.entry.offset) ∙ emitted.kept));
  })

  module _ (memory : told.memory ≡ memory_view k.module.memory) (refers : ReferToSynthetic first c.told.memory k.vmctx_ptr k.wasm_ptr) where
    memory-is : c.told.memory ≡ memory_view k.module.memory
    memory-is = ap (λ (t : ToldModule). t.memory) (of.module_is).told_is ∙ memory

    pub synthetic-unit : synthetic_unit_of k ≡ first
    synthetic-unit = ap (λ (r : DebugInfoRef). unit_referred r) refers.context_pointer

    types-emitted : (e f : Placed) → IsEmitted k (source_of (kept_of c) unit_of) e → type_of (source_of (kept_of c) unit_of).entries e ≡ Some f → IsEmitted k (source_of (kept_of c) unit_of) f
    unfolding source_of kept_module
    types-emitted e f emitted type =
        let placed = type-placed c m is (read_of k compile table) in-carried unit-in (suc first) e f (contains-in (kept_of c).entries e emitted.among) emitted.unit (sym (placed-is e.entry.offset) ∙ emitted.kept) type in
        record { among = in-contains (kept_of c).entries f placed.0; unit = placed.1; kept = placed-is f.entry.offset ∙ placed.2 }

    read-so : (e : Placed) → IsEmitted k (source_of (kept_of c) unit_of) e → IsReadAlone k e.entry
    unfolding source_of kept_module
    read-so e emitted =
        let there = read-alone c m is (read_of k compile table) unit-in e (contains-in (kept_of c).entries e emitted.among) emitted.unit in
        record { read = there.read; is = there.is; offset = there.offset; tag = there.tag; attributes = there.attributes }

    parameters-emitted : (e p : Placed) → IsEmitted k (source_of (kept_of c) unit_of) p → Contains (source_of (kept_of c) unit_of).entries e → e.entry.tag ≡ DW_TAG_formal_parameter → parent_of (source_of (kept_of c) unit_of).entries e ≡ Some p → IsEmitted k (source_of (kept_of c) unit_of) e
    unfolding source_of kept_module
    parameters-emitted e p emitted among tag parent =
        let there = contains-in (kept_of c).entries e among in
        let own : e.unit ≡ k.unit.now.header.offset = parent-unit (kept_of c) (are-kept (λ u. is_required c.functions c.sections u.header) c is.whole) e p there parent ∙ emitted.unit in
        record {
          among = among;
          unit = own;
          kept = placed-is e.entry.offset
              ∙ keeps-placed c m is (read_of k compile table) in-carried unit-in (suc first) p e (contains-in (kept_of c).entries p emitted.among) there own (sym (placed-is p.entry.offset) ∙ emitted.kept) (keeps-parameter (kept_of c).entries e p parent tag);
        }

    pub source-is : AreFiles k.files (source_of (kept_of c) unit_of).output_version k.unit.now.header.version (source_of (kept_of c) unit_of).table → IsSource k number (source_of (kept_of c) unit_of)
    unfolding source_of kept_module
    source-is files = record {
      version = refl;
      texts = ap (λ s. texts_of_unit s k.unit.now.header) (sym unit-is.sections);
      files = files;
      targets = λ e v own.
          option-same (λ (f : Placed). place_of k.places.now f.entry.offset) (λ f. place_among (λ j. j == f.entry.offset) (suc first) (emitted m.kept m.units.items)) (target_of (kept_of c).entries e v) (λ f. place-is f.entry.offset)
          ∙ read-reference c m is (read_of k compile table) unit-in (emitted m.kept m.units.items) lists-are (suc first) e own v
          ∙ option-same (λ offset. place_among (λ j. j == offset) (suc first) (emitted m.kept m.units.items)) (place_of k.places.now) (named_offset k.unit.now.header.offset k.unit.now.header.end v) (λ offset. sym (place-is offset));
      named = λ e f v own at placed. read-named c m is (read_of k compile table) unit-in e f own v at (place-kept c m is f.entry.offset (suc first) (sym (placed-is f.entry.offset) ∙ placed));
      inside = λ f among. read-inside c m is (read_of k compile table) unit-in f (contains-in (kept_of c).entries f among);
      own = of.own;
      context = refers.context_pointer ∙ ap₂ (λ (n : ℕ) (x : Memory). entry_of n (place_of_context_pointer x)) (sym synthetic-unit) memory-is;
      address = refers.wasm_pointer ∙ ap₂ (λ (n : ℕ) (x : Memory). entry_of n (place_of_wasm_pointer x)) (sym synthetic-unit) memory-is;
      types = types-emitted;
      alone = read-so;
      parameters = parameters-emitted;
    }

-- The entries of a unit of a module were read.
pub entries-of-read : {version : ℕ} (c : Module) (fs : List Function) (told : ToldModule) (m : KeptModule) (r : ReadUnit) → IsOfModule version c fs told m → IsIn r m.units.items → All IsReadEntry (entries r.unit.sections r.unit.header).items
entries-of-read {version} c fs told m r of i =
    subst (λ s. All IsReadEntry (entries s r.unit.header).items) (sym (read-unit c m of.is r i).sections)
    (all-in (λ h. All IsReadEntry (entries c.sections h).items) (unit_headers c.sections).items r.unit.header (entries-read c.sections of.bytes) (header-in c.sections (unit_headers c.sections).items m.units.items r of.is.units i))
