-- What was read of a module gives its units, its kept entries and its carried units.
use Rattle.std.proofs.Common.{◌≡◌, ℕ, ◌^◌, ◌<◌, List, [], ◌∷◌, length, map, refl, ap, ap₂, sym, subst, ◌∙◌, inl, inr, Bool, true, false, cond, Some, All}
use Rattle.std.specs.Prelude.{◌==◌, ◌&&◌, nat_lt, option_and_then}
use Rattle.std.specs.List.{filter, list_any, AllZip}
use Rattle.std.proofs.lemmas.Bool.{eqb-true}
use Rattle.std.proofs.lemmas.List.{length-map}
use Rattle.dwc_base.specs.Sections.{Sections}
use Rattle.dwc_base.specs.Units.{UnitHeader, unit_headers}
use Rattle.dwc_dwarf.specs.Entries.{Entry}
use Rattle.dwc_rules.specs.EntryRules.{is_required}
use Rattle.dwc_rules.specs.Carried.{Module, is_carried_unit}
use Rattle.dwc_dwarf.specs.ReadUnits.{root}
use Rattle.dwc_rules.specs.Kept.{Placed}
use Rattle.dwc_rules.specs.Targets.{target_of}
use Rattle.dwc_dwarf.specs.Trees.{place_among}
use Rattle.dwc_dwarf.specs.Values.{Value}
use Rattle.dwc_rules.specs.KeptModules.{carried_in, kept_in}
use Rattle.dwc_rules.specs.CarriedUnits.{kept_of}
use Rattle.dwc_kept.specs.declared.kept_units.KeptModule.{KeptModule}
use Rattle.dwc_kept.specs.declared.read_unit.ReadUnit.{ReadUnit}
use Rattle.dwc_kept.specs.KeptUnits.{offsets_kept, kept_of_unit, is_in_unit, IsTree, AreEntryOffsets}
use Rattle.dwc_kept.specs.ReadEntries.{named_offset}
use Rattle.dwc_kept.specs.ReadUnits.{unit_read, IsReadUnit, IsKeptModule, is_carried_read}
use Rattle.dwc_base.proofs.InLists.{IsIn, any-in, in-at, in-filter}
use Rattle.dwc_kept.proofs.GraphLaws.{units-are}
use Rattle.dwc_kept.proofs.KeptInUnits.{are-kept}
use Rattle.dwc_kept.proofs.KeptReferences.{target-named}
use Rattle.dwc_kept.proofs.KeptStanding.{in-unit-same}
use Rattle.dwc_kept.proofs.KeptUnitLaws.{kept-parts, kept-in-unit, kept-tree, kept-root, kept-within, kept-some, reference-found, kept-lists, offsets-same}

module _ (s : Sections) where
  -- units that were read are those of their headers
  read-headers : (hs : List UnitHeader) (rs : List ReadUnit) → AllZip (IsReadUnit s) hs rs → map (unit_read s) hs ≡ map (λ r. unit_read s r.unit.header) rs
  read-headers [] [] zip = refl
  read-headers [] (r ∷ rs) zip = absurd zip
  read-headers (h ∷ hs) [] zip = absurd zip
  read-headers (h ∷ hs) (r ∷ rs) zip = ap₂ (λ u us. u ∷ us) (ap (unit_read s) (sym (zip.0).header)) (read-headers hs rs zip.1)

  -- what holds of one of them
  read-is : (hs : List UnitHeader) (rs : List ReadUnit) (r : ReadUnit) → AllZip (IsReadUnit s) hs rs → IsIn r rs → IsReadUnit s r.unit.header r
  read-is [] [] r zip i = absurd i
  read-is [] (x ∷ rs) r zip i = absurd zip
  read-is (h ∷ hs) [] r zip i = absurd zip
  read-is (h ∷ hs) (x ∷ rs) r zip (inl e) = subst (λ y. IsReadUnit s y.unit.header y) (sym e) (subst (λ k. IsReadUnit s k x) (sym (zip.0).header) zip.0)
  read-is (h ∷ hs) (x ∷ rs) r zip (inr i) = read-is hs rs r zip.1 i

in-mapped : {A B : Type 0} (f : A → B) (xs : List A) (x : A) → IsIn x xs → IsIn (f x) (map f xs)
in-mapped f [] x i = absurd i
in-mapped f (y ∷ xs) x (inl e) = inl (ap f e)
in-mapped f (y ∷ xs) x (inr i) = inr (in-mapped f xs x i)

filter-mapped : {A B : Type 0} (f : A → B) (t : B → Bool) (s : A → Bool) (xs : List A) → ((x : A) → IsIn x xs → t (f x) ≡ s x) → filter t (map f xs) ≡ map f (filter s xs)
filter-mapped f t s [] h = refl
filter-mapped {A} {B} f t s (x ∷ xs) h = ap₂ (λ b ys. cond {A = List B} b (f x ∷ ys) ys) (h x (inl refl)) (filter-mapped f t s xs (λ y i. h y (inr i))) ∙ go (s x)
  where
    go : (b : Bool) → cond {A = List B} b (f x ∷ map f (filter s xs)) (map f (filter s xs)) ≡ map f (cond {A = List A} b (x ∷ filter s xs) (filter s xs))
    go true = refl
    go false = refl

module _ (c : Module) (m : KeptModule) (is : IsKeptModule c.functions c.sections m) where
  -- The units of the module are those that were read, in order.
  pub read-units : (kept_of c).units ≡ map (λ r. unit_read c.sections r.unit.header) m.units.items
  read-units = (kept-parts (λ u. is_required c.functions c.sections u.header) c).1 ∙ units-are c.sections is.whole ∙ read-headers c.sections (unit_headers c.sections).items m.units.items is.units

  -- The offsets are those of the module's kept entries.
  pub read-kept : m.kept ≡ offsets_kept (kept_of c)
  read-kept = is.kept ∙ sym (offsets-same c)

  module _ (r : ReadUnit) (i : IsIn r m.units.items) where
    pub read-unit : IsReadUnit c.sections r.unit.header r
    read-unit = read-is c.sections (unit_headers c.sections).items m.units.items r is.units i

    -- A unit that was read is one of the module's.
    pub read-in : IsIn (unit_read c.sections r.unit.header) (kept_of c).units
    read-in = subst (IsIn (unit_read c.sections r.unit.header)) (sym read-units) (in-mapped (λ x. unit_read c.sections x.unit.header) m.units.items r i)

    -- The offsets of kept entries that lie in it are those of its kept entries.
    pub read-within : filter (is_in_unit r.unit.header) m.kept ≡ map (λ e. e.offset) (kept_of_unit m.kept (unit_read c.sections r.unit.header))
    read-within =
        ap (filter (is_in_unit r.unit.header)) read-kept
        ∙ kept-within (λ u. is_required c.functions c.sections u.header) c is.whole (unit_read c.sections r.unit.header) read-in
        ∙ ap (λ offsets. map (λ e. e.offset) (kept_of_unit offsets (unit_read c.sections r.unit.header))) (sym read-kept)

    -- Its kept entries are those at these offsets; they make a tree, whose root is the unit's.
    pub read-entries : kept_in (kept_of c) (unit_read c.sections r.unit.header) ≡ map (λ e. record { unit = r.unit.header.offset; entry = e }) (kept_of_unit m.kept (unit_read c.sections r.unit.header))
    read-entries =
        kept-in-unit (λ u. is_required c.functions c.sections u.header) c is.whole (unit_read c.sections r.unit.header) read-in
        ∙ ap (λ offsets. map (λ e. record { unit = r.unit.header.offset; entry = e }) (kept_of_unit offsets (unit_read c.sections r.unit.header))) (sym read-kept)

    pub read-tree : IsTree (map (λ e. e.depth) (kept_of_unit m.kept (unit_read c.sections r.unit.header)))
    read-tree =
        subst (λ offsets. IsTree (map (λ e. e.depth) (kept_of_unit offsets (unit_read c.sections r.unit.header)))) (sym read-kept)
        (kept-tree (λ u. is_required c.functions c.sections u.header) c is.whole (unit_read c.sections r.unit.header) read-in)

    pub read-root : (first : Entry) (others : List Entry) → kept_of_unit m.kept (unit_read c.sections r.unit.header) ≡ first ∷ others → root (unit_read c.sections r.unit.header) ≡ Some first
    read-root first others e =
        kept-root (λ u. is_required c.functions c.sections u.header) c is.whole (unit_read c.sections r.unit.header) read-in first others
        (ap (λ offsets. kept_of_unit offsets (unit_read c.sections r.unit.header)) (sym read-kept) ∙ e)

    -- The place of the entry that a value of one of its entries goes to, among lists of offsets, is that of the offset that the value names.
    pub read-reference : (lists : List (List ℕ)) → AreEntryOffsets (kept_of c) lists → (number : ℕ) (e : Placed) → e.unit ≡ r.unit.header.offset → (v : Value)
        → option_and_then (λ f. place_among (λ k. k == f.entry.offset) number lists) (target_of (kept_of c).entries e v)
        ≡ option_and_then (λ offset. place_among (λ k. k == offset) number lists) (named_offset r.unit.header.offset r.unit.header.end v)
    read-reference = reference-found (λ u. is_required c.functions c.sections u.header) c is.whole (unit_read c.sections r.unit.header) read-in

    -- One that goes to a kept entry names its offset.
    pub read-named : (e f : Placed) → e.unit ≡ r.unit.header.offset → (v : Value) → target_of (kept_of c).entries e v ≡ Some f → list_any (λ k. k == f.entry.offset) m.kept ≡ true
        → named_offset r.unit.header.offset r.unit.header.end v ≡ Some f.entry.offset
    read-named e f own v at kept =
        let found = any-in (λ k. k == f.entry.offset) m.kept kept in
        let place = in-at m.kept found.0 found.1 in
        let small : found.0 < 2 ^ 32 = subst (λ k. k < 2 ^ 32) place.2 (is.small place.0 found.0 place.1) in
        target-named (kept_of c) (are-kept (λ u. is_required c.functions c.sections u.header) c is.whole) (unit_read c.sections r.unit.header) read-in e f own v at
        (subst (λ k. k < 2 ^ 32) (eqb-true found.0 f.entry.offset found.2) small)

    -- An entry of the module is one of the unit where its offset lies in it.
    pub read-inside : (f : Placed) → IsIn f (kept_of c).entries → (f.unit == r.unit.header.offset) ≡ is_in_unit r.unit.header f.entry.offset
    read-inside f j =
        let are = are-kept (λ u. is_required c.functions c.sections u.header) c is.whole in
        sym (in-unit-same 0 (kept_of c).units (unit_read c.sections r.unit.header) f are.stand read-in (subst (IsIn f) are.entries j))

    read-carried : is_carried_unit (kept_of c).kept (unit_read c.sections r.unit.header) ≡ is_carried_read m.kept r
    read-carried =
        let u = unit_read c.sections r.unit.header in
        ap₂ (λ a b. a && b) (sym read-unit.tag)
        (kept-some (λ u. is_required c.functions c.sections u.header) c is.whole u read-in
        ∙ ap (nat_lt 0) (ap (λ offsets. length (kept_of_unit offsets u)) (sym read-kept) ∙ sym (length-map (kept_of_unit m.kept u) (λ e. e.offset)) ∙ ap length (sym read-within)))

  -- The carried units of the module are those that were read whose root is a compile unit and in which an offset lies.
  pub carried-read : carried_in (kept_of c) ≡ map (λ r. unit_read c.sections r.unit.header) (filter (is_carried_read m.kept) m.units.items)
  carried-read =
      ap (filter (is_carried_unit (kept_of c).kept)) read-units
      ∙ filter-mapped (λ r. unit_read c.sections r.unit.header) (is_carried_unit (kept_of c).kept) (is_carried_read m.kept) m.units.items (λ r i. read-carried r i)

  -- The offsets that lie in units are offsets of entries of the module.
  pub read-lists : (rs : List ReadUnit) → AreEntryOffsets (kept_of c) (map (λ r. filter (is_in_unit r.unit.header) m.kept) rs)
  read-lists rs = kept-lists (λ u. is_required c.functions c.sections u.header) c is.whole (map (λ r. filter (is_in_unit r.unit.header) m.kept) rs) (λ os i o j. subst (IsIn o) read-kept (among rs os i o j)) (subst (All (λ offset. offset < 2 ^ 32)) read-kept is.small)
    where
      among : (xs : List ReadUnit) (os : List ℕ) → IsIn os (map (λ r. filter (is_in_unit r.unit.header) m.kept) xs) → (o : ℕ) → IsIn o os → IsIn o m.kept
      among [] os i o j = absurd i
      among (x ∷ xs) os (inl e) o j = (in-filter (is_in_unit x.unit.header) m.kept o (subst (IsIn o) e j)).0
      among (x ∷ xs) os (inr i) o j = among xs os i o j
