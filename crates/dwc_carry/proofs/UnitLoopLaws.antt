-- What the loop over the units of a module adds.
use Rattle.std.proofs.Common.{◌≡◌, ℕ, suc, ◌+◌, ◌<◌, ◌≤◌, List, [], ◌∷◌, ◌++◌, drop, length, map, get_or, refl, ap, sym, ◌∙◌, subst, arith, Bool, true, false, cond, Some, None, All}
use Rattle.std.specs.Prelude.{option_map, nat_lt, ◌&&◌, if◌then◌else◌}
use Rattle.std.specs.List.{filter, flat_map}
use Rattle.std.proofs.lemmas.Bool.{lt-ltb, le-ltb}
use Rattle.std.proofs.lemmas.List.{append-nil, append_assoc, length-append, length-map, drop_more}
use Rattle.std.proofs.lemmas.List.Elements.{All-nil, All-cons, All-head, All-tail, All-append, All-weaker}
use Rattle.dwc_base.specs.declared.records.Encoding.{Encoding}
use Rattle.dwc_native.specs.Functions.{Function}
use Rattle.dwc_native.specs.Compiled.{ToldModule}
use Rattle.dwc_base.specs.Units.{UnitHeader}
use Rattle.dwc_rules.specs.Carried.{Module, carried_unit}
use Rattle.dwc_dwarf.specs.ReadUnits.{Unit}
use Rattle.dwc_rules.specs.Refusals.{Refusal}
use Rattle.dwc_base.specs.Listing.{first_of}
use Rattle.dwc_rules.specs.KeptModules.{carried_in}
use Rattle.dwc_rules.specs.CarriedUnits.{kept_of}
use Rattle.dwc_kept.specs.declared.read_unit.ReadUnit.{ReadUnit}
use Rattle.dwc_kept.specs.declared.kept_units.KeptModule.{KeptModule}
use Rattle.dwc_kept.specs.KeptUnits.{is_in_unit}
use Rattle.dwc_kept.specs.ReadUnits.{unit_read, is_carried_read}
use Rattle.dwc_base.proofs.InLists.{IsIn, at-in, in-contains}
use Rattle.dwc_kept.proofs.KeptModuleLaws.{carried-read}
use Rattle.dwc_source.specs.declared.places.EmittedEntry.{EmittedEntry}
use Rattle.dwc_source.specs.OutputPlaces.{place_of}
use Rattle.dwc_source.specs.MadeValues.{Grows}
use Rattle.dwc_unit.specs.declared.units.Dwarf.{Dwarf}
use Rattle.dwc_unit.specs.GivenUnits.{Addition, GivenUnit}
use Rattle.dwc_unit.specs.AddedInOrder.{tree_meant}
use Rattle.dwc_unit.specs.UsedTexts.{texts_of_attributes}
use Rattle.dwc_unit.proofs.AddedInOrderValues.{tree-meant-more}
use Rattle.dwc_carry.specs.declared.error.DebugError.{DebugError}
use Rattle.dwc_carry.specs.Refusals.{in_reading, RefusesReading}
use Rattle.dwc_unit.specs.declared.attributes.DebugInfoRef.{DebugInfoRef}
use Rattle.dwc_carry.specs.SyntheticUnits.{ReferToSynthetic}
use Rattle.dwc_carry.specs.MadeUnits.{LeadsTo, AreMadeOf}
use Rattle.dwc_carry.specs.ModulePlaces.{carried_offsets, emitted, numbered_lists}
use Rattle.dwc_carry.specs.CarriedUnits.{IsOfModule, IsUnitOf, wanted_of, refusals_of, CarriesUnit, CarryUnits, AddsUnit, AddsUnits}
use Rattle.dwc_carry.proofs.RefusalLaws.{unmapped, reading-more, first-behind, no-first}
use Rattle.dwc_carry.proofs.UnitsInOrder.{inside, in-parts, UnitsFrom, module-stand}
use Rattle.dwc_carry.proofs.ModulePlaceLaws.{emitted-some, emitted-none}
use Rattle.dwc_carry.proofs.PlaceLaws.{own-place}
use Rattle.dwc_carry.proofs.CarriedMade.{carried-made}

-- ---- a table of texts that has grown

texts-more : (before after : List (List ℕ)) (ns : List ℕ) → Grows before after → All (λ n. n < length before) ns → All (λ n. n < length after) ns
texts-more before after ns grows h = All-weaker (λ n. n < length before) (λ n. n < length after) (λ n less. omega (arith, less, ap length grows.is, length-append before grows.more)) ns h

-- A unit that carries one says the same with it.
pub carries-more : (encoding : Encoding) (big_endian : Bool) (c : Module) (first : ℕ) (places : List EmittedEntry) (before after : List (List ℕ)) (number : ℕ) (u : Unit) (g : GivenUnit) → Grows before after → CarriesUnit encoding big_endian c first places before number u g
    → CarriesUnit encoding big_endian c first places after number u g
carries-more encoding big_endian c first places before after number u g grows h = record {
  has_lines = h.has_lines;
  depths = h.depths;
  order = h.order;
  leads = h.leads;
  goals = h.goals;
  kept = h.kept;
  synthetic = h.synthetic;
  numbers = h.numbers;
  numbered = h.numbered;
  says = ap (λ ts. tree_meant ts number h.depths g.additions) grows.is
      ∙ tree-meant-more before grows.more number h.depths g.additions (all-flat g.additions h.texts) ∙ h.says;
  texts = All-weaker (λ e. All (λ n. n < length before) (texts_of_attributes e.attributes)) (λ e. All (λ n. n < length after) (texts_of_attributes e.attributes)) (λ e k. texts-more before after (texts_of_attributes e.attributes) grows k) g.additions h.texts;
  writable = h.writable;
}
  where
    all-flat : (es : List Addition) → All (λ e. All (λ n. n < length before) (texts_of_attributes e.attributes)) es → All (λ n. n < length before) (flat_map (λ e. texts_of_attributes e.attributes) es)
    all-flat [] k = All-nil (λ n. n < length before)
    all-flat (e ∷ es) k = All-append (λ n. n < length before) (texts_of_attributes e.attributes) (flat_map (λ e. texts_of_attributes e.attributes) es)
        (All-head (λ e. All (λ n. n < length before) (texts_of_attributes e.attributes)) e es k)
        (all-flat es (All-tail (λ e. All (λ n. n < length before) (texts_of_attributes e.attributes)) e es k))

pub grows-more : (a b c : List (List ℕ)) → Grows a b → Grows b c → Grows a c
grows-more a b c h k = record { more = h.more ++ k.more; is = k.is ∙ ap (λ ts. ts ++ k.more) h.is ∙ append_assoc a h.more k.more }

pub grows-none : (a : List (List ℕ)) → Grows a a
grows-none a = record { more = []; is = sym (append-nil a) }

-- ---- where a unit stands among those of the module

-- The lists of offsets in front of the units that are left, and that these stand behind them.
pub record Front (kept : List ℕ) (first number : ℕ) (all rest : List ReadUnit) : Type 0 where
  pub front : List (List ℕ)
  pub split : emitted kept all ≡ front ++ emitted kept rest
  pub counted : number ≡ first + length front
  pub from : ℕ
  pub before : All (All (λ k. k < from)) front
  pub stand : UnitsFrom from rest

before-more : (low high : ℕ) (xss : List (List ℕ)) → low ≤ high → All (All (λ k. k < low)) xss → All (All (λ k. k < high)) xss
before-more low high xss le h = All-weaker (All (λ k. k < low)) (All (λ k. k < high)) (λ xs k. All-weaker (λ n. n < low) (λ n. n < high) (λ n less. omega (arith, less, le)) xs k) xss h

module _ (kept : List ℕ) where
  inside-below : (h : UnitHeader) (xs : List ℕ) → All (λ k. k < h.end) (filter (is_in_unit h) xs)
  inside-below h xs = passing xs
    where
      passing : (ys : List ℕ) → All (λ k. k < h.end) (filter (is_in_unit h) ys)
      passing [] = All-nil (λ k. k < h.end)
      passing (y ∷ ys) = go (is_in_unit h y) refl (passing ys)
        where
          go : (b : Bool) → is_in_unit h y ≡ b → All (λ k. k < h.end) (filter (is_in_unit h) ys) → All (λ k. k < h.end) (cond {A = List ℕ} b (y ∷ filter (is_in_unit h) ys) (filter (is_in_unit h) ys))
          go true is more = All-cons (λ k. k < h.end) y (filter (is_in_unit h) ys) (in-parts h y is).1 more
          go false is more = more

  inside-above : (h : UnitHeader) (n : ℕ) → n ≤ h.offset → (ys : List ℕ) → All (λ k. n ≤ k) (filter (is_in_unit h) ys)
  inside-above h n le [] = All-nil (λ k. n ≤ k)
  inside-above h n le (y ∷ ys) = go (is_in_unit h y) refl (inside-above h n le ys)
    where
      go : (b : Bool) → is_in_unit h y ≡ b → All (λ k. n ≤ k) (filter (is_in_unit h) ys) → All (λ k. n ≤ k) (cond {A = List ℕ} b (y ∷ filter (is_in_unit h) ys) (filter (is_in_unit h) ys))
      go true is more = All-cons (λ k. n ≤ k) y (filter (is_in_unit h) ys) (omega (arith, le, (in-parts h y is).0)) more
      go false is more = more

  -- those of a unit, whether or not it is a compile unit
  carried-below : (r : ReadUnit) → All (λ k. k < r.unit.header.end) (carried_offsets kept r)
  carried-below r = go r.is_compile_unit
    where
      go : (b : Bool) → All (λ k. k < r.unit.header.end) (if b then filter (is_in_unit r.unit.header) kept else [])
      go true = inside-below r.unit.header kept
      go false = All-nil (λ k. k < r.unit.header.end)

  carried-above : (r : ReadUnit) (n : ℕ) → n ≤ r.unit.header.offset → All (λ k. n ≤ k) (carried_offsets kept r)
  carried-above r n le = go r.is_compile_unit
    where
      go : (b : Bool) → All (λ k. n ≤ k) (if b then filter (is_in_unit r.unit.header) kept else [])
      go true = inside-above r.unit.header n le kept
      go false = All-nil (λ k. n ≤ k)

  emitted-above : (from : ℕ) (rs : List ReadUnit) → UnitsFrom from rs → (n : ℕ) → n ≤ from → All (All (λ k. n ≤ k)) (emitted kept rs)
  emitted-above from [] stand n le = All-nil (All (λ k. n ≤ k))
  emitted-above from (r ∷ rs) stand n le = go (nat_lt 0 (length (carried_offsets kept r))) (emitted-above r.unit.header.end rs stand.2 n (omega (arith, le, stand.0, stand.1)))
    where
      go : (b : Bool) → All (All (λ k. n ≤ k)) (emitted kept rs) → All (All (λ k. n ≤ k)) (cond {A = List (List ℕ)} b (carried_offsets kept r ∷ emitted kept rs) (emitted kept rs))
      go true more = All-cons (All (λ k. n ≤ k)) (carried_offsets kept r) (emitted kept rs) (carried-above r n (omega (arith, le, stand.0))) more
      go false more = more

  module _ (first number : ℕ) (all : List ReadUnit) (r : ReadUnit) (rest : List ReadUnit) (h : Front kept first number all (r ∷ rest)) where
    front-none : length (carried_offsets kept r) ≤ 0 → Front kept first number all rest
    front-none none = record {
      front = h.front;
      split = h.split ∙ ap (λ xss. h.front ++ xss) (emitted-none kept r rest none);
      counted = h.counted;
      from = r.unit.header.end;
      before = before-more h.from r.unit.header.end h.front (omega (arith, h.stand.0, h.stand.1)) h.before;
      stand = h.stand.2;
    }

    front-some : (next : ℕ) → next ≡ suc number → 0 < length (carried_offsets kept r) → Front kept first next all rest
    front-some next is some = record {
      front = h.front ++ carried_offsets kept r ∷ [];
      split = h.split ∙ ap (λ xss. h.front ++ xss) (emitted-some kept r rest some) ∙ sym (append_assoc h.front (carried_offsets kept r ∷ []) (emitted kept rest));
      counted = omega (arith, is, h.counted, length-append h.front (carried_offsets kept r ∷ []));
      from = r.unit.header.end;
      before = All-append (All (λ k. k < r.unit.header.end)) h.front (carried_offsets kept r ∷ []) (before-more h.from r.unit.header.end h.front (omega (arith, h.stand.0, h.stand.1)) h.before)
          (All-cons (All (λ k. k < r.unit.header.end)) (carried_offsets kept r) [] (carried-below r) (All-nil (All (λ k. k < r.unit.header.end))));
      stand = h.stand.2;
    }

    front-own : (places : List EmittedEntry) → places ≡ numbered_lists first (emitted kept all) → 0 < length (carried_offsets kept r) → (offset : ℕ) (p : ℕ × ℕ) → r.unit.header.offset ≤ offset → offset < r.unit.header.end
        → place_of places offset ≡ Some p → p.0 ≡ number
    front-own places are some offset p low high at =
        own-place r.unit.header.offset r.unit.header.end first number h.front (carried_offsets kept r) (emitted kept rest) h.counted (before-more h.from r.unit.header.offset h.front h.stand.0 h.before)
        (emitted-above r.unit.header.end rest h.stand.2 r.unit.header.end (omega arith)) offset p low high
        (ap (λ xss. place_of (numbered_lists first xss) offset) (sym (h.split ∙ ap (λ xss. h.front ++ xss) (emitted-some kept r rest some))) ∙ ap (λ ps. place_of ps offset) (sym are) ∙ at)

-- ---- whether a unit is carried

module _ (kept : List ℕ) (r : ReadUnit) (rest : List ReadUnit) where
  carried-is : is_carried_read kept r ≡ nat_lt 0 (length (carried_offsets kept r))
  carried-is = go r.is_compile_unit
    where
      go : (b : Bool) → (b && nat_lt 0 (length (inside kept r))) ≡ nat_lt 0 (length (if b then filter (is_in_unit r.unit.header) kept else []))
      go true = refl
      go false = refl

  pub left-none : length (carried_offsets kept r) ≤ 0 → filter (is_carried_read kept) (r ∷ rest) ≡ filter (is_carried_read kept) rest
  left-none none = ap (λ b. cond {A = List ReadUnit} b (r ∷ filter (is_carried_read kept) rest) (filter (is_carried_read kept) rest)) (carried-is ∙ le-ltb 0 (length (carried_offsets kept r)) none)

  pub left-some : 0 < length (carried_offsets kept r) → filter (is_carried_read kept) (r ∷ rest) ≡ r ∷ filter (is_carried_read kept) rest
  left-some some = ap (λ b. cond {A = List ReadUnit} b (r ∷ filter (is_carried_read kept) rest) (filter (is_carried_read kept) rest)) (carried-is ∙ lt-ltb 0 (length (carried_offsets kept r)) some)

-- Units that carry some are as many.
carry-length : (encoding : Encoding) (big_endian : Bool) (c : Module) (first : ℕ) (places : List EmittedEntry) (table : List (List ℕ)) (number : ℕ) (us : List Unit) (gs : List GivenUnit) → CarryUnits encoding big_endian c first places table number us gs → length us ≡ length gs
carry-length encoding big_endian c first places table number [] [] h = refl
carry-length encoding big_endian c first places table number [] (g ∷ gs) h = absurd h
carry-length encoding big_endian c first places table number (u ∷ us) [] h = absurd h
carry-length encoding big_endian c first places table number (u ∷ us) (g ∷ gs) h = ap suc (carry-length encoding big_endian c first places table (suc number) us gs h.1)

-- ---- what is added

module _ (c : Module) (m : KeptModule) (encoding : Encoding) (big_endian : Bool) (first : ℕ) where
  abbrev of_read : ReadUnit → Unit
  of_read r = unit_read c.sections r.unit.header

  abbrev carried_left : List ReadUnit → List Unit
  carried_left rest = map of_read (filter (is_carried_read m.kept) rest)

  -- where the offsets of kept entries stand
  abbrev placed : List EmittedEntry
  placed = numbered_lists (suc first) (emitted m.kept m.units.items)

  abbrev Made : List (List ℕ) → ℕ → List ReadUnit → List GivenUnit → Type 0
  Made table number rest us = CarryUnits encoding big_endian c first placed table number (carried_left rest) us

  abbrev Refused : List ReadUnit → List Refusal
  Refused rest = flat_map (refusals_of c) (carried_left rest)

  -- What is added so far, and what is to be added for the units that are left, is all.
  pub record UnitsSoFar (all : List ReadUnit) (old new : Dwarf) (rest : List ReadUnit) : Type 0 where
    pub made : List GivenUnit
    pub added : new.units.units.items ≡ old.units.units.items ++ made
    pub grows : Grows old.strings new.strings
    pub each : (after : List (List ℕ)) → Grows new.strings after → (more : List GivenUnit) → Made after (length new.units.units.items) rest more → Made after (length old.units.units.items) all (made ++ more)
    pub accepted : Refused rest ≡ Refused all
    pub place : Front m.kept (suc first) (length new.units.units.items) all rest

  module _ (all : List ReadUnit) (old new : Dwarf) where
    module _ (r : ReadUnit) (rest : List ReadUnit) (h : UnitsSoFar all old new (r ∷ rest)) where
      -- a unit that is not carried
      pub units-none : length (carried_offsets m.kept r) ≤ 0 → UnitsSoFar all old new rest
      units-none none = record {
        made = h.made;
        added = h.added;
        grows = h.grows;
        each = λ after grown more k.
            h.each after grown more (subst (λ rs. CarryUnits encoding big_endian c first placed after (length new.units.units.items) (map of_read rs) more) (sym (left-none m.kept r rest none)) k);
        accepted = sym (ap (λ rs. flat_map (refusals_of c) (map of_read rs)) (left-none m.kept r rest none)) ∙ h.accepted;
        place = front-none m.kept (suc first) (length new.units.units.items) all r rest h.place none;
      }

      -- a unit that is carried
      pub units-some : 0 < length (carried_offsets m.kept r) → (next : Dwarf) → (option_map in_reading (first_of (refusals_of c (of_read r))) ≡ None) → AddsUnit encoding big_endian c first placed (of_read r) new next → UnitsSoFar all old next rest
      units-some some next none a =
          let long : length next.units.units.items ≡ suc (length new.units.units.items) = ap length a.added ∙ length-append new.units.units.items (a.made ∷ []) ∙ omega arith in
          record {
            made = h.made ++ a.made ∷ [];
            added = a.added ∙ ap (λ us. us ++ a.made ∷ []) h.added ∙ append_assoc old.units.units.items h.made (a.made ∷ []);
            grows = grows-more old.strings new.strings next.strings h.grows a.grows;
            each = λ after grown more k.
                subst (λ us. Made after (length old.units.units.items) all us) (sym (append_assoc h.made (a.made ∷ []) more))
                (h.each after (grows-more new.strings next.strings after a.grows grown) (a.made ∷ more)
                (subst (λ rs. CarryUnits encoding big_endian c first placed after (length new.units.units.items) (map of_read rs) (a.made ∷ more)) (sym (left-some m.kept r rest some))
                (carries-more encoding big_endian c first placed next.strings after (length new.units.units.items) (of_read r) a.made grown a.is, subst (λ n. Made after n rest more) long k)));
            accepted =
                sym (ap (λ rs. flat_map (refusals_of c) (map of_read rs)) (left-some m.kept r rest some)
                ∙ ap (λ xs. xs ++ Refused rest) (no-first (refusals_of c (of_read r)) (unmapped in_reading (first_of (refusals_of c (of_read r))) none)))
                ∙ h.accepted;
            place = front-some m.kept (suc first) (length new.units.units.items) all r rest h.place (length next.units.units.items) long some;
          }

      -- a unit that is refused
      pub units-refused : 0 < length (carried_offsets m.kept r) → (e : DebugError) → RefusesReading (first_of (refusals_of c (of_read r))) e → RefusesReading (first_of (Refused all)) e
      units-refused some e met =
          reading-more (first_of (refusals_of c (of_read r))) (first_of (Refused all)) e
          (λ x is. sym (ap first_of h.accepted) ∙ ap (λ rs. first_of (flat_map (refusals_of c) (map of_read rs))) (left-some m.kept r rest some) ∙ first-behind (refusals_of c (of_read r)) (Refused rest) x is) met

    -- behind the last one
    pub units-done : length old.units.units.items ≡ suc first → UnitsSoFar all old new [] → all ≡ m.units.items → IsOfModule encoding.version c c.functions c.told m
        → (option_map in_reading (first_of (flat_map (refusals_of c) (carried_in (kept_of c)))) ≡ None) × AddsUnits encoding big_endian c first old new
    units-done at_begin h are of =
        let carried_is : carried_in (kept_of c) ≡ carried_left all = carried-read c m of.is ∙ ap carried_left (sym are) in
        let carry : Made new.strings (length old.units.units.items) all h.made = subst (λ us. Made new.strings (length old.units.units.items) all us) (append-nil h.made) (h.each new.strings (grows-none new.strings) [] tt) in
        let there : CarryUnits encoding big_endian c first placed new.strings (suc first) (map of_read (filter (is_carried_read m.kept) m.units.items)) h.made =
        subst (λ n. CarryUnits encoding big_endian c first placed new.strings n (map of_read (filter (is_carried_read m.kept) m.units.items)) h.made) at_begin
        (subst (λ rs. CarryUnits encoding big_endian c first placed new.strings (length old.units.units.items) (map of_read (filter (is_carried_read m.kept) rs)) h.made) are carry) in (
          ap (λ us. option_map in_reading (first_of (flat_map (refusals_of c) us))) carried_is ∙ ap (λ rs. option_map in_reading (first_of rs)) (sym h.accepted),
          record {
            made = h.made;
            added = h.added;
            grows = h.grows;
            counted =
                sym (carry-length encoding big_endian c first placed new.strings (suc first) (map of_read (filter (is_carried_read m.kept) m.units.items)) h.made there)
                ∙ ap length (sym (carried-read c m of.is)) ∙ sym (length-map (carried_in (kept_of c)) (λ (u : Unit). record { module_of = c; unit = u }));
            each = λ at leads synthetic_there.
                subst (λ us. AreMadeOf at encoding new.strings (length old.units.units.items) (map carried_unit (map (λ u. record { module_of = c; unit = u }) us)) (map (wanted_of big_endian c first) us) h.made) (sym (carried-read c m of.is))
                (subst (λ n. AreMadeOf at encoding new.strings n (map carried_unit (map (λ u. record { module_of = c; unit = u }) (map of_read (filter (is_carried_read m.kept) m.units.items)))) (map (wanted_of big_endian c first) (map of_read (filter (is_carried_read m.kept) m.units.items))) h.made) (sym at_begin)
                (carried-made c m of.is encoding big_endian first placed refl new.strings at synthetic_there h.made there (subst (λ n. LeadsTo at n h.made) at_begin leads)));
          },
        )

    -- all that is refused is refused of the module
    pub refused-all : all ≡ m.units.items → IsOfModule encoding.version c c.functions c.told m → (e : DebugError) → RefusesReading (first_of (Refused all)) e → RefusesReading (first_of (flat_map (refusals_of c) (carried_in (kept_of c)))) e
    refused-all are of e = subst (λ us. RefusesReading (first_of (flat_map (refusals_of c) us)) e) (sym (carried-read c m of.is ∙ ap carried_left (sym are)))

  -- before the first one
  pub units-begin : (old : Dwarf) → length old.units.units.items ≡ suc first → IsOfModule encoding.version c c.functions c.told m → UnitsSoFar m.units.items old old m.units.items
  units-begin old at of = record {
    made = [];
    added = sym (append-nil old.units.units.items);
    grows = grows-none old.strings;
    each = λ after grown more k. k;
    accepted = refl;
    place = record { front = []; split = refl; counted = omega (arith, at); from = 0; before = All-nil (All (λ k. k < 0)); stand = module-stand c m of.is };
  }

-- ---- a step of the loop

module _ (fs : List Function) (told : ToldModule) (m : KeptModule) (i : ℕ) (r : ReadUnit) (less : i < length m.units.items) (is : r ≡ get_or m.units.items i r) where
  pub unit-there : IsIn r m.units.items
  unit-there = subst (λ x. IsIn x m.units.items) (sym is) (at-in m.units.items i r less)

  pub units-left : drop i m.units.items ≡ r ∷ drop (i + 1) m.units.items
  units-left = drop_more m.units.items i r less ∙ ap (λ x. x ∷ drop (i + 1) m.units.items) (sym is)

  -- The next unit is one of the module, and its entries stand in the unit of the output that is added next.
  pub unit-next : (c : Module) (encoding : Encoding) (big_endian : Bool) (first : ℕ) (old new : Dwarf) (places : List EmittedEntry) (os : List ℕ) → IsOfModule encoding.version c fs told m → os ≡ carried_offsets m.kept r → 0 < length os
      → places ≡ numbered_lists (suc first) (emitted m.kept m.units.items) → UnitsSoFar c m encoding big_endian first m.units.items old new (r ∷ drop (i + 1) m.units.items)
      → IsUnitOf encoding.version c fs told m first (length new.units.units.items) places os r
  unit-next c encoding big_endian first old new places os of offsets some are so_far = record {
    module_is = of;
    one = in-contains m.units.items r unit-there;
    offsets = offsets;
    some = some;
    places_are = are;
    own = front-own m.kept (suc first) (length new.units.units.items) m.units.items r (drop (i + 1) m.units.items) so_far.place places are (subst (λ xs. 0 < length xs) offsets some);
  }

-- The module's own functions are the transform's, and what is told of it is told.
pub of-itself : {version : ℕ} (c : Module) (fs : List Function) (told : ToldModule) (m : KeptModule) → IsOfModule version c fs told m → IsOfModule version c c.functions c.told m
of-itself {version} c fs told m of = record { functions = refl; told_is = refl; version_is = of.version_is; is = of.is; bytes = of.bytes }

-- Places that stand from a number on stand behind the module's synthetic unit.
pub places-behind : (m : KeptModule) (number own : ℕ) (places : List EmittedEntry) → number ≡ suc own → places ≡ numbered_lists number (emitted m.kept m.units.items) → places ≡ numbered_lists (suc own) (emitted m.kept m.units.items)
places-behind m number own places at are = are ∙ ap (λ n. numbered_lists n (emitted m.kept m.units.items)) at

-- What is added by places is added by the same ones.
pub added-at : (encoding : Encoding) (big_endian : Bool) (c : Module) (first : ℕ) (here there : List EmittedEntry) (u : Unit) (old new : Dwarf) → here ≡ there → AddsUnit encoding big_endian c first here u old new → AddsUnit encoding big_endian c first there u old new
added-at encoding big_endian c first here there u old new same a = subst (λ ps. AddsUnit encoding big_endian c first ps u old new) same a

-- References to the synthetic unit of a module, by what is told of the module.
pub synthetic-refers : (told : ToldModule) (c : Module) (fs : List Function) (m : KeptModule) (first : ℕ) {version : ℕ} {context address : DebugInfoRef} → IsOfModule version c fs told m → ReferToSynthetic first told.memory context address → ReferToSynthetic first c.told.memory context address
synthetic-refers told c fs m first {version} {context} {address} of refers = subst (λ (t : ToldModule). ReferToSynthetic first t.memory context address) (sym of.told_is) refers
