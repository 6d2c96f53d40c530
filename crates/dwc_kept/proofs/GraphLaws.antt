-- What is read of the entries of a module is their graph.
use Rattle.std.proofs.Common.{◌≡◌, ℕ, zero, suc, ◌+◌, ◌-◌, ◌^◌, ◌<◌, ◌≤◌, ◌⊎◌, ◌≢◌, List, [], ◌∷◌, ◌++◌, length, get_or, map, take, refl, ap, ap₂, sym, subst, ◌∙◌, inl, inr, arith, append_assoc, Bool, true, false, cond, Option, Some, None, All}
use Rattle.std.specs.Prelude.{◌==◌, ◌&&◌, ◌||◌, not, nat_lt, if◌then◌else◌, option_map, AllPairs}
use Rattle.std.specs.Option.{option_or}
use Rattle.std.specs.List.{filter, flat_map, filter_map, list_any, take_while, cons_option, prefix_len}
use Rattle.std.proofs.lemmas.Bool.{eqb-true, eq-eqb, ne_eqb, cases_Bool, cases_order, cases_eq, ltb-true, ltb-false, and_from, and_parts, and_left, and_right, not_from_false}
use Rattle.std.proofs.lemmas.List.{length_push, length-map, get_or_append_left, get_or_push, append-nil, map-append, take-append-le, take-map, take_all, length-take, get_or-take, same_lists}
use Rattle.dwc_dwarf.specs.Values.{Value, address, address_index, constant, flag, block, expression, text, text_reference, line_reference, range_reference, range_index, location_reference, location_index, unit_reference, info_reference, dropped}
use Rattle.dwc_dwarf.specs.Entries.{Entry, entries}
use Rattle.dwc_base.specs.Sections.{Sections, Fault}
use Rattle.dwc_base.specs.Units.{UnitHeader, unit_headers}
use Rattle.dwc_native.specs.Functions.{Function}
use Rattle.dwc_base.specs.Wasm.{last_of}
use Rattle.dwc_rules.specs.Kept.{Placed, same_place, parent_of, is_parent, names_entry, refers_to, is_part_tag, is_part_of, keeps}
use Rattle.dwc_rules.specs.EntryRules.{is_required}
use Rattle.dwc_base.specs.declared.records.Endian.TheVariants.{Little}
use Rattle.dwc_base.specs.Listing.{Listing}
use Rattle.dwc_base.specs.declared.constants.TheConstants.{DW_AT_sibling, DW_TAG_constant, DW_TAG_namespace, DW_TAG_variable}
use Rattle.dwc_kept.specs.declared.last_at.LastAt.{LastAt}
use Rattle.dwc_kept.specs.EntryGraphs.{Node, no_node, node, is_number, keeps_number, IsGraphOf}
use Rattle.dwc_kept.specs.ReadEntries.{ReadSoFar, none_read, last_above, with_last_at, node_below, is_part_below, small_offset, named_offset, attribute_offset, with_entry_read, with_entries_read, with_units_read}
use Rattle.dwc_kept.specs.ReadGraphs.{Standing, standing, placed, IsModuleGraph, units_of}
use Rattle.dwc_kept.specs.ReadingSeen.{IsRead}
use Rattle.dwc_kept.specs.ReadUnits.{unit_read}
use Rattle.dwc_rules.specs.Carried.{placed_entries}
use Rattle.dwc_dwarf.specs.ReadUnits.{Unit, units_of_headers, units}
use Rattle.dwc_dwarf.specs.UnitOffsets.{StandFrom}
use Rattle.dwc_kept.proofs.LastLaws.{last-here, last-other}
use Rattle.dwc_kept.proofs.ReadLaws.{first-unit, first-fault}
use Rattle.dwc_kept.proofs.MarkLaws.{same-truth}
use Rattle.dwc_kept.proofs.StandingLaws.{InOrder, in-order, placed-units, unit-offsets, offsets-unit}

-- ---- one entry after another

with_all : (UnitHeader → Entry → Bool) → List Standing → ReadSoFar → ReadSoFar
with_all needed [] r = r
with_all needed (q ∷ qs) r = with_all needed qs (with_entry_read (needed q.header) q.header q.entry r)

all-unit : (needed : UnitHeader → Entry → Bool) (h : UnitHeader) (es : List Entry) (rest : List Standing) (r : ReadSoFar) → with_all needed (map (λ e. record { header = h; entry = e }) es ++ rest) r ≡ with_all needed rest (with_entries_read (needed h) h es r)
unfolding with_all
all-unit needed h [] rest r = refl
all-unit needed h (e ∷ es) rest r = all-unit needed h es rest (with_entry_read (needed h) h e r)

all-units : (needed : UnitHeader → Entry → Bool) (s : Sections) (hs : List UnitHeader) (r : ReadSoFar) → with_units_read needed s hs r ≡ with_all needed (standing s hs) r
unfolding with_all
all-units needed s [] r = refl
all-units needed s (h ∷ hs) r = all-units needed s hs (with_entries_read (needed h) h (entries s h).items r) ∙ sym (all-unit needed h (entries s h).items (standing s hs) r)

-- the last entry at a depth, of some that are numbered from a number on
pub last_from : ℕ → List Standing → ℕ → Option LastAt
last_from i [] depth = None
last_from i (q ∷ qs) depth = option_or (last_from (suc i) qs depth) (if q.entry.depth == depth then Some (record { number = i; is_outer = (q.entry.depth == 0) || (q.entry.tag == DW_TAG_namespace) }) else None)

last-push : (i n : ℕ) (qs : List Standing) (q : Standing) (depth : ℕ) → n ≡ i + length qs → last_from i (qs ++ q ∷ []) depth ≡ (if q.entry.depth == depth then Some (record { number = n; is_outer = (q.entry.depth == 0) || (q.entry.tag == DW_TAG_namespace) }) else last_from i qs depth)
unfolding last_from
last-push i n [] q depth is = let same : i ≡ n = omega (arith, is) in ap (λ (k : ℕ). if q.entry.depth == depth then Some (record { number = k; is_outer = (q.entry.depth == 0) || (q.entry.tag == DW_TAG_namespace) }) else None) same
last-push i n (x ∷ qs) q depth is =
    ap (λ o. option_or o (if x.entry.depth == depth then Some (record { number = i; is_outer = (x.entry.depth == 0) || (x.entry.tag == DW_TAG_namespace) }) else None)) (last-push (suc i) n qs q depth (omega (arith, is)))
    ∙ go (q.entry.depth == depth)
  where
    go : (b : Bool) → option_or (if b then Some (record { number = n; is_outer = (q.entry.depth == 0) || (q.entry.tag == DW_TAG_namespace) }) else last_from (suc i) qs depth) (if x.entry.depth == depth then Some (record { number = i; is_outer = (x.entry.depth == 0) || (x.entry.tag == DW_TAG_namespace) }) else None)
        ≡ (if b then Some (record { number = n; is_outer = (q.entry.depth == 0) || (q.entry.tag == DW_TAG_namespace) }) else option_or (last_from (suc i) qs depth) (if x.entry.depth == depth then Some (record { number = i; is_outer = (x.entry.depth == 0) || (x.entry.tag == DW_TAG_namespace) }) else None))
    go true = refl
    go false = refl

-- the last entry above a depth, of some
abbrev pub above : List Standing → ℕ → Option LastAt
above qs zero = None
above qs (suc depth) = last_from 0 qs depth

-- What was read describes some entries.
pub record Describes (needed : UnitHeader → Entry → Bool) (qs : List Standing) (r : ReadSoFar) : Type 0 where
  pub counted : length r.nodes ≡ length qs
  pub nodes : (i : ℕ) (d : Standing) → i < length qs → node r.nodes i ≡ node_below (get_or qs i d).header.offset (get_or qs i d).header.end (above (take i qs) (get_or qs i d).entry.depth) (get_or qs i d).entry
  pub lasts : (depth : ℕ) → get_or r.lasts depth None ≡ last_from 0 qs depth
  pub required : r.required ≡ map (λ q. needed q.header q.entry) qs

module _ (needed : UnitHeader → Entry → Bool) where
  describes-none : Describes needed [] none_read
  unfolding last_from
  describes-none = record { counted = refl; nodes = λ i d less. absurd (omega (arith, less)); lasts = λ depth. refl; required = refl }

  describes-push : (qs : List Standing) (q : Standing) (r : ReadSoFar) → Describes needed qs r → Describes needed (qs ++ q ∷ []) (with_entry_read (needed q.header) q.header q.entry r)
  describes-push qs q r is = record {
    counted = omega (arith, length_push r.nodes new, length_push qs q, is.counted);
    nodes = λ i d less. nodes i d less (cases_order i (length qs));
    lasts = λ depth. lasts depth (cases_eq depth q.entry.depth);
    required = ap (λ bs. bs ++ needed q.header q.entry ∷ []) is.required ∙ sym (map-append (λ q. needed q.header q.entry) qs (q ∷ []));
  }
    where
      new : Node
      new = node_below q.header.offset q.header.end (last_above r.lasts q.entry.depth) q.entry

      above-same : (depth : ℕ) → last_above r.lasts depth ≡ above qs depth
      above-same zero = refl
      above-same (suc depth) = is.lasts depth

      own : LastAt
      own = record { number = length r.nodes; is_outer = (q.entry.depth == 0) || (q.entry.tag == DW_TAG_namespace) }

      push : (depth : ℕ) → last_from 0 (qs ++ q ∷ []) depth ≡ (if q.entry.depth == depth then Some own else last_from 0 qs depth)
      push depth = last-push 0 (length r.nodes) qs q depth (omega (arith, is.counted))

      lasts : (depth : ℕ) → (depth ≡ q.entry.depth) ⊎ (depth ≡ q.entry.depth → ⊥) → get_or (with_last_at r.lasts q.entry.depth own) depth None ≡ last_from 0 (qs ++ q ∷ []) depth
      lasts depth (inl e) =
          ap (λ k. get_or (with_last_at r.lasts q.entry.depth own) k None) e ∙ last-here r.lasts q.entry.depth own
          ∙ sym (push depth ∙ ap (λ b. cond b (Some own) (last_from 0 qs depth)) (eq-eqb q.entry.depth depth (sym e)))
      lasts depth (inr d) =
          last-other r.lasts q.entry.depth own depth d ∙ is.lasts depth
          ∙ sym (push depth ∙ ap (λ b. cond b (Some own) (last_from 0 qs depth)) (ne_eqb q.entry.depth depth (λ e. d (sym e))))

      nodes : (i : ℕ) (d : Standing) → i < length (qs ++ q ∷ []) → (i ≡ length qs) ⊎ ((i < length qs) ⊎ (length qs < i))
          → node (r.nodes ++ new ∷ []) i ≡ node_below (get_or (qs ++ q ∷ []) i d).header.offset (get_or (qs ++ q ∷ []) i d).header.end (above (take i (qs ++ q ∷ [])) (get_or (qs ++ q ∷ []) i d).entry.depth) (get_or (qs ++ q ∷ []) i d).entry
      nodes i d less (inl e) =
          let here : get_or (qs ++ q ∷ []) i d ≡ q = get_or_push qs q d i (sym e) in
          let before : take i (qs ++ q ∷ []) ≡ qs = take-append-le i qs (q ∷ []) (omega (arith, e)) ∙ take_all i qs (omega (arith, e)) in
          get_or_push r.nodes new no_node i (omega (arith, is.counted, e))
          ∙ ap (λ o. node_below q.header.offset q.header.end o q.entry) (above-same q.entry.depth)
          ∙ ap (λ xs. node_below q.header.offset q.header.end (above xs q.entry.depth) q.entry) (sym before)
          ∙ ap (λ (x : Standing). node_below x.header.offset x.header.end (above (take i (qs ++ q ∷ [])) x.entry.depth) x.entry) (sym here)
      nodes i d less (inr (inl below)) =
          let here : get_or (qs ++ q ∷ []) i d ≡ get_or qs i d = get_or_append_left qs (q ∷ []) d i below in
          get_or_append_left r.nodes (new ∷ []) no_node i (omega (arith, below, is.counted)) ∙ is.nodes i d below
          ∙ ap (λ xs. node_below (get_or qs i d).header.offset (get_or qs i d).header.end (above xs (get_or qs i d).entry.depth) (get_or qs i d).entry) (sym (take-append-le i qs (q ∷ []) (omega (arith, below))))
          ∙ ap (λ (x : Standing). node_below x.header.offset x.header.end (above (take i (qs ++ q ∷ [])) x.entry.depth) x.entry) (sym here)
      nodes i d less (inr (inr high)) = absurd (omega (arith, less, high, length_push qs q))

  describes-all : (before qs : List Standing) (r : ReadSoFar) → Describes needed before r → Describes needed (before ++ qs) (with_all needed qs r)
  unfolding with_all
  describes-all before [] r is = subst (λ xs. Describes needed xs r) (sym (append-nil before)) is
  describes-all before (q ∷ qs) r is = subst (λ xs. Describes needed xs (with_all needed qs (with_entry_read (needed q.header) q.header q.entry r))) (append_assoc before (q ∷ []) qs) (describes-all (before ++ q ∷ []) qs (with_entry_read (needed q.header) q.header q.entry r) (describes-push before q r is))

  pub described : (s : Sections) (hs : List UnitHeader) → Describes needed (standing s hs) (with_units_read needed s hs none_read)
  described s hs = subst (Describes needed (standing s hs)) (sym (all-units needed s hs none_read)) (describes-all [] (standing s hs) none_read describes-none)

-- ---- parents

-- what is told of a parent, of some entries numbered from a number on
abbrev IsLast : ℕ → List Standing → Option LastAt → Option Placed → Type 0
IsLast i qs None None = Prim.Unit {0}
IsLast i qs None (Some p) = ⊥
IsLast i qs (Some l) None = ⊥
IsLast i qs (Some l) (Some p) = (m : ℕ) × (l.number ≡ i + m) × (m < length qs) × ((d : Standing) → p ≡ placed (get_or qs m d)) × (l.is_outer ≡ ((p.entry.depth == 0) || (p.entry.tag == DW_TAG_namespace)))

depth-above : (a b : ℕ) → (suc a == suc b) ≡ (a == b)
depth-above a b = same-truth _ _ (λ h. eq-eqb a b (omega (arith, eqb-true (suc a) (suc b) h))) (λ h. eq-eqb (suc a) (suc b) (ap suc (eqb-true a b h)))

last-is : (i : ℕ) (qs : List Standing) (depth : ℕ) → IsLast i qs (last_from i qs depth) (last_of (filter (λ p. suc p.entry.depth == suc depth) (map placed qs)))
unfolding last_from
last-is i [] depth = tt
last-is i (q ∷ qs) depth = go (suc q.entry.depth == suc depth) (q.entry.depth == depth) (depth-above q.entry.depth depth) (last_from (suc i) qs depth) (filter (λ p. suc p.entry.depth == suc depth) (map placed qs)) (last-is (suc i) qs depth)
  where
    go : (a b : Bool) → a ≡ b → (l : Option LastAt) (ps : List Placed) → IsLast (suc i) qs l (last_of ps)
        → IsLast i (q ∷ qs) (option_or l (if b then Some (record { number = i; is_outer = (q.entry.depth == 0) || (q.entry.tag == DW_TAG_namespace) }) else None)) (last_of (cond {A = List Placed} a (placed q ∷ ps) ps))
    go true true e None [] h = (0, omega arith, omega arith, λ d. refl, refl)
    go true true e (Some l) [] h = absurd h
    go true true e None (p ∷ ps) h = absurd h
    go true true e (Some l) (p ∷ ps) h = (suc h.0, omega (arith, h.1), omega (arith, h.2), λ d. h.3 d, h.4)
    go true false e l ps h = absurd (cc)
    go false true e l ps h = absurd (cc)
    go false false e None [] h = tt
    go false false e (Some l) [] h = absurd h
    go false false e None (p ∷ ps) h = absurd h
    go false false e (Some l) (p ∷ ps) h = (suc h.0, omega (arith, h.1), omega (arith, h.2), λ d. h.3 d, h.4)

filter-none : (t : Placed → Bool) (ps : List Placed) → ((p : Placed) → t p ≡ false) → filter t ps ≡ []
filter-none t [] none = refl
filter-none t (p ∷ ps) none = ap (λ b. cond {A = List Placed} b (p ∷ filter t ps) (filter t ps)) (none p) ∙ filter-none t ps none

-- what is told of the parent of an entry of a depth behind some entries
above-is : (qs : List Standing) (depth : ℕ) → IsLast 0 qs (above qs depth) (last_of (filter (λ p. suc p.entry.depth == depth) (map placed qs)))
above-is qs zero = subst (λ ps. IsLast 0 qs None (last_of ps)) (sym (filter-none (λ p. suc p.entry.depth == 0) (map placed qs) (λ p. ne_eqb (suc p.entry.depth) 0 (λ e. absurd (omega (arith, e)))))) tt
above-is qs (suc depth) = last-is 0 qs depth

-- the first entries of a list up to one that a test refuses
prefix-is : (t : Placed → Bool) (i : ℕ) (ps : List Placed) (d : Placed) → i < length ps → ((k : ℕ) → k < i → t (get_or ps k d) ≡ true) → t (get_or ps i d) ≡ false → prefix_len t ps ≡ i
prefix-is t i [] d less before at = absurd (omega (arith, less))
prefix-is t zero (p ∷ ps) d less before at = ap (λ b. cond b (1 + prefix_len t ps) 0) at
prefix-is t (suc i) (p ∷ ps) d less before at = ap (λ b. cond b (1 + prefix_len t ps) 0) (before 0 (omega arith)) ∙ ap (λ n. 1 + n) (prefix-is t i ps d (omega (arith, less)) (λ k l. before (suc k) (omega (arith, l))) at) ∙ omega arith

placed-at : (qs : List Standing) (i : ℕ) (d : Placed) (e : Standing) → i < length qs → get_or (map placed qs) i d ≡ placed (get_or qs i e)
placed-at [] i d e less = absurd (omega (arith, less))
placed-at (q ∷ qs) zero d e less = refl
placed-at (q ∷ qs) (suc i) d e less = placed-at qs i d e (omega (arith, less))

parent-none : (es : List Placed) (e p : Placed) → parent_of es e ≡ None → is_parent es e p ≡ false
parent-none es e p h = rw h refl

parent-some : (es : List Placed) (e p q : Placed) → parent_of es e ≡ Some q → is_parent es e p ≡ same_place p q
parent-some es e p q h = rw h refl

-- ---- references

module _ (unit end place other : ℕ) (to : other ≡ unit → (unit ≤ place) × (place < end)) (back : unit ≤ place → place < end → other ≡ unit) (small : place < 2 ^ 32) (e f : Placed) (e_is : e.unit ≡ unit) (f_is : f.unit ≡ other) (f_at : f.entry.offset ≡ place) where
  abbrev Names : Option ℕ → Bool → Type 0
  Names None b = b ≡ false
  Names (Some o) b = (o == place) ≡ b

  small-names : (n : ℕ) → Names (small_offset n) (f.entry.offset == n)
  small-names n = go (nat_lt n (2 ^ 32)) refl
    where
      go : (b : Bool) → nat_lt n (2 ^ 32) ≡ b → Names (if b then Some n else None) (f.entry.offset == n)
      go true h = same-truth _ _ (λ t. eq-eqb _ n (f_at ∙ sym (eqb-true n place t))) (λ t. eq-eqb n place (sym (eqb-true _ n t) ∙ f_at))
      go false h = ne_eqb _ n (λ t. absurd (omega (arith, ltb-false n (2 ^ 32) h, small, f_at, t)))

  unit-names : (n : ℕ) → Names (if nat_lt n (end - unit) then small_offset (unit + n) else None) ((f.unit == e.unit) && (f.entry.offset == e.unit + n))
  unit-names n = go (nat_lt n (end - unit)) refl (small_offset (unit + n)) (small-names (unit + n))
    where
      same_unit : f.entry.offset ≡ unit + n → n < end - unit → f.unit ≡ e.unit
      same_unit at less = f_is ∙ back (omega (arith, f_at, at)) (omega (arith, f_at, at, less)) ∙ sym e_is

      both : n < end - unit → (f.entry.offset == unit + n) ≡ ((f.unit == e.unit) && (f.entry.offset == e.unit + n))
      both less = same-truth _ _
          (λ t. and_from _ _ (eq-eqb f.unit e.unit (same_unit (eqb-true _ _ t) less)) (eq-eqb f.entry.offset (e.unit + n) (eqb-true _ _ t ∙ ap (λ u. u + n) (sym e_is))))
          (λ t. eq-eqb f.entry.offset (unit + n) (eqb-true _ _ ((and_parts (f.unit == e.unit) _ t).1) ∙ ap (λ u. u + n) e_is))

      none : end - unit ≤ n → ((f.unit == e.unit) && (f.entry.offset == e.unit + n)) ≡ false
      none le = go (cases_Bool (f.unit == e.unit)) (cases_Bool (f.entry.offset == e.unit + n))
        where
          go : ((f.unit == e.unit) ≡ true) ⊎ ((f.unit == e.unit) ≡ false) → ((f.entry.offset == e.unit + n) ≡ true) ⊎ ((f.entry.offset == e.unit + n) ≡ false) → ((f.unit == e.unit) && (f.entry.offset == e.unit + n)) ≡ false
          go (inr h) k = and_left _ _ h
          go (inl h) (inr k) = and_right _ _ k
          go (inl h) (inl k) = let within = to (sym f_is ∙ eqb-true f.unit e.unit h ∙ e_is) in absurd (omega (arith, within.1, f_at, eqb-true f.entry.offset (e.unit + n) k, e_is, le))

      keep : (o : Option ℕ) (a b : Bool) → a ≡ b → Names o a → Names o b
      keep None a b is h = sym is ∙ h
      keep (Some x) a b is h = h ∙ is

      go : (b : Bool) → nat_lt n (end - unit) ≡ b → (o : Option ℕ) → Names o (f.entry.offset == unit + n) → Names (if b then o else None) ((f.unit == e.unit) && (f.entry.offset == e.unit + n))
      go true h o names = keep o _ _ (both (ltb-true n (end - unit) h)) names
      go false h o names = none (ltb-false n (end - unit) h)

  value-names : (v : Value) → Names (named_offset unit end v) (names_entry e f v)
  value-names (address a) = refl
  value-names (address_index n) = refl
  value-names (constant a n) = refl
  value-names (flag b) = refl
  value-names (block b) = refl
  value-names (expression b) = refl
  value-names (text b) = refl
  value-names (text_reference a n) = refl
  value-names (line_reference n) = refl
  value-names (range_reference n) = refl
  value-names (range_index n) = refl
  value-names (location_reference n) = refl
  value-names (location_index n) = refl
  value-names (unit_reference n) = unit-names n
  value-names (info_reference n) = small-names n
  value-names dropped = refl

  names-all : (attributes : List (ℕ × Value)) → list_any (λ o. o == place) (filter_map (attribute_offset unit end) attributes) ≡ list_any (λ a. not (a.0 == DW_AT_sibling) && names_entry e f a.1) attributes
  names-all [] = refl
  names-all (a ∷ attributes) = go (a.0 == DW_AT_sibling) (named_offset unit end a.1) (names_entry e f a.1) (value-names a.1) (names-all attributes)
    where
      rest : List ℕ
      rest = filter_map (attribute_offset unit end) attributes

      go : (sibling : Bool) (o : Option ℕ) (b : Bool) → Names o b → list_any (λ o. o == place) rest ≡ list_any (λ a. not (a.0 == DW_AT_sibling) && names_entry e f a.1) attributes
          → list_any (λ o. o == place) (cons_option (if sibling then None else o) rest) ≡ ((not sibling && b) || list_any (λ a. not (a.0 == DW_AT_sibling) && names_entry e f a.1) attributes)
      go true o b names others = others
      go false None b names others = ap (λ c. c || list_any (λ o. o == place) rest) (sym names) ∙ ap (λ c. b || c) others
      go false (Some x) b names others = ap (λ c. c || list_any (λ o. o == place) rest) names ∙ ap (λ c. b || c) others

-- ---- the graph

abbrev no_header : UnitHeader
no_header = record { offset = 0; end = 0; version = 0; address_size = 0; unit_type = 0; abbreviations = 0; dwo_id = None; content = record { order = Little; place = 0; left = [] } }

abbrev no_standing : Standing
no_standing = record { header = no_header; entry = record { offset = 0; depth = 0; tag = 0; attributes = [] } }

module _ (needed : UnitHeader → Entry → Bool) (qs : List Standing) (order : InOrder qs) (r : ReadSoFar) (read : Describes needed qs r) (small : All (λ n. n.offset < 2 ^ 32) r.nodes) where
  abbrev q_at : ℕ → Standing
  q_at i = get_or qs i no_standing

  abbrev p_at : ℕ → Placed
  p_at i = placed (get_or qs i no_standing)

  node-is : (i : ℕ) → i < length qs → node r.nodes i ≡ node_below (q_at i).header.offset (q_at i).header.end (above (take i qs) (q_at i).entry.depth) (q_at i).entry
  node-is i less = read.nodes i no_standing less

  -- entries in front of an entry stand at other offsets
  before-while : (i : ℕ) → i < length qs → take_while (λ p. not (same_place (p_at i) p)) (map placed qs) ≡ map placed (take i qs)
  before-while i less =
      ap (λ n. take n (map placed qs)) (prefix-is (λ p. not (same_place (placed (get_or qs i no_standing)) p)) i (map placed qs) (placed no_standing) (omega (arith, less, length-map qs placed)) before here)
      ∙ take-map placed i qs
    where
      before : (k : ℕ) → k < i → not (same_place (placed (get_or qs i no_standing)) (get_or (map placed qs) k (placed no_standing))) ≡ true
      before k low =
          let first = order.first k i no_standing low less in
          ap (λ p. not (same_place (placed (get_or qs i no_standing)) p)) (placed-at qs k (placed no_standing) no_standing (omega (arith, low, less)))
          ∙ not_from_false _ (ne_eqb _ _ (λ e. absurd (omega (arith, e, first.offsets))))

      here : not (same_place (placed (get_or qs i no_standing)) (get_or (map placed qs) i (placed no_standing))) ≡ false
      here = ap (λ p. not (same_place (placed (get_or qs i no_standing)) p)) (placed-at qs i (placed no_standing) no_standing less) ∙ ap not (eq-eqb (get_or qs i no_standing).entry.offset (get_or qs i no_standing).entry.offset refl)

  parent-last : (i : ℕ) → i < length qs → IsLast 0 (take i qs) (above (take i qs) (q_at i).entry.depth) (parent_of (map placed qs) (p_at i))
  parent-last i less = subst (λ ps. IsLast 0 (take i qs) (above (take i qs) (get_or qs i no_standing).entry.depth) (last_of (filter (λ p. suc p.entry.depth == (get_or qs i no_standing).entry.depth) ps))) (sym (before-while i less)) (above-is (take i qs) (get_or qs i no_standing).entry.depth)

  -- two entries stand at one offset only where they are one
  same-number : (m j : ℕ) → m < length qs → j < length qs → (m == j) ≡ same_place (p_at j) (p_at m)
  same-number m j a b = same-truth _ _ (λ t. eq-eqb _ _ (ap (λ k. (get_or qs k no_standing).entry.offset) (sym (eqb-true m j t)))) (λ t. eq-eqb m j (there (eqb-true _ _ t) (cases_order m j)))
    where
      there : (get_or qs j no_standing).entry.offset ≡ (get_or qs m no_standing).entry.offset → (m ≡ j) ⊎ ((m < j) ⊎ (j < m)) → m ≡ j
      there e (inl same) = same
      there e (inr (inl low)) = absurd (omega (arith, e, (order.first m j no_standing low b).offsets))
      there e (inr (inr high)) = absurd (omega (arith, e, (order.first j m no_standing high a).offsets))

  -- a parent, and whether an entry is a part of it
  parent-same : (i j : ℕ) → i < length qs → j < length qs → is_number j (option_map (λ l. l.number) (above (take i qs) (q_at i).entry.depth)) ≡ is_parent (map placed qs) (p_at i) (p_at j)
  parent-same i j a b = go (above (take i qs) (q_at i).entry.depth) (parent_of (map placed qs) (p_at i)) refl (parent-last i a)
    where
      go : (l : Option LastAt) (o : Option Placed) → parent_of (map placed qs) (p_at i) ≡ o → IsLast 0 (take i qs) l o → is_number j (option_map (λ l. l.number) l) ≡ is_parent (map placed qs) (p_at i) (p_at j)
      go None None e h = sym (parent-none (map placed qs) (p_at i) (p_at j) e)
      go None (Some p) e h = absurd h
      go (Some l) None e h = absurd h
      go (Some l) (Some p) e h =
          let number : l.number ≡ h.0 = omega (arith, h.1) in
          let inside : h.0 < length qs = omega (arith, h.2, length-take i qs) in
          let low : h.0 < i = omega (arith, h.2, length-take i qs) in
          ap (λ k. k == j) number ∙ same-number h.0 j inside b
          ∙ ap (same_place (p_at j)) (sym (h.3 no_standing ∙ ap placed (get_or-take i qs h.0 no_standing low)))
          ∙ sym (parent-some (map placed qs) (p_at i) (p_at j) p e)

  part-same : (i j : ℕ) → i < length qs → j < length qs
      → (is_number i (option_map (λ l. l.number) (above (take j qs) (q_at j).entry.depth)) && is_part_below (above (take j qs) (q_at j).entry.depth) (q_at j).entry.tag) ≡ (is_parent (map placed qs) (p_at j) (p_at i) && is_part_of (p_at i) (p_at j))
  part-same i j a b = ap (λ t. t && is_part_below (above (take j qs) (q_at j).entry.depth) (q_at j).entry.tag) (parent-same j i b a) ∙ go (above (take j qs) (q_at j).entry.depth) (parent_of (map placed qs) (p_at j)) refl (parent-last j b)
    where
      go : (l : Option LastAt) (o : Option Placed) → parent_of (map placed qs) (p_at j) ≡ o → IsLast 0 (take j qs) l o → (is_parent (map placed qs) (p_at j) (p_at i) && is_part_below l (q_at j).entry.tag) ≡ (is_parent (map placed qs) (p_at j) (p_at i) && is_part_of (p_at i) (p_at j))
      go None None e h = ap (λ t. t && false) (parent-none (map placed qs) (p_at j) (p_at i) e) ∙ sym (ap (λ t. t && is_part_of (p_at i) (p_at j)) (parent-none (map placed qs) (p_at j) (p_at i) e))
      go None (Some p) e h = absurd h
      go (Some l) None e h = absurd h
      go (Some l) (Some p) e h = under (is_parent (map placed qs) (p_at j) (p_at i)) refl
        where
          under : (t : Bool) → is_parent (map placed qs) (p_at j) (p_at i) ≡ t → (t && is_part_below (Some l) (q_at j).entry.tag) ≡ (t && is_part_of (p_at i) (p_at j))
          under false k = refl
          under true k = ap (λ o. is_part_tag (q_at j).entry.tag || ((((q_at j).entry.tag == DW_TAG_variable) || ((q_at j).entry.tag == DW_TAG_constant)) && not o)) (h.4 ∙ ap (λ (x : Placed). (x.entry.depth == 0) || (x.entry.tag == DW_TAG_namespace)) is)
            where
              low : h.0 < j
              low = omega (arith, h.2, length-take j qs)

              at : p ≡ p_at h.0
              at = h.3 no_standing ∙ ap placed (get_or-take j qs h.0 no_standing low)

              number : h.0 ≡ i
              number = eqb-true h.0 i (same-number h.0 i (omega (arith, low, b)) a ∙ ap (same_place (p_at i)) (sym at) ∙ sym (parent-some (map placed qs) (p_at j) (p_at i) p e) ∙ k)

              is : p ≡ p_at i
              is = at ∙ ap (λ m. placed (get_or qs m no_standing)) number

  node-offset : (j : ℕ) → j < length qs → (node r.nodes j).offset ≡ (q_at j).entry.offset
  node-offset j b = ap (λ n. n.offset) (node-is j b)

  targets-same : (i j : ℕ) → i < length qs → j < length qs → list_any (λ o. o == (q_at j).entry.offset) (filter_map (attribute_offset (q_at i).header.offset (q_at i).header.end) (q_at i).entry.attributes) ≡ refers_to (p_at i) (p_at j)
  targets-same i j a b =
      names-all (q_at i).header.offset (q_at i).header.end (q_at j).entry.offset (q_at j).header.offset (unit-offsets qs order i j no_standing a b) (offsets-unit qs order i j no_standing a b)
      (omega (arith, small j no_node (omega (arith, b, read.counted)), node-offset j b)) (p_at i) (p_at j) refl refl refl (q_at i).entry.attributes

  keeps-same : (i j : ℕ) → i < length qs → j < length qs → keeps_number r.nodes i j ≡ keeps (map placed qs) (p_at i) (p_at j)
  keeps-same i j a b =
      ap (λ n. is_number j n.parent || list_any (λ offset. offset == (node r.nodes j).offset) n.targets || (is_number i (node r.nodes j).parent && (node r.nodes j).is_part)) (node-is i a)
      ∙ ap (λ n. is_number j (option_map (λ l. l.number) (above (take i qs) (q_at i).entry.depth)) || list_any (λ offset. offset == n.offset) (filter_map (attribute_offset (q_at i).header.offset (q_at i).header.end) (q_at i).entry.attributes) || (is_number i n.parent && n.is_part)) (node-is j b)
      ∙ ap (λ t. t || list_any (λ offset. offset == (q_at j).entry.offset) (filter_map (attribute_offset (q_at i).header.offset (q_at i).header.end) (q_at i).entry.attributes)
      || (is_number i (option_map (λ l. l.number) (above (take j qs) (q_at j).entry.depth)) && is_part_below (above (take j qs) (q_at j).entry.depth) (q_at j).entry.tag)) (parent-same i j a b)
      ∙ ap (λ t. is_parent (map placed qs) (p_at i) (p_at j) || t || (is_number i (option_map (λ l. l.number) (above (take j qs) (q_at j).entry.depth)) && is_part_below (above (take j qs) (q_at j).entry.depth) (q_at j).entry.tag)) (targets-same i j a b)
      ∙ ap (λ t. is_parent (map placed qs) (p_at i) (p_at j) || refers_to (p_at i) (p_at j) || t) (part-same i j a b)

  pub graph-of : IsGraphOf (map placed qs) r.nodes
  graph-of = record {
    offsets = same_lists _ _ (length-map r.nodes (λ n. n.offset) ∙ read.counted ∙ sym (length-map qs placed) ∙ sym (length-map (map placed qs) (λ e. e.entry.offset))) offset_at;
    keeps_same = λ i j d a b.
        let u : i < length qs = omega (arith, a, length-map qs placed) in
        let v : j < length qs = omega (arith, b, length-map qs placed) in
        keeps-same i j u v ∙ ap (λ p. keeps (map placed qs) p (p_at j)) (sym (placed-at qs i d no_standing u)) ∙ ap (keeps (map placed qs) (get_or (map placed qs) i d)) (sym (placed-at qs j d no_standing v));
  }
    where
      map-at : {A : Type 0} (f : A → ℕ) (xs : List A) (k d : ℕ) (e : A) → k < length xs → get_or (map f xs) k d ≡ f (get_or xs k e)
      map-at f [] k d e less = absurd (omega (arith, less))
      map-at f (x ∷ xs) zero d e less = refl
      map-at f (x ∷ xs) (suc k) d e less = map-at f xs k d e (omega (arith, less))

      offset_at : (k d : ℕ) → k < length (map (λ n. n.offset) r.nodes) → get_or (map (λ n. n.offset) r.nodes) k d ≡ get_or (map (λ e. e.entry.offset) (map placed qs)) k d
      offset_at k d less =
          let a : k < length r.nodes = omega (arith, less, length-map r.nodes (λ n. n.offset)) in
          let b : k < length qs = omega (arith, a, read.counted) in
          map-at (λ n. n.offset) r.nodes k d no_node a ∙ node-offset k b
          ∙ sym (map-at (λ e. e.entry.offset) (map placed qs) k d (placed no_standing) (omega (arith, b, length-map qs placed)) ∙ ap (λ (p : Placed). p.entry.offset) (placed-at qs k (placed no_standing) no_standing b))

  pub all-apart : AllPairs (λ e f. e.entry.offset ≢ f.entry.offset) (map placed qs)
  all-apart i j d below less same =
      let b : j < length qs = omega (arith, less, length-map qs placed) in
      let first = order.first i j no_standing below b in
      let here : (q_at i).entry.offset ≡ (q_at j).entry.offset =
      ap (λ (p : Placed). p.entry.offset) (sym (placed-at qs i d no_standing (omega (arith, below, b)))) ∙ same ∙ ap (λ (p : Placed). p.entry.offset) (placed-at qs j d no_standing b) in
      absurd (omega (arith, here, first.offsets))

-- where units have no fault, they are those of their headers
units-headers : (s : Sections) (hs : List UnitHeader) (last : Option Fault) → (units_of_headers s hs last).fault ≡ None → (units_of_headers s hs last).items ≡ map (unit_read s) hs
units-headers s [] last none = refl
units-headers s (h ∷ hs) last none = go (entries s h).fault refl (λ k. units-headers s hs last k)
  where
    go : (o : Option Fault) → (entries s h).fault ≡ o → ((units_of_headers s hs last).fault ≡ None → (units_of_headers s hs last).items ≡ map (unit_read s) hs) → (units_of_headers s (h ∷ hs) last).items ≡ map (unit_read s) (h ∷ hs)
    go (Some fault) is rest = absurd (clash (sym (ap (λ (l : Listing Fault Unit). l.fault) (first-fault s h hs last fault is)) ∙ none))
      where
        clash : Some fault ≡ None → ⊥
        clash e = cc
    go None is rest =
        let first = first-unit s h hs last is in
        ap (λ (l : Listing Fault Unit). l.items) first ∙ ap (λ us. unit_read s h ∷ us) (rest (sym (ap (λ (l : Listing Fault Unit). l.fault) first) ∙ none))

pub units-are : (s : Sections) → (units s).fault ≡ None → (units s).items ≡ map (unit_read s) (unit_headers s).items
unfolding units
units-are s none = units-headers s (unit_headers s).items (unit_headers s).fault none

-- What is read of units without a fault is the graph of their entries, and which of them are required.
pub module-graph : (fs : List Function) (s : Sections) (all : Listing Fault UnitHeader) (r : ReadSoFar) → (units_of_headers s all.items all.fault).fault ≡ None → StandFrom s 0 all.items → IsRead (with_units_read (is_required fs s) s all.items none_read) r → IsModuleGraph fs s (units_of s all) r.nodes r.required
module-graph fs s all r none stands read = record {
  graph = subst (λ es. IsGraphOf es r.nodes) (sym placed_are) (graph-of (is_required fs s) (standing s all.items) (in-order s all.items stands) r about read.small);
  required_are = about.required ∙ sym (ap (flat_map (λ u. map (is_required fs s u.header) u.entries)) (units-headers s all.items all.fault none) ∙ required-standing all.items);
  apart = subst (AllPairs (λ e f. e.entry.offset ≢ f.entry.offset)) (sym placed_are) (all-apart (is_required fs s) (standing s all.items) (in-order s all.items stands) r about read.small);
  small = read.small;
}
  where
    placed_are : placed_entries (units_of s all) ≡ map placed (standing s all.items)
    placed_are = placed-units s all.items all.fault none

    about : Describes (is_required fs s) (standing s all.items) r
    about = subst (Describes (is_required fs s) (standing s all.items)) (sym read.is) (described (is_required fs s) s all.items)

    required-unit : (h : UnitHeader) (es : List Entry) → map (is_required fs s h) es ≡ map (λ (q : Standing). is_required fs s q.header q.entry) (map (λ e. record { header = h; entry = e }) es)
    required-unit h [] = refl
    required-unit h (e ∷ es) = ap (λ bs. is_required fs s h e ∷ bs) (required-unit h es)

    required-standing : (hs : List UnitHeader) → flat_map (λ u. map (is_required fs s u.header) u.entries) (map (unit_read s) hs) ≡ map (λ q. is_required fs s q.header q.entry) (standing s hs)
    required-standing [] = refl
    required-standing (h ∷ hs) =
        ap₂ (λ xs ys. xs ++ ys) (required-unit h (entries s h).items) (required-standing hs)
        ∙ sym (map-append (λ (q : Standing). is_required fs s q.header q.entry) (map (λ e. record { header = h; entry = e }) (entries s h).items) (standing s hs))
