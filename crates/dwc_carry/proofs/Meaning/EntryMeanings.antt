-- The attributes of an entry that was made of one of the input mean what they should.
use Rattle.std.proofs.Common.{◌≡◌, inl, inr, ℕ, List, [], ◌∷◌, map, Option, Some, None, option_map, Bool, true, false, ap, subst, pos}
use Rattle.std.specs.Prelude.{◌==◌, ◌&&◌, if◌then◌else◌}
use Rattle.std.specs.List.{filter_map}
use Rattle.dwc_base.specs.declared.constants.TheConstants.{DW_AT_artificial, DW_AT_endianity, DW_AT_low_pc, DW_AT_name, DW_AT_object_pointer, DW_AT_ranges, DW_END_little, DW_FORM_data1, DW_TAG_base_type, DW_TAG_compile_unit}
use Rattle.dwc_base.specs.declared.records.Address.{Address}
use Rattle.dwc_base.specs.declared.records.Address.TheVariants.{Symbol, Constant}
use Rattle.dwc_base.specs.declared.records.OutputFor.{OutputFor}
use Rattle.dwc_base.proofs.InLists.{contains-in}
use Rattle.dwc_dwarf.specs.Entries.{Entry}
use Rattle.dwc_dwarf.specs.RawLists.{ListSource}
use Rattle.dwc_dwarf.specs.Texts.{TextSource}
use Rattle.dwc_dwarf.specs.Trees as Trees
use Rattle.dwc_dwarf.specs.Trees.{Interval, TreeValue, constant}
use Rattle.dwc_native.specs.Functions.{Function}
use Rattle.dwc_native.specs.ScopesKept.{native_of_intervals}
use Rattle.dwc_rules.specs.Kept.{Placed}
use Rattle.dwc_rules.specs.Drafts.{Goal, DraftValue, done, goes_to}
use Rattle.dwc_rules.specs.DraftForests.{settled, settled_entry}
use Rattle.dwc_rules.specs.ObjectPointers.{has_parameters, is_object_pointer, underscored, unlike_this, stays_in_unit, names_no_pointer, pointers_changed}
use Rattle.dwc_rules.specs.RangeAttributes.{Extent, nowhere, position, intervals, begun_function, extent, length_of, carried_address, bounds, said_intervals, said_extent, range_attributes, with_base}
use Rattle.dwc_rules.specs.Clones.{UnitSource, endianity, attributes_made}
use Rattle.dwc_rules.specs.CarriedDrafts.{draft_told}
use Rattle.dwc_rules.specs.LocationRules.{ExpressionSource, lists_of}
use Rattle.dwc_rules.specs.EntryRules.{wrappers_of, rules_of_source}
use Rattle.dwc_rules.specs.Wrappers.{is_wrapped}
use Rattle.dwc_rules.proofs.ListBaseLaws.{BaseOrNone, base-or-none}
use Rattle.dwc_expr.specs.WholeParts.{CompiledPartsAreWhole}
use Rattle.dwc_expr.proofs.Meaning.OperationActs.{Each}
use Rattle.dwc_carry.specs.MeaningsCarried.{ValueMeans, EntryMeans, IsToldBounded}
use Rattle.dwc_carry.proofs.Meaning.AttributeMeanings.{DraftMeans, attributes-mean}
use Rattle.dwc_carry.proofs.Meaning.KeptDrafts.{both, each-in, kept, order-each}

-- ---- what bounds an entry's code is no expression

module _ (c : ExpressionSource) (e : Placed) where
  abbrev pub drafts : List (ℕ × TreeValue) → List (ℕ × DraftValue)
  drafts xs = map (λ (a : ℕ × TreeValue). (a.0, done a.1)) xs

  said-mean : (tag : ℕ) (is : List Interval) → Each (DraftMeans c e) (drafts (said_intervals tag is))
  said-mean tag [] = (tt, tt)
  said-mean tag (i ∷ j ∷ is) = (tt, tt)
  said-mean tag (i ∷ []) = go (tag == DW_TAG_compile_unit)
    where
      go : (b : Bool) → Each (DraftMeans c e) (drafts (if b then (DW_AT_ranges, Trees.ranges (i ∷ [])) ∷ [] else bounds i.begin (length_of i)))
      go true = (tt, tt)
      go false = (tt, (tt, tt))

  bounds-mean : (fs : List Function) (lists : ListSource) (entry : Entry) → Each (DraftMeans c e) (drafts (range_attributes lists fs entry))
  unfolding range_attributes
  bounds-mean fs lists entry = go (begun_function lists fs entry) (extent lists entry)
    where
      at : (b : Bool) (a : Address) → ValueMeans c e DW_AT_low_pc (if b then Trees.address (Constant 0) else carried_address fs a)
      at true a = tt
      at false a = tt

      go : (o : Option Function) (x : Extent) → Each (DraftMeans c e) (drafts (elim o [ Some f ↦ bounds (Symbol f.number (pos 0)) f.length | None ↦ said_extent fs entry.tag x ]))
      go (Some f) x = (tt, (tt, tt))
      go None nowhere = tt
      go None (position a) = (at (entry.tag == DW_TAG_compile_unit) a, tt)
      go None (intervals []) = tt
      go None (intervals (i ∷ is)) = said-mean entry.tag (native_of_intervals fs (i ∷ is))

  -- nor is the base of a list
  based-mean : (output : OutputFor) (is_root : Bool) (xs : List (ℕ × TreeValue)) → Each (DraftMeans c e) (drafts xs) → Each (DraftMeans c e) (drafts (with_base output is_root xs))
  based-mean output is_root xs h = go (base-or-none output is_root xs)
    where
      go : BaseOrNone (with_base output is_root xs) xs → Each (DraftMeans c e) (drafts (with_base output is_root xs))
      go (inl same) = rw same h
      go (inr same) = rw same (tt, h)

  endian-means : (big_endian : Bool) → Each (DraftMeans c e) (endianity big_endian e)
  endian-means big_endian = go (big_endian && (e.entry.tag == DW_TAG_base_type))
    where
      go : (b : Bool) → Each (DraftMeans c e) (if b then (DW_AT_endianity, done (constant DW_FORM_data1 DW_END_little)) ∷ [] else [])
      go true = (tt, tt)
      go false = tt

  -- ---- object pointers, and goals

  same-or : (a b : ℕ × DraftValue) → DraftMeans c e a → ◌≡◌ {A = Option (ℕ × DraftValue)} (Some a) (Some b) → DraftMeans c e b
  same-or a b h is = subst (DraftMeans c e) (ap of is) h
    where
      of : Option (ℕ × DraftValue) → ℕ × DraftValue
      of None = a
      of (Some x) = x

  changed-mean : (texts : TextSource) (es : List Placed) (as' : List (ℕ × DraftValue)) → Each (DraftMeans c e) as' → Each (DraftMeans c e) (pointers_changed texts es e as')
  unfolding pointers_changed
  changed-mean texts es as' h = go (is_object_pointer texts es e) (has_parameters e)
    where
      text-means : (name : ℕ) (d : DraftValue) → DraftMeans c e (name, d) → DraftMeans c e (name, underscored d)
      text-means name (done (Trees.text bytes)) k = tt
      text-means name (done (Trees.address a)) k = k
      text-means name (done (Trees.constant form n)) k = k
      text-means name (done (Trees.flag b)) k = k
      text-means name (done (Trees.block bytes)) k = k
      text-means name (done (Trees.expression bytes)) k = k
      text-means name (done Trees.line_table) k = k
      text-means name (done (Trees.ranges is)) k = k
      text-means name (done (Trees.locations ls)) k = k
      text-means name (done (Trees.entry m n)) k = k
      text-means name (done Trees.nothing) k = k
      text-means name (goes_to goal) k = k

      unlike : (a b : ℕ × DraftValue) → DraftMeans c e a → unlike_this a ≡ Some b → DraftMeans c e b
      unlike a b k is = of (a.0 == DW_AT_artificial) (a.0 == DW_AT_name) is
        where
          named : (n : Bool) → DraftMeans c e (a.0, if n then underscored a.1 else a.1)
          named true = text-means a.0 a.1 k
          named false = k

          of : (x n : Bool) → (if x then None else Some (a.0, if n then underscored a.1 else a.1)) ≡ Some b → DraftMeans c e b
          of true n q = absurd (cc)
          of false n q = same-or (a.0, if n then underscored a.1 else a.1) b (named n) q

      unnamed : (a b : ℕ × DraftValue) → DraftMeans c e a → names_no_pointer es e a ≡ Some b → DraftMeans c e b
      unnamed a b k is = of ((a.0 == DW_AT_object_pointer) && stays_in_unit es e a.1) is
        where
          of : (x : Bool) → (if x then None else Some a) ≡ Some b → DraftMeans c e b
          of true q = absurd (cc)
          of false q = same-or a b k q

      go : (p f : Bool) → Each (DraftMeans c e) (if p then filter_map unlike_this as' else (if f then filter_map (names_no_pointer es e) as' else as'))
      go true f = kept (DraftMeans c e) (DraftMeans c e) unlike_this unlike as' h
      go false true = kept (DraftMeans c e) (DraftMeans c e) (names_no_pointer es e) unnamed as' h
      go false false = h

  abbrev pub Says : ℕ × TreeValue → Type 0
  Says a = ValueMeans c e a.0 a.1

  settled-mean : (places : Goal → Option (ℕ × ℕ)) (a : ℕ × DraftValue) (b : ℕ × TreeValue) → DraftMeans c e a → settled places a ≡ Some b → Says b
  settled-mean places (name, done v) b h is = subst Says (ap of is) h
    where
      of : Option (ℕ × TreeValue) → ℕ × TreeValue
      of None = (name, v)
      of (Some x) = x
  settled-mean places (name, goes_to goal) b h is = go (places goal) is
    where
      of : ℕ × ℕ → Option (ℕ × TreeValue) → ℕ × TreeValue
      of p None = (name, Trees.entry p.0 p.1)
      of p (Some x) = x

      go : (o : Option (ℕ × ℕ)) → option_map (λ v. (name, v)) (option_map (λ (p : ℕ × ℕ). Trees.entry p.0 p.1) o) ≡ Some b → Says b
      go None q = absurd (cc)
      go (Some p) q = subst Says (ap (of p) q) tt

-- ---- the entry

pub entry-means : CompiledPartsAreWhole → (c : ExpressionSource) (e : Placed) → IsToldBounded c.told → is_wrapped c.told.output e ≡ false → (s : UnitSource) (big_endian : Bool) (places : Goal → Option (ℕ × ℕ)) → EntryMeans c e (settled_entry places (draft_told c s big_endian e))
unfolding attributes_made
entry-means law c e bounded plain s big_endian places = λ name v given.
    each-in (Says c e) (settled_entry places (draft_told c s big_endian e)).attributes (name, v)
    (order-each (Says c e) [] (filter_map (settled places) (draft_told c s big_endian e).attributes) tt
    (kept (DraftMeans c e) (Says c e) (settled places) (settled-mean c e places) (draft_told c s big_endian e).attributes
    (changed-mean c e (wrappers_of c).texts c.entries (attributes_made (rules_of_source c) s big_endian e)
    (both (DraftMeans c e) _ _ (both (DraftMeans c e) _ _ (based-mean c e c.told.output (e.entry.tag == DW_TAG_compile_unit) (range_attributes (lists_of c) c.functions e.entry) (bounds-mean c e c.functions (lists_of c) e.entry))
    (attributes-mean law c e bounded plain s [] e.entry.attributes (λ a i. i))) (endian-means c e big_endian)))))
    (contains-in _ (name, v) given)
