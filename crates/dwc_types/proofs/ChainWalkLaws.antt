-- The name of a chain of types, as it is followed from entry to entry.
use Rattle.std.proofs.Common.{◌≡◌, ℕ, refl, sym, ap, subst, ◌∙◌, List, [], ◌∷◌, ◌++◌, Bool, true, false, is_some, Option, Some, None, Result, Ok, Err, append_assoc, append-nil, inl, inr}
use Rattle.std.specs.Prelude.{◌==◌, ◌||◌, ◌⊎◌, ◌≢◌, if◌then◌else◌, option_map, codes}
use Rattle.std.specs.Option.{unwrap_or}
use Rattle.std.proofs.lemmas.Bool.{eq-eqb, eqb-true, ne_eqb}
use Rattle.dwc_base.specs.declared.constants.TheConstants.{DW_TAG_array_type, DW_TAG_const_type, DW_TAG_pointer_type, DW_TAG_reference_type}
use Rattle.dwc_base.specs.Reading.{◌>>=◌}
use Rattle.dwc_base.specs.Sections.{Fault}
use Rattle.dwc_rules.specs.Kept.{Placed}
use Rattle.dwc_rules.specs.Clones.{UnitSource}
use Rattle.dwc_rules.specs.TypeNames.{derived_name, name_of, type_name, type_of, unknown}
use Rattle.dwc_dwarf.specs.Values.{is_one_of}
use Rattle.dwc_rules.proofs.ForestLaws.{none_is}
use Rattle.dwc_rules.proofs.NameSteps.{if_unmet, name-next, name-start, name_from, name_next, with_tag, with_tags}
use Rattle.dwc_source.specs.declared.error.CloneError.{CloneError}
use Rattle.dwc_source.specs.declared.source.CloneSource.{CloneSource}
use Rattle.dwc_types.specs.declared.type_entry.TypeEntry.{TypeEntry}
use Rattle.dwc_types.specs.declared.known_type.DerivedType.{DerivedType}
use Rattle.dwc_types.specs.declared.known_type.TypeStep.TheVariants.{Derived}
use Rattle.dwc_types.specs.DerivedTypes.{met_in}
use Rattle.dwc_types.specs.KnownNames.{IsFresh}
use Rattle.dwc_types.specs.TypeReads.{EndsSo, IsRead}
use Rattle.dwc_source.specs.Sources.{IsEmitted, IsSource}
use Rattle.dwc_types.specs.TypeChains.{GivesRead, behind, behind_name, in_front, named_chain, type_found, type_view}
use Rattle.dwc_types.specs.TypeSteps.{GivesStep, IsOfType, ReadsStep}
use Rattle.dwc_types.proofs.TypeFoundLaws.{HasType, alike-type, has-type, no-type, one-entry}
use Rattle.dwc_types.proofs.TypeStepLaws.{gives-none, refused-as}

-- ---- the name by the tags

-- what stands in front of a name for a type of a tag
abbrev front_name : ℕ → List ℕ
front_name tag = if tag == DW_TAG_const_type then codes "const " else []

pub turned : (a b : ℕ) → (a == b) ≡ (b == a)
turned a b = go (a == b) (b == a) refl refl
  where
    go : (x y : Bool) → (a == b) ≡ x → (b == a) ≡ y → x ≡ y
    go true y is other = sym (eq-eqb b a (sym (eqb-true a b is))) ∙ other
    go false true is other = absurd (cc-false (sym is ∙ eq-eqb a b (sym (eqb-true b a other))))
      where
        cc-false : ◌≡◌ {A = Bool} false true → ⊥
        cc-false h = absurd (cc)
    go false false is other = refl

pub with-parts : (tag : ℕ) (name : List ℕ) → with_tag tag name ≡ front_name tag ++ (name ++ behind_name tag)
with-parts tag name = go (DW_TAG_const_type == tag) refl
  where
    chosen : Bool → Bool → Bool → Bool → Option (List ℕ → List ℕ)
    chosen a b c d = if a then Some (λ n. codes "const " ++ n) else (if b then Some (λ n. n ++ codes "*") else (if c then Some (λ n. n ++ codes "&") else (if d then Some (λ n. n ++ codes "[]") else None)))

    by : Option (List ℕ → List ℕ) → List ℕ
    by o = elim o [ None ↦ name | Some derived ↦ derived name ]

    spelt : Bool → Bool → Bool → Bool → List ℕ
    spelt a b c d = (if a then codes "const " else []) ++ (name ++ (if b then codes "*" else (if c then codes "&" else (if d then codes "[]" else []))))

    agree : (b c d : Bool) → by (chosen false b c d) ≡ spelt false b c d
    agree true c d = refl
    agree false true d = refl
    agree false false true = refl
    agree false false false = sym (append-nil name)

    go : (a : Bool) → (DW_TAG_const_type == tag) ≡ a → with_tag tag name ≡ front_name tag ++ (name ++ behind_name tag)
    go true is = subst (λ t. with_tag t name ≡ front_name t ++ (name ++ behind_name t)) (eqb-true DW_TAG_const_type tag is) (ap (λ xs. codes "const " ++ xs) (sym (append-nil name)))
    go false is =
        let p = DW_TAG_pointer_type == tag in
        let r = DW_TAG_reference_type == tag in
        let l = DW_TAG_array_type == tag in
        ap (λ a. by (chosen a p r l)) is
        ∙ agree p r l
        ∙ ap (λ a. spelt a p r l) (sym is ∙ turned DW_TAG_const_type tag)
        ∙ ap (λ b. spelt (tag == DW_TAG_const_type) b r l) (turned DW_TAG_pointer_type tag)
        ∙ ap (λ c. spelt (tag == DW_TAG_const_type) (tag == DW_TAG_pointer_type) c l) (turned DW_TAG_reference_type tag)
        ∙ ap (λ d. spelt (tag == DW_TAG_const_type) (tag == DW_TAG_pointer_type) (tag == DW_TAG_reference_type) d) (turned DW_TAG_array_type tag)

pub with-chain : (tags : List ℕ) (name : List ℕ) → with_tags tags name ≡ in_front tags ++ (name ++ behind tags)
with-chain [] name = sym (append-nil name)
with-chain (tag ∷ tags) name =
    ap (with_tag tag) (with-chain tags name)
    ∙ with-parts tag (in_front tags ++ (name ++ behind tags))
    ∙ ap (λ xs. front_name tag ++ xs) (append_assoc (in_front tags) (name ++ behind tags) (behind_name tag) ∙ ap (λ xs. in_front tags ++ xs) (append_assoc name (behind tags) (behind_name tag)))
    ∙ sym (append_assoc (front_name tag) (in_front tags) (name ++ (behind tags ++ behind_name tag)))

-- ---- offsets

one-behind : (path : List ℕ) (x offset : ℕ) → is_one_of (path ++ x ∷ []) offset ≡ (is_one_of path offset || (x == offset))
one-behind [] x offset = go (x == offset)
  where
    go : (b : Bool) → (b || false) ≡ b
    go true = refl
    go false = refl
one-behind (y ∷ path) x offset = go (y == offset) (one-behind path x offset)
  where
    go : (b : Bool) → is_one_of (path ++ x ∷ []) offset ≡ (is_one_of path offset || (x == offset)) → (b || is_one_of (path ++ x ∷ []) offset) ≡ ((b || is_one_of path offset) || (x == offset))
    go true is = refl
    go false is = is

-- ---- along a chain

-- Types were followed from an entry on, on the chain of a number: the last of them, and the offsets of all, which are those that are met; the
-- type that comes next; and the name of the entry's type by what follows.
pub record IsAlong (c : CloneSource) (s : UnitSource) (e : Placed) (walk : ℕ) (types : List DerivedType) (tags : List ℕ) (next : Option TypeEntry) : Type 0 where
  pub last : Placed
  pub path : List ℕ
  pub emitted : IsEmitted c s last
  pub marks : (offset : ℕ) → met_in walk types offset ≡ is_one_of path offset
  pub type_is : type_found c last.entry ≡ option_map type_view next
  pub name : type_name s.texts s.entries e ≡ name_from s.texts s.entries (path ++ e.entry.offset ∷ []) tags last

pub along-start : (c : CloneSource) (s : UnitSource) (e : Placed) (walk : ℕ) (types : List DerivedType) (first : TypeEntry) → IsOfType c s e first → IsFresh walk types → IsAlong c s e walk types [] (Some first)
along-start c s e walk types first of fresh = record { last = e; path = []; emitted = of.emitted; marks = fresh; type_is = of.type_is; name = name-start s.texts s.entries e }

-- So it is where types are added that were met on no chain.
pub along-same : (c : CloneSource) (s : UnitSource) (e : Placed) (walk : ℕ) (types more : List DerivedType) (tags : List ℕ) (next : Option TypeEntry) → ((offset : ℕ) → met_in walk more offset ≡ met_in walk types offset) → IsAlong c s e walk types tags next → IsAlong c s e walk more tags next
along-same c s e walk types more tags next same a = record { last = a.last; path = a.path; emitted = a.emitted; marks = λ offset. same offset ∙ a.marks offset; type_is = a.type_is; name = a.name }

-- what follows from a type on
abbrev others : UnitSource → Placed → List ℕ → List ℕ → Placed → Result (List ℕ) Fault
others s e path tags f = name_from s.texts s.entries (f.entry.offset ∷ (path ++ e.entry.offset ∷ [])) (tags ++ f.entry.tag ∷ []) f

-- the name by the next type, by what that has
abbrev by_next : List ℕ → Placed → Result (List ℕ) Fault → Result (Option (List ℕ)) Fault → Result (List ℕ) Fault
by_next tags f more r = r >>= λ name. elim name [ Some n ↦ Ok (with_tags tags n) | None ↦ elim (derived_name f.entry.tag) [ None ↦ Ok (with_tags tags unknown) | Some derived ↦ more ] ]

-- The next type is at an offset, and tells the name.
pub record Opens (s : UnitSource) (c : CloneSource) (e : Placed) (path tags : List ℕ) (offset : ℕ) : Type 0 where
  pub found : Placed
  pub at : found.entry.offset ≡ offset
  pub emitted : IsEmitted c s found
  pub name : type_name s.texts s.entries e ≡ by_next tags found (others s e path tags found) (name_of s.texts found)

-- An entry is met again.
pub record IsAgain (s : UnitSource) (c : CloneSource) (e : Placed) (tags : List ℕ) (offset : ℕ) : Type 0 where
  pub found : Placed
  pub at : found.entry.offset ≡ offset
  pub emitted : IsEmitted c s found
  pub name : type_name s.texts s.entries e ≡ Ok (with_tags tags unknown)

module _ (c : CloneSource) (number : ℕ) (s : UnitSource) (e : Placed) (walk : ℕ) (types : List DerivedType) (tags : List ℕ) (source : IsSource c number s) where
  abbrev all_of : List ℕ → List ℕ
  all_of path = path ++ e.entry.offset ∷ []

  by_type : (next : Option TypeEntry) (a : IsAlong c s e walk types tags next) (o : Option Placed) → type_of s.entries a.last ≡ o → type_name s.texts s.entries e ≡ name_next s.texts tags (if_unmet (all_of a.path) o) (others s e a.path tags)
  by_type next a o is = a.name ∙ name-next s.texts s.entries (all_of a.path) tags a.last ∙ ap (λ x. name_next s.texts tags (if_unmet (all_of a.path) x) (others s e a.path tags)) is

  -- Where there is no further type, the name is unknown.
  pub no-further : IsAlong c s e walk types tags None → type_name s.texts s.entries e ≡ Ok (with_tags tags unknown)
  no-further a = by_type None a None (no-type c number s a.last source a.emitted a.type_is)

  module _ (t : TypeEntry) (a : IsAlong c s e walk types tags (Some t)) where
    next : HasType c s a.last t.offset
    next = has-type c number s a.last (type_view t) source a.emitted a.type_is

    -- The next type was not met.
    pub opened : is_one_of (all_of a.path) t.offset ≡ false → Opens s c e a.path tags t.offset
    opened unmet = record {
      found = next.found;
      at = next.at;
      emitted = next.emitted;
      name = by_type (Some t) a (Some next.found) next.is ∙ ap (λ b. name_next s.texts tags (if b then None else Some next.found) (others s e a.path tags)) (ap (is_one_of (all_of a.path)) next.at ∙ unmet);
    }

    -- It was.
    pub again : is_one_of (all_of a.path) t.offset ≡ true → IsAgain s c e tags t.offset
    again met_is = record {
      found = next.found;
      at = next.at;
      emitted = next.emitted;
      name = by_type (Some t) a (Some next.found) next.is ∙ ap (λ b. name_next s.texts tags (if b then None else Some next.found) (others s e a.path tags)) (ap (is_one_of (all_of a.path)) next.at ∙ met_is);
    }

-- ---- what the next type says

module _ (c : CloneSource) (s : UnitSource) (e : Placed) (path tags : List ℕ) (offset : ℕ) (o : Opens s c e path tags offset) where
  abbrev more : Result (List ℕ) Fault
  more = others s e path tags o.found

  pub opens-named : (n : List ℕ) → name_of s.texts o.found ≡ Ok (Some n) → type_name s.texts s.entries e ≡ Ok (with_tags tags n)
  opens-named n is = o.name ∙ ap (by_next tags o.found more) is

  unnamed : name_of s.texts o.found ≡ Ok None → type_name s.texts s.entries e ≡ (elim (derived_name o.found.entry.tag) [ None ↦ Ok (with_tags tags unknown) | Some derived ↦ more ])
  unnamed is = o.name ∙ ap (by_next tags o.found more) is

  pub opens-last : name_of s.texts o.found ≡ Ok None → derived_name o.found.entry.tag ≡ None → type_name s.texts s.entries e ≡ Ok (with_tags tags unknown)
  opens-last is none = unnamed is ∙ ap (λ (d : Option (List ℕ → List ℕ)). elim d [ None ↦ Ok (with_tags tags unknown) | Some derived ↦ more ]) none

  pub opens-derived : name_of s.texts o.found ≡ Ok None → is_some (derived_name o.found.entry.tag) ≡ true → type_name s.texts s.entries e ≡ more
  opens-derived is derived = unnamed is ∙ go (derived_name o.found.entry.tag) derived
    where
      go : (d : Option (List ℕ → List ℕ)) → is_some d ≡ true → (elim d [ None ↦ Ok (with_tags tags unknown) | Some derived ↦ more ]) ≡ more
      go None is = absurd (cc)
      go (Some g) is = refl

  pub opens-refused : (fault : Fault) → name_of s.texts o.found ≡ Err fault → type_name s.texts s.entries e ≡ Err fault
  opens-refused fault is = o.name ∙ ap (by_next tags o.found more) is

-- ---- the end of a chain

module _ (c : CloneSource) (number : ℕ) (s : UnitSource) (e : Placed) (walk : ℕ) (types : List DerivedType) (tags : List ℕ) (source : IsSource c number s) where
  pub end-named : IsAlong c s e walk types tags None → type_name s.texts s.entries e ≡ Ok (named_chain tags unknown)
  end-named a = no-further c number s e walk types tags source a ∙ ap (λ n. Ok n) (with-chain tags unknown)

  module _ (t : TypeEntry) (a : IsAlong c s e walk types tags (Some t)) where
    met-again : is_one_of (a.path ++ e.entry.offset ∷ []) t.offset ≡ true → type_name s.texts s.entries e ≡ Ok (named_chain tags unknown)
    met-again there = (again c number s e walk types tags source t a there).name ∙ ap (λ n. Ok n) (with-chain tags unknown)

    -- The next type is the entry itself.
    pub own-named : t.offset ≡ e.entry.offset → type_name s.texts s.entries e ≡ Ok (named_chain tags unknown)
    own-named own = met-again (one-behind a.path e.entry.offset t.offset ∙ ap (λ b. is_one_of a.path t.offset || b) (eq-eqb e.entry.offset t.offset (sym own)) ∙ or-true (is_one_of a.path t.offset))
      where
        or-true : (b : Bool) → (b || true) ≡ true
        or-true true = refl
        or-true false = refl

    -- The next type was met.
    pub met-named : met_in walk types t.offset ≡ true → type_name s.texts s.entries e ≡ Ok (named_chain tags unknown)
    met-named there = met-again (one-behind a.path e.entry.offset t.offset ∙ ap (λ b. b || (e.entry.offset == t.offset)) (sym (a.marks t.offset) ∙ there))

    -- It was not.
    module _ (other : t.offset ≡ e.entry.offset → ⊥) (absent : met_in walk types t.offset ≡ false) where
      opens : Opens s c e a.path tags t.offset
      opens = opened c number s e walk types tags source t a (one-behind a.path e.entry.offset t.offset ∙ ap (λ b. b || (e.entry.offset == t.offset)) (sym (a.marks t.offset) ∙ absent) ∙ ne_eqb e.entry.offset t.offset (λ own. other (sym own)))

      -- It ends the chain.
      pub last-named : (name : List ℕ) → EndsSo c s t.offset name → type_name s.texts s.entries e ≡ Ok (named_chain tags name)
      last-named name ends = go (ends number opens.found source opens.emitted opens.at) ∙ ap (λ n. Ok n) (with-chain tags name)
        where
          go : (name_of s.texts opens.found ≡ Ok (Some name)) ⊎ ((name_of s.texts opens.found ≡ Ok None) × (derived_name opens.found.entry.tag ≡ None) × (name ≡ unknown)) → type_name s.texts s.entries e ≡ Ok (with_tags tags name)
          go (inl is) = opens-named c s e a.path tags t.offset opens name is
          go (inr is) = opens-last c s e a.path tags t.offset opens is.0 is.1 ∙ ap (λ n. Ok (with_tags tags n)) (sym is.2)

      -- It cannot be read.
      pub refused-named : (error : CloneError) → ReadsStep c t.offset (Err error) → {X : Type 0} (view : X → List ℕ) → GivesRead view (type_name s.texts s.entries e) (Err error)
      refused-named error step view =
          refused-as {X = Option (List ℕ)} (λ name. name) view (name_of s.texts opens.found) (type_name s.texts s.entries e) error
          (λ n is none. gives-none view (type_name s.texts s.entries e) error none)
          (λ fault is. opens-refused c s e a.path tags t.offset opens fault is)
          (step number s opens.found source opens.emitted opens.at)

      -- It is derived from another.
      pub along-more : (after : List DerivedType) (tag : ℕ) (base : Option TypeEntry) → IsRead c s t.offset tag base → ((offset : ℕ) → met_in walk after offset ≡ ((t.offset == offset) || met_in walk types offset)) → IsAlong c s e walk after (tags ++ tag ∷ []) base
      along-more after tag base read marked =
          let g = read number opens.found source opens.emitted opens.at in
          record {
            last = opens.found;
            path = opens.found.entry.offset ∷ a.path;
            emitted = opens.emitted;
            marks = λ q. marked q ∙ ap (λ n. (n == q) || met_in walk types q) (sym opens.at) ∙ ap (λ b. (opens.found.entry.offset == q) || b) (a.marks q);
            type_is = g.3;
            name =
                opens-derived c s e a.path tags t.offset opens g.0 g.2
                ∙ ap (λ n. name_from s.texts s.entries (opens.found.entry.offset ∷ (a.path ++ e.entry.offset ∷ [])) (tags ++ n ∷ []) opens.found) (sym g.1);
          }

-- ---- the other entries of the first type

-- An entry of the first type is the last one that was met, so that the type that comes next is the first, which was met.
pub record IsTurned (e : Placed) (walk : ℕ) (types : List DerivedType) (next : Option TypeEntry) (last : ℕ) : Type 0 where
  pub type : TypeEntry
  pub is : next ≡ Some type
  pub met_is : met_in walk types type.offset ≡ true
  pub last_is : e.entry.offset ≡ last

-- An entry in the output is at an offset.
record HasFound (c : CloneSource) (s : UnitSource) (offset : ℕ) : Type 0 where
  pub found : Placed
  pub at : found.entry.offset ≡ offset
  pub emitted : IsEmitted c s found

-- For an entry of the first type the types are followed, or it is the last one that was met.
abbrev pub IsOther : CloneSource → UnitSource → Placed → ℕ → List DerivedType → List ℕ → Option TypeEntry → ℕ → Type 0
IsOther c s e walk types tags next last = IsAlong c s e walk types tags next ⊎ IsTurned e walk types next last

-- The first type comes next, or was met.
abbrev pub IsBegun : TypeEntry → ℕ → List DerivedType → Option TypeEntry → Type 0
IsBegun first walk types next = (next ≡ Some first) ⊎ (met_in walk types first.offset ≡ true)

pub begun-same : (first : TypeEntry) (walk : ℕ) (types after : List DerivedType) (onward : Option TypeEntry) → ((offset : ℕ) → met_in walk after offset ≡ met_in walk types offset) → IsBegun first walk types onward → IsBegun first walk after onward
begun-same first walk types after onward same (inl is) = inl is
begun-same first walk types after onward same (inr met) = inr (same first.offset ∙ met)

-- It was met once the next one is.
pub first-met : (walk : ℕ) (types : List DerivedType) (t first : TypeEntry) (after : List DerivedType) → ((offset : ℕ) → met_in walk after offset ≡ ((t.offset == offset) || met_in walk types offset)) → IsBegun first walk types (Some t) → met_in walk after first.offset ≡ true
first-met walk types t first after marked begun = marked first.offset ∙ go begun
  where
    go : IsBegun first walk types (Some t) → ((t.offset == first.offset) || met_in walk types first.offset) ≡ true
    go (inl same) = ap (λ b. b || met_in walk types first.offset) (eq-eqb t.offset first.offset (ap (λ (o : Option TypeEntry). (unwrap_or o t).offset) same))
    go (inr met) = ap (λ b. (t.offset == first.offset) || b) met ∙ or-true (t.offset == first.offset)
      where
        or-true : (b : Bool) → (b || true) ≡ true
        or-true true = refl
        or-true false = refl

true_false : ◌≡◌ {A = Bool} true false → ⊥
true_false h = absurd (cc)

module _ (c : CloneSource) (number : ℕ) (s : UnitSource) (e : Placed) (walk : ℕ) (types : List DerivedType) (tags : List ℕ) (last : ℕ) (source : IsSource c number s) where
  pub other-same : (after : List DerivedType) (onward : Option TypeEntry) → ((offset : ℕ) → met_in walk after offset ≡ met_in walk types offset) → IsOther c s e walk types tags onward last → IsOther c s e walk after tags onward last
  other-same after onward same (inl a) = inl (along-same c s e walk types after tags onward same a)
  other-same after onward same (inr x) = inr (record { type = x.type; is = x.is; met_is = same x.type.offset ∙ x.met_is; last_is = x.last_is })

  pub other-end : IsOther c s e walk types tags None last → type_name s.texts s.entries e ≡ Ok (named_chain tags unknown)
  other-end (inl a) = end-named c number s e walk types tags source a
  other-end (inr x) = absurd (none_is x.type x.is)

  module _ (t : TypeEntry) where
    pub other-met : met_in walk types t.offset ≡ true → e.entry.offset ≢ last → IsOther c s e walk types tags (Some t) last → type_name s.texts s.entries e ≡ Ok (named_chain tags unknown)
    other-met there apart (inl a) = met-named c number s e walk types tags source t a there
    other-met there apart (inr x) = absurd (apart x.last_is)

    module _ (absent : met_in walk types t.offset ≡ false) where
      unturned : IsTurned e walk types (Some t) last → ⊥
      unturned x = true_false (sym x.met_is ∙ ap (met_in walk types) (ap (λ (o : Option TypeEntry). (unwrap_or o t).offset) (sym x.is)) ∙ absent)

      pub other-last : (name : List ℕ) → EndsSo c s t.offset name → e.entry.offset ≢ t.offset → IsOther c s e walk types tags (Some t) last → type_name s.texts s.entries e ≡ Ok (named_chain tags name)
      other-last name ends apart (inl a) = last-named c number s e walk types tags source t a (λ own. apart (sym own)) absent name ends
      other-last name ends apart (inr x) = absurd (unturned x)

      module _ (first : TypeEntry) (after : List DerivedType) (tag : ℕ) (base : Option TypeEntry) (begun : IsBegun first walk types (Some t)) (marked : (offset : ℕ) → met_in walk after offset ≡ ((t.offset == offset) || met_in walk types offset)) where
        turned-at : IsOfType c s e first → IsRead c s t.offset tag base → e.entry.offset ≡ t.offset → HasFound c s t.offset → IsTurned e walk after base t.offset
        turned-at of read same h = go base (sym g.3 ∙ sym (alike-type c e.entry h.found.entry (one-entry c number s e h.found source of.emitted h.emitted (same ∙ sym h.at))) ∙ of.type_is)
          where
            g : GivesStep c s h.found (Ok (Derived tag base))
            g = read number h.found source h.emitted h.at

            go : (b : Option TypeEntry) → option_map type_view b ≡ Some (type_view first) → IsTurned e walk after b t.offset
            go None is = absurd (none_is (type_view first) is)
            go (Some b) is =
                let at : b.offset ≡ first.offset = ap (λ (o : Option (ℕ × ℕ)). (unwrap_or o (type_view b)).0) is in
                record { type = b; is = refl; met_is = ap (met_in walk after) at ∙ first-met walk types t first after marked begun; last_is = same }

        pub other-more : IsOfType c s e first → IsRead c s t.offset tag base → IsOther c s e walk types tags (Some t) last → IsOther c s e walk after (tags ++ tag ∷ []) base t.offset
        other-more of read (inr x) = absurd (unturned x)
        other-more of read (inl a) = go (t.offset == e.entry.offset) refl
          where
            h : HasType c s a.last t.offset
            h = has-type c number s a.last (type_view t) source a.emitted a.type_is

            found_at : HasFound c s t.offset
            found_at = record { found = h.found; at = h.at; emitted = h.emitted }

            go : (b : Bool) → (t.offset == e.entry.offset) ≡ b → IsOther c s e walk after (tags ++ tag ∷ []) base t.offset
            go true same = inr (turned-at of read (sym (eqb-true t.offset e.entry.offset same)) found_at)
            go false other = inl (along-more c number s e walk types tags source t a (λ own. true_false (sym (eq-eqb t.offset e.entry.offset own) ∙ other)) absent after tag base read marked)

-- ---- an entry without a type

-- Its type has no name.
pub untyped : (c : CloneSource) (number : ℕ) (s : UnitSource) (e : Placed) → IsSource c number s → IsEmitted c s e → type_found c e.entry ≡ None → type_name s.texts s.entries e ≡ Ok unknown
untyped c number s e source emitted none =
    name-start s.texts s.entries e
    ∙ name-next s.texts s.entries (e.entry.offset ∷ []) [] e
    ∙ ap (λ o. name_next s.texts [] (if_unmet (e.entry.offset ∷ []) o) (λ f. name_from s.texts s.entries (f.entry.offset ∷ (e.entry.offset ∷ [])) ([] ++ f.entry.tag ∷ []) f)) (no-type c number s e source emitted none)
