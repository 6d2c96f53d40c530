-- What is known by the keys of types.
use Rattle.std.proofs.Common.{◌≡◌, ℕ, suc, ◌+◌, ◌-◌, ◌<◌, ◌≤◌, refl, sym, ap, subst, ◌∙◌, arith, List, [], ◌∷◌, ◌++◌, Bool, true, false, Option, Some, None, Result, Ok, Err, append_assoc, append-nil}
use Rattle.std.specs.Prelude.{◌==◌, ◌≢◌, T, cond, codes, if◌then◌else◌, nat_lt, option_map, IfSome, IfOk}
use Rattle.std.specs.declared.cmp.Ordering.{Ordering}
use Rattle.std.specs.declared.cmp.Ordering.TheVariants.{Less, Equal, Greater}
use Rattle.std.specs.Ordering.{is_eq, nat_cmp, ordering_then}
use Rattle.std.specs.BTreeMap.{BTreeMap, get}
use Rattle.std.specs.FinMap.{IsAntisymmetric, nat_cmp-IsAntisymmetric}
use Rattle.std.specs.Map.{lookup}
use Rattle.std.proofs.lemmas.Bool.{le-ltb, lt-ltb}
use Rattle.dwc_base.specs.declared.constants.TheConstants.{DW_TAG_const_type, DW_TAG_pointer_type}
use Rattle.dwc_base.specs.SortedEntries.{pair_cmp}
use Rattle.dwc_rules.specs.Clones.{UnitSource}
use Rattle.dwc_rules.specs.TypeNames.{unknown}
use Rattle.dwc_rules.specs.Wrappers.{wrapper_name}
use Rattle.dwc_unit.specs.declared.strings.StringId.{StringId}
use Rattle.dwc_source.specs.declared.source.CloneSource.{CloneSource}
use Rattle.dwc_source.specs.KnownTexts.{IsNumbered}
use Rattle.dwc_source.specs.MadeValues.{Grows}
use Rattle.dwc_source.proofs.KnownLaws.{numbered-grown}
use Rattle.dwc_types.specs.declared.type_entry.TypeEntry.{TypeEntry}
use Rattle.dwc_types.specs.declared.known_type.DerivedType.{DerivedType}
use Rattle.dwc_types.specs.declared.type_key.TypeKey.{TypeKey}
use Rattle.dwc_types.specs.declared.type_key.TypeKeys.{TypeKeys}
use Rattle.dwc_types.specs.KeyedTypes.{AreKeyNames, EndsWayAt, EndsWayKeyed, HasCore, HasCores, HasText, IsBehind, IsKeyBehind, IsKeyed, IsKeyName, IsKeyOf, IsWay, KnowsKeys, NamesNext, consts_front, key_text, over_name}
use Rattle.dwc_types.specs.TypeChains.{behind_name, type_view}
use Rattle.dwc_types.specs.TypeReads.{EndsSo, IsRead}
use Rattle.dwc_types.proofs.KeyedTypeLaws.{names-end, names-none, names-over}

-- ---- maps

pairs-apart : IsAntisymmetric pair_cmp
pairs-apart x y e = go (nat_cmp x.0 y.0) refl e
  where
    go : (r : Ordering) → nat_cmp x.0 y.0 ≡ r → ordering_then r (nat_cmp x.1 y.1) ≡ Equal → x ≡ y
    go Less p e = absurd (subst (λ r. T (is_eq r)) (sym e) tt)
    go Equal p e = λ i. (nat_cmp-IsAntisymmetric x.0 y.0 p i, nat_cmp-IsAntisymmetric x.1 y.1 e i)
    go Greater p e = absurd (subst (λ r. T (is_eq r)) (sym e) tt)

-- What holds of each item of a map holds of each where one more is put into it.
each-more : {K X : Type 0} (cmp : K → K → Ordering) → IsAntisymmetric cmp → (P : K → X → Type 0) (old new : BTreeMap K X) (k : K) (v : X) → ((q : K) → get cmp new q ≡ cond (is_eq (cmp k q)) (Some v) (get cmp old q)) → P k v → ((q : K) → IfSome (get cmp old q) (P q))
    → (q : K) → IfSome (get cmp new q) (P q)
each-more {K} {X} cmp apart P old new k v puts here each q = subst (λ o. IfSome o (P q)) (sym (puts q)) (go (cmp k q) refl)
  where
    go : (o : Ordering) → cmp k q ≡ o → IfSome (cond (is_eq o) (Some v) (get cmp old q)) (P q)
    go Less is = each q
    go Greater is = each q
    go Equal is = subst (λ r. P r v) (apart k q is) here

pub if-so : {X : Type 0} (P Q : X → Type 0) (o : Option X) → ((x : X) → P x → Q x) → IfSome o P → IfSome o Q
if-so P Q None more is = tt
if-so P Q (Some x) more is = more x is

pub at-some : {X : Type 0} (P : X → Type 0) (o : Option X) (x : X) → o ≡ Some x → IfSome o P → P x
at-some P o x at is = subst (λ q. IfSome q P) at is

-- ---- texts of cores that are more

module _ (c : CloneSource) (s : UnitSource) (texts : List (List ℕ)) (text more : ℕ → List ℕ) (count other : ℕ) (same : (n : ℕ) → n < count → more n ≡ text n) (grown : count ≤ other) where
  keyed-grown : (offset : ℕ) (key : TypeKey) → IsKeyed c s text count offset key → IsKeyed c s more other offset key
  keyed-grown offset key k = record {
    below = omega (arith, k.below, grown);
    named = λ id. subst (λ t. NamesNext c s (Some (offset, id)) key.but (consts_front key.consts ++ t)) (sym (same key.core k.below)) (k.named id);
  }

  behind-grown : (core tag found : ℕ) → IsBehind text count core tag found → IsBehind more other core tag found
  behind-grown core tag found b = record {
    below = omega (arith, b.below, grown);
    within = omega (arith, b.within, grown);
    text_is = same found b.within ∙ b.text_is ∙ ap (λ t. t ++ behind_name tag) (sym (same core b.below));
  }

  name-grown : (pointer : Bool) (core consts : ℕ) (id : StringId) → IsKeyName texts text count pointer core consts id → IsKeyName texts more other pointer core consts id
  name-grown pointer core consts id k = record {
    below = omega (arith, k.below, grown);
    number = λ tag is. subst (λ t. IsNumbered texts (wrapper_name tag (consts_front consts ++ t)) id) (sym (same core k.below)) (k.number tag is);
  }

  key-names-grown : (pointer : Bool) (names : BTreeMap (ℕ × ℕ) StringId) → AreKeyNames texts text count pointer names → AreKeyNames texts more other pointer names
  key-names-grown pointer names are q = if-so (λ id. IsKeyName texts text count pointer q.0 q.1 id) (λ id. IsKeyName texts more other pointer q.0 q.1 id) (get pair_cmp names q) (λ id k. name-grown pointer q.0 q.1 id k) (are q)

-- ---- cores that are more

module _ (c : CloneSource) (s : UnitSource) (texts : List (List ℕ)) (old new : TypeKeys) (many : ℕ) (types : new.types ≡ old.types) (cores : new.cores ≡ old.cores) (count : new.count ≡ old.count + many) (pointers : new.pointers ≡ old.pointers) (references : new.references ≡ old.references) where
  pub cores-fresh : (known : KnowsKeys c s texts old) (name : ℕ → List ℕ) → HasCores c s texts known.text old.count new old.count many name
  cores-fresh known name = record {
    knows = record {
      text = more;
      one = omega (arith, known.one, count);
      first = same 0 known.one ∙ known.first;
      types = λ offset. subst (λ m. IfSome (get nat_cmp m offset) (λ key. IsKeyed c s more new.count offset key)) (sym types)
          (if-so (λ key. IsKeyed c s known.text old.count offset key) (λ key. IsKeyed c s more new.count offset key) (get nat_cmp old.types offset) (λ key k. keyed-grown c s texts known.text more old.count new.count same grown offset key k) (known.types offset));
      cores = λ q. subst (λ m. IfSome (get pair_cmp m q) (λ found. IsBehind more new.count q.0 q.1 found)) (sym cores)
          (if-so (λ found. IsBehind known.text old.count q.0 q.1 found) (λ found. IsBehind more new.count q.0 q.1 found) (get pair_cmp old.cores q) (λ found b. behind-grown c s texts known.text more old.count new.count same grown q.0 q.1 found b) (known.cores q));
      pointers = subst (AreKeyNames texts more new.count true) (sym pointers) (key-names-grown c s texts known.text more old.count new.count same grown true old.pointers known.pointers);
      references = subst (AreKeyNames texts more new.count false) (sym references) (key-names-grown c s texts known.text more old.count new.count same grown false old.references known.references);
    };
    within = omega (arith, count);
    is = λ j below. ap (λ b. if b then known.text (old.count + j) else name ((old.count + j) - old.count)) (le-ltb (old.count + j) old.count (omega arith)) ∙ ap name (shift old.count j);
    grown = grown;
    same = same;
  }
    where
      more : ℕ → List ℕ
      more n = if nat_lt n old.count then known.text n else name (n - old.count)

      shift : (a j : ℕ) → (a + j) - a ≡ j
      shift a j = omega arith

      same : (n : ℕ) → n < old.count → more n ≡ known.text n
      same n below = ap (λ b. if b then known.text n else name (n - old.count)) (lt-ltb n old.count below)

      grown : old.count ≤ new.count
      grown = omega (arith, count)

-- One core.
one-core : (c : CloneSource) (s : UnitSource) (texts : List (List ℕ)) (before : ℕ → List ℕ) (count : ℕ) (keys : TypeKeys) (core : ℕ) (name : List ℕ) → HasCores c s texts before count keys core 1 (λ j. name) → HasCore c s texts before count keys core name
one-core c s texts before count keys core name h = record { knows = h.knows; below = omega (arith, h.within); is = ap h.knows.text none ∙ h.is 0 (omega arith); grown = h.grown; same = h.same }
  where
    none : core ≡ core + 0
    none = omega arith

pub one-core-answer : {E : Type 0} (c : CloneSource) (s : UnitSource) (texts : List (List ℕ)) (before : ℕ → List ℕ) (count : ℕ) (keys : TypeKeys) (name : List ℕ) (r : Result ℕ E) → IfOk r (λ first. HasCores c s texts before count keys first 1 (λ j. name)) → IfOk r (λ core. HasCore c s texts before count keys core name)
one-core-answer c s texts before count keys name (Ok core) h = one-core c s texts before count keys core name h
one-core-answer c s texts before count keys name (Err e) h = tt

-- ---- keys that are kept

module _ (c : CloneSource) (s : UnitSource) (texts : List (List ℕ)) (old new : TypeKeys) (count : new.count ≡ old.count) where
  -- The key of a type is kept.
  module _ (offset : ℕ) (key : TypeKey) (puts : (q : ℕ) → get nat_cmp new.types q ≡ cond (is_eq (nat_cmp offset q)) (Some key) (get nat_cmp old.types q)) (cores : new.cores ≡ old.cores) (pointers : new.pointers ≡ old.pointers) (references : new.references ≡ old.references) where
    key-kept : (known : KnowsKeys c s texts old) → IsKeyed c s known.text old.count offset key → KnowsKeys c s texts new
    key-kept known keyed = record {
      text = known.text;
      one = subst (λ n. 0 < n) (sym count) known.one;
      first = known.first;
      types = subst (λ n. (q : ℕ) → IfSome (get nat_cmp new.types q) (λ k. IsKeyed c s known.text n q k)) (sym count) (each-more nat_cmp nat_cmp-IsAntisymmetric (λ q k. IsKeyed c s known.text old.count q k) old.types new.types offset key puts keyed known.types);
      cores = λ q. subst (λ m. IfSome (get pair_cmp m q) (λ found. IsBehind known.text new.count q.0 q.1 found)) (sym cores) (subst (λ n. IfSome (get pair_cmp old.cores q) (λ found. IsBehind known.text n q.0 q.1 found)) (sym count) (known.cores q));
      pointers = subst (AreKeyNames texts known.text new.count true) (sym pointers) (subst (λ n. AreKeyNames texts known.text n true old.pointers) (sym count) known.pointers);
      references = subst (AreKeyNames texts known.text new.count false) (sym references) (subst (λ n. AreKeyNames texts known.text n false old.references) (sym count) known.references);
    }

    is-keyed : (known : KnowsKeys c s texts old) → key.core < old.count → ((id : ℕ) → NamesNext c s (Some (offset, id)) key.but (key_text known.text key)) → IsKeyed c s known.text old.count offset key
    is-keyed known low each = record { below = low; named = each }

    -- So it is that of what goes to the type.
    key-of : (known : KnowsKeys c s texts old) → key.core < old.count → ((id : ℕ) → NamesNext c s (Some (offset, id)) key.but (key_text known.text key)) → (next : TypeEntry) → next.offset ≡ offset → IsKeyOf c s texts new (Some next) key
    unfolding key-kept
    key-of known low each next at = record {
      knows = key-kept known (is-keyed known low each);
      below = subst (λ n. key.core < n) (sym count) low;
      named = subst (λ n. NamesNext c s (Some (n, next.id.index)) key.but (key_text known.text key)) (sym at) (each next.id.index);
    }

    -- A type that ends a chain.
    pub end-kept : (before : ℕ → List ℕ) (least : ℕ) (name : List ℕ) → key.consts ≡ 0 → key.but ≡ offset → EndsSo c s offset name → HasCore c s texts before least old key.core name → (next : TypeEntry) → next.offset ≡ offset → IsKeyOf c s texts new (Some next) key
    end-kept before least name none but ends h next at =
        key-of h.knows h.below
        (λ id. subst (λ b. NamesNext c s (Some (offset, id)) b (key_text h.knows.text key)) (sym but)
        (subst (NamesNext c s (Some (offset, id)) offset) (sym (ap (λ n. consts_front n ++ h.knows.text key.core) none ∙ h.is)) (names-end c s offset name id ends)))
        next at

    -- A type that is derived from another.
    pub over-kept : (tag but : ℕ) (base : Option TypeEntry) (name : List ℕ) → offset ≢ but → key.but ≡ but → IsRead c s offset tag base → NamesNext c s (option_map type_view base) but name → HasText c s texts old key (over_name tag name) → (next : TypeEntry) → next.offset ≡ offset → IsKeyOf c s texts new (Some next) key
    over-kept tag but base name apart but_is read named h next at =
        key-of h.knows h.below
        (λ id. subst (λ b. NamesNext c s (Some (offset, id)) b (key_text h.knows.text key)) (sym but_is)
        (subst (NamesNext c s (Some (offset, id)) but) (sym h.is) (names-over c s offset tag id but base name apart read named)))
        next at

    -- A type whose core is one of some that are new.
    pub core-type-kept : (before : ℕ → List ℕ) (least first many j : ℕ) (name : ℕ → List ℕ) → HasCores c s texts before least old first many name → j < many → key.core ≡ first + j → ((id : ℕ) → NamesNext c s (Some (offset, id)) key.but (consts_front key.consts ++ name j)) → HasCores c s texts before least new first many name
    unfolding key-kept
    core-type-kept before least first many j name h low core named =
        let below : key.core < old.count = omega (arith, core, low, h.within) in
        record {
          knows = key-kept h.knows (is-keyed h.knows below (λ id. subst (λ t. NamesNext c s (Some (offset, id)) key.but (consts_front key.consts ++ t)) (sym (h.is j low) ∙ ap h.knows.text (sym core)) (named id)));
          within = subst (λ n. first + many ≤ n) (sym count) h.within;
          is = h.is;
          grown = subst (λ n. least ≤ n) (sym count) h.grown;
          same = h.same;
        }

  -- A core is noted.
  pub core-kept : (core tag found : ℕ) → ((q : ℕ × ℕ) → get pair_cmp new.cores q ≡ cond (is_eq (pair_cmp (core, tag) q)) (Some found) (get pair_cmp old.cores q)) → new.types ≡ old.types → new.pointers ≡ old.pointers → new.references ≡ old.references
      → (before : ℕ → List ℕ) (least : ℕ) → core < least → HasCore c s texts before least old found (before core ++ behind_name tag) → HasCore c s texts before least new found (before core ++ behind_name tag)
  core-kept core tag found puts types pointers references before least below h = record {
    knows = record {
      text = known.text;
      one = subst (λ n. 0 < n) (sym count) known.one;
      first = known.first;
      types = λ q. subst (λ m. IfSome (get nat_cmp m q) (λ k. IsKeyed c s known.text new.count q k)) (sym types) (subst (λ n. IfSome (get nat_cmp old.types q) (λ k. IsKeyed c s known.text n q k)) (sym count) (known.types q));
      cores = subst (λ n. (q : ℕ × ℕ) → IfSome (get pair_cmp new.cores q) (λ x. IsBehind known.text n q.0 q.1 x)) (sym count)
          (each-more pair_cmp pairs-apart (λ q x. IsBehind known.text old.count q.0 q.1 x) old.cores new.cores (core, tag) found puts (record { below = omega (arith, below, h.grown); within = h.below; text_is = h.is ∙ ap (λ t. t ++ behind_name tag) (sym (h.same core below)) }) known.cores);
      pointers = subst (AreKeyNames texts known.text new.count true) (sym pointers) (subst (λ n. AreKeyNames texts known.text n true old.pointers) (sym count) known.pointers);
      references = subst (AreKeyNames texts known.text new.count false) (sym references) (subst (λ n. AreKeyNames texts known.text n false old.references) (sym count) known.references);
    };
    below = subst (λ n. found < n) (sym count) h.below;
    is = h.is;
    grown = subst (λ n. least ≤ n) (sym count) h.grown;
    same = h.same;
  }
    where
      known : KnowsKeys c s texts old
      known = h.knows

  module _ (types : new.types ≡ old.types) (cores : new.cores ≡ old.cores) (known : KnowsKeys c s texts old) (key : TypeKey) (tag : ℕ) (id : StringId) (below : key.core < old.count) (numbered : IsNumbered texts (wrapper_name tag (key_text known.text key)) id) where
    named-so : (pointer : Bool) → (tag == DW_TAG_pointer_type) ≡ pointer → IsKeyName texts known.text old.count pointer key.core key.consts id
    named-so pointer kind = record {
      below = below;
      number = λ other is. subst (λ b. IsNumbered texts ((if b then codes "WebAssemblyPtrWrapper<" else codes "WebAssemblyRefWrapper<") ++ key_text known.text key ++ codes ">") id) (kind ∙ sym is) numbered;
    }

    kept-so : AreKeyNames texts known.text old.count true new.pointers → AreKeyNames texts known.text old.count false new.references → KnowsKeys c s texts new
    kept-so pointers references = record {
      text = known.text;
      one = subst (λ n. 0 < n) (sym count) known.one;
      first = known.first;
      types = λ q. subst (λ m. IfSome (get nat_cmp m q) (λ k. IsKeyed c s known.text new.count q k)) (sym types) (subst (λ n. IfSome (get nat_cmp old.types q) (λ k. IsKeyed c s known.text n q k)) (sym count) (known.types q));
      cores = λ q. subst (λ m. IfSome (get pair_cmp m q) (λ found. IsBehind known.text new.count q.0 q.1 found)) (sym cores) (subst (λ n. IfSome (get pair_cmp old.cores q) (λ found. IsBehind known.text n q.0 q.1 found)) (sym count) (known.cores q));
      pointers = subst (λ n. AreKeyNames texts known.text n true new.pointers) (sym count) pointers;
      references = subst (λ n. AreKeyNames texts known.text n false new.references) (sym count) references;
    }

    -- The number of a name is noted.
    pub pointer-noted : (tag == DW_TAG_pointer_type) ≡ true → ((q : ℕ × ℕ) → get pair_cmp new.pointers q ≡ cond (is_eq (pair_cmp (key.core, key.consts) q)) (Some id) (get pair_cmp old.pointers q)) → new.references ≡ old.references → KnowsKeys c s texts new
    pointer-noted kind puts references =
        kept-so (each-more pair_cmp pairs-apart (λ q x. IsKeyName texts known.text old.count true q.0 q.1 x) old.pointers new.pointers (key.core, key.consts) id puts (named-so true kind) known.pointers)
        (subst (AreKeyNames texts known.text old.count false) (sym references) known.references)

    pub reference-noted : (tag == DW_TAG_pointer_type) ≡ false → ((q : ℕ × ℕ) → get pair_cmp new.references q ≡ cond (is_eq (pair_cmp (key.core, key.consts) q)) (Some id) (get pair_cmp old.references q)) → new.pointers ≡ old.pointers → KnowsKeys c s texts new
    reference-noted kind puts pointers =
        kept-so (subst (AreKeyNames texts known.text old.count true) (sym pointers) known.pointers)
        (each-more pair_cmp pairs-apart (λ q x. IsKeyName texts known.text old.count false q.0 q.1 x) old.references new.references (key.core, key.consts) id puts (named-so false kind) known.references)

-- ---- keys of derived types

module _ (c : CloneSource) (s : UnitSource) (texts : List (List ℕ)) where
  -- A core that was noted.
  pub core-known : (keys : TypeKeys) (known : KnowsKeys c s texts keys) (core tag found : ℕ) → get pair_cmp keys.cores (core, tag) ≡ Some found → HasCore c s texts known.text keys.count keys found (known.text core ++ behind_name tag)
  core-known keys known core tag found is =
      let b = at-some (λ x. IsBehind known.text keys.count core tag x) (get pair_cmp keys.cores (core, tag)) found is (known.cores (core, tag)) in
      record { knows = known; below = b.within; is = b.text_is; grown = omega arith; same = λ n below. refl }

  -- A constant more.
  pub const-over : (keys : TypeKeys) (known : KnowsKeys c s texts keys) (key over : TypeKey) (tag : ℕ) → tag ≡ DW_TAG_const_type → over.core ≡ key.core → over.consts ≡ key.consts + 1 → key.core < keys.count → HasText c s texts keys over (over_name tag (key_text known.text key))
  const-over keys known key over tag const core consts below = record {
    knows = known;
    below = subst (λ n. n < keys.count) (sym core) below;
    is =
        ap (λ n. consts_front over.consts ++ known.text n) core
        ∙ ap (λ n. consts_front n ++ known.text key.core) (consts ∙ one)
        ∙ append_assoc (codes "const ") (consts_front key.consts) (known.text key.core)
        ∙ ap (λ xs. codes "const " ++ xs) (sym (append-nil (key_text known.text key)))
        ∙ ap (λ t. over_name t (key_text known.text key)) (sym const);
  }
    where
      one : key.consts + 1 ≡ suc key.consts
      one = omega arith

  -- Another type more.
  pub other-over : (keys : TypeKeys) (before : ℕ → List ℕ) (least : ℕ) (key over : TypeKey) (tag : ℕ) → (tag == DW_TAG_const_type) ≡ false → over.consts ≡ key.consts → HasCore c s texts before least keys over.core (before key.core ++ behind_name tag) → HasText c s texts keys over (over_name tag (key_text before key))
  other-over keys before least key over tag other consts h = record {
    knows = h.knows;
    below = h.below;
    is =
        ap (λ n. consts_front n ++ h.knows.text over.core) consts
        ∙ ap (λ t. consts_front key.consts ++ t) h.is
        ∙ sym (append_assoc (consts_front key.consts) (before key.core) (behind_name tag))
        ∙ ap (λ b. (if b then codes "const " else []) ++ (key_text before key ++ behind_name tag)) (sym other);
  }

  pub const-answer : {E : Type 0} (keys : TypeKeys) (known : KnowsKeys c s texts keys) (key : TypeKey) (tag : ℕ) → tag ≡ DW_TAG_const_type → key.core < keys.count → (r : Result TypeKey E) → IfOk r (λ over. over.core ≡ key.core) → IfOk r (λ over. over.consts ≡ key.consts + 1)
      → IfOk r (λ over. HasText c s texts keys over (over_name tag (key_text known.text key)))
  const-answer keys known key tag const below (Ok over) core consts = const-over keys known key over tag const core consts below
  const-answer keys known key tag const below (Err e) core consts = tt

  -- ---- what a way leads to

  -- A type whose key is kept.
  pub behind-keyed : (keys : TypeKeys) (first : TypeEntry) (way : List DerivedType) (key : TypeKey) → KnowsKeys c s texts keys → EndsWayKeyed c s keys first way key → IsKeyBehind c s texts keys first way key
  behind-keyed keys first way key known e =
      let k = at-some (λ x. IsKeyed c s known.text keys.count e.offset x) (get nat_cmp keys.types e.offset) key e.is (known.types e.offset) in
      record {
        next = Some e.to.type;
        leads = e.to.leads;
        of = record {
          knows = known;
          below = k.below;
          named = subst (λ n. NamesNext c s (Some (n, e.to.type.id.index)) key.but (key_text known.text key)) (sym e.to.at) (k.named e.to.type.id.index);
        };
      }

  -- A type that ends the chain.
  pub behind-end : (keys : TypeKeys) (first : TypeEntry) (way : List DerivedType) (offset : ℕ) (key : TypeKey) → (e : EndsWayAt c s first way offset) → IsKeyOf c s texts keys (Some e.to.type) key → IsKeyBehind c s texts keys first way key
  behind-end keys first way offset key e known = record { next = Some e.to.type; leads = e.to.leads; of = known }

  -- No further type.
  pub behind-none : (keys : TypeKeys) (first : TypeEntry) (way : List DerivedType) (key : TypeKey) → key.core ≡ 0 → key.consts ≡ 0 → KnowsKeys c s texts keys → IsWay c s (Some first) way None → IsKeyBehind c s texts keys first way key
  behind-none keys first way key core consts known to_none = record {
    next = None;
    leads = to_none;
    of = record {
      knows = known;
      below = subst (λ n. n < keys.count) (sym core) known.one;
      named = subst (NamesNext c s None key.but) (sym (ap (λ n. consts_front n ++ known.text key.core) consts ∙ ap known.text core ∙ known.first)) (names-none c s key.but);
    };
  }

  -- ---- texts that grow

  pub keys-grown : (more : List (List ℕ)) (keys : TypeKeys) → Grows texts more → KnowsKeys c s texts keys → KnowsKeys c s more keys
  keys-grown more keys grows known = record {
    text = known.text;
    one = known.one;
    first = known.first;
    types = known.types;
    cores = known.cores;
    pointers = λ q. if-so (λ id. IsKeyName texts known.text keys.count true q.0 q.1 id) (λ id. IsKeyName more known.text keys.count true q.0 q.1 id) (get pair_cmp keys.pointers q) (λ id k. each true q.0 q.1 id k) (known.pointers q);
    references = λ q. if-so (λ id. IsKeyName texts known.text keys.count false q.0 q.1 id) (λ id. IsKeyName more known.text keys.count false q.0 q.1 id) (get pair_cmp keys.references q) (λ id k. each false q.0 q.1 id k) (known.references q);
  }
    where
      each : (pointer : Bool) (core consts : ℕ) (id : StringId) → IsKeyName texts known.text keys.count pointer core consts id → IsKeyName more known.text keys.count pointer core consts id
      each pointer core consts id k = record { below = k.below; number = λ tag is. numbered-grown texts more (wrapper_name tag (consts_front consts ++ known.text core)) id grows (k.number tag is) }

  pub key-of-grown : (more : List (List ℕ)) (keys : TypeKeys) (next : Option TypeEntry) (key : TypeKey) → Grows texts more → IsKeyOf c s texts keys next key → IsKeyOf c s more keys next key
  unfolding keys-grown
  key-of-grown more keys next key grows k = record { knows = keys-grown more keys grows k.knows; below = k.below; named = k.named }

-- ---- ways

pub way-more : (c : CloneSource) (s : UnitSource) (from : Option TypeEntry) (ts : List DerivedType) (t : DerivedType) (type : TypeEntry) → IsWay c s from ts (Some type) → type.offset ≡ t.offset → IsRead c s t.offset t.tag t.next → IsWay c s from (ts ++ t ∷ []) t.next
way-more c s from [] t type way at read = (record { type = type; is = way; at = at; read = read }, refl)
way-more c s from (u ∷ ts) t type way at read = (way.0, way-more c s u.next ts t type way.1 at read)

-- The last type of a way, and what leads to it.
pub record IsWayLast (c : CloneSource) (s : UnitSource) (from : Option TypeEntry) (ts : List DerivedType) (t : DerivedType) (next : Option TypeEntry) : Type 0 where
  pub type : TypeEntry
  pub way : IsWay c s from ts (Some type)
  pub at : type.offset ≡ t.offset
  pub read : IsRead c s t.offset t.tag t.next
  pub next_is : t.next ≡ next

pub way-last : (c : CloneSource) (s : UnitSource) (from : Option TypeEntry) (ts : List DerivedType) (t : DerivedType) (next : Option TypeEntry) → IsWay c s from (ts ++ t ∷ []) next → IsWayLast c s from ts t next
way-last c s from [] t next way = record { type = way.0.type; way = way.0.is; at = way.0.at; read = way.0.read; next_is = way.1 }
way-last c s from (u ∷ ts) t next way =
    let l = way-last c s u.next ts t next way.1 in
    record { type = l.type; way = (way.0, l.way); at = l.at; read = l.read; next_is = l.next_is }

-- No keys are kept.
pub no-keys : (c : CloneSource) (s : UnitSource) (texts : List (List ℕ)) (keys : TypeKeys) → keys.count ≡ 1 → keys.types.entries ≡ [] → keys.cores.entries ≡ [] → keys.pointers.entries ≡ [] → keys.references.entries ≡ [] → KnowsKeys c s texts keys
no-keys c s texts keys count types cores pointers references = record {
  text = λ core. unknown;
  one = subst (λ n. 0 < n) (sym count) (omega arith);
  first = refl;
  types = λ q. subst (λ o. IfSome o (λ k. IsKeyed c s (λ core. unknown) keys.count q k)) (sym (ap (λ es. lookup (λ k. is_eq (nat_cmp q k)) es) types)) tt;
  cores = λ q. subst (λ o. IfSome o (λ found. IsBehind (λ core. unknown) keys.count q.0 q.1 found)) (sym (ap (λ es. lookup (λ k. is_eq (pair_cmp q k)) es) cores)) tt;
  pointers = λ q. subst (λ o. IfSome o (λ id. IsKeyName texts (λ core. unknown) keys.count true q.0 q.1 id)) (sym (ap (λ es. lookup (λ k. is_eq (pair_cmp q k)) es) pointers)) tt;
  references = λ q. subst (λ o. IfSome o (λ id. IsKeyName texts (λ core. unknown) keys.count false q.0 q.1 id)) (sym (ap (λ es. lookup (λ k. is_eq (pair_cmp q k)) es) references)) tt;
}
