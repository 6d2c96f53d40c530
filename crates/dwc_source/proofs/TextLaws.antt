-- Texts that are added to a table, and what the values that name them say.
use Rattle.std.proofs.Common.{◌≡◌, ℕ, suc, ◌+◌, ◌<◌, refl, sym, ap, subst, ◌∙◌, arith, List, [], ◌∷◌, ◌++◌, length, Bool, true, false, Some, Result, Ok, Err}
use Rattle.std.specs.Prelude.{if◌then◌else◌, cond, not, ◌||◌, IfOk, OnErr, OnOk}
use Rattle.std.specs.List.{All, list_any, position_or_len}
use Rattle.std.specs.Str.{bytes_eq}
use Rattle.std.specs.Bool.{Decides}
use Rattle.std.proofs.lemmas.List.{append-nil}
use Rattle.std.proofs.lemmas.List.Elements.{All-nil, All-cons}
use Rattle.std.proofs.lemmas.Slice.Eq.{bytes_eq-Decides}
use Rattle.dwc_base.specs.declared.section_name.SectionName.{SectionName}
use Rattle.dwc_base.specs.declared.faults.What.{What}
use Rattle.dwc_base.specs.declared.faults.Flaw.{Flaw}
use Rattle.dwc_base.specs.declared.section_name.SectionName.TheVariants.{Info}
use Rattle.dwc_base.specs.declared.faults.What.TheVariants.{Text}
use Rattle.dwc_base.specs.Sections.{reported}
use Rattle.dwc_dwarf.specs.Texts.{TextSource, text_named}
use Rattle.dwc_dwarf.specs.Values.{Value}
use Rattle.dwc_dwarf.specs.ReadValues.{IsReadValue}
use Rattle.dwc_dwarf.specs.TreeLaws.{with_new_text}
use Rattle.dwc_dwarf.specs.Trees.{text}
use Rattle.dwc_rules.specs.Drafts.{done}
use Rattle.dwc_dwarf.proofs.ReadValuesTexts.{text-read}
use Rattle.dwc_unit.specs.declared.attributes.AttributeValue.TheVariants.{StringRef}
use Rattle.dwc_section.specs.declared.error.WriteError.{WriteError}
use Rattle.dwc_unit.specs.declared.strings.StringId.{StringId}
use Rattle.dwc_unit.specs.UsedTexts.{text_numbered}
use Rattle.dwc_source.specs.declared.places.EmittedEntry.{EmittedEntry}
use Rattle.dwc_source.specs.KnownTexts.{IsNumbered}
use Rattle.dwc_source.specs.MadeValues.{Grows, SaysMore}

-- ---- what is read

pub reported-ok : {A : Type 0} (what : What) (section : SectionName) (here : ℕ) (r : Result A Flaw) (x : A) → reported what section here r ≡ Ok x → r ≡ Ok x
reported-ok what section here (Ok y) x same = cc
reported-ok what section here (Err flaw) x same = absurd (cc)

-- A text that was read has no zero byte.
pub reported-text-read : (src : TextSource) (name here : ℕ) (v : Value) (bytes : List ℕ) → IsReadValue name v → reported Text Info here (text_named src v) ≡ Ok (Some bytes) → All (λ b. 0 < b) bytes
reported-text-read src name here v bytes read same = text-read src name v bytes read (reported-ok Text Info here (text_named src v) (Some bytes) same)

-- ---- what is added

-- A table that has not changed.
pub Grows-same : (table : List (List ℕ)) → Grows table table
Grows-same table = record { more = []; is = sym (append-nil table) }

-- A table has a text that was added at its first place, and has no less than before.
pub record IsAdded (t : List ℕ) (old new : List (List ℕ)) (place : ℕ) : Type 0 where
  pub inside : place < length new
  pub is : text_numbered new place ≡ t
  pub grows : Grows old new

pub added : (t : List ℕ) (old : List (List ℕ)) → IsAdded t old (with_new_text old t) (position_or_len (bytes_eq t) old)
added t [] = record { inside = omega arith; is = refl; grows = record { more = t ∷ []; is = refl } }
added t (x ∷ xs) = go (bytes_eq t x) (bytes_eq-Decides t x) (list_any (bytes_eq t) xs) (added t xs)
  where
    behind : (ys : List (List ℕ)) (n : ℕ) → text_numbered (x ∷ ys) (1 + n) ≡ text_numbered ys n
    behind ys n = let e : 1 + n ≡ suc n = omega arith in ap (λ k. text_numbered (x ∷ ys) k) e

    go : (b : Bool) → Decides b (t ≡ x) → (c : Bool) → IsAdded t xs (if c then xs else xs ++ (t ∷ [])) (position_or_len (bytes_eq t) xs) → IsAdded t (x ∷ xs) (if b || c then x ∷ xs else x ∷ (xs ++ (t ∷ []))) (cond (not b) (1 + position_or_len (bytes_eq t) xs) 0)
    go true same c more = record { inside = omega arith; is = sym (same.0 refl); grows = Grows-same (x ∷ xs) }
    go false other true more = record { inside = omega (arith, more.inside); is = behind xs (position_or_len (bytes_eq t) xs) ∙ more.is; grows = Grows-same (x ∷ xs) }
    go false other false more = record { inside = omega (arith, more.inside); is = behind (xs ++ t ∷ []) (position_or_len (bytes_eq t) xs) ∙ more.is; grows = record { more = t ∷ []; is = refl } }

-- The value that names a text which was added says it.
pub text-says : (places : List EmittedEntry) (number name : ℕ) (old new : List (List ℕ)) (t : List ℕ) (id : StringId) → new ≡ with_new_text old t → id ≡ record { index = position_or_len (bytes_eq t) old } → SaysMore places number name old new (Some (done (text t))) (Some (StringRef id))
text-says places number name old new t id is at =
    let a = added t old in
    let has : IsAdded t old new id.index = rw (is, ap (λ (i : StringId). i.index) at) a in
    record { grows = has.grows; says = record { means = λ goals at. ap (λ b. Some (text b)) has.is; fits = λ size. tt; texts = All-cons (λ n. n < length new) id.index [] has.inside (All-nil (λ n. n < length new)) } }

-- What a call that adds a text leaves, and the number that it answers.
pub text-added : (t : List ℕ) (old new : List (List ℕ)) (r : Result StringId WriteError) → OnOk r (new ≡ with_new_text old t) → IfOk r (λ id. id ≡ record { index = position_or_len (bytes_eq t) old }) → OnErr r (new ≡ old)
    → Grows old new × IfOk r (IsNumbered new t)
text-added t old new (Ok id) is at same =
    let has : IsAdded t old new id.index = rw (is, ap (λ (i : StringId). i.index) at) (added t old) in
    (has.grows, record { inside = has.inside; is = has.is })
text-added t old new (Err e) is at same = (subst (Grows old) (sym same) (Grows-same old), tt)
