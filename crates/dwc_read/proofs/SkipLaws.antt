-- Skips, which are passed in one step.
use Rattle.std.proofs.Common.{◌≡◌, ℕ, zero, suc, ◌+◌, ◌<◌, ◌≤◌, refl, ap, sym, subst, ◌∙◌, arith, List, [], ◌∷◌, map, drop, set, length, get_or, Bool, true, false, Option, Some, None, Ok, Err}
use Rattle.std.specs.Prelude.{nat_lt, option_map, option_and_then}
use Rattle.std.proofs.lemmas.Bool.{ltb-true, ltb-false}
use Rattle.std.proofs.lemmas.List.{length-drop, drop-drop, drop-set}
use Rattle.dwc_base.specs.declared.faults.Flaw.TheVariants.{EndsEarly}
use Rattle.dwc_base.specs.Reading.{Unread, Read, ◌>>=◌, passed, bytes_at, seen_as}
use Rattle.dwc_base.specs.Abbreviations as table
use Rattle.dwc_base.specs.Sections.{Sections}
use Rattle.dwc_base.specs.Units.{UnitHeader}
use Rattle.dwc_dwarf.specs.Values.{Value}
use Rattle.dwc_base.proofs.ReadSteps.{bytes_at-short, bytes_at-whole}
use Rattle.dwc_read.specs.declared.attribute_spec.AttributeSpec.{AttributeSpec}
use Rattle.dwc_read.specs.AttributeSpecs.{spec_view}
use Rattle.dwc_read.specs.Links.{passed_size, links_at}
use Rattle.dwc_read.specs.declared.skips.Skip.{Skip}
use Rattle.dwc_read.specs.Skips.{passed_bytes, IsSkip, skips_of, AreSkips}
use Rattle.dwc_read.proofs.AttributeLaws.{specs_from, specs_from-next, drop-past}
use Rattle.dwc_read.proofs.LinkValueLaws.{link_at-passed, links_at-more, links_at-flaw}

-- with an attribute more in front
pub passed_bytes-longer : (spec : table.AttributeSpec) (specs : List table.AttributeSpec) (n bytes size : ℕ) → passed_size spec.name spec.form ≡ Some size → passed_bytes n specs ≡ Some bytes → passed_bytes (n + 1) (spec ∷ specs) ≡ Some (bytes + size)
passed_bytes-longer spec specs n bytes size sized behind =
    let next : n + 1 ≡ suc n = omega arith in
    let sum : size + bytes ≡ bytes + size = omega arith in
    ap (λ k. passed_bytes k (spec ∷ specs)) next
    ∙ ap (option_and_then (λ size. option_map (λ rest. size + rest) (passed_bytes n specs))) sized
    ∙ ap (option_map (λ rest. size + rest)) behind
    ∙ ap Some sum

-- each attribute's skip, from the last one to the first
pub AreSkips-more : (spec : AttributeSpec) (specs : List AttributeSpec) → passed_bytes spec.skip (map spec_view (spec ∷ specs)) ≡ Some spec.skip_bytes → AreSkips specs → AreSkips (spec ∷ specs)
AreSkips-more spec specs here behind = ap (λ o. o ∷ skips_of specs) here ∙ ap (λ os. Some spec.skip_bytes ∷ os) behind

-- an attribute that notes the skip that it begins
pub noted : (specs : List AttributeSpec) (k : ℕ) (skip : Skip) (spec y : AttributeSpec) → k < length specs
    → y ≡ record { name = spec.name; skip = skip.attributes; skip_bytes = skip.bytes; form = spec.form; implicit = spec.implicit }
    → IsSkip skip (spec_view spec ∷ map spec_view (drop (k + 1) specs)) → AreSkips (drop (k + 1) specs)
    → AreSkips (drop k (set specs k y)) × IsSkip skip (map spec_view (drop k (set specs k y)))
noted specs k skip spec y inside is begins behind =
    let rest = map spec_view (drop (k + 1) specs) in
    let here : passed_bytes y.skip (spec_view y ∷ rest) ≡ Some y.skip_bytes = ap (λ s. passed_bytes s.skip (spec_view s ∷ rest)) is ∙ begins ∙ ap (λ s. Some s.skip_bytes) (sym is) in
    let skips : AreSkips (y ∷ drop (k + 1) specs) = AreSkips-more y (drop (k + 1) specs) here behind in
    let kept : IsSkip skip (map spec_view (y ∷ drop (k + 1) specs)) = ap (λ s. passed_bytes skip.attributes (spec_view s ∷ rest)) is ∙ begins in
    let list : drop k (set specs k y) ≡ y ∷ drop (k + 1) specs = drop-set specs k y inside in
    (subst (λ l. AreSkips l) (sym list) skips, subst (λ l. IsSkip skip (map spec_view l)) (sym list) kept)

-- the skip of an attribute at a place
pub AreSkips-at : (specs : List AttributeSpec) (i : ℕ) (d : AttributeSpec) → AreSkips specs → i < length specs → passed_bytes (get_or specs i d).skip (specs_from i specs) ≡ Some (get_or specs i d).skip_bytes
AreSkips-at [] i d skips inside = absurd (omega arith)
AreSkips-at (spec ∷ specs) zero d skips inside = ap (λ os. get_or os 0 None) skips
AreSkips-at (spec ∷ specs) (suc i) d skips inside = AreSkips-at specs i d (ap (drop 1) skips) (omega arith)

seen-same : {A : Type 0} (r : Read A) → seen_as (λ x. x) r ≡ r
seen-same (Ok x) = refl
seen-same (Err flaw) = refl

-- bytes that are passed in two steps are passed in one
bytes_at-both : {A : Type 0} (next : Unread → Read A) (a c : ℕ) (u : Unread) → a ≤ length u.left → (bytes_at c (passed a u) >>= λ x. next x.1) ≡ (bytes_at (a + c) u >>= λ x. next x.1)
bytes_at-both next a c u first = go (nat_lt (length u.left) (a + c)) refl
  where
    go : (b : Bool) → nat_lt (length u.left) (a + c) ≡ b → (bytes_at c (passed a u) >>= λ x. next x.1) ≡ (bytes_at (a + c) u >>= λ x. next x.1)
    go true is =
        let short = ltb-true (length u.left) (a + c) is in
        let rest = length-drop a u.left in
        ap (λ r. r >>= λ x. next x.1) (bytes_at-short c (passed a u) (omega (arith, short, rest)) ∙ sym (bytes_at-short (a + c) u short))
    go false is =
        let long = ltb-false (length u.left) (a + c) is in
        let rest = length-drop a u.left in
        let place : (u.place + a) + c ≡ u.place + (a + c) = omega arith in
        ap (λ r. r >>= λ x. next x.1) (bytes_at-whole c (passed a u) (omega (arith, long, rest)))
        ∙ ap (λ p. next (record { order = u.order; place = p; left = drop c (drop a u.left) })) place
        ∙ ap (λ bytes. next (record { order = u.order; place = u.place + (a + c); left = bytes })) (drop-drop c a u.left)
        ∙ ap (λ r. r >>= λ x. next x.1) (sym (bytes_at-whole (a + c) u long))

module _ (s : Sections) (h : UnitHeader) (specs : List AttributeSpec) (d : AttributeSpec) where
  -- the links behind so many bytes, from an attribute on
  abbrev behind : ℕ → ℕ → Unread → Read (List (ℕ × Value))
  behind bytes i u = bytes_at bytes u >>= λ x. links_at s h (specs_from i specs) x.1

  none-passed : (i : ℕ) (u : Unread) → links_at s h (specs_from i specs) u ≡ behind 0 (i + 0) u
  none-passed i u =
      let here : u.place + 0 ≡ u.place = omega arith in
      let at : i + 0 ≡ i = omega arith in
      ap (λ place. links_at s h (specs_from i specs) (record { order = u.order; place = place; left = u.left })) (sym here)
      ∙ ap (λ k. links_at s h (specs_from k specs) (passed 0 u)) (sym at)
      ∙ ap (λ r. r >>= λ x. links_at s h (specs_from (i + 0) specs) x.1) (sym (bytes_at-whole 0 u (omega arith)))

  one-passed : (a c i j : ℕ) (u : Unread) → i < length specs → passed_size (get_or specs i d).name (get_or specs i d).form ≡ Some a
      → ((v : Unread) → links_at s h (specs_from (i + 1) specs) v ≡ behind c j v) → links_at s h (specs_from i specs) u ≡ behind (a + c) j u
  one-passed a c i j u inside sized rest = go (nat_lt (length u.left) a) refl
    where
      spec : AttributeSpec
      spec = get_or specs i d

      go : (b : Bool) → nat_lt (length u.left) a ≡ b → links_at s h (specs_from i specs) u ≡ behind (a + c) j u
      go true is =
          let short = ltb-true (length u.left) a is in
          let read = link_at-passed s h (spec_view spec) u a sized ∙ ap (seen_as {A = List ℕ} {B = Option Value} (λ bytes. None)) (bytes_at-short a u short) in
          links_at-flaw s h specs i d u u EndsEarly inside read ∙ ap (λ r. r >>= λ x. links_at s h (specs_from j specs) x.1) (sym (bytes_at-short (a + c) u (omega (arith, short))))
      go false is =
          let long = ltb-false (length u.left) a is in
          let read = link_at-passed s h (spec_view spec) u a sized ∙ ap (seen_as {A = List ℕ} {B = Option Value} (λ bytes. None)) (bytes_at-whole a u long) in
          links_at-more s h specs i d u (passed a u) None inside read
          ∙ seen-same (links_at s h (specs_from (i + 1) specs) (passed a u))
          ∙ rest (passed a u)
          ∙ bytes_at-both (links_at s h (specs_from j specs)) a c u long

  -- a skip is passed by its bytes
  pub links_at-skip : (n bytes i : ℕ) (u : Unread) → passed_bytes n (specs_from i specs) ≡ Some bytes → links_at s h (specs_from i specs) u ≡ behind bytes (i + n) u
  links_at-skip zero bytes i u skip = let none : 0 ≡ bytes = cc in subst (λ k. links_at s h (specs_from i specs) u ≡ behind k (i + 0) u) none (none-passed i u)
  links_at-skip (suc n) bytes i u skip = within (nat_lt i (length specs)) refl (λ c v rest. links_at-skip n c (i + 1) v rest)
    where
      spec : AttributeSpec
      spec = get_or specs i d

      more : (o p : Option ℕ) → i < length specs → passed_size spec.name spec.form ≡ o → passed_bytes n (specs_from (i + 1) specs) ≡ p → option_and_then (λ size. option_map (λ rest. size + rest) p) o ≡ Some bytes
          → ((c : ℕ) (v : Unread) → passed_bytes n (specs_from (i + 1) specs) ≡ Some c → links_at s h (specs_from (i + 1) specs) v ≡ behind c ((i + 1) + n) v)
          → links_at s h (specs_from i specs) u ≡ behind bytes (i + suc n) u
      more None p inside sized rest e again = absurd (cc)
      more (Some a) None inside sized rest e again = absurd (cc)
      more (Some a) (Some c) inside sized rest e again =
          let sum : a + c ≡ bytes = cc in
          let at : (i + 1) + n ≡ i + suc n = omega arith in
          one-passed a c i ((i + 1) + n) u inside sized (λ v. again c v rest)
          ∙ ap (λ j. behind (a + c) j u) at
          ∙ ap (λ k. behind k (i + suc n) u) sum

      within : (b : Bool) → nat_lt i (length specs) ≡ b
          → ((c : ℕ) (v : Unread) → passed_bytes n (specs_from (i + 1) specs) ≡ Some c → links_at s h (specs_from (i + 1) specs) v ≡ behind c ((i + 1) + n) v)
          → links_at s h (specs_from i specs) u ≡ behind bytes (i + suc n) u
      within true is again =
          let inside = ltb-true i (length specs) is in
          more (passed_size spec.name spec.form) (passed_bytes n (specs_from (i + 1) specs)) inside refl refl (ap (passed_bytes (suc n)) (sym (specs_from-next specs i d inside)) ∙ skip) again
      within false is again =
          let past = ltb-false i (length specs) is in
          let none : ◌≡◌ {A = Option ℕ} None (Some bytes) = ap (λ xs. passed_bytes (suc n) (map spec_view xs)) (sym (drop-past specs i past)) ∙ skip in
          absurd (cc)
