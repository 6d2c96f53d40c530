-- What is built of each kind of parts means what it should.
use Rattle.std.proofs.Common.{◌≡◌, ℕ, sym, ap, subst, ◌∙◌, ◌⊎◌, inl, inr, List, [], ◌∷◌, ◌++◌, append-nil, Option, Some, None, Bool, true, false}
use Rattle.std.specs.Prelude.{if◌then◌else◌}
use Rattle.std.specs.List.{list_all}
use Rattle.dwc_dwarf.specs.Values.{is_one_of}
use Rattle.dwc_native.specs.Parts.{Part, code, local, dereference, jump, landing_pad, CompiledParts, label_alone, single_code}
use Rattle.dwc_native.specs.Placed.{all_placed, built_parts, needed_labels, NativeRange}
use Rattle.dwc_native.specs.Built.{Setting, built_bytes, location_bytes, jumps_fit}
use Rattle.dwc_native.specs.BuiltExpressions.{Surroundings, setting_at, place_refusals, jump_refusals, IsBounded}
use Rattle.dwc_machines.specs.NativeStates.{NativeState}
use Rattle.dwc_expr.proofs.Meaning.PadLaws.{whole-cases}
use Rattle.dwc_expr.specs.RunsAlike.{is_set, CanRun}
use Rattle.dwc_expr.specs.WholeParts.{are_whole, IsWhole}
use Rattle.dwc_expr.specs.BuiltMeanings.{MeansOn}
use Rattle.dwc_expr.proofs.Meaning.RunLaws.{run-alike}
use Rattle.dwc_expr.proofs.Meaning.MeaningLaws.{keep-meaning}
use Rattle.dwc_expr.proofs.Meaning.RunnableParts.{can-run}

-- ---- bytes alone, and a label alone

pub code-of : (ps : List Part) (c : List ℕ) → single_code ps ≡ Some c → ps ≡ code c ∷ []
code-of [] c h = absurd (cc)
code-of (code d ∷ []) c h = ap (λ bs. code bs ∷ []) (some-is d c h)
  where
    of : List ℕ → Option (List ℕ) → List ℕ
    of none None = none
    of none (Some bs) = bs

    some-is : (d c : List ℕ) → ◌≡◌ {A = Option (List ℕ)} (Some d) (Some c) → d ≡ c
    some-is d c k = ap (of d) k
code-of (code d ∷ p ∷ ps) c h = absurd (cc)
code-of (local label trailing ∷ ps) c h = absurd (cc)
code-of (dereference ∷ ps) c h = absurd (cc)
code-of (jump conditionally place ∷ ps) c h = absurd (cc)
code-of (landing_pad place ∷ ps) c h = absurd (cc)

no-code : (label : ℕ) (c : List ℕ) → local label true ∷ [] ≡ code c ∷ [] → ⊥
no-code label c h = cc

built-code : (x : CompiledParts) (c : List ℕ) → x.parts ≡ code c ∷ [] → built_parts x ≡ code c ∷ []
built-code x c is = go x.need_deref (single_code x.parts) (ap single_code is)
  where
    go : (d : Bool) (o : Option (List ℕ)) → o ≡ Some c → (if d then (elim o [ None ↦ x.parts ++ dereference ∷ [] | Some bytes ↦ x.parts ]) else x.parts) ≡ code c ∷ []
    go true None h = absurd (cc)
    go true (Some bytes) h = is
    go false o h = is

code-alone : (s : Setting) (c : List ℕ) → built_bytes s (code c ∷ []) ≡ c
unfolding built_bytes
code-alone s c = append-nil c

place-alone : (s : Setting) (label : ℕ) → built_bytes s (built_parts (label_alone label)) ≡ location_bytes s (s.place label)
unfolding built_bytes
place-alone s label = append-nil (location_bytes s (s.place label))

-- ---- each kind of parts

module _ (s : Surroundings) (bounded : IsBounded s) (x : CompiledParts) where
  -- parts that can run
  can-mean : (r : NativeRange) → ((n : NativeState) → is_one_of (4 ∷ 8 ∷ []) n.pointer_bytes ≡ true → CanRun n (setting_at s r) (built_parts x)) → MeansOn s x r (built_bytes (setting_at s r) (built_parts x))
  can-mean r can = inl (
    λ n addresses. run-alike n (setting_at s r) (built_parts x) (can n addresses),
    λ n w base bytes m. keep-meaning n (setting_at s r) w base bytes x m (can n (ap (is_one_of (4 ∷ 8 ∷ [])) m.addresses)),
  )

  -- parts on a range on which nothing is refused
  pub placed-mean : IsWhole x → (r : NativeRange) → all_placed s.frame (needed_labels x) r.function r.start ≡ true → (place_refusals x (setting_at s r) ≡ []) × (jump_refusals x (setting_at s r) ≡ []) → MeansOn s x r (built_bytes (setting_at s r) (built_parts x))
  placed-mean whole r all none = go (whole-cases x whole)
    where
      go : (are_whole (built_parts x) ≡ true) ⊎ ((label : ℕ) × (x ≡ label_alone label)) → MeansOn s x r (built_bytes (setting_at s r) (built_parts x))
      go (inl parts) = can-mean r (λ n addresses. can-run s bounded r x n parts all none.0 none.1 addresses)
      go (inr (label, is)) = inr (record { label = label; alone = is; place = ap (λ (y : CompiledParts). built_bytes (setting_at s r) (built_parts y)) is ∙ place-alone (setting_at s r) label })

  -- parts that are bytes alone
  pub code-mean : IsWhole x → (c : List ℕ) → x.parts ≡ code c ∷ [] → (r : NativeRange) → MeansOn s x r c
  code-mean whole c is r = go (whole-cases x whole)
    where
      same : built_parts x ≡ code c ∷ []
      same = built-code x c is

      go : (are_whole (built_parts x) ≡ true) ⊎ ((label : ℕ) × (x ≡ label_alone label)) → MeansOn s x r c
      go (inl parts) = subst (MeansOn s x r) (ap (built_bytes (setting_at s r)) same ∙ code-alone (setting_at s r) c)
          (can-mean r (λ n addresses. record { whole = parts; set = ap (list_all (is_set (setting_at s r))) same; fit = ap (jumps_fit (setting_at s r)) same; addresses = addresses }))
      go (inr (label, alone)) = absurd (no-code label c (sym (ap (λ (y : CompiledParts). y.parts) alone) ∙ is))
