-- Jumps that arrive have landing pads, and jumps of whole parts arrive.
use Rattle.std.proofs.Common.{◌≡◌, ℕ, ◌⊎◌, inl, inr, refl, sym, ap, subst, ◌∙◌, List, [], ◌∷◌, ◌++◌, Option, Some, None, Bool, true, false, true≢false}
use Rattle.std.specs.Prelude.{◌&&◌, ◌||◌, ◌==◌, if◌then◌else◌, not, All}
use Rattle.std.specs.List.{list_all, list_any, filter_map, cons_option}
use Rattle.std.proofs.lemmas.Bool.{and_parts}
use Rattle.std.proofs.lemmas.List.Elements.{All-head, All-tail, All-nil, All-cons}
use Rattle.dwc_dwarf.specs.Values.{is_one_of}
use Rattle.dwc_native.specs.Parts.{Part, code, local, dereference, jump, landing_pad, CompiledParts, label_alone, single_code}
use Rattle.dwc_native.specs.Placed.{built_parts}
use Rattle.dwc_machines.specs.PartMachine.{is_pad_of}
use Rattle.dwc_expr.specs.WholeParts.{jump_place, pad_place, has_pad, JumpsLand, is_whole_part, are_whole, is_place, IsWhole}

-- whether a part, if it is a jump, has a landing pad among parts
abbrev pub has_pads : List Part → Part → Bool
has_pads ps (jump conditionally place) = list_any (is_pad_of place) ps
has_pads ps _ = true

-- a landing pad among parts
pad-among : (all : List Part) (place : ℕ) → has_pad all place ≡ list_any (is_pad_of place) all
pad-among [] place = refl
pad-among (code c ∷ ps) place = pad-among ps place
pad-among (local label trailing ∷ ps) place = pad-among ps place
pad-among (dereference ∷ ps) place = pad-among ps place
pad-among (jump conditionally other ∷ ps) place = pad-among ps place
pad-among (landing_pad other ∷ ps) place = ap (λ b. (other == place) || b) (pad-among ps place)

have-pads : (all ps : List Part) → All (λ place. has_pad all place ≡ true) (filter_map jump_place ps) → list_all (has_pads all) ps ≡ true
have-pads all [] h = refl
have-pads all (code c ∷ ps) h = have-pads all ps h
have-pads all (local label trailing ∷ ps) h = have-pads all ps h
have-pads all (dereference ∷ ps) h = have-pads all ps h
have-pads all (jump conditionally place ∷ ps) h =
    ap (λ b. b && list_all (has_pads all) ps) (sym (pad-among all place) ∙ All-head (λ place. has_pad all place ≡ true) place (filter_map jump_place ps) h)
    ∙ have-pads all ps (All-tail (λ place. has_pad all place ≡ true) place (filter_map jump_place ps) h)
have-pads all (landing_pad place ∷ ps) h = have-pads all ps h

-- so all jumps of parts that land have pads
pub land-pads : (ps : List Part) → JumpsLand ps → list_all (has_pads ps) ps ≡ true
land-pads ps h = have-pads ps ps h

-- ---- whole parts

whole-pads : (all ps : List Part) → list_all (is_whole_part all) ps ≡ true → All (λ place. has_pad all place ≡ true) (filter_map jump_place ps)
whole-pads all [] h = All-nil (λ place. has_pad all place ≡ true)
whole-pads all (code c ∷ ps) h = whole-pads all ps (and_parts (is_whole_part all (code c)) (list_all (is_whole_part all) ps) h).1
whole-pads all (local label trailing ∷ ps) h = whole-pads all ps (and_parts (not trailing) (list_all (is_whole_part all) ps) h).1
whole-pads all (dereference ∷ ps) h = whole-pads all ps h
whole-pads all (jump conditionally place ∷ ps) h =
    let both = and_parts (list_any (is_pad_of place) all) (list_all (is_whole_part all) ps) h in
    All-cons (λ place. has_pad all place ≡ true) place (filter_map jump_place ps) (pad-among all place ∙ both.0) (whole-pads all ps both.1)
whole-pads all (landing_pad place ∷ ps) h = whole-pads all ps h

module _ (f : Part → Option ℕ) (skips : f dereference ≡ None) where
  behind-skipped : (ps : List Part) → filter_map f (ps ++ dereference ∷ []) ≡ filter_map f ps
  behind-skipped [] = ap (λ o. cons_option o []) skips
  behind-skipped (p ∷ ps) = ap (cons_option (f p)) (behind-skipped ps)

land-before : (ps : List Part) → JumpsLand (ps ++ dereference ∷ []) → JumpsLand ps
land-before ps h =
    subst (λ places. All (λ place. is_one_of places place ≡ true) (filter_map jump_place ps)) (behind-skipped pad_place refl ps)
    (subst (All (λ place. has_pad (ps ++ dereference ∷ []) place ≡ true)) (behind-skipped jump_place refl ps) h)

-- what is whole is whole as it is built, or the place of a label
pub whole-cases : (x : CompiledParts) → IsWhole x → (are_whole (built_parts x) ≡ true) ⊎ ((label : ℕ) × (x ≡ label_alone label))
whole-cases x h = go (are_whole (built_parts x)) refl h
  where
    alone : (ps : List Part) (d : Bool) → x ≡ (record { parts = ps; need_deref = d }) → (is_place ps && not d) ≡ true → (label : ℕ) × (x ≡ label_alone label)
    alone [] d is k = absurd (true≢false (sym k))
    alone (local label true ∷ []) true is k = absurd (true≢false (sym k))
    alone (local label true ∷ []) false is k = (label, is)
    alone (local label true ∷ p ∷ ps) d is k = absurd (true≢false (sym k))
    alone (local label false ∷ ps) d is k = absurd (true≢false (sym k))
    alone (code c ∷ ps) d is k = absurd (true≢false (sym k))
    alone (dereference ∷ ps) d is k = absurd (true≢false (sym k))
    alone (jump conditionally place ∷ ps) d is k = absurd (true≢false (sym k))
    alone (landing_pad place ∷ ps) d is k = absurd (true≢false (sym k))

    go : (b : Bool) → are_whole (built_parts x) ≡ b → (b || (is_place x.parts && not x.need_deref)) ≡ true → (are_whole (built_parts x) ≡ true) ⊎ ((label : ℕ) × (x ≡ label_alone label))
    go true e k = inl e
    go false e k = inr (alone x.parts x.need_deref refl k)

pub built-is-whole : (x : CompiledParts) → are_whole (built_parts x) ≡ true → IsWhole x
built-is-whole x h = ap (λ b. b || (is_place x.parts && not x.need_deref)) h

pub alone-is-whole : (x : CompiledParts) (label : ℕ) → x ≡ label_alone label → IsWhole x
alone-is-whole x label is = subst IsWhole (sym is) refl

-- so the jumps of what is whole arrive
pub whole-land : (x : CompiledParts) → IsWhole x → JumpsLand x.parts
whole-land x h = go (whole-cases x h)
  where
    built : (d : Bool) (o : Option (List ℕ)) → are_whole (if d then (elim o [ None ↦ x.parts ++ dereference ∷ [] | Some bytes ↦ x.parts ]) else x.parts) ≡ true → JumpsLand x.parts
    built true None k = land-before x.parts (whole-pads (x.parts ++ dereference ∷ []) (x.parts ++ dereference ∷ []) k)
    built true (Some bytes) k = whole-pads x.parts x.parts k
    built false o k = whole-pads x.parts x.parts k

    go : (are_whole (built_parts x) ≡ true) ⊎ ((label : ℕ) × (x ≡ label_alone label)) → JumpsLand x.parts
    go (inl k) = built x.need_deref (single_code x.parts) k
    go (inr (label, is)) = subst (λ (y : CompiledParts). JumpsLand y.parts) (sym is) (All-nil (λ place. has_pad (label_alone label).parts place ≡ true))
