-- Parts of which nothing is refused can run.
use Rattle.std.proofs.Common.{◌≡◌, ℕ, ◌^◌, refl, sym, ap, ◌∙◌, arith, List, [], ◌∷◌, ◌++◌, map, length, Option, Some, None, is_some, Result, Ok, Err, Bool, true, false, ltb, true≢false}
use Rattle.std.specs.Prelude.{◌&&◌, if◌then◌else◌, All}
use Rattle.std.specs.List.{list_all, list_any, filter_map, flat_map, cons_option, AllZip}
use Rattle.std.proofs.lemmas.Bool.{and_parts, lt-ltb}
use Rattle.std.proofs.lemmas.List.Elements.{All-head, All-tail}
use Rattle.dwc_dwarf.specs.Values.{is_one_of}
use Rattle.dwc_base.specs.Listing.{first_of}
use Rattle.dwc_dwarf.specs.Trees.{Location}
use Rattle.dwc_native.specs.Compiled.{Place, in_register, at_frame_offset, Memory, no_memory, defined, imported}
use Rattle.dwc_native.specs.Parts.{Part, code, local, dereference, jump, landing_pad, CompiledParts, context_label}
use Rattle.dwc_native.specs.Placed.{placed, all_placed, built_parts, label_needed, needed_labels, is_dereference, reads_memory, NativeRange}
use Rattle.dwc_native.specs.LabelRanges.{all_bytes_placed}
use Rattle.dwc_native.specs.Built.{Setting, jumps_fit}
use Rattle.dwc_native.specs.BuiltExpressions.{BuildRefusal, unmapped_register, jump_too_large, Surroundings, memory_of, setting_at, ranges_built, register_refusal_at, register_refusal, memory_refusals, place_refusals, jump_refusals, build_refusals, BuiltExpressions, built_on, built_on_ranges, IsBoundedMemory, IsBounded}
use Rattle.dwc_machines.specs.NativeStates.{NativeState}
use Rattle.dwc_expr.specs.RunsAlike.{has_number, is_at_place, has_place, has_memory, is_set, CanRun}
use Rattle.dwc_expr.specs.WholeParts.{are_whole}
use Rattle.dwc_expr.proofs.Meaning.OperationActs.{Each}

-- ---- lists that are empty

empty-first : {A : Type 0} (xs : List A) → first_of xs ≡ None → xs ≡ []
empty-first [] h = refl
empty-first (x ∷ xs) h = absurd (cc)

pub empty-parts : {A : Type 0} (xs ys : List A) → xs ++ ys ≡ [] → (xs ≡ []) × (ys ≡ [])
empty-parts [] ys h = (refl, h)
empty-parts (x ∷ xs) ys h = absurd (omega (arith, ap length h))

pub empty-flat : {A B : Type 0} (f : A → List B) (xs : List A) → flat_map f xs ≡ [] → Each (λ x. f x ≡ []) xs
empty-flat f [] h = tt
empty-flat f (x ∷ xs) h = let both = empty-parts (f x) (flat_map f xs) h in (both.0, empty-flat f xs both.1)

empty-filter : {A B : Type 0} (f : A → Option B) (xs : List A) → filter_map f xs ≡ [] → Each (λ x. f x ≡ None) xs
empty-filter f [] h = tt
empty-filter f (x ∷ xs) h = go (f x) refl h (λ k. empty-filter f xs k)
  where
    go : (o : Option _) → f x ≡ o → cons_option o (filter_map f xs) ≡ [] → (filter_map f xs ≡ [] → Each (λ x. f x ≡ None) xs) → (f x ≡ None) × Each (λ x. f x ≡ None) xs
    go None e h rest = (e, rest h)
    go (Some y) e h rest = absurd (omega (arith, ap length h))

each-passed : {A : Type 0} (f : A → Bool) (xs : List A) → list_all f xs ≡ true → Each (λ x. f x ≡ true) xs
each-passed f [] h = tt
each-passed f (x ∷ xs) h = let both = and_parts (f x) (list_all f xs) h in (both.0, each-passed f xs both.1)

pub each-both : {A : Type 0} (P Q R : A → Type 0) (xs : List A) → ((x : A) → P x → Q x → R x) → Each P xs → Each Q xs → Each R xs
each-both P Q R [] f p q = tt
each-both P Q R (x ∷ xs) f p q = (f x p.0 q.0, each-both P Q R xs f p.1 q.1)

pub each-all : {A : Type 0} (P : A → Type 0) (xs : List A) → All P xs → Each P xs
each-all P [] h = tt
each-all P (x ∷ xs) h = (All-head P x xs h, each-all P xs (All-tail P x xs h))

pub zip-map : {A B : Type 0} (P : A → B → Type 0) (f : A → B) (xs : List A) → Each (λ x. P x (f x)) xs → AllZip P xs (map f xs)
zip-map P f [] h = tt
zip-map P f (x ∷ xs) h = (h.0, zip-map P f xs h.1)

-- ---- what parts need is there

sets-of : (s : Setting) (ps : List Part) → Each (λ l. has_place s l ≡ true) (filter_map label_needed ps) → (list_any is_dereference ps ≡ true → has_memory s.memory ≡ true) → list_all (is_set s) ps ≡ true
sets-of s [] places memory = refl
sets-of s (code c ∷ ps) places memory = sets-of s ps places memory
sets-of s (local label trailing ∷ ps) places memory = ap (λ b. b && list_all (is_set s) ps) places.0 ∙ sets-of s ps places.1 memory
sets-of s (dereference ∷ ps) places memory = ap (λ b. (b && has_place s context_label) && list_all (is_set s) ps) (memory refl) ∙ ap (λ b. b && list_all (is_set s) ps) places.0 ∙ sets-of s ps places.1 (λ h. memory refl)
sets-of s (jump conditionally place ∷ ps) places memory = sets-of s ps places memory
sets-of s (landing_pad place ∷ ps) places memory = sets-of s ps places memory

module _ (s : Surroundings) (bounded : IsBounded s) (r : NativeRange) where
  numbered : (q : ℕ) (o : Option ℕ) → s.register q ≡ o → register_refusal_at s.register (Some (in_register q)) ≡ None → has_number o ≡ true
  numbered q None e h = absurd (some-none (ap (λ o. if is_some o then None else Some (unmapped_register q)) (sym e) ∙ h))
    where
      some-none : ◌≡◌ {A = Option BuildRefusal} (Some (unmapped_register q)) None → ⊥
      some-none k = cc
  numbered q (Some number) e h = lt-ltb number (2 ^ 16) (bounded.registers q number e)

  place-of : (label : ℕ) → is_some (placed s.frame r.function r.start label) ≡ true → register_refusal (setting_at s r) label ≡ None → has_place (setting_at s r) label ≡ true
  place-of label some none = go (placed s.frame r.function r.start label) refl some none
    where
      go : (o : Option Place) → placed s.frame r.function r.start label ≡ o → is_some o ≡ true → register_refusal_at s.register o ≡ None → is_at_place s.register o ≡ true
      go None e some none = absurd (true≢false (sym some))
      go (Some (in_register q)) e some none = numbered q (s.register q) refl none
      go (Some (at_frame_offset offset)) e some none = bounded.places r.function r.start label (at_frame_offset offset) e

  memory-of : (m : Memory) → IsBoundedMemory m → memory_refusals m true ≡ [] → has_memory m ≡ true
  memory-of no_memory b h = absurd (omega (arith, ap length h))
  memory-of (defined o) b h = lt-ltb o (2 ^ 32) b
  memory-of (imported a c) b h = ap (λ t. t && ltb c (2 ^ 32)) (lt-ltb a (2 ^ 32) b.0) ∙ lt-ltb c (2 ^ 32) b.1

  fits-of : (x : CompiledParts) → jump_refusals x (setting_at s r) ≡ [] → jumps_fit (setting_at s r) (built_parts x) ≡ true
  fits-of x h = go (jumps_fit (setting_at s r) (built_parts x)) h
    where
      go : (b : Bool) → (if b then [] else jump_too_large ∷ []) ≡ [] → b ≡ true
      go true h = refl
      go false h = absurd (omega (arith, ap length h))

  -- parts can run where all that is needed has a place and nothing is refused
  pub can-run : (x : CompiledParts) (n : NativeState) → are_whole (built_parts x) ≡ true → all_placed s.frame (needed_labels x) r.function r.start ≡ true → place_refusals x (setting_at s r) ≡ [] → jump_refusals x (setting_at s r) ≡ []
      → is_one_of (4 ∷ 8 ∷ []) n.pointer_bytes ≡ true → CanRun n (setting_at s r) (built_parts x)
  can-run x n whole all none jumps addresses =
      let both = empty-parts (memory_refusals (memory_of s.frame) (reads_memory x)) (filter_map (register_refusal (setting_at s r)) (needed_labels x)) none in
      record {
        whole = whole;
        set = sets-of (setting_at s r) (built_parts x)
            (each-both (λ l. is_some (placed s.frame r.function r.start l) ≡ true) (λ l. register_refusal (setting_at s r) l ≡ None) (λ l. has_place (setting_at s r) l ≡ true) (needed_labels x) place-of
            (each-passed (λ l. is_some (placed s.frame r.function r.start l)) (needed_labels x) all) (empty-filter (register_refusal (setting_at s r)) (needed_labels x) both.1))
            (λ reads. memory-of (memory_of s.frame) bounded.memory (ap (memory_refusals (memory_of s.frame)) (sym reads) ∙ both.0));
        fit = fits-of x jumps;
        addresses = addresses;
      }

-- ---- what is built

pub built-is : (s : Surroundings) (scope : List NativeRange) (x : CompiledParts) (built : BuiltExpressions) → built_on_ranges s scope x ≡ Ok built → (build_refusals s scope x ≡ []) × (built.expressions ≡ map (built_on s x) (ranges_built s scope x))
built-is s scope x built h = go (first_of (build_refusals s scope x)) refl h
  where
    expressions_of : Result BuiltExpressions BuildRefusal → List Location
    expressions_of (Ok b) = b.expressions
    expressions_of (Err e) = []

    go : (o : Option BuildRefusal) → first_of (build_refusals s scope x) ≡ o → ◌≡◌ {A = Result BuiltExpressions BuildRefusal} (elim o [ Some refusal ↦ Err refusal | None ↦ Ok (record { expressions = map (built_on s x) (ranges_built s scope x); covers_entire_scope = all_bytes_placed s.frame (needed_labels x) scope }) ]) (Ok built)
        → (build_refusals s scope x ≡ []) × (built.expressions ≡ map (built_on s x) (ranges_built s scope x))
    go (Some refusal) e h = absurd (cc)
    go None e h = (empty-first (build_refusals s scope x) e, sym (ap expressions_of h))
