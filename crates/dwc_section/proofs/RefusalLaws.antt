-- Refusals for the size of a section: one for a size is one for a greater size.
use Rattle.std.proofs.Common.{◌≡◌, ℕ, ◌<◌, sym, subst, ◌∙◌, Option, Some, None, Bool, true, false, Result, Err}
use Rattle.std.specs.Prelude.{◌↔◌, IfErr, IsSomeAnd}
use Rattle.std.proofs.lemmas.Result.{IfErr-at_err}
use Rattle.dwc_base.specs.declared.section_name.SectionName.{SectionName}
use Rattle.dwc_section.specs.declared.error.WriteError.{WriteError}
use Rattle.dwc_section.specs.declared.error.WriteError.TheVariants.{TooLarge, InvalidFrameCodeOffset, InvalidFrameDataOffset, OutOfMemory}
use Rattle.dwc_base.specs.declared.faults.Limit.TheVariants.{Expression}
use Rattle.dwc_section.specs.Writers.{HoldsOf, IsPast, IsRefusalFor, IsSizeRefusal, most_bytes, section_of}

some-weaker : (P Q : SectionName → Type 0) → ((name : SectionName) → P name → Q name) → (s : Option SectionName) → IsSomeAnd s P → IsSomeAnd s Q
some-weaker P Q weaker None h = h
some-weaker P Q weaker (Some name) h = weaker name h

pub refusal-weaker : (P Q : SectionName → Type 0) → ((name : SectionName) → P name → Q name) → (e : WriteError) → IsSizeRefusal P e → IsSizeRefusal Q e
refusal-weaker P Q weaker OutOfMemory refused = tt
refusal-weaker P Q weaker (InvalidFrameCodeOffset symbol) refused = absurd refused
refusal-weaker P Q weaker (InvalidFrameDataOffset symbol) refused = absurd refused
refusal-weaker P Q weaker (TooLarge what) refused = some-weaker P Q weaker (section_of what) refused

-- a section's refusal
pub past-more : (own other : SectionName) (n total : ℕ) (e : WriteError) → own ≡ other → (most_bytes < n → most_bytes < total) → IsSizeRefusal (IsPast own n) e → IsSizeRefusal (IsPast other total) e
past-more own other n total e named more refused = refusal-weaker (IsPast own n) (IsPast other total) (λ name h. (h.0 ∙ named, more h.1)) e refused

-- a section's refusal, among those of all sections
pub past-among : (size : SectionName → ℕ) (own : SectionName) (n : ℕ) (e : WriteError) → (most_bytes < n → most_bytes < size own) → IsSizeRefusal (IsPast own n) e → IsSizeRefusal (λ name. most_bytes < size name) e
past-among size own n e more refused = refusal-weaker (IsPast own n) (λ name. most_bytes < size name) (λ name h. subst (λ m. most_bytes < size m) (sym h.0) (more h.1)) e refused

-- want of memory aside
pub past-limit : (own : SectionName) (n total : ℕ) (s : Option SectionName) → (most_bytes < n → most_bytes < total) → IsSomeAnd s (IsPast own n) → IsSomeAnd s (IsPast own total)
past-limit own n total s more h = some-weaker (IsPast own n) (IsPast own total) (λ name p. (p.0, more p.1)) s h

-- a refusal for a size is one where others may be for an expression
pub size-refusal : (Q : Type 0) (P : SectionName → Type 0) (e : WriteError) → IsSizeRefusal P e → IsRefusalFor Q P e
size-refusal Q P OutOfMemory refused = tt
size-refusal Q P (InvalidFrameCodeOffset symbol) refused = absurd refused
size-refusal Q P (InvalidFrameDataOffset symbol) refused = absurd refused
size-refusal Q P (TooLarge what) refused = go (section_of what) refused
  where
    go : (s : Option SectionName) → IsSomeAnd s P → HoldsOf ((what ≡ Expression) × Q) P s
    go None h = absurd h
    go (Some name) h = h

pub memory-refusal : (Q : Type 0) (P : SectionName → Type 0) (e : WriteError) → e ≡ OutOfMemory → IsRefusalFor Q P e
memory-refusal Q P e is = subst (IsRefusalFor Q P) (sym is) tt

-- where no expression is too long, no refusal is for one
pub none-for-expressions : {A : Type 0} (short : Bool) (P : SectionName → Type 0) (result : Result A WriteError) → short ≡ true → IfErr result (IsRefusalFor (short ≡ false) P) → (result ≡ Err (TooLarge Expression)) ↔ (short ≡ false)
none-for-expressions short P result are refused =
    (λ is. let for : (Expression ≡ Expression) × (short ≡ false) = IfErr-at_err (IsRefusalFor (short ≡ false) P) is refused in for.1, λ long. let wrong : true ≡ false = sym are ∙ long in absurd (cc))
