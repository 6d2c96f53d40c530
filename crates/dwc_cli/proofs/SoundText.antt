-- Sound sections are plain.
use Rattle.std.proofs.Common.{◌≡◌, List, [], ◌∷◌, length, refl, ap, ◌∙◌, arith, Bool, true, All, ℕ}
use Rattle.std.specs.Prelude.{nat_lt, ◌≤◌, ◌<◌, ◌^◌, ℤ, pos, negsuc, FitsSigned}
use Rattle.std.specs.Int.{w32}
use Rattle.std.specs.List.{list_all}
use Rattle.std.proofs.lemmas.Bool.{lt-ltb}
use Rattle.std.proofs.lemmas.List.Elements.{All-head, All-tail}
use Rattle.dwc_base.specs.declared.records.Endian.{Endian}
use Rattle.dwc_base.specs.declared.section_name.SectionName.{SectionName}
use Rattle.dwc_base.specs.declared.section_name.SectionName.TheVariants.{Abbrev, Addr, Info, Line, LineStr, Loc, Loclists, Ranges, Rnglists, Str, StrOffsets, CuIndex, Frame}
use Rattle.dwc_base.specs.Sections.{section_text}
use Rattle.dwc_base.specs.Outputs.{RelocationTarget, function, section, OutputRelocation, OutputSection}
use Rattle.dwc_section.specs.Writers.{FitsTarget, IsWhole, IsSound, most_bytes}
use Rattle.dwc_cli.specs.Printed.{is_plain, is_plain_relocation, is_plain_target, is_plain_addend, is_word}

word : (name : SectionName) → is_word (section_text name) ≡ true
word Abbrev = refl
word Addr = refl
word Info = refl
word Line = refl
word LineStr = refl
word Loc = refl
word Loclists = refl
word Ranges = refl
word Rnglists = refl
word Str = refl
word StrOffsets = refl
word CuIndex = refl
word Frame = refl

plain_target : (target : RelocationTarget) → FitsTarget target → is_plain_target target ≡ true
plain_target (function n) h = lt-ltb n (2 ^ 64) h
plain_target (section name) h = ap is_word h.1 ∙ word h.0

plain_addend : (a : ℤ) → FitsSigned w32 a → is_plain_addend a ≡ true
plain_addend (pos n) h = lt-ltb n (2 ^ 63) (omega (arith, h))
plain_addend (negsuc n) h = lt-ltb n (2 ^ 63) (omega (arith, h))

all_true : {X : Type 0} (P : X → Type 0) (p : X → Bool) → ((x : X) → P x → p x ≡ true) → (xs : List X) → All P xs → list_all p xs ≡ true
all_true P p each [] h = refl
all_true P p each (x ∷ xs) h = rw (each x (All-head P x xs h)) (all_true P p each xs (All-tail P x xs h))

plain_relocation : (order : Endian) (body : List ℕ) → length body ≤ most_bytes → (r : OutputRelocation) → IsWhole order body r → is_plain_relocation r ≡ true
plain_relocation order body short r h =
    rw (lt-ltb r.offset (2 ^ 64) (omega (arith, h.inside, short)), lt-ltb r.size (2 ^ 64) (omega (arith, h.inside, short)), plain_target r.target h.target, plain_addend r.addend h.addend) refl

plain_section : (order : Endian) (s : OutputSection) → IsSound order s → is_plain s ≡ true
plain_section order s h =
    rw (
      ap is_word h.named ∙ word h.name,
      all_true (λ (b : ℕ). b < 256) (λ b. nat_lt b 256) (λ b less. lt-ltb b 256 less) s.body h.bytes,
      all_true (IsWhole order s.body) is_plain_relocation (plain_relocation order s.body h.short) s.relocations h.relocations,
    ) refl

-- sound sections have texts that name them
pub plain-sound : (order : Endian) (sections : List OutputSection) → All (IsSound order) sections → list_all is_plain sections ≡ true
plain-sound order = all_true (IsSound order) is_plain (plain_section order)
