-- Skips: attributes one behind another that lead nowhere and are always as long.
use Rattle.std.specs.Prelude.{◌≡◌, ℕ, zero, suc, ◌+◌, List, [], ◌∷◌, map, Option, Some, None, option_map, option_and_then}
use Rattle.dwc_base.specs.Abbreviations as table
use Rattle.dwc_read.specs.declared.attribute_spec.AttributeSpec.{AttributeSpec}
use Rattle.dwc_read.specs.declared.skips.Skip.{Skip}
use Rattle.dwc_read.specs.AttributeSpecs.{spec_view}
use Rattle.dwc_read.specs.Links.{passed_size}

-- how many bytes the first attributes take together, as many as said, where each leads nowhere and is always as long
abbrev pub passed_bytes : ℕ → List table.AttributeSpec → Option ℕ
passed_bytes zero specs = Some 0
passed_bytes (suc n) [] = None
passed_bytes (suc n) (spec ∷ specs) = option_and_then (λ size. option_map (λ rest. size + rest) (passed_bytes n specs)) (passed_size spec.name spec.form)

-- a skip is one of the first attributes
abbrev pub IsSkip : Skip → List table.AttributeSpec → Type 0
IsSkip skip specs = passed_bytes skip.attributes specs ≡ Some skip.bytes

-- what the skip that each attribute begins takes
abbrev pub skips_of : List AttributeSpec → List (Option ℕ)
skips_of [] = []
skips_of (spec ∷ specs) = passed_bytes spec.skip (map spec_view (spec ∷ specs)) ∷ skips_of specs

-- each attribute notes the skip that it begins, or none
abbrev pub AreSkips : List AttributeSpec → Type 0
AreSkips specs = skips_of specs ≡ map (λ spec. Some spec.skip_bytes) specs
