-- Lists of version 5 by computation.
use Rattle.std.proofs.Common.{◌≡◌, refl, [], ◌∷◌, ◌++◌, Some, None, length}
use Rattle.std.specs.Prelude.{pos}
use Rattle.dwc_base.specs.declared.records.Address.TheVariants.{Symbol}
use Rattle.dwc_base.specs.declared.records.Endian.TheVariants.{Little, Big}
use Rattle.dwc_base.specs.NumberBytes.{uleb_bytes, uleb_bytes_within}
use Rattle.dwc_base.specs.Outputs.{function}
use Rattle.dwc_unit.specs.Lists.{ListEntry, contribution_bytes, contribution_relocations, ended, list_bytes}

-- one interval of 300 bytes at a function, and an expression that holds there
abbrev one_range : ListEntry
one_range = record { begin = Symbol 7 (pos 16); extent = 300; holds = None }

abbrev one_location : ListEntry
one_location = record { begin = Symbol 7 (pos 16); extent = 300; holds = Some (80 ∷ []) }

-- a list without intervals
no-intervals : contribution_bytes 5 Little 8 (ended []) ≡ 9 ∷ 0 ∷ 0 ∷ 0 ∷ 5 ∷ 0 ∷ 8 ∷ 0 ∷ 0 ∷ 0 ∷ 0 ∷ 0 ∷ 0 ∷ []
no-intervals = refl

thirteen-bytes : length (contribution_bytes 5 Little 8 (ended [])) ≡ 13
thirteen-bytes = refl

-- no list
no-lists : contribution_bytes 5 Little 8 [] ≡ []
no-lists = refl

range-bytes : contribution_bytes 5 Big 4 (ended (one_range ∷ [])) ≡ 0 ∷ 0 ∷ 0 ∷ 16 ∷ 0 ∷ 5 ∷ 4 ∷ 0 ∷ 0 ∷ 0 ∷ 0 ∷ 0 ∷ 7 ∷ 0 ∷ 0 ∷ 0 ∷ 16 ∷ 172 ∷ 2 ∷ 0 ∷ []
unfolding uleb_bytes uleb_bytes_within
range-bytes = refl

location-bytes : list_bytes 5 Little 4 (ended (one_location ∷ [])) ≡ 8 ∷ 16 ∷ 0 ∷ 0 ∷ 0 ∷ 172 ∷ 2 ∷ 1 ∷ 80 ∷ 0 ∷ []
unfolding uleb_bytes uleb_bytes_within
location-bytes = refl

range-relocations : contribution_relocations 5 Little 4 100 (ended (one_range ∷ [])) ≡ record { offset = 113; size = 4; target = function 7; addend = pos 16 } ∷ []
range-relocations = refl

-- the same in version 4
old-bytes : contribution_bytes 4 Little 4 (ended (one_location ∷ [])) ≡ (16 ∷ 0 ∷ 0 ∷ 0 ∷ 60 ∷ 1 ∷ 0 ∷ 0 ∷ 1 ∷ 0 ∷ 80 ∷ []) ++ (0 ∷ 0 ∷ 0 ∷ 0 ∷ 0 ∷ 0 ∷ 0 ∷ 0 ∷ [])
old-bytes = refl
