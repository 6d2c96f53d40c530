-- Parts one behind another, with neighbouring bytes joined.
use Rattle.std.specs.Prelude.{◌-◌, List, [], ◌∷◌, ◌++◌, length, slice_index_or, Bool, true, false}
use Rattle.dwc_native.specs.Parts.{Part, code, dereference}

-- whether a part is bytes
abbrev pub is_code : Part → Bool
is_code (code bytes) = true
is_code _ = false

-- whether there is a last part and it is bytes
abbrev pub ends_in_code : List Part → Bool
ends_in_code ps = is_code (slice_index_or ps (length ps - 1) dereference)

-- two parts, which are one where both are bytes
abbrev pub beside : Part → Part → List Part
beside (code c) (code d) = code (c ++ d) ∷ []
beside p q = p ∷ q ∷ []

-- parts with one more behind them
abbrev pub behind : List Part → Part → List Part
behind [] q = q ∷ []
behind (p ∷ []) q = beside p q
behind (p ∷ r ∷ ps) q = p ∷ behind (r ∷ ps) q
