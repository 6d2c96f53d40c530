-- What stands in a buffer that grows by parts: for loops that append, whose invariant says what is there and what is still to come.
use Rattle.std.proofs.Common.{◌≡◌, ℕ, List, ◌++◌, append_assoc, sym, ap, ◌∙◌}

-- a part more, of what was still to come
pub appended-more : (before now part rest coming whole : List ℕ) → now ≡ before ++ part → coming ≡ part ++ rest → before ++ coming ≡ whole → now ++ rest ≡ whole
appended-more before now part rest coming whole grown split invariant =
    rw (grown, append_assoc) (ap (λ bytes. before ++ bytes) (sym split) ∙ invariant)

-- the last part
pub appended-last : (before now part coming whole : List ℕ) → now ≡ before ++ part → coming ≡ part → before ++ coming ≡ whole → now ≡ whole
appended-last before now part coming whole grown split invariant = grown ∙ ap (λ bytes. before ++ bytes) (sym split) ∙ invariant
