-- That entries one after another are the tree of a unit. (DWARF 4 and 5, section 2.3.)
use Rattle.std.specs.Prelude.{ℕ, suc, ◌==◌, List, [], ◌∷◌, map, Bool, true, false, nat_le, nat_lt, not, ◌&&◌, IsTrue}
use Rattle.dwc_rules.specs.Kept.{Placed}
use Rattle.dwc_rules.specs.Drafts.{Draft}
use Rattle.dwc_rules.specs.Wrappers.{WrapperSource, is_wrapped, entries_made}

-- Whether depths go on behind one of them, below a depth: each at most one below the one before it.
abbrev pub go_on_below : ℕ → ℕ → List ℕ → Bool
go_on_below depth before [] = true
go_on_below depth before (d ∷ ds) = nat_lt depth d && nat_le d (suc before) && go_on_below depth d ds

-- whether depths are those of an entry at a depth, and of entries that lie in it
abbrev pub are_within : ℕ → List ℕ → Bool
are_within depth [] = false
are_within depth (d ∷ ds) = (d == depth) && go_on_below depth d ds

-- The entries of a unit before their places are known are in file order: the root first, and no other entry at its depth.
abbrev pub IsInFileOrder : List Draft → Type 0
IsInFileOrder ds = IsTrue (are_within 0 (map (λ d. d.depth) ds))

-- The law of wrappers: where the kept entries of a unit are in file order, its root is not wrapped, and each entry becomes by itself an
-- entry at its own depth with what lies in that, all of them are in file order.
abbrev pub KeepFileOrder : WrapperSource → (Placed → List Draft) → Placed → List Placed → Type 0
KeepFileOrder s clone root es =
    ((e : Placed) → IsTrue (are_within e.entry.depth (map (λ d. d.depth) (clone e))))
    → IsTrue (not (is_wrapped s.output root))
    → IsTrue (are_within 0 (map (λ e. e.entry.depth) (root ∷ es)))
    → IsInFileOrder (entries_made s clone (root ∷ es))
