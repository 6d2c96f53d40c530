-- What an entry has of the native code.
use Rattle.std.proofs.Common.{◌≡◌, ◌<◌, ℕ, List, [], ◌∷◌, ◌++◌, length, ap, sym, ◌∙◌, arith, false, Option, Some}
use Rattle.std.specs.List.{flat_map}
use Rattle.std.specs.Prelude.{◌==◌, map, option_map, option_to_list}
use Rattle.dwc_base.specs.declared.records.Address.{Address}
use Rattle.dwc_native.specs.Functions.{Function}
use Rattle.dwc_rules.specs.RangeAttributes.{Extent, intervals, nowhere, position, said_extent, said_intervals}
use Rattle.dwc_native.specs.ScopesKept.{native_of_intervals}
use Rattle.dwc_native.specs.Runs.{native}
use Rattle.dwc_rules.specs.Scopes.{scope_of_extent}
use Rattle.dwc_tabs.specs.RangeEnds.{interval_view}
use Rattle.dwc_unit.specs.RangeLists.{interval_of}
use Rattle.dwc_extents.specs.NativeExtents.{AreRanges}

-- an interval alone
pub one-said : (fs : List Function) (tag : ℕ) (o : Option (Address × Address)) (p : Address × Address) (rs : List (Address × ℕ)) → o ≡ Some p → AreRanges rs ([] ++ native_of_intervals fs (interval_view p ∷ []))
    → said_intervals tag (map interval_of rs) ≡ said_extent fs tag (intervals (option_to_list (option_map interval_view o)))
one-said fs tag o p rs is are = ap (said_intervals tag) are.say ∙ ap (λ q. said_extent fs tag (intervals (option_to_list (option_map interval_view q)))) (sym is)

-- an extent by the intervals of wasm offsets that it is, of which there is one at least
pub scope-said : (fs : List Function) (tag : ℕ) (e : Extent) (scope : List (ℕ × ℕ)) (rs : List (Address × ℕ)) → scope ≡ scope_of_extent e → 0 < length scope → AreRanges rs (flat_map (λ i. native fs i.0 i.1) scope)
    → said_intervals tag (map interval_of rs) ≡ said_extent fs tag e
unfolding native_of_intervals
scope-said fs tag (intervals []) scope rs is some are = absurd (let none : length scope ≡ 0 = ap length is in omega (arith, some, none))
scope-said fs tag (intervals (i ∷ is)) scope rs same some are = ap (said_intervals tag) (are.say ∙ ap (flat_map (λ i. native fs i.0 i.1)) same)
scope-said fs tag (position a) scope rs is some are = absurd (let none : length scope ≡ 0 = ap length is in omega (arith, some, none))
scope-said fs tag nowhere scope rs is some are = absurd (let none : length scope ≡ 0 = ap length is in omega (arith, some, none))

pub some-intervals : (scope : List (ℕ × ℕ)) → (length scope == 0) ≡ false → 0 < length scope
some-intervals [] is = absurd (cc)
some-intervals (i ∷ is) some = omega arith
