-- For a debugger what intervals are translated to covers exactly the bytes at which a source of them is shown, in every function.
use Rattle.std.proofs.Common.{◌≡◌, ℕ, ◌<◌, List, [], ◌∷◌, Option, Some, None, refl, sym, ap, ap₂, ◌∙◌, subst}
use Rattle.std.specs.Prelude.{Bool, true, false, ◌==◌, ◌&&◌, ◌||◌, nat_le, nat_lt, if◌then◌else◌, map, is_some, option_map, Contains}
use Rattle.std.specs.List.{filter}
use Rattle.std.proofs.lemmas.Bool.{eq-eqb, eqb-true}
use Rattle.std.proofs.lemmas.List.Elements.{All-contains_itself}
use Rattle.std.proofs.lemmas.List.Folds.{list_any-append}
use Rattle.dwc_base.specs.declared.records.OutputFor.TheVariants.{Debugger}
use Rattle.dwc_native.specs.Functions.{Function, owner, with_symbol, is_unlinked, function_at}
use Rattle.dwc_dwarf.specs.Trees.{Interval}
use Rattle.dwc_native.specs.ShownSources.{shown_source, is_source_in, exact_ranges, have_byte}
use Rattle.dwc_native.specs.Runs.{native_ranges, native_in_function, native, as_intervals, interval_of}
use Rattle.dwc_native.specs.Placed.{scope_intervals}
use Rattle.dwc_native.specs.ScopesKept.{begins_in, is_shown_in, AreNumbered, cover_byte, is_at_or_below, is_behind}
use Rattle.dwc_base.proofs.InLists.{contains-in, distinct-same, filter-in}
use Rattle.dwc_addr.proofs.OwnerLaws.{function_at-among}
use Rattle.dwc_addr.proofs.ShownLaws.{exact}

-- ---- the function that an address is in

-- it is one of the functions, and has a symbol
pub record IsNamed (fs : List Function) (g : Function) : Type 0 where
  pub among : Contains fs g
  pub named : is_some g.symbol ≡ true

pub function_at-named : (fs : List Function) (a : ℕ) (g : Function) → function_at fs a ≡ Some g → IsNamed fs g
function_at-named fs a g h = record { among = function_at-among (Contains fs) fs a g (All-contains_itself fs) h; named = go (is_unlinked a) (owner fs a) h }
  where
    go : (b : Bool) (o : Option Function) → ◌≡◌ {A = Option Function} (if b then None else with_symbol o) (Some g) → is_some g.symbol ≡ true
    go true o h = absurd (cc)
    go false None h = absurd (cc)
    go false (Some k) h = one (is_some k.symbol) refl h
      where
        one : (c : Bool) → is_some k.symbol ≡ c → ◌≡◌ {A = Option Function} (if c then Some k else None) (Some g) → is_some g.symbol ≡ true
        one true is h = let same : k ≡ g = cc in subst (λ (x : Function). is_some x.symbol ≡ true) same is
        one false is h = absurd (cc)

-- functions with a symbol and one number are one
pub same-function : (fs : List Function) (f g : Function) → AreNumbered fs → IsNamed fs f → IsNamed fs g → f.number ≡ g.number → f ≡ g
same-function fs f g numbered is of same =
    distinct-same (λ (x : Function). x.number) (filter (λ (x : Function). is_some x.symbol) fs) f g numbered.apart
    (filter-in (λ (x : Function). is_some x.symbol) fs f (contains-in fs f is.among) is.named) (filter-in (λ (x : Function). is_some x.symbol) fs g (contains-in fs g of.among) of.named) same

-- ---- one interval

-- the ranges of a function whose output is for a debugger
pub for-debugger : (f : Function) (start end : ℕ) → f.output ≡ Debugger → native_ranges f start end ≡ exact_ranges f start end
unfolding native_ranges
for-debugger f start end is = rw is refl

-- ranges of a function cover its bytes, and none of others
ranges-cover : (number byte : ℕ) (rs : List (ℕ × ℕ)) → (number == number) ≡ true → cover_byte (map (interval_of number) rs) number byte ≡ have_byte rs byte
ranges-cover number byte [] own = refl
ranges-cover number byte (r ∷ rs) own = ap₂ (λ (a b : Bool). a || b) (ap (λ b. (b && nat_le r.0 byte) && (b && nat_lt byte r.1)) own) (ranges-cover number byte rs own)

others-cover : (number other byte : ℕ) (rs : List (ℕ × ℕ)) → (other == number) ≡ false → cover_byte (map (interval_of other) rs) number byte ≡ false
others-cover number other byte [] apart = refl
others-cover number other byte (r ∷ rs) apart = ap₂ (λ (a b : Bool). a || b) (ap (λ b. (b && nat_le r.0 byte) && (b && nat_lt byte r.1)) apart) (others-cover number other byte rs apart)

module _ (fs : List Function) (numbered : AreNumbered fs) (f : Function) (byte : ℕ) (for_debugger : f.output ≡ Debugger) (among : Contains fs f) (named : is_some f.symbol ≡ true) (within : byte < f.length) where
  own-ranges : (w : ℕ × ℕ) → cover_byte (map (interval_of f.number) (native_ranges f w.0 w.1)) f.number byte ≡ is_source_in w.0 w.1 (shown_source f byte)
  own-ranges w = ranges-cover f.number byte (native_ranges f w.0 w.1) (eq-own f.number) ∙ ap (λ rs. have_byte rs byte) (for-debugger f w.0 w.1 for_debugger) ∙ exact f w.0 w.1 byte within
    where
      eq-own : (n : ℕ) → (n == n) ≡ true
      eq-own n = eq-eqb n n refl

  interval-shown : (w : ℕ × ℕ) → cover_byte (native fs w.0 w.1) f.number byte ≡ (begins_in fs f w && is_source_in w.0 w.1 (shown_source f byte))
  unfolding native native_in_function
  interval-shown w = go (function_at fs w.0) refl
    where
      in_it : Bool
      in_it = is_source_in w.0 w.1 (shown_source f byte)

      at : (g : Function) → IsNamed fs g → (b : Bool) → (g.number == f.number) ≡ b → cover_byte (map (interval_of g.number) (native_ranges g w.0 w.1)) f.number byte ≡ (b && in_it)
      at g of true e =
          let same : f ≡ g = same-function fs f g numbered (record { among = among; named = named }) of (sym (eqb-true g.number f.number e)) in
          subst (λ (x : Function). cover_byte (map (interval_of x.number) (native_ranges x w.0 w.1)) f.number byte ≡ in_it) same (own-ranges w)
      at g of false e = others-cover f.number g.number byte (native_ranges g w.0 w.1) e

      go : (o : Option Function) → function_at fs w.0 ≡ o
          → cover_byte (as_intervals (option_map (λ g. (g.number, native_ranges g w.0 w.1)) (function_at fs w.0))) f.number byte ≡ (begins_in fs f w && in_it)
      go None e = rw e refl
      go (Some g) e = rw e (at g (function_at-named fs w.0 g e) (g.number == f.number) refl)

  -- ---- all intervals

  pub scope-shown : (ws : List (ℕ × ℕ)) → cover_byte (scope_intervals fs ws) f.number byte ≡ is_shown_in fs ws f byte
  scope-shown [] = refl
  scope-shown (w ∷ ws) =
      list_any-append (λ (i : Interval). is_at_or_below f.number byte i.begin && is_behind f.number byte i.end) (native fs w.0 w.1) (scope_intervals fs ws)
      ∙ ap₂ (λ (a b : Bool). a || b) (interval-shown w) (scope-shown ws)
