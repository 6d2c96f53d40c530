-- The source of a byte is the one that is shown there; so what an interval is translated to for a debugger has the bytes of its sources.
use Rattle.std.proofs.Common.{◌≡◌, ℕ, ◌<◌, ◌≤◌, List, [], ◌∷◌, Option, Some, None, refl, sym, ap, ◌∙◌, arith}
use Rattle.std.specs.Prelude.{Bool, true, false, ◌&&◌, nat_le, nat_lt, if◌then◌else◌, option_and_then, Contains}
use Rattle.std.specs.Option.{option_or, unwrap_or}
use Rattle.std.specs.List.{filter_map}
use Rattle.std.proofs.lemmas.Bool.{and_parts, and_from, eq-eqb, leb-true, le-leb, ltb-true, lt-ltb}
use Rattle.dwc_native.specs.Functions.{Function, recorded_entry, recorded_sources, function_at}
use Rattle.dwc_native.specs.ShownSources.{first_shown, last_source, shown_source, is_source_in, exact_ranges, has_byte, have_byte}
use Rattle.dwc_native.specs.ScopesKept.{begins_in, is_shown_in, entry_for_byte, source_of_byte}
use Rattle.dwc_base.proofs.InLists.{IsIn, contains-in, in-any}
use Rattle.dwc_addr.proofs.ShownLaws.{exact}

-- ---- the source of a byte is the one that is shown

abbrev sources_of : List (ℕ × Option ℕ) → ℕ → Option ℕ
sources_of es byte = last_source (filter_map recorded_entry es) byte

last-none : (es : List (ℕ × Option ℕ)) (byte : ℕ) → entry_for_byte es byte ≡ None → sources_of es byte ≡ None
last-none [] byte h = refl
last-none ((n, None) ∷ es) byte h = go (entry_for_byte es byte) (λ none. last-none es byte none) h
  where
    go : (o : Option (Option ℕ)) → (o ≡ None → sources_of es byte ≡ None) → option_or o (if nat_le n byte then Some None else None) ≡ None → sources_of es byte ≡ None
    go None behind k = behind refl
    go (Some x) behind k = absurd (cc)
last-none ((n, Some w) ∷ es) byte h = go (entry_for_byte es byte) (λ none. last-none es byte none) (nat_le n byte) h
  where
    go : (o : Option (Option ℕ)) → (o ≡ None → sources_of es byte ≡ None) → (b : Bool) → option_or o (if b then Some (Some w) else None) ≡ None → option_or (sources_of es byte) (if b then Some w else None) ≡ None
    go (Some x) behind b k = absurd (cc)
    go None behind true k = absurd (cc)
    go None behind false k = ap (λ o. option_or o None) (behind refl)

last-some : (es : List (ℕ × Option ℕ)) (byte source : ℕ) → entry_for_byte es byte ≡ Some (Some source) → sources_of es byte ≡ Some source
last-some [] byte source h = absurd (cc)
last-some ((n, None) ∷ es) byte source h = go (entry_for_byte es byte) (λ some. last-some es byte source some) (nat_le n byte) h
  where
    go : (o : Option (Option ℕ)) → (o ≡ Some (Some source) → sources_of es byte ≡ Some source) → (b : Bool) → option_or o (if b then Some None else None) ≡ Some (Some source) → sources_of es byte ≡ Some source
    go (Some x) behind b k = behind k
    go None behind true k = absurd (cc)
    go None behind false k = absurd (cc)
last-some ((n, Some w) ∷ es) byte source h = go (entry_for_byte es byte) refl (λ some. last-some es byte source some) (nat_le n byte) h
  where
    go : (o : Option (Option ℕ)) → entry_for_byte es byte ≡ o → (o ≡ Some (Some source) → sources_of es byte ≡ Some source) → (b : Bool) → option_or o (if b then Some (Some w) else None) ≡ Some (Some source)
        → option_or (sources_of es byte) (if b then Some w else None) ≡ Some source
    go (Some x) e behind b k = ap (λ o. option_or o (if b then Some w else None)) (behind k)
    go None e behind true k = let same : w ≡ source = cc in ap (λ o. option_or o (Some w)) (last-none es byte e) ∙ ap (λ n. Some n) same
    go None e behind false k = absurd (cc)

pub shown-is : (f : Function) (byte source : ℕ) → source_of_byte f byte ≡ Some source → shown_source f byte ≡ source
unfolding shown_source
shown-is f byte source h = go (entry_for_byte f.entries byte) refl h
  where
    go : (o : Option (Option ℕ)) → entry_for_byte f.entries byte ≡ o → option_and_then (λ source. source) o ≡ Some source → unwrap_or (last_source (recorded_sources f) byte) (first_shown f) ≡ source
    go None e k = absurd (cc)
    go (Some None) e k = absurd (cc)
    go (Some (Some w)) e k = let same : w ≡ source = cc in ap (λ o. unwrap_or o (first_shown f)) (last-some f.entries byte source (e ∙ ap (λ n. Some (Some n)) same))

-- ---- what a scope is translated to

-- a byte of a range of an interval has its source in the interval
pub in-range : (f : Function) (byte source : ℕ) (w n : ℕ × ℕ) → source_of_byte f byte ≡ Some source → IsIn n (exact_ranges f w.0 w.1) → n.0 ≤ byte → byte < n.1 → byte < f.length → (w.0 ≤ source) × (source < w.1)
in-range f byte source w n is among from to within =
    let had : have_byte (exact_ranges f w.0 w.1) byte ≡ true =
    in-any (has_byte byte) (exact_ranges f w.0 w.1) n among (and_from (nat_le n.0 byte) (nat_lt byte n.1) (le-leb n.0 byte from) (lt-ltb byte n.1 to)) in
    let ends = and_parts (nat_le w.0 (shown_source f byte)) (nat_lt (shown_source f byte) w.1) (sym (exact f w.0 w.1 byte within) ∙ had) in
    (omega (arith, shown-is f byte source is, leb-true w.0 (shown_source f byte) ends.0), omega (arith, shown-is f byte source is, ltb-true (shown_source f byte) w.1 ends.1))

-- where a source of an interval that begins in a function is a byte's, one of the scope is shown there
pub shown-if : (fs : List Function) (ws : List (ℕ × ℕ)) (w : ℕ × ℕ) (f : Function) (byte source : ℕ) → source_of_byte f byte ≡ Some source → Contains ws w → function_at fs w.0 ≡ Some f → w.0 ≤ source → source < w.1
    → is_shown_in fs ws f byte ≡ true
shown-if fs ws w f byte source is among begun from to =
    in-any (λ (w : ℕ × ℕ). begins_in fs f w && is_source_in w.0 w.1 (shown_source f byte)) ws w (contains-in ws w among)
    (and_from (begins_in fs f w) (is_source_in w.0 w.1 (shown_source f byte)) (rw begun (eq-eqb f.number f.number refl))
    (and_from (nat_le w.0 (shown_source f byte)) (nat_lt (shown_source f byte) w.1) (le-leb w.0 (shown_source f byte) (omega (arith, shown-is f byte source is, from))) (lt-ltb (shown_source f byte) w.1 (omega (arith, shown-is f byte source is, to)))))
