-- The numbers of a JSON text that is read fit 64 bits.
use Rattle.std.proofs.Common.{◌≡◌, ℕ, ◌≤◌, ◌^◌, arith, List, Some, None, Bool, true, false, nat_cmp, refl, subst}
use Rattle.std.specs.Prelude.{ℤ, pos, neg_ℤ, ◌-ℤ◌, int_lt, int_le, Float, nat_lt, nat_le, ◌&&◌, ◌==◌, drop, slice_index, option_map, option_and_then, if◌then◌else◌}
use Rattle.std.specs.Float.{binary64, float_is_finite}
use Rattle.std.specs.declared.cmp.Ordering.{Ordering}
use Rattle.std.specs.declared.cmp.Ordering.TheVariants.{Less, Equal, Greater}
use Rattle.std.specs.Ordering.{match_ordering}
use Rattle.std.specs.Cmp.Lexicographic.{slice_cmp}
use Rattle.std.proofs.lemmas.Bool.{leb-true}
use Rattle.std.proofs.lemmas.Int.{ints}
use Rattle.fast_float.specs.Text.{minus, Parts, scan, digits_of, nearest, with_sign}
use Rattle.json.specs.Json as json
use Rattle.json.specs.Lex.{tokens}
use Rattle.serde_json.specs.Data.{Num, unsigned, negative, float, Data, null, boolean, number, string, array, object, Items, no_items, item, Members, no_members, member, put}
use Rattle.serde_json.specs.Find.{get_member}
use Rattle.serde_json.specs.Read.{is_integer, float_of, number_from, number_of, of_json, of_items, of_members, max_depth, read}
use Rattle.dwc_base.specs.Reading.{is_64_bit}
use Rattle.dwc_cli.proofs.Options.{same_some, map-some, then-some}

-- a number with a sign fits 64 bits
abbrev pub FitsNumber : Num → Type 0
FitsNumber (unsigned n) = Unit {0}
FitsNumber (negative z) = is_64_bit z ≡ true
FitsNumber (float x) = Unit {0}

-- all of a value do
abbrev mutual
  pub Fits : Data → Type 0
  Fits null = Unit {0}
  Fits (boolean b) = Unit {0}
  Fits (number n) = FitsNumber n
  Fits (string s) = Unit {0}
  Fits (array ds) = FitItems ds
  Fits (object ms) = FitMembers ms

  pub FitItems : Items → Type 0
  FitItems no_items = Unit {0}
  FitItems (item d ds) = Fits d × FitItems ds

  pub FitMembers : Members → Type 0
  FitMembers no_members = Unit {0}
  FitMembers (member k d ms) = Fits d × FitMembers ms

pub fits-signed : (z : ℤ) → int_lt z (pos 0 -ℤ pos (2 ^ 63)) ≡ false → int_le (pos (2 ^ 63)) z ≡ false → is_64_bit z ≡ true
fits-signed z above below = rw (above, below) refl

fits-negated : (n : ℕ) → n ≤ 2 ^ 63 → is_64_bit (neg_ℤ (pos n)) ≡ true
fits-negated n least =
    let above : int_lt (neg_ℤ (pos n)) (pos 0 -ℤ pos (2 ^ 63)) ≡ false = grind (arith, ints) in
    let below : int_le (pos (2 ^ 63)) (neg_ℤ (pos n)) ≡ false = grind (arith, ints) in
    fits-signed (neg_ℤ (pos n)) above below

fits-float : (finite : Bool) (x : Float) (n : Num) → (if finite then Some (float x) else None) ≡ Some n → FitsNumber n
fits-float true x n e = subst FitsNumber (same_some (float x) n e) tt
fits-float false x n e = absurd (cc)

fits-from : (sign : Bool) (p : Parts) (n : Num) → number_from sign p ≡ Some n → FitsNumber n
fits-from false p n e = go (is_integer p && nat_lt (digits_of p) (2 ^ 64)) e
  where
    go : (b : Bool) → (if b then Some (unsigned (digits_of p)) else float_of false p) ≡ Some n → FitsNumber n
    go true e = subst FitsNumber (same_some (unsigned (digits_of p)) n e) tt
    go false e = fits-float (float_is_finite (nearest binary64 false p)) (nearest binary64 false p) n e
fits-from true p n e = go (is_integer p) (nat_lt 0 (digits_of p)) (nat_le (digits_of p) (2 ^ 63)) refl e
  where
    other : float_of true p ≡ Some n → FitsNumber n
    other e = fits-float (float_is_finite (nearest binary64 true p)) (nearest binary64 true p) n e

    go : (a b c : Bool) → nat_le (digits_of p) (2 ^ 63) ≡ c → (if a && b && c then Some (negative (with_sign true (digits_of p))) else float_of true p) ≡ Some n → FitsNumber n
    go true true true least e = subst FitsNumber (same_some (negative (with_sign true (digits_of p))) n e) (fits-negated (digits_of p) (leb-true (digits_of p) (2 ^ 63) least))
    go true true false least e = other e
    go true false c least e = other e
    go false b c least e = other e

fits-number : (s : List ℕ) (n : Num) → number_of s ≡ Some n → FitsNumber n
unfolding number_of
fits-number s n e = go (slice_index s 0 == minus) e
  where
    go : (b : Bool) → (if b then number_from true (scan (drop 1 s)) else number_from false (scan s)) ≡ Some n → FitsNumber n
    go true e = fits-from true (scan (drop 1 s)) n e
    go false e = fits-from false (scan s) n e

-- ---- members

fit-put : (k : List ℕ) (d : Data) (ms : Members) → Fits d → FitMembers ms → FitMembers (put k d ms)
fit-put k d no_members one all = (one, tt)
fit-put k d (member l e ms) one all = go (slice_cmp nat_cmp k l) (fit-put k d ms one all.1)
  where
    go : (o : Ordering) → FitMembers (put k d ms) → FitMembers (match_ordering o (member k d (member l e ms)) (member l d ms) (member l e (put k d ms)))
    go Less later = (one, all)
    go Equal later = (one, all.1)
    go Greater later = (all.0, later)

pub fits-member : (k : List ℕ) (ms : Members) (d : Data) → FitMembers ms → get_member k ms ≡ Some d → Fits d
fits-member k no_members d all e = absurd (cc)
fits-member k (member l x ms) d all e = go (slice_cmp nat_cmp k l) (fits-member k ms d all.1) e
  where
    go : (o : Ordering) → (get_member k ms ≡ Some d → Fits d) → match_ordering o (get_member k ms) (Some x) (get_member k ms) ≡ Some d → Fits d
    go Less later e = later e
    go Equal later e = subst Fits (same_some x d e) all.0
    go Greater later e = later e

-- ---- values

mutual
  fits-json : (j : json.Json) (d : Data) → of_json j ≡ Some d → Fits d
  fits-json json.null d e = subst Fits (same_some null d e) tt
  fits-json (json.boolean b) d e = subst Fits (same_some (boolean b) d e) tt
  fits-json (json.number s) d e = let n = map-some number (number_of s) d e in subst Fits n.2 (fits-number s n.0 n.1)
  fits-json (json.string s) d e = subst Fits (same_some (string s) d e) tt
  fits-json (json.array js) d e = let ds = map-some array (of_items js) d e in subst Fits ds.2 (fit-items js ds.0 ds.1)
  fits-json (json.object ms) d e = let found = map-some object (of_members ms no_members) d e in subst Fits found.2 (fit-members ms no_members found.0 tt found.1)

  fit-items : (js : json.Items) (ds : Items) → of_items js ≡ Some ds → FitItems ds
  fit-items json.no_items ds e = subst FitItems (same_some no_items ds e) tt
  fit-items (json.item j js) ds e =
      let first = then-some (λ d. option_map (item d) (of_items js)) (of_json j) ds e in
      let others = map-some (item first.0) (of_items js) ds first.2 in
      subst FitItems others.2 (fits-json j first.0 first.1, fit-items js others.0 others.1)

  fit-members : (js : json.Members) (found ms : Members) → FitMembers found → of_members js found ≡ Some ms → FitMembers ms
  fit-members json.no_members found ms all e = subst FitMembers (same_some found ms e) all
  fit-members (json.member k j js) found ms all e =
      let value = then-some (λ d. of_members js (put k d found)) (of_json j) ms e in
      fit-members js (put k value.0 found) ms (fit-put k value.0 found (fits-json j value.0 value.1) all) value.2

-- the value of a text
pub fits-read : (text : List ℕ) (d : Data) → read text ≡ Some d → Fits d
fits-read text d e =
    let value = then-some of_json (option_and_then (λ p. json.if_last p.0 p.1) (json.value max_depth (tokens text))) d e in
    fits-json value.0 d value.2
