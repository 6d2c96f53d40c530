-- How frames change, by the tokens of a map file.
use Rattle.std.proofs.Common.{◌≡◌, ℕ, ◌-◌, ◌<◌, List, [], ◌∷◌, length, codes, Bool, true, false, bytes_eq, Option, Some, None, option_map, option_and_then, refl, sym, ap, ◌∙◌, arith}
use Rattle.std.specs.Prelude.{◌==◌, ◌&&◌, not, if◌then◌else◌}
use Rattle.std.specs.List.{list_all, list_any}
use Rattle.std.proofs.lemmas.Bool.{false≢true}
use Rattle.std.proofs.lemmas.Slice.Eq.{bytes_eq-Decides}
use Rattle.json.specs.Token as token
use Rattle.json.specs.Token.{Token, begin_array, begin_object}
use Rattle.json.specs.Json.{read_key, value}
use Rattle.json.proofs.Grammar.{value_is}
use Rattle.serde_json.specs.Data.{null, string, array, object, Items, item, no_members, put}
use Rattle.serde_json.specs.Read.{of_json, converted}
use Rattle.dwc_native.specs.CallFrames.{FrameInstruction, FrameDescription}
use Rattle.dwc_map.specs.ByTokens.{Tells, TellsDescription}
use Rattle.dwc_map.specs.MapFrames.{instruction_kinds, instruction_of, frame_of}
use Rattle.dwc_map.specs.MapValues.{◌>>=◌, only_if, u32_of, pair_of, list_of, nullable, named_in}
use Rattle.dwc_map.proofs.TokenMembers.{object-read}
use Rattle.dwc_map.proofs.TokenShapes.{ReadsItems, items-cons, list-read, members-cons, members-nil}

-- ---- instructions

abbrev has_zero : List ℕ → Bool
has_zero text = list_any (λ c. c == 0) text

-- what stands in a table of names without zero characters has none either
named-plain : {A : Type 0} (rows : List (List ℕ × A)) (name : List ℕ) (x : A) → list_all (λ row. not (has_zero row.0)) rows ≡ true → named_in rows name ≡ Some x → has_zero name ≡ false
named-plain [] name x plain is = absurd (cc)
named-plain (row ∷ rows) name x plain is = go (bytes_eq row.0 name) refl is (named-plain rows name x (both (has_zero row.0) (list_all (λ r. not (has_zero r.0)) rows) plain).1)
  where
    both : (a b : Bool) → (not a && b) ≡ true → (a ≡ false) × (b ≡ true)
    both true b e = absurd (false≢true e)
    both false b e = (refl, e)

    go : (b : Bool) → bytes_eq row.0 name ≡ b → (if b then Some row.1 else named_in rows name) ≡ Some x → (named_in rows name ≡ Some x → has_zero name ≡ false) → has_zero name ≡ false
    go true e h rest = ap has_zero (sym ((bytes_eq-Decides row.0 name).0 e)) ∙ (both (has_zero row.0) (list_all (λ r. not (has_zero r.0)) rows) plain).0
    go false e h rest = rest h

-- An instruction is told by its name and its operands.
pub instruction-told : (depth : ℕ) (old start mid new : List Token) (name : List ℕ) (ds : Items) (op : FrameInstruction) → 0 < depth → old ≡ begin_array ∷ start → start ≡ token.string name ∷ mid → ReadsItems (depth - 1) mid ds new
    → option_and_then (λ kind. kind ds) (named_in instruction_kinds name) ≡ Some op → Tells depth instruction_of old op new
instruction-told depth old start mid new name ds op some opens named more is = record {
  found = array (item (string name) ds);
  read = list-read depth old start new (item (string name) ds) some opens
      (items-cons (depth - 1) start mid new (string name) ds (ap (converted of_json) (ap (value (depth - 1)) named ∙ value_is (depth - 1) (token.string name ∷ mid))) more);
  is = go (named_in instruction_kinds name) refl is;
}
  where
    go : (o : Option (Items → Option FrameInstruction)) → named_in instruction_kinds name ≡ o → option_and_then (λ kind. kind ds) o ≡ Some op → (only_if (not (has_zero name)) name >>= named_in instruction_kinds >>= λ kind. kind ds) ≡ Some op
    go None e h = absurd (cc)
    go (Some kind) e h =
        ap (λ b. only_if (not b) name >>= named_in instruction_kinds >>= λ kind. kind ds) (named-plain instruction_kinds name kind refl e)
        ∙ ap (λ o. o >>= λ kind. kind ds) e ∙ h

-- ---- records

pub description-told : (depth : ℕ) (old t1 t2 t3 t4 new : List Token) (len : ℕ) (ops : List (ℕ × FrameInstruction)) → read_key old ≡ Some (Some (codes "len"), t1) → Tells depth u32_of t1 len t2 → read_key t2 ≡ Some (Some (codes "ops"), t3)
    → Tells depth (list_of (pair_of u32_of instruction_of)) t3 ops t4 → read_key t4 ≡ Some (None, new) → TellsDescription depth old (record { length = len; instructions = ops }) new
unfolding frame_of
description-told depth old t1 t2 t3 t4 new len ops first a second b closes =
    let all = put (codes "ops") b.found (put (codes "len") a.found no_members) in
    record {
      all = all;
      read = members-cons depth old t1 t2 new (codes "len") a.found no_members all first a.read
          (members-cons depth t2 t3 t4 new (codes "ops") b.found (put (codes "len") a.found no_members) all second b.read (members-nil depth t4 new all closes)) (length old) (omega arith);
      is = rw (a.is, b.is) refl;
    }

pub frame-told : (depth : ℕ) (old start new : List Token) (frame : FrameDescription) → 0 < depth → old ≡ begin_object ∷ start → TellsDescription (depth - 1) start frame new → Tells depth (nullable frame_of) old (Some frame) new
frame-told depth old start new frame some opens t = record { found = object t.all; read = object-read depth old start new t.all some opens t.read; is = ap (option_map Some) t.is }

pub no-frame-told : (depth : ℕ) (old new : List Token) → old ≡ token.null ∷ new → Tells depth (nullable frame_of) old None new
no-frame-told depth old new is = record { found = null; read = ap (converted of_json) (ap (value depth) is ∙ value_is depth (token.null ∷ new)); is = refl }
