-- Where no one expression of a local holds for each byte of a range.
use Rattle.std.proofs.Common.{◌≡◌, ℕ, ◌<◌, List, [], ◌∷◌, map, Bool, true, false, ◌&&◌, Option, Some, None, filter_map, flat_map, option_to_list, refl, ap, sym, subst, ◌∙◌, inl, inr, arith, true≢false, All}
use Rattle.std.specs.Prelude.{is_some, if◌then◌else◌}
use Rattle.std.specs.FinMap as finite
use Rattle.std.specs.List.{list_all, cons_option}
use Rattle.std.specs.Option.{option_or}
use Rattle.std.specs.Str.{bytes_eq}
use Rattle.std.proofs.lemmas.Bool.{and_left, and_parts, and_right}
use Rattle.std.proofs.lemmas.Slice.Eq.{bytes_eq-Decides}
use Rattle.dwc_base.specs.Listing.{first_of}
use Rattle.dwc_base.proofs.InLists.{IsIn, filter_map-in, in-filter_map, map-in}
use Rattle.dwc_dwarf.specs.Trees.{Location}
use Rattle.dwc_native.specs.BuiltExpressions.{BuildRefusal, BuiltExpressions, built_on_ranges, has_bad_range, register_refusal_at, unmapped_register}
use Rattle.dwc_native.specs.Compiled.{LabelRange, Place, in_register, at_frame_offset}
use Rattle.dwc_native.specs.Functions.{Function}
use Rattle.dwc_native.specs.LabelRanges.{bytes_of}
use Rattle.dwc_native.specs.Parts.{CompiledParts, local}
use Rattle.dwc_native.specs.Placed.{Frame, NativeRange, built_parts, is_between, is_number, last_place}
use Rattle.dwc_isa.specs.FlatRanges.{IsFlat}
use Rattle.dwc_isa.specs.LabelRegisters.{register_of, registers_of}
use Rattle.dwc_isa.specs.Registers.{Registers}
use Rattle.dwc_expr.specs.Alone.{framed, lone_location, lone_refusals}
use Rattle.dwc_expr.specs.NarrowedRanges.{Tells}
use Rattle.dwc_expr.specs.PlacedParts.{PlacedPart, cut_by}
use Rattle.dwc_expr.specs.Varying.{DifferOn, Varies, is_one}
use Rattle.dwc_expr.proofs.AloneLaws.{own-built}
use Rattle.dwc_expr.proofs.CutLaws.{cut-by}
use Rattle.dwc_expr.proofs.PairLaws.{all-in, all-true}
use Rattle.dwc_expr.proofs.PieceLaws.{piece-place}

-- ---- no one expression

-- none holds where a byte has no place
pub none-covers : (covers : Bool) (ls : List Location) → false ≡ covers → is_one covers ls ≡ false
none-covers covers [] not = refl
none-covers covers (l ∷ ls) not = and_left covers (list_all (λ m. bytes_eq m.bytes l.bytes) ls) (sym not)

-- none holds where two differ
pub two-differ : (covers : Bool) (ls : List Location) (x y : Location) → IsIn x ls → IsIn y ls → bytes_eq x.bytes y.bytes ≡ false → is_one covers ls ≡ false
two-differ covers [] x y i j differ = absurd i
two-differ covers (l ∷ ls) x y i j differ = go (list_all (λ m. bytes_eq m.bytes l.bytes) ls) refl
  where
    each : list_all (λ m. bytes_eq m.bytes l.bytes) ls ≡ true → (m : Location) → IsIn m (l ∷ ls) → m.bytes ≡ l.bytes
    each all m (inl e) = ap (λ k. k.bytes) e
    each all m (inr k) = (bytes_eq-Decides m.bytes l.bytes).0 (all-true (λ n. bytes_eq n.bytes l.bytes) ls all m k)

    go : (b : Bool) → list_all (λ m. bytes_eq m.bytes l.bytes) ls ≡ b → (covers && list_all (λ m. bytes_eq m.bytes l.bytes) ls) ≡ false
    go false is = and_right covers (list_all (λ m. bytes_eq m.bytes l.bytes) ls) is
    go true all = absurd (true≢false (sym ((bytes_eq-Decides x.bytes y.bytes).1 (each all x i ∙ sym (each all y j))) ∙ differ))

pub pieces-differ : (trailing : Bool) (registers : Registers) (r : NativeRange) (ps : List LabelRange) (p q : LabelRange) → IsIn p ps → IsIn q ps → DifferOn trailing registers r p q → (covers : Bool) → is_one covers (map (lone_location trailing registers) (filter_map (cut_by 0 r) ps)) ≡ false
pieces-differ trailing registers r ps p q i j d covers =
    two-differ covers (map (lone_location trailing registers) (filter_map (cut_by 0 r) ps)) (lone_location trailing registers d.one) (lone_location trailing registers d.other)
    (map-in (lone_location trailing registers) (filter_map (cut_by 0 r) ps) d.one (filter_map-in (cut_by 0 r) ps p d.one i d.is_one))
    (map-in (lone_location trailing registers) (filter_map (cut_by 0 r) ps) d.other (filter_map-in (cut_by 0 r) ps q d.other j d.is_other))
    d.differ

-- ---- nothing is refused

module _ (registers : Registers) where
  abbrev numbered : ℕ → Bool
  numbered n = is_some (finite.get registers n)

  abbrev refusal : Option Place → Option BuildRefusal
  refusal o = register_refusal_at (λ n. finite.get registers n) o

  fine-place : (place : Place) (rest : List ℕ) → list_all numbered (cons_option (register_of place) rest) ≡ true → refusal (Some place) ≡ None
  fine-place (in_register r) rest all = ap (λ b. if b then None else Some (unmapped_register r)) (and_parts (numbered r) (list_all numbered rest) all).0
  fine-place (at_frame_offset o) rest all = refl

  fine-rest : (o : Option ℕ) (rest : List ℕ) → list_all numbered (cons_option o rest) ≡ true → list_all numbered rest ≡ true
  fine-rest None rest all = all
  fine-rest (Some n) rest all = (and_parts (numbered n) (list_all numbered rest) all).1

  -- the place of a byte is refused nowhere where each register of the ranges has a number
  fine-at : (rs : List LabelRange) (byte : ℕ) → list_all numbered (registers_of rs) ≡ true → refusal (last_place rs byte) ≡ None
  fine-at [] byte all = refl
  fine-at (r ∷ rs) byte all = go (last_place rs byte) (fine-at rs byte (fine-rest (register_of r.place) (registers_of rs) all)) (is_between r.start r.end byte)
    where
      go : (o : Option Place) → refusal o ≡ None → (b : Bool) → refusal (option_or o (if b then Some r.place else None)) ≡ None
      go (Some place) fine b = fine
      go None fine true = fine-place r.place (registers_of rs) all
      go None fine false = refl

  module _ (ps told : List LabelRange) (flat : IsFlat ps) (same : (byte : ℕ) → last_place ps byte ≡ last_place told byte) (all : list_all numbered (registers_of told) ≡ true) where
    fine-piece : (p : LabelRange) → IsIn p ps → refusal (Some p.place) ≡ None
    fine-piece p i = ap refusal (sym (piece-place ps flat p i p.start (omega arith) (all-in (λ s. s.start < s.end) ps flat.nonempty p i)) ∙ same p.start) ∙ fine-at told p.start all

    fine-part : (r : NativeRange) (x : PlacedPart) → IsIn x (filter_map (cut_by 0 r) ps) → lone_refusals registers x ≡ []
    fine-part r x i =
        let found = in-filter_map (cut_by 0 r) ps x i in
        ap (λ place. option_to_list (refusal (Some place))) (cut-by 0 r found.0 x found.2).place ∙ ap option_to_list (fine-piece found.0 found.1)

    none-refused : (r : NativeRange) → first_of (flat_map (lone_refusals registers) (filter_map (cut_by 0 r) ps)) ≡ None
    none-refused r = go (filter_map (cut_by 0 r) ps) (λ x i. fine-part r x i)
      where
        go : (xs : List PlacedPart) → ((x : PlacedPart) → IsIn x xs → lone_refusals registers x ≡ []) → first_of (flat_map (lone_refusals registers) xs) ≡ None
        go [] each = refl
        go (x ∷ xs) each = rw (each x (inl refl)) (go xs (λ y i. each y (inr i)))

    -- no one expression of a local holds on the whole of a range of one's own function
    pub alone-varies :
        (functions : List Function) (frame : Option Frame) (label : ℕ) (trailing : Bool) (r : NativeRange) (x : CompiledParts) → built_parts x ≡ local label trailing ∷ [] → r.start < r.end → (own : Option ℕ) → Tells frame label own ps → has_bad_range frame label ≡ false
        → is_number own r.function ≡ true → is_one (list_all (λ byte. is_some (last_place ps byte)) (bytes_of r)) (map (lone_location trailing registers) (filter_map (cut_by 0 r) ps)) ≡ false → Varies (built_on_ranges (framed functions frame registers) (r ∷ []) x)
    alone-varies functions frame label trailing r x is some own t good mine varies =
        subst Varies
        (sym (own-built functions frame registers label trailing r x is some own ps t good mine (map (lone_location trailing registers) (filter_map (cut_by 0 r) ps)) (list_all (λ byte. is_some (last_place ps byte)) (bytes_of r)) (none-refused r) refl refl))
        varies
