-- Where a machine on parts can be, and where that is in their bytes.
use Rattle.std.proofs.Common.{◌≡◌, ℕ, suc, ◌+◌, ◌<◌, refl, sym, ap, subst, ◌∙◌, arith, List, [], ◌∷◌, ◌++◌, append_assoc, length, length-append, Some, Result, Ok, Err, true, ltb}
use Rattle.std.specs.Prelude.{slice_get}
use Rattle.std.specs.List.{list_all}
use Rattle.std.proofs.lemmas.Bool.{and_parts, ltb-true}
use Rattle.dwc_native.specs.Parts.{Part, code, local, dereference, jump, landing_pad}
use Rattle.dwc_native.specs.Built.{Setting, part_bytes, part_length, distance_of, bytes_from, built_bytes}
use Rattle.dwc_machines.specs.StackOperations.{Stop}
use Rattle.dwc_machines.specs.NativeStates.{NativeState, Evaluation}
use Rattle.dwc_machines.specs.PartMachine.{PartState, at_part}
use Rattle.dwc_expr.specs.RunsAlike.{CanRun, part_offset}
use Rattle.dwc_expr.specs.WholeParts.{is_whole_part}
use Rattle.dwc_expr.proofs.Meaning.StraightCode.{IsStraightAt, First, straight-first}
use Rattle.dwc_expr.proofs.Meaning.PartOffsets.{total, bytes-long, slice-at, all-at, offset-at, offset-behind, built-at}

pub ok-is : {A : Type 0} {x y : A} → ◌≡◌ {A = Result A Stop} (Ok x) (Ok y) → x ≡ y
ok-is {A} {x} {y} h = ap (λ (r : Result A Stop). go r) h
  where
    go : Result A Stop → A
    go (Ok z) = z
    go (Err stop) = x

-- ---- where a machine on parts can be

-- inside bytes: at a place behind some of them, with operations left
pub record InCode (c : List ℕ) (inside : ℕ) : Type 0 where
  pub done : List ℕ
  pub left : List ℕ
  pub split : c ≡ done ++ left
  pub number : inside ≡ length done
  pub some : 0 < length left
  pub straight : IsStraightAt inside left

abbrev pub StandsIn : List Part → ℕ → Type 0
StandsIn [] inside = inside ≡ 0
StandsIn (code c ∷ rest) inside = InCode c inside
StandsIn (p ∷ rest) inside = inside ≡ 0

-- at a part behind some parts
pub record Stands (ps : List Part) (at : PartState) : Type 0 where
  pub front : List Part
  pub rest : List Part
  pub split : ps ≡ front ++ rest
  pub number : at.part ≡ length front
  pub inside : StandsIn rest at.inside

-- what is known of a part behind some parts: where its bytes stand among all
pub record At (s : Setting) (ps front : List Part) (p : Part) (rest : List Part) : Type 0 where
  pub before : List ℕ
  pub after : List ℕ
  pub slice : slice_get ps (length front) ≡ Some p
  pub bytes : built_bytes s ps ≡ before ++ (part_bytes s (distance_of s ps (total s front) p) p ++ after)
  pub long : length before ≡ total s front
  pub begin : part_offset s ps (length front) ≡ total s front
  pub end : part_offset s ps (suc (length front)) ≡ total s front + part_length s p

pub at-part-of : (s : Setting) (front : List Part) (p : Part) (rest : List Part) → At s (front ++ p ∷ rest) front p rest
at-part-of s front p rest = record {
  before = bytes_from s (front ++ p ∷ rest) 0 front;
  after = bytes_from s (front ++ p ∷ rest) (total s front + part_length s p) rest;
  slice = slice-at front p rest;
  bytes = built-at s front p rest;
  long = bytes-long s (front ++ p ∷ rest) 0 front;
  begin = offset-at s front (p ∷ rest);
  end = offset-behind s front p rest;
}

pub first-of : (place : ℕ) (left : List ℕ) → 0 < length left → IsStraightAt place left → First place left
first-of place [] some straight = absurd (omega (arith, some))
first-of place (b ∷ bs) some straight = straight-first place b bs straight

module _ (n : NativeState) (s : Setting) (ps : List Part) (can : CanRun n s ps) where
  -- at the begin of a part, or at the end
  begins-in : (front rest : List Part) → ps ≡ front ++ rest → StandsIn rest 0
  begins-in front [] split = refl
  begins-in front (code c ∷ rest) split =
      let whole = and_parts (ltb 0 (length c)) _ (all-at (is_whole_part ps) front (code c) rest (subst (λ qs. list_all (is_whole_part ps) qs ≡ true) split can.whole)) in
      record { done = []; left = c; split = refl; number = refl; some = ltb-true 0 (length c) whole.0; straight = whole.1 }
  begins-in front (local label trailing ∷ rest) split = refl
  begins-in front (dereference ∷ rest) split = refl
  begins-in front (jump conditionally place ∷ rest) split = refl
  begins-in front (landing_pad place ∷ rest) split = refl

  pub begins : (front rest : List Part) → ps ≡ front ++ rest → (part : ℕ) → part ≡ length front → (v : Evaluation) → Stands ps (at_part part v)
  begins front rest split part number v = record { front = front; rest = rest; split = split; number = number; inside = begins-in front rest split }

  -- at the part behind one
  pub behind : (front : List Part) (p : Part) (rest : List Part) → ps ≡ front ++ p ∷ rest → (part : ℕ) → part ≡ length front → (v : Evaluation) → Stands ps (at_part (suc part) v)
  behind front p rest split part number v =
      begins (front ++ p ∷ []) rest (split ∙ sym (append_assoc front (p ∷ []) rest)) (suc part) (omega (arith, number, length-append front (p ∷ []))) v
