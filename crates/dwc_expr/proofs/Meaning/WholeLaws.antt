-- What an expression compiles to is whole where its jumps arrive.
use Rattle.std.proofs.Common.{◌≡◌, ℕ, ◌⊎◌, inl, inr, refl, ap, ◌∙◌, arith, List, [], ◌∷◌, ◌++◌, map, length, Option, Some, None, Ok, Bool, true, false}
use Rattle.std.specs.Prelude.{◌||◌, ◌==◌, not, if◌then◌else◌}
use Rattle.std.specs.List.{list_all, list_any}
use Rattle.std.proofs.lemmas.Bool.{and_parts}
use Rattle.std.proofs.lemmas.List.Folds.{list_all-append, list_any-append}
use Rattle.dwc_dwarf.specs.Values.{is_one_of}
use Rattle.dwc_dwarf.specs.Operations.{Operation, operations}
use Rattle.dwc_native.specs.Parts.{Part, code, local, dereference, jump, landing_pad, CompiledParts, targets, joined, as_value, base_values, parts_of, pad_at, parts_behind_pads, old_format, leaves_address, lone_local, label_alone, single_code, compiled}
use Rattle.dwc_native.specs.Placed.{built_parts}
use Rattle.dwc_base.specs.declared.constants.TheConstants.{DW_OP_plus_uconst}
use Rattle.dwc_machines.specs.PartMachine.{is_pad_of}
use Rattle.dwc_expr.specs.WholeParts.{is_whole_part, are_whole, IsWhole, IsWholeBase, JumpsLand}
use Rattle.dwc_expr.proofs.Meaning.KeptRecords.{IsInput}
use Rattle.dwc_expr.proofs.Meaning.OperationActs.{Each}
use Rattle.dwc_expr.proofs.Meaning.CompiledShapes.{inputs}
use Rattle.dwc_expr.proofs.Meaning.CompiledIs.{IsCompiled, is-compiled}
use Rattle.dwc_expr.proofs.Meaning.MeaningParts.{built-all}
use Rattle.dwc_expr.proofs.Meaning.PadLaws.{has_pads, land-pads, whole-cases, built-is-whole, alone-is-whole}
use Rattle.dwc_expr.proofs.Meaning.SoundParts.{and-true, sound, sound-append, sound-joined}
use Rattle.dwc_expr.proofs.Meaning.SoundOperations.{sound-parts}

-- ---- all parts

whole-sound : (all ps : List Part) → list_all (is_whole_part all) ps ≡ true → list_all sound ps ≡ true
whole-sound all [] h = refl
whole-sound all (code c ∷ ps) h = let both = and_parts (is_whole_part all (code c)) (list_all (is_whole_part all) ps) h in and-true (sound (code c)) (list_all sound ps) both.0 (whole-sound all ps both.1)
whole-sound all (local label trailing ∷ ps) h = let both = and_parts (not trailing) (list_all (is_whole_part all) ps) h in and-true (not trailing) (list_all sound ps) both.0 (whole-sound all ps both.1)
whole-sound all (dereference ∷ ps) h = whole-sound all ps h
whole-sound all (jump conditionally place ∷ ps) h = whole-sound all ps (and_parts (list_any (is_pad_of place) all) (list_all (is_whole_part all) ps) h).1
whole-sound all (landing_pad place ∷ ps) h = whole-sound all ps h

sound-values : (ps : List Part) → list_all sound ps ≡ true → list_all sound (map as_value ps) ≡ true
sound-values [] h = refl
sound-values (code c ∷ ps) h = let both = and_parts (sound (code c)) (list_all sound ps) h in and-true (sound (code c)) (list_all sound (map as_value ps)) both.0 (sound-values ps both.1)
sound-values (local label trailing ∷ ps) h = sound-values ps (and_parts (not trailing) (list_all sound ps) h).1
sound-values (dereference ∷ ps) h = sound-values ps h
sound-values (jump conditionally place ∷ ps) h = sound-values ps h
sound-values (landing_pad place ∷ ps) h = sound-values ps h

base-sound : (base : Option CompiledParts) → IsWholeBase base → list_all sound (base_values base) ≡ true
base-sound None w = refl
base-sound (Some x) w = go (whole-cases x w)
  where
    go : (are_whole (built_parts x) ≡ true) ⊎ ((label : ℕ) × (x ≡ label_alone label)) → list_all sound (map as_value x.parts) ≡ true
    go (inl whole) = sound-values x.parts (built-all sound x (whole-sound (built_parts x) (built_parts x) whole))
    go (inr (label, is)) = ap (λ (y : CompiledParts). list_all sound (map as_value y.parts)) is

pad-sound : (places : List ℕ) (place : ℕ) → list_all sound (pad_at places place) ≡ true
pad-sound places place = go (is_one_of places place)
  where
    go : (b : Bool) → list_all sound (if b then landing_pad place ∷ [] else []) ≡ true
    go true = refl
    go false = refl

module _ (base : Option CompiledParts) (values : list_all sound (base_values base) ≡ true) where
  behind-sound : (places : List ℕ) (os : List Operation) → Each IsInput os → list_all sound (parts_behind_pads base places os) ≡ true
  behind-sound places [] i = refl
  behind-sound places (o ∷ os) i = sound-append (pad_at places o.place ++ parts_of base o) (parts_behind_pads base places os) (sound-append (pad_at places o.place) (parts_of base o) (pad-sound places o.place) (sound-parts base values o i.0)) (behind-sound places os i.1)

  old-sound : (os : List Operation) → list_all sound (old_format base os) ≡ true
  old-sound [] = refl
  old-sound (o ∷ os) = go (o.opcode == DW_OP_plus_uconst)
    where
      go : (b : Bool) → list_all sound (if b then base_values base else []) ≡ true
      go true = values
      go false = refl

-- ---- sound parts whose jumps have landing pads are whole

all-whole : (all ps : List Part) → list_all sound ps ≡ true → list_all (has_pads all) ps ≡ true → list_all (is_whole_part all) ps ≡ true
all-whole all [] h k = refl
all-whole all (code c ∷ ps) h k = let both = and_parts (sound (code c)) (list_all sound ps) h in and-true (is_whole_part all (code c)) (list_all (is_whole_part all) ps) both.0 (all-whole all ps both.1 k)
all-whole all (local label trailing ∷ ps) h k = let both = and_parts (not trailing) (list_all sound ps) h in and-true (not trailing) (list_all (is_whole_part all) ps) both.0 (all-whole all ps both.1 k)
all-whole all (dereference ∷ ps) h k = all-whole all ps h k
all-whole all (jump conditionally place ∷ ps) h k = let both = and_parts (list_any (is_pad_of place) all) (list_all (has_pads all) ps) k in and-true (list_any (is_pad_of place) all) (list_all (is_whole_part all) ps) both.0 (all-whole all ps h both.1)
all-whole all (landing_pad place ∷ ps) h k = all-whole all ps h k

-- a landing pad among some is one among more
more-pads : (all behind ps : List Part) → list_all (has_pads all) ps ≡ true → list_all (has_pads (all ++ behind)) ps ≡ true
more-pads all behind [] h = refl
more-pads all behind (code c ∷ ps) h = more-pads all behind ps h
more-pads all behind (local label trailing ∷ ps) h = more-pads all behind ps h
more-pads all behind (dereference ∷ ps) h = more-pads all behind ps h
more-pads all behind (jump conditionally place ∷ ps) h =
    let both = and_parts (list_any (is_pad_of place) all) (list_all (has_pads all) ps) h in
    and-true (list_any (is_pad_of place) (all ++ behind)) (list_all (has_pads (all ++ behind)) ps) (list_any-append (is_pad_of place) all behind ∙ ap (λ b. b || list_any (is_pad_of place) behind) both.0) (more-pads all behind ps both.1)
more-pads all behind (landing_pad place ∷ ps) h = more-pads all behind ps h

built-whole : (x : CompiledParts) → list_all sound x.parts ≡ true → list_all (has_pads x.parts) x.parts ≡ true → are_whole (built_parts x) ≡ true
built-whole x h k = go x.need_deref (single_code x.parts)
  where
    plain : are_whole x.parts ≡ true
    plain = all-whole x.parts x.parts h k

    longer : are_whole (x.parts ++ dereference ∷ []) ≡ true
    longer =
        all-whole (x.parts ++ dereference ∷ []) (x.parts ++ dereference ∷ []) (sound-append x.parts (dereference ∷ []) h refl)
        (list_all-append (has_pads (x.parts ++ dereference ∷ [])) x.parts (dereference ∷ []) ∙ and-true (list_all (has_pads (x.parts ++ dereference ∷ [])) x.parts) true (more-pads x.parts (dereference ∷ []) x.parts k) refl)

    go : (d : Bool) (o : Option (List ℕ)) → are_whole (if d then (elim o [ None ↦ x.parts ++ dereference ∷ [] | Some bytes ↦ x.parts ]) else x.parts) ≡ true
    go true None = longer
    go true (Some bytes) = plain
    go false o = plain

-- what compiles is whole where its jumps arrive
pub parts-are-whole : (base : Option CompiledParts) (bytes : List ℕ) (x : CompiledParts) → IsWholeBase base → compiled base bytes ≡ Ok (Some x) → JumpsLand x.parts → IsWhole x
parts-are-whole base bytes x whole is lands = go (lone_local os) c.is
  where
    os : List Operation
    os = (operations bytes).items

    c : IsCompiled base bytes x
    c = is-compiled base bytes x is

    values : list_all sound (base_values base) ≡ true
    values = base-sound base whole

    parts-sound : list_all sound (joined (old_format base os ++ (parts_behind_pads base (targets os) os ++ pad_at (targets os) (length bytes)))) ≡ true
    parts-sound =
        sound-joined (old_format base os ++ (parts_behind_pads base (targets os) os ++ pad_at (targets os) (length bytes)))
        (sound-append (old_format base os) (parts_behind_pads base (targets os) os ++ pad_at (targets os) (length bytes)) (old-sound base values os)
        (sound-append (parts_behind_pads base (targets os) os) (pad_at (targets os) (length bytes)) (behind-sound base values (targets os) os (inputs (length bytes) 0 bytes (omega arith))) (pad-sound (targets os) (length bytes))))

    go : (lone : Option ℕ) → x ≡ (elim lone [ Some label ↦ label_alone label | None ↦ record { parts = joined (old_format base os ++ (parts_behind_pads base (targets os) os ++ pad_at (targets os) (length bytes))); need_deref = leaves_address os } ]) → IsWhole x
    go (Some label) e = alone-is-whole x label e
    go None e = built-is-whole x (built-whole x (ap (λ (y : CompiledParts). list_all sound y.parts) e ∙ parts-sound) (land-pads x.parts lands))
