-- The low 32 bits of the values of labels.
use Rattle.std.proofs.Common.{◌≡◌, ℕ, ◌+◌, ◌^◌, ◌<◌, ◌≤◌, refl, sym, ap, ◌∙◌, arith, List, [], ◌∷◌, length, Option, Some, None, Result, Ok, true}
use Rattle.std.specs.Prelude.{nat_lt, ok_or}
use Rattle.std.specs.List.{list_all}
use Rattle.dwc_base.specs.Reading.{◌>>=◌}
use Rattle.dwc_dwarf.specs.Values.{is_one_of}
use Rattle.dwc_native.specs.Compiled.{Place, in_register, at_frame_offset}
use Rattle.dwc_native.specs.Parts.{context_label}
use Rattle.dwc_native.specs.Built.{Setting, register_number}
use Rattle.dwc_machines.specs.StackOperations.{Stop, register_missing, wrapped}
use Rattle.dwc_machines.specs.NativeStates.{NativeState}
use Rattle.dwc_machines.specs.PartMachine.{value_at_place, value_of_label}
use Rattle.dwc_machines.specs.WasmMachine.{WasmState}
use Rattle.dwc_expr.specs.RunsAlike.{has_place, has_memory}
use Rattle.dwc_expr.specs.MeaningPremises.{IsLocal, LiesAtBase}
use Rattle.dwc_expr.proofs.Meaning.AddressNumbers.{IsSize, AreWrapped, read-wrapped, wrapped-again}
use Rattle.dwc_machines.proofs.LowNumbers.{ok-is}

-- what is needed of a label whose value is loaded
pub record IsLoaded (n : NativeState) (s : Setting) (w : WasmState) (label : ℕ) : Type 0 where
  pub local : IsLocal n s w label
  pub place : has_place s label ≡ true

-- what is needed to read linear memory at the top of a stack
pub record IsReadable (n : NativeState) (s : Setting) (w : WasmState) : Type 0 where
  pub memory : LiesAtBase n s w
  pub has : has_memory s.memory ≡ true
  pub place : has_place s context_label ≡ true
  pub of_bytes : list_all (λ b. nat_lt b 256) w.memory ≡ true

abbrev pub IsInside : WasmState → List ℕ → Type 0
IsInside w [] = Unit {0}
IsInside w (address ∷ t) = address + 8 ≤ length w.memory

module _ (n : NativeState) (s : Setting) (w : WasmState) (addresses : n.pointer_bytes ≡ 8) where
  pub is-size : IsSize n.pointer_bytes
  is-size = ap (is_one_of (4 ∷ 8 ∷ [])) addresses

  -- ---- values of labels

  pub value-wrapped : (p : Option Place) → AreWrapped n (value_at_place n s p)
  value-wrapped None = refl
  value-wrapped (Some (in_register r)) = go (n.register (register_number s r))
    where
      go : (o : Option ℕ) → ((ok_or o (register_missing (register_number s r)) >>= λ value. Ok (wrapped n.pointer_bytes value)) >>= λ a. Ok (wrapped n.pointer_bytes a)) ≡ (ok_or o (register_missing (register_number s r)) >>= λ value. Ok (wrapped n.pointer_bytes value))
      go None = refl
      go (Some value) = ap (λ a. Ok a) (wrapped-again n.pointer_bytes is-size value)
  value-wrapped (Some (at_frame_offset offset)) = read-wrapped n is-size n.pointer_bytes _

  pub small : (r : Result ℕ Stop) (v : ℕ) → AreWrapped n r → r ≡ Ok v → v < 2 ^ 64
  small r v whole is =
      let same : wrapped n.pointer_bytes v ≡ v = ok-is (sym (ap (λ q. q >>= λ a. Ok (wrapped n.pointer_bytes a)) is) ∙ whole ∙ is) in
      let e : wrapped 8 v ≡ v = ap (λ k. wrapped k v) (sym addresses) ∙ same in
      omega (arith, e)

  pub value-small : (label v : ℕ) → value_of_label n s label ≡ Ok v → v < 2 ^ 64
  value-small label v is = small (value_of_label n s label) v (value-wrapped (s.place label)) is
