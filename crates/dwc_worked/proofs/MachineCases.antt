-- What the machine on bytes makes of expressions: each reason to stop, pieces, jumps, registers and memory, in four moments.
use Rattle.std.proofs.Common.{◌≡◌, ℕ, zero, suc, List, [], ◌∷◌, length, map, Ok, Err, true, false, refl}
use Rattle.std.specs.Prelude.{Bool, Result, ◌==◌, if◌then◌else◌}
use Rattle.dwc_base.specs.declared.records.Endian.TheVariants.{Little, Big}
use Rattle.dwc_base.specs.Reading.{coded, ◌>>=◌}
use Rattle.dwc_machines.specs.StackOperations.{Stop, cut_short, not_known, element_missing, divides_by_0, jumps_out, register_missing, byte_missing}
use Rattle.dwc_machines.specs.NativeStates.{NativeState, Piece, Evaluation, at_first}
use Rattle.dwc_machines.specs.ByteMachine.{ByteState, byte_step}
use Rattle.dwc_machines.proofs.OnMachines.{machines_on_literals}
use Rattle.dwc_worked.proofs.MomentsOfExample.{byte_in}

-- what the machine has made where it comes to the end of the bytes, or after so many steps more
abbrev pub run_from : NativeState → List ℕ → ℕ → ByteState → Result Evaluation Stop
run_from n bytes zero at = Ok at.made
run_from n bytes (suc more) at = elim (at.place == length bytes) [
  | true ↦ Ok at.made
  | false ↦ byte_step n bytes at >>= run_from n bytes more
]

-- steps enough for the expressions here
abbrev pub made_of : NativeState → List ℕ → Result Evaluation Stop
made_of n bytes = run_from n bytes 32 (record { place = 0; made = at_first })

-- ---- moments

abbrev pub memory : List (ℕ × List ℕ)
memory =
    (20560, 0 ∷ 0 ∷ 7 ∷ 0 ∷ 0 ∷ 0 ∷ 0 ∷ 0 ∷ [])
    ∷ (256, 1 ∷ 2 ∷ 3 ∷ 4 ∷ 5 ∷ 6 ∷ 7 ∷ 8 ∷ 9 ∷ 10 ∷ 11 ∷ 12 ∷ 13 ∷ 14 ∷ 15 ∷ 16 ∷ [])
    ∷ (4080, 9 ∷ 0 ∷ 0 ∷ 128 ∷ 1 ∷ 2 ∷ 3 ∷ 4 ∷ [])
    ∷ (18446744073709551613, 170 ∷ 187 ∷ 204 ∷ [])
    ∷ (0, 1 ∷ 2 ∷ 3 ∷ 4 ∷ 5 ∷ [])
    ∷ (4294967294, 17 ∷ 34 ∷ 51 ∷ [])
    ∷ []

-- four moments, by their numbers: 8 bytes, the lowest first, the highest first, and 4 bytes
abbrev pub world : ℕ → NativeState
world n = record {
  pointer_bytes = if n == 0 then 8 else (if n == 1 then 8 else 4);
  order = if n == 0 then Little else (if n == 2 then Little else Big);
  register = coded ((12, 4294967552) ∷ (14, 20480) ∷ (40, 7) ∷ (300, 18446744073709551615) ∷ []);
  frame = 4096;
  byte = byte_in memory;
}

abbrev pub piece : ℕ → ℕ → List ℕ → Bool → Piece
piece size offset stack is_value = record { size = size; offset = offset; stack = stack; is_value = is_value }

abbrev pub left : List ℕ → List Piece → Bool → Result Evaluation Stop
left stack pieces is_value = Ok (record { stack = stack; pieces = pieces; is_value = is_value })

-- bytes that are run in a moment, and what they should give
pub record Case : Type 0 where
  pub moment : ℕ
  pub bytes : List ℕ
  pub wanted : Result Evaluation Stop

abbrev pub on : ℕ → List ℕ → Result Evaluation Stop → Case
on moment bytes wanted = record { moment = moment; bytes = bytes; wanted = wanted }

-- ---- cases

abbrev pub cases : List Case
cases =
    on 0 (124 ∷ 0 ∷ 35 ∷ 18 ∷ 126 ∷ 208 ∷ 0 ∷ 6 ∷ 22 ∷ 12 ∷ 255 ∷ 255 ∷ 255 ∷ 255 ∷ 26 ∷ 34 ∷ []) (left (459026 ∷ []) [] false)
    ∷ on 0 (27 ∷ []) (Err element_missing)
    ∷ on 0 (48 ∷ 48 ∷ 27 ∷ []) (Err divides_by_0)
    ∷ on 0 (12 ∷ 1 ∷ []) (Err cut_short)
    ∷ on 0 (49 ∷ 159 ∷ []) (left (1 ∷ []) [] true)
    ∷ on 0 (149 ∷ []) (Err not_known)
    ∷ on 0 (24 ∷ []) (Err not_known)
    ∷ on 0 (49 ∷ 50 ∷ 24 ∷ []) (Err not_known)
    ∷ on 0 (237 ∷ 0 ∷ 1 ∷ []) (Err not_known)
    ∷ on 0 (146 ∷ 128 ∷ 128 ∷ 4 ∷ []) (Err not_known)
    ∷ on 0 (146 ∷ 255 ∷ 255 ∷ 3 ∷ []) (Err cut_short)
    ∷ on 0 (146 ∷ 255 ∷ 255 ∷ 3 ∷ 0 ∷ []) (Err (register_missing 65535))
    ∷ on 0 (146 ∷ 255 ∷ 255 ∷ 255 ∷ 255 ∷ 255 ∷ 255 ∷ 255 ∷ 255 ∷ 255 ∷ 2 ∷ 0 ∷ []) (Err cut_short)
    ∷ on 0 (146 ∷ 255 ∷ 255 ∷ 255 ∷ 255 ∷ 255 ∷ 255 ∷ 255 ∷ 255 ∷ 255 ∷ 1 ∷ 0 ∷ []) (Err not_known)
    ∷ on 0 (144 ∷ 128 ∷ 128 ∷ 4 ∷ []) (Err not_known)
    ∷ on 0 (144 ∷ 5 ∷ 150 ∷ []) (Err not_known)
    ∷ on 0 (144 ∷ []) (Err not_known)
    ∷ on 0 (144 ∷ 128 ∷ []) (Err not_known)
    ∷ on 0 [] (left [] [] false)
    ∷ on 0 (80 ∷ 150 ∷ []) (Err not_known)
    ∷ on 0 (40 ∷ 16 ∷ 0 ∷ []) (Err element_missing)
    ∷ on 0 (48 ∷ 40 ∷ 16 ∷ 0 ∷ []) (left [] [] false)
    ∷ on 0 (49 ∷ 40 ∷ 16 ∷ 0 ∷ []) (Err jumps_out)
    ∷ on 0 (47 ∷ 252 ∷ 255 ∷ []) (Err jumps_out)
    ∷ on 0 (47 ∷ 0 ∷ 0 ∷ []) (left [] [] false)
    ∷ on 0 (47 ∷ 0 ∷ []) (Err cut_short)
    ∷ on 0 (6 ∷ []) (Err element_missing)
    ∷ on 0 (48 ∷ 6 ∷ []) (Err (byte_missing 5))
    ∷ on 0 (10 ∷ 77 ∷ 80 ∷ 6 ∷ []) (Err (byte_missing 20557))
    ∷ on 0 (10 ∷ 81 ∷ 80 ∷ 6 ∷ []) (Err (byte_missing 20568))
    ∷ on 0 (48 ∷ 148 ∷ 0 ∷ []) (left (0 ∷ []) [] false)
    ∷ on 0 (148 ∷ []) (Err cut_short)
    ∷ on 0 (49 ∷ 159 ∷ 147 ∷ 4 ∷ 50 ∷ 157 ∷ 3 ∷ 5 ∷ []) (left [] (piece 32 0 (1 ∷ []) true ∷ piece 3 5 (2 ∷ []) false ∷ []) false)
    ∷ on 0 (147 ∷ 4 ∷ []) (left [] (piece 32 0 [] false ∷ []) false)
    ∷ on 0 (159 ∷ []) (left [] [] true)
    ∷ on 0 (9 ∷ 249 ∷ 50 ∷ 27 ∷ []) (left (18446744073709551613 ∷ []) [] false)
    ∷ on 0 (10 ∷ 80 ∷ 80 ∷ 159 ∷ []) (left (20560 ∷ []) [] true)
    ∷ on 0 (10 ∷ 80 ∷ 80 ∷ []) (left (20560 ∷ []) [] false)
    ∷ on 1 (10 ∷ 80 ∷ 80 ∷ []) (left (20560 ∷ []) [] false)
    ∷ on 2 (10 ∷ 80 ∷ 80 ∷ []) (left (20560 ∷ []) [] false)
    ∷ on 0 (49 ∷ 147 ∷ 4 ∷ []) (left [] (piece 32 0 (1 ∷ []) false ∷ []) false)
    ∷ on 0 (17 ∷ 255 ∷ 255 ∷ 255 ∷ 255 ∷ 255 ∷ 255 ∷ 255 ∷ 255 ∷ 255 ∷ 0 ∷ []) (left (9223372036854775807 ∷ []) [] false)
    ∷ on 0 (17 ∷ 128 ∷ 128 ∷ 128 ∷ 128 ∷ 128 ∷ 128 ∷ 128 ∷ 128 ∷ 128 ∷ 255 ∷ 0 ∷ []) (Err cut_short)
    ∷ on 0 (17 ∷ 128 ∷ 128 ∷ 128 ∷ 128 ∷ 128 ∷ 128 ∷ 128 ∷ 128 ∷ 128 ∷ 128 ∷ 255 ∷ 127 ∷ []) (Err cut_short)
    ∷ on 0 (16 ∷ 128 ∷ 128 ∷ 128 ∷ 128 ∷ 128 ∷ 128 ∷ 128 ∷ 128 ∷ 128 ∷ 128 ∷ 126 ∷ []) (Err cut_short)
    ∷ on 0 (255 ∷ []) (Err not_known)
    ∷ on 0 (3 ∷ 0 ∷ 0 ∷ 0 ∷ 0 ∷ 0 ∷ 0 ∷ 0 ∷ 0 ∷ []) (Err not_known)
    ∷ on 0 (156 ∷ []) (Err not_known)
    ∷ on 0 (151 ∷ []) (Err not_known)
    ∷ on 0 (224 ∷ []) (Err not_known)
    ∷ on 0 (9 ∷ 253 ∷ 6 ∷ []) (left (361417177251494826 ∷ []) [] false)
    ∷ on 0 (9 ∷ 253 ∷ 148 ∷ 4 ∷ []) (left (30194602 ∷ []) [] false)
    ∷ on 2 (9 ∷ 254 ∷ 6 ∷ []) (left (33628689 ∷ []) [] false)
    ∷ on 2 (9 ∷ 254 ∷ 148 ∷ 3 ∷ []) (left (74257 ∷ []) [] false)
    ∷ on 2 (14 ∷ 255 ∷ 255 ∷ 255 ∷ 255 ∷ 255 ∷ 255 ∷ 255 ∷ 255 ∷ []) (left (4294967295 ∷ []) [] false)
    ∷ on 2 (49 ∷ 8 ∷ 32 ∷ 31 ∷ 36 ∷ []) (left (0 ∷ []) [] false)
    ∷ on 2 (49 ∷ 8 ∷ 31 ∷ 36 ∷ []) (left (2147483648 ∷ []) [] false)
    ∷ on 2 (49 ∷ 8 ∷ 32 ∷ 36 ∷ []) (left (0 ∷ []) [] false)
    ∷ on 0 (49 ∷ 8 ∷ 64 ∷ 36 ∷ []) (left (0 ∷ []) [] false)
    ∷ on 0 (9 ∷ 255 ∷ 8 ∷ 64 ∷ 38 ∷ []) (left (18446744073709551615 ∷ []) [] false)
    ∷ on 0 (9 ∷ 255 ∷ 8 ∷ 63 ∷ 37 ∷ []) (left (1 ∷ []) [] false)
    ∷ on 0 (15 ∷ 0 ∷ 0 ∷ 0 ∷ 0 ∷ 0 ∷ 0 ∷ 0 ∷ 128 ∷ 25 ∷ []) (left (9223372036854775808 ∷ []) [] false)
    ∷ on 0 (15 ∷ 0 ∷ 0 ∷ 0 ∷ 0 ∷ 0 ∷ 0 ∷ 0 ∷ 128 ∷ 9 ∷ 255 ∷ 27 ∷ []) (left (9223372036854775808 ∷ []) [] false)
    ∷ on 0 (15 ∷ 0 ∷ 0 ∷ 0 ∷ 0 ∷ 0 ∷ 0 ∷ 0 ∷ 128 ∷ 31 ∷ []) (left (9223372036854775808 ∷ []) [] false)
    ∷ on 0 (9 ∷ 249 ∷ 55 ∷ 29 ∷ []) (left (2 ∷ []) [] false)
    ∷ on 0 (55 ∷ 9 ∷ 253 ∷ 27 ∷ []) (left (18446744073709551614 ∷ []) [] false)
    ∷ on 0 (9 ∷ 249 ∷ 9 ∷ 254 ∷ 27 ∷ []) (left (3 ∷ []) [] false)
    ∷ on 0 (49 ∷ 48 ∷ 29 ∷ []) (Err divides_by_0)
    ∷ on 0 (49 ∷ 21 ∷ 1 ∷ []) (Err element_missing)
    ∷ on 0 (49 ∷ 50 ∷ 21 ∷ 1 ∷ []) (left (1 ∷ 2 ∷ 1 ∷ []) [] false)
    ∷ on 0 (49 ∷ 22 ∷ []) (Err element_missing)
    ∷ on 0 (49 ∷ 50 ∷ 23 ∷ []) (Err element_missing)
    ∷ on 0 (49 ∷ 20 ∷ []) (Err element_missing)
    ∷ on 0 (18 ∷ []) (Err element_missing)
    ∷ on 0 (19 ∷ []) (Err element_missing)
    ∷ on 0 (35 ∷ 1 ∷ []) (Err element_missing)
    ∷ on 0 (31 ∷ []) (Err element_missing)
    ∷ on 0 (49 ∷ 34 ∷ []) (Err element_missing)
    ∷ on 0 (49 ∷ 50 ∷ 51 ∷ 23 ∷ []) (left (2 ∷ 1 ∷ 3 ∷ []) [] false)
    ∷ on 0 (145 ∷ 112 ∷ []) (left (4080 ∷ []) [] false)
    ∷ on 0 (145 ∷ 112 ∷ 6 ∷ []) (left (289077006547550217 ∷ []) [] false)
    ∷ on 1 (145 ∷ 112 ∷ 6 ∷ []) (left (648518896114074372 ∷ []) [] false)
    ∷ on 3 (145 ∷ 112 ∷ 6 ∷ []) (left (150995072 ∷ []) [] false)
    ∷ on 0 (127 ∷ 0 ∷ []) (Err (register_missing 15))
    ∷ on 0 (146 ∷ 172 ∷ 2 ∷ 1 ∷ []) (left (0 ∷ []) [] false)
    ∷ on 2 (146 ∷ 172 ∷ 2 ∷ 1 ∷ []) (left (0 ∷ []) [] false)
    ∷ on 0 (120 ∷ 127 ∷ []) (Err (register_missing 8))
    ∷ on 0 (152 ∷ 0 ∷ 0 ∷ []) (Err not_known)
    ∷ on 0 (49 ∷ 47 ∷ 1 ∷ 0 ∷ 150 ∷ []) (left (1 ∷ []) [] false)
    ∷ on 0 (49 ∷ 47 ∷ 2 ∷ 0 ∷ 150 ∷ []) (Err jumps_out)
    ∷ on 0 (52 ∷ 49 ∷ 40 ∷ 1 ∷ 0 ∷ 53 ∷ 54 ∷ 34 ∷ []) (left (10 ∷ []) [] false)
    ∷ on 0 (52 ∷ 48 ∷ 40 ∷ 1 ∷ 0 ∷ 53 ∷ 54 ∷ 34 ∷ []) (left (11 ∷ 4 ∷ []) [] false)
    ∷ on 0 (51 ∷ 49 ∷ 28 ∷ 18 ∷ 40 ∷ 250 ∷ 255 ∷ []) (left (0 ∷ []) [] false)
    ∷ []

made : map (λ c. made_of (world c.moment) c.bytes) cases ≡ map (λ c. c.wanted) cases
unfolding machines_on_literals
made = refl
