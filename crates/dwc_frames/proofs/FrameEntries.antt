-- Entries of call frames: how they are filled, and the parts that they are written by.
use Rattle.std.proofs.Common.{◌≡◌, ℕ, suc, ◌+◌, ◌-◌, ◌<◌, ap, sym, ◌∙◌, arith, List, [], ◌∷◌, ◌++◌, append_assoc, length, length-append}
use Rattle.std.proofs.lemmas.List.{length-replicate}
use Rattle.std.specs.Prelude.{replicate}
use Rattle.dwc_base.specs.declared.records.Endian.{Endian}
use Rattle.dwc_base.specs.declared.constants.TheConstants.{DW_CFA_nop}
use Rattle.dwc_native.specs.CallFrames.{CommonEntry, FrameDescription}
use Rattle.dwc_output.specs.FrameSections.{FrameNumber, advancing_numbers, address_sized, description_bytes, filling, frame_entry_bytes}
use Rattle.dwc_base.specs.NumberBytes.{number_bytes}
use Rattle.dwc_frames.specs.Frames.{entry_bytes, numbers_bytes}
use Rattle.dwc_section.specs.Spelled.{sized_bytes}
use Rattle.dwc_section.proofs.ReadNumbers.{number_bytes-length}

-- a byte more that fills
pub fill-more : (x left k : ℕ) (out now whole : List ℕ) → k < left → now ≡ out ++ x ∷ [] → out ++ replicate (left - k) x ≡ whole → now ++ replicate (left - (k + 1)) x ≡ whole
fill-more x left k out now whole inside put before =
    let more : left - k ≡ suc (left - (k + 1)) = omega (arith, inside) in
    ap (λ bytes. bytes ++ replicate (left - (k + 1)) x) put ∙ append_assoc out (x ∷ []) (replicate (left - (k + 1)) x) ∙ ap (λ n. out ++ replicate n x) (sym more) ∙ before

-- an entry that is filled, and then put behind its length
pub sized-entry : (order : Endian) (size : ℕ) (ns : List FrameNumber) (bytes all : List ℕ) → bytes ≡ numbers_bytes order size ns → all ≡ bytes ++ replicate (filling size (length bytes)) DW_CFA_nop → sized_bytes order all ≡ frame_entry_bytes order size ns
unfolding frame_entry_bytes
sized-entry order size ns bytes all is filled =
    let fill = replicate (filling size (length bytes)) DW_CFA_nop in
    let long : length (bytes ++ fill) ≡ length bytes + filling size (length bytes) = omega (arith, length-append bytes fill, length-replicate (filling size (length bytes)) DW_CFA_nop) in
    ap (sized_bytes order) filled
    ∙ ap (λ n. number_bytes order 4 n ++ (bytes ++ fill)) long
    ∙ sym (append_assoc (number_bytes order 4 (length bytes + filling size (length bytes))) bytes fill)
    ∙ ap (λ b. (number_bytes order 4 (length b + filling size (length b)) ++ b) ++ replicate (filling size (length b)) DW_CFA_nop) is

-- the entry of a function, from what stands behind its address
pub function-entry : (order : Endian) (size count : ℕ) (c : CommonEntry) (d : ℕ × FrameDescription) (part rest : List ℕ) → part ≡ numbers_bytes order size (address_sized (d.1).length ∷ advancing_numbers c 0 (d.1).instructions) → count ≡ 4 + size + length part → rest ≡ part ++ replicate (filling size count) DW_CFA_nop
    → entry_bytes order size rest ≡ description_bytes order size c d
unfolding frame_entry_bytes
function-entry order size count c d part rest is counted filled =
    let a = number_bytes order 4 0 in
    let b = number_bytes order size 0 in
    let bytes = a ++ (b ++ part) in
    let front : length bytes ≡ 4 + size + length part = omega (arith, length-append a (b ++ part), length-append b part, number_bytes-length order 4 0, number_bytes-length order size 0) in
    let same : count ≡ length bytes = counted ∙ sym front in
    let nops : List ℕ = replicate (filling size count) DW_CFA_nop in
    let long : 4 + size + length (part ++ nops) ≡ length bytes + filling size count = omega (arith, front, length-append part nops, length-replicate (filling size count) DW_CFA_nop) in
    let head = number_bytes order 4 (length bytes + filling size count) in
    ap (entry_bytes order size) filled
    ∙ ap (λ n. number_bytes order 4 n ++ (a ++ (b ++ (part ++ nops)))) long
    ∙ ap (λ x. head ++ (a ++ x)) (sym (append_assoc b part nops))
    ∙ ap (λ x. head ++ x) (sym (append_assoc a (b ++ part) nops))
    ∙ sym (append_assoc head bytes nops)
    ∙ ap (λ n. (number_bytes order 4 (length bytes + filling size n) ++ bytes) ++ replicate (filling size n) DW_CFA_nop) same
    ∙ ap (λ p. (number_bytes order 4 (length (a ++ (b ++ p)) + filling size (length (a ++ (b ++ p)))) ++ (a ++ (b ++ p))) ++ replicate (filling size (length (a ++ (b ++ p)))) DW_CFA_nop) is
