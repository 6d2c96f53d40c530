-- Lines that are made from their ends.
use Rattle.std.proofs.Common.{◌≡◌, ℕ, ◌+◌, ◌-◌, ◌≤◌, List, ◌++◌, length, take, drop, ◌∙◌, ap, sym, arith, append_assoc, take-add, take-take, take_at}
use Rattle.std.proofs.lemmas.List.{length-append, length-drop, length-take-le, take-append-le, take-append-drop, take_all, drop-take, drop-drop, drop_at, drop-append-le}
use Rattle.dwc_cli.specs.Printed.{space, line_feed}
use borrow.Rule.Slice.PartMut.{put_mid}

-- what stands in front of the place where a line ends
pub line_text : (line old text : List ℕ) (start : ℕ) → length line ≡ 128 → length old ≡ 128 → start ≤ 64 → drop start line ≡ text ++ drop 64 old → drop start (take 64 line) ≡ text
line_text line old text start whole long within is =
    let left : length text + length (drop 64 old) ≡ length (drop start line) = sym (length-append text (drop 64 old)) ∙ ap length (sym is) in
    let exact : length text ≡ 64 - start = omega (arith, left, length-drop 64 old, length-drop start line) in
    let ends : 64 ≡ start + (64 - start) = omega arith in
    ap (λ k. drop start (take k line)) ends ∙ drop-take start (64 - start) line ∙ ap (take (64 - start)) is
    ∙ take-append-le (64 - start) text (drop 64 old) (omega (arith, exact)) ∙ take_all (64 - start) text (omega (arith, exact))

-- the line of a relocation, in front of what stands behind its end
pub line_parts : (front target addend rest : List ℕ) → front ++ (target ++ (space ++ (addend ++ (line_feed ++ rest)))) ≡ (front ++ target ++ space ++ addend ++ line_feed) ++ rest
line_parts front target addend rest = sym (
    append_assoc (front ++ target ++ space ++ addend) line_feed rest
    ∙ append_assoc (front ++ target ++ space) addend (line_feed ++ rest)
    ∙ append_assoc (front ++ target) space (addend ++ (line_feed ++ rest))
    ∙ append_assoc front target (space ++ (addend ++ (line_feed ++ rest))))

-- what ends a line, in front of what stands behind its end
pub line_end : (line old digits : List ℕ) (start : ℕ) → length line ≡ 128 → length old ≡ 128 → start ≤ 64 → drop start line ≡ space ++ (digits ++ (line_feed ++ drop 64 old)) → drop start (take 64 line) ≡ space ++ digits ++ line_feed
line_end line old digits start whole long within is = line_text line old (space ++ digits ++ line_feed) start whole long within (is ∙ ap (λ xs. space ++ xs) (sym (append_assoc digits line_feed (drop 64 old))))

-- what a write to a part leaves from the part on
put_front : (a k : ℕ) (xs ys : List ℕ) → a ≤ length xs → drop a (put_mid a k xs ys) ≡ ys ++ drop (a + k) xs
put_front a k xs ys within = drop_at (take a xs) (ys ++ drop k (drop a xs)) a (length-take-le a xs within) ∙ ap (λ zs. ys ++ zs) (drop-drop k a xs)

-- two pieces of a name that may overlap, the last one put first
pub two_pieces : (line name first last : List ℕ) (start end : ℕ) → 8 ≤ length name → length name ≤ 16 → start + length name ≡ end → end ≤ length line → last ≡ take (length name - (length name - 8)) (drop (length name - 8) name) → first ≡ take 8 name → drop start (put_mid start (start + 8 - start) (put_mid (end - 8) (end - (end - 8)) line last) first) ≡ name ++ drop end line
two_pieces line name first last start end some most ends within is_taken is_first =
    let is_last : last ≡ drop (length name - 8) name = is_taken ∙ take_all (length name - (length name - 8)) (drop (length name - 8) name) (omega (arith, length-drop (length name - 8) name)) in
    let moved = put_mid (end - 8) (end - (end - 8)) line last in
    let at_end : end - 8 + (end - (end - 8)) ≡ end = omega arith in
    let at_seam : start + (start + 8 - start) ≡ end - 8 + (16 - length name) = omega arith in
    let at_eight : length name - 8 + (16 - length name) ≡ 8 = omega arith in
    let size : length last ≡ length name - (length name - 8) = ap length is_last ∙ length-drop (length name - 8) name in
    let tail : drop (end - 8) moved ≡ last ++ drop end line = put_front (end - 8) (end - (end - 8)) line last (omega arith) ∙ ap (λ k. last ++ drop k line) at_end in
    let over : drop (start + (start + 8 - start)) moved ≡ drop 8 name ++ drop end line =
    ap (λ k. drop k moved) at_seam ∙ sym (drop-drop (16 - length name) (end - 8) moved) ∙ ap (drop (16 - length name)) tail
    ∙ drop-append-le (16 - length name) last (drop end line) (omega (arith, size))
    ∙ ap (λ xs. drop (16 - length name) xs ++ drop end line) is_last
    ∙ ap (λ xs. xs ++ drop end line) (drop-drop (16 - length name) (length name - 8) name ∙ ap (λ k. drop k name) at_eight) in
    let long : length moved ≡ length (take (end - 8) line) + length (last ++ drop (end - (end - 8)) (drop (end - 8) line)) = length-append (take (end - 8) line) (last ++ drop (end - (end - 8)) (drop (end - 8) line)) in
    let front : length (take (end - 8) line) ≡ end - 8 = length-take-le (end - 8) line (omega arith) in
    put_front start (start + 8 - start) moved first (omega (arith, long, front))
    ∙ ap (λ xs. first ++ xs) over ∙ ap (λ xs. xs ++ (drop 8 name ++ drop end line)) is_first
    ∙ sym (append_assoc (take 8 name) (drop 8 name) (drop end line)) ∙ ap (λ xs. xs ++ drop end line) (take-append-drop 8 name)

-- a line that is copied behind what a page holds, with what stands behind it
pub page_line : (bytes piece line : List ℕ) (filled start : ℕ) → start ≤ 64 → filled + 64 ≤ length bytes → length line ≡ 128 → piece ≡ take (start + 64 - start) (drop start line) → take (filled + 64 - start) (put_mid filled (filled + 64 - filled) bytes piece) ≡ take filled bytes ++ drop start (take 64 line)
page_line bytes piece line filled start within room whole is =
    let grown = put_mid filled (filled + 64 - filled) bytes piece in
    let behind = piece ++ drop (filled + 64 - filled) (drop filled bytes) in
    let ends : filled + 64 - start ≡ filled + (64 - start) = omega arith in
    let full : 64 ≡ start + (64 - start) = omega arith in
    let held : length (take filled bytes) ≡ filled = length-take-le filled bytes (omega arith) in
    let left : length (take (start + 64 - start) (drop start line)) ≡ start + 64 - start = length-take-le (start + 64 - start) (drop start line) (omega (arith, length-drop start line)) in
    let size : length piece ≡ start + 64 - start = ap length is ∙ left in
    let moved : take (64 - start) (drop filled grown) ≡ drop start (take 64 line) =
    ap (take (64 - start)) (drop_at (take filled bytes) behind filled held)
    ∙ take-append-le (64 - start) piece (drop (filled + 64 - filled) (drop filled bytes)) (omega (arith, size))
    ∙ ap (take (64 - start)) is ∙ take-take (64 - start) (start + 64 - start) (drop start line) (omega arith)
    ∙ sym (drop-take start (64 - start) line) ∙ ap (λ k. drop start (take k line)) (sym full) in
    ap (λ k. take k grown) ends ∙ take-add filled (64 - start) grown
    ∙ ap (λ xs. xs ++ take (64 - start) (drop filled grown)) (take_at (take filled bytes) behind filled held)
    ∙ ap (λ xs. take filled bytes ++ xs) moved
