-- What a text that is written piece by piece keeps.
use Rattle.std.proofs.Common.{◌≡◌, ℕ, zero, suc, ◌+◌, ◌<◌, ◌≤◌, List, [], ◌∷◌, ◌++◌, map, length, take, drop, get_or, Option, Some, None, Result, Ok, Err, refl, sym, subst, ◌∙◌, ap, append_assoc, append-nil, arith}
use Rattle.std.specs.Prelude.{OnOk, OnErr}
use Rattle.std.specs.List.{flat_map}
use Rattle.dwc_cli.specs.Edge.{AppendsFront, Sends, Prints}
use Rattle.dwc_cli.specs.RunStatus.{Appended}

-- two texts that are appended one after the other
pub Appended-append : (before mid now : Option (List ℕ)) (text piece : List ℕ) → Appended before mid text → Appended mid now piece → Appended before now (text ++ piece)
Appended-append None mid now text piece first second = tt
Appended-append (Some w) mid now text piece first second =
    let grown : Appended (Some (w ++ text)) now piece = subst (λ m. Appended m now piece) first second in
    grown ∙ ap Some (append_assoc w text piece)

-- nothing is appended where nothing is written
pub Appended-none : (before : Option (List ℕ)) → Appended before before []
Appended-none None = tt
Appended-none (Some w) = ap Some (sym (append-nil w))

-- ---- fronts

front-of : (piece rest : List ℕ) (count : ℕ) → (k : ℕ) × (take count piece ≡ take k (piece ++ rest))
front-of [] rest zero = (0, refl)
front-of [] rest (suc n) = (0, refl)
front-of (x ∷ xs) rest zero = (0, refl)
front-of (x ∷ xs) rest (suc n) = let m = front-of xs rest n in (suc m.0, ap (λ ys. x ∷ ys) m.1)

behind-of : (done text : List ℕ) (k m : ℕ) → m ≡ length done + k → done ++ take k text ≡ take m (done ++ text)
behind-of [] text k m is = ap (λ n. take n text) (omega arith)
behind-of (x ∷ xs) text k zero is = absurd (omega arith)
behind-of (x ∷ xs) text k (suc m) is = ap (λ ys. x ∷ ys) (behind-of xs text k m (omega arith))

-- behind a text that was appended a front of the next piece
AppendsFront-behind : (before mid now : Option (List ℕ)) (done piece rest : List ℕ) → Appended before mid done → AppendsFront mid now piece → AppendsFront before now (done ++ (piece ++ rest))
AppendsFront-behind before mid now done piece rest first second =
    let front = front-of piece rest second.0 in
    let all = Appended-append before mid now done (take second.0 piece) first second.1 in
    (length done + front.0, subst (Appended before now) (ap (λ ys. done ++ ys) front.1 ∙ behind-of done (piece ++ rest) front.0 _ refl) all)

-- ---- a text that is printed piece by piece: what is still to come is held behind what is

-- all that was held is written
pub Sends-all : (before now : Option (List ℕ)) (held : List ℕ) → Appended before now held → Sends before held now [] []
Sends-all before now held taken = record { sent = held; taken = taken; whole = refl }

-- nothing is written
pub Sends-none : (before : Option (List ℕ)) (held : List ℕ) → Sends before held before held []
Sends-none before held = record { sent = []; taken = Appended-none before; whole = sym (append-nil held) }

-- a text is held behind what is
pub Sends-push : (before : Option (List ℕ)) (held : List ℕ) (now : Option (List ℕ)) (left text : List ℕ) → Sends before held now left [] → Sends before held now (left ++ text) text
Sends-push before held now left text one = record {
  sent = one.sent;
  taken = one.taken;
  whole = sym (append_assoc one.sent left text) ∙ ap (λ xs. xs ++ text) (one.whole ∙ append-nil held);
}

-- a text is written with nothing held
pub Prints-written : {T E : Type 0} (before now : Option (List ℕ)) (held text : List ℕ) (result : Result T E) → held ≡ [] → OnOk result (Appended before now text) → OnErr result (AppendsFront before now text) → Prints before held now held text result
Prints-written before now held text (Ok x) none whole front = subst (λ xs. Sends before xs now xs text) (sym none) (record { sent = text; taken = whole; whole = append-nil text })
Prints-written before now held text (Err e) none whole front = subst (λ xs. AppendsFront before now (xs ++ text)) (sym none) front

-- nothing is held at the end
pub Prints-whole : {T E : Type 0} (before now : Option (List ℕ)) (left text : List ℕ) (result : Result T E) → Prints before [] now left text result → OnOk result (left ≡ []) → OnOk result (Appended before now text)
Prints-whole before now left text (Ok x) all empty = subst (Appended before now) (sym (append-nil all.sent) ∙ ap (λ ys. all.sent ++ ys) (sym empty) ∙ all.whole) all.taken
Prints-whole before now left text (Err e) all empty = tt

pub Prints-front : {T E : Type 0} (before now : Option (List ℕ)) (left text : List ℕ) (result : Result T E) → Prints before [] now left text result → OnErr result (AppendsFront before now text)
Prints-front before now left text (Ok x) all = tt
Prints-front before now left text (Err e) all = all

-- before the first piece
pub Sends-begin : (before : Option (List ℕ)) (held text : List ℕ) → Sends before held before (held ++ text) text
Sends-begin before held text = record { sent = []; taken = Appended-none before; whole = refl }

-- after a piece
pub Sends-next : (before : Option (List ℕ)) (held : List ℕ) (mid : Option (List ℕ)) (kept : List ℕ) (now : Option (List ℕ)) (left piece later rest text : List ℕ) → piece ++ later ≡ rest → Sends before held mid (kept ++ rest) text → Sends mid kept now left piece → Sends before held now (left ++ later) text
Sends-next before held mid kept now left piece later rest text parts one two = record {
  sent = one.sent ++ two.sent;
  taken = Appended-append before mid now one.sent two.sent one.taken two.taken;
  whole =
      append_assoc one.sent two.sent (left ++ later)
      ∙ ap (λ ys. one.sent ++ ys) (sym (append_assoc two.sent left later) ∙ ap (λ xs. xs ++ later) two.whole ∙ append_assoc kept piece later ∙ ap (λ ys. kept ++ ys) parts)
      ∙ one.whole;
}

-- after the last piece
pub Sends-end : (before : Option (List ℕ)) (held : List ℕ) (now : Option (List ℕ)) (left rest text : List ℕ) → rest ≡ [] → Sends before held now (left ++ rest) text → Sends before held now left text
Sends-end before held now left rest text none all = subst (λ xs. Sends before held now xs text) (ap (λ ys. left ++ ys) none ∙ append-nil left) all

-- where the sink fails in a piece
pub Sends-fail : (before : Option (List ℕ)) (held : List ℕ) (mid : Option (List ℕ)) (kept : List ℕ) (now : Option (List ℕ)) (piece later rest text : List ℕ) → piece ++ later ≡ rest → Sends before held mid (kept ++ rest) text → AppendsFront mid now (kept ++ piece) → AppendsFront before now (held ++ text)
Sends-fail before held mid kept now piece later rest text parts one two =
    let all = AppendsFront-behind before mid now one.sent (kept ++ piece) later one.taken two in
    subst (AppendsFront before now) (ap (λ ys. one.sent ++ ys) (append_assoc kept piece later ∙ ap (λ ys. kept ++ ys) parts) ∙ one.whole) all

-- the last piece, whatever comes of it
pub Prints-last : {T E : Type 0} (before : Option (List ℕ)) (held : List ℕ) (mid : Option (List ℕ)) (kept : List ℕ) (now : Option (List ℕ)) (left rest text : List ℕ) (result : Result T E) → Sends before held mid (kept ++ rest) text → Prints mid kept now left rest result → Prints before held now left text result
Prints-last before held mid kept now left rest text (Ok x) one two = Sends-end before held now left [] text refl (Sends-next before held mid kept now left rest [] rest text (append-nil rest) one two)
Prints-last before held mid kept now left rest text (Err e) one two = Sends-fail before held mid kept now rest [] rest text (append-nil rest) one two

-- what is held at last is written
pub Prints-flushed : {T E : Type 0} (before : Option (List ℕ)) (held : List ℕ) (mid : Option (List ℕ)) (kept : List ℕ) (now : Option (List ℕ)) (left text : List ℕ) (result : Result T E) → Sends before held mid kept text → Prints mid kept now left [] result → Prints before held now left text result
Prints-flushed before held mid kept now left text result one two = Prints-last before held mid kept now left [] text result (subst (λ xs. Sends before held mid xs text) (sym (append-nil kept)) one) two

split-at : {X Y : Type 0} (f : Y → List ℕ) (view : X → Y) (xs : List X) (i : ℕ) (d : X) → i < length xs → f (view (get_or xs i d)) ++ flat_map f (map view (drop (suc i) xs)) ≡ flat_map f (map view (drop i xs))
split-at f view [] i d less = absurd (omega arith)
split-at f view (x ∷ xs) zero d less = refl
split-at f view (x ∷ xs) (suc i) d less = split-at f view xs i d (omega arith)

-- the text of an item and of those behind it
pub split-items : {X Y : Type 0} (f : Y → List ℕ) (view : X → Y) (xs : List X) (i : ℕ) (d : X) → i < length xs → f (view (get_or xs i d)) ++ flat_map f (map view (drop (i + 1) xs)) ≡ flat_map f (map view (drop i xs))
split-items f view xs i d less =
    let one : suc i ≡ i + 1 = omega arith in
    subst (λ k. f (view (get_or xs i d)) ++ flat_map f (map view (drop k xs)) ≡ flat_map f (map view (drop i xs))) one (split-at f view xs i d less)

-- no item is left
pub none-left : {X Y : Type 0} (f : Y → List ℕ) (view : X → Y) (xs : List X) (i : ℕ) → length xs ≤ i → flat_map f (map view (drop i xs)) ≡ []
none-left f view [] zero less = refl
none-left f view [] (suc i) less = refl
none-left f view (x ∷ xs) zero less = absurd (omega arith)
none-left f view (x ∷ xs) (suc i) less = none-left f view xs i (omega arith)
