-- Bytes that run as an action, wherever they stand.
use Rattle.std.proofs.Common.{◌≡◌, ℕ, suc, ◌+◌, ◌<◌, ◌≤◌, refl, sym, ap, subst, ◌∙◌, arith, List, [], ◌++◌, append_assoc, append-nil, length, length-append, Result, Ok, Err, is_err, true, false}
use Rattle.dwc_base.specs.declared.records.Endian.TheVariants.{Little}
use Rattle.dwc_base.specs.Reading.{◌>>=◌}
use Rattle.dwc_base.specs.Spelling.{unread_at}
use Rattle.dwc_machines.specs.StackOperations.{Stop}
use Rattle.dwc_machines.specs.NativeStates.{NativeState, Evaluation}
use Rattle.dwc_machines.specs.ByteMachine.{native_rule, native_operations_from, ByteState, byte_step, stepped}
use Rattle.dwc_expr.specs.RunsAlike.{count_operations}
use Rattle.dwc_expr.specs.WholeParts.{is_jump_rule}
use Rattle.dwc_expr.proofs.Meaning.TakenOperations.{IsOperation}
use Rattle.dwc_expr.proofs.Meaning.OperationWalks.{native-spelled, native-end}
use Rattle.dwc_expr.proofs.Meaning.MachineSteps.{does, step-at, stepped-on}

-- ---- bytes that run as an action

-- The machine, from a state on, is after some steps in bytes from a place up to another, and stops there.
pub record StopsIn (n : NativeState) (bytes : List ℕ) (start : ByteState) (begin end : ℕ) : Type 0 where
  pub more : ℕ
  pub at : ByteState
  pub reached : stepped (byte_step n bytes) more start ≡ Ok at
  pub stops : is_err (byte_step n bytes at) ≡ true
  pub behind_begin : begin ≤ at.place
  pub before_end : at.place < end

-- the machine is after some steps at the end of some bytes with what an action makes, or it stops inside them
abbrev pub RunsTo : NativeState → List ℕ → ByteState → ℕ → ℕ → Result Evaluation Stop → Type 0
RunsTo n bytes start end count (Ok made) = stepped (byte_step n bytes) count start ≡ Ok (record { place = end; made = made })
RunsTo n bytes start end count (Err stop) = StopsIn n bytes start start.place end

-- Bytes run as an action in so many operations, wherever they stand.
pub record Simulates (n : NativeState) (bytes : List ℕ) (action : Evaluation → Result Evaluation Stop) (count : ℕ) : Type 0 where
  pub runs : (front rest : List ℕ) (v : Evaluation) → RunsTo n (front ++ (bytes ++ rest)) (record { place = length front; made = v }) (length front + length bytes) count (action v)
  pub counts : (p : ℕ) (more : List ℕ) → length (native_operations_from (unread_at Little p (bytes ++ more))).items ≡ count + length (native_operations_from (unread_at Little (p + length bytes) more)).items

-- no bytes do nothing
pub simulates-nothing : (n : NativeState) → Simulates n [] (λ v. Ok v) 0
simulates-nothing n = record {
  runs = λ front rest v. let e : length front ≡ length front + 0 = omega arith in ap (λ p. Ok (record { place = p; made = v })) e;
  counts = λ p more.
      let e : p ≡ p + 0 = omega arith in
      let same : length (native_operations_from (unread_at Little p more)).items ≡ length (native_operations_from (unread_at Little (p + 0) more)).items = ap (λ q. length (native_operations_from (unread_at Little q more)).items) e in
      omega (arith, same);
}

-- an operation does what it does
pub simulates-one : (n : NativeState) (bytes : List ℕ) (o : ℕ × ℕ × ℕ) → IsOperation bytes o → is_jump_rule (native_rule o.0) ≡ false → Simulates n bytes (does n o) 1
simulates-one n bytes o w free = record {
  runs = λ front rest v. go front rest v (does n o v) refl;
  counts = λ p more.
      let one : length (native_operations_from (unread_at Little p (bytes ++ more))).items ≡ suc (length (native_operations_from (unread_at Little (p + length bytes) more)).items) = ap (λ l. length l.items) (native-spelled bytes o w p more) in
      omega (arith, one);
}
  where
    go : (front rest : List ℕ) (v : Evaluation) (r : Result Evaluation Stop) → does n o v ≡ r → RunsTo n (front ++ (bytes ++ rest)) (record { place = length front; made = v }) (length front + length bytes) 1 r
    go front rest v (Ok made) e = step-at n bytes o w free front rest v ∙ ap (λ q. q >>= λ m. Ok (record { place = length front + length bytes; made = m })) e
    go front rest v (Err stop) e = record {
      more = 0;
      at = record { place = length front; made = v };
      reached = refl;
      stops = ap is_err (step-at n bytes o w free front rest v ∙ ap (λ q. q >>= λ m. Ok (record { place = length front + length bytes; made = m })) e);
      behind_begin = omega arith;
      before_end = omega (arith, w.some);
    }

-- bytes behind bytes do one thing after the other
pub simulates-both : (n : NativeState) (bs cs : List ℕ) (f g : Evaluation → Result Evaluation Stop) (a b : ℕ) → Simulates n bs f a → Simulates n cs g b → Simulates n (bs ++ cs) (λ v. f v >>= g) (a + b)
simulates-both n bs cs f g a b first second = record {
  runs = λ front rest v. go front rest v (f v) (first.runs front (cs ++ rest) v);
  counts = λ p more.
      let parts : length (native_operations_from (unread_at Little p ((bs ++ cs) ++ more))).items ≡ a + length (native_operations_from (unread_at Little (p + length bs) (cs ++ more))).items = ap (λ xs. length (native_operations_from (unread_at Little p xs)).items) (append_assoc bs cs more) ∙ first.counts p (cs ++ more) in
      let e : p + length bs + length cs ≡ p + length (bs ++ cs) = omega (arith, length-append bs cs) in
      let rest : length (native_operations_from (unread_at Little (p + length bs) (cs ++ more))).items ≡ b + length (native_operations_from (unread_at Little (p + length (bs ++ cs)) more)).items = second.counts (p + length bs) more ∙ ap (λ q. b + length (native_operations_from (unread_at Little q more)).items) e in
      omega (arith, parts, rest);
}
  where
    whole : (front rest : List ℕ) → front ++ (bs ++ (cs ++ rest)) ≡ front ++ ((bs ++ cs) ++ rest)
    whole front rest = ap (λ xs. front ++ xs) (sym (append_assoc bs cs rest))

    moved : (front rest : List ℕ) → (front ++ bs) ++ (cs ++ rest) ≡ front ++ ((bs ++ cs) ++ rest)
    moved front rest = append_assoc front bs (cs ++ rest) ∙ whole front rest

    end : (front : List ℕ) → length front + length bs + length cs ≡ length front + length (bs ++ cs)
    end front = omega (arith, length-append bs cs)

    later : (front rest : List ℕ) (w : Evaluation) (r : Result Evaluation Stop) (start : ByteState) → start.place ≤ length front + length bs
        → stepped (byte_step n (front ++ ((bs ++ cs) ++ rest))) a start ≡ Ok (record { place = length front + length bs; made = w })
        → RunsTo n (front ++ ((bs ++ cs) ++ rest)) (record { place = length front + length bs; made = w }) (length front + length (bs ++ cs)) b r
        → RunsTo n (front ++ ((bs ++ cs) ++ rest)) start (length front + length (bs ++ cs)) (a + b) r
    later front rest w (Ok made) start low reached runs = stepped-on (byte_step n (front ++ ((bs ++ cs) ++ rest))) a b start (record { place = length front + length bs; made = w }) (Ok (record { place = length front + length (bs ++ cs); made = made })) reached runs
    later front rest w (Err stop) start low reached runs = record {
      more = a + runs.more;
      at = runs.at;
      reached = stepped-on (byte_step n (front ++ ((bs ++ cs) ++ rest))) a runs.more start (record { place = length front + length bs; made = w }) (Ok runs.at) reached runs.reached;
      stops = runs.stops;
      behind_begin = omega (arith, runs.behind_begin, low);
      before_end = runs.before_end;
    }

    second-here : (front rest : List ℕ) (w : Evaluation) → RunsTo n (front ++ ((bs ++ cs) ++ rest)) (record { place = length front + length bs; made = w }) (length front + length (bs ++ cs)) b (g w)
    second-here front rest w =
        subst (λ xs. RunsTo n xs (record { place = length front + length bs; made = w }) (length front + length (bs ++ cs)) b (g w)) (moved front rest)
        (subst (λ e. RunsTo n ((front ++ bs) ++ (cs ++ rest)) (record { place = length front + length bs; made = w }) e b (g w)) (end front)
        (subst (λ k. RunsTo n ((front ++ bs) ++ (cs ++ rest)) (record { place = k; made = w }) (k + length cs) b (g w)) (length-append front bs) (second.runs (front ++ bs) rest w)))

    go : (front rest : List ℕ) (v : Evaluation) (r : Result Evaluation Stop) → RunsTo n (front ++ (bs ++ (cs ++ rest))) (record { place = length front; made = v }) (length front + length bs) a r
        → RunsTo n (front ++ ((bs ++ cs) ++ rest)) (record { place = length front; made = v }) (length front + length (bs ++ cs)) (a + b) (r >>= g)
    go front rest v (Ok w) runs =
        later front rest w (g w) (record { place = length front; made = v }) (omega arith)
        (subst (λ xs. stepped (byte_step n xs) a (record { place = length front; made = v }) ≡ Ok (record { place = length front + length bs; made = w })) (whole front rest) runs)
        (second-here front rest w)
    go front rest v (Err stop) runs =
        let s : StopsIn n (front ++ ((bs ++ cs) ++ rest)) (record { place = length front; made = v }) (length front) (length front + length bs) = subst (λ xs. StopsIn n xs (record { place = length front; made = v }) (length front) (length front + length bs)) (whole front rest) runs in
        record { more = s.more; at = s.at; reached = s.reached; stops = s.stops; behind_begin = s.behind_begin; before_end = omega (arith, s.before_end, length-append bs cs) }

-- an action may be told in another way
pub simulates-as : (n : NativeState) (bytes : List ℕ) (f g : Evaluation → Result Evaluation Stop) (a : ℕ) → ((v : Evaluation) → f v ≡ g v) → Simulates n bytes f a → Simulates n bytes g a
simulates-as n bytes f g a same w = record {
  runs = λ front rest v. subst (RunsTo n (front ++ (bytes ++ rest)) (record { place = length front; made = v }) (length front + length bytes) a) (same v) (w.runs front rest v);
  counts = w.counts;
}

-- how many operations such bytes are
pub simulates-count : (n : NativeState) (bytes : List ℕ) (f : Evaluation → Result Evaluation Stop) (a : ℕ) → Simulates n bytes f a → count_operations bytes ≡ a
simulates-count n bytes f a w =
    let whole : length (native_operations_from (unread_at Little 0 bytes)).items ≡ a + length (native_operations_from (unread_at Little (0 + length bytes) [])).items = ap (λ bs. length (native_operations_from (unread_at Little 0 bs)).items) (sym (append-nil bytes)) ∙ w.counts 0 [] in
    let none : length (native_operations_from (unread_at Little (0 + length bytes) [])).items ≡ 0 = ap (λ l. length l.items) (native-end (unread_at Little (0 + length bytes) []) refl) in
    omega (arith, whole, none)
