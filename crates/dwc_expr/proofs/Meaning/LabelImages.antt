-- Bytes that push the value of a label, or the base of linear memory.
use Rattle.std.proofs.Common.{◌≡◌, ℕ, ◌+◌, ◌^◌, ◌<◌, refl, sym, ap, subst, ◌∙◌, arith, List, [], ◌∷◌, ◌++◌, append_assoc, append-nil, Option, Some, None, Result, Ok, Err, Bool, true, false, eqb, true≢false}
use Rattle.std.specs.Prelude.{ℤ, pos, ◌+ℤ◌, nat_lt, if◌then◌else◌}
use Rattle.std.specs.Option.{unwrap_or}
use Rattle.std.specs.Int.{w64, cast_unsigned}
use Rattle.std.proofs.lemmas.Int.{ints}
use Rattle.std.proofs.lemmas.Bool.{ltb-true, eqb-true, and_parts}
use Rattle.dwc_base.specs.Reading.{◌>>=◌, is_64_bit}
use Rattle.dwc_native.specs.Compiled.{Place, in_register, at_frame_offset, Memory, no_memory, defined, imported}
use Rattle.dwc_native.specs.Built.{Setting, register_number, register_value, frame_address, value_bytes, plus_offset, plus_some, base_place_bytes}
use Rattle.dwc_base.specs.declared.constants.TheConstants.{DW_OP_deref}
use Rattle.dwc_base.proofs.SlebLaws.{is_64_bit-fits}
use Rattle.dwc_machines.specs.StackOperations.{Stop, wrapped, wrapped_signed}
use Rattle.dwc_machines.specs.NativeStates.{NativeState, register_read, number_read, number_behind}
use Rattle.dwc_machines.specs.PartMachine.{value_at_place, base_from}
use Rattle.dwc_expr.specs.RunsAlike.{has_number, is_at_place, has_memory}
use Rattle.dwc_expr.proofs.Meaning.RegisterOperations.{register_plus}
use Rattle.dwc_expr.proofs.Meaning.ImageOperations.{Pushes, register-pushes, frame-pushes, pushes-loaded, pushes-plus}
use Rattle.dwc_expr.proofs.Meaning.AddressNumbers.{AreWrapped, IsSize, by-size, offset-wraps, offset_by, read-offset, read-wrapped, register-plus_0}

-- ---- bytes that push a number, in some count of operations

pub record PushesSome (n : NativeState) (bytes : List ℕ) (r : Result ℕ Stop) : Type 0 where
  pub count : ℕ
  pub pushes : Pushes n bytes r count

some-as : (n : NativeState) (bytes : List ℕ) (r q : Result ℕ Stop) → r ≡ q → PushesSome n bytes r → PushesSome n bytes q
some-as n bytes r q same w = subst (λ x. PushesSome n bytes x) same w

some-bytes : (n : NativeState) (bs cs : List ℕ) (r : Result ℕ Stop) → bs ≡ cs → PushesSome n bs r → PushesSome n cs r
some-bytes n bs cs r same w = subst (λ x. PushesSome n x r) same w

some-loaded : (n : NativeState) (bytes : List ℕ) (r : Result ℕ Stop) → PushesSome n bytes r → PushesSome n (bytes ++ DW_OP_deref ∷ []) (r >>= number_read n n.pointer_bytes)
some-loaded n bytes r w = record { count = w.count + 1; pushes = pushes-loaded n bytes r w.count w.pushes }

some-plus : (n : NativeState) (bytes : List ℕ) (r : Result ℕ Stop) (o : ℕ) → o < 2 ^ 63 → PushesSome n bytes r → PushesSome n (bytes ++ plus_offset o) (r >>= offset_by n o)
some-plus n bytes r o small w = record { count = w.count + 2; pushes = pushes-plus n bytes r w.count o small w.pushes }

-- with an offset that is left out where it is 0
some-plus_some : (n : NativeState) → IsSize n.pointer_bytes → (bytes : List ℕ) (r : Result ℕ Stop) (o : ℕ) → o < 2 ^ 63 → AreWrapped n r → PushesSome n bytes r → PushesSome n (bytes ++ plus_some o) (r >>= offset_by n o)
some-plus_some n k bytes r o small whole w = go (eqb o 0) refl
  where
    nothing : (o : ℕ) → o ≡ 0 → (r : Result ℕ Stop) → (r >>= λ a. Ok (wrapped n.pointer_bytes a)) ≡ (r >>= offset_by n o)
    nothing o none (Err stop) = refl
    nothing o none (Ok a) =
        let e : a ≡ a + 0 = omega arith in
        let z : wrapped n.pointer_bytes 0 ≡ 0 = by-size (λ k. wrapped k 0 ≡ 0) n.pointer_bytes k refl refl in
        ap (λ b. Ok (wrapped n.pointer_bytes b)) (e ∙ ap (λ b. a + b) (sym z ∙ ap (wrapped n.pointer_bytes) (sym none)))

    go : (b : Bool) → eqb o 0 ≡ b → PushesSome n (bytes ++ (if b then [] else plus_offset o)) (r >>= offset_by n o)
    go true none = some-bytes n bytes (bytes ++ []) (r >>= offset_by n o) (sym (append-nil bytes)) (some-as n bytes r (r >>= offset_by n o) (sym whole ∙ nothing o (eqb-true o 0 none) r) w)
    go false some = some-plus n bytes r o small w

-- ---- the value of a label

module _ (n : NativeState) (k : IsSize n.pointer_bytes) (s : Setting) where
  register-some : (r : ℕ) (z : ℤ) → has_number (s.register r) ≡ true → is_64_bit z ≡ true → PushesSome n (register_value (register_number s r) z) (register_plus n (register_number s r) z)
  register-some r z has fits = record { count = 1; pushes = register-pushes n (register_number s r) z (low (s.register r) has) fits }
    where
      low : (o : Option ℕ) → has_number o ≡ true → unwrap_or o 0 < 2 ^ 16
      low None has = absurd (true≢false (sym has))
      low (Some q) has = ltb-true q (2 ^ 16) has

  frame-some : (z : ℤ) → is_64_bit z ≡ true → PushesSome n (frame_address z ++ DW_OP_deref ∷ []) (number_behind n z n.frame)
  frame-some z fits = some-as n (frame_address z ++ DW_OP_deref ∷ []) (number_read n n.pointer_bytes (wrapped n.pointer_bytes (n.frame + cast_unsigned w64 z))) (number_behind n z n.frame) (ap (number_read n n.pointer_bytes) (offset-wraps n.pointer_bytes k n.frame z fits))
      (some-loaded n (frame_address z) (Ok (wrapped n.pointer_bytes (n.frame + cast_unsigned w64 z))) (record { count = 1; pushes = frame-pushes n z fits }))

  pub value-some : (p : Option Place) → is_at_place s.register p ≡ true → PushesSome n (value_bytes s p) (value_at_place n s p)
  value-some None has = absurd (true≢false (sym has))
  value-some (Some (in_register r)) has = some-as n (register_value (register_number s r) (pos 0)) (register_plus n (register_number s r) (pos 0)) (register_read n (register_number s r)) (register-plus_0 n k (register_number s r)) (register-some r (pos 0) has refl)
  value-some (Some (at_frame_offset offset)) has = frame-some offset has

  -- ---- the base of linear memory

  fits-offset : (o : ℕ) → nat_lt o (2 ^ 32) ≡ true → is_64_bit (pos o) ≡ true
  fits-offset o small = let low : o < 2 ^ 32 = ltb-true o (2 ^ 32) small in is_64_bit-fits (pos o) (omega (arith, ints))

  low-offset : (o : ℕ) → nat_lt o (2 ^ 32) ≡ true → o < 2 ^ 63
  low-offset o small = let low : o < 2 ^ 32 = ltb-true o (2 ^ 32) small in omega arith

  register-loaded : (r o : ℕ) → nat_lt o (2 ^ 32) ≡ true → (register_plus n (register_number s r) (pos o) >>= number_read n n.pointer_bytes) ≡ (register_read n (register_number s r) >>= number_behind n (pos o))
  register-loaded r o small = go (register_read n (register_number s r))
    where
      go : (q : Result ℕ Stop) → ((q >>= λ value. Ok (wrapped n.pointer_bytes (value + cast_unsigned w64 (pos o)))) >>= number_read n n.pointer_bytes) ≡ (q >>= number_behind n (pos o))
      go (Ok value) = ap (number_read n n.pointer_bytes) (offset-wraps n.pointer_bytes k value (pos o) (fits-offset o small))
      go (Err stop) = refl

  loaded-offset : (q : Result ℕ Stop) (o : ℕ) → ((q >>= offset_by n o) >>= number_read n n.pointer_bytes) ≡ (q >>= number_behind n (pos o))
  loaded-offset (Ok a) o = read-offset n k o a
  loaded-offset (Err stop) o = refl

  behind-wrapped : (q : Result ℕ Stop) (o : ℕ) → AreWrapped n (q >>= number_behind n (pos o))
  behind-wrapped (Ok a) o = read-wrapped n k n.pointer_bytes (wrapped_signed n.pointer_bytes (pos a +ℤ pos o))
  behind-wrapped (Err stop) o = refl

  bind-bind : {A B C : Type 0} (q : Result A Stop) (f : A → Result B Stop) (g : B → Result C Stop) → ((q >>= f) >>= g) ≡ (q >>= λ x. f x >>= g)
  bind-bind (Ok x) f g = refl
  bind-bind (Err stop) f g = refl

  -- the base's place, and the read of it
  pub base-some : (m : Memory) (p : Option Place) → has_memory m ≡ true → is_at_place s.register p ≡ true → PushesSome n (base_place_bytes s m p ++ DW_OP_deref ∷ []) (value_at_place n s p >>= base_from n m)
  base-some no_memory p has placed = absurd (true≢false (sym has))
  base-some (defined o) None has placed = absurd (true≢false (sym placed))
  base-some (imported a b) None has placed = absurd (true≢false (sym placed))
  base-some (defined o) (Some (in_register r)) has placed =
      some-as n (register_value (register_number s r) (pos o) ++ DW_OP_deref ∷ []) (register_plus n (register_number s r) (pos o) >>= number_read n n.pointer_bytes) (register_read n (register_number s r) >>= number_behind n (pos o)) (register-loaded r o has)
      (some-loaded n (register_value (register_number s r) (pos o)) (register_plus n (register_number s r) (pos o)) (register-some r (pos o) placed (fits-offset o has)))
  base-some (defined o) (Some (at_frame_offset z)) has placed =
      let bytes : (frame_address z ++ DW_OP_deref ∷ []) ++ plus_offset o ≡ frame_address z ++ DW_OP_deref ∷ plus_offset o = append_assoc (frame_address z) (DW_OP_deref ∷ []) (plus_offset o) in
      some-as n ((frame_address z ++ DW_OP_deref ∷ plus_offset o) ++ DW_OP_deref ∷ []) ((number_behind n z n.frame >>= offset_by n o) >>= number_read n n.pointer_bytes) (number_behind n z n.frame >>= number_behind n (pos o)) (loaded-offset (number_behind n z n.frame) o)
      (some-loaded n (frame_address z ++ DW_OP_deref ∷ plus_offset o) (number_behind n z n.frame >>= offset_by n o)
      (some-bytes n ((frame_address z ++ DW_OP_deref ∷ []) ++ plus_offset o) (frame_address z ++ DW_OP_deref ∷ plus_offset o) (number_behind n z n.frame >>= offset_by n o) bytes
      (some-plus n (frame_address z ++ DW_OP_deref ∷ []) (number_behind n z n.frame) o (low-offset o has) (frame-some z placed))))
  base-some (imported a b) (Some (in_register r)) has placed =
      let small = and_parts (nat_lt a (2 ^ 32)) (nat_lt b (2 ^ 32)) has in
      let inner : Result ℕ Stop = register_read n (register_number s r) >>= number_behind n (pos a) in
      let front : List ℕ = register_value (register_number s r) (pos a) in
      let first : PushesSome n (front ++ DW_OP_deref ∷ []) inner =
      some-as n (front ++ DW_OP_deref ∷ []) (register_plus n (register_number s r) (pos a) >>= number_read n n.pointer_bytes) inner (register-loaded r a small.0)
      (some-loaded n front (register_plus n (register_number s r) (pos a)) (register-some r (pos a) placed (fits-offset a small.0))) in
      let second : PushesSome n (front ++ DW_OP_deref ∷ plus_some b) (inner >>= offset_by n b) =
      some-bytes n ((front ++ DW_OP_deref ∷ []) ++ plus_some b) (front ++ DW_OP_deref ∷ plus_some b) (inner >>= offset_by n b) (append_assoc front (DW_OP_deref ∷ []) (plus_some b))
      (some-plus_some n k (front ++ DW_OP_deref ∷ []) inner b (low-offset b small.1) (behind-wrapped (register_read n (register_number s r)) a) first) in
      some-as n ((front ++ DW_OP_deref ∷ plus_some b) ++ DW_OP_deref ∷ []) ((inner >>= offset_by n b) >>= number_read n n.pointer_bytes) (register_read n (register_number s r) >>= base_from n (imported a b))
      (loaded-offset inner b ∙ bind-bind (register_read n (register_number s r)) (number_behind n (pos a)) (number_behind n (pos b)))
      (some-loaded n (front ++ DW_OP_deref ∷ plus_some b) (inner >>= offset_by n b) second)
  base-some (imported a b) (Some (at_frame_offset z)) has placed =
      let small = and_parts (nat_lt a (2 ^ 32)) (nat_lt b (2 ^ 32)) has in
      let context : Result ℕ Stop = number_behind n z n.frame in
      let inner : Result ℕ Stop = context >>= number_behind n (pos a) in
      let front : List ℕ = frame_address z in
      let first : PushesSome n ((front ++ DW_OP_deref ∷ []) ++ plus_some a) (context >>= offset_by n a) =
      some-plus_some n k (front ++ DW_OP_deref ∷ []) context a (low-offset a small.0) (read-wrapped n k n.pointer_bytes (wrapped_signed n.pointer_bytes (pos n.frame +ℤ z))) (frame-some z placed) in
      let second : PushesSome n (((front ++ DW_OP_deref ∷ []) ++ plus_some a) ++ DW_OP_deref ∷ []) inner =
      some-as n (((front ++ DW_OP_deref ∷ []) ++ plus_some a) ++ DW_OP_deref ∷ []) ((context >>= offset_by n a) >>= number_read n n.pointer_bytes) inner (loaded-offset context a)
      (some-loaded n ((front ++ DW_OP_deref ∷ []) ++ plus_some a) (context >>= offset_by n a) first) in
      let whole : List ℕ = (front ++ DW_OP_deref ∷ plus_some a) ++ DW_OP_deref ∷ plus_some b in
      let bytes : (((front ++ DW_OP_deref ∷ []) ++ plus_some a) ++ DW_OP_deref ∷ []) ++ plus_some b ≡ whole =
      append_assoc ((front ++ DW_OP_deref ∷ []) ++ plus_some a) (DW_OP_deref ∷ []) (plus_some b)
      ∙ ap (λ bs. bs ++ DW_OP_deref ∷ plus_some b) (append_assoc front (DW_OP_deref ∷ []) (plus_some a)) in
      let third : PushesSome n whole (inner >>= offset_by n b) =
      some-bytes n ((((front ++ DW_OP_deref ∷ []) ++ plus_some a) ++ DW_OP_deref ∷ []) ++ plus_some b) whole (inner >>= offset_by n b) bytes
      (some-plus_some n k (((front ++ DW_OP_deref ∷ []) ++ plus_some a) ++ DW_OP_deref ∷ []) inner b (low-offset b small.1) (behind-wrapped context a) second) in
      some-as n (whole ++ DW_OP_deref ∷ []) ((inner >>= offset_by n b) >>= number_read n n.pointer_bytes) (context >>= base_from n (imported a b))
      (loaded-offset inner b ∙ bind-bind context (number_behind n (pos a)) (number_behind n (pos b)))
      (some-loaded n whole (inner >>= offset_by n b) third)
