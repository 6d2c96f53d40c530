-- What is written is read again.
use Rattle.std.proofs.Common.{◌≡◌, ℕ, ◌+◌, ◌^◌, ◌%◌, ◌<◌, ◌≤◌, refl, arith, List, [], ◌∷◌, ◌++◌, length, length-append, Option, Some, None, Ok, Bool, true, false, ltb, cond}
use Rattle.std.proofs.Math.Seq.{take-append_seam, drop-append_seam}
use Rattle.std.proofs.lemmas.Bool.{le-ltb, lt-ltb}
use Rattle.dwc_base.specs.declared.records.Endian.{Endian}
use Rattle.dwc_base.specs.declared.records.Endian.TheVariants.{Little, Big}
use Rattle.dwc_base.specs.Reading.{bytes_at, number_at, number, uleb_at, uleb_value, uleb_with}
use Rattle.dwc_base.specs.Units.{header_to_4}
use Rattle.dwc_base.specs.Spelling.{Spells, unread_at}

-- some bytes spell themselves
pub Spells-bytes : (order : Endian) (bytes : List ℕ) → Spells order (bytes_at (length bytes)) bytes bytes
unfolding bytes_at
Spells-bytes order bytes = record {
  reads = λ place rest.
      let enough : length bytes ≤ length (bytes ++ rest) = omega (arith, length-append bytes rest) in
      rw (le-ltb, take-append_seam, drop-append_seam) refl;
}

-- and a number of fixed size
pub Spells-number : (order : Endian) (bytes : List ℕ) → Spells order (number_at (length bytes)) bytes (number order bytes)
unfolding number_at
Spells-number order bytes = record { reads = λ place rest. rw (Spells-bytes order bytes).reads refl }

-- a LEB128 number ends by itself
pub uleb_value-append : (bytes rest : List ℕ) (n count : ℕ) → uleb_value bytes ≡ Some (n, count) → uleb_value (bytes ++ rest) ≡ Some (n, count)
uleb_value-append [] rest n count h = absurd (cc)
uleb_value-append (b ∷ bs) rest n count h = go (ltb b 128) (uleb_value bs) (uleb_value (bs ++ rest)) (λ m k e. uleb_value-append bs rest m k e) h
  where
    go : (last : Bool) (r s : Option (ℕ × ℕ)) → ((m k : ℕ) → r ≡ Some (m, k) → s ≡ Some (m, k))
        → cond {A = Option (ℕ × ℕ)} last (Some (b, 1)) (uleb_with (b % 128) r) ≡ Some (n, count)
        → cond {A = Option (ℕ × ℕ)} last (Some (b, 1)) (uleb_with (b % 128) s) ≡ Some (n, count)
    go true r s same e = e
    go false None s same e = absurd (cc)
    go false (Some high) s same e = rw (same high.0 high.1 refl) e

pub Spells-uleb : (order : Endian) (bytes : List ℕ) (n : ℕ) → uleb_value bytes ≡ Some (n, length bytes) → n < 2 ^ 64 → Spells order uleb_at bytes n
unfolding uleb_at
Spells-uleb order bytes n h fits = record {
  reads = λ place rest.
      let whole : uleb_value (bytes ++ rest) ≡ Some (n, length bytes) = uleb_value-append bytes rest n (length bytes) h in
      rw (whole, lt-ltb, drop-append_seam) refl;
}

-- An example with several fields: those of a header of version 4, behind the version.
fields_of_4 : (order : Endian) (a b c d place offset end : ℕ) (rest : List ℕ)
    → header_to_4 offset end 4 (unread_at order place ((a ∷ b ∷ c ∷ d ∷ []) ++ ((8 ∷ []) ++ rest)))
    ≡ Ok (record { offset = offset; end = end; version = 4; address_size = 8; unit_type = 1; abbreviations = number order (a ∷ b ∷ c ∷ d ∷ []); dwo_id = None; content = unread_at order ((place + 4) + 1) rest })
unfolding header_to_4
fields_of_4 Little a b c d place offset end rest = rw ((Spells-number Little (a ∷ b ∷ c ∷ d ∷ [])).reads, (Spells-number Little (8 ∷ [])).reads) refl
fields_of_4 Big a b c d place offset end rest = rw ((Spells-number Big (a ∷ b ∷ c ∷ d ∷ [])).reads, (Spells-number Big (8 ∷ [])).reads) refl
