-- Built bytes, jumps and refusals hang on the places of the labels that the parts need alone.
use Rattle.std.proofs.Common.{◌≡◌, ℕ, ◌+◌, ◌==◌, ℤ, pos, ◌-ℤ◌, List, [], ◌∷◌, ◌++◌, Bool, true, false, ◌&&◌, ◌||◌, eqb, eq-eqb, Option, Some, None, filter_map, length, refl, ap, ◌∙◌}
use Rattle.std.specs.Prelude.{if◌then◌else◌, ⊤}
use Rattle.std.specs.List.{cons_option}
use Rattle.dwc_native.specs.Compiled.{Place, Memory}
use Rattle.dwc_native.specs.Parts.{Part, code, local, dereference, jump, landing_pad}
use Rattle.dwc_native.specs.Placed.{label_needed}
use Rattle.dwc_native.specs.Built.{Setting, location_bytes, value_bytes, base_place_bytes, base_added, part_bytes, part_length, pad_offset, distance_of, bytes_from, built_bytes, is_16_bit, jumps_fit_from, jumps_fit, jump_length}
use Rattle.dwc_native.specs.BuiltExpressions.{register_refusal, register_refusal_at}
use Rattle.dwc_dwarf.specs.Values.{is_one_of}

module _ (registers : ℕ → Option ℕ) (memory : Memory) where
  -- a setting with some places
  abbrev pub with_places : (ℕ → Option Place) → Setting
  with_places p = record { place = p; register = registers; memory = memory }

  module _ (p q : ℕ → Option Place) where
    -- two settings have the same place for a label, if there is one
    abbrev pub AgreesAt : Option ℕ → Type 0
    AgreesAt None = ⊤
    AgreesAt (Some label) = p label ≡ q label

    -- and for each that parts need
    abbrev pub Agree : List Part → Type 0
    Agree [] = ⊤
    Agree (part ∷ parts) = AgreesAt (label_needed part) × Agree parts

    part-same : (distance : ℤ) (part : Part) → AgreesAt (label_needed part) → part_bytes (with_places p) distance part ≡ part_bytes (with_places q) distance part
    part-same distance (code bytes) same = refl
    part-same distance (local label true) same = ap (location_bytes (with_places p)) same
    part-same distance (local label false) same = ap (value_bytes (with_places p)) same
    part-same distance dereference same = ap (λ o. base_place_bytes (with_places p) memory o ++ base_added) same
    part-same distance (jump conditionally place) same = refl
    part-same distance (landing_pad place) same = refl

    length-same : (part : Part) → AgreesAt (label_needed part) → part_length (with_places p) part ≡ part_length (with_places q) part
    length-same part same = ap length (part-same (pos 0) part same)

    pad-same : (place : ℕ) (parts : List Part) → Agree parts → pad_offset (with_places p) place parts ≡ pad_offset (with_places q) place parts
    pad-same place [] same = refl
    pad-same place (landing_pad other ∷ parts) same = ap (λ n. if other == place then 0 else n) (pad-same place parts same.1)
    pad-same place (code bytes ∷ parts) same = ap (λ n. length bytes + n) (pad-same place parts same.1)
    pad-same place (local label trailing ∷ parts) same = both (local label trailing) parts same.0 (pad-same place parts same.1)
      where
        both : (part : Part) (parts : List Part) → AgreesAt (label_needed part) → pad_offset (with_places p) place parts ≡ pad_offset (with_places q) place parts
            → part_length (with_places p) part + pad_offset (with_places p) place parts ≡ part_length (with_places q) part + pad_offset (with_places q) place parts
        both part parts here behind = ap (λ n. n + pad_offset (with_places p) place parts) (length-same part here) ∙ ap (λ n. part_length (with_places q) part + n) behind
    pad-same place (dereference ∷ parts) same = ap (λ n. n + pad_offset (with_places p) place parts) (length-same dereference same.0) ∙ ap (λ n. part_length (with_places q) dereference + n) (pad-same place parts same.1)
    pad-same place (jump conditionally target ∷ parts) same = ap (λ n. jump_length + n) (pad-same place parts same.1)

    distance-same : (all : List Part) (offset : ℕ) (part : Part) → Agree all → distance_of (with_places p) all offset part ≡ distance_of (with_places q) all offset part
    distance-same all offset (code bytes) same = refl
    distance-same all offset (local label trailing) same = refl
    distance-same all offset dereference same = refl
    distance-same all offset (jump conditionally place) same = ap (λ n. pos n -ℤ pos (offset + jump_length)) (pad-same place all same)
    distance-same all offset (landing_pad place) same = refl

    bytes-same : (all : List Part) (offset : ℕ) (parts : List Part) → Agree all → Agree parts → bytes_from (with_places p) all offset parts ≡ bytes_from (with_places q) all offset parts
    bytes-same all offset [] whole same = refl
    bytes-same all offset (part ∷ parts) whole same =
        ap (λ d. part_bytes (with_places p) d part ++ bytes_from (with_places p) all (offset + part_length (with_places p) part) parts) (distance-same all offset part whole)
        ∙ ap (λ bytes. bytes ++ bytes_from (with_places p) all (offset + part_length (with_places p) part) parts) (part-same (distance_of (with_places q) all offset part) part same.0)
        ∙ ap (λ n. part_bytes (with_places q) (distance_of (with_places q) all offset part) part ++ bytes_from (with_places p) all (offset + n) parts) (length-same part same.0)
        ∙ ap (λ bytes. part_bytes (with_places q) (distance_of (with_places q) all offset part) part ++ bytes) (bytes-same all (offset + part_length (with_places q) part) parts whole same.1)

    fits-same : (all : List Part) (offset : ℕ) (parts : List Part) → Agree all → Agree parts → jumps_fit_from (with_places p) all offset parts ≡ jumps_fit_from (with_places q) all offset parts
    fits-same all offset [] whole same = refl
    fits-same all offset (part ∷ parts) whole same =
        ap (λ d. is_16_bit d && jumps_fit_from (with_places p) all (offset + part_length (with_places p) part) parts) (distance-same all offset part whole)
        ∙ ap (λ n. is_16_bit (distance_of (with_places q) all offset part) && jumps_fit_from (with_places p) all (offset + n) parts) (length-same part same.0)
        ∙ ap (λ b. is_16_bit (distance_of (with_places q) all offset part) && b) (fits-same all (offset + part_length (with_places q) part) parts whole same.1)

    pub built-same : (parts : List Part) → Agree parts → built_bytes (with_places p) parts ≡ built_bytes (with_places q) parts
    unfolding built_bytes
    built-same parts same = bytes-same parts 0 parts same same

    pub jumps-same : (parts : List Part) → Agree parts → jumps_fit (with_places p) parts ≡ jumps_fit (with_places q) parts
    jumps-same parts same = fits-same parts 0 parts same same

    -- refusals of registers
    pub registers-same : (parts : List Part) → Agree parts → filter_map (register_refusal (with_places p)) (filter_map label_needed parts) ≡ filter_map (register_refusal (with_places q)) (filter_map label_needed parts)
    registers-same [] same = refl
    registers-same (part ∷ parts) same = go (label_needed part) same.0 (registers-same parts same.1)
      where
        go : (o : Option ℕ) → AgreesAt o → filter_map (register_refusal (with_places p)) (filter_map label_needed parts) ≡ filter_map (register_refusal (with_places q)) (filter_map label_needed parts)
            → filter_map (register_refusal (with_places p)) (cons_option o (filter_map label_needed parts)) ≡ filter_map (register_refusal (with_places q)) (cons_option o (filter_map label_needed parts))
        go None here behind = behind
        go (Some label) here behind =
            ap (λ o. cons_option (register_refusal_at registers o) (filter_map (register_refusal (with_places p)) (filter_map label_needed parts))) here
            ∙ ap (λ rs. cons_option (register_refusal_at registers (q label)) rs) behind

    -- they agree where they do at each label that is among those that the parts need
    pub agree-among : (parts : List Part) → ((label : ℕ) → is_one_of (filter_map label_needed parts) label ≡ true → p label ≡ q label) → Agree parts
    agree-among [] same = tt
    agree-among (part ∷ parts) same = go (label_needed part) same (λ h. agree-among parts h)
      where
        itself : (n : ℕ) → eqb n n ≡ true
        itself n = eq-eqb n n refl

        behind : (a b : Bool) → b ≡ true → (a || b) ≡ true
        behind true b is = refl
        behind false b is = is

        go : (o : Option ℕ) → ((label : ℕ) → is_one_of (cons_option o (filter_map label_needed parts)) label ≡ true → p label ≡ q label)
            → (((label : ℕ) → is_one_of (filter_map label_needed parts) label ≡ true → p label ≡ q label) → Agree parts) → AgreesAt o × Agree parts
        go None h more = (tt, more h)
        go (Some own) h more = (
          h own (ap (λ b. b || is_one_of (filter_map label_needed parts) own) (itself own)),
          more (λ label among. h label (behind (eqb own label) (is_one_of (filter_map label_needed parts) label) among)),
        )
