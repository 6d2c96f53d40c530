-- A file is its preamble and the walk over its sections.
use Rattle.std.proofs.Common.{◌≡◌, ℕ, ◌≤◌, List, length, length-drop, take, drop, refl, sym, ap, ◌∙◌, arith, Option, Some, None, Result, Ok, Err, Bool, true, false, cond}
use Rattle.std.specs.Prelude.{nat_eq}
use Rattle.std.specs.List.{starts_with}
use Rattle.dwc_base.specs.declared.records.Endian.TheVariants.{Little}
use Rattle.dwc_base.specs.Reading.{Unread, Read, ◌>>=◌, passed, bytes_at}
use Rattle.dwc_base.proofs.ReadSteps.{bytes_at-whole}
use Rattle.dwc_base.specs.Listing.{Listing}
use Rattle.dwc_base.specs.Wasm.{WasmSection, preamble, wasm_sections, sections_of_file, wasm_module, module_from_sections}
use Rattle.dwc_wasm.specs.FileParts.{sections_start}

-- all the sections, or the place that breaks the grammar
abbrev all_of : Option ℕ → List WasmSection → Result (List WasmSection) ℕ
all_of None items = Ok items
all_of (Some place) items = Err place

-- the sections of a file are those of the walk from its start
sections_of_file-is : (bytes : List ℕ) → sections_of_file bytes ≡ (sections_start bytes >>= λ u. all_of (wasm_sections u).fault (wasm_sections u).items)
unfolding sections_of_file
sections_of_file-is bytes = go (starts_with nat_eq bytes preamble)
  where
    found : Listing ℕ WasmSection
    found = wasm_sections (record { order = Little; place = 8; left = drop 8 bytes })

    inner : (l : Listing ℕ WasmSection) → (elim l.fault [ None ↦ Ok l.items | Some place ↦ Err place ]) ≡ all_of l.fault l.items
    inner l = fault l.fault
      where
        fault : (o : Option ℕ) → (elim o [ None ↦ Ok l.items | Some place ↦ Err place ]) ≡ all_of o l.items
        fault None = refl
        fault (Some place) = refl

    go : (b : Bool) → (elim b [ false ↦ Err 0 | true ↦ elim (wasm_sections (record { order = Little; place = 8; left = drop 8 bytes })).fault [ None ↦ Ok (wasm_sections (record { order = Little; place = 8; left = drop 8 bytes })).items | Some place ↦ Err place ] ]) ≡ (cond {A = Result Unread ℕ} b (Ok (record { order = Little; place = 8; left = drop 8 bytes })) (Err 0) >>= λ u. all_of (wasm_sections u).fault (wasm_sections u).items)
    go true = inner (wasm_sections (record { order = Little; place = 8; left = drop 8 bytes }))
    go false = refl

-- a module is made from the sections of its file
wasm_module-is : (bytes : List ℕ) (r : Result (List WasmSection) ℕ) → sections_of_file bytes ≡ r → wasm_module bytes ≡ (r >>= λ sections. Ok (module_from_sections sections))
unfolding wasm_module
wasm_module-is bytes r h = rw h refl

-- what is unread behind what was read
abbrev unread_behind : Unread → Read (List ℕ) → Unread
unread_behind u (Ok x) = x.1
unread_behind u (Err flaw) = u

module _ (bytes : List ℕ) where
  -- without a preamble
  pub wasm_module-no_start : (place : ℕ) → sections_start bytes ≡ Err place → wasm_module bytes ≡ Err place
  wasm_module-no_start place h = wasm_module-is bytes (Err place) (sections_of_file-is bytes ∙ ap (λ r. r >>= λ u. all_of (wasm_sections u).fault (wasm_sections u).items) h)

  -- with sections
  sections_of_file-at : (u : Unread) (all : List WasmSection) (fault : Option ℕ) → sections_start bytes ≡ Ok u → wasm_sections u ≡ record { items = all; fault = fault } → sections_of_file bytes ≡ all_of fault all
  sections_of_file-at u all fault h e = sections_of_file-is bytes ∙ ap (λ r. r >>= λ u. all_of (wasm_sections u).fault (wasm_sections u).items) h ∙ ap (λ l. all_of l.fault l.items) e

  pub wasm_module-broken : (u : Unread) (before : List WasmSection) (place : ℕ) → sections_start bytes ≡ Ok u → wasm_sections u ≡ record { items = before; fault = Some place } → wasm_module bytes ≡ Err place
  wasm_module-broken u before place h e = wasm_module-is bytes (Err place) (sections_of_file-at u before (Some place) h e)

  pub wasm_module-done : (u : Unread) (all : List WasmSection) → sections_start bytes ≡ Ok u → wasm_sections u ≡ record { items = all; fault = None } → wasm_module bytes ≡ Ok (module_from_sections all)
  wasm_module-done u all h e = wasm_module-is bytes (Ok all) (sections_of_file-at u all None h e)

  -- the sections are behind the start of the file
  pub sections_start-shorter : (u : Unread) → sections_start bytes ≡ Ok u → length u.left ≤ length bytes
  sections_start-shorter u h = go (starts_with nat_eq bytes preamble) h
    where
      go : (b : Bool) → cond {A = Result Unread ℕ} b (Ok (record { order = Little; place = 8; left = drop 8 bytes })) (Err 0) ≡ Ok u → length u.left ≤ length bytes
      go true e = let same : record { order = Little; place = 8; left = drop 8 bytes } ≡ u = cc in rw (ap (λ v. v.left) same) at (let shorter : length (drop 8 bytes) ≤ length bytes = omega (arith, length-drop 8 bytes) in shorter)
      go false e = absurd (cc)

  -- behind the eight bytes of the preamble
  pub sections_start-behind : (front : List ℕ) (v : Unread) → starts_with nat_eq bytes preamble ≡ true → 8 ≤ length bytes → bytes_at 8 (record { order = Little; place = 0; left = bytes }) ≡ Ok (front, v) → sections_start bytes ≡ Ok v
  sections_start-behind front v h long read =
      let start : Unread = record { order = Little; place = 0; left = bytes } in
      let whole : bytes_at 8 start ≡ Ok (take 8 bytes, passed 8 start) = bytes_at-whole 8 start long in
      let same : passed 8 start ≡ v = ap (unread_behind start) (sym whole ∙ read) in
      rw h (ap (λ u. Ok u) same)
