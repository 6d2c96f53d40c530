-- The rows of an image, as they are made of the recorded sources of a function.
use Rattle.std.specs.Prelude.{ℕ, ◌-◌, ◌==◌, ◌≤◌, pos, nat_le, nat_lt, List, [], ◌∷◌, length, Bool, false, if◌then◌else◌, Option, Some, None, option_and_then, All}
use Rattle.std.specs.Option.{option_or}
use Rattle.dwc_base.specs.declared.records.Address.TheVariants.{Symbol}
use Rattle.dwc_base.specs.declared.records.LineRow.{LineRow}
use Rattle.dwc_dwarf.specs.LineRows.{Row, Segment}
use Rattle.dwc_native.specs.Functions.{Function, Recorded, recorded_sources}
pub use Rattle.dwc_addr.specs.Rising.{RisesFrom}
use Rattle.dwc_native.specs.Images.{function_of_segment, start_of_segment}

-- The last thing of a list, in order, whose number is at most o.
abbrev pub last_at : {X : Type 0} → (X → ℕ) → List X → ℕ → Option X
last_at n [] o = None
last_at n (x ∷ xs) o = option_or (last_at n xs o) (if nat_le (n x) o then Some x else None)

-- Rows of any kind, by their offsets: that which is in force at a recorded source, none below the start.
abbrev pub found_at : {R : Type 0} → (R → ℕ) → List R → ℕ → Recorded → Option R
found_at n rows start e = if nat_le start e.wasm then last_at n rows (e.wasm - start) else None

-- whether a row is the one found before
abbrev pub is_repeated : Option ℕ → ℕ → Bool
is_repeated None offset = false
is_repeated (Some b) offset = b == offset

-- where a row of an image stands: the first at 0
abbrev pub placed_at : Option ℕ → ℕ → ℕ
placed_at None native = 0
placed_at (Some b) native = native

-- what a recorded source adds to an image, of which rest are the rows behind
abbrev pub with_found : {R : Type 0} → (R → ℕ) → (ℕ → R → R) → (Option ℕ → List R) → Option ℕ → ℕ → Option R → List R
with_found n move rest found native None = rest found
with_found n move rest found native (Some r) = if is_repeated found (n r) then rest found else move (placed_at found native) r ∷ rest (Some (n r))

-- The rows of an image, from a recorded source on: each source that finds another row than the one before adds it.
-- `found` is the offset of the row found last.
abbrev pub rows_from : {R : Type 0} → (R → ℕ) → (ℕ → R → R) → List R → ℕ → Option ℕ → List Recorded → List R
rows_from n move rows start found [] = []
rows_from n move rows start found (e ∷ es) = with_found n move (λ b. rows_from n move rows start b es) found e.native (found_at n rows start e)

-- rows as a table gives them, their files by number
abbrev pub move_row : ℕ → LineRow → LineRow
move_row native r = record { offset = native; file = r.file; line = r.line; column = r.column; is_stmt = r.is_stmt; basic_block = r.basic_block; prologue_end = r.prologue_end; epilogue_begin = r.epilogue_begin; isa = r.isa; discriminator = r.discriminator }

abbrev pub image_rows : List LineRow → ℕ → Option ℕ → List Recorded → List LineRow
image_rows rows start found es = rows_from (λ r. r.offset) move_row rows start found es

-- rows with their files by name
abbrev pub moved_to : ℕ → Row → Row
moved_to native r = record { offset = native; source = r.source }

abbrev pub image_from : List Row → ℕ → Option ℕ → List Recorded → List Row
image_from rows start found es = rows_from (λ r. r.offset) moved_to rows start found es

-- The image of a segment for a function.
abbrev pub image_of : Segment → ℕ → Function → Segment
image_of q start f = record { start = Symbol f.number (pos 0); rows = image_from q.rows start None (recorded_sources f); end = Some f.length }

-- the image of a segment, where it is in a function and the image has rows
abbrev pub image_with_rows : Segment → Option Segment
image_with_rows image = if nat_lt 0 (length image.rows) then Some image else None

abbrev pub image_if : List Function → Segment → Option Segment
image_if fs q = option_and_then (λ f. image_with_rows (image_of q (start_of_segment q) f)) (function_of_segment fs q)

-- What the rule of an address map gives: the natives of the recorded sources rise, and lie in the function.
pub record IsOrdered (f : Function) : Type 0 where
  pub rises : RisesFrom (λ e. e.native) 0 (recorded_sources f)
  pub within : All (λ e. e.native ≤ f.length) (recorded_sources f)

-- the rows of a segment do not fall in offset
pub record RowsRise (q : Segment) : Type 0 where
  pub rise : RisesFrom (λ r. r.offset) 0 q.rows
