-- Things of a known number, and the fields of an entry, one by one.
use Rattle.std.proofs.Common.{◌≡◌, ℕ, zero, suc, ◌+◌, ◌*◌, ◌<◌, ◌≤◌, refl, ap, arith, add-one, drop-cons, List, [], ◌∷◌, map, drop, length, length-drop, get_or, Bool, Ok, Err}
use Rattle.std.proofs.lemmas.List.{drop_all}
use Rattle.dwc_base.specs.declared.records.Endian.{Endian}
use Rattle.dwc_base.specs.declared.faults.Flaw.{Flaw}
use Rattle.dwc_base.specs.declared.faults.Flaw.TheVariants.{EndsEarly}
use Rattle.dwc_base.specs.Reading.{Unread, Read, ◌>>=◌, seen_as, counted_at, text_at}
use Rattle.dwc_dwarf.specs.LineHeaders as spec
use Rattle.dwc_dwarf.specs.Texts.{TextSource, text_in, offset_of_text}
use Rattle.dwc_dwarf.specs.LineHeaders.{LineFile, LineSource, entry_field_at, entry_fields_at}
use Rattle.dwc_base.proofs.ReadSteps.{bytes_at-short, number_at-no_bytes}
use Rattle.dwc_tabs.specs.declared.file_entries.EntryFormat.{EntryFormat}
use Rattle.dwc_tabs.specs.Headers.{format_view}

as_seen : {A : Type 0} (x : A) (r : Read (List A)) → (r >>= λ others. Ok (x ∷ others.0, others.1)) ≡ seen_as (λ ys. x ∷ ys) r
as_seen x (Ok others) = refl
as_seen x (Err flaw) = refl

-- ---- things of a known number

module _ {A : Type 0} (item : Unread → Read A) where
  -- at a thing, at a flaw, and behind the last
  pub counted-more : (n : ℕ) (u v : Unread) (x : A) → item u ≡ Ok (x, v) → counted_at (suc n) item u ≡ seen_as (λ ys. x ∷ ys) (counted_at n item v)
  unfolding counted_at
  counted-more n u v x read = rw (read, counted_at) (as_seen x (counted_at n item v))

  pub counted-flaw : (n : ℕ) (u : Unread) (flaw : Flaw) → item u ≡ Err flaw → counted_at (suc n) item u ≡ Err flaw
  unfolding counted_at
  counted-flaw n u flaw read = rw (read, counted_at) refl

  pub counted-none : (u : Unread) → counted_at 0 item u ≡ Ok ([], u)
  unfolding counted_at
  counted-none u = refl

-- ---- the fields of an entry

-- the formats that are left at a place
abbrev pub formats_from : ℕ → List EntryFormat → List spec.EntryFormat
formats_from i formats = map format_view (drop i formats)

formats_from-next : (formats : List EntryFormat) (i : ℕ) (d : EntryFormat) → i < length formats → formats_from i formats ≡ format_view (get_or formats i d) ∷ formats_from (i + 1) formats
formats_from-next formats i d h = rw (add-one, drop-cons formats i d) refl

module _ (s : LineSource) (size : ℕ) (looked_up : Bool) (formats : List EntryFormat) (i : ℕ) (d : EntryFormat) (f : LineFile) (u : Unread) where
  -- at a field, and at a flaw
  pub fields-more : (g : LineFile) (v : Unread) → i < length formats → entry_field_at s size looked_up (format_view (get_or formats i d)) f u ≡ Ok (g, v)
      → entry_fields_at s size looked_up (formats_from i formats) f u ≡ entry_fields_at s size looked_up (formats_from (i + 1) formats) g v
  unfolding entry_fields_at
  fields-more g v inside read = rw (formats_from-next formats i d inside) (rw (read, entry_fields_at) refl)

  pub fields-flaw : (flaw : Flaw) → i < length formats → entry_field_at s size looked_up (format_view (get_or formats i d)) f u ≡ Err flaw → entry_fields_at s size looked_up (formats_from i formats) f u ≡ Err flaw
  unfolding entry_fields_at
  fields-flaw flaw inside read = rw (formats_from-next formats i d inside) (rw (read, entry_fields_at) refl)

drop-past : {A : Type 0} (xs : List A) (i : ℕ) → length xs ≤ i → drop i xs ≡ []
drop-past [] zero past = refl
drop-past [] (suc i) past = refl
drop-past (x ∷ xs) zero past = absurd (omega arith)
drop-past (x ∷ xs) (suc i) past = drop-past xs i (omega arith)

-- and behind the last
pub fields-end : (s : LineSource) (size : ℕ) (looked_up : Bool) (formats : List EntryFormat) (i : ℕ) (f : LineFile) (u : Unread) → length formats ≤ i → entry_fields_at s size looked_up (formats_from i formats) f u ≡ Ok (f, u)
unfolding entry_fields_at
fields-end s size looked_up formats i f u past = rw (drop-past formats i past) refl

-- ---- texts elsewhere

-- none stands behind its section's end
pub text_in-past : (order : Endian) (section : List ℕ) (offset : ℕ) → length section < offset → text_in order section offset ≡ Err EndsEarly
unfolding text_at
text_in-past order section offset short =
    let none : drop offset section ≡ [] = drop_all offset section (omega (arith, short)) in
    ap (λ left. text_at (record { order = order; place = offset; left = left }) >>= λ found. Ok found.0) none

pub offset_of_text-past : (s : TextSource) (index : ℕ) → length s.offsets < s.base + 4 * index → offset_of_text s index ≡ Err EndsEarly
offset_of_text-past s index short =
    let at = s.base + 4 * index in
    let u : Unread = record { order = s.order; place = at; left = drop at s.offsets } in
    let few : length (drop at s.offsets) < 4 = omega (arith, short, length-drop at s.offsets) in
    rw (number_at-no_bytes 4 u EndsEarly (bytes_at-short 4 u few)) refl
