-- The walk over the subsections of names, step by step, and what they say.
use Rattle.std.proofs.Common.{◌≡◌, ◌<◌, List, [], ◌∷◌, ◌++◌, length, refl, sym, ap, ◌∙◌, append_assoc, subst, Option, Some, None, Ok, Err, Bool, true, false, arith}
use Rattle.std.proofs.lemmas.List.{append-nil}
use Rattle.std.specs.Prelude.{ℕ, ◌==◌, option_map}
use Rattle.std.specs.List.{cons_option, filter_map, flat_map}
use Rattle.std.specs.Option.{option_or, unwrap_or}
use Rattle.dwc_base.specs.declared.faults.Flaw.{Flaw}
use Rattle.dwc_base.specs.declared.records.Endian.TheVariants.{Little}
use Rattle.dwc_base.specs.Reading.{Unread, Read}
use Rattle.dwc_base.specs.Wasm.{last_of}
use Rattle.dwc_base.specs.Listing.{Next, at_end, broken, passes, item, walk}
use Rattle.dwc_base.specs.WasmNames.{NameSubsection, name_subsection_at, name_subsections, next_name_subsection, said_by, said_in}
use Rattle.dwc_wasm.specs.NamesRead.{MeetsNext, things_of}
use Rattle.dwc_base.proofs.Items.{Leaves, LeavesFewer}
use Rattle.dwc_base.proofs.Takes.{Leaves-bind, Leaves-same, number_at-leaves, part_at-leaves}
use Rattle.dwc_base.proofs.TakesMore.{Leaves-more, uleb_at-leaves}
use Rattle.dwc_base.proofs.Walks.{GoesOn, walk-end, walk-fault, walk-item}

-- the subsections from a place on
abbrev pub subsections_from : Unread → List NameSubsection
subsections_from u = (walk (λ u. length u.left) next_name_subsection u).items

-- what those of an id say
abbrev pub said_from : {A : Type 0} → ℕ → (Unread → Read A) → Unread → List A
said_from id form u = filter_map (said_by id form) (subsections_from u)

-- a subsection takes a byte at least
name_subsection_at-leaves : (u : Unread) → Leaves (name_subsection_at u) (length u.left)
unfolding name_subsection_at
name_subsection_at-leaves u =
    Leaves-bind _ _ _ (number_at-leaves 1 u (omega arith)) (λ id.
    Leaves-bind _ _ _ (Leaves-more _ _ (uleb_at-leaves id.1)) (λ size.
    Leaves-bind _ _ _ (part_at-leaves size.0 size.1) (λ content. Leaves-same _ _)))

next_name_subsection-shrinks : (u v : Unread) → GoesOn (next_name_subsection u) v → length v.left < length u.left
unfolding next_name_subsection
next_name_subsection-shrinks u v goes = go (length u.left == 0) (name_subsection_at u) (name_subsection_at-leaves u).fewer goes
  where
    go : (b : Bool) (r : Read NameSubsection) → LeavesFewer r (length u.left)
        → GoesOn {F = Flaw} (elim b [ true ↦ at_end | false ↦ elim r [ Err flaw ↦ broken flaw | Ok s ↦ item s.0 s.1 ] ]) v → length v.left < length u.left
    go true r fewer goes = absurd goes
    go false (Err flaw) fewer goes = absurd goes
    go false (Ok s) fewer goes = subst (λ (t : Unread). length t.left < length u.left) goes fewer

pub next_name_subsection-fewer : (u v : Unread) (s : NameSubsection) → next_name_subsection u ≡ item s v → length v.left < length u.left
next_name_subsection-fewer u v s h = next_name_subsection-shrinks u v (let goes : GoesOn {F = Flaw} (item s v) v = refl in rw h goes)

-- at a subsection, and where no more can be read
pub subsections-item : (u v : Unread) (s : NameSubsection) → next_name_subsection u ≡ item s v → subsections_from u ≡ s ∷ subsections_from v
subsections-item u v s h = ap (λ l. l.items) (walk-item (λ u. length u.left) next_name_subsection next_name_subsection-shrinks u v s h)

pub subsections-none : (u v : Unread) → MeetsNext (next_name_subsection u) v None → subsections_from u ≡ []
subsections-none u v h = go (next_name_subsection u) refl h
  where
    go : (n : Next Unread Flaw NameSubsection) → next_name_subsection u ≡ n → MeetsNext n v None → subsections_from u ≡ []
    go at_end e h = ap (λ l. l.items) (walk-end (λ u. length u.left) next_name_subsection next_name_subsection-shrinks u e)
    go (broken flaw) e h = ap (λ l. l.items) (walk-fault (λ u. length u.left) next_name_subsection next_name_subsection-shrinks u flaw e)
    go (passes t) e h = absurd h
    go (item s t) e h = absurd h

-- what is said from the start on is all
pub said-start : {A : Type 0} (id : ℕ) (form : Unread → Read A) (bytes : List ℕ) → said_from id form (record { order = Little; place = 0; left = bytes }) ≡ said_in id form bytes
unfolding said_in name_subsections
said-start id form bytes = refl

-- ---- lists of what is said

things-first : {A B : Type 0} (things : A → List B) (o : Option A) (rest : List A) → flat_map things (cons_option o rest) ≡ things_of things o ++ flat_map things rest
things-first things None rest = refl
things-first things (Some x) rest = refl

module _ {A B : Type 0} (id : ℕ) (form : Unread → Read A) (things : A → List B) (u v : Unread) (done total : List B) where
  -- what a subsection more says
  pub told-more : (s : NameSubsection) → next_name_subsection u ≡ item s v → done ++ flat_map things (said_from id form u) ≡ total → (done ++ things_of things (said_by id form s)) ++ flat_map things (said_from id form v) ≡ total
  told-more s met so_far =
      append_assoc done (things_of things (said_by id form s)) (flat_map things (said_from id form v))
      ∙ ap (λ ys. done ++ ys) (sym (things-first things (said_by id form s) (said_from id form v)) ∙ ap (λ ss. flat_map things (filter_map (said_by id form) ss)) (sym (subsections-item u v s met)))
      ∙ so_far

  -- no more is said
  pub told-done : MeetsNext (next_name_subsection u) v None → done ++ flat_map things (said_from id form u) ≡ total → done ≡ total
  told-done met so_far = sym (append-nil done) ∙ ap (λ ss. done ++ flat_map things (filter_map (said_by id form) ss)) (sym (subsections-none u v met)) ∙ so_far

-- ---- the last that is said

last-first : {A : Type 0} (o : Option A) (rest : List A) (before : Option A) → option_or (last_of rest) (option_or o before) ≡ option_or (last_of (cons_option o rest)) before
last-first None rest before = refl
last-first {A} (Some x) rest before = go (last_of rest)
  where
    go : (o : Option A) → option_or o (Some x) ≡ Some (unwrap_or o x)
    go None = refl
    go (Some y) = refl

module _ {A : Type 0} (id : ℕ) (form : Unread → Read A) (u v : Unread) (found total : Option A) where
  -- what a subsection more says
  pub last-more : (s : NameSubsection) → next_name_subsection u ≡ item s v → option_or (last_of (said_from id form u)) found ≡ total → option_or (last_of (said_from id form v)) (option_or (said_by id form s) found) ≡ total
  last-more s met so_far =
      last-first (said_by id form s) (said_from id form v) found
      ∙ ap (λ ss. option_or (last_of (filter_map (said_by id form) ss)) found) (sym (subsections-item u v s met))
      ∙ so_far

  -- no more is said
  pub last-done : MeetsNext (next_name_subsection u) v None → option_or (last_of (said_from id form u)) found ≡ total → found ≡ total
  last-done met so_far = ap (λ ss. option_or (last_of (filter_map (said_by id form) ss)) found) (sym (subsections-none u v met)) ∙ so_far

-- the first of two, seen otherwise
pub seen-or : {A B : Type 0} (view : A → B) (first second : Option A) → option_map view (option_or first second) ≡ option_or (option_map view first) (option_map view second)
seen-or view None second = refl
seen-or view (Some x) second = refl

-- none behind it
pub or-none : {A : Type 0} (first : Option A) → option_or first None ≡ first
or-none None = refl
or-none (Some x) = refl
