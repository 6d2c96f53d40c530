-- The places of a module's entries, unit by unit.
use Rattle.std.proofs.Common.{◌≡◌, ℕ, None, suc, ◌+◌, ◌<◌, ◌≤◌, List, ◌∷◌, ◌++◌, length, drop, get_or, ap, sym, subst, ◌∙◌, arith, cond}
use Rattle.std.specs.List.Sorted.{IsNonDecreasingBy}
use Rattle.std.proofs.lemmas.Bool.{lt-ltb, le-ltb}
use Rattle.std.proofs.lemmas.List.{append_assoc, drop_more}
use Rattle.dwc_rules.specs.Carried.{Module}
use Rattle.dwc_native.specs.Compiled.{nothing_told}
use Rattle.dwc_base.specs.ToldFiles.{bare_file}
use Rattle.dwc_kept.specs.declared.read_unit.ReadUnit.{ReadUnit}
use Rattle.dwc_kept.specs.declared.kept_units.KeptModule.{KeptModule}
use Rattle.dwc_source.specs.declared.places.EmittedEntry.{EmittedEntry}
use Rattle.dwc_source.specs.OutputPlaces.{numbered, offsets_of}
use Rattle.dwc_carry.specs.ModulePlaces.{IsKept, carried_offsets, emitted, numbered_lists}
use Rattle.dwc_carry.proofs.UnitsInOrder.{rises-front, rises-order, module-rises, RisesFrom}
use Rattle.dwc_carry.proofs.PlaceLaws.{offsets-behind, numbered-offsets, lists-offsets}

-- a unit that is carried, and one that is not
pub emitted-some : (kept : List ℕ) (r : ReadUnit) (rs : List ReadUnit) → 0 < length (carried_offsets kept r) → emitted kept (r ∷ rs) ≡ carried_offsets kept r ∷ emitted kept rs
emitted-some kept r rs some = ap (λ b. cond {A = List (List ℕ)} b (carried_offsets kept r ∷ emitted kept rs) (emitted kept rs)) (lt-ltb 0 (length (carried_offsets kept r)) some)

pub emitted-none : (kept : List ℕ) (r : ReadUnit) (rs : List ReadUnit) → length (carried_offsets kept r) ≤ 0 → emitted kept (r ∷ rs) ≡ emitted kept rs
emitted-none kept r rs none = ap (λ b. cond {A = List (List ℕ)} b (carried_offsets kept r ∷ emitted kept rs) (emitted kept rs)) (le-ltb 0 (length (carried_offsets kept r)) (omega (arith, none)))

module _ (m : KeptModule) (first : ℕ) where
  all : List EmittedEntry
  all = numbered_lists first (emitted m.kept m.units.items)

  module _ (places : List EmittedEntry) (number i : ℕ) (r : ReadUnit) (os : List ℕ) (within : i < length m.units.items) (is : r ≡ get_or m.units.items i r) (offsets : os ≡ carried_offsets m.kept r)
      (so_far : places ++ numbered_lists number (emitted m.kept (drop i m.units.items)) ≡ numbered_lists first (emitted m.kept m.units.items)) where
    next : drop i m.units.items ≡ r ∷ drop (i + 1) m.units.items
    next = drop_more m.units.items i r within ∙ ap (λ x. x ∷ drop (i + 1) m.units.items) (sym is)

    -- with a unit more
    pub places-more : 0 < length os → (places ++ numbered number 0 os) ++ numbered_lists (suc number) (emitted m.kept (drop (i + 1) m.units.items)) ≡ numbered_lists first (emitted m.kept m.units.items)
    places-more some =
        append_assoc places (numbered number 0 os) (numbered_lists (suc number) (emitted m.kept (drop (i + 1) m.units.items)))
        ∙ ap (λ xs. places ++ numbered_lists number (xs ∷ emitted m.kept (drop (i + 1) m.units.items))) offsets
        ∙ ap (λ xss. places ++ numbered_lists number xss) (sym (emitted-some m.kept r (drop (i + 1) m.units.items) (subst (λ xs. 0 < length xs) offsets some)))
        ∙ ap (λ rs. places ++ numbered_lists number (emitted m.kept rs)) (sym next)
        ∙ so_far

    -- and past one that is not carried
    pub places-same : length os ≤ 0 → places ++ numbered_lists number (emitted m.kept (drop (i + 1) m.units.items)) ≡ numbered_lists first (emitted m.kept m.units.items)
    places-same none =
        ap (λ xss. places ++ numbered_lists number xss) (sym (emitted-none m.kept r (drop (i + 1) m.units.items) (subst (λ xs. length xs ≤ 0) offsets none)))
        ∙ ap (λ rs. places ++ numbered_lists number (emitted m.kept rs)) (sym next)
        ∙ so_far

    -- The offsets of a unit rise behind those so far.
    pub places-rise : IsKept m → 0 < length os → IsNonDecreasingBy (λ offset. offset) (offsets_of places ++ os)
    places-rise k some =
        let behind = numbered_lists (suc number) (emitted m.kept (drop (i + 1) m.units.items)) in
        let c : Module = record { sections = k.sections; functions = k.functions; told = nothing_told; file = bare_file 0; compressed = None; version = 4 } in
        let whole : offsets_of (numbered_lists first (emitted m.kept m.units.items)) ≡ (offsets_of places ++ os) ++ offsets_of behind =
        ap offsets_of (sym (places-more some))
        ∙ offsets-behind (places ++ numbered number 0 os) behind
        ∙ ap (λ xs. xs ++ offsets_of behind) (offsets-behind places (numbered number 0 os) ∙ ap (λ xs. offsets_of places ++ xs) (numbered-offsets number 0 os)) in
        rises-order 0 (offsets_of places ++ os) (rises-front 0 (offsets_of places ++ os) (offsets_of behind)
        (subst (RisesFrom 0) (sym (lists-offsets first (emitted m.kept m.units.items)) ∙ whole) (module-rises c m k.is)))
