-- The first values of a root, attribute by attribute.
use Rattle.std.proofs.Common.{◌≡◌, ℕ, ◌+◌, ◌<◌, ◌≤◌, refl, ap, sym, ◌∙◌, List, [], ◌∷◌, map, length, get_or, Option, Some, None, Result, Ok, Err, Bool, true, false, cond, eqb}
use Rattle.std.specs.Prelude.{zip, option_map, ◌==◌}
use Rattle.std.specs.List.{find}
use Rattle.std.specs.Option.{option_or}
use Rattle.dwc_base.specs.declared.faults.Flaw.{Flaw}
use Rattle.dwc_base.specs.Reading.{Unread, Read, ◌>>=◌}
use Rattle.dwc_base.specs.declared.constants.TheConstants.{DW_AT_stmt_list}
use Rattle.dwc_base.specs.Abbreviations as table
use Rattle.dwc_base.specs.Sections.{Sections}
use Rattle.dwc_base.specs.Units.{UnitHeader}
use Rattle.dwc_dwarf.specs.Values.{Value, value_at}
use Rattle.dwc_dwarf.specs.Entries.{attributes_at}
use Rattle.dwc_dwarf.specs.Indexed.{as_section_offset}
use Rattle.dwc_read.specs.declared.attribute_spec.AttributeSpec.{AttributeSpec}
use Rattle.dwc_read.specs.AttributeSpecs.{spec_view}
use Rattle.dwc_read.specs.ValuesSeen.{first_value}
use Rattle.dwc_read.specs.RootValues.{named_offsets, said, first_among, kept_first}
use Rattle.dwc_read.specs.declared.root_values.Said.{Said}
use Rattle.dwc_read.proofs.AttributeLaws.{specs_from, specs_from-next, drop-past}

-- one value behind what was seen, in front of the others
first_value-more : (wanted : ℕ) (seen : Option Said) (name : ℕ) (v : Value) (others : List (ℕ × Value))
    → option_or seen (option_map said (first_value wanted ((name, v) ∷ others))) ≡ option_or (kept_first wanted seen name (said v)) (option_map said (first_value wanted others))
first_value-more wanted None name v others = go (eqb name wanted)
  where
    go : (b : Bool) → option_map said (option_map (λ a. a.1) (cond b (Some (name, v)) (find (λ a. a.0 == wanted) others))) ≡ option_or (cond b (Some (said v)) None) (option_map said (first_value wanted others))
    go true = refl
    go false = refl
first_value-more wanted (Some x) name v others = refl

first_among-more : (wanted : ℕ) (seen : Option Said) (name : ℕ) (v : Value) (r : Result (List (ℕ × Value)) Flaw) → first_among wanted seen (r >>= λ others. Ok ((name, v) ∷ others)) ≡ first_among wanted (kept_first wanted seen name (said v)) r
first_among-more wanted seen name v (Ok others) = first_value-more wanted seen name v others
first_among-more wanted seen name v (Err flaw) = refl

module _ (s : Sections) (h : UnitHeader) where
  -- an attribute in front of the others
  pub named_offsets-first : (spec : table.AttributeSpec) (others : List table.AttributeSpec) (u v : Unread) (x : Value) → value_at s h (as_section_offset spec) u ≡ Ok (x, v)
      → named_offsets s h (spec ∷ others) u ≡ (named_offsets s h others v >>= λ values. Ok ((spec.name, x) ∷ values))
  unfolding attributes_at
  named_offsets-first spec others u v x read = rw (read, attributes_at) (go (attributes_at s h (map as_section_offset others) v))
    where
      go : (r : Read (List (ℕ × Value)))
          → (◌>>=◌ {A = List (ℕ × Value) × Unread} {B = List (ℕ × Value)} (◌>>=◌ {A = List (ℕ × Value) × Unread} {B = List (ℕ × Value) × Unread} r (λ values. Ok ((DW_AT_stmt_list, x) ∷ values.0, values.1))) (λ values. Ok (zip (spec.name ∷ map (λ spec. spec.name) others) (map (λ a. a.1) values.0))))
          ≡ (◌>>=◌ {A = List (ℕ × Value)} {B = List (ℕ × Value)} (r >>= λ values. Ok (zip (map (λ spec. spec.name) others) (map (λ a. a.1) values.0))) (λ values. Ok ((spec.name, x) ∷ values)))
      go (Ok values) = refl
      go (Err flaw) = refl

  pub named_offsets-flaw : (spec : table.AttributeSpec) (others : List table.AttributeSpec) (u : Unread) (flaw : Flaw) → value_at s h (as_section_offset spec) u ≡ Err flaw → named_offsets s h (spec ∷ others) u ≡ Err flaw
  unfolding attributes_at
  named_offsets-flaw spec others u flaw read = rw (read, attributes_at) refl

  module _ (specs : List AttributeSpec) (i : ℕ) (d : AttributeSpec) (u : Unread) where
    -- at a value, at a flaw, and behind the last
    pub firsts-more : (wanted : ℕ) (seen : Option Said) (x : Value) (v : Unread) → i < length specs → value_at s h (as_section_offset (spec_view (get_or specs i d))) u ≡ Ok (x, v)
        → first_among wanted seen (named_offsets s h (specs_from i specs) u) ≡ first_among wanted (kept_first wanted seen (get_or specs i d).name (said x)) (named_offsets s h (specs_from (i + 1) specs) v)
    firsts-more wanted seen x v inside read =
        let spec = spec_view (get_or specs i d) in
        let rest = named_offsets s h (specs_from (i + 1) specs) v in
        ap (λ others. first_among wanted seen (named_offsets s h others u)) (specs_from-next specs i d inside)
        ∙ ap (first_among wanted seen) (named_offsets-first spec (specs_from (i + 1) specs) u v x read)
        ∙ first_among-more wanted seen spec.name x rest

    pub firsts-flaw : (wanted : ℕ) (seen : Option Said) (flaw : Flaw) → i < length specs → value_at s h (as_section_offset (spec_view (get_or specs i d))) u ≡ Err flaw → first_among wanted seen (named_offsets s h (specs_from i specs) u) ≡ None
    firsts-flaw wanted seen flaw inside read =
        ap (λ others. first_among wanted seen (named_offsets s h others u)) (specs_from-next specs i d inside)
        ∙ ap (first_among wanted seen) (named_offsets-flaw (spec_view (get_or specs i d)) (specs_from (i + 1) specs) u flaw read)

    -- what the step of the loop keeps
    pub firsts-preserved : (wanted : ℕ) (seen kept whole : Option Said) (more : Said) (x : Value) (v : Unread) → i < length specs → value_at s h (as_section_offset (spec_view (get_or specs i d))) u ≡ Ok (x, v) → more ≡ said x
        → kept ≡ kept_first wanted seen (get_or specs i d).name more → first_among wanted seen (named_offsets s h (specs_from i specs) u) ≡ whole
        → first_among wanted kept (named_offsets s h (specs_from (i + 1) specs) v) ≡ whole
    firsts-preserved wanted seen kept whole more x v inside read says keeps so_far =
        rw (keeps, says) (sym (firsts-more wanted seen x v inside read) ∙ so_far)

    firsts-none : (wanted : ℕ) (seen : Option Said) → first_among wanted seen (named_offsets s h [] u) ≡ seen
    unfolding attributes_at
    firsts-none wanted None = refl
    firsts-none wanted (Some x) = refl

    pub firsts-end : (wanted : ℕ) (seen : Option Said) → length specs ≤ i → first_among wanted seen (named_offsets s h (specs_from i specs) u) ≡ seen
    firsts-end wanted seen past = ap (λ left. first_among wanted seen (named_offsets s h (map spec_view left) u)) (drop-past specs i past) ∙ firsts-none wanted seen
