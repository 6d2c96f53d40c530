-- Where the kept entries of a module are entered in file order, what is on top of the stacks is in force.
use Rattle.std.proofs.Common.{◌≡◌, ℕ, zero, suc, ◌<◌, pos, List, [], ◌∷◌, ◌++◌, append-nil, drop, take, length, get_or, map, reverse, slice_get, Option, Some, None, option_map, refl, ap, sym, subst, ◌∙◌, arith}
use Rattle.std.specs.Prelude.{if◌then◌else◌, unwrap_or}
use Rattle.std.specs.List.{cons_option, filter_map}
use Rattle.std.proofs.Math.Seq.{take-suc}
use Rattle.std.proofs.lemmas.Bool.{ne_eqb}
use Rattle.std.proofs.lemmas.List.{map-append, reverse-append}
use Rattle.std.proofs.lemmas.Option.{get_or_from_slice_get, slice_get_within, slice_get-get_or}
use Rattle.dwc_dwarf.specs.Entries.{Entry}
use Rattle.dwc_native.specs.Functions.{Function}
use Rattle.dwc_rules.specs.Kept.{Placed, parent_of}
use Rattle.dwc_rules.specs.LocationAttributes.{base_of_expression}
use Rattle.dwc_rules.specs.RangeAttributes.{begun_function}
use Rattle.dwc_dwarf.specs.RawLists.{ListSource}
use Rattle.dwc_base.specs.Listing.{first_of}
use Rattle.dwc_rules.specs.Scopes.{Given, IsWalk, Rises, Steps, base_given, frame_in_force, given_by, lineage, lineage_of, nearest, scope_given, scope_in_force}
use Rattle.dwc_rules.proofs.StackLaws.{top-in-force}
use Rattle.dwc_rules.proofs.StackWalks.{stack-follows}
use Rattle.dwc_extents.specs.Lineages.{AreInForce, Stacks, WalkIsInForce, entered, frame_given, given_on, no_stacks, with_entries, with_entry, with_given}
use Rattle.dwc_clone.proofs.WalkBegins.{first-is-root}

-- ---- one stack

module _ {X : Type 0} (gives : Entry → Option X) where
  -- what an entry gives is on top of what those behind it in a lineage give
  given-first : (e : Entry) (es : List Entry) → given_on e.depth (gives e) (given_by gives es) ≡ given_by gives (e ∷ es)
  given-first e es = go (gives e) (filter_map (λ e. option_map (λ x. (pos e.depth, x)) (gives e)) es)
    where
      go : (o : Option X) (rest : List (Given X)) → given_on e.depth o (reverse rest) ≡ reverse (cons_option (option_map (λ x. (pos e.depth, x)) o) rest)
      go None rest = append-nil (reverse rest)
      go (Some x) rest = sym (reverse-append ((pos e.depth, x) ∷ []) rest)

  on-top : (es : List Placed) (e : Placed) → with_given e.entry.depth (gives e.entry) (given_by gives (drop 1 (lineage es e))) ≡ given_by gives (lineage es e)
  unfolding lineage
  on-top es e = go e.entry.depth refl
    where
      go : (d : ℕ) → e.entry.depth ≡ d → with_given d (gives e.entry) (given_by gives (drop 1 (lineage_of d es (Some e)))) ≡ given_by gives (lineage_of d es (Some e))
      go zero is = refl
      go (suc d) is =
          ap (λ b. if b then given_by gives (lineage_of d es (parent_of es e)) else given_on (suc d) (gives e.entry) (given_by gives (lineage_of d es (parent_of es e)))) (ne_eqb (suc d) 0 (λ none. absurd (omega (arith, none))))
          ∙ ap (λ n. given_on n (gives e.entry) (given_by gives (lineage_of d es (parent_of es e)))) (sym is)
          ∙ given-first e.entry (lineage_of d es (parent_of es e))

  module _ (es kept : List Placed) (rises : Rises 0 es) (steps : Steps 0 es) (walk : IsWalk es kept) (e : Placed) where
    entered-first : slice_get kept 0 ≡ Some e → entered gives e.entry [] ≡ given_by gives (lineage es e)
    unfolding lineage
    entered-first first =
        let root : e.entry.depth ≡ 0 = first-is-root es kept rises steps walk e first in
        ap (λ d. with_given d (gives e.entry) []) root ∙ ap (λ d. given_by gives (lineage_of d es (Some e))) (sym root)

    entered-next : (i : ℕ) (before : Placed) → slice_get kept i ≡ Some before → slice_get kept (suc i) ≡ Some e → entered gives e.entry (given_by gives (lineage es before)) ≡ given_by gives (lineage es e)
    entered-next i before at_before at_e = ap (with_given e.entry.depth (gives e.entry)) (stack-follows gives es kept rises steps i before e walk at_before at_e) ∙ on-top es e

-- ---- all stacks

module _ (s : ListSource) (fs : List Function) where
  -- what the entries of a lineage give
  abbrev pub stacks_of : List Entry → Stacks
  stacks_of es = record { scopes = given_by (scope_given s fs) es; frames = given_by (frame_given s fs) es; bases = given_by (base_given base_of_expression) es }

  -- one entry more
  pub with_entries-behind : (old : Stacks) (es : List Entry) (e : Entry) → with_entries s fs (es ++ e ∷ []) old ≡ with_entry s fs e (with_entries s fs es old)
  with_entries-behind old [] e = refl
  with_entries-behind old (x ∷ es) e = with_entries-behind (with_entry s fs x old) es e

  number-of-nearest : (es : List Entry) → nearest (frame_given s fs) es ≡ option_map (λ f. f.number) (nearest (begun_function s fs) es)
  number-of-nearest [] = refl
  number-of-nearest (e ∷ es) = go (begun_function s fs e) (number-of-nearest es)
    where
      go : (o : Option Function) → nearest (frame_given s fs) es ≡ option_map (λ f. f.number) (nearest (begun_function s fs) es)
          → first_of (cons_option (option_map (λ f. f.number) o) (filter_map (frame_given s fs) es)) ≡ option_map (λ f. f.number) (first_of (cons_option o (filter_map (begun_function s fs) es)))
      go None others = others
      go (Some f) others = refl

  -- the tops
  in-force : (es : List Placed) (e : Placed) → AreInForce s fs es e (stacks_of (lineage es e))
  unfolding scope_in_force frame_in_force
  in-force es e = record {
    scope = top-in-force (scope_given s fs) (lineage es e);
    frame = top-in-force (frame_given s fs) (lineage es e) ∙ number-of-nearest (lineage es e);
    base = top-in-force (base_given base_of_expression) (lineage es e);
  }

  module _ (es kept : List Placed) (rises : Rises 0 es) (steps : Steps 0 es) (walk : IsWalk es kept) where
    -- the stacks behind the entries of a walk up to one of them
    stacks-at : (i : ℕ) (e : Placed) → slice_get kept i ≡ Some e → with_entries s fs (map (λ p. p.entry) (take (suc i) kept)) no_stacks ≡ stacks_of (lineage es e)
    stacks-at zero e at = front kept at ∙ same
      where
        front : (ps : List Placed) → slice_get ps 0 ≡ Some e → with_entries s fs (map (λ p. p.entry) (take 1 ps)) no_stacks ≡ with_entry s fs e.entry no_stacks
        front [] h = absurd (cc)
        front (p ∷ ps) h = ap (λ (o : Option Placed). with_entry s fs (unwrap_or o p).entry no_stacks) h

        same : with_entry s fs e.entry no_stacks ≡ stacks_of (lineage es e)
        same = rw (entered-first (scope_given s fs) es kept rises steps walk e at, entered-first (frame_given s fs) es kept rises steps walk e at, entered-first (base_given base_of_expression) es kept rises steps walk e at) refl
    stacks-at (suc i) e at =
        ap (λ ps. with_entries s fs (map (λ p. p.entry) ps) no_stacks) (take-suc kept (suc i) e (slice_get_within kept (suc i) e at))
        ∙ ap (λ x. with_entries s fs (map (λ p. p.entry) (take (suc i) kept ++ x ∷ [])) no_stacks) (get_or_from_slice_get kept (suc i) e e at)
        ∙ ap (λ xs. with_entries s fs xs no_stacks) (map-append (λ p. p.entry) (take (suc i) kept) (e ∷ []))
        ∙ with_entries-behind no_stacks (map (λ p. p.entry) (take (suc i) kept)) e.entry
        ∙ ap (with_entry s fs e.entry) (stacks-at i before at_before)
        ∙ same
      where
        within : i < length kept
        within = let inside = slice_get_within kept (suc i) e at in omega (arith, inside)

        before : Placed
        before = get_or kept i e

        at_before : slice_get kept i ≡ Some before
        at_before = slice_get-get_or kept i e within

        same : with_entry s fs e.entry (stacks_of (lineage es before)) ≡ stacks_of (lineage es e)
        same =
            rw (
              entered-next (scope_given s fs) es kept rises steps walk e i before at_before at,
              entered-next (frame_given s fs) es kept rises steps walk e i before at_before at,
              entered-next (base_given base_of_expression) es kept rises steps walk e i before at_before at,
            )
            refl

  -- the law of walks
  pub walk-in-force : (es kept : List Placed) → WalkIsInForce s fs es kept
  walk-in-force es kept rises steps walk i e at = subst (AreInForce s fs es e) (sym (stacks-at es kept rises steps walk i e at)) (in-force es e)
