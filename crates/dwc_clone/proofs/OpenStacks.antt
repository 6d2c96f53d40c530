-- Wrappers that are open while a unit is made of drafts, and what closes them.
use Rattle.std.proofs.Common.{◌≡◌, ℕ, suc, ◌≤◌, refl, sym, subst, arith, append_assoc, List, [], ◌∷◌, ◌++◌, Bool, true, false, Option, append-nil}
use Rattle.std.specs.Prelude.{if◌then◌else◌, length, nat_lt}
use Rattle.std.proofs.lemmas.Bool.{ltb-true, ltb-false}
use Rattle.dwc_rules.specs.Kept.{Placed}
use Rattle.dwc_rules.specs.Clones.{UnitSource}
use Rattle.dwc_rules.specs.Drafts.{Draft, Goal, Role}
use Rattle.dwc_rules.specs.EntryRules.{wrappers_of}
use Rattle.dwc_rules.specs.Wrappers.{WrapperSource, left_open, types_closed, wrapper_types}
use Rattle.dwc_isa.specs.Registers.{Registers}
use Rattle.dwc_unit.specs.GivenUnits.{GivenUnit}
use Rattle.dwc_source.specs.declared.source.CloneSource.{CloneSource}
use Rattle.dwc_clone.specs.declared.wrapper.OpenWrapper.{OpenWrapper}
use Rattle.dwc_clone.specs.ClonedUnits.{draft_depths, goal_number}
use Rattle.dwc_extents.specs.CodeSources.{source_with}
use Rattle.dwc_clone.specs.OpenWrappers.{CanCloseAll, closed_from, still_open, types_added}
use Rattle.dwc_source.specs.Sources.{IsSource}
use Rattle.dwc_clone.specs.BuiltUnits.{AreOpen, IsDrafted, IsOpen}
use Rattle.dwc_clone.proofs.DraftedUnits.{Extends, extends-less, extends-not, last-extended}
use Rattle.dwc_clone.proofs.DraftSteps.{Adds, adds-on}
use Rattle.dwc_clone.proofs.OpenWrapperLaws.{can-next}
use Rattle.dwc_clone.proofs.WrapperAdds.{types-adds}

module _ (registers : Registers) (c : CloneSource) (number : ℕ) (s : UnitSource) (source : IsSource c number s) (roles : ℕ → Role → Option ℕ) where
  abbrev pub at : Goal → Option (ℕ × ℕ)
  at = goal_number c number roles

  abbrev pub wrapping : WrapperSource
  wrapping = wrappers_of (source_with registers c s)

  abbrev Opens : List Draft → GivenUnit → ℕ → List Placed → List OpenWrapper → Type 0
  Opens ds u bound es ws = AreOpen c number roles ds u bound es ws

  pub open-less : (ds : List Draft) (u : GivenUnit) (bound more : ℕ) (es : List Placed) (ws : List OpenWrapper) → bound ≤ more → Opens ds u bound es ws → Opens ds u more es ws
  open-less ds u bound more [] [] less opened = tt
  open-less ds u bound more [] (w ∷ ws) less opened = absurd opened
  open-less ds u bound more (e ∷ es) [] less opened = absurd opened
  open-less ds u bound more (e ∷ es) (w ∷ ws) less opened = let low = opened.0 in (omega (arith, low, less), opened.1, opened.2)

  pub open-on : (ds fs : List Draft) (u v : GivenUnit) (bound from : ℕ) (es : List Placed) (ws : List OpenWrapper) → bound ≤ suc from → Extends from (draft_depths ds) (draft_depths fs) u v → Opens ds u bound es ws → Opens fs v bound es ws
  open-on ds fs u v bound from [] [] less extends opened = tt
  open-on ds fs u v bound from [] (w ∷ ws) less extends opened = absurd opened
  open-on ds fs u v bound from (e ∷ es) [] less extends opened = absurd opened
  open-on ds fs u v bound from (e ∷ es) (w ∷ ws) less extends opened =
      let low = opened.0 in
      let o = opened.1 in
      let deep = o.deep in (
        opened.0,
        record {
          own = o.own;
          depth = o.depth;
          above = o.above;
          deep = o.deep;
          parent = last-extended from (draft_depths ds) (draft_depths fs) u v extends o.above w.parent (omega (arith, low, deep, less)) o.parent;
          target = o.target;
          itself_at = o.itself_at;
          has = o.has;
        },
        open-on ds fs u v e.entry.depth from es ws (omega (arith, low, less)) extends opened.2,
      )

  pub adds-none : (texts : List (List ℕ)) (from : ℕ) (ds : List Draft) (u : GivenUnit) → IsDrafted at number texts ds u → Adds at number texts from ds [] u u
  adds-none texts from ds u so =
      let same = sym (append-nil ds) in
      record { drafted = subst (λ xs. IsDrafted at number texts xs u) same so; extends = subst (λ xs. Extends from (draft_depths ds) (draft_depths xs) u u) same (extends-not from (draft_depths ds) u) }

  -- What closes those that do not lie above a depth is what is drafted.
  pub record Closes (texts : List (List ℕ)) (depth : ℕ) (ds : List Draft) (es : List Placed) (ws : List OpenWrapper) (u v : GivenUnit) : Type 0 where
    pub adds : Adds at number texts depth ds (types_closed wrapping depth es) u v
    pub opens : Opens (ds ++ types_closed wrapping depth es) v depth (left_open depth es) (still_open depth ws)

  close-first : (texts : List (List ℕ)) (depth bound most : ℕ) (e : Placed) (es : List Placed) (w : OpenWrapper) (ws : List OpenWrapper) (ds : List Draft) (u : GivenUnit) → IsDrafted at number texts ds u → Opens ds u bound (e ∷ es) (w ∷ ws) → CanCloseAll most u (w ∷ ws)
      → ((fs : List Draft) (v : GivenUnit) → IsDrafted at number texts fs v → Opens fs v e.entry.depth es ws → CanCloseAll (length v.places) v ws → Closes texts depth fs es ws v (closed_from depth ws v))
      → Closes texts depth ds (e ∷ es) (w ∷ ws) u (closed_from depth (w ∷ ws) u)
  close-first texts depth bound most e es w ws ds u so opened can next = record { adds = whole.0; opens = whole.1 }
    where
      o : IsOpen c number roles ds u e w
      o = opened.1

      first : Adds at number texts e.entry.depth ds (wrapper_types wrapping e) u (types_added w u)
      first = types-adds registers c number s source roles e o.own texts w o.target o.itself_at o.has ds u o.above so o.deep o.parent can.0

      Whole : Bool → Bool → Type 0
      Whole a b =
          Adds at number texts depth ds (if a then [] else wrapper_types wrapping e ++ types_closed wrapping depth es) u (if b then u else closed_from depth ws (types_added w u))
          × Opens (ds ++ (if a then [] else wrapper_types wrapping e ++ types_closed wrapping depth es)) (if b then u else closed_from depth ws (types_added w u)) depth (if a then e ∷ es else left_open depth es) (if b then w ∷ ws else still_open depth ws)

      rest : Closes texts depth (ds ++ wrapper_types wrapping e) es ws (types_added w u) (closed_from depth ws (types_added w u))
      rest = next (ds ++ wrapper_types wrapping e) (types_added w u) first.drafted (open-on ds (ds ++ wrapper_types wrapping e) u (types_added w u) e.entry.depth e.entry.depth es ws (omega arith) first.extends opened.2) (can-next most w ws u can)

      go : (b : Bool) → nat_lt e.entry.depth depth ≡ b → Closes texts depth (ds ++ wrapper_types wrapping e) es ws (types_added w u) (closed_from depth ws (types_added w u)) → Whole b b
      go true is r = (adds-none texts depth ds u so, subst (λ xs. Opens xs u depth (e ∷ es) (w ∷ ws)) (sym (append-nil ds)) (ltb-true e.entry.depth depth is, opened.1, opened.2))
      go false is r =
          let deep : depth ≤ e.entry.depth = ltb-false e.entry.depth depth is in
          let lower : Adds at number texts depth ds (wrapper_types wrapping e) u (types_added w u) = record { drafted = first.drafted; extends = extends-less e.entry.depth depth (draft_depths ds) (draft_depths (ds ++ wrapper_types wrapping e)) u (types_added w u) deep first.extends } in (
            adds-on at number texts depth depth ds (wrapper_types wrapping e) (types_closed wrapping depth es) u (types_added w u) (closed_from depth ws (types_added w u)) (omega arith) lower r.adds,
            subst (λ xs. Opens xs (closed_from depth ws (types_added w u)) depth (left_open depth es) (still_open depth ws)) (append_assoc ds (wrapper_types wrapping e) (types_closed wrapping depth es)) r.opens,
          )

      whole : Whole (nat_lt e.entry.depth depth) (nat_lt w.depth depth)
      whole = subst (λ n. Whole (nat_lt e.entry.depth depth) (nat_lt n depth)) (sym o.depth) (go (nat_lt e.entry.depth depth) refl rest)

  pub closes : (texts : List (List ℕ)) (depth bound most : ℕ) (es : List Placed) (ws : List OpenWrapper) (ds : List Draft) (u : GivenUnit) → IsDrafted at number texts ds u → Opens ds u bound es ws → CanCloseAll most u ws
      → Closes texts depth ds es ws u (closed_from depth ws u)
  closes texts depth bound most [] [] ds u so opened can = record { adds = adds-none texts depth ds u so; opens = tt }
  closes texts depth bound most [] (w ∷ ws) ds u so opened can = absurd opened
  closes texts depth bound most (e ∷ es) [] ds u so opened can = absurd opened
  closes texts depth bound most (e ∷ es) (w ∷ ws) ds u so opened can =
      close-first texts depth bound most e es w ws ds u so opened can (λ fs v so_far opens ready. closes texts depth e.entry.depth (length v.places) es ws fs v so_far opens ready)
