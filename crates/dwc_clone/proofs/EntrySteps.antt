-- An entry more that is cloned: wrappers are closed in front of it, and then it is made itself or wrapped.
use Rattle.std.proofs.Common.{◌≡◌, ℕ, zero, suc, ◌+◌, ◌≤◌, refl, sym, ap, subst, ◌∙◌, arith, append_assoc, List, [], ◌∷◌, ◌++◌, length, take, Bool, true, false, Option}
use Rattle.std.specs.Prelude.{if◌then◌else◌, nat_lt}
use Rattle.std.proofs.lemmas.List.{length-take-le}
use Rattle.dwc_dwarf.specs.Entries.{Entry}
use Rattle.dwc_rules.specs.Kept.{Placed}
use Rattle.dwc_rules.specs.CarriedDrafts.{entry_made}
use Rattle.dwc_rules.specs.Clones.{UnitSource}
use Rattle.dwc_rules.specs.Drafts.{Draft, Goal, Role}
use Rattle.dwc_rules.specs.EntryRules.{wrappers_of}
use Rattle.dwc_rules.specs.LocationRules.{ExpressionSource}
use Rattle.dwc_rules.specs.Wrappers.{WrapperSource, closing, entries_made, left_open, made_itself, open_behind, types_closed}
use Rattle.dwc_rules.proofs.WrapperLaws.{entries-in_place, made-next}
use Rattle.dwc_isa.specs.Registers.{Registers}
use Rattle.dwc_unit.specs.declared.units.UnitEntryId.{UnitEntryId}
use Rattle.dwc_unit.specs.GivenUnits.{GivenUnit}
use Rattle.dwc_source.specs.declared.source.CloneSource.{CloneSource}
use Rattle.dwc_clone.specs.declared.wrapper.OpenWrapper.{OpenWrapper}
use Rattle.dwc_clone.specs.BuiltUnits.{AreBuilt, AreOpen, IsDrafted}
use Rattle.dwc_clone.specs.ClonedUnits.{clone_drafts, draft_depths, goal_number, placed_in}
use Rattle.dwc_extents.specs.CodeSources.{source_with}
use Rattle.dwc_clone.specs.ClonedEntries.{ArePath, IsLastAt}
use Rattle.dwc_source.specs.Sources.{placed_entry, IsSource}
use Rattle.dwc_clone.specs.OpenWrappers.{CanCloseAll, closed_from, still_open, types_added}
use Rattle.dwc_clone.proofs.DraftPaths.{path-front, path-long, path-push}
use Rattle.dwc_clone.proofs.DraftedUnits.{path-extended}
use Rattle.dwc_clone.proofs.DraftSteps.{Adds}
use Rattle.dwc_clone.proofs.OpenStacks.{Closes, closes}
use Rattle.dwc_clone.proofs.OpenWrapperLaws.{types-length}

pub closed-length : (depth : ℕ) (ws : List OpenWrapper) (u : GivenUnit) → length (closed_from depth ws u).places ≡ length u.places
closed-length depth [] u = refl
closed-length depth (w ∷ ws) u = go (nat_lt w.depth depth) (closed-length depth ws (types_added w u))
  where
    go : (b : Bool) → length (closed_from depth ws (types_added w u)).places ≡ length (types_added w u).places → length (if b then u else closed_from depth ws (types_added w u)).places ≡ length u.places
    go true rest = refl
    go false rest = rest ∙ types-length w u

module _ (registers : Registers) (c : CloneSource) (number : ℕ) (s : UnitSource) (source : IsSource c number s) (roles : ℕ → Role → Option ℕ) where
  abbrev at : Goal → Option (ℕ × ℕ)
  at = goal_number c number roles

  abbrev cs : ExpressionSource
  cs = source_with registers c s

  abbrev wrapping : WrapperSource
  wrapping = wrappers_of cs

  abbrev clone : Placed → List Draft
  clone p = entry_made cs s c.big_endian p

  abbrev placed : List Entry → List Placed
  placed es = placed_in c.unit.now.header.offset es

  module _ (all : List Entry) (begun : GivenUnit) (e : Entry) (others : List Entry) (texts : List (List ℕ)) (parents : List UnitEntryId) where
    abbrev p : Placed
    p = placed_entry c e

    -- what is left behind the entry, with wrappers open
    abbrev behind : List Placed → List Draft
    behind stack = closing wrapping (open_behind c.module.output_for p stack) (entries_made wrapping clone (placed others))

    -- Wrappers are closed in front of the entry.
    pub record IsReady (u : GivenUnit) (wrappers : List OpenWrapper) : Type 0 where
      pub ds : List Draft
      pub drafted : IsDrafted at number texts ds u
      pub stack : List Placed
      pub opens : AreOpen c number roles ds u e.depth stack wrappers
      pub path : ArePath (draft_depths ds) 0 u (take e.depth parents)
      pub whole : ds ++ (made_itself wrapping clone p ++ behind stack) ≡ clone_drafts registers c s all
      pub version : u.version ≡ begun.version
      pub size : u.address_size ≡ begun.address_size
      pub lines : u.lines ≡ begun.lines

    pub ready : (u : GivenUnit) (wrappers : List OpenWrapper) (most : ℕ) → AreBuilt registers c number s roles all (e ∷ others) texts begun u parents wrappers → CanCloseAll most u wrappers → IsReady (closed_from e.depth wrappers u) (still_open e.depth wrappers)
    ready u wrappers most built can =
        let closed : Closes registers c number s source roles texts e.depth built.ds built.stack wrappers u (closed_from e.depth wrappers u) = closes registers c number s source roles texts e.depth (length parents) most built.stack wrappers built.ds u built.drafted built.opens can in
        let types = types_closed wrapping e.depth built.stack in
        let now = closed_from e.depth wrappers u in
        record {
          ds = built.ds ++ types;
          drafted = (closed.adds).drafted;
          stack = left_open e.depth built.stack;
          opens = closed.opens;
          path = path-extended e.depth (draft_depths built.ds) (draft_depths (built.ds ++ types)) u now (closed.adds).extends 0 (take e.depth parents) (taken e.depth parents) (path-front (draft_depths built.ds) u 0 e.depth parents built.path);
          whole = append_assoc built.ds types (made_itself wrapping clone p ++ behind (left_open e.depth built.stack))
              ∙ ap (λ xs. built.ds ++ xs) (sym (made-next wrapping clone (entries-in_place cs s c.big_endian) built.stack p (placed others)))
              ∙ built.whole;
          version = ((closed.adds).extends).version ∙ built.version;
          size = ((closed.adds).extends).size ∙ built.size;
          lines = ((closed.adds).extends).lines ∙ built.lines;
        }
      where
        taken : {A : Type 0} (n : ℕ) (xs : List A) → 0 + length (take n xs) ≤ n
        taken zero xs = omega arith
        taken (suc n) [] = omega arith
        taken (suc n) (x ∷ xs) = omega (arith, taken n xs)

    -- What is added in the place of the entry, with what lies in it, makes the unit as it is to be behind it.
    pub next-built : (u v : GivenUnit) (wrappers opened : List OpenWrapper) (new : List (List ℕ)) (id : UnitEntryId) (r : IsReady u wrappers) → e.depth ≤ length parents → Adds at number new e.depth r.ds (made_itself wrapping clone p) u v → IsLastAt (draft_depths (r.ds ++ made_itself wrapping clone p)) e.depth v id
        → AreOpen c number roles (r.ds ++ made_itself wrapping clone p) v (suc e.depth) (open_behind c.module.output_for p r.stack) opened → AreBuilt registers c number s roles all others new begun v (take e.depth parents ++ id ∷ []) opened
    next-built u v wrappers opened new id r fits adds last opens =
        let long : length (take e.depth parents ++ id ∷ []) ≡ suc e.depth = path-long e.depth parents id fits in
        record {
          ds = r.ds ++ made_itself wrapping clone p;
          drafted = adds.drafted;
          stack = open_behind c.module.output_for p r.stack;
          opens = subst (λ n. AreOpen c number roles (r.ds ++ made_itself wrapping clone p) v n (open_behind c.module.output_for p r.stack) opened) (sym long) opens;
          path = path-push (draft_depths (r.ds ++ made_itself wrapping clone p)) v 0 (take e.depth parents) id
              (path-extended e.depth (draft_depths r.ds) (draft_depths (r.ds ++ made_itself wrapping clone p)) u v adds.extends 0 (take e.depth parents) (omega (arith, length-take-le e.depth parents fits)) r.path)
              (subst (λ n. IsLastAt (draft_depths (r.ds ++ made_itself wrapping clone p)) n v id) (sym (omega (arith, length-take-le e.depth parents fits))) last);
          some = omega (arith, long);
          whole = append_assoc r.ds (made_itself wrapping clone p) (behind r.stack) ∙ r.whole;
          version = (adds.extends).version ∙ r.version;
          size = (adds.extends).size ∙ r.size;
          lines = (adds.extends).lines ∙ r.lines;
        }
