-- The scope that an entry gives is its own while it is on top at the depth of the entry.
use Rattle.std.proofs.Common.{◌≡◌, ℕ, pos, List, ◌++◌, append-nil, Bool, true, false, Option, Some, None, option_map, refl, ap, sym, ◌∙◌}
use Rattle.std.specs.Prelude.{◌==◌, ◌||◌, if◌then◌else◌, is_some, option_to_list}
use Rattle.dwc_base.specs.declared.constants.TheConstants.{DW_AT_high_pc, DW_AT_ranges, DW_TAG_subprogram}
use Rattle.dwc_dwarf.specs.Entries.{Entry, attribute}
use Rattle.dwc_native.specs.Functions.{Function}
use Rattle.dwc_rules.specs.RangeAttributes.{begun_function, extent}
use Rattle.dwc_dwarf.specs.RawLists.{ListSource}
use Rattle.dwc_rules.specs.Scopes.{Given, left_for, scope_given, scope_of_extent, source_range, top_at}
use Rattle.dwc_extents.specs.Lineages.{HasOwnScope, Stacks, entered, own_scope, with_entry}
use Rattle.dwc_extents.specs.ReadExtents.{IsScopeOf}
use Rattle.dwc_clone.proofs.StackDepths.{top-left, top-push}

-- What is on top of a stack at a depth, where nothing under it is of that depth, is what was put there.
put-top : {X : Type 0} (d : ℕ) (left : List (Given X)) (x : X) → top_at (pos d) left ≡ None → (b : Bool) (given : Option X) → top_at (pos d) (if b then left else left ++ option_to_list (option_map (λ y. (pos d, y)) given)) ≡ Some x → given ≡ Some x
put-top d left x nothing true given top = absurd (let never : None ≡ Some x = sym nothing ∙ top in cc)
put-top d left x nothing false None top = absurd (let never : None ≡ Some x = sym (ap (top_at (pos d)) (append-nil left) ∙ nothing) ∙ top in cc)
put-top d left x nothing false (Some y) top = sym (top-push d left y) ∙ top

-- So what is on top at the depth of an entry that was entered is what the entry gives.
entered-top : {X : Type 0} (gives : Entry → Option X) (e : Entry) (stack : List (Given X)) (x : X) → top_at (pos e.depth) (entered gives e stack) ≡ Some x → gives e ≡ Some x
entered-top gives e stack x = put-top e.depth (left_for (pos e.depth) stack) x (top-left (pos e.depth) stack) (e.depth == 0) (gives e)

module _ (s : ListSource) (fs : List Function) (e : Entry) where
  pub own-scope-entered : (old : Stacks) → HasOwnScope s fs e (with_entry s fs e old)
  own-scope-entered old = λ scope top. entered-top (scope_given s fs) e old.scopes scope top

  -- Of an entry that is no subprogram it is the extent.
  pub own-scope-is : (stacks : Stacks) (scope : Option (List (ℕ × ℕ))) → HasOwnScope s fs e stacks → scope ≡ own_scope e stacks → IsScopeOf s e scope
  own-scope-is stacks None own is = tt
  own-scope-is stacks (Some x) own is = go (e.tag == DW_TAG_subprogram) refl is
    where
      said : (b : Bool) → (if b then Some (scope_of_extent (extent s e)) else None) ≡ Some x → x ≡ scope_of_extent (extent s e)
      said true some = cc
      said false some = absurd (cc)

      go : (b : Bool) → (e.tag == DW_TAG_subprogram) ≡ b → Some x ≡ (if b then None else top_at (pos e.depth) stacks.scopes) → x ≡ scope_of_extent (extent s e)
      go true at some = absurd (cc)
      go false at some =
          let gives = ap (λ b. if b then option_map source_range (begun_function s fs e) else (if is_some (attribute DW_AT_high_pc e) || is_some (attribute DW_AT_ranges e) then Some (scope_of_extent (extent s e)) else None)) at in
          said (is_some (attribute DW_AT_high_pc e) || is_some (attribute DW_AT_ranges e)) (sym gives ∙ own x (sym some))
