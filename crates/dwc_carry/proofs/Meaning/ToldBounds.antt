-- What is in force at an entry is bounded, where what is told of its module is, and its frame base is whole.
use Rattle.std.proofs.Common.{◌≡◌, ℕ, List, [], ◌∷◌, Option, Some, None, Result, Ok, Err, Bool, true, false, refl, sym, ap, subst}
use Rattle.std.specs.Prelude.{if◌then◌else◌, option_map}
use Rattle.std.specs.List.{filter_map, cons_option}
use Rattle.dwc_base.specs.Listing.{first_of}
use Rattle.dwc_dwarf.specs.Entries.{Entry, attribute}
use Rattle.dwc_dwarf.specs.Values as Values
use Rattle.dwc_dwarf.specs.Values.{Value}
use Rattle.dwc_base.specs.declared.constants.TheConstants.{DW_AT_frame_base}
use Rattle.dwc_native.specs.Functions.{Function}
use Rattle.dwc_native.specs.Compiled.{Place, ToldModule}
use Rattle.dwc_native.specs.Parts.{CompiledParts, compiled}
use Rattle.dwc_native.specs.Placed.{is_number, last_place, placed}
use Rattle.dwc_native.specs.BuiltExpressions.{memory_of, IsBoundedPlace, IsBoundedMemory, IsBounded}
use Rattle.dwc_rules.specs.Kept.{Placed}
use Rattle.dwc_rules.specs.Scopes.{lineage, frame_in_force, compiled_base, base_given, base_in_force}
use Rattle.dwc_rules.specs.LocationAttributes.{base_of_expression}
use Rattle.dwc_rules.specs.LocationRules.{ExpressionSource, lists_of, frame_told, frame_at, in_force_at}
use Rattle.dwc_expr.specs.WholeParts.{IsWholeBase, CompiledPartsAreWhole}
use Rattle.dwc_carry.specs.MeaningsCarried.{IsToldBounded}

-- ---- bounds

module _ (t : ToldModule) (b : IsToldBounded t) where
  frame-places : (o : Option Function) (function byte label : ℕ) (place : Place) → placed (option_map (frame_told t) o) function byte label ≡ Some place → IsBoundedPlace place
  frame-places None function byte label place h = absurd (cc)
  frame-places (Some f) function byte label place h = go (is_number f.symbol function) h
    where
      go : (own : Bool) → (if own then last_place (t.values f.number label) byte else None) ≡ Some place → IsBoundedPlace place
      go true e = b.places f.number label byte place e
      go false e = absurd (cc)

  frame-memory : (o : Option Function) → IsBoundedMemory (memory_of (option_map (frame_told t) o))
  frame-memory None = tt
  frame-memory (Some f) = b.memory

pub force-bounded : (c : ExpressionSource) (e : Placed) → IsToldBounded c.told → IsBounded (in_force_at c e).surroundings
unfolding in_force_at frame_at
force-bounded c e b = record {
  registers = b.registers;
  places = λ function byte label place h. frame-places c.told b (frame_in_force (lists_of c) c.functions (lineage c.entries e)) function byte label place h;
  memory = frame-memory c.told b (frame_in_force (lists_of c) c.functions (lineage c.entries e));
}

-- ---- frame bases

module _ (law : CompiledPartsAreWhole) where
  base-of : (bytes : List ℕ) → IsWholeBase (base_of_expression bytes)
  unfolding base_of_expression
  base-of bytes = go (compiled None bytes) refl
    where
      of : Result (Option CompiledParts) ℕ → Option CompiledParts
      of (Ok parts) = parts
      of (Err place) = None

      go : (r : Result (Option CompiledParts) ℕ) → compiled None bytes ≡ r → IsWholeBase (base_of_expression bytes)
      go (Ok (Some x)) e = subst IsWholeBase (sym (ap of e)) (law None bytes x tt e)
      go (Ok None) e = subst IsWholeBase (sym (ap of e)) tt
      go (Err place) e = subst IsWholeBase (sym (ap of e)) tt

  given-whole : (o : Option Value) → IsWholeBase (compiled_base base_of_expression o)
  given-whole None = tt
  given-whole (Some (Values.expression bytes)) = base-of bytes
  given-whole (Some (Values.address a)) = tt
  given-whole (Some (Values.address_index i)) = tt
  given-whole (Some (Values.block bytes)) = tt
  given-whole (Some (Values.constant form n)) = tt
  given-whole (Some Values.dropped) = tt
  given-whole (Some (Values.flag b)) = tt
  given-whole (Some (Values.info_reference n)) = tt
  given-whole (Some (Values.line_reference n)) = tt
  given-whole (Some (Values.location_index i)) = tt
  given-whole (Some (Values.location_reference n)) = tt
  given-whole (Some (Values.range_index i)) = tt
  given-whole (Some (Values.range_reference n)) = tt
  given-whole (Some (Values.text bytes)) = tt
  given-whole (Some (Values.text_reference form n)) = tt
  given-whole (Some (Values.unit_reference n)) = tt

  nearest-whole : (es : List Entry) → IsWholeBase (base_in_force base_of_expression es)
  nearest-whole [] = tt
  nearest-whole (e ∷ es) = go (base_given base_of_expression e) (given-whole (attribute DW_AT_frame_base e)) (nearest-whole es)
    where
      go : (o : Option CompiledParts) → IsWholeBase o → IsWholeBase (base_in_force base_of_expression es) → IsWholeBase (first_of (cons_option o (filter_map (base_given base_of_expression) es)))
      go None h k = k
      go (Some x) h k = h

  pub force-whole : (c : ExpressionSource) (e : Placed) → IsWholeBase (in_force_at c e).base
  unfolding in_force_at
  force-whole c e = nearest-whole (lineage c.entries e)
