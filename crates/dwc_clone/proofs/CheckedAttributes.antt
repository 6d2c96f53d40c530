-- Attributes of an entry that are read in their order, of which nothing becomes.
use Rattle.std.proofs.Common.{◌≡◌, ℕ, refl, sym, ap, ◌∙◌, List, [], ◌∷◌, ◌++◌, take, Option, Some, None}
use Rattle.dwc_dwarf.specs.Values.{Value}
use Rattle.dwc_rules.specs.Kept.{Placed}
use Rattle.dwc_rules.specs.Refusals.{Refusal}
use Rattle.dwc_base.specs.Listing.{first_of}
use Rattle.dwc_rules.specs.Clones.{UnitSource, attribute_becomes, attributes_become}
use Rattle.dwc_isa.specs.Registers.{Registers}
use Rattle.dwc_unit.specs.declared.attributes.AttributeValue.{AttributeValue}
use Rattle.dwc_source.specs.declared.source.CloneSource.{CloneSource}
use Rattle.dwc_source.specs.MadeValues.{Grows, IsMade, RefusesSo, SaysMore}
use Rattle.dwc_clone.specs.ClonedUnits.{TellsFirst}
use Rattle.dwc_extents.specs.CodeSources.{clone_rules}
use Rattle.dwc_clone.specs.ClonedEntries.{values_refused}
use Rattle.dwc_clone.specs.WrappedEntries.{AreChecked}
use Rattle.dwc_clone.proofs.EntryValues.{grows-not, grows-on, refused-here, refused-not}

-- So many attributes of an entry were read, of which nothing is refused: what is refused of those that are left is what is refused of all.
pub record AreReadSoFar (registers : Registers) (c : CloneSource) (s : UnitSource) (p : Placed) (t0 t1 : List (List ℕ)) (seen : ℕ) (left : List (ℕ × Value)) : Type 0 where
  pub before : List (ℕ × Value)
  pub front : before ≡ take seen p.entry.attributes
  pub grows : Grows t0 t1
  pub refused : values_refused registers c s p before left ≡ values_refused registers c s p [] p.entry.attributes

pub read-start : (registers : Registers) (c : CloneSource) (s : UnitSource) (p : Placed) (t : List (List ℕ)) → AreReadSoFar registers c s p t t 0 p.entry.attributes
read-start registers c s p t = record { before = []; front = refl; grows = grows-not t; refused = refl }

pub read-more : (registers : Registers) (c : CloneSource) (number : ℕ) (s : UnitSource) (p : Placed) (t0 t1 t2 : List (List ℕ)) (seen next : ℕ) (a : ℕ × Value) (left : List (ℕ × Value)) (v : Option AttributeValue)
    → (so : AreReadSoFar registers c s p t0 t1 seen (a ∷ left)) → so.before ++ a ∷ [] ≡ take next p.entry.attributes → IsMade (SaysMore c.places.now number a.0 t1 t2) (attribute_becomes (clone_rules registers c s) s p so.before a) v
    → AreReadSoFar registers c s p t0 t2 next left
read-more registers c number s p t0 t1 t2 seen next a left v so behind made = record {
  before = so.before ++ a ∷ [];
  front = behind;
  grows = grows-on t0 t1 t2 so.grows made.made.grows;
  refused = sym (refused-not registers c s p so.before a left made.drafted made.is) ∙ so.refused;
}

pub read-refused : (registers : Registers) (c : CloneSource) (s : UnitSource) (p : Placed) (t0 t1 : List (List ℕ)) (seen : ℕ) (a : ℕ × Value) (left : List (ℕ × Value)) (told : Option Refusal)
    → (so : AreReadSoFar registers c s p t0 t1 seen (a ∷ left)) → RefusesSo (attribute_becomes (clone_rules registers c s) s p so.before a) told → TellsFirst (values_refused registers c s p [] p.entry.attributes) told
read-refused registers c s p t0 t1 seen a left None so refused = tt
read-refused registers c s p t0 t1 seen a left (Some refusal) so refused = ap first_of (sym so.refused) ∙ refused-here registers c s p so.before a left refusal refused

pub read-end : (registers : Registers) (c : CloneSource) (s : UnitSource) (p : Placed) (t0 t1 : List (List ℕ)) (seen : ℕ) → AreReadSoFar registers c s p t0 t1 seen [] → AreChecked registers c s p t0 t1
unfolding attributes_become
read-end registers c s p t0 t1 seen so = record { grows = so.grows; accepted = sym so.refused }
