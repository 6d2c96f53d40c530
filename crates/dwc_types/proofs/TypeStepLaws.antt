-- What is read of one type of a chain.
use Rattle.std.proofs.Common.{◌≡◌, ℕ, refl, sym, ap, subst, ◌∙◌, List, true, false, is_some, Option, Some, None, Result, Ok, Err}
use Rattle.std.specs.Prelude.{option_map}
use Rattle.dwc_dwarf.specs.Entries.{Entry}
use Rattle.dwc_rules.specs.Kept.{Placed}
use Rattle.dwc_rules.specs.Clones.{UnitSource}
use Rattle.dwc_dwarf.specs.Indexed.{texts_of_unit}
use Rattle.dwc_rules.specs.Refusals.{Refusal, of_place}
use Rattle.dwc_base.specs.Sections.{Fault}
use Rattle.dwc_rules.specs.TypeNames.{derived_name, name_of}
use Rattle.dwc_source.specs.declared.error.CloneError.{CloneError}
use Rattle.dwc_source.specs.declared.source.CloneSource.{CloneSource}
use Rattle.dwc_types.specs.declared.type_entry.TypeEntry.{TypeEntry}
use Rattle.dwc_types.specs.declared.known_type.TypeStep.TheVariants.{Derived, Last}
use Rattle.dwc_source.specs.Sources.{placed_entry, IsSource}
use Rattle.dwc_source.specs.Errors.{refusal_told}
use Rattle.dwc_source.specs.MadeValues.{RefusesSo}
use Rattle.dwc_types.specs.TypeChains.{GivesRead, type_found, type_view}
use Rattle.dwc_types.specs.TypeSteps.{GivesStep, IsAlike}
use Rattle.dwc_types.proofs.TypeFoundLaws.{alike-name, alike-type}

-- ---- refusals

refused-none : {A : Type 0} (r : Result A Refusal) (o : Option Refusal) → o ≡ None → RefusesSo r o
refused-none r None is = tt
refused-none r (Some refusal) is = absurd (cc)

-- A refusal for want of memory says nothing of what is read.
pub gives-none : {A X : Type 0} (view : X → A) (read : Result A Fault) (e : CloneError) → refusal_told e ≡ None → GivesRead view read (Err e)
gives-none {A} view (Ok a) e none = refused-none {A = A} (Ok a) (refusal_told e) none
gives-none {A} view (Err fault) e none = refused-none {A = A} (Err (of_place fault)) (refusal_told e) none

-- A refusal of what can be read is for want of memory.
pub refused-ok : {A : Type 0} (a : A) (o : Option Refusal) → RefusesSo {A = A} (Ok a) o → o ≡ None
refused-ok a None is = refl
refused-ok a (Some refusal) is = absurd (cc)

-- A refusal of one reading is one of another with the same fault.
pub refused-as : {A B X Y : Type 0} (view : X → A) (other : Y → B) (read : Result A Fault) (named : Result B Fault) (e : CloneError) → ((a : A) → read ≡ Ok a → refusal_told e ≡ None → GivesRead other named (Err e)) → ((fault : Fault) → read ≡ Err fault → named ≡ Err fault)
    → GivesRead view read (Err e) → GivesRead other named (Err e)
refused-as view other (Ok a) named e none same is = none a refl (refused-ok a (refusal_told e) is)
refused-as {A} {B} view other (Err fault) named e none same is = subst (λ r. GivesRead other r (Err e)) (sym (same fault refl)) (go (refusal_told e) is)
  where
    go : (o : Option Refusal) → RefusesSo {A = A} (Err (of_place fault)) o → RefusesSo {A = B} (Err (of_place fault)) o
    go None is = tt
    go (Some refusal) is = ap (λ (r : Refusal). Err r) (err-is (of_place fault) refusal is)
      where
        refused_or : Result A Refusal → Refusal → Refusal
        refused_or (Ok a) other = other
        refused_or (Err x) other = x

        err-is : (x y : Refusal) → ◌≡◌ {A = Result A Refusal} (Err x) (Err y) → x ≡ y
        err-is x y h = ap (λ (r : Result A Refusal). refused_or r x) h

-- It is one of the same reading, seen in another way.
pub refused-alike : {A X Y : Type 0} (view : X → A) (other : Y → A) (read : Result A Fault) (e : CloneError) → GivesRead view read (Err e) → GivesRead other read (Err e)
refused-alike view other read e given = refused-as view other read read e (λ a is none. gives-none other read e none) (λ fault is. is) given

-- ---- one type

module _ (c : CloneSource) (number : ℕ) (s : UnitSource) (f : Placed) (entry : Entry) (source : IsSource c number s) (like : IsAlike entry f.entry) where
  name-same : name_of (texts_of_unit c.unit.now.sections c.unit.now.header) (placed_entry c entry) ≡ name_of s.texts f
  name-same = ap (λ texts. name_of texts (placed_entry c entry)) (sym source.texts) ∙ alike-name s.texts (placed_entry c entry) f like

  -- The name that is read of an entry that is alike.
  pub name-given : {X : Type 0} (view : X → Option (List ℕ)) (r : Result X CloneError) → GivesRead view (name_of (texts_of_unit c.unit.now.sections c.unit.now.header) (placed_entry c entry)) r → GivesRead view (name_of s.texts f) r
  name-given view r given = subst (λ read. GivesRead view read r) name-same given

  pub name-refusal : {X Y : Type 0} (view : X → Option (List ℕ)) (other : Y → Option (List ℕ)) (e : CloneError) → GivesRead view (name_of (texts_of_unit c.unit.now.sections c.unit.now.header) (placed_entry c entry)) (Err e) → GivesRead other (name_of s.texts f) (Err e)
  name-refusal view other e given =
      refused-alike view other (name_of s.texts f) e (name-given view (Err e) given)

  -- The last type.
  pub last-given : name_of (texts_of_unit c.unit.now.sections c.unit.now.header) (placed_entry c entry) ≡ Ok None → is_some (derived_name entry.tag) ≡ false → GivesStep c s f (Ok Last)
  last-given name derived = (sym name-same ∙ name, go (derived_name f.entry.tag) (ap (λ tag. is_some (derived_name tag)) (sym like.tag) ∙ derived))
    where
      go : (o : Option (List ℕ → List ℕ)) → is_some o ≡ false → o ≡ None
      go None is = refl
      go (Some g) is = absurd (cc)

  -- One that is derived from another.
  pub derived-given : (tag : ℕ) (next : Option TypeEntry) → name_of (texts_of_unit c.unit.now.sections c.unit.now.header) (placed_entry c entry) ≡ Ok None → tag ≡ entry.tag → is_some (derived_name tag) ≡ true → option_map type_view next ≡ type_found c entry
      → GivesStep c s f (Ok (Derived tag next))
  derived-given tag next name tag_is derived found =
      (sym name-same ∙ name, tag_is ∙ like.tag, ap (λ t. is_some (derived_name t)) (sym (tag_is ∙ like.tag)) ∙ derived, sym (alike-type c entry f.entry like) ∙ sym found)
