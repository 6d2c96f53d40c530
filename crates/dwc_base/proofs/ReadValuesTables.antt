-- What holds of the declarations of a table that was read.
use Rattle.std.proofs.Common.{◌≡◌, ℕ, zero, suc, ◌^◌, ◌<◌, ◌≤◌, subst, arith, lit<, List, [], ◌∷◌, length, Option, Some, None, Ok, Err, Bool, true, false}
use Rattle.std.specs.Prelude.{pos, if◌then◌else◌, ◌==◌, nat_lt, ◌&&◌}
use Rattle.std.specs.Int.{w64, cast_unsigned}
use Rattle.std.specs.List.{All}
use Rattle.std.proofs.lemmas.Bool.{ltb-false}
use Rattle.std.proofs.lemmas.List.Elements.{All-nil, All-cons, All-head, All-tail}
use Rattle.dwc_base.specs.declared.faults.Flaw.TheVariants.{Malformed}
use Rattle.dwc_base.specs.declared.faults.What.TheVariants.{Abbreviation}
use Rattle.dwc_base.specs.declared.section_name.SectionName.TheVariants.{Abbrev}
use Rattle.dwc_base.specs.Reading.{Unread, Read, ◌>>=◌, number_at, uleb_at, sleb_at, items_up_to, items_at}
use Rattle.dwc_base.specs.Sections.{Sections, section_from, reported}
use Rattle.dwc_base.specs.Abbreviations.{AttributeSpec, Declaration, implicit_at, attribute_spec_at, declaration_behind, declaration_at, abbreviation_table, declaration_of}
use Rattle.dwc_base.specs.declared.constants.TheConstants.{DW_FORM_implicit_const}
use Rattle.dwc_base.proofs.ReadValuesParts.{Holds, Holds-bind, Holds-behind, Holds-tested, sleb_at-signed}

-- an attribute of a declaration that was read
pub record IsReadSpec (spec : AttributeSpec) : Type 0 where
  pub name : spec.name ≤ 65535
  pub implicit : cast_unsigned w64 spec.implicit < 2 ^ 64

-- a declaration that was read
pub record IsReadDeclaration (d : Declaration) : Type 0 where
  pub tag : d.tag ≤ 65535
  pub attributes : All IsReadSpec d.attributes

-- what may be there
abbrev IfThere : {A : Type 0} → (A → Type 0) → Option A × Unread → Type 0
IfThere P (None, v) = Unit {0}
IfThere P (Some x, v) = P x

items_up_to-read : {A : Type 0} (P : A → Type 0) (item : Unread → Read (Option A)) → ((v : Unread) → Holds (IfThere P) (item v)) → (most : ℕ) (u : Unread) → Holds (λ xs. All P xs.0) (items_up_to most item u)
unfolding items_up_to
items_up_to-read P item each zero u = record { held = tt }
items_up_to-read {A} P item each (suc most) u = Holds-bind (item u) _ (each u) (λ first i. go first.0 first.1 i (items_up_to-read P item each most first.1))
  where
    go : (o : Option A) (v : Unread) → IfThere P (o, v) → Holds (λ xs. All P xs.0) (items_up_to most item v)
        → Holds {A = List A × Unread} (λ xs. All P xs.0) (elim o [ None ↦ Ok ([], v) | Some x ↦ (items_up_to most item v >>= λ others. Ok (x ∷ others.0, others.1)) ])
    go None v i rest = record { held = All-nil P }
    go (Some x) v i rest = Holds-bind (items_up_to most item v) _ rest (λ others j. record { held = All-cons P x others.0 i j })

items_at-read : {A : Type 0} (P : A → Type 0) (item : Unread → Read (Option A)) → ((v : Unread) → Holds (IfThere P) (item v)) → (u : Unread) → Holds (λ xs. All P xs.0) (items_at item u)
unfolding items_at
items_at-read P item each u = items_up_to-read P item each (suc (length u.left)) u

implicit_at-read : (form : ℕ) (u : Unread) → Holds (λ x. cast_unsigned w64 x.0 < 2 ^ 64) (implicit_at form u)
unfolding implicit_at
implicit_at-read form u = go (form == DW_FORM_implicit_const)
  where
    go : (b : Bool) → Holds (λ x. cast_unsigned w64 x.0 < 2 ^ 64) (if b then sleb_at u else Ok (pos 0, u))
    go true = sleb_at-signed u
    go false = record { held = lit< tt }

attribute_spec_at-read : (u : Unread) → Holds (IfThere IsReadSpec) (attribute_spec_at u)
unfolding attribute_spec_at
attribute_spec_at-read u =
    Holds-behind (uleb_at u) _ (λ name.
    Holds-behind (uleb_at name.1) _ (λ form.
    Holds-tested (nat_lt 65535 name.0) Malformed _ (λ small.
    Holds-bind (implicit_at form.0 form.1) _ (implicit_at-read form.0 form.1) (λ implicit i.
    record { held = go ((name.0 == 0) && (form.0 == 0)) (record { name = name.0; form = form.0; implicit = implicit.0 }) implicit.1 (record { name = omega (arith, ltb-false 65535 name.0 small); implicit = i }) }))))
  where
    go : (b : Bool) (spec : AttributeSpec) (v : Unread) → IsReadSpec spec → IfThere IsReadSpec ((if b then None else Some spec), v)
    go true spec v h = tt
    go false spec v h = h

declaration_behind-read : (code : ℕ) (u : Unread) → Holds (IfThere IsReadDeclaration) (declaration_behind code u)
unfolding declaration_behind
declaration_behind-read code u =
    Holds-behind (uleb_at u) _ (λ tag.
    Holds-tested (nat_lt 65535 tag.0) Malformed _ (λ small.
    Holds-behind (number_at 1 tag.1) _ (λ children.
    Holds-tested (nat_lt 1 children.0) Malformed _ (λ flag.
    Holds-bind (items_at attribute_spec_at children.1) _ (items_at-read IsReadSpec attribute_spec_at attribute_spec_at-read children.1) (λ attributes i.
    record { held = record { tag = omega (arith, ltb-false 65535 tag.0 small); attributes = i } })))))

declaration_at-read : (u : Unread) → Holds (IfThere IsReadDeclaration) (declaration_at u)
unfolding declaration_at
declaration_at-read u = Holds-behind (uleb_at u) _ (λ code. go (code.0 == 0) code.0 code.1)
  where
    go : (b : Bool) (code : ℕ) (v : Unread) → Holds {A = Option Declaration × Unread} (IfThere IsReadDeclaration) (elim b [ true ↦ Ok (None, v) | false ↦ declaration_behind code v ])
    go true code v = record { held = tt }
    go false code v = declaration_behind-read code v

pub abbreviation_table-read : (s : Sections) (offset : ℕ) → Holds (All IsReadDeclaration) (abbreviation_table s offset)
unfolding abbreviation_table
abbreviation_table-read s offset = go (items_at declaration_at (section_from s Abbrev offset)) (items_at-read IsReadDeclaration declaration_at declaration_at-read (section_from s Abbrev offset))
  where
    go : (r : Read (List Declaration)) → Holds (λ xs. All IsReadDeclaration xs.0) r → Holds (All IsReadDeclaration) (reported Abbreviation Abbrev offset r >>= λ table. Ok table.0)
    go (Err flaw) h = record { held = tt }
    go (Ok x) h = record { held = h.held }

-- the declaration of a code is among those of the table
pub declaration_of-read : (code : ℕ) (table : List Declaration) (d : Declaration) → All IsReadDeclaration table → declaration_of code table ≡ Some d → IsReadDeclaration d
declaration_of-read code [] d all e = absurd (cc)
declaration_of-read code (x ∷ xs) d all e = go (x.code == code) e (λ rest. declaration_of-read code xs d (All-tail IsReadDeclaration x xs all) rest)
  where
    go : (b : Bool) → (if b then Some x else declaration_of code xs) ≡ Some d → (declaration_of code xs ≡ Some d → IsReadDeclaration d) → IsReadDeclaration d
    go true found rest = let is : x ≡ d = cc in subst IsReadDeclaration is (All-head IsReadDeclaration x xs all)
    go false found rest = rest found
