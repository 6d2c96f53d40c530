-- What each attribute of an entry becomes means what it should.
use Rattle.std.proofs.Common.{◌≡◌, ℕ, inl, inr, List, [], ◌∷◌, ◌++◌, Option, Some, None, option_map, Result, Ok, Err, Bool, true, false, refl}
use Rattle.std.specs.Prelude.{◌==◌, ◌&&◌, if◌then◌else◌, is_some, Contains}
use Rattle.std.specs.List.{filter_map, cons_option}
use Rattle.dwc_base.specs.declared.constants.TheConstants.{DW_AT_stmt_list, DW_FORM_udata}
use Rattle.dwc_base.specs.declared.records.Address.{Address}
use Rattle.dwc_base.specs.declared.faults.What.TheVariants.{AddressValue}
use Rattle.dwc_base.specs.declared.section_name.SectionName.TheVariants.{Info}
use Rattle.dwc_base.specs.declared.faults.Flaw.{Flaw}
use Rattle.dwc_base.specs.Reading.{◌>>=◌}
use Rattle.dwc_base.specs.Sections.{Fault, fault_of}
use Rattle.dwc_base.proofs.InLists.{IsIn, in-contains}
use Rattle.dwc_dwarf.specs.Values as Values
use Rattle.dwc_dwarf.specs.Values.{Value}
use Rattle.dwc_dwarf.specs.Trees.{Interval, TreeValue, constant, line_table}
use Rattle.dwc_dwarf.specs.Lists.{ListRefusal, of_place as of_list_place}
use Rattle.dwc_rules.specs.Kept.{Placed}
use Rattle.dwc_rules.specs.Drafts.{itself, made_of, DraftValue, done, goes_to}
use Rattle.dwc_rules.specs.Refusals.{Refusal}
use Rattle.dwc_rules.specs.Clones.{UnitSource, is_dropped_name, is_bound_name, is_file_name, constant_form, text_drafted, value_becomes, nothing_unless, bound_becomes, table_becomes, kept_unless, attribute_becomes, attributes_become, if_made}
use Rattle.dwc_rules.specs.RangeRules.{drafted as address_drafted, list_becomes, code_becomes, told_as}
use Rattle.dwc_rules.specs.RangeAttributes.{carried_address}
use Rattle.dwc_rules.specs.Wrappers.{is_wrapped}
use Rattle.dwc_rules.specs.LocationRules.{ExpressionSource, lists_of, expression_becomes, locations_become}
use Rattle.dwc_rules.specs.EntryRules.{of_list, of_location, rules_of_source}
use Rattle.dwc_expr.specs.WholeParts.{CompiledPartsAreWhole}
use Rattle.dwc_expr.proofs.Meaning.OperationActs.{Each}
use Rattle.dwc_carry.specs.MeaningsCarried.{ValueMeans, IsToldBounded}
use Rattle.dwc_carry.proofs.Meaning.ExpressionMeanings.{expression-value}
use Rattle.dwc_carry.proofs.Meaning.ListMeanings.{list-value}

-- what a draft of an attribute means
abbrev pub DraftMeans : ExpressionSource → Placed → ℕ × DraftValue → Type 0
DraftMeans c e (name, done v) = ValueMeans c e name v
DraftMeans c e (name, goes_to goal) = Unit {0}

-- what an attribute becomes, if it becomes something, means that
abbrev pub BecomesMeant : {E : Type 0} → ExpressionSource → Placed → ℕ → Result (Option DraftValue) E → Type 0
BecomesMeant c e name (Ok (Some d)) = DraftMeans c e (name, d)
BecomesMeant c e name (Ok None) = Unit {0}
BecomesMeant c e name (Err refusal) = Unit {0}

module _ (law : CompiledPartsAreWhole) (c : ExpressionSource) (e : Placed) (bounded : IsToldBounded c.told) (plain : is_wrapped c.told.output e ≡ false) (s : UnitSource) where
  told : {E F : Type 0} (f : E → F) (name : ℕ) (r : Result (Option DraftValue) E) → ((v : TreeValue) → r ≡ Ok (Some (done v)) → ValueMeans c e name v) → BecomesMeant c e name (told_as f r)
  told f name (Ok (Some (done v))) h = h v refl
  told f name (Ok (Some (goes_to goal))) h = tt
  told f name (Ok None) h = tt
  told f name (Err refusal) h = tt

  texts : (name : ℕ) (r : Result (Option (List ℕ)) Fault) (f : Fault → Refusal) → BecomesMeant c e name (text_drafted f r)
  texts name (Err fault) f = tt
  texts name (Ok None) f = tt
  texts name (Ok (Some bytes)) f = tt

  references : (name : ℕ) (o : Option Placed) → BecomesMeant {E = Refusal} c e name (Ok (option_map (λ (f : Placed). goes_to (made_of f.entry.offset itself)) o))
  references name None = tt
  references name (Some f) = tt

  listed : (name : ℕ) (r : Result (List Interval) ListRefusal) → BecomesMeant c e name (told_as of_list (list_becomes c.functions r))
  listed name (Ok is) = tt
  listed name (Err refusal) = tt

  value-means : (before : List (ℕ × Value)) (name : ℕ) (v : Value) → Contains e.entry.attributes (name, v) → BecomesMeant c e name (value_becomes (rules_of_source c) s e before name v)
  unfolding value_becomes code_becomes
  value-means before name (Values.constant form bits) given = go (is_file_name name) _
    where
      go : (b : Bool) (o : Option ℕ) → BecomesMeant {E = Refusal} c e name (Ok (option_map done (if b then option_map (constant DW_FORM_udata) o else Some (constant (constant_form form) bits))))
      go true None = tt
      go true (Some n) = tt
      go false o = tt
  value-means before name (Values.flag b) given = tt
  value-means before name (Values.block bytes) given = tt
  value-means before name (Values.text bytes) given = texts name _ _
  value-means before name (Values.text_reference form n) given = texts name _ _
  value-means before name (Values.unit_reference n) given = references name _
  value-means before name (Values.info_reference n) given = references name _
  value-means before name (Values.line_reference n) given = tt
  value-means before name Values.dropped given = tt
  value-means before name (Values.expression bytes) given = told (of_location c.told.place) name (expression_becomes c e before name bytes) (λ v is. expression-value law c e bounded before name bytes v given plain is)
  value-means before name (Values.location_reference n) given = go (locations_become of_list (of_location c.told.place) c e (Values.location_reference n)) refl
    where
      go : (r : Result (Option DraftValue) Refusal) → locations_become of_list (of_location c.told.place) c e (Values.location_reference n) ≡ r → BecomesMeant c e name r
      go (Ok (Some (done v))) is = list-value law c e bounded of_list (of_location c.told.place) name (Values.location_reference n) v given plain is
      go (Ok (Some (goes_to goal))) is = tt
      go (Ok None) is = tt
      go (Err refusal) is = tt
  value-means before name (Values.location_index i) given = go (locations_become of_list (of_location c.told.place) c e (Values.location_index i)) refl
    where
      go : (r : Result (Option DraftValue) Refusal) → locations_become of_list (of_location c.told.place) c e (Values.location_index i) ≡ r → BecomesMeant c e name r
      go (Ok (Some (done v))) is = list-value law c e bounded of_list (of_location c.told.place) name (Values.location_index i) v given plain is
      go (Ok (Some (goes_to goal))) is = tt
      go (Ok None) is = tt
      go (Err refusal) is = tt
  value-means before name (Values.address a) given = tt
  value-means before name (Values.address_index i) given = go ((lists_of c).indexed i)
    where
      go : (r : Result Address Flaw) → BecomesMeant {E = Refusal} c e name (told_as of_list (elim r [ Ok a ↦ Ok (address_drafted (carried_address c.functions a)) | Err flaw ↦ Err (of_list_place (fault_of AddressValue Info e.entry.offset flaw)) ]))
      go (Ok a) = tt
      go (Err flaw) = tt
  value-means before name (Values.range_reference n) given = listed name _
  value-means before name (Values.range_index i) given = listed name _

  -- what goes once it is read becomes nothing
  kept-means : (name : ℕ) (goes : Bool) (r : Result (Option DraftValue) Refusal) → BecomesMeant c e name r → BecomesMeant c e name (kept_unless goes r)
  kept-means name false r h = h
  kept-means name true (Err refusal) h = tt
  kept-means name true (Ok v) h = tt

  attribute-means : (before : List (ℕ × Value)) (a : ℕ × Value) → Contains e.entry.attributes a → BecomesMeant c e a.0 (attribute_becomes (rules_of_source c) s e before a)
  unfolding attribute_becomes bound_becomes
  attribute-means before a given = go (is_dropped_name a.0) (a.0 == DW_AT_stmt_list) (is_bound_name a.0)
    where
      table : (b : Bool) → BecomesMeant {E = Refusal} c e a.0 (Ok (if b then Some (done line_table) else None))
      table true = tt
      table false = tt

      bound : (r : Result (Option DraftValue) Refusal) (o : Option Refusal) → BecomesMeant c e a.0 (r >>= λ read. nothing_unless o)
      bound (Err refusal) o = tt
      bound (Ok read) None = tt
      bound (Ok read) (Some refusal) = tt

      go : (dropped lines bounds : Bool) → BecomesMeant c e a.0 (elim dropped [
        | true ↦ Ok None
        | false ↦ elim lines [
          | true ↦ Ok (table_becomes s e)
          | false ↦ elim bounds [ true ↦ bound_becomes (rules_of_source c) s e before a | false ↦ kept_unless ((rules_of_source c).goes e a.0) (value_becomes (rules_of_source c) s e before a.0 a.1) ]
        ]
      ])
      go true lines bounds = tt
      go false true bounds = table ((e.entry.depth == 0) && is_some s.table)
      go false false true = bound _ _
      go false false false = kept-means a.0 ((rules_of_source c).goes e a.0) (value_becomes (rules_of_source c) s e before a.0 a.1) (value-means before a.0 a.1 given)

  -- those of all attributes
  pub attributes-mean : (before as' : List (ℕ × Value)) → ((a : ℕ × Value) → IsIn a as' → IsIn a e.entry.attributes) → Each (DraftMeans c e) (filter_map (λ a. if_made a.0 a.1) (attributes_become (rules_of_source c) s e before as'))
  unfolding attributes_become
  attributes-mean before [] among = tt
  attributes-mean before (a ∷ as') among = go (attribute_becomes (rules_of_source c) s e before a) (attribute-means before a (in-contains e.entry.attributes a (among a (inl refl)))) _ (attributes-mean (before ++ (a ∷ [])) as' (λ b i. among b (inr i)))
    where
      go : (r : Result (Option DraftValue) Refusal) → BecomesMeant c e a.0 r → (ds : List (ℕ × DraftValue)) → Each (DraftMeans c e) ds → Each (DraftMeans c e) (cons_option (if_made a.0 r) ds)
      go (Ok (Some d)) h ds rest = (h, rest)
      go (Ok None) h ds rest = rest
      go (Err refusal) h ds rest = rest
