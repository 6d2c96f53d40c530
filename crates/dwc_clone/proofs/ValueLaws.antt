-- What values become, and what is made of them says.
use Rattle.std.proofs.Common.{◌≡◌, ℕ, Bor, refl, sym, ap, subst, ◌∙◌, List, Bool, true, false, Option, None, Some, Result, Ok, ◌⊎◌, inl, inr}
use Rattle.std.specs.Prelude.{◌==◌, ◌&&◌, ◌||◌, not}
use Rattle.dwc_base.specs.declared.section_name.SectionName.TheVariants.{Info}
use Rattle.dwc_base.specs.declared.faults.What.TheVariants.{Text as TextRead}
use Rattle.dwc_base.specs.declared.constants.TheConstants.{DW_AT_containing_type, DW_AT_stmt_list, DW_AT_vtable_elem_location, DW_TAG_ptr_to_member_type}
use Rattle.dwc_base.specs.Sections.{reported}
use Rattle.dwc_base.specs.declared.records.Address.{Address}
use Rattle.dwc_base.specs.declared.records.OutputFor.{OutputFor}
use Rattle.dwc_base.specs.declared.records.OutputFor.TheVariants.{Default, Debugger}
use Rattle.dwc_dwarf.specs.Entries.{Entry}
use Rattle.dwc_dwarf.specs.Values.{Value, expression}
use Rattle.dwc_dwarf.specs.Texts.{TextSource, text_named}
use Rattle.dwc_rules.specs.Kept.{Placed}
use Rattle.dwc_rules.specs.Refusals.{Refusal, of_place}
use Rattle.dwc_rules.specs.Drafts.{DraftValue}
use Rattle.dwc_rules.specs.EntryRules.{code_value_becomes, is_gone, of_list, rules_of_source}
use Rattle.dwc_rules.specs.LocationRules.{ExpressionSource, lists_of}
use Rattle.dwc_rules.specs.RangeRules.{code_becomes, told_as}
use Rattle.dwc_rules.specs.Clones.{CodeRules, UnitSource, attribute_becomes, bound_becomes, is_bound_name, is_dropped_name, kept_unless, table_becomes, text_becomes, text_drafted, value_becomes}
use Rattle.dwc_read.specs.declared.value.AttributeValue.TheVariants as input
use Rattle.dwc_read.specs.declared.value.AttributeValue as values
use Rattle.dwc_read.specs.ValuesSeen.{value_view}
use Rattle.dwc_unit.specs.declared.attributes.AttributeValue.{AttributeValue}
use Rattle.dwc_source.specs.declared.places.EmittedEntry.{EmittedEntry}
use Rattle.dwc_source.specs.MadeValues.{IsMade, RefusesSo, Says, SaysMore}
use Rattle.dwc_source.proofs.TextLaws.{Grows-same}

-- What is made says what is to be said, and no text is added.
pub made-same : (places : List EmittedEntry) (number name : ℕ) (table : List (List ℕ)) (read : Result (Option DraftValue) Refusal) (draft : Option DraftValue) (v : Option AttributeValue) → read ≡ Ok draft → Says places number name table draft v → IsMade (SaysMore places number name table table) read v
made-same places number name table read draft v is says = record { drafted = draft; is = is; made = record { grows = Grows-same table; says = says } }

-- Nothing is made.
pub made-none : (places : List EmittedEntry) (number name : ℕ) (table : List (List ℕ)) (read : Result (Option DraftValue) Refusal) → read ≡ Ok None → IsMade (SaysMore places number name table table) read None
made-none places number name table read is = made-same places number name table read None None is (record { means = λ goals at. refl; fits = λ size. tt; texts = tt })

-- ---- values of several kinds

module _ (x : ExpressionSource) (s : UnitSource) (e : Placed) (before : List (ℕ × Value)) (name : ℕ) where
  abbrev becomes : values.AttributeValue → Result (Option DraftValue) Refusal
  becomes v = value_becomes (rules_of_source x) s e before name (value_view v)

  -- A text becomes what is read of it.
  pub text-becomes : (v : values.AttributeValue) (texts : TextSource) (here : ℕ) → ((b : Bor (List ℕ)) × (v ≡ input.Text b)) ⊎ ((f : ℕ) × (n : ℕ) × (v ≡ input.TextRef f n)) → s.texts ≡ texts → e.entry.offset ≡ here
      → becomes v ≡ text_drafted of_place (reported TextRead Info here (text_named texts (value_view v)))
  unfolding value_becomes
  text-becomes v texts here kind same at =
      go kind
      ∙ (ap (λ (t : TextSource). text_drafted of_place (reported TextRead Info e.entry.offset (text_named t (value_view v)))) same ∙ ap (λ (n : ℕ). text_drafted of_place (reported TextRead Info n (text_named texts (value_view v)))) at)
    where
      goal : values.AttributeValue → Type 0
      goal v = becomes v ≡ text_becomes (rules_of_source x) s e (value_view v)

      go : ((b : Bor (List ℕ)) × (v ≡ input.Text b)) ⊎ ((f : ℕ) × (n : ℕ) × (v ≡ input.TextRef f n)) → goal v
      go (inl p) = subst goal (sym p.1) refl
      go (inr p) = subst goal (sym p.2) refl

  -- A reference to a line table, and a value that is passed over, go.
  pub gone-becomes : (v : values.AttributeValue) → ((n : ℕ) × (v ≡ input.LineRef n)) ⊎ (v ≡ input.Dropped) → becomes v ≡ Ok None
  unfolding value_becomes
  gone-becomes v (inl p) = ap becomes p.1
  gone-becomes v (inr p) = ap becomes p

  -- what an address, or a range list, of the entry at an offset becomes
  abbrev by_code : ℕ → values.AttributeValue → Result (Option DraftValue) Refusal
  by_code here v = told_as of_list (code_becomes (lists_of x) x.functions here (value_view v))

  pub address-becomes : (v : values.AttributeValue) (here : ℕ) → e.entry.offset ≡ here → ((a : Address) × (v ≡ input.Addr a)) ⊎ ((n : ℕ) × (v ≡ input.AddrIndex n)) → becomes v ≡ by_code here v
  unfolding value_becomes
  address-becomes v here at kind = go kind ∙ ap (λ n. by_code n v) at
    where
      goal : values.AttributeValue → Type 0
      goal v = becomes v ≡ by_code e.entry.offset v

      go : ((a : Address) × (v ≡ input.Addr a)) ⊎ ((n : ℕ) × (v ≡ input.AddrIndex n)) → goal v
      go (inl p) = subst goal (sym p.1) refl
      go (inr p) = subst goal (sym p.1) refl

  pub list-becomes : (v : values.AttributeValue) (here : ℕ) → e.entry.offset ≡ here → ((n : ℕ) × (v ≡ input.RangeRef n)) ⊎ ((n : ℕ) × (v ≡ input.RangeIndex n)) → becomes v ≡ by_code here v
  unfolding value_becomes
  list-becomes v here at kind = go kind ∙ ap (λ n. by_code n v) at
    where
      goal : values.AttributeValue → Type 0
      goal v = becomes v ≡ by_code e.entry.offset v

      go : ((n : ℕ) × (v ≡ input.RangeRef n)) ⊎ ((n : ℕ) × (v ≡ input.RangeIndex n)) → goal v
      go (inl p) = subst goal (sym p.1) refl
      go (inr p) = subst goal (sym p.1) refl

  -- Expressions and location lists become what the rules for code say.
  pub expression-becomes : (v : values.AttributeValue) (b : Bor (List ℕ)) → v ≡ input.Exprloc b → becomes v ≡ code_value_becomes x e before name (expression b.now)
  unfolding value_becomes
  expression-becomes v b is = ap becomes is

  pub locations-becomes : (v : values.AttributeValue) → ((n : ℕ) × (v ≡ input.LocRef n)) ⊎ ((n : ℕ) × (v ≡ input.LocIndex n)) → becomes v ≡ code_value_becomes x e before name (value_view v)
  unfolding value_becomes
  locations-becomes v kind = go kind
    where
      goal : values.AttributeValue → Type 0
      goal v = becomes v ≡ code_value_becomes x e before name (value_view v)

      go : ((n : ℕ) × (v ≡ input.LocRef n)) ⊎ ((n : ℕ) × (v ≡ input.LocIndex n)) → goal v
      go (inl p) = subst goal (sym p.1) refl
      go (inr p) = subst goal (sym p.1) refl

-- ---- attributes

module _ (rules : CodeRules Refusal) (s : UnitSource) (e : Placed) (before : List (ℕ × Value)) (a : ℕ × Value) where
  -- what an attribute becomes, by what its name is
  abbrev by_name : Bool → Bool → Bool → Result (Option DraftValue) Refusal
  by_name dropped table bound = elim dropped [ true ↦ Ok None | false ↦ elim table [ true ↦ Ok (table_becomes s e) | false ↦ elim bound [ true ↦ bound_becomes rules s e before a | false ↦ kept_unless (rules.goes e a.0) (value_becomes rules s e before a.0 a.1) ] ] ]

  becomes-by_name : (dropped table bound : Bool) → is_dropped_name a.0 ≡ dropped → (a.0 == DW_AT_stmt_list) ≡ table → is_bound_name a.0 ≡ bound → attribute_becomes rules s e before a ≡ by_name dropped table bound
  unfolding attribute_becomes
  becomes-by_name dropped table bound d t b = ap (λ x. by_name x (a.0 == DW_AT_stmt_list) (is_bound_name a.0)) d ∙ (ap (λ x. by_name dropped x (is_bound_name a.0)) t ∙ ap (by_name dropped table) b)

  pub attribute-dropped : is_dropped_name a.0 ≡ true → attribute_becomes rules s e before a ≡ Ok None
  attribute-dropped d = becomes-by_name true (a.0 == DW_AT_stmt_list) (is_bound_name a.0) d refl refl

  pub attribute-table : is_dropped_name a.0 ≡ false → (a.0 == DW_AT_stmt_list) ≡ true → attribute_becomes rules s e before a ≡ Ok (table_becomes s e)
  attribute-table d t = becomes-by_name false true (is_bound_name a.0) d t refl

  pub attribute-bound : is_dropped_name a.0 ≡ false → (a.0 == DW_AT_stmt_list) ≡ false → is_bound_name a.0 ≡ true → attribute_becomes rules s e before a ≡ bound_becomes rules s e before a
  attribute-bound d t b = becomes-by_name false false true d t b

  pub attribute-value : (goes : Bool) → rules.goes e a.0 ≡ goes → is_dropped_name a.0 ≡ false → (a.0 == DW_AT_stmt_list) ≡ false → is_bound_name a.0 ≡ false → attribute_becomes rules s e before a ≡ kept_unless goes (value_becomes rules s e before a.0 a.1)
  attribute-value goes g d t b = becomes-by_name false false false d t b ∙ ap (λ x. kept_unless x (value_becomes rules s e before a.0 a.1)) g

-- A name goes in no output that is none of the two that lead a debugger astray.
pub stays-named : (output : OutputFor) (e : Entry) (name : ℕ) → (name == DW_AT_containing_type) ≡ false → (name == DW_AT_vtable_elem_location) ≡ false → is_gone output e name ≡ false
stays-named Default e name holder place = refl
stays-named Debugger e name holder place = ap (λ b. (b && not (e.tag == DW_TAG_ptr_to_member_type)) || (name == DW_AT_vtable_elem_location)) holder ∙ place

-- Of a value that goes nothing is made once it was read, and its refusal is told.
pub gone-made : (places : List EmittedEntry) (number name : ℕ) (old new : List (List ℕ)) (read : Result (Option DraftValue) Refusal) (v : Option AttributeValue) → IsMade (SaysMore places number name old new) read v → IsMade (SaysMore places number name old new) (kept_unless true read) None
gone-made places number name old new read v made = record {
  drafted = None;
  is = ap (kept_unless true) made.is;
  made = record { grows = made.made.grows; says = record { means = λ goals at. refl; fits = λ size. tt; texts = tt } };
}

pub gone-refused : (read : Result (Option DraftValue) Refusal) (o : Option Refusal) → RefusesSo read o → RefusesSo (kept_unless true read) o
gone-refused read None refused = tt
gone-refused read (Some refusal) refused = ap (kept_unless true) refused
