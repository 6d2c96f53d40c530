-- The names of wrappers by the keys of types.
use Rattle.std.proofs.Common.{◌≡◌, ℕ, sym, ap, subst, ◌∙◌, List, Option, Some, None, Result, Ok, Err}
use Rattle.std.specs.Prelude.{◌==◌, ◌≢◌}
use Rattle.dwc_base.specs.declared.constants.TheConstants.{DW_TAG_pointer_type}
use Rattle.dwc_base.specs.Sections.{Fault}
use Rattle.dwc_rules.specs.Kept.{Placed}
use Rattle.dwc_rules.specs.Clones.{UnitSource}
use Rattle.dwc_rules.specs.TypeNames.{type_name}
use Rattle.dwc_rules.specs.Wrappers.{wrapper_name}
use Rattle.dwc_unit.specs.declared.strings.StringId.{StringId}
use Rattle.dwc_source.specs.declared.source.CloneSource.{CloneSource}
use Rattle.dwc_source.specs.KnownTexts.{IsNumbered}
use Rattle.dwc_source.specs.MadeValues.{Grows}
use Rattle.dwc_types.specs.declared.type_entry.TypeEntry.{TypeEntry}
use Rattle.dwc_types.specs.declared.type_key.TypeKey.{TypeKey}
use Rattle.dwc_types.specs.declared.type_key.TypeKeys.{TypeKeys}
use Rattle.dwc_types.specs.KeyedTypes.{IsKeyOf, KnowsKeys, KnowsWith, key_text}
use Rattle.dwc_types.specs.KnownNames.{IsWrapperName, NamesWrappers}
use Rattle.dwc_types.specs.TypeSteps.{IsOfType}
use Rattle.dwc_types.proofs.KeyedTypeLaws.{named-along}
use Rattle.dwc_types.proofs.NotedNameLaws.{names-wrappers}
use Rattle.dwc_types.proofs.TypeKeyLaws.{key-of-grown}

ok-is : (x y : List ℕ) → ◌≡◌ {A = Result (List ℕ) Fault} (Ok x) (Ok y) → x ≡ y
ok-is x y h = ap (λ (r : Result (List ℕ) Fault). elim r [ Ok n ↦ n | Err e ↦ x ]) h

module _ (c : CloneSource) (s : UnitSource) (texts : List (List ℕ)) (keys : TypeKeys) (first : TypeEntry) (key : TypeKey) (k : IsKeyOf c s texts keys (Some first) key) where
  -- The name of an entry of a type is that of the key of the type.
  pub key-name : (e : Placed) → IsOfType c s e first → e.entry.offset ≢ key.but → type_name s.texts s.entries e ≡ Ok (key_text k.knows.text key)
  key-name e of apart = named-along c of.number s of.source e key.but (key_text k.knows.text key) of.emitted apart (k.named of.number e of.source of.emitted of.type_is)

  pub key-numbered : (e : Placed) → IsOfType c s e first → e.entry.offset ≢ key.but → (id : StringId) → IsWrapperName s texts e id → IsNumbered texts (wrapper_name e.entry.tag (key_text k.knows.text key)) id
  key-numbered e of apart id named = subst (λ n. IsNumbered texts (wrapper_name e.entry.tag n) id) (ok-is named.name (key_text k.knows.text key) (sym named.read ∙ key-name e of apart)) named.number

  pub key-wrapper : (e : Placed) → IsOfType c s e first → e.entry.offset ≢ key.but → (id : StringId) → IsNumbered texts (wrapper_name e.entry.tag (key_text k.knows.text key)) id → IsWrapperName s texts e id
  key-wrapper e of apart id numbered = record { name = key_text k.knows.text key; read = key-name e of apart; number = numbered }

  -- So it is for all entries of that type.
  pub key-wrappers : (e : Placed) → IsOfType c s e first → (tag : ℕ) (id : StringId) → IsNumbered texts (wrapper_name tag (key_text k.knows.text key)) id → NamesWrappers c s texts (tag == DW_TAG_pointer_type) first.offset key.but id
  key-wrappers e of tag id numbered = names-wrappers c of.number s e.entry first of.source of.type_is (Some key.but) (key_text k.knows.text key) texts tag id (λ f of_f apart. key-name f of_f apart) numbered

  -- It stays so where texts are added.
  pub key-later : (more : List (List ℕ)) (after : TypeKeys) → Grows texts more → after ≡ keys → IsKeyOf c s more after (Some first) key
  key-later more after grows same = subst (λ ks. IsKeyOf c s more ks (Some first) key) (sym same) (key-of-grown c s texts more keys (Some first) key grows k)

-- The keys are known, whether one is found or not.
pub with-keys : (c : CloneSource) (s : UnitSource) (texts : List (List ℕ)) (keys : TypeKeys) (first : TypeEntry) (o : Option TypeKey) → KnowsWith c s texts keys first o → KnowsKeys c s texts keys
with-keys c s texts keys first None known = known
with-keys c s texts keys first (Some key) known = known.knows
