-- The name of a chain of types, put together from the tags of its types.
use Rattle.std.proofs.Common.{◌≡◌, ℕ, ◌+◌, ◌<◌, List, [], ◌∷◌, ◌++◌, take, get_or, length, refl, ap, sym, subst, ◌∙◌, append-nil, append_assoc}
use Rattle.std.specs.Prelude.{◌==◌, Bool, true, false, if◌then◌else◌, nat_lt, codes, Option, Some, option_map, Result, Ok, Err}
use Rattle.std.specs.List.{list_all}
use Rattle.std.proofs.lemmas.Bool.{and_parts, ltb-true}
use Rattle.std.proofs.lemmas.List.Elements.{All-append, All-cons, All-nil}
use Rattle.std.specs.Str.{is_utf8}
use Rattle.std.proofs.lemmas.List.{take_more}
use Rattle.dwc_base.specs.declared.section_name.SectionName.TheVariants.{Info}
use Rattle.dwc_base.specs.declared.faults.What.TheVariants.{BaseName, Text}
use Rattle.dwc_base.specs.declared.constants.TheConstants.{DW_AT_name, DW_TAG_array_type, DW_TAG_const_type, DW_TAG_pointer_type, DW_TAG_reference_type}
use Rattle.dwc_dwarf.specs.Entries.{attribute}
use Rattle.dwc_rules.specs.Kept.{Placed}
use Rattle.dwc_base.specs.Reading.{◌>>=◌}
use Rattle.dwc_base.specs.Sections.{Fault, reported, unreadable}
use Rattle.dwc_dwarf.specs.Texts.{TextSource, text_named}
use Rattle.dwc_rules.specs.TypeNames.{in_utf8, name_of, utf8_text}
use Rattle.dwc_dwarf.specs.Values.{Value}
use Rattle.dwc_source.specs.declared.error.CloneError.TheVariants.{Read}
use Rattle.dwc_unit.specs.TextTables.{IsText}
use Rattle.dwc_types.specs.TypeChains.{GivesRead, behind, behind_name, in_front, named_chain}

-- a type more at the end stands first behind the name
behind-push : (tags : List ℕ) (tag : ℕ) → behind (tags ++ tag ∷ []) ≡ behind_name tag ++ behind tags
behind-push [] tag = sym (append-nil (behind_name tag))
behind-push (t ∷ tags) tag = ap (λ xs. xs ++ behind_name t) (behind-push tags tag) ∙ append_assoc (behind_name tag) (behind tags) (behind_name t)

pub behind-more : (tags : List ℕ) (i d : ℕ) → i < length tags → behind (take (i + 1) tags) ≡ behind_name (get_or tags i d) ++ behind (take i tags)
behind-more tags i d within = ap behind (take_more tags i d within) ∙ behind-push (take i tags) (get_or tags i d)

-- The name of an entry is the text that was read of it, where that is UTF-8.
pub name-is : (texts : TextSource) (e : Placed) (v : Value) (t : List ℕ) (utf8 : Bool) → attribute DW_AT_name e.entry ≡ Some v → reported Text Info e.entry.offset (text_named texts v) ≡ Ok (Some t) → is_utf8 t ≡ utf8
    → name_of texts e ≡ (if utf8 then Ok (Some t) else Err (unreadable BaseName Info e.entry.offset))
name-is texts e v t utf8 at read is =
    ap (utf8_text texts e) at ∙ (ap (λ r. r >>= in_utf8 e) read ∙ ap (λ b. if b then Ok (Some t) else Err (unreadable BaseName Info e.entry.offset)) is)

-- One that is no UTF-8 is told at the entry.
pub name-refused : {X : Type 0} (view : X → List ℕ) (read : Result (Option (List ℕ)) Fault) (e : Placed) (offset : ℕ) → e.entry.offset ≡ offset → read ≡ Err (unreadable BaseName Info e.entry.offset) → GivesRead (option_map view) read (Err (Read BaseName Info offset))
name-refused view read e offset at is = subst (λ r. GivesRead (option_map view) r (Err (Read BaseName Info offset))) (sym (is ∙ ap (λ n. Err (unreadable BaseName Info n)) at)) refl

-- ---- names without a zero byte

-- not the zero byte
abbrev pub is_plain : ℕ → Bool
is_plain b = nat_lt 0 b

-- A text whose bytes all pass, as a literal's do.
pub plain-text : (t : List ℕ) → list_all is_plain t ≡ true → IsText t
plain-text [] is = All-nil (λ b. 0 < b)
plain-text (b ∷ t) is =
    let parts = and_parts (is_plain b) (list_all is_plain t) is in
    All-cons (λ b. 0 < b) b t (ltb-true 0 b parts.0) (plain-text t parts.1)

front-text : (tags : List ℕ) → IsText (in_front tags)
front-text [] = All-nil (λ b. 0 < b)
front-text (tag ∷ tags) = All-append (λ b. 0 < b) (if tag == DW_TAG_const_type then codes "const " else []) (in_front tags) (go (tag == DW_TAG_const_type)) (front-text tags)
  where
    go : (b : Bool) → IsText (if b then codes "const " else [])
    go true = plain-text (codes "const ") refl
    go false = All-nil (λ b. 0 < b)

behind-text : (tags : List ℕ) → IsText (behind tags)
behind-text [] = All-nil (λ b. 0 < b)
behind-text (tag ∷ tags) = All-append (λ b. 0 < b) (behind tags) (behind_name tag) (behind-text tags) (go (tag == DW_TAG_pointer_type) (tag == DW_TAG_reference_type) (tag == DW_TAG_array_type))
  where
    go : (b c d : Bool) → IsText (if b then codes "*" else (if c then codes "&" else (if d then codes "[]" else [])))
    go true c d = plain-text (codes "*") refl
    go false true d = plain-text (codes "&") refl
    go false false true = plain-text (codes "[]") refl
    go false false false = All-nil (λ b. 0 < b)

-- The name of a chain has none where the name of its last type has none.
pub chain-text : (tags last : List ℕ) → IsText last → IsText (named_chain tags last)
chain-text tags last text = All-append (λ b. 0 < b) (in_front tags) (last ++ behind tags) (front-text tags) (All-append (λ b. 0 < b) last (behind tags) text (behind-text tags))
