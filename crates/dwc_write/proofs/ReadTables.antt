-- An abbreviation table that is spelled is read again. `table-read`: the table that a section holds at an offset, whatever stands
-- around it. `numbered-found`: the declaration of a code where codes rise from 1.
use Rattle.std.proofs.Common.{ap, ◌≡◌, ℕ, zero, suc, ◌+◌, add-zero, ◌<◌, refl, arith, List, [], ◌∷◌, ◌++◌, length, get_or, drop, Some, None, Ok, Bool, true, false, ltb, eqb, ◌∙◌, length-append}
use Rattle.std.specs.Prelude.{ℤ, pos, ◌==◌, ◌&&◌, if◌then◌else◌}
use Rattle.std.specs.List.{All, flat_map}
use Rattle.std.proofs.lemmas.Bool.{le-ltb, ne_eqb, eq-eqb}
use Rattle.std.proofs.lemmas.List.{get_or_push}
use Rattle.std.proofs.lemmas.List.Folds.{find-append}
use Rattle.std.proofs.lemmas.List.Elements.{All-weaker}
use Rattle.dwc_base.specs.declared.records.Endian.{Endian}
use Rattle.dwc_base.specs.declared.section_name.SectionName.TheVariants.{Abbrev}
use Rattle.dwc_base.specs.Reading.{sleb_at, is_64_bit, items_at}
use Rattle.dwc_base.specs.Sections.{Sections}
use Rattle.dwc_base.specs.Abbreviations.{AttributeSpec, Declaration, implicit_at, attribute_spec_at, declaration_behind, declaration_at, abbreviation_table, declaration_of}
use Rattle.dwc_base.specs.Spelling.{Spells}
use Rattle.dwc_base.specs.NumberBytes.{uleb_bytes, sleb_bytes}
use Rattle.dwc_section.specs.Spelled.{SpellsAt}
use Rattle.dwc_unit.specs.SpelledTables.{implicit_bytes, spec_bytes, flag_of, declaration_bytes, table_bytes, FitsSpec, FitsDeclaration, AreNumbered}
use Rattle.dwc_unit.proofs.ReadParts.{here, anywhere, behind, last, nothing, tested, Spells-byte, Spells-zero, Spells-uleb_bytes, Spells-sleb_bytes, Spells-items}
use Rattle.dwc_base.proofs.TakesMore.{attribute_spec_at-leaves, declaration_at-leaves}
use Rattle.dwc_base.specs.declared.constants.TheConstants.{DW_FORM_implicit_const}

implicit-reads : (order : Endian) (place form : ℕ) (z : ℤ) → is_64_bit z ≡ true → ((form == DW_FORM_implicit_const) ≡ false → z ≡ pos 0) → SpellsAt order place (implicit_at form) (implicit_bytes form z) z
unfolding implicit_at
implicit-reads order place form z small plain = go (form == DW_FORM_implicit_const) plain
  where
    go : (b : Bool) → (b ≡ false → z ≡ pos 0) → SpellsAt order place (λ u. if b then sleb_at u else Ok (pos 0, u)) (if b then sleb_bytes z else []) z
    go true plain = here place (Spells-sleb_bytes order z small)
    go false plain = rw (plain refl) nothing

pub Spells-spec : (order : Endian) (a : AttributeSpec) → FitsSpec a → Spells order attribute_spec_at (spec_bytes a) (Some a)
unfolding attribute_spec_at
Spells-spec order a fits = anywhere (λ place.
    let formed : eqb a.form 0 ≡ false = ne_eqb _ _ (λ e. absurd (omega (arith, fits.some, e))) in
    let no_end : ((a.name == 0) && (a.form == 0)) ≡ false = rw (formed) (not-both (eqb a.name 0)) in
    behind _ (here place (Spells-uleb_bytes order a.name (omega (arith, fits.name))))
    (behind _ (here _ (Spells-uleb_bytes order a.form fits.form))
    (tested _ _ _ (le-ltb _ _ fits.name)
    (last _ (implicit-reads order _ a.form a.implicit fits.implicit fits.plain) (λ u. rw (no_end) refl)))))
  where
    not-both : (b : Bool) → (b && false) ≡ false
    not-both true = refl
    not-both false = refl

specs-end : (order : Endian) → Spells order attribute_spec_at (0 ∷ 0 ∷ []) None
unfolding attribute_spec_at implicit_at
specs-end order = anywhere (λ place.
    behind _ {bs = 0 ∷ []} (here place (Spells-zero order)) (behind _ {bs = 0 ∷ []} (here _ (Spells-zero order)) nothing))

Spells-specs : (order : Endian) (xs : List AttributeSpec) → All FitsSpec xs → Spells order (items_at attribute_spec_at) (flat_map spec_bytes xs ++ 0 ∷ 0 ∷ []) xs
Spells-specs order xs fits =
    Spells-items order attribute_spec_at spec_bytes (0 ∷ 0 ∷ []) xs attribute_spec_at-leaves (All-weaker FitsSpec _ (Spells-spec order) xs fits) (specs-end order)

is_flag : (b : Bool) → (ltb 1 (flag_of b) ≡ false) × (eqb (flag_of b) 1 ≡ b)
is_flag true = (refl, refl)
is_flag false = (refl, refl)

-- the part of a declaration behind its code
declaration-rest : (order : Endian) (place code : ℕ) (d : Declaration) → FitsDeclaration d
    → SpellsAt order place (declaration_behind code) (uleb_bytes d.tag ++ ((flag_of d.has_children ∷ []) ++ (flat_map spec_bytes d.attributes ++ 0 ∷ 0 ∷ []))) (Some (record d { code = code }))
unfolding declaration_behind
declaration-rest order place code d fits =
    behind _ (here place (Spells-uleb_bytes order d.tag (omega (arith, fits.tag))))
    (tested _ _ _ (le-ltb _ _ fits.tag)
    (behind _ {bs = flag_of d.has_children ∷ []} (here _ (Spells-byte order (flag_of d.has_children)))
    (tested _ _ _ (is_flag d.has_children).0
    (last _ (here _ (Spells-specs order d.attributes fits.attributes)) (λ u. rw ((is_flag d.has_children).1) refl)))))

pub Spells-declaration : (order : Endian) (d : Declaration) → FitsDeclaration d → Spells order declaration_at (declaration_bytes d) (Some d)
unfolding declaration_at
Spells-declaration order d fits = anywhere (λ place.
    let some : eqb d.code 0 ≡ false = ne_eqb _ _ (λ e. absurd (omega (arith, fits.some, e))) in
    behind _ (here place (Spells-uleb_bytes order d.code fits.code))
    (rw (some) (declaration-rest order _ d.code d fits)))

declarations-end : (order : Endian) → Spells order declaration_at (0 ∷ []) None
unfolding declaration_at
declarations-end order = anywhere (λ place. last _ (here place (Spells-zero order)) (λ u. refl))

-- A table is read as its declarations.
pub Spells-table : (order : Endian) (ds : List Declaration) → All FitsDeclaration ds → Spells order (items_at declaration_at) (table_bytes ds) ds
Spells-table order ds fits =
    Spells-items order declaration_at declaration_bytes (0 ∷ []) ds declaration_at-leaves (All-weaker FitsDeclaration _ (Spells-declaration order) ds fits) (declarations-end order)

-- where a section holds it at an offset, whatever stands around it
pub table-read : (s : Sections) (offset : ℕ) (ds : List Declaration) (rest : List ℕ) → All FitsDeclaration ds → drop offset (s.bytes Abbrev) ≡ table_bytes ds ++ rest → abbreviation_table s offset ≡ Ok ds
unfolding abbreviation_table
table-read s offset ds rest fits stands = rw (stands, (Spells-table s.order ds fits).reads) refl

-- ---- codes that rise from 1

-- the declaration of the code at a place, for `FitsEntry`
pub numbered-found : (code : ℕ) (ds : List Declaration) (k : ℕ) (d : Declaration) → AreNumbered code ds → k < length ds → declaration_of (code + k) ds ≡ Some (get_or ds k d)
numbered-found code [] k d codes within = absurd (omega arith)
numbered-found code (e ∷ ds) zero d codes within = let is : eqb e.code code ≡ true = eq-eqb _ _ codes.0 in rw (add-zero, is) refl
numbered-found code (e ∷ ds) (suc k) d codes within =
    let first = codes.0 in
    let other : eqb e.code (code + suc k) ≡ false = ne_eqb _ _ (λ h. absurd (omega (arith, h, first))) in
    let is : suc code + k ≡ code + suc k = omega arith in
    let inner = numbered-found (suc code) ds k d codes.1 (omega arith) in
    rw (other) (rw (is) at inner)

-- ---- a table that grows while entries are given codes

-- a further declaration with the next code
pub numbered-push : (code : ℕ) (ds : List Declaration) (d : Declaration) → AreNumbered code ds → d.code ≡ code + length ds → AreNumbered code (ds ++ d ∷ [])
numbered-push code [] d codes next = (omega (arith, next), tt)
numbered-push code (e ∷ ds) d codes next = (codes.0, numbered-push (suc code) ds d codes.1 (omega (arith, next)))

-- what was declared stays so
pub declared-more : (code : ℕ) (ds : List Declaration) (d e : Declaration) → declaration_of code ds ≡ Some d → declaration_of code (ds ++ e ∷ []) ≡ Some d
declared-more code ds d e known = find-append (λ x. x.code == code) ds (e ∷ []) ∙ rw (known) refl

-- and the new one is found
pub declared-new : (code : ℕ) (ds : List Declaration) (d : Declaration) → AreNumbered code ds → d.code ≡ code + length ds → declaration_of d.code (ds ++ d ∷ []) ≡ Some d
declared-new code ds d codes next =
    let pushed = numbered-push code ds d codes next in
    let longer : length ds < length (ds ++ d ∷ []) = omega (arith, length-append ds (d ∷ [])) in
    let found = numbered-found code (ds ++ d ∷ []) (length ds) d pushed longer in
    ap (λ c. declaration_of c (ds ++ d ∷ [])) next ∙ found ∙ ap Some (get_or_push ds d d (length ds) refl)
