-- Texts that are added to a table have their numbers there.
use Rattle.std.proofs.Common.{◌≡◌, ℕ, zero, suc, ◌+◌, ◌<◌, List, [], ◌∷◌, ◌++◌, length, map, drop, get_or, refl, ap, ap₂, sym, ◌∙◌, subst, arith, All, Bor}
use Rattle.std.specs.List.{position_or_len, list_all}
use Rattle.std.specs.Str.{bytes_eq}
use Rattle.std.proofs.lemmas.List.{append_assoc, drop_more, get_or_append_left, length-append, length-map, map-append}
use Rattle.std.proofs.lemmas.List.Elements.{All-nil, All-cons}
use Rattle.std.proofs.lemmas.Bool.{and_parts, ltb-true}
use Rattle.std.specs.Prelude.{nat_lt, true}
use Rattle.dwc_dwarf.specs.TreeLaws.{with_new_text}
use Rattle.dwc_unit.specs.declared.strings.StringId.{StringId}
use Rattle.dwc_unit.specs.TextTables.{IsText}
use Rattle.dwc_unit.specs.UsedTexts.{text_numbered}
use Rattle.dwc_source.specs.MadeValues.{Grows}
use Rattle.dwc_source.proofs.TextLaws.{added}
use Rattle.dwc_carry.specs.MadeEntries.{number_of, numbers_added, texts_added}
use Rattle.dwc_carry.proofs.MadeLaws.{grows-same, grows-twice}

-- a table grows by the texts that are added
pub texts-grow : (table : List (List ℕ)) (ts : List (List ℕ)) → Grows table (texts_added table ts)
texts-grow table [] = grows-same table
texts-grow table (t ∷ ts) = grows-twice table (with_new_text table t) (texts_added (with_new_text table t) ts) (added t table).grows (texts-grow (with_new_text table t) ts)

-- a text that is in a table is in one that has grown
kept-text : (a b : List (List ℕ)) (n : ℕ) → Grows a b → n < length a → text_numbered b n ≡ text_numbered a n
kept-text a b n grows within = ap (λ ts. text_numbered ts n) grows.is ∙ get_or_append_left a grows.more [] n within

kept-inside : (a b : List (List ℕ)) (n : ℕ) → Grows a b → n < length a → n < length b
kept-inside a b n grows within = omega (arith, within, ap length grows.is, length-append a grows.more)

-- The numbers of texts that are added are theirs.
pub numbers-named : (table : List (List ℕ)) (ts : List (List ℕ)) → map (text_numbered (texts_added table ts)) (numbers_added table ts) ≡ ts
numbers-named table [] = refl
numbers-named table (t ∷ ts) =
    let next = with_new_text table t in
    let one = added t table in
    ap₂ (λ (x : List ℕ) (xs : List (List ℕ)). x ∷ xs) (kept-text next (texts_added next ts) (position_or_len (bytes_eq t) table) (texts-grow next ts) one.inside ∙ one.is) (numbers-named next ts)

pub numbers-inside : (table : List (List ℕ)) (ts : List (List ℕ)) → All (λ n. n < length (texts_added table ts)) (numbers_added table ts)
numbers-inside table [] = All-nil (λ n. n < length table)
numbers-inside table (t ∷ ts) =
    let next = with_new_text table t in
    All-cons (λ n. n < length (texts_added next ts)) (position_or_len (bytes_eq t) table) (numbers_added next ts) (kept-inside next (texts_added next ts) (position_or_len (bytes_eq t) table) (texts-grow next ts) (added t table).inside) (numbers-inside next ts)

-- a text is plain where no byte of it is 0
pub plain-text : (t : List ℕ) → list_all (λ b. nat_lt 0 b) t ≡ true → IsText t
plain-text [] all = All-nil (λ b. 0 < b)
plain-text (b ∷ t) all = let both = and_parts (nat_lt 0 b) (list_all (λ b. nat_lt 0 b) t) all in All-cons (λ b. 0 < b) b t (ltb-true 0 b both.0) (plain-text t both.1)

-- ---- the next one of some texts

-- a text is the next of those that are left
pub next-text : (ts : List (Bor (List ℕ))) (i : ℕ) (d : Bor (List ℕ)) → i < length ts → drop i (map (λ t. t.now) ts) ≡ (get_or ts i d).now ∷ drop (i + 1) (map (λ t. t.now) ts)
next-text ts i d less =
    drop_more (map (λ (t : Bor (List ℕ)). t.now) ts) i d.now (omega (arith, less, length-map ts (λ (t : Bor (List ℕ)). t.now)))
    ∙ ap (λ x. x ∷ drop (i + 1) (map (λ (t : Bor (List ℕ)). t.now) ts)) (now-at ts i d)
  where
    now-at : (ts : List (Bor (List ℕ))) (i : ℕ) (d : Bor (List ℕ)) → get_or (map (λ t. t.now) ts) i d.now ≡ (get_or ts i d).now
    now-at [] i d = refl
    now-at (t ∷ ts) zero d = refl
    now-at (t ∷ ts) (suc i) d = now-at ts i d

-- a table with the next text, and its number behind the others
pub next-grows : (old strings next : List (List ℕ)) (t : List ℕ) → Grows old strings → next ≡ with_new_text strings t → Grows old next
next-grows old strings next t grows is = grows-twice old strings next grows (subst (Grows strings) (sym is) (added t strings).grows)

pub next-added : (strings next : List (List ℕ)) (left rest : List (List ℕ)) (t : List ℕ) → left ≡ t ∷ rest → next ≡ with_new_text strings t → texts_added next rest ≡ texts_added strings left
next-added strings next left rest t first is = ap (λ s. texts_added s rest) is ∙ ap (texts_added strings) (sym first)

pub next-numbers : (strings next : List (List ℕ)) (left rest : List (List ℕ)) (t : List ℕ) (ids more : List StringId) (id : StringId) → left ≡ t ∷ rest → next ≡ with_new_text strings t → id ≡ record { index = position_or_len (bytes_eq t) strings } → more ≡ ids ++ id ∷ []
    → map number_of more ++ numbers_added next rest ≡ map number_of ids ++ numbers_added strings left
next-numbers strings next left rest t ids more id first is number behind =
    ap (λ (xs : List StringId). map number_of xs ++ numbers_added next rest) behind
    ∙ ap (λ ns. ns ++ numbers_added next rest) (map-append number_of ids (id ∷ []))
    ∙ append_assoc (map number_of ids) (id.index ∷ []) (numbers_added next rest)
    ∙ ap₂ (λ (x : StringId) s. map number_of ids ++ (x.index ∷ numbers_added s rest)) number is
    ∙ ap (λ ts. map number_of ids ++ numbers_added strings ts) (sym first)
