-- The texts of the unit for functions without debugging information have their numbers in a table, and no zero byte.
use Rattle.std.proofs.Common.{ℕ, ◌-◌, ◌<◌, ap, ◌∙◌, arith, lit<, List, [], ◌∷◌, length}
use Rattle.std.specs.List.{AllZip, suffix_len}
use Rattle.std.proofs.lemmas.List.{get_or_append_left, length-append}
use Rattle.std.proofs.lemmas.List.Elements.{All-cons, All-nil, All-take}
use Rattle.dwc_carried.specs.UnitPaths.{before_name, cut_path, directory_before, is_slash, or_root, path_directory}
use Rattle.dwc_unit.specs.declared.strings.StringId.{StringId}
use Rattle.dwc_unit.specs.TextTables.{IsText}
use Rattle.dwc_unit.specs.UsedTexts.{text_numbered}
use Rattle.dwc_source.specs.KnownTexts.{IsNumbered}
use Rattle.dwc_source.specs.MadeValues.{Grows}

-- ---- numbers

-- A text of a table is one of a table that has grown.
pub numbered-on : (old new : List (List ℕ)) (t : List ℕ) (id : StringId) → Grows old new → IsNumbered old t id → IsNumbered new t id
numbered-on old new t id grows known =
    let within = known.inside in
    record {
      inside = omega (arith, within, ap length grows.is, length-append old grows.more);
      is = ap (λ ts. text_numbered ts id.index) grows.is ∙ get_or_append_left old grows.more [] id.index within ∙ known.is;
    }

pub all-numbered-on : (old new : List (List ℕ)) (ts : List (List ℕ)) (ids : List StringId) → Grows old new → AllZip (IsNumbered old) ts ids → AllZip (IsNumbered new) ts ids
all-numbered-on old new [] [] grows known = tt
all-numbered-on old new [] (id ∷ ids) grows known = absurd known
all-numbered-on old new (t ∷ ts) [] grows known = absurd known
all-numbered-on old new (t ∷ ts) (id ∷ ids) grows known = (numbered-on old new t id grows known.0, all-numbered-on old new ts ids grows known.1)

-- ---- paths

abbrev IsSet : ℕ → Type 0
IsSet b = 0 < b

cut-plain : (path : List ℕ) → IsText path → IsText (cut_path path)
cut-plain path plain = All-take IsSet (length path - suffix_len is_slash path) path plain

pub directory-plain : (path : List ℕ) → IsText path → IsText (path_directory path)
directory-plain path plain = before (before_name path) (All-take IsSet _ (cut_path path) (cut-plain path plain))
  where
    root : (p : List ℕ) → IsText p → IsText (or_root p)
    root [] h = All-cons IsSet 47 [] (lit< tt) (All-nil IsSet)
    root (b ∷ bs) h = h

    before : (p : List ℕ) → IsText p → IsText (directory_before p)
    before [] h = h
    before (b ∷ bs) h = root (cut_path (b ∷ bs)) (cut-plain (b ∷ bs) h)
