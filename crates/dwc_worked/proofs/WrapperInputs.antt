-- Texts of small inputs with wrapped entries and object pointers.
use Rattle.std.proofs.Common.{[], ◌∷◌, ◌++◌}
use Rattle.std.specs.Prelude.{codes}
use Rattle.dwc_base.specs.declared.records.Endian.TheVariants.{Little}
use Rattle.dwc_dwarf.specs.Texts.{TextSource}

-- `f`, `int`, `char`, `this`, `S`, an empty one, `a b`, and one that is no UTF-8
abbrev pub texts : TextSource
texts = record { order = Little; strings = 0x66 ∷ 0 ∷ codes "int" ++ 0 ∷ codes "char" ++ 0 ∷ codes "this" ++ 0 ∷ codes "S" ++ 0 ∷ 0 ∷ codes "a b" ++ 0 ∷ 0x70 ∷ 0xFF ∷ 0 ∷ []; line_strings = []; offsets = []; base = 8 }
