use Rattle.std.proofs.Common.{◌≡◌, drop, map}
use Rattle.dwc_base.specs.Abbreviations.{declaration_of}
use Rattle.dwc_read.specs.Tables.{declaration_view}
use Rattle.dwc_read.proofs.table.first_of.Given as goal

-- the first of what is left is the first of all
abbrev pub invariant-loop-declaration : goal.invariant-loop-declaration
invariant-loop-declaration l = declaration_of l.code (map declaration_view (drop l.declaration-index l.declarations)) ≡ declaration_of l.code (map declaration_view l.declarations)
