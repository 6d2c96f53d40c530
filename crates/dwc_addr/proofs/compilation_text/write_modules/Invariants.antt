use Rattle.std.proofs.Common.{◌≡◌, ℕ, ◌++◌, List, map, drop}
use Rattle.std.specs.Fmt.{IsPlainFormatter, HasWritten}
use Rattle.dwc_addr.specs.CompilationTexts.{module_name, modules_text}
use Rattle.dwc_addr.proofs.compilation_text.write_modules.Given as goal

-- what was written so far, and the text of the modules that are left, are the whole text
abbrev pub invariant-loop-i : goal.invariant-loop-i
invariant-loop-i g l =
    (so_far : List ℕ)
    × (so_far ++ modules_text l.i (map module_name (drop l.i l.translations)) ≡ modules_text 0 (map module_name l.translations))
    × (IsPlainFormatter l.fn.f → HasWritten g.W.Write.write_str_gives l.fn.f so_far l.f)
