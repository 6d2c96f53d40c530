use Rattle.std.proofs.Common.{◌≡◌, ◌++◌, drop, map}
use Rattle.dwc_source.specs.MadeValues.{Grows}
use Rattle.dwc_carry.specs.MadeEntries.{number_of, numbers_added, texts_added}
use Rattle.dwc_carry.proofs.made_entries.add_texts.Given as goal

-- what is added so far, and what is left to be added, is all
abbrev pub invariant-loop-i : goal.invariant-loop-i
invariant-loop-i l = record {
  grows : Grows l.fn.strings l.strings;
  added : texts_added l.strings (drop l.i (map (λ t. t.now) l.texts)) ≡ texts_added l.fn.strings (map (λ t. t.now) l.texts);
  numbers : map number_of l.ids.items ++ numbers_added l.strings (drop l.i (map (λ t. t.now) l.texts)) ≡ numbers_added l.fn.strings (map (λ t. t.now) l.texts);
}
