-- What it means that intervals of an output say where a value lies. (A law on the definitions of built expressions and of translation.
-- DWARF 4 and 5, section 2.6.)
use Rattle.std.specs.Prelude.{◌≡◌, ℕ, ◌<◌, ◌≤◌, List, true, ◌&&◌, Option, Some, is_some, All, Contains}
use Rattle.dwc_base.specs.declared.records.OutputFor.TheVariants.{Debugger}
use Rattle.dwc_native.specs.Functions.{Function, function_at}
use Rattle.dwc_dwarf.specs.Trees.{Interval}
use Rattle.dwc_native.specs.Placed.{Frame, all_placed}
use Rattle.dwc_native.specs.ScopesKept.{is_shown_in}
use Rattle.dwc_native.specs.ScopesKept.{source_of_byte, HasDistinctSources, cover_byte, IsInSome, IsInOneOf}

-- Intervals of an output say where a value lies over a scope, that needs some labels in a frame, in the functions of a module that have a
-- symbol: they lie in these functions; they cover no byte whose source lies outside all closed intervals of the scope, and none where a
-- label has no place; and of each interval of the scope every byte of its function whose source is from its begin to before its end and
-- where each label has a place. Nothing of this is said of a function in which two sources stand at one native offset. For a debugger
-- they cover exactly the bytes at which a source of the scope is shown and each label has a place, in every function.
pub record SaysWhere (fs : List Function) (frame : Option Frame) (scope : List (ℕ × ℕ)) (labels : List ℕ) (is : List Interval) : Type 0 where
  pub inside : All (IsInOneOf fs) is
  pub no_more :
      (f : Function) (byte source : ℕ) → Contains fs f → is_some f.symbol ≡ true → HasDistinctSources f → cover_byte is f.number byte ≡ true →
      source_of_byte f byte ≡ Some source → IsInSome scope source
  pub have_places : (function byte : ℕ) → cover_byte is function byte ≡ true → all_placed frame labels function byte ≡ true
  pub no_less :
      (interval : ℕ × ℕ) (f : Function) (byte source : ℕ) → Contains scope interval → function_at fs interval.0 ≡ Some f → HasDistinctSources f → byte < f.length →
      source_of_byte f byte ≡ Some source → interval.0 ≤ source → source < interval.1 → all_placed frame labels f.number byte ≡ true → cover_byte is f.number byte ≡ true
  pub exact :
      (f : Function) (byte : ℕ) → f.output ≡ Debugger → Contains fs f → is_some f.symbol ≡ true → byte < f.length →
      cover_byte is f.number byte ≡ (is_shown_in fs scope f byte && all_placed frame labels f.number byte)
