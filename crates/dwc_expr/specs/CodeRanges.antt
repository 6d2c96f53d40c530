-- Ranges of native code, as the definitions have them.
use Rattle.dwc_native.specs.Placed.{NativeRange}
use Rattle.dwc_expr.specs.declared.ranges.code_range.CodeRange.{CodeRange}

abbrev pub code_range_view : CodeRange → NativeRange
code_range_view r = record { function = r.function; start = r.start; end = r.end }
