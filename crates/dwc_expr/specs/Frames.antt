-- What a function tells to expressions, as the definitions have it.
use Rattle.std.specs.Prelude.{ℕ, [], Option, option_map}
use Rattle.std.specs.Option.{unwrap_or}
use Rattle.std.specs.FinMap as finite
use Rattle.dwc_native.specs.Compiled.{Memory}
use Rattle.dwc_native.specs.Placed.{Frame}
use Rattle.dwc_isa.specs.ValueLabels.{LabelledRanges}
use Rattle.dwc_isa.specs.ToldModules.{memory_view}
use Rattle.dwc_expr.specs.declared.frame.FunctionFrameInfo.{FunctionFrameInfo}

-- a frame as it is told: by a map from labels
pub record ToldFrame : Type 0 where
  pub symbol : Option ℕ
  pub value_ranges : LabelledRanges
  pub memory : Memory

abbrev pub told_frame : FunctionFrameInfo → ToldFrame
told_frame f = record { symbol = f.symbol; value_ranges = f.value_ranges.now; memory = memory_view f.memory_offset }

-- the same as the definitions have it: a label that is not there has no ranges
abbrev pub frame_of : ToldFrame → Frame
frame_of f = record { function = f.symbol; ranges_of = λ label. unwrap_or (finite.get f.value_ranges label) []; memory = f.memory }

abbrev pub frame_view : Option FunctionFrameInfo → Option Frame
frame_view f = option_map (λ x. frame_of (told_frame x)) f
