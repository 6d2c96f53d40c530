-- Where parts are built on a range, as the definitions have it.
use Rattle.std.specs.Prelude.{None}
use Rattle.std.specs.FinMap as finite
use Rattle.dwc_native.specs.Compiled.{Memory, no_memory}
use Rattle.dwc_native.specs.Built.{Setting}
use Rattle.dwc_isa.specs.Registers.{Registers}
use Rattle.dwc_expr.specs.declared.ranges.cached_range.CachedValueLabelRange.{CachedValueLabelRange}
use Rattle.dwc_expr.specs.declared.build.setting.RangeSetting.{RangeSetting}
use Rattle.dwc_isa.specs.ToldModules.{memory_view}
use Rattle.dwc_expr.specs.LabelRanges.{location_in}

-- the places that a range tells, with the registers of a target and a linear memory
abbrev pub setting_in : CachedValueLabelRange → Registers → Memory → Setting
setting_in r registers memory = record { place = location_in r; register = λ n. finite.get registers n; memory = memory }

abbrev pub setting_on : RangeSetting → Registers → Setting
setting_on s registers = setting_in s.range.now registers (memory_view s.memory)

-- registers alone
abbrev pub with_registers : Registers → Setting
with_registers registers = record { place = λ label. None; register = λ n. finite.get registers n; memory = no_memory }

-- not even these
abbrev pub no_registers : Setting
no_registers = record { place = λ label. None; register = λ n. None; memory = no_memory }
