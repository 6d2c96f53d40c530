use Rattle.std.proofs.Common.{◌∙◌, List, map, sym}
use Rattle.std.proofs.lemmas.Result.{IfOk-weaker}
use Rattle.dwc_native.specs.Built.{Setting}
use Rattle.dwc_native.specs.Parts.{Part}
use Rattle.dwc_expr.specs.Jumps.{FindsPads, KnowsPads}
use Rattle.dwc_expr.specs.PartViews.{part_view}
use Rattle.dwc_expr.specs.PartsToBuild.{all_parts}
use Rattle.dwc_expr.specs.RangeSettings.{setting_on}
use Rattle.dwc_expr.proofs.KnownLaws.{found-known, no-jumps}
use Rattle.dwc_expr.proofs.build.pads.pads_of.Goals as goal

pub returns-then-not-has_jump : goal.returns-then-not-has_jump
returns-then-not-has_jump g c =
    let s : Setting = setting_on c.args.setting.now ((goal.TargetIsa-dyn g c.args.isa.now).dwarf_registers c.args.isa.now.1) in
    no-jumps s (all_parts c.args.parts.now) (record { offsets = c.new.result }) (map part_view c.args.parts.now.parts.now) (sym c.has_jump.ensures ∙ c.if-not-has_jump.true)

pub returns : goal.returns
returns g c =
    let s : Setting = setting_on c.args.setting.now ((goal.TargetIsa-dyn g c.args.isa.now).dwarf_registers c.args.isa.now.1) in
    let all = all_parts c.args.parts.now in
    let parts : List Part = map part_view c.args.parts.now.parts.now in
    IfOk-weaker c.find_pads.result (FindsPads s all parts) (KnowsPads s all parts) (λ pads. found-known s all pads parts c.requires.lands) c.find_pads.ensures
