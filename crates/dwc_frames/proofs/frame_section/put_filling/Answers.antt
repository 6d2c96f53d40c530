use Rattle.dwc_base.specs.declared.constants.TheConstants.{DW_CFA_nop}
use Rattle.dwc_frames.proofs.FrameEntries.{fill-more}
use Rattle.dwc_frames.proofs.frame_section.put_filling.Goals as goal

pub loop-preserved : goal.loop-preserved
loop-preserved c = fill-more DW_CFA_nop c.filling-left.result c.loop.counter c.loop.out.items c.push.new.self.items _ c.loop-test.true c.in_ok-push.ensures.items c.loop.invariant
