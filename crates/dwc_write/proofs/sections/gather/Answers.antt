use Rattle.std.proofs.Common.{ap, map}
use Rattle.dwc_base.specs.Outputs.{section_view}
use Rattle.dwc_write.proofs.OutputLaws.{gathered}
use Rattle.dwc_write.proofs.sections.gather.Goals as goal

pub returns-clause-sound : goal.returns-clause-sound
returns-clause-sound c =
    λ order a i l v k n t. gathered order _ _ _ _ _ _ _ _ _ _ _ _ _ _ _ (ap (map section_view) c.in_ok-list.ensures.items) c.in_ok-push_section.ensures.sound c.in_ok-push_section-2.ensures.sound c.in_ok-push_section-3.ensures.sound c.in_ok-push_section-4.ensures.sound c.in_ok-push_section-5.ensures.sound c.in_ok-push_section-6.ensures.sound c.in_ok-push_section-7.ensures.sound a i l n v k t
