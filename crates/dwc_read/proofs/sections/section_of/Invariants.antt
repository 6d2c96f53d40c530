use Rattle.std.proofs.Common.{◌≡◌, drop, map}
use Rattle.dwc_base.specs.Outputs.{section_view, section_named}
use Rattle.dwc_read.proofs.sections.section_of.Given as goal

-- the first of that name stands among what is left
abbrev pub invariant-loop-section : goal.invariant-loop-section
invariant-loop-section l = section_named l.name (map section_view (drop l.section-index l.sections)) ≡ section_named l.name (map section_view l.sections)
