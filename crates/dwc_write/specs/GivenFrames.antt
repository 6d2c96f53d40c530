-- The frame section of an output with some units.
use Rattle.std.specs.Prelude.{List, map, Option}
use Rattle.dwc_base.specs.declared.records.Endian.{Endian}
use Rattle.dwc_output.specs.FrameSections.{frame_section_if}
use Rattle.dwc_base.specs.Outputs.{OutputSection}
use Rattle.dwc_frames.specs.declared.frames.FrameTable.{FrameTable}
use Rattle.dwc_frames.specs.Frames.{common_given, descriptions_given}
use Rattle.dwc_unit.specs.GivenUnits.{GivenUnit, ordered, size_of}

-- The section of a table, if there is one, in an output with some units, by whose first the size of an address goes.
abbrev pub given_frames : Endian → Option FrameTable → List GivenUnit → List OutputSection
given_frames order frames us = frame_section_if order (size_of (map ordered us)) (common_given frames) (descriptions_given frames)
