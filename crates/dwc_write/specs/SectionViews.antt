-- The sections of an output, as a writer keeps them.
use Rattle.dwc_write.specs.declared.sections.Sections.{Sections}
use Rattle.dwc_write.specs.declared.sections.Tables.{Tables}
use Rattle.dwc_write.specs.Layouts.{AllPlaces}
use Rattle.dwc_write.specs.LayoutViews.{whole_view}
use Rattle.dwc_write.specs.SpelledOutput.{WrittenSections}

abbrev pub sections_view : Sections → WrittenSections
sections_view s = record { abbrev_section = s.abbrev; info_section = s.info; line_section = s.line; ranges_section = s.ranges; locations_section = s.locations }

-- what is laid out of all units, as places
abbrev pub tables_view : Tables → AllPlaces
tables_view t = whole_view t.layouts.now t.offsets.now t.texts.now t.names.now.texts
