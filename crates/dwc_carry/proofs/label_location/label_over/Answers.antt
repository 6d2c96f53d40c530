use Rattle.std.proofs.Common.{refl, ap, map}
use Rattle.std.specs.Prelude.{option_map}
use Rattle.dwc_base.specs.declared.constants.TheConstants.{DW_AT_location}
use Rattle.dwc_expr.specs.Builds.{built_view, surroundings}
use Rattle.dwc_unit.specs.LocationLists.{LocationList}
use Rattle.dwc_unit.specs.Lists.{location_of}
use Rattle.dwc_extents.proofs.LocationsFit.{fits-built-over}
use Rattle.dwc_carry.proofs.label_location.label_over.Goals as goal

pub returns-clause-fits : goal.returns-clause-fits
returns-clause-fits g c = λ size.
    let fs = c.args.addr_tr.now in
    let s = surroundings fs (option_map (λ f. f.now) c.args.frame_info) ((goal.TargetIsa-dyn g c.args.isa.now).dwarf_registers c.args.isa.now.1) in
    fits-built-over fs (c.translations_are_said.ensures fs c.requires.functions) s refl c.args.scope_ranges.now _ (built_view c.in_ok-built.built) size DW_AT_location c.new.result refl c.in_ok-built.ensures.built (ap (λ (l : LocationList). map location_of l.locations.items) c.new.ensures)
