use Rattle.std.proofs.Common.{◌≡◌, ap, map}
use Rattle.std.specs.List.{flat_map}
use Rattle.std.proofs.lemmas.List.{map-append}
use Rattle.dwc_base.specs.Listing.{item}
use Rattle.dwc_base.specs.WasmVectors.{vector_at}
use Rattle.dwc_base.specs.WasmNames.{next_name_subsection, local_name_map_at}
use Rattle.dwc_wasm.specs.NamesRead.{subsection_view}
use Rattle.dwc_base.specs.TranslationNames.{local_name_view}
use Rattle.dwc_wasm.proofs.NameWalk.{said-start, next_name_subsection-fewer, told-more, told-done}
use Rattle.dwc_wasm.proofs.name_section.locals_said.Goals as goal

pub loop-subsection-init : goal.loop-subsection-init
loop-subsection-init c = rw (c.new-cursor.ensures, c.new-said.ensures.items) (ap (flat_map (λ maps. flat_map (λ names. names) maps)) (said-start 2 (vector_at local_name_map_at) c.args.bytes.now))

pub loop-subsection-preserved : goal.loop-subsection-preserved
loop-subsection-preserved c =
    let met : next_name_subsection c.loop-subsection.cursor ≡ item (subsection_view c.in-Some.subsection) c.next_subsection.new.cursor = rw c.in-Some.is at c.next_subsection.ensures in
    rw (c.in_ok-extend_from_slice.ensures.items, c.deref.ensures.value, map-append, c.in_ok-more.ensures)
    (told-more 2 (vector_at local_name_map_at) (λ maps. flat_map (λ names. names) maps) c.loop-subsection.cursor c.next_subsection.new.cursor (map local_name_view c.loop-subsection.said.items) _ _ met c.loop-subsection.invariant)

pub loop-subsection-smaller : goal.loop-subsection-smaller
loop-subsection-smaller c =
    let met : next_name_subsection c.loop-subsection.cursor ≡ item (subsection_view c.in-Some.subsection) c.next_subsection.new.cursor = rw c.in-Some.is at c.next_subsection.ensures in
    next_name_subsection-fewer c.loop-subsection.cursor c.next_subsection.new.cursor _ met

pub returns : goal.returns
returns c = told-done 2 (vector_at local_name_map_at) (λ maps. flat_map (λ names. names) maps) c.loop-subsection.cursor c.next_subsection.new.cursor (map local_name_view c.loop-subsection.said.items) _ (rw c.in_default.is at c.next_subsection.ensures) c.loop-subsection.invariant
