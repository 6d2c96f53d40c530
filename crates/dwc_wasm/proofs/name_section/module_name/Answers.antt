use Rattle.std.proofs.Common.{◌≡◌, ◌∙◌, ap}
use Rattle.std.specs.Prelude.{List, ℕ, option_map}
use Rattle.std.specs.Borrow.{Bor}
use Rattle.dwc_base.specs.Listing.{item}
use Rattle.dwc_base.specs.Wasm.{name_at, last_of}
use Rattle.dwc_base.specs.WasmNames.{next_name_subsection}
use Rattle.dwc_wasm.specs.NamesRead.{subsection_view}
use Rattle.dwc_wasm.proofs.NameWalk.{said-start, next_name_subsection-fewer, last-more, last-done, seen-or, or-none}
use Rattle.dwc_wasm.proofs.name_section.module_name.Goals as goal

pub loop-subsection-init : goal.loop-subsection-init
loop-subsection-init c = rw (c.new-cursor.ensures) (or-none _ ∙ ap last_of (said-start 0 name_at c.args.bytes.now))

pub loop-subsection-preserved : goal.loop-subsection-preserved
loop-subsection-preserved c =
    let met : next_name_subsection c.loop-subsection.cursor ≡ item (subsection_view c.in-Some.subsection) c.next_subsection.new.cursor = rw c.in-Some.is at c.next_subsection.ensures in
    rw (c.or-found.ensures, seen-or (λ (t : Bor (List ℕ)). t.now) c.told_module.result c.loop-subsection.found, c.told_module.ensures)
    (last-more 0 name_at c.loop-subsection.cursor c.next_subsection.new.cursor (option_map (λ t. t.now) c.loop-subsection.found) _ _ met c.loop-subsection.invariant)

pub loop-subsection-smaller : goal.loop-subsection-smaller
loop-subsection-smaller c =
    let met : next_name_subsection c.loop-subsection.cursor ≡ item (subsection_view c.in-Some.subsection) c.next_subsection.new.cursor = rw c.in-Some.is at c.next_subsection.ensures in
    next_name_subsection-fewer c.loop-subsection.cursor c.next_subsection.new.cursor _ met

pub returns : goal.returns
returns c = last-done 0 name_at c.loop-subsection.cursor c.next_subsection.new.cursor (option_map (λ t. t.now) c.loop-subsection.found) _ (rw c.in_default.is at c.next_subsection.ensures) c.loop-subsection.invariant
