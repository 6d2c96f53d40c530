use Rattle.std.proofs.Common.{rules, ap, refl}
use Rattle.std.specs.Prelude.{map, FitsSigned}
use Rattle.std.specs.Int.{w32, w64}
use Rattle.std.proofs.lemmas.List.{map-append}
use Rattle.std.proofs.lemmas.Int.{to_z-of_z}
use Rattle.dwc_base.specs.Outputs.{OutputRelocation, relocation_view, function}
use Rattle.dwc_section.proofs.Whole.{after-appending, fits-wider}
use Rattle.dwc_section.proofs.writer.WriterRelocateWriter.write_address.Goals as goal

pub invariant_of-self-in-Continue-branch-3 : goal.invariant_of-self-in-Continue-branch-3
invariant_of-self-in-Continue-branch-3 c =
    let fits : FitsSigned w32 c.in-Symbol.addend = rw (c.in-Symbol.is) at c.requires.fits in
    let wide : FitsSigned w64 c.in-Symbol.addend = fits-wider c.in-Symbol.addend fits in
    let same = to_z-of_z w64 c.in-Symbol.addend wide in
    after-appending c.self.inside.order c.self.inside.body.items _ (map relocation_view c.self.inside.relocs.items) _ (record { offset = c.len-offset.result; size = c.args.size; target = function c.in-Symbol.symbol; addend = c.in-Symbol.addend })
    (rw (c.addend_bits.ensures, ap (λ (r : OutputRelocation). r.size) c.function_reloc-reloc.ensures.reloc, same) at c.in_ok-put_field-in-Symbol.ensures.body)
    (rw (c.in_ok-put_field-in-Symbol.ensures.relocs, map-append, c.function_reloc-reloc.ensures.reloc, same) refl)
    (search rules)
    (search rules)
    c.self.invariant
    fits
    c.function_reloc-reloc.ensures.target
