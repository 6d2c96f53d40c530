use Rattle.std.proofs.Common.{◌≡◌, arith, ap, ◌+◌}
use Rattle.std.specs.Prelude.{eqb, false}
use Rattle.std.proofs.lemmas.Bool.{ne_eqb}
use Rattle.dwc_base.specs.NumberBytes.{uleb_bytes}
use Rattle.dwc_unit.proofs.RowLaws.{extended-appended, three-appended}
use Rattle.dwc_unit.proofs.rows.put_discriminator.Goals as goal

pub returns-then-discriminator-ne0-clause-bytes : goal.returns-then-discriminator-ne0-clause-bytes
returns-then-discriminator-ne0-clause-bytes c =
    let some : eqb c.args.discriminator 0 ≡ false = ne_eqb _ _ c.if-discriminator-ne0.true in
    let e = c.uleb_length-length.ensures.length in
    rw (some) (extended-appended _ _ _ 4 (uleb_bytes c.args.discriminator) _ (three-appended _ _ _ _ _ _ _ c.push_reserved.ensures.items c.push_reserved-then-discriminator-ne0.ensures.items c.push_reserved-then-discriminator-ne0-2.ensures.items) c.put_digits.ensures.bytes (ap (λ n. 1 + n) e) (omega (arith, c.uleb_length-length.ensures.most)))
