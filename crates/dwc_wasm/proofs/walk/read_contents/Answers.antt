use Rattle.std.proofs.Common.{arith}
use Rattle.dwc_base.proofs.Takes.{Leaves-at}
use Rattle.dwc_base.proofs.TakesMore.{uleb_at-leaves}
use Rattle.dwc_wasm.proofs.walk.read_contents.Goals as goal

pub imported_functions-requires : goal.imported_functions-requires
imported_functions-requires c =
    let fewer = Leaves-at c.in_ok-count-in-2.ensures (uleb_at-leaves c.args.part) in
    omega (arith, fewer, c.requires)

pub type_numbers-requires : goal.type_numbers-requires
type_numbers-requires c =
    let fewer = Leaves-at c.in_ok-count-in-3.ensures (uleb_at-leaves c.args.part) in
    omega (arith, fewer, c.requires)
