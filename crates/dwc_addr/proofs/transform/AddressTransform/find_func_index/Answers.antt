use Rattle.std.proofs.Common.{refl}
use Rattle.dwc_addr.specs.Starts.{IsStartTable}
use Rattle.dwc_addr.proofs.OwnerLaws.{owner-none, owner-place}
use Rattle.dwc_addr.proofs.transform.AddressTransform.find_func_index.Goals as goal

pub returns-in_err-place-clause-owner : goal.returns-in_err-place-clause-owner
returns-in_err-place-clause-owner c =
    let table : IsStartTable c.args.self.now c.deref.result.now = rw (c.deref.ensures.value, ← c.self.view_is) c.self.invariant in
    rw (c.from_residual.ensures, owner-none c.args.self.now c.args.addr (c.in_err-place.ensures c.args.self.now table)) refl

pub returns-clause-owner : goal.returns-clause-owner
returns-clause-owner c =
    let table : IsStartTable c.args.self.now c.deref.result.now = rw (c.deref.ensures.value, ← c.self.view_is) c.self.invariant in
    owner-place c.args.self.now c.args.addr c.in_ok-place.place (c.in_ok-place.ensures c.args.self.now table)
