use Rattle.std.proofs.Common.{◌≡◌, map}
use Rattle.dwc_wasm.specs.NamesRead.{keyed_by_local}
use Rattle.dwc_wasm.proofs.name_section.named_locals.Given as goal

-- the names so far are the entries so far
abbrev pub invariant-loop-function : goal.invariant-loop-function
invariant-loop-function l = map keyed_by_local l.named.items ≡ l.yielded
