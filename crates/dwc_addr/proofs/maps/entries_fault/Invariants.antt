use Rattle.std.proofs.Common.{◌≡◌}
use Rattle.dwc_native.specs.Functions.{entry_fault}
use Rattle.dwc_addr.proofs.maps.entries_fault.Given as goal

-- the entries that are left have the fault of all
abbrev pub invariant-loop-code_offset : goal.invariant-loop-code_offset
invariant-loop-code_offset l = entry_fault l.start l.end l.body_len l.code l.code_offset-iterator ≡ entry_fault l.start l.end l.body_len 0 l.entries
