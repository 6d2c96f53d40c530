use Rattle.std.proofs.Common.{◌≡◌, ◌≤◌, length, take}
use Rattle.std.specs.Str.Parse.{digits_value, AllDigits}
use Rattle.dwc_map.proofs.tokens.digits_number.Given as goal

-- the bytes so far are digits, and the number is theirs
abbrev pub invariant-loop-byte : goal.invariant-loop-byte
invariant-loop-byte l = record {
  few : length l.digits ≤ 19;
  digits : AllDigits 10 (take l.byte-index l.digits);
  value : l.number ≡ digits_value 10 (take l.byte-index l.digits);
}
