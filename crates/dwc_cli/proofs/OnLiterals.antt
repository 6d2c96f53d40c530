-- The definitions that stay shut, to be computed on literals.
use Rattle.std.proofs.Common.{ℕ}
use Rattle.std.specs.Fmt.{digits}
use Rattle.hex.specs.Hex.{encode_with}
use Rattle.dwc_cli.specs.Printed.{printed}

unfoldable pub printed_on_literals : ℕ
unfolding digits encode_with printed
printed_on_literals = 0
