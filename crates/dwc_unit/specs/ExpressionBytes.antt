-- The bytes of an expression, in line where they are few.
use Rattle.std.specs.Prelude.{ℕ, List}
use Rattle.dwc_unit.specs.declared.expressions.Bytes.{Bytes}
use Rattle.dwc_unit.specs.declared.expressions.Bytes.TheVariants.{Few, Many}

-- the bytes that are held
abbrev pub held_bytes : Bytes → List ℕ
held_bytes (Few bytes) = bytes
held_bytes (Many bytes) = bytes.value.items
