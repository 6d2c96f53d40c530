-- A target, as a value.
use Rattle.std.specs.Prelude.{ℕ, Option}
use Rattle.std.proofs.Common.{refl}
use Rattle.std.specs.Coded.{Coded, codes, code_by, coded×, coded_ℕ}
use Rattle.std.specs.FinMap as finite
use Rattle.dwc_base.specs.declared.records.Endian.{Endian}
use Rattle.dwc_isa.specs.declared.architecture.Architecture.{Architecture}
use Rattle.dwc_native.specs.CallFrames.{CommonEntry}
use Rattle.dwc_isa.specs.Registers.{Registers}

-- what debug information wants to know of a target
pub record Target : Type 0 where
  pub architecture : Architecture
  pub order : Endian
  pub pointer_bytes : ℕ
  pub registers : Registers
  pub common_entry : Option CommonEntry

architecture_code : Coded Architecture
architecture_code = hlevel codes

order_code : Coded Endian
order_code = hlevel codes

entry_code : Coded (Option CommonEntry)
entry_code = hlevel codes

pub target_code : Coded Target
target_code =
    code_by (Architecture × (Endian × (ℕ × (Registers × Option CommonEntry))))
    (coded× architecture_code (coded× order_code (coded× coded_ℕ (coded× (finite.code coded_ℕ coded_ℕ) entry_code))))
    (λ t. (t.architecture, (t.order, (t.pointer_bytes, (t.registers, t.common_entry)))))
    (λ p. record { architecture = p.0; order = p.1.0; pointer_bytes = p.1.1.0; registers = p.1.1.1.0; common_entry = p.1.1.1.1 })
    (λ t. refl)
