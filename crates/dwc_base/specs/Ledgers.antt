-- Counts of steps: the number of a ledger behind some ticks, up to the end of its type. (This project's own.)
use Rattle.std.specs.Prelude.{ℕ, ◌+◌, ◌-◌, ◌^◌, min}

-- the number at which a count stays
abbrev pub last_count : ℕ
last_count = 2 ^ 64 - 1

-- a count behind one tick
abbrev pub one_more : ℕ → ℕ
one_more n = min (n + 1) last_count

-- a count behind some ticks
abbrev pub ticked : ℕ → ℕ → ℕ
ticked ticks n = min (n + ticks) last_count
