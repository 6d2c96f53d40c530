pub mod LowBits
pub mod LowCombinations
pub mod LowMoves
pub mod LowNumbers
pub mod OnMachines
mod WorkedRuns
