pub mod CarriedLines
pub mod OpenedTables
pub mod ImageRows
pub mod ImageSequences
pub mod RunRows
pub mod SimulatedSequences
