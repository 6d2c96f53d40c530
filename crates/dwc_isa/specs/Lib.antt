pub mod CallFrames
pub mod FlatRanges
pub mod LabelRegisters
pub mod Registers
pub mod Targets
pub mod ValueLabels
pub mod ToldModules
