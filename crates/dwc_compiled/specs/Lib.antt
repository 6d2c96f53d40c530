pub mod AddressMaps
pub mod EmptyRecords
pub mod FunctionFrames
pub mod Gaps
