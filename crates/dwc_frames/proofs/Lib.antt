pub mod FrameNumbers
pub mod FrameEntries
pub mod FrameOutputs
pub mod FrameWidths
