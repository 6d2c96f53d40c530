pub mod FrameSizes
pub mod SimulatedLineLaws
