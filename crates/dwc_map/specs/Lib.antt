pub mod MapValues
pub mod MapFrames
pub mod MapFile
pub mod MapViews
pub mod ByTokens
