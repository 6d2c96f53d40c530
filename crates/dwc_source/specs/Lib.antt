pub mod Errors
pub mod OutputPlaces
pub mod Sources
pub mod MadeValues
pub mod CompiledModules
pub mod NotedOffsets
pub mod KnownTexts
