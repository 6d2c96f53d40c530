pub mod ErrorLaws
pub mod PlaceLaws
pub mod TextLaws
pub mod NotedLaws
pub mod KnownLaws
pub mod CompiledModuleLaws
