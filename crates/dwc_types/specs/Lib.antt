pub mod TypeChains
pub mod TypeSteps
pub mod DerivedTypes
pub mod TypeRings
pub mod TypeReads
pub mod KeyedTypes
pub mod KnownNames
