pub mod Vectors
pub mod NamesRead
pub mod FunctionSections
pub mod FileParts
pub mod FileTranslations
