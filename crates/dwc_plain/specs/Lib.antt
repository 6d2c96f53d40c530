pub mod PlainRows
pub mod PlainEntries
