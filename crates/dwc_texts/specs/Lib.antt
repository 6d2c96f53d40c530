pub mod TextIndexes
