pub mod TextIndexLaws
pub mod TextMapLaws
pub mod SlotLaws
pub mod TextSets
