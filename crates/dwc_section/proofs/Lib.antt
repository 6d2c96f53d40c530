pub mod ReadNumbers
pub mod ReadBytes
pub mod Appended
pub mod SizedBytes
pub mod Whole
pub mod RefusalLaws
pub mod WritesLaws
pub mod LebSizes
