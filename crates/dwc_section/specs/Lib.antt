pub mod Spelled
pub mod SpelledAddresses
pub mod Writers
pub mod RisingRelocations
