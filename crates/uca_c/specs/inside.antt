pub mod Crossing
pub mod HandleLending
pub mod Handles
pub mod Holding
pub mod Joining
pub mod Lending
pub mod SlotLending
pub mod TextKeys
