pub mod Points
pub mod Changes
pub mod Laws
pub mod Worked
pub mod AffectedTexts
