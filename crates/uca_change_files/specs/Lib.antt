pub mod Changes
pub mod ChangeTexts
pub mod Steps
pub mod Laws
