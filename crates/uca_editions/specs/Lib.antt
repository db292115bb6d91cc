pub mod ChangeInputs
pub mod ChangeRefusals
pub mod Found
pub mod AffectedTexts
pub mod ReadChange
pub mod inside
