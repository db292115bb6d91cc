pub mod CanonicalLineTexts
pub mod DataSteps
pub mod ElementSteps
pub mod Keeping
pub mod Taking
