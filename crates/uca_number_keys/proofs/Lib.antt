pub mod LoneReading
pub mod DigitReading
pub mod FirstLevels
pub mod NumberOrder
pub mod TableChecks
pub mod NumericTexts
