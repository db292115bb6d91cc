pub mod DigitValues
pub mod FileSteps
pub mod Taking
