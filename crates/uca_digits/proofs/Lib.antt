pub mod NfdDigits
pub mod NfdNumbers
