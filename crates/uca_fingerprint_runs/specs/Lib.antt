pub mod FingerprintRun
pub mod SummedFiles
pub mod Sums
pub mod inside
