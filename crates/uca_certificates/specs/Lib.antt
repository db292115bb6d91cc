pub mod Certificates
pub mod Texts
pub mod FaultText
pub mod Laws
pub mod inside
