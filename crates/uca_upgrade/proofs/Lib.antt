pub mod CertificatesInMemory
pub mod Renewed
pub mod Reading
pub mod Opened
