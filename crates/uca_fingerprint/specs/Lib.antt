pub mod Fingerprints
pub mod KeyHeaders
