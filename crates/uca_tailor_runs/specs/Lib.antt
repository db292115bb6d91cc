pub mod AuditRun
pub mod TailorRun
