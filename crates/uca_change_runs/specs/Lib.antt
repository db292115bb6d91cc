pub mod ChangeFiles
pub mod ChangesRun
pub mod AuditRun
pub mod AffectedRun
pub mod BookRun
pub mod inside
