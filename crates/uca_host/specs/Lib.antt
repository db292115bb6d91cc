pub mod FileCalls
pub mod NamedFiles
pub mod Statuses
pub mod Reports
pub mod Help
