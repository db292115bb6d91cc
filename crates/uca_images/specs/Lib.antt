pub mod Moving
pub mod UnlistedRows
pub mod inside
