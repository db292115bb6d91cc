pub mod EditionsRead
pub mod ChangeVerdicts
