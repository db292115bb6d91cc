pub mod Growing
pub mod Reading
pub mod Views
