pub mod ReadChanges
