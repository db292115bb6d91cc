pub mod Contains
pub mod FirstRows
pub mod ImageLists
pub mod ImageTables
pub mod MovingSteps
