pub mod Books
pub mod BookTexts
pub mod Laws
pub mod Worked
pub mod inside
