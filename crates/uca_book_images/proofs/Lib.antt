pub mod BookImages
pub mod KeptKeys
pub mod KeptPlaces
pub mod MovedKeys
pub mod KeptBooks
