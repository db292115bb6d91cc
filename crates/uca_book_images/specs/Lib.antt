pub mod BookImages
pub mod KeptKeys
pub mod KeptPlaces
pub mod Laws
pub mod Worked
