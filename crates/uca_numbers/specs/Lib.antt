pub mod Numbers
pub mod Texts
pub mod Laws
pub mod Worked
