pub mod Tables
pub mod Keys
pub mod Laws
pub mod inside
