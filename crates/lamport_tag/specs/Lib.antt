pub mod Limits
pub mod Tag
pub mod Laws
