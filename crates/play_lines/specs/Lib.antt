pub mod Limits
pub mod Lines
pub mod Refusals
pub mod Meaning
pub mod Spelled
pub mod inside
