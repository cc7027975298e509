pub mod Deciding
pub mod Fault
pub mod Refusals
pub mod Shape
pub mod inside
