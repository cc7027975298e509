pub mod Points
pub mod Answer
pub mod Meanings
pub mod Session
pub mod Ticks
pub mod SameGroup
pub mod Laws
pub mod inside
