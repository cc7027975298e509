pub mod Replaying
pub mod AtHead
pub mod Meanings
pub mod Course
pub mod Sizes
pub mod inside
