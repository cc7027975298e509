pub mod Back
pub mod Outcome
pub mod Meanings
pub mod Laws
pub mod inside
