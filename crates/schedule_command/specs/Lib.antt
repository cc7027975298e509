pub mod Schedule
pub mod Meanings
pub mod Valid
pub mod Laws
pub mod Promises
pub mod inside
