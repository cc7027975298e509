pub mod Shown
pub mod Headline
pub mod Promises
