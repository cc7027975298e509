pub mod Firing
pub mod Touch
pub mod Watched
pub mod inside
