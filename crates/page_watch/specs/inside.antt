-- What no public contract cites.
pub mod Places
pub mod Watching
