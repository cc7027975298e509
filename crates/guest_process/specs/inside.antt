-- What no public contract cites.
pub mod Advancing
pub mod Meanings
