-- What no public contract cites.
pub mod Reading
pub mod Meanings
pub mod Watches
