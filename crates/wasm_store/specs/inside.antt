-- What no public contract cites.
pub mod Globals
pub mod Begun
