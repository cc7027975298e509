-- What no public contract cites.
pub mod Around
pub mod Begun
pub mod Members
pub mod Parts
pub mod Recorded
