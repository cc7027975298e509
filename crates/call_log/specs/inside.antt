-- What no public contract cites.
pub mod Parts
pub mod Kept
