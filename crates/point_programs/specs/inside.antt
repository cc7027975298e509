-- What no public contract cites.
pub mod Kept
pub mod Parsed
pub mod TreeLaws
