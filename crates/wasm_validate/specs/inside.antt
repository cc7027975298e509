-- What no public contract cites.
pub mod Constants
pub mod Neighbors
pub mod Signatures
