pub mod Parts
pub mod Reads
pub mod Value
pub mod View
pub mod inside
