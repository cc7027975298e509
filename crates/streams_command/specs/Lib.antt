pub mod Streams
pub mod Positions
pub mod Laws
pub mod inside
