pub mod Heads
pub mod Motions
pub mod Order
pub mod Sends
pub mod inside
