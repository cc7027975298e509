pub mod Limits
pub mod Entry
pub mod Answer
pub mod Effects
pub mod Traffic
