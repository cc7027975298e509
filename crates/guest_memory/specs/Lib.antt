pub mod Laws
pub mod Limits
pub mod LittleEndian
pub mod Memory
pub mod Stamps
pub mod inside
