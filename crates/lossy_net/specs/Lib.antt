pub mod Network
pub mod inside
