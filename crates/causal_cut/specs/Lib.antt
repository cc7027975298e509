pub mod Past
pub mod Meanings
pub mod Laws
pub mod inside
