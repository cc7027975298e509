pub mod Pairs
pub mod Finding
pub mod Meanings
pub mod Valid
pub mod Laws
pub mod inside
