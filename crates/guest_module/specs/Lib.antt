pub mod Calls
pub mod Library
pub mod Valid
pub mod Start
pub mod Laws
pub mod inside
