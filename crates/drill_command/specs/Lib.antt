pub mod Ring
pub mod Rounds
pub mod Drill
pub mod Laws
pub mod inside
