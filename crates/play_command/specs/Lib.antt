pub mod Play
pub mod Outcome
pub mod Run
pub mod Valid
pub mod Laws
pub mod inside
