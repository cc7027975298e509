pub mod Migrate
pub mod Valid
pub mod Laws
pub mod inside
