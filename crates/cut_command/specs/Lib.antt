pub mod Cut
pub mod Words
pub mod Valid
pub mod Laws
pub mod Promises
pub mod inside
