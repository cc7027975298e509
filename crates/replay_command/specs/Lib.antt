pub mod Texts
pub mod Report
pub mod Valid
pub mod Laws
pub mod inside
