pub mod Session
pub mod Debug
pub mod Run
pub mod Valid
pub mod Laws
