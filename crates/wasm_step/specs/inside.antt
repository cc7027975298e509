-- What no public contract cites.
pub mod Accesses
pub mod Paused
pub mod Rules
pub mod Standing
pub mod Wanted
