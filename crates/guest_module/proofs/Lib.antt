pub mod LocalLemmas
pub mod ImportLemmas
pub mod Starts
