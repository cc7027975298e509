-- What no public contract cites.
pub mod Counts
pub mod Playing
pub mod Shown
pub mod Answers
pub mod Said
