pub mod Crew
pub mod Locks
