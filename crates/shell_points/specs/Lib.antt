pub mod Points
pub mod Firing
pub mod Walking
pub mod Watching
pub mod Returning
pub mod Meanings
pub mod Laws
pub mod inside
