pub mod History
pub mod World
pub mod Laws
