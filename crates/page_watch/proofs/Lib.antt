pub mod AddedPlaces
pub mod AskedWatches
pub mod TouchedParts
pub mod MarkedPlaces
pub mod OneNode
pub mod WatchStays
