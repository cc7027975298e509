pub mod EnteredFrames
pub mod InPlace
pub mod LevelEnds
pub mod FrameFunctions
pub mod StackViews
pub mod WithinLimits
pub mod Ruled
