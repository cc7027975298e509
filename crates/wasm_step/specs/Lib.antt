pub mod Burst
pub mod Fits
pub mod Laws
pub mod Pause
pub mod Reduce
pub mod Strand
pub mod inside
