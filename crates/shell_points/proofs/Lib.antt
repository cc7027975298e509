pub mod ExactFiring
pub mod HeldPoints
pub mod LastFiring
pub mod PointWalks
pub mod PointReads
