-- What no public contract cites.
pub mod At
pub mod Motions
pub mod Stands
pub mod Tallying
pub mod Turns
pub mod Reporting
