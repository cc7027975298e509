-- What no public contract cites.
pub mod Finishing
pub mod Taking
