-- What no public contract cites.
pub mod Ending
pub mod Reporting
