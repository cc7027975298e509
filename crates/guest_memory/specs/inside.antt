-- What no public contract cites.
pub mod Fields
pub mod Pages
