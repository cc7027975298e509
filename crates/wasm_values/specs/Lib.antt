pub mod Access
pub mod Numeric
pub mod Values
