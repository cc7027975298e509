-- What no public contract cites.
pub mod Locals
pub mod Operands
pub mod Results
pub mod Views
