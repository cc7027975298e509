pub mod Grammar
pub mod Values
pub mod Instrs
pub mod Entries
pub mod Sections
pub mod inside
