pub mod Lending
pub mod Marks
pub mod Start
pub mod Store
pub mod Suits
pub mod inside
